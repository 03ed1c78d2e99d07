-- A refusal and its number say the same.
use Rattle.std.proofs.Common.{◌≡◌, ℕ, refl, ap, sym, ◌∙◌}
use Rattle.frame.specs.declared.refusals.Refusal.{Refusal}
use Rattle.frame.specs.declared.refusals.Refusal.TheVariants.{BadLine, BadLength, EndsInside, BadTag, BadCount, BadType, BytesFollow, NoBinder, TwoTypes, BadlyTyped, NoPlace, NoRoom}
use Rattle.frame.specs.Refusals.{number, refusal, IsNumber}

pub numbered : (r : Refusal) → refusal (number r) ≡ r
numbered BadLine = refl
numbered BadLength = refl
numbered EndsInside = refl
numbered BadTag = refl
numbered BadCount = refl
numbered BadType = refl
numbered BytesFollow = refl
numbered NoBinder = refl
numbered TwoTypes = refl
numbered BadlyTyped = refl
numbered NoPlace = refl
numbered NoRoom = refl

-- what is read back from a refusal is the number that it stands for
pub number_back : (c : ℕ) → IsNumber c → number (refusal c) ≡ c
number_back c (r, e) = ap (λ n. number (refusal n)) e ∙ (ap number (numbered r) ∙ sym e)
