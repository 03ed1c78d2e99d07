-- What `type_end` asks and answers: where a type ends.
use Rattle.std.specs.Prelude.{◌≡◌, List, ℕ}
use Rattle.frame.specs.Types.{Ty}
use Rattle.frame.specs.Encoding.{enc_ty}
use Rattle.frame.specs.Spans.{Spans}

-- some type stands at `at`
pub record TypeAt (s : List ℕ) (at : ℕ) : Type 0 where
  pub type : Ty
  pub end : ℕ
  pub span : Spans s at end (enc_ty type)

-- r is the end of whatever type stands there
pub record EndOf (s : List ℕ) (at r : ℕ) : Type 0 where
  pub is : (t : Ty) (e : ℕ) → Spans s at e (enc_ty t) → r ≡ e
