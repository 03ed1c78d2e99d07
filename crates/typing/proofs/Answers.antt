-- What an answer of `check` says of the check.
-- Main results: accepted_is, refused_is; check_number (a frame is refused for a refusal's number), check_refused.
use Rattle.std.proofs.Common.{◌≡◌, ℕ, Bool, true, false, List, [], Ok, Err, refl, sym, ap, ◌∙◌}
use Rattle.frame.specs.declared.refusals.Refusal.{Refusal}
use Rattle.frame.specs.declared.refusals.Refusal.TheVariants.{NoBinder, TwoTypes, BadlyTyped}
use Rattle.frame.specs.Refusals.{number, refusal, IsNumber}
use Rattle.frame.specs.Trees.{Tree, nodes}
use Rattle.frame.specs.Tags.{pick}
use Rattle.frame.specs.Reading.{Parsed, tree, bad, parse}
use Rattle.frame.proofs.BadNumbers.{bad_number}
use Rattle.frame.proofs.RefusalNumbers.{number_back}
use Rattle.typing.specs.Typing.{typed_tree}
use Rattle.typing.specs.Binding.{closed_tree}
use Rattle.typing.specs.Identifiers.{names_agree}
use Rattle.typing.specs.Check.{Checked, accepted, refused, check_tree, check_parsed, check, check_answer}

pub accepted_is : (x : Checked) (m : ℕ) → Ok m ≡ check_answer x → (t : Tree) × ((x ≡ accepted t) × (m ≡ nodes t))
accepted_is (accepted t) m e = (t, (refl, cc))
accepted_is (refused c) m e = cc

pub refused_is : (x : Checked) (r : Refusal) → Err r ≡ check_answer x → (c : ℕ) × ((x ≡ refused c) × (r ≡ refusal c))
refused_is (accepted t) r e = cc
refused_is (refused c) r e = (c, (refl, cc))

pub check_number : (s : List ℕ) (c : ℕ) → check s ≡ refused c → IsNumber c
unfolding check check_tree
check_number s c e = go (parse s) refl e
  where
    tested : (b d f : Bool) (t : Tree)
        → pick b (pick d (pick f (accepted t) (refused 10)) (refused 9)) (refused 8) ≡ refused c → IsNumber c
    tested true true true t e = cc
    tested true true false t e = (BadlyTyped, cc)
    tested true false f t e = (TwoTypes, cc)
    tested false d f t e = (NoBinder, cc)

    go : (x : Parsed) → parse s ≡ x → check_parsed x ≡ refused c → IsNumber c
    go (tree t) p e = tested (closed_tree t []) (names_agree t) (typed_tree t []) t e
    go (bad d) p e = let z : d ≡ c = cc in bad_number s c (p ∙ ap bad z)

-- the number of a frame's refusal is that of the definition
pub check_refused : (s : List ℕ) (r : Refusal) → Err r ≡ check_answer (check s) → check s ≡ refused (number r)
check_refused s r e =
    let q = refused_is (check s) r e in
    q.1.0 ∙ ap refused (sym (ap number q.1.1 ∙ number_back q.0 (check_number s q.0 q.1.0)))
