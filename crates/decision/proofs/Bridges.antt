-- The rules that src/ decides, back to the definitions of the rules.
use mathlib.Core.Path.{◌≡◌, refl, sym, ap, ◌∙◌}
use Rattle.frame.specs.Trees.{Tree, leaf}
use Rattle.frame.specs.Operators.{#BTrue, #BFalse}
use Rattle.frame.specs.Sameness.{same_tree}
use Rattle.rules.specs.Change.{Change, to, same, ◌or_else◌, when, is_tag}
use Rattle.rules.specs.Simplify.{make_neg, simplify_imp}
use Rattle.decision.specs.RulesAt.{imp_first, imp_and, imp_last}

pub or_assoc : (x y z : Change) → (x or_else y) or_else z ≡ x or_else (y or_else z)
or_assoc (to p u) y z = refl
or_assoc same y z = refl

-- ⇒ from its three parts
pub imp_parts : (v w : Tree) → simplify_imp v w ≡ imp_first v w or_else (imp_and v w or_else imp_last v w)
imp_parts v w =
    let x : Change = imp_and v w or_else imp_last v w in
    let a : Change = when (is_tag #BTrue v) (to 66 w) in
    let b : Change = when (is_tag #BFalse v) (to 67 (leaf #BTrue)) in
    let c : Change = when (is_tag #BTrue w) (to 68 w) in
    let d : Change = when (is_tag #BFalse w) (to 69 (make_neg v)) in
    let e : Change = when (same_tree v w) (to 70 (leaf #BTrue)) in
    sym
    (or_assoc a (b or_else (c or_else (d or_else e))) x
    ∙ ap (λ (q : Change). a or_else q)
    (or_assoc b (c or_else (d or_else e)) x
    ∙ ap (λ (q : Change). b or_else q) (or_assoc c (d or_else e) x ∙ ap (λ (q : Change). c or_else q) (or_assoc d e x))))
