-- Number 10 at one node, by its rule's patterns.
-- Main result: node_judged.
use mathlib.Core.Path.{◌≡◌, refl, sym, ap, ◌∙◌}
use mathlib.Core.Bool.{Bool, true, false, ◌&&◌}
use mathlib.Core.List.{List, ◌++◌}
use Prim.Native.Nat.{ℕ}
use lib.ListN.{length}
use lib.Dec.{leb}
use Rattle.frame.specs.Types.{Ty}
use Rattle.frame.specs.Tags.{pick, class_of}
use Rattle.frame.specs.Encoding.{enc_ty}
use Rattle.frame.specs.Reading.{type_limit}
use Rattle.frame.specs.Places.{Ctx}
use Rattle.frame.specs.Sameness.{same_ty, same_tys}
use Rattle.typing.specs.Typing.{wants, result, shape, carried_ty, node_typed}
use Rattle.type_rules.specs.Patterns.{rule_at, own_types, Judged, typed, wrong, limited, judge}
use Rattle.type_rules.specs.Patterns.{Operands}
use Rattle.type_rules.proofs.PatternRules.{class_judged}
use Rattle.type_rules.proofs.CarriedShapes.{shape_class}

three : (a b c : Bool) (x : Judged) → pick a (pick b (pick c x wrong) wrong) wrong ≡ pick (a && (b && c)) x wrong
three true true true x = refl
three true true false x = refl
three true false c x = refl
three false b c x = refl

pub node_judged : (g n : ℕ) (us : List Ty) (Γ : Ctx) (ts : List Ty) (x : ℕ) → Operands (class_of g) x (length ts)
    → judge (rule_at (class_of g)) (own_types (class_of g) n us Γ ++ ts) ≡ pick (node_typed g n us Γ ts)
    (typed (enc_ty (result (class_of g) n us Γ ts))) wrong
unfolding node_typed
node_judged g n us Γ ts x h =
    let xs = enc_ty (result (class_of g) n us Γ ts) in
    let u = carried_ty us in
    class_judged n us Γ (class_of g) x ts h
    ∙ ap (λ (v : Ty). pick (same_tys ts (wants (class_of g) ts)) (pick (same_ty u v) (limited xs) wrong) wrong) (sym (shape_class g u))
    ∙ three (same_tys ts (wants (class_of g) ts)) (same_ty u (shape g u)) (leb (length xs) type_limit) (typed xs)
