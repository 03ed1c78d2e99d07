use Prim.Native.Nat.{ℕ}
use mathlib.Core.Bool.{Bool, true, false}
use Rattle.std.proofs.Common.{rules, refl}
use Rattle.std.proofs.lemmas.Iterator.{cases_from_any}
use Rattle.std.proofs.lemmas.Iterator.Consumers.{YieldsList-from_first}
use Rattle.std.proofs.lemmas.Iterator.Adapters.{serves_from_places}
use Rattle.nav.specs.PlaceTables.{SameAtPost}
use Rattle.rules.specs.Simplify.{make_neg}
use Rattle.decision.specs.Decides.{Compared}
use Rattle.decision.proofs.Shapes.{first_tree, first_placed}
use Rattle.logic.proofs.AndTurns.{and_other, and_both, out_71, out_72, and_none}
use Rattle.logic.proofs.implication.implication_and_at.Goals as goal

pub tag_at-left-requires : goal.tag_at-left-requires
tag_at-left-requires c = first_placed c.requires

pub returns-then-left-ne-LAND : goal.returns-then-left-ne-LAND
returns-then-left-ne-LAND c = and_other _ _ _ _ _ _ c.tag_at-left.ensures c.if-left-ne-LAND.true

pub children-requires : goal.children-requires
children-requires c = first_tree c.requires

pub any-requires-clause-callable : goal.any-requires-clause-callable
any-requires-clause-callable c = serves_from_places (YieldsList-from_first (λ x. x) (λ l. l) _ refl) (λ x q k. search rules)
    (λ x i l e. let z = and_both _ _ _ _ _ _ c.tag_at-left.ensures c.if-left-ne-LAND.false _ c.children.ensures c.requires x i l e in search rules)

pub returns-then-any : goal.returns-then-any
returns-then-any c =
    let at : ℕ → Bool → Type 0 = λ x. SameAtPost c.args.places.now.bytes.now c.args.places.now.starts.now x c.args.b in
    out_71 _ _ _ _ _ _ c.tag_at-left.ensures c.if-left-ne-LAND.false _ c.children.ensures c.any.result
    (cases_from_any _ _ c.any.result (λ x. at x true) (λ x. at x false) c.any.ensures.ran
    (YieldsList-from_first (λ x. x) (λ l. l) _ refl) (λ x q k. search rules) (λ x q k. search rules)) c.if-any.true _ c.fixed.ensures

pub children-requires-2 : goal.children-requires-2
children-requires-2 c = first_tree c.requires

pub any-requires-2-clause-callable : goal.any-requires-2-clause-callable
any-requires-2-clause-callable c = serves_from_places (YieldsList-from_first (λ x. x) (λ l. l) _ refl) (λ x q k. search rules)
    (λ x i l e. let z = and_both _ _ _ _ _ _ c.tag_at-left.ensures c.if-left-ne-LAND.false _ c.children-2.ensures c.requires x i l e in search rules)

pub returns-then-any-2 : goal.returns-then-any-2
returns-then-any-2 c =
    let s = c.args.places.now.bytes.now in
    let st = c.args.places.now.starts.now in
    let at : ℕ → Bool → Type 0 = λ x. SameAtPost s st x c.args.b in
    let on : ℕ → Bool → Type 0 = λ x. Compared make_neg s st x c.args.b in
    out_72 _ _ _ _ _ _ c.tag_at-left.ensures c.if-left-ne-LAND.false _ c.children.ensures c.any.result
    (cases_from_any _ _ c.any.result (λ x. at x true) (λ x. at x false) c.any.ensures.ran
    (YieldsList-from_first (λ x. x) (λ l. l) _ refl) (λ x q k. search rules) (λ x q k. search rules)) c.if-any.false
    _ c.children-2.ensures c.any-2.result
    (cases_from_any _ _ c.any-2.result (λ x. on x true) (λ x. on x false) c.any-2.ensures.ran
    (YieldsList-from_first (λ x. x) (λ l. l) _ refl) (λ x q k. search rules) (λ x q k. search rules)) c.if-any-2.true _ c.fixed-then-any-2.ensures

pub returns : goal.returns
returns c =
    let s = c.args.places.now.bytes.now in
    let st = c.args.places.now.starts.now in
    let at : ℕ → Bool → Type 0 = λ x. SameAtPost s st x c.args.b in
    let on : ℕ → Bool → Type 0 = λ x. Compared make_neg s st x c.args.b in
    and_none _ _ _ _ _ _ c.tag_at-left.ensures c.if-left-ne-LAND.false _ c.children.ensures c.any.result
    (cases_from_any _ _ c.any.result (λ x. at x true) (λ x. at x false) c.any.ensures.ran
    (YieldsList-from_first (λ x. x) (λ l. l) _ refl) (λ x q k. search rules) (λ x q k. search rules)) c.if-any.false
    _ c.children-2.ensures c.any-2.result
    (cases_from_any _ _ c.any-2.result (λ x. on x true) (λ x. on x false) c.any-2.ensures.ran
    (YieldsList-from_first (λ x. x) (λ l. l) _ refl) (λ x q k. search rules) (λ x q k. search rules)) c.if-any-2.false
