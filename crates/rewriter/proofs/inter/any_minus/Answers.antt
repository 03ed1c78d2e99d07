use Rattle.std.proofs.Common.{rules, refl, true, false}
use Rattle.std.proofs.lemmas.Iterator.{cases_from_any}
use Rattle.std.proofs.lemmas.Iterator.Consumers.{YieldsList-from_first}
use Rattle.std.proofs.lemmas.Iterator.Adapters.{serves_from_places}
use Rattle.nav.specs.PlaceTables.{Placed}
use Rattle.rewriter.specs.Inter.{MinusPost}
use Rattle.rewriter.proofs.InterTurns.{inter_tree, inter_child, any_done}
use Rattle.rewriter.proofs.inter.any_minus.Goals as goal

pub children-requires : goal.children-requires
children-requires c = inter_tree _ _ _ _ c.requires

pub any-requires-clause-callable : goal.any-requires-clause-callable
any-requires-clause-callable c =
    serves_from_places (YieldsList-from_first (λ x. x) (λ x. x) c.children.result refl) (λ x q k. search rules)
    (λ x i l e.
    let p : Placed c.args.places.now.bytes.now c.args.places.now.starts.now x = inter_child _ _ _ _ c.requires _ c.children.ensures x i l e in
    search rules)

pub returns : goal.returns
returns c =
    any_done _ _ _ _ _ c.children.ensures _
    (cases_from_any _ _ _ (λ x. MinusPost c.args.places.now.bytes.now c.args.places.now.starts.now x true)
    (λ x. MinusPost c.args.places.now.bytes.now c.args.places.now.starts.now x false) c.any.ensures.ran
    (YieldsList-from_first (λ x. x) (λ x. x) c.children.result refl) (λ x q k. search rules) (λ x q k. search rules))
