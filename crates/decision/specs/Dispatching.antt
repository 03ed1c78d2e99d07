-- Which rules a predicate node goes to: what the functions of rewriter/src/node.rt and rewriter/src/dispatch.rt ask and answer.
use Rattle.std.specs.Prelude.{◌≡◌, List, [], ℕ, Option}
use Rattle.frame.specs.Trees.{Tree}
use Rattle.frame.specs.Places.{Ctx, found, find}
use Rattle.nav.specs.PlaceTables.{Table}
use Rattle.rules.specs.Change.{Change}
use Rattle.rules.specs.Simplify.{simplify_predicate_node}
use Rattle.rules.specs.Dispatch.{dispatch}
use Rattle.decision.specs.declared.Decision.{Decision}
use Rattle.decision.specs.declared.kept.KeptChild.{KeptChild}
use Rattle.decision.specs.Decision.{places_of, Means}

-- r stands for what the rule answers at the tree at place k; where it keeps children, the lent list has them
pub record DecidesInto (rule : Ctx → Tree → Change) (s st nx : List ℕ) (k : ℕ) (lent : List KeptChild) (r : Option Decision) : Type 0 where
  pub means : (t : Tree) (n : ℕ) (Γ : Ctx) (v : Tree) → Table s t st nx n → find t [] k ≡ found Γ v → Means t v Γ (places_of lent) r (rule Γ v)

-- the answer of logic, and of all the rules
abbrev pub NodePost : List ℕ → List ℕ → List ℕ → ℕ → List KeptChild → Option Decision → Type 0
NodePost = DecidesInto (λ Γ. simplify_predicate_node)

abbrev pub DispatchPost : List ℕ → List ℕ → List ℕ → ℕ → List KeptChild → Option Decision → Type 0
DispatchPost = DecidesInto dispatch
