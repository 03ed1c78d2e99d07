-- What `splice` asks and answers.
use Rattle.std.specs.Prelude.{◌≡◌, true, List, [], ℕ, Option}
use Rattle.frame.specs.Trees.{Tree}
use Rattle.frame.specs.Encoding.{enc}
use Rattle.frame.specs.Places.{Ctx, found, find, replace}
use Rattle.nav.specs.AtPlaces.{PlacesOf}
use Rattle.nav.specs.declared.Places.{Places}
use Rattle.rules.specs.Change.{to}
use Rattle.rules.specs.Dispatch.{dispatch}
use Rattle.put.specs.Out.{Wrote}
use Rattle.decision.specs.Decision.{StandsFor, places_of}
use Rattle.decision.specs.declared.kept.KeptChild.{KeptChild}
use Rattle.decision.specs.declared.Decision.{Decision}
use Rattle.filling.specs.Operands.{HeldIn}
use Rattle.step.specs.Step.{is_predicate}

-- ---- the new frame in the writer
-- in the tree t, at the predicate v at place k, the decision stands for what the rules answer
pub record Decided (t : Tree) (k : ℕ) (kept : List KeptChild) (d : Decision) : Type 0 where
  pub Γ : Ctx
  pub v : Tree
  pub there : find t [] k ≡ found Γ v
  pub is_predicate_lem : is_predicate v ≡ true
  pub means : StandsFor t v Γ (places_of kept) d (dispatch Γ v)

pub record SplicePre (p : Places) (k : ℕ) (kept : List KeptChild) (d : Decision) : Type 0 where
  pub t : Tree
  pub table : PlacesOf p t
  pub held : HeldIn p t
  pub decided : Decided t k kept d

pub record SplicePost (p : Places) (k : ℕ) (kept : List KeptChild) (d : Decision) (q : Option (List ℕ)) : Type 0 where
  pub wrote : (t : Tree) → PlacesOf p t → HeldIn p t → (x : Decided t k kept d) → (place : ℕ) (new : Tree)
      → dispatch x.Γ x.v ≡ to place new → Wrote q (enc (replace t k new))
