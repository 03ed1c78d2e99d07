-- What the search for the first step asks and answers, by `first_step` of run/specs/Run.antt.
use Rattle.std.specs.Prelude.{◌≡◌, true, false, List, [], ℕ, Option, None, Some}
use Rattle.frame.specs.Trees.{Tree}
use Rattle.frame.specs.Places.{Ctx, found, find}
use Rattle.typing.specs.Check.{accepted, check}
use Rattle.nav.specs.AtPlaces.{PlacesOf}
use Rattle.nav.specs.declared.Places.{Places}
use Rattle.rules.specs.Dispatch.{dispatch}
use Rattle.decision.specs.Decision.{Means, places_of}
use Rattle.decision.specs.declared.Decision.{Decision}
use Rattle.decision.specs.declared.kept.KeptChild.{KeptChild}
use Rattle.step.specs.Step.{changed, is_predicate, step_tree}
use Rattle.build.specs.SplicePosts.{Decided}
use Rattle.run.specs.Run.{next, nowhere, first_step}
use Rattle.turn.specs.TurnPosts.{Gives}

-- ---- what the rules decide at a place: nothing at an expression
pub record AtPost (p : Places) (k : ℕ) (lent : List KeptChild) (r : Option Decision) : Type 0 where
  pub means : (t : Tree) (Γ : Ctx) (v : Tree) → PlacesOf p t → find t [] k ≡ found Γ v → is_predicate v ≡ true → Means t v Γ (places_of lent) r (dispatch Γ v)
  pub rests : (t : Tree) (Γ : Ctx) (v : Tree) → PlacesOf p t → find t [] k ≡ found Γ v → is_predicate v ≡ false → r ≡ None

-- ---- the search
pub record SearchPre (p : Places) : Type 0 where
  pub t : Tree
  pub table : PlacesOf p t

-- "A run steps at the first place in prefix order where a rule applies": that is place k of t, and d is decided there
pub record FirstAt (t : Tree) (k : ℕ) (lent : List KeptChild) (d : Decision) : Type 0 where
  pub decided : Decided t k lent d
  pub first : (place : ℕ) (u : Tree) → step_tree t k ≡ changed place u → first_step t ≡ next u

abbrev pub Finds : Tree → List KeptChild → Option (ℕ × Decision) → Type 0
Finds t lent None = first_step t ≡ nowhere
Finds t lent (Some (k, d)) = FirstAt t k lent d

pub record SearchPost (p : Places) (lent : List KeptChild) (r : Option (ℕ × Decision)) : Type 0 where
  pub finds : (t : Tree) → PlacesOf p t → Finds t lent r

-- ---- the first step
abbrev pub FirstPre : List ℕ → Type 0
FirstPre s = (t : Tree) × (check s ≡ accepted t)

pub record FirstPost (s : List ℕ) (x : Option (Option (List ℕ))) : Type 0 where
  pub gives : (t : Tree) → check s ≡ accepted t → Gives x (first_step t)
