-- What a function that decides by places asks and answers.
use Rattle.std.specs.Prelude.{◌≡◌, Bool, List, [], ◌∷◌, ℕ, ◌+◌, eqb, Option, Some}
use Rattle.frame.specs.Tags.{pick}
use Rattle.frame.specs.Trees.{Tree}
use Rattle.frame.specs.Sameness.{same_tree}
use Rattle.frame.specs.Places.{Ctx, found, find}
use Rattle.nav.specs.PlaceTables.{Framed, Table, TagPost}
use Rattle.rules.specs.Change.{Change}
use Rattle.decision.specs.declared.Decision.{Decision}
use Rattle.decision.specs.declared.Decision.TheVariants as D
use Rattle.decision.specs.Decision.{Means}

-- k is a place of some tree with these tables
pub record Here (s st nx : List ℕ) (k : ℕ) : Type 0 where
  pub t : Tree
  pub n : ℕ
  pub table : Table s t st nx n
  pub Γ : Ctx
  pub v : Tree
  pub there : find t [] k ≡ found Γ v

-- a and b are places of some tree, in one context
pub record HereTwo (s st nx : List ℕ) (a b : ℕ) : Type 0 where
  pub t : Tree
  pub n : ℕ
  pub table : Table s t st nx n
  pub Γ : Ctx
  pub v : Tree
  pub w : Tree
  pub first : find t [] a ≡ found Γ v
  pub second : find t [] b ≡ found Γ w

-- r stands for what the rule answers at the tree at place k (whichever node w the rule was called for)
pub record Decides (rule : Ctx → Tree → Change) (s st nx : List ℕ) (k : ℕ) (r : Option Decision) : Type 0 where
  pub means : (t : Tree) (n : ℕ) (Γ : Ctx) (v : Tree) → Table s t st nx n → find t [] k ≡ found Γ v
      → (w : Tree) (Ξ : Ctx) (kept : List ℕ) → Means t w Ξ kept r (rule Γ v)

-- the same of a rule that does not ask for the context
abbrev pub DecidesOne : (Tree → Change) → List ℕ → List ℕ → List ℕ → ℕ → Option Decision → Type 0
DecidesOne rule = Decides (λ Γ. rule)

-- the same of a rule on two trees in one context
pub record DecidesPair (rule : Ctx → Tree → Tree → Change) (s st nx : List ℕ) (a b : ℕ) (r : Option Decision) : Type 0 where
  pub means : (t : Tree) (n : ℕ) (Γ : Ctx) (v w : Tree) → Table s t st nx n → find t [] a ≡ found Γ v → find t [] b ≡ found Γ w
      → (x : Tree) (Ξ : Ctx) (kept : List ℕ) → Means t x Ξ kept r (rule Γ v w)

-- and of a rule that does not ask for the context
abbrev pub DecidesTwo : (Tree → Tree → Change) → List ℕ → List ℕ → List ℕ → ℕ → ℕ → Option Decision → Type 0
DecidesTwo rule = DecidesPair (λ Γ. rule)

-- r stands for what the rule answers at place k of whichever frame has this tag there
pub record ByTag (rule : Ctx → Tree → Change) (tag k : ℕ) (r : Option Decision) : Type 0 where
  pub decides : (s st nx : List ℕ) → TagPost s st k tag → Decides rule s st nx k r

-- the tag is none of these
abbrev pub Unlike : ℕ → List ℕ → Type 0
Unlike tag [] = Unit {0}
Unlike tag (g ∷ gs) = Unlike tag gs × (tag ≡ g → ⊥)

-- r says whether the tree at place a is what f makes of the tree at place b
pub record Compared (f : Tree → Tree) (s st : List ℕ) (a b : ℕ) (r : Bool) : Type 0 where
  pub says : (t : Tree) (n : ℕ) (Γ Δ : Ctx) (v w : Tree) → Framed s t st n → find t [] a ≡ found Γ v → find t [] b ≡ found Δ w → r ≡ same_tree v (f w)

-- ¬ of the tree at place p, by its tag: what a negation negates, or a new negation
abbrev pub negated_at : ℕ → ℕ → ℕ → Option Decision
negated_at place tag p = pick (eqb tag 701) (Some (D.Fixed place 64 (p + 1) (p + 1) p)) (Some (D.Fixed place place p p p))
