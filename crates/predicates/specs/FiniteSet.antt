-- finite of a comprehension set in code: what finite_set_at of src/finite.rt asks and answers.
use Rattle.std.specs.Prelude.{◌≡◌, List, [], ℕ, Option}
use Rattle.frame.specs.Types.{Ty}
use Rattle.frame.specs.Trees.{Tree, head, node, cons, nil}
use Rattle.frame.specs.Operators.{#CSet}
use Rattle.frame.specs.Places.{Ctx, found, find}
use Rattle.nav.specs.declared.Places.{Places}
use Rattle.nav.specs.PlaceTables.{Table}
use Rattle.rules.specs.Finite.{finite_lambda}
use Rattle.decision.specs.Decision.{Means}
use Rattle.decision.specs.declared.Decision.{Decision}

-- at place k there is a comprehension set
pub record SetPre (s st nx : List ℕ) (k : ℕ) : Type 0 where
  pub t : Tree
  pub n : ℕ
  pub table : Table s t st nx n
  pub Γ : Ctx
  pub x : ℕ
  pub us : List Ty
  pub p : Tree
  pub e : Tree
  pub there : find t [] k ≡ found Γ (node (head #CSet x us) (cons p (cons e nil)))

-- r stands for what the rule answers of finite of the set
pub record SetPost (s st nx : List ℕ) (k : ℕ) (r : Option Decision) : Type 0 where
  pub means : (t : Tree) (n : ℕ) (Γ : Ctx) (x : ℕ) (us : List Ty) (p e : Tree) → Table s t st nx n
      → find t [] k ≡ found Γ (node (head #CSet x us) (cons p (cons e nil)))
      → (w : Tree) (Ξ : Ctx) (kept : List ℕ) → Means t w Ξ kept r (finite_lambda us p e)

-- ---- the same of a `Places`: over its bytes and its tables
abbrev pub SetAt : Places → ℕ → Type 0
SetAt p k = SetPre p.bytes.now p.starts.now p.nexts.now k

abbrev pub SetDecides : Places → ℕ → Option Decision → Type 0
SetDecides p k r = SetPost p.bytes.now p.starts.now p.nexts.now k r
