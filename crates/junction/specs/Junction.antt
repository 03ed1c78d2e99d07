-- ∧ and ∨ in code: what the functions of src/lib.rt ask and answer. "`out.contains` becomes a search over kept children that
-- leaves both loops once a child meets its opposite."
use Rattle.std.specs.Prelude.{◌≡◌, Bool, true, not, ◌&&◌, List, [], ◌∷◌, ◌⊎◌, ℕ, eqb, length, Option, Some, None}
use Rattle.frame.specs.Types.{Ty}
use Rattle.frame.specs.Trees.{head, Tree, node, Forest, nil}
use Rattle.frame.specs.Tags.{pick}
use Rattle.frame.specs.Operators.{#LAnd, #LOr, #BTrue, #BFalse}
use Rattle.frame.specs.Places.{Ctx, under, found, find}
use Rattle.frame.specs.Sameness.{same_tree}
use Rattle.nav.specs.declared.Places.{Places}
use Rattle.nav.specs.PlaceTables.{Table}
use Rattle.rules.specs.Change.{contains}
use Rattle.rules.specs.Simplify.{Kept, kept, decided, make_neg, scan, simplify_assoc_pred}
use Rattle.decision.specs.Decision.{At, places_of, Means}
use Rattle.decision.specs.declared.kept.KeptChild.{KeptChild}
use Rattle.decision.specs.declared.Decision.{Decision}
use Rattle.decision.specs.declared.Decision.TheVariants as D
use Rattle.junction.specs.declared.Literals.{Literals}
use Rattle.junction.specs.Keys.{KeyPost}

-- at place k there is an ∧ or an ∨
pub record JunctionPre (s st nx : List ℕ) (k : ℕ) : Type 0 where
  pub t : Tree
  pub n : ℕ
  pub Γ : Ctx
  pub g : ℕ
  pub x : ℕ
  pub us : List Ty
  pub ks : Forest
  pub table : Table s t st nx n
  pub there : find t [] k ≡ found Γ (node (head g x us) ks)
  pub operator : (g ≡ #LAnd) ⊎ (g ≡ #LOr)

-- the literals of an operator, with their patterns
abbrev pub literals_of : ℕ → Literals
literals_of tag =
    pick (eqb tag #LAnd) (record { neutral = #BTrue; neutral_pattern = 1; determinant = #BFalse; determinant_pattern = 2 })
    (record { neutral = #BFalse; neutral_pattern = 2; determinant = #BTrue; determinant_pattern = 1 })

-- ---- a child beside those kept
-- nothing where v is the opposite of w, else whether it is another tree
abbrev pub differ : Tree → Tree → Option Bool
differ v w = pick (same_tree v (make_neg w)) None (Some (not (same_tree v w)))

-- the same of w beside trees, where new: whether it is another tree than those before them
abbrev pub pending : Bool → Forest → Tree → Option Bool
pending new ks w = pick (contains (make_neg w) ks) None (Some (new && not (contains w ks)))

-- their keys are those of the trees at their places
abbrev pub Keyed : List ℕ → List ℕ → List ℕ → List KeptChild → Type 0
Keyed s st nx [] = Unit {0}
Keyed s st nx (child ∷ others) = KeyPost s st nx child.place child.key × Keyed s st nx others

pub record DifferPre (s st nx : List ℕ) (one child : KeptChild) : Type 0 where
  pub t : Tree
  pub n : ℕ
  pub Θ : Ctx
  pub v : Tree
  pub w : Tree
  pub table : Table s t st nx n
  pub first : find t [] one.place ≡ found Θ v
  pub second : find t [] child.place ≡ found Θ w
  pub keyed : Keyed s st nx (one ∷ child ∷ [])

pub record DifferPost (s st nx : List ℕ) (one child : KeptChild) (r : Option Bool) : Type 0 where
  pub says : (t : Tree) (n : ℕ) (Θ : Ctx) (v w : Tree) → Table s t st nx n → find t [] one.place ≡ found Θ v → find t [] child.place ≡ found Θ w
      → r ≡ differ v w

pub record NewPre (s st nx : List ℕ) (lent : List KeptChild) (child : KeptChild) : Type 0 where
  pub t : Tree
  pub n : ℕ
  pub Θ : Ctx
  pub out : Forest
  pub w : Tree
  pub table : Table s t st nx n
  pub listed : At t Θ (places_of lent) out
  pub there : find t [] child.place ≡ found Θ w
  pub keyed : Keyed s st nx (child ∷ lent)

pub record NewPost (s st nx : List ℕ) (lent : List KeptChild) (child : KeptChild) (r : Option Bool) : Type 0 where
  pub says : (t : Tree) (n : ℕ) (Θ : Ctx) (out : Forest) (w : Tree) → Table s t st nx n → At t Θ (places_of lent) out
      → find t [] child.place ≡ found Θ w → r ≡ pending true out w

-- ---- all children
-- nothing where the scan has decided, else the lent list has those that it kept. "leaves both loops once a child meets its opposite":
-- there is then nothing.
abbrev pub Absorbed : Tree → Ctx → List KeptChild → Option (Unit {0}) → Kept → Type 0
Absorbed t Θ lent None c = c ≡ decided
Absorbed t Θ lent (Some u) c = (out : Forest) × (c ≡ kept out) × At t Θ (places_of lent) out

pub record AbsorbPost (s st nx : List ℕ) (k neutral determinant : ℕ) (lent : List KeptChild) (r : Option (Unit {0})) : Type 0 where
  pub scanned : (neutral ≡ determinant → ⊥) → (t : Tree) (n : ℕ) (Γ : Ctx) (g x : ℕ) (us : List Ty) (ks : Forest) → Table s t st nx n
      → find t [] k ≡ found Γ (node (head g x us) ks) → Absorbed t (under g us Γ) lent r (scan neutral determinant ks nil)

-- the decision where those stay, of n children of the node at place k; by the pattern of the neutral literal
abbrev pub settled : List KeptChild → ℕ → ℕ → ℕ → Option Decision
settled [] k n pattern = Some (D.Fixed 63 pattern k k k)
settled (child ∷ []) k n pattern = Some (D.Fixed 64 64 child.place child.place k)
settled (child ∷ second ∷ others) k n pattern = pick (eqb (length (child ∷ second ∷ others)) n) None (Some D.Kept)

-- the decision stands for the answer of `simplify_assoc_pred`
pub record JunctionPost (s st nx : List ℕ) (k : ℕ) (lent : List KeptChild) (r : Option Decision) : Type 0 where
  pub conj : (t : Tree) (n : ℕ) (Γ : Ctx) (x : ℕ) (us : List Ty) (ks : Forest) → Table s t st nx n
      → find t [] k ≡ found Γ (node (head #LAnd x us) ks)
      → Means t (node (head #LAnd x us) ks) Γ (places_of lent) r (simplify_assoc_pred #LAnd #BTrue #BFalse ks)
  pub disj : (t : Tree) (n : ℕ) (Γ : Ctx) (x : ℕ) (us : List Ty) (ks : Forest) → Table s t st nx n
      → find t [] k ≡ found Γ (node (head #LOr x us) ks)
      → Means t (node (head #LOr x us) ks) Γ (places_of lent) r (simplify_assoc_pred #LOr #BFalse #BTrue ks)

-- ---- the same of a `Places`: over its bytes and its tables
abbrev pub JunctionAt : Places → ℕ → Type 0
JunctionAt p k = JunctionPre p.bytes.now p.starts.now p.nexts.now k

abbrev pub CanDiffer : Places → KeptChild → KeptChild → Type 0
CanDiffer p one child = DifferPre p.bytes.now p.starts.now p.nexts.now one child

abbrev pub DifferAt : Places → KeptChild → KeptChild → Option Bool → Type 0
DifferAt p one child r = DifferPost p.bytes.now p.starts.now p.nexts.now one child r

abbrev pub CanBeNew : Places → List KeptChild → KeptChild → Type 0
CanBeNew p lent child = NewPre p.bytes.now p.starts.now p.nexts.now lent child

abbrev pub NewAt : Places → List KeptChild → KeptChild → Option Bool → Type 0
NewAt p lent child r = NewPost p.bytes.now p.starts.now p.nexts.now lent child r

abbrev pub AbsorbAt : Places → ℕ → Literals → List KeptChild → Option (Unit {0}) → Type 0
AbsorbAt p k literals lent r = AbsorbPost p.bytes.now p.starts.now p.nexts.now k literals.neutral literals.determinant lent r

abbrev pub JunctionDone : Places → ℕ → List KeptChild → Option Decision → Type 0
JunctionDone p k lent r = JunctionPost p.bytes.now p.starts.now p.nexts.now k lent r
