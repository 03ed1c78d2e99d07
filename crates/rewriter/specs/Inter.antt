-- ∩ = ∅ in code: what the functions of src/inter.rt and src/inter/singles.rt ask and answer.
use Rattle.std.specs.Prelude.{◌≡◌, Bool, true, false, List, [], ℕ, ◌+◌, eqb, Option, MatchOption}
use Rattle.frame.specs.Types.{Ty}
use Rattle.frame.specs.Tags.{pick}
use Rattle.frame.specs.Trees.{head, Tree, node, Forest, nil, cons, count, nodes_in, many, sole, append}
use Rattle.frame.specs.Operators.{#SetExt, #BInter}
use Rattle.frame.specs.Places.{Ctx, found, find}
use Rattle.nav.specs.PlaceTables.{Framed, Table}
use Rattle.rules.specs.EqualsEmptySet.{is_single, single_of, any_single, is_minus, minus_of, any_minus, inter_empty}
use Rattle.decision.specs.Decision.{Means}
use Rattle.decision.specs.declared.Decision.{Decision}

-- r: the tree at place k is a set of one member, a difference
pub record SinglePost (s st : List ℕ) (k : ℕ) (r : Bool) : Type 0 where
  pub single : (t : Tree) (n : ℕ) (Γ : Ctx) (v : Tree) → Framed s t st n → find t [] k ≡ found Γ v → r ≡ is_single (single_of v)

pub record MinusPost (s st : List ℕ) (k : ℕ) (r : Bool) : Type 0 where
  pub minus : (t : Tree) (n : ℕ) (Γ : Ctx) (v : Tree) → Framed s t st n → find t [] k ≡ found Γ v → r ≡ is_minus (minus_of v)

-- at place k there is an ∩
pub record InterPre (s st nx : List ℕ) (k : ℕ) : Type 0 where
  pub t : Tree
  pub n : ℕ
  pub Γ : Ctx
  pub x : ℕ
  pub us : List Ty
  pub ks : Forest
  pub table : Table s t st nx n
  pub there : find t [] k ≡ found Γ (node (head #BInter x us) ks)

-- r: some child of the node at place k is a difference
pub record AnyMinusPost (s st nx : List ℕ) (k : ℕ) (r : Bool) : Type 0 where
  pub any : (t : Tree) (n : ℕ) (Γ : Ctx) (g x : ℕ) (us : List Ty) (ks : Forest) → Table s t st nx n
      → find t [] k ≡ found Γ (node (head g x us) ks) → r ≡ any_minus ks

-- r of the children of the node at place k are sets of one member
unfoldable pub count_singles : Forest → ℕ
count_singles nil = 0
count_singles (cons k ks) = pick (is_single (single_of k)) 1 0 + count_singles ks

pub record CountPost (s st nx : List ℕ) (k r : ℕ) : Type 0 where
  pub counted : (t : Tree) (n : ℕ) (Γ : Ctx) (g x : ℕ) (us : List Ty) (ks : Forest) → Table s t st nx n
      → find t [] k ≡ found Γ (node (head g x us) ks) → r ≡ count_singles ks

-- the first set of one member among the trees ks, which stand from place c on, is at place p
pub record SingleAt (c p : ℕ) (ks : Forest) : Type 0 where
  pub a : Tree
  pub left : Forest
  pub right : Forest
  pub is : ks ≡ append left (cons (many #SetExt (sole a)) right)
  pub none : any_single left ≡ false
  pub there : p ≡ c + nodes_in left

pub record FirstPost (s st nx : List ℕ) (k : ℕ) (r : Option ℕ) : Type 0 where
  pub first : (t : Tree) (n : ℕ) (Γ : Ctx) (g x : ℕ) (us : List Ty) (ks : Forest) → Table s t st nx n
      → find t [] k ≡ found Γ (node (head g x us) ks) → MatchOption r (any_single ks ≡ false) (λ p. SingleAt (k + 1) p ks)

-- of n operands, m are sets of one member: there is one, and there is just one other, or none of the others is such a set
abbrev pub apart_when : ℕ → ℕ → Bool
apart_when n m = pick (eqb m 0) false (pick (eqb n 2) true (eqb m 1))

-- r: the first set of one member, where the rule for these applies
pub record ApartPost (s st nx : List ℕ) (k : ℕ) (r : Option ℕ) : Type 0 where
  pub apart : (t : Tree) (n : ℕ) (Γ : Ctx) (g x : ℕ) (us : List Ty) (ks : Forest) → Table s t st nx n
      → find t [] k ≡ found Γ (node (head g x us) ks)
      → MatchOption r (apart_when (count ks) (count_singles ks) ≡ false)
      (λ p. (apart_when (count ks) (count_singles ks) ≡ true) × SingleAt (k + 1) p ks)

-- r stands for the answer at the ∩ at place k (whichever node w the rule was called for)
pub record InterPost (s st nx : List ℕ) (k : ℕ) (r : Option Decision) : Type 0 where
  pub means : (t : Tree) (n : ℕ) (Γ : Ctx) (x : ℕ) (us : List Ty) (ks : Forest) → Table s t st nx n
      → find t [] k ≡ found Γ (node (head #BInter x us) ks) → (w : Tree) (Ξ : Ctx) (kept : List ℕ) → Means t w Ξ kept r (inter_empty ks)
