-- What the check of number 8 promises: contracts of src/lib.rt. The list of open binders holds, for each, where its type
-- stands; the last opened is index 0.
use Rattle.std.specs.Prelude.{◌≡◌, Option, Some, None, ◌⊎◌, Bool, true, false, List, [], ◌∷◌, ℕ, zero, suc, ◌+◌, ◌≤◌, ◌<◌, length, get_or}
use Rattle.frame.specs.Types.{Ty}
use Rattle.frame.specs.Trees.{Tree, Forest, count, nodes, nodes_in}
use Rattle.frame.specs.Tags.{Sort, predicate}
use Rattle.frame.specs.Encoding.{enc_ty, enc_tys, encs}
use Rattle.frame.specs.Reading.{frame_limit}
use Rattle.frame.specs.Places.{Ctx, push}
use Rattle.frame.specs.WellFormed.{TysWf, Wfs}
use Rattle.frame.specs.Spans.{Spans}
use Rattle.frame.specs.At.{IsAt}
use Rattle.typing.specs.Binding.{closed_tree, closed_forest}
use Rattle.heads.specs.Leaves.{LeavesAt, LeavesIn}

-- the first n entries are where the types of Γ stand, the last entry that of its first
abbrev pub Opened : List ℕ → Ctx → List ℕ → ℕ → Type 0
Opened s [] binders zero = Unit {0}
Opened s [] binders (suc n) = ⊥
Opened s (t ∷ Γ) binders zero = ⊥
Opened s (t ∷ Γ) binders (suc n) =
    let at = get_or binders n 0 in
    Spans s at (at + length (enc_ty t)) (enc_ty t) × Opened s Γ binders n

-- the entries below n are the same
abbrev pub Below : ℕ → List ℕ → List ℕ → Type 0
Below n old new = (i : ℕ) → i < n → get_or new i 0 ≡ get_or old i 0

-- the entries outside those from k up to j are the same
abbrev pub Outside : ℕ → ℕ → List ℕ → List ℕ → Type 0
Outside k j old new = (i : ℕ) → (i < k) ⊎ (j ≤ i) → get_or new i 0 ≡ get_or old i 0

-- the frame fits, each open binder has had a byte, each place two, and there is room for a binder to each byte
pub record Ready (s : List ℕ) (at depth k : ℕ) (binders leaves : List ℕ) : Type 0 where
  pub fits : length s ≤ frame_limit
  pub within : at ≤ length s
  pub opened : depth ≤ at
  pub place : k + k ≤ at
  pub binders_room : length s ≤ length binders
  pub leaves_size : length leaves ≡ 2048

-- ---- trees that stand in a row
-- m trees stand one after the other from `at` up to q
pub record Row (s : List ℕ) (at m : ℕ) (ts : Forest) (q : ℕ) : Type 0 where
  pub sorts : List Sort
  pub span : Spans s at q (encs ts)
  pub wf : Wfs ts sorts
  pub many : count ts ≡ m

-- such trees, in the context of the open binders
abbrev pub RowHere : List ℕ → ℕ → ℕ → ℕ → List ℕ → Type 0
RowHere s at m depth binders = (ts : Forest) × (Γ : Ctx) × (q : ℕ) × Row s at m ts q × Opened s Γ binders depth

-- ---- binders are opened
-- n types stand in a row from `at` on, none longer than the limit
abbrev pub BindersStand : List ℕ → ℕ → ℕ → Type 0
BindersStand s at n = (us : List Ty) × (end : ℕ) × (length us ≡ n) × Spans s at end (enc_tys us) × TysWf us

pub record OpenPost (s : List ℕ) (at n depth : ℕ) (old new : List ℕ) (r : ℕ) : Type 0 where
  pub size : length new ≡ length old
  pub kept : Below depth old new
  pub many : r ≡ depth + n
  pub by : (us : List Ty) (end : ℕ) → length us ≡ n → Spans s at end (enc_tys us) → TysWf us
      → (Γ : Ctx) → Opened s Γ old depth → Opened s (push us Γ) new r

-- ---- trees are gone over
abbrev pub bound_answer : Bool → ℕ → ℕ → Option (ℕ × ℕ)
bound_answer true q j = Some (q, j)
bound_answer false q j = None

-- from place k up to j, and in the bytes up to q: whether all indices have a binder; if so the table has their types
pub record Walked (closed : Bool) (typed : List ℕ → Type 0) (depth k j q : ℕ) (b₀ l₀ b₁ l₁ : List ℕ) (r : Option (ℕ × ℕ)) : Type 0 where
  pub answer : r ≡ bound_answer closed q j
  pub leaves : closed ≡ true → typed l₁
  pub others : Outside k j l₀ l₁
  pub kept : Below depth b₀ b₁
  pub binders_size : length b₁ ≡ length b₀
  pub leaves_size : length l₁ ≡ 2048

pub record BoundRow (s : List ℕ) (at m depth k : ℕ) (b₀ l₀ b₁ l₁ : List ℕ) (r : Option (ℕ × ℕ)) : Type 0 where
  pub by : (ts : Forest) (Γ : Ctx) (q : ℕ) → Row s at m ts q → Opened s Γ b₀ depth
      → Walked (closed_forest ts Γ) (LeavesIn ts Γ k s) depth k (k + nodes_in ts) q b₀ l₀ b₁ l₁ r

-- a whole frame: whether every bound index has a binder, and then where its type stands
pub record BindingPost (s l₀ l₁ : List ℕ) (r : Bool) : Type 0 where
  pub size : length l₁ ≡ 2048
  pub answer : (t : Tree) → IsAt s predicate 0 t (length s) → r ≡ closed_tree t []
  pub leaves : r ≡ true → (t : Tree) → IsAt s predicate 0 t (length s) → LeavesAt t [] 0 s l₁
  pub others : (t : Tree) → IsAt s predicate 0 t (length s) → Outside 0 (nodes t) l₀ l₁
