-- Number 9 as the code decides it, by the claims of a tree in prefix order (claims/specs/Table.antt): the names agree exactly if no
-- number has claims of two types (proofs/Claims.antt).
use Rattle.std.specs.Prelude.{◌≡◌, Result, Ok, Err, Option, Some, None, Bool, true, false, List, [], ◌∷◌, ◌++◌, ℕ, ◌+◌, ◌≤◌, ◌<◌, length, replicate}
use Rattle.frame.specs.Types.{Ty, given, pow}
use Rattle.frame.specs.Trees.{Head, head, Tree, node, Forest, nil, cons, count}
use Rattle.frame.specs.Tags.{Sort}
use Rattle.frame.specs.Encoding.{enc_tys, enc_head}
use Rattle.frame.specs.WellFormed.{TyWf}
use Rattle.frame.specs.Spans.{Spans}
use Rattle.typing.specs.Members.{In, All}
use Rattle.typing.specs.Identifiers.{Named, named, givens_tys, ident_of, names_agree}
use Rattle.reading.specs.Post.{Rest}
use Rattle.claims.specs.Table.{Noted}
use Rattle.identifiers.specs.declared.Stop.{Stop}
use Rattle.identifiers.specs.declared.Stop.TheVariants.{Clashed, Beyond}

-- what given sets claim
unfoldable pub powers : List ℕ → List Named
powers [] = []
powers (n ∷ ns) = named n (pow (given n)) ∷ powers ns

-- the claims of a head: those of the given sets in its types, then an identifier's own
abbrev pub claims_of : Head → List Named
claims_of (head g n us) = powers (givens_tys us) ++ ident_of g n us

-- the claims of a tree
unfoldable mutual
  pub claims : Tree → List Named
  claims (node h ks) = claims_of h ++ claims_in ks

  pub claims_in : Forest → List Named
  claims_in nil = []
  claims_in (cons t ts) = claims t ++ claims_in ts

-- ---- contracts
-- m types stand from `at` up to q
pub record TypesAt (s : List ℕ) (at m : ℕ) (us : List Ty) (q : ℕ) : Type 0 where
  pub span : Spans s at q (enc_tys us)
  pub wf : All TyWf us
  pub many : length us ≡ m

-- one of these claims has a number with no entry: so the table is not one of all two-byte numbers
pub record Unlisted (table : List ℕ) (new : List Named) : Type 0 where
  pub number : ℕ
  pub type : Ty
  pub claimed : In (named number type) new
  pub beyond : length table ≤ number
  pub low : number < 65536

-- how claims were noted that stand in the bytes up to q
abbrev pub NotedTo : List ℕ → List ℕ → List ℕ → List Named → ℕ → Result ℕ Stop → Type 0
NotedTo s before after new q (Ok p) = (p ≡ q) × Noted s before after new true
NotedTo s before after new q (Err Clashed) = Noted s before after new false
NotedTo s before after new q (Err Beyond) = Unlisted before new

pub record TypesPost (s : List ℕ) (at m : ℕ) (before after : List ℕ) (r : Result ℕ Stop) : Type 0 where
  pub by : (us : List Ty) (q : ℕ) → TypesAt s at m us q → NotedTo s before after (powers (givens_tys us)) q r

-- the node at `at`, of some that stand from there to the end
pub record NodePost (s : List ℕ) (at : ℕ) (before after : List ℕ) (r : Result ℕ Stop) : Type 0 where
  pub by : (h : Head) (ks later : Forest) (es : List Sort) → Rest s at (cons (node h ks) later) es
      → NotedTo s before after (claims_of h) (at + length (enc_head h (count ks))) r

-- a table with no claims
abbrev pub Clear : List ℕ → Type 0
Clear table = (m : ℕ) × (table ≡ replicate m 0)

-- what is answered of the names of a tree; a table of all two-byte numbers leaves none undecided
abbrev pub Decides : List ℕ → Tree → Result (Unit {0}) Stop → Type 0
Decides table t (Ok u) = true ≡ names_agree t
Decides table t (Err Clashed) = false ≡ names_agree t
Decides table t (Err Beyond) = length table < 65536

-- the same of a table of so many numbers
abbrev pub Agreed : ℕ → Tree → Option Bool → Type 0
Agreed n t (Some agree) = agree ≡ names_agree t
Agreed n t None = n < 65536
