-- What the code of src/lib.rt asks and answers.
use Rattle.std.specs.Prelude.{◌≡◌, List, [], ◌∷◌, ◌++◌, ℕ, Option, eqb}
use Rattle.frame.specs.Types.{Ty}
use Rattle.frame.specs.Trees.{head, Tree, node, Forest}
use Rattle.frame.specs.Tags.{Sort, pick}
use Rattle.frame.specs.Encoding.{enc_number, enc}
use Rattle.frame.specs.WellFormed.{Wf}
use Rattle.frame.specs.Places.{Ctx, under, found, find}
use Rattle.nav.specs.AtPlaces.{PlacesOf}
use Rattle.nav.specs.declared.Places.{Places}
use Rattle.rules.specs.Change.{Change, to}
use Rattle.put.specs.Out.{Puts}
use Rattle.decision.specs.Decision.{Bound, each_filled, EachMeans, KeptMeans, ApartMeans, WithinMeans, StandsFor, places_of}
use Rattle.decision.specs.declared.kept.KeptChild.{KeptChild}
use Rattle.decision.specs.declared.Decision.{Decision}
use Rattle.filling.specs.Operands.{HeldIn}

-- ---- heads of operators over a list
abbrev pub many_bytes : ℕ → ℕ → List ℕ
many_bytes g m = enc_number 2 g ++ (m ∷ [])

abbrev pub joined_bytes : ℕ → ℕ → List ℕ
joined_bytes g m = pick (eqb m 1) [] (many_bytes g m)

-- ---- a pattern for each of the children ks, from place c on
-- what stands at the binder's place
pub record BinderAt (t : Tree) (pattern binder : ℕ) (us : List Ty) : Type 0 where
  pub Θ : Ctx
  pub g : ℕ
  pub x : ℕ
  pub ls : Forest
  pub there : find t [] binder ≡ found Θ (node (head g x us) ls)
  pub bound : Bound pattern g

pub record FillRowPre (p : Places) (pattern k binder : ℕ) : Type 0 where
  pub t : Tree
  pub table : PlacesOf p t
  pub held : HeldIn p t
  pub Γ : Ctx
  pub g : ℕ
  pub x : ℕ
  pub vs : List Ty
  pub ks : Forest
  pub there : find t [] k ≡ found Γ (node (head g x vs) ks)
  pub us : List Ty
  pub binders : BinderAt t pattern binder us

pub record FillRowPost (p : Places) (pattern k binder : ℕ) (o q : Option (List ℕ)) : Type 0 where
  pub puts : (t : Tree) (Γ : Ctx) (g x : ℕ) (vs : List Ty) (ks : Forest) (us : List Ty) → PlacesOf p t → HeldIn p t
      → find t [] k ≡ found Γ (node (head g x vs) ks) → BinderAt t pattern binder us → Puts o q (each_filled pattern (under g vs Γ) us ks)

-- ---- a decision's subtree
-- M t c: in the tree t, the decision stands for the answer c
pub record BuildPre (M : Tree → Change → Type 0) (p : Places) : Type 0 where
  pub t : Tree
  pub table : PlacesOf p t
  pub held : HeldIn p t
  pub c : Change
  pub means : M t c

-- then the bytes of the tree that it answers are written
pub record BuildPost (M : Tree → Change → Type 0) (p : Places) (o q : Option (List ℕ)) : Type 0 where
  pub puts : (t : Tree) (c : Change) (place : ℕ) (new : Tree) → PlacesOf p t → HeldIn p t → M t c → c ≡ to place new
      → Puts o q (enc new)

abbrev pub OfEach : ℕ → ℕ → ℕ → Tree → Change → Type 0
OfEach place at binder t c = EachMeans t place at binder c

-- the tree that the decision answers is well formed: so its count fits a byte
abbrev pub Formed : Change → Type 0
Formed c = (place : ℕ) (new : Tree) → c ≡ to place new → (e : Sort) × Wf new e

pub record OfKept (k : ℕ) (kept : List KeptChild) (t : Tree) (c : Change) : Type 0 where
  pub v : Tree
  pub Γ : Ctx
  pub there : find t [] k ≡ found Γ v
  pub means : KeptMeans t v Γ (places_of kept) c
  pub formed : Formed c

abbrev pub OfApart : ℕ → ℕ → Tree → Change → Type 0
OfApart at single t c = ApartMeans t at single c

abbrev pub OfWithin : ℕ → Tree → Change → Type 0
OfWithin at t c = WithinMeans t at c

pub record OfDecision (k : ℕ) (kept : List KeptChild) (d : Decision) (t : Tree) (c : Change) : Type 0 where
  pub v : Tree
  pub Γ : Ctx
  pub there : find t [] k ≡ found Γ v
  pub means : StandsFor t v Γ (places_of kept) d c
  pub formed : Formed c
