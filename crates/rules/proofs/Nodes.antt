-- Nodes of accepted trees, put together and taken apart, whatever their tag.
-- Main definitions: Is (a tree that is accepted and has this type), Are (children), Each (all of one type).
-- Main results: build (a node from its children), opened (the children from a node), predicate_type (an accepted
-- predicate's type is bool), these_head, counted_head, binding_head (heads with no type of their own).
use mathlib.Core.Path.{◌≡◌, refl, ap₂}
use mathlib.Core.Bool.{true, ◌&&◌}
use mathlib.Core.List.{List, [], ◌∷◌}
use Prim.Native.Nat.{ℕ, ◌≤◌, ◌<◌}
use native.Mathlib.Omega.{arith}
use lib.ListN.{length}
use lib.Dec.{leb, eqb, lit<}
use borrow.Author.Tests.{leb-true, le-leb}
use Rattle.frame.specs.Types.{Ty, bool}
use Rattle.frame.specs.Trees.{head, Tree, node, Forest, nil, cons, count}
use Rattle.frame.specs.Tags.{
  pick,
  Sort,
  predicate,
  expression,
  Layout,
  these,
  counted,
  binding,
  Form,
  class_of,
  form_at,
  form_of,
  sorts_of,
  repeat,
  Class,
  literal_pred,
  equality,
  order,
  membership,
  inclusion,
  binary_pred,
  associative_pred,
  negation,
  quantified_pred,
  finite,
  partition,
  identifier,
  bound,
  literal,
  set_extension,
  maplet,
  relation_set,
  set_minus,
  cartesian,
  direct_product,
  parallel_product,
  domain_restriction,
  range_restriction,
  up_to,
  arithmetic,
  function_image,
  relational_image,
  set_operation,
  backward_composition,
  forward_composition,
  override,
  sum,
  integer_set,
  bool_set,
  truth_value,
  integer_relation,
  empty_set,
  projection1,
  projection2,
  identity,
  bool_expr,
  cardinal,
  powerset,
  generalised,
  domain,
  range,
  extremum,
  converse,
  unary_minus,
  quantified_set,
  comprehension,
  unlisted,
}
use Rattle.frame.specs.Operators.{#FreeIdent}
use Rattle.frame.specs.Encoding.{enc_ty}
use Rattle.frame.specs.Places.{Ctx, under}
use Rattle.frame.specs.WellFormed.{TysWf, number_in}
use Rattle.frame.proofs.Booleans.{both_true}
use Rattle.typing.specs.Typing.{wants, result, shape, carried_ty, alike, type_of, types_in}
use Rattle.typing.specs.Binding.{index_bound}
use Rattle.typing.specs.Accepted.{TyOk, TysOk, HeadOk, Accepted, AcceptedAll}
use Rattle.typing.proofs.Derived.{derived_ok, short_of}

-- ---- an accepted predicate has no type: bool stands for it
pub predicate_result : (c : Class) (n : ℕ) (us : List Ty) (Γ : Ctx) (ts : List Ty) → (form_at c).sort ≡ predicate → result c n us Γ ts ≡ bool
unfolding form_at
predicate_result literal_pred n us Γ ts h = refl
predicate_result equality n us Γ ts h = refl
predicate_result order n us Γ ts h = refl
predicate_result membership n us Γ ts h = refl
predicate_result inclusion n us Γ ts h = refl
predicate_result binary_pred n us Γ ts h = refl
predicate_result associative_pred n us Γ ts h = refl
predicate_result negation n us Γ ts h = refl
predicate_result quantified_pred n us Γ ts h = refl
predicate_result finite n us Γ ts h = refl
predicate_result partition n us Γ ts h = refl
predicate_result identifier n us Γ ts h = cc
predicate_result bound n us Γ ts h = cc
predicate_result literal n us Γ ts h = cc
predicate_result set_extension n us Γ ts h = cc
predicate_result maplet n us Γ ts h = cc
predicate_result relation_set n us Γ ts h = cc
predicate_result set_minus n us Γ ts h = cc
predicate_result cartesian n us Γ ts h = cc
predicate_result direct_product n us Γ ts h = cc
predicate_result parallel_product n us Γ ts h = cc
predicate_result domain_restriction n us Γ ts h = cc
predicate_result range_restriction n us Γ ts h = cc
predicate_result up_to n us Γ ts h = cc
predicate_result arithmetic n us Γ ts h = cc
predicate_result function_image n us Γ ts h = cc
predicate_result relational_image n us Γ ts h = cc
predicate_result set_operation n us Γ ts h = cc
predicate_result backward_composition n us Γ ts h = cc
predicate_result forward_composition n us Γ ts h = cc
predicate_result override n us Γ ts h = cc
predicate_result sum n us Γ ts h = cc
predicate_result integer_set n us Γ ts h = cc
predicate_result bool_set n us Γ ts h = cc
predicate_result truth_value n us Γ ts h = cc
predicate_result integer_relation n us Γ ts h = cc
predicate_result empty_set n us Γ ts h = cc
predicate_result projection1 n us Γ ts h = cc
predicate_result projection2 n us Γ ts h = cc
predicate_result identity n us Γ ts h = cc
predicate_result bool_expr n us Γ ts h = cc
predicate_result cardinal n us Γ ts h = cc
predicate_result powerset n us Γ ts h = cc
predicate_result generalised n us Γ ts h = cc
predicate_result domain n us Γ ts h = cc
predicate_result range n us Γ ts h = cc
predicate_result extremum n us Γ ts h = cc
predicate_result converse n us Γ ts h = cc
predicate_result unary_minus n us Γ ts h = cc
predicate_result quantified_set n us Γ ts h = cc
predicate_result comprehension n us Γ ts h = cc
predicate_result unlisted n us Γ ts h = refl

pub predicate_type : (σ : ℕ → Ty) (t : Tree) (Γ : Ctx) → Accepted σ t Γ predicate → type_of t Γ ≡ bool
unfolding Accepted type_of
predicate_type σ (node (head g n us) ks) Γ a = predicate_result (class_of g) n us Γ (types_in ks (under g us Γ)) a.top.formed.sort

-- ---- a tree that is accepted in this context, and has this type; children of these sorts and types
pub record Is (σ : ℕ → Ty) (Γ : Ctx) (e : Sort) (a : Tree) (t : Ty) : Type 0 where
  pub accepted : Accepted σ a Γ e
  pub type : type_of a Γ ≡ t

pub record Are (σ : ℕ → Ty) (Γ : Ctx) (ks : Forest) (es : List Sort) (ts : List Ty) : Type 0 where
  pub accepted : AcceptedAll σ ks Γ es
  pub types : types_in ks Γ ≡ ts

abbrev pub Holds : (ℕ → Ty) → Ctx → Tree → Type 0
Holds σ Γ p = Is σ Γ predicate p bool

abbrev pub Has : (ℕ → Ty) → Ctx → Tree → Ty → Type 0
Has σ Γ a t = Is σ Γ expression a t

-- what holds of each child; children that all have one sort and one type
abbrev pub Every : (Tree → Type 0) → Forest → Type 0
Every P nil = Unit {0}
Every P (cons k ks) = P k × Every P ks

abbrev pub Each : (ℕ → Ty) → Ctx → Sort → Ty → Forest → Type 0
Each σ Γ e t ks = Every (λ k. Is σ Γ e k t) ks

pub holds : (σ : ℕ → Ty) (p : Tree) (Γ : Ctx) → Accepted σ p Γ predicate → Holds σ Γ p
holds σ p Γ a = record { accepted = a; type = predicate_type σ p Γ a }

module _ {σ : ℕ → Ty} {Γ : Ctx} where
  pub short : {e : Sort} {a : Tree} {t : Ty} → Is σ Γ e a t → length (enc_ty t) ≤ 64
  short {e} {a} h = rw h.type at (short_of σ a Γ e h.accepted)

  pub ok_of : {e : Sort} {a : Tree} {t : Ty} → TysOk σ Γ → Is σ Γ e a t → TyOk σ t
  ok_of {e} {a} k h = rw h.type at (derived_ok σ a Γ e k h.accepted)

  -- ---- children
  pub are_none : Are σ Γ nil [] []
  unfolding Accepted type_of
  are_none = record { accepted = tt; types = refl }

  pub are_more : {e : Sort} {es : List Sort} {t : Ty} {ts : List Ty} {a : Tree} {ks : Forest} → Is σ Γ e a t → Are σ Γ ks es ts
      → Are σ Γ (cons a ks) (e ∷ es) (t ∷ ts)
  unfolding Accepted type_of
  are_more h k = record { accepted = (h.accepted, k.accepted); types = ap₂ ◌∷◌ h.type k.types }

  pub are_one : {e : Sort} {t : Ty} {a : Tree} → Is σ Γ e a t → Are σ Γ (cons a nil) (e ∷ []) (t ∷ [])
  are_one h = are_more h are_none

  pub are_two : {e f : Sort} {t u : Ty} {a b : Tree} → Is σ Γ e a t → Is σ Γ f b u → Are σ Γ (cons a (cons b nil)) (e ∷ f ∷ []) (t ∷ u ∷ [])
  are_two h k = are_more h (are_one k)

  pub kid₀ : {e : Sort} {es : List Sort} {t : Ty} {ts : List Ty} {a : Tree} {ks : Forest} → Are σ Γ (cons a ks) (e ∷ es) (t ∷ ts) → Is σ Γ e a t
  unfolding Accepted type_of
  kid₀ h = let p = h.types in record { accepted = h.accepted.0; type = cc }

  pub others : {e : Sort} {es : List Sort} {t : Ty} {ts : List Ty} {a : Tree} {ks : Forest} → Are σ Γ (cons a ks) (e ∷ es) (t ∷ ts) → Are σ Γ ks es ts
  unfolding Accepted type_of
  others h = let p = h.types in record { accepted = h.accepted.1; types = cc }

  pub kid₁ : {e f : Sort} {es : List Sort} {t u : Ty} {ts : List Ty} {a b : Tree} {ks : Forest}
      → Are σ Γ (cons a (cons b ks)) (e ∷ f ∷ es) (t ∷ u ∷ ts) → Is σ Γ f b u
  kid₁ h = kid₀ (others h)

  pub each_of : (e : Sort) (t : Ty) (ks : Forest) → Are σ Γ ks (repeat e (count ks)) (alike t (types_in ks Γ)) → Each σ Γ e t ks
  unfolding type_of
  each_of e t nil h = tt
  each_of e t (cons k ks) h = (kid₀ h, each_of e t ks (others h))

  -- ---- nodes
  pub build : {e : Sort} (g n : ℕ) (us : List Ty) (ks : Forest) (ts : List Ty) → HeadOk σ Γ e g n us (count ks)
      → ts ≡ wants (class_of g) ts → length (enc_ty (result (class_of g) n us Γ ts)) ≤ 64
      → Are σ (under g us Γ) ks (sorts_of (form_of g).layout (number_in g n us (count ks))) ts
      → Is σ Γ e (node (head g n us) ks) (result (class_of g) n us Γ ts)
  unfolding Accepted type_of
  build g n us ks ts h w l k =
      record { accepted = record { top = h; fits = rw k.types w; short = rw k.types l; kids = k.accepted }; type = rw k.types }

  pub opened : {e : Sort} {g n : ℕ} {us : List Ty} {ks : Forest} {t : Ty} → Is σ Γ e (node (head g n us) ks) t
      → Are σ (under g us Γ) ks (sorts_of (form_of g).layout (number_in g n us (count ks))) (wants (class_of g) (types_in ks (under g us Γ)))
  unfolding Accepted type_of
  opened h = record { accepted = h.accepted.kids; types = h.accepted.fits }

  pub top : {e : Sort} {g n : ℕ} {us : List Ty} {ks : Forest} {t : Ty} → Is σ Γ e (node (head g n us) ks) t → HeadOk σ Γ e g n us (count ks)
  unfolding Accepted
  top h = h.accepted.top

-- ---- heads with no type of their own, at a numeral
-- a row of the table of tags
abbrev row : Sort → Layout → Form
row e l = record { listed = true; sort = e; layout = l; carried = 0 }

between : {lo hi k : ℕ} → lo ≤ k → k ≤ hi → leb lo k && leb k hi ≡ true
between {lo} {hi} {k} l h = rw (le-leb lo k l, le-leb k hi h)

pub within : (lo hi k : ℕ) → leb lo k && leb k hi ≡ true → (lo ≤ k) × (k ≤ hi)
within lo hi k h = let p = both_true (leb lo k) (leb k hi) h in (leb-true lo k p.0, leb-true k hi p.1)

-- a list of binders that a node may have
pub record Binders (σ : ℕ → Ty) (us : List Ty) : Type 0 where
  pub some : 1 ≤ length us
  pub few : length us ≤ 32
  pub formed : TysWf us
  pub types : TysOk σ us

module _ {σ : ℕ → Ty} {Γ : Ctx} {e : Sort} (g k : ℕ) (small : g < 65536) where
  pub these_head : {es : List Sort} → form_of g ≡ row e (these es) → index_bound g 0 Γ ≡ true
      → pick {X = Type 0} (eqb g #FreeIdent) (bool ≡ σ 0) (Unit {0}) → bool ≡ shape g bool → HeadOk σ Γ e g 0 [] k
  these_head f i m s =
      record {
        formed = record { small = small; listed = rw f; sort = rw f; fits = rw f (lit< tt); own = rw f; range = rw f; many = rw f; types = tt };
        indexed = i;
        named = m;
        types = tt;
        shaped = s;
      }

  pub counted_head : {lo hi : ℕ} {d : Sort} → form_of g ≡ row e (counted lo hi d) → index_bound g 0 Γ ≡ true
      → pick {X = Type 0} (eqb g #FreeIdent) (bool ≡ σ 0) (Unit {0}) → bool ≡ shape g bool → lo ≤ k → k ≤ hi → hi < 256 → HeadOk σ Γ e g 0 [] k
  counted_head f i m s l h b =
      record {
        formed =
            record {
              small = small;
              listed = rw f;
              sort = rw f;
              fits = rw f (omega arith);
              own = rw f;
              range = rw f
                  (between l h);
              many = rw f;
              types = tt;
            };
        indexed = i;
        named = m;
        types = tt;
        shaped = s;
      }

  pub binding_head : {us : List Ty} {es : List Sort} → form_of g ≡ row e (binding 1 32 es) → index_bound g 0 Γ ≡ true
      → pick {X = Type 0} (eqb g #FreeIdent) (carried_ty us ≡ σ 0) (Unit {0}) → carried_ty us ≡ shape g (carried_ty us)
      → Binders σ us → HeadOk σ Γ e g 0 us k
  binding_head f i m s b =
      record {
        formed =
            record {
              small = small;
              listed = rw f;
              sort = rw f;
              fits = rw f (omega arith);
              own = rw f;
              range = rw f
                  (between b.some b.few);
              many = rw f;
              types = b.formed;
            };
        indexed = i;
        named = m;
        types = b.types;
        shaped = s;
      }
