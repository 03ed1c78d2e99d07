-- Derived types hold no other given sets than the types that a tree carries.
-- Main results: derived_ok, derived_all_ok (the types of accepted trees are signed by σ), result_ok (one node),
-- push_ok (contexts), short_of (an accepted tree's type has at most 64 bytes).
use mathlib.Core.List.{List, [], ◌∷◌}
use Prim.Native.Nat.{ℕ, zero, suc, ◌≤◌}
use lib.ListN.{length}
use Rattle.frame.specs.Types.{Ty, bool, int, given, pow, prod}
use Rattle.frame.specs.Trees.{head, Tree, node, Forest, nil, cons}
use Rattle.frame.specs.Tags.{
  Sort,
  Layout,
  these,
  payload,
  counted,
  binding,
  binders_of,
  class_of,
  form_of,
  Class,
  literal_pred,
  equality,
  order,
  membership,
  inclusion,
  binary_pred,
  associative_pred,
  negation,
  quantified_pred,
  finite,
  partition,
  identifier,
  bound,
  literal,
  set_extension,
  maplet,
  relation_set,
  set_minus,
  cartesian,
  direct_product,
  parallel_product,
  domain_restriction,
  range_restriction,
  up_to,
  arithmetic,
  function_image,
  relational_image,
  set_operation,
  backward_composition,
  forward_composition,
  override,
  sum,
  integer_set,
  bool_set,
  truth_value,
  integer_relation,
  empty_set,
  projection1,
  projection2,
  identity,
  bool_expr,
  cardinal,
  powerset,
  generalised,
  domain,
  range,
  extremum,
  converse,
  unary_minus,
  quantified_set,
  comprehension,
  unlisted,
}
use Rattle.frame.specs.Encoding.{enc_ty}
use Rattle.frame.specs.Places.{Ctx, push, under}
use Rattle.typing.specs.Typing.{element, first, second, source, target, ty, last_ty, type_at, carried_ty, result, type_of, types_in}
use Rattle.typing.specs.Accepted.{TyOk, TysOk, Accepted, AcceptedAll}

module _ (σ : ℕ → Ty) where
  -- ---- parts of types
  pub element_ok : (t : Ty) → TyOk σ t → TyOk σ (element t)
  element_ok bool h = tt
  element_ok int h = tt
  element_ok (given n) h = tt
  element_ok (pow t) h = h
  element_ok (prod t u) h = tt

  pub first_ok : (t : Ty) → TyOk σ t → TyOk σ (first t)
  first_ok bool h = tt
  first_ok int h = tt
  first_ok (given n) h = tt
  first_ok (pow t) h = tt
  first_ok (prod t u) h = h.0

  pub second_ok : (t : Ty) → TyOk σ t → TyOk σ (second t)
  second_ok bool h = tt
  second_ok int h = tt
  second_ok (given n) h = tt
  second_ok (pow t) h = tt
  second_ok (prod t u) h = h.1

  pub source_ok : (t : Ty) → TyOk σ t → TyOk σ (source t)
  source_ok t h = first_ok (element t) (element_ok t h)

  pub target_ok : (t : Ty) → TyOk σ t → TyOk σ (target t)
  target_ok t h = second_ok (element t) (element_ok t h)

  -- ---- types out of lists
  pub ty_ok : (i : ℕ) (ts : List Ty) → TysOk σ ts → TyOk σ (ty i ts)
  ty_ok i [] h = tt
  ty_ok zero (t ∷ ts) h = h.0
  ty_ok (suc i) (t ∷ ts) h = ty_ok i ts h.1

  pub last_ok : (ts : List Ty) → TysOk σ ts → TyOk σ (last_ty ts)
  last_ok [] h = tt
  last_ok (t ∷ []) h = h.0
  last_ok (t ∷ u ∷ ts) h = last_ok (u ∷ ts) h.1

  pub carried_ok : (us : List Ty) → TysOk σ us → TyOk σ (carried_ty us)
  carried_ok [] h = tt
  carried_ok (u ∷ us) h = h.0

  pub type_at_ok : (Γ : Ctx) (i : ℕ) → TysOk σ Γ → TyOk σ (type_at Γ i)
  unfolding type_at
  type_at_ok [] i h = tt
  type_at_ok (t ∷ Γ) zero h = h.0
  type_at_ok (t ∷ Γ) (suc i) h = type_at_ok Γ i h.1

  -- ---- contexts
  pub push_all_ok : (us : List Ty) (Γ : Ctx) → TysOk σ us → TysOk σ Γ → TysOk σ (push us Γ)
  push_all_ok [] Γ h k = k
  push_all_ok (u ∷ us) Γ h k = push_all_ok us (u ∷ Γ) h.1 (h.0, k)

  binders_ok : (l : Layout) (us : List Ty) → TysOk σ us → TysOk σ (binders_of l us)
  binders_ok (these es) us h = tt
  binders_ok (payload w) us h = tt
  binders_ok (counted lo hi e) us h = tt
  binders_ok (binding lo hi es) us h = h

  pub push_ok : (g : ℕ) (us : List Ty) (Γ : Ctx) → TysOk σ us → TysOk σ Γ → TysOk σ (under g us Γ)
  push_ok g us Γ h k = push_all_ok (binders_of (form_of g).layout us) Γ (binders_ok (form_of g).layout us h) k

  -- ---- one node
  pub result_ok : (c : Class) (n : ℕ) (us : List Ty) (Γ : Ctx) (ts : List Ty) → TysOk σ us → TysOk σ Γ → TysOk σ ts → TyOk σ (result c n us Γ ts)
  result_ok literal_pred n us Γ ts hus hΓ hts = tt
  result_ok equality n us Γ ts hus hΓ hts = tt
  result_ok order n us Γ ts hus hΓ hts = tt
  result_ok membership n us Γ ts hus hΓ hts = tt
  result_ok inclusion n us Γ ts hus hΓ hts = tt
  result_ok binary_pred n us Γ ts hus hΓ hts = tt
  result_ok associative_pred n us Γ ts hus hΓ hts = tt
  result_ok negation n us Γ ts hus hΓ hts = tt
  result_ok quantified_pred n us Γ ts hus hΓ hts = tt
  result_ok finite n us Γ ts hus hΓ hts = tt
  result_ok partition n us Γ ts hus hΓ hts = tt
  result_ok identifier n us Γ ts hus hΓ hts = carried_ok us hus
  result_ok bound n us Γ ts hus hΓ hts = type_at_ok Γ n hΓ
  result_ok literal n us Γ ts hus hΓ hts = tt
  result_ok set_extension n us Γ ts hus hΓ hts = ty_ok 0 ts hts
  result_ok maplet n us Γ ts hus hΓ hts = (ty_ok 0 ts hts, ty_ok 1 ts hts)
  result_ok relation_set n us Γ ts hus hΓ hts = (element_ok (ty 0 ts) (ty_ok 0 ts hts), element_ok (ty 1 ts) (ty_ok 1 ts hts))
  result_ok set_minus n us Γ ts hus hΓ hts = ty_ok 0 ts hts
  result_ok cartesian n us Γ ts hus hΓ hts = (element_ok (ty 0 ts) (ty_ok 0 ts hts), element_ok (ty 1 ts) (ty_ok 1 ts hts))
  result_ok direct_product n us Γ ts hus hΓ hts = (
    source_ok (ty 0 ts) (ty_ok 0 ts hts),
    (target_ok (ty 0 ts) (ty_ok 0 ts hts), target_ok (ty 1 ts) (ty_ok 1 ts hts)),
  )
  result_ok parallel_product n us Γ ts hus hΓ hts = (
    (source_ok (ty 0 ts) (ty_ok 0 ts hts), source_ok (ty 1 ts) (ty_ok 1 ts hts)),
    (target_ok (ty 0 ts) (ty_ok 0 ts hts), target_ok (ty 1 ts) (ty_ok 1 ts hts)),
  )
  result_ok domain_restriction n us Γ ts hus hΓ hts = ty_ok 1 ts hts
  result_ok range_restriction n us Γ ts hus hΓ hts = ty_ok 0 ts hts
  result_ok up_to n us Γ ts hus hΓ hts = tt
  result_ok arithmetic n us Γ ts hus hΓ hts = tt
  result_ok function_image n us Γ ts hus hΓ hts = target_ok (ty 0 ts) (ty_ok 0 ts hts)
  result_ok relational_image n us Γ ts hus hΓ hts = target_ok (ty 0 ts) (ty_ok 0 ts hts)
  result_ok set_operation n us Γ ts hus hΓ hts = ty_ok 0 ts hts
  result_ok backward_composition n us Γ ts hus hΓ hts = (source_ok (last_ty ts) (last_ok ts hts), target_ok (ty 0 ts) (ty_ok 0 ts hts))
  result_ok forward_composition n us Γ ts hus hΓ hts = (source_ok (ty 0 ts) (ty_ok 0 ts hts), target_ok (last_ty ts) (last_ok ts hts))
  result_ok override n us Γ ts hus hΓ hts = ty_ok 0 ts hts
  result_ok sum n us Γ ts hus hΓ hts = tt
  result_ok integer_set n us Γ ts hus hΓ hts = tt
  result_ok bool_set n us Γ ts hus hΓ hts = tt
  result_ok truth_value n us Γ ts hus hΓ hts = tt
  result_ok integer_relation n us Γ ts hus hΓ hts = (tt, tt)
  result_ok empty_set n us Γ ts hus hΓ hts = carried_ok us hus
  result_ok projection1 n us Γ ts hus hΓ hts = carried_ok us hus
  result_ok projection2 n us Γ ts hus hΓ hts = carried_ok us hus
  result_ok identity n us Γ ts hus hΓ hts = carried_ok us hus
  result_ok bool_expr n us Γ ts hus hΓ hts = tt
  result_ok cardinal n us Γ ts hus hΓ hts = tt
  result_ok powerset n us Γ ts hus hΓ hts = ty_ok 0 ts hts
  result_ok generalised n us Γ ts hus hΓ hts = element_ok (ty 0 ts) (ty_ok 0 ts hts)
  result_ok domain n us Γ ts hus hΓ hts = source_ok (ty 0 ts) (ty_ok 0 ts hts)
  result_ok range n us Γ ts hus hΓ hts = target_ok (ty 0 ts) (ty_ok 0 ts hts)
  result_ok extremum n us Γ ts hus hΓ hts = tt
  result_ok converse n us Γ ts hus hΓ hts = (target_ok (ty 0 ts) (ty_ok 0 ts hts), source_ok (ty 0 ts) (ty_ok 0 ts hts))
  result_ok unary_minus n us Γ ts hus hΓ hts = tt
  result_ok quantified_set n us Γ ts hus hΓ hts = ty_ok 1 ts hts
  result_ok comprehension n us Γ ts hus hΓ hts = ty_ok 1 ts hts
  result_ok unlisted n us Γ ts hus hΓ hts = tt

  -- ---- trees
  mutual
    unfolding Accepted type_of

    pub derived_ok : (t : Tree) (Γ : Ctx) (e : Sort) → TysOk σ Γ → Accepted σ t Γ e → TyOk σ (type_of t Γ)
    derived_ok (node (head g n us) ks) Γ e k a =
        result_ok (class_of g) n us Γ (types_in ks (under g us Γ)) a.top.types k
        (derived_all_ok ks (under g us Γ) _ (push_ok g us Γ a.top.types k) a.kids)

    pub derived_all_ok : (ks : Forest) (Γ : Ctx) (es : List Sort) → TysOk σ Γ → AcceptedAll σ ks Γ es → TysOk σ (types_in ks Γ)
    derived_all_ok nil Γ [] k a = tt
    derived_all_ok nil Γ (e ∷ es) k a = tt
    derived_all_ok (cons t ts) Γ [] k a = absurd a
    derived_all_ok (cons t ts) Γ (e ∷ es) k a = (derived_ok t Γ e k a.0, derived_all_ok ts Γ es k a.1)

  pub short_of : (t : Tree) (Γ : Ctx) (e : Sort) → Accepted σ t Γ e → length (enc_ty (type_of t Γ)) ≤ 64
  unfolding Accepted type_of
  short_of (node (head g n us) ks) Γ e a = a.short
