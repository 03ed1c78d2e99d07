-- What a result says of how it was read: each test that was passed on the way.
-- Main results: many_inv, node_inv, head_inv (records ManyInv, NodeInv, HeadInv), many_count.
use mathlib.Core.Path.{◌≡◌, refl, ap, ◌∙◌}
use mathlib.Core.Bool.{Bool, true, false}
use mathlib.Core.List.{List, [], ◌∷◌}
use Prim.Native.Nat.{ℕ, suc, ◌+◌, ◌≤◌}
use native.Mathlib.Omega.{arith}
use lib.ListN.{length}
use lib.Dec.{ltb}
use borrow.Author.Tests.{ltb-false}
use Rattle.frame.specs.Types.{Ty}
use Rattle.frame.specs.Trees.{Head, head, Tree, node, Forest, nil, cons, count}
use Rattle.frame.specs.Tags.{pick, Sort, predicate, expression, same_sort, Layout, Form, form_of, width, in_range, payload_of, types_of, sorts_of}
use Rattle.frame.specs.At.{types_at}
use Rattle.frame.specs.Reading.{
  number_at,
  TysRes,
  ok_ts,
  no_ts,
  read_tys,
  HeadRes,
  ok_h,
  no_h,
  with_tys,
  with_number,
  with_form,
  read_head,
  Res,
  ok,
  no,
  FRes,
  ok_f,
  no_f,
  cons_f,
  then_f,
  read_many,
  node_of,
  with_kids,
  read_node,
}

-- ---- one answer is not the other
pub no_h_not {ℓ} : {X : Type ℓ} {c : ℕ} {h : Head} {p : ℕ} {es : List Sort} → no_h c ≡ ok_h h p es → X
no_h_not e = let z : ◌≡◌ {A = ℕ} 0 1 = cc in absurd (omega arith)

pub no_f_not {ℓ} : {X : Type ℓ} {c : ℕ} {ts : Forest} {p : ℕ} → no_f c ≡ ok_f ts p → X
no_f_not e = let z : ◌≡◌ {A = ℕ} 0 1 = cc in absurd (omega arith)

pub no_not {ℓ} : {X : Type ℓ} {c : ℕ} {t : Tree} {p : ℕ} → no c ≡ ok t p → X
no_not e = let z : ◌≡◌ {A = ℕ} 0 1 = cc in absurd (omega arith)

pub true_not {ℓ} : {X : Type ℓ} → false ≡ true → X
true_not e = let z : ◌≡◌ {A = ℕ} 0 1 = cc in absurd (omega arith)

-- a choice that is z, where one of its sides cannot be
pub else_of {ℓ} : {X : Type ℓ} (b : Bool) (x y z : X) → (x ≡ z → ⊥) → pick b x y ≡ z → (b ≡ false) × (y ≡ z)
else_of true x y z h e = absurd (h e)
else_of false x y z h e = (refl, e)

pub then_of {ℓ} : {X : Type ℓ} (b : Bool) (x y z : X) → (y ≡ z → ⊥) → pick b x y ≡ z → (b ≡ true) × (x ≡ z)
then_of true x y z h e = (refl, e)
then_of false x y z h e = absurd (h e)

-- ---- sorts
pub same_sort_lem : (a b : Sort) → same_sort a b ≡ true → a ≡ b
same_sort_lem predicate predicate e = refl
same_sort_lem predicate expression e = true_not e
same_sort_lem expression predicate e = true_not e
same_sort_lem expression expression e = refl

pub same_sort_refl : (a : Sort) → same_sort a a ≡ true
same_sort_refl predicate = refl
same_sort_refl expression = refl

-- ---- trees in a row: the first, and the others
pub record ManyInv (es : List Sort) (go : Sort → ℕ → Res) (e : Sort) (at : ℕ) (ts : Forest) (q : ℕ) : Type 0 where
  pub first : Tree
  pub rest : Forest
  pub mid : ℕ
  pub one : go e at ≡ ok first mid
  pub others : read_many es go mid ≡ ok_f rest q
  pub is : ts ≡ cons first rest

pub many_inv : (e : Sort) (es : List Sort) (go : Sort → ℕ → Res) (at : ℕ) (ts : Forest) (q : ℕ)
    → read_many (e ∷ es) go at ≡ ok_f ts q → ManyInv es go e at ts q
unfolding read_many
many_inv e es go at ts q eq = on_first (go e at) refl eq
  where
    on_rest : (t : Tree) (p : ℕ) → go e at ≡ ok t p → (y : FRes) → read_many es go p ≡ y → cons_f t y ≡ ok_f ts q → ManyInv es go e at ts q
    on_rest t p ea (ok_f us r) ey eq = record { first = t; rest = us; mid = p; one = ea; others = ey ∙ cc; is = cc }
    on_rest t p ea (no_f c) ey eq = no_f_not eq

    on_first : (x : Res) → go e at ≡ x → then_f x (λ p. read_many es go p) ≡ ok_f ts q → ManyInv es go e at ts q
    on_first (ok t p) ea eq = on_rest t p ea (read_many es go p) refl eq
    on_first (no c) ea eq = no_f_not eq

pub many_count : (es : List Sort) (go : Sort → ℕ → Res) (at : ℕ) (ts : Forest) (q : ℕ) → read_many es go at ≡ ok_f ts q → count ts ≡ length es
unfolding read_many
many_count [] go at ts q eq = let et : ts ≡ nil = cc in ap count et
many_count (e ∷ es) go at ts q eq =
    let v = many_inv e es go at ts q eq in
    ap count v.is ∙ ap suc (many_count es go v.mid v.rest q v.others)

-- ---- a node's head and its children
pub record NodeInv (f : ℕ) (s : List ℕ) (e : Sort) (at : ℕ) (t : Tree) (q : ℕ) : Type 0 where
  pub top : Head
  -- where its children start, and their sorts
  pub from : ℕ
  pub sorts : List Sort
  pub kids : Forest
  pub headed : read_head s at e ≡ ok_h top from sorts
  pub below : read_many sorts (read_node f s) from ≡ ok_f kids q
  pub is : t ≡ node top kids

pub node_inv : (f : ℕ) (s : List ℕ) (e : Sort) (at : ℕ) (t : Tree) (q : ℕ) → read_node (suc f) s e at ≡ ok t q → NodeInv f s e at t q
unfolding read_node
node_inv f s e at t q eq = on_head (read_head s at e) refl eq
  where
    on_kids : (h : Head) (p : ℕ) (es : List Sort) → read_head s at e ≡ ok_h h p es → (y : FRes) → read_many es (read_node f s) p ≡ y
        → node_of h y ≡ ok t q → NodeInv f s e at t q
    on_kids h p es eh (ok_f ts r) ey eq = record { top = h; from = p; sorts = es; kids = ts; headed = eh; below = ey ∙ cc; is = cc }
    on_kids h p es eh (no_f c) ey eq = no_not eq

    on_head : (x : HeadRes) → read_head s at e ≡ x → with_kids x (read_node f s) ≡ ok t q → NodeInv f s e at t q
    on_head (ok_h h p es) eh eq = on_kids h p es eh (read_many es (read_node f s) p) refl eq
    on_head (no_h c) eh eq = no_not eq

-- ---- a head
abbrev pub tag_at : List ℕ → ℕ → ℕ
tag_at s at = number_at 2 s at

abbrev pub layout_at : List ℕ → ℕ → Layout
layout_at s at = (form_of (tag_at s at)).layout

-- the number behind the tag
abbrev pub behind : List ℕ → ℕ → ℕ
behind s at = number_at (width (layout_at s at)) s (at + 2)

-- all that a head that is read says
pub record HeadInv (s : List ℕ) (at : ℕ) (e : Sort) (h : Head) (p : ℕ) (es : List Sort) : Type 0 where
  pub ts : List Ty
  pub is : h ≡ head (tag_at s at) (payload_of (layout_at s at) (behind s at)) ts
  pub two_ok : at + 2 ≤ length s
  pub listed : (form_of (tag_at s at)).listed ≡ true
  pub sort : (form_of (tag_at s at)).sort ≡ e
  pub room : types_at s at ≤ length s
  pub range : in_range (layout_at s at) (behind s at) ≡ true
  pub types : read_tys (types_of (layout_at s at) (form_of (tag_at s at)).carried (behind s at)) s (types_at s at) ≡ ok_ts ts p
  pub sorts : es ≡ sorts_of (layout_at s at) (behind s at)

pub head_inv : (s : List ℕ) (at : ℕ) (e : Sort) (h : Head) (p : ℕ) (es : List Sort) → read_head s at e ≡ ok_h h p es → HeadInv s at e h p es
unfolding read_head with_form with_number
head_inv s at e h p es eq =
    let z : HeadRes = ok_h h p es in
    let never : (c : ℕ) → no_h c ≡ z → ⊥ = (λ c y. no_h_not y) in
    let g : ℕ = tag_at s at in
    let fm : Form = form_of g in
    let x : ℕ = behind s at in
    let t₀ : ℕ = at + 2 + width fm.layout in
    let tys : TysRes = read_tys (types_of fm.layout fm.carried x) s t₀ in
    let e₁ = else_of (ltb (length s) (at + 2)) (no_h 3) (with_form fm s at e) z (never 3) eq in
    let e₂ = then_of fm.listed (pick (same_sort fm.sort e) (pick (ltb (length s) t₀) (no_h 3) (with_number fm s g x t₀)) (no_h 4))
    (no_h 4) z (never 4) e₁.1 in
    let e₃ = then_of (same_sort fm.sort e) (pick (ltb (length s) t₀) (no_h 3) (with_number fm s g x t₀)) (no_h 4) z (never 4) e₂.1 in
    let e₄ = else_of (ltb (length s) t₀) (no_h 3) (with_number fm s g x t₀) z (never 3) e₃.1 in
    let e₅ = then_of (in_range fm.layout x) (with_tys fm g x tys) (no_h 5) z (never 5) e₄.1 in
    on_tys (ltb-false _ _ e₁.0) e₂.0 (same_sort_lem _ _ e₃.0) (ltb-false _ _ e₄.0) e₅.0 tys refl e₅.1
  where
    on_tys : at + 2 ≤ length s → (form_of (tag_at s at)).listed ≡ true → (form_of (tag_at s at)).sort ≡ e
        → at + 2 + width (layout_at s at) ≤ length s → in_range (layout_at s at) (behind s at) ≡ true
        → (x : TysRes) → read_tys (types_of (layout_at s at) (form_of (tag_at s at)).carried (behind s at)) s (at + 2 + width (layout_at s at)) ≡ x
        → with_tys (form_of (tag_at s at)) (tag_at s at) (behind s at) x ≡ ok_h h p es
        → HeadInv s at e h p es
    on_tys a l r o i (ok_ts us q) ex ez =
        let eq : q ≡ p = cc in record {
          ts = us;
          is = cc;
          two_ok = a;
          listed = l;
          sort = r;
          room = o;
          range = i;
          types = ex ∙ ap (ok_ts us) eq;
          sorts = cc;
        }
    on_tys a l r o i (no_ts c) ex ez = no_h_not ez
