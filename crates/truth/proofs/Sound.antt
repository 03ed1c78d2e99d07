-- Replacing a subtree by one that means the same keeps what the tree means.
-- Main results: binders_agree (typing and meaning put the same binders around a node's operands), is_pred (a
-- predicate means a truth), by_truth, Keeps, keeps_truth, keeps_at_place.
use mathlib.Core.Path.{◌≡◌, refl, sym, ap, ◌∙◌, fun_ext}
use mathlib.Core.Bool.{Bool, true, false}
use mathlib.Core.List.{List, []}
use Prim.Native.Nat.{ℕ}
use native.Mathlib.Omega.{arith}
use Rattle.frame.specs.Types.{Ty, bool}
use Rattle.frame.specs.Trees.{head, Tree, node, Forest, cons}
use Rattle.frame.specs.Tags.{Sort, predicate, expression, binders_of, form_at, form_of, class_of}
use Rattle.frame.specs.Tags as C
use Rattle.frame.specs.Places.{Ctx, push, under, found, find, replace}
use Rattle.frame.proofs.AtPlace.{at_place}
use Rattle.typing.specs.Typing.{result, type_of, types_in}
use Rattle.typing.specs.Accepted.{Accepted}
use Rattle.meaning.specs.Operations.{Op, logic, quantifier, operator, binding, op_at, op_of}
use Rattle.meaning.specs.Meaning.{Interpretation, Vals, Den, pred, truth, binders_in, node_means, means, means_all}
use Rattle.meaning.specs.Premises.{SingleIntegers, SingleIntegersIn, NoInterOverNothing, NoInterOverNothingIn}

-- an operator suits the sort of its tag, and a predicate has no type
abbrev Suits : Bool → Sort → Op → Ty → Type 0
Suits false e o t = Unit {0}
Suits true predicate (logic o) t = t ≡ bool
Suits true predicate (quantifier o) t = t ≡ bool
Suits true predicate (operator o) t = ⊥
Suits true predicate (binding o) t = ⊥
Suits true expression (logic o) t = ⊥
Suits true expression (quantifier o) t = ⊥
Suits true expression (operator o) t = Unit {0}
Suits true expression (binding o) t = Unit {0}

-- a node with this head is a predicate
abbrev pub Formula : Tree → Type 0
Formula (node (head g n us) ks) = ((form_of g).listed ≡ true) × ((form_of g).sort ≡ predicate)

pub accepted_formula : (σ : ℕ → Ty) (t : Tree) (Γ : Ctx) → Accepted σ t Γ predicate → Formula t
unfolding Accepted
accepted_formula σ (node (head g n us) ks) Γ a = (a.top.formed.listed, a.top.formed.sort)

module _ (I : Interpretation) where
  class_op : (c : C.Class) (g n : ℕ) (us : List Ty) (Γ : Ctx) (ts : List Ty)
      → (binders_of (form_at c).layout us ≡ binders_in I (op_at c g) us) × Suits (form_at c).listed (form_at c).sort (op_at c g) (result c n us Γ ts)
  unfolding form_at op_at
  class_op C.literal_pred g n us Γ ts = (refl, refl)
  class_op C.equality g n us Γ ts = (refl, refl)
  class_op C.order g n us Γ ts = (refl, refl)
  class_op C.membership g n us Γ ts = (refl, refl)
  class_op C.inclusion g n us Γ ts = (refl, refl)
  class_op C.binary_pred g n us Γ ts = (refl, refl)
  class_op C.associative_pred g n us Γ ts = (refl, refl)
  class_op C.negation g n us Γ ts = (refl, refl)
  class_op C.quantified_pred g n us Γ ts = (refl, refl)
  class_op C.finite g n us Γ ts = (refl, refl)
  class_op C.partition g n us Γ ts = (refl, refl)
  class_op C.identifier g n us Γ ts = (refl, tt)
  class_op C.bound g n us Γ ts = (refl, tt)
  class_op C.literal g n us Γ ts = (refl, tt)
  class_op C.set_extension g n us Γ ts = (refl, tt)
  class_op C.maplet g n us Γ ts = (refl, tt)
  class_op C.relation_set g n us Γ ts = (refl, tt)
  class_op C.set_minus g n us Γ ts = (refl, tt)
  class_op C.cartesian g n us Γ ts = (refl, tt)
  class_op C.direct_product g n us Γ ts = (refl, tt)
  class_op C.parallel_product g n us Γ ts = (refl, tt)
  class_op C.domain_restriction g n us Γ ts = (refl, tt)
  class_op C.range_restriction g n us Γ ts = (refl, tt)
  class_op C.up_to g n us Γ ts = (refl, tt)
  class_op C.arithmetic g n us Γ ts = (refl, tt)
  class_op C.function_image g n us Γ ts = (refl, tt)
  class_op C.relational_image g n us Γ ts = (refl, tt)
  class_op C.set_operation g n us Γ ts = (refl, tt)
  class_op C.backward_composition g n us Γ ts = (refl, tt)
  class_op C.forward_composition g n us Γ ts = (refl, tt)
  class_op C.override g n us Γ ts = (refl, tt)
  class_op C.sum g n us Γ ts = (refl, tt)
  class_op C.integer_set g n us Γ ts = (refl, tt)
  class_op C.bool_set g n us Γ ts = (refl, tt)
  class_op C.truth_value g n us Γ ts = (refl, tt)
  class_op C.integer_relation g n us Γ ts = (refl, tt)
  class_op C.empty_set g n us Γ ts = (refl, tt)
  class_op C.projection1 g n us Γ ts = (refl, tt)
  class_op C.projection2 g n us Γ ts = (refl, tt)
  class_op C.identity g n us Γ ts = (refl, tt)
  class_op C.bool_expr g n us Γ ts = (refl, tt)
  class_op C.cardinal g n us Γ ts = (refl, tt)
  class_op C.powerset g n us Γ ts = (refl, tt)
  class_op C.generalised g n us Γ ts = (refl, tt)
  class_op C.domain g n us Γ ts = (refl, tt)
  class_op C.range g n us Γ ts = (refl, tt)
  class_op C.extremum g n us Γ ts = (refl, tt)
  class_op C.converse g n us Γ ts = (refl, tt)
  class_op C.unary_minus g n us Γ ts = (refl, tt)
  class_op C.quantified_set g n us Γ ts = (refl, tt)
  class_op C.comprehension g n us Γ ts = (refl, tt)
  class_op C.unlisted g n us Γ ts = (refl, tt)

  pub binders_agree : (g : ℕ) (us : List Ty) → binders_of (form_of g).layout us ≡ binders_in I (op_of g) us
  unfolding op_of
  binders_agree g us = (class_op (class_of g) g 0 us [] []).0

  pub under_agree : (g : ℕ) (us : List Ty) (Γ : Ctx) → under g us Γ ≡ push (binders_in I (op_of g) us) Γ
  under_agree g us Γ = ap (λ bs. push bs Γ) (binders_agree g us)

  -- ---- what predicates and expressions mean
  suits_pred : (b : Bool) (e : Sort) (o : Op) (t : Ty) (g n : ℕ) (us : List Ty) (Γ : Ctx) (ts : List Ty)
      (ks : List (Den I (push (binders_in I o us) Γ))) → b ≡ true → e ≡ predicate → Suits b e o t
      → (pred (truth I (node_means I o g n us Γ ts ks)) ≡ node_means I o g n us Γ ts ks) × (t ≡ bool)
  suits_pred false e o t g n us Γ ts ks p q s = let z : ◌≡◌ {A = ℕ} 0 1 = cc in absurd (omega arith)
  suits_pred true predicate (logic o) t g n us Γ ts ks p q s = (refl, s)
  suits_pred true predicate (quantifier o) t g n us Γ ts ks p q s = (refl, s)
  suits_pred true predicate (operator o) t g n us Γ ts ks p q s = absurd s
  suits_pred true predicate (binding o) t g n us Γ ts ks p q s = absurd s
  suits_pred true expression o t g n us Γ ts ks p q s = let z : ◌≡◌ {A = ℕ} 0 1 = cc in absurd (omega arith)

  -- ts are the types of the operands
  pred_node : (g n : ℕ) (us : List Ty) (ks : Forest) (Γ : Ctx) (ts : List Ty) → Formula (node (head g n us) ks)
      → let k = node_means I (op_of g) g n us Γ ts (means_all I ks (push (binders_in I (op_of g) us) Γ)) in
      (pred (truth I k) ≡ k) × (result (class_of g) n us Γ ts ≡ bool)
  unfolding op_of
  pred_node g n us ks Γ ts f =
      suits_pred (form_of g).listed (form_of g).sort (op_of g) (result (class_of g) n us Γ ts) g n us Γ ts
      (means_all I ks (push (binders_in I (op_of g) us) Γ)) f.0 f.1
      (class_op (class_of g) g n us Γ ts).1

  pub is_pred : (t : Tree) (Γ : Ctx) → Formula t → pred (truth I (means I t Γ)) ≡ means I t Γ
  unfolding means
  is_pred (node (head g n us) ks) Γ f = (pred_node g n us ks Γ (types_in ks (push (binders_in I (op_of g) us) Γ)) f).0

  pub formula_type : (t : Tree) (Γ : Ctx) → Formula t → type_of t Γ ≡ bool
  unfolding type_of
  formula_type (node (head g n us) ks) Γ f = (pred_node g n us ks Γ (types_in ks (under g us Γ)) f).1

  -- two predicates that are true alike mean the same
  pub by_truth : (s t : Tree) (Γ : Ctx) → Formula s → Formula t → ((ρ : Vals I Γ) → truth I (means I s Γ) ρ ≡ truth I (means I t Γ) ρ)
      → means I s Γ ≡ means I t Γ
  by_truth s t Γ f h e = sym (is_pred s Γ f) ∙ ap pred (fun_ext e) ∙ is_pred t Γ h

  -- ---- r may stand for l, ls for ks
  pub record Keeps (Γ : Ctx) (l r : Tree) : Type 0 where
    pub single : SingleIntegers r Γ
    pub types : type_of l Γ ≡ type_of r Γ
    pub alive : NoInterOverNothing I l Γ → NoInterOverNothing I r Γ
    pub same : NoInterOverNothing I l Γ → means I l Γ ≡ means I r Γ

  -- of predicates
  pub keeps_truth : (l r : Tree) (Γ : Ctx) → Formula l → Formula r → SingleIntegers r Γ → (NoInterOverNothing I l Γ → NoInterOverNothing I r Γ)
      → (NoInterOverNothing I l Γ → (ρ : Vals I Γ) → truth I (means I l Γ) ρ ≡ truth I (means I r Γ) ρ) → Keeps Γ l r
  keeps_truth l r Γ f h s a e = record {
    single = s;
    types = formula_type l Γ f ∙ sym (formula_type r Γ h);
    alive = a;
    same = λ x. by_truth l r Γ f h (e x);
  }

  pub record KeepsAll (Γ : Ctx) (ks ls : Forest) : Type 0 where
    pub single : SingleIntegersIn ls Γ
    pub types : types_in ks Γ ≡ types_in ls Γ
    pub alive : NoInterOverNothingIn I ks Γ → NoInterOverNothingIn I ls Γ
    pub same : NoInterOverNothingIn I ks Γ → means_all I ks Γ ≡ means_all I ls Γ

  in_node : (g n : ℕ) (us : List Ty) (ks ls : Forest) (Γ : Ctx) → SingleIntegers (node (head g n us) ks) Γ
      → KeepsAll (under g us Γ) ks ls → KeepsAll (push (binders_in I (op_of g) us) Γ) ks ls → Keeps Γ (node (head g n us) ks) (node (head g n us) ls)
  unfolding SingleIntegers NoInterOverNothing type_of means
  in_node g n us ks ls Γ t k s = record {
    single = (t.0, rw k.types at t.1, t.2, k.single);
    types = rw k.types;
    alive = λ a. (rw (s.types, s.same a.2) at a.0, rw (s.same a.2) at a.1, s.alive a.2);
    same = λ a. rw (s.types, s.same a.2);
  }

  at_node : (g n : ℕ) (us : List Ty) (ks ls : Forest) (Γ : Ctx) → (SingleIntegersIn ks (under g us Γ) → KeepsAll (under g us Γ) ks ls)
      → SingleIntegers (node (head g n us) ks) Γ → Keeps Γ (node (head g n us) ks) (node (head g n us) ls)
  unfolding SingleIntegers
  at_node g n us ks ls Γ k t = in_node g n us ks ls Γ t (k t.3) (rw (under_agree g us Γ) at (k t.3))

  at_first : (t u : Tree) (ks : Forest) (Γ : Ctx) → (SingleIntegers t Γ → Keeps Γ t u) → SingleIntegersIn (cons t ks) Γ
      → KeepsAll Γ (cons t ks) (cons u ks)
  unfolding SingleIntegers NoInterOverNothing type_of means
  at_first t u ks Γ k f =
      let s : Keeps Γ t u = k f.0 in
      record { single = (s.single, f.1); types = rw s.types; alive = λ a. (s.alive a.0, a.1); same = λ a. rw (s.same a.0) }

  at_rest : (t : Tree) (ks ls : Forest) (Γ : Ctx) → (SingleIntegersIn ks Γ → KeepsAll Γ ks ls) → SingleIntegersIn (cons t ks) Γ
      → KeepsAll Γ (cons t ks) (cons t ls)
  unfolding SingleIntegers NoInterOverNothing type_of means
  at_rest t ks ls Γ k f =
      let s : KeepsAll Γ ks ls = k f.1 in
      record { single = (f.0, s.single); types = rw s.types; alive = λ a. (a.0, s.alive a.1); same = λ a. rw (s.same a.1) }

  pub keeps_at_place : (t : Tree) (Γ : Ctx) (k : ℕ) (Δ : Ctx) (v u : Tree) → find t Γ k ≡ found Δ v → SingleIntegers t Γ
      → (SingleIntegers v Δ → Keeps Δ v u) → Keeps Γ t (replace t k u)
  keeps_at_place t Γ k Δ v u e f h =
      at_place (λ Γ a b. SingleIntegers a Γ → Keeps Γ a b) (λ Γ ks ls. SingleIntegersIn ks Γ → KeepsAll Γ ks ls) at_node at_first
      at_rest t Γ k Δ v u e h f
