-- Number 8 on trees: what going over the first tree of a row and over the others says of the whole row.
-- Main results: walk_nil (no tree); walk_none, walk_leaf (a bound identifier), walk_node (a node with binders around its children);
-- walk_stop, walk_cons (the first tree and the others); walk_plain (a node's children join the others).
use Rattle.std.proofs.Common.{Option, Some, None}
use mathlib.Core.Path.{◌≡◌, refl, sym, ap, ap₂, ◌∙◌, subst}
use mathlib.Core.Logic.{◌⊎◌, inl, inr}
use mathlib.Core.Bool.{Bool, true, false, ◌&&◌, and_assoc}
use mathlib.Core.List.{List}
use Prim.Native.Nat.{ℕ, suc, ◌+◌, ◌-◌, ◌≤◌, ◌<◌}
use native.Mathlib.Omega.{arith}
use lib.ListN.{length, get_or, set, length-set}
use lib.Seq.{get_or-set_same, get_or-set_other}
use lib.Dec.{eqb}
use borrow.Author.Tests.{lt-ltb, le-ltb, ne_eqb, eq-eqb}
use Rattle.frame.specs.Types.{Ty}
use Rattle.frame.specs.Trees.{head, Tree, node, Forest, nil, cons, append, nodes, nodes_in}
use Rattle.frame.specs.Tags.{pick}
use Rattle.frame.specs.Operators.{#BoundIdent}
use Rattle.frame.specs.Places.{Ctx, under}
use Rattle.frame.proofs.Inversion.{true_not}
use Rattle.frame.proofs.Forests.{nodes_append}
use Rattle.typing.specs.Typing.{type_at}
use Rattle.typing.specs.Binding.{closed_tree, closed_forest}
use Rattle.heads.specs.Leaves.{LeavesAt, LeavesIn}
use Rattle.binding.specs.Bound.{Opened, Below, bound_answer, Walked}
use Rattle.binding.proofs.OpenBinders.{TyAt, opened_length, opened_at}
use Rattle.binding.proofs.BinderTags.{leaves_same}

-- one tree has been gone over, and trees in a row
abbrev pub Walk : List ℕ → Tree → Ctx → ℕ → ℕ → ℕ → List ℕ → List ℕ → List ℕ → List ℕ → Option (ℕ × ℕ) → Type 0
Walk s t Γ depth k q b₀ l₀ b₁ l₁ r = Walked (closed_tree t Γ) (LeavesAt t Γ k s) depth k (k + nodes t) q b₀ l₀ b₁ l₁ r

abbrev pub WalkAll : List ℕ → Forest → Ctx → ℕ → ℕ → ℕ → List ℕ → List ℕ → List ℕ → List ℕ → Option (ℕ × ℕ) → Type 0
WalkAll s ts Γ depth k q b₀ l₀ b₁ l₁ r = Walked (closed_forest ts Γ) (LeavesIn ts Γ k s) depth k (k + nodes_in ts) q b₀ l₀ b₁ l₁ r

-- ---- answers
pub answer_no : (c : Bool) (q j : ℕ) → None ≡ bound_answer c q j → c ≡ false
answer_no true q j e = absurd (cc)
answer_no false q j e = refl

pub answer_yes : (c : Bool) (q j p i : ℕ) → ◌≡◌ {A = Option (ℕ × ℕ)} (Some (p, i)) (bound_answer c q j) → (c ≡ true) × (p ≡ q) × (i ≡ j)
answer_yes true q j p i e =
    let z : ◌≡◌ {A = ℕ × ℕ} (p, i) (q, j) = cc in
    (refl, ap (λ (x : ℕ × ℕ). x.0) z, ap (λ (x : ℕ × ℕ). x.1) z)
answer_yes false q j p i e = absurd (cc)

-- ---- a node that is no bound identifier
closed_other : (g n : ℕ) (us : List Ty) (ks : Forest) (Γ : Ctx) → (g ≡ #BoundIdent → ⊥)
    → closed_forest ks (under g us Γ) ≡ closed_tree (node (head g n us) ks) Γ
unfolding closed_tree
closed_other g n us ks Γ d = rw (ne_eqb g #BoundIdent d)

leaves_other : (g n : ℕ) (us : List Ty) (ks : Forest) (Γ : Ctx) (k : ℕ) (s l : List ℕ) → (g ≡ #BoundIdent → ⊥)
    → LeavesIn ks (under g us Γ) (suc k) s l → LeavesAt (node (head g n us) ks) Γ k s l
unfolding LeavesAt
leaves_other g n us ks Γ k s l d a = (
  subst (λ (b : Bool). pick {X = Type 0} b (TyAt s (get_or l k 0) (type_at Γ n)) (Unit {0}))
      (sym (ne_eqb g #BoundIdent d)) tt,
  a,
)

module _ (g n : ℕ) (us : List Ty) (ks : Forest) (Γ : Ctx) (d : g ≡ #BoundIdent → ⊥) (s : List ℕ) (depth inside k q : ℕ)
    (b₀ l₀ b₁ b₂ l₂ : List ℕ) (r : Option (ℕ × ℕ)) where
  abbrev here : Tree
  here = node (head g n us) ks

  pub walk_node : depth ≤ inside → Below depth b₀ b₁ → length b₁ ≡ length b₀
      → Walked (closed_forest ks (under g us Γ)) (LeavesIn ks (under g us Γ) (k + 1) s) inside (k + 1) (k + 1 + nodes_in ks) q b₁ l₀ b₂ l₂ r
      → Walked (closed_tree here Γ) (LeavesAt here Γ k s) depth k (k + nodes here) q b₀ l₀ b₂ l₂ r
  unfolding nodes
  walk_node le h e₁ w =
      let c = closed_other g n us ks Γ d in
      let z : k + 1 + nodes_in ks ≡ k + suc (nodes_in ks) = omega arith in
      let y : k + 1 ≡ suc k = omega arith in
      record {
        answer = w.answer ∙ ap₂ (λ (b : Bool) (j : ℕ). bound_answer b q j) c z;
        leaves = λ e. leaves_other g n us ks Γ k s l₂ d (subst (λ (i : ℕ). LeavesIn ks (under g us Γ) i s l₂) y (w.leaves (c ∙ e)));
        others = λ i o. w.others i (wider i o);
        kept = λ i l. w.kept i (omega arith) ∙ h i l;
        binders_size = w.binders_size ∙ e₁;
        leaves_size = w.leaves_size;
      }
    where
      wider : (i : ℕ) → (i < k) ⊎ (k + suc (nodes_in ks) ≤ i) → (i < k + 1) ⊎ (k + 1 + nodes_in ks ≤ i)
      wider i (inl l) = inl (omega arith)
      wider i (inr l) = inr (omega arith)

-- ---- a bound identifier
closed_none : (g n : ℕ) (us : List Ty) (ks : Forest) (Γ : Ctx) → g ≡ #BoundIdent → length Γ ≤ n → closed_tree (node (head g n us) ks) Γ ≡ false
unfolding closed_tree
closed_none g n us ks Γ e l = rw (eq-eqb g #BoundIdent e, le-ltb n (length Γ) l)

closed_some : (g n : ℕ) (us : List Ty) (Γ : Ctx) → g ≡ #BoundIdent → n < length Γ → closed_tree (node (head g n us) nil) Γ ≡ true
unfolding closed_tree
closed_some g n us Γ e l = rw (eq-eqb g #BoundIdent e, lt-ltb n (length Γ) l)

leaves_some : (g n : ℕ) (us : List Ty) (Γ : Ctx) (k : ℕ) (s l : List ℕ) → TyAt s (get_or l k 0) (type_at Γ n) → LeavesAt (node (head g n us) nil) Γ k s l
unfolding LeavesAt
leaves_some g n us Γ k s l a = (either (eqb g #BoundIdent), tt)
  where
    either : (b : Bool) → pick {X = Type 0} b (TyAt s (get_or l k 0) (type_at Γ n)) (Unit {0})
    either true = a
    either false = tt

module _ (s : List ℕ) (g n : ℕ) (us : List Ty) (Γ : Ctx) (is : g ≡ #BoundIdent) (depth k q : ℕ) (b l : List ℕ)
    (ll : length l ≡ 2048) (o : Opened s Γ b depth) where
  -- its index has no binder
  pub walk_none : (ks : Forest) → depth ≤ n → Walked (closed_tree (node (head g n us) ks) Γ) (LeavesAt (node (head g n us) ks) Γ k s) depth k
      (k + nodes (node (head g n us) ks)) q b l b l None
  walk_none ks le =
      let z = opened_length s Γ b depth o in
      let c = closed_none g n us ks Γ is (omega arith) in
      record {
        answer = sym (ap (λ (d : Bool). bound_answer d q (k + nodes (node (head g n us) ks))) c);
        leaves = λ f. true_not (sym c ∙ f);
        others = λ i f. refl;
        kept = λ i f. refl;
        binders_size = refl;
        leaves_size = ll;
      }

  -- it has one
  pub walk_leaf : n < depth → k < 2048
      → Walked (closed_tree (node (head g n us) nil) Γ) (LeavesAt (node (head g n us) nil) Γ k s) depth k
      (k + nodes (node (head g n us) nil)) q b l b (set l k (get_or b (depth - 1 - n) 0)) (Some (q, k + 1))
  unfolding nodes
  walk_leaf lt r =
      let v : ℕ = get_or b (depth - 1 - n) 0 in
      let z = opened_length s Γ b depth o in
      let c = closed_some g n us Γ is (omega arith) in
      let w : TyAt s (get_or (set l k v) k 0) (type_at Γ n) = subst (λ (i : ℕ). TyAt s i (type_at Γ n))
      (sym (get_or-set_same l k v 0 (omega arith))) (opened_at s Γ b depth o n lt) in
      record {
        answer = sym (ap (λ (d : Bool). bound_answer d q (k + 1)) c);
        leaves = λ f. leaves_some g n us Γ k s (set l k v) w;
        others = λ i f. get_or-set_other l k i v 0 (apart i f);
        kept = λ i f. refl;
        binders_size = refl;
        leaves_size = length-set l k v ∙ ll;
      }
    where
      apart : (i : ℕ) → (i < k) ⊎ (k + 1 ≤ i) → i ≡ k → ⊥
      apart i (inl h) e = omega arith
      apart i (inr h) e = omega arith

-- ---- trees in a row
pub walk_nil : (s : List ℕ) (Γ : Ctx) (depth k q : ℕ) (b l : List ℕ) → length l ≡ 2048 → WalkAll s nil Γ depth k q b l b l (Some (q, k))
unfolding closed_tree LeavesAt nodes
walk_nil s Γ depth k q b l ll =
    let z : k ≡ k + 0 = omega arith in
    record { answer = ap (λ (j : ℕ). Some (q, j)) z; leaves = λ f. tt; others = λ i f. refl; kept = λ i f. refl; binders_size = refl; leaves_size = ll }

module _ (s : List ℕ) (t : Tree) (ts : Forest) (Γ : Ctx) (depth k q p : ℕ) (b₀ l₀ b₁ l₁ : List ℕ) where
  -- what is not of the row is not of its first tree
  sooner : (i : ℕ) → (i < k) ⊎ (k + (nodes t + nodes_in ts) ≤ i) → (i < k) ⊎ (k + nodes t ≤ i)
  sooner i (inl h) = inl h
  sooner i (inr h) = inr (omega arith)

  pub walk_stop : Walk s t Γ depth k p b₀ l₀ b₁ l₁ None → WalkAll s (cons t ts) Γ depth k q b₀ l₀ b₁ l₁ None
  unfolding closed_tree LeavesAt nodes
  walk_stop w =
      let c = answer_no (closed_tree t Γ) p (k + nodes t) w.answer in
      let d : (closed_tree t Γ && closed_forest ts Γ) ≡ false = rw c in
      record {
        answer = sym (ap (λ (x : Bool). bound_answer x q (k + (nodes t + nodes_in ts))) d);
        leaves = λ f. true_not (sym d ∙ f);
        others = λ i f. w.others i (sooner i f);
        kept = w.kept;
        binders_size = w.binders_size;
        leaves_size = w.leaves_size;
      }

  pub walk_cons : (b₂ l₂ : List ℕ) (r : Option (ℕ × ℕ)) → Walk s t Γ depth k p b₀ l₀ b₁ l₁ (Some (p, k + nodes t))
      → WalkAll s ts Γ depth (k + nodes t) q b₁ l₁ b₂ l₂ r → WalkAll s (cons t ts) Γ depth k q b₀ l₀ b₂ l₂ r
  unfolding closed_tree LeavesAt nodes
  walk_cons b₂ l₂ r w v =
      let c = (answer_yes (closed_tree t Γ) p (k + nodes t) p (k + nodes t) w.answer).0 in
      let d : closed_forest ts Γ ≡ (closed_tree t Γ && closed_forest ts Γ) = rw c in
      let z : k + nodes t + nodes_in ts ≡ k + (nodes t + nodes_in ts) = omega arith in
      record {
        answer = v.answer ∙ ap₂ (λ (x : Bool) (j : ℕ). bound_answer x q j) d z;
        leaves = λ f. (leaves_same t Γ k s l₁ l₂ (k + nodes t) (omega arith) (λ i h. v.others i (inl h)) (w.leaves c), v.leaves (d ∙ f));
        others = λ i f. v.others i (later i f) ∙ w.others i (sooner i f);
        kept = λ i f. v.kept i f ∙ w.kept i f;
        binders_size = v.binders_size ∙ w.binders_size;
        leaves_size = v.leaves_size;
      }
    where
      later : (i : ℕ) → (i < k) ⊎ (k + (nodes t + nodes_in ts) ≤ i) → (i < k + nodes t) ⊎ (k + nodes t + nodes_in ts ≤ i)
      later i (inl h) = inl (omega arith)
      later i (inr h) = inr (omega arith)

-- ---- a node's children join the others
closed_append : (ks ls : Forest) (Γ : Ctx) → closed_forest (append ks ls) Γ ≡ (closed_forest ks Γ && closed_forest ls Γ)
unfolding closed_tree
closed_append nil ls Γ = refl
closed_append (cons t ks) ls Γ =
    ap (λ (b : Bool). closed_tree t Γ && b) (closed_append ks ls Γ) ∙ sym (and_assoc (closed_tree t Γ) (closed_forest ks Γ) (closed_forest ls Γ))

leaves_append : (ks ls : Forest) (Γ : Ctx) (k : ℕ) (s l : List ℕ) → LeavesIn (append ks ls) Γ k s l
    → LeavesIn ks Γ k s l × LeavesIn ls Γ (k + nodes_in ks) s l
unfolding LeavesAt nodes
leaves_append nil ls Γ k s l a = let z : k ≡ k + 0 = omega arith in (tt, subst (λ (i : ℕ). LeavesIn ls Γ i s l) z a)
leaves_append (cons t ks) ls Γ k s l a =
    let w = leaves_append ks ls Γ (k + nodes t) s l a.1 in
    let z : k + nodes t + nodes_in ks ≡ k + (nodes t + nodes_in ks) = omega arith in
    ((a.0, w.0), subst (λ (i : ℕ). LeavesIn ls Γ i s l) z w.1)

module _ (g n : ℕ) (us : List Ty) (ks ls : Forest) (Γ : Ctx) (d : g ≡ #BoundIdent → ⊥) (plain : Γ ≡ under g us Γ) (s : List ℕ) where
  closed_plain : closed_forest (append ks ls) Γ ≡ closed_forest (cons (node (head g n us) ks) ls) Γ
  unfolding closed_tree
  closed_plain =
      closed_append ks ls Γ
      ∙ ap (λ (Δ : Ctx). closed_forest ks Δ && closed_forest ls Γ) plain
      ∙ ap (λ (b : Bool). b && closed_forest ls Γ) (closed_other g n us ks Γ d)

  leaves_plain : (k : ℕ) (l : List ℕ) → LeavesIn (append ks ls) Γ (suc k) s l → LeavesIn (cons (node (head g n us) ks) ls) Γ k s l
  unfolding LeavesAt nodes
  leaves_plain k l a =
      let w = leaves_append ks ls Γ (suc k) s l a in
      let z : suc k + nodes_in ks ≡ k + suc (nodes_in ks) = omega arith in (
        leaves_other g n us ks Γ k s l d (subst (λ (Δ : Ctx). LeavesIn ks Δ (suc k) s l) plain w.0),
        subst (λ (i : ℕ). LeavesIn ls Γ i s l) z w.1,
      )

  pub walk_plain : (depth k q : ℕ) (b₀ l₀ b₁ l₁ : List ℕ) (r : Option (ℕ × ℕ)) → WalkAll s (append ks ls) Γ depth (k + 1) q b₀ l₀ b₁ l₁ r
      → WalkAll s (cons (node (head g n us) ks) ls) Γ depth k q b₀ l₀ b₁ l₁ r
  unfolding nodes
  walk_plain depth k q b₀ l₀ b₁ l₁ r w =
      let z : k + 1 + nodes_in (append ks ls) ≡ k + (suc (nodes_in ks) + nodes_in ls) = omega (arith, nodes_append ks ls) in
      let y : k + 1 ≡ suc k = omega arith in
      record {
        answer = w.answer ∙ ap₂ (λ (c : Bool) (j : ℕ). bound_answer c q j) closed_plain z;
        leaves = λ e. leaves_plain k l₁ (subst (λ (i : ℕ). LeavesIn (append ks ls) Γ i s l₁) y (w.leaves (closed_plain ∙ e)));
        others = λ i o. w.others i (wider i o);
        kept = w.kept;
        binders_size = w.binders_size;
        leaves_size = w.leaves_size;
      }
    where
      wider : (i : ℕ) → (i < k) ⊎ (k + (suc (nodes_in ks) + nodes_in ls) ≤ i) → (i < k + 1) ⊎ (k + 1 + nodes_in (append ks ls) ≤ i)
      wider i (inl l) = inl (omega arith)
      wider i (inr l) = inr (omega (arith, nodes_append ks ls))
