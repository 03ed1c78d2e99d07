-- Sameness of types and trees is equality.
-- Main results: same_ty_lem, same_tys_lem, same_tree_lem, same_forest_lem; each with -refl and -differ.
use mathlib.Core.Path.{◌≡◌, refl, sym, ap, ap₂, ◌∙◌}
use mathlib.Core.Bool.{Bool, true, false, ◌&&◌}
use mathlib.Core.List.{List, [], ◌∷◌}
use Prim.Native.Nat.{ℕ}
use lib.Dec.{eqb}
use borrow.Author.Tests.{eqb-true, eq-eqb}
use Rattle.frame.specs.Types.{Ty, bool, int, given, pow, prod}
use Rattle.frame.specs.Trees.{head, Tree, node, Forest, nil, cons}
use Rattle.frame.specs.Sameness.{same_ty, same_tys, same_tree, same_forest}
use Rattle.frame.proofs.Inversion.{true_not}
use Rattle.frame.proofs.Booleans.{both_true, both_of}

-- a test that says true of equals, and says false: there is no equality
differ : {X : Type 0} (test : X → X → Bool) → ((x : X) → test x x ≡ true) → (x y : X) → test x y ≡ false → x ≡ y → ⊥
differ test r x y e q = true_not (sym e ∙ ap (test x) (sym q) ∙ r x)

-- ---- types
pub same_ty_lem : (t u : Ty) → same_ty t u ≡ true → t ≡ u
unfolding same_ty
same_ty_lem bool bool e = refl
same_ty_lem bool int e = true_not e
same_ty_lem bool (given m) e = true_not e
same_ty_lem bool (pow v) e = true_not e
same_ty_lem bool (prod v w) e = true_not e
same_ty_lem int bool e = true_not e
same_ty_lem int int e = refl
same_ty_lem int (given m) e = true_not e
same_ty_lem int (pow v) e = true_not e
same_ty_lem int (prod v w) e = true_not e
same_ty_lem (given n) bool e = true_not e
same_ty_lem (given n) int e = true_not e
same_ty_lem (given n) (given m) e = ap given (eqb-true n m e)
same_ty_lem (given n) (pow v) e = true_not e
same_ty_lem (given n) (prod v w) e = true_not e
same_ty_lem (pow t) bool e = true_not e
same_ty_lem (pow t) int e = true_not e
same_ty_lem (pow t) (given m) e = true_not e
same_ty_lem (pow t) (pow v) e = ap pow (same_ty_lem t v e)
same_ty_lem (pow t) (prod v w) e = true_not e
same_ty_lem (prod t u) bool e = true_not e
same_ty_lem (prod t u) int e = true_not e
same_ty_lem (prod t u) (given m) e = true_not e
same_ty_lem (prod t u) (pow v) e = true_not e
same_ty_lem (prod t u) (prod v w) e = let b = both_true (same_ty t v) (same_ty u w) e in ap₂ prod (same_ty_lem t v b.0) (same_ty_lem u w b.1)

pub same_ty_refl : (t : Ty) → same_ty t t ≡ true
unfolding same_ty
same_ty_refl bool = refl
same_ty_refl int = refl
same_ty_refl (given n) = eq-eqb n n refl
same_ty_refl (pow t) = same_ty_refl t
same_ty_refl (prod t u) = both_of (same_ty_refl t) (same_ty_refl u)

pub same_ty_differ : (t u : Ty) → same_ty t u ≡ false → t ≡ u → ⊥
same_ty_differ = differ same_ty same_ty_refl

pub same_tys_lem : (ts us : List Ty) → same_tys ts us ≡ true → ts ≡ us
unfolding same_tys
same_tys_lem [] [] e = refl
same_tys_lem [] (u ∷ us) e = true_not e
same_tys_lem (t ∷ ts) [] e = true_not e
same_tys_lem (t ∷ ts) (u ∷ us) e =
    let b = both_true (same_ty t u) (same_tys ts us) e in
    ap₂ (λ (x : Ty) (xs : List Ty). x ∷ xs) (same_ty_lem t u b.0) (same_tys_lem ts us b.1)

pub same_tys_refl : (ts : List Ty) → same_tys ts ts ≡ true
unfolding same_tys
same_tys_refl [] = refl
same_tys_refl (t ∷ ts) = both_of (same_ty_refl t) (same_tys_refl ts)

pub same_tys_differ : (ts us : List Ty) → same_tys ts us ≡ false → ts ≡ us → ⊥
same_tys_differ = differ same_tys same_tys_refl

-- ---- trees
-- the four parts that two nodes have to share
node_same : (g h n m : ℕ) (ts us : List Ty) (ks ls : Forest) → eqb g h ≡ true → eqb n m ≡ true → same_tys ts us ≡ true → ks ≡ ls
    → node (head g n ts) ks ≡ node (head h m us) ls
node_same g h n m ts us ks ls eg en et ek = cc (eqb-true g h eg, eqb-true n m en, same_tys_lem ts us et)

mutual
  unfolding same_tree

  pub same_tree_lem : (t u : Tree) → same_tree t u ≡ true → t ≡ u
  same_tree_lem (node (head g n ts) ks) (node (head h m us) ls) e =
      let a = both_true (eqb g h) (eqb n m && (same_tys ts us && same_forest ks ls)) e in
      let b = both_true (eqb n m) (same_tys ts us && same_forest ks ls) a.1 in
      let c = both_true (same_tys ts us) (same_forest ks ls) b.1 in
      node_same g h n m ts us ks ls a.0 b.0 c.0 (same_forest_lem ks ls c.1)

  pub same_forest_lem : (ts us : Forest) → same_forest ts us ≡ true → ts ≡ us
  same_forest_lem nil nil e = refl
  same_forest_lem nil (cons u us) e = true_not e
  same_forest_lem (cons t ts) nil e = true_not e
  same_forest_lem (cons t ts) (cons u us) e =
      let b = both_true (same_tree t u) (same_forest ts us) e in
      ap₂ cons (same_tree_lem t u b.0) (same_forest_lem ts us b.1)

mutual
  unfolding same_tree

  pub same_tree_refl : (t : Tree) → same_tree t t ≡ true
  same_tree_refl (node (head g n ts) ks) =
      both_of (eq-eqb g g refl) (both_of (eq-eqb n n refl) (both_of (same_tys_refl ts) (same_forest_refl ks)))

  pub same_forest_refl : (ts : Forest) → same_forest ts ts ≡ true
  same_forest_refl nil = refl
  same_forest_refl (cons t ts) = both_of (same_tree_refl t) (same_forest_refl ts)

pub same_tree_differ : (t u : Tree) → same_tree t u ≡ false → t ≡ u → ⊥
same_tree_differ = differ same_tree same_tree_refl

pub same_forest_differ : (ts us : Forest) → same_forest ts us ≡ false → ts ≡ us → ⊥
same_forest_differ = differ same_forest same_forest_refl
