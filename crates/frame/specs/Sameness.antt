-- Sameness (document 01, "The type record": "Sameness of trees is the same tag, payload and types; binder names play no part.").
-- In the source `eq` of expression.rs (document 008) compares the types of two expressions, then `kind_eq` the rest, and in it `alpha_eq`
-- of decl.rs (010) binders, by their types alone. Here the types that trees carry are compared: the other types follow from them, since
-- the two trees stand in one binder context. "If the Rust compares otherwise, ours holds; docs/DIFFERENCES.md says so, and frames where that, or a place
-- left out as above, changes an answer are the only ones excused from equality with the Rust."
use Rattle.std.specs.Prelude.{Bool, true, false, ◌&&◌, List, [], ◌∷◌, eqb}
use Rattle.frame.specs.Types.{Ty, bool, int, given, pow, prod}
use Rattle.frame.specs.Trees.{head, Tree, node, Forest, nil, cons}

unfoldable pub same_ty : Ty → Ty → Bool
same_ty bool bool = true
same_ty bool int = false
same_ty bool (given m) = false
same_ty bool (pow v) = false
same_ty bool (prod v w) = false
same_ty int bool = false
same_ty int int = true
same_ty int (given m) = false
same_ty int (pow v) = false
same_ty int (prod v w) = false
same_ty (given n) bool = false
same_ty (given n) int = false
same_ty (given n) (given m) = eqb n m
same_ty (given n) (pow v) = false
same_ty (given n) (prod v w) = false
same_ty (pow t) bool = false
same_ty (pow t) int = false
same_ty (pow t) (given m) = false
same_ty (pow t) (pow v) = same_ty t v
same_ty (pow t) (prod v w) = false
same_ty (prod t u) bool = false
same_ty (prod t u) int = false
same_ty (prod t u) (given m) = false
same_ty (prod t u) (pow v) = false
same_ty (prod t u) (prod v w) = same_ty t v && same_ty u w

unfoldable pub same_tys : List Ty → List Ty → Bool
same_tys [] [] = true
same_tys [] (u ∷ us) = false
same_tys (t ∷ ts) [] = false
same_tys (t ∷ ts) (u ∷ us) = same_ty t u && same_tys ts us

unfoldable mutual
  pub same_tree : Tree → Tree → Bool
  same_tree (node (head g n ts) ks) (node (head h m us) ls) = eqb g h && (eqb n m && (same_tys ts us && same_forest ks ls))

  pub same_forest : Forest → Forest → Bool
  same_forest nil nil = true
  same_forest nil (cons u us) = false
  same_forest (cons t ts) nil = false
  same_forest (cons t ts) (cons u us) = same_tree t u && same_forest ts us
