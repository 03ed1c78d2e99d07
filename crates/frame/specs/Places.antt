-- Places (document 01: "Place k is the k-th node in prefix order, root 0; types and binders are no nodes.").
use Rattle.std.specs.Prelude.{ℕ, zero, suc, ◌-◌, List, [], ◌∷◌, ltb}
use Rattle.frame.specs.Types.{Ty}
use Rattle.frame.specs.Trees.{head, Tree, node, Forest, nil, cons, nodes}
use Rattle.frame.specs.Tags.{pick, form_of, binders_of}

-- the types of the binders around a node: "index 0 is the last binder of the nearest list, counting back through it and
-- then on through the lists around it"
abbrev pub Ctx : Type 0
Ctx = List Ty

abbrev pub push : List Ty → Ctx → Ctx
push [] Γ = Γ
push (t ∷ ts) Γ = push ts (t ∷ Γ)

-- the context of the children of a node with this tag and these types
abbrev pub under : ℕ → List Ty → Ctx → Ctx
under g ts Γ = push (binders_of (form_of g).layout ts) Γ

pub data Found : Type 0 where
  -- a subtree, and the context that it stands in
  found : Ctx → Tree → Found
  absent : Found

-- the subtree at place k
unfoldable mutual
  pub find : Tree → Ctx → ℕ → Found
  find (node h ks) Γ zero = found Γ (node h ks)
  find (node (head g n ts) ks) Γ (suc k) = find_in ks (under g ts Γ) k

  pub find_in : Forest → Ctx → ℕ → Found
  find_in nil Γ k = absent
  find_in (cons t ts) Γ k = let here = find t Γ k in let next = find_in ts Γ (k - nodes t) in pick (ltb k (nodes t)) here next

-- the tree with the subtree at place k replaced by u
unfoldable mutual
  pub replace : Tree → ℕ → Tree → Tree
  replace (node h ks) zero u = u
  replace (node h ks) (suc k) u = node h (replace_in ks k u)

  pub replace_in : Forest → ℕ → Tree → Forest
  replace_in nil k u = nil
  replace_in (cons t ts) k u =
      let here = cons (replace t k u) ts in let next = cons t (replace_in ts (k - nodes t) u) in pick (ltb k (nodes t)) here next
