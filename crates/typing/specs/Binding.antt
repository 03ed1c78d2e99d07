-- Number 8 (document 01: "A bound index has no binder, anywhere in the tree.").
use Rattle.std.specs.Prelude.{ℕ, Bool, true, ◌&&◌, length, eqb, ltb}
use Rattle.frame.specs.Trees.{head, Tree, node, Forest, nil, cons}
use Rattle.frame.specs.Tags.{pick}
use Rattle.frame.specs.Operators.{#BoundIdent}
use Rattle.frame.specs.Places.{Ctx, under}

-- a node's own index is below the number of binders around it
abbrev pub index_bound : ℕ → ℕ → Ctx → Bool
index_bound g n Γ = pick (eqb g #BoundIdent) (ltb n (length Γ)) true

unfoldable mutual
  pub closed_tree : Tree → Ctx → Bool
  closed_tree (node (head g n us) ks) Γ = index_bound g n Γ && closed_forest ks (under g us Γ)

  pub closed_forest : Forest → Ctx → Bool
  closed_forest nil Γ = true
  closed_forest (cons t ts) Γ = closed_tree t Γ && closed_forest ts Γ
