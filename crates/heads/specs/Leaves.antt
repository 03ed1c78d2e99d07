-- Where the types of bound identifiers stand: a table beside the table of node starts, by place. The check of number 8
-- fills it; typing reads it, so that typing needs no list of binders.
use Rattle.std.specs.Prelude.{ℕ, suc, ◌+◌, List, length, get_or, eqb}
use Rattle.frame.specs.Trees.{head, Tree, node, Forest, nil, cons, nodes}
use Rattle.frame.specs.Tags.{pick}
use Rattle.frame.specs.Operators.{#BoundIdent}
use Rattle.frame.specs.Encoding.{enc_ty}
use Rattle.frame.specs.Places.{Ctx, under}
use Rattle.frame.specs.Spans.{Spans}
use Rattle.typing.specs.Typing.{type_at}

-- in the frame s, at the position that the table has for the place k of a bound identifier, its type's bytes stand; k is
-- the place of the tree's root
unfoldable mutual
  pub LeavesAt : Tree → Ctx → ℕ → List ℕ → List ℕ → Type 0
  LeavesAt (node (head g n us) ks) Γ k s table =
      let at = get_or table k 0 in
      let type = enc_ty (type_at Γ n) in
      pick {X = Type 0} (eqb g #BoundIdent) (Spans s at (at + length type) type) (Unit {0}) × LeavesIn ks (under g us Γ) (suc k) s table

  pub LeavesIn : Forest → Ctx → ℕ → List ℕ → List ℕ → Type 0
  LeavesIn nil Γ k s table = Unit {0}
  LeavesIn (cons t ts) Γ k s table = LeavesAt t Γ k s table × LeavesIn ts Γ (k + nodes t) s table
