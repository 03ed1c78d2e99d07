use mathlib.Core.Path.{◌≡◌, ◌∙◌}
use native.Mathlib.Omega.{arith}
use Rattle.frame.specs.Encoding.{enc_ty}
use Rattle.parts.specs.Types.{side_of}
use Rattle.parts.proofs.MadeTypes.{type_says, type_whole, type_held, type_some, side_none, product_stands, end_within, first_bytes, second_bytes}
use Rattle.parts.proofs.type_bytes.TypeBytes.side.Goals.{in-First, in-Second}
use Rattle.parts.proofs.type_bytes.TypeBytes.side.Goals as goal

pub bounds-self-inside-0 : goal.bounds-self-inside-0
bounds-self-inside-0 c = type_some _ _ c.self.invariant

pub returns-then-self-ne-PRODUCT : goal.returns-then-self-ne-PRODUCT
returns-then-self-ne-PRODUCT c =
    c.boolean.ensures ∙ side_none _ _ (type_held _ _ c.self.invariant c.self.view_is) c.if-self-ne-PRODUCT.true c.args.which

pub type_end-end-requires : goal.type_end-end-requires
type_end-end-requires c = product_stands _ _ c.self.invariant c.if-self-ne-PRODUCT.false

pub slice_bounds-bytes-count : goal.slice_bounds-bytes-count
slice_bounds-bytes-count c = (end_within _ _ c.self.invariant c.if-self-ne-PRODUCT.false _ c.type_end-end.ensures).0

pub slice_bounds-bytes-start : goal.slice_bounds-bytes-start
slice_bounds-bytes-start c = let z = end_within _ _ c.self.invariant c.if-self-ne-PRODUCT.false _ c.type_end-end.ensures in omega arith

pub slice_bounds-bytes-end : goal.slice_bounds-bytes-end
slice_bounds-bytes-end c = let z = end_within _ _ c.self.invariant c.if-self-ne-PRODUCT.false _ c.type_end-end.ensures in omega arith

pub slice_bounds-bytes-count-in-Second : goal.slice_bounds-bytes-count-in-Second
slice_bounds-bytes-count-in-Second c = (end_within _ _ c.self.invariant c.if-self-ne-PRODUCT.false _ c.type_end-end.ensures).1

pub slice_bounds-bytes-start-in-Second : goal.slice_bounds-bytes-start-in-Second
slice_bounds-bytes-start-in-Second c = let z = end_within _ _ c.self.invariant c.if-self-ne-PRODUCT.false _ c.type_end-end.ensures in omega arith

-- the bytes that the `match` picks are those of the side
picked : (c : goal.Joined-which) → c.match-which.bytes.now ≡ enc_ty (side_of c.args.which c.args.self.now)
picked c = let v = type_held _ _ c.self.invariant c.self.view_is in
    elim c.match-which.branch [
      | in-First w ↦ rw (w.bytes-is, w.in-First.is) (first_bytes _ _ v c.if-self-ne-PRODUCT.false _ c.type_end-end.ensures)
      | in-Second w ↦ rw (w.bytes-is, w.in-Second.is) (second_bytes _ _ v c.if-self-ne-PRODUCT.false _ c.type_end-end.ensures)
    ]

pub invariant_of-result : goal.invariant_of-result
invariant_of-result c = type_whole _ _ (picked c)

pub returns : goal.returns
returns c = type_says _ _ (picked c)
