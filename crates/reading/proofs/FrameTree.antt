-- What a frame that was read gives.
-- Main results: frame_tree (its tree), frame_stands, frame_fits; tree_frame, stands_tree (which bytes are a frame's).
use mathlib.Core.Path.{◌≡◌, refl, sym, ap, ◌∙◌}
use mathlib.Core.List.{List}
use Prim.Native.Nat.{ℕ, ◌≤◌}
use lib.ListN.{length}
use Rattle.std.specs.Prelude.{IsTrue}
use Rattle.frame.specs.Trees.{Tree}
use Rattle.frame.specs.Tags.{predicate}
use Rattle.frame.specs.Reading.{frame_limit, Parsed, tree, bad, parse}
use Rattle.frame.specs.Encoding.{enc}
use Rattle.frame.specs.Spans.{Bytes}
use Rattle.frame.specs.At.{IsAt}
use Rattle.reading.specs.Frames.{is_tree, is_frame}
use Rattle.reading.specs.declared.frames.Frame.{Frame}
use Rattle.frame.proofs.Spans.{span_all}
use Rattle.frame.proofs.Frames.{parse_inv, parse_back}
use Rattle.heads.proofs.View.{at_span, at_wf, parse_at}

pub tree_frame : (s : List ℕ) (t : Tree) → parse s ≡ tree t → IsTrue (is_frame s)
unfolding is_frame
tree_frame s t e = ap is_tree e

-- a tree that stands there from end to end was read
pub stands_tree : (s : List ℕ) → Bytes s → length s ≤ frame_limit → (t : Tree) → IsAt s predicate 0 t (length s) → parse s ≡ tree t
stands_tree s bs l t a =
    let e : enc t ≡ s = span_all (at_span s bs predicate 0 t (length s) a) in
    ap parse (sym e) ∙ parse_back t (at_wf s bs predicate 0 t (length s) a) (rw e l)

module _ (f : Frame) where
  abbrev s : List ℕ
  s = f.bytes.now

  pub frame_tree : (t : Tree) × (parse s ≡ tree t)
  unfolding is_frame
  frame_tree = go (parse s) f.is_read
    where
      go : (x : Parsed) → IsTrue (is_tree x) → (t : Tree) × (x ≡ tree t)
      go (tree t) i = (t, refl)
      go (bad c) i = cc

  pub frame_fits : length s ≤ frame_limit
  frame_fits = let (t, e) = frame_tree in (parse_inv s t e).fits

  pub frame_stands : (t : Tree) × IsAt s predicate 0 t (length s)
  frame_stands = let (t, e) = frame_tree in (t, parse_at s f.in_range t e)
