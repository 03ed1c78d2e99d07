-- The ways out of `read`, on plain values.
-- Main results: read_empty, read_long, read_refused, read_more, read_whole; frame_filled.
use mathlib.Core.Path.{◌≡◌, sym, ap, ap₂, ◌∙◌}
use mathlib.Core.List.{List, ◌++◌}
use Prim.Native.Nat.{ℕ, suc, ◌+◌, ◌-◌, ◌≤◌, ◌<◌}
use native.Mathlib.Omega.{arith}
use lib.ListN.{length, drop, replicate, length-replicate}
use lib.Seq.{sets, sets-eq}
use borrow.Author.Tests.{lt-ltb, le-ltb, ne_eqb}
use Rattle.std.proofs.Common.{Result, Ok, Err, IsErrAnd, eqb, true, false}
use Rattle.std.proofs.lemmas.List.{drop-replicate}
use Rattle.frame.specs.Trees.{Tree, nodes}
use Rattle.frame.specs.Refusals.{refusal}
use Rattle.frame.specs.declared.refusals.Refusal.{Refusal}
use Rattle.frame.specs.Tags.{predicate}
use Rattle.frame.specs.Encoding.{starts}
use Rattle.frame.specs.Reading.{ok, read_node, tree, frame_limit, whole, parse}
use Rattle.frame.specs.Spans.{Bytes}
use Rattle.reading.specs.declared.FrameRead.{FrameRead}
use Rattle.reading.specs.Post.{frame_answer, table_size, table_of, filled, NodePost}
use Rattle.frame.proofs.ReadTrees.{node_enc}
use Rattle.frame.proofs.Extents.{nodes_enc, starts_length}
use Rattle.heads.proofs.HeadSays.{handed_on}
use Rattle.reading.proofs.NodeTurns.{read_so, node_yes, node_no}

-- ---- a table of zeros with a run of stores at its start
pub sets_zeros : (n : ℕ) (xs : List ℕ) → length xs ≤ n → sets {A = ℕ} (replicate n 0) 0 xs ≡ xs ++ replicate (n - length xs) 0
sets_zeros n xs h =
    let z : 0 + length xs ≡ length xs = omega arith in
    sets-eq xs (replicate n 0) 0 (omega (arith, length-replicate {A = ℕ} n 0))
    ∙ ap (λ (k : ℕ). xs ++ drop k (replicate n 0)) z
    ∙ ap (λ (l : List ℕ). xs ++ l) (drop-replicate (length xs) n 0)

-- what was read is a frame's, once the starts of its nodes are added to none
pub frame_filled : (b : FrameRead) → (b.nodes ≡ 0) × (b.starts ≡ replicate table_size 0) → (t : Tree) → nodes t ≤ table_size
    → filled b (starts t 0) ≡ read_so (nodes t) (table_of (tree t))
frame_filled b fresh t fits =
    let n : length (starts t 0) ≡ nodes t = starts_length t 0 in
    let z : b.nodes + length (starts t 0) ≡ nodes t = omega (arith, fresh.0) in
    ap₂ read_so z
    (ap₂ (λ (l : List ℕ) (i : ℕ). sets l i (starts t 0)) fresh.1 fresh.0
    ∙ sets_zeros table_size (starts t 0) (omega arith)
    ∙ ap (λ (i : ℕ). starts t 0 ++ replicate (table_size - i) 0) n)

-- ---- read
pub read_empty : (s : List ℕ) → eqb (length s) 0 ≡ true → Err (refusal 2) ≡ frame_answer (parse s)
unfolding parse
read_empty s h = rw h

pub read_long : (s : List ℕ) → frame_limit < length s → Err (refusal 2) ≡ frame_answer (parse s)
unfolding parse
read_long s l = let h : length s ≡ 0 → ⊥ = λ e. omega arith in rw (ne_eqb (length s) 0 h, lt-ltb frame_limit (length s) l)

module _ (s : List ℕ) (h : eqb (length s) 0 ≡ false) (l : length s ≤ frame_limit) (b₀ b₁ : FrameRead) where
  to_root : parse s ≡ whole (length s) (read_node (suc (length s)) s predicate 0)
  unfolding parse
  to_root = rw (h, le-ltb frame_limit (length s) l)

  pub read_refused : (x : Result FrameRead Refusal) (r : Refusal) → IsErrAnd x (λ y. y ≡ r) → NodePost s predicate 0 b₀ b₁ (Err r)
      → x ≡ frame_answer (parse s)
  read_refused x r i post =
      let (c, is, z) = node_no (read_node (suc (length s)) s predicate 0) r (post.answer (suc (length s)) (omega arith)) in
      handed_on x r i ∙ ap Err z ∙ ap frame_answer (sym (to_root ∙ ap (whole (length s)) is))

  module _ (p : ℕ) (post : NodePost s predicate 0 b₀ b₁ (Ok p)) where
    got : (u : Tree) × (read_node (suc (length s)) s predicate 0 ≡ ok u p)
    got = node_yes (read_node (suc (length s)) s predicate 0) p (post.answer (suc (length s)) (omega arith))

    pub read_more : p < length s → Err (refusal 7) ≡ frame_answer (parse s)
    read_more x = rw (to_root, got.1, lt-ltb p (length s) x)

    pub read_whole : Bytes s → length s ≤ p → (b₀.nodes ≡ 0) × (b₀.starts ≡ replicate table_size 0) → Ok b₁ ≡ frame_answer (parse s)
    read_whole bs x fresh =
        let (u, is) = got in
        let e : parse s ≡ tree u = to_root ∙ ap (whole (length s)) is ∙ rw (le-ltb p (length s) x) in
        let sp = node_enc (suc (length s)) s bs predicate 0 u p is in
        let fits : nodes u ≤ table_size = omega (arith, sp.long, sp.within, nodes_enc u) in
        ap Ok (post.table (suc (length s)) (omega arith) u p is ∙ frame_filled b₀ fresh u fits) ∙ ap frame_answer (sym e)
