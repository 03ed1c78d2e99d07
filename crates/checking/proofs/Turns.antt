-- Laws for each way out of the check, on plain values.
-- Main results: type_pre, typed_by; refused_read; bound_out, names_out, typed_out, accepted_out.
use mathlib.Core.Path.{◌≡◌, sym, ap, ◌∙◌, subst}
use mathlib.Core.Bool.{Bool, true, false}
use mathlib.Core.List.{List, []}
use Prim.Native.Nat.{ℕ, ◌+◌, ◌*◌, ◌≤◌}
use native.Mathlib.Omega.{arith}
use lib.ListN.{length}
use Rattle.frame.specs.Trees.{Tree, nodes}
use Rattle.frame.specs.Tags.{predicate}
use Rattle.frame.specs.Reading.{Parsed, tree, bad, parse}
use Rattle.frame.specs.Spans.{Bytes}
use Rattle.frame.specs.At.{IsAt}
use Rattle.std.proofs.Common.{Ok, Err}
use Rattle.frame.specs.Refusals.{refusal}
use Rattle.frame.specs.declared.refusals.Refusal.{Refusal}
use Rattle.frame.specs.declared.refusals.Refusal.TheVariants.{NoBinder, TwoTypes, BadlyTyped}
use Rattle.frame.proofs.Frames.{parse_enc}
use Rattle.frame.proofs.Extents.{nodes_enc}
use Rattle.heads.proofs.View.{parse_at, at_span}
use Rattle.typing.specs.Typing.{typed_tree}
use Rattle.typing.specs.Binding.{closed_tree}
use Rattle.typing.specs.Identifiers.{names_agree}
use Rattle.heads.specs.Leaves.{LeavesAt}
use Rattle.typing.specs.Check.{accepted, check_tree, check_parsed, check, check_answer}
use Rattle.typing.proofs.Decides.{check_accepted}
use Rattle.synthesis.specs.TypingPosts.{TypePre, TypePost, Typing}
use Rattle.std.proofs.Common.{Option, Some, None}
use Rattle.std.specs.Prelude.{is_some}
use Rattle.reading.specs.Post.{frame_answer}
use Rattle.reading.specs.declared.frames.Frame.{Frame}
use Rattle.reading.proofs.FrameTree.{frame_tree, frame_stands, frame_fits}
use Rattle.binding.specs.Bound.{BindingPost}
use Rattle.checking.specs.Posts.{LeavesListed, TypedPost, NodesOf, TreePost}

-- ---- typing
few_nodes : (s : List ℕ) → Bytes s → (t : Tree) → IsAt s predicate 0 t (length s) → nodes t + nodes t ≤ length s
few_nodes s bs t h = omega (arith, nodes_enc t, (at_span s bs predicate 0 t (length s) h).long)

module _ (f : Frame) (leaves types : List ℕ) where
  abbrev bytes : List ℕ
  bytes = f.bytes.now

  -- a buffer for a frame of so many bytes: a node has two bytes at least
  abbrev pub Roomy : Type 0
  Roomy = 32 * length bytes + 64 ≤ length types

  pub type_pre : LeavesListed bytes leaves → Roomy → TypePre bytes 0 0 leaves types
  type_pre l d =
      let (t, stands) = frame_stands f in
      let n = few_nodes bytes f.in_range t stands in
      let fits = frame_fits f in
      record {
        sort = predicate;
        tree = t;
        to = length bytes;
        Γ = [];
        stands = stands;
        leafs = l t stands;
        frame = fits;
        places = omega arith;
        buffer = omega arith;
      }

  pub typed_by : (r : Option ℕ) → Roomy → TypePost bytes 0 0 leaves types r → (b : Bool) → b ≡ is_some r → TypedPost bytes leaves b
  typed_by r d q b e = record { answer = λ t h k. e ∙ go t r (q.answer predicate t (length bytes) [] h k (room t h) (buffer t h)) }
    where
      room : (t : Tree) → IsAt bytes predicate 0 t (length bytes) → 0 + nodes t ≤ 2048
      room t h = omega (arith, few_nodes bytes f.in_range t h, frame_fits f)

      buffer : (t : Tree) → IsAt bytes predicate 0 t (length bytes) → 64 * nodes t + 64 ≤ length types
      buffer t h = omega (arith, few_nodes bytes f.in_range t h, d)

      go : (t : Tree) (x : Option ℕ) → Typing x t [] types → is_some x ≡ typed_tree t []
      go t (Some n) y = sym y.0
      go t None y = sym y

-- ---- a frame that was not read
pub refused_read : (s : List ℕ) (r : Refusal) → Err r ≡ frame_answer (parse s) → Err r ≡ check_answer (check s)
unfolding check
refused_read s r e = go (parse s) e
  where
    go : (x : Parsed) → Err r ≡ frame_answer x → Err r ≡ check_answer (check_parsed x)
    go (tree t) e = cc
    go (bad d) e = let z : r ≡ refusal d = cc in ap Err z

-- ---- the ways out, by what was answered before
module _ (f : Frame) {l₀ leaves : List ℕ} {closed : Bool} (bound : BindingPost f.bytes.now l₀ leaves closed) where
  abbrev s : List ℕ
  s = f.bytes.now

  abbrev t : Tree
  t = (frame_tree f).0

  stands : IsAt s predicate 0 t (length s)
  stands = parse_at s f.in_range t (frame_tree f).1

  checks : check s ≡ check_tree t
  unfolding check
  checks = rw (frame_tree f).1

  refused : (r : Refusal) → Err r ≡ check_answer (check s) → TreePost s leaves (Err r)
  refused r e = record { answer = e; leafs = λ u h. not_accepted u (e ∙ ap check_answer h); size = bound.size }
    where
      not_accepted : (u : Tree) → Err r ≡ Ok (nodes u) → LeavesAt u [] 0 s leaves
      not_accepted u z = cc

  pub bound_out : closed ≡ false → TreePost s leaves (Err NoBinder)
  unfolding check_tree
  bound_out e = refused NoBinder (rw (checks, sym (bound.answer t stands) ∙ e))

  module _ (is_closed : closed ≡ true) where
    closes : closed_tree t [] ≡ true
    closes = sym (bound.answer t stands) ∙ is_closed

    pub listed : LeavesListed s leaves
    listed = bound.leaves is_closed

    module _ {agree : Bool} (names : (t : Tree) → IsAt s predicate 0 t (length s) → agree ≡ names_agree t) where
      pub names_out : agree ≡ false → TreePost s leaves (Err TwoTypes)
      unfolding check_tree
      names_out e = refused TwoTypes (rw (checks, closes, sym (names t stands) ∙ e))

      module _ (agrees : agree ≡ true) {typed : Bool} (types : TypedPost s leaves typed) where
        named : names_agree t ≡ true
        named = sym (names t stands) ∙ agrees

        types_all : typed ≡ typed_tree t []
        types_all = types.answer t stands (listed t stands)

        pub typed_out : typed ≡ false → TreePost s leaves (Err BadlyTyped)
        unfolding check_tree
        typed_out e = refused BadlyTyped (rw (checks, closes, named, sym types_all ∙ e))

        pub accepted_out : typed ≡ true → (n : ℕ) → NodesOf s n → TreePost s leaves (Ok n)
        unfolding check check_tree
        accepted_out e n many = record {
          answer = rw (checks, closes, named, sym types_all ∙ e) (ap Ok (many t (frame_tree f).1));
          leafs = λ u c. (let z : check_tree t ≡ accepted u = ap check_parsed (sym (frame_tree f).1) ∙ c in
              subst (λ (v : Tree). LeavesAt v [] 0 s leaves)
              (sym (check_accepted t u (parse_enc s f.in_range t (frame_tree f).1).wf z).0) (listed t stands));
          size = bound.size;
        }
