-- The turns of `read_trees` and its ways out, on plain values.
-- Main results: Going, the invariant of its loop; going_begins, going_done; head_known; turn_refused, turn_room, turn_last, turn_leaf, turn_begins, turn_stop,
-- turn_over; of_row.
use mathlib.Core.Path.{◌≡◌, refl, sym, ap, ap₂, ◌∙◌, subst}
use mathlib.Core.List.{List, [], ◌∷◌, append-nil}
use Prim.Native.Nat.{ℕ, ◌+◌, ◌-◌, ◌≤◌, ◌<◌}
use native.Mathlib.Omega.{arith}
use lib.ListN.{length}
use Rattle.std.proofs.Common.{Ok, Err, IsErrAnd}
use Rattle.frame.specs.Trees.{Tree, Forest, nil, cons}
use Rattle.frame.specs.declared.refusals.Refusal.{Refusal}
use Rattle.frame.specs.Tags as T
use Rattle.tags.specs.declared.forms.Sort.{Sort}
use Rattle.tags.specs.TagCodes.{sort_for, first_sort, later_sort, kinds_for}
use Rattle.frame.specs.Encoding.{starts, starts_in}
use Rattle.frame.specs.Reading.{Res, ok, no, ok_f, then_f, read_many, read_node}
use Rattle.frame.specs.Spans.{Bytes}
use Rattle.heads.specs.declared.Head.{Head as ReadHead}
use Rattle.heads.specs.HeadPost.{facts, payload_in, sorts_in, said, head_there}
use Rattle.reading.specs.declared.FrameRead.{FrameRead}
use Rattle.reading.specs.Post.{node_answer, trees_answer, Room, filled, NodePost, TreesPost}
use Rattle.frame.proofs.Inversion.{many_inv}
use Rattle.heads.proofs.HeadSays.{handed_on}
use Rattle.reading.proofs.NodeTurns.{Answer, node_refused, node_room, node_kids, row_none, row_refused, row_room, row_more}

-- ---- a row of one tree
module _ (s : List ℕ) (e : T.Sort) (at : ℕ) (b b₁ : FrameRead) (r : Answer) where
  same_answer : (f : ℕ) (x : Res) → node_answer x ≡ trees_answer (then_f x (λ q. read_many [] (read_node f s) q))
  unfolding read_many
  same_answer f (ok t q) = refl
  same_answer f (no c) = refl

  same_starts : (t : Tree) → filled b (starts_in (cons t nil) at) ≡ filled b (starts t at)
  unfolding starts
  same_starts t = ap (filled b) (append-nil (starts t at))

  row_of : NodePost s e at b b₁ r → TreesPost s (e ∷ []) at b b₁ r
  unfolding read_many
  row_of post = record { answer = λ f l. post.answer f l ∙ same_answer f (read_node f s e at); table = table }
    where
      table : (f : ℕ) → length s < at + f → (ts : Forest) (q : ℕ) → read_many (e ∷ []) (read_node f s) at ≡ ok_f ts q → b₁ ≡ filled b (starts_in ts at)
      table f l ts q eq =
          let v = many_inv e [] (read_node f s) at ts q eq in
          let z : nil ≡ v.rest = cc v.others in
          let is : cons v.first nil ≡ ts = cc v.is in
          post.table f l v.first v.mid v.one ∙ sym (same_starts v.first) ∙ ap (λ (us : Forest). filled b (starts_in us at)) is

  pub of_row : TreesPost s (e ∷ []) at b b₁ r → NodePost s e at b b₁ r
  unfolding read_many
  of_row post = record { answer = λ f l. post.answer f l ∙ sym (same_answer f (read_node f s e at)); table = table }
    where
      table : (f : ℕ) → length s < at + f → (t : Tree) (q : ℕ) → read_node f s e at ≡ ok t q → b₁ ≡ filled b (starts t at)
      table f l t q eq =
          post.table f l (cons t nil) q (ap (λ (x : Res). then_f x (λ p. read_many [] (read_node f s) p)) eq) ∙ same_starts t

-- ---- read_trees: the trees that are left, and what they say of all
pub record Going (s : List ℕ) (at n : ℕ) (a d : Sort) (b₀ : FrameRead) (p left : ℕ) (e l : Sort) (b : FrameRead) : Type 0 where
  pub room : Room s p b.nodes
  pub from : at ≤ p
  pub back : (b₁ : FrameRead) (r : Answer) → TreesPost s (kinds_for left e l) p b b₁ r → TreesPost s (kinds_for n a d) at b₀ b₁ r

pub going_begins : (s : List ℕ) (at n : ℕ) (a d : Sort) (b : FrameRead) → Room s at b.nodes → Going s at n a d b at n a d b
going_begins s at n a d b room = record { room = room; from = omega arith; back = λ b₁ r w. w }

module _ {s : List ℕ} {at n : ℕ} {a d : Sort} {b₀ : FrameRead} {p left : ℕ} {e l : Sort} {b : FrameRead}
    (w : Going s at n a d b₀ p left e l b) where
  pub going_done : left ≤ 0 → TreesPost s (kinds_for n a d) at b₀ b (Ok p)
  going_done z = w.back b (Ok p) (row_none s left e l p b (omega arith))

  module _ (some : 0 < left) where
    not_none : left ≡ 0 → ⊥
    not_none z = omega arith

    pub turn_refused : (x : Answer) (r : Refusal) → IsErrAnd x (λ y. y ≡ r) → Err r ≡ head_there s p (sort_for e) → TreesPost s (kinds_for n a d) at b₀ b x
    turn_refused x r h er =
        subst (λ (i : Answer). TreesPost s (kinds_for n a d) at b₀ b i) (sym (handed_on x r h))
        (w.back b (Err r) (row_refused s left e l p b not_none r b (node_refused s (sort_for e) p b w.room r er b)))

    -- the head that was read
    module _ (bs : Bytes s) (h : ReadHead) (is : Ok (said h) ≡ head_there s p (sort_for e)) where
      pub turn_room : Room s h.children (b.nodes + 1) × (p + 2 ≤ h.children)
      turn_room = node_room s (sort_for e) p b w.room bs _ _ _ _ _ _ _ is

      pub turn_begins : {b₁ : FrameRead} → b₁ ≡ filled b (p ∷ []) → Room s h.children b₁.nodes
      turn_begins eb = subst (λ (i : FrameRead). Room s h.children i.nodes) (sym eb) turn_room.0

      -- with its start added, and the sorts of its children
      module _ {b₁ : FrameRead} (eb : b₁ ≡ filled b (p ∷ [])) {f m : Sort} (ef : f ≡ first_sort (sorts_in h)) (em : m ≡ later_sort (sorts_in h)) where
        one : (b₂ : FrameRead) (r : Answer) → TreesPost s (kinds_for h.count f m) h.children b₁ b₂ r → NodePost s (sort_for e) p b b₂ r
        one b₂ r post =
            node_kids s (sort_for e) p b w.room bs _ _ _ _ _ f m (ap₂ (λ (i j : Sort). Ok (facts h.tag (payload_in h) h.types h.children h.count i j)) ef em ∙ is) b₂ r
            (subst (λ (i : FrameRead). TreesPost s (kinds_for h.count f m) h.children i b₂ r) eb post)

        -- the last tree: its children are the row that is left
        pub turn_last : left - 1 ≡ 0 → Going s at n a d b₀ h.children h.count f m b₁
        turn_last z = record { room = turn_begins eb; from = omega (arith, w.from, turn_room.1); back = back }
          where
            back : (b₂ : FrameRead) (r : Answer) → TreesPost s (kinds_for h.count f m) h.children b₁ b₂ r → TreesPost s (kinds_for n a d) at b₀ b₂ r
            back b₂ r post =
                let y : 1 ≡ left = omega arith in
                w.back b₂ r (subst (λ (i : ℕ). TreesPost s (kinds_for i e l) p b b₂ r) y (row_of s (sort_for e) p b b₂ r (one b₂ r post)))

        -- a tree whose children were gone over by a call
        module _ {b₂ : FrameRead} {r : Answer} (post : TreesPost s (kinds_for h.count f m) h.children b₁ b₂ r) where
          pub turn_stop : (x : Answer) (y : Refusal) → IsErrAnd x (λ z. z ≡ y) → r ≡ Err y → TreesPost s (kinds_for n a d) at b₀ b₂ x
          turn_stop x y i er =
              subst (λ (i : Answer). TreesPost s (kinds_for n a d) at b₀ b₂ i) (sym (handed_on x y i))
              (w.back b₂ (Err y) (row_refused s left e l p b not_none y b₂ (subst (NodePost s (sort_for e) p b b₂) er (one b₂ r post))))

          pub turn_over : (q : ℕ) → r ≡ Ok q → Going s at n a d b₀ q (left - 1) l l b₂ × (p + 2 ≤ q)
          turn_over q ep =
              let node = subst (NodePost s (sort_for e) p b b₂) ep (one b₂ r post) in
              let y = row_room s left e l p b not_none bs w.room b₂ q node in (
                record {
                  room = y.0;
                  from = omega (arith, w.from, y.1);
                  back = λ b₃ r rest. w.back b₃ r (row_more s left e l p b not_none bs w.room b₂ q node b₃ r rest);
                },
                y.1,
              )

      -- a tree without children
      pub turn_leaf : {b₁ : FrameRead} → b₁ ≡ filled b (p ∷ []) → h.count ≡ 0 → Going s at n a d b₀ h.children (left - 1) l l b₁
      turn_leaf {b₁ = b₁} eb z =
          (turn_over eb refl refl (row_none s h.count (first_sort (sorts_in h)) (later_sort (sorts_in h)) h.children b₁ z) h.children refl).0
