-- Number 8: the turns of bind_trees and its ways out, and those of binding_ok.
-- Main results: Going, the invariant of bind_trees; Turn, what a turn of its loop knows; turn_none, turn_leaf (a bound identifier), turn_plain
-- (a node without binders), types_here, call_here, turn_stop, turn_over (a node with binders); frame_refused, frame_bound.
use Rattle.std.proofs.Common.{Option, Some, None}
use Rattle.std.specs.Option.{is_some}
use mathlib.Core.Path.{◌≡◌, refl, sym, ap, ap₂, ◌∙◌, subst}
use mathlib.Core.Bool.{true, false, and-true}
use mathlib.Core.List.{List, [], ◌∷◌}
use Prim.Native.Nat.{ℕ, ◌+◌, ◌-◌, ◌≤◌, ◌<◌}
use native.Mathlib.Omega.{arith}
use lib.ListN.{length, get_or, set, length-set}
use Rattle.frame.specs.Trees.{head, Tree, node, Forest, nil, cons, append, count, nodes, nodes_in}
use Rattle.frame.specs.Tags.{predicate, types_of}
use Rattle.frame.specs.Operators.{#BoundIdent}
use Rattle.frame.specs.Encoding.{enc, encs}
use Rattle.frame.specs.Reading.{frame_limit}
use Rattle.frame.specs.Places.{Ctx, under}
use Rattle.frame.specs.Spans.{Bytes, Spans}
use Rattle.frame.specs.At.{IsAt}
use mathlib.Core.Logic.{inl, inr}
use Rattle.tags.specs.declared.forms.Form.TheVariants.{BoundIdentifier, QuantifiedPredicate, QuantifiedExpression}
use Rattle.tags.specs.TagCodes.{meant}
use Rattle.heads.specs.HeadPost.{HeadStands, KnownPost}
use Rattle.heads.specs.declared.Head.{Head as ReadHead}
use Rattle.frame.proofs.Inversion.{true_not}
use Rattle.frame.proofs.ReadTypes.{tys_long}
use Rattle.reading.proofs.AgainTurns.{frame_rest}
use Rattle.typing.specs.Binding.{closed_tree, closed_forest}
use Rattle.heads.specs.Leaves.{LeavesAt}
use Rattle.binding.specs.Bound.{Opened, Outside, Ready, Row, RowHere, BindersStand, OpenPost, BoundRow, BindingPost}
use Rattle.binding.proofs.OpenBinders.{opened_below}
use Rattle.binding.proofs.BinderTags.{Binding, under_plain, under_binding, bound_tag, other_tag}
use Rattle.binding.proofs.BoundWalk.{
  Walk,
  WalkAll,
  answer_no,
  answer_yes,
  walk_nil,
  walk_none,
  walk_leaf,
  walk_node,
  walk_stop,
  walk_cons,
  walk_plain,
}
use Rattle.binding.proofs.RowNodes.{row_head, row_long, FirstNode, node_of, joined}

-- ---- bind_trees: the trees that are left, and what they say of all
pub record Going (s : List ℕ) (at m depth k : ℕ) (b₀ l₀ : List ℕ) (p left j : ℕ) (b l : List ℕ) : Type 0 where
  pub ready : Ready s p depth j b l
  pub here : RowHere s p left depth b
  pub from : at ≤ p
  pub size : length b ≡ length b₀
  pub back : (b₂ l₂ : List ℕ) (r : Option (ℕ × ℕ)) → BoundRow s p left depth j b l b₂ l₂ r → BoundRow s at m depth k b₀ l₀ b₂ l₂ r

pub going_done : (s : List ℕ) (at m depth k : ℕ) (b₀ l₀ : List ℕ) (p left j : ℕ) (b l : List ℕ)
    → Going s at m depth k b₀ l₀ p left j b l → left ≤ 0 → BoundRow s at m depth k b₀ l₀ b l (Some (p, j))
unfolding enc
going_done s at m depth k b₀ l₀ p left j b l w z = w.back b l (Some (p, j)) (record { by = λ ts Γ q a o. none ts Γ q a })
  where
    none : (ts : Forest) (Γ : Ctx) (q : ℕ) → Row s p left ts q → WalkAll s ts Γ depth j q b l b l (Some (p, j))
    none nil Γ q a =
        let e : q ≡ p = omega (arith, a.span.long) in
        rw e (walk_nil s Γ depth j p b l w.ready.leaves_size)
    none (cons t ts) Γ q a = absurd (omega (arith, a.many))

-- a turn: the first of the trees that are left, with what the code knows of its head
pub record Turn (s : List ℕ) (at m depth k : ℕ) (b₀ l₀ : List ℕ) (p left j : ℕ) (b l : List ℕ) (hd : ReadHead) : Type 0 where
  pub bytes : Bytes s
  pub going : Going s at m depth k b₀ l₀ p left j b l
  pub some : 0 < left
  pub known : KnownPost s p hd

module _ {s : List ℕ} {at m depth k : ℕ} {b₀ l₀ : List ℕ} {p left j : ℕ} {b l : List ℕ}
    (w : Going s at m depth k b₀ l₀ p left j b l) (some : 0 < left) where
  pub turn_head : HeadStands s p
  turn_head = row_head s p left depth b some w.here

  pub turn : Bytes s → {hd : ReadHead} → KnownPost s p hd → Turn s at m depth k b₀ l₀ p left j b l hd
  turn bs kn = record { bytes = bs; going = w; some = some; known = kn }

module _ {s : List ℕ} {at m depth k : ℕ} {b₀ l₀ : List ℕ} {p left j : ℕ} {b l : List ℕ} {hd : ReadHead}
    (u : Turn s at m depth k b₀ l₀ p left j b l hd) where
  -- its tag, the number behind the tag, where its types and its children start, how many children there are
  abbrev g : ℕ
  g = hd.tag

  abbrev x : ℕ
  x = hd.number

  abbrev tp : ℕ
  tp = hd.types

  abbrev to : ℕ
  to = hd.children

  abbrev c : ℕ
  c = hd.count

  abbrev w : Going s at m depth k b₀ l₀ p left j b l
  w = u.going

  first : (ts : Forest) (q : ℕ) → Row s p left ts q → FirstNode s p left ts q hd
  first = node_of s u.bytes p left u.some hd u.known

  -- the one of the trees that are there
  abbrev now : FirstNode s p left w.here.0 w.here.2 hd
  now = first w.here.0 w.here.2 w.here.3

  pub turn_room : (p + 2 ≤ tp) × (tp ≤ to) × (to ≤ length s) × (j < 2048)
  turn_room =
      let v = now.within in
      let y = w.ready in
      (v.0, v.1, omega arith, omega (arith, y.fits, y.place))

  pub left_fits : left - 1 + c ≤ length s
  left_fits = row_long s to (left - 1 + c) _ _ (joined s p left _ _ hd u.some now)

  -- ---- a bound identifier
  module _ (form : hd.form ≡ BoundIdentifier) where
    is : g ≡ #BoundIdent
    is = bound_tag g hd.form u.known.form form

    pub turn_none : depth ≤ x → BoundRow s at m depth k b₀ l₀ b l None
    turn_none le = w.back b l None (record { by = by })
      where
        by : (ts : Forest) (Γ : Ctx) (q : ℕ) → Row s p left ts q → Opened s Γ b depth → WalkAll s ts Γ depth j q b l b l None
        by ts Γ q a o =
            let v = first ts q a in
            let i = v.index form in
            rw v.is (walk_stop s (node (head g v.n v.us) v.ks) v.later Γ depth j q v.mid b l b l
            (walk_none s g v.n v.us Γ is depth j v.mid b l w.ready.leaves_size o v.ks (omega arith)))

    module _ (lt : x < depth) where
      abbrev l₁ : List ℕ
      l₁ = set l j (get_or b (depth - 1 - x) 0)

      -- it ends where its children would start
      leaf_end : (ts : Forest) (q : ℕ) (v : FirstNode s p left ts q hd) → (v.ks ≡ nil) × (v.mid ≡ to)
      unfolding enc
      leaf_end ts q v = go v.ks refl
        where
          go : (ks : Forest) → v.ks ≡ ks → (v.ks ≡ nil) × (v.mid ≡ to)
          go nil e =
              let z : Spans s to v.mid (encs nil) = subst (λ (i : Forest). Spans s to v.mid (encs i)) e v.kids.span in
              (e, omega (arith, z.long))
          go (cons t ks) e =
              let z : count (cons t ks) ≡ 0 = ap count (sym e) ∙ v.kids.many ∙ v.alone form in
              absurd (omega arith)

      after_leaf : (ts : Forest) (q : ℕ) (v : FirstNode s p left ts q hd) → Row s to (left - 1) v.later q
      after_leaf ts q v = subst (λ (i : ℕ). Row s i (left - 1) v.later q) (leaf_end ts q v).1 v.after

      leaf_back : (b₂ l₂ : List ℕ) (r : Option (ℕ × ℕ)) → BoundRow s to (left - 1) depth (j + 1) b l₁ b₂ l₂ r → BoundRow s p left depth j b l b₂ l₂ r
      unfolding nodes
      leaf_back b₂ l₂ r next = record { by = by }
        where
          by : (ts : Forest) (Γ : Ctx) (q : ℕ) → Row s p left ts q → Opened s Γ b depth → WalkAll s ts Γ depth j q b l b₂ l₂ r
          by ts Γ q a o =
              let v = first ts q a in
              let i = v.index form in
              let e = leaf_end ts q v in
              let one : Walk s (node (head g v.n v.us) nil) Γ depth j to b l b (set l j (get_or b (depth - 1 - v.n) 0)) (Some (to, j + 1))
              = walk_leaf s g v.n v.us Γ is depth j to b l w.ready.leaves_size o (omega arith) turn_room.3 in
              let here : Walk s (node (head g v.n v.us) nil) Γ depth j to b l b l₁ (Some (to, j + 1)) = subst
              (λ (h : ℕ). Walk s (node (head g v.n v.us) nil) Γ depth j to b l b (set l j (get_or b (depth - 1 - h) 0)) (Some (to, j + 1))) i one in
              rw (v.is, e.0) (walk_cons s (node (head g v.n v.us) nil) v.later Γ depth j q to b l b l₁ b₂ l₂ r here
              (next.by v.later Γ q (after_leaf ts q v) o))

      pub turn_leaf : Going s at m depth k b₀ l₀ to (left - 1) (j + 1) b l₁
      turn_leaf =
          let y = w.ready in
          let h = w.here in
          let e = turn_room in
          let f = w.from in
          record {
            ready = record {
              fits = y.fits;
              within = e.2;
              opened = omega (arith, y.opened);
              place = omega (arith, y.place);
              binders_room = y.binders_room;
              leaves_size = length-set l j (get_or b (depth - 1 - x) 0) ∙ y.leaves_size;
            };
            here = (now.later, h.1, h.2, after_leaf h.0 h.2 now, h.4);
            from = omega arith;
            size = w.size;
            back = λ b₂ l₂ r next. w.back b₂ l₂ r (leaf_back b₂ l₂ r next);
          }

  -- ---- any other node
  module _ (form : hd.form ≡ BoundIdentifier → ⊥) where
    other : g ≡ #BoundIdent → ⊥
    other = other_tag g hd.form u.known.form form

    -- without binders
    module _ (plain : hd.form ≡ QuantifiedPredicate → ⊥) (plain₂ : hd.form ≡ QuantifiedExpression → ⊥) where
      plain_back : (b₂ l₂ : List ℕ) (r : Option (ℕ × ℕ)) → BoundRow s to (left - 1 + c) depth (j + 1) b l b₂ l₂ r → BoundRow s p left depth j b l b₂ l₂ r
      plain_back b₂ l₂ r next = record {
        by = λ ts Γ q a o. (let v = first ts q a in
            rw v.is (walk_plain g v.n v.us v.ks v.later Γ other (under_plain g hd.form u.known.form plain plain₂ v.us Γ) s depth j q b l b₂ l₂ r
            (next.by (append v.ks v.later) Γ q (joined s p left ts q hd u.some v) o)));
      }

      pub turn_plain : Going s at m depth k b₀ l₀ to (left - 1 + c) (j + 1) b l
      turn_plain =
          let y = w.ready in
          let h = w.here in
          let e = turn_room in
          let f = w.from in
          record {
            ready = record {
              fits = y.fits;
              within = e.2;
              opened = omega (arith, y.opened);
              place = omega (arith, y.place);
              binders_room = y.binders_room;
              leaves_size = y.leaves_size;
            };
            here = (append now.ks now.later, h.1, h.2, joined s p left h.0 h.2 hd u.some now, h.4);
            from = omega arith;
            size = w.size;
            back = λ b₂ l₂ r next. w.back b₂ l₂ r (plain_back b₂ l₂ r next);
          }

  -- ---- a node with binders; n, how many types its form says
  module _ (bind : Binding hd.form) (n : ℕ) (many : n ≡ types_of (meant hd.form).layout (meant hd.form).carried x) where
    bound_apart : Binding hd.form → hd.form ≡ BoundIdentifier → ⊥
    bound_apart (inl x) e = cc
    bound_apart (inr x) e = cc

    apart : g ≡ #BoundIdent → ⊥
    apart = other_tag g hd.form u.known.form (bound_apart bind)

    pub types_here : BindersStand s tp n
    types_here = (now.us, to, now.many ∙ sym many, now.types, now.wf.types)

    module _ (b₁ : List ℕ) (inside : ℕ) (op : OpenPost s tp n depth b b₁ inside) where
      opened_in : (ts : Forest) (q : ℕ) (v : FirstNode s p left ts q hd) (Γ : Ctx) → Opened s Γ b depth → Opened s (under g v.us Γ) b₁ inside
      opened_in ts q v Γ o =
          subst (λ (Δ : Ctx). Opened s Δ b₁ inside) (under_binding g hd.form u.known.form bind v.us Γ)
          (op.by v.us to (v.many ∙ sym many) v.types v.wf.types Γ o)

      pub call_here : Ready s to inside (j + 1) b₁ l × RowHere s to c inside b₁
      call_here =
          let y = w.ready in
          let h = w.here in
          let e = turn_room in
          let k = now.many in (
            record {
              fits = y.fits;
              within = e.2;
              opened = omega (arith, y.opened, op.many, tys_long now.us, now.types.long);
              place = omega (arith, y.place);
              binders_room = omega (arith, y.binders_room, op.size);
              leaves_size = y.leaves_size;
            },
            (now.ks, under g now.us h.1, now.mid, now.kids, opened_in h.0 h.2 now h.1 h.4),
          )

      module _ (b₂ l₂ : List ℕ) (r₂ : Option (ℕ × ℕ)) (post : BoundRow s to c inside (j + 1) b₁ l b₂ l₂ r₂) where
        over : (ts : Forest) (Γ : Ctx) (q : ℕ) (v : FirstNode s p left ts q hd) → Opened s Γ b depth
            → Walk s (node (head g v.n v.us) v.ks) Γ depth j v.mid b l b₂ l₂ r₂
        over ts Γ q v o =
            walk_node g v.n v.us v.ks Γ apart s depth inside j v.mid b l b₁ b₂ l₂ r₂ (omega (arith, op.many)) op.kept op.size
            (post.by v.ks (under g v.us Γ) v.mid v.kids (opened_in ts q v Γ o))

        pub turn_stop : r₂ ≡ None → BoundRow s at m depth k b₀ l₀ b₂ l₂ None
        turn_stop er = w.back b₂ l₂ None (record { by = by })
          where
            by : (ts : Forest) (Γ : Ctx) (q : ℕ) → Row s p left ts q → Opened s Γ b depth → WalkAll s ts Γ depth j q b l b₂ l₂ None
            by ts Γ q a o =
                let v = first ts q a in
                let t : Tree = node (head g v.n v.us) v.ks in
                rw v.is (walk_stop s t v.later Γ depth j q v.mid b l b₂ l₂
                (subst (Walk s t Γ depth j v.mid b l b₂ l₂) er (over ts Γ q v o)))

        module _ (e i : ℕ) (er : r₂ ≡ Some (e, i)) where
          -- its tree has been gone over
          past : (ts : Forest) (Γ : Ctx) (q : ℕ) (v : FirstNode s p left ts q hd) → Opened s Γ b depth
              → (e ≡ v.mid) × (i ≡ j + nodes (node (head g v.n v.us) v.ks))
              × Walk s (node (head g v.n v.us) v.ks) Γ depth j v.mid b l b₂ l₂
              (Some (v.mid, j + nodes (node (head g v.n v.us) v.ks)))
          past ts Γ q v o =
              let t : Tree = node (head g v.n v.us) v.ks in
              let done = over ts Γ q v o in
              let z = answer_yes (closed_tree t Γ) v.mid (j + nodes t) e i (sym er ∙ done.answer) in
              let y : r₂ ≡ Some (v.mid, j + nodes t) = er ∙ ap₂ (λ (d h : ℕ). Some (d, h)) z.1 z.2 in
              (z.1, z.2, subst (Walk s t Γ depth j v.mid b l b₂ l₂) y done)

          over_back : (b₃ l₃ : List ℕ) (r : Option (ℕ × ℕ)) → BoundRow s e (left - 1) depth i b₂ l₂ b₃ l₃ r → BoundRow s p left depth j b l b₃ l₃ r
          over_back b₃ l₃ r next = record { by = by }
            where
              by : (ts : Forest) (Γ : Ctx) (q : ℕ) → Row s p left ts q → Opened s Γ b depth → WalkAll s ts Γ depth j q b l b₃ l₃ r
              by ts Γ q a o =
                  let v = first ts q a in
                  let t : Tree = node (head g v.n v.us) v.ks in
                  let z = past ts Γ q v o in
                  let done = z.2 in
                  let after : Row s e (left - 1) v.later q = subst (λ (d : ℕ). Row s d (left - 1) v.later q) (sym z.0) v.after in
                  let rest : WalkAll s v.later Γ depth i q b₂ l₂ b₃ l₃ r = next.by v.later Γ q after
                  (opened_below s Γ b b₂ depth done.kept o) in
                  rw v.is (walk_cons s t v.later Γ depth j q v.mid b l b₂ l₂ b₃ l₃ r done
                  (subst (λ (h : ℕ). WalkAll s v.later Γ depth h q b₂ l₂ b₃ l₃ r) z.1 rest))

          pub turn_over : (p + 2 ≤ e) × (e ≤ length s) × Going s at m depth k b₀ l₀ e (left - 1) i b₂ l₂
          turn_over =
              let y = w.ready in
              let h = w.here in
              let d = now.within in
              let f = w.from in
              let z = past h.0 h.1 h.2 now h.4 in
              let done = z.2 in
              let ee = z.0 in
              let ei = z.1 in (
                omega arith,
                omega arith,
                record {
                  ready = record {
                    fits = y.fits;
                    within = omega arith;
                    opened = omega (arith, y.opened);
                    place = omega (arith, y.place, now.places);
                    binders_room = omega (arith, y.binders_room, done.binders_size);
                    leaves_size = done.leaves_size;
                  };
                  here = (
                    now.later,
                    h.1,
                    h.2,
                    subst (λ (o : ℕ). Row s o (left - 1) now.later h.2) (sym ee) now.after,
                    opened_below s h.1 b b₂ depth done.kept h.4,
                  );
                  from = omega arith;
                  size = done.binders_size ∙ w.size;
                  back = λ b₃ l₃ r next. w.back b₃ l₃ r (over_back b₃ l₃ r next);
                },
              )

-- ---- binding_ok
pub ready_first : (s b₀ l₀ : List ℕ) → length s ≤ frame_limit → length s ≤ length b₀ → length l₀ ≡ 2048 → Ready s 0 0 0 b₀ l₀
ready_first s b₀ l₀ f h z = record {
  fits = f;
  within = omega arith;
  opened = omega arith;
  place = omega arith;
  binders_room = h;
  leaves_size = z;
}

-- a frame is a row of one tree
pub whole : (s : List ℕ) → Bytes s → (t : Tree) → IsAt s predicate 0 t (length s) → Row s 0 1 (cons t nil) (length s)
whole s bs t a = let r = frame_rest s bs t a in record { sorts = predicate ∷ []; span = r.span; wf = r.wf; many = refl }

module _ (s : List ℕ) (bs : Bytes s) (l₀ b₀ b₁ l₁ : List ℕ) (r : Option (ℕ × ℕ)) (h : (t : Tree) × IsAt s predicate 0 t (length s))
    (post : BoundRow s 0 1 0 0 b₀ l₀ b₁ l₁ r) where
  at_root : (t : Tree) → IsAt s predicate 0 t (length s) → WalkAll s (cons t nil) [] 0 0 (length s) b₀ l₀ b₁ l₁ r
  at_root t i = post.by (cons t nil) [] (length s) (whole s bs t i) tt

  root_closed : (t : Tree) → closed_forest (cons t nil) [] ≡ closed_tree t []
  unfolding closed_tree
  root_closed t = and-true (closed_tree t [])

  root_others : (t : Tree) → IsAt s predicate 0 t (length s) → Outside 0 (nodes t) l₀ l₁
  unfolding nodes
  root_others t i = let z : 0 + (nodes t + 0) ≡ nodes t = omega arith in subst (λ (j : ℕ). Outside 0 j l₀ l₁) z (at_root t i).others

  pub frame_refused : r ≡ None → BindingPost s l₀ l₁ false
  frame_refused er = record {
    size = (at_root h.0 h.1).leaves_size;
    answer = λ t i. sym (answer_no (closed_forest (cons t nil) []) (length s) (0 + nodes_in (cons t nil)) (sym er ∙ (at_root t i).answer)) ∙ root_closed t;
    leaves = λ f. true_not f;
    others = root_others;
  }

  pub frame_bound : (p j : ℕ) → r ≡ Some (p, j) → BindingPost s l₀ l₁ true
  unfolding LeavesAt
  frame_bound p j er = record {
    size = (at_root h.0 h.1).leaves_size;
    answer = λ t i. sym (closed t i) ∙ root_closed t;
    leaves = λ f t i. ((at_root t i).leaves (closed t i)).0;
    others = root_others;
  }
    where
      closed : (t : Tree) → IsAt s predicate 0 t (length s) → closed_forest (cons t nil) [] ≡ true
      closed t i = (answer_yes (closed_forest (cons t nil) []) (length s) (0 + nodes_in (cons t nil)) p j (sym er ∙ (at_root t i).answer)).0

  pub answered : (x : Option (ℕ × ℕ)) → r ≡ x → BindingPost s l₀ l₁ (is_some x)
  answered None e = frame_refused e
  answered (Some (p, j)) e = frame_bound p j e
