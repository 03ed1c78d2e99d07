-- The nodes from a position to the end of a frame, and the loop of `read_again`.
-- Main results: frame_rest, first_at, rest_head (what stands there); Placing, the loop's invariant; placing_begins, placing_stands, placing_goes,
-- placing_done.
use mathlib.Core.Path.{◌≡◌, refl, sym, ap, ap₂, ◌∙◌, subst}
use mathlib.Core.List.{List, [], ◌∷◌, ◌++◌, append-nil}
use Prim.Native.Nat.{ℕ, ◌+◌, ◌≤◌, ◌<◌}
use native.Mathlib.Omega.{arith}
use lib.ListN.{length, replicate, length-append}
use Rattle.std.proofs.Common.{Ok}
use Rattle.frame.specs.Trees.{Head, head, Tree, node, Forest, nil, cons, count, append, nodes}
use Rattle.frame.specs.Tags as T
use Rattle.frame.specs.Tags.{predicate}
use Rattle.tags.specs.declared.forms.Sort.{Sort}
use Rattle.tags.specs.TagCodes.{first_sort, later_sort, kinds_for}
use Rattle.frame.specs.Encoding.{enc_head, enc, encs, starts, starts_in}
use Rattle.frame.specs.Reading.{ok_h, read_head, parse}
use Rattle.frame.specs.Spans.{Bytes, Spans}
use Rattle.frame.specs.At.{types_at, IsAt}
use Rattle.heads.specs.HeadPost.{head_answer, HeadStands, HeadEnd}
use Rattle.reading.specs.declared.FrameRead.{FrameRead}
use Rattle.reading.specs.declared.frames.Frame.{Frame}
use Rattle.reading.specs.Post.{frame_answer, table_size, filled, Room, Rest}
use Rattle.frame.proofs.Spans.{span_left, span_right, span_join}
use Rattle.frame.proofs.Extents.{nodes_enc, some_node}
use Rattle.frame.proofs.Forests.{encs_append, wfs_append, starts_append}
use Rattle.reading.proofs.NodeTurns.{filled_none, filled_append}
use Rattle.reading.proofs.FrameTurns.{frame_filled}
use Rattle.reading.proofs.FrameTree.{frame_tree, frame_fits, frame_stands}
use Rattle.heads.proofs.View.{at_span, at_wf, stands_at, parse_at, kids_span, kids_wf, View, view}
use Rattle.heads.proofs.KnownTurns.{head_at}

pub frame_rest : (s : List ℕ) → Bytes s → (t : Tree) → IsAt s predicate 0 t (length s) → Rest s 0 (cons t nil) (predicate ∷ [])
unfolding enc
frame_rest s bs t a = record { span = rw append-nil (at_span s bs predicate 0 t (length s) a); wf = (at_wf s bs predicate 0 t (length s) a, tt) }

-- ---- the first of the trees that are left
pub record FirstAt (s : List ℕ) (at : ℕ) (ts : Forest) (es : List T.Sort) : Type 0 where
  pub t : Tree
  pub later : Forest
  pub e : T.Sort
  pub sorts : List T.Sort
  pub q : ℕ
  pub is : ts ≡ cons t later
  pub stands : IsAt s e at t q
  pub after : Rest s q later sorts

pub first_at : (s : List ℕ) (at : ℕ) (ts : Forest) (es : List T.Sort) → at < length s → Rest s at ts es → FirstAt s at ts es
unfolding enc
first_at s at nil es l a = absurd (omega (arith, a.span.long))
first_at s at (cons t ts) [] l a = absurd a.wf
first_at s at (cons t ts) (e ∷ es) l a = record {
  t = t;
  later = ts;
  e = e;
  sorts = es;
  q = at + length (enc t);
  is = refl;
  stands = stands_at s e at t (at + length (enc t)) (span_left (enc t) (encs ts) a.span) a.wf.0;
  after = record { span = span_right (enc t) (encs ts) a.span; wf = a.wf.1 };
}

pub rest_head : (s : List ℕ) (at : ℕ) (ts : Forest) (es : List T.Sort) → at < length s → Rest s at ts es → HeadStands s at
rest_head s at ts es l r = let a = first_at s at ts es l r in (a.e, a.t, a.q, a.stands)

-- ---- the starts of all nodes from a position on
-- nodes stand from `at` to the frame's end, and the table has room for them
pub record PlacesPre (s : List ℕ) (at : ℕ) (b : FrameRead) : Type 0 where
  pub room : Room s at b.nodes
  pub ts : Forest
  pub es : List T.Sort
  pub rest : Rest s at ts es

-- b₁ is b with their starts added
pub record PlacesPost (s : List ℕ) (at : ℕ) (b b₁ : FrameRead) : Type 0 where
  pub by : (ts : Forest) (es : List T.Sort) → Rest s at ts es → b₁ ≡ filled b (starts_in ts at)

pub places_end : (s : List ℕ) (at : ℕ) (b : FrameRead) → length s ≤ at → PlacesPost s at b b
unfolding starts enc
places_end s at b h = record { by = λ ts es a. go ts es a }
  where
    go : (ts : Forest) (es : List T.Sort) → Rest s at ts es → b ≡ filled b (starts_in ts at)
    go nil es a = sym (filled_none b)
    go (cons t ts) [] a = absurd a.wf
    go (cons t ts) (e ∷ es) a = absurd (omega (arith, a.span.long, length-append (enc t) (encs ts), nodes_enc t, some_node t))

-- the tree by its head
seen : (s : List ℕ) → Bytes s → (e : T.Sort) (at : ℕ) (t : Tree) (q : ℕ) → IsAt s e at t q → (h : Head) (p : ℕ) (es : List T.Sort)
    → read_head s at e ≡ ok_h h p es → (g n m : ℕ) × (a b : Sort) × View s e at t q g n (types_at s at) p m a b
seen s bs e at t q w (head g n us) p es eq = (
  g,
  n,
  length es,
  first_sort es,
  later_sort es,
  view s e at t q w bs g n (types_at s at) p (length es)
      (first_sort es) (later_sort es) (sym (ap (head_answer (types_at s at)) eq)),
)

module _ (s : List ℕ) (bs : Bytes s) (at : ℕ) (l : at < length s) where
  module _ (p : ℕ) where
    -- after the head come the children, then the later trees
    abbrev After : Forest → List T.Sort → Type 0
    After ts es = (ks later : Forest) × (sorts : List T.Sort) × Rest s p (append ks later) sorts × (at + 2 ≤ p)
        × (starts_in ts at ≡ at ∷ starts_in (append ks later) p)

    after_node : (t : Tree) (later : Forest) (e : T.Sort) (sorts : List T.Sort) (q : ℕ) → Rest s q later sorts
        → (g n tp m : ℕ) (a b : Sort) (v : View s e at t q g n tp p m a b) → at + length (enc t) ≡ q → After (cons t later) (e ∷ sorts)
    unfolding starts enc
    after_node t later e sorts q o g n tp m a b v z =
        let ks = v.ks in
        let x : ℕ = count ks in
        let sp = kids_span s bs (kinds_for m a b) p v.top.types.within ks q v.below in
        let et : t ≡ node (head g n v.us) ks = v.is in
        let long : length (enc t) ≡ length (enc_head (head g n v.us) x) + length (encs ks) = ap
        (λ (u : Tree). length (enc u)) et ∙ length-append (enc_head (head g n v.us) x) (encs ks) in
        let y : at + length (enc_head (head g n v.us) x) ≡ p = omega (arith, sp.long) in
        let eq : p + length (encs ks) ≡ at + length (enc t) = omega (arith, sp.long) in (
          ks,
          later,
          kinds_for m a b ++ sorts,
          record {
            span = subst (Spans s p (length s)) (sym (encs_append ks later)) (span_join sp o.span);
            wf = wfs_append ks later (kinds_for m a b) sorts (kids_wf s bs (kinds_for m a b) p v.top.types.within ks q v.below) o.wf;
          },
          omega (arith, v.within.0, v.within.1),
          ap (λ (u : Tree). starts u at ++ starts_in later (at + length (enc t))) et
              ∙ ap₂ (λ (i j : ℕ). at ∷ (starts_in ks i ++ starts_in later j)) y (sym eq)
              ∙ ap (λ (xs : List ℕ). at ∷ xs) (sym (starts_append ks later p)),
        )

    after : HeadEnd s at p → (ts : Forest) (es : List T.Sort) → Rest s at ts es → After ts es
    after he ts es r =
        let f = first_at s at ts es l r in
        let z : at + length (enc f.t) ≡ f.q = (at_span s bs f.e at f.t f.q f.stands).long in
        let k = head_at s at f.e f.t f.q f.stands in
        let y : k.p ≡ p = sym (he.by f.e f.t f.q f.stands k.h k.p k.es k.headed) in
        let v = seen s bs f.e at f.t f.q f.stands k.h p k.es (k.headed ∙ ap (λ (i : ℕ). ok_h k.h i k.es) y) in
        subst (λ (us : Forest). After us es) (sym f.is) (after_node f.t f.later f.e f.sorts f.q f.after v.0 v.1
        (types_at s at) v.2 v.3 v.4 v.5 z)

    pub places_next : HeadEnd s at p → (b : FrameRead) → PlacesPre s at b → (at + 2 ≤ p) × PlacesPre s p (filled b (at ∷ []))
    places_next he b w =
        let x = after he w.ts w.es w.rest in (
          x.4,
          record {
            room = record { within = omega (arith, x.3.span.long); short = w.room.short; room = omega (arith, w.room.room, x.4) };
            ts = append x.0 x.1;
            es = x.2;
            rest = x.3;
          },
        )

    pub places_more : HeadEnd s at p → (b b₁ : FrameRead) → PlacesPost s p (filled b (at ∷ [])) b₁ → PlacesPost s at b b₁
    places_more he b b₁ post =
        record {
          by = λ ts es w. (let x = after he ts es w in
              post.by (append x.0 x.1) x.2 x.3
              ∙ filled_append b (at ∷ []) (starts_in (append x.0 x.1) p)
              ∙ ap (filled b) (sym x.5));
        }

-- ---- the loop of `read_again`: what is left, and what its end says of all
pub record Placing (s : List ℕ) (b₀ : FrameRead) (p : ℕ) (b : FrameRead) : Type 0 where
  pub left : PlacesPre s p b
  pub back : (b₁ : FrameRead) → PlacesPost s p b b₁ → PlacesPost s 0 b₀ b₁

module _ (f : Frame) where
  abbrev bytes : List ℕ
  bytes = f.bytes.now

  module _ (b₀ : FrameRead) (fresh : (b₀.nodes ≡ 0) × (b₀.starts ≡ replicate table_size 0)) where
    pub placing_begins : Placing bytes b₀ 0 b₀
    placing_begins =
        let (t, stands) = frame_stands f in
        record {
          left = record {
            room = record { within = omega arith; short = frame_fits f; room = omega (arith, fresh.0) };
            ts = cons t nil;
            es = predicate ∷ [];
            rest = frame_rest bytes f.in_range t stands;
          };
          back = λ b₁ p. p;
        }

    pub placing_done : (p : ℕ) (b : FrameRead) → Placing bytes b₀ p b → length bytes ≤ p → Ok b ≡ frame_answer (parse bytes)
    unfolding starts
    placing_done p b w l =
        let (t, e) = frame_tree f in
        let at = parse_at bytes f.in_range t e in
        let sp = at_span bytes f.in_range predicate 0 t (length bytes) at in
        let fits : nodes t ≤ table_size = omega (arith, sp.long, nodes_enc t, frame_fits f) in
        ap Ok
        ((w.back b (places_end bytes p b l)).by (cons t nil) (predicate ∷ []) (frame_rest bytes f.in_range t at)
        ∙ ap (filled b₀) (append-nil (starts t 0))
        ∙ frame_filled b₀ fresh t fits)
        ∙ ap frame_answer (sym e)

  module _ (b₀ : FrameRead) (p : ℕ) (b : FrameRead) (w : Placing bytes b₀ p b) (l : p < length bytes) where
    pub placing_stands : HeadStands bytes p
    placing_stands = rest_head bytes p w.left.ts w.left.es l w.left.rest

    pub placing_goes : (b₁ : FrameRead) → b₁ ≡ filled b (p ∷ []) → (q : ℕ) → HeadEnd bytes p q
        → (p + 2 ≤ q) × (q ≤ length bytes) × Placing bytes b₀ q b₁
    placing_goes b₁ eb q he =
        let x = places_next bytes f.in_range p l q he b w.left in (
          x.0,
          x.1.room.within,
          subst (Placing bytes b₀ q) (sym eb)
              (record { left = x.1; back = λ b₂ post. w.back b₂ (places_more bytes f.in_range p l q he b b₂ post) }),
        )
