-- The ways out of the functions of sameness, on plain values.
-- Main results: tags_first, tags_second, heads_room, heads_short, heads_bytes, heads_agree (`same_heads`); left_stands (the head that is
-- read); node_differ, node_both, node_kids; kids_none, kids_first, kids_no, kids_rest, kids_yes, and by them the laws of Going, the
-- invariant of the loop of `same_kids`; at_sort, of_sort; tree_stands, tree_done (`same_tree`).
use Rattle.std.proofs.Common.{Option, Some, None}
use mathlib.Core.Bool.{Bool, true, false, not}
use lib.Dec.{eqb}
use lib.Pointwise.{pointwise}
use Rattle.std.specs.Cmp.Lexicographic.{same_text, other_text}
use mathlib.Core.Path.{◌≡◌, refl, sym, ap, ap₂, ◌∙◌, subst}
use mathlib.Core.List.{List, ◌++◌}
use Prim.Native.Nat.{ℕ, ◌+◌, ◌-◌, ◌≤◌, ◌<◌}
use native.Mathlib.Omega.{arith}
use lib.ListN.{length, get_or, take, drop}
use Rattle.frame.specs.Trees.{head, Tree, node, Forest, nil, cons, count}
use Rattle.frame.specs.Tags.{Sort, Form as FormSaid, class_of, form_of, width}
use Rattle.tags.specs.declared.forms.Sort.{Sort as Kind}
use Rattle.tags.specs.declared.forms.Form.{Form}
use Rattle.tags.specs.TagCodes.{meant, form_code, sort_for, first_sort, later_sort, kinds_for}
use Rattle.tags.proofs.TagTables.{code_form}
use Rattle.frame.specs.Encoding.{enc_number, enc_tys, enc_head, enc, encs}
use Rattle.frame.specs.Reading.{number_at}
use Rattle.frame.specs.WellFormed.{number_in}
use Rattle.frame.proofs.Numbers.{number_back}
use Rattle.frame.specs.Spans.{Spans}
use Rattle.heads.specs.HeadPost.{HeadStands, sorts_in, KnownPost}
use Rattle.heads.proofs.View.{stands_at}
use Rattle.heads.specs.declared.Head.{Head as ReadHead}
use Rattle.frame.proofs.ReadBack.{enc_long, head_back}
use Rattle.sameness.specs.Stands.{Stands, StandAll}
use Rattle.sameness.specs.declared.Alike.{Alike}
use Rattle.sameness.specs.Compared.{BothStand, BothStandAll, SamePost, SameAllPost, kinds, Agreed, HeadsPost}
use Rattle.sameness.proofs.View.{read_there, said, stand_inside, stand_byte, all_inside, split_kinds, none_kinds}

-- ---- heads
not_true : (b : Bool) → not b ≡ true → b ≡ false
not_true true e = sym e
not_true false e = refl

not_false : (b : Bool) → not b ≡ false → b ≡ true
not_false true e = refl
not_false false e = sym e

-- equal trees at a and b
module _ {s : List ℕ} {e : Sort} {a b : ℕ} where
  heads_differ : ((t : Tree) → Stands s a e t → Stands s b e t → ⊥) → HeadsPost s e a b None
  heads_differ d = record {
    agree = λ t u h x y er. cc;
    differ = λ t u x y er q. d t x (subst (λ (w : Tree). Stands s b e w) (sym q) y);
  }

  byte_differs : (i : ℕ) → i < 2 → (get_or s (a + i) 0 ≡ get_or s (b + i) 0 → ⊥) → HeadsPost s e a b None
  byte_differs i h d = heads_differ (λ t x y. let l : i < length (enc t) = omega (arith, enc_long t) in d (stand_byte x i l ∙ sym (stand_byte y i l)))

module _ (s : List ℕ) (e : Sort) (a b : ℕ) where
  pub tags_first : (get_or s a 0 ≡ get_or s b 0 → ⊥) → HeadsPost s e a b None
  tags_first d =
      let za : a + 0 ≡ a = omega arith in
      let zb : b + 0 ≡ b = omega arith in
      byte_differs 0 (omega arith) (λ q. d (sym (ap (λ (i : ℕ). get_or s i 0) za) ∙ q ∙ ap (λ (i : ℕ). get_or s i 0) zb))

  pub tags_second : (get_or s (a + 1) 0 ≡ get_or s (b + 1) 0 → ⊥) → HeadsPost s e a b None
  tags_second d = byte_differs 1 (omega arith) d

  pub both_inside : BothStand s e a b → (a + 2 ≤ length s) × (b + 2 ≤ length s)
  both_inside w = (stand_inside w.left, stand_inside w.right)

  module _ (hd : ReadHead) (kn : KnownPost s a hd) where
    abbrev p : ℕ
    p = hd.children

    abbrev m : ℕ
    m = hd.count

    pub heads_room : BothStand s e a b → (a + 2 ≤ p) × (p ≤ length s) × (b ≤ length s)
    heads_room w =
        let r = read_there s a e w.t w.left in
        let d = said s a e w.t w.left hd kn in
        (omega (arith, r.past, d.from), omega (arith, r.top.within, d.from), omega (arith, stand_inside w.right))

    -- the head's bytes, there and in an equal tree at b
    window : (t : Tree) → Stands s a e t → Stands s b e t
        → (b + (p - a) ≤ length s) × (take (p - a) (drop a s) ≡ take (p - a) (drop b s))
    window t x y =
        let r = read_there s a e t x in
        let d = said s a e t x hd kn in
        let h = enc_head (head r.g r.n r.us) (count r.ks) in
        let y' : Stands s b e (node (head r.g r.n r.us) r.ks) = subst (λ (w : Tree). Stands s b e w) r.is y in
        let r' = read_there s b e (node (head r.g r.n r.us) r.ks) y' in
        let k : r'.ks ≡ r.ks = cc r'.is in
        let hh : enc_head (head r'.g r'.n r'.us) (count r'.ks) ≡ h = cc (r'.is, k) in
        let top : Spans s b r'.p h = subst (λ (i : List ℕ). Spans s b r'.p i) hh r'.top in
        let z : length h ≡ p - a = omega (arith, r.top.long, d.from) in
        (omega (arith, top.long, top.within), subst (λ (i : ℕ). take i (drop a s) ≡ take i (drop b s)) z (r.top.bytes ∙ sym top.bytes))

    pub heads_short : length s - b < p - a → HeadsPost s e a b None
    heads_short h = heads_differ (λ t x y. let w = (window t x y).0 in omega arith)

    -- what `!=` answered of the heads' bytes
    module _ (ne : Bool) (told : ne ≡ not (pointwise eqb (take (p - a) (drop a s)) (take (b + (p - a) - b) (drop b s)))) where
      pub bytes_same : ne ≡ false → take (p - a) (drop a s) ≡ take (p - a) (drop b s)
      bytes_same e =
          let z : b + (p - a) - b ≡ p - a = omega arith in
          same_text _ _ (sym (not_false _ (sym told ∙ e))) ∙ ap (λ (i : ℕ). take i (drop b s)) z

      pub bytes_other : ne ≡ true → take (p - a) (drop a s) ≡ take (p - a) (drop b s) → ⊥
      bytes_other e w =
          let z : b + (p - a) - b ≡ p - a = omega arith in
          other_text _ _ (sym (not_true _ (sym told ∙ e))) (w ∙ ap (λ (i : ℕ). take i (drop b s)) (sym z))

    pub heads_bytes : (take (p - a) (drop a s) ≡ take (p - a) (drop b s) → ⊥) → HeadsPost s e a b None
    heads_bytes d = heads_differ (λ t x y. d (window t x y).1)

    pub heads_agree : take (p - a) (drop a s) ≡ take (p - a) (drop b s) → p - a ≤ length s - b
        → (h : Alike) → h.left ≡ p → h.right ≡ b + (p - a) → h.count ≡ m → h.first ≡ first_sort (sorts_in hd) → h.later ≡ later_sort (sorts_in hd)
        → HeadsPost s e a b (Some h)
    heads_agree bytes room h el er em ef ek = record { agree = agree; differ = λ t u x y er. cc }
      where
        same : (t u : Tree) → Stands s a e t → Stands s b e u → Agreed s a b t u h
        same t u x y =
            let r = read_there s a e t x in
            let d = said s a e t x hd kn in
            let o = read_there s b e u y in
            let top = enc_head (head r.g r.n r.us) (count r.ks) in
            let z : p - a ≡ length top = omega (arith, r.top.long, d.from) in
            let within : b + (p - a) ≤ length s = omega (arith, stand_inside y) in
            let win : take (length top) (drop b s) ≡ top = subst (λ (i : ℕ). take i (drop b s) ≡ top) z
            (sym bytes ∙ ap (λ (i : ℕ). take i (drop a s)) z ∙ r.top.bytes) in
            let sp : Spans s b (b + (p - a)) top = record { long = omega arith; within = within; bytes = win } in
            let back = head_back s b e r.g r.n r.us (count r.ks) (b + (p - a)) r.wf sp in
            let eg : o.g ≡ r.g = cc (o.read, back) in
            let en : o.n ≡ r.n = cc (o.read, back) in
            let eu : o.us ≡ r.us = cc (o.read, back) in
            let ep : o.p ≡ b + (p - a) = cc (o.read, back) in
            let es : o.es ≡ r.es = cc (o.read, back, r.sorts) in
            let ks : kinds h ≡ r.es = ap (λ (i : ℕ). kinds_for i h.first h.later) em ∙ d.kinds h.first h.later ef ek in
            record {
              top = head r.g r.n r.us;
              ts = r.ks;
              us = o.ks;
              is_left = r.is;
              is_right = cc (o.is, eg, en, eu);
              left = rw (ks, el, ← d.from) r.kids;
              right = rw (ks, er, ← es, ← ep) o.kids;
              end_left = rw (el, ← d.from) r.ends;
              end_right = rw (er, ← ep) o.ends;
              past = rw (el, ← d.from) r.past;
            }

        agree : (t u : Tree) (h' : Alike) → Stands s a e t → Stands s b e u → ◌≡◌ {A = Option Alike} (Some h) (Some h') → Agreed s a b t u h'
        agree t u h' x y er = let z : h' ≡ h = cc in rw z (same t u x y)

-- ---- a node
module _ (s : List ℕ) (e : Sort) (a b : ℕ) (hs : Option Alike) (post : HeadsPost s e a b hs) where
  pub node_differ : hs ≡ None → SamePost s e a b None
  node_differ eh = record { same = λ t u x y l r er. cc; differ = λ t u l r er. post.differ t u l r eh }

  module _ (h : Alike) (eh : hs ≡ Some h) where
    pub node_both : BothStand s e a b → BothStandAll s (kinds h) h.left h.right × (a + 2 ≤ h.left) × (h.left ≤ length s)
    node_both w =
        let v = post.agree w.t w.u h w.left w.right eh in
        (record { ts = v.ts; us = v.us; left = v.left; right = v.right }, v.past, all_inside v.left)

    pub node_kids : (r : Option (ℕ × ℕ)) → SameAllPost s (kinds h) h.left h.right r → SamePost s e a b r
    node_kids r kids = record { same = same; differ = differ }
      where
        same : (t u : Tree) (x y : ℕ) → Stands s a e t → Stands s b e u → r ≡ Some (x, y)
            → (t ≡ u) × (x ≡ a + length (enc t)) × (y ≡ b + length (enc u))
        same t u x y lt rt er =
            let v = post.agree t u h lt rt eh in
            let w = kids.same v.ts v.us x y v.left v.right er in
            (v.is_left ∙ ap (node v.top) w.0 ∙ sym v.is_right, w.1 ∙ sym v.end_left, w.2 ∙ sym v.end_right)

        differ : (t u : Tree) → Stands s a e t → Stands s b e u → r ≡ None → t ≡ u → ⊥
        differ t u lt rt er tu =
            let v = post.agree t u h lt rt eh in
            let z : v.ts ≡ v.us = cc (v.is_left, v.is_right, tu) in
            kids.differ v.ts v.us v.left v.right er z

-- ---- trees in a row
nil_end : (at : ℕ) (ts : Forest) → ts ≡ nil → at ≡ at + length (encs ts)
unfolding encs
nil_end at ts z = let y : at ≡ at + 0 = omega arith in y ∙ ap (λ (i : Forest). at + length (encs i)) (sym z)

module _ (s : List ℕ) (n : ℕ) (f l : Kind) (a b : ℕ) where
  pub kids_none : n ≡ 0 → SameAllPost s (kinds_for n f l) a b (Some (a, b))
  kids_none z = record { same = same; differ = λ ts us x y er. cc }
    where
      same : (ts us : Forest) (x y : ℕ) → StandAll s a (kinds_for n f l) ts → StandAll s b (kinds_for n f l) us
          → ◌≡◌ {A = Option (ℕ × ℕ)} (Some (a, b)) (Some (x, y))
          → (ts ≡ us) × (x ≡ a + length (encs ts)) × (y ≡ b + length (encs us))
      same ts us x y lt rt er =
          let zt = none_kinds n f l ts lt z in
          let zu = none_kinds n f l us rt z in
          let z : ◌≡◌ {A = ℕ × ℕ} (x, y) (a, b) = cc in
          let ex : x ≡ a = ap (λ (i : ℕ × ℕ). i.0) z in
          let ey : y ≡ b = ap (λ (i : ℕ × ℕ). i.1) z in
          (zt ∙ sym zu, ex ∙ nil_end a ts zt, ey ∙ nil_end b us zu)

  module _ (some : n ≡ 0 → ⊥) where
    pub kids_first : BothStandAll s (kinds_for n f l) a b → BothStand s (sort_for f) a b × (a ≤ length s)
    kids_first w =
        let x = split_kinds n f l w.ts w.left some in
        let y = split_kinds n f l w.us w.right some in
        (record { t = x.first; u = y.first; left = x.one; right = y.one }, all_inside w.left)

    module _ (x : Option (ℕ × ℕ)) (post : SamePost s (sort_for f) a b x) where
      pub kids_no : x ≡ None → SameAllPost s (kinds_for n f l) a b None
      kids_no ex = record { same = λ ts us i j lt rt er. cc; differ = differ }
        where
          differ : (ts us : Forest) → StandAll s a (kinds_for n f l) ts → StandAll s b (kinds_for n f l) us → ◌≡◌ {A = Option (ℕ × ℕ)} None None → ts ≡ us → ⊥
          differ ts us lt rt er tu =
              let v = split_kinds n f l ts lt some in
              let w = split_kinds n f l us rt some in
              let z : v.first ≡ w.first = cc (v.is, w.is, tu) in
              post.differ v.first w.first v.one w.one ex z

      module _ (p q : ℕ) (ex : x ≡ Some (p, q)) where
        -- what is left of the two rows behind the first trees
        record Behind (ts us : Forest) : Type 0 where
          first : Tree
          second : Tree
          v : Forest
          w : Forest
          is_left : ts ≡ cons first v
          is_right : us ≡ cons second w
          same : first ≡ second
          left : StandAll s p (kinds_for (n - 1) l l) v
          right : StandAll s q (kinds_for (n - 1) l l) w
          end_left : p + length (encs v) ≡ a + length (encs ts)
          end_right : q + length (encs w) ≡ b + length (encs us)
          past : a + 2 ≤ p

        behind : (ts us : Forest) → StandAll s a (kinds_for n f l) ts → StandAll s b (kinds_for n f l) us → Behind ts us
        behind ts us lt rt =
            let v = split_kinds n f l ts lt some in
            let w = split_kinds n f l us rt some in
            let i = post.same v.first w.first p q v.one w.one ex in
            record {
              first = v.first;
              second = w.first;
              v = v.rest;
              w = w.rest;
              is_left = v.is;
              is_right = w.is;
              same = i.0;
              left = rw i.1 v.others;
              right = rw i.2 w.others;
              end_left = omega (arith, i.1, v.long);
              end_right = omega (arith, i.2, w.long);
              past = omega (arith, i.1, enc_long v.first);
            }

        pub kids_rest : BothStandAll s (kinds_for n f l) a b → BothStandAll s (kinds_for (n - 1) l l) p q × (a + 2 ≤ p) × (p ≤ length s)
        kids_rest w =
            let v = behind w.ts w.us w.left w.right in
            (record { ts = v.v; us = v.w; left = v.left; right = v.right }, v.past, all_inside v.left)

        pub kids_yes : (r : Option (ℕ × ℕ)) → SameAllPost s (kinds_for (n - 1) l l) p q r → SameAllPost s (kinds_for n f l) a b r
        kids_yes r rest = record { same = same; differ = differ }
          where
            same : (ts us : Forest) (i j : ℕ) → StandAll s a (kinds_for n f l) ts → StandAll s b (kinds_for n f l) us → r ≡ Some (i, j)
                → (ts ≡ us) × (i ≡ a + length (encs ts)) × (j ≡ b + length (encs us))
            same ts us i j lt rt er =
                let v = behind ts us lt rt in
                let w = rest.same v.v v.w i j v.left v.right er in
                (v.is_left ∙ ap₂ cons v.same w.0 ∙ sym v.is_right, w.1 ∙ v.end_left, w.2 ∙ v.end_right)

            differ : (ts us : Forest) → StandAll s a (kinds_for n f l) ts → StandAll s b (kinds_for n f l) us → r ≡ None → ts ≡ us → ⊥
            differ ts us lt rt er tu =
                let v = behind ts us lt rt in
                let z : v.v ≡ v.w = cc (v.is_left, v.is_right, tu) in
                rest.differ v.v v.w v.left v.right er z

-- ---- the loop: what is left at p and q, the first of it of this sort, and what its end says of all
pub record Going (s : List ℕ) (h : Alike) (p q i : ℕ) (sort : Kind) : Type 0 where
  pub rows : BothStandAll s (kinds_for (h.count - i) sort h.later) p q
  pub past : h.left ≤ p
  pub within : p ≤ length s
  pub back : (r : Option (ℕ × ℕ)) → SameAllPost s (kinds_for (h.count - i) sort h.later) p q r → SameAllPost s (kinds h) h.left h.right r

pub going_begins : (s : List ℕ) (h : Alike) → BothStandAll s (kinds h) h.left h.right → Going s h h.left h.right 0 h.first
going_begins s h w =
    let z : h.count - 0 ≡ h.count = omega arith in
    record {
      rows = rw z w;
      past = omega arith;
      within = all_inside w.left;
      back = λ r k. (rw z at k);
    }

module _ (s : List ℕ) (h : Alike) (p q i : ℕ) (sort : Kind) (g : Going s h p q i sort) where
  pub going_done : h.count ≤ i → SameAllPost s (kinds h) h.left h.right (Some (p, q))
  going_done l = g.back (Some (p, q)) (kids_none s (h.count - i) sort h.later p q (omega arith))

  module _ (l : i < h.count) where
    some : h.count - i ≡ 0 → ⊥
    some z = omega arith

    pub going_first : BothStand s (sort_for sort) p q
    going_first = (kids_first s (h.count - i) sort h.later p q some g.rows).0

    module _ (x : Option (ℕ × ℕ)) (one : SamePost s (sort_for sort) p q x) where
      pub going_no : x ≡ None → SameAllPost s (kinds h) h.left h.right None
      going_no ex = g.back None (kids_no s (h.count - i) sort h.later p q some x one ex)

      pub going_next : (v w : ℕ) → x ≡ Some (v, w) → Going s h v w (i + 1) h.later
      going_next v w ex =
          let z : h.count - (i + 1) ≡ h.count - i - 1 = omega arith in
          let r = kids_rest s (h.count - i) sort h.later p q some x one v w ex g.rows in
          let past = g.past in
          record {
            rows = rw z r.0;
            past = omega (arith, r.1);
            within = r.2;
            back = λ y rest. g.back y (kids_yes s (h.count - i) sort h.later p q some x one v w ex y (rw z at rest));
          }

-- ---- the head at a stands there
pub left_stands : (s : List ℕ) (a b : ℕ) → (e : Sort) × BothStand s e a b → HeadStands s a
left_stands s a b (e, w) = (e, w.t, a + length (enc w.t), stands_at s e a w.t (a + length (enc w.t)) w.left.bytes w.left.formed)

-- ---- at the sort that a test found
pub at_sort : {s : List ℕ} {f o : Kind} {a b : ℕ} → f ≡ o → BothStand s (sort_for f) a b → BothStand s (sort_for o) a b
at_sort {s} {f} {o} {a} {b} q m = subst (λ (i : Kind). BothStand s (sort_for i) a b) q m

pub of_sort : {s : List ℕ} {f o : Kind} {a b : ℕ} {x : Option (ℕ × ℕ)} → f ≡ o → SamePost s (sort_for o) a b x → SamePost s (sort_for f) a b x
of_sort {s} {f} {o} {a} {b} {x} q m = subst (λ (i : Kind). SamePost s (sort_for i) a b x) (sym q) m

-- ---- the sort that the tag at a says is that of the tree there
tag_sort : (s : List ℕ) (at : ℕ) (e : Sort) (t : Tree) → Stands s at e t → (form_of (number_at 2 s at)).sort ≡ e
unfolding enc_head
tag_sort s at e t st =
    let r = read_there s at e t st in
    let w : ℕ = width (form_of r.g).layout in
    let x : ℕ = number_in r.g r.n r.us (count r.ks) in
    let b = number_back 2 s at _ r.g (enc_number w x ++ enc_tys r.us) r.wf.small r.top in
    ap (λ (i : ℕ). (form_of i).sort) b.number ∙ r.wf.sort

module _ (s : List ℕ) (a b tag : ℕ) (et : tag ≡ number_at 2 s a) (form : Form) (ef : form ≡ form_code (class_of tag))
    (f o : Kind) (es : sort_for f ≡ (meant form).sort) (eo : f ≡ o) where
  sort_is : (e : Sort) (t : Tree) → Stands s a e t → sort_for o ≡ e
  sort_is e t st =
      ap sort_for (sym eo)
      ∙ es
      ∙ ap (λ (i : FormSaid). i.sort) (code_form tag form ef)
      ∙ ap (λ (i : ℕ). (form_of i).sort) et
      ∙ tag_sort s a e t st

  pub tree_stands : (e : Sort) × BothStand s e a b → BothStand s (sort_for o) a b
  tree_stands (e, w) = subst (λ (i : Sort). BothStand s i a b) (sym (sort_is e w.t w.left)) w

  pub tree_done : (r : Option (ℕ × ℕ)) → SamePost s (sort_for o) a b r → (e : Sort) → SamePost s e a b r
  tree_done r post e = record {
    same = λ t u x y lt rt er. (at e t lt).same t u x y lt rt er;
    differ = λ t u lt rt er q. (at e t lt).differ t u lt rt er q;
  }
    where
      at : (e : Sort) (t : Tree) → Stands s a e t → SamePost s e a b r
      at e t st = subst (λ (i : Sort). SamePost s i a b r) (sort_is e t st) post
