-- The ways out of `skip_types` and `known_head`, on plain values.
-- Main results: stand_room, after_first_lem (types in a row, by the first byte), skip_end, hand_on, hand_back; head_at, known_two, known_room
-- (a head that stands there), known_types, known_found, known_end (by how it begins).
use mathlib.Core.Path.{◌≡◌, refl, sym, ap, ap₂, ◌∙◌, subst}
use mathlib.Core.Bool.{Bool, true, false}
use mathlib.Core.List.{List, [], ◌∷◌, ◌++◌, append_assoc}
use Prim.Native.Nat.{ℕ, zero, suc, ◌+◌, ◌-◌, ◌≤◌, ◌<◌}
use native.Mathlib.Omega.{arith}
use lib.ListN.{length, get_or}
use Rattle.std.proofs.Common.{Ok}
use lib.Dec.{eqb}
use Rattle.frame.specs.Types.{Ty, bool, int, given, pow, prod}
use Rattle.frame.specs.Trees.{Head, Tree}
use Rattle.frame.specs.Tags as T
use Rattle.frame.specs.Tags.{pick, width, in_range, types_of, class_of, form_of}
use Rattle.tags.specs.declared.forms.Form.{Form}
use Rattle.tags.specs.TagCodes.{meant, form_code}
use Rattle.frame.specs.Encoding.{enc_number, enc_ty, enc_tys}
use Rattle.frame.specs.Reading.{number_at, ok_ts, with_tys, ok_h, read_head, ok, read_node}
use Rattle.frame.specs.Spans.{Bytes, Spans}
use Rattle.frame.specs.At.{types_at, IsAt}
use Rattle.heads.specs.declared.Opening.{Opening}
use Rattle.heads.specs.HeadPost.{head_answer, head_there, said, headed, TypesStand, SkipPost, lead_of, parts_of, HeadStands, HeadEnd, OpeningPost, KnownPost}
use Rattle.frame.proofs.Inversion.{no_not, tag_at, behind, HeadInv, head_inv, node_inv}
use Rattle.frame.proofs.Spans.{span_first, span_right}
use Rattle.frame.proofs.Numbers.{number_length}
use Rattle.frame.proofs.ReadTypes.{tys_long, tys_read}
use Rattle.tags.proofs.TagTables.{code_form}
use Rattle.heads.proofs.HeadTurns.{head_is}

-- ---- types in a row
pub stand_room : (s : List ℕ) (at m : ℕ) → TypesStand s at m → at + m ≤ length s
stand_room s at m h = let x = h.3.long in let y = h.3.within in let z = h.2 in omega (arith, tys_long h.0)

-- the types that are left behind the first byte of some
abbrev pub after_first : List Ty → List Ty
after_first [] = []
after_first (bool ∷ us) = us
after_first (int ∷ us) = us
after_first (given k ∷ us) = us
after_first (pow t ∷ us) = t ∷ us
after_first (prod t u ∷ us) = t ∷ u ∷ us

pub skip_end : (s : List ℕ) (at m : ℕ) → m ≡ 0 → SkipPost s at m at
unfolding enc_tys
skip_end s at m z = record { ends = λ us q l a. none us q l a }
  where
    none : (us : List Ty) (q : ℕ) → length us ≡ m → Spans s at q (enc_tys us) → at ≡ q
    none [] q l a = omega (arith, a.long)
    none (u ∷ us) q l a = absurd (omega arith)

module _ (s : List ℕ) (at m : ℕ) (z : m ≡ 0 → ⊥) (to n : ℕ) (et : to ≡ at + lead_of (get_or s at 0)) (en : n ≡ m - 1 + parts_of (get_or s at 0)) where
  by_lead : (q b step parts : ℕ) → get_or s at 0 ≡ b → lead_of b ≡ step → parts_of b ≡ parts → (rest : List Ty) → length rest ≡ m - 1 + parts
      → Spans s (at + step) q (enc_tys rest) → (length rest ≡ n) × Spans s to q (enc_tys rest)
  by_lead q b step parts eb es ep rest l x =
      let zt : at + step ≡ to = sym (et ∙ ap (λ (i : ℕ). at + lead_of i) eb ∙ ap (λ (i : ℕ). at + i) es) in
      let zn : m - 1 + parts ≡ n = sym (en ∙ ap (λ (i : ℕ). m - 1 + parts_of i) eb ∙ ap (λ (i : ℕ). m - 1 + i) ep) in
      (l ∙ zn, subst (λ (i : ℕ). Spans s i q (enc_tys rest)) zt x)

  pub after_first_lem : (us : List Ty) (q : ℕ) → length us ≡ m → Spans s at q (enc_tys us)
      → (length (after_first us) ≡ n) × Spans s to q (enc_tys (after_first us))
  unfolding enc_tys enc_ty
  after_first_lem [] q l a = absurd (z (sym l))
  after_first_lem (bool ∷ us) q l a = let b = span_first a in by_lead q 0 1 0 b.byte refl refl us (omega arith) b.rest
  after_first_lem (int ∷ us) q l a = let b = span_first a in by_lead q 1 1 0 b.byte refl refl us (omega arith) b.rest
  after_first_lem (given k ∷ us) q l a =
      let b = span_first a in
      let e : at + 1 + 2 ≡ at + 3 = omega arith in
      by_lead q 2 3 0 b.byte refl refl us (omega arith)
      (subst (λ (i : ℕ). Spans s i q (enc_tys us)) (ap (λ (i : ℕ). at + 1 + i) (number_length 2 k) ∙ e)
      (span_right (enc_number 2 k) (enc_tys us) b.rest))
  after_first_lem (pow t ∷ us) q l a = let b = span_first a in by_lead q 3 1 1 b.byte refl refl (t ∷ us) (omega arith) b.rest
  after_first_lem (prod t u ∷ us) q l a =
      let b = span_first a in
      let c : Spans s (at + 1) q (enc_ty t ++ (enc_ty u ++ enc_tys us)) = rw append_assoc at b.rest in
      by_lead q 4 1 2 b.byte refl refl (t ∷ u ∷ us) (omega arith) c

  -- what is handed on, and what is handed back
  pub hand_on : TypesStand s at m → TypesStand s to n
  hand_on h = let x = after_first_lem h.0 h.1 h.2 h.3 in (after_first h.0, h.1, x.0, x.1)

  pub hand_back : (r : ℕ) → SkipPost s to n r → SkipPost s at m r
  hand_back r p = record { ends = λ us q l a. (let x = after_first_lem us q l a in p.ends (after_first us) q x.0 x.1) }

  pub further : TypesStand s at m → (at < to) × (to + n ≤ length s)
  further h = (by (get_or s at 0) refl, stand_room s to n (hand_on h))
    where
      lead_some : (b : Bool) → 0 < pick b 3 1
      lead_some true = omega arith
      lead_some false = omega arith

      by : (b : ℕ) → get_or s at 0 ≡ b → at < to
      by b e = let w = lead_some (eqb (get_or s at 0) 2) in omega (arith, et)

-- ---- the loop of `skip_types`: what is left, and what its end says of all
pub record Skipping (s : List ℕ) (at m p left : ℕ) : Type 0 where
  pub stands : TypesStand s p left
  pub back : (r : ℕ) → SkipPost s p left r → SkipPost s at m r

pub skip_begins : (s : List ℕ) (at m : ℕ) → TypesStand s at m → Skipping s at m at m
skip_begins s at m h = record { stands = h; back = λ r p. p }

module _ (s : List ℕ) (at m p left : ℕ) (w : Skipping s at m p left) (z : 0 < left) (x y : ℕ) (ex : x ≡ lead_of (get_or s p 0))
    (ey : y ≡ parts_of (get_or s p 0)) where
  some : left ≡ 0 → ⊥
  some e = omega arith

  pub skip_goes : Skipping s at m (p + x) (left - 1 + y)
  skip_goes =
      let et : p + x ≡ p + lead_of (get_or s p 0) = ap (λ (i : ℕ). p + i) ex in
      let en : left - 1 + y ≡ left - 1 + parts_of (get_or s p 0) = ap (λ (i : ℕ). left - 1 + i) ey in
      record {
        stands = hand_on s p left some (p + x) (left - 1 + y) et en w.stands;
        back = λ r q. w.back r (hand_back s p left some (p + x) (left - 1 + y) et en r q);
      }

  pub skip_further : (p < p + x) × (p + x + (left - 1 + y) ≤ length s)
  skip_further =
      let et : p + x ≡ p + lead_of (get_or s p 0) = ap (λ (i : ℕ). p + i) ex in
      let en : left - 1 + y ≡ left - 1 + parts_of (get_or s p 0) = ap (λ (i : ℕ). left - 1 + i) ey in
      further s p left some (p + x) (left - 1 + y) et en w.stands

-- the first byte alone: what it leads
pub skip_lead : (s : List ℕ) (at m p left : ℕ) → Skipping s at m p left → 0 < left → (x : ℕ) → x ≡ lead_of (get_or s p 0)
    → (p < p + x) × (p + x ≤ length s)
skip_lead s at m p left w z x ex =
    let f = skip_further s at m p left w z x (parts_of (get_or s p 0)) ex refl in
    (f.0, omega (arith, f.1))

pub skip_done : (s : List ℕ) (at m p left : ℕ) → Skipping s at m p left → left ≤ 0 → SkipPost s at m p
skip_done s at m p left w z = w.back p (skip_end s p left (omega arith))

-- ---- the head of a tree that stands somewhere
pub record Head_at (s : List ℕ) (at : ℕ) (e : T.Sort) : Type 0 where
  pub h : Head
  pub p : ℕ
  pub es : List T.Sort
  pub headed : read_head s at e ≡ ok_h h p es
  pub inv : HeadInv s at e h p es

pub head_at : (s : List ℕ) (at : ℕ) (e : T.Sort) (t : Tree) (q : ℕ) → IsAt s e at t q → Head_at s at e
unfolding read_node
head_at s at e t q a = go a.0 a.1
  where
    go : (f : ℕ) → read_node f s e at ≡ ok t q → Head_at s at e
    go zero eq = no_not eq
    go (suc f) eq = let v = node_inv f s e at t q eq in record {
      h = v.top;
      p = v.from;
      es = v.sorts;
      headed = v.headed;
      inv = head_inv s at e v.top v.from v.sorts v.headed;
    }

pub known_two : (s : List ℕ) (at : ℕ) → HeadStands s at → at + 2 ≤ length s
known_two s at k = (head_at s at k.0 k.1 k.2 k.3).inv.two_ok

-- the tag and its form
module _ (s : List ℕ) (at tag : ℕ) (et : tag ≡ number_at 2 s at) (form : Form) (ef : form ≡ form_code (class_of tag)) where
  is_form : meant form ≡ form_of (tag_at s at)
  is_form = code_form tag form ef ∙ ap form_of et

  pub known_room : HeadStands s at → at + 2 + width (meant form).layout ≤ length s
  known_room k =
      let v = (head_at s at k.0 k.1 k.2 k.3).inv in
      omega (arith, ap (λ (fm : T.Form). width fm.layout) is_form, v.room)

  pub known_opened : (w : ℕ) → w ≡ width (meant form).layout → (x : ℕ) → x ≡ number_at w s (at + 2) → HeadStands s at
      → OpeningPost s at (record { tag = tag; form = form; number = x; types = at + 2 + w })
  known_opened w ew x ex k = record {
    tag = et;
    form = ef;
    number = ex ∙ ap (λ (i : ℕ). number_at i s (at + 2)) ew;
    types = ap (λ (i : ℕ). at + 2 + i) ew;
    within = omega (arith, known_room k);
  }

-- how the head begins
module _ (s : List ℕ) (at : ℕ) (o : Opening) (post : OpeningPost s at o) where
  opened : meant o.form ≡ form_of (tag_at s at)
  opened = is_form s at o.tag post.tag o.form post.form

  is_behind : o.number ≡ behind s at
  is_behind = post.number ∙ ap (λ (fm : T.Form). number_at (width fm.layout) s (at + 2)) opened

  is_types : o.types ≡ types_at s at
  is_types = post.types ∙ ap (λ (fm : T.Form). at + 2 + width fm.layout) opened

  pub known_range : HeadStands s at → in_range (meant o.form).layout o.number ≡ true
  known_range k =
      ap₂ (λ (fm : T.Form) (i : ℕ). in_range fm.layout i) opened is_behind
      ∙ (head_at s at k.0 k.1 k.2 k.3).inv.range

  module _ (m : ℕ) (em : m ≡ types_of (meant o.form).layout (meant o.form).carried o.number) where
    is_many : m ≡ types_of (form_of (tag_at s at)).layout (form_of (tag_at s at)).carried (behind s at)
    is_many = em ∙ ap₂ (λ (fm : T.Form) (i : ℕ). types_of fm.layout fm.carried i) opened is_behind

    tys_of : Bytes s → (e : T.Sort) (t : Tree) (q : ℕ) → IsAt s e at t q
        → (us : List Ty) × (p : ℕ) × (length us ≡ m) × Spans s o.types p (enc_tys us)
    tys_of bs e t q a =
        let k = head_at s at e t q a in
        let v = k.inv in
        let y = tys_read _ s bs (types_at s at) v.ts k.p v.room v.types in
        (v.ts, k.p, y.many ∙ sym is_many, subst (λ (i : ℕ). Spans s i k.p (enc_tys v.ts)) (sym is_types) y.span)

    pub known_types : Bytes s → HeadStands s at → TypesStand s o.types m
    known_types bs k = tys_of bs k.0 k.1 k.2 k.3

    pub known_found : Bytes s → HeadStands s at → (to : ℕ) → SkipPost s o.types m to → KnownPost s at (headed o to)
    unfolding head_at tys_of
    known_found bs hs to sk = record { form = post.form; number = post.number; by = λ e t q a. found e t q a }
      where
        found : (e : T.Sort) (t : Tree) (q : ℕ) → IsAt s e at t q → Ok (said (headed o to)) ≡ head_there s at e
        found e t q a =
            let k = head_at s at e t q a in
            let v = k.inv in
            let ty = tys_of bs e t q a in
            let z : to ≡ k.p = sk.ends ty.0 ty.1 ty.2 ty.3 in
            head_is o to (known_range hs) v.ts
            ∙ ap₂ (λ (fm : T.Form) (i : ℕ). head_answer o.types (with_tys fm o.tag i (ok_ts v.ts to))) opened is_behind
            ∙ ap₂ (λ (g i : ℕ). head_answer i (with_tys (form_of (tag_at s at)) g (behind s at) (ok_ts v.ts to))) post.tag is_types
            ∙ ap (λ (i : ℕ). head_answer (types_at s at) (with_tys (form_of (tag_at s at)) (tag_at s at) (behind s at) (ok_ts v.ts i))) z
            ∙ ap₂ (λ (h : Head) (es : List T.Sort). head_answer (types_at s at) (ok_h h k.p es)) (sym v.is) (sym v.sorts)
            ∙ ap (head_answer (types_at s at)) (sym k.headed)

    pub known_end : Bytes s → (to : ℕ) → SkipPost s o.types m to → HeadEnd s at to
    unfolding head_at tys_of
    known_end bs to sk = record { by = λ e t q a. at_end_lem e t q a }
      where
        at_end_lem : (e : T.Sort) (t : Tree) (q : ℕ) → IsAt s e at t q → (h : Head) (p : ℕ) (es : List T.Sort) → read_head s at e ≡ ok_h h p es → to ≡ p
        at_end_lem e t q a h p es eq =
            let k = head_at s at e t q a in
            let ty = tys_of bs e t q a in
            let z : to ≡ k.p = sk.ends ty.0 ty.1 ty.2 ty.3 in
            let y = k.headed in
            cc
