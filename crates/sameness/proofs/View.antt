-- From what is read at a position to the tree that stands there, and from trees in a row to the first and the rest.
-- Main results: read_there (the head of a tree that stands somewhere is read), said (what the head that is known there says of
-- it); stand_inside, stand_byte; all_inside, all_count,
-- all_none, all_first, all_rest, split, and split_kinds and none_kinds by a number of trees and two sorts.
use mathlib.Core.Path.{◌≡◌, refl, sym, ap, ap₂, ◌∙◌, subst}
use mathlib.Core.List.{List, [], ◌∷◌, ◌++◌}
use Prim.Native.Nat.{ℕ, suc, ◌+◌, ◌-◌, ◌≤◌, ◌<◌}
use native.Mathlib.Omega.{arith}
use lib.ListN.{length, get_or, drop, length-append}
use lib.Seq.{get_or-drop, get_or-take}
use Rattle.frame.specs.Types.{Ty}
use Rattle.frame.specs.Trees.{Head, head, Tree, node, Forest, nil, cons, count}
use Rattle.frame.specs.Tags.{Sort, form_of, sorts_of}
use Rattle.tags.specs.declared.forms.Sort.{Sort as Kind}
use Rattle.tags.specs.TagCodes.{sort_for, first_sort, later_sort, kinds_for}
use Rattle.frame.specs.Encoding.{enc_head, enc, encs}
use Rattle.frame.specs.Reading.{ok_h, read_head}
use Rattle.frame.specs.WellFormed.{number_in, HeadWf, Wfs}
use Rattle.frame.specs.Spans.{Spans}
use Rattle.heads.specs.HeadPost.{sorts_in, KnownPost}
use Rattle.heads.specs.declared.Head.{Head as ReadHead}
use Rattle.frame.proofs.Spans.{span_left, span_right}
use Rattle.frame.proofs.ReadBack.{head_long, enc_long, head_back}
use Rattle.heads.proofs.HeadSays.{head_yes, said_kinds}
use Rattle.heads.proofs.View.{stands_at}
use Rattle.tags.proofs.FormTables.{kinds_rest}
use Rattle.sameness.specs.Stands.{Stands, StandAll}

-- ---- a tree and its head

-- the head of the tree that stands at `at` as it is read: its children from p on, of the sorts es
pub record Read (s : List ℕ) (at : ℕ) (e : Sort) (t : Tree) : Type 0 where
  pub g : ℕ
  pub n : ℕ
  pub us : List Ty
  pub ks : Forest
  pub p : ℕ
  pub es : List Sort
  pub is : t ≡ node (head g n us) ks
  pub wf : HeadWf e g n us (count ks)
  pub sorts : es ≡ sorts_of (form_of g).layout (number_in g n us (count ks))
  pub read : read_head s at e ≡ ok_h (head g n us) p es
  pub top : Spans s at p (enc_head (head g n us) (count ks))
  pub kids : StandAll s p es ks
  pub ends : at + length (enc t) ≡ p + length (encs ks)
  pub past : at + 2 ≤ p

module _ (s : List ℕ) (at : ℕ) (e : Sort) where
  pub read_there : (t : Tree) → Stands s at e t → Read s at e t
  unfolding enc
  read_there (node (head g n us) ks) st =
      let h : Head = head g n us in
      let k : ℕ = count ks in
      let p : ℕ = at + length (enc_head h k) in
      let a = span_left (enc_head h k) (encs ks) st.bytes in
      let b = span_right (enc_head h k) (encs ks) st.bytes in
      let z : at + length (enc_head h k ++ encs ks) ≡ p + length (encs ks) = omega (arith, length-append (enc_head h k) (encs ks)) in
      record {
        g = g;
        n = n;
        us = us;
        ks = ks;
        p = p;
        es = sorts_of (form_of g).layout (number_in g n us k);
        is = refl;
        wf = st.formed.0;
        sorts = refl;
        read = head_back s at e g n us k p st.formed.0 a;
        top = a;
        kids = record { bytes = subst (λ (i : ℕ). Spans s p i (encs ks)) z b; formed = st.formed.1 };
        ends = z;
        past = omega (arith, head_long h k);
      }

-- there are as many trees as sorts
pub all_count : (ts : Forest) (es : List Sort) → Wfs ts es → count ts ≡ length es
all_count nil [] w = refl
all_count nil (e ∷ es) w = absurd w
all_count (cons t ts) [] w = absurd w
all_count (cons t ts) (e ∷ es) w = ap suc (all_count ts es w.1)

-- the head that is known there is the one that is read: its children start there, and are of these sorts
pub record Said (s : List ℕ) (at : ℕ) (e : Sort) (t : Tree) (r : Read s at e t) (h : ReadHead) : Type 0 where
  pub from : r.p ≡ h.children
  pub kinds : (f l : Kind) → f ≡ first_sort (sorts_in h) → l ≡ later_sort (sorts_in h) → kinds_for h.count f l ≡ r.es

pub said : (s : List ℕ) (at : ℕ) (e : Sort) (t : Tree) (st : Stands s at e t) (h : ReadHead) → KnownPost s at h
    → Said s at e t (read_there s at e t st) h
said s at e t st h kn =
    let r = read_there s at e t st in
    let d = head_yes s at e _ _ _ _ _ _ _ (kn.by e t (at + length (enc t)) (stands_at s e at t (at + length (enc t)) st.bytes st.formed)) in
    let ee : d.es ≡ r.es = cc (r.read, d.is) in
    record {
      from = cc (r.read, d.is);
      kinds = λ f l ef el. ap₂ (λ (x y : Kind). kinds_for h.count x y) ef el ∙ said_kinds s at e _ _ _ _ _ _ _ d ∙ ee;
    }

-- ---- where trees stand
module _ {s : List ℕ} {at : ℕ} where
  pub stand_inside : {e : Sort} {t : Tree} → Stands s at e t → at + 2 ≤ length s
  stand_inside {e} {t} st = omega (arith, enc_long t, st.bytes.within)

  pub all_inside : {es : List Sort} {ts : Forest} → StandAll s at es ts → at ≤ length s
  all_inside st = omega (arith, st.bytes.within)

  -- the byte i of the tree
  pub stand_byte : {e : Sort} {t : Tree} → Stands s at e t → (i : ℕ) → i < length (enc t) → get_or s (at + i) 0 ≡ get_or (enc t) i 0
  stand_byte {e} {t} st i l =
      sym (get_or-take (length (enc t)) (drop at s) i 0 l ∙ get_or-drop at s i 0) ∙ ap (λ (x : List ℕ). get_or x i 0) st.bytes.bytes

  -- no tree
  pub all_none : (ts : Forest) → StandAll s at [] ts → ts ≡ nil
  all_none nil st = refl
  all_none (cons t ts) st = absurd st.formed

  -- one tree, and the others behind it
  pub all_first : {e : Sort} {es : List Sort} {t : Tree} {ts : Forest} → StandAll s at (e ∷ es) (cons t ts) → Stands s at e t
  unfolding enc
  all_first {e} {es} {t} {ts} st = record { bytes = span_left (enc t) (encs ts) st.bytes; formed = st.formed.0 }

  pub all_rest : {e : Sort} {es : List Sort} {t : Tree} {ts : Forest} → StandAll s at (e ∷ es) (cons t ts) → StandAll s (at + length (enc t)) es ts
  unfolding enc
  all_rest {e} {es} {t} {ts} st =
      let b = span_right (enc t) (encs ts) st.bytes in
      let z : at + length (enc t ++ encs ts) ≡ at + length (enc t) + length (encs ts) = omega (arith, length-append (enc t) (encs ts)) in
      record { bytes = subst (λ (i : ℕ). Spans s (at + length (enc t)) i (encs ts)) z b; formed = st.formed.1 }

-- trees in a row, of which there is one at least: the first and the others
pub record Split (s : List ℕ) (at : ℕ) (e : Sort) (es : List Sort) (ts : Forest) : Type 0 where
  pub first : Tree
  pub rest : Forest
  pub is : ts ≡ cons first rest
  pub one : Stands s at e first
  pub others : StandAll s (at + length (enc first)) es rest
  pub long : length (encs ts) ≡ length (enc first) + length (encs rest)

pub split : {s : List ℕ} {at : ℕ} {e : Sort} {es : List Sort} (ts : Forest) → StandAll s at (e ∷ es) ts → Split s at e es ts
unfolding enc
split nil st = absurd st.formed
split (cons t ts) st =
    record { first = t; rest = ts; is = refl; one = all_first st; others = all_rest st; long = length-append (enc t) (encs ts) }

-- the same by a number of trees and two sorts
module _ {s : List ℕ} {at : ℕ} (n : ℕ) (a b : Kind) (ts : Forest) (st : StandAll s at (kinds_for n a b) ts) where
  pub split_kinds : (n ≡ 0 → ⊥) → Split s at (sort_for a) (kinds_for (n - 1) b b) ts
  split_kinds some =
      let z : n ≡ suc (n - 1) = omega arith in
      rw (← kinds_rest (n - 1) b) (split ts (subst (λ (i : ℕ). StandAll s at (kinds_for i a b) ts) z st))

  pub none_kinds : n ≡ 0 → ts ≡ nil
  none_kinds z = all_none ts (subst (λ (i : ℕ). StandAll s at (kinds_for i a b) ts) z st)
