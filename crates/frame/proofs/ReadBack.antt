-- The bytes of a well formed tree are read as that tree.
-- Main results: head_back, node_back, many_back; head_long, enc_long (a node has two bytes at least).
use mathlib.Core.Path.{◌≡◌, sym, ap, ◌∙◌}
use mathlib.Core.Bool.{true}
use mathlib.Core.List.{List, [], ◌∷◌, ◌++◌}
use Prim.Native.Nat.{ℕ, zero, suc, ◌+◌, ◌≤◌, ◌<◌}
use native.Mathlib.Omega.{arith}
use lib.ListN.{length, length-append}
use borrow.Author.Tests.{le-ltb}
use Rattle.frame.specs.Types.{Ty}
use Rattle.frame.specs.Trees.{Head, head, Tree, node, Forest, nil, cons, count}
use Rattle.frame.specs.Tags.{Sort, same_sort, Layout, Form, form_of, width, sorts_of}
use Rattle.frame.specs.Encoding.{enc_number, enc_tys, enc_head, enc, encs}
use Rattle.frame.specs.Reading.{
  read_tys,
  HeadRes,
  ok_h,
  with_tys,
  with_number,
  with_form,
  read_head,
  Res,
  ok,
  ok_f,
  cons_f,
  then_f,
  read_many,
  node_of,
  with_kids,
  read_node,
}
use Rattle.frame.specs.WellFormed.{number_in, HeadWf, Wf, Wfs}
use Rattle.frame.specs.Spans.{Spans}
use Rattle.frame.proofs.Spans.{span_left, span_right}
use Rattle.frame.proofs.Numbers.{number_length, number_back}
use Rattle.frame.proofs.ReadTypes.{tys_back}
use Rattle.frame.proofs.Inversion.{same_sort_refl}

pub head_long : (h : Head) (k : ℕ) → 2 ≤ length (enc_head h k)
unfolding enc_head
head_long (head g n ts) k = simp (length-append, number_length) (omega arith)

pub enc_long : (t : Tree) → 2 ≤ length (enc t)
unfolding enc
enc_long (node h ks) = simp length-append (omega (arith, head_long h (count ks)))

module _ (s : List ℕ) (at : ℕ) (e : Sort) (g n : ℕ) (ts : List Ty) (k p : ℕ) (w : HeadWf e g n ts k) where
  pub head_back : Spans s at p (enc_head (head g n ts) k)
      → read_head s at e ≡ ok_h (head g n ts) p (sorts_of (form_of g).layout (number_in g n ts k))
  unfolding enc_head read_head with_form with_number
  head_back a =
      let fm : Form = form_of g in
      let l : Layout = fm.layout in
      let x : ℕ = number_in g n ts k in
      let t₀ : ℕ = at + 2 + width l in
      let b = number_back 2 s at p g (enc_number (width l) x ++ enc_tys ts) w.small a in
      let c = number_back (width l) s (at + 2) p x (enc_tys ts) w.fits b.rest in
      let t = tys_back ts s t₀ p c.rest w.types in
      let r : same_sort fm.sort e ≡ true = ap (λ (i : Sort). same_sort i e) w.sort ∙ same_sort_refl e in
      simp (le-ltb (length s) (at + 2) b.within, b.number, w.listed, r, le-ltb (length s) t₀ c.within, c.number, w.range)
      (ap (λ (i : ℕ). with_tys fm g x (read_tys i s t₀)) (sym w.many)
      ∙ ap (with_tys fm g x) t
      ∙ ap (λ (i : ℕ). ok_h (head g i ts) p (sorts_of l x)) w.own)

-- ---- trees
abbrev NodeBack : Tree → Type 0
NodeBack t = (f : ℕ) (s : List ℕ) (e : Sort) (at q : ℕ) → Spans s at q (enc t) → Wf t e → q < at + f → read_node f s e at ≡ ok t q

abbrev ManyBack : Forest → Type 0
ManyBack ks = (f : ℕ) (s : List ℕ) (es : List Sort) (at q : ℕ) → Spans s at q (encs ks) → Wfs ks es → q < at + f
    → read_many es (read_node f s) at ≡ ok_f ks q

node_at : (g n : ℕ) (ts : List Ty) (ks : Forest) → ManyBack ks → NodeBack (node (head g n ts) ks)
unfolding enc read_node
node_at g n ts ks ih zero s e at q a w l = absurd (omega (arith, a.long))
node_at g n ts ks ih (suc f) s e at q a w l =
    let h : Head = head g n ts in
    let k : ℕ = count ks in
    let b = span_left (enc_head h k) (encs ks) a in
    let c = span_right (enc_head h k) (encs ks) a in
    let p : ℕ = at + length (enc_head h k) in
    ap (λ (x : HeadRes). with_kids x (read_node f s)) (head_back s at e g n ts k p w.0 b)
    ∙ ap (node_of h) (ih f s (sorts_of (form_of g).layout (number_in g n ts k)) p q c w.1 (omega (arith, head_long h k)))

many_nil : ManyBack nil
unfolding enc read_many
many_nil f s [] at q a w l = let z : at ≡ q = omega (arith, a.long) in ap (ok_f nil) z
many_nil f s (e ∷ es) at q a w l = absurd w

many_cons : (t : Tree) (ts : Forest) → NodeBack t → ManyBack ts → ManyBack (cons t ts)
unfolding enc read_many
many_cons t ts ih₁ ih₂ f s [] at q a w l = absurd w
many_cons t ts ih₁ ih₂ f s (e ∷ es) at q a w l =
    let b = span_left (enc t) (encs ts) a in
    let c = span_right (enc t) (encs ts) a in
    let m : ℕ = at + length (enc t) in
    ap (λ (x : Res). then_f x (λ i. read_many es (read_node f s) i)) (ih₁ f s e at m b w.0 (omega (arith, c.long)))
    ∙ ap (cons_f t) (ih₂ f s es m q c w.1 (omega arith))

mutual
  pub node_back : (t : Tree) (f : ℕ) (s : List ℕ) (e : Sort) (at q : ℕ) → Spans s at q (enc t) → Wf t e → q < at + f → read_node f s e at ≡ ok t q
  node_back (node (head g n ts) ks) = node_at g n ts ks (many_back ks)

  pub many_back : (ks : Forest) (f : ℕ) (s : List ℕ) (es : List Sort) (at q : ℕ) → Spans s at q (encs ks) → Wfs ks es → q < at + f
      → read_many es (read_node f s) at ≡ ok_f ks q
  many_back nil = many_nil
  many_back (cons t ts) = many_cons t ts (node_back t) (many_back ts)
