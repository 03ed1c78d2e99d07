-- A tree that is read: its bytes stand there, and it is well formed.
-- Main results: head_read, node_enc, node_wf, many_enc, many_wf.
use mathlib.Core.Path.{◌≡◌, refl, sym, ap, ◌∙◌, subst, subst₂}
use mathlib.Core.List.{List, [], ◌∷◌, ◌++◌, append_assoc}
use Prim.Native.Nat.{ℕ, zero, suc, ◌+◌, ◌≤◌}
use native.Mathlib.Omega.{arith}
use lib.ListN.{length}
use Rattle.frame.specs.Types.{Ty}
use Rattle.frame.specs.Trees.{Head, head, Tree, node, Forest, nil, count}
use Rattle.frame.specs.Tags.{
  Sort,
  Layout,
  these,
  payload,
  counted,
  binding,
  form_of,
  width,
  in_range,
  number_of,
  payload_of,
  types_of,
  repeat,
  sorts_of,
}
use Rattle.frame.specs.Encoding.{enc_number, enc_tys, enc_head, enc, encs}
use Rattle.frame.specs.Reading.{number_at, ok_h, read_head, Res, ok, ok_f, read_many, read_node}
use Rattle.frame.specs.WellFormed.{number_in, HeadWf, Wf, Wfs}
use Rattle.frame.specs.Spans.{Bytes, Spans}
use Rattle.frame.specs.At.{types_at}
use Rattle.frame.proofs.Spans.{span_nil, span_join}
use Rattle.frame.proofs.Numbers.{number_small, number_span}
use Rattle.frame.proofs.ReadTypes.{tys_read}
use Rattle.frame.proofs.Inversion.{no_not, many_inv, many_count, node_inv, tag_at, layout_at, behind, head_inv}

-- ---- the number behind the tag is the one that the finished node says again
pub repeat_length : (e : Sort) (n : ℕ) → length (repeat e n) ≡ n
repeat_length e zero = refl
repeat_length e (suc n) = ap suc (repeat_length e n)

no_width : (w : ℕ) (s : List ℕ) (p : ℕ) → w ≡ 0 → number_at w s p ≡ 0
unfolding number_at
no_width zero s p e = refl
no_width (suc w) s p e = absurd (omega arith)

-- x, of a node with as many types and children as x asks for
pub said_again : (l : Layout) (c x m k : ℕ) → (width l ≡ 0 → x ≡ 0) → m ≡ types_of l c x → k ≡ length (sorts_of l x)
    → number_of l (payload_of l x) m k ≡ x
said_again (these es) c x m k z em ek = sym (z refl)
said_again (payload w) c x m k z em ek = refl
said_again (counted lo hi e) c x m k z em ek = ek ∙ repeat_length e x
said_again (binding lo hi es) c x m k z em ek = em

-- ---- heads
-- a head that is read, of a node with k children
pub record HeadRead (s : List ℕ) (at : ℕ) (e : Sort) (h : Head) (p : ℕ) (es : List Sort) (k : ℕ) : Type 0 where
  pub tag : ℕ
  pub own : ℕ
  pub ts : List Ty
  pub is : h ≡ head tag own ts
  pub span : Spans s at p (enc_head h k)
  -- where its types stand
  pub types : Spans s (types_at s at) p (enc_tys ts)
  pub past : at + 2 ≤ p
  pub wf : HeadWf e tag own ts k
  pub sorts : es ≡ sorts_of (form_of tag).layout (number_in tag own ts k)

pub head_read : (s : List ℕ) → Bytes s → (at : ℕ) (e : Sort) (h : Head) (p : ℕ) (es : List Sort) → read_head s at e ≡ ok_h h p es
    → (k : ℕ) → k ≡ length es → HeadRead s at e h p es k
unfolding enc_head
head_read s bs at e h p es eq k ek =
    let v = head_inv s at e h p es eq in
    let g : ℕ = tag_at s at in
    let l : Layout = layout_at s at in
    let x : ℕ = behind s at in
    let n : ℕ = payload_of l x in
    let c : ℕ = (form_of g).carried in
    let ts = v.ts in
    let t = tys_read (types_of l c x) s bs (types_at s at) ts p v.room v.types in
    let ex : number_in g n ts k ≡ x = said_again l c x (length ts) k (no_width (width l) s (at + 2)) t.many (ek ∙ ap length v.sorts) in
    let front : Spans s at (at + 2 + width l) (enc_number 2 g ++ enc_number (width l) (number_in g n ts k)) =
    rw ex (span_join (number_span 2 s bs at v.two_ok) (number_span (width l) s bs (at + 2) v.room)) in
    let back = t.span in
    record {
      tag = g;
      own = n;
      ts = ts;
      is = v.is;
      span = rw v.is (subst (Spans s at p) (append_assoc (enc_number 2 g) (enc_number (width l) (number_in g n ts k))
          (enc_tys ts)) (span_join front back));
      types = t.span;
      past = omega (arith, back.long);
      wf = record {
        small = number_small 2 s bs at;
        listed = v.listed;
        sort = v.sort;
        fits = rw ex (number_small (width l) s bs (at + 2));
        own = ap (payload_of l) ex;
        range = ap (in_range l) ex ∙ v.range;
        many = t.many ∙ ap (types_of l c) (sym ex);
        types = t.wf;
      };
      sorts = v.sorts ∙ ap (sorts_of l) (sym ex);
    }

-- ---- trees
pub record NodeRead (s : List ℕ) (e : Sort) (at : ℕ) (t : Tree) (q : ℕ) : Type 0 where
  pub span : Spans s at q (enc t)
  pub wf : Wf t e

pub record ManyRead (s : List ℕ) (es : List Sort) (at : ℕ) (ts : Forest) (q : ℕ) : Type 0 where
  pub span : Spans s at q (encs ts)
  pub wf : Wfs ts es

pub many_read : (s : List ℕ) (go : Sort → ℕ → Res) → ((e : Sort) (at : ℕ) (t : Tree) (q : ℕ) → go e at ≡ ok t q → NodeRead s e at t q)
    → (es : List Sort) (at : ℕ) (ts : Forest) (q : ℕ) → at ≤ length s → read_many es go at ≡ ok_f ts q → ManyRead s es at ts q
unfolding read_many enc
many_read s go ih [] at ts q h eq =
    let et : nil ≡ ts = cc in
    let ep : at ≡ q = cc in
    subst₂ (ManyRead s [] at) et ep record { span = span_nil h; wf = tt }
many_read s go ih (e ∷ es) at ts q h eq =
    let v = many_inv e es go at ts q eq in
    let a = ih e at v.first v.mid v.one in
    let b = many_read s go ih es v.mid v.rest q a.span.within v.others in
    rw v.is record { span = span_join a.span b.span; wf = (a.wf, b.wf) }

pub node_read : (f : ℕ) (s : List ℕ) → Bytes s → (e : Sort) (at : ℕ) (t : Tree) (q : ℕ) → read_node f s e at ≡ ok t q → NodeRead s e at t q
unfolding read_node enc
node_read zero s bs e at t q eq = no_not eq
node_read (suc f) s bs e at t q eq =
    let v = node_inv f s e at t q eq in
    let ks = v.kids in
    let c = many_count v.sorts (read_node f s) v.from ks q v.below in
    let h = head_read s bs at e v.top v.from v.sorts v.headed (count ks) c in
    let m = many_read s (read_node f s) (node_read f s bs) v.sorts v.from ks q h.span.within v.below in
    let w : Wf (node (head h.tag h.own h.ts) ks) e = (h.wf, rw (← h.sorts) m.wf) in
    rw v.is record { span = span_join h.span m.span; wf = rw h.is w }

module _ (f : ℕ) (s : List ℕ) (bs : Bytes s) where
  pub node_enc : (e : Sort) (at : ℕ) (t : Tree) (q : ℕ) → read_node f s e at ≡ ok t q → Spans s at q (enc t)
  node_enc e at t q eq = (node_read f s bs e at t q eq).span

  pub node_wf : (e : Sort) (at : ℕ) (t : Tree) (q : ℕ) → read_node f s e at ≡ ok t q → Wf t e
  node_wf e at t q eq = (node_read f s bs e at t q eq).wf

  pub many_enc : (es : List Sort) (at : ℕ) (ts : Forest) (q : ℕ) → at ≤ length s → read_many es (read_node f s) at ≡ ok_f ts q → Spans s at q (encs ts)
  many_enc es at ts q h eq = (many_read s (read_node f s) (node_read f s bs) es at ts q h eq).span

  pub many_wf : (es : List Sort) (at : ℕ) (ts : Forest) (q : ℕ) → at ≤ length s → read_many es (read_node f s) at ≡ ok_f ts q → Wfs ts es
  many_wf es at ts q h eq = (many_read s (read_node f s) (node_read f s bs) es at ts q h eq).wf
