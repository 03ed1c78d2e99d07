-- Going over a frame that was read: from a tree that stands somewhere, and the head that `read_head` answers there, to the
-- tree's own head and its children.
-- Main results: at_span, at_wf, at_end_lem, stands_at, parse_at (what it is to stand somewhere); kids_span, kids_wf,
-- kids_end (the same of trees in a row); kids_none, kids_some (the
-- first child and the others); head_of, view, known_view (by a head that was read), known_many (how many types it has).
use mathlib.Core.Path.{◌≡◌, sym, ap, ap₂, ◌∙◌, subst, subst₂}
use mathlib.Core.List.{List, []}
use Prim.Native.Nat.{ℕ, zero, suc, ◌+◌, ◌-◌, ◌≤◌}
use native.Mathlib.Omega.{arith}
use lib.ListN.{length}
use Rattle.std.proofs.Common.{Ok}
use Rattle.frame.specs.Types.{Ty}
use Rattle.frame.specs.Trees.{Head, head, Tree, node, Forest, nil, cons, count}
use Rattle.frame.specs.Tags as T
use Rattle.frame.specs.Tags.{predicate, form_of, width, types_of, sorts_of}
use Rattle.tags.specs.declared.forms.Sort.{Sort}
use Rattle.tags.specs.TagCodes.{meant, sort_for, first_sort, later_sort, kinds_for}
use Rattle.frame.specs.Encoding.{enc_tys, enc, encs}
use Rattle.frame.specs.Reading.{number_at, ok_h, read_head, ok, ok_f, read_many, read_node, tree, parse}
use Rattle.frame.specs.WellFormed.{number_in, HeadWf, Wf, Wfs}
use Rattle.frame.specs.Spans.{Bytes, Spans}
use Rattle.frame.specs.At.{types_at, IsAt, KidsAt}
use Rattle.heads.specs.HeadPost.{facts, head_there, payload_in, sorts_in, KnownPost}
use Rattle.heads.specs.declared.Head.{Head as ReadHead}
use Rattle.frame.proofs.Inversion.{no_not, many_inv, many_count, NodeInv, node_inv, head_inv, behind, tag_at}
use Rattle.frame.proofs.ReadTrees.{head_read, node_enc, node_wf, many_enc, many_wf}
use Rattle.frame.proofs.ReadBack.{enc_long, node_back}
use Rattle.frame.proofs.ReadTypes.{tys_read}
use Rattle.frame.proofs.Frames.{parse_inv}
use Rattle.heads.proofs.HeadSays.{head_yes, said_kinds}
use Rattle.tags.proofs.FormTables.{kinds_rest}
use Rattle.tags.proofs.TagTables.{code_form}

-- ---- a tree that stands somewhere
module _ (s : List ℕ) (bs : Bytes s) (e : T.Sort) (at : ℕ) (t : Tree) (q : ℕ) (a : IsAt s e at t q) where
  pub at_span : Spans s at q (enc t)
  at_span = node_enc a.0 s bs e at t q a.1

  pub at_wf : Wf t e
  at_wf = node_wf a.0 s bs e at t q a.1

  pub at_end_lem : (at + 2 ≤ q) × (q ≤ length s)
  at_end_lem = (omega (arith, at_span.long, enc_long t), at_span.within)

pub stands_at : (s : List ℕ) (e : T.Sort) (at : ℕ) (t : Tree) (q : ℕ) → Spans s at q (enc t) → Wf t e → IsAt s e at t q
stands_at s e at t q a w = (suc q, node_back t (suc q) s e at q a w (omega arith))

-- a frame that parses is its tree, from its first byte to its last
pub parse_at : (s : List ℕ) → Bytes s → (t : Tree) → parse s ≡ tree t → IsAt s predicate 0 t (length s)
parse_at s bs t e =
    let v = parse_inv s t e in
    let z : v.end ≡ length s = omega (arith, v.all, (node_enc (suc (length s)) s bs predicate 0 t v.end v.root).within) in
    subst (IsAt s predicate 0 t) z (suc (length s), v.root)

-- ---- trees in a row
module _ (s : List ℕ) (bs : Bytes s) (es : List T.Sort) (at : ℕ) (h : at ≤ length s) (ts : Forest) (q : ℕ) (a : KidsAt s es at ts q) where
  pub kids_span : Spans s at q (encs ts)
  kids_span = many_enc a.0 s bs es at ts q h a.1

  pub kids_wf : Wfs ts es
  kids_wf = many_wf a.0 s bs es at ts q h a.1

  pub kids_end : (at ≤ q) × (q ≤ length s)
  kids_end = (omega (arith, kids_span.long), kids_span.within)

-- no child, or a first and the others
pub record KidsView (s : List ℕ) (n : ℕ) (a b : Sort) (at : ℕ) (ks : Forest) (q : ℕ) : Type 0 where
  pub first : Tree
  pub rest : Forest
  pub mid : ℕ
  pub one : IsAt s (sort_for a) at first mid
  pub others : KidsAt s (kinds_for (n - 1) b b) mid rest q
  pub is : ks ≡ cons first rest

module _ (s : List ℕ) (n : ℕ) (a b : Sort) (at : ℕ) (ks : Forest) (q : ℕ) (h : KidsAt s (kinds_for n a b) at ks q) where
  pub kids_none : n ≡ 0 → (ks ≡ nil) × (at ≡ q)
  unfolding read_many
  kids_none z = let e : read_many [] (read_node h.0 s) at ≡ ok_f ks q = rw z at h.1 in (cc, cc)

  pub kids_some : (n ≡ 0 → ⊥) → KidsView s n a b at ks q
  kids_some d =
      let z : n ≡ suc (n - 1) = omega arith in
      let e : read_many (kinds_for (suc (n - 1)) a b) (read_node h.0 s) at ≡ ok_f ks q = subst
      (λ (i : ℕ). read_many (kinds_for i a b) (read_node h.0 s) at ≡ ok_f ks q) z h.1 in
      let v = many_inv (sort_for a) _ (read_node h.0 s) at ks q e in record {
        first = v.first;
        rest = v.rest;
        mid = v.mid;
        one = (h.0, v.one);
        others = (h.0, subst (λ (es : List T.Sort). read_many es (read_node h.0 s) v.mid ≡ ok_f v.rest q) (kinds_rest (n - 1) b) v.others);
        is = v.is;
      }

-- ---- a head that was read, of a node with k children
pub record HeadOf (s : List ℕ) (at : ℕ) (e : T.Sort) (g n : ℕ) (us : List Ty) (tp p : ℕ) (es : List T.Sort) (k : ℕ) : Type 0 where
  -- its types, from their start up to its children
  pub types : Spans s tp p (enc_tys us)
  pub starts : tp ≡ at + 2 + width (form_of g).layout
  pub wf : HeadWf e g n us k
  pub sorts : es ≡ sorts_of (form_of g).layout (number_in g n us k)

pub head_of : (s : List ℕ) → Bytes s → (at : ℕ) (e : T.Sort) (g n : ℕ) (us : List Ty) (tp p : ℕ) (es : List T.Sort)
    → read_head s at e ≡ ok_h (head g n us) p es → tp ≡ types_at s at → (k : ℕ) → k ≡ length es → HeadOf s at e g n us tp p es k
head_of s bs at e g n us tp p es eq st k ek =
    let r = head_read s bs at e (head g n us) p es eq k ek in
    let v = head_inv s at e (head g n us) p es eq in
    let i = r.is in
    let j = v.is in
    let eg : r.tag ≡ g = cc in
    let en : r.own ≡ n = cc in
    let eu : r.ts ≡ us = cc in
    let et : tag_at s at ≡ g = cc in
    record {
      types = subst₂ (λ (i : ℕ) (l : List Ty). Spans s i p (enc_tys l)) (sym st) eu r.types;
      starts = st ∙ ap (λ (i : ℕ). at + 2 + width (form_of i).layout) et;
      wf = rw (eg, en, eu) at r.wf;
      sorts = rw (eg, en, eu) at r.sorts;
    }

-- ---- a tree by the head that was read: its tag, payload, where its types and its children start, how many these are, and
-- whether the first and the later ones are expressions
pub record View (s : List ℕ) (e : T.Sort) (at : ℕ) (t : Tree) (q : ℕ) (g n tp p k : ℕ) (a b : Sort) : Type 0 where
  pub us : List Ty
  pub ks : Forest
  pub is : t ≡ node (head g n us) ks
  pub headed : read_head s at e ≡ ok_h (head g n us) p (kinds_for k a b)
  pub top : HeadOf s at e g n us tp p (kinds_for k a b) (count ks)
  -- its children, up to its end
  pub below : KidsAt s (kinds_for k a b) p ks q
  pub many : count ks ≡ k
  pub within : (at + 2 ≤ tp) × (tp ≤ p) × (p ≤ q) × (q ≤ length s)

-- a node whose head was read, and its children
view_node : (s : List ℕ) → Bytes s → (f : ℕ) (e : T.Sort) (at : ℕ) (t : Tree) (q g n : ℕ) (us : List Ty) (tp p k : ℕ) (a b : Sort)
    → read_head s at e ≡ ok_h (head g n us) p (kinds_for k a b) → tp ≡ types_at s at → length (kinds_for k a b) ≡ k → NodeInv f s e at t q
    → View s e at t q g n tp p k a b
view_node s bs f e at t q g n us tp p k a b eq st el d =
    let i = d.headed in
    let top : d.top ≡ head g n us = cc in
    let from : d.from ≡ p = cc in
    let sorts : d.sorts ≡ kinds_for k a b = cc in
    let below : read_many (kinds_for k a b) (read_node f s) p ≡ ok_f d.kids q = rw (sorts, from) at d.below in
    let many : count d.kids ≡ length (kinds_for k a b) = many_count (kinds_for k a b) (read_node f s) p d.kids q below in
    let h = head_of s bs at e g n us tp p (kinds_for k a b) eq st (count d.kids) many in
    let c = kids_end s bs (kinds_for k a b) p h.types.within d.kids q (f, below) in
    record {
      us = us;
      ks = d.kids;
      is = d.is ∙ ap (λ (z : Head). node z d.kids) top;
      headed = eq;
      top = h;
      below = (f, below);
      many = many ∙ el;
      within = (omega (arith, h.starts), omega (arith, h.types.long), c.0, c.1);
    }

pub view : (s : List ℕ) (e : T.Sort) (at : ℕ) (t : Tree) (q : ℕ) → IsAt s e at t q → Bytes s → (g n tp p k : ℕ) (a b : Sort)
    → Ok (facts g n tp p k a b) ≡ head_there s at e → View s e at t q g n tp p k a b
unfolding read_node
view s e at t q h bs g n tp p k a b is = go h.0 h.1
  where
    go : (f : ℕ) → read_node f s e at ≡ ok t q → View s e at t q g n tp p k a b
    go zero eq = no_not eq
    go (suc f) eq =
        let y = head_yes s at e g n tp p k a b is in
        let z = said_kinds s at e g n tp p k a b y in
        view_node s bs f e at t q g n y.ts tp p k a b (y.is ∙ ap (ok_h (head g n y.ts) p) (sym z)) y.starts
        (ap length z ∙ sym y.many) (node_inv f s e at t q eq)

-- the same by the head of a tree that was read before
abbrev pub KnownView : List ℕ → T.Sort → ℕ → Tree → ℕ → ReadHead → Type 0
KnownView s e at t q r =
    View s e at t q r.tag (payload_in r) r.types r.children r.count (first_sort (sorts_in r)) (later_sort (sorts_in r))

pub known_view : (s : List ℕ) → Bytes s → (at : ℕ) (r : ReadHead) → KnownPost s at r → (e : T.Sort) (t : Tree) (q : ℕ) → IsAt s e at t q
    → KnownView s e at t q r
known_view s bs at r k e t q h = view s e at t q h bs _ _ _ _ _ _ _ (k.by e t q h)

-- how many types its head has
pub known_many : (s : List ℕ) → Bytes s → (at : ℕ) (r : ReadHead) → KnownPost s at r → (e : T.Sort) (t : Tree) (q : ℕ) (v : KnownView s e at t q r)
    → length v.us ≡ types_of (meant r.form).layout (meant r.form).carried r.number
known_many s bs at r k e t q v =
    let i = head_inv s at e _ _ _ v.headed in
    let j = i.is in
    let tag : tag_at s at ≡ r.tag = cc in
    let us : i.ts ≡ v.us = cc in
    let f : form_of (tag_at s at) ≡ meant r.form = ap form_of tag ∙ sym (code_form r.tag r.form k.form) in
    let n : behind s at ≡ r.number = ap (λ (fm : T.Form). number_at (width fm.layout) s (at + 2)) f ∙ sym k.number in
    let many = (tys_read _ s bs (types_at s at) i.ts _ i.room i.types).many in
    ap length (sym us) ∙ many ∙ ap₂ (λ (fm : T.Form) (x : ℕ). types_of fm.layout fm.carried x) f n
