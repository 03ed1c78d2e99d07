-- Number 8 in the bytes: the first node of a row of trees, by what the code reads of it.
-- Main results: row_head (a head stands there), node_of (the first node, its children and the later trees),
-- joined (the children join the later trees), row_long.
use mathlib.Core.Path.{◌≡◌, refl, sym, ap, ◌∙◌, subst}
use mathlib.Core.List.{List, [], ◌∷◌, ◌++◌}
use Prim.Native.Nat.{ℕ, zero, suc, ◌+◌, ◌-◌, ◌≤◌, ◌<◌}
use native.Mathlib.Omega.{arith}
use lib.ListN.{length, length-append}
use Rattle.frame.specs.Types.{Ty}
use Rattle.frame.specs.Trees.{head, Tree, node, Forest, nil, cons, append, count, nodes}
use Rattle.frame.specs.Tags as T
use Rattle.frame.specs.Tags.{payload_of, types_of, sorts_of}
use Rattle.tags.specs.declared.forms.Sort.{Sort}
use Rattle.tags.specs.declared.forms.Form.{Form}
use Rattle.tags.specs.declared.forms.Form.TheVariants.{BoundIdentifier}
use Rattle.tags.specs.TagCodes.{meant, kinds_for}
use Rattle.frame.specs.Encoding.{enc_tys, enc, encs}
use Rattle.frame.specs.WellFormed.{number_in, HeadWf, Wfs}
use Rattle.frame.specs.Spans.{Bytes, Spans}
use Rattle.frame.specs.At.{IsAt}
use Rattle.heads.specs.HeadPost.{HeadStands, payload_in, KnownPost}
use Rattle.heads.specs.declared.Head.{Head as ReadHead}
use Rattle.frame.proofs.Spans.{span_left, span_right, span_join}
use Rattle.frame.proofs.Forests.{encs_append, count_append, wfs_append}
use Rattle.frame.proofs.Extents.{nodes_enc}
use Rattle.frame.proofs.ReadBack.{enc_long}
use Rattle.tags.proofs.TagTables.{code_form}
use Rattle.heads.proofs.View.{stands_at, kids_span, kids_wf, known_view, known_many}
use Rattle.binding.specs.Bound.{Row, RowHere}

-- ---- the first tree
record FirstTree (s : List ℕ) (at m : ℕ) (ts : Forest) (q : ℕ) : Type 0 where
  e : T.Sort
  t : Tree
  later : Forest
  mid : ℕ
  is : ts ≡ cons t later
  long : at + length (enc t) ≡ mid
  stands : IsAt s e at t mid
  after : Row s mid (m - 1) later q

first_tree : (s : List ℕ) (at m : ℕ) → 0 < m → (ts : Forest) (q : ℕ) → Row s at m ts q → FirstTree s at m ts q
unfolding enc
first_tree s at m l nil q a = absurd (omega (arith, a.many))
first_tree s at m l (cons t ts) q a = go a.sorts a.wf
  where
    go : (es : List T.Sort) → Wfs (cons t ts) es → FirstTree s at m (cons t ts) q
    go [] w = absurd w
    go (e ∷ es) w = record {
      e = e;
      t = t;
      later = ts;
      mid = at + length (enc t);
      is = refl;
      long = refl;
      stands = stands_at s e at t (at + length (enc t)) (span_left (enc t) (encs ts) a.span) w.0;
      after = record { sorts = es; span = span_right (enc t) (encs ts) a.span; wf = w.1; many = omega (arith, a.many) };
    }

pub row_head : (s : List ℕ) (at m depth : ℕ) (b : List ℕ) → 0 < m → RowHere s at m depth b → HeadStands s at
row_head s at m depth b l h = let f = first_tree s at m l h.0 h.2 h.3 in (f.e, f.t, f.mid, f.stands)

-- a tree has a byte at least
count_long : (ts : Forest) → count ts ≤ length (encs ts)
unfolding enc
count_long nil = omega arith
count_long (cons t ts) = omega (arith, length-append (enc t) (encs ts), enc_long t, count_long ts)

pub row_long : (s : List ℕ) (at m : ℕ) (ts : Forest) (q : ℕ) → Row s at m ts q → m ≤ length s
row_long s at m ts q a = omega (arith, a.many, a.span.long, a.span.within, count_long ts)

-- ---- the first node, its children, and the later trees
no_kinds : (c : ℕ) (a b : Sort) → kinds_for c a b ≡ [] → c ≡ 0
no_kinds zero a b e = refl
no_kinds (suc c) a b e = let z : ◌≡◌ {A = ℕ} 0 1 = cc in absurd (omega arith)

pub record FirstNode (s : List ℕ) (at m : ℕ) (ts : Forest) (q : ℕ) (hd : ReadHead) : Type 0 where
  pub e : T.Sort
  pub n : ℕ
  pub us : List Ty
  pub ks : Forest
  pub later : Forest
  pub mid : ℕ
  pub is : ts ≡ cons (node (head hd.tag n us) ks) later
  pub index : hd.form ≡ BoundIdentifier → n ≡ hd.number
  pub alone : hd.form ≡ BoundIdentifier → hd.count ≡ 0
  pub types : Spans s hd.types hd.children (enc_tys us)
  pub many : length us ≡ types_of (meant hd.form).layout (meant hd.form).carried hd.number
  pub wf : HeadWf e hd.tag n us (count ks)
  pub kids : Row s hd.children hd.count ks mid
  pub after : Row s mid (m - 1) later q
  pub within : (at + 2 ≤ hd.types) × (hd.types ≤ hd.children) × (hd.children ≤ mid) × (mid ≤ length s)
  -- each place has two bytes
  pub places : at + (nodes (node (head hd.tag n us) ks) + nodes (node (head hd.tag n us) ks)) ≤ mid

module _ (s : List ℕ) (bs : Bytes s) (at m : ℕ) (l : 0 < m) (hd : ReadHead) (kn : KnownPost s at hd) where
  pub node_of : (ts : Forest) (q : ℕ) → Row s at m ts q → FirstNode s at m ts q hd
  node_of ts q a =
      let f = first_tree s at m l ts q a in
      let v = known_view s bs at hd kn f.e f.t f.mid f.stands in
      record {
        e = f.e;
        n = payload_in hd;
        us = v.us;
        ks = v.ks;
        later = f.later;
        mid = f.mid;
        is = f.is ∙ ap (λ (t : Tree). cons t f.later) v.is;
        index = λ z. subst (λ (f : Form). payload_of (meant f).layout hd.number ≡ hd.number) (sym z) refl;
        alone = λ z. no_kinds hd.count _ _ (v.top.sorts
            ∙ ap (λ (f : T.Form). sorts_of f.layout (number_in hd.tag (payload_in hd) v.us (count v.ks))) (sym (code_form hd.tag hd.form kn.form))
            ∙ ap (λ (f : Form). sorts_of (meant f).layout (number_in hd.tag (payload_in hd) v.us (count v.ks))) z);
        types = v.top.types;
        many = known_many s bs at hd kn f.e f.t f.mid v;
        wf = v.top.wf;
        kids = record {
          sorts = _;
          span = kids_span s bs _ hd.children v.top.types.within v.ks f.mid v.below;
          wf = kids_wf s bs _ hd.children v.top.types.within v.ks f.mid v.below;
          many = v.many;
        };
        after = f.after;
        within = v.within;
        places = subst (λ (t : Tree). at + (nodes t + nodes t) ≤ f.mid) v.is (omega (arith, f.long, nodes_enc f.t));
      }

pub joined : (s : List ℕ) (at m : ℕ) (ts : Forest) (q : ℕ) (hd : ReadHead) → 0 < m → (v : FirstNode s at m ts q hd)
    → Row s hd.children (m - 1 + hd.count) (append v.ks v.later) q
joined s at m ts q hd l v = record {
  sorts = v.kids.sorts ++ v.after.sorts;
  span = subst (Spans s hd.children q) (sym (encs_append v.ks v.later)) (span_join v.kids.span v.after.span);
  wf = wfs_append v.ks v.later v.kids.sorts v.after.sorts v.kids.wf v.after.wf;
  many = omega (arith, count_append v.ks v.later, v.kids.many, v.after.many);
}
