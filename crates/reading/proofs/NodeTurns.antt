-- A tree by its head and its children, and a row of trees by the first and the others, on plain values.
-- Main results: filled_none, filled_append (starts that are added); node_yes, node_no; node_refused, node_room, node_kids; row_none,
-- row_refused, row_room, row_more.
use mathlib.Core.Path.{◌≡◌, refl, sym, ap, ap₂, ◌∙◌, subst}
use mathlib.Core.List.{List, [], ◌∷◌, ◌++◌}
use Prim.Native.Nat.{ℕ, zero, suc, ◌+◌, ◌-◌, ◌≤◌, ◌<◌}
use native.Mathlib.Omega.{arith}
use lib.ListN.{length, length-append}
use Rattle.std.proofs.Common.{Result, Ok, Err}
use Rattle.frame.specs.Trees.{Head, head, Tree, node, Forest, nil, cons, count}
use Rattle.frame.specs.Refusals.{refusal}
use Rattle.frame.specs.declared.refusals.Refusal.{Refusal}
use Rattle.frame.specs.Tags as T
use Rattle.tags.specs.declared.forms.Sort.{Sort}
use Rattle.tags.specs.TagCodes.{sort_for, kinds_for}
use Rattle.frame.specs.Encoding.{enc_head, enc, starts, starts_in}
use Rattle.frame.specs.Reading.{HeadRes, no_h, read_head, Res, ok, no, FRes, ok_f, no_f, cons_f, then_f, read_many, node_of, with_kids, read_node}
use Rattle.frame.specs.Spans.{Bytes, Spans}
use Rattle.heads.specs.HeadPost.{facts, head_there}
use Rattle.reading.specs.declared.FrameRead.{FrameRead}
use Rattle.reading.specs.Post.{node_answer, trees_answer, Room, filled, NodePost, TreesPost}
use Rattle.frame.proofs.Tables.{sets_append}
use Rattle.frame.proofs.Inversion.{no_f_not, no_not, many_count}
use Rattle.frame.proofs.ReadTrees.{head_read, node_enc}
use Rattle.frame.proofs.Extents.{node_end, nodes_enc, starts_length}
use Rattle.heads.proofs.HeadSays.{head_no, SaidThere, head_yes, said_kinds}
use Rattle.tags.proofs.FormTables.{kinds_rest}

abbrev pub Answer : Type 0
Answer = Result ℕ Refusal

-- ---- starts that are added
abbrev pub read_so : ℕ → List ℕ → FrameRead
read_so n l = record { nodes = n; starts = l }

pub filled_none : (b : FrameRead) → filled b [] ≡ b
filled_none b = let z : b.nodes + 0 ≡ b.nodes = omega arith in ap (λ (n : ℕ). read_so n b.starts) z

pub filled_append : (b : FrameRead) (xs ys : List ℕ) → filled (filled b xs) ys ≡ filled b (xs ++ ys)
filled_append b xs ys =
    let z : b.nodes + length xs + length ys ≡ b.nodes + length (xs ++ ys) = omega (arith, length-append xs ys) in
    ap₂ read_so z (sym (sets_append b.starts b.nodes xs ys))

-- ---- answers and results
pub node_yes : (x : Res) (p : ℕ) → Ok p ≡ node_answer x → (t : Tree) × (x ≡ ok t p)
node_yes (ok t q) p e = (t, cc)
node_yes (no c) p e = cc

pub node_no : (x : Res) (r : Refusal) → Err r ≡ node_answer x → (c : ℕ) × (x ≡ no c) × (r ≡ refusal c)
node_no (ok t q) r e = cc
node_no (no d) r e = (d, refl, cc)

-- ---- a tree, by its head and its children
module _ (s : List ℕ) (e : T.Sort) (at : ℕ) (b : FrameRead) (room : Room s at b.nodes) where
  stops : (c : ℕ) → read_head s at e ≡ no_h c → (f : ℕ) → length s < at + f → read_node f s e at ≡ no c
  unfolding read_node
  stops c is zero l = absurd (omega (arith, room.within))
  stops c is (suc f) l = ap (λ (x : HeadRes). with_kids x (read_node f s)) is

  pub node_refused : (r : Refusal) → Err r ≡ head_there s at e → (b₁ : FrameRead) → NodePost s e at b b₁ (Err r)
  node_refused r er b₁ =
      let (c, is, z) = head_no s at e r er in
      record {
        answer = λ f l. ap Err z ∙ ap node_answer (sym (stops c is f l));
        table = λ f l t q eq. no_not (sym (stops c is f l) ∙ eq);
      }

  module _ (bs : Bytes s) (g n tp p m : ℕ) (first later : Sort) (is : Ok (facts g n tp p m first later) ≡ head_there s at e) where
    said : SaidThere s at e g n tp p m first later
    said = head_yes s at e g n tp p m first later is

    abbrev top : Head
    top = head g n said.ts

    kinds : kinds_for m first later ≡ said.es
    kinds = said_kinds s at e g n tp p m first later said

    spanned : Spans s at p (enc_head top m) × (at + 2 ≤ p)
    spanned = let r = head_read s bs at e top p said.es said.is m said.many in (r.span, r.past)

    pub node_room : Room s p (b.nodes + 1) × (at + 2 ≤ p)
    node_room = (record { within = spanned.0.within; short = room.short; room = omega (arith, room.room, spanned.1) }, spanned.1)

    by_kids : (f : ℕ) → read_node (suc f) s e at ≡ node_of top (read_many (kinds_for m first later) (read_node f s) p)
    unfolding read_node
    by_kids f =
        ap (λ (x : HeadRes). with_kids x (read_node f s)) said.is
        ∙ ap (λ (es : List T.Sort). node_of top (read_many es (read_node f s) p)) (sym kinds)

    same : (x : FRes) → trees_answer x ≡ node_answer (node_of top x)
    same (ok_f ts q) = refl
    same (no_f c) = refl

    module _ (b₁ : FrameRead) (r : Answer) (post : TreesPost s (kinds_for m first later) p (filled b (at ∷ [])) b₁ r) where
      on_kids : (f : ℕ) → length s < p + f → (t : Tree) (q : ℕ) (x : FRes)
          → read_many (kinds_for m first later) (read_node f s) p ≡ x → node_of top x ≡ ok t q → b₁ ≡ filled b (starts t at)
      unfolding starts
      on_kids f l t q (ok_f ts q') ex eq =
          let et : node top ts ≡ t = cc in
          let c : m ≡ count ts = sym (many_count (kinds_for m first later) (read_node f s) p ts q' ex ∙ ap
          (λ (es : List T.Sort). length es) kinds ∙ sym said.many) in
          let y : p ≡ at + length (enc_head top (count ts)) = sym spanned.0.long ∙ ap (λ (i : ℕ). at + length (enc_head top i)) c in
          post.table f l ts q' ex
          ∙ filled_append b (at ∷ []) (starts_in ts p)
          ∙ ap (λ (i : ℕ). filled b (at ∷ starts_in ts i)) y
          ∙ ap (λ (u : Tree). filled b (starts u at)) et
      on_kids f l t q (no_f c) ex eq = no_not eq

      pub node_kids : NodePost s e at b b₁ r
      node_kids = record { answer = answer; table = table }
        where
          answer : (f : ℕ) → length s < at + f → r ≡ node_answer (read_node f s e at)
          answer zero l = absurd (omega (arith, room.within))
          answer (suc f) l =
              post.answer f (omega (arith, spanned.1)) ∙ same (read_many (kinds_for m first later) (read_node f s) p) ∙ ap node_answer (sym (by_kids f))

          table : (f : ℕ) → length s < at + f → (t : Tree) (q : ℕ) → read_node f s e at ≡ ok t q → b₁ ≡ filled b (starts t at)
          table zero l t q eq = absurd (omega (arith, room.within))
          table (suc f) l t q eq =
              on_kids f (omega (arith, spanned.1)) t q (read_many (kinds_for m first later) (read_node f s) p) refl (sym (by_kids f) ∙ eq)

-- ---- a row of trees, by the first and the others
module _ (s : List ℕ) (n : ℕ) (a d : Sort) (at : ℕ) (b : FrameRead) where
  pub row_none : n ≡ 0 → TreesPost s (kinds_for n a d) at b b (Ok at)
  unfolding read_many starts
  row_none z = subst (λ (i : ℕ). TreesPost s (kinds_for i a d) at b b (Ok at)) (sym z) (record { answer = λ f l. refl; table = table })
    where
      table : (f : ℕ) → length s < at + f → (ts : Forest) (q : ℕ) → read_many [] (read_node f s) at ≡ ok_f ts q → b ≡ filled b (starts_in ts at)
      table f l ts q eq = let et : nil ≡ ts = cc in sym (filled_none b) ∙ ap (λ (u : Forest). filled b (starts_in u at)) et

  module _ (some : n ≡ 0 → ⊥) where
    step : (f : ℕ) → read_many (kinds_for n a d) (read_node f s) at ≡ then_f (read_node f s (sort_for a) at)
        (λ q. read_many (kinds_for (n - 1) d d) (read_node f s) q)
    unfolding read_many
    step f =
        let z : n ≡ suc (n - 1) = omega arith in
        ap (λ (i : ℕ). read_many (kinds_for i a d) (read_node f s) at) z
        ∙ ap (λ (es : List T.Sort). then_f (read_node f s (sort_for a) at) (λ q. read_many es (read_node f s) q)) (kinds_rest (n - 1) d)

    pub row_refused : (r : Refusal) (b₁ : FrameRead) → NodePost s (sort_for a) at b b₁ (Err r) → TreesPost s (kinds_for n a d) at b b₁ (Err r)
    row_refused r b₁ post = record {
      answer = λ f l. (let v = node_no (read_node f s (sort_for a) at) r (post.answer f l) in ap Err v.2 ∙ ap trees_answer (sym (stops_row f v.0 v.1)));
      table = λ f l ts q eq. (let v = node_no (read_node f s (sort_for a) at) r (post.answer f l) in no_f_not (sym (stops_row f v.0 v.1) ∙ eq));
    }
      where
        stops_row : (f c : ℕ) → read_node f s (sort_for a) at ≡ no c → read_many (kinds_for n a d) (read_node f s) at ≡ no_f c
        stops_row f c e = step f ∙ ap (λ (x : Res). then_f x (λ q. read_many (kinds_for (n - 1) d d) (read_node f s) q)) e

    module _ (bs : Bytes s) (room : Room s at b.nodes) (b₁ : FrameRead) (p : ℕ) (post : NodePost s (sort_for a) at b b₁ (Ok p)) where
      first : (f : ℕ) → length s < at + f → (t : Tree) × (read_node f s (sort_for a) at ≡ ok t p)
      first f l = node_yes (read_node f s (sort_for a) at) p (post.answer f l)

      pub row_room : Room s p b₁.nodes × (at + 2 ≤ p)
      row_room =
          let l : length s < at + suc (length s) = omega arith in
          let (t, is) = first (suc (length s)) l in
          let x = node_enc (suc (length s)) s bs (sort_for a) at t p is in
          let y = node_end (suc (length s)) s bs (sort_for a) at t p is in
          let z = ap (λ (i : FrameRead). i.nodes) (post.table (suc (length s)) l t p is) in
          (record { within = y.1; short = room.short; room = omega (arith, room.room, x.long, z, starts_length t at, nodes_enc t) }, y.0)

      same_rest : (t : Tree) (x : FRes) → trees_answer x ≡ trees_answer (cons_f t x)
      same_rest t (ok_f ts q) = refl
      same_rest t (no_f c) = refl

      is_cons : (f : ℕ) (l : length s < at + f) → read_many (kinds_for n a d) (read_node f s) at ≡ cons_f (first f l).0
          (read_many (kinds_for (n - 1) d d) (read_node f s) p)
      is_cons f l = step f ∙ ap (λ (x : Res). then_f x (λ q. read_many (kinds_for (n - 1) d d) (read_node f s) q)) (first f l).1

      module _ (b₂ : FrameRead) (r : Answer) (rest : TreesPost s (kinds_for (n - 1) d d) p b₁ b₂ r) where
        on_rest : (f : ℕ) (l : length s < at + f) (ts : Forest) (q : ℕ) (x : FRes) → read_many (kinds_for (n - 1) d d) (read_node f s) p ≡ x
            → cons_f (first f l).0 x ≡ ok_f ts q → b₂ ≡ filled b (starts_in ts at)
        unfolding starts
        on_rest f l ts q (ok_f us q') ex eq =
            let t = (first f l).0 in
            let et : cons t us ≡ ts = cc in
            let sp = node_enc f s bs (sort_for a) at t p (first f l).1 in
            let y : p ≡ at + length (enc t) = omega (arith, sp.long) in
            rest.table f (omega (arith, row_room.1)) us q' ex
            ∙ ap (λ (x : FrameRead). filled x (starts_in us p)) (post.table f l t p (first f l).1)
            ∙ filled_append b (starts t at) (starts_in us p)
            ∙ ap (λ (i : ℕ). filled b (starts t at ++ starts_in us i)) y
            ∙ ap (λ (u : Forest). filled b (starts_in u at)) et
        on_rest f l ts q (no_f c) ex eq = no_f_not eq

        pub row_more : TreesPost s (kinds_for n a d) at b b₂ r
        row_more = record { answer = answer; table = table }
          where
            answer : (f : ℕ) → length s < at + f → r ≡ trees_answer (read_many (kinds_for n a d) (read_node f s) at)
            answer f l =
                rest.answer f (omega (arith, row_room.1))
                ∙ same_rest (first f l).0 (read_many (kinds_for (n - 1) d d) (read_node f s) p)
                ∙ ap trees_answer (sym (is_cons f l))

            table : (f : ℕ) → length s < at + f → (ts : Forest) (q : ℕ) → read_many (kinds_for n a d) (read_node f s) at ≡ ok_f ts q
                → b₂ ≡ filled b (starts_in ts at)
            table f l ts q eq = on_rest f l ts q (read_many (kinds_for (n - 1) d d) (read_node f s) p) refl (sym (is_cons f l) ∙ eq)
