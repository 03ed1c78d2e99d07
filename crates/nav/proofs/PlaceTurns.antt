-- The ways out of the functions of src/lib.rt, on plain values.
-- Main results: numbers, tag_there, rooted_head, arity_read (the tag, the number behind it and the number of children of the
-- tree that stands somewhere);
-- hop_here, hop_more, hop_none; fill_start, fill_root, fill_hops, fill_turn, fill_done; placed_root, tag_done, children_done;
-- end_place, end_few, end_inside, end_last.
use mathlib.Core.Path.{◌≡◌, refl, sym, ap, ap₂, ◌∙◌, subst}
use mathlib.Core.Bool.{Bool, true, false}
use mathlib.Core.List.{List, [], ◌++◌}
use Prim.Native.Nat.{ℕ, zero, suc, ◌+◌, ◌-◌, ◌≤◌, ◌<◌}
use native.Mathlib.Omega.{arith}
use lib.ListN.{length, get_or, set, length-set}
use lib.Seq.{get_or-set_same, get_or-set_other}
use lib.Dec.{eqb}
use borrow.Author.Tests.{eqb-true, eqb-false}
use Rattle.frame.specs.Types.{Ty}
use Rattle.frame.specs.Trees.{head, Tree, node, Forest, count, tag_of, nodes}
use Rattle.frame.specs.Tags.{Sort, Form, class_of, form_of, width, sorts_of}
use Rattle.tags.specs.TagCodes.{meant, form_code}
use Rattle.tags.specs.declared.forms.Form as C
use Rattle.frame.specs.Encoding.{enc_number, enc_tys, enc_head, enc, encs}
use Rattle.frame.specs.Reading.{number_at}
use Rattle.frame.specs.WellFormed.{number_in}
use Rattle.frame.specs.Places.{Ctx, found, find}
use Rattle.reading.specs.Post.{table_size}
use Rattle.frame.proofs.Spans.{span_left}
use Rattle.frame.proofs.Numbers.{number_back}
use Rattle.tags.proofs.TagTables.{code_form}
use Rattle.frame.proofs.Splices.{find_some, find_lt}
use Rattle.heads.specs.HeadPost.{HeadStands}
use Rattle.heads.proofs.View.{stands_at}
use Rattle.sameness.specs.Stands.{Stands}
use Rattle.nav.specs.PlaceTables.{
  arity,
  Framed,
  NextsFrom,
  Table,
  Rooted,
  ChildrenPost,
  hops,
  HopsIn,
  NextsPre,
  NextsPost,
  Placed,
  PlacedIn,
  TagPost,
  ArityPost,
  EndAtPost,
}
use Rattle.sameness.proofs.View.{all_count}
use Rattle.nav.proofs.Hops.{framed_few, place_stands, place_sorted, place_end, hops_node, ends_inside, ends_last}

-- ---- the numbers of a head
pub record Numbers (s : List ℕ) (at : ℕ) (g n : ℕ) (us : List Ty) (k : ℕ) : Type 0 where
  pub tag : number_at 2 s at ≡ g
  pub within : at + 2 + width (form_of g).layout ≤ length s
  pub number : number_at (width (form_of g).layout) s (at + 2) ≡ number_in g n us k

pub numbers : (s : List ℕ) (at : ℕ) (e : Sort) (g n : ℕ) (us : List Ty) (ks : Forest) → Stands s at e (node (head g n us) ks)
    → Numbers s at g n us (count ks)
unfolding enc enc_head
numbers s at e g n us ks st =
    let w : ℕ = width (form_of g).layout in
    let x : ℕ = number_in g n us (count ks) in
    let a = span_left (enc_number 2 g ++ (enc_number w x ++ enc_tys us)) (encs ks) st.bytes in
    let b = number_back 2 s at _ g (enc_number w x ++ enc_tys us) st.formed.0.small a in
    let c = number_back w s (at + 2) _ x (enc_tys us) st.formed.0.fits b.rest in
    record { tag = b.number; within = c.within; number = c.number }

pub tag_there : (s : List ℕ) (at : ℕ) (e : Sort) (t : Tree) → Stands s at e t → number_at 2 s at ≡ tag_of t
tag_there s at e (node (head g n us) ks) st = (numbers s at e g n us ks st).tag

pub rooted_head : (s : List ℕ) (at : ℕ) → Rooted s at → HeadStands s at
rooted_head s at r =
    let end : ℕ = at + length (enc r.t) in
    (r.e, r.t, end, stands_at s r.e at r.t end r.there.bytes r.there.formed)

-- what the code reads: the tag, its form, the number behind it
module _ (s : List ℕ) (at tag : ℕ) (form : C.Form) (w : ℕ) (et : tag ≡ number_at 2 s at) (ef : form ≡ form_code (class_of tag))
    (ew : w ≡ width (meant form).layout) where
  same_form : (g : ℕ) → number_at 2 s at ≡ g → meant form ≡ form_of g
  same_form g z = code_form tag form ef ∙ ap form_of (et ∙ z)

  wide : (g : ℕ) → number_at 2 s at ≡ g → w ≡ width (form_of g).layout
  wide g z = ew ∙ ap (λ (fm : Form). width fm.layout) (same_form g z)

  pub arity_read : (x : ℕ) → x ≡ number_at w s (at + 2) → (r : ℕ) → r ≡ length (sorts_of (meant form).layout x) → ChildrenPost s at r
  arity_read x ex r er = record { many = many }
    where
      many : (e : Sort) (t : Tree) → Stands s at e t → r ≡ arity t
      many e (node (head g n us) ks) st =
          let v = numbers s at e g n us ks st in
          let y : x ≡ number_in g n us (count ks) = ex ∙ ap (λ (i : ℕ). number_at i s (at + 2)) (wide g v.tag) ∙ v.number in
          er
          ∙ ap₂ (λ (fm : Form) (i : ℕ). length (sorts_of fm.layout i)) (same_form g v.tag) y
          ∙ sym (all_count ks (sorts_of (form_of g).layout (number_in g n us (count ks))) st.formed.1)

-- ---- hops
module _ (l : List ℕ) where
  pub hop_here : (m c : ℕ) → HopsIn l m c → 0 < m → c < 2048
  unfolding HopsIn
  hop_here zero c h p = absurd (omega arith)
  hop_here (suc m) c h p = h.0

  pub hop_more : (m c : ℕ) → HopsIn l m c → 0 < m → HopsIn l (m - 1) (get_or l c 0) × (hops l (m - 1) (get_or l c 0) ≡ hops l m c)
  unfolding HopsIn hops
  hop_more zero c h p = absurd (omega arith)
  hop_more (suc m) c h p = let z : suc m - 1 ≡ m = omega arith in rw z (h.1, refl)

  pub hop_none : (m c : ℕ) → m ≡ 0 → hops l m c ≡ c
  unfolding hops
  hop_none m c z = ap (λ (i : ℕ). hops l i c) z

-- ---- filling the table from the last place to the first

-- from place k on the table is filled
pub record Filled (s : List ℕ) (n : ℕ) (st : List ℕ) (k : ℕ) (l : List ℕ) : Type 0 where
  pub below : k ≤ n
  pub long : length l ≡ table_size
  pub filled : (t : Tree) → Framed s t st n → NextsFrom t k l

module _ (s : List ℕ) (n : ℕ) (st : List ℕ) where
  pub fill_start : (l : List ℕ) → NextsPre s n st l → Filled s n st n l
  fill_start l p = record {
    below = omega arith;
    long = p.long;
    filled = λ t f. record { next = λ k Γ v h e. absurd (omega (arith, f.size, find_lt t [] k Γ v e)) };
  }

  pub fill_done : (k : ℕ) (l : List ℕ) → Filled s n st k l → k ≡ 0 → NextsPost s n st l
  fill_done k l f z = record {
    long = f.long;
    table = λ t fr. record { framed = fr; follows = record { next = λ j Γ v h e. (f.filled t fr).next j Γ v (omega arith) e } };
  }

  module _ (k : ℕ) (some : 0 < k) (l : List ℕ) (fl : Filled s n st k l) where
    -- what stands at the place before, where there is a frame at all
    here : (t : Tree) → Framed s t st n → (Γ : Ctx) × (v : Tree) × (find t [] (k - 1) ≡ found Γ v)
    here t fr = find_some t [] (k - 1) (omega (arith, fr.size, fl.below))

    pub fill_root : (t : Tree) → Framed s t st n → (k - 1 < 2048) × Rooted s (get_or st (k - 1) 0)
    fill_root t fr =
        let v = here t fr in
        let o = place_sorted s t st n fr (k - 1) v.0 v.1 v.2 in (
          omega (arith, find_lt t [] (k - 1) v.0 v.1 v.2, framed_few s t st n fr),
          record { e = o.0; t = v.1; there = place_stands s t st n fr (k - 1) v.0 v.1 v.2 o.0 o.1 },
        )

    module _ (m : ℕ) (post : ChildrenPost s (get_or st (k - 1) 0) m) where
      -- the hops from the first child on, as many as there are children
      past : (t : Tree) → Framed s t st n → (Γ : Ctx) (v : Tree) → find t [] (k - 1) ≡ found Γ v
          → HopsIn l m (k - 1 + 1) × (hops l m (k - 1 + 1) ≡ k - 1 + nodes v)
      past t fr Γ v e =
          let o = place_sorted s t st n fr (k - 1) Γ v e in
          let a : m ≡ arity v = post.many o.0 v (place_stands s t st n fr (k - 1) Γ v e o.0 o.1) in
          let z : k ≡ k - 1 + 1 = omega arith in
          rw a (hops_node t l (k - 1) (subst (λ (i : ℕ). NextsFrom t i l) z (fl.filled t fr)) (framed_few s t st n fr) Γ v e)

      pub fill_hops : (t : Tree) → Framed s t st n → HopsIn l m (k - 1 + 1) × (hops l m (k - 1 + 1) ≤ 2048)
      fill_hops t fr =
          let v = here t fr in
          let p = past t fr v.0 v.1 v.2 in
          (p.0, omega (arith, p.1, place_end t [] (k - 1) v.0 v.1 v.2, framed_few s t st n fr))

      pub fill_turn : k - 1 < 2048 → (c : ℕ) → c ≡ hops l m (k - 1 + 1) → Filled s n st (k - 1) (set l (k - 1) c)
      fill_turn h c ec = record {
        below = omega (arith, fl.below);
        long = length-set l
            (k - 1) c ∙ fl.long;
        filled = λ t fr. record { next = next t fr };
      }
        where
          next : (t : Tree) → Framed s t st n → (j : ℕ) (Γ : Ctx) (v : Tree) → k - 1 ≤ j → find t [] j ≡ found Γ v
              → get_or (set l (k - 1) c) j 0 ≡ j + nodes v
          next t fr j Γ v g e = go (eqb j (k - 1)) refl
            where
              go : (b : Bool) → eqb j (k - 1) ≡ b → get_or (set l (k - 1) c) j 0 ≡ j + nodes v
              go true eb =
                  let z : j ≡ k - 1 = eqb-true j (k - 1) eb in
                  let e' : find t [] (k - 1) ≡ found Γ v = subst (λ (i : ℕ). find t [] i ≡ found Γ v) z e in
                  rw z (get_or-set_same l (k - 1) c 0 (omega (arith, fl.long)) ∙ (ec ∙ (past t fr Γ v e').1))
              go false eb =
                  let d = eqb-false j (k - 1) eb in
                  get_or-set_other l (k - 1) j c 0 d ∙ (fl.filled t fr).next j Γ v (omega arith) e

-- ---- what is at a place
module _ (s st : List ℕ) (k : ℕ) where
  pub placed_root : Placed s st k → (k < 2048) × Rooted s (get_or st k 0)
  placed_root p =
      let t = p.t in
      let fr = p.framed in
      let v = find_some t [] k p.below in
      let o = place_sorted s t st p.n fr k v.0 v.1 v.2 in (
        omega (arith, p.below, framed_few s t st p.n fr),
        record { e = o.0; t = v.1; there = place_stands s t st p.n fr k v.0 v.1 v.2 o.0 o.1 },
      )

  pub tag_done : (r : ℕ) → r ≡ number_at 2 s (get_or st k 0) → TagPost s st k r
  tag_done r er = record {
    tag = λ t n Γ v fr e.
        let o = place_sorted s t st n fr k Γ v e in
        er ∙ tag_there s (get_or st k 0) o.0 v (place_stands s t st n fr k Γ v e o.0 o.1);
  }

  pub children_done : (r : ℕ) → ChildrenPost s (get_or st k 0) r → ArityPost s st k r
  children_done r post = record {
    many = λ t n Γ v fr e.
        let o = place_sorted s t st n fr k Γ v e in
        post.many o.0 v (place_stands s t st n fr k Γ v e o.0 o.1);
  }

module _ (s : List ℕ) (n : ℕ) (st nx : List ℕ) (k : ℕ) where
  pub end_place : PlacedIn s n st nx k → k < 2048
  end_place p = omega (arith, p.below, framed_few s p.t st n p.table.framed)

  pub end_few : PlacedIn s n st nx k → n ≤ 2048
  end_few p = omega (arith, p.table.framed.size, framed_few s p.t st n p.table.framed)

  pub end_inside : get_or nx k 0 < n → EndAtPost s n st nx k (get_or st (get_or nx k 0) 0)
  end_inside h = record { ends = ends }
    where
      ends : (t : Tree) (Γ : Ctx) (v : Tree) → Table s t st nx n → find t [] k ≡ found Γ v → get_or st (get_or nx k 0) 0 ≡ get_or st k 0 + length (enc v)
      ends t Γ v tb e =
          let z : get_or nx k 0 ≡ k + nodes v = tb.follows.next k Γ v (omega arith) e in
          ap (λ (i : ℕ). get_or st i 0) z ∙ ends_inside s t st n tb.framed k Γ v e (omega (arith, tb.framed.size))

  pub end_last : n ≤ get_or nx k 0 → EndAtPost s n st nx k (length s)
  end_last h = record { ends = ends }
    where
      ends : (t : Tree) (Γ : Ctx) (v : Tree) → Table s t st nx n → find t [] k ≡ found Γ v → length s ≡ get_or st k 0 + length (enc v)
      ends t Γ v tb e =
          let z : get_or nx k 0 ≡ k + nodes v = tb.follows.next k Γ v (omega arith) e in
          ends_last s t st n tb.framed k Γ v e (omega (arith, tb.framed.size, place_end t [] k Γ v e))
