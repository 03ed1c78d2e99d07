-- The sorts of places, sameness by places, and the reader's table.
-- Main results: place_sort; sort_done; tags_differ, early_differ, both_there, same_done; framed_read (what the reader answers is a frame
-- with its table); only_child, two_children.
use mathlib.Core.Path.{◌≡◌, refl, sym, ap, ◌∙◌}
use mathlib.Core.Bool.{Bool, true, false}
use mathlib.Core.List.{List, [], ◌++◌}
use Prim.Native.Nat.{ℕ, ◌+◌, ◌-◌}
use native.Mathlib.Omega.{arith}
use lib.ListN.{get_or, replicate, get_or-append}
use Rattle.frame.specs.Types.{Ty}
use Rattle.frame.specs.Trees.{head, Tree, node, nil, cons, tag_of, nodes}
use Rattle.frame.specs.Tags.{Sort, Form, class_of, form_of}
use Rattle.std.specs.Prelude.{Option, Some, None, is_some}
use Rattle.tags.specs.TagCodes.{meant, form_code, is_expression, sort_for}
use Rattle.tags.specs.declared.forms.Form as C
use Rattle.tags.specs.declared.forms.Sort as K
use Rattle.tags.specs.declared.forms.Sort.TheVariants.{Predicate, Expression}
use Rattle.tags.specs.contracts.forms.Sort.{the_type}
use denote.Enum.Bare.{sameb}
use Rattle.frame.specs.Encoding.{starts}
use Rattle.frame.specs.Reading.{number_at, tree, parse}
use Rattle.frame.specs.WellFormed.{Wf}
use Rattle.frame.specs.Spans.{Bytes}
use Rattle.frame.specs.Places.{Ctx, under, found, find}
use Rattle.reading.specs.Post.{table_size, table_of}
use Rattle.frame.specs.Sameness.{same_tree}
use Rattle.tags.proofs.TagTables.{code_form}
use Rattle.frame.proofs.Extents.{starts_length}
use Rattle.frame.proofs.Frames.{parse_enc}
use Rattle.frame.proofs.SameTrees.{same_tree_lem, same_tree_refl}
use Rattle.frame.proofs.Splices.{find_some}
use Rattle.sameness.specs.Stands.{Stands}
use Rattle.sameness.specs.Compared.{BothStand, SamePost}
use Rattle.nav.specs.PlaceTables.{Framed, NextsFrom, TagPost, sort_of, SortPost, BothPlaced, EarlyPost, SameAtPost}
use Rattle.nav.proofs.Hops.{Sorted, place_stands, place_sorted, child_first, child_next}
use Rattle.nav.proofs.PlaceTurns.{tag_there}

-- ---- sorts

-- a tree is of the sort that its tag says
pub sort_said : (v : Tree) (e : Sort) → Wf v e → sort_of v ≡ e
sort_said (node (head g n us) ks) e w = w.0.sort

pub place_sort : (v : Tree) → Sorted v → Wf v (sort_of v)
place_sort v o = rw (sort_said v o.0 o.1) o.1

-- the code's test of a sort
is_expression_lem : (q : K.Sort) → sameb the_type q Expression ≡ is_expression (sort_for q)
is_expression_lem Predicate = refl
is_expression_lem Expression = refl

module _ (tag : ℕ) (form : C.Form) (ef : form ≡ form_code (class_of tag)) (q : K.Sort) (eq : sort_for q ≡ (meant form).sort) where
  pub sort_done : (s st : List ℕ) (k : ℕ) → TagPost s st k tag → (r : Bool) → r ≡ sameb the_type q Expression → SortPost s st k r
  sort_done s st k post r er = record {
    sort = λ t n Γ v fr f.
        er ∙ is_expression_lem q ∙ ap is_expression (eq ∙ ap (λ (fm : Form). fm.sort) (code_form tag form ef ∙ ap form_of (post.tag t n Γ v fr f)));
  }

-- ---- sameness by places

-- the test of sameness says what equality says
same_yes : (v w : Tree) → v ≡ w → true ≡ same_tree v w
same_yes v w z = sym (same_tree_refl v) ∙ ap (same_tree v) z

same_no : (v w : Tree) → (v ≡ w → ⊥) → false ≡ same_tree v w
same_no v w d = go (same_tree v w) refl
  where
    go : (b : Bool) → same_tree v w ≡ b → false ≡ b
    go true e = absurd (d (same_tree_lem v w e))
    go false e = refl

module _ (s st : List ℕ) (a b x y : ℕ) (ex : x ≡ get_or st a 0) (ey : y ≡ get_or st b 0) where
  -- the tag at a place
  tag_at : (k i : ℕ) → i ≡ get_or st k 0 → (t : Tree) (n : ℕ) (Γ : Ctx) (v : Tree) → Framed s t st n → find t [] k ≡ found Γ v
      → number_at 2 s i ≡ tag_of v
  tag_at k i ei t n Γ v fr f =
      let o = place_sorted s t st n fr k Γ v f in
      rw ei (tag_there s (get_or st k 0) o.0 v (place_stands s t st n fr k Γ v f o.0 o.1))

  pub tags_differ : (number_at 2 s x ≡ number_at 2 s y → ⊥) → SameAtPost s st a b false
  tags_differ d = record {
    same = λ t n Γ Δ v w fr f g. same_no v w (λ z. d (tag_at a x ex t n Γ v fr f ∙ ap tag_of z ∙ sym (tag_at b y ey t n Δ w fr g)));
  }

  -- what stands at a place
  stands_at : (k i : ℕ) → i ≡ get_or st k 0 → (t : Tree) (n : ℕ) (Γ : Ctx) (v : Tree) → Framed s t st n → find t [] k ≡ found Γ v
      → (e : Sort) × Stands s i e v
  stands_at k i ei t n Γ v fr f = let o = place_sorted s t st n fr k Γ v f in (o.0, rw ei (place_stands s t st n fr k Γ v f o.0 o.1))

  pub early_differ : (r : Bool) → EarlyPost s x y r → r ≡ true → SameAtPost s st a b false
  early_differ r post z = record {
    same = λ t n Γ Δ v w fr f g. (let l = stands_at a x ex t n Γ v fr f in let m = stands_at b y ey t n Δ w fr g in
        same_no v w (λ q. post.differ z l.0 m.0 v w l.1 m.1 q));
  }

  module _ (tag : ℕ) (ta : tag ≡ number_at 2 s x) (tb : tag ≡ number_at 2 s y) where
    there : (k i : ℕ) → i ≡ get_or st k 0 → tag ≡ number_at 2 s i → (t : Tree) (n : ℕ) (Γ : Ctx) (v : Tree) → Framed s t st n → find t [] k ≡ found Γ v
        → Stands s i (form_of tag).sort v
    there k i ei ti t n Γ v fr f =
        let q : sort_of v ≡ (form_of tag).sort = ap (λ (g : ℕ). (form_of g).sort) (sym (ti ∙ tag_at k i ei t n Γ v fr f)) in
        let w : Wf v (form_of tag).sort = rw q at (place_sort v (place_sorted s t st n fr k Γ v f)) in
        rw ei (place_stands s t st n fr k Γ v f (form_of tag).sort w)

    -- trees with one tag are of one sort
    pub both_there : BothPlaced s st a b → (e : Sort) × BothStand s e x y
    both_there p =
        let l = p.left in
        let r = p.right in
        let v = find_some l.t [] a l.below in
        let w = find_some r.t [] b r.below in (
          (form_of tag).sort,
          record {
            t = v.1;
            u = w.1;
            left = there a x ex ta l.t l.n v.0 v.1 l.framed v.2;
            right = there b y ey tb r.t r.n w.0 w.1 r.framed w.2;
          },
        )

    pub same_done : (r : Option (ℕ × ℕ)) → ((e : Sort) → SamePost s e x y r) → SameAtPost s st a b (is_some r)
    same_done r post = record {
      same = λ t n Γ Δ v w fr f g. go v w (there a x ex ta t n Γ v fr f) (there b y ey tb t n Δ w fr g) r (post (form_of tag).sort);
    }
      where
        go : (v w : Tree) → Stands s x (form_of tag).sort v → Stands s y (form_of tag).sort w → (i : Option (ℕ × ℕ)) → SamePost s (form_of tag).sort x y i
            → is_some i ≡ same_tree v w
        go v w l m (Some (p, q)) o = same_yes v w (o.same v w p q l m refl).0
        go v w l m None o = same_no v w (o.differ v w l m refl)

-- ---- the reader's table

-- what the reader answers of bytes that parse: a frame, with its table
pub framed_read : (s : List ℕ) → Bytes s → (t : Tree) → parse s ≡ tree t → (st : List ℕ) → st ≡ table_of (parse s) → Framed s t st (nodes t)
framed_read s bs t e st et =
    let p = parse_enc s bs t e in
    let z : st ≡ starts t 0 ++ replicate (table_size - nodes t) 0 = et ∙ ap table_of e in
    record {
      bytes = sym p.bytes;
      formed = p.wf;
      short = p.fits;
      size = refl;
      begins = λ k h. rw z (get_or-append (starts t 0) (replicate (table_size - nodes t) 0) 0 k (omega (arith, starts_length t 0)));
    }

-- ---- one child, two children
module _ (t : Tree) (nx : List ℕ) (ns : NextsFrom t 0 nx) (k : ℕ) (Γ : Ctx) (g n : ℕ) (us : List Ty) where
  pub only_child : (v : Tree) → find t [] k ≡ found Γ (node (head g n us) (cons v nil)) → find t [] (k + 1) ≡ found (under g us Γ) v
  only_child v f = (child_next t nx 0 ns (k + 1) (under g us Γ) v nil (omega arith) (child_first t k Γ g n us (cons v nil) f)).0

  pub two_children : (v w : Tree) → find t [] k ≡ found Γ (node (head g n us) (cons v (cons w nil)))
      → (find t [] (k + 1) ≡ found (under g us Γ) v) × (find t [] (get_or nx (k + 1) 0) ≡ found (under g us Γ) w)
  two_children v w f =
      let a = child_next t nx 0 ns (k + 1) (under g us Γ) v (cons w nil) (omega arith) (child_first t k Γ g n us (cons v (cons w nil)) f) in
      (a.0, (child_next t nx 0 ns (get_or nx (k + 1) 0) (under g us Γ) w nil (omega arith) a.1).0)
