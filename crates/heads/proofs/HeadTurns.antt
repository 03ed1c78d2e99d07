-- The ways out of `read_head`, on plain values.
-- Main results: sort_tested; head_short, head_unlisted, head_sort, head_cut, head_range, head_types_no, head_found; head_is.
use mathlib.Core.Path.{◌≡◌, sym, ap, ap₂, ◌∙◌}
use mathlib.Core.Bool.{Bool, true, false, not}
use denote.Enum.Bare.{sameb}
use Rattle.tags.specs.contracts.forms.Sort.{the_type}
use Rattle.tags.specs.declared.forms.Sort.TheVariants.{Predicate, Expression}
use mathlib.Core.List.{List}
use Prim.Native.Nat.{ℕ, ◌+◌, ◌≤◌, ◌<◌}
use lib.ListN.{length}
use borrow.Author.Tests.{lt-ltb, le-ltb}
use Rattle.std.proofs.Common.{Result, Ok, Err, IsErrAnd}
use Rattle.frame.specs.Types.{Ty}
use Rattle.frame.specs.Refusals.{refusal}
use Rattle.frame.specs.declared.refusals.Refusal.{Refusal}
use Rattle.frame.specs.Tags as T
use Rattle.frame.specs.Tags.{same_sort, width, in_range, types_of, sorts_of, class_of}
use Rattle.tags.specs.declared.forms.Sort.{Sort}
use Rattle.tags.specs.declared.forms.Form.{Form}
use Rattle.tags.specs.TagCodes.{meant, form_code, sort_for}
use Rattle.frame.specs.Reading.{number_at, TysRes, ok_ts, no_ts, read_tys, with_tys, with_number, with_form, read_head}
use Rattle.frame.specs.At.{types_at}
use Rattle.types.specs.TypePost.{types_answer}
use Rattle.heads.specs.declared.Opening.{Opening}
use Rattle.heads.specs.declared.Head.{Head as ReadHead}
use Rattle.heads.specs.HeadPost.{facts, head_answer, head_there, said, answered, headed}
use Rattle.tags.proofs.TagTables.{code_form}
use Rattle.tags.proofs.FormTables.{kinds_at}
use Rattle.types.proofs.TypeTurns.{handed_on}

pub head_short : (s : List ℕ) (at : ℕ) (e : T.Sort) → length s < at + 2 → Err (refusal 3) ≡ head_there s at e
unfolding read_head
head_short s at e h = rw (lt-ltb (length s) (at + 2) h)

-- the head of a node with this form, the number x and the types up to q
pub head_is : (o : Opening) (q : ℕ) → in_range (meant o.form).layout o.number ≡ true → (ts : List Ty)
    → Ok (said (headed o q)) ≡ head_answer o.types (with_tys (meant o.form) o.tag o.number (ok_ts ts q))
head_is o q r ts =
    let k = kinds_at o.form o.number r in
    ap₂ (λ (a b : Sort). Ok (facts o.tag (T.payload_of (meant o.form).layout o.number) o.types q (length (sorts_of (meant o.form).layout o.number)) a b))
    (sym k.first) (sym k.later)

-- the test of the sort
pub sort_tested : (a b : Sort) (e : T.Sort) → sort_for a ≡ e → (differs : Bool) → differs ≡ not (sameb the_type a b)
    → same_sort e (sort_for b) ≡ not differs
sort_tested Predicate Predicate e is d h = rw (← is, h)
sort_tested Predicate Expression e is d h = rw (← is, h)
sort_tested Expression Predicate e is d h = rw (← is, h)
sort_tested Expression Expression e is d h = rw (← is, h)

-- a listed form of the right sort, with its number within the bytes
to_behind : (fm : T.Form) (s : List ℕ) (at : ℕ) (e : T.Sort) (w : ℕ) → w ≡ width fm.layout → fm.listed ≡ true → same_sort fm.sort e ≡ true
    → at + 2 + w ≤ length s → with_form fm s at e ≡ with_number fm s (number_at 2 s at) (number_at w s (at + 2)) (at + 2 + w)
unfolding with_form
to_behind fm s at e w ew l x p = simp (l, x, sym ew, le-ltb (length s) (at + 2 + w) p)

module _ (s : List ℕ) (at : ℕ) (e : T.Sort) (h : at + 2 ≤ length s) (tag : ℕ) (et : tag ≡ number_at 2 s at) (form : Form)
    (ef : form ≡ form_code (class_of tag)) where
  to_form : read_head s at e ≡ with_form (meant form) s at e
  unfolding read_head
  to_form = rw (le-ltb (length s) (at + 2) h) (ap (λ (fm : T.Form). with_form fm s at e) (ap T.form_of (sym et) ∙ sym (code_form tag form ef)))

  pub head_unlisted : (meant form).listed ≡ false → Err (refusal 4) ≡ head_there s at e
  unfolding with_form
  head_unlisted z = rw (to_form, z)

  module _ (some : (meant form).listed ≡ true) where
    pub head_sort : same_sort (meant form).sort e ≡ false → Err (refusal 4) ≡ head_there s at e
    unfolding with_form
    head_sort z = rw (to_form, some, z)

    module _ (same : same_sort (meant form).sort e ≡ true) (w : ℕ) (ew : w ≡ width (meant form).layout) where
      pub head_cut : length s < at + 2 + w → Err (refusal 3) ≡ head_there s at e
      unfolding with_form
      head_cut l = rw (to_form, some, same, sym ew, lt-ltb (length s) (at + 2 + w) l)

      module _ (l : at + 2 + w ≤ length s) (x : ℕ) (ex : x ≡ number_at w s (at + 2)) where
        to_number : read_head s at e ≡ with_number (meant form) s tag x (at + 2 + w)
        unfolding with_form
        to_number =
            to_form
            ∙ to_behind (meant form) s at e w ew some same l
            ∙ ap₂ (λ (g y : ℕ). with_number (meant form) s g y (at + 2 + w)) (sym et) (sym ex)

        pub head_range : in_range (meant form).layout x ≡ false → Err (refusal 5) ≡ head_there s at e
        unfolding with_number
        head_range z = rw (to_number, z)

        module _ (within : in_range (meant form).layout x ≡ true) (m : ℕ) (em : m ≡ types_of (meant form).layout (meant form).carried x) where
          to_types : read_head s at e ≡ with_tys (meant form) tag x (read_tys m s (at + 2 + w))
          unfolding with_number
          to_types = to_number ∙ rw within (ap (λ (i : ℕ). with_tys (meant form) tag x (read_tys i s (at + 2 + w))) (sym em))

          there : at + 2 + w ≡ types_at s at
          there = ap (λ (i : ℕ). at + 2 + i) ew ∙ ap (λ (fm : T.Form). at + 2 + width fm.layout) (code_form tag form ef ∙ ap T.form_of et)

          found_of : (y : TysRes) (q : ℕ) → Ok q ≡ types_answer y
              → Ok (said (headed (record { tag = tag; form = form; number = x; types = at + 2 + w }) q))
              ≡ head_answer (at + 2 + w) (with_tys (meant form) tag x y)
          found_of (ok_ts ts p) q e₁ =
              let z : q ≡ p = cc in
              head_is (record { tag = tag; form = form; number = x; types = at + 2 + w }) q within ts
              ∙ ap (λ (i : ℕ). head_answer (at + 2 + w) (with_tys (meant form) tag x (ok_ts ts i))) z
          found_of (no_ts c) q e₁ = cc

          no_of : (y : TysRes) (r : Refusal) → Err r ≡ types_answer y → Err r ≡ head_answer (at + 2 + w) (with_tys (meant form) tag x y)
          no_of (ok_ts ts p) r e₁ = cc
          no_of (no_ts d) r e₁ = let z : r ≡ refusal d = cc in ap Err z

          pub head_found : (q : ℕ) → Ok q ≡ types_answer (read_tys m s (at + 2 + w))
              → Ok (said (headed (record { tag = tag; form = form; number = x; types = at + 2 + w }) q)) ≡ head_there s at e
          head_found q e₁ = found_of (read_tys m s (at + 2 + w)) q e₁ ∙ ap₂ head_answer there (sym to_types)

          pub head_types_no : (a : Result ReadHead Refusal) (r : Refusal) → IsErrAnd a (λ x. x ≡ r) → Err r ≡ types_answer (read_tys m s (at + 2 + w))
              → answered a ≡ head_there s at e
          head_types_no a r h e₁ = ap answered (handed_on a r h) ∙ no_of (read_tys m s (at + 2 + w)) r e₁ ∙ ap₂ head_answer there (sym to_types)
