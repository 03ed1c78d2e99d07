-- Spans after a write above them, and of what was written.
-- Main results: found, unbound (what `get` finds); span_part (as the part of a slice), span_kept (what stands below a write), pasted_span, pasted_kept (what a copy writes).
use mathlib.Core.Path.{◌≡◌, refl, sym, ap, ◌∙◌, subst}
use mathlib.Core.List.{List, ◌++◌, append_assoc}
use Prim.Native.Nat.{ℕ, ◌+◌, ◌-◌, ◌≤◌, ◌<◌}
use native.Mathlib.Omega.{arith}
use lib.ListN.{length, take, drop, get_or, length-take, length-drop, length-append, get_or-append}
use lib.Seq.{get_or-take, get_or-drop, ext_get_or, take_at, drop_at, length-take-le, paste}
use lib.Dec.{ltb}
use borrow.Author.Tests.{ltb-true, ltb-false}
use denote.Ref.{Bor}
use Rattle.frame.specs.Spans.{Spans}
use Rattle.std.specs.Option.{is_some, IfSome, option_copied}
use Rattle.std.proofs.Common.{Option, Some, None, slice_get}
use Rattle.std.proofs.lemmas.Option.{slice_get_past, slice_get-get_or, slice_get_cases}
use Rattle.results.specs.declared.Span.{Span}
use Rattle.results.specs.ResultPosts.{Kept}

-- what `get` finds, copied; it is asked of the spans sp as a slice, ps
pub found : (sp ps : List Span) (v : ℕ) (r : Option (Bor Span)) → ps ≡ sp → is_some r ≡ ltb v (length ps) → IfSome r (λ x. x.now ≡ get_or ps v x.now)
    → {y z : Option Span} → y ≡ option_copied r → y ≡ z → slice_get sp v ≡ z
found sp ps v r same e f p q = subst (λ (l : List Span). slice_get l v ≡ option_copied r) same (at r e f) ∙ sym p ∙ q
  where
    at : (r : Option (Bor Span)) → is_some r ≡ ltb v (length ps) → IfSome r (λ x. x.now ≡ get_or ps v x.now) → slice_get ps v ≡ option_copied r
    at None e f = slice_get_past ps v (ltb-false v (length ps) (sym e))
    at (Some x) e f = slice_get-get_or ps v x.now (ltb-true v (length ps) (sym e)) ∙ ap Some (sym f)

-- no span for a variable: it is past those that are bound
pub unbound : (sp : List Span) (v : ℕ) → slice_get sp v ≡ None → length sp ≤ v
unbound sp v e = grind (arith, slice_get_cases)

module _ {s : List ℕ} {at p : ℕ} {xs : List ℕ} (a : Spans s at p xs) where
  pub span_part : take (p - at) (drop at s) ≡ xs
  span_part = let z : p - at ≡ length xs = omega (arith, a.long) in ap (λ (n : ℕ). take n (drop at s)) z ∙ a.bytes

  byte_of : (t : List ℕ) (j : ℕ) → j < length xs → get_or (take (length xs) (drop at t)) j 0 ≡ get_or t (at + j) 0
  byte_of t j h = get_or-take (length xs) (drop at t) j 0 h ∙ get_or-drop at t j 0

  -- below what is written
  pub span_kept : {t : List ℕ} {n : ℕ} → Kept s t n → p ≤ n → Spans t at p xs
  span_kept {t} {n} k h = record {
    long = a.long;
    within = omega (arith, k.long, a.within);
    bytes = ext_get_or 0 (take (length xs) (drop at t)) (take (length xs) (drop at s))
        (omega (arith, length-take (length xs) (drop at t), length-take (length xs) (drop at s), length-drop at t, length-drop at s, k.long))
        (λ j l. (let i : j < length xs = omega (arith, length-take (length xs) (drop at t)) in
        byte_of t j i ∙ k.low (at + j) (omega (arith, a.long)) ∙ sym (byte_of s j i)))
        ∙ a.bytes;
  }

-- the first n of zs, written into o from m on
module _ (o p zs : List ℕ) (m n : ℕ) (is : p ≡ paste o m zs n) (below : m ≤ length o) where
  pub pasted_span : {xs : List ℕ} → take n zs ≡ xs → length xs ≡ n → Spans p m (m + n) xs
  pasted_span {xs} f l =
      let w : p ≡ take m o ++ (xs ++ drop (m + n) o) = is ∙ rw (f, append_assoc) refl in
      let k = length-take-le m o below in
      record {
        long = omega (arith, l);
        within = omega (arith, ap length w, length-append (take m o) (xs ++ drop (m + n) o), length-append xs (drop (m + n) o));
        bytes = ap (λ (u : List ℕ). take (length xs) (drop m u)) w ∙ ap (take (length xs)) (drop_at (take m o) (xs ++ drop (m + n) o) m k)
            ∙ take_at xs (drop (m + n) o) (length xs) refl;
      }

  pub pasted_kept : length p ≡ length o → Kept o p m
  pasted_kept l = record {
    long = l;
    low = λ j h. (let k = length-take-le m o below in
        ap (λ (u : List ℕ). get_or u j 0) (is ∙ append_assoc (take m o) (take n zs) (drop (m + n) o))
        ∙ get_or-append (take m o) (take n zs ++ drop (m + n) o) 0 j (omega arith) ∙ get_or-take m o j 0 h);
  }
