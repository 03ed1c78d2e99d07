-- Spans are put together and taken apart; lists of bytes.
-- Main results: span_nil, span_one, span_join, span_left, span_right, span_first, span_whole, span_all; bytes_cons, bytes_append.
use mathlib.Core.Path.{◌≡◌, refl, sym, ap, ap₂, ◌∙◌}
use mathlib.Core.List.{List, [], ◌∷◌, ◌++◌}
use Prim.Native.Nat.{ℕ, zero, suc, ◌+◌, ◌≤◌, ◌<◌}
use native.Mathlib.Omega.{arith}
use native.Mathlib.Nat.{add-zero}
use lib.ListN.{length, take, drop, get_or, length-append, length-drop, length-take}
use lib.Dec.{lit<}
use lib.Seq.{take-add, drop-drop, drop-cons, take_at, drop_at, take-length}
use Rattle.frame.specs.Spans.{Bytes, Spans}

-- two lists joined, equal, with fronts as long as each other: the fronts are equal, and so are the rests
pub cut_both : (u v xs ys : List ℕ) → length u ≡ length xs → u ++ v ≡ xs ++ ys → (u ≡ xs) × (v ≡ ys)
cut_both u v xs ys l e = (
  sym (take_at u v (length xs) l) ∙ ap (take (length xs)) e ∙ take_at xs ys (length xs) refl,
  sym (drop_at u v (length xs) l) ∙ ap (drop (length xs)) e ∙ drop_at xs ys (length xs) refl,
)

pub cons_head : {x y : ℕ} {xs ys : List ℕ} → x ∷ xs ≡ y ∷ ys → x ≡ y
cons_head e = cc

-- the first byte of what stands there, and the rest
pub record FirstOf (s : List ℕ) (at p x : ℕ) (xs : List ℕ) : Type 0 where
  pub byte : get_or s at 0 ≡ x
  pub within : at < length s
  pub rest : Spans s (at + 1) p xs

module _ {s : List ℕ} where
  pub span_nil : {at : ℕ} → at ≤ length s → Spans s at at []
  span_nil {at} h = record { long = add-zero at; within = h; bytes = refl }

  pub span_one : {at x : ℕ} → at < length s → get_or s at 0 ≡ x → Spans s at (at + 1) (x ∷ [])
  span_one {at} {x} h e = record { long = refl; within = omega arith; bytes = rw (drop-cons s at 0) (ap (λ (y : ℕ). y ∷ []) e) }

  pub span_join : {at p q : ℕ} {xs ys : List ℕ} → Spans s at p xs → Spans s p q ys → Spans s at q (xs ++ ys)
  span_join {at} {p} {q} {xs} {ys} a b = record {
    long = omega (arith, length-append xs ys, a.long, b.long);
    within = b.within;
    bytes = ap (λ (n : ℕ). take n (drop at s)) (length-append xs ys)
        ∙ take-add (length xs) (length ys) (drop at s)
        ∙ ap₂ (λ (u v : List ℕ). u ++ v) a.bytes
        (ap (λ (l : List ℕ). take (length ys) l) (drop-drop (length xs) at s ∙ ap (λ (n : ℕ). drop n s) a.long) ∙ b.bytes);
  }

  -- a byte x, and then xs
  pub span_cons : {at p x : ℕ} {xs : List ℕ} → at < length s → get_or s at 0 ≡ x → Spans s (at + 1) p xs → Spans s at p (x ∷ xs)
  span_cons h e a = span_join (span_one h e) a

  halves : {at q : ℕ} (xs ys : List ℕ) → Spans s at q (xs ++ ys)
      → (take (length xs) (drop at s) ≡ xs) × (take (length ys) (drop (length xs) (drop at s)) ≡ ys)
  halves {at} {q} xs ys a =
      cut_both (take (length xs) (drop at s)) (take (length ys) (drop (length xs) (drop at s))) xs ys
      (omega (arith, length-take (length xs) (drop at s), length-drop at s, length-append xs ys, a.long, a.within))
      (sym (take-add (length xs) (length ys) (drop at s)) ∙ ap (λ (n : ℕ). take n (drop at s)) (sym (length-append xs ys)) ∙ a.bytes)

  -- the first part of what stands there, and the rest
  pub span_left : {at q : ℕ} (xs ys : List ℕ) → Spans s at q (xs ++ ys) → Spans s at (at + length xs) xs
  span_left {at} {q} xs ys a = record {
    long = refl;
    within = omega (arith, length-append xs ys, a.long, a.within);
    bytes = (halves xs ys a).0;
  }

  pub span_right : {at q : ℕ} (xs ys : List ℕ) → Spans s at q (xs ++ ys) → Spans s (at + length xs) q ys
  span_right {at} {q} xs ys a = record {
    long = omega (arith, length-append xs ys, a.long);
    within = a.within;
    bytes = ap (take (length ys)) (sym (drop-drop (length xs) at s)) ∙ (halves xs ys a).1;
  }

  pub span_first : {at p x : ℕ} {xs : List ℕ} → Spans s at p (x ∷ xs) → FirstOf s at p x xs
  span_first {at} {p} {x} {xs} a =
      let l = span_left (x ∷ []) xs a in
      let h : at < length s = omega (arith, l.within) in
      record {
        byte = cons_head (sym (ap (take 1) (drop-cons s at 0 h)) ∙ l.bytes);
        within = h;
        rest = span_right (x ∷ []) xs a;
      }

-- a list as a whole, and what stands from its start to its end
pub span_whole : (s : List ℕ) → Spans s 0 (length s) s
span_whole s = record { long = omega arith; within = omega arith; bytes = take-length s }

pub span_all : {s xs : List ℕ} → Spans s 0 (length s) xs → xs ≡ s
span_all {s} {xs} a = let z : length xs ≡ length s = omega (arith, a.long) in sym a.bytes ∙ ap (λ (n : ℕ). take n s) z ∙ take-length s

-- ---- lists of bytes
pub bytes_nil : Bytes []
bytes_nil zero = lit< tt
bytes_nil (suc i) = lit< tt

pub bytes_cons : (x : ℕ) (xs : List ℕ) → x < 256 → Bytes xs → Bytes (x ∷ xs)
bytes_cons x xs h b zero = h
bytes_cons x xs h b (suc i) = b i

pub bytes_append : (xs ys : List ℕ) → Bytes xs → Bytes ys → Bytes (xs ++ ys)
bytes_append [] ys a b = b
bytes_append (x ∷ xs) ys a b = bytes_cons x (xs ++ ys) (a 0) (bytes_append xs ys (λ i. a (suc i)) b)
