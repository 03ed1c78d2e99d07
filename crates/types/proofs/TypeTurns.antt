-- The ways out of `read_type` and `read_types`, on plain values.
-- Main results: handed_on; answer_ok, answer_err; ty_none, ty_plain, ty_given, ty_pow, ty_prod_no, prod_further, ty_prod, ty_bad; RowGoing,
-- the invariant of the loop of `read_types`, row_begins, row_goes, row_stops, row_done.
use mathlib.Core.Path.{◌≡◌, refl, sym, ap, ◌∙◌}
use mathlib.Core.Bool.{Bool, true, false}
use mathlib.Core.List.{List}
use Prim.Native.Nat.{ℕ, zero, suc, ◌+◌, ◌-◌, ◌≤◌, ◌<◌}
use native.Mathlib.Omega.{arith}
use Rattle.std.proofs.Math.Nat.{sub-zero}
use lib.ListN.{length, get_or}
use Rattle.std.proofs.Common.{leb, Result, Ok, Err, IsErrAnd}
use Rattle.std.proofs.lemmas.Result.{err_from_is_err_and}
use Rattle.frame.specs.Types.{Ty, pow, prod}
use Rattle.frame.specs.Refusals.{refusal}
use Rattle.frame.specs.declared.refusals.Refusal.{Refusal}
use Rattle.frame.specs.Reading.{TyRes, ok_t, no_t, then_t, ty_byte, byte_of, ty_case, read_ty, type_limit, TysRes, ok_ts, no_ts, cons_ts, then_ts, read_tys}
use Rattle.frame.specs.Spans.{Bytes}
use Rattle.types.specs.TypePost.{byte_case, byte_answer, type_answer, given_at, types_answer}
use Rattle.frame.proofs.ReadTypes.{ty_read}

abbrev pub Answer : Type 0
Answer = Result ℕ Refusal

-- ---- answers and results
-- what `?` hands on
pub handed_on : {T E : Type 0} (r : Result T E) (e : E) → IsErrAnd r (λ x. x ≡ e) → r ≡ Err e
handed_on r e h = let v = err_from_is_err_and r h in v.1 ∙ ap Err v.2

pub answer_ok : (x : TyRes) (p : ℕ) → Ok p ≡ type_answer x → (t : Ty) × (x ≡ ok_t t p)
answer_ok (ok_t t q) p e = (t, cc)
answer_ok (no_t c) p e = cc

pub answer_err : (x : TyRes) (r : Refusal) → Err r ≡ type_answer x → (c : ℕ) × (x ≡ no_t c) × (r ≡ refusal c)
answer_err (ok_t t q) r e = cc
answer_err (no_t c) r e = (c, refl, cc)

byte_ok : (x y : Bool) (b i : ℕ) → Ok i ≡ byte_case x y b → (k : ℕ → TyRes) → ty_byte x y b k ≡ k i
byte_ok true y b i e k = cc
byte_ok false true b i e k = cc
byte_ok false false b i e k = cc

byte_err : (x y : Bool) (b : ℕ) (r : Refusal) → Err r ≡ byte_case x y b → (k : ℕ → TyRes) → type_answer (ty_byte x y b k) ≡ Err r
byte_err true y b r e k = sym e
byte_err false true b r e k = sym e
byte_err false false b r e k = cc

-- a type that is read ends past its start, by its limit and within the bytes
pub ty_further : (f lim : ℕ) (s : List ℕ) → Bytes s → (at p : ℕ) → Ok p ≡ type_answer (read_ty f lim s at) → (at ≤ p) × (p ≤ lim) × (p ≤ length s)
ty_further f lim s bs at p e =
    let v = answer_ok (read_ty f lim s at) p e in
    let r = ty_read f lim s bs at v.0 p v.1 in
    omega (arith, r.span.long, r.span.within, r.by)

-- ---- read_type: one step of the fuel, at any place from which the fuel reaches past lim
abbrev pub TyPost : ℕ → List ℕ → ℕ → Answer → Type 0
TyPost lim s at r = (f : ℕ) → lim < at + f → r ≡ type_answer (read_ty f lim s at)

module _ (lim : ℕ) (s : List ℕ) (at : ℕ) (h : at ≤ lim) where
  ty_step : (r : Answer) → ((f : ℕ) → lim < at + suc f → r ≡ type_answer (byte_of lim s at (λ b. ty_case b lim s at (read_ty f lim s))))
      → TyPost lim s at r
  unfolding read_ty
  ty_step r k zero l = absurd (omega arith)
  ty_step r k (suc f) l = k f l

  -- the byte is not met
  pub ty_none : (r : Answer) (e : Refusal) → IsErrAnd r (λ x. x ≡ e) → Err e ≡ byte_answer lim s at → TyPost lim s at r
  ty_none r e h met =
      ty_step r
      (λ f l. handed_on r e h ∙ sym (byte_err (leb lim at) (leb (length s) at) (get_or s at 0) e met (λ b. ty_case b lim s at (read_ty f lim s))))

  -- what the byte i begins
  plain : (i : ℕ) → i < 2 → (go : ℕ → TyRes) → type_answer (ty_case i lim s at go) ≡ Ok (at + 1)
  unfolding ty_case
  plain zero h go = refl
  plain (suc zero) h go = refl
  plain (suc (suc i)) h go = absurd (omega arith)

  above_four : (i : ℕ) → 4 < i → (go : ℕ → TyRes) → type_answer (ty_case i lim s at go) ≡ Err (refusal 6)
  unfolding ty_case
  above_four zero h go = absurd (omega arith)
  above_four (suc zero) h go = absurd (omega arith)
  above_four (suc (suc zero)) h go = absurd (omega arith)
  above_four (suc (suc (suc zero))) h go = absurd (omega arith)
  above_four (suc (suc (suc (suc zero)))) h go = absurd (omega arith)
  above_four (suc (suc (suc (suc (suc i))))) h go = refl

  -- the byte b is met
  module _ (b : ℕ) (met : Ok b ≡ byte_answer lim s at) where
    ty_met : (r : Answer) → ((f : ℕ) → lim < at + suc f → r ≡ type_answer (ty_case b lim s at (read_ty f lim s))) → TyPost lim s at r
    ty_met r k =
        ty_step r
        (λ f l. k f l
        ∙ ap type_answer (sym (byte_ok (leb lim at) (leb (length s) at) (get_or s at 0) b met (λ b. ty_case b lim s at (read_ty f lim s)))))

    pub ty_plain : b < 2 → TyPost lim s at (Ok (at + 1))
    ty_plain lo = ty_met (Ok (at + 1)) (λ f l. sym (plain b lo (read_ty f lim s)))

    pub ty_given : b ≡ 2 → (r : Answer) → r ≡ type_answer (given_at lim s at) → TyPost lim s at r
    unfolding ty_case
    ty_given eb r e = ty_met r (λ f l. rw eb e)

    pow_answer : (x : TyRes) → type_answer (then_t x (λ t p. ok_t (pow t) p)) ≡ type_answer x
    pow_answer (ok_t t p) = refl
    pow_answer (no_t c) = refl

    pub ty_pow : b ≡ 3 → (r : Answer) → TyPost lim s (at + 1) r → TyPost lim s at r
    unfolding ty_case
    ty_pow eb r post = ty_met r (λ f l. rw eb (post f (omega arith) ∙ sym (pow_answer (read_ty f lim s (at + 1)))))

    prod_answer : (t : Ty) (x : TyRes) → type_answer (then_t x (λ u q. ok_t (prod t u) q)) ≡ type_answer x
    prod_answer t (ok_t u q) = refl
    prod_answer t (no_t c) = refl

    pub ty_prod_no : b ≡ 4 → (r : Answer) (e : Refusal) → IsErrAnd r (λ x. x ≡ e) → TyPost lim s (at + 1) (Err e) → TyPost lim s at r
    unfolding ty_case
    ty_prod_no eb r e h first =
        ty_met r
        (λ f l.
        let (c, is, er) = answer_err (read_ty f lim s (at + 1)) e (first f (omega arith)) in
        rw (eb, is) (handed_on r e h ∙ ap Err er))

    module _ (bs : Bytes s) (p : ℕ) (first : TyPost lim s (at + 1) (Ok p)) where
      pub prod_further : (at < p) × (p ≤ lim) × (p ≤ length s)
      prod_further = omega (arith, ty_further (suc lim) lim s bs (at + 1) p (first (suc lim) (omega arith)))

      pub ty_prod : b ≡ 4 → (r : Answer) → TyPost lim s p r → TyPost lim s at r
      unfolding ty_case
      ty_prod eb r post =
          ty_met r
          (λ f l.
          let (t, is) = answer_ok (read_ty f lim s (at + 1)) p (first f (omega arith)) in
          let w = prod_further in
          rw (eb, is) (post f (omega arith) ∙ sym (prod_answer t (read_ty f lim s p))))

    pub ty_bad : 4 < b → TyPost lim s at (Err (refusal 6))
    ty_bad hi = ty_met (Err (refusal 6)) (λ f l. sym (above_four b hi (read_ty f lim s)))

-- ---- read_types: the types that are left, and what they say of all
pub record RowGoing (s : List ℕ) (at n i p : ℕ) : Type 0 where
  pub within : p ≤ length s
  pub back : i ≤ n → types_answer (read_tys (n - i) s p) ≡ types_answer (read_tys n s at)

pub row_begins : (s : List ℕ) (at n : ℕ) → at ≤ length s → RowGoing s at n 0 at
row_begins s at n h = record { within = h; back = λ l. rw sub-zero }

module _ (s : List ℕ) (at n i p : ℕ) (g : RowGoing s at n i p) where
  pub row_done : n ≤ i → i ≤ n → Ok p ≡ types_answer (read_tys n s at)
  unfolding read_tys
  row_done d l = let z : n - i ≡ 0 = omega arith in let b = g.back l in rw z at b

  module _ (more : i < n) where
    one : read_tys (n - i) s p ≡ then_ts (read_ty (suc type_limit) (p + type_limit) s p) (λ q. read_tys (n - (i + 1)) s q)
    unfolding read_tys
    one = let z : n - i ≡ suc (n - (i + 1)) = omega arith in ap (λ (j : ℕ). read_tys j s p) z

    pub row_stops : (r : Answer) (e : Refusal) → IsErrAnd r (λ x. x ≡ e) → TyPost (p + type_limit) s p (Err e) → r ≡ types_answer (read_tys n s at)
    row_stops r e h first =
        let (c, is, er) = answer_err (read_ty (suc type_limit) (p + type_limit) s p) e (first (suc type_limit) (omega arith)) in
        let z : types_answer (read_tys (n - i) s p) ≡ Err e = rw (one, is) (ap Err (sym er)) in
        handed_on r e h ∙ sym z ∙ g.back (omega arith)

    cons_answer : (t : Ty) (x : TysRes) → types_answer (cons_ts t x) ≡ types_answer x
    cons_answer t (ok_ts ts q) = refl
    cons_answer t (no_ts c) = refl

    pub row_goes : Bytes s → (q : ℕ) → TyPost (p + type_limit) s p (Ok q) → RowGoing s at n (i + 1) q
    row_goes bs q first =
        let e : Ok q ≡ type_answer (read_ty (suc type_limit) (p + type_limit) s p) = first (suc type_limit) (omega arith) in
        let (t, is) = answer_ok (read_ty (suc type_limit) (p + type_limit) s p) q e in
        let w = ty_further (suc type_limit) (p + type_limit) s bs p q e in
        let z : types_answer (read_tys (n - i) s p) ≡ types_answer (read_tys (n - (i + 1)) s q) =
        rw (one, is) (cons_answer t (read_tys (n - (i + 1)) s q)) in
        record { within = w.2; back = λ l. sym z ∙ g.back (omega arith) }
