-- Types, read and written: a type that is read has its bytes there, and a type's bytes are read as that type.
-- Main results: ty_read, tys_read, ty_back, tys_back, ty_bytes, tys_bytes, ty_prefix, enc_ty_injective, enc_tys_injective, tys_long.
use mathlib.Core.Path.{◌≡◌, refl, ap, ap₂, ◌∙◌, subst, subst₂}
use mathlib.Core.Bool.{Bool, true, false}
use mathlib.Core.List.{List, [], ◌∷◌, ◌++◌}
use Prim.Native.Nat.{ℕ, zero, suc, ◌+◌, ◌*◌, ◌/◌, ◌%◌, ◌≤◌, ◌<◌}
use native.Mathlib.Omega.{arith}
use lib.ListN.{length, get_or, length-append}
use lib.Dec.{leb, lit<}
use borrow.Author.Tests.{leb-false, lt-leb}
use Rattle.frame.specs.Types.{Ty, bool, int, given, pow, prod}
use Rattle.frame.specs.Encoding.{enc_number, enc_ty, enc_tys}
use Rattle.frame.specs.Reading.{
  number_at,
  TyRes,
  ok_t,
  no_t,
  then_t,
  ty_byte,
  byte_of,
  ty_case,
  read_ty,
  type_limit,
  TysRes,
  ok_ts,
  no_ts,
  cons_ts,
  then_ts,
  read_tys,
}
use Rattle.frame.specs.WellFormed.{TyWf, TysWf}
use Rattle.frame.specs.Spans.{Bytes, Spans}
use Rattle.frame.proofs.Spans.{
  cut_both,
  span_nil,
  span_one,
  span_join,
  span_cons,
  span_left,
  span_right,
  span_first,
  span_whole,
  bytes_nil,
  bytes_cons,
  bytes_append,
}
use Rattle.frame.proofs.Numbers.{number_span, number_bytes, number_two}

pub no_t_not {ℓ} : {X : Type ℓ} {c : ℕ} {t : Ty} {p : ℕ} → no_t c ≡ ok_t t p → X
no_t_not e = let z : ◌≡◌ {A = ℕ} 0 1 = cc in absurd (omega arith)

pub no_ts_not {ℓ} : {X : Type ℓ} {c : ℕ} {ts : List Ty} {p : ℕ} → no_ts c ≡ ok_ts ts p → X
no_ts_not e = let z : ◌≡◌ {A = ℕ} 0 1 = cc in absurd (omega arith)

-- ---- a type that is read
-- its bytes stand there, it is well formed, and it ends by its limit
pub record TyRead (lim : ℕ) (s : List ℕ) (at : ℕ) (t : Ty) (p : ℕ) : Type 0 where
  pub span : Spans s at p (enc_ty t)
  pub wf : TyWf t
  pub by : p ≤ lim

-- a byte that was handed on: it stands before the limit and the end
pub record ByteRead (lim : ℕ) (s : List ℕ) (at : ℕ) (k : ℕ → TyRes) (t : Ty) (p : ℕ) : Type 0 where
  pub low : at < lim
  pub within : at < length s
  pub on : k (get_or s at 0) ≡ ok_t t p

pub byte_read : (lim : ℕ) (s : List ℕ) (at : ℕ) (k : ℕ → TyRes) (t : Ty) (p : ℕ) → byte_of lim s at k ≡ ok_t t p → ByteRead lim s at k t p
byte_read lim s at k t p e = go (leb lim at) (leb (length s) at) refl refl e
  where
    go : (a b : Bool) → leb lim at ≡ a → leb (length s) at ≡ b → ty_byte a b (get_or s at 0) k ≡ ok_t t p → ByteRead lim s at k t p
    go true b ea eb e = no_t_not e
    go false true ea eb e = no_t_not e
    go false false ea eb e = record { low = leb-false lim at ea; within = leb-false (length s) at eb; on = e }

-- one byte of a type has been met; ih is the law for the types that begin further on
module _ (lim : ℕ) (s : List ℕ) (bs : Bytes s) (go : ℕ → TyRes)
    (ih : (at : ℕ) (t : Ty) (p : ℕ) → go at ≡ ok_t t p → TyRead lim s at t p) (at : ℕ) (h : at < lim) (k : at < length s) where
  read_one : (b : ℕ) (u : Ty) → enc_ty u ≡ b ∷ [] → TyWf u → get_or s at 0 ≡ b → TyRead lim s at u (at + 1)
  read_one b u eu w eb = record { span = rw eu (span_one k eb); wf = w; by = omega arith }

  read_given : (t : Ty) (p : ℕ) → get_or s at 0 ≡ 2
      → byte_of lim s (at + 1) (λ x. byte_of lim s (at + 2) (λ y. ok_t (given (x * 256 + y)) (at + 3))) ≡ ok_t t p → TyRead lim s at t p
  unfolding enc_ty
  read_given t p eb e =
      let x = byte_read lim s (at + 1) (λ x. byte_of lim s (at + 2) (λ y. ok_t (given (x * 256 + y)) (at + 3))) t p e in
      let y = byte_read lim s (at + 2) (λ y. ok_t (given (get_or s (at + 1) 0 * 256 + y)) (at + 3)) t p x.on in
      let n : ℕ = get_or s (at + 1) 0 * 256 + get_or s (at + 2) 0 in
      let ee : ok_t (given n) (at + 3) ≡ ok_t t p = y.on in
      let et : given n ≡ t = cc in
      let ep : at + 3 ≡ p = cc in
      let z : at + 1 + 2 ≡ p = omega arith in
      let i₂ : at + 1 + 1 ≡ at + 2 = omega arith in
      let en : number_at 2 s (at + 1) ≡ n = number_two s (at + 1) ∙ ap (λ (i : ℕ). get_or s (at + 1) 0 * 256 + get_or s i 0) i₂ in
      subst (λ (u : Ty). TyRead lim s at u p) et record {
        span = span_cons k eb (subst₂ (λ (i j : ℕ). Spans s (at + 1) i (enc_number 2 j)) z en
            (number_span 2 s bs (at + 1) (omega (arith, y.within))));
        wf = omega (arith, bs (at + 1), bs (at + 2));
        by = omega (arith, y.low);
      }

  read_pow : (t : Ty) (p : ℕ) → get_or s at 0 ≡ 3 → (x : TyRes) → go (at + 1) ≡ x → then_t x (λ u q. ok_t (pow u) q) ≡ ok_t t p → TyRead lim s at t p
  unfolding enc_ty
  read_pow t p eb (ok_t u q) ex e =
      let et : pow u ≡ t = cc in
      let eq : q ≡ p = cc in
      let r = ih (at + 1) u q ex in
      subst₂ (λ (v : Ty) (i : ℕ). TyRead lim s at v i) et eq record { span = span_cons k eb r.span; wf = r.wf; by = r.by }
  read_pow t p eb (no_t c) ex e = no_t_not e

  read_prod₂ : (t : Ty) (p : ℕ) → get_or s at 0 ≡ 4 → (u : Ty) (q : ℕ) → TyRead lim s (at + 1) u q → (y : TyRes) → go q ≡ y
      → then_t y (λ v r. ok_t (prod u v) r) ≡ ok_t t p → TyRead lim s at t p
  unfolding enc_ty
  read_prod₂ t p eb u q a (ok_t v r) ey e =
      let et : prod u v ≡ t = cc in
      let er : r ≡ p = cc in
      let b = ih q v r ey in
      subst₂ (λ (v : Ty) (i : ℕ). TyRead lim s at v i) et er record
      { span = span_cons k eb (span_join a.span b.span); wf = (a.wf, b.wf); by = b.by }
  read_prod₂ t p eb u q a (no_t c) ey e = no_t_not e

  read_prod : (t : Ty) (p : ℕ) → get_or s at 0 ≡ 4 → (x : TyRes) → go (at + 1) ≡ x
      → then_t x (λ u q. then_t (go q) (λ v r. ok_t (prod u v) r)) ≡ ok_t t p → TyRead lim s at t p
  read_prod t p eb (ok_t u q) ex e = read_prod₂ t p eb u q (ih (at + 1) u q ex) (go q) refl e
  read_prod t p eb (no_t c) ex e = no_t_not e

  read_case : (t : Ty) (p b : ℕ) → get_or s at 0 ≡ b → ty_case b lim s at go ≡ ok_t t p → TyRead lim s at t p
  unfolding ty_case enc_ty
  read_case t p zero eb e = let et : bool ≡ t = cc in let ep : at + 1 ≡ p = cc in subst₂ (TyRead lim s at) et ep (read_one 0 bool refl tt eb)
  read_case t p (suc zero) eb e = let et : int ≡ t = cc in let ep : at + 1 ≡ p = cc in subst₂ (TyRead lim s at) et ep (read_one 1 int refl tt eb)
  read_case t p (suc (suc zero)) eb e = read_given t p eb e
  read_case t p (suc (suc (suc zero))) eb e = read_pow t p eb (go (at + 1)) refl e
  read_case t p (suc (suc (suc (suc zero)))) eb e = read_prod t p eb (go (at + 1)) refl e
  read_case t p (suc (suc (suc (suc (suc b))))) eb e = no_t_not e

pub ty_read : (f lim : ℕ) (s : List ℕ) → Bytes s → (at : ℕ) (t : Ty) (p : ℕ) → read_ty f lim s at ≡ ok_t t p → TyRead lim s at t p
unfolding read_ty
ty_read zero lim s bs at t p e = no_t_not e
ty_read (suc f) lim s bs at t p e =
    let r = byte_read lim s at (λ b. ty_case b lim s at (read_ty f lim s)) t p e in
    read_case lim s bs (read_ty f lim s) (ty_read f lim s bs) at r.low r.within t p (get_or s at 0) refl r.on

-- ---- types in a row
pub record TysRead (n : ℕ) (s : List ℕ) (at : ℕ) (ts : List Ty) (p : ℕ) : Type 0 where
  pub span : Spans s at p (enc_tys ts)
  pub wf : TysWf ts
  pub many : length ts ≡ n

pub tys_read : (n : ℕ) (s : List ℕ) → Bytes s → (at : ℕ) (ts : List Ty) (p : ℕ) → at ≤ length s → read_tys n s at ≡ ok_ts ts p → TysRead n s at ts p
unfolding read_tys enc_tys
tys_read zero s bs at ts p h e =
    let et : [] ≡ ts = cc in
    let ep : at ≡ p = cc in
    subst₂ (TysRead 0 s at) et ep record { span = span_nil h; wf = tt; many = refl }
tys_read (suc n) s bs at ts p h e = on_first (tys_read n s bs) (read_ty (suc type_limit) (at + type_limit) s at) refl e
  where
    on_rest : (t : Ty) (q : ℕ) → TyRead (at + type_limit) s at t q → (y : TysRes) → ((us : List Ty) (r : ℕ) → y ≡ ok_ts us r → TysRead n s q us r)
        → cons_ts t y ≡ ok_ts ts p → TysRead (suc n) s at ts p
    on_rest t q a (ok_ts us r) ih e =
        let et : t ∷ us ≡ ts = cc in
        let er : r ≡ p = cc in
        let b = ih us r refl in
        let l : length (enc_ty t) ≤ type_limit = omega (arith, a.span.long, a.by) in
        subst₂ (TysRead (suc n) s at) et er record { span = span_join a.span b.span; wf = (a.wf, l, b.wf); many = ap suc b.many }
    on_rest t q a (no_ts c) ih e = no_ts_not e

    on_first : ((at : ℕ) (ts : List Ty) (p : ℕ) → at ≤ length s → read_tys n s at ≡ ok_ts ts p → TysRead n s at ts p) → (x : TyRes)
        → read_ty (suc type_limit) (at + type_limit) s at ≡ x → then_ts x (λ q. read_tys n s q) ≡ ok_ts ts p → TysRead (suc n) s at ts p
    on_first ih (ok_t t q) ex e =
        let a = ty_read (suc type_limit) (at + type_limit) s bs at t q ex in
        on_rest t q a (read_tys n s q) (λ us r ey. ih q us r a.span.within ey) e
    on_first ih (no_t c) ex e = no_ts_not e

-- ---- a type's bytes are read back
pub ty_long : (t : Ty) → 0 < length (enc_ty t)
unfolding enc_ty
ty_long bool = omega arith
ty_long int = omega arith
ty_long (given n) = omega arith
ty_long (pow t) = omega arith
ty_long (prod t u) = omega arith

-- the byte x at `at`, before the limit and the end, is handed on
byte_back : (lim : ℕ) (s : List ℕ) (at x : ℕ) (k : ℕ → TyRes) → at < lim → at < length s → get_or s at 0 ≡ x → byte_of lim s at k ≡ k x
byte_back lim s at x k h l e = rw (lt-leb lim at h, lt-leb (length s) at l) (ap k e)

pub ty_back : (t : Ty) (f lim : ℕ) (s : List ℕ) (at p : ℕ) → Spans s at p (enc_ty t) → TyWf t → p ≤ lim → p ≤ at + f → read_ty f lim s at ≡ ok_t t p
unfolding enc_ty enc_number read_ty ty_case
ty_back t zero lim s at p a w l f = absurd (omega (arith, a.long, ty_long t))
ty_back bool (suc f) lim s at p a w l k =
    let h = span_first a in
    byte_back lim s at 0 (λ b. ty_case b lim s at (read_ty f lim s)) (omega (arith, a.long)) h.within h.byte ∙ ap (ok_t bool) a.long
ty_back int (suc f) lim s at p a w l k =
    let h = span_first a in
    byte_back lim s at 1 (λ b. ty_case b lim s at (read_ty f lim s)) (omega (arith, a.long)) h.within h.byte ∙ ap (ok_t int) a.long
ty_back (given n) (suc f) lim s at p a w l k =
    let h = span_first a in
    let b = span_first h.rest in
    let i₂ : at + 1 + 1 ≡ at + 2 = omega arith in
    let c = span_first (subst (λ (i : ℕ). Spans s i p (n % 256 / 1 ∷ [])) i₂ b.rest) in
    let en : n / 256 * 256 + n % 256 / 1 ≡ n = omega arith in
    byte_back lim s at 2 (λ b. ty_case b lim s at (read_ty f lim s)) (omega (arith, a.long)) h.within h.byte
    ∙ byte_back lim s (at + 1) (n / 256) (λ x. byte_of lim s (at + 2) (λ y. ok_t (given (x * 256 + y)) (at + 3)))
    (omega (arith, a.long)) b.within b.byte
    ∙ byte_back lim s (at + 2) (n % 256 / 1) (λ y. ok_t (given (n / 256 * 256 + y)) (at + 3)) (omega (arith, a.long)) c.within c.byte
    ∙ ap₂ ok_t (ap given en) a.long
ty_back (pow t) (suc f) lim s at p a w l k =
    let h = span_first a in
    byte_back lim s at 3 (λ b. ty_case b lim s at (read_ty f lim s)) (omega (arith, a.long)) h.within h.byte
    ∙ ap (λ (x : TyRes). then_t x (λ u q. ok_t (pow u) q)) (ty_back t f lim s (at + 1) p h.rest w l (omega arith))
ty_back (prod t u) (suc f) lim s at p a w l k =
    let h = span_first a in
    let b = span_left (enc_ty t) (enc_ty u) h.rest in
    let c = span_right (enc_ty t) (enc_ty u) h.rest in
    let m : ℕ = at + 1 + length (enc_ty t) in
    byte_back lim s at 4 (λ b. ty_case b lim s at (read_ty f lim s)) (omega (arith, a.long)) h.within h.byte
    ∙ ap (λ (x : TyRes). then_t x (λ u q. then_t (read_ty f lim s q) (λ v r. ok_t (prod u v) r)))
    (ty_back t f lim s (at + 1) m b w.0 (omega (arith, c.long)) (omega (arith, c.long)))
    ∙ ap (λ (x : TyRes). then_t x (λ v r. ok_t (prod t v) r)) (ty_back u f lim s m p c w.1 l (omega arith))

pub tys_back : (ts : List Ty) (s : List ℕ) (at p : ℕ) → Spans s at p (enc_tys ts) → TysWf ts → read_tys (length ts) s at ≡ ok_ts ts p
unfolding enc_tys read_tys
tys_back [] s at p a w = let z : at ≡ p = omega (arith, a.long) in ap (ok_ts []) z
tys_back (t ∷ ts) s at p a w =
    let b = span_left (enc_ty t) (enc_tys ts) a in
    let c = span_right (enc_ty t) (enc_tys ts) a in
    let m : ℕ = at + length (enc_ty t) in
    ap (λ (x : TyRes). then_ts x (λ q. read_tys (length ts) s q))
    (ty_back t (suc type_limit) (at + type_limit) s at m b w.0 (omega (arith, w.1)) (omega (arith, w.1)))
    ∙ ap (cons_ts t) (tys_back ts s m p c w.2)

-- ---- the bytes of a well formed type
pub ty_bytes : (t : Ty) → TyWf t → Bytes (enc_ty t)
unfolding enc_ty
ty_bytes bool w = bytes_cons 0 [] (lit< tt) bytes_nil
ty_bytes int w = bytes_cons 1 [] (lit< tt) bytes_nil
ty_bytes (given n) w = bytes_cons 2 (enc_number 2 n) (lit< tt) (number_bytes 2 n w)
ty_bytes (pow t) w = bytes_cons 3 (enc_ty t) (lit< tt) (ty_bytes t w)
ty_bytes (prod t u) w = bytes_cons 4 (enc_ty t ++ enc_ty u) (lit< tt) (bytes_append (enc_ty t) (enc_ty u) (ty_bytes t w.0) (ty_bytes u w.1))

pub tys_bytes : (ts : List Ty) → TysWf ts → Bytes (enc_tys ts)
unfolding enc_tys
tys_bytes [] w = bytes_nil
tys_bytes (t ∷ ts) w = bytes_append (enc_ty t) (enc_tys ts) (ty_bytes t w.0) (tys_bytes ts w.2)

-- ---- a type's bytes say the type, whatever follows: both types are read at the start of one list
pub ty_prefix : (t u : Ty) (xs ys : List ℕ) → TyWf t → TyWf u → enc_ty t ++ xs ≡ enc_ty u ++ ys → (t ≡ u) × (xs ≡ ys)
ty_prefix t u xs ys w v e =
    let n : ℕ = length (enc_ty t) + length (enc_ty u) in
    let a = read_back t xs w n (omega arith) in
    let b = read_back u ys v n (omega arith) in
    let et : t ≡ u = cc (a, b, ap (λ (s : List ℕ). read_ty n n s 0) e) in
    (et, (cut_both (enc_ty t) xs (enc_ty u) ys (ap (λ (x : Ty). length (enc_ty x)) et) e).1)
  where
    read_back : (t : Ty) (xs : List ℕ) → TyWf t → (n : ℕ) → length (enc_ty t) ≤ n → read_ty n n (enc_ty t ++ xs) 0 ≡ ok_t t (0 + length (enc_ty t))
    read_back t xs w n l =
        ty_back t n n (enc_ty t ++ xs) 0 (0 + length (enc_ty t)) (span_left (enc_ty t) xs (span_whole (enc_ty t ++ xs))) w (omega arith) (omega arith)

pub enc_ty_injective : (t u : Ty) → TyWf t → TyWf u → enc_ty t ≡ enc_ty u → t ≡ u
enc_ty_injective t u w v e = (ty_prefix t u [] [] w v (ap (λ (s : List ℕ). s ++ []) e)).0

pub enc_tys_injective : (ts us : List Ty) → TysWf ts → TysWf us → length ts ≡ length us → enc_tys ts ≡ enc_tys us → ts ≡ us
unfolding enc_tys
enc_tys_injective [] [] w v l e = refl
enc_tys_injective [] (u ∷ us) w v l e = absurd (omega arith)
enc_tys_injective (t ∷ ts) [] w v l e = absurd (omega arith)
enc_tys_injective (t ∷ ts) (u ∷ us) w v l e =
    let i = ty_prefix t u (enc_tys ts) (enc_tys us) w.0 v.0 e in
    let l' : length ts ≡ length us = omega arith in
    ap₂ (λ (x : Ty) (xs : List Ty). x ∷ xs) i.0 (enc_tys_injective ts us w.2 v.2 l' i.1)

pub tys_long : (us : List Ty) → length us ≤ length (enc_tys us)
unfolding enc_tys
tys_long [] = omega arith
tys_long (u ∷ us) = simp length-append (omega (arith, ty_long u, tys_long us))
