-- One claim is noted in the table, or clashes with one noted before.
-- Main results: type_unique (one place has one type), says_unique; the ways out of is_power, note_identifier and note_given.
use mathlib.Core.Path.{◌≡◌, refl, sym, ap, ◌∙◌, subst}
use mathlib.Core.Logic.{◌⊎◌, inl, inr}
use mathlib.Core.Bool.{Bool, true, false}
use mathlib.Core.List.{List, [], ◌∷◌, ◌++◌, append-nil}
use Prim.Native.Nat.{ℕ, suc, ◌+◌, ◌≤◌, ◌<◌}
use native.Mathlib.Omega.{arith}
use lib.ListN.{length, get_or, set, length-set}
use lib.Seq.{get_or-set_same, get_or-set_other}
use lib.Dec.{eqb}
use borrow.Author.Tests.{eqb-true, eqb-false}
use Rattle.frame.specs.Types.{Ty, given, pow}
use Rattle.frame.specs.Encoding.{enc_number, enc_ty}
use Rattle.frame.specs.Reading.{number_at, frame_limit}
use Rattle.frame.specs.Spans.{Bytes, Spans}
use Rattle.frame.proofs.Spans.{span_cons, span_first}
use Rattle.frame.proofs.Numbers.{number_span, number_back}
use Rattle.frame.proofs.Inversion.{true_not}
use Rattle.typing.specs.Members.{In}
use Rattle.typing.specs.Identifiers.{Named, named}
use Rattle.typing.proofs.Members.{in_left, in_right, in_either}
use Rattle.frame.proofs.ReadTypes.{ty_long, ty_back}
use Rattle.claims.specs.Table.{Clash, TypeAt, given_mark, Says, by_mark, by_place, Told, PowerPost, SameType, Held, NamePost, GivenPost}

-- ---- what an entry says
pub type_unique : (s : List ℕ) (p q r : ℕ) (t u : Ty) → TypeAt s p q t → TypeAt s p r u → t ≡ u
type_unique s p q r t u a b =
    let k : ℕ = q + r in
    cc (ty_back t k k s p q a.span a.wf (omega arith) (omega arith), ty_back u k k s p r b.span b.wf (omega arith) (omega arith))

pub says_unique : (s : List ℕ) (n v : ℕ) (t u : Ty) → Says s n v t → Says s n v u → t ≡ u
says_unique s n v t u (by_mark e f) (by_mark g h) = f ∙ sym h
says_unique s n v t u (by_mark e f) (by_place p q g l a) = absurd (omega arith)
says_unique s n v t u (by_place p q g l a) (by_mark e f) = absurd (omega arith)
says_unique s n v t u (by_place p q g l a) (by_place p' q' g' l' a') =
    let z : p' ≡ p = omega arith in
    type_unique s p q q' t u a (subst (λ (i : ℕ). TypeAt s i q' u) z a')

-- ---- one claim
module _ (s table : List ℕ) (done : List Named) (h : Told s table done) (n : ℕ) (t : Ty) where
  abbrev with_it : List Named
  with_it = done ++ (named n t ∷ [])

  here : In (named n t) with_it
  here = in_right (named n t) done (named n t ∷ []) (inl refl)

  -- a number with no entry gets one that says its type
  pub note_new : n < length table → get_or table n 0 ≡ 0 → (v : ℕ) → Says s n v t → Told s (set table n v) with_it
  note_new l z v a = record {
    all = λ m u i. all_of m u (in_either (named m u) done (named n t ∷ []) i);
    only = λ m x. only_of m x (eqb m n) refl;
  }
    where
      same : get_or (set table n v) n 0 ≡ v
      same = get_or-set_same table n v 0 l

      other : (m : ℕ) → (m ≡ n → ⊥) → get_or (set table n v) m 0 ≡ get_or table m 0
      other m d = get_or-set_other table n m v 0 d

      says_none : (u : Ty) → Says s n (get_or table n 0) u → ⊥
      says_none u (by_mark e f) = omega arith
      says_none u (by_place p q e l a) = omega arith

      not_here : (m : ℕ) (u : Ty) → In (named m u) done → m ≡ n → ⊥
      not_here m u i e = says_none u (subst (λ (k : ℕ). Says s k (get_or table k 0) u) e (h.all m u i))

      all_of : (m : ℕ) (u : Ty) → In (named m u) done ⊎ In (named m u) (named n t ∷ []) → Says s m (get_or (set table n v) m 0) u
      all_of m u (inl i) = subst (λ (k : ℕ). Says s m k u) (sym (other m (not_here m u i))) (h.all m u i)
      all_of m u (inr (inl e)) =
          let em : n ≡ m = cc in
          let eu : t ≡ u = cc in
          subst (λ (w : Ty). Says s m (get_or (set table n v) m 0) w) eu
          (subst (λ (k : ℕ). Says s k (get_or (set table n v) k 0) t) em (subst (λ (k : ℕ). Says s n k t) (sym same) a))
      all_of m u (inr (inr i)) = absurd i

      only_of : (m : ℕ) → (get_or (set table n v) m 0 ≡ 0 → ⊥) → (b : Bool) → eqb m n ≡ b
          → (u : Ty) × In (named m u) with_it × Says s m (get_or (set table n v) m 0) u
      only_of m x true e =
          let em : n ≡ m = sym (eqb-true m n e) in
          subst (λ (k : ℕ). (u : Ty) × In (named k u) with_it × Says s k (get_or (set table n v) k 0) u) em
          (t, here, subst (λ (k : ℕ). Says s n k t) (sym same) a)
      only_of m x false e =
          let o = other m (eqb-false m n e) in
          let w = h.only m (λ z. x (o ∙ z)) in
          (w.0, in_left (named m w.0) done (named n t ∷ []) w.1, subst (λ (k : ℕ). Says s m k w.0) (sym o) w.2)

  -- a number whose entry says the same
  pub note_same : Says s n (get_or table n 0) t → Told s table with_it
  note_same a = record {
    all = λ m u i. all_of m u (in_either (named m u) done (named n t ∷ []) i);
    only = λ m x. (let w = h.only m x in (w.0, in_left (named m w.0) done (named n t ∷ []) w.1, w.2));
  }
    where
      all_of : (m : ℕ) (u : Ty) → In (named m u) done ⊎ In (named m u) (named n t ∷ []) → Says s m (get_or table m 0) u
      all_of m u (inl i) = h.all m u i
      all_of m u (inr (inl e)) =
          let em : n ≡ m = cc in
          let eu : t ≡ u = cc in
          subst (λ (w : Ty). Says s m (get_or table m 0) w) eu (subst (λ (k : ℕ). Says s k (get_or table k 0) t) em a)
      all_of m u (inr (inr i)) = absurd i

  -- a number whose entry says something else
  pub note_clash : (get_or table n 0 ≡ 0 → ⊥) → (Says s n (get_or table n 0) t → ⊥) → Clash with_it
  note_clash z d =
      let w = h.only n z in record {
        number = n;
        one = t;
        other = w.0;
        first = here;
        second = in_left (named n w.0) done (named n t ∷ []) w.1;
        differ = λ e. d (subst (λ (u : Ty). Says s n (get_or table n 0) u) (sym e) w.2);
      }

-- ---- is_power
pub record PowerBytes (s : List ℕ) (p n : ℕ) : Type 0 where
  pub room : p + 4 ≤ length s
  pub pow_byte : get_or s p 0 ≡ 3
  pub given_byte : get_or s (p + 1) 0 ≡ 2
  pub number : number_at 2 s (p + 2) ≡ n

pub power_bytes : (s : List ℕ) (p n q : ℕ) → n < 65536 → TypeAt s p q (pow (given n)) → PowerBytes s p n
unfolding enc_ty
power_bytes s p n q l a =
    let b = span_first a.span in
    let c = span_first b.rest in
    let d : Spans s (p + 1 + 1) q (enc_number 2 n ++ []) = rw append-nil c.rest in
    let e = number_back 2 s (p + 1 + 1) q n [] l d in
    let z : p + 1 + 1 ≡ p + 2 = omega arith in
    record {
      room = omega (arith, e.within);
      pow_byte = b.byte;
      given_byte = c.byte;
      number = ap (number_at 2 s) (sym z) ∙ e.number;
    }

pub bytes_power : (s : List ℕ) → Bytes s → (p n : ℕ) → n < 65536 → PowerBytes s p n → TypeAt s p (p + 4) (pow (given n))
unfolding enc_ty
bytes_power s bs p n l a =
    let e = a.number in
    let z : p + 2 + 2 ≡ p + 4 = omega arith in
    let z₁ : p + 2 ≡ p + 1 + 1 = omega arith in
    let r = a.room in
    let b : Spans s (p + 2) (p + 2 + 2) (enc_number 2 (number_at 2 s (p + 2))) = number_span 2 s bs (p + 2) (omega arith) in
    let c : Spans s (p + 2) (p + 4) (enc_number 2 n) = rw (← e, ← z) b in
    let d : Spans s (p + 1 + 1) (p + 4) (enc_number 2 n) = subst (λ (i : ℕ). Spans s i (p + 4) (enc_number 2 n)) z₁ c in
    record { span = span_cons (omega arith) a.pow_byte (span_cons (omega arith) a.given_byte d); wf = l }

module _ (s : List ℕ) (p n : ℕ) (l : n < 65536) where
  pub power_not : (PowerBytes s p n → ⊥) → PowerPost s p n false
  power_not d = record { yes = λ e. true_not e; not = λ e q a. d (power_bytes s p n q l a) }

  pub power_is : Bytes s → (r : Bool) → p + 4 ≤ length s → get_or s p 0 ≡ 3 → get_or s (p + 1) 0 ≡ 2
      → r ≡ eqb (number_at 2 s (p + 2)) n → PowerPost s p n r
  power_is bs r a b c e = record {
    yes = λ y. bytes_power s bs p n l record { room = a; pow_byte = b; given_byte = c; number = eqb-true _ _ (sym e ∙ y) };
    not = λ y q t. eqb-false _ _ (sym e ∙ y) (power_bytes s p n q l t).number;
  }

-- ---- note_identifier, note_given
-- a type that stands somewhere in a frame
pub type_room : (s : List ℕ) (p q : ℕ) → length s ≤ frame_limit → (t : Ty) × TypeAt s p q t → (p ≤ q) × (q ≤ length s) × (p < 4096)
type_room s p q l h =
    let x = h.1.span.long in
    let y = h.1.span.within in
    (omega arith, y, omega (arith, ty_long h.0))

-- the entry of an identifier that has claimed a number: it says that place
abbrev pub PlaceEntry : ℕ → ℕ → Type 0
PlaceEntry v e = (v ≡ suc e) × (v ≡ given_mark → ⊥)

module _ (s table : List ℕ) (n : ℕ) where
  pub entry_place : Held s table → (e : ℕ) → PlaceEntry (get_or table n 0) e → (e ≤ length s) × (e < 4096)
  entry_place h e a = let w = h.told.only n (λ z. cc) in go w.0 w.2
    where
      go : (u : Ty) → Says s n (get_or table n 0) u → (e ≤ length s) × (e < 4096)
      go u (by_mark g f) = absurd (a.1 g)
      go u (by_place p q g l t) = let x = t.span.long in let y = t.span.within in let z : suc e ≡ suc p = sym a.0 ∙ g in (omega arith, omega arith)

  module _ (p q : ℕ) where
    pub name_new : n < length table → p < 4096 → get_or table n 0 ≡ 0 → NamePost s n p q table (set table n (p + 1)) true
    name_new l k z = record {
      by = λ t a. record {
        size = length-set table n (p + 1);
        by = λ done h. note_new s table done h n t l z (p + 1)
            (by_place p q (omega arith) k a);
      };
    }

    pub name_mark : get_or table n 0 ≡ given_mark → (r : Bool) → PowerPost s p n r → NamePost s n p q table table r
    name_mark g true b = record {
      by = λ t a. record {
        size = refl;
        by = λ done h. note_same s table done h n t
            (by_mark g (type_unique s p q (p + 4) t (pow (given n)) a (b.yes refl)));
      };
    }
    name_mark g false b = record {
      by = λ t a. record {
        size = refl;
        by = λ done h. note_clash s table done h n t
            (λ z. let w : ◌≡◌ {A = ℕ} 0 given_mark = sym z ∙ g in omega arith) (never t a);
      };
    }
      where
        never : (t : Ty) → TypeAt s p q t → Says s n (get_or table n 0) t → ⊥
        never t a (by_mark e f) = b.not refl q (subst (TypeAt s p q) f a)
        never t a (by_place p' q' e l' a') = omega arith

    pub name_place : Held s table → (e : ℕ) → PlaceEntry (get_or table n 0) e → (r : Bool) → SameType s p q e r
        → NamePost s n p q table table r
    name_place hd e g true b = record {
      by = λ t a. record {
        size = refl;
        by = λ done h. note_same s table done h n t
            (by_place e _ g.0 (entry_place hd e g).1 (b.yes refl t a));
      };
    }
    name_place hd e g false b = record { by = λ t a. record { size = refl; by = λ done h. note_clash s table done h n t (λ z. cc) (never t a) } }
      where
        never : (t : Ty) → TypeAt s p q t → Says s n (get_or table n 0) t → ⊥
        never t a (by_mark y f) = g.1 y
        never t a (by_place p' q' y l' a') =
            let z : suc p' ≡ suc e = sym y ∙ g.0 in
            let w : p' ≡ e = omega arith in
            b.not refl t q' a (subst (λ (i : ℕ). TypeAt s i q' t) w a')

  pub given_new : n < length table → get_or table n 0 ≡ 0 → GivenPost s n table (set table n given_mark) true
  given_new l z = record {
    size = length-set table n given_mark;
    by = λ done h. note_new s table done h n
        (pow (given n)) l z given_mark (by_mark refl refl);
  }

  pub given_mark_lem : get_or table n 0 ≡ given_mark → GivenPost s n table table true
  given_mark_lem g = record { size = refl; by = λ done h. note_same s table done h n (pow (given n)) (by_mark g refl) }

  pub given_place : Held s table → (e : ℕ) → PlaceEntry (get_or table n 0) e → (r : Bool) → PowerPost s e n r → GivenPost s n table table r
  given_place hd e g true b = record {
    size = refl;
    by = λ done h. note_same s table done h n (pow (given n))
        (by_place e _ g.0 (entry_place hd e g).1 (b.yes refl));
  }
  given_place hd e g false b = record { size = refl; by = λ done h. note_clash s table done h n (pow (given n)) (λ z. cc) never }
    where
      never : Says s n (get_or table n 0) (pow (given n)) → ⊥
      never (by_mark y f) = g.1 y
      never (by_place p' q' y l' a') =
          let z : suc p' ≡ suc e = sym y ∙ g.0 in
          let w : p' ≡ e = omega arith in
          b.not refl q' (subst (λ (i : ℕ). TypeAt s i q' (pow (given n))) w a')
