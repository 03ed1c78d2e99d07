-- What the first byte of a type says of the type that stands there; the ways out of `to_expression`.
use mathlib.Core.Path.{◌≡◌, refl, sym, ap, ap₂, ◌∙◌, subst}
use mathlib.Core.List.{List, [], ◌∷◌, ◌++◌, append_assoc, append-nil}
use Prim.Native.Nat.{ℕ, suc, ◌+◌, ◌≤◌, ◌<◌}
use native.Mathlib.Omega.{arith}
use lib.ListN.{length, get_or, length-append}
use Rattle.frame.specs.Types.{Ty, bool, int, given, pow, prod}
use Rattle.frame.specs.Tags.{lookup, class_of, form_at}
use Rattle.frame.specs.Encoding.{enc_number, enc_ty, enc_tys, enc_head, enc, encs}
use Rattle.frame.specs.Spans.{Spans}
use Rattle.frame.proofs.Spans.{span_first, span_left, span_right}
use Rattle.frame.proofs.Numbers.{number_length}
use Rattle.frame.proofs.ReadTypes.{ty_long}
use Rattle.typing.specs.TypeExpression.{to_expression}
use Rattle.put.specs.Out.{Puts}
use Rattle.put.specs.Copied.{between}
use Rattle.put.specs.Written.{TypeAt, HasType, TypeEnd, Expressed, given_bytes}
use Rattle.std.proofs.Common.{Option}
use Rattle.put.proofs.Puts.{puts_then, puts_as, between_span}

-- the first byte of a type
abbrev pub lead : Ty → ℕ
lead bool = 0
lead int = 1
lead (given n) = 2
lead (pow t) = 3
lead (prod t u) = 4

module _ {s : List ℕ} {at : ℕ} where
  pub lead_is : (t : Ty) → TypeAt s at t → (get_or s at 0 ≡ lead t) × (at < length s)
  unfolding enc_ty
  lead_is bool h = ((span_first h).byte, (span_first h).within)
  lead_is int h = ((span_first h).byte, (span_first h).within)
  lead_is (given n) h = ((span_first h).byte, (span_first h).within)
  lead_is (pow t) h = ((span_first h).byte, (span_first h).within)
  lead_is (prod t u) h = ((span_first h).byte, (span_first h).within)

pub type_within : (s : List ℕ) (at : ℕ) → HasType s at → at < length s
type_within s at h = (lead_is h.0 h.1).1

-- its first byte is one of five
pub lead_most : (s : List ℕ) (at : ℕ) → HasType s at → get_or s at 0 ≤ 4
lead_most s at h = omega (arith, (lead_is h.0 h.1).0, most h.0)
  where
    most : (t : Ty) → lead t ≤ 4
    most bool = omega arith
    most int = omega arith
    most (given n) = omega arith
    most (pow t) = omega arith
    most (prod t u) = omega arith

-- a type is not empty, and ends in the bytes
pub type_past : (s : List ℕ) (at q : ℕ) → HasType s at → TypeEnd s at q → (at < q) × (q ≤ length s)
type_past s at q h e =
    let z = e.end h.0 h.1 in
    (omega (arith, ty_long h.0), omega (arith, h.1.within))

-- what stands there ends where its length says
pub type_at : {s : List ℕ} {at p : ℕ} (t : Ty) → Spans s at p (enc_ty t) → TypeAt s at t
type_at {s} {at} {p} t h = subst (λ (q : ℕ). Spans s at q (enc_ty t)) (sym h.long) h

-- ---- the type by its first byte
pub record PowView (s : List ℕ) (at : ℕ) (t : Ty) : Type 0 where
  pub under : Ty
  pub is : t ≡ pow under
  pub below : TypeAt s (at + 1) under

pub record ProdView (s : List ℕ) (at : ℕ) (t : Ty) : Type 0 where
  pub first : Ty
  pub second : Ty
  pub is : t ≡ prod first second
  pub left : TypeAt s (at + 1) first
  pub right : TypeAt s (at + 1 + length (enc_ty first)) second

pub record GivenView (s : List ℕ) (at : ℕ) (t : Ty) : Type 0 where
  pub number : ℕ
  pub is : t ≡ given number
  pub within : at + 3 ≤ length s
  pub digits : between s (at + 1) (at + 3) ≡ enc_number 2 number
  pub all : between s at (at + 3) ≡ enc_ty (given number)

module _ (s : List ℕ) (at : ℕ) where
  pub pow_view : (t : Ty) → TypeAt s at t → get_or s at 0 ≡ 3 → PowView s at t
  unfolding enc_ty
  pow_view bool h e = absurd (omega (arith, (lead_is bool h).0))
  pow_view int h e = absurd (omega (arith, (lead_is int h).0))
  pow_view (given n) h e = absurd (omega (arith, (lead_is (given n) h).0))
  pow_view (pow t) h e = record { under = t; is = refl; below = type_at t (span_first h).rest }
  pow_view (prod t u) h e = absurd (omega (arith, (lead_is (prod t u) h).0))

  pub prod_view : (t : Ty) → TypeAt s at t → get_or s at 0 ≡ 4 → ProdView s at t
  unfolding enc_ty
  prod_view bool h e = absurd (omega (arith, (lead_is bool h).0))
  prod_view int h e = absurd (omega (arith, (lead_is int h).0))
  prod_view (given n) h e = absurd (omega (arith, (lead_is (given n) h).0))
  prod_view (pow t) h e = absurd (omega (arith, (lead_is (pow t) h).0))
  prod_view (prod t u) h e =
      let r = (span_first h).rest in
      record {
        first = t;
        second = u;
        is = refl;
        left = span_left (enc_ty t) (enc_ty u) r;
        right = type_at u (span_right (enc_ty t) (enc_ty u) r);
      }

  given_bytes_lem : (n : ℕ) → TypeAt s at (given n) → GivenView s at (given n)
  unfolding enc_ty
  given_bytes_lem n h =
      let l : length (enc_number 2 n) ≡ 2 = number_length 2 n in
      let r = (span_first h).rest in
      let z : at + length (enc_ty (given n)) ≡ at + 3 = omega arith in
      record {
        number = n;
        is = refl;
        within = omega (arith, h.within);
        digits = between_span s (at + 1) (at + 3) (enc_number 2 n) (subst (λ (q : ℕ). Spans s (at + 1) q (enc_number 2 n)) z r);
        all = between_span s at (at + 3) (enc_ty (given n)) (subst (λ (q : ℕ). Spans s at q (enc_ty (given n))) z h);
      }

  pub given_view : (t : Ty) → TypeAt s at t → get_or s at 0 ≡ 2 → GivenView s at t
  given_view bool h e = absurd (omega (arith, (lead_is bool h).0))
  given_view int h e = absurd (omega (arith, (lead_is int h).0))
  given_view (given n) h e = given_bytes_lem n h
  given_view (pow t) h e = absurd (omega (arith, (lead_is (pow t) h).0))
  given_view (prod t u) h e = absurd (omega (arith, (lead_is (prod t u) h).0))

  bool_is : (t : Ty) → TypeAt s at t → get_or s at 0 ≡ 0 → t ≡ bool
  bool_is bool h e = refl
  bool_is int h e = absurd (omega (arith, (lead_is int h).0))
  bool_is (given n) h e = absurd (omega (arith, (lead_is (given n) h).0))
  bool_is (pow t) h e = absurd (omega (arith, (lead_is (pow t) h).0))
  bool_is (prod t u) h e = absurd (omega (arith, (lead_is (prod t u) h).0))

  int_is : (t : Ty) → TypeAt s at t → get_or s at 0 ≡ 1 → t ≡ int
  int_is bool h e = absurd (omega (arith, (lead_is bool h).0))
  int_is int h e = refl
  int_is (given n) h e = absurd (omega (arith, (lead_is (given n) h).0))
  int_is (pow t) h e = absurd (omega (arith, (lead_is (pow t) h).0))
  int_is (prod t u) h e = absurd (omega (arith, (lead_is (prod t u) h).0))

  -- ---- what stands further on
  pub has_pow : HasType s at → get_or s at 0 ≡ 3 → HasType s (at + 1)
  has_pow h e = let v = pow_view h.0 h.1 e in (v.under, v.below)

  pub has_left : HasType s at → get_or s at 0 ≡ 4 → HasType s (at + 1)
  has_left h e = let v = prod_view h.0 h.1 e in (v.first, v.left)

  pub has_right : (p : ℕ) → HasType s at → get_or s at 0 ≡ 4 → TypeEnd s (at + 1) p → HasType s p
  has_right p h e l =
      let v = prod_view h.0 h.1 e in
      (v.second, subst (λ (q : ℕ). TypeAt s q v.second) (sym (l.end v.first v.left)) v.right)

  -- the call that comes second is nearer to the end
  pub right_further : (p : ℕ) → HasType s at → get_or s at 0 ≡ 4 → TypeEnd s (at + 1) p → (at < p) × (p ≤ length s)
  right_further p h e l = let f = type_past s (at + 1) p (has_left h e) l in (omega arith, f.1)

  pub given_within : HasType s at → get_or s at 0 ≡ 2 → at + 3 ≤ length s
  given_within h e = (given_view h.0 h.1 e).within

  -- ---- where a type ends
  leaf_length : (t : Ty) → TypeAt s at t → (get_or s at 0 ≡ 2 → ⊥) → (get_or s at 0 ≡ 3 → ⊥) → (get_or s at 0 ≡ 4 → ⊥) → at + 1 ≡ at + length (enc_ty t)
  unfolding enc_ty
  leaf_length bool h a b c = refl
  leaf_length int h a b c = refl
  leaf_length (given n) h a b c = absurd (a (lead_is (given n) h).0)
  leaf_length (pow t) h a b c = absurd (b (lead_is (pow t) h).0)
  leaf_length (prod t u) h a b c = absurd (c (lead_is (prod t u) h).0)

  pub end_leaf : (get_or s at 0 ≡ 2 → ⊥) → (get_or s at 0 ≡ 3 → ⊥) → (get_or s at 0 ≡ 4 → ⊥) → TypeEnd s at (at + 1)
  end_leaf a b c = record { end = λ t h. leaf_length t h a b c }

  given_length : (n : ℕ) → length (enc_ty (given n)) ≡ 3
  unfolding enc_ty
  given_length n = ap suc (number_length 2 n)

  pow_length : (t : Ty) → length (enc_ty (pow t)) ≡ suc (length (enc_ty t))
  unfolding enc_ty
  pow_length t = refl

  prod_length : (t u : Ty) → length (enc_ty (prod t u)) ≡ suc (length (enc_ty t) + length (enc_ty u))
  unfolding enc_ty
  prod_length t u = ap suc (length-append (enc_ty t) (enc_ty u))

  pub end_given : get_or s at 0 ≡ 2 → TypeEnd s at (at + 3)
  end_given e = record {
    end = λ t h. (let v = given_view t h e in omega (arith, ap (λ (u : Ty). length (enc_ty u)) v.is, given_length v.number));
  }

  pub end_pow : (q : ℕ) → get_or s at 0 ≡ 3 → TypeEnd s (at + 1) q → TypeEnd s at q
  end_pow q e l = record {
    end = λ t h. (let v = pow_view t h e in
        omega (arith, ap (λ (u : Ty). length (enc_ty u)) v.is, pow_length v.under, l.end v.under v.below));
  }

  pub end_prod : (p q : ℕ) → get_or s at 0 ≡ 4 → TypeEnd s (at + 1) p → TypeEnd s p q → TypeEnd s at q
  end_prod p q e l r = record {
    end = λ t h. (let v = prod_view t h e in
        let z = l.end v.first v.left in
        let y = r.end v.second (subst (λ (i : ℕ). TypeAt s i v.second) (sym z) v.right) in
        omega (arith, ap (λ (u : Ty). length (enc_ty u)) v.is, prod_length v.first v.second));
  }

-- ---- the bytes of a type's expression
bool_bytes : enc_number 2 404 ≡ enc (to_expression bool)
unfolding enc_number enc encs enc_head enc_tys to_expression lookup class_of form_at
bool_bytes = refl

int_bytes : enc_number 2 401 ≡ enc (to_expression int)
unfolding enc_number enc encs enc_head enc_tys to_expression lookup class_of form_at
int_bytes = refl

given_expression_bytes : (n : ℕ) → ((enc_number 2 1 ++ enc_number 2 n) ++ (3 ∷ [])) ++ enc_ty (given n) ≡ enc (to_expression (given n))
unfolding enc_number enc encs enc_head enc_tys enc_ty to_expression lookup class_of form_at
given_expression_bytes n = simp (append_assoc, append-nil)

pub pow_bytes : (t : Ty) → enc_number 2 752 ++ enc (to_expression t) ≡ enc (to_expression (pow t))
unfolding enc_number enc encs enc_head enc_tys to_expression lookup class_of form_at
pow_bytes t = simp append-nil

prod_bytes : (t u : Ty) → (enc_number 2 214 ++ enc (to_expression t)) ++ enc (to_expression u) ≡ enc (to_expression (prod t u))
unfolding enc_number enc encs enc_head enc_tys to_expression lookup class_of form_at
prod_bytes t u = simp (append_assoc, append-nil)

-- ---- the ways out of `to_expression`
abbrev expressed : Ty → List ℕ
expressed t = enc (to_expression t)

module _ (s : List ℕ) (at : ℕ) (o : Option (List ℕ)) where
  pub write_bool : (p : Option (List ℕ)) → get_or s at 0 ≡ 0 → Puts o p (enc_number 2 404) → Expressed s at o p (at + 1)
  write_bool p e w = record {
    end = end_leaf s at (λ a. omega arith) (λ a. omega arith) (λ a. omega arith);
    puts = λ t h. puts_as o p _ _ (bool_bytes ∙ ap expressed (sym (bool_is s at t h e))) w;
  }

  pub write_int : (p : Option (List ℕ)) → get_or s at 0 ≡ 1 → Puts o p (enc_number 2 401) → Expressed s at o p (at + 1)
  write_int p e w = record {
    end = end_leaf s at (λ a. omega arith) (λ a. omega arith) (λ a. omega arith);
    puts = λ t h. puts_as o p _ _ (int_bytes ∙ ap expressed (sym (int_is s at t h e))) w;
  }

  pub write_given : (p : Option (List ℕ)) → get_or s at 0 ≡ 2 → Puts o p (given_bytes s at) → Expressed s at o p (at + 3)
  write_given p e w = record {
    end = end_given s at e;
    puts = λ t h. (let v = given_view s at t h e in
        puts_as o p _ _
        (ap₂ (λ (ds all : List ℕ). ((enc_number 2 1 ++ ds) ++ (3 ∷ [])) ++ all) v.digits v.all
        ∙ given_expression_bytes v.number
        ∙ ap expressed (sym v.is)) w);
  }

  pub write_pow : (p q : Option (List ℕ)) (r : ℕ) → get_or s at 0 ≡ 3 → Puts o p (enc_number 2 752) → Expressed s (at + 1) p q r
      → Expressed s at o q r
  write_pow p q r e w x = record {
    end = end_pow s at r e x.end;
    puts = λ t h. (let v = pow_view s at t h e in
        puts_as o q _ _ (pow_bytes v.under ∙ ap expressed (sym v.is)) (puts_then o p q _ _ w (x.puts v.under v.below)));
  }

  pub write_prod : (p q z : Option (List ℕ)) (l r : ℕ) → get_or s at 0 ≡ 4 → Puts o p (enc_number 2 214) → Expressed s (at + 1) p q l
      → Expressed s l q z r → Expressed s at o z r
  write_prod p q z l r e w x y = record {
    end = end_prod s at l r e x.end y.end;
    puts = λ t h. (let v = prod_view s at t h e in
        let i = x.end.end v.first v.left in
        puts_as o z _ _ (prod_bytes v.first v.second ∙ ap expressed (sym v.is))
        (puts_then o q z _ _ (puts_then o p q _ _ w (x.puts v.first v.left))
        (y.puts v.second (subst (λ (k : ℕ). TypeAt s k v.second) (sym i) v.right))));
  }
