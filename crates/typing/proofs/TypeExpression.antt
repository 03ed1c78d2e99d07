-- A type's expression stands for the whole type, and is accepted.
-- Main results: express_type (it has the power of that type), type_expression (and is accepted).
use mathlib.Core.Path.{◌≡◌, refl, sym, ap}
use mathlib.Core.List.{[], ◌∷◌}
use Prim.Native.Nat.{ℕ, ◌≤◌, ◌<◌}
use native.Mathlib.Omega.{arith}
use lib.ListN.{length, length-append}
use Rattle.frame.specs.Types.{Ty, bool, int, given, pow, prod}
use Rattle.frame.specs.Trees.{head, Tree, node, nil, cons}
use Rattle.frame.specs.Tags.{expression, class_of, lookup, form_at}
use Rattle.frame.specs.Encoding.{enc_ty, enc_number}
use Rattle.frame.specs.Places.{Ctx}
use Rattle.frame.specs.WellFormed.{HeadWf}
use Rattle.typing.specs.Typing.{type_of}
use Rattle.typing.specs.TypeExpression.{to_expression}
use Rattle.typing.specs.Accepted.{TyOk, Accepted}

pub express_type : (t : Ty) (Γ : Ctx) → type_of (to_expression t) Γ ≡ pow t
unfolding to_expression type_of class_of lookup form_at
express_type bool Γ = refl
express_type int Γ = refl
express_type (given n) Γ = refl
express_type (pow t) Γ = ap pow (express_type t Γ)
express_type (prod t u) Γ = rw (express_type t Γ, express_type u Γ)

-- the bytes of the parts of a type that has few
pub short_pow : (t : Ty) → length (enc_ty (pow (pow t))) ≤ 64 → length (enc_ty (pow t)) ≤ 64
unfolding enc_ty
short_pow t h = omega arith

pub short_left : (t u : Ty) → length (enc_ty (pow (prod t u))) ≤ 64 → length (enc_ty (pow t)) ≤ 64
unfolding enc_ty
short_left t u h = omega (arith, length-append (enc_ty t) (enc_ty u))

pub short_right : (t u : Ty) → length (enc_ty (pow (prod t u))) ≤ 64 → length (enc_ty (pow u)) ≤ 64
unfolding enc_ty
short_right t u h = omega (arith, length-append (enc_ty t) (enc_ty u))

-- a head with no type of its own, at a numeral
abbrev Formed : ℕ → ℕ → Type 0
Formed g k = HeadWf expression g 0 [] k

form_404 : Formed 404 0
unfolding class_of lookup form_at
form_404 = record { small = omega arith; listed = refl; sort = refl; fits = omega arith; own = refl; range = refl; many = refl; types = tt }

form_401 : Formed 401 0
unfolding class_of lookup form_at
form_401 = record { small = omega arith; listed = refl; sort = refl; fits = omega arith; own = refl; range = refl; many = refl; types = tt }

form_752 : Formed 752 1
unfolding class_of lookup form_at
form_752 = record { small = omega arith; listed = refl; sort = refl; fits = omega arith; own = refl; range = refl; many = refl; types = tt }

form_214 : Formed 214 2
unfolding class_of lookup form_at
form_214 = record { small = omega arith; listed = refl; sort = refl; fits = omega arith; own = refl; range = refl; many = refl; types = tt }

form_1 : (n : ℕ) → n < 65536 → HeadWf expression 1 n (pow (given n) ∷ []) 0
unfolding class_of lookup form_at enc_ty enc_number
form_1 n h = record { small = omega arith; listed = refl; sort = refl; fits = h; own = refl; range = refl; many = refl; types = (h, omega arith, tt) }

module _ (σ : ℕ → Ty) (Γ : Ctx) where
  -- an expression that has the power of a type, and is accepted
  abbrev Expresses : Tree → Ty → Type 0
  Expresses a t = (type_of a Γ ≡ pow t) × Accepted σ a Γ expression

  of_bool : Expresses (to_expression bool) bool
  unfolding to_expression type_of Accepted class_of lookup form_at enc_ty
  of_bool = (
    refl,
    record {
      top = record { formed = form_404; indexed = refl; named = tt; types = tt; shaped = refl };
      fits = refl;
      short = omega arith;
      kids = tt;
    },
  )

  of_int : Expresses (to_expression int) int
  unfolding to_expression type_of Accepted class_of lookup form_at enc_ty
  of_int = (
    refl,
    record {
      top = record { formed = form_401; indexed = refl; named = tt; types = tt; shaped = refl };
      fits = refl;
      short = omega arith;
      kids = tt;
    },
  )

  of_given : (n : ℕ) → TyOk σ (given n) → Expresses (to_expression (given n)) (given n)
  unfolding to_expression type_of Accepted class_of lookup form_at enc_ty enc_number
  of_given n h = (
    refl,
    record {
      top = record { formed = form_1 n h.0; indexed = refl; named = sym h.1; types = (h, tt); shaped = refl };
      fits = refl;
      short = omega arith;
      kids = tt;
    },
  )

  of_pow : (a : Tree) (t : Ty) → length (enc_ty (pow (pow t))) ≤ 64 → Expresses a t → Expresses (node (head 752 0 []) (cons a nil)) (pow t)
  unfolding type_of Accepted class_of lookup form_at
  of_pow a t h w =
      let e : type_of a Γ ≡ pow t = w.0 in (
        ap pow e,
        record {
          top = record { formed = form_752; indexed = refl; named = tt; types = tt; shaped = refl };
          fits = rw e;
          short = rw
              e h;
          kids = (w.1, tt);
        },
      )

  of_prod : (a b : Tree) (t u : Ty) → length (enc_ty (pow (prod t u))) ≤ 64 → Expresses a t → Expresses b u
      → Expresses (node (head 214 0 []) (cons a (cons b nil))) (prod t u)
  unfolding type_of Accepted class_of lookup form_at
  of_prod a b t u h w v =
      let e : type_of a Γ ≡ pow t = w.0 in
      let f : type_of b Γ ≡ pow u = v.0 in (
        rw (e, f),
        record {
          top = record { formed = form_214; indexed = refl; named = tt; types = tt; shaped = refl };
          fits = rw
              (e, f);
          short = rw (e, f) h;
          kids = (w.1, (v.1, tt));
        },
      )

pub type_expression : (σ : ℕ → Ty) (t : Ty) (Γ : Ctx) → TyOk σ t → length (enc_ty (pow t)) ≤ 64
    → (type_of (to_expression t) Γ ≡ pow t) × Accepted σ (to_expression t) Γ expression
unfolding to_expression
type_expression σ bool Γ h l = of_bool σ Γ
type_expression σ int Γ h l = of_int σ Γ
type_expression σ (given n) Γ h l = of_given σ Γ n h
type_expression σ (pow t) Γ h l = of_pow σ Γ (to_expression t) t l (type_expression σ t Γ h (short_pow t l))
type_expression σ (prod t u) Γ h l =
    of_prod σ Γ (to_expression t) (to_expression u) t u l (type_expression σ t Γ h.0 (short_left t u l))
    (type_expression σ u Γ h.1 (short_right t u l))
