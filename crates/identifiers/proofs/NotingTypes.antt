-- The given sets in types, noted from left to right: the loop of note_types and its ways out.
-- Main results: the laws of Going, the loop's invariant.
use Rattle.frame.proofs.ReadTypes.{tys_long}
use mathlib.Core.Path.{◌≡◌, refl, sym, ap, ◌∙◌, subst}
use mathlib.Core.Bool.{Bool, true, false}
use mathlib.Core.List.{List, [], ◌∷◌, append_assoc}
use Prim.Native.Nat.{ℕ, ◌+◌, ◌-◌, ◌≤◌, ◌<◌}
use native.Mathlib.Omega.{arith}
use lib.ListN.{length, get_or}
use lib.Dec.{eqb}
use Rattle.std.proofs.Common.{Result, Ok, Err}
use Rattle.frame.specs.Types.{Ty, bool, int, given, pow, prod}
use Rattle.frame.specs.Tags.{pick}
use Rattle.frame.specs.Reading.{number_at}
use Rattle.frame.specs.Encoding.{enc_ty, enc_tys}
use Rattle.frame.proofs.Spans.{span_first}
use Rattle.frame.proofs.Numbers.{number_back}
use Rattle.frame.specs.WellFormed.{TyWf}
use Rattle.heads.specs.HeadPost.{lead_of, parts_of}
use Rattle.heads.proofs.KnownTurns.{after_first, after_first_lem}
use Rattle.typing.specs.Members.{All}
use Rattle.typing.specs.Identifiers.{Named, named, givens_ty, givens_tys}
use Rattle.claims.specs.Table.{Held, GivenPost}
use Rattle.identifiers.specs.declared.Stop.{Stop}
use Rattle.identifiers.specs.declared.Stop.TheVariants.{Clashed, Beyond}
use Rattle.identifiers.specs.Claims.{powers, TypesAt, NotedTo, TypesPost}
use Rattle.identifiers.proofs.NotedClaims.{
  noted_nil,
  noted_then,
  noted_early,
  noted_true,
  held_then,
  unlisted_then,
  unlisted_early,
  unlisted_one,
}

-- ---- types in a row
abbrev pub Some : List ℕ → ℕ → ℕ → Type 0
Some s at m = (us : List Ty) × (q : ℕ) × TypesAt s at m us q

pub some_room : (s : List ℕ) (at m : ℕ) → Some s at m → at + m ≤ length s
some_room s at m h = let a = h.2 in let x = a.span.long in let y = a.span.within in let z = a.many in omega (arith, tys_long h.0)

-- What the first byte of some types says of them: a given set with its number, or another type, whose parts have its given sets.
-- The types that are left behind it are n, and stand from `to` on.
data Step (s : List ℕ) (at : ℕ) (us : List Ty) (q to n : ℕ) : Type 0 where
  given_first : (k : ℕ) (rest : List Ty) → us ≡ given k ∷ rest → get_or s at 0 ≡ 2 → number_at 2 s (at + 1) ≡ k → k < 65536
      → at + 3 ≤ length s → TypesAt s to n rest q → Step s at us q to n
  other_first : givens_tys (after_first us) ≡ givens_tys us → (get_or s at 0 ≡ 2 → ⊥) → TypesAt s to n (after_first us) q → Step s at us q to n

module _ (s : List ℕ) (at m : ℕ) (z : m ≡ 0 → ⊥) (to n : ℕ) (et : to ≡ at + lead_of (get_or s at 0)) (en : n ≡ m - 1 + parts_of (get_or s at 0))
  where
    behind : (us : List Ty) (q : ℕ) → TypesAt s at m us q → All TyWf (after_first us) → TypesAt s to n (after_first us) q
    behind us q a w = let x = after_first_lem s at m z to n et en us q a.many a.span in record { span = x.1; wf = w; many = x.0 }

    step : (us : List Ty) (q : ℕ) → TypesAt s at m us q → Step s at us q to n
    unfolding enc_tys enc_ty givens_tys givens_ty
    step [] q a = absurd (z (sym a.many))
    step (bool ∷ us) q a =
        let c = (span_first a.span).byte in
        other_first refl (omega arith) (behind (bool ∷ us) q a a.wf.1)
    step (int ∷ us) q a =
        let c = (span_first a.span).byte in
        other_first refl (omega arith) (behind (int ∷ us) q a a.wf.1)
    step (given k ∷ us) q a =
        let b = span_first a.span in
        let e = number_back 2 s (at + 1) q k (enc_tys us) a.wf.0 b.rest in
        given_first k us refl b.byte e.number a.wf.0 (omega (arith, e.within)) (behind (given k ∷ us) q a a.wf.1)
    step (pow t ∷ us) q a =
        let c = (span_first a.span).byte in
        other_first refl (omega arith) (behind (pow t ∷ us) q a (a.wf.0, a.wf.1))
    step (prod t u ∷ us) q a =
        let c = (span_first a.span).byte in
        other_first (sym (append_assoc (givens_ty t) (givens_ty u) (givens_tys us))) (omega arith)
        (behind (prod t u ∷ us) q a (a.wf.0.0, (a.wf.0.1, a.wf.1)))

    onward : Some s at m → Some s to n
    onward h = go (step h.0 h.1 h.2)
      where
        go : Step s at h.0 h.1 to n → Some s to n
        go (given_first k rest e b x w r a) = (rest, h.1, a)
        go (other_first e b a) = (after_first h.0, h.1, a)

-- ---- the ways out
module _ (s t₀ t₁ : List ℕ) (n : ℕ) (us : List Ty) (q : ℕ) where
  abbrev with_given : List Named
  with_given = powers (givens_tys (given n ∷ us))

  answer_given : (t₂ : List ℕ) → GivenPost s n t₀ t₁ true → (r : Result ℕ Stop) → NotedTo s t₁ t₂ (powers (givens_tys us)) q r
      → NotedTo s t₀ t₂ with_given q r
  unfolding powers givens_tys givens_ty
  answer_given t₂ g (Ok p) a = (a.0, noted_then s t₀ t₁ t₂ (powers (n ∷ [])) (powers (givens_tys us)) true g a.1)
  answer_given t₂ g (Err Clashed) a = noted_then s t₀ t₁ t₂ (powers (n ∷ [])) (powers (givens_tys us)) false g a
  answer_given t₂ g (Err Beyond) a = unlisted_then t₀ t₁ (powers (n ∷ [])) (powers (givens_tys us)) g.size a

  clash_given : GivenPost s n t₀ t₁ false → NotedTo s t₀ t₁ with_given q (Err Clashed)
  unfolding powers givens_tys givens_ty
  clash_given g = noted_early s t₀ t₁ (powers (n ∷ [])) (powers (givens_tys us)) g

  past_given : length t₀ ≤ n → n < 65536 → NotedTo s t₀ t₁ with_given q (Err Beyond)
  unfolding powers givens_tys givens_ty
  past_given l w = unlisted_early t₀ (powers (n ∷ [])) (powers (givens_tys us)) (unlisted_one t₀ t₀ n (pow (given n)) refl l w)

module _ (s : List ℕ) (at m : ℕ) (t₀ : List ℕ) where
  types_end : m ≡ 0 → TypesPost s at m t₀ t₀ (Ok at)
  unfolding enc_tys givens_tys powers
  types_end z = record { by = go }
    where
      go : (us : List Ty) (q : ℕ) → TypesAt s at m us q → NotedTo s t₀ t₀ (powers (givens_tys us)) q (Ok at)
      go [] q a = (omega (arith, a.span.long), noted_nil s t₀)
      go (u ∷ us) q a = absurd (omega (arith, a.many))

  module _ (z : m ≡ 0 → ⊥) (to n : ℕ) (et : to ≡ at + lead_of (get_or s at 0)) (en : n ≡ m - 1 + parts_of (get_or s at 0)) where
    module _ (t₂ : List ℕ) (r : Result ℕ Stop) where
      -- by the given set that comes first
      by_given : get_or s at 0 ≡ 2 → ((k : ℕ) (rest : List Ty) (q : ℕ) → number_at 2 s (at + 1) ≡ k → k < 65536 → TypesAt s to n rest q
          → NotedTo s t₀ t₂ (powers (givens_tys (given k ∷ rest))) q r) → TypesPost s at m t₀ t₂ r
      by_given b f = record { by = λ us q a. go us q (step s at m z to n et en us q a) }
        where
          go : (us : List Ty) (q : ℕ) → Step s at us q to n → NotedTo s t₀ t₂ (powers (givens_tys us)) q r
          go us q (given_first k rest e c x w o a) =
              subst (λ (l : List Ty). NotedTo s t₀ t₂ (powers (givens_tys l)) q r) (sym e) (f k rest q x w a)
          go us q (other_first e c a) = absurd (c b)

      given_back : get_or s at 0 ≡ 2 → (k : ℕ) → k ≡ number_at 2 s (at + 1) → (t₁ : List ℕ) → GivenPost s k t₀ t₁ true
          → TypesPost s to n t₁ t₂ r → TypesPost s at m t₀ t₂ r
      given_back b k ek t₁ g p = by_given b (λ i rest q x w a.
          answer_given s t₀ t₁ i rest q t₂ (subst (λ (j : ℕ). GivenPost s j t₀ t₁ true) (ek ∙ x) g) r (p.by rest q a))

      other_back : (get_or s at 0 ≡ 2 → ⊥) → TypesPost s to n t₀ t₂ r → TypesPost s at m t₀ t₂ r
      other_back b p = record { by = λ us q a. go us q (step s at m z to n et en us q a) }
        where
          go : (us : List Ty) (q : ℕ) → Step s at us q to n → NotedTo s t₀ t₂ (powers (givens_tys us)) q r
          go us q (given_first k rest e c x w o a) = absurd (b c)
          go us q (other_first e c a) = subst (λ (l : List ℕ). NotedTo s t₀ t₂ (powers l) q r) e (p.by (after_first us) q a)

-- ---- the loop: what is left, and what its end says of all
pub record Going (s : List ℕ) (at m : ℕ) (t₀ : List ℕ) (p left : ℕ) (t₁ : List ℕ) : Type 0 where
  pub held : Held s t₁
  pub size : length t₁ ≡ length t₀
  pub some : Some s p left
  pub back : (t₂ : List ℕ) (r : Result ℕ Stop) → TypesPost s p left t₁ t₂ r → TypesPost s at m t₀ t₂ r

module _ (s : List ℕ) (at m : ℕ) (t₀ : List ℕ) where
  module _ (p left : ℕ) (t₁ : List ℕ) (g : Going s at m t₀ p left t₁) where
    pub going_done : left ≡ 0 → TypesPost s at m t₀ t₁ (Ok p)
    going_done z = g.back t₁ (Ok p) (types_end s p left t₁ z)

    pub going_room : p + left ≤ length s
    going_room = some_room s p left g.some

    module _ (z : left ≡ 0 → ⊥) where
      pub going_number : get_or s p 0 ≡ 2 → (p + 3 ≤ length s) × (number_at 2 s (p + 1) < 65536)
      going_number b = let h = g.some in go h.0 h.1 (step s p left z (p + lead_of (get_or s p 0))
          (left - 1 + parts_of (get_or s p 0)) refl refl h.0 h.1 h.2)
        where
          go : (us : List Ty) (q : ℕ) → Step s p us q (p + lead_of (get_or s p 0)) (left - 1 + parts_of (get_or s p 0))
              → (p + 3 ≤ length s) × (number_at 2 s (p + 1) < 65536)
          go us q (given_first k rest e c x w o a) = (o, omega arith)
          go us q (other_first e c a) = absurd (c b)

      module _ (b : get_or s p 0 ≡ 2) (k : ℕ) (ek : k ≡ number_at 2 s (p + 1)) where
        pub going_beyond : length t₁ ≤ k → TypesPost s at m t₀ t₁ (Err Beyond)
        going_beyond l = g.back t₁ (Err Beyond) (by_given s p left t₁ z _ _ refl refl t₁ (Err Beyond) b
            (λ i rest q x w a. past_given s t₁ t₁ i rest q (omega (arith, ek ∙ x)) w))

        pub going_clash : (t₂ : List ℕ) (fits : Bool) → GivenPost s k t₁ t₂ fits → fits ≡ false → TypesPost s at m t₀ t₂ (Err Clashed)
        going_clash t₂ fits o e = g.back t₂ (Err Clashed) (by_given s p left t₁ z _ _ refl refl t₂ (Err Clashed) b
            (λ i rest q x w a. clash_given s t₁ t₂ i rest q (subst (λ (j : ℕ). GivenPost s j t₁ t₂ false) (ek ∙ x)
            (subst (λ (f : Bool). GivenPost s k t₁ t₂ f) e o))))

      module _ (step parts : ℕ) (es : step ≡ lead_of (get_or s p 0)) (ep : parts ≡ parts_of (get_or s p 0)) where
        to_is : p + step ≡ p + lead_of (get_or s p 0)
        to_is = ap (λ (i : ℕ). p + i) es

        left_is : left - 1 + parts ≡ left - 1 + parts_of (get_or s p 0)
        left_is = ap (λ (i : ℕ). left - 1 + i) ep

        pub going_forward : 0 < step
        going_forward = some_lead (eqb (get_or s p 0) 2) es
          where
            some_lead : (b : Bool) → step ≡ pick b 3 1 → 0 < step
            some_lead true e = omega arith
            some_lead false e = omega arith

        pub going_further : p + step + (left - 1 + parts) ≤ length s
        going_further = some_room s (p + step) (left - 1 + parts) (onward s p left z (p + step) (left - 1 + parts) to_is left_is g.some)

        pub going_other : (get_or s p 0 ≡ 2 → ⊥) → (t₂ : List ℕ) → t₂ ≡ t₁ → Going s at m t₀ (p + step) (left - 1 + parts) t₂
        going_other b t₂ et = subst (Going s at m t₀ (p + step) (left - 1 + parts)) (sym et) record {
          held = g.held;
          size = g.size;
          some = onward s p left z (p + step) (left - 1 + parts) to_is left_is g.some;
          back = λ t₃ r x. g.back t₃ r (other_back s p left t₁ z (p + step) (left - 1 + parts) to_is left_is t₃ r b x);
        }

        pub going_given : get_or s p 0 ≡ 2 → (k : ℕ) → k ≡ number_at 2 s (p + 1) → (t₂ : List ℕ) (fits : Bool) → GivenPost s k t₁ t₂ fits
            → fits ≡ true → (t₃ : List ℕ) → t₃ ≡ t₂ → Going s at m t₀ (p + step) (left - 1 + parts) t₃
        going_given b k ek t₂ fits o e t₃ et =
            let n = noted_true s t₁ t₂ (named k (pow (given k)) ∷ []) fits o e in
            subst (Going s at m t₀ (p + step) (left - 1 + parts)) (sym et) record {
              held = held_then s t₁ t₂ (named k (pow (given k)) ∷ []) g.held n;
              size = n.size ∙ g.size;
              some = onward s p left z (p + step) (left - 1 + parts) to_is left_is g.some;
              back = λ t₃ r x. g.back t₃ r (given_back s p left t₁ z (p + step) (left - 1 + parts) to_is left_is t₃ r b k ek t₂ n x);
            }
