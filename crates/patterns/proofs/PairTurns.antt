-- The ways out of `match_pairs`.
-- Main results: env_empty, pairs_none, pairs_last, pairs_differ, pairs_more; the laws of Going, the loop's invariant.
use Rattle.frame.proofs.ReadTypes.{ty_long}
use mathlib.Core.Path.{◌≡◌, refl, sym, subst}
use mathlib.Core.Bool.{Bool, true, false, ◌&&◌}
use mathlib.Core.List.{List, [], ◌∷◌}
use Prim.Native.Nat.{ℕ, ◌+◌, ◌≤◌, ◌<◌}
use native.Mathlib.Omega.{arith}
use lib.ListN.{length}
use Rattle.std.proofs.Common.{Option, Some, None}
use Rattle.frame.specs.Types.{Ty}
use Rattle.frame.specs.Encoding.{enc_ty}
use Rattle.type_rules.specs.Patterns.{Matched, fits, differs, matches, is_fit, pairs_fit}
use Rattle.heads.specs.TypeEnds.{TypeAt, EndOf}
use Rattle.results.specs.ResultPosts.{EnvAt}
use Rattle.results.specs.declared.Span.{Span}
use Rattle.patterns.specs.PatternPosts.{RowAt, MatchPre, Matching, MatchPost, PairsPre, Pairing, PairsPost}
use Rattle.patterns.proofs.MatchTurns.{row_none, row_some, row_first, row_rest, row_type, by_first}

pub env_empty : (types : List ℕ) (n : ℕ) (sp : List Span) → sp ≡ [] → EnvAt types n sp []
env_empty types n sp e = subst (λ (x : List Span). EnvAt types n x []) (sym e) (record { count = refl; fit = tt; stands = λ i s h. cc })

fit_of : (m : Matched) (types : List ℕ) (n : ℕ) (sp : List Span) → Matching m types n sp (Some tt) → is_fit m ≡ true
fit_of (fits us ρ) types n sp a = refl
fit_of differs types n sp a = cc

fit_not : (m : Matched) (types : List ℕ) (n : ℕ) (sp : List Span) → Matching m types n sp None → is_fit m ≡ false
fit_not (fits us ρ) types n sp a = cc a.0
fit_not differs types n sp a = refl

module _ (ps types : List ℕ) (at n : ℕ) where
  pub pairs_none : n ≤ at → PairsPost ps types at n (Some at)
  unfolding pairs_fit
  pairs_none l =
      record {
        answer = λ us row. (let z = row_none types at n us row l in
            subst (λ (vs : List Ty). Pairing (pairs_fit ps vs) types n vs (Some at)) (sym z) (at, refl, subst (RowAt types at n) z row));
      }

  module _ (l : at < n) where
    pub pairs_type : PairsPre types at n → TypeAt types at
    pairs_type p = by_first types at n l (λ vs. TypeAt types at) (λ t vs r. row_type types at n t vs r) p.us p.row

    pub pairs_match : PairsPre types at n → (sp : List Span) → sp ≡ [] → MatchPre types at n sp
    pairs_match p sp e = record { us = p.us; ρ = []; row = p.row; env = env_empty types n sp e }

    module _ (q : ℕ) (en : EndOf types at q) where
      -- the types after the first
      after : (t : Ty) (vs : List Ty) → RowAt types at n (t ∷ vs) → RowAt types q n vs
      after t vs row =
          subst (λ (x : ℕ). RowAt types x n vs) (sym (en.is t (at + length (enc_ty t)) (row_first types at n t vs row)))
          (row_rest types at n t vs row)

      pub pairs_past : PairsPre types at n → at < q
      pairs_past p = by_first types at n l (λ vs. at < q) (λ t vs r.
          omega (arith, en.is t (at + length (enc_ty t)) (row_first types at n t vs r), ty_long t)) p.us p.row

      pub pairs_further : PairsPre types at n → PairsPre types q n
      pairs_further p = by_first types at n l (λ vs. PairsPre types q n) (λ t vs r. record { us = vs; row = after t vs r }) p.us p.row

      pub pairs_last : n ≤ q → PairsPost ps types at n (Some at)
      unfolding pairs_fit
      pairs_last h =
          record {
            answer = λ us row. by_first types at n l (λ vs. Pairing (pairs_fit ps vs) types n vs (Some at)) (λ t vs r. (
                let z = row_none types q n vs (after t vs r) h in
                subst (λ (ws : List Ty). Pairing (pairs_fit ps (t ∷ ws)) types n (t ∷ ws) (Some at)) (sym z)
                (at, refl, subst (λ (ws : List Ty). RowAt types at n (t ∷ ws)) z r))) us row;
          }

      module _ (h : q < n) where
        secondly : (X : List Ty → Type 0) → ((t u : Ty) (vs : List Ty) → RowAt types at n (t ∷ u ∷ vs) → X (t ∷ u ∷ vs)) → (us : List Ty)
            → RowAt types at n us → X us
        secondly X f us row =
            by_first types at n l X (λ t vs r. (let v = row_some types q n vs (after t vs r) h in
            subst (λ (ws : List Ty). X (t ∷ ws)) (sym v.2) (f t v.0 v.1
            (subst (λ (ws : List Ty). RowAt types at n (t ∷ ws)) v.2 r)))) us row

        module _ (sp₀ sp₁ : List Span) (e : sp₀ ≡ []) (f : Option (Unit {0})) (mp : MatchPost ps types at n sp₀ sp₁ f) where
          -- what the match says of two in a row
          matched : (y : Option (Unit {0})) → f ≡ y → (us : List Ty) → RowAt types at n us → Matching (matches ps us []) types n sp₁ y
          matched y ef us row =
              subst (λ (x : Option (Unit {0})). Matching (matches ps us []) types n sp₁ x) ef (mp.answer us [] row (env_empty types n sp₀ e))

          pub pairs_differ : f ≡ None → PairsPost ps types at n None
          unfolding pairs_fit
          pairs_differ ef =
              record {
                answer = λ us row. secondly (λ vs. Pairing (pairs_fit ps vs) types n vs None) (λ t u vs r. (
                    subst (λ (b : Bool). Pairing (b && pairs_fit ps (u ∷ vs)) types n (t ∷ u ∷ vs) None)
                    (sym (fit_not (matches ps (t ∷ u ∷ vs) []) types n sp₁ (matched None ef (t ∷ u ∷ vs) r))) refl)) us row;
              }

          pub pairs_more : f ≡ Some tt → (r : Option ℕ) → PairsPost ps types q n r → PairsPost ps types at n r
          unfolding pairs_fit
          pairs_more ef r pp =
              record {
                answer = λ us row. secondly (λ vs. Pairing (pairs_fit ps vs) types n vs r) (λ t u vs w. (
                    let z = fit_of (matches ps (t ∷ u ∷ vs) []) types n sp₁ (matched (Some tt) ef (t ∷ u ∷ vs) w) in
                    subst (λ (b : Bool). Pairing (b && pairs_fit ps (u ∷ vs)) types n (t ∷ u ∷ vs) r) (sym z)
                    (again (pairs_fit ps (u ∷ vs)) t u vs (pp.answer (u ∷ vs) (after t (u ∷ vs) w))))) us row;
              }
            where
              again : (b : Bool) (t u : Ty) (vs : List Ty) → Pairing b types n (u ∷ vs) r → Pairing b types n (t ∷ u ∷ vs) r
              again true t u vs a = a
              again false t u vs a = a

-- ---- the loop: what is left, and what its end says of all
pub record Going (ps types : List ℕ) (at₀ n at : ℕ) : Type 0 where
  pub pre : PairsPre types at n
  pub back : (r : Option ℕ) → PairsPost ps types at n r → PairsPost ps types at₀ n r
