-- The ways out of `match_operands` and `judge_types`: the rule of a class at the types of the operands, step by step.
-- Main results: paired_by, fitted_by, operands_fit, done_by (what is known after each call), with what the calls ask for; unpaired,
-- first_off, last_says; judge_typed (the answers).
use mathlib.Core.Path.{◌≡◌, refl, sym, ap, ◌∙◌, subst}
use mathlib.Core.Bool.{Bool, true, false, ◌&&◌}
use mathlib.Core.List.{List, []}
use Prim.Native.Nat.{ℕ, ◌+◌, ◌-◌, ◌≤◌}
use native.Mathlib.Omega.{arith}
use lib.ListN.{length, drop}
use lib.Dec.{leb}
use borrow.Author.Tests.{leb-true, leb-false, le-leb, lt-leb}
use Rattle.frame.specs.Types.{Ty}
use Rattle.frame.specs.Tags.{pick}
use Rattle.frame.specs.Spans.{Spans}
use Rattle.type_rules.specs.Patterns.{
  Matched,
  fits,
  differs,
  matches,
  Rule,
  Judged,
  typed,
  wrong,
  completed,
  all_bound,
  filled,
  pairs_fit,
  last_ones,
  then_matched,
  ends,
  judge,
}
use Rattle.results.specs.ResultPosts.{EnvAt, Kept, Filling, FillPost}
use Rattle.results.specs.declared.Span.{Span}
use Rattle.patterns.specs.PatternPosts.{
  RowAt,
  MatchPre,
  Matching,
  MatchPost,
  Pairing,
  PairsPost,
  OperandsFit,
  OperandsPost,
  JudgePre,
  Judging,
  JudgePost,
}
use Rattle.std.proofs.Common.{Option, Some, None}
use Rattle.results.proofs.SpanLaws.{span_part, pasted_span, pasted_kept}
use Rattle.std.specs.List.{copy_within}
use Rattle.patterns.proofs.PairTurns.{env_empty}

-- ---- one answer each
paired_of : (b : Bool) (o : List ℕ) (n : ℕ) (ts : List Ty) (p : ℕ) → Pairing b o n ts (Some p) → (b ≡ true) × RowAt o p n (last_ones ts)
paired_of true o n ts p a = let z : p ≡ a.0 = cc a.1 in (refl, subst (λ (i : ℕ). RowAt o i n (last_ones ts)) (sym z) a.2)
paired_of false o n ts p a = cc

unpaired_of : (b : Bool) (o : List ℕ) (n : ℕ) (ts : List Ty) → Pairing b o n ts None → b ≡ false
unpaired_of true o n ts a = cc a.1
unpaired_of false o n ts a = refl

fitted_of : (m : Matched) (o : List ℕ) (n : ℕ) (sp : List Span) → Matching m o n sp (Some tt)
    → (us : List Ty) × (ρ : List Ty) × (m ≡ fits us ρ) × EnvAt o n sp ρ
fitted_of (fits us ρ) o n sp a = (us, ρ, refl, a.1)
fitted_of differs o n sp a = cc

unfitted_of : (m : Matched) (o : List ℕ) (n : ℕ) (sp : List Span) → Matching m o n sp None → m ≡ differs
unfitted_of (fits us ρ) o n sp a = cc a.0
unfitted_of differs o n sp a = refl

filled_of : (b : Bool) (xs o : List ℕ) (n : ℕ) (p : List ℕ) (m : ℕ) → Filling b xs o n p (Some m)
    → (b ≡ true) × (m ≡ n + length xs) × Spans p n m xs × Kept o p n
filled_of true xs o n p m a = let z : m ≡ n + length xs = cc a.0 in (refl, z, subst (λ (i : ℕ). Spans p n i xs) (sym z) a.1, a.2)
filled_of false xs o n p m a = cc

leb_add : (n a b : ℕ) (t : Bool) → leb a b ≡ t → leb (n + a) (n + b) ≡ t
leb_add n a b true e = let h = leb-true a b e in le-leb (n + a) (n + b) (omega arith)
leb_add n a b false e = let h = leb-false a b e in lt-leb (n + a) (n + b) (omega arith)

two_tests : (a b : Bool) (x : Judged) → pick a (pick b x wrong) wrong ≡ pick (a && b) x wrong
two_tests true b x = refl
two_tests false b x = refl

complete_by : (r : List ℕ) (σ : List Ty) (n : ℕ) → completed r σ ≡ pick (all_bound r σ && leb (n + length (filled r σ)) (n + 64))
    (typed (filled r σ)) wrong
complete_by r σ n =
    two_tests (all_bound r σ) (leb (length (filled r σ)) 64) (typed (filled r σ))
    ∙ ap (λ (b : Bool). pick (all_bound r σ && b) (typed (filled r σ)) wrong)
    (sym (leb_add n (length (filled r σ)) 64 (leb (length (filled r σ)) 64) refl))

-- ---- what is known after each call, of every row of types that stands at `from`
pub record Paired (R : Rule) (o : List ℕ) (from n last : ℕ) : Type 0 where
  pub answer : (ts : List Ty) → RowAt o from n ts → (judge R ts ≡ ends R ts) × RowAt o last n (last_ones ts)

pub record Fitted (R : Rule) (o : List ℕ) (from n : ℕ) (sp : List Span) (last : ℕ) : Type 0 where
  pub answer : (ts : List Ty) → RowAt o from n ts → (ρ : List Ty)
      × (judge R ts ≡ then_matched (matches R.last (last_ones ts) ρ) (λ σ. completed R.result σ)) × RowAt o last n (last_ones ts)
      × EnvAt o n sp ρ

pub record Done (R : Rule) (o : List ℕ) (from n : ℕ) (o₁ : List ℕ) (m : ℕ) : Type 0 where
  pub answer : (ts : List Ty) → RowAt o from n ts → (xs : List ℕ) × (judge R ts ≡ typed xs) × (m ≡ n + length xs) × Spans o₁ n m xs × Kept o o₁ n

pairing : (ps : List ℕ) {o : List ℕ} {from n : ℕ} {x : Option ℕ} → PairsPost ps o from n x → (ts : List Ty) (y : Option ℕ) → RowAt o from n ts → x ≡ y
    → Pairing (pairs_fit ps ts) o n ts y
pairing ps {o} {n = n} post ts y row ex = subst (λ (w : Option ℕ). Pairing (pairs_fit ps ts) o n ts w) ex (post.answer ts row)

-- ---- the ways out
module _ (R : Rule) {o : List ℕ} {from n : ℕ} where
  module _ {x : Option ℕ} (post : PairsPost R.pair o from n x) where
    pub unpaired : x ≡ None → (ts : List Ty) → RowAt o from n ts → judge R ts ≡ wrong
    unfolding judge
    unpaired ex ts row = ap (λ (b : Bool). pick b (ends R ts) wrong)
        (unpaired_of (pairs_fit R.pair ts) o n ts (pairing R.pair post ts None row ex))

    pub paired_by : {last : ℕ} → x ≡ Some last → Paired R o from n last
    unfolding judge
    paired_by {last} ex =
        record {
          answer = λ ts row. (let f = paired_of (pairs_fit R.pair ts) o n ts last (pairing R.pair post ts (Some last) row ex) in
              (ap (λ (b : Bool). pick b (ends R ts) wrong) f.0, f.1));
        }

  pub first_pre : JudgePre o from n → (sp : List Span) → sp ≡ [] → MatchPre o from n sp
  first_pre p sp e = record { us = p.ts; ρ = []; row = p.row; env = env_empty o n sp e }

  module _ {last : ℕ} (known : Paired R o from n last) {sp₀ sp : List Span} (e₀ : sp₀ ≡ []) {x : Option (Unit {0})} (post : MatchPost R.first o from n sp₀ sp x) where
    firstly : (ts : List Ty) (y : Option (Unit {0})) → RowAt o from n ts → x ≡ y → Matching (matches R.first ts []) o n sp y
    firstly ts y row ex =
        subst (λ (w : Option (Unit {0})). Matching (matches R.first ts []) o n sp w) ex (post.answer ts [] row (env_empty o n sp₀ e₀))

    -- what is left of the rule once the first operand has answered
    first_are : (ts : List Ty) (w : Matched) → RowAt o from n ts → matches R.first ts [] ≡ w
        → judge R ts ≡ then_matched w (λ ρ. then_matched (matches R.last (last_ones ts) ρ) (λ σ. completed R.result σ))
    first_are ts w row e = (known.answer ts row).0 ∙ ap (λ (m : Matched). then_matched m
        (λ ρ. then_matched (matches R.last (last_ones ts) ρ) (λ σ. completed R.result σ))) e

    pub first_off : x ≡ None → (ts : List Ty) → RowAt o from n ts → judge R ts ≡ wrong
    first_off ex ts row = first_are ts differs row (unfitted_of (matches R.first ts []) o n sp (firstly ts None row ex))

    pub fitted_by : x ≡ Some tt → Fitted R o from n sp last
    fitted_by ex =
        record {
          answer = λ ts row. (let f = fitted_of (matches R.first ts []) o n sp (firstly ts (Some tt) row ex) in
              (f.1, first_are ts (fits f.0 f.1) row f.2, (known.answer ts row).1, f.3));
        }

  module _ {sp₂ : List Span} {last : ℕ} (known : Fitted R o from n sp₂ last) where
    pub last_pre : JudgePre o from n → MatchPre o last n sp₂
    last_pre p = let f = known.answer p.ts p.row in record { us = last_ones p.ts; ρ = f.0; row = f.2; env = f.3 }

    module _ {sp₃ : List Span} {x : Option (Unit {0})} (post : MatchPost R.last o last n sp₂ sp₃ x) where
      lastly : (ts : List Ty) (y : Option (Unit {0})) (row : RowAt o from n ts) → x ≡ y
          → Matching (matches R.last (last_ones ts) (known.answer ts row).0) o n sp₃ y
      lastly ts y row ex =
          let f = known.answer ts row in
          subst (λ (w : Option (Unit {0})). Matching (matches R.last (last_ones ts) f.0) o n sp₃ w) ex
          (post.answer (last_ones ts) f.0 f.2 f.3)

      -- with the variables of the first
      last_are : (ts : List Ty) (w : Matched) (row : RowAt o from n ts) → matches R.last (last_ones ts) (known.answer ts row).0 ≡ w
          → judge R ts ≡ then_matched w (λ σ. completed R.result σ)
      last_are ts w row e = (known.answer ts row).1 ∙ ap (λ (m : Matched). then_matched m (λ σ. completed R.result σ)) e

      -- what the last operand answers is the answer
      pub last_says : OperandsPost R o from n sp₃ x
      last_says = go x refl
        where
          go : (y : Option (Unit {0})) → x ≡ y → OperandsPost R o from n sp₃ y
          go (Some u) ex =
              record {
                answer = λ ts row. (let f = fitted_of (matches R.last (last_ones ts) (known.answer ts row).0) o n sp₃
                    (lastly ts (Some tt) row ex) in
                    (f.1, last_are ts (fits f.0 f.1) row f.2, f.3));
              }
          go None ex = λ ts row. last_are ts differs row
              (unfitted_of (matches R.last (last_ones ts) (known.answer ts row).0) o n sp₃ (lastly ts None row ex))

  -- what `match_operands` has answered
  module _ (sp : List Span) (x : Option (Unit {0})) (said : OperandsPost R o from n sp x) where
    pub operands_fit : x ≡ Some tt → OperandsFit R o from n sp
    operands_fit ex = subst (OperandsPost R o from n sp) ex said

  module _ {sp : List Span} (known : OperandsFit R o from n sp) where
    module _ {o₁ : List ℕ} {x : Option ℕ} (post : FillPost R.result o n (n + 64) sp o₁ x) where
      abbrev test : List Ty → Bool
      test σ = all_bound R.result σ && leb (n + length (filled R.result σ)) (n + 64)

      filling : (ts : List Ty) (y : Option ℕ) (row : RowAt o from n ts) → x ≡ y
          → Filling (test (known.answer ts row).0) (filled R.result (known.answer ts row).0) o n o₁ y
      filling ts y row ex =
          let f = known.answer ts row in
          subst (λ (w : Option ℕ). Filling (test f.0) (filled R.result f.0) o n o₁ w) ex (post.answer f.0 f.2)

      fill_are : (ts : List Ty) (b : Bool) (row : RowAt o from n ts) → test (known.answer ts row).0 ≡ b
          → judge R ts ≡ pick b (typed (filled R.result (known.answer ts row).0)) wrong
      fill_are ts b row e =
          let f = known.answer ts row in
          f.1 ∙ complete_by R.result f.0 n ∙ ap (λ (b : Bool). pick b (typed (filled R.result f.0)) wrong) e

      pub done_by : {m : ℕ} → x ≡ Some m → Done R o from n o₁ m
      done_by {m} ex =
          record {
            answer = λ ts row. (let σ = (known.answer ts row).0 in
                let f = filled_of (test σ) (filled R.result σ) o n o₁ m (filling ts (Some m) row ex) in
                (filled R.result σ, fill_are ts true row f.0, f.1, f.2, f.3));
          }

  module _ {o₁ : List ℕ} {m : ℕ} (known : Done R o from n o₁ m) where
    pub judge_typed : (p : List ℕ) → length p ≡ length o₁ → p ≡ copy_within o₁ n m from → JudgePost R o from n p (Some (from + (m - n)))
    judge_typed p long cp =
        record {
          answer = λ ts row. (let d = known.answer ts row in
              let l = row.span.long in
              let below : from ≤ length o₁ = omega (arith, row.span.within, d.4.long) in
              let z : length d.0 ≡ m - n = omega (arith, d.2) in
              let k = pasted_kept o₁ p (drop n o₁) from (m - n) cp below long in
              subst (λ (w : Judged). Judging w o from p (Some (from + (m - n)))) (sym d.1)
              (subst (λ (i : ℕ). (Some (from + (m - n)) ≡ Some (from + i)) × Spans p from (from + i) d.0 × Kept o p from) (sym z) (
                refl,
                pasted_span o₁ p (drop n o₁) from (m - n) cp below (span_part d.3) z,
                record { long = long ∙ d.4.long; low = λ i h. k.low i h ∙ d.4.low i (omega arith) },
              )));
        }
