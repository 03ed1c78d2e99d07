-- What the code of patterns answers, by the definitions of type_rules/specs/Patterns.antt: each answer of src/lib.rt as a relation to a
-- result (Matching, Pairing, Judging).
use Rattle.std.specs.Prelude.{◌≡◌, Bool, true, false, List, ◌∷◌, ℕ, ◌+◌, ◌≤◌, ◌<◌, length, Option, Some, None}
use Rattle.frame.specs.Types.{Ty}
use Rattle.frame.specs.Encoding.{enc_tys}
use Rattle.frame.specs.Spans.{Spans}
use Rattle.frame.specs.Reading.{type_limit}
use Rattle.type_rules.specs.Patterns.{
  Matched,
  fits,
  differs,
  matches,
  pairs_fit,
  last_ones,
  Rule,
  Judged,
  typed,
  wrong,
  completed,
  judge,
}
use Rattle.results.specs.ResultPosts.{TysFit, EnvAt, Kept}
use Rattle.results.specs.declared.Span.{Span}

-- the types us stand in a row from `at` up to n
pub record RowAt (types : List ℕ) (at n : ℕ) (us : List Ty) : Type 0 where
  pub span : Spans types at n (enc_tys us)
  pub fit : TysFit us

-- ---- matching
pub record MatchPre (types : List ℕ) (at n : ℕ) (spans : List Span) : Type 0 where
  pub us : List Ty
  pub ρ : List Ty
  pub row : RowAt types at n us
  pub env : EnvAt types n spans ρ

abbrev pub Matching : Matched → List ℕ → ℕ → List Span → Option (Unit {0}) → Type 0
Matching (fits us ρ) types n spans r = (r ≡ Some tt) × EnvAt types n spans ρ
Matching differs types n spans r = r ≡ None

-- the rest of a pattern at the rest of the types, with the variables that are bound then: what is said of these is said of the whole
pub record Next (ps : List ℕ) (us ρ : List Ty) (qs types : List ℕ) (at n : ℕ) (spans : List Span) : Type 0 where
  pub types_left : List Ty
  pub bound : List Ty
  pub same : matches ps us ρ ≡ matches qs types_left bound
  pub row : RowAt types at n types_left
  pub env : EnvAt types n spans bound

-- the variable v, whose symbol is v + 5, before the rest of a pattern
abbrev pub Standing : Option ℕ → ℕ → List ℕ → List Ty → List Ty → List ℕ → ℕ → ℕ → List Span → Type 0
Standing (Some q) v rest us ρ types at n spans = Next ((v + 5) ∷ rest) us ρ rest types q n spans × (at < q)
Standing None v rest us ρ types at n spans = matches ((v + 5) ∷ rest) us ρ ≡ differs

pub record VariablePost (v : ℕ) (types : List ℕ) (at n : ℕ) (spans₀ spans₁ : List Span) (r : Option ℕ) : Type 0 where
  pub answer : (rest : List ℕ) (us ρ : List Ty) → RowAt types at n us → EnvAt types n spans₀ ρ → Standing r v rest us ρ types at n spans₁

pub record MatchPost (ps types : List ℕ) (at n : ℕ) (spans₀ spans₁ : List Span) (r : Option (Unit {0})) : Type 0 where
  pub answer : (us ρ : List Ty) → RowAt types at n us → EnvAt types n spans₀ ρ → Matching (matches ps us ρ) types n spans₁ r

-- ---- each two in a row
pub record PairsPre (types : List ℕ) (at n : ℕ) : Type 0 where
  pub us : List Ty
  pub row : RowAt types at n us

abbrev pub Pairing : Bool → List ℕ → ℕ → List Ty → Option ℕ → Type 0
Pairing true types n us r = (p : ℕ) × (r ≡ Some p) × RowAt types p n (last_ones us)
Pairing false types n us r = r ≡ None

pub record PairsPost (ps types : List ℕ) (at n : ℕ) (r : Option ℕ) : Type 0 where
  pub answer : (us : List Ty) → RowAt types at n us → Pairing (pairs_fit ps us) types n us r

-- ---- the operands of a rule
-- the rule's patterns fit: the variables are bound, and the rest of the rule is its result
pub record OperandsFit (R : Rule) (types : List ℕ) (from n : ℕ) (spans : List Span) : Type 0 where
  pub answer : (ts : List Ty) → RowAt types from n ts → (ρ : List Ty) × (judge R ts ≡ completed R.result ρ) × EnvAt types n spans ρ

abbrev pub OperandsPost : Rule → List ℕ → ℕ → ℕ → List Span → Option (Unit {0}) → Type 0
OperandsPost R types from n spans (Some u) = OperandsFit R types from n spans
OperandsPost R types from n spans None = (ts : List Ty) → RowAt types from n ts → judge R ts ≡ wrong

-- ---- a rule
pub record JudgePre (types : List ℕ) (from n : ℕ) : Type 0 where
  pub ts : List Ty
  pub row : RowAt types from n ts
  pub room : n + type_limit ≤ length types

abbrev pub Judging : Judged → List ℕ → ℕ → List ℕ → Option ℕ → Type 0
Judging (typed xs) o from p r = (r ≡ Some (from + length xs)) × Spans p from (from + length xs) xs × Kept o p from
Judging wrong o from p r = r ≡ None

pub record JudgePost (rule : Rule) (o : List ℕ) (from n : ℕ) (p : List ℕ) (r : Option ℕ) : Type 0 where
  pub answer : (ts : List Ty) → RowAt o from n ts → Judging (judge rule ts) o from p r
