-- What the code of results answers, by the definitions of type_rules/specs/Patterns.antt, as a relation to a result (Filling). The types
-- of a pattern's variables stand as EnvAt says: `patterns` binds them, this crate reads them.
use Rattle.std.specs.Prelude.{◌≡◌, Bool, true, false, ◌&&◌, List, [], ◌∷◌, ℕ, ◌+◌, ◌≤◌, ◌<◌, length, get_or, leb, Option, Some, None, slice_get}
use Rattle.frame.specs.Types.{Ty}
use Rattle.frame.specs.Encoding.{enc_ty}
use Rattle.frame.specs.WellFormed.{TyWf}
use Rattle.frame.specs.Spans.{Spans}
use Rattle.typing.specs.Typing.{ty}
use Rattle.type_rules.specs.Patterns.{all_bound, filled}
use Rattle.results.specs.declared.Span.{Span}

-- given sets have two-byte numbers
abbrev pub TysFit : List Ty → Type 0
TysFit [] = Unit {0}
TysFit (t ∷ ts) = TyWf t × TysFit ts

-- the types of the variables stand below n, each in its span
pub record EnvAt (types : List ℕ) (n : ℕ) (spans : List Span) (ρ : List Ty) : Type 0 where
  pub count : length ρ ≡ length spans
  pub fit : TysFit ρ
  pub stands : (i : ℕ) (s : Span) → slice_get spans i ≡ Some s → Spans types s.start s.end (enc_ty (ty i ρ)) × (s.end ≤ n)

-- the bytes below n are as before
pub record Kept (o p : List ℕ) (n : ℕ) : Type 0 where
  pub long : length p ≡ length o
  pub low : (j : ℕ) → j < n → get_or p j 0 ≡ get_or o j 0

-- ---- filling
pub record FillPre (types : List ℕ) (m limit : ℕ) (spans : List Span) : Type 0 where
  pub ρ : List Ty
  pub env : EnvAt types m spans ρ
  pub room : (m ≤ limit) × (limit ≤ length types)

abbrev pub Filling : Bool → List ℕ → List ℕ → ℕ → List ℕ → Option ℕ → Type 0
Filling true xs o m p r = (r ≡ Some (m + length xs)) × Spans p m (m + length xs) xs × Kept o p m
Filling false xs o m p r = r ≡ None

pub record FillPost (ps o : List ℕ) (m limit : ℕ) (spans : List Span) (p : List ℕ) (r : Option ℕ) : Type 0 where
  pub answer : (ρ : List Ty) → EnvAt o m spans ρ
      → Filling (all_bound ps ρ && leb (m + length (filled ps ρ)) limit) (filled ps ρ) o m p r
