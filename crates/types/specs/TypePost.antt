-- What the code of types answers, by the definitions of frame/specs/Reading.antt: a result of theirs as a result of the code.
use Rattle.std.specs.Prelude.{ℕ, ◌+◌, ◌*◌, Bool, true, false, List, length, get_or, leb, Result, Ok, Err}
use Rattle.frame.specs.Types.{given}
use Rattle.frame.specs.Reading.{TyRes, ok_t, no_t, byte_of, TysRes, ok_ts, no_ts}
use Rattle.frame.specs.Refusals.{refusal}
use Rattle.frame.specs.declared.refusals.Refusal.{Refusal}

abbrev pub type_answer : TyRes → Result ℕ Refusal
type_answer (ok_t t p) = Ok p
type_answer (no_t c) = Err (refusal c)

-- the next byte of a type that has to end by lim, tested as `byte_of` tests it
abbrev pub byte_case : Bool → Bool → ℕ → Result ℕ Refusal
byte_case true e b = Err (refusal 6)
byte_case false true b = Err (refusal 3)
byte_case false false b = Ok b

abbrev pub byte_answer : ℕ → List ℕ → ℕ → Result ℕ Refusal
byte_answer lim s p = byte_case (leb lim p) (leb (length s) p) (get_or s p 0)

-- the given set whose type byte stands at `at`
abbrev pub given_at : ℕ → List ℕ → ℕ → TyRes
given_at lim s at = byte_of lim s (at + 1) (λ h. byte_of lim s (at + 2) (λ l. ok_t (given (h * 256 + l)) (at + 3)))

abbrev pub types_answer : TysRes → Result ℕ Refusal
types_answer (ok_ts ts p) = Ok p
types_answer (no_ts c) = Err (refusal c)
