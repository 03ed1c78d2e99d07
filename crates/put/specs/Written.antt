-- What writing a type's expression asks for and answers. "`to_expression` calls itself on the smaller type": "A type's bytes are
-- walked by recursion, remaining type length falling, writing the expression's nodes."
use Rattle.std.specs.Prelude.{◌≡◌, List, [], ◌∷◌, ◌++◌, ℕ, ◌+◌, length, Option}
use Rattle.frame.specs.Types.{Ty}
use Rattle.frame.specs.Encoding.{enc_number, enc_ty, enc}
use Rattle.frame.specs.Spans.{Spans}
use Rattle.typing.specs.TypeExpression.{to_expression}
use Rattle.put.specs.Out.{Puts}
use Rattle.put.specs.Copied.{between}

-- the bytes of the type t stand at `at`
abbrev pub TypeAt : List ℕ → ℕ → Ty → Type 0
TypeAt s at t = Spans s at (at + length (enc_ty t)) (enc_ty t)

-- some type's do
abbrev pub HasType : List ℕ → ℕ → Type 0
HasType s at = (t : Ty) × TypeAt s at t

-- the expression of the given set whose type byte stands at `at`, as it is put together
abbrev pub given_bytes : List ℕ → ℕ → List ℕ
given_bytes s at = ((enc_number 2 1 ++ between s (at + 1) (at + 3)) ++ (3 ∷ [])) ++ between s at (at + 3)

-- q is the end of the type that stands at `at`
pub record TypeEnd (s : List ℕ) (at q : ℕ) : Type 0 where
  pub end : (t : Ty) → TypeAt s at t → q ≡ at + length (enc_ty t)

-- and its expression is written
pub record Expressed (s : List ℕ) (at : ℕ) (o p : Option (List ℕ)) (q : ℕ) : Type 0 where
  pub end : TypeEnd s at q
  pub puts : (t : Ty) → TypeAt s at t → Puts o p (enc (to_expression t))
