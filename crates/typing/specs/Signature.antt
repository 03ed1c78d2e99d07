-- The types of the identifier numbers of a tree. The first identifier of a number decides: where a tree passes number 9
-- the others of that number have the same type.
use Rattle.std.specs.Prelude.{ℕ, List, [], ◌∷◌, eqb}
use Rattle.frame.specs.Types.{Ty, given, pow}
use Rattle.frame.specs.Trees.{Tree}
use Rattle.frame.specs.Tags.{pick}
use Rattle.typing.specs.Identifiers.{Named, named, idents}

-- the type of the first of these that has the number n; a number that none has gets the type that 9 asks of a given set's identifier
unfoldable pub signed : List Named → ℕ → Ty
signed [] n = pow (given n)
signed (named m u ∷ others) n = pick (eqb n m) u (signed others n)

unfoldable pub signature : Tree → ℕ → Ty
signature t n = signed (idents t) n
