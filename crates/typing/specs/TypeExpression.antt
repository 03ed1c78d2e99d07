-- Types as expressions (document 01, "The type record": "A type is turned into an expression as `to_expression` does:
-- BOOL 404, integers 401, a given set its identifier typed as its power, ℙ 752, product 214.").
use Rattle.std.specs.Prelude.{[], ◌∷◌}
use Rattle.frame.specs.Types.{Ty, bool, int, given, pow, prod}
use Rattle.frame.specs.Trees.{head, Tree, node, nil, leaf, one, two}
use Rattle.frame.specs.Operators.{#FreeIdent, #CProd, #Integer, #Bool, #Pow}

-- "`to_expression` calls itself on the smaller type."
unfoldable pub to_expression : Ty → Tree
to_expression bool = leaf #Bool
to_expression int = leaf #Integer
to_expression (given n) = node (head #FreeIdent n (pow (given n) ∷ [])) nil
to_expression (pow t) = one #Pow (to_expression t)
to_expression (prod t u) = two #CProd (to_expression t) (to_expression u)
