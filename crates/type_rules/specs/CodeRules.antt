-- The code's symbols and rules as those of Patterns.antt.
use Rattle.std.specs.Prelude.{ℕ, List, [], ◌∷◌, Option, Some, None}
use Rattle.frame.specs.Types.{Ty}
use Rattle.frame.specs.Tags.{Class, identifier, bound, empty_set, projection1, projection2, identity}
use Rattle.frame.specs.Places.{Ctx}
use Rattle.typing.specs.Typing.{type_at, carried_ty}
use Rattle.type_rules.specs.Patterns.{rule}
use Rattle.type_rules.specs.Patterns as P
use Rattle.type_rules.specs.declared.Symbol.{Symbol}
use Rattle.type_rules.specs.declared.Symbol.TheVariants as S
use Rattle.type_rules.specs.declared.Rule.{Rule}
use Rattle.type_rules.specs.declared.Own.{Own}
use Rattle.type_rules.specs.declared.Own.TheVariants.{Carried, Bound}

abbrev pub number : Symbol → ℕ
number S.Bool = 0
number S.Integers = 1
number S.Power = 3
number S.Product = 4
number S.Alpha = 5
number S.Beta = 6
number S.Gamma = 7
number S.Delta = 8

-- a pattern as those of Patterns.antt are
abbrev pub numbers : List Symbol → List ℕ
numbers [] = []
numbers (s ∷ ss) = number s ∷ numbers ss

abbrev pub rule_for : Rule → P.Rule
rule_for r = rule (numbers r.pair.now) (numbers r.first.now) (numbers r.last.now) (numbers r.result.now)

-- the variables in their order
abbrev pub variable_at : Symbol → Option ℕ
variable_at S.Bool = None
variable_at S.Integers = None
variable_at S.Power = None
variable_at S.Product = None
variable_at S.Alpha = Some 0
variable_at S.Beta = Some 1
variable_at S.Gamma = Some 2
variable_at S.Delta = Some 3

-- where a node of a class has its type from, where it has it from itself
abbrev pub own_at : Class → Option Own
own_at identifier = Some Carried
own_at bound = Some Bound
own_at empty_set = Some Carried
own_at projection1 = Some Carried
own_at projection2 = Some Carried
own_at identity = Some Carried
own_at _ = None

-- and which type it is, by its payload, the types that it carries and its context
abbrev pub own_type : Own → ℕ → List Ty → Ctx → Ty
own_type Carried n us Γ = carried_ty us
own_type Bound n us Γ = type_at Γ n

abbrev pub own_by : Option Own → ℕ → List Ty → Ctx → List Ty
own_by None n us Γ = []
own_by (Some k) n us Γ = own_type k n us Γ ∷ []
