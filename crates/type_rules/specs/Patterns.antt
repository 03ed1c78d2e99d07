-- Typing rules as patterns. A pattern is one or more types in a row, written as type bytes are (00 BOOL, 01 integers,
-- 03 a power, 04 a product), with variables: 05 is α, 06 β, 07 γ, 08 δ. A variable's first occurrence binds it to the type
-- that stands there, a later one asks for the same type; variables are bound in their order. A rule has four patterns:
-- each two operands in a row match `pair`; the first operand matches `first` and the last `last`, with the same
-- variables; the type of the node is `result`. proofs/PatternRules.antt shows that these rules are `wants` and `result`
-- of typing/specs/Typing.antt, for every class.
use Rattle.std.specs.Prelude.{ℕ, ◌-◌, ◌≡◌, Bool, true, false, ◌&&◌, List, [], ◌∷◌, ◌++◌, length, ltb, leb, eqb}
use Rattle.frame.specs.Types.{Ty, bool, int, given, pow, prod}
use Rattle.frame.specs.Tags.{
  pick,
  Class,
  literal_pred,
  equality,
  order,
  membership,
  inclusion,
  binary_pred,
  associative_pred,
  negation,
  quantified_pred,
  finite,
  partition,
  identifier,
  bound,
  literal,
  set_extension,
  maplet,
  relation_set,
  set_minus,
  cartesian,
  direct_product,
  parallel_product,
  domain_restriction,
  range_restriction,
  up_to,
  arithmetic,
  function_image,
  relational_image,
  set_operation,
  backward_composition,
  forward_composition,
  override,
  sum,
  integer_set,
  bool_set,
  truth_value,
  integer_relation,
  empty_set,
  projection1,
  projection2,
  identity,
  bool_expr,
  cardinal,
  powerset,
  generalised,
  domain,
  range,
  extremum,
  converse,
  unary_minus,
  quantified_set,
  comprehension,
  unlisted,
  form_at,
  sorts_of,
  in_range,
}
use Rattle.frame.specs.Encoding.{enc_ty}
use Rattle.frame.specs.Reading.{type_limit}
use Rattle.frame.specs.Places.{Ctx}
use Rattle.frame.specs.Sameness.{same_ty}
use Rattle.typing.specs.Typing.{ty, type_at, carried_ty}

-- ---- a type as the symbol for its first byte and the types that follow it; there is no symbol for a given set
abbrev pub symbol_of : Ty → ℕ
symbol_of bool = 0
symbol_of int = 1
symbol_of (given n) = 9
symbol_of (pow t) = 3
symbol_of (prod t u) = 4

abbrev pub parts_of : Ty → List Ty
parts_of bool = []
parts_of int = []
parts_of (given n) = []
parts_of (pow t) = t ∷ []
parts_of (prod t u) = t ∷ u ∷ []

-- ---- matching
pub data Matched : Type 0 where
  -- the types behind those that the pattern took, and the variables
  fits : List Ty → List Ty → Matched
  differs : Matched

-- the first number that is a variable, and the first that is no symbol
abbrev pub variables : ℕ
variables = 5

abbrev pub symbols : ℕ
symbols = 9

-- a variable, at the type t: bound already, or the next to be bound
abbrev pub at_variable : ℕ → Ty → List Ty → List Ty → (List Ty → List Ty → Matched) → Matched
at_variable i t us ρ go =
    pick (ltb i (length ρ)) (pick (same_ty t (ty i ρ)) (go us ρ) differs) (pick (eqb i (length ρ)) (go us (ρ ++ (t ∷ []))) differs)

-- the symbol b at the first of some types; go takes the rest
abbrev pub at_symbol : ℕ → List Ty → List Ty → (List Ty → List Ty → Matched) → Matched
at_symbol b [] ρ go = differs
at_symbol b (t ∷ us) ρ go =
    pick (ltb b variables) (pick (eqb b (symbol_of t)) (go (parts_of t ++ us) ρ) differs)
    (pick (ltb b symbols) (at_variable (b - variables) t us ρ go) differs)

unfoldable pub matches : List ℕ → List Ty → List Ty → Matched
matches [] us ρ = fits us ρ
matches (b ∷ ps) us ρ = at_symbol b us ρ (λ vs σ. matches ps vs σ)

-- ---- filling: the bytes of a pattern with types for its variables
abbrev pub symbol_bytes : ℕ → List Ty → List ℕ
symbol_bytes b ρ = pick (ltb b variables) (b ∷ []) (enc_ty (ty (b - variables) ρ))

unfoldable pub filled : List ℕ → List Ty → List ℕ
filled [] ρ = []
filled (b ∷ []) ρ = symbol_bytes b ρ
filled (b ∷ c ∷ ps) ρ = symbol_bytes b ρ ++ filled (c ∷ ps) ρ

-- ---- rules
pub record Rule : Type 0 where
  pub pair : List ℕ
  pub first : List ℕ
  pub last : List ℕ
  pub result : List ℕ

abbrev pub rule : List ℕ → List ℕ → List ℕ → List ℕ → Rule
rule p f l r = record { pair = p; first = f; last = l; result = r }

-- BOOL, the integers, the variables, a power, a product
abbrev 𝔹 : List ℕ
𝔹 = 0 ∷ []

abbrev ℤ : List ℕ
ℤ = 1 ∷ []

abbrev α : List ℕ
α = 5 ∷ []

abbrev β : List ℕ
β = 6 ∷ []

abbrev γ : List ℕ
γ = 7 ∷ []

abbrev δ : List ℕ
δ = 8 ∷ []

abbrev ℙ : List ℕ → List ℕ
ℙ p = 3 ∷ p

abbrev prd : List ℕ → List ℕ → List ℕ
prd p q = 4 ∷ (p ++ q)

-- ℙ(p × q)
abbrev rel : List ℕ → List ℕ → List ℕ
rel p q = ℙ (prd p q)

-- rules for no operand, for one, for two, and for one or more of one type
abbrev constant : List ℕ → Rule
constant r = rule [] [] [] r

abbrev unary : List ℕ → List ℕ → Rule
unary f r = rule [] f [] r

abbrev binary : List ℕ → List ℕ → List ℕ → Rule
binary f l r = rule [] f l r

abbrev pub alike_pair : List ℕ
alike_pair = α ++ α

abbrev uniform : List ℕ → List ℕ → Rule
uniform f r = rule alike_pair f [] r

-- p ; q and p ∘ q
abbrev pub onward_pair : List ℕ
onward_pair = rel α β ++ rel β γ

abbrev pub backward_pair : List ℕ
backward_pair = rel α β ++ rel γ α

-- A predicate has no type: BOOL stands for it. An identifier and the like have the type that they carry, or that of
-- their binder, for an operand.
unfoldable pub rule_at : Class → Rule
rule_at literal_pred = constant 𝔹
rule_at equality = binary α α 𝔹
rule_at order = binary ℤ ℤ 𝔹
rule_at membership = binary α (ℙ α) 𝔹
rule_at inclusion = binary (ℙ α) (ℙ α) 𝔹
rule_at binary_pred = binary 𝔹 𝔹 𝔹
rule_at associative_pred = uniform 𝔹 𝔹
rule_at negation = unary 𝔹 𝔹
rule_at quantified_pred = unary 𝔹 𝔹
rule_at finite = unary (ℙ α) 𝔹
rule_at partition = uniform (ℙ α) 𝔹
rule_at identifier = unary α α
rule_at bound = unary α α
rule_at literal = constant ℤ
rule_at set_extension = uniform α (ℙ α)
rule_at maplet = binary α β (prd α β)
rule_at relation_set = binary (ℙ α) (ℙ β) (ℙ (rel α β))
rule_at set_minus = binary (ℙ α) (ℙ α) (ℙ α)
rule_at cartesian = binary (ℙ α) (ℙ β) (rel α β)
rule_at direct_product = binary (rel α β) (rel α γ) (rel α (prd β γ))
rule_at parallel_product = binary (rel α β) (rel γ δ) (rel (prd α γ) (prd β δ))
rule_at domain_restriction = binary (ℙ α) (rel α β) (rel α β)
rule_at range_restriction = binary (rel α β) (ℙ β) (rel α β)
rule_at up_to = binary ℤ ℤ (ℙ ℤ)
rule_at arithmetic = binary ℤ ℤ ℤ
rule_at function_image = binary (rel α β) α β
rule_at relational_image = binary (rel α β) (ℙ α) (ℙ β)
rule_at set_operation = uniform (ℙ α) (ℙ α)
rule_at backward_composition = rule backward_pair (rel α β) (rel γ δ) (rel γ β)
rule_at forward_composition = rule onward_pair (rel α β) (rel γ δ) (rel α δ)
rule_at override = uniform (rel α β) (rel α β)
rule_at sum = uniform ℤ ℤ
rule_at integer_set = constant (ℙ ℤ)
rule_at bool_set = constant (ℙ 𝔹)
rule_at truth_value = constant 𝔹
rule_at integer_relation = constant (rel ℤ ℤ)
-- "Required shapes, else number 10: ℙ(t); ℙ((t×u)×t); ℙ((t×u)×u); ℙ(t×t)."
rule_at empty_set = unary (ℙ α) (ℙ α)
rule_at projection1 = unary (rel (prd α β) α) (rel (prd α β) α)
rule_at projection2 = unary (rel (prd α β) β) (rel (prd α β) β)
rule_at identity = unary (rel α α) (rel α α)
rule_at bool_expr = unary 𝔹 𝔹
rule_at cardinal = unary (ℙ α) ℤ
rule_at powerset = unary (ℙ α) (ℙ (ℙ α))
rule_at generalised = unary (ℙ (ℙ α)) (ℙ α)
rule_at domain = unary (rel α β) (ℙ α)
rule_at range = unary (rel α β) (ℙ β)
rule_at extremum = unary (ℙ ℤ) ℤ
rule_at converse = unary (rel α β) (rel β α)
rule_at unary_minus = unary ℤ ℤ
rule_at quantified_set = binary 𝔹 (ℙ α) (ℙ α)
rule_at comprehension = binary 𝔹 α (ℙ α)
rule_at unlisted = constant 𝔹

-- the types that stand for operands of a node with no operand, by its payload, the types that it carries and its context
abbrev pub own_types : Class → ℕ → List Ty → Ctx → List Ty
own_types literal_pred n us Γ = []
own_types equality n us Γ = []
own_types order n us Γ = []
own_types membership n us Γ = []
own_types inclusion n us Γ = []
own_types binary_pred n us Γ = []
own_types associative_pred n us Γ = []
own_types negation n us Γ = []
own_types quantified_pred n us Γ = []
own_types finite n us Γ = []
own_types partition n us Γ = []
own_types identifier n us Γ = carried_ty us ∷ []
own_types bound n us Γ = type_at Γ n ∷ []
own_types literal n us Γ = []
own_types set_extension n us Γ = []
own_types maplet n us Γ = []
own_types relation_set n us Γ = []
own_types set_minus n us Γ = []
own_types cartesian n us Γ = []
own_types direct_product n us Γ = []
own_types parallel_product n us Γ = []
own_types domain_restriction n us Γ = []
own_types range_restriction n us Γ = []
own_types up_to n us Γ = []
own_types arithmetic n us Γ = []
own_types function_image n us Γ = []
own_types relational_image n us Γ = []
own_types set_operation n us Γ = []
own_types backward_composition n us Γ = []
own_types forward_composition n us Γ = []
own_types override n us Γ = []
own_types sum n us Γ = []
own_types integer_set n us Γ = []
own_types bool_set n us Γ = []
own_types truth_value n us Γ = []
own_types integer_relation n us Γ = []
own_types empty_set n us Γ = carried_ty us ∷ []
own_types projection1 n us Γ = carried_ty us ∷ []
own_types projection2 n us Γ = carried_ty us ∷ []
own_types identity n us Γ = carried_ty us ∷ []
own_types bool_expr n us Γ = []
own_types cardinal n us Γ = []
own_types powerset n us Γ = []
own_types generalised n us Γ = []
own_types domain n us Γ = []
own_types range n us Γ = []
own_types extremum n us Γ = []
own_types converse n us Γ = []
own_types unary_minus n us Γ = []
own_types quantified_set n us Γ = []
own_types comprehension n us Γ = []
own_types unlisted n us Γ = []

-- ---- a rule at the types of the operands
pub data Judged : Type 0 where
  -- the bytes of the node's type
  typed : List ℕ → Judged
  wrong : Judged

-- "A type has at most 64 bytes, derived ones too."
abbrev pub limited : List ℕ → Judged
limited xs = pick (leb (length xs) type_limit) (typed xs) wrong

abbrev pub is_fit : Matched → Bool
is_fit (fits us ρ) = true
is_fit differs = false

abbrev pub then_matched : Matched → (List Ty → Judged) → Judged
then_matched (fits us ρ) go = go ρ
then_matched differs go = wrong

-- every variable of a pattern has a type
unfoldable pub all_bound : List ℕ → List Ty → Bool
all_bound [] ρ = true
all_bound (b ∷ ps) ρ = pick (ltb b variables) true (ltb (b - variables) (length ρ)) && all_bound ps ρ

-- the type of the node
abbrev pub completed : List ℕ → List Ty → Judged
completed r ρ = pick (all_bound r ρ) (limited (filled r ρ)) wrong

-- each two in a row
unfoldable pub pairs_fit : List ℕ → List Ty → Bool
pairs_fit p [] = true
pairs_fit p (t ∷ []) = true
pairs_fit p (t ∷ u ∷ us) = is_fit (matches p (t ∷ u ∷ us) []) && pairs_fit p (u ∷ us)

-- the last, where there is one
abbrev pub last_ones : List Ty → List Ty
last_ones [] = []
last_ones (t ∷ []) = t ∷ []
last_ones (t ∷ u ∷ us) = last_ones (u ∷ us)

abbrev pub ends : Rule → List Ty → Judged
ends r ts =
    then_matched (matches r.first ts []) (λ ρ. then_matched (matches r.last (last_ones ts) ρ) (λ σ. completed r.result σ))

unfoldable pub judge : Rule → List Ty → Judged
judge r ts = pick (pairs_fit r.pair ts) (ends r ts) wrong

-- so many operands as a class has
abbrev pub Operands : Class → ℕ → ℕ → Type 0
Operands c x k = (k ≡ length (sorts_of (form_at c).layout x)) × (in_range (form_at c).layout x ≡ true)
