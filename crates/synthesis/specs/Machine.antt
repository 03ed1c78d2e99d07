-- Typing in prefix order with a stack of open nodes: what the nodes that are open, and the operands that are to come, say of the
-- whole tree. proofs/Machine.antt shows that opening a node and closing one leave this answer as it is.
use Rattle.std.specs.Prelude.{Bool, ◌&&◌, List, [], ◌∷◌, ◌++◌, ℕ}
use Rattle.frame.specs.Types.{Ty}
use Rattle.frame.specs.Trees.{Tree, Forest}
use Rattle.frame.specs.Tags.{pick, class_of}
use Rattle.frame.specs.Places.{Ctx, under}
use Rattle.typing.specs.Typing.{result, type_of, types_in, node_typed, typed_tree, typed_forest}

pub data Answer : Type 0 where
  is : Ty → Answer
  bad : Answer

-- an open node: its head and context, the types of the operands that have come, and the operands that are to come
pub record Open : Type 0 where
  pub tag : ℕ
  pub payload : ℕ
  pub types : List Ty
  pub ctx : Ctx
  pub done : List Ty
  pub todo : Forest

abbrev pub opened : ℕ → ℕ → List Ty → Ctx → List Ty → Forest → Open
opened g n us Γ ts ks = record { tag = g; payload = n; types = us; ctx = Γ; done = ts; todo = ks }

-- the context of its operands
abbrev pub inner : Open → Ctx
inner o = under o.tag o.types o.ctx

abbrev pub operands : Open → List Ty
operands o = o.done ++ types_in o.todo (inner o)

abbrev pub good : Open → Bool
good o = node_typed o.tag o.payload o.types o.ctx (operands o) && typed_forest o.todo (inner o)

abbrev pub type_in : Open → Ty
type_in o = result (class_of o.tag) o.payload o.types o.ctx (operands o)

-- one operand more has come
abbrev pub given : Open → Ty → Open
given o t = opened o.tag o.payload o.types o.ctx (o.done ++ (t ∷ [])) o.todo

unfoldable pub close_up : Open → List Open → Answer
close_up o [] = pick (good o) (is (type_in o)) bad
close_up o (p ∷ ps) = let r = close_up (given p (type_in o)) ps in pick (good o) r bad

-- a type goes to the node below
abbrev pub deliver : Ty → List Open → Answer
deliver t [] = is t
deliver t (p ∷ ps) = close_up (given p t) ps

abbrev pub answer_of : Tree → Ctx → Answer
answer_of t Γ = pick (typed_tree t Γ) (is (type_of t Γ)) bad
