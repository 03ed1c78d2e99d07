-- What the code of typing answers: the contracts of src/lib.rt, and what the proof of the loop of `turns` goes by. The open nodes are
-- three tables here, by depth: tags, operands to come, and where in the buffer the types of the operands start that have come. The code
-- has the node at hand, which has the greatest depth, by value, and those below it in "a lent slice of records (tag, operands to come,
-- type start)".
use Rattle.std.specs.Prelude.{◌≡◌, Bool, true, false, List, [], ◌∷◌, ◌++◌, ℕ, suc, ◌+◌, ◌-◌, ◌*◌, ◌≤◌, ◌<◌, length, get_or, set, eqb, Option, Some, None}
use Rattle.frame.specs.Types.{Ty}
use Rattle.frame.specs.Trees.{head, Tree, node, Forest, count, nodes, nodes_in}
use Rattle.frame.specs.Tags.{pick, Sort, Class, class_of}
use Rattle.frame.specs.Operators.{#BoundIdent}
use Rattle.frame.specs.Encoding.{enc_ty}
use Rattle.frame.specs.Reading.{type_limit, frame_limit}
use Rattle.frame.specs.WellFormed.{TyWf}
use Rattle.frame.specs.Places.{Ctx}
use Rattle.frame.specs.Spans.{Spans}
use Rattle.typing.specs.Typing.{type_at, typed_tree, type_of}
use Rattle.heads.specs.Leaves.{LeavesAt, LeavesIn}
use Rattle.type_rules.specs.Patterns.{own_types, rule_at, Judged, typed, wrong, judge}
use Rattle.type_rules.specs.CodeRules.{own_at}
use Rattle.type_rules.specs.declared.Own.{Own}
use Rattle.type_rules.specs.declared.Own.TheVariants.{Carried, Bound}
use Rattle.results.specs.ResultPosts.{Kept}
use Rattle.patterns.specs.PatternPosts.{RowAt}
use Rattle.synthesis.specs.Machine.{Answer, is, bad, Open, inner, close_up}
use Rattle.type_rules.specs.Patterns.{Operands}
use Rattle.synthesis.specs.declared.stack.OpenNode.{OpenNode}
use Rattle.synthesis.specs.declared.Opened.{Opened}
use Rattle.synthesis.specs.Turns.{State, Turned, descends, climbs, finishes}
use Rattle.frame.specs.At.{IsAt, KidsAt}

-- ---- a type of the frame goes into the buffer
pub record PutPre (s : List ℕ) (p : ℕ) (types : List ℕ) (end : ℕ) : Type 0 where
  pub type : Ty
  pub to : ℕ
  pub span : Spans s p to (enc_ty type)
  pub room : end + type_limit ≤ length types

abbrev pub Putting : Option ℕ → Ty → List ℕ → ℕ → List ℕ → Type 0
Putting (Some m) u o end p = (m ≡ end + length (enc_ty u)) × (length (enc_ty u) ≤ type_limit) × Spans p end m (enc_ty u) × Kept o p end
Putting None u o end p = type_limit < length (enc_ty u)

pub record PutPost (s : List ℕ) (p : ℕ) (types : List ℕ) (end : ℕ) (types₁ : List ℕ) (r : Option ℕ) : Type 0 where
  pub answer : (u : Ty) (e : ℕ) → Spans s p e (enc_ty u) → Putting r u types end types₁

-- ---- the type that a node without operands has by itself
-- where it stands: the type that it carries, or that of its binder
abbrev pub place_by : Option Own → ℕ → ℕ → ℕ
place_by None carried leaf = carried
place_by (Some Carried) carried leaf = carried
place_by (Some Bound) carried leaf = leaf

abbrev pub own_place : Class → ℕ → ℕ → ℕ
own_place c carried leaf = place_by (own_at c) carried leaf

pub record OwnAt (c : Class) (n : ℕ) (us : List Ty) (Γ : Ctx) (s : List ℕ) (p : ℕ) : Type 0 where
  pub stands : (u : Ty) → own_types c n us Γ ≡ u ∷ [] → (e : ℕ) × Spans s p e (enc_ty u) × TyWf u

pub record OwnPre (c : Class) (s : List ℕ) (p : ℕ) (types : List ℕ) (end : ℕ) : Type 0 where
  pub n : ℕ
  pub us : List Ty
  pub Γ : Ctx
  pub own : OwnAt c n us Γ s p
  pub room : end + type_limit ≤ length types

abbrev pub Owning : Option ℕ → Class → ℕ → List Ty → Ctx → List ℕ → ℕ → List ℕ → Type 0
Owning (Some m) c n us Γ o end p = RowAt p end m (own_types c n us Γ) × (m ≤ end + type_limit) × Kept o p end
Owning None c n us Γ o end p = (u : Ty) × (own_types c n us Γ ≡ u ∷ []) × (type_limit < length (enc_ty u))

pub record OwnPost (c : Class) (s : List ℕ) (p : ℕ) (types : List ℕ) (end : ℕ) (types₁ : List ℕ) (r : Option ℕ) : Type 0 where
  pub answer : (n : ℕ) (us : List Ty) (Γ : Ctx) → OwnAt c n us Γ s p → Owning r c n us Γ types end types₁

-- ---- a node is opened
-- where it is a bound identifier, its type stands at `leaf`
abbrev pub LeafAt : Tree → Ctx → List ℕ → ℕ → Type 0
LeafAt (node (head g n us) ks) Γ s leaf = let t = enc_ty (type_at Γ n) in
    pick {X = Type 0} (eqb g #BoundIdent) (Spans s leaf (leaf + length t) t) (Unit {0})

pub record OpenPre (s : List ℕ) (at leaf : ℕ) (types : List ℕ) (end : ℕ) : Type 0 where
  pub sort : Sort
  pub tree : Tree
  pub to : ℕ
  pub Γ : Ctx
  pub stands : IsAt s sort at tree to
  pub leafs : LeafAt tree Γ s leaf
  pub room : end + type_limit ≤ length types
  pub few : nodes tree ≤ 2048
  pub low : end ≤ type_limit * 2048

-- the node is put on the stack with no operand, and its first operand stands at p
pub record NodeOpen (s : List ℕ) (at : ℕ) (tree : Tree) (to : ℕ) (Γ : Ctx) (t₀ l₀ f₀ : List ℕ) (top : ℕ) (o : List ℕ) (end : ℕ)
    (t₁ l₁ f₁ types : List ℕ) (p m : ℕ) : Type 0 where
  pub tag : ℕ
  pub payload : ℕ
  pub carried : List Ty
  pub kids : Forest
  pub is : tree ≡ node (head tag payload carried) kids
  pub sorts : List Sort
  pub below : KidsAt s sorts p kids to
  pub number : ℕ
  pub arity : Operands (class_of tag) number (count kids)
  pub row : RowAt types end m (own_types (class_of tag) payload carried Γ)
  pub short : m ≤ end + type_limit
  pub kept : Kept o types end
  pub tags : t₁ ≡ set t₀ top tag
  pub lefts : l₁ ≡ set l₀ top (count kids)
  pub froms : f₁ ≡ set f₀ top end
  pub past : at + 2 ≤ p
  pub within : p ≤ length s

abbrev pub Opening : Option Opened → List ℕ → ℕ → Tree → ℕ → Ctx → List ℕ → List ℕ → List ℕ → ℕ → List ℕ → ℕ → List ℕ → List ℕ → List ℕ → List ℕ → Type 0
Opening (Some r) s at t q Γ t₀ l₀ f₀ top o end t₁ l₁ f₁ types = NodeOpen s at t q Γ t₀ l₀ f₀ top o end t₁ l₁ f₁ types r.at r.end
Opening None s at t q Γ t₀ l₀ f₀ top o end t₁ l₁ f₁ types = typed_tree t Γ ≡ false

pub record OpenPost (s : List ℕ) (at leaf : ℕ) (t₀ l₀ f₀ : List ℕ) (top : ℕ) (o : List ℕ) (end : ℕ) (t₁ l₁ f₁ types : List ℕ)
    (r : Option Opened) : Type 0 where
  pub answer : (e : Sort) (t : Tree) (q : ℕ) (Γ : Ctx) → IsAt s e at t q → LeafAt t Γ s leaf → Opening r s at t q Γ t₀ l₀ f₀ top o end t₁ l₁ f₁ types

-- the three tables with the record of the node at its depth
abbrev pub tags_with : Option Opened → List ℕ → ℕ → List ℕ
tags_with (Some r) t top = set t top r.node.tag
tags_with None t top = t

abbrev pub lefts_with : Option Opened → List ℕ → ℕ → List ℕ
lefts_with (Some r) l top = set l top r.node.left
lefts_with None l top = l

abbrev pub froms_with : Option Opened → List ℕ → ℕ → List ℕ
froms_with (Some r) f top = set f top r.node.from
froms_with None f top = f

pub record NodePost (s : List ℕ) (at leaf : ℕ) (o : List ℕ) (end : ℕ) (types : List ℕ) (r : Option Opened) : Type 0 where
  pub opens : (t l f : List ℕ) (top : ℕ) → OpenPost s at leaf t l f top o end (tags_with r t top) (lefts_with r l top) (froms_with r f top) types r

-- ---- the node at the top is closed
-- No clause cites this: a turn of the loop of `turns` closes the node, and the proof of the loop goes by what is said here of that.
abbrev pub state_of : State → ℕ → State
state_of st m = record { at = st.at; place = st.place; end = m; top = st.top - 1 }

abbrev pub closed_to : Bool → State → ℕ → Turned
closed_to true st m = finishes (Some m)
closed_to false st m = climbs (state_of st m)

abbrev pub Closing : Judged → State → List ℕ → ℕ → List ℕ → Turned → Type 0
Closing (typed xs) st o from p r = (r ≡ closed_to (eqb st.top 0) st (from + length xs)) × Spans p from (from + length xs) xs × Kept o p from
Closing wrong st o from p r = r ≡ finishes None

pub record ClosePost (tag : ℕ) (st : State) (o : List ℕ) (from : ℕ) (p : List ℕ) (r : Turned) : Type 0 where
  pub answer : (ts : List Ty) → RowAt o from st.end ts → Closing (judge (rule_at (class_of tag)) ts) st o from p r

-- ---- the stack
-- the record at depth d is that of the open node o: the types of its operands that have come end at n, the operands to come stand
-- from `at` up to q, and the first of them has place k. The root has place base. Each open node has two bytes of the frame and a place.
-- `out` operands, one or none, have been opened and not come.
pub record Held (tags lefts froms s leaves types : List ℕ) (base out : ℕ) (o : Open) (d n at q k : ℕ) : Type 0 where
  pub tag : get_or tags d 0 ≡ o.tag
  pub left : get_or lefts d 0 ≡ count o.todo
  pub row : RowAt types (get_or froms d 0) n (own_types (class_of o.tag) o.payload o.types o.ctx ++ o.done)
  pub sorts : List Sort
  pub kids : KidsAt s sorts at o.todo q
  pub leafs : LeavesIn o.todo (inner o) k s leaves
  pub number : ℕ
  pub arity : Operands (class_of o.tag) number (out + length o.done + count o.todo)
  pub room : get_or froms d 0 + type_limit ≤ type_limit * (k - base)
  pub deep : 2 * (d + 1) ≤ at
  pub within : at ≤ length s

-- the top, and those below it; past the last operand of the lowest the place is `stop`
abbrev pub Stack : List ℕ → List ℕ → List ℕ → List ℕ → List ℕ → List ℕ → ℕ → ℕ → ℕ → Open → List Open → ℕ → ℕ → ℕ → Type 0
Stack tags lefts froms s leaves types base stop out o [] n at k =
    (q : ℕ) × Held tags lefts froms s leaves types base out o 0 n at q k × (k + nodes_in o.todo ≡ stop) × (get_or froms 0 0 ≡ 0)
Stack tags lefts froms s leaves types base stop out o (p ∷ ps) n at k =
    (q : ℕ) × Held tags lefts froms s leaves types base out o (suc (length ps)) n at q k
    × Stack tags lefts froms s leaves types base stop 1 p ps (get_or froms (suc (length ps)) 0) q (k + nodes_in o.todo)

-- the tables have 2,048 entries: "our own code lends it, 2,048 records long"
pub record Lent (tags lefts froms : List ℕ) : Type 0 where
  pub of_tags : length tags ≡ 2048
  pub of_lefts : length lefts ≡ 2048
  pub of_froms : length froms ≡ 2048

pub record Running (tags lefts froms s leaves types : List ℕ) (st : State) (base stop : ℕ) (o : Open) (ps : List Open) : Type 0 where
  pub stack : Stack tags lefts froms s leaves types base stop 0 o ps st.end st.at st.place
  pub top : st.top ≡ length ps
  pub low : st.end ≤ type_limit * (st.place - base)
  pub later : base < st.place
  pub lent : Lent tags lefts froms
  pub frame : length s ≤ frame_limit
  pub places : stop ≤ 2048
  pub buffer : type_limit * (stop - base) + type_limit ≤ length types

pub record TurnPre (tags lefts froms s leaves types : List ℕ) (st : State) : Type 0 where
  pub base : ℕ
  pub stop : ℕ
  pub o : Open
  pub ps : List Open
  pub running : Running tags lefts froms s leaves types st base stop o ps

-- how much is left
abbrev pub steps_left : List ℕ → State → ℕ
steps_left s st = 2 * (length s - st.at) + st.top

abbrev pub Ending : Option ℕ → Answer → List ℕ → Type 0
Ending (Some m) a types = (t : Ty) × (a ≡ is t) × Spans types 0 m (enc_ty t)
Ending None a types = a ≡ bad

abbrev pub Turning : Turned → List ℕ → List ℕ → List ℕ → List ℕ → List ℕ → List ℕ → State → ℕ → ℕ → Answer → Type 0
Turning (descends u c st) tags lefts froms s leaves types st₀ base stop a =
    (o : Open) × (ps : List Open) × Running tags lefts froms s leaves types st base stop o ps × (close_up o ps ≡ a)
    × (steps_left s st < steps_left s st₀)
Turning (climbs st) tags lefts froms s leaves types st₀ base stop a =
    (o : Open) × (ps : List Open) × Running tags lefts froms s leaves types st base stop o ps × (close_up o ps ≡ a)
    × (steps_left s st < steps_left s st₀)
Turning (finishes t) tags lefts froms s leaves types st₀ base stop a = Ending t a types

pub record TurnPost (t₀ l₀ f₀ s leaves types₀ : List ℕ) (st : State) (t₁ l₁ f₁ types₁ : List ℕ) (r : Turned) : Type 0 where
  pub answer : (base stop : ℕ) (o : Open) (ps : List Open) → Running t₀ l₀ f₀ s leaves types₀ st base stop o ps
      → Turning r t₁ l₁ f₁ s leaves types₁ st base stop (close_up o ps)

-- ---- a turn with the node at hand by value
-- `TurnsPre` asks for a `StepPre` where the loop of `turns` begins. What a turn of it does is said by `StepPost`, which no clause cites:
-- the proof of the loop goes by it, and makes `TurnsPost` of it.

-- the tables have its record at this depth
pub record Top (nd : OpenNode) (top : ℕ) (tags lefts froms : List ℕ) : Type 0 where
  pub of_tag : get_or tags top 0 ≡ nd.tag
  pub of_left : get_or lefts top 0 ≡ nd.left
  pub of_from : get_or froms top 0 ≡ nd.from

pub record StepPre (nd : OpenNode) (s leaves types : List ℕ) (st : State) : Type 0 where
  pub tags : List ℕ
  pub lefts : List ℕ
  pub froms : List ℕ
  pub at_top : Top nd st.top tags lefts froms
  pub turn : TurnPre tags lefts froms s leaves types st

-- the three tables after the turn
abbrev pub tags_after : Turned → List ℕ → ℕ → List ℕ
tags_after (descends u c st) t top = set t (top + 1) c.tag
tags_after (climbs st) t top = t
tags_after (finishes r) t top = t

abbrev pub lefts_after : Turned → List ℕ → ℕ → List ℕ
lefts_after (descends u c st) l top = set (set l top u.left) (top + 1) c.left
lefts_after (climbs st) l top = l
lefts_after (finishes r) l top = l

abbrev pub froms_after : Turned → List ℕ → ℕ → List ℕ
froms_after (descends u c st) f top = set f (top + 1) c.from
froms_after (climbs st) f top = f
froms_after (finishes r) f top = f

-- what goes on the stack is the node at hand but for the operands to come, and the depth moves by one
abbrev pub Moving : Turned → OpenNode → State → Type 0
Moving (descends u c st) nd st₀ = (u.tag ≡ nd.tag) × (u.from ≡ nd.from) × (st.top ≡ st₀.top + 1)
Moving (climbs st) nd st₀ = st.top + 1 ≡ st₀.top
Moving (finishes r) nd st₀ = Unit {0}

pub record StepPost (nd : OpenNode) (s leaves types₀ : List ℕ) (st : State) (types₁ : List ℕ) (r : Turned) : Type 0 where
  pub moves : Moving r nd st
  pub turned : (t l f : List ℕ) → Top nd st.top t l f
      → TurnPost t l f s leaves types₀ st (tags_after r t st.top) (lefts_after r l st.top) (froms_after r f st.top) types₁ r

-- ---- all turns, from the root
pub record TurnsPre (nd : OpenNode) (s leaves types : List ℕ) (st : State) : Type 0 where
  pub root : st.top ≡ 0
  pub step : StepPre nd s leaves types st

pub record TurnsPost (nd : OpenNode) (s leaves types₀ : List ℕ) (st : State) (types₁ : List ℕ) (r : Option ℕ) : Type 0 where
  pub ends : (t l f : List ℕ) (base stop : ℕ) (o : Open) (ps : List Open) → Top nd st.top t l f
      → Running t l f s leaves types₀ st base stop o ps → Ending r (close_up o ps) types₁

-- ---- a tree
-- the tree t stands at `at` with its root at this place, and the table has the types of its bound identifiers
pub record TypePre (s : List ℕ) (at place : ℕ) (leaves types : List ℕ) : Type 0 where
  pub sort : Sort
  pub tree : Tree
  pub to : ℕ
  pub Γ : Ctx
  pub stands : IsAt s sort at tree to
  pub leafs : LeavesAt tree Γ place s leaves
  pub frame : length s ≤ frame_limit
  pub places : place + nodes tree ≤ 2048
  pub buffer : type_limit * nodes tree + type_limit ≤ length types

-- number 10, or the type of the tree
abbrev pub Typing : Option ℕ → Tree → Ctx → List ℕ → Type 0
Typing (Some n) t Γ types = (typed_tree t Γ ≡ true) × Spans types 0 n (enc_ty (type_of t Γ))
Typing None t Γ types = typed_tree t Γ ≡ false

pub record TypePost (s : List ℕ) (at place : ℕ) (leaves types : List ℕ) (r : Option ℕ) : Type 0 where
  pub answer : (e : Sort) (t : Tree) (q : ℕ) (Γ : Ctx) → IsAt s e at t q → LeavesAt t Γ place s leaves
      → place + nodes t ≤ 2048 → type_limit * nodes t + type_limit ≤ length types → Typing r t Γ types
