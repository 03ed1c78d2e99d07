-- What the code of sameness answers (src/lib.rt), for all trees that stand at the two positions. "Predicates hold expressions and
-- expressions predicates: comparing them is two functions that call each other over a falling byte count." "Sameness of predicates and of
-- expressions call one another, remaining frame bytes falling."
use Rattle.std.specs.Prelude.{ℕ, ◌+◌, ◌≤◌, ◌≡◌, Option, Some, None, List, length}
use Rattle.frame.specs.Trees.{Head, Tree, node, Forest}
use Rattle.frame.specs.Tags.{Sort}
use Rattle.tags.specs.TagCodes.{kinds_for}
use Rattle.frame.specs.Encoding.{enc, encs}
use Rattle.sameness.specs.Stands.{Stands, StandAll}
use Rattle.sameness.specs.declared.Alike.{Alike}

-- some tree of sort e stands at a, and some at b
pub record BothStand (s : List ℕ) (e : Sort) (a b : ℕ) : Type 0 where
  pub t : Tree
  pub u : Tree
  pub left : Stands s a e t
  pub right : Stands s b e u

pub record BothStandAll (s : List ℕ) (es : List Sort) (a b : ℕ) : Type 0 where
  pub ts : Forest
  pub us : Forest
  pub left : StandAll s a es ts
  pub right : StandAll s b es us

-- yes, with the two ends, of trees that are equal; no of trees that are not
pub record SamePost (s : List ℕ) (e : Sort) (a b : ℕ) (r : Option (ℕ × ℕ)) : Type 0 where
  pub same : (t u : Tree) (x y : ℕ) → Stands s a e t → Stands s b e u → r ≡ Some (x, y) → (t ≡ u) × (x ≡ a + length (enc t)) × (y ≡ b + length (enc u))
  pub differ : (t u : Tree) → Stands s a e t → Stands s b e u → r ≡ None → t ≡ u → ⊥

pub record SameAllPost (s : List ℕ) (es : List Sort) (a b : ℕ) (r : Option (ℕ × ℕ)) : Type 0 where
  pub same : (ts us : Forest) (x y : ℕ) → StandAll s a es ts → StandAll s b es us → r ≡ Some (x, y)
      → (ts ≡ us) × (x ≡ a + length (encs ts)) × (y ≡ b + length (encs us))
  pub differ : (ts us : Forest) → StandAll s a es ts → StandAll s b es us → r ≡ None → ts ≡ us → ⊥

-- the sorts of the children
abbrev pub kinds : Alike → List Sort
kinds h = kinds_for h.count h.first h.later

-- two trees with one head, their children where h says, and of these sorts
pub record Agreed (s : List ℕ) (a b : ℕ) (t u : Tree) (h : Alike) : Type 0 where
  pub top : Head
  pub ts : Forest
  pub us : Forest
  pub is_left : t ≡ node top ts
  pub is_right : u ≡ node top us
  pub left : StandAll s h.left (kinds h) ts
  pub right : StandAll s h.right (kinds h) us
  pub end_left : a + length (enc t) ≡ h.left + length (encs ts)
  pub end_right : b + length (enc u) ≡ h.right + length (encs us)
  pub past : a + 2 ≤ h.left

pub record HeadsPost (s : List ℕ) (e : Sort) (a b : ℕ) (r : Option Alike) : Type 0 where
  pub agree : (t u : Tree) (h : Alike) → Stands s a e t → Stands s b e u → r ≡ Some h → Agreed s a b t u h
  pub differ : (t u : Tree) → Stands s a e t → Stands s b e u → r ≡ None → t ≡ u → ⊥
