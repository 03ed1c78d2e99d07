-- What a decision stands for: an answer of the definitions, and the bytes of the tree that it builds.
use Rattle.std.specs.Prelude.{◌≡◌, Bool, true, false, not, ◌&&◌, ◌||◌, List, [], ◌∷◌, ◌++◌, ℕ, ◌+◌, ◌≤◌, eqb, ltb, map, Option, Some, None}
use Rattle.frame.specs.Types.{Ty}
use Rattle.frame.specs.Trees.{head, Tree, node, Forest, nil, cons, count, tag_of, nodes_in, one, two, many, sole, append}
use Rattle.frame.specs.Tags.{predicate, Layout, these, payload, counted, binding, form_of, pick}
use Rattle.frame.specs.Operators.{#SetExt, #In, #SubsetEq, #BUnion, #BInter, #LAnd, #LOr, #Not}
use Rattle.frame.specs.Encoding.{enc_number, enc}
use Rattle.frame.specs.Places.{Ctx, under, found, find}
use Rattle.typing.specs.Typing.{type_of}
use Rattle.rules.specs.Change.{Change, to, same, joined}
use Rattle.rules.specs.EqualsEmptySet.{minuends, subtrahends}
use Rattle.templates.specs.Template.{Filling, filled}
use Rattle.templates.specs.Programs.{template}
use Rattle.decision.specs.declared.Decision.{Decision}
use Rattle.decision.specs.declared.Decision.TheVariants as D
use Rattle.decision.specs.declared.kept.KeptChild.{KeptChild}

-- two operands in their context, with their types, and the types of binders
abbrev pub filling : Ctx → Tree → Tree → List Ty → Filling
filling Δ a b us = record { operands = a ∷ b ∷ []; types = type_of a Δ ∷ type_of b Δ ∷ []; binder_types = us }

-- what the template of a place makes of each of the children
unfoldable pub each_filled : ℕ → Ctx → List Ty → Forest → List ℕ
each_filled place Δ us nil = []
each_filled place Δ us (cons k ks) = filled (template place) (filling Δ k k us) ++ each_filled place Δ us ks

-- the children whose places a list has
unfoldable pub At : Tree → Ctx → List ℕ → Forest → Type 0
At t Θ [] nil = Unit {0}
At t Θ [] (cons w ks) = ⊥
At t Θ (p ∷ ps) nil = ⊥
At t Θ (p ∷ ps) (cons w ks) = (find t [] p ≡ found Θ w) × At t Θ ps ks

-- the places whose right sides take a node's binders, and the nodes that have some, around a child
abbrev pub takes_binders : ℕ → Bool
takes_binders p = eqb p 11 || (eqb p 35 || (eqb p 59 || (eqb p 85 || (eqb p 86 || eqb p 87))))

abbrev pub has_binders : Layout → Bool
has_binders (these es) = false
has_binders (payload w) = false
has_binders (counted lo hi e) = false
has_binders (binding lo hi []) = false
has_binders (binding lo hi (e ∷ es)) = true

-- the pattern is one of the templates, and a node of tag g has the binders that it takes
abbrev pub Bound : ℕ → ℕ → Type 0
Bound pattern g = (ltb pattern 88 && (not (takes_binders pattern) || has_binders (form_of g).layout)) ≡ true

-- ∨ at place 86, else ∧
abbrev pub joint : ℕ → ℕ
joint place = pick (eqb place 86) #LOr #LAnd

-- the answer c at a node of the tree t is the place's, with the bytes of the pattern, filled so
pub record FixedMeans (t : Tree) (place pattern first second binder : ℕ) (c : Change) : Type 0 where
  pub new : Tree
  pub answer : c ≡ to place new
  pub Δ : Ctx
  pub a : Tree
  pub b : Tree
  pub at_first : find t [] first ≡ found Δ a
  pub at_second : find t [] second ≡ found Δ b
  pub Θ : Ctx
  pub g : ℕ
  pub n : ℕ
  pub us : List Ty
  pub ks : Forest
  pub at_binder : find t [] binder ≡ found Θ (node (head g n us) ks)
  pub bound : Bound pattern g
  pub bytes : enc new ≡ filled (template pattern) (filling Δ a b us)

-- it is ∧ or ∨ over the right side of the place for each child of the node
pub record EachMeans (t : Tree) (place at binder : ℕ) (c : Change) : Type 0 where
  pub new : Tree
  pub answer : c ≡ to place new
  pub Ξ : Ctx
  pub g : ℕ
  pub n : ℕ
  pub vs : List Ty
  pub ks : Forest
  pub at_node : find t [] at ≡ found Ξ (node (head g n vs) ks)
  pub few : count ks ≤ 255
  pub Θ : Ctx
  pub h : ℕ
  pub m : ℕ
  pub us : List Ty
  pub ls : Forest
  pub at_binder : find t [] binder ≡ found Θ (node (head h m us) ls)
  pub bound : Bound place h
  pub bytes : enc new ≡ enc_number 2 (joint place) ++ (count ks ∷ each_filled place (under g vs Ξ) us ks)

-- the places of the children that a list keeps
abbrev pub places_of : List KeptChild → List ℕ
places_of = map (λ child. child.place)

-- it is the node's own operator over the children that stand at the places of the list
pub record KeptMeans (t v : Tree) (Γ : Ctx) (kept : List ℕ) (c : Change) : Type 0 where
  pub ks : Forest
  pub answer : c ≡ to 65 (many (tag_of v) ks)
  pub operator : (form_of (tag_of v)).layout ≡ counted 2 255 predicate
  pub listed : At t Γ kept ks

-- it says that a member is in none of the other operands of an intersection: {a} is the operand at `single`
pub record ApartMeans (t : Tree) (at single : ℕ) (c : Change) : Type 0 where
  pub a : Tree
  pub left : Forest
  pub right : Forest
  pub Ξ : Ctx
  pub n : ℕ
  pub vs : List Ty
  pub at_node : find t [] at ≡ found Ξ (node (head #BInter n vs) (append left (cons (many #SetExt (sole a)) right)))
  pub there : single ≡ at + 1 + nodes_in left
  pub answer : c ≡ to 37 (one #Not (two #In a (joined #BInter (append left right))))

-- it says that an intersection is within the sets that its operands subtract
pub record WithinMeans (t : Tree) (at : ℕ) (c : Change) : Type 0 where
  pub ks : Forest
  pub Ξ : Ctx
  pub n : ℕ
  pub vs : List Ty
  pub at_node : find t [] at ≡ found Ξ (node (head #BInter n vs) ks)
  pub answer : c ≡ to 38 (two #SubsetEq (joined #BInter (minuends ks)) (joined #BUnion (subtrahends ks)))

-- the decision d, made at a node v in the context Γ of the tree t, stands for the answer c; kept are the places in the lent list
abbrev pub StandsFor : Tree → Tree → Ctx → List ℕ → Decision → Change → Type 0
StandsFor t v Γ kept (D.Fixed place pattern first second binder) c = FixedMeans t place pattern first second binder c
StandsFor t v Γ kept (D.Each place at binder) c = EachMeans t place at binder c
StandsFor t v Γ kept D.Kept c = KeptMeans t v Γ kept c
StandsFor t v Γ kept (D.Apart at single) c = ApartMeans t at single c
StandsFor t v Γ kept (D.Within at) c = WithinMeans t at c

-- the same where a rule decides, or does not apply
abbrev pub Means : Tree → Tree → Ctx → List ℕ → Option Decision → Change → Type 0
Means t v Γ kept None c = c ≡ same
Means t v Γ kept (Some d) c = StandsFor t v Γ kept d c
