-- Decisions by a table of tags. A row has a tag and the place of the source that it leads to; what holds of all rows is said by
-- one equation between lists, which computes.
-- Main results: by_nodes, by_children, by_doubles.
use mathlib.Core.Path.{◌≡◌, refl}
use mathlib.Core.Bool.{Bool, true, false, not, ◌&&◌, ◌||◌}
use mathlib.Core.List.{List, [], ◌∷◌}
use Prim.Native.Nat.{ℕ}
use lib.Dec.{eqb, ltb}
use borrow.Author.Tests.{eqb-true}
use Rattle.frame.specs.Types.{Ty}
use Rattle.frame.specs.Trees.{head, Tree, node, Forest, nil, cons}
use Rattle.frame.specs.Tags.{Sort, form_of, sorts_of}
use Rattle.frame.specs.Places.{Ctx, under}
use Rattle.nav.specs.PlaceTables.{TagPost}
use Rattle.rules.specs.Change.{Change, to}
use Rattle.templates.proofs.RightSides.{sides, is_in, side}
use Rattle.decision.specs.Decision.{takes_binders, has_binders}
use Rattle.decision.proofs.Shapes.{OfNode, OfChild, OfTwo, by_node, by_single, by_double}

pub data Row : Type 0 where
  row : ℕ → ℕ → Row

abbrev pub is_row : List Row → ℕ → ℕ → Bool
is_row [] g p = false
is_row (row h q ∷ rs) g p = (eqb g h && eqb p q) || is_row rs g p

-- what f gives for each row
abbrev pub over : {A : Type 0} → (ℕ → ℕ → A) → List Row → List A
over f [] = []
over f (row g p ∷ rs) = f g p ∷ over f rs

module _ {A : Type 0} (f e : ℕ → ℕ → A) where
  row_or : (g p h q : ℕ) (b c d : Bool) → eqb g h ≡ b → eqb p q ≡ c → f h q ≡ e h q → ((b && c) || d) ≡ true
      → (d ≡ true → f g p ≡ e g p) → f g p ≡ e g p
  row_or g p h q true true d zg zp z i later = rw (eqb-true g h zg, eqb-true p q zp) z
  row_or g p h q true false d zg zp z i later = later i
  row_or g p h q false c d zg zp z i later = later i

  at_row : (rs : List Row) → over f rs ≡ over e rs → (g p : ℕ) → is_row rs g p ≡ true → f g p ≡ e g p
  at_row [] z g p i = cc
  at_row (row h q ∷ rs) z g p i =
      let now : f h q ≡ e h q = cc in
      let later : over f rs ≡ over e rs = cc in
      row_or g p h q (eqb g h) (eqb p q) (is_row rs g p) refl refl now i (at_row rs later g p)

-- all rows have right sides, and nodes of their tags have the binders that those take
abbrev bound : ℕ → ℕ → Bool
bound g p = ltb p 88 && (not (takes_binders p) || has_binders (form_of g).layout)

abbrev has : ℕ → ℕ → Bool
has g p = is_in sides p

abbrev yes : ℕ → ℕ → Bool
yes g p = true

module _ (rule : Ctx → Tree → Change) (s st nx : List ℕ) (k tag : ℕ) (pt : TagPost s st k tag) (rs : List Row) (bd : over bound rs ≡ over yes rs)
    (hs : over has rs ≡ over yes rs) where
  abbrev answer : Ctx → ℕ → List Ty → Forest → ℕ → ℕ → Change
  answer Γ n us ks g p = rule Γ (node (head g n us) ks)

  abbrev of_node : Ctx → ℕ → List Ty → Forest → ℕ → ℕ → Change
  of_node Γ n us ks g p = to p (side p Γ (node (head g n us) ks) (node (head g n us) ks) us)

  abbrev of_two : Ctx → List Ty → Tree → Tree → ℕ → ℕ → Change
  of_two Γ us a b g p = to p (side p (under g us Γ) a b us)

  abbrev sorts : ℕ → ℕ → ℕ → List Sort
  sorts x g p = sorts_of (form_of g).layout x

  abbrev these : List Sort → ℕ → ℕ → List Sort
  these es g p = es

  pub by_nodes : ((Γ : Ctx) (n : ℕ) (us : List Ty) (ks : Forest) → over (answer Γ n us ks) rs ≡ over (of_node Γ n us ks) rs)
      → (g p : ℕ) → is_row rs g p ≡ true → OfNode rule s st nx k tag g p
  by_nodes ans g p i =
      by_node rule s st nx k tag pt g p (at_row bound yes rs bd g p i) (at_row has yes rs hs g p i)
      (λ Γ n us ks. at_row (answer Γ n us ks) (of_node Γ n us ks) rs (ans Γ n us ks) g p i)

  pub by_children : (e : Sort) → ((x : ℕ) → over (sorts x) rs ≡ over (these (e ∷ [])) rs)
      → ((Γ : Ctx) (n : ℕ) (us : List Ty) (a : Tree) → over (answer Γ n us (cons a nil)) rs ≡ over (of_two Γ us a a) rs)
      → (g p : ℕ) → is_row rs g p ≡ true → OfChild rule s st nx k tag g p
  by_children e tk ans g p i =
      by_single rule s st nx k tag pt g p (at_row bound yes rs bd g p i) (at_row has yes rs hs g p i) e
      (λ x. at_row (sorts x) (these (e ∷ [])) rs (tk x) g p i)
      (λ Γ n us a. at_row (answer Γ n us (cons a nil)) (of_two Γ us a a) rs (ans Γ n us a) g p i)

  pub by_doubles : (e d : Sort) → ((x : ℕ) → over (sorts x) rs ≡ over (these (e ∷ d ∷ [])) rs)
      → ((Γ : Ctx) (n : ℕ) (us : List Ty) (a b : Tree) → over (answer Γ n us (cons a (cons b nil))) rs ≡ over (of_two Γ us a b) rs)
      → (g p : ℕ) → is_row rs g p ≡ true → OfTwo rule s st nx k tag g p
  by_doubles e d tk ans g p i =
      by_double rule s st nx k tag pt g p (at_row bound yes rs bd g p i) (at_row has yes rs hs g p i) e d
      (λ x. at_row (sorts x) (these (e ∷ d ∷ [])) rs (tk x) g p i)
      (λ Γ n us a b. at_row (answer Γ n us (cons a (cons b nil))) (of_two Γ us a b) rs (ans Γ n us a b) g p i)
