-- Two places of a tree, and decisions on one of the two trees that stand there.
-- Main results: both_placed, turned, two_few; on_left, on_right, on_right_at_left, negated_left.
use Rattle.std.proofs.Common.{Option, Some}
use mathlib.Core.Path.{◌≡◌, refl, sym, ap, ◌∙◌}
use mathlib.Core.Bool.{Bool, true, false, not, ◌&&◌}
use mathlib.Core.List.{List, []}
use Prim.Native.Nat.{ℕ, ◌+◌, ◌<◌}
use lib.Dec.{eqb, ltb}
use borrow.Author.Tests.{eqb-true, eqb-false}
use Rattle.frame.specs.Types.{Ty}
use Rattle.frame.specs.Trees.{Tree, tag_of, one}
use Rattle.frame.specs.Tags.{pick, predicate, lookup, class_of, form_at}
use Rattle.frame.specs.Operators.{#Not}
use Rattle.frame.specs.Places.{Ctx, found, find}
use Rattle.nav.specs.PlaceTables.{Table, BothPlaced, TagPost}
use Rattle.nav.proofs.Hops.{place_sorted}
use Rattle.nav.proofs.SamePlaces.{only_child}
use Rattle.rules.specs.Change.{Change, to}
use Rattle.rules.specs.Simplify.{make_neg}
use Rattle.templates.proofs.RightSides.{sides, is_in, side, right_side}
use Rattle.decision.specs.Decision.{takes_binders, FixedMeans, Means}
use Rattle.decision.specs.Decides.{HereTwo, DecidesTwo, negated_at}
use Rattle.decision.specs.declared.Decision.{Decision}
use Rattle.decision.specs.declared.Decision.TheVariants as D
use Rattle.decision.proofs.Opposites.{neg_other}
use Rattle.decision.proofs.Shapes.{single, place_few, own_types, fixed_at, unbound, first_placed, second_placed}

-- ---- two places
pub both_placed : {s st nx : List ℕ} {a b : ℕ} → HereTwo s st nx a b → BothPlaced s st a b
both_placed h = record { left = first_placed h; right = second_placed h }

pub turned : {s st nx : List ℕ} {a b : ℕ} → HereTwo s st nx a b → HereTwo s st nx b a
turned h = record { t = h.t; n = h.n; table = h.table; Γ = h.Γ; v = h.w; w = h.v; first = h.second; second = h.first }

pub two_few : {s st nx : List ℕ} {a b : ℕ} → HereTwo s st nx a b → (a < 2048) × (b < 2048)
two_few h = (place_few h.table h.first, place_few h.table h.second)

-- ---- decisions on one of two trees
module _ (rule : Tree → Tree → Change) (s st nx : List ℕ) (a b place : ℕ) (plain : (ltb place 88 && not (takes_binders place)) ≡ true)
    (has : is_in sides place ≡ true) where
  -- what the rule answers, where trees stand at both places
  abbrev Answers : (Ctx → Tree → Tree → Tree) → Type 0
  Answers new = (t : Tree) (n : ℕ) (Γ : Ctx) (v w : Tree) → Table s t st nx n → find t [] a ≡ found Γ v → find t [] b ≡ found Γ w
      → rule v w ≡ to place (new Γ v w)

  abbrev Decided : Option Decision → Type 0
  Decided d = (r : Option Decision) → r ≡ d → DecidesTwo rule s st nx a b r

  -- the right side has the one operand u; its binder is u or the other tree
  of_one : (t : Tree) (i j : ℕ) (Γ : Ctx) (u y : Tree) (c : Change) → find t [] i ≡ found Γ u → find t [] j ≡ found Γ y
      → c ≡ to place (side place Γ u u (own_types y)) → FixedMeans t place place i i j c
  of_one t i j Γ u y c fu fy ans =
      fixed_at t place place c (side place Γ u u (own_types y)) ans i i j Γ Γ u u y fu fu fy (unbound place (tag_of y) plain)
      (sym (right_side place has Γ u u (own_types y)))

  pub on_left : Answers (λ Γ v w. side place Γ v v (own_types v)) → Decided (Some (D.Fixed place place a a a))
  on_left ans r er = record { means = λ t n Γ v w tb fa fb x Ξ kept. rw er (of_one t a a Γ v v (rule v w) fa fa (ans t n Γ v w tb fa fb)) }

  pub on_right : Answers (λ Γ v w. side place Γ w w (own_types w)) → Decided (Some (D.Fixed place place b b b))
  on_right ans r er = record { means = λ t n Γ v w tb fa fb x Ξ kept. rw er (of_one t b b Γ w w (rule v w) fb fb (ans t n Γ v w tb fa fb)) }

  pub on_right_at_left : Answers (λ Γ v w. side place Γ w w (own_types v)) → Decided (Some (D.Fixed place place b b a))
  on_right_at_left ans r er = record { means = λ t n Γ v w tb fa fb x Ξ kept. rw er (of_one t b a Γ w v (rule v w) fb fa (ans t n Γ v w tb fa fb)) }

  -- a negation, removed where there is one
  module _ (is : (Γ : Ctx) (u : Tree) (us : List Ty) → side place Γ u u us ≡ one #Not u) where
    negated_means : (t : Tree) (n p : ℕ) (Γ : Ctx) (v : Tree) (tag : ℕ) (c : Change) → Table s t st nx n → find t [] p ≡ found Γ v
        → TagPost s st p tag → c ≡ to place (make_neg v) → (x : Tree) (Ξ : Ctx) (kept : List ℕ) → Means t x Ξ kept (negated_at place tag p) c
    unfolding lookup class_of form_at side make_neg
    negated_means t n p Γ v tag c tb f pt ans x Ξ kept = go (eqb tag 701) refl
      where
        go : (b : Bool) → eqb tag 701 ≡ b → Means t x Ξ kept (pick b (Some (D.Fixed place 64 (p + 1) (p + 1) p)) (Some (D.Fixed place place p p p))) c
        go true h =
            let z = pt.tag t n Γ v tb.framed f in
            let o = single 701 predicate (λ x. refl) v (place_sorted s t st n tb.framed p Γ v f) (sym z ∙ eqb-true tag 701 h) in
            let fc = only_child t nx tb.follows p Γ 701 o.n o.us o.a (f ∙ ap (found Γ) o.is) in
            fixed_at t place 64 c o.a (ans ∙ ap (λ (u : Tree). to place (make_neg u)) o.is) (p + 1) (p + 1) p Γ Γ o.a
            o.a v fc fc f (unbound 64 (tag_of v) refl) (sym (right_side 64 refl Γ o.a o.a (own_types v)))
        go false h =
            let z = pt.tag t n Γ v tb.framed f in
            of_one t p p Γ v v c f f (ans ∙ ap (to place) (neg_other v (λ q. eqb-false tag 701 h (z ∙ q)) ∙ sym (is Γ v (own_types v))))

    pub negated_left : (left : ℕ) → TagPost s st a left → Answers (λ Γ v w. make_neg v) → Decided (negated_at place left a)
    negated_left left pl ans r er =
        record { means = λ t n Γ v w tb fa fb x Ξ kept. rw er (negated_means t n a Γ v left (rule v w) tb fa pl (ans t n Γ v w tb fa fb) x Ξ kept) }

    pub negated_right : (right : ℕ) → TagPost s st b right → Answers (λ Γ v w. make_neg w) → Decided (negated_at place right b)
    negated_right right pr ans r er =
        record { means = λ t n Γ v w tb fa fb x Ξ kept. rw er (negated_means t n b Γ w right (rule v w) tb fb pr (ans t n Γ v w tb fa fb) x Ξ kept) }
