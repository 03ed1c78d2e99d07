-- What `simplify_assoc_pred` of src/lib.rt answers stands for what the definition of that name gives.
-- Main results: decided_done, settled_done (the ways out of `simplify_assoc_pred`).
use mathlib.Core.Path.{◌≡◌, refl, sym, ap, ◌∙◌}
use mathlib.Core.Bool.{Bool, true, false, not, ◌&&◌}
use mathlib.Core.List.{List, [], ◌∷◌}
use Prim.Native.Nat.{ℕ}
use native.Mathlib.Omega.{arith}
use lib.Dec.{eqb, ltb}
use lib.ListN.{length}
use Rattle.std.proofs.Common.{Option, Some, None}
use Rattle.std.proofs.lemmas.List.{length-map}
use borrow.Author.Tests.{eqb-true, eqb-false}
use Rattle.frame.specs.Types.{Ty}
use Rattle.frame.specs.Trees.{head, Tree, node, Forest, nil, cons, count, leaf, many}
use Rattle.frame.specs.Tags.{pick, predicate, counted, form_of, lookup, class_of, form_at}
use Rattle.frame.specs.Encoding.{enc}
use Rattle.frame.specs.Places.{Ctx, under, found, find}
use Rattle.nav.specs.PlaceTables.{Table, TagPost, ArityPost}
use Rattle.rules.specs.Change.{Change, to, same, when}
use Rattle.rules.specs.Simplify.{Kept, kept, decided, scan, finish, simplify_assoc_pred}
use Rattle.templates.specs.Template.{filled}
use Rattle.templates.specs.Programs.{template}
use Rattle.templates.proofs.RightSides.{side, right_side}
use Rattle.decision.specs.Decision.{filling, takes_binders, At, places_of, Means, FixedMeans}
use Rattle.decision.specs.declared.kept.KeptChild.{KeptChild}
use Rattle.decision.specs.declared.Decision.{Decision}
use Rattle.decision.specs.declared.Decision.TheVariants as D
use Rattle.junction.specs.Junction.{literals_of, Absorbed, AbsorbPost, settled, JunctionPost}
use Rattle.junction.specs.declared.Literals.{Literals}
use Rattle.decision.proofs.Shapes.{fixed_at, unbound}

-- a pattern without operands: that of a literal
abbrev Literal : ℕ → ℕ → Type 0
Literal pattern g = ((ltb pattern 88 && not (takes_binders pattern)) ≡ true)
    × ((us : List Ty) (Δ : Ctx) (a b : Tree) → filled (template pattern) (filling Δ a b us) ≡ enc (leaf g))

true_literal : Literal 1 610
unfolding side
true_literal = (refl, λ us Δ a b. right_side 1 refl Δ a b us)

false_literal : Literal 2 611
unfolding side
false_literal = (refl, λ us Δ a b. right_side 2 refl Δ a b us)

-- ---- what the decision stands for

-- as many as there are places
at_count : (t : Tree) (Γ : Ctx) (ps : List ℕ) (ks : Forest) → At t Γ ps ks → length ps ≡ count ks
unfolding At
at_count t Γ [] nil a = refl
at_count t Γ [] (cons w ks) a = absurd a
at_count t Γ (p ∷ ps) nil a = absurd a
at_count t Γ (p ∷ ps) (cons w ks) a = let z = at_count t Γ ps ks a.1 in omega arith

module _ (t : Tree) (k : ℕ) (Γ : Ctx) (g x : ℕ) (us : List Ty) (ks : Forest) (f : find t [] k ≡ found Γ (node (head g x us) ks)) where
  abbrev v : Tree
  v = node (head g x us) ks

  -- a right side of one operand
  fixed_means : (place pattern p : ℕ) → (ltb pattern 88 && not (takes_binders pattern)) ≡ true → (Δ : Ctx) (a new : Tree) (c : Change)
      → c ≡ to place new → find t [] p ≡ found Δ a → enc new ≡ filled (template pattern) (filling Δ a a us)
      → FixedMeans t place pattern p p k c
  fixed_means place pattern p plain Δ a new c e h b =
      fixed_at t place pattern c new e p p k Δ Γ a a v h h f (unbound pattern g plain) b

  module _ (lay : (form_of g).layout ≡ counted 2 255 predicate) (neutral determinant : ℕ) (lent : List KeptChild) where
    abbrev ends : Kept → Change
    ends c = finish g neutral determinant (count ks) c

    -- a literal that decides
    decided_means : (pd : ℕ) → Literal pd determinant → (c : Kept) → c ≡ decided → Means t v Γ (places_of lent) (Some (D.Fixed 62 pd k k k)) (ends c)
    decided_means pd (ld, ed) c e = fixed_means 62 pd k ld Γ v (leaf determinant) (ends c) (ap ends e) f (sym (ed us Γ v v))

    more : (out : Forest) (c : Change) (b : Bool) → c ≡ pick b same (to 65 (many g out)) → At t Γ (places_of lent) out
        → Means t v Γ (places_of lent) (pick b None (Some D.Kept)) c
    more out c true e a = e
    more out c false e a = record { ks = out; answer = e; operator = lay; listed = a }

    turned : (b : Bool) (c : Change) → when (not b) c ≡ pick b same c
    turned true c = refl
    turned false c = refl

-- what stays
module _ (t : Tree) (k : ℕ) (Γ : Ctx) (g x : ℕ) (us : List Ty) (ks : Forest) (f : find t [] k ≡ found Γ (node (head g x us) ks))
    (lay : (form_of g).layout ≡ counted 2 255 predicate) (neutral determinant pn : ℕ) (ln : Literal pn neutral) where
  stay_means : (lent : List KeptChild) (out : Forest) (c : Kept) → c ≡ kept out → At t Γ (places_of lent) out
      → Means t (node (head g x us) ks) Γ (places_of lent) (settled lent k (count ks) pn) (finish g neutral determinant (count ks) c)
  unfolding side At
  stay_means [] nil c e a =
      let v : Tree = node (head g x us) ks in
      fixed_means t k Γ g x us ks f 63 pn k ln.0 Γ v (leaf neutral) (finish g neutral determinant (count ks) c) (ap (finish g neutral determinant (count ks)) e) f
      (sym (ln.1 us Γ v v))
  stay_means [] (cons w out) c e a = absurd a
  stay_means (child ∷ []) nil c e a = absurd a
  stay_means (child ∷ []) (cons w nil) c e a =
      fixed_means t k Γ g x us ks f 64 64 child.place refl Γ w w (finish g neutral determinant (count ks) c) (ap (finish g neutral determinant (count ks)) e) a.0
      (sym (right_side 64 refl Γ w w us))
  stay_means (child ∷ []) (cons w (cons u out)) c e a = absurd a.1
  stay_means (child ∷ second ∷ others) nil c e a = absurd a
  stay_means (child ∷ second ∷ others) (cons w nil) c e a = absurd a.1
  stay_means (child ∷ second ∷ others) (cons w (cons u out)) c e a =
      let l : List KeptChild = child ∷ second ∷ others in
      let o : Forest = cons w (cons u out) in
      let z : length l ≡ count o = sym (length-map l (λ (y : KeptChild). y.place)) ∙ at_count t Γ (places_of l) o a in
      let y : eqb (length l) (count ks) ≡ eqb (count o) (count ks) = ap (λ (i : ℕ). eqb i (count ks)) z in
      rw y
      (more t k Γ g x us ks f lay neutral determinant l o (finish g neutral determinant (count ks) c) (eqb (count o) (count ks))
      (ap (finish g neutral determinant (count ks)) e ∙ turned t k Γ g x us ks f lay neutral determinant l (eqb (count o) (count ks)) (to 65 (many g o))) a)

-- the children of ∧ and ∨ are in the node's own context
abbrev Joining : ℕ → Type 0
Joining g = ((us : List Ty) (Γ : Ctx) → under g us Γ ≡ Γ) × ((form_of g).layout ≡ counted 2 255 predicate)

and_joins : Joining 351
unfolding lookup class_of form_at
and_joins = (λ us Γ. refl, refl)

or_joins : Joining 352
unfolding lookup class_of form_at
or_joins = (λ us Γ. refl, refl)

-- the decision, by the node's operator
module _ (s st nx : List ℕ) (k tag : ℕ) (post : TagPost s st k tag) (lent : List KeptChild) where
  abbrev Answers : Option Decision → ℕ → ℕ → ℕ → Type 0
  Answers d g neutral determinant = (t : Tree) (n : ℕ) (Γ : Ctx) (y : ℕ) (us : List Ty) (ks : Forest) → Table s t st nx n
      → find t [] k ≡ found Γ (node (head g y us) ks) → Means t (node (head g y us) ks) Γ (places_of lent) d (simplify_assoc_pred g neutral determinant ks)

  at_decided : (g neutral determinant pd : ℕ) → Joining g → (neutral ≡ determinant → ⊥) → Literal pd determinant
      → AbsorbPost s st nx k neutral determinant lent None → Answers (Some (D.Fixed 62 pd k k k)) g neutral determinant
  unfolding simplify_assoc_pred
  at_decided g neutral determinant pd (inside, lay) apart ld absorbed t n Γ y us ks tb f =
      decided_means t k Γ g y us ks f lay neutral determinant lent pd ld (scan neutral determinant ks nil) (absorbed.scanned apart t n Γ g y us ks tb f)

  at_settled : (g neutral determinant pn : ℕ) → Joining g → (neutral ≡ determinant → ⊥) → Literal pn neutral
      → AbsorbPost s st nx k neutral determinant lent (Some tt) → (r : ℕ) → ArityPost s st k r → Answers (settled lent k r pn) g neutral determinant
  unfolding simplify_assoc_pred
  at_settled g neutral determinant pn (inside, lay) apart ln absorbed r many t n Γ y us ks tb f =
      let z : r ≡ count ks = many.many t n Γ (node (head g y us) ks) tb.framed f in
      let a : Absorbed t Γ lent (Some tt) (scan neutral determinant ks nil) = rw (inside us Γ) at (absorbed.scanned apart t n Γ g y us ks tb f) in
      rw z (stay_means t k Γ g y us ks f lay neutral determinant pn ln lent a.0 (scan neutral determinant ks nil) a.1 a.2)

  -- no other operator stands there
  not_there : (d : Option Decision) (g neutral determinant : ℕ) → (tag ≡ g → ⊥) → Answers d g neutral determinant
  not_there d g neutral determinant e t n Γ y us ks tb f = absurd (e (post.tag t n Γ (node (head g y us) ks) tb.framed f))

  abbrev and_literals : Literals
  and_literals = record { neutral = 610; neutral_pattern = 1; determinant = 611; determinant_pattern = 2 }

  abbrev or_literals : Literals
  or_literals = record { neutral = 611; neutral_pattern = 2; determinant = 610; determinant_pattern = 1 }

  -- by the operator, of whose literals P holds
  module _ (d : Option Decision) (P : Literals → Type 0) (conj : P and_literals → Answers d 351 610 611) (disj : P or_literals → Answers d 352 611 610) where
    by_operator : (literals : Literals) → literals ≡ literals_of tag → P literals → JunctionPost s st nx k lent d
    by_operator literals el h = go (eqb tag 351) refl (rw el at h)
      where
        go : (b : Bool) → eqb tag 351 ≡ b → P (pick b and_literals or_literals) → JunctionPost s st nx k lent d
        go true e p = record { conj = conj p; disj = not_there d 352 611 610 (λ z. let y = eqb-true tag 351 e in omega (arith, z)) }
        go false e p = record { conj = not_there d 351 610 611 (eqb-false tag 351 e); disj = disj p }

  module _ (literals : Literals) (el : literals ≡ literals_of tag) where
    pub decided_done : (r : Option (Unit {0})) → r ≡ None → AbsorbPost s st nx k literals.neutral literals.determinant lent r → (d : Option Decision)
        → d ≡ Some (D.Fixed 62 literals.determinant_pattern k k k) → JunctionPost s st nx k lent d
    decided_done r er absorbed d ed =
        by_operator d
        (λ l. AbsorbPost s st nx k l.neutral l.determinant lent None × (d ≡ Some (D.Fixed 62 l.determinant_pattern k k k)))
        (λ p. rw p.1 (at_decided 351 610 611 2 and_joins (λ q. omega arith) false_literal p.0))
        (λ p. rw p.1 (at_decided 352 611 610 1 or_joins (λ q. omega arith) true_literal p.0))
        literals el (rw er at absorbed, ed)

    pub settled_done : (r : Option (Unit {0})) → r ≡ Some tt → AbsorbPost s st nx k literals.neutral literals.determinant lent r → (n : ℕ) → ArityPost s st k n
        → (d : Option Decision) → d ≡ settled lent k n literals.neutral_pattern → JunctionPost s st nx k lent d
    settled_done r er absorbed n many d ed =
        by_operator d (λ l. AbsorbPost s st nx k l.neutral l.determinant lent (Some tt) × (d ≡ settled lent k n l.neutral_pattern))
        (λ p. rw p.1 (at_settled 351 610 611 1 and_joins (λ q. omega arith) true_literal p.0 n many))
        (λ p. rw p.1 (at_settled 352 611 610 2 or_joins (λ q. omega arith) false_literal p.0 n many))
        literals el (rw er at absorbed, ed)
