-- The equations of finite and partition keep what a predicate means. Every set is finite here; ℕ, ℕ1, ℤ and a‥b are of
-- type ℙ(ℤ), which the integers premise rules out.
-- Main results: finite_keeps (finite(S) and any true predicate), and one NAME-keeps for each equation of places 1 to 15.
use mathlib.Core.Path.{◌≡◌, refl, sym, ap, ◌∙◌, fun_ext}
use mathlib.Core.Bool.{Bool, true, false, ◌||◌, or-false, and-true}
use mathlib.Core.List.{List, ◌∷◌}
use Prim.Native.Nat.{ℕ}
use Rattle.frame.specs.Types.{Ty, int, pow}
use Rattle.frame.specs.Trees.{Tree, Forest, nil, cons, leaf, two, many, typed, sole, pair, bodied, map_f}
use Rattle.frame.specs.Tags.{predicate, class_of, lookup, form_at}
use Rattle.frame.specs.Operators.{#BTrue, #Finite, #Natural, #Natural1, #Integer, #BUnion, #CProd, #CSet, #Mapsto, #Partition, #Equal, #LAnd, #LOr}
use Rattle.frame.specs.Places.{Ctx}
use Rattle.typing.specs.Typing.{element, relation, type_of, types_in}
use Rattle.typing.specs.TypeExpression.{to_expression}
use Rattle.typing.specs.Accepted.{Accepted}
use Rattle.rules.specs.Equations.{⊤, ⊥ᵖ, ⋀, ⋁, ◌≐◌, fin, ◌≐∅}
use Rattle.meaning.specs.Lists.{any, all}
use Rattle.meaning.specs.Operations.{partition, op_at, op_of}
use Rattle.meaning.specs.Meaning.{Interpretation, Vals, truth, set_of, equals, holds, disjoint_from, disjoint, partitions, means, means_all}
use Rattle.meaning.specs.Premises.{NoInt, SingleIntegers, NoInterOverNothing}
use Rattle.meaning.proofs.Sets.{is_empty_lem}
use Rattle.meaning.proofs.Kit as kit
use Rattle.truth.proofs.Sound.{Formula, Keeps, keeps_truth}
use Rattle.truth.proofs.Premises as premise
use Rattle.truth.proofs.Many as many

or_last : (a b : Bool) → (a || (b || (true || false))) ≡ true
or_last true b = refl
or_last false true = refl
or_last false false = refl

module _ (I : Interpretation) (σ : ℕ → Ty) (Γ : Ctx) where
  -- ---- finite
  pub fin_truth : (s : Tree) (ρ : Vals I Γ) → truth I (means I (fin s) Γ) ρ ≡ true
  unfolding means holds op_of op_at class_of lookup
  fin_truth s ρ = refl

  -- finite(S) and a predicate that is true
  pub finite_keeps : (s r : Tree) → Formula r → SingleIntegers r Γ → (NoInterOverNothing I s Γ → NoInterOverNothing I r Γ)
      → ((ρ : Vals I Γ) → truth I (means I r Γ) ρ ≡ true) → Keeps I Γ (fin s) r
  unfolding NoInterOverNothing op_of op_at class_of lookup form_at
  finite_keeps s r f h l t = keeps_truth I (fin s) r Γ (refl, refl) f h (λ a. l a.2.0) (λ a ρ. fin_truth s ρ ∙ sym (t ρ))

  -- ∅, BOOL, {a, …, b}
  pub finite_top_keeps : (s : Tree) → Keeps I Γ (fin s) ⊤
  unfolding means holds op_of op_at class_of lookup form_at
  finite_top_keeps s = finite_keeps s ⊤ (refl, refl) (premise.leaf_single I Γ #BTrue (refl, refl))
      (λ a. premise.leaf_alive I Γ #BTrue (refl, refl)) (λ ρ. refl)

  finite_finite : (s r : Tree) → SingleIntegers r Γ → (NoInterOverNothing I s Γ → NoInterOverNothing I r Γ) → Keeps I Γ (fin s) (fin r)
  unfolding class_of lookup form_at
  finite_finite s r h l = finite_keeps s (fin r) (refl, refl) (premise.one_single I Γ #Finite (refl, refl) r h)
      (λ a. premise.one_alive I Γ #Finite (refl, refl) r (l a)) (fin_truth r)

  -- no set of integers passes the premise
  no_integers : (e : Tree) → type_of e Γ ≡ pow int → SingleIntegers (fin e) Γ → ⊥
  unfolding SingleIntegers class_of lookup form_at
  no_integers e h s = premise.no_int e Γ int s.3.0 h

  pub finite_naturals_keeps : SingleIntegers (fin (leaf #Natural)) Γ → Keeps I Γ (fin (leaf #Natural)) ⊥ᵖ
  unfolding type_of class_of lookup
  finite_naturals_keeps s = absurd (no_integers (leaf #Natural) refl s)

  pub finite_positives_keeps : SingleIntegers (fin (leaf #Natural1)) Γ → Keeps I Γ (fin (leaf #Natural1)) ⊥ᵖ
  unfolding type_of class_of lookup
  finite_positives_keeps s = absurd (no_integers (leaf #Natural1) refl s)

  pub finite_integers_keeps : SingleIntegers (fin (leaf #Integer)) Γ → Keeps I Γ (fin (leaf #Integer)) ⊥ᵖ
  unfolding type_of class_of lookup
  finite_integers_keeps s = absurd (no_integers (leaf #Integer) refl s)

  -- id, prj1, prj2: s and t are the types of the elements on either side
  module _ (g : ℕ) (s t : Ty) where
    carried_source : SingleIntegers (fin (typed g (relation s t))) Γ → NoInt s
    unfolding SingleIntegers class_of lookup form_at
    carried_source h = h.3.0.0.0.0

    pub finite_carried_keeps : SingleIntegers (fin (typed g (relation s t))) Γ → Keeps I Γ (fin (typed g (relation s t))) (fin (to_expression s))
    finite_carried_keeps h =
        finite_finite (typed g (relation s t)) (to_expression s) (premise.type_single s Γ (carried_source h)) (λ a. premise.type_alive I s Γ)

  -- S ∪ … ∪ T
  fins_truth : (ρ : Vals I Γ) (ks : Forest) → all (λ d. truth I d ρ) (means_all I (map_f fin ks) Γ) ≡ true
  unfolding means holds all op_of op_at class_of lookup
  fins_truth ρ nil = refl
  fins_truth ρ (cons k ks) = fins_truth ρ ks

  pub finite_union_keeps : (ks : Forest) → SingleIntegers (fin (many #BUnion ks)) Γ → Keeps I Γ (fin (many #BUnion ks)) (⋀ (map_f fin ks))
  unfolding SingleIntegers NoInterOverNothing op_of op_at class_of lookup form_at
  finite_union_keeps ks s =
      finite_keeps (many #BUnion ks) (⋀ (map_f fin ks)) (refl, refl)
      (premise.many_single I Γ #LAnd (refl, refl) (map_f fin ks)
      (many.map_single fin Γ Γ (premise.one_single I Γ #Finite (refl, refl)) ks s.3.0.3))
      (λ a. premise.many_alive I Γ #LAnd (refl, refl) (map_f fin ks)
      (many.map_alive I fin Γ Γ (premise.one_alive I Γ #Finite (refl, refl)) ks a.2))
      (λ ρ. kit.and_truth I Γ (map_f fin ks) ρ ∙ fins_truth ρ ks)

  -- ℙ S, r⁻¹, S ◁ r: the first operand
  pub finite_first_keeps : (g : ℕ) (s : Tree) (ks : Forest) → SingleIntegers (fin (many g (cons s ks))) Γ
      → Keeps I Γ (fin (many g (cons s ks))) (fin s)
  unfolding SingleIntegers NoInterOverNothing class_of lookup form_at
  finite_first_keeps g s ks h = finite_finite (many g (cons s ks)) s (premise.kids_single I Γ g (cons s ks) h.3.0).0
      (λ a. (premise.kids_alive I Γ g (cons s ks) a).0)

  -- S × T: S = ∅, or T = ∅, or both are finite
  module _ (s t : Tree) where
    abbrev pub product_new : Tree
    product_new = ⋁ (cons (◌≐∅ Γ s) (pair (◌≐∅ Γ t) (⋀ (pair (fin s) (fin t)))))

    product_truth : (ρ : Vals I Γ) → truth I (means I product_new Γ) ρ ≡ true
    unfolding means holds any all op_of op_at class_of lookup
    product_truth ρ = or_last (truth I (means I (◌≐∅ Γ s) Γ) ρ) (truth I (means I (◌≐∅ Γ t) Γ) ρ)

    pub finite_product_keeps : SingleIntegers (fin (two #CProd s t)) Γ → Keeps I Γ (fin (two #CProd s t)) product_new
    unfolding SingleIntegers NoInterOverNothing op_of op_at class_of lookup form_at
    finite_product_keeps h =
        let hs = h.3.0.3.0 in
        let ht = h.3.0.3.1.0 in
        let ds = cons (◌≐∅ Γ s) (pair (◌≐∅ Γ t) (⋀ (pair (fin s) (fin t)))) in
        finite_keeps (two #CProd s t) product_new (refl, refl)
        (premise.many_single I Γ #LOr (refl, refl) ds (
          premise.empty_single I Γ s hs,
          (
            premise.empty_single I Γ t ht,
            (
              premise.many_single I Γ #LAnd (refl, refl) (pair (fin s) (fin t))
                  (premise.one_single I Γ #Finite (refl, refl) s hs, (premise.one_single I Γ #Finite (refl, refl) t ht, tt)),
              tt,
            ),
          ),
        ))
        (λ a. premise.many_alive I Γ #LOr (refl, refl) ds (
          premise.empty_alive I Γ s a.2.0,
          (
            premise.empty_alive I Γ t a.2.1.0,
            (
              premise.many_alive I Γ #LAnd (refl, refl) (pair (fin s) (fin t)) (
                premise.one_alive I Γ #Finite (refl, refl) s a.2.0,
                (premise.one_alive I Γ #Finite (refl, refl) t a.2.1.0, tt),
              ),
              tt,
            ),
          ),
        ))
        product_truth

  -- λx·P∣F, a set of maplets E ↦ F
  pub finite_lambda_keeps : (xs : List Ty) (p e f : Tree) → SingleIntegers (fin (bodied #CSet xs p (two #Mapsto e f))) Γ
      → Keeps I Γ (fin (bodied #CSet xs p (two #Mapsto e f))) (fin (bodied #CSet xs p e))
  unfolding SingleIntegers NoInterOverNothing type_of op_of op_at class_of lookup form_at
  finite_lambda_keeps xs p e f h =
      let s = h.3.0 in
      finite_finite (bodied #CSet xs p (two #Mapsto e f)) (bodied #CSet xs p e) (s.0, s.1.0, s.2, (s.3.0, (s.3.1.0.3.0, tt)))
      (λ a. (tt, tt, (a.2.0, (a.2.1.0.2.0, tt))))

  -- ---- partition
  module _ (s : Tree) (u : Ty) (h : type_of s Γ ≡ pow u) (ρ : Vals I Γ) where
    partition_at : (ks : Forest)
        → truth I (means I (many #Partition (cons s ks)) Γ) ρ ≡ holds I partition 901 (pow u ∷ types_in ks Γ) (means I s Γ ∷ means_all I ks Γ) ρ
    unfolding means type_of op_of op_at class_of lookup
    partition_at ks = rw h

    partition_none : truth I (means I (many #Partition (sole s)) Γ) ρ ≡ truth I (means I (◌≐∅ Γ s) Γ) ρ
    unfolding means holds partitions disjoint any
    partition_none =
        partition_at nil ∙ and-true (equals I (pow u) (set_of I (means I s Γ) ρ u) (λ x. false)) ∙ is_empty_lem I.size u
        (set_of I (means I s Γ) ρ u) ∙ sym (kit.empty_truth I Γ s u h ρ)

    partition_one : (t : Tree) → truth I (means I (many #Partition (pair s t)) Γ) ρ ≡ truth I (means I (s ≐ t) Γ) ρ
    unfolding means type_of holds partitions disjoint disjoint_from any
    partition_one t =
        partition_at (sole t) ∙ and-true (equals I (pow u) (set_of I (means I s Γ) ρ u) (λ x. set_of I (means I t Γ) ρ u x || false))
        ∙ ap (λ f. equals I (pow u) (set_of I (means I s Γ) ρ u) f) (fun_ext (λ x. or-false (set_of I (means I t Γ) ρ u x))) ∙ sym
        (kit.equal_truth I Γ s t (pow u) h ρ)

  pub partition_none_keeps : (s : Tree) → Accepted σ (many #Partition (sole s)) Γ predicate → SingleIntegers (many #Partition (sole s)) Γ
      → Keeps I Γ (many #Partition (sole s)) (◌≐∅ Γ s)
  unfolding Accepted SingleIntegers NoInterOverNothing type_of op_of op_at class_of lookup form_at
  partition_none_keeps s a h =
      let e = a.fits in
      keeps_truth I (many #Partition (sole s)) (◌≐∅ Γ s) Γ (refl, refl) (refl, refl) (premise.empty_single I Γ s h.3.0)
      (λ l. premise.empty_alive I Γ s l.2.0)
      (λ l ρ. partition_none s (element (type_of s Γ)) (cc) ρ)

  pub partition_one_keeps : (s t : Tree) → Accepted σ (many #Partition (pair s t)) Γ predicate → SingleIntegers (many #Partition (pair s t)) Γ
      → Keeps I Γ (many #Partition (pair s t)) (s ≐ t)
  unfolding Accepted SingleIntegers NoInterOverNothing type_of op_of op_at class_of lookup form_at
  partition_one_keeps s t a h =
      let e = a.fits in
      keeps_truth I (many #Partition (pair s t)) (s ≐ t) Γ (refl, refl) (refl, refl)
      (premise.two_single I Γ #Equal (refl, refl) s t h.3.0 h.3.1.0)
      (λ l. premise.two_alive I Γ #Equal (refl, refl) s t l.2.0 l.2.1.0)
      (λ l ρ. partition_one s (element (type_of s Γ)) (cc) ρ t)
