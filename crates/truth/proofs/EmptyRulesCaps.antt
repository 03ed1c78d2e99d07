-- The equations of A ∩ … ∩ B = ∅ where an operand is {a}, and where some are differences.
-- Main results: single_emptied, subtracted_emptied.
use mathlib.Core.Path.{◌≡◌, refl, sym, ap, ap₂, ◌∙◌, fun_ext}
use mathlib.Core.Bool.{Bool, true, false, not, ◌&&◌, ◌||◌, and-true, or-false, and_assoc}
use Prim.Native.Nat.{ℕ}
use Rattle.frame.specs.Types.{Ty, pow}
use Rattle.frame.specs.Trees.{Tree, Forest, nil, cons, two, many, sole, append}
use Rattle.frame.specs.Tags.{class_of, lookup, form_at}
use Rattle.frame.specs.Operators.{#SetMinus, #BUnion, #BInter, #In, #Not}
use Rattle.frame.specs.Places.{Ctx}
use Rattle.typing.specs.Typing.{ty, type_of, types_in}
use Rattle.rules.specs.Equations.{¬ᵖ, ◌∈ᵖ◌, ◌⊆◌, ext, inters, over, Subtracted, none, minus, other}
use Rattle.rules.proofs.Operands.{every_mid, minuends_every, subtrahends_every}
use Rattle.meaning.specs.Lists.{any, all}
use Rattle.meaning.specs.Operations.{op_at, op_of}
use Rattle.meaning.specs.Meaning.{Interpretation, Vals, Val, Den, val, set_of, some, equals, value_of, means, means_all}
use Rattle.meaning.specs.Premises.{NoInt, SingleIntegers, SingleIntegersIn, NoInterOverNothing, NoInterOverNothingIn}
use Rattle.meaning.proofs.Sets.{within_is}
use Rattle.meaning.proofs.Kit as kit
use Rattle.truth.proofs.EmptySetsMore as more
use Rattle.truth.proofs.Premises.{NoInter}
use Rattle.truth.proofs.Premises as premise
use Rattle.truth.proofs.Many.{append_means, single_each, single_all, alive_each, alive_all}
use Rattle.truth.proofs.Emptied.{Emptied, emptied}
use Rattle.truth.proofs.EmptyRulesKit.{within_emptied}

-- ---- ∩ and ∪ over the operands that are left
over_single : (Γ : Ctx) (g : ℕ) → ((ks : Forest) → type_of (many g ks) Γ ≡ ty 0 (types_in ks Γ)) → (ks : Forest) → SingleIntegersIn ks Γ
    → SingleIntegers (over g ks) Γ
unfolding SingleIntegers type_of
over_single Γ g h nil s = premise.node_single Γ g nil (rw (h nil) tt) tt
over_single Γ g h (cons a nil) s = s.0
over_single Γ g h (cons a (cons b ks)) s =
    premise.node_single Γ g (cons a (cons b ks)) (rw (h (cons a (cons b ks))) (premise.single_type a Γ s.0)) s

module _ (I : Interpretation) (Γ : Ctx) where
  over_alive : (g : ℕ) → NoInter g → (ks : Forest) → NoInterOverNothingIn I ks Γ → NoInterOverNothing I (over g ks) Γ
  unfolding NoInterOverNothing
  over_alive g f nil a = premise.many_alive I Γ g f nil tt
  over_alive g f (cons k nil) a = a.0
  over_alive g f (cons k (cons l ks)) a = premise.many_alive I Γ g f (cons k (cons l ks)) a

  module _ (ρ : Vals I Γ) (u : Ty) (x : Val I u) where
    cap_is : (ks : Forest) → set_of I (means I (inters ks) Γ) ρ u x ≡ all (λ k. set_of I k ρ u x) (means_all I ks Γ)
    unfolding means value_of op_of op_at class_of lookup
    cap_is ks = refl

    cap_over_is : (ks : Forest) → set_of I (means I (over #BInter ks) Γ) ρ u x ≡ all (λ k. set_of I k ρ u x) (means_all I ks Γ)
    unfolding means value_of op_of op_at class_of lookup all
    cap_over_is nil = refl
    cap_over_is (cons a nil) = sym (and-true (set_of I (means I a Γ) ρ u x))
    cap_over_is (cons a (cons b ks)) = refl

    cup_over_is : (ks : Forest) → set_of I (means I (over #BUnion ks) Γ) ρ u x ≡ any (λ k. set_of I k ρ u x) (means_all I ks Γ)
    unfolding means value_of op_of op_at class_of lookup any
    cup_over_is nil = refl
    cup_over_is (cons a nil) = sym (or-false (set_of I (means I a Γ) ρ u x))
    cup_over_is (cons a (cons b ks)) = refl

    alone_is : (a : Tree) → set_of I (means I (ext (sole a)) Γ) ρ u x ≡ equals I u x (val I (means I a Γ) ρ u)
    unfolding means value_of op_of op_at class_of lookup any
    alone_is a = or-false (equals I u x (val I (means I a Γ) ρ u))

-- ---- A ∩ {a} ∩ B = ∅ is ¬ (a ∈ A ∩ B)
module _ (I : Interpretation) (σ : ℕ → Ty) (Γ : Ctx) (a : Tree) (left right : Forest) where
  with_a : Forest
  with_a = append left (cons (ext (sole a)) right)

  rest : Tree
  rest = over #BInter (append left right)

  single_some : (u : Ty) → NoInt u → (ρ : Vals I Γ) → some I u (set_of I (means I (inters with_a) Γ) ρ u) ≡ set_of I (means I rest Γ) ρ u
      (val I (means I a Γ) ρ u)
  unfolding with_a rest means
  single_some u n ρ =
      let x = val I (means I a Γ) ρ u in
      ap (some I u) (fun_ext (λ y. cap_is I Γ ρ u y with_a ∙ ap (all (λ k. set_of I k ρ u y)) (append_means I Γ left (cons (ext (sole a)) right))))
      ∙ more.cap_single I.size u n (λ k. set_of I k ρ u) (means_all I left Γ) (means_all I right Γ) (means I (ext (sole a)) Γ) x
      (λ y. alone_is I Γ ρ u y a)
      ∙ ap (all (λ k. set_of I k ρ u x)) (sym (append_means I Γ left right)) ∙ sym (cap_over_is I Γ ρ u x (append left right))

  pub single_emptied : (u : Ty) → type_of (inters (append left (cons (ext (sole a)) right))) Γ ≡ pow u → type_of a Γ ≡ u
      → SingleIntegers (inters (append left (cons (ext (sole a)) right))) Γ
      → Emptied I σ Γ (inters (append left (cons (ext (sole a)) right))) (¬ᵖ (a ∈ᵖ over #BInter (append left right)))
  unfolding with_a rest SingleIntegers NoInterOverNothing type_of op_of op_at class_of lookup form_at
  single_emptied u he ha s =
      let r = every_mid (λ k. SingleIntegers k Γ) left (ext (sole a)) right (single_each Γ with_a s.3) in
      emptied I σ Γ (inters with_a) (¬ᵖ (a ∈ᵖ rest)) u he (refl, refl)
      (premise.one_single I Γ #Not (refl, refl) (a ∈ᵖ rest) (premise.two_single I Γ #In (refl, refl) a rest r.0.3.0
      (over_single Γ #BInter (λ k. refl) (append left right) (single_all Γ (append left right) r.1))))
      (λ l. (let k = every_mid (λ k. NoInterOverNothing I k Γ) left (ext (sole a)) right (alive_each I Γ with_a l.2) in
      premise.one_alive I Γ #Not (refl, refl) (a ∈ᵖ rest) (premise.two_alive I Γ #In (refl, refl) a rest k.0.2.0
      (over_alive I Γ #BInter (refl, refl) (append left right) (alive_all I Γ (append left right) k.1)))))
      (λ l ρ. kit.not_truth I Γ (a ∈ᵖ rest) ρ ∙ ap not (kit.member_truth I Γ a rest u ha ρ
      ∙ sym (single_some u (premise.no_int (inters with_a) Γ u s he) ρ)))

-- ---- (A ∖ B) ∩ C ∩ (D ∖ E) = ∅ is A ∩ C ∩ D ⊆ B ∪ E
module _ (I : Interpretation) (Γ : Ctx) where
  apart : (a b l m : Bool) → ((a && not b) && (l && not m)) ≡ ((a && l) && not (b || m))
  apart true true true m = refl
  apart true true false m = refl
  apart true false l m = refl
  apart false b l m = refl

  module _ (ρ : Vals I Γ) (u : Ty) (x : Val I u) where
    abbrev has : Den I Γ → Bool
    has k = set_of I k ρ u x

    subtracted_is : {ks ls ms : Forest} → Subtracted ks ls ms
        → all has (means_all I ks Γ) ≡ (all has (means_all I ls Γ) && not (any has (means_all I ms Γ)))
    unfolding means value_of op_of op_at class_of lookup all any
    subtracted_is none = refl
    subtracted_is (minus a b ks ls ms d) =
        ap (λ c. (has (means I a Γ) && not (has (means I b Γ))) && c) (subtracted_is d)
        ∙ apart (has (means I a Γ)) (has (means I b Γ)) (all has (means_all I ls Γ)) (any has (means_all I ms Γ))
    subtracted_is (other k ks ls ms o d) =
        ap (λ c. has (means I k Γ) && c) (subtracted_is d) ∙ sym
        (and_assoc (has (means I k Γ)) (all has (means_all I ls Γ)) (not (any has (means_all I ms Γ))))

  pub subtracted_emptied : (σ : ℕ → Ty) (ks ls ms : Forest) (u : Ty) → Subtracted ks ls ms → type_of (inters ks) Γ ≡ pow u
      → type_of (over #BInter ls) Γ ≡ pow u → SingleIntegers (inters ks) Γ → Emptied I σ Γ (inters ks) (over #BInter ls ⊆ over #BUnion ms)
  unfolding SingleIntegers NoInterOverNothing type_of op_of op_at class_of lookup form_at
  subtracted_emptied σ ks ls ms u d he hl s =
      let a = over #BInter ls in
      let b = over #BUnion ms in
      let parts : (x y : Tree) → SingleIntegers (two #SetMinus x y) Γ → SingleIntegers x Γ × SingleIntegers y Γ = λ x y t. (t.3.0, t.3.1.0) in
      let lives : (x y : Tree) → NoInterOverNothing I (two #SetMinus x y) Γ
      → NoInterOverNothing I x Γ × NoInterOverNothing I y Γ = λ x y t. (t.2.0, t.2.1.0) in
      within_emptied I Γ σ (inters ks) u he a b u hl (over_single Γ #BInter (λ k. refl) ls
      (single_all Γ ls (minuends_every (λ k. SingleIntegers k Γ) parts d (single_each Γ ks s.3))))
      (over_single Γ #BUnion (λ k. refl) ms (single_all Γ ms
      (subtrahends_every (λ k. SingleIntegers k Γ) parts d (single_each Γ ks s.3))))
      (λ l. over_alive I Γ #BInter (refl, refl) ls (alive_all I Γ ls
      (minuends_every (λ k. NoInterOverNothing I k Γ) lives d (alive_each I Γ ks l.2))))
      (λ l. over_alive I Γ #BUnion (refl, refl) ms (alive_all I Γ ms
      (subtrahends_every (λ k. NoInterOverNothing I k Γ) lives d (alive_each I Γ ks l.2))))
      (λ ρ. within_is I.size u (set_of I (means I a Γ) ρ u) (set_of I (means I b Γ) ρ u)
      ∙ ap (λ f. not (some I u f)) (fun_ext (λ x. ap₂ (λ c e. c && not e) (cap_over_is I Γ ρ u x ls) (cup_over_is I Γ ρ u x ms) ∙ sym
      (subtracted_is ρ u x d) ∙ sym (cap_is I Γ ρ u x ks))))
