-- The equations of ∧ and ∨ keep what a predicate means: one proof for both.
-- Main results: junction_decided_keeps, junction_opposite_keeps (place 62), junction_none_keeps, junction_one_keeps,
-- junction_fewer_keeps (places 63 to 65).
use mathlib.Core.Path.{◌≡◌, refl, sym, ap, ◌∙◌}
use mathlib.Core.Bool.{Bool, true, false, not, ◌&&◌, ◌||◌, and-true, or-false}
use mathlib.Core.List.{List, ◌∷◌, ◌++◌}
use Prim.Native.Nat.{ℕ}
use Rattle.frame.specs.Types.{Ty}
use Rattle.frame.specs.Trees.{Tree, Forest, nil, cons, leaf, many, sole, append, count}
use Rattle.frame.specs.Tags.{predicate, repeat, class_of, lookup, form_at}
use Rattle.frame.specs.Operators.{#LAnd, #LOr, #BTrue, #BFalse}
use Rattle.frame.specs.Places.{Ctx}
use Rattle.typing.specs.Accepted.{Accepted, AcceptedAll}
use Rattle.typing.specs.Members.{In}
use Rattle.typing.proofs.Members.{in_left}
use Rattle.rules.specs.Equations.{¬ᵖ, Among, Junction, conjunction, disjunction, Dropped, done, SIMP_SPECIAL_AND_BTRUE/SIMP_SPECIAL_OR_BFALSE, SIMP_MULTI_AND/SIMP_MULTI_OR}
use Rattle.rules.proofs.Nodes.{Every}
use Rattle.rules.proofs.Operands.{dropped_every}
use Rattle.meaning.specs.Lists.{any, all}
use Rattle.meaning.specs.Operations.{op_at, op_of}
use Rattle.meaning.specs.Meaning.{Interpretation, Vals, Den, truth, holds, means, means_all}
use Rattle.meaning.specs.Premises.{SingleIntegers, NoInterOverNothing}
use Rattle.meaning.proofs.Lists.{so_any, so_all, clash, not_so, all_mid, any_mid}
use Rattle.meaning.proofs.Kit as kit
use Rattle.truth.proofs.Sound.{Formula, Keeps, keeps_truth, accepted_formula}
use Rattle.truth.proofs.Premises.{NoInter}
use Rattle.truth.proofs.Premises as premise
use Rattle.truth.proofs.Many.{single_each, single_all, alive_each, alive_all}
use Rattle.truth.proofs.Many as many

-- ---- truth values: d decides a junction (false ∧, true ∨)
abbrev both : Bool → Bool → Bool → Bool
both false a b = a && b
both true a b = a || b

both_neutral : (d b : Bool) → both d (not d) b ≡ b
both_neutral true b = refl
both_neutral false b = refl

module _ {A : Type 0} where
  abbrev joined : Bool → (A → Bool) → List A → Bool
  joined false p l = all p l
  joined true p l = any p l

  module _ (p : A → Bool) where
    joined_mid : (d : Bool) (l : List A) (k : A) (m : List A) → joined d p (l ++ (k ∷ m)) ≡ both d (p k) (joined d p (l ++ m))
    joined_mid true l k m = any_mid p l k m
    joined_mid false l k m = all_mid p l k m

    joined_decided : (d : Bool) (l : List A) (x : A) → In x l → p x ≡ d → joined d p l ≡ d
    joined_decided true l x i e = (so_any p l).1 (x, i, e)
    joined_decided false l x i e = not_so (λ h. clash (p x) ((so_all p l).0 h x i) e)

    joined_opposite : (d : Bool) (l : List A) (x y : A) → In x l → In y l → p y ≡ not (p x) → joined d p l ≡ d
    joined_opposite d l x y i j e = go d (p x) refl
      where
        go : (d b : Bool) → p x ≡ b → joined d p l ≡ d
        go true true h = joined_decided true l x i h
        go true false h = joined_decided true l y j (e ∙ ap not h)
        go false true h = joined_decided false l y j (e ∙ ap not h)
        go false false h = joined_decided false l x i h

    joined_repeated : (d : Bool) (l : List A) (k : A) (m : List A) → In k l → joined d p (l ++ (k ∷ m)) ≡ joined d p (l ++ m)
    joined_repeated d l k m i = joined_mid d l k m ∙ go d (p k) refl
      where
        go : (d b : Bool) → p k ≡ b → both d b (joined d p (l ++ m)) ≡ joined d p (l ++ m)
        go true true h = sym (joined_decided true (l ++ m) k (in_left k l m i) h)
        go true false h = refl
        go false true h = refl
        go false false h = sym (joined_decided false (l ++ m) k (in_left k l m i) h)

-- ---- operands: what holds of each
module _ (Γ : Ctx) where
  formula_each : (σ : ℕ → Ty) (ks : Forest) → AcceptedAll σ ks Γ (repeat predicate (count ks)) → Every Formula ks
  unfolding Accepted
  formula_each σ nil a = tt
  formula_each σ (cons k ks) a = (accepted_formula σ k Γ a.0, formula_each σ ks a.1)

-- ---- the two junctions
module _ (I : Interpretation) (σ : ℕ → Ty) (Γ : Ctx) where
  -- the truth of the operands joined
  abbrev says : Bool → Vals I Γ → Forest → Bool
  says d ρ ks = joined d (λ k. truth I k ρ) (means_all I ks Γ)

  -- the literal g is b
  record Literal (b : Bool) (g : ℕ) : Type 0 where
    formula : Formula (leaf g)
    truly : (ρ : Vals I Γ) → truth I (means I (leaf g) Γ) ρ ≡ b
    other : NoInter g

  -- the operator g is decided by b
  record Joins (b : Bool) (g : ℕ) : Type 0 where
    formula : Formula (leaf g)
    truly : (ks : Forest) (ρ : Vals I Γ) → truth I (means I (many g ks) Γ) ρ ≡ says b ρ ks
    other : NoInter g
    kids_formula : (ks : Forest) → Accepted σ (many g ks) Γ predicate → Every Formula ks

  literal_true : Literal true #BTrue
  unfolding means holds op_of op_at class_of lookup form_at
  literal_true = record { formula = (refl, refl); truly = λ ρ. refl; other = (refl, refl) }

  literal_false : Literal false #BFalse
  unfolding means holds op_of op_at class_of lookup form_at
  literal_false = record { formula = (refl, refl); truly = λ ρ. refl; other = (refl, refl) }

  joins_and : Joins false #LAnd
  unfolding Accepted means holds op_of op_at class_of lookup form_at
  joins_and = record { formula = (refl, refl); truly = λ ks ρ. refl; other = (refl, refl); kids_formula = λ ks a. formula_each Γ σ ks a.kids }

  joins_or : Joins true #LOr
  unfolding Accepted means holds op_of op_at class_of lookup form_at
  joins_or = record { formula = (refl, refl); truly = λ ks ρ. refl; other = (refl, refl); kids_formula = λ ks a. formula_each Γ σ ks a.kids }

  -- of a junction, by what decides it
  record Facts (g n d : ℕ) : Type 0 where
    by : Bool
    joins : Joins by g
    neutral : Literal (not by) n
    decides : Literal by d

  facts : {g n d : ℕ} → Junction g n d → Facts g n d
  facts conjunction = record { by = false; joins = joins_and; neutral = literal_true; decides = literal_false }
  facts disjunction = record { by = true; joins = joins_or; neutral = literal_false; decides = literal_true }

  -- what is dropped changes nothing
  module _ (b : Bool) (ρ : Vals I Γ) (left : Forest) (q : Tree) (right : Forest) where
    abbrev p : Den I Γ → Bool
    p k = truth I k ρ

    drop_neutral : truth I (means I q Γ) ρ ≡ not b → says b ρ (append left (cons q right)) ≡ says b ρ (append left right)
    unfolding means
    drop_neutral h =
        ap (joined b p) (many.append_means I Γ left (cons q right)) ∙ joined_mid p b (means_all I left Γ) (means I q Γ) (means_all I right Γ)
        ∙ ap (λ c. both b c (joined b p (means_all I left Γ ++ means_all I right Γ))) h ∙ both_neutral b
        (joined b p (means_all I left Γ ++ means_all I right Γ))
        ∙ ap (joined b p) (sym (many.append_means I Γ left right))

    drop_repeated : Among q left → says b ρ (append left (cons q right)) ≡ says b ρ (append left right)
    unfolding means
    drop_repeated i =
        ap (joined b p) (many.append_means I Γ left (cons q right))
        ∙ joined_repeated p b (means_all I left Γ) (means I q Γ) (means_all I right Γ) (many.among_means I Γ q left i)
        ∙ ap (joined b p) (sym (many.append_means I Γ left right))

  dropped_says : (n : ℕ) (b : Bool) (ρ : Vals I Γ) → truth I (means I (leaf n) Γ) ρ ≡ not b → {ks ls : Forest} → Dropped n ks ls
      → says b ρ ks ≡ says b ρ ls
  dropped_says n b ρ h (done ks) = refl
  dropped_says n b ρ h (SIMP_SPECIAL_AND_BTRUE/SIMP_SPECIAL_OR_BFALSE ks ls left right e r) = ap (says b ρ) e ∙ drop_neutral b ρ left (leaf n) right h ∙ dropped_says n b ρ h r
  dropped_says n b ρ h (SIMP_MULTI_AND/SIMP_MULTI_OR ks ls left right q e i r) = ap (says b ρ) e ∙ drop_repeated b ρ left q right i ∙ dropped_says n b ρ h r

  one_says : (b : Bool) (ρ : Vals I Γ) (q : Tree) → says b ρ (sole q) ≡ truth I (means I q Γ) ρ
  unfolding means any all
  one_says true ρ q = or-false (truth I (means I q Γ) ρ)
  one_says false ρ q = and-true (truth I (means I q Γ) ρ)

  none_says : (b : Bool) (ρ : Vals I Γ) → says b ρ nil ≡ not b
  unfolding means any all
  none_says true ρ = refl
  none_says false ρ = refl

  -- ---- the equations
  module _ (g n d : ℕ) (ps : Forest) (j : Junction g n d) where
    f : Facts g n d
    f = facts j

    decided_by : ((ρ : Vals I Γ) → says f.by ρ ps ≡ f.by) → Keeps I Γ (many g ps) (leaf d)
    decided_by h =
        keeps_truth I (many g ps) (leaf d) Γ f.joins.formula f.decides.formula (premise.leaf_single I Γ d f.decides.formula)
        (λ a. premise.leaf_alive I Γ d f.decides.other)
        (λ a ρ. f.joins.truly ps ρ ∙ h ρ ∙ sym (f.decides.truly ρ))

    pub junction_decided_keeps : Among (leaf d) ps → Keeps I Γ (many g ps) (leaf d)
    junction_decided_keeps i =
        decided_by (λ ρ. joined_decided (λ k. truth I k ρ) f.by (means_all I ps Γ) (means I (leaf d) Γ)
        (many.among_means I Γ (leaf d) ps i) (f.decides.truly ρ))

    pub junction_opposite_keeps : (q : Tree) → Among q ps → Among (¬ᵖ q) ps → Keeps I Γ (many g ps) (leaf d)
    junction_opposite_keeps q i k =
        decided_by (λ ρ. joined_opposite (λ k. truth I k ρ) f.by (means_all I ps Γ) (means I q Γ) (means I (¬ᵖ q) Γ)
        (many.among_means I Γ q ps i) (many.among_means I Γ (¬ᵖ q) ps k) (kit.not_truth I Γ q ρ))

    pub junction_none_keeps : Dropped n ps nil → Keeps I Γ (many g ps) (leaf n)
    junction_none_keeps r =
        keeps_truth I (many g ps) (leaf n) Γ f.joins.formula f.neutral.formula (premise.leaf_single I Γ n f.neutral.formula)
        (λ a. premise.leaf_alive I Γ n f.neutral.other)
        (λ a ρ. f.joins.truly ps ρ ∙ dropped_says n f.by ρ (f.neutral.truly ρ) r ∙ none_says f.by ρ ∙ sym (f.neutral.truly ρ))

    left_single : (ls : Forest) → Dropped n ps ls → SingleIntegers (many g ps) Γ → Every (λ k. SingleIntegers k Γ) ls
    left_single ls r s = dropped_every (λ k. SingleIntegers k Γ) r (single_each Γ ps (premise.kids_single I Γ g ps s))

    left_alive : (ls : Forest) → Dropped n ps ls → NoInterOverNothing I (many g ps) Γ → Every (λ k. NoInterOverNothing I k Γ) ls
    left_alive ls r a = dropped_every (λ k. NoInterOverNothing I k Γ) r (alive_each I Γ ps (premise.kids_alive I Γ g ps a))

    pub junction_one_keeps : (q : Tree) → Dropped n ps (sole q) → Accepted σ (many g ps) Γ predicate → SingleIntegers (many g ps) Γ
        → Keeps I Γ (many g ps) q
    junction_one_keeps q r a s =
        keeps_truth I (many g ps) q Γ f.joins.formula (dropped_every Formula r (f.joins.kids_formula ps a)).0
        (left_single (sole q) r s).0 (λ l. (left_alive (sole q) r l).0)
        (λ l ρ. f.joins.truly ps ρ ∙ dropped_says n f.by ρ (f.neutral.truly ρ) r ∙ one_says f.by ρ q)

    pub junction_fewer_keeps : (ls : Forest) → Dropped n ps ls → SingleIntegers (many g ps) Γ → Keeps I Γ (many g ps) (many g ls)
    junction_fewer_keeps ls r s =
        keeps_truth I (many g ps) (many g ls) Γ f.joins.formula f.joins.formula
        (premise.many_single I Γ g f.joins.formula ls (single_all Γ ls (left_single ls r s)))
        (λ a. premise.many_alive I Γ g f.joins.other ls (alive_all I Γ ls (left_alive ls r a)))
        (λ a ρ. f.joins.truly ps ρ ∙ dropped_says n f.by ρ (f.neutral.truly ρ) r ∙ sym (f.joins.truly ls ρ))
