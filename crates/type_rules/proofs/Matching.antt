-- What it says that a pattern matches: the types are those that the pattern means.
-- Main definition: meant. Main results: match_means (types that match are what the pattern means), judge_means (a rule that holds).
use mathlib.Core.Path.{◌≡◌, refl, sym, ap, ◌∙◌}
use mathlib.Core.Bool.{Bool, true, false}
use mathlib.Core.List.{List, [], ◌∷◌, ◌++◌, append_assoc, append-nil}
use Prim.Native.Nat.{ℕ, zero, suc, ◌-◌, ◌<◌}
use native.Mathlib.Omega.{arith}
use lib.ListN.{length}
use lib.Dec.{ltb, eqb}
use borrow.Author.Tests.{ltb-true, eqb-true}
use Rattle.frame.specs.Types.{Ty, bool, int, given, pow, prod}
use Rattle.frame.specs.Tags.{pick}
use Rattle.frame.specs.Sameness.{same_ty}
use Rattle.frame.proofs.SameTrees.{same_ty_lem}
use Rattle.frame.proofs.Inversion.{then_of}
use Rattle.typing.specs.Typing.{ty}
use Rattle.type_rules.specs.Patterns.{
  symbol_of,
  parts_of,
  Matched,
  fits,
  differs,
  at_variable,
  matches,
  Rule,
  typed,
  wrong,
  completed,
  then_matched,
  pairs_fit,
  last_ones,
  ends,
  judge,
}

pub differs_not {ℓ} : {X : Type ℓ} {us ρ : List Ty} → differs ≡ fits us ρ → X
differs_not e = let z : ◌≡◌ {A = ℕ} 0 1 = cc in absurd (omega arith)

pub wrong_not {ℓ} : {X : Type ℓ} {xs : List ℕ} → wrong ≡ typed xs → X
wrong_not e = let z : ◌≡◌ {A = ℕ} 0 1 = cc in absurd (omega arith)

-- ---- lists of types that go on
abbrev pub Extends : List Ty → List Ty → Type 0
Extends ρ σ = (τ : List Ty) × (σ ≡ ρ ++ τ)

pub extends_refl : (ρ : List Ty) → Extends ρ ρ
extends_refl ρ = ([], sym (append-nil ρ))

pub extends_trans : (ρ σ τ : List Ty) → Extends ρ σ → Extends σ τ → Extends ρ τ
extends_trans ρ σ τ a b = (a.0 ++ b.0, b.1 ∙ ap (λ (l : List Ty). l ++ b.0) a.1 ∙ append_assoc ρ a.0 b.0)

ty_front : (i : ℕ) (ρ τ : List Ty) → i < length ρ → ty i (ρ ++ τ) ≡ ty i ρ
ty_front i [] τ h = absurd (omega arith)
ty_front zero (t ∷ ρ) τ h = refl
ty_front (suc i) (t ∷ ρ) τ h = ty_front i ρ τ (omega arith)

pub ty_kept : (i : ℕ) (ρ σ : List Ty) → i < length ρ → Extends ρ σ → ty i σ ≡ ty i ρ
ty_kept i ρ σ h e = ap (ty i) e.1 ∙ ty_front i ρ e.0 h

ty_end : (ρ : List Ty) (t : Ty) (τ : List Ty) → ty (length ρ) ((ρ ++ (t ∷ [])) ++ τ) ≡ t
ty_end [] t τ = refl
ty_end (u ∷ ρ) t τ = ty_end ρ t τ

-- ---- what a pattern means, with types for its variables: so many types, in front of us
abbrev powered : List Ty → List Ty
powered [] = []
powered (t ∷ us) = pow t ∷ us

abbrev paired : List Ty → List Ty
paired [] = []
paired (t ∷ []) = []
paired (t ∷ u ∷ us) = prod t u ∷ us

abbrev closed : ℕ → List Ty → List Ty
closed zero us = bool ∷ us
closed (suc zero) us = int ∷ us
closed (suc (suc zero)) us = us
closed (suc (suc (suc zero))) us = powered us
closed (suc (suc (suc (suc zero)))) us = paired us
closed (suc (suc (suc (suc (suc b))))) us = us

abbrev meant_one : ℕ → List Ty → List Ty → List Ty
meant_one b ρ us = pick (ltb b 5) (closed b us) (ty (b - 5) ρ ∷ us)

abbrev pub meant : List ℕ → List Ty → List Ty → List Ty
meant [] ρ us = us
meant (b ∷ ps) ρ us = meant_one b ρ (meant ps ρ us)

-- ---- one symbol
record Step (b : ℕ) (t : Ty) (us ρ : List Ty) (go : List Ty → List Ty → Matched) (vs σ : List Ty) : Type 0 where
  next : List Ty
  env : List Ty
  on : go next env ≡ fits vs σ
  more : Extends ρ env
  back : (τ : List Ty) → Extends env τ → t ∷ us ≡ meant_one b τ next

closed_parts : (t : Ty) (us : List Ty) (b : ℕ) → b < 5 → b ≡ symbol_of t → t ∷ us ≡ closed b (parts_of t ++ us)
closed_parts bool us b h e = ap (λ (i : ℕ). closed i us) (sym e)
closed_parts int us b h e = ap (λ (i : ℕ). closed i us) (sym e)
closed_parts (given n) us b h e = absurd (omega arith)
closed_parts (pow t) us b h e = ap (λ (i : ℕ). closed i (t ∷ us)) (sym e)
closed_parts (prod t u) us b h e = ap (λ (i : ℕ). closed i (t ∷ u ∷ us)) (sym e)

module _ (b : ℕ) (t : Ty) (us ρ : List Ty) (go : List Ty → List Ty → Matched) (vs σ : List Ty) where
  fixed_step : ltb b 5 ≡ true → pick (eqb b (symbol_of t)) (go (parts_of t ++ us) ρ) differs ≡ fits vs σ → Step b t us ρ go vs σ
  fixed_step h e =
      let p = then_of (eqb b (symbol_of t)) (go (parts_of t ++ us) ρ) differs (fits vs σ) differs_not e in
      record {
        next = parts_of t ++ us;
        env = ρ;
        on = p.1;
        more = extends_refl ρ;
        back = λ τ x. rw h
            (closed_parts t us b (ltb-true b 5 h) (eqb-true _ _ p.0));
      }

  bound_step : ltb b 5 ≡ false → ltb (b - 5) (length ρ) ≡ true → pick (same_ty t (ty (b - 5) ρ)) (go us ρ) differs ≡ fits vs σ → Step b t us ρ go vs σ
  bound_step h l e =
      let p = then_of (same_ty t (ty (b - 5) ρ)) (go us ρ) differs (fits vs σ) differs_not e in
      record {
        next = us;
        env = ρ;
        on = p.1;
        more = extends_refl ρ;
        back = λ τ x. rw h
            (ap (λ (u : Ty). u ∷ us) (same_ty_lem _ _ p.0 ∙ sym (ty_kept (b - 5) ρ τ (ltb-true _ _ l) x)));
      }

  new_step : ltb b 5 ≡ false → pick (eqb (b - 5) (length ρ)) (go us (ρ ++ (t ∷ []))) differs ≡ fits vs σ → Step b t us ρ go vs σ
  new_step h e =
      let p = then_of (eqb (b - 5) (length ρ)) (go us (ρ ++ (t ∷ []))) differs (fits vs σ) differs_not e in
      let i : b - 5 ≡ length ρ = eqb-true (b - 5) (length ρ) p.0 in
      record {
        next = us;
        env = ρ ++ (t ∷ []);
        on = p.1;
        more = (t ∷ [], refl);
        back = λ τ x. rw (h, i)
            (ap (λ (u : Ty). u ∷ us) (sym (ap (ty (length ρ)) x.1 ∙ ty_end ρ t x.0)));
      }

  variable_step : ltb b 5 ≡ false → (l : Bool) → ltb (b - 5) (length ρ) ≡ l
      → pick l (pick (same_ty t (ty (b - 5) ρ)) (go us ρ) differs)
      (pick (eqb (b - 5) (length ρ)) (go us (ρ ++ (t ∷ []))) differs) ≡ fits vs σ → Step b t us ρ go vs σ
  variable_step h true l e = bound_step h l e
  variable_step h false l e = new_step h e

  symbol_step : (f : Bool) → ltb b 5 ≡ f
      → pick f (pick (eqb b (symbol_of t)) (go (parts_of t ++ us) ρ) differs)
      (pick (ltb b 9) (at_variable (b - 5) t us ρ go) differs) ≡ fits vs σ → Step b t us ρ go vs σ
  symbol_step true h e = fixed_step h e
  symbol_step false h e =
      let p = then_of (ltb b 9) (at_variable (b - 5) t us ρ go) differs (fits vs σ) differs_not e in
      variable_step h (ltb (b - 5) (length ρ)) refl p.1

-- ---- a pattern
pub record Means (ps : List ℕ) (us ρ vs σ : List Ty) : Type 0 where
  pub more : Extends ρ σ
  pub back : (τ : List Ty) → Extends σ τ → us ≡ meant ps τ vs

pub match_means : (ps : List ℕ) (us ρ vs σ : List Ty) → matches ps us ρ ≡ fits vs σ → Means ps us ρ vs σ
unfolding matches
match_means [] us ρ vs σ e = record { more = ([], cc (append-nil ρ)); back = λ τ x. cc }
match_means (b ∷ ps) [] ρ vs σ e = differs_not e
match_means (b ∷ ps) (t ∷ us) ρ vs σ e =
    let s = symbol_step b t us ρ (λ us σ. matches ps us σ) vs σ (ltb b 5) refl e in
    let r = match_means ps s.next s.env vs σ s.on in
    record {
      more = extends_trans ρ s.env σ s.more r.more;
      back = λ τ x. s.back τ (extends_trans s.env σ τ r.more x) ∙ ap (meant_one b τ) (r.back τ x);
    }

-- ---- a rule that holds: the first and the last operand are what the patterns mean, with the same variables
pub record Ends (r : Rule) (ts : List Ty) (xs : List ℕ) : Type 0 where
  pub pairs : pairs_fit r.pair ts ≡ true
  pub env : List Ty
  pub behind : List Ty
  pub rest : List Ty
  pub first : ts ≡ meant r.first env behind
  pub last : last_ones ts ≡ meant r.last env rest

ends_last : (r : Rule) (ts ρ us : List Ty) → Means r.first ts [] us ρ → (m : Matched) → matches r.last (last_ones ts) ρ ≡ m → (xs : List ℕ)
    → then_matched m (λ σ. completed r.result σ) ≡ typed xs → pairs_fit r.pair ts ≡ true → Ends r ts xs
ends_last r ts ρ us a (fits vs σ) em xs e p =
    let l = match_means r.last (last_ones ts) ρ vs σ em in
    record { pairs = p; env = σ; behind = us; rest = vs; first = a.back σ l.more; last = l.back σ (extends_refl σ) }
ends_last r ts ρ us a differs em xs e p = wrong_not e

ends_first : (r : Rule) (ts : List Ty) (m : Matched) → matches r.first ts [] ≡ m → (xs : List ℕ)
    → then_matched m (λ ρ. then_matched (matches r.last (last_ones ts) ρ) (λ σ. completed r.result σ)) ≡ typed xs
    → pairs_fit r.pair ts ≡ true → Ends r ts xs
ends_first r ts (fits us ρ) em xs e p = ends_last r ts ρ us (match_means r.first ts [] us ρ em) (matches r.last (last_ones ts) ρ) refl xs e p
ends_first r ts differs em xs e p = wrong_not e

pub judge_means : (r : Rule) (ts : List Ty) (xs : List ℕ) → judge r ts ≡ typed xs → Ends r ts xs
unfolding judge
judge_means r ts xs e =
    let p = then_of (pairs_fit r.pair ts) (ends r ts) wrong (typed xs) wrong_not e in
    ends_first r ts (matches r.first ts []) refl xs p.1 p.0
