-- What a step does to an accepted tree and to its frame.
-- Main results: step_predicate, step_expression (a step at a known place); step_inv (a changed step's parts), step_instance (demand 2: it replaces one side of an equation by the
-- other), step_accepted (its result is accepted, with the same identifiers' types: numbers 3 to 10 can't arise from a
-- step), step_wrote (the same of frames).
use mathlib.Core.Path.{◌≡◌, refl, sym, ap, ◌∙◌}
use mathlib.Core.Bool.{Bool, true, false}
use mathlib.Core.List.{List, []}
use Prim.Native.Nat.{ℕ, ◌≤◌}
use lib.ListN.{length}
use lib.Dec.{ltb}
use borrow.Author.Tests.{ltb-false}
use Rattle.frame.specs.Types.{Ty}
use Rattle.frame.specs.Trees.{head, Tree, node}
use Rattle.frame.specs.Tags.{pick, Sort, predicate, form_of}
use Rattle.frame.specs.Encoding.{enc}
use Rattle.frame.specs.Reading.{frame_limit}
use Rattle.frame.specs.Places.{Ctx, Found, found, absent, find, replace}
use Rattle.frame.specs.Spans.{Bytes}
use Rattle.frame.proofs.Inversion.{same_sort_lem}
use Rattle.typing.specs.Accepted.{Accepted}
use Rattle.typing.specs.Signature.{signature}
use Rattle.typing.specs.Check.{Checked, accepted, refused, check}
use Rattle.typing.proofs.Checked.{Accepts, check_accepts, check_back}
use Rattle.rules.specs.Change.{Change, to, same}
use Rattle.rules.specs.Dispatch.{dispatch}
use Rattle.rules.specs.Equations.{Equation}
use Rattle.rules.proofs.Instance.{instance}
use Rattle.rules.proofs.Nodes.{predicate_type}
use Rattle.rules.proofs.EquationAccepted.{equation_accepted}
use Rattle.step.specs.Step.{
  Stepped,
  changed,
  unchanged,
  no_place,
  is_predicate,
  step_change,
  step_found,
  step_tree,
  wrote,
  turned_down,
  fit,
  outcome_of,
  outcome_on,
  step,
}
use Rattle.step.proofs.Places.{AcceptedIn, accepted_at, Stays, accepted_replaced}

-- ---- trees
-- a step at a place where it is known what stands there
module _ (t : Tree) (k : ℕ) (Γ : Ctx) (v : Tree) (f : find t [] k ≡ found Γ v) where
  pub step_predicate : is_predicate v ≡ true → (c : Change) → dispatch Γ v ≡ c → step_tree t k ≡ step_change t k c
  unfolding step_tree
  step_predicate p c e = ap (step_found t k) f ∙ ap (λ (x : Bool). pick x (step_change t k (dispatch Γ v)) no_place) p ∙ ap (step_change t k) e

  pub step_expression : is_predicate v ≡ false → step_tree t k ≡ no_place
  unfolding step_tree
  step_expression p = ap (step_found t k) f ∙ ap (λ (x : Bool). pick x (step_change t k (dispatch Γ v)) no_place) p

pub record StepInv (t : Tree) (k place : ℕ) (u : Tree) : Type 0 where
  pub Γ : Ctx
  pub old : Tree
  pub new : Tree
  pub there : find t [] k ≡ found Γ old
  pub is_predicate_lem : is_predicate old ≡ true
  pub rule : dispatch Γ old ≡ to place new
  pub result : u ≡ replace t k new

pub step_inv : (t : Tree) (k place : ℕ) (u : Tree) → step_tree t k ≡ changed place u → StepInv t k place u
unfolding step_tree
step_inv t k place u e = on_found (find t [] k) refl e
  where
    on_change : (Γ : Ctx) (v : Tree) → find t [] k ≡ found Γ v → is_predicate v ≡ true → (c : Change) → dispatch Γ v ≡ c
        → step_change t k c ≡ changed place u → StepInv t k place u
    on_change Γ v f p (to q w) d e = record {
      Γ = Γ;
      old = v;
      new = w;
      there = f;
      is_predicate_lem = p;
      rule = d ∙
          (let y : q ≡ place = cc in ap (λ (i : ℕ). to i w) y);
      result = cc;
    }
    on_change Γ v f p same d e = cc

    on_sort : (Γ : Ctx) (v : Tree) → find t [] k ≡ found Γ v → (b : Bool) → is_predicate v ≡ b
        → pick b (step_change t k (dispatch Γ v)) no_place ≡ changed place u → StepInv t k place u
    on_sort Γ v f true p e = on_change Γ v f p (dispatch Γ v) refl e
    on_sort Γ v f false p e = cc

    on_found : (x : Found) → find t [] k ≡ x → step_found t k x ≡ changed place u → StepInv t k place u
    on_found (found Γ v) f e = on_sort Γ v f (is_predicate v) refl e
    on_found absent f e = cc

-- an accepted tree that is a predicate's is accepted as one
pub as_predicate : (σ : ℕ → Ty) (v : Tree) (Γ : Ctx) (e : Sort) → is_predicate v ≡ true → Accepted σ v Γ e → Accepted σ v Γ predicate
unfolding Accepted
as_predicate σ (node (head g n us) ks) Γ e p a =
    let q : (form_of g).sort ≡ predicate = same_sort_lem (form_of g).sort predicate p in
    let r : e ≡ predicate = sym a.top.formed.sort ∙ q in
    rw r at a

module _ (σ : ℕ → Ty) (t : Tree) (k place : ℕ) (u : Tree) (a : Accepted σ t [] predicate) (e : step_tree t k ≡ changed place u) where
  -- the subtree at the place is accepted there
  pub old_accepted : AcceptedIn σ (step_inv t k place u e).Γ (step_inv t k place u e).old
  old_accepted = let i = step_inv t k place u e in accepted_at σ t [] k i.Γ i.old i.there (tt, (predicate, a))

  pub old_predicate : Accepted σ (step_inv t k place u e).old (step_inv t k place u e).Γ predicate
  old_predicate = let i = step_inv t k place u e in as_predicate σ i.old i.Γ old_accepted.1.0 i.is_predicate_lem old_accepted.1.1

  pub step_instance : Equation (step_inv t k place u e).Γ place (step_inv t k place u e).old (step_inv t k place u e).new
  step_instance = let i = step_inv t k place u e in instance σ i.Γ i.old place i.new old_predicate i.rule

  new_predicate : Accepted σ (step_inv t k place u e).new (step_inv t k place u e).Γ predicate
  new_predicate =
      let i = step_inv t k place u e in equation_accepted σ i.Γ place i.old i.new old_accepted.0 step_instance old_predicate

  new_stays : (s : Sort) → Accepted σ (step_inv t k place u e).old (step_inv t k place u e).Γ s
      → Stays σ (step_inv t k place u e).Γ s (step_inv t k place u e).old (step_inv t k place u e).new
  new_stays s b =
      let i = step_inv t k place u e in
      let q : s ≡ predicate = sort_of_lem i.old i.Γ s b old_predicate in
      record {
        accepted = rw q new_predicate;
        type = predicate_type σ i.old i.Γ old_predicate ∙ sym (predicate_type σ i.new i.Γ new_predicate);
      }
    where
      sort_of_lem : (v : Tree) (Γ : Ctx) (s : Sort) → Accepted σ v Γ s → Accepted σ v Γ predicate → s ≡ predicate
      sort_of_lem (node (head g n us) ks) Γ s b c = unfold Accepted in (sym b.top.formed.sort ∙ c.top.formed.sort)

  pub step_accepted : Accepted σ u [] predicate
  step_accepted =
      let i = step_inv t k place u e in
      rw i.result (accepted_replaced σ t [] k i.Γ i.old i.new i.there new_stays predicate a).accepted

-- ---- frames
pub record Wrote (s : List ℕ) (k : ℕ) (xs : List ℕ) : Type 0 where
  pub old : Tree
  pub place : ℕ
  pub new : Tree
  pub accepts : Accepts s old
  pub stepped : step_tree old k ≡ changed place new
  pub bytes : xs ≡ enc new
  pub fits : length xs ≤ frame_limit
  pub stays : Accepted (signature old) new [] predicate
  pub checks : check xs ≡ accepted new

pub fit_wrote : (c : ℕ) (ys xs : List ℕ) → fit c ys ≡ wrote xs → (ys ≡ xs) × (length ys ≤ frame_limit)
unfolding fit
fit_wrote c ys xs e = go (ltb frame_limit (length ys)) refl (ltb c (length ys)) e
  where
    go : (a : Bool) → ltb frame_limit (length ys) ≡ a → (b : Bool) → pick a (turned_down 12) (pick b (turned_down 12) (wrote ys)) ≡ wrote xs
        → (ys ≡ xs) × (length ys ≤ frame_limit)
    go true p b e = cc
    go false p true e = cc
    go false p false e = (cc, ltb-false frame_limit (length ys) p)

-- a frame that a step writes is the frame of an accepted tree, one step from the frame that it read
pub step_wrote : (s : List ℕ) → Bytes s → (k c : ℕ) (xs : List ℕ) → step s k c ≡ wrote xs → Wrote s k xs
unfolding step
step_wrote s b k c xs e = on_check (check s) refl e
  where
    on_step : (t : Tree) → Accepts s t → (x : Stepped) → step_tree t k ≡ x → outcome_of c x ≡ wrote xs → Wrote s k xs
    on_step t a (changed p u) x e =
        let f = fit_wrote c (enc u) xs e in
        let l : length xs ≤ frame_limit = rw f.0 at f.1 in
        let w = step_accepted (signature t) t k p u a.accepted x in
        record {
          old = t;
          place = p;
          new = u;
          accepts = a;
          stepped = x;
          bytes = sym f.0;
          fits = l;
          stays = w;
          checks = rw (← f.0)
              (check_back (signature t) u w f.1);
        }
    on_step t a unchanged x e = cc
    on_step t a no_place x e = cc

    on_check : (x : Checked) → check s ≡ x → outcome_on k c x ≡ wrote xs → Wrote s k xs
    on_check (accepted t) x e = on_step t (check_accepts s b t x) (step_tree t k) refl e
    on_check (refused n) x e = cc
