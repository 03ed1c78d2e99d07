-- Rules by patterns, by their form: one operand, two, a row of one type, a chain.
-- Main results: one_judged, two_judged, uniform_judged, chain_judged.
use mathlib.Core.Path.{◌≡◌, refl, sym, ap, ap₂, ◌∙◌, subst, subst₂}
use mathlib.Core.Bool.{Bool, true, false, ◌&&◌}
use mathlib.Core.List.{List, [], ◌∷◌, append-nil}
use Prim.Native.Nat.{ℕ}
use Rattle.frame.specs.Types.{Ty}
use Rattle.frame.specs.Tags.{pick}
use Rattle.frame.specs.Encoding.{enc_ty}
use Rattle.frame.specs.Sameness.{same_ty, same_tys}
use Rattle.frame.proofs.Booleans.{both_true}
use Rattle.frame.proofs.SameTrees.{same_ty_lem, same_tys_lem, same_ty_refl}
use Rattle.frame.proofs.Inversion.{true_not}
use Rattle.typing.specs.Typing.{source, target, relation, ty, last_ty, alike, onward, backward}
use Rattle.type_rules.specs.Patterns.{
  Matched,
  fits,
  differs,
  matches,
  rule,
  alike_pair,
  onward_pair,
  backward_pair,
  Judged,
  typed,
  wrong,
  limited,
  completed,
  is_fit,
  then_matched,
  pairs_fit,
  last_ones,
  ends,
  judge,
}
use Rattle.typing.proofs.Same.{same_tys_of, same_ty_of}
use Rattle.type_rules.proofs.Matching.{meant, match_means, judge_means}

-- a judgement by its two directions
pub decided : (j : Judged) (b : Bool) (v : Judged) → (b ≡ true → j ≡ v) → ((xs : List ℕ) → j ≡ typed xs → b ≡ true) → j ≡ pick b v wrong
decided j true v f g = f refl
decided (typed xs) false v f g = true_not (g xs refl)
decided wrong false v f g = refl

pub head_eq : {t u : Ty} {ts us : List Ty} → (t ∷ ts) ≡ (u ∷ us) → t ≡ u
head_eq e = cc

pub tail_eq : {t u : Ty} {ts us : List Ty} → (t ∷ ts) ≡ (u ∷ us) → ts ≡ us
tail_eq e = cc

-- ---- one operand, two operands. wants' and res are a class's `wants` and `result`.
module _ (f r : List ℕ) (res : Ty → Ty) where
  pub one_judged : (want : Ty → Ty) → ((ρ p : List Ty) → let a = ty 0 (meant f ρ p) in a ≡ want a)
      → (t : Ty) → judge (rule [] f [] r) (want t ∷ []) ≡ limited (enc_ty (res (want t)))
      → judge (rule [] f [] r) (t ∷ []) ≡ pick (same_ty t (want t)) (limited (enc_ty (res t))) wrong
  one_judged want sound t complete =
      decided (judge (rule [] f [] r) (t ∷ [])) (same_ty t (want t)) (limited (enc_ty (res t)))
      (λ b. subst (λ (x : Ty). judge (rule [] f [] r) (x ∷ []) ≡ limited (enc_ty (res x))) (sym (same_ty_lem t (want t) b)) complete)
      (λ xs e. (let m = judge_means (rule [] f [] r) (t ∷ []) xs e in
      same_ty_of t (want t) (subst (λ (x : Ty). x ≡ want x) (sym (ap (ty 0) m.first)) (sound m.env m.behind))))

module _ (f l r : List ℕ) (res : List Ty → Ty) where
  pub two_judged : (want : List Ty → List Ty)
      → ((ρ p q : List Ty) → let ts = ty 0 (meant f ρ p) ∷ ty 0 (meant l ρ q) ∷ [] in ts ≡ want ts)
      → (t u : Ty) → judge (rule [] f l r) (want (t ∷ u ∷ [])) ≡ limited (enc_ty (res (want (t ∷ u ∷ []))))
      → judge (rule [] f l r) (t ∷ u ∷ []) ≡ pick (same_tys (t ∷ u ∷ []) (want (t ∷ u ∷ []))) (limited (enc_ty (res (t ∷ u ∷ [])))) wrong
  two_judged want sound t u complete =
      decided (judge (rule [] f l r) (t ∷ u ∷ [])) (same_tys (t ∷ u ∷ []) (want (t ∷ u ∷ []))) (limited (enc_ty (res (t ∷ u ∷ []))))
      (λ b. subst (λ (x : List Ty). judge (rule [] f l r) x ≡ limited (enc_ty (res x))) (sym (same_tys_lem _ _ b)) complete)
      (λ xs e. (let m = judge_means (rule [] f l r) (t ∷ u ∷ []) xs e in
      same_tys_of _ _
      (subst₂ (λ (x y : Ty). (x ∷ y ∷ []) ≡ want (x ∷ y ∷ [])) (sym (ap (ty 0) m.first)) (sym (ap (ty 0) m.last))
      (sound m.env m.behind m.rest))))

-- ---- one or more operands of one type
pub fit_if : (b : Bool) (us ρ : List Ty) → is_fit (pick b (fits us ρ) differs) ≡ b
fit_if true us ρ = refl
fit_if false us ρ = refl

pub alike_fit : (t u : Ty) (us : List Ty) → is_fit (matches alike_pair (t ∷ u ∷ us) []) ≡ same_ty u t
unfolding matches
alike_fit t u us = fit_if (same_ty u t) us (t ∷ [])

pub alike_of : (t : Ty) (us : List Ty) → pairs_fit alike_pair (t ∷ us) ≡ true → us ≡ alike t us
unfolding pairs_fit
alike_of t [] e = refl
alike_of t (u ∷ us) e =
    let p = both_true (is_fit (matches alike_pair (t ∷ u ∷ us) [])) (pairs_fit alike_pair (u ∷ us)) e in
    let q = same_ty_lem u t (sym (alike_fit t u us) ∙ p.0) in
    ap₂ (λ (x : Ty) (l : List Ty). x ∷ l) q (alike_of u us p.1 ∙ ap (λ (x : Ty). alike x us) q)

pub of_alike : (t : Ty) (us : List Ty) → us ≡ alike t us → pairs_fit alike_pair (t ∷ us) ≡ true
unfolding pairs_fit
of_alike t [] e = refl
of_alike t (u ∷ us) e =
    let q = head_eq e in
    ap₂ (λ (a b : Bool). a && b) (alike_fit t u us ∙ same_ty_of u t q)
    (of_alike u us (tail_eq e ∙ ap (λ (x : Ty). alike x us) (sym q)))

module _ (f r : List ℕ) (res : List Ty → Ty) (want : Ty → Ty) where
  pub uniform_judged : ((ρ p : List Ty) → let a = ty 0 (meant f ρ p) in a ≡ want a) → (t : Ty) (us : List Ty)
      → ends (rule alike_pair f [] r) (want t ∷ us) ≡ limited (enc_ty (res (want t ∷ us)))
      → judge (rule alike_pair f [] r) (t ∷ us) ≡ pick (same_tys (t ∷ us) (alike (want t) (t ∷ us))) (limited (enc_ty (res (t ∷ us)))) wrong
  unfolding judge
  uniform_judged sound t us complete =
      decided (judge (rule alike_pair f [] r) (t ∷ us)) (same_tys (t ∷ us) (alike (want t) (t ∷ us))) (limited (enc_ty (res (t ∷ us))))
      (λ b. (let e = same_tys_lem _ _ b in
      let q : t ≡ want t = head_eq e in
      let s : us ≡ alike t us = tail_eq e ∙ ap (λ (x : Ty). alike x us) (sym q) in
      rw (of_alike t us s) (subst (λ (x : Ty). ends (rule alike_pair f [] r) (x ∷ us) ≡ limited (enc_ty (res (x ∷ us)))) (sym q) complete)))
      (λ xs e. (let m = judge_means (rule alike_pair f [] r) (t ∷ us) xs e in
      let q : t ≡ want t = subst (λ (x : Ty). x ≡ want x) (sym (ap (ty 0) m.first)) (sound m.env m.behind) in
      same_tys_of _ _ (ap₂ (λ (x : Ty) (l : List Ty). x ∷ l) q (alike_of t us m.pairs ∙ ap (λ (x : Ty). alike x us) q))))

-- ---- compositions
pub fits_of : (m : Matched) → is_fit m ≡ true → (us : List Ty) × (ρ : List Ty) × (m ≡ fits us ρ)
fits_of (fits us ρ) e = (us, ρ, refl)
fits_of differs e = true_not e

-- two in a row that fit
module _ (p : List ℕ) (t u : Ty) (us : List Ty) (e : pairs_fit p (t ∷ u ∷ us) ≡ true) where
  pub pair_means : (ρ : List Ty) × (vs : List Ty) × (t ∷ u ∷ us ≡ meant p ρ vs) × (pairs_fit p (u ∷ us) ≡ true)
  unfolding pairs_fit
  pair_means =
      let b = both_true (is_fit (matches p (t ∷ u ∷ us) [])) (pairs_fit p (u ∷ us)) e in
      let m = fits_of (matches p (t ∷ u ∷ us) []) b.0 in
      let n = match_means p (t ∷ u ∷ us) [] m.0 m.1 m.2 in
      (m.1, m.0, n.back m.1 ([], sym (append-nil m.1)), b.1)

pub onward_of : (t : Ty) (us : List Ty) → pairs_fit onward_pair (t ∷ us) ≡ true → us ≡ onward (target t) us
onward_of t [] e = refl
onward_of t (u ∷ us) e =
    let m = pair_means onward_pair t u us e in
    let a : t ≡ relation (ty 0 m.0) (ty 1 m.0) = head_eq m.2 in
    let b : u ≡ relation (ty 1 m.0) (ty 2 m.0) = head_eq (tail_eq m.2) in
    ap₂ (λ (x : Ty) (l : List Ty). x ∷ l) (subst₂ (λ (x y : Ty). y ≡ relation (target x) (target y)) (sym a) (sym b) refl) (onward_of u us m.3)

pub onward_fit : (a b c : Ty) (vs : List Ty) → is_fit (matches onward_pair (relation a b ∷ relation b c ∷ vs) []) ≡ true
unfolding matches
onward_fit a b c vs = rw (same_ty_refl b)

pub of_onward : (t : Ty) (us : List Ty) → t ≡ relation (source t) (target t) → us ≡ onward (target t) us → pairs_fit onward_pair (t ∷ us) ≡ true
unfolding pairs_fit
of_onward t [] h e = refl
of_onward t (u ∷ us) h e =
    let q : u ≡ relation (target t) (target u) = head_eq e in
    ap₂ (λ (a b : Bool). a && b)
    (subst₂ (λ (x y : Ty). is_fit (matches onward_pair (x ∷ y ∷ us) []) ≡ true) (sym h) (sym q) (onward_fit (source t) (target t) (target u) us))
    (of_onward u us (subst (λ (x : Ty). x ≡ relation (source x) (target x)) (sym q) refl) (tail_eq e))

pub backward_of : (t : Ty) (us : List Ty) → pairs_fit backward_pair (t ∷ us) ≡ true → us ≡ backward (source t) us
backward_of t [] e = refl
backward_of t (u ∷ us) e =
    let m = pair_means backward_pair t u us e in
    let a : t ≡ relation (ty 0 m.0) (ty 1 m.0) = head_eq m.2 in
    let b : u ≡ relation (ty 2 m.0) (ty 0 m.0) = head_eq (tail_eq m.2) in
    ap₂ (λ (x : Ty) (l : List Ty). x ∷ l) (subst₂ (λ (x y : Ty). y ≡ relation (source y) (source x)) (sym a) (sym b) refl) (backward_of u us m.3)

pub backward_fit : (a b c : Ty) (vs : List Ty) → is_fit (matches backward_pair (relation a b ∷ relation c a ∷ vs) []) ≡ true
unfolding matches
backward_fit a b c vs = rw (same_ty_refl a)

pub of_backward : (t : Ty) (us : List Ty) → t ≡ relation (source t) (target t) → us ≡ backward (source t) us → pairs_fit backward_pair (t ∷ us) ≡ true
unfolding pairs_fit
of_backward t [] h e = refl
of_backward t (u ∷ us) h e =
    let q : u ≡ relation (source u) (source t) = head_eq e in
    ap₂ (λ (a b : Bool). a && b)
    (subst₂ (λ (x y : Ty). is_fit (matches backward_pair (x ∷ y ∷ us) []) ≡ true) (sym h) (sym q) (backward_fit (source t) (target t) (source u) us))
    (of_backward u us (subst (λ (x : Ty). x ≡ relation (source x) (target x)) (sym q) refl) (tail_eq e))

-- the last of a composition is a relation
abbrev pub IsRelation : Ty → Type 0
IsRelation t = t ≡ relation (source t) (target t)

pub onward_last : (t : Ty) (us : List Ty) → IsRelation t → us ≡ onward (target t) us → IsRelation (last_ty (t ∷ us))
onward_last t [] h e = h
onward_last t (u ∷ us) h e = onward_last u us (subst IsRelation (sym (head_eq e)) refl) (tail_eq e)

pub backward_last : (t : Ty) (us : List Ty) → IsRelation t → us ≡ backward (source t) us → IsRelation (last_ty (t ∷ us))
backward_last t [] h e = h
backward_last t (u ∷ us) h e = backward_last u us (subst IsRelation (sym (head_eq e)) refl) (tail_eq e)

pub last_ones_lem : (t : Ty) (us : List Ty) → last_ones (t ∷ us) ≡ last_ty (t ∷ us) ∷ []
last_ones_lem t [] = refl
last_ones_lem t (u ∷ us) = last_ones_lem u us

pub chain_ends : (p r : List ℕ) (t : Ty) (us : List Ty) (a b c d : Ty) → t ≡ relation a b → last_ones (t ∷ us) ≡ relation c d ∷ []
    → ends (rule p (3 ∷ 4 ∷ 5 ∷ 6 ∷ []) (3 ∷ 4 ∷ 7 ∷ 8 ∷ []) r) (t ∷ us) ≡ completed r (a ∷ b ∷ c ∷ d ∷ [])
unfolding matches
chain_ends p r t us a b c d et el =
    subst₂ (λ (x : Ty) (l : List Ty). then_matched (matches (3 ∷ 4 ∷ 5 ∷ 6 ∷ []) (x ∷ us) [])
    (λ ρ. then_matched (matches (3 ∷ 4 ∷ 7 ∷ 8 ∷ []) l ρ) (λ σ. completed r σ)) ≡ completed r (a ∷ b ∷ c ∷ d ∷ []))
    (sym et) (sym el) refl

module _ (p r : List ℕ) (res : List Ty → Ty) (on : Ty → List Ty → List Ty) where
  pub chain_judged : (t : Ty) (us : List Ty)
      → (pairs_fit p (t ∷ us) ≡ true → us ≡ on t us)
      → (IsRelation t → us ≡ on t us → pairs_fit p (t ∷ us) ≡ true)
      → (IsRelation t → us ≡ on t us → IsRelation (last_ty (t ∷ us)))
      → completed r (source t ∷ target t ∷ source (last_ty (t ∷ us)) ∷ target (last_ty (t ∷ us)) ∷ []) ≡ limited (enc_ty (res (t ∷ us)))
      → judge (rule p (3 ∷ 4 ∷ 5 ∷ 6 ∷ []) (3 ∷ 4 ∷ 7 ∷ 8 ∷ []) r) (t ∷ us)
      ≡ pick (same_tys (t ∷ us) (relation (source t) (target t) ∷ on t us)) (limited (enc_ty (res (t ∷ us)))) wrong
  unfolding judge
  chain_judged t us of to last fill =
      let l = last_ty (t ∷ us) in
      let q = rule p (3 ∷ 4 ∷ 5 ∷ 6 ∷ []) (3 ∷ 4 ∷ 7 ∷ 8 ∷ []) r in
      decided (judge q (t ∷ us)) (same_tys (t ∷ us) (relation (source t) (target t) ∷ on t us)) (limited (enc_ty (res (t ∷ us))))
      (λ b. (let e = same_tys_lem _ _ b in
      let h : IsRelation t = head_eq e in
      let s : us ≡ on t us = tail_eq e in
      rw (to h s) (chain_ends p r t us (source t) (target t) (source l) (target l) h (last_ones_lem t us ∙ ap (λ (x : Ty). x ∷ []) (last h s)) ∙ fill)))
      (λ xs e. (let m = judge_means q (t ∷ us) xs e in
      let h : IsRelation t = subst IsRelation (sym (ap (ty 0) m.first)) refl in
      same_tys_of _ _ (ap₂ (λ (x : Ty) (k : List Ty). x ∷ k) h (of m.pairs))))
