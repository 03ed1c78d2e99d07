-- The rules by patterns are those of typing/specs/Typing.antt. There is one law for each form of rule: no operand, the type carried
-- in place of an operand, one operand, two, a row of one type, a chain. A law asks a class for two facts, which compute there: types
-- that the patterns mean are as `wants` asks (sound), and types that `wants` asks for are judged as `result` says (complete).
-- Main result: class_judged (a class at the types of its operands).
use mathlib.Core.Path.{◌≡◌, refl, ◌∙◌, subst}
use mathlib.Core.List.{List, [], ◌∷◌, ◌++◌, append_assoc}
use mathlib.Core.Bool.{true}
use Prim.Native.Nat.{ℕ, suc, ◌<◌}
use native.Mathlib.Omega.{arith}
use lib.ListN.{length}
use Rattle.frame.specs.Types.{Ty}
use Rattle.frame.specs.Tags.{
  pick,
  Sort,
  Layout,
  counted,
  sorts_of,
  in_range,
  Class,
  literal_pred,
  equality,
  order,
  membership,
  inclusion,
  binary_pred,
  associative_pred,
  negation,
  quantified_pred,
  finite,
  partition,
  identifier,
  bound,
  literal,
  set_extension,
  maplet,
  relation_set,
  set_minus,
  cartesian,
  direct_product,
  parallel_product,
  domain_restriction,
  range_restriction,
  up_to,
  arithmetic,
  function_image,
  relational_image,
  set_operation,
  backward_composition,
  forward_composition,
  override,
  sum,
  integer_set,
  bool_set,
  truth_value,
  integer_relation,
  empty_set,
  projection1,
  projection2,
  identity,
  bool_expr,
  cardinal,
  powerset,
  generalised,
  domain,
  range,
  extremum,
  converse,
  unary_minus,
  quantified_set,
  comprehension,
  unlisted,
  form_at,
}
use Rattle.frame.specs.Encoding.{enc_ty}
use Rattle.frame.specs.Places.{Ctx}
use Rattle.frame.specs.Sameness.{same_ty, same_tys}
use Rattle.frame.proofs.SameTrees.{same_ty_refl}
use Rattle.frame.proofs.ReadTrees.{repeat_length}
use Rattle.typing.specs.Typing.{element, source, target, relation, first, second, ty, last_ty, alike, onward, backward, wants, result, carried_ty}
use Rattle.type_rules.specs.Patterns.{
  matches,
  filled,
  Rule,
  rule,
  alike_pair,
  onward_pair,
  backward_pair,
  rule_at,
  own_types,
  wrong,
  limited,
  all_bound,
  completed,
  pairs_fit,
  ends,
  judge,
}
use Rattle.type_rules.specs.Patterns.{Operands}
use Rattle.type_rules.proofs.Matching.{meant}
use Rattle.type_rules.proofs.RuleShapes.{
  IsRelation,
  one_judged,
  two_judged,
  uniform_judged,
  onward_of,
  of_onward,
  backward_of,
  of_backward,
  onward_last,
  backward_last,
  chain_judged,
}
use Rattle.type_rules.proofs.ClassShapes.{shape_for, Holds, plain, single, none_of, one_of, two_of, some_of_lem, counted_some}

-- a class with a count has an operand
some_operands : (c : Class) {lo hi : ℕ} {s : Sort} → (form_at c).layout ≡ counted (suc lo) hi s → (x : ℕ) (ts : List Ty)
    → Operands c x (length ts) → 0 < length ts
some_operands c {lo} {hi} {s} e x ts h =
    let o = subst (λ (l : Layout). (length ts ≡ length (sorts_of l x)) × (in_range l x ≡ true)) e h in
    counted_some (suc lo) hi x ts (length ts) refl (o.0 ∙ repeat_length s x) (omega arith) o.1

module _ (n : ℕ) (us : List Ty) (Γ : Ctx) where
  module _ (c : Class) where
    -- The class's rule as one of each form. At a class of that form it is the rule itself, and what the law says is Holds.
    abbrev unary : Rule
    unary = rule [] (rule_at c).first [] (rule_at c).result

    abbrev binary : Rule
    binary = rule [] (rule_at c).first (rule_at c).last (rule_at c).result

    abbrev uniform : Rule
    uniform = rule alike_pair (rule_at c).first [] (rule_at c).result

    abbrev chained : List ℕ → Rule
    chained p = rule p (3 ∷ 4 ∷ 5 ∷ 6 ∷ []) (3 ∷ 4 ∷ 7 ∷ 8 ∷ []) (rule_at c).result

    -- what the class wants of the first operand, by the type of this
    abbrev wanted : Ty → Ty
    wanted t = ty 0 (wants c (t ∷ []))

    -- the node's type, at operands of the types ts
    abbrev bytes : List Ty → List ℕ
    bytes ts = enc_ty (result c n us Γ ts)

    -- the rule r at the types vs, where ts are to be ws and nothing is asked of the type carried
    abbrev Agrees : Rule → List Ty → List Ty → List Ty → Type 0
    Agrees r vs ts ws = judge r vs ≡ pick (same_tys ts ws) (pick (same_ty (carried_ty us) (carried_ty us)) (limited (bytes ts)) wrong) wrong

    -- a first operand that the pattern means is as `want` asks
    abbrev Sound : (Ty → Ty) → Type 0
    Sound want = (ρ p : List Ty) → let a = ty 0 (meant (rule_at c).first ρ p) in a ≡ want a

    none : let own = own_types c n us Γ in judge (rule_at c) (own ++ []) ≡ pick (same_tys [] (wants c [])) (limited (bytes [])) wrong
        → (ts : List Ty) → length ts ≡ 0 → Agrees (rule_at c) (own ++ ts) ts (wants c ts)
    none complete ts h =
        let own = own_types c n us Γ in
        none_of (λ ts. Agrees (rule_at c) (own ++ ts) ts (wants c ts)) ts h (plain c n us Γ (own ++ []) [] complete)

    -- the type carried, in place of an operand
    abbrev Carries : List Ty → Type 0
    Carries ts = let t = carried_ty us in judge unary (t ∷ ts) ≡ pick (same_tys ts []) (pick (same_ty t (shape_for c t)) (limited (enc_ty t)) wrong) wrong

    carried : Sound (shape_for c) → ((t : Ty) → judge unary (shape_for c t ∷ []) ≡ limited (enc_ty (shape_for c t)))
        → (ts : List Ty) → length ts ≡ 0 → Carries ts
    unfolding same_tys
    carried sound complete ts h =
        none_of Carries ts h
        (one_judged (rule_at c).first (rule_at c).result (λ t. t) (shape_for c) sound (carried_ty us) (complete (carried_ty us)))

    one : Sound wanted → ((t : Ty) → let w = wanted t ∷ [] in judge unary w ≡ limited (bytes w))
        → (ts : List Ty) → length ts ≡ 1 → Agrees unary ts ts (wanted (ty 0 ts) ∷ [])
    one sound complete ts h =
        one_of (λ ts. Agrees unary ts ts (wanted (ty 0 ts) ∷ [])) ts h
        (λ t. rw (same_ty_refl (carried_ty us))
        (single t (wanted t) _ _
        (one_judged (rule_at c).first (rule_at c).result (λ a. result c n us Γ (a ∷ [])) wanted sound t (complete t))))

    two : ((ρ p q : List Ty) → let ts = ty 0 (meant (rule_at c).first ρ p) ∷ ty 0 (meant (rule_at c).last ρ q) ∷ [] in ts ≡ wants c ts)
        → ((t u : Ty) → let w = wants c (t ∷ u ∷ []) in judge binary w ≡ limited (bytes w))
        → (ts : List Ty) → length ts ≡ 2 → Agrees binary ts ts (wants c ts)
    two sound complete ts h =
        two_of (λ ts. Agrees binary ts ts (wants c ts)) ts h
        (λ t u. rw (same_ty_refl (carried_ty us))
        (two_judged (rule_at c).first (rule_at c).last (rule_at c).result (result c n us Γ) (wants c) sound t u (complete t u)))

    -- one or more of one type
    row : {lo hi : ℕ} {s : Sort} → (form_at c).layout ≡ counted (suc lo) hi s → Sound wanted
        → ((t : Ty) (vs : List Ty) → let w = wanted t ∷ vs in ends uniform w ≡ limited (bytes w))
        → (x : ℕ) (ts : List Ty) → Operands c x (length ts) → Agrees uniform ts ts (alike (wanted (ty 0 ts)) ts)
    row counts sound complete x ts h =
        some_of_lem (λ ts. Agrees uniform ts ts (alike (wanted (ty 0 ts)) ts)) ts (some_operands c counts x ts h)
        (λ t vs. rw (same_ty_refl (carried_ty us))
        (uniform_judged (rule_at c).first (rule_at c).result (result c n us Γ) wanted sound t vs (complete t vs)))

    -- relations in a chain: behind the first, t, those of `on t` are wanted
    chain : (p : List ℕ) (on : Ty → List Ty → List Ty)
        → ((t : Ty) (vs : List Ty) → pairs_fit p (t ∷ vs) ≡ true → vs ≡ on t vs)
        → ((t : Ty) (vs : List Ty) → IsRelation t → vs ≡ on t vs → pairs_fit p (t ∷ vs) ≡ true)
        → ((t : Ty) (vs : List Ty) → IsRelation t → vs ≡ on t vs → IsRelation (last_ty (t ∷ vs)))
        → ((t : Ty) (vs : List Ty) → let l = last_ty (t ∷ vs) in
        completed (rule_at c).result (source t ∷ target t ∷ source l ∷ target l ∷ []) ≡ limited (bytes (t ∷ vs)))
        → (t : Ty) (vs : List Ty) → Agrees (chained p) (t ∷ vs) (t ∷ vs) (relation (source t) (target t) ∷ on t vs)
    chain p on sound fit last complete t vs =
        rw (same_ty_refl (carried_ty us))
        (chain_judged p (rule_at c).result (result c n us Γ) on t vs (sound t vs) (fit t vs) (last t vs) (complete t vs))

  pub class_judged : (c : Class) (x : ℕ) (ts : List Ty) → Operands c x (length ts) → Holds c n us Γ ts
  unfolding form_at rule_at judge pairs_fit matches all_bound filled enc_ty same_tys
  class_judged literal_pred x ts h = none literal_pred refl ts h.0
  class_judged equality x ts h = two equality (λ ρ p q. refl) (λ t u. rw (same_ty_refl t)) ts h.0
  class_judged order x ts h = two order (λ ρ p q. refl) (λ t u. refl) ts h.0
  class_judged membership x ts h = two membership (λ ρ p q. refl) (λ t u. rw (same_ty_refl t)) ts h.0
  class_judged inclusion x ts h = two inclusion (λ ρ p q. refl) (λ t u. rw (same_ty_refl (element t))) ts h.0
  class_judged binary_pred x ts h = two binary_pred (λ ρ p q. refl) (λ t u. refl) ts h.0
  class_judged associative_pred x ts h = row associative_pred refl (λ ρ p. refl) (λ t vs. refl) x ts h
  class_judged negation x ts h = one negation (λ ρ p. refl) (λ t. refl) ts h.0
  class_judged quantified_pred x ts h = one quantified_pred (λ ρ p. refl) (λ t. refl) ts h.0
  class_judged finite x ts h = one finite (λ ρ p. refl) (λ t. refl) ts h.0
  class_judged partition x ts h = row partition refl (λ ρ p. refl) (λ t vs. refl) x ts h
  class_judged identifier x ts h = carried identifier (λ ρ p. refl) (λ t. refl) ts h.0
  class_judged bound x ts h = none bound refl ts h.0
  class_judged literal x ts h = none literal refl ts h.0
  class_judged set_extension x ts h = row set_extension refl (λ ρ p. refl) (λ t vs. refl) x ts h
  class_judged maplet x ts h = two maplet (λ ρ p q. refl) (λ t u. refl) ts h.0
  class_judged relation_set x ts h = two relation_set (λ ρ p q. refl) (λ t u. refl) ts h.0
  class_judged set_minus x ts h = two set_minus (λ ρ p q. refl) (λ t u. rw (same_ty_refl (element t))) ts h.0
  class_judged cartesian x ts h = two cartesian (λ ρ p q. refl) (λ t u. refl) ts h.0
  class_judged direct_product x ts h = two direct_product (λ ρ p q. refl) (λ t u. rw (same_ty_refl (source t))) ts h.0
  class_judged parallel_product x ts h = two parallel_product (λ ρ p q. refl)
      (λ t u. rw (append_assoc (enc_ty (source t)) (enc_ty (source u)) (4 ∷ (enc_ty (target t) ++ enc_ty (target u))))) ts h.0
  class_judged domain_restriction x ts h = two domain_restriction (λ ρ p q. refl) (λ t u. rw (same_ty_refl (element t))) ts h.0
  class_judged range_restriction x ts h = two range_restriction (λ ρ p q. refl) (λ t u. rw (same_ty_refl (element u))) ts h.0
  class_judged up_to x ts h = two up_to (λ ρ p q. refl) (λ t u. refl) ts h.0
  class_judged arithmetic x ts h = two arithmetic (λ ρ p q. refl) (λ t u. refl) ts h.0
  class_judged function_image x ts h = two function_image (λ ρ p q. refl) (λ t u. rw (same_ty_refl (source t))) ts h.0
  class_judged relational_image x ts h = two relational_image (λ ρ p q. refl) (λ t u. rw (same_ty_refl (source t))) ts h.0
  class_judged set_operation x ts h = row set_operation refl (λ ρ p. refl) (λ t vs. refl) x ts h
  class_judged backward_composition x ts h =
      some_of_lem (Holds backward_composition n us Γ) ts (some_operands backward_composition refl x ts h)
      (chain backward_composition backward_pair (λ t vs. backward (source t) vs) backward_of of_backward backward_last (λ t vs. refl))
  class_judged forward_composition x ts h =
      some_of_lem (Holds forward_composition n us Γ) ts (some_operands forward_composition refl x ts h)
      (chain forward_composition onward_pair (λ t vs. onward (target t) vs) onward_of of_onward onward_last (λ t vs. refl))
  class_judged override x ts h = row override refl (λ ρ p. refl) (λ t vs. refl) x ts h
  class_judged sum x ts h = row sum refl (λ ρ p. refl) (λ t vs. refl) x ts h
  class_judged integer_set x ts h = none integer_set refl ts h.0
  class_judged bool_set x ts h = none bool_set refl ts h.0
  class_judged truth_value x ts h = none truth_value refl ts h.0
  class_judged integer_relation x ts h = none integer_relation refl ts h.0
  class_judged empty_set x ts h = carried empty_set (λ ρ p. refl) (λ t. refl) ts h.0
  class_judged projection1 x ts h = carried projection1 (λ ρ p. refl)
      (λ t. rw (
        same_ty_refl (first (source t)),
        append_assoc (enc_ty (first (source t))) (enc_ty (second (source t)))
            (enc_ty (first (source t))),
      )) ts h.0
  class_judged projection2 x ts h = carried projection2 (λ ρ p. refl)
      (λ t. rw (
        same_ty_refl (second (source t)),
        append_assoc (enc_ty (first (source t))) (enc_ty (second (source t)))
            (enc_ty (second (source t))),
      )) ts h.0
  class_judged identity x ts h = carried identity (λ ρ p. refl) (λ t. rw (same_ty_refl (source t))) ts h.0
  class_judged bool_expr x ts h = one bool_expr (λ ρ p. refl) (λ t. refl) ts h.0
  class_judged cardinal x ts h = one cardinal (λ ρ p. refl) (λ t. refl) ts h.0
  class_judged powerset x ts h = one powerset (λ ρ p. refl) (λ t. refl) ts h.0
  class_judged generalised x ts h = one generalised (λ ρ p. refl) (λ t. refl) ts h.0
  class_judged domain x ts h = one domain (λ ρ p. refl) (λ t. refl) ts h.0
  class_judged range x ts h = one range (λ ρ p. refl) (λ t. refl) ts h.0
  class_judged extremum x ts h = one extremum (λ ρ p. refl) (λ t. refl) ts h.0
  class_judged converse x ts h = one converse (λ ρ p. refl) (λ t. refl) ts h.0
  class_judged unary_minus x ts h = one unary_minus (λ ρ p. refl) (λ t. refl) ts h.0
  class_judged quantified_set x ts h = two quantified_set (λ ρ p q. refl) (λ t u. refl) ts h.0
  class_judged comprehension x ts h = two comprehension (λ ρ p q. refl) (λ t u. refl) ts h.0
  class_judged unlisted x ts h = none unlisted refl ts h.0
