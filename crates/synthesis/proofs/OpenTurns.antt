-- The ways out of `open_node`: what the head that is read says of the tree that stands there.
-- Main results: own_stands, open_own, open_small, open_bad, open_to.
use mathlib.Core.Path.{◌≡◌, refl, sym, ap, ◌∙◌, subst}
use mathlib.Core.Bool.{Bool, true, false, ◌&&◌}
use mathlib.Core.List.{List, [], ◌∷◌}
use Prim.Native.Nat.{ℕ, ◌+◌, ◌≤◌, ◌<◌}
use native.Mathlib.Omega.{arith}
use lib.ListN.{length, set}
use lib.Dec.{ltb, leb}
use borrow.Author.Tests.{eq-eqb, lt-leb}
use Rattle.frame.specs.Types.{Ty}
use Rattle.frame.specs.Trees.{head, Tree, node, Forest, count, nil, cons, nodes, nodes_in}
use Rattle.frame.specs.Tags.{pick, Sort, Class, class_of}
use Rattle.frame.specs.Encoding.{enc_ty, enc_tys}
use Rattle.frame.specs.Reading.{type_limit}
use Rattle.frame.specs.WellFormed.{TyWf, number_in}
use Rattle.frame.specs.Places.{Ctx, under}
use Rattle.frame.specs.Sameness.{same_ty, same_tys}
use Rattle.frame.specs.Spans.{Bytes, Spans}
use Rattle.heads.specs.HeadPost.{payload_in, KnownPost}
use Rattle.heads.specs.declared.Head.{Head as ReadHead}
use Rattle.tags.specs.declared.forms.Sort.{Sort as CodeSort}
use Rattle.heads.proofs.View.{View, KnownView, known_view}
use Rattle.frame.proofs.Spans.{span_left}
use Rattle.frame.proofs.Inversion.{many_count}
use Rattle.typing.specs.Typing.{carried_ty, type_at, wants, shape, node_typed, types_in, typed_tree, typed_forest}
use Rattle.type_rules.specs.Patterns.{own_types}
use Rattle.std.proofs.Common.{Option, Some, None}
use Rattle.type_rules.specs.CodeRules.{own_at}
use Rattle.type_rules.specs.declared.Own.{Own}
use Rattle.type_rules.specs.declared.Own.TheVariants.{Carried, Bound}
use Rattle.type_rules.specs.Patterns.{Operands}
use Rattle.frame.specs.At.{IsAt}
use Rattle.synthesis.specs.TypingPosts.{place_by, own_place, OwnAt, OwnPre, Owning, OwnPost, LeafAt, OpenPre, OpenPost}
use Rattle.synthesis.specs.declared.stack.OpenNode.{OpenNode}
use Rattle.synthesis.specs.declared.Opened.{Opened}
use Rattle.type_rules.proofs.RuleShapes.{head_eq}
use Rattle.synthesis.proofs.OwnTurns.{type_wf, own_one, own_nothing}
use Rattle.synthesis.proofs.OwnResults.{own_result, carries_one, bound_only}

-- ---- what a view says
count_few : (ks : Forest) → count ks ≤ nodes_in ks
unfolding nodes
count_few nil = omega arith
count_few (cons (node h js) ks) = omega (arith, count_few ks)

one_type : (us : List Ty) → length us ≡ 1 → (v : Ty) × (us ≡ v ∷ [])
one_type [] h = absurd (omega arith)
one_type (v ∷ []) h = (v, refl)
one_type (v ∷ w ∷ us) h = absurd (omega arith)

module _ {s : List ℕ} {at : ℕ} {e : Sort} {t : Tree} {q tag n tp p k : ℕ} {a b : CodeSort} (bs : Bytes s) (v : View s e at t q tag n tp p k a b) where
  view_arity : Operands (class_of tag) (number_in tag n v.us (count v.ks)) (count v.ks)
  view_arity = (many_count _ _ p v.ks q v.below.1 ∙ ap length v.top.sorts, v.top.wf.range)

  module _ (Γ : Ctx) (leaf : ℕ) (lf : LeafAt t Γ s leaf) where
    of_bound : own_at (class_of tag) ≡ Some Bound → Spans s leaf (leaf + length (enc_ty (type_at Γ n))) (enc_ty (type_at Γ n))
    of_bound h =
        let g = bound_only tag h (ltb tag 902) refl in
        let l = subst (λ (x : Tree). LeafAt x Γ s leaf) v.is lf in
        subst (λ (b : Bool). pick {X = Type 0} b (Spans s leaf (leaf + length (enc_ty (type_at Γ n))) (enc_ty (type_at Γ n)))
        (Unit {0})) (eq-eqb tag 3 g) l

    of_carried : own_at (class_of tag) ≡ Some Carried → (x : ℕ) × Spans s tp x (enc_ty (carried_ty v.us))
    unfolding enc_tys
    of_carried h =
        let o = one_type v.us (v.top.wf.many ∙ carries_one (class_of tag) _ h) in
        let a = subst (λ (us : List Ty). Spans s tp p (enc_tys us)) o.1 v.top.types in (
          tp + length (enc_ty o.0),
          subst (λ (us : List Ty). Spans s tp (tp + length (enc_ty o.0)) (enc_ty (carried_ty us))) (sym o.1)
              (span_left (enc_ty o.0) [] a),
        )

    pub own_stands : OwnAt (class_of tag) n v.us Γ s (own_place (class_of tag) tp leaf)
    own_stands = record { stands = λ u eq. by (own_at (class_of tag)) refl u eq }
      where
        by : (k : Option Own) → own_at (class_of tag) ≡ k → (u : Ty) → own_types (class_of tag) n v.us Γ ≡ u ∷ []
            → (x : ℕ) × Spans s (place_by k tp leaf) x (enc_ty u) × TyWf u
        by (Some Bound) e u eq =
            let z : type_at Γ n ≡ u = head_eq (sym (own_one (class_of tag) Bound e n v.us Γ) ∙ eq) in
            let a = of_bound e in
            let b = subst (λ (w : Ty). Spans s leaf (leaf + length (enc_ty w)) (enc_ty w)) z a in
            (leaf + length (enc_ty u), b, type_wf s bs u leaf (leaf + length (enc_ty u)) b)
        by (Some Carried) e u eq =
            let z : carried_ty v.us ≡ u = head_eq (sym (own_one (class_of tag) Carried e n v.us Γ) ∙ eq) in
            let a = of_carried e in
            let b = subst (λ (w : Ty). Spans s tp a.0 (enc_ty w)) z a.1 in
            (a.0, b, type_wf s bs u tp a.0 b)
        by None e u eq = let z : ◌≡◌ {A = List Ty} [] (u ∷ []) = sym (own_nothing (class_of tag) e n v.us Γ) ∙ eq in cc

abbrev opened_at : ℕ → ℕ → OpenNode → Opened
opened_at p m nd = record { at = p; end = m; node = nd }

-- a node whose own type is too long
too_long : (g n : ℕ) (us : List Ty) (ks : Forest) (Γ : Ctx) (u : Ty) → own_types (class_of g) n us Γ ≡ u ∷ [] → 64 < length (enc_ty u)
    → typed_tree (node (head g n us) ks) Γ ≡ false
unfolding typed_tree node_typed
too_long g n us ks Γ u e h =
    let ts = types_in ks (under g us Γ) in
    let z = own_result (class_of g) n us Γ ts u e in
    ap (λ (b : Bool). (same_tys ts (wants (class_of g) ts) && (same_ty (carried_ty us) (shape g (carried_ty us)) && b)) && typed_forest ks (under g us Γ))
    (ap (λ (w : Ty). leb (length (enc_ty w)) type_limit) z ∙ lt-leb (length (enc_ty u)) type_limit h)
    ∙ no_way (same_tys ts (wants (class_of g) ts)) (same_ty (carried_ty us) (shape g (carried_ty us))) (typed_forest ks (under g us Γ))
  where
    no_way : (a b c : Bool) → ((a && (b && false)) && c) ≡ false
    no_way true true c = refl
    no_way true false c = refl
    no_way false b c = refl

-- ---- the ways out
module _ {s : List ℕ} {at : ℕ} {h : ReadHead} (bs : Bytes s) (kn : KnownPost s at h) (leaf : ℕ) (o : List ℕ) (end : ℕ) where
  -- its class and its payload
  abbrev c : Class
  c = class_of h.tag

  abbrev n : ℕ
  n = payload_in h

  seen : (e : Sort) (t : Tree) (q : ℕ) → IsAt s e at t q → KnownView s e at t q h
  seen = known_view s bs at h kn

  pub open_own : OpenPre s at leaf o end → OwnPre c s (own_place c h.types leaf) o end
  open_own x =
      let v = seen x.sort x.tree x.to x.stands in
      record { n = n; us = v.us; Γ = x.Γ; own = own_stands bs v x.Γ leaf x.leafs; room = x.room }

  -- the numbers of the node's record are small
  pub open_small : OpenPre s at leaf o end → (h.tag < 65536) × (h.count < 65536) × (end < 4294967296)
  unfolding nodes
  open_small x =
      let v = seen x.sort x.tree x.to x.stands in (
        v.top.wf.small,
        omega (arith, v.many, count_few v.ks, ap nodes v.is, x.few),
        omega (arith, x.low),
      )

  module _ (types : List ℕ) (r : Option ℕ) (op : OwnPost c s (own_place c h.types leaf) o end types r) where
    owning : (e : Sort) (t : Tree) (q : ℕ) (Γ : Ctx) (w : IsAt s e at t q) → LeafAt t Γ s leaf → Owning r c n (seen e t q w).us Γ o end types
    owning e t q Γ w lf = let v = seen e t q w in op.answer n v.us Γ (own_stands bs v Γ leaf lf)

    pub open_bad : r ≡ None → (t₀ l₀ f₀ : List ℕ) (top : ℕ) (t₁ l₁ f₁ : List ℕ) → OpenPost s at leaf t₀ l₀ f₀ top o end t₁ l₁ f₁ types None
    open_bad z t₀ l₀ f₀ top t₁ l₁ f₁ =
        record {
          answer = λ e t q Γ w lf. (let v = seen e t q w in
              let a = subst (λ (x : Option ℕ). Owning x c n v.us Γ o end types) z (owning e t q Γ w lf) in
              ap (λ (x : Tree). typed_tree x Γ) v.is ∙ too_long h.tag n v.us v.ks Γ a.0 a.1 a.2);
        }

    pub open_to : (m : ℕ) → r ≡ Some m → (nd : OpenNode) (t₀ l₀ f₀ : List ℕ) (top : ℕ) (t₁ l₁ f₁ : List ℕ) → t₁ ≡ set t₀ top h.tag
        → l₁ ≡ set l₀ top h.count → f₁ ≡ set f₀ top end → OpenPost s at leaf t₀ l₀ f₀ top o end t₁ l₁ f₁ types (Some (opened_at h.children m nd))
    open_to m z nd t₀ l₀ f₀ top t₁ l₁ f₁ zt zl zf =
        record {
          answer = λ e t q Γ w lf. (let v = seen e t q w in
              let a = subst (λ (x : Option ℕ). Owning x c n v.us Γ o end types) z (owning e t q Γ w lf) in
              let d = v.within in
              record {
                tag = h.tag;
                payload = n;
                carried = v.us;
                kids = v.ks;
                is = v.is;
                sorts = _;
                below = v.below;
                number = number_in h.tag n v.us (count v.ks);
                arity = view_arity bs v;
                row = a.0;
                short = a.1;
                kept = a.2;
                tags = zt;
                lefts = zl ∙ ap (set l₀ top) (sym v.many);
                froms = zf;
                past = omega arith;
                within = omega arith;
              });
        }
