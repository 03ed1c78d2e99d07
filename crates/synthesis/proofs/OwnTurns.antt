-- The ways out of `put_type` and `own_type`, and what closing a node answers.
-- Main results: put_is; own_put, own_none; own_one, own_nothing, place_of; close_bad, close_last, close_on; type_wf (bytes of a buffer make a well formed type).
use mathlib.Core.Path.{◌≡◌, refl, sym, ap, ap₂, ◌∙◌, subst}
use mathlib.Core.Bool.{Bool, true, false}
use mathlib.Core.List.{List, [], ◌∷◌, append-nil}
use Prim.Native.Nat.{ℕ, ◌+◌, ◌-◌, ◌≤◌}
use native.Mathlib.Omega.{arith}
use lib.ListN.{length, take, drop, length-take, length-drop}
use lib.Dec.{eqb}
use borrow.Author.Tests.{eq-eqb, ne_eqb}
use Rattle.frame.specs.Types.{Ty, bool, int, given, pow, prod}
use Rattle.frame.specs.Tags.{Class, class_of}
use Rattle.frame.specs.Encoding.{enc_ty, enc_tys, enc_number}
use Rattle.frame.specs.WellFormed.{TyWf}
use Rattle.frame.specs.Places.{Ctx}
use Rattle.frame.specs.Spans.{Bytes, Spans}
use Rattle.frame.proofs.Spans.{span_nil, span_first, span_left, span_right}
use Rattle.type_rules.specs.Patterns.{own_types, Judged, typed, wrong, judge, rule_at}
use Rattle.type_rules.specs.CodeRules.{own_at, own_by, own_type}
use Rattle.type_rules.specs.declared.Own.{Own}
use Rattle.heads.specs.TypeEnds.{EndOf}
use Rattle.patterns.specs.PatternPosts.{RowAt, Judging, JudgePost}
use Rattle.synthesis.specs.TypingPosts.{PutPre, Putting, PutPost, place_by, OwnPre, Owning, OwnPost, state_of, closed_to, Closing, ClosePost}
use Rattle.synthesis.specs.Turns.{State, Turned, climbs, finishes}
use Rattle.std.proofs.Common.{Option, Some, None}
use Rattle.results.proofs.SpanLaws.{span_part, pasted_span, pasted_kept}
use Rattle.std.proofs.lemmas.Slice.{put_mid-paste}
use Rattle.std.proofs.lemmas.List.{places, take-take}
use borrow.Rule.Slice.PartMut.{put_mid}
use lib.Seq.{paste}
use Rattle.std.proofs.Common.{rules}
use Rattle.type_rules.proofs.OwnTags.{own_types_by}

-- ---- a type that stands in bytes is well formed
pub type_wf : (s : List ℕ) → Bytes s → (t : Ty) (at e : ℕ) → Spans s at e (enc_ty t) → TyWf t
unfolding enc_ty enc_number
type_wf s bs bool at e a = tt
type_wf s bs int at e a = tt
type_wf s bs (given n) at e a =
    let f = span_first (span_first a).rest in
    omega (arith, f.byte, bs (at + 1))
type_wf s bs (pow t) at e a = type_wf s bs t (at + 1) e (span_first a).rest
type_wf s bs (prod t u) at e a =
    let r = (span_first a).rest in (
      type_wf s bs t (at + 1) (at + 1 + length (enc_ty t)) (span_left (enc_ty t) (enc_ty u) r),
      type_wf s bs u (at + 1 + length (enc_ty t)) e
          (span_right (enc_ty t) (enc_ty u) r),
    )

-- ---- put_type
module _ (s : List ℕ) (p : ℕ) (types : List ℕ) (end q : ℕ) (en : EndOf s p q) where
  pub put_is : PutPre s p types end → q - p ≤ 64 → (o : List ℕ)
      → o ≡ paste types end (take (q - p) (drop p s)) (length (take (q - p) (drop p s))) → PutPost s p types end o (Some (end + (q - p)))
  put_is a h o eo =
      let zs = take (q - p) (drop p s) in
      let to : q ≡ a.to = en.is a.type a.to a.span in
      let l : q - p ≡ length zs = omega (arith, length-take (q - p) (drop p s), length-drop p s, a.span.within) in
      let w : o ≡ paste types end zs (q - p) = eo ∙ ap (λ (i : ℕ). paste types end zs i) (sym l) in
      let below : end ≤ length types = omega (arith, a.room) in
      let long : length o ≡ length types = search (rules, places) in
      record {
        answer = λ u e b. (let z = en.is u e b in (
          omega (arith, b.long),
          omega (arith, b.long),
          pasted_span types o zs end (q - p) w below
              (take-take (q - p) (q - p) (drop p s) (omega arith) ∙ ap (λ (i : ℕ). take (i - p) (drop p s)) z ∙ span_part b) (omega (arith, b.long)),
          pasted_kept types o zs end (q - p) w below long,
        ));
      }

-- ---- own_type
module _ (c : Class) (s : List ℕ) (p : ℕ) (types : List ℕ) (end : ℕ) where
  module _ (one : (n : ℕ) (us : List Ty) (Γ : Ctx) → (u : Ty) × (own_types c n us Γ ≡ u ∷ [])) where
    pub own_put_pre : OwnPre c s p types end → PutPre s p types end
    own_put_pre a =
        let u = one a.n a.us a.Γ in
        let b = a.own.stands u.0 u.1 in
        record { type = u.0; to = b.0; span = b.1; room = a.room }

    owned : (r : Option ℕ) (o : List ℕ) (n : ℕ) (us : List Ty) (Γ : Ctx) (u : Ty) → own_types c n us Γ ≡ u ∷ [] → TyWf u
        → Putting r u types end o → Owning r c n us Γ types end o
    unfolding enc_tys
    owned (Some m) o n us Γ u z w a = (
      subst (RowAt o end m) (sym z) (record {
        span = subst (λ (xs : List ℕ). Spans o end m xs) (sym (append-nil (enc_ty u)))
            a.2;
        fit = (w, tt);
      }),
      omega (arith, a.0, a.1),
      a.3,
    )
    owned None o n us Γ u z w a = (u, z, a)

    pub own_put : (o : List ℕ) (r : Option ℕ) → PutPost s p types end o r → OwnPost c s p types end o r
    own_put o r a =
        record {
          answer = λ n us Γ own. (let u = one n us Γ in
              let b = own.stands u.0 u.1 in
              owned r o n us Γ u.0 u.1 b.2 (a.answer u.0 b.0 b.1));
        }

  pub own_none : ((n : ℕ) (us : List Ty) (Γ : Ctx) → own_types c n us Γ ≡ []) → OwnPre c s p types end → OwnPost c s p types end types (Some end)
  unfolding enc_tys
  own_none f a =
      record {
        answer = λ n us Γ own. (
          subst (RowAt types end end) (sym (f n us Γ)) (record { span = span_nil (omega (arith, a.room)); fit = tt }),
          omega arith,
          record { long = refl; low = λ j h. refl },
        );
      }

-- by where the type is from
pub own_one : (c : Class) (k : Own) → own_at c ≡ Some k → (n : ℕ) (us : List Ty) (Γ : Ctx) → own_types c n us Γ ≡ own_type k n us Γ ∷ []
own_one c k e n us Γ = own_types_by c n us Γ ∙ ap (λ (o : Option Own). own_by o n us Γ) e

pub own_nothing : (c : Class) → own_at c ≡ None → (n : ℕ) (us : List Ty) (Γ : Ctx) → own_types c n us Γ ≡ []
own_nothing c e n us Γ = own_types_by c n us Γ ∙ ap (λ (o : Option Own). own_by o n us Γ) e

-- its place
pub place_of : (c : Class) (k : Own) → own_at c ≡ Some k → (carried leaf : ℕ) → place_by (Some k) carried leaf ≡ place_by (own_at c) carried leaf
place_of c k e carried leaf = ap (λ (o : Option Own). place_by o carried leaf) (sym e)

pub put_pre_at : {s types : List ℕ} {p q end : ℕ} → p ≡ q → PutPre s q types end → PutPre s p types end
put_pre_at {s} {types} {end} z a = subst (λ (i : ℕ). PutPre s i types end) (sym z) a

pub own_post_at : {s o types : List ℕ} {p q end : ℕ} {r : Option ℕ} → p ≡ q → PutPost s p o end types r → PutPost s q o end types r
own_post_at {s} {o} {types} {end} {r} z a = subst (λ (i : ℕ). PutPost s i o end types r) z a

-- ---- a node is closed
module _ (tag : ℕ) (st : State) (o : List ℕ) (from : ℕ) (p : List ℕ) (t : Option ℕ) (jp : JudgePost (rule_at (class_of tag)) o from st.end p t) where
  closes : (r : Turned) → ((j : Judged) → Judging j o from p t → Closing j st o from p r) → ClosePost tag st o from p r
  closes r f = record { answer = λ ts row. f (judge (rule_at (class_of tag)) ts) (jp.answer ts row) }

  pub close_bad : t ≡ None → ClosePost tag st o from p (finishes None)
  close_bad z = closes (finishes None) go
    where
      go : (j : Judged) → Judging j o from p t → Closing j st o from p (finishes None)
      go (typed xs) a = let w : ◌≡◌ {A = ℕ} 0 1 = cc (a.0, z) in absurd (omega arith)
      go wrong a = refl

  module _ (m : ℕ) (z : t ≡ Some m) where
    closed_to_lem : (b : Bool) → eqb st.top 0 ≡ b → ClosePost tag st o from p (closed_to b st m)
    closed_to_lem b eb = closes (closed_to b st m) go
      where
        go : (j : Judged) → Judging j o from p t → Closing j st o from p (closed_to b st m)
        go (typed xs) a = let w : m ≡ from + length xs = cc (a.0, z) in (ap₂ (λ (x : Bool) (i : ℕ). closed_to x st i) (sym eb) w, a.1, a.2)
        go wrong a = let w : ◌≡◌ {A = ℕ} 0 1 = cc in absurd (omega arith)

    pub close_last : st.top ≡ 0 → ClosePost tag st o from p (finishes (Some m))
    close_last h = closed_to_lem true (eq-eqb st.top 0 h)

    pub close_on : (st.top ≡ 0 → ⊥) → ClosePost tag st o from p (climbs (state_of st m))
    close_on h = closed_to_lem false (ne_eqb st.top 0 h)
