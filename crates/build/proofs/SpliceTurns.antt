-- The ways out of `splice`, on plain values.
-- Main results: splice_range, splice_build, splice_done.
use mathlib.Core.Path.{◌≡◌, sym, ap, ap₂, ◌∙◌, subst}
use Rattle.std.proofs.Common.{Option, Some}
use mathlib.Core.List.{List, [], ◌++◌}
use Prim.Native.Nat.{ℕ, ◌+◌, ◌≤◌, ◌<◌}
use native.Mathlib.Omega.{arith}
use lib.ListN.{length, get_or, take, drop}
use Rattle.frame.specs.Trees.{Tree}
use Rattle.frame.specs.Tags.{predicate}
use Rattle.frame.specs.Encoding.{enc, starts}
use Rattle.frame.specs.Places.{Ctx, found, find}
use Rattle.frame.proofs.Splices.{find_lt, splice_bytes}
use Rattle.typing.specs.Accepted.{Accepted}
use Rattle.typing.specs.Signature.{signature}
use Rattle.typing.proofs.Decides.{accepted_wf}
use Rattle.nav.specs.declared.Places.{Places}
use Rattle.nav.specs.AtPlaces.{PlacesOf, InTables, EndAt}
use Rattle.nav.proofs.Hops.{framed_few}
use Rattle.rules.specs.Dispatch.{dispatch}
use Rattle.rules.proofs.Instance.{instance}
use Rattle.rules.proofs.EquationAccepted.{equation_accepted}
use Rattle.put.specs.Out.{Wrote, Puts}
use Rattle.put.proofs.Puts.{puts_then}
use Rattle.decision.specs.declared.Decision.{Decision}
use Rattle.decision.specs.declared.kept.KeptChild.{KeptChild}
use Rattle.filling.specs.Operands.{HeldIn}
use Rattle.filling.proofs.Subtrees.{span_at}
use Rattle.build.specs.Subtree.{BuildPre, BuildPost, Formed, OfDecision}
use Rattle.step.proofs.Places.{accepted_at}
use Rattle.step.proofs.Steps.{as_predicate}
use Rattle.build.specs.SplicePosts.{Decided, SplicePre, SplicePost}

-- ---- `splice`
-- what the rules build at a predicate of an accepted tree is well formed
formed_of : (t : Tree) (k : ℕ) (kp : List KeptChild) (d : Decision) → Accepted (signature t) t [] predicate → (x : Decided t k kp d)
    → Formed (dispatch x.Γ x.v)
formed_of t k kp d a x place new e =
    let σ = signature t in
    let b = accepted_at σ t [] k x.Γ x.v x.there (tt, (predicate, a)) in
    let p = as_predicate σ x.v x.Γ b.1.0 x.is_predicate_lem b.1.1 in
    let i = instance σ x.Γ x.v place new p e in
    (predicate, accepted_wf σ new x.Γ predicate (equation_accepted σ x.Γ place x.v new b.0 i p))

module _ (pl : Places) (k : ℕ) (kp : List KeptChild) (d : Decision) where
  of_decided : (t : Tree) → HeldIn pl t → (x : Decided t k kp d) → OfDecision k kp d t (dispatch x.Γ x.v)
  of_decided t h x = record { v = x.v; Γ = x.Γ; there = x.there; means = x.means; formed = formed_of t k kp d h.accepted x }

  module _ (p : SplicePre pl k kp d) where
    pub splice_few : k < 2048
    splice_few = omega (arith, find_lt p.t [] k p.decided.Γ p.decided.v p.decided.there, framed_few pl.bytes.now p.t pl.starts.now pl.count p.table.framed)

    pub splice_in_lem : InTables pl k
    splice_in_lem = record { t = p.t; table = p.table; below = find_lt p.t [] k p.decided.Γ p.decided.v p.decided.there }

    pub splice_build : BuildPre (OfDecision k kp d) pl
    splice_build = record {
      t = p.t;
      table = p.table;
      held = p.held;
      c = dispatch p.decided.Γ p.decided.v;
      means = of_decided p.t p.held p.decided;
    }

    module _ (from : ℕ) (ef : from ≡ get_or pl.starts.now k 0) (to : ℕ) (et : EndAt pl k to) where
      within : (t : Tree) → PlacesOf pl t → (Γ : Ctx) (v : Tree) → find t [] k ≡ found Γ v → (from + length (enc v) ≡ to) × (to ≤ length pl.bytes.now)
      within t tb Γ v f =
          let e = et.ends t Γ v tb f in
          let w = span_at pl.bytes.now t pl.starts.now pl.count tb.framed k Γ v f to e in
          (omega arith, w.within)

      pub splice_range : (from ≤ length pl.bytes.now) × (to ≤ length pl.bytes.now)
      splice_range = let w = within p.t p.table p.decided.Γ p.decided.v p.decided.there in (omega (arith, w.0, w.1), w.1)

      pub splice_done : (o₁ : Option (List ℕ)) → Puts (Some []) o₁ (take from pl.bytes.now) → (o₂ : Option (List ℕ))
          → BuildPost (OfDecision k kp d) pl o₁ o₂ → (o₃ : Option (List ℕ)) → Puts o₂ o₃ (drop to pl.bytes.now)
          → SplicePost pl k kp d o₃
      splice_done o₁ h₁ o₂ h₂ o₃ h₃ =
          record {
            wrote = λ t tb h x place new e.
                (let s = pl.bytes.now in
                let b = h₂.puts t (dispatch x.Γ x.v) place new tb h (of_decided t h x) e in
                let c = puts_then (Some []) o₁ o₃ (take from s) (enc new ++ drop to s) h₁ (puts_then o₁ o₂ o₃ (enc new) (drop to s) b h₃) in
                let w = within t tb x.Γ x.v x.there in
                let z : get_or pl.starts.now k 0 ≡ get_or (starts t 0) k 0 = tb.framed.begins k (find_lt t [] k x.Γ x.v x.there) in
                let front : take from s ≡ take (get_or (starts t 0) k 0) s = ap (λ (i : ℕ). take i s) (ef ∙ z) in
                let back : drop to s ≡ drop (get_or (starts t 0) k 0 + length (enc x.v)) s =
                ap (λ (i : ℕ). drop i s) (sym w.0 ∙ ap (λ (i : ℕ). i + length (enc x.v)) (ef ∙ z)) in
                subst (λ (l : List ℕ). Wrote o₃ l)
                (ap₂ (λ (u v : List ℕ). u ++ (enc new ++ v)) front back
                ∙ sym (splice_bytes t [] k x.Γ x.v x.there s tb.framed.bytes new)) c);
          }
