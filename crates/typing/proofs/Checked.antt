-- Frames that are checked, and trees that are accepted.
-- Main results: check_accepts (what an accepted frame's tree is), check_back (an accepted tree's bytes are an accepted frame).
use mathlib.Core.Path.{◌≡◌, refl, ap, ◌∙◌}
use mathlib.Core.List.{List, []}
use Prim.Native.Nat.{ℕ, ◌≤◌}
use lib.ListN.{length}
use Rattle.frame.specs.Types.{Ty}
use Rattle.frame.specs.Trees.{Tree}
use Rattle.frame.specs.Tags.{predicate}
use Rattle.frame.specs.Encoding.{enc}
use Rattle.frame.specs.Reading.{Parsed, tree, bad, parse, frame_limit}
use Rattle.frame.specs.Spans.{Bytes}
use Rattle.frame.proofs.Frames.{parse_enc, parse_back}
use Rattle.typing.specs.Accepted.{Accepted}
use Rattle.typing.specs.Signature.{signature}
use Rattle.typing.specs.Check.{accepted, refused, check_parsed, check}
use Rattle.typing.proofs.Decides.{check_accepted, accepted_check, accepted_wf}

pub refused_not {ℓ} : {X : Type ℓ} (c : ℕ) (t : Tree) → refused c ≡ accepted t → X
refused_not c t e = cc

pub record Accepts (s : List ℕ) (t : Tree) : Type 0 where
  pub bytes : enc t ≡ s
  pub accepted : Accepted (signature t) t [] predicate
  pub fits : length s ≤ frame_limit

pub check_accepts : (s : List ℕ) → Bytes s → (t : Tree) → check s ≡ accepted t → Accepts s t
unfolding check
check_accepts s b t e = go (parse s) refl e
  where
    go : (x : Parsed) → parse s ≡ x → check_parsed x ≡ accepted t → Accepts s t
    go (tree u) p e =
        let r = parse_enc s b u p in
        let a = check_accepted u t r.wf e in
        record { bytes = ap enc a.0 ∙ r.bytes; accepted = rw a.0 a.1; fits = r.fits }
    go (bad c) p e = refused_not c t e

pub check_back : (σ : ℕ → Ty) (t : Tree) → Accepted σ t [] predicate → length (enc t) ≤ frame_limit → check (enc t) ≡ accepted t
unfolding check
check_back σ t a l = rw (parse_back t (accepted_wf σ t [] predicate a) l) (accepted_check σ t a)
