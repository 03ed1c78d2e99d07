-- The ways out of rounds and run of src/lib.rt, on plain values.
-- Main results: Going, going_starts, going_first, going_ends, going_less, going_on; run_refused, run_goes; run_starts, run_done.
use mathlib.Core.Path.{◌≡◌, refl, sym, ap, ap₂, ◌∙◌, subst}
use mathlib.Core.Bool.{Bool}
use mathlib.Core.List.{List, ◌++◌}
use Prim.Native.Nat.{ℕ, ◌≤◌, ◌<◌}
use native.Mathlib.Omega.{arith}
use lib.ListN.{length, take, drop}
use lib.Seq.{length-take-le}
use borrow.Author.Tests.{le-ltb}
use Rattle.std.proofs.Common.{Option, Some, None, Result, Ok, Err}
use Rattle.frame.specs.declared.refusals.Refusal.{Refusal}
use Rattle.frame.proofs.RefusalNumbers.{numbered}
use Rattle.frame.specs.Trees.{Tree}
use Rattle.frame.specs.Tags.{pick}
use Rattle.frame.specs.Encoding.{enc}
use Rattle.frame.specs.Spans.{Bytes}
use Rattle.typing.specs.Check.{accepted, check, check_answer}
use Rattle.typing.specs.Signature.{signature}
use Rattle.typing.proofs.Checked.{check_accepts, check_back}
use Rattle.step.proofs.Steps.{step_accepted}
use Rattle.output.specs.OutPosts.{Admits, AdmitPost}
use Rattle.run.specs.Run.{ran, run_tree, RunOutcome, ended, turned_down, ended_by, run_on, run, run_answer, run_output}
use Rattle.run.specs.declared.Ending.{Ending}
use Rattle.run.specs.declared.Run.{Run}
use Rattle.run.proofs.Runs.{first_step_lem}
use Rattle.turn.specs.Progress.{At}
use Rattle.turn.specs.TurnPosts.{EndsHere, GoesOn, Follows, TurnPost}
use Rattle.running.specs.SearchPosts.{FirstPre, FirstPost}
use Rattle.running.specs.Posts.{AtTree, RoundsPre, RunEnded, RoundsPost, CanRun, RunPost}

-- ---- `rounds`
at_checks : (x : At) (t : Tree) → AtTree x t → check x.frame ≡ accepted t
at_checks x t a = ap check a.bytes ∙ check_back a.σ t a.accepted (omega (arith, ap length a.bytes, a.fits))

module _ (o : At) where
  -- the run goes on from x
  pub record Going (x : At) : Type 0 where
    pub goes : (t : Tree) → AtTree o t → (u : Tree) × (AtTree x u × (run_tree o.left o.steps t ≡ run_tree x.left x.steps u))

  pub going_starts : Going o
  going_starts = record { goes = λ t a. (t, (a, refl)) }

  module _ (p : RoundsPre o) (x : At) (g : Going x) where
    pub going_first : FirstPre x.frame
    going_first = let u = g.goes p.0 p.1 in (u.0, at_checks x u.0 u.1.0)

    module _ (q : Option (Option (List ℕ))) (pf : FirstPost x.frame q) (z : At) (r : Option Ending) (pt : TurnPost q x z r) where
      follows : (u : Tree) → AtTree x u → Follows u x z r
      follows u a = pt.follows u (pf.gives u (at_checks x u a))

      pub going_ends : (i : Ending) → r ≡ Some i → RoundsPost o z i
      going_ends i h = record {
        ends = λ t a.
            (let u = g.goes t a in
            let w : EndsHere u.0 x z i = subst (Follows u.0 x z) h (follows u.0 u.1.0) in
            let k : z ≡ x = w.kept in
            record {
              word = w.word;
              last = u.0;
              ended = u.1.1 ∙ w.ended ∙ ap (λ (j : At). ran w.word j.steps u.0) (sym k);
              ending = w.ending;
              bytes = ap (λ (j : At). j.frame) k ∙ u.1.0.bytes;
              fits = rw k u.1.0.fits;
            });
      }

      module _ (h : r ≡ None) where
        on : (u : Tree) → AtTree x u → GoesOn u x z
        on u a = subst (Follows u x z) h (follows u a)

        pub going_less : z.left < x.left
        going_less = let u = g.goes p.0 p.1 in let w = on u.0 u.1.0 in omega (arith, w.less)

        pub going_on : Going z
        going_on = record {
          goes = λ t a.
              (let u = g.goes t a in
              let w = on u.0 u.1.0 in
              let i = first_step_lem u.0 w.after w.step in
              let c = step_accepted u.1.0.σ u.0 i.k i.place w.after u.1.0.accepted i.is in (
                w.after,
                (record { bytes = w.bytes; σ = u.1.0.σ; accepted = c; fits = rw w.bytes w.fits }, u.1.1 ∙ w.same),
              ));
        }

-- ---- `run`
module _ (s : List ℕ) (budget : ℕ) (o : List ℕ) (a : Result ℕ Refusal) (ea : a ≡ check_answer (check s)) (r : Result (Unit {0}) Refusal)
    (pa : AdmitPost a (length o) r) where
  pub run_refused : (c : Refusal) → r ≡ Err c → (Err c ≡ run_answer (run s budget (length o))) × (o ≡ run_output (run s budget (length o)) o)
  run_refused c e =
      let z = (subst (Admits s (length o)) e (pa.admits s ea)) budget in
      (ap Err (sym (numbered c)) ∙ sym (ap run_answer z), sym (ap (λ (x : RunOutcome). run_output x o) z))

  pub run_goes : (u : Unit {0}) → r ≡ Ok u → CanRun s o
  run_goes u e = subst (Admits s (length o)) e (pa.admits s ea)

-- ---- `run_admitted`
module _ (s : List ℕ) (b : Bytes s) (budget : ℕ) (o : List ℕ) (goes : CanRun s o) where
  pub run_fits : length s ≤ 4096
  run_fits = (check_accepts s b goes.0 goes.1).fits

  abbrev pub starts : At
  starts = record { frame = s; left = budget; steps = 0 }

  at_start : AtTree starts goes.0
  at_start =
      let a = check_accepts s b goes.0 goes.1 in
      record { bytes = sym a.bytes; σ = signature goes.0; accepted = a.accepted; fits = a.fits }

  pub run_starts : RoundsPre starts
  run_starts = (goes.0, at_start)

  module _ (x : At) (i : Ending) (pr : RoundsPost starts x i) where
    ended_so : RunEnded goes.0 starts x i
    ended_so = pr.ends goes.0 at_start

    run_is : run s budget (length o) ≡ ended ended_so.word x.steps (enc ended_so.last)
    unfolding run
    run_is =
        ap (run_on budget (length o)) goes.1
        ∙ ap (λ (y : Bool). pick y (turned_down 12) (ended_by (run_tree budget 0 goes.0))) (le-ltb (length o) 4096 goes.2)
        ∙ ap ended_by ended_so.ended

    -- the last frame, l, goes to the front of the output
    module _ (l : List ℕ) (el : l ≡ x.frame) where
      pub run_room : length l ≤ length o
      run_room = let f = ended_so.fits in let g = goes.2 in omega (arith, ap length el)

      pub run_front : length (take (length l) o) ≡ length l
      run_front = length-take-le (length l) o run_room

      pub run_done : (m q : List ℕ) (r : Run) → m ≡ l → q ≡ m ++ drop (length l) o
          → r ≡ record { ending = i; steps = x.steps; length = length x.frame } → RunPost s budget o q r
      run_done m q r em e er =
          let d = ended_so in
          let f : m ++ drop (length l) o ≡ enc d.last ++ drop (length (enc d.last)) o =
          ap₂ (λ (y z : List ℕ). y ++ drop (length z) o) (em ∙ el ∙ d.bytes) (el ∙ d.bytes) in
          record {
            answer = ap Ok er
                ∙ ap₂ (λ (j : Ending) (y : List ℕ). Ok (record { ending = j; steps = x.steps; length = length y })) d.ending d.bytes
                ∙ sym (ap run_answer run_is);
            output = e ∙ f ∙ sym (ap (λ (y : RunOutcome). run_output y o) run_is);
          }
