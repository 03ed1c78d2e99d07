-- The ways out of `write_out` and `admit`, on plain values.
-- Main results: out_over, out_short, out_written; admit_refused, admit_short, admit_goes.
use Rattle.std.proofs.Common.{◌≡◌, ℕ, ◌≤◌, ◌<◌, Bool, List, ◌++◌, length, drop, Option, Some, None, Ok, Err, sym, ap, ◌∙◌, arith}
use borrow.Author.Tests.{lt-ltb, le-ltb}
use Rattle.frame.specs.declared.refusals.Refusal.{Refusal}
use Rattle.frame.specs.declared.refusals.Refusal.TheVariants.{NoRoom}
use Rattle.frame.specs.Tags.{pick}
use Rattle.typing.specs.Check.{check}
use Rattle.typing.proofs.Answers.{accepted_is, check_refused}
use Rattle.put.proofs.Puts.{wrote_is, wrote_full}
use Rattle.step.specs.Step.{Outcome, wrote, turned_down, fit, step_answer, step_output}
use Rattle.step.specs.declared.Step.TheVariants.{Changed}
use Rattle.run.specs.Run as R
use Rattle.output.specs.OutPosts.{OutPost, AdmitPost}

-- ---- `write_out`
module _ (f : Option (List ℕ)) (o : List ℕ) where
  fit_over : (xs : List ℕ) → 4096 < length xs → fit (length o) xs ≡ turned_down 12
  unfolding fit
  fit_over xs h = rw (lt-ltb 4096 (length xs) h)

  fit_short : (xs : List ℕ) → length xs ≤ 4096 → length o < length xs → fit (length o) xs ≡ turned_down 12
  unfolding fit
  fit_short xs h l = rw (le-ltb 4096 (length xs) h, lt-ltb (length o) (length xs) l)

  fit_fits : (xs : List ℕ) → length xs ≤ 4096 → length xs ≤ length o → fit (length o) xs ≡ wrote xs
  unfolding fit
  fit_fits xs h l = rw (le-ltb 4096 (length xs) h, le-ltb (length o) (length xs) l)

  no_room : (xs : List ℕ) → fit (length o) xs ≡ turned_down 12
      → (Err NoRoom ≡ step_answer (fit (length o) xs)) × (o ≡ step_output (fit (length o) xs) o)
  no_room xs e = (sym (ap step_answer e), sym (ap (λ (x : Outcome). step_output x o) e))

  pub out_over : f ≡ None → OutPost f o o (Err NoRoom)
  out_over e = record { done = λ xs w. no_room xs (fit_over xs (wrote_full f xs w e)) }

  module _ (ys : List ℕ) (e : f ≡ Some ys) where
    pub out_short : length o < length ys → OutPost f o o (Err NoRoom)
    out_short l =
        record { done = λ xs w. (let v = wrote_is f xs ys w e in no_room xs (fit_short xs v.1 (omega (arith, ap length v.0)))) }

    pub out_written : length ys ≤ length o → (p : List ℕ) → p ≡ ys ++ drop (length ys) o → OutPost f o p (Ok (Changed (length ys)))
    out_written l p c =
        record {
          done = λ xs w.
              (let v = wrote_is f xs ys w e in
              let g = fit_fits xs v.1 (omega (arith, ap length v.0)) in (
                ap (λ (i : List ℕ). Ok (Changed (length i))) v.0 ∙ sym (ap step_answer g),
                c ∙ ap (λ (i : List ℕ). i ++ drop (length i) o) v.0 ∙ sym (ap (λ (x : Outcome). step_output x o) g),
              ));
        }

-- ---- `admit`
module _ (a : _) (lent : ℕ) where
  pub admit_refused : (r : Refusal) → a ≡ Err r → AdmitPost a lent (Err r)
  unfolding R.run
  admit_refused r e = record { admits = λ s ea budget. ap (R.run_on budget lent) (check_refused s r (sym e ∙ ea)) }

  module _ (m : ℕ) (e : a ≡ Ok m) where
    pub admit_short : lent < 4096 → AdmitPost a lent (Err NoRoom)
    unfolding R.run
    admit_short h =
        record {
          admits = λ s ea budget.
              (let t = accepted_is (check s) m (sym e ∙ ea) in
              ap (R.run_on budget lent) t.1.0 ∙ ap
              (λ (x : Bool). pick x (R.turned_down 12) (R.ended_by (R.run_tree budget 0 t.0))) (lt-ltb lent 4096 h));
        }

    pub admit_goes : 4096 ≤ lent → AdmitPost a lent (Ok tt)
    admit_goes h = record { admits = λ s ea. (let t = accepted_is (check s) m (sym e ∙ ea) in (t.0, t.1.0, h)) }
