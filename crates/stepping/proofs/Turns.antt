-- The ways out of the functions of src/lib.rt, on plain values.
-- Main results: held_none, held_placed, held_expression, held_decide, held_rests, held_splice, held_out, held_done; step_refused, step_held.
use mathlib.Core.Path.{◌≡◌, refl, sym, ap, ◌∙◌, subst}
use mathlib.Core.Bool.{Bool, true, false}
use mathlib.Core.List.{List, []}
use Prim.Native.Nat.{ℕ, ◌≤◌, ◌<◌}
use native.Mathlib.Omega.{arith}
use lib.ListN.{length}
use Rattle.std.proofs.Common.{Option, Some, None, Result, Ok, Err}
use Rattle.frame.specs.declared.refusals.Refusal.{Refusal}
use Rattle.frame.specs.declared.refusals.Refusal.TheVariants.{NoPlace}
use Rattle.frame.specs.Trees.{Tree, nodes}
use Rattle.tags.specs.TagCodes.{is_expression}
use Rattle.tags.proofs.FormTables.{expression_not, predicate_is}
use Rattle.frame.specs.Encoding.{enc}
use Rattle.frame.specs.Reading.{parse}
use Rattle.frame.specs.Spans.{Bytes}
use Rattle.frame.specs.Places.{find, replace}
use Rattle.frame.proofs.Splices.{Stands, find_some, find_none}
use Rattle.typing.specs.Check.{accepted, check, check_answer}
use Rattle.typing.proofs.Checked.{check_accepts}
use Rattle.typing.proofs.Answers.{accepted_is, refused_is}
use Rattle.nav.specs.AtPlaces.{AtPlace, SortAt}
use Rattle.nav.specs.declared.Places.{Places}
use Rattle.nav.specs.PlaceTables.{Framed, NextsPre, NextsPost, sort_of}
use Rattle.reading.specs.Post.{frame_answer}
use Rattle.reading.specs.declared.FrameRead.{FrameRead}
use Rattle.rules.specs.Change.{to, same}
use Rattle.rules.specs.Dispatch.{dispatch}
use Rattle.put.specs.Out.{Wrote}
use Rattle.decision.specs.AtPlaces.{HereAt, DispatchAt}
use Rattle.decision.specs.Decision.{Means, StandsFor, places_of}
use Rattle.decision.specs.declared.kept.KeptChild.{KeptChild}
use Rattle.decision.specs.declared.Decision.{Decision}
use Rattle.decision.proofs.Series.{changes}
use Rattle.filling.specs.Operands.{Held}
use Rattle.step.specs.Step.{no_place, is_predicate, step_found, step_tree, Outcome, kept, turned_down, fit, outcome_of, outcome_on, step, step_answer, step_output}
use Rattle.step.specs.declared.Step.{Step}
use Rattle.step.specs.declared.Step.TheVariants.{Unchanged}
use Rattle.step.proofs.Steps.{step_predicate, step_expression}
use Rattle.checking.specs.Posts.{TreePost}
use Rattle.checking.proofs.Accepted.{accepted_parse, read_framed}
use Rattle.build.specs.SplicePosts.{Decided, SplicePre, SplicePost}
use Rattle.output.specs.OutPosts.{OutPre, OutPost}
use Rattle.stepping.specs.Posts.{HeldPre, StepPost}

-- ---- `step_held`
module _ (p : Places) (h : HeldPre p) (k : ℕ) (o : List ℕ) where
  stepped : step p.bytes.now k (length o) ≡ outcome_of (length o) (step_tree h.t k)
  unfolding step
  stepped = rw h.checks

  ends : (x : Outcome) → step p.bytes.now k (length o) ≡ x → (q : List ℕ) → q ≡ step_output x o → StepPost p.bytes.now k o q (step_answer x)
  ends x e q eq = record { answer = sym (ap step_answer e); output = eq ∙ sym (ap (λ (y : Outcome). step_output y o) e) }

  no_place_lem : step_tree h.t k ≡ no_place → StepPost p.bytes.now k o o (Err NoPlace)
  no_place_lem e = ends (turned_down 11) (stepped ∙ ap (outcome_of (length o)) e) o refl

  pub held_none : p.count ≤ k → StepPost p.bytes.now k o o (Err NoPlace)
  unfolding step_tree
  held_none l = no_place_lem (ap (step_found h.t k) (find_none h.t [] k (omega (arith, h.table.framed.size))))

  module _ (inside : k < p.count) where
    below : k < nodes h.t
    below = omega (arith, h.table.framed.size)

    pub held_placed : AtPlace p k
    held_placed = record { t = h.t; n = p.count; framed = h.table.framed; below = below }

    -- what stands there
    here : Stands (find h.t [] k)
    here = find_some h.t [] k below

    pub held_decide : HereAt p k
    held_decide = record { t = h.t; n = p.count; table = h.table; Γ = here.0; v = here.1; there = here.2 }

    module _ (b : Bool) (pb : SortAt p k b) where
      sort_here : b ≡ is_expression (sort_of here.1)
      sort_here = pb.sort h.t p.count here.0 here.1 h.table.framed here.2

      pub held_expression : b ≡ true → StepPost p.bytes.now k o o (Err NoPlace)
      held_expression e =
          no_place_lem (step_expression h.t k here.0 here.1 here.2 (expression_not (sort_of here.1) (sym sort_here ∙ e)))

      module _ (e : b ≡ false) where
        is_pred : is_predicate here.1 ≡ true
        is_pred = predicate_is (sort_of here.1) (sym sort_here ∙ e)

        module _ (kp : List KeptChild) (r : Option Decision) (pr : DispatchAt p k kp r) where
          means : Means h.t here.1 here.0 (places_of kp) r (dispatch here.0 here.1)
          means = pr.means h.t p.count here.0 here.1 h.table here.2

          pub held_rests : r ≡ None → StepPost p.bytes.now k o o (Ok Unchanged)
          held_rests z =
              let c : dispatch here.0 here.1 ≡ same = rw z at means in
              ends kept (stepped ∙ ap (outcome_of (length o)) (step_predicate h.t k here.0 here.1 here.2 is_pred same c)) o refl

          module _ (d : Decision) (z : r ≡ Some d) where
            stands : StandsFor h.t here.1 here.0 (places_of kp) d (dispatch here.0 here.1)
            stands = rw z at means

            decided : Decided h.t k kp d
            decided = record { Γ = here.0; v = here.1; there = here.2; is_predicate_lem = is_pred; means = stands }

            pub held_splice : SplicePre p k kp d
            held_splice = record { t = h.t; table = h.table; held = h.held; decided = decided }

            change : (place : ℕ) × ((new : Tree) × (dispatch here.0 here.1 ≡ to place new))
            change = changes h.t here.1 here.0 (places_of kp) d (dispatch here.0 here.1) stands

            module _ (w : Option (List ℕ)) (ps : SplicePost p k kp d w) where
              new_bytes : Wrote w (enc (replace h.t k change.1.0))
              unfolding decided here
              new_bytes = ps.wrote h.t h.table h.held decided change.0 change.1.0 change.1.1

              pub held_out : OutPre w
              held_out = (enc (replace h.t k change.1.0), new_bytes)

              pub held_done : (q : List ℕ) (a : Result Step Refusal) → OutPost w o q a → StepPost p.bytes.now k o q a
              held_done q a po =
                  let u = enc (replace h.t k change.1.0) in
                  let y = po.done u new_bytes in
                  let z = ends (fit (length o) u) (stepped ∙ ap (outcome_of (length o))
                  (step_predicate h.t k here.0 here.1 here.2 is_pred (to change.0 change.1.0) change.1.1)) q y.1 in
                  record { answer = y.0 ∙ z.answer; output = z.output }

-- ---- `step`
module _ (s : List ℕ) (k : ℕ) (o : List ℕ) where
  pub step_refused : (r : Refusal) → Err r ≡ check_answer (check s) → StepPost s k o o (Err r)
  unfolding step
  step_refused r e =
      let c = refused_is (check s) r e in
      let z : step s k (length o) ≡ turned_down c.0 = ap (outcome_on k (length o)) c.1.0 in
      record { answer = ap Err c.1.1 ∙ sym (ap step_answer z); output = sym (ap (λ (x : Outcome). step_output x o) z) }

-- a frame that was read, with its tables
module _ (s : List ℕ) (b : Bytes s) (f : FrameRead) (e : Ok f ≡ frame_answer (parse s)) where
  -- its tree, and that the checks count the nodes that were read
  module _ (leaves : List ℕ) (m : ℕ) (pa : TreePost s leaves (Ok m)) where
    accepts : (t : Tree) × ((check s ≡ accepted t) × (m ≡ nodes t))
    accepts = accepted_is (check s) m pa.answer

    framed : Framed s accepts.0 f.starts m
    framed =
        let r = read_framed s b f e accepts.0 (accepted_parse s b accepts.0 accepts.1.0) in
        let z : f.nodes ≡ m = r.size ∙ sym accepts.1.1 in
        subst (λ (i : ℕ). Framed s accepts.0 f.starts i) z r

    pub step_nexts : (nx : List ℕ) → length nx ≡ 2048 → NextsPre s m f.starts nx
    step_nexts nx l = record { t = accepts.0; framed = framed; long = l }

    module _ (nx : List ℕ) (pn : NextsPost s m f.starts nx) where
      pub step_pre : (p : Places) → p.bytes.now ≡ s → p.count ≡ m → p.starts.now ≡ f.starts → p.nexts.now ≡ nx → p.leaves.now ≡ leaves → HeldPre p
      step_pre p ez ec es en el =
          let t = accepts.0 in
          let w = check_accepts s b t accepts.1.0 in
          let held : Held s f.starts leaves m t = record { framed = framed; leafs = pa.leafs t accepts.1.0; accepted = w.accepted } in
          record { t = t; checks = ap check ez ∙ accepts.1.0; table = rw (ez, es, en, ec) (pn.table t framed); held = rw (ez, es, el, ec) held }
