-- A turn with the node at hand by value, and all turns.
-- Main results: step_close, step_bad, step_open (the ways out of a turn); Going, with going_start; start_room; the ways out of `turns`, close_fails,
-- close_ends and close_goes, open_fails and open_goes; leaf_judge, leaf_turns (a root without operands).
use mathlib.Core.Path.{◌≡◌, refl, sym, ap, ◌∙◌, subst, subst₂}
use mathlib.Core.Bool.{Bool, true, false}
use mathlib.Core.List.{List, [], ◌∷◌, ◌++◌}
use Prim.Native.Nat.{ℕ, ◌+◌, ◌-◌, ◌≤◌, ◌<◌}
use native.Mathlib.Omega.{arith}
use lib.ListN.{length, get_or, set, length-set, get_or-append}
use lib.Seq.{get_or-set_same, get_or-set_other, get_or-append_seam}
use lib.Dec.{eqb}
use borrow.Author.Tests.{eq-eqb, eqb-true, eqb-false}
use Rattle.frame.specs.Tags.{class_of}
use Rattle.frame.specs.Spans.{Bytes}
use Rattle.type_rules.specs.Patterns.{rule_at, Judged, typed, wrong, judge}
use Rattle.patterns.specs.PatternPosts.{JudgePre, Judging, JudgePost}
use Rattle.synthesis.specs.Machine.{Open, close_up}
use Rattle.synthesis.specs.OpenNodes.{no_node}
use Rattle.synthesis.specs.TypingPosts.{
  OpenPre,
  state_of,
  NodePost,
  closed_to,
  Closing,
  ClosePost,
  Running,
  steps_left,
  Ending,
  Turning,
  TurnPost,
  Top,
  StepPre,
  tags_after,
  lefts_after,
  froms_after,
  Moving,
  StepPost,
  TurnsPre,
  TurnsPost,
}
use Rattle.synthesis.specs.declared.stack.OpenNode.{OpenNode}
use Rattle.synthesis.specs.Turns.{State, state, Turned, descends, climbs, finishes}
use Rattle.std.proofs.lemmas.List.{length_push}
use Rattle.std.proofs.Common.{Option, Some, None}
use Rattle.synthesis.specs.declared.Opened.{Opened}
use Rattle.synthesis.proofs.OwnTurns.{close_bad, close_last, close_on}
use Rattle.synthesis.proofs.StackBelow.{shown, place_stop}
use Rattle.synthesis.proofs.StackTurns.{
  top_held,
  turn_room,
  close_pre,
  turn_close,
  turn_space,
  open_pre,
  turn_bad,
  turn_open,
  close_as,
  opened_at,
  judge_as,
}

-- ---- a turn
module _ (nd : OpenNode) (s leaves types : List ℕ) (st : State) where
  pub step_judge : StepPre nd s leaves types st → (from : ℕ) → from ≡ nd.from → JudgePre types from st.end
  step_judge x from ef = judge_as (ef ∙ sym x.at_top.of_from) (close_pre x.tags x.lefts x.froms s leaves types st x.turn)

  -- a turn that closes the node writes no table
  record Closes (r : Turned) : Type 0 where
    moves : Moving r nd st
    same_tags : (t : List ℕ) → t ≡ tags_after r t st.top
    same_lefts : (l : List ℕ) → l ≡ lefts_after r l st.top
    same_froms : (f : List ℕ) → f ≡ froms_after r f st.top

  closes_to : (b : Bool) (m : ℕ) → eqb st.top 0 ≡ b → Closes (closed_to b st m)
  closes_to true m e = record { moves = tt; same_tags = λ t. refl; same_lefts = λ l. refl; same_froms = λ f. refl }
  closes_to false m e = record {
    moves = let z = eqb-false st.top 0 e in
        omega arith;
    same_tags = λ t. refl;
    same_lefts = λ l. refl;
    same_froms = λ f. refl;
  }

  closes_by : (j : Judged) (from : ℕ) (p : List ℕ) (r : Turned) → Closing j st types from p r → Closes r
  closes_by (typed xs) from p r a = subst Closes (sym a.0) (closes_to (eqb st.top 0) (from + length xs) refl)
  closes_by wrong from p r a = subst Closes (sym a) (record { moves = tt; same_tags = λ t. refl; same_lefts = λ l. refl; same_froms = λ f. refl })

  pub step_close : StepPre nd s leaves types st → nd.left ≡ 0 → (types₁ : List ℕ) → Bytes types₁ → (r : Turned) → (tag from : ℕ)
      → tag ≡ nd.tag → from ≡ nd.from → ClosePost tag st types from types₁ r → StepPost nd s leaves types st types₁ r
  step_close x z types₁ bs r tag from eg ef closed =
      let cp : ClosePost nd.tag st types nd.from types₁ r = close_as eg ef closed in
      let y = x.turn in
      let h = (top_held x.tags x.lefts x.froms s leaves types st y.base y.stop y.o y.ps y.running).1 in
      let row = h.row in
      let c = (close_as (sym x.at_top.of_tag) (sym x.at_top.of_from) cp).answer (shown y.o) row in
      let k = closes_by (judge (rule_at (class_of (get_or x.tags st.top 0))) (shown y.o)) (get_or x.froms st.top 0) types₁ r c in
      record {
        moves = k.moves;
        turned = λ t l f w. (
            let a = turn_close t l f s leaves types st types₁ bs r (w.of_left ∙ z) (close_as (sym w.of_tag) (sym w.of_from) cp) in
            let b = subst (λ (i : List ℕ). TurnPost t l f s leaves types st i l f types₁ r) (k.same_tags t) a in
            subst₂ (λ (i j : List ℕ). TurnPost t l f s leaves types st (tags_after r t st.top) i j types₁ r) (k.same_lefts l) (k.same_froms f) b);
      }

  module _ (bs : Bytes s) (x : StepPre nd s leaves types st) (left : nd.left ≡ 0 → ⊥) where
    pub step_space : (st.top + 1 < 2048) × (st.place < 2048)
    step_space = turn_space x.tags x.lefts x.froms s leaves types bs st (λ z. left (sym x.at_top.of_left ∙ z)) x.turn

    pub step_pre : (leaf : ℕ) → leaf ≡ get_or leaves st.place 0 → OpenPre s st.at leaf types st.end
    step_pre leaf el = open_pre x.tags x.lefts x.froms s leaves types bs st (λ z. left (sym x.at_top.of_left ∙ z)) x.turn leaf el

    module _ (leaf : ℕ) (el : leaf ≡ get_or leaves st.place 0) (types₁ : List ℕ) (r : Option Opened)
        (np : NodePost s st.at leaf types st.end types₁ r) where
      pub step_bad : r ≡ None → StepPost nd s leaves types st types₁ (finishes None)
      step_bad er = record {
        moves = tt;
        turned = λ t l f w. (
            let q = turn_bad t l f s leaves types bs st (λ z. left (sym w.of_left ∙ z)) leaf el in
            record {
              answer = λ base stop o ps run. (q _ _ _ types₁ r
                  (np.opens t (set l st.top (get_or l st.top 0 - 1)) f (st.top + 1)) er).answer base stop o ps run;
            });
      }

      module _ (p m : ℕ) (c : OpenNode) (er : r ≡ Some (opened_at p m c)) where
        abbrev under : OpenNode
        under = record { tag = nd.tag; left = nd.left - 1; from = nd.from }

        abbrev next : State
        next = record { at = p; place = st.place + 1; end = m; top = st.top + 1 }

        pub step_open : StepPost nd s leaves types st types₁ (descends under c next)
        step_open =
            let np₁ = subst (NodePost s st.at leaf types st.end types₁) er np in
            record {
              moves = (refl, refl, refl);
              turned = λ t l f w. (
                  let i = st.top in
                  let a = turn_open t l f s leaves types bs st (λ z. left (sym w.of_left ∙ z)) leaf el
                  (set t (i + 1) c.tag) (set (set l i (get_or l i 0 - 1)) (i + 1) c.left) (set f (i + 1) c.from) types₁ (Some (opened_at p m c))
                  (np₁.opens t (set l i (get_or l i 0 - 1)) f (i + 1)) p m c refl under c in
                  subst (λ (n : ℕ). TurnPost t l f s leaves types st (set t (i + 1) c.tag) (set (set l i (n - 1)) (i + 1) c.left)
                  (set f (i + 1) c.from) types₁ (descends under c next)) w.of_left a);
            }

-- ---- all turns
-- the tables have the records of the stack
pub record Below (stack : List OpenNode) (t l f : List ℕ) : Type 0 where
  pub each : (d : ℕ) → d < length stack → Top (get_or stack d no_node) d t l f

-- a record is put on the stack, and the node above it is at hand
module _ (stack : List OpenNode) (room : length stack + 1 < 2048) (t l f : List ℕ) (ll : length l ≡ 2048) (nd u c : OpenNode)
    (et : u.tag ≡ nd.tag) (ef : u.from ≡ nd.from) (w : Top nd (length stack) t l f) (bl : Below stack t l f) where
  abbrev i : ℕ
  i = length stack

  abbrev l₀ : List ℕ
  l₀ = set l i u.left

  abbrev On : OpenNode → ℕ → Type 0
  On x d = Top x d (set t (i + 1) c.tag) (set l₀ (i + 1) c.left) (set f (i + 1) c.from)

  below_at : (d : ℕ) → d < i + 1 → (b : Bool) → eqb d i ≡ b → On (get_or (stack ++ (u ∷ [])) d no_node) d
  below_at d h true eb =
      let e = eqb-true d i eb in
      let g : get_or (stack ++ (u ∷ [])) d no_node ≡ u =
      ap (λ (j : ℕ). get_or (stack ++ (u ∷ [])) j no_node) e ∙ get_or-append_seam stack u [] no_node in
      subst (λ (x : OpenNode). On x d) (sym g)
      (record {
        of_tag = get_or-set_other t (i + 1) d c.tag 0 (omega arith) ∙ ap (λ (j : ℕ). get_or t j 0) e ∙ w.of_tag ∙ sym et;
        of_left = get_or-set_other l₀ (i + 1) d c.left 0 (omega arith) ∙ ap (λ (j : ℕ). get_or l₀ j 0) e ∙ get_or-set_same l i u.left 0
            (omega (arith, ll, room));
        of_from = get_or-set_other f (i + 1) d c.from 0 (omega arith) ∙ ap (λ (j : ℕ). get_or f j 0) e ∙ w.of_from ∙ sym ef;
      })
  below_at d h false eb =
      let e = eqb-false d i eb in
      let lo : d < i = omega (arith, h) in
      let x = bl.each d lo in
      subst (λ (y : OpenNode). On y d) (sym (get_or-append stack (u ∷ []) no_node d lo))
      (record {
        of_tag = get_or-set_other t (i + 1) d c.tag 0 (omega arith) ∙ x.of_tag;
        of_left = get_or-set_other l₀ (i + 1) d c.left 0 (omega arith) ∙ get_or-set_other l i d u.left 0 (omega arith) ∙ x.of_left;
        of_from = get_or-set_other f (i + 1) d c.from 0 (omega arith) ∙ x.of_from;
      })

  below_on : Below (stack ++ (u ∷ [])) (set t (i + 1) c.tag) (set l₀ (i + 1) c.left) (set f (i + 1) c.from)
  below_on = record { each = λ d h. below_at d (omega (arith, length_push stack u)) (eqb d i) refl }

  top_on : length t ≡ 2048 → length f ≡ 2048 → On c (i + 1)
  top_on lt lf = record {
    of_tag = get_or-set_same t (i + 1) c.tag 0 (omega (arith, lt, room));
    of_left = get_or-set_same l₀ (i + 1) c.left 0 (omega (arith, length-set l i u.left, ll, room));
    of_from = get_or-set_same f (i + 1) c.from 0 (omega (arith, lf, room));
  }

-- and taken from it again
module _ (rest : List OpenNode) (x : OpenNode) (t l f : List ℕ) (bl : Below (rest ++ (x ∷ [])) t l f) where
  below_rest : Below rest t l f
  below_rest = record {
    each = λ d h. subst (λ (y : OpenNode). Top y d t l f) (get_or-append rest (x ∷ []) no_node d h) (bl.each d (omega (arith, length_push rest x)));
  }

  top_rest : Top x (length rest) t l f
  top_rest = subst (λ (y : OpenNode). Top y (length rest) t l f) (get_or-append_seam rest x [] no_node) (bl.each (length rest) (omega (arith, length_push rest x)))

-- whatever the tables and the open nodes were at the root, there are some now that come to the same answer
pub record Going (nd₀ : OpenNode) (s leaves types₀ : List ℕ) (st₀ : State) (stack : List OpenNode) (types : List ℕ) (nd : OpenNode)
    (st : State) : Type 0 where
  pub follows : (t₀ l₀ f₀ : List ℕ) (base stop : ℕ) (o₀ : Open) (ps₀ : List Open) → Top nd₀ st₀.top t₀ l₀ f₀
      → Running t₀ l₀ f₀ s leaves types₀ st₀ base stop o₀ ps₀
      → (t : List ℕ) × (l : List ℕ) × (f : List ℕ) × Below stack t l f × Top nd st.top t l f
      × (o : Open) × (ps : List Open) × Running t l f s leaves types st base stop o ps × (close_up o ps ≡ close_up o₀ ps₀)

module _ (nd₀ : OpenNode) (s leaves types₀ : List ℕ) (st₀ : State) where
  pub going_start : (stack : List OpenNode) → stack ≡ [] → Going nd₀ s leaves types₀ st₀ stack types₀ nd₀ st₀
  going_start stack e = record {
    follows = λ t l f base stop o ps w run.
        (t, l, f, record { each = λ d h. absurd (omega (arith, ap length e)) }, w, o, ps, run, refl);
  }

  -- the next node has a place in the table, or the table's end
  pub start_room : TurnsPre nd₀ s leaves types₀ st₀ → st₀.place ≤ 2048
  start_room pre =
      let x = pre.step in
      let y = x.turn in
      let p = place_stop x.tags x.lefts x.froms s leaves types₀ y.base y.stop 0 y.o y.ps st₀.end st₀.at st₀.place y.running.stack in
      omega (arith, y.running.places)

  module _ (pre : TurnsPre nd₀ s leaves types₀ st₀) (stack : List OpenNode) (types : List ℕ) (nd : OpenNode) (st : State)
      (going : Going nd₀ s leaves types₀ st₀ stack types nd st) where
    pub going_step : StepPre nd s leaves types st
    going_step =
        let x = pre.step in
        let y = x.turn in
        let a = going.follows x.tags x.lefts x.froms y.base y.stop y.o y.ps x.at_top y.running in
        record {
          tags = a.0;
          lefts = a.1;
          froms = a.2;
          at_top = a.4;
          turn = record
              { base = y.base; stop = y.stop; o = a.5; ps = a.6; running = a.7 };
        }

    module _ (types₁ : List ℕ) (r : Turned) (sp : StepPost nd s leaves types st types₁ r) where
      abbrev Turns : Turned → Type 0
      Turns r₁ = (t l f : List ℕ) (base stop : ℕ) (o : Open) (ps : List Open) → Top nd st.top t l f
          → Running t l f s leaves types st base stop o ps → Turning r₁ (tags_after r₁ t st.top) (lefts_after r₁ l st.top)
          (froms_after r₁ f st.top) s leaves types₁ st base stop (close_up o ps)

      turns_by : (r₁ : Turned) → r ≡ r₁ → Turns r₁
      turns_by r₁ er = subst Turns er (λ t l f base stop o ps w run. (sp.turned t l f w).answer base stop o ps run)

      moves_by : (r₁ : Turned) → r ≡ r₁ → Moving r₁ nd st
      moves_by r₁ er = subst (λ (x : Turned). Moving x nd st) er sp.moves

      pub going_done : (v : Option ℕ) → r ≡ finishes v → TurnsPost nd₀ s leaves types₀ st₀ types₁ v
      going_done v er = record {
        ends = λ t₀ l₀ f₀ base stop o₀ ps₀ w run. (
            let a = going.follows t₀ l₀ f₀ base stop o₀ ps₀ w run in
            let b : Ending v (close_up a.5 a.6) types₁ = turns_by (finishes v) er a.0 a.1 a.2 base stop a.5 a.6 a.4 a.7 in
            subst (λ x. Ending v x types₁) a.8 b);
      }

      pub going_up : (st₁ : State) → r ≡ climbs st₁ → (rest : List OpenNode) (x : OpenNode) → stack ≡ rest ++ (x ∷ []) → st₁.top ≡ length rest
          → Going nd₀ s leaves types₀ st₀ rest types₁ x st₁
      going_up st₁ er rest x es et = record {
        follows = λ t₀ l₀ f₀ base stop o₀ ps₀ w run. (
            let a = going.follows t₀ l₀ f₀ base stop o₀ ps₀ w run in
            let b = turns_by (climbs st₁) er a.0 a.1 a.2 base stop a.5 a.6 a.4 a.7 in
            let bl = subst (λ (y : List OpenNode). Below y a.0 a.1 a.2) es a.3 in (
              a.0,
              a.1,
              a.2,
              below_rest rest x a.0 a.1 a.2 bl,
              subst (λ (j : ℕ). Top x j a.0 a.1 a.2) (sym et) (top_rest rest x a.0 a.1 a.2 bl),
              b.0,
              b.1,
              b.2,
              b.3 ∙ a.8,
            ));
      }

      module _ (u c : OpenNode) (st₁ : State) (er : r ≡ descends u c st₁) (long : st.top ≡ length stack) where
        pub going_down : Going nd₀ s leaves types₀ st₀ (stack ++ (u ∷ [])) types₁ c st₁
        going_down = record {
          follows = λ t₀ l₀ f₀ base stop o₀ ps₀ w run. (
              let a = going.follows t₀ l₀ f₀ base stop o₀ ps₀ w run in
              let b = turns_by (descends u c st₁) er a.0 a.1 a.2 base stop a.5 a.6 a.4 a.7 in
              let m = moves_by (descends u c st₁) er in
              let i = length stack in
              let t = a.0 in
              let l = a.1 in
              let f = a.2 in
              let t₁ = set t (i + 1) c.tag in
              let l₁ = set (set l i u.left) (i + 1) c.left in
              let f₁ = set f (i + 1) c.from in
              let e : st₁.top ≡ i + 1 = omega (arith, m.2, long) in
              let on_top = subst (λ (j : ℕ). Top nd j t l f) long a.4 in
              let after = subst (λ (j : ℕ). Running (set t (j + 1) c.tag) (set (set l j u.left) (j + 1) c.left) (set f (j + 1) c.from)
              s leaves types₁ st₁ base stop b.0 b.1) long b.2 in
              let lent = a.7.lent in
              let room : i + 1 < 2048 = omega (arith, e, (turn_room t₁ l₁ f₁ s leaves types₁ st₁ base stop b.0 b.1 after).0) in
              let on = below_on stack room t l f lent.of_lefts nd u c m.0 m.1 on_top a.3 in
              let top = top_on stack room t l f lent.of_lefts nd u c m.0 m.1 on_top a.3 lent.of_tags lent.of_froms in
              (t₁, l₁, f₁, on, subst (λ (j : ℕ). Top c j t₁ l₁ f₁) (sym e) top, b.0, b.1, after, b.3 ∙ a.8));
        }

-- ---- the ways out of a turn of `turns`, by the list of the open nodes below the one at hand
module _ (nd₀ : OpenNode) (s leaves types₀ : List ℕ) (st₀ : State) (pre : TurnsPre nd₀ s leaves types₀ st₀) (stack : List OpenNode) (types : List ℕ)
    (nd : OpenNode) (at place end : ℕ) (going : Going nd₀ s leaves types₀ st₀ stack types nd (state at place end (length stack))) where
  abbrev st : State
  st = state at place end (length stack)

  step : StepPre nd s leaves types st
  step = going_step nd₀ s leaves types₀ st₀ pre stack types nd st going

  pub close_judge : JudgePre types nd.from end
  close_judge = step_judge nd s leaves types st step nd.from refl

  module _ (z : nd.left ≡ 0) (types₁ : List ℕ) (bs : Bytes types₁) (tag : ℕ) (eg : tag ≡ nd.tag) (v : Option ℕ)
      (jp : JudgePost (rule_at (class_of tag)) types nd.from end types₁ v) where
    closing_by : (r : Turned) → ClosePost tag st types nd.from types₁ r → StepPost nd s leaves types st types₁ r
    closing_by r cp = step_close nd s leaves types st step z types₁ bs r tag nd.from eg refl cp

    pub close_fails : v ≡ None → TurnsPost nd₀ s leaves types₀ st₀ types₁ None
    close_fails e =
        going_done nd₀ s leaves types₀ st₀ pre stack types nd st going types₁ (finishes None)
        (closing_by (finishes None) (close_bad tag st types nd.from types₁ v jp e)) None refl

    module _ (m : ℕ) (e : v ≡ Some m) where
      pub close_ends : stack ≡ [] → TurnsPost nd₀ s leaves types₀ st₀ types₁ (Some m)
      close_ends es =
          going_done nd₀ s leaves types₀ st₀ pre stack types nd st going types₁ (finishes (Some m))
          (closing_by (finishes (Some m)) (close_last tag st types nd.from types₁ v jp m e (ap length es))) (Some m) refl

      pub close_goes : (rest : List OpenNode) (x : OpenNode) → stack ≡ rest ++ (x ∷ [])
          → Going nd₀ s leaves types₀ st₀ rest types₁ x (state at place m (length rest))
      close_goes rest x es =
          let l : length stack ≡ length rest + 1 = ap length es ∙ length_push rest x in
          let k : length stack - 1 ≡ length rest = omega arith in
          subst (λ (j : ℕ). Going nd₀ s leaves types₀ st₀ rest types₁ x (state at place m j)) k
          (going_up nd₀ s leaves types₀ st₀ pre stack types nd st going types₁ (climbs (state_of st m))
          (closing_by (climbs (state_of st m)) (close_on tag st types nd.from types₁ v jp m e (λ h. omega arith))) (state_of st m) refl rest x es k)

  module _ (bs : Bytes s) (left : nd.left ≡ 0 → ⊥) where
    pub open_space : (length stack + 1 < 2048) × (place < 2048)
    open_space = step_space nd s leaves types st bs step left

    module _ (leaf : ℕ) (el : leaf ≡ get_or leaves place 0) where
      pub open_asks : OpenPre s at leaf types end
      open_asks = step_pre nd s leaves types st bs step left leaf el

      module _ (types₁ : List ℕ) (v : Option Opened) (np : NodePost s at leaf types end types₁ v) where
        pub open_fails : v ≡ None → TurnsPost nd₀ s leaves types₀ st₀ types₁ None
        open_fails e =
            going_done nd₀ s leaves types₀ st₀ pre stack types nd st going types₁ (finishes None)
            (step_bad nd s leaves types st bs step left leaf el types₁ v np e) None refl

        module _ (r : Opened) (e : v ≡ Some r) where
          abbrev under_it : OpenNode
          under_it = record { tag = nd.tag; left = nd.left - 1; from = nd.from }

          opened_step : StepPost nd s leaves types st types₁ (descends under_it r.node (state r.at (place + 1) r.end (length stack + 1)))
          opened_step = step_open nd s leaves types st bs step left leaf el types₁ v np r.at r.end r.node e

          pub open_goes : Going nd₀ s leaves types₀ st₀ (stack ++ (under_it ∷ [])) types₁ r.node
              (state r.at (place + 1) r.end (length (stack ++ (under_it ∷ []))))
          open_goes =
              subst (λ (j : ℕ). Going nd₀ s leaves types₀ st₀ (stack ++ (under_it ∷ [])) types₁ r.node (state r.at (place + 1) r.end j))
              (sym (length_push stack under_it))
              (going_down nd₀ s leaves types₀ st₀ pre stack types nd st going types₁ _ opened_step under_it r.node
              (state r.at (place + 1) r.end (length stack + 1)) refl refl)

          pub open_less : steps_left s (state r.at (place + 1) r.end (length stack + 1)) < steps_left s st
          open_less =
              let x = step in
              let y = x.turn in
              ((opened_step.turned x.tags x.lefts x.froms x.at_top).answer y.base y.stop y.o y.ps y.running).4

-- ---- a root without operands
module _ (nd : OpenNode) (s leaves types : List ℕ) (st : State) (pre : TurnsPre nd s leaves types st) (z : nd.left ≡ 0) where
  pub leaf_judge : (from : ℕ) → from ≡ nd.from → JudgePre types from st.end
  leaf_judge = step_judge nd s leaves types st pre.step

  closing : (from : ℕ) (types₁ : List ℕ) (r : Option ℕ) (j : Judged) → Judging j types from types₁ r → Closing j st types from types₁ (finishes r)
  closing from types₁ r (typed xs) a =
      let e : eqb st.top 0 ≡ true = eq-eqb st.top 0 pre.root in
      (ap finishes a.0 ∙ sym (ap (λ (b : Bool). closed_to b st (from + length xs)) e), a.1, a.2)
  closing from types₁ r wrong a = ap finishes a

  pub leaf_turns : (types₁ : List ℕ) → Bytes types₁ → (r : Option ℕ) → (tag from : ℕ) → tag ≡ nd.tag → from ≡ nd.from
      → JudgePost (rule_at (class_of tag)) types from st.end types₁ r → TurnsPost nd s leaves types st types₁ r
  leaf_turns types₁ bs r tag from eg ef jp =
      let cp : ClosePost tag st types from types₁ (finishes r) = record
      { answer = λ ts row. closing from types₁ r (judge (rule_at (class_of tag)) ts) (jp.answer ts row) } in
      going_done nd s leaves types st pre [] types nd st (going_start nd s leaves types st [] refl) types₁ (finishes r)
      (step_close nd s leaves types st pre.step z types₁ bs (finishes r) tag from eg ef cp) r refl
