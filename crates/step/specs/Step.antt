-- One step at a place (document 01, "The answer record" and numbers 2 to 12).
use Rattle.std.specs.Prelude.{ℕ, Bool, List, [], ◌++◌, length, drop, ltb, Result, Ok, Err}
use Rattle.frame.specs.declared.refusals.Refusal.{Refusal}
use Rattle.frame.specs.Refusals.{refusal}
use Rattle.frame.specs.Trees.{Tree, tag_of}
use Rattle.frame.specs.Tags.{pick, predicate, same_sort, form_of}
use Rattle.frame.specs.Encoding.{enc}
use Rattle.frame.specs.Reading.{frame_limit}
use Rattle.frame.specs.Places.{Found, found, absent, find, replace}
use Rattle.typing.specs.Check.{Checked, accepted, refused, check}
use Rattle.rules.specs.Change.{Change, to, same}
use Rattle.rules.specs.Dispatch.{dispatch}
use Rattle.step.specs.declared.Step.{Step}
use Rattle.step.specs.declared.Step.TheVariants.{Changed, Unchanged}

-- ---- on trees
pub data Stepped : Type 0 where
  -- the rule number (docs/RULES.md), and the whole new tree
  changed : ℕ → Tree → Stepped
  unchanged : Stepped
  -- "11. A step's place is no node, or an expression."
  no_place : Stepped

abbrev pub is_predicate : Tree → Bool
is_predicate v = same_sort (form_of (tag_of v)).sort predicate

abbrev pub step_change : Tree → ℕ → Change → Stepped
step_change t k (to p u) = changed p (replace t k u)
step_change t k same = unchanged

abbrev pub step_found : Tree → ℕ → Found → Stepped
step_found t k (found Γ v) = pick (is_predicate v) (step_change t k (dispatch Γ v)) no_place
step_found t k absent = no_place

unfoldable pub step_tree : Tree → ℕ → Stepped
step_tree t k = step_found t k (find t [] k)

-- ---- on frames
pub data Outcome : Type 0 where
  -- the new frame
  wrote : List ℕ → Outcome
  kept : Outcome
  turned_down : ℕ → Outcome

-- "12. A step's result passes 4,096 bytes or the lent output"; the output has room for c bytes
unfoldable pub fit : ℕ → List ℕ → Outcome
fit c xs = pick (ltb frame_limit (length xs)) (turned_down 12) (pick (ltb c (length xs)) (turned_down 12) (wrote xs))

abbrev pub outcome_of : ℕ → Stepped → Outcome
outcome_of c (changed p u) = fit c (enc u)
outcome_of c unchanged = kept
outcome_of c no_place = turned_down 11

abbrev pub outcome_on : ℕ → ℕ → Checked → Outcome
outcome_on k c (accepted t) = outcome_of c (step_tree t k)
outcome_on k c (refused n) = turned_down n

-- the step at place k of the frame s, with a lent output of c bytes: 2 to 10, then 11, then 12
unfoldable pub step : List ℕ → ℕ → ℕ → Outcome
step s k c = outcome_on k c (check s)

-- "Where an answer is an enum, a definition gives this paper's number and values for each case of the enum. The promises use that
-- definition." "Its answer [..] gives the frame's length." "The contract of each entry gives answer, count and every byte of the output
-- afterwards, refusals too: by an equation with a definition": of the entry `step`, with `step_answer` and `step_output`. So it shuts out
-- "a step that is always unchanged", "an answer of ⊤ for every node", "refusing every frame".
abbrev pub step_answer : Outcome → Result Step Refusal
step_answer (wrote xs) = Ok (Changed (length xs))
step_answer kept = Ok Unchanged
step_answer (turned_down n) = Err (refusal n)

-- the output afterwards, whose bytes were d: "A changed step writes the whole new frame from byte 0; later bytes are
-- kept. [..] Unchanged writes nothing." "Each answers its number alone and leaves the output's old bytes."
abbrev pub step_output : Outcome → List ℕ → List ℕ
step_output (wrote xs) d = xs ++ drop (length xs) d
step_output kept d = d
step_output (turned_down n) d = d
