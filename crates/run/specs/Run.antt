-- The run (document 01, "The answer record").
use Rattle.std.specs.Prelude.{◌≡◌, ℕ, zero, suc, ◌+◌, ◌<◌, List, ◌++◌, length, drop, ltb, Result, Ok, Err}
use Rattle.frame.specs.declared.refusals.Refusal.{Refusal}
use Rattle.frame.specs.Refusals.{refusal}
use Rattle.frame.specs.Trees.{Tree, nodes}
use Rattle.frame.specs.Tags.{pick}
use Rattle.frame.specs.Encoding.{enc}
use Rattle.frame.specs.Reading.{frame_limit}
use Rattle.typing.specs.Check.{Checked, accepted, refused, check}
use Rattle.step.specs.Step.{Stepped, changed, unchanged, no_place, step_tree}
use Rattle.run.specs.declared.Ending.{Ending}
use Rattle.run.specs.declared.Ending.TheVariants.{Rest, Spent, Full}
use Rattle.run.specs.declared.Run.{Run}

-- ---- "A run steps at the first place in prefix order where a rule applies."
pub data First : Type 0 where
  -- the tree after that step
  next : Tree → First
  -- "no rule applies anywhere"
  nowhere : First

abbrev pub or_next : Stepped → First → First
or_next (changed p u) f = next u
or_next unchanged f = f
or_next no_place f = f

-- the first of n places, from place k on
unfoldable pub first_from : ℕ → Tree → ℕ → First
first_from zero t k = nowhere
first_from (suc n) t k = let later = first_from n t (k + 1) in or_next (step_tree t k) later

unfoldable pub first_step : Tree → First
first_step t = first_from (nodes t) t 0

-- ---- the words: "REST, no rule applies anywhere; SPENT, budget used and some rule still applies; FULL, budget left but
-- that first step would pass 4,096 bytes"
pub data Word : Type 0 where
  REST SPENT FULL : Word

-- "It answers with the count of changing steps"; "The run takes a budget and returns a count equal to the steps of its definition."
pub data Ran : Type 0 where
  -- the word, the count of changing steps, the last tree
  ran : Word → ℕ → Tree → Ran

abbrev pub at_end : First → ℕ → Tree → Ran
at_end (next u) n t = ran SPENT n t
at_end nowhere n t = ran REST n t

abbrev pub go_on : First → ℕ → Tree → (Tree → Ran) → Ran
go_on (next u) n t go = let r = go u in pick (ltb frame_limit (length (enc u))) (ran FULL n t) r
go_on nowhere n t go = ran REST n t

-- with this budget left, and n changing steps made
unfoldable pub run_tree : ℕ → ℕ → Tree → Ran
run_tree zero n t = at_end (first_step t) n t
run_tree (suc budget) n t = go_on (first_step t) n t (run_tree budget (n + 1))

-- What each word says of the last tree u, with m steps counted where no more than `most` could be: "REST, no rule applies anywhere; SPENT,
-- budget used and some rule still applies; FULL, budget left but that first step would pass 4,096 bytes". Said again, apart from the
-- run, and proved of it (`run_ends`), so that with the count (`run_steps`) these are shut out: "a run that makes its first step and calls
-- that REST", "an invented count", "SPENT with no step made and budget left, or FULL with a next step that fits".
abbrev pub EndsAs : Word → ℕ → ℕ → Tree → Type 0
EndsAs REST m most u = first_step u ≡ nowhere
EndsAs SPENT m most u = (m ≡ most) × ((v : Tree) × (first_step u ≡ next v))
EndsAs FULL m most u = (m < most) × ((v : Tree) × (first_step u ≡ next v) × (frame_limit < length (enc v)))

-- ---- on frames
pub data RunOutcome : Type 0 where
  -- the word, the count, and the last frame
  ended : Word → ℕ → List ℕ → RunOutcome
  turned_down : ℕ → RunOutcome

abbrev pub ended_by : Ran → RunOutcome
ended_by (ran w n t) = ended w n (enc t)

-- "12. [..] or a run's output has under 4,096 bytes, checked before its first step."
abbrev pub run_on : ℕ → ℕ → Checked → RunOutcome
run_on budget c (accepted t) = let r = ended_by (run_tree budget 0 t) in pick (ltb c frame_limit) (turned_down 12) r
run_on budget c (refused n) = turned_down n

-- the run of the frame s with a lent output of c bytes
unfoldable pub run : List ℕ → ℕ → ℕ → RunOutcome
run s budget c = run_on budget c (check s)

-- "Where an answer is an enum, a definition gives this paper's number and values for each case of the enum. The promises use that
-- definition." "Its answer, and a run's, gives the frame's length." "The contract of each entry gives answer, count and every byte of the
-- output afterwards, refusals too: by an equation with a definition": of the entry `run`, with `run_answer` and `run_output`.
abbrev pub ending_for : Word → Ending
ending_for REST = Rest
ending_for SPENT = Spent
ending_for FULL = Full

abbrev pub word_answer : Word → ℕ → ℕ → Run
word_answer w n l = record { ending = ending_for w; steps = n; length = l }

abbrev pub run_answer : RunOutcome → Result Run Refusal
run_answer (ended w n xs) = Ok (word_answer w n (length xs))
run_answer (turned_down c) = Err (refusal c)

-- "The output then holds the last tree from byte 0, and each byte after it is as before the run."; of a number: "Each answers its number
-- alone and leaves the output's old bytes."
abbrev pub run_output : RunOutcome → List ℕ → List ℕ
run_output (ended w n xs) d = xs ++ drop (length xs) d
run_output (turned_down c) d = d
