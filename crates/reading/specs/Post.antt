-- What the code of reading answers, by the definitions of frame/specs/Reading.antt: a result of theirs as a result of the code.
use Rattle.std.specs.Prelude.{ℕ, ◌+◌, ◌-◌, ◌≤◌, ◌<◌, ◌≡◌, List, ◌++◌, length, replicate, Result, Ok, Err}
use Rattle.std.proofs.lemmas.List.Edits.{sets}
use Rattle.frame.specs.Trees.{Tree, Forest, nodes}
use Rattle.frame.specs.Tags.{Sort}
use Rattle.frame.specs.Refusals.{refusal}
use Rattle.frame.specs.declared.refusals.Refusal.{Refusal}
use Rattle.frame.specs.Encoding.{encs, starts, starts_in}
use Rattle.frame.specs.WellFormed.{Wfs}
use Rattle.frame.specs.Spans.{Spans}
use Rattle.frame.specs.Reading.{Res, ok, no, FRes, ok_f, no_f, read_many, read_node, Parsed, tree, bad, frame_limit}
use Rattle.reading.specs.declared.FrameRead.{FrameRead}

-- ---- trees
-- where the tree ends
abbrev pub node_answer : Res → Result ℕ Refusal
node_answer (ok t q) = Ok q
node_answer (no c) = Err (refusal c)

abbrev pub trees_answer : FRes → Result ℕ Refusal
trees_answer (ok_f ts q) = Ok q
trees_answer (no_f c) = Err (refusal c)

-- `at` is within the bytes, which fit a frame, and the table has room for a node for each two bytes
pub record Room (s : List ℕ) (at k : ℕ) : Type 0 where
  pub within : at ≤ length s
  pub short : length s ≤ frame_limit
  pub room : k + k ≤ at

-- what was read, with these starts added
abbrev pub filled : FrameRead → List ℕ → FrameRead
filled b xs = record { nodes = b.nodes + length xs; starts = sets b.starts b.nodes xs }

-- r is the answer of the definition at any fuel above the bytes left; where it is a tree, b₁ is b₀ with its starts added
pub record NodePost (s : List ℕ) (e : Sort) (at : ℕ) (b₀ b₁ : FrameRead) (r : Result ℕ Refusal) : Type 0 where
  pub answer : (f : ℕ) → length s < at + f → r ≡ node_answer (read_node f s e at)
  pub table : (f : ℕ) → length s < at + f → (t : Tree) (q : ℕ) → read_node f s e at ≡ ok t q → b₁ ≡ filled b₀ (starts t at)

pub record TreesPost (s : List ℕ) (es : List Sort) (at : ℕ) (b₀ b₁ : FrameRead) (r : Result ℕ Refusal) : Type 0 where
  pub answer : (f : ℕ) → length s < at + f → r ≡ trees_answer (read_many es (read_node f s) at)
  pub table : (f : ℕ) → length s < at + f → (ts : Forest) (q : ℕ) → read_many es (read_node f s) at ≡ ok_f ts q → b₁ ≡ filled b₀ (starts_in ts at)

-- ---- a frame
-- "a fixed table of 2,048 node starts, all zero before reading": "A [0; 2048] array of u16 positions by value, filled in prefix
-- order by the reader."
abbrev pub table_size : ℕ
table_size = 2048

-- the starts of the nodes in prefix order, and zeros after them; zeros only, for a frame that is turned down
abbrev pub table_of : Parsed → List ℕ
table_of (tree t) = starts t 0 ++ replicate (table_size - nodes t) 0
table_of (bad c) = replicate table_size 0

-- "Where an answer is an enum, a definition gives this paper's number and values for each case of the enum. The promises use that
-- definition." "The contract of each entry gives answer, count and every byte of the output afterwards, refusals too: by an
-- equation with a definition": with this one. A frame that is turned down has no table.
abbrev pub frame_answer : Parsed → Result FrameRead Refusal
frame_answer (tree t) = Ok (record { nodes = nodes t; starts = table_of (tree t) })
frame_answer (bad c) = Err (refusal c)

-- ---- a frame that was read before
-- trees that stand one after the other, from `at` to the end of the frame: of each node that was met its children come first,
-- then what came after the node
pub record Rest (s : List ℕ) (at : ℕ) (ts : Forest) (es : List Sort) : Type 0 where
  pub span : Spans s at (length s) (encs ts)
  pub wf : Wfs ts es
