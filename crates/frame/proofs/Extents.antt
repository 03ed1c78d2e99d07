-- How far trees reach: where a tree that is read ends, and how many nodes and bytes it has.
-- Main results: node_end, some_node, nodes_enc, nodes_in_encs, starts_length, starts_in_length,
-- starts_first, starts_rest (the table of starts, at a place of the first tree and of the others).
use mathlib.Core.Path.{◌≡◌, refl, ap}
use mathlib.Core.List.{List, ◌++◌}
use Prim.Native.Nat.{ℕ, suc, ◌+◌, ◌≤◌, ◌<◌}
use native.Mathlib.Omega.{arith}
use lib.ListN.{length, length-append, get_or, get_or-append}
use lib.Seq.{get_or-append-add}
use Rattle.frame.specs.Trees.{Tree, node, Forest, nil, cons, count, nodes, nodes_in}
use Rattle.frame.specs.Tags.{Sort}
use Rattle.frame.specs.Encoding.{enc_head, enc, encs, starts, starts_in}
use Rattle.frame.specs.Reading.{ok, read_node}
use Rattle.frame.specs.Spans.{Bytes}
use Rattle.frame.proofs.ReadTrees.{node_enc}
use Rattle.frame.proofs.ReadBack.{head_long, enc_long}

module _ (f : ℕ) (s : List ℕ) (bs : Bytes s) where
  -- a tree that is read has two bytes at least, all of them in the list
  pub node_end : (e : Sort) (at : ℕ) (t : Tree) (q : ℕ) → read_node f s e at ≡ ok t q → (at + 2 ≤ q) × (q ≤ length s)
  node_end e at t q eq = let a = node_enc f s bs e at t q eq in (omega (arith, a.long, enc_long t), a.within)

-- a tree has a node
pub some_node : (t : Tree) → 0 < nodes t
unfolding nodes
some_node (node h ks) = omega arith

-- each node has two bytes at least
mutual
  unfolding nodes enc

  pub nodes_enc : (t : Tree) → nodes t + nodes t ≤ length (enc t)
  nodes_enc (node h ks) = simp length-append (omega (arith, head_long h (count ks), nodes_in_encs ks))

  pub nodes_in_encs : (ts : Forest) → nodes_in ts + nodes_in ts ≤ length (encs ts)
  nodes_in_encs nil = omega arith
  nodes_in_encs (cons t ts) = simp length-append (omega (arith, nodes_enc t, nodes_in_encs ts))

-- there is a start for each node
mutual
  unfolding nodes starts

  pub starts_length : (t : Tree) (p : ℕ) → length (starts t p) ≡ nodes t
  starts_length (node h ks) p = ap suc (starts_in_length ks (p + length (enc_head h (count ks))))

  pub starts_in_length : (ts : Forest) (p : ℕ) → length (starts_in ts p) ≡ nodes_in ts
  starts_in_length nil p = refl
  starts_in_length (cons t ts) p = rw (length-append, starts_length t p, starts_in_length ts (p + length (enc t)))

-- the table of a forest, at a place of the first tree and of the others
pub starts_first : (t : Tree) (p k : ℕ) (l : List ℕ) → k < nodes t → get_or (starts t p ++ l) k 0 ≡ get_or (starts t p) k 0
starts_first t p k l h = get_or-append (starts t p) l 0 k (omega (arith, starts_length t p))

pub starts_rest : (t : Tree) (p k : ℕ) (l : List ℕ) → get_or (starts t p ++ l) (nodes t + k) 0 ≡ get_or l k 0
starts_rest t p k l = rw (← starts_length t p) (get_or-append-add (starts t p) l k 0)
