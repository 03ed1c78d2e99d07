-- "On finite of a union of k pairwise different set extensions, a run that ends in REST takes at most 2 × k steps."
use Rattle.std.specs.Prelude.{◌≡◌, List, ℕ, ◌*◌, ◌≤◌}
use Rattle.frame.specs.Trees.{Forest, nil, cons, count, tag_of, one, many}
use Rattle.frame.specs.Operators.{#SetExt, #BUnion, #Finite}
use Rattle.frame.specs.Spans.{Bytes}
use Rattle.typing.specs.Check.{accepted, check}
use Rattle.rules.specs.Equations.{Among}
use Rattle.run.specs.Run.{REST, ended, run}

-- set extensions
abbrev pub Extensions : Forest → Type 0
Extensions nil = Unit {0}
Extensions (cons k ks) = (tag_of k ≡ #SetExt) × Extensions ks

-- pairwise different: none stands again among the later ones
abbrev pub Different : Forest → Type 0
Different nil = Unit {0}
Different (cons k ks) = (Among k ks → ⊥) × Different ks

-- the sentence, of any accepted frame, any budget and any lent output; a frame's elements are bytes
abbrev pub UnionBound : Type 0
UnionBound =
    (s : List ℕ) → Bytes s → (ks : Forest) → check s ≡ accepted (one #Finite (many #BUnion ks)) → Extensions ks → Different ks
    → (budget c m : ℕ) (xs : List ℕ) → run s budget c ≡ ended REST m xs → m ≤ 2 * count ks
