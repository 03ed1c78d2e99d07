-- A frame's names by a table that has no claims at first: what note_nodes asks for and answers.
-- Main results: begins, decides; all_agreed (the table of all numbers).
use mathlib.Core.Path.{◌≡◌, sym, subst}
use mathlib.Core.Bool.{false}
use mathlib.Core.List.{List, [], ◌∷◌, append-nil}
use Prim.Native.Nat.{ℕ, ◌≤◌}
use native.Mathlib.Omega.{arith}
use lib.ListN.{length}
use Rattle.std.proofs.Common.{Result, Ok, Err, Option, Some, None, Bool}
use Rattle.std.specs.Option.{unwrap_or}
use Rattle.frame.specs.Trees.{Tree, nil, cons}
use Rattle.frame.specs.Tags.{predicate}
use Rattle.frame.specs.Reading.{frame_limit}
use Rattle.frame.specs.Spans.{Bytes}
use Rattle.frame.specs.At.{IsAt}
use Rattle.reading.proofs.AgainTurns.{frame_rest}
use Rattle.typing.specs.Identifiers.{Named, names_agree}
use Rattle.claims.specs.Table.{Told}
use Rattle.identifiers.specs.declared.Stop.{Stop}
use Rattle.identifiers.specs.declared.Stop.TheVariants.{Clashed, Beyond}
use Rattle.identifiers.specs.Claims.{claims, Clear, Decides, Agreed}
use Rattle.identifiers.proofs.Claims.{agree_told, clash_disagree}
use Rattle.identifiers.proofs.NotedClaims.{told_none}
use Rattle.identifiers.proofs.NotingNodes.{NamesAnswer, NamesPost, Over, over_begins}

module _ (s : List ℕ) (bs : Bytes s) (table : List ℕ) (clear : Clear table) where
  none : Told s table []
  none = subst (λ (l : List ℕ). Told s l []) (sym clear.1) (told_none s clear.0)

  pub begins : length s ≤ frame_limit → (t : Tree) → IsAt s predicate 0 t (length s) → Over s table 0 table
  begins l t a = over_begins s table (record { fits = l; done = []; told = none }) (_, _, frame_rest s bs t a)

  answers : (t : Tree) (after : List ℕ) (r : (Result (Unit {0}) Stop)) → NamesAnswer s table after (claims t) r → Decides table t r
  answers t after (Ok tt) a = sym (agree_told s after t (a.by [] none))
  answers t after (Err Clashed) a = sym (clash_disagree t (a.by [] none))
  answers t after (Err Beyond) a = omega (arith, a.beyond, a.low)

  pub decides : (after : List ℕ) (r : (Result (Unit {0}) Stop)) → NamesPost s 0 table after r → (t : Tree) → IsAt s predicate 0 t (length s)
      → Decides table t r
  unfolding claims
  decides after r p t a =
      answers t after r (subst (λ (l : List Named). NamesAnswer s table after l r) (append-nil (claims t))
      (p.by (cons t nil) (predicate ∷ []) (frame_rest s bs t a)))

-- ---- the table of all numbers
pub all_agreed : (t : Tree) (r : Option Bool) → Agreed 65536 t r → unwrap_or r false ≡ names_agree t
all_agreed t (Some agree) a = a
all_agreed t None a = absurd (omega arith)
