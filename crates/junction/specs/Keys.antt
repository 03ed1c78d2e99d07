-- Keys of children: what the function of src/keys.rt asks and answers. proofs/KeyTurns.antt shows that trees with different keys are
-- neither the same nor opposite.
use Rattle.std.specs.Prelude.{◌≡◌, List, [], ℕ, ◌%◌, sum}
use Rattle.frame.specs.Trees.{Tree}
use Rattle.frame.specs.Encoding.{enc}
use Rattle.frame.specs.Places.{Ctx, found, find}
use Rattle.nav.specs.declared.Places.{Places}
use Rattle.nav.specs.PlaceTables.{Table}

-- the bytes of ¬ come to 191
abbrev pub key_of : Tree → ℕ
key_of v = sum (enc v) % 191

pub record KeyPost (s st nx : List ℕ) (k r : ℕ) : Type 0 where
  pub key : (t : Tree) (n : ℕ) (Γ : Ctx) (v : Tree) → Table s t st nx n → find t [] k ≡ found Γ v → r ≡ key_of v

abbrev pub KeyAt : Places → ℕ → ℕ → Type 0
KeyAt p k r = KeyPost p.bytes.now p.starts.now p.nexts.now k r
