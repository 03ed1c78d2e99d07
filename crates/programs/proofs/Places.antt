-- What stands at each of some places. Main results: at_one, at_either.
use mathlib.Core.Path.{◌≡◌, sym, ap, ◌∙◌}
use mathlib.Core.Logic.{◌⊎◌, inl, inr}
use mathlib.Core.List.{List}
use Prim.Native.Nat.{ℕ}
use Rattle.templates.specs.Template.{Part}
use Rattle.templates.specs.Programs.{template}

pub at_one : {ps : List Part} (n k : ℕ) → ps ≡ template n → k ≡ n → ps ≡ template k
at_one n k e z = e ∙ ap template (sym z)

-- at n, or at one of others
pub at_either : {ps : List Part} (n k : ℕ) {B : Type 0} → ps ≡ template n → (B → ps ≡ template k) → (k ≡ n) ⊎ B → ps ≡ template k
at_either n k e f (inl z) = at_one n k e z
at_either n k e f (inr b) = f b
