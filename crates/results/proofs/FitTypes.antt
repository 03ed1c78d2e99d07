-- Types in a row whose given sets have two-byte numbers: one of them, and one more.
-- Main results: fit_at, fit_snoc.
use mathlib.Core.List.{List, [], ◌∷◌, ◌++◌}
use Prim.Native.Nat.{ℕ, zero, suc}
use Rattle.frame.specs.Types.{Ty}
use Rattle.frame.specs.WellFormed.{TyWf}
use Rattle.typing.specs.Typing.{ty}
use Rattle.results.specs.ResultPosts.{TysFit}

pub fit_at : (i : ℕ) (ρ : List Ty) → TysFit ρ → TyWf (ty i ρ)
fit_at i [] f = tt
fit_at zero (t ∷ ρ) f = f.0
fit_at (suc i) (t ∷ ρ) f = fit_at i ρ f.1

pub fit_snoc : (ρ : List Ty) (t : Ty) → TysFit ρ → TyWf t → TysFit (ρ ++ (t ∷ []))
fit_snoc [] t f w = (w, tt)
fit_snoc (u ∷ ρ) t f w = (f.0, fit_snoc ρ t f.1 w)
