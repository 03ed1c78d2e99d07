-- Sameness of types from their equality.
use mathlib.Core.Path.{◌≡◌, subst}
use mathlib.Core.Bool.{true}
use mathlib.Core.List.{List}
use Rattle.frame.specs.Types.{Ty}
use Rattle.frame.specs.Sameness.{same_ty, same_tys}
use Rattle.frame.proofs.SameTrees.{same_ty_refl, same_tys_refl}

pub same_ty_of : (t u : Ty) → t ≡ u → same_ty t u ≡ true
same_ty_of t u e = subst (λ (v : Ty). same_ty t v ≡ true) e (same_ty_refl t)

pub same_tys_of : (ts us : List Ty) → ts ≡ us → same_tys ts us ≡ true
same_tys_of ts us e = subst (λ (l : List Ty). same_tys ts l ≡ true) e (same_tys_refl ts)
