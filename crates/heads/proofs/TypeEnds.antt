-- The end of one type, by the end of a row of one.
-- Main results: type_stands, type_ends.
use mathlib.Core.Path.{refl}
use mathlib.Core.List.{List, [], ◌∷◌, append-nil}
use Prim.Native.Nat.{ℕ}
use Rattle.frame.specs.Types.{Ty}
use Rattle.frame.specs.Encoding.{enc_ty, enc_tys}
use Rattle.frame.specs.Spans.{Spans}
use Rattle.heads.specs.HeadPost.{TypesStand, SkipPost}
use Rattle.heads.specs.TypeEnds.{TypeAt, EndOf}

one_span : (s : List ℕ) (at e : ℕ) (t : Ty) → Spans s at e (enc_ty t) → Spans s at e (enc_tys (t ∷ []))
unfolding enc_tys
one_span s at e t a = rw append-nil a

pub type_stands : (s : List ℕ) (at : ℕ) → TypeAt s at → TypesStand s at 1
type_stands s at a = (a.type ∷ [], a.end, refl, one_span s at a.end a.type a.span)

pub type_ends : (s : List ℕ) (at r : ℕ) → SkipPost s at 1 r → EndOf s at r
type_ends s at r p = record { is = λ t e a. p.ends (t ∷ []) e refl (one_span s at e t a) }
