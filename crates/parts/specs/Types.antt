-- A type as its bytes say it, and the types that are made from one; the contracts of src/type_bytes.rt.
use Rattle.std.specs.Prelude.{◌≡◌, ◌+◌, ◌*◌, ◌/◌, ◌%◌, Bool, true, false, List, [], ◌∷◌, ◌++◌, ℕ, zero, suc, refl}
use Rattle.std.specs.Coded.{Coded, code_by, coded_list, coded_ℕ}
use Rattle.std.proofs.Common.{◌∙◌, ap, sym, append_assoc, append-nil, div-one, div-add-mod'}
use Rattle.frame.specs.Types.{Ty, bool, int, given, pow, prod}
use Rattle.frame.specs.Encoding.{enc_number, enc_ty}
use Rattle.typing.specs.Typing.{element, first, second, source, target}
use Rattle.templates.specs.Template.{Mode, whole, of_dom, of_ran, of_element, of_elements, of_source, made}
use Rattle.programs.specs.Parts.{mode_of}
use Rattle.programs.specs.declared.Made.{Made}
use Rattle.programs.specs.declared.Operand.{Operand}
use Rattle.programs.specs.declared.Operand.TheVariants.{First, Second}

-- ---- the type that bytes say
abbrev pub IsType : List ℕ → Type 0
IsType s = (t : Ty) × (s ≡ enc_ty t)

-- what the bytes 3 and 4 make of the types behind them
abbrev power_of : List Ty → List Ty
power_of [] = []
power_of (t ∷ ts) = pow t ∷ ts

abbrev product_of : List Ty → List Ty
product_of [] = []
product_of (t ∷ []) = []
product_of (t ∷ u ∷ ts) = prod t u ∷ ts

-- the types whose bytes stand one after the other
abbrev pub types_in : List ℕ → List Ty
types_in [] = []
types_in (zero ∷ s) = bool ∷ types_in s
types_in (suc zero ∷ s) = int ∷ types_in s
types_in (suc (suc zero) ∷ []) = []
types_in (suc (suc zero) ∷ h ∷ []) = []
types_in (suc (suc zero) ∷ h ∷ l ∷ s) = given (h * 256 + l) ∷ types_in s
types_in (suc (suc (suc zero)) ∷ s) = power_of (types_in s)
types_in (suc (suc (suc (suc b))) ∷ s) = product_of (types_in s)

abbrev first_of : List Ty → Ty
first_of [] = bool
first_of (t ∷ ts) = t

abbrev pub type_in : List ℕ → Ty
type_in s = first_of (types_in s)

-- a type's bytes say that type
types_back : (t : Ty) (s : List ℕ) → types_in (enc_ty t ++ s) ≡ t ∷ types_in s
unfolding enc_ty enc_number
types_back bool s = refl
types_back int s = refl
types_back (given n) s = ap (λ i. given i ∷ types_in s) (ap (λ i. n / 256 * 256 + i) (div-one (n % 256)) ∙ div-add-mod' n 256)
types_back (pow t) s = ap power_of (types_back t s)
types_back (prod t u) s =
    ap (λ l. product_of (types_in l)) (append_assoc (enc_ty t) (enc_ty u) s)
    ∙ ap product_of (types_back t (enc_ty u ++ s) ∙ ap (λ l. t ∷ l) (types_back u s))

pub type_back : (t : Ty) → type_in (enc_ty t) ≡ t
type_back t = ap type_in (sym (append-nil (enc_ty t))) ∙ ap first_of (types_back t [])

-- a type is stored as its bytes
abbrev pub type_code : Coded Ty
type_code = code_by (List ℕ) (coded_list coded_ℕ) enc_ty type_in type_back

-- ---- the types that are made from it
abbrev pub side_of : Operand → Ty → Ty
side_of First t = first t
side_of Second t = second t

-- the type behind a power, or the made type itself: of dom(r) and ran(r) that of their elements
abbrev pub inner : Mode → Ty → Ty
inner whole t = t
inner of_dom t = source t
inner of_ran t = target t
inner of_element t = element t
inner of_elements t = element (element t)
inner of_source t = source t

abbrev pub powered : Mode → Bool
powered whole = false
powered of_dom = true
powered of_ran = true
powered of_element = false
powered of_elements = false
powered of_source = false

abbrev pub type_made : Made → Ty → Ty
type_made m t = made (mode_of m) t
