-- Types made from a type, by its bytes: the ways out of the methods of `TypeBytes`.
use mathlib.Core.Path.{◌≡◌, refl, sym, ap, ◌∙◌, subst}
use mathlib.Core.Bool.{true, false}
use mathlib.Core.List.{List, [], ◌∷◌, ◌++◌}
use Prim.Native.Nat.{ℕ, suc, ◌+◌, ◌-◌, ◌≤◌, ◌<◌}
use native.Mathlib.Omega.{arith}
use lib.ListN.{length, get_or, take, drop, length-append}
use lib.Seq.{take-append_seam, drop-append_seam, take-length}
use Rattle.std.proofs.Common.{Option}
use Rattle.frame.specs.Types.{Ty, bool, int, given, pow, prod}
use Rattle.frame.specs.Encoding.{enc_number, enc_ty, enc}
use Rattle.frame.specs.Spans.{Spans}
use Rattle.frame.proofs.Spans.{span_whole, span_first, span_left}
use Rattle.frame.proofs.Inversion.{true_not}
use Rattle.heads.specs.TypeEnds.{TypeAt as Standing, EndOf}
use Rattle.typing.specs.Typing.{element, first, second}
use Rattle.typing.specs.TypeExpression.{to_expression}
use Rattle.put.specs.Out.{Puts}
use Rattle.put.specs.Written.{HasType, Expressed}
use Rattle.put.proofs.Puts.{puts_then, puts_as}
use Rattle.put.proofs.TypeBytes.{lead, type_at, pow_bytes}
use Rattle.templates.specs.Template.{Mode, whole, of_dom, of_ran, of_element, of_elements, of_source, made}
use Rattle.programs.specs.declared.Operand.{Operand}
use Rattle.programs.specs.declared.Operand.TheVariants.{First, Second}
use Rattle.parts.specs.Types.{type_in, type_back, side_of, inner, powered}

-- ---- a type and its bytes
module _ (s : List ℕ) (t : Ty) where
  -- bytes say the type whose bytes they are
  pub type_says : s ≡ enc_ty t → type_in s ≡ t
  type_says e = ap type_in e ∙ type_back t

  pub type_whole : s ≡ enc_ty t → s ≡ enc_ty (type_in s)
  type_whole e = e ∙ ap enc_ty (sym (type_says e))

  pub type_held : s ≡ enc_ty (type_in s) → type_in s ≡ t → s ≡ enc_ty t
  type_held e v = e ∙ ap enc_ty v

pub same_type : (t u : Ty) → enc_ty t ≡ enc_ty u → t ≡ u
same_type t u e = sym (type_back t) ∙ type_says (enc_ty t) u e

pub bool_bytes : 0 ∷ [] ≡ enc_ty bool
unfolding enc_ty
bool_bytes = refl

leads : (t : Ty) → (get_or (enc_ty t) 0 0 ≡ lead t) × (0 < length (enc_ty t))
unfolding enc_ty
leads bool = (refl, omega arith)
leads int = (refl, omega arith)
leads (given n) = (refl, omega arith)
leads (pow t) = (refl, omega arith)
leads (prod t u) = (refl, omega arith)

-- ---- what stands behind a byte, in two parts
part_left : (x : ℕ) (a b s : List ℕ) (end : ℕ) → s ≡ x ∷ (a ++ b) → end ≡ suc (length a) → take (end - 1) (drop 1 s) ≡ a
part_left x a b s end e h = let z : end - 1 ≡ length a = omega arith in rw (e, z) (take-append_seam a b)

part_right : (x : ℕ) (a b s : List ℕ) (end : ℕ) → s ≡ x ∷ (a ++ b) → end ≡ suc (length a) → take (length s - end) (drop end s) ≡ b
part_right x a b s end e h =
    let z : length s - end ≡ length b = omega (arith, ap length e, length-append a b) in
    let y : drop end s ≡ b = rw (e, h) (drop-append_seam a b) in
    rw (y, z) (take-length b)

-- ---- what a type's bytes have of its parts
module _ (s : List ℕ) (t : Ty) (e : s ≡ enc_ty t) where
  lead_of : get_or s 0 0 ≡ lead t
  lead_of = ap (λ (l : List ℕ). get_or l 0 0) e ∙ (leads t).0

  pub type_some : 0 < length s
  type_some = omega (arith, ap length e, (leads t).1)

  pub type_stands : HasType s 0
  type_stands = (t, type_at t (subst (λ (l : List ℕ). Spans s 0 (length s) l) e (span_whole s)))

  pub element_bytes : get_or s 0 0 ≡ 3 → take (length s - 1) (drop 1 s) ≡ enc_ty (element t)
  unfolding enc_ty
  element_bytes z = go t e (sym lead_of ∙ z)
    where
      go : (t : Ty) → s ≡ enc_ty t → lead t ≡ 3 → take (length s - 1) (drop 1 s) ≡ enc_ty (element t)
      go bool e y = absurd (omega arith)
      go int e y = absurd (omega arith)
      go (given n) e y = absurd (omega arith)
      go (pow t) e y = let z : suc (length (enc_ty t)) - 1 ≡ length (enc_ty t) = omega arith in rw e (rw z (take-length (enc_ty t)))
      go (prod t u) e y = absurd (omega arith)

  pub element_none : (get_or s 0 0 ≡ 3 → ⊥) → bool ≡ element t
  element_none d = go t (λ z. d (lead_of ∙ z))
    where
      go : (t : Ty) → (lead t ≡ 3 → ⊥) → bool ≡ element t
      go bool z = refl
      go int z = refl
      go (given n) z = refl
      go (pow t) z = absurd (z refl)
      go (prod t u) z = refl

  pub side_none : (get_or s 0 0 ≡ 4 → ⊥) → (which : Operand) → bool ≡ side_of which t
  side_none d which = go t which (λ z. d (lead_of ∙ z))
    where
      go : (t : Ty) (which : Operand) → (lead t ≡ 4 → ⊥) → bool ≡ side_of which t
      go bool First z = refl
      go bool Second z = refl
      go int First z = refl
      go int Second z = refl
      go (given n) First z = refl
      go (given n) Second z = refl
      go (pow t) First z = refl
      go (pow t) Second z = refl
      go (prod t u) which z = absurd (z refl)

  record Product : Type 0 where
    left : Ty
    right : Ty
    is : t ≡ prod left right
    bytes : s ≡ 4 ∷ (enc_ty left ++ enc_ty right)

  module _ (z : get_or s 0 0 ≡ 4) where
    product : Product
    unfolding enc_ty
    product = go t refl (sym lead_of ∙ z)
      where
        go : (u : Ty) → t ≡ u → lead t ≡ 4 → Product
        go bool q y = absurd (omega (arith, ap lead q))
        go int q y = absurd (omega (arith, ap lead q))
        go (given n) q y = absurd (omega (arith, ap lead q))
        go (pow u) q y = absurd (omega (arith, ap lead q))
        go (prod u v) q y = record { left = u; right = v; is = q; bytes = e ∙ ap enc_ty q }

    left_span : Spans s 1 (1 + length (enc_ty product.left)) (enc_ty product.left)
    left_span =
        let v = product in
        span_left (enc_ty v.left) (enc_ty v.right) (span_first (subst (λ (l : List ℕ). Spans s 0 (length s) l) v.bytes (span_whole s))).rest

    pub product_stands : Standing s 1
    product_stands = record { type = product.left; end = _; span = left_span }

    module _ (end : ℕ) (ends : EndOf s 1 end) where
      end_is : end ≡ 1 + length (enc_ty product.left)
      end_is = ends.is product.left _ left_span

      pub end_within : (1 ≤ end) × (end ≤ length s)
      end_within =
          let v = product in
          (omega (arith, end_is), omega (arith, end_is, ap length v.bytes, length-append (enc_ty v.left) (enc_ty v.right)))

      pub first_bytes : take (end - 1) (drop 1 s) ≡ enc_ty (first t)
      first_bytes =
          let v = product in
          part_left 4 _ (enc_ty v.right) s end v.bytes (omega (arith, end_is)) ∙ ap (λ (u : Ty). enc_ty (first u)) (sym v.is)

      pub second_bytes : take (length s - end) (drop end s) ≡ enc_ty (second t)
      second_bytes =
          let v = product in
          part_right 4 (enc_ty v.left) _ s end v.bytes (omega (arith, end_is)) ∙ ap (λ (u : Ty). enc_ty (second u)) (sym v.is)

-- ---- the type behind a power, and all of it
made_power : (m : Mode) (t : Ty) → powered m ≡ true → pow (inner m t) ≡ made m t
made_power whole t e = true_not e
made_power of_dom t e = refl
made_power of_ran t e = refl
made_power of_element t e = true_not e
made_power of_elements t e = true_not e
made_power of_source t e = true_not e

made_plain : (m : Mode) (t : Ty) → powered m ≡ false → inner m t ≡ made m t
made_plain whole t e = refl
made_plain of_dom t e = true_not (sym e)
made_plain of_ran t e = true_not (sym e)
made_plain of_element t e = refl
made_plain of_elements t e = refl
made_plain of_source t e = refl

pow_type_bytes : (t : Ty) → (3 ∷ []) ++ enc_ty t ≡ enc_ty (pow t)
unfolding enc_ty
pow_type_bytes t = refl

module _ (r : List ℕ) (m : Mode) (t : Ty) (v : r ≡ enc_ty (inner m t)) (o q : Option (List ℕ)) where
  pub type_power : (p : Option (List ℕ)) → powered m ≡ true → Puts o p (3 ∷ []) → Puts p q r → Puts o q (enc_ty (made m t))
  type_power p e a b =
      puts_as o q _ _ (ap (λ (l : List ℕ). (3 ∷ []) ++ l) v ∙ pow_type_bytes (inner m t) ∙ ap enc_ty (made_power m t e)) (puts_then o p q _ _ a b)

  pub type_plain : powered m ≡ false → Puts o q r → Puts o q (enc_ty (made m t))
  type_plain e a = puts_as o q _ _ (v ∙ ap enc_ty (made_plain m t e)) a

  pub expression_power : (p : Option (List ℕ)) (k : ℕ) → powered m ≡ true → Puts o p (enc_number 2 752) → Expressed r 0 p q k
      → Puts o q (enc (to_expression (made m t)))
  unfolding type_stands
  expression_power p k e a b =
      let u = inner m t in
      puts_as o q _ _ (pow_bytes u ∙ ap (λ (x : Ty). enc (to_expression x)) (made_power m t e))
      (puts_then o p q _ _ a (b.puts u (type_stands r u v).1))

  pub expression_plain : (k : ℕ) → powered m ≡ false → Expressed r 0 o q k → Puts o q (enc (to_expression (made m t)))
  unfolding type_stands
  expression_plain k e b =
      puts_as o q _ _ (ap (λ (x : Ty). enc (to_expression x)) (made_plain m t e)) (b.puts (inner m t) (type_stands r (inner m t) v).1)
