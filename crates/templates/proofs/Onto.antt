-- Bytes put in front of others: the bytes of a tree and of a filled template, so that no list is joined twice. Two of these
-- that compute to the same have the same bytes.
-- Main result: same_bytes.
use mathlib.Core.Path.{◌≡◌, refl, sym, ap, ◌∙◌}
use mathlib.Core.List.{List, [], ◌∷◌, ◌++◌, append_assoc, append-nil}
use Prim.Native.Nat.{ℕ, zero, suc, ◌/◌, ◌%◌, ◌^◌}
use native.Mathlib.Omega.{arith}
use lib.ListN.{length}
use Rattle.frame.specs.Types.{Ty}
use Rattle.frame.specs.Trees.{Head, head, Tree, node, Forest, nil, cons, count}
use Rattle.frame.specs.Tags.{form_of, width, number_of}
use Rattle.frame.specs.Encoding.{enc_number, enc_ty, enc_tys, enc_head, enc, encs}
use Rattle.typing.specs.TypeExpression.{to_expression}
use Rattle.templates.specs.Template.{made, Part, tag, byte, operand, type, expression, binders, Filling, operand_at, type_at, part_bytes, filled}

unfoldable pub number_onto : ℕ → ℕ → List ℕ → List ℕ
number_onto zero n zs = zs
number_onto (suc zero) n zs = n ∷ zs
number_onto (suc (suc w)) n zs = n / 256 ^ suc w ∷ number_onto (suc w) (n % 256 ^ suc w) zs

number_onto_lem : (w n : ℕ) (zs : List ℕ) → number_onto w n zs ≡ enc_number w n ++ zs
unfolding number_onto enc_number
number_onto_lem zero n zs = refl
number_onto_lem (suc zero) n zs = let z : n ≡ n / 1 = omega arith in ap (λ (x : ℕ). x ∷ zs) z
number_onto_lem (suc (suc w)) n zs = ap (λ (l : List ℕ). n / 256 ^ suc w ∷ l) (number_onto_lem (suc w) (n % 256 ^ suc w) zs)

unfoldable pub types_onto : List Ty → List ℕ → List ℕ
types_onto [] zs = zs
types_onto (t ∷ ts) zs = enc_ty t ++ types_onto ts zs

types_onto_lem : (ts : List Ty) (zs : List ℕ) → types_onto ts zs ≡ enc_tys ts ++ zs
unfolding types_onto enc_tys
types_onto_lem [] zs = refl
types_onto_lem (t ∷ ts) zs = ap (λ (l : List ℕ). enc_ty t ++ l) (types_onto_lem ts zs) ∙ sym (append_assoc (enc_ty t) (enc_tys ts) zs)

unfoldable pub head_onto : Head → ℕ → List ℕ → List ℕ
head_onto (head g n ts) k zs =
    number_onto 2 g (number_onto (width (form_of g).layout) (number_of (form_of g).layout n (length ts) k) (types_onto ts zs))

head_onto_lem : (h : Head) (k : ℕ) (zs : List ℕ) → head_onto h k zs ≡ enc_head h k ++ zs
unfolding head_onto enc_head
head_onto_lem (head g n ts) k zs =
    let w = width (form_of g).layout in
    let x = number_of (form_of g).layout n (length ts) k in
    number_onto_lem 2 g (number_onto w x (types_onto ts zs))
    ∙ ap (λ (l : List ℕ). enc_number 2 g ++ l)
    (number_onto_lem w x (types_onto ts zs) ∙ ap (λ (l : List ℕ). enc_number w x ++ l) (types_onto_lem ts zs) ∙ sym
    (append_assoc (enc_number w x) (enc_tys ts) zs))
    ∙ sym (append_assoc (enc_number 2 g) (enc_number w x ++ enc_tys ts) zs)

unfoldable mutual
  pub onto : Tree → List ℕ → List ℕ
  onto (node h ks) zs = head_onto h (count ks) (all_onto ks zs)

  pub all_onto : Forest → List ℕ → List ℕ
  all_onto nil zs = zs
  all_onto (cons t ts) zs = onto t (all_onto ts zs)

mutual
  unfolding onto all_onto enc encs

  tree_onto : (t : Tree) (zs : List ℕ) → onto t zs ≡ enc t ++ zs
  tree_onto (node h ks) zs =
      head_onto_lem h (count ks) (all_onto ks zs)
      ∙ ap (λ (l : List ℕ). enc_head h (count ks) ++ l) (all_onto_lem ks zs)
      ∙ sym (append_assoc (enc_head h (count ks)) (encs ks) zs)

  all_onto_lem : (ts : Forest) (zs : List ℕ) → all_onto ts zs ≡ encs ts ++ zs
  all_onto_lem nil zs = refl
  all_onto_lem (cons t ts) zs =
      tree_onto t (all_onto ts zs) ∙ ap (λ (l : List ℕ). enc t ++ l) (all_onto_lem ts zs) ∙ sym (append_assoc (enc t) (encs ts) zs)

-- ---- templates
unfoldable pub part_onto : Filling → Part → List ℕ → List ℕ
part_onto f (tag g) zs = number_onto 2 g zs
part_onto f (byte c) zs = c ∷ zs
part_onto f (operand i) zs = onto (operand_at i f.operands) zs
part_onto f (type m i) zs = enc_ty (made m (type_at i f.types)) ++ zs
part_onto f (expression m i) zs = onto (to_expression (made m (type_at i f.types))) zs
part_onto f binders zs = length f.binder_types ∷ types_onto f.binder_types zs

part_onto_lem : (f : Filling) (p : Part) (zs : List ℕ) → part_onto f p zs ≡ part_bytes f p ++ zs
unfolding part_onto
part_onto_lem f (tag g) zs = number_onto_lem 2 g zs
part_onto_lem f (byte c) zs = refl
part_onto_lem f (operand i) zs = tree_onto (operand_at i f.operands) zs
part_onto_lem f (type m i) zs = refl
part_onto_lem f (expression m i) zs = tree_onto (to_expression (made m (type_at i f.types))) zs
part_onto_lem f binders zs = ap (λ (l : List ℕ). length f.binder_types ∷ l) (types_onto_lem f.binder_types zs)

unfoldable pub filled_onto : List Part → Filling → List ℕ
filled_onto [] f = []
filled_onto (p ∷ ps) f = part_onto f p (filled_onto ps f)

filled_onto_lem : (ps : List Part) (f : Filling) → filled_onto ps f ≡ filled ps f
unfolding filled_onto filled
filled_onto_lem [] f = refl
filled_onto_lem (p ∷ ps) f = part_onto_lem f p (filled_onto ps f) ∙ ap (λ (l : List ℕ). part_bytes f p ++ l) (filled_onto_lem ps f)

pub same_bytes : (ps : List Part) (f : Filling) (t : Tree) → filled_onto ps f ≡ onto t [] → filled ps f ≡ enc t
same_bytes ps f t e = sym (filled_onto_lem ps f) ∙ e ∙ tree_onto t [] ∙ append-nil (enc t)
