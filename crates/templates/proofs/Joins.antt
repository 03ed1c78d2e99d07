-- The bytes of a node with any children, by what its tag asks for: the tag, a count where there is one, and the children.
-- Main results: plain_bytes, counted_bytes; and_bytes, or_bytes, inter_bytes, union_bytes.
use mathlib.Core.Path.{◌≡◌, refl, ap, ◌∙◌}
use mathlib.Core.List.{List, [], ◌∷◌, ◌++◌, append_assoc, append-nil}
use Prim.Native.Nat.{ℕ, ◌/◌}
use native.Mathlib.Omega.{arith}
use lib.ListN.{length}
use Rattle.frame.specs.Types.{Ty}
use Rattle.frame.specs.Trees.{head, node, Forest, count, many}
use Rattle.frame.specs.Tags.{Sort, Layout, these, counted, lookup, class_of, form_at, form_of, width, number_of}
use Rattle.frame.specs.Operators.{#BUnion, #BInter, #LAnd, #LOr}
use Rattle.frame.specs.Encoding.{enc_number, enc_tys, enc_head, enc, encs}

module _ (g : ℕ) (ks : Forest) where
  -- as a function of the layout
  bytes_by : List Ty → Layout → List ℕ
  bytes_by ts l = (enc_number 2 g ++ (enc_number (width l) (number_of l 0 (length ts) (count ks)) ++ enc_tys ts)) ++ encs ks

  enc_by : (ts : List Ty) → enc (node (head g 0 ts) ks) ≡ bytes_by ts (form_of g).layout
  unfolding bytes_by enc enc_head
  enc_by ts = refl

  one_byte : (n : ℕ) → enc_number 1 n ≡ n ∷ []
  unfolding enc_number
  one_byte n = let z : n / 1 ≡ n = omega arith in ap (λ (x : ℕ). x ∷ []) z

  pub plain_bytes : (es : List Sort) → (form_of g).layout ≡ these es → enc (many g ks) ≡ enc_number 2 g ++ encs ks
  unfolding bytes_by enc_number enc_tys
  plain_bytes es e = enc_by [] ∙ ap (bytes_by []) e ∙ ap (λ (l : List ℕ). l ++ encs ks) (append-nil (enc_number 2 g))

  pub counted_bytes : (lo hi : ℕ) (s : Sort) → (form_of g).layout ≡ counted lo hi s → enc (many g ks) ≡ enc_number 2 g ++ (count ks ∷ encs ks)
  unfolding bytes_by enc_tys
  counted_bytes lo hi s e =
      enc_by [] ∙ ap (bytes_by []) e
      ∙ append_assoc (enc_number 2 g) (enc_number 1 (count ks) ++ []) (encs ks)
      ∙ ap (λ (l : List ℕ). enc_number 2 g ++ ((l ++ []) ++ encs ks)) (one_byte (count ks))

pub and_bytes : (ks : Forest) → enc (many #LAnd ks) ≡ enc_number 2 #LAnd ++ (count ks ∷ encs ks)
unfolding lookup class_of form_at
and_bytes ks = counted_bytes #LAnd ks _ _ _ refl

pub or_bytes : (ks : Forest) → enc (many #LOr ks) ≡ enc_number 2 #LOr ++ (count ks ∷ encs ks)
unfolding lookup class_of form_at
or_bytes ks = counted_bytes #LOr ks _ _ _ refl

pub inter_bytes : (ks : Forest) → enc (many #BInter ks) ≡ enc_number 2 #BInter ++ (count ks ∷ encs ks)
unfolding lookup class_of form_at
inter_bytes ks = counted_bytes #BInter ks _ _ _ refl

pub union_bytes : (ks : Forest) → enc (many #BUnion ks) ≡ enc_number 2 #BUnion ++ (count ks ∷ encs ks)
unfolding lookup class_of form_at
union_bytes ks = counted_bytes #BUnion ks _ _ _ refl
