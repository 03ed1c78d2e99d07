-- Trees with one tag that differ in their first six bytes: the ways out of `differ_early`.
-- Main results: two_operands, early_room, early_none, early_bytes.
use mathlib.Core.Path.{◌≡◌, refl, sym, ap, ◌∙◌}
use mathlib.Core.Bool.{Bool, true, false, not, ◌&&◌, ◌||◌}
use mathlib.Core.List.{List, [], ◌∷◌, ◌++◌}
use Prim.Native.Nat.{ℕ, ◌+◌, ◌-◌, ◌≤◌, ◌<◌}
use native.Mathlib.Omega.{arith}
use lib.ListN.{length, get_or, take, drop, length-append, length-take, length-drop}
use lib.Seq.{ext_get_or, get_or-drop, get_or-take}
use lib.Dec.{leb, eqb}
use lib.Pointwise.{pointwise}
use Rattle.std.proofs.Common.{is_le, nat_cmp}
use Rattle.std.proofs.lemmas.Map.Keys.{le_from_is_le}
use Rattle.std.specs.Cmp.Lexicographic.{other_text}
use borrow.Author.Tests.{le-leb, not-true}
use Rattle.frame.specs.Trees.{head, Tree, node, Forest, nil, cons, count, tag_of}
use Rattle.frame.specs.Tags.{Sort, Layout, these, payload, counted, binding, Class, table, class_of, form_at, form_of, sorts_of}
use Rattle.frame.specs.Encoding.{enc_head, enc, encs}
use Rattle.frame.specs.Reading.{number_at}
use Rattle.frame.specs.WellFormed.{Wf, Wfs}
use Rattle.frame.proofs.Inversion.{true_not}
use Rattle.frame.proofs.ReadBack.{head_long, enc_long}
use Rattle.frame.proofs.EveryTag.{along_rows, every_tag}
use Rattle.sameness.specs.Stands.{Stands}
use Rattle.nav.specs.PlaceTables.{EarlyPre, EarlyPost}
use Rattle.sameness.proofs.View.{stand_byte}
use Rattle.nav.proofs.PlaceTurns.{tag_there}

-- ---- the tags from 101 to 252 are those of nodes with two operands
abbrev two_fixed : Layout → Bool
two_fixed (these []) = false
two_fixed (these (a ∷ [])) = false
two_fixed (these (a ∷ b ∷ [])) = true
two_fixed (these (a ∷ b ∷ c ∷ es)) = false
two_fixed (payload w) = false
two_fixed (counted lo hi e) = false
two_fixed (binding lo hi es) = false

abbrev binary : ℕ → Class → Bool
binary t c = not (leb 101 t && leb t 252) || (not (form_at c).listed || two_fixed (form_at c).layout)

all_binary : along_rows binary 300 0 table ≡ true
unfolding form_at
all_binary = refl

is_two : (g : ℕ) → 101 ≤ g → g ≤ 252 → (form_of g).listed ≡ true → two_fixed (form_of g).layout ≡ true
is_two g a b l =
    let h : binary g (class_of g) ≡ true = every_tag binary 300 all_binary g (omega arith) in
    let x : (leb 101 g && leb g 252) ≡ true = ap (λ (i : Bool). i && leb g 252) (le-leb 101 g a) ∙ le-leb g 252 b in
    sym (ap (λ (i : Bool). not i || (not (form_of g).listed || two_fixed (form_of g).layout)) x ∙ ap
    (λ (i : Bool). not i || two_fixed (form_of g).layout) l) ∙ h

two_long : (ks : Forest) (es : List Sort) → Wfs ks es → length es ≡ 2 → 4 ≤ length (encs ks)
unfolding enc
two_long nil [] w l = absurd (omega arith)
two_long nil (e ∷ es) w l = absurd w
two_long (cons t ts) [] w l = absurd w
two_long (cons t nil) (e ∷ []) w l = absurd (omega arith)
two_long (cons t nil) (e ∷ d ∷ es) w l = absurd w.1
two_long (cons t (cons u us)) (e ∷ []) w l = absurd w.1
two_long (cons t (cons u us)) (e ∷ d ∷ es) w l =
    omega (arith, enc_long t, enc_long u, length-append (enc t) (enc u ++ encs us), length-append (enc u) (encs us))

sorts_two : (l : Layout) (x : ℕ) → two_fixed l ≡ true → length (sorts_of l x) ≡ 2
sorts_two (these []) x e = true_not e
sorts_two (these (a ∷ [])) x e = true_not e
sorts_two (these (a ∷ b ∷ [])) x e = refl
sorts_two (these (a ∷ b ∷ c ∷ es)) x e = true_not e
sorts_two (payload w) x e = true_not e
sorts_two (counted lo hi e) x z = true_not z
sorts_two (binding lo hi es) x e = true_not e

six : (t : Tree) (e : Sort) → Wf t e → 101 ≤ tag_of t → tag_of t ≤ 252 → 6 ≤ length (enc t)
unfolding enc
six (node (head g n us) ks) e w a b =
    let l = sorts_two (form_of g).layout _ (is_two g a b w.0.listed) in
    omega (arith, head_long (head g n us) (count ks), two_long ks _ w.1 l, length-append (enc_head (head g n us) (count ks)) (encs ks))

-- ---- the ways out

-- what the code's test of the range from a to b says of the tag
pub two_operands : (tag a b : ℕ) → a ≡ 101 → b ≡ 252 → (is_le (nat_cmp a tag) ≡ true) × (is_le (nat_cmp tag b) ≡ true) → (101 ≤ tag) × (tag ≤ 252)
two_operands tag a b ea eb t = (le_from_is_le 101 tag (rw ea at t.0), le_from_is_le tag 252 (rw eb at t.1))

module _ (s : List ℕ) (x y tag : ℕ) where
  pub early_none : EarlyPost s x y false
  early_none = record { differ = λ e. true_not e }

  module _ (in_range : (101 ≤ tag) × (tag ≤ 252)) where
    long_at : (at : ℕ) → tag ≡ number_at 2 s at → (e : Sort) (t : Tree) → Stands s at e t → 6 ≤ length (enc t)
    long_at at z e t st = let y = z ∙ tag_there s at e t st in six t e st.formed (rw (← y) in_range.0) (rw (← y) in_range.1)

    pub early_room : EarlyPre s x y tag → (x + 6 ≤ length s) × (y + 6 ≤ length s)
    early_room p = (
      omega (arith, long_at x p.of_left p.left.e p.left.t p.left.there, p.left.there.bytes.within),
      omega (arith, long_at y p.of_right p.right.e p.right.t p.right.there, p.right.there.bytes.within),
    )

    -- bytes 2 to 5 of a tree, where it stands
    part_at : (at : ℕ) → tag ≡ number_at 2 s at → (e : Sort) (t : Tree) → Stands s at e t → take 4 (drop (at + 2) s) ≡ take 4 (drop 2 (enc t))
    part_at at z e t st =
        let l = long_at at z e t st in
        let w = st.bytes.within in
        let n : length (take 4 (drop (at + 2) s)) ≡ 4 = omega (arith, length-take 4 (drop (at + 2) s), length-drop (at + 2) s) in
        let m : length (take 4 (drop 2 (enc t))) ≡ 4 = omega (arith, length-take 4 (drop 2 (enc t)), length-drop 2 (enc t)) in
        ext_get_or 0 (take 4 (drop (at + 2) s)) (take 4 (drop 2 (enc t))) (n ∙ sym m) (λ k h. byte k (rw n at h) l)
      where
        byte : (k : ℕ) → k < 4 → 6 ≤ length (enc t) → get_or (take 4 (drop (at + 2) s)) k 0 ≡ get_or (take 4 (drop 2 (enc t))) k 0
        byte k h l =
            let a : at + 2 + k ≡ at + (2 + k) = omega arith in
            get_or-take 4 (drop (at + 2) s) k 0 h
            ∙ get_or-drop (at + 2) s k 0
            ∙ ap (λ (i : ℕ). get_or s i 0) a
            ∙ stand_byte st (2 + k) (omega arith)
            ∙ sym (get_or-take 4 (drop 2 (enc t)) k 0 h ∙ get_or-drop 2 (enc t) k 0)

    pub early_bytes : EarlyPre s x y tag → (r : Bool)
        → r ≡ not (pointwise eqb (take (x + 6 - (x + 2)) (drop (x + 2) s)) (take (y + 6 - (y + 2)) (drop (y + 2) s))) → EarlyPost s x y r
    early_bytes p r q = record { differ = λ z e d t u st su eq. told z (same e d t u st su eq) }
      where
        same : (e d : Sort) (t u : Tree) → Stands s x e t → Stands s y d u → t ≡ u
            → take (x + 6 - (x + 2)) (drop (x + 2) s) ≡ take (y + 6 - (y + 2)) (drop (y + 2) s)
        same e d t u st su eq =
            let n : x + 6 - (x + 2) ≡ 4 = omega arith in
            let m : y + 6 - (y + 2) ≡ 4 = omega arith in
            rw (n, m)
            (part_at x p.of_left e t st ∙ ap (λ (v : Tree). take 4 (drop 2 (enc v))) eq ∙ sym (part_at y p.of_right d u su))

        told : r ≡ true → take (x + 6 - (x + 2)) (drop (x + 2) s) ≡ take (y + 6 - (y + 2)) (drop (y + 2) s) → ⊥
        told z w = other_text _ _ (sym (not-true _ (sym q ∙ z))) w
