-- What the tables say of a subtree: its bytes, its binders' bytes, the types of its bound identifiers, and its own type.
-- Main results: leaves_found, held_typed (an accepted tree's subtree is typed, by a type of at most 64 bytes), span_at, binders_at.
use mathlib.Core.Path.{◌≡◌, refl, sym, ap, ◌∙◌, subst}
use mathlib.Core.Bool.{Bool, true, false}
use mathlib.Core.List.{List, [], ◌∷◌, ◌++◌, append-nil}
use Prim.Native.Nat.{ℕ, zero, suc, ◌+◌, ◌-◌, ◌/◌, ◌≤◌, ◌<◌}
use native.Mathlib.Omega.{arith}
use lib.ListN.{length, get_or, length-append}
use lib.Dec.{ltb}
use borrow.Author.Tests.{ltb-true, ltb-false}
use Rattle.frame.specs.Types.{Ty}
use Rattle.frame.specs.Trees.{Head, head, Tree, node, Forest, nil, cons, count, nodes}
use Rattle.frame.specs.Tags.{pick, predicate, Layout, these, payload, counted, binding, form_of, width, number_of}
use Rattle.frame.specs.Encoding.{enc_number, enc_ty, enc_tys, enc_head, enc, encs, starts, starts_in}
use Rattle.frame.specs.Spans.{Spans}
use Rattle.frame.specs.Places.{Ctx, under, found, find, find_in}
use Rattle.frame.proofs.AtPlace.{absent_not}
use Rattle.frame.proofs.Extents.{starts_first, starts_rest}
use Rattle.frame.proofs.Inversion.{true_not}
use Rattle.frame.proofs.Numbers.{number_length}
use Rattle.frame.proofs.Spans.{span_left, span_right}
use Rattle.frame.proofs.Splices.{find_lt}
use Rattle.typing.specs.Typing.{type_of, typed_tree}
use Rattle.heads.specs.Leaves.{LeavesAt, LeavesIn}
use Rattle.typing.proofs.Decides.{accepted_typed}
use Rattle.typing.proofs.Derived.{short_of}
use Rattle.typing.specs.Signature.{signature}
use Rattle.step.proofs.Places.{accepted_at}
use Rattle.nav.specs.PlaceTables.{Framed}
use Rattle.nav.proofs.Hops.{place_stands, place_sorted, place_end, ends_inside, ends_last}
use Rattle.decision.specs.Decision.{has_binders}
use Rattle.filling.specs.Operands.{Held}

-- ---- bound identifiers of a subtree
leaves_root : (Γ Δ : Ctx) (t v : Tree) (p : ℕ) (s l : List ℕ) → found Γ t ≡ found Δ v → LeavesAt t Γ p s l → LeavesAt v Δ (p + 0) s l
leaves_root Γ Δ t v p s l e h =
    let a : Γ ≡ Δ = cc in
    let b : t ≡ v = cc in
    let z : p + 0 ≡ p = omega arith in
    rw (z, ← a, ← b) h

mutual
  unfolding find LeavesAt

  pub leaves_found : (t : Tree) (Γ : Ctx) (k : ℕ) (Δ : Ctx) (v : Tree) (p : ℕ) (s l : List ℕ) → find t Γ k ≡ found Δ v → LeavesAt t Γ p s l
      → LeavesAt v Δ (p + k) s l
  leaves_found (node (head g n us) ks) Γ zero Δ v p s l e h = leaves_root Γ Δ (node (head g n us) ks) v p s l e h
  leaves_found (node (head g n us) ks) Γ (suc k) Δ v p s l e h =
      let z : suc p + k ≡ p + suc k = omega arith in
      subst (λ (i : ℕ). LeavesAt v Δ i s l) z (leaves_in ks (under g us Γ) k Δ v (suc p) s l e h.1)

  leaves_in : (ks : Forest) (Γ : Ctx) (k : ℕ) (Δ : Ctx) (v : Tree) (p : ℕ) (s l : List ℕ) → find_in ks Γ k ≡ found Δ v → LeavesIn ks Γ p s l
      → LeavesAt v Δ (p + k) s l
  leaves_in nil Γ k Δ v p s l e h = absent_not Δ v e
  leaves_in (cons t ks) Γ k Δ v p s l e h =
      go (ltb k (nodes t)) refl e (λ x. leaves_found t Γ k Δ v p s l x h.0) (λ x. leaves_in ks Γ (k - nodes t) Δ v (p + nodes t) s l x h.1)
    where
      go : (b : Bool) → ltb k (nodes t) ≡ b → pick b (find t Γ k) (find_in ks Γ (k - nodes t)) ≡ found Δ v
          → (find t Γ k ≡ found Δ v → LeavesAt v Δ (p + k) s l)
          → (find_in ks Γ (k - nodes t) ≡ found Δ v → LeavesAt v Δ (p + nodes t + (k - nodes t)) s l)
          → LeavesAt v Δ (p + k) s l
      go true q f x y = x f
      go false q f x y =
          let z : p + nodes t + (k - nodes t) ≡ p + k = omega (arith, ltb-false k (nodes t) q) in
          subst (λ (i : ℕ). LeavesAt v Δ i s l) z (y f)

-- ---- a subtree of an accepted tree
module _ (s st leaves : List ℕ) (n : ℕ) (t : Tree) (h : Held s st leaves n t) (k : ℕ) (Δ : Ctx) (v : Tree) (f : find t [] k ≡ found Δ v) where
  pub held_leaves : LeavesAt v Δ k s leaves
  held_leaves = let z : 0 + k ≡ k = omega arith in subst (λ (i : ℕ). LeavesAt v Δ i s leaves) z (leaves_found t [] k Δ v 0 s leaves f h.leafs)

  pub held_typed : typed_tree v Δ ≡ true
  held_typed = let a = accepted_at (signature t) t [] k Δ v f (tt, (predicate, h.accepted)) in accepted_typed (signature t) v Δ a.1.0 a.1.1

  pub held_short : length (enc_ty (type_of v Δ)) ≤ 64
  held_short = let a = accepted_at (signature t) t [] k Δ v f (tt, (predicate, h.accepted)) in short_of (signature t) v Δ a.1.0 a.1.1

-- ---- where the first child of a node starts
-- the table of a tree that starts at p has, behind the node at place k, the start of its first child
abbrev Below : Tree → ℕ → ℕ → Type 0
Below t k m = (p : ℕ) → get_or (starts t p) (suc k) 0 ≡ get_or (starts t p) k 0 + m

abbrev BelowIn : Forest → ℕ → ℕ → Type 0
BelowIn ks k m = (p : ℕ) → get_or (starts_in ks p) (suc k) 0 ≡ get_or (starts_in ks p) k 0 + m

below_root : (h : Head) (ls : Forest) (Γ Δ : Ctx) (i : Head) (a : Tree) (ks : Forest) → found Γ (node h ls) ≡ found Δ (node i (cons a ks))
    → Below (node h ls) 0 (length (enc_head i (count (cons a ks))))
unfolding starts
below_root h ls Γ Δ i (node j ms) ks e p =
    let y : h ≡ i = cc in
    let z : ls ≡ cons (node j ms) ks = cc in
    rw (y, z) refl

-- a node with a child has two places
pub two_places : (t : Tree) (Γ : Ctx) (k : ℕ) (Δ : Ctx) (i : Head) (a : Tree) (ks : Forest)
    → find t Γ k ≡ found Δ (node i (cons a ks)) → suc k < nodes t
unfolding nodes
two_places t Γ k Δ i (node j ms) ks f = omega (arith, (place_end t Γ k Δ (node i (cons (node j ms) ks)) f).0)

mutual
  unfolding find starts

  first_start : (t : Tree) (Γ : Ctx) (k : ℕ) (Δ : Ctx) (i : Head) (a : Tree) (ks : Forest) → find t Γ k ≡ found Δ (node i (cons a ks))
      → Below t k (length (enc_head i (count (cons a ks))))
  first_start (node h ls) Γ zero Δ i a ks f p = below_root h ls Γ Δ i a ks f p
  first_start (node (head g n us) ls) Γ (suc k) Δ i a ks f p = first_start_in ls (under g us Γ) k Δ i a ks f
      (p + length (enc_head (head g n us) (count ls)))

  first_start_in : (ls : Forest) (Γ : Ctx) (k : ℕ) (Δ : Ctx) (i : Head) (a : Tree) (ks : Forest)
      → find_in ls Γ k ≡ found Δ (node i (cons a ks)) → BelowIn ls k (length (enc_head i (count (cons a ks))))
  first_start_in nil Γ k Δ i a ks f p = absent_not Δ (node i (cons a ks)) f
  first_start_in (cons t ls) Γ k Δ i a ks f p =
      go (ltb k (nodes t)) refl f (λ x p. first_start t Γ k Δ i a ks x p) (λ x p. first_start_in ls Γ (k - nodes t) Δ i a ks x p) p
    where
      go : (b : Bool) → ltb k (nodes t) ≡ b → pick b (find t Γ k) (find_in ls Γ (k - nodes t)) ≡ found Δ (node i (cons a ks))
          → (find t Γ k ≡ found Δ (node i (cons a ks)) → Below t k (length (enc_head i (count (cons a ks)))))
          → (find_in ls Γ (k - nodes t) ≡ found Δ (node i (cons a ks)) → BelowIn ls (k - nodes t) (length (enc_head i (count (cons a ks)))))
          → BelowIn (cons t ls) k (length (enc_head i (count (cons a ks))))
      go true q e x y p =
          let l = starts_in ls (p + length (enc t)) in
          let z = two_places t Γ k Δ i a ks e in
          starts_first t p (suc k) l z ∙ x e p ∙ ap (λ (m : ℕ). m + length (enc_head i (count (cons a ks)))) (sym (starts_first t p k l (omega arith)))
      go false q e x y p =
          let r : ℕ = p + length (enc t) in
          let l = starts_in ls r in
          let u : suc k ≡ nodes t + suc (k - nodes t) = omega (arith, ltb-false k (nodes t) q) in
          let v : k ≡ nodes t + (k - nodes t) = omega (arith, ltb-false k (nodes t) q) in
          ap (λ (m : ℕ). get_or (starts t p ++ l) m 0) u ∙ starts_rest t p (suc (k - nodes t)) l ∙ y e r
          ∙ ap (λ (m : ℕ). m + length (enc_head i (count (cons a ks))))
          (sym (ap (λ (m : ℕ). get_or (starts t p ++ l) m 0) v ∙ starts_rest t p (k - nodes t) l))

-- ---- bytes
module _ (s : List ℕ) (t : Tree) (st : List ℕ) (n : ℕ) (fr : Framed s t st n) where
  pub span_at : (k : ℕ) (Γ : Ctx) (v : Tree) → find t [] k ≡ found Γ v → (q : ℕ) → q ≡ get_or st k 0 + length (enc v) → Spans s (get_or st k 0) q (enc v)
  span_at k Γ v f q e =
      let o = place_sorted s t st n fr k Γ v f in
      subst (λ (j : ℕ). Spans s (get_or st k 0) j (enc v)) (sym e) (place_stands s t st n fr k Γ v f o.0 o.1).bytes

  -- the head of a node ends where the next place starts, or at the frame's end
  head_long : (h : Head) (m q : ℕ) → q ≡ length (enc_head h m) → 2 ≤ q
  unfolding enc_head
  head_long (head g x us) m q e =
      omega (arith, number_length 2 g, length-append (enc_number 2 g) (enc_number (width (form_of g).layout) (number_of (form_of g).layout x (length us) m) ++ enc_tys us))

  module _ (k : ℕ) (Γ : Ctx) (h : Head) (q : ℕ) (inside : k + 1 < n → q ≡ get_or st (k + 1) 0) (last : n ≤ k + 1 → q ≡ length s) where
    head_alone : find t [] k ≡ found Γ (node h nil) → Spans s (get_or st k 0) q (enc_head h 0)
    unfolding enc nodes
    head_alone f =
        let v : Tree = node h nil in
        let w = span_left (enc_head h 0) [] (span_at k Γ v f (get_or st k 0 + length (enc v)) refl) in
        let l : length (enc v) ≡ length (enc_head h 0) = ap length (append-nil (enc_head h 0)) in
        let e = (place_end t [] k Γ v f).0 in
        let z : get_or st k 0 + length (enc_head h 0) ≡ q = go (ltb (k + 1) n) refl l e in
        subst (λ (j : ℕ). Spans s (get_or st k 0) j (enc_head h 0)) z w
      where
        go : (b : Bool) → ltb (k + 1) n ≡ b → length (enc (node h nil)) ≡ length (enc_head h 0) → k + 1 ≤ nodes t
            → get_or st k 0 + length (enc_head h 0) ≡ q
        go true y l e = let i = ltb-true (k + 1) n y in
            omega (arith, inside i, fr.size, ends_inside s t st n fr k Γ (node h nil) f (omega (arith, fr.size)), l)
        go false y l e = let i = ltb-false (k + 1) n y in
            omega (arith, last i, fr.size, ends_last s t st n fr k Γ (node h nil) f (omega (arith, fr.size)), l)

    head_over : (a : Tree) (ks : Forest) → find t [] k ≡ found Γ (node h (cons a ks)) → Spans s (get_or st k 0) q (enc_head h (count (cons a ks)))
    unfolding enc
    head_over a ks f =
        let v : Tree = node h (cons a ks) in
        let w = span_at k Γ v f (get_or st k 0 + length (enc v)) refl in
        let z : k + 1 ≡ suc k = omega arith in
        let b = fr.begins k (find_lt t [] k Γ v f) in
        let y = two_places t [] k Γ h a ks f in
        let c = fr.begins (suc k) y in
        let e : get_or st k 0 + length (enc_head h (count (cons a ks))) ≡ q =
        ap (λ (m : ℕ). m + length (enc_head h (count (cons a ks)))) b ∙ sym (first_start t [] k Γ h a ks f 0) ∙ sym c
        ∙ ap (λ (m : ℕ). get_or st m 0) (sym z) ∙ sym (inside (omega (arith, fr.size))) in
        subst (λ (j : ℕ). Spans s (get_or st k 0) j (enc_head h (count (cons a ks)))) e (span_left (enc_head h (count (cons a ks))) (encs (cons a ks)) w)

    head_at : (ks : Forest) → find t [] k ≡ found Γ (node h ks) → Spans s (get_or st k 0) q (enc_head h (count ks))
    head_at nil f = head_alone f
    head_at (cons a ks) f = head_over a ks f

    -- it has a tag of two bytes
    pub head_room : (ks : Forest) → find t [] k ≡ found Γ (node h ks) → (get_or st k 0 + 2 ≤ q) × (q ≤ length s)
    head_room ks f = let w = head_at ks f in (omega (arith, w.long, head_long h (count ks) _ refl), w.within)

  -- the binders of a node stand behind its tag
  bytes_by : Layout → ℕ → ℕ → List Ty → List ℕ
  bytes_by l x m us = enc_number (width l) (number_of l x (length us) m) ++ enc_tys us

  bytes_is : (l : Layout) (x m : ℕ) (us : List Ty) → has_binders l ≡ true → bytes_by l x m us ≡ length us ∷ enc_tys us
  unfolding bytes_by enc_number
  bytes_is (these es) x m us h = true_not h
  bytes_is (payload w) x m us h = true_not h
  bytes_is (counted lo hi e) x m us h = true_not h
  bytes_is (binding lo hi []) x m us h = true_not h
  bytes_is (binding lo hi (e ∷ es)) x m us h = let z : length us / 1 ≡ length us = omega arith in ap (λ (i : ℕ). i ∷ enc_tys us) z

  pub binders_at : (k : ℕ) (Γ : Ctx) (g x : ℕ) (us : List Ty) (ks : Forest) (q : ℕ) → (k + 1 < n → q ≡ get_or st (k + 1) 0)
      → (n ≤ k + 1 → q ≡ length s) → find t [] k ≡ found Γ (node (head g x us) ks) → has_binders (form_of g).layout ≡ true
      → Spans s (get_or st k 0 + 2) q (length us ∷ enc_tys us)
  unfolding bytes_by enc_head
  binders_at k Γ g x us ks q inside last f h =
      let w = span_right (enc_number 2 g) (bytes_by (form_of g).layout x (count ks) us) (head_at k Γ (head g x us) q inside last ks f) in
      let z : get_or st k 0 + length (enc_number 2 g) ≡ get_or st k 0 + 2 = omega (arith, number_length 2 g) in
      subst (λ (j : ℕ). Spans s j q (length us ∷ enc_tys us)) z
      (subst (λ (l : List ℕ). Spans s (get_or st k 0 + length (enc_number 2 g)) q l) (bytes_is (form_of g).layout x (count ks) us h) w)
