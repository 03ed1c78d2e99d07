-- Keys: the ways out of `key_at`, and that trees with different keys are neither the same nor opposite.
-- Main results: key_placed, key_inside, key_done (the sum); unlike_by_keys.
use mathlib.Core.Path.{◌≡◌, refl, sym, ap, ◌∙◌}
use mathlib.Core.Bool.{Bool, true, false}
use mathlib.Core.List.{List, [], ◌++◌, append-nil}
use Prim.Native.Nat.{ℕ, ◌+◌, ◌-◌, ◌%◌, ◌≤◌}
use native.Mathlib.Omega.{arith}
use lib.Dec.{eqb}
use lib.ListN.{length, take, drop, get_or}
use Rattle.std.proofs.Common.{sum}
use Rattle.std.proofs.lemmas.List.Sums.{sum_by_from}
use borrow.Author.Tests.{eqb-true, eqb-false}
use Rattle.frame.specs.Trees.{Tree, node, tag_of, one}
use Rattle.frame.specs.Encoding.{enc_number, enc_tys, enc_head, enc, encs}
use Rattle.frame.specs.Tags.{lookup, class_of, form_at}
use Rattle.frame.specs.Sameness.{same_tree}
use Rattle.frame.specs.Places.{Ctx, found, find}
use Rattle.frame.proofs.SameTrees.{same_tree_lem}
use Rattle.frame.proofs.Splices.{find_some}
use Rattle.nav.specs.PlaceTables.{Table, InTree, PlacedIn, EndAtPost}
use Rattle.nav.proofs.Hops.{Sorted, place_stands, place_sorted}
use Rattle.rules.specs.Simplify.{make_neg}
use Rattle.decision.proofs.Opposites.{not_shape, neg_one, neg_other}
use Rattle.junction.specs.Keys.{key_of, KeyPost}

-- ---- a tree and its opposite
sum_one : (v : Tree) → sum (enc (one 701 v)) ≡ 191 + sum (enc v)
unfolding enc encs enc_head enc_number enc_tys lookup class_of form_at
sum_one v = sum_by_from (λ x. x) 191 (enc v ++ []) ∙ ap (λ (l : List ℕ). 191 + sum l) (append-nil (enc v))

key_one : (v : Tree) → key_of (one 701 v) ≡ key_of v
key_one v = let z = sum_one v in omega (arith, z)

key_opposite : (w : Tree) → Sorted w → key_of (make_neg w) ≡ key_of w
key_opposite w o = go (eqb (tag_of w) 701) refl
  where
    go : (b : Bool) → eqb (tag_of w) 701 ≡ b → key_of (make_neg w) ≡ key_of w
    go true h =
        let i = not_shape w o (eqb-true (tag_of w) 701 h) in
        ap (λ (x : Tree). key_of (make_neg x)) i.1 ∙ ap key_of (neg_one i.0) ∙ sym (key_one i.0) ∙ sym (ap key_of i.1)
    go false h = ap key_of (neg_other w (eqb-false (tag_of w) 701 h)) ∙ key_one w

unlike : (v w : Tree) → (key_of v ≡ key_of w → ⊥) → same_tree v w ≡ false
unlike v w d = go (same_tree v w) refl
  where
    go : (b : Bool) → same_tree v w ≡ b → same_tree v w ≡ false
    go true h = absurd (d (ap key_of (same_tree_lem v w h)))
    go false h = h

pub record Unlike (v w : Tree) : Type 0 where
  pub same : same_tree v w ≡ false
  pub opposite : same_tree v (make_neg w) ≡ false

pub unlike_by_keys : (v w : Tree) → Sorted w → (key_of v ≡ key_of w → ⊥) → Unlike v w
unlike_by_keys v w o d = record { same = unlike v w d; opposite = unlike v (make_neg w) (λ z. d (z ∙ key_opposite w o)) }

-- ---- the sum over a tree's bytes
pub all_nodes : {s st nx : List ℕ} (t : Tree) (n : ℕ) → Table s t st nx n → get_or nx 0 0 ≡ n
unfolding find
all_nodes (node h ks) n tb = tb.follows.next 0 [] (node h ks) (omega arith) refl ∙ omega (arith, tb.framed.size)

module _ {s st nx : List ℕ} {k : ℕ} where
  pub key_placed : InTree s st nx k → {n : ℕ} → n ≡ get_or nx 0 0 → PlacedIn s n st nx k
  key_placed p {n} e =
      let z : n ≡ p.n = e ∙ all_nodes p.t p.n p.table in
      record { t = p.t; table = rw z p.table; below = p.below }

  module _ {n : ℕ} (e : n ≡ get_or nx 0 0) {end : ℕ} (post : EndAtPost s n st nx k end) where
    pub key_inside : InTree s st nx k → (get_or st k 0 ≤ end) × (end ≤ length s)
    key_inside p =
        let q = key_placed p e in
        let x = find_some q.t [] k q.below in
        let fr = q.table.framed in
        let o = place_sorted s q.t st n fr k x.0 x.1 x.2 in
        let z = (place_stands s q.t st n fr k x.0 x.1 x.2 o.0 o.1).bytes.within in
        (omega (arith, post.ends q.t x.0 x.1 q.table x.2), omega (arith, post.ends q.t x.0 x.1 q.table x.2, z))

    pub key_done : (r : ℕ) → r ≡ sum (take (end - get_or st k 0) (drop (get_or st k 0) s)) % 191 → KeyPost s st nx k r
    key_done r er = record { key = key }
      where
        key : (t : Tree) (m : ℕ) (Γ : Ctx) (v : Tree) → Table s t st nx m → find t [] k ≡ found Γ v → r ≡ key_of v
        key t m Γ v tb f =
            let ne : n ≡ m = e ∙ all_nodes t m tb in
            let fr = tb.framed in
            let o = place_sorted s t st m fr k Γ v f in
            let b = (place_stands s t st m fr k Γ v f o.0 o.1).bytes.bytes in
            let z : end - get_or st k 0 ≡ length (enc v) = omega (arith, post.ends t Γ v (rw ne tb) f) in
            er ∙ ap (λ (x : ℕ). sum (take x (drop (get_or st k 0) s)) % 191) z ∙ ap (λ (l : List ℕ). sum l % 191) b
