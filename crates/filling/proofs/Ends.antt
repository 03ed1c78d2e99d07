-- The bytes of a subtree and of a node's binders, as slices: the ways out of `subtree_at` and `behind_tag`.
use mathlib.Core.Path.{◌≡◌}
use mathlib.Core.List.{[]}
use Prim.Native.Nat.{ℕ, ◌+◌, ◌-◌, ◌≤◌, ◌<◌}
use native.Mathlib.Omega.{arith}
use lib.ListN.{length, take, drop, get_or}
use Rattle.frame.specs.Trees.{Tree, node}
use Rattle.frame.specs.Encoding.{enc}
use Rattle.frame.specs.Places.{Ctx, found, find}
use Rattle.frame.proofs.Splices.{find_some}
use Rattle.put.proofs.Puts.{between_span}
use Rattle.nav.specs.AtPlaces.{InTables, EndAt}
use Rattle.nav.specs.declared.Places.{Places}
use Rattle.nav.proofs.Hops.{framed_few}
use Rattle.filling.specs.Operands.{SubtreePost, BindersPost}
use Rattle.filling.proofs.Subtrees.{span_at, head_room, binders_at}

module _ (p : Places) (k : ℕ) where
  abbrev start : ℕ
  start = get_or p.starts.now k 0

  module _ (w : InTables p k) where
    pub place_few : (k < 2048) × (p.count ≤ 2048)
    place_few = let l = framed_few p.bytes.now w.t p.starts.now p.count w.table.framed in (omega (arith, w.below), omega (arith, w.table.framed.size))

    pub subtree_room : (a r : ℕ) → a ≡ start → EndAt p k r → (a ≤ r) × (r ≤ length p.bytes.now)
    subtree_room a r e post =
        let v = find_some w.t [] k w.below in
        let z = post.ends w.t v.0 v.1 w.table v.2 in
        let y = span_at p.bytes.now w.t p.starts.now p.count w.table.framed k v.0 v.1 v.2 r z in
        (omega arith, y.within)

    -- a node's head has a tag, and ends in the frame
    pub behind_room : (q : ℕ) → (k + 1 < p.count → q ≡ get_or p.starts.now (k + 1) 0) → (p.count ≤ k + 1 → q ≡ length p.bytes.now)
        → (start + 2 ≤ q) × (q ≤ length p.bytes.now)
    behind_room q a b = let v = find_some w.t [] k w.below in go v.0 v.1 v.2
      where
        go : (Γ : Ctx) (v : Tree) → find w.t [] k ≡ found Γ v → (start + 2 ≤ q) × (q ≤ length p.bytes.now)
        go Γ (node h ks) f = head_room p.bytes.now w.t p.starts.now p.count w.table.framed k Γ h q a b ks f

  pub subtree_done : (a r : ℕ) → a ≡ start → EndAt p k r → SubtreePost p k (take (r - a) (drop a p.bytes.now))
  subtree_done a r e post = record {
    is = λ t Γ v tb f. rw e (between_span p.bytes.now start r (enc v)
        (span_at p.bytes.now t p.starts.now p.count tb.framed k Γ v f r (post.ends t Γ v tb f)));
  }

  pub behind_done : (a q : ℕ) → a ≡ start + 2 → (k + 1 < p.count → q ≡ get_or p.starts.now (k + 1) 0) → (p.count ≤ k + 1 → q ≡ length p.bytes.now)
      → BindersPost p k (take (q - a) (drop a p.bytes.now))
  behind_done a q e x y = record {
    is = λ t Γ g i us ks tb f h. rw e (between_span p.bytes.now (start + 2) q _
        (binders_at p.bytes.now t p.starts.now p.count tb.framed k Γ g i us ks q x y f h));
  }
