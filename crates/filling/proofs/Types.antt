-- The ways out of the functions of src/lib.rt that find an operand's type.
use mathlib.Core.Path.{◌≡◌, refl, sym, ap, ◌∙◌, subst}
use mathlib.Core.List.{List, []}
use Prim.Native.Nat.{ℕ, ◌+◌, ◌*◌, ◌≤◌, ◌<◌}
use native.Mathlib.Omega.{arith}
use lib.ListN.{length, take, get_or}
use Rattle.frame.specs.Trees.{Tree, node, nil, cons, nodes}
use Rattle.frame.specs.Tags.{Sort}
use Rattle.frame.specs.Encoding.{enc_ty, enc}
use Rattle.frame.specs.Spans.{Spans}
use Rattle.frame.specs.At.{IsAt}
use Rattle.frame.specs.Places.{Ctx, found, find}
use Rattle.frame.proofs.Extents.{nodes_enc}
use Rattle.frame.proofs.Inversion.{true_not}
use Rattle.frame.proofs.Splices.{find_some}
use Rattle.heads.proofs.View.{stands_at}
use Rattle.typing.specs.Typing.{type_of}
use Rattle.synthesis.specs.TypingPosts.{TypePre, TypePost, Typing}
use Rattle.std.proofs.Common.{Option, Some, None, Result, Ok, Err}
use Rattle.std.specs.Option.{IsSome}
use Rattle.std.specs.Result.{IsOk, MatchResult}
use Rattle.nav.specs.PlaceTables.{arity}
use Rattle.nav.specs.AtPlaces.{ArityAt}
use Rattle.nav.specs.declared.Places.{Places}
use Rattle.nav.proofs.Hops.{framed_few, place_end, place_sorted, place_stands}
use Rattle.filling.specs.Operands.{HeldIn, TypeOfPre, WorkFor, TypeOfPost}
use Rattle.filling.proofs.Subtrees.{held_leaves, held_typed, held_short}

-- what is short enough is taken over
pub fits : {A E : Type 0} (r : Result A E) (P : A → Type 0) (n : ℕ) → MatchResult r P (λ _. 64 < n) → n ≤ 64 → IsOk r
fits (Ok v) P n p l = refl
fits (Err e) P n p l = absurd (omega arith)

module _ (p : Places) (k : ℕ) where
  abbrev start : ℕ
  start = get_or p.starts.now k 0

  module _ (t : Tree) (h : HeldIn p t) (Δ : Ctx) (v : Tree) (f : find t [] k ≡ found Δ v) where
    few : (k + nodes v ≤ 2048) × (64 * nodes v ≤ 32 * length p.bytes.now)
    few =
        let a = (place_end t [] k Δ v f).0 in
        let b = framed_few p.bytes.now t p.starts.now p.count h.framed in
        let l : length p.bytes.now ≡ length (enc t) = ap (λ (xs : List ℕ). length xs) h.framed.bytes in
        (omega arith, omega (arith, nodes_enc t))

    stands : (e : Sort) × ((q : ℕ) × IsAt p.bytes.now e start v q)
    stands =
        let o = place_sorted p.bytes.now t p.starts.now p.count h.framed k Δ v f in
        let w = place_stands p.bytes.now t p.starts.now p.count h.framed k Δ v f o.0 o.1 in
        (o.0, (start + length (enc v), stands_at p.bytes.now o.0 start v (start + length (enc v)) w.bytes w.formed))

    typing : (work : List ℕ) (a : Option ℕ) → WorkFor p k work → TypePost p.bytes.now start k p.leaves.now work a → Typing a v Δ work
    typing work a l q =
        let x = stands in
        q.answer x.0 v x.1.0 Δ x.1.1 (held_leaves p.bytes.now p.starts.now p.leaves.now p.count t h k Δ v f) few.0 (l.room t h Δ v f)

  -- a node has two bytes at least
  pub work_all : (work : List ℕ) → 32 * length p.bytes.now + 64 ≤ length work → WorkFor p k work
  work_all work l = record { room = λ t h Δ v f. omega (arith, (few t h Δ v f).1) }

  pub work_own : (work : List ℕ) → length work ≡ 128 → (r : ℕ) → ArityAt p k r → r ≡ 0 → WorkFor p k work
  unfolding nodes
  work_own work l r post z = record { room = λ t h Δ v f. alone v (post.many t p.count Δ v h.framed f) }
    where
      alone : (v : Tree) → r ≡ arity v → 64 * nodes v + 64 ≤ length work
      alone (node h nil) e = omega arith
      alone (node h (cons u us)) e = absurd (omega arith)

  pub work_kept : (work w : List ℕ) → length w ≡ length work → WorkFor p k work → WorkFor p k w
  work_kept work w e l = record { room = λ t h Δ v f. omega (arith, l.room t h Δ v f) }

  module _ (pre : TypeOfPre p k) where
    pub type_of_few : k < 2048
    type_of_few = omega (arith, pre.below, framed_few p.bytes.now pre.t p.starts.now p.count pre.held.framed)

    pub type_of_pre : (at : ℕ) → at ≡ start → (work : List ℕ) → WorkFor p k work → TypePre p.bytes.now at k p.leaves.now work
    type_of_pre at ea work d =
        let v = find_some pre.t [] k pre.below in
        let x = stands pre.t pre.held v.0 v.1 v.2 in
        let y = few pre.t pre.held v.0 v.1 v.2 in
        rw ea (record {
          sort = x.0;
          tree = v.1;
          to = x.1.0;
          Γ = v.0;
          stands = x.1.1;
          leafs = held_leaves p.bytes.now p.starts.now p.leaves.now p.count pre.t pre.held k v.0 v.1 v.2;
          frame = pre.held.framed.short;
          places = y.0;
          buffer = d.room pre.t pre.held v.0 v.1 v.2;
        })

    module _ (at : ℕ) (ea : at ≡ start) (work : List ℕ) (l : WorkFor p k work) (a : Option ℕ) (post : TypePost p.bytes.now at k p.leaves.now work a) where
      typed_as : (b : Option ℕ) → a ≡ b → (t : Tree) → HeldIn p t → (Δ : Ctx) (v : Tree) → find t [] k ≡ found Δ v → Typing b v Δ work
      typed_as b e t h Δ v f =
          typing t h Δ v f work b l
          (subst (λ (i : ℕ). TypePost p.bytes.now i k p.leaves.now work b) ea (subst (λ (i : Option ℕ). TypePost p.bytes.now at k p.leaves.now work i) e post))

      type_is : (m : ℕ) → a ≡ Some m → (t : Tree) → HeldIn p t → (Δ : Ctx) (v : Tree) → find t [] k ≡ found Δ v
          → Spans work 0 m (enc_ty (type_of v Δ)) × (m ≤ 64)
      type_is m e t h Δ v f =
          let y : Typing (Some m) v Δ work = typed_as (Some m) e t h Δ v f in
          (y.1, omega (arith, y.1.long, held_short p.bytes.now p.starts.now p.leaves.now p.count t h k Δ v f))

      pub type_room : (m : ℕ) → a ≡ Some m → (m ≤ length work) × (m ≤ 64)
      type_room m e =
          let v = find_some pre.t [] k pre.below in
          let x = type_is m e pre.t pre.held v.0 v.1 v.2 in
          (x.0.within, x.1)

      pub type_found : (m : ℕ) → a ≡ Some m → (r : List ℕ) → r ≡ take m work → TypeOfPost p k r
      type_found m e r z = record {
        is = λ t Δ v h f. (let x = (type_is m e t h Δ v f).0 in
            let y : m ≡ length (enc_ty (type_of v Δ)) = omega (arith, x.long) in
            z ∙ ap (λ (i : ℕ). take i work) y ∙ x.bytes);
      }

      -- an expression of an accepted tree has a type
      pub type_some : IsSome a
      type_some = go a refl
        where
          go : (b : Option ℕ) → a ≡ b → IsSome b
          go None e =
              let v = find_some pre.t [] k pre.below in
              let y : Typing None v.1 v.0 work = typed_as None e pre.t pre.held v.0 v.1 v.2 in
              true_not (sym y ∙ held_typed p.bytes.now p.starts.now p.leaves.now p.count pre.t pre.held k v.0 v.1 v.2)
          go (Some m) e = refl
