-- Places by the tables: what stands at a place, and how hops from place to place meet the children of a node.
-- Main results: framed_few; place_formed, place_sorted, place_stands (what stands at a place); place_end (its last place);
-- child_first, child_next (a node's children in their order); hops_kids, hops_node (as many hops as children lead past a node);
-- next_start, ends_inside, ends_last (where a subtree ends).
use mathlib.Core.Path.{◌≡◌, refl, sym, ap, ◌∙◌}
use mathlib.Core.Bool.{Bool, true, false}
use mathlib.Core.List.{List, [], ◌∷◌, ◌++◌, append_assoc}
use Prim.Native.Nat.{ℕ, zero, suc, ◌+◌, ◌-◌, ◌≤◌, ◌<◌}
use native.Mathlib.Omega.{arith}
use lib.ListN.{length, get_or, length-append}
use lib.Dec.{ltb}
use borrow.Author.Tests.{ltb-true, ltb-false}
use Rattle.frame.specs.Types.{Ty}
use Rattle.frame.specs.Trees.{Head, head, Tree, node, Forest, nil, cons, count, nodes, nodes_in}
use Rattle.frame.specs.Tags.{pick, Sort, predicate, form_of, sorts_of}
use Rattle.frame.specs.Encoding.{enc_head, enc, encs, starts, starts_in}
use Rattle.frame.specs.WellFormed.{number_in, Wf, Wfs}
use Rattle.frame.specs.Places.{Ctx, under, Found, found, find, find_in}
use Rattle.frame.proofs.Extents.{nodes_enc, starts_first, starts_rest}
use Rattle.frame.proofs.AtPlace.{absent_not, down_place}
use Rattle.frame.proofs.Splices.{find_some, find_lt, splice_there, splice_within}
use Rattle.frame.proofs.Within.{find_within, KidsAtPlace, kids_of_lem, kid_first, kid_next}
use Rattle.sameness.specs.Stands.{Stands}
use Rattle.nav.specs.PlaceTables.{arity, Framed, NextsFrom, hops, HopsIn}

-- ---- what stands at a place

-- a frame's tree has few nodes
pub framed_few : (s : List ℕ) (t : Tree) (st : List ℕ) (n : ℕ) → Framed s t st n → nodes t ≤ 2048
framed_few s t st n f = let z : length s ≡ length (enc t) = ap length f.bytes in omega (arith, f.short, nodes_enc t)

-- trees of some sort, children of some sorts
abbrev pub Sorted : Tree → Type 0
Sorted v = (e : Sort) × Wf v e

abbrev SortedIn : Forest → Type 0
SortedIn ks = (es : List Sort) × Wfs ks es

first_formed : (t : Tree) (ks : Forest) (es : List Sort) → Wfs (cons t ks) es → Sorted t
first_formed t ks [] w = absurd w
first_formed t ks (e ∷ es) w = (e, w.0)

rest_formed : (t : Tree) (ks : Forest) (es : List Sort) → Wfs (cons t ks) es → SortedIn ks
rest_formed t ks [] w = absurd w
rest_formed t ks (e ∷ es) w = (es, w.1)

pub place_formed : (t : Tree) (Γ : Ctx) (k : ℕ) (Δ : Ctx) (v : Tree) → find t Γ k ≡ found Δ v → (e : Sort) → Wf t e → Sorted v
place_formed t Γ k Δ v f e w =
    down_place (λ Γ u. Sorted u) (λ Γ ks. SortedIn ks)
    (λ g n us ks Γ r. (sorts_of (form_of g).layout (number_in g n us (count ks)), r.1.1))
    (λ u ks Γ r. first_formed u ks r.0 r.1) (λ u ks Γ r. rest_formed u ks r.0 r.1) t Γ k Δ v f (e, w)

module _ (s : List ℕ) (t : Tree) (st : List ℕ) (n : ℕ) (fr : Framed s t st n) (k : ℕ) (Γ : Ctx) (v : Tree) (f : find t [] k ≡ found Γ v) where
  -- the subtree at a place stands where the table says, of whatever sort it is
  pub place_stands : (e : Sort) → Wf v e → Stands s (get_or st k 0) e v
  place_stands e w =
      let z : get_or st k 0 ≡ get_or (starts t 0) k 0 = fr.begins k (find_lt t [] k Γ v f) in
      rw z (record {
        bytes = record { long = refl; within = splice_within t [] k Γ v f s fr.bytes; bytes = splice_there t [] k Γ v f s fr.bytes };
        formed = w;
      })

  pub place_sorted : Sorted v
  place_sorted = place_formed t [] k Γ v f predicate fr.formed

-- all of a subtree's places are the tree's
pub place_end : (t : Tree) (Γ : Ctx) (k : ℕ) (Δ : Ctx) (v : Tree) → find t Γ k ≡ found Δ v → (k + nodes v ≤ nodes t) × (0 < nodes v)
unfolding nodes
place_end t Γ k Δ (node h ks) f =
    let l : nodes_in ks < nodes (node h ks) = omega arith in
    let x = find_some (node h ks) Δ (nodes_in ks) l in
    let y = find_within (nodes_in ks) Δ x.0 (node h ks) x.1 x.2 t Γ k f in
    (omega (arith, find_lt t Γ (k + nodes_in ks) x.0 x.1 y), omega arith)

-- ---- hops

-- the children of the node at place k: the first is at k + 1, and the table leads from each to the next
pub child_first : (t : Tree) (k : ℕ) (Γ : Ctx) (g n : ℕ) (us : List Ty) (ks : Forest) → find t [] k ≡ found Γ (node (head g n us) ks)
    → KidsAtPlace t [] (k + 1) (under g us Γ) ks
child_first t k Γ g n us ks f = kids_of_lem t [] k Γ g n us ks f

module _ (t : Tree) (l : List ℕ) where
  module _ (i : ℕ) (nx : NextsFrom t i l) where
    pub child_next : (c : ℕ) (Θ : Ctx) (w : Tree) (ks : Forest) → i ≤ c → KidsAtPlace t [] c Θ (cons w ks)
        → (find t [] c ≡ found Θ w) × KidsAtPlace t [] (get_or l c 0) Θ ks
    child_next c Θ w ks h kids =
        let f = kid_first t [] c Θ w ks kids in
        (f, rw (nx.next c Θ w h f) (kid_next t [] c Θ w ks kids))

    module _ (few : nodes t ≤ 2048) where
      pub hops_kids : (ks : Forest) (c : ℕ) (Θ : Ctx) → i ≤ c → KidsAtPlace t [] c Θ ks
          → HopsIn l (count ks) c × (hops l (count ks) c ≡ c + nodes_in ks)
      unfolding hops HopsIn nodes
      hops_kids nil c Θ h kids = (tt, omega arith)
      hops_kids (cons w ks) c Θ h kids =
          let f = kid_first t [] c Θ w ks kids in
          let z : get_or l c 0 ≡ c + nodes w = nx.next c Θ w h f in
          let r = hops_kids ks (c + nodes w) Θ (omega arith) (kid_next t [] c Θ w ks kids) in
          let y : c + nodes w + nodes_in ks ≡ c + (nodes w + nodes_in ks) = omega arith in
          ((omega (arith, find_lt t [] c Θ w f), rw z r.0), ap (hops l (count ks)) z ∙ r.1 ∙ y)

  -- as many hops as the node has children lead past its subtree
  pub hops_node : (k : ℕ) → NextsFrom t (k + 1) l → nodes t ≤ 2048 → (Γ : Ctx) (v : Tree) → find t [] k ≡ found Γ v
      → HopsIn l (arity v) (k + 1) × (hops l (arity v) (k + 1) ≡ k + nodes v)
  unfolding nodes
  hops_node k nx few Γ (node (head g n us) ks) f =
      let r = hops_kids (k + 1) nx few ks (k + 1) (under g us Γ) (omega arith) (child_first t k Γ g n us ks f) in
      (r.0, r.1 ∙ omega arith)

-- ---- where a subtree ends

-- the places behind a list of trees: the first of them starts where the next tree does, or where the last ends
starts_head : (ts : Forest) (q : ℕ) (l : List ℕ) → (r : List ℕ) × (starts_in ts q ++ ((q + length (encs ts)) ∷ l) ≡ q ∷ r)
unfolding starts enc
starts_head nil q l = let z : q + 0 ≡ q = omega arith in (l, ap (λ (i : ℕ). i ∷ l) z)
starts_head (cons (node h ks) ts) q l = (_, refl)

-- Place k has the subtree v. The table, and after it the tree's end, says at the place after v where v ends.
abbrev Next : Tree → ℕ → Tree → Type 0
Next t k v = (p : ℕ) (l : List ℕ) → get_or (starts t p ++ ((p + length (enc t)) ∷ l)) (k + nodes v) 0 ≡ get_or (starts t p) k 0 + length (enc v)

abbrev NextIn : Forest → ℕ → Tree → Type 0
NextIn ks k v = (p : ℕ) (l : List ℕ) → get_or (starts_in ks p ++ ((p + length (encs ks)) ∷ l)) (k + nodes v) 0 ≡ get_or
    (starts_in ks p) k 0 + length (enc v)

next_root : (h : Head) (ks : Forest) (Γ Δ : Ctx) (v : Tree) → found Γ (node h ks) ≡ found Δ v → Next (node h ks) 0 v
unfolding starts
next_root h ks Γ Δ v f p l =
    let t : Tree = node h ks in
    let z : v ≡ t = cc in
    let y : 0 + nodes t ≡ nodes t + 0 = omega arith in
    rw (z, y) (starts_rest t p 0 ((p + length (enc t)) ∷ l))

next_node : (h : Head) (ks : Forest) (k : ℕ) (v : Tree) → NextIn ks k v → Next (node h ks) (suc k) v
unfolding starts enc
next_node h ks k v ih p l =
    let x = enc_head h (count ks) in
    let p' : ℕ = p + length x in
    let z : suc k + nodes v ≡ suc (k + nodes v) = omega arith in
    let y : p + length (x ++ encs ks) ≡ p' + length (encs ks) = omega (arith, length-append x (encs ks)) in
    rw (z, y) (ih p' l)

next_cons : (t : Tree) (ks : Forest) (k : ℕ) (Δ : Ctx) (v : Tree) (x y : Found) (b : Bool) → ltb k (nodes t) ≡ b → pick b x y ≡ found Δ v
    → (x ≡ found Δ v → Next t k v) → (y ≡ found Δ v → NextIn ks (k - nodes t) v) → NextIn (cons t ks) k v
unfolding starts enc
next_cons t ks k Δ v x y true h e f g p l =
    let q : ℕ = p + length (enc t) in
    let z : p + length (enc t ++ encs ks) ≡ q + length (encs ks) = omega (arith, length-append (enc t) (encs ks)) in
    let r = starts_head ks q l in
    rw (z, append_assoc, r.1, starts_first t p k (starts_in ks q) (ltb-true k (nodes t) h)) (f e p r.0)
next_cons t ks k Δ v x y false h e f g p l =
    let q : ℕ = p + length (enc t) in
    let z : p + length (enc t ++ encs ks) ≡ q + length (encs ks) = omega (arith, length-append (enc t) (encs ks)) in
    let a : k + nodes v ≡ nodes t + (k - nodes t + nodes v) = omega (arith, ltb-false k (nodes t) h) in
    let b : k ≡ nodes t + (k - nodes t) = omega (arith, ltb-false k (nodes t) h) in
    let i = starts_rest t p (k - nodes t + nodes v) (starts_in ks q ++ ((q + length (encs ks)) ∷ l)) in
    let j = ap (λ (o : ℕ). get_or (starts t p ++ starts_in ks q) o 0) b ∙ starts_rest t p (k - nodes t) (starts_in ks q) in
    rw (z, append_assoc, a, j) (i ∙ g e q l)

mutual
  unfolding find

  pub next_start : (t : Tree) (Γ : Ctx) (k : ℕ) (Δ : Ctx) (v : Tree) → find t Γ k ≡ found Δ v → (p : ℕ) (l : List ℕ)
      → get_or (starts t p ++ ((p + length (enc t)) ∷ l)) (k + nodes v) 0 ≡ get_or (starts t p) k 0 + length (enc v)
  next_start (node h ks) Γ zero Δ v f = next_root h ks Γ Δ v f
  next_start (node (head g n us) ks) Γ (suc k) Δ v f = next_node (head g n us) ks k v (next_in ks (under g us Γ) k Δ v f)

  pub next_in : (ks : Forest) (Γ : Ctx) (k : ℕ) (Δ : Ctx) (v : Tree) → find_in ks Γ k ≡ found Δ v → (p : ℕ) (l : List ℕ)
      → get_or (starts_in ks p ++ ((p + length (encs ks)) ∷ l)) (k + nodes v) 0 ≡ get_or (starts_in ks p) k 0 + length (enc v)
  next_in nil Γ k Δ v f = absent_not Δ v f
  next_in (cons t ks) Γ k Δ v f =
      next_cons t ks k Δ v (find t Γ k) (find_in ks Γ (k - nodes t)) (ltb k (nodes t)) refl f (λ h. next_start t Γ k Δ v h)
      (λ h. next_in ks Γ (k - nodes t) Δ v h)

module _ (s : List ℕ) (t : Tree) (st : List ℕ) (n : ℕ) (fr : Framed s t st n) (k : ℕ) (Γ : Ctx) (v : Tree) (f : find t [] k ≡ found Γ v) where
  -- the subtree at place k ends where the next place after it starts
  pub ends_inside : k + nodes v < nodes t → get_or st (k + nodes v) 0 ≡ get_or st k 0 + length (enc v)
  ends_inside h =
      fr.begins (k + nodes v) h
      ∙ (sym (starts_first t 0 (k + nodes v) ((0 + length (enc t)) ∷ []) h)
      ∙ (next_start t [] k Γ v f 0 []
      ∙ ap (λ (i : ℕ). i + length (enc v)) (sym (fr.begins k (find_lt t [] k Γ v f)))))

  -- or at the frame's end
  pub ends_last : k + nodes v ≡ nodes t → length s ≡ get_or st k 0 + length (enc v)
  ends_last z =
      let y : k + nodes v ≡ nodes t + 0 = omega arith in
      ap length fr.bytes
      ∙ (sym (starts_rest t 0 0 ((0 + length (enc t)) ∷ []) ∙ omega arith)
      ∙ (sym (ap (λ (i : ℕ). get_or (starts t 0 ++ ((0 + length (enc t)) ∷ [])) i 0) y)
      ∙ (next_start t [] k Γ v f 0 []
      ∙ ap (λ (i : ℕ). i + length (enc v)) (sym (fr.begins k (find_lt t [] k Γ v f))))))
