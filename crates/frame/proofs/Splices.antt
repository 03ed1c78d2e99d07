-- Places and bytes: the table of starts, what stands at a place, and what replacing it does to the bytes.
-- Main results: find_some, find_none, find_lt; find_moved (the subtree does not depend on the
-- context); count_replace, replace_same; splice (a tree's bytes around a place, the same before and after whatever is put
-- there), and by positions splice_there, splice_within, splice_bytes.
use mathlib.Core.Path.{◌≡◌, refl, sym, ap, ap₂, ◌∙◌}
use mathlib.Core.Bool.{Bool, true, false}
use mathlib.Core.List.{List, [], ◌++◌, append_assoc, append-nil}
use Prim.Native.Nat.{ℕ, zero, suc, ◌+◌, ◌-◌, ◌≤◌, ◌<◌}
use native.Mathlib.Omega.{arith}
use lib.ListN.{length, get_or, take, drop, length-append}
use lib.Seq.{take_at, drop_at, drop-drop}
use lib.Dec.{ltb}
use borrow.Author.Tests.{ltb-true, ltb-false}
use Rattle.frame.specs.Trees.{Head, head, Tree, node, Forest, nil, cons, count, nodes, nodes_in}
use Rattle.frame.specs.Tags.{pick}
use Rattle.frame.specs.Encoding.{enc_head, enc, encs, starts, starts_in}
use Rattle.frame.specs.Places.{Ctx, under, Found, found, absent, find, find_in, replace, replace_in}
use Rattle.frame.proofs.AtPlace.{absent_not, found_either, at_place}
use Rattle.frame.proofs.Extents.{starts_first, starts_rest}

-- ---- what stands at a place

-- k is in the first tree, or in the others
pub either_side {ℓ} : {X : Type ℓ} (R : X → Type 0) (k n : ℕ) (c d : X) → (k < n → R c) → (n ≤ k → R d) → R (pick (ltb k n) c d)
either_side R k n c d p q = go (ltb k n) refl
  where
    go : (b : Bool) → ltb k n ≡ b → R (pick b c d)
    go true e = p (ltb-true k n e)
    go false e = q (ltb-false k n e)

-- something stands there
abbrev pub Stands : Found → Type 0
Stands x = (Δ : Ctx) × (v : Tree) × (x ≡ found Δ v)

mutual
  unfolding find nodes

  pub find_some : (t : Tree) (Γ : Ctx) (k : ℕ) → k < nodes t → Stands (find t Γ k)
  find_some (node h ks) Γ zero l = (Γ, node h ks, refl)
  find_some (node (head g n ts) ks) Γ (suc k) l = find_in_some ks (under g ts Γ) k (omega arith)

  pub find_in_some : (ks : Forest) (Γ : Ctx) (k : ℕ) → k < nodes_in ks → Stands (find_in ks Γ k)
  find_in_some nil Γ k l = absurd (omega arith)
  find_in_some (cons t ks) Γ k l =
      either_side Stands k (nodes t) (find t Γ k) (find_in ks Γ (k - nodes t)) (λ h. find_some t Γ k h)
      (λ h. find_in_some ks Γ (k - nodes t) (omega arith))

mutual
  unfolding find nodes

  pub find_none : (t : Tree) (Γ : Ctx) (k : ℕ) → nodes t ≤ k → find t Γ k ≡ absent
  find_none (node h ks) Γ zero l = absurd (omega arith)
  find_none (node (head g n ts) ks) Γ (suc k) l = find_in_none ks (under g ts Γ) k (omega arith)

  pub find_in_none : (ks : Forest) (Γ : Ctx) (k : ℕ) → nodes_in ks ≤ k → find_in ks Γ k ≡ absent
  find_in_none nil Γ k l = refl
  find_in_none (cons t ks) Γ k l =
      either_side (λ (x : Found). x ≡ absent) k (nodes t) (find t Γ k) (find_in ks Γ (k - nodes t)) (λ h. absurd (omega arith))
      (λ h. find_in_none ks Γ (k - nodes t) (omega arith))

pub find_lt : (t : Tree) (Γ : Ctx) (k : ℕ) (Δ : Ctx) (v : Tree) → find t Γ k ≡ found Δ v → k < nodes t
find_lt t Γ k Δ v e = either_side (λ (x : Unit {0}). k < nodes t) k (nodes t) tt tt (λ h. h) (λ h. absent_not Δ v (sym (find_none t Γ k h) ∙ e))

-- v is found, in some context: the subtree does not depend on the context
abbrev pub Finds : Tree → Found → Type 0
Finds v x = (Δ : Ctx) × (x ≡ found Δ v)

mutual
  unfolding find

  pub find_moved : (t : Tree) (Γ : Ctx) (k : ℕ) (Δ : Ctx) (v : Tree) → find t Γ k ≡ found Δ v → (Θ : Ctx) → Finds v (find t Θ k)
  find_moved (node h ks) Γ zero Δ v e Θ = (Θ, cc)
  find_moved (node (head g n ts) ks) Γ (suc k) Δ v e Θ = find_in_moved ks (under g ts Γ) k Δ v e (under g ts Θ)

  pub find_in_moved : (ks : Forest) (Γ : Ctx) (k : ℕ) (Δ : Ctx) (v : Tree) → find_in ks Γ k ≡ found Δ v → (Θ : Ctx) → Finds v (find_in ks Θ k)
  find_in_moved nil Γ k Δ v e Θ = absent_not Δ v e
  find_in_moved (cons t ks) Γ k Δ v e Θ =
      found_either (Finds v) (ltb k (nodes t)) (find t Γ k) (find_in ks Γ (k - nodes t)) (find t Θ k) (find_in ks Θ (k - nodes t)) Δ v e
      (λ h. find_moved t Γ k Δ v h Θ) (λ h. find_in_moved ks Γ (k - nodes t) Δ v h Θ)

-- ---- what a replacement keeps
pub count_replace : (ks : Forest) (k : ℕ) (u : Tree) → count (replace_in ks k u) ≡ count ks
unfolding replace
count_replace nil k u = refl
count_replace (cons t ks) k u =
    either_side (λ (ls : Forest). count ls ≡ suc (count ks)) k (nodes t) (cons (replace t k u) ks) (cons t (replace_in ks (k - nodes t) u))
    (λ h. refl) (λ h. ap suc (count_replace ks (k - nodes t) u))

pub replace_same : (t : Tree) (Γ : Ctx) (k : ℕ) (Δ : Ctx) (v : Tree) → find t Γ k ≡ found Δ v → replace t k v ≡ t
replace_same t Γ k Δ v e =
    at_place (λ Γ (a b : Tree). b ≡ a) (λ Γ (a b : Forest). b ≡ a) (λ g n ts ks ls Γ h. ap (node (head g n ts)) h)
    (λ t u ks Γ h. ap (λ (x : Tree). cons x ks) h)
    (λ t ks ls Γ h. ap (cons t) h) t Γ k Δ v v e refl

-- ---- the bytes around a place

-- `whole`, which starts at p, has the bytes of v at a; `changed u` has those of u there and is the same before and after.
pub record Splits (v : Tree) (p a : ℕ) (whole : List ℕ) (changed : Tree → List ℕ) : Type 0 where
  pub before : List ℕ
  pub after : List ℕ
  pub from : p + length before ≡ a
  pub old : whole ≡ before ++ (enc v ++ after)
  pub new : (u : Tree) → changed u ≡ before ++ (enc u ++ after)

-- more bytes in front, and behind
splits_front : (xs : List ℕ) (v : Tree) (p a : ℕ) (whole : List ℕ) (changed : Tree → List ℕ) → Splits v (p + length xs) a whole changed
    → Splits v p a (xs ++ whole) (λ u. xs ++ changed u)
splits_front xs v p a whole changed s =
    record {
      before = xs ++ s.before;
      after = s.after;
      from = simp length-append (omega arith);
      old = rw (append_assoc, s.old);
      new = λ u. rw (append_assoc, s.new);
    }

splits_behind : (ys : List ℕ) (v : Tree) (p a : ℕ) (whole : List ℕ) (changed : Tree → List ℕ) → Splits v p a whole changed
    → Splits v p a (whole ++ ys) (λ u. changed u ++ ys)
splits_behind ys v p a whole changed s =
    record {
      before = s.before;
      after = s.after ++ ys;
      from = s.from;
      old = rw s.old (simp append_assoc);
      new = λ u. rw s.new (simp append_assoc);
    }

-- The subtree v at place k of t, which starts at p, starts where the table says.
abbrev pub Spliced : Tree → ℕ → Tree → ℕ → Type 0
Spliced t k v p = Splits v p (get_or (starts t p) k 0) (enc t) (λ u. enc (replace t k u))

abbrev pub SplicedIn : Forest → ℕ → Tree → ℕ → Type 0
SplicedIn ks k v p = Splits v p (get_or (starts_in ks p) k 0) (encs ks) (λ u. encs (replace_in ks k u))

-- the table of a forest, at a place behind the first tree
starts_behind : (t : Tree) (p k : ℕ) (l : List ℕ) → nodes t ≤ k → get_or (starts t p ++ l) k 0 ≡ get_or l (k - nodes t) 0
starts_behind t p k l h =
    let z : k ≡ nodes t + (k - nodes t) = omega arith in
    ap (λ (i : ℕ). get_or (starts t p ++ l) i 0) z ∙ starts_rest t p (k - nodes t) l

splice_cons : (t : Tree) (ks : Forest) (k : ℕ) (Δ : Ctx) (v : Tree) (p : ℕ) (x y : Found) (b : Bool) → ltb k (nodes t) ≡ b → pick b x y ≡ found Δ v
    → (x ≡ found Δ v → Spliced t k v p) → (y ≡ found Δ v → SplicedIn ks (k - nodes t) v (p + length (enc t)))
    → Splits v p (get_or (starts t p ++ starts_in ks (p + length (enc t))) k 0) (enc t ++ encs ks)
    (λ u. encs (pick b (cons (replace t k u) ks) (cons t (replace_in ks (k - nodes t) u))))
unfolding enc
splice_cons t ks k Δ v p x y true h e f g =
    rw (starts_first t p k (starts_in ks (p + length (enc t))) (ltb-true k (nodes t) h))
    (splits_behind (encs ks) v p _ (enc t) (λ u. enc (replace t k u)) (f e))
splice_cons t ks k Δ v p x y false h e f g =
    rw (starts_behind t p k (starts_in ks (p + length (enc t))) (ltb-false k (nodes t) h))
    (splits_front (enc t) v p _ (encs ks) (λ u. encs (replace_in ks (k - nodes t) u)) (g e))

splice_node : (h : Head) (ks : Forest) (k : ℕ) (v : Tree) (p a : ℕ)
    → Splits v (p + length (enc_head h (count ks))) a (encs ks) (λ u. encs (replace_in ks k u))
    → Splits v p a (enc (node h ks)) (λ u. enc (node h (replace_in ks k u)))
unfolding enc
splice_node h ks k v p a s = simp count_replace (splits_front (enc_head h (count ks)) v p a (encs ks) (λ u. encs (replace_in ks k u)) s)

splice_root : (h : Head) (ks : Forest) (Γ Δ : Ctx) (v : Tree) (p : ℕ) → found Γ (node h ks) ≡ found Δ v → Splits v p p (enc (node h ks)) (λ u. enc u)
splice_root h ks Γ Δ v p e =
    let z : node h ks ≡ v = cc in
    record {
      before = [];
      after = [];
      from = omega arith;
      old = ap enc z ∙ simp append-nil;
      new = λ u. simp append-nil;
    }

mutual
  unfolding find replace starts enc

  pub splice : (t : Tree) (Γ : Ctx) (k : ℕ) (Δ : Ctx) (v : Tree) → find t Γ k ≡ found Δ v → (p : ℕ) → Spliced t k v p
  splice (node h ks) Γ zero Δ v e p = splice_root h ks Γ Δ v p e
  splice (node (head g n ts) ks) Γ (suc k) Δ v e p =
      let h : Head = head g n ts in splice_node h ks k v p _ (splice_in ks (under g ts Γ) k Δ v e (p + length (enc_head h (count ks))))

  pub splice_in : (ks : Forest) (Γ : Ctx) (k : ℕ) (Δ : Ctx) (v : Tree) → find_in ks Γ k ≡ found Δ v → (p : ℕ) → SplicedIn ks k v p
  splice_in nil Γ k Δ v e p = absent_not Δ v e
  splice_in (cons t ks) Γ k Δ v e p =
      splice_cons t ks k Δ v p (find t Γ k) (find_in ks Γ (k - nodes t)) (ltb k (nodes t)) refl e (λ h. splice t Γ k Δ v h p)
      (λ h. splice_in ks Γ (k - nodes t) Δ v h (p + length (enc t)))

-- ---- the same by positions, for bytes that start at 0
module _ (v : Tree) (a : ℕ) (s : List ℕ) (changed : Tree → List ℕ) (c : Splits v 0 a s changed) where
  long : length c.before ≡ a
  long = omega arith

  splits_there : take (length (enc v)) (drop a s) ≡ enc v
  splits_there =
      ap (λ (l : List ℕ). take (length (enc v)) (drop a l)) c.old ∙ (ap (take (length (enc v))) (drop_at c.before (enc v ++ c.after) a long)
      ∙ take_at (enc v) c.after (length (enc v)) refl)

  splits_within : a + length (enc v) ≤ length s
  splits_within = omega (arith, long, simp length-append at (ap length c.old))

  splits_bytes : (u : Tree) → changed u ≡ take a s ++ (enc u ++ drop (a + length (enc v)) s)
  splits_bytes u = c.new u ∙ ap₂ (λ (x y : List ℕ). x ++ (enc u ++ y)) (sym at_before) (sym at_after)
    where
      at_before : take a s ≡ c.before
      at_before = ap (take a) c.old ∙ take_at c.before (enc v ++ c.after) a long

      at_after : drop (a + length (enc v)) s ≡ c.after
      at_after =
          sym (drop-drop (length (enc v)) a s) ∙ (ap (λ (l : List ℕ). drop (length (enc v)) (drop a l)) c.old
          ∙ (ap (drop (length (enc v))) (drop_at c.before (enc v ++ c.after) a long) ∙ drop_at (enc v) c.after (length (enc v)) refl))

module _ (t : Tree) (Γ : Ctx) (k : ℕ) (Δ : Ctx) (v : Tree) (e : find t Γ k ≡ found Δ v) (s : List ℕ) (b : s ≡ enc t) where
  pub splice_there : take (length (enc v)) (drop (get_or (starts t 0) k 0) s) ≡ enc v
  splice_there = rw b (splits_there v _ (enc t) _ (splice t Γ k Δ v e 0))

  pub splice_within : get_or (starts t 0) k 0 + length (enc v) ≤ length s
  splice_within = rw b (splits_within v _ (enc t) _ (splice t Γ k Δ v e 0))

  pub splice_bytes : (u : Tree) → enc (replace t k u) ≡ take (get_or (starts t 0) k 0) s ++ (enc u ++ drop (get_or (starts t 0) k 0 + length (enc v)) s)
  splice_bytes u = rw b (splits_bytes v _ (enc t) (λ w. enc (replace t k w)) (splice t Γ k Δ v e 0) u)
