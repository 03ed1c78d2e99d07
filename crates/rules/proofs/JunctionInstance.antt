-- The scan of the operands of ∧ and ∨.
-- Main results: make_opposite (`make_neg` gives the opposite), contains_among, junction_instance (every answer of
-- `simplify_assoc_pred` is an instance of an equation).
use mathlib.Core.Path.{◌≡◌, refl, sym, ap, ◌∙◌}
use borrow.Author.Tests.{eq-eqb}
use mathlib.Core.Bool.{Bool, true, false, not, ◌||◌}
use mathlib.Core.Logic.{◌⊎◌, inl, inr}
use Prim.Native.Nat.{ℕ}
use lib.Dec.{eqb}
use Rattle.frame.specs.Types.{Ty}
use Rattle.frame.specs.Trees.{head, Tree, node, Forest, nil, cons, count, leaf, one, many, sole, append}
use Rattle.frame.specs.Tags.{pick, class_of, lookup, form_at, form_of}
use Rattle.frame.specs.Operators.{#BTrue, #BFalse, #Not}
use Rattle.frame.specs.Places.{Ctx}
use Rattle.frame.specs.Sameness.{same_tree}
use Rattle.frame.proofs.Inversion.{true_not}
use Rattle.frame.proofs.SameTrees.{same_tree_lem}
use Rattle.rules.specs.Change.{is_tag, contains}
use Rattle.rules.specs.Simplify.{
  sole_or,
  make_neg,
  Verdict,
  drops,
  keeps,
  decides,
  verdict,
  Kept,
  kept,
  decided,
  after_verdict,
  scan,
  finish,
  simplify_assoc_pred,
}
use Rattle.rules.specs.Equations
use Rattle.rules.specs.Equations.{Equation, Among, Junction, conjunction, disjunction, Dropped, Opposite, ¬ᵖ}
use Rattle.rules.proofs.Operands.{append_nil, append_assoc}
use Rattle.rules.proofs.Shapes.{Is, gives, by_test, Ok, OkAll, fixed, is_leaf, is_one}

-- ---- the opposite
pub make_opposite : {σ : ℕ → Ty} {Γ : Ctx} {p : Tree} → Ok σ Γ p → Opposite p (make_neg p)
unfolding make_neg class_of lookup form_at
make_opposite {p = node (head g n ts) ks} a = go (eqb g #Not) refl
  where
    restored : (s : Tree) (ls : Forest) (x : Tree) → s ≡ ¬ᵖ x → ls ≡ sole x → Opposite s (sole_or (one #Not s) ls)
    restored s ls x e q = rw (q, e) (Opposite.restored x)

    go : (b : Bool) → eqb g #Not ≡ b → Opposite (node (head g n ts) ks)
        (pick b (sole_or (one #Not (node (head g n ts) ks)) ks) (one #Not (node (head g n ts) ks)))
    go true h = let w = is_one #Not a h refl in restored (node (head g n ts) ks) ks w.0 w.1 (cc w.1)
    go false h = Opposite.negated (node (head g n ts) ks)

-- ---- an operand among others
pub contains_among : (q : Tree) (ks : Forest) → contains q ks ≡ true → Among q ks
unfolding contains
contains_among q nil h = true_not h
contains_among q (cons k ks) h = go (same_tree k q) refl h (contains_among q ks)
  where
    go : (b : Bool) → same_tree k q ≡ b → (b || contains q ks) ≡ true → (contains q ks ≡ true → Among q ks) → (q ≡ k) ⊎ Among q ks
    go true e h f = inl (sym (same_tree_lem k q e))
    go false e h f = inr (f h)

among_left : (q : Tree) (xs ys : Forest) → Among q xs → Among q (append xs ys)
among_left q nil ys h = absurd h
among_left q (cons x xs) ys (inl e) = inl e
among_left q (cons x xs) ys (inr h) = inr (among_left q xs ys h)

among_at : (q : Tree) (xs : Forest) (y : Tree) (ys : Forest) → q ≡ y → Among q (append xs (cons y ys))
among_at q nil y ys e = inl e
among_at q (cons x xs) y ys e = inr (among_at q xs y ys e)

among_more : (q : Tree) (xs : Forest) (y : Tree) (ys : Forest) → Among q (append xs ys) → Among q (append xs (cons y ys))
among_more q nil y ys h = inr h
among_more q (cons x xs) y ys (inl e) = inl e
among_more q (cons x xs) y ys (inr h) = inr (among_more q xs y ys h)

-- ---- the scan, over all the operands ps, with neutral n and determinant d
abbrev Both : Forest → Type 0
Both ps = (q : Tree) × Among q ps × Among (¬ᵖ q) ps

abbrev Scanned : ℕ → ℕ → Forest → Kept → Type 0
Scanned n d ps (kept fin) = Dropped n ps fin
Scanned n d ps decided = Among (leaf d) ps ⊎ Both ps

-- what a verdict says of an operand, given those kept before it
abbrev Says : ℕ → ℕ → Forest → Tree → Verdict → Type 0
Says n d out c drops = (c ≡ leaf n) ⊎ Among c out
Says n d out c keeps = Unit {0}
Says n d out c decides = (c ≡ leaf d) ⊎ Among (make_neg c) out

dropped_one : (n d : ℕ) (out : Forest) (c : Tree) (cs : Forest) (k : Kept) → (c ≡ leaf n) ⊎ Among c out
    → Scanned n d (append out cs) k → Scanned n d (append out (cons c cs)) k
dropped_one n d out c cs (kept fin) (inl e) r =
    Dropped.SIMP_SPECIAL_AND_BTRUE/SIMP_SPECIAL_OR_BFALSE (append out (cons c cs)) fin out cs (ap (λ (x : Tree). append out (cons x cs)) e) r
dropped_one n d out c cs (kept fin) (inr m) r = Dropped.SIMP_MULTI_AND/SIMP_MULTI_OR (append out (cons c cs)) fin out cs c refl m r
dropped_one n d out c cs decided h (inl m) = inl (among_more (leaf d) out c cs m)
dropped_one n d out c cs decided h (inr m) = inr (m.0, among_more m.0 out c cs m.1, among_more (¬ᵖ m.0) out c cs m.2)

opposed : (ps : Forest) {p q : Tree} → Opposite p q → Among p ps → Among q ps → Both ps
opposed ps (Opposite.negated p) h i = (p, h, i)
opposed ps (Opposite.restored q) h i = (q, i, h)

module _ (σ : ℕ → Ty) (Γ : Ctx) (n d : ℕ) (hn : fixed 0 0 (form_of n).layout (form_of n).carried ≡ true)
    (hd : fixed 0 0 (form_of d).layout (form_of d).carried ≡ true) where
  verdict_says : (out : Forest) (c : Tree) → Ok σ Γ c → Says n d out c (verdict n d out c)
  unfolding verdict
  verdict_says out c a = first (is_tag n c) refl
    where
      third : (b : Bool) → contains c out ≡ b → Says n d out c (pick b drops keeps)
      third true e = inr (contains_among c out e)
      third false e = tt

      second : (b b' : Bool) → is_tag d c ≡ b → contains (make_neg c) out ≡ b'
          → Says n d out c (pick (b || b') decides (pick (contains c out) drops keeps))
      second true b' e e' = inl (is_leaf d a e hd)
      second false true e e' = inr (contains_among (make_neg c) out e')
      second false false e e' = third (contains c out) refl

      first : (b : Bool) → is_tag n c ≡ b
          → Says n d out c (pick b drops (pick (is_tag d c || contains (make_neg c) out) decides (pick (contains c out) drops keeps)))
      first true e = inl (is_leaf n a e hn)
      first false e = second (is_tag d c) (contains (make_neg c) out) refl refl

  decided_by : (out : Forest) (c : Tree) (cs : Forest) → Ok σ Γ c → (c ≡ leaf d) ⊎ Among (make_neg c) out
      → Scanned n d (append out (cons c cs)) decided
  decided_by out c cs a (inl e) = inl (among_at (leaf d) out c cs (sym e))
  decided_by out c cs a (inr m) =
      inr (opposed (append out (cons c cs)) (make_opposite a) (among_at c out c cs refl) (among_left (make_neg c) out (cons c cs) m))

  scanned : (cs out : Forest) → OkAll σ Γ cs → Scanned n d (append out cs) (scan n d cs out)
  unfolding scan
  scanned nil out a = rw append_nil (Dropped.done out)
  scanned (cons c cs) out a = go (verdict n d out c) (verdict_says out c a.0) (λ o. scanned cs o a.1)
    where
      go : (v : Verdict) → Says n d out c v → ((o : Forest) → Scanned n d (append o cs) (scan n d cs o))
          → Scanned n d (append out (cons c cs)) (after_verdict v c out (λ o. scan n d cs o))
      go drops h f = dropped_one n d out c cs (scan n d cs out) h (f out)
      go keeps h f = rw append_assoc at (f (append out (cons c nil)))
      go decides h f = decided_by out c cs a.0 h

-- ---- what comes of it
other_count : (k m : ℕ) → not (eqb k m) ≡ true → k ≡ m → ⊥
other_count k m h e = true_not (sym (ap not (eq-eqb k m e)) ∙ h)

finish_instance : {Γ : Ctx} {g n d : ℕ} → Junction g n d → (m : ℕ) (ps : Forest) → m ≡ count ps → (k : Kept) → Scanned n d ps k
    → Is (λ p u. Equation Γ p (many g ps) u) (finish g n d m k)
finish_instance {g} {n} {d} j m ps c decided (inl h) = gives (Equations.SIMP_SPECIAL_AND_BFALSE/SIMP_SPECIAL_OR_BTRUE g n d ps j h)
finish_instance {g} {n} {d} j m ps c decided (inr h) = gives (Equations.SIMP_MULTI_AND_NOT/SIMP_MULTI_OR_NOT g n d ps h.0 j h.1 h.2)
finish_instance {g} {n} {d} j m ps c (kept nil) h = gives (Equations.dropped_all g n d ps j h)
finish_instance {g} {n} {d} j m ps c (kept (cons a nil)) h = gives (Equations.dropped_but_one g n d ps a j h)
finish_instance {g} {n} {d} j m ps c (kept (cons a (cons b ks))) h =
    by_test (not (eqb (count (cons a (cons b ks))) m)) (λ i. gives
    (Equations.dropped_some g n d ps a b ks j h
    (λ e. other_count (count (cons a (cons b ks))) m i (e ∙ sym c))))

pub junction_instance : (σ : ℕ → Ty) (Γ : Ctx) {g n d : ℕ} → Junction g n d → (ks : Forest) → OkAll σ Γ ks
    → Is (λ p u. Equation Γ p (many g ks) u) (simplify_assoc_pred g n d ks)
unfolding simplify_assoc_pred class_of lookup form_at
junction_instance σ Γ conjunction ks a =
    finish_instance conjunction (count ks) ks refl (scan #BTrue #BFalse ks nil) (scanned σ Γ #BTrue #BFalse refl refl ks nil a)
junction_instance σ Γ disjunction ks a =
    finish_instance disjunction (count ks) ks refl (scan #BFalse #BTrue ks nil) (scanned σ Γ #BFalse #BTrue refl refl ks nil a)
