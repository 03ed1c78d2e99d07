-- The figure for finite of a union (document 01: "On finite of a union of k pairwise different set extensions, a run that
-- ends in REST takes at most 2 × k steps.").
-- Main results: union_figure (it takes exactly 2 × k), union_bound (the sentence on trees), union_frames (on frames: UnionBound).
--
-- The first step gives the conjunction of all finite(S). While two or more are left, no rule applies to the conjunction; its
-- first child, at place 1, becomes ⊤, and the next step drops that ⊤. The last finite(S), alone, becomes ⊤. A member of an
-- S is never looked at: finite(S) stands before it.
use mathlib.Core.Path.{◌≡◌, refl, sym, ap, ◌∙◌, subst}
use mathlib.Core.Bool.{Bool, true, false, ◌&&◌, ◌||◌}
use mathlib.Core.Logic.{◌⊎◌, inl, inr}
use mathlib.Core.List.{List, []}
use Prim.Native.Nat.{ℕ, zero, suc, ◌+◌, ◌*◌, ◌≤◌}
use native.Mathlib.Omega.{arith}
use lib.ListN.{length}
use lib.Dec.{leb, ltb}
use borrow.Author.Tests.{eq-eqb, ne_eqb, ltb-true, lt-ltb}
use Rattle.frame.specs.Trees.{Head, head, Tree, node, Forest, nil, cons, count, tag_of, nodes, nodes_in, leaf, one, many, pair, append, map_f}
use Rattle.frame.specs.Tags.{pick, lookup, class_of, form_at}
use Rattle.frame.specs.Operators.{#SetExt, #BUnion, #LAnd, #True, #False, #BTrue, #BFalse, #Finite, #Not}
use Rattle.frame.specs.Encoding.{enc_number, enc_tys, enc_head, enc}
use Rattle.frame.specs.Reading.{frame_limit}
use Rattle.frame.specs.Places.{Ctx, find, replace}
use Rattle.frame.specs.Sameness.{same_tys, same_tree}
use Rattle.frame.specs.Spans.{Bytes}
use Rattle.frame.proofs.Inversion.{else_of}
use Rattle.frame.proofs.Booleans.{both_true}
use Rattle.frame.proofs.SameTrees.{same_tree_lem}
use Rattle.typing.specs.Check.{accepted, check}
use Rattle.typing.specs.Accepted.{Accepted}
use Rattle.typing.proofs.Checked.{check_accepts}
use Rattle.rules.specs.Change.{to, same, on_tag, contains, joined}
use Rattle.rules.specs.Simplify.{make_neg, verdict, keeps, kept, scan, simplify_assoc_pred, simplify_predicate_node}
use Rattle.rules.specs.Negation.{rewrite_not}
use Rattle.rules.specs.Finite.{finite, rewrite_finite}
use Rattle.rules.specs.Dispatch.{dispatch}
use Rattle.rules.specs.Equations.{Among, ⊤}
use Rattle.rules.proofs.Operands.{append_nil, append_assoc}
use Rattle.step.specs.Step.{changed, unchanged, step_tree}
use Rattle.run.specs.UnionFigure.{Extensions, Different, UnionBound}
use Rattle.run.specs.Run.{next, nowhere, first_from, first_step, REST, SPENT, FULL, Ran, ran, run_tree, ended, turned_down, ended_by, run}

-- ---- lists
abbrev finites : Forest → Forest
finites ks = map_f finite ks

finites_last : (xs : Forest) (y : Tree) → append (finites xs) (cons (finite y) nil) ≡ finites (append xs (cons y nil))
finites_last nil y = refl
finites_last (cons x xs) y = ap (cons (finite x)) (finites_last xs y)

among_last : (q : Tree) (xs : Forest) (y : Tree) → Among q (append xs (cons y nil)) → Among q xs ⊎ (q ≡ y)
among_last q nil y (inl e) = inr e
among_last q nil y (inr h) = absurd h
among_last q (cons x xs) y (inl e) = inl (inl e)
among_last q (cons x xs) y (inr h) = go (among_last q xs y h)
  where
    go : Among q xs ⊎ (q ≡ y) → Among q (cons x xs) ⊎ (q ≡ y)
    go (inl m) = inl (inr m)
    go (inr e) = inr e

-- ---- the scan keeps every finite(S)
no_opposite : (q : Tree) (ks : Forest) → contains (one #Not q) (finites ks) ≡ false
unfolding contains same_tree
no_opposite q nil = refl
no_opposite q (cons k ks) = no_opposite q ks

not_among : (q : Tree) (ks : Forest) → (Among q ks → ⊥) → contains (finite q) (finites ks) ≡ false
unfolding contains same_tree same_tys
not_among q nil h = refl
not_among q (cons k ks) h = go (same_tree k q) refl (not_among q ks (λ m. h (inr m)))
  where
    go : (b : Bool) → same_tree k q ≡ b → contains (finite q) (finites ks) ≡ false → ((b && true) || contains (finite q) (finites ks)) ≡ false
    go true e r = absurd (h (inl (sym (same_tree_lem k q e))))
    go false e r = r

verdict_keeps : (q : Tree) (done : Forest) → (Among q done → ⊥) → verdict #BTrue #BFalse (finites done) (finite q) ≡ keeps
unfolding verdict make_neg
verdict_keeps q done h = rw (no_opposite (finite q) done, not_among q done h)

scan_keeps : (ks done : Forest) → ((q : Tree) → Among q ks → Among q done → ⊥) → Different ks
    → scan #BTrue #BFalse (finites ks) (finites done) ≡ kept (finites (append done ks))
unfolding scan
scan_keeps nil done h d = rw append_nil
scan_keeps (cons k ks) done h d =
    let r = scan_keeps ks (append done (cons k nil)) apart d.1 in
    rw (verdict_keeps k done (h k (inl refl)), finites_last, ← append_assoc done (cons k nil) ks) r
  where
    on : (q : Tree) → Among q ks → Among q done ⊎ (q ≡ k) → ⊥
    on q m (inl i) = h q (inr m) i
    on q m (inr e) = d.0 (rw e at m)

    apart : (q : Tree) → Among q ks → Among q (append done (cons k nil)) → ⊥
    apart q m i = on q m (among_last q done k i)

kept_all : (ks : Forest) → Different ks → scan #BTrue #BFalse (finites ks) nil ≡ kept (finites ks)
kept_all ks d = scan_keeps ks nil (λ q m i. absurd i) d

-- ---- what a step gives
-- finite of a union
union_step : (ks : Forest) → step_tree (finite (many #BUnion ks)) 0 ≡ changed 6 (many #LAnd (finites ks))
unfolding step_tree find replace lookup class_of form_at dispatch simplify_predicate_node rewrite_not rewrite_finite on_tag
union_step ks = refl

-- finite of a set extension, in any context
finite_ext : (Γ : Ctx) (k : Tree) → tag_of k ≡ #SetExt → dispatch Γ (finite k) ≡ to 5 ⊤
unfolding dispatch simplify_predicate_node rewrite_not rewrite_finite on_tag
finite_ext Γ (node (head g n ts) ls) e = subst (λ (g : ℕ). dispatch Γ (finite (node (head g n ts) ls)) ≡ to 5 ⊤) (sym e) refl

-- a conjunction at the root
and_same : (ps : Forest) → simplify_assoc_pred #LAnd #BTrue #BFalse ps ≡ same → step_tree (many #LAnd ps) 0 ≡ unchanged
unfolding step_tree find lookup class_of form_at dispatch simplify_predicate_node rewrite_not on_tag
and_same ps e = rw e

and_to : (ps : Forest) (p : ℕ) (u : Tree) → simplify_assoc_pred #LAnd #BTrue #BFalse ps ≡ to p u → step_tree (many #LAnd ps) 0 ≡ changed p u
unfolding step_tree find replace lookup class_of form_at dispatch simplify_predicate_node on_tag
and_to ps p u e = rw e

-- two or more, all different: no rule applies to the conjunction
conjunction_rests : (k l : Tree) (ks : Forest) → Different (cons k (cons l ks)) → step_tree (many #LAnd (finites (cons k (cons l ks)))) 0 ≡ unchanged
unfolding simplify_assoc_pred
conjunction_rests k l ks d =
    let n = count (finites (cons k (cons l ks))) in
    and_same (finites (cons k (cons l ks))) (rw (kept_all (cons k (cons l ks)) d, eq-eqb n n refl))

-- a ⊤ in front of one or more is dropped
truth_drops : (k : Tree) (ks : Forest) → Different (cons k ks)
    → (p : ℕ) × (step_tree (many #LAnd (cons ⊤ (finites (cons k ks)))) 0 ≡ changed p (joined #LAnd (finites (cons k ks))))
unfolding simplify_assoc_pred scan verdict
truth_drops k nil d = (64, and_to (cons ⊤ (finites (cons k nil))) 64 (finite k) (rw (kept_all (cons k nil) d)))
truth_drops k (cons l ks) d =
    let ps = finites (cons k (cons l ks)) in
    let n = count ps in
    (65, and_to (cons ⊤ ps) 65 (many #LAnd ps) (rw (kept_all (cons k (cons l ks)) d, ne_eqb n (suc n) (λ e. omega arith))))

-- the first of two or more becomes ⊤
first_becomes : (k : Tree) (ks : Forest) → tag_of k ≡ #SetExt → step_tree (many #LAnd (cons (finite k) ks)) 1 ≡ changed 5 (many #LAnd (cons ⊤ ks))
unfolding step_tree find replace nodes lookup class_of form_at
first_becomes k ks e =
    let l : ltb 0 (nodes (finite k)) ≡ true = lt-ltb 0 (nodes (finite k)) (omega arith) in
    rw (l, finite_ext [] k e, l)

-- so does one alone
last_becomes : (k : Tree) → tag_of k ≡ #SetExt → step_tree (finite k) 0 ≡ changed 5 ⊤
unfolding step_tree find replace lookup class_of form_at
last_becomes k e = rw (finite_ext [] k e)

-- ---- the first place where a rule applies
first_root : (h : Head) (ks : Forest) (p : ℕ) (u : Tree) → step_tree (node h ks) 0 ≡ changed p u → first_step (node h ks) ≡ next u
unfolding first_step first_from nodes
first_root h ks p u e = rw e

first_child : (h : Head) (k : Tree) (ks : Forest) (p : ℕ) (u : Tree) → step_tree (node h (cons k ks)) 0 ≡ unchanged
    → step_tree (node h (cons k ks)) 1 ≡ changed p u → first_step (node h (cons k ks)) ≡ next u
unfolding first_step first_from nodes
first_child h (node g ls) ks p u e f =
    let z : suc (nodes_in ls) + nodes_in ks ≡ suc (nodes_in ls + nodes_in ks) = omega arith in
    rw (z, e, f)

truth_rests : first_step ⊤ ≡ nowhere
unfolding first_step first_from nodes step_tree find lookup class_of form_at dispatch simplify_predicate_node rewrite_not on_tag
truth_rests = refl

-- ---- runs that end in REST
-- a run that has made n steps goes on from v, and ends in REST with m steps at u
abbrev Goes : ℕ → Tree → ℕ → Tree → Type 0
Goes n v m u = (budget : ℕ) × (run_tree budget n v ≡ ran REST m u)

onward : (n : ℕ) (t v : Tree) (m : ℕ) (u : Tree) → first_step t ≡ next v → Goes n t m u → Goes (n + 1) v m u
unfolding run_tree
onward n t v m u f g = go g.0 g.1
  where
    go : (budget : ℕ) → run_tree budget n t ≡ ran REST m u → Goes (n + 1) v m u
    go zero e =
        let y : ran SPENT n t ≡ ran REST m u = rw f at e in
        let z : ◌≡◌ {A = ℕ} 0 1 = cc in
        absurd (omega arith)
    go (suc budget) e =
        let full = ltb frame_limit (length (enc v)) in
        let y : pick full (ran FULL n t) (run_tree budget (n + 1) v) ≡ ran REST m u = rw f at e in
        let never : ran FULL n t ≡ ran REST m u → ⊥ = (λ w. let z : ◌≡◌ {A = ℕ} 0 1 = cc in omega arith) in
        (budget, (else_of full (ran FULL n t) (run_tree budget (n + 1) v) (ran REST m u) never y).1)

stops : (n : ℕ) (t : Tree) (m : ℕ) (u : Tree) → first_step t ≡ nowhere → Goes n t m u → m ≡ n
unfolding run_tree
stops n t m u f g = go g.0 g.1
  where
    go : (budget : ℕ) → run_tree budget n t ≡ ran REST m u → m ≡ n
    go zero e = let y : ran REST n t ≡ ran REST m u = rw f at e in cc
    go (suc budget) e = let y : ran REST n t ≡ ran REST m u = rw f at e in cc

-- two steps for each conjunct but the last, and one for that
conjuncts : (k : Tree) (ks : Forest) → Extensions (cons k ks) → Different (cons k ks) → (n m : ℕ) (u : Tree)
    → Goes n (joined #LAnd (finites (cons k ks))) m u → m ≡ n + 2 * count ks + 1
conjuncts k nil x d n m u g =
    stops (n + 1) ⊤ m u truth_rests (onward n (finite k) ⊤ m u (first_root _ _ 5 ⊤ (last_becomes k x.0)) g) ∙ omega arith
conjuncts k (cons l ks) x d n m u g =
    let ps = finites (cons l ks) in
    let e = truth_drops l ks d.1 in
    let g₁ = onward n (many #LAnd (cons (finite k) ps)) (many #LAnd (cons ⊤ ps)) m u
    (first_child _ _ _ 5 _ (conjunction_rests k l ks d) (first_becomes k ps x.0)) g in
    let g₂ = onward (n + 1) (many #LAnd (cons ⊤ ps)) (joined #LAnd ps) m u (first_root _ _ e.0 _ e.1) g₁ in
    conjuncts l ks x.1 d.1 (n + 1 + 1) m u g₂ ∙ omega arith

-- The premise on the count leaves out what no frame holds: over one set extension the run takes 3 steps, over none 2.
pub union_figure : (ks : Forest) → 2 ≤ count ks → Extensions ks → Different ks → (budget m : ℕ) (u : Tree)
    → run_tree budget 0 (one #Finite (many #BUnion ks)) ≡ ran REST m u → m ≡ 2 * count ks
union_figure nil c x d budget m u e = absurd (omega arith)
union_figure (cons k nil) c x d budget m u e = absurd (omega arith)
union_figure (cons k (cons l ks)) c x d budget m u e =
    let ls = cons k (cons l ks) in
    let g = onward 0 (finite (many #BUnion ls)) (many #LAnd (finites ls)) m u (first_root _ _ 6 _ (union_step ls)) (budget, e) in
    conjuncts k (cons l ks) x d 1 m u g ∙ omega arith

pub union_bound : (ks : Forest) → 2 ≤ count ks → Extensions ks → Different ks → (budget m : ℕ) (u : Tree)
    → run_tree budget 0 (one #Finite (many #BUnion ks)) ≡ ran REST m u → m ≤ 2 * count ks
union_bound ks c x d budget m u e = omega (arith, union_figure ks c x d budget m u e)

-- {TRUE} ∪ {FALSE}: a budget of 4 ends in REST
two_take_four : run_tree 4 0 (one #Finite (many #BUnion (pair (one #SetExt (leaf #True)) (one #SetExt (leaf #False))))) ≡ ran REST 4 ⊤
unfolding run_tree first_step first_from nodes step_tree find replace lookup class_of form_at dispatch simplify_predicate_node simplify_assoc_pred
    scan verdict make_neg contains same_tree same_tys rewrite_not rewrite_finite on_tag enc enc_head enc_number enc_tys
two_take_four = refl

-- ---- on frames
-- "301 to 307, 351, 352: a count byte 2 to 255": an accepted union has two members or more
two_members : (s : List ℕ) → Bytes s → (ks : Forest) → check s ≡ accepted (one #Finite (many #BUnion ks)) → 2 ≤ count ks
unfolding Accepted lookup class_of form_at
two_members s b ks e =
    let a = (check_accepts s b (one #Finite (many #BUnion ks)) e).accepted in
    ltb-true 1 (count ks) (both_true (leb 2 (count ks)) (leb (count ks) 255) a.kids.0.top.formed.range).0

pub union_frames : UnionBound
unfolding run
union_frames s b ks a x d budget c m xs e =
    let never : turned_down 12 ≡ ended REST m xs → ⊥ = (λ w. let z : ◌≡◌ {A = ℕ} 0 1 = cc in omega arith) in
    go (run_tree budget 0 (one #Finite (many #BUnion ks))) refl (else_of (ltb c frame_limit) _ _ _ never (rw a at e)).1
  where
    go : (r : Ran) → run_tree budget 0 (one #Finite (many #BUnion ks)) ≡ r → ended_by r ≡ ended REST m xs → m ≤ 2 * count ks
    go (ran w n u) q y = union_bound ks (two_members s b ks a) x d budget m u (cc)
