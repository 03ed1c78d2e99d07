-- The ways out of `turn` of src/lib.rt, on plain values.
-- Main results: turn_rests, turn_spent, turn_full, turn_on.
use Rattle.std.proofs.Common.{◌≡◌, ℕ, zero, suc, ◌+◌, ◌-◌, ◌≤◌, ◌<◌, Bool, List, length, Option, Some, None, refl, sym, ap, ap₂, ◌∙◌, subst, arith}
use borrow.Author.Tests.{lt-ltb, le-ltb}
use Rattle.frame.specs.Trees.{Tree}
use Rattle.frame.specs.Tags.{pick}
use Rattle.frame.specs.Encoding.{enc}
use Rattle.put.specs.Out.{Wrote}
use Rattle.put.proofs.Puts.{wrote_is, wrote_full}
use Rattle.run.specs.Run.{First, next, nowhere, first_step, Word, REST, SPENT, FULL, ran, at_end, go_on, run_tree, ending_for}
use Rattle.run.specs.declared.Ending.TheVariants.{Rest, Spent, Full}
use Rattle.turn.specs.Progress.{At}
use Rattle.turn.specs.TurnPosts.{Gives, TurnPost}

-- ---- one step in the run of a tree
spent_run : (t u : Tree) (n : ℕ) → first_step t ≡ next u → run_tree 0 n t ≡ ran SPENT n t
unfolding run_tree
spent_run t u n e = ap (λ (f : First). at_end f n t) e

rest_run : (b : ℕ) (t : Tree) (n : ℕ) → first_step t ≡ nowhere → run_tree b n t ≡ ran REST n t
unfolding run_tree
rest_run zero t n e = ap (λ (f : First). at_end f n t) e
rest_run (suc b) t n e = ap (λ (f : First). go_on f n t (run_tree b (n + 1))) e

full_run : (b : ℕ) (t u : Tree) (n : ℕ) → first_step t ≡ next u → 4096 < length (enc u) → run_tree (suc b) n t ≡ ran FULL n t
unfolding run_tree
full_run b t u n e h = ap (λ (f : First). go_on f n t (run_tree b (n + 1))) e ∙ ap (λ (x : Bool). pick x (ran FULL n t) (run_tree b (n + 1) u))
    (lt-ltb 4096 (length (enc u)) h)

on_run : (b : ℕ) (t u : Tree) (n : ℕ) → first_step t ≡ next u → length (enc u) ≤ 4096 → run_tree (suc b) n t ≡ run_tree b (n + 1) u
unfolding run_tree
on_run b t u n e h = ap (λ (f : First). go_on f n t (run_tree b (n + 1))) e ∙ ap (λ (x : Bool). pick x (ran FULL n t) (run_tree b (n + 1) u))
    (le-ltb 4096 (length (enc u)) h)

-- ---- `turn`
module _ (x : Option (Option (List ℕ))) (o : At) where
  -- the run ends here, and nothing is changed
  ends : (w : Word) → ((t : Tree) → Gives x (first_step t) → run_tree o.left o.steps t ≡ ran w o.steps t) → TurnPost x o o (Some (ending_for w))
  ends w h = record { follows = λ t g. record { word = w; ended = h t g; ending = refl; kept = refl } }

  pub turn_rests : x ≡ None → TurnPost x o o (Some Rest)
  turn_rests e = ends REST (λ t g. rest_run o.left t o.steps (subst (λ (y : _). Gives y (first_step t)) e g))

  module _ (w : Option (List ℕ)) (e : x ≡ Some w) where
    writes : (t : Tree) → Gives x (first_step t) → (u : Tree) × (first_step t ≡ next u) × Wrote w (enc u)
    writes t g = subst (λ (y : _). Gives y (first_step t)) e g

    pub turn_spent : o.left ≡ 0 → TurnPost x o o (Some Spent)
    turn_spent z = ends SPENT (λ t g. (let u = writes t g in ap (λ (i : ℕ). run_tree i o.steps t) z ∙ spent_run t u.0 o.steps u.1))

    module _ (some : o.left ≡ 0 → ⊥) where
      less : o.left ≡ suc (o.left - 1)
      less = omega (arith, some)

      pub turn_full : w ≡ None → TurnPost x o o (Some Full)
      turn_full h =
          ends FULL (λ t g. (let u = writes t g in ap (λ (i : ℕ). run_tree i o.steps t) less ∙ full_run (o.left - 1) t u.0 o.steps u.1
          (wrote_full w (enc u.0) u.2 h)))

      pub turn_on : (xs : List ℕ) → w ≡ Some xs → (p : At) → p.frame ≡ xs → p.left ≡ o.left - 1 → p.steps ≡ o.steps + 1 → TurnPost x o p None
      turn_on xs h p f l s =
          record {
            follows = λ t g.
                (let v = writes t g in
                let u = v.0 in
                let b = wrote_is w (enc u) xs v.2 h in
                record {
                  after = u;
                  step = v.1;
                  same = ap (λ (i : ℕ). run_tree i o.steps t) less ∙ on_run (o.left - 1) t u o.steps v.1 b.1
                      ∙ ap₂ (λ (i j : ℕ). run_tree i j u) (sym l) (sym s);
                  less = less ∙ ap suc (sym l);
                  more = s;
                  bytes = f ∙ b.0;
                  fits = b.1;
                });
          }
