-- Typing in prefix order with a stack of open nodes: what the nodes that are open, and the operands that are to come, say of the
-- whole tree.
-- Main results: machine_start, machine_push, machine_pop: opening a node and closing one leave the answer as it is.
use mathlib.Core.Path.{◌≡◌, refl, sym, ap, ◌∙◌}
use mathlib.Core.Bool.{Bool, true, false, ◌&&◌, and-true}
use mathlib.Core.List.{List, [], ◌∷◌, ◌++◌, append_assoc, append-nil}
use Prim.Native.Nat.{ℕ}
use Rattle.frame.specs.Types.{Ty}
use Rattle.frame.specs.Trees.{head, node, Forest, nil, cons}
use Rattle.frame.specs.Tags.{pick, class_of}
use Rattle.frame.specs.Places.{Ctx, under}
use Rattle.synthesis.specs.Machine.{Answer, bad, Open, opened, good, type_in, given, close_up, deliver, answer_of}
use Rattle.typing.specs.Typing.{result, type_of, types_in, node_typed, typed_tree, typed_forest}

close_up_lem : (o : Open) (ps : List Open) → close_up o ps ≡ pick (good o) (deliver (type_in o) ps) bad
unfolding close_up
close_up_lem o [] = refl
close_up_lem o (p ∷ ps) = refl

pub machine_start : (g n : ℕ) (us : List Ty) (Γ : Ctx) (ks : Forest) → close_up (opened g n us Γ [] ks) [] ≡ answer_of (node (head g n us) ks) Γ
unfolding close_up typed_tree type_of
machine_start g n us Γ ks = refl

swapped : (a b c : Bool) (x : Answer) → pick (a && (b && c)) x bad ≡ pick b (pick (a && c) x bad) bad
swapped true true true x = refl
swapped true true false x = refl
swapped true false c x = refl
swapped false true c x = refl
swapped false false c x = refl

module _ (g n : ℕ) (us : List Ty) (Γ : Ctx) (ts : List Ty) where
  abbrev Γ' : Ctx
  Γ' = under g us Γ

  pub machine_push : (h m : ℕ) (vs : List Ty) (ls ks : Forest) (ps : List Open)
      → close_up (opened g n us Γ ts (cons (node (head h m vs) ls) ks)) ps ≡ close_up (opened h m vs (under g us Γ) [] ls) (opened g n us Γ ts ks ∷ ps)
  unfolding type_of typed_tree
  machine_push h m vs ls ks ps =
      let k = node (head h m vs) ls in
      let t = type_of k Γ' in
      let e : ts ++ (t ∷ types_in ks Γ') ≡ (ts ++ (t ∷ [])) ++ types_in ks Γ' = sym (append_assoc ts (t ∷ []) (types_in ks Γ')) in
      close_up_lem (opened g n us Γ ts (cons k ks)) ps
      ∙ swapped (node_typed g n us Γ (ts ++ (t ∷ types_in ks Γ'))) (typed_tree k Γ') (typed_forest ks Γ')
      (deliver (result (class_of g) n us Γ (ts ++ (t ∷ types_in ks Γ'))) ps)
      ∙ ap (λ (l : List Ty). pick (typed_tree k Γ') (pick (node_typed g n us Γ l && typed_forest ks Γ')
      (deliver (result (class_of g) n us Γ l) ps) bad) bad) e
      ∙ ap (λ (a : Answer). pick (typed_tree k Γ') a bad) (sym (close_up_lem (given (opened g n us Γ ts ks) t) ps))
      ∙ sym (close_up_lem (opened h m vs Γ' [] ls) (opened g n us Γ ts ks ∷ ps))

  -- an operand that is not well typed
  pub machine_bad : (h m : ℕ) (vs : List Ty) (ls ks : Forest) (ps : List Open) → typed_tree (node (head h m vs) ls) (under g us Γ) ≡ false
      → close_up (opened g n us Γ ts (cons (node (head h m vs) ls) ks)) ps ≡ bad
  unfolding typed_tree
  machine_bad h m vs ls ks ps e =
      machine_push h m vs ls ks ps ∙ close_up_lem (opened h m vs Γ' [] ls) (opened g n us Γ ts ks ∷ ps)
      ∙ ap (λ (b : Bool). pick b (deliver (type_in (opened h m vs Γ' [] ls)) (opened g n us Γ ts ks ∷ ps)) bad) e

  pub machine_pop : (ps : List Open) → close_up (opened g n us Γ ts nil) ps ≡ pick (node_typed g n us Γ ts)
      (deliver (result (class_of g) n us Γ ts) ps) bad
  unfolding type_of typed_tree
  machine_pop ps =
      close_up_lem (opened g n us Γ ts nil) ps
      ∙ ap (λ (l : List Ty). pick (node_typed g n us Γ l && true) (deliver (result (class_of g) n us Γ l) ps) bad) (append-nil ts)
      ∙ ap (λ (b : Bool). pick b (deliver (result (class_of g) n us Γ ts) ps) bad) (and-true (node_typed g n us Γ ts))
