-- `type_tree`: the root is opened, and from there all turns come to the answer of the whole tree.
-- Main results: tree_open, tree_bad, tree_turns, tree_ends.
use mathlib.Core.Path.{◌≡◌, refl, sym, ap, ◌∙◌, subst, subst₂}
use mathlib.Core.Bool.{Bool, true, false}
use mathlib.Core.List.{List, [], append-nil}
use Prim.Native.Nat.{ℕ, ◌+◌, ◌*◌, ◌≤◌, ◌<◌}
use native.Mathlib.Omega.{arith}
use lib.ListN.{length, get_or, set, replicate, length-set, length-replicate}
use lib.Seq.{get_or-set_same}
use Rattle.frame.specs.Types.{Ty}
use Rattle.frame.specs.Trees.{Tree, count, nodes}
use Rattle.frame.specs.Tags.{pick, Sort, class_of}
use Rattle.frame.specs.Encoding.{enc_ty}
use Rattle.frame.specs.Places.{Ctx}
use Rattle.frame.specs.Spans.{Spans}
use Rattle.typing.specs.Typing.{type_of, typed_tree}
use Rattle.heads.specs.Leaves.{LeavesAt}
use Rattle.type_rules.specs.Patterns.{own_types}
use Rattle.patterns.specs.PatternPosts.{RowAt}
use Rattle.synthesis.specs.Machine.{Answer, is, bad, Open, opened, close_up, answer_of}
use Rattle.type_rules.specs.Patterns.{Operands}
use Rattle.frame.specs.At.{IsAt}
use Rattle.frame.proofs.Extents.{some_node}
use Rattle.synthesis.specs.TypingPosts.{
  LeafAt,
  OpenPre,
  NodeOpen,
  Opening,
  tags_with,
  lefts_with,
  froms_with,
  NodePost,
  Held,
  Running,
  Ending,
  Top,
  TurnsPre,
  TurnsPost,
  TypePre,
  Typing,
  TypePost,
}
use Rattle.synthesis.specs.declared.Opened.{Opened}
use Rattle.synthesis.specs.Turns.{State, started as begun}
use Rattle.std.proofs.Common.{Option, Some, None}
use Rattle.synthesis.proofs.Machine.{machine_start}
use Rattle.synthesis.proofs.StackTurns.{leaf_of, kids_leaves, node_count}

-- tables with nothing in them, which the root is put on
none : List ℕ
none = replicate 2048 0

none_long : length none ≡ 2048
unfolding none
none_long = length-replicate {A = ℕ} 2048 0

module _ (s : List ℕ) (at place : ℕ) (leaves : List ℕ) where
  pub type_place : {types : List ℕ} → TypePre s at place leaves types → place < 2048
  type_place x = omega (arith, x.places, some_node x.tree)

  pub tree_open : {types : List ℕ} → TypePre s at place leaves types → (leaf : ℕ) → leaf ≡ get_or leaves place 0 → OpenPre s at leaf types 0
  tree_open x leaf el = record {
    sort = x.sort;
    tree = x.tree;
    to = x.to;
    Γ = x.Γ;
    stands = x.stands;
    leafs = subst (LeafAt x.tree x.Γ s) (sym el) (leaf_of s leaves x.tree x.Γ place x.leafs);
    room = omega (arith, x.buffer);
    few = omega (arith, x.places);
    low = omega arith;
  }

  ended : (types₁ : List ℕ) (v : Option ℕ) (tr : Tree) (Γ : Ctx) (b : Bool) → typed_tree tr Γ ≡ b
      → Ending v (pick b (is (type_of tr Γ)) bad) types₁ → Typing v tr Γ types₁
  ended types₁ (Some n) tr Γ true e a = let z : type_of tr Γ ≡ a.0 = cc a.1 in (e, subst (λ (u : Ty). Spans types₁ 0 n (enc_ty u)) (sym z) a.2)
  ended types₁ (Some n) tr Γ false e a = let z : ◌≡◌ {A = ℕ} 0 1 = cc a.1 in absurd (omega arith)
  ended types₁ None tr Γ true e a = let z : ◌≡◌ {A = ℕ} 0 1 = cc in absurd (omega arith)
  ended types₁ None tr Γ false e a = e

  module _ (types : List ℕ) (leaf : ℕ) (el : leaf ≡ get_or leaves place 0) (types₁ : List ℕ) (r : Option Opened)
      (np : NodePost s at leaf types 0 types₁ r) where
    -- what the opening says, at the tables with nothing in them
    abbrev Opens : Option Opened → Tree → ℕ → Ctx → Type 0
    Opens x tr q Γ = Opening x s at tr q Γ none none none 0 types 0 (tags_with x none 0) (lefts_with x none 0) (froms_with x none 0) types₁

    opening : (x : Option Opened) → r ≡ x → (e : Sort) (tr : Tree) (q : ℕ) (Γ : Ctx) → IsAt s e at tr q → LeavesAt tr Γ place s leaves → Opens x tr q Γ
    opening x er e tr q Γ w lv = subst (λ (y : Option Opened). Opens y tr q Γ) er
        ((np.opens none none none 0).answer e tr q Γ w (subst (LeafAt tr Γ s) (sym el) (leaf_of s leaves tr Γ place lv)))

    pub tree_bad : r ≡ None → TypePost s at place leaves types₁ None
    tree_bad er = record { answer = λ e tr q Γ w lv pl bf. opening None er e tr q Γ w lv }

    module _ (frame : length s ≤ 4096) (root : Opened) (er : r ≡ Some root) where
      abbrev start : State
      start = begun root (place + 1)

      abbrev t₁ : List ℕ
      t₁ = set none 0 root.node.tag

      abbrev l₁ : List ℕ
      l₁ = set none 0 root.node.left

      abbrev f₁ : List ℕ
      f₁ = set none 0 root.node.from

      started : (tr : Tree) (q : ℕ) (Γ : Ctx) → LeavesAt tr Γ place s leaves → place + nodes tr ≤ 2048 → 64 * nodes tr + 64 ≤ length types
          → NodeOpen s at tr q Γ none none none 0 types 0 t₁ l₁ f₁ types₁ root.at root.end
          → (base : ℕ) × (stop : ℕ) × (o : Open) × (ps : List Open) × Running t₁ l₁ f₁ s leaves types₁ start base stop o ps
          × (close_up o ps ≡ answer_of tr Γ)
      started tr q Γ lv pl bf nd =
          let g = nd.tag in
          let n = nd.payload in
          let us = nd.carried in
          let ls = nd.kids in
          let o₁ = opened g n us Γ [] ls in
          let own = own_types (class_of g) n us Γ in
          let zf : get_or f₁ 0 0 ≡ 0 = ap (λ (a : List ℕ). get_or a 0 0) nd.froms ∙ get_or-set_same none 0 0 0 (omega (arith, none_long)) in
          let y = ap nodes nd.is ∙ node_count g n us ls in
          let held : Held t₁ l₁ f₁ s leaves types₁ place 0 o₁ 0 root.end root.at q (place + 1) = record {
            tag = ap (λ (a : List ℕ). get_or a 0 0) nd.tags ∙ get_or-set_same none 0 g 0 (omega (arith, none_long));
            left = ap (λ (a : List ℕ). get_or a 0 0) nd.lefts ∙ get_or-set_same none 0 (count ls) 0 (omega (arith, none_long));
            row = subst₂ (λ (i : ℕ) (vs : List Ty). RowAt types₁ i root.end vs) (sym zf) (sym (append-nil own)) nd.row;
            sorts = nd.sorts;
            kids = nd.below;
            leafs = kids_leaves s leaves g n us ls Γ place (subst (λ (x : Tree). LeavesAt x Γ place s leaves) nd.is lv);
            number = nd.number;
            arity = subst (Operands (class_of g) nd.number) (omega arith) nd.arity;
            room = omega (arith, zf);
            deep = omega (arith, nd.past);
            within = nd.within;
          } in
          let run : Running t₁ l₁ f₁ s leaves types₁ start place (place + nodes tr) o₁ [] = record {
            stack = (q, held, omega (arith, y), zf);
            top = refl;
            low = omega (arith, nd.short);
            later = omega arith;
            lent = record {
              of_tags = ap length nd.tags ∙ length-set none 0 g ∙ none_long;
              of_lefts = ap length
                  nd.lefts ∙ length-set none 0 (count ls) ∙ none_long;
              of_froms = ap length
                  nd.froms ∙ length-set none 0 0 ∙ none_long;
            };
            frame = frame;
            places = pl;
            buffer = omega (arith, nd.kept.long, bf);
          } in
          (place, place + nodes tr, o₁, [], run, machine_start g n us Γ ls ∙ ap (λ (x : Tree). answer_of x Γ) (sym nd.is))

      at_root : Top root.node 0 t₁ l₁ f₁
      at_root = record {
        of_tag = get_or-set_same none 0 root.node.tag 0 (omega (arith, none_long));
        of_left = get_or-set_same none 0 root.node.left 0 (omega (arith, none_long));
        of_from = get_or-set_same none 0 root.node.from 0 (omega (arith, none_long));
      }

      pub tree_turns : TypePre s at place leaves types → TurnsPre root.node s leaves types₁ start
      tree_turns x =
          let a = started x.tree x.to x.Γ x.leafs x.places x.buffer
          (opening (Some root) er x.sort x.tree x.to x.Γ x.stands x.leafs) in
          record {
            root = refl;
            step = record {
              tags = t₁;
              lefts = l₁;
              froms = f₁;
              at_top = at_root;
              turn = record
                  { base = a.0; stop = a.1; o = a.2; ps = a.3; running = a.4 };
            };
          }

      pub tree_ends : (types₂ : List ℕ) (v : Option ℕ) → length types₂ ≡ length types → TurnsPost root.node s leaves types₁ start types₂ v
          → TypePost s at place leaves types₂ v
      tree_ends types₂ v ln tp = record {
        answer = λ e tr q Γ w lv pl bf. (
            let a = started tr q Γ lv pl (omega (arith, ln, bf)) (opening (Some root) er e tr q Γ w lv) in
            ended types₂ v tr Γ (typed_tree tr Γ) refl (subst (λ (x : Answer). Ending v x types₂) a.5
            (tp.ends t₁ l₁ f₁ a.0 a.1 a.2 a.3 at_root a.4)));
      }
