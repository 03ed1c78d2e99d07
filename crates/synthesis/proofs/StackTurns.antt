-- The stack of open nodes: what a turn does to it.
-- Main results: close_pre, turn_close (the top is closed), open_pre, turn_bad, turn_open (the next operand is opened).
use mathlib.Core.Path.{◌≡◌, refl, sym, ap, ap₂, ◌∙◌, subst, subst₂, subst₃}
use mathlib.Core.Bool.{Bool, true, false}
use mathlib.Core.List.{List, [], ◌∷◌, append-nil}
use Prim.Native.Nat.{ℕ, suc, ◌+◌, ◌-◌, ◌*◌, ◌≤◌, ◌<◌}
use native.Mathlib.Omega.{arith}
use native.Mathlib.Numerals.{add-one}
use lib.ListN.{length, get_or, set, length-set}
use lib.Seq.{get_or-set_same, get_or-set_other}
use lib.Dec.{eqb}
use borrow.Author.Tests.{eq-eqb, ne_eqb}
use Rattle.frame.specs.Types.{Ty}
use Rattle.frame.specs.Trees.{head, Tree, node, Forest, nil, cons, count, nodes, nodes_in}
use Rattle.frame.specs.Tags.{pick, Sort, class_of}
use Rattle.frame.specs.Encoding.{enc_ty}
use Rattle.frame.specs.Reading.{ok, ok_f, read_many, read_node}
use Rattle.frame.specs.Places.{Ctx, under}
use Rattle.frame.specs.Spans.{Bytes, Spans}
use Rattle.frame.proofs.Inversion.{many_inv}
use Rattle.frame.proofs.ReadTrees.{node_enc}
use Rattle.frame.proofs.ReadBack.{enc_long}
use Rattle.frame.proofs.Forests.{no_kids}
use Rattle.frame.proofs.Extents.{some_node}
use Rattle.typing.specs.Typing.{result, node_typed, typed_tree}
use Rattle.heads.specs.Leaves.{LeavesAt, LeavesIn}
use Rattle.type_rules.specs.Patterns.{own_types, rule_at, Judged, typed, wrong, judge}
use Rattle.results.specs.ResultPosts.{Kept}
use Rattle.patterns.specs.PatternPosts.{RowAt, JudgePre}
use Rattle.synthesis.specs.Machine.{Answer, is, bad, Open, opened, inner, given, close_up, deliver}
use Rattle.type_rules.specs.Patterns.{Operands}
use Rattle.frame.specs.At.{IsAt, KidsAt}
use Rattle.synthesis.specs.TypingPosts.{LeafAt, OpenPre, NodeOpen, Opening, OpenPost, state_of, closed_to, Closing, ClosePost, Held, Stack, Lent, Running, TurnPre, Turning, TurnPost}
use Rattle.synthesis.specs.declared.stack.OpenNode.{OpenNode}
use Rattle.synthesis.specs.Turns.{State, Turned, descends, climbs, finishes}
use Rattle.std.proofs.Common.{Option, Some, None}
use Rattle.synthesis.specs.declared.Opened.{Opened}
use Rattle.type_rules.proofs.NodeRules.{node_judged}
use Rattle.typing.proofs.Decides.{node_typed_lem}
use Rattle.synthesis.proofs.Machine.{machine_push, machine_pop, machine_bad}
use Rattle.synthesis.proofs.OwnTurns.{type_wf}
use Rattle.synthesis.proofs.StackBelow.{row_kept, row_low, kept_less, shown, Agree, agree_set, stack_kept, stack_top, place_stop, kids_none, pop_stack}

-- ---- what the code asks for at a turn
module _ (t l f s leaves types : List ℕ) (st : State) where
  module _ (base stop : ℕ) (o : Open) (ps : List Open) (run : Running t l f s leaves types st base stop o ps) where
    pub top_held : (q : ℕ) × Held t l f s leaves types base 0 o st.top st.end st.at q st.place
    top_held =
        let h = stack_top t l f s leaves types base stop 0 o ps st.end st.at st.place run.stack in
        (h.0, subst (λ (d : ℕ). Held t l f s leaves types base 0 o d st.end st.at h.0 st.place) (sym run.top) h.1)

    pub turn_room : (st.top < 2048) × (st.end + 64 ≤ length types)
    turn_room =
        let h = top_held.1 in
        let p = place_stop t l f s leaves types base stop 0 o ps st.end st.at st.place run.stack in
        (omega (arith, h.deep, h.within, run.frame), omega (arith, run.low, run.later, run.buffer, p))

  pub close_pre : TurnPre t l f s leaves types st → JudgePre types (get_or f st.top 0) st.end
  close_pre x =
      let r = x.running in
      let h = (top_held x.base x.stop x.o x.ps r).1 in
      record { ts = _; row = h.row; room = (turn_room x.base x.stop x.o x.ps r).1 }

  -- ---- the top is closed
  module _ (types₁ : List ℕ) (bs : Bytes types₁) (r : Turned) (left : get_or l st.top 0 ≡ 0) (cp : ClosePost (get_or t st.top 0) st types (get_or f st.top 0) types₁ r) where
    closed : (base stop : ℕ) (o : Open) (ps : List Open) → Running t l f s leaves types st base stop o ps → (u : Ty) (xs : List ℕ) → xs ≡ enc_ty u → (b : Bool) → (b ≡ true → length xs ≤ 64)
        → Closing (pick b (typed xs) wrong) st types (get_or f st.top 0) types₁ r → o.todo ≡ nil
        → Turning r t l f s leaves types₁ st base stop (pick b (deliver u ps) bad)
    unfolding nodes
    closed base stop o ps run u xs ex false sh a z = subst (λ (x : Turned). Turning x t l f s leaves types₁ st base stop bad) (sym a) refl
    closed base stop o [] run u xs ex true sh a z =
        let m = get_or f st.top 0 + length xs in
        let e : get_or f st.top 0 ≡ 0 = ap (λ (d : ℕ). get_or f d 0) run.top ∙ run.stack.3 in
        let c : closed_to (eqb st.top 0) st m ≡ finishes (Some m) = ap (λ (b : Bool). closed_to b st m) (eq-eqb st.top 0 run.top) in
        subst (λ (x : Turned). Turning x t l f s leaves types₁ st base stop (is u)) (sym (a.0 ∙ c)) (u, refl, subst₂ (λ (i : ℕ) (ys : List ℕ). Spans types₁ i m ys) e ex a.1)
    closed base stop o (p ∷ ps) run u xs ex true sh a z =
        let from = get_or f st.top 0 in
        let m = from + length xs in
        let c : closed_to (eqb st.top 0) st m ≡ climbs (state_of st m) = ap (λ (b : Bool). closed_to b st m) (ne_eqb st.top 0 (omega (arith, run.top))) in
        let h = run.stack in
        let k = h.1 in
        let q : h.0 ≡ st.at = kids_none t l f s leaves types base stop k.sorts st.at h.0 k.kids.0
        (subst (λ (ks : Forest). read_many k.sorts (read_node k.kids.0 s) st.at ≡ ok_f ks h.0) z k.kids.1) in
        let y : st.place + nodes_in o.todo ≡ st.place = omega (arith, ap nodes_in z) in
        let e : get_or f (suc (length ps)) 0 ≡ from = ap (λ (d : ℕ). get_or f d 0) (sym run.top) in
        let below = subst₃ (λ (i j w : ℕ). Stack t l f s leaves types base stop 1 p ps i j w) e q y h.2 in
        let sp = subst (λ (ys : List ℕ). Spans types₁ from m ys) ex a.1 in
        let g = pop_stack t l f s leaves types base stop types₁ p ps from m st.at st.place u below a.2 sp (type_wf types₁ bs u from m sp) in
        let room : from + 64 ≤ 64 * (st.place - base) = omega (arith, e, k.room) in
        let on : Running t l f s leaves types₁ (state_of st m) base stop (given p u) ps = record {
          stack = g;
          top = omega (arith, run.top);
          low = omega (arith, room, sh refl);
          later = run.later;
          lent = run.lent;
          frame = run.frame;
          places = run.places;
          buffer = omega (arith, a.2.long, run.buffer);
        } in
        subst (λ (x : Turned). Turning x t l f s leaves types₁ st base stop (close_up (given p u) ps)) (sym (a.0 ∙ c)) (given p u, ps, on, refl, omega (arith, run.top))

    pub turn_close : TurnPost t l f s leaves types st t l f types₁ r
    turn_close = record {
      answer = λ base stop o ps run. (
          let h = (top_held base stop o ps run).1 in
          let z : o.todo ≡ nil = no_kids o.todo (sym h.left ∙ left) in
          let g = o.tag in
          let n = o.payload in
          let us = o.types in
          let Γ = o.ctx in
          let ts = o.done in
          let u = result (class_of g) n us Γ ts in
          let ar : Operands (class_of g) h.number (length ts) = subst (Operands (class_of g) h.number) (omega (arith, ap count z)) h.arity in
          let c = cp.answer (shown o) h.row in
          let c₂ = subst (λ (i : ℕ). Closing (judge (rule_at (class_of i)) (shown o)) st types (get_or f st.top 0) types₁ r) h.tag c in
          let c₃ = subst (λ (j : Judged). Closing j st types (get_or f st.top 0) types₁ r) (node_judged g n us Γ ts h.number ar) c₂ in
          subst (λ (x : Answer). Turning r t l f s leaves types₁ st base stop x)
          (sym (ap (λ (ks : Forest). close_up (opened g n us Γ ts ks) ps) z ∙ machine_pop g n us Γ ts ps))
          (closed base stop o ps run u (enc_ty u) refl (node_typed g n us Γ ts) (λ e. (node_typed_lem g n us Γ ts e).short) c₃ z));
    }

-- ---- the next operand
some_left : (ks : Forest) → (count ks ≡ 0 → ⊥) → (k : Tree) × (rest : Forest) × (ks ≡ cons k rest)
some_left nil h = absurd (h refl)
some_left (cons k ks) h = (k, ks, refl)

-- the first of some trees that stand in a row
record FirstKid (s : List ℕ) (at : ℕ) (k : Tree) (ks : Forest) (q : ℕ) : Type 0 where
  sort : Sort
  sorts : List Sort
  mid : ℕ
  tree : IsAt s sort at k mid
  rest : KidsAt s sorts mid ks q

first_kid : (s : List ℕ) (es : List Sort) (at : ℕ) (k : Tree) (ks : Forest) (q g : ℕ) → read_many es (read_node g s) at ≡ ok_f (cons k ks) q → FirstKid s at k ks q
unfolding read_many
first_kid s [] at k ks q g e = let z : ◌≡◌ {A = ℕ} 0 1 = cc in absurd (omega arith)
first_kid s (x ∷ es) at k ks q g e =
    let v = many_inv x es (read_node g s) at (cons k ks) q e in
    let i = v.is in
    let a : v.first ≡ k = cc in
    let b : v.rest ≡ ks = cc in
    record { sort = x; sorts = es; mid = v.mid; tree = (g, v.one ∙ ap (λ (y : Tree). ok y v.mid) a); rest = (g, v.others ∙ ap (λ (y : Forest). ok_f y q) b) }

tree_long : (s : List ℕ) → Bytes s → (e : Sort) (at : ℕ) (k : Tree) (mid : ℕ) → IsAt s e at k mid → (at + 2 ≤ mid) × (mid ≤ length s)
tree_long s bs e at k mid w =
    let a = node_enc w.0 s bs e at k mid w.1 in
    (omega (arith, a.long, enc_long k), a.within)

pub leaf_of : (s leaves : List ℕ) (k : Tree) (Γ : Ctx) (place : ℕ) → LeavesAt k Γ place s leaves → LeafAt k Γ s (get_or leaves place 0)
unfolding LeavesAt
leaf_of s leaves (node (head g n us) ks) Γ place h = h.0

pub kids_leaves : (s leaves : List ℕ) (g n : ℕ) (us : List Ty) (ks : Forest) (Γ : Ctx) (place : ℕ)
    → LeavesAt (node (head g n us) ks) Γ place s leaves → LeavesIn ks (under g us Γ) (place + 1) s leaves
unfolding LeavesAt
kids_leaves s leaves g n us ks Γ place h = subst (λ (i : ℕ). LeavesIn ks (under g us Γ) i s leaves) (sym (add-one place)) h.1

row_leaves : (s leaves : List ℕ) (k : Tree) (ks : Forest) (Γ : Ctx) (place : ℕ) → LeavesIn (cons k ks) Γ place s leaves
    → LeavesAt k Γ place s leaves × LeavesIn ks Γ (place + nodes k) s leaves
unfolding LeavesAt
row_leaves s leaves k ks Γ place h = (h.0, h.1)

pub node_count : (g n : ℕ) (us : List Ty) (ks : Forest) → nodes (node (head g n us) ks) ≡ nodes_in ks + 1
unfolding nodes
node_count g n us ks = sym (add-one (nodes_in ks))

row_count : (k : Tree) (ks : Forest) → nodes_in (cons k ks) ≡ nodes k + nodes_in ks
unfolding nodes
row_count k ks = refl

-- the open node without its next operand
abbrev without : Open → Forest → Open
without o ks = opened o.tag o.payload o.types o.ctx o.done ks

-- ---- what is below the node that is opened
module _ (s leaves : List ℕ) (bs : Bytes s) (base stop : ℕ) (t l f types : List ℕ) (lent : Lent t l f) (t₁ l₁ f₁ types₁ : List ℕ) (o : Open)
    (k : Tree) (ks : Forest) (z : o.todo ≡ cons k ks) (g c : ℕ) where
  module _ (d n at q place : ℕ) (h : Held t l f s leaves types base 0 o d n at q place) (dd : d < 2048)
      (et : t₁ ≡ set t (suc d) g) (el : l₁ ≡ set (set l d (get_or l d 0 - 1)) (suc d) c) (ef : f₁ ≡ set f (suc d) n) (kept : Kept types types₁ n) where
    kid : FirstKid s at k ks q
    kid = first_kid s h.sorts at k ks q h.kids.0 (subst (λ (x : Forest). read_many h.sorts (read_node h.kids.0 s) at ≡ ok_f x q) z h.kids.1)

    agree_tags : (e : ℕ) → e ≤ d → Agree t t₁ e
    agree_tags e x i y = ap (λ (a : List ℕ). get_or a i 0) et ∙ agree_set t e (suc d) g (omega arith) i y

    agree_froms : (e : ℕ) → e ≤ d → Agree f f₁ e
    agree_froms e x i y = ap (λ (a : List ℕ). get_or a i 0) ef ∙ agree_set f e (suc d) n (omega arith) i y

    agree_lefts : (e : ℕ) → e < d → Agree l l₁ e
    agree_lefts e x i y =
        ap (λ (a : List ℕ). get_or a i 0) el ∙ agree_set (set l d (get_or l d 0 - 1)) e (suc d) c (omega arith) i y ∙ agree_set l e d (get_or l d 0 - 1) x i y

    held_below : Held t₁ l₁ f₁ s leaves types₁ base 1 (without o ks) d n kid.mid q (place + nodes k)
    held_below =
        let w = tree_long s bs kid.sort at k kid.mid kid.tree in
        let lf = row_leaves s leaves k ks (inner o) place (subst (λ (x : Forest). LeavesIn x (inner o) place s leaves) z h.leafs) in
        let cnt : count o.todo ≡ suc (count ks) = ap count z in
        let num : 0 + length o.done + count o.todo ≡ 1 + length o.done + count ks = omega arith in
        let fr = agree_froms d (omega arith) d (omega arith) in
        record {
          tag = agree_tags d (omega arith) d (omega arith) ∙ h.tag;
          left = ap (λ (a : List ℕ). get_or a d 0) el ∙ get_or-set_other (set l d (get_or l d 0 - 1)) (suc d) d c 0
              (omega arith) ∙ get_or-set_same l d (get_or l d 0 - 1) 0 (omega (arith, lent.of_lefts)) ∙ omega (arith, h.left, cnt);
          row = subst (λ (i : ℕ). RowAt types₁ i n (shown o)) (sym fr) (row_kept types types₁ (get_or f d 0) n (shown o) kept h.row);
          sorts = kid.sorts;
          kids = kid.rest;
          leafs = lf.1;
          number = h.number;
          arity = subst (Operands (class_of o.tag) h.number) num h.arity;
          room = omega (arith, fr, h.room);
          deep = omega (arith, h.deep, w.0);
          within = w.1;
        }

  -- the same with all that is below it
  below_stack : (ps : List Open) (n at place : ℕ) (h : Stack t l f s leaves types base stop 0 o ps n at place) → length ps < 2048
      → t₁ ≡ set t (suc (length ps)) g → l₁ ≡ set (set l (length ps) (get_or l (length ps) 0 - 1)) (suc (length ps)) c → f₁ ≡ set f (suc (length ps)) n → Kept types types₁ n
      → (mid : ℕ) × (e : Sort) × IsAt s e at k mid × Stack t₁ l₁ f₁ s leaves types₁ base stop 1 (without o ks) ps n mid (place + nodes k)
  below_stack [] n at place h dd et el ef kept =
      let b = held_below 0 n at h.0 place h.1 dd et el ef kept in
      let j = kid 0 n at h.0 place h.1 dd et el ef kept in
      (j.mid, j.sort, j.tree, (h.0, b, omega (arith, h.2, ap nodes_in z, row_count k ks), agree_froms 0 n at h.0 place h.1 dd et el ef kept 0 (omega arith) 0 (omega arith) ∙ h.3))
  below_stack (p ∷ ps) n at place h dd et el ef kept =
      let d = suc (length ps) in
      let b = held_below d n at h.0 place h.1 dd et el ef kept in
      let j = kid d n at h.0 place h.1 dd et el ef kept in
      let fr = agree_froms d n at h.0 place h.1 dd et el ef kept d (omega arith) d (omega arith) in
      let y : place + nodes_in o.todo ≡ place + nodes k + nodes_in ks = omega (arith, ap nodes_in z, row_count k ks) in
      let rest = stack_kept s leaves base stop t l f types t₁ l₁ f₁ types₁ 1 p ps (get_or f d 0) h.0 (place + nodes_in o.todo)
      (agree_tags d n at h.0 place h.1 dd et el ef kept (length ps) (omega arith)) (agree_lefts d n at h.0 place h.1 dd et el ef kept (length ps) (omega arith))
      (agree_froms d n at h.0 place h.1 dd et el ef kept (length ps) (omega arith))
      (kept_less types types₁ (get_or f d 0) n (row_low types (get_or f d 0) n (shown o) h.1.row) kept) h.2 in
      (j.mid, j.sort, j.tree, (h.0, b, subst₂ (λ (i w : ℕ). Stack t₁ l₁ f₁ s leaves types₁ base stop 1 p ps i h.0 w) (sym fr) y rest))

abbrev pub opened_at : ℕ → ℕ → OpenNode → Opened
opened_at p m nd = record { at = p; end = m; node = nd }

-- ---- the ways out of a turn that opens a node
module _ (t l f s leaves types : List ℕ) (bs : Bytes s) (st : State) (left : get_or l st.top 0 ≡ 0 → ⊥) where
  module _ (base stop : ℕ) (o : Open) (ps : List Open) (run : Running t l f s leaves types st base stop o ps) where
    next_kid : (k : Tree) × (ks : Forest) × (o.todo ≡ cons k ks)
    next_kid = let h = (top_held t l f s leaves types st base stop o ps run).1 in some_left o.todo (λ e. left (h.left ∙ e))

    kid_at : (q : ℕ) × FirstKid s st.at next_kid.0 next_kid.1 q × LeavesAt next_kid.0 (inner o) st.place s leaves
    kid_at =
        let h = top_held t l f s leaves types st base stop o ps run in
        let z = next_kid.2 in (
          h.0,
          first_kid s h.1.sorts st.at next_kid.0 next_kid.1 h.0 h.1.kids.0
              (subst (λ (x : Forest). read_many h.1.sorts (read_node h.1.kids.0 s) st.at ≡ ok_f x h.0) z h.1.kids.1),
          (row_leaves s leaves next_kid.0 next_kid.1 (inner o) st.place (subst (λ (x : Forest). LeavesIn x (inner o) st.place s leaves) z h.1.leafs)).0,
        )

    open_room : (st.top + 1 < 2048) × (st.place < 2048)
    open_room =
        let h = (top_held t l f s leaves types st base stop o ps run).1 in
        let a = kid_at.1 in
        let w = tree_long s bs a.sort st.at next_kid.0 a.mid a.tree in
        let p = place_stop t l f s leaves types base stop 0 o ps st.end st.at st.place run.stack in
        (omega (arith, h.deep, w.0, w.1, run.frame), omega (arith, p, ap nodes_in next_kid.2, row_count next_kid.0 next_kid.1, some_node next_kid.0, run.places))

  pub turn_space : TurnPre t l f s leaves types st → (st.top + 1 < 2048) × (st.place < 2048)
  turn_space x = open_room x.base x.stop x.o x.ps x.running

  pub open_pre : TurnPre t l f s leaves types st → (leaf : ℕ) → leaf ≡ get_or leaves st.place 0 → OpenPre s st.at leaf types st.end
  open_pre x leaf el =
      let r = x.running in
      let n = next_kid x.base x.stop x.o x.ps r in
      let a = kid_at x.base x.stop x.o x.ps r in
      let p = place_stop t l f s leaves types x.base x.stop 0 x.o x.ps st.end st.at st.place r.stack in
      record {
        sort = a.1.sort;
        tree = n.0;
        to = a.1.mid;
        Γ = inner x.o;
        stands = a.1.tree;
        leafs = subst (LeafAt n.0 (inner x.o) s) (sym el) (leaf_of s leaves n.0 (inner x.o) st.place a.2);
        room = (turn_room t l f s leaves types st x.base x.stop x.o x.ps r).1;
        few = omega (arith, p, ap nodes_in n.2, row_count n.0 n.1, r.places);
        low = omega (arith, p, r.low, r.places);
      }

  module _ (leaf : ℕ) (ef : leaf ≡ get_or leaves st.place 0) (t₁ l₁ f₁ types₁ : List ℕ) (r : Option Opened)
      (op : OpenPost s st.at leaf t (set l st.top (get_or l st.top 0 - 1)) f (st.top + 1) types st.end t₁ l₁ f₁ types₁ r) where
    opening : (base stop : ℕ) (o : Open) (ps : List Open) (run : Running t l f s leaves types st base stop o ps) (e : Sort) (mid : ℕ) → IsAt s e st.at (next_kid base stop o ps run).0 mid
        → Opening r s st.at (next_kid base stop o ps run).0 mid (inner o) t (set l st.top (get_or l st.top 0 - 1)) f (st.top + 1) types st.end t₁ l₁ f₁ types₁
    opening base stop o ps run e mid w =
        let k = (next_kid base stop o ps run).0 in
        op.answer e k mid (inner o) w (subst (LeafAt k (inner o) s) (sym ef) (leaf_of s leaves k (inner o) st.place (kid_at base stop o ps run).2))

    -- an operand whose own type is too long
    bad_kid : (o : Open) (ps : List Open) (k : Tree) (ks : Forest) → o.todo ≡ cons k ks → typed_tree k (inner o) ≡ false → close_up o ps ≡ bad
    bad_kid o ps (node (head g n us) ls) ks z e = ap (λ (x : Forest). close_up (without o x) ps) z ∙ machine_bad o.tag o.payload o.types o.ctx o.done g n us ls ks ps e

    pub turn_bad : r ≡ None → TurnPost t l f s leaves types st t₁ l₁ f₁ types₁ (finishes None)
    turn_bad er = record {
      answer = λ base stop o ps run. (
          let n = next_kid base stop o ps run in
          let a = (kid_at base stop o ps run).1 in
          bad_kid o ps n.0 n.1 n.2
          (subst (λ (x : Option Opened). Opening x s st.at n.0 a.mid (inner o) t (set l st.top (get_or l st.top 0 - 1)) f
          (st.top + 1) types st.end t₁ l₁ f₁ types₁) er (opening base stop o ps run a.sort a.mid a.tree)));
    }

    module _ (p m : ℕ) (nd₁ : OpenNode) (er : r ≡ Some (opened_at p m nd₁)) where
      abbrev next : State
      next = record { at = p; place = st.place + 1; end = m; top = st.top + 1 }

      -- with the node that was opened
      with_node : (u₁ c₁ : OpenNode) (base stop : ℕ) (o : Open) (ps : List Open) (run : Running t l f s leaves types st base stop o ps)
          (k : Tree) (ks : Forest) → o.todo ≡ cons k ks → LeavesAt k (inner o) st.place s leaves → (mid : ℕ)
          → Stack t₁ l₁ f₁ s leaves types₁ base stop 1 (without o ks) ps st.end mid (st.place + nodes k)
          → NodeOpen s st.at k mid (inner o) t (set l st.top (get_or l st.top 0 - 1)) f (st.top + 1) types
          st.end t₁ l₁ f₁ types₁ p m → Turning (descends u₁ c₁ next) t₁ l₁ f₁ s leaves types₁ st base stop (close_up o ps)
      with_node u₁ c₁ base stop o ps run k ks z lv mid below nd =
          let g = nd.tag in
          let n = nd.payload in
          let us = nd.carried in
          let ls = nd.kids in
          let d = suc (length ps) in
          let o₁ = opened g n us (inner o) [] ls in
          let own = own_types (class_of g) n us (inner o) in
          let e : st.top + 1 ≡ d = omega (arith, run.top) in
          let h = (top_held t l f s leaves types st base stop o ps run).1 in
          let sp = open_room base stop o ps run in
          let zt : get_or t₁ d 0 ≡ g = ap (λ (a : List ℕ). get_or a d 0) (nd.tags ∙ ap (λ (i : ℕ). set t i g) e) ∙ get_or-set_same t d g 0 (omega (arith, run.lent.of_tags, sp.0)) in
          let l₀ = set l st.top (get_or l st.top 0 - 1) in
          let zl : get_or l₁ d 0 ≡ count ls = ap (λ (a : List ℕ). get_or a d 0)
          (nd.lefts ∙ ap (λ (i : ℕ). set l₀ i (count ls)) e) ∙ get_or-set_same l₀ d (count ls) 0
          (omega (arith, length-set l st.top (get_or l st.top 0 - 1), run.lent.of_lefts, sp.0)) in
          let zf : get_or f₁ d 0 ≡ st.end = ap (λ (a : List ℕ). get_or a d 0)
          (nd.froms ∙ ap (λ (i : ℕ). set f i st.end) e) ∙ get_or-set_same f d st.end 0
          (omega (arith, run.lent.of_froms, sp.0)) in
          let held : Held t₁ l₁ f₁ s leaves types₁ base 0 o₁ d m p mid (st.place + 1) = record {
            tag = zt;
            left = zl;
            row = subst₂ (λ (i : ℕ) (vs : List Ty). RowAt types₁ i m vs) (sym zf) (sym (append-nil own)) nd.row;
            sorts = nd.sorts;
            kids = nd.below;
            leafs = kids_leaves s leaves g n us ls (inner o) st.place (subst (λ (x : Tree). LeavesAt x (inner o) st.place s leaves) nd.is lv);
            number = nd.number;
            arity = subst (Operands (class_of g) nd.number) (omega arith) nd.arity;
            room = omega (arith, zf, run.low, run.later);
            deep = omega (arith, h.deep, run.top, nd.past);
            within = nd.within;
          } in
          let y : st.place + nodes k ≡ st.place + 1 + nodes_in ls = omega (arith, ap nodes nd.is, node_count g n us ls) in
          let low = subst₂ (λ (i w : ℕ). Stack t₁ l₁ f₁ s leaves types₁ base stop 1 (without o ks) ps i mid w) (sym zf) y below in
          let lent : Lent t₁ l₁ f₁ = record {
            of_tags = ap length nd.tags ∙ length-set t (st.top + 1) g ∙ run.lent.of_tags;
            of_lefts = ap length nd.lefts ∙ length-set l₀ (st.top + 1) (count ls) ∙ length-set l st.top (get_or l st.top 0 - 1) ∙ run.lent.of_lefts;
            of_froms = ap length nd.froms ∙ length-set f (st.top + 1) st.end ∙ run.lent.of_froms;
          } in
          let on : Running t₁ l₁ f₁ s leaves types₁ next base stop o₁ (without o ks ∷ ps) = record {
            stack = (mid, held, low);
            top = e;
            low = omega (arith, nd.short, run.low, run.later);
            later = omega (arith, run.later);
            lent = lent;
            frame = run.frame;
            places = run.places;
            buffer = omega (arith, nd.kept.long, run.buffer);
          } in
          let same = sym (ap (λ (x : Forest). close_up (without o x) ps) (z ∙ ap (λ (x : Tree). cons x ks) nd.is) ∙ machine_push o.tag
          o.payload o.types o.ctx o.done g n us ls ks ps) in
          (o₁, without o ks ∷ ps, on, same, omega (arith, nd.past, nd.within))

      made : (base stop : ℕ) (o : Open) (ps : List Open) (run : Running t l f s leaves types st base stop o ps) (e : Sort) (mid : ℕ) → IsAt s e st.at (next_kid base stop o ps run).0 mid
          → NodeOpen s st.at (next_kid base stop o ps run).0 mid (inner o) t (set l st.top (get_or l st.top 0 - 1)) f (st.top + 1) types st.end t₁ l₁ f₁ types₁ p m
      made base stop o ps run e mid w =
          subst (λ (x : Option Opened). Opening x s st.at (next_kid base stop o ps run).0 mid (inner o) t
          (set l st.top (get_or l st.top 0 - 1)) f (st.top + 1) types st.end t₁ l₁ f₁ types₁) er
          (opening base stop o ps run e mid w)

      pub turn_open : (u₁ c₁ : OpenNode) → TurnPost t l f s leaves types st t₁ l₁ f₁ types₁ (descends u₁ c₁ next)
      turn_open u₁ c₁ = record {
        answer = λ base stop o ps run. (
            let k = next_kid base stop o ps run in
            let a = kid_at base stop o ps run in
            let nd = made base stop o ps run a.1.sort a.1.mid a.1.tree in
            let e : st.top + 1 ≡ suc (length ps) = omega (arith, run.top) in
            let b = below_stack s leaves bs base stop t l f types run.lent t₁ l₁ f₁ types₁ o k.0 k.1 k.2 nd.tag
            (count nd.kids) ps st.end st.at st.place run.stack
            (omega (arith, run.top, (open_room base stop o ps run).0))
            (nd.tags ∙ ap (λ (i : ℕ). set t i nd.tag) e)
            (nd.lefts ∙ ap₂ (λ (i j : ℕ). set (set l i (get_or l i 0 - 1)) j (count nd.kids)) run.top e)
            (nd.froms ∙ ap (λ (i : ℕ). set f i st.end) e) nd.kept in
            with_node u₁ c₁ base stop o ps run k.0 k.1 k.2 a.2 b.0 b.3 (made base stop o ps run b.1 b.0 b.2));
      }

-- ---- what was found at numbers and tables that are others by equations
pub close_as : {a b : ℕ} {st : State} {o : List ℕ} {c d : ℕ} {p : List ℕ} {r : Turned} → a ≡ b → c ≡ d → ClosePost a st o c p r → ClosePost b st o d p r
close_as {st} {o} {p} {r} x y z = subst₂ (λ (i j : ℕ). ClosePost i st o j p r) x y z

pub judge_as : {o : List ℕ} {c d n : ℕ} → c ≡ d → JudgePre o d n → JudgePre o c n
judge_as {o} {n} x z = subst (λ (i : ℕ). JudgePre o i n) (sym x) z
