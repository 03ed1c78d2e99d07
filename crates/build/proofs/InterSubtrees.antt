-- The ways out of build_apart and build_within of src/lib.rt.
-- Main results: apart_placed .. apart_built, within_placed .. within_built.
use mathlib.Core.Path.{◌≡◌, refl, sym, ap, ◌∙◌}
use mathlib.Core.Bool.{true, false}
use mathlib.Core.List.{List, [], ◌∷◌, ◌++◌, append_assoc, append-nil}
use Prim.Native.Nat.{ℕ, suc, ◌+◌, ◌-◌, ◌≤◌, ◌<◌}
use native.Mathlib.Omega.{arith}
use lib.Dec.{eqb}
use borrow.Author.Tests.{eq-eqb, ne_eqb}
use Rattle.frame.specs.Types.{Ty}
use Rattle.frame.specs.Trees.{head, Tree, node, Forest, nil, cons, count, nodes, nodes_in, one, two, many, sole, pair, append}
use Rattle.frame.specs.Tags.{Sort, these, form_of, lookup, class_of, form_at}
use Rattle.frame.specs.Operators.{#SetExt, #In, #SubsetEq, #BUnion, #BInter, #Not}
use Rattle.frame.specs.Encoding.{enc_number, enc, encs}
use Rattle.frame.specs.Places.{Ctx, under, found, find}
use Rattle.frame.proofs.Splices.{find_lt}
use Rattle.frame.proofs.Within.{KidsAtPlace, kids_of_lem, kid_first, kid_next}
use Rattle.frame.proofs.Forests.{count_append, encs_append}
use Rattle.frame.proofs.Extents.{some_node}
use Rattle.std.proofs.Common.{Option}
use Rattle.nav.specs.declared.Places.{Places}
use Rattle.nav.specs.AtPlaces.{PlacesOf, AtPlace, InTables, ArityAt}
use Rattle.nav.proofs.Hops.{place_sorted}
use Rattle.nav.proofs.SamePlaces.{only_child}
use Rattle.rules.specs.Change.{Change, joined}
use Rattle.rules.specs.EqualsEmptySet.{minus_of, minuend, with_subtrahend, minuends, subtrahends}
use Rattle.put.specs.Out.{Puts}
use Rattle.put.proofs.Puts.{puts_then, puts_as}
use Rattle.templates.proofs.Joins.{plain_bytes, inter_bytes, union_bytes}
use Rattle.decision.specs.Decision.{ApartMeans}
use Rattle.decision.proofs.Shapes.{Counts, few_of, some_two, place_few}
use Rattle.build.specs.Rows.{CopyPost, row_of, minuend_bytes, subtrahend_bytes, Shares, RowPre, RowPost, MinusRowPost}
use Rattle.build.specs.Subtree.{joined_bytes, BuildPre, BuildPost, OfApart, OfWithin}
use Rattle.build.proofs.RowTurns.{besides}
use Rattle.build.proofs.SubtreeTurns.{many_then, new_is}

-- ---- an ∩ has from 2 to 255 operands
inter_counts : Counts #BInter
unfolding lookup class_of form_at
inter_counts n us m = refl

module _ (pl : Places) (t : Tree) (tb : PlacesOf pl t) (at : ℕ) (Ξ : Ctx) (x : ℕ) (vs : List Ty) (ks : Forest)
    (f : find t [] at ≡ found Ξ (node (head #BInter x vs) ks)) where
  inter_few : (2 ≤ count ks) × (count ks ≤ 255)
  inter_few =
      let o = place_sorted pl.bytes.now t pl.starts.now pl.count tb.framed at Ξ (node (head #BInter x vs) ks) f in
      (some_two #BInter inter_counts x vs ks o, few_of #BInter inter_counts x vs ks o)

  inter_row : KidsAtPlace t [] (at + 1) (under #BInter vs Ξ) ks
  inter_row = kids_of_lem t [] at Ξ #BInter x vs ks f

  inter_pre : RowPre pl at
  inter_pre = record { t = t; table = tb; Γ = Ξ; g = #BInter; x = x; us = vs; ks = ks; there = f }

  inter_placed : AtPlace pl at
  inter_placed = record { t = t; n = pl.count; framed = tb.framed; below = find_lt t [] at _ _ f }

  module _ (m : ℕ) (pm : ArityAt pl at m) where
    inter_count : m ≡ count ks
    inter_count = pm.many t pl.count Ξ (node (head #BInter x vs) ks) tb.framed f

    inter_many : (2 ≤ m) × (m ≤ 255)
    inter_many = (omega (arith, inter_count, inter_few.0), omega (arith, inter_count, inter_few.1))

-- ---- a tree of operators over lists as bytes
-- one operand stands alone
joined_bytes_lem : (g : ℕ) → ((ks : Forest) → enc (many g ks) ≡ enc_number 2 g ++ (count ks ∷ encs ks)) → (ks : Forest)
    → enc (joined g ks) ≡ joined_bytes g (count ks) ++ encs ks
unfolding enc
joined_bytes_lem g h nil = h nil ∙ sym (many_then g 0 [])
joined_bytes_lem g h (cons a nil) = sym (append-nil (enc a))
joined_bytes_lem g h (cons a (cons b ks)) =
    let l : Forest = cons a (cons b ks) in
    let z : eqb (count l) 1 ≡ false = ne_eqb (count l) 1 (λ e. omega arith) in
    h l ∙ sym (many_then g (count l) (encs l)) ∙ rw z refl

not_bytes : (a : Tree) → enc (one #Not a) ≡ enc_number 2 #Not ++ enc a
unfolding lookup class_of form_at enc
not_bytes a = plain_bytes #Not (sole a) _ refl ∙ ap (λ (l : List ℕ). enc_number 2 #Not ++ l) (append-nil (enc a))

two_bytes : (g : ℕ) (es : List Sort) → (form_of g).layout ≡ these es → (a b : Tree) → enc (two g a b) ≡ enc_number 2 g ++ (enc a ++ enc b)
unfolding enc
two_bytes g es h a b = plain_bytes g (pair a b) es h ∙ ap (λ (l : List ℕ). enc_number 2 g ++ (enc a ++ l)) (append-nil (enc b))

-- ---- rows as trees
-- no child before or behind place k is at it
row_before : (k c : ℕ) (left right : Forest) → c + nodes_in left ≤ k
    → row_of (besides k) c (append left right) ≡ encs left ++ row_of (besides k) (c + nodes_in left) right
unfolding row_of enc nodes
row_before k c nil right h = let z : c + 0 ≡ c = omega arith in rw z refl
row_before k c (cons w left) right h =
    let a = some_node w in
    let z : eqb c k ≡ false = ne_eqb c k (λ e. omega arith) in
    let y : c + nodes w + nodes_in left ≡ c + (nodes w + nodes_in left) = omega arith in
    rw z (ap (λ (l : List ℕ). enc w ++ l) (row_before k (c + nodes w) left right (omega arith) ∙ ap
    (λ (i : ℕ). encs left ++ row_of (besides k) i right) y) ∙ sym
    (append_assoc (enc w) (encs left) (row_of (besides k) (c + (nodes w + nodes_in left)) right)))

row_behind : (k c : ℕ) (right : Forest) → k < c → row_of (besides k) c right ≡ encs right
unfolding row_of enc
row_behind k c nil h = refl
row_behind k c (cons w right) h =
    let z : eqb c k ≡ false = ne_eqb c k (λ e. omega arith) in
    rw z (ap (λ (l : List ℕ). enc w ++ l) (row_behind k (c + nodes w) right (omega arith)))

-- all but the one at place k
row_besides : (k c : ℕ) (left : Forest) (w : Tree) (right : Forest) → k ≡ c + nodes_in left
    → row_of (besides k) c (append left (cons w right)) ≡ encs (append left right)
unfolding row_of
row_besides k c left w right e =
    let a = some_node w in
    let z : eqb (c + nodes_in left) k ≡ true = eq-eqb (c + nodes_in left) k (sym e) in
    row_before k c left (cons w right) (omega arith) ∙ rw z
    (ap (λ (l : List ℕ). encs left ++ l) (row_behind k (c + nodes_in left + nodes w) right (omega arith)) ∙ sym (encs_append left right))

row_minuends : (c : ℕ) (ks : Forest) → row_of minuend_bytes c ks ≡ encs (minuends ks)
unfolding row_of minuends enc
row_minuends c nil = refl
row_minuends c (cons w ks) = ap (λ (l : List ℕ). enc (minuend (minus_of w)) ++ l) (row_minuends (c + nodes w) ks)

count_minuends : (ks : Forest) → count (minuends ks) ≡ count ks
unfolding minuends
count_minuends nil = refl
count_minuends (cons w ks) = ap suc (count_minuends ks)

with_bytes : (m : Rattle.rules.specs.EqualsEmptySet.Minus) (bs : Forest) → encs (with_subtrahend m nil) ++ encs bs ≡ encs (with_subtrahend m bs)
unfolding enc
with_bytes (Rattle.rules.specs.EqualsEmptySet.minus a b) bs = ap (λ (l : List ℕ). l ++ encs bs) (append-nil (enc b))
with_bytes (Rattle.rules.specs.EqualsEmptySet.whole t) bs = refl

one_subtrahend : (m : Rattle.rules.specs.EqualsEmptySet.Minus) (ks : Forest) → count (with_subtrahend m ks) ≤ suc (count ks)
one_subtrahend (Rattle.rules.specs.EqualsEmptySet.minus a b) ks = omega arith
one_subtrahend (Rattle.rules.specs.EqualsEmptySet.whole t) ks = omega arith

few_subtrahends : (ks : Forest) → count (subtrahends ks) ≤ count ks
unfolding subtrahends
few_subtrahends nil = omega arith
few_subtrahends (cons w ks) = omega (arith, few_subtrahends ks, one_subtrahend (minus_of w) (subtrahends ks))

row_subtrahends : (c : ℕ) (ks : Forest) → row_of subtrahend_bytes c ks ≡ encs (subtrahends ks)
unfolding row_of subtrahends enc
row_subtrahends c nil = refl
row_subtrahends c (cons w ks) =
    ap (λ (l : List ℕ). encs (with_subtrahend (minus_of w) nil) ++ l) (row_subtrahends (c + nodes w) ks) ∙ with_bytes (minus_of w) (subtrahends ks)

-- ---- build_apart
-- the operand at a place of a row
row_at : (t : Tree) (c : ℕ) (Γ : Ctx) (left : Forest) (w : Tree) (right : Forest) → KidsAtPlace t [] c Γ (append left (cons w right))
    → find t [] (c + nodes_in left) ≡ found Γ w
unfolding nodes
row_at t c Γ nil w right r = let z : c + 0 ≡ c = omega arith in ap (find t []) z ∙ kid_first t [] c Γ w right r
row_at t c Γ (cons v left) w right r =
    let z : c + (nodes v + nodes_in left) ≡ c + nodes v + nodes_in left = omega arith in
    ap (find t []) z ∙ row_at t (c + nodes v) Γ left w right (kid_next t [] c Γ v (append left (cons w right)) r)

module _ (at single : ℕ) (pl : Places) where
  abbrev operands : (t : Tree) (c : Change) → ApartMeans t at single c → Forest
  operands t c w = append w.left (cons (many #SetExt (sole w.a)) w.right)

  member_at : (t : Tree) (c : Change) → PlacesOf pl t → (w : ApartMeans t at single c)
      → (find t [] single ≡ found (under #BInter w.vs w.Ξ) (many #SetExt (sole w.a)))
      × (find t [] (single + 1) ≡ found (under #SetExt [] (under #BInter w.vs w.Ξ)) w.a)
  member_at t c tb w =
      let r = inter_row pl t tb at w.Ξ w.n w.vs (operands t c w) w.at_node in
      let f = row_at t (at + 1) (under #BInter w.vs w.Ξ) w.left (many #SetExt (sole w.a)) w.right r in
      let g : find t [] single ≡ found (under #BInter w.vs w.Ξ) (many #SetExt (sole w.a)) = ap (find t []) w.there ∙ f in
      (g, only_child t pl.nexts.now tb.follows single (under #BInter w.vs w.Ξ) #SetExt 0 [] w.a g)

  pub apart_placed : BuildPre (OfApart at single) pl → AtPlace pl at
  apart_placed p = inter_placed pl p.t p.table at _ _ _ _ p.means.at_node

  pub apart_few : BuildPre (OfApart at single) pl → (at < 2048) × (single < 2048)
  apart_few p = (place_few p.table p.means.at_node, place_few p.table (member_at p.t p.c p.table p.means).0)

  pub apart_row : BuildPre (OfApart at single) pl → RowPre pl at
  apart_row p = inter_pre pl p.t p.table at _ _ _ _ p.means.at_node

  pub apart_member : BuildPre (OfApart at single) pl → InTables pl (single + 1)
  apart_member p = record {
    t = p.t;
    table = p.table;
    below = find_lt p.t [] (single + 1) _ _
        (member_at p.t p.c p.table p.means).1;
  }

  module _ (m : ℕ) (pm : ArityAt pl at m) where
    pub apart_many : BuildPre (OfApart at single) pl → (2 ≤ m) × (m ≤ 255)
    apart_many p = inter_many pl p.t p.table at _ _ _ _ p.means.at_node m pm

    pub apart_built : (o₀ o₁ : Option (List ℕ)) → Puts o₀ o₁ (enc_number 2 #Not) → (o₂ : Option (List ℕ))
        → Puts o₁ o₂ (enc_number 2 #In) → (o₃ : Option (List ℕ)) → CopyPost pl (single + 1) o₂ o₃ → (o₄ : Option (List ℕ))
        → Puts o₃ o₄ (joined_bytes #BInter (m - 1)) → (o₅ : Option (List ℕ))
        → (gives : ℕ → Option ℕ → Type 0) → Shares gives pl (besides single) → RowPost gives pl at o₄ o₅ → BuildPost (OfApart at single) pl o₀ o₅
    unfolding lookup class_of form_at
    apart_built o₀ o₁ h₁ o₂ h₂ o₃ h₃ o₄ h₄ o₅ gives s h₅ =
        record {
          puts = λ t c p new tb h w ans.
              (let rest : Forest = append w.left w.right in
              let b : Tree = joined #BInter rest in
              let y = ap enc (new_is (one #Not (two #In w.a b)) new 37 p (sym w.answer ∙ ans)) in
              let e = inter_count pl t tb at w.Ξ w.n w.vs (operands t c w) w.at_node m pm in
              let x₃ = h₃.puts t _ w.a tb (member_at t c tb w).1 in
              let x₅ = puts_as o₄ o₅ _ _ (row_besides single (at + 1) w.left (many #SetExt (sole w.a)) w.right w.there)
              (h₅.puts (besides single) s t w.Ξ #BInter w.n w.vs (operands t c w) tb w.at_node) in
              let z : m - 1 ≡ count rest = omega (
                arith,
                count_append w.left
                    (cons (many #SetExt (sole w.a)) w.right),
                count_append w.left w.right,
              ) in
              let x₄ = puts_as o₃ o₄ _ _ (ap (joined_bytes #BInter) z) h₄ in
              let x = puts_then o₀ o₁ o₅ _ _ h₁ (puts_then o₁ o₂ o₅ _ _ h₂
              (puts_then o₂ o₃ o₅ _ _ x₃ (puts_then o₃ o₄ o₅ _ _ x₄ x₅))) in
              puts_as o₀ o₅ _ _ (sym (not_bytes (two #In w.a b) ∙ ap (λ (l : List ℕ). enc_number 2 #Not ++ l)
              (two_bytes #In _ refl w.a b ∙ ap (λ (l : List ℕ). enc_number 2 #In ++ (enc w.a ++ l))
              (joined_bytes_lem #BInter inter_bytes rest))) ∙ y) x);
        }

-- ---- build_within
module _ (at : ℕ) (pl : Places) where
  pub within_placed : BuildPre (OfWithin at) pl → AtPlace pl at
  within_placed p = inter_placed pl p.t p.table at _ _ _ _ p.means.at_node

  pub within_row : BuildPre (OfWithin at) pl → RowPre pl at
  within_row p = inter_pre pl p.t p.table at _ _ _ _ p.means.at_node

  module _ (m : ℕ) (pm : ArityAt pl at m) where
    pub within_many : BuildPre (OfWithin at) pl → m ≤ 255
    within_many p = (inter_many pl p.t p.table at _ _ _ _ p.means.at_node m pm).1

    -- no more sets are subtracted than there are operands
    pub within_minus : BuildPre (OfWithin at) pl → (d : ℕ) → MinusRowPost pl at d → d ≤ 255
    within_minus p d pd =
        let w = p.means in
        omega (arith, pd.counts p.t w.Ξ #BInter w.n w.vs w.ks p.table w.at_node, few_subtrahends w.ks, (inter_few pl p.t p.table at w.Ξ w.n w.vs w.ks w.at_node).1)

    pub within_built : (o₀ o₁ : Option (List ℕ)) → Puts o₀ o₁ (enc_number 2 #SubsetEq) → (o₂ : Option (List ℕ))
        → Puts o₁ o₂ (joined_bytes #BInter m) → (o₃ : Option (List ℕ)) → (lefts : ℕ → Option ℕ → Type 0)
        → Shares lefts pl minuend_bytes → RowPost lefts pl at o₂ o₃ → (d : ℕ)
        → MinusRowPost pl at d → (o₄ : Option (List ℕ)) → Puts o₃ o₄ (joined_bytes #BUnion d) → (o₅ : Option (List ℕ))
        → (rights : ℕ → Option ℕ → Type 0) → Shares rights pl subtrahend_bytes → RowPost rights pl at o₄ o₅ → BuildPost (OfWithin at) pl o₀ o₅
    unfolding lookup class_of form_at
    within_built o₀ o₁ h₁ o₂ h₂ o₃ lefts s₃ h₃ d pd o₄ h₄ o₅ rights s₅ h₅ =
        record {
          puts = λ t c p new tb h w ans.
              (let ks = w.ks in
              let a : Tree = joined #BInter (minuends ks) in
              let b : Tree = joined #BUnion (subtrahends ks) in
              let y = ap enc (new_is (two #SubsetEq a b) new 38 p (sym w.answer ∙ ans)) in
              let e = inter_count pl t tb at w.Ξ w.n w.vs ks w.at_node m pm in
              let x₂ = puts_as o₁ o₂ _ _ (ap (joined_bytes #BInter) (e ∙ sym (count_minuends ks))) h₂ in
              let x₃ = puts_as o₂ o₃ _ _ (row_minuends (at + 1) ks) (h₃.puts minuend_bytes s₃ t w.Ξ #BInter w.n w.vs ks tb w.at_node) in
              let x₄ = puts_as o₃ o₄ _ _ (ap (joined_bytes #BUnion) (pd.counts t w.Ξ #BInter w.n w.vs ks tb w.at_node)) h₄ in
              let x₅ = puts_as o₄ o₅ _ _ (row_subtrahends (at + 1) ks) (h₅.puts subtrahend_bytes s₅ t w.Ξ #BInter w.n w.vs ks tb w.at_node) in
              let first = puts_as o₁ o₃ _ _ (sym (joined_bytes_lem #BInter inter_bytes (minuends ks))) (puts_then o₁ o₂ o₃ _ _ x₂ x₃) in
              let second = puts_as o₃ o₅ _ _ (sym (joined_bytes_lem #BUnion union_bytes (subtrahends ks)))
              (puts_then o₃ o₄ o₅ _ _ x₄ x₅) in
              puts_as o₀ o₅ _ _ (sym (two_bytes #SubsetEq _ refl a b) ∙ y)
              (puts_then o₀ o₁ o₅ _ _ h₁ (puts_then o₁ o₃ o₅ _ _ first second)));
        }
