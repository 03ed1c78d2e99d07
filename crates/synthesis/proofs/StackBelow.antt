-- The stack of open nodes: what is below a write stays.
-- Main results: stack_kept, place_stop, pop_stack.
use mathlib.Core.Path.{◌≡◌, refl, sym, ap, ◌∙◌, subst}
use mathlib.Core.List.{List, [], ◌∷◌, ◌++◌, append_assoc, append-nil}
use Prim.Native.Nat.{ℕ, suc, ◌+◌, ◌≤◌, ◌<◌}
use native.Mathlib.Omega.{arith}
use lib.ListN.{length, get_or, set, length-append}
use lib.Seq.{get_or-set_other}
use Rattle.frame.specs.Types.{Ty}
use Rattle.frame.specs.Trees.{nil, count, nodes_in}
use Rattle.frame.specs.Tags.{Sort, class_of}
use Rattle.frame.specs.Encoding.{enc_ty, enc_tys}
use Rattle.frame.specs.Reading.{ok_f, read_many, read_node}
use Rattle.frame.specs.WellFormed.{TyWf}
use Rattle.frame.specs.Spans.{Spans}
use Rattle.frame.proofs.Spans.{span_join}
use Rattle.frame.proofs.Inversion.{many_inv}
use Rattle.type_rules.specs.Patterns.{own_types}
use Rattle.results.specs.ResultPosts.{Kept}
use Rattle.results.proofs.FitTypes.{fit_snoc}
use Rattle.patterns.specs.PatternPosts.{RowAt}
use Rattle.synthesis.specs.Machine.{Open, given}
use Rattle.type_rules.specs.Patterns.{Operands}
use Rattle.synthesis.specs.TypingPosts.{Held, Stack}
use Rattle.results.proofs.SpanLaws.{span_kept}

-- ---- rows and what is written above them
pub row_kept : (o p : List ℕ) (at n : ℕ) (us : List Ty) → Kept o p n → RowAt o at n us → RowAt p at n us
row_kept o p at n us k r = record { span = span_kept r.span k (omega arith); fit = r.fit }

pub row_low : (o : List ℕ) (at n : ℕ) (us : List Ty) → RowAt o at n us → at ≤ n
row_low o at n us r = omega (arith, r.span.long)

pub kept_less : (o p : List ℕ) (m n : ℕ) → m ≤ n → Kept o p n → Kept o p m
kept_less o p m n h k = record { long = k.long; low = λ j l. k.low j (omega arith) }

pub tys_snoc : (us : List Ty) (t : Ty) → enc_tys (us ++ (t ∷ [])) ≡ enc_tys us ++ enc_ty t
unfolding enc_tys
tys_snoc [] t = append-nil (enc_ty t)
tys_snoc (u ∷ us) t = ap (λ (xs : List ℕ). enc_ty u ++ xs) (tys_snoc us t) ∙ sym (append_assoc (enc_ty u) (enc_tys us) (enc_ty t))

pub row_more : (o p : List ℕ) (at n m : ℕ) (us : List Ty) (t : Ty) → Kept o p n → RowAt o at n us → Spans p n m (enc_ty t) → TyWf t
    → RowAt p at m (us ++ (t ∷ []))
row_more o p at n m us t k r a w =
    record {
      span = subst (λ (xs : List ℕ). Spans p at m xs) (sym (tys_snoc us t))
          (span_join (row_kept o p at n us k r).span a);
      fit = fit_snoc us t r.fit w;
    }

-- the types that an open node has in the buffer
abbrev pub shown : Open → List Ty
shown o = own_types (class_of o.tag) o.payload o.types o.ctx ++ o.done

-- ---- entries below
-- the tables agree up to an index
abbrev pub Agree : List ℕ → List ℕ → ℕ → Type 0
Agree a b d = (i : ℕ) → i ≤ d → get_or b i 0 ≡ get_or a i 0

pub agree_less : (a b : List ℕ) (d e : ℕ) → e ≤ d → Agree a b d → Agree a b e
agree_less a b d e h f i k = f i (omega arith)

pub agree_set : (a : List ℕ) (d j x : ℕ) → d < j → Agree a (set a j x) d
agree_set a d j x h i k = get_or-set_other a j i x 0 (omega arith)

module _ (s leaves : List ℕ) (base stop : ℕ) (t l f types t₁ l₁ f₁ types₁ : List ℕ) where
  pub held_kept : (out : ℕ) (o : Open) (d n at q k : ℕ) → get_or t₁ d 0 ≡ get_or t d 0 → get_or l₁ d 0 ≡ get_or l d 0 → get_or f₁ d 0 ≡ get_or f d 0
      → Kept types types₁ n → Held t l f s leaves types base out o d n at q k → Held t₁ l₁ f₁ s leaves types₁ base out o d n at q k
  held_kept out o d n at q k et el ef kept h = record {
    tag = et ∙ h.tag;
    left = el ∙ h.left;
    row = subst (λ (i : ℕ). RowAt types₁ i n (shown o)) (sym ef) (row_kept types types₁ (get_or f d 0) n (shown o) kept h.row);
    sorts = h.sorts;
    kids = h.kids;
    leafs = h.leafs;
    number = h.number;
    arity = h.arity;
    room = omega (arith, ef, h.room);
    deep = h.deep;
    within = h.within;
  }

  pub stack_kept : (out : ℕ) (o : Open) (ps : List Open) (n at k : ℕ) → Agree t t₁ (length ps) → Agree l l₁ (length ps)
      → Agree f f₁ (length ps) → Kept types types₁ n → Stack t l f s leaves types base stop out o ps n at k
      → Stack t₁ l₁ f₁ s leaves types₁ base stop out o ps n at k
  stack_kept out o [] n at k at₁ al af kept h = (
    h.0,
    held_kept out o 0 n at h.0 k (at₁ 0 (omega arith)) (al 0 (omega arith)) (af 0 (omega arith)) kept
        h.1,
    h.2,
    af 0 (omega arith) ∙ h.3,
  )
  stack_kept out o (p ∷ ps) n at k at₁ al af kept h =
      let d = suc (length ps) in
      let e = af d (omega arith) in
      let g = stack_kept 1 p ps (get_or f d 0) h.0 (k + nodes_in o.todo) (agree_less t t₁ d (length ps) (omega arith) at₁)
      (agree_less l l₁ d (length ps) (omega arith) al) (agree_less f f₁ d (length ps) (omega arith) af)
      (kept_less types types₁ (get_or f d 0) n (row_low types (get_or f d 0) n (shown o) h.1.row) kept) h.2 in (
        h.0,
        held_kept out o d n at h.0 k (at₁ d (omega arith)) (al d (omega arith)) e kept h.1,
        subst
            (λ (i : ℕ). Stack t₁ l₁ f₁ s leaves types₁ base stop 1 p ps i h.0 (k + nodes_in o.todo)) (sym e) g,
      )

module _ (t l f s leaves types : List ℕ) (base stop : ℕ) where
  abbrev pub St : ℕ → Open → List Open → ℕ → ℕ → ℕ → Type 0
  St out o ps n at k = Stack t l f s leaves types base stop out o ps n at k

  pub stack_top : (out : ℕ) (o : Open) (ps : List Open) (n at k : ℕ) → St out o ps n at k
      → (q : ℕ) × Held t l f s leaves types base out o (length ps) n at q k
  stack_top out o [] n at k h = (h.0, h.1)
  stack_top out o (p ∷ ps) n at k h = (h.0, h.1)

  pub place_stop : (out : ℕ) (o : Open) (ps : List Open) (n at k : ℕ) → St out o ps n at k → k + nodes_in o.todo ≤ stop
  place_stop out o [] n at k h = omega (arith, h.2)
  place_stop out o (p ∷ ps) n at k h = omega (arith, place_stop 1 p ps (get_or f (suc (length ps)) 0) h.0 (k + nodes_in o.todo) h.2)

  -- ---- closing the top
  pub kids_none : (es : List Sort) (at q g : ℕ) → read_many es (read_node g s) at ≡ ok_f nil q → q ≡ at
  unfolding read_many
  kids_none [] at q g e = cc
  kids_none (x ∷ es) at q g e =
      let v = many_inv x es (read_node g s) at nil q e in
      let i = v.is in
      let z : ◌≡◌ {A = ℕ} 0 1 = cc in absurd (omega arith)

  -- the node below, when the type u has come
  pub held_given : (types₁ : List ℕ) (p : Open) (d from m at q k : ℕ) (u : Ty) → Held t l f s leaves types base 1 p d from at q k
      → Kept types types₁ from → Spans types₁ from m (enc_ty u) → TyWf u → Held t l f s leaves types₁ base 0 (given p u) d m at q k
  held_given types₁ p d from m at q k u h kept a w =
      let own = own_types (class_of p.tag) p.payload p.types p.ctx in
      let z : 1 + length p.done + count p.todo ≡ 0 + length (p.done ++ (u ∷ [])) + count
      p.todo = omega (arith, length-append p.done (u ∷ [])) in
      record {
        tag = h.tag;
        left = h.left;
        row = subst (RowAt types₁ (get_or f d 0) m) (append_assoc own p.done (u ∷ []))
            (row_more types types₁ (get_or f d 0) from m (own ++ p.done) u kept h.row a w);
        sorts = h.sorts;
        kids = h.kids;
        leafs = h.leafs;
        number = h.number;
        arity = subst (Operands (class_of p.tag) h.number) z h.arity;
        room = h.room;
        deep = h.deep;
        within = h.within;
      }

  pub pop_stack : (types₁ : List ℕ) (p : Open) (ps : List Open) (from m at k : ℕ) (u : Ty) → St 1 p ps from at k → Kept types types₁ from
      → Spans types₁ from m (enc_ty u) → TyWf u → Stack t l f s leaves types₁ base stop 0 (given p u) ps m at k
  pop_stack types₁ p [] from m at k u h kept a w = (h.0, held_given types₁ p 0 from m at h.0 k u h.1 kept a w, h.2, h.3)
  pop_stack types₁ p (r ∷ ps) from m at k u h kept a w =
      let d = suc (length ps) in (
        h.0,
        held_given types₁ p d from m at h.0 k u h.1 kept a w,
        stack_kept s leaves base stop t l f types t l f types₁ 1 r ps (get_or f d 0) h.0 (k + nodes_in p.todo) (λ i j. refl)
            (λ i j. refl) (λ i j. refl)
            (kept_less types types₁ (get_or f d 0) from (row_low types (get_or f d 0) from (shown p) h.1.row) kept) h.2,
      )
