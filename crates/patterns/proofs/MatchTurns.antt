-- The ways out of `match_variable` and `match_pattern`: at each, what the code found is what `matches` says.
-- Main results: row_none .. row_type (types in a row); the laws fit_gap .. fit_other (one for each way out); the laws of Going, the
-- loop's invariant.
use Rattle.frame.proofs.ReadTypes.{ty_long}
use mathlib.Core.Path.{◌≡◌, refl, sym, ap, ◌∙◌, subst}
use mathlib.Core.Bool.{Bool, true, false}
use mathlib.Core.List.{List, [], ◌∷◌, ◌++◌, append_assoc}
use Prim.Native.Nat.{ℕ, zero, suc, ◌+◌, ◌-◌, ◌≤◌, ◌<◌}
use native.Mathlib.Omega.{arith}
use lib.ListN.{length, take, drop, get_or, length-append, take-append-drop}
use lib.Seq.{length-take-le}
use borrow.Author.Tests.{lt-ltb, le-ltb, eq-eqb, ne_eqb}
use Rattle.frame.specs.Types.{Ty, bool, int, given, pow, prod}
use Rattle.frame.specs.Encoding.{enc_ty, enc_tys}
use Rattle.frame.specs.Sameness.{same_ty}
use Rattle.frame.specs.WellFormed.{TyWf}
use Rattle.frame.specs.Spans.{Spans}
use Rattle.frame.proofs.Spans.{span_first, span_left, span_right}
use Rattle.frame.proofs.ReadTypes.{ty_prefix}
use Rattle.frame.proofs.SameTrees.{same_ty_lem}
use Rattle.typing.specs.Typing.{ty}
use Rattle.type_rules.specs.Patterns.{symbol_of, parts_of, Matched, differs, matches}
use Rattle.type_rules.specs.CodeRules.{number, numbers}
use Rattle.type_rules.specs.declared.Symbol.{Symbol}
use Rattle.heads.specs.TypeEnds.{TypeAt, EndOf}
use Rattle.results.specs.ResultPosts.{EnvAt}
use Rattle.results.proofs.FitTypes.{fit_at, fit_snoc}
use Rattle.results.specs.declared.Span.{Span}
use Rattle.patterns.specs.PatternPosts.{RowAt, MatchPre, Matching, Next, Standing, VariablePost, MatchPost}
use Rattle.std.proofs.Common.{Option, Some, None, slice_get, ◌⊎◌, inl, inr}
use Rattle.std.proofs.lemmas.List.{drop_more, at_drop_all}
use Rattle.std.proofs.lemmas.Option.{slice_get_within}
use Rattle.std.proofs.lemmas.Bool.Decides.{Decides-eqb}
use Rattle.std.proofs.lemmas.Slice.Eq.{slice_eq-Decides}
use Rattle.std.specs.Bool.{Decides}
use lib.Pointwise.{pointwise}
use Rattle.frame.proofs.Inversion.{true_not}
use lib.Dec.{eqb}
use Rattle.results.proofs.SpanLaws.{unbound, span_part}
use Rattle.typing.proofs.Same.{same_ty_of}

-- ---- types in a row
pub row_none : (types : List ℕ) (at n : ℕ) (us : List Ty) → RowAt types at n us → n ≤ at → us ≡ []
unfolding enc_tys
row_none types at n [] r h = refl
row_none types at n (t ∷ us) r h = absurd (omega (arith, r.span.long, length-append (enc_ty t) (enc_tys us), ty_long t))

pub row_some : (types : List ℕ) (at n : ℕ) (us : List Ty) → RowAt types at n us → at < n → (t : Ty) × (vs : List Ty) × (us ≡ t ∷ vs)
unfolding enc_tys
row_some types at n [] r h = absurd (omega (arith, r.span.long))
row_some types at n (t ∷ us) r h = (t, us, refl)

-- by the first of them
pub by_first : (types : List ℕ) (at n : ℕ) → at < n → (X : List Ty → Type 0)
    → ((t : Ty) (vs : List Ty) → RowAt types at n (t ∷ vs) → X (t ∷ vs)) → (us : List Ty) → RowAt types at n us → X us
by_first types at n l X f us row =
    let v = row_some types at n us row l in
    subst X (sym v.2) (f v.0 v.1 (subst (RowAt types at n) v.2 row))

-- the first of them, and the others
module _ (types : List ℕ) (at n : ℕ) (t : Ty) (us : List Ty) (r : RowAt types at n (t ∷ us)) where
  pub row_first : Spans types at (at + length (enc_ty t)) (enc_ty t)
  unfolding enc_tys
  row_first = span_left (enc_ty t) (enc_tys us) r.span

  pub row_rest : RowAt types (at + length (enc_ty t)) n us
  unfolding enc_tys
  row_rest = record { span = span_right (enc_ty t) (enc_tys us) r.span; fit = r.fit.1 }

  pub row_within : (at + length (enc_ty t) ≤ n) × (n ≤ length types)
  unfolding enc_tys
  row_within = omega (arith, r.span.long, r.span.within, length-append (enc_ty t) (enc_tys us))

  pub row_type : TypeAt types at
  row_type = record { type = t; end = at + length (enc_ty t); span = row_first }

-- a type whose first byte is a symbol of a pattern
pub fixed_row : (types : List ℕ) (at n : ℕ) (t : Ty) (us : List Ty) → RowAt types at n (t ∷ us) → (b : ℕ) → b < 5 → (b ≡ 2 → ⊥) → get_or types at 0 ≡ b
    → (b ≡ symbol_of t) × RowAt types (at + 1) n (parts_of t ++ us)
unfolding enc_ty enc_tys
fixed_row types at n bool us r b l z e = (sym e ∙ (span_first r.span).byte, record { span = (span_first r.span).rest; fit = r.fit.1 })
fixed_row types at n int us r b l z e = (sym e ∙ (span_first r.span).byte, record { span = (span_first r.span).rest; fit = r.fit.1 })
fixed_row types at n (given m) us r b l z e = absurd (z (sym e ∙ (span_first r.span).byte))
fixed_row types at n (pow t) us r b l z e = (sym e ∙ (span_first r.span).byte, record { span = (span_first r.span).rest; fit = r.fit })
fixed_row types at n (prod t u) us r b l z e = (
  sym e ∙ (span_first r.span).byte,
  record {
    span = subst (λ (xs : List ℕ). Spans types (at + 1) n xs) (append_assoc (enc_ty t) (enc_ty u) (enc_tys us)) (span_first r.span).rest;
    fit = (r.fit.0.0, (r.fit.0.1, r.fit.1));
  },
)

pub fixed_off : (types : List ℕ) (at n : ℕ) (t : Ty) (us : List Ty) → RowAt types at n (t ∷ us) → (b : ℕ) → b < 5 → (get_or types at 0 ≡ b → ⊥) → b ≡ symbol_of t → ⊥
unfolding enc_ty enc_tys
fixed_off types at n bool us r b l f e = f ((span_first r.span).byte ∙ sym e)
fixed_off types at n int us r b l f e = f ((span_first r.span).byte ∙ sym e)
fixed_off types at n (given m) us r b l f e = omega arith
fixed_off types at n (pow t) us r b l f e = f ((span_first r.span).byte ∙ sym e)
fixed_off types at n (prod t u) us r b l f e = f ((span_first r.span).byte ∙ sym e)

-- ---- what `matches` says at one symbol
module _ (b : ℕ) (ps : List ℕ) (t : Ty) (us ρ : List Ty) where
  on_fixed : b < 5 → b ≡ symbol_of t → matches (b ∷ ps) (t ∷ us) ρ ≡ matches ps (parts_of t ++ us) ρ
  unfolding matches
  on_fixed l e = rw (lt-ltb b 5 l, eq-eqb b (symbol_of t) e)

  off_fixed : b < 5 → (b ≡ symbol_of t → ⊥) → matches (b ∷ ps) (t ∷ us) ρ ≡ differs
  unfolding matches
  off_fixed l e = rw (lt-ltb b 5 l, ne_eqb b (symbol_of t) e)

  module _ (l : 5 ≤ b) (h : b < 9) where
    on_bound : b - 5 < length ρ → t ≡ ty (b - 5) ρ → matches (b ∷ ps) (t ∷ us) ρ ≡ matches ps us ρ
    unfolding matches
    on_bound k e = rw (le-ltb b 5 l, lt-ltb b 9 h, lt-ltb (b - 5) (length ρ) k, same_ty_of t (ty (b - 5) ρ) e)

    off_bound : b - 5 < length ρ → (t ≡ ty (b - 5) ρ → ⊥) → matches (b ∷ ps) (t ∷ us) ρ ≡ differs
    unfolding matches
    off_bound k e = rw (le-ltb b 5 l, lt-ltb b 9 h, lt-ltb (b - 5) (length ρ) k, not_same (same_ty t (ty (b - 5) ρ)) refl)
      where
        not_same : (x : Bool) → same_ty t (ty (b - 5) ρ) ≡ x → same_ty t (ty (b - 5) ρ) ≡ false
        not_same true z = absurd (e (same_ty_lem t (ty (b - 5) ρ) z))
        not_same false z = z

    on_new : b - 5 ≡ length ρ → matches (b ∷ ps) (t ∷ us) ρ ≡ matches ps us (ρ ++ (t ∷ []))
    unfolding matches
    on_new k = rw (le-ltb b 5 l, lt-ltb b 9 h, le-ltb (b - 5) (length ρ) (omega arith), eq-eqb (b - 5) (length ρ) k)

    off_new : length ρ < b - 5 → matches (b ∷ ps) (t ∷ us) ρ ≡ differs
    unfolding matches
    off_new k = rw (le-ltb b 5 l, lt-ltb b 9 h, le-ltb (b - 5) (length ρ) (omega arith), ne_eqb (b - 5) (length ρ) (omega arith))

-- ---- a type that stands at the start of a row is the first of the row
pub same_row : (types : List ℕ) (at n : ℕ) (t : Ty) (us : List Ty) → RowAt types at n (t ∷ us) → (u : Ty) → TyWf u → (e : ℕ) → Spans types at e (enc_ty u) → e ≤ n → t ≡ u
unfolding enc_tys
same_row types at n t us r u w e a h =
    let xs = enc_ty t ++ enc_tys us in
    let k = length (enc_ty u) in
    let l : length (take k xs) ≡ k = length-take-le k xs (omega (arith, a.long, r.span.long)) in
    let b = span_left (take k xs) (drop k xs) (subst (λ (ys : List ℕ). Spans types at n ys) (sym (take-append-drop k xs)) r.span) in
    let f : take k xs ≡ enc_ty u = sym b.bytes ∙ ap (λ (i : ℕ). take i (drop at types)) l ∙ a.bytes in
    (ty_prefix t u (enc_tys us) (drop k xs) r.fit.0 w (sym (take-append-drop k xs) ∙ ap (λ (ys : List ℕ). ys ++ drop k xs) f)).0

-- ---- the variables
ty_before : (i : ℕ) (ρ : List Ty) (t : Ty) → i < length ρ → ty i (ρ ++ (t ∷ [])) ≡ ty i ρ
ty_before i [] t h = absurd (omega arith)
ty_before zero (u ∷ ρ) t h = refl
ty_before (suc i) (u ∷ ρ) t h = ty_before i ρ t (omega arith)

ty_last : (ρ : List Ty) (t : Ty) → ty (length ρ) (ρ ++ (t ∷ [])) ≡ t
ty_last [] t = refl
ty_last (u ∷ ρ) t = ty_last ρ t

-- a span of those that are bound is an earlier one, or the last
at_snoc : (sp : List Span) (x : Span) (i : ℕ) (s : Span) → slice_get (sp ++ (x ∷ [])) i ≡ Some s
    → (slice_get sp i ≡ Some s) ⊎ ((i ≡ length sp) × (x ≡ s))
at_snoc [] x zero s e = inr (refl, cc)
at_snoc [] x (suc i) s e = cc
at_snoc (y ∷ sp) x zero s e = inl e
at_snoc (y ∷ sp) x (suc i) s e = elim (at_snoc sp x i s e) [ inl h ↦ inl h | inr h ↦ inr (ap suc h.0, h.1) ]

pub env_new : (types : List ℕ) (n : ℕ) (sp : List Span) (ρ : List Ty) → EnvAt types n sp ρ → (t : Ty) → TyWf t
    → (x : Span) → Spans types x.start x.end (enc_ty t) → x.end ≤ n → EnvAt types n (sp ++ (x ∷ [])) (ρ ++ (t ∷ []))
env_new types n sp ρ m t w x a l = record {
  count = omega (arith, m.count, length-append ρ (t ∷ []), length-append sp (x ∷ []));
  fit = fit_snoc ρ t m.fit w;
  stands = λ i s e. elim (at_snoc sp x i s e) [
    | inl h ↦ (let k = slice_get_within sp i s h in
        subst (λ (u : Ty). Spans types s.start s.end (enc_ty u) × (s.end ≤ n)) (sym (ty_before i ρ t (omega (arith, m.count)))) (m.stands i s h))
    | inr h ↦ subst (λ (y : Span). Spans types y.start y.end (enc_ty (ty i (ρ ++ (t ∷ [])))) × (y.end ≤ n)) h.1
        (subst (λ (u : Ty). Spans types x.start x.end (enc_ty u)) (sym (ap (λ (j : ℕ). ty j (ρ ++ (t ∷ []))) (h.0 ∙ sym m.count) ∙ ty_last ρ t)) a, l)
  ];
}

abbrev span : ℕ → ℕ → Span
span a b = record { start = a; end = b }

-- ---- the ways out
-- a variable, whose symbol is v + 5
module _ (v : ℕ) (h : v < 4) (types : List ℕ) (at n : ℕ) (l : at < n) (sp : List Span) where
  abbrev symbol : ℕ
  symbol = v + 5

  back_to : symbol - 5 ≡ v
  back_to = omega arith

  standing : (sp₁ : List Span) (r : Option ℕ) → ((rest : List ℕ) (t : Ty) (vs ρ : List Ty) → RowAt types at n (t ∷ vs) → EnvAt types n sp ρ
      → Standing r v rest (t ∷ vs) ρ types at n sp₁) → VariablePost v types at n sp sp₁ r
  standing sp₁ r f = record {
    answer = λ rest us ρ row env. by_first types at n l (λ vs. Standing r v rest vs ρ types at n sp₁)
        (λ t vs w. f rest t vs ρ w env) us row;
  }

  pub first_type : MatchPre types at n sp → TypeAt types at
  first_type p = by_first types at n l (λ vs. TypeAt types at) (λ t vs r. row_type types at n t vs r) p.us p.row

  module _ (none : slice_get sp v ≡ None) where
    pub fit_gap : (v ≡ length sp → ⊥) → VariablePost v types at n sp sp None
    fit_gap m =
        let k = unbound sp v none in
        standing sp None (λ rest t vs ρ row env. off_new symbol rest t vs ρ (omega arith) (omega arith) (omega (arith, env.count)))

    pub next_new : v ≡ length sp → (q : ℕ) → EndOf types at q
        → VariablePost v types at n sp (sp ++ (span at q ∷ [])) (Some q)
    next_new m q en =
        standing (sp ++ (span at q ∷ [])) (Some q) (λ rest t vs ρ row env. (
        let eq = en.is t (at + length (enc_ty t)) (row_first types at n t vs row) in
        let w = row_within types at n t vs row in (
          record {
            types_left = vs;
            bound = ρ ++ (t ∷ []);
            same = on_new symbol rest t vs ρ (omega arith) (omega arith) (omega (arith, env.count));
            row = subst (λ (x : ℕ). RowAt types x n vs) (sym eq) (row_rest types at n t vs row);
            env = env_new types n sp ρ env t row.fit.0 (span at q)
                (subst (λ (x : ℕ). Spans types at x (enc_ty t)) (sym eq) (row_first types at n t vs row)) (omega arith);
          },
          omega (arith, eq, ty_long t),
        )))

  -- a variable that is bound
  module _ (s : Span) (is : slice_get sp v ≡ Some s) where
    pub bound_span : (ρ : List Ty) → EnvAt types n sp ρ → Spans types s.start s.end (enc_ty (ty (symbol - 5) ρ)) × (s.end ≤ n)
    bound_span ρ env = subst (λ (i : ℕ). Spans types s.start s.end (enc_ty (ty i ρ)) × (s.end ≤ n)) (sym back_to) (env.stands v s is)

    abbrev len : ℕ
    len = s.end - s.start

    pub fit_long : n - at < len → VariablePost v types at n sp sp None
    fit_long q =
        let k = slice_get_within sp v s is in
        standing sp None (λ rest t vs ρ r env. off_bound symbol rest t vs ρ (omega arith) (omega arith) (omega (arith, env.count))
        (λ eq. (let a = (bound_span ρ env).0 in
        let w = row_within types at n t vs r in
        omega (arith, a.long, ap (λ (u : Ty). length (enc_ty u)) eq))))

    -- what stands in the row is compared with what the variable has
    abbrev same : Bool
    same = pointwise eqb (take (at + len - at) (drop at types)) (take len (drop s.start types))

    compared : Decides same (take (at + len - at) (drop at types) ≡ take len (drop s.start types))
    compared = slice_eq-Decides Decides-eqb _ _ same refl

    pub fit_differ : same ≡ false → VariablePost v types at n sp sp None
    fit_differ ex =
        let k = slice_get_within sp v s is in
        standing sp None (λ rest t vs ρ r env. off_bound symbol rest t vs ρ (omega arith) (omega arith) (omega (arith, env.count))
        (λ eq. (let a = (bound_span ρ env).0 in
        let z : at + length (enc_ty t) ≡ at + len = omega (arith, a.long, ap (λ (u : Ty). length (enc_ty u)) eq) in
        let f = subst (λ (i : ℕ). Spans types at i (enc_ty t)) z (row_first types at n t vs r) in
        true_not (sym ex ∙ compared.1 (span_part f ∙ ap enc_ty eq ∙ sym (span_part a))))))

    pub next_same : len ≤ n - at → same ≡ true → VariablePost v types at n sp sp (Some (at + len))
    next_same q ex =
        let k = slice_get_within sp v s is in
        standing sp (Some (at + len)) (λ rest t vs ρ r env. (
        let a = (bound_span ρ env).0 in
        let u = ty (symbol - 5) ρ in
        let l : at + len - at ≡ length (enc_ty u) = omega (arith, a.long) in
        let w = row_within types at n t vs r in
        let g : Spans types at (at + len) (enc_ty u) = record {
          long = omega (arith, a.long);
          within = omega arith;
          bytes = ap (λ (i : ℕ). take i (drop at types)) (sym l) ∙ compared.0 ex ∙ span_part a;
        } in
        let eq : t ≡ u = same_row types at n t vs r u (fit_at (symbol - 5) ρ env.fit) (at + len) g (omega arith) in
        let y : at + length (enc_ty t) ≡ at + len = omega (arith, a.long, ap (λ (u : Ty). length (enc_ty u)) eq) in (
          record {
            types_left = vs;
            bound = ρ;
            same = on_bound symbol rest t vs ρ (omega arith) (omega arith) (omega (arith, env.count)) eq;
            row = subst (λ (i : ℕ). RowAt types i n vs) y (row_rest types at n t vs r);
            env = env;
          },
          omega (arith, y, ty_long t),
        )))

module _ (types : List ℕ) (at n : ℕ) (sp : List Span) where
  pub fit_end : MatchPost [] types at n sp sp (Some tt)
  unfolding matches
  fit_end = record { answer = λ us ρ row env. (refl, env) }

  module _ (b : ℕ) (rest : List ℕ) where
    pub off : (sp₁ : List Span) → ((us ρ : List Ty) → RowAt types at n us → EnvAt types n sp ρ → matches (b ∷ rest) us ρ ≡ differs)
        → MatchPost (b ∷ rest) types at n sp sp₁ None
    off sp₁ f = record { answer = λ us ρ row env. subst (λ (m : Matched). Matching m types n sp₁ None) (sym (f us ρ row env)) refl }

    pub fit_none : n ≤ at → MatchPost (b ∷ rest) types at n sp sp None
    unfolding matches
    fit_none l = off sp (λ us ρ row env. ap (λ (vs : List Ty). matches (b ∷ rest) vs ρ) (row_none types at n us row l))

    module _ (l : at < n) where
      pub fit_other : b < 5 → (get_or types at 0 ≡ b → ⊥) → MatchPost (b ∷ rest) types at n sp sp None
      fit_other m ne =
          off sp (λ us ρ row env. by_first types at n l (λ vs. matches (b ∷ rest) vs ρ ≡ differs)
          (λ t vs r. off_fixed b rest t vs ρ m (fixed_off types at n t vs r b m ne)) us row)

      -- what goes on
      pub goes_on : (at₁ : ℕ) (sp₁ : List Span)
          → ((us ρ : List Ty) → RowAt types at n us → EnvAt types n sp ρ → Next (b ∷ rest) us ρ rest types at₁ n sp₁)
          → (sp₂ : List Span) (r : Option (Unit {0})) → MatchPost rest types at₁ n sp₁ sp₂ r → MatchPost (b ∷ rest) types at n sp sp₂ r
      goes_on at₁ sp₁ f sp₂ r after = record {
        answer = λ us ρ row env. (let x = f us ρ row env in
            subst (λ (m : Matched). Matching m types n sp₂ r) (sym x.same) (after.answer x.types_left x.bound x.row x.env));
      }

      pub next_fixed : b < 5 → (b ≡ 2 → ⊥) → get_or types at 0 ≡ b → (us ρ : List Ty) → RowAt types at n us → EnvAt types n sp ρ
          → Next (b ∷ rest) us ρ rest types (at + 1) n sp
      next_fixed m z eq us ρ row env =
          by_first types at n l (λ vs. Next (b ∷ rest) vs ρ rest types (at + 1) n sp)
          (λ t vs r. (let f = fixed_row types at n t vs r b m z eq in
          record { types_left = parts_of t ++ vs; bound = ρ; same = on_fixed b rest t vs ρ m f.0; row = f.1; env = env })) us row

-- ---- the loop of `match_pattern`: what is left, and what its end says of all
pub record Going (whole types : List ℕ) (at₀ n : ℕ) (sp₀ : List Span) (rest : List ℕ) (at : ℕ) (sp : List Span) : Type 0 where
  pub pre : MatchPre types at n sp
  pub back : (sp₁ : List Span) (r : Option (Unit {0})) → MatchPost rest types at n sp sp₁ r → MatchPost whole types at₀ n sp₀ sp₁ r

module _ (ps : List Symbol) (types : List ℕ) (at₀ n : ℕ) (sp₀ : List Span) where
  pub going_begins : MatchPre types at₀ n sp₀ → Going (numbers ps) types at₀ n sp₀ (numbers (drop 0 ps)) at₀ sp₀
  going_begins h = record { pre = h; back = λ sp₁ r x. x }

  module _ (i at : ℕ) (sp : List Span) (g : Going (numbers ps) types at₀ n sp₀ (numbers (drop i ps)) at sp) where
    pub going_done : length ps ≤ i → MatchPost (numbers ps) types at₀ n sp₀ sp (Some tt)
    going_done h = g.back sp (Some tt) (rw (at_drop_all numbers ps i h) (fit_end types at n sp))

    module _ (d : Symbol) (h : i < length ps) where
      -- what holds of a symbol and the rest after it holds of all
      pub going_ends : (sp₁ : List Span) (r : Option (Unit {0}))
          → MatchPost (number (get_or ps i d) ∷ numbers (drop (i + 1) ps)) types at n sp sp₁ r → MatchPost (numbers ps) types at₀ n sp₀ sp₁ r
      going_ends sp₁ r x = g.back sp₁ r (rw (drop_more ps i d h) x)

      pub going_next : at < n → (at₁ : ℕ) (sp₁ : List Span)
          → ((us ρ : List Ty) → RowAt types at n us → EnvAt types n sp ρ
          → Next (number (get_or ps i d) ∷ numbers (drop (i + 1) ps)) us ρ (numbers (drop (i + 1) ps)) types at₁ n sp₁)
          → Going (numbers ps) types at₀ n sp₀ (numbers (drop (i + 1) ps)) at₁ sp₁
      going_next l at₁ sp₁ f =
          let h = g.pre in
          let x = f h.us h.ρ h.row h.env in
          record {
            pre = record { us = x.types_left; ρ = x.bound; row = x.row; env = x.env };
            back = λ sp₂ r y. going_ends sp₂ r (goes_on types at n sp _ _ l at₁ sp₁ f sp₂ r y);
          }

      -- what `match_variable` answers
      module _ (l : at < n) (v : ℕ) (ev : number (get_or ps i d) ≡ v + 5) (sp₁ : List Span) (r : Option ℕ) (vp : VariablePost v types at n sp sp₁ r) where
        pub going_off : r ≡ None → MatchPost (numbers ps) types at₀ n sp₀ sp₁ None
        going_off er =
            going_ends sp₁ None (off types at n sp _ _ sp₁
            (λ us ρ row env. (let rest = numbers (drop (i + 1) ps) in
            let e = subst (λ (o : Option ℕ). Standing o v rest us ρ types at n sp₁) er (vp.answer rest us ρ row env) in
            subst (λ (b : ℕ). matches (b ∷ rest) us ρ ≡ differs) (sym ev) e)))

        pub going_variable : (q : ℕ) → r ≡ Some q → Going (numbers ps) types at₀ n sp₀ (numbers (drop (i + 1) ps)) q sp₁
        going_variable q er =
            let rest = numbers (drop (i + 1) ps) in
            going_next l q sp₁ (λ us ρ row env. (
            let e = subst (λ (o : Option ℕ). Standing o v rest us ρ types at n sp₁) er (vp.answer rest us ρ row env) in
            subst (λ (b : ℕ). Next (b ∷ rest) us ρ rest types q n sp₁) (sym ev) e.0))
