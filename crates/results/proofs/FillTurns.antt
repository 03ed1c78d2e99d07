-- The ways out of `fill_pattern`.
-- Main results: fill_end, fill_full, fill_fixed, fill_unbound, fill_long, fill_bound, with what the calls ask for; the laws of Going, the loop's
-- invariant; env_kept (the types of the variables).
use mathlib.Core.Path.{◌≡◌, refl, sym, ap, ◌∙◌, subst}
use mathlib.Core.Bool.{Bool, true, false, ◌&&◌, and-false}
use mathlib.Core.List.{List, [], ◌∷◌, ◌++◌, append-nil}
use Prim.Native.Nat.{ℕ, ◌+◌, ◌-◌, ◌≤◌, ◌<◌}
use native.Mathlib.Omega.{arith}
use lib.ListN.{length, get_or, set, length-append, length-set}
use lib.Seq.{get_or-set_same, get_or-set_other}
use lib.Dec.{ltb, leb}
use borrow.Author.Tests.{lt-ltb, le-ltb, le-leb, lt-leb}
use Rattle.frame.specs.Types.{Ty}
use Rattle.frame.specs.Tags.{pick}
use Rattle.frame.specs.Encoding.{enc_ty}
use Rattle.frame.specs.Spans.{Spans}
use Rattle.frame.proofs.Spans.{span_nil, span_one, span_join}
use Rattle.typing.specs.Typing.{ty}
use Rattle.type_rules.specs.Patterns.{symbol_bytes, filled, all_bound}
use Rattle.type_rules.specs.CodeRules.{number, numbers}
use Rattle.type_rules.specs.declared.Symbol.{Symbol}
use Rattle.results.specs.ResultPosts.{EnvAt, Kept, FillPre, Filling, FillPost}
use Rattle.results.specs.declared.Span.{Span}
use Rattle.results.proofs.SpanLaws.{unbound, span_part, span_kept, pasted_span, pasted_kept}
use Rattle.std.specs.List.{copy_within}
use Rattle.std.proofs.Common.{Option, Some, None, slice_get, drop}
use Rattle.std.proofs.lemmas.List.{drop_more, at_drop_all}
use Rattle.std.proofs.lemmas.Option.{slice_get_within}

filled_cons : (b : ℕ) (ps : List ℕ) (ρ : List Ty) → filled (b ∷ ps) ρ ≡ symbol_bytes b ρ ++ filled ps ρ
unfolding filled
filled_cons b [] ρ = sym (append-nil (symbol_bytes b ρ))
filled_cons b (c ∷ ps) ρ = refl

-- ---- the variables after a write above them
pub env_kept : (o p : List ℕ) (m : ℕ) (sp : List Span) (ρ : List Ty) → Kept o p m → EnvAt o m sp ρ → (k : ℕ) → m ≤ k → EnvAt p k sp ρ
env_kept o p m sp ρ kept env k h = record {
  count = env.count;
  fit = env.fit;
  stands = λ i s e. (let a = env.stands i s e in (span_kept a.0 kept a.1, omega (arith, a.1)));
}

kept_then : (o p q : List ℕ) (m n : ℕ) → m ≤ n → Kept o p m → Kept p q n → Kept o q m
kept_then o p q m n h a b = record { long = b.long ∙ a.long; low = λ j k. b.low j (omega arith) ∙ a.low j k }

-- xs has been written, and then ys is
then_fill : (t : Bool) (o p q : List ℕ) (m n : ℕ) (xs ys : List ℕ) (r : Option ℕ) → Spans p m n xs → Kept o p m → Filling t ys p n q r
    → Filling t (xs ++ ys) o m q r
then_fill true o p q m n xs ys r a kept f =
    let l = length-append xs ys in
    let z : n + length ys ≡ m + length (xs ++ ys) = omega (arith, a.long) in
    let b = span_kept a f.2 (omega arith) in
    (f.0 ∙ ap Some z, subst (λ (i : ℕ). Spans q m i (xs ++ ys)) z (span_join b f.1), kept_then o p q m n (omega (arith, a.long)) kept f.2)
then_fill false o p q m n xs ys r a kept f = f

module _ (o : List ℕ) (m limit : ℕ) (sp : List Span) (room : (m ≤ limit) × (limit ≤ length o)) where
  pub fill_end : FillPost [] o m limit sp o (Some m)
  unfolding all_bound filled
  fill_end =
      let y : m + 0 ≡ m = omega arith in
      let d : Filling true [] o m o (Some m) =
      (ap Some (sym y), subst (λ (j : ℕ). Spans o m j []) (sym y) (span_nil (omega arith)), record { long = refl; low = λ j h. refl }) in
      record {
        answer = λ ρ env. subst (λ (b : Bool). Filling b [] o m o (Some m)) (sym (le-leb (m + 0) limit (omega arith))) d;
      }

  module _ (b : ℕ) (rest : List ℕ) where
    abbrev Post : List ℕ → Option ℕ → Type 0
    Post o₁ r = FillPost (b ∷ rest) o m limit sp o₁ r

    over : ((ρ : List Ty) → EnvAt o m sp ρ → (all_bound (b ∷ rest) ρ && leb (m + length (filled (b ∷ rest) ρ)) limit) ≡ false) → Post o None
    over f = record { answer = λ ρ env. subst (λ (x : Bool). Filling x (filled (b ∷ rest) ρ) o m o None) (sym (f ρ env)) refl }

    -- too long by the bytes of this symbol
    too_long : (ρ : List Ty) → limit < m + length (symbol_bytes b ρ)
        → (all_bound (b ∷ rest) ρ && leb (m + length (filled (b ∷ rest) ρ)) limit) ≡ false
    too_long ρ l =
        let w : limit < m + length (filled (b ∷ rest) ρ) =
        omega (arith, ap length (filled_cons b rest ρ), length-append (symbol_bytes b ρ) (filled rest ρ)) in
        ap (λ (x : Bool). all_bound (b ∷ rest) ρ && x) (lt-leb _ limit w) ∙ and-false (all_bound (b ∷ rest) ρ)

    -- this symbol's bytes are written, up to n
    goes_on : (o₁ : List ℕ) (n : ℕ) → ((ρ : List Ty) → EnvAt o m sp ρ
        → Spans o₁ m n (symbol_bytes b ρ) × (pick (ltb b 5) true (ltb (b - 5) (length ρ)) ≡ true)) → Kept o o₁ m → m ≤ n
        → (q : List ℕ) (r : Option ℕ) → FillPost rest o₁ n limit sp q r → Post q r
    unfolding all_bound
    goes_on o₁ n f kept hn q r after =
        record {
          answer = λ ρ env. (
              let x = f ρ env in
              let a = after.answer ρ (env_kept o o₁ m sp ρ kept env n hn) in
              let F = symbol_bytes b ρ ++ filled rest ρ in
              let y : n + length (filled rest ρ) ≡ m + length F = omega (arith, length-append (symbol_bytes b ρ) (filled rest ρ), x.0.long) in
              let d = then_fill (all_bound rest ρ && leb (n + length (filled rest ρ)) limit) o o₁ q m n (symbol_bytes b ρ)
              (filled rest ρ) r x.0 kept a in
              subst (λ (t : Bool). Filling ((t && all_bound rest ρ) && leb (m + length (filled (b ∷ rest) ρ)) limit)
              (filled (b ∷ rest) ρ) o m q r) (sym x.1)
              (subst (λ (xs : List ℕ). Filling (all_bound rest ρ && leb (m + length xs) limit) xs o m q r) (sym (filled_cons b rest ρ))
              (subst (λ (j : ℕ). Filling (all_bound rest ρ && leb j limit) F o m q r) y d)));
        }

    -- ---- a byte
    module _ (l : b < 5) where
      fixed_bytes : (ρ : List Ty) → symbol_bytes b ρ ≡ b ∷ []
      fixed_bytes ρ = rw (lt-ltb b 5 l)

      pub fill_full : limit ≤ m → Post o None
      fill_full f = over (λ ρ env. too_long ρ (omega (arith, ap length (fixed_bytes ρ))))

      module _ (x : ℕ) (ex : x ≡ b) (f : m < limit) where
        kept_set : Kept o (set o m x) m
        kept_set = record { long = length-set o m x; low = λ j h. get_or-set_other o m j x 0 (omega arith) }

        pub fill_fixed_pre : FillPre o m limit sp → FillPre (set o m x) (m + 1) limit sp
        fill_fixed_pre h = record {
          ρ = h.ρ;
          env = env_kept o (set o m x) m sp h.ρ kept_set h.env (m + 1) (omega arith);
          room = omega (arith, length-set o m x, h.room);
        }

        pub fill_fixed : (q : List ℕ) (r : Option ℕ) → FillPost rest (set o m x) (m + 1) limit sp q r → Post q r
        fill_fixed q r fp =
            goes_on (set o m x) (m + 1)
            (λ ρ env. (
              subst (λ (xs : List ℕ). Spans (set o m x) m (m + 1) xs) (sym (fixed_bytes ρ))
                  (span_one (omega (arith, length-set o m x)) (get_or-set_same o m x 0 (omega arith) ∙ ex)),
              rw (lt-ltb b 5 l),
            ))
            kept_set (omega arith) q r fp

    -- ---- a variable
    module _ (v : ℕ) (eb : b ≡ v + 5) where
      index : b - 5 ≡ v
      index = omega arith

      variable_bytes : (ρ : List Ty) → symbol_bytes b ρ ≡ enc_ty (ty v ρ)
      variable_bytes ρ = rw (le-ltb b 5 (omega arith)) (ap (λ (i : ℕ). enc_ty (ty i ρ)) index)

      pub fill_unbound : slice_get sp v ≡ None → Post o None
      unfolding all_bound
      fill_unbound f =
          let h = unbound sp v f in
          over (λ ρ env. rw (le-ltb b 5 (omega arith), le-ltb (b - 5) (length ρ) (omega (arith, env.count))))

      module _ (s : Span) (at : slice_get sp v ≡ Some s) where
        pub slot_span : FillPre o m limit sp → (s.start ≤ s.end) × (s.end ≤ m)
        slot_span h = let a = h.env.stands v s at in omega (arith, a.0.long, a.1)

        pub fill_long : limit - m < s.end - s.start → Post o None
        fill_long f = over (λ ρ env. too_long ρ (omega (arith, ap length (variable_bytes ρ), (env.stands v s at).0.long)))

        module _ (f : s.end - s.start ≤ limit - m) where
          module _ (o₁ : List ℕ) (long : length o₁ ≡ length o) (cp : o₁ ≡ copy_within o s.start s.end m) where
            kept_copy : Kept o o₁ m
            kept_copy = pasted_kept o o₁ (drop s.start o) m (s.end - s.start) cp (omega arith) long

            pub fill_bound_pre : FillPre o m limit sp → FillPre o₁ (m + (s.end - s.start)) limit sp
            fill_bound_pre q = record {
              ρ = q.ρ;
              env = env_kept o o₁ m sp q.ρ kept_copy q.env (m + (s.end - s.start)) (omega arith);
              room = omega (arith, long, q.room);
            }

            pub fill_bound : (q : List ℕ) (r : Option ℕ) → FillPost rest o₁ (m + (s.end - s.start)) limit sp q r → Post q r
            fill_bound q r fp =
                let w = slice_get_within sp v s at in
                goes_on o₁ (m + (s.end - s.start))
                (λ ρ env. (
                  subst (λ (xs : List ℕ). Spans o₁ m (m + (s.end - s.start)) xs) (sym (variable_bytes ρ))
                      (let a = (env.stands v s at).0 in pasted_span o o₁ (drop s.start o) m (s.end - s.start) cp (omega arith) (span_part a) (omega (arith, a.long))),
                  rw (le-ltb b 5 (omega arith), lt-ltb (b - 5) (length ρ) (omega (arith, env.count))),
                ))
                kept_copy (omega arith) q r fp

-- ---- the loop: what is left, and what its end says of all
pub record Going (whole : List ℕ) (o₀ : List ℕ) (m₀ limit : ℕ) (sp : List Span) (rest : List ℕ) (o : List ℕ) (m : ℕ) : Type 0 where
  pub pre : FillPre o m limit sp
  pub size : length o ≡ length o₀
  pub back : (q : List ℕ) (r : Option ℕ) → FillPost rest o m limit sp q r → FillPost whole o₀ m₀ limit sp q r

module _ (ps : List Symbol) (o₀ : List ℕ) (m₀ limit : ℕ) (sp : List Span) where
  pub going_begins : FillPre o₀ m₀ limit sp → Going (numbers ps) o₀ m₀ limit sp (numbers (drop 0 ps)) o₀ m₀
  going_begins h = record { pre = h; size = refl; back = λ q r x. x }

  module _ (i : ℕ) (o : List ℕ) (m : ℕ) (g : Going (numbers ps) o₀ m₀ limit sp (numbers (drop i ps)) o m) where
    pub going_done : length ps ≤ i → FillPost (numbers ps) o₀ m₀ limit sp o (Some m)
    going_done h = g.back o (Some m) (rw (at_drop_all numbers ps i h) (fill_end o m limit sp g.pre.room))

    module _ (d : Symbol) (h : i < length ps) where
      -- what holds of a symbol and the rest after it holds of all
      pub going_ends : (q : List ℕ) (r : Option ℕ) → FillPost (number (get_or ps i d) ∷ numbers (drop (i + 1) ps)) o m limit sp q r
          → FillPost (numbers ps) o₀ m₀ limit sp q r
      going_ends q r x = g.back q r (rw (drop_more ps i d h) x)

      pub going_next : (o₁ : List ℕ) (m₁ : ℕ) → FillPre o₁ m₁ limit sp → length o₁ ≡ length o
          → ((q : List ℕ) (r : Option ℕ) → FillPost (numbers (drop (i + 1) ps)) o₁ m₁ limit sp q r
          → FillPost (number (get_or ps i d) ∷ numbers (drop (i + 1) ps)) o m limit sp q r)
          → Going (numbers ps) o₀ m₀ limit sp (numbers (drop (i + 1) ps)) o₁ m₁
      going_next o₁ m₁ p l f = record { pre = p; size = l ∙ g.size; back = λ q r x. going_ends q r (f q r x) }
