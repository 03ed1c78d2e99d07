-- The ways out of `build` of src/lib.rt, by the decision.
use mathlib.Core.Path.{◌≡◌, sym, ap, ◌∙◌, subst}
use Rattle.std.proofs.Common.{Option}
use mathlib.Core.List.{List}
use Prim.Native.Nat.{ℕ}
use Rattle.frame.specs.Trees.{Tree}
use Rattle.frame.specs.Encoding.{enc}
use Rattle.rules.specs.Change.{Change}
use Rattle.nav.specs.declared.Places.{Places}
use Rattle.put.proofs.Puts.{puts_as}
use Rattle.decision.specs.Decision.{FixedMeans, StandsFor, places_of}
use Rattle.decision.specs.declared.kept.KeptChild.{KeptChild}
use Rattle.decision.specs.declared.Decision.{Decision}
use Rattle.decision.specs.declared.Decision.TheVariants as D
use Rattle.filling.specs.Operands.{FillAt, FillPre, FillPost}
use Rattle.build.specs.Subtree.{BuildPre, BuildPost, OfEach, OfKept, OfApart, OfWithin, OfDecision}
use Rattle.build.proofs.SubtreeTurns.{new_is}

module _ (k : ℕ) (kept : List KeptChild) (d : Decision) (pl : Places) where
  -- what the decision stands for, said of its kind
  as_is : (x : Decision) → d ≡ x → (t : Tree) (c : Change) (w : OfDecision k kept d t c) → StandsFor t w.v w.Γ (places_of kept) x c
  as_is x e t c w = subst (λ (y : Decision). StandsFor t w.v w.Γ (places_of kept) y c) e w.means

  module _ (N : Tree → Change → Type 0) (turn : (t : Tree) (c : Change) → OfDecision k kept d t c → N t c) where
    asked : BuildPre (OfDecision k kept d) pl → BuildPre N pl
    asked p = record { t = p.t; table = p.table; held = p.held; c = p.c; means = turn p.t p.c p.means }

    answered : (o q : Option (List ℕ)) → BuildPost N pl o q
        → BuildPost (OfDecision k kept d) pl o q
    answered o q b = record { puts = λ t c p new tb h w ans. b.puts t c p new tb h (turn t c w) ans }

  module _ (place pattern first second binder : ℕ) (e : d ≡ D.Fixed place pattern first second binder) where
    fixed_of : (t : Tree) (c : Change) → OfDecision k kept d t c → FixedMeans t place pattern first second binder c
    fixed_of t c w = as_is (D.Fixed place pattern first second binder) e t c w

    fill_at : (t : Tree) (c : Change) (m : FixedMeans t place pattern first second binder c)
        → FillAt t pattern first second binder m.Δ m.a m.b m.us
    fill_at t c m = record {
      at_first = m.at_first;
      at_second = m.at_second;
      Θ = m.Θ;
      g = m.g;
      x = m.n;
      ks = m.ks;
      at_binder = m.at_binder;
      bound = m.bound;
    }

    pub fixed_asked : BuildPre (OfDecision k kept d) pl → FillPre pl pattern first second binder
    fixed_asked p =
        let m = fixed_of p.t p.c p.means in
        record { t = p.t; table = p.table; held = p.held; Δ = m.Δ; a = m.a; b = m.b; us = m.us; places = fill_at p.t p.c m }

    pub fixed_answered : (o q : Option (List ℕ)) → FillPost pl pattern first second binder o q
        → BuildPost (OfDecision k kept d) pl o q
    fixed_answered o q b =
        record {
          puts = λ t c p new tb h w ans.
              (let m = fixed_of t c w in
              puts_as o q _ _ (sym m.bytes ∙ ap enc (new_is m.new new place p (sym m.answer ∙ ans)))
              (b.puts t m.Δ m.a m.b m.us tb h (fill_at t c m)));
        }

  module _ (place at binder : ℕ) (e : d ≡ D.Each place at binder) where
    pub each_asked : BuildPre (OfDecision k kept d) pl → BuildPre (OfEach place at binder) pl
    each_asked = asked (OfEach place at binder) (λ t c w. as_is (D.Each place at binder) e t c w)

    pub each_answered : (o q : Option (List ℕ)) → BuildPost (OfEach place at binder) pl o q
        → BuildPost (OfDecision k kept d) pl o q
    each_answered = answered (OfEach place at binder) (λ t c w. as_is (D.Each place at binder) e t c w)

  module _ (e : d ≡ D.Kept) where
    of_kept : (t : Tree) (c : Change) → OfDecision k kept d t c → OfKept k kept t c
    of_kept t c w = record { v = w.v; Γ = w.Γ; there = w.there; means = as_is D.Kept e t c w; formed = w.formed }

    pub kept_asked : BuildPre (OfDecision k kept d) pl → BuildPre (OfKept k kept) pl
    kept_asked = asked (OfKept k kept) of_kept

    pub kept_answered : (o q : Option (List ℕ)) → BuildPost (OfKept k kept) pl o q → BuildPost (OfDecision k kept d) pl o q
    kept_answered = answered (OfKept k kept) of_kept

  module _ (at single : ℕ) (e : d ≡ D.Apart at single) where
    pub apart_asked : BuildPre (OfDecision k kept d) pl → BuildPre (OfApart at single) pl
    apart_asked = asked (OfApart at single) (λ t c w. as_is (D.Apart at single) e t c w)

    pub apart_answered : (o q : Option (List ℕ)) → BuildPost (OfApart at single) pl o q
        → BuildPost (OfDecision k kept d) pl o q
    apart_answered = answered (OfApart at single) (λ t c w. as_is (D.Apart at single) e t c w)

  module _ (at : ℕ) (e : d ≡ D.Within at) where
    pub within_asked : BuildPre (OfDecision k kept d) pl → BuildPre (OfWithin at) pl
    within_asked = asked (OfWithin at) (λ t c w. as_is (D.Within at) e t c w)

    pub within_answered : (o q : Option (List ℕ)) → BuildPost (OfWithin at) pl o q
        → BuildPost (OfDecision k kept d) pl o q
    within_answered = answered (OfWithin at) (λ t c w. as_is (D.Within at) e t c w)
