-- The ways out of decide_at, search and first_step of src/searching.rt, on plain values.
-- Main results: at_expression, at_decided; Searching, search_starts .. search_rests; stands_at, as_nexts, tabled, first_search ..
-- first_writes.
use mathlib.Core.Path.{◌≡◌, refl, sym, ap, ◌∙◌}
use mathlib.Core.Bool.{Bool, true, false}
use mathlib.Core.List.{List, []}
use Prim.Native.Nat.{ℕ, suc, ◌+◌, ◌-◌, ◌≤◌, ◌<◌}
use native.Mathlib.Omega.{arith}
use lib.ListN.{length}
use Rattle.std.proofs.Common.{Option, Some, None, Ok}
use Rattle.frame.specs.Trees.{Tree, nodes}
use Rattle.frame.specs.Tags.{predicate}
use Rattle.tags.proofs.FormTables.{expression_not, predicate_is}
use Rattle.frame.specs.Reading.{parse}
use Rattle.frame.specs.Spans.{Bytes}
use Rattle.frame.specs.At.{IsAt}
use Rattle.frame.specs.Places.{find, replace}
use Rattle.reading.specs.Post.{frame_answer}
use Rattle.reading.specs.declared.FrameRead.{FrameRead}
use Rattle.frame.proofs.Inversion.{true_not}
use Rattle.frame.proofs.Splices.{Stands, find_some}
use Rattle.heads.proofs.View.{parse_at}
use Rattle.typing.specs.Check.{accepted, check}
use Rattle.checking.proofs.Accepted.{accepted_parse, read_framed}
use Rattle.binding.specs.Bound.{BindingPost}
use Rattle.typing.specs.Signature.{signature}
use Rattle.typing.proofs.Checked.{check_accepts}
use Rattle.typing.proofs.Decides.{accepted_closed}
use Rattle.nav.specs.AtPlaces.{PlacesOf, SortAt}
use Rattle.nav.specs.declared.Places.{Places}
use Rattle.nav.specs.PlaceTables.{Framed, NextsPre, NextsPost, sort_of}
use Rattle.rules.specs.Change.{to, same}
use Rattle.rules.specs.Dispatch.{dispatch}
use Rattle.decision.specs.AtPlaces.{HereAt, DispatchAt}
use Rattle.decision.specs.Decision.{places_of}
use Rattle.decision.specs.declared.Decision.{Decision}
use Rattle.decision.specs.declared.kept.KeptChild.{KeptChild}
use Rattle.decision.proofs.Series.{changes}
use Rattle.filling.specs.Operands.{Held, HeldIn}
use Rattle.step.specs.Step.{Stepped, changed, unchanged, no_place, is_predicate, step_tree}
use Rattle.step.proofs.Steps.{step_predicate, step_expression}
use Rattle.build.specs.SplicePosts.{Decided, SplicePre, SplicePost}
use Rattle.run.specs.Run.{nowhere, or_next, first_from, first_step}
use Rattle.running.specs.SearchPosts.{AtPost, SearchPre, SearchPost, FirstPre, FirstPost}

-- ---- `decide_at`
module _ (p : Places) (k : ℕ) (b : Bool) (pb : SortAt p k b) where
  pub at_expression : b ≡ true → (lent : List KeptChild) → AtPost p k lent None
  at_expression e lent =
      record {
        means = λ t Γ v tb f h.
            true_not (sym (expression_not (sort_of v) (sym (pb.sort t p.count Γ v tb.framed f) ∙ e)) ∙ h);
        rests = λ t Γ v tb f h. refl;
      }

  pub at_decided : b ≡ false → (lent : List KeptChild) (r : Option Decision) → DispatchAt p k lent r → AtPost p k lent r
  at_decided e lent r pr =
      record {
        means = λ t Γ v tb f h. pr.means t p.count Γ v tb f;
        rests = λ t Γ v tb f h. true_not (sym h ∙ predicate_is (sort_of v) (sym (pb.sort t p.count Γ v tb.framed f) ∙ e));
      }

-- ---- `search`
from_more : (t : Tree) (j k : ℕ) → first_from (suc j) t k ≡ or_next (step_tree t k) (first_from j t (k + 1))
unfolding first_from
from_more t j k = refl

from_none : (t : Tree) (k : ℕ) → first_from 0 t k ≡ nowhere
unfolding first_from
from_none t k = refl

first_is : (t : Tree) → first_step t ≡ first_from (nodes t) t 0
unfolding first_step
first_is t = refl

module _ (p : Places) where
  -- no place before k has a step
  pub record Searching (k : ℕ) : Type 0 where
    pub goes : (t : Tree) → PlacesOf p t → first_step t ≡ first_from (p.count - k) t k
    pub upto : k ≤ p.count

  pub search_starts : Searching 0
  search_starts =
      record {
        goes = λ t tb. (let z : p.count - 0 ≡ nodes t = omega (arith, tb.framed.size) in first_is t ∙ ap (λ (i : ℕ). first_from i t 0) (sym z));
        upto = omega arith;
      }

  module _ (h : SearchPre p) (k : ℕ) (inside : k < p.count) where
    spot : (t : Tree) → PlacesOf p t → Stands (find t [] k)
    spot t tb = find_some t [] k (omega (arith, tb.framed.size))

    pub search_at : HereAt p k
    search_at = let x = spot h.t h.table in record { t = h.t; n = p.count; table = h.table; Γ = x.0; v = x.1; there = x.2 }

    module _ (g : Searching k) (kept : List KeptChild) (r : Option Decision) (pr : AtPost p k kept r) where
      -- what place k adds to the search
      here : (t : Tree) → PlacesOf p t → (y : Stepped) → step_tree t k ≡ y → first_step t ≡ or_next y (first_from (p.count - (k + 1)) t (k + 1))
      here t tb y e =
          let z : p.count - k ≡ suc (p.count - (k + 1)) = omega arith in
          g.goes t tb ∙ ap (λ (i : ℕ). first_from i t k) z ∙ from_more t (p.count - (k + 1)) k
          ∙ ap (λ (x : Stepped). or_next x (first_from (p.count - (k + 1)) t (k + 1))) e

      -- a decision is made at a predicate
      decided : (d : Decision) → r ≡ Some d → (t : Tree) → PlacesOf p t → Decided t k kept d
      decided d e t tb = go (is_predicate (spot t tb).1) refl
        where
          go : (b : Bool) → is_predicate (spot t tb).1 ≡ b → Decided t k kept d
          go true z =
              let x = spot t tb in
              record { Γ = x.0; v = x.1; there = x.2; is_predicate_lem = z; means = rw e at (pr.means t x.0 x.1 tb x.2 z) }
          go false z = let x : r ≡ None = pr.rests t (spot t tb).0 (spot t tb).1 tb (spot t tb).2 z in cc

      pub search_found : (d : Decision) → r ≡ Some d → SearchPost p kept (Some (k, d))
      search_found d e = record {
        finds = λ t tb. record { decided = decided d e t tb; first = λ place u z. here t tb (changed place u) z };
      }

      pub search_next : r ≡ None → Searching (k + 1)
      search_next e = record { goes = λ t tb. go t tb (is_predicate (spot t tb).1) refl; upto = omega arith }
        where
          go : (t : Tree) (tb : PlacesOf p t) (b : Bool) → is_predicate (spot t tb).1 ≡ b → first_step t ≡ first_from (p.count - (k + 1)) t (k + 1)
          go t tb true z =
              let x = spot t tb in
              here t tb unchanged (step_predicate t k x.0 x.1 x.2 z same (rw e at (pr.means t x.0 x.1 tb x.2 z)))
          go t tb false z = let x = spot t tb in here t tb no_place (step_expression t k x.0 x.1 x.2 z)

  pub search_rests : (kept : List KeptChild) (k : ℕ) → Searching k → p.count ≤ k → SearchPost p kept None
  search_rests kept k g l = record {
    finds = λ t tb. (let z : p.count - k ≡ 0 = omega arith in g.goes t tb ∙ ap (λ (i : ℕ). first_from i t k) z ∙ from_none t k);
  }

-- ---- `first_step`
module _ (s : List ℕ) (b : Bytes s) (t : Tree) (e : check s ≡ accepted t) where
  pub stands_at : IsAt s predicate 0 t (length s)
  stands_at = parse_at s b t (accepted_parse s b t e)

  module _ (f : FrameRead) (ef : Ok f ≡ frame_answer (parse s)) where
    framed_as : Framed s t f.starts f.nodes
    framed_as = read_framed s b f ef t (accepted_parse s b t e)

    pub as_nexts : (nx : List ℕ) → length nx ≡ 2048 → NextsPre s f.nodes f.starts nx
    as_nexts nx l = record { t = t; framed = framed_as; long = l }

-- p is the frame s with its tables
pub record Tabled (s : List ℕ) (p : Places) : Type 0 where
  pub of : (t : Tree) → check s ≡ accepted t → PlacesOf p t × HeldIn p t

pub tabled : (s : List ℕ) → Bytes s → (f : FrameRead) → Ok f ≡ frame_answer (parse s) → (l₀ l₁ : List ℕ) (r : Bool) → BindingPost s l₀ l₁ r
    → (nx : List ℕ) → NextsPost s f.nodes f.starts nx → (p : Places) → p.bytes.now ≡ s → p.count ≡ f.nodes → p.starts.now ≡ f.starts → p.nexts.now ≡ nx
    → p.leaves.now ≡ l₁ → Tabled s p
tabled s b f ef l₀ l₁ r pb nx pn p ez ec es en el =
    record {
      of = λ t e.
          (let framed = framed_as s b t e f ef in
          let a = check_accepts s b t e in
          let closed = accepted_closed (signature t) t [] predicate a.accepted in
          let leafs = pb.leaves (pb.answer t (stands_at s b t e) ∙ closed) t (stands_at s b t e) in
          let x : Held s f.starts l₁ f.nodes t = record { framed = framed; leafs = leafs; accepted = a.accepted } in
          (rw (ez, es, en, ec) (pn.table t framed), rw (ez, es, el, ec) x));
    }

-- the frame is accepted, and its tables are made
module _ (s : List ℕ) (p : Places) (tables : Tabled s p) where
  pub first_search : FirstPre s → SearchPre p
  first_search h = record { t = h.0; table = (tables.of h.0 h.1).0 }

  pub first_rests : (kept : List KeptChild) → SearchPost p kept None → FirstPost s None
  first_rests kept ps = record { gives = λ t e. ps.finds t (tables.of t e).0 }

  module _ (kept : List KeptChild) (k : ℕ) (d : Decision) (ps : SearchPost p kept (Some (k, d))) where
    pub first_splice : FirstPre s → SplicePre p k kept d
    first_splice h =
        let x = tables.of h.0 h.1 in
        record { t = h.0; table = x.0; held = x.1; decided = (ps.finds h.0 x.0).decided }

    pub first_writes : (q : Option (List ℕ)) → SplicePost p k kept d q → FirstPost s (Some q)
    first_writes q pw = record {
      gives = λ t e.
          (let x = tables.of t e in
          let w = ps.finds t x.0 in
          let y = w.decided in
          let c = changes t y.v y.Γ (places_of kept) d (dispatch y.Γ y.v) y.means in
          let u = replace t k c.1.0 in
          (u, w.first c.0 u (step_predicate t k y.Γ y.v y.there y.is_predicate_lem (to c.0 c.1.0) c.1.1), pw.wrote t x.0 x.1 y c.0 c.1.0 c.1.1));
    }
