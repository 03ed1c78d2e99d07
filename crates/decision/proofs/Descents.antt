-- From the place of a node to those of its children.
-- Main results: here_child, by_child (a node's one child); here_first, here_second (either of two places); after_first_lem (the place
-- that follows a subtree is behind it); plain (a node without a number and types of its own).
use Rattle.std.proofs.Common.{Option}
use mathlib.Core.Path.{◌≡◌, sym, ap, ◌∙◌}
use mathlib.Core.List.{List, [], ◌∷◌}
use Prim.Native.Nat.{ℕ, ◌+◌, ◌<◌}
use native.Mathlib.Omega.{arith}
use lib.ListN.{get_or}
use Rattle.frame.specs.Types.{Ty}
use Rattle.frame.specs.Trees.{head, Tree, node, Forest, nil, cons}
use Rattle.frame.specs.Tags.{Sort, form_of, payload_of, types_of}
use Rattle.frame.specs.Places.{Ctx, under, found}
use Rattle.frame.proofs.Forests.{no_members}
use Rattle.nav.specs.PlaceTables.{TagPost}
use Rattle.nav.proofs.Hops.{Sorted, place_sorted, place_end}
use Rattle.nav.proofs.SamePlaces.{only_child}
use Rattle.rules.specs.Change.{Change}
use Rattle.decision.specs.Decides.{Here, HereTwo, Decides}
use Rattle.decision.specs.declared.Decision.{Decision}
use Rattle.decision.proofs.Shapes.{Takes, single}

-- the one child of the node at place k
module _ (s st nx : List ℕ) (k tag : ℕ) (pt : TagPost s st k tag) (g : ℕ) (key : tag ≡ g) (e : Sort) (tk : Takes g (e ∷ [])) where
  pub here_child : Here s st nx k → Here s st nx (k + 1)
  here_child h =
      let o = single g e tk h.v (place_sorted s h.t st h.n h.table.framed k h.Γ h.v h.there)
      (sym (pt.tag h.t h.n h.Γ h.v h.table.framed h.there) ∙ key) in
      record {
        t = h.t;
        n = h.n;
        table = h.table;
        Γ = under g o.us h.Γ;
        v = o.a;
        there = only_child h.t nx h.table.follows k h.Γ g o.n o.us o.a (h.there ∙ ap (found h.Γ) o.is);
      }

  -- a rule that goes on to it
  pub by_child : (rule : Ctx → Tree → Change) (on : Ctx → Tree → Change)
      → ((Γ : Ctx) (n : ℕ) (us : List Ty) (a : Tree) → rule Γ (node (head g n us) (cons a nil)) ≡ on (under g us Γ) a)
      → (r : Option Decision) → Decides on s st nx (k + 1) r → Decides rule s st nx k r
  by_child rule on ans r de =
      record {
        means = λ t n Γ v tb f w Ξ kept.
            let o = single g e tk v (place_sorted s t st n tb.framed k Γ v f) (sym (pt.tag t n Γ v tb.framed f) ∙ key) in
            let fa = only_child t nx tb.follows k Γ g o.n o.us o.a (f ∙ ap (found Γ) o.is) in
            rw (o.is, ans Γ o.n o.us o.a) (de.means t n (under g o.us Γ) o.a tb fa w Ξ kept);
      }

-- either of two places
pub here_first : {s st nx : List ℕ} {a b : ℕ} → HereTwo s st nx a b → Here s st nx a
here_first h = record { t = h.t; n = h.n; table = h.table; Γ = h.Γ; v = h.v; there = h.first }

pub here_second : {s st nx : List ℕ} {a b : ℕ} → HereTwo s st nx a b → Here s st nx b
here_second h = record { t = h.t; n = h.n; table = h.table; Γ = h.Γ; v = h.w; there = h.second }

-- the place that follows a subtree is behind it
pub after_first_lem : {s st nx : List ℕ} {a : ℕ} → Here s st nx a → a < get_or nx a 0
after_first_lem {s} {st} {nx} {a} h =
    omega (arith, h.table.follows.next a h.Γ h.v (omega arith) h.there, place_end h.t [] a h.Γ h.v h.there)

-- a tag that no number follows and that carries no type
abbrev pub Plain : ℕ → Type 0
Plain g = (x : ℕ) → (payload_of (form_of g).layout x ≡ 0) × (types_of (form_of g).layout (form_of g).carried x ≡ 0)

pub plain : (g : ℕ) → Plain g → (n : ℕ) (us : List Ty) (ks : Forest) → Sorted (node (head g n us) ks) → node (head g n us) ks ≡ node (head g 0 []) ks
plain g p n us ks (e, w) =
    let z : n ≡ 0 = sym w.0.own ∙ (p _).0 in
    let y : us ≡ [] = no_members us (w.0.many ∙ (p _).1) in
    rw (z, y)
