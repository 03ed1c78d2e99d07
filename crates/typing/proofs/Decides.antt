-- `check` decides what it is to be accepted: numbers 8, 9 and 10 of a well formed tree.
-- Main results: tests_accepted (general form), check_accepted, accepted_check, accepted_wf.
use mathlib.Core.Path.{◌≡◌, refl}
use mathlib.Core.Bool.{Bool, true, false, ◌&&◌}
use mathlib.Core.List.{List, [], ◌∷◌}
use Prim.Native.Nat.{ℕ, ◌≤◌}
use lib.ListN.{length}
use lib.Dec.{leb}
use borrow.Author.Tests.{leb-true, le-leb}
use Rattle.frame.specs.Types.{Ty}
use Rattle.frame.specs.Trees.{head, Tree, node, Forest, nil, cons, count}
use Rattle.frame.specs.Tags.{pick, Sort, predicate, class_of, form_of, sorts_of}
use Rattle.frame.specs.Encoding.{enc_ty}
use Rattle.frame.specs.Reading.{type_limit}
use Rattle.frame.specs.Places.{Ctx, under}
use Rattle.frame.specs.Sameness.{same_ty, same_tys}
use Rattle.frame.specs.WellFormed.{HeadWf, Wf, Wfs, number_in}
use Rattle.typing.specs.Typing.{wants, result, shape, carried_ty, types_in, node_typed, typed_tree, typed_forest}
use Rattle.typing.specs.Binding.{index_bound, closed_tree, closed_forest}
use Rattle.typing.specs.Identifiers.{names_agree}
use Rattle.typing.specs.Check.{accepted, refused, check_tree}
use Rattle.typing.specs.Signature.{signature}
use Rattle.typing.specs.Accepted.{Accepted, AcceptedAll}
use Rattle.frame.proofs.Booleans.{both_true, both_of}
use Rattle.frame.proofs.SameTrees.{same_ty_lem, same_tys_lem}
use Rattle.typing.proofs.Same.{same_ty_of, same_tys_of}
use Rattle.typing.proofs.Names.{
  Signed,
  SignedAll,
  signed_kids,
  signed_first,
  signed_rest,
  node_named,
  node_types,
  names_signed,
  accepted_names,
}

-- ---- number 10 at one node
pub record NodeTyped (g n : ℕ) (us : List Ty) (Γ : Ctx) (ts : List Ty) : Type 0 where
  pub fits : ts ≡ wants (class_of g) ts
  pub shaped : carried_ty us ≡ shape g (carried_ty us)
  pub short : length (enc_ty (result (class_of g) n us Γ ts)) ≤ type_limit

module _ (g n : ℕ) (us : List Ty) (Γ : Ctx) (ts : List Ty) where
  pub node_typed_lem : node_typed g n us Γ ts ≡ true → NodeTyped g n us Γ ts
  unfolding node_typed
  node_typed_lem h =
      let w : Bool = same_tys ts (wants (class_of g) ts) in
      let s : Bool = same_ty (carried_ty us) (shape g (carried_ty us)) in
      let l : Bool = leb (length (enc_ty (result (class_of g) n us Γ ts))) type_limit in
      let k = both_true w (s && l) h in
      let j = both_true s l k.1 in
      record {
        fits = same_tys_lem ts (wants (class_of g) ts) k.0;
        shaped = same_ty_lem (carried_ty us) (shape g (carried_ty us))
            j.0;
        short = leb-true (length (enc_ty (result (class_of g) n us Γ ts))) type_limit j.1;
      }

  pub typed_node : NodeTyped g n us Γ ts → node_typed g n us Γ ts ≡ true
  unfolding node_typed
  typed_node h =
      let w : Bool = same_tys ts (wants (class_of g) ts) in
      let s : Bool = same_ty (carried_ty us) (shape g (carried_ty us)) in
      let l : Bool = leb (length (enc_ty (result (class_of g) n us Γ ts))) type_limit in
      both_of (same_tys_of ts (wants (class_of g) ts) h.fits)
      (both_of (same_ty_of (carried_ty us) (shape g (carried_ty us)) h.shaped)
      (le-leb (length (enc_ty (result (class_of g) n us Γ ts))) type_limit h.short))

module _ (σ : ℕ → Ty) where
  -- ---- the tests pass, so the tree is accepted
  accept_node : (g n : ℕ) (us : List Ty) (ks : Forest) (Γ : Ctx) (e : Sort) → HeadWf e g n us (count ks) → index_bound g n Γ ≡ true
      → NodeTyped g n us Γ (types_in ks (under g us Γ)) → Signed σ (node (head g n us) ks)
      → AcceptedAll σ ks (under g us Γ) (sorts_of (form_of g).layout (number_in g n us (count ks))) → Accepted σ (node (head g n us) ks) Γ e
  unfolding Accepted
  accept_node g n us ks Γ e w i t s a =
      record {
        top = record {
          formed = w;
          indexed = i;
          named = node_named σ g n us ks s;
          types = node_types σ g n us ks
              w.types s;
          shaped = t.shaped;
        };
        fits = t.fits;
        short = t.short;
        kids = a;
      }

  mutual
    unfolding closed_tree typed_tree Accepted

    pub tests_accepted : (t : Tree) (Γ : Ctx) (e : Sort) → Wf t e → closed_tree t Γ ≡ true → typed_tree t Γ ≡ true → Signed σ t → Accepted σ t Γ e
    tests_accepted (node (head g n us) ks) Γ e w c p s =
        let b = both_true (index_bound g n Γ) (closed_forest ks (under g us Γ)) c in
        let q = both_true (node_typed g n us Γ (types_in ks (under g us Γ))) (typed_forest ks (under g us Γ)) p in
        accept_node g n us ks Γ e w.0 b.0 (node_typed_lem g n us Γ (types_in ks (under g us Γ)) q.0) s
        (tests_accepted_all ks (under g us Γ) (sorts_of (form_of g).layout (number_in g n us (count ks))) w.1 b.1 q.1
        (signed_kids σ g n us ks s))

    pub tests_accepted_all : (ks : Forest) (Γ : Ctx) (es : List Sort) → Wfs ks es → closed_forest ks Γ ≡ true → typed_forest ks Γ ≡ true
        → SignedAll σ ks → AcceptedAll σ ks Γ es
    tests_accepted_all nil Γ [] w c p s = tt
    tests_accepted_all nil Γ (e ∷ es) w c p s = absurd w
    tests_accepted_all (cons t ks) Γ [] w c p s = absurd w
    tests_accepted_all (cons t ks) Γ (e ∷ es) w c p s =
        let b = both_true (closed_tree t Γ) (closed_forest ks Γ) c in
        let q = both_true (typed_tree t Γ) (typed_forest ks Γ) p in
        (tests_accepted t Γ e w.0 b.0 q.0 (signed_first σ t ks s), tests_accepted_all ks Γ es w.1 b.1 q.1 (signed_rest σ t ks s))

  -- ---- the tree is accepted, so it is well formed and the tests pass
  mutual
    unfolding Accepted

    pub accepted_wf : (t : Tree) (Γ : Ctx) (e : Sort) → Accepted σ t Γ e → Wf t e
    accepted_wf (node (head g n us) ks) Γ e a = (
      a.top.formed,
      accepted_wfs ks (under g us Γ)
          (sorts_of (form_of g).layout (number_in g n us (count ks))) a.kids,
    )

    pub accepted_wfs : (ks : Forest) (Γ : Ctx) (es : List Sort) → AcceptedAll σ ks Γ es → Wfs ks es
    accepted_wfs nil Γ [] a = tt
    accepted_wfs nil Γ (e ∷ es) a = absurd a
    accepted_wfs (cons t ks) Γ [] a = absurd a
    accepted_wfs (cons t ks) Γ (e ∷ es) a = (accepted_wf t Γ e a.0, accepted_wfs ks Γ es a.1)

  mutual
    unfolding Accepted closed_tree

    pub accepted_closed : (t : Tree) (Γ : Ctx) (e : Sort) → Accepted σ t Γ e → closed_tree t Γ ≡ true
    accepted_closed (node (head g n us) ks) Γ e a =
        both_of a.top.indexed
        (accepted_closed_all ks (under g us Γ) (sorts_of (form_of g).layout (number_in g n us (count ks))) a.kids)

    pub accepted_closed_all : (ks : Forest) (Γ : Ctx) (es : List Sort) → AcceptedAll σ ks Γ es → closed_forest ks Γ ≡ true
    accepted_closed_all nil Γ [] a = refl
    accepted_closed_all nil Γ (e ∷ es) a = refl
    accepted_closed_all (cons t ks) Γ [] a = absurd a
    accepted_closed_all (cons t ks) Γ (e ∷ es) a =
        both_of (accepted_closed t Γ e a.0) (accepted_closed_all ks Γ es a.1)

  mutual
    unfolding Accepted typed_tree

    pub accepted_typed : (t : Tree) (Γ : Ctx) (e : Sort) → Accepted σ t Γ e → typed_tree t Γ ≡ true
    accepted_typed (node (head g n us) ks) Γ e a =
        both_of
        (typed_node g n us Γ (types_in ks (under g us Γ)) (record { fits = a.fits; shaped = a.top.shaped; short = a.short }))
        (accepted_typed_all ks (under g us Γ) (sorts_of (form_of g).layout (number_in g n us (count ks))) a.kids)

    pub accepted_typed_all : (ks : Forest) (Γ : Ctx) (es : List Sort) → AcceptedAll σ ks Γ es → typed_forest ks Γ ≡ true
    accepted_typed_all nil Γ [] a = refl
    accepted_typed_all nil Γ (e ∷ es) a = refl
    accepted_typed_all (cons t ks) Γ [] a = absurd a
    accepted_typed_all (cons t ks) Γ (e ∷ es) a =
        both_of (accepted_typed t Γ e a.0) (accepted_typed_all ks Γ es a.1)

-- ---- the check
passed : (a b c : Bool) (t u : Tree) → pick a (pick b (pick c (accepted t) (refused 10)) (refused 9)) (refused 8) ≡ accepted u
    → (u ≡ t) × (a ≡ true) × (b ≡ true) × (c ≡ true)
passed true true true t u h = (cc, refl, refl, refl)
passed true true false t u h = cc
passed true false c t u h = cc
passed false b c t u h = cc

pub check_accepted : (t u : Tree) → Wf t predicate → check_tree t ≡ accepted u → (u ≡ t) × Accepted (signature t) t [] predicate
unfolding check_tree
check_accepted t u w h =
    let p = passed (closed_tree t []) (names_agree t) (typed_tree t []) t u h in
    (p.0, tests_accepted (signature t) t [] predicate w p.1 p.3 (names_signed t p.2))

pub accepted_check : (σ : ℕ → Ty) (t : Tree) → Accepted σ t [] predicate → check_tree t ≡ accepted t
unfolding check_tree
accepted_check σ t a = rw (accepted_closed σ t [] predicate a, accepted_names σ t [] predicate a, accepted_typed σ t [] predicate a)
