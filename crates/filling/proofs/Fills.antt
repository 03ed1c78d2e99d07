-- What stands in the buffers fills a template, whichever it is; which templates ask for types.
-- Main results: asks_any, fill_types, fill_places, fill_ready, fill_done.
use mathlib.Core.Path.{◌≡◌, refl, sym, ap, ◌∙◌}
use mathlib.Core.Bool.{Bool, true, false, not, ◌&&◌, ◌||◌}
use mathlib.Core.List.{List, [], ◌∷◌}
use Prim.Native.Nat.{ℕ, zero, suc, ◌<◌}
use lib.ListN.{length}
use lib.Dec.{ltb}
use borrow.Author.Tests.{ltb-true}
use Rattle.std.proofs.Common.{Option}
use Rattle.std.specs.List.{list_any}
use Rattle.frame.specs.Types.{Ty}
use Rattle.frame.specs.Trees.{head, Tree, node}
use Rattle.frame.specs.Tags.{form_of}
use Rattle.frame.specs.Encoding.{enc_ty, enc_tys, enc}
use Rattle.frame.specs.Places.{Ctx}
use Rattle.frame.proofs.Inversion.{true_not}
use Rattle.frame.proofs.Booleans.{both_true, or_then}
use Rattle.frame.proofs.Splices.{find_lt}
use Rattle.frame.proofs.Tables.{all_below, below}
use Rattle.typing.specs.Typing.{type_of}
use Rattle.nav.specs.AtPlaces.{PlacesOf, InTables}
use Rattle.nav.specs.declared.Places.{Places}
use Rattle.templates.specs.Template.{Part, tag, byte, operand, type, expression, binders, Filling, operand_at, type_at}
use Rattle.templates.specs.Programs.{templates, among, find_row, template}
use Rattle.programs.specs.Parts.{part_then, parts_of, asks_type}
use Rattle.programs.specs.declared.Part as C
use Rattle.programs.specs.declared.Part.TheVariants as P
use Rattle.parts.specs.Holds.{subtree_of, type_of as type_bytes, Holds, Fillable, Filled}
use Rattle.parts.specs.declared.Operands.{Operands}
use Rattle.decision.specs.Decision.{filling, takes_binders, has_binders, Bound}
use Rattle.filling.specs.Operands.{asks_types, HeldIn, TypeOfPre, TypeOfPost, SubtreePost, BindersPost, FillAt, FillPre, FillPost}

-- ---- whether a part asks for types
asks_part : (c : C.Part) (ps : List Part) → asks_types (part_then c ps) ≡ asks_type c || asks_types ps
unfolding asks_types
asks_part (P.Tag g) ps = refl
asks_part (P.Count n) ps = refl
asks_part (P.Subtree i) ps = refl
asks_part (P.Type m i) ps = refl
asks_part (P.Expression m i) ps = refl
asks_part P.Binders ps = refl
asks_part (P.Empty i) ps = refl
asks_part (P.Full i) ps = refl

-- one of the parts does, or none
pub asks_any : (cs : List C.Part) → list_any asks_type cs ≡ asks_types (parts_of cs)
unfolding asks_types
asks_any [] = refl
asks_any (c ∷ cs) = ap (λ (b : Bool). asks_type c || b) (asks_any cs) ∙ sym (asks_part c (parts_of cs))

-- ---- templates have two operands, and binders at the places that take them
small : ℕ → Bool
small zero = true
small (suc zero) = true
small (suc (suc i)) = false

-- parts with no third operand; binders only where b says so
fits : Bool → List Part → Bool
fits b [] = true
fits b (tag g ∷ ps) = fits b ps
fits b (byte c ∷ ps) = fits b ps
fits b (operand i ∷ ps) = small i && fits b ps
fits b (type m i ∷ ps) = small i && fits b ps
fits b (expression m i ∷ ps) = small i && fits b ps
fits b (binders ∷ ps) = b && fits b ps

fits_right : ℕ → Bool
fits_right k = fits (takes_binders k) (template k)

all_fit : all_below 88 fits_right ≡ true
unfolding fits_right fits small template find_row templates among
all_fit = refl

template_fits : (k : ℕ) → k < 88 → fits (takes_binders k) (template k) ≡ true
unfolding fits_right
template_fits k h = below 88 fits_right all_fit k h

module _ (r : Operands) (a b : Tree) (t u : Ty) (us : List Ty) where
  abbrev f : Filling
  f = record { operands = a ∷ b ∷ []; types = t ∷ u ∷ []; binder_types = us }

  module _ (first : r.first.subtree.now ≡ enc a) (second : r.second.subtree.now ≡ enc b) where
    operand_holds : (i : ℕ) → small i ≡ true → subtree_of r i ≡ enc (operand_at i f.operands)
    unfolding small
    operand_holds zero h = first
    operand_holds (suc zero) h = second
    operand_holds (suc (suc i)) h = true_not h

    type_holds : (r.first.own_type.now ≡ enc_ty t) × (r.second.own_type.now ≡ enc_ty u) → (i : ℕ) → small i ≡ true
        → type_bytes r i ≡ enc_ty (type_at i f.types)
    unfolding small
    type_holds m zero h = m.0
    type_holds m (suc zero) h = m.1
    type_holds m (suc (suc i)) h = true_not h

    module _ (c : Bool) (bound : c ≡ true → r.binders.now ≡ length us ∷ enc_tys us) where
      all_holds : (ps : List Part) → fits c ps ≡ true → (asks_types ps ≡ true → (r.first.own_type.now ≡ enc_ty t) × (r.second.own_type.now ≡ enc_ty u))
          → Holds r f ps
      unfolding fits asks_types Holds
      all_holds [] h m = tt
      all_holds (tag g ∷ ps) h m = all_holds ps h m
      all_holds (byte x ∷ ps) h m = all_holds ps h m
      all_holds (operand i ∷ ps) h m = let w = both_true (small i) (fits c ps) h in (operand_holds i w.0, all_holds ps w.1 m)
      all_holds (type d i ∷ ps) h m = let w = both_true (small i) (fits c ps) h in (type_holds (m refl) i w.0, all_holds ps w.1 (λ z. m refl))
      all_holds (expression d i ∷ ps) h m = let w = both_true (small i) (fits c ps) h in
          (type_holds (m refl) i w.0, all_holds ps w.1 (λ z. m refl))
      all_holds (binders ∷ ps) h m = let w = both_true c (fits c ps) h in (bound w.0, all_holds ps w.1 m)

-- ---- `fill`
-- what the pattern's bound says
bound_few : (p g : ℕ) → Bound p g → p < 88
bound_few p g h = ltb-true p 88 (both_true (ltb p 88) (not (takes_binders p) || has_binders (form_of g).layout) h).0

bound_has : (p g : ℕ) → Bound p g → takes_binders p ≡ true → has_binders (form_of g).layout ≡ true
bound_has p g h e = or_then (takes_binders p) (has_binders (form_of g).layout)
    (both_true (ltb p 88) (not (takes_binders p) || has_binders (form_of g).layout) h).1 e

module _ (p : Places) (pattern first second binder : ℕ) where
  module _ (pre : FillPre p pattern first second binder) where
    pub fill_few : pattern < 88
    fill_few = bound_few pattern pre.places.g pre.places.bound

    pub fill_types : TypeOfPre p first × TypeOfPre p second
    fill_types =
        let w = pre.places in (
          record { t = pre.t; held = pre.held; below = find_lt pre.t [] first pre.Δ pre.a w.at_first },
          record { t = pre.t; held = pre.held; below = find_lt pre.t [] second pre.Δ pre.b w.at_second },
        )

    pub fill_places : InTables p first × InTables p second × InTables p binder
    fill_places =
        let w = pre.places in (
          record { t = pre.t; table = pre.table; below = find_lt pre.t [] first pre.Δ pre.a w.at_first },
          record { t = pre.t; table = pre.table; below = find_lt pre.t [] second pre.Δ pre.b w.at_second },
          record { t = pre.t; table = pre.table; below = find_lt pre.t [] binder w.Θ (node (head w.g w.x pre.us) w.ks) w.at_binder },
        )

  module _ (asked : Bool) (says : asked ≡ asks_types (template pattern)) (r : Operands) (of_first : SubtreePost p first r.first.subtree.now)
      (of_second : SubtreePost p second r.second.subtree.now)
      (types : asked ≡ true → TypeOfPost p first r.first.own_type.now × TypeOfPost p second r.second.own_type.now) (of_binders : BindersPost p binder r.binders.now) where
    holds : (t : Tree) (Δ : Ctx) (a b : Tree) (us : List Ty) → PlacesOf p t → HeldIn p t → FillAt t pattern first second binder Δ a b us
        → Holds r (filling Δ a b us) (template pattern)
    holds t Δ a b us tb h w =
        all_holds r a b (type_of a Δ) (type_of b Δ) us (of_first.is t Δ a tb w.at_first) (of_second.is t Δ b tb w.at_second)
        (takes_binders pattern)
        (λ e. of_binders.is t w.Θ w.g w.x us w.ks tb w.at_binder (bound_has pattern w.g w.bound e))
        (template pattern) (template_fits pattern (bound_few pattern w.g w.bound))
        (λ e. ((types (says ∙ e)).0.is t Δ a h w.at_first, (types (says ∙ e)).1.is t Δ b h w.at_second))

    pub fill_ready : FillPre p pattern first second binder → (pattern < 88) × Fillable (template pattern) r
    fill_ready pre = (
      bound_few pattern pre.places.g pre.places.bound,
      (filling pre.Δ pre.a pre.b pre.us, holds pre.t pre.Δ pre.a pre.b pre.us pre.table pre.held pre.places),
    )

    pub fill_done : (o q : Option (List ℕ)) → Filled (template pattern) r o q → FillPost p pattern first second binder o q
    fill_done o q d = record { puts = λ t Δ a b us tb h w. d.puts (filling Δ a b us) (holds t Δ a b us tb h w) }
