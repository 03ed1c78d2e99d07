-- Parts one after another, and what each is filled with: the ways out of `put_part`, and the turns of `run_program`.
use mathlib.Core.Path.{◌≡◌, refl, sym, ap, ◌∙◌}
use mathlib.Core.Bool.{Bool, true, ◌&&◌}
use mathlib.Core.List.{List, [], ◌∷◌, ◌++◌, append_assoc, append-nil}
use Prim.Native.Nat.{ℕ, suc, ◌+◌, ◌<◌}
use lib.Dec.{ltb}
use lib.ListN.{length, take, drop, get_or}
use borrow.Author.Tests.{ltb-true}
use lib.Seq.{drop-cons}
use Rattle.std.proofs.Common.{Option}
use Rattle.std.proofs.lemmas.List.{take_more, take-append-drop}
use Rattle.frame.proofs.Booleans.{both_true}
use Rattle.frame.proofs.Tables.{all_below, below}
use Rattle.frame.specs.Types.{Ty}
use Rattle.frame.specs.Encoding.{enc_number, enc_ty, enc}
use Rattle.typing.specs.TypeExpression.{to_expression}
use Rattle.put.specs.Out.{Puts}
use Rattle.put.proofs.Puts.{puts_nil, puts_then, puts_as}
use Rattle.templates.specs.Template.{Mode, whole, of_element, Part, tag, byte, operand, type, expression, binders, Filling, made, part_bytes, filled}
use Rattle.templates.specs.Programs.{is_empty, is_type, templates, among, find_row, template}
use Rattle.programs.specs.Parts.{part_then, parts_of}
use Rattle.programs.specs.declared.Part as C
use Rattle.programs.specs.declared.Part.TheVariants as P
use Rattle.parts.specs.declared.Operands.{Operands}
use Rattle.parts.specs.Holds.{subtree_of, type_of, Holds, TagsFit, Ready, Filled, Fillable}
use Rattle.parts.specs.Types.{IsType}
use Rattle.parts.proofs.MadeTypes.{same_type}

-- ---- parts one after another
filled_append : (f : Filling) (ps qs : List Part) → filled (ps ++ qs) f ≡ filled ps f ++ filled qs f
unfolding filled
filled_append f [] qs = refl
filled_append f (p ∷ ps) qs = ap (λ (l : List ℕ). part_bytes f p ++ l) (filled_append f ps qs) ∙ sym (append_assoc (part_bytes f p) (filled ps f) (filled qs f))

fit_append : (ps qs : List Part) → TagsFit (ps ++ qs) → TagsFit ps × TagsFit qs
unfolding TagsFit
fit_append [] qs h = (tt, h)
fit_append (tag g ∷ ps) qs h = let v = fit_append ps qs h.1 in ((h.0, v.0), v.1)
fit_append (byte c ∷ ps) qs h = fit_append ps qs h
fit_append (operand i ∷ ps) qs h = fit_append ps qs h
fit_append (type m i ∷ ps) qs h = fit_append ps qs h
fit_append (expression m i ∷ ps) qs h = fit_append ps qs h
fit_append (binders ∷ ps) qs h = fit_append ps qs h

module _ (r : Operands) where
  holds_append : (f : Filling) (ps qs : List Part) → Holds r f (ps ++ qs) → Holds r f ps × Holds r f qs
  unfolding Holds
  holds_append f [] qs h = (tt, h)
  holds_append f (tag g ∷ ps) qs h = holds_append f ps qs h
  holds_append f (byte c ∷ ps) qs h = holds_append f ps qs h
  holds_append f (operand i ∷ ps) qs h = let v = holds_append f ps qs h.1 in ((h.0, v.0), v.1)
  holds_append f (type m i ∷ ps) qs h = let v = holds_append f ps qs h.1 in ((h.0, v.0), v.1)
  holds_append f (expression m i ∷ ps) qs h = let v = holds_append f ps qs h.1 in ((h.0, v.0), v.1)
  holds_append f (binders ∷ ps) qs h = let v = holds_append f ps qs h.1 in ((h.0, v.0), v.1)

  pub filled_then : (o p q : Option (List ℕ)) (ps qs : List Part) → Filled ps r o p → Filled qs r p q → Filled (ps ++ qs) r o q
  filled_then o p q ps qs a b = record {
    puts = λ f h. (let v = holds_append f ps qs h in
        puts_as o q _ _ (sym (filled_append f ps qs)) (puts_then o p q _ _ (a.puts f v.0) (b.puts f v.1)));
  }

  pub filled_none : (o : Option (List ℕ)) → Filled [] r o o
  unfolding filled
  filled_none o = record { puts = λ f h. puts_nil o }

  -- ---- each part
  module _ (o p : Option (List ℕ)) where
    pub tag_put : (g : ℕ) → Puts o p (enc_number 2 g) → Filled (tag g ∷ []) r o p
    unfolding filled
    tag_put g w = record { puts = λ f h. puts_as o p _ _ (sym (append-nil _)) w }

    pub count_put : (c : ℕ) → Puts o p (c ∷ []) → Filled (byte c ∷ []) r o p
    unfolding filled
    count_put c w = record { puts = λ f h. w }

    pub subtree_put : (i : ℕ) (s : List ℕ) → s ≡ subtree_of r i → Puts o p s → Filled (operand i ∷ []) r o p
    unfolding filled Holds
    subtree_put i s e w = record { puts = λ f h. puts_as o p _ _ (e ∙ h.0 ∙ sym (append-nil _)) w }

    pub type_put : (m : Mode) (i : ℕ) (u : Ty) → type_of r i ≡ enc_ty u → Puts o p (enc_ty (made m u)) → Filled (type m i ∷ []) r o p
    unfolding filled Holds
    type_put m i u e w = record {
      puts = λ f h. puts_as o p _ _ (ap (λ (t : Ty). enc_ty (made m t)) (same_type u _ (sym e ∙ h.0)) ∙ sym (append-nil _)) w;
    }

    pub expression_put : (m : Mode) (i : ℕ) (u : Ty) → type_of r i ≡ enc_ty u → Puts o p (enc (to_expression (made m u)))
        → Filled (expression m i ∷ []) r o p
    unfolding filled Holds
    expression_put m i u e w = record {
      puts = λ f h. puts_as o p _ _ (ap (λ (t : Ty). enc (to_expression (made m t))) (same_type u _ (sym e ∙ h.0)) ∙ sym (append-nil _)) w;
    }

    pub binders_put : Puts o p r.binders.now → Filled (binders ∷ []) r o p
    unfolding filled Holds
    binders_put w = record { puts = λ f h. puts_as o p _ _ (h.0 ∙ sym (append-nil _)) w }

  module _ (o a b : Option (List ℕ)) (i : ℕ) (s : List ℕ) (u : Ty) (ss : s ≡ subtree_of r i) (ts : type_of r i ≡ enc_ty u)
      (x : Puts o a (enc_number 2 101)) (y : Puts a b s) where
    pub empty_put : (c p : Option (List ℕ)) → Puts b c (enc_number 2 407) → Puts c p (enc_ty u) → Filled (is_empty i []) r o p
    empty_put c p z w =
        filled_then o a p _ _ (tag_put o a 101 x) (filled_then a b p _ _ (subtree_put a b i s ss y)
        (filled_then b c p _ _ (tag_put b c 407 z) (type_put c p whole i u ts w)))

    pub full_put : (p : Option (List ℕ)) → Puts b p (enc (to_expression (made of_element u))) → Filled (is_type i []) r o p
    full_put p w =
        filled_then o a p _ _ (tag_put o a 101 x) (filled_then a b p _ _ (subtree_put a b i s ss y) (expression_put b p of_element i u ts w))

  -- ---- what they ask for
  pub tag_fits : (g : ℕ) → Ready (tag g ∷ []) r → g < 65536
  unfolding TagsFit
  tag_fits g h = h.fit.0

  pub type_is : (m : Mode) (i : ℕ) → Ready (type m i ∷ []) r → IsType (type_of r i)
  unfolding Holds
  type_is m i h = (_, h.holds.0)

  pub expression_is : (m : Mode) (i : ℕ) → Ready (expression m i ∷ []) r → IsType (type_of r i)
  unfolding Holds
  expression_is m i h = (_, h.holds.0)

  pub empty_is : (i : ℕ) → Ready (is_empty i []) r → IsType (type_of r i)
  unfolding Holds
  empty_is i h = (_, h.holds.1.0)

  pub full_is : (i : ℕ) → Ready (is_type i []) r → IsType (type_of r i)
  unfolding Holds
  full_is i h = (_, h.holds.1.0)

-- ---- the turns of `run_program`
part_append : (c : C.Part) (ps qs : List Part) → part_then c (ps ++ qs) ≡ part_then c ps ++ qs
part_append (P.Tag g) ps qs = refl
part_append (P.Count c) ps qs = refl
part_append (P.Subtree i) ps qs = refl
part_append (P.Type m i) ps qs = refl
part_append (P.Expression m i) ps qs = refl
part_append P.Binders ps qs = refl
part_append (P.Empty i) ps qs = refl
part_append (P.Full i) ps qs = refl

parts_append : (cs ds : List C.Part) → parts_of (cs ++ ds) ≡ parts_of cs ++ parts_of ds
parts_append [] ds = refl
parts_append (c ∷ cs) ds = ap (part_then c) (parts_append cs ds) ∙ part_append c (parts_of cs) (parts_of ds)

module _ (cs : List C.Part) (i : ℕ) (d : C.Part) (h : i < length cs) (r : Operands) where
  -- those before the part at i, that part, and those behind it
  parted : parts_of cs ≡ parts_of (take i cs) ++ (part_then (get_or cs i d) [] ++ parts_of (drop (suc i) cs))
  parted =
      ap parts_of (sym (take-append-drop i cs) ∙ ap (λ (l : List C.Part). take i cs ++ l) (drop-cons cs i d h))
      ∙ parts_append (take i cs) (get_or cs i d ∷ drop (suc i) cs)
      ∙ ap (λ (l : List Part). parts_of (take i cs) ++ l) (part_append (get_or cs i d) [] (parts_of (drop (suc i) cs)))

  pub turn_ready : Ready (parts_of cs) r → Ready (part_then (get_or cs i d) []) r
  turn_ready w =
      let x = part_then (get_or cs i d) [] in
      let y = parts_of (drop (suc i) cs) in
      record {
        filling = w.filling;
        holds = (holds_append r w.filling x y (holds_append r w.filling (parts_of (take i cs)) (x ++ y) (rw parted at w.holds)).1).0;
        fit = (fit_append x y (fit_append (parts_of (take i cs)) (x ++ y) (rw parted at w.fit)).1).0;
      }

  pub turn_filled : (o p q : Option (List ℕ)) → Filled (parts_of (take i cs)) r o p → Filled (part_then (get_or cs i d) []) r p q
      → Filled (parts_of (take (i + 1) cs)) r o q
  turn_filled o p q a b =
      let z : parts_of (take (i + 1) cs) ≡ parts_of (take i cs) ++ part_then (get_or cs i d) [] =
      ap parts_of (take_more cs i d h) ∙ parts_append (take i cs) (get_or cs i d ∷ []) in
      rw z (filled_then r o p q _ _ a b)

-- ---- the tags of the templates have two bytes
unfoldable tags_small : List Part → Bool
tags_small [] = true
tags_small (tag g ∷ ps) = ltb g 65536 && tags_small ps
tags_small (byte c ∷ ps) = tags_small ps
tags_small (operand i ∷ ps) = tags_small ps
tags_small (type m i ∷ ps) = tags_small ps
tags_small (expression m i ∷ ps) = tags_small ps
tags_small (binders ∷ ps) = tags_small ps

tags_fit : (ps : List Part) → tags_small ps ≡ true → TagsFit ps
unfolding tags_small TagsFit
tags_fit [] e = tt
tags_fit (tag g ∷ ps) e = let b = both_true (ltb g 65536) (tags_small ps) e in (ltb-true g 65536 b.0, tags_fit ps b.1)
tags_fit (byte c ∷ ps) e = tags_fit ps e
tags_fit (operand i ∷ ps) e = tags_fit ps e
tags_fit (type m i ∷ ps) e = tags_fit ps e
tags_fit (expression m i ∷ ps) e = tags_fit ps e
tags_fit (binders ∷ ps) e = tags_fit ps e

place_small : ℕ → Bool
place_small k = tags_small (template k)

-- every place, by one evaluation
places_small : all_below 88 place_small ≡ true
unfolding place_small tags_small template find_row templates among
places_small = refl

pub template_ready : (k : ℕ) (ps : List Part) (r : Operands) → k < 88 → ps ≡ template k → Fillable (template k) r → Ready ps r
unfolding place_small
template_ready k ps r h e w =
    rw e (record { filling = w.0; holds = w.1; fit = tags_fit (template k) (below 88 place_small places_small k h) })
