-- What the children of an accepted node are: the nodes that left sides are made of, taken apart.
-- Main results: a lemma for each operator, named after it (`of_not`, `of_minus`, ..). The type of an operand that is a set
-- or a relation comes with it: (u : Ty) × ..
use mathlib.Core.Path.{◌≡◌, sym}
use mathlib.Core.Bool.{true, ◌&&◌}
use mathlib.Core.List.{List}
use Prim.Native.Nat.{ℕ, ◌≤◌}
use lib.ListN.{length}
use lib.Dec.{leb}
use Rattle.frame.specs.Types.{Ty, bool, int, pow, prod}
use Rattle.frame.specs.Trees.{Tree, Forest, count, leaf, one, two, many, typed, sole, pair, bodied}
use Rattle.frame.specs.Tags.{Sort, predicate, expression, repeat, class_of, lookup, form_at}
use Rattle.frame.specs.Operators.{
  #Lt,
  #Le,
  #Gt,
  #Ge,
  #Mapsto,
  #SRel,
  #STRel,
  #SetMinus,
  #CProd,
  #DProd,
  #PProd,
  #DomRes,
  #DomSub,
  #RanRes,
  #RanSub,
  #UpTo,
  #RelImage,
  #BUnion,
  #BComp,
  #FComp,
  #Ovr,
  #True,
  #False,
  #Pow,
  #Pow1,
  #KUnion,
  #KInter,
  #Converse,
  #QUnion,
  #QInter,
  #CSet,
  #Partition,
}
use Rattle.frame.specs.Encoding.{enc_ty}
use Rattle.frame.specs.Places.{Ctx, push}
use Rattle.typing.specs.Typing.{alike, element, source, target, relation, ty, type_of, types_in}
use Rattle.typing.specs.Accepted.{TyOk, HeadOk}
use Rattle.rules.specs.Equations.{¬ᵖ, ◌⇒◌, ◌⇔◌, ⋀, ⋁, ∀ᵖ, ∃ᵖ, ◌≐◌, ◌⊆◌, fin, ext, dom, ran, inters}
use Rattle.rules.proofs.Nodes.{Is, Are, Holds, Has, Each, Binders, within, kid₀, kid₁, each_of, opened, top}

-- operands of an associative operator
pub record Operands (σ : ℕ → Ty) (Γ : Ctx) (e : Sort) (t : Ty) (ks : Forest) : Type 0 where
  pub some : 2 ≤ count ks
  pub few : count ks ≤ 255
  pub each : Each σ Γ e t ks

-- a predicate and an expression under binders
pub record Body (σ : ℕ → Ty) (Γ : Ctx) (xs : List Ty) (p e : Tree) (t : Ty) : Type 0 where
  pub binders : Binders σ xs
  pub pred : Holds σ (push xs Γ) p
  pub expr : Has σ (push xs Γ) e t

-- ---- out of the range of a node's number
operands : {σ : ℕ → Ty} {Γ : Ctx} (e : Sort) (t : Ty) (ks : Forest) → leb 2 (count ks) && leb (count ks) 255 ≡ true
    → Are σ Γ ks (repeat e (count ks)) (alike t (types_in ks Γ)) → Operands σ Γ e t ks
operands e t ks h a = let r = within 2 255 (count ks) h in record { some = r.0; few = r.1; each = each_of e t ks a }

bound : {σ : ℕ → Ty} {Γ : Ctx} {e : Sort} {g k : ℕ} {xs : List Ty} → HeadOk σ Γ e g 0 xs k
    → leb 1 (length xs) && leb (length xs) 32 ≡ true → Binders σ xs
bound {xs} a h = let r = within 1 32 (length xs) h in record { some = r.0; few = r.1; formed = a.formed.types; types = a.types }

module _ {σ : ℕ → Ty} {Γ : Ctx} where
  -- ---- predicates
  pub of_not : {p : Tree} {t : Ty} → Is σ Γ predicate (¬ᵖ p) t → Holds σ Γ p
  unfolding class_of lookup form_at
  of_not h = kid₀ (opened h)

  pub of_finite : {s : Tree} {t : Ty} → Is σ Γ predicate (fin s) t → (u : Ty) × Has σ Γ s (pow u)
  unfolding class_of lookup form_at type_of
  of_finite {s} h = (element (type_of s Γ), kid₀ (opened h))

  pub of_equal : {a b : Tree} {t : Ty} → Is σ Γ predicate (a ≐ b) t → (u : Ty) × Has σ Γ a u × Has σ Γ b u
  unfolding class_of lookup form_at type_of
  of_equal {a} h = (type_of a Γ, kid₀ (opened h), kid₁ (opened h))

  pub of_subset : {a b : Tree} {t : Ty} → Is σ Γ predicate (a ⊆ b) t → (u : Ty) × Has σ Γ a (pow u) × Has σ Γ b (pow u)
  unfolding class_of lookup form_at type_of
  of_subset {a} h = (element (type_of a Γ), kid₀ (opened h), kid₁ (opened h))

  pub of_lt : {a b : Tree} {t : Ty} → Is σ Γ predicate (two #Lt a b) t → Has σ Γ a int × Has σ Γ b int
  unfolding class_of lookup form_at
  of_lt h = (kid₀ (opened h), kid₁ (opened h))

  pub of_le : {a b : Tree} {t : Ty} → Is σ Γ predicate (two #Le a b) t → Has σ Γ a int × Has σ Γ b int
  unfolding class_of lookup form_at
  of_le h = (kid₀ (opened h), kid₁ (opened h))

  pub of_gt : {a b : Tree} {t : Ty} → Is σ Γ predicate (two #Gt a b) t → Has σ Γ a int × Has σ Γ b int
  unfolding class_of lookup form_at
  of_gt h = (kid₀ (opened h), kid₁ (opened h))

  pub of_ge : {a b : Tree} {t : Ty} → Is σ Γ predicate (two #Ge a b) t → Has σ Γ a int × Has σ Γ b int
  unfolding class_of lookup form_at
  of_ge h = (kid₀ (opened h), kid₁ (opened h))

  pub of_imp : {p q : Tree} {t : Ty} → Is σ Γ predicate (p ⇒ q) t → Holds σ Γ p × Holds σ Γ q
  unfolding class_of lookup form_at
  of_imp h = (kid₀ (opened h), kid₁ (opened h))

  pub of_eqv : {p q : Tree} {t : Ty} → Is σ Γ predicate (p ⇔ q) t → Holds σ Γ p × Holds σ Γ q
  unfolding class_of lookup form_at
  of_eqv h = (kid₀ (opened h), kid₁ (opened h))

  pub of_and : (ps : Forest) {t : Ty} → Is σ Γ predicate (⋀ ps) t → Operands σ Γ predicate bool ps
  unfolding class_of lookup form_at
  of_and ps h = operands predicate bool ps (top h).formed.range (opened h)

  pub of_or : (ps : Forest) {t : Ty} → Is σ Γ predicate (⋁ ps) t → Operands σ Γ predicate bool ps
  unfolding class_of lookup form_at
  of_or ps h = operands predicate bool ps (top h).formed.range (opened h)

  pub of_forall : {xs : List Ty} {p : Tree} {t : Ty} → Is σ Γ predicate (∀ᵖ xs p) t → Binders σ xs × Holds σ (push xs Γ) p
  unfolding class_of lookup form_at
  of_forall h = (bound (top h) (top h).formed.range, kid₀ (opened h))

  pub of_exists : {xs : List Ty} {p : Tree} {t : Ty} → Is σ Γ predicate (∃ᵖ xs p) t → Binders σ xs × Holds σ (push xs Γ) p
  unfolding class_of lookup form_at
  of_exists h = (bound (top h) (top h).formed.range, kid₀ (opened h))

  pub of_part : {s : Tree} {t : Ty} → Is σ Γ predicate (many #Partition (sole s)) t → (u : Ty) × Has σ Γ s (pow u)
  unfolding class_of lookup form_at type_of
  of_part {s} h = (element (type_of s Γ), kid₀ (opened h))

  pub of_parts : {s k : Tree} {t : Ty} → Is σ Γ predicate (many #Partition (pair s k)) t → (u : Ty) × Has σ Γ s (pow u) × Has σ Γ k (pow u)
  unfolding class_of lookup form_at type_of
  of_parts {s} h = (element (type_of s Γ), kid₀ (opened h), kid₁ (opened h))

  -- E = TRUE and so on: E has the type of TRUE
  pub beside_false : {a : Tree} {t : Ty} → Is σ Γ predicate (a ≐ leaf #False) t → Has σ Γ a bool
  unfolding class_of lookup form_at type_of
  beside_false h = let p = (kid₁ (opened h)).type in record { accepted = (kid₀ (opened h)).accepted; type = sym p }

  pub beside_true : {a : Tree} {t : Ty} → Is σ Γ predicate (a ≐ leaf #True) t → Has σ Γ a bool
  unfolding class_of lookup form_at type_of
  beside_true h = let p = (kid₁ (opened h)).type in record { accepted = (kid₀ (opened h)).accepted; type = sym p }

  pub after_false : {a : Tree} {t : Ty} → Is σ Γ predicate (leaf #False ≐ a) t → Has σ Γ a bool
  unfolding class_of lookup form_at type_of
  after_false h = kid₁ (opened h)

  pub after_true : {a : Tree} {t : Ty} → Is σ Γ predicate (leaf #True ≐ a) t → Has σ Γ a bool
  unfolding class_of lookup form_at type_of
  after_true h = kid₁ (opened h)

  -- ---- expressions with one operand
  pub of_pow : {s : Tree} {t : Ty} → Has σ Γ (one #Pow s) t → (u : Ty) × Has σ Γ s (pow u)
  unfolding class_of lookup form_at type_of
  of_pow {s} h = (element (type_of s Γ), kid₀ (opened h))

  pub of_pow1 : {s : Tree} {t : Ty} → Has σ Γ (one #Pow1 s) t → (u : Ty) × Has σ Γ s (pow u)
  unfolding class_of lookup form_at type_of
  of_pow1 {s} h = (element (type_of s Γ), kid₀ (opened h))

  pub of_union : {s : Tree} {t : Ty} → Has σ Γ (one #KUnion s) t → (u : Ty) × Has σ Γ s (pow (pow u))
  unfolding class_of lookup form_at type_of
  of_union {s} h = (element (element (type_of s Γ)), kid₀ (opened h))

  pub of_inter : {s : Tree} {t : Ty} → Has σ Γ (one #KInter s) t → (u : Ty) × Has σ Γ s (pow (pow u))
  unfolding class_of lookup form_at type_of
  of_inter {s} h = (element (element (type_of s Γ)), kid₀ (opened h))

  pub of_dom_lem : {r : Tree} {t : Ty} → Has σ Γ (dom r) t → (u v : Ty) × Has σ Γ r (relation u v)
  unfolding class_of lookup form_at type_of
  of_dom_lem {r} h = (source (type_of r Γ), target (type_of r Γ), kid₀ (opened h))

  pub of_ran_lem : {r : Tree} {t : Ty} → Has σ Γ (ran r) t → (u v : Ty) × Has σ Γ r (relation u v)
  unfolding class_of lookup form_at type_of
  of_ran_lem {r} h = (source (type_of r Γ), target (type_of r Γ), kid₀ (opened h))

  pub of_converse : {r : Tree} {t : Ty} → Has σ Γ (one #Converse r) t → (u v : Ty) × Has σ Γ r (relation u v)
  unfolding class_of lookup form_at type_of
  of_converse {r} h = (source (type_of r Γ), target (type_of r Γ), kid₀ (opened h))

  -- {a}: the member has the type of the elements
  pub of_single : {a : Tree} {u : Ty} → Has σ Γ (ext (sole a)) (pow u) → Has σ Γ a u
  unfolding class_of lookup form_at type_of
  of_single h = let p = h.type in record { accepted = (kid₀ (opened h)).accepted; type = cc }

  -- ---- two operands
  pub of_minus : {a b : Tree} {t : Ty} → Has σ Γ (two #SetMinus a b) t → (u : Ty) × Has σ Γ a (pow u) × Has σ Γ b (pow u)
  unfolding class_of lookup form_at type_of
  of_minus {a} h = (element (type_of a Γ), kid₀ (opened h), kid₁ (opened h))

  -- the same, with the type of the difference
  pub of_minus_at : {a b : Tree} {t : Ty} → Has σ Γ (two #SetMinus a b) (pow t) → Has σ Γ a (pow t) × Has σ Γ b (pow t)
  unfolding class_of lookup form_at type_of
  of_minus_at {a} h =
      let p = h.type in
      let q = kid₀ (opened h) in
      let r = kid₁ (opened h) in
      let w = q.type in
      let v = r.type in
      (record { accepted = q.accepted; type = cc }, record { accepted = r.accepted; type = cc })

  pub of_times : {a b : Tree} {t : Ty} → Has σ Γ (two #CProd a b) t → (u v : Ty) × Has σ Γ a (pow u) × Has σ Γ b (pow v)
  unfolding class_of lookup form_at type_of
  of_times {a} {b} h = (element (type_of a Γ), element (type_of b Γ), kid₀ (opened h), kid₁ (opened h))

  pub of_upto : {a b : Tree} {t : Ty} → Has σ Γ (two #UpTo a b) t → Has σ Γ a int × Has σ Γ b int
  unfolding class_of lookup form_at
  of_upto h = (kid₀ (opened h), kid₁ (opened h))

  pub of_srel : {a b : Tree} {t : Ty} → Has σ Γ (two #SRel a b) t → (u v : Ty) × Has σ Γ a (pow u) × Has σ Γ b (pow v)
  unfolding class_of lookup form_at type_of
  of_srel {a} {b} h = (element (type_of a Γ), element (type_of b Γ), kid₀ (opened h), kid₁ (opened h))

  pub of_strel : {a b : Tree} {t : Ty} → Has σ Γ (two #STRel a b) t → (u v : Ty) × Has σ Γ a (pow u) × Has σ Γ b (pow v)
  unfolding class_of lookup form_at type_of
  of_strel {a} {b} h = (element (type_of a Γ), element (type_of b Γ), kid₀ (opened h), kid₁ (opened h))

  pub of_domres : {s r : Tree} {t : Ty} → Has σ Γ (two #DomRes s r) t → (u v : Ty) × Has σ Γ s (pow u) × Has σ Γ r (relation u v)
  unfolding class_of lookup form_at type_of
  of_domres {s} {r} h = (element (type_of s Γ), target (type_of r Γ), kid₀ (opened h), kid₁ (opened h))

  pub of_domsub : {s r : Tree} {t : Ty} → Has σ Γ (two #DomSub s r) t → (u v : Ty) × Has σ Γ s (pow u) × Has σ Γ r (relation u v)
  unfolding class_of lookup form_at type_of
  of_domsub {s} {r} h = (element (type_of s Γ), target (type_of r Γ), kid₀ (opened h), kid₁ (opened h))

  pub of_ranres : {r s : Tree} {t : Ty} → Has σ Γ (two #RanRes r s) t → (u v : Ty) × Has σ Γ r (relation u v) × Has σ Γ s (pow v)
  unfolding class_of lookup form_at type_of
  of_ranres {r} {s} h = (source (type_of r Γ), element (type_of s Γ), kid₀ (opened h), kid₁ (opened h))

  pub of_ransub : {r s : Tree} {t : Ty} → Has σ Γ (two #RanSub r s) t → (u v : Ty) × Has σ Γ r (relation u v) × Has σ Γ s (pow v)
  unfolding class_of lookup form_at type_of
  of_ransub {r} {s} h = (source (type_of r Γ), element (type_of s Γ), kid₀ (opened h), kid₁ (opened h))

  pub of_image : {r s : Tree} {t : Ty} → Has σ Γ (two #RelImage r s) t → (u v : Ty) × Has σ Γ r (relation u v) × Has σ Γ s (pow u)
  unfolding class_of lookup form_at type_of
  of_image {r} {s} h = (source (type_of r Γ), target (type_of r Γ), kid₀ (opened h), kid₁ (opened h))

  pub of_dprod : {p q : Tree} {t : Ty} → Has σ Γ (two #DProd p q) t → (u v w : Ty) × Has σ Γ p (relation u v) × Has σ Γ q (relation u w)
  unfolding class_of lookup form_at type_of
  of_dprod {p} {q} h = (source (type_of p Γ), target (type_of p Γ), target (type_of q Γ), kid₀ (opened h), kid₁ (opened h))

  pub of_pprod : {p q : Tree} {t : Ty} → Has σ Γ (two #PProd p q) t → (u v w x : Ty) × Has σ Γ p (relation u v) × Has σ Γ q (relation w x)
  unfolding class_of lookup form_at type_of
  of_pprod {p} {q} h = (source (type_of p Γ), target (type_of p Γ), source (type_of q Γ), target (type_of q Γ), kid₀ (opened h), kid₁ (opened h))

  pub of_fcomp : {p q : Tree} {t : Ty} → Has σ Γ (many #FComp (pair p q)) t → (u v w : Ty) × Has σ Γ p (relation u v) × Has σ Γ q (relation v w)
  unfolding class_of lookup form_at type_of
  of_fcomp {p} {q} h = (source (type_of p Γ), target (type_of p Γ), target (type_of q Γ), kid₀ (opened h), kid₁ (opened h))

  pub of_bcomp : {p q : Tree} {t : Ty} → Has σ Γ (many #BComp (pair p q)) t → (u v w : Ty) × Has σ Γ p (relation v w) × Has σ Γ q (relation u v)
  unfolding class_of lookup form_at type_of
  of_bcomp {p} {q} h = (source (type_of q Γ), source (type_of p Γ), target (type_of p Γ), kid₀ (opened h), kid₁ (opened h))

  pub of_maplet : {a b : Tree} {t : Ty} → Has σ Γ (two #Mapsto a b) t → (u v : Ty) × (t ≡ prod u v) × Has σ Γ a u × Has σ Γ b v
  unfolding class_of lookup form_at type_of
  of_maplet {a} {b} h = (type_of a Γ, type_of b Γ, sym h.type, kid₀ (opened h), kid₁ (opened h))

  -- ---- any number of operands
  pub of_cap : (ks : Forest) {t : Ty} → Has σ Γ (inters ks) t → (u : Ty) × Operands σ Γ expression (pow u) ks
  unfolding class_of lookup form_at
  of_cap ks h = let u = element (ty 0 (types_in ks Γ)) in (u, operands expression (pow u) ks (top h).formed.range (opened h))

  pub of_cup : (ks : Forest) {t : Ty} → Has σ Γ (many #BUnion ks) t → (u : Ty) × Operands σ Γ expression (pow u) ks
  unfolding class_of lookup form_at
  of_cup ks h = let u = element (ty 0 (types_in ks Γ)) in (u, operands expression (pow u) ks (top h).formed.range (opened h))

  pub of_ovr : (ks : Forest) {t : Ty} → Has σ Γ (many #Ovr ks) t → (u : Ty) × Operands σ Γ expression (pow u) ks
  unfolding class_of lookup form_at
  of_ovr ks h =
      let u = ty 0 (types_in ks Γ) in
      (prod (source u) (target u), operands expression (relation (source u) (target u)) ks (top h).formed.range (opened h))

  -- ---- binders
  pub of_qunion : {xs : List Ty} {p e : Tree} {t : Ty} → Has σ Γ (bodied #QUnion xs p e) t → (u : Ty) × Body σ Γ xs p e (pow u)
  unfolding class_of lookup form_at type_of
  of_qunion {xs} {p} {e} h = (
    element (type_of e (push xs Γ)),
    record
        { binders = bound (top h) (top h).formed.range; pred = kid₀ (opened h); expr = kid₁ (opened h) },
  )

  pub of_qinter : {xs : List Ty} {p e : Tree} {t : Ty} → Has σ Γ (bodied #QInter xs p e) t → (u : Ty) × Body σ Γ xs p e (pow u)
  unfolding class_of lookup form_at type_of
  of_qinter {xs} {p} {e} h = (
    element (type_of e (push xs Γ)),
    record
        { binders = bound (top h) (top h).formed.range; pred = kid₀ (opened h); expr = kid₁ (opened h) },
  )

  pub of_set : {xs : List Ty} {p e : Tree} {t : Ty} → Has σ Γ (bodied #CSet xs p e) t → (u : Ty) × (t ≡ pow u) × Body σ Γ xs p e u
  unfolding class_of lookup form_at type_of
  of_set {xs} {p} {e} h =
      (type_of e (push xs Γ), sym h.type, record { binders = bound (top h) (top h).formed.range; pred = kid₀ (opened h); expr = kid₁ (opened h) })

  -- ---- nodes that carry their type
  pub of_carried : {g : ℕ} {t u : Ty} → Has σ Γ (typed g t) u → TyOk σ t × (length (enc_ty t) ≤ 64)
  of_carried h = ((top h).types.0, (top h).formed.types.1)
