-- The claims of the nodes of a frame, noted from left to right: note_node and note_nodes.
-- Main results: left_stands, left_types, own_asks (what note_node asks for), node_stops, node_other, node_past, node_differs,
-- node_named (its ways out); NamesPost (what the nodes from a place on say), the laws of Over, the invariant of note_nodes.
use mathlib.Core.Path.{◌≡◌, refl, sym, ap, ◌∙◌, subst}
use mathlib.Core.Bool.{Bool, true, false}
use mathlib.Core.List.{List, [], ◌∷◌, ◌++◌, append_assoc, append-nil}
use Prim.Native.Nat.{ℕ, ◌+◌, ◌≤◌, ◌<◌}
use native.Mathlib.Omega.{arith}
use lib.ListN.{length, length-append}
use borrow.Author.Tests.{ne_eqb, eq-eqb}
use Rattle.std.proofs.Common.{Result, Ok, Err}
use Rattle.frame.specs.Types.{Ty}
use Rattle.frame.specs.Trees.{Head, head, node, Forest, nil, cons, count, append}
use Rattle.frame.specs.Tags.{Sort, form_of, form_at, class_of, lookup, width, types_of, sorts_of, Form}
use Rattle.frame.specs.Operators.{#FreeIdent}
use Rattle.tags.specs.TagCodes.{form_code, meant}
use Rattle.heads.specs.declared.Opening.{Opening}
use Rattle.heads.specs.HeadPost.{HeadStands, OpeningPost}
use Rattle.frame.specs.Encoding.{enc_number, enc_ty, enc_tys, enc_head, enc, encs}
use Rattle.frame.specs.Reading.{number_at}
use Rattle.frame.specs.WellFormed.{TyWf, TysWf, number_in, HeadWf}
use Rattle.frame.specs.Spans.{Spans}
use Rattle.frame.proofs.Spans.{span_left, span_right}
use Rattle.frame.proofs.Numbers.{number_length, number_back}
use Rattle.frame.proofs.ReadBack.{enc_long}
use Rattle.frame.proofs.Forests.{encs_append, wfs_append}
use Rattle.tags.proofs.TagTables.{code_form}
use Rattle.typing.specs.Typing.{carried_ty}
use Rattle.typing.specs.Members.{All}
use Rattle.typing.specs.Identifiers.{Named, named, givens_tys, ident_of}
use Rattle.reading.specs.Post.{Rest}
use Rattle.reading.proofs.AgainTurns.{rest_head}
use Rattle.claims.specs.Table.{TypeAt, Noted, Held, NamePost}
use Rattle.identifiers.specs.declared.Stop.{Stop}
use Rattle.identifiers.specs.declared.Stop.TheVariants.{Clashed, Beyond}
use Rattle.identifiers.specs.Claims.{powers, claims_of, claims, claims_in, TypesAt, NotedTo, TypesPost, NodePost, Unlisted}
use Rattle.identifiers.proofs.NotedClaims.{
  noted_nil,
  noted_then,
  noted_early,
  held_then,
  unlisted_then,
  unlisted_early,
  unlisted_one,
}
use Rattle.identifiers.proofs.NotingTypes.{Some}

-- ---- forests joined
claims_append : (ts us : Forest) → claims_in (append ts us) ≡ claims_in ts ++ claims_in us
unfolding claims
claims_append nil us = refl
claims_append (cons t ts) us = rw (append_assoc, claims_append ts us)

-- ---- the next node
-- its head, and what comes after it
record Next (s : List ℕ) (at g n : ℕ) (us : List Ty) (ks later : Forest) : Type 0 where
  e : Sort
  wf : HeadWf e g n us (count ks)
  small : g ≡ number_at 2 s at
  number : number_at (width (form_of g).layout) s (at + 2) ≡ number_in g n us (count ks)
  types : Spans s (at + 2 + width (form_of g).layout) (at + length (enc_head (head g n us) (count ks))) (enc_tys us)
  sorts : List Sort
  after : Rest s (at + length (enc_head (head g n us) (count ks))) (append ks later) sorts

head_long : (g n : ℕ) (us : List Ty) (k at : ℕ) → at + 2 + width (form_of g).layout + length (enc_tys us) ≡ at + length (enc_head (head g n us) k)
unfolding enc_head
head_long g n us k at =
    let w : ℕ = width (form_of g).layout in
    let x : ℕ = number_in g n us k in
    omega (
      arith,
      length-append (enc_number 2 g) (enc_number w x ++ enc_tys us),
      length-append (enc_number w x)
          (enc_tys us),
      number_length 2 g,
      number_length w x,
    )

next : (s : List ℕ) (at g n : ℕ) (us : List Ty) (ks later : Forest) (es : List Sort) → Rest s at (cons (node (head g n us) ks) later) es
    → Next s at g n us ks later
unfolding enc enc_head
next s at g n us ks later [] a = absurd a.wf
next s at g n us ks later (e ∷ es) a =
    let w : ℕ = width (form_of g).layout in
    let x : ℕ = number_in g n us (count ks) in
    let h = a.wf.0.0 in
    let b : Spans s at (length s) (enc_number 2 g ++ (enc_number w x ++ (enc_tys us ++ encs (append ks later)))) = rw encs_append
    (simp append_assoc at a.span) in
    let c = number_back 2 s at (length s) g (enc_number w x ++ (enc_tys us ++ encs (append ks later))) h.small b in
    let d = number_back w s (at + 2) (length s) x (enc_tys us ++ encs (append ks later)) h.fits c.rest in
    let z = head_long g n us (count ks) at in
    record {
      e = e;
      wf = h;
      small = sym c.number;
      number = d.number;
      types = subst (λ (i : ℕ). Spans s (at + 2 + w) i (enc_tys us)) z (span_left (enc_tys us) (encs (append ks later)) d.rest);
      sorts = sorts_of (form_of g).layout x ++ es;
      after = record {
        span = subst (λ (i : ℕ). Spans s i (length s) (encs (append ks later))) z (span_right (enc_tys us) (encs (append ks later)) d.rest);
        wf = wfs_append ks later (sorts_of (form_of g).layout x) es a.wf.0.1 a.wf.1;
      };
    }

-- ---- the next node, by what the code reads of it
tys_all : (us : List Ty) → TysWf us → All TyWf us
tys_all [] w = tt
tys_all (u ∷ us) w = (w.0, tys_all us w.2)

one_type : (us : List Ty) → length us ≡ 1 → enc_tys us ≡ enc_ty (carried_ty us)
unfolding enc_tys
one_type [] e = absurd (omega arith)
one_type (u ∷ []) e = append-nil (enc_ty u)
one_type (u ∷ v ∷ us) e = absurd (omega arith)

carried_wf : (us : List Ty) → length us ≡ 1 → TysWf us → TyWf (carried_ty us)
carried_wf [] e w = absurd (omega arith)
carried_wf (u ∷ us) e w = w.0

-- an identifier has a two-byte number and one type
ident_one : (e : Sort) (n : ℕ) (us : List Ty) (k : ℕ) → HeadWf e 1 n us k → (number_in 1 n us k ≡ n) × (length us ≡ 1) × (n < 65536)
unfolding lookup class_of form_at
ident_one e n us k w = (refl, w.many, w.fits)

ident_head : (e : Sort) (g n : ℕ) (us : List Ty) (k : ℕ) → g ≡ 1 → HeadWf e g n us k → (number_in g n us k ≡ n) × (length us ≡ 1) × (n < 65536)
ident_head e g n us k z w =
    subst (λ (i : ℕ). (number_in i n us k ≡ n) × (length us ≡ 1) × (n < 65536)) (sym z) (ident_one e n us k (subst (λ (i : ℕ). HeadWf e i n us k) z w))

record Now (s : List ℕ) (o : Opening) (n : ℕ) (us : List Ty) (m q : ℕ) : Type 0 where
  types : TypesAt s o.types m us q
  name : o.tag ≡ #FreeIdent → (o.number ≡ n) × (o.number < 65536) × TypeAt s o.types q (carried_ty us)

now_of : (s : List ℕ) (at g n : ℕ) (us : List Ty) (ks later : Forest) → Next s at g n us ks later → (o : Opening) → OpeningPost s at o → (m : ℕ)
    → m ≡ types_of (meant o.form).layout (meant o.form).carried o.number
    → (o.tag ≡ g) × Now s o n us m (at + length (enc_head (head g n us) (count ks)))
now_of s at g n us ks later v o d m e =
    let k = count ks in
    let h = v.wf in
    let z : o.tag ≡ g = d.tag ∙ sym v.small in
    let f : meant o.form ≡ form_of g = code_form g o.form (d.form ∙ ap (λ (i : ℕ). form_code (class_of i)) z) in
    let ew : width (meant o.form).layout ≡ width (form_of g).layout = ap (λ (fm : Form). width fm.layout) f in
    let ex : o.number ≡ number_in g n us k = d.number ∙ ap (λ (i : ℕ). number_at i s (at + 2)) ew ∙ v.number in
    let em : m ≡ length us = e ∙ ap (λ (fm : Form). types_of fm.layout fm.carried o.number) f ∙ ap
    (types_of (form_of g).layout (form_of g).carried) ex ∙ sym h.many in
    let et : o.types ≡ at + 2 + width (form_of g).layout = d.types ∙ ap (λ (i : ℕ). at + 2 + i) ew in
    let q : ℕ = at + length (enc_head (head g n us) k) in
    let sp : Spans s o.types q (enc_tys us) = subst (λ (i : ℕ). Spans s i q (enc_tys us)) (sym et) v.types in (
      z,
      record {
        types = record { span = sp; wf = tys_all us h.types; many = sym em };
        name = λ y. (let i = ident_head v.e g n us k (sym z ∙ y) h in let xn : o.number ≡ n = ex ∙ i.0 in
            (xn, omega arith, record { span = subst (Spans s o.types q) (one_type us i.1) sp; wf = carried_wf us i.1 h.types }));
      },
    )

-- ---- note_node
-- some nodes stand from `at` to the end
abbrev pub Left : List ℕ → ℕ → Type 0
Left s at = (ts : Forest) × (es : List Sort) × Rest s at ts es

-- the first of them
record First (s : List ℕ) (at : ℕ) : Type 0 where
  g : ℕ
  n : ℕ
  us : List Ty
  ks : Forest
  later : Forest
  es : List Sort
  rest : Rest s at (cons (node (head g n us) ks) later) es

first : (s : List ℕ) (at : ℕ) → at < length s → Left s at → First s at
unfolding enc
first s at l (nil, es, a) = absurd (omega (arith, a.span.long))
first s at l (cons (node (head g n us) ks) later, es, a) = record { g = g; n = n; us = us; ks = ks; later = later; es = es; rest = a }

pub left_stands : (s : List ℕ) (at : ℕ) → at < length s → Left s at → HeadStands s at
left_stands s at l (ts, es, a) = rest_head s at ts es l a

ident_none : (g n : ℕ) (us : List Ty) → (g ≡ #FreeIdent → ⊥) → ident_of g n us ≡ []
ident_none g n us d = rw (ne_eqb g #FreeIdent d)

ident_some : (g n : ℕ) (us : List Ty) → g ≡ #FreeIdent → ident_of g n us ≡ named n (carried_ty us) ∷ []
ident_some g n us e = rw (eq-eqb g #FreeIdent e)

module _ (s : List ℕ) (at : ℕ) (o : Opening) (d : OpeningPost s at o) (m : ℕ)
    (em : m ≡ types_of (meant o.form).layout (meant o.form).carried o.number) where
  now : (g n : ℕ) (us : List Ty) (ks later : Forest) (es : List Sort) → Rest s at (cons (node (head g n us) ks) later) es
      → (o.tag ≡ g) × Now s o n us m (at + length (enc_head (head g n us) (count ks)))
  now g n us ks later es a = now_of s at g n us ks later (next s at g n us ks later es a) o d m em

  pub left_types : at < length s → Left s at → Some s o.types m
  left_types l h = let i = first s at l h in (i.us, _, (now i.g i.n i.us i.ks i.later i.es i.rest).1.types)

  module _ (t₀ t₁ : List ℕ) (r : Result ℕ Stop) (p : TypesPost s o.types m t₀ t₁ r) where
    -- the given sets' claims, and then what is said of an identifier's own
    node_by : (t : List ℕ) (b : Result ℕ Stop) → ((g n : ℕ) (us : List Ty) (q : ℕ) → o.tag ≡ g → Now s o n us m q
        → NotedTo s t₀ t₁ (powers (givens_tys us)) q r → NotedTo s t₀ t (powers (givens_tys us) ++ ident_of g n us) q b)
        → NodePost s at t₀ t b
    node_by t b f = record { by = go }
      where
        go : (h : Head) (ks later : Forest) (es : List Sort) → Rest s at (cons (node h ks) later) es
            → NotedTo s t₀ t (claims_of h) (at + length (enc_head h (count ks))) b
        go (head g n us) ks later es a = let v = now g n us ks later es a in
            f g n us (at + length (enc_head (head g n us) (count ks))) v.0 v.1
            (p.by us (at + length (enc_head (head g n us) (count ks))) v.1.types)

    pub node_stops : (e : Stop) → r ≡ Err e → NodePost s at t₀ t₁ (Err e)
    node_stops Beyond er = node_by t₁ (Err Beyond) (λ g n us q z v a. unlisted_early t₀ (powers (givens_tys us)) (ident_of g n us)
        (subst (NotedTo s t₀ t₁ (powers (givens_tys us)) q) er a))
    node_stops Clashed er = node_by t₁ (Err Clashed) (λ g n us q z v a. noted_early s t₀ t₁ (powers (givens_tys us)) (ident_of g n us)
        (subst (NotedTo s t₀ t₁ (powers (givens_tys us)) q) er a))

    module _ (q : ℕ) (er : r ≡ Ok q) where
      pub node_other : (o.tag ≡ #FreeIdent → ⊥) → NodePost s at t₀ t₁ (Ok q)
      node_other ne =
          node_by t₁ (Ok q) (λ g n us y z v a. rw (ident_none g n us (λ e. ne (z ∙ e)), append-nil)
          (subst (NotedTo s t₀ t₁ (powers (givens_tys us)) y) er a))

      pub node_past : o.tag ≡ #FreeIdent → length t₁ ≤ o.number → NodePost s at t₀ t₁ (Err Beyond)
      node_past is k = node_by t₁ (Err Beyond) (λ g n us y z v a.
          let c = subst (NotedTo s t₀ t₁ (powers (givens_tys us)) y) er a in
          let e = v.name is in
          let i = e.0 in
          unlisted_then t₀ t₀ (powers (givens_tys us)) (ident_of g n us) refl (rw (ident_some g n us (sym z ∙ is))
          (unlisted_one t₀ t₁ n (carried_ty us) c.1.size (omega arith) (omega (arith, e.1)))))

      -- what is asked for an identifier's own claim
      pub own_asks : o.tag ≡ #FreeIdent → at < length s → Held s t₀ → Left s at → (o.number < 65536) × Held s t₁ × ((t : Ty) × TypeAt s o.types q t)
      own_asks is l k h =
          let i = first s at l h in
          let v = now i.g i.n i.us i.ks i.later i.es i.rest in
          let e = v.1.name is in
          let c = subst (NotedTo s t₀ t₁ (powers (givens_tys i.us)) _) er (p.by i.us _ v.1.types) in (
            e.1,
            held_then s t₀ t₁ (powers (givens_tys i.us)) k c.1,
            (carried_ty i.us, subst (λ (j : ℕ). TypeAt s o.types j (carried_ty i.us)) (sym c.0) e.2),
          )

      module _ (is : o.tag ≡ #FreeIdent) (t₂ : List ℕ) (fits : Bool) (own : NamePost s o.number o.types q t₁ t₂ fits) where
        own_claim : (g n : ℕ) (us : List Ty) (y : ℕ) → o.tag ≡ g → Now s o n us m y → q ≡ y → Noted s t₁ t₂ (ident_of g n us) fits
        own_claim g n us y z v e =
            let c = v.name is in
            let a : TypeAt s o.types q (carried_ty us) = subst (λ (i : ℕ). TypeAt s o.types i (carried_ty us)) (sym e) c.2 in
            rw (ident_some g n us (sym z ∙ is)) (subst (λ (i : ℕ). Noted s t₁ t₂ (named i (carried_ty us) ∷ []) fits) c.0
            (own.by (carried_ty us) a))

        both : (b : Bool) → fits ≡ b → (g n : ℕ) (us : List Ty) (y : ℕ) → o.tag ≡ g → Now s o n us m y
            → NotedTo s t₀ t₁ (powers (givens_tys us)) y r → (q ≡ y) × Noted s t₀ t₂ (powers (givens_tys us) ++ ident_of g n us) b
        both b f g n us y z v a =
            let c = subst (NotedTo s t₀ t₁ (powers (givens_tys us)) y) er a in (
              c.0,
              noted_then s t₀ t₁ t₂ (powers (givens_tys us)) (ident_of g n us) b c.1
                  (subst (λ (i : Bool). Noted s t₁ t₂ (ident_of g n us) i) f (own_claim g n us y z v c.0)),
            )

        pub node_differs : fits ≡ false → NodePost s at t₀ t₂ (Err Clashed)
        node_differs f = node_by t₂ (Err Clashed) (λ g n us y z v a. (both false f g n us y z v a).1)

        pub node_named : fits ≡ true → NodePost s at t₀ t₂ (Ok q)
        node_named f = node_by t₂ (Ok q) (both true f)

-- ---- the loop of note_nodes: what is left, and what its end says of all
-- how claims were noted
abbrev pub NamesAnswer : List ℕ → List ℕ → List ℕ → List Named → Result (Unit {0}) Stop → Type 0
NamesAnswer s before after new (Ok tt) = Noted s before after new true
NamesAnswer s before after new (Err Clashed) = Noted s before after new false
NamesAnswer s before after new (Err Beyond) = Unlisted before new

pub record NamesPost (s : List ℕ) (at : ℕ) (before after : List ℕ) (r : (Result (Unit {0}) Stop)) : Type 0 where
  pub by : (ts : Forest) (es : List Sort) → Rest s at ts es → NamesAnswer s before after (claims_in ts) r

claims_now : (h : Head) (ks later : Forest) → claims_in (cons (node h ks) later) ≡ claims_of h ++ claims_in (append ks later)
unfolding claims
claims_now h ks later = rw claims_append (append_assoc (claims_of h) (claims_in ks) (claims_in later))

nodes_end : (s : List ℕ) (at : ℕ) (table : List ℕ) → length s ≤ at → NamesPost s at table table (Ok tt)
unfolding claims enc
nodes_end s at table l = record { by = go }
  where
    go : (ts : Forest) (es : List Sort) → Rest s at ts es → Noted s table table (claims_in ts) true
    go nil es a = noted_nil s table
    go (cons t ts) es a = absurd (omega (arith, a.span.long, length-append (enc t) (encs ts), enc_long t))

answer_then : (s t₀ t₁ t₂ : List ℕ) (xs ys : List Named) (b : (Result (Unit {0}) Stop)) → Noted s t₀ t₁ xs true → NamesAnswer s t₁ t₂ ys b
    → NamesAnswer s t₀ t₂ (xs ++ ys) b
answer_then s t₀ t₁ t₂ xs ys (Ok tt) a c = noted_then s t₀ t₁ t₂ xs ys true a c
answer_then s t₀ t₁ t₂ xs ys (Err Clashed) a c = noted_then s t₀ t₁ t₂ xs ys false a c
answer_then s t₀ t₁ t₂ xs ys (Err Beyond) a c = unlisted_then t₀ t₁ xs ys a.size c

-- the rest of the nodes, by the first
module _ (s : List ℕ) (at : ℕ) (l : at < length s) (t₀ t₁ : List ℕ) (r : Result ℕ Stop) (p : NodePost s at t₀ t₁ r) (t : List ℕ) (b : (Result (Unit {0}) Stop))
    (f : (h : Head) (ks later : Forest) (q : ℕ) (es : List Sort) → Rest s q (append ks later) es → NotedTo s t₀ t₁ (claims_of h) q r
    → NamesAnswer s t₀ t (claims_of h ++ claims_in (append ks later)) b) where
  by_first : NamesPost s at t₀ t b
  unfolding enc
  by_first = record { by = go }
    where
      go : (ts : Forest) (es : List Sort) → Rest s at ts es → NamesAnswer s t₀ t (claims_in ts) b
      go nil es a = absurd (omega (arith, a.span.long))
      go (cons (node (head g n us) ks) later) es a =
          let h : Head = head g n us in
          let v = next s at g n us ks later es a in
          subst (λ (i : List Named). NamesAnswer s t₀ t i b) (sym (claims_now h ks later))
          (f h ks later (at + length (enc_head h (count ks))) v.sorts v.after (p.by h ks later es a))

pub record Over (s : List ℕ) (t₀ : List ℕ) (at : ℕ) (t₁ : List ℕ) : Type 0 where
  pub held : Held s t₁
  pub size : length t₁ ≡ length t₀
  pub left : Left s at
  pub back : (t₂ : List ℕ) (b : (Result (Unit {0}) Stop)) → NamesPost s at t₁ t₂ b → NamesPost s 0 t₀ t₂ b

module _ (s : List ℕ) (t₀ : List ℕ) where
  pub over_begins : Held s t₀ → Left s 0 → Over s t₀ 0 t₀
  over_begins h a = record { held = h; size = refl; left = a; back = λ t₂ b x. x }

  module _ (at : ℕ) (t₁ : List ℕ) (g : Over s t₀ at t₁) where
    pub over_done : length s ≤ at → NamesPost s 0 t₀ t₁ (Ok tt)
    over_done l = g.back t₁ (Ok tt) (nodes_end s at t₁ l)

    module _ (l : at < length s) (t₂ : List ℕ) (r : Result ℕ Stop) (p : NodePost s at t₁ t₂ r) where
      pub over_stops : (e : Stop) → r ≡ Err e → NamesPost s 0 t₀ t₂ (Err e)
      over_stops Clashed e =
          g.back t₂ (Err Clashed) (by_first s at l t₁ t₂ r p t₂ (Err Clashed)
          (λ h ks later q es a n. noted_early s t₁ t₂ (claims_of h) (claims_in (append ks later))
          (subst (NotedTo s t₁ t₂ (claims_of h) q) e n)))
      over_stops Beyond e = g.back t₂ (Err Beyond) (by_first s at l t₁ t₂ r p t₂ (Err Beyond)
          (λ h ks later q es a n. unlisted_early t₁ (claims_of h) (claims_in (append ks later)) (subst (NotedTo s t₁ t₂ (claims_of h) q) e n)))

      module _ (q : ℕ) (e : r ≡ Ok q) where
        onward : (at + 2 ≤ q) × Held s t₂ × (length t₂ ≡ length t₁) × Left s q
        onward =
            let o = first s at l g.left in
            let h : Head = head o.g o.n o.us in
            let v = next s at o.g o.n o.us o.ks o.later o.es o.rest in
            let c = subst (NotedTo s t₁ t₂ (claims_of h) (at + length (enc_head h (count o.ks)))) e
            (p.by h o.ks o.later o.es o.rest) in (
              omega (arith, head_long o.g o.n o.us (count o.ks) at, c.0),
              held_then s t₁ t₂ (claims_of h) g.held c.1,
              c.1.size,
              (append o.ks o.later, v.sorts, subst (λ (i : ℕ). Rest s i (append o.ks o.later) v.sorts) (sym c.0) v.after),
            )

        pub over_further : at < q
        over_further = omega (arith, onward.0)

        pub over_next : Over s t₀ q t₂
        over_next = record {
          held = onward.1;
          size = onward.2 ∙ g.size;
          left = onward.3;
          back = λ t₃ b x. g.back t₃ b (by_first s at l t₁ t₂ r p t₃ b (λ h ks later i es a n. let c = subst (NotedTo s t₁ t₂ (claims_of h) i) e n in
              answer_then s t₁ t₂ t₃ (claims_of h) (claims_in (append ks later)) b c.1
              (x.by (append ks later) es (subst (λ (j : ℕ). Rest s j (append ks later) es) (sym c.0) a))));
        }
