-- What a frame is turned down for by reading is the number of a refusal.
-- Main result: bad_number.
use Rattle.std.proofs.Common.{◌≡◌, ℕ, zero, suc, ◌+◌, Bool, true, false, List, [], ◌∷◌, length, get_or, ltb, leb, eqb, refl, subst}
use Rattle.frame.specs.declared.refusals.Refusal.TheVariants.{BadLength, EndsInside, BadTag, BadCount, BadType, BytesFollow}
use Rattle.frame.specs.Refusals.{IsNumber}
use Rattle.frame.specs.Trees.{Tree}
use Rattle.frame.specs.Tags.{pick, Sort, predicate, same_sort, Form, form_of, width, in_range, types_of}
use Rattle.frame.specs.Reading.{
  number_at,
  TyRes,
  ok_t,
  no_t,
  then_t,
  ty_byte,
  byte_of,
  ty_case,
  read_ty,
  type_limit,
  TysRes,
  ok_ts,
  no_ts,
  then_ts,
  read_tys,
  HeadRes,
  ok_h,
  no_h,
  with_tys,
  with_number,
  with_form,
  read_head,
  Res,
  ok,
  no,
  FRes,
  ok_f,
  no_f,
  cons_f,
  then_f,
  read_many,
  node_of,
  with_kids,
  read_node,
  Parsed,
  tree,
  bad,
  frame_limit,
  whole,
  sized,
  parse,
}

either : {A : Type 0} (P : A → Type 0) (b : Bool) (x y : A) → P x → P y → P (pick b x y)
either P true x y h k = h
either P false x y h k = k

-- ---- types
abbrev TyNumber : TyRes → Type 0
TyNumber (ok_t t p) = Unit {0}
TyNumber (no_t c) = IsNumber c

byte_number : (lim : ℕ) (s : List ℕ) (p : ℕ) (k : ℕ → TyRes) → ((b : ℕ) → TyNumber (k b)) → TyNumber (byte_of lim s p k)
byte_number lim s p k h = go (leb lim p) (leb (length s) p)
  where
    go : (a e : Bool) → TyNumber (ty_byte a e (get_or s p 0) k)
    go true e = (BadType, refl)
    go false true = (EndsInside, refl)
    go false false = h (get_or s p 0)

then_number : (x : TyRes) (k : _ → ℕ → TyRes) → TyNumber x → ((t : _) (p : ℕ) → TyNumber (k t p)) → TyNumber (then_t x k)
then_number (ok_t t p) k h g = g t p
then_number (no_t c) k h g = h

case_number : (b lim : ℕ) (s : List ℕ) (at : ℕ) (go : ℕ → TyRes) → ((p : ℕ) → TyNumber (go p)) → TyNumber (ty_case b lim s at go)
unfolding ty_case
case_number zero lim s at go h = tt
case_number (suc zero) lim s at go h = tt
case_number (suc (suc zero)) lim s at go h = byte_number lim s (at + 1) _ (λ a. byte_number lim s (at + 2) _ (λ b. tt))
case_number (suc (suc (suc zero))) lim s at go h = then_number (go (at + 1)) _ (h (at + 1)) (λ t p. tt)
case_number (suc (suc (suc (suc zero)))) lim s at go h =
    then_number (go (at + 1)) _ (h (at + 1)) (λ t p. then_number (go p) _ (h p) (λ u q. tt))
case_number (suc (suc (suc (suc (suc b))))) lim s at go h = (BadType, refl)

ty_number : (f lim : ℕ) (s : List ℕ) (at : ℕ) → TyNumber (read_ty f lim s at)
unfolding read_ty
ty_number zero lim s at = (BadType, refl)
ty_number (suc f) lim s at = byte_number lim s at _ (λ b. case_number b lim s at (read_ty f lim s) (ty_number f lim s))

abbrev TysNumber : TysRes → Type 0
TysNumber (ok_ts ts p) = Unit {0}
TysNumber (no_ts c) = IsNumber c

pub tys_number : (n : ℕ) (s : List ℕ) (p : ℕ) → TysNumber (read_tys n s p)
unfolding read_tys
tys_number zero s p = tt
tys_number (suc n) s p = go (read_ty (suc type_limit) (p + type_limit) s p) (ty_number (suc type_limit) (p + type_limit) s p) (tys_number n s)
  where
    rest : (t : _) (x : TysRes) → TysNumber x → TysNumber (then_ts (ok_t t p) (λ q. x))
    rest t (ok_ts ts q) h = tt
    rest t (no_ts c) h = h

    go : (x : TyRes) → TyNumber x → ((q : ℕ) → TysNumber (read_tys n s q)) → TysNumber (then_ts x (λ q. read_tys n s q))
    go (ok_t t q) h ih = rest t (read_tys n s q) (ih q)
    go (no_t c) h ih = h

-- ---- heads
abbrev HeadNumber : HeadRes → Type 0
HeadNumber (ok_h h p es) = Unit {0}
HeadNumber (no_h c) = IsNumber c

pub head_number : (s : List ℕ) (at : ℕ) (e : Sort) → HeadNumber (read_head s at e)
unfolding read_head with_form with_number
head_number s at e =
    let fm = form_of (number_at 2 s at) in
    let x = number_at (width fm.layout) s (at + 2) in
    let p = at + 2 + width fm.layout in
    either HeadNumber (ltb (length s) (at + 2)) _ _ (EndsInside, refl)
    (either HeadNumber fm.listed _ _
    (either HeadNumber (same_sort fm.sort e) _ _
    (either HeadNumber (ltb (length s) p) _ _ (EndsInside, refl)
    (either HeadNumber (in_range fm.layout x) _ _
    (types fm (number_at 2 s at) x (read_tys (types_of fm.layout fm.carried x) s p) (tys_number _ s p)) (BadCount, refl)))
    (BadTag, refl))
    (BadTag, refl))
  where
    types : (fm : Form) (g x : ℕ) (r : TysRes) → TysNumber r → HeadNumber (with_tys fm g x r)
    types fm g x (ok_ts ts q) h = tt
    types fm g x (no_ts c) h = h

-- ---- trees
abbrev TreeNumber : Res → Type 0
TreeNumber (ok t p) = Unit {0}
TreeNumber (no c) = IsNumber c

abbrev TreesNumber : FRes → Type 0
TreesNumber (ok_f ts p) = Unit {0}
TreesNumber (no_f c) = IsNumber c

many_number : (es : List Sort) (go : Sort → ℕ → Res) → ((e : Sort) (p : ℕ) → TreeNumber (go e p)) → (p : ℕ) → TreesNumber (read_many es go p)
unfolding read_many
many_number [] go h p = tt
many_number (e ∷ es) go h p = first (go e p) (h e p) (many_number es go h)
  where
    rest : (t : Tree) (x : FRes) → TreesNumber x → TreesNumber (cons_f t x)
    rest t (ok_f ts q) g = tt
    rest t (no_f c) g = g

    first : (x : Res) → TreeNumber x → ((q : ℕ) → TreesNumber (read_many es go q)) → TreesNumber (then_f x (λ q. read_many es go q))
    first (ok t q) g ih = rest t (read_many es go q) (ih q)
    first (no c) g ih = g

node_number : (f : ℕ) (s : List ℕ) (e : Sort) (at : ℕ) → TreeNumber (read_node f s e at)
unfolding read_node
node_number zero s e at = (EndsInside, refl)
node_number (suc f) s e at = go (read_head s at e) (head_number s at e) (node_number f s)
  where
    made : (h : _) (x : FRes) → TreesNumber x → TreeNumber (node_of h x)
    made h (ok_f ts q) g = tt
    made h (no_f c) g = g

    go : (x : HeadRes) → HeadNumber x → ((e : Sort) (p : ℕ) → TreeNumber (read_node f s e p)) → TreeNumber (with_kids x (read_node f s))
    go (ok_h h p es) g ih = made h (read_many es (read_node f s) p) (many_number es (read_node f s) ih p)
    go (no_h c) g ih = g

-- ---- a frame
abbrev FrameNumber : Parsed → Type 0
FrameNumber (tree t) = Unit {0}
FrameNumber (bad c) = IsNumber c

frame_number : (s : List ℕ) → FrameNumber (parse s)
unfolding parse
frame_number s = go (eqb (length s) 0) (ltb frame_limit (length s))
  where
    ended : (x : Res) → TreeNumber x → FrameNumber (whole (length s) x)
    ended (ok t q) h = either FrameNumber (ltb q (length s)) _ _ (BytesFollow, refl) tt
    ended (no c) h = h

    go : (a b : Bool) → FrameNumber (sized a b s)
    go true b = (BadLength, refl)
    go false true = (BadLength, refl)
    go false false = ended (read_node (suc (length s)) s predicate 0) (node_number (suc (length s)) s predicate 0)

pub bad_number : (s : List ℕ) (c : ℕ) → parse s ≡ bad c → IsNumber c
bad_number s c e = subst FrameNumber e (frame_number s)
