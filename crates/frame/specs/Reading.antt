-- Reading a frame (document 01, "Numbers of what is turned down", 2 to 7). A position is a number of bytes from the
-- frame's start. Each definition tests from left to right, so that 3 to 6 "go by the first met".
use Rattle.std.specs.Prelude.{ℕ, zero, suc, ◌+◌, ◌*◌, ◌^◌, Bool, true, false, List, [], ◌∷◌, length, get_or, ltb, leb, eqb}
use Rattle.frame.specs.Types.{Ty, bool, int, given, pow, prod}
use Rattle.frame.specs.Trees.{Head, head, Tree, node, Forest, nil, cons}
use Rattle.frame.specs.Tags.{pick, Sort, predicate, same_sort, Form, form_of, width, in_range, payload_of, types_of, sorts_of}

-- "Every number of several bytes stands high byte first": the number in the w bytes at p
unfoldable pub number_at : ℕ → List ℕ → ℕ → ℕ
number_at zero s p = 0
number_at (suc w) s p = get_or s p 0 * 256 ^ w + number_at w s (p + 1)

-- ---- types
pub data TyRes : Type 0 where
  -- a type, and where it ends
  ok_t : Ty → ℕ → TyRes
  -- a number of document 01
  no_t : ℕ → TyRes

abbrev pub then_t : TyRes → (Ty → ℕ → TyRes) → TyRes
then_t (ok_t t p) k = k t p
then_t (no_t c) k = no_t c

-- whether it is past the limit, whether it is past the end, and the byte, handed on to k.
-- "6. [..] 64 bytes leave a type unfinished" comes before "3. [..] the bytes end inside a [..] type": the byte past the limit is not read.
abbrev pub ty_byte : Bool → Bool → ℕ → (ℕ → TyRes) → TyRes
ty_byte true e b k = no_t 6
ty_byte false true b k = no_t 3
ty_byte false false b k = k b

-- the next byte of a type that has to end by lim, in a frame s
abbrev pub byte_of : ℕ → List ℕ → ℕ → (ℕ → TyRes) → TyRes
byte_of lim s p k = ty_byte (leb lim p) (leb (length s) p) (get_or s p 0) k

-- what the byte b at `at` begins; go reads a type further on
unfoldable pub ty_case : ℕ → ℕ → List ℕ → ℕ → (ℕ → TyRes) → TyRes
ty_case zero lim s at go = ok_t bool (at + 1)
ty_case (suc zero) lim s at go = ok_t int (at + 1)
ty_case (suc (suc zero)) lim s at go =
    byte_of lim s (at + 1) (λ h. byte_of lim s (at + 2) (λ l. ok_t (given (h * 256 + l)) (at + 3)))
ty_case (suc (suc (suc zero))) lim s at go = then_t (go (at + 1)) (λ t p. ok_t (pow t) p)
ty_case (suc (suc (suc (suc zero)))) lim s at go = then_t (go (at + 1)) (λ t p. then_t (go p) (λ u q. ok_t (prod t u) q))
-- "6. A type byte is above 04"
ty_case (suc (suc (suc (suc (suc b))))) lim s at go = no_t 6

-- the type at `at`; the fuel is more than the bytes up to lim
unfoldable pub read_ty : ℕ → ℕ → List ℕ → ℕ → TyRes
read_ty zero lim s at = no_t 6
read_ty (suc f) lim s at = byte_of lim s at (λ b. ty_case b lim s at (read_ty f lim s))

-- "A type has at most 64 bytes"
abbrev pub type_limit : ℕ
type_limit = 64

-- n types in a row
pub data TysRes : Type 0 where
  ok_ts : List Ty → ℕ → TysRes
  no_ts : ℕ → TysRes

abbrev pub cons_ts : Ty → TysRes → TysRes
cons_ts t (ok_ts ts p) = ok_ts (t ∷ ts) p
cons_ts t (no_ts c) = no_ts c

abbrev pub then_ts : TyRes → (ℕ → TysRes) → TysRes
then_ts (ok_t t p) k = cons_ts t (k p)
then_ts (no_t c) k = no_ts c

unfoldable pub read_tys : ℕ → List ℕ → ℕ → TysRes
read_tys zero s p = ok_ts [] p
read_tys (suc n) s p = then_ts (read_ty (suc type_limit) (p + type_limit) s p) (λ q. read_tys n s q)

-- ---- heads
pub data HeadRes : Type 0 where
  -- a head, where its children start, and their sorts
  ok_h : Head → ℕ → List Sort → HeadRes
  no_h : ℕ → HeadRes

abbrev pub with_tys : Form → ℕ → ℕ → TysRes → HeadRes
with_tys fm g x (ok_ts ts q) = ok_h (head g (payload_of fm.layout x) ts) q (sorts_of fm.layout x)
with_tys fm g x (no_ts c) = no_h c

-- the tag g and the number x have been read, up to p: "5. A count is outside its range."
unfoldable pub with_number : Form → List ℕ → ℕ → ℕ → ℕ → HeadRes
with_number fm s g x p =
    pick (in_range fm.layout x) (with_tys fm g x (read_tys (types_of fm.layout fm.carried x) s p)) (no_h 5)

-- the tag has been read: "4. A tag isn't listed, or a predicate stands where an expression must, or the reverse."
unfoldable pub with_form : Form → List ℕ → ℕ → Sort → HeadRes
with_form fm s at e =
    pick fm.listed
    (pick (same_sort fm.sort e)
    (pick (ltb (length s) (at + 2 + width fm.layout)) (no_h 3)
    (with_number fm s (number_at 2 s at) (number_at (width fm.layout) s (at + 2)) (at + 2 + width fm.layout)))
    (no_h 4))
    (no_h 4)

-- the head at `at` of a tree of this sort: "3. Reading left to right, the bytes end inside a node or type"
unfoldable pub read_head : List ℕ → ℕ → Sort → HeadRes
read_head s at e = pick (ltb (length s) (at + 2)) (no_h 3) (with_form (form_of (number_at 2 s at)) s at e)

-- ---- trees
pub data Res : Type 0 where
  -- a tree, and where it ends
  ok : Tree → ℕ → Res
  no : ℕ → Res

pub data FRes : Type 0 where
  ok_f : Forest → ℕ → FRes
  no_f : ℕ → FRes

abbrev pub cons_f : Tree → FRes → FRes
cons_f t (ok_f ts q) = ok_f (cons t ts) q
cons_f t (no_f c) = no_f c

abbrev pub then_f : Res → (ℕ → FRes) → FRes
then_f (ok t q) k = cons_f t (k q)
then_f (no c) k = no_f c

-- trees of these sorts in a row, each read by go
unfoldable pub read_many : List Sort → (Sort → ℕ → Res) → ℕ → FRes
read_many [] go p = ok_f nil p
read_many (e ∷ es) go p = then_f (go e p) (λ q. read_many es go q)

abbrev pub node_of : Head → FRes → Res
node_of h (ok_f ts q) = ok (node h ts) q
node_of h (no_f c) = no c

abbrev pub with_kids : HeadRes → (Sort → ℕ → Res) → Res
with_kids (ok_h h p es) go = node_of h (read_many es go p)
with_kids (no_h c) go = no c

-- the tree of sort e at `at`; the fuel is more than the bytes that are left
unfoldable pub read_node : ℕ → List ℕ → Sort → ℕ → Res
read_node zero s e at = no 3
read_node (suc f) s e at = with_kids (read_head s at e) (read_node f s)

-- ---- a frame
pub data Parsed : Type 0 where
  tree : Tree → Parsed
  bad : ℕ → Parsed

-- "A frame is one predicate as bytes, 1 to 4,096"
abbrev pub frame_limit : ℕ
frame_limit = 4096

-- "7. Bytes follow the root's end."
abbrev pub whole : ℕ → Res → Parsed
whole n (ok t q) = pick (ltb q n) (bad 7) (tree t)
whole n (no c) = bad c

abbrev pub sized : Bool → Bool → List ℕ → Parsed
sized true b s = bad 2
sized false true s = bad 2
sized false false s = whole (length s) (read_node (suc (length s)) s predicate 0)

-- "2. The frame has no byte or more than 4,096." Then 3 to 7.
unfoldable pub parse : List ℕ → Parsed
parse s = sized (eqb (length s) 0) (ltb frame_limit (length s)) s
