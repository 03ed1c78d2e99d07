-- Frames: parsing and encoding are inverse between the byte lists that parse and the well formed predicates that fit a frame.
-- Main results: parse_inv, parse_enc, parse_back, enc_bytes, encs_bytes, enc_injective, encs_injective.
use mathlib.Core.Path.{◌≡◌, refl, ap, ◌∙◌, subst}
use mathlib.Core.Bool.{Bool, true, false}
use mathlib.Core.List.{List, [], ◌∷◌, ◌++◌}
use Prim.Native.Nat.{ℕ, suc, ◌≤◌, ◌<◌}
use native.Mathlib.Omega.{arith}
use lib.ListN.{length}
use lib.Dec.{ltb, eqb}
use borrow.Author.Tests.{ltb-false, le-ltb, ne_eqb, eqb-false}
use Rattle.frame.specs.Types.{Ty}
use Rattle.frame.specs.Trees.{head, Tree, node, Forest, nil, cons, count}
use Rattle.frame.specs.Tags.{Sort, predicate, form_of, width, sorts_of}
use Rattle.frame.specs.Encoding.{enc_number, enc_tys, enc_head, enc, encs}
use Rattle.frame.specs.Reading.{Res, ok, no, read_node, tree, bad, frame_limit, whole, sized, parse}
use Rattle.frame.specs.WellFormed.{number_in, HeadWf, Wf, Wfs}
use Rattle.frame.specs.Spans.{Bytes, Spans}
use Rattle.frame.proofs.Spans.{span_whole, span_all, bytes_nil, bytes_append}
use Rattle.frame.proofs.Numbers.{number_bytes}
use Rattle.frame.proofs.ReadTypes.{tys_bytes}
use Rattle.frame.proofs.Inversion.{else_of}
use Rattle.frame.proofs.ReadTrees.{node_enc, node_wf}
use Rattle.frame.proofs.ReadBack.{enc_long, node_back, many_back}

-- ---- parsing
pub bad_not {ℓ} : {X : Type ℓ} {c : ℕ} {t : Tree} → bad c ≡ tree t → X
bad_not e = let z : ◌≡◌ {A = ℕ} 0 1 = cc in absurd (omega arith)

-- what a parse went through
pub record ParseInv (s : List ℕ) (t : Tree) : Type 0 where
  pub some : 0 < length s
  pub fits : length s ≤ frame_limit
  pub end : ℕ
  pub root : read_node (suc (length s)) s predicate 0 ≡ ok t end
  pub all : length s ≤ end

pub parse_inv : (s : List ℕ) (t : Tree) → parse s ≡ tree t → ParseInv s t
unfolding parse
parse_inv s t e = on_size (eqb (length s) 0) (ltb frame_limit (length s)) refl refl e
  where
    on_root : 0 < length s → length s ≤ frame_limit → (x : Res) → read_node (suc (length s)) s predicate 0 ≡ x
        → whole (length s) x ≡ tree t → ParseInv s t
    on_root a b (ok u q) ex e =
        let i = else_of (ltb q (length s)) (bad 7) (tree u) (tree t) (λ z. bad_not z) e in
        let et : u ≡ t = cc i.1 in
        record { some = a; fits = b; end = q; root = ex ∙ ap (λ (v : Tree). ok v q) et; all = ltb-false q (length s) i.0 }
    on_root a b (no c) ex e = bad_not e

    on_size : (a b : Bool) → eqb (length s) 0 ≡ a → ltb frame_limit (length s) ≡ b → sized a b s ≡ tree t → ParseInv s t
    on_size true b ea eb e = bad_not e
    on_size false true ea eb e = bad_not e
    on_size false false ea eb e =
        let z = eqb-false (length s) 0 ea in
        on_root (omega arith) (ltb-false frame_limit (length s) eb) (read_node (suc (length s)) s predicate 0) refl e

-- a list of bytes that parses is the encoding of a well formed predicate
pub record ParseEnc (s : List ℕ) (t : Tree) : Type 0 where
  pub bytes : enc t ≡ s
  pub wf : Wf t predicate
  pub fits : length s ≤ frame_limit

pub parse_enc : (s : List ℕ) → Bytes s → (t : Tree) → parse s ≡ tree t → ParseEnc s t
parse_enc s bs t e =
    let v = parse_inv s t e in
    let a = node_enc (suc (length s)) s bs predicate 0 t v.end v.root in
    let z : v.end ≡ length s = omega (arith, v.all, a.within) in record {
      bytes = span_all (subst (λ (i : ℕ). Spans s 0 i (enc t)) z a);
      wf = node_wf (suc (length s)) s bs predicate 0 t v.end v.root;
      fits = v.fits;
    }

-- the encoding of a well formed predicate parses, where it fits a frame
pub parse_back : (t : Tree) → Wf t predicate → length (enc t) ≤ frame_limit → parse (enc t) ≡ tree t
unfolding parse
parse_back t w l =
    let s : List ℕ = enc t in
    let n : ℕ = length s in
    let h : 2 ≤ n = enc_long t in
    let z : n ≡ 0 → ⊥ = omega arith in
    let r : read_node (suc n) s predicate 0 ≡ ok t n = node_back t (suc n) s predicate 0 n (span_whole s) w (omega arith) in
    rw (ne_eqb n 0 z, le-ltb frame_limit n l, r, le-ltb n n (omega arith))

-- ---- the encoding of a well formed tree is a list of bytes
head_bytes : (e : Sort) (g n : ℕ) (ts : List Ty) (k : ℕ) → HeadWf e g n ts k → Bytes (enc_head (head g n ts) k)
unfolding enc_head
head_bytes e g n ts k w =
    bytes_append (enc_number 2 g) (enc_number (width (form_of g).layout) (number_in g n ts k) ++ enc_tys ts) (number_bytes 2 g w.small)
    (bytes_append (enc_number (width (form_of g).layout) (number_in g n ts k)) (enc_tys ts)
    (number_bytes (width (form_of g).layout) (number_in g n ts k) w.fits) (tys_bytes ts w.types))

mutual
  unfolding enc

  pub enc_bytes : (t : Tree) (e : Sort) → Wf t e → Bytes (enc t)
  enc_bytes (node (head g n ts) ks) e w =
      bytes_append (enc_head (head g n ts) (count ks)) (encs ks) (head_bytes e g n ts (count ks) w.0)
      (encs_bytes ks (sorts_of (form_of g).layout (number_in g n ts (count ks))) w.1)

  pub encs_bytes : (ks : Forest) (es : List Sort) → Wfs ks es → Bytes (encs ks)
  encs_bytes nil es w = bytes_nil
  encs_bytes (cons t ts) [] w = absurd w
  encs_bytes (cons t ts) (e ∷ es) w = bytes_append (enc t) (encs ts) (enc_bytes t e w.0) (encs_bytes ts es w.1)

-- ---- trees with the same bytes are the same: both are read from them
pub enc_injective : (t u : Tree) (e : Sort) → Wf t e → Wf u e → enc t ≡ enc u → t ≡ u
enc_injective t u e w v q =
    let s : List ℕ = enc u in
    let n : ℕ = length s in
    let a : Spans s 0 n (enc t) = rw q (span_whole s) in
    cc (node_back t (suc n) s e 0 n a w (omega arith), node_back u (suc n) s e 0 n (span_whole s) v (omega arith))

pub encs_injective : (ts us : Forest) (es : List Sort) → Wfs ts es → Wfs us es → encs ts ≡ encs us → ts ≡ us
encs_injective ts us es w v q =
    let s : List ℕ = encs us in
    let n : ℕ = length s in
    let a : Spans s 0 n (encs ts) = rw q (span_whole s) in
    cc (many_back ts (suc n) s es 0 n a w (omega arith), many_back us (suc n) s es 0 n (span_whole s) v (omega arith))
