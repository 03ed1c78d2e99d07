-- What is known of an accepted frame.
-- Main results: accepted_parse (it parses to its tree), read_framed (what the reader answers is that tree's frame, with its table).
use mathlib.Core.Path.{◌≡◌, sym, ap, ◌∙◌, subst}
use mathlib.Core.List.{List, []}
use Prim.Native.Nat.{ℕ}
use Rattle.std.proofs.Common.{Ok}
use Rattle.frame.specs.Trees.{Tree, nodes}
use Rattle.frame.specs.Tags.{predicate}
use Rattle.frame.specs.Reading.{tree, parse}
use Rattle.frame.specs.Spans.{Bytes}
use Rattle.frame.proofs.Frames.{parse_back}
use Rattle.reading.specs.Post.{frame_answer, table_of}
use Rattle.reading.specs.declared.FrameRead.{FrameRead}
use Rattle.typing.specs.Check.{accepted, check}
use Rattle.typing.specs.Signature.{signature}
use Rattle.typing.proofs.Checked.{check_accepts}
use Rattle.typing.proofs.Decides.{accepted_wf}
use Rattle.nav.specs.PlaceTables.{Framed}
use Rattle.nav.proofs.SamePlaces.{framed_read}

pub accepted_parse : (s : List ℕ) → Bytes s → (t : Tree) → check s ≡ accepted t → parse s ≡ tree t
accepted_parse s b t e =
    let a = check_accepts s b t e in
    ap parse (sym a.bytes) ∙ parse_back t (accepted_wf (signature t) t [] predicate a.accepted) (rw a.bytes a.fits)

pub read_framed : (s : List ℕ) → Bytes s → (f : FrameRead) → Ok f ≡ frame_answer (parse s) → (t : Tree) → parse s ≡ tree t
    → Framed s t f.starts f.nodes
read_framed s b f e t p =
    let is : Ok f ≡ frame_answer (tree t) = e ∙ ap frame_answer p in
    let starts : f.starts ≡ table_of (tree t) = cc in
    let many : nodes t ≡ f.nodes = cc in
    subst (λ (i : ℕ). Framed s t f.starts i) many (framed_read s b t p f.starts (starts ∙ sym (ap table_of p)))
