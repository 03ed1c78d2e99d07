-- What a head that the code answers says of the definition's.
-- Main results: head_no, head_yes, head_kinds, said_kinds; handed_on (what `?` hands on).
use mathlib.Core.Path.{◌≡◌, refl, sym, ap, ap₂, ◌∙◌}
use mathlib.Core.Bool.{true}
use mathlib.Core.List.{List}
use Prim.Native.Nat.{ℕ}
use lib.ListN.{length}
use Rattle.std.proofs.Common.{Ok, Err}
use Rattle.frame.specs.Types.{Ty}
use Rattle.frame.specs.Trees.{head, Head}
use Rattle.frame.specs.Refusals.{refusal}
use Rattle.frame.specs.declared.refusals.Refusal.{Refusal}
use Rattle.frame.specs.Tags as T
use Rattle.frame.specs.Tags.{in_range, sorts_of, class_of}
use Rattle.tags.specs.declared.forms.Sort.{Sort}
use Rattle.tags.specs.TagCodes.{meant, form_code, first_sort, later_sort, kinds_for}
use Rattle.frame.specs.Reading.{HeadRes, ok_h, no_h, read_head}
use Rattle.frame.specs.At.{types_at}
use Rattle.heads.specs.HeadPost.{facts, head_answer, head_there}
use Rattle.frame.proofs.Inversion.{head_inv, behind, tag_at}
use Rattle.tags.proofs.TagTables.{code_form}
use Rattle.tags.proofs.FormTables.{kinds_at}
pub use Rattle.types.proofs.TypeTurns.{handed_on}

-- ---- answers and results
no_of : (tp : ℕ) (x : HeadRes) (r : Refusal) → Err r ≡ head_answer tp x → (c : ℕ) × (x ≡ no_h c) × (r ≡ refusal c)
no_of tp (ok_h (head g n ts) p es) r e = cc
no_of tp (no_h d) r e = (d, refl, cc)

pub head_no : (s : List ℕ) (at : ℕ) (e : T.Sort) (r : Refusal) → Err r ≡ head_there s at e → (c : ℕ) × (read_head s at e ≡ no_h c) × (r ≡ refusal c)
head_no s at e r eq = no_of (types_at s at) (read_head s at e) r eq

-- the head that an answer says, with the sorts of its children
pub record HeadSaid (from : ℕ) (x : HeadRes) (g n tp p k : ℕ) (a b : Sort) : Type 0 where
  pub ts : List Ty
  pub es : List T.Sort
  pub is : x ≡ ok_h (head g n ts) p es
  pub starts : tp ≡ from
  pub many : k ≡ length es
  pub first : a ≡ first_sort es
  pub later : b ≡ later_sort es

yes_of : (from : ℕ) (x : HeadRes) (g n tp p k : ℕ) (a b : Sort) → Ok (facts g n tp p k a b) ≡ head_answer from x → HeadSaid from x g n tp p k a b
yes_of from (ok_h (head g' n' ts) p' es) g n tp p k a b e = record { ts = ts; es = es; is = cc; starts = cc; many = cc; first = cc; later = cc }
yes_of from (no_h d) g n tp p k a b e = cc

abbrev pub SaidThere : List ℕ → ℕ → T.Sort → (g n tp p k : ℕ) (a b : Sort) → Type 0
SaidThere s at e = HeadSaid (types_at s at) (read_head s at e)

pub head_yes : (s : List ℕ) (at : ℕ) (e : T.Sort) (g n tp p k : ℕ) (a b : Sort) → Ok (facts g n tp p k a b) ≡ head_there s at e
    → SaidThere s at e g n tp p k a b
head_yes s at e g n tp p k a b eq = yes_of (types_at s at) (read_head s at e) g n tp p k a b eq

-- the sorts of the children of a head that is read, by the first and the later ones
pub head_kinds : (s : List ℕ) (at : ℕ) (e : T.Sort) (h : Head) (p : ℕ) (es : List T.Sort) → read_head s at e ≡ ok_h h p es
    → kinds_for (length es) (first_sort es) (later_sort es) ≡ es
head_kinds s at e h p es eq =
    let v = head_inv s at e h p es eq in
    let f = form_code (class_of (tag_at s at)) in
    let fm = code_form (tag_at s at) f refl in
    let r : in_range (meant f).layout (behind s at) ≡ true = ap (λ fm. in_range fm.layout (behind s at)) fm ∙ v.range in
    let all = (kinds_at f (behind s at) r).all in
    let es' : sorts_of (meant f).layout (behind s at) ≡ es = ap (λ fm. sorts_of fm.layout (behind s at)) fm ∙ sym v.sorts in
    rw es' at all

-- the sorts that an answer says are those of the children
pub said_kinds : (s : List ℕ) (at : ℕ) (e : T.Sort) (g n tp p k : ℕ) (a b : Sort) (y : SaidThere s at e g n tp p k a b) → kinds_for k a b ≡ y.es
said_kinds s at e g n tp p k a b y =
    ap (λ (i : ℕ). kinds_for i a b) y.many
    ∙ ap₂ (λ (i j : Sort). kinds_for (length y.es) i j) y.first y.later
    ∙ head_kinds s at e (head g n y.ts) p y.es y.is
