-- What the code of heads answers, by the definitions of frame/specs/Reading.antt: what a head says, as a function of a result.
use Rattle.std.specs.Prelude.{ℕ, ◌+◌, ◌-◌, ◌≤◌, ◌≡◌, List, length, eqb, ltb, Result, Ok, Err}
use Rattle.std.specs.Result.{result_map_both}
use Rattle.frame.specs.Types.{Ty}
use Rattle.frame.specs.Trees.{Head, head, Tree}
use Rattle.frame.specs.Refusals.{refusal}
use Rattle.frame.specs.declared.refusals.Refusal.{Refusal}
use Rattle.frame.specs.Tags as T
use Rattle.frame.specs.Tags.{pick, width, payload_of, sorts_of, class_of}
use Rattle.tags.specs.declared.forms.Sort.{Sort}
use Rattle.tags.specs.TagCodes.{meant, form_code, first_sort, later_sort}
use Rattle.frame.specs.Encoding.{enc_tys}
use Rattle.frame.specs.Reading.{number_at, HeadRes, ok_h, no_h, read_head}
use Rattle.frame.specs.Spans.{Spans}
use Rattle.frame.specs.At.{types_at, IsAt}
use Rattle.heads.specs.declared.Opening.{Opening}
use Rattle.heads.specs.declared.Head.{Head as ReadHead}

-- ---- heads
-- its tag and payload, where its types start, where its children start, how many these are, and the sorts of the first and of the
-- later ones
pub data HeadFacts : Type 0 where
  facts : ℕ → ℕ → ℕ → ℕ → ℕ → Sort → Sort → HeadFacts

abbrev pub head_answer : ℕ → HeadRes → Result HeadFacts Refusal
head_answer tp (ok_h (head g n ts) p es) = Ok (facts g n tp p (length es) (first_sort es) (later_sort es))
head_answer tp (no_h c) = Err (refusal c)

-- what is answered for the head at `at`
abbrev pub head_there : List ℕ → ℕ → T.Sort → Result HeadFacts Refusal
head_there s at e = head_answer (types_at s at) (read_head s at e)

-- what the code's head says: the payload, and sorts of which the first and the later one are those of its children
abbrev pub payload_in : ReadHead → ℕ
payload_in h = payload_of (meant h.form).layout h.number

abbrev pub sorts_in : ReadHead → List T.Sort
sorts_in h = sorts_of (meant h.form).layout 1

abbrev pub said : ReadHead → HeadFacts
said h = facts h.tag (payload_in h) h.types h.children h.count (first_sort (sorts_in h)) (later_sort (sorts_in h))

abbrev pub answered : Result ReadHead Refusal → Result HeadFacts Refusal
answered r = result_map_both said (λ c. c) r

-- the head that begins so, with its children from `children` on
abbrev pub headed : Opening → ℕ → ReadHead
headed o children = record {
  tag = o.tag;
  form = o.form;
  number = o.number;
  types = o.types;
  children = children;
  count = length (sorts_of (meant o.form).layout o.number);
}

-- ---- what was read before
-- m types stand in a row from `at` on
abbrev pub TypesStand : List ℕ → ℕ → ℕ → Type 0
TypesStand s at m = (us : List Ty) × (q : ℕ) × (length us ≡ m) × Spans s at q (enc_tys us)

-- r is where they end
pub record SkipPost (s : List ℕ) (at m r : ℕ) : Type 0 where
  pub ends : (us : List Ty) (q : ℕ) → length us ≡ m → Spans s at q (enc_tys us) → r ≡ q

-- how many bytes of a type stand before its parts, and how many parts it has, by its first byte
abbrev pub lead_of : ℕ → ℕ
lead_of b = pick (eqb b 2) 3 1

abbrev pub parts_of : ℕ → ℕ
parts_of b = pick (ltb b 3) 0 (b - 2)

-- a tree of some sort stands at `at`
abbrev pub HeadStands : List ℕ → ℕ → Type 0
HeadStands s at = (e : T.Sort) × (t : Tree) × (q : ℕ) × IsAt s e at t q

-- o is how its head begins
pub record OpeningPost (s : List ℕ) (at : ℕ) (o : Opening) : Type 0 where
  pub tag : o.tag ≡ number_at 2 s at
  pub form : o.form ≡ form_code (class_of o.tag)
  pub number : o.number ≡ number_at (width (meant o.form).layout) s (at + 2)
  pub types : o.types ≡ at + 2 + width (meant o.form).layout
  pub within : o.types ≤ length s

-- r is where its head ends
pub record HeadEnd (s : List ℕ) (at r : ℕ) : Type 0 where
  pub by : (e : T.Sort) (t : Tree) (q : ℕ) → IsAt s e at t q → (h : Head) (p : ℕ) (es : List T.Sort) → read_head s at e ≡ ok_h h p es → r ≡ p

-- r is the head there: its form is that of its tag, its number stands behind the tag, and it says all that the definition answers
pub record KnownPost (s : List ℕ) (at : ℕ) (r : ReadHead) : Type 0 where
  pub form : r.form ≡ form_code (class_of r.tag)
  pub number : r.number ≡ number_at (width (meant r.form).layout) s (at + 2)
  pub by : (e : T.Sort) (t : Tree) (q : ℕ) → IsAt s e at t q → Ok (said r) ≡ head_there s at e
