-- What the table of claims says. An identifier claims its type for its number, and a given set in a carried type claims the power of
-- that set for its own.
use Rattle.std.specs.Prelude.{◌≡◌, Option, Some, None, Bool, true, false, List, [], ◌∷◌, ◌++◌, ℕ, suc, ◌+◌, ◌-◌, ◌≤◌, ◌<◌, length, get_or}
use Rattle.frame.specs.Types.{Ty, given, pow}
use Rattle.frame.specs.Tags.{pick}
use Rattle.frame.specs.Encoding.{enc_ty}
use Rattle.frame.specs.Reading.{frame_limit}
use Rattle.frame.specs.WellFormed.{TyWf}
use Rattle.frame.specs.Spans.{Spans}
use Rattle.typing.specs.Members.{In}
use Rattle.typing.specs.Identifiers.{Named, named}
use Rattle.claims.specs.declared.Claim.{Claim}
use Rattle.claims.specs.declared.Claim.TheVariants.{Identifier, GivenSet}

-- one number has claims of two types
pub record Clash (l : List Named) : Type 0 where
  pub number : ℕ
  pub one : Ty
  pub other : Ty
  pub first : In (named number one) l
  pub second : In (named number other) l
  pub differ : one ≡ other → ⊥

-- ---- the table of claims: an entry for each identifier number below its length
-- the bytes of the type u, from p up to q
pub record TypeAt (s : List ℕ) (p q : ℕ) (u : Ty) : Type 0 where
  pub span : Spans s p q (enc_ty u)
  pub wf : TyWf u

-- the entry of a number that a given set has claimed: above one more than any position
abbrev pub given_mark : ℕ
given_mark = 5000

-- who claimed the number of the entry v
abbrev pub EntrySays : ℕ → Option Claim → Type 0
EntrySays v None = v ≡ 0
EntrySays v (Some GivenSet) = v ≡ given_mark
EntrySays v (Some (Identifier p)) = (v ≡ suc p) × (v ≡ given_mark → ⊥)

-- the entry v of the number n says that its type is u: by that mark, or by one more than the position of a type
pub data Says (s : List ℕ) (n v : ℕ) (u : Ty) : Type 0 where
  by_mark : v ≡ given_mark → u ≡ pow (given n) → Says s n v u
  by_place : (p q : ℕ) → v ≡ suc p → p < 4096 → TypeAt s p q u → Says s n v u

-- the table holds these claims, and no others
pub record Told (s table : List ℕ) (done : List Named) : Type 0 where
  pub all : (n : ℕ) (t : Ty) → In (named n t) done → Says s n (get_or table n 0) t
  pub only : (n : ℕ) → (get_or table n 0 ≡ 0 → ⊥) → (u : Ty) × In (named n u) done × Says s n (get_or table n 0) u

-- ---- contracts
-- the table before and after these claims were noted; false where one of them clashed
pub record Noted (s : List ℕ) (before after : List ℕ) (new : List Named) (r : Bool) : Type 0 where
  pub size : length after ≡ length before
  pub by : (done : List Named) → Told s before done → pick {X = Type 0} r (Told s after (done ++ new)) (Clash (done ++ new))

-- whether the type at p is the power of the given set n
pub record PowerPost (s : List ℕ) (p n : ℕ) (r : Bool) : Type 0 where
  pub yes : r ≡ true → TypeAt s p (p + 4) (pow (given n))
  pub not : r ≡ false → (q : ℕ) → TypeAt s p q (pow (given n)) → ⊥

-- whether the type from p up to q stands at e as well
pub record SameType (s : List ℕ) (p q e : ℕ) (r : Bool) : Type 0 where
  pub yes : r ≡ true → (t : Ty) → TypeAt s p q t → TypeAt s e (e + (q - p)) t
  pub not : r ≡ false → (t : Ty) (x : ℕ) → TypeAt s p q t → TypeAt s e x t → ⊥

-- a frame of these bytes, and a table that holds some claims
pub record Held (s table : List ℕ) : Type 0 where
  pub fits : length s ≤ frame_limit
  pub done : List Named
  pub told : Told s table done

pub record NamePost (s : List ℕ) (n p q : ℕ) (before after : List ℕ) (r : Bool) : Type 0 where
  pub by : (t : Ty) → TypeAt s p q t → Noted s before after (named n t ∷ []) r

abbrev pub GivenPost : List ℕ → ℕ → List ℕ → List ℕ → Bool → Type 0
GivenPost s n before after r = Noted s before after (named n (pow (given n)) ∷ []) r
