-- What it is for a tree to be accepted, said at each node: the numbers 3 to 10 can't arise. Of trees whose bytes are no more than a frame
-- may have, `check` accepts just these (typing/proofs); the rules keep it (rules/proofs).
--
-- σ gives each identifier number its type. A tree gets number 9 exactly where no such σ exists.
use Rattle.std.specs.Prelude.{◌≡◌, true, List, [], ◌∷◌, ℕ, ◌≤◌, ◌<◌, length, eqb}
use Rattle.frame.specs.Types.{Ty, bool, int, given, pow, prod}
use Rattle.frame.specs.Trees.{head, Tree, node, Forest, nil, cons, count}
use Rattle.frame.specs.Tags.{pick, Sort, class_of, form_of, sorts_of}
use Rattle.frame.specs.Operators.{#FreeIdent}
use Rattle.frame.specs.Encoding.{enc_ty}
use Rattle.frame.specs.Reading.{type_limit}
use Rattle.frame.specs.Places.{Ctx, under}
use Rattle.frame.specs.WellFormed.{HeadWf, number_in}
use Rattle.typing.specs.Typing.{wants, result, shape, carried_ty, types_in}
use Rattle.typing.specs.Binding.{index_bound}

-- a node's four parts
pub record Node (H F S K : Type 0) : Type 0 where
  -- tag, payload, types and number of children
  pub top : H
  -- the operands have the types that the operator wants
  pub fits : F
  -- its own type has at most 64 bytes
  pub short : S
  pub kids : K

module _ (σ : ℕ → Ty) where
  -- the given sets of a type have two-byte numbers, and σ types their identifiers by their powers
  abbrev pub TyOk : Ty → Type 0
  TyOk bool = Unit {0}
  TyOk int = Unit {0}
  TyOk (given n) = (n < 65536) × (σ n ≡ pow (given n))
  TyOk (pow t) = TyOk t
  TyOk (prod t u) = TyOk t × TyOk u

  abbrev pub TysOk : List Ty → Type 0
  TysOk [] = Unit {0}
  TysOk (t ∷ ts) = TyOk t × TysOk ts

  pub record HeadOk (Γ : Ctx) (e : Sort) (g n : ℕ) (us : List Ty) (k : ℕ) : Type 0 where
    -- 3 to 6
    pub formed : HeadWf e g n us k
    -- 8
    pub indexed : index_bound g n Γ ≡ true
    -- 9
    pub named : pick {X = Type 0} (eqb g #FreeIdent) (carried_ty us ≡ σ n) (Unit {0})
    pub types : TysOk us
    -- 10
    pub shaped : carried_ty us ≡ shape g (carried_ty us)

  unfoldable mutual
    pub Accepted : Tree → Ctx → Sort → Type 0
    Accepted (node (head g n us) ks) Γ e =
        let ts = types_in ks (under g us Γ) in
        Node
        (HeadOk Γ e g n us (count ks))
        (ts ≡ wants (class_of g) ts)
        (length (enc_ty (result (class_of g) n us Γ ts)) ≤ type_limit)
        (AcceptedAll ks (under g us Γ) (sorts_of (form_of g).layout (number_in g n us (count ks))))

    pub AcceptedAll : Forest → Ctx → List Sort → Type 0
    AcceptedAll nil Γ [] = Unit {0}
    AcceptedAll nil Γ (e ∷ es) = ⊥
    AcceptedAll (cons t ts) Γ [] = ⊥
    AcceptedAll (cons t ts) Γ (e ∷ es) = Accepted t Γ e × AcceptedAll ts Γ es
