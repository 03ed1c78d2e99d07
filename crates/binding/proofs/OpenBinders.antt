-- The list of open binders, and the ways out of open_binders.
-- Main results: opened_length, opened_at (the type of an index), opened_below, opened_push; the laws of Opens, the invariant of open_binders.
use mathlib.Core.Path.{◌≡◌, refl, sym, ap, ◌∙◌, subst}
use mathlib.Core.List.{List, [], ◌∷◌, append-nil}
use Prim.Native.Nat.{ℕ, zero, suc, ◌+◌, ◌-◌, ◌≤◌, ◌<◌}
use native.Mathlib.Omega.{arith}
use lib.ListN.{length, get_or, set, length-set}
use lib.Seq.{get_or-set_same, get_or-set_other}
use Rattle.frame.specs.Types.{Ty}
use Rattle.frame.specs.Encoding.{enc_ty, enc_tys}
use Rattle.frame.specs.Places.{Ctx, push}
use Rattle.frame.specs.WellFormed.{TysWf}
use Rattle.frame.specs.Spans.{Spans}
use Rattle.heads.specs.HeadPost.{TypesStand, SkipPost}
use Rattle.frame.proofs.Spans.{span_left, span_right}
use Rattle.typing.specs.Typing.{type_at}
use Rattle.binding.specs.Bound.{Opened, Below, BindersStand, OpenPost}
use Rattle.frame.proofs.ReadTypes.{ty_long, tys_long}

-- a type that stands at a position
abbrev pub TyAt : List ℕ → ℕ → Ty → Type 0
TyAt s at t = Spans s at (at + length (enc_ty t)) (enc_ty t)

pub opened_length : (s : List ℕ) (Γ : Ctx) (b : List ℕ) (n : ℕ) → Opened s Γ b n → length Γ ≡ n
opened_length s [] b zero o = refl
opened_length s [] b (suc n) o = absurd o
opened_length s (t ∷ Γ) b zero o = absurd o
opened_length s (t ∷ Γ) b (suc n) o = ap suc (opened_length s Γ b n o.1)

pub opened_at : (s : List ℕ) (Γ : Ctx) (b : List ℕ) (n : ℕ) → Opened s Γ b n → (i : ℕ) → i < n → TyAt s (get_or b (n - 1 - i) 0) (type_at Γ i)
unfolding type_at
opened_at s [] b zero o i l = absurd (omega arith)
opened_at s [] b (suc n) o i l = absurd o
opened_at s (t ∷ Γ) b zero o i l = absurd o
opened_at s (t ∷ Γ) b (suc n) o zero l = let z : n ≡ suc n - 1 - 0 = omega arith in subst (λ (j : ℕ). TyAt s (get_or b j 0) t) z o.0
opened_at s (t ∷ Γ) b (suc n) o (suc i) l =
    let z : n - 1 - i ≡ suc n - 1 - suc i = omega arith in
    subst (λ (j : ℕ). TyAt s (get_or b j 0) (type_at Γ i)) z (opened_at s Γ b n o.1 i (omega arith))

-- the entries below the depth are all that matters
pub opened_below : (s : List ℕ) (Γ : Ctx) (b c : List ℕ) (n : ℕ) → Below n b c → Opened s Γ b n → Opened s Γ c n
opened_below s [] b c zero h o = tt
opened_below s [] b c (suc n) h o = o
opened_below s (t ∷ Γ) b c zero h o = o
opened_below s (t ∷ Γ) b c (suc n) h o =
    (subst (λ (i : ℕ). TyAt s i t) (sym (h n (omega arith))) o.0, opened_below s Γ b c n (λ i l. h i (omega arith)) o.1)

below_set : (b : List ℕ) (n v : ℕ) → Below n b (set b n v)
below_set b n v i l = get_or-set_other b n i v 0 (λ e. omega arith)

pub opened_push : (s : List ℕ) (Γ : Ctx) (b : List ℕ) (n at : ℕ) (t : Ty) → n < length b → TyAt s at t → Opened s Γ b n
    → Opened s (t ∷ Γ) (set b n at) (suc n)
opened_push s Γ b n at t l a o =
    (subst (λ (i : ℕ). TyAt s i t) (sym (get_or-set_same b n at 0 l)) a, opened_below s Γ b (set b n at) n (below_set b n at) o)

-- ---- the first of some types
pub record FirstTy (s : List ℕ) (at end n : ℕ) (us : List Ty) : Type 0 where
  pub u : Ty
  pub rest : List Ty
  pub is : us ≡ u ∷ rest
  pub many : length rest ≡ n - 1
  pub wf : TysWf rest
  pub stands : TyAt s at u
  pub past : at + 1 ≤ at + length (enc_ty u)
  pub after : Spans s (at + length (enc_ty u)) end (enc_tys rest)

pub first_ty : (s : List ℕ) (at end n : ℕ) (us : List Ty) → 0 < n → length us ≡ n → Spans s at end (enc_tys us) → TysWf us → FirstTy s at end n us
unfolding enc_tys
first_ty s at end n [] l e a w = absurd (omega (arith, e))
first_ty s at end n (u ∷ us) l e a w = record {
  u = u;
  rest = us;
  is = refl;
  many = omega (arith, e);
  wf = w.2;
  stands = span_left (enc_ty u) (enc_tys us) a;
  past = omega (arith, ty_long u);
  after = span_right (enc_ty u) (enc_tys us) a;
}

-- ---- what is handed on
-- a type has a byte at least
pub binders_few : (s : List ℕ) (at n : ℕ) → BindersStand s at n → at + n ≤ length s
binders_few s at n h = omega (arith, h.2, h.3.long, h.3.within, tys_long h.0)

module _ (s : List ℕ) (at n : ℕ) (l : 0 < n) where
  -- the first of them alone
  alone : (end : ℕ) (us : List Ty) (v : FirstTy s at end n us) → Spans s at (at + length (enc_ty v.u)) (enc_tys (v.u ∷ []))
  unfolding enc_tys
  alone end us v = subst (Spans s at (at + length (enc_ty v.u))) (sym (append-nil (enc_ty v.u))) v.stands

  the_first : (h : BindersStand s at n) → FirstTy s at h.1 n h.0
  the_first h = first_ty s at h.1 n h.0 l h.2 h.3 h.4

  pub binders_room : BindersStand s at n → at < length s
  binders_room h = let v = the_first h in omega (arith, v.past, v.stands.within)

  pub binders_first : BindersStand s at n → TypesStand s at 1
  binders_first h =
      let v = the_first h in
      (v.u ∷ [], at + length (enc_ty v.u), refl, alone h.1 h.0 v)

  module _ (p : ℕ) (a : SkipPost s at 1 p) where
    ends_at : (end : ℕ) (us : List Ty) (v : FirstTy s at end n us) → p ≡ at + length (enc_ty v.u)
    ends_at end us v = a.ends (v.u ∷ []) (at + length (enc_ty v.u)) refl (alone end us v)

    after_it : (end : ℕ) (us : List Ty) (v : FirstTy s at end n us) → Spans s p end (enc_tys v.rest)
    after_it end us v = subst (λ (i : ℕ). Spans s i end (enc_tys v.rest)) (sym (ends_at end us v)) v.after

    pub binders_after : BindersStand s at n → BindersStand s p (n - 1) × (at + 1 ≤ p)
    binders_after h =
        let v = the_first h in
        let z = ends_at h.1 h.0 v in
        ((v.rest, h.1, v.many, after_it h.1 h.0 v, v.wf), omega (arith, v.past))

    pub open_more : (b c : List ℕ) (depth m : ℕ) → depth < length b → OpenPost s p (n - 1) (depth + 1) (set b depth at) c m
        → OpenPost s at n depth b c m
    open_more b c depth m k o = record {
      size = o.size ∙ length-set b depth at;
      kept = λ i j. o.kept i (omega arith) ∙ below_set b depth at i j;
      many = omega (arith, o.many);
      by = by;
    }
      where
        by : (us : List Ty) (end : ℕ) → length us ≡ n → Spans s at end (enc_tys us) → TysWf us
            → (Γ : Ctx) → Opened s Γ b depth → Opened s (push us Γ) c m
        by us end e a w Γ q =
            let v = first_ty s at end n us l e a w in
            let y : suc depth ≡ depth + 1 = omega arith in
            subst (λ (ts : List Ty). Opened s (push ts Γ) c m) (sym v.is)
            (o.by v.rest end v.many (after_it end us v) v.wf (v.u ∷ Γ)
            (subst (Opened s (v.u ∷ Γ) (set b depth at)) y (opened_push s Γ b depth at v.u k v.stands q)))

pub open_none : (s : List ℕ) (at depth : ℕ) (b : List ℕ) → OpenPost s at 0 depth b b depth
open_none s at depth b = record { size = refl; kept = λ i j. refl; many = omega arith; by = by }
  where
    by : (us : List Ty) (end : ℕ) → length us ≡ 0 → Spans s at end (enc_tys us) → TysWf us
        → (Γ : Ctx) → Opened s Γ b depth → Opened s (push us Γ) b depth
    by [] end e a w Γ o = o
    by (u ∷ us) end e a w Γ o = absurd (omega (arith, e))

-- ---- the loop: of the n binders those that are left, with `inside` open, and what they say of all
pub record Opens (s : List ℕ) (at n depth : ℕ) (b₀ : List ℕ) (p inside : ℕ) (b : List ℕ) : Type 0 where
  pub left : BindersStand s p (depth + n - inside)
  pub below : inside ≤ p
  pub size : length b ≡ length b₀
  pub back : (c : List ℕ) (m : ℕ) → OpenPost s p (depth + n - inside) inside b c m → OpenPost s at n depth b₀ c m

pub opens_start : (s : List ℕ) (at n depth : ℕ) (b : List ℕ) → depth ≤ at → BindersStand s at n → Opens s at n depth b at depth b
opens_start s at n depth b l h =
    let z : n ≡ depth + n - depth = omega arith in record {
      left = subst (BindersStand s at) z h;
      below = l;
      size = refl;
      back = λ c m o. subst (λ (i : ℕ). OpenPost s at i depth b c m) (sym z) o;
    }

module _ {s : List ℕ} {at n depth : ℕ} {b₀ : List ℕ} {p inside : ℕ} {b : List ℕ} (o : Opens s at n depth b₀ p inside b) where
  pub opens_done : inside ≡ depth + n → OpenPost s at n depth b₀ b (depth + n)
  opens_done e =
      let z : 0 ≡ depth + n - inside = omega arith in
      o.back b (depth + n) (subst (λ (i : ℕ). OpenPost s p i inside b b (depth + n)) z (subst (OpenPost s p 0 inside b b) e (open_none s p inside b)))

  module _ (l : inside < depth + n) where
    some : 0 < depth + n - inside
    some = omega arith

    pub opens_room : p < length s
    opens_room = binders_room s p _ some o.left

    pub opens_first : TypesStand s p 1
    opens_first = binders_first s p _ some o.left

    module _ (q : ℕ) (a : SkipPost s p 1 q) where
      pub opens_next : length s ≤ length b₀ → Opens s at n depth b₀ q (inside + 1) (set b inside p)
      opens_next h =
          let r = opens_room in
          let f = binders_after s p _ some q a o.left in
          let y = o.below in
          let x = o.size in
          let z : depth + n - inside - 1 ≡ depth + n - (inside + 1) = omega arith in
          record {
            left = subst (BindersStand s q) z f.0;
            below = omega (arith, f.1);
            size = length-set b inside p ∙ o.size;
            back = λ c m post. o.back c m (open_more s p _ some q a b c inside m (omega arith)
                (subst (λ (i : ℕ). OpenPost s q i (inside + 1) (set b inside p) c m) (sym z) post));
          }
