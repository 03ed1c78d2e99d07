-- Forests: two of them joined, and one with nothing in it.
-- Main results: encs_append, count_append, wfs_append, nodes_append, starts_append (of two forests joined); no_kids (no child: the
-- empty forest), no_members (the same of a list).
use mathlib.Core.Path.{◌≡◌, refl, sym, ap, ◌∙◌}
use mathlib.Core.List.{List, [], ◌∷◌, ◌++◌, append_assoc}
use Prim.Native.Nat.{ℕ, ◌+◌}
use native.Mathlib.Omega.{arith}
use lib.ListN.{length, length-append}
use Rattle.frame.specs.Trees.{Forest, nil, cons, count, append, nodes, nodes_in}
use Rattle.frame.specs.Tags.{Sort}
use Rattle.frame.specs.Encoding.{enc, encs, starts, starts_in}
use Rattle.frame.specs.WellFormed.{Wfs}

-- ---- forests joined
pub encs_append : (ts us : Forest) → encs (append ts us) ≡ encs ts ++ encs us
unfolding enc
encs_append nil us = refl
encs_append (cons t ts) us = rw (append_assoc, encs_append ts us)

pub count_append : (ts us : Forest) → count (append ts us) ≡ count ts + count us
count_append nil us = omega arith
count_append (cons t ts) us = let z = count_append ts us in omega arith

pub wfs_append : (ts us : Forest) (ds es : List Sort) → Wfs ts ds → Wfs us es → Wfs (append ts us) (ds ++ es)
wfs_append nil us [] es v w = w
wfs_append nil us (d ∷ ds) es v w = absurd v
wfs_append (cons t ts) us [] es v w = absurd v
wfs_append (cons t ts) us (d ∷ ds) es v w = (v.0, wfs_append ts us ds es v.1 w)

pub nodes_append : (ts us : Forest) → nodes_in (append ts us) ≡ nodes_in ts + nodes_in us
unfolding nodes
nodes_append nil us = omega arith
nodes_append (cons t ts) us = omega (arith, nodes_append ts us)

pub starts_append : (ts us : Forest) (p : ℕ) → starts_in (append ts us) p ≡ starts_in ts p ++ starts_in us (p + length (encs ts))
unfolding starts enc
starts_append nil us p = let z : p ≡ p + 0 = omega arith in ap (starts_in us) z
starts_append (cons t ts) us p =
    let z : p + length (enc t) + length (encs ts) ≡ p + length (enc t ++ encs ts) = omega (arith, length-append (enc t) (encs ts)) in
    ap (λ (xs : List ℕ). starts t p ++ xs) (starts_append ts us (p + length (enc t)) ∙ ap
    (λ (i : ℕ). starts_in ts (p + length (enc t)) ++ starts_in us i) z)
    ∙ sym (append_assoc (starts t p) (starts_in ts (p + length (enc t))) (starts_in us (p + length (enc t ++ encs ts))))

-- ---- nothing there
pub no_kids : (ks : Forest) → count ks ≡ 0 → ks ≡ nil
no_kids nil e = refl
no_kids (cons t ks) e = absurd (omega arith)

pub no_members : {A : Type 0} (l : List A) → length l ≡ 0 → l ≡ []
no_members [] e = refl
no_members (x ∷ l) e = absurd (omega arith)
