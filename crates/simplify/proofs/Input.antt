-- From an input to an output, on plain values.
-- Main results: answered_none, answered_read, answered_more, answered_whole (the turns of `answer_input`).
use Rattle.std.proofs.Common.{◌≡◌, ℕ, ◌<◌, List, [], ◌∷◌, ◌++◌, length, Option, Some, None, IfSome, Result, Ok, Err, OnOk, refl, sym, ap, ◌∙◌, subst, append_assoc, append-nil, length-append, arith}
use Rattle.std.specs.Io.KnownBytes.{Appends, Consumes, IsAtEnd, ReadConsumes}
use Rattle.lines.specs.LineReads.{Reads}
use Rattle.program.specs.Pieces.{answers, last_line, last_answer, in_pieces, whole_of}
use Rattle.program.specs.Stream.{simplified}
use Rattle.program.proofs.Pieces.{answers_join, last_join, whole_input}
use Rattle.printing.specs.Written.{written, behind, Adds}
use Rattle.printing.specs.declared.Text.{Text}
use Rattle.simplify.specs.declared.stream.Stream.{Stream}
use Rattle.simplify.specs.Feeding.{Feeds}

-- known bytes that grow
appends_none : (k : Option (List ℕ)) → Appends k k []
appends_none None = tt
appends_none (Some xs) = sym (append-nil xs)

appends_then : (k l m : Option (List ℕ)) (xs ys : List ℕ) → Appends k l xs → Appends l m ys → Appends k m (xs ++ ys)
appends_then None l m xs ys p q = tt
appends_then (Some a) None m xs ys p q = absurd p
appends_then (Some a) (Some b) None xs ys p q = absurd q
appends_then (Some a) (Some b) (Some c) xs ys p q = q ∙ ap (λ x. x ++ ys) p ∙ append_assoc a xs ys

consumes_none : (r : Option (List ℕ)) → Consumes r r []
consumes_none None = tt
consumes_none (Some xs) = refl

consumes_then : (p q r : Option (List ℕ)) (xs ys : List ℕ) → Consumes p q xs → Consumes q r ys → Consumes p r (xs ++ ys)
consumes_then None q r xs ys c d = tt
consumes_then (Some a) None r xs ys c d = absurd c
consumes_then (Some a) (Some b) None xs ys c d = absurd d
consumes_then (Some a) (Some b) (Some z) xs ys c d = c ∙ ap (λ y. xs ++ y) d ∙ sym (append_assoc xs ys z)

-- what was read up to the end is all that there was
all_read : (p q : Option (List ℕ)) (t : List ℕ) → Consumes p q t → IsAtEnd q → IfSome p (λ text. text ≡ t)
all_read None q t c e = tt
all_read (Some a) None t c e = absurd c
all_read (Some a) (Some b) t c e = c ∙ ap (λ y. t ++ y) e ∙ append-nil t

pub read_at : {E : Type 0} (p q : Option (List ℕ)) (r : Result ℕ E) (buf : List ℕ) → r ≡ Ok 0 → ReadConsumes p q r buf → 0 < length buf
    → Consumes p q [] × IsAtEnd q
read_at p q r buf e h l = let o = rw e at h in (o.0, o.1 refl l)

one_piece : (t : List ℕ) → answers t [] ++ last_answer (last_line t []) ≡ simplified t
unfolding in_pieces whole_of
one_piece t = whole_input (t ∷ []) ∙ ap simplified (append-nil t)

-- ---- the turns
-- of the input, of which `rest` has been read beside it, the text t is answered, its answers are written, and none waits
pub record Answered (input input' output output' : Option (List ℕ)) (stream : Stream) (t rest : List ℕ) : Type 0 where
  pub read : Consumes input input' (t ++ rest)
  pub line : Reads stream.line (last_line t [])
  pub none : written stream.answers ≡ []
  pub room : length (behind stream.answers) ≡ 65536
  pub wrote : Appends output output' (answers t [])

pub answered_none : (input output : Option (List ℕ)) (stream : Stream) → Reads stream.line [] → written stream.answers ≡ []
    → length (behind stream.answers) ≡ 65536 → Answered input input output output stream [] []
unfolding answers last_line
answered_none input output stream l n r = record { read = consumes_none input; line = l; none = n; room = r; wrote = appends_none output }

module _ {input input' output output' : Option (List ℕ)} {stream : Stream} {t : List ℕ} where
  pub answered_read : (input'' : Option (List ℕ)) (x : List ℕ) → Answered input input' output output' stream t [] → Consumes input' input'' x
      → Answered input input'' output output' stream t x
  answered_read input'' x a c = record {
    read = consumes_then input input' input'' t x (rw append-nil at a.read) c;
    line = a.line;
    none = a.none;
    room = a.room;
    wrote = a.wrote;
  }

  -- x is taken, and the answers are written
  pub answered_more : {rest : List ℕ} (x rest' : List ℕ) (fed next : Stream) (output'' : Option (List ℕ)) → Answered input input' output output' stream t rest
      → x ++ rest' ≡ rest → Feeds stream x fed → Appends output' output'' (written fed.answers) → next.line ≡ fed.line
      → written next.answers ≡ [] → behind next.answers ≡ written fed.answers ++ behind fed.answers
      → Answered input input' output output'' next (t ++ x) rest'
  answered_more x rest' fed next output'' a cut feeds w l n b =
      let adds : Adds stream.answers (answers x (last_line t [])) fed.answers = feeds.adds (last_line t []) a.line in
      let puts : written fed.answers ≡ answers x (last_line t []) = adds.writes ∙ ap (λ p. p ++ answers x (last_line t [])) a.none in
      record {
        read = rw (append_assoc t x rest', cut) a.read;
        line = rw (l, last_join t x []) (feeds.line (last_line t []) a.line);
        none = n;
        room = omega (arith, ap length b, ap length puts, length-append {A = ℕ}, adds.fits, a.room);
        wrote = rw (answers_join t x []) (appends_then output output' output'' (answers t []) (answers x (last_line t [])) a.wrote (rw puts at w));
      }

  -- the input has ended
  pub answered_whole : (put : Text) (output'' : Option (List ℕ)) → Answered input input' output output' stream t [] → IsAtEnd input'
      → Adds stream.answers (last_answer (last_line t [])) put → Appends output' output'' (written put)
      → IfSome input (λ text. Appends output output'' (simplified text))
  answered_whole put output'' a e adds w = go input (all_read input input' t (rw append-nil at a.read) e)
    where
      puts : written put ≡ last_answer (last_line t [])
      puts = adds.writes ∙ ap (λ p. p ++ last_answer (last_line t [])) a.none

      go : (p : Option (List ℕ)) → IfSome p (λ text. text ≡ t) → IfSome p (λ text. Appends output output'' (simplified text))
      go None i = tt
      go (Some text) i = subst (Appends output output'') (one_piece t ∙ ap simplified (sym i))
          (appends_then output output' output'' (answers t []) (last_answer (last_line t [])) a.wrote (rw puts at w))

pub on_ok : {T E : Type 0} (r : Result T E) {P Q : Type 0} → OnOk r P → (P → Q) → OnOk r Q
on_ok (Ok x) p f = f p
on_ok (Err e) p f = tt
