-- What `Inter.antt` and `OwnType.antt` say of places, of a `Places`: each is the one over lists, of its bytes and tables.
use Rattle.std.specs.Prelude.{ℕ, Bool, Option}
use Rattle.nav.specs.declared.Places.{Places}
use Rattle.decision.specs.declared.Decision.{Decision}
use Rattle.rewriter.specs.Inter.{SinglePost, MinusPost, InterPre, AnyMinusPost, CountPost, FirstPost, ApartPost, InterPost}
use Rattle.rewriter.specs.OwnType.{NamePre, NamedPost, OwnTypePost}

abbrev pub SingleHere : Places → ℕ → Bool → Type 0
SingleHere p k r = SinglePost p.bytes.now p.starts.now k r

abbrev pub MinusAt : Places → ℕ → Bool → Type 0
MinusAt p k r = MinusPost p.bytes.now p.starts.now k r

abbrev pub InterAt : Places → ℕ → Type 0
InterAt p k = InterPre p.bytes.now p.starts.now p.nexts.now k

abbrev pub AnyMinusAt : Places → ℕ → Bool → Type 0
AnyMinusAt p k r = AnyMinusPost p.bytes.now p.starts.now p.nexts.now k r

abbrev pub CountAt : Places → ℕ → ℕ → Type 0
CountAt p k r = CountPost p.bytes.now p.starts.now p.nexts.now k r

abbrev pub FirstAt : Places → ℕ → Option ℕ → Type 0
FirstAt p k r = FirstPost p.bytes.now p.starts.now p.nexts.now k r

abbrev pub ApartAt : Places → ℕ → Option ℕ → Type 0
ApartAt p k r = ApartPost p.bytes.now p.starts.now p.nexts.now k r

abbrev pub InterDone : Places → ℕ → Option Decision → Type 0
InterDone p k r = InterPost p.bytes.now p.starts.now p.nexts.now k r

abbrev pub IdentAt : Places → ℕ → Type 0
IdentAt p k = NamePre p.bytes.now p.starts.now k

abbrev pub NamedAt : Places → ℕ → Bool → Type 0
NamedAt p k r = NamedPost p.bytes.now p.starts.now k r

abbrev pub OwnTypeAt : Places → ℕ → Bool → Type 0
OwnTypeAt p k r = OwnTypePost p.bytes.now p.starts.now p.nexts.now k r
