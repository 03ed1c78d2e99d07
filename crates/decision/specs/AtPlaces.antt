-- What is said of decisions at places of a frame (`Decides.antt`), of a `Places`: each is the one over lists, of its bytes and tables.
use Rattle.std.specs.Prelude.{ℕ, Bool, List, Option}
use Rattle.frame.specs.Trees.{Tree}
use Rattle.frame.specs.Places.{Ctx}
use Rattle.rules.specs.Change.{Change}
use Rattle.nav.specs.declared.Places.{Places}
use Rattle.decision.specs.declared.Decision.{Decision}
use Rattle.decision.specs.declared.kept.KeptChild.{KeptChild}
use Rattle.decision.specs.Decides.{Here, HereTwo, Decides, DecidesOne, DecidesPair, DecidesTwo, Compared}
use Rattle.decision.specs.Dispatching.{NodePost, DispatchPost}

-- trees of one frame stand there
abbrev pub HereAt : Places → ℕ → Type 0
HereAt p k = Here p.bytes.now p.starts.now p.nexts.now k

abbrev pub HereBoth : Places → ℕ → ℕ → Type 0
HereBoth p a b = HereTwo p.bytes.now p.starts.now p.nexts.now a b

-- r stands for what the rule answers there
abbrev pub DecidesAt : (Ctx → Tree → Change) → Places → ℕ → Option Decision → Type 0
DecidesAt rule p k r = Decides rule p.bytes.now p.starts.now p.nexts.now k r

abbrev pub DecidesOneAt : (Tree → Change) → Places → ℕ → Option Decision → Type 0
DecidesOneAt rule p k r = DecidesOne rule p.bytes.now p.starts.now p.nexts.now k r

abbrev pub DecidesPairAt : (Ctx → Tree → Tree → Change) → Places → ℕ → ℕ → Option Decision → Type 0
DecidesPairAt rule p a b r = DecidesPair rule p.bytes.now p.starts.now p.nexts.now a b r

abbrev pub DecidesTwoAt : (Tree → Tree → Change) → Places → ℕ → ℕ → Option Decision → Type 0
DecidesTwoAt rule p a b r = DecidesTwo rule p.bytes.now p.starts.now p.nexts.now a b r

abbrev pub ComparedAt : (Tree → Tree) → Places → ℕ → ℕ → Bool → Type 0
ComparedAt f p a b r = Compared f p.bytes.now p.starts.now a b r

-- and where a rule may keep children, in the lent list
abbrev pub NodeAt : Places → ℕ → List KeptChild → Option Decision → Type 0
NodeAt p k lent r = NodePost p.bytes.now p.starts.now p.nexts.now k lent r

abbrev pub DispatchAt : Places → ℕ → List KeptChild → Option Decision → Type 0
DispatchAt p k lent r = DispatchPost p.bytes.now p.starts.now p.nexts.now k lent r
