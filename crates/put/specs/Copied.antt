-- The bytes of a list between two positions, as a list.
use Rattle.std.specs.Prelude.{List, ℕ, ◌-◌, take, drop}

abbrev pub between : List ℕ → ℕ → ℕ → List ℕ
between s a b = take (b - a) (drop a s)
