-- What a writer holds: all that was written, or nothing once it did not fit a frame. One abstraction for all that is written.
use Rattle.std.specs.Prelude.{◌≡◌, List, [], ◌++◌, ℕ, ◌-◌, ◌≤◌, length, take, Option, Some, None, option_map, leb}
use Rattle.frame.specs.Tags.{pick}
use Rattle.frame.specs.Reading.{frame_limit}

-- the first bytes of the buffer, as many as there are; and that there are no more than m
abbrev pub held : Option ℕ → List ℕ → Option (List ℕ)
held n bytes = option_map (λ i. take i bytes) n

abbrev pub AtMost : ℕ → Option ℕ → Type 0
AtMost m None = Unit {0}
AtMost m (Some n) = n ≤ m

-- ys behind what was held, if there is room for it in a frame
unfoldable pub behind : Option (List ℕ) → List ℕ → Option (List ℕ)
behind None ys = None
behind (Some xs) ys = pick (leb (length ys) (frame_limit - length xs)) (Some (xs ++ ys)) None

-- from o to p, ys is written behind whatever was written
abbrev pub Puts : Option (List ℕ) → Option (List ℕ) → List ℕ → Type 0
Puts o p ys = p ≡ behind o ys

-- xs has been written, and nothing before it
abbrev pub Wrote : Option (List ℕ) → List ℕ → Type 0
Wrote o xs = o ≡ behind (Some []) xs
