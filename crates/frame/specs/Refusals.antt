-- What is turned down, and its number (document 01, "Numbers of what is turned down, in checking order").
use Rattle.std.specs.Prelude.{◌≡◌, ℕ, eqb}
use Rattle.frame.specs.Tags.{pick}
use Rattle.frame.specs.declared.refusals.Refusal.{Refusal}
use Rattle.frame.specs.declared.refusals.Refusal.TheVariants.{
  BadLine,
  BadLength,
  EndsInside,
  BadTag,
  BadCount,
  BadType,
  BytesFollow,
  NoBinder,
  TwoTypes,
  BadlyTyped,
  NoPlace,
  NoRoom,
}

-- the number of a refusal
abbrev pub number : Refusal → ℕ
number BadLine = 1
number BadLength = 2
number EndsInside = 3
number BadTag = 4
number BadCount = 5
number BadType = 6
number BytesFollow = 7
number NoBinder = 8
number TwoTypes = 9
number BadlyTyped = 10
number NoPlace = 11
number NoRoom = 12

-- the refusal of a number from 1 to 12
abbrev pub refusal : ℕ → Refusal
refusal n =
    pick (eqb n 1) BadLine
    (pick (eqb n 2) BadLength
    (pick (eqb n 3) EndsInside
    (pick (eqb n 4) BadTag
    (pick (eqb n 5) BadCount
    (pick (eqb n 6) BadType
    (pick (eqb n 7) BytesFollow
    (pick (eqb n 8) NoBinder
    (pick (eqb n 9) TwoTypes
    (pick (eqb n 10) BadlyTyped
    (pick (eqb n 11) NoPlace
    NoRoom))))))))))

-- c is the number of one of them
abbrev pub IsNumber : ℕ → Type 0
IsNumber c = (r : Refusal) × (c ≡ number r)
