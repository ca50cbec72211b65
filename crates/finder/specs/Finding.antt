-- What a finder answers when it is asked for a rival that agrees with the given grid on the clues: some rival, or none.
use Rattle.std.specs.Prelude.{ℕ, List, take, Some, None, Option}
use Rattle.cells.specs.Grids.{in_strip}
use Rattle.finder.specs.declared.found.Found.{Found}
use Rattle.finder.specs.declared.found.Found.TheVariants.{Rival, NoRival}
use Rattle.finder.specs.Meaning.{Meaning}
use Rattle.finder.specs.Rivals.{AgreeingRival, AdmitsOnly, NoneNearer}

-- The rival that was named, if one was: the first n bytes of the strip, one for each cell, hold it.
abbrev pub named : ℕ → Found → List ℕ → Option (List ℕ)
named n Rival strip = Some (take n strip)
named n NoRival strip = None

-- The answer is right: what is named is a rival that agrees on the clues, and where none is named there is none.
abbrev pub Answers : Meaning → ℕ → Option (List ℕ) → Type 0
Answers m clues (Some g) = AgreeingRival m clues g
Answers m clues None = AdmitsOnly m clues

-- The strip after the answer: a rival is put in it; with none it is as it was.
abbrev pub strip_after : Option (List ℕ) → List ℕ → List ℕ
strip_after (Some g) strip = in_strip g strip
strip_after None strip = strip

-- Of the rivals that agree on the clues, a nearest one is named, if any.
abbrev pub NamesNearest : Meaning → ℕ → Option (List ℕ) → Type 0
NamesNearest m clues (Some g) = NoneNearer m clues g
NamesNearest m clues None = Unit {0}
