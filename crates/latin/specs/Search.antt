-- What a search for a rival answers, and what it leaves in the strip.
use Rattle.std.specs.Prelude.{◌≡◌, ℕ, ◌+◌, ◌/◌, ◌%◌, ◌<◌, true, List, ◌≢◌, slice_index, Option}
use Rattle.cells.specs.Sets.{has}
use Rattle.cells.specs.Grids.{in_strip}
use Rattle.cells.specs.Rivals.{AgreeingRival, AdmitsOnly}
use Rattle.finder.specs.declared.found.Found.{Found}
use Rattle.finder.specs.declared.found.Found.TheVariants.{Rival, NoRival}
use Rattle.finder.specs.Finding.{Answers}
use Rattle.finder.specs.Searching.{SameBelow}
use Rattle.latin.specs.declared.puzzle.Latin.{Latin}
use Rattle.latin.specs.Rules.{line_of}
use Rattle.latin.specs.Puzzle.{given, solves, meaning_of}

-- The grid is a rival of the puzzle's given grid that agrees with it on the clues.
abbrev pub IsAgreeingRival : Latin → ℕ → List ℕ → Type 0
IsAgreeingRival p clues g = AgreeingRival (solves p) (given p) clues g

-- Such a rival was put in the strip.
abbrev pub Holds : Latin → ℕ → List ℕ → List ℕ → Type 0
Holds p clues before after = (g : List ℕ) × IsAgreeingRival p clues g × (after ≡ in_strip g before)

-- What `find` answers: a rival, which the strip holds; or none, where the clues admit only the given grid, and the strip is as it was.
abbrev pub Finds : Latin → ℕ → Found → List ℕ → List ℕ → Type 0
Finds p clues Rival before after = Holds p clues before after
Finds p clues NoRival before after = AdmitsOnly (solves p) (given p) clues × (after ≡ before)

-- A question leaves the puzzle as it was, and its answer is right. Which of several rivals is named is left free.
abbrev pub Asks : Latin → ℕ → Option (List ℕ) → Latin → Type 0
Asks p clues answer q = (q ≡ p) × Answers (meaning_of p) clues answer

-- No such rival begins with the pad's first k cells.
abbrev pub DeadEnd : Latin → ℕ → List ℕ → ℕ → Type 0
DeadEnd p clues pad k = (g : List ℕ) → IsAgreeingRival p clues g → SameBelow k g pad → ⊥

-- What the search answers that goes on from the pad's first k cells.
abbrev pub FindsFrom : Latin → ℕ → List ℕ → ℕ → Found → List ℕ → List ℕ → Type 0
FindsFrom p clues pad k Rival before after = Holds p clues before after
FindsFrom p clues pad k NoRival before after = DeadEnd p clues pad k × (after ≡ before)

-- None of the line's first places holds the value in the pad.
abbrev pub Unused : (ℕ → ℕ) → ℕ → List ℕ → ℕ → Type 0
Unused line places pad value = (k : ℕ) → k < places → slice_index pad (line k) ≢ value

-- The value may stand in the cell: a clue there is this value, and it is unused in the row and in the column before the cell.
abbrev pub MayStand : Latin → ℕ → List ℕ → ℕ → ℕ → Type 0
MayStand p clues pad cell value =
    (has clues cell ≡ true → slice_index (given p) cell ≡ value)
    × Unused (line_of p.size (cell / p.size)) (cell % p.size) pad value
    × Unused (line_of p.size (p.size + cell % p.size)) (cell / p.size) pad value
