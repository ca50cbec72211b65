-- What a puzzle is made of, and when none is made.
use Rattle.std.specs.Prelude.{ℕ, ◌*◌, Bool, cond, List, length, Ok, Err, Result, ◌==◌}
use Rattle.cells.specs.Refusals.{number_of}
use Rattle.cells.specs.declared.refusal.Refusal.{Refusal}
use Rattle.finder.specs.Meaning.{Meaning}
use Rattle.latin.specs.declared.puzzle.Latin.{Latin}
use Rattle.latin.specs.Rules.{is_size, finished}

-- How many cells the puzzle's grids have, its given grid, and the test of its solutions.
abbrev pub cell_count : Latin → ℕ
cell_count p = p.size * p.size

abbrev pub given : Latin → List ℕ
given p = p.grid.items

abbrev pub solves : Latin → List ℕ → Bool
solves p = finished p.size

-- What the puzzle is to a finder.
abbrev pub meaning_of : Latin → Meaning
meaning_of p = record { given = given p; solves = solves p }

-- The size and the given grid of the puzzle that is made of n and g, or the refusal's number:
-- 12 for a size that Latin puzzles do not have, else 11 for a wrong number of values, else 15 for a grid that is not finished.
abbrev pub puzzle_of : ℕ → List ℕ → Result (ℕ × List ℕ) ℕ
puzzle_of n g =
    cond (is_size n) (cond (length g == n * n) (cond (finished n g) (Ok (n, g)) (Err 15)) (Err 11)) (Err 12)

-- The same of what the code answers.
abbrev pub puzzle_shown : Result Latin Refusal → Result (ℕ × List ℕ) ℕ
puzzle_shown (Ok p) = Ok (p.size, given p)
puzzle_shown (Err e) = Err (number_of e)
