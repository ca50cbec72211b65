-- Pins: clues that every reader gets, so that only grids that agree with the given grid on them are solutions.
use Rattle.std.specs.Prelude.{ℕ, ◌&&◌}
use Rattle.cells.specs.Sets.{intersection, all_below}
use Rattle.cells.specs.Grids.{agree}
use Rattle.finder.specs.Meaning.{Meaning, cell_count}

-- The same given grid, and of the solutions those that agree with it on the pinned cells.
abbrev pub pinned : ℕ → Meaning → Meaning
pinned pins m = record { given = m.given; solves = λ g. m.solves g && agree pins m.given g }

-- The pins that are cells of the grid. A pin not below N is no pin.
abbrev pub pins_of : ℕ → Meaning → ℕ
pins_of pins m = intersection pins (all_below (cell_count m))
