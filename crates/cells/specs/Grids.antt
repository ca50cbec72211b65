-- Grids. A grid is the list of its cells' values, cell number 0 first.
use Rattle.std.specs.Prelude.{ℕ, min, Bool, not, ◌||◌, List, ◌++◌, length, take, drop, ◌==◌, slice_index}
use Rattle.cells.specs.Sets.{has, all, set_of}

-- How many cells two grids have in common: those below both lengths.
abbrev pub common : List ℕ → List ℕ → ℕ
common g h = min (length g) (length h)

-- Two grids have the same value in the cell.
abbrev pub alike : List ℕ → List ℕ → ℕ → Bool
alike g h c = slice_index g c == slice_index h c

-- Two grids agree on the set s: they have the same value in each of its cells. Cell numbers that are not in both grids are ignored.
abbrev pub agree : ℕ → List ℕ → List ℕ → Bool
agree s g h = all (λ c. not (has s c) || alike g h c) (common g h)

-- The set of those cells below k where two grids differ.
abbrev pub differ_below : ℕ → List ℕ → List ℕ → ℕ
differ_below k g h = set_of (λ c. not (alike g h c)) k

-- The difference set of two grids: the cells, below 64 and in both grids, where they differ.
abbrev pub differ : List ℕ → List ℕ → ℕ
differ g h = differ_below (min (common g h) 64) g h

-- A strip whose first k bytes are those of a grid, and whose other bytes are as they were.
abbrev pub with_front : ℕ → List ℕ → List ℕ → List ℕ
with_front k g strip = take k g ++ drop k strip

-- A strip of 64 bytes after a grid was put in it.
abbrev pub in_strip : List ℕ → List ℕ → List ℕ
in_strip g strip = with_front (min (length g) 64) g strip
