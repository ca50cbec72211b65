-- The rules of the Latin puzzle.
use Rattle.std.specs.Prelude.{ℕ, ◌+◌, ◌-◌, ◌*◌, Bool, cond, ◌&&◌, List, nat_le, nat_lt}
use Rattle.cells.specs.Lines.{keeps}

-- The sizes of Latin puzzles: a grid of size n has n rows of n cells, and cell r × n + c stands in row r and column c.
abbrev pub is_size : ℕ → Bool
is_size n = nat_le 1 n && nat_le n 6

-- The cell at place k of line l: lines 0 to n − 1 are the rows, and lines n to 2 × n − 1 the columns.
abbrev pub line_of : ℕ → ℕ → ℕ → ℕ
line_of n l k = cond (nat_lt l n) (l * n + k) (k * n + (l - n))

-- A finished grid holds the values 1 to n, each once in every row and once in every column.
abbrev pub finished : ℕ → List ℕ → Bool
finished n g = keeps n (2 * n) (line_of n) g
