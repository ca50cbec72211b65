-- Rules over lines, for a puzzle that fills n × n cells with the values 1 to n.
-- A line is n cell numbers: the function that gives the cell at each place below n. A row is a line, and so is a column.
use Rattle.std.specs.Prelude.{ℕ, zero, suc, ◌+◌, ◌*◌, Bool, cond, ◌&&◌, List, length, ◌==◌, nat_eq, nat_le, slice_index}
use Rattle.cells.specs.Sets.{all}

-- How many of the line's first k places hold the value v.
unfoldable pub count : (ℕ → ℕ) → List ℕ → ℕ → ℕ → ℕ
count line g v zero = 0
count line g v (suc k) = cond (slice_index g (line k) == v) 1 0 + count line g v k

-- v is one of the values 1 to n.
abbrev pub is_value : ℕ → ℕ → Bool
is_value n v = nat_le 1 v && nat_le v n

-- The line holds each of the values 1 to n once.
abbrev pub holds_each : ℕ → (ℕ → ℕ) → List ℕ → Bool
holds_each n line g = all (λ v. nat_eq (count line g (v + 1) n) 1) n

-- The grid keeps the rules: it has n × n cells, each holds one of the values 1 to n, and each of the lines holds each value once.
-- `line l` is line number l, and there are `lines` of them.
unfoldable pub keeps : (n lines : ℕ) → (ℕ → ℕ → ℕ) → List ℕ → Bool
keeps n lines line g =
    (length g == n * n) && (all (λ c. is_value n (slice_index g c)) (n * n) && all (λ l. holds_each n (line l) g) lines)
