-- What a finder is about: one given grid, and which grids are solutions.
use Rattle.std.specs.Prelude.{◌≡◌, ℕ, ◌<◌, ◌≤◌, Bool, true, List, length, slice_index}

pub record Meaning : Type 0 where
  pub given : List ℕ
  pub solves : List ℕ → Bool

-- N, the number of cells that its grids have.
abbrev pub cell_count : Meaning → ℕ
cell_count m = length m.given

-- What holds of every meaning: N is 1 to 64, the given grid is a solution, and a solution has N values, each one byte.
pub record Lawful (m : Meaning) : Type 0 where
  pub some : 1 ≤ cell_count m
  pub few : cell_count m ≤ 64
  pub solved : m.solves m.given ≡ true
  pub sized : (g : List ℕ) → m.solves g ≡ true → length g ≡ cell_count m
  pub bytes : (g : List ℕ) → m.solves g ≡ true → (c : ℕ) → slice_index g c < 256
