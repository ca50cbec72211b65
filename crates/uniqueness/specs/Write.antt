-- The lines of a reply.
use Rattle.std.specs.Prelude.{ℕ, ◌+◌, ◌-◌, ◌≤◌, List, ◌++◌, map, length, codes, decimal}
use Rattle.cells.specs.Grids.{differ}
use Rattle.text.specs.Values.{marks_of}

-- What a contract sees of a reply: the list of its bytes. None is longer than 88: a rival of 36 cells with its marks.
pub record Text : Type 0 where
  pub bytes : List ℕ
  pub within : length bytes ≤ 88

-- The bytes of a reply.
abbrev pub text_of : Text → List ℕ
text_of r = r.bytes

-- The values that decimal digits write, one for each cell, and the digits of values.
abbrev pub values_of : List ℕ → List ℕ
values_of = map (λ d. d - 48)

abbrev pub digits_of : List ℕ → List ℕ
digits_of = map (λ v. v + 48)

-- The lines that name a rival and mark its difference set; that name none; that refuse a text by a number, at a line.
abbrev pub rival_lines : List ℕ → List ℕ → List ℕ
rival_lines given g = codes "rival=" ++ (digits_of g ++ (codes "\ndiffers=" ++ (marks_of (differ given g) (length g) ++ codes "\n")))

abbrev pub no_rival_line : List ℕ
no_rival_line = codes "rival=none\n"

abbrev pub refused_lines : ℕ → ℕ → List ℕ
refused_lines number line = codes "refused=" ++ (decimal number ++ (codes "\nline=" ++ (decimal line ++ codes "\n")))
