-- What the values of the lines must be, and what they mean.
use Rattle.std.specs.Prelude.{ℕ, ◌-◌, Bool, cond, ◌&&◌, ◌||◌, List, [], ◌∷◌, map, length, Some, None, Option, ◌==◌, nat_le, slice_index}
use Rattle.std.specs.List.{range_with_len, list_all}
use Rattle.cells.specs.Sets.{has, set_of}

-- The bytes 48 to 57 are the decimal digits.
abbrev pub is_digit : ℕ → Bool
is_digit b = nat_le 48 b && nat_le b 57

abbrev pub all_digits : List ℕ → Bool
all_digits = list_all is_digit

-- The number that one digit writes.
abbrev pub one_digit : List ℕ → Option ℕ
one_digit [] = None
one_digit (b ∷ []) = cond (is_digit b) (Some (b - 48)) None
one_digit (b ∷ (c ∷ bs)) = None

-- Marks: '#', byte 35, for a cell in the set, and '.', byte 46, for one not in it.
abbrev pub is_mark : ℕ → Bool
is_mark b = b == 35 || b == 46

abbrev pub all_marks : List ℕ → Bool
all_marks = list_all is_mark

-- Cell c has the mark '#'.
abbrev pub marked : List ℕ → ℕ → Bool
marked ms c = slice_index ms c == 35

-- The set that at most 64 marks give.
abbrev pub read_marks : List ℕ → Option ℕ
read_marks ms = cond (nat_le (length ms) 64 && all_marks ms) (Some (set_of (marked ms) (length ms))) None

-- The marks of the cells below n.
abbrev pub marks_of : ℕ → ℕ → List ℕ
marks_of s n = map (λ c. cond (has s c) 35 46) (range_with_len 0 n)
