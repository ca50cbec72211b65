-- What the text of a question looks like, as a whole.
use Rattle.std.specs.Prelude.{◌≡◌, ℕ, ◌+◌, ◌*◌, ◌^◌, ◌<◌, true, List, [], ◌∷◌, ◌++◌, length, Ok, codes, Result}
use Rattle.latin.specs.Rules.{is_size}
use Rattle.text.specs.Lines.{Fault, Key, kind, size, grid, map, clues, key_text}
use Rattle.text.specs.Values.{all_digits, marks_of}
use Rattle.text.specs.Question.{Asked}

-- The line with this key and value, ended by one byte 10, and then the rest of the text.
abbrev pub line_then : Key → List ℕ → List ℕ → List ℕ
line_then key value rest = (key_text key ++ value) ++ (10 ∷ rest)

-- The text that asks the question: five lines, in this order, and nothing after them.
abbrev pub question_text : Asked → List ℕ
question_text q =
    line_then kind q.puzzle
    (line_then size ((q.side + 48) ∷ [])
    (line_then grid q.digits (line_then map (codes "-") (line_then clues (marks_of q.clue_set (q.side * q.side)) []))))

-- The puzzle is Latin, the size is one of its sizes, the grid has a digit for each cell, and the clues are cells of the grid.
abbrev pub Proper : Asked → Type 0
Proper q =
    (q.puzzle ≡ codes "latin")
    × (is_size q.side ≡ true)
    × (length q.digits ≡ q.side * q.side)
    × (all_digits q.digits ≡ true)
    × (q.clue_set < 2 ^ (q.side * q.side))

-- What is answered of the text is a question exactly if the text is that of a proper question.
abbrev pub TakesExactly : List ℕ → Result Asked Fault → Type 0
TakesExactly text answer =
    (q : Asked) → (answer ≡ Ok q → Proper q × (text ≡ question_text q)) × (Proper q → text ≡ question_text q → answer ≡ Ok q)
