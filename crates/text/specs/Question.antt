-- The text of a question, line by line. The first line that is not as it must be decides: 11 for its form, 12 for the size.
use Rattle.std.specs.Prelude.{◌≡◌, ℕ, ◌*◌, cond, ◌&&◌, List, [], ◌∷◌, length, Some, None, Ok, Err, codes, Option, Result, MatchResult, ◌==◌}
use Rattle.std.specs.Borrow.{Bor}
use Rattle.std.specs.Str.{bytes_eq}
use Rattle.latin.specs.Rules.{is_size}
use Rattle.text.specs.declared.refused.Refused.{Refused}
use Rattle.text.specs.declared.lines.Token.{Token}
use Rattle.text.specs.declared.question.Kind.{Kind}
use Rattle.text.specs.declared.question.Kind.TheVariants.{Latin}
use Rattle.text.specs.declared.question.Question.{Question}
use Rattle.text.specs.Lines.{Fault, Key, kind, size, grid, map, clues, KeyValue, next_line, refused_shown, token_shown, shown}
use Rattle.text.specs.Values.{one_digit, all_digits, read_marks}

-- Go on with what came, unless it is a refusal.
abbrev pub then : {A B : Type 0} → Result A Fault → (A → Result B Fault) → Result B Fault
then (Ok a) f = f a
then (Err e) f = Err e

-- Each key has its line, in this order.
abbrev pub line_number : Key → ℕ
line_number kind = 1
line_number size = 2
line_number grid = 3
line_number map = 4
line_number clues = 5

-- What line n gives, with the text after it; a line that gives nothing is refused by 11.
abbrev pub or_form : {A : Type 0} → ℕ → List ℕ → Option A → Result (A × List ℕ) Fault
or_form n rest None = Err (11, n)
or_form n rest (Some a) = Ok (a, rest)

-- A line with the key gives what f gives of its value; a line with another key gives nothing.
abbrev pub value_under : {A : Type 0} → Key → (List ℕ → Option A) → KeyValue → Option A
value_under key f t = cond (line_number t.0 == line_number key) (f t.1) None

-- The first line of a text, read as the line of the key.
abbrev pub key_line : {A : Type 0} → Key → (List ℕ → Option A) → List ℕ → Result (A × List ℕ) Fault
key_line key f text = then (next_line (line_number key) text) (λ l. or_form (line_number key) l.1 (value_under key f l.0.1))

-- A value that must be just this one.
abbrev pub same_value : List ℕ → List ℕ → Option (List ℕ)
same_value p v = cond (bytes_eq v p) (Some v) None

-- Line 1 names the puzzle.
abbrev pub kind_value : List ℕ → Option (List ℕ)
kind_value = same_value (codes "latin")

abbrev pub kind_line : List ℕ → Result (List ℕ × List ℕ) Fault
kind_line = key_line kind kind_value

-- Line 2 is one digit; it is refused by 12 where it is no size of the puzzle.
abbrev pub size_line : List ℕ → Result (ℕ × List ℕ) Fault
size_line text = then (key_line size one_digit text) (λ s. cond (is_size s.0) (Ok s) (Err (12, 2)))

-- Line 3 is a digit for each cell.
abbrev pub grid_value : ℕ → List ℕ → Option (List ℕ)
grid_value cells v = cond (length v == cells && all_digits v) (Some v) None

abbrev pub grid_line : ℕ → List ℕ → Result (List ℕ × List ℕ) Fault
grid_line cells = key_line grid (grid_value cells)

-- Line 4 is `-`, since a Latin grid has no map.
abbrev pub map_value : List ℕ → Option (List ℕ)
map_value = same_value (codes "-")

abbrev pub map_line : List ℕ → Result (List ℕ × List ℕ) Fault
map_line = key_line map map_value

-- Line 5 is a mark for each cell.
abbrev pub clues_value : ℕ → List ℕ → Option ℕ
clues_value cells v = cond (length v == cells) (read_marks v) None

abbrev pub clues_line : ℕ → List ℕ → Result (ℕ × List ℕ) Fault
clues_line cells = key_line clues (clues_value cells)

-- Nothing stands after line 5.
abbrev pub text_end : List ℕ → Result (Unit {0}) Fault
text_end [] = Ok tt
text_end (b ∷ bs) = Err (11, 6)

-- What a question holds: the puzzle's name, the size, the grid's digits and the clues.
pub record Asked : Type 0 where
  pub puzzle : List ℕ
  pub side : ℕ
  pub digits : List ℕ
  pub clue_set : ℕ

abbrev pub read_question : List ℕ → Result Asked Fault
read_question text =
    then (kind_line text) (λ k.
    then (size_line k.1) (λ s.
    then (grid_line (s.0 * s.0) s.1) (λ g.
    then (map_line g.1) (λ m.
    then (clues_line (s.0 * s.0) m.1) (λ c.
    then (text_end c.1) (λ _.
    Ok (record { puzzle = k.0; side = s.0; digits = g.0; clue_set = c.0 })))))))

-- What the code answers, by these words.
abbrev pub kind_name : Kind → List ℕ
kind_name Latin = codes "latin"

abbrev pub question_shown : Result Question Refused → Result Asked Fault
question_shown = shown (λ q. record { puzzle = kind_name q.kind; side = q.size; digits = q.grid.now; clue_set = q.clues })

-- A line by a reader: the line's own refusal, or what the reader gives of its token, refused by 11 where that is nothing.
abbrev pub ReadsLine : {T : Type 0} → (Token → Option T → Type 0) → ℕ → List ℕ → Result (T × Bor (List ℕ)) Refused → Type 0
ReadsLine {T} Gives n text result =
    MatchResult (next_line n text)
    (λ l. (t : Token) × (token_shown t ≡ l.0.1)
    × MatchResult result (λ p. Gives t (Some p.0) × (p.1.now ≡ l.1)) (λ e. Gives t None × (refused_shown e ≡ (11, n))))
    (λ f. MatchResult result (λ p. ⊥) (λ e. refused_shown e ≡ f))
