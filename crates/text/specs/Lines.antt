-- A text is lines, each ended by one byte 10; a line is a key and a value.
use Rattle.std.specs.Prelude.{ℕ, ◌+◌, cond, List, [], ◌∷◌, Some, None, Ok, Err, codes, Option, Result, ◌==◌, position, take, drop}
use Rattle.std.specs.Borrow.{Bor}
use Rattle.std.specs.Option.{option_map}
use Rattle.cells.specs.Refusals.{number_of}
use Rattle.text.specs.declared.refused.Refused.{Refused}
use Rattle.text.specs.declared.lines.Line.{Line}
use Rattle.text.specs.declared.lines.Token.{Token}
use Rattle.text.specs.declared.lines.Token.TheVariants.{Kind, Size, Grid, Map, Clues}

-- A refusal of a text is its number and the line's number, counted from 1.
abbrev pub Fault : Type 0
Fault = ℕ × ℕ

abbrev pub refused_shown : Refused → Fault
refused_shown r = (number_of r.refusal, r.line)

-- The first line of a text, and what stands after the byte 10 that ends it.
abbrev pub split_line : List ℕ → Option (List ℕ × List ℕ)
split_line text = option_map (λ at. (take at text, drop (at + 1) text)) (position (λ b. b == 10) text)

-- What stands after the key, of a line that begins with it.
abbrev pub after : List ℕ → List ℕ → Option (List ℕ)
after [] line = Some line
after (k ∷ ks) [] = None
after (k ∷ ks) (b ∷ line) = cond (b == k) (after ks line) None

-- The keys that a line can have.
pub data Key : Type 0 where
  kind : Key
  size : Key
  grid : Key
  map : Key
  clues : Key

abbrev pub key_text : Key → List ℕ
key_text kind = codes "kind="
key_text size = codes "size="
key_text grid = codes "grid="
key_text map = codes "map="
key_text clues = codes "clues="

-- A line by its key, with its value.
abbrev pub KeyValue : Type 0
KeyValue = Key × List ℕ

-- The line has the key, or else is what is said next.
abbrev pub under : Key → Option (List ℕ) → Option KeyValue → Option KeyValue
under key None other = other
under key (Some value) other = Some (key, value)

abbrev pub as_key : Key → List ℕ → Option KeyValue → Option KeyValue
as_key key line other = under key (after (key_text key) line) other

abbrev pub key_value : List ℕ → Option KeyValue
key_value line = as_key kind line (as_key size line (as_key grid line (as_key map line (as_key clues line None))))

abbrev pub token_shown : Token → KeyValue
token_shown (Kind v) = (kind, v.now)
token_shown (Size v) = (size, v.now)
token_shown (Grid v) = (grid, v.now)
token_shown (Map v) = (map, v.now)
token_shown (Clues v) = (clues, v.now)

abbrev pub pair_shown : Bor (List ℕ) × Bor (List ℕ) → List ℕ × List ℕ
pair_shown p = (p.0.now, p.1.now)

-- One line read: its number, its key and value, and the text after it.
abbrev pub OneLine : Type 0
OneLine = (ℕ × KeyValue) × List ℕ

-- What the code answers, by these words: the value by what it means, and the refusal by its numbers.
abbrev pub shown : {A B : Type 0} → (A → B) → Result A Refused → Result B Fault
shown meaning (Ok a) = Ok (meaning a)
shown meaning (Err e) = Err (refused_shown e)

-- The same of a value with the text after it.
abbrev pub value_shown : {A B : Type 0} → (A → B) → Result (A × Bor (List ℕ)) Refused → Result (B × List ℕ) Fault
value_shown meaning = shown (λ p. (meaning p.0, p.1.now))

abbrev pub line_shown : Result (Line × Bor (List ℕ)) Refused → Result OneLine Fault
line_shown = value_shown (λ l. (l.number, token_shown l.token))

abbrev pub numbered : ℕ → List ℕ → Option KeyValue → Result OneLine Fault
numbered n rest None = Err (11, n)
numbered n rest (Some t) = Ok ((n, t), rest)

abbrev pub line_from : ℕ → Option (List ℕ × List ℕ) → Result OneLine Fault
line_from n None = Err (11, n)
line_from n (Some p) = numbered n p.1 (key_value p.0)

-- The first line of a text, as line n: refused by 11 if it is missing, is not ended or has no key.
unfoldable pub next_line : ℕ → List ℕ → Result OneLine Fault
next_line n text = line_from n (split_line text)
