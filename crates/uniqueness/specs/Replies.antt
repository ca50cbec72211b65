-- What is replied to the text of a question.
use Rattle.std.specs.Prelude.{◌≡◌, ℕ, Bool, ◌⊎◌, List, Ok, Err, MatchBool, Result}
use Rattle.cells.specs.Rivals.{AgreeingRival, AdmitsOnly}
use Rattle.latin.specs.Rules.{finished}
use Rattle.text.specs.Lines.{Fault}
use Rattle.text.specs.Question.{Asked}
use Rattle.uniqueness.specs.Write.{values_of, rival_lines, no_rival_line, refused_lines}

-- Either a rival that agrees with the given grid on the clues is named, or there is none and the reply says so.
abbrev pub Answers : (List ℕ → Bool) → List ℕ → ℕ → List ℕ → Type 0
Answers solves given clues out =
    ((g : List ℕ) × AgreeingRival solves given clues g × (out ≡ rival_lines given g)) ⊎ (AdmitsOnly solves given clues × (out ≡ no_rival_line))

-- A finished grid of size n is answered; one that is not finished is refused by 15, at line 3, where it stands.
abbrev pub RepliesTo : ℕ → List ℕ → ℕ → List ℕ → Type 0
RepliesTo n grid clues out = MatchBool (finished n grid) (Answers (finished n) grid clues out) (out ≡ refused_lines 15 3)

-- A text that asks no question is refused, by the refusal's number and its line; else its question is replied to.
abbrev pub Replies : Result Asked Fault → List ℕ → Type 0
Replies (Ok q) out = RepliesTo q.side (values_of q.digits) q.clue_set out
Replies (Err f) out = out ≡ refused_lines f.0 f.1
