-- Why a Latin puzzle keeps the law of a finder.
use Rattle.std.specs.Prelude.{◌≡◌, ℕ, ◌*◌, ◌<◌, ◌≤◌, true, List, slice_index}
use Rattle.std.proofs.Common.{sym, ◌∙◌, ⊎_elim, arith}
use Rattle.std.proofs.lemmas.List.{get_or_past}
use Rattle.std.proofs.lemmas.Bool.{cases_lt}
use Rattle.std.proofs.lemmas.Nat.{mul-le}
use Rattle.cells.proofs.LineLaws.{keeps-length, keeps_value}
use Rattle.finder.specs.Meaning.{Lawful}
use Rattle.latin.specs.declared.puzzle.Latin.{Latin}
use Rattle.latin.specs.Rules.{line_of, finished}
use Rattle.latin.specs.Puzzle.{meaning_of}

-- No value of a finished grid is above n; past the grid it is 0.
most : (n : ℕ) (g : List ℕ) → finished n g ≡ true → (c : ℕ) → slice_index g c ≤ n
most n g f c =
    ⊎_elim
    (λ (l : c < n * n). (keeps_value n (2 * n) (line_of n) g f c l).1)
    (λ (l : n * n ≤ c). omega (arith, get_or_past g c 0 (omega (arith, keeps-length n (2 * n) (line_of n) g f))))
    (cases_lt c (n * n))

pub puzzle_lawful : (p : Latin) → Lawful (meaning_of p)
puzzle_lawful p =
    let n = p.size in
    record {
      some = omega (arith, p.full, mul-le 1 1 n n p.positive p.positive);
      few = omega (arith, p.full, p.square);
      solved = p.solved;
      sized = λ g f. keeps-length n (2 * n) (line_of n) g f ∙ sym p.full;
      bytes = λ g f c. omega (arith, most n g f c, p.small);
    }
