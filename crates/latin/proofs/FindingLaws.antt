-- What `find` answers is what a finder owes.
use Rattle.std.proofs.Common.{◌≡◌, ℕ, List, sym, ap, ◌∙◌, subst, arith}
use Rattle.cells.specs.Grids.{in_strip}
use Rattle.cells.proofs.GridLaws.{strip_front}
use Rattle.finder.specs.declared.found.Found.{Found}
use Rattle.finder.specs.declared.found.Found.TheVariants.{Rival, NoRival}
use Rattle.finder.specs.Meaning.{cell_count}
use Rattle.finder.specs.Rivals.{AgreeingRival}
use Rattle.finder.specs.Finding.{named, Answers, strip_after}
use Rattle.latin.specs.declared.puzzle.Latin.{Latin}
use Rattle.latin.specs.Puzzle.{meaning_of}
use Rattle.latin.specs.Search.{Finds}
use Rattle.latin.specs.Lawful.{puzzle_lawful}

-- The rival that was named is right, and the strip is as it must be after it.
abbrev pub Named : Latin → ℕ → Found → List ℕ → List ℕ → Type 0
Named p clues found before after =
    Answers (meaning_of p) clues (named (cell_count (meaning_of p)) found after)
    × (after ≡ strip_after (named (cell_count (meaning_of p)) found after) before)

pub found_named : (p : Latin) (clues : ℕ) (found : Found) (before after : List ℕ) → Finds p clues found before after → Named p clues found before after
found_named p clues Rival before after f =
    let m = meaning_of p in
    let law = puzzle_lawful p in
    let long = law.sized f.0 f.1.0.0 in
    let front = strip_front f.0 before after (cell_count m) (sym long) (omega (arith, law.few)) f.2 in (
      subst (λ (g : List ℕ). AgreeingRival m clues g) (sym front) f.1,
      f.2 ∙ ap (λ (g : List ℕ). in_strip g before) (sym front),
    )
found_named p clues NoRival before after f = (f.0, f.1)
