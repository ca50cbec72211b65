-- What pins make of a finder's meaning and of its answers.
use Rattle.std.proofs.Common.{◌≡◌, ℕ, ◌^◌, ◌<◌, ◌≤◌, Bool, ◌&&◌, List, Some, None, Option, sym, ap, ◌∙◌}
use Rattle.std.proofs.Math.Path.{fun_ext}
use Rattle.std.proofs.Math.Bool.{and_assoc, and_comm}
use Rattle.std.proofs.lemmas.Bool.{and_parts, and_from}
use Rattle.cells.specs.Sets.{has, union, intersection, all_below}
use Rattle.cells.specs.Grids.{agree}
use Rattle.cells.proofs.SetLaws.{set_of_below}
use Rattle.cells.proofs.GridLaws.{agree-union, agree_inside}
use Rattle.finder.specs.Meaning.{Meaning, cell_count, Lawful}
use Rattle.finder.specs.Rivals.{AgreeingRival}
use Rattle.finder.specs.Finding.{Answers, NamesNearest}
use Rattle.finder.specs.Pinning.{pinned, pins_of}

-- Meanings with the same given grid and the same solutions are the same.
same_solutions : (given : List ℕ) (one other : List ℕ → Bool) → ((g : List ℕ) → one g ≡ other g)
    → ◌≡◌ {A = Meaning} (record { given = given; solves = one }) (record { given = given; solves = other })
same_solutions given one other e = ap (λ s. record { given = given; solves = s }) (fun_ext e)

pub pins_fit : (m : Meaning) (pins : ℕ) → pins_of pins m < 2 ^ 64
pins_fit m pins = set_of_below (λ c. has pins c && has (all_below (cell_count m)) c) 64

-- A pin that is no cell of the grid changes nothing.
pub pinned_inside : (m : Meaning) (pins : ℕ) → pins < 2 ^ 64 → cell_count m ≤ 64 → pinned (pins_of pins m) m ≡ pinned pins m
pinned_inside m pins l few =
    same_solutions m.given (pinned (pins_of pins m) m).solves (pinned pins m).solves
    (λ g. ap (λ b. m.solves g && b) (agree_inside pins m.given g l few))

-- The same of the pins as the code takes those on the grid.
pub pinned_cut : (m : Meaning) (pins n all cut : ℕ) → Lawful m → n ≡ cell_count m → all ≡ all_below n → cut ≡ intersection pins all → pins < 2 ^ 64
    → pinned cut m ≡ pinned pins m
pinned_cut m pins n all cut law e below taken l =
    ap (λ p. pinned p m) (taken ∙ ap (intersection pins) (below ∙ ap all_below e)) ∙ pinned_inside m pins l law.few

-- Two layers of pins mean what one with both means.
pub pinned_twice : (m : Meaning) (outer inner : ℕ) → outer < 2 ^ 64 → inner < 2 ^ 64
    → pinned (union outer inner) m ≡ pinned outer (pinned inner m)
pinned_twice m outer inner l k =
    same_solutions m.given (pinned (union outer inner) m).solves (pinned outer (pinned inner m)).solves
    (λ g.
    let a = agree outer m.given g in
    let b = agree inner m.given g in
    ap (λ x. m.solves g && x) (agree-union outer inner m.given g l k ∙ and_comm a b) ∙ sym (and_assoc (m.solves g) b a))

-- The rivals under pins are those below that agree on the pins too, so the answer below is the answer here.
module _ (m : Meaning) (clues pins : ℕ) (l : clues < 2 ^ 64) (k : pins < 2 ^ 64) where
  rises : (g : List ℕ) → AgreeingRival m (union clues pins) g → AgreeingRival (pinned pins m) clues g
  rises g a =
      let both = and_parts (agree clues m.given g) (agree pins m.given g) (sym (agree-union clues pins m.given g l k) ∙ a.1) in
      ((and_from (m.solves g) (agree pins m.given g) a.0.0 both.1, a.0.1), both.0)

  sinks : (g : List ℕ) → AgreeingRival (pinned pins m) clues g → AgreeingRival m (union clues pins) g
  sinks g a =
      let both = and_parts (m.solves g) (agree pins m.given g) a.0.0 in (
        (both.0, a.0.1),
        agree-union clues pins m.given g l k ∙ and_from (agree clues m.given g) (agree pins m.given g) a.1 both.1,
      )

  pub answers_pinned : (answer : Option (List ℕ)) → Answers m (union clues pins) answer → Answers (pinned pins m) clues answer
  answers_pinned (Some g) a = rises g a
  answers_pinned None only = λ g a. only g (sinks g a)

  -- A nearest rival below is a nearest one here.
  pub nearest_pinned : (answer : Option (List ℕ)) → NamesNearest m (union clues pins) answer → NamesNearest (pinned pins m) clues answer
  nearest_pinned (Some g) near = λ h a. near h (sinks h a)
  nearest_pinned None near = near
