-- What is read of a text, and the rival that a search left in a strip.
use Rattle.std.proofs.Common.{◌≡◌, ℕ, ◌*◌, ◌<◌, ◌≤◌, true, List, length, get_or, take, All, Ok, Result, sym, subst, ◌∙◌, arith}
use Rattle.std.proofs.lemmas.List.Elements.{All-from_get_or}
use Rattle.cells.proofs.GridLaws.{strip_front}
use Rattle.latin.specs.declared.puzzle.Latin.{Latin}
use Rattle.latin.specs.Puzzle.{cell_count, given}
use Rattle.latin.specs.Rules.{is_size}
use Rattle.latin.specs.Search.{IsAgreeingRival, Holds}
use Rattle.latin.proofs.RuleLaws.{finished-length, finished_value, size_bounds}
use Rattle.latin.proofs.SearchLaws.{given-length}
use Rattle.text.specs.Lines.{Fault}
use Rattle.text.specs.Question.{Asked}
use Rattle.text.specs.Form.{TakesExactly}

-- The grid of a question has one of the sizes, and a digit for each of its cells.
pub grid_read : (text : List ℕ) (answer : Result Asked Fault) (q : Asked) → TakesExactly text answer → answer ≡ Ok q
    → (is_size q.side ≡ true) × (length q.digits ≡ q.side * q.side) × (length q.digits ≤ 36)
grid_read text answer q exactly e =
    let proper = ((exactly q).0 e).0 in
    let square = (size_bounds q.side (sym proper.1)).2 in
    (proper.1, proper.2, omega (arith, proper.2, square))

-- The rival that a search left in a strip has at most 36 cells.
pub few : (p : Latin) (clues : ℕ) (before after : List ℕ) → (h : Holds p clues before after) → length h.0 ≤ 36
few p clues before after h = omega (arith, finished-length p.size h.0 h.1.0.0, p.square)

-- It is the front of the strip.
pub front : (p : Latin) (clues : ℕ) (before after : List ℕ) (n : ℕ) → n ≡ cell_count p → (h : Holds p clues before after) → take n after ≡ h.0
front p clues before after n e h =
    let l = finished-length p.size h.0 h.1.0.0 in
    strip_front h.0 before after n (e ∙ sym l) (omega (arith, few p clues before after h)) h.2

-- Its values are single digits.
pub digits : (p : Latin) (clues : ℕ) (before after : List ℕ) → (h : Holds p clues before after) → (k : ℕ) → k < length h.0 → get_or h.0 k 0 < 10
digits p clues before after h k l =
    let e = finished-length p.size h.0 h.1.0.0 in
    let v = finished_value p.size h.0 h.1.0.0 k (omega arith) in
    omega (arith, v.1, p.small)

-- The front of the strip, as long as the given grid, is a rival; it has at most 36 cells, and its values are single digits.
pub rival_in_front : (p : Latin) (clues : ℕ) (before after : List ℕ) (n : ℕ) → n ≡ length (given p) → Holds p clues before after
    → IsAgreeingRival p clues (take n after) × (length (take n after) ≤ 36) × All (λ value. value < 10) (take n after)
rival_in_front p clues before after n e h =
    subst (λ (g : List ℕ). IsAgreeingRival p clues g × (length g ≤ 36) × All (λ value. value < 10) g)
    (sym (front p clues before after n (e ∙ given-length p) h)) (
      h.1,
      few p clues before after h,
      All-from_get_or (λ value. value < 10) h.0 0 (digits p clues before after h),
    )
