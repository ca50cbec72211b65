-- Why the search finds a rival where there is one.
use Rattle.std.proofs.Common.{◌≡◌, ℕ, ◌+◌, ◌*◌, ◌/◌, ◌%◌, ◌<◌, ◌≤◌, true, List, length, get_or, take, set, sym, refl, ap, ◌∙◌, subst, arith, below_more}
use Rattle.cells.proofs.LineLaws.{twice}
use Rattle.cells.proofs.GridLaws.{agree_decides}
use Rattle.finder.specs.Searching.{SameBelow}
use Rattle.finder.proofs.SearchLaws.{at_cell, before_cell, same_more, whole}
use Rattle.latin.specs.declared.puzzle.Latin.{Latin}
use Rattle.latin.specs.Rules.{line_of, finished}
use Rattle.latin.specs.Puzzle.{cell_count, given, meaning_of}
use Rattle.latin.specs.Search.{IsAgreeingRival, DeadEnd, Unused, MayStand}
use Rattle.latin.specs.Lawful.{puzzle_lawful}
use Rattle.latin.proofs.RuleLaws.{row_below, column_below, in_row, in_column, row_before, column_before, finished-length, finished_value, finished_once}

-- In a finished grid that goes on from the pad with the value, the value is unused in each line of the cell before it.
unused_in : (n : ℕ) (g pad : List ℕ) (cell value l at : ℕ) → finished n g ≡ true → cell < n * n → cell < length pad → l < 2 * n → at < n
    → line_of n l at ≡ cell → ((k : ℕ) → k < at → line_of n l k < cell) → SameBelow (cell + 1) g (set pad cell value)
    → Unused (line_of n l) at pad value
unused_in n g pad cell value l at f c m b a e before s k j q =
    let here = at_cell g pad cell value m s in
    let r = finished_value n g f cell c in
    let one = finished_once n g f l b value (omega arith) (omega arith) in
    let two =
    twice (line_of n l) g value n k at (omega arith) a (omega arith)
    (before_cell g pad cell value s (line_of n l k) (before k j) ∙ q) (ap (λ i. get_or g i 0) e ∙ here) in
    omega arith

pub given-length : (p : Latin) → length (given p) ≡ cell_count p
given-length p = p.full

-- A rival that goes on from the pad with the value: the value may stand.
stands : (p : Latin) (clues : ℕ) (pad : List ℕ) (cell value : ℕ) (g : List ℕ) → cell < cell_count p → cell < length pad
    → IsAgreeingRival p clues g → SameBelow (cell + 1) g (set pad cell value) → MayStand p clues pad cell value
stands p clues pad cell value g c m t s =
    let n = p.size in
    let f = t.0.0 in
    let lg = given-length p in
    let lh = finished-length p.size g f in
    let row = row_below p.size cell c in
    let column = column_below p.size cell c in (
      (λ h. (agree_decides clues (given p) g).0 t.1 cell (omega arith) h ∙ at_cell g pad cell value m s),
      unused_in n g pad cell value (cell / n) (cell % n) f c m (omega arith) column (in_row n cell c) (λ k. row_before n cell k c) s,
      unused_in n g pad cell value (n + cell % n) (cell / n) f c m (omega arith) row (in_column n cell c) (λ k. column_before n cell k c) s,
    )

-- No value below this one, put in the cell, leads to a rival.
abbrev pub NoneBelow : Latin → ℕ → List ℕ → ℕ → ℕ → Type 0
NoneBelow p clues pad cell value = (v : ℕ) → v < value → 0 < v → DeadEnd p clues (set pad cell v) (cell + 1)

-- What leads nowhere from one pad leads nowhere from an equal one.
pub dead_end_at : (p : Latin) (clues : ℕ) (l m : List ℕ) (i v k : ℕ) → l ≡ m → DeadEnd p clues (set l i v) k → DeadEnd p clues (set m i v) k
dead_end_at p clues l m i v k e h = subst (λ (x : List ℕ). DeadEnd p clues (set x i v) k) e h

-- Nor does this value, if the search with it found none.
pub tried : (p : Latin) (clues : ℕ) (pad start : List ℕ) (cell value : ℕ) → pad ≡ start → NoneBelow p clues start cell value
    → DeadEnd p clues (set pad cell value) (cell + 1) → NoneBelow p clues start cell (value + 1)
tried p clues pad start cell value e h d = below_more _ _ h (λ _. dead_end_at p clues pad start cell value (cell + 1) e d)

-- A value that may not stand leads nowhere.
pub passed_over : (p : Latin) (clues : ℕ) (pad : List ℕ) (cell value : ℕ) → cell < cell_count p → cell < length pad
    → (MayStand p clues pad cell value → ⊥) → DeadEnd p clues (set pad cell value) (cell + 1)
passed_over p clues pad cell value c m no_way g t s = no_way (stands p clues pad cell value g c m t s)

pub not_tried : (p : Latin) (clues : ℕ) (pad start : List ℕ) (cell value : ℕ) → pad ≡ start → NoneBelow p clues start cell value → cell < cell_count p
    → cell < length pad → (MayStand p clues pad cell value → ⊥) → NoneBelow p clues start cell (value + 1)
not_tried p clues pad start cell value e h c m no_way =
    tried p clues pad start cell value e h (passed_over p clues pad cell value c m no_way)

-- If no value in the cell leads to a rival, there is none.
pub exhausted : (p : Latin) (clues : ℕ) (pad : List ℕ) (cell most : ℕ) → cell < cell_count p → cell < length pad → p.size < most
    → NoneBelow p clues pad cell most → DeadEnd p clues pad cell
exhausted p clues pad cell most l m b none g t s =
    let v = finished_value p.size g t.0.0 cell l in
    none (get_or g cell 0) (omega (arith, v.1)) (omega (arith, v.0)) g t (same_more g pad cell (get_or g cell 0) m s refl)

-- A filled pad whose front is no such rival leads to none.
pub none_filled : (p : Latin) (clues : ℕ) (pad : List ℕ) (k : ℕ) → k ≡ cell_count p → k ≤ length pad → (IsAgreeingRival p clues (take k pad) → ⊥)
    → DeadEnd p clues pad (cell_count p)
none_filled p clues pad k e l no_rival g t s =
    let front = whole (meaning_of p) (puzzle_lawful p) g pad t.0.0 (omega (arith, p.full)) (λ c h. s c (omega (arith, p.full))) in
    no_rival (subst (λ (x : List ℕ). IsAgreeingRival p clues x) (front ∙ ap (λ n. take n pad) (p.full ∙ sym e)) t)
