-- What a finished Latin grid is, line by line.
use Rattle.std.proofs.Common.{◌≡◌, ℕ, zero, suc, ◌+◌, ◌-◌, ◌*◌, ◌/◌, ◌%◌, ◌<◌, ◌≤◌, true, ltb, leb, List, length, get_or, sym, ap, ◌∙◌, not-suc-le-zero, mod-lt, ⊎_elim, arith}
use Rattle.std.proofs.lemmas.Bool.{cases_lt, and_parts, leb-true, cond-true, cond-false, lt-ltb, le-ltb}
use Rattle.std.proofs.lemmas.Nat.{mul-le, div-add-mod', div_below}
use Rattle.cells.specs.Lines.{count}
use Rattle.cells.proofs.LineLaws.{Apart, keeps_from, keeps-length, keeps_value, keeps_once}
use Rattle.latin.specs.Rules.{is_size, line_of, finished}

pub size_pos : (n c : ℕ) → c < n * n → 0 < n
size_pos zero c l = absurd (not-suc-le-zero l)
size_pos (suc n) c l = omega arith

pub row_below : (n c : ℕ) → c < n * n → c / n < n
row_below n c l = div_below c n n (size_pos n c l) l

pub column_below : (n c : ℕ) → c < n * n → c % n < n
column_below n c l = mod-lt c (size_pos n c l)

-- The cells of a cell's row and of its column.
pub row_at : (n c k : ℕ) → c < n * n → line_of n (c / n) k ≡ c / n * n + k
row_at n c k l = cond-true (ltb (c / n) n) _ _ (lt-ltb (c / n) n (row_below n c l))

pub column_at : (n c k : ℕ) → line_of n (n + c % n) k ≡ k * n + c % n
column_at n c k =
    let e : n + c % n - n ≡ c % n = omega arith in
    cond-false (ltb (n + c % n) n) _ _ (le-ltb (n + c % n) n (omega arith)) ∙ ap (λ x. k * n + x) e

-- Each cell has a place in its row and one in its column, and the places before it are of cells before it.
pub in_row : (n c : ℕ) → c < n * n → line_of n (c / n) (c % n) ≡ c
in_row n c l = row_at n c (c % n) l ∙ div-add-mod' c n

pub in_column : (n c : ℕ) → c < n * n → line_of n (n + c % n) (c / n) ≡ c
in_column n c l = column_at n c (c / n) ∙ div-add-mod' c n

pub row_before : (n c k : ℕ) → c < n * n → k < c % n → line_of n (c / n) k < c
row_before n c k l h = omega (arith, row_at n c k l, div-add-mod' c n)

pub column_before : (n c k : ℕ) → c < n * n → k < c / n → line_of n (n + c % n) k < c
column_before n c k l h =
    omega (arith, column_at n c k, div-add-mod' c n, size_pos n c l, mul-le (k + 1) n (c / n) n (omega arith) (omega arith))

-- So the places of a line before the cell's own are all that hold cells before it.
pub before_in_row : (n c k : ℕ) → c < n * n → line_of n (c / n) k < c → k < c % n
before_in_row n c k l h = omega (arith, row_at n c k l, div-add-mod' c n)

pub before_in_column : (n c k : ℕ) → c < n * n → line_of n (n + c % n) k < c → k < c / n
before_in_column n c k l h =
    ⊎_elim
    (λ (b : k < c / n). b)
    (λ (b : c / n ≤ k). absurd (omega (arith, column_at n c k, div-add-mod' c n, mul-le (c / n) n k n b (omega arith))))
    (cases_lt k (c / n))

-- A grid whose rows and columns were all gone through is finished.
pub finished_from : (n : ℕ) (g : List ℕ) → length g ≡ n * n → ((l : ℕ) → l < 2 * n → Apart n (line_of n l) g) → finished n g ≡ true
finished_from n g e a =
    keeps_from n (2 * n) (line_of n) g e
    (λ c l. let r = row_below n c l in (c / n, c % n, omega arith, column_below n c l, in_row n c l)) a

-- What is known of a finished grid.
pub finished-length : (n : ℕ) (g : List ℕ) → finished n g ≡ true → length g ≡ n * n
finished-length n g f = keeps-length n (2 * n) (line_of n) g f

pub finished_value : (n : ℕ) (g : List ℕ) → finished n g ≡ true → (c : ℕ) → c < n * n → (1 ≤ get_or g c 0) × (get_or g c 0 ≤ n)
finished_value n g f = keeps_value n (2 * n) (line_of n) g f

pub finished_once : (n : ℕ) (g : List ℕ) → finished n g ≡ true → (l : ℕ) → l < 2 * n → (v : ℕ) → 0 < v → v ≤ n → count (line_of n l) g v n ≡ 1
finished_once n g f = keeps_once n (2 * n) (line_of n) g f

-- What is known of a size.
pub size_bounds : (n : ℕ) → true ≡ is_size n → (1 ≤ n) × (n ≤ 6) × (n * n ≤ 36)
size_bounds n h =
    let p = and_parts (leb 1 n) (leb n 6) (sym h) in
    let b = leb-true n 6 p.1 in
    (leb-true 1 n p.0, b, mul-le n n 6 6 b b)
