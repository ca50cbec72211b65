-- The laws of sets of cells.
use Rattle.std.proofs.Common.{◌≡◌, ℕ, zero, suc, ◌+◌, ◌-◌, ◌*◌, ◌/◌, ◌%◌, ◌^◌, ◌<◌, ◌≤◌, min, max, Bool, true, false, cond, not, ◌&&◌, ◌||◌, eqb, ltb, List, [], ◌∷◌, Decides, sym, refl, ap, ◌∙◌, ap₂, ⊎_elim, add-mul, pow-suc, add-one, one-add, arith, pow_mono}
use mathlib.Core.Bool.{and-true, and-false, or-false}
use native.Mathlib.Nat.{div-eq_of_lt, two-pow-succ}
use lib.Bits.{bit_and, bit_or, and_step, and_shr, and_le_l, and_block, and_mask, and_zero_r, or_step, or_shr, or_lt, or_disjoint}
use lib.Count.{ones, ones_step, ones_cat}
use Rattle.std.specs.List.{fold, filter, range_with_len}
use Rattle.std.proofs.lemmas.Nat.{pow_pos, pow_below, shr-shr, div-add-mod', mod_below}
use Rattle.std.proofs.lemmas.Bool.{eqb-false, eq-eqb, ne_eqb, lt-ltb, le-ltb, cases_order, cases_lt, cases_Bool}
use Rattle.std.proofs.lemmas.Bool.Decides.{nat_tests}
use Rattle.cells.specs.Sets.{has, set_of, with, without, union, intersection, all_below, meets}
use Rattle.cells.proofs.Bounded.{at_most_one, some_decides}

-- What the code's test of a cell computes.
pub has_code : (s c : ℕ) → eqb (bit_and (s / 2 ^ c) 1) 1 ≡ has s c
unfolding has
has_code s c = ap (λ x. eqb x 1) (and_mask (s / 2 ^ c) 1)

-- A set below 2 ^ n has no cell from n on.
pub has_above : (s n c : ℕ) → s < 2 ^ n → n ≤ c → has s c ≡ false
unfolding has
has_above s n c l h = ap (λ x. eqb (x % 2) 1) (div-eq_of_lt (let p = pow_mono {i = n} {j = c} h in omega arith))

-- Half of a set has its cells, each moved down by one.
pub has-suc : (s c : ℕ) → has s (suc c) ≡ has (s / 2) c
unfolding has
has-suc s c = ap (λ x. eqb (s / 2 ^ x % 2) 1) (sym (one-add c)) ∙ ap (λ x. eqb (x % 2) 1) (sym (shr-shr s 1 c))

same_digit : (x y : ℕ) → x < 2 → y < 2 → eqb x 1 ≡ eqb y 1 → x ≡ y
same_digit x y p q e = grind (arith, nat_tests)

lowest : (a b : ℕ) → has a 0 ≡ has b 0 → a % 2 ≡ b % 2
unfolding has
lowest a b e = let d = same_digit (a / 1 % 2) (b / 1 % 2) (omega arith) (omega arith) e in omega arith

-- Sets with the same cells are equal.
pub same_cells : (n a b : ℕ) → a < 2 ^ n → b < 2 ^ n → ((c : ℕ) → c < n → has a c ≡ has b c) → a ≡ b
same_cells zero a b p q f = omega arith
same_cells (suc n) a b p q f =
    let r = same_cells n (a / 2) (b / 2) (omega (arith, pow-suc 2 n)) (omega (arith, pow-suc 2 n))
    (λ c l. sym (has-suc a c) ∙ f (suc c) (omega arith) ∙ has-suc b c) in
    let d = lowest a b (f 0 (omega arith)) in
    omega arith

digit_le : (x y : ℕ) → x < 2 → y < 2 → (eqb x 1 ≡ true → eqb y 1 ≡ true) → x ≤ y
digit_le x y p q f = grind (arith, nat_tests)

lowest_le : (a b : ℕ) → (has a 0 ≡ true → has b 0 ≡ true) → a % 2 ≤ b % 2
unfolding has
lowest_le a b f = let d = digit_le (a / 1 % 2) (b / 1 % 2) (omega arith) (omega arith) f in omega arith

-- A subset has a lesser or equal number.
pub subset_number : (n a b : ℕ) → a < 2 ^ n → b < 2 ^ n → ((c : ℕ) → c < n → has a c ≡ true → has b c ≡ true) → a ≤ b
subset_number zero a b p q f = omega arith
subset_number (suc n) a b p q f =
    let r = subset_number n (a / 2) (b / 2) (omega (arith, pow-suc 2 n)) (omega (arith, pow-suc 2 n))
    (λ c l h. sym (has-suc b c) ∙ f (suc c) (omega arith) (has-suc a c ∙ h)) in
    let d = lowest_le a b (f 0 (omega arith)) in
    omega arith

or_odd : (a b : ℕ) → bit_or a b % 2 ≡ max (a % 2) (b % 2)
or_odd a b = omega (arith, or_step a b)

digit_or : (x y : ℕ) → x < 2 → y < 2 → eqb (max x y) 1 ≡ (eqb x 1 || eqb y 1)
digit_or x y p q = grind (arith, nat_tests)

-- The union of two sets, their intersection and a set's complement below n, cell by cell.
pub has-or : (a b c : ℕ) → has (bit_or a b) c ≡ (has a c || has b c)
unfolding has
has-or a b c =
    ap (λ x. eqb (x % 2) 1) (or_shr a b c) ∙ ap (λ x. eqb x 1) (or_odd (a / 2 ^ c) (b / 2 ^ c))
    ∙ digit_or (a / 2 ^ c % 2) (b / 2 ^ c % 2) (omega arith) (omega arith)

and_odd : (a b : ℕ) → bit_and a b % 2 ≡ min (a % 2) (b % 2)
and_odd a b = omega (arith, and_step a b)

digit_and : (x y : ℕ) → x < 2 → y < 2 → eqb (min x y) 1 ≡ (eqb x 1 && eqb y 1)
digit_and x y p q = grind (arith, nat_tests)

pub has-and : (a b c : ℕ) → has (bit_and a b) c ≡ (has a c && has b c)
unfolding has
has-and a b c =
    ap (λ x. eqb (x % 2) 1) (and_shr a b c) ∙ ap (λ x. eqb x 1) (and_odd (a / 2 ^ c) (b / 2 ^ c))
    ∙ digit_and (a / 2 ^ c % 2) (b / 2 ^ c % 2) (omega arith) (omega arith)

digit_not : (x y : ℕ) → x + y ≡ 1 → eqb y 1 ≡ not (eqb x 1)
digit_not x y e = grind (arith, nat_tests)

lowest_not : (a b m : ℕ) → a + b + 1 ≡ m * 2 → has b 0 ≡ not (has a 0)
unfolding has
lowest_not a b m e = digit_not (a / 1 % 2) (b / 1 % 2) (omega arith)

pub has-not : (n a b c : ℕ) → a + b + 1 ≡ 2 ^ n → c < n → has b c ≡ not (has a c)
has-not zero a b c e l = absurd (omega arith)
has-not (suc n) a b zero e l = lowest_not a b (2 ^ n) (e ∙ pow-suc 2 n)
has-not (suc n) a b (suc c) e l =
    has-suc b c ∙ has-not n (a / 2) (b / 2) c (omega (arith, pow-suc 2 n)) (omega arith) ∙ ap not (sym (has-suc a c))

one_zero : has 1 0 ≡ true
unfolding has
one_zero = refl

even : (s : ℕ) → s % 2 ≡ 0 → has s 0 ≡ false
unfolding has
even s e = ne_eqb (s / 1 % 2) 1 (λ o. omega arith)

-- The set of one cell.
pub has_one : (c d : ℕ) → has (2 ^ c) d ≡ eqb d c
has_one zero zero = one_zero
has_one zero (suc d) = has_above 1 1 (suc d) (omega arith) (omega arith) ∙ sym (ne_eqb (suc d) 0 (λ e. omega arith))
has_one (suc c) zero = even (2 ^ suc c) (omega (arith, pow-suc 2 c)) ∙ sym (ne_eqb 0 (suc c) (λ e. omega arith))
has_one (suc c) (suc d) =
    let half : 2 ^ suc c / 2 ≡ 2 ^ c = omega (arith, pow-suc 2 c) in
    has-suc (2 ^ suc c) d ∙ ap (λ x. has x d) half ∙ has_one c d ∙ moved d c
  where
    moved : (x y : ℕ) → eqb x y ≡ eqb (suc x) (suc y)
    moved x y = grind (arith, nat_tests)

-- A set that a test makes has the cells that pass the test.
pub set_of_below : (p : ℕ → Bool) (k : ℕ) → set_of p k < 2 ^ k
unfolding set_of
set_of_below p zero = omega arith
set_of_below p (suc k) =
    let ih = set_of_below p k in
    let e = two-pow-succ k in
    elim (p k) as (λ v. set_of p k + cond v (2 ^ k) 0 < 2 ^ suc k) [ true ↦ omega arith | false ↦ omega arith ]

-- One cell more, above all cells so far.
top_plus : (s k : ℕ) → s < 2 ^ k → bit_or s (2 ^ k) ≡ s + 2 ^ k
top_plus s k l =
    or_disjoint s (2 ^ k)
    (same_cells (suc k) (bit_and s (2 ^ k)) 0 (omega (arith, and_le_l s (2 ^ k), two-pow-succ k)) (pow_pos (suc k))
    (λ c _. has-and s (2 ^ k) c ∙ ap (λ x. has s c && x) (has_one k c) ∙ apart c ∙ sym (has_above 0 0 c (omega arith) (omega arith))))
  where
    apart : (c : ℕ) → (has s c && eqb c k) ≡ false
    apart c =
        ⊎_elim
        (λ (l' : c < k). ap (λ x. has s c && x) (ne_eqb c k (λ e. omega arith)) ∙ and-false (has s c))
        (λ (h : k ≤ c). ap (λ x. x && eqb c k) (has_above s k c l h))
        (cases_lt c k)

step : (p : ℕ → Bool) (k c : ℕ) → has (set_of p (suc k)) c ≡ (has (set_of p k) c || (p k && eqb c k))
unfolding set_of
step p k c =
    elim (p k) as (λ v. has (set_of p k + cond v (2 ^ k) 0) c ≡ (has (set_of p k) c || (v && eqb c k))) [
      | true ↦ ap (λ x. has x c) (sym (top_plus (set_of p k) k (set_of_below p k))) ∙ has-or (set_of p k) (2 ^ k) c
          ∙ ap (λ x. has (set_of p k) c || x) (has_one k c)
      | false ↦ (let z : set_of p k + 0 ≡ set_of p k = omega arith in ap (λ x. has x c) z ∙ sym (or-false (has (set_of p k) c)))
    ]

pub has-set_of : (p : ℕ → Bool) (k c : ℕ) → c < k → has (set_of p k) c ≡ p c
has-set_of p zero c l = absurd (omega arith)
has-set_of p (suc k) c l =
    step p k c
    ∙ ⊎_elim
    (λ (e : c ≡ k).
    last (has (set_of p k) c) (p k) (eqb c k) (has_above (set_of p k) k c (set_of_below p k) (omega arith)) (eq-eqb c k e) ∙ ap p (sym e))
    (⊎_elim
    (λ (h : c < k). before (has (set_of p k) c) (p k) (eqb c k) (ne_eqb c k (λ e. omega arith)) ∙ has-set_of p k c h)
    (λ (h : k < c). absurd (omega arith)))
    (cases_order c k)
  where
    last : (x y e : Bool) → x ≡ false → e ≡ true → (x || (y && e)) ≡ y
    last x y e a b = ap₂ (λ u v. u || (y && v)) a b ∙ and-true y

    before : (x y e : Bool) → e ≡ false → (x || (y && e)) ≡ x
    before true y e b = refl
    before false y e b = ap (λ v. y && v) b ∙ and-false y

-- A number is the set that a test makes if it has just the cells that pass it.
pub is_set_of : (s : ℕ) (p : ℕ → Bool) (k : ℕ) → s < 2 ^ k → ((c : ℕ) → c < k → has s c ≡ p c) → s ≡ set_of p k
is_set_of s p k l f = same_cells k s (set_of p k) l (set_of_below p k) (λ c h. f c h ∙ sym (has-set_of p k c h))

-- What the code computes for a cell added, a cell removed, all cells below n.
pub with_code : (s c : ℕ) → s < 2 ^ 64 → c < 64 → bit_or s (2 ^ c) ≡ with s c
with_code s c l h =
    is_set_of (bit_or s (2 ^ c)) (λ d. has s d || eqb d c) 64 (or_lt 64 s (2 ^ c) l (pow_below c 64 h))
    (λ d _. has-or s (2 ^ c) d ∙ ap (λ x. has s d || x) (has_one c d))

pub with_past : (s c : ℕ) → s < 2 ^ 64 → 64 ≤ c → s ≡ with s c
with_past s c l h =
    is_set_of s (λ d. has s d || eqb d c) 64 l (λ d k. sym (ap (λ x. has s d || x) (ne_eqb d c (λ e. omega arith)) ∙ or-false (has s d)))

pub without_code : (s c : ℕ) → s < 2 ^ 64 → c < 64 → bit_and s (2 ^ 64 - 1 - 2 ^ c) ≡ without s c
without_code s c l h =
    is_set_of (bit_and s (2 ^ 64 - 1 - 2 ^ c)) (λ d. has s d && not (eqb d c)) 64 (omega (arith, and_le_l s (2 ^ 64 - 1 - 2 ^ c)))
    (λ d k. has-and s (2 ^ 64 - 1 - 2 ^ c) d
    ∙ ap (λ x. has s d && x) (has-not 64 (2 ^ c) (2 ^ 64 - 1 - 2 ^ c) d (omega (arith, pow_below c 64 h)) k ∙ ap not (has_one c d)))

pub without_past : (s c : ℕ) → s < 2 ^ 64 → 64 ≤ c → s ≡ without s c
without_past s c l h =
    is_set_of s (λ d. has s d && not (eqb d c)) 64 l (λ d k. sym (ap (λ x. has s d && not x) (ne_eqb d c (λ e. omega arith)) ∙ and-true (has s d)))

-- What the code computes for the union and the intersection of two sets.
pub union_code : (s t : ℕ) → s < 2 ^ 64 → t < 2 ^ 64 → bit_or s t ≡ union s t
union_code s t l m = is_set_of (bit_or s t) (λ d. has s d || has t d) 64 (or_lt 64 s t l m) (λ d _. has-or s t d)

pub intersection_code : (s t : ℕ) → s < 2 ^ 64 → t < 2 ^ 64 → bit_and s t ≡ intersection s t
intersection_code s t l m =
    is_set_of (bit_and s t) (λ d. has s d && has t d) 64 (omega (arith, and_le_l s t)) (λ d _. has-and s t d)

pub has-union : (s t c : ℕ) → s < 2 ^ 64 → t < 2 ^ 64 → has (union s t) c ≡ (has s c || has t c)
has-union s t c l m = ap (λ x. has x c) (sym (union_code s t l m)) ∙ has-or s t c

pub has-intersection : (s t c : ℕ) → s < 2 ^ 64 → t < 2 ^ 64 → has (intersection s t) c ≡ (has s c && has t c)
has-intersection s t c l m = ap (λ x. has x c) (sym (intersection_code s t l m)) ∙ has-and s t c

has-ones : (n c : ℕ) → has (2 ^ n - 1) c ≡ ltb c n
has-ones n c =
    ⊎_elim
    (λ (h : c < n).
    has-not n 0 (2 ^ n - 1) c (omega (arith, pow_pos n)) h ∙ ap not (has_above 0 0 c (omega arith) (omega arith)) ∙ sym (lt-ltb c n h))
    (λ (h : n ≤ c). has_above (2 ^ n - 1) n c (omega (arith, pow_pos n)) h ∙ sym (le-ltb c n h))
    (cases_lt c n)

pub below_code : (n : ℕ) → n < 64 → 2 ^ n - 1 ≡ all_below n
below_code n h = is_set_of (2 ^ n - 1) (λ d. ltb d n) 64 (omega (arith, pow_below n 64 h)) (λ c _. has-ones n c)

pub below_past : (n : ℕ) → 64 ≤ n → 2 ^ 64 - 1 ≡ all_below n
below_past n h =
    is_set_of (2 ^ 64 - 1) (λ d. ltb d n) 64 (omega arith)
    (λ c l. has-ones 64 c ∙ lt-ltb c 64 l ∙ sym (lt-ltb c n (omega arith)))

-- Two sets meet if some cell is in both.
pub meets_decides : (s t : ℕ) → Decides (meets s t) ((c : ℕ) × (c < 64) × ((has s c && has t c) ≡ true))
meets_decides s t = some_decides (λ c. has s c && has t c) 64

-- A cell that is added to a set adds one to its number of cells.
digit : (s c : ℕ) → has s c ≡ false → s / 2 ^ c % 2 ≡ 0
unfolding has
digit s c e = let n = eqb-false (s / 2 ^ c % 2) 1 e in omega arith

apart : (s c : ℕ) → has s c ≡ false → bit_and s (2 ^ c) ≡ 0
apart s c e =
    let h = s / 2 ^ c in
    let r = s % 2 ^ c in
    ap₂ bit_and (sym (div-add-mod' s (2 ^ c))) (let z : 2 ^ c ≡ 1 * 2 ^ c + 0 = omega arith in z)
    ∙ and_block c h 1 r 0 (mod_below s (2 ^ c) (pow_pos c)) (pow_pos c)
    ∙ ap₂ (λ x y. x * 2 ^ c + y) (and_mask h 1 ∙ digit s c e) (and_zero_r r)
    ∙ (let z : 0 * 2 ^ c + 0 ≡ 0 = omega arith in z)

pub with_plus : (s c : ℕ) → s < 2 ^ 64 → c < 64 → has s c ≡ false → with s c ≡ s + 2 ^ c
with_plus s c l h e = sym (with_code s c l h) ∙ or_disjoint s (2 ^ c) (apart s c e)

next_even : (h : ℕ) → h % 2 ≡ 0 → ones (h + 1) ≡ ones h + 1
next_even h e =
    let q : (h + 1) / 2 ≡ h / 2 = omega arith in
    omega (arith, ones_step (h + 1), ones_step h, ap ones q)

pub one_more : (s c : ℕ) → s < 2 ^ 64 → c < 64 → has s c ≡ false → ones (with s c) ≡ ones s + 1
one_more s c p k e =
    let h = s / 2 ^ c in
    let r = s % 2 ^ c in
    let l = mod_below s (2 ^ c) (pow_pos c) in
    let b : with s c ≡ (h + 1) * 2 ^ c + r = with_plus s c p k e ∙ omega (arith, div-add-mod' s (2 ^ c), add-mul h 1 (2 ^ c)) in
    let x = ap ones b ∙ ones_cat c (h + 1) r l in
    let y = ap ones (sym (div-add-mod' s (2 ^ c))) ∙ ones_cat c h r l in
    omega (arith, x, y, next_even h (digit s c e))

-- A set that a test makes, from no cell on, one cell after the other.
pub set_of_none : (p : ℕ → Bool) → 0 ≡ set_of p 0
unfolding set_of
set_of_none p = refl

pub set_of_miss : (p : ℕ → Bool) (k : ℕ) → p k ≡ false → set_of p k ≡ set_of p (k + 1)
unfolding set_of
set_of_miss p k f =
    let z : set_of p k ≡ set_of p k + 0 = omega arith in
    z ∙ ap (λ b. set_of p k + cond b (2 ^ k) 0) (sym f) ∙ ap (set_of p) (sym (add-one k))

pub set_of_hit : (p : ℕ → Bool) (k : ℕ) → k < 64 → p k ≡ true → with (set_of p k) k ≡ set_of p (k + 1)
unfolding set_of
set_of_hit p k l t =
    let b = set_of_below p k in
    let m = pow_mono {i = k} {j = 64} (omega arith) in
    with_plus (set_of p k) k (omega arith) l (has_above (set_of p k) k k b (omega arith))
    ∙ ap (λ v. set_of p k + cond v (2 ^ k) 0) (sym t) ∙ ap (set_of p) (sym (add-one k))

-- How many cells below k pass a test: one more for each that does, and so never fewer with more cells, and at most k.
pub ones_none : (p : ℕ → Bool) → ones (set_of p 0) ≡ 0
unfolding ones
ones_none p = ap ones (sym (set_of_none p))

pub ones_more : (p : ℕ → Bool) (k : ℕ) → k < 64 → ones (set_of p (k + 1)) ≡ ones (set_of p k) + cond (p k) 1 0
ones_more p k l =
    let s = set_of p k in
    let b = set_of_below p k in
    let m = pow_mono {i = k} {j = 64} (omega arith) in
    ⊎_elim
    (λ (t : p k ≡ true).
    ap ones (sym (set_of_hit p k l t)) ∙ one_more s k (omega arith) l (has_above s k k b (omega arith))
    ∙ ap (λ v. ones s + cond v 1 0) (sym t))
    (λ (f : p k ≡ false).
    let z : ones s ≡ ones s + 0 = omega arith in
    ap ones (sym (set_of_miss p k f)) ∙ z ∙ ap (λ v. ones s + cond v 1 0) (sym f))
    (cases_Bool (p k))

pub ones_most : (p : ℕ → Bool) (k : ℕ) → k ≤ 64 → ones (set_of p k) ≤ k
ones_most p zero l = omega (arith, ones_none p)
ones_most p (suc k) l =
    let ih = ones_most p k (omega arith) in
    let e = ap (λ j. ones (set_of p j)) (sym (add-one k)) ∙ ones_more p k (omega arith) in
    omega (arith, at_most_one (p k))

pub ones_rise : (p : ℕ → Bool) (j k : ℕ) → j ≤ k → k ≤ 64 → ones (set_of p j) ≤ ones (set_of p k)
ones_rise p j zero h l = let e : j ≡ 0 = omega arith in omega (arith, ap (λ i. ones (set_of p i)) e)
ones_rise p j (suc k) h l =
    ⊎_elim
    (λ (m : j < suc k).
    let ih = ones_rise p j k (omega arith) (omega arith) in
    let e = ap (λ i. ones (set_of p i)) (sym (add-one k)) ∙ ones_more p k (omega arith) in
    omega arith)
    (λ (m : suc k ≤ j). let e : j ≡ suc k = omega arith in omega (arith, ap (λ i. ones (set_of p i)) e))
    (cases_lt j (suc k))

-- Adding the numbers from k on that pass the test, one after the other, to the set of those below k.
pub fold-with : (p : ℕ → Bool) (k n : ℕ) → k + n ≤ 64 → fold with (set_of p k) (filter p (range_with_len k n)) ≡ set_of p (k + n)
fold-with p k zero l = let z : k + 0 ≡ k = omega arith in ap (set_of p) (sym z)
fold-with p k (suc n) l =
    let next : k + 1 + n ≡ k + suc n = omega arith in
    let rest : List ℕ = filter p (range_with_len (k + 1) n) in
    let on = fold-with p (k + 1) n (omega arith) ∙ ap (set_of p) next in
    ⊎_elim
    (λ (t : p k ≡ true).
    ap (λ b. fold with (set_of p k) (cond b (k ∷ rest) rest)) t ∙ ap (λ s. fold with s rest) (set_of_hit p k (omega arith) t) ∙ on)
    (λ (f : p k ≡ false).
    ap (λ b. fold with (set_of p k) (cond b (k ∷ rest) rest)) f ∙ ap (λ s. fold with s rest) (set_of_miss p k f) ∙ on)
    (cases_Bool (p k))

-- The same where the test is made in the fold.
pub fold_with_if : (p : ℕ → Bool) (k n : ℕ) → k + n ≤ 64 → fold (λ s c. cond (p c) (with s c) s) (set_of p k) (range_with_len k n) ≡ set_of p (k + n)
fold_with_if p k n l = fold-filter with p (set_of p k) (range_with_len k n) ∙ fold-with p k n l
  where
    fold-filter : {A B : Type 0} (f : B → A → B) (q : A → Bool) (b : B) (xs : List A) → fold (λ s x. cond (q x) (f s x) s) b xs ≡ fold f b (filter q xs)
    fold-filter f q b [] = refl
    fold-filter f q b (x ∷ xs) =
        elim (q x) as (λ v. fold (λ s y. cond (q y) (f s y) s) (cond v (f b x) b) xs ≡ fold f b (cond v (x ∷ filter q xs) (filter q xs))) [
          | true ↦ fold-filter f q (f b x) xs
          | false ↦ fold-filter f q b xs
        ]
