-- Tests at every number below a bound, and at some number below it.
use Rattle.std.proofs.Common.{◌≡◌, ℕ, zero, suc, ◌<◌, ◌≤◌, Bool, true, false, cond, ◌&&◌, Decides, refl, ap, ◌∙◌, ap₂, arith}
use mathlib.Core.Bool.{and-false}
use Rattle.std.proofs.lemmas.Bool.Decides.{Decides-below_and, Decides-below_or}
use Rattle.cells.specs.Sets.{all, some}

-- A test that cannot pass fails.
pub fails : (b : Bool) → (b ≡ true → ⊥) → false ≡ b
fails true f = absurd (f refl)
fails false f = refl

-- A test counts for at most one.
pub at_most_one : (b : Bool) → cond b 1 0 ≤ 1
at_most_one true = omega arith
at_most_one false = omega arith

own : (b : Bool) → Decides b (b ≡ true)
own b = (λ h. h, λ h. h)

pub all_decides : (p : ℕ → Bool) (k : ℕ) → Decides (all p k) ((i : ℕ) → i < k → p i ≡ true)
unfolding all
all_decides p k = Decides-below_and p (λ i. p i ≡ true) (all p) (λ i. own (p i)) refl (λ _. refl) k

pub all_at : (p : ℕ → Bool) (k : ℕ) → all p k ≡ true → (i : ℕ) → i < k → p i ≡ true
all_at p k = (all_decides p k).0

pub all_from : (p : ℕ → Bool) (k : ℕ) → ((i : ℕ) → i < k → p i ≡ true) → all p k ≡ true
all_from p k = (all_decides p k).1

-- Two tests that answer alike below k, and two tests that are asked together.
pub all_same : (p q : ℕ → Bool) (k : ℕ) → ((i : ℕ) → i < k → p i ≡ q i) → all p k ≡ all q k
unfolding all
all_same p q zero h = refl
all_same p q (suc k) h = ap₂ ◌&&◌ (h k (omega arith)) (all_same p q k (λ i l. h i (omega arith)))

swapped : (a b x y : Bool) → ((a && b) && (x && y)) ≡ ((a && x) && (b && y))
swapped true b true y = refl
swapped true b false y = and-false b
swapped false b x y = refl

pub all_both : (p q : ℕ → Bool) (k : ℕ) → all (λ i. p i && q i) k ≡ (all p k && all q k)
unfolding all
all_both p q zero = refl
all_both p q (suc k) = ap (λ b. (p k && q k) && b) (all_both p q k) ∙ swapped (p k) (q k) (all p k) (all q k)

pub some_decides : (p : ℕ → Bool) (k : ℕ) → Decides (some p k) ((i : ℕ) × (i < k) × (p i ≡ true))
unfolding some
some_decides p k = Decides-below_or p (λ i. p i ≡ true) (some p) (λ i. own (p i)) refl (λ _. refl) k
