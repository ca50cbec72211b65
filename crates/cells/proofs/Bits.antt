-- What the code computes on the bits of a set's number.
use Rattle.std.proofs.Common.{◌≡◌, ℕ, ◌-◌, ◌*◌, ◌%◌, ◌^◌, ◌<◌, ◌≤◌, false, ap, ◌∙◌}
use lib.Bits.{bit_and, bit_or}
use Rattle.std.proofs.lemmas.Nat.{one_shl}
use Rattle.cells.specs.Sets.{has, with, without, all_below}
use Rattle.cells.proofs.SetLaws.{has_above, with_code, without_code, below_code}

-- A number of 64 or more is in no set.
pub has_past : (s c : ℕ) → s < 2 ^ 64 → 64 ≤ c → has s c ≡ false
has_past s c l h = has_above s 64 c l h

-- 1 is shifted to the place of the cell.
pub with_bit : (s c : ℕ) → s < 2 ^ 64 → c < 64 → bit_or s (1 * 2 ^ c % 2 ^ 64) ≡ with s c
with_bit s c l h = ap (bit_or s) (one_shl c 64 h) ∙ with_code s c l h

pub without_bit : (s c : ℕ) → s < 2 ^ 64 → c < 64 → bit_and s (2 ^ 64 - 1 - 1 * 2 ^ c % 2 ^ 64) ≡ without s c
without_bit s c l h = ap (λ x. bit_and s (2 ^ 64 - 1 - x)) (one_shl c 64 h) ∙ without_code s c l h

pub below_bit : (n : ℕ) → n < 64 → 1 * 2 ^ n % 2 ^ 64 - 1 ≡ all_below n
below_bit n h = ap (λ x. x - 1) (one_shl n 64 h) ∙ below_code n h
