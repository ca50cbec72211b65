-- Texts that are written piece after piece, marks one after the other, the length of a number's digits, and replies with the same text.
use Rattle.std.proofs.Common.{◌≡◌, ℕ, ◌+◌, ◌/◌, ◌%◌, ◌^◌, ◌<◌, ◌≤◌, cond, List, [], ◌∷◌, ◌++◌, length, decimal, ap, ◌∙◌, append_assoc, arith}
use Rattle.std.proofs.Math.Bridge.{le_prop}
use Rattle.std.proofs.Math.Path.{path_j}
use Rattle.std.proofs.lemmas.Fmt.{decimal_step, length-decimal-le}
use Rattle.std.proofs.lemmas.Grind.{common_steps}
use Rattle.std.proofs.lemmas.List.{length_push}
use Rattle.std.proofs.lemmas.List.FromFn.{length-map-range_with_len, map-range_with_len_more}
use Rattle.cells.specs.Sets.{has}
use Rattle.text.specs.Values.{marks_of}
use Rattle.uniqueness.specs.Write.{Text, text_of}

-- A piece more at the end.
pub more : (before now start piece next : List ℕ) → now ≡ before ++ next → before ≡ start ++ piece → now ≡ start ++ (piece ++ next)
more before now start piece next e h = e ∙ ap (λ x. x ++ next) h ∙ append_assoc start piece next

-- One cell more has its mark at the end.
pub marks_more : (set cell : ℕ) → marks_of set (cell + 1) ≡ marks_of set cell ++ cond (has set cell) 35 46 ∷ []
marks_more set cell = map-range_with_len_more (λ c. cond (has set c) 35 46) 0 cell cell (omega arith)

pub ruleset marks = (common_steps, length-map-range_with_len, marks_more)

-- A number of several digits has one more than its tenth.
pub longer : (n : ℕ) → 10 ≤ n → n < 2 ^ 64 → length (decimal n) ≡ length (decimal (n / 10)) + 1
longer n h w = ap length (decimal_step n h w) ∙ length_push (decimal (n / 10)) (48 + n % 10)

-- A number of 64 bits has at most 20 digits.
pub few_digits : (n : ℕ) → n < 2 ^ 64 → length (decimal n) ≤ 20
few_digits n w = length-decimal-le 20 n (omega arith) (omega arith) w

-- Five pieces, one after the other, from nothing on.
pub five : {t0 t1 t2 t3 t4 t5 : List ℕ} (a b c d e : List ℕ)
    → t0 ≡ [] → t1 ≡ t0 ++ a → t2 ≡ t1 ++ b → t3 ≡ t2 ++ c → t4 ≡ t3 ++ d → t5 ≡ t4 ++ e → t5 ≡ a ++ (b ++ (c ++ (d ++ e)))
five a b c d e o p q r s t =
    t
    ∙ ap (λ l. l ++ e) (s ∙ ap (λ l. l ++ d) (r ∙ ap (λ l. l ++ c) (q ∙ ap (λ l. l ++ b) (p ∙ ap (λ l. l ++ a) o))))
    ∙ append_assoc ((a ++ b) ++ c) d e
    ∙ append_assoc (a ++ b) c (d ++ e)
    ∙ append_assoc a b (c ++ (d ++ e))

-- Replies with the same text are the same.
pub same_text : (a b : Text) → text_of a ≡ text_of b → a ≡ b
same_text a b e =
    path_j (λ (xs : List ℕ) (_ : a.bytes ≡ xs). (w : length xs ≤ 88) → a ≡ record { bytes = xs; within = w })
    (λ w. ap (λ l. record { bytes = a.bytes; within = l }) (le_prop a.within w)) e b.within
