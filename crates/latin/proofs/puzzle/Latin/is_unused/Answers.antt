use Rattle.std.proofs.Common.{◌≡◌, ℕ, ◌<◌, Bool, not, get_or, Decides, MatchBool, length, true, false, zero-add, refl, ◌∙◌, subst, rules, tests, arith}
use mathlib.Core.Bool.{false≢true}
use Rattle.std.specs.List.{range_with_len, AllWithin, HoldsAt}
use Rattle.std.proofs.lemmas.Iterator.{cases_from_any, YieldsList-from_range}
use Rattle.std.proofs.lemmas.List.FromFn.{length-range_with_len, get_or-range_with_len}
use Rattle.latin.specs.Rules.{line_of}
use Rattle.latin.proofs.puzzle.Latin.is_unused.Goals as goal

-- What `any` over the numbers below n says of each of them.
at_none : (n : ℕ) (r : Bool) (P : ℕ → Type 0)
    → (let ks = range_with_len 0 n in MatchBool r ((k : ℕ) × (k < length ks) × HoldsAt P ks k) (AllWithin (λ k. P k → ⊥) ks 0 (length ks)))
    → Decides (not r) ((k : ℕ) → k < n → P k → ⊥)
at_none n true P m =
    let l : m.0 < n = omega (arith, m.1, length-range_with_len 0 n) in
    (λ e. absurd (false≢true e), λ h. absurd (h m.0 l (subst P (get_or-range_with_len 0 n m.0 0 l ∙ zero-add m.0) (m.2 0))))
at_none n false P m = (
  λ _ k l. subst (λ i. P i → ⊥) (get_or-range_with_len 0 n k 0 l ∙ zero-add k) (m k 0 (omega arith) (omega (arith, length-range_with_len 0 n))),
  λ _. refl,
)

pub returns : goal.returns
returns c =
    let n = c.args.places in
    let Taken : ℕ → Type 0 = λ k. get_or c.args.pad.now (line_of c.args.self.now.size c.args.line k) 0 ≡ c.args.value in
    at_none n c.any.result Taken
    (cases_from_any _ _ c.any.result Taken (λ k. Taken k → ⊥) c.any.ensures.ran (YieldsList-from_range 0 n n refl (omega arith))
    (λ k q h. search (rules, tests)) (λ k q h. search (rules, tests)))
