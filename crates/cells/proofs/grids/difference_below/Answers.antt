use Rattle.std.proofs.Common.{rules, tests, ◌≡◌, ℕ, ◌+◌, Bool, cond, not, ap, ◌∙◌, arith}
use Rattle.std.specs.List.{fold, range_with_len}
use Rattle.std.proofs.lemmas.Iterator.{YieldsList-from_range}
use Rattle.std.proofs.lemmas.Iterator.Consumers.{fold_from_yields_List}
use Rattle.cells.specs.Sets.{with, set_of}
use Rattle.cells.specs.Grids.{alike}
use Rattle.cells.proofs.SetLaws.{fold_with_if, set_of_none}
use Rattle.cells.proofs.grids.difference_below.Goals as goal

pub returns : goal.returns
returns c =
    let n = c.args.count in
    let p : ℕ → Bool = λ cell. not (alike c.args.one.now c.args.other.now cell) in
    let add : ℕ → ℕ → ℕ = λ set cell. cond (p cell) (with set cell) set in
    let gathered : c.fold.result ≡ fold add 0 (range_with_len 0 c.args.count) =
    fold_from_yields_List _ add 0 c.fold.result c.fold.ensures.ran
    (YieldsList-from_range 0 n n (cc) (omega arith))
    (λ a x b q k. search (rules, tests)) in
    let end : 0 + c.args.count ≡ c.args.count = omega arith in
    gathered ∙ ap (λ s. fold add s (range_with_len 0 c.args.count)) (set_of_none p) ∙ fold_with_if p 0 n (omega arith) ∙ ap (set_of p) end
