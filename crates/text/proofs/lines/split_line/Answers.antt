use Rattle.std.proofs.Common.{◌≡◌, ◌==◌, position, rules, tests}
use Rattle.std.proofs.lemmas.Iterator.{YieldsList-from_slice}
use Rattle.std.proofs.lemmas.Iterator.Search.{position_from_yields_List}
use Rattle.std.proofs.lemmas.List.{take_rest}
use Rattle.text.proofs.lines.split_line.Goals.{After-position}
use Rattle.text.proofs.lines.split_line.Goals as goal

-- The place of the first byte 10.
found : (c : After-position) → c.position.result ≡ position (λ b. b == 10) c.args.text.now
found c = position_from_yields_List (λ b. b == 10) _ _ _ c.position.ensures.ran (YieldsList-from_slice _ c.iter.ensures.rest) (λ x b q k. search (rules, tests))

pub returns-in_err-at : goal.returns-in_err-at
returns-in_err-at c = let at = found (goal.at.returns-in_err-at c).After-position in search (rules, at)

pub returns : goal.returns
returns c = let at = found (goal.at.returns c).After-position in search (rules, at, take_rest)
