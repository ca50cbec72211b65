use Rattle.std.proofs.Common.{codes, sym, ◌∙◌, rules}
use Rattle.text.specs.Lines.{kind, size, grid, map, clues}
use Rattle.text.proofs.LineLaws.{other}
use Rattle.text.proofs.lines.split_key.Goals as goal

pub returns-in_default : goal.returns-in_default
returns-in_default c =
    let line = c.args.line.now in
    sym
    (other kind (codes "kind=") line _ (λ l r. search rules)
    ∙ other size (codes "size=") line _ (λ l r. search rules)
    ∙ other grid (codes "grid=") line _ (λ l r. search rules)
    ∙ other map (codes "map=") line _ (λ l r. search rules)
    ∙ other clues (codes "clues=") line _ (λ l r. search rules))
