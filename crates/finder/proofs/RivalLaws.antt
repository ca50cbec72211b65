-- Why clues admit only the given grid exactly when they meet every rival.
use Rattle.std.proofs.Common.{◌≡◌, true, false, not, sym, ap, ◌∙◌, ⊎_elim}
use Rattle.std.proofs.lemmas.Bool.{cases_Bool, false≢true}
use Rattle.cells.specs.Sets.{meets}
use Rattle.cells.specs.Grids.{differ}
use Rattle.cells.proofs.GridLaws.{agree_unmet}
use Rattle.finder.specs.Meaning.{Meaning}
use Rattle.finder.specs.Rivals.{AdmitsIffMeets}

pub admits_iff_meets : (m : Meaning) → AdmitsIffMeets m
admits_iff_meets m clues l = (
  λ only g r. ⊎_elim
      (λ (e : meets clues (differ m.given g) ≡ true). e)
      (λ (e : meets clues (differ m.given g) ≡ false). absurd (only g (r, agree_unmet clues m.given g l ∙ ap not e)))
      (cases_Bool (meets clues (differ m.given g))),
  λ every g a. false≢true (sym (ap not (every g a.0)) ∙ sym (agree_unmet clues m.given g l) ∙ a.1),
)
