-- The number by which each refusal is known.
use Rattle.std.specs.Prelude.{ℕ}
use Rattle.cells.specs.declared.refusal.Refusal.{Refusal}
use Rattle.cells.specs.declared.refusal.Refusal.TheVariants.{Form, Size, Unfinished}

abbrev pub number_of : Refusal → ℕ
number_of Form = 11
number_of Size = 12
number_of Unfinished = 15
