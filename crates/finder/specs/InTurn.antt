-- The finder of the tests: a grid of one cell, whose value is 0; 1 and 2 are the rivals.
use Rattle.std.specs.Prelude.{ℕ, zero, suc, ◌<◌, ◌&&◌, List, [], ◌∷◌, length, ◌==◌, nat_lt, slice_index, refl}
use Rattle.std.proofs.Common.{lit≤, arith}
use Rattle.std.proofs.lemmas.Bool.{and_parts, eqb-true, ltb-true}
use Rattle.finder.specs.Meaning.{Meaning, Lawful}

abbrev pub in_turn : Meaning
in_turn = record { given = 0 ∷ []; solves = λ g. (length g == 1) && nat_lt (slice_index g 0) 3 }

small : (g : List ℕ) → length g < 2 → slice_index g 0 < 3 → (c : ℕ) → slice_index g c < 256
small [] l h c = omega arith
small (v ∷ g) l h zero = omega arith
small (v ∷ []) l h (suc c) = omega arith
small (v ∷ (u ∷ g)) l h (suc c) = absurd (omega arith)

-- It keeps the law of a finder.
pub in_turn_lawful : Lawful in_turn
in_turn_lawful =
    record {
      some = lit≤ tt;
      few = lit≤ tt;
      solved = refl;
      sized = λ g e. eqb-true (length g) 1 (and_parts (length g == 1) (nat_lt (slice_index g 0) 3) e).0;
      bytes = λ g e.
          let p = and_parts (length g == 1) (nat_lt (slice_index g 0) 3) e in
          small g (omega (arith, eqb-true (length g) 1 p.0)) (ltb-true (slice_index g 0) 3 p.1);
    }
