-- The values of lines, read and written.
use Rattle.std.proofs.Common.{◌≡◌, ℕ, ◌+◌, ◌^◌, ◌<◌, ◌≤◌, Bool, true, false, cond, not, ◌&&◌, eqb, leb, List, [], ◌∷◌, length, get_or, Some, None, Option, sym, refl, ap, ◌∙◌, subst, arith}
use Rattle.std.proofs.lemmas.Option.{cond_some}
use Rattle.std.proofs.lemmas.Bool.Decides.{nat_tests}
use Rattle.std.proofs.lemmas.List.FromFn.{length-map-range_with_len, get_or-map-range_with_len}
use Rattle.std.proofs.lemmas.List.{ext_get_or}
use Rattle.std.proofs.lemmas.List.Sums.{AllPass-from_list_all, list_all-from_AllPass}
use Rattle.std.specs.List.{list_all}
use Rattle.std.proofs.lemmas.Bool.{cond-true, ne_eqb, and_parts, and_from, le-leb, not_from_false}
use Rattle.cells.specs.Sets.{has, set_of}
use Rattle.cells.proofs.SetLaws.{has-set_of, set_of_below, is_set_of}
use Rattle.text.specs.Values.{is_digit, all_digits, one_digit, is_mark, all_marks, marked, read_marks, marks_of}

pub passed : {A : Type 0} (b : Bool) (o : Option A) (x : A) → cond b o None ≡ Some x → (b ≡ true) × (o ≡ Some x)
passed b o x e = grind arith

-- No byte of the value is 10.
abbrev pub inline : List ℕ → Bool
inline = list_all (λ b. not (eqb b 10))

inline_from : (test : ℕ → Bool) → ((b : ℕ) → test b ≡ true → not (eqb b 10) ≡ true) → (bs : List ℕ) → list_all test bs ≡ true → inline bs ≡ true
inline_from test h [] t = refl
inline_from test h (b ∷ bs) t =
    let p = and_parts (test b) (list_all test bs) t in
    and_from _ _ (h b p.0) (inline_from test h bs p.1)

digit_bounds : (b : ℕ) → is_digit b ≡ true → (48 ≤ b) × (b ≤ 57)
digit_bounds b h = grind (arith, nat_tests)

pub digit_whole : (v : List ℕ) (n : ℕ) → one_digit v ≡ Some n → v ≡ (n + 48) ∷ []
digit_whole [] n e = cc
digit_whole (b ∷ []) n e = grind (arith, nat_tests)
digit_whole (b ∷ (c ∷ bs)) n e = cc

pub digit_join : (n : ℕ) → n ≤ 9 → one_digit ((n + 48) ∷ []) ≡ Some n
digit_join n h = grind (arith, nat_tests)

pub digits_inline : (ds : List ℕ) → all_digits ds ≡ true → inline ds ≡ true
digits_inline ds h = inline_from is_digit (λ b t. not_from_false (eqb b 10) (ne_eqb b 10 (λ e. omega (arith, digit_bounds b t)))) ds h

-- Marks.
mark_inline : (b : ℕ) → is_mark b ≡ true → eqb b 10 ≡ false
mark_inline b h = grind (arith, nat_tests)

all_inline : (ms : List ℕ) → all_marks ms ≡ true → inline ms ≡ true
all_inline ms h = inline_from is_mark (λ b t. not_from_false (eqb b 10) (mark_inline b t)) ms h

pub marks-length : (s n : ℕ) → length (marks_of s n) ≡ n
marks-length s n = length-map-range_with_len (λ c. cond (has s c) 35 46) 0 n

mark_at : (s n c d : ℕ) → c < n → get_or (marks_of s n) c d ≡ cond (has s c) 35 46
mark_at s n c d h = get_or-map-range_with_len (λ c. cond (has s c) 35 46) 0 n c c d h (omega arith)

marks_all : (s n : ℕ) → all_marks (marks_of s n) ≡ true
marks_all s n =
    list_all-from_AllPass is_mark (marks_of s n)
    (λ k d l.
    let h : k < n = omega (arith, marks-length s n) in
    ap is_mark (mark_at s n k d h)
    ∙ elim (has s k) as (λ v. is_mark (cond v 35 46) ≡ true) [ true ↦ refl | false ↦ refl ])

pub marks_inline : (s n : ℕ) → inline (marks_of s n) ≡ true
marks_inline s n = all_inline (marks_of s n) (marks_all s n)

pub marks_join : (s n : ℕ) → n ≤ 64 → s < 2 ^ n → read_marks (marks_of s n) ≡ Some s
marks_join s n m h =
    let len = marks-length s n in
    cond-true (leb (length (marks_of s n)) 64 && all_marks (marks_of s n)) _ _
    (and_from _ _ (le-leb (length (marks_of s n)) 64 (omega arith)) (marks_all s n))
    ∙ ap Some
    (ap (set_of (marked (marks_of s n))) len
    ∙ sym (is_set_of s (marked (marks_of s n)) n h
    (λ c l. sym (ap (λ x. eqb x 35) (mark_at s n c 0 l) ∙ elim (has s c) as (λ v. eqb (cond v 35 46) 35 ≡ v) [ true ↦ refl | false ↦ refl ]))))

-- A mark is the one that is written of it.
same_mark : (b : ℕ) → is_mark b ≡ true → cond (eqb b 35) 35 46 ≡ b
same_mark b m = grind (arith, nat_tests)

pub marks_whole : (v : List ℕ) (s : ℕ) → read_marks v ≡ Some s → (v ≡ marks_of s (length v)) × (s < 2 ^ length v)
marks_whole v s e =
    let p = cond_some (leb (length v) 64 && all_marks v) (set_of (marked v) (length v)) s e in
    let same = p.1 in
    let all = (and_parts (leb (length v) 64) (all_marks v) p.0).1 in (
      ext_get_or 0 v (marks_of s (length v)) (sym (marks-length s (length v)))
          (λ k l.
          sym (mark_at s (length v) k 0 l
          ∙ ap (λ b. cond b 35 46) (ap (λ x. has x k) (sym same) ∙ has-set_of (marked v) (length v) k l)
          ∙ same_mark (get_or v k 0) (AllPass-from_list_all is_mark v all k 0 l))),
      subst (λ (x : ℕ). x < 2 ^ length v) same (set_of_below (marked v) (length v)),
    )
