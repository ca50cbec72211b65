-- Where the first line of a text ends, which key it has, and which number.
use Rattle.std.proofs.Common.{◌≡◌, ℕ, zero, suc, ◌+◌, ◌-◌, ◌<◌, ◌≤◌, true, false, cond, not, eqb, ltb, List, [], ◌∷◌, ◌++◌, length, get_or, take, drop, None, Some, Ok, Option, sym, refl, ap, ◌∙◌, ⊎_elim, add-one, arith, rules}
use Rattle.std.specs.List.{position_or_len}
use Rattle.std.specs.Option.{option_map}
use Rattle.std.specs.Str.{bytes_eq}
use Rattle.std.proofs.lemmas.Slice.Eq.{HasBytesAt, bytes_eq-Decides, text_from_reads}
use Rattle.std.proofs.lemmas.List.{take_rest}
use Rattle.std.proofs.lemmas.Bool.{cond-true, cond-false, cases_Bool, eqb-true, eq-eqb, ne_eqb, lt-ltb, le-ltb, and_left, and_right}
use Rattle.text.specs.Lines.{split_line, after, Key, KeyValue, under, next_line}

-- No byte 10 stands before place i.
abbrev pub Inside : List ℕ → ℕ → Type 0
Inside bs i = (k : ℕ) → k < i → get_or bs k 0 ≡ 10 → ⊥

-- The first line goes to the first byte 10, and without one there is none.
first_at : (bs : List ℕ) (i : ℕ) → i < length bs → Inside bs i → get_or bs i 0 ≡ 10 → position_or_len (λ b. eqb b 10) bs ≡ i
first_at [] i h n e = absurd (omega arith)
first_at (b ∷ bs) zero h n e = cond-false (not (eqb b 10)) _ _ (ap not (eq-eqb b 10 e))
first_at (b ∷ bs) (suc i) h n e =
    cond-true (not (eqb b 10)) _ _ (ap not (ne_eqb b 10 (n 0 (omega arith))))
    ∙ ap (λ k. 1 + k) (first_at bs i (omega arith) (λ k l. n (suc k) (omega arith)) e) ∙ omega arith

first_none : (bs : List ℕ) → Inside bs (length bs) → position_or_len (λ b. eqb b 10) bs ≡ length bs
first_none [] n = refl
first_none (b ∷ bs) n =
    cond-true (not (eqb b 10)) _ _ (ap not (ne_eqb b 10 (n 0 (omega arith))))
    ∙ ap (λ k. 1 + k) (first_none bs (λ k l. n (suc k) (omega arith))) ∙ omega arith

pub split_at : (bs : List ℕ) (i : ℕ) → i < length bs → Inside bs i → get_or bs i 0 ≡ 10 → split_line bs ≡ Some (take i bs, drop (suc i) bs)
split_at bs i h n e =
    ap (λ n. option_map (λ at. (take at bs, drop (at + 1) bs)) (cond (ltb n (length bs)) (Some n) None)) (first_at bs i h n e)
    ∙ ap (option_map (λ at. (take at bs, drop (at + 1) bs))) (cond-true (ltb i (length bs)) (Some i) None (lt-ltb i (length bs) h))
    ∙ ap (λ k. Some (take i bs, drop k bs)) (add-one i)

pub split_none : (bs : List ℕ) → Inside bs (length bs) → split_line bs ≡ None
split_none bs n =
    ap (λ n. option_map (λ at. (take at bs, drop (at + 1) bs)) (cond (ltb n (length bs)) (Some n) None)) (first_none bs n)
    ∙ ap (option_map (λ at. (take at bs, drop (at + 1) bs)))
    (cond-false (ltb (length bs) (length bs)) (Some (length bs)) None (le-ltb (length bs) (length bs) (omega arith)))

-- What is read in s from place i on is read in b ∷ s one place later.
down : (p : List ℕ) (b : ℕ) (s : List ℕ) (i : ℕ) → HasBytesAt (b ∷ s) (suc i) p → HasBytesAt s i p
down [] b s i r = tt
down (k ∷ p) b s i r = (r.0, down p b s (suc i) r.1)

up : (p : List ℕ) (b : ℕ) (s : List ℕ) (i : ℕ) → HasBytesAt s i p → HasBytesAt (b ∷ s) (suc i) p
up [] b s i r = tt
up (k ∷ p) b s i r = (r.0, up p b s (suc i) r.1)

begins : (p s : List ℕ) → length p ≤ length s → HasBytesAt s 0 p → s ≡ p ++ drop (length p) s
begins [] s l r = refl
begins (k ∷ p) [] l r = absurd (omega arith)
begins (k ∷ p) (b ∷ s) l r = ap (λ x. x ∷ s) r.0 ∙ ap (λ t. k ∷ t) (begins p s (omega arith) (down p b s 0 r.1))

-- A line that has the key is the key and the rest, as the pattern takes it.
pub known : (p s : List ℕ) → length p ≤ length s → HasBytesAt s 0 p → s ≡ p ++ take (length s - length p) (drop (length p) s)
known p s l r = begins p s l r ∙ ap (λ t. p ++ t) (sym (take_rest s (length p)))

-- A line that does not have the key gives nothing under it, and so is what the other keys say.
miss : (p s : List ℕ) → (length p ≤ length s → HasBytesAt s 0 p → ⊥) → after p s ≡ None
miss [] s h = absurd (h (omega arith) tt)
miss (k ∷ p) [] h = refl
miss (k ∷ p) (b ∷ s) h =
    ⊎_elim
    (λ t. cond-true _ _ _ t ∙ miss p s (λ l r. h (omega arith) (eqb-true _ _ t, up p b s 0 r)))
    (λ f. cond-false _ _ _ f)
    (cases_Bool (eqb b k))

pub other : (key : Key) (p s : List ℕ) (t : Option KeyValue) → (length p ≤ length s → HasBytesAt s 0 p → ⊥) → under key (after p s) t ≡ t
other key p s t h = ap (λ o. under key o t) (miss p s h)

-- A value with the length and the bytes of p is p.
pub like : (p s : List ℕ) → length s ≡ length p → HasBytesAt s 0 p → (bytes_eq s p ≡ true) × (s ≡ p)
like p s l r =
    let same = text_from_reads s p l r in
    ((bytes_eq-Decides s p).1 same, same)

-- A value with another length or other bytes than p is not p.
pub unlike : (p s : List ℕ) → (length s ≡ length p → HasBytesAt s 0 p → ⊥) → bytes_eq s p ≡ false
unlike [] [] h = absurd (h refl tt)
unlike [] (b ∷ s) h = refl
unlike (k ∷ p) [] h = refl
unlike (k ∷ p) (b ∷ s) h =
    ⊎_elim
    (λ t. and_right _ _ (unlike p s (λ l r. h (omega arith) (eqb-true _ _ t, up p b s 0 r))))
    (λ f. and_left _ _ f)
    (cases_Bool (eqb b k))

-- A line that is read as line n has the number n.
pub counted : (n : ℕ) (text : List ℕ) {number : ℕ} {t : KeyValue} {rest : List ℕ} → Ok ((number, t), rest) ≡ next_line n text → number ≡ n
unfolding next_line
counted n text e = search rules
