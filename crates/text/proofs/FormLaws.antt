-- A text is read as a question exactly if it is the text of a proper question.
use Rattle.std.proofs.Common.{◌≡◌, ℕ, ◌+◌, ◌*◌, ◌^◌, ◌<◌, Bool, true, cond, not, ◌&&◌, eqb, ◌⊎◌, List, [], ◌∷◌, ◌++◌, length, get_or, take, drop, drop-cons, position, Some, None, Ok, Err, codes, Option, Result, sym, refl, ap, ◌∙◌, subst, ap₂, inl, inr, ⊎_elim, arith}
use Rattle.std.specs.Option.{option_map}
use Rattle.std.specs.Str.{bytes_eq}
use Rattle.std.proofs.lemmas.Bool.{cond-true, eq-eqb, ne_eqb, eqb-true, and_parts, and_from, not_from_false}
use Rattle.std.proofs.lemmas.Slice.Eq.{bytes_eq-Decides}
use Rattle.std.proofs.lemmas.Bool.Decides.{nat_tests}
use Rattle.std.proofs.lemmas.Grind.{common_steps}
use Rattle.std.proofs.lemmas.Option.{some_pair_parts, same_Some}
use Rattle.std.proofs.lemmas.List.Quantifiers.{position-Some}
use Rattle.std.specs.List.{position_or_len}
use Rattle.latin.specs.Rules.{is_size}
use Rattle.latin.proofs.RuleLaws.{size_bounds}
use Rattle.text.specs.Lines.{Fault, split_line, after, Key, kind, size, grid, map, clues, key_text, KeyValue, under, as_key, key_value, numbered, line_from, next_line}
use Rattle.text.specs.Values.{all_digits, one_digit, read_marks, marks_of}
use Rattle.text.specs.Question.{then, line_number, or_form, value_under, key_line, kind_value, kind_line, size_line, grid_value, grid_line, map_value, map_line, clues_value, clues_line, text_end, Asked, read_question}
use Rattle.text.proofs.ValueLaws.{passed, inline, digit_whole, digit_join, digits_inline, marks-length, marks_whole, marks_join, marks_inline}
use Rattle.text.specs.Form.{line_then, question_text, Proper, TakesExactly}

-- What came, where something came.
ok_same : {A : Type 0} (x y : A) → ◌≡◌ {A = Result A Fault} (Ok x) (Ok y) → x ≡ y
ok_same x y e = cc

cond_ok : {A : Type 0} (b : Bool) (x : A) (f : Fault) (y : A) → ◌≡◌ {A = Result A Fault} (cond b (Ok x) (Err f)) (Ok y) → (b ≡ true) × (x ≡ y)
cond_ok b x f y e = grind arith

then_ok : {A B : Type 0} (r : Result A Fault) (f : A → Result B Fault) (b : B) → then r f ≡ Ok b → (a : A) × (r ≡ Ok a) × (f a ≡ Ok b)
then_ok (Ok a) f b e = (a, refl, e)
then_ok (Err x) f b e = cc

then_at : {A B : Type 0} (r : Result A Fault) (f : A → Result B Fault) (a : A) (z : Result B Fault) → r ≡ Ok a → f a ≡ z → then r f ≡ z
then_at r f a z e d = ap (λ x. then x f) e ∙ d

form_ok : {A : Type 0} (n : ℕ) (rest : List ℕ) (o : Option A) (a : A × List ℕ) → or_form n rest o ≡ Ok a → (o ≡ Some a.0) × (rest ≡ a.1)
form_ok n rest o a e = grind arith

-- A text that is split is its first line, the byte 10 and the rest.
split_whole : (text line rest : List ℕ) → split_line text ≡ Some (line, rest) → text ≡ line ++ (10 ∷ rest)
split_whole text line rest e = first (position end text) refl e
  where
    end : ℕ → Bool
    end b = eqb b 10

    first : (o : Option ℕ) → position end text ≡ o → option_map {U = List ℕ × List ℕ} (λ at. (take at text, drop (at + 1) text)) o ≡ Some (line, rest)
        → text ≡ line ++ (10 ∷ rest)
    first None f d = cc
    first (Some at) f d =
        let q = some_pair_parts _ _ _ _ d in
        let w = position-Some end text at 0 f in
        let at_end = eqb-true (get_or text at 0) 10 w.1 in
        let whole : text ≡ take at text ++ (get_or text at 0 ∷ drop (at + 1) text) = grind (arith, common_steps) in
        whole ∙ ap₂ (λ x y. x ++ y) q.0 (ap₂ (λ x y. x ∷ y) at_end q.1)

-- A line with no byte 10 in it is split off again.
first_end : (line rest : List ℕ) → inline line ≡ true → position_or_len (λ b. eqb b 10) (line ++ (10 ∷ rest)) ≡ length line
first_end [] rest h = refl
first_end (b ∷ line) rest h =
    let p = and_parts (not (eqb b 10)) (inline line) h in
    cond-true (not (eqb b 10)) _ _ p.0 ∙ ap (λ n. 1 + n) (first_end line rest p.1) ∙ omega arith

split_join : (line rest : List ℕ) → inline line ≡ true → split_line (line ++ (10 ∷ rest)) ≡ Some (line, rest)
split_join line rest h =
    let text : List ℕ = line ++ (10 ∷ rest) in
    let first : position (λ b. eqb b 10) text ≡ Some (length line) = grind (arith, nat_tests, common_steps, first_end line rest h) in
    let front : take (length line) text ≡ line = grind (arith, common_steps) in
    let back : drop (length line + 1) text ≡ rest = grind (arith, common_steps, drop-cons text (length line) 0) in
    ap (option_map {U = List ℕ × List ℕ} (λ at. (take at text, drop (at + 1) text))) first ∙ ap₂ (λ x y. Some (x, y)) front back

-- What stands after a key, and the key before it.
after_whole : (key line value : List ℕ) → after key line ≡ Some value → line ≡ key ++ value
after_whole [] line value e = cc
after_whole (k ∷ key) [] value e = cc
after_whole (k ∷ key) (b ∷ line) value e = grind (arith, nat_tests, after_whole key line value)

as_key_lem : (key : Key) (line : List ℕ) (other : Option KeyValue) (t : KeyValue) → as_key key line other ≡ Some t
    → (line ≡ key_text t.0 ++ t.1) ⊎ (other ≡ Some t)
as_key_lem key line other t e = told (after (key_text key) line) (after_whole (key_text key) line) e
  where
    told : (o : Option (List ℕ)) → ((v : List ℕ) → o ≡ Some v → line ≡ key_text key ++ v) → under key o other ≡ Some t
        → (line ≡ key_text t.0 ++ t.1) ⊎ (other ≡ Some t)
    told None h d = inr d
    told (Some v) h d = inl (h v refl ∙ ap (λ x. key_text x.0 ++ x.1) (same_Some _ _ d))

key_value_lem : (line : List ℕ) (t : KeyValue) → key_value line ≡ Some t → line ≡ key_text t.0 ++ t.1
key_value_lem line t e =
    ⊎_elim (λ h. h)
    (λ d. ⊎_elim (λ h. h)
    (λ d. ⊎_elim (λ h. h)
    (λ d. ⊎_elim (λ h. h)
    (λ d. ⊎_elim (λ h. h) (λ d. cc) (as_key_lem clues line None t d))
    (as_key_lem map line _ t d))
    (as_key_lem grid line _ t d))
    (as_key_lem size line _ t d))
    (as_key_lem kind line _ t e)

-- Each key is told by its own bytes.
key_told : (key : Key) (value : List ℕ) → key_value (key_text key ++ value) ≡ Some (key, value)
key_told kind value = refl
key_told size value = refl
key_told grid value = refl
key_told map value = refl
key_told clues value = refl

key_inline : (key : Key) (value : List ℕ) → inline (key_text key ++ value) ≡ inline value
key_inline kind value = refl
key_inline size value = refl
key_inline grid value = refl
key_inline map value = refl
key_inline clues value = refl

-- The first line of a text, read and written.
next_whole : (n : ℕ) (text : List ℕ) (m : ℕ) (t : KeyValue) (rest : List ℕ) → next_line n text ≡ Ok ((m, t), rest)
    → text ≡ line_then t.0 t.1 rest
unfolding next_line
next_whole n text m t rest e = first (split_line text) (split_whole text) e
  where
    keyed : (o : Option KeyValue) (line r : List ℕ) → ((x : KeyValue) → o ≡ Some x → line ≡ key_text x.0 ++ x.1)
        → numbered n r o ≡ Ok ((m, t), rest) → line ++ (10 ∷ r) ≡ line_then t.0 t.1 rest
    keyed o line r h d = grind (arith, h)

    first : (o : Option (List ℕ × List ℕ)) → ((x y : List ℕ) → o ≡ Some (x, y) → text ≡ x ++ (10 ∷ y)) → line_from n o ≡ Ok ((m, t), rest)
        → text ≡ line_then t.0 t.1 rest
    first None h d = cc
    first (Some p) h d = h p.0 p.1 refl ∙ keyed (key_value p.0) p.0 p.1 (key_value_lem p.0) d

next_join : (n : ℕ) (key : Key) (value rest : List ℕ) → inline value ≡ true → next_line n (line_then key value rest) ≡ Ok ((n, (key, value)), rest)
unfolding next_line
next_join n key value rest h =
    ap (line_from n) (split_join (key_text key ++ value) rest (key_inline key value ∙ h)) ∙ ap (numbered n rest) (key_told key value)

-- The number of a line tells its key.
same_key : (j k : Key) → eqb (line_number j) (line_number k) ≡ true → j ≡ k
same_key j k e = grind (arith, nat_tests)

-- The line of a key, read and written.
key_whole : {A : Type 0} (key : Key) (f : List ℕ → Option A) (text : List ℕ) (a : A) (rest : List ℕ) → key_line key f text ≡ Ok (a, rest)
    → (v : List ℕ) × (text ≡ line_then key v rest) × (f v ≡ Some a)
key_whole key f text a rest e =
    let w = then_ok (next_line (line_number key) text) (λ l. or_form (line_number key) l.1 (value_under key f l.0.1)) (a, rest) e in
    let t : KeyValue = w.0.0.1 in
    let o = form_ok (line_number key) w.0.1 (value_under key f t) (a, rest) w.2 in
    let p = passed (eqb (line_number t.0) (line_number key)) (f t.1) a o.0 in
    (t.1, next_whole (line_number key) text w.0.0.0 t w.0.1 w.1 ∙ ap₂ (λ k r. line_then k t.1 r) (same_key t.0 key p.0) o.1, p.1)

key_join : {A : Type 0} (key : Key) (f : List ℕ → Option A) (value : List ℕ) (a : A) (rest : List ℕ) → inline value ≡ true → f value ≡ Some a
    → key_line key f (line_then key value rest) ≡ Ok (a, rest)
key_join key f value a rest h e =
    ap (λ r. then r (λ l. or_form (line_number key) l.1 (value_under key f l.0.1))) (next_join (line_number key) key value rest h)
    ∙ ap (or_form (line_number key) rest) (cond-true (eqb (line_number key) (line_number key)) (f value) None (eq-eqb (line_number key) (line_number key) refl) ∙ e)

-- Line 2, with the test of the size.
size_whole : (text : List ℕ) (s : ℕ × List ℕ) → size_line text ≡ Ok s → (is_size s.0 ≡ true) × (key_line size one_digit text ≡ Ok s)
size_whole text s e =
    let w = then_ok (key_line size one_digit text) (λ x. cond (is_size x.0) (Ok x) (Err (12, 2))) s e in
    let p = cond_ok (is_size w.0.0) w.0 (12, 2) s w.2 in
    (ap (λ y. is_size y.0) (sym p.1) ∙ p.0, w.1 ∙ ap Ok p.1)

end_whole : (rest : List ℕ) (u : Unit {0}) → text_end rest ≡ Ok u → rest ≡ []
end_whole [] u e = refl
end_whole (b ∷ rest) u e = cc

same_whole : (v p a : List ℕ) → cond (bytes_eq v p) (Some v) None ≡ Some a → (v ≡ p) × (v ≡ a)
same_whole v p a e = grind (arith, bytes_eq-Decides v p)

grid_whole : (cells : ℕ) (v g : List ℕ) → cond (eqb (length v) cells && all_digits v) (Some v) None ≡ Some g
    → (v ≡ g) × (length g ≡ cells) × (all_digits g ≡ true)
grid_whole cells v g e = grind (arith, nat_tests)

-- The parts of a text that is read, and the text made of parts.
takes : (text : List ℕ) (q : Asked) → read_question text ≡ Ok q → Proper q × (text ≡ question_text q)
takes text q e =
    let k = then_ok (kind_line text) _ q e in
    let s = then_ok (size_line k.0.1) _ q k.2 in
    let n = s.0.0 in
    let g = then_ok (grid_line (n * n) s.0.1) _ q s.2 in
    let m = then_ok (map_line g.0.1) _ q g.2 in
    let c = then_ok (clues_line (n * n) m.0.1) _ q m.2 in
    let u = then_ok (text_end c.0.1) _ q c.2 in
    let kw = key_whole kind kind_value text k.0.0 k.0.1 k.1 in
    let kv = same_whole kw.0 (codes "latin") k.0.0 kw.2 in
    let sz = size_whole k.0.1 s.0 s.1 in
    let sw = key_whole size one_digit k.0.1 n s.0.1 sz.1 in
    let gw = key_whole grid (grid_value (n * n)) s.0.1 g.0.0 g.0.1 g.1 in
    let gv = grid_whole (n * n) gw.0 g.0.0 gw.2 in
    let mw = key_whole map map_value g.0.1 m.0.0 m.0.1 m.1 in
    let mv = same_whole mw.0 (codes "-") m.0.0 mw.2 in
    let cw = key_whole clues (clues_value (n * n)) m.0.1 c.0.0 c.0.1 c.1 in
    let cp = passed (eqb (length cw.0) (n * n)) (read_marks cw.0) c.0.0 cw.2 in
    let cn = eqb-true (length cw.0) (n * n) cp.0 in
    let cv = marks_whole cw.0 c.0.0 cp.1 in
    let t5 = cw.1 ∙ ap₂ (line_then clues) (cv.0 ∙ ap (marks_of c.0.0) cn) (end_whole c.0.1 u.0 u.1) in
    let t4 = mw.1 ∙ ap₂ (line_then map) mv.0 t5 in
    let t3 = gw.1 ∙ ap₂ (line_then grid) gv.0 t4 in
    let t2 = sw.1 ∙ ap₂ (line_then size) (digit_whole sw.0 n sw.2) t3 in
    let t1 = kw.1 ∙ ap₂ (line_then kind) kv.1 t2 in
    subst (λ (x : Asked). Proper x × (text ≡ question_text x)) (ok_same _ q u.2)
    ((sym kv.1 ∙ kv.0, sz.0, gv.1, gv.2, subst (λ (x : ℕ). c.0.0 < 2 ^ x) cn cv.1), t1)

joins : (q : Asked) → Proper q → read_question (question_text q) ≡ Ok q
joins q p =
    let n = q.side in
    let b = size_bounds n (sym p.1) in
    let marks = marks_of q.clue_set (n * n) in
    let r5 = line_then clues marks [] in
    let r4 = line_then map (codes "-") r5 in
    let r3 = line_then grid q.digits r4 in
    let r2 = line_then size ((n + 48) ∷ []) r3 in
    let latin : kind_value q.puzzle ≡ Some q.puzzle = grind (arith, bytes_eq-Decides q.puzzle (codes "latin")) in
    let sized = then_at (key_line size one_digit r2) (λ x. cond (is_size x.0) (Ok x) (Err (12, 2))) (n, r3) (Ok (n, r3))
    (key_join size one_digit ((n + 48) ∷ []) n r3 (and_from _ _ (not_from_false _ (ne_eqb (n + 48) 10 (λ e. omega arith))) refl)
    (digit_join n (omega (arith, b.1))))
    (cond-true (is_size n) (Ok (n, r3)) (Err (12, 2)) p.1) in
    let digits : grid_value (n * n) q.digits ≡ Some q.digits = grind (arith, nat_tests) in
    let clue : clues_value (n * n) marks ≡ Some q.clue_set =
    cond-true _ _ _ (eq-eqb (length marks) (n * n) (marks-length q.clue_set (n * n)))
    ∙ marks_join q.clue_set (n * n) (omega (arith, b.2)) p.4 in
    let last : ℕ × List ℕ → Result Asked Fault =
    λ c. then (text_end c.1) (λ _. Ok (record { puzzle = q.puzzle; side = q.side; digits = q.digits; clue_set = c.0 })) in
    then_at (kind_line (question_text q)) _ (q.puzzle, r2) (Ok q)
    (key_join kind kind_value q.puzzle q.puzzle r2 (ap inline p.0) latin)
    (then_at (size_line r2) _ (n, r3) (Ok q) sized
    (then_at (grid_line (n * n) r3) _ (q.digits, r4) (Ok q)
    (key_join grid (grid_value (n * n)) q.digits q.digits r4 (digits_inline q.digits p.3) digits)
    (then_at (map_line r4) _ (codes "-", r5) (Ok q)
    (key_join map map_value (codes "-") (codes "-") r5 refl refl)
    (then_at (clues_line (n * n) r5) last (q.clue_set, []) (Ok q)
    (key_join clues (clues_value (n * n)) marks q.clue_set [] (marks_inline q.clue_set (n * n)) clue)
    refl))))

pub takes_exactly : (text : List ℕ) → TakesExactly text (read_question text)
takes_exactly text q = (takes text q, λ p e. ap read_question e ∙ joins q p)
