-- The words of an answer that is Ok are those of its form.
use Rattle.std.proofs.Common.{◌≡◌, ◌∙◌, ◌<◌, ◌≤◌, ◌^◌, ◌/◌, ◌%◌, ap, arith, codes, decimal, refl, subst, sym, ◌+◌, ◌*◌, ◌++◌, ◌==◌}
use Rattle.std.proofs.Common.{◌&&◌, Bool, true, false, not, ℕ, suc, zero, List, [], ◌∷◌, length, All, None, Some, slice_index}
use Rattle.std.specs.Prelude.{if◌then◌else◌}
use Rattle.std.specs.Char.{is_ascii_digit}
use Rattle.std.specs.List.{list_all, slice_split}
use Rattle.std.specs.Str.Parse.{AllDigits, digits_value}
use Rattle.std.proofs.lemmas.Fmt.{decimal_digit, digits_decimal, digits_value-decimal}
use Rattle.std.proofs.lemmas.List.Elements.{All-append, All-cons, All-nil, All-head, All-tail}
use Rattle.std.proofs.lemmas.List.Splits.{slice_split_at, slice_split_none}
use Rattle.std.proofs.lemmas.Option.{none-some}
use Rattle.std.proofs.lemmas.Str.Parse.{digit_at, IsNumeralModel}
use Rattle.gt_model.specs.declared.trace.Answer.{Answer}
use Rattle.gt_model.specs.declared.trace.Answer.TheVariants as answers
use Rattle.gt_answer_forms.specs.AnswerWords.{IsWrittenInItsForm}
use Rattle.hex.specs.Hex.{encode_lower, encode_with, lower_digits}
use Rattle.hex.proofs.HexLemmas.{length-encode_with}
use Rattle.std.proofs.Math.Nat.{mul-mod_right}
use Rattle.std.proofs.lemmas.Bool.{eqb-true}
use Rattle.std.proofs.lemmas.List.Folds.{list_all_at}
use Rattle.gt_explore_verdict.specs.Forms.{begins_form, fits, is_bytes, is_lower_digit}
use Rattle.gt_explore_verdict.specs.Rules.{at_mark, is_decimal_number}
use Rattle.gt_explore_verdict.specs.declared.forms.AnswerForm.{AnswerForm}
use Rattle.gt_explore_verdict.specs.declared.forms.AnswerForm.TheVariants as answer_forms

clash : false ≡ true → ⊥
clash e = cc

-- ---- numbers

model : IsNumeralModel (AllDigits 10) (digits_value 10)
model = record { to = λ ds p. p; from = λ ds p. p; same = λ ds p. refl }

one_digit : (c : ℕ) (cs : List ℕ) → AllDigits 10 (c ∷ cs) → (48 ≤ c) × (c ≤ 57)
one_digit c cs p = digit_at (c ∷ []) 0 (p.0, tt) (omega arith)

digit_passes : (c : ℕ) → 48 ≤ c → c ≤ 57 → is_ascii_digit c ≡ true
digit_passes c low high = grind arith

digits_pass : (ds : List ℕ) → AllDigits 10 ds → list_all is_ascii_digit ds ≡ true
digits_pass [] p = refl
digits_pass (c ∷ cs) p =
    let d = one_digit c cs p in
    rw (digit_passes c d.0 d.1) (digits_pass cs p.1)

nonempty : (xs ys : List ℕ) (d : ℕ) → xs ≡ d ∷ [] → ys ≡ [] → xs ≡ ys → ⊥
nonempty xs ys d p q is = cc

some_digit : (n : ℕ) → n < 2 ^ 64 → decimal n ≡ [] → ⊥
some_digit n fits is =
    let zero_is : n ≡ 0 = sym (digits_value-decimal model n fits) ∙ ap (digits_value 10) is in
    nonempty (decimal 0) [] (48 + 0) (decimal_digit 0 (omega arith)) refl
    (subst (λ (m : ℕ). decimal m ≡ []) zero_is is)

number_is : (n : ℕ) → n < 2 ^ 64 → is_decimal_number (decimal n) ≡ true
unfolding is_decimal_number
number_is n fits = by (decimal n) refl (digits_pass (decimal n) (digits_decimal model n fits))
  where
    by : (ds : List ℕ) → decimal n ≡ ds → list_all is_ascii_digit ds ≡ true → is_decimal_number ds ≡ true
    by [] is all = absurd (some_digit n fits is)
    by (c ∷ cs) is all = all

-- a byte that is no space
abbrev NoSpace : ℕ → Type 0
NoSpace b = (b == 32) ≡ false

no_space : (c : ℕ) → 48 ≤ c → NoSpace c
no_space c low = grind arith

digits_spaceless : (ds : List ℕ) → AllDigits 10 ds → All NoSpace ds
digits_spaceless [] p = All-nil NoSpace
digits_spaceless (c ∷ cs) p =
    All-cons NoSpace c cs (no_space c (one_digit c cs p).0) (digits_spaceless cs p.1)

number_spaceless : (n : ℕ) → n < 2 ^ 64 → All NoSpace (decimal n)
number_spaceless n fits = digits_spaceless (decimal n) (digits_decimal model n fits)

-- ---- words

-- a text of a word, a space and more
two_words : (word rest : List ℕ) → All NoSpace word
    → slice_split (λ b. b == 32) (word ++ 32 ∷ rest) ≡ word ∷ slice_split (λ b. b == 32) rest
two_words word rest none = slice_split_at (λ b. b == 32) word 32 rest none refl

one_word : (word : List ℕ) → All NoSpace word → slice_split (λ b. b == 32) word ≡ word ∷ []
one_word word none = slice_split_none (λ b. b == 32) word none

abbrev is_no_space : ℕ → Bool
is_no_space b = not (b == 32)

-- a text without a space, by a test
spaceless : (bs : List ℕ) → list_all is_no_space bs ≡ true → All NoSpace bs
spaceless [] is = All-nil NoSpace
spaceless (b ∷ bs) is = by (spaceless bs) (b == 32) refl is
  where
    by : (list_all is_no_space bs ≡ true → All NoSpace bs) → (c : Bool) → (b == 32) ≡ c
        → (not c && list_all is_no_space bs) ≡ true → All NoSpace (b ∷ bs)
    by rest true e k = absurd (clash k)
    by rest false e k = All-cons NoSpace b bs e (rest k)

named_spaceless : (name : List ℕ) (n : ℕ) → list_all is_no_space name ≡ true → n < 2 ^ 64
    → All NoSpace (name ++ decimal n)
named_spaceless name n is fits = All-append NoSpace name (decimal n) (spaceless name is) (number_spaceless n fits)

-- ---- bytes

lower_at : (k : ℕ) → k < 16 → is_lower_digit (slice_index lower_digits k) ≡ true
lower_at k small = by (is_lower_digit (slice_index lower_digits k)) refl
  where
    by : (c : Bool) → is_lower_digit (slice_index lower_digits k) ≡ c → c ≡ true
    by true e = refl
    by false e = absurd (clash (sym (list_all_at is_lower_digit lower_digits k 0 small e)))

both_true : (a b : Bool) → a ≡ true → b ≡ true → (a && b) ≡ true
both_true a b p q = rw p (rw q refl)

digits_lower : (bs : List ℕ) → All (λ x. x < 2 ^ 8) bs → list_all is_lower_digit (encode_with lower_digits bs) ≡ true
unfolding encode_with
digits_lower [] all = refl
digits_lower (b ∷ bs) all =
    let small : b < 2 ^ 8 = All-head (λ (x : ℕ). x < 2 ^ 8) b bs all in
    both_true (is_lower_digit (slice_index lower_digits (b / 16)))
    (is_lower_digit (slice_index lower_digits (b % 16)) && list_all is_lower_digit (encode_with lower_digits bs))
    (lower_at (b / 16) (omega (arith, small)))
    (both_true (is_lower_digit (slice_index lower_digits (b % 16)))
    (list_all is_lower_digit (encode_with lower_digits bs))
    (lower_at (b % 16) (omega arith)) (digits_lower bs (All-tail (λ (x : ℕ). x < 2 ^ 8) b bs all)))

lower_no_space : (c : ℕ) → is_lower_digit c ≡ true → NoSpace c
lower_no_space c is = by (c == 32) refl
  where
    by : (b : Bool) → (c == 32) ≡ b → b ≡ false
    by true e = absurd (clash (subst (λ (d : ℕ). is_lower_digit d ≡ true) (eqb-true c 32 e) is))
    by false e = refl

lower_spaceless : (bs : List ℕ) → list_all is_lower_digit bs ≡ true → All NoSpace bs
lower_spaceless [] is = All-nil NoSpace
lower_spaceless (b ∷ bs) is = by (lower_spaceless bs) (is_lower_digit b) refl is
  where
    by : (list_all is_lower_digit bs ≡ true → All NoSpace bs) → (c : Bool) → is_lower_digit b ≡ c
        → (c && list_all is_lower_digit bs) ≡ true → All NoSpace (b ∷ bs)
    by rest true e k = All-cons NoSpace b bs (lower_no_space b e) (rest k)
    by rest false e k = absurd (clash k)

-- bytes are written with two digits each
bytes_are : (bs : List ℕ) → All (λ x. x < 2 ^ 8) bs → (length bs == 0) ≡ false
    → is_bytes (encode_with lower_digits bs) ≡ true
bytes_are bs all some =
    let len = length-encode_with lower_digits bs in
    let even : length (encode_with lower_digits bs) % 2 ≡ 0 = rw len (mul-mod_right 2 (length bs)) in
    both_true
    (not (length (encode_with lower_digits bs) == 0) && (length (encode_with lower_digits bs) % 2 == 0))
    (list_all is_lower_digit (encode_with lower_digits bs))
    (both_true (not (length (encode_with lower_digits bs) == 0)) (length (encode_with lower_digits bs) % 2 == 0)
    (rw len (doubled (length bs) some)) (rw even refl))
    (digits_lower bs all)
  where
    doubled : (n : ℕ) → (n == 0) ≡ false → not (2 * n == 0) ≡ true
    doubled n e = grind arith

-- ---- what the words fit

frames_begin : (n : ℕ) → n < 2 ^ 64
    → begins_form answer_forms.Frames (codes "ok" ∷ (codes "frames=" ++ decimal n) ∷ []) ≡ true
unfolding fits at_mark
frames_begin n small = rw (number_is n small) refl

size_begins : (n m : ℕ) → n < 2 ^ 64 → m < 2 ^ 64
    → begins_form answer_forms.Size (codes "ok" ∷ (codes "frames=" ++ decimal n) ∷ (codes "max=" ++ decimal m) ∷ [])
    ≡ true
unfolding fits at_mark
size_begins n m small few = rw (number_is n small) (rw (number_is m few) refl)

version_begins : (n : ℕ) → n < 2 ^ 64
    → begins_form answer_forms.Version (codes "ok" ∷ (codes "version=" ++ decimal n) ∷ []) ≡ true
unfolding fits at_mark
version_begins n small = rw (number_is n small) refl

bytes_begin : (word : List ℕ) → is_bytes word ≡ true
    → begins_form answer_forms.Bytes (codes "ok" ∷ word ∷ []) ≡ true
unfolding fits
bytes_begin word is = rw is refl

ok_begins : begins_form answer_forms.Done (codes "ok" ∷ []) ≡ true
unfolding fits
ok_begins = refl

-- ---- the words of each answer

-- the words of a text
abbrev words : List ℕ → List (List ℕ)
words text = slice_split (λ b. b == 32) text

ok_then : (rest : List ℕ) → words (codes "ok" ++ 32 ∷ rest) ≡ codes "ok" ∷ words rest
ok_then rest = two_words (codes "ok") rest (spaceless (codes "ok") refl)

ok_and_one : (word : List ℕ) → All NoSpace word → words (codes "ok" ++ 32 ∷ word) ≡ codes "ok" ∷ word ∷ []
ok_and_one word none = ok_then word ∙ ap (λ (ws : List (List ℕ)). codes "ok" ∷ ws) (one_word word none)

ok_and_two : (word other : List ℕ) → All NoSpace word → All NoSpace other
    → words (codes "ok" ++ 32 ∷ (word ++ 32 ∷ other)) ≡ codes "ok" ∷ word ∷ other ∷ []
ok_and_two word other none never =
    ok_then (word ++ 32 ∷ other)
    ∙ ap (λ (ws : List (List ℕ)). codes "ok" ∷ ws)
    (two_words word other none ∙ ap (λ (ws : List (List ℕ)). word ∷ ws) (one_word other never))

-- a form of these words is one of a text with them
abbrev Begins : AnswerForm → List (List ℕ) → Type 0
Begins form ws = begins_form form ws ≡ true

done_written : Begins answer_forms.Done (words (codes "ok"))
done_written =
    subst (Begins answer_forms.Done) (sym (one_word (codes "ok") (spaceless (codes "ok") refl))) ok_begins

wider : (n : ℕ) → n < 2 ^ 32 → n < 2 ^ 64
wider n small = omega (arith, small)

bytes_written : (bs : List ℕ) → All (λ x. x < 2 ^ 8) bs → (b : Bool) → (length bs == 0) ≡ b
    → Begins (if b then answer_forms.Done else answer_forms.Bytes)
    (words (codes "ok" ++ (if b then [] else codes " " ++ encode_lower bs)))
bytes_written bs all true e = done_written
bytes_written bs all false e =
    subst (Begins answer_forms.Bytes)
    (sym (ok_and_one (encode_lower bs) (lower_spaceless (encode_lower bs) (digits_lower bs all))))
    (bytes_begin (encode_lower bs) (bytes_are bs all e))

pub written_in_its_form : (names : List (List ℕ)) (answer : Answer) → IsWrittenInItsForm names answer
written_in_its_form names (answers.Denied denial) ok fits = absurd (none-some denial (sym ok))
written_in_its_form names answers.Done ok fits = done_written
written_in_its_form names (answers.Mapped handle) ok fits = done_written
written_in_its_form names (answers.Bytes b) ok fits = bytes_written b.bytes.items fits (length b.bytes.items == 0) refl
written_in_its_form names (answers.Frames frames) ok fits =
    let small = wider frames fits in
    subst (Begins answer_forms.Frames)
    (sym (ok_and_one (codes "frames=" ++ decimal frames) (named_spaceless (codes "frames=") frames refl small)))
    (frames_begin frames small)
written_in_its_form names (answers.Size size) ok fits =
    let small = wider size.frames fits.0 in
    let few = wider size.max fits.1 in
    subst (Begins answer_forms.Size)
    (sym (ok_and_two (codes "frames=" ++ decimal size.frames) (codes "max=" ++ decimal size.max)
    (named_spaceless (codes "frames=") size.frames refl small) (named_spaceless (codes "max=") size.max refl few)))
    (size_begins size.frames size.max small few)
written_in_its_form names (answers.Version version) ok fits =
    let small = wider version fits in
    subst (Begins answer_forms.Version)
    (sym (ok_and_one (codes "version=" ++ decimal version) (named_spaceless (codes "version=") version refl small)))
    (version_begins version small)
