use Rattle.std.specs.Str.{IsUtf8}
use Rattle.std.proofs.lemmas.Str.{IsUtf8-from_ascii}
use Rattle.std.proofs.Common.{◌<◌, ◌≡◌, ℕ, ◌+◌, Bool, true, false, cond, List, [], ◌∷◌, suc, take, drop, refl, ap, ◌∙◌}
use Rattle.std.proofs.Common.{sym, arith, lit<, slice_index, subst, zero}
use Rattle.std.proofs.lemmas.Bool.Decides.{nat_tests}
use Rattle.std.specs.List.{prefix_len, take_while}
use Rattle.gt_policy_text.specs.declared.lexer.Token.{Token}
use Rattle.gt_policy_text.specs.Lexing.{Place, Between, Naming, goes_on, lexemes, token_of_word, mark_of, is_letter}
use Rattle.gt_policy_text.specs.Lexing.{is_name_byte}
use Rattle.gt_policy_text.specs.Lexing.{StartsToken}

-- the bytes that continue what has begun contain no token
pub lexemes-goes_on : (p : Place) (end line : ℕ) (bs : List ℕ) → lexemes p end line bs ≡ lexemes Between end line (drop (prefix_len (goes_on p) bs) bs)
lexemes-goes_on p end line [] = refl
lexemes-goes_on p end line (b ∷ bs) = go (goes_on p b) refl (lexemes-goes_on p end line bs)
  where
    go : (v : Bool) → goes_on p b ≡ v → lexemes p end line bs ≡ lexemes Between end line (drop (prefix_len (goes_on p) bs) bs) → lexemes p end line (b ∷ bs) ≡ lexemes Between end line (drop (prefix_len (goes_on p) (b ∷ bs)) (b ∷ bs))
    go true e h =
        let n : ℕ = prefix_len (goes_on p) bs in
        let one : suc n ≡ 1 + n = omega arith in
        rw e (h ∙ ap (λ k. lexemes Between end line (drop k (b ∷ bs))) one)
    go false e h = rw e refl

letter-name_byte : (b : ℕ) → is_letter b ≡ true → is_name_byte b ≡ true
letter-name_byte b e = rw e refl

-- a name at the front
pub next_name : (end line b : ℕ) (bs : List ℕ) → StartsToken (b ∷ bs) → is_letter b ≡ true
    → lexemes Between end line (b ∷ bs) ≡ (token_of_word (take_while is_name_byte (b ∷ bs)), line) ∷ lexemes Between end line (drop (prefix_len is_name_byte (b ∷ bs)) (b ∷ bs))
next_name end line b bs (lf, blank, comment) letter =
    let on : goes_on Naming b ≡ true = letter-name_byte b letter in
    let naming : lexemes Naming end line (b ∷ bs) ≡ lexemes Naming end line bs = rw on refl in
    let first : lexemes Between end line (b ∷ bs) ≡ (token_of_word (take_while is_name_byte (b ∷ bs)), line) ∷ lexemes Naming end line bs = rw (lf, blank, comment, letter) refl in
    first ∙ ap (λ rest. (token_of_word (take_while is_name_byte (b ∷ bs)), line) ∷ rest) (sym naming ∙ lexemes-goes_on Naming end line (b ∷ bs))

-- a mark at the front
pub next_mark : (end line b : ℕ) (bs : List ℕ) → StartsToken (b ∷ bs) → is_letter b ≡ false
    → lexemes Between end line (b ∷ bs) ≡ (mark_of b, line) ∷ lexemes Between end line bs
next_mark end line b bs (lf, blank, comment) letter = rw (lf, blank, comment, letter) refl

-- the same, of what was read
pub takes_name : (end first line b : ℕ) (text rest bs name after : List ℕ) (t : Token) (old : List (Token × ℕ)) → lexemes Between end first text ≡ old
    → lexemes Between end first text ≡ lexemes Between end line rest → rest ≡ b ∷ bs → StartsToken rest → is_letter b ≡ true
    → name ≡ take (prefix_len is_name_byte rest) rest → after ≡ drop (prefix_len is_name_byte rest) rest → t ≡ token_of_word name
    → old ≡ (t, line) ∷ lexemes Between end line after
takes_name end first line b text rest bs name after t old shown same front start letter named left word =
    let starts : StartsToken (b ∷ bs) = rw front at start in
    let next : lexemes Between end line rest ≡ (token_of_word (take_while is_name_byte rest), line) ∷ lexemes Between end line (drop (prefix_len is_name_byte rest) rest) =
    rw front (next_name end line b bs starts letter) in
    sym shown ∙ same ∙ next ∙ rw (word, named, left) refl

pub takes_mark : (end first line b : ℕ) (text rest bs : List ℕ) (t : Token) (old : List (Token × ℕ)) → lexemes Between end first text ≡ old
    → lexemes Between end first text ≡ lexemes Between end line rest → rest ≡ b ∷ bs → StartsToken rest → is_letter b ≡ false → t ≡ mark_of b
    → old ≡ (t, line) ∷ lexemes Between end line bs
takes_mark end first line b text rest bs t old shown same front start letter mark =
    let starts : StartsToken (b ∷ bs) = rw front at start in
    sym shown ∙ same ∙ ap (λ r. lexemes Between end line r) front ∙ next_mark end line b bs starts letter ∙ rw mark refl

-- a name is ASCII
name_byte-ascii : (b : ℕ) → is_name_byte b ≡ true → b < 128
name_byte-ascii b e = grind (arith, nat_tests)

IsAscii-name : (xs : List ℕ) (i : ℕ) → slice_index (take (prefix_len is_name_byte xs) xs) i < 128
IsAscii-name [] i = lit< tt
IsAscii-name (b ∷ bs) i = go (is_name_byte b) refl (IsAscii-name bs) i
  where
    here : is_name_byte b ≡ true → ((j : ℕ) → slice_index (take (prefix_len is_name_byte bs) bs) j < 128) → (i : ℕ) → slice_index (b ∷ take (prefix_len is_name_byte bs) bs) i < 128
    here e ih zero = name_byte-ascii b e
    here e ih (suc j) = ih j

    go : (v : Bool) → is_name_byte b ≡ v → ((j : ℕ) → slice_index (take (prefix_len is_name_byte bs) bs) j < 128) → (i : ℕ) → slice_index (take (cond v (1 + prefix_len is_name_byte bs) 0) (b ∷ bs)) i < 128
    go false e ih i = lit< tt
    go true e ih i =
        let n : ℕ = prefix_len is_name_byte bs in
        let one : suc n ≡ 1 + n = omega arith in
        subst (λ (k : ℕ). slice_index (take k (b ∷ bs)) i < 128) one (here e ih i)

pub IsUtf8-name : (xs : List ℕ) → IsUtf8 (take (prefix_len is_name_byte xs) xs)
IsUtf8-name xs = IsUtf8-from_ascii _ (IsAscii-name xs)
