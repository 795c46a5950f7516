-- Claims about states as they are written: choices with `|` between them, and terms with `&` between them.
use Rattle.gt_types.specs.declared.limits.TheConstants.{LONGEST_TEXT}
use Rattle.std.specs.Prelude.{◌≡◌, ◌==◌, ◌||◌, ◌+◌, ◌<◌, ℕ, Bool, true, false, not, if◌then◌else◌}
use Rattle.std.specs.Prelude.{List, [], ◌∷◌, filter, length, Result, Ok, Err}
use Rattle.std.specs.List.{list_any, slice_split}
use Rattle.gt_state_claims.specs.Claims.{ClaimAsked}
use Rattle.gt_state_claims.specs.Words.{entry_read, test_read, then_read}
use Rattle.gt_state_claims.specs.declared.fault.StateClaimFault.{StateClaimFault}
use Rattle.gt_state_claims.specs.declared.fault.StateClaimFault.TheVariants.{Domain, Long, Memory, Term}
use Rattle.gt_state_claims.specs.declared.fault.StateTermFault.{StateTermFault}
use Rattle.gt_state_claims.specs.declared.fault.StateTermFault.TheVariants as term_faults
use Rattle.gt_state_claims.specs.declared.terms.StateTerm.{StateTerm}

-- what is between marks of one kind
abbrev pub parts_at : ℕ → List ℕ → List (List ℕ)
parts_at mark text = slice_split (λ b. b == mark) text

-- the words of a term: what is between its blanks and colons
abbrev pub is_between : ℕ → Bool
is_between b = (b == 32) || (b == 58)

abbrev pub has_bytes : List ℕ → Bool
has_bytes word = not (length word == 0)

abbrev pub term_words : List ℕ → List (List ℕ)
term_words text = filter has_bytes (slice_split is_between text)

-- a word has a bracket
abbrev pub has_bracket : List ℕ → Bool
has_bracket word = list_any (λ b. (b == 40) || (b == 41)) word

-- the one word after `ID.REF`
abbrev pub one_word : List (List ℕ) → Result (List ℕ) StateTermFault
one_word [] = Err term_faults.Ended
one_word (word ∷ []) = Ok word
one_word (word ∷ other ∷ words) = Err term_faults.Words

-- a term without its `!`: `ID.REF`, and the words after it
abbrev pub about_read : Bool → List ℕ → List (List ℕ) → Result StateTerm StateTermFault
about_read denied place words =
    then_read (entry_read place) (λ entry.
    then_read (one_word words) (λ word.
    then_read (test_read word) (λ test.
    Ok (record { denied = denied; dom = entry.0; gref = entry.1; test = test }))))

-- the words after a `!` that is a word
abbrev pub denied_words : List (List ℕ) → Result StateTerm StateTermFault
denied_words [] = Err term_faults.Empty
denied_words (place ∷ words) = about_read true place words

-- the rest of a word after a `!`, and the words after that
abbrev pub denied_read : List ℕ → List (List ℕ) → Result StateTerm StateTermFault
denied_read [] words = denied_words words
denied_read (b ∷ bs) words = about_read true (b ∷ bs) words

-- the first word of a term, and the words after it
abbrev pub signed_read : List ℕ → List (List ℕ) → Result StateTerm StateTermFault
signed_read [] words = about_read false [] words
signed_read (b ∷ bs) words = if b == 33 then denied_read bs words else about_read false (b ∷ bs) words

-- a term of these words
abbrev pub unbracketed_read : List (List ℕ) → Result StateTerm StateTermFault
unbracketed_read [] = Err term_faults.Empty
unbracketed_read (word ∷ words) = signed_read word words

abbrev pub state_term_read : List (List ℕ) → Result StateTerm StateTermFault
state_term_read words = if list_any has_bracket words then Err term_faults.Bracket else unbracketed_read words

-- what was read of the later terms, after one of this number
abbrev pub after_term : ℕ → Result StateTerm StateTermFault → Result (List StateTerm) (ℕ × StateTermFault)
    → Result (List StateTerm) (ℕ × StateTermFault)
after_term number (Err fault) later = Err (number, fault)
after_term number (Ok term) (Err fault) = Err fault
after_term number (Ok term) (Ok terms) = Ok (term ∷ terms)

-- the terms of a choice, after this many, or the number and the fault of the first one with a fault
abbrev pub terms_read : ℕ → List (List ℕ) → Result (List StateTerm) (ℕ × StateTermFault)
terms_read before [] = Ok []
terms_read before (text ∷ texts) = after_term (before + 1) (state_term_read (term_words text)) (terms_read (before + 1) texts)

-- the number of terms of these choices
abbrev pub terms_in : List (List ℕ) → ℕ
terms_in [] = 0
terms_in (text ∷ texts) = length (parts_at 38 text) + terms_in texts

-- what was read of the later choices, after one
abbrev pub after_choice : Result (List StateTerm) (ℕ × StateTermFault) → Result ClaimAsked (ℕ × StateTermFault)
    → Result ClaimAsked (ℕ × StateTermFault)
after_choice (Err fault) later = Err fault
after_choice (Ok terms) (Err fault) = Err fault
after_choice (Ok terms) (Ok choices) = Ok (terms ∷ choices)

-- the choices of a claim, after this many terms
abbrev pub choices_read : ℕ → List (List ℕ) → Result ClaimAsked (ℕ × StateTermFault)
choices_read before [] = Ok []
choices_read before (text ∷ texts) =
    after_choice (terms_read before (parts_at 38 text)) (choices_read (before + length (parts_at 38 text)) texts)

-- a claim as it is written, or the number of the term of its first fault, and the fault
abbrev pub claim_read : List ℕ → Result ClaimAsked (ℕ × StateTermFault)
claim_read text = choices_read 0 (parts_at 124 text)

-- the fault is that of the first term with one, or an allocation failed
abbrev pub IsFaultOfClaim : {X : Type 0} → Result X (ℕ × StateTermFault) → StateClaimFault → Type 0
IsFaultOfClaim read Memory = Unit {0}
IsFaultOfClaim read (Term number fault) = read ≡ Err (number, fault)
IsFaultOfClaim read Long = ⊥
IsFaultOfClaim read (Domain number) = ⊥

-- why a text was not read: an allocation failed, it is too long, or it has this first fault
abbrev pub IsReadFault : List ℕ → StateClaimFault → Type 0
IsReadFault text Memory = Unit {0}
IsReadFault text Long = LONGEST_TEXT < length text
IsReadFault text (Term number fault) = claim_read text ≡ Err (number, fault)
IsReadFault text (Domain number) = ⊥
