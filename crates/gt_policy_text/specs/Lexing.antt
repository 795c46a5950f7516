-- The tokens of a policy text, with their lines. (SELinux policy language; CR, comments inside words and the line of
-- the end: own)
use Rattle.std.specs.Prelude.{◌≡◌, ℕ, ◌+◌, ◌==◌, ◌||◌, not, Bool, false, List, [], ◌∷◌, codes, length, if◌then◌else◌}
use Rattle.std.specs.Prelude.{slice_get, count_by, ◌-◌}
use Rattle.std.specs.Option.{option_map_or}
use Rattle.std.specs.Char.{is_ascii_alphabetic, is_ascii_digit}
use Rattle.std.specs.List.{take_while}
use Rattle.std.specs.Str.{bytes_eq}
use Rattle.gt_policy_text.specs.declared.lexer.Token.{Token}
use Rattle.gt_policy_text.specs.declared.lexer.Token.TheVariants.{Name, TypeWord, AttributeWord, TypeattributeWord}
use Rattle.gt_policy_text.specs.declared.lexer.Token.TheVariants.{AllowWord, SelfWord, Open, Close, Colon, Semicolon}
use Rattle.gt_policy_text.specs.declared.lexer.Token.TheVariants.{Comma, Minus, Tilde, Star, Bad, End}

-- a letter, which begins a name (SELinux policy language)
abbrev pub is_letter : ℕ → Bool
is_letter b = is_ascii_alphabetic b

-- a byte that continues a name: a letter, a digit, `_`, `-` or `.` (SELinux policy language)
abbrev pub is_name_byte : ℕ → Bool
is_name_byte b = (((is_letter b || is_ascii_digit b) || (b == 95)) || (b == 45)) || (b == 46)

-- a space, a tab or a CR (SELinux policy language; CR own)
abbrev pub is_blank : ℕ → Bool
is_blank b = ((b == 32) || (b == 9)) || (b == 13)

-- the mark of a character, `Bad` if it is not a mark (SELinux policy language)
unfoldable pub mark_of : ℕ → Token
mark_of b = if b == 123 then Open
    else (if b == 125 then Close
    else (if b == 58 then Colon
    else (if b == 59 then Semicolon
    else (if b == 44 then Comma
    else (if b == 45 then Minus
    else (if b == 126 then Tilde
    else (if b == 42 then Star else Bad)))))))

-- the token that the characters of a name spell: one of the five words,
-- or else a name (SELinux policy language)
unfoldable pub token_of_word : List ℕ → Token
token_of_word w = if bytes_eq w (codes "type") then TypeWord
    else (if bytes_eq w (codes "attribute") then AttributeWord
    else (if bytes_eq w (codes "typeattribute") then TypeattributeWord
    else (if bytes_eq w (codes "allow") then AllowWord
    else (if bytes_eq w (codes "self") then SelfWord else Name w))))

-- what the characters before may leave open: nothing, a name or a comment
pub data Place : Type 0 where
  Between : Place
  Naming : Place
  Commenting : Place

-- whether a character continues it: a name's byte continues a name, and every
-- byte but a line feed continues a comment (SELinux policy language)
abbrev pub goes_on : Place → ℕ → Bool
goes_on Between b = false
goes_on Naming b = is_name_byte b
goes_on Commenting b = not (b == 10)

-- The tokens of a text that starts on a line; the last of them is its end, which is on the line `end`. A
-- name is as long as it can be. (SELinux policy language; the line of the end own)
abbrev pub lexemes : Place → ℕ → ℕ → List ℕ → List (Token × ℕ)
lexemes place end line [] = (End, end) ∷ []
lexemes place end line (b ∷ bs) =
    if goes_on place b then lexemes place end line bs
    else (if b == 10 then lexemes Between end (line + 1) bs
    else (if is_blank b then lexemes Between end line bs
    else (if b == 35 then lexemes Commenting end line bs
    else (if is_letter b then (token_of_word (take_while is_name_byte (b ∷ bs)), line) ∷ lexemes Naming end line bs
    else (mark_of b, line) ∷ lexemes Between end line bs))))

-- the text begins with no blank, line feed or comment
abbrev pub StartsToken : List ℕ → Type 0
StartsToken [] = Unit {0}
StartsToken (b ∷ bs) = ((b == 10) ≡ false) × (is_blank b ≡ false) × ((b == 35) ≡ false)

-- the tokens after a token: none after the end
abbrev pub behind : Token → List (Token × ℕ) → List (Token × ℕ)
behind End rest = []
behind _ rest = rest

-- whether bytes follow the last line feed
abbrev pub has_open_line : List ℕ → Bool
has_open_line text = option_map_or (λ b. not (b == 10)) (slice_get text (length text - 1)) false

-- one more than the number of lines
unfoldable pub end_line : List ℕ → ℕ
end_line text = count_by (λ b. b == 10) text + (if has_open_line text then 2 else 1)

-- the tokens of a whole text (SELinux policy language)
abbrev pub lexemes_of : List ℕ → List (Token × ℕ)
lexemes_of text = lexemes Between (end_line text) 1 text
