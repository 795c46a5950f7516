-- Forms of answers: the words that an answer can have, one after the other.
use Rattle.std.specs.Prelude.{◌==◌, ◌&&◌, ◌||◌, not, ℕ, ◌+◌, ◌%◌, nat_le, Bool, true, false, List, [], ◌∷◌, codes}
use Rattle.std.specs.Prelude.{Option, Some, None, if◌then◌else◌, is_some, length}
use Rattle.std.specs.List.{list_all, list_any}
use Rattle.std.specs.Str.{bytes_eq}
use Rattle.gt_types.specs.Denial.{field_name, status_of}
use Rattle.gt_types.specs.Names.{permission_of}
use Rattle.gt_types.specs.declared.denial.Rule.{Rule}
use Rattle.gt_types.specs.declared.denial.Rule.TheVariants.{N1, N2, N3, N4, N5, N6, N7, N8, N9, N10, N11, N12, N13, N14}
use Rattle.gt_types.specs.declared.denial.Rule.TheVariants.{N15, N16, N17, N18, N19, N20, N21, N22, N23, N24, N25, N26}
use Rattle.gt_types.specs.declared.denial.Status.{Status}
use Rattle.gt_types.specs.declared.denial.Status.TheVariants as statuses
use Rattle.gt_explore_verdict.specs.Rules.{at_mark, is_decimal_number}
use Rattle.gt_explore_verdict.specs.declared.forms.AnswerForm.{AnswerForm}
use Rattle.gt_explore_verdict.specs.declared.forms.AnswerForm.TheVariants as answer_forms
use Rattle.gt_explore_verdict.specs.declared.forms.WordKind.{WordKind}
use Rattle.gt_explore_verdict.specs.declared.forms.WordKind.TheVariants as word_kinds
use Rattle.gt_explore_verdict.specs.declared.forms.TheConstants.{EVERY_FIELD, EVERY_FORM}

-- the name of a rule
abbrev pub rule_word : Rule → List ℕ
rule_word N1 = codes "N1"
rule_word N2 = codes "N2"
rule_word N3 = codes "N3"
rule_word N4 = codes "N4"
rule_word N5 = codes "N5"
rule_word N6 = codes "N6"
rule_word N7 = codes "N7"
rule_word N8 = codes "N8"
rule_word N9 = codes "N9"
rule_word N10 = codes "N10"
rule_word N11 = codes "N11"
rule_word N12 = codes "N12"
rule_word N13 = codes "N13"
rule_word N14 = codes "N14"
rule_word N15 = codes "N15"
rule_word N16 = codes "N16"
rule_word N17 = codes "N17"
rule_word N18 = codes "N18"
rule_word N19 = codes "N19"
rule_word N20 = codes "N20"
rule_word N21 = codes "N21"
rule_word N22 = codes "N22"
rule_word N23 = codes "N23"
rule_word N24 = codes "N24"
rule_word N25 = codes "N25"
rule_word N26 = codes "N26"

-- the word for what an answer of this form has: its rule, or its value
abbrev pub form_word : AnswerForm → List ℕ
form_word answer_forms.Done = codes "ok"
form_word answer_forms.Bytes = codes "bytes"
form_word answer_forms.Frames = codes "frames"
form_word answer_forms.Size = codes "max"
form_word answer_forms.Version = codes "version"
form_word (answer_forms.Refused rule) = rule_word rule

-- the number of a status (the GNTST_ constants of grant_table.h)
abbrev pub status_word : Status → List ℕ
status_word statuses.GeneralError = codes "-1"
status_word statuses.BadDomain = codes "-2"
status_word statuses.BadGntref = codes "-3"
status_word statuses.BadHandle = codes "-4"
status_word statuses.PermissionDenied = codes "-8"
status_word statuses.BadPage = codes "-9"
status_word statuses.BadCopyArg = codes "-10"
status_word statuses.Eagain = codes "-12"

abbrev pub is_status : Status → List ℕ → Bool
is_status status word = bytes_eq word (status_word status)

-- a byte is a hexadecimal digit in lower case
abbrev pub is_lower_digit : ℕ → Bool
is_lower_digit b = (nat_le 48 b && nat_le b 57) || (nat_le 97 b && nat_le b 102)

-- a word is bytes: two hexadecimal digits in lower case for each, and at least one byte
abbrev pub is_bytes : List ℕ → Bool
is_bytes word = not (length word == 0) && (length word % 2 == 0) && list_all is_lower_digit word

-- the value of a word `NAME=VALUE` with this name
abbrev pub value_in : List ℕ → Option (List ℕ × List ℕ) → Option (List ℕ)
value_in name None = None
value_in name (Some parts) = if bytes_eq parts.0 name then Some parts.1 else None

abbrev pub value_named : List ℕ → List ℕ → Option (List ℕ)
value_named name word = value_in name (at_mark 61 word)

-- a word is `NAME=VALUE` with this name, and the value passes a test
abbrev pub passes : (List ℕ → Bool) → Option (List ℕ) → Bool
passes test None = false
passes test (Some value) = test value

abbrev pub is_named_value : List ℕ → (List ℕ → Bool) → List ℕ → Bool
is_named_value name test word = passes test (value_named name word)

-- a word is the name of a permission
abbrev pub is_permission_name : List ℕ → Bool
is_permission_name word = is_some (permission_of word)

-- a word is the name of a field of an entry's bytes
abbrev pub is_field_name : List ℕ → Bool
is_field_name word = list_any (λ f. bytes_eq (field_name f) word) EVERY_FIELD

-- a word is one of this kind
abbrev pub is_of_word_kind : WordKind → List ℕ → Bool
is_of_word_kind word_kinds.Ok word = bytes_eq word (codes "ok")
is_of_word_kind word_kinds.Bytes word = is_bytes word
is_of_word_kind word_kinds.Frames word = is_named_value (codes "frames") is_decimal_number word
is_of_word_kind word_kinds.Max word = is_named_value (codes "max") is_decimal_number word
is_of_word_kind word_kinds.Version word = is_named_value (codes "version") is_decimal_number word
is_of_word_kind (word_kinds.Rule rule) word = bytes_eq word (rule_word rule)
is_of_word_kind (word_kinds.Status rule) word = is_status (status_of rule) word
is_of_word_kind word_kinds.Source word = is_some (value_named (codes "source") word)
is_of_word_kind word_kinds.Target word = is_some (value_named (codes "target") word)
is_of_word_kind word_kinds.Permission word = is_named_value (codes "perm") is_permission_name word
is_of_word_kind word_kinds.Field word = is_named_value (codes "field") is_field_name word

-- the kinds of the words of an answer: a refusal has its rule and its status, and then the facts of N5 and N25
abbrev pub first_kind : AnswerForm → WordKind
first_kind (answer_forms.Refused rule) = word_kinds.Rule rule
first_kind _ = word_kinds.Ok

abbrev pub second_kind : AnswerForm → Option WordKind
second_kind answer_forms.Done = None
second_kind answer_forms.Bytes = Some word_kinds.Bytes
second_kind answer_forms.Frames = Some word_kinds.Frames
second_kind answer_forms.Size = Some word_kinds.Frames
second_kind answer_forms.Version = Some word_kinds.Version
second_kind (answer_forms.Refused rule) = Some (word_kinds.Status rule)

abbrev pub third_kind : AnswerForm → Option WordKind
third_kind answer_forms.Size = Some word_kinds.Max
third_kind (answer_forms.Refused N5) = Some word_kinds.Source
third_kind (answer_forms.Refused N25) = Some word_kinds.Field
third_kind _ = None

abbrev pub fourth_kind : AnswerForm → Option WordKind
fourth_kind (answer_forms.Refused N5) = Some word_kinds.Target
fourth_kind _ = None

abbrev pub fifth_kind : AnswerForm → Option WordKind
fifth_kind (answer_forms.Refused N5) = Some word_kinds.Permission
fifth_kind _ = None

-- the kind of the word at this index of an answer
abbrev pub kind_at : AnswerForm → ℕ → Option WordKind
kind_at form at =
    if at == 0 then Some (first_kind form)
    else if at == 1 then second_kind form
    else if at == 2 then third_kind form
    else if at == 3 then fourth_kind form
    else if at == 4 then fifth_kind form
    else None

-- an answer of this form can have the word at this index
abbrev pub is_of_some : Option WordKind → List ℕ → Bool
is_of_some None word = false
is_of_some (Some kind) word = is_of_word_kind kind word

unfoldable pub fits : AnswerForm → ℕ → List ℕ → Bool
fits form at word = is_of_some (kind_at form at) word

-- it can have these words from this index on
abbrev pub fits_from : AnswerForm → ℕ → List (List ℕ) → Bool
fits_from form at [] = true
fits_from form at (word ∷ words) = fits form at word && fits_from form (at + 1) words

-- it can begin with these words
abbrev pub begins_form : AnswerForm → List (List ℕ) → Bool
begins_form form words = fits_from form 0 words

-- it can have this word
abbrev pub has_place : AnswerForm → List ℕ → Bool
has_place form word = fits form 0 word || fits form 1 word || fits form 2 word || fits form 3 word || fits form 4 word

-- some answer can begin with these words
unfoldable pub may_begin : List (List ℕ) → Bool
may_begin words = list_any (λ form. begins_form form words) EVERY_FORM

-- some answer can have this word
unfoldable pub may_have : List ℕ → Bool
may_have word = list_any (λ form. has_place form word) EVERY_FORM
