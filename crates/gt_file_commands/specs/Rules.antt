-- What `rules` prints.
use Rattle.std.specs.Prelude.{◌≢◌, ◌==◌, ◌||◌, ◌-◌, ℕ, nat_lt, Bool, true, List, [], ◌∷◌, ◌++◌, length, filter}
use Rattle.std.specs.Prelude.{map, Option, Some, None, codes, decimal, if◌then◌else◌}
use Rattle.std.specs.Fmt.{signed_decimal}
use Rattle.std.specs.List.{flat_map, slice_split}
use Rattle.std.specs.Str.{bytes_eq}
use Rattle.gt_types.specs.Denial.{rule_number, rule_text, status_number, status_of}
use Rattle.gt_types.specs.declared.denial.Rule.{Rule}
use Rattle.gt_types.specs.declared.denial.Status.{Status}
use Rattle.gt_types.specs.declared.denial.Status.TheVariants as statuses
use Rattle.gt_file_commands.specs.Prelude.{AppendsBeginning, Appends, Outcome, No, Unknown, Yes}
use Rattle.gt_file_commands.specs.declared.rules.TheConstants.{RULES}

-- ---- the line of a rule

-- the name of a status (grant_table.h)
abbrev pub header_name : Status → List ℕ
header_name statuses.GeneralError = codes "GNTST_general_error"
header_name statuses.BadDomain = codes "GNTST_bad_domain"
header_name statuses.BadGntref = codes "GNTST_bad_gntref"
header_name statuses.BadHandle = codes "GNTST_bad_handle"
header_name statuses.PermissionDenied = codes "GNTST_permission_denied"
header_name statuses.BadPage = codes "GNTST_bad_page"
header_name statuses.BadCopyArg = codes "GNTST_bad_copy_arg"
header_name statuses.Eagain = codes "GNTST_eagain"

-- what is printed of a rule: the rule, the reason for which it refuses a call, and the remedy
abbrev pub RuleRow : Type 0
RuleRow = Rule × List ℕ × List ℕ

-- all rules
unfoldable pub every_row : List RuleRow
every_row = map (λ row. (row.0, row.1.now, row.2.now)) RULES

-- `RULE STATUS NAME`
abbrev pub rule_head : Rule → List ℕ
rule_head rule =
    rule_text rule ++ codes " " ++ signed_decimal (status_number (status_of rule)) ++ codes " "
    ++ header_name (status_of rule)

-- `RULE STATUS NAME: REASON; REMEDY`
abbrev pub rule_line : RuleRow → List ℕ
rule_line (rule, reason, remedy) = rule_head rule ++ codes ": " ++ reason ++ codes "; " ++ remedy

-- ---- lines of a width

-- what is between the spaces of a line
abbrev pub spaced_words : List ℕ → List (List ℕ)
spaced_words line = slice_split (λ b. b == 32) line

-- words, each after a space if there is room for both on the line, and otherwise on a new line that is indented by four
abbrev pub more_words : ℕ → ℕ → List (List ℕ) → List ℕ
more_words width room [] = []
more_words width room (word ∷ words) =
    if nat_lt (length word) room then codes " " ++ word ++ more_words width (room - length word - 1) words
    else codes "\n    " ++ word ++ more_words width (width - 4 - length word) words

-- words in lines of at most this width
abbrev pub wrapped : ℕ → List (List ℕ) → List ℕ
wrapped width [] = []
wrapped width (word ∷ words) = word ++ more_words width (width - length word) words

-- a line with its end, in lines of at most the width, if one is given
abbrev pub styled : Option ℕ → List ℕ → List ℕ
styled None line = line ++ codes "\n"
styled (Some width) line = wrapped width (spaced_words line) ++ codes "\n"

-- ---- the name of a rule

-- the digits in `N19`, `n19` or `19`
abbrev pub digits_in : List ℕ → List ℕ
digits_in [] = []
digits_in (b ∷ digits) = if (b == 78) || (b == 110) then digits else b ∷ digits

-- the digits in the name are the number of the rule; each is asked for if no name is given
abbrev pub is_asked_rule : Option (List ℕ) → Rule → Bool
is_asked_rule None rule = true
is_asked_rule (Some name) rule = bytes_eq (digits_in name) (decimal (rule_number rule))

-- ---- the text

-- those of these rules that are asked for
abbrev pub asked_among : Option (List ℕ) → List RuleRow → List RuleRow
asked_among name rows = filter (λ row. is_asked_rule name row.0) rows

-- the lines of rules
abbrev pub rules_text : Option ℕ → List RuleRow → List ℕ
rules_text width rows = flat_map (λ row. styled width (rule_line row)) rows

-- the rules that are asked for
abbrev pub asked_rows : Option (List ℕ) → List RuleRow
asked_rows name = asked_among name every_row

-- What was written, by the outcome: the line of the rule of this name, or of each rule if there is no name, and the
-- outcome is yes. It is unknown if no rule has the name, and then nothing was written, or if an allocation or a write
-- failed, and then a prefix of the lines was.
abbrev pub PrintsRules : Option ℕ → Option (List ℕ) → Option (List ℕ) → Option (List ℕ) → Outcome → Type 0
PrintsRules width name old new Yes = (asked_rows name ≢ []) × Appends old new (rules_text width (asked_rows name))
PrintsRules width name old new No = ⊥
PrintsRules width name old new Unknown = AppendsBeginning old new (rules_text width (asked_rows name))
