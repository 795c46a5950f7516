-- The commands of the program, and the meaning of the words of a command line.
use Rattle.std.specs.Prelude.{◌≡◌, ◌==◌, Bool, true, false, ℕ, List, [], ◌∷◌, Option, Some, None, Result, MatchResult}
use Rattle.std.specs.Prelude.{codes, find, fold, if◌then◌else◌, length, map, nat_lt, option_map}
use Rattle.std.specs.List.{after_first, before_first, position_or_len}
use Rattle.gt_command_line.specs.Prelude.{bytes_eq, digits_value, without_leading_plus, HasKind, Kinds, on_top}
use Rattle.gt_command_line.specs.Prelude.{is_unsigned_in, App, Row, Text, first_of, new_app, with_subcommand, Error}
use Rattle.gt_command_line.specs.Prelude.{ArgumentConflict, DisplayHelp, DisplayVersion, InvalidSubcommand, InvalidValue}
use Rattle.gt_command_line.specs.Prelude.{MissingRequiredArgument, MissingSubcommand, TooManyValues, UnknownArgument}
use Rattle.gt_command_line.specs.Prelude.{Format, Json, Invocation, Mode, Play, Run, Policy, Rules, Check, Why, Flow}
use Rattle.gt_command_line.specs.Prelude.{Entries, Explore}
use Rattle.gt_command_line.specs.declared.invocation.Format.TheVariants as formats
use Rattle.gt_command_line.specs.Files.{file_names_of}
use Rattle.gt_explore_verdict.specs.declared.judging.Claim.{Claim}
use Rattle.gt_explore_verdict.specs.declared.judging.Claim.TheVariants.{Find, Never, Always}
use Rattle.gt_command_line.specs.declared.invocation.Exploration.{Exploration}
use Rattle.gt_command_line.specs.declared.invocation.Exploration.TheVariants as explorations
use Rattle.gt_command_line.specs.Rules.{command_app}
use Rattle.gt_command_line.specs.Usage.{Usage, Line, gives, asks_help, wrong, Word, mark, long, short, plain}
use Rattle.gt_command_line.specs.Usage.{usage_word, line, is_true, value_given}
use Rattle.gt_command_line.specs.declared.invocation.Invocation.TheVariants as invocations
use Rattle.gt_command_line.specs.declared.values.ExploreForm.{ExploreForm}
use Rattle.gt_command_line.specs.declared.values.ExploreForm.TheVariants as explore_forms

-- ---- the commands

abbrev pub command_name : Mode → Text
command_name Play = codes "play"
command_name Run = codes "run"
command_name Explore = codes "explore"
command_name Policy = codes "policy"
command_name Rules = codes "rules"
command_name Check = codes "check"
command_name Why = codes "why"
command_name Flow = codes "flow"
command_name Entries = codes "entries"

abbrev pub one : Text → List Text
one name = name ∷ []

-- `[FILE]`
abbrev pub file_usage : Usage
file_usage = record { flags = []; options = []; words = one (codes "file"); needed = [] }

-- `[--verbose] [FILE]`, which each command takes
abbrev pub common_usage : Usage
common_usage = record file_usage { flags = one (codes "verbose") }

-- the usage of the commands that run a script
abbrev pub runner_usage : Usage
runner_usage = record file_usage { flags = codes "audit" ∷ codes "verbose" ∷ []; options = one (codes "format") }

-- the names of the words for the FILEs of `check` after the first
abbrev pub more_files : List Text
more_files = codes "file2" ∷ codes "file3" ∷ codes "file4" ∷ codes "file5" ∷ codes "file6" ∷ codes "file7"
    ∷ codes "file8" ∷ []

-- the usage of each command
abbrev pub usage_of : Mode → Usage
usage_of Play = runner_usage
usage_of Run = runner_usage
usage_of Explore = record common_usage {
  flags = codes "summary" ∷ codes "races" ∷ codes "verbose" ∷ [];
  options = codes "find" ∷ codes "never" ∷ codes "always" ∷ codes "claims" ∷ codes "has" ∷ codes "witness"
      ∷ codes "trace" ∷ codes "diff" ∷ codes "never-state" ∷ codes "states" ∷ codes "format" ∷ [];
}
usage_of Policy = record common_usage { options = one (codes "format") }
usage_of Rules = common_usage
usage_of Check = record file_usage {
  flags = codes "script" ∷ codes "verbose" ∷ [];
  options = codes "never" ∷ codes "format" ∷ [];
  words = codes "file" ∷ more_files;
}
usage_of Why = record common_usage {
  flags = codes "each" ∷ codes "verbose" ∷ [];
  words = codes "source" ∷ codes "target" ∷ codes "permission" ∷ codes "file" ∷ [];
}
usage_of Flow = record file_usage {
  flags = codes "script" ∷ codes "verbose" ∷ [];
  options = codes "trust" ∷ codes "format" ∷ [];
  words = codes "source" ∷ codes "target" ∷ codes "file" ∷ [];
}
usage_of Entries = record file_usage {
  flags = codes "hex" ∷ codes "all" ∷ codes "verbose" ∷ [];
  options = codes "version" ∷ codes "script" ∷ codes "format" ∷ [];
  needed = one (codes "version");
}

abbrev pub every_mode : List Mode
every_mode = Play ∷ Run ∷ Explore ∷ Policy ∷ Rules ∷ Check ∷ Why ∷ Flow ∷ Entries ∷ []

-- ---- the program, for the parser of command lines

-- gthost with no command, and with a version
abbrev pub bare_app : App
bare_app = on_top (λ s. record s { has_version = true; subcommand_required = true; disable_help_subcommand = true })
    (new_app (codes "gthost"))

-- a command of the program
abbrev pub mode_app : Mode → App
mode_app mode = command_app (command_name mode) (usage_of mode)

abbrev pub with_mode : App → Mode → App
with_mode app mode = with_subcommand app (mode_app mode).top

-- with these commands
unfoldable pub with_modes : App → List Mode → App
with_modes app modes = fold with_mode app modes

-- gthost COMMAND; there is no command `help`
abbrev pub gthost_app : App
gthost_app = fold with_mode bare_app every_mode

-- ---- requests

-- what an exploration seeks: all texts, the verdict on a claim, the verdicts on the claims of a text, a script for the
-- text of a number, one for each, the moves that lead to the text of a number, as lines or as a diagram, how many texts
-- have each answer, where the texts of two numbers differ, the verdict on a claim about what entries show, the lines that
-- race, or a script that shows the race of a number
pub data Sought : Type 0 where
  all_texts : Sought
  a_claim : Claim → Text → Sought
  several_claims : Text → Sought
  one_script : ℕ → Sought
  all_scripts : Sought
  one_trace : ℕ → Sought
  one_diagram : ℕ → Sought
  a_summary : Sought
  a_difference : ℕ → ℕ → Sought
  a_state_claim : Text → Sought
  all_races : Sought
  one_race : ℕ → Sought

-- To play a script, to run one, to explore one, to find the text of a file among its texts, to list a policy, to list
-- the rules, to check a policy or a script, to check a policy against the neverallow statements of a file, to explain
-- why a policy allows something, to answer the questions of the standard input about a policy, to show by which path
-- bytes of a type reach another one, or to print the entries of a dump, with the options and the FILE, none for standard input, and the further FILEs of a check; help; the
-- version; or nothing that the program does. Only `play`, `run` and `policy` need to be asked for the reasons of a
-- fault: the others take `--verbose` and give the reasons also without it.
pub data Request : Type 0 where
  to_play : Bool → Bool → Format → Option Text → Request
  to_run : Bool → Bool → Format → Option Text → Request
  to_explore : Sought → Format → ℕ → Option Text → Request
  to_find_text : Text → Format → ℕ → Option Text → Request
  to_list : Bool → Format → Option Text → Request
  to_tell_rules : Option Text → Request
  to_check : Bool → Format → Option Text → List (Option Text) → Request
  to_check_never : Text → Format → Option Text → List (Option Text) → Request
  to_explain : Option Text → Option Text → Option Text → Bool → Option Text → Request
  to_explain_lines : Bool → Text → Request
  to_show_flow : Bool → Format → Option Text → Option Text → Option Text → Option Text → Request
  to_tell_entries : ℕ → Bool → Bool → Option ℕ → Format → Option Text → Request
  for_help : Request
  for_version : Request
  nothing : Request

-- `--format text` or `--format json`; text if it is left out
abbrev pub format_of : Option Text → Option Format
format_of None = Some formats.Text
format_of (Some word) = if bytes_eq word (codes "text") then Some formats.Text
    else (if bytes_eq word (codes "json") then Some Json else None)

-- a type or a permission by its name; `-` is any
abbrev pub type_of : Option Text → Option Text
type_of None = None
type_of (Some word) = if bytes_eq word (codes "-") then None else Some word

-- `--version 1` or `--version 2`
abbrev pub version_of : Option Text → Option ℕ
version_of None = None
version_of (Some word) = if bytes_eq word (codes "1") then Some 1
    else (if bytes_eq word (codes "2") then Some 2 else None)

-- a number up to this one, as `parse` of an unsigned number of Rust reads it
abbrev pub number_up_to : ℕ → Text → Option ℕ
number_up_to most word = if is_unsigned_in 0 most word then Some (digits_value 10 (without_leading_plus word)) else None

-- the number of a domain in a script, at most 32,751
abbrev pub domain_number : Text → Option ℕ
domain_number word = number_up_to 32751 word

-- `--script DOM`, if it is given
abbrev pub script_of : Option Text → Option (Option ℕ)
script_of None = Some None
script_of (Some word) = option_map (λ n. Some n) (domain_number word)

-- `--witness N`, a number of 64 bits, or `--witness all`, if it is given
abbrev pub witness_of : Option Text → Option (Option Sought)
witness_of None = Some None
witness_of (Some word) =
    if bytes_eq word (codes "all") then Some (Some all_scripts)
    else option_map (λ n. Some (one_script n)) (number_up_to 18446744073709551615 word)

-- `--trace N`, a number of 64 bits, if it is given
abbrev pub trace_option : Option Text → Option (Option Sought)
trace_option None = Some None
trace_option (Some word) = option_map (λ n. Some (one_trace n)) (number_up_to 18446744073709551615 word)

-- `--summary`, if it is given
abbrev pub summary_option : Bool → Option (Option Sought)
summary_option true = Some (Some a_summary)
summary_option false = Some None

-- two numbers
abbrev pub both_numbers : Option ℕ → Option ℕ → Option (Option Sought)
both_numbers None other = None
both_numbers (Some one) None = None
both_numbers (Some one) (Some other) = Some (Some (a_difference one other))

-- `--diff K,L`, two numbers of 64 bits, if it is given
abbrev pub diff_option : Option Text → Option (Option Sought)
diff_option None = Some None
diff_option (Some word) =
    if nat_lt (position_or_len (λ b. b == 44) word) (length word)
    then both_numbers (number_up_to 18446744073709551615 (before_first (λ b. b == 44) word))
    (number_up_to 18446744073709551615 (after_first (λ b. b == 44) word))
    else None

-- `--never-state S`, if it is given
abbrev pub state_option : Option Text → Option (Option Sought)
state_option None = Some None
state_option (Some claim) = Some (Some (a_state_claim claim))

-- what is sought beside the flag `--races`: nothing, or the script of one number; nothing else goes with it
abbrev pub sought_of_races : Option Sought → Option (Option Sought)
sought_of_races None = Some (Some all_races)
sought_of_races (Some (one_script number)) = Some (Some (one_race number))
sought_of_races (Some _) = None

-- the same, with `--races` or without it; nothing if an option does not take its value
abbrev pub with_races : Bool → Option (Option Sought) → Option (Option Sought)
with_races false sought = sought
with_races true None = None
with_races true (Some sought) = sought_of_races sought

-- `--find EXPR`, `--never EXPR` or `--always EXPR`, of which only one may be given
abbrev pub claim_of : Option Text → Option Text → Option Text → Option (Option Sought)
claim_of None None None = Some None
claim_of (Some find) None None = Some (Some (a_claim Find find))
claim_of None (Some never) None = Some (Some (a_claim Never never))
claim_of None None (Some always) = Some (Some (a_claim Always always))
claim_of (Some find) (Some never) always = None
claim_of (Some find) None (Some always) = None
claim_of None (Some never) (Some always) = None

-- a claim, or `--claims CLAIMS`, of which only one may be given
abbrev pub claims_of : Option (Option Sought) → Option Text → Option (Option Sought)
claims_of one None = one
claims_of None (Some claims) = None
claims_of (Some None) (Some claims) = Some (Some (several_claims claims))
claims_of (Some (Some claim)) (Some claims) = None

-- `--states N`; 1,000,000 if it is left out
abbrev pub states_of : Option Text → Option ℕ
states_of None = Some 1000000
states_of (Some word) = number_up_to 18446744073709551615 word

abbrev pub play_with : Option Format → Bool → Bool → Option Text → Request
play_with None audit verbose file = nothing
play_with (Some format) audit verbose file = to_play audit verbose format file

abbrev pub run_with : Option Format → Bool → Bool → Option Text → Request
run_with None audit verbose file = nothing
run_with (Some format) audit verbose file = to_run audit verbose format file

-- the one of a claim, scripts for texts and a trace that is given, if one is; nothing if there is more than one
abbrev pub sought_of : Option Sought → Option Sought → Option Sought → Option (Option Sought)
sought_of None None None = Some None
sought_of (Some claim) None None = Some (Some claim)
sought_of None (Some scripts) None = Some (Some scripts)
sought_of None None (Some trace) = Some (Some trace)
sought_of (Some claim) (Some scripts) trace = None
sought_of (Some claim) None (Some trace) = None
sought_of None (Some scripts) (Some trace) = None

-- the same by the values of the options; nothing if an option does not take its value
abbrev pub one_sought : Option (Option Sought) → Option (Option Sought) → Option (Option Sought)
    → Option (Option Sought)
one_sought None witness trace = None
one_sought (Some claim) None trace = None
one_sought (Some claim) (Some witness) None = None
one_sought (Some claim) (Some witness) (Some trace) = sought_of claim witness trace

-- the one of two that is given, if one is; nothing if both are, or if an option does not take its value
abbrev pub sought_too : Option (Option Sought) → Option (Option Sought) → Option (Option Sought)
sought_too None more = None
sought_too (Some one) None = None
sought_too (Some one) (Some None) = Some one
sought_too (Some None) (Some (Some more)) = Some (Some more)
sought_too (Some (Some one)) (Some (Some more)) = None

-- `--format text`, `--format json` or `--format mermaid` of `explore`; text if it is left out
abbrev pub explore_form_of : Option Text → Option ExploreForm
explore_form_of None = Some explore_forms.Text
explore_form_of (Some word) = if bytes_eq word (codes "text") then Some explore_forms.Text
    else (if bytes_eq word (codes "json") then Some explore_forms.Json
    else (if bytes_eq word (codes "mermaid") then Some explore_forms.Mermaid else None))

-- a trace as a diagram; nothing else is one
abbrev pub diagram_of : Option Sought → Option (Option Sought × Format)
diagram_of (Some (one_trace number)) = Some (Some (one_diagram number), formats.Text)
diagram_of None = None
diagram_of (Some all_texts) = None
diagram_of (Some (a_claim claim expression)) = None
diagram_of (Some (several_claims claims)) = None
diagram_of (Some (one_script number)) = None
diagram_of (Some all_scripts) = None
diagram_of (Some (one_diagram number)) = None
diagram_of (Some a_summary) = None
diagram_of (Some (a_difference one other)) = None
diagram_of (Some (a_state_claim claim)) = None
diagram_of (Some all_races) = None
diagram_of (Some (one_race number)) = None

-- what is sought is answered in text only: the verdict on a claim about what entries show, the lines that race, or the
-- script of a race
abbrev pub is_text_only : Option Sought → Bool
is_text_only (Some (a_state_claim claim)) = true
is_text_only (Some all_races) = true
is_text_only (Some (one_race number)) = true
is_text_only _ = false

-- what is sought as JSON
abbrev pub json_of : Option Sought → Option (Option Sought × Format)
json_of sought = if is_text_only sought then None else Some (sought, Json)

-- what is sought in a form, with its format
abbrev pub formed : ExploreForm → Option Sought → Option (Option Sought × Format)
formed explore_forms.Text sought = Some (sought, formats.Text)
formed explore_forms.Json sought = json_of sought
formed explore_forms.Mermaid sought = diagram_of sought

-- the same by the values of the options; nothing if an option does not take its value
abbrev pub formed_of : Option (Option Sought) → Option ExploreForm → Option (Option Sought × Format)
formed_of None form = None
formed_of (Some sought) None = None
formed_of (Some sought) (Some form) = formed form sought

-- what is sought of the texts, or whether the text of a file is one of them, not both
abbrev pub explore_for : Option Sought → Option Text → Format → ℕ → Option Text → Request
explore_for None None format states file = to_explore all_texts format states file
explore_for (Some sought) None format states file = to_explore sought format states file
explore_for None (Some given) format states file = to_find_text given format states file
explore_for (Some sought) (Some given) format states file = nothing

abbrev pub explore_with : Option (Option Sought × Format) → Option Text → Option ℕ → Option Text → Request
explore_with None given states file = nothing
explore_with (Some sought) given None file = nothing
explore_with (Some sought) given (Some states) file = explore_for sought.0 given sought.1 states file

abbrev pub list_with : Option Format → Bool → Option Text → Request
list_with None verbose file = nothing
list_with (Some format) verbose file = to_list verbose format file

-- a check against the neverallow statements of a file is not one of a script
abbrev pub check_with : Option Format → Bool → Option Text → Option Text → List (Option Text) → Request
check_with None script never file more = nothing
check_with (Some format) script None file more = to_check script format file more
check_with (Some format) false (Some never) file more = to_check_never never format file more
check_with (Some format) true (Some never) file more = nothing

-- `SOURCE TARGET PERMISSION [FILE]`; or one word, which is then the FILE
abbrev pub why_with : Option Text → Option Text → Option Text → Bool → Option Text → Request
why_with None target permission each file = nothing
why_with (Some source) None None each None = to_explain_lines each source
why_with (Some source) None None each (Some file) = nothing
why_with (Some source) None (Some permission) each file = nothing
why_with (Some source) (Some target) None each file = nothing
why_with (Some source) (Some target) (Some permission) each file =
    to_explain (type_of (Some source)) (type_of (Some target)) (type_of (Some permission)) each file

-- `SOURCE TARGET [FILE]`, with `--script` and `--trust TYPES` or without
abbrev pub flow_with : Option Format → Bool → Option Text → Option Text → Option Text → Option Text → Request
flow_with None script source target trusted file = nothing
flow_with (Some format) script None target trusted file = nothing
flow_with (Some format) script (Some source) None trusted file = nothing
flow_with (Some format) script (Some source) (Some target) trusted file =
    to_show_flow script format (type_of (Some source)) (type_of (Some target)) trusted file

-- the lines of a script have no form as JSON
abbrev pub entries_with : Option ℕ → Option (Option ℕ) → Option Format → Bool → Bool → Option Text → Request
entries_with None script format hex every file = nothing
entries_with (Some version) None format hex every file = nothing
entries_with (Some version) (Some script) None hex every file = nothing
entries_with (Some version) (Some None) (Some format) hex every file =
    to_tell_entries version hex every None format file
entries_with (Some version) (Some (Some dom)) (Some formats.Text) hex every file =
    to_tell_entries version hex every (Some dom) formats.Text file
entries_with (Some version) (Some (Some dom)) (Some Json) hex every file = nothing

-- what a command asks for, by the values that were given: nothing if it does not take one of them
abbrev pub read : Mode → (Text → Option Text) → Request
read Play value = play_with (format_of (value (codes "format"))) (is_true (value (codes "audit")))
    (is_true (value (codes "verbose"))) (value (codes "file"))
read Run value = run_with (format_of (value (codes "format"))) (is_true (value (codes "audit")))
    (is_true (value (codes "verbose"))) (value (codes "file"))
read Explore value = explore_with
    (formed_of
    (with_races (is_true (value (codes "races")))
    (sought_too
    (sought_too
    (sought_too
    (one_sought
    (claims_of (claim_of (value (codes "find")) (value (codes "never")) (value (codes "always")))
    (value (codes "claims")))
    (witness_of (value (codes "witness"))) (trace_option (value (codes "trace"))))
    (summary_option (is_true (value (codes "summary"))))) (diff_option (value (codes "diff"))))
    (state_option (value (codes "never-state")))))
    (explore_form_of (value (codes "format")))) (value (codes "has"))
    (states_of (value (codes "states"))) (value (codes "file"))
read Policy value = list_with (format_of (value (codes "format"))) (is_true (value (codes "verbose")))
    (value (codes "file"))
read Rules value = to_tell_rules (value (codes "file"))
read Check value = check_with (format_of (value (codes "format"))) (is_true (value (codes "script")))
    (value (codes "never")) (value (codes "file")) (map value more_files)
read Why value = why_with (value (codes "source")) (value (codes "target")) (value (codes "permission"))
    (is_true (value (codes "each"))) (value (codes "file"))
read Flow value = flow_with (format_of (value (codes "format"))) (is_true (value (codes "script")))
    (value (codes "source")) (value (codes "target")) (value (codes "trust")) (value (codes "file"))
read Entries value = entries_with (version_of (value (codes "version"))) (script_of (value (codes "script")))
    (format_of (value (codes "format"))) (is_true (value (codes "hex"))) (is_true (value (codes "all"))) (value (codes "file"))

abbrev pub asked_of : Mode → Line → Request
asked_of mode (gives given) = read mode (value_given given)
asked_of mode asks_help = for_help
asked_of mode wrong = nothing

-- `--help` or `--version`, with no value attached
abbrev pub asked_of_long : Text → Option Text → Request
asked_of_long name None = if bytes_eq (codes "help") name then for_help
    else (if bytes_eq (codes "version") name then for_version else nothing)
asked_of_long name (Some value) = nothing

-- what a first word that is not a command asks for: help for `h`, the version for `V`
abbrev pub asked_of_none : Word → Request
asked_of_none mark = nothing
asked_of_none (long name value) = asked_of_long name value
asked_of_none (short letter) = if 104 == letter then for_help else (if 86 == letter then for_version else nothing)
asked_of_none plain = nothing

-- the command of this name
abbrev pub mode_of : Text → Option Mode
mode_of word = find (λ mode. bytes_eq (command_name mode) word) every_mode

abbrev pub request_by : Option Mode → Text → List Text → Request
request_by (Some mode) word rest = asked_of mode (line (usage_of mode) rest)
request_by None word rest = asked_of_none (usage_word word)

-- what the words after the program's name ask for
abbrev pub request_in_words : List Text → Request
request_in_words [] = nothing
request_in_words (word ∷ rest) = request_by (mode_of word) word rest

-- ---- answers

-- the kinds of error that answer it, apart from a failed allocation
abbrev pub refusals : Request → Kinds
refusals for_help = DisplayHelp ∷ []
refusals for_version = DisplayVersion ∷ []
refusals nothing = UnknownArgument ∷ InvalidSubcommand ∷ MissingSubcommand ∷ TooManyValues ∷ ArgumentConflict
    ∷ InvalidValue ∷ MissingRequiredArgument ∷ []
refusals _ = []

-- what is sought by an exploration
abbrev pub sought_by : Exploration → Sought
sought_by explorations.Texts = all_texts
sought_by (explorations.Decide claim expression) = a_claim claim expression.now
sought_by (explorations.Claims claims) = several_claims claims.now
sought_by (explorations.Witness number) = one_script number
sought_by explorations.Witnesses = all_scripts
sought_by (explorations.Trace number) = one_trace number
sought_by (explorations.Diagram number) = one_diagram number
sought_by explorations.Summary = a_summary
sought_by (explorations.Difference one other) = a_difference one other
sought_by (explorations.NeverState claim) = a_state_claim claim.now
sought_by explorations.Races = all_races
sought_by (explorations.RaceWitness number) = one_race number

-- what a plan asks for
abbrev pub asked_by_plan : Invocation → Request
asked_by_plan (invocations.Play o) = to_play o.audit o.verbose o.format (option_map (λ f. f.now) o.file)
asked_by_plan (invocations.Run o) = to_run o.audit o.verbose o.format (option_map (λ f. f.now) o.file)
asked_by_plan (invocations.Explore asked o) =
    to_explore (sought_by asked) o.format o.states (option_map (λ f. f.now) o.file)
asked_by_plan (invocations.ExploreHas given o) =
    to_find_text given.now o.format o.states (option_map (λ f. f.now) o.file)
asked_by_plan (invocations.Policy verbose format file) = to_list verbose format (option_map (λ f. f.now) file)
asked_by_plan (invocations.Rules rule) = to_tell_rules (option_map (λ f. f.now) rule)
asked_by_plan (invocations.Check script files) =
    to_check script files.format (option_map (λ f. f.now) files.file) (file_names_of files.more)
asked_by_plan (invocations.CheckNever never files) =
    to_check_never never.now files.format (option_map (λ f. f.now) files.file) (file_names_of files.more)
asked_by_plan (invocations.Why source target permission each file) = to_explain (option_map (λ f. f.now) source)
    (option_map (λ f. f.now) target) (option_map (λ f. f.now) permission) each (option_map (λ f. f.now) file)
asked_by_plan (invocations.WhyLines each file) = to_explain_lines each file.now
asked_by_plan (invocations.Flow source target o file) =
    to_show_flow o.script o.format (option_map (λ f. f.now) source) (option_map (λ f. f.now) target)
    (option_map (λ f. f.now) o.trusted) (option_map (λ f. f.now) file)
asked_by_plan (invocations.Entries dump format file) =
    to_tell_entries dump.version dump.hex dump.all dump.script format (option_map (λ f. f.now) file)

-- what a plan asks for, or nothing if there is none
abbrev pub asked_by_some : Option Invocation → Request
asked_by_some None = nothing
asked_by_some (Some p) = asked_by_plan p

-- the plan asks for that, or the error fits it; a line that asks for a command is refused only if an allocation fails
abbrev pub IsInvocationOf : Request → Result Invocation Error → Type 0
IsInvocationOf request r = MatchResult r (λ p. asked_by_plan p ≡ request) (HasKind (refusals request))

-- what the command of a name asks for by the rows of its matches
abbrev pub asked_with : Option Mode → (Text → Option Text) → Request
asked_with None value = nothing
asked_with (Some mode) value = read mode value

abbrev pub asked_named : Text → List Row → Request
asked_named name rows = asked_with (mode_of name) (λ id. first_of id rows)

-- the plan is what the matched subcommand asks for, by its values
abbrev pub IsPlanOf : Invocation → Option (Text × List Row) → Type 0
IsPlanOf p None = ⊥
IsPlanOf p (Some (name, rows)) = asked_by_plan p ≡ asked_named name rows
