-- From the plan of a command line, or its refusal, to the outcome of the line.
use Rattle.std.proofs.Common.{◌≡◌, ◌∙◌, ℕ, Bool, List, Option, None, Some, Result, refl, sym, subst, inl}
use Rattle.std.proofs.Common.{inr, true, false, codes, cond, ◌∷◌, [], ap, Err, Ok, ◌==◌, ◌⊎◌, arith}
use Rattle.std.specs.Io.KnownBytes.{Appends, Keeps}
use Rattle.std.proofs.lemmas.List.{append-nil}
use Rattle.std.specs.Prelude.{◌++◌, drop, if◌then◌else◌}
use Rattle.gt_text.specs.Laws.{keeps_same}
use Rattle.clap.specs.Kinds.{HasKind}
use Rattle.clap.specs.Words.{kind_of}
use Rattle.clap.specs.declared.error.Error.{Error}
use Rattle.clap.specs.declared.error.kind.ErrorKind.{ErrorKind}
use Rattle.clap.specs.declared.error.kind.ErrorKind.TheVariants.{ArgumentConflict, DisplayHelp, DisplayVersion}
use Rattle.clap.specs.declared.error.kind.ErrorKind.TheVariants.{OutOfMemory, InvalidSubcommand, InvalidValue}
use Rattle.clap.specs.declared.error.kind.ErrorKind.TheVariants.{MissingRequiredArgument, MissingSubcommand}
use Rattle.clap.specs.declared.error.kind.ErrorKind.TheVariants.{TooManyValues, UnknownArgument}
use Rattle.gt_command_line.specs.Commands.{Request, to_play, to_run, to_explore, to_list, to_tell_rules, to_check}
use Rattle.gt_command_line.specs.Commands.{flow_with, to_check_never, to_explain, to_explain_lines, to_find_text, to_show_flow}
use Rattle.gt_command_line.specs.Commands.{to_tell_entries, for_help, for_version, nothing, asked_by_plan, refusals}
use Rattle.gt_command_line.specs.Commands.{request_in_words, request_by, asked_of, asked_of_none, mode_of, read, usage_of}
use Rattle.gt_command_line.specs.Commands.{Sought}
use Rattle.gt_command_line.specs.Commands.{play_with, run_with, list_with, explore_for, explore_with, check_with}
use Rattle.gt_command_line.specs.Commands.{why_with}
use Rattle.gt_command_line.specs.Commands.{entries_with}
use Rattle.gt_command_line.specs.Leading.{command_first, first_or, flag_behind, help_first, is_help, is_verbose}
use Rattle.gt_command_line.specs.Leading.{leading_word, word_behind}
use Rattle.gt_command_line.specs.Claiming.{words_ended, no_words, plain_words, words_taken, with_claims, words_joined}
use Rattle.gt_command_line.specs.Letters.{long_flag, long_word, with_long_flags}
use Rattle.gt_command_line.specs.Usage.{Line, Word, asks_help, gives, line, long, mark, plain, short, usage_word}
use Rattle.gt_command_line.specs.Usage.{value_given, wrong}
use Rattle.gt_command_line.specs.declared.invocation.Format.TheVariants as formats
use Rattle.gt_command_line.specs.declared.invocation.Mode.{Mode}
use Rattle.gt_command_line.specs.declared.invocation.Mode.TheVariants as modes
use Rattle.std.specs.Str.{bytes_eq}
use Rattle.std.proofs.lemmas.Slice.Eq.{bytes_eq-Decides}
use Rattle.gt_command_line.specs.declared.invocation.Invocation.{Invocation}
use Rattle.gt_command_line.specs.declared.invocation.Format.{Format}
use Rattle.gt_command_reasons.specs.Names.{shown_name}
use Rattle.gt_explore_verdict.specs.declared.judging.Verdict.{Verdict}
use Rattle.gt_explore_verdict.specs.declared.judging.Verdict.TheVariants.{Holds, Fails, Undecided}
use Rattle.gt_explore_answers.specs.declared.asking.ExploreOptions.{ExploreOptions}
use Rattle.gt_program.specs.declared.exploring.SearchAsked.{SearchAsked}
use Rattle.gt_program.specs.declared.exploring.SearchAsked.TheVariants.{One}
use Rattle.gt_file_commands.specs.Laws.{nothing_without_memory, nothing_done}
use Rattle.gt_file_commands.specs.Rules.{PrintsRules}
use Rattle.gt_file_commands.specs.Flows.{flow_format}
use Rattle.gt_file_commands.specs.Working.{AnswersDump, AnswersFlow, AnswersQuestion, ChecksAll, ChecksAs, ChecksFiles}
use Rattle.gt_file_commands.specs.Working.{ChecksIn, ChecksNever, DoesOnFile, Doing, Ending, Lists, Plays, Works}
use Rattle.gt_file_commands.specs.Working.{known_text}
use Rattle.gt_file_commands.specs.declared.outcome.Outcome.{Outcome}
use Rattle.gt_file_commands.specs.declared.outcome.Outcome.TheVariants.{No, Unknown, Yes}
use Rattle.gt_run_command.specs.Runs.{RunsDomains}
use Rattle.gt_program.specs.Obeying.{AnswersVerdict, FitsKind, AsksAboutText, IsAskedFor, IsHelped, Obeys}
use Rattle.gt_program.specs.Obeying.{Searches, SearchesTexts, Seeks, explored_ending}
use Rattle.gt_explore_faults.specs.declared.claims.ClaimsFault.{ClaimsFault}
use Rattle.gt_program.specs.Obeying.{SeeksText, explore_format, failed_command, failed_mode, failed_word, first_word}
use Rattle.gt_program.specs.Obeying.{verdict_outcome}

-- a verdict is an answer
verdict_one : {F : Type 0} (Wrote : Result Verdict F → Type 0) (verdict : Verdict) → Wrote (Ok verdict) → AnswersVerdict Wrote (verdict_outcome verdict)
verdict_one Wrote Holds wrote = wrote
verdict_one Wrote Fails wrote = wrote
verdict_one Wrote Undecided wrote = wrote

pub verdict_answer : {F : Type 0} (Wrote : Result Verdict F → Type 0) (verdict : Verdict) (outcome : Outcome) → outcome ≡ verdict_outcome verdict → Wrote (Ok verdict) → AnswersVerdict Wrote outcome
verdict_answer Wrote verdict outcome is wrote = subst (AnswersVerdict Wrote) (sym is) (verdict_one Wrote verdict wrote)

-- texts were explored, with this ending
explored_one : (Wrote : Result Verdict ClaimsFault → Type 0) (r : Result Verdict ClaimsFault) → Wrote r → SearchesTexts Wrote (explored_ending r)
explored_one Wrote (Ok verdict) wrote = verdict_one Wrote verdict wrote
explored_one Wrote (Err fault) wrote = wrote

pub explored_so : (Wrote : Result Verdict ClaimsFault → Type 0) (r : Result Verdict ClaimsFault) (ending : Ending) → ending ≡ explored_ending r → Wrote r → SearchesTexts Wrote ending
explored_so Wrote r ending is wrote = subst (SearchesTexts Wrote) (sym is) (explored_one Wrote r wrote)

-- what a plan asks for is done
pub as_planned : (p same : Invocation) (failed : Outcome) (width : Option ℕ) (file : List ℕ → Option (List ℕ)) (input old new : Option (List ℕ)) (outcome : Outcome) → p ≡ same → Obeys (asked_by_plan same) failed width file input old new outcome
    → Obeys (asked_by_plan p) failed width file input old new outcome
as_planned p same failed width file input old new outcome is obeys = subst (λ (q : Invocation). Obeys (asked_by_plan q) failed width file input old new outcome) (sym is) obeys

-- a text was sought among those of a script
seeks_given : (asked : ExploreOptions) (text : List ℕ) (format : Format) (states : ℕ) (name : Option (List ℕ)) (input : List ℕ) (old new : Option (List ℕ)) (r : Ending) → AsksAboutText text asked.request
    → asked.format ≡ explore_format format → asked.states ≡ states
    → DoesOnFile (Searches (One asked)) name input old new r → DoesOnFile (SeeksText text format states) name input old new r
seeks_given asked text format states name input old new r given form same (inl does) = inl (asked, given, form, same, does)
seeks_given asked text format states name input old new r given form same (inr unopened) = inr unopened

pub found_so : (asked : ExploreOptions) (text : List ℕ) (format : Format) (states : ℕ) (name known old new : Option (List ℕ)) (outcome : Outcome) → AsksAboutText text asked.request
    → asked.format ≡ explore_format format → asked.states ≡ states
    → Works (Searches (One asked)) Unknown name known old new outcome → Works (SeeksText text format states) Unknown name known old new outcome
found_so asked text format states name None old new outcome given form same works = tt
found_so asked text format states name (Some bytes) old new outcome given form same (r, is, inl does) = (r, is, inl (seeks_given asked text format states name bytes old new r given form same does))
found_so asked text format states name (Some bytes) old new outcome given form same (r, is, inr none) = (r, is, inr none)

-- what was asked for was done
pub done : (request : Request) (failed : Outcome) (width : Option ℕ) (file : List ℕ → Option (List ℕ)) (input old new : Option (List ℕ)) (p : Invocation) (outcome : Outcome) → asked_by_plan p ≡ request
    → Obeys (asked_by_plan p) failed width file input old new outcome → Obeys request failed width file input old new outcome
done request failed width file input old new p outcome plan obeys = subst (λ (r : Request). Obeys r failed width file input old new outcome) plan obeys

silent : (failed : Outcome) (kind other : ErrorKind) (old new : Option (List ℕ)) (outcome : Outcome) → FitsKind failed kind old new outcome → kind ≡ other → (other ≡ DisplayHelp → ⊥) → (other ≡ DisplayVersion → ⊥) → Keeps old new
silent failed kind other old new outcome fits is help version = fits.silent (λ (e : kind ≡ DisplayHelp). help (sym is ∙ e)) (λ (e : kind ≡ DisplayVersion). version (sym is ∙ e))

wrong_one : (failed : Outcome) (kind other : ErrorKind) (old new : Option (List ℕ)) (outcome : Outcome) → FitsKind failed kind old new outcome → kind ≡ other → (other ≡ OutOfMemory → ⊥) → (other ≡ DisplayHelp → ⊥) → (other ≡ DisplayVersion → ⊥) → outcome ≡ Unknown
wrong_one failed kind other old new outcome fits is memory help version =
    fits.wrong (λ (e : kind ≡ OutOfMemory). memory (sym is ∙ e)) (λ (e : kind ≡ DisplayHelp). help (sym is ∙ e)) (λ (e : kind ≡ DisplayVersion). version (sym is ∙ e))

-- the outcome of a failed allocation
abbrev pub FailedFor : Request → Outcome → Type 0
FailedFor (to_play audited verbose format name) failed = failed ≡ No
FailedFor (to_run audited verbose format name) failed = failed ≡ No
FailedFor (to_explore sought format states name) failed = failed ≡ Unknown
FailedFor (to_find_text given format states name) failed = failed ≡ Unknown
FailedFor (to_list verbose format name) failed = failed ≡ No
FailedFor (to_tell_rules name) failed = failed ≡ Unknown
FailedFor (to_check script format name more) failed = failed ≡ Unknown
FailedFor (to_check_never never format name more) failed = failed ≡ Unknown
FailedFor (to_explain source target permission each name) failed = failed ≡ Unknown
FailedFor (to_explain_lines each name) failed = failed ≡ Unknown
FailedFor (to_show_flow script format source target trusted name) failed = failed ≡ Unknown
FailedFor (to_tell_entries version hex every script format name) failed = failed ≡ Unknown
FailedFor for_help failed = (failed ≡ Unknown) ⊎ (failed ≡ No)
FailedFor for_version failed = (failed ≡ Unknown) ⊎ (failed ≡ No)
FailedFor nothing failed = (failed ≡ Unknown) ⊎ (failed ≡ No)

-- memory was refused
helpless : (failed outcome : Outcome) (old new : Option (List ℕ)) → (failed ≡ Unknown) ⊎ (failed ≡ No) → outcome ≡ failed → Keeps old new → IsHelped outcome ⊎ ((outcome ≡ Unknown) × Keeps old new)
helpless failed outcome old new (inl unknown) is kept = inr (is ∙ unknown, kept)
helpless failed outcome old new (inr none) is kept = inl (inr (is ∙ none))

-- no memory was there for the other files
unread_files : (P : List ℕ → Doing) (file : List ℕ → Option (List ℕ)) (more : List (Option (List ℕ))) (here : Option (List ℕ)) → (other : Outcome) × ChecksFiles P file more here here other
unread_files P file [] here = (Yes, (keeps_same here, refl))
unread_files P file (None ∷ more) here = unread_files P file more here
unread_files P file (Some name ∷ more) here =
    let others = unread_files P file more here in
    (Unknown, (here, Unknown, others.0, nothing_without_memory (P name) Unknown (Some name) (file name) here here Unknown refl (keeps_same here), others.1, refl))

appends_none : (old new : Option (List ℕ)) → Keeps old new → Appends old new []
appends_none None new kept = tt
appends_none (Some old) None kept = absurd kept
appends_none (Some old) (Some new) kept = kept ∙ sym (append-nil old)

-- no memory was there for the rules
rules_unprinted : (width : Option ℕ) (name old new : Option (List ℕ)) (outcome : Outcome) → outcome ≡ Unknown → Keeps old new → PrintsRules width name old new outcome
rules_unprinted width name old new outcome is kept =
    let cut : PrintsRules width name old new Unknown = (0, omega arith, appends_none old new kept) in
    subst (λ (o : Outcome). PrintsRules width name old new o) (sym is) cut

out_of_memory : (request : Request) (failed : Outcome) (width : Option ℕ) (file : List ℕ → Option (List ℕ)) (input old new : Option (List ℕ)) (outcome : Outcome) → FailedFor request failed → outcome ≡ failed → Keeps old new
    → Obeys request failed width file input old new outcome
out_of_memory (to_play audited verbose format name) failed width file input old new outcome for is kept = nothing_without_memory (Plays format audited) No name (known_text file input name) old new outcome (is ∙ for) kept
out_of_memory (to_run audited verbose format name) failed width file input old new outcome for is kept = nothing_without_memory (RunsDomains format audited) No name (known_text file input name) old new outcome (is ∙ for) kept
out_of_memory (to_explore sought format states name) failed width file input old new outcome for is kept = nothing_without_memory (Seeks sought format states) Unknown name (known_text file input name) old new outcome (is ∙ for) kept
out_of_memory (to_find_text given format states name) failed width file input old new outcome for is kept =
    nothing_done (file given) (λ text. Works (SeeksText text format states) Unknown name (known_text file input name)) old new outcome (is ∙ for) kept
out_of_memory (to_list verbose format name) failed width file input old new outcome for is kept = nothing_without_memory (Lists format) No name (known_text file input name) old new outcome (is ∙ for) kept
out_of_memory (to_tell_rules name) failed width file input old new outcome for is kept = rules_unprinted width name old new outcome (is ∙ for) kept
out_of_memory (to_check script format name more) failed width file input old new outcome for is kept =
    let others = unread_files (ChecksIn (ChecksAs script) format) file more new in
    (new, Unknown, others.0, nothing_without_memory (ChecksIn (ChecksAs script) format (shown_name name)) Unknown name (known_text file input name) old new Unknown refl kept, others.1, is ∙ for)
out_of_memory (to_check_never never format name more) failed width file input old new outcome for is kept =
    nothing_done (file never) (λ given. ChecksAll (ChecksIn (ChecksNever never given) format) file input name more) old new outcome (is ∙ for) kept
out_of_memory (to_explain source target permission each name) failed width file input old new outcome for is kept =
    nothing_without_memory (AnswersQuestion each (shown_name name) source target permission) Unknown name (known_text file input name) old new outcome (is ∙ for) kept
out_of_memory (to_explain_lines each name) failed width file input old new outcome for is kept = inr (is ∙ for, kept)
out_of_memory (to_show_flow script format source target trusted name) failed width file input old new outcome for is kept =
    nothing_without_memory (AnswersFlow script (flow_format format) source target trusted) Unknown name (known_text file input name) old new outcome (is ∙ for) kept
out_of_memory (to_tell_entries version hex every script format name) failed width file input old new outcome for is kept =
    nothing_without_memory (AnswersDump version hex every script format) Unknown name (known_text file input name) old new outcome (is ∙ for) kept
out_of_memory for_help failed width file input old new outcome for is kept = helpless failed outcome old new for is kept
out_of_memory for_version failed width file input old new outcome for is kept = helpless failed outcome old new for is kept
out_of_memory nothing failed width file input old new outcome for is kept = (inr is, kept)

-- ---- the outcome of a failed allocation, by the words

module _ (failed : Outcome) where
  failed_play : (f : Option Format) (audited verbose : Bool) (file : Option (List ℕ)) → failed ≡ No → FailedFor (play_with f audited verbose file) failed
  failed_play None audited verbose file is = inr is
  failed_play (Some f) audited verbose file is = is

  failed_run : (f : Option Format) (audited verbose : Bool) (file : Option (List ℕ)) → failed ≡ No → FailedFor (run_with f audited verbose file) failed
  failed_run None audited verbose file is = inr is
  failed_run (Some f) audited verbose file is = is

  failed_list : (f : Option Format) (verbose : Bool) (file : Option (List ℕ)) → failed ≡ No → FailedFor (list_with f verbose file) failed
  failed_list None verbose file is = inr is
  failed_list (Some f) verbose file is = is

  failed_explore_for : (sought : Option Sought) (given : Option (List ℕ)) (f : Format) (states : ℕ) (file : Option (List ℕ)) → failed ≡ Unknown → FailedFor (explore_for sought given f states file) failed
  failed_explore_for None None f states file is = is
  failed_explore_for (Some sought) None f states file is = is
  failed_explore_for None (Some given) f states file is = is
  failed_explore_for (Some sought) (Some given) f states file is = inl is

  failed_explore : (sought : Option (Option Sought × Format)) (given : Option (List ℕ)) (states : Option ℕ) (file : Option (List ℕ)) → failed ≡ Unknown → FailedFor (explore_with sought given states file) failed
  failed_explore None given states file is = inl is
  failed_explore (Some sought) given None file is = inl is
  failed_explore (Some sought) given (Some states) file is = failed_explore_for sought.0 given sought.1 states file is

  failed_check : (f : Option Format) (script : Bool) (never file : Option (List ℕ)) (more : List (Option (List ℕ))) → failed ≡ Unknown → FailedFor (check_with f script never file more) failed
  failed_check None script never file more is = inl is
  failed_check (Some f) script None file more is = is
  failed_check (Some f) false (Some never) file more is = is
  failed_check (Some f) true (Some never) file more is = inl is

  failed_why : (source target permission : Option (List ℕ)) (each : Bool) (file : Option (List ℕ)) → failed ≡ Unknown → FailedFor (why_with source target permission each file) failed
  failed_why None target permission each file is = inl is
  failed_why (Some source) None None each None is = is
  failed_why (Some source) None None each (Some file) is = inl is
  failed_why (Some source) None (Some permission) each file is = inl is
  failed_why (Some source) (Some target) None each file is = inl is
  failed_why (Some source) (Some target) (Some permission) each file is = is

  failed_flow : (f : Option Format) (script : Bool) (source target trusted file : Option (List ℕ)) → failed ≡ Unknown → FailedFor (flow_with f script source target trusted file) failed
  failed_flow None script source target trusted file is = inl is
  failed_flow (Some f) script None target trusted file is = inl is
  failed_flow (Some f) script (Some source) None trusted file is = inl is
  failed_flow (Some f) script (Some source) (Some target) trusted file is = is

  failed_entries : (version : Option ℕ) (script : Option (Option ℕ)) (f : Option Format) (hex every : Bool) (file : Option (List ℕ)) → failed ≡ Unknown → FailedFor (entries_with version script f hex every file) failed
  failed_entries None script f hex every file is = inl is
  failed_entries (Some version) None f hex every file is = inl is
  failed_entries (Some version) (Some script) None hex every file is = inl is
  failed_entries (Some version) (Some None) (Some f) hex every file is = is
  failed_entries (Some version) (Some (Some dom)) (Some formats.Text) hex every file is = is
  failed_entries (Some version) (Some (Some dom)) (Some formats.Json) hex every file is = inl is

  failed_read : (mode : Mode) (value : List ℕ → Option (List ℕ)) → failed ≡ failed_mode mode → FailedFor (read mode value) failed
  failed_read modes.Play value is = failed_play _ _ _ _ is
  failed_read modes.Run value is = failed_run _ _ _ _ is
  failed_read modes.Explore value is = failed_explore _ _ _ _ is
  failed_read modes.Policy value is = failed_list _ _ _ is
  failed_read modes.Rules value is = is
  failed_read modes.Check value is = failed_check _ _ _ _ _ is
  failed_read modes.Why value is = failed_why _ _ _ _ _ is
  failed_read modes.Flow value is = failed_flow _ _ _ _ _ _ is
  failed_read modes.Entries value is = failed_entries _ _ _ _ _ _ is

  failed_either : (mode : Mode) → failed ≡ failed_mode mode → (failed ≡ Unknown) ⊎ (failed ≡ No)
  failed_either modes.Play is = inr is
  failed_either modes.Run is = inr is
  failed_either modes.Explore is = inl is
  failed_either modes.Policy is = inr is
  failed_either modes.Rules is = inl is
  failed_either modes.Check is = inl is
  failed_either modes.Why is = inl is
  failed_either modes.Flow is = inl is
  failed_either modes.Entries is = inl is

  failed_of : (mode : Mode) (line : Line) → failed ≡ failed_mode mode → FailedFor (asked_of mode line) failed
  failed_of mode (gives given) is = failed_read mode (value_given given) is
  failed_of mode asks_help is = failed_either mode is
  failed_of mode wrong is = failed_either mode is

  failed_here : (b : Bool) (one other : Request) → FailedFor one failed → FailedFor other failed → FailedFor (cond b one other) failed
  failed_here true one other a c = a
  failed_here false one other a c = c

  failed_none : (w : Word) → failed ≡ No → FailedFor (asked_of_none w) failed
  failed_none mark is = inr is
  failed_none (long name None) is = failed_here (bytes_eq (codes "help") name) _ _ (inr is) (failed_here (bytes_eq (codes "version") name) _ _ (inr is) (inr is))
  failed_none (long name (Some value)) is = inr is
  failed_none (short letter) is = failed_here (104 == letter) _ _ (inr is) (failed_here (86 == letter) _ _ (inr is) (inr is))
  failed_none plain is = inr is

  failed_by : (mode : Option Mode) (word : List ℕ) (rest : List (List ℕ)) → failed ≡ failed_command mode → FailedFor (request_by mode word rest) failed
  failed_by None word rest is = failed_none (usage_word word) is
  failed_by (Some mode) word rest is = failed_of mode (line (usage_of mode) rest) is

failed_in_words : (words : List (List ℕ)) (failed : Outcome) → failed ≡ failed_word (first_word words) → FailedFor (request_in_words words) failed
failed_in_words [] failed is = inr is
failed_in_words (word ∷ rest) failed is = failed_by failed (mode_of word) word rest is

-- a flag stays no command
flag_mode : (word : List ℕ) (b : Bool) → bytes_eq word (codes "-v") ≡ b → mode_of (long_flag word) ≡ mode_of word
flag_mode word true e = rw e (ap mode_of (sym ((bytes_eq-Decides word (codes "-v")).0 e)))
flag_mode word false e = rw e refl

long_mode : (marked : Bool) (word : List ℕ) → mode_of (long_word marked word) ≡ mode_of word
long_mode true word = refl
long_mode false word = flag_mode word (bytes_eq word (codes "-v")) refl

help_mode : (word : List ℕ) → bytes_eq word (codes "help") ≡ true → mode_of word ≡ None
help_mode word e = ap mode_of ((bytes_eq-Decides word (codes "help")).0 e)

-- the word where a command is expected becomes the first
module _ (program : List ℕ) where
  abbrev first_long : List (List ℕ) → Option (List ℕ)
  first_long words = first_word (drop 1 (with_long_flags words))

  first_failed : (word : List ℕ) (rest : List (List ℕ)) → failed_word (first_long (program ∷ (word ∷ rest))) ≡ failed_word (Some word)
  first_failed word rest = ap failed_command (long_mode _ word)

  help_words : (word : List ℕ) (rest : List (List ℕ)) → is_help word ≡ true → failed_word (first_long (help_first program rest)) ≡ failed_word (first_or word rest)
  help_words word [] h = first_failed (codes "--help") [] ∙ ap failed_command (sym (help_mode word h))
  help_words word (next ∷ rest) h = first_failed next (codes "--help" ∷ rest)

  more_words : (word next : List ℕ) (rest : List (List ℕ)) (a b : Bool) → is_verbose word ≡ a → is_help next ≡ b
      → failed_word (first_long (flag_behind program word (next ∷ rest))) ≡ failed_word (word_behind word (next ∷ rest))
  more_words word next rest true true v h = rw (v, h) (help_words next rest h)
  more_words word next rest true false v h = rw (v, h) (first_failed next (word ∷ rest))
  more_words word next rest false b v h = rw v (first_failed word (next ∷ rest))

  flag_words : (word : List ℕ) (rest : List (List ℕ)) → failed_word (first_long (flag_behind program word rest)) ≡ failed_word (word_behind word rest)
  flag_words word [] = first_failed word []
  flag_words word (next ∷ rest) = more_words word next rest (is_verbose word) (is_help next) refl refl

  any_words : (word : List ℕ) (rest : List (List ℕ)) (b : Bool) → is_help word ≡ b
      → failed_word (first_long (command_first (program ∷ (word ∷ rest)))) ≡ failed_word (leading_word (program ∷ (word ∷ rest)))
  any_words word rest true h = rw h (help_words word rest h)
  any_words word rest false h = rw h (flag_words word rest)

leading_long : (words : List (List ℕ)) → failed_word (first_word (drop 1 (with_long_flags (command_first words)))) ≡ failed_word (leading_word words)
leading_long [] = refl
leading_long (program ∷ []) = refl
leading_long (program ∷ (word ∷ rest)) = any_words program word rest (is_help word) refl

-- claims that become one option leave the command first
second_of : (b : Bool) (one other : List (List ℕ)) (word : List ℕ) → first_word (drop 1 one) ≡ Some word → first_word (drop 1 other) ≡ Some word
    → first_word (drop 1 (if b then one else other)) ≡ Some word
second_of true one other word first second = first
second_of false one other word first second = second

claims_behind : (words : List (List ℕ)) → first_word (drop 1 (with_claims words)) ≡ first_word (drop 1 words)
claims_behind [] = refl
claims_behind (program ∷ []) = refl
claims_behind (program ∷ (word ∷ rest)) =
    let all = words_ended (words_taken no_words rest) in
    second_of (bytes_eq word (codes "explore")) (words_joined program word rest) (program ∷ (word ∷ rest)) word
    (second_of all.has_several (program ∷ (word ∷ ((codes "--claims=" ++ all.text) ∷ all.others))) (program ∷ (word ∷ rest)) word refl refl) refl

leading : (words : List (List ℕ)) → failed_word (first_word (drop 1 (plain_words words))) ≡ failed_word (leading_word words)
leading words = ap failed_word (claims_behind (with_long_flags (command_first words))) ∙ leading_long words

-- the same for the words that were made of them
pub made_first : (words spelled : List (List ℕ)) (failed : Outcome) → failed ≡ failed_word (leading_word words) → spelled ≡ plain_words words → failed ≡ failed_word (first_word (drop 1 spelled))
made_first words spelled failed is made = is ∙ sym (leading words) ∙ ap (λ (ws : List (List ℕ)). failed_word (first_word (drop 1 ws))) (sym made)

-- no memory was there for the words
pub without_memory : (words : List (List ℕ)) (width : Option ℕ) (file : List ℕ → Option (List ℕ)) (input old : Option (List ℕ)) (failed outcome : Outcome) → failed ≡ failed_word (leading_word words) → outcome ≡ failed
    → Obeys (request_in_words (drop 1 (plain_words words))) (failed_word (leading_word words)) width file input old old outcome
without_memory words width file input old failed outcome is same =
    out_of_memory (request_in_words (drop 1 (plain_words words))) (failed_word (leading_word words)) width file input old old outcome
    (failed_in_words (drop 1 (plain_words words)) (failed_word (leading_word words)) (sym (leading words))) (same ∙ is) (keeps_same old)

-- the words that were made of a line were obeyed
pub obeyed_plain : (words spelled : List (List ℕ)) (failed same : Outcome) (width : Option ℕ) (file : List ℕ → Option (List ℕ)) (input old new : Option (List ℕ)) (outcome : Outcome) → spelled ≡ words → failed ≡ same
    → Obeys (request_in_words (drop 1 spelled)) failed width file input old new outcome → Obeys (request_in_words (drop 1 words)) same width file input old new outcome
obeyed_plain words spelled failed same width file input old new outcome is of obeys =
    subst (λ (f : Outcome). Obeys (request_in_words (drop 1 words)) f width file input old new outcome) of
    (subst (λ (ws : List (List ℕ)). Obeys (request_in_words (drop 1 ws)) failed width file input old new outcome) is obeys)

-- a command is refused only where memory is
by_memory : (request : Request) (width : Option ℕ) (file : List ℕ → Option (List ℕ)) (input old new : Option (List ℕ)) (error : Error) (failed outcome : Outcome) → FailedFor request failed → kind_of error ≡ OutOfMemory → FitsKind failed (kind_of error) old new outcome
    → Obeys request failed width file input old new outcome
by_memory request width file input old new error failed outcome for memory fits =
    out_of_memory request failed width file input old new outcome for (fits.memory memory) (silent failed _ OutOfMemory old new outcome fits memory (λ q. cc) (λ q. cc))

wrong_line : (other : ErrorKind) (width : Option ℕ) (file : List ℕ → Option (List ℕ)) (input old new : Option (List ℕ)) (error : Error) (failed outcome : Outcome) → kind_of error ≡ other → (other ≡ OutOfMemory → ⊥) → (other ≡ DisplayHelp → ⊥) → (other ≡ DisplayVersion → ⊥)
    → FitsKind failed (kind_of error) old new outcome → Obeys nothing failed width file input old new outcome
wrong_line other width file input old new error failed outcome is memory help version fits =
    (inl (wrong_one failed _ other old new outcome fits is memory help version), silent failed _ other old new outcome fits is help version)

-- it was refused
pub refused : (request : Request) (width : Option ℕ) (file : List ℕ → Option (List ℕ)) (input old new : Option (List ℕ)) (error : Error) (failed outcome : Outcome) → FailedFor request failed → HasKind (refusals request) error → FitsKind failed (kind_of error) old new outcome
    → Obeys request failed width file input old new outcome
refused (to_play audited verbose format name) width file input old new error failed outcome for (inl memory) fits = by_memory (to_play audited verbose format name) width file input old new error failed outcome for memory fits
refused (to_play audited verbose format name) width file input old new error failed outcome for (inr none) fits = absurd none
refused (to_run audited verbose format name) width file input old new error failed outcome for (inl memory) fits = by_memory (to_run audited verbose format name) width file input old new error failed outcome for memory fits
refused (to_run audited verbose format name) width file input old new error failed outcome for (inr none) fits = absurd none
refused (to_explore sought format states name) width file input old new error failed outcome for (inl memory) fits = by_memory (to_explore sought format states name) width file input old new error failed outcome for memory fits
refused (to_explore sought format states name) width file input old new error failed outcome for (inr none) fits = absurd none
refused (to_find_text given format states name) width file input old new error failed outcome for (inl memory) fits = by_memory (to_find_text given format states name) width file input old new error failed outcome for memory fits
refused (to_find_text given format states name) width file input old new error failed outcome for (inr none) fits = absurd none
refused (to_list verbose format name) width file input old new error failed outcome for (inl memory) fits = by_memory (to_list verbose format name) width file input old new error failed outcome for memory fits
refused (to_list verbose format name) width file input old new error failed outcome for (inr none) fits = absurd none
refused (to_tell_rules name) width file input old new error failed outcome for (inl memory) fits = by_memory (to_tell_rules name) width file input old new error failed outcome for memory fits
refused (to_tell_rules name) width file input old new error failed outcome for (inr none) fits = absurd none
refused (to_check script format name more) width file input old new error failed outcome for (inl memory) fits = by_memory (to_check script format name more) width file input old new error failed outcome for memory fits
refused (to_check script format name more) width file input old new error failed outcome for (inr none) fits = absurd none
refused (to_check_never never format name more) width file input old new error failed outcome for (inl memory) fits = by_memory (to_check_never never format name more) width file input old new error failed outcome for memory fits
refused (to_check_never never format name more) width file input old new error failed outcome for (inr none) fits = absurd none
refused (to_explain source target permission each name) width file input old new error failed outcome for (inl memory) fits = by_memory (to_explain source target permission each name) width file input old new error failed outcome for memory fits
refused (to_explain source target permission each name) width file input old new error failed outcome for (inr none) fits = absurd none
refused (to_explain_lines each name) width file input old new error failed outcome for (inl memory) fits = by_memory (to_explain_lines each name) width file input old new error failed outcome for memory fits
refused (to_explain_lines each name) width file input old new error failed outcome for (inr none) fits = absurd none
refused (to_show_flow script format source target trusted name) width file input old new error failed outcome for (inl memory) fits = by_memory (to_show_flow script format source target trusted name) width file input old new error failed outcome for memory fits
refused (to_show_flow script format source target trusted name) width file input old new error failed outcome for (inr none) fits = absurd none
refused (to_tell_entries version hex every script format name) width file input old new error failed outcome for (inl memory) fits = by_memory (to_tell_entries version hex every script format name) width file input old new error failed outcome for memory fits
refused (to_tell_entries version hex every script format name) width file input old new error failed outcome for (inr none) fits = absurd none
refused for_help width file input old new error failed outcome for (inl memory) fits = by_memory for_help width file input old new error failed outcome for memory fits
refused for_help width file input old new error failed outcome for (inr (inl help)) fits = inl (fits.help help)
refused for_help width file input old new error failed outcome for (inr (inr none)) fits = absurd none
refused for_version width file input old new error failed outcome for (inl memory) fits = by_memory for_version width file input old new error failed outcome for memory fits
refused for_version width file input old new error failed outcome for (inr (inl version)) fits = inl (fits.version version)
refused for_version width file input old new error failed outcome for (inr (inr none)) fits = absurd none
refused nothing width file input old new error failed outcome for (inl memory) fits = by_memory nothing width file input old new error failed outcome for memory fits
refused nothing width file input old new error failed outcome for (inr (inl e)) fits = wrong_line UnknownArgument width file input old new error failed outcome e (λ q. cc) (λ q. cc) (λ q. cc) fits
refused nothing width file input old new error failed outcome for (inr (inr (inl e))) fits = wrong_line InvalidSubcommand width file input old new error failed outcome e (λ q. cc) (λ q. cc) (λ q. cc) fits
refused nothing width file input old new error failed outcome for (inr (inr (inr (inl e)))) fits = wrong_line MissingSubcommand width file input old new error failed outcome e (λ q. cc) (λ q. cc) (λ q. cc) fits
refused nothing width file input old new error failed outcome for (inr (inr (inr (inr (inl e))))) fits = wrong_line TooManyValues width file input old new error failed outcome e (λ q. cc) (λ q. cc) (λ q. cc) fits
refused nothing width file input old new error failed outcome for (inr (inr (inr (inr (inr (inl e)))))) fits = wrong_line ArgumentConflict width file input old new error failed outcome e (λ q. cc) (λ q. cc) (λ q. cc) fits
refused nothing width file input old new error failed outcome for (inr (inr (inr (inr (inr (inr (inl e))))))) fits = wrong_line InvalidValue width file input old new error failed outcome e (λ q. cc) (λ q. cc) (λ q. cc) fits
refused nothing width file input old new error failed outcome for (inr (inr (inr (inr (inr (inr (inr (inl e)))))))) fits = wrong_line MissingRequiredArgument width file input old new error failed outcome e (λ q. cc) (λ q. cc) (λ q. cc) fits
refused nothing width file input old new error failed outcome for (inr (inr (inr (inr (inr (inr (inr (inr none)))))))) fits = absurd none

-- the same by the words
pub refused_words : (words : List (List ℕ)) (width : Option ℕ) (file : List ℕ → Option (List ℕ)) (input old new : Option (List ℕ)) (error : Error) (failed outcome : Outcome) → failed ≡ failed_word (first_word words) → HasKind (refusals (request_in_words words)) error
    → FitsKind failed (kind_of error) old new outcome → Obeys (request_in_words words) failed width file input old new outcome
refused_words words width file input old new error failed outcome is has fits = refused (request_in_words words) width file input old new error failed outcome (failed_in_words words failed is) has fits

-- a script was explored as it was asked
seeks_asked : (asked : SearchAsked) (sought : Sought) (format : Format) (states : ℕ) (name : Option (List ℕ)) (input : List ℕ) (old new : Option (List ℕ)) (r : Ending) → IsAskedFor sought states (explore_format format) asked
    → DoesOnFile (Searches asked) name input old new r → DoesOnFile (Seeks sought format states) name input old new r
seeks_asked asked sought format states name input old new r is (inl does) = inl (asked, is, does)
seeks_asked asked sought format states name input old new r is (inr unopened) = inr unopened

pub sought_so : (asked : SearchAsked) (sought : Sought) (format : Format) (states : ℕ) (name known old new : Option (List ℕ)) (outcome : Outcome) → IsAskedFor sought states (explore_format format) asked
    → Works (Searches asked) Unknown name known old new outcome → Works (Seeks sought format states) Unknown name known old new outcome
sought_so asked sought format states name None old new outcome asks works = tt
sought_so asked sought format states name (Some bytes) old new outcome asks (r, is, inl does) = (r, is, inl (seeks_asked asked sought format states name bytes old new r asks does))
sought_so asked sought format states name (Some bytes) old new outcome asks (r, is, inr none) = (r, is, inr none)
