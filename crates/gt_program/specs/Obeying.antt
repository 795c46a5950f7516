-- The result of a command line: the output, and the exit status.
use Rattle.std.specs.Prelude.{◌≡◌, ◌⊎◌, ◌≤◌, ℕ, Bool, true, false, List, [], ◌∷◌, Option, Some, None, Result, Ok, Err}
use Rattle.std.specs.Prelude.{if◌then◌else◌, is_some, length, take}
use Rattle.std.specs.Borrow.{Bor}
use Rattle.std.specs.Str.{IsUtf8}
use Rattle.std.specs.Str.Lines.{lines as lines_in}
use Rattle.gt_program.specs.Prelude.{Keeps, ErrorKind, DisplayHelp, DisplayVersion, OutOfMemory, Format, Mode, Request}
use Rattle.gt_program.specs.Prelude.{to_check, to_check_never, to_explain, to_explain_lines, to_explore, to_find_text}
use Rattle.gt_program.specs.Prelude.{to_list, to_play, to_run, to_tell_entries, to_tell_rules, for_help, for_version}
use Rattle.gt_program.specs.Prelude.{nothing, to_show_flow, mode_of, Sought, all_texts, a_claim, one_script, one_trace}
use Rattle.gt_program.specs.Prelude.{one_diagram, all_scripts, several_claims, ExploreOptions, ExploreFormat}
use Rattle.gt_program.specs.Prelude.{ClaimsFault}
use Rattle.gt_program.specs.Prelude.{ClaimsExplored, NamedExplored, SearchAsked, Moment, Moves, One, Races, Several}
use Rattle.gt_program.specs.Prelude.{Together, Summarized, SummaryOptions, SummaryRequest, Answers, Difference}
use Rattle.gt_program.specs.Prelude.{a_summary, a_difference, a_state_claim, all_races, one_race, RacesExplored}
use Rattle.gt_program.specs.Prelude.{RaceOptions, RaceRequest, ReadsAsRun, Traced, TraceOptions}
use Rattle.gt_program.specs.Prelude.{TraceRequest, Diagram, Trace}
use Rattle.gt_explore_by_choice.specs.Exploring.{ExploresByChoices}
use Rattle.gt_explore_by_choice.specs.declared.fault.UnitedFault.{UnitedFault}
use Rattle.gt_explore_by_choice.specs.declared.fault.UnitedFault.TheVariants as united_faults
use Rattle.gt_explore_choices.specs.Kinds.{first_choice, marked_lines}
use Rattle.gt_explore_choices.specs.declared.fault.ChoicesFault.TheVariants.{Unanswered}
use Rattle.gt_explore_choices.specs.declared.fault.ChoicesFault.TheVariants as choices_faults
use Rattle.gt_explore_faults.specs.declared.claims.ClaimsFault.TheVariants as claims_faults
use Rattle.gt_explore_faults.specs.declared.fault.ExploreFault.TheVariants as explore_faults
use Rattle.gt_explore_moments.specs.Exploring.{MomentExplored}
use Rattle.gt_explore_moments.specs.declared.asking.MomentFault.{MomentFault}
use Rattle.gt_explore_moments.specs.declared.asking.MomentFault.TheVariants as moment_faults
use Rattle.gt_explore_moments.specs.declared.asking.MomentOptions.{MomentOptions}
use Rattle.gt_explore_racing.specs.declared.asking.RaceRequest.TheVariants as race_requests
use Rattle.gt_explore_precedence.specs.Exploring.{PrecedingExplored}
use Rattle.gt_explore_precedence.specs.Terms.{has_precedence}
use Rattle.gt_explore_precedence.specs.declared.exploring.PrecedenceOptions.{PrecedenceOptions}
use Rattle.gt_script_runs.specs.Faults.{read_fault}
use Rattle.gt_text.specs.declared.fault.ReadFault.{ReadFault}
use Rattle.gt_text.specs.Texts.{IsBadAt}
use Rattle.gt_text.specs.declared.streams.TheConstants.{READ_LIMIT}
use Rattle.gt_types.specs.declared.limits.TheConstants.{LONGEST_TEXT}
use Rattle.gt_program.specs.Prelude.{ExploreRequest, Verdict, Holds, Fails, Undecided, Outcome, No, Unknown, Yes}
use Rattle.gt_file_commands.specs.Flows.{flow_format}
use Rattle.gt_command_reasons.specs.Names.{shown_name}
use Rattle.gt_file_commands.specs.Rules.{PrintsRules}
use Rattle.gt_file_commands.specs.Working.{AnswersDump, AnswersAboutFile, AnswersFlow, AnswersQuestion, ChecksAll}
use Rattle.gt_file_commands.specs.Working.{ChecksAs}
use Rattle.gt_file_commands.specs.Working.{ChecksIn, ChecksNever, OutputEffect, Doing, Ending, Lists, Plays, WithFile, Works}
use Rattle.gt_file_commands.specs.Working.{known_text}
use Rattle.gt_file_commands.specs.declared.failure.Failure.{Failure}
use Rattle.gt_file_commands.specs.declared.failure.Failure.TheVariants as failures
use Rattle.gt_run_command.specs.Runs.{RunsDomains}
use Rattle.gt_command_line.specs.declared.invocation.Format.TheVariants.{Text, Json}
use Rattle.gt_command_line.specs.declared.invocation.Mode.TheVariants as modes
use Rattle.gt_explore_answers.specs.declared.asking.ExploreFormat.TheVariants as explore_formats
use Rattle.gt_explore_answers.specs.declared.asking.ExploreRequest.TheVariants as explore_requests
use Rattle.std.specs.declared.io.ErrorKind.{ErrorKind as IoErrorKind}
use Rattle.std.specs.declared.io.ErrorKind.TheVariants as io_kinds

-- The outcome of a failure: no for a script that is not played or run to its end and for a policy that is not listed,
-- and unknown for the other commands.
abbrev pub failed_mode : Mode → Outcome
failed_mode modes.Play = No
failed_mode modes.Run = No
failed_mode modes.Explore = Unknown
failed_mode modes.Policy = No
failed_mode modes.Rules = Unknown
failed_mode modes.Check = Unknown
failed_mode modes.Why = Unknown
failed_mode modes.Flow = Unknown
failed_mode modes.Entries = Unknown

-- the same for a command line with this command, or none
abbrev pub failed_command : Option Mode → Outcome
failed_command None = No
failed_command (Some mode) = failed_mode mode

-- the first of the words
abbrev pub first_word : List (List ℕ) → Option (List ℕ)
first_word [] = None
first_word (word ∷ rest) = Some word

-- the same for a command line with this word where a command is expected
abbrev pub failed_word : Option (List ℕ) → Outcome
failed_word None = No
failed_word (Some word) = failed_command (mode_of word)

-- a verdict as an answer: yes if it holds, no if it does not, and no answer if it is not decided
abbrev pub verdict_outcome : Verdict → Outcome
verdict_outcome Holds = Yes
verdict_outcome Fails = No
verdict_outcome Undecided = Unknown

-- what was written for a verdict
abbrev pub AnswersVerdict : {F : Type 0} → (Result Verdict F → Type 0) → Outcome → Type 0
AnswersVerdict Wrote Yes = Wrote (Ok Holds)
AnswersVerdict Wrote No = Wrote (Ok Fails)
AnswersVerdict Wrote Unknown = Wrote (Ok Undecided)

-- what was written for a summary; its faults are those of a search
abbrev pub SummaryExplored : SummaryOptions → List ℕ → Option (List ℕ) → Option (List ℕ) → Result Verdict ClaimsFault
    → Type 0
SummaryExplored asked input old new (Ok verdict) = Summarized asked (ReadsAsRun input) old new (Ok verdict)
SummaryExplored asked input old new (Err (claims_faults.Explore fault)) =
    Summarized asked (ReadsAsRun input) old new (Err fault)
SummaryExplored asked input old new (Err (claims_faults.Kind number)) = ⊥
SummaryExplored asked input old new (Err (claims_faults.Term claim number fault)) = ⊥
SummaryExplored asked input old new (Err (claims_faults.Repeated first second)) = ⊥
SummaryExplored asked input old new (Err (claims_faults.Precedence fault)) = ⊥
SummaryExplored asked input old new (Err claims_faults.Astray) = ⊥

-- what was written for the moves that lead to a text; its faults are those of a search
abbrev pub MovesExplored : TraceOptions → List ℕ → Option (List ℕ) → Option (List ℕ) → Result Verdict ClaimsFault
    → Type 0
MovesExplored asked input old new (Ok verdict) = Traced asked (ReadsAsRun input) old new (Ok verdict)
MovesExplored asked input old new (Err (claims_faults.Explore fault)) =
    Traced asked (ReadsAsRun input) old new (Err fault)
MovesExplored asked input old new (Err (claims_faults.Kind number)) = ⊥
MovesExplored asked input old new (Err (claims_faults.Term claim number fault)) = ⊥
MovesExplored asked input old new (Err (claims_faults.Repeated first second)) = ⊥
MovesExplored asked input old new (Err (claims_faults.Precedence fault)) = ⊥
MovesExplored asked input old new (Err claims_faults.Astray) = ⊥

-- what was written about races; its faults are those of a search
abbrev pub RacesSearched : RaceOptions → List ℕ → Option (List ℕ) → Option (List ℕ) → Result Verdict ClaimsFault
    → Type 0
RacesSearched asked input old new (Ok verdict) = RacesExplored asked (ReadsAsRun input) old new (Ok verdict)
RacesSearched asked input old new (Err (claims_faults.Explore fault)) =
    RacesExplored asked (ReadsAsRun input) old new (Err fault)
RacesSearched asked input old new (Err (claims_faults.Kind number)) = ⊥
RacesSearched asked input old new (Err (claims_faults.Term claim number fault)) = ⊥
RacesSearched asked input old new (Err (claims_faults.Repeated first second)) = ⊥
RacesSearched asked input old new (Err (claims_faults.Precedence fault)) = ⊥
RacesSearched asked input old new (Err claims_faults.Astray) = ⊥

-- the claim of a request whose expression has terms of order
abbrev pub precedence_in : ℕ → ExploreFormat → ExploreRequest → Option PrecedenceOptions
precedence_in states format (explore_requests.Decide claim expression) =
    if has_precedence expression.now
    then Some (record { claim = claim; expression = expression; states = states; format = format })
    else None
precedence_in states format explore_requests.Texts = None
precedence_in states format (explore_requests.Has given) = None
precedence_in states format (explore_requests.Witness number) = None
precedence_in states format explore_requests.Witnesses = None

abbrev pub precedence_asked : ExploreOptions → Option PrecedenceOptions
precedence_asked asked = precedence_in asked.states asked.format asked.request

-- what was written for one request: for a claim with terms of order, what is written about the runs in that order; bytes
-- that are no text are no script either
abbrev pub OneBy : Option PrecedenceOptions → ExploreOptions → List ℕ → Option (List ℕ) → Option (List ℕ)
    → Result Verdict ClaimsFault → Type 0
OneBy None asked input old new r = NamedExplored asked input old new r
OneBy (Some claim) asked input old new r =
    PrecedingExplored input claim old new r
    ⊎ (((line : ℕ) × IsBadAt (take READ_LIMIT input) line) × NamedExplored asked input old new r)

abbrev pub OneExplored : ExploreOptions → List ℕ → Option (List ℕ) → Option (List ℕ) → Result Verdict ClaimsFault → Type 0
OneExplored asked input old new r = OneBy (precedence_asked asked) asked input old new r

-- the ending of an exploration of texts with this result
abbrev pub explored_ending : Result Verdict ClaimsFault → Ending
explored_ending (Ok verdict) = Ok (verdict_outcome verdict)
explored_ending (Err fault) = Err (failures.Explore fault)

-- texts are explored, and this is written by the result; the answer is the verdict
abbrev pub SearchesTexts : (Result Verdict ClaimsFault → Type 0) → Ending → Type 0
SearchesTexts Wrote (Ok outcome) = AnswersVerdict Wrote outcome
SearchesTexts Wrote (Err (failures.Explore fault)) = Wrote (Err fault)
SearchesTexts Wrote (Err failure) = ⊥

-- the failure for a fault of a claim about what entries show
abbrev pub moment_failure : MomentFault → Failure
moment_failure (moment_faults.Claim fault) = failures.State fault
moment_failure (moment_faults.Play fault) = failures.Explore (claims_faults.Explore (explore_faults.Play fault))
moment_failure (moment_faults.Texts fault) = failures.Explore (claims_faults.Explore (explore_faults.Texts fault))

-- a claim about what entries show is decided; the answer is the verdict
abbrev pub SearchesMoment : MomentOptions → Doing
SearchesMoment asked input old new (Ok outcome) =
    AnswersVerdict (MomentExplored asked (ReadsAsRun input) old new) outcome
SearchesMoment asked input old new (Err failure) =
    (fault : MomentFault) × (failure ≡ moment_failure fault)
    × MomentExplored asked (ReadsAsRun input) old new (Err fault)

-- a text without choices is explored, for what is asked: one request, in which calls may be named, several claims, a
-- summary, moves, a claim about what entries show, or races
abbrev pub SearchesPlain : SearchAsked → Doing
SearchesPlain (One asked) input old new r = SearchesTexts (OneExplored asked input old new) r
SearchesPlain (Several asked) input old new r = SearchesTexts (ClaimsExplored asked input old new) r
SearchesPlain (Together asked) input old new r = SearchesTexts (SummaryExplored asked input old new) r
SearchesPlain (Moves asked) input old new r = SearchesTexts (MovesExplored asked input old new) r
SearchesPlain (Moment asked) input old new r = SearchesMoment asked input old new r
SearchesPlain (Races asked) input old new r = SearchesTexts (RacesSearched asked input old new) r

-- the failure for a fault of a script with choices
abbrev pub failure_united : UnitedFault → Failure
failure_united (united_faults.Claims fault) = failures.Explore fault
failure_united (united_faults.Choices fault) = failures.Choices fault

-- a request about a script with choices is answered; the answer is the verdict
abbrev pub SearchesOne : ExploreOptions → Doing
SearchesOne asked source old new (Ok outcome) = AnswersVerdict (ExploresByChoices source asked old new) outcome
SearchesOne asked source old new (Err failure) =
    (fault : UnitedFault) × (failure ≡ failure_united fault) × ExploresByChoices source asked old new (Err fault)

-- what is asked has no answer for such a script
abbrev pub HasNoAnswer : Option (List ℕ) → Option (List ℕ) → Ending → Type 0
HasNoAnswer old new r = (r ≡ Err (failures.Choices Unanswered)) × Keeps old new

-- a request about a script with choices, which has no answer if it is a claim with terms of order
abbrev pub SearchesWithoutOrder : Option PrecedenceOptions → ExploreOptions → Doing
SearchesWithoutOrder None asked source old new r = SearchesOne asked source old new r
SearchesWithoutOrder (Some claim) asked source old new r = HasNoAnswer old new r

-- the same for several claims, summaries, moves, claims about what entries show and races, which have no answer for such
-- a script
abbrev pub SearchesByChoices : SearchAsked → Doing
SearchesByChoices (One asked) source old new r = SearchesWithoutOrder (precedence_asked asked) asked source old new r
SearchesByChoices (Several asked) source old new r = HasNoAnswer old new r
SearchesByChoices (Together asked) source old new r = HasNoAnswer old new r
SearchesByChoices (Moves asked) source old new r = HasNoAnswer old new r
SearchesByChoices (Moment asked) source old new r = HasNoAnswer old new r
SearchesByChoices (Races asked) source old new r = HasNoAnswer old new r

-- a line of the text is a choice: `maybe` or `leave`
abbrev pub has_choice_line : List ℕ → Bool
has_choice_line text = is_some (first_choice 1 (marked_lines (lines_in text)))

-- a line of the text is a choice, and the text is not longer than a script may be
pub record HasChoice (input : List ℕ) : Type 0 where
  pub few : length input ≤ LONGEST_TEXT
  pub utf8 : IsUtf8 input
  pub line : has_choice_line input ≡ true

-- this text was returned, if a line of it is a choice
abbrev pub IsWithChoice : List ℕ → Option (Bor (List ℕ)) → Type 0
IsWithChoice text (Some found) = (found.now ≡ text) × (has_choice_line text ≡ true)
IsWithChoice text None = has_choice_line text ≡ false

abbrev pub IsSourceWithChoice : List ℕ → Option (Bor (List ℕ)) → Type 0
IsSourceWithChoice input (Some source) = (source.now ≡ input) × HasChoice input
IsSourceWithChoice input None = HasChoice input → ⊥

-- a text is explored, by its choices if it has some
abbrev pub SearchesText : SearchAsked → Doing
SearchesText asked input old new r =
    (HasChoice input × SearchesByChoices asked input old new r)
    ⊎ ((HasChoice input → ⊥) × SearchesPlain asked input old new r)

-- the failure that the text was not read
abbrev pub unread_failure : ReadFault → Failure
unread_failure error = failures.Explore (claims_faults.Explore (explore_faults.Play (read_fault error)))

-- the text was not read, or an allocation failed before it was known whether it has choices
abbrev pub IsUnsearched : Ending → Type 0
IsUnsearched r =
    ((error : ReadFault) × (r ≡ Err (unread_failure error))) ⊎ (r ≡ Err (failures.Choices choices_faults.Memory))

-- a text is explored; or not, and then nothing is written
abbrev pub Searches : SearchAsked → Doing
Searches asked input old new r = SearchesText asked input old new r ⊎ (IsUnsearched r × Keeps old new)

-- help or the version: it was written, or not
abbrev pub IsHelped : Outcome → Type 0
IsHelped outcome = (outcome ≡ Yes) ⊎ (outcome ≡ No)

-- A command line that is not obeyed. After a failed allocation the outcome is `failed`. For help and the version it is
-- yes or no, by whether they were written. For any other line it is unknown. Only help and the version are written.
pub record FitsKind (failed : Outcome) (kind : ErrorKind) (old new : Option (List ℕ)) (outcome : Outcome) : Type 0
  where
    pub memory : kind ≡ OutOfMemory → outcome ≡ failed
    pub help : kind ≡ DisplayHelp → IsHelped outcome
    pub version : kind ≡ DisplayVersion → IsHelped outcome
    pub wrong : (kind ≡ OutOfMemory → ⊥) → (kind ≡ DisplayHelp → ⊥) → (kind ≡ DisplayVersion → ⊥) → outcome ≡ Unknown
    pub silent : (kind ≡ DisplayHelp → ⊥) → (kind ≡ DisplayVersion → ⊥) → Keeps old new

-- for words that could not be read the outcome is no if an allocation failed, and otherwise unknown
abbrev pub FitsUnread : IoErrorKind → Outcome → Type 0
FitsUnread kind outcome =
    (kind ≡ io_kinds.OutOfMemory → outcome ≡ No) × ((kind ≡ io_kinds.OutOfMemory → ⊥) → outcome ≡ Unknown)

-- the request is for what is sought
abbrev pub IsRequestFor : Sought → ExploreRequest → Type 0
IsRequestFor sought explore_requests.Texts = sought ≡ all_texts
IsRequestFor sought (explore_requests.Decide claim expression) = sought ≡ a_claim claim expression.now
IsRequestFor sought (explore_requests.Has given) = ⊥
IsRequestFor sought (explore_requests.Witness number) = sought ≡ one_script number
IsRequestFor sought explore_requests.Witnesses = sought ≡ all_scripts

-- the format of an exploration
abbrev pub explore_format : Format → ExploreFormat
explore_format Text = explore_formats.Text
explore_format Json = explore_formats.Json

-- what is sought by a summary
abbrev pub sought_together : SummaryRequest → Sought
sought_together Answers = a_summary
sought_together (Difference one other) = a_difference one other

-- what is sought by moves
abbrev pub sought_moves : TraceRequest → Sought
sought_moves (Trace number) = one_trace number
sought_moves (Diagram number) = one_diagram number

-- what is sought by a request about races
abbrev pub sought_races : RaceRequest → Sought
sought_races race_requests.Lines = all_races
sought_races (race_requests.Witness number) = one_race number

-- this is asked for what is sought, in a format, up to this number of states
abbrev pub IsAskedFor : Sought → ℕ → ExploreFormat → SearchAsked → Type 0
IsAskedFor sought states format (One asked) =
    IsRequestFor sought asked.request × (asked.format ≡ format) × (asked.states ≡ states)
IsAskedFor sought states format (Several asked) =
    (sought ≡ several_claims asked.claims.now) × (asked.format ≡ format) × (asked.states ≡ states)
IsAskedFor sought states format (Together asked) =
    (sought ≡ sought_together asked.request) × (asked.format ≡ format) × (asked.states ≡ states)
IsAskedFor sought states format (Moves asked) =
    (sought ≡ sought_moves asked.request) × (asked.format ≡ format) × (asked.states ≡ states)
IsAskedFor sought states format (Moment asked) =
    (sought ≡ a_state_claim asked.claim.now) × (asked.states ≡ states)
IsAskedFor sought states format (Races asked) =
    (sought ≡ sought_races asked.request) × (asked.states ≡ states)

-- a script is explored so
abbrev pub Seeks : Sought → Format → ℕ → Doing
Seeks sought format states input old new r =
    (asked : SearchAsked) × IsAskedFor sought states (explore_format format) asked × Searches asked input old new r

-- the request is whether this text is one of those of a script
abbrev pub AsksAboutText : List ℕ → ExploreRequest → Type 0
AsksAboutText text explore_requests.Texts = ⊥
AsksAboutText text (explore_requests.Decide claim expression) = ⊥
AsksAboutText text (explore_requests.Has given) = given.now ≡ text
AsksAboutText text (explore_requests.Witness number) = ⊥
AsksAboutText text explore_requests.Witnesses = ⊥

-- a text is sought among those of a script, up to this number of states
abbrev pub SeeksText : List ℕ → Format → ℕ → Doing
SeeksText text format states input old new r =
    (asked : ExploreOptions) × AsksAboutText text asked.request × (asked.format ≡ explore_format format)
    × (asked.states ≡ states) × Searches (One asked) input old new r

-- the text of a file is sought among those of a script
abbrev pub FindsText : List ℕ → Format → ℕ → (List ℕ → Option (List ℕ)) → Option (List ℕ) → Option (List ℕ)
    → OutputEffect
FindsText given format states file input name =
    WithFile (file given) (λ text. Works (SeeksText text format states) Unknown name (known_text file input name))

-- ---- the command line

-- The outcome fits the request, and so does the output: a script was played, run or explored, a text was sought among
-- those of a script, a policy was listed, a policy or a script was checked, or several, a question was answered, or
-- several, a dump was printed, or the rules were, in lines of at most `width`, if there is one. For words that ask for
-- nothing it is help, the version, or nothing, and unknown. After a failed allocation the outcome is that of a failure of
-- the command: for words that ask for nothing it is `failed`.
abbrev pub Obeys : Request → Outcome → Option ℕ → (List ℕ → Option (List ℕ)) → Option (List ℕ) → Option (List ℕ)
    → Option (List ℕ) → Outcome → Type 0
Obeys (to_play audited verbose format name) failed width file input old new outcome =
    Works (Plays format audited) No name (known_text file input name) old new outcome
Obeys (to_run audited verbose format name) failed width file input old new outcome =
    Works (RunsDomains format audited) No name (known_text file input name) old new outcome
Obeys (to_explore sought format states name) failed width file input old new outcome =
    Works (Seeks sought format states) Unknown name (known_text file input name) old new outcome
Obeys (to_find_text given format states name) failed width file input old new outcome =
    FindsText given format states file input name old new outcome
Obeys (to_list verbose format name) failed width file input old new outcome =
    Works (Lists format) No name (known_text file input name) old new outcome
Obeys (to_tell_rules name) failed width file input old new outcome = PrintsRules width name old new outcome
Obeys (to_check script format name more) failed width file input old new outcome =
    ChecksAll (ChecksIn (ChecksAs script) format) file input name more old new outcome
Obeys (to_check_never never format name more) failed width file input old new outcome =
    WithFile (file never) (λ given. ChecksAll (ChecksIn (ChecksNever never given) format) file input name more) old new
    outcome
Obeys (to_explain source target permission each name) failed width file input old new outcome =
    Works (AnswersQuestion each (shown_name name) source target permission) Unknown name (known_text file input name)
    old new outcome
Obeys (to_explain_lines each name) failed width file input old new outcome =
    AnswersAboutFile each name (file name) input old new outcome
Obeys (to_show_flow script format source target trusted name) failed width file input old new outcome =
    Works (AnswersFlow script (flow_format format) source target trusted) Unknown name (known_text file input name)
    old new outcome
Obeys (to_tell_entries version hex every script format name) failed width file input old new outcome =
    Works (AnswersDump version hex every script format) Unknown name (known_text file input name) old new outcome
Obeys for_help failed width file input old new outcome = IsHelped outcome ⊎ ((outcome ≡ Unknown) × Keeps old new)
Obeys for_version failed width file input old new outcome = IsHelped outcome ⊎ ((outcome ≡ Unknown) × Keeps old new)
Obeys nothing failed width file input old new outcome =
    ((outcome ≡ Unknown) ⊎ (outcome ≡ failed)) × Keeps old new
