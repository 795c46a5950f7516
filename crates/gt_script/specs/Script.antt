-- The script that bytes mean, by its policy block and then line by line, or their first fault.
use Rattle.std.specs.Prelude.{◌≡◌, ◌⊎◌, ◌<◌, ◌≤◌, ℕ, ◌+◌, ◌==◌, ◌&&◌, ◌||◌, not, Bool, List, [], ◌∷◌, ◌++◌, length}
use Rattle.std.specs.Prelude.{Option, Some, None, Result, Ok, Err, take, drop, is_none, is_some, ◌^◌, if◌then◌else◌}
use Rattle.gt_script.specs.Prelude.{option_map, IsUtf8, utf8_valid_len, line_after, LONGEST_TEXT, is_taken}
use Rattle.gt_script.specs.Prelude.{domain_fault, DomId, TypeId, DomainConfig, Allowed, type_named, words, number_below}
use Rattle.gt_script.specs.Prelude.{◌>>=◌, line_of, Number, ScriptAction, BodyLine, ScriptCommand, Play, Run}
use Rattle.gt_script.specs.Prelude.{RunAction, TripleLine, DomainLine, ScriptLine, ScriptFaultKind, Limit, Utf8}
use Rattle.gt_script.specs.Prelude.{Syntax, Config, Mode, ScriptFault}
use Rattle.std.specs.Str.Lines.{lines as lines_in}
use Rattle.gt_policy.specs.declared.fault.TokenFault as policy
use Rattle.gt_script.specs.Blocks.{opening, closing, BlockMeans, IsFaultyBlock}
use Rattle.gt_script.specs.Types.{with_type_name}
use Rattle.gt_script.specs.Flags.{flag_number, with_flag_of}
use Rattle.gt_script.specs.Contents.{Contents, empty, with_policy}
use Rattle.gt_script.specs.declared.actions.ScriptAction.TheVariants as script_actions
use Rattle.gt_script.specs.declared.faults.AddError.{AddError}
use Rattle.gt_script.specs.declared.faults.AddError.TheVariants as add_errors
use Rattle.gt_script_lines.specs.declared.body.BodyLine.TheVariants as body_lines
use Rattle.gt_script.specs.declared.tasks.RunAction.TheVariants as run_actions
use Rattle.gt_script_lines.specs.declared.lines.ScriptLine.TheVariants as script_lines

-- a list without elements
abbrev pub is_empty : {X : Type 0} → List X → Bool
is_empty xs = length xs == 0

-- the domain of a line, if its numbers fit
unfoldable pub domain_written : DomainLine → TypeId → Option DomainConfig
domain_written d label = do
  id ← number_below (2 ^ 16) d.id
  frames ← number_below (2 ^ 32) d.frames
  tables ← number_below (2 ^ 32) d.table_frames
  version ← number_below (2 ^ 32) d.version
  Some (record { id = record { 0 = id }; label = label; frames = frames; table_frames = tables; version = version })

-- neither a policy nor a triple
unfoldable pub has_no_rights : Contents → Bool
has_no_rights c = is_none c.policy && is_empty c.triples

-- a line of the body was read
unfoldable pub has_body : Contents → Bool
has_body c = not (is_empty c.steps) || not (is_empty c.tasks)

-- the policy or triples come first, then at most one line `wear`, then domains, then the body
unfoldable pub is_misplaced : Contents → ScriptLine → Bool
is_misplaced c (script_lines.Triple t) = (is_some c.policy || is_some c.wear) || not (is_empty c.domains)
is_misplaced c (script_lines.Wear first) = (has_no_rights c || is_some c.wear) || not (is_empty c.domains)
is_misplaced c (script_lines.Domain d) = has_no_rights c || has_body c
is_misplaced c (script_lines.Body id asks) = is_empty c.domains

-- the contents after a line, or the fault `config`
abbrev pub or_config : Option Contents → Result Contents ScriptFaultKind
or_config (Some c) = Ok c
or_config None = Err Config

-- the script with one more triple
unfoldable pub with_triple : Contents → TripleLine → Result Contents ScriptFaultKind
with_triple c t = or_config (do
  source ← with_type_name c.types t.source
  target ← with_type_name source.0 t.target
  Some (record c {
    types = target.0;
    triples = c.triples
        ++ record { source = source.1; target = target.1; perm = t.perm } ∷ [];
  }))

-- the number of a domain's type, which the policy has to declare; if there is no policy, any name is a type
abbrev pub type_named_in : Option Allowed → List (List ℕ) → List ℕ → Option (List (List ℕ) × TypeId)
type_named_in None types name = with_type_name types name
type_named_in (Some p) types name = option_map (λ id. (types, id)) (type_named p.types name)

-- a script with these names of its types, and the number of one of them
abbrev pub with_type_names : Contents → List (List ℕ) × TypeId → Contents × TypeId
with_type_names c named = (record c { types = named.0 }, named.1)

-- A name has this number as a domain's type, and is added to the names of the
-- script if it is new; `config` if it is not a type.
abbrev pub GivesTypeNumber : Contents → Contents → List ℕ → Result TypeId AddError → Type 0
GivesTypeNumber old new name (Ok id) =
    option_map (with_type_names old) (type_named_in old.policy old.types name) ≡ Some (new, id)
GivesTypeNumber old new name (Err add_errors.Memory) = Unit {0}
GivesTypeNumber old new name (Err (add_errors.Fault kind)) =
    (type_named_in old.policy old.types name ≡ None) × (kind ≡ Config)

-- the script with one more domain, which has no fault after those before it
unfoldable pub with_domain : Contents → DomainLine → Result Contents ScriptFaultKind
with_domain c d = or_config (do
  label ← type_named_in c.policy c.types d.type_name
  domain ← domain_written d label.1
  if is_none (domain_fault c.domains domain)
      then Some (record c { types = label.0; domains = c.domains ++ domain ∷ [] }) else None)

-- the domain with this number, if it is configured
unfoldable pub configured : List DomainConfig → Number → Option DomId
configured domains number = do
  id ← number_below (2 ^ 16) number
  if is_taken domains (record { 0 = id }) then Some (record { 0 = id }) else None

-- what a line of the body is for `play`: an action
unfoldable pub play_action_in : BodyLine → Option ScriptAction
play_action_in (body_lines.Do call) = Some (script_actions.Do call)
play_action_in (body_lines.Begin call) = Some (script_actions.Begin call)
play_action_in (body_lines.Tick most) = Some (script_actions.Tick most)
play_action_in (body_lines.Show gref) = Some (script_actions.Show gref)
play_action_in (body_lines.Tell flag) = None
play_action_in (body_lines.Await flag) = None

-- what a line of the body is for `run`: a whole call, or a flag, by its number among these, that is raised or awaited
unfoldable pub run_action_in : List (List ℕ) → BodyLine → Option RunAction
run_action_in flags (body_lines.Do call) = Some (run_actions.Do call)
run_action_in flags (body_lines.Begin call) = None
run_action_in flags (body_lines.Tick most) = None
run_action_in flags (body_lines.Show gref) = None
run_action_in flags (body_lines.Tell flag) = Some (run_actions.Tell (flag_number flags flag))
run_action_in flags (body_lines.Await flag) = Some (run_actions.Await (flag_number flags flag))

-- the contents after a line, or the fault `mode`
abbrev pub or_mode : Option Contents → Result Contents ScriptFaultKind
or_mode (Some c) = Ok c
or_mode None = Err Mode

-- a script for `play` with one more step, on line n
unfoldable pub with_domain_line : Contents → ℕ → DomId → BodyLine → Result Contents ScriptFaultKind
with_domain_line c n dom asks = or_mode (do
  action ← play_action_in asks
  Some (record c { steps = c.steps ++ record { line = n; dom = dom; action = action } ∷ [] }))

-- a script for `run` with one more task, on line n, whose flag has the next number if it is new
unfoldable pub with_task : Contents → ℕ → DomId → BodyLine → Result Contents ScriptFaultKind
with_task c n dom asks = or_mode (do
  action ← run_action_in (with_flag_of c.flags asks) asks
  Some (record c {
    tasks = c.tasks ++ record { line = n; dom = dom; run_action = action } ∷ [];
    flags = with_flag_of c.flags asks;
  }))

-- a script for this command with one more line of the body
abbrev pub with_asked : ScriptCommand → Contents → ℕ → DomId → BodyLine → Result Contents ScriptFaultKind
with_asked Play c n dom asks = with_domain_line c n dom asks
with_asked Run c n dom asks = with_task c n dom asks

-- the script with one more line of the body, whose domain is configured
unfoldable pub with_body_line : Contents → ℕ → Number → BodyLine → Result Contents ScriptFaultKind
with_body_line c n number asks =
    elim (configured c.domains number) [ None ↦ Err Config | Some dom ↦ with_asked c.command c n dom asks ]

-- the script with line n, which is in its place
abbrev pub with_placed : Contents → ℕ → ScriptLine → Result Contents ScriptFaultKind
with_placed c n (script_lines.Triple t) = with_triple c t
with_placed c n (script_lines.Wear first) = Ok (record c { wear = Some first })
with_placed c n (script_lines.Domain d) = with_domain c d
with_placed c n (script_lines.Body id asks) = with_body_line c n id asks

-- the script with line n
unfoldable pub with_script_line : Contents → ℕ → ScriptLine → Result Contents ScriptFaultKind
with_script_line c n l = if is_misplaced c l then Err Syntax else with_placed c n l

-- the script with the words of line n; a line without words adds nothing
unfoldable pub with_words : Contents → ℕ → List (List ℕ) → Result Contents ScriptFaultKind
with_words c n [] = Ok c
with_words c n (w ∷ ws) = elim (line_of (w ∷ ws)) [ None ↦ Err Syntax | Some l ↦ with_script_line c n l ]

-- the script with lines numbered from n, or the fault of the first faulty line
abbrev pub with_lines : Contents → ℕ → List (List ℕ) → Result Contents ScriptFault
with_lines c n [] = Ok c
with_lines c n (l ∷ ls) = elim (with_words c n (words l)) [
  | Ok d ↦ with_lines d (n + 1) ls
  | Err kind ↦ Err (record { line = n; kind = kind })
]

-- a whole script; syntax if nothing is allowed (no policy and no triple), config if no domain is configured
unfoldable pub completed : ℕ → Contents → Result Contents ScriptFault
completed count c = if has_no_rights c then Err (record { line = count + 1; kind = Syntax })
    else (if is_empty c.domains then Err (record { line = count + 1; kind = Config }) else Ok c)

-- the same for a script that may have a fault already
abbrev pub completed_if_ok : ℕ → Result Contents ScriptFault → Result Contents ScriptFault
completed_if_ok count (Ok c) = completed count c
completed_if_ok count (Err f) = Err f

-- the script with lines numbered from n, after which the whole of `count` lines ends
abbrev pub whole_script : ℕ → Contents → ℕ → List (List ℕ) → Result Contents ScriptFault
whole_script count c n lines = completed_if_ok count (with_lines c n lines)

-- a fault: of the script, or of its policy block
pub data Wrong : Type 0 where
  in_script : ScriptFault → Wrong
  in_policy : policy.TokenFault → Wrong

-- a script, or a fault that is not one of a policy
abbrev pub in_result : Result Contents ScriptFault → Result Contents Wrong
in_result (Ok c) = Ok c
in_result (Err f) = Err (in_script f)

-- The meaning of the lines after the line `policy`, which has the number `first`, if the line at index `end` closes
-- the block: the rest of a script of `count` lines with the policy of the block, or the fault of the block.
abbrev pub ClosedReads : ScriptCommand → ℕ → ℕ → List (List ℕ) → ℕ → Result Contents Wrong → Type 0
ClosedReads command count first lines end said =
    ((p : Allowed) × BlockMeans (take end lines) p
    × (said ≡ in_result (whole_script count (with_policy command p) (first + end + 1 + 1) (drop (end + 1) lines))))
    ⊎ ((g : policy.TokenFault) × IsFaultyBlock first (take end lines) g × (said ≡ Err (in_policy g)))

-- the same, if a line `end` may be missing
abbrev pub BlockReads : ScriptCommand → ℕ → ℕ → List (List ℕ) → Option ℕ → Result Contents Wrong → Type 0
BlockReads command count first lines None said = said ≡ Err (in_script (record { line = count + 1; kind = Syntax }))
BlockReads command count first lines (Some end) said = ClosedReads command count first lines end said

-- the meaning of lines, which begin with a policy block or have none
abbrev pub LinesRead : ScriptCommand → List (List ℕ) → Option ℕ → Result Contents Wrong → Type 0
LinesRead command lines None said = said ≡ in_result (whole_script (length lines) (empty command) 1 lines)
LinesRead command lines (Some place) said =
    BlockReads command (length lines) (place + 1) (drop (place + 1) lines) (closing (drop (place + 1) lines)) said

-- the meaning of a text
abbrev pub TextReads : ScriptCommand → List ℕ → Result Contents Wrong → Type 0
TextReads command text said = LinesRead command (lines_in text) (opening (lines_in text)) said

-- The bytes mean this script for the command, or have this first fault: they are too many, or
-- not UTF-8, or the text has it.
abbrev pub ReadsFor : ScriptCommand → List ℕ → Result Contents Wrong → Type 0
ReadsFor command bytes said =
    ((LONGEST_TEXT < length bytes) × (said ≡ Err (in_script (record { line = 1; kind = Limit }))))
    ⊎ (((length bytes ≤ LONGEST_TEXT) × (¬ IsUtf8 bytes)
    × (said ≡ Err (in_script (record { line = line_after (take (utf8_valid_len bytes) bytes); kind = Utf8 }))))
    ⊎ ((length bytes ≤ LONGEST_TEXT) × IsUtf8 bytes × TextReads command bytes said))

-- the same for `play`
abbrev pub ReadsAsScript : List ℕ → Result Contents Wrong → Type 0
ReadsAsScript bytes said = ReadsFor Play bytes said
