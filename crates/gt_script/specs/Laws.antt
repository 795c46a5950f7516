-- The parts of a script, defined without the order of reading.
use Rattle.std.specs.Prelude.{◌≡◌, ◌≢◌, ◌≤◌, ◌<◌, ◌+◌, ◌^◌, ◌⊎◌, ℕ, Bool, true, List, [], ◌∷◌, ◌++◌, length, take}
use Rattle.std.specs.Prelude.{Option, Some, None, Ok, Err, IsSome, IsTrue, All, AllPairs, slice_get, codes}
use Rattle.gt_script.specs.Prelude.{option_map, option_to_list, is_some, filter_map, enumerate_from, IsUtf8}
use Rattle.gt_script.specs.Prelude.{utf8_valid_len, line_after, is_taken, AreFaultless, LAST_GENERATION, LONGEST_TEXT}
use Rattle.gt_script.specs.Prelude.{Triple, DomainConfig, Allowed, type_named, words, number_below, ◌>>=◌, line_of}
use Rattle.gt_script.specs.Prelude.{ScriptLine, Number, BodyLine, ScriptCommand, Play, Run, RunTask, ScriptStep}
use Rattle.gt_script.specs.Prelude.{ScriptFault, Limit, Utf8, Syntax, Config, ScriptError, Memory}
use Rattle.std.specs.Str.Lines.{lines as lines_in}
use Rattle.gt_policy.specs.declared.fault.TokenFault as policy
use Rattle.gt_script.specs.Blocks.{BlockMeans, IsFaultyBlock, block_fault_shown}
use Rattle.gt_script.specs.Contents.{Contents, empty, with_policy, type_names, first_gen}
use Rattle.gt_script.specs.Flags.{flag_in, with_flags}
use Rattle.gt_script.specs.Stuck.{AreNumbered}
use Rattle.gt_script.specs.Script.{domain_written, play_action_in, run_action_in, with_words, with_lines}
use Rattle.gt_script_lines.specs.declared.lines.ScriptLine.TheVariants as script_lines
use Rattle.gt_script.specs.declared.faults.ScriptError.TheVariants as script_errors

-- the lines of a script with their numbers, without those that have no meaning
abbrev pub lines_said : ℕ → List (List ℕ) → List (ℕ × ScriptLine)
lines_said n lines = filter_map (λ l. option_map (λ x. (l.0, x)) (line_of (words l.1))) (enumerate_from n lines)

-- the triple of a line, if it gives one
abbrev pub triple_in : List (List ℕ) → ScriptLine → Option Triple
triple_in types (script_lines.Triple t) = do
  source ← type_named types t.source
  target ← type_named types t.target
  Some (record { source = source; target = target; perm = t.perm })
triple_in types (script_lines.Wear first) = None
triple_in types (script_lines.Domain d) = None
triple_in types (script_lines.Body id asks) = None

-- the first generation of a line, if it gives one
abbrev pub wear_in : ScriptLine → Option ℕ
wear_in (script_lines.Triple t) = None
wear_in (script_lines.Wear first) = Some first
wear_in (script_lines.Domain d) = None
wear_in (script_lines.Body id asks) = None

-- the domain of a line, if it configures one
abbrev pub domain_in : List (List ℕ) → ScriptLine → Option DomainConfig
domain_in types (script_lines.Triple t) = None
domain_in types (script_lines.Wear first) = None
domain_in types (script_lines.Domain d) = do
  label ← type_named types d.type_name
  domain_written d label
domain_in types (script_lines.Body id asks) = None

-- the step of line n in a script for this command, if it is one
abbrev pub step_for : ScriptCommand → ℕ → Number → BodyLine → Option ScriptStep
step_for Play n number asks = do
  id ← number_below (2 ^ 16) number
  action ← play_action_in asks
  Some (record { line = n; dom = record { 0 = id }; action = action })
step_for Run n number asks = None

-- the task of line n in a script for this command, if it is one; its flag has its number among these
abbrev pub task_for : ScriptCommand → List (List ℕ) → ℕ → Number → BodyLine → Option RunTask
task_for Play flags n number asks = None
task_for Run flags n number asks = do
  id ← number_below (2 ^ 16) number
  action ← run_action_in flags asks
  Some (record { line = n; dom = record { 0 = id }; run_action = action })

-- the step of line n, if it is a line of the body of a script for `play`
abbrev pub step_on : ScriptCommand → ℕ → ScriptLine → Option ScriptStep
step_on command n (script_lines.Triple t) = None
step_on command n (script_lines.Wear first) = None
step_on command n (script_lines.Domain d) = None
step_on command n (script_lines.Body number asks) = step_for command n number asks

-- the task of line n, if it is a line of the body of a script for `run`
abbrev pub task_on : ScriptCommand → List (List ℕ) → ℕ → ScriptLine → Option RunTask
task_on command flags n (script_lines.Triple t) = None
task_on command flags n (script_lines.Wear first) = None
task_on command flags n (script_lines.Domain d) = None
task_on command flags n (script_lines.Body number asks) = task_for command flags n number asks

-- the flag that a line raises or awaits, if it does
abbrev pub flag_on : ScriptLine → Option (List ℕ)
flag_on (script_lines.Triple t) = None
flag_on (script_lines.Wear first) = None
flag_on (script_lines.Domain d) = None
flag_on (script_lines.Body number asks) = flag_in asks

-- a line of the body is for this command
abbrev pub asks_for : ScriptCommand → BodyLine → Bool
asks_for Play asks = is_some (play_action_in asks)
asks_for Run asks = is_some (run_action_in [] asks)

-- a line is for this command: each but those of the body that are for the other one
abbrev pub is_for : ScriptCommand → ScriptLine → Bool
is_for command (script_lines.Triple t) = true
is_for command (script_lines.Wear first) = true
is_for command (script_lines.Domain d) = true
is_for command (script_lines.Body number asks) = asks_for command asks

-- a line without words, or one that has a meaning
abbrev pub IsLine : List ℕ → Type 0
IsLine line = (words line ≡ []) ⊎ IsSome (line_of (words line))

-- The lines, numbered from n, are those of a script: each part holds what they give for it,
-- in order; so at most one of them is a line `wear`. Flags are numbered as they first appear.
pub record GiveParts (n : ℕ) (lines : List (List ℕ)) (c : Contents) : Type 0 where
  pub readable : All IsLine lines
  pub triples : c.triples ≡ filter_map (λ l. triple_in c.types l.1) (lines_said n lines)
  pub wear : option_to_list c.wear ≡ filter_map (λ l. wear_in l.1) (lines_said n lines)
  pub domains : c.domains ≡ filter_map (λ l. domain_in (type_names c) l.1) (lines_said n lines)
  pub steps : c.steps ≡ filter_map (λ l. step_on c.command l.0 l.1) (lines_said n lines)
  pub flags : c.flags ≡ with_flags [] (filter_map (λ l. flag_on l.1) (lines_said n lines))
  pub tasks : c.tasks ≡ filter_map (λ l. task_on c.command c.flags l.0 l.1) (lines_said n lines)
  pub suited : All (λ l. IsTrue (is_for c.command l.1)) (lines_said n lines)
  pub faultless : AreFaultless c.domains
  pub generation : first_gen c ≤ LAST_GENERATION
  pub configured : All (λ s. IsTrue (is_taken c.domains s.dom)) c.steps
  pub ordered : All (λ t. IsTrue (is_taken c.domains t.dom)) c.tasks
  pub numbered : AreNumbered (length c.flags) c.tasks
  pub some_domain : 1 ≤ length c.domains

-- The lines are those of this script for the command, and its rights are triples:
-- any name is a type, and each has one number.
pub record IsTripleScript (command : ScriptCommand) (lines : List (List ℕ)) (c : Contents) : Type 0 where
  pub for_command : c.command ≡ command
  pub parts : GiveParts 1 lines c
  pub policy : c.policy ≡ None
  pub distinct : AllPairs (λ a b. a ≢ b) c.types
  pub few_types : length c.types ≤ 256
  pub some_triple : 1 ≤ length c.triples

-- The lines have a policy block: in front of it are lines without words and a line `policy`, then come the
-- lines of the block, none of which is exactly `end`, then a line `end` and the rest.
pub record HasBlock (lines block rest : List (List ℕ)) : Type 0 where
  pub front : List (List ℕ)
  pub opener : List ℕ
  pub closer : List ℕ
  pub parts : lines ≡ front ++ opener ∷ (block ++ closer ∷ rest)
  pub nothing : All (λ l. words l ≡ []) front
  pub opens : words opener ≡ codes "policy" ∷ []
  pub inside : All (λ l. words l ≢ codes "end" ∷ []) block
  pub closes : words closer ≡ codes "end" ∷ []

-- the number of lines in front of the block, its line `policy` among them
abbrev pub lines_before : {lines block rest : List (List ℕ)} → HasBlock lines block rest → ℕ
lines_before b = length b.front + 1

-- The lines are those of this script for the command, and its policy is that of their block; the
-- lines after the block give the other parts, without a triple.
pub record IsPolicyScript (command : ScriptCommand) (lines : List (List ℕ)) (c : Contents) : Type 0 where
  pub for_command : c.command ≡ command
  pub block : List (List ℕ)
  pub rest : List (List ℕ)
  pub has : HasBlock lines block rest
  pub rights : Allowed
  pub means : BlockMeans block rights
  pub policy : c.policy ≡ Some rights
  pub parts : GiveParts (lines_before has + length block + 2) rest c
  pub no_triples : c.triples ≡ []

-- the lines are those of this script for the command
abbrev pub IsScriptFor : ScriptCommand → List (List ℕ) → Contents → Type 0
IsScriptFor command lines c = IsTripleScript command lines c ⊎ IsPolicyScript command lines c

-- the lines are those of this script for `play`
abbrev pub IsScriptOf : List (List ℕ) → Contents → Type 0
IsScriptOf lines c = IsScriptFor Play lines c

-- The fault is that of the line at this index, of lines numbered from n that are added to a script, and
-- the lines before it have none.
pub record IsFaultOfLine (n : ℕ) (lines : List (List ℕ)) (c : Contents) (f : ScriptFault) : Type 0 where
  pub place : ℕ
  pub line : List ℕ
  pub before : Contents
  pub number : f.line ≡ n + place
  pub there : slice_get lines place ≡ Some line
  pub earlier : with_lines c n (take place lines) ≡ Ok before
  pub here : with_words before f.line (words line) ≡ Err f.kind

-- No line has a fault, and the fault, after the last of `count` lines, is what the script lacks: syntax if
-- nothing is allowed, config if something is allowed and no domain is configured.
pub record IsFaultOfEnd (count n : ℕ) (lines : List (List ℕ)) (c : Contents) (f : ScriptFault) : Type 0 where
  pub all : Contents
  pub earlier : with_lines c n lines ≡ Ok all
  pub number : f.line ≡ count + 1
  pub lacks : ((all.policy ≡ None) × (all.triples ≡ []) × (f.kind ≡ Syntax))
      ⊎ (((1 ≤ length all.triples) ⊎ IsSome all.policy) × (all.domains ≡ []) × (f.kind ≡ Config))

-- the first fault of lines numbered from n that are added to a script of `count` lines
abbrev pub IsFirstScriptFault : ℕ → Contents → ℕ → List (List ℕ) → ScriptFault → Type 0
IsFirstScriptFault count c n lines f = IsFaultOfLine n lines c f ⊎ IsFaultOfEnd count n lines c f

-- a line `policy` opens a block that no line `end` closes
pub record IsOpen (lines : List (List ℕ)) : Type 0 where
  pub front : List (List ℕ)
  pub opener : List ℕ
  pub block : List (List ℕ)
  pub parts : lines ≡ front ++ opener ∷ block
  pub nothing : All (λ l. words l ≡ []) front
  pub opens : words opener ≡ codes "policy" ∷ []
  pub inside : All (λ l. words l ≢ codes "end" ∷ []) block

-- The lines open no block: they are all without words, or the first with words is
-- not exactly `policy`.
pub record HasNoBlock (lines : List (List ℕ)) : Type 0 where
  pub front : List (List ℕ)
  pub others : List (List ℕ)
  pub parts : lines ≡ front ++ others
  pub nothing : All (λ l. words l ≡ []) front
  pub another : (l : List ℕ) (ls : List (List ℕ)) → others ≡ l ∷ ls → (words l ≢ []) × (words l ≢ codes "policy" ∷ [])

-- the first fault after a policy block
pub record IsFaultBehind (command : ScriptCommand) (lines : List (List ℕ)) (f : ScriptFault) : Type 0 where
  pub block : List (List ℕ)
  pub rest : List (List ℕ)
  pub has : HasBlock lines block rest
  pub rights : Allowed
  pub means : BlockMeans block rights
  pub first : IsFirstScriptFault (length lines) (with_policy command rights)
      (lines_before has + length block + 2) rest f

-- the first fault of the lines, if it is not one of a policy
abbrev pub IsFaultOfLines : ScriptCommand → List (List ℕ) → ScriptFault → Type 0
IsFaultOfLines command lines f =
    (HasNoBlock lines × IsFirstScriptFault (length lines) (empty command) 1 lines f)
    ⊎ ((IsOpen lines × (f ≡ record { line = length lines + 1; kind = Syntax }))
    ⊎ IsFaultBehind command lines f)

-- the bytes are too many, or not UTF-8, and this is their fault
abbrev pub IsUnread : List ℕ → ScriptFault → Type 0
IsUnread bytes f =
    ((LONGEST_TEXT < length bytes) × (f ≡ record { line = 1; kind = Limit }))
    ⊎ ((length bytes ≤ LONGEST_TEXT) × (¬ IsUtf8 bytes)
    × (f ≡ record { line = line_after (take (utf8_valid_len bytes) bytes); kind = Utf8 }))

-- the first fault of the bytes, if it is not one of a policy: too many, not UTF-8, or the first fault of the lines
abbrev pub IsFaultOfScript : ScriptCommand → List ℕ → ScriptFault → Type 0
IsFaultOfScript command bytes f =
    IsUnread bytes f ⊎ ((length bytes ≤ LONGEST_TEXT) × IsUtf8 bytes × IsFaultOfLines command (lines_in bytes) f)

-- the first fault of the bytes is that of their policy block, with its line in the script
pub record IsFaultOfBlock (bytes : List ℕ) (g : policy.TokenFault) : Type 0 where
  pub short : length bytes ≤ LONGEST_TEXT
  pub text : IsUtf8 bytes
  pub block : List (List ℕ)
  pub rest : List (List ℕ)
  pub has : HasBlock (lines_in bytes) block rest
  pub faulty : IsFaultyBlock (lines_before has) block g

-- an allocation failed, or this is the first fault of a script for the command
abbrev pub StandsFor : ScriptCommand → List ℕ → ScriptError → Type 0
StandsFor command bytes Memory = Unit {0}
StandsFor command bytes (script_errors.Fault f) = IsFaultOfScript command bytes f
StandsFor command bytes (script_errors.Policy e) =
    (g : policy.TokenFault) × (block_fault_shown e ≡ Some g) × IsFaultOfBlock bytes g

-- an allocation failed, or this is the first fault of a script for `play`
abbrev pub ErrorStands : List ℕ → ScriptError → Type 0
ErrorStands bytes e = StandsFor Play bytes e
