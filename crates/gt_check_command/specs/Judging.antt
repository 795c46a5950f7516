-- The findings of bytes that should be a script.
use Rattle.std.specs.Prelude.{◌≡◌, ℕ, max, List, [], ◌∷◌, Option, Some, None, Ok, Err}
use Rattle.gt_findings.specs.Findings.{error_lines}
use Rattle.gt_findings.specs.declared.findings.Finding.{Finding}
use Rattle.gt_script.specs.Contents.{Contents}
use Rattle.gt_script.specs.RunContents.{RunContents}
use Rattle.gt_script.specs.RunScripts.{ReadsAsRun}
use Rattle.gt_script.specs.Script.{ReadsAsScript, Wrong, in_script, in_policy}
use Rattle.gt_script.specs.declared.faults.ScriptError.{ScriptError}
use Rattle.gt_script.specs.declared.faults.ScriptError.TheVariants.{Memory, Fault, Policy}

-- the line of a fault
abbrev pub line_of_fault : Wrong → ℕ
line_of_fault (in_script f) = f.line
line_of_fault (in_policy g) = g.line

-- The findings of bytes. If they are a script for neither `play` nor `run`, there is one error, at the line of the
-- fault of the two that is further down. If they are a script for one of them, there is none.
pub data JudgesScript (bytes : List ℕ) : List Finding → Type 0 where
  for_play : (c : Contents) (found : List Finding) → ReadsAsScript bytes (Ok c) → error_lines found ≡ []
      → JudgesScript bytes found
  for_run : (c : RunContents) (found : List Finding) → ReadsAsRun bytes (Ok c) → error_lines found ≡ []
      → JudgesScript bytes found
  faulty : (play run : Wrong) (found : List Finding) → ReadsAsScript bytes (Err play) → ReadsAsRun bytes (Err run)
      → error_lines found ≡ max (line_of_fault play) (line_of_fault run) ∷ [] → JudgesScript bytes found

-- the line of the fault of an error; none for a failed allocation
abbrev pub error_line : ScriptError → Option ℕ
error_line Memory = None
error_line (Fault f) = Some f.line
error_line (Policy f) = Some f.line

-- there is one error, at the line of the later one of these
abbrev pub IsAtLater : ScriptError → ScriptError → List Finding → Type 0
IsAtLater play run found =
    (line other : ℕ) × (error_line play ≡ Some line) × (error_line run ≡ Some other)
    × (error_lines found ≡ max line other ∷ [])
