-- From the results of the parsers to the findings.
use Rattle.std.proofs.Common.{◌≡◌, ℕ, List, [], ◌∷◌, Option, Some, None, Result, Ok, Err, max, sym, ap, ap₂}
use Rattle.std.proofs.Common.{◌∙◌}
use Rattle.std.specs.Prelude.{IfOk, option_map}
use Rattle.std.specs.Option.{option_map_or}
use Rattle.gt_policy.specs.declared.fault.TokenFault.{TokenFault}
use Rattle.gt_findings.specs.Findings.{error_lines}
use Rattle.gt_findings.specs.declared.findings.Finding.{Finding}
use Rattle.gt_script.specs.Blocks.{block_fault_shown}
use Rattle.gt_script.specs.Outcomes.{AnswersScript}
use Rattle.gt_script.specs.RunScripts.{RunAnswers, ReadsAsRun}
use Rattle.gt_script.specs.Script.{ReadsAsScript, Wrong, in_script, in_policy}
use Rattle.gt_script.specs.declared.faults.BlockFault.{BlockFault}
use Rattle.gt_script.specs.declared.faults.ScriptError.{ScriptError}
use Rattle.gt_script.specs.declared.faults.ScriptError.TheVariants.{Memory, Fault, Policy}
use Rattle.gt_check_command.specs.Judging.{IsAtLater, JudgesScript, error_line, faulty, line_of_fault}

some_same : (a b : ℕ) → ◌≡◌ {A = Option ℕ} (Some a) (Some b) → a ≡ b
some_same a b e = ap (λ (o : Option ℕ). option_map_or (λ n. n) o 0) e

-- a fault of a block is on the line that is shown
shown_line : (e : BlockFault) (g : TokenFault) → block_fault_shown e ≡ Some g → e.line ≡ g.line
shown_line e g shown = by _ shown
  where
    by : (o : Option _) → option_map (λ k. record { line = e.line; kind = k }) o ≡ Some g → e.line ≡ g.line
    by None is = absurd (cc is)
    by (Some k) is = ap (λ (o : Option TokenFault). option_map_or (λ x. x.line) o 0) is

play_fault : (e : ScriptError) (line : ℕ) (bytes : List ℕ) → error_line e ≡ Some line → AnswersScript (Err e) (ReadsAsScript bytes) → (w : Wrong) × ReadsAsScript bytes (Err w) × (line ≡ line_of_fault w)
play_fault Memory line bytes is told = absurd (cc is)
play_fault (Fault f) line bytes is told = (in_script f, told, sym (some_same f.line line is))
play_fault (Policy f) line bytes is (g, shown, told) = (in_policy g, told, sym (some_same f.line line is) ∙ shown_line f g shown)

run_fault : (e : ScriptError) (line : ℕ) (bytes : List ℕ) → error_line e ≡ Some line → RunAnswers (Err e) (ReadsAsRun bytes) → (w : Wrong) × ReadsAsRun bytes (Err w) × (line ≡ line_of_fault w)
run_fault Memory line bytes is told = absurd (cc is)
run_fault (Fault f) line bytes is told = (in_script f, told, sym (some_same f.line line is))
run_fault (Policy f) line bytes is (g, shown, told) = (in_policy g, told, sym (some_same f.line line is) ∙ shown_line f g shown)

-- the error is at the line of the later fault
pub judged_faulty : (play run : ScriptError) (bytes : List ℕ) (found : List Finding) → AnswersScript (Err play) (ReadsAsScript bytes) → RunAnswers (Err run) (ReadsAsRun bytes) → IsAtLater play run found → JudgesScript bytes found
judged_faulty play run bytes found told ran (line, other, one, two, at) =
    let p = play_fault play line bytes one told in
    let r = run_fault run other bytes two ran in
    faulty p.0 r.0 found p.1 r.1 (later p.2 r.2 at)
  where
    later : {a b c d : ℕ} → a ≡ c → b ≡ d → error_lines found ≡ max a b ∷ [] → error_lines found ≡ max c d ∷ []
    later same like is = is ∙ ap₂ (λ (m n : ℕ). max m n ∷ []) same like

-- what holds of what is found gives something else of it
pub of_found : {X E : Type 0} (P Q : X → Type 0) → ((x : X) → P x → Q x) → (r : Result X E) → IfOk r P → IfOk r Q
of_found P Q turns (Ok x) holds = turns x holds
of_found P Q turns (Err e) holds = holds
