-- The lines that the faults of an exploration print.
use Rattle.std.specs.Prelude.{ℕ, List, ◌++◌, codes, decimal}
use Rattle.gt_script_runs.specs.Faults.{play_fault_text}
use Rattle.gt_script_runs.specs.declared.fault.PlayFault.TheVariants as play_faults
use Rattle.gt_explore_verdict.specs.Faults.{expression_fault_text}
use Rattle.gt_explore_verdict.specs.declared.fault.ExpressionFault.{ExpressionFault}
use Rattle.gt_explore_verdict.specs.declared.fault.ExpressionFault.TheVariants as expression_faults
use Rattle.gt_explore_faults.specs.declared.claims.ClaimsFault.{ClaimsFault}
use Rattle.gt_explore_faults.specs.declared.claims.ClaimsFault.TheVariants as claims_faults
use Rattle.gt_explore_faults.specs.declared.claims.PrecedenceFault.{PrecedenceFault}
use Rattle.gt_explore_faults.specs.declared.claims.PrecedenceFault.TheVariants as precedence_faults
use Rattle.gt_explore_faults.specs.declared.fault.ExploreFault.{ExploreFault}
use Rattle.gt_explore_faults.specs.declared.fault.ExploreFault.TheVariants.{Play, Term, Text, Number, Unfound, Texts}
use Rattle.gt_explore_faults.specs.declared.fault.TextFault.{TextFault}
use Rattle.gt_explore_faults.specs.declared.fault.TextFault.TheVariants.{CarriageReturn, Audit, Json, Cut, Line}
use Rattle.gt_explore_faults.specs.declared.fault.TextsFault.{TextsFault}
use Rattle.gt_explore_faults.specs.declared.fault.TextsFault.TheVariants.{Memory, States, Astray}

abbrev pub texts_fault_text : TextsFault → List ℕ
texts_fault_text Memory = codes "memory"
texts_fault_text States = codes "states"
texts_fault_text Astray = codes "astray"

abbrev pub text_fault_text : TextFault → List ℕ
text_fault_text CarriageReturn = codes "ends with CR LF; a text has LF"
text_fault_text Audit = codes "an audit line; give the text without --audit"
text_fault_text Json = codes "JSON; give the text without --format json"
text_fault_text Cut = codes "the text is cut off"
text_fault_text Line = codes "no answer line of this script"

abbrev pub explore_fault_text : ExploreFault → List ℕ
explore_fault_text (Play fault) = play_fault_text fault
explore_fault_text (Term number fault) = expression_fault_text (expression_faults.Term number fault)
explore_fault_text Number = codes "no such text"
explore_fault_text Unfound = codes "no such text found"
explore_fault_text (Text line fault) = codes "text line " ++ decimal line ++ codes ": " ++ text_fault_text fault
explore_fault_text (Texts fault) = texts_fault_text fault

-- an expression's fault as that of an exploration: its term, or want of memory
abbrev pub expression_fault : ExpressionFault → ExploreFault
expression_fault expression_faults.Memory = Texts Memory
expression_fault (expression_faults.Term number fault) = Term number fault

-- want of memory as the fault of an exploration with claims
abbrev pub claims_memory : ClaimsFault
claims_memory = claims_faults.Explore (Play play_faults.Memory)

abbrev pub precedence_fault_text : PrecedenceFault → List ℕ
precedence_fault_text precedence_faults.Call = codes "no such call in an order of calls"

abbrev pub claims_fault_text : ClaimsFault → List ℕ
claims_fault_text (claims_faults.Explore fault) = explore_fault_text fault
claims_fault_text (claims_faults.Kind number) =
    codes "claim " ++ decimal number ++ codes ": not find, never or always"
claims_fault_text (claims_faults.Term claim number fault) =
    codes "claim " ++ decimal claim ++ codes ": " ++ expression_fault_text (expression_faults.Term number fault)
claims_fault_text (claims_faults.Repeated first second) =
    codes "the same name on lines " ++ decimal first ++ codes " and " ++ decimal second
claims_fault_text (claims_faults.Precedence fault) = precedence_fault_text fault
claims_fault_text claims_faults.Astray = codes "astray"
