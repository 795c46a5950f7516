-- The lines that the faults of an expression print.
use Rattle.std.specs.Prelude.{ℕ, List, ◌++◌, codes, decimal}
use Rattle.gt_explore_verdict.specs.Calls.{call_words}
use Rattle.gt_explore_verdict.specs.Forms.{form_word}
use Rattle.gt_explore_verdict.specs.declared.fault.ConditionFault.{ConditionFault}
use Rattle.gt_explore_verdict.specs.declared.fault.ConditionFault.TheVariants.{Answer, Beginning, Empty, Excluded}
use Rattle.gt_explore_verdict.specs.declared.fault.ConditionFault.TheVariants.{NoCall, NoDomain, Rule, Unanswered, Word}
use Rattle.gt_explore_verdict.specs.declared.fault.ConditionFault.TheVariants.{UnansweredByAll, Unclosed, Unjoined}
use Rattle.gt_explore_verdict.specs.declared.fault.ConditionFault.TheVariants.{Unopened, Words}
use Rattle.gt_explore_verdict.specs.declared.fault.ExpressionFault.{ExpressionFault}
use Rattle.gt_explore_verdict.specs.declared.fault.ExpressionFault.TheVariants.{Memory, Term}

abbrev pub condition_fault_text : ConditionFault → List ℕ
condition_fault_text Empty = codes "no condition"
condition_fault_text Words = codes "more than one word without LINE= or ID:"
condition_fault_text Rule = codes "no such rule; the rules are N1 to N26"
condition_fault_text Answer = codes "an answer is ok or a rule"
condition_fault_text Word = codes "no answer has this word"
condition_fault_text Beginning = codes "no answer begins with these words"
condition_fault_text Excluded = codes "an earlier term on its line excludes it"
condition_fault_text (Unanswered call form) = call_words call ++ codes " never answers " ++ form_word form
condition_fault_text (UnansweredByAll form) = codes "no call of this domain answers " ++ form_word form
condition_fault_text Unjoined = codes "no & or | before it"
condition_fault_text Unopened = codes "a ) after it has no ("
condition_fault_text Unclosed = codes "a ( before it has no )"
condition_fault_text NoCall = codes "no call on this line"
condition_fault_text NoDomain = codes "no such domain"

abbrev pub expression_fault_text : ExpressionFault → List ℕ
expression_fault_text Memory = codes "memory"
expression_fault_text (Term number fault) = codes "term " ++ decimal number ++ codes ": " ++ condition_fault_text fault
