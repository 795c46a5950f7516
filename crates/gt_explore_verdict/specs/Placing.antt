-- Conditions on the calls of a script.
use Rattle.std.specs.Prelude.{ℕ, ◌+◌, ◌&&◌, Bool, true, false, List, [], ◌∷◌, Option, Some, None, decimal}
use Rattle.std.specs.Prelude.{if◌then◌else◌}
use Rattle.std.specs.List.{list_any}
use Rattle.std.specs.Str.{bytes_eq}
use Rattle.gt_types.specs.declared.DomId.{DomId}
use Rattle.gt_explore_verdict.specs.Calls.{form_begun, may_answer}
use Rattle.gt_explore_verdict.specs.Expressions.{Asked, ConditionScope, of_all, of_domain, of_line}
use Rattle.gt_explore_verdict.specs.Formulas.{Op, op_and, op_not, op_or, op_term}
use Rattle.gt_explore_verdict.specs.declared.calls.CallName.{CallName}
use Rattle.gt_explore_verdict.specs.declared.calls.PlacedCall.{PlacedCall}
use Rattle.gt_explore_verdict.specs.declared.fault.ConditionFault.{ConditionFault}
use Rattle.gt_explore_verdict.specs.declared.fault.ConditionFault.TheVariants.{NoCall, NoDomain, Unanswered}
use Rattle.gt_explore_verdict.specs.declared.fault.ConditionFault.TheVariants.{UnansweredByAll}

-- a call is one that a condition is about: on its line, or of its domain
abbrev pub is_call_at : ConditionScope → PlacedCall → Bool
is_call_at of_all p = false
is_call_at (of_line number) p = bytes_eq (decimal p.line) number
is_call_at (of_domain number) p = bytes_eq (decimal p.dom.0) number

-- one of the calls that a condition is about can answer with its words
abbrev pub is_answered : ConditionScope → List (List ℕ) → List PlacedCall → Bool
is_answered place words calls = list_any (λ p. is_call_at place p && may_answer p.call words) calls

-- the same, or the condition is on all answers
abbrev pub is_askable_at : ConditionScope → List (List ℕ) → List PlacedCall → Bool
is_askable_at of_all words calls = true
is_askable_at (of_line number) words calls = is_answered (of_line number) words calls
is_askable_at (of_domain number) words calls = is_answered (of_domain number) words calls

abbrev pub is_askable : Asked → List PlacedCall → Bool
is_askable asked calls = is_askable_at asked.place asked.words calls

-- the first call on the line of this number
abbrev pub call_on : List ℕ → List PlacedCall → Option CallName
call_on number [] = None
call_on number (p ∷ calls) = if bytes_eq (decimal p.line) number then Some p.call else call_on number calls

-- why no answer meets a condition on a line with this call, or with none
abbrev pub fault_on_line : Option CallName → List (List ℕ) → ConditionFault
fault_on_line (Some call) words = Unanswered call (form_begun words)
fault_on_line None words = NoCall

-- why none meets one on a domain, if the script has it, or if it does not
abbrev pub fault_in_domain : Bool → List (List ℕ) → ConditionFault
fault_in_domain has_domain words = if has_domain then UnansweredByAll (form_begun words) else NoDomain

abbrev pub place_fault_at : ConditionScope → List (List ℕ) → List PlacedCall → List DomId → ConditionFault
place_fault_at of_all words calls domains = NoCall
place_fault_at (of_line number) words calls domains = fault_on_line (call_on number calls) words
place_fault_at (of_domain number) words calls domains =
    fault_in_domain (list_any (λ d. bytes_eq (decimal d.0) number) domains) words

abbrev pub place_fault : Asked → List PlacedCall → List DomId → ConditionFault
place_fault asked calls domains = place_fault_at asked.place asked.words calls domains

-- why no answer of a script with these calls and these domains meets a condition, if none does
abbrev pub fault_at : Asked → List PlacedCall → List DomId → Option ConditionFault
fault_at asked calls domains = if is_askable asked calls then None else Some (place_fault asked calls domains)

abbrev pub operation_fault : Op → List PlacedCall → List DomId → Option ConditionFault
operation_fault (op_term asked) calls domains = fault_at asked calls domains
operation_fault op_not calls domains = None
operation_fault op_and calls domains = None
operation_fault op_or calls domains = None

-- the number of terms that an operation is
abbrev pub terms_of : Op → ℕ
terms_of (op_term asked) = 1
terms_of op_not = 0
terms_of op_and = 0
terms_of op_or = 0

-- the fault with this number, or what else was found
abbrev pub or_numbered : Option ConditionFault → ℕ → Option (ℕ × ConditionFault) → Option (ℕ × ConditionFault)
or_numbered (Some fault) number later = Some (number, fault)
or_numbered None number later = later

-- the number and the reason of the first term that none meets, if the first of these terms has this number
abbrev pub first_unanswered : List PlacedCall → List DomId → ℕ → List Op → Option (ℕ × ConditionFault)
first_unanswered calls domains number [] = None
first_unanswered calls domains number (op ∷ ops) =
    or_numbered (operation_fault op calls domains) number
    (first_unanswered calls domains (number + terms_of op) ops)
