-- Whether a given text has the lines and the domains of a run of the script.
use Rattle.std.specs.Prelude.{ℕ, ◌+◌, ◌-◌, ◌==◌, ◌&&◌, nat_lt, Bool, false, List, [], ◌∷◌, Option, Some, None, length}
use Rattle.std.specs.Prelude.{codes, decimal, drop, if◌then◌else◌, is_some, not, slice_get}
use Rattle.std.specs.List.{flat_map}
use Rattle.std.specs.Str.{bytes_eq}
use Rattle.gt_types.specs.declared.DomId.{DomId}
use Rattle.gt_script.specs.Lists.{RunTask}
use Rattle.gt_script.specs.Preceding.{is_call}
use Rattle.gt_script.specs.RunContents.{RunContents}
use Rattle.gt_explore_verdict.specs.Forms.{may_begin}
use Rattle.gt_explore_verdict.specs.Satisfying.{line_words, lines_in}
use Rattle.gt_explore_faults.specs.declared.fault.TextFault.{TextFault}
use Rattle.gt_explore_faults.specs.declared.fault.TextFault.TheVariants.{Audit, CarriageReturn, Cut, Json, Line}
use Rattle.gt_explore_answers.specs.Exploring.{index_of_text}
use Rattle.gt_explore_witness.specs.GivingAnswers.{begins_with}
use Rattle.gt_explore_answers.specs.Outputs.{Found}
use Rattle.gt_explore_answers.specs.declared.asking.ExploreRequest.{ExploreRequest}
use Rattle.gt_explore_answers.specs.declared.asking.ExploreRequest.TheVariants as explore_requests
use Rattle.gt_explore_answers.specs.declared.given.AnswerPlace.{AnswerPlace}

-- the place of the answer to a task: its line and its domain, if it is a call of this domain
abbrev pub answer_places_of : DomId → RunTask → List AnswerPlace
answer_places_of dom t = if (t.dom.0 == dom.0) && is_call t.run_action then record { line = t.line; dom = dom } ∷ [] else []

-- the places of all answers, in the order of a text: those of the first domain, in the order of its list, and so on
abbrev pub answer_places : RunContents → List AnswerPlace
answer_places c = flat_map (λ d. flat_map (answer_places_of d.id) c.tasks) c.head.domains

-- these words of a line are an answer at this place: its line, its domain, and words with which an answer can begin
unfoldable pub is_answer_at : AnswerPlace → List (List ℕ) → Bool
is_answer_at p [] = false
is_answer_at p (line ∷ []) = false
is_answer_at p (line ∷ dom ∷ []) = false
is_answer_at p (line ∷ dom ∷ first ∷ more) =
    bytes_eq (decimal p.line) line && bytes_eq (decimal p.dom.0) dom && may_begin (first ∷ more)

-- the line at an index is an answer at the place there, if there is one
abbrev pub is_given_there : Option AnswerPlace → List ℕ → Bool
is_given_there None line = false
is_given_there (Some p) line = is_answer_at p (line_words line)

-- the line at an index, of so many, is right: an answer at the place there; after the last line end nothing comes, and
-- each place has its answer
abbrev pub is_right_at : List AnswerPlace → ℕ → ℕ → List ℕ → Bool
is_right_at places count at line =
    if at + 1 == count then (at == length places) && (length line == 0) else is_given_there (slice_get places at) line

-- a line ends with a carriage return
abbrev pub ends_in_cr : List ℕ → Bool
ends_in_cr line = bytes_eq (13 ∷ []) (drop (length line - 1) line)

-- what a line is that is no answer line
abbrev pub line_fault : List ℕ → TextFault
line_fault line =
    if ends_in_cr line then CarriageReturn
    else if begins_with (codes "audit ") line then Audit
    else if begins_with (codes "{") line then Json
    else Line

-- the same, if the text ends too early in this line, or before it
abbrev pub or_cut : Bool → TextFault → TextFault
or_cut is_cut Line = if is_cut then Cut else Line
or_cut is_cut fault = fault

abbrev pub fault_by : Bool → List ℕ → TextFault
fault_by is_cut line = or_cut is_cut (line_fault line)

-- the number and the fault of the first line that is not right, of these from an index on
abbrev pub wrong_from : List AnswerPlace → ℕ → ℕ → List (List ℕ) → Option (ℕ × TextFault)
wrong_from places count at [] = None
wrong_from places count at (line ∷ lines) =
    if is_right_at places count at line then wrong_from places count (at + 1) lines
    else Some (at + 1, fault_by ((at + 1 == count) && nat_lt at (length places)) line)

-- the number and the fault of the first line of a text that is not right
abbrev pub first_wrong : RunContents → List ℕ → Option (ℕ × TextFault)
first_wrong c text = wrong_from (answer_places c) (length (lines_in text)) 0 (lines_in text)

-- The same of a given text that is none of the texts of the script. There is no fault of another request, nor if it is
-- one of those found, or if these are not all texts.
abbrev pub refused_text : RunContents → ExploreRequest → Found → Option (ℕ × TextFault)
refused_text c (explore_requests.Has given) f =
    if f.whole && not (is_some (index_of_text given.now f.texts)) then first_wrong c given.now else None
refused_text c explore_requests.Texts f = None
refused_text c (explore_requests.Decide claim expression) f = None
refused_text c (explore_requests.Witness number) f = None
refused_text c explore_requests.Witnesses f = None
