-- The lines that show the moves of an order.
use Rattle.std.specs.Prelude.{ℕ, ◌+◌, List, [], ◌∷◌, ◌++◌, length, Option, Some, None, codes, decimal}
use Rattle.gt_types.specs.declared.DomId.{DomId}
use Rattle.gt_model.specs.declared.trace.Answer.{Answer}
use Rattle.gt_script_runs.specs.Printing.{answer_text}
use Rattle.gt_json.specs.Strings.{quoted}
use Rattle.gt_script.specs.Contents.{type_names}
use Rattle.gt_script.specs.Lists.{RunTask}
use Rattle.gt_script.specs.RunContents.{RunContents}
use Rattle.gt_explore_replay.specs.declared.replay.Moved.{Moved}
use Rattle.gt_explore_replay.specs.declared.replay.Moved.TheVariants.{Began, Passed, Raised, Stepped}
use Rattle.gt_explore_trace.specs.Diagram.{arrow_text, diagram_note}
use Rattle.gt_explore_trace.specs.Facts.{move_part, value_part}
use Rattle.gt_explore_trace.specs.Places.{begun_name, task_of_move}
use Rattle.gt_explore_trace.specs.Steps.{seen_part, step_text}
use Rattle.gt_explore_trace.specs.declared.facts.TraceForm.{TraceForm}
use Rattle.gt_explore_trace.specs.declared.facts.TraceForm.TheVariants.{Json, Mermaid, Text}
use Rattle.gt_explore_trace.specs.declared.moves.TracedMove.{TracedMove}

-- the answer of the call that ended by a move, if one did
abbrev pub answer_of_move : Moved → Option Answer
answer_of_move Raised = None
answer_of_move Passed = None
answer_of_move (Began answer) = answer
answer_of_move (Stepped step seen answer) = answer

-- the answer of a call that has ended
abbrev pub answer_part : List (List ℕ) → Option Answer → List ℕ
answer_part names None = []
answer_part names (Some answer) = codes " : " ++ answer_text names answer

-- the same as a member of a JSON object
abbrev pub answer_member : List (List ℕ) → Option Answer → List ℕ
answer_member names None = []
answer_member names (Some answer) = codes ",\"answer\":" ++ quoted (answer_text names answer)

-- the number of the line of the script
abbrev pub line_word : Option RunTask → List ℕ
line_word None = codes "-"
line_word (Some t) = decimal t.line

abbrev pub line_value : Option RunTask → List ℕ
line_value None = codes "null"
line_value (Some t) = decimal t.line

-- the words of a move of this domain
abbrev pub move_words : TraceForm → DomId → Option RunTask → Moved → List ℕ
move_words form dom task Raised = move_part form (codes "tell")
move_words form dom task Passed = move_part form (codes "await")
move_words form dom task (Began answer) =
    move_part form (codes "begin") ++ value_part form (codes "call") (begun_name task)
move_words form dom task (Stepped step seen answer) = step_text form dom step ++ seen_part form seen

-- `STEP ID LINE MOVE`: a move of this number, and its line of the script
unfoldable pub step_words : TraceForm → ℕ → Option RunTask → TracedMove → List ℕ
step_words form number task m =
    decimal number ++ codes " " ++ decimal m.dom.0 ++ codes " " ++ line_word task ++ codes " "
    ++ move_words form m.dom task m.moved

-- the same as members of a JSON object
unfoldable pub step_members : ℕ → Option RunTask → TracedMove → List ℕ
step_members number task m =
    codes "{\"step\":" ++ decimal number ++ codes ",\"domain\":" ++ decimal m.dom.0 ++ codes ",\"line\":"
    ++ line_value task ++ move_words Json m.dom task m.moved

-- `STEP ID LINE MOVE : ANSWER`
abbrev pub text_line : List (List ℕ) → ℕ → Option RunTask → TracedMove → List ℕ
text_line names number task m =
    step_words Text number task m ++ answer_part names (answer_of_move m.moved) ++ codes "\n"

-- the same as a JSON object
abbrev pub json_line : List (List ℕ) → ℕ → Option RunTask → TracedMove → List ℕ
json_line names number task m =
    step_members number task m ++ answer_member names (answer_of_move m.moved) ++ codes "}\n"

-- a note of the answer of a call that has ended, in a sequence diagram
unfoldable pub answer_note : List (List ℕ) → DomId → Option RunTask → Option Answer → List ℕ
answer_note names dom task None = []
answer_note names dom task (Some answer) =
    diagram_note dom ++ line_word task ++ codes " " ++ answer_text names answer ++ codes "\n"

-- a message or a note of a sequence diagram, and the note of the answer
abbrev pub diagram_line : List (List ℕ) → ℕ → Option RunTask → TracedMove → List ℕ
diagram_line names number task m =
    arrow_text m.dom m.moved ++ step_words Mermaid number task m ++ codes "\n"
    ++ answer_note names m.dom task (answer_of_move m.moved)

-- the line of the move of this number
abbrev pub move_line : TraceForm → List (List ℕ) → ℕ → Option RunTask → TracedMove → List ℕ
move_line Text names number task m = text_line names number task m
move_line Json names number task m = json_line names number task m
move_line Mermaid names number task m = diagram_line names number task m

-- the lines of these moves, after others
abbrev pub trace_lines : RunContents → TraceForm → List TracedMove → List TracedMove → List ℕ
trace_lines c form before [] = []
trace_lines c form before (m ∷ moves) =
    move_line form (type_names c.head) (length before + 1) (task_of_move c before m) m
    ++ trace_lines c form (before ++ m ∷ []) moves

-- the lines of the moves of an order
abbrev pub trace_output : RunContents → TraceForm → List TracedMove → List ℕ
trace_output c form moves = trace_lines c form [] moves
