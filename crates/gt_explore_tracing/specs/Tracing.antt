-- The moves that lead to a text.
use Rattle.std.specs.Prelude.{◌≡◌, ◌++◌, ℕ, Bool, List, codes, decimal, if◌then◌else◌, IsTrue}
use Rattle.gt_script.specs.RunContents.{RunContents}
use Rattle.gt_explore_trace.specs.Diagram.{participants_text}
use Rattle.gt_explore_trace.specs.Lines.{trace_output}
use Rattle.gt_explore_trace.specs.Moves.{GivesText}
use Rattle.gt_explore_answers.specs.Objects.{text_object}
use Rattle.gt_explore_answers.specs.Outputs.{Found, heading_line, states_line}
use Rattle.gt_explore_answers.specs.Witness.{IsTextNumbered}
use Rattle.gt_explore_trace.specs.declared.facts.TraceForm.{TraceForm}
use Rattle.gt_explore_trace.specs.declared.facts.TraceForm.TheVariants.{Json, Mermaid, Text}
use Rattle.gt_explore_trace.specs.declared.moves.TracedMove.{TracedMove}
use Rattle.gt_explore_tracing.specs.MoveBlocks.{HaveFewestBlocks, move_blocks}

-- whether no order has fewer blocks than there are
abbrev pub fewest_words : Bool → List ℕ
fewest_words is_fewest =
    if is_fewest then codes ", the fewest\n" else codes ", perhaps not the fewest; raise --states\n"

-- the number of blocks of these moves, and whether no order with their text has fewer
unfoldable pub blocks_line : List TracedMove → Bool → List ℕ
blocks_line moves is_fewest = codes "blocks " ++ decimal (move_blocks moves) ++ fewest_words is_fewest

-- the last lines
abbrev pub trace_end : Found → List TracedMove → Bool → List ℕ
trace_end f moves is_fewest = blocks_line moves is_fewest ++ states_line f

-- a line for each move
abbrev pub trace_shown : RunContents → Found → ℕ → List TracedMove → Bool → List ℕ
trace_shown c f number moves is_fewest =
    heading_line f number ++ (trace_output c Text moves ++ trace_end f moves is_fewest)

-- the title of a sequence diagram
abbrev pub title_text : Found → ℕ → List ℕ
title_text f number = codes "sequenceDiagram\n    title " ++ heading_line f number

-- the last lines as comments of a diagram
unfoldable pub diagram_end : Found → List TracedMove → Bool → List ℕ
diagram_end f moves is_fewest =
    codes "    %% " ++ blocks_line moves is_fewest ++ codes "    %% " ++ states_line f

-- the title, the participants, and the messages and notes of a sequence diagram
abbrev pub diagram_moves : RunContents → Found → ℕ → List TracedMove → List ℕ
diagram_moves c f number moves =
    title_text f number ++ participants_text moves c.head.domains ++ trace_output c Mermaid moves

-- a sequence diagram
abbrev pub diagram_shown : RunContents → Found → ℕ → List TracedMove → Bool → List ℕ
diagram_shown c f number moves is_fewest = diagram_moves c f number moves ++ diagram_end f moves is_fewest

-- whether no order has fewer blocks, as the last member of an object
abbrev pub fewest_member : Bool → List ℕ
fewest_member is_fewest = if is_fewest then codes ",\"fewest\":true}\n" else codes ",\"fewest\":false}\n"

-- the number of blocks of these moves, and whether no order with their text has fewer, as an object
unfoldable pub blocks_object : List TracedMove → Bool → List ℕ
blocks_object moves is_fewest = codes "{\"blocks\":" ++ decimal (move_blocks moves) ++ fewest_member is_fewest

-- the object of the text, one for each move, and that of their blocks
abbrev pub objects_shown : RunContents → Found → ℕ → List ℕ → List TracedMove → Bool → List ℕ
objects_shown c f number text moves is_fewest =
    text_object f number text ++ (trace_output c Json moves ++ blocks_object moves is_fewest)

-- the moves that lead to a text, by the form
abbrev pub moves_shown : RunContents → Found → ℕ → TraceForm → List ℕ → List TracedMove → Bool → List ℕ
moves_shown c f number Text text moves is_fewest = trace_shown c f number moves is_fewest
moves_shown c f number Mermaid text moves is_fewest = diagram_shown c f number moves is_fewest
moves_shown c f number Json text moves is_fewest = objects_shown c f number text moves is_fewest

-- the moves are those of an order of the script that gives the text of this number, and the output is this of them; if
-- it says that they have the fewest blocks, no order with this text has fewer
pub record ShowsMoves (c : RunContents) (f : Found) (number : ℕ) (form : TraceForm) (out : List ℕ) : Type 0 where
  pub text : List ℕ
  pub numbered : IsTextNumbered f.texts number text
  pub moves : List TracedMove
  pub gives : GivesText c moves text
  pub is_fewest : Bool
  pub fewest : IsTrue is_fewest → HaveFewestBlocks c text moves
  pub shown : out ≡ moves_shown c f number form text moves is_fewest

-- a line for each move
abbrev pub IsTrace : RunContents → Found → ℕ → List ℕ → Type 0
IsTrace c f number out = ShowsMoves c f number Text out

-- the moves as a sequence diagram
abbrev pub IsDiagram : RunContents → Found → ℕ → List ℕ → Type 0
IsDiagram c f number out = ShowsMoves c f number Mermaid out

-- the object of the text, one for each move, and that of their blocks
abbrev pub TracesText : RunContents → Found → ℕ → List ℕ → Type 0
TracesText c f number out = ShowsMoves c f number Json out
