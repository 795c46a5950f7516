-- The lines that a run prints.
use Rattle.std.specs.Prelude.{ℕ, List, [], length, ◌++◌, ◌==◌, codes, decimal, if◌then◌else◌}
use Rattle.hex.specs.Hex.{encode_lower}
use Rattle.gt_types.specs.declared.DomId.{DomId}
use Rattle.gt_text.specs.Printing.{type_text, denial_text, frames_text, size_text, version_text}
use Rattle.gt_model.specs.declared.trace.Answer.{Answer}
use Rattle.gt_model.specs.declared.trace.Answer.TheVariants as answers

-- a blank and the bytes of an answer, two lower-case hexadecimal digits each; nothing if there are none
abbrev pub bytes_text : List ℕ → List ℕ
bytes_text bytes = if length bytes == 0 then [] else codes " " ++ encode_lower bytes

-- the text of an answer
abbrev pub answer_text : List (List ℕ) → Answer → List ℕ
answer_text names answers.Done = codes "ok"
answer_text names (answers.Mapped handle) = codes "ok"
answer_text names (answers.Bytes b) = codes "ok" ++ bytes_text b.bytes.items
answer_text names (answers.Frames frames) = frames_text frames
answer_text names (answers.Size size) = size_text size
answer_text names (answers.Version version) = version_text version
answer_text names (answers.Denied d) = denial_text (type_text (λ name. name) names) d

-- `LINE ID `, with which a line about the call of that line begins
abbrev pub call_text : ℕ → DomId → List ℕ
call_text line dom = decimal line ++ codes " " ++ decimal dom.0 ++ codes " "

-- `LINE ID ANSWER`
abbrev pub answer_line : List (List ℕ) → ℕ → DomId → Answer → List ℕ
answer_line names line dom answer = call_text line dom ++ answer_text names answer ++ codes "\n"

-- `LINE ID busy`: the domain had a call open
abbrev pub busy_line : ℕ → DomId → List ℕ
busy_line line dom = call_text line dom ++ codes "busy\n"

-- `LINE ID idle`: the domain has no call open
abbrev pub idle_line : ℕ → DomId → List ℕ
idle_line line dom = call_text line dom ++ codes "idle\n"

-- `LINE ID open`: the call of that line has no answer at the end of the script
abbrev pub open_line : ℕ → DomId → List ℕ
open_line line dom = call_text line dom ++ codes "open\n"
