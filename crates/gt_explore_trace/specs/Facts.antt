-- The facts of a line: a name and a value each, as `NAME=VALUE` or as a member of a JSON object.
use Rattle.std.specs.Prelude.{ℕ, List, [], ◌++◌, codes}
use Rattle.std.specs.Int.{to_be_bytes, w64}
use Rattle.hex.specs.Hex.{encode_lower}
use Rattle.gt_explore_trace.specs.declared.facts.TraceForm.{TraceForm}
use Rattle.gt_explore_trace.specs.declared.facts.TraceForm.TheVariants.{Json, Mermaid, Text}

-- what is before the name of a fact, and between the name and the value
abbrev pub fact_start : TraceForm → List ℕ
fact_start Json = codes ",\""
fact_start Text = codes " "
fact_start Mermaid = codes " "

abbrev pub fact_middle : TraceForm → List ℕ
fact_middle Json = codes "\":"
fact_middle Text = codes "="
fact_middle Mermaid = codes "="

-- the mark around a value that is not a number
abbrev pub quote : TraceForm → List ℕ
quote Json = codes "\""
quote Text = []
quote Mermaid = []

-- what is before the letters of a step
abbrev pub move_start : TraceForm → List ℕ
move_start Json = codes ",\"move\":\""
move_start Text = []
move_start Mermaid = []

-- a number, by its digits, under its name
unfoldable pub number_part : TraceForm → List ℕ → List ℕ → List ℕ
number_part form name digits = fact_start form ++ name ++ fact_middle form ++ digits

-- a value that needs no escapes under its name
unfoldable pub value_part : TraceForm → List ℕ → List ℕ → List ℕ
value_part form name value = fact_start form ++ name ++ fact_middle form ++ quote form ++ value ++ quote form

-- a shared word under its name, with 16 hexadecimal digits
abbrev pub word_part : TraceForm → List ℕ → ℕ → List ℕ
word_part form name word = value_part form name (encode_lower (to_be_bytes w64 word))

-- the letters of a step, or the word for another move
unfoldable pub move_part : TraceForm → List ℕ → List ℕ
move_part form letters = move_start form ++ letters ++ quote form
