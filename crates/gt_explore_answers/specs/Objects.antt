-- The output as JSON: an object for each text that is shown, and one with the verdict at the end.
use Rattle.std.specs.Prelude.{◌≡◌, ◌+◌, ◌++◌, ◌==◌, not, ℕ, Bool, true, false, List, [], ◌∷◌, Option, Some, None, codes}
use Rattle.std.specs.Prelude.{decimal, filter, if◌then◌else◌, length, slice_get}
use Rattle.std.specs.List.{slice_split}
use Rattle.gt_json.specs.Strings.{quoted}
use Rattle.gt_explore_verdict.specs.declared.judging.Verdict.{Verdict}
use Rattle.gt_explore_verdict.specs.declared.judging.Verdict.TheVariants.{Holds, Fails, Undecided}
use Rattle.gt_script.specs.Contents.{Contents}
use Rattle.gt_explore_answers.specs.Outputs.{Found}
use Rattle.gt_explore_answers.specs.Witness.{ShowsAfter}

-- a line is not empty
abbrev pub is_nonempty_line : List ℕ → Bool
is_nonempty_line line = not (length line == 0)

-- the lines of a text
abbrev pub text_lines : List ℕ → List (List ℕ)
text_lines text = filter is_nonempty_line (slice_split (λ b. b == 10) text)

-- what is before an item of an array
abbrev pub comma : Bool → List ℕ
comma first = if first then [] else codes ","

-- these lines as items of an array, the first of which is or is not its first item
abbrev pub items_from : Bool → List (List ℕ) → List ℕ
items_from first [] = []
items_from first (line ∷ lines) = comma first ++ quoted line ++ items_from false lines

-- the lines of a text
unfoldable pub lines_member : List ℕ → List ℕ
lines_member text = codes ",\"lines\":[" ++ items_from true (text_lines text) ++ codes "]"

-- the number of a text, how many there are, and its lines
unfoldable pub object_start : Found → ℕ → List ℕ → List ℕ
object_start f number text =
    codes "{\"text\":" ++ decimal number ++ codes ",\"of\":" ++ decimal (length f.texts) ++ lines_member text

-- a script for `play`, as a member of an object
abbrev pub witness_member : List ℕ → List ℕ
witness_member script = codes ",\"witness\":" ++ quoted script

-- the object of a text
abbrev pub text_object : Found → ℕ → List ℕ → List ℕ
text_object f number text = object_start f number text ++ codes "}\n"

-- the object of a text, with a script for `play` that gives it
abbrev pub witness_object : Found → ℕ → List ℕ → List ℕ → List ℕ
witness_object f number text script = object_start f number text ++ witness_member script ++ codes "}\n"

-- the object is that of a text: with a script for `play` that gives its answers, if one was found, or without
abbrev pub IsObject : Contents → Found → Bool → ℕ → List ℕ → List ℕ → Type 0
IsObject c f false number text object = object ≡ text_object f number text
IsObject c f true number text object =
    (script : List ℕ) × ShowsAfter c [] script text × (object ≡ witness_object f number text script)

-- the object of a text if it is wanted, and nothing if it is not
abbrev pub IsObjectIf : Contents → Found → Bool → Bool → ℕ → List ℕ → List ℕ → Type 0
IsObjectIf c f scripts false number text object = object ≡ []
IsObjectIf c f scripts true number text object = IsObject c f scripts number text object

-- an object for each wanted one of these texts, of which the first has the number after this one
abbrev pub ShowsTexts : Contents → Found → Bool → ℕ → List (List ℕ) → List Bool → List ℕ → Type 0
ShowsTexts c f scripts before [] wanted out = out ≡ []
ShowsTexts c f scripts before (text ∷ texts) [] out = out ≡ []
ShowsTexts c f scripts before (text ∷ texts) (wants ∷ wanted) out =
    (object : List ℕ) × (rest : List ℕ) × (out ≡ object ++ rest)
    × IsObjectIf c f scripts wants (before + 1) text object × ShowsTexts c f scripts (before + 1) texts wanted rest

-- an object for the text at this index, if there is one
abbrev pub ShowsText : Contents → Found → Bool → Option ℕ → List ℕ → Type 0
ShowsText c f scripts None out = out ≡ []
ShowsText c f scripts (Some at) out =
    (text : List ℕ) × (slice_get f.texts at ≡ Some text) × IsObject c f scripts (at + 1) text out

abbrev pub verdict_name : Verdict → List ℕ
verdict_name Holds = codes "holds"
verdict_name Fails = codes "fails"
verdict_name Undecided = codes "undecided"

abbrev pub bool_name : Bool → List ℕ
bool_name b = if b then codes "true" else codes "false"

-- the states that the search met, their limit, and whether these are all texts
unfoldable pub search_members : Found → ℕ → List ℕ
search_members f limit =
    codes "{\"states\":" ++ decimal f.states ++ codes ",\"limit\":" ++ decimal limit ++ codes ",\"whole\":"
    ++ bool_name f.whole

-- the number of states on the way to the last one, if these are not all texts
abbrev pub depth_member : Found → List ℕ
depth_member f = if f.whole then [] else codes ",\"depth\":" ++ decimal f.depth

-- the last object: the numbers of the search, and the verdict
unfoldable pub summary : Found → ℕ → Verdict → List ℕ
summary f limit verdict =
    search_members f limit ++ depth_member f ++ codes ",\"verdict\":\"" ++ verdict_name verdict ++ codes "\"}\n"
