-- Findings as text.
use Rattle.std.specs.Prelude.{◌≡◌, ◌⊎◌, ℕ, ◌==◌, Bool, not, ◌&&◌, ◌||◌, List, [], ◌∷◌, ◌++◌, codes, if◌then◌else◌}
use Rattle.std.specs.Prelude.{chars, encode_utf8, length, nat_lt, take}
use Rattle.std.specs.Char.{is_control}
use Rattle.std.specs.Fmt.{decimal}
use Rattle.std.specs.List.{AllPass, AllZip, concat, flat_map}
use Rattle.gt_json.specs.Strings.{quoted}
use Rattle.gt_findings.specs.declared.findings.Finding.{Finding}
use Rattle.gt_findings.specs.declared.findings.FindingKind.{FindingKind}
use Rattle.gt_findings.specs.declared.findings.FindingKind.TheVariants.{Fault, OtherClass, OtherPermission}
use Rattle.gt_findings.specs.declared.findings.FindingKind.TheVariants.{AllowsNothing, NeverAsked, Repeats}
use Rattle.gt_findings.specs.declared.findings.FindingKind.TheVariants.{NeverNamed, NoDomain, NeverMatters}
use Rattle.gt_findings.specs.declared.findings.FindingKind.TheVariants.{AlwaysRefused, NeverMapped, NoStatement, Note}
use Rattle.gt_findings.specs.declared.report.ReportForm.{ReportForm}
use Rattle.gt_findings.specs.declared.report.ReportForm.TheVariants.{Colored, Json, Text}

-- the severity of a finding
abbrev pub severity_text : FindingKind → List ℕ
severity_text Fault = codes "error"
severity_text OtherClass = codes "warning"
severity_text OtherPermission = codes "warning"
severity_text AllowsNothing = codes "warning"
severity_text NeverAsked = codes "warning"
severity_text Repeats = codes "warning"
severity_text NeverNamed = codes "warning"
severity_text NoDomain = codes "warning"
severity_text NeverMatters = codes "warning"
severity_text NeverMapped = codes "warning"
severity_text NoStatement = codes "warning"
severity_text AlwaysRefused = codes "warning"
severity_text Note = codes "note"

-- the line and the column, with a text between them
unfoldable pub position_text : List ℕ → Finding → List ℕ
position_text between x = decimal x.line ++ between ++ decimal x.column

-- `SEVERITY: MESSAGE`
unfoldable pub said_text : Finding → List ℕ
said_text x = severity_text x.kind ++ codes ": " ++ x.message.items ++ codes "\n"

-- `FILE:LINE:COLUMN: SEVERITY: MESSAGE`
unfoldable pub heading_text : List ℕ → Finding → List ℕ
heading_text file x = file ++ codes ":" ++ position_text (codes ":") x ++ codes ": " ++ said_text x

-- a finding as an object on one line (JSON Lines)
unfoldable pub object_text : List ℕ → Finding → List ℕ
object_text file x = codes "{\"file\":" ++ quoted file ++ codes ",\"line\":"
    ++ position_text (codes ",\"column\":") x ++ codes ",\"severity\":\"" ++ severity_text x.kind
    ++ codes "\",\"message\":" ++ quoted x.message.items ++ codes "}\n"

-- U+FFFD is shown for a control character other than a tab
abbrev pub shown_letter : ℕ → ℕ
shown_letter c = if is_control c && not (c == 9) then 0xFFFD else c

-- these characters as they are shown
abbrev pub shown_text : List ℕ → List ℕ
shown_text letters = flat_map (λ c. encode_utf8 (shown_letter c)) letters

-- a word as it is shown in a message; of a long one the first 160 characters, and `...`
unfoldable pub shown_word : List ℕ → List ℕ
shown_word word = if nat_lt 160 (length (chars word)) then shown_text (take 160 (chars word)) ++ codes "..."
    else shown_text (chars word)

-- some characters as they are shown
abbrev pub IsShownText : List ℕ → Type 0
IsShownText text = (letters : List ℕ) × (text ≡ shown_text letters)

-- a space or a tab
abbrev pub is_space_or_tab : ℕ → Bool
is_space_or_tab byte = (byte == 32) || (byte == 9)

-- the colour of a caret (ECMA-48)
abbrev pub caret_color : FindingKind → List ℕ
caret_color Fault = codes "[1;31m"
caret_color Note = codes "[1;36m"
caret_color kind = codes "[1;33m"

-- a caret with a line end
abbrev pub caret_text : ReportForm → FindingKind → List ℕ
caret_text Text kind = codes "^\n"
caret_text Colored kind = 27 ∷ caret_color kind ++ codes "^" ++ 27 ∷ codes "[0m\n"
caret_text Json kind = codes "^\n"

-- the line of a finding, with a caret below it
unfoldable pub excerpt_text : ReportForm → FindingKind → List ℕ → List ℕ → List ℕ
excerpt_text form kind letters blanks = shown_text letters ++ codes "\n" ++ blanks ++ caret_text form kind

-- a line with a caret below it, or nothing
abbrev pub IsExcerpt : ReportForm → FindingKind → List ℕ → Type 0
IsExcerpt form kind excerpt =
    (excerpt ≡ [])
    ⊎ ((letters blanks : List ℕ) × AllPass is_space_or_tab blanks × (excerpt ≡ excerpt_text form kind letters blanks))

-- a finding in the layout of compilers: its heading and an excerpt
abbrev pub IsFindingText : ReportForm → List ℕ → Finding → List ℕ → Type 0
IsFindingText form file x text = (excerpt : List ℕ) × IsExcerpt form x.kind excerpt
    × (text ≡ heading_text file x ++ excerpt)

-- the texts of these, one for each, in their order
abbrev pub IsTextOfAll : {A : Type 0} → (A → List ℕ → Type 0) → List A → List ℕ → Type 0
IsTextOfAll R xs all = (texts : List (List ℕ)) × AllZip R xs texts × (all ≡ concat texts)

-- the report of findings in a form: each once, in their order
abbrev pub IsReport : ReportForm → List ℕ → List Finding → List ℕ → Type 0
IsReport Json file found report = report ≡ flat_map (object_text file) found
IsReport Text file found report = IsTextOfAll (IsFindingText Text file) found report
IsReport Colored file found report = IsTextOfAll (IsFindingText Colored file) found report

-- such a text was appended
abbrev pub AddsText : (List ℕ → Type 0) → List ℕ → List ℕ → Type 0
AddsText P old new = (text : List ℕ) × P text × (new ≡ old ++ text)
