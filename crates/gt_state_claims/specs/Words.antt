-- The words of a term, and what each means.
use Rattle.std.specs.Prelude.{ℕ, ◌==◌, true, false, List, [], ◌∷◌, codes, if◌then◌else◌}
use Rattle.std.specs.Prelude.{Option, Some, None, Result, Ok, Err}
use Rattle.std.specs.Option.{option_map}
use Rattle.std.specs.Str.{bytes_eq}
use Rattle.gt_types.specs.declared.DomId.{DomId}
use Rattle.gt_types.specs.declared.GrantRef.{GrantRef}
use Rattle.gt_model.specs.declared.control.EntryKind.{EntryKind}
use Rattle.gt_model.specs.declared.control.EntryKind.TheVariants as kinds
use Rattle.gt_script_lines.specs.Numbers.{decimal_number, number_below}
use Rattle.gt_script_lines.specs.declared.numbers.Number.{Number}
use Rattle.gt_script_lines.specs.declared.numbers.Number.TheVariants.{Small, Huge}
use Rattle.gt_state_claims.specs.declared.fault.StateTermFault.{StateTermFault}
use Rattle.gt_state_claims.specs.declared.fault.StateTermFault.TheVariants as term_faults
use Rattle.gt_state_claims.specs.declared.terms.Comparison.{Comparison}
use Rattle.gt_state_claims.specs.declared.terms.Comparison.TheVariants.{Equal, Less, Greater}
use Rattle.gt_state_claims.specs.declared.terms.EntryField.{EntryField}
use Rattle.gt_state_claims.specs.declared.terms.EntryField.TheVariants as entry_fields
use Rattle.gt_state_claims.specs.declared.terms.EntryTest.{EntryTest}
use Rattle.gt_state_claims.specs.declared.terms.EntryTest.TheVariants.{Missing, Kind, ReadOnly}
use Rattle.gt_state_claims.specs.declared.terms.EntryTest.TheVariants as tests

-- the next step, if there was no fault
abbrev pub then_read : {A B : Type 0} → Result A StateTermFault → (A → Result B StateTermFault) → Result B StateTermFault
then_read (Err fault) next = Err fault
then_read (Ok read) next = next read

-- what was read, or a fault if nothing was
abbrev pub read_or : {A : Type 0} → StateTermFault → Option A → Result A StateTermFault
read_or fault None = Err fault
read_or fault (Some read) = Ok read

-- a decimal number: a fault if it is none, and another if it is not below the limit
abbrev pub number_within : StateTermFault → StateTermFault → ℕ → List ℕ → Result ℕ StateTermFault
number_within absent large limit word =
    then_read (read_or absent (decimal_number word)) (λ number. read_or large (number_below limit number))

-- the bytes before the first dot, and those after it
unfoldable pub at_dot : List ℕ → Option (List ℕ × List ℕ)
at_dot [] = None
at_dot (b ∷ bs) = if b == 46 then Some ([], bs) else option_map (λ parts. (b ∷ parts.0, parts.1)) (at_dot bs)

-- the domain and the reference of `ID.REF`
abbrev pub numbers_read : List ℕ × List ℕ → Result (DomId × GrantRef) StateTermFault
numbers_read parts =
    then_read (number_within term_faults.Entry term_faults.Domain 65536 parts.0) (λ dom.
    then_read (number_within term_faults.Entry term_faults.Reference 4294967296 parts.1) (λ gref.
    Ok (record { 0 = dom }, record { 0 = gref })))

abbrev pub entry_read : List ℕ → Result (DomId × GrantRef) StateTermFault
entry_read word = then_read (read_or term_faults.Entry (at_dot word)) numbers_read

-- `=`, `<` or `>`
abbrev pub comparison_of : ℕ → Option Comparison
comparison_of b = if b == 61 then Some Equal else if b == 60 then Some Less else if b == 62 then Some Greater else None

-- the bytes before the first of these, which it is, and the bytes after it
abbrev pub with_first : ℕ → List ℕ × Comparison × List ℕ → List ℕ × Comparison × List ℕ
with_first b parts = (b ∷ parts.0, parts.1, parts.2)

abbrev pub cut_by : ℕ → List ℕ → Option Comparison → Option (List ℕ × Comparison × List ℕ)
    → Option (List ℕ × Comparison × List ℕ)
cut_by b bs (Some comparison) later = Some ([], comparison, bs)
cut_by b bs None later = option_map (with_first b) later

unfoldable pub at_comparison : List ℕ → Option (List ℕ × Comparison × List ℕ)
at_comparison [] = None
at_comparison (b ∷ bs) = cut_by b bs (comparison_of b) (at_comparison bs)

-- a field by its name: one that a sub-page or a transitive entry has beside that of a page, one that an entry has by its
-- kind, or any
abbrev pub far_field : List ℕ → Option EntryField
far_field word =
    if bytes_eq word (codes "off") then Some entry_fields.Offset
    else if bytes_eq word (codes "len") then Some entry_fields.Length
    else if bytes_eq word (codes "to") then Some entry_fields.Next
    else if bytes_eq word (codes "ref") then Some entry_fields.NextReference
    else None

abbrev pub shape_field : List ℕ → Option EntryField
shape_field word =
    if bytes_eq word (codes "grantee") then Some entry_fields.Grantee
    else if bytes_eq word (codes "frame") then Some entry_fields.Frame
    else far_field word

abbrev pub field_read : List ℕ → Option EntryField
field_read word =
    if bytes_eq word (codes "gen") then Some entry_fields.Generation
    else if bytes_eq word (codes "reads") then Some entry_fields.Reads
    else if bytes_eq word (codes "writes") then Some entry_fields.Writes
    else shape_field word

-- a number that is below 2^64
abbrev pub small_number : Number → Result ℕ StateTermFault
small_number (Small n) = Ok n
small_number Huge = Err term_faults.Large

-- `FIELD=NUMBER`, `FIELD<NUMBER` or `FIELD>NUMBER`
abbrev pub comparison_read : List ℕ × Comparison × List ℕ → Result EntryTest StateTermFault
comparison_read parts =
    then_read (read_or term_faults.Word (field_read parts.0)) (λ field.
    then_read (read_or term_faults.Number (decimal_number parts.2)) (λ number.
    then_read (small_number number) (λ n. Ok (tests.Number field parts.1 n))))

-- a kind by its name
abbrev pub kind_read : List ℕ → Option EntryKind
kind_read word =
    if bytes_eq word (codes "invalid") then Some kinds.Invalid
    else if bytes_eq word (codes "page") then Some kinds.Page
    else if bytes_eq word (codes "sub") then Some kinds.Sub
    else if bytes_eq word (codes "via") then Some kinds.Via
    else None

-- `none`, a mode or a kind
abbrev pub plain_test : List ℕ → Option EntryTest
plain_test word =
    if bytes_eq word (codes "none") then Some Missing
    else if bytes_eq word (codes "rw") then Some (ReadOnly false)
    else if bytes_eq word (codes "ro") then Some (ReadOnly true)
    else option_map Kind (kind_read word)

-- what an entry must show, by its word
abbrev pub test_by : Option EntryTest → List ℕ → Result EntryTest StateTermFault
test_by (Some test) word = Ok test
test_by None word = then_read (read_or term_faults.Word (at_comparison word)) comparison_read

abbrev pub test_read : List ℕ → Result EntryTest StateTermFault
test_read word = test_by (plain_test word) word
