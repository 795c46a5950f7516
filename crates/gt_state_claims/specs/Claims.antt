-- What a claim about states asks of the entries of one moment.
use Rattle.std.specs.Prelude.{◌≡◌, ◌==◌, ◌&&◌, ℕ, Bool, true, false, not, nat_lt, if◌then◌else◌}
use Rattle.std.specs.Prelude.{List, map, Option, Some, None}
use Rattle.std.specs.List.{list_all, list_any}
use Rattle.gt_types.specs.declared.DomId.{DomId}
use Rattle.gt_types.specs.declared.GrantRef.{GrantRef}
use Rattle.gt_model.specs.Entries.{is_invalid, is_read_only}
use Rattle.gt_model.specs.Words.{is_kind}
use Rattle.gt_model.specs.declared.control.EntryKind.{EntryKind}
use Rattle.gt_model.specs.declared.control.EntryKind.TheVariants as kinds
use Rattle.gt_model.specs.declared.entry.Entry.{Entry}
use Rattle.gt_model.specs.declared.entry.Entry.TheVariants as entries
use Rattle.gt_core.specs.declared.core_state.EntryView.{EntryView}
use Rattle.gt_state_claims.specs.declared.claims.StateClaim.{StateClaim}
use Rattle.gt_state_claims.specs.declared.terms.Comparison.{Comparison}
use Rattle.gt_state_claims.specs.declared.terms.Comparison.TheVariants.{Equal, Less, Greater}
use Rattle.gt_state_claims.specs.declared.terms.EntryField.{EntryField}
use Rattle.gt_state_claims.specs.declared.terms.EntryField.TheVariants as entry_fields
use Rattle.gt_state_claims.specs.declared.terms.EntryTest.{EntryTest}
use Rattle.gt_state_claims.specs.declared.terms.EntryTest.TheVariants.{Missing, Kind, ReadOnly, Number}
use Rattle.gt_state_claims.specs.declared.terms.StateTerm.{StateTerm}

-- the kind of an entry, the first word that is shown
abbrev pub shown_kind : Entry → EntryKind
shown_kind entries.Invalid = kinds.Invalid
shown_kind (entries.Page dom ro frame) = kinds.Page
shown_kind (entries.Sub dom ro frame off len) = kinds.Sub
shown_kind (entries.Via dom ro next gref) = kinds.Via

-- the modes are the same
abbrev pub is_mode : Bool → Bool → Bool
is_mode true read_only = read_only
is_mode false read_only = not read_only

-- an entry shows this mode; an invalid one shows none
abbrev pub mode_shown : Entry → Bool → Bool
mode_shown entry read_only = not (is_invalid entry) && is_mode (is_read_only entry) read_only

-- the number of a field that a page shows, a sub-page, and a transitive entry
abbrev pub page_number : EntryField → DomId → ℕ → Option ℕ
page_number entry_fields.Grantee dom frame = Some dom.0
page_number entry_fields.Frame dom frame = Some frame
page_number _ dom frame = None

abbrev pub sub_number : EntryField → DomId → ℕ → ℕ → ℕ → Option ℕ
sub_number entry_fields.Grantee dom frame off len = Some dom.0
sub_number entry_fields.Frame dom frame off len = Some frame
sub_number entry_fields.Offset dom frame off len = Some off
sub_number entry_fields.Length dom frame off len = Some len
sub_number _ dom frame off len = None

abbrev pub via_number : EntryField → DomId → DomId → GrantRef → Option ℕ
via_number entry_fields.Grantee dom next gref = Some dom.0
via_number entry_fields.Next dom next gref = Some next.0
via_number entry_fields.NextReference dom next gref = Some gref.0
via_number _ dom next gref = None

abbrev pub entry_number : EntryField → Entry → Option ℕ
entry_number field entries.Invalid = None
entry_number field (entries.Page dom ro frame) = page_number field dom frame
entry_number field (entries.Sub dom ro frame off len) = sub_number field dom frame off len
entry_number field (entries.Via dom ro next gref) = via_number field dom next gref

-- the number of a field, if the entry shows it
abbrev pub number_shown : EntryField → EntryView → Option ℕ
number_shown entry_fields.Generation shown = Some shown.generation
number_shown entry_fields.Reads shown = Some shown.reads
number_shown entry_fields.Writes shown = Some shown.writes
number_shown field shown = entry_number field shown.entry

-- a number that may be shown compares so with another one
abbrev pub compares : Comparison → Option ℕ → ℕ → Bool
compares comparison None number = false
compares Equal (Some shown) number = shown == number
compares Less (Some shown) number = nat_lt shown number
compares Greater (Some shown) number = nat_lt number shown

-- an entry that shows this meets a test
abbrev pub is_test_met_by : EntryTest → EntryView → Bool
is_test_met_by Missing shown = false
is_test_met_by (Kind kind) shown = is_kind (shown_kind shown.entry) kind
is_test_met_by (ReadOnly read_only) shown = mode_shown shown.entry read_only
is_test_met_by (Number field comparison number) shown = compares comparison (number_shown field shown) number

-- the same; nothing is shown beyond the table
abbrev pub is_missing : EntryTest → Bool
is_missing Missing = true
is_missing _ = false

abbrev pub is_test_met : EntryTest → Option EntryView → Bool
is_test_met test None = is_missing test
is_test_met test (Some shown) = is_test_met_by test shown

-- what each domain's entries show
abbrev pub EntriesShown : Type 0
EntriesShown = DomId → ℕ → Option EntryView

-- a term holds of the entries of one moment
abbrev pub term_holds : StateTerm → EntriesShown → Bool
term_holds term view = if term.denied then not (is_test_met term.test (view term.dom term.gref.0))
    else is_test_met term.test (view term.dom term.gref.0)

-- a claim as lists: choices, and the terms of each
abbrev pub ClaimAsked : Type 0
ClaimAsked = List (List StateTerm)

abbrev pub claim_asked : StateClaim → ClaimAsked
claim_asked claim = map (λ terms. terms.items) claim.choices.items

-- a claim holds of the entries of one moment: all terms of one of its choices do
abbrev pub choice_holds : List StateTerm → EntriesShown → Bool
choice_holds terms view = list_all (λ term. term_holds term view) terms

abbrev pub claim_holds : ClaimAsked → EntriesShown → Bool
claim_holds claim view = list_any (λ terms. choice_holds terms view) claim

-- what may be returned for each entry is what this view has
abbrev pub ShowsOnly : (DomId → ℕ → Option EntryView → Type 0) → EntriesShown → Type 0
ShowsOnly shows view = (dom : DomId) (r : ℕ) (shown : Option EntryView) → shows dom r shown → shown ≡ view dom r
