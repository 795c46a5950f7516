-- Scripts for `play` that show a moment.
use Rattle.std.specs.Prelude.{◌≡◌, ◌⊎◌, ◌+◌, ◌++◌, ℕ, true, false, List, [], ◌∷◌, Option, Some, None, Ok, codes, decimal}
use Rattle.std.specs.Prelude.{if◌then◌else◌}
use Rattle.gt_types.specs.declared.DomId.{DomId}
use Rattle.gt_core.specs.declared.core_state.EntryView.{EntryView}
use Rattle.gt_explore_witness.specs.GivingAnswers.{may_not_unmap}
use Rattle.gt_script.specs.Contents.{Contents}
use Rattle.gt_script.specs.Script.{ReadsAsScript}
use Rattle.gt_script_runs.specs.Playing.{Played}
use Rattle.gt_script_runs.specs.Rights.{may_in}
use Rattle.gt_script_runs.specs.Showing.{show_line}
use Rattle.gt_state_claims.specs.Claims.{ClaimAsked, EntriesShown, claim_holds}
use Rattle.gt_moment_scripts.specs.Naming.{entries_named, is_same_entry}
use Rattle.gt_moment_scripts.specs.declared.naming.NamedEntry.{NamedEntry}
use Rattle.gt_moment_scripts.specs.declared.rows.EntryRow.{EntryRow}

-- what the first of these rows of an entry shows
abbrev pub shown_among : List EntryRow → DomId → ℕ → Option EntryView
shown_among [] dom r = None
shown_among (row ∷ rows) dom r = if is_same_entry row.entry dom r then row.shown else shown_among rows dom r

-- the lines that `play` prints for a `show` of each of these entries, the first on this line
abbrev pub show_lines : ℕ → List NamedEntry → EntriesShown → List ℕ
show_lines line [] view = []
show_lines line (entry ∷ entries) view =
    show_line line entry.dom entry.gref (view entry.dom entry.gref.0) ++ show_lines (line + 1) entries view

-- a text has this piece
abbrev pub HasPiece : List ℕ → List ℕ → Type 0
HasPiece text piece = (front : List ℕ) × (back : List ℕ) × (text ≡ front ++ (piece ++ back))

-- `play` prints for the script, on lines one after the other, what the entries show that the claim names, and the claim
-- holds of that
pub record ShowsMoment (claim : ClaimAsked) (script : List ℕ) : Type 0 where
  pub out : List ℕ
  pub played : Played (ReadsAsScript script) false (Some []) (Some out) (Ok tt)
  pub view : EntriesShown
  pub holds : claim_holds claim view ≡ true
  pub line : ℕ
  pub shown : HasPiece out (show_lines line (entries_named claim) view)

-- the line in place of a script for `play` that was not found: this domain leaves with a mapping that it may not unmap
abbrev pub no_script_line : ℕ → List ℕ
no_script_line dom =
    codes "# no script for play gives it: domain " ++ decimal dom
    ++ codes " leaves with a mapping that it may not unmap\n"

-- this is that line, and the policy does not let the domain unmap the entries of some domain; `play` has no line for a
-- domain that leaves with such a mapping
abbrev pub IsWithoutScript : Contents → List ℕ → Type 0
IsWithoutScript c lines =
    (dom : DomId) × (may_not_unmap (may_in c) c.domains dom ≡ true) × (lines ≡ no_script_line dom.0)

-- the output is this comment and more lines: a script for `play` that shows a moment at which the claim holds; or the
-- line in its place, if the policy does not let some domain unmap all entries
abbrev pub ShowsAfterComment : Contents → ClaimAsked → List ℕ → List ℕ → Type 0
ShowsAfterComment c claim comment out =
    (lines : List ℕ) × (out ≡ comment ++ lines) × (ShowsMoment claim out ⊎ IsWithoutScript c lines)
