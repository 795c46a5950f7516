-- What the table of a domain shows.
use Rattle.std.specs.Prelude.{◌≡◌, ◌≢◌, ℕ, Option, Some, None, nat_lt, if◌then◌else◌}
use Rattle.gt_types.specs.Names.{domain_of}
use Rattle.gt_types.specs.declared.DomId.{DomId}
use Rattle.gt_core.specs.Shown.{entry_shown}
use Rattle.gt_core.specs.declared.core_state.EntryView.{EntryView}
use Rattle.gt_explore_state.specs.Shows.{TableShows}
use Rattle.gt_explore_state.specs.declared.table.SparseTable.{SparseTable}
use Rattle.gt_model.specs.History.{History, Setting, table_at}
use Rattle.gt_model.specs.Rules.{size_of}

-- the table is that of this domain; there is none if the run has no such domain
abbrev pub ShowsTableOf : Setting → History → DomId → Option SparseTable → Type 0
ShowsTableOf s h d None = domain_of s.domains d ≡ None
ShowsTableOf s h d (Some t) = (domain_of s.domains d ≢ None) × TableShows s h d t

-- what an entry of a domain shows, nothing for a reference beyond its table
abbrev pub shown_in_table : Setting → History → DomId → ℕ → Option EntryView
shown_in_table s h d r = if nat_lt r (size_of (table_at s h d)) then Some (entry_shown s h d r) else None
