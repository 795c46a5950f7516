-- What an entry shows.
use Rattle.std.specs.Prelude.{ℕ, ◌&&◌, is_some, nat_lt, if◌then◌else◌, Option, Some, None}
use Rattle.gt_types.specs.Names.{domain_of}
use Rattle.gt_types.specs.declared.DomId.{DomId}
use Rattle.gt_calls.specs.declared.known.OwnerEntry.{OwnerEntry}
use Rattle.gt_core.specs.declared.pin_counts.PinCounts.{PinCounts}
use Rattle.gt_core.specs.declared.core_state.EntryView.{EntryView}
use Rattle.gt_model.specs.Rules.{size_of}
use Rattle.gt_model.specs.History.{History, Setting, entry_at, generation_at, reads_at, writes_at, table_at}

-- what the rows of an entry show
abbrev pub shown_in : Option OwnerEntry → Option PinCounts → Option EntryView
shown_in None slot = None
shown_in (Some own) None = None
shown_in (Some own) (Some slot) =
    Some (record { entry = own.entry; generation = own.generation; reads = slot.reads; writes = slot.writes })

-- what an entry shows after these items
abbrev pub entry_shown : Setting → History → DomId → ℕ → EntryView
entry_shown s h dom r =
    record {
      entry = entry_at h dom.0 r;
      generation = generation_at s h dom.0 r;
      reads = reads_at h dom.0 r;
      writes = writes_at h dom.0 r;
    }

-- the same, but nothing for a reference beyond the table, or for a number that is not a domain's
abbrev pub shown_at : Setting → History → DomId → ℕ → Option EntryView
shown_at s h dom r =
    if is_some (domain_of s.domains dom) && nat_lt r (size_of (table_at s h dom))
    then Some (entry_shown s h dom r)
    else None
