-- The rows of a domain's entries, by their references. An entry without a row is in its initial state.
use Rattle.std.specs.Prelude.{◌≡◌, ◌==◌, ◌+◌, ℕ, List, [], ◌∷◌, Option, Some, None, if◌then◌else◌, min}
use Rattle.gt_types.specs.declared.limits.TheConstants.{LAST_GENERATION}
use Rattle.gt_model.specs.declared.change.EntryChange.{EntryChange}
use Rattle.gt_model.specs.declared.entry.Entry.{Entry}
use Rattle.gt_model.specs.Entries.{changed_entry, raise_of}
use Rattle.gt_model.specs.Words.{control_word}
use Rattle.gt_model.specs.Spelling.{control_with}
use Rattle.gt_calls.specs.declared.known.OwnerEntry.{OwnerEntry}
use Rattle.gt_calls.specs.Known.{entry_in, own_generation, row_entry, row_generation}
use Rattle.gt_core.specs.Sight.{slot_body}
use Rattle.gt_model.specs.declared.change.BodyWord.{BodyWord}
use Rattle.gt_core.specs.declared.pin_counts.PinCounts.{PinCounts}
use Rattle.gt_explore_state.specs.declared.rows.TableRow.{TableRow}

-- no pins, and body words of zero
abbrev pub no_counts : PinCounts
no_counts = record { reads = 0; writes = 0; first = 0; second = 0 }

-- what the row of reference r keeps, if there is one
abbrev pub value_at : {T : Type 0} → List (TableRow T) → ℕ → Option T
value_at [] r = None
value_at (x ∷ xs) r = if x.gref.0 == r then Some x.value else value_at xs r

-- the row of one reference is replaced by one that keeps this, or is removed; all others stay
abbrev pub RowsBecome : {T : Type 0} → List (TableRow T) → List (TableRow T) → ℕ → Option T → Type 0
RowsBecome old new at value = (r : ℕ) → value_at new r ≡ (if at == r then value else value_at old r)

-- the counts that a row keeps, zeros if there is no row
abbrev pub counts_kept : Option PinCounts → PinCounts
counts_kept None = no_counts
counts_kept (Some c) = c

-- the counts of entry r
abbrev pub counts_in : List (TableRow PinCounts) → ℕ → PinCounts
counts_in counts r = counts_kept (value_at counts r)

-- the entry of reference r as its owner knows it, Invalid if it has no row
abbrev pub kept_entry : List (TableRow OwnerEntry) → ℕ → Entry
kept_entry own r = row_entry (value_at own r)

-- its generation, the first one if it has no row
abbrev pub kept_generation : ℕ → List (TableRow OwnerEntry) → ℕ → ℕ
kept_generation first own r = row_generation first (value_at own r)

-- the list has what the owner knows of its entries, each at its reference
pub record ListsEntries (first : ℕ) (own : List (TableRow OwnerEntry)) (list : List OwnerEntry) : Type 0 where
  pub entries : (r : ℕ) → entry_in list r ≡ kept_entry own r
  pub generations : (r : ℕ) → own_generation first list r ≡ kept_generation first own r

-- the control word of entry r
abbrev pub word_in : ℕ → List (TableRow OwnerEntry) → List (TableRow PinCounts) → ℕ → ℕ
word_in first own counts r =
    control_word
    (control_with (kept_entry own r) (kept_generation first own r) (counts_in counts r).reads (counts_in counts r).writes)

-- the counts of each entry after those of entry `at` become these
abbrev pub CountsBecome : List (TableRow PinCounts) → List (TableRow PinCounts) → ℕ → PinCounts → Type 0
CountsBecome old new at c = (r : ℕ) → counts_in new r ≡ (if at == r then c else counts_in old r)

-- what the owner knows of each entry after it changes entry `at`
pub record OwnBecomes (first : ℕ) (old new : List (TableRow OwnerEntry)) (at : ℕ) (change : EntryChange) : Type 0 where
  pub entries : (r : ℕ) → kept_entry new r ≡ (if at == r then changed_entry change (kept_entry old r) else kept_entry old r)
  pub generations : (r : ℕ) → kept_generation first new r
      ≡ (if at == r then min (kept_generation first old r + raise_of change) LAST_GENERATION
      else kept_generation first old r)

-- a body word of entry r
abbrev pub body_in_rows : List (TableRow PinCounts) → ℕ → BodyWord → ℕ
body_in_rows counts r body_word = slot_body (Some (counts_in counts r)) body_word
