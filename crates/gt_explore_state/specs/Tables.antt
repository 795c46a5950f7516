-- What steps see in tables and do to them. This is the code's own representation, and is here since contracts cite it.
use Rattle.std.specs.Prelude.{◌≡◌, ◌≢◌, ◌==◌, ◌%◌, ℕ, List, Option, Some, None, length, position, slice_get, nat_lt}
use Rattle.std.specs.Prelude.{if◌then◌else◌}
use Rattle.std.specs.Option.{option_and_then}
use Rattle.gt_types.specs.declared.DomId.{DomId}
use Rattle.gt_types.specs.declared.config.DomainConfig.{DomainConfig}
use Rattle.gt_model.specs.Words.{header_word}
use Rattle.gt_model.specs.declared.change.EntryChange.{EntryChange}
use Rattle.gt_model.specs.declared.change.BodyWord.{BodyWord}
use Rattle.gt_model.specs.declared.action.Step.{Step}
use Rattle.gt_model.specs.declared.action.Step.TheVariants.{LookHeader, LookControl, LookBody, Pin, Unpin, StoreBody}
use Rattle.gt_model.specs.declared.action.Step.TheVariants.{StoreHeader, Exchange}
use Rattle.gt_model.specs.declared.action.Step.TheVariants as call_steps
use Rattle.gt_model.specs.declared.action.Observation.{Observation}
use Rattle.gt_model.specs.declared.action.Observation.TheVariants.{Nothing, Word, Taken}
use Rattle.gt_model.specs.History.{exchange_sees}
use Rattle.gt_core.specs.Effects.{slot_after}
use Rattle.gt_explore_state.specs.Rows.{counts_in, word_in, body_in_rows, CountsBecome, OwnBecomes}
use Rattle.gt_core.specs.declared.pin_counts.CountsChange.{CountsChange}
use Rattle.gt_core.specs.declared.pin_counts.CountsChange.TheVariants.{Pinned, Unpinned, Stored}
use Rattle.gt_explore_state.specs.declared.table.SparseTable.{SparseTable}

-- both tables have the same header and rows
pub record SameTable (one other : SparseTable) : Type 0 where
  pub header : other.header ≡ one.header
  pub own : other.own.items ≡ one.own.items
  pub counts : other.counts.items ≡ one.counts.items

-- the pins or a body word of one entry change, and nothing else
pub record CountsChangeOf (r : ℕ) (change : CountsChange) (old new : SparseTable) : Type 0 where
  pub header : new.header ≡ old.header
  pub own : new.own.items ≡ old.own.items
  pub counts : CountsBecome old.counts.items new.counts.items r (slot_after change (counts_in old.counts.items r))

-- the owner changes one entry, and nothing else
pub record OwnChangeOf (first r : ℕ) (change : EntryChange) (old new : SparseTable) : Type 0 where
  pub header : new.header ≡ old.header
  pub own : OwnBecomes first old.own.items new.own.items r change
  pub counts : new.counts.items ≡ old.counts.items

-- another header is stored, as far as its word has room, and nothing else changes
pub record HeaderStored (version frames : ℕ) (old new : SparseTable) : Type 0 where
  pub header : new.header ≡ record { version = version % 4; frames = frames % 256 }
  pub own : new.own.items ≡ old.own.items
  pub counts : new.counts.items ≡ old.counts.items

-- the table at this position, if there is one, changes in this way; all others stay
pub record OneBecomes (place : Option ℕ) (Becomes : SparseTable → SparseTable → Type 0) (old new : List SparseTable) : Type 0 where
  pub many : length new ≡ length old
  pub each : (k : ℕ) (x : SparseTable) → slice_get new k ≡ Some x
      → (y : SparseTable) × (slice_get old k ≡ Some y) × (place ≡ Some k → Becomes y x) × (place ≢ Some k → x ≡ y)

-- the position, if it is below this number
abbrev pub among : Option ℕ → ℕ → Option ℕ
among None n = None
among (Some k) n = if nat_lt k n then Some k else None

-- the position of the domain with this number
abbrev pub place_of_domain : List DomainConfig → ℕ → Option ℕ
place_of_domain ds d = position (λ c. c.id.0 == d) ds

-- the tables after a step, with this observation, of the domain at a position
abbrev pub TablesAfter : List DomainConfig → ℕ → ℕ → Step → Observation → List SparseTable → List SparseTable → Type 0
TablesAfter ds first at (Pin p) Taken old new =
    OneBecomes (place_of_domain ds p.dom.0) (CountsChangeOf p.gref.0 (Pinned p.dir)) old new
TablesAfter ds first at (Unpin p holder) seen old new =
    OneBecomes (place_of_domain ds p.dom.0) (CountsChangeOf p.gref.0 (Unpinned p.dir)) old new
TablesAfter ds first at (StoreBody gref body_word word) seen old new =
    OneBecomes (Some at) (CountsChangeOf gref.0 (Stored body_word word)) old new
TablesAfter ds first at (StoreHeader version frames) seen old new =
    OneBecomes (Some at) (HeaderStored version frames) old new
TablesAfter ds first at (Exchange gref looked change) Taken old new =
    OneBecomes (Some at) (OwnChangeOf first gref.0 change) old new
TablesAfter ds first at step seen old new = new ≡ old

-- the table of the domain with this number
abbrev pub table_in : List DomainConfig → List SparseTable → ℕ → Option SparseTable
table_in ds ts d = option_and_then (slice_get ts) (place_of_domain ds d)

-- the header word of a table, 0 if there is none
abbrev pub header_in_table : Option SparseTable → ℕ
header_in_table None = 0
header_in_table (Some t) = header_word t.header

-- the control word of entry r of a table, 0 if there is none
abbrev pub word_seen : ℕ → Option SparseTable → ℕ → ℕ
word_seen first None r = 0
word_seen first (Some t) r = word_in first t.own.items t.counts.items r

-- a body word of entry r of a table, 0 if there is none
abbrev pub body_in_table : Option SparseTable → ℕ → BodyWord → ℕ
body_in_table None r body_word = 0
body_in_table (Some t) r body_word = body_in_rows t.counts.items r body_word

-- what a step of domain d sees
abbrev pub step_sees : List DomainConfig → ℕ → List SparseTable → DomId → Step → Observation
step_sees ds first ts d (LookHeader dom) = Word (header_in_table (table_in ds ts dom.0))
step_sees ds first ts d (LookControl dom gref) = Word (word_seen first (table_in ds ts dom.0) gref.0)
step_sees ds first ts d (LookBody dom gref body_word) = Word (body_in_table (table_in ds ts dom.0) gref.0 body_word)
step_sees ds first ts d (Pin p) = exchange_sees (word_seen first (table_in ds ts p.dom.0) p.gref.0) p.word
step_sees ds first ts d (Exchange gref looked change) = exchange_sees (word_seen first (table_in ds ts d.0) gref.0) looked
step_sees ds first ts d (Unpin p holder) = Nothing
step_sees ds first ts d (StoreBody gref body_word word) = Nothing
step_sees ds first ts d (StoreHeader version frames) = Nothing
step_sees ds first ts d (call_steps.Read dom frame off len) = Nothing
step_sees ds first ts d (call_steps.Write dom frame off len) = Nothing
step_sees ds first ts d (call_steps.Copy from to len) = Nothing
