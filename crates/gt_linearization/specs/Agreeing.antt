-- When the core's items and the steps of the words have made the same entries and headers.
use Rattle.std.specs.Prelude.{◌≡◌, ℕ, ◌<◌}
use Rattle.gt_linearization.specs.Prelude.{TABLE_ENTRIES, header_word, BodyWord, HasDomain, generation_of, StepHistory, Layout}
use Rattle.gt_linearization.specs.Prelude.{body_word_index, part_of, word_after, header_place, id_at, place, position_in, changed}
use Rattle.gt_linearization.specs.Prelude.{changed_word, entry_steps, last_record, EntryRecord, Looked, ReadBody, Pinned}
use Rattle.gt_linearization.specs.Prelude.{PinMissed, Unpinned, StoredBody, Changed, ChangeMissed, SeatStep, Entry, Header}
use Rattle.gt_linearization.specs.Prelude.{DomId, Step, LookHeader, LookControl, LookBody, Unpin, StoreBody, StoreHeader}
use Rattle.gt_linearization.specs.Prelude.{Exchange, History, Setting, body_at, entry_at, generation_at, table_at, word_at}
use Rattle.gt_model.specs.declared.action.Step.TheVariants as call_steps
use Rattle.std.specs.Prelude.{length}
use Rattle.gt_linearization.specs.Prelude.{Frame, journal_made, patches, patches_at}
use Rattle.gt_word_history.specs.declared.view.FrameStep.TheVariants as frame_steps
use Rattle.gt_word_history.specs.declared.view.HeaderStep.TheVariants as header

-- the domain at a position
abbrev pub dom_at : Layout → ℕ → DomId
dom_at k t = id_at k.ids t

-- the items and the history have made the same: of each entry the control word, the body words, and the entry and
-- generation that its owner knows, and of each table its header
pub record Agree (s : Setting) (k : Layout) (g : History) (h : StepHistory) : Type 0 where
  pub words : (t r : ℕ) → t < k.domains → r < TABLE_ENTRIES → word_at s g (dom_at k t).0 r ≡ word_after k h (place t r 0)
  pub bodies : (t r : ℕ) (body_word : BodyWord) → t < k.domains → r < TABLE_ENTRIES
      → body_at g (dom_at k t).0 r body_word ≡ word_after k h (place t r (body_word_index body_word))
  pub headers : (t : ℕ) → t < k.domains → header_word (table_at s g (dom_at k t)) ≡ word_after k h (header_place t)
  pub entries : (t r : ℕ) → t < k.domains → r < TABLE_ENTRIES
      → entry_at g (dom_at k t).0 r ≡ (last_record k.first (entry_steps t r (part_of t h))).entry
  pub generations : (t r : ℕ) → t < k.domains → r < TABLE_ENTRIES
      → generation_at s g (dom_at k t).0 r ≡ (last_record k.first (entry_steps t r (part_of t h))).generation

-- items and history have written the same bytes to each frame of the run, in the same order
abbrev pub WritesAgree : Layout → History → StepHistory → Type 0
WritesAgree k g h = (t f : ℕ) → t < k.domains → patches_at g (dom_at k t).0 f ≡ patches (journal_made t f h)

-- this step of a call by the domain at the position i is this step of its seat: on the same word, of the same kind, and
-- for an exchange from the same word, whether it was taken or missed; or an access to the same range of the same frame
abbrev pub IsThe : Layout → ℕ → Step → SeatStep → Type 0
IsThe k i (LookHeader d) (Header t (header.Looked n)) = t ≡ position_in k.ids d
IsThe k i (LookControl d q) (Entry t r (Looked n)) = (t ≡ position_in k.ids d) × (r ≡ q.0)
IsThe k i (LookBody d q body_word) (Entry t r (ReadBody h n)) = (t ≡ position_in k.ids d) × (r ≡ q.0) × (h ≡ body_word)
IsThe k i (call_steps.Pin p) (Entry t r (Pinned d e x)) =
    (t ≡ position_in k.ids p.dom) × (r ≡ p.gref.0) × (d ≡ p.dir) × (e ≡ p.word)
IsThe k i (call_steps.Pin p) (Entry t r (PinMissed d e f n)) =
    (t ≡ position_in k.ids p.dom) × (r ≡ p.gref.0) × (d ≡ p.dir) × (e ≡ p.word)
IsThe k i (Unpin p holder) (Entry t r (Unpinned d g)) =
    (t ≡ position_in k.ids p.dom) × (r ≡ p.gref.0) × (d ≡ p.dir) × (g ≡ generation_of p.word)
IsThe k i (StoreBody q body_word n) (Entry t r (StoredBody h m)) = (t ≡ i) × (r ≡ q.0) × (h ≡ body_word) × (m ≡ n)
IsThe k i (StoreHeader version frames) (Header t (header.Stored n)) =
    (t ≡ i) × (n ≡ header_word (record { version = version; frames = frames }))
IsThe k i (Exchange q looked change) (Entry t r (Changed c e n x)) =
    (t ≡ i) × (r ≡ q.0) × (c ≡ change) × (e ≡ looked)
IsThe k i (Exchange q looked change) (Entry t r (ChangeMissed c e f n)) =
    (t ≡ i) × (r ≡ q.0) × (c ≡ change) × (e ≡ looked)
IsThe k i (call_steps.Read dom frame off len) (Frame t q (frame_steps.Read o bytes)) =
    (t ≡ position_in k.ids dom) × (q ≡ frame) × (o ≡ off) × (length bytes ≡ len)
IsThe k i (call_steps.Write dom frame off len) (Frame t q (frame_steps.Wrote r)) =
    (t ≡ position_in k.ids dom) × (q ≡ frame) × (r.off ≡ off)
IsThe k i (call_steps.Copy from to len) (Frame t q (frame_steps.Copied u f o r)) =
    (t ≡ position_in k.ids to.frame.owner) × (q ≡ to.frame.number) × (r.off ≡ to.off)
    × (u ≡ position_in k.ids from.frame.owner) × (f ≡ from.frame.number) × (o ≡ from.off) × (length r.bytes ≡ len)
IsThe k i _ _ = ⊥

-- the step is on words of entries and headers of the run
abbrev pub IsWithin : Layout → Step → Type 0
IsWithin k (LookHeader d) = HasDomain k d
IsWithin k (LookControl d q) = HasDomain k d × (q.0 < TABLE_ENTRIES)
IsWithin k (LookBody d q body_word) = HasDomain k d × (q.0 < TABLE_ENTRIES)
IsWithin k (call_steps.Pin p) = HasDomain k p.dom × (p.gref.0 < TABLE_ENTRIES)
IsWithin k (Unpin p holder) = HasDomain k p.dom × (p.gref.0 < TABLE_ENTRIES)
IsWithin k (StoreBody q body_word n) = q.0 < TABLE_ENTRIES
IsWithin k (Exchange q looked change) = q.0 < TABLE_ENTRIES
IsWithin k (StoreHeader version frames) = Unit {0}
IsWithin k step = ⊥

-- the owner's last record of the entry r of the domain at the position t, as the history makes it
abbrev pub last_at : Layout → ℕ → ℕ → StepHistory → EntryRecord
last_at k t r h = last_record k.first (entry_steps t r (part_of t h))

-- a taken exchange stored the word and the record that its change makes of the last record
abbrev pub StoresChange : Layout → StepHistory → SeatStep → Type 0
StoresChange k h (Entry t r (Changed c e n x)) =
    (n ≡ changed_word c (last_at k t r h) e) × (x ≡ changed c (last_at k t r h))
StoresChange k h x = Unit {0}
