-- What the calls promise: which step was made, what it saw and what it left.
use Rattle.std.specs.Prelude.{◌≡◌, ◌≢◌, ℕ, ◌+◌, ◌-◌, ◌<◌, ◌≤◌, [], ◌∷◌}
use Rattle.gt_words.specs.Prelude.{header_of, header_word, size_of, unit_of, Entry, Header, Dir}
use Rattle.gt_words.specs.Prelude.{TABLE_ENTRIES, EntryChange, EntryStep}
use Rattle.gt_words.specs.Prelude.{ChangeMissed, Changed, Looked, PinMissed, Pinned, ReadBody, StoredBody, Unpinned}
use Rattle.gt_words.specs.Prelude.{BodyWord, HeaderStep, View, Pin, Demote, Publish, Revoke}
use Rattle.gt_word_history.specs.Controls.{generation_of, pins_in}
use Rattle.gt_words.specs.Keeping.{Holds, HoldsOneMore, Keeps, KeepsOtherRows, KeepsPins, KeepsRecords, KeepsRows}
use Rattle.gt_words.specs.Keeping.{SeesNoEarlier}
use Rattle.gt_word_history.specs.History.{StepHistory, entry_made}
use Rattle.gt_word_history.specs.Rule.{IsKeptHeader, Layout, header_place, place}
use Rattle.gt_word_history.specs.Steps.{TakesStep, changed, changed_word, body_word_index, on_entry, on_header}
use Rattle.gt_word_history.specs.Views.{IsAmong, last_of, last_seen, own_body, own_header, own_list, live_pins}
use Rattle.gt_word_history.specs.Views.{record_seen}
use Rattle.gt_word_history.specs.Views.{steps_on, steps_on_header, with_step}
use Rattle.gt_word_history.specs.declared.view.HeaderStep.TheVariants as header
use Rattle.gt_words.specs.Conditions.{Board, SeatOf, IsSeatOf, position_at, IsWordOf, IsBusyOf, MayPin, HasNoPins}
use Rattle.gt_words.specs.Conditions.{HasNoWritePins, IsNotEarlier}
pub use Rattle.gt_roster.specs.Starting.{IsStartFault}

-- the seat added the step m on the entry r of the domain t, taken after the history past, to its view, and nothing else
pub record AddsToEntry (past : StepHistory) (t r : ℕ) (m : EntryStep) (v w : View) : Type 0 where
  pub view : w ≡ with_step past (on_entry t r m) v
  pub here : steps_on t r w ≡ m ∷ steps_on t r v
  pub others : (t' r' : ℕ) → (t ≡ t' → r ≡ r' → ⊥) → steps_on t' r' w ≡ steps_on t' r' v
  pub headers : (t' : ℕ) → steps_on_header t' w ≡ steps_on_header t' v

-- the seat added the step m on the header of the domain t, taken after the history past, to its view, and nothing else
pub record AddsToHeader (past : StepHistory) (t : ℕ) (m : HeaderStep) (v w : View) : Type 0 where
  pub view : w ≡ with_step past (on_header t m) v
  pub here : steps_on_header t w ≡ m ∷ steps_on_header t v
  pub others : (t' : ℕ) → t ≢ t' → steps_on_header t' w ≡ steps_on_header t' v
  pub entries : (t' r' : ℕ) → steps_on t' r' w ≡ steps_on t' r' v

-- the step m was taken on the control word of the entry r of the domain t: it found one number there and left the other
pub record StepsOnControl (k : Layout) (t r : ℕ) (m : EntryStep) (found left : ℕ) (v w : View) : Type 0 where
  pub past : StepHistory
  pub adds : AddsToEntry past t r m v w
  pub step : TakesStep (Unit {0}) k v past (on_entry t r m) (place t r 0) found left

-- the step m was taken on the body word h of the entry r of the domain t: it found one number there and left the other
pub record StepsOnBody (k : Layout) (t r : ℕ) (h : BodyWord) (m : EntryStep) (found left : ℕ) (v w : View) : Type 0 where
  pub past : StepHistory
  pub adds : AddsToEntry past t r m v w
  pub step : TakesStep (Unit {0}) k v past (on_entry t r m) (place t r (body_word_index h)) found left

-- the step m was taken on the header word of the domain t: it found one number there and left the other
pub record StepsOnHeader (k : Layout) (t : ℕ) (m : HeaderStep) (found left : ℕ) (v w : View) : Type 0 where
  pub past : StepHistory
  pub adds : AddsToHeader past t m v w
  pub step : TakesStep (Unit {0}) k v past (on_header t m) (header_place t) found left

-- a look at the header of the domain t found this word: it encodes a header within the limits, whose table has at most
-- TABLE_ENTRIES entries
pub record LooksAtHeader (k : Layout) (t n : ℕ) (v w : View) : Type 0 where
  pub steps : StepsOnHeader k t (header.Looked n) n n v w
  pub word : n ≡ header_word (header_of n)
  pub header : IsKeptHeader (header_of n)
  pub size : size_of (header_of n) ≤ TABLE_ENTRIES
  pub keeps : Keeps v w

-- a look at the control word of the entry r of the domain t found this word
pub record LooksAtControl (k : Layout) (t r n : ℕ) (v w : View) : Type 0 where
  pub steps : StepsOnControl k t r (Looked n) n n v w
  pub not_earlier : IsNotEarlier t r v n
  pub keeps : Keeps v w

-- a look at the body word h of the entry r of the domain t found this value
pub record LooksAtBody (k : Layout) (t r : ℕ) (h : BodyWord) (n : ℕ) (v w : View) : Type 0 where
  pub steps : StepsOnBody k t r h (ReadBody h n) n n v w
  pub keeps : Keeps v w

-- the owner stored this value in the body word h of its entry r, by one step
pub record StoresBody (k : Layout) (r : ℕ) (h : BodyWord) (value : ℕ) (v w : View) : Type 0 where
  pub found : ℕ
  pub steps : StepsOnBody k v.position r h (StoredBody h value) found value v w
  pub stored : own_body r h w ≡ value
  pub other_body_word : (i : BodyWord) → h ≢ i → own_body r i w ≡ own_body r i v
  pub unchanged : own_list r w ≡ own_list r v
  pub last : last_of r w ≡ last_of r v
  pub rows : KeepsOtherRows r v w
  pub header : own_header w ≡ own_header v
  pub pins : KeepsPins v w
  pub seen : SeesNoEarlier v w

-- the owner stored this header, by one step
pub record StoresHeader (k : Layout) (h : Header) (v w : View) : Type 0 where
  pub found : ℕ
  pub steps : StepsOnHeader k v.position (header.Stored (header_word h)) found (header_word h) v w
  pub header : own_header w ≡ header_word h
  pub rows : KeepsRows v w
  pub pins : KeepsPins v w
  pub seen : SeesNoEarlier v w

-- a pin was released by one step: the word counted at least one of that kind, and now counts one less
pub record Unpins (k : Layout) (t r : ℕ) (d : Dir) (g : ℕ) (v w : View) : Type 0 where
  pub found : ℕ
  pub counted : 0 < pins_in d found
  pub steps : StepsOnControl k t r (Unpinned d g) found (found - unit_of d) v w
  pub one_less : HoldsOneMore t r d g w v
  pub records : KeepsRecords v w
  pub rows : KeepsRows v w
  pub header : own_header w ≡ own_header v
  pub seen : SeesNoEarlier v w

-- this pin was released
abbrev pub UnpinsPin : Board → Pin → View → View → Type 0
UnpinsPin b p v w = Unpins b.layout (position_at b p.dom) p.gref.0 p.dir (generation_of p.word) v w

-- a pin was released by one step, which left this control word
abbrev pub UnpinsTo : Layout → ℕ → ℕ → Dir → ℕ → ℕ → View → View → Type 0
UnpinsTo k t r d g left v w = (u : Unpins k t r d g v w) × (left ≡ u.found - unit_of d)

-- this pin was released, and the control word is then this one
abbrev pub UnpinsPinTo : Board → Pin → ℕ → View → View → Type 0
UnpinsPinTo b p left v w = UnpinsTo b.layout (position_at b p.dom) p.gref.0 p.dir (generation_of p.word) left v w

-- a pin was taken by one step: of the entry as it was last seen, which was then the last record of its owner's list,
-- and which the seat may pin
pub record Pins (k : Layout) (t r : ℕ) (d : Dir) (word : ℕ) (v w : View) : Type 0 where
  pub steps : StepsOnControl k t r (Pinned d word (record_seen (last_seen t r v))) word (word + unit_of d) v w
  pub current : (entry_made k t r steps.past).current ≡ record_seen (last_seen t r v)
  pub permitted : MayPin k t r v d (record_seen (last_seen t r v))
  pub held : Holds t r d (generation_of word) w
  pub pin : IsAmong (d, record_seen (last_seen t r v)) (live_pins (steps_on t r w))
  pub one_more : HoldsOneMore t r d (generation_of word) v w
  pub records : KeepsRecords v w
  pub rows : KeepsRows v w
  pub header : own_header w ≡ own_header v
  pub seen : SeesNoEarlier v w

-- a pin was missed: another word was found
pub record MissesPin (k : Layout) (t r : ℕ) (d : Dir) (word found : ℕ) (v w : View) : Type 0 where
  pub another : found ≢ word
  pub steps : StepsOnControl k t r (PinMissed d word (word + unit_of d) found) found found v w
  pub not_earlier : IsNotEarlier t r v found
  pub keeps : Keeps v w

-- the owner's exchange was taken, and its last record of the entry r is the one that the change makes of the record
-- before
pub record Changes (k : Layout) (r : ℕ) (c : EntryChange) (word : ℕ) (v w : View) : Type 0 where
  pub steps : StepsOnControl k v.position r
      (Changed c word (changed_word c (last_of r v) word) (changed c (last_of r v))) word
      (changed_word c (last_of r v) word) v w
  pub last : last_of r w ≡ changed c (last_of r v)
  pub bodies : (h : BodyWord) → own_body r h w ≡ own_body r h v
  pub rows : KeepsOtherRows r v w
  pub header : own_header w ≡ own_header v
  pub pins : KeepsPins v w
  pub seen : SeesNoEarlier v w

-- the owner's exchange was missed: another word of the same record was found
pub record MissesChange (k : Layout) (r : ℕ) (c : EntryChange) (word found : ℕ) (v w : View) : Type 0 where
  pub another : found ≢ word
  pub same_record : IsWordOf (last_of r v) found
  pub steps : StepsOnControl k v.position r
      (ChangeMissed c word (changed_word c (last_of r v) word) found) found found v w
  pub not_earlier : IsNotEarlier v.position r v found
  pub keeps : Keeps v w

-- the owner's exchange was missed: a word of the same record with pins was found
pub record MissesBusy (k : Layout) (r : ℕ) (c : EntryChange) (word found : ℕ) (v w : View) : Type 0 where
  pub missed : MissesChange k r c word found v w
  pub busy : IsBusyOf (last_of r v) found

-- the entry was published by one exchange, and no seat then had a pin of an earlier record of it
pub record Publishes (k : Layout) (r : ℕ) (e : Entry) (word : ℕ) (v w : View) : Type 0 where
  pub changes : Changes k r (Publish e) word v w
  pub no_pins : HasNoPins v.position r changes.steps.past

-- the entry was made invalid by one exchange, and no seat then had a pin of it
pub record Revokes (k : Layout) (r : ℕ) (word : ℕ) (v w : View) : Type 0 where
  pub changes : Changes k r Revoke word v w
  pub no_pins : HasNoPins v.position r changes.steps.past

-- the entry was made read-only by one exchange, and no seat then had a write pin of it
pub record Demotes (k : Layout) (r : ℕ) (word : ℕ) (v w : View) : Type 0 where
  pub changes : Changes k r Demote word v w
  pub no_write_pins : HasNoWritePins v.position r changes.steps.past

-- the seat at the position i, which has made no step
pub record IsNewSeat (b : Board) (i : ℕ) (s : SeatOf) : Type 0 where
  pub seat : IsSeatOf b s
  pub position : s.view.position ≡ i
  pub first : s.view.first ≡ b.layout.first
  pub headers : s.view.headers ≡ b.layout.headers
  pub steps : s.view.steps ≡ []
