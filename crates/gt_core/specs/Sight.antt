-- What steps see in the states of the domains: the code's own representation. It is in specs/ because private
-- contracts cite it.
use Rattle.std.specs.Prelude.{ℕ, ◌==◌, if◌then◌else◌, List, [], ◌∷◌, Option, Some, None, slice_get}
use Rattle.gt_types.specs.declared.DomId.{DomId}
use Rattle.gt_model.specs.declared.change.BodyWord.{BodyWord}
use Rattle.gt_model.specs.declared.change.BodyWord.TheVariants as body_words
use Rattle.gt_model.specs.Words.{control_word, header_word}
use Rattle.gt_model.specs.declared.action.Step.{Step}
use Rattle.gt_model.specs.declared.action.Step.TheVariants.{LookHeader, LookControl, LookBody, Pin, Unpin, StoreBody}
use Rattle.gt_model.specs.declared.action.Step.TheVariants.{StoreHeader, Exchange}
use Rattle.gt_model.specs.declared.action.Step.TheVariants as call_steps
use Rattle.gt_model.specs.declared.action.Observation.{Observation}
use Rattle.gt_model.specs.declared.action.Observation.TheVariants.{Nothing, Word}
use Rattle.gt_calls.specs.declared.known.OwnerEntry.{OwnerEntry}
use Rattle.gt_core.specs.declared.pin_counts.PinCounts.{PinCounts}
use Rattle.gt_core.specs.States.{State}
use Rattle.gt_model.specs.Rules.{control_with}
use Rattle.gt_calls.specs.Known.{entry_in, own_generation}
pub use Rattle.gt_model.specs.History.{exchange_sees}

-- the read pins in a slot, 0 if there is none
abbrev pub slot_reads : Option PinCounts → ℕ
slot_reads None = 0
slot_reads (Some slot) = slot.reads

-- the write pins in a slot, 0 if there is none
abbrev pub slot_writes : Option PinCounts → ℕ
slot_writes None = 0
slot_writes (Some slot) = slot.writes

-- a body word in a slot, 0 if there is none
abbrev pub slot_body : Option PinCounts → BodyWord → ℕ
slot_body None which = 0
slot_body (Some slot) body_words.Second = slot.second
slot_body (Some slot) body_words.First = slot.first

-- the read pins in slot r
abbrev pub reads_in : List PinCounts → ℕ → ℕ
reads_in slots r = slot_reads (slice_get slots r)

-- the write pins in slot r
abbrev pub writes_in : List PinCounts → ℕ → ℕ
writes_in slots r = slot_writes (slice_get slots r)

-- a body word in slot r
abbrev pub body_in : List PinCounts → ℕ → BodyWord → ℕ
body_in slots r which = slot_body (slice_get slots r) which

-- the control word of an owner's row and a slot
abbrev pub control_in : List OwnerEntry → List PinCounts → ℕ → ℕ
control_in own slots r =
    control_word (control_with (entry_in own r) (own_generation 0 own r) (reads_in slots r) (writes_in slots r))

-- the header word of domain d, 0 if there is no such state
abbrev pub header_seen : List State → ℕ → ℕ
header_seen [] d = 0
header_seen (x ∷ xs) d = if x.id.0 == d then header_word x.header else header_seen xs d

-- the control word of entry r of domain d, 0 if there is no such state
abbrev pub control_seen : List State → ℕ → ℕ → ℕ
control_seen [] d r = 0
control_seen (x ∷ xs) d r = if x.id.0 == d then control_in x.own x.slots r else control_seen xs d r

-- a body word of entry r of domain d, 0 if there is no such state
abbrev pub body_seen : List State → ℕ → ℕ → BodyWord → ℕ
body_seen [] d r which = 0
body_seen (x ∷ xs) d r which = if x.id.0 == d then body_in x.slots r which else body_seen xs d r which

-- what a step of the domain sees
abbrev pub sees : List State → DomId → Step → Observation
sees xs d (LookHeader dom) = Word (header_seen xs dom.0)
sees xs d (LookControl dom gref) = Word (control_seen xs dom.0 gref.0)
sees xs d (LookBody dom gref body_word) = Word (body_seen xs dom.0 gref.0 body_word)
sees xs d (Pin p) = exchange_sees (control_seen xs p.dom.0 p.gref.0) p.word
sees xs d (Exchange gref looked change) = exchange_sees (control_seen xs d.0 gref.0) looked
sees xs d (Unpin p holder) = Nothing
sees xs d (StoreBody gref body_word word) = Nothing
sees xs d (StoreHeader version frames) = Nothing
sees xs d (call_steps.Read dom frame off len) = Nothing
sees xs d (call_steps.Write dom frame off len) = Nothing
sees xs d (call_steps.Copy from to len) = Nothing
