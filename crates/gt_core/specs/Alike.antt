-- Runs that are equal except for the keys of handles, which a run may choose.
use Rattle.std.specs.Prelude.{◌≡◌, ◌≤◌, ◌⊎◌, ℕ, List, [], ◌∷◌, Option, Some}
use Rattle.gt_core.specs.Prelude.{option_map, Bor, inl, inr, DomId, Handle, SERIAL_LIMIT, Request, OpenRequest, Unmap}
use Rattle.gt_core.specs.Prelude.{Release, Load, Store, Step, Unpin, asked, Answer, Mapped, Bytes, Event, Begin, Tick}
use Rattle.gt_core.specs.Prelude.{ItemEvent, Began, Stepped, Item, Element}
use Rattle.gt_model.specs.declared.trace.Element.TheVariants as elements
use Rattle.gt_model.specs.declared.request.PinHolder.TheVariants as holders
use Rattle.gt_model.specs.declared.request.Request.TheVariants as requests
use Rattle.gt_model.specs.History.{History, Setting}
use Rattle.gt_model.specs.Legal.{IsRight}

-- equal except for keys

-- a handle without its key
abbrev pub bare_handle : Handle → Handle
bare_handle handle = record { serial = handle.serial; key = 0 }

-- borrowed bytes, wherever they are in memory
abbrev pub bare_bytes : Bor (List ℕ) → Bor (List ℕ)
bare_bytes bytes = record { ref_ptr = (0, 0); now = bytes.now }

-- a request without the key of its handle
abbrev pub bare_request : Request → Request
bare_request (requests.GrantBytes gref bytes) = requests.GrantBytes gref (bare_bytes bytes)
bare_request (requests.Unmap handle) = requests.Unmap (bare_handle handle)
bare_request (requests.Release handle) = requests.Release (bare_handle handle)
bare_request (requests.Load handle off len) = requests.Load (bare_handle handle) off len
bare_request (requests.Store handle off bytes) = requests.Store (bare_handle handle) off (bare_bytes bytes)
bare_request (requests.Poke frame off bytes) = requests.Poke frame off (bare_bytes bytes)
bare_request request = request

-- an event without the key of its request's handle
abbrev pub bare_event : Event → Event
bare_event (Begin d request) = Begin d (bare_request request)
bare_event (Tick d) = Tick d

-- a step without the key of the handle whose mapping it drops
abbrev pub bare_step : Step → Step
bare_step (Unpin p (holders.Mapping handle)) = Unpin p (holders.Mapping (bare_handle handle))
bare_step step = step

-- an item's event without keys
abbrev pub bare_happened : ItemEvent → ItemEvent
bare_happened (Began request) = Began (bare_request request)
bare_happened (Stepped step seen) = Stepped (bare_step step) seen

-- the value of an answer: its bytes, or the answer itself without a key
abbrev pub keyless_answer : Answer → Answer ⊎ List ℕ
keyless_answer (Mapped handle) = inl (Mapped (bare_handle handle))
keyless_answer (Bytes b) = inr b.bytes.items
keyless_answer answer = inl answer

-- an item without keys: its domain, its event, and the value of its answer
pub record KeylessItem : Type 0 where
  pub actor : DomId
  pub happened : ItemEvent
  pub answer : Option (Answer ⊎ List ℕ)

-- this item without keys
abbrev pub keyless_item : Item → KeylessItem
keyless_item i = record {
  actor = i.actor;
  happened = bare_happened i.happened;
  answer = option_map keyless_answer i.answer;
}

-- the items without keys
unfoldable pub keyless_items : History → List KeylessItem
keyless_items [] = []
keyless_items (i ∷ before) = keyless_item i ∷ keyless_items before

-- the histories are equal except for keys, item by item
abbrev pub SameHistory : History → History → Type 0
SameHistory one other = keyless_items one ≡ keyless_items other

-- the events are equal except for keys
abbrev pub SameEvent : Event → Event → Type 0
SameEvent one other = bare_event one ≡ bare_event other

-- the elements are equal except for keys
abbrev pub SameElement : Element → Element → Type 0
SameElement (elements.Item i) (elements.Item j) = keyless_item i ≡ keyless_item j
SameElement one other = one ≡ other

-- handles that were answered

-- a map of the domain was answered with this handle
unfoldable pub IsGiven : History → ℕ → Handle → Type 0
IsGiven [] d handle = ⊥
IsGiven (i ∷ before) d handle = ((i.actor.0 ≡ d) × (i.answer ≡ Some (Mapped handle))) ⊎ IsGiven before d handle

-- a map of the domain was answered with this handle, or its serial is one that no map is answered with
abbrev pub IsKnown : History → ℕ → Handle → Type 0
IsKnown h d handle = IsGiven h d handle ⊎ (SERIAL_LIMIT ≤ handle.serial)

-- the handle that the request names is known
abbrev pub AsksKnown : History → ℕ → OpenRequest → Type 0
AsksKnown h d (Unmap handle) = IsKnown h d handle
AsksKnown h d (Release handle) = IsKnown h d handle
AsksKnown h d (Load handle off len) = IsKnown h d handle
AsksKnown h d (Store handle off len) = IsKnown h d handle
AsksKnown h d request = Unit {0}

-- the event names only a handle that is known to its domain
abbrev pub IsOfKnown : History → Event → Type 0
IsOfKnown h (Begin d request) = AsksKnown h d.0 (asked request)
IsOfKnown h (Tick d) = Unit {0}

-- the item names only a known handle
abbrev pub HappensKnown : History → Item → Type 0
HappensKnown h i = IsOfHappened i.happened
  where
    IsOfHappened : ItemEvent → Type 0
    IsOfHappened (Began request) = AsksKnown h i.actor.0 (asked request)
    IsOfHappened (Stepped step seen) = Unit {0}

-- the items follow one another by what may happen, and their requests name only known handles
unfoldable pub IsRun : Setting → History → Type 0
IsRun s [] = Unit {0}
IsRun s (i ∷ before) = IsRight s before i × HappensKnown before i × IsRun s before

-- two runs whose histories are equal except for keys
pub record AreAlike (s : Setting) (one other : History) : Type 0 where
  pub first : IsRun s one
  pub second : IsRun s other
  pub same : SameHistory one other
