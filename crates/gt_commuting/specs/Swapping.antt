-- When two histories look the same, and when the items of two domains may change places.
use Rattle.std.specs.Prelude.{◌≡◌, ◌⊎◌, ◌==◌, ◌&&◌, ◌||◌, not, ℕ, Bool, true, false, List, [], ◌∷◌, count_by}
use Rattle.gt_core.specs.Prelude.{DomId, PinHolder, HeldPin, Step, LookHeader, LookControl, LookBody, Exchange, Request}
use Rattle.gt_core.specs.Prelude.{Observation, StoreBody, StoreHeader, Unpin, BodyWord, Item, ItemEvent, Began, Stepped}
use Rattle.gt_core.specs.Prelude.{Patch, Dir}
use Rattle.gt_model.specs.declared.action.Step.TheVariants as call_steps
use Rattle.gt_model.specs.History.{History, Setting, entry_at, raises_at, body_at, table_at, open_call, live, gather}
use Rattle.gt_model.specs.History.{reads_at, writes_at, maps_answered_at, patches_at, patches_by, written_by}
use Rattle.gt_model.specs.History.{given_in, contents_at, is_pin_on, without}
use Rattle.gt_model.specs.FirstRule.{stood}
use Rattle.gt_model.specs.Legal.{IsRight}

-- histories that look the same

-- a pin with its holder
abbrev pub with_holder : PinHolder → HeldPin → List (PinHolder × HeldPin)
with_holder holder held = (holder, held) ∷ []

-- the live pins of a domain, each with its holder, the oldest first
abbrev pub own_pins : History → ℕ → List (PinHolder × HeldPin)
own_pins h d = gather with_holder d (live h)

-- an entry, its generation and its live pins are the same
pub record SameEntry (g h : History) (t r : ℕ) : Type 0 where
  pub entry : entry_at g t r ≡ entry_at h t r
  pub raises : raises_at g t r ≡ raises_at h t r
  pub reads : reads_at g t r ≡ reads_at h t r
  pub writes : writes_at g t r ≡ writes_at h t r

-- what no other domain changes is the same: a domain's entries, its table, its pins, its call, and the rule that
-- applied to that call
pub record SameOwn (s : Setting) (g h : History) (d : DomId) : Type 0 where
  pub entries : (r : ℕ) → entry_at g d.0 r ≡ entry_at h d.0 r
  pub raises : (r : ℕ) → raises_at g d.0 r ≡ raises_at h d.0 r
  pub table : table_at s g d ≡ table_at s h d
  pub pins : own_pins g d.0 ≡ own_pins h d.0
  pub maps : maps_answered_at g d.0 ≡ maps_answered_at h d.0
  pub call : open_call g d.0 ≡ open_call h d.0
  pub against : stood s g d.0 ≡ stood s h d.0

-- what this step of the domain looks at is the same
abbrev pub SameLook : Setting → History → History → DomId → Step → Type 0
SameLook s g h d (LookHeader dom) = table_at s g dom ≡ table_at s h dom
SameLook s g h d (LookControl dom gref) = SameEntry g h dom.0 gref.0
SameLook s g h d (LookBody dom gref body_word) = body_at g dom.0 gref.0 body_word ≡ body_at h dom.0 gref.0 body_word
SameLook s g h d (call_steps.Pin p) = SameEntry g h p.dom.0 p.gref.0
SameLook s g h d (Exchange gref looked change) =
    SameEntry g h d.0 gref.0 × ((body_word : BodyWord) → body_at g d.0 gref.0 body_word ≡ body_at h d.0 gref.0 body_word)
SameLook s g h d (call_steps.Read dom frame off len) = patches_at g dom.0 frame ≡ patches_at h dom.0 frame
SameLook s g h d (call_steps.Copy from to len) =
    patches_at g from.frame.owner.0 from.frame.number ≡ patches_at h from.frame.owner.0 from.frame.number
SameLook s g h d step = Unit {0}

-- the same for an event: a beginning looks only at what is the domain's own
abbrev pub SameSight : Setting → History → History → DomId → ItemEvent → Type 0
SameSight s g h d (Began request) = Unit {0}
SameSight s g h d (Stepped step seen) = SameLook s g h d step

-- two histories look the same to every domain
pub record SameSeen (s : Setting) (g h : History) : Type 0 where
  pub own : (d : DomId) → SameOwn s g h d
  pub entries : (t r : ℕ) → SameEntry g h t r
  pub bodies : (t r : ℕ) (body_word : BodyWord) → body_at g t r body_word ≡ body_at h t r body_word
  pub patches : (t f : ℕ) → patches_at g t f ≡ patches_at h t f

-- the same item may follow both, and they look the same after it too
abbrev pub LookAlikeGoOn : Type 0
LookAlikeGoOn =
    (s : Setting) (g h : History) (i : Item) → SameSeen s g h
    → (IsRight s g i → IsRight s h i) × SameSeen s (i ∷ g) (i ∷ h)

-- items that change places

-- the writes to a frame that the item makes
abbrev pub patches_of : History → Item → ℕ → ℕ → List Patch
patches_of h i t f = patches_by (written_by i.happened (given_in (open_call h i.actor.0)) (contents_at h)) t f

-- the items of two domains do not disturb each other: neither changes what the other one looks at, and they don't
-- write to the same frame
pub record AreApart (s : Setting) (h : History) (i j : Item) : Type 0 where
  pub actors : (i.actor.0 == j.actor.0) ≡ false
  pub first : SameSight s (j ∷ h) h i.actor i.happened
  pub second : SameSight s (i ∷ h) h j.actor j.happened
  pub frames : (t f : ℕ) → (patches_of h i t f ≡ []) ⊎ (patches_of h j t f ≡ [])

-- two items that are right one after the other, and apart, are right in the other order too, and the histories with
-- them look the same
abbrev pub ApartChangePlaces : Type 0
ApartChangePlaces =
    (s : Setting) (h : History) (i j : Item) → AreApart s h i j → IsRight s h i → IsRight s (i ∷ h) j
    → IsRight s h j × IsRight s (j ∷ h) i × SameSeen s (j ∷ i ∷ h) (i ∷ j ∷ h)

-- a beginning is apart from each item of another domain
abbrev pub BeginningsAreApart : Type 0
BeginningsAreApart =
    (s : Setting) (h : History) (i j : Item) (request : Request) → (i.actor.0 == j.actor.0) ≡ false
    → i.happened ≡ Began request → AreApart s h i j

-- what the step of domain d reads or changes of the words of an entry, except an unpin: entry r of domain t
abbrev pub touches_entry : DomId → Step → ℕ → ℕ → Bool
touches_entry d (LookControl dom gref) t r = (dom.0 == t) && (gref.0 == r)
touches_entry d (LookBody dom gref body_word) t r = (dom.0 == t) && (gref.0 == r)
touches_entry d (StoreBody gref body_word word) t r = (d.0 == t) && (gref.0 == r)
touches_entry d (call_steps.Pin p) t r = (p.dom.0 == t) && (p.gref.0 == r)
touches_entry d (Exchange gref looked change) t r = (d.0 == t) && (gref.0 == r)
touches_entry d step t r = false

-- the step looks at a body word, which only a store of one changes; it stores one
abbrev pub looks_body : Step → Bool
looks_body (LookBody dom gref body_word) = true
looks_body step = false

abbrev pub stores_body : Step → Bool
stores_body (StoreBody gref body_word word) = true
stores_body step = false

-- the first step leaves what the second one looks at of an entry that both touch: the first only looks at a body word, or
-- the second one does, and the first stores none
abbrev pub leaves_body : Step → Step → Bool
leaves_body y z = looks_body y || (looks_body z && not (stores_body y))

-- the step looks at the header of domain t
abbrev pub looks_header : Step → ℕ → Bool
looks_header (LookHeader dom) t = dom.0 == t
looks_header step t = false

-- the step of domain d stores the header of domain t
abbrev pub stores_header : DomId → Step → ℕ → Bool
stores_header d (StoreHeader version frames) t = d.0 == t
stores_header d step t = false

-- the step reads a frame of domain t
abbrev pub reads_frames : Step → ℕ → Bool
reads_frames (call_steps.Read dom frame off len) t = dom.0 == t
reads_frames (call_steps.Copy from to len) t = from.frame.owner.0 == t
reads_frames step t = false

-- the step writes to a frame of domain t
abbrev pub writes_frames : Step → ℕ → Bool
writes_frames (call_steps.Write dom frame off len) t = dom.0 == t
writes_frames (call_steps.Copy from to len) t = to.frame.owner.0 == t
writes_frames step t = false

-- the step of domain d releases no pin on entry r of domain t
abbrev pub ReleasesNoPinOn : History → DomId → Step → ℕ → ℕ → Type 0
ReleasesNoPinOn h d (Unpin p holder) t r =
    (k : Dir) → count_by (is_pin_on t r k) (without d.0 holder (live h)) ≡ count_by (is_pin_on t r k) (live h)
ReleasesNoPinOn h d step t r = Unit {0}

-- a step of domain d leaves what one of domain e looks at: the words of entries with their pins, headers, and bytes. No
-- pin is part of a body word
pub record LeavesFor (h : History) (d : DomId) (y : Step) (e : DomId) (z : Step) : Type 0 where
  pub words : (t r : ℕ) → touches_entry d y t r ≡ true → touches_entry e z t r ≡ true → leaves_body y z ≡ true
  pub pins : (t r : ℕ) → touches_entry e z t r ≡ true → looks_body z ≡ false → ReleasesNoPinOn h d y t r
  pub header : (t : ℕ) → stores_header d y t ≡ true → looks_header z t ≡ true → ⊥
  pub bytes : (t : ℕ) → writes_frames y t ≡ true → reads_frames z t ≡ true → ⊥

-- two steps touch nothing in common that one of them changes: either leaves what the other one looks at, and they write to frames of other
-- owners
pub record TouchApart (h : History) (d : DomId) (y : Step) (e : DomId) (z : Step) : Type 0 where
  pub actors : (d.0 == e.0) ≡ false
  pub first : LeavesFor h d y e z
  pub second : LeavesFor h e z d y
  pub writes : (t : ℕ) → writes_frames y t ≡ true → writes_frames z t ≡ true → ⊥

-- such steps are apart
abbrev pub StepsThatTouchApartAreApart : Type 0
StepsThatTouchApartAreApart =
    (s : Setting) (h : History) (i j : Item) (y z : Step) (v w : Observation) → TouchApart h i.actor y j.actor z
    → i.happened ≡ Stepped y v → j.happened ≡ Stepped z w → AreApart s h i j
