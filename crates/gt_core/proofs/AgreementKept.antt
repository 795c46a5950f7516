-- What stays of a core's agreement with a history after one more item.
use Rattle.gt_core.proofs.Words.{◌≡◌, ◌≢◌, ◌<◌, ◌+◌, ℕ, refl, Bool, true, false, List, ◌∷◌, length, Option, Some}
use Rattle.gt_core.proofs.Words.{None, cond, sym, ap, ◌∙◌, subst, eqb-true, eq-eqb, none-some, domain_of, ◌==◌, ◌&&◌}
use Rattle.gt_core.proofs.Words.{All, count_by, slice_get, option_map, fun_ext, DomId, Read, Write, TABLE_ENTRIES}
use Rattle.gt_core.proofs.Words.{Entry, Header, BodyWord, IsEntry, HandleMap, HeldPin, control_with, knowledge_of}
use Rattle.gt_core.proofs.Words.{PinCounts, OpenCall, Item, changed_at, State, state_of, changed_in, History, Setting}
use Rattle.gt_core.proofs.Words.{live, entry_at, generation_at, body_at, table_at, reads_at, writes_at, control_at}
use Rattle.gt_core.proofs.Words.{known_at, mappings_at, maps_answered_at, is_pin_on, open_call, underway_after}
use Rattle.gt_core.proofs.Words.{Underway, change_at, stored_at, header_stored, stood, first_of_item, IsLawfulPin}
use Rattle.gt_core.proofs.Words.{FitsTable, FitsWord, SlotAgrees, MappingsAgree, StateStands, StateAgrees}
use Rattle.gt_core.proofs.Words.{DomainsStand, CallAgrees, GivenAgrees, Dir, mapping_named, slot_after, with_slot}
use Rattle.gt_core.proofs.Words.{stood_with, MAX_PINS, cond_both, CountsChange, arith}
use Rattle.gt_core.proofs.{Rows.get-changed, Rows.length-changed, Rows.state-changed, Mappings.mappings-same}
use Rattle.gt_core.proofs.{CallsStand.place-stays}
use Rattle.gt_model.proofs.Observers.{pulled, unstored, KeepsKnown, KeepsAll, cond-same, kept-table, kept-live}
use Rattle.gt_model.proofs.Observers.{answered-stays, kept-entry, kept-raises, other-entry, other-body, other-maps}
use Rattle.gt_model.proofs.Observers.{other-raises, other-pins, other-table, other-known}

-- what the core keeps of a domain is what the domain itself knows
pub known-same : (s : Setting) (h : History) (d : State) → StateStands s h d
    → knowledge_of s.domains s.first_generation s.may d.own d.header d.mappings ≡ known_at s h d.id
known-same s h d a = let m = a.mappings in cc

-- calls

pub same-number : (n : ℕ) → (n == n) ≡ true
same-number n = eq-eqb n n refl

pub open_call-other : (i : Item) (h : History) (d : ℕ) → (i.actor.0 == d) ≡ false → open_call (i ∷ h) d ≡ open_call h d
unfolding open_call
open_call-other i h d e = ap (λ (b : Bool). cond b (underway_after i (open_call h d)) (open_call h d)) e

pub open_call-own : (i : Item) (h : History) → open_call (i ∷ h) i.actor.0 ≡ underway_after i (open_call h i.actor.0)
unfolding open_call
open_call-own i h = ap (λ (b : Bool). cond b (underway_after i (open_call h i.actor.0)) (open_call h i.actor.0)) (same-number i.actor.0)

pub stood-other : (s : Setting) (i : Item) (h : History) (d : ℕ) → (i.actor.0 == d) ≡ false → stood s (i ∷ h) d ≡ stood s h d
unfolding stood
stood-other s i h d e = ap (λ (b : Bool). cond b (stood_with i.happened (stood s h d) (first_of_item s h i)) (stood s h d)) e

pub stood-own : (s : Setting) (i : Item) (h : History) → stood s (i ∷ h) i.actor.0 ≡ stood_with i.happened (stood s h i.actor.0) (first_of_item s h i)
unfolding stood
stood-own s i h = grind arith

-- there is no call to have bytes
pub given-none : (h : History) (d : ℕ) (given : List ℕ) → open_call h d ≡ None → GivenAgrees h d given
given-none h d given none = λ c call. absurd (none-some c (sym none ∙ call))

-- the call of another domain keeps its phase
call-stays : (s : Setting) (i : Item) (h : History) (d : DomId) (o : Option OpenCall) (c : Option Underway) → (i.actor.0 == d.0) ≡ false → CallAgrees s h d o c → CallAgrees s (i ∷ h) d o c
call-stays s i h d o c apart a = grind (arith, other-pins, other-known, place-stays, other-body, stood-other)

-- slots

abbrev pub SlotsAgree : History → ℕ → List PinCounts → Type 0
SlotsAgree h q slots = (r : ℕ) (slot : PinCounts) → slice_get slots r ≡ Some slot → SlotAgrees h q r slot

-- each slot is as the change of the one of entry r of domain t leaves it
abbrev pub Moves : History → History → ℕ → ℕ → CountsChange → Type 0
Moves h new t r change = (q k : ℕ) (old : PinCounts) → SlotAgrees h q k old → SlotAgrees new q k (cond ((t == q) && (r == k)) (slot_after change old) old)

-- the slots of domain q, after the change of one slot of domain t
slots-agree : (h new : History) (t r q : ℕ) (change : CountsChange) (slots : List PinCounts) → Moves h new t r change → SlotsAgree h q slots
    → SlotsAgree new q (cond (t == q) (changed_at r (slot_after change) slots) slots)
slots-agree h new t r q change slots moves was k slot e = grind (arith, get-changed slots r k (slot_after change), moves q k, was k)

length-slots : (r : ℕ) (f : PinCounts → PinCounts) (slots : List PinCounts) (b : Bool) → length slots ≡ TABLE_ENTRIES → length (cond b (changed_at r f slots) slots) ≡ TABLE_ENTRIES
length-slots r f slots b e = cond_both b (changed_at r f slots) slots (λ l. length l ≡ TABLE_ENTRIES) (λ is. length-changed slots r f ∙ e) (λ is. e)

-- the slots still agree if the live pins and the body words are the same
pub slots-kept : (i : Item) (h : History) (q : ℕ) (slots : List PinCounts) → live (i ∷ h) ≡ live h → ((r : ℕ) (which : BodyWord) → body_at (i ∷ h) q r which ≡ body_at h q r which)
    → SlotsAgree h q slots → SlotsAgree (i ∷ h) q slots
slots-kept i h q slots same bodies was r slot e = grind arith

-- a domain that doesn't act: its pins may have changed, its call keeps its phase
other-agrees : (s : Setting) (i : Item) (h : History) (x : State) (slots : List PinCounts) → (i.actor.0 == x.id.0) ≡ false → StateStands s h x
    → length slots ≡ TABLE_ENTRIES → SlotsAgree (i ∷ h) x.id.0 slots → StateStands s (i ∷ h) (record x { slots = slots })
other-agrees s i h x slots apart a len agree = record {
  header = a.header ∙ sym (other-table s i h x.id apart);
  rows = a.rows;
  entries = a.entries ∙ fun_ext (λ r. sym (other-entry i h x.id.0 r apart));
  generations = a.generations ∙ fun_ext (λ r. ap (λ (n : ℕ). s.first_generation + n) (sym (other-raises i h x.id.0 r apart)));
  room = len;
  slots = agree;
  mappings = mappings-same x.mappings _ _ _ _ (sym (other-pins mapping_named i h x.id.0 apart)) (sym (other-maps i h x.id.0 apart)) a.mappings;
  given = λ c call. a.given c (sym (open_call-other i h x.id.0 apart) ∙ call);
  call = subst (λ (c : Option Underway). CallAgrees s (i ∷ h) x.id x.underway c) (sym (open_call-other i h x.id.0 apart)) (call-stays s i h x.id x.underway (open_call h x.id.0) apart a.call);
}

-- items that change no entry, and store no word
pub record KeepsEntries (i : Item) : Type 0 where
  pub changes : (r : ℕ) → change_at i.happened r ≡ None
  pub stores : (r : ℕ) (which : BodyWord) → stored_at i.happened r which ≡ None
  pub header : header_stored i.happened ≡ None

pub same-body : (i : Item) (h : History) (t r : ℕ) (which : BodyWord) → KeepsEntries i → body_at (i ∷ h) t r which ≡ body_at h t r which
same-body i h t r which q = unstored i h t r which (q.stores r which)

-- the domain that acts: its header, pins, mappings and call may have changed
pub actor-agrees : (s : Setting) (i : Item) (h : History) (x : State) (header : Header) (slots : List PinCounts) (mappings : HandleMap HeldPin) (o : Option OpenCall) (given : List ℕ) → KeepsAll i → StateStands s h x
    → header ≡ table_at s (i ∷ h) x.id → length slots ≡ TABLE_ENTRIES → SlotsAgree (i ∷ h) x.id.0 slots → MappingsAgree mappings (mappings_at (i ∷ h) x.id.0) (maps_answered_at (i ∷ h) x.id.0)
    → CallAgrees s (i ∷ h) x.id o (open_call (i ∷ h) x.id.0) → GivenAgrees (i ∷ h) x.id.0 given
    → StateStands s (i ∷ h) (record x { header = header; slots = slots; mappings = mappings; underway = o; given = given })
actor-agrees s i h x header slots mappings o given q a head len agree same call bytes = record {
  header = head;
  rows = a.rows;
  entries = a.entries ∙ fun_ext (λ r. sym (kept-entry i h x.id.0 r q));
  generations = a.generations ∙ fun_ext (λ r. ap (λ (n : ℕ). s.first_generation + n) (sym (kept-raises i h x.id.0 r q)));
  room = len;
  slots = agree;
  mappings = same;
  call = call;
  given = bytes;
}

-- entries

-- an entry: its parts, and its live pins
pub record Facts : Type 0 where
  pub entry : Entry
  pub generation : ℕ
  pub reads : ℕ
  pub writes : ℕ

abbrev pub facts_at : Setting → History → ℕ → ℕ → Facts
facts_at s h t r = record {
  entry = entry_at h t r;
  generation = generation_at s h t r;
  reads = reads_at h t r;
  writes = writes_at h t r;
}

-- the control word has room for them
pub record Fits (place : ℕ) (f : Facts) : Type 0 where
  pub word : place < TABLE_ENTRIES → FitsWord (control_with f.entry f.generation f.reads f.writes)
  pub entry : IsEntry f.entry

pub facts-fit : (s : Setting) (h : History) (xs : List State) (t r : ℕ) → DomainsStand s h xs → Fits r (facts_at s h t r)
facts-fit s h xs t r st = record { word = st.words t r; entry = st.entries t r }

-- the counts that a control word holds are below 4,096
pub counts-fit : (s : Setting) (h : History) (t r : ℕ) → FitsWord (control_at s h t r) → (reads_at h t r < MAX_PINS + 1) × (writes_at h t r < MAX_PINS + 1)
counts-fit s h t r f = grind arith

-- other counts, for which the word has room
fits-with : (e : Entry) (g r w r' w' : ℕ) → r' < MAX_PINS + 1 → w' < MAX_PINS + 1 → FitsWord (control_with e g r w) → FitsWord (control_with e g r' w')
fits-with e g r w r' w' a b f = grind arith

-- the states after a change

abbrev pub after_change : Bool → (State → State) → Option State → Option State
after_change b f o = cond b (option_map f o) o

-- the states after an item: the actor's is new, and a step changes the state of domain t
abbrev pub Becomes : List State → List State → State → State → ℕ → (State → State) → Type 0
Becomes xs zs x new t g = (q : ℕ) → state_of zs q ≡ after_change (t == q) g (cond (x.id.0 == q) (Some new) (state_of xs q))

-- each domain agrees after an item if the actor does and each other domain does
each-stands : (s : Setting) (i : Item) (h : History) (xs zs : List State) (x new : State) (t : ℕ) (g : State → State) → DomainsStand s h xs → state_of xs x.id.0 ≡ Some x
    → Becomes xs zs x new t g → new.id ≡ x.id → ((y : State) → (g y).id ≡ y.id) → StateStands s (i ∷ h) (cond (t == new.id.0) (g new) new)
    → ((y : State) → (x.id.0 == y.id.0) ≡ false → StateStands s h y → StateStands s (i ∷ h) (cond (t == y.id.0) (g y) y)) → (dom : DomId) → StateAgrees s (i ∷ h) dom (state_of zs dom.0)
each-stands s i h xs zs x new t g st here becomes same keeps mine others dom =
    subst (StateAgrees s (i ∷ h) dom) (sym (becomes dom.0)) (by (x.id.0 == dom.0) refl (state_of xs dom.0) (st.each dom))
  where
    moved : (y : State) → y.id ≡ dom → domain_of s.domains dom ≢ None → StateStands s (i ∷ h) (cond (t == y.id.0) (g y) y) → StateAgrees s (i ∷ h) dom (after_change (t == dom.0) g (Some y))
    moved y is named a = at (t == dom.0) (subst (λ (z : DomId). StateStands s (i ∷ h) (cond (t == z.0) (g y) y)) is a) where
      at : (b : Bool) → StateStands s (i ∷ h) (cond b (g y) y) → StateAgrees s (i ∷ h) dom (after_change b g (Some y))
      at true a = (named, keeps y ∙ is, a)
      at false a = (named, is, a)

    by : (b : Bool) → (x.id.0 == dom.0) ≡ b → (o : Option State) → StateAgrees s h dom o → StateAgrees s (i ∷ h) dom (after_change (t == dom.0) g (cond b (Some new) o))
    by true own o a = let n : x.id.0 ≡ dom.0 = eqb-true x.id.0 dom.0 own in
        moved new (same ∙ ap (λ (n : ℕ). record { 0 = n }) n) (subst (StateAgrees s h dom) (ap (state_of xs) (sym n) ∙ here) (st.each dom)).0 mine
    by false apart None a = subst (StateAgrees s (i ∷ h) dom) (sym (cond-same (t == dom.0) None)) a
    by false apart (Some y) a = moved y a.1 a.0 (others y (ap (λ (z : DomId). x.id.0 == z.0) a.1 ∙ apart) a.2)

-- the same if no step changes another state
pub each-stays : (s : Setting) (i : Item) (h : History) (xs zs : List State) (x new : State) → DomainsStand s h xs → state_of xs x.id.0 ≡ Some x → i.actor ≡ x.id
    → ((q : ℕ) → state_of zs q ≡ cond (x.id.0 == q) (Some new) (state_of xs q)) → new.id ≡ x.id → StateStands s (i ∷ h) new
    → ((y : State) → (x.id.0 == y.id.0) ≡ false → SlotsAgree h y.id.0 y.slots → SlotsAgree (i ∷ h) y.id.0 y.slots) → (dom : DomId) → StateAgrees s (i ∷ h) dom (state_of zs dom.0)
each-stays s i h xs zs x new st here own becomes same mine slots =
    each-stands s i h xs zs x new 0 (λ (y : State). y) st here (λ q. becomes q ∙ sym (plain (0 == q) (cond (x.id.0 == q) (Some new) (state_of xs q)))) same (λ y. refl)
    (subst (StateStands s (i ∷ h)) (sym (cond-same (0 == new.id.0) new)) mine)
    (λ y apart a. subst (StateStands s (i ∷ h)) (sym (cond-same (0 == y.id.0) y))
    (other-agrees s i h y y.slots (ap (λ (z : DomId). z.0 == y.id.0) own ∙ apart) a a.room (slots y apart a.slots)))
  where
    plain : (b : Bool) (o : Option State) → after_change b (λ (y : State). y) o ≡ o
    plain true None = refl
    plain b o = refl

-- the domains represent one more item if each agrees and each entry's facts fit
pub all-stand : (s : Setting) (h : History) (xs : List State) → ((dom : DomId) → StateAgrees s h dom (state_of xs dom.0)) → ((dom : DomId) → FitsTable (table_at s h dom)) → All (IsLawfulPin s) (live h)
    → ((t r : ℕ) → Fits r (facts_at s h t r)) → DomainsStand s h xs
all-stand s h xs each tables lawful fit = grind arith

-- for an item that changes no entry and stores no word
pub keeps-stands : (s : Setting) (i : Item) (h : History) (xs zs : List State) → KeepsEntries i → DomainsStand s h xs → ((dom : DomId) → StateAgrees s (i ∷ h) dom (state_of zs dom.0)) → All (IsLawfulPin s) (live (i ∷ h))
    → ((t r : ℕ) (k : Dir) → r < TABLE_ENTRIES → count_by (is_pin_on t r k) (live (i ∷ h)) < MAX_PINS + 1) → DomainsStand s (i ∷ h) zs
keeps-stands s i h xs zs q st each lawful counts = all-stand s (i ∷ h) zs each (λ dom. subst FitsTable (sym (kept-table s i h dom q.header)) (st.tables dom)) lawful
    (λ t r. let f = facts-fit s h xs t r st in subst (Fits r) (sym (same t r)) (record {
      word = λ within. fits-with _ _ _ _ _ _ (counts t r Read within) (counts t r Write within) (f.word within);
      entry = f.entry;
    }))
  where
    same : (t r : ℕ) → facts_at s (i ∷ h) t r ≡ record (facts_at s h t r) { reads = reads_at (i ∷ h) t r; writes = writes_at (i ∷ h) t r }
    same t r = let e = kept-entry i h t r q.changes in let n = kept-raises i h t r q.changes in cc

-- for an item that changes no entry and no pin, if the tables fit
pub kept-stands : (s : Setting) (i : Item) (h : History) (xs zs : List State) → KeepsKnown i → DomainsStand s h xs → ((dom : DomId) → StateAgrees s (i ∷ h) dom (state_of zs dom.0)) → ((dom : DomId) → FitsTable (table_at s (i ∷ h) dom))
    → DomainsStand s (i ∷ h) zs
kept-stands s i h xs zs k st each tables = grind (arith, all-stand, kept-live, facts-fit, kept-entry, kept-raises)

-- the mappings of a domain stay if no pin is taken or released
pub mappings-stay : (i : Item) (h : History) (q : ℕ) (kept : HandleMap HeldPin) → KeepsKnown i → MappingsAgree kept (mappings_at h q) (maps_answered_at h q) → MappingsAgree kept (mappings_at (i ∷ h) q) (maps_answered_at (i ∷ h) q)
mappings-stay i h q kept k a = grind (arith, mappings-same, kept-live, answered-stays)

-- the domains represent one more item that leaves all words and pins unchanged
pub quiet-stands : (s : Setting) (i : Item) (h : History) (xs zs : List State) (x : State) (o : Option OpenCall) (given : List ℕ) → KeepsEntries i → KeepsKnown i → i.actor ≡ x.id → DomainsStand s h xs
    → state_of xs x.id.0 ≡ Some x → StateStands s h x → ((q : ℕ) → state_of zs q ≡ cond (x.id.0 == q) (Some (record x { underway = o; given = given })) (state_of xs q))
    → CallAgrees s (i ∷ h) x.id o (open_call (i ∷ h) x.id.0) → GivenAgrees (i ∷ h) x.id.0 given → DomainsStand s (i ∷ h) zs
quiet-stands s i h xs zs x o given e k own st here a becomes call bytes = kept-stands s i h xs zs k st (each-stays s i h xs zs x (record x { underway = o; given = given }) st here own becomes refl
    (actor-agrees s i h x x.header x.slots x.mappings o given e.changes a (a.header ∙ sym (kept-table s i h x.id e.header)) a.room (stay x a.slots) (mappings-stay i h x.id.0 x.mappings k a.mappings) call bytes)
    (λ y apart b. stay y b)) (λ dom. subst FitsTable (sym (kept-table s i h dom e.header)) (st.tables dom))
  where
    stay : (y : State) → SlotsAgree h y.id.0 y.slots → SlotsAgree (i ∷ h) y.id.0 y.slots
    stay y b = slots-kept i h y.id.0 y.slots (kept-live i h k) (λ r which. same-body i h y.id.0 r which e) b

-- the states after one more change
pub becomes-changed : (xs ys : List State) (x new : State) (t : ℕ) (g : State → State) → ((y : State) → (g y).id ≡ y.id) → ((q : ℕ) → state_of ys q ≡ cond (x.id.0 == q) (Some new) (state_of xs q))
    → Becomes xs (changed_in t g ys) x new t g
becomes-changed xs ys x new t g keeps was = λ q. state-changed ys t q g keeps ∙ ap (λ (o : Option State). after_change (t == q) g o) (was q)

-- and after one of the actor's own state
pub own-changed : (xs ys : List State) (x new : State) (g : State → State) → ((y : State) → (g y).id ≡ y.id) → ((q : ℕ) → state_of ys q ≡ cond (x.id.0 == q) (Some new) (state_of xs q))
    → (q : ℕ) → state_of (changed_in x.id.0 g ys) q ≡ cond (x.id.0 == q) (Some (g new)) (state_of xs q)
own-changed xs ys x new g keeps was q = grind (arith, becomes-changed xs ys x new x.id.0 g keeps was q)

-- each domain agrees after an item that changes the slot of one entry
pub slots-stand : (s : Setting) (i : Item) (h : History) (xs zs : List State) (x : State) (kept : HandleMap HeldPin) (o : Option OpenCall) (t r : ℕ) (change : CountsChange) → KeepsAll i → header_stored i.happened ≡ None → i.actor ≡ x.id
    → DomainsStand s h xs → state_of xs x.id.0 ≡ Some x → StateStands s h x → Becomes xs zs x (record x { mappings = kept; underway = o }) t (with_slot r change) → Moves h (i ∷ h) t r change
    → MappingsAgree kept (mappings_at (i ∷ h) x.id.0) (maps_answered_at (i ∷ h) x.id.0) → CallAgrees s (i ∷ h) x.id o (open_call (i ∷ h) x.id.0) → GivenAgrees (i ∷ h) x.id.0 x.given
    → (dom : DomId) → StateAgrees s (i ∷ h) dom (state_of zs dom.0)
slots-stand s i h xs zs x kept o t r change keeps none own st here a becomes moves maps call given =
    each-stands s i h xs zs x (record x { mappings = kept; underway = o }) t (with_slot r change) st here becomes refl (λ y. refl)
    (subst (StateStands s (i ∷ h)) (picked (record x { mappings = kept; underway = o }))
    (actor-agrees s i h x x.header (after x) kept o x.given keeps a (a.header ∙ sym (kept-table s i h x.id none))
    (length-slots r (slot_after change) x.slots (t == x.id.0) a.room) (slots-agree h (i ∷ h) t r x.id.0 change x.slots moves a.slots) maps call given))
    (λ y apart b. subst (StateStands s (i ∷ h)) (picked y) (other-agrees s i h y (after y) (ap (λ (z : DomId). z.0 == y.id.0) own ∙ apart) b
    (length-slots r (slot_after change) y.slots (t == y.id.0) b.room) (slots-agree h (i ∷ h) t r y.id.0 change y.slots moves b.slots)))
  where
    after : State → List PinCounts
    after y = cond (t == y.id.0) (changed_at r (slot_after change) y.slots) y.slots

    picked : (y : State) → record y { slots = after y } ≡ cond (t == y.id.0) (with_slot r change y) y
    picked y = pulled (λ (l : List PinCounts). record y { slots = l }) (t == y.id.0) (changed_at r (slot_after change) y.slots) y.slots
