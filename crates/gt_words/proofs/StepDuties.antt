-- What each call owes the table before its step.
use Rattle.std.proofs.Common.{inl, inr, ◌&&◌, nat_le, ◌≡◌, ◌≢◌, ℕ, ◌+◌, ◌-◌, ◌*◌, ◌/◌, ◌%◌, ◌^◌, ◌<◌, ◌≤◌, Bool, true}
use Rattle.std.proofs.Common.{false, not, cond, ◌==◌, List, [], ◌∷◌, map, get_or, set, sym, refl, ap, ◌∙◌, subst}
use Rattle.std.proofs.Common.{arith, eq-eqb, ne_eqb, get_or-set_other, get_or-set_same}
use mathlib.Core.Option.{some, none}
use mathlib.Core.Logic.{dite}
use native.Mathlib.Decide.{ℕ_discrete}
use prog.Atomic.{either}
use lib.ListN.{get_elem?}
use Rattle.atomic_table.specs.Table.{State, Me, Step as TableStep, step, stepped, keeps, Allows}
use Rattle.atomic_table.proofs.Lists.{at_map}
use Rattle.gt_model.specs.Entries.{IsEntry, is_read_only, with_ro}
use Rattle.gt_model.specs.Spelling.{IsSpelled, idle_word_of, low_bits, named_domain, word_of}
use Rattle.gt_model.specs.Words.{flag, unit_of}
use Rattle.gt_model.specs.declared.entry.Entry.{Entry}
use Rattle.gt_model.specs.declared.entry.Entry.TheVariants.{Invalid, Page, Sub, Via}
use Rattle.gt_types.specs.declared.Dir.{Dir}
use Rattle.gt_types.specs.declared.Dir.TheVariants.{Read, Write}
use Rattle.gt_words.proofs.HistorySteps.{takes}
use Rattle.gt_words.proofs.SeatsKept.{there_is}
use Rattle.gt_words.proofs.Lifts.{inside, shows_step}
use Rattle.gt_words.proofs.OneEntry.{entry_grants, entry_looks, entry_misses_change, entry_misses_pin, entry_pins}
use Rattle.gt_words.proofs.OneEntry.{entry_revokes, entry_reads, entry_stores_first, entry_stores_second, entry_turns}
use Rattle.gt_words.proofs.OneEntry.{entry_unpins, entry_withdraws, mine, pin_counted, pins_last, turned_domain}
use Rattle.gt_words.proofs.OneEntry.{turned_low}
use Rattle.gt_words.proofs.Records.{legal_record, spelled_parts}
use Rattle.gt_words.proofs.Seeing.{saw_there}
use Rattle.gt_words.specs.Conditions.{HasLooked, Holds, IsIdleOf, MayPin}
use Rattle.gt_model.specs.Permits.{is_copying}
use Rattle.gt_types.specs.declared.DomId.{DomId}
use Rattle.std.proofs.lemmas.Bool.{and_parts}
use Rattle.gt_word_history.specs.Controls.{ForwardsPin, IsValid, PermitsPin, demoted_word, generation_of}
use Rattle.gt_word_history.specs.Controls.{invalid_word, pins_in, promoted_word, withdrawn_word}
use Rattle.gt_word_history.specs.Events.{IsByOwner}
use Rattle.gt_word_history.specs.History.{IsOfRecord, RecordsFound, owner_steps, left_on_entry, word_place_of}
use Rattle.gt_word_history.specs.History.{word_on}
use Rattle.gt_word_history.specs.Rule.{id_at, IsRecord, Layout, Shows, ShowsEntry, place, total_pins}
use Rattle.gt_word_history.specs.Steps.{StepKind, TakesStep, changed, entry_kind, exchanging, body_word_index, looking}
use Rattle.gt_word_history.specs.Steps.{missed, reading, storing, taken, promises_step, unpinning}
use Rattle.gt_words.specs.Sight.{SawRecord}
use Rattle.gt_word_history.specs.Views.{earlier_records, invalid_at, last_of, last_record, last_seen, live_pins}
use Rattle.gt_word_history.specs.Views.{record_seen, seen, steps_on, stored_body, with_step}
use Rattle.gt_model.specs.declared.change.EntryChange.{EntryChange}
use Rattle.gt_word_history.specs.declared.view.EntryStep.{EntryStep}
use Rattle.gt_word_history.specs.declared.view.EntryStep.TheVariants.{Changed, Looked, ReadBody, StoredBody, Unpinned}
use Rattle.gt_model.specs.declared.change.BodyWord.{BodyWord}
use Rattle.gt_model.specs.declared.change.BodyWord.TheVariants.{First, Second}
use Rattle.gt_word_history.specs.declared.view.Purpose.{Purpose}
use Rattle.gt_word_history.specs.declared.view.EntryRecord.{EntryRecord}
use Rattle.gt_word_history.specs.declared.view.View.{View}
use Rattle.gt_word_history.specs.declared.rule.TheConstants.{DOMAIN_WORDS}
use Rattle.gt_model.specs.declared.change.EntryChange.TheVariants as changes
use Rattle.gt_word_history.specs.declared.view.Purpose.TheVariants as purposes
use Rattle.gt_types.specs.declared.limits.TheConstants.{LAST_GENERATION, MAX_PINS, TABLE_ENTRIES}

-- a step is allowed that leaves words and views which show the state that its event makes
module _ {S : Type 0} (d : StepKind) (slots id : ℕ) (me : Me S View) (i : ℕ) (f : ℕ → ℕ) (st : TableStep S) where
  pub kind_owes : st.word ≡ i → ((n : ℕ) → f n ≡ d.leaves n) → i < d.layout.domains * DOMAIN_WORDS → ((n : ℕ) → word_place_of (d.step n) ≡ i)
      → ((s : State S View) (shown : Shows d.layout s) → get_elem? s.views id ≡ some me.0 → let n : ℕ = get_or s.words i 0 in let x = d.step n in
      n < 18446744073709551616
      → (me.0.position ≡ id) × Shows d.layout (stepped s i (f n) id [] (with_step shown.history x me.0) keeps))
      → Allows (Shows d.layout) slots id me i f (promises_step d st me)
  kind_owes is ok inside there step s shown len at fits = let n : ℕ = get_or s.words i 0 in let x = d.step n in let after = step s shown at fits in (
    with_step shown.history x me.0,
    keeps,
    tt,
    after.1,
    (
      refl,
      (
        shown.history,
        refl,
        subst (λ (u : ℕ × ℕ). TakesStep S d.layout me.0 shown.history x u.0 n u.1) (λ j. (sym is j, ok n j)) (takes d.layout s id me.0 x i (f n) shown at after.0 inside (there n) after.1),
      ),
    ),
  )

-- what a step owes, by the word that it is on: what was found there, and the rule of the entry after it

module _ {S : Type 0} (k : Layout) (t r : ℕ) (m : ℕ → EntryStep) (leaves : ℕ → ℕ) (slots id : ℕ) (me : Me S View) (f : ℕ → ℕ) (st : TableStep S) (tn : t < k.domains) (rn : r < TABLE_ENTRIES) where
  abbrev h : List EntryStep
  h = steps_on t r me.0

  abbrev Before : ℕ → ℕ → ℕ → List (List EntryStep) → Type 0
  Before w a b hs = ShowsEntry k.first t w a b hs × (get_elem? hs id ≡ some h) × (me.0.position ≡ id) × (me.0.first ≡ k.first) × SawRecord (last_record k.first (owner_steps t hs)) (earlier_records k.first (owner_steps t hs)) (seen h)

  abbrev After : ℕ → ℕ → ℕ → List (List EntryStep) → ℕ → Type 0
  After w a b hs n = ShowsEntry k.first t w a b (set hs id (m n ∷ h)) × IsByOwner id t (m n) × IsOfRecord (last_record k.first (owner_steps t hs)) (m n)

  abbrev Fits : ℕ → ℕ → Type 0
  Fits j n = (word_on (m n) ≡ j) × (leaves n ≡ left_on_entry (m n) n) × RecordsFound (m n) n

  owes : (j : ℕ) → j < 3 → st.word ≡ place t r j → ((n : ℕ) → f n ≡ leaves n) → ((n : ℕ) → Fits j n)
      → ((s : State S View) → Shows k s → get_elem? s.views id ≡ some me.0 → let n : ℕ = get_or s.words (place t r j) 0 in let ws : List ℕ = set s.words (place t r j) (f n) in
      n < 18446744073709551616 → After (get_or ws (place t r 0) 0) (get_or ws (place t r 1) 0) (get_or ws (place t r 2) 0) (map (steps_on t r) s.views) n)
      → Allows (Shows k) slots id me (place t r j) f (promises_step (entry_kind k t r m leaves) st me)
  owes j jn is ok fit step = kind_owes (entry_kind k t r m leaves) slots id me (place t r j) f st is ok (inside k.domains t r j tn rn jn) (λ n. ap (place t r) (fit n).0) (λ s shown at fits. let n : ℕ = get_or s.words (place t r j) 0 in let after = step s shown at fits in
      ((shown.now.seats id me.0 at).0, shows_step k s id me.0 t r (m n) shown at j (f n) tn rn jn (shown.now.seats id me.0 at).0 (fit n).0 (ok n ∙ (fit n).1) (fit n).2 after.1 after.2 after.0))

  history_at : (s : State S View) → get_elem? s.views id ≡ some me.0 → get_elem? (map (steps_on t r) s.views) id ≡ some h
  history_at s at = at_map (steps_on t r) s.views id me.0 at

  before : (s : State S View) → Shows k s → get_elem? s.views id ≡ some me.0
      → Before (get_or s.words (place t r 0) 0) (get_or s.words (place t r 1) 0) (get_or s.words (place t r 2) 0) (map (steps_on t r) s.views)
  before s shown at = (shown.now.entries t r tn rn, history_at s at, (shown.now.seats id me.0 at).0, (shown.now.seats id me.0 at).1, saw_there k shown.history s shown.now shown.stood id me.0 at t r tn rn)

  here : (s : State S View) (j y : ℕ) → Shows k s → j < 3 → get_or (set s.words (place t r j) y) (place t r j) 0 ≡ y
  here s j y shown jn = get_or-set_same s.words (place t r j) y 0 (let i = inside k.domains t r j tn rn jn in let w = shown.now.wide in omega arith)

  there : (s : State S View) (i j y : ℕ) → i ≢ j → get_or (set s.words (place t r j) y) (place t r i) 0 ≡ get_or s.words (place t r i) 0
  there s i j y n = get_or-set_other s.words (place t r j) (place t r i) y 0 (λ e. n (omega arith))

  -- a step on the control word
  pub control_owes : st.word ≡ place t r 0 → ((n : ℕ) → f n ≡ leaves n) → ((n : ℕ) → Fits 0 n) → ((w a b : ℕ) (hs : List (List EntryStep)) → Before w a b hs → w < 18446744073709551616 → After (leaves w) a b hs w)
      → Allows (Shows k) slots id me (place t r 0) f (promises_step (entry_kind k t r m leaves) st me)
  control_owes is ok fit step = owes 0 (omega arith) is ok fit (λ s shown at fits. let w : ℕ = get_or s.words (place t r 0) 0 in let a : ℕ = get_or s.words (place t r 1) 0 in let b : ℕ = get_or s.words (place t r 2) 0 in
      let hs : List (List EntryStep) = map (steps_on t r) s.views in
      subst (λ (u : ℕ × ℕ × ℕ). After u.0 u.1 u.2 hs w) (λ i. (sym (here s 0 (f w) shown (omega arith) ∙ ok w) i, sym (there s 1 0 (f w) (λ e. omega arith)) i, sym (there s 2 0 (f w) (λ e. omega arith)) i))
      (step w a b hs (before s shown at) fits))

  pub first_owes : st.word ≡ place t r 1 → ((n : ℕ) → f n ≡ leaves n) → ((n : ℕ) → Fits 1 n) → ((w a b : ℕ) (hs : List (List EntryStep)) → Before w a b hs → After w (leaves a) b hs a)
      → Allows (Shows k) slots id me (place t r 1) f (promises_step (entry_kind k t r m leaves) st me)
  first_owes is ok fit step = owes 1 (omega arith) is ok fit (λ s shown at fits. let w : ℕ = get_or s.words (place t r 0) 0 in let a : ℕ = get_or s.words (place t r 1) 0 in let b : ℕ = get_or s.words (place t r 2) 0 in
      let hs : List (List EntryStep) = map (steps_on t r) s.views in
      subst (λ (u : ℕ × ℕ × ℕ). After u.0 u.1 u.2 hs a) (λ i. (sym (there s 0 1 (f a) (λ e. omega arith)) i, sym (here s 1 (f a) shown (omega arith) ∙ ok a) i, sym (there s 2 1 (f a) (λ e. omega arith)) i))
      (step w a b hs (before s shown at)))

  pub second_owes : st.word ≡ place t r 2 → ((n : ℕ) → f n ≡ leaves n) → ((n : ℕ) → Fits 2 n) → ((w a b : ℕ) (hs : List (List EntryStep)) → Before w a b hs → After w a (leaves b) hs b)
      → Allows (Shows k) slots id me (place t r 2) f (promises_step (entry_kind k t r m leaves) st me)
  second_owes is ok fit step = owes 2 (omega arith) is ok fit (λ s shown at fits. let w : ℕ = get_or s.words (place t r 0) 0 in let a : ℕ = get_or s.words (place t r 1) 0 in let b : ℕ = get_or s.words (place t r 2) 0 in
      let hs : List (List EntryStep) = map (steps_on t r) s.views in
      subst (λ (u : ℕ × ℕ × ℕ). After u.0 u.1 u.2 hs b) (λ i. (sym (there s 0 2 (f b) (λ e. omega arith)) i, sym (there s 1 2 (f b) (λ e. omega arith)) i, sym (here s 2 (f b) shown (omega arith) ∙ ok b) i))
      (step w a b hs (before s shown at)))

-- the record revoked
revoked : (x : EntryRecord) → changed changes.Revoke x ≡ invalid_at x.generation
revoked x = let e : x.generation + 0 ≡ x.generation = omega arith in ap invalid_at e

-- the record withdrawn
withdrawn : (x : EntryRecord) → changed changes.Withdraw x ≡ invalid_at x.generation
withdrawn x = let e : x.generation + 0 ≡ x.generation = omega arith in ap invalid_at e

-- the record with the other readonly, at the next generation
abbrev turned : Bool → EntryRecord → EntryRecord
turned o x = record { generation = x.generation + 1; entry = with_ro o x.entry }

direction_write : (b c : Bool) → (b && not c) ≡ true → c ≡ false
direction_write true false e = refl
direction_write true true e = cc
direction_write false c e = cc

-- an entry that permits writing is not read-only
permits_write : (e : Entry) (d : DomId) → PermitsPin e d Write → is_read_only e ≡ false
permits_write Invalid d p = let is = p.3 in cc
permits_write (Page u o f) d p = direction_write (u.0 == d.0) o p.3
permits_write (Sub u o f a n) d p = let dir : Bool = (u.0 == d.0) && not o in let low : Bool = dir && is_copying p.0 && nat_le a p.1 in
    direction_write (u.0 == d.0) o (and_parts dir (is_copying p.0) (and_parts (dir && is_copying p.0) (nat_le a p.1) (and_parts low (nat_le (p.1 + p.2) (a + n)) p.3).0).0).0
permits_write (Via u o q r) d p = let is = p.3 in cc

forwards_write : (e : Entry) (d : DomId) → ForwardsPin e d Write → is_read_only e ≡ false
forwards_write Invalid d p = cc
forwards_write (Page u o f) d p = cc
forwards_write (Sub u o f a n) d p = cc
forwards_write (Via u o q r) d p = direction_write (u.0 == d.0) o p

may_write : (k : Layout) (t r : ℕ) (v : View) (x : EntryRecord) → MayPin k t r v Write x → is_read_only x.entry ≡ false
may_write k t r v x (inl p) = permits_write x.entry (id_at k.ids v.position) p
may_write k t r v x (inr (inl f)) = forwards_write x.entry (id_at k.ids v.position) f
may_write k t r v x (inr (inr o)) = permits_write x.entry (id_at k.ids o.owner) o.permits

by_cases : (n old : ℕ) (F : Bool → Type 0) → (n ≡ old → F true) → (n ≢ old → F false) → F (n == old)
by_cases n old F hit miss = dite (ℕ_discrete n old) (λ e. subst F (sym (eq-eqb n old e)) (hit e)) (λ ne. subst F (sym (ne_eqb n old ne)) (miss ne))

-- the generation in the control word of a record in range
pub spelled_generation : (x : EntryRecord) (word reads writes : ℕ) → IsRecord x → (reads < 4096) × (writes < 4096) → word ≡ word_of x.entry x.generation reads writes → word / 17592186044416 ≡ x.generation
spelled_generation x word reads writes ok in_range is = ap generation_of is ∙ (spelled_parts x.entry x.generation reads writes ok.0 in_range).generation

module _ {S : Type 0} (k : Layout) (slots id : ℕ) (me : Me S View) (t r : ℕ) (tn : t < k.domains) (rn : r < TABLE_ENTRIES) where
  pub look_owes : Allows (Shows k) slots id me (place t r 0) (λ n. n) (promises_step (looking k t r) (step slots (place t r 0) 0 0 none) me)
  look_owes = control_owes k t r (λ n. Looked n) (λ n. n) slots id me (λ n. n) (step slots (place t r 0) 0 0 none) tn rn refl (λ n. refl) (λ n. (refl, refl, refl)) (λ w a b hs z fits. (entry_looks k.first t hs id _ z.1 w a b z.0, tt, tt))

  read_first_owes : Allows (Shows k) slots id me (place t r 1) (λ n. n) (promises_step (reading k t r First) (step slots (place t r 1) 0 0 none) me)
  read_first_owes = first_owes k t r (λ n. ReadBody First n) (λ n. n) slots id me (λ n. n) (step slots (place t r 1) 0 0 none) tn rn refl (λ n. refl) (λ n. (refl, refl, refl)) (λ w a b hs z. (entry_reads k.first t hs id _ z.1 w a b z.0 First a, tt, tt))

  read_second_owes : Allows (Shows k) slots id me (place t r 2) (λ n. n) (promises_step (reading k t r Second) (step slots (place t r 2) 0 0 none) me)
  read_second_owes = second_owes k t r (λ n. ReadBody Second n) (λ n. n) slots id me (λ n. n) (step slots (place t r 2) 0 0 none) tn rn refl (λ n. refl) (λ n. (refl, refl, refl)) (λ w a b hs z. (entry_reads k.first t hs id _ z.1 w a b z.0 Second b, tt, tt))

  pub read_owes : (h : BodyWord) → Allows (Shows k) slots id me (place t r (body_word_index h)) (λ n. n) (promises_step (reading k t r h) (step slots (place t r (body_word_index h)) 0 0 none) me)
  read_owes First = read_first_owes
  read_owes Second = read_second_owes

  -- a pin stores one more
  abbrev StoresPin : Purpose → ℕ → ℕ → Type 0
  StoresPin (purposes.Pin d) old new = new ≡ old + unit_of d
  StoresPin (purposes.Change c) old new = Unit {0}

  -- the steps of an exchange say what was found
  exchange_fits : (p : Purpose) (old new : ℕ) → StoresPin p old new → (n : ℕ)
      → let m : EntryStep = cond (n == old) (taken t r me.0 p old new) (missed p old new n) in (word_on m ≡ 0) × (either (n == old) new n ≡ left_on_entry m n) × RecordsFound m n
  exchange_fits (purposes.Pin d) old new one n = by_cases n old (λ (q : Bool). let m : EntryStep = cond q (taken t r me.0 (purposes.Pin d) old new) (missed (purposes.Pin d) old new n) in (word_on m ≡ 0) × (either q new n ≡ left_on_entry m n) × RecordsFound m n)
      (λ e. (refl, one ∙ ap (λ (u : ℕ). u + unit_of d) (sym e), sym e)) (λ ne. (refl, refl, (refl, ne)))
  exchange_fits (purposes.Change c) old new one n = by_cases n old (λ (q : Bool). let m : EntryStep = cond q (taken t r me.0 (purposes.Change c) old new) (missed (purposes.Change c) old new n) in (word_on m ≡ 0) × (either q new n ≡ left_on_entry m n) × RecordsFound m n)
      (λ e. (refl, refl, sym e)) (λ ne. (refl, refl, (refl, ne)))

  -- an exchange, taken where the word is the one expected
  exchange_owes : (p : Purpose) (old new : ℕ) → StoresPin p old new
      → ((w a b : ℕ) (hs : List (List EntryStep)) → Before k t r (λ n. Looked n) (λ n. n) slots id me (λ n. n) (step slots (place t r 0) old new none) tn rn w a b hs → w ≡ old → ShowsEntry k.first t new a b (set hs id (taken t r me.0 p old new ∷ steps_on t r me.0)) × IsByOwner id t (taken t r me.0 p old new) × IsOfRecord (last_record k.first (owner_steps t hs)) (taken t r me.0 p old new))
      → ((w a b : ℕ) (hs : List (List EntryStep)) → Before k t r (λ n. Looked n) (λ n. n) slots id me (λ n. n) (step slots (place t r 0) old new none) tn rn w a b hs → w ≢ old → ShowsEntry k.first t w a b (set hs id (missed p old new w ∷ steps_on t r me.0)) × IsByOwner id t (missed p old new w) × IsOfRecord (last_record k.first (owner_steps t hs)) (missed p old new w))
      → Allows (Shows k) slots id me (place t r 0) (λ n. either (n == old) new n) (promises_step (exchanging k t r me.0 p old new) (step slots (place t r 0) old new none) me)
  exchange_owes p old new one hit miss = control_owes k t r (λ n. cond (n == old) (taken t r me.0 p old new) (missed p old new n)) (λ n. either (n == old) new n) slots id me (λ n. either (n == old) new n) (step slots (place t r 0) old new none) tn rn refl (λ n. refl) (exchange_fits p old new one)
      (λ w a b hs z fits. by_cases w old (λ (q : Bool). let m : EntryStep = cond q (taken t r me.0 p old new) (missed p old new w) in ShowsEntry k.first t (either q new w) a b (set hs id (m ∷ steps_on t r me.0)) × IsByOwner id t m × IsOfRecord (last_record k.first (owner_steps t hs)) m)
      (hit w a b hs z) (miss w a b hs z))

  pub pin_owes : (d : Dir) (old new : ℕ) → new ≡ old + unit_of d → HasLooked t r me.0 old → IsValid old → MayPin k t r me.0 d (record_seen (last_seen t r me.0)) → pins_in d old < MAX_PINS
      → Allows (Shows k) slots id me (place t r 0) (λ n. either (n == old) new n) (promises_step (exchanging k t r me.0 (purposes.Pin d) old new) (step slots (place t r 0) old new none) me)
  pin_owes d old new one looked valid may room = exchange_owes (purposes.Pin d) old new one
      (λ w a b hs z e. (
        subst (λ (u : ℕ). ShowsEntry k.first t u a b (set hs id (taken t r me.0 (purposes.Pin d) old new ∷ steps_on t r me.0))) (ap (λ (u : ℕ). u + unit_of d) e ∙ sym one)
            (entry_pins k.first t hs id (steps_on t r me.0) z.1 w a b z.0 d old (last_seen t r me.0) (subst (SawRecord (last_record k.first (owner_steps t hs)) (earlier_records k.first (owner_steps t hs))) looked.0 z.4) (looked.1 ∙ sym e) (subst IsValid (sym e) valid) looked.2 (λ q. may_write k t r me.0 (record_seen (last_seen t r me.0)) (subst (λ (u : Dir). MayPin k t r me.0 u (record_seen (last_seen t r me.0))) q may)) (subst (λ (u : ℕ). pins_in d u < MAX_PINS) (sym e) room)),
        tt,
        pins_last k.first t hs id (steps_on t r me.0) z.1 w a b z.0 (last_seen t r me.0) (subst (SawRecord (last_record k.first (owner_steps t hs)) (earlier_records k.first (owner_steps t hs))) looked.0 z.4) (looked.1 ∙ sym e) (subst IsValid (sym e) valid) looked.2,
      ))
      (λ w a b hs z n. (entry_misses_pin k.first t hs id (steps_on t r me.0) z.1 w a b z.0 d old new, tt, tt))

  lowered : (d : Dir) (w : ℕ) → unit_of d ≤ w → w < 18446744073709551616 → w - unit_of d ≡ (w + (2 ^ 64 - unit_of d)) % 2 ^ 64
  lowered Read w a b = omega arith
  lowered Write w a b = omega arith

  pub unpin_owes : (d : Dir) (g : ℕ) → Holds t r d g me.0
      → Allows (Shows k) slots id me (place t r 0) (λ n. (n + (2 ^ 64 - unit_of d)) % 2 ^ 64) (promises_step (unpinning k t r d g) (step slots (place t r 0) 0 0 none) me)
  unpin_owes d g holds = control_owes k t r (λ n. Unpinned d g) (λ n. (n + (2 ^ 64 - unit_of d)) % 2 ^ 64) slots id me (λ n. (n + (2 ^ 64 - unit_of d)) % 2 ^ 64) (step slots (place t r 0) 0 0 none) tn rn refl (λ n. refl) (λ n. (refl, refl, tt))
      (λ w a b hs z fits. let p = there_is d g (live_pins (steps_on t r me.0)) holds in (
        subst (λ (u : ℕ × ℕ). ShowsEntry k.first t u.0 a b (set hs id (Unpinned d u.1 ∷ steps_on t r me.0)))
            (λ i. (lowered d w (pin_counted k.first t hs id (steps_on t r me.0) z.1 w a b z.0 d p.0 p.1 p.2) fits i, p.3 i))
            (entry_unpins k.first t hs id (steps_on t r me.0) z.1 w a b z.0 d p.0 p.1 p.2),
        tt,
        tt,
      ))

  -- the owner's steps

  module _ (own : me.0.position ≡ t) where
    at_home : (hs : List (List EntryStep)) → get_elem? hs id ≡ some (steps_on t r me.0) → me.0.position ≡ id → get_elem? hs t ≡ some (steps_on t r me.0)
    at_home hs at e = subst (λ (u : ℕ). get_elem? hs u ≡ some (steps_on t r me.0)) (sym e ∙ own) at

    to_seat : (w a b : ℕ) (hs : List (List EntryStep)) (m : EntryStep) → me.0.position ≡ id → ShowsEntry k.first t w a b (set hs t (m ∷ steps_on t r me.0)) → ShowsEntry k.first t w a b (set hs id (m ∷ steps_on t r me.0))
    to_seat w a b hs m e = subst (λ (u : ℕ). ShowsEntry k.first t w a b (set hs u (m ∷ steps_on t r me.0))) (sym own ∙ e)

    last_is : me.0.first ≡ k.first → last_of r me.0 ≡ last_record k.first (steps_on t r me.0)
    last_is e = λ i. last_record (e i) (steps_on (own i) r me.0)

    store_first_owes : (v : ℕ) → (last_of r me.0).entry ≡ Invalid → Allows (Shows k) slots id me (place t r 1) (λ _. v) (promises_step (storing k t r First v) (step slots (place t r 1) v 0 none) me)
    store_first_owes v none_yet = first_owes k t r (λ n. StoredBody First v) (λ n. v) slots id me (λ _. v) (step slots (place t r 1) v 0 none) tn rn refl (λ n. refl) (λ n. (refl, refl, tt))
        (λ w a b hs z. (to_seat w v b hs (StoredBody First v) z.2 (entry_stores_first k.first t hs (steps_on t r me.0) (at_home hs z.1 z.2) w a b z.0 v (ap (λ (x : EntryRecord). x.entry) (sym (last_is z.3)) ∙ none_yet)), sym z.2 ∙ own, tt))

    store_second_owes : (v : ℕ) → (last_of r me.0).entry ≡ Invalid → Allows (Shows k) slots id me (place t r 2) (λ _. v) (promises_step (storing k t r Second v) (step slots (place t r 2) v 0 none) me)
    store_second_owes v none_yet = second_owes k t r (λ n. StoredBody Second v) (λ n. v) slots id me (λ _. v) (step slots (place t r 2) v 0 none) tn rn refl (λ n. refl) (λ n. (refl, refl, tt))
        (λ w a b hs z. (to_seat w a v hs (StoredBody Second v) z.2 (entry_stores_second k.first t hs (steps_on t r me.0) (at_home hs z.1 z.2) w a b z.0 v (ap (λ (x : EntryRecord). x.entry) (sym (last_is z.3)) ∙ none_yet)), sym z.2 ∙ own, tt))

    pub store_owes : (h : BodyWord) (v : ℕ) → (last_of r me.0).entry ≡ Invalid → Allows (Shows k) slots id me (place t r (body_word_index h)) (λ _. v) (promises_step (storing k t r h v) (step slots (place t r (body_word_index h)) v 0 none) me)
    store_owes First v none_yet = store_first_owes v none_yet
    store_owes Second v none_yet = store_second_owes v none_yet

    -- an exchange by the owner
    change_owes : (c : EntryChange) (old new : ℕ)
        → ((w a b : ℕ) (hs : List (List EntryStep)) → ShowsEntry k.first t w a b hs → get_elem? hs t ≡ some (steps_on t r me.0) → me.0.first ≡ k.first → w ≡ old → ShowsEntry k.first t new a b (set hs t (Changed c old new (changed c (last_of r me.0)) ∷ steps_on t r me.0)))
        → Allows (Shows k) slots id me (place t r 0) (λ n. either (n == old) new n) (promises_step (exchanging k t r me.0 (purposes.Change c) old new) (step slots (place t r 0) old new none) me)
    change_owes c old new hit = exchange_owes (purposes.Change c) old new tt
        (λ w a b hs z e. (to_seat new a b hs (Changed c old new (changed c (last_of r me.0))) z.2 (hit w a b hs z.0 (at_home hs z.1 z.2) z.3 e), sym z.2 ∙ own, tt))
        (λ w a b hs z n. (entry_misses_change k.first t hs id (steps_on t r me.0) z.1 w a b z.0 c old new, tt, tt))

    pub revoke_owes : (old new : ℕ) → IsIdleOf (last_of r me.0) old → new ≡ invalid_word old
        → Allows (Shows k) slots id me (place t r 0) (λ n. either (n == old) new n)
        (promises_step (exchanging k t r me.0 (purposes.Change changes.Revoke) old new) (step slots (place t r 0) old new none) me)
    revoke_owes old new idle is = change_owes changes.Revoke old new (λ w a b hs z at f e.
        let h : List EntryStep = steps_on t r me.0 in let y : EntryRecord = last_record k.first h in let l = last_is f in let m = mine k.first t hs h at w a b z in
        let g : old / 17592186044416 ≡ y.generation = ap generation_of (sym e) ∙ spelled_generation y w (total_pins Read hs) (total_pins Write hs) (legal_record y (earlier_records k.first h) m.lawful) m.in_range m.spelled in
        let i : new ≡ idle_word_of Invalid y.generation = omega arith in
        subst (λ (u : ℕ × EntryRecord). ShowsEntry k.first t u.0 a b (set hs t (Changed changes.Revoke old new u.1 ∷ h))) (λ j. (sym i j, sym (revoked (last_of r me.0)) j))
        (subst (λ (u : EntryRecord). ShowsEntry k.first t (idle_word_of Invalid y.generation) a b (set hs t (Changed changes.Revoke old new (invalid_at u.generation) ∷ h))) (sym l)
        (entry_revokes k.first t hs h at w a b z old new e (e ∙ (idle ∙ ap (λ (u : EntryRecord). idle_word_of u.entry u.generation) l)))))

    pub withdraw_owes : (old new : ℕ) → new ≡ withdrawn_word old
        → Allows (Shows k) slots id me (place t r 0) (λ n. either (n == old) new n)
        (promises_step (exchanging k t r me.0 (purposes.Change changes.Withdraw) old new) (step slots (place t r 0) old new none) me)
    withdraw_owes old new is = change_owes changes.Withdraw old new (λ w a b hs z at f e.
        let h : List EntryStep = steps_on t r me.0 in let y : EntryRecord = last_record k.first h in let l = last_is f in let m = mine k.first t hs h at w a b z in
        let p = spelled_parts y.entry y.generation (total_pins Read hs) (total_pins Write hs) (legal_record y (earlier_records k.first h) m.lawful).0 m.in_range in let here = sym e ∙ m.spelled in
        let g : generation_of old ≡ y.generation = ap generation_of here ∙ p.generation in
        let reads : pins_in Read old ≡ total_pins Read hs = ap (pins_in Read) here ∙ p.reads in
        let writes : pins_in Write old ≡ total_pins Write hs = ap (pins_in Write) here ∙ p.writes in
        let u : withdrawn_word old ≡ 17592186044416 * y.generation + 16 * total_pins Read hs + 65536 * total_pins Write hs = λ j. 17592186044416 * g j + 16 * reads j + 65536 * writes j in
        let v : 17592186044416 * y.generation + 16 * total_pins Read hs + 65536 * total_pins Write hs ≡ word_of Invalid y.generation (total_pins Read hs) (total_pins Write hs) = omega arith in
        subst (λ (u : EntryRecord). ShowsEntry k.first t new a b (set hs t (Changed changes.Withdraw old new u ∷ h))) (sym (withdrawn (last_of r me.0)))
        (subst (λ (u : EntryRecord). ShowsEntry k.first t new a b (set hs t (Changed changes.Withdraw old new (invalid_at u.generation) ∷ h))) (sym l)
        (entry_withdraws k.first t hs h at w a b z new old new e (is ∙ (u ∙ v)))))

    pub grant_owes : (e : Entry) (old new : ℕ) → IsIdleOf (last_of r me.0) old → new ≡ idle_word_of e ((last_of r me.0).generation + 1) → (last_of r me.0).entry ≡ Invalid → IsEntry e → e ≢ Invalid
        → (last_of r me.0).generation < LAST_GENERATION → IsSpelled e (stored_body First (steps_on t r me.0)) (stored_body Second (steps_on t r me.0))
        → Allows (Shows k) slots id me (place t r 0) (λ n. either (n == old) new n)
        (promises_step (exchanging k t r me.0 (purposes.Change (changes.Publish e)) old new) (step slots (place t r 0) old new none) me)
    grant_owes e old new idle is none_yet ok some_kind room body = let x : EntryRecord = last_of r me.0 in
        change_owes (changes.Publish e) old new (λ w a b hs z at f q.
        let l = last_is f in subst (λ (u : ℕ). ShowsEntry k.first t u a b (set hs t (Changed (changes.Publish e) old new (record { generation = x.generation + 1; entry = e }) ∷ steps_on t r me.0))) (sym is)
        (subst (λ (y : EntryRecord). ShowsEntry k.first t (idle_word_of e (y.generation + 1)) a b (set hs t (Changed (changes.Publish e) old new (record { generation = y.generation + 1; entry = e }) ∷ steps_on t r me.0))) (sym l)
        (entry_grants k.first t hs (steps_on t r me.0) at w a b z old new e q (q ∙ (idle ∙ ((λ i. idle_word_of (none_yet i) x.generation) ∙ ap (λ (y : EntryRecord). idle_word_of Invalid y.generation) l))) (ap (λ (y : EntryRecord). y.entry) (sym l) ∙ none_yet) ok some_kind
        (subst (λ (y : EntryRecord). y.generation < LAST_GENERATION) l room) body)))

    -- the word after a turn, with its pins
    turned_is : (o : Bool) (x : EntryRecord) (reads writes w new : ℕ) → x.entry ≢ Invalid → is_read_only x.entry ≡ not o → w ≡ word_of x.entry x.generation reads writes → new + flag (not o) ≡ w + flag o + 17592186044416
        → new ≡ word_of (with_ro o x.entry) (x.generation + 1) reads writes
    turned_is o x reads writes w new n now is e = let l = turned_low o x.entry n now in let d = turned_domain o x.entry in
        let L : ℕ = low_bits (with_ro o x.entry) in let D : ℕ = named_domain (with_ro o x.entry) in let L0 : ℕ = low_bits x.entry in let D0 : ℕ = named_domain x.entry in
        let l' : L + flag (not o) ≡ L0 + flag o = l in let d' : D ≡ D0 = d in omega arith

    turn_owes : (o : Bool) (c : EntryChange) (old new : ℕ) → ((x : EntryRecord) → changed c x ≡ turned o x) → (last_of r me.0).entry ≢ Invalid → generation_of old < LAST_GENERATION → is_read_only (last_of r me.0).entry ≡ not o → (o ≡ true → pins_in Write old ≡ 0)
        → new + flag (not o) ≡ old + flag o + 17592186044416
        → Allows (Shows k) slots id me (place t r 0) (λ n. either (n == old) new n)
        (promises_step (exchanging k t r me.0 (purposes.Change c) old new) (step slots (place t r 0) old new none) me)
    turn_owes o c old new turns_it some_kind room now unwritten is = let x : EntryRecord = last_of r me.0 in
        change_owes c old new (λ w a b hs z at f q. let l = last_is f in let h : List EntryStep = steps_on t r me.0 in let y : EntryRecord = last_record k.first h in let s = mine k.first t hs h at w a b z in
        let g : old / 17592186044416 ≡ y.generation = ap generation_of (sym q) ∙ spelled_generation y w (total_pins Read hs) (total_pins Write hs) (legal_record y (earlier_records k.first h) s.lawful) s.in_range s.spelled in
        let writes : total_pins Write hs ≡ pins_in Write w = sym (ap (pins_in Write) s.spelled ∙ (spelled_parts y.entry y.generation (total_pins Read hs) (total_pins Write hs) (legal_record y (earlier_records k.first h) s.lawful).0 s.in_range).writes) in
        let turns : is_read_only y.entry ≡ not o = ap (λ (u : EntryRecord). is_read_only u.entry) (sym l) ∙ now in let kind : y.entry ≢ Invalid = subst (λ (u : EntryRecord). u.entry ≢ Invalid) l some_kind in
        subst (λ (u : EntryRecord). ShowsEntry k.first t new a b (set hs t (Changed c old new u ∷ h))) (sym (turns_it x ∙ ap (turned o) l))
        (entry_turns k.first t hs h at w a b z o c new old new q kind turns (omega arith) (λ n. writes ∙ (ap (pins_in Write) q ∙ unwritten n))
        (turned_is o y (total_pins Read hs) (total_pins Write hs) w new kind turns s.spelled (is ∙ ap (λ (u : ℕ). u + flag o + 17592186044416) (sym q)))))

    pub demote_owes : (old new : ℕ) → (last_of r me.0).entry ≢ Invalid → generation_of old < LAST_GENERATION → is_read_only (last_of r me.0).entry ≡ false → pins_in Write old ≡ 0 → new ≡ demoted_word old
        → Allows (Shows k) slots id me (place t r 0) (λ n. either (n == old) new n) (promises_step (exchanging k t r me.0 (purposes.Change changes.Demote) old new) (step slots (place t r 0) old new none) me)
    demote_owes old new some_kind room now unwritten is = turn_owes true changes.Demote old new (λ _. refl) some_kind room now (λ _. unwritten) (omega arith)

    pub promote_owes : (old new : ℕ) → (last_of r me.0).entry ≢ Invalid → generation_of old < LAST_GENERATION → is_read_only (last_of r me.0).entry ≡ true → new ≡ promoted_word old
        → Allows (Shows k) slots id me (place t r 0) (λ n. either (n == old) new n) (promises_step (exchanging k t r me.0 (purposes.Change changes.Promote) old new) (step slots (place t r 0) old new none) me)
    promote_owes old new some_kind room now is = turn_owes false changes.Promote old new (λ _. refl) some_kind room now (λ n. cc) (omega arith)
