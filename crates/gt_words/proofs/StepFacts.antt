-- What follows from the state that a step was taken in.
use Rattle.std.proofs.Common.{◌≡◌, ◌≢◌, inl, inr, ℕ, ◌+◌, ◌-◌, ◌*◌, ◌%◌, ◌^◌, ◌<◌, ◌≤◌, Bool, true, false, not, cond}
use Rattle.std.proofs.Common.{◌==◌, List, [], ◌∷◌, map, get_or, sym, refl, ap, ◌∙◌, subst, arith, Option, Some, None}
use Rattle.std.proofs.Common.{eq-eqb, ne_eqb}
use mathlib.Core.Option.{some}
use mathlib.Core.Logic.{dite}
use native.Mathlib.Decide.{ℕ_discrete}
use prog.Atomic.{either}
use lib.ListN.{get_elem?}
use Rattle.atomic_table.proofs.Lists.{at_map}
use Rattle.atomic_table.specs.Table.{State}
use Rattle.gt_model.specs.Entries.{is_read_only}
use Rattle.gt_model.specs.Spelling.{control_with, named_domain, word_of}
use Rattle.gt_model.specs.Words.{control_of, unit_of}
use Rattle.gt_model.specs.declared.control.Control.{Control}
use Rattle.gt_model.specs.declared.entry.Entry.{Entry}
use Rattle.gt_model.specs.declared.entry.Entry.TheVariants.{Invalid, Page, Sub, Via}
use Rattle.gt_types.specs.declared.Dir.{Dir}
use Rattle.gt_types.specs.declared.Dir.TheVariants.{Read, Write}
use Rattle.gt_words.proofs.SeatsKept.{AreAlike, body_generation, given_less, given_records, keeps, keeps_header}
use Rattle.gt_words.proofs.SeatsKept.{keeps_others, keeps_pins, keeps_rows, sees_no_earlier, some_more, taken_more}
use Rattle.gt_words.proofs.SeatsKept.{taken_records, there_is}
use Rattle.gt_words.proofs.HistorySteps.{held_there}
use Rattle.gt_words.proofs.Lifts.{inside, owner_made, steps_on-added, steps_on-added-else}
use Rattle.gt_words.proofs.OneEntry.{count_in, held_at, idle_held, mine}
use Rattle.gt_words.proofs.StepDuties.{spelled_generation}
use Rattle.gt_words.specs.Keeping.{HoldsOneMore, generation_in}
use Rattle.gt_words.specs.Laws.{bounded, one_record}
use Rattle.gt_words.proofs.Records.{legal_record, listed_record, spelled_control, spelled_parts}
use Rattle.gt_words.proofs.Seeing.{saw_there}
use Rattle.gt_words.proofs.Looking.{seen_is_last}
use Rattle.gt_words.specs.Answers.{AddsToEntry, Changes, Demotes, LooksAtBody, LooksAtControl, MissesBusy}
use Rattle.gt_words.specs.Answers.{MissesChange, MissesPin, Pins, Publishes, Revokes, StepsOnControl, StoresBody}
use Rattle.gt_words.specs.Answers.{Unpins, UnpinsTo}
use Rattle.gt_words.specs.Conditions.{CountsPins, HasLooked, HasNoPins, HasNoWritePins, Holds, IsBusyOf, IsIdleOf}
use Rattle.gt_words.specs.Conditions.{IsNotEarlier, IsWordOf, MayPin}
use Rattle.gt_word_history.specs.Controls.{IsTurnable, IsValid, generation_of, pins_in}
use Rattle.gt_word_history.specs.History.{StepHistory, part_of}
use Rattle.gt_word_history.specs.Rule.{IsRecord, Layout, ShowsEntry, ShowsRecord, Stands, owner_steps, place}
use Rattle.gt_word_history.specs.Rule.{total_pins}
use Rattle.gt_words.specs.Sight.{SawRecord}
use Rattle.gt_word_history.specs.Steps.{TakesStep, changed, changed_word, exchanging, body_word_index, missed, on_entry}
use Rattle.gt_word_history.specs.Steps.{taken}
use Rattle.gt_word_history.specs.Views.{IsAmong, LivePin, Seen, earlier_records, entry_steps, is_body_word, last_of}
use Rattle.gt_word_history.specs.Views.{last_record, last_seen, own, own_body, pin_count, live_pins, record_seen}
use Rattle.gt_word_history.specs.Views.{seen, steps_on, steps_on_header, stored_body, with_step}
use Rattle.gt_model.specs.declared.change.EntryChange.{EntryChange}
use Rattle.gt_word_history.specs.declared.view.EntryStep.{EntryStep}
use Rattle.gt_word_history.specs.declared.view.EntryStep.TheVariants.{ChangeMissed, Changed, Looked, PinMissed}
use Rattle.gt_word_history.specs.declared.view.EntryStep.TheVariants.{Pinned, ReadBody, StoredBody, Unpinned}
use Rattle.gt_model.specs.declared.change.BodyWord.{BodyWord}
use Rattle.gt_model.specs.declared.change.BodyWord.TheVariants.{First, Second}
use Rattle.gt_word_history.specs.declared.view.Purpose.{Purpose}
use Rattle.gt_word_history.specs.declared.view.EntryRecord.{EntryRecord}
use Rattle.gt_word_history.specs.declared.view.View.{View}
use Rattle.gt_model.specs.declared.change.EntryChange.TheVariants.{Demote, Publish, Revoke}
use Rattle.gt_types.specs.declared.limits.TheConstants.{TABLE_ENTRIES}

-- one more step on an entry
pub adds_to_entry : (past : StepHistory) (t r : ℕ) (m : EntryStep) (v w : View) → w ≡ with_step past (on_entry t r m) v → AddsToEntry past t r m v w
adds_to_entry past t r m v w e = record {
  view = e;
  here = ap (steps_on t r) e ∙ steps_on-added past t r m v;
  others = λ t' r' n. ap (steps_on t' r') e ∙ steps_on-added-else past t r m v t' r' n;
  headers = λ t'. ap (steps_on_header t') e;
}

-- an exchange that found the word expected was taken
pub exchange_taken : (k : Layout) (t r : ℕ) (v : View) (p : Purpose) (old new found : ℕ) (w : View) → found ≡ old
    → (past : StepHistory) → w ≡ with_step past ((exchanging k t r v p old new).step found) v → TakesStep (Unit {0}) k v past ((exchanging k t r v p old new).step found) (place t r 0) found ((exchanging k t r v p old new).leaves found)
    → StepsOnControl k t r (taken t r v p old new) old new v w
exchange_taken k t r v p old new found w e past view step = let b : (found == old) ≡ true = eq-eqb found old e in record {
  past = past;
  adds = adds_to_entry past t r (taken t r v p old new) v w (view ∙ ap (λ (q : Bool). with_step past (on_entry t r (cond q (taken t r v p old new) (missed p old new found))) v) b);
  step = subst (λ (n : ℕ). TakesStep (Unit {0}) k v past (on_entry t r (taken t r v p old new)) (place t r 0) n new) e
      (subst (λ (q : Bool). TakesStep (Unit {0}) k v past (on_entry t r (cond q (taken t r v p old new) (missed p old new found))) (place t r 0) found (either q new found)) b step);
}

-- an exchange that found another was missed
pub exchange_missed : (k : Layout) (t r : ℕ) (v : View) (p : Purpose) (old new found : ℕ) (w : View) → found ≢ old
    → (past : StepHistory) → w ≡ with_step past ((exchanging k t r v p old new).step found) v → TakesStep (Unit {0}) k v past ((exchanging k t r v p old new).step found) (place t r 0) found ((exchanging k t r v p old new).leaves found)
    → StepsOnControl k t r (missed p old new found) found found v w
exchange_missed k t r v p old new found w n past view step = let b : (found == old) ≡ false = ne_eqb found old n in record {
  past = past;
  adds = adds_to_entry past t r (missed p old new found) v w (view ∙ ap (λ (q : Bool). with_step past (on_entry t r (cond q (taken t r v p old new) (missed p old new found))) v) b);
  step = subst (λ (q : Bool). TakesStep (Unit {0}) k v past (on_entry t r (cond q (taken t r v p old new) (missed p old new found))) (place t r 0) found (either q new found)) b step;
}

module _ (k : Layout) (t r : ℕ) (m : EntryStep) (found left : ℕ) (v w : View) (tn : t < k.domains) (rn : r < TABLE_ENTRIES) (z : StepsOnControl k t r m found left v w) where
  -- the state before it
  abbrev there : State (Unit {0}) View
  there = z.step.stood.0

  stands : Stands k z.past there
  stands = z.step.stood.1

  -- the steps of each seat on the entry before it
  abbrev all : List (List EntryStep)
  all = map (steps_on t r) there.views

  abbrev first_there : ℕ
  first_there = get_or there.words (place t r 1) 0

  abbrev second_there : ℕ
  second_there = get_or there.words (place t r 2) 0

  -- the entry is shown, by the word found
  pub shown_there : ShowsEntry k.first t found first_there second_there all
  shown_there = subst (λ (u : ℕ). ShowsEntry k.first t u first_there second_there all) (stands.led_here.words (place t r 0) (inside k.domains t r 0 tn rn (omega arith)) ∙ z.step.found_is) (stands.entries t r tn rn)

  pub seat_there : get_elem? all v.position ≡ some (steps_on t r v)
  seat_there = at_map (steps_on t r) there.views v.position v z.step.stood.2

  -- what the seat saw before is of the owner's list
  pub saw_before : SawRecord (last_record k.first (owner_steps t all)) (earlier_records k.first (owner_steps t all)) (seen (steps_on t r v))
  saw_before = saw_there k z.past there stands z.step.stood_before v.position v z.step.stood.2 t r tn rn

  -- a word that is found is of a generation not below that of the word seen before
  pub not_earlier : IsNotEarlier t r v found
  not_earlier = go (seen (steps_on t r v)) saw_before
    where
      go : (s : Option Seen) → SawRecord (last_record k.first (owner_steps t all)) (earlier_records k.first (owner_steps t all)) s → generation_in s ≤ generation_of found
      go None q = omega arith
      go (Some s) q = let f = shown_there.record_shown in let x : EntryRecord = last_record k.first (owner_steps t all) in let xs : List EntryRecord = earlier_records k.first (owner_steps t all) in
          let b = bounded x xs q.at f.lawful q.listed in
          let e : generation_of s.word ≡ q.at.generation = spelled_generation q.at s.word q.reads q.writes (listed_record x xs q.at f.lawful q.listed) q.in_range q.spelled in
          let g : generation_of found ≡ x.generation = spelled_generation x found (total_pins Read all) (total_pins Write all) (legal_record x xs f.lawful) f.in_range f.spelled in omega arith

  -- the view's pins of one generation have one record
  pub alike : AreAlike (live_pins (steps_on t r v))
  alike p q a b g = let f = shown_there.record_shown in let pin = f.pinned v.position (steps_on t r v) seat_there p a in let other = f.pinned v.position (steps_on t r v) seat_there q b in
      one_record (last_record k.first (owner_steps t all)) (earlier_records k.first (owner_steps t all)) p.1 q.1 f.lawful pin.0 other.0 pin.1 other.1 g

  module _ (own_is : v.position ≡ t) where
    -- the entry is shown by the owner's last record
    pub owners_entry : ShowsRecord (last_of r v) (earlier_records v.first (steps_on v.position r v)) found first_there second_there all
    owners_entry = let is = stands.seats v.position v z.step.stood.2 in let here : get_elem? all t ≡ some (steps_on t r v) = subst (λ (u : ℕ). get_elem? all u ≡ some (steps_on t r v)) own_is seat_there in
        let s = mine k.first t all (steps_on t r v) here found first_there second_there shown_there in
        subst (λ (u : ℕ × ℕ). ShowsRecord (last_record u.0 (steps_on u.1 r v)) (earlier_records u.0 (steps_on u.1 r v)) found first_there second_there all) (λ i. (sym is.1 i, sym own_is i)) s

    -- the word found is that of the record, with the pins of all views
    pub spelled_word : found ≡ word_of (last_of r v).entry (last_of r v).generation (total_pins Read all) (total_pins Write all)
    spelled_word = owners_entry.spelled

    -- the word found is one of the record
    pub own_word : IsWordOf (last_of r v) found
    own_word = let x : EntryRecord = last_of r v in let rec = legal_record x (earlier_records v.first (steps_on v.position r v)) owners_entry.lawful in record {
      reads = total_pins Read all;
      writes = total_pins Write all;
      few = owners_entry.in_range;
      spelled = spelled_word;
      control = ap control_of spelled_word ∙ spelled_control x.entry x.generation (total_pins Read all) (total_pins Write all) rec.0 owners_entry.in_range rec.1;
    }

    -- another word than the idle one has pins
    pub busy : (word : ℕ) → IsIdleOf (last_of r v) word → found ≢ word → IsBusyOf (last_of r v) found
    busy word idle n = let x : EntryRecord = last_of r v in let rec = legal_record x (earlier_records v.first (steps_on v.position r v)) owners_entry.lawful in let reads : ℕ = total_pins Read all in let writes : ℕ = total_pins Write all in
        let p = spelled_parts x.entry x.generation reads writes rec.0 owners_entry.in_range in let a : pins_in Read found ≡ reads = ap (pins_in Read) spelled_word ∙ p.reads in let b : pins_in Write found ≡ writes = ap (pins_in Write) spelled_word ∙ p.writes in record {
          word_is = own_word;
          pinned = dite (ℕ_discrete reads 0) (λ e. dite (ℕ_discrete writes 0) (λ f. absurd (n (let s = spelled_word in omega arith))) (λ f. inr (λ g. f (sym b ∙ g)))) (λ e. inl (λ g. e (sym a ∙ g)));
        }

    no_pins : (ps : List LivePin) → pin_count Read ps ≡ 0 → pin_count Write ps ≡ 0 → ps ≡ []
    no_pins [] a b = refl
    no_pins ((Read, x) ∷ ps) a b = absurd (omega arith)
    no_pins ((Write, x) ∷ ps) a b = absurd (omega arith)

    -- the idle word was found in a state without pins
    pub idle_unpinned : IsIdleOf (last_of r v) found → HasNoPins t r z.past
    idle_unpinned idle i = let e = idle_held (last_of r v) (earlier_records v.first (steps_on v.position r v)) found (total_pins Read all) (total_pins Write all) owners_entry.lawful owners_entry.in_range owners_entry.spelled idle in
        let e0 = e.0 in let e1 = e.1 in let a = held_there k z.past there stands.led_here t r i Read in let b = held_there k z.past there stands.led_here t r i Write in no_pins (live_pins (entry_steps t r (part_of i z.past))) (omega arith) (omega arith)

    -- a word without write pins was found in a state without them
    pub write_unpinned : pins_in Write found ≡ 0 → HasNoWritePins t r z.past
    write_unpinned none_there i = let b = held_there k z.past there stands.led_here t r i Write in let x : EntryRecord = last_of r v in
        let rec = legal_record x (earlier_records v.first (steps_on v.position r v)) owners_entry.lawful in
        let e : pins_in Write found ≡ total_pins Write all = ap (pins_in Write) spelled_word ∙ (spelled_parts x.entry x.generation (total_pins Read all) (total_pins Write all) rec.0 owners_entry.in_range).writes in
        omega arith

-- the view of the owner after a step on its own entry
own_steps : (past : StepHistory) (t r : ℕ) (m : EntryStep) (v : View) → v.position ≡ t → steps_on v.position r (with_step past (on_entry t r m) v) ≡ m ∷ steps_on v.position r v
own_steps past t r m v own_is = subst (λ (u : ℕ). steps_on u r (with_step past (on_entry t r m) v) ≡ m ∷ steps_on u r v) (sym own_is) (steps_on-added past t r m v)

-- a step that is no change of the owner's
pub keeps_last : (past : StepHistory) (t r : ℕ) (m : EntryStep) (v w : View) → v.position ≡ t → AddsToEntry past t r m v w → last_record v.first (m ∷ steps_on v.position r v) ≡ last_record v.first (steps_on v.position r v) → last_of r w ≡ last_of r v
keeps_last past t r m v w own_is z same = ap (last_of r) z.view ∙ (ap (last_record v.first) (own_steps past t r m v own_is) ∙ same)

module _ (k : Layout) (r : ℕ) (c : EntryChange) (word : ℕ) (v w : View) (vn : v.position < k.domains) (rn : r < TABLE_ENTRIES) where
  abbrev stored : ℕ
  stored = changed_word c (last_of r v) word

  abbrev after : EntryRecord
  after = changed c (last_of r v)

  -- the owner's exchange was taken
  pub changes : StepsOnControl k v.position r (Changed c word stored after) word stored v w → Changes k r c word v w
  changes z = let m : EntryStep = Changed c word stored after in record {
    steps = z;
    last = ap (last_of r) z.adds.view ∙ ap (last_record v.first) (own_steps z.past v.position r m v refl);
    bodies = λ h. ap (own_body r h) z.adds.view ∙ ap (stored_body h) (own_steps z.past v.position r m v refl);
    rows = keeps_others r m v w z.adds;
    header = keeps_header v.position r m v w z.adds;
    pins = keeps_pins v.position r m v w z.adds refl;
    seen = sees_no_earlier v.position r m v w z.adds (omega arith);
  }

  -- the owner's exchange was missed
  pub misses_change : (found : ℕ) → found ≢ word → StepsOnControl k v.position r (ChangeMissed c word stored found) found found v w → MissesChange k r c word found v w
  misses_change found n z = let m : EntryStep = ChangeMissed c word stored found in let later = not_earlier k v.position r m found found v w vn rn z in record {
    another = n;
    same_record = own_word k v.position r m found found v w vn rn z refl;
    steps = z;
    not_earlier = later;
    keeps = keeps v.position r m v w z.adds (record { lists = λ g ms. refl; last = λ g ms. refl; bodies = λ h ms. refl }) refl later;
  }

-- a look at a control word
pub looks : (k : Layout) (t r n : ℕ) (v w : View) → t < k.domains → r < TABLE_ENTRIES → (past : StepHistory) → w ≡ with_step past (on_entry t r (Looked n)) v → TakesStep (Unit {0}) k v past (on_entry t r (Looked n)) (place t r 0) n n → LooksAtControl k t r n v w
looks k t r n v w tn rn past view step = let z : StepsOnControl k t r (Looked n) n n v w = record { past = past; adds = adds_to_entry past t r (Looked n) v w view; step = step } in let later = not_earlier k t r (Looked n) n n v w tn rn z in record {
  steps = z;
  not_earlier = later;
  keeps = keeps t r (Looked n) v w z.adds (record { lists = λ g ms. refl; last = λ g ms. refl; bodies = λ h ms. refl }) refl later;
}

-- the word of a look at an own entry is one of its last record
pub looks_at_own : (k : Layout) (t r n : ℕ) (v w : View) → t < k.domains → r < TABLE_ENTRIES → LooksAtControl k t r n v w → v.position ≡ t → IsWordOf (last_of r w) n
looks_at_own k t r n v w tn rn z own_is = subst (λ (x : EntryRecord). IsWordOf x n) (sym (z.keeps.rows.last r)) (own_word k t r (Looked n) n n v w tn rn z.steps own_is)

module _ (k : Layout) (t r : ℕ) (d : Dir) (word : ℕ) (v w : View) (tn : t < k.domains) (rn : r < TABLE_ENTRIES) (looked : HasLooked t r v word) where
  -- a pin was taken
  pub pins_entry : IsValid word → MayPin k t r v d (record_seen (last_seen t r v)) → StepsOnControl k t r (Pinned d word (record_seen (last_seen t r v))) word (word + unit_of d) v w → Pins k t r d word v w
  pins_entry valid may z = let y : EntryRecord = record_seen (last_seen t r v) in let m : EntryStep = Pinned d word y in let all : List (List EntryStep) = map (steps_on t r) z.step.stood.0.views in let f = (shown_there k t r m word (word + unit_of d) v w tn rn z).record_shown in
      let x : EntryRecord = last_record k.first (owner_steps t all) in let xs : List EntryRecord = earlier_records k.first (owner_steps t all) in
      let pin : IsAmong (d, y) (live_pins (steps_on t r w)) = subst (λ (ms : List EntryStep). IsAmong (d, y) (live_pins ms)) (sym z.adds.here) (inl refl) in
      let more : HoldsOneMore t r d (generation_of word) v w = subst (λ (g : ℕ). HoldsOneMore t r d g v w) (ap generation_of looked.1) (taken_more t r d word y v w z.adds) in record {
        steps = z;
        current = ap (last_record k.first) (owner_made k z.past z.step.stood.0 z.step.stood.1.led_here t r t tn) ∙ sym (seen_is_last x xs (last_seen t r v) word (total_pins Read all) (total_pins Write all) f.lawful (subst (SawRecord x xs) looked.0 (saw_before k t r m word (word + unit_of d) v w tn rn z)) f.in_range f.spelled looked.1 valid looked.2).0;
        permitted = may;
        held = some_more t r d (generation_of word) v w more;
        pin = pin;
        one_more = more;
        records = taken_records t r d word y v w z.adds;
        rows = keeps_rows t r m v w z.adds (record { lists = λ g ms. refl; last = λ g ms. refl; bodies = λ h ms. refl });
        header = keeps_header t r m v w z.adds;
        seen = sees_no_earlier t r m v w z.adds (omega arith);
      }

  pub misses_pin : (found : ℕ) → found ≢ word → StepsOnControl k t r (PinMissed d word (word + unit_of d) found) found found v w → MissesPin k t r d word found v w
  misses_pin found n z = let m : EntryStep = PinMissed d word (word + unit_of d) found in let later = not_earlier k t r m found found v w tn rn z in
      record { another = n; steps = z; not_earlier = later; keeps = keeps t r m v w z.adds (record { lists = λ g ms. refl; last = λ g ms. refl; bodies = λ h ms. refl }) refl later }

-- the counts of a control word are the sums of the views' pins
pins_in-spelled : (d : Dir) (x : EntryRecord) (word reads writes : ℕ) → IsRecord x → (reads < 4096) × (writes < 4096) → word ≡ word_of x.entry x.generation reads writes → (hs : List (List EntryStep)) → reads ≡ total_pins Read hs → writes ≡ total_pins Write hs → pins_in d word ≡ total_pins d hs
pins_in-spelled Read x word reads writes ok in_range is hs a b = ap (pins_in Read) is ∙ ((spelled_parts x.entry x.generation reads writes ok.0 in_range).reads ∙ a)
pins_in-spelled Write x word reads writes ok in_range is hs a b = ap (pins_in Write) is ∙ ((spelled_parts x.entry x.generation reads writes ok.0 in_range).writes ∙ b)

-- while a view has a pin of an entry, its control word counts it
counted_there : (k : Layout) (t r : ℕ) (d : Dir) → t < k.domains → r < TABLE_ENTRIES → (h : StepHistory) (s : State (Unit {0}) View) (i : ℕ) (v : View) → Stands k h s → get_elem? s.views i ≡ some v → pin_count d (live_pins (steps_on t r v)) ≤ pins_in d (get_or s.words (place t r 0) 0)
counted_there k t r d tn rn h s i v stands at = let hs : List (List EntryStep) = map (steps_on t r) s.views in let f = (stands.entries t r tn rn).record_shown in
    let x : EntryRecord = last_record k.first (owner_steps t hs) in let xs : List EntryRecord = earlier_records k.first (owner_steps t hs) in
    let e = pins_in-spelled d x (get_or s.words (place t r 0) 0) (total_pins Read hs) (total_pins Write hs) (legal_record x xs f.lawful) f.in_range f.spelled hs refl refl in
    let l = held_at d hs i (steps_on t r v) (at_map (steps_on t r) s.views i v at) in omega arith

pub counts_pins : (k : Layout) (t r : ℕ) (d : Dir) → t < k.domains → r < TABLE_ENTRIES → CountsPins k t r d
counts_pins k t r d tn rn s i v shown at = counted_there k t r d tn rn shown.history s i v shown.now at

lowered : (d : Dir) (w : ℕ) → 0 < pins_in d w → w < 18446744073709551616 → (w + (2 ^ 64 - unit_of d)) % 2 ^ 64 ≡ w - unit_of d
lowered Read w a b = omega arith
lowered Write w a b = omega arith

-- a word that counts a pin is at least that pin's unit
unit-there : (d : Dir) (w : ℕ) → 0 < pins_in d w → unit_of d ≤ w
unit-there Read w a = omega arith
unit-there Write w a = omega arith

-- a pin was given back
pub unpins : (k : Layout) (t r : ℕ) (d : Dir) (g : ℕ) (v : View) (found : ℕ) (w : View) → t < k.domains → r < TABLE_ENTRIES → Holds t r d g v → found < 18446744073709551616
    → (past : StepHistory) → w ≡ with_step past (on_entry t r (Unpinned d g)) v → TakesStep (Unit {0}) k v past (on_entry t r (Unpinned d g)) (place t r 0) found ((found + (2 ^ 64 - unit_of d)) % 2 ^ 64) → Unpins k t r d g v w
unpins k t r d g v found w tn rn holds fits past view step = let p = there_is d g (live_pins (steps_on t r v)) holds in let c = count_in d p.0 (live_pins (steps_on t r v)) p.1 p.2 in
    let l = counted_there k t r d tn rn past step.stood.0 v.position v step.stood.1 step.stood.2 in let e : get_or step.stood.0.words (place t r 0) 0 ≡ found = step.stood.1.led_here.words (place t r 0) (inside k.domains t r 0 tn rn (omega arith)) ∙ step.found_is in
    let l' : pin_count d (live_pins (steps_on t r v)) ≤ pins_in d found = subst (λ (n : ℕ). pin_count d (live_pins (steps_on t r v)) ≤ pins_in d n) e l in let some_pin : 0 < pins_in d found = omega arith in
    let m : EntryStep = Unpinned d g in let a = adds_to_entry past t r m v w view in
    let z : StepsOnControl k t r m found (found - unit_of d) v w = record { past = past; adds = a; step = subst (λ (n : ℕ). TakesStep (Unit {0}) k v past (on_entry t r m) (place t r 0) found n) (lowered d found some_pin fits) step } in record {
      found = found;
      counted = some_pin;
      steps = z;
      one_less = given_less t r d g v w holds a;
      records = given_records t r d g v w (alike k t r m found (found - unit_of d) v w tn rn z) a;
      rows = keeps_rows t r m v w a (record { lists = λ g ms. refl; last = λ g ms. refl; bodies = λ h ms. refl });
      header = keeps_header t r m v w a;
      seen = sees_no_earlier t r m v w a (omega arith);
    }

-- the word that this left
pub unpins-to : (k : Layout) (t r : ℕ) (d : Dir) (g : ℕ) (v : View) (found : ℕ) (w : View) → t < k.domains → r < TABLE_ENTRIES → Holds t r d g v → found < 18446744073709551616
    → (past : StepHistory) → w ≡ with_step past (on_entry t r (Unpinned d g)) v → TakesStep (Unit {0}) k v past (on_entry t r (Unpinned d g)) (place t r 0) found ((found + (2 ^ 64 - unit_of d)) % 2 ^ 64) → UnpinsTo k t r d g (found - unit_of d) v w
unfolding unpins
unpins-to k t r d g v found w tn rn holds fits past view step = (unpins k t r d g v found w tn rn holds fits past view step, refl)

-- the word that was found is at least the pin's unit
pub unit-counted : (k : Layout) (t r : ℕ) (d : Dir) (g : ℕ) (v : View) (found : ℕ) (w : View) → t < k.domains → r < TABLE_ENTRIES → Holds t r d g v → found < 18446744073709551616
    → (past : StepHistory) → w ≡ with_step past (on_entry t r (Unpinned d g)) v → TakesStep (Unit {0}) k v past (on_entry t r (Unpinned d g)) (place t r 0) found ((found + (2 ^ 64 - unit_of d)) % 2 ^ 64) → unit_of d ≤ found
unfolding unpins
unit-counted k t r d g v found w tn rn holds fits past view step = unit-there d found (unpins k t r d g v found w tn rn holds fits past view step).counted

module _ (k : Layout) (t r : ℕ) (word : ℕ) (v : View) (w : View) (tn : t < k.domains) (rn : r < TABLE_ENTRIES) (own_is : v.position ≡ t) where
  vn : v.position < k.domains
  vn = subst (λ (u : ℕ). u < k.domains) (sym own_is) tn

  -- an owner's exchange was taken
  pub takes_change : (c : EntryChange) (new : ℕ) → new ≡ changed_word c (last_of r v) word → StepsOnControl k t r (Changed c word new (changed c (last_of r v))) word new v w → Changes k r c word v w
  takes_change c new is z = changes k r c word v w vn rn (subst (λ (u : ℕ × ℕ). StepsOnControl k u.0 r (Changed c word u.1 (changed c (last_of r v))) word u.1 v w) (λ i. (sym own_is i, is i)) z)

  -- an owner's exchange was missed
  pub finds_another : (c : EntryChange) (new found : ℕ) → new ≡ changed_word c (last_of r v) word → found ≢ word → StepsOnControl k t r (ChangeMissed c word new found) found found v w → MissesChange k r c word found v w
  finds_another c new found is n z = misses_change k r c word v w vn rn found n (subst (λ (u : ℕ × ℕ). StepsOnControl k u.0 r (ChangeMissed c word u.1 found) found found v w) (λ i. (sym own_is i, is i)) z)

  pub finds_pins : (c : EntryChange) (new found : ℕ) → new ≡ changed_word c (last_of r v) word → IsIdleOf (last_of r v) word → found ≢ word → StepsOnControl k t r (ChangeMissed c word new found) found found v w → MissesBusy k r c word found v w
  finds_pins c new found is idle n z = record { missed = finds_another c new found is n z; busy = busy k t r (ChangeMissed c word new found) found found v w tn rn z own_is word idle n }

  pub publishes : (e : Entry) (new : ℕ) → new ≡ changed_word (Publish e) (last_of r v) word → IsIdleOf (last_of r v) word
      → StepsOnControl k t r (Changed (Publish e) word new (changed (Publish e) (last_of r v))) word new v w → Publishes k r e word v w
  publishes e new is idle z = let s = takes_change (Publish e) new is z in
      record { changes = s; no_pins = idle_unpinned k v.position r (Changed (Publish e) word (changed_word (Publish e) (last_of r v) word) (changed (Publish e) (last_of r v))) word (changed_word (Publish e) (last_of r v) word) v w vn rn s.steps refl idle }

  pub revokes : (new : ℕ) → new ≡ changed_word Revoke (last_of r v) word → IsIdleOf (last_of r v) word → StepsOnControl k t r (Changed Revoke word new (changed Revoke (last_of r v))) word new v w → Revokes k r word v w
  revokes new is idle z = let s = takes_change Revoke new is z in
      record { changes = s; no_pins = idle_unpinned k v.position r (Changed Revoke word (changed_word Revoke (last_of r v) word) (changed Revoke (last_of r v))) word (changed_word Revoke (last_of r v) word) v w vn rn s.steps refl idle }

  pub demotes : (new : ℕ) → new ≡ changed_word Demote (last_of r v) word → pins_in Write word ≡ 0 → StepsOnControl k t r (Changed Demote word new (changed Demote (last_of r v))) word new v w → Demotes k r word v w
  demotes new is none_there z = let s = takes_change Demote new is z in
      record { changes = s; no_write_pins = write_unpinned k v.position r (Changed Demote word (changed_word Demote (last_of r v) word) (changed Demote (last_of r v))) word (changed_word Demote (last_of r v) word) v w vn rn s.steps refl none_there }

-- the word of a record that has the other readonly
pub turnable : (o : Bool) (x : EntryRecord) (word : ℕ) → IsWordOf x word → x.entry ≢ Invalid → is_read_only x.entry ≡ not o → IsTurnable o word
turnable o x word h some_kind now = let is = h.spelled in (x.entry, 16777216 * named_domain x.entry + 1099511627776 * x.generation + h.reads + 4096 * h.writes, some_kind, now, omega arith)

-- its generation
pub word_generation : (x : EntryRecord) (word : ℕ) → IsWordOf x word → generation_of word ≡ x.generation
word_generation x word h = ap (λ (c : Control). c.generation) h.control ∙ of_entry x.entry
  where
    of_entry : (e : Entry) → (control_with e x.generation h.reads h.writes).generation ≡ x.generation
    of_entry Invalid = refl
    of_entry (Page d o f) = refl
    of_entry (Sub d o f a n) = refl
    of_entry (Via d o t r) = refl

-- a body word was read
pub reads_body : (k : Layout) (t r : ℕ) (h : BodyWord) (n : ℕ) (v w : View) → (past : StepHistory) → w ≡ with_step past (on_entry t r (ReadBody h n)) v
    → TakesStep (Unit {0}) k v past (on_entry t r (ReadBody h n)) (place t r (body_word_index h)) n n → LooksAtBody k t r h n v w
reads_body k t r h n v w past view step = let a = adds_to_entry past t r (ReadBody h n) v w view in
    let same = body_generation h n (seen (steps_on t r v)) in record {
      steps = record { past = past; adds = a; step = step };
      keeps = keeps t r (ReadBody h n) v w a (record { lists = λ g ms. refl; last = λ g ms. refl; bodies = λ i ms. refl }) refl (omega (arith, same));
    }

-- the owner stored a body word
pub stores_body : (k : Layout) (t r : ℕ) (h : BodyWord) (value found : ℕ) (v w : View) → v.position ≡ t → (past : StepHistory) → w ≡ with_step past (on_entry t r (StoredBody h value)) v
    → TakesStep (Unit {0}) k v past (on_entry t r (StoredBody h value)) (place t r (body_word_index h)) found value → StoresBody k r h value v w
stores_body k t r h value found v w own_is past view step = let m : EntryStep = StoredBody h value in
    let a : AddsToEntry past v.position r m v w = subst (λ (u : ℕ). AddsToEntry past u r m v w) (sym own_is) (adds_to_entry past t r m v w view) in
    let here : steps_on w.position r w ≡ m ∷ steps_on v.position r v = ap (λ (u : View). steps_on u.position r w) view ∙ a.here in record {
      found = found;
      steps = record { past = past; adds = a; step = subst (λ (u : ℕ). TakesStep (Unit {0}) k v past (on_entry u r m) (place u r (body_word_index h)) found value) (sym own_is) step };
      stored = ap (stored_body h) here ∙ same h;
      other_body_word = λ i n. ap (stored_body i) here ∙ ap (λ (b : Bool). cond b value (stored_body i (steps_on v.position r v))) (not_same i h n);
      unchanged = ap (λ (u : View). own u.first (steps_on w.position r w)) view ∙ ap (own v.first) here;
      last = ap (λ (u : View). last_record u.first (steps_on w.position r w)) view ∙ ap (last_record v.first) here;
      rows = keeps_others r m v w a;
      header = keeps_header v.position r m v w a;
      pins = keeps_pins v.position r m v w a refl;
      seen = sees_no_earlier v.position r m v w a (omega arith);
    }
  where
    not_same : (i h : BodyWord) → h ≢ i → is_body_word i h ≡ false
    not_same First First n = absurd (n refl)
    not_same First Second n = refl
    not_same Second First n = refl
    not_same Second Second n = absurd (n refl)

    same : (h : BodyWord) → cond (is_body_word h h) value (stored_body h (steps_on v.position r v)) ≡ value
    same First = refl
    same Second = refl
