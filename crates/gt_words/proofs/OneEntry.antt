-- What each kind of step does to an entry, with the owner's moves among those of all seats.
use Rattle.gt_types.specs.declared.limits.TheConstants.{MAX_PINS, LAST_GENERATION}
use Rattle.std.proofs.Common.{◌≡◌, ◌≢◌, ◌⊎◌, inl, inr, ℕ, zero, suc, ◌+◌, ◌-◌, ◌*◌, ◌<◌, ◌≤◌, Bool, true, false, not}
use Rattle.std.proofs.Common.{List, [], ◌∷◌, set, sym, refl, ap, ◌∙◌, subst, arith, get_or-set_other}
use mathlib.Core.Option.{some, some-injective, some-ne-none}
use mathlib.Core.Logic.{dite}
use native.Mathlib.Decide.{ℕ_discrete}
use lib.ListN.{get_elem?}
use Rattle.gt_model.specs.Entries.{IsEntry, is_read_only, with_ro}
use Rattle.gt_model.specs.Spelling.{IsSpelled, idle_word_of, low_bits, named_domain, word_of}
use Rattle.gt_model.specs.Words.{flag, unit_of}
use Rattle.gt_model.specs.declared.entry.Entry.{Entry}
use Rattle.gt_model.specs.declared.entry.Entry.TheVariants.{Invalid, Page, Sub, Via}
use Rattle.gt_types.specs.declared.Dir.{Dir}
use Rattle.gt_types.specs.declared.Dir.TheVariants.{Read, Write}
use Rattle.gt_words.proofs.EarlierRecords.{goes_on, goes_on_here, still_gone, until_fewer, until_later}
use Rattle.gt_words.proofs.Lists.{whose_at, whose_here}
use Rattle.gt_words.proofs.Records.{changes_shown, legal_record, pins_shown, sees_shown, stores_shown, unpins_shown}
use Rattle.gt_words.proofs.Looking.{seen_is_last}
use Rattle.gt_word_history.specs.Controls.{IsValid, generation_of, pins_in}
use Rattle.gt_word_history.specs.Rule.{HasGoneOn, IsLawful, IsRecord, MayFollow, ShowsEntry, ShowsRecord, owner_steps}
use Rattle.gt_word_history.specs.Rule.{total_pins}
use Rattle.gt_words.specs.Sight.{IsSeenOf}
use Rattle.gt_word_history.specs.Views.{HasBody, IsAmong, LivePin, Seen, earlier_records, exchanged, last_record}
use Rattle.gt_word_history.specs.Views.{pin_count, live_pins, pins_until, record_seen, stored_body, weight}
use Rattle.gt_model.specs.declared.change.EntryChange.{EntryChange}
use Rattle.gt_word_history.specs.declared.view.EntryStep.{EntryStep}
use Rattle.gt_word_history.specs.declared.view.EntryStep.TheVariants.{ChangeMissed, Changed, Looked, PinMissed}
use Rattle.gt_word_history.specs.declared.view.EntryStep.TheVariants.{Pinned, ReadBody, StoredBody, Unpinned}
use Rattle.gt_model.specs.declared.change.BodyWord.{BodyWord}
use Rattle.gt_model.specs.declared.change.BodyWord.TheVariants.{First, Second}
use Rattle.gt_word_history.specs.declared.view.EntryRecord.{EntryRecord}
use Rattle.gt_model.specs.declared.change.EntryChange.TheVariants as changes

pub count_in : (d : Dir) (p : LivePin) (ps : List LivePin) → IsAmong p ps → p.0 ≡ d → 1 ≤ pin_count d ps
count_in d p [] h e = absurd h
count_in d p (q ∷ qs) (inl same) e = let z : weight d q.0 ≡ 1 = subst (λ (y : LivePin). weight d y.0 ≡ 1) same (subst (λ (y : Dir). weight d y ≡ 1) (sym e) (one d)) in omega arith
  where
    one : (d : Dir) → weight d d ≡ 1
    one Read = refl
    one Write = refl
count_in d p (q ∷ qs) (inr h) e = let z = count_in d p qs h e in omega arith

pub held_at : (d : Dir) (hs : List (List EntryStep)) (i : ℕ) (h : List EntryStep) → get_elem? hs i ≡ some h → pin_count d (live_pins h) ≤ total_pins d hs
held_at d [] i h e = absurd (some-ne-none h (sym e))
held_at d (x ∷ xs) zero h e = let p : pin_count d (live_pins x) ≡ pin_count d (live_pins h) = ap (λ (z : List EntryStep). pin_count d (live_pins z)) (some-injective x h e) in omega arith
held_at d (x ∷ xs) (suc i) h e = let z = held_at d xs i h e in omega arith

-- a pin stands in the word
pub pin_counted : (g t : ℕ) (hs : List (List EntryStep)) (i : ℕ) (h : List EntryStep) → get_elem? hs i ≡ some h → (word a b : ℕ) → ShowsEntry g t word a b hs → (d : Dir) (p : LivePin) → IsAmong p (live_pins h) → p.0 ≡ d → unit_of d ≤ word
pin_counted g t hs i h at word a b k Read p e q = let c = count_in Read p (live_pins h) e q in let l = held_at Read hs i h at in let s = k.record_shown.spelled in omega arith
pin_counted g t hs i h at word a b k Write p e q = let c = count_in Write p (live_pins h) e q in let l = held_at Write hs i h at in let s = k.record_shown.spelled in omega arith

module _ (g t : ℕ) (hs : List (List EntryStep)) (i : ℕ) (h : List EntryStep) (at : get_elem? hs i ≡ some h) where
  pub same_owner : {A : Type 0} (f : List EntryStep → A) (m : EntryStep) → f (m ∷ h) ≡ f h → f (owner_steps t (set hs i (m ∷ h))) ≡ f (owner_steps t hs)
  same_owner f m e = dite (ℕ_discrete t i) (λ q. subst (λ (z : ℕ). f (owner_steps z (set hs i (m ∷ h))) ≡ f (owner_steps z hs)) (sym q) (ap f (whose_here hs i h (m ∷ h) at) ∙ (e ∙ ap f (sym (whose_at hs i h at)))))
      (λ n. ap f (get_or-set_other hs i t (m ∷ h) [] n))

  module _ (word a b : ℕ) (k : ShowsEntry g t word a b hs) where
    abbrev x : EntryRecord
    x = last_record g (owner_steps t hs)

    abbrev xs : List EntryRecord
    xs = earlier_records g (owner_steps t hs)

    -- a step that is none of the owner's changes
    plain : (word' : ℕ) (m : EntryStep) → last_record g (m ∷ h) ≡ last_record g h → earlier_records g (m ∷ h) ≡ earlier_records g h → stored_body First (m ∷ h) ≡ stored_body First h → stored_body Second (m ∷ h) ≡ stored_body Second h → exchanged (m ∷ h) ≡ exchanged h
        → ((e : ℕ) (d : Dir) → HasGoneOn x hs e → pins_until d (generation_of e) (live_pins (m ∷ h)) ≤ pins_until d (generation_of e) (live_pins h))
        → ShowsRecord x xs word' a b (set hs i (m ∷ h)) → ShowsEntry g t word' a b (set hs i (m ∷ h))
    plain word' m p q r s u fewer z = record {
      record_shown = subst (λ (u : EntryRecord × List EntryRecord). ShowsRecord u.0 u.1 word' a b (set hs i (m ∷ h))) (λ j. (sym (same_owner (last_record g) m p) j, sym (same_owner (earlier_records g) m q) j)) z;
      first = k.first ∙ sym (same_owner (stored_body First) m r);
      second = k.second ∙ sym (same_owner (stored_body Second) m s);
      gone_on = λ e is. let gone = k.gone_on e (subst (IsAmong e) (same_owner exchanged m u) is) in
          subst (λ (y : EntryRecord). HasGoneOn y (set hs i (m ∷ h)) e) (sym (same_owner (last_record g) m p)) (still_gone hs i h m at x e gone (λ d. fewer e d gone));
    }

    -- no pin is taken
    none_taken : (e : ℕ) (d : Dir) → HasGoneOn x hs e → pins_until d (generation_of e) (live_pins h) ≤ pins_until d (generation_of e) (live_pins h)
    none_taken e d gone = omega arith

    pub entry_looks : ShowsEntry g t word a b (set hs i (Looked word ∷ h))
    entry_looks = plain word (Looked word) refl refl refl refl refl none_taken (sees_shown x xs a b hs i h (Looked word) word k.record_shown at refl)

    pub entry_misses_pin : (d : Dir) (expected desired : ℕ) → ShowsEntry g t word a b (set hs i (PinMissed d expected desired word ∷ h))
    entry_misses_pin d expected desired = plain word (PinMissed d expected desired word) refl refl refl refl refl none_taken (sees_shown x xs a b hs i h (PinMissed d expected desired word) word k.record_shown at refl)

    pub entry_misses_change : (c : EntryChange) (expected desired : ℕ) → ShowsEntry g t word a b (set hs i (ChangeMissed c expected desired word ∷ h))
    entry_misses_change c expected desired = plain word (ChangeMissed c expected desired word) refl refl refl refl refl none_taken (sees_shown x xs a b hs i h (ChangeMissed c expected desired word) word k.record_shown at refl)

    pub entry_reads : (p : BodyWord) (v : ℕ) → ShowsEntry g t word a b (set hs i (ReadBody p v ∷ h))
    entry_reads p v = plain word (ReadBody p v) refl refl refl refl refl none_taken (sees_shown x xs a b hs i h (ReadBody p v) word k.record_shown at refl)

    pub entry_pins : (d : Dir) (expected : ℕ) (s : Seen) → IsSeenOf x xs s → s.word ≡ word → IsValid word → HasBody s → (d ≡ Write → is_read_only (record_seen s).entry ≡ false) → pins_in d word < MAX_PINS → ShowsEntry g t (word + unit_of d) a b (set hs i (Pinned d expected (record_seen s) ∷ h))
    entry_pins d expected s saw same some_kind body writable in_range =
        let z = seen_is_last x xs s word (total_pins Read hs) (total_pins Write hs) k.record_shown.lawful saw k.record_shown.in_range k.record_shown.spelled same some_kind body in
        let r : d ≡ Read → total_pins Read hs < MAX_PINS = λ q. let f = subst (λ (c : Dir). pins_in c word < MAX_PINS) q in_range in let u = z.2 in omega arith in
        let w : d ≡ Write → total_pins Write hs < MAX_PINS = λ q. let f = subst (λ (c : Dir). pins_in c word < MAX_PINS) q in_range in let u = z.3 in omega arith in
        plain (word + unit_of d) (Pinned d expected (record_seen s)) refl refl refl refl refl
        (λ e c gone. until_later c d (generation_of e) (record_seen s) (live_pins h) (let l = gone.earlier z.1 in let same_record = ap (λ (u : EntryRecord). u.generation) z.0 in omega arith))
        (subst (λ (y : EntryRecord). ShowsRecord x xs (word + unit_of d) a b (set hs i (Pinned d expected y ∷ h))) (sym z.0) (pins_shown x xs a b hs i h word expected d k.record_shown at z.1 (λ q. ap (λ (u : EntryRecord). is_read_only u.entry) (sym z.0) ∙ writable q) r w))

    -- a pin from the word that was seen is of the last record
    pub pins_last : (s : Seen) → IsSeenOf x xs s → s.word ≡ word → IsValid word → HasBody s → (record_seen s ≡ x) × ((record_seen s).entry ≢ Invalid)
    pins_last s saw same some_kind body =
        let z = seen_is_last x xs s word (total_pins Read hs) (total_pins Write hs) k.record_shown.lawful saw k.record_shown.in_range k.record_shown.spelled same some_kind body in
        (z.0, subst (λ (y : EntryRecord). y.entry ≢ Invalid) (sym z.0) z.1)

    pub entry_unpins : (d : Dir) (p : LivePin) → IsAmong p (live_pins h) → p.0 ≡ d → ShowsEntry g t (word - unit_of d) a b (set hs i (Unpinned d p.1.generation ∷ h))
    entry_unpins d p e q = plain (word - unit_of d) (Unpinned d p.1.generation) refl refl refl refl refl (λ u c gone. until_fewer c d (generation_of u) p.1.generation (live_pins h)) (unpins_shown x xs a b hs i h word d p k.record_shown at e q)

-- the owner's own steps

-- a word equal to the idle word of its record has no pins
pub idle_held : (x : EntryRecord) (xs : List EntryRecord) (word r w : ℕ) → IsLawful x xs → (r < 4096) × (w < 4096) → word ≡ word_of x.entry x.generation r w → word ≡ idle_word_of x.entry x.generation → (r ≡ 0) × (w ≡ 0)
idle_held x xs word r w l in_range is idle = let e : idle_word_of x.entry x.generation + 16 * r + 65536 * w ≡ idle_word_of x.entry x.generation = sym is ∙ idle in (omega arith, omega arith)

module _ (g t : ℕ) (hs : List (List EntryStep)) (h : List EntryStep) (at : get_elem? hs t ≡ some h) (word a b : ℕ) (k : ShowsEntry g t word a b hs) where
  pub owner : owner_steps t hs ≡ h
  owner = whose_at hs t h at

  pub mine : ShowsRecord (last_record g h) (earlier_records g h) word a b hs
  mine = subst (λ (z : List EntryStep). ShowsRecord (last_record g z) (earlier_records g z) word a b hs) owner k.record_shown

  gone : (e : ℕ) → IsAmong e (exchanged h) → HasGoneOn (last_record g h) hs e
  gone = subst (λ (z : List EntryStep). (e : ℕ) → IsAmong e (exchanged z) → HasGoneOn (last_record g z) hs e) owner k.gone_on

  pub entry_stores_first : (v : ℕ) → (last_record g h).entry ≡ Invalid → ShowsEntry g t word v b (set hs t (StoredBody First v ∷ h))
  entry_stores_first v n = let m : EntryStep = StoredBody First v in let here : (m ∷ h) ≡ owner_steps t (set hs t (m ∷ h)) = sym (whose_here hs t h (m ∷ h) at) in record {
    record_shown = subst (λ (z : List EntryStep). ShowsRecord (last_record g z) (earlier_records g z) word v b (set hs t (m ∷ h))) here (stores_shown (last_record g h) (earlier_records g h) a b hs t h word First v v b mine at n);
    first = ap (stored_body First) here;
    second = k.second ∙ (ap (stored_body Second) owner ∙ ap (stored_body Second) here);
    gone_on = subst (λ (z : List EntryStep). (e : ℕ) → IsAmong e (exchanged z) → HasGoneOn (last_record g z) (set hs t (m ∷ h)) e) here (λ e is. still_gone hs t h m at (last_record g h) e (gone e is) (λ d. omega arith));
  }

  pub entry_stores_second : (v : ℕ) → (last_record g h).entry ≡ Invalid → ShowsEntry g t word a v (set hs t (StoredBody Second v ∷ h))
  entry_stores_second v n = let m : EntryStep = StoredBody Second v in let here : (m ∷ h) ≡ owner_steps t (set hs t (m ∷ h)) = sym (whose_here hs t h (m ∷ h) at) in record {
    record_shown = subst (λ (z : List EntryStep). ShowsRecord (last_record g z) (earlier_records g z) word a v (set hs t (m ∷ h))) here (stores_shown (last_record g h) (earlier_records g h) a b hs t h word Second v a v mine at n);
    first = k.first ∙ (ap (stored_body First) owner ∙ ap (stored_body First) here);
    second = ap (stored_body Second) here;
    gone_on = subst (λ (z : List EntryStep). (e : ℕ) → IsAmong e (exchanged z) → HasGoneOn (last_record g z) (set hs t (m ∷ h)) e) here (λ e is. still_gone hs t h m at (last_record g h) e (gone e is) (λ d. omega arith));
  }

  pub entry_changes : (word' expected stored : ℕ) (c : EntryChange) (y : EntryRecord) → IsRecord y → MayFollow y (last_record g h) → IsSpelled y.entry a b → word' ≡ word_of y.entry y.generation (total_pins Read hs) (total_pins Write hs)
      → (is_read_only y.entry ≡ true → total_pins Write hs ≡ 0) → word ≡ expected → ShowsEntry g t word' a b (set hs t (Changed c expected stored y ∷ h))
  entry_changes word' expected stored c y ok may body is unwritten from = let m : EntryStep = Changed c expected stored y in let here : (m ∷ h) ≡ owner_steps t (set hs t (m ∷ h)) = sym (whose_here hs t h (m ∷ h) at) in record {
    record_shown = subst (λ (z : List EntryStep). ShowsRecord (last_record g z) (earlier_records g z) word' a b (set hs t (m ∷ h))) here (changes_shown (last_record g h) (earlier_records g h) a b hs t h word word' expected stored c y mine at ok may body is unwritten);
    first = k.first ∙ (ap (stored_body First) owner ∙ ap (stored_body First) here);
    second = k.second ∙ (ap (stored_body Second) owner ∙ ap (stored_body Second) here);
    gone_on = subst (λ (z : List EntryStep). (e : ℕ) → IsAmong e (exchanged z) → HasGoneOn (last_record g z) (set hs t (m ∷ h)) e) here (λ e is. still_gone hs t h m at y e (each e is) (λ d. omega arith));
  }
    where
      each : (e : ℕ) → (e ≡ expected) ⊎ IsAmong e (exchanged h) → HasGoneOn y hs e
      each e (inl same) = subst (HasGoneOn y hs) (from ∙ sym same) (goes_on_here (last_record g h) (earlier_records g h) y word a b hs may mine)
      each e (inr past) = goes_on (last_record g h) y hs e may (gone e past)

  -- the entry becomes invalid, where the word is its idle word
  pub entry_revokes : (expected stored : ℕ) → word ≡ expected → word ≡ idle_word_of (last_record g h).entry (last_record g h).generation
      → ShowsEntry g t (idle_word_of Invalid (last_record g h).generation) a b (set hs t (Changed changes.Revoke expected stored (record { generation = (last_record g h).generation; entry = Invalid }) ∷ h))
  entry_revokes expected stored from idle = let x : EntryRecord = last_record g h in let z = idle_held x (earlier_records g h) word (total_pins Read hs) (total_pins Write hs) mine.lawful mine.in_range mine.spelled idle in
      let z0 = z.0 in let z1 = z.1 in let rec = legal_record x (earlier_records g h) mine.lawful in
      entry_changes (idle_word_of Invalid x.generation) expected stored changes.Revoke (record { generation = x.generation; entry = Invalid }) (tt, rec.1) (inl (refl, refl)) tt (omega arith) (λ _. z1) from

  -- the entry becomes invalid, with its pins
  pub entry_withdraws : (word' expected stored : ℕ) → word ≡ expected → word' ≡ word_of Invalid (last_record g h).generation (total_pins Read hs) (total_pins Write hs)
      → ShowsEntry g t word' a b (set hs t (Changed changes.Withdraw expected stored (record { generation = (last_record g h).generation; entry = Invalid }) ∷ h))
  entry_withdraws word' expected stored from is = let x : EntryRecord = last_record g h in let rec = legal_record x (earlier_records g h) mine.lawful in
      entry_changes word' expected stored changes.Withdraw (record { generation = x.generation; entry = Invalid }) (tt, rec.1) (inl (refl, refl)) tt is (λ n. cc) from

  -- an entry is published, where the word is the invalid word with no pins
  pub entry_grants : (expected stored : ℕ) (e : Entry) → word ≡ expected → word ≡ idle_word_of Invalid (last_record g h).generation → (last_record g h).entry ≡ Invalid → IsEntry e → e ≢ Invalid → (last_record g h).generation < LAST_GENERATION → IsSpelled e (stored_body First h) (stored_body Second h)
      → ShowsEntry g t (idle_word_of e ((last_record g h).generation + 1)) a b (set hs t (Changed (changes.Publish e) expected stored (record { generation = (last_record g h).generation + 1; entry = e }) ∷ h))
  entry_grants expected stored e from idle none ok some_kind room body = let x : EntryRecord = last_record g h in
      let z = idle_held x (earlier_records g h) word (total_pins Read hs) (total_pins Write hs) mine.lawful mine.in_range mine.spelled (idle ∙ ap (λ (y : Entry). idle_word_of y x.generation) (sym none)) in let z0 = z.0 in let z1 = z.1 in
      entry_changes (idle_word_of e (x.generation + 1)) expected stored (changes.Publish e) (record { generation = x.generation + 1; entry = e }) (ok, omega arith) (inr (refl, some_kind, inl none))
      (subst (λ (u : ℕ × ℕ). IsSpelled e u.0 u.1) (λ j. (sym (k.first ∙ ap (stored_body First) owner) j, sym (k.second ∙ ap (stored_body Second) owner) j)) body) (omega arith) (λ _. z1) from

-- the low bits of an entry that is turned
pub turned_low : (o : Bool) (e : Entry) → e ≢ Invalid → is_read_only e ≡ not o → low_bits (with_ro o e) + flag (not o) ≡ low_bits e + flag o
turned_low o Invalid n h = absurd (n refl)
turned_low true (Page d true f) n h = cc
turned_low true (Page d false f) n h = refl
turned_low true (Sub d true f y k) n h = cc
turned_low true (Sub d false f y k) n h = refl
turned_low true (Via d true t r) n h = cc
turned_low true (Via d false t r) n h = refl
turned_low false (Page d true f) n h = refl
turned_low false (Page d false f) n h = cc
turned_low false (Sub d true f y k) n h = refl
turned_low false (Sub d false f y k) n h = cc
turned_low false (Via d true t r) n h = refl
turned_low false (Via d false t r) n h = cc

pub turned_domain : (o : Bool) (e : Entry) → named_domain (with_ro o e) ≡ named_domain e
turned_domain o Invalid = refl
turned_domain o (Page d p f) = refl
turned_domain o (Sub d p f y n) = refl
turned_domain o (Via d p t r) = refl

turned_spells : (o : Bool) (e : Entry) (a b : ℕ) → IsSpelled e a b → IsSpelled (with_ro o e) a b
turned_spells o Invalid a b s = s
turned_spells o (Page d p f) a b s = s
turned_spells o (Sub d p f y n) a b s = s
turned_spells o (Via d p t r) a b s = s

turned_entry : (o : Bool) (e : Entry) → IsEntry e → IsEntry (with_ro o e)
turned_entry o Invalid s = s
turned_entry o (Page d p f) s = s
turned_entry o (Sub d p f y n) s = s
turned_entry o (Via d p t r) s = s

turned_some : (o : Bool) (e : Entry) → e ≢ Invalid → with_ro o e ≢ Invalid
turned_some o Invalid n h = n h
turned_some o (Page d p f) n h = cc
turned_some o (Sub d p f y k) n h = cc
turned_some o (Via d p t r) n h = cc

turned_ro : (o : Bool) (e : Entry) → e ≢ Invalid → is_read_only (with_ro o e) ≡ o
turned_ro o Invalid n = absurd (n refl)
turned_ro o (Page d p f) n = refl
turned_ro o (Sub d p f y k) n = refl
turned_ro o (Via d p t r) n = refl

turned_other : (o b : Bool) → b ≡ not o → o ≡ not b
turned_other true b h = sym (ap not h)
turned_other false b h = sym (ap not h)

module _ (g t : ℕ) (hs : List (List EntryStep)) (h : List EntryStep) (at : get_elem? hs t ≡ some h) (word a b : ℕ) (k : ShowsEntry g t word a b hs) where
  -- the entry becomes read-only or writable, with its pins
  pub entry_turns : (o : Bool) (c : EntryChange) (word' expected stored : ℕ) → word ≡ expected → (last_record g h).entry ≢ Invalid → is_read_only (last_record g h).entry ≡ not o → (last_record g h).generation < LAST_GENERATION → (o ≡ true → total_pins Write hs ≡ 0)
      → word' ≡ word_of (with_ro o (last_record g h).entry) ((last_record g h).generation + 1) (total_pins Read hs) (total_pins Write hs)
      → ShowsEntry g t word' a b (set hs t (Changed c expected stored (record { generation = (last_record g h).generation + 1; entry = with_ro o (last_record g h).entry }) ∷ h))
  entry_turns o c word' expected stored from some_kind now room unwritten is = let x : EntryRecord = last_record g h in let m = mine g t hs h at word a b k in let rec = legal_record x (earlier_records g h) m.lawful in
      entry_changes g t hs h at word a b k word' expected stored c (record { generation = x.generation + 1; entry = with_ro o x.entry }) (turned_entry o x.entry rec.0, omega arith) (inr (refl, turned_some o x.entry some_kind, inr (ap (λ (u : Bool). with_ro u x.entry) (turned_other o (is_read_only x.entry) now))))
      (turned_spells o x.entry a b m.body) is (λ q. unwritten (sym (turned_ro o x.entry some_kind) ∙ q)) from
