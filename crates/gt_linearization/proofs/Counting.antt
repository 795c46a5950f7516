-- Pins, unpins and owners' exchanges keep items and history in agreement.
use Rattle.std.proofs.Common.{inl, inr, ◌≡◌, ℕ, ◌+◌, ◌-◌, ◌*◌, ◌%◌, ◌^◌, ◌<◌, Bool, true, false, cond, ◌==◌, ◌&&◌}
use Rattle.std.proofs.Common.{◌∷◌, Option, Some, None, sym, refl, ap, ◌∙◌, subst, arith, eq-eqb, ne_eqb}
use Rattle.std.proofs.lemmas.Bool.{cases_eq}
use Rattle.gt_types.specs.Config.{IsWithinLimits}
use Rattle.gt_types.specs.declared.Dir.{Dir}
use Rattle.gt_types.specs.declared.Dir.TheVariants.{Read, Write}
use Rattle.gt_types.specs.declared.DomId.{DomId}
use Rattle.gt_types.specs.declared.GrantRef.{GrantRef}
use Rattle.gt_types.specs.declared.config.Config.{Config}
use Rattle.gt_types.specs.declared.limits.TheConstants.{TABLE_ENTRIES}
use Rattle.gt_model.specs.Entries.{changed_entry, raise_of, is_invalid, is_read_only}
use Rattle.gt_entry.specs.Laws.{control-round}
use Rattle.gt_model.specs.Spelling.{control_with, idle_word_of}
use Rattle.gt_model.specs.Words.{control_of, control_word, header_word, unit_of}
use Rattle.gt_model.specs.declared.change.EntryChange.{EntryChange}
use Rattle.gt_model.specs.declared.change.EntryChange.TheVariants.{Publish, Revoke, Withdraw, Demote, Promote}
use Rattle.gt_model.specs.declared.control.Control.{Control}
use Rattle.gt_model.specs.declared.control.EntryKind.{EntryKind}
use Rattle.gt_model.specs.declared.control.EntryKind.TheVariants as kinds
use Rattle.gt_model.specs.declared.entry.Entry.{Entry}
use Rattle.gt_model.specs.declared.entry.Entry.TheVariants.{Invalid, Page, Sub, Via}
use Rattle.gt_words.specs.Conditions.{HasDomain}
use Rattle.gt_word_history.specs.Controls.{generation_of, pins_in}
use Rattle.gt_word_history.specs.History.{StepHistory, Layout, body_word_index, word_after}
use Rattle.gt_word_history.specs.Rule.{header_place, layout_of, place, position_in}
use Rattle.gt_word_history.specs.Steps.{changed, changed_word}
use Rattle.gt_word_history.specs.declared.view.EntryRecord.{EntryRecord}
use Rattle.gt_word_history.specs.declared.view.EntryStep.TheVariants.{Pinned, Unpinned, Changed}
use Rattle.gt_word_history.specs.declared.view.SeatStep.{SeatStep}
use Rattle.gt_word_history.specs.declared.view.SeatStep.TheVariants as seat_steps
use Rattle.gt_model.specs.declared.held.HeldPin.{HeldPin}
use Rattle.gt_model.specs.declared.request.PinHolder.{PinHolder}
use Rattle.gt_model.specs.declared.action.Observation.{Observation}
use Rattle.gt_model.proofs.Observers.{exchanged, exchanged-live, grown-count, kept-entry, kept-raises, kept-table}
use Rattle.gt_model.proofs.Observers.{new_pin, other-entry, other-raises, pinned-live, pins, pins_at, unpinned-live}
use Rattle.gt_model.proofs.Observers.{unpins, unstored}
use Rattle.gt_core.proofs.Steps.Unpin.{Loses}
use Rattle.gt_core.proofs.Words.{count_by, is_pin_on, without}
use Rattle.gt_model.specs.History.{History, Setting, control_at, changed_entry_of, entry_at, generation_at, live}
use Rattle.gt_model.specs.History.{raise_after, raises_at, reads_at, same_dir, word_at, writes_at}
use Rattle.gt_core.specs.Standing.{FitsWord}
use Rattle.gt_model.specs.declared.trace.Answer.{Answer}
use Rattle.gt_model.specs.declared.trace.Item.{Item}
use Rattle.gt_linearization.proofs.AgreementKept.{body_word-few, body_word-some, word-same}
use Rattle.gt_linearization.proofs.Places.{dom-there, header-apart, places-apart, record-else, record-here, record-kept}
use Rattle.gt_linearization.proofs.Places.{test-apart, word-else, word-here}
use Rattle.gt_linearization.specs.Agreeing.{Agree, dom_at, last_at}

-- counts in a word

counted : (e : Entry) (g r w a b : ℕ) → control_word (control_with e g (r + a) (w + b)) ≡ control_word (control_with e g r w) + (16 * a + 65536 * b)
counted Invalid g r w a b = omega arith
counted (Page dom ro frame) g r w a b = omega arith
counted (Sub dom ro frame off len) g r w a b = omega arith
counted (Via dom ro dom2 gref) g r w a b = omega arith

-- one of a kind, where the test holds
one : (dir : Dir) (b : Bool) → 16 * cond (b && same_dir dir Read) 1 0 + 65536 * cond (b && same_dir dir Write) 1 0 ≡ cond b (unit_of dir) 0
one Read true = refl
one Read false = refl
one Write true = refl
one Write false = refl

-- the word fits 64 bits
low-few : (k : EntryKind) (ro : Bool) (rest : ℕ) → control_word (record { kind = k; ro = ro; reads = 0; writes = 0; dom = record { 0 = 0 }; generation = 0 }) < 16
low-few kinds.Invalid true rest = omega arith
low-few kinds.Invalid false rest = omega arith
low-few kinds.Page true rest = omega arith
low-few kinds.Page false rest = omega arith
low-few kinds.Sub true rest = omega arith
low-few kinds.Sub false rest = omega arith
low-few kinds.Via true rest = omega arith
low-few kinds.Via false rest = omega arith

word-fits : (c : Control) → FitsWord c → control_word c < 2 ^ 64
word-fits c f = let low = low-few c.kind c.ro 0 in let a = f.in_range.reads in let b = f.in_range.writes in let g = f.in_range.generation in let d = f.domain in omega arith

taken-away : (n w u : ℕ) → n < 2 ^ 64 → n ≡ w + u → (n + (2 ^ 64 - u)) % 2 ^ 64 ≡ w
taken-away n w u a e = omega arith

-- an owner's change

parts-of : (e : Entry) (g r w : ℕ) → ((control_with e g r w).generation ≡ g) × ((control_with e g r w).reads ≡ r) × ((control_with e g r w).writes ≡ w)
parts-of Invalid g r w = (refl, refl, refl)
parts-of (Page dom ro frame) g r w = (refl, refl, refl)
parts-of (Sub dom ro frame off len) g r w = (refl, refl, refl)
parts-of (Via dom ro dom2 gref) g r w = (refl, refl, refl)

idle-word : (e : Entry) (g : ℕ) → control_word (control_with e g 0 0) ≡ idle_word_of e g
idle-word Invalid g = omega arith
idle-word (Page dom ro frame) g = omega arith
idle-word (Sub dom ro frame off len) g = omega arith
idle-word (Via dom ro dom2 gref) g = omega arith

read-back : (e : Entry) (g r w : ℕ) → FitsWord (control_with e g r w)
    → (generation_of (control_word (control_with e g r w)) ≡ g) × (pins_in Read (control_word (control_with e g r w)) ≡ r) × (pins_in Write (control_word (control_with e g r w)) ≡ w)
read-back e g r w f = let c = control_with e g r w in let p = parts-of e g r w in
    let same : control_of (control_word c) ≡ c = control-round c f.in_range f.domain in
    (ap (λ (z : Control). z.generation) same ∙ p.0, ap (λ (z : Control). z.reads) same ∙ p.1, ap (λ (z : Control). z.writes) same ∙ p.2)

-- it is one that this change turns
abbrev pub IsTurned : EntryChange → Entry → Type 0
IsTurned Demote e = (is_read_only e ≡ false) × (is_invalid e ≡ false)
IsTurned Promote e = (is_read_only e ≡ true) × (is_invalid e ≡ false)
IsTurned change e = Unit {0}

-- at a publication and a revocation no pin is live
abbrev pub IsIdleFor : EntryChange → ℕ → ℕ → Type 0
IsIdleFor (Publish e) r w = (r ≡ 0) × (w ≡ 0)
IsIdleFor Revoke r w = (r ≡ 0) × (w ≡ 0)
IsIdleFor change r w = Unit {0}

demoted : (e : Entry) (g r w : ℕ) → is_read_only e ≡ false → is_invalid e ≡ false → control_word (control_with (changed_entry Demote e) (g + 1) r w) ≡ control_word (control_with e g r w) + 17592186044420
demoted Invalid g r w a b = absurd (cc)
demoted (Page dom true frame) g r w a b = absurd (cc)
demoted (Page dom false frame) g r w a b = omega arith
demoted (Sub dom true frame off len) g r w a b = absurd (cc)
demoted (Sub dom false frame off len) g r w a b = omega arith
demoted (Via dom true dom2 gref) g r w a b = absurd (cc)
demoted (Via dom false dom2 gref) g r w a b = omega arith

promoted : (e : Entry) (g r w : ℕ) → is_read_only e ≡ true → is_invalid e ≡ false → control_word (control_with (changed_entry Promote e) (g + 1) r w) ≡ control_word (control_with e g r w) + 17592186044412
promoted Invalid g r w a b = absurd (cc)
promoted (Page dom false frame) g r w a b = absurd (cc)
promoted (Page dom true frame) g r w a b = omega arith
promoted (Sub dom false frame off len) g r w a b = absurd (cc)
promoted (Sub dom true frame off len) g r w a b = omega arith
promoted (Via dom false dom2 gref) g r w a b = absurd (cc)
promoted (Via dom true dom2 gref) g r w a b = omega arith

change-word : (change : EntryChange) (e : Entry) (g r w : ℕ) → FitsWord (control_with e g r w) → IsTurned change e → IsIdleFor change r w
    → control_word (control_with (changed_entry change e) (g + raise_of change) r w) ≡ changed_word change (record { generation = g; entry = e }) (control_word (control_with e g r w))
change-word (Publish new) e g r w f t i = (λ j. control_word (control_with new (g + 1) (i.0 j) (i.1 j))) ∙ idle-word new (g + 1)
change-word Revoke e g r w f t i = let b = read-back e g r w f in let z : generation_of (control_word (control_with e g r w)) ≡ g = b.0 in
    (λ j. control_word (control_with Invalid (g + 0) (i.0 j) (i.1 j))) ∙ (let n : 17592186044416 * (g + 0) ≡ 17592186044416 * g = omega arith in
    (let m : control_word (control_with Invalid (g + 0) 0 0) ≡ 17592186044416 * (g + 0) = omega arith in m) ∙ (n ∙ ap (λ (q : ℕ). 17592186044416 * q) (sym z)))
change-word Withdraw e g r w f t i = let b = read-back e g r w f in
    (let m : control_word (control_with Invalid (g + 0) r w) ≡ 17592186044416 * g + 16 * r + 65536 * w = omega arith in m)
    ∙ (λ j. 17592186044416 * sym b.0 j + 16 * sym b.1 j + 65536 * sym b.2 j)
change-word Demote e g r w f t i = demoted e g r w t.0 t.1
change-word Promote e g r w f t i = promoted e g r w t.0 t.1

module _ (c : Config) (s : Setting) (k : Layout) (g : History) (h : StepHistory) (i : ℕ) (is : k ≡ layout_of c) (limits : IsWithinLimits c) (agree : Agree s k g h) (inside : i < k.domains) where
  abbrev d : DomId
  d = dom_at k i

  -- the parts of an item that takes a pin or gives one back

  abbrev counts-new : History → ℕ → ℕ → ℕ → ℕ → Type 0
  counts-new new t r a b = (reads_at new t r ≡ a) × (writes_at new t r ≡ b)

  word-of : (new : History) (t r : ℕ) → entry_at new t r ≡ entry_at g t r → raises_at new t r ≡ raises_at g t r
      → word_at s new t r ≡ control_word (control_with (entry_at g t r) (generation_at s g t r) (reads_at new t r) (writes_at new t r))
  word-of new t r e n = λ j. control_word (control_with (e j) (s.first_generation + n j) (reads_at new t r) (writes_at new t r))

  -- a pin is taken
  pinned-word : (p : HeldPin) (answer : Option Answer) (t r : ℕ) (b : Bool) → ((p.dom.0 == t) && (p.gref.0 == r)) ≡ b → word_at s (pins d p answer ∷ g) t r ≡ word_at s g t r + cond b (unit_of p.dir) 0
  pinned-word p answer t r b e =
      let item = pins d p answer in let new = new_pin g d p answer in
      let reads : reads_at (item ∷ g) t r ≡ reads_at g t r + cond (b && same_dir p.dir Read) 1 0 = grown-count g item new t r Read (pinned-live g d p answer) ∙ ap (λ (z : Bool). reads_at g t r + cond (z && same_dir p.dir Read) 1 0) e in
      let writes : writes_at (item ∷ g) t r ≡ writes_at g t r + cond (b && same_dir p.dir Write) 1 0 = grown-count g item new t r Write (pinned-live g d p answer) ∙ ap (λ (z : Bool). writes_at g t r + cond (z && same_dir p.dir Write) 1 0) e in
      word-of (item ∷ g) t r (kept-entry item g t r (λ z. refl)) (kept-raises item g t r (λ z. refl))
      ∙ ((λ j. control_word (control_with (entry_at g t r) (generation_at s g t r) (reads j) (writes j)))
      ∙ (counted (entry_at g t r) (generation_at s g t r) (reads_at g t r) (writes_at g t r) (cond (b && same_dir p.dir Read) 1 0) (cond (b && same_dir p.dir Write) 1 0)
      ∙ ap (λ (z : ℕ). word_at s g t r + z) (one p.dir b)))

  -- a pin is given back
  unpinned-word : (p : HeldPin) (holder : PinHolder) (seen : Observation) (answer : Option Answer) (t r : ℕ) (b : Bool) → ((p.dom.0 == t) && (p.gref.0 == r)) ≡ b → Loses p (live g) (without d.0 holder (live g))
      → word_at s g t r ≡ word_at s (unpins d p holder seen answer ∷ g) t r + cond b (unit_of p.dir) 0
  unpinned-word p holder seen answer t r b e loses =
      let item = unpins d p holder seen answer in let now = unpinned-live g d p holder seen answer in
      let count : (q : Dir) → pins_at g t r q ≡ pins_at (item ∷ g) t r q + cond (b && same_dir p.dir q) 1 0 =
      λ q. loses t r q ∙ (λ j. cond (e j && same_dir p.dir q) 1 0 + count_by (is_pin_on t r q) (sym now j)) ∙ (let z : cond (b && same_dir p.dir q) 1 0 + pins_at (item ∷ g) t r q ≡ pins_at (item ∷ g) t r q + cond (b && same_dir p.dir q) 1 0 = omega arith in z) in
      (λ j. control_word (control_with (entry_at g t r) (generation_at s g t r) (count Read j) (count Write j)))
      ∙ (counted (entry_at g t r) (generation_at s g t r) (reads_at (item ∷ g) t r) (writes_at (item ∷ g) t r) (cond (b && same_dir p.dir Read) 1 0) (cond (b && same_dir p.dir Write) 1 0)
      ∙ (λ j. sym (word-of (item ∷ g) t r (kept-entry item g t r (λ z. refl)) (kept-raises item g t r (λ z. refl))) j + one p.dir b j))

  -- the entry of a pin is this one, or not
  on-it : (p : HeldPin) (u : ℕ) → HasDomain k p.dom → u ≡ position_in k.ids p.dom → ((p.dom.0 == (dom_at k u).0) && (p.gref.0 == p.gref.0)) ≡ true
  on-it p u has at = let e = dom-there c k p.dom u is has at in λ j. eq-eqb p.dom.0 (dom_at k u).0 (ap (λ (z : DomId). z.0) (sym e.0)) j && eq-eqb p.gref.0 p.gref.0 refl j

  off-it : (p : HeldPin) (u t r : ℕ) → HasDomain k p.dom → u ≡ position_in k.ids p.dom → t < k.domains → (u ≡ t → p.gref.0 ≡ r → ⊥) → ((p.dom.0 == (dom_at k t).0) && (p.gref.0 == r)) ≡ false
  off-it p u t r has at l apart = let e = dom-there c k p.dom u is has at in
      elim (cases_eq u t) [
        | inl f ↦ let ne = apart f in (λ j. (p.dom.0 == (dom_at k t).0) && ne_eqb p.gref.0 r ne j) ∙ off (p.dom.0 == (dom_at k t).0)
        | inr f ↦ λ j. (ap (λ (z : DomId). z.0 == (dom_at k t).0) (sym e.0) ∙ test-apart c k u t is limits e.1 l f) j && (p.gref.0 == r)
      ]
    where
      off : (b : Bool) → (b && false) ≡ false
      off true = refl
      off false = refl

  pub takes-pin : (p : HeldPin) (answer : Option Answer) (u : ℕ) (y : EntryRecord) → HasDomain k p.dom → u ≡ position_in k.ids p.dom → p.gref.0 < TABLE_ENTRIES
      → Agree s k (pins d p answer ∷ g) ((i, seat_steps.Entry u p.gref.0 (Pinned p.dir p.word y)) ∷ h)
  takes-pin p answer u y has at lt = record {
    words = λ t r l m. elim (cases_eq (place u p.gref.0 0) (place t r 0)) [
      | inl e ↦ let q = places-apart u p.gref.0 0 t r 0 lt m (omega arith) (omega arith) e in
          subst (λ (z : ℕ × ℕ). word_at s (item ∷ g) (dom_at k z.0).0 z.1 ≡ word_after k ((i, x) ∷ h) (place z.0 z.1 0)) (λ j. (q.0 j, q.1 j))
          (pinned-word p answer (dom_at k u).0 p.gref.0 true (on-it p u has at) ∙ (ap (λ (z : ℕ). z + unit_of p.dir) (agree.words u p.gref.0 (dom-there c k p.dom u is has at).1 lt) ∙ sym (word-here k i x h (place u p.gref.0 0) refl)))
      | inr n ↦ pinned-word p answer (dom_at k t).0 r false (off-it p u t r has at l (λ e f. n (λ j. place (e j) (f j) 0)))
          ∙ ((let z : word_at s g (dom_at k t).0 r + 0 ≡ word_at s g (dom_at k t).0 r = omega arith in z) ∙ (agree.words t r l m ∙ sym (word-else k i x h (place t r 0) n)))
    ];
    bodies = λ t r body_word l m. unstored item g (dom_at k t).0 r body_word refl ∙ (agree.bodies t r body_word l m ∙ sym (word-else k i x h (place t r (body_word_index body_word)) (λ e. body_word-some body_word (places-apart u p.gref.0 0 t r (body_word_index body_word) lt m (omega arith) (body_word-few body_word) e).2)));
    headers = λ t l. ap header_word (kept-table s item g (dom_at k t) refl) ∙ (agree.headers t l ∙ sym (word-else k i x h (header_place t) (λ e. header-apart u p.gref.0 0 t lt (omega arith) e)));
    entries = λ t r l m. kept-entry item g (dom_at k t).0 r (λ z. refl) ∙ (agree.entries t r l m ∙ ap (λ (z : EntryRecord). z.entry) (sym (record-kept k i x h t r tt)));
    generations = λ t r l m. ap (λ (n : ℕ). s.first_generation + n) (kept-raises item g (dom_at k t).0 r (λ z. refl)) ∙ (agree.generations t r l m ∙ ap (λ (z : EntryRecord). z.generation) (sym (record-kept k i x h t r tt)));
  }
    where
      item : Item
      item = pins d p answer

      x : SeatStep
      x = seat_steps.Entry u p.gref.0 (Pinned p.dir p.word y)

  pub gives-back : (p : HeldPin) (holder : PinHolder) (seen : Observation) (answer : Option Answer) (u gen : ℕ) → HasDomain k p.dom → u ≡ position_in k.ids p.dom → p.gref.0 < TABLE_ENTRIES
      → Loses p (live g) (without d.0 holder (live g)) → FitsWord (control_at s g (dom_at k u).0 p.gref.0)
      → Agree s k (unpins d p holder seen answer ∷ g) ((i, seat_steps.Entry u p.gref.0 (Unpinned p.dir gen)) ∷ h)
  gives-back p holder seen answer u gen has at lt loses fits = record {
    words = λ t r l m. elim (cases_eq (place u p.gref.0 0) (place t r 0)) [
      | inl e ↦ let q = places-apart u p.gref.0 0 t r 0 lt m (omega arith) (omega arith) e in
          subst (λ (z : ℕ × ℕ). word_at s (item ∷ g) (dom_at k z.0).0 z.1 ≡ word_after k ((i, x) ∷ h) (place z.0 z.1 0)) (λ j. (q.0 j, q.1 j))
          (sym (taken-away (word_at s g (dom_at k u).0 p.gref.0) (word_at s (item ∷ g) (dom_at k u).0 p.gref.0) (unit_of p.dir) (word-fits _ fits) (unpinned-word p holder seen answer (dom_at k u).0 p.gref.0 true (on-it p u has at) loses))
          ∙ (ap (λ (z : ℕ). (z + (2 ^ 64 - unit_of p.dir)) % 2 ^ 64) (agree.words u p.gref.0 (dom-there c k p.dom u is has at).1 lt) ∙ sym (word-here k i x h (place u p.gref.0 0) refl)))
      | inr n ↦ (let z = unpinned-word p holder seen answer (dom_at k t).0 r false (off-it p u t r has at l (λ e f. n (λ j. place (e j) (f j) 0))) loses in let w : word_at s (item ∷ g) (dom_at k t).0 r ≡ word_at s g (dom_at k t).0 r = omega arith in w)
          ∙ (agree.words t r l m ∙ sym (word-else k i x h (place t r 0) n))
    ];
    bodies = λ t r body_word l m. unstored item g (dom_at k t).0 r body_word refl ∙ (agree.bodies t r body_word l m ∙ sym (word-else k i x h (place t r (body_word_index body_word)) (λ e. body_word-some body_word (places-apart u p.gref.0 0 t r (body_word_index body_word) lt m (omega arith) (body_word-few body_word) e).2)));
    headers = λ t l. ap header_word (kept-table s item g (dom_at k t) refl) ∙ (agree.headers t l ∙ sym (word-else k i x h (header_place t) (λ e. header-apart u p.gref.0 0 t lt (omega arith) e)));
    entries = λ t r l m. kept-entry item g (dom_at k t).0 r (λ z. refl) ∙ (agree.entries t r l m ∙ ap (λ (z : EntryRecord). z.entry) (sym (record-kept k i x h t r tt)));
    generations = λ t r l m. ap (λ (n : ℕ). s.first_generation + n) (kept-raises item g (dom_at k t).0 r (λ z. refl)) ∙ (agree.generations t r l m ∙ ap (λ (z : EntryRecord). z.generation) (sym (record-kept k i x h t r tt)));
  }
    where
      item : Item
      item = unpins d p holder seen answer

      x : SeatStep
      x = seat_steps.Entry u p.gref.0 (Unpinned p.dir gen)

  -- an owner's exchange is taken

  changes-here : (q : GrantRef) (looked : ℕ) (change : EntryChange) (answer : Option Answer)
      → (entry_at (exchanged d q looked change answer ∷ g) d.0 q.0 ≡ changed_entry change (entry_at g d.0 q.0)) × (raises_at (exchanged d q looked change answer ∷ g) d.0 q.0 ≡ raises_at g d.0 q.0 + raise_of change)
  unfolding entry_at raises_at
  changes-here q looked change answer =
      let e : cond (d.0 == d.0) (cond (q.0 == q.0) (Some change) None) None ≡ Some change = ap (λ (b : Bool). cond b (cond (q.0 == q.0) (Some change) None) None) (eq-eqb d.0 d.0 refl) ∙ ap (λ (b : Bool). cond b (Some change) None) (eq-eqb q.0 q.0 refl) in
      (ap (λ (o : Option EntryChange). changed_entry_of o (entry_at g d.0 q.0)) e, ap (λ (o : Option EntryChange). raises_at g d.0 q.0 + raise_after o) e)

  changes-else : (q : GrantRef) (looked : ℕ) (change : EntryChange) (answer : Option Answer) (t r : ℕ) → t < k.domains → (i ≡ t → q.0 ≡ r → ⊥)
      → (entry_at (exchanged d q looked change answer ∷ g) (dom_at k t).0 r ≡ entry_at g (dom_at k t).0 r) × (raises_at (exchanged d q looked change answer ∷ g) (dom_at k t).0 r ≡ raises_at g (dom_at k t).0 r)
  unfolding entry_at raises_at
  changes-else q looked change answer t r l apart =
      elim (cases_eq i t) [
        | inl e ↦ let f : (q.0 == r) ≡ false = ne_eqb q.0 r (apart e) in
            let z : cond (d.0 == (dom_at k t).0) (cond (q.0 == r) (Some change) None) None ≡ None = ap (λ (b : Bool). cond (d.0 == (dom_at k t).0) (cond b (Some change) None) None) f ∙ none (d.0 == (dom_at k t).0) in
            (ap (λ (o : Option EntryChange). changed_entry_of o (entry_at g (dom_at k t).0 r)) z, ap (λ (o : Option EntryChange). raises_at g (dom_at k t).0 r + raise_after o) z ∙ (let y : raises_at g (dom_at k t).0 r + 0 ≡ raises_at g (dom_at k t).0 r = omega arith in y))
        | inr e ↦ (other-entry item g (dom_at k t).0 r (test-apart c k i t is limits inside l e), other-raises item g (dom_at k t).0 r (test-apart c k i t is limits inside l e))
      ]
    where
      item : Item
      item = exchanged d q looked change answer

      none : (b : Bool) → ◌≡◌ {A = Option EntryChange} (cond b None None) None
      none true = refl
      none false = refl

  changed-word : (q : GrantRef) (looked : ℕ) (change : EntryChange) (answer : Option Answer) → FitsWord (control_at s g d.0 q.0) → IsTurned change (entry_at g d.0 q.0) → IsIdleFor change (reads_at g d.0 q.0) (writes_at g d.0 q.0)
      → word_at s (exchanged d q looked change answer ∷ g) d.0 q.0 ≡ changed_word change (record { generation = generation_at s g d.0 q.0; entry = entry_at g d.0 q.0 }) (word_at s g d.0 q.0)
  changed-word q looked change answer fits turned idle =
      let z = changes-here q looked change answer in let live = exchanged-live g d q looked change answer in
      let gen : s.first_generation + (raises_at g d.0 q.0 + raise_of change) ≡ generation_at s g d.0 q.0 + raise_of change = omega arith in
      (λ j. control_word (control_with (z.0 j) (s.first_generation + z.1 j) (count_by (is_pin_on d.0 q.0 Read) (live j)) (count_by (is_pin_on d.0 q.0 Write) (live j))))
      ∙ (ap (λ (n : ℕ). control_word (control_with (changed_entry change (entry_at g d.0 q.0)) n (reads_at g d.0 q.0) (writes_at g d.0 q.0))) gen
      ∙ change-word change (entry_at g d.0 q.0) (generation_at s g d.0 q.0) (reads_at g d.0 q.0) (writes_at g d.0 q.0) fits turned idle)

  pub changes-entry : (q : GrantRef) (looked : ℕ) (change : EntryChange) (answer : Option Answer) → q.0 < TABLE_ENTRIES → FitsWord (control_at s g d.0 q.0) → IsTurned change (entry_at g d.0 q.0) → IsIdleFor change (reads_at g d.0 q.0) (writes_at g d.0 q.0)
      → word_after k h (place i q.0 0) ≡ looked
      → Agree s k (exchanged d q looked change answer ∷ g) ((i, seat_steps.Entry i q.0 (Changed change looked (changed_word change (last_at k i q.0 h) looked) (changed change (last_at k i q.0 h)))) ∷ h)
  changes-entry q looked change answer lt fits turned idle found = record {
    words = λ t r l m. elim (cases_eq (place i q.0 0) (place t r 0)) [
      | inl e ↦ let p = places-apart i q.0 0 t r 0 lt m (omega arith) (omega arith) e in
          subst (λ (z : ℕ × ℕ). word_at s (item ∷ g) (dom_at k z.0).0 z.1 ≡ word_after k ((i, x) ∷ h) (place z.0 z.1 0)) (λ j. (p.0 j, p.1 j))
          (changed-word q looked change answer fits turned idle
          ∙ ((λ j. changed_word change (record { generation = agree.generations i q.0 inside lt j; entry = agree.entries i q.0 inside lt j }) ((agree.words i q.0 inside lt ∙ found) j)) ∙ sym (word-here k i x h (place i q.0 0) refl)))
      | inr n ↦ let z = changes-else q looked change answer t r l (λ e f. n (λ j. place (e j) (f j) 0)) in
          word-same s g (item ∷ g) (dom_at k t).0 r z.0 z.1 (exchanged-live g d q looked change answer) ∙ (agree.words t r l m ∙ sym (word-else k i x h (place t r 0) n))
    ];
    bodies = λ t r body_word l m. unstored item g (dom_at k t).0 r body_word refl ∙ (agree.bodies t r body_word l m ∙ sym (word-else k i x h (place t r (body_word_index body_word)) (λ e. body_word-some body_word (places-apart i q.0 0 t r (body_word_index body_word) lt m (omega arith) (body_word-few body_word) e).2)));
    headers = λ t l. ap header_word (kept-table s item g (dom_at k t) refl) ∙ (agree.headers t l ∙ sym (word-else k i x h (header_place t) (λ e. header-apart i q.0 0 t lt (omega arith) e)));
    entries = λ t r l m. (records t r l m).0;
    generations = λ t r l m. (records t r l m).1;
  }
    where
      item : Item
      item = exchanged d q looked change answer

      x : SeatStep
      x = seat_steps.Entry i q.0 (Changed change looked (changed_word change (last_at k i q.0 h) looked) (changed change (last_at k i q.0 h)))

      records : (t r : ℕ) → t < k.domains → r < TABLE_ENTRIES → (entry_at (item ∷ g) (dom_at k t).0 r ≡ (last_at k t r ((i, x) ∷ h)).entry) × (generation_at s (item ∷ g) (dom_at k t).0 r ≡ (last_at k t r ((i, x) ∷ h)).generation)
      records t r l m = elim (cases_eq (place i q.0 0) (place t r 0)) [
        | inl e ↦ let p = places-apart i q.0 0 t r 0 lt m (omega arith) (omega arith) e in
            subst (λ (z : ℕ × ℕ). (entry_at (item ∷ g) (dom_at k z.0).0 z.1 ≡ (last_at k z.0 z.1 ((i, x) ∷ h)).entry) × (generation_at s (item ∷ g) (dom_at k z.0).0 z.1 ≡ (last_at k z.0 z.1 ((i, x) ∷ h)).generation)) (λ j. (p.0 j, p.1 j))
            (let z = changes-here q looked change answer in let y = sym (record-here k i q.0 change looked (changed_word change (last_at k i q.0 h) looked) (changed change (last_at k i q.0 h)) h) in (
              z.0 ∙ (ap (changed_entry change) (agree.entries i q.0 inside lt) ∙ ap (λ (w : EntryRecord). w.entry) y),
              ap (λ (n : ℕ). s.first_generation + n) z.1 ∙ ((let f : s.first_generation + (raises_at g d.0 q.0 + raise_of change) ≡ generation_at s g d.0 q.0 + raise_of change = omega arith in f)
                  ∙ (ap (λ (n : ℕ). n + raise_of change) (agree.generations i q.0 inside lt) ∙ ap (λ (w : EntryRecord). w.generation) y)),
            ))
        | inr n ↦ let z = changes-else q looked change answer t r l (λ e f. n (λ j. place (e j) (f j) 0)) in
            let y = sym (record-else k i q.0 (Changed change looked (changed_word change (last_at k i q.0 h) looked) (changed change (last_at k i q.0 h))) h t r (λ e f. n (λ j. place (e j) (f j) 0))) in
            (z.0 ∙ (agree.entries t r l m ∙ ap (λ (w : EntryRecord). w.entry) y), ap (λ (n : ℕ). s.first_generation + n) z.1 ∙ (agree.generations t r l m ∙ ap (λ (w : EntryRecord). w.generation) y))
      ]
