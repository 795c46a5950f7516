-- What the core's steps see is what the history left.
use Rattle.gt_core.proofs.Words.{◌≡◌, ◌<◌, ◌≤◌, ◌+◌, ◌%◌, ℕ, Bool, true, false, cond, List, ap, ◌∙◌, arith, ◌==◌}
use Rattle.gt_core.proofs.Words.{TABLE_ENTRIES, control_of, header_word, header_of, Header, State, History, Setting}
use Rattle.gt_core.proofs.Words.{word_at, control_at, DomainsStand, FitsTable, ◌*◌, ◌/◌, control-round}
use Rattle.gt_core.proofs.Words.{MAX_TABLE_FRAMES, ENTRIES_V1, ENTRIES_V2, ◌≢◌, zero, suc, refl, [], ◌∷◌, length}
use Rattle.gt_core.proofs.Words.{Option, Some, None, same_Some, slice_get, DomId, Entry, control_word, PinCounts}
use Rattle.gt_core.proofs.Words.{OwnerEntry, Step, LookHeader, LookControl, LookBody, Exchange, Word, control_with}
use Rattle.gt_core.proofs.Words.{own_generation, BodyWord, entry_at, generation_at, reads_at, body_at, table_at}
use Rattle.gt_core.proofs.Words.{seen_by, exchange_sees, StateStands, StateAgrees, control_seen, header_seen, body_seen}
use Rattle.gt_core.proofs.Words.{sees, reads_in, writes_in, body_in, slot_reads, slot_writes, slot_body, control_in}
use Rattle.gt_core.proofs.Words.{size_of, state_of}
use Rattle.gt_model.specs.declared.change.BodyWord.TheVariants as body_words
use Rattle.gt_model.specs.declared.action.Step.TheVariants as call_steps

pub word-shows : (s : Setting) (h : History) (xs : List State) (t r : ℕ) → DomainsStand s h xs → r < TABLE_ENTRIES → control_of (word_at s h t r) ≡ control_at s h t r
word-shows s h xs t r st within = control-round (control_at s h t r) (st.words t r within).in_range (st.words t r within).domain

-- a header within the limits has room in its word, and its table no more entries than there is room for
pub table-fits : (x : Header) → FitsTable x → (size_of x ≤ TABLE_ENTRIES) × (header_of (header_word x) ≡ x)
table-fits x f = let v = f.version in let few = f.frames in
    let version : (x.version + x.frames * 4) % 4 ≡ x.version = omega arith in let frames : (x.version + x.frames * 4) / 4 % 256 ≡ x.frames = omega arith in
    (by (x.version == 2) f.frames, ap (λ (n : ℕ). record { version = n; frames = (x.version + x.frames * 4) / 4 % 256 }) version ∙ ap (λ (n : ℕ). record { version = x.version; frames = n }) frames)
  where
    by : (b : Bool) → x.frames ≤ MAX_TABLE_FRAMES → x.frames * cond b ENTRIES_V2 ENTRIES_V1 ≤ TABLE_ENTRIES
    by true le = omega arith
    by false le = omega arith

-- what is seen in the states is of the first one with the number
pub seen-state : {A : Type 0} (seen : List State → A) (of : State → A) (d : ℕ) (x : State) → ((y : State) (ys : List State) → seen (y ∷ ys) ≡ cond (y.id.0 == d) (of y) (seen ys))
    → (xs : List State) → state_of xs d ≡ Some x → seen xs ≡ of x
seen-state seen of d x more [] e = cc
seen-state seen of d x more (y ∷ ys) e = more y ys ∙ by (y.id.0 == d) e (seen-state seen of d x more ys) where
  by : (b : Bool) → cond b (Some y) (state_of ys d) ≡ Some x → (state_of ys d ≡ Some x → seen ys ≡ of x) → cond b (of y) (seen ys) ≡ of x
  by true k r = ap of (same_Some y x k)
  by false k r = r k

pub some-at : {A : Type 0} (xs : List A) (r : ℕ) → r < length xs → (x : A) × (slice_get xs r ≡ Some x)
some-at [] r within = absurd (omega arith)
some-at (x ∷ xs) zero within = (x, refl)
some-at (x ∷ xs) (suc r) within = some-at xs r (omega arith)

-- if there is a row, its generation is the entry's
generation-there : (a b : ℕ) (own : List OwnerEntry) (r : ℕ) → r < length own → own_generation a own r ≡ own_generation b own r
generation-there a b [] r within = absurd (omega arith)
generation-there a b (x ∷ xs) zero within = refl
generation-there a b (x ∷ xs) (suc r) within = generation-there a b xs r (omega arith)

word-agrees : (s : Setting) (h : History) (x : State) (r : ℕ) → StateStands s h x → r < TABLE_ENTRIES → control_in x.own x.slots r ≡ word_at s h x.id.0 r
word-agrees s h x r a within = let here = some-at x.slots r (let room : length x.slots ≡ TABLE_ENTRIES = a.room in omega arith) in let b = a.slots r here.0 here.1 in
    ap (λ (e : Entry). control_word (control_with e (own_generation 0 x.own r) (reads_in x.slots r) (writes_in x.slots r))) (ap (λ (f : ℕ → Entry). f r) a.entries)
    ∙ ap (λ (g : ℕ). control_word (control_with (entry_at h x.id.0 r) g (reads_in x.slots r) (writes_in x.slots r)))
    (generation-there 0 s.first_generation x.own r (let rows : length x.own ≡ TABLE_ENTRIES = a.rows in omega arith) ∙ ap (λ (f : ℕ → ℕ). f r) a.generations)
    ∙ ap (λ (n : ℕ). control_word (control_with (entry_at h x.id.0 r) (generation_at s h x.id.0 r) n (writes_in x.slots r))) (ap slot_reads here.1 ∙ b.reads)
    ∙ ap (λ (n : ℕ). control_word (control_with (entry_at h x.id.0 r) (generation_at s h x.id.0 r) (reads_at h x.id.0 r) n)) (ap slot_writes here.1 ∙ b.writes)

body-agrees : (s : Setting) (h : History) (x : State) (r : ℕ) (which : BodyWord) → StateStands s h x → r < TABLE_ENTRIES → body_in x.slots r which ≡ body_at h x.id.0 r which
body-agrees s h x r body_words.Second a within = let here = some-at x.slots r (let room : length x.slots ≡ TABLE_ENTRIES = a.room in omega arith) in ap (λ (o : Option PinCounts). slot_body o body_words.Second) here.1 ∙ (a.slots r here.0 here.1).second
body-agrees s h x r body_words.First a within = let here = some-at x.slots r (let room : length x.slots ≡ TABLE_ENTRIES = a.room in omega arith) in ap (λ (o : Option PinCounts). slot_body o body_words.First) here.1 ∙ (a.slots r here.0 here.1).first

-- the step is on an entry that exists
abbrev pub IsWithin : List State → DomId → Step → Type 0
IsWithin xs d (LookHeader dom) = state_of xs dom.0 ≢ None
IsWithin xs d (LookControl dom gref) = (state_of xs dom.0 ≢ None) × (gref.0 < TABLE_ENTRIES)
IsWithin xs d (LookBody dom gref body_word) = (state_of xs dom.0 ≢ None) × (gref.0 < TABLE_ENTRIES)
IsWithin xs d (call_steps.Pin p) = (state_of xs p.dom.0 ≢ None) × (p.gref.0 < TABLE_ENTRIES)
IsWithin xs d (Exchange gref looked change) = (state_of xs d.0 ≢ None) × (gref.0 < TABLE_ENTRIES)
IsWithin xs d step = Unit {0}

pub state-there : (s : Setting) (h : History) (xs : List State) (dom : DomId) → DomainsStand s h xs → state_of xs dom.0 ≢ None → (x : State) × (state_of xs dom.0 ≡ Some x) × (x.id ≡ dom) × StateStands s h x
state-there s h xs dom st some = by (state_of xs dom.0) refl (st.each dom) where
  by : (o : Option State) → state_of xs dom.0 ≡ o → StateAgrees s h dom o → (x : State) × (state_of xs dom.0 ≡ Some x) × (x.id ≡ dom) × StateStands s h x
  by None e a = absurd (some e)
  by (Some x) e a = (x, e, a.1, a.2)

control-agrees : (s : Setting) (h : History) (xs : List State) (dom : DomId) (r : ℕ) → DomainsStand s h xs → state_of xs dom.0 ≢ None → r < TABLE_ENTRIES → control_seen xs dom.0 r ≡ word_at s h dom.0 r
control-agrees s h xs dom r st some within = let x = state-there s h xs dom st some in
    seen-state (λ l. control_seen l dom.0 r) (λ z. control_in z.own z.slots r) dom.0 x.0 (λ y ys. refl) xs x.1 ∙ word-agrees s h x.0 r x.3 within ∙ ap (λ (d : DomId). word_at s h d.0 r) x.2

-- what the core's step sees is what the history left
pub sees-agree : (s : Setting) (h : History) (xs : List State) (d : DomId) (step : Step) → DomainsStand s h xs → IsWithin xs d step → sees xs d step ≡ seen_by s h d step
sees-agree s h xs d (LookHeader dom) st w = let x = state-there s h xs dom st w in
    ap (λ (n : ℕ). Word n) (seen-state (λ l. header_seen l dom.0) (λ z. header_word z.header) dom.0 x.0 (λ y ys. refl) xs x.1 ∙ ap header_word (x.3.header) ∙ ap (λ (t : DomId). header_word (table_at s h t)) x.2)
sees-agree s h xs d (LookControl dom gref) st w = ap (λ (n : ℕ). Word n) (control-agrees s h xs dom gref.0 st w.0 w.1)
sees-agree s h xs d (LookBody dom gref body_word) st w = let x = state-there s h xs dom st w.0 in
    ap (λ (n : ℕ). Word n) (seen-state (λ l. body_seen l dom.0 gref.0 body_word) (λ z. body_in z.slots gref.0 body_word) dom.0 x.0 (λ y ys. refl) xs x.1 ∙ body-agrees s h x.0 gref.0 body_word x.3 w.1 ∙ ap (λ (t : DomId). body_at h t.0 gref.0 body_word) x.2)
sees-agree s h xs d (call_steps.Pin p) st w = ap (λ (n : ℕ). exchange_sees n p.word) (control-agrees s h xs p.dom p.gref.0 st w.0 w.1)
sees-agree s h xs d (Exchange gref looked change) st w = ap (λ (n : ℕ). exchange_sees n looked) (control-agrees s h xs d gref.0 st w.0 w.1)
sees-agree s h xs d step st w = refl
