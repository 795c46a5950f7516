-- An owner's exchange: what a core represents after it, what it depends on, which rule it meets, and how its call
-- continues.
use Rattle.gt_core.proofs.Words.{◌≡◌, ◌≢◌, ◌<◌, ◌≤◌, ◌+◌, ℕ, refl, Bool, true, List, ◌∷◌, length, Option, Some, None}
use Rattle.gt_core.proofs.Words.{cond, sym, ap, ◌∙◌, arith, subst, get_or, eqb-true, none-some, slice_get-get_or}
use Rattle.gt_core.proofs.Words.{option_map, ◌==◌, All, slice_get, fun_ext, DomId, GrantRef, TABLE_ENTRIES}
use Rattle.gt_core.proofs.Words.{LAST_GENERATION, Entry, Invalid, EntryChange, Publish, IsEntry, OwnerEntry, OpenCall}
use Rattle.gt_core.proofs.Words.{Item, Answer, entry_in, own_generation, row_entry, row_generation, changed_at, State}
use Rattle.gt_core.proofs.Words.{state_of, changed_in, with_own, own_after, History, Setting, Pin, live, entry_at}
use Rattle.gt_core.proofs.Words.{raises_at, raise_of, generation_at, open_call, change_of, changed_entry_of}
use Rattle.gt_core.proofs.Words.{raise_after, one_if_mapped, IsSafeChange, IsLawfulPin, FitsTable, StateStands}
use Rattle.gt_core.proofs.Words.{DomainsStand, CallAgrees, GivenAgrees, gather, mapping_named, first, false, inl, suc}
use Rattle.gt_core.proofs.Words.{zero, ◌-◌, cond_both, eq-eqb, false≢true, lt-leb, lt-ltb, ltb-false, ltb-true, nat_le}
use Rattle.gt_core.proofs.Words.{nat_lt, N18, N19, MAX_TRIES, is_invalid, control_of, control_word, last_first, no_pins}
use Rattle.gt_core.proofs.Words.{action_at, phase_after, refused_as, opens, Continuation, idle_word, path, RestsOnWord}
use Rattle.gt_core.proofs.Words.{CallerKnowledge, begun, control_with, size_of, stands, HasShown, IsQuiet, IsTurn}
use Rattle.gt_core.proofs.Words.{Observation, Missed, Taken, Step, Exchange, Granted, Phase, Changing, Ending}
use Rattle.gt_core.proofs.Words.{Exchanging, Last, Looking, Walking, MORE_TRIES, OpenRequest, Demote, Grant, Promote}
use Rattle.gt_core.proofs.Words.{Revoke, Withdraw, known_at, reads_at, seen_by, word_at, writes_at, IsSpelled}
use Rattle.gt_core.proofs.Words.{StepsSoFar, at_entry, first_at, FitsAsked, PhaseStands, phase_refusal, body_at}
use Rattle.gt_core.proofs.Words.{table_at, misses}
use Rattle.gt_model.specs.declared.action.Action.TheVariants as actions
use Rattle.gt_model.specs.declared.change.BodyWord.TheVariants as body_words
use Rattle.gt_model.specs.declared.change.EntryChange.TheVariants as changes
use Rattle.gt_model.proofs.Observers.{unstored, answered-stays, kept-table, exchanged, exchanged-entry}
use Rattle.gt_model.proofs.Observers.{exchanged-raises, exchanged-live}
use Rattle.gt_core.proofs.{AgreementKept.SlotsAgree, AgreementKept.same-number, AgreementKept.counts-fit}
use Rattle.gt_core.proofs.{Rows.get-changed, Rows.length-changed, Mappings.mappings-same, AgreementKept.slots-kept}
use Rattle.gt_core.proofs.{AgreementKept.Facts, AgreementKept.facts_at, AgreementKept.Fits, AgreementKept.facts-fit}
use Rattle.gt_core.proofs.{AgreementKept.each-stays, AgreementKept.all-stand, AgreementKept.own-changed}
use Rattle.gt_core.proofs.{Phases.none-of, Phases.IsHere, Phases.makes-same, Phases.by-leg, Phases.by-giving}
use Rattle.gt_core.proofs.{Phases.Judged, Phases.Leads, Legs.late-last, Legs.late-more, Legs.control-parts}
use Rattle.gt_core.proofs.{Steps.See.word-shows, Steps.See.table-fits, Steps.Look.writes-shown}

-- each number of the entry that is published fits its type
abbrev pub FitsChange : EntryChange → Type 0
FitsChange (Publish entry) = IsEntry entry
FitsChange change = Unit {0}

-- the owner's rows

row-changed : (b : Bool) (o : Option OwnerEntry) (change : EntryChange) (first raises : ℕ) → (b ≡ true → (o ≢ None) × (first + raises + raise_of change ≤ LAST_GENERATION)) → row_generation first o ≡ first + raises
    → (row_entry (cond b (option_map (own_after change) o) o) ≡ changed_entry_of (cond b (Some change) None) (row_entry o))
    × (row_generation first (cond b (option_map (own_after change) o) o) ≡ first + (raises + raise_after (cond b (Some change) None)))
row-changed b o change first raises room e = grind arith

row-some : (xs : List OwnerEntry) (r q : ℕ) (own : OwnerEntry) → r < length xs → (r == q) ≡ true → slice_get xs q ≢ None
row-some xs r q own within e none =
    none-some (get_or xs r own) (sym none ∙ ap (slice_get xs) (sym (eqb-true r q e)) ∙ slice_get-get_or xs r own within)

abbrev no_row : OwnerEntry
no_row = record { entry = Invalid; generation = 0 }

own-changed-at : (s : Setting) (h : History) (x : State) (gref : GrantRef) (looked : ℕ) (change : EntryChange) (answer : Option Answer) (r : ℕ) → gref.0 < TABLE_ENTRIES → generation_at s h x.id.0 gref.0 + raise_of change ≤ LAST_GENERATION → StateStands s h x
    → (entry_in (changed_at gref.0 (own_after change) x.own) r ≡ entry_at (exchanged x.id gref looked change answer ∷ h) x.id.0 r)
    × (own_generation s.first_generation (changed_at gref.0 (own_after change) x.own) r ≡ generation_at s (exchanged x.id gref looked change answer ∷ h) x.id.0 r)
own-changed-at s h x gref looked change answer r within room a = let rows = a.rows in let inside : gref.0 < length x.own = omega arith in
    let i = exchanged x.id gref looked change answer in let e = ap (λ (f : ℕ → Entry). f r) a.entries in let g = ap (λ (f : ℕ → ℕ). f r) a.generations in
    grind (arith, get-changed x.own gref.0 r (own_after change), row-some x.own gref.0 r no_row inside, eqb-true gref.0 r, exchanged-entry h i x.id.0 r, exchanged-raises h i x.id.0 r, same-number x.id.0, row-changed)

-- the entries: the one that the exchange changes, and the others

-- the facts of an entry after a change
abbrev facts_after : Setting → History → ℕ → ℕ → Option EntryChange → Facts
facts_after s h t r c = record (facts_at s h t r) { entry = changed_entry_of c (entry_at h t r); generation = s.first_generation + (raises_at h t r + raise_after c) }

exchanged-facts : (s : Setting) (h : History) (d : DomId) (gref : GrantRef) (looked : ℕ) (change : EntryChange) (answer : Option Answer) (t r : ℕ)
    → facts_at s (exchanged d gref looked change answer ∷ h) t r ≡ facts_after s h t r (change_of (exchanged d gref looked change answer) t r)
exchanged-facts s h d gref looked change answer t r = grind (arith, exchanged-entry, exchanged-raises, exchanged-live, unstored)

facts-fit-after : (s : Setting) (h : History) (xs : List State) (d t g r : ℕ) (change : EntryChange) → DomainsStand s h xs → g < TABLE_ENTRIES → IsSafeChange h d g change → FitsChange change → generation_at s h d g + raise_of change ≤ LAST_GENERATION
    → Fits r (facts_after s h t r (cond (d == t) (cond (g == r) (Some change) None) None))
facts-fit-after s h xs d t g r change st within safe fits room = grind (arith, facts-fit, eqb-true, counts-fit)

-- after an owner's change that is safe, and has room, the core represents the history with it
pub exchange-stands : (s : Setting) (h : History) (xs ys : List State) (x : State) (gref : GrantRef) (looked : ℕ) (change : EntryChange) (answer : Option Answer) (o : Option OpenCall) → DomainsStand s h xs
    → state_of xs x.id.0 ≡ Some x → StateStands s h x → ((q : ℕ) → state_of ys q ≡ cond (x.id.0 == q) (Some (record x { underway = o })) (state_of xs q))
    → gref.0 < TABLE_ENTRIES → IsSafeChange h x.id.0 gref.0 change → FitsChange change → generation_at s h x.id.0 gref.0 + raise_of change ≤ LAST_GENERATION → one_if_mapped answer ≡ 0
    → CallAgrees s (exchanged x.id gref looked change answer ∷ h) x.id o (open_call (exchanged x.id gref looked change answer ∷ h) x.id.0) → GivenAgrees (exchanged x.id gref looked change answer ∷ h) x.id.0 x.given
    → DomainsStand s (exchanged x.id gref looked change answer ∷ h) (changed_in x.id.0 (with_own gref.0 change) ys)
exchange-stands s h xs ys x gref looked change answer o st here a becomes within safe fits room m call given = all-stand s (i ∷ h) _
    (each-stays s i h xs _ x (with_own gref.0 change (record x { underway = o })) st here refl (own-changed xs ys x (record x { underway = o }) (with_own gref.0 change) (λ y. refl) becomes) refl mine (λ y apart b. slots y b))
    (λ dom. subst FitsTable (sym (kept-table s i h dom refl)) (st.tables dom)) (subst (All (IsLawfulPin s)) (sym same) st.lawful)
    (λ t r. subst (Fits r) (sym (exchanged-facts s h x.id gref looked change answer t r)) (facts-fit-after s h xs x.id.0 t gref.0 r change st within safe fits room))
  where
    i : Item
    i = exchanged x.id gref looked change answer

    same : live (i ∷ h) ≡ live h
    same = exchanged-live h x.id gref looked change answer

    slots : (y : State) → SlotsAgree h y.id.0 y.slots → SlotsAgree (i ∷ h) y.id.0 y.slots
    slots y b = slots-kept i h y.id.0 y.slots same (λ r which. unstored i h y.id.0 r which refl) b

    mine : StateStands s (i ∷ h) (with_own gref.0 change (record x { underway = o }))
    mine = record {
      header = a.header ∙ sym (kept-table s i h x.id refl);
      rows = length-changed x.own gref.0 (own_after change) ∙ a.rows;
      entries = fun_ext (λ r. (own-changed-at s h x gref looked change answer r within room a).0);
      generations = fun_ext (λ r. (own-changed-at s h x gref looked change answer r within room a).1);
      room = a.room;
      slots = slots x a.slots;
      mappings = mappings-same x.mappings _ _ _ _ (ap (λ (ps : List Pin). gather mapping_named x.id.0 ps) (sym same)) (sym (answered-stays h i x.id.0 m)) a.mappings;
      call = call;
      given = given;
    }

-- the owner's word without pins

-- a word without pins is the idle word, and no other word is
pub idle-pins : (e : Entry) (g r w : ℕ) → control_word (control_with e g r w) ≡ control_word (control_with e g 0 0) → r + w ≡ 0
idle-pins Invalid g r w e = omega arith
idle-pins z g r w e = omega arith

pub idle-here : (s : Setting) (h : History) (d : DomId) (gref : GrantRef) → reads_at h d.0 gref.0 + writes_at h d.0 gref.0 ≡ 0 → word_at s h d.0 gref.0 ≡ idle_word (known_at s h d) gref
idle-here s h d gref none = let r : reads_at h d.0 gref.0 ≡ 0 = omega arith in
    let w : writes_at h d.0 gref.0 ≡ 0 = omega arith in
    ap (λ (n : ℕ). control_word (control_with (entry_at h d.0 gref.0) (generation_at s h d.0 gref.0) n (writes_at h d.0 gref.0))) r
    ∙ ap (λ (n : ℕ). control_word (control_with (entry_at h d.0 gref.0) (generation_at s h d.0 gref.0) 0 n)) w

invalid-is : (e : Entry) → is_invalid e ≡ true → e ≡ Invalid
invalid-is Invalid e = refl
invalid-is z e = absurd (false≢true e)

pub grant-invalid : (s : Setting) (h : History) (d : DomId) (gref : GrantRef) (entry : Entry) → begun (known_at s h d) d (Grant gref entry) ≡ None → entry_at h d.0 gref.0 ≡ Invalid
grant-invalid s h d gref entry none = invalid-is (entry_at h d.0 gref.0) (opens (known_at s h d) d (Grant gref entry) none).free

-- an exchange is on an entry that exists

table-below : (s : Setting) (h : History) (xs : List State) (d : DomId) (gref : GrantRef) → DomainsStand s h xs → gref.0 < size_of (table_at s h d) → gref.0 < TABLE_ENTRIES
table-below s h xs d gref st lt = let le : size_of (table_at s h d) ≤ TABLE_ENTRIES = (table-fits _ (st.tables d)).0 in omega arith

pub word-below : (s : Setting) (h : History) (xs : List State) (d : DomId) (r : OpenRequest) (way : Continuation) (shown : List Observation) (gref : GrantRef) (word : ℕ) (change : EntryChange) → DomainsStand s h xs → begun (known_at s h d) d r ≡ None
    → RestsOnWord (known_at s h d) way d r shown gref word change → gref.0 < TABLE_ENTRIES
word-below s h xs d r way shown gref word (Publish entry) st none rests = table-below s h xs d gref st (opens (known_at s h d) d (Grant gref entry) (none-of (known_at s h d) d r (Grant gref entry) rests.0 none)).in_table
word-below s h xs d r way shown gref word changes.Revoke st none rests = table-below s h xs d gref st (opens (known_at s h d) d (Revoke gref) (subst (λ (z : OpenRequest). begun (known_at s h d) d z ≡ None) rests.0 none)).in_table
word-below s h xs d r way shown gref word changes.Withdraw st none rests = table-below s h xs d gref st (opens (known_at s h d) d (Withdraw gref) (subst (λ (z : OpenRequest). begun (known_at s h d) d z ≡ None) rests.0 none)).in_table
word-below s h xs d r way shown gref word changes.Demote st none rests = table-below s h xs d gref st (opens (known_at s h d) d (Demote gref) (subst (λ (z : OpenRequest). begun (known_at s h d) d z ≡ None) rests.0 none)).in_table
word-below s h xs d r way shown gref word changes.Promote st none rests = table-below s h xs d gref st (opens (known_at s h d) d (Promote gref) (subst (λ (z : OpenRequest). begun (known_at s h d) d z ≡ None) rests.0 none)).in_table

pub turn-below : (s : Setting) (h : History) (xs : List State) (d : DomId) (r : OpenRequest) (gref : GrantRef) (change : EntryChange) → DomainsStand s h xs → begun (known_at s h d) d r ≡ None
    → IsTurn r gref change → gref.0 < TABLE_ENTRIES
turn-below s h xs d r gref changes.Withdraw st none is = table-below s h xs d gref st (opens (known_at s h d) d (Withdraw gref) (subst (λ (z : OpenRequest). begun (known_at s h d) d z ≡ None) is none)).in_table
turn-below s h xs d r gref changes.Demote st none is = table-below s h xs d gref st (opens (known_at s h d) d (Demote gref) (subst (λ (z : OpenRequest). begun (known_at s h d) d z ≡ None) is none)).in_table
turn-below s h xs d r gref changes.Promote st none is = table-below s h xs d gref st (opens (known_at s h d) d (Promote gref) (subst (λ (z : OpenRequest). begun (known_at s h d) d z ≡ None) is none)).in_table
turn-below s h xs d r gref change st none is = absurd is

-- what an exchange that is taken depends on

-- the change is one that the entry allows and has room for
pub record CanChange (s : Setting) (h : History) (d : DomId) (gref : GrantRef) (change : EntryChange) : Type 0 where
  pub within : gref.0 < TABLE_ENTRIES
  pub safe : IsSafeChange h d.0 gref.0 change
  pub fits : FitsChange change
  pub room : generation_at s h d.0 gref.0 + raise_of change ≤ LAST_GENERATION

-- a publication follows the stores that encode its entry
publish-spelled : (s : Setting) (h : History) (d : DomId) (r : OpenRequest) (way : Continuation) (shown : List Observation) (so_far : StepsSoFar) (p : Phase) (gref : GrantRef) (looked : ℕ) (entry : Entry) → HasShown (known_at s h d) way d r shown p → PhaseStands s h d r so_far p
    → action_at d p ≡ actions.Step (Exchange gref looked (Publish entry)) → IsSpelled entry (body_at h d.0 gref.0 body_words.First) (body_at h d.0 gref.0 body_words.Second)
publish-spelled s h d r way shown so_far (Exchanging g w (Publish e)) gref looked entry a b acts = let same : e ≡ entry = cc in let at : g ≡ gref = cc in rw (← same, ← at) b
publish-spelled s h d r way shown so_far (Changing g (Publish e) more w) gref looked entry a b acts = absurd a.1
publish-spelled s h d r way shown so_far (Walking pin_purpose l at) gref looked entry a b acts =
    absurd (by-leg (λ (z : Step). z ≡ Exchange gref looked (Publish entry) → ⊥) (λ dom f. cc) (λ dom x f. cc) (λ dom x body_word f. cc) (λ p f. cc) l at (makes-same _ _ acts))
publish-spelled s h d r way shown so_far (Last last verdict) gref looked entry a b acts = absurd (subst IsQuiet (makes-same _ _ acts) a.0)
publish-spelled s h d r way shown so_far (Ending pins verdict) gref looked entry a b acts = absurd (by-giving (λ (z : Step). z ≡ Exchange gref looked (Publish entry) → ⊥) (λ p n f. cc) (last_first pins) verdict _ acts refl)
publish-spelled s h d r way shown so_far p gref looked entry a b acts = cc

-- a generation has room in its word
generation-fits : (s : Setting) (h : History) (xs : List State) (t r : ℕ) → DomainsStand s h xs → r < TABLE_ENTRIES → generation_at s h t r ≤ LAST_GENERATION
generation-fits s h xs t r st within = let f = (st.words t r within).in_range.generation in
    let e = (control-parts (entry_at h t r) (generation_at s h t r) (reads_at h t r) (writes_at h t r)).0 in
    (omega arith)

not-last : (g : ℕ) → g ≤ LAST_GENERATION → g ≢ LAST_GENERATION → g + 1 ≤ LAST_GENERATION
not-last g le apart = omega arith

pub can-change : (s : Setting) (h : History) (xs : List State) (d : DomId) (r : OpenRequest) (shown : List Observation) (so_far : StepsSoFar) (phase : Phase) (gref : GrantRef) (looked : ℕ) (change : EntryChange) → IsHere s h xs d r shown so_far phase (Exchange gref looked change)
    → word_at s h d.0 gref.0 ≡ looked → CanChange s h d gref change
can-change s h xs d r shown so_far phase gref looked change i same = by change i.rests.1 i.acts where
  k : CallerKnowledge
  k = known_at s h d

  below : gref.0 < TABLE_ENTRIES
  below = word-below s h xs d r (path k d r) shown gref looked change i.st i.rests.0 i.rests.1

  fits-now : generation_at s h d.0 gref.0 ≤ LAST_GENERATION
  fits-now = generation-fits s h xs d.0 gref.0 i.st below

  by : (z : EntryChange) → RestsOnWord k (path k d r) d r shown gref looked z → action_at d phase ≡ actions.Step (Exchange gref looked z) → CanChange s h d gref z
  by (Publish entry) rests acts = let none = none-of k d r (Grant gref entry) rests.0 i.rests.0 in
      let free : reads_at h d.0 gref.0 + writes_at h d.0 gref.0 ≡ 0 = idle-pins (entry_at h d.0 gref.0) (generation_at s h d.0 gref.0) (reads_at h d.0 gref.0) (writes_at h d.0 gref.0) (same ∙ rests.1) in record {
        within = below;
        safe = (grant-invalid s h d gref entry none, publish-spelled s h d r (path k d r) shown so_far phase gref looked entry i.at.has_shown i.place acts, omega arith, omega arith);
        fits = subst FitsAsked rests.0 i.fits;
        room = not-last (generation_at s h d.0 gref.0) fits-now (opens k d (Grant gref entry) none).not_worn;
      }
  by changes.Revoke rests acts = let free : reads_at h d.0 gref.0 + writes_at h d.0 gref.0 ≡ 0 = idle-pins (entry_at h d.0 gref.0) (generation_at s h d.0 gref.0) (reads_at h d.0 gref.0) (writes_at h d.0 gref.0) (same ∙ rests.1) in let room = fits-now in
      record { within = below; safe = (omega arith, omega arith); fits = tt; room = (omega arith) }
  by changes.Withdraw rests acts = let room = fits-now in record { within = below; safe = tt; fits = tt; room = (omega arith) }
  by changes.Demote rests acts = record {
    within = below;
    safe = sym (writes-shown s h d.0 gref.0 (word-shows s h xs d.0 gref.0 i.st below)) ∙ ap (λ (n : ℕ). (control_of n).writes) same ∙ (let le = ltb-false 0 (control_of looked).writes rests.2 in omega arith);
    fits = tt;
    room = not-last (generation_at s h d.0 gref.0) fits-now (opens k d (Demote gref) (none-of k d r (Demote gref) rests.0 i.rests.0)).not_worn;
  }
  by changes.Promote rests acts =
      record { within = below; safe = tt; fits = tt; room = not-last (generation_at s h d.0 gref.0) fits-now (opens k d (Promote gref) (none-of k d r (Promote gref) rests.0 i.rests.0)).not_worn }

-- the rule at an exchange, and how the call continues

busy-refusal : (k : CallerKnowledge) (d : DomId) (gref : GrantRef) (looked w : ℕ) (change : EntryChange) (pins : ℕ) (b : Bool) → (b ≡ true → pins ≡ 0) → (b ≡ false → pins ≡ 0 → ⊥)
    → at_entry d gref w (stands (nat_lt 0 pins) N19) ≡ phase_refusal (phase_after k d (Exchanging gref looked change) (cond b Taken (Missed w)))
busy-refusal k d gref looked w change pins true free held = ap (λ (n : ℕ). at_entry d gref w (stands (nat_lt 0 n) N19)) (free refl)
busy-refusal k d gref looked w change zero false free held = absurd (held refl refl)
busy-refusal k d gref looked w change (suc pins) false free held = ap (λ (b : Bool). at_entry d gref w (stands b N19)) (lt-ltb 0 (suc pins) (omega arith))

-- an exchange from the owner's word without pins is refused exactly if its entry has pins
idle-judged : (s : Setting) (h : History) (d : DomId) (gref : GrantRef) (looked : ℕ) (change : EntryChange) → looked ≡ idle_word (known_at s h d) gref → let w = word_at s h d.0 gref.0 in
    at_entry d gref w (stands (nat_lt 0 (reads_at h d.0 gref.0 + writes_at h d.0 gref.0)) N19) ≡ phase_refusal (phase_after (known_at s h d) d (Exchanging gref looked change) (cond (w == looked) Taken (Missed w)))
idle-judged s h d gref looked change is = let w = word_at s h d.0 gref.0 in
    busy-refusal (known_at s h d) d gref looked w change (reads_at h d.0 gref.0 + writes_at h d.0 gref.0) (w == looked)
    (λ b. idle-pins (entry_at h d.0 gref.0) (generation_at s h d.0 gref.0) (reads_at h d.0 gref.0) (writes_at h d.0 gref.0) (eqb-true w looked b ∙ is))
    (λ b none. false≢true (sym b ∙ eq-eqb w looked (idle-here s h d gref none ∙ sym is)))

pub once-judged : (s : Setting) (h : History) (d : DomId) (r : OpenRequest) (way : Continuation) (shown : List Observation) (so_far : StepsSoFar) (gref : GrantRef) (looked : ℕ) (change : EntryChange)
    → RestsOnWord (known_at s h d) way d r shown gref looked change → PhaseStands s h d r so_far (Exchanging gref looked change) → Judged s h d r so_far (Exchanging gref looked change) (Exchange gref looked change)
once-judged s h d r way shown so_far gref looked (Publish entry) rests place = idle-judged s h d gref looked (Publish entry) rests.1
once-judged s h d r way shown so_far gref looked changes.Revoke rests place = idle-judged s h d gref looked changes.Revoke rests.1
once-judged s h d r way shown so_far gref looked change rests place = absurd place

change-leads : (s : Setting) (h : History) (d : DomId) (r : OpenRequest) (gref : GrantRef) (change : EntryChange) (more looked w : ℕ) (so_far : StepsSoFar) (b : Bool) → misses so_far + more ≡ MORE_TRIES
    → Leads s h d r ((Exchange gref looked change, cond b Taken (Missed w)) ∷ so_far) (at_entry d gref w (stands (nat_le MAX_TRIES (misses ((Exchange gref looked change, cond b Taken (Missed w)) ∷ so_far))) N18))
    (phase_after (known_at s h d) d (Changing gref change more looked) (cond b Taken (Missed w)))
unfolding misses
change-leads s h d r gref change more looked w so_far true turn = (ap (λ (x : Bool). at_entry d gref w (stands x N18)) (lt-leb MAX_TRIES (0 + misses so_far) (omega arith)), inl refl)
change-leads s h d r gref change more looked w so_far false turn = let now : StepsSoFar = (Exchange gref looked change, Missed w) ∷ so_far in let m : misses now ≡ 1 + misses so_far = refl in
    cond_both (nat_lt 0 more) (Looking gref change (more - 1)) (refused_as d gref N18 w) (Leads s h d r now (at_entry d gref w (stands (nat_le MAX_TRIES (1 + misses so_far)) N18)))
    (λ t. let some : 0 < more = ltb-true 0 more t in (ap (λ (x : Bool). at_entry d gref w (stands x N18)) (late-more (misses so_far) more turn some), (omega arith, refl)))
    (λ f. (ap (λ (x : Bool). at_entry d gref w (stands x N18)) (late-last (misses so_far) more turn (ltb-false 0 more f)), inl refl))

-- an exchange that ends a turn
pub turn-leads : (s : Setting) (h : History) (d : DomId) (r : OpenRequest) (so_far : StepsSoFar) (gref : GrantRef) (change : EntryChange) (more looked : ℕ) → IsTurn r gref change → misses so_far + more ≡ MORE_TRIES → let v = seen_by s h d (Exchange gref looked change) in
    Leads s h d r ((Exchange gref looked change, v) ∷ so_far) (first_at s h d r so_far (Exchange gref looked change)) (phase_after (known_at s h d) d (Changing gref change more looked) v)
turn-leads s h d r so_far gref (Publish entry) more looked is turn = absurd is
turn-leads s h d r so_far gref changes.Revoke more looked is turn = absurd is
turn-leads s h d r so_far gref change more looked is turn = change-leads s h d r gref change more looked (word_at s h d.0 gref.0) so_far (word_at s h d.0 gref.0 == looked) turn

-- it ends its call
pub taken-ends : (k : CallerKnowledge) (way : Continuation) (d : DomId) (r : OpenRequest) (shown : List Observation) (phase : Phase) (gref : GrantRef) (looked : ℕ) (change : EntryChange) → HasShown k way d r shown phase → action_at d phase ≡ actions.Step (Exchange gref looked change)
    → phase_after k d phase Taken ≡ Ending no_pins Granted
taken-ends k way d r shown (Exchanging g w c) gref looked change a e = refl
taken-ends k way d r shown (Changing g c more w) gref looked change a e = refl
taken-ends k way d r shown (Walking pin_purpose l at) gref looked change a e = absurd (by-leg (λ (z : Step). z ≡ Exchange gref looked change → ⊥) (λ dom f. cc) (λ dom x f. cc) (λ dom x body_word f. cc) (λ p f. cc) l at (makes-same _ _ e))
taken-ends k way d r shown (Last last verdict) gref looked change a e = absurd (subst IsQuiet (makes-same _ _ e) a.0)
taken-ends k way d r shown (Ending pins verdict) gref looked change a e = absurd (by-giving (λ (z : Step). z ≡ Exchange gref looked change → ⊥) (λ p n f. cc) (last_first pins) verdict _ e refl)
taken-ends k way d r shown phase gref looked change a e = cc
