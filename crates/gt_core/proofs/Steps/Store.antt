-- A store of a header, or of a body word of an invalid entry: what a core represents after it, what it depends on,
-- and how its call continues.
use Rattle.gt_core.proofs.Words.{◌≡◌, ◌%◌, ℕ, refl, Bool, true, List, ◌∷◌, Option, Some, None, cond, sym, ap, ◌∙◌}
use Rattle.gt_core.proofs.Words.{arith, subst, ◌==◌, DomId, Header, StoreHeader, Nothing, OpenCall, Item, Answer, State}
use Rattle.gt_core.proofs.Words.{state_of, changed_in, with_header, History, Setting, header_or, table_at}
use Rattle.gt_core.proofs.Words.{one_if_mapped, open_call, FitsTable, StateStands, DomainsStand, CallAgrees}
use Rattle.gt_core.proofs.Words.{GivenAgrees, GrantRef, BodyWord, StoreBody, Stored, with_slot, body_at, inl, inr, ◌≤◌}
use Rattle.gt_core.proofs.Words.{◌⊎◌, LAST_VERSION, MAX_TABLE_FRAMES, first_body, Entry, Invalid, Sub, last_first}
use Rattle.gt_core.proofs.Words.{action_at, after_store, phase_after, opens, Continuation, path, RestsOnGrant}
use Rattle.gt_core.proofs.Words.{RestsOnRequest, CallerKnowledge, begun, first, second_body, HasShown, Observation}
use Rattle.gt_core.proofs.Words.{Step, Phase, Ending, Last, Storing, StoringSecond, Walking, OpenRequest, Grant}
use Rattle.gt_core.proofs.Words.{SetVersion, SetupTable, known_at, StepsSoFar, PhaseStands, phase_refusal, entry_at}
use Rattle.gt_model.specs.declared.action.Action.TheVariants as actions
use Rattle.gt_model.specs.declared.change.BodyWord.TheVariants as body_words
use Rattle.gt_model.proofs.Observers.{unstored, KeepsKnown, kept-live, other-table, kept-table, stepped}
use Rattle.gt_core.proofs.{AgreementKept.SlotsAgree, AgreementKept.actor-agrees, AgreementKept.kept-stands}
use Rattle.gt_core.proofs.{AgreementKept.mappings-stay, AgreementKept.same-number, AgreementKept.Moves}
use Rattle.gt_core.proofs.{AgreementKept.slots-kept, AgreementKept.each-stays, AgreementKept.becomes-changed}
use Rattle.gt_core.proofs.{AgreementKept.own-changed, AgreementKept.slots-stand, Phases.none-of, Phases.makes-same}
use Rattle.gt_core.proofs.{Phases.by-leg, Phases.by-giving, Steps.Exchange.grant-invalid}

-- the item of a header that is stored
abbrev pub headed : DomId → ℕ → ℕ → Option Answer → Item
headed d version frames answer = stepped d (StoreHeader version frames) Nothing answer

headed-keeps : (d : DomId) (version frames : ℕ) (answer : Option Answer) → one_if_mapped answer ≡ 0 → KeepsKnown (headed d version frames answer)
headed-keeps d version frames answer m = record { changes = λ r. refl; pins = λ before ps. refl; unpins = λ pins. refl; maps = m }

headed-table : (s : Setting) (h : History) (d : DomId) (version frames : ℕ) (answer : Option Answer) (t : DomId) → (d.0 == t.0) ≡ true
    → table_at s (headed d version frames answer ∷ h) t ≡ record { version = version; frames = frames }
unfolding table_at
headed-table s h d version frames answer t own = ap (λ (b : Bool). header_or (cond b (Some (record { version = version; frames = frames })) None) (table_at s h t)) own

headed-fits : (s : Setting) (h : History) (d : DomId) (version frames : ℕ) (answer : Option Answer) (t : DomId) (b : Bool) → (d.0 == t.0) ≡ b → FitsTable (record { version = version; frames = frames })
    → FitsTable (table_at s h t) → FitsTable (table_at s (headed d version frames answer ∷ h) t)
headed-fits s h d version frames answer t b own new old = grind (arith, headed-table, other-table)

-- a header within the limits has room in its word
pub room-there : (version frames : ℕ) → FitsTable (record { version = version; frames = frames }) → ◌≡◌ {A = Header} (record { version = version % 4; frames = frames % 256 }) (record { version = version; frames = frames })
room-there version frames f = grind arith

-- after a store of a header within the limits the core represents the history with it
pub header-stands : (s : Setting) (h : History) (xs ys : List State) (x : State) (version frames : ℕ) (answer : Option Answer) (o : Option OpenCall) → DomainsStand s h xs → state_of xs x.id.0 ≡ Some x → StateStands s h x
    → ((q : ℕ) → state_of ys q ≡ cond (x.id.0 == q) (Some (record x { underway = o })) (state_of xs q)) → one_if_mapped answer ≡ 0 → FitsTable (record { version = version; frames = frames })
    → CallAgrees s (headed x.id version frames answer ∷ h) x.id o (open_call (headed x.id version frames answer ∷ h) x.id.0) → GivenAgrees (headed x.id version frames answer ∷ h) x.id.0 x.given
    → DomainsStand s (headed x.id version frames answer ∷ h) (changed_in x.id.0 (with_header version frames) ys)
header-stands s h xs ys x version frames answer o st here a becomes m fits call given = let i = headed x.id version frames answer in
    let k = headed-keeps x.id version frames answer m in
    let slots = λ (y : State) (b : SlotsAgree h y.id.0 y.slots). slots-kept i h y.id.0 y.slots (kept-live i h k) (λ r which. unstored i h y.id.0 r which refl) b in
    kept-stands s i h xs _ k st
    (each-stays s i h xs _ x (with_header version frames (record x { underway = o })) st here refl (own-changed xs ys x (record x { underway = o }) (with_header version frames) (λ y. refl) becomes) refl
    (actor-agrees s i h x (record { version = version % 4; frames = frames % 256 }) x.slots x.mappings o x.given k.changes a
    (room-there version frames fits ∙ sym (headed-table s h x.id version frames answer x.id (same-number x.id.0)))
    a.room (slots x a.slots) (mappings-stay i h x.id.0 x.mappings k a.mappings) call given) (λ y apart b. slots y b))
    (λ dom. headed-fits s h x.id version frames answer dom (x.id.0 == dom.0) refl fits (st.tables dom))

-- the item of a store
abbrev pub stores : DomId → GrantRef → BodyWord → ℕ → Item
stores d gref body_word word = stepped d (StoreBody gref body_word word) Nothing None

pub store-keeps : (d : DomId) (gref : GrantRef) (body_word : BodyWord) (word : ℕ) → KeepsKnown (stores d gref body_word word)
store-keeps d gref body_word word = record { changes = λ r. refl; pins = λ before ps. refl; unpins = λ pins. refl; maps = refl }

-- the body word that is stored is the word, and the first one stays if it is the second
pub body_word-stored : (d : DomId) (gref : GrantRef) (body_word : BodyWord) (word : ℕ) (h : History) → body_at (stores d gref body_word word ∷ h) d.0 gref.0 body_word ≡ word
unfolding body_at
body_word-stored d gref body_word word h = grind arith

pub first-stays : (d : DomId) (gref : GrantRef) (word r : ℕ) (h : History) → body_at (stores d gref body_words.Second word ∷ h) d.0 r body_words.First ≡ body_at h d.0 r body_words.First
unfolding body_at
first-stays d gref word r h = grind arith

-- each slot agrees, with the word stored
moves-stored : (d : DomId) (gref : GrantRef) (body_word : BodyWord) (word : ℕ) (h : History) → Moves h (stores d gref body_word word ∷ h) d.0 gref.0 (Stored body_word word)
unfolding body_at
moves-stored d gref body_word word h q r old a = grind (arith, kept-live, store-keeps)

-- after a store of a body word the core represents the history with it
pub store-stands : (s : Setting) (h : History) (xs ys : List State) (x : State) (gref : GrantRef) (body_word : BodyWord) (word : ℕ) (o : Option OpenCall) → DomainsStand s h xs
    → state_of xs x.id.0 ≡ Some x → StateStands s h x → ((q : ℕ) → state_of ys q ≡ cond (x.id.0 == q) (Some (record x { underway = o })) (state_of xs q))
    → CallAgrees s (stores x.id gref body_word word ∷ h) x.id o (open_call (stores x.id gref body_word word ∷ h) x.id.0) → GivenAgrees (stores x.id gref body_word word ∷ h) x.id.0 x.given
    → DomainsStand s (stores x.id gref body_word word ∷ h) (changed_in x.id.0 (with_slot gref.0 (Stored body_word word)) ys)
store-stands s h xs ys x gref body_word word o st here a becomes call given = let i = stores x.id gref body_word word in let k = store-keeps x.id gref body_word word in
    kept-stands s i h xs _ k st
    (slots-stand s i h xs _ x x.mappings o x.id.0 gref.0 (Stored body_word word) k.changes refl refl st here a (becomes-changed xs ys x (record x { underway = o }) x.id.0 (with_slot gref.0 (Stored body_word word)) (λ y. refl) becomes)
    (moves-stored x.id gref body_word word h) (mappings-stay i h x.id.0 x.mappings k a.mappings) call given)
    (λ dom. subst FitsTable (sym (kept-table s i h dom refl)) (st.tables dom))

-- what a store depends on

-- a body word is stored on an invalid entry
pub store-invalid : (s : Setting) (h : History) (d : DomId) (r : OpenRequest) (gref : GrantRef) (body_word : BodyWord) (word : ℕ) → begun (known_at s h d) d r ≡ None → RestsOnGrant r gref body_word word → entry_at h d.0 gref.0 ≡ Invalid
store-invalid s h d r gref body_words.First word none a = grant-invalid s h d gref a.0 (none-of (known_at s h d) d r (Grant gref a.0) a.1 none)
store-invalid s h d r gref body_words.Second word none a = grant-invalid s h d gref a.0 (none-of (known_at s h d) d r (Grant gref a.0) a.1 none)

-- a header that is stored is within the limits
pub header-fits : (s : Setting) (h : History) (xs : List State) (d : DomId) (r : OpenRequest) (version frames : ℕ) → DomainsStand s h xs → begun (known_at s h d) d r ≡ None → RestsOnRequest (known_at s h d) d r (StoreHeader version frames)
    → FitsTable (record { version = version; frames = frames })
header-fits s h xs d r version frames st none (inl a) =
    record { version = by (opens (known_at s h d) d (SetVersion version) (none-of (known_at s h d) d r (SetVersion version) a.0 none)).version_known; frames = subst (λ (n : ℕ). n ≤ MAX_TABLE_FRAMES) (sym a.1) (st.tables d).frames }
  where
    by : (version ≡ 1) ⊎ (version ≡ 2) → version ≤ LAST_VERSION
    by (inl e) = omega arith
    by (inr e) = omega arith
header-fits s h xs d r version frames st none (inr a) =
    record { version = rw a.1 (st.tables d).version; frames = (opens (known_at s h d) d (SetupTable frames) (none-of (known_at s h d) d r (SetupTable frames) a.0 none)).within }

-- what follows a store

-- a step that stores a body word
abbrev pub IsStore : Step → Type 0
IsStore (StoreBody gref body_word word) = Unit {0}
IsStore step = ⊥

pub stored-refusal : (k : CallerKnowledge) (gref : GrantRef) (entry : Entry) → None ≡ phase_refusal (after_store k gref entry)
stored-refusal k gref Invalid = refl
stored-refusal k gref entry = refl

-- what holds for each call that is about to store a body word
pub by-storing : (s : Setting) (h : History) (d : DomId) (r : OpenRequest) (way : Continuation) (shown : List Observation) (P : Phase → Step → Type 0) → ((g : GrantRef) (entry : Entry) → P (Storing g entry) (StoreBody g body_words.First (first_body entry)))
    → ((g : GrantRef) (entry : Entry) → P (StoringSecond g entry) (StoreBody g body_words.Second (second_body entry))) → (phase : Phase) (step : Step) → HasShown (known_at s h d) way d r shown phase → action_at d phase ≡ actions.Step step → IsStore step → P phase step
by-storing s h d r way shown P first second (Storing g entry) step a e n = subst (P (Storing g entry)) (makes-same _ _ e) (first g entry)
by-storing s h d r way shown P first second (StoringSecond g entry) step a e n = subst (P (StoringSecond g entry)) (makes-same _ _ e) (second g entry)
by-storing s h d r way shown P first second (Walking pin_purpose l at) step a e n = absurd (by-leg (λ (z : Step). IsStore z → ⊥) (λ dom n. n) (λ dom gref n. n) (λ dom gref body_word n. n) (λ p n. n) l at (subst IsStore (sym (makes-same _ _ e)) n))
by-storing s h d r way shown P first second (Last last verdict) step a e n =
    absurd (subst (λ (z : Step). IsStore z → RestsOnRequest (known_at s h d) d r z → ⊥) (sym (makes-same _ _ e)) (by step n) (subst IsStore (sym (makes-same _ _ e)) n) a.1)
  where
    by : (z : Step) → IsStore z → IsStore z → RestsOnRequest (known_at s h d) d r z → ⊥
    by (StoreBody gref body_word word) m k rests = rests
    by z m k rests = m
by-storing s h d r way shown P first second (Ending held verdict) step a e n = absurd (by-giving (λ (z : Step). IsStore z → ⊥) (λ p m f. f) (last_first held) verdict step e n)
by-storing s h d r way shown P first second phase step a e n = absurd (subst IsStore (sym (makes-same _ _ e)) n)

abbrev pub StoreLeads : Setting → History → DomId → OpenRequest → List Observation → StepsSoFar → StepsSoFar → Phase → Step → Type 0
StoreLeads s h d r shown so_far now phase step = HasShown (known_at s h d) (path (known_at s h d) d r) d r shown phase → PhaseStands s h d r so_far phase → PhaseStands s (stepped d step Nothing None ∷ h) d r now (phase_after (known_at s h d) d phase Nothing)

pub first-leads : (s : Setting) (h : History) (d : DomId) (r : OpenRequest) (shown : List Observation) (so_far now : StepsSoFar) (g : GrantRef) (entry : Entry) → StoreLeads s h d r shown so_far now (Storing g entry) (StoreBody g body_words.First (first_body entry))
first-leads s h d r shown so_far now g (Sub dom ro frame off len) a b = body_word-stored d g body_words.First (first_body (Sub dom ro frame off len)) h
first-leads s h d r shown so_far now g Invalid a b = tt
first-leads s h d r shown so_far now g y a b = body_word-stored d g body_words.First (first_body y) h

pub second-leads : (s : Setting) (h : History) (d : DomId) (r : OpenRequest) (shown : List Observation) (so_far now : StepsSoFar) (g : GrantRef) (entry : Entry) → StoreLeads s h d r shown so_far now (StoringSecond g entry) (StoreBody g body_words.Second (second_body entry))
second-leads s h d r shown so_far now g (Sub dom ro frame off len) a b = let w = second_body (Sub dom ro frame off len) in (first-stays d g w g.0 h ∙ b, body_word-stored d g body_words.Second w h)
second-leads s h d r shown so_far now g y a b = absurd a.3
