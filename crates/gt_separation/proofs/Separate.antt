-- The part of a run that low domains make is a run, if no low domain shares with a high one or looks at its tables.
use Rattle.gt_core.proofs.Words.{◌≡◌, ◌+◌, ◌<◌, ℕ, refl, Bool, true, false, List, [], ◌∷◌, ◌++◌}
use Rattle.gt_core.proofs.Words.{Option, Some, None, cond, ap, sym, ◌∙◌, subst, ◌==◌, ◌&&◌, length, count_by, gather}
use Rattle.gt_core.proofs.Words.{by_leg, take, drop, mapping_named, true≢false, not, All, Any}
use Rattle.gt_core.proofs.Words.{All-head, All-tail, All-nil, append-nil, eqb-true}
use Rattle.gt_core.proofs.Words.{DomId, Dir, Entry, Header, BodyWord, Denial, asked, begun_of}
use Rattle.gt_core.proofs.Words.{CallerKnowledge, OpenRequest, Map, Load, Peek, Copy, SetupTable}
use Rattle.gt_core.proofs.Words.{QuerySize, GetVersion, Taken, Step, LookHeader}
use Rattle.gt_core.proofs.Words.{StoreHeader}
use Rattle.gt_core.proofs.Words.{Unpin, Read, Write, HeldPin, Observation, path}
use Rattle.gt_core.proofs.Words.{History, Setting, Underway, Pin, entry_at, changed_entry_of, change_of, raises_at}
use Rattle.gt_core.proofs.Words.{raise_after, body_at, or_else, stored_at, table_at, header_or, header_stored}
use Rattle.gt_core.proofs.Words.{open_call, underway_after, maps_answered_at, one_if_mapped, live, without}
use Rattle.gt_core.proofs.Words.{is_holder, holder_after, is_pin_on, pinned_by, unpinned_by, known_at}
use Rattle.gt_core.proofs.Words.{legs_at}
use Rattle.gt_core.proofs.Words.{given_in, values, stood, stood_with, first_in_call, first_of_item}
use Rattle.gt_core.proofs.Words.{contents_at, patches_at, patches_by, written_by, written}
use Rattle.gt_core.proofs.Words.{Patch, IsRight, StepsRightIn, AnsweredBy, GivesValue}
use Rattle.gt_core.proofs.Words.{Justified, CopyIsJustified}
use Rattle.gt_core.proofs.Words.{gives_back, verdict_in}
use Rattle.gt_core.proofs.Words.{CallResult, MayDo, LegalAfter, grown, history_after, SpellsItsEntry, MAX_TABLE_FRAMES}
use Rattle.gt_core.proofs.Words.{PinHolder, arith, suc, zero}
use Rattle.gt_core.proofs.AgreementKept.{open_call-other, stood-other}
use Rattle.gt_core.specs.Prelude.{resolved, is_source_granted}
use Rattle.gt_model.proofs.Observers.{all-without, known-as, other-body, other-entry, other-maps}
use Rattle.gt_model.proofs.Observers.{other-raises, other-table}
use Rattle.gt_model.specs.Legal.{Legal, actor_of}
use Rattle.gt_model.specs.declared.action.Step.TheVariants as call_steps
use Rattle.gt_model.specs.declared.trace.Answer.{Answer}
use Rattle.gt_model.specs.declared.trace.Answer.TheVariants as answers
use Rattle.gt_model.specs.declared.trace.Element.{Element}
use Rattle.gt_model.specs.declared.trace.Element.TheVariants.{Busy, Idle, NoDomain}
use Rattle.gt_model.specs.declared.trace.Element.TheVariants as elements
use Rattle.gt_model.specs.declared.trace.Event.{Event}
use Rattle.gt_model.specs.declared.trace.Event.TheVariants.{Begin, Tick}
use Rattle.gt_model.specs.declared.trace.Item.{Item}
use Rattle.gt_model.specs.declared.trace.ItemEvent.{ItemEvent}
use Rattle.gt_model.specs.declared.trace.ItemEvent.TheVariants.{Began, Stepped}
use Rattle.std.specs.Prelude.{filter}
use Rattle.std.proofs.Common.{slice_index_or}
use Rattle.std.proofs.lemmas.List.Elements.{All-append, All-cons, filter-append}
use Rattle.gt_separation.specs.Apart.{CopiesApart, LowDomainsKeep, SharesNothing, StaysApart}
use Rattle.gt_separation.specs.Separate.{HappensAtLow, IsAtLow, LooksApart, low_elements, low_events}
use Rattle.gt_separation.proofs.Apart.{IsAmong, IsApart, access-of, count-one, end-of, frame-kept, now-apart, other-number}
use Rattle.gt_separation.proofs.Apart.{pinned-apart, same-domain, skipped}
use Rattle.gt_flow.proofs.Purged.{and-true}
use Rattle.gt_flow.proofs.Agreeing.{Agree, first-in, justified-same, safe-same, sees-same, sound-same, word-same}

-- an element that passes a test is among those that do
any-passing : {X : Type 0} (P : X → Type 0) (test : X → Bool) (xs : List X) → ((x : X) → P x → test x ≡ true) → Any P xs
    → Any P (filter test xs)
any-passing P test [] passes any = let lt = any.2 in absurd (omega arith)
any-passing {X} P test (x ∷ xs) passes any = by any.0 any.1 any.2 any.3 any.4 (any-passing P test xs passes)
  where
    here : P x → Any P (filter test (x ∷ xs))
    here p = subst (λ (b : Bool). Any P (cond b (x ∷ filter test xs) (filter test xs))) (sym (passes x p))
        (0, x, omega arith, refl, p)

    later : (b : Bool) → Any P (filter test xs) → Any P (cond b (x ∷ filter test xs) (filter test xs))
    later true more = let lt = more.2 in (suc more.0, more.1, omega arith, more.3, more.4)
    later false more = more

    by : (k : ℕ) (y : X) → k < length (x ∷ xs) → slice_index_or (x ∷ xs) k y ≡ y → P y
        → (Any P xs → Any P (filter test xs)) → Any P (filter test (x ∷ xs))
    by zero y lt e p rest = here (subst P (sym e) p)
    by (suc k) y lt e p rest = later (test x) (rest (k, y, omega arith, e, p))

module _ (s : Setting) (high : DomId → Bool) where
  abbrev IsLow : DomId → Type 0
  IsLow d = high d ≡ false

  abbrev IsHigh : DomId → Type 0
  IsHigh d = high d ≡ true

  same-number : (d : DomId) (n : ℕ) → n ≡ d.0 → IsHigh d → high (record { 0 = n }) ≡ true
  same-number d n same up = same-domain s high IsHigh d (record { 0 = n }) (sym same) up

  -- ---- pins of low domains

  -- the pin is one of a low domain
  abbrev pub is_low_pin : Pin → Bool
  is_low_pin p = not (high (record { 0 = p.actor }))

  abbrev pub low_pins : List Pin → List Pin
  low_pins ps = filter is_low_pin ps

  kept-pin : (p : Pin) (ps : List Pin) → high (record { 0 = p.actor }) ≡ false → low_pins (p ∷ ps) ≡ p ∷ low_pins ps
  kept-pin p ps low = ap (λ (b : Bool). cond (not b) (p ∷ low_pins ps) (low_pins ps)) low

  left-pin : (p : Pin) (ps : List Pin) → high (record { 0 = p.actor }) ≡ true → low_pins (p ∷ ps) ≡ low_pins ps
  left-pin p ps up = ap (λ (b : Bool). cond (not b) (p ∷ low_pins ps) (low_pins ps)) up

  gather-low : {A : Type 0} (give : PinHolder → HeldPin → List A) (d : DomId) (ps : List Pin) → IsLow d
      → gather give d.0 (low_pins ps) ≡ gather give d.0 ps
  unfolding gather
  gather-low give d [] low = refl
  gather-low {A} give d (p ∷ ps) low = by (high (record { 0 = p.actor })) refl (gather-low give d ps low)
    where
      by : (b : Bool) → high (record { 0 = p.actor }) ≡ b → gather give d.0 (low_pins ps) ≡ gather give d.0 ps
          → gather give d.0 (cond (not b) (p ∷ low_pins ps) (low_pins ps)) ≡ gather give d.0 (p ∷ ps)
      by false is rest = ap (λ (l : List A). cond (p.actor == d.0) (give p.holder p.held) [] ++ l) rest
      by true is rest = rest
          ∙ sym (ap (λ (b : Bool). cond b (give p.holder p.held) [] ++ gather give d.0 ps)
          (other-number s high (record { 0 = p.actor }) d is low))

  counts-low : (t : DomId) (low : IsLow t) (r : ℕ) (dir : Dir) (ps : List Pin) → All (IsApart s high) ps
      → count_by (is_pin_on t.0 r dir) (low_pins ps) ≡ count_by (is_pin_on t.0 r dir) ps
  counts-low t low r dir [] all = refl
  counts-low t low r dir (p ∷ ps) all =
      by (high (record { 0 = p.actor })) refl (counts-low t low r dir ps (All-tail (IsApart s high) p ps all))
    where
      by : (b : Bool) → high (record { 0 = p.actor }) ≡ b
          → count_by (is_pin_on t.0 r dir) (low_pins ps) ≡ count_by (is_pin_on t.0 r dir) ps
          → count_by (is_pin_on t.0 r dir) (cond (not b) (p ∷ low_pins ps) (low_pins ps))
          ≡ count_by (is_pin_on t.0 r dir) (p ∷ ps)
      by false is rest = count-one s high t low r dir p (low_pins ps)
          ∙ ap (λ (n : ℕ). cond (is_pin_on t.0 r dir p) 1 0 + n) rest ∙ sym (count-one s high t low r dir p ps)
      by true is rest = rest ∙ sym (skipped s high t low r dir p ps (All-head (IsApart s high) p ps all is))

  -- a low domain releases one of its pins
  without-low : (d : DomId) (holder : PinHolder) (ps : List Pin) → IsLow d
      → low_pins (without d.0 holder ps) ≡ without d.0 holder (low_pins ps)
  unfolding without
  without-low d holder [] low = refl
  without-low d holder (p ∷ ps) low =
      by (high (record { 0 = p.actor })) refl ((p.actor == d.0) && is_holder p.holder holder) refl
      (without-low d holder ps low)
    where
      found : (c : Bool) → ((p.actor == d.0) && is_holder p.holder holder) ≡ c
          → without d.0 holder (p ∷ low_pins ps) ≡ cond c (low_pins ps) (p ∷ without d.0 holder (low_pins ps))
      found c own = ap (λ (c : Bool). cond c (low_pins ps) (p ∷ without d.0 holder (low_pins ps))) own

      by : (b : Bool) → high (record { 0 = p.actor }) ≡ b → (c : Bool) → ((p.actor == d.0) && is_holder p.holder holder) ≡ c
          → low_pins (without d.0 holder ps) ≡ without d.0 holder (low_pins ps)
          → low_pins (cond c ps (p ∷ without d.0 holder ps))
          ≡ without d.0 holder (cond (not b) (p ∷ low_pins ps) (low_pins ps))
      by false is true own rest = sym (found true own)
      by false is false own rest = kept-pin p (without d.0 holder ps) is
          ∙ ap (λ (l : List Pin). p ∷ l) rest ∙ sym (found false own)
      by true is true own rest = absurd (true≢false (sym (and-true (p.actor == d.0) (is_holder p.holder holder) own).0
          ∙ other-number s high (record { 0 = p.actor }) d is low))
      by true is false own rest = left-pin p (without d.0 holder ps) is ∙ rest

  -- a high domain releases one of its pins
  without-high : (d : DomId) (holder : PinHolder) (ps : List Pin) → IsHigh d
      → low_pins (without d.0 holder ps) ≡ low_pins ps
  unfolding without
  without-high d holder [] up = refl
  without-high d holder (p ∷ ps) up =
      by ((p.actor == d.0) && is_holder p.holder holder) refl (without-high d holder ps up)
    where
      by : (c : Bool) → ((p.actor == d.0) && is_holder p.holder holder) ≡ c
          → low_pins (without d.0 holder ps) ≡ low_pins ps
          → low_pins (cond c ps (p ∷ without d.0 holder ps)) ≡ low_pins (p ∷ ps)
      by true own rest = sym (left-pin p ps (same-number d p.actor
          (eqb-true p.actor d.0 ((and-true (p.actor == d.0) (is_holder p.holder holder) own).0)) up))
      by false own rest = ap (λ (l : List Pin). cond (is_low_pin p) (p ∷ l) l) rest

  unpinned-low : (d : DomId) (x : ItemEvent) (ps : List Pin) → IsLow d
      → low_pins (unpinned_by d x ps) ≡ unpinned_by d x (low_pins ps)
  unpinned-low d (Stepped (Unpin p holder) seen) ps low = without-low d holder ps low
  unpinned-low d x ps low = refl

  unpinned-high : (d : DomId) (x : ItemEvent) (ps : List Pin) → IsHigh d
      → low_pins (unpinned_by d x ps) ≡ low_pins ps
  unpinned-high d (Stepped (Unpin p holder) seen) ps up = without-high d holder ps up
  unpinned-high d x ps up = refl

  pinned-high : (d : DomId) (x : ItemEvent) (a : Option Answer) (h : History) (ps : List Pin) → IsHigh d
      → low_pins (pinned_by d x a h ps) ≡ []
  pinned-high d (Stepped (call_steps.Pin p) Taken) a h ps up = left-pin (record {
    actor = d.0;
    holder = holder_after a (length (gather by_leg d.0 ps));
    held = record p { entry = entry_at h p.dom.0 p.gref.0 };
  }) [] up
  pinned-high d x a h ps up = refl

  pinned-low : (d : DomId) (x : ItemEvent) (a : Option Answer) (g p : History) (ps : List Pin) → IsLow d
      → HappensAtLow high x → ((t : DomId) (r : ℕ) → IsLow t → entry_at p t.0 r ≡ entry_at g t.0 r)
      → low_pins (pinned_by d x a g ps) ≡ pinned_by d x a p (low_pins ps)
  pinned-low d (Stepped (call_steps.Pin q) Taken) a g p ps low at entries =
      kept-pin (pin (length (gather by_leg d.0 ps)) (entry_at g q.dom.0 q.gref.0)) [] low
      ∙ ap (λ (n : ℕ). pin n (entry_at g q.dom.0 q.gref.0) ∷ [])
      (ap (λ (l : List (ℕ × HeldPin)). length l) (sym (gather-low by_leg d ps low)))
      ∙ ap (λ (e : Entry). pin (length (gather by_leg d.0 (low_pins ps))) e ∷ []) (sym (entries q.dom q.gref.0 at))
    where
      pin : ℕ → Entry → Pin
      pin n e = record { actor = d.0; holder = holder_after a n; held = record q { entry = e } }
  pinned-low d x a g p ps low at entries = refl

  -- a pin of a low domain is on an entry of a low one
  abbrev IsAside : Pin → Type 0
  IsAside p = IsLow (record { 0 = p.actor }) → IsLow p.held.dom

  pinned-aside : (h : History) (d : DomId) (x : ItemEvent) (a : Option Answer) (ps : List Pin)
      → (IsLow d → HappensAtLow high x) → All IsAside (pinned_by d x a h ps)
  pinned-aside h d (Stepped (call_steps.Pin p) Taken) a ps at = All-cons IsAside _ [] at (All-nil IsAside)
  pinned-aside h d x a ps at = All-nil IsAside

  pub all-unpinned : (P : Pin → Type 0) (d : DomId) (x : ItemEvent) (ps : List Pin) → All P ps
      → All P (unpinned_by d x ps)
  all-unpinned P d (Stepped (Unpin p holder) seen) ps all = all-without P d.0 holder ps all
  all-unpinned P d x ps all = all

-- Two histories, of which the first has the part of the second that low domains made. What low domains have is the same
-- after both, and no pin is between a low domain and a high one.
pub record IsLowPart (s : Setting) (high : DomId → Bool) (p g : History) : Type 0 where
  pub entry : (t : DomId) (r : ℕ) → high t ≡ false → entry_at p t.0 r ≡ entry_at g t.0 r
  pub raises : (t : DomId) (r : ℕ) → high t ≡ false → raises_at p t.0 r ≡ raises_at g t.0 r
  pub body : (t : DomId) (r : ℕ) (which : BodyWord) → high t ≡ false
      → body_at p t.0 r which ≡ body_at g t.0 r which
  pub table : (t : DomId) → high t ≡ false → table_at s p t ≡ table_at s g t
  pub maps : (d : DomId) → high d ≡ false → maps_answered_at p d.0 ≡ maps_answered_at g d.0
  pub calls : (d : DomId) → high d ≡ false → open_call p d.0 ≡ open_call g d.0
  pub ruled : (d : DomId) → high d ≡ false → stood s p d.0 ≡ stood s g d.0
  pub patches : (t : DomId) (f : ℕ) → high t ≡ false → patches_at p t.0 f ≡ patches_at g t.0 f
  pub pins : live p ≡ low_pins s high (live g)
  pub apart : All (IsAmong s high true) (live g)
  pub aside : All (IsAmong s high false) (live g)

module _ (s : Setting) (high : DomId → Bool) (p g : History) (m : IsLowPart s high p g) where
  abbrev Low : DomId → Type 0
  Low d = high d ≡ false

  -- ---- what low domains know and see

  pub known-low : (d : DomId) → Low d → known_at s p d ≡ known_at s g d
  known-low d low = known-as s g p d (λ r. m.entry d r low) (λ r. m.raises d r low) (m.table d low)
      (ap (λ (ps : List Pin). gather mapping_named d.0 ps) m.pins ∙ gather-low s high mapping_named d (live g) low)
      (m.maps d low)

  any-low : (P : Pin → Type 0) (d : DomId) → Low d → ((q : Pin) → P q → q.actor ≡ d.0) → Any P (live g)
      → Any P (live p)
  any-low P d low owns any = subst (Any P) (sym m.pins) (any-passing P (is_low_pin s high) (live g)
      (λ q here. ap (λ (n : ℕ). not (high (record { 0 = n }))) (owns q here) ∙ ap not low) any)

  pub agrees : Agree s Low p g
  agrees = record {
    entry = m.entry;
    raises = m.raises;
    body = m.body;
    table = m.table;
    reads = λ t r low. ap (λ (ps : List Pin). count_by (is_pin_on t.0 r Read) ps) m.pins
        ∙ counts-low s high t low r Read (live g) m.apart;
    writes = λ t r low. ap (λ (ps : List Pin). count_by (is_pin_on t.0 r Write) ps) m.pins
        ∙ counts-low s high t low r Write (live g) m.apart;
    known = known-low;
    mappings = λ d low. ap (λ (ps : List Pin). gather mapping_named d.0 ps) m.pins
        ∙ gather-low s high mapping_named d (live g) low;
    legs = λ d low. ap (λ (ps : List Pin). gather by_leg d.0 ps) m.pins ∙ gather-low s high by_leg d (live g) low;
    any = any-low;
  }

  first-of : (i : Item) → Low i.actor → HappensAtLow high i.happened → first_of_item s p i ≡ first_of_item s g i
  first-of i low at =
      ap (λ (o : Option Underway). first_in_call s p i.actor i.happened o) (m.calls i.actor low)
      ∙ first-in s Low p g agrees i.actor i.happened (open_call g i.actor.0) low at

  -- ---- answers

  pub contents-low : (t : DomId) (f : ℕ) → Low t → contents_at p t.0 f ≡ contents_at g t.0 f
  contents-low t f low = ap written (m.patches t f low)

  -- what the step reads or looks at is of a low domain
  abbrev ReadsLow : Option Step → Type 0
  ReadsLow (Some (call_steps.Read t f o n)) = Low t
  ReadsLow (Some (LookHeader t)) = Low t
  ReadsLow step = Unit {0}

  value-low : (d : DomId) (r : OpenRequest) (step : Option Step) (a : Answer) → Low d → ReadsLow step
      → GivesValue s g d r step a → GivesValue s p d r step a
  value-low d r step (answers.Denied x) low at v = tt
  value-low d (Map dom gref flags) (Some (call_steps.Pin q)) (answers.Mapped handle) low at v =
      v ∙ sym (m.maps d low)
  value-low d (Load handle off len) (Some (call_steps.Read t f o n)) (answers.Bytes x) low at v =
      v ∙ ap (λ (bytes : List ℕ). take n (drop o bytes)) (sym (contents-low t f at))
  value-low d (Peek frame off len) (Some (call_steps.Read t f o n)) (answers.Bytes x) low at v =
      v ∙ ap (λ (bytes : List ℕ). take n (drop o bytes)) (sym (contents-low t f at))
  value-low d (SetupTable frames) None a low at v =
      v ∙ ap (λ (x : Header). answers.Frames x.frames) (sym (m.table d low))
  value-low d (SetupTable frames) (Some (StoreHeader version stored)) a low at v = v
  value-low d (QuerySize dom) (Some (LookHeader t)) a low at v =
      v ∙ ap (λ (x : Header). answers.Size (record { frames = x.frames; max = MAX_TABLE_FRAMES })) (sym (m.table t at))
  value-low d (GetVersion dom) (Some (LookHeader t)) a low at v =
      v ∙ ap (λ (x : Header). answers.Version x.version) (sym (m.table t at))
  value-low d (Map dom gref flags) step a low at v = absurd v
  value-low d (Load handle off len) step a low at v = absurd v
  value-low d (Peek frame off len) step a low at v = absurd v
  value-low d (SetupTable frames) step a low at v = absurd v
  value-low d (QuerySize dom) step a low at v = absurd v
  value-low d (GetVersion dom) step a low at v = absurd v
  value-low d r step a low at v = v

  answered-low : (d : DomId) (r : OpenRequest) (step : Option Step) (giving : Bool) (v : Option CallResult)
      (a : Option Answer) (against : Option Denial) → Low d → ReadsLow step
      → AnsweredBy s g d r step giving v a against → AnsweredBy s p d r step giving v a against
  answered-low d r step giving None None against low at x = x
  answered-low d r step giving None (Some z) against low at x = absurd x
  answered-low d r step giving (Some v) None against low at x = absurd x
  answered-low d r step giving (Some v) (Some z) against low at x = (x.0, x.1, value-low d r step z low at x.2)

  reads-at-low : (d : DomId) (r : OpenRequest) (z : Step) → Low d → IsAtLow high z → Justified s g d r z
      → ReadsLow (Some z)
  reads-at-low d r (call_steps.Read t f o n) low at just =
      access-of s high false g d Read (record { frame = record { owner = t; number = f }; off = o }) n low m.aside
      just.1
  reads-at-low d r (LookHeader t) low at just = at
  reads-at-low d r z low at just = tt

  -- ---- items of low domains

  abbrev item : DomId → ItemEvent → Option Answer → Item
  item d x a = record { actor = d; happened = x; answer = a }

  step-right : (d : DomId) (z : Step) (v : Observation) (a : Option Answer) (c : Option Underway) → Low d
      → IsAtLow high z → stood s (item d (Stepped z v) a ∷ p) d.0 ≡ stood s (item d (Stepped z v) a ∷ g) d.0
      → legs_at (item d (Stepped z v) a ∷ p) d.0 ≡ legs_at (item d (Stepped z v) a ∷ g) d.0
      → StepsRightIn s g (item d (Stepped z v) a) z v c → StepsRightIn s p (item d (Stepped z v) a) z v c
  step-right d z v a None low at ruled legs right = absurd right
  step-right d z v a (Some c) low at ruled legs right = record {
    continues = ap (λ (k : CallerKnowledge). path k d c.request (values c)) (known-low d low) ∙ right.continues;
    sees = right.sees ∙ sym (sees-same s Low p g agrees d z low at);
    justified = justified-same s Low p g agrees d c.request z low right.justified;
    safe = safe-same s Low p g agrees d z v a a low right.safe;
    sound = sound-same s Low p g agrees d c.request z v low at right.sound;
    soon = right.soon;
    left = λ refused. let l = right.left refused in (l.0, legs ∙ l.1);
    answered = subst (λ (o : Option Denial). AnsweredBy s p d c.request (Some z)
        (gives_back (path (known_at s p d) d c.request (values c ++ v ∷ [])))
        (verdict_in (path (known_at s p d) d c.request (values c ++ v ∷ []))) a o) (sym ruled)
        (subst (λ (k : CallerKnowledge). AnsweredBy s p d c.request (Some z)
        (gives_back (path k d c.request (values c ++ v ∷ []))) (verdict_in (path k d c.request (values c ++ v ∷ []))) a
        (stood s (item d (Stepped z v) a ∷ g) d.0)) (sym (known-low d low))
        (answered-low d c.request (Some z) _ _ a _ low (reads-at-low d c.request z low at right.justified)
        right.answered));
  }

  item-right : (d : DomId) (x : ItemEvent) (a : Option Answer) → Low d → HappensAtLow high x
      → stood s (item d x a ∷ p) d.0 ≡ stood s (item d x a ∷ g) d.0
      → legs_at (item d x a ∷ p) d.0 ≡ legs_at (item d x a ∷ g) d.0
      → IsRight s g (item d x a) → IsRight s p (item d x a)
  item-right d (Began q) a low at ruled legs right = (
    m.calls d low ∙ right.0,
    subst (λ (o : Option Denial). AnsweredBy s p d (asked q) None false (begun_of (known_at s p d) d q) a o) (sym ruled)
        (subst (λ (k : CallerKnowledge). AnsweredBy s p d (asked q) None false (begun_of k d q) a
        (stood s (item d (Began q) a ∷ g) d.0)) (sym (known-low d low))
        (answered-low d (asked q) None false _ a _ low tt right.1)),
    λ opened. subst (λ (k : Header). SpellsItsEntry k q) (sym (m.table d low)) (right.2 opened),
  )
  item-right d (Stepped z v) a low at ruled legs right =
      subst (λ (c : Option Underway). StepsRightIn s p (item d (Stepped z v) a) z v c) (sym (m.calls d low))
      (step-right d z v a (open_call g d.0) low at ruled legs right)

  module _ (i : Item) (low : Low i.actor) (at : HappensAtLow high i.happened) where
    abbrev d : DomId
    d = i.actor

    -- what it writes to frames of low domains
    same-writes : (x : ItemEvent) (a : Option Answer) (t : DomId) (f : ℕ) → Low t
        → IsRight s g (record { actor = d; happened = x; answer = a })
        → patches_by (written_by x (given_in (open_call p d.0)) (λ u k. written (patches_at p u k))) t.0 f
        ≡ patches_by (written_by x (given_in (open_call g d.0)) (λ u k. written (patches_at g u k))) t.0 f
    same-writes (Stepped (call_steps.Write dom frame off len) seen) a t f is right =
        ap (λ (c : Option Underway). patches_by (Some (record {
          at = record { frame = record { owner = dom; number = frame }; off = off };
          bytes = given_in c;
        })) t.0 f) (m.calls d low)
    same-writes (Stepped (call_steps.Copy from to len) seen) a t f is right =
        ap (λ (ps : List Patch). patches_by (Some (record { at = to; bytes = take len (drop from.off (written ps)) }))
        t.0 f) (m.patches from.frame.owner from.frame.number (source (open_call g d.0) right))
      where
        source : (c : Option Underway)
            → StepsRightIn s g (record { actor = d; happened = Stepped (call_steps.Copy from to len) seen; answer = a })
            (call_steps.Copy from to len) seen c → Low from.frame.owner
        source None right = absurd right
        source (Some c) right = by c.request right.justified
          where
            by : (r : OpenRequest) → CopyIsJustified s g d r from to len → Low from.frame.owner
            by (Copy k) just = end-of s high false g d (is_source_granted k) Read from len
                (resolved d k.source.domid) (from.frame.owner, resolved d k.dest.domid) low m.aside just.3
            by r just = absurd just
    same-writes x a t f is right = refl

    pub low-grows : IsRight s g i → All (IsAmong s high true) (live (i ∷ g)) → IsLowPart s high (i ∷ p) (i ∷ g)
    unfolding entry_at raises_at body_at table_at maps_answered_at live open_call stood patches_at
    low-grows right apart = record {
      entry = λ t r is. ap (λ (e : Entry). changed_entry_of (change_of i t.0 r) e) (m.entry t r is);
      raises = λ t r is. ap (λ (n : ℕ). n + raise_after (change_of i t.0 r)) (m.raises t r is);
      body = λ t r which is. ap (λ (n : ℕ). or_else (cond (d.0 == t.0) (stored_at i.happened r which) None) n)
          (m.body t r which is);
      table = λ t is. ap (λ (z : Header). header_or (cond (d.0 == t.0) (header_stored i.happened) None) z)
          (m.table t is);
      maps = λ t is. ap (λ (n : ℕ). cond (d.0 == t.0) (one_if_mapped i.answer) 0 + n) (m.maps t is);
      calls = λ t is. ap (λ (o : Option Underway). cond (d.0 == t.0) (underway_after i o) o) (m.calls t is);
      ruled = λ t is. ap (λ (o : Option Denial). cond (d.0 == t.0) (stood_with i.happened (stood s p t.0) o)
          (stood s p t.0))
          (first-of i low at)
          ∙ ap (λ (o : Option Denial). cond (d.0 == t.0) (stood_with i.happened o (first_of_item s g i)) o)
          (m.ruled t is);
      patches = λ t f is. ap (λ (ps : List Patch). patches_at p t.0 f ++ ps)
          (same-writes i.happened i.answer t f is right)
          ∙ ap (λ (ps : List Patch). ps ++ patches_by (written_by i.happened (given_in (open_call g d.0))
          (λ u k. written (patches_at g u k))) t.0 f) (m.patches t f is);
      pins = ap (λ (ps : List Pin). unpinned_by d i.happened ps ++ pinned_by d i.happened i.answer p ps) m.pins
          ∙ ap (λ (ps : List Pin). ps ++ pinned_by d i.happened i.answer p (low_pins s high (live g)))
          (sym (unpinned-low s high d i.happened (live g) low))
          ∙ ap (λ (ps : List Pin). low_pins s high (unpinned_by d i.happened (live g)) ++ ps)
          (sym (pinned-low s high d i.happened i.answer g p (live g) low at (λ t r is. m.entry t r is)))
          ∙ sym (filter-append (is_low_pin s high) (unpinned_by d i.happened (live g))
          (pinned_by d i.happened i.answer g (live g)));
      apart = apart;
      aside = All-append (IsAmong s high false) (unpinned_by d i.happened (live g))
          (pinned_by d i.happened i.answer g (live g))
          (all-unpinned s high (IsAmong s high false) d i.happened (live g) m.aside)
          (pinned-aside s high g d i.happened i.answer (live g) (λ is. at));
    }

module _ (s : Setting) (high : DomId → Bool) where
  abbrev Lo : DomId → Type 0
  Lo d = high d ≡ false

  abbrev Hi : DomId → Type 0
  Hi d = high d ≡ true

  -- ---- one more item of a high domain

  apart-grows : (g : History) (i : Item) → SharesNothing high g → CopiesApart high g → IsRight s g i
      → All (IsAmong s high true) (live g) → All (IsAmong s high true) (live (i ∷ g))
  unfolding live
  apart-grows g i shares copies right all = All-append (IsAmong s high true) (unpinned_by i.actor i.happened (live g))
      (pinned_by i.actor i.happened i.answer g (live g))
      (all-unpinned s high (IsAmong s high true) i.actor i.happened (live g) all)
      (pinned-apart s high g i.actor i.happened i.answer (live g) shares copies right)

  high-grows : (p g : History) (i : Item) → IsLowPart s high p g → Hi i.actor → IsRight s g i
      → All (IsAmong s high true) (live (i ∷ g)) → IsLowPart s high p (i ∷ g)
  unfolding live
  high-grows p g i m up right apart = record {
    entry = λ t r low. m.entry t r low ∙ sym (other-entry i g t.0 r (other-number s high i.actor t up low));
    raises = λ t r low. m.raises t r low ∙ sym (other-raises i g t.0 r (other-number s high i.actor t up low));
    body = λ t r which low.
        m.body t r which low ∙ sym (other-body i g t.0 r which (other-number s high i.actor t up low));
    table = λ t low. m.table t low ∙ sym (other-table s i g t (other-number s high i.actor t up low));
    maps = λ d low. m.maps d low ∙ sym (other-maps i g d.0 (other-number s high i.actor d up low));
    calls = λ d low. m.calls d low ∙ sym (open_call-other i g d.0 (other-number s high i.actor d up low));
    ruled = λ d low. m.ruled d low ∙ sym (stood-other s i g d.0 (other-number s high i.actor d up low));
    patches = λ t f low. m.patches t f low ∙ sym (frame-kept s high g i t f up low m.apart right);
    pins = m.pins ∙ sym (unpinned-high s high i.actor i.happened (live g) up)
        ∙ sym (append-nil (low_pins s high (unpinned_by i.actor i.happened (live g))))
        ∙ ap (λ (ps : List Pin). low_pins s high (unpinned_by i.actor i.happened (live g)) ++ ps)
        (sym (pinned-high s high i.actor i.happened i.answer g (live g) up))
        ∙ sym (filter-append (is_low_pin s high) (unpinned_by i.actor i.happened (live g))
        (pinned_by i.actor i.happened i.answer g (live g)));
    apart = apart;
    aside = All-append (IsAmong s high false) (unpinned_by i.actor i.happened (live g))
        (pinned_by i.actor i.happened i.answer g (live g))
        (all-unpinned s high (IsAmong s high false) i.actor i.happened (live g) m.aside)
        (pinned-aside s high g i.actor i.happened i.answer (live g)
        (λ low. absurd (true≢false (sym up ∙ low))));
  }

  -- ---- events

  -- an event of a high domain leaves the low part
  pub high-event : (p g : History) (e : Event) (x : Element) → IsLowPart s high p g → SharesNothing high g
      → CopiesApart high g → Hi (actor_of e) → MayDo s g e x → IsLowPart s high p (grown g x)
  high-event p g e NoDomain m shares copies up may = m
  high-event p g e Busy m shares copies up may = m
  high-event p g e Idle m shares copies up may = m
  high-event p g (Begin d q) (elements.Item i) m shares copies up may =
      high-grows p g i m (subst Hi (sym may.1.0) up) may.2 (apart-grows g i shares copies may.2 m.apart)
  high-event p g (Tick d) (elements.Item i) m shares copies up may =
      high-grows p g i m (subst Hi (sym may.1.0) up) may.2 (apart-grows g i shares copies may.2 m.apart)

  -- an item of a low domain is right after the low part too
  low-item : (p g : History) (i : Item) → IsLowPart s high p g → SharesNothing high g → CopiesApart high g
      → Lo i.actor → HappensAtLow high i.happened → IsRight s g i
      → IsRight s p i × IsLowPart s high (i ∷ p) (i ∷ g)
  low-item p g i m shares copies low at right =
      let next = low-grows s high p g m i low at right (apart-grows g i shares copies right m.apart) in (
        item-right s high p g m i.actor i.happened i.answer low at (next.ruled i.actor low)
            ((agrees s high (i ∷ p) (i ∷ g) next).legs i.actor low) right,
        next,
      )

  -- what an item of this element happened at
  abbrev pub AtLow : Element → Type 0
  AtLow (elements.Item i) = HappensAtLow high i.happened
  AtLow x = Unit {0}

  -- an event of a low domain does the same after the low part
  pub low-event : (p g : History) (e : Event) (x : Element) → IsLowPart s high p g → SharesNothing high g
      → CopiesApart high g → Lo (actor_of e) → AtLow x → MayDo s g e x
      → MayDo s p e x × IsLowPart s high (grown p x) (grown g x)
  low-event p g e NoDomain m shares copies low at may = (may, m)
  low-event p g (Begin d q) Busy m shares copies low at may =
      ((may.0, λ none. may.1 (sym (m.calls d low) ∙ none)), m)
  low-event p g (Tick d) Busy m shares copies low at may = absurd may
  low-event p g (Begin d q) Idle m shares copies low at may = absurd may
  low-event p g (Tick d) Idle m shares copies low at may = ((may.0, m.calls d low ∙ may.1), m)
  low-event p g (Begin d q) (elements.Item i) m shares copies low at may =
      let next = low-item p g i m shares copies (subst Lo (sym may.1.0) low) at may.2 in
      ((may.0, may.1, next.0), next.1)
  low-event p g (Tick d) (elements.Item i) m shares copies low at may =
      let next = low-item p g i m shares copies (subst Lo (sym may.1.0) low) at may.2 in
      ((may.0, may.1, next.0), next.1)

  -- ---- runs

  pub stays-before : (h : History) (xs : List Element) → StaysApart high (history_after h xs) → StaysApart high h
  unfolding StaysApart
  stays-before h [] stays = stays
  stays-before h (elements.Item i ∷ xs) stays = (stays-before (i ∷ h) xs stays).1
  stays-before h (x ∷ xs) stays = stays-before h xs stays

  pub looks-before : (h : History) (xs : List Element) → LooksApart high (history_after h xs) → LooksApart high h
  unfolding LooksApart
  looks-before h [] looks = looks
  looks-before h (elements.Item i ∷ xs) looks = (looks-before (i ∷ h) xs looks).1
  looks-before h (x ∷ xs) looks = looks-before h xs looks

  pub looks-now : (g : History) (e : Event) (x : Element) → Lo (actor_of e) → MayDo s g e x
      → LooksApart high (grown g x)
      → AtLow x
  unfolding LooksApart
  looks-now g (Begin d q) (elements.Item i) low may looks = looks.0 (subst Lo (sym may.1.0) low)
  looks-now g (Tick d) (elements.Item i) low may looks = looks.0 (subst Lo (sym may.1.0) low)
  looks-now g e x low may looks = tt

  low-part : (p g : History) (es : List Event) (xs : List Element) → IsLowPart s high p g → LegalAfter s g es xs
      → StaysApart high (history_after g xs) → LooksApart high (history_after g xs)
      → LegalAfter s p (low_events high es) (low_elements high es xs)
      × IsLowPart s high (history_after p (low_elements high es xs)) (history_after g xs)
  low-part p g [] [] m legal stays looks = (tt, m)
  low-part p g [] (x ∷ xs) m legal stays looks = absurd legal
  low-part p g (e ∷ es) [] m legal stays looks = absurd legal
  low-part p g (e ∷ es) (x ∷ xs) m legal stays looks =
      by (high (actor_of e)) refl (λ q part. low-part q (grown g x) es xs part legal.1 stays looks)
    where
      now : SharesNothing high g × CopiesApart high g
      now = now-apart s high g (stays-before g (x ∷ xs) stays)

      by : (b : Bool) → high (actor_of e) ≡ b
          → ((q : History) → IsLowPart s high q (grown g x)
          → LegalAfter s q (low_events high es) (low_elements high es xs)
          × IsLowPart s high (history_after q (low_elements high es xs)) (history_after (grown g x) xs))
          → LegalAfter s p (cond b (low_events high es) (e ∷ low_events high es))
          (cond b (low_elements high es xs) (x ∷ low_elements high es xs))
          × IsLowPart s high
          (history_after p (cond b (low_elements high es xs) (x ∷ low_elements high es xs)))
          (history_after (grown g x) xs)
      by true up rest = rest p (high-event p g e x m now.0 now.1 up legal.0)
      by false low rest =
          let next = low-event p g e x m now.0 now.1 low
          (looks-now g e x low legal.0 (looks-before (grown g x) xs looks)) legal.0 in
          let after = rest (grown p x) next.1 in
          ((next.0, after.0), after.1)

  pub nothing-yet : IsLowPart s high [] []
  unfolding entry_at raises_at body_at table_at maps_answered_at live open_call stood patches_at
  nothing-yet = record {
    entry = λ t r low. refl;
    raises = λ t r low. refl;
    body = λ t r which low. refl;
    table = λ t low. refl;
    maps = λ d low. refl;
    calls = λ d low. refl;
    ruled = λ d low. refl;
    patches = λ t f low. refl;
    pins = refl;
    apart = All-nil (IsAmong s high true);
    aside = All-nil (IsAmong s high false);
  }

  pub keeps : (p g : History) → IsLowPart s high p g → LowDomainsKeep s high g p
  keeps p g m = record {
    words = λ t r low. sym (word-same s (λ d. high d ≡ false) p g (agrees s high p g m) t r low);
    bodies = λ t r which low. sym (m.body t r which low);
    tables = λ t low. sym (m.table t low);
    frames = λ t f low. ap written (sym (m.patches t f low));
  }

  pub low-parts-are-legal : (es : List Event) (xs : List Element) → Legal s es xs
      → StaysApart high (history_after [] xs) → LooksApart high (history_after [] xs)
      → Legal s (low_events high es) (low_elements high es xs)
      × LowDomainsKeep s high (history_after [] xs) (history_after [] (low_elements high es xs))
  low-parts-are-legal es xs legal stays looks =
      let part = low-part [] [] es xs nothing-yet legal stays looks in
      (part.0, keeps (history_after [] (low_elements high es xs)) (history_after [] xs) part.1)
