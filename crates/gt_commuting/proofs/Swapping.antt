-- Histories that look the same, and items that change places.
use Rattle.gt_core.proofs.Words.{◌≡◌, ◌≢◌, ◌⊎◌, inl, inr, ℕ, ◌+◌, refl, Bool, true, false, List, [], ◌∷◌, ◌++◌, Option}
use Rattle.gt_core.proofs.Words.{Some, None, sym, ap, ◌∙◌, subst, arith, cond, ◌==◌, append_assoc, append-nil, take}
use Rattle.gt_core.proofs.Words.{drop, map, length, domain_of, DomId, GrantRef, Denial, Header, header_word, Handle}
use Rattle.gt_core.proofs.Words.{asked, begun_of, CallerKnowledge, path, HeldPin, PinHolder, Request, OpenRequest}
use Rattle.gt_core.proofs.Words.{Observation, Word, Taken, Step, LookHeader, LookControl, LookBody, Exchange, Unpin}
use Rattle.gt_core.proofs.Words.{StoreBody, StoreHeader, CallResult, Answer, ItemEvent, Began, Stepped, Item, History}
use Rattle.gt_core.proofs.Words.{Setting, Underway, open_call, values, known_at, seen_by, exchange_sees, table_at}
use Rattle.gt_core.proofs.Words.{maps_answered_at, contents_at, mapping_of, IsRight, AnsweredBy, GivesValue, entry_at}
use Rattle.gt_core.proofs.Words.{raises_at, raise_after, live, Pin, pinned_by, unpinned_by, change_of, gather}
use Rattle.gt_core.proofs.Words.{mapping_named, legs_at, by_leg, body_at, stored_at, or_else, BodyWord, without}
use Rattle.gt_core.proofs.Words.{is_holder, is_pin_on, reads_at, writes_at, count_by, zero, suc, eq-eqb, eqb-true}
use Rattle.gt_core.proofs.Words.{false≢true, Entry, holder_after, Any, EntryChange, Dir, Read, Write, changed_entry_of}
use Rattle.gt_core.proofs.Words.{header_stored, header_or, one_if_mapped, nat_lt, nat_le, reverse, sum_by-cons, ◌&&◌}
use Rattle.gt_model.specs.declared.action.Action.TheVariants as actions
use Rattle.gt_model.specs.declared.action.Step.TheVariants as call_steps
use Rattle.std.specs.Prelude.{not}
use Rattle.gt_core.proofs.Words.{◌||◌}
use Rattle.gt_commuting.specs.Swapping.{touches_entry, looks_header, stores_header, reads_frames, writes_frames}
use Rattle.gt_commuting.specs.Swapping.{looks_body, stores_body}
use Rattle.gt_commuting.specs.Swapping.{ReleasesNoPinOn, LeavesFor, TouchApart, with_holder, own_pins, SameEntry}
use Rattle.gt_commuting.specs.Swapping.{SameOwn, SameLook, SameSight, SameSeen, patches_of, AreApart}
use Rattle.gt_model.proofs.Observers.{exchanged-entry, exchanged-raises, kept-entry, kept-raises, kept-table}
use Rattle.gt_model.proofs.Observers.{unstored, known-as, gather-append, other-entry, other-raises, other-body}
use Rattle.gt_model.proofs.Observers.{other-maps, other-table, other-pins, cond-same, unpinned-live}
use Rattle.gt_model.specs.FirstRule.{LegNow, leg_now, leg_at, StepsSoFar, looked_at, is_in_body, is_other, misses}
use Rattle.gt_model.specs.FirstRule.{is_demote, at_entry, rule_at_exchange, rule_at_header, rule_before_pin}
use Rattle.gt_model.specs.FirstRule.{rule_at_look, rule_at_via, rule_at_pin, first_at, first_in_call, first_of_item}
use Rattle.gt_model.specs.FirstRule.{stood_with, stood, refusal_in}
use Rattle.gt_model.specs.History.{control_at, word_at, same_dir, same_body_word, patches_at, patches_by, written_by}
use Rattle.gt_model.specs.History.{given_in, WriteMade, underway_after}
use Rattle.gt_core.specs.Prelude.{control_with, control_word, Leg, first_look, before_pin, pins_of, size_of, denial_of}
use Rattle.gt_core.specs.Prelude.{N9, N18, N19, MAX_TRIES, stands, first, Load, Store, Peek, Copy, Map, SetupTable}
use Rattle.gt_core.specs.Prelude.{QuerySize, GetVersion, Spot, Publish, IsSpelled, written, Denied, Mapped, Bytes}
use Rattle.gt_core.specs.Prelude.{MAX_TABLE_FRAMES, SpellsItsEntry, Event, Begin, Tick, Element, Busy, Idle, NoDomain}
use Rattle.gt_core.specs.Prelude.{Patch}
use Rattle.gt_model.specs.declared.change.BodyWord.TheVariants as body_words
use Rattle.gt_model.specs.declared.change.EntryChange.TheVariants as changes
use Rattle.gt_model.specs.declared.trace.Element.TheVariants as elements
use Rattle.gt_types.specs.declared.denial.Facts.TheVariants as facts
use Rattle.gt_types.specs.declared.Use.TheVariants as uses
use Rattle.gt_model.specs.Justified.{Justified, AccessIsJustified, MayAccess, MayAsk, MayUseMapping, Reaches}
use Rattle.gt_model.specs.Justified.{Forwards, ReachesThrough, EndIsJustified, CopyIsJustified, IsSafe, IsSafeChange}
use Rattle.gt_model.specs.Legal.{StepsRightIn, PinIsSound, NoneStands, next_in, gives_back, verdict_in, MayDo}
use Rattle.gt_model.specs.Legal.{IsItemOf, actor_of, grown}
use Rattle.gt_model.specs.declared.trace.Answer.TheVariants as answers
use Rattle.gt_core.proofs.AgreementKept.{open_call-other}

-- pins

-- what pins give, each by its holder
unfoldable spread : {A : Type 0} → (PinHolder → HeldPin → List A) → List (PinHolder × HeldPin) → List A
spread give [] = []
spread give (x ∷ xs) = give x.0 x.1 ++ spread give xs

spread-append : {A : Type 0} (give : PinHolder → HeldPin → List A) (xs ys : List (PinHolder × HeldPin))
    → spread give (xs ++ ys) ≡ spread give xs ++ spread give ys
unfolding spread
spread-append give [] ys = refl
spread-append give (x ∷ xs) ys = ap (λ l. give x.0 x.1 ++ l) (spread-append give xs ys)
    ∙ sym (append_assoc (give x.0 x.1) (spread give xs) (spread give ys))

spread-gather : {A : Type 0} (give : PinHolder → HeldPin → List A) (d : ℕ) (ps : List Pin)
    → gather give d ps ≡ spread give (gather with_holder d ps)
unfolding gather spread
spread-gather give d [] = refl
spread-gather give d (p ∷ ps) = grind (arith, spread-gather give d ps, append-nil)

pins-same : {A : Type 0} (give : PinHolder → HeldPin → List A) (g h : History) (d : ℕ) → own_pins g d ≡ own_pins h d
    → gather give d (live g) ≡ gather give d (live h)
pins-same give g h d same = spread-gather give d (live g) ∙ ap (λ l. spread give l) same
    ∙ sym (spread-gather give d (live h))

-- what a domain knows by itself
known-same : (s : Setting) (g h : History) (d : DomId) → SameOwn s g h d → known_at s g d ≡ known_at s h d
known-same s g h d own = known-as s h g d own.entries own.raises own.table
    (pins-same mapping_named g h d.0 own.pins) own.maps

-- a pin of the domain
abbrev pin_of : ℕ → PinHolder × HeldPin → Pin
pin_of d x = record { actor = d; holder = x.0; held = x.1 }

any-none : {X : Type 0} (P : X → Type 0) → Any P [] → ⊥
any-none P a = let lt = a.2 in absurd (omega (arith, lt))

any-here : {X : Type 0} (P : X → Type 0) (x : X) (xs : List X) → P x → Any P (x ∷ xs)
any-here P x xs p = (0, x, omega arith, refl, p)

any-there : {X : Type 0} (P : X → Type 0) (x : X) (xs : List X) → Any P xs → Any P (x ∷ xs)
any-there P x xs a = (suc a.0, a.1, (let lt = a.2 in omega arith), a.3, a.4)

any-cases : {X : Type 0} (P : X → Type 0) (y : X) (ys : List X) → Any P (y ∷ ys) → P y ⊎ Any P ys
any-cases P y ys (zero, x, lt, is, p) = inl (subst P (sym is) p)
any-cases P y ys (suc k, x, lt, is, p) = inr (k, x, omega (arith, lt), is, p)

own-pin : (d : ℕ) (p : Pin) → p.actor ≡ d → pin_of d (p.holder, p.held) ≡ p
own-pin d p e = ap (λ n. pin_of n (p.holder, p.held)) (sym e)

any-own : (P : Pin → Type 0) (d : ℕ) → ((p : Pin) → P p → p.actor ≡ d) → (ps : List Pin) → Any P ps
    → Any (λ x. P (pin_of d x)) (gather with_holder d ps)
unfolding gather
any-own P d own [] a = absurd (any-none P a)
any-own P d own (p ∷ ps) a = by (p.actor == d) refl (λ x. any-own P d own ps x) (any-cases P p ps a) where
  by : (b : Bool) → (p.actor == d) ≡ b → (Any P ps → Any (λ x. P (pin_of d x)) (gather with_holder d ps))
      → P p ⊎ Any P ps → Any (λ x. P (pin_of d x)) (cond b ((p.holder, p.held) ∷ []) [] ++ gather with_holder d ps)
  by true e rest (inl x) = any-here (λ x. P (pin_of d x)) (p.holder, p.held) (gather with_holder d ps)
      (subst P (sym (own-pin d p (own p x))) x)
  by true e rest (inr x) = any-there (λ x. P (pin_of d x)) (p.holder, p.held) (gather with_holder d ps) (rest x)
  by false e rest (inl x) = absurd (false≢true (sym e ∙ eq-eqb p.actor d (own p x)))
  by false e rest (inr x) = rest x

any-live : (P : Pin → Type 0) (d : ℕ) (ps : List Pin) → Any (λ x. P (pin_of d x)) (gather with_holder d ps) → Any P ps
unfolding gather
any-live P d [] a = absurd (any-none (λ x. P (pin_of d x)) a)
any-live P d (p ∷ ps) a = by (p.actor == d) refl (λ x. any-live P d ps x) a where
  by : (b : Bool) → (p.actor == d) ≡ b → (Any (λ x. P (pin_of d x)) (gather with_holder d ps) → Any P ps)
      → Any (λ x. P (pin_of d x)) (cond b ((p.holder, p.held) ∷ []) [] ++ gather with_holder d ps) → Any P (p ∷ ps)
  by false e rest a = any-there P p ps (rest a)
  by true e rest a = case (any-cases (λ x. P (pin_of d x)) (p.holder, p.held) (gather with_holder d ps) a) where
    case : P (pin_of d (p.holder, p.held)) ⊎ Any (λ x. P (pin_of d x)) (gather with_holder d ps) → Any P (p ∷ ps)
    case (inl x) = any-here P p ps (subst P (own-pin d p (eqb-true p.actor d e)) x)
    case (inr x) = any-there P p ps (rest x)

-- what holds of some pin of a domain
any-same : (P : Pin → Type 0) (g h : History) (d : ℕ) → own_pins g d ≡ own_pins h d → ((p : Pin) → P p → p.actor ≡ d)
    → Any P (live g) → Any P (live h)
any-same P g h d same own a = any-live P d (live h) (subst (λ xs. Any (λ x. P (pin_of d x)) xs) same
    (any-own P d own (live g) a))

-- the pin that was taken

pinned-same : (s : Setting) (g h : History) (d : DomId) (x : ItemEvent) (a : Option Answer)
    → own_pins g d.0 ≡ own_pins h d.0 → SameSight s g h d x → pinned_by d x a g (live g) ≡ pinned_by d x a h (live h)
pinned-same s g h d (Stepped (call_steps.Pin p) Taken) a own sight =
    ap (λ (e : Entry). record {
      actor = d.0;
      holder = holder_after a (length (gather by_leg d.0 (live g)));
      held = record p { entry = e };
    } ∷ []) sight.entry
    ∙ ap (λ (l : List (ℕ × HeldPin)). record {
      actor = d.0;
      holder = holder_after a (length l);
      held = record p { entry = entry_at h p.dom.0 p.gref.0 };
    } ∷ []) (pins-same by_leg g h d.0 own)
pinned-same s g h d x a own sight = refl

-- the pins of a domain without the first one with this holder
unfoldable own_without : PinHolder → List (PinHolder × HeldPin) → List (PinHolder × HeldPin)
own_without holder [] = []
own_without holder (x ∷ xs) = cond (is_holder x.0 holder) xs (x ∷ own_without holder xs)

gather-without : (d actor : ℕ) (holder : PinHolder) (ps : List Pin)
    → gather with_holder d (without actor holder ps) ≡ cond (actor == d) (own_without holder (gather with_holder d ps))
    (gather with_holder d ps)
unfolding gather without own_without
gather-without d actor holder [] = grind arith
gather-without d actor holder (p ∷ ps) = grind (arith, gather-without d actor holder ps)

unpinned-same : (g h : History) (d : ℕ) (a : DomId) (x : ItemEvent) → own_pins g d ≡ own_pins h d
    → gather with_holder d (unpinned_by a x (live g)) ≡ gather with_holder d (unpinned_by a x (live h))
unpinned-same g h d a (Stepped (Unpin p holder) seen) own =
    gather-without d a.0 holder (live g) ∙ ap (λ xs. cond (a.0 == d) (own_without holder xs) xs) own
    ∙ sym (gather-without d a.0 holder (live h))
unpinned-same g h d a x own = own

own-grows : (g h : History) (i : Item) (d : ℕ) → own_pins g d ≡ own_pins h d
    → pinned_by i.actor i.happened i.answer g (live g) ≡ pinned_by i.actor i.happened i.answer h (live h)
    → own_pins (i ∷ g) d ≡ own_pins (i ∷ h) d
unfolding live
own-grows g h i d own new =
    gather-append with_holder d (unpinned_by i.actor i.happened (live g))
    (pinned_by i.actor i.happened i.answer g (live g))
    ∙ ap (λ xs. xs ++ gather with_holder d (pinned_by i.actor i.happened i.answer g (live g)))
    (unpinned-same g h d i.actor i.happened own)
    ∙ ap (λ ps. gather with_holder d (unpinned_by i.actor i.happened (live h)) ++ gather with_holder d ps) new
    ∙ sym (gather-append with_holder d (unpinned_by i.actor i.happened (live h))
    (pinned_by i.actor i.happened i.answer h (live h)))

-- the number of pins on an entry

-- how many of them go with the pin of this holder
unfoldable going : (HeldPin → Bool) → PinHolder → List (PinHolder × HeldPin) → ℕ
going f holder [] = 0
going f holder (x ∷ xs) = cond (is_holder x.0 holder) (cond (f x.1) 1 0) (going f holder xs)

count-cons : (f : HeldPin → Bool) (p : Pin) (ps : List Pin) → count_by (λ (q : Pin). f q.held) (p ∷ ps)
    ≡ cond (f p.held) 1 0 + count_by (λ (q : Pin). f q.held) ps
count-cons f p ps = sum_by-cons (λ (q : Pin). cond (f q.held) 1 0) p ps

count-without : (f : HeldPin → Bool) (d : ℕ) (holder : PinHolder) (ps : List Pin)
    → count_by (λ (q : Pin). f q.held) (without d holder ps) + going f holder (gather with_holder d ps)
    ≡ count_by (λ (q : Pin). f q.held) ps
unfolding gather without going
count-without f d holder [] = refl
count-without f d holder (p ∷ ps) = grind (
  arith,
  count-without f d holder ps,
  count-cons f p ps,
  count-cons f p (without d holder ps),
)

count-append : (f : HeldPin → Bool) (ps qs : List Pin) → count_by (λ (q : Pin). f q.held) (ps ++ qs)
    ≡ count_by (λ (q : Pin). f q.held) ps + count_by (λ (q : Pin). f q.held) qs
count-append f [] qs = omega arith
count-append f (p ∷ ps) qs = grind (arith, count-append f ps qs, count-cons f p ps, count-cons f p (ps ++ qs))

-- what an item removes from the pins, if these are its domain's
abbrev goes_with : (HeldPin → Bool) → ItemEvent → List (PinHolder × HeldPin) → ℕ
goes_with f (Stepped (Unpin p holder) seen) own = going f holder own
goes_with f x own = 0

-- what it adds to them
abbrev comes_with : (HeldPin → Bool) → ItemEvent → ℕ
comes_with f (Stepped (call_steps.Pin p) Taken) = cond (f p) 1 0
comes_with f x = 0

count-unpinned : (f : HeldPin → Bool) (d : DomId) (x : ItemEvent) (ps : List Pin)
    → count_by (λ (q : Pin). f q.held) (unpinned_by d x ps) + goes_with f x (gather with_holder d.0 ps)
    ≡ count_by (λ (q : Pin). f q.held) ps
count-unpinned f d (Stepped (Unpin p holder) seen) ps = count-without f d.0 holder ps
count-unpinned f d x ps = omega arith

-- the kind of pins that are on an entry
abbrev is_held_on : ℕ → ℕ → Dir → HeldPin → Bool
is_held_on t r k p = (p.dom.0 == t) && (p.gref.0 == r) && same_dir p.dir k

count-pinned : (t r : ℕ) (k : Dir) (d : DomId) (x : ItemEvent) (a : Option Answer) (h : History) (ps : List Pin)
    → count_by (is_pin_on t r k) (pinned_by d x a h ps) ≡ comes_with (is_held_on t r k) x
count-pinned t r k d (Stepped (call_steps.Pin p) Taken) a h ps = count-cons (is_held_on t r k)
    (record {
      actor = d.0;
      holder = holder_after a (length (gather by_leg d.0 ps));
      held = record p { entry = entry_at h p.dom.0 p.gref.0 };
    }) [] ∙ omega arith
count-pinned t r k d x a h ps = refl

abbrev pins_at : History → ℕ → ℕ → Dir → ℕ
pins_at h t r k = count_by (is_pin_on t r k) (live h)

-- the pins on an entry after an item
count-grown : (t r : ℕ) (k : Dir) (h : History) (i : Item) → pins_at (i ∷ h) t r k + goes_with
    (is_held_on t r k) i.happened (own_pins h i.actor.0) ≡ pins_at h t r k + comes_with (is_held_on t r k) i.happened
unfolding live
count-grown t r k h i =
    let all = count-append (is_held_on t r k) (unpinned_by i.actor i.happened (live h))
    (pinned_by i.actor i.happened i.answer h (live h)) in
    let less = count-unpinned (is_held_on t r k) i.actor i.happened (live h) in
    let more = count-pinned t r k i.actor i.happened i.answer h (live h) in
    omega (arith, all, less, more)

count-same : (t r : ℕ) (k : Dir) (g h : History) (i : Item) → own_pins g i.actor.0 ≡ own_pins h i.actor.0
    → pins_at g t r k ≡ pins_at h t r k → pins_at (i ∷ g) t r k ≡ pins_at (i ∷ h) t r k
count-same t r k g h i own same =
    let one = count-grown t r k g i in let other = count-grown t r k h i in
    let both = ap (λ xs. goes_with (is_held_on t r k) i.happened xs) own in
    omega (arith, one, other, both, same)

-- the first rule at a step

leg-same : (s : Setting) (g h : History) (d : DomId) (request : OpenRequest) → SameOwn s g h d
    → leg_at s g d request ≡ leg_at s h d request
leg-same s g h d request own =
    ap (λ (k : CallerKnowledge). leg_now k d request (map (λ (p : ℕ × HeldPin). p.1) (legs_at g d.0)))
    (known-same s g h d own)
    ∙ ap (λ (l : List (ℕ × HeldPin)). leg_now (known_at s h d) d request (map (λ (p : ℕ × HeldPin). p.1) l))
    (pins-same by_leg g h d.0 own.pins)

control-same : (s : Setting) (g h : History) (t r : ℕ) → SameEntry g h t r → control_at s g t r ≡ control_at s h t r
control-same s g h t r same =
    ap (λ e. control_with e (s.first_generation + raises_at g t r) (reads_at g t r) (writes_at g t r)) same.entry
    ∙ ap (λ n. control_with (entry_at h t r) (s.first_generation + n) (reads_at g t r) (writes_at g t r)) same.raises
    ∙ ap (λ n. control_with (entry_at h t r) (s.first_generation + raises_at h t r) n (writes_at g t r)) same.reads
    ∙ ap (λ n. control_with (entry_at h t r) (s.first_generation + raises_at h t r) (reads_at h t r) n) same.writes

word-same : (s : Setting) (g h : History) (t r : ℕ) → SameEntry g h t r → word_at s g t r ≡ word_at s h t r
word-same s g h t r same = ap control_word (control-same s g h t r same)

seen-same : (s : Setting) (g h : History) (d : DomId) (z : Step) → SameLook s g h d z
    → seen_by s g d z ≡ seen_by s h d z
seen-same s g h d (LookHeader dom) look = ap (λ (x : Header). Word (header_word x)) look
seen-same s g h d (LookControl dom gref) look = ap (λ (w : ℕ). Word w) (word-same s g h dom.0 gref.0 look)
seen-same s g h d (LookBody dom gref body_word) look = ap (λ (w : ℕ). Word w) look
seen-same s g h d (call_steps.Pin p) look = ap (λ (w : ℕ). exchange_sees w p.word) (word-same s g h p.dom.0 p.gref.0 look)
seen-same s g h d (Exchange gref looked change) look = ap (λ (w : ℕ). exchange_sees w looked)
    (word-same s g h d.0 gref.0 look.0)
seen-same s g h d z look = refl

header-rule : (s : Setting) (g h : History) (dom : DomId) (n : Option LegNow) → table_at s g dom ≡ table_at s h dom
    → rule_at_header s g dom n ≡ rule_at_header s h dom n
header-rule s g h dom None same = refl
header-rule s g h dom (Some n) same = ap (λ (t : Header). cond (nat_lt n.leg.gref.0 (size_of t)) None
    (Some (denial_of N9 (facts.Header dom (header_word t))))) same

before-rule : (s : Setting) (g h : History) (l : Leg) (dom : DomId) (gref : GrantRef) → SameEntry g h dom.0 gref.0
    → rule_before_pin s g l dom gref ≡ rule_before_pin s h l dom gref
before-rule s g h l dom gref same =
    ap (λ e. before_pin l e (pins_of l.dir (control_at s g dom.0 gref.0))) same.entry
    ∙ ap (λ c. before_pin l (entry_at h dom.0 gref.0) (pins_of l.dir c)) (control-same s g h dom.0 gref.0 same)

look-rule : (s : Setting) (g h : History) (n : Option LegNow) (dom : DomId) (gref : GrantRef) (so_far : StepsSoFar)
    → SameEntry g h dom.0 gref.0 → rule_at_look s g n dom gref so_far ≡ rule_at_look s h n dom gref so_far
look-rule s g h None dom gref so_far same = refl
look-rule s g h (Some n) dom gref so_far same =
    ap (λ w. cond (is_in_body so_far) (cond (is_other w (looked_at so_far)) None (rule_before_pin s g n.leg dom gref))
    (first_look n.leg (control_at s g dom.0 gref.0))) (word-same s g h dom.0 gref.0 same)
    ∙ ap (λ o. cond (is_in_body so_far) (cond (is_other (word_at s h dom.0 gref.0) (looked_at so_far)) None o)
    (first_look n.leg (control_at s g dom.0 gref.0))) (before-rule s g h n.leg dom gref same)
    ∙ ap (λ c. cond (is_in_body so_far) (cond (is_other (word_at s h dom.0 gref.0) (looked_at so_far)) None
    (rule_before_pin s h n.leg dom gref)) (first_look n.leg c)) (control-same s g h dom.0 gref.0 same)

pin-rule : (s : Setting) (g h : History) (d : DomId) (request : OpenRequest) (so_far : StepsSoFar) (p : HeldPin) (seen : Observation)
    → SameOwn s g h d → SameEntry g h p.dom.0 p.gref.0 → rule_at_pin s g d request so_far p seen
    ≡ rule_at_pin s h d request so_far p seen
pin-rule s g h d request so_far p Taken own same =
    ap (λ k. rule_at_via k (leg_at s g d request) (entry_at g p.dom.0 p.gref.0)) (known-same s g h d own)
    ∙ ap (λ n. rule_at_via (known_at s h d) n (entry_at g p.dom.0 p.gref.0)) (leg-same s g h d request own)
    ∙ ap (λ e. rule_at_via (known_at s h d) (leg_at s h d request) e) same.entry
pin-rule s g h d request so_far p seen own same = ap (λ w. at_entry p.dom p.gref w
    (stands (nat_le MAX_TRIES (misses ((call_steps.Pin p, seen) ∷ so_far))) N18)) (word-same s g h p.dom.0 p.gref.0 same)

first-same : (s : Setting) (g h : History) (d : DomId) (request : OpenRequest) (so_far : StepsSoFar) (z : Step)
    → SameOwn s g h d → SameLook s g h d z → first_at s g d request so_far z ≡ first_at s h d request so_far z
first-same s g h d request so_far (LookHeader dom) own look =
    ap (λ n. rule_at_header s g dom n) (leg-same s g h d request own)
    ∙ header-rule s g h dom (leg_at s h d request) look
first-same s g h d request so_far (LookControl dom gref) own look =
    ap (λ w. at_entry dom gref w (first (
    stands (is_demote request && nat_lt 0 (writes_at g dom.0 gref.0)) N19
    ∷ rule_at_look s g (leg_at s g d request) dom gref so_far
    ∷ stands (nat_le MAX_TRIES (misses ((LookControl dom gref, Word w) ∷ so_far))) N18 ∷ [])))
    (word-same s g h dom.0 gref.0 look)
    ∙ ap (λ n. at_entry dom gref (word_at s h dom.0 gref.0) (first (
    stands (is_demote request && nat_lt 0 n) N19
    ∷ rule_at_look s g (leg_at s g d request) dom gref so_far
    ∷ stands (nat_le MAX_TRIES (misses ((LookControl dom gref, seen_by s h d (LookControl dom gref)) ∷ so_far))) N18
    ∷ []))) look.writes
    ∙ ap (λ o. at_entry dom gref (word_at s h dom.0 gref.0) (first (
    stands (is_demote request && nat_lt 0 (writes_at h dom.0 gref.0)) N19
    ∷ o
    ∷ stands (nat_le MAX_TRIES (misses ((LookControl dom gref, seen_by s h d (LookControl dom gref)) ∷ so_far))) N18
    ∷ [])))
    (ap (λ n. rule_at_look s g n dom gref so_far) (leg-same s g h d request own)
    ∙ look-rule s g h (leg_at s h d request) dom gref so_far look)
first-same s g h d request so_far (call_steps.Pin p) own look =
    ap (λ v. rule_at_pin s g d request so_far p v) (seen-same s g h d (call_steps.Pin p) look)
    ∙ pin-rule s g h d request so_far p (seen_by s h d (call_steps.Pin p)) own look
first-same s g h d request so_far (Exchange gref looked change) own look =
    ap (λ w. at_entry d gref w (rule_at_exchange change (reads_at g d.0 gref.0 + writes_at g d.0 gref.0)
    (misses ((Exchange gref looked change, exchange_sees w looked) ∷ so_far)))) (word-same s g h d.0 gref.0 look.0)
    ∙ ap (λ n. at_entry d gref (word_at s h d.0 gref.0) (rule_at_exchange change (n + writes_at g d.0 gref.0)
    (misses ((Exchange gref looked change, seen_by s h d (Exchange gref looked change)) ∷ so_far)))) look.0.reads
    ∙ ap (λ n. at_entry d gref (word_at s h d.0 gref.0) (rule_at_exchange change (reads_at h d.0 gref.0 + n)
    (misses ((Exchange gref looked change, seen_by s h d (Exchange gref looked change)) ∷ so_far)))) look.0.writes
first-same s g h d request so_far z own look = refl

in-call-same : (s : Setting) (g h : History) (d : DomId) (x : ItemEvent) (c : Option Underway) → SameOwn s g h d
    → SameSight s g h d x → first_in_call s g d x c ≡ first_in_call s h d x c
in-call-same s g h d (Began request) c own sight = ap (λ k. refusal_in (begun_of k d request)) (known-same s g h d own)
in-call-same s g h d (Stepped z seen) None own sight = refl
in-call-same s g h d (Stepped z seen) (Some c) own sight = first-same s g h d c.request (reverse c.steps) z own sight

item-same : (s : Setting) (g h : History) (i : Item) → SameOwn s g h i.actor → SameSight s g h i.actor i.happened
    → first_of_item s g i ≡ first_of_item s h i
item-same s g h i own sight = ap (λ c. first_in_call s g i.actor i.happened c) own.call
    ∙ in-call-same s g h i.actor i.happened (open_call h i.actor.0) own sight

stood-grows : (s : Setting) (g h : History) (i : Item) (d : ℕ) → stood s g d ≡ stood s h d
    → first_of_item s g i ≡ first_of_item s h i → stood s (i ∷ g) d ≡ stood s (i ∷ h) d
unfolding stood
stood-grows s g h i d same new =
    ap (λ o. cond (i.actor.0 == d) (stood_with i.happened o (first_of_item s g i)) o) same
    ∙ ap (λ o. cond (i.actor.0 == d) (stood_with i.happened (stood s h d) o) (stood s h d)) new

-- what may follow

ask-same : (s : Setting) (g h : History) (d : DomId) (request : OpenRequest) → SameOwn s g h d → MayAsk s g d request
    → MayAsk s h d request
ask-same s g h d (Load handle off len) own may = subst (λ (ms : List (Handle × HeldPin)). MayUseMapping s d
    (mapping_of ms handle)) (pins-same mapping_named g h d.0 own.pins) may
ask-same s g h d (Store handle off len) own may = subst (λ (ms : List (Handle × HeldPin)). MayUseMapping s d
    (mapping_of ms handle)) (pins-same mapping_named g h d.0 own.pins) may
ask-same s g h d request own may = may

access-same : (s : Setting) (g h : History) (d : DomId) (dir : Dir) (at : Spot) (len : ℕ) → SameOwn s g h d
    → MayAccess g d dir at len → MayAccess h d dir at len
access-same s g h d dir at len own (inl is) = inl is
access-same s g h d dir at len own (inr any) = inr (any-same (Reaches d d dir uses.Map at len) g h d.0 own.pins
    (λ p reach. reach.of_actor) any)

range-same : (s : Setting) (g h : History) (d : DomId) (request : OpenRequest) (dir : Dir) (at : Spot) (len : ℕ)
    → SameOwn s g h d → AccessIsJustified s g d request dir at len → AccessIsJustified s h d request dir at len
range-same s g h d request dir at len own just = (
  just.0,
  access-same s g h d dir at len own just.1,
  ask-same s g h d request own just.2,
)

through-same : (s : Setting) (g h : History) (d : DomId) (dir : Dir) (at : Spot) (len : ℕ) (named : DomId)
    → SameOwn s g h d → ReachesThrough g d dir at len named → ReachesThrough h d dir at len named
through-same s g h d dir at len named own any =
    let outer = any-same (λ p. Any (λ via. Forwards d dir named p via × Reaches d named dir uses.Copy at len p) (live g))
    g h d.0 own.pins (λ p inner. inner.4.1.of_actor) any in (
      outer.0,
      outer.1,
      outer.2,
      outer.3,
      any-same (λ via. Forwards d dir named outer.1 via × Reaches d named dir uses.Copy at len outer.1) g h d.0 own.pins
          (λ via both. both.0.of_actor) outer.4,
    )

end-same : (s : Setting) (g h : History) (d : DomId) (granted : Bool) (dir : Dir) (at : Spot) (len : ℕ) (named : DomId)
    (owners : DomId × DomId) → SameOwn s g h d
    → EndIsJustified s g d granted dir at len named owners → EndIsJustified s h d granted dir at len named owners
end-same s g h d granted dir at len named owners own (inl e) = inl e
end-same s g h d granted dir at len named owners own (inr (inl e)) =
    inr (inl (e.0, e.1, any-same (Reaches d d dir uses.Copy at len) g h d.0 own.pins (λ p reach. reach.of_actor) e.2))
end-same s g h d granted dir at len named owners own (inr (inr e)) = inr
    (inr (e.0, through-same s g h d dir at len named own e.1, e.2))

copy-same : (s : Setting) (g h : History) (d : DomId) (request : OpenRequest) (from to : Spot) (len : ℕ) → SameOwn s g h d
    → CopyIsJustified s g d request from to len → CopyIsJustified s h d request from to len
copy-same s g h d (Copy c) from to len own just = (
  just.0,
  just.1,
  just.2,
  end-same s g h d _ Read from len _ _ own just.3,
  end-same s g h d _ Write to len _ _ own just.4,
)
copy-same s g h d request from to len own just = absurd just

justified-same : (s : Setting) (g h : History) (d : DomId) (request : OpenRequest) (z : Step) → SameOwn s g h d
    → Justified s g d request z → Justified s h d request z
justified-same s g h d request (call_steps.Read dom frame off len) own just = range-same s g h d request Read _ len own just
justified-same s g h d request (call_steps.Write dom frame off len) own just = range-same s g h d request Write _ len own just
justified-same s g h d request (call_steps.Copy from to len) own just = copy-same s g h d request from to len own just
justified-same s g h d request z own just = just

change-same : (g h : History) (t r : ℕ) (change : EntryChange) → SameEntry g h t r
    → ((body_word : BodyWord) → body_at g t r body_word ≡ body_at h t r body_word) → IsSafeChange g t r change → IsSafeChange h t r change
change-same g h t r (Publish entry) same bodies safe = (
  sym same.entry ∙ safe.0,
  subst (λ w. IsSpelled entry w (body_at h t r body_words.Second)) (bodies body_words.First)
      (subst (λ w. IsSpelled entry (body_at g t r body_words.First) w) (bodies body_words.Second) safe.1),
  sym same.reads ∙ safe.2,
  sym same.writes ∙ safe.3,
)
change-same g h t r changes.Revoke same bodies safe = (sym same.reads ∙ safe.0, sym same.writes ∙ safe.1)
change-same g h t r changes.Demote same bodies safe = sym same.writes ∙ safe
change-same g h t r change same bodies safe = safe

abbrev item : DomId → ItemEvent → Option Answer → Item
item d x a = record { actor = d; happened = x; answer = a }

safe-same : (s : Setting) (g h : History) (d : DomId) (x : ItemEvent) (a : Option Answer) → SameOwn s g h d
    → SameSight s g h d x → IsSafe s g (item d x a) → IsSafe s h (item d x a)
safe-same s g h d (Stepped (Exchange gref looked change) Taken) a own sight safe = change-same g h d.0 gref.0 change
    sight.0 sight.1 safe
safe-same s g h d (Stepped (StoreBody gref body_word word) seen) a own sight safe = sym (own.entries gref.0) ∙ safe
safe-same s g h d x a own sight safe = safe

none-same : (s : Setting) (g h : History) (dom : DomId) (gref : GrantRef) (n : Option LegNow)
    → SameEntry g h dom.0 gref.0 → NoneStands s g dom gref n → NoneStands s h dom gref n
none-same s g h dom gref None same none = absurd none
none-same s g h dom gref (Some n) same none = (
  ap (λ c. first_look n.leg c) (sym (control-same s g h dom.0 gref.0 same)) ∙ none.0,
  sym (before-rule s g h n.leg dom gref same) ∙ none.1,
)

sound-same : (s : Setting) (g h : History) (d : DomId) (request : OpenRequest) (z : Step) (seen : Observation) → SameOwn s g h d
    → SameLook s g h d z → PinIsSound s g d request z seen → PinIsSound s h d request z seen
sound-same s g h d request (call_steps.Pin p) Taken own look sound =
    subst (λ n. NoneStands s h p.dom p.gref n) (leg-same s g h d request own)
    (none-same s g h p.dom p.gref (leg_at s g d request) look sound)
sound-same s g h d request z seen own look sound = sound

-- what a step looks at, if there is one
abbrev LookIf : Setting → History → History → DomId → Option Step → Type 0
LookIf s g h d None = Unit {0}
LookIf s g h d (Some z) = SameLook s g h d z

gives-same : (s : Setting) (g h : History) (d : DomId) (request : OpenRequest) (z : Option Step) (a : Answer)
    → SameOwn s g h d → LookIf s g h d z → GivesValue s g d request z a → GivesValue s h d request z a
gives-same s g h d request z (Denied denial) own look v = tt
gives-same s g h d (Map dom gref flags) (Some (call_steps.Pin p)) (Mapped handle) own look v = v ∙ own.maps
gives-same s g h d (Load handle off len) (Some (call_steps.Read t frame o n)) (Bytes b) own look v = v
    ∙ ap (λ l. take n (drop o (written l))) look
gives-same s g h d (Peek f off len) (Some (call_steps.Read t frame o n)) (Bytes b) own look v = v
    ∙ ap (λ l. take n (drop o (written l))) look
gives-same s g h d (SetupTable frames) None a own look v = v ∙ ap (λ (t : Header). answers.Frames t.frames) own.table
gives-same s g h d (QuerySize dom) (Some (LookHeader t)) a own look v = v
    ∙ ap (λ (x : Header). answers.Size (record { frames = x.frames; max = MAX_TABLE_FRAMES })) look
gives-same s g h d (GetVersion dom) (Some (LookHeader t)) a own look v = v
    ∙ ap (λ (x : Header). answers.Version x.version) look
gives-same s g h d request z a own look v = v

answered-same : (s : Setting) (g h : History) (d : DomId) (request : OpenRequest) (z : Option Step) (giving : Bool)
    (v : Option CallResult) (a : Option Answer) (against : Option Denial)
    → SameOwn s g h d → LookIf s g h d z → AnsweredBy s g d request z giving v a against
    → AnsweredBy s h d request z giving v a against
answered-same s g h d request z giving (Some verdict) (Some answer) against own look is =
    (is.0, is.1, gives-same s g h d request z answer own look is.2)
answered-same s g h d request z giving v a against own look is = is

own-after : (s : Setting) (g h : History) (d : DomId) (x : ItemEvent) (a : Option Answer) → SameOwn s g h d
    → SameSight s g h d x → own_pins (item d x a ∷ g) d.0 ≡ own_pins (item d x a ∷ h) d.0
own-after s g h d x a own sight = own-grows g h (item d x a) d.0 own.pins (pinned-same s g h d x a own.pins sight)

stood-after : (s : Setting) (g h : History) (d : DomId) (x : ItemEvent) (a : Option Answer) → SameOwn s g h d
    → SameSight s g h d x → stood s (item d x a ∷ g) d.0 ≡ stood s (item d x a ∷ h) d.0
stood-after s g h d x a own sight = stood-grows s g h (item d x a) d.0 own.against
    (item-same s g h (item d x a) own sight)

next-same : (s : Setting) (g h : History) (d : DomId) (c : Underway) (seen : Observation) → SameOwn s g h d
    → next_in s g d c seen ≡ next_in s h d c seen
next-same s g h d c seen own = ap (λ k. path k d c.request (values c ++ seen ∷ [])) (known-same s g h d own)

steps-same : (s : Setting) (g h : History) (d : DomId) (z : Step) (seen : Observation) (a : Option Answer)
    (c : Option Underway) → SameOwn s g h d → SameLook s g h d z
    → StepsRightIn s g (item d (Stepped z seen) a) z seen c → StepsRightIn s h (item d (Stepped z seen) a) z seen c
steps-same s g h d z seen a None own look right = absurd right
steps-same s g h d z seen a (Some c) own look right = record {
  continues = subst (λ k. path k d c.request (values c) ≡ Some (actions.Step z)) (known-same s g h d own) right.continues;
  sees = right.sees ∙ seen-same s g h d z look;
  justified = justified-same s g h d c.request z own right.justified;
  safe = safe-same s g h d (Stepped z seen) a own look right.safe;
  sound = sound-same s g h d c.request z seen own look right.sound;
  soon = right.soon;
  left = λ refused. let l = right.left refused in (
    l.0,
    sym (pins-same by_leg (item d (Stepped z seen) a ∷ g) (item d (Stepped z seen) a ∷ h) d.0
        (own-after s g h d (Stepped z seen) a own look)) ∙ l.1,
  );
  answered = subst (λ n. AnsweredBy s h d c.request (Some z) (gives_back n) (verdict_in n) a
      (stood s (item d (Stepped z seen) a ∷ h) d.0)) (next-same s g h d c seen own)
      (subst (λ o. AnsweredBy s h d c.request (Some z) (gives_back (next_in s g d c seen))
      (verdict_in (next_in s g d c seen)) a o) (stood-after s g h d (Stepped z seen) a own look)
      (answered-same s g h d c.request (Some z) (gives_back (next_in s g d c seen))
      (verdict_in (next_in s g d c seen)) a (stood s (item d (Stepped z seen) a ∷ g) d.0) own look right.answered));
}

right-of : (s : Setting) (g h : History) (d : DomId) (x : ItemEvent) (a : Option Answer) → SameOwn s g h d
    → SameSight s g h d x → IsRight s g (item d x a) → IsRight s h (item d x a)
right-of s g h d (Began q) a own sight right = (
  sym own.call ∙ right.0,
  subst (λ k. AnsweredBy s h d (asked q) None false (begun_of k d q) a (stood s (item d (Began q) a ∷ h) d.0))
      (known-same s g h d own)
      (subst (λ o. AnsweredBy s h d (asked q) None false (begun_of (known_at s g d) d q) a o)
      (stood-after s g h d (Began q) a own sight)
      (answered-same s g h d (asked q) None false (begun_of (known_at s g d) d q) a
      (stood s (item d (Began q) a ∷ g) d.0) own tt right.1)),
  λ none. subst (λ t. SpellsItsEntry t q) own.table (right.2 none),
)
right-of s g h d (Stepped z seen) a own sight right =
    subst (λ c. StepsRightIn s h (item d (Stepped z seen) a) z seen c) own.call
    (steps-same s g h d z seen a (open_call g d.0) own sight right)

right-for : (s : Setting) (g h : History) (i : Item) → SameOwn s g h i.actor → SameSight s g h i.actor i.happened
    → IsRight s g i → IsRight s h i
right-for s g h i own sight right = right-of s g h i.actor i.happened i.answer own sight right

-- all that a step looks at, if everything is the same
look-of : (s : Setting) (g h : History) (d : DomId) (z : Step) → SameSeen s g h → SameLook s g h d z
look-of s g h d (LookHeader dom) same = (same.own dom).table
look-of s g h d (LookControl dom gref) same = same.entries dom.0 gref.0
look-of s g h d (LookBody dom gref body_word) same = same.bodies dom.0 gref.0 body_word
look-of s g h d (call_steps.Pin p) same = same.entries p.dom.0 p.gref.0
look-of s g h d (Exchange gref looked change) same = (same.entries d.0 gref.0, λ body_word. same.bodies d.0 gref.0 body_word)
look-of s g h d (call_steps.Read dom frame off len) same = same.patches dom.0 frame
look-of s g h d (call_steps.Copy from to len) same = same.patches from.frame.owner.0 from.frame.number
look-of s g h d z same = tt

sight-of : (s : Setting) (g h : History) (d : DomId) (x : ItemEvent) → SameSeen s g h → SameSight s g h d x
sight-of s g h d (Began q) same = tt
sight-of s g h d (Stepped z seen) same = look-of s g h d z same

pub right-same : (s : Setting) (g h : History) (i : Item) → SameSeen s g h → IsRight s g i → IsRight s h i
right-same s g h i same right = right-for s g h i (same.own i.actor) (sight-of s g h i.actor i.happened same) right

-- one more item

entry-grows : (g h : History) (i : Item) (t r : ℕ) → entry_at g t r ≡ entry_at h t r
    → entry_at (i ∷ g) t r ≡ entry_at (i ∷ h) t r
unfolding entry_at
entry-grows g h i t r same = ap (λ e. changed_entry_of (change_of i t r) e) same

raises-grows : (g h : History) (i : Item) (t r : ℕ) → raises_at g t r ≡ raises_at h t r
    → raises_at (i ∷ g) t r ≡ raises_at (i ∷ h) t r
unfolding raises_at
raises-grows g h i t r same = ap (λ n. n + raise_after (change_of i t r)) same

body-grows : (g h : History) (i : Item) (t r : ℕ) (which : BodyWord) → body_at g t r which ≡ body_at h t r which
    → body_at (i ∷ g) t r which ≡ body_at (i ∷ h) t r which
unfolding body_at
body-grows g h i t r which same = ap (λ w. or_else (cond (i.actor.0 == t) (stored_at i.happened r which) None) w) same

table-grows : (s : Setting) (g h : History) (i : Item) (t : DomId) → table_at s g t ≡ table_at s h t
    → table_at s (i ∷ g) t ≡ table_at s (i ∷ h) t
unfolding table_at
table-grows s g h i t same = ap (λ x. header_or (cond (i.actor.0 == t.0) (header_stored i.happened) None) x) same

maps-grow : (g h : History) (i : Item) (d : ℕ) → maps_answered_at g d ≡ maps_answered_at h d
    → maps_answered_at (i ∷ g) d ≡ maps_answered_at (i ∷ h) d
unfolding maps_answered_at
maps-grow g h i d same = ap (λ n. cond (i.actor.0 == d) (one_if_mapped i.answer) 0 + n) same

call-grows : (g h : History) (i : Item) (d : ℕ) → open_call g d ≡ open_call h d
    → open_call (i ∷ g) d ≡ open_call (i ∷ h) d
unfolding open_call
call-grows g h i d same = ap (λ c. cond (i.actor.0 == d) (underway_after i c) c) same

-- what an item writes
abbrev made : History → Item → Option WriteMade
made h i = written_by i.happened (given_in (open_call h i.actor.0)) (contents_at h)

made-same : (s : Setting) (g h : History) (d : DomId) (x : ItemEvent) → open_call g d.0 ≡ open_call h d.0
    → SameSight s g h d x
    → written_by x (given_in (open_call g d.0)) (contents_at g)
    ≡ written_by x (given_in (open_call h d.0)) (contents_at h)
made-same s g h d (Stepped (call_steps.Write dom frame off len) seen) call sight =
    ap (λ c. Some (record {
      at = record { frame = record { owner = dom; number = frame }; off = off };
      bytes = given_in c;
    })) call
made-same s g h d (Stepped (call_steps.Copy from to len) seen) call sight = ap
    (λ l. Some (record { at = to; bytes = take len (drop from.off (written l)) })) sight
made-same s g h d x call sight = refl

patches-grow : (g h : History) (i : Item) (t f : ℕ) → patches_at g t f ≡ patches_at h t f → made g i ≡ made h i
    → patches_at (i ∷ g) t f ≡ patches_at (i ∷ h) t f
unfolding patches_at
patches-grow g h i t f same new = ap (λ l. l ++ patches_by (made g i) t f) same
    ∙ ap (λ w. patches_at h t f ++ patches_by w t f) new

pub seen-grows : (s : Setting) (g h : History) (i : Item) → SameSeen s g h → SameSeen s (i ∷ g) (i ∷ h)
seen-grows s g h i same =
    let own = same.own i.actor in
    let sight = sight-of s g h i.actor i.happened same in
    record {
      own = λ d. let mine = same.own d in record {
        entries = λ r. entry-grows g h i d.0 r (mine.entries r);
        raises = λ r. raises-grows g h i d.0 r (mine.raises r);
        table = table-grows s g h i d mine.table;
        pins = own-grows g h i d.0 mine.pins (pinned-same s g h i.actor i.happened i.answer own.pins sight);
        maps = maps-grow g h i d.0 mine.maps;
        call = call-grows g h i d.0 mine.call;
        against = stood-grows s g h i d.0 mine.against (item-same s g h i own sight);
      };
      entries = λ t r. let e = same.entries t r in record {
        entry = entry-grows g h i t r e.entry;
        raises = raises-grows g h i t r e.raises;
        reads = count-same t r Read g h i own.pins e.reads;
        writes = count-same t r Write g h i own.pins e.writes;
      };
      bodies = λ t r body_word. body-grows g h i t r body_word (same.bodies t r body_word);
      patches = λ t f. patches-grow g h i t f (same.patches t f) (made-same s g h i.actor i.happened own.call sight);
    }

-- items that change places

other-against : (s : Setting) (i : Item) (h : History) (d : ℕ) → (i.actor.0 == d) ≡ false
    → stood s (i ∷ h) d ≡ stood s h d
unfolding stood
other-against s i h d apart = ap (λ b. cond b (stood_with i.happened (stood s h d) (first_of_item s h i)) (stood s h d))
    apart

-- an item leaves what is another domain's own
other-own : (s : Setting) (i : Item) (h : History) (d : DomId) → (i.actor.0 == d.0) ≡ false → SameOwn s (i ∷ h) h d
other-own s i h d apart = record {
  entries = λ r. other-entry i h d.0 r apart;
  raises = λ r. other-raises i h d.0 r apart;
  table = other-table s i h d apart;
  pins = other-pins with_holder i h d.0 apart;
  maps = other-maps i h d.0 apart;
  call = open_call-other i h d.0 apart;
  against = other-against s i h d.0 apart;
}

own-back : (s : Setting) (g h : History) (d : DomId) → SameOwn s g h d → SameOwn s h g d
own-back s g h d own = record {
  entries = λ r. sym (own.entries r);
  raises = λ r. sym (own.raises r);
  table = sym own.table;
  pins = sym own.pins;
  maps = sym own.maps;
  call = sym own.call;
  against = sym own.against;
}

entry-back : (g h : History) (t r : ℕ) → SameEntry g h t r → SameEntry h g t r
entry-back g h t r same = record {
  entry = sym same.entry;
  raises = sym same.raises;
  reads = sym same.reads;
  writes = sym same.writes;
}

look-back : (s : Setting) (g h : History) (d : DomId) (z : Step) → SameLook s g h d z → SameLook s h g d z
look-back s g h d (LookHeader dom) look = sym look
look-back s g h d (LookControl dom gref) look = entry-back g h dom.0 gref.0 look
look-back s g h d (LookBody dom gref body_word) look = sym look
look-back s g h d (call_steps.Pin p) look = entry-back g h p.dom.0 p.gref.0 look
look-back s g h d (Exchange gref looked change) look = (entry-back g h d.0 gref.0 look.0, λ body_word. sym (look.1 body_word))
look-back s g h d (call_steps.Read dom frame off len) look = sym look
look-back s g h d (call_steps.Copy from to len) look = sym look
look-back s g h d z look = tt

sight-back : (s : Setting) (g h : History) (d : DomId) (x : ItemEvent) → SameSight s g h d x → SameSight s h g d x
sight-back s g h d (Began q) sight = tt
sight-back s g h d (Stepped z seen) sight = look-back s g h d z sight

apart-back : (a b : ℕ) → (a == b) ≡ false → (b == a) ≡ false
apart-back a b apart = grind arith

apart-from : (a b t : ℕ) → (a == b) ≡ false → (a == t) ≡ true → (b == t) ≡ false
apart-from a b t apart own = grind arith

-- what only its own domain changes
owned-swap : {A : Type 0} (O : History → A) (t : ℕ) (i j : Item) (h : History) → (i.actor.0 == j.actor.0) ≡ false
    → ((k : Item) (l : History) → (k.actor.0 == t) ≡ false → O (k ∷ l) ≡ O l)
    → (O (j ∷ h) ≡ O h → O (i ∷ j ∷ h) ≡ O (i ∷ h)) → (O (i ∷ h) ≡ O h → O (j ∷ i ∷ h) ≡ O (j ∷ h))
    → O (j ∷ i ∷ h) ≡ O (i ∷ j ∷ h)
owned-swap {A} O t i j h apart other grow more = by (i.actor.0 == t) refl where
  by : (b : Bool) → (i.actor.0 == t) ≡ b → O (j ∷ i ∷ h) ≡ O (i ∷ j ∷ h)
  by true e = let ja = apart-from i.actor.0 j.actor.0 t apart e in other j (i ∷ h) ja ∙ sym (grow (other j h ja))
  by false e = more (other i h e) ∙ sym (other i (j ∷ h) e)

entry-swap : (i j : Item) (h : History) (t r : ℕ) → (i.actor.0 == j.actor.0) ≡ false
    → entry_at (j ∷ i ∷ h) t r ≡ entry_at (i ∷ j ∷ h) t r
entry-swap i j h t r apart = owned-swap (λ l. entry_at l t r) t i j h apart (λ k l o. other-entry k l t r o)
    (entry-grows (j ∷ h) h i t r) (entry-grows (i ∷ h) h j t r)

raises-swap : (i j : Item) (h : History) (t r : ℕ) → (i.actor.0 == j.actor.0) ≡ false
    → raises_at (j ∷ i ∷ h) t r ≡ raises_at (i ∷ j ∷ h) t r
raises-swap i j h t r apart = owned-swap (λ l. raises_at l t r) t i j h apart (λ k l o. other-raises k l t r o)
    (raises-grows (j ∷ h) h i t r) (raises-grows (i ∷ h) h j t r)

count-swap : (t r : ℕ) (k : Dir) (i j : Item) (h : History) → (i.actor.0 == j.actor.0) ≡ false
    → pins_at (j ∷ i ∷ h) t r k ≡ pins_at (i ∷ j ∷ h) t r k
count-swap t r k i j h apart =
    let a = count-grown t r k (i ∷ h) j in
    let b = count-grown t r k h i in
    let c = count-grown t r k (j ∷ h) i in
    let d = count-grown t r k h j in
    let e = ap (λ xs. goes_with (is_held_on t r k) j.happened xs) (other-pins with_holder i h j.actor.0 apart) in
    let f = ap (λ xs. goes_with (is_held_on t r k) i.happened xs)
    (other-pins with_holder j h i.actor.0 (apart-back i.actor.0 j.actor.0 apart)) in
    omega (arith, a, b, c, d, e, f)

patches-more : (h : History) (i : Item) (t f : ℕ) → patches_at (i ∷ h) t f ≡ patches_at h t f ++ patches_of h i t f
unfolding patches_at
patches-more h i t f = refl

lists-swap : {A : Type 0} (p x y : List A) → (x ≡ []) ⊎ (y ≡ []) → (p ++ x) ++ y ≡ (p ++ y) ++ x
lists-swap p x y (inl e) = subst (λ z. (p ++ z) ++ y ≡ (p ++ y) ++ z) (sym e)
    (ap (λ l. l ++ y) (append-nil p) ∙ sym (append-nil (p ++ y)))
lists-swap p x y (inr e) = subst (λ z. (p ++ x) ++ z ≡ (p ++ z) ++ x) (sym e)
    (append-nil (p ++ x) ∙ ap (λ l. l ++ x) (sym (append-nil p)))

patches-swap : (i j : Item) (h : History) (t f : ℕ) → made (j ∷ h) i ≡ made h i → made (i ∷ h) j ≡ made h j
    → (patches_of h i t f ≡ []) ⊎ (patches_of h j t f ≡ [])
    → patches_at (j ∷ i ∷ h) t f ≡ patches_at (i ∷ j ∷ h) t f
patches-swap i j h t f one other apart =
    patches-more (i ∷ h) j t f
    ∙ ap (λ l. l ++ patches_of (i ∷ h) j t f) (patches-more h i t f)
    ∙ ap (λ w. (patches_at h t f ++ patches_of h i t f) ++ patches_by w t f) other
    ∙ lists-swap (patches_at h t f) (patches_of h i t f) (patches_of h j t f) apart
    ∙ ap (λ w. (patches_at h t f ++ patches_of h j t f) ++ patches_by w t f) (sym one)
    ∙ ap (λ l. l ++ patches_of (j ∷ h) i t f) (sym (patches-more h j t f))
    ∙ sym (patches-more (j ∷ h) i t f)

seen-swapped : (s : Setting) (h : History) (i j : Item) → AreApart s h i j → SameSeen s (j ∷ i ∷ h) (i ∷ j ∷ h)
seen-swapped s h i j apart =
    let mine = other-own s j h i.actor (apart-back i.actor.0 j.actor.0 apart.actors) in
    let theirs = other-own s i h j.actor apart.actors in
    record {
      own = λ d. record {
        entries = λ r. entry-swap i j h d.0 r apart.actors;
        raises = λ r. raises-swap i j h d.0 r apart.actors;
        table = owned-swap (λ l. table_at s l d) d.0 i j h apart.actors (λ k l o. other-table s k l d o)
            (table-grows s (j ∷ h) h i d) (table-grows s (i ∷ h) h j d);
        pins = owned-swap (λ l. own_pins l d.0) d.0 i j h apart.actors (λ k l o. other-pins with_holder k l d.0 o)
            (λ e. own-grows (j ∷ h) h i d.0 e (pinned-same s
            (j ∷ h) h i.actor i.happened i.answer mine.pins apart.first))
            (λ e. own-grows (i ∷ h) h j d.0 e (pinned-same s
            (i ∷ h) h j.actor j.happened j.answer theirs.pins apart.second));
        maps = owned-swap (λ l. maps_answered_at l d.0) d.0 i j h apart.actors (λ k l o. other-maps k l d.0 o)
            (maps-grow (j ∷ h) h i d.0) (maps-grow (i ∷ h) h j d.0);
        call = owned-swap (λ l. open_call l d.0) d.0 i j h apart.actors (λ k l o. open_call-other k l d.0 o)
            (call-grows (j ∷ h) h i d.0) (call-grows (i ∷ h) h j d.0);
        against = owned-swap (λ l. stood s l d.0) d.0 i j h apart.actors (λ k l o. other-against s k l d.0 o)
            (λ e. stood-grows s (j ∷ h) h i d.0 e (item-same s (j ∷ h) h i mine apart.first))
            (λ e. stood-grows s (i ∷ h) h j d.0 e (item-same s (i ∷ h) h j theirs apart.second));
      };
      entries = λ t r. record {
        entry = entry-swap i j h t r apart.actors;
        raises = raises-swap i j h t r apart.actors;
        reads = count-swap t r Read i j h apart.actors;
        writes = count-swap t r Write i j h apart.actors;
      };
      bodies = λ t r body_word. owned-swap (λ l. body_at l t r body_word) t i j h apart.actors
          (λ k l o. other-body k l t r body_word o) (body-grows (j ∷ h) h i t r body_word) (body-grows (i ∷ h) h j t r body_word);
      patches = λ t f. patches-swap i j h t f (made-same s (j ∷ h) h i.actor i.happened mine.call apart.first)
          (made-same s (i ∷ h) h j.actor j.happened theirs.call apart.second) (apart.frames t f);
    }

pub swapped : (s : Setting) (h : History) (i j : Item) → AreApart s h i j → IsRight s h i → IsRight s (i ∷ h) j
    → IsRight s h j × IsRight s (j ∷ h) i × SameSeen s (j ∷ i ∷ h) (i ∷ j ∷ h)
swapped s h i j apart first second = (
  right-for s (i ∷ h) h j (other-own s i h j.actor apart.actors) apart.second second,
  right-for s h (j ∷ h) i (own-back s (j ∷ h) h i.actor (other-own s j h i.actor
      (apart-back i.actor.0 j.actor.0 apart.actors)))
      (sight-back s (j ∷ h) h i.actor i.happened apart.first) first,
  seen-swapped s h i j apart,
)

-- beginnings

-- a beginning changes nothing that a step looks at
began-entry : (h : History) (d : DomId) (q : Request) (a : Option Answer) (t r : ℕ)
    → SameEntry (item d (Began q) a ∷ h) h t r
began-entry h d q a t r = record {
  entry = kept-entry (item d (Began q) a) h t r (λ r. refl);
  raises = kept-raises (item d (Began q) a) h t r (λ r. refl);
  reads = began-count h d q a t r Read;
  writes = began-count h d q a t r Write;
} where
  began-count : (h : History) (d : DomId) (q : Request) (a : Option Answer) (t r : ℕ) (k : Dir)
      → pins_at (item d (Began q) a ∷ h) t r k ≡ pins_at h t r k
  began-count h d q a t r k = let e = count-grown t r k h (item d (Began q) a) in omega (arith, e)

none-patched : (h : History) (d : DomId) (q : Request) (a : Option Answer) (t f : ℕ)
    → patches_at (item d (Began q) a ∷ h) t f ≡ patches_at h t f
none-patched h d q a t f = patches-more h (item d (Began q) a) t f ∙ append-nil (patches_at h t f)

began-look : (s : Setting) (h : History) (d : DomId) (q : Request) (a : Option Answer) (e : DomId) (z : Step)
    → SameLook s (item d (Began q) a ∷ h) h e z
began-look s h d q a e (LookHeader dom) = kept-table s (item d (Began q) a) h dom refl
began-look s h d q a e (LookControl dom gref) = began-entry h d q a dom.0 gref.0
began-look s h d q a e (LookBody dom gref body_word) = unstored (item d (Began q) a) h dom.0 gref.0 body_word refl
began-look s h d q a e (call_steps.Pin p) = began-entry h d q a p.dom.0 p.gref.0
began-look s h d q a e (Exchange gref looked change) = (
  began-entry h d q a e.0 gref.0,
  λ body_word. unstored (item d (Began q) a) h e.0 gref.0 body_word refl,
)
began-look s h d q a e (call_steps.Read dom frame off len) = none-patched h d q a dom.0 frame
began-look s h d q a e (call_steps.Copy from to len) = none-patched h d q a from.frame.owner.0 from.frame.number
began-look s h d q a e z = tt

began-sight : (s : Setting) (h : History) (d : DomId) (q : Request) (a : Option Answer) (e : DomId) (x : ItemEvent)
    → SameSight s (item d (Began q) a ∷ h) h e x
began-sight s h d q a e (Began r) = tt
began-sight s h d q a e (Stepped z seen) = began-look s h d q a e z

apart-began : (s : Setting) (h : History) (d : DomId) (q : Request) (a : Option Answer) (j : Item)
    → (d.0 == j.actor.0) ≡ false → AreApart s h (item d (Began q) a) j
apart-began s h d q a j apart = record {
  actors = apart;
  first = tt;
  second = began-sight s h d q a j.actor j.happened;
  frames = λ t f. inl refl;
}

pub began-apart : (s : Setting) (h : History) (i j : Item) (request : Request) → (i.actor.0 == j.actor.0) ≡ false
    → i.happened ≡ Began request → AreApart s h i j
began-apart s h i j request apart is =
    subst (λ x. AreApart s h (item i.actor x i.answer) j) (sym is) (apart-began s h i.actor request i.answer j apart)

-- events

seen-none : (s : Setting) (h : History) → SameSeen s h h
seen-none s h = record {
  own = λ d. record {
    entries = λ r. refl;
    raises = λ r. refl;
    table = refl;
    pins = refl;
    maps = refl;
    call = refl;
    against = refl;
  };
  entries = λ t r. record { entry = refl; raises = refl; reads = refl; writes = refl };
  bodies = λ t r body_word. refl;
  patches = λ t f. refl;
}

call-may : (s : Setting) (g h : History) (e : Event) (x : Element)
    → open_call g (actor_of e).0 ≡ open_call h (actor_of e).0
    → ((i : Item) → IsItemOf e i → IsRight s g i → IsRight s h i) → MayDo s g e x → MayDo s h e x
call-may s g h (Begin d q) NoDomain call right may = may
call-may s g h (Tick d) NoDomain call right may = may
call-may s g h (Begin d q) Busy call right may = (may.0, subst (λ c. c ≢ None) call may.1)
call-may s g h (Tick d) Idle call right may = (may.0, sym call ∙ may.1)
call-may s g h (Begin d q) (elements.Item i) call right may = (may.0, may.1, right i may.1 may.2)
call-may s g h (Tick d) (elements.Item i) call right may = (may.0, may.1, right i may.1 may.2)
call-may s g h e x call right may = absurd may

-- an event may do the same after histories that look the same, and they look the same after it
pub may-same : (s : Setting) (g h : History) (e : Event) (x : Element) → SameSeen s g h → MayDo s g e x → MayDo s h e x
may-same s g h e x same may = call-may s g h e x (same.own (actor_of e)).call
    (λ i is right. right-same s g h i same right) may

pub grown-same : (s : Setting) (g h : History) (x : Element) → SameSeen s g h → SameSeen s (grown g x) (grown h x)
grown-same s g h (elements.Item i) same = seen-grows s g h i same
grown-same s g h Busy same = same
grown-same s g h Idle same = same
grown-same s g h NoDomain same = same

-- two events that may come in either order
abbrev pub ChangePlaces : Setting → History → Event → Element → Event → Element → Type 0
ChangePlaces s h e x f y = MayDo s h f y × MayDo s (grown h y) e x × SameSeen s (grown (grown h x) y)
    (grown (grown h y) x)

item-actor : (e : Event) (i : Item) → IsItemOf e i → i.actor ≡ actor_of e
item-actor (Begin d q) i is = is.0
item-actor (Tick d) i is = is.0

-- the item of one event is another domain's than that of the other event
items-apart : (e f : Event) (i j : Item) → IsItemOf e i → IsItemOf f j → ((actor_of e).0 == (actor_of f).0) ≡ false
    → (i.actor.0 == j.actor.0) ≡ false
items-apart e f i j one other apart =
    ap (λ (d : DomId). d.0 == j.actor.0) (item-actor e i one)
    ∙ ap (λ (d : DomId). (actor_of e).0 == d.0) (item-actor f j other) ∙ apart

may-item : (s : Setting) (h : History) (e : Event) (i : Item) → MayDo s h e (elements.Item i)
    → (domain_of s.domains (actor_of e) ≢ None) × IsItemOf e i × IsRight s h i
may-item s h (Begin d q) i may = may
may-item s h (Tick d) i may = may

item-may : (s : Setting) (h : History) (e : Event) (i : Item)
    → (domain_of s.domains (actor_of e) ≢ None) × IsItemOf e i × IsRight s h i → MayDo s h e (elements.Item i)
item-may s h (Begin d q) i may = may
item-may s h (Tick d) i may = may

-- an event of another domain changes nothing that an event without an item depends on
idle-may : (s : Setting) (h : History) (i : Item) (f : Event) (y : Element) → (i.actor.0 == (actor_of f).0) ≡ false
    → ((j : Item) → y ≢ elements.Item j) → MayDo s (i ∷ h) f y → MayDo s h f y
idle-may s h i f (elements.Item j) apart none may = absurd (none j refl)
idle-may s h i (Begin d q) NoDomain apart none may = may
idle-may s h i (Tick d) NoDomain apart none may = may
idle-may s h i (Begin d q) Busy apart none may = (may.0, subst (λ c. c ≢ None) (open_call-other i h d.0 apart) may.1)
idle-may s h i (Tick d) Idle apart none may = (may.0, sym (open_call-other i h d.0 apart) ∙ may.1)
idle-may s h i f y apart none may = absurd may

idle-after : (s : Setting) (h : History) (j : Item) (e : Event) (x : Element) → (j.actor.0 == (actor_of e).0) ≡ false
    → ((i : Item) → x ≢ elements.Item i) → MayDo s h e x → MayDo s (j ∷ h) e x
idle-after s h j e (elements.Item i) apart none may = absurd (none i refl)
idle-after s h j (Begin d q) NoDomain apart none may = may
idle-after s h j (Tick d) NoDomain apart none may = may
idle-after s h j (Begin d q) Busy apart none may = (
  may.0,
  subst (λ c. c ≢ None) (sym (open_call-other j h d.0 apart)) may.1,
)
idle-after s h j (Tick d) Idle apart none may = (may.0, open_call-other j h d.0 apart ∙ may.1)
idle-after s h j e x apart none may = absurd may

-- an event without an item, and any of another domain
idle-first : (s : Setting) (h : History) (e f : Event) (x y : Element) → ((actor_of e).0 == (actor_of f).0) ≡ false
    → ((i : Item) → x ≢ elements.Item i) → grown h x ≡ h → ((l : History) → grown l x ≡ l) → MayDo s h e x → MayDo s h f y
    → ChangePlaces s h e x f y
idle-first s h e f x (elements.Item j) apart none same all first second =
    let own = may-item s h f j second in (
      second,
      idle-after s h j e x (apart-back (actor_of e).0 j.actor.0
          (ap (λ (d : DomId). (actor_of e).0 == d.0) (item-actor f j own.1) ∙ apart)) none first,
      subst (λ l. SameSeen s (j ∷ l) (grown (j ∷ h) x)) (sym same)
          (subst (λ l. SameSeen s (j ∷ h) l) (sym (all (j ∷ h))) (seen-none s (j ∷ h))),
    )
idle-first s h e f x Busy apart none same all first second = (second, first, seen-none s (grown h x))
idle-first s h e f x Idle apart none same all first second = (second, first, seen-none s (grown h x))
idle-first s h e f x NoDomain apart none same all first second = (second, first, seen-none s (grown h x))

-- the same the other way round
apart-turned : (s : Setting) (h : History) (i j : Item) → AreApart s h j i → AreApart s h i j
apart-turned s h i j apart = record {
  actors = apart-back j.actor.0 i.actor.0 apart.actors;
  first = apart.second;
  second = apart.first;
  frames = λ t f. turned (apart.frames t f);
} where
  turned : {A B : Type 0} → A ⊎ B → B ⊎ A
  turned (inl a) = inr a
  turned (inr b) = inl b

event-idle : (s : Setting) (h : History) (e : Event) (i : Item) (f : Event) (y : Element)
    → ((actor_of e).0 == (actor_of f).0) ≡ false → MayDo s h e (elements.Item i) → MayDo s (i ∷ h) f y
    → ((j : Item) → y ≢ elements.Item j) → ((l : History) → grown l y ≡ l) → ChangePlaces s h e (elements.Item i) f y
event-idle s h e i f y apart first second none same =
    let own = may-item s h e i first in (
      idle-may s h i f y (ap (λ (c : DomId). c.0 == (actor_of f).0) (item-actor e i own.1) ∙ apart) none second,
      subst (λ l. MayDo s l e (elements.Item i)) (sym (same h)) first,
      subst (λ l. SameSeen s l (i ∷ grown h y)) (sym (same (i ∷ h)))
          (subst (λ l. SameSeen s (i ∷ h) (i ∷ l)) (sym (same h)) (seen-none s (i ∷ h))),
    )

-- an event may come before one of another domain that it comes after, if their items are apart
pub events-first : (s : Setting) (h : History) (e : Event) (x : Element) (f : Event) (y : Element)
    → ((actor_of e).0 == (actor_of f).0) ≡ false
    → ((i j : Item) → x ≡ elements.Item i → y ≡ elements.Item j → (i.actor.0 == j.actor.0) ≡ false → AreApart s h i j)
    → MayDo s h e x → MayDo s (grown h x) f y → ChangePlaces s h e x f y
events-first s h e Busy f y apart items first second = idle-first s h e f Busy y apart (λ i is. absurd (cc)) refl
    (λ l. refl) first second
events-first s h e Idle f y apart items first second = idle-first s h e f Idle y apart (λ i is. absurd (cc)) refl
    (λ l. refl) first second
events-first s h e NoDomain f y apart items first second = idle-first s h e f NoDomain y apart
    (λ i is. absurd (cc)) refl (λ l. refl) first second
events-first s h e (elements.Item i) f (elements.Item j) apart items first second =
    let one = may-item s h e i first in
    let other = may-item s (i ∷ h) f j second in
    let are = items-apart e f i j one.1 other.1 apart in
    let it = swapped s h i j (items i j refl refl are) one.2 other.2 in (
      item-may s h f j (other.0, other.1, it.0),
      item-may s (j ∷ h) e i (one.0, one.1, it.1),
      it.2,
    )
events-first s h e (elements.Item i) f Busy apart items first second = event-idle s h e i f Busy apart first second
    (λ j is. absurd (cc)) (λ l. refl)
events-first s h e (elements.Item i) f NoDomain apart items first second = event-idle s h e i f NoDomain apart first second
    (λ j is. absurd (cc)) (λ l. refl)
events-first s h e (elements.Item i) f Idle apart items first second = event-idle s h e i f Idle apart first second
    (λ j is. absurd (cc)) (λ l. refl)

-- a beginning may come before an event of another domain that it comes after
pub begins-first : (s : Setting) (h : History) (e : Event) (x : Element) (d : DomId) (q : Request) (y : Element)
    → ((actor_of e).0 == d.0) ≡ false → MayDo s h e x → MayDo s (grown h x) (Begin d q) y
    → ChangePlaces s h e x (Begin d q) y
begins-first s h e x d q y apart first second =
    events-first s h e x (Begin d q) y apart (λ i j did-i did-j are. apart-turned s h i j
    (began-apart s h j i q (apart-back i.actor.0 j.actor.0 are) (began y j did-j second))) first second
  where
    began : (z : Element) (j : Item) → z ≡ elements.Item j → MayDo s (grown h x) (Begin d q) z → j.happened ≡ Began q
    began z j is may = (may-item s (grown h x) (Begin d q) j (subst (MayDo s (grown h x) (Begin d q)) is may)).1.1

-- steps that touch nothing in common

cond-none : {A : Type 0} (a b : Bool) (x : Option A) → (a && b) ≡ false → cond a (cond b x None) None ≡ None
cond-none a b x none = grind arith

cond-three : {A : Type 0} (a b c : Bool) (x : Option A) → (a && b) ≡ false → cond a (cond (b && c) x None) None ≡ None
cond-three a b c x none = grind arith

cond-zero : (a b : Bool) → a ≡ false → cond {A = ℕ} (a && b) 1 0 ≡ 0
cond-zero a b none = grind arith

-- an item that changes nothing of an entry
leaves-entry : (h : History) (i : Item) (t r : ℕ) → change_of i t r ≡ None
    → ((k : Dir) → pins_at (i ∷ h) t r k ≡ pins_at h t r k) → SameEntry (i ∷ h) h t r
leaves-entry h i t r none pins = record {
  entry = exchanged-entry h i t r ∙ ap (λ c. changed_entry_of c (entry_at h t r)) none;
  raises = exchanged-raises h i t r ∙ ap (λ c. raises_at h t r + raise_after c) none ∙ omega arith;
  reads = pins Read;
  writes = pins Write;
}

body-left : (h : History) (i : Item) (t r : ℕ) (body_word : BodyWord) → cond (i.actor.0 == t) (stored_at i.happened r body_word) None
    ≡ None → body_at (i ∷ h) t r body_word ≡ body_at h t r body_word
unfolding body_at
body-left h i t r body_word none = ap (λ o. or_else o (body_at h t r body_word)) none

-- what a step elsewhere leaves of an entry
abbrev LeavesWord : History → Item → ℕ → ℕ → Type 0
LeavesWord h i t r = SameEntry (i ∷ h) h t r × ((body_word : BodyWord) → body_at (i ∷ h) t r body_word ≡ body_at h t r body_word)

abbrev made_step : DomId → Step → Observation → Option Answer → Item
made_step d z seen a = item d (Stepped z seen) a

step-count : (h : History) (i : Item) (t r : ℕ) (k : Dir)
    → comes_with (is_held_on t r k) i.happened ≡ 0 → goes_with (is_held_on t r k) i.happened (own_pins h i.actor.0) ≡ 0
    → pins_at (i ∷ h) t r k ≡ pins_at h t r k
step-count h i t r k comes goes = let e = count-grown t r k h i in omega (arith, e, comes, goes)

pin-off : (h : History) (d : DomId) (p : HeldPin) (seen : Observation) (a : Option Answer) (t r : ℕ)
    → ((p.dom.0 == t) && (p.gref.0 == r)) ≡ false → LeavesWord h (made_step d (call_steps.Pin p) seen a) t r
pin-off h d p seen a t r off = (
  leaves-entry h (made_step d (call_steps.Pin p) seen a) t r (changes seen)
      (λ k. step-count h (made_step d (call_steps.Pin p) seen a) t r k (comes seen k) (goes seen k)),
  λ body_word. unstored (made_step d (call_steps.Pin p) seen a) h t r body_word refl,
) where
  changes : (v : Observation) → change_of (made_step d (call_steps.Pin p) v a) t r ≡ None
  changes v = cond-same (d.0 == t) None

  comes : (v : Observation) (k : Dir) → comes_with (is_held_on t r k) (Stepped (call_steps.Pin p) v) ≡ 0
  comes Taken k = cond-zero ((p.dom.0 == t) && (p.gref.0 == r)) (same_dir p.dir k) off
  comes v k = refl

  goes : (v : Observation) (k : Dir)
      → goes_with (is_held_on t r k) (Stepped (call_steps.Pin p) v) (own_pins h d.0) ≡ 0
  goes v k = refl

exchange-off : (h : History) (d : DomId) (gref : GrantRef) (looked : ℕ) (change : EntryChange) (seen : Observation)
    (a : Option Answer) (t r : ℕ) → ((d.0 == t) && (gref.0 == r)) ≡ false
    → LeavesWord h (made_step d (Exchange gref looked change) seen a) t r
exchange-off h d gref looked change seen a t r off = (
  leaves-entry h (made_step d (Exchange gref looked change) seen a) t r (changes seen)
      (λ k. step-count h (made_step d (Exchange gref looked change) seen a) t r k refl refl),
  λ body_word. unstored (made_step d (Exchange gref looked change) seen a) h t r body_word refl,
) where
  changes : (v : Observation) → change_of (made_step d (Exchange gref looked change) v a) t r ≡ None
  changes Taken = cond-none (d.0 == t) (gref.0 == r) (Some change) off
  changes v = cond-same (d.0 == t) None

unpin-off : (h : History) (d : DomId) (p : HeldPin) (holder : PinHolder) (seen : Observation) (a : Option Answer)
    (t r : ℕ) → ReleasesNoPinOn h d (Unpin p holder) t r → LeavesWord h (made_step d (Unpin p holder) seen a) t r
unpin-off h d p holder seen a t r keeps = (
  leaves-entry h (made_step d (Unpin p holder) seen a) t r (cond-same (d.0 == t) None)
      (λ k. ap (λ ps. count_by (is_pin_on t r k) ps) (unpinned-live h d p holder seen a) ∙ keeps k),
  λ body_word. unstored (made_step d (Unpin p holder) seen a) h t r body_word refl,
)

word-left : (h : History) (d : DomId) (z : Step) (seen : Observation) (a : Option Answer) (t r : ℕ)
    → touches_entry d z t r ≡ false → ReleasesNoPinOn h d z t r → LeavesWord h (made_step d z seen a) t r
word-left h d (call_steps.Pin p) seen a t r off keeps = pin-off h d p seen a t r off
word-left h d (Unpin p holder) seen a t r off keeps = unpin-off h d p holder seen a t r keeps
word-left h d (Exchange gref looked change) seen a t r off keeps = exchange-off h d gref looked change seen a t r off
word-left h d (StoreBody gref which w) seen a t r off keeps = (
  leaves-entry h (made_step d (StoreBody gref which w) seen a) t r (cond-same (d.0 == t) None)
      (λ k. step-count h (made_step d (StoreBody gref which w) seen a) t r k refl refl),
  λ body_word. body-left h (made_step d (StoreBody gref which w) seen a) t r body_word
      (cond-three (d.0 == t) (gref.0 == r) (same_body_word which body_word) (Some w) off),
)
word-left h d z seen a t r off keeps = (
  leaves-entry h (made_step d z seen a) t r (cond-same (d.0 == t) None)
      (λ k. step-count h (made_step d z seen a) t r k refl refl),
  λ body_word. unstored (made_step d z seen a) h t r body_word refl,
)

-- a look at a body word changes nothing
look-left : (h : History) (d : DomId) (z : Step) (seen : Observation) (a : Option Answer) (t r : ℕ) → looks_body z ≡ true
    → LeavesWord h (made_step d z seen a) t r
look-left h d (LookBody dom gref which) seen a t r is = (
  leaves-entry h (made_step d (LookBody dom gref which) seen a) t r (cond-same (d.0 == t) None)
      (λ k. step-count h (made_step d (LookBody dom gref which) seen a) t r k refl refl),
  λ body_word. unstored (made_step d (LookBody dom gref which) seen a) h t r body_word refl,
)
look-left h d z seen a t r is = absurd (false≢true is)

-- only a store of a body word changes one
unstored-body : (h : History) (d : DomId) (z : Step) (seen : Observation) (a : Option Answer) (t r : ℕ) (body_word : BodyWord)
    → stores_body z ≡ false → body_at (made_step d z seen a ∷ h) t r body_word ≡ body_at h t r body_word
unstored-body h d (StoreBody gref which w) seen a t r body_word is = absurd (false≢true (sym is))
unstored-body h d z seen a t r body_word is = unstored (made_step d z seen a) h t r body_word refl

elsewhere-body : (h : History) (d : DomId) (z : Step) (seen : Observation) (a : Option Answer) (t r : ℕ) (body_word : BodyWord)
    → touches_entry d z t r ≡ false → body_at (made_step d z seen a ∷ h) t r body_word ≡ body_at h t r body_word
elsewhere-body h d (StoreBody gref which w) seen a t r body_word off =
    body-left h (made_step d (StoreBody gref which w) seen a) t r body_word
    (cond-three (d.0 == t) (gref.0 == r) (same_body_word which body_word) (Some w) off)
elsewhere-body h d z seen a t r body_word off = unstored (made_step d z seen a) h t r body_word refl

plain-leaves : (a b c : Bool) → (a || (b && c)) ≡ true → b ≡ false → a ≡ true
plain-leaves a b c is off = grind arith

body-leaves : (a b : Bool) → (a || (true && not b)) ≡ true → (a ≡ true) ⊎ (b ≡ false)
body-leaves true b is = inl refl
body-leaves false true is = absurd (false≢true is)
body-leaves false false is = inr refl

table-left : (s : Setting) (h : History) (d : DomId) (z : Step) (seen : Observation) (a : Option Answer) (t : DomId)
    → stores_header d z t.0 ≡ false → table_at s (made_step d z seen a ∷ h) t ≡ table_at s h t
table-left s h d (StoreHeader version frames) seen a t off =
    other-table s (made_step d (StoreHeader version frames) seen a) h t off
table-left s h d z seen a t off = kept-table s (made_step d z seen a) h t refl

-- a write elsewhere
cond-empty : (b c : Bool) (x : Patch) → b ≡ false → cond (b && c) (x ∷ []) [] ≡ []
cond-empty b c x off = grind arith

none-written : (h : History) (d : DomId) (z : Step) (seen : Observation) (a : Option Answer) (t f : ℕ)
    → writes_frames z t ≡ false → patches_of h (made_step d z seen a) t f ≡ []
none-written h d (call_steps.Write dom frame off len) seen a t f none = cond-empty (dom.0 == t) (frame == f) _ none
none-written h d (call_steps.Copy from to len) seen a t f none = cond-empty (to.frame.owner.0 == t) (to.frame.number == f) _ none
none-written h d z seen a t f none = refl

bytes-left : (h : History) (d : DomId) (z : Step) (seen : Observation) (a : Option Answer) (t f : ℕ)
    → writes_frames z t ≡ false → patches_at (made_step d z seen a ∷ h) t f ≡ patches_at h t f
bytes-left h d z seen a t f none = patches-more h (made_step d z seen a) t f
    ∙ ap (λ l. patches_at h t f ++ l) (none-written h d z seen a t f none) ∙ append-nil (patches_at h t f)

both-same : (m n : ℕ) → ((m == m) && (n == n)) ≡ true
both-same m n = grind arith

is-same : (m : ℕ) → (m == m) ≡ true
is-same m = grind arith

not-true : (b : Bool) → (b ≡ true → ⊥) → b ≡ false
not-true true none = absurd (none refl)
not-true false none = refl

-- so it looks the same to the step of another domain
step-look : (s : Setting) (h : History) (d : DomId) (y : Step) (v : Observation) (a : Option Answer) (e : DomId) (z : Step)
    → LeavesFor h d y e z → SameLook s (made_step d y v a ∷ h) h e z
step-look s h d y v a e z leaves = by z leaves where
  word : (x : Step) (t r : ℕ) → LeavesFor h d y e x → touches_entry e x t r ≡ true → looks_body x ≡ false
      → LeavesWord h (made_step d y v a) t r
  word x t r l on plain = of (touches_entry d y t r) refl where
    of : (b : Bool) → touches_entry d y t r ≡ b → LeavesWord h (made_step d y v a) t r
    of false off = word-left h d y v a t r off (l.pins t r on plain)
    of true at = look-left h d y v a t r
        (plain-leaves (looks_body y) (looks_body x) (not (stores_body y)) (l.words t r at on) plain)

  body : (dom : DomId) (gref : GrantRef) (which : BodyWord) → LeavesFor h d y e (LookBody dom gref which)
      → body_at (made_step d y v a ∷ h) dom.0 gref.0 which ≡ body_at h dom.0 gref.0 which
  body dom gref which l = of (touches_entry d y dom.0 gref.0) refl where
    of : (b : Bool) → touches_entry d y dom.0 gref.0 ≡ b
        → body_at (made_step d y v a ∷ h) dom.0 gref.0 which ≡ body_at h dom.0 gref.0 which
    of false off = elsewhere-body h d y v a dom.0 gref.0 which off
    of true at = by-kind (body-leaves (looks_body y) (stores_body y) (l.words dom.0 gref.0 at (both-same dom.0 gref.0))) where
      by-kind : (looks_body y ≡ true) ⊎ (stores_body y ≡ false)
          → body_at (made_step d y v a ∷ h) dom.0 gref.0 which ≡ body_at h dom.0 gref.0 which
      by-kind (inl is) = (look-left h d y v a dom.0 gref.0 is).1 which
      by-kind (inr is) = unstored-body h d y v a dom.0 gref.0 which is

  table : (x : Step) (t : DomId) → LeavesFor h d y e x → looks_header x t.0 ≡ true
      → table_at s (made_step d y v a ∷ h) t ≡ table_at s h t
  table x t l on = table-left s h d y v a t (not-true (stores_header d y t.0) (λ yes. l.header t.0 yes on))

  bytes : (x : Step) (t f : ℕ) → LeavesFor h d y e x → reads_frames x t ≡ true
      → patches_at (made_step d y v a ∷ h) t f ≡ patches_at h t f
  bytes x t f l on = bytes-left h d y v a t f (not-true (writes_frames y t) (λ yes. l.bytes t yes on))

  by : (x : Step) → LeavesFor h d y e x → SameLook s (made_step d y v a ∷ h) h e x
  by (LookHeader dom) l = table (LookHeader dom) dom l (is-same dom.0)
  by (LookControl dom gref) l = (word (LookControl dom gref) dom.0 gref.0 l (both-same dom.0 gref.0) refl).0
  by (LookBody dom gref body_word) l = body dom gref body_word l
  by (call_steps.Pin p) l = (word (call_steps.Pin p) p.dom.0 p.gref.0 l (both-same p.dom.0 p.gref.0) refl).0
  by (Exchange gref looked change) l = word (Exchange gref looked change) e.0 gref.0 l (both-same e.0 gref.0) refl
  by (call_steps.Read dom frame off len) l = bytes (call_steps.Read dom frame off len) dom.0 frame l (is-same dom.0)
  by (call_steps.Copy from to len) l = bytes (call_steps.Copy from to len) from.frame.owner.0 from.frame.number l
      (is-same from.frame.owner.0)
  by x l = tt

steps-apart : (s : Setting) (h : History) (d e : DomId) (y z : Step) (v w : Observation) (a b : Option Answer)
    → TouchApart h d y e z → AreApart s h (made_step d y v a) (made_step e z w b)
steps-apart s h d e y z v w a b touch = record {
  actors = touch.actors;
  first = step-look s h e z w b d y touch.second;
  second = step-look s h d y v a e z touch.first;
  frames = λ t f. by t f (writes_frames y t) refl;
} where
  by : (t f : ℕ) (x : Bool) → writes_frames y t ≡ x
      → (patches_of h (made_step d y v a) t f ≡ []) ⊎ (patches_of h (made_step e z w b) t f ≡ [])
  by t f false off = inl (none-written h d y v a t f off)
  by t f true on = inr (none-written h e z w b t f (not-true (writes_frames z t) (λ yes. touch.writes t on yes)))

pub steps-apart-in : (s : Setting) (h : History) (i j : Item) (y z : Step) (v w : Observation)
    → TouchApart h i.actor y j.actor z → i.happened ≡ Stepped y v → j.happened ≡ Stepped z w → AreApart s h i j
steps-apart-in s h i j y z v w touch one other =
    subst (λ x. AreApart s h (item i.actor x i.answer) j) (sym one)
    (subst (λ x. AreApart s h (item i.actor (Stepped y v) i.answer) (item j.actor x j.answer)) (sym other)
    (steps-apart s h i.actor j.actor y z v w i.answer j.answer touch))

-- a pin that a holder releases: it stays the same while other domains go on

-- the domain's step releases this pin, if it releases one
abbrev pub Releases : History → DomId → Step → Type 0
Releases h d (Unpin p holder) = (t r : ℕ) (k : Dir) → count_by (is_pin_on t r k) (live h)
    ≡ cond ((p.dom.0 == t) && (p.gref.0 == r) && same_dir p.dir k) 1 0
    + count_by (is_pin_on t r k) (without d.0 holder (live h))
Releases h d step = Unit {0}

pub releases-still : (h : History) (i : Item) (d : DomId) (z : Step) → (i.actor.0 == d.0) ≡ false → Releases h d z
    → Releases (i ∷ h) d z
releases-still h i d (Unpin p holder) apart releases = λ t r k.
    let was = count-without (is_held_on t r k) d.0 holder (live h) in
    let now = count-without (is_held_on t r k) d.0 holder (live (i ∷ h)) in
    let same = ap (λ own. going (is_held_on t r k) holder own) (other-pins with_holder i h d.0 apart) in
    let this = releases t r k in
    omega (arith, was, now, same, this)
releases-still h i d z apart releases = tt

-- so it releases none elsewhere
pub keeps-elsewhere : (h : History) (d : DomId) (p : HeldPin) (holder : PinHolder) (t r : ℕ)
    → Releases h d (Unpin p holder) → ((p.dom.0 == t) && (p.gref.0 == r)) ≡ false → ReleasesNoPinOn h d (Unpin p holder) t r
keeps-elsewhere h d p holder t r releases off k =
    let this = releases t r k in
    let none = off-count ((p.dom.0 == t) && (p.gref.0 == r)) (same_dir p.dir k) off in
    let same = and-three (p.dom.0 == t) (p.gref.0 == r) (same_dir p.dir k) in
    omega (arith, this, none, same)
  where
    off-count : (a b : Bool) → a ≡ false → cond {A = ℕ} (a && b) 1 0 ≡ 0
    off-count a b off = grind arith

    and-three : (a b c : Bool) → cond {A = ℕ} (a && b && c) 1 0 ≡ cond ((a && b) && c) 1 0
    and-three a b c = grind arith
