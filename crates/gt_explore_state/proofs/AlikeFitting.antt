-- A step that is right fits too after a history that is, but for keys, one that a core stands for.
use Rattle.gt_core.proofs.Words.{◌≡◌, ◌≢◌, ◌<◌, ◌≤◌, ◌+◌, ℕ, refl, Bool, List, [], ◌∷◌, ◌++◌, length, Option, Some}
use Rattle.gt_core.proofs.Words.{None, cond, sym, ap, ◌∙◌, arith, subst, ◌==◌, eqb-true, eq-eqb, none-some, same_Some}
use Rattle.gt_core.proofs.Words.{cond_both, count_by, sum_by-cons, option_map, DomId, Dir, Handle, HeldPin, PinHolder}
use Rattle.gt_core.proofs.Words.{Observation, Taken, Missed, CallResult, Step, Unpin, StoreHeader, Exchange, State, inl}
use Rattle.gt_core.proofs.Words.{inr, state_of, OpenRequest, Release, Unmap, History, Setting, Pin, Underway, live}
use Rattle.gt_core.proofs.Words.{open_call, values, word_at, seen_by, known_at, legs_at, numbered, without}
use Rattle.gt_core.proofs.Words.{generation_at, is_pin_on, mappings_at, mapping_of, gather, by_leg, path, begun}
use Rattle.gt_core.proofs.Words.{after_beginning, CallerKnowledge, OpenAgrees, CallAgrees, IsRight, StepsRightIn}
use Rattle.gt_core.proofs.Words.{StateAgrees, bare_handle, bare_step, AsksKnown, IsRun, AreAlike, raise_of}
use Rattle.gt_core.proofs.Words.{LAST_GENERATION, MAX_PINS, Justified, Load, Store}
use Rattle.gt_model.specs.declared.action.Action.TheVariants as actions
use Rattle.gt_model.specs.declared.action.Step.TheVariants as call_steps
use Rattle.gt_model.specs.declared.request.PinHolder.TheVariants as holders
use Rattle.gt_model.specs.declared.request.OpenRequest.TheVariants.{Probe}
use Rattle.gt_core.proofs.{Phases.makes-same, Steps.See.state-there, Steps.Unpin.loses-leg, Steps.Unpin.loses-mapping}
use Rattle.gt_core.proofs.{Steps.Unpin.Loses, WithoutKeys.bare, WithoutKeys.bared, WithoutKeys.bare-same}
use Rattle.gt_core.proofs.{WithoutKeys.bare_asked, WithoutKeys.bare_call, WithoutKeys.values-bare, Pins.mapping-bare}
use Rattle.gt_core.proofs.{Pins.known-bare, Pins.word-bare, Pins.live-bare, Pins.bare_pin, Pins.bare_pins}
use Rattle.gt_core.proofs.{HandlesGiven.open-known, HandlesGiven.CallKnown, AlikeRuns.bare_action}
use Rattle.gt_model.proofs.Observers.{stepped}
use Rattle.gt_core.specs.GoingOn.{CanBeReached}
use Rattle.gt_core.specs.declared.underway.OpenCall.{OpenCall}
use Rattle.gt_model.specs.declared.trace.ItemEvent.TheVariants.{Stepped}
use Rattle.gt_model.specs.declared.trace.Item.{Item}
use Rattle.gt_model.specs.Path.{by_mapping}
use Rattle.gt_model.specs.Asking.{GivesUp}
use Rattle.gt_explore_state.specs.Shows.{IsInRun, LooksInRun, StepFits}
use Rattle.gt_explore_state.specs.Likeness.{LikeReachedFits}
use Rattle.gt_explore_state.proofs.Showing.{item-is}
use Rattle.gt_explore_state.proofs.Fitting.{looks, fits, own-legs, copy-frames, from-looks, to-looks, of-place}

-- paths without keys

abbrev pub FindsSame : (Handle → Option HeldPin) → (Handle → Option HeldPin) → OpenRequest → Type 0
FindsSame bared found (Unmap a) = bared (bare_handle a) ≡ found a
FindsSame bared found (Release a) = bared (bare_handle a) ≡ found a
FindsSame bared found (Load a off len) = bared (bare_handle a) ≡ found a
FindsSame bared found (Store a off len) = bared (bare_handle a) ≡ found a
FindsSame bared found r = Unit {0}

path-bare : (k : CallerKnowledge) (found : Handle → Option HeldPin) (d : DomId) (r : OpenRequest) (vs : List Observation) → FindsSame found k.mapping r
    → option_map bare_action (path (record k { mapping = found }) d (bare_asked r) vs) ≡ option_map bare_action (path k d r vs)
path-bare k found d (Probe c) vs same = refl
path-bare k found d r vs same = grind arith

pub finds-same : (s : Setting) (h : History) (d : DomId) (r : OpenRequest) → IsRun s h → AsksKnown h d.0 r → FindsSame (mapping_of (mappings_at (bare h) d.0)) (mapping_of (mappings_at h d.0)) r
finds-same s h d r run k = grind (arith, mapping-bare)

pub path-at : (s : Setting) (h : History) (d : DomId) (r : OpenRequest) (vs : List Observation) → IsRun s h → AsksKnown h d.0 r
    → option_map bare_action (path (known_at s (bare h) d) d (bare_asked r) vs) ≡ option_map bare_action (path (known_at s h d) d r vs)
path-at s h d r vs run k = ap (λ (z : CallerKnowledge). option_map bare_action (path z d (bare_asked r) vs)) (known-bare s h d run)
    ∙ path-bare (known_at s h d) (mapping_of (mappings_at (bare h) d.0)) d r vs (finds-same s h d r run k)

-- the step of an open call, without keys
pub step-bare : (s : Setting) (h : History) (d : DomId) (c : Underway) (z : Step) → IsRun s h → open_call h d.0 ≡ Some c → path (known_at s h d) d c.request (values c) ≡ Some (actions.Step z)
    → option_map bare_action (path (known_at s (bare h) d) d (bare_call c).request (values (bare_call c))) ≡ Some (actions.Step (bare_step z))
step-bare s h d c z run call e = ap (λ (vs : List Observation). option_map bare_action (path (known_at s (bare h) d) d (bare_asked c.request) vs)) (values-bare c)
    ∙ path-at s h d c.request (values c) run (subst (CallKnown h d.0) call (open-known s h d.0 run)) ∙ ap (option_map bare_action) e

-- alike runs are about to make the same step
pub same-bare : (s : Setting) (h g : History) (d : DomId) (c o : Underway) (z y : Step) → AreAlike s h g → open_call h d.0 ≡ Some c → open_call g d.0 ≡ Some o → path (known_at s h d) d c.request (values c) ≡ Some (actions.Step z)
    → path (known_at s g d) d o.request (values o) ≡ Some (actions.Step y) → bare_step z ≡ bare_step y
same-bare s h g d c o z y alike here there e f =
    let bares : bare h ≡ bare g = bare-same h g alike.same in
    let calls : bare_call c ≡ bare_call o = same_Some (bare_call c) (bare_call o) (sym ((bared h).open_calls d.0 ∙ ap (option_map bare_call) here) ∙ ap (λ (l : History). open_call l d.0) bares ∙ (bared g).open_calls d.0 ∙ ap (option_map bare_call) there) in
    makes-same (bare_step z) (bare_step y) (same_Some _ _ (sym (step-bare s h d c z alike.first here e)
    ∙ ap (λ (l : History). option_map bare_action (path (known_at s l d) d (bare_call c).request (values (bare_call c)))) bares
    ∙ ap (λ (u : Underway). option_map bare_action (path (known_at s (bare g) d) d u.request (values u))) calls ∙ step-bare s g d o y alike.second there f))

-- counts and words

count-bare : (t r : ℕ) (dir : Dir) (ps : List Pin) → count_by (is_pin_on t r dir) (bare_pins ps) ≡ count_by (is_pin_on t r dir) ps
count-bare t r dir [] = refl
count-bare t r dir (p ∷ ps) = sum_by-cons (λ (q : Pin). cond (is_pin_on t r dir q) 1 0) (bare_pin p) (bare_pins ps)
    ∙ ap (λ (n : ℕ). cond (is_pin_on t r dir p) 1 0 + n) (count-bare t r dir ps)
    ∙ sym (sum_by-cons (λ (q : Pin). cond (is_pin_on t r dir q) 1 0) p ps)

legs-bare : (d : ℕ) (ps : List Pin) → gather by_leg d (bare_pins ps) ≡ gather by_leg d ps
unfolding gather
legs-bare d [] = refl
legs-bare d (p ∷ ps) = grind (arith, legs-bare d ps)

module _ (s : Setting) (h g : History) (alike : AreAlike s h g) where
  bares : bare h ≡ bare g
  bares = bare-same h g alike.same

  same-word : (t r : ℕ) → word_at s g t r ≡ word_at s h t r
  same-word t r = sym (word-bare s g t r alike.second) ∙ ap (λ (l : History). word_at s l t r) (sym bares) ∙ word-bare s h t r alike.first

  pins : bare_pins (live g) ≡ bare_pins (live h)
  pins = sym (live-bare s g alike.second) ∙ ap live (sym bares) ∙ live-bare s h alike.first

  same-count : (t r : ℕ) (dir : Dir) → count_by (is_pin_on t r dir) (live g) ≡ count_by (is_pin_on t r dir) (live h)
  same-count t r dir = sym (count-bare t r dir (live g)) ∙ ap (λ (ps : List Pin). count_by (is_pin_on t r dir) ps) pins ∙ count-bare t r dir (live h)

  same-legs : (d : ℕ) → legs_at g d ≡ legs_at h d
  same-legs d = sym (legs-bare d (live g)) ∙ ap (λ (ps : List Pin). gather by_leg d ps) pins ∙ legs-bare d (live h)

  same-generation : (t r : ℕ) → generation_at s g t r ≡ generation_at s h t r
  same-generation t r = ap (λ (n : ℕ). s.first_generation + n) (sym ((bared g).raises t r)) ∙ ap (λ (l : History). generation_at s l t r) (sym bares) ∙ ap (λ (n : ℕ). s.first_generation + n) ((bared h).raises t r)

-- what fits in words

abbrev WordFits : Setting → History → DomId → Step → Type 0
WordFits s h d (call_steps.Pin p) = word_at s h p.dom.0 p.gref.0 ≡ p.word → count_by (is_pin_on p.dom.0 p.gref.0 p.dir) (live h) < MAX_PINS
WordFits s h d (Exchange gref looked change) = word_at s h d.0 gref.0 ≡ looked → generation_at s h d.0 gref.0 + raise_of change ≤ LAST_GENERATION
WordFits s h d (StoreHeader version frames) = (version < 4) × (frames < 256)
WordFits s h d z = Unit {0}

-- the step gives back a pin of its call, which is the call's last one
abbrev LegFits : History → DomId → Step → Type 0
LegFits h d (Unpin p (holders.Leg n)) = (ps : List HeldPin) × (n ≡ length ps) × (legs_at h d.0 ≡ numbered 0 (ps ++ p ∷ []))
LegFits h d z = Unit {0}

-- both, and it looks at words of the run
record Fits0 (s : Setting) (h : History) (d : DomId) (z : Step) : Type 0 where
  pub words : WordFits s h d z
  pub legs : LegFits h d z
  pub looks : LooksInRun s d z

-- keys make no difference to that

to-bare : (s : Setting) (h : History) (d : DomId) (z : Step) → Fits0 s h d z → Fits0 s h d (bare_step z)
to-bare s h d (Unpin p (holders.Mapping handle)) f = record { words = tt; legs = tt; looks = tt }
to-bare s h d z f = f

from-bare : (s : Setting) (h : History) (d : DomId) (z : Step) → Fits0 s h d (bare_step z) → Fits0 s h d z
from-bare s h d (Unpin p (holders.Mapping handle)) f = record { words = tt; legs = tt; looks = tt }
from-bare s h d z f = f

to-alike : (s : Setting) (h g : History) (alike : AreAlike s h g) (d : DomId) (z : Step) → Fits0 s g d z → Fits0 s h d z
to-alike s h g alike d z f = record { words = words z f.words; legs = legs z f.legs; looks = f.looks } where
  words : (z : Step) → WordFits s g d z → WordFits s h d z
  words (call_steps.Pin p) w = λ is. subst (λ (n : ℕ). n < MAX_PINS) (same-count s h g alike p.dom.0 p.gref.0 p.dir) (w (same-word s h g alike p.dom.0 p.gref.0 ∙ is))
  words (Exchange gref looked change) w = λ is. subst (λ (n : ℕ). n + raise_of change ≤ LAST_GENERATION) (same-generation s h g alike d.0 gref.0) (w (same-word s h g alike d.0 gref.0 ∙ is))
  words (StoreHeader version frames) w = w
  words z w = tt

  legs : (z : Step) → LegFits g d z → LegFits h d z
  legs (Unpin p (holders.Leg n)) l = (l.0, l.1, sym (same-legs s h g alike d.0) ∙ l.2)
  legs (Unpin p (holders.Mapping handle)) l = tt
  legs z l = tt

-- where a core stands

module _ (s : Setting) (g : History) (reached : CanBeReached s g) (x : State) (here : state_of reached.0.domains x.id.0 ≡ Some x) (o : OpenCall) (c : Underway) (a : OpenAgrees s g x.id o c) where
  fit : (z : Step) → o.step ≡ z → Fits0 s g x.id z
  fit z e = record { words = words z e; legs = legs z e; looks = looks s g reached.0.domains x o c reached.1.legal reached.1.domains here a z e } where
    words : (z : Step) → o.step ≡ z → WordFits s g x.id z
    words (call_steps.Pin p) e = λ is. subst (StepFits s g x.id (call_steps.Pin p)) (ap (λ (b : Bool). cond b Taken (Missed (word_at s g p.dom.0 p.gref.0))) (eq-eqb (word_at s g p.dom.0 p.gref.0) p.word is))
        (fits s g reached.0.domains x o c reached.1.legal reached.1.domains here a (call_steps.Pin p) e tt)
    words (Exchange gref looked change) e = λ is. subst (StepFits s g x.id (Exchange gref looked change)) (ap (λ (b : Bool). cond b Taken (Missed (word_at s g x.id.0 gref.0))) (eq-eqb (word_at s g x.id.0 gref.0) looked is))
        (fits s g reached.0.domains x o c reached.1.legal reached.1.domains here a (Exchange gref looked change) e tt)
    words (StoreHeader version frames) e = fits s g reached.0.domains x o c reached.1.legal reached.1.domains here a (StoreHeader version frames) e tt
    words z e = tt

    legs : (z : Step) → o.step ≡ z → LegFits g x.id z
    legs (Unpin p (holders.Leg place)) e = own-legs s g reached.0.domains x o c reached.1.legal reached.1.domains here a p place e
    legs (Unpin p (holders.Mapping handle)) e = tt
    legs z e = tt

-- a mapping that is given up

drop-by : (b : Option CallResult) (m : Option HeldPin) (handle : Handle) (vs : List Observation) (p : HeldPin) (holder : PinHolder) → after_beginning b (by_mapping m (λ q. Unpin q (holders.Mapping handle))) vs ≡ Some (actions.Step (Unpin p holder)) → m ≡ Some p
drop-by b m handle vs p holder e = grind arith

drop-finds : (k : CallerKnowledge) (d : DomId) (r : OpenRequest) (handle : Handle) (vs : List Observation) (p : HeldPin) (holder : PinHolder) → GivesUp r handle → path k d r vs ≡ Some (actions.Step (Unpin p holder)) → k.mapping handle ≡ Some p
drop-finds k d r handle vs p holder (inl is) e = drop-by (begun k d (Unmap handle)) (k.mapping handle) handle vs p holder (subst (λ (q : OpenRequest). path k d q vs ≡ Some (actions.Step (Unpin p holder))) is e)
drop-finds k d r handle vs p holder (inr is) e = drop-by (begun k d (Release handle)) (k.mapping handle) handle vs p holder (subst (λ (q : OpenRequest). path k d q vs ≡ Some (actions.Step (Unpin p holder))) is e)

-- all of it

step-fits : (s : Setting) (h : History) (d : DomId) (c : Underway) (z : Step) → Fits0 s h d z → Justified s h d c.request z → path (known_at s h d) d c.request (values c) ≡ Some (actions.Step z) → StepFits s h d z (seen_by s h d z)
step-fits s h d c (call_steps.Pin p) f j e = let w = word_at s h p.dom.0 p.gref.0 in cond_both (w == p.word) Taken (Missed w) (StepFits s h d (call_steps.Pin p)) (λ is. f.words (eqb-true w p.word is)) (λ is. tt)
step-fits s h d c (Exchange gref looked change) f j e = let w = word_at s h d.0 gref.0 in cond_both (w == looked) Taken (Missed w) (StepFits s h d (Exchange gref looked change)) (λ is. f.words (eqb-true w looked is)) (λ is. tt)
step-fits s h d c (StoreHeader version frames) f j e = f.words
step-fits s h d c (Unpin p (holders.Mapping handle)) f j e = loses-mapping h d handle p (drop-finds (known_at s h d) d c.request handle (values c) p (holders.Mapping handle) j e)
step-fits s h d c (Unpin p (holders.Leg n)) f j e = subst (λ (k : ℕ). Loses p (live h) (without d.0 (holders.Leg k) (live h))) (sym f.legs.1) (loses-leg h d f.legs.0 p f.legs.2)
step-fits s h d c (call_steps.Read dom frame off len) f j e = j.0.1
step-fits s h d c (call_steps.Write dom frame off len) f j e = j.0.1
step-fits s h d c (call_steps.Copy from to len) f j e = copy-frames s h d c.request from to len j
step-fits s h d c z f j e = tt

same-run : (s : Setting) (h g : History) (x : State) (i : Item) (z : Step) (seen : Observation) → AreAlike s h g → (reached : CanBeReached s g) → state_of reached.0.domains x.id.0 ≡ Some x → (u w : Option Underway) → open_call h x.id.0 ≡ u → open_call g x.id.0 ≡ w
    → (o : Option OpenCall) → CallAgrees s g x.id o w → StepsRightIn s h (stepped x.id z seen i.answer) z seen u → LooksInRun s x.id z × StepFits s h x.id z seen
same-run s h g x i z seen alike reached here None w hu gw o a right = absurd right
same-run s h g x i z seen alike reached here (Some c) None hu gw o a right = absurd (none-both (sym ((bared h).open_calls x.id.0 ∙ ap (option_map bare_call) hu) ∙ ap (λ (l : History). open_call l x.id.0) (bare-same h g alike.same) ∙ (bared g).open_calls x.id.0 ∙ ap (option_map bare_call) gw))
  where
    none-both : ◌≡◌ {A = Option Underway} (Some (bare_call c)) None → ⊥
    none-both e = none-some (bare_call c) (sym e)
same-run s h g x i z seen alike reached here (Some c) (Some w) hu gw None a right = absurd a
same-run s h g x i z seen alike reached here (Some c) (Some w) hu gw (Some o) a right =
    let same : bare_step z ≡ bare_step o.step = same-bare s h g x.id c w z o.step alike hu gw right.continues a.follows in
    let f = from-bare s h x.id z (subst (Fits0 s h x.id) (sym same) (to-bare s h x.id o.step (to-alike s h g alike x.id o.step (fit s g reached x here o w a o.step refl)))) in
    (f.looks, subst (StepFits s h x.id z) (sym right.sees) (step-fits s h x.id c z f right.justified right.continues))

like-fits : (s : Setting) (h g : History) (i : Item) (z : Step) (seen : Observation) → AreAlike s h g → CanBeReached s g → IsInRun s i.actor → IsRight s h i → i.happened ≡ Stepped z seen → LooksInRun s i.actor z × StepFits s h i.actor z seen
like-fits s h g i z seen alike reached run right is =
    let st = reached.1.domains in let xs = reached.0.domains in
    let some : state_of xs i.actor.0 ≢ None = λ e. run (subst (StateAgrees s g i.actor) e (st.each i.actor)) in
    let t = state-there s g xs i.actor st some in let x = t.0 in
    let here : state_of xs x.id.0 ≡ Some x = ap (λ (d : DomId). state_of xs d.0) t.2 ∙ t.1 in
    let made : IsRight s h (stepped x.id z seen i.answer) = subst (IsRight s h) (item-is i x.id z seen (sym t.2) is) right in
    subst (λ (d : DomId). LooksInRun s d z × StepFits s h d z seen) t.2
    (same-run s h g x i z seen alike reached here (open_call h x.id.0) (open_call g x.id.0) refl refl x.underway t.3.call made)

pub like-fits-step : LikeReachedFits
like-fits-step s h i at d made step seen (g, alike, reached) right is placed actor same =
    let run : IsInRun s i.actor = subst (IsInRun s) (sym actor) (of-place s.domains at d placed) in
    let f = like-fits s h g i made seen alike reached run right is in (
      record { domain = d; placed = placed; actor = actor; made = made; happened = is; same = same; fits = f.1 },
      from-looks s i.actor step (subst (LooksInRun s i.actor) same (to-looks s i.actor made f.0)),
    )
