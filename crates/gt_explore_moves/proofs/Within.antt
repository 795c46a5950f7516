-- What a domain does along a run touches only what its list, its mappings and its open call name.
use Rattle.std.proofs.Common.{◌≡◌, ℕ, refl, Bool, true, false, cond, List, [], ◌∷◌, ◌++◌, Option, Some, None, sym, ap}
use Rattle.std.proofs.Common.{◌∙◌, subst, ◌≢◌, inl}
use Rattle.std.specs.Prelude.{◌==◌, ◌&&◌, take, drop, suc}
use Rattle.std.proofs.lemmas.Option.{none-some, same_Some}
use Rattle.gt_types.specs.declared.DomId.{DomId}
use Rattle.gt_types.specs.declared.copies.CopyArgs.{CopyArgs}
use Rattle.gt_types.specs.declared.denial.Denial.{Denial}
use Rattle.gt_model.specs.Asking.{FitsAsked, SpellsItsEntry, same_handle, asked}
use Rattle.gt_model.specs.declared.handle.Handle.{Handle}
use Rattle.gt_model.specs.Path.{steps_of}
use Rattle.gt_model.specs.Rules.{begun}
use Rattle.gt_model.specs.declared.action.Action.TheVariants as actions
use Rattle.gt_model.specs.declared.action.CallResult.{CallResult}
use Rattle.gt_model.specs.declared.request.OpenRequest.{OpenRequest}
use Rattle.gt_model.specs.declared.request.OpenRequest.TheVariants.{Copy, Map, Probe}
use Rattle.gt_model.specs.declared.action.Observation.{Observation}
use Rattle.gt_model.specs.declared.action.Observation.TheVariants.{Taken}
use Rattle.gt_model.specs.declared.action.Step.{Step}
use Rattle.gt_model.specs.declared.action.Step.TheVariants.{Unpin}
use Rattle.gt_model.specs.declared.action.Step.TheVariants as call_steps
use Rattle.gt_model.specs.declared.held.HeldPin.{HeldPin}
use Rattle.gt_model.specs.declared.request.PinHolder.{PinHolder}
use Rattle.gt_model.specs.declared.request.Request.{Request}
use Rattle.gt_model.specs.declared.request.Request.TheVariants as requests
use Rattle.gt_model.specs.History.{History, Setting, Pin, Underway, entry_at, gather, holder_after, known_at, live}
use Rattle.gt_model.specs.History.{table_at}
use Rattle.gt_model.specs.History.{mapping_named, mapping_of, mappings_at, open_call, pinned_by, underway_after}
use Rattle.gt_model.specs.History.{unpinned_by, values, without, is_holder}
use Rattle.gt_model.specs.FirstRule.{leg_at, stood}
use Rattle.gt_model.specs.Legal.{AnsweredBy, IsItemOf, IsRight, MayDo, NoneStands, PinIsSound, StepsRight, StepsRightIn}
use Rattle.gt_model.specs.Legal.{actor_of, gives_back, grown, next_in, verdict_in}
use Rattle.gt_model.specs.declared.trace.Answer.{Answer}
use Rattle.gt_model.specs.declared.trace.Answer.TheVariants.{Mapped}
use Rattle.gt_model.specs.declared.trace.Answer.TheVariants as answers
use Rattle.gt_model.specs.declared.trace.Element.{Element}
use Rattle.gt_model.specs.declared.trace.Element.TheVariants.{Busy, Idle, NoDomain}
use Rattle.gt_model.specs.declared.trace.Element.TheVariants as elements
use Rattle.gt_model.specs.declared.trace.Event.{Event}
use Rattle.gt_model.specs.declared.trace.Event.TheVariants.{Begin, Tick}
use Rattle.gt_model.specs.declared.trace.Item.{Item}
use Rattle.gt_model.specs.declared.trace.ItemEvent.{ItemEvent}
use Rattle.gt_model.specs.declared.trace.ItemEvent.TheVariants.{Began, Stepped}
use Rattle.gt_core.proofs.AgreementKept.{open_call-other, open_call-own}
use Rattle.gt_model.proofs.Observers.{gather-append, other-pins}
use Rattle.gt_core.specs.Alike.{AsksKnown, HappensKnown, IsRun}
use Rattle.gt_explore_state.specs.Likeness.{IsLikeReached}
use Rattle.gt_explore_replay.proofs.Alike.{asks_answered, held_grown, held_here, names_grown}
use Rattle.gt_types.specs.Names.{domain_of}
use Rattle.gt_commuting.proofs.Swapping.{Releases}
use Rattle.gt_explore_replay.specs.Abreast.{CanComeNext, history_in}
use Rattle.gt_explore_replay.specs.Courses.{ActionLeads, Course, CourseLeads, OpenLeads, Opened, RestLeads}
use Rattle.gt_explore_replay.specs.Courses.{back_after, calling, course_after, giving, resting}
use Rattle.gt_explore_replay.specs.Orders.{Happening, did, doer, given_up, passed, raised}
use Rattle.gt_explore_replay.proofs.Coming.{IsQuiet, tells, waits}
use Rattle.gt_explore_replay.proofs.Whole.{history_did, history_quiet}
use Rattle.gt_script_runs.specs.Runs.{answer_in}
use Rattle.gt_script.specs.Lists.{RunAction, RunTask}
use Rattle.gt_script.specs.declared.tasks.RunAction.TheVariants.{Await, Do, Tell}
use Rattle.gt_script_lines.specs.declared.calls.ScriptCall.{ScriptCall}
use Rattle.gt_explore_moves.specs.declared.touches.Touch.{Touch}
use Rattle.gt_explore_moves.specs.declared.touches.Touch.TheVariants.{Entry, Raises}
use Rattle.gt_explore_moves.proofs.HandlesAnswered.{after-dom, back-answered, back-dom, but-answered, left-answered}
use Rattle.gt_explore_moves.proofs.HandlesAnswered.{line-answered}
use Rattle.gt_explore_moves.specs.declared.touches.MappingUse.{MappingUse}
use Rattle.gt_explore_moves.specs.Granting.{AllOfScript, IsGranted, IsItemOfScript, IsOfScript}
use Rattle.gt_explore_moves.specs.Scenes.{WasAnsweredAll}
use Rattle.gt_explore_moves.specs.Starting.{held_but}
use Rattle.gt_explore_moves.specs.declared.granted.GrantedEntry.{GrantedEntry}
use Rattle.gt_explore_moves.proofs.GrantingTasks.{said-of-script}
use Rattle.gt_explore_moves.proofs.HeldPins.{IsPlain, IsSound, copy-took, is-sound, pinned-valid, releases-own}
use Rattle.gt_explore_moves.proofs.HeldPins.{valid-granted}
use Rattle.gt_commuting.proofs.PathSteps.{held_along, took-any}
use Rattle.gt_explore_moves.proofs.Touching.{FramesTouch, IsListedLine, PinTouches, PinsBytes, ActionTouches, RequestTouches}
use Rattle.gt_explore_moves.proofs.Touching.{StepFacts, StepTouches, TasksTouch, each-step, path-opened, said-touches}

-- each of these tasks of a domain is listed
abbrev pub TasksListed : List GrantedEntry → DomId → List RunTask → Type 0
TasksListed grants d [] = Unit {0}
TasksListed grants d (t ∷ ts) = IsListedLine grants d t.run_action × TasksListed grants d ts

module _ (A : Touch → Type 0) where
  -- what an item touches is such
  abbrev pub ItemTouches : History → DomId → ItemEvent → Type 0
  ItemTouches h d (Began q) = Unit {0}
  ItemTouches h d (Stepped y seen) = StepTouches A d y × Releases h d y

  -- what the element touches is such
  abbrev pub ElementTouches : History → DomId → Element → Type 0
  ElementTouches h d (elements.Item i) = ItemTouches h d i.happened
  ElementTouches h d x = Unit {0}

  -- what happens touches only such
  abbrev pub HappeningTouches : List Happening → Happening → Type 0
  HappeningTouches hs (did e y) = ElementTouches (history_in hs) (actor_of e) y
  HappeningTouches hs (raised d flag) = A (Raises flag)
  HappeningTouches hs (passed d flag) = Unit {0}

-- runs of the script

module _ (grants : List GrantedEntry) (s : Setting) where
  -- the item is one of the script, and uses only handles that are known to its domain
  pub record ItemSaid (h : History) (i : Item) : Type 0 where
    pub said : IsItemOfScript s grants i
    pub known : HappensKnown h i

  abbrev pub ElementSaid : History → Element → Type 0
  ElementSaid h (elements.Item i) = ItemSaid h i
  ElementSaid h x = Unit {0}

  abbrev pub HappeningSaid : List Happening → Happening → Type 0
  HappeningSaid hs (did e y) = ElementSaid (history_in hs) y
  HappeningSaid hs (raised d flag) = Unit {0}
  HappeningSaid hs (passed d flag) = Unit {0}

  -- the history is a run of items of the script
  pub record Grew (h : History) : Type 0 where
    pub run : IsRun s h
    pub asked : AllOfScript s grants h

  element-right : (h : History) (e : Event) (i : Item) → MayDo s h e (elements.Item i) → IsRight s h i
  element-right h (Begin d q) i may = may.2
  element-right h (Tick d) i may = may.2

  element-grew : (h : History) (e : Event) (y : Element) → MayDo s h e y → ElementSaid h y → Grew h → Grew (grown h y)
  unfolding IsRun
  element-grew h e (elements.Item i) may said grew = record {
    run = (element-right h e i may, said.known, grew.run);
    asked = (said.said, grew.asked);
  }
  element-grew h e Busy may said grew = grew
  element-grew h e Idle may said grew = grew
  element-grew h e NoDomain may said grew = grew

  pub happening-grew : (hs : List Happening) (x : Happening) → CanComeNext s hs x → HappeningSaid hs x
      → Grew (history_in hs) → Grew (history_in (hs ++ x ∷ []))
  happening-grew hs (did e y) may said grew =
      subst Grew (sym (history_did hs e y)) (element-grew (history_in hs) e y may said grew)
  happening-grew hs (raised d flag) may said grew =
      subst Grew (sym (history_quiet hs (raised d flag) (tells d flag))) grew
  happening-grew hs (passed d flag) may said grew =
      subst Grew (sym (history_quiet hs (passed d flag) (waits d flag))) grew

  pub grew-sound : IsLikeReached s [] → (h : History) → Grew h → IsSound grants s h
  grew-sound start h grew = (is-sound grants s h start grew.run grew.asked).sound

  -- a call that a domain begins
  begins-said : (h : History) (d : DomId) (q : Request) (e : Element) → MayDo s h (Begin d q) e
      → AsksKnown h d.0 (asked q) → FitsAsked (asked q)
      → (SpellsItsEntry (table_at s h d) q → IsOfScript grants d (asked q)) → ElementSaid h e
  begins-said h d q (elements.Item i) may known fits of = subst (ItemSaid h) (sym same) (record {
    said = record {
      in_run = may.0;
      fits = fits;
      begins = λ opens. of ((subst (IsRight s h) same may.2).2 opens);
    };
    known = known;
  }) where
    same : i ≡ (record { actor = d; happened = Began q; answer = i.answer })
    same = ap (λ (z : DomId). record { actor = z; happened = i.happened; answer = i.answer }) may.1.0
        ∙ ap (λ (z : ItemEvent). record { actor = d; happened = z; answer = i.answer }) may.1.1
  begins-said h d q Busy may known fits of = tt
  begins-said h d q Idle may known fits of = tt
  begins-said h d q NoDomain may known fits of = tt

  -- a step of an open call
  ticks-said : (h : History) (d : DomId) (e : Element) → MayDo s h (Tick d) e → ElementSaid h e
  ticks-said h d (elements.Item i) may = by i.happened refl may.1 where
    by : (x : ItemEvent) → i.happened ≡ x → IsItemOf (Tick d) (record i { happened = x }) → ItemSaid h i
    by (Began q) is of = absurd of.1
    by (Stepped z seen) is of = subst (λ (x : ItemEvent). ItemSaid h (record i { happened = x })) (sym is) (record {
      said = record {
        in_run = subst (λ (a : DomId). domain_of s.domains a ≢ None) (sym of.0) may.0;
        fits = tt;
        begins = tt;
      };
      known = tt;
    })
  ticks-said h d Busy may = tt
  ticks-said h d Idle may = tt
  ticks-said h d NoDomain may = tt

  line-said : (types : List (List ℕ)) (hs : List Happening) (k j : Course) (line : ℕ) (left : List RunTask)
      (run_action : RunAction) (x : Happening) → ActionLeads types k line left run_action x j → CanComeNext s hs x
      → IsListedLine grants k.dom run_action → WasAnsweredAll (history_in hs) k → HappeningSaid hs x
  line-said types hs k j line left (Tell flag) x leads may listed was = subst (HappeningSaid hs) (sym leads.0) tt
  line-said types hs k j line left (Await flag) x leads may listed was = subst (HappeningSaid hs) (sym leads.0) tt
  line-said types hs k j line left (Do call) x (q, e, says, is, to) may listed was =
      subst (HappeningSaid hs) (sym is) (begins-said (history_in hs) k.dom q e (subst (CanComeNext s hs) is may)
      (asks_answered (history_in hs) k.named k.dom call q was.named says) (listed.fits k.named k.dom q says)
      (said-of-script grants (table_at s (history_in hs) k.dom) k.named k.dom call q says listed.lists))

  rest-said : (types : List (List ℕ)) (hs : List Happening) (k j : Course) (tasks : List RunTask) (choice : ℕ)
      (x : Happening) → RestLeads types k tasks choice x j → CanComeNext s hs x → TasksListed grants k.dom tasks
      → WasAnsweredAll (history_in hs) k → HappeningSaid hs x
  rest-said types hs k j [] choice x (handle, e, there, is, to) may listed was =
      subst (HappeningSaid hs) (sym is) (begins-said (history_in hs) k.dom (requests.Release handle) e
      (subst (CanComeNext s hs) is may) (inl (held_here (history_in hs) k.dom.0 choice k.held handle there was.held)) tt
      (λ spells. tt))
  rest-said types hs k j (t ∷ ts) choice x leads may listed was =
      line-said types hs k j t.line ts t.run_action x leads.1 may listed.0 was

  -- what a domain does is of the script
  pub course-said : (types : List (List ℕ)) (hs : List Happening) (k j : Course) (choice : ℕ) (x : Happening)
      → CourseLeads types k choice x j → CanComeNext s hs x → TasksListed grants k.dom k.tasks
      → WasAnsweredAll (history_in hs) k → HappeningSaid hs x
  course-said types hs k j choice x leads may listed was = by k.opened leads where
    by : (opened : Opened) → OpenLeads types k opened choice x j → HappeningSaid hs x
    by resting l = rest-said types hs k j k.tasks choice x l may listed was
    by (calling line call lost) (none, e, is, to) = subst (HappeningSaid hs) (sym is)
        (ticks-said (history_in hs) k.dom e (subst (CanComeNext s hs) is may))
    by giving (none, e, is, to) = subst (HappeningSaid hs) (sym is)
        (ticks-said (history_in hs) k.dom e (subst (CanComeNext s hs) is may))

-- handles that were answered

-- what is known to a course stays so
grown-answered : (h : History) (y : Element) (k : Course) → WasAnsweredAll h k → WasAnsweredAll (grown h y) k
grown-answered h y k was = record {
  named = names_grown h y k.named was.named;
  held = held_grown h y k.dom.0 k.held was.held;
}

pub others-answered : (hs : List Happening) (x : Happening) (k : Course) → WasAnsweredAll (history_in hs) k
    → WasAnsweredAll (history_in (hs ++ x ∷ [])) k
others-answered hs (did e y) k was =
    subst (λ h. WasAnsweredAll h k) (sym (history_did hs e y)) (grown-answered (history_in hs) y k was)
others-answered hs (raised d flag) k was =
    subst (λ h. WasAnsweredAll h k) (sym (history_quiet hs (raised d flag) (tells d flag))) was
others-answered hs (passed d flag) k was =
    subst (λ h. WasAnsweredAll h k) (sym (history_quiet hs (passed d flag) (waits d flag))) was

-- after an event of the course's own domain
line-then : (types : List (List ℕ)) (line : ℕ) (call : ScriptCall) (lost : Option Handle) (h : History) (k : Course)
    (y : Element) → ((i : Item) → y ≡ elements.Item i → i.actor ≡ k.dom) → WasAnsweredAll h k
    → WasAnsweredAll (grown h y) (course_after types line call lost k (answer_in y))
line-then types line call lost h k (elements.Item i) own was =
    line-answered types line call lost h k i i.answer was (own i refl) refl
line-then types line call lost h k Busy own was = record { named = was.named; held = was.held }
line-then types line call lost h k Idle own was = record { named = was.named; held = was.held }
line-then types line call lost h k NoDomain own was = record { named = was.named; held = was.held }

back-then : (h : History) (k : Course) (y : Element) → WasAnsweredAll h k
    → WasAnsweredAll (grown h y) (back_after k (answer_in y))
back-then h k (elements.Item i) was = back-answered h k i i.answer was
back-then h k Busy was = record { named = was.named; held = was.held }
back-then h k Idle was = record { named = was.named; held = was.held }
back-then h k NoDomain was = record { named = was.named; held = was.held }

module _ (s : Setting) (hs : List Happening) (k j : Course) (was : WasAnsweredAll (history_in hs) k) where
  own-begins : (h : History) (q : Request) (y : Element) → MayDo s h (Begin k.dom q) y → (i : Item)
      → y ≡ elements.Item i → i.actor ≡ k.dom
  own-begins h q y may i is = (subst (MayDo s h (Begin k.dom q)) is may).1.0

  own-ticks : (h : History) (y : Element) → MayDo s h (Tick k.dom) y → (i : Item) → y ≡ elements.Item i
      → i.actor ≡ k.dom
  own-ticks h y may i is = (subst (MayDo s h (Tick k.dom)) is may).1.0

  -- by this event the course comes to that one
  comes-to : (x : Happening) (e : Event) (y : Element) (l : Course) → x ≡ did e y → j ≡ l
      → WasAnsweredAll (grown (history_in hs) y) l → WasAnsweredAll (history_in (hs ++ x ∷ [])) j
  comes-to x e y l is to all = subst (λ z. WasAnsweredAll (history_in (hs ++ z ∷ [])) j) (sym is)
      (subst (λ h. WasAnsweredAll h j) (sym (history_did hs e y))
      (subst (WasAnsweredAll (grown (history_in hs) y)) (sym to) all))

  line-comes : (types : List (List ℕ)) (line : ℕ) (left : List RunTask) (run_action : RunAction) (x : Happening)
      → ActionLeads types k line left run_action x j → CanComeNext s hs x → WasAnsweredAll (history_in (hs ++ x ∷ [])) j
  line-comes types line left (Tell flag) x leads may = subst (WasAnsweredAll (history_in (hs ++ x ∷ []))) (sym leads.1)
      (others-answered hs x (record k { tasks = left }) (left-answered (history_in hs) k left was))
  line-comes types line left (Await flag) x leads may = subst (WasAnsweredAll (history_in (hs ++ x ∷ []))) (sym leads.1)
      (others-answered hs x (record k { tasks = left }) (left-answered (history_in hs) k left was))
  line-comes types line left (Do call) x (q, e, says, is, to) may = comes-to x (Begin k.dom q) e _ is to
      (line-then types line call (given_up q) (history_in hs) (record k { tasks = left }) e
      (own-begins (history_in hs) q e (subst (CanComeNext s hs) is may))
      (left-answered (history_in hs) k left was))

  rest-comes : (types : List (List ℕ)) (tasks : List RunTask) (choice : ℕ) (x : Happening)
      → RestLeads types k tasks choice x j → CanComeNext s hs x → WasAnsweredAll (history_in (hs ++ x ∷ [])) j
  rest-comes types [] choice x (handle, e, there, is, to) may = comes-to x (Begin k.dom (requests.Release handle)) e _ is to
      (back-then (history_in hs) (held_but k choice) e (but-answered (history_in hs) k choice was))
  rest-comes types (t ∷ ts) choice x leads may = line-comes types t.line ts t.run_action x leads.1 may

  -- where a course goes on, its handles were answered
  pub course-answered : (types : List (List ℕ)) (choice : ℕ) (x : Happening) → CourseLeads types k choice x j
      → CanComeNext s hs x → WasAnsweredAll (history_in (hs ++ x ∷ [])) j
  course-answered types choice x leads may = by k.opened leads where
    by : (opened : Opened) → OpenLeads types k opened choice x j → WasAnsweredAll (history_in (hs ++ x ∷ [])) j
    by resting l = rest-comes types k.tasks choice x l may
    by (calling line call lost) (none, e, is, to) = comes-to x (Tick k.dom) e _ is to
        (line-then types line call lost (history_in hs) k e
        (own-ticks (history_in hs) e (subst (CanComeNext s hs) is may)) was)
    by giving (none, e, is, to) = comes-to x (Tick k.dom) e _ is to (back-then (history_in hs) k e was)

-- what a domain has still to do after a call of a line, or a release, began or continued

pub after-tasks : (types : List (List ℕ)) (line : ℕ) (call : ScriptCall) (lost : Option Handle) (k : Course)
    (answer : Option Answer) → (course_after types line call lost k answer).tasks ≡ k.tasks
after-tasks types line call lost k None = refl
after-tasks types line call lost k (Some answer) = refl

pub back-tasks : (k : Course) (answer : Option Answer) → (back_after k answer).tasks ≡ k.tasks
back-tasks k None = refl
back-tasks k (Some answer) = refl

module _ (A : Touch → Type 0) (grants : List GrantedEntry) (uses : MappingUse) where
  -- the pins of these mappings are on such entries
  abbrev pub PinsTouch : List (Handle × HeldPin) → Type 0
  PinsTouch [] = Unit {0}
  PinsTouch (m ∷ ms) = PinTouches A uses m.1 × PinsTouch ms

  pins-both : (xs ys : List (Handle × HeldPin)) → PinsTouch xs → PinsTouch ys → PinsTouch (xs ++ ys)
  pins-both [] ys one other = other
  pins-both (x ∷ xs) ys one other = (one.0, pins-both xs ys one.1 other)

  pins-left : (xs ys : List (Handle × HeldPin)) → PinsTouch (xs ++ ys) → PinsTouch xs
  pins-left [] ys all = tt
  pins-left (x ∷ xs) ys all = (all.0, pins-left xs ys all.1)

  pins-right : (xs ys : List (Handle × HeldPin)) → PinsTouch (xs ++ ys) → PinsTouch ys
  pins-right [] ys all = all
  pins-right (x ∷ xs) ys all = pins-right xs ys all.1

  pins-found : (ms : List (Handle × HeldPin)) (handle : Handle) (p : HeldPin) → PinsTouch ms
      → mapping_of ms handle ≡ Some p → PinTouches A uses p
  pins-found [] handle p all e = absurd (none-some p e)
  pins-found (m ∷ ms) handle p all e = by (same_handle m.0 handle) e (λ f. pins-found ms handle p all.1 f) where
    by : (b : Bool) → cond b (Some m.1) (mapping_of ms handle) ≡ Some p
        → (mapping_of ms handle ≡ Some p → PinTouches A uses p) → PinTouches A uses p
    by true f rest = subst (PinTouches A uses) (same_Some m.1 p f) all.0
    by false f rest = rest f

  gather-cons : (d : ℕ) (p : Pin) (ps : List Pin) → gather mapping_named d (p ∷ ps)
      ≡ cond (p.actor == d) (mapping_named p.holder p.held) [] ++ gather mapping_named d ps
  unfolding gather
  gather-cons d p ps = refl

  gather-none : (d : ℕ) → gather mapping_named d [] ≡ []
  unfolding gather
  gather-none d = refl

  pins-less : (d actor : ℕ) (holder : PinHolder) (ps : List Pin) → PinsTouch (gather mapping_named d ps)
      → PinsTouch (gather mapping_named d (without actor holder ps))
  unfolding without
  pins-less d actor holder [] all = all
  pins-less d actor holder (p ∷ ps) all =
      by ((p.actor == actor) && is_holder p.holder holder) (pins-less d actor holder ps later)
    where
      front : List (Handle × HeldPin)
      front = cond (p.actor == d) (mapping_named p.holder p.held) []

      whole : PinsTouch (cond (p.actor == d) (mapping_named p.holder p.held) [] ++ gather mapping_named d ps)
      whole = subst PinsTouch (gather-cons d p ps) all

      later : PinsTouch (gather mapping_named d ps)
      later = pins-right (cond (p.actor == d) (mapping_named p.holder p.held) []) (gather mapping_named d ps) whole

      by : (b : Bool) → PinsTouch (gather mapping_named d (without actor holder ps))
          → PinsTouch (gather mapping_named d (cond b ps (p ∷ without actor holder ps)))
      by true rest = later
      by false rest = subst PinsTouch (sym (gather-cons d p (without actor holder ps)))
          (pins-both (cond (p.actor == d) (mapping_named p.holder p.held) []) (gather mapping_named d
          (without actor holder ps))
          (pins-left (cond (p.actor == d) (mapping_named p.holder p.held) []) (gather mapping_named d ps) whole) rest)

  pins-unpinned : (d : ℕ) (actor : DomId) (x : ItemEvent) (ps : List Pin) → PinsTouch (gather mapping_named d ps)
      → PinsTouch (gather mapping_named d (unpinned_by actor x ps))
  pins-unpinned d actor (Stepped (Unpin p holder) seen) ps all = pins-less d actor.0 holder ps all
  pins-unpinned d actor x ps all = all

  -- what a pin that becomes a mapping may touch is such, and the entry as it is may be granted
  record BecomesMapping (h : History) (p : HeldPin) : Type 0 where
    pub on : A (Entry p.dom p.gref)
    pub frames : FramesTouch A grants uses p.dom p.gref
    pub granted : IsGranted grants p.dom.0 p.gref.0 (entry_at h p.dom.0 p.gref.0)

  -- if an event takes a pin for a mapping, it is such
  abbrev PinnedTouches : History → ItemEvent → Option Answer → Type 0
  PinnedTouches h (Stepped (call_steps.Pin p) Taken) answer =
      (handle : Handle) → answer ≡ Some (Mapped handle) → BecomesMapping h p
  PinnedTouches h x answer = Unit {0}

  named-touches : (h : History) (p : HeldPin) (answer : Option Answer) (n : ℕ)
      → ((handle : Handle) → answer ≡ Some (Mapped handle) → BecomesMapping h p)
      → PinsTouch (mapping_named (holder_after answer n) (record p { entry = entry_at h p.dom.0 p.gref.0 }))
  named-touches h p (Some (Mapped handle)) n touch =
      let it = touch handle refl in
      let frames = it.frames (entry_at h p.dom.0 p.gref.0) it.granted in
      ((it.on, frames.0, frames.1), tt)
  named-touches h p answer n touch = tt

  pin-touches : (d : ℕ) (x : Pin) → PinsTouch (mapping_named x.holder x.held)
      → PinsTouch (gather mapping_named d (x ∷ []))
  pin-touches d x touch = subst PinsTouch (sym (gather-cons d x []))
      (pins-both (cond (x.actor == d) (mapping_named x.holder x.held) []) (gather mapping_named d []) (by
      (x.actor == d))
      (subst PinsTouch (sym (gather-none d)) tt))
    where
      by : (b : Bool) → PinsTouch (cond b (mapping_named x.holder x.held) [])
      by true = touch
      by false = tt

  pins-pinned : (d : ℕ) (actor : DomId) (x : ItemEvent) (answer : Option Answer) (h : History) (ps : List Pin)
      → PinnedTouches h x answer → PinsTouch (gather mapping_named d (pinned_by actor x answer h ps))
  pins-pinned d actor (Stepped (call_steps.Pin p) Taken) answer h ps touch =
      pin-touches d _ (named-touches h p answer _ touch)
  pins-pinned d actor x answer h ps touch = subst PinsTouch (sym (gather-none d)) tt

  live-cons : (i : Item) (h : History)
      → live (i ∷ h) ≡ unpinned_by i.actor i.happened (live h) ++ pinned_by i.actor i.happened i.answer h (live h)
  unfolding live
  live-cons i h = refl

  pins-after : (i : Item) (h : History) (d : ℕ) → PinnedTouches h i.happened i.answer → PinsTouch (mappings_at h d)
      → PinsTouch (mappings_at (i ∷ h) d)
  pins-after i h d touch all = subst PinsTouch (sym (ap (gather mapping_named d) (live-cons i h)
      ∙ gather-append mapping_named d (unpinned_by i.actor i.happened (live h))
      (pinned_by i.actor i.happened i.answer h (live h))))
      (pins-both (gather mapping_named d (unpinned_by i.actor i.happened (live h)))
      (gather mapping_named d (pinned_by i.actor i.happened i.answer h (live h)))
      (pins-unpinned d i.actor i.happened (live h) all)
      (pins-pinned d i.actor i.happened i.answer h (live h) touch))

  -- what the open call may touch, if there is one, is such
  abbrev pub CallWithin : DomId → Option Underway → Type 0
  CallWithin d None = Unit {0}
  CallWithin d (Some c) = RequestTouches A grants uses d c.request

  -- what a domain has mapped and what it has open by the history touch only such
  pub record HistoryWithin (h : History) (d : DomId) : Type 0 where
    pub maps : PinsTouch (mappings_at h d.0)
    pub call : CallWithin d (open_call h d.0)

  other-within : (i : Item) (h : History) (d : DomId) → (i.actor.0 == d.0) ≡ false → HistoryWithin h d
      → HistoryWithin (i ∷ h) d
  other-within i h d apart w = record {
    maps = subst PinsTouch (sym (other-pins mapping_named i h d.0 apart)) w.maps;
    call = subst (CallWithin d) (sym (open_call-other i h d.0 apart)) w.call;
  }

  abbrev item : DomId → ItemEvent → Option Answer → Item
  item d x a = record { actor = d; happened = x; answer = a }

  began-within : (h : History) (d : DomId) (q : Request) (a : Option Answer) → RequestTouches A grants uses d (asked q)
      → HistoryWithin h d → HistoryWithin (item d (Began q) a ∷ h) d
  began-within h d q a touch w = record {
    maps = pins-after (item d (Began q) a) h d.0 tt w.maps;
    call = subst (CallWithin d) (sym (open_call-own (item d (Began q) a) h)) (by a);
  } where
    by : (b : Option Answer) → CallWithin d (underway_after (item d (Began q) b) (open_call h d.0))
    by None = touch
    by (Some answer) = tt

  copy-unmapped : (s : Setting) (h : History) (d : DomId) (c : CopyArgs) (z : Step) (gives : Bool)
      (verdict : Option CallResult) (against : Option Denial) (handle : Handle)
      → AnsweredBy s h d (Copy c) (Some z) gives verdict (Some (Mapped handle)) against → ⊥
  copy-unmapped s h d c z gives None against handle by = by
  copy-unmapped s h d c z gives (Some verdict) against handle by =
      let never : Mapped handle ≡ answers.Done = by.2 in absurd (cc)

  -- a step of a call touches only such
  module _ (s : Setting) (h : History) (d : DomId) (y : Step) (seen : Observation) (a : Option Answer) (c : Underway)
      (is : open_call h d.0 ≡ Some c) (right : StepsRight s h (item d (Stepped y seen) a) y seen c)
      (w : HistoryWithin h d) (sound : IsSound grants s h) where
    touches : RequestTouches A grants uses d c.request
    touches = subst (CallWithin d) is w.call

    opened : (begun (known_at s h d) d c.request ≡ None)
        × (steps_of (known_at s h d) d c.request (values c) ≡ Some (actions.Step y))
    opened = path-opened (known_at s h d) d c.request (values c) y right.continues

    mapped : (handle : Handle) (p : HeldPin) → (known_at s h d).mapping handle ≡ Some p → PinTouches A uses p
    mapped handle p found = pins-found (mappings_at h d.0) handle p w.maps found

    abbrev Does : OpenRequest → Type 0
    Does r = StepTouches A d y × PinnedTouches h (Stepped y seen) a

    -- what a pin is used for, if it becomes a mapping
    pinned : (r : OpenRequest) (z : Step) (v : Observation) → c.request ≡ r → y ≡ z → seen ≡ v → StepTouches A d z
        → PinsBytes A grants uses r z
        → StepFacts (known_at s h d) r (held_along (steps_of (known_at s h d) d r) [] (values c)) z
        → PinnedTouches h (Stepped z v) a
    pinned (Map dom gref flags) (call_steps.Pin p) Taken same step took touch bytes f = λ handle answer. record {
      on = touch;
      frames = bytes;
      granted = valid-granted grants p.dom.0 p.gref.0 (entry_at h p.dom.0 p.gref.0)
          (pinned-valid s h p _ none) (sound.entries p.dom.0 p.gref.0);
    } where
      none : NoneStands s h p.dom p.gref (leg_at s h d c.request)
      none = subst (λ (x : Observation). PinIsSound s h d c.request (call_steps.Pin p) x) took
          (subst (λ (x : Step). PinIsSound s h d c.request x seen) step right.sound)
    pinned (Copy x) (call_steps.Pin p) Taken same step took touch bytes f = λ handle answer. absurd
        (copy-unmapped s h d x y (gives_back (next_in s h d c seen)) (verdict_in (next_in s h d c seen))
        (stood s (item d (Stepped y seen) a ∷ h) d.0) handle
        (subst (λ (r : OpenRequest). AnsweredBy s h d r (Some y) (gives_back (next_in s h d c seen))
        (verdict_in (next_in s h d c seen)) (Some (Mapped handle)) (stood s (item d (Stepped y seen) a ∷ h) d.0)) same
        (subst (λ (o : Option Answer). AnsweredBy s h d c.request (Some y) (gives_back (next_in s h d c seen))
        (verdict_in (next_in s h d c seen)) o (stood s (item d (Stepped y seen) a ∷ h) d.0)) answer right.answered)))
    pinned r (call_steps.Pin p) Taken same step took touch bytes f = absurd f
    pinned r z v same step took touch bytes f = tt

    does-so : (r : OpenRequest) → c.request ≡ r → RequestTouches A grants uses d r
        → steps_of (known_at s h d) d r (values c) ≡ Some (actions.Step y) → Does r
    does-so (Copy x) same t e =
        let it = each-step A grants uses (known_at s h d) d (IsPlain grants s) mapped (Copy x) t
        (λ copy. record {
          beyond_is = λ dir p plain all. all p.entry plain;
          last_is = λ dir p plain all. all p.entry plain;
        })
        (values c) (actions.Step y)
        (copy-took grants s h sound d c is y right.continues x same) e in
        (it.0, pinned (Copy x) y seen same refl refl it.0 it.1 it.2)
    does-so (Probe x) same t e = absurd t
    does-so r same t e =
        let it = each-step A grants uses (known_at s h d) d (λ p. Unit {0}) mapped r t
        (λ copy. absurd copy) (values c) (actions.Step y) (took-any (steps_of (known_at s h d) d r) (values c)) e in
        (it.0, pinned r y seen same refl refl it.0 it.1 it.2)

    does : Does c.request
    does = does-so c.request refl touches opened.1

    step-within : HistoryWithin (item d (Stepped y seen) a ∷ h) d × ItemTouches A h d (Stepped y seen)
    step-within = (
      record {
        maps = pins-after (item d (Stepped y seen) a) h d.0 does.1 w.maps;
        call = subst (CallWithin d) (sym (open_call-own (item d (Stepped y seen) a) h
            ∙ ap (underway_after (item d (Stepped y seen) a)) is)) (by a);
      },
      (does.0, releases-own grants s h sound d c is y right.continues),
    ) where
      by : (b : Option Answer) → CallWithin d (underway_after (item d (Stepped y seen) b) (Some c))
      by None = touches
      by (Some answer) = tt

  stepped-within : (s : Setting) (h : History) (d : DomId) (y : Step) (seen : Observation) (a : Option Answer)
      (c : Option Underway) → open_call h d.0 ≡ c → StepsRightIn s h (item d (Stepped y seen) a) y seen c
      → HistoryWithin h d → IsSound grants s h
      → HistoryWithin (item d (Stepped y seen) a ∷ h) d × ItemTouches A h d (Stepped y seen)
  stepped-within s h d y seen a None is right w sound = absurd right
  stepped-within s h d y seen a (Some c) is right w sound = step-within s h d y seen a c is right w sound

  -- events

  -- if the event begins a call, what that may touch is such
  abbrev pub BeginTouches : Event → Type 0
  BeginTouches (Begin d q) = RequestTouches A grants uses d (asked q)
  BeginTouches (Tick d) = Unit {0}

  item-within : (s : Setting) (h : History) (e : Event) (i : Item) (x : ItemEvent) → i.happened ≡ x → BeginTouches e
      → IsItemOf e (item (actor_of e) x i.answer) → IsRight s h (item (actor_of e) x i.answer)
      → HistoryWithin h (actor_of e) → IsSound grants s h
      → HistoryWithin (item (actor_of e) x i.answer ∷ h) (actor_of e) × ItemTouches A h (actor_of e) x
  item-within s h (Begin d q) i (Began r) is touch of right w sound = (
    began-within h d r i.answer (subst (λ (x : ItemEvent). Asks x) (sym of.1) touch) w,
    tt,
  ) where
    Asks : ItemEvent → Type 0
    Asks (Began p) = RequestTouches A grants uses d (asked p)
    Asks (Stepped y seen) = Unit {0}
  item-within s h (Begin d q) i (Stepped y seen) is touch of right w sound = absurd
      (let no : Stepped y seen ≡ Began q = of.1 in cc)
  item-within s h (Tick d) i (Began r) is touch of right w sound = absurd of.1
  item-within s h (Tick d) i (Stepped y seen) is touch of right w sound =
      stepped-within s h d y seen i.answer (open_call h d.0) refl right w sound

  pub event-within : (s : Setting) (h : History) (e : Event) (y : Element) → BeginTouches e → MayDo s h e y
      → HistoryWithin h (actor_of e) → IsSound grants s h
      → HistoryWithin (grown h y) (actor_of e) × ElementTouches A h (actor_of e) y
  event-within s h e (elements.Item i) touch may w sound = by (of-event e may) where
    of-event : (f : Event) → MayDo s h f (elements.Item i) → IsItemOf f i × IsRight s h i
    of-event (Begin d q) m = (m.1, m.2)
    of-event (Tick d) m = (m.1, m.2)

    own : (f : Event) → IsItemOf f i → i.actor ≡ actor_of f
    own (Begin d q) of = of.0
    own (Tick d) of = of.0

    by : IsItemOf e i × IsRight s h i
        → HistoryWithin (i ∷ h) (actor_of e) × ElementTouches A h (actor_of e) (elements.Item i)
    by (of, right) =
        let same : item (actor_of e) i.happened i.answer ≡ i =
        ap (λ d. item d i.happened i.answer) (sym (own e of)) in
        let it = item-within s h e i i.happened refl touch (subst (IsItemOf e) (sym same) of)
        (subst (IsRight s h) (sym same) right) w sound in
        (subst (λ x. HistoryWithin (x ∷ h) (actor_of e)) same it.0, it.1)
  event-within s h e Busy touch may w sound = (w, tt)
  event-within s h e Idle touch may w sound = (w, tt)
  event-within s h e NoDomain touch may w sound = (w, tt)

  -- courses

  -- such tasks are listed
  pub tasks-listed : (d : DomId) (ts : List RunTask) → TasksTouch A grants uses d ts → TasksListed grants d ts
  tasks-listed d [] all = tt
  tasks-listed d (t ∷ ts) all = (all.0.1, tasks-listed d ts all.1)

  -- what a domain may still touch is such, at this point of its list
  pub record Within (hs : List Happening) (d : DomId) (tasks : List RunTask) : Type 0 where
    pub tasks_touch : TasksTouch A grants uses d tasks
    pub past : HistoryWithin (history_in hs) d

  quiet-within : (hs : List Happening) (x : Happening) (d : DomId) (tasks : List RunTask) → IsQuiet x
      → TasksTouch A grants uses d tasks
      → HistoryWithin (history_in hs) d → Within (hs ++ x ∷ []) d tasks
  quiet-within hs x d tasks quiet touch past = record {
    tasks_touch = touch;
    past = subst (λ h. HistoryWithin h d) (sym (history_quiet hs x quiet)) past;
  }

  did-within : (s : Setting) (hs : List Happening) (e : Event) (y : Element) (tasks : List RunTask) → BeginTouches e
      → MayDo s (history_in hs) e y → TasksTouch A grants uses (actor_of e) tasks → HistoryWithin (history_in hs) (actor_of e)
      → IsSound grants s (history_in hs)
      → Within (hs ++ did e y ∷ []) (actor_of e) tasks × HappeningTouches A hs (did e y)
  did-within s hs e y tasks touch may left past sound =
      let it = event-within s (history_in hs) e y touch may past sound in (
        record { tasks_touch = left; past = subst (λ h. HistoryWithin h (actor_of e)) (sym (history_did hs e y)) it.0 },
        it.1,
      )

  -- a domain whose course goes on by a happening
  abbrev GoesWithin : List Happening → Happening → Course → Type 0
  GoesWithin hs x j = Within (hs ++ x ∷ []) j.dom j.tasks × HappeningTouches A hs x

  -- to a course with these tasks
  goes-to : (s : Setting) (hs : List Happening) (e : Event) (y : Element) (x : Happening) (j : Course)
      (tasks : List RunTask)
      → x ≡ did e y → j.dom ≡ actor_of e → j.tasks ≡ tasks → BeginTouches e → CanComeNext s hs x
      → TasksTouch A grants uses (actor_of e) tasks → HistoryWithin (history_in hs) (actor_of e)
      → IsSound grants s (history_in hs) → GoesWithin hs x j
  goes-to s hs e y x j tasks is dom left touch may all past sound =
      subst (λ z. Within (hs ++ z ∷ []) j.dom j.tasks × HappeningTouches A hs z) (sym is)
      (subst (λ ts. Within (hs ++ did e y ∷ []) j.dom ts × HappeningTouches A hs (did e y)) (sym left)
      (subst (λ d. Within (hs ++ did e y ∷ []) d tasks × HappeningTouches A hs (did e y)) (sym dom)
      (did-within s hs e y tasks touch (subst (CanComeNext s hs) is may) all past sound)))

  line-within : (types : List (List ℕ)) (s : Setting) (hs : List Happening) (k j : Course) (line : ℕ)
      (left : List RunTask)
      (run_action : RunAction) (x : Happening) → ActionLeads types k line left run_action x j → CanComeNext s hs x
      → ActionTouches A grants uses k.dom run_action → TasksTouch A grants uses k.dom left → HistoryWithin (history_in hs) k.dom
      → IsSound grants s (history_in hs) → GoesWithin hs x j
  line-within types s hs k j line left (Tell flag) x leads may touch all past sound =
      subst (λ z. Within (hs ++ z ∷ []) j.dom j.tasks × HappeningTouches A hs z) (sym leads.0)
      (subst (λ (c : Course). Within (hs ++ raised k.dom flag ∷ []) c.dom c.tasks × A (Raises flag)) (sym leads.1)
      (quiet-within hs (raised k.dom flag) k.dom left (tells k.dom flag) all past, touch))
  line-within types s hs k j line left (Await flag) x leads may touch all past sound =
      subst (λ z. Within (hs ++ z ∷ []) j.dom j.tasks × HappeningTouches A hs z) (sym leads.0)
      (subst (λ (c : Course). Within (hs ++ passed k.dom flag ∷ []) c.dom c.tasks × Unit {0}) (sym leads.1)
      (quiet-within hs (passed k.dom flag) k.dom left (waits k.dom flag) all past, tt))
  line-within types s hs k j line left (Do call) x (q, e, says, is, to) may touch all past sound =
      goes-to s hs (Begin k.dom q) e x j left is
      (ap (λ (c : Course). c.dom) to ∙ after-dom types line call (given_up q) (record k { tasks = left }) (answer_in e))
      (ap (λ (c : Course). c.tasks) to
      ∙ after-tasks types line call (given_up q) (record k { tasks = left }) (answer_in e))
      (said-touches A grants uses k.named k.dom call q says touch) may all past sound

  rest-within : (types : List (List ℕ)) (s : Setting) (hs : List Happening) (k j : Course) (tasks : List RunTask)
      (choice : ℕ)
      (x : Happening) → k.tasks ≡ tasks → RestLeads types k tasks choice x j → CanComeNext s hs x
      → TasksTouch A grants uses k.dom tasks → HistoryWithin (history_in hs) k.dom → IsSound grants s (history_in hs)
      → GoesWithin hs x j
  rest-within types s hs k j [] choice x same (handle, e, there, is, to) may touch past sound =
      goes-to s hs (Begin k.dom (requests.Release handle)) e x j [] is
      (ap (λ (c : Course). c.dom) to
      ∙ back-dom (record k { held = take choice k.held ++ drop (suc choice) k.held }) (answer_in e))
      (ap (λ (c : Course). c.tasks) to
      ∙ back-tasks (record k { held = take choice k.held ++ drop (suc choice) k.held }) (answer_in e) ∙ same)
      tt may tt past sound
  rest-within types s hs k j (t ∷ ts) choice x same leads may touch past sound =
      line-within types s hs k j t.line ts t.run_action x leads.1 may touch.0.0 touch.1 past sound

  -- what a domain does touches only such, and so it stays
  pub course-within : (types : List (List ℕ)) (s : Setting) (hs : List Happening) (k j : Course) (choice : ℕ)
      (x : Happening)
      → CourseLeads types k choice x j → CanComeNext s hs x → Within hs k.dom k.tasks
      → IsSound grants s (history_in hs) → GoesWithin hs x j
  course-within types s hs k j choice x leads may w sound = by k.opened leads where
    by : (opened : Opened) → OpenLeads types k opened choice x j → GoesWithin hs x j
    by resting l = rest-within types s hs k j k.tasks choice x refl l may w.tasks_touch w.past sound
    by (calling line call lost) (none, e, is, to) = goes-to s hs (Tick k.dom) e x j k.tasks is
        (ap (λ (c : Course). c.dom) to ∙ after-dom types line call lost k (answer_in e))
        (ap (λ (c : Course). c.tasks) to ∙ after-tasks types line call lost k (answer_in e)) tt may w.tasks_touch
        w.past sound
    by giving (none, e, is, to) = goes-to s hs (Tick k.dom) e x j k.tasks is
        (ap (λ (c : Course). c.dom) to ∙ back-dom k (answer_in e))
        (ap (λ (c : Course). c.tasks) to ∙ back-tasks k (answer_in e)) tt may w.tasks_touch w.past sound

  -- what another domain does leaves it so
  pub others-within : (s : Setting) (hs : List Happening) (x : Happening) (d : DomId) (tasks : List RunTask)
      → ((doer x).0 == d.0) ≡ false → CanComeNext s hs x → Within hs d tasks → Within (hs ++ x ∷ []) d tasks
  others-within s hs (did e y) d tasks apart may w = record {
    tasks_touch = w.tasks_touch;
    past = subst (λ h. HistoryWithin h d) (sym (history_did hs e y)) (by y e may apart);
  } where
    by : (z : Element) (f : Event) → MayDo s (history_in hs) f z → ((actor_of f).0 == d.0) ≡ false
        → HistoryWithin (grown (history_in hs) z) d
    by (elements.Item i) (Begin b q) m off = other-within i (history_in hs) d (ap (λ (a : DomId). a.0 == d.0) m.1.0 ∙ off) w.past
    by (elements.Item i) (Tick b) m off = other-within i (history_in hs) d (ap (λ (a : DomId). a.0 == d.0) m.1.0 ∙ off) w.past
    by Busy f m off = w.past
    by Idle f m off = w.past
    by NoDomain f m off = w.past
  others-within s hs (raised b flag) d tasks apart may w =
      quiet-within hs (raised b flag) d tasks (tells b flag) w.tasks_touch w.past
  others-within s hs (passed b flag) d tasks apart may w =
      quiet-within hs (passed b flag) d tasks (waits b flag) w.tasks_touch w.past
