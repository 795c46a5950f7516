-- The domains of a set that no domain outside can disturb may go first: no text is lost.
use Rattle.std.proofs.Common.{◌≡◌, ◌≢◌, ◌⊎◌, inl, inr, ◌<◌, ℕ, zero, suc, refl, Bool, true, false, cond, List, []}
use Rattle.std.proofs.Common.{◌∷◌, ◌++◌, length, map, drop, take, get_or, Option, Some, None, sym, ap, ◌∙◌, subst}
use Rattle.std.proofs.Common.{arith}
use Rattle.std.specs.List.{list_any}
use Rattle.std.specs.Prelude.{◌==◌, ◌||◌, slice_get, slice_set, AllPairs}
use Rattle.std.proofs.lemmas.Bool.{eq-eqb, eqb-true, false≢true}
use Rattle.std.proofs.lemmas.Option.{none-some, same_Some, slice_get_within}
use Rattle.gt_types.specs.declared.DomId.{DomId}
use Rattle.gt_types.specs.declared.config.DomainConfig.{DomainConfig}
use Rattle.gt_model.specs.declared.handle.Handle.{Handle}
use Rattle.gt_model.specs.Path.{path}
use Rattle.gt_model.specs.Rules.{CallerKnowledge}
use Rattle.gt_model.specs.declared.action.Action.TheVariants as actions
use Rattle.gt_model.specs.declared.action.Observation.{Observation}
use Rattle.gt_model.specs.declared.action.Step.{Step}
use Rattle.gt_model.specs.declared.action.Step.TheVariants as call_steps
use Rattle.gt_model.specs.declared.held.HeldPin.{HeldPin}
use Rattle.gt_model.specs.declared.bounds.TheConstants.{SERIAL_LIMIT}
use Rattle.gt_model.specs.declared.request.Request.{Request}
use Rattle.gt_model.specs.declared.request.Request.TheVariants as requests
use Rattle.gt_model.specs.History.{History, Setting, Underway, known_at, maps_answered_at, mappings_at, open_call}
use Rattle.gt_model.specs.History.{values}
use Rattle.gt_model.specs.Legal.{IsItemOf, IsRight, MayDo, StepsRightIn, actor_of, grown}
use Rattle.gt_commuting.specs.Swapping.{AreApart, SameSeen}
use Rattle.gt_model.specs.declared.trace.Element.{Element}
use Rattle.gt_model.specs.declared.trace.Element.TheVariants.{Busy, Idle, NoDomain}
use Rattle.gt_model.specs.declared.trace.Element.TheVariants as elements
use Rattle.gt_model.specs.declared.trace.Event.{Event}
use Rattle.gt_model.specs.declared.trace.Event.TheVariants.{Begin, Tick}
use Rattle.gt_model.specs.declared.trace.Item.{Item}
use Rattle.gt_model.specs.declared.trace.ItemEvent.{ItemEvent}
use Rattle.gt_model.specs.declared.trace.ItemEvent.TheVariants.{Began, Stepped}
use Rattle.gt_core.proofs.AgreementKept.{open_call-other}
use Rattle.gt_model.proofs.Observers.{other-known}
use Rattle.gt_commuting.proofs.Swapping.{Releases, began-apart, events-first, grown-same, may-same}
use Rattle.gt_script_runs.specs.Playing.{setting_of_script}
use Rattle.gt_script_runs.specs.Runs.{answer_in}
use Rattle.gt_explore_replay.specs.Abreast.{CanComeNext, history_in}
use Rattle.gt_explore_replay.specs.Courses.{AllCoursesEnd, Course, CourseEnds, CourseLeads, ActionLeads, Opened}
use Rattle.gt_explore_replay.specs.Courses.{OpenLeads, RestLeads, calling, giving, resting}
use Rattle.gt_explore_replay.specs.Orders.{Happening, did, raised, passed, doer, IsRaisedBefore}
use Rattle.gt_explore_search.specs.declared.spaces.Turn.{Turn}
use Rattle.gt_explore_replay.proofs.Coming.{IsQuiet, tells, waits}
use Rattle.gt_explore_replay.proofs.Following.{there_is}
use Rattle.gt_explore_replay.proofs.Places.{drop_here, get_set}
use Rattle.gt_explore_replay.proofs.Turning.{AllDiffer, IsNoneOf, all-differ, ids, numbers}
use Rattle.gt_explore_replay.proofs.Whole.{history_did, history_quiet, raised_or}
use Rattle.gt_script.specs.Contents.{type_names}
use Rattle.gt_script.specs.Lists.{RunTask, RunAction}
use Rattle.gt_script.specs.declared.tasks.RunAction.TheVariants.{Await, Do, Tell}
use Rattle.gt_script.specs.RunContents.{RunContents}
use Rattle.gt_explore_moves.specs.Calls.{GoesAlong, ShowsCalls, ShowsOpen}
use Rattle.gt_explore_moves.specs.Ends.{choices_at, choices_in, is_done, tasks_at, turns_by}
use Rattle.gt_explore_moves.specs.Mappings.{mapping_pins}
use Rattle.gt_explore_moves.specs.Scenes.{IsSceneOf, SceneShows}
use Rattle.gt_explore_moves.specs.Spaces.{Point, printed_by, scene_ways}
use Rattle.gt_explore_moves.specs.Touches.{AreOfSet, AreToBeTried, AreUndisturbed, first_left, first_of, is_load}
use Rattle.gt_explore_moves.specs.Touches.{is_store, may_meet, meets, meets_mapping, meets_task, next_at_rest}
use Rattle.gt_explore_moves.specs.Touches.{next_move, step_meets, tasks_unfinished, use_of, StayShut, awaits_shut}
use Rattle.gt_explore_moves.specs.Touches.{reachable, tasks_in_reach}
use Rattle.gt_script_lines.specs.declared.calls.ScriptCall.{ScriptCall}
use Rattle.gt_explore_moves.specs.declared.touches.MappingUse.{MappingUse}
use Rattle.gt_explore_moves.specs.declared.actor.Actor.{Actor}
use Rattle.gt_explore_moves.specs.declared.actor.ActorCall.{ActorCall}
use Rattle.gt_explore_moves.specs.declared.actor.LabelledMapping.{LabelledMapping}
use Rattle.gt_explore_moves.specs.declared.scene.SearchContext.{SearchContext}
use Rattle.gt_explore_moves.specs.declared.scene.SearchState.{SearchState}
use Rattle.gt_explore_moves.specs.declared.touches.NextMove.{NextMove}
use Rattle.gt_explore_moves.specs.declared.touches.NextMove.TheVariants.{Awaits, Free, Makes}
use Rattle.gt_explore_moves.specs.declared.touches.Touch.{Touch}
use Rattle.gt_explore_moves.proofs.CourseMoves.{course-moves, ends-done}
use Rattle.gt_explore_moves.proofs.HandlesAnswered.{after-dom, back-dom, left-answered}
use Rattle.gt_explore_moves.proofs.LineBegins.{tasks-short}
use Rattle.gt_explore_moves.proofs.MovesAlong.{none-open}
use Rattle.gt_explore_moves.proofs.MovesListed.{turn-listed}
use Rattle.gt_explore_moves.proofs.OpenAlong.{run-makes}
use Rattle.gt_explore_moves.proofs.Reaching.{NoneRaised, RaisesNone, TellNone, cut, cut-leads, leads-tells, none-more}
use Rattle.gt_explore_moves.proofs.Reaching.{reach-first, tell-later}
use Rattle.gt_explore_moves.proofs.SameStep.{along-of}
use Rattle.gt_explore_moves.proofs.SpaceMoves.{each-turn}
use Rattle.gt_explore_moves.proofs.StateComesOn.{raised-here, raised-still, task-own}
use Rattle.gt_explore_moves.proofs.Touching.{ActionTouches, IsListedLine, RequestTouches, StepTouches, TasksTouch}
use Rattle.gt_explore_moves.proofs.Touching.{Unmet, meets-under}
use Rattle.gt_explore_moves.proofs.Touching.{or-false, PinTouches, said-touches, steps-apart, unmet-run_action}
use Rattle.gt_explore_moves.proofs.Touching.{unmet-mapping}
use Rattle.gt_explore_moves.proofs.HeldPins.{IsSound, releases-own}
use Rattle.gt_explore_moves.proofs.GrantingTasks.{task-listed}
use Rattle.gt_explore_moves.proofs.FirstWorld.{scene-starts}
use Rattle.gt_explore_moves.specs.Granting.{IsListed}
use Rattle.gt_explore_moves.specs.Scenes.{WasAnsweredAll}
use Rattle.gt_explore_moves.specs.declared.granted.GrantedEntry.{GrantedEntry}
use Rattle.gt_explore_state.specs.Likeness.{IsLikeReached}
use Rattle.gt_explore_moves.proofs.Within.{CallWithin, ElementTouches, Grew, HappeningSaid, HappeningTouches}
use Rattle.gt_explore_moves.proofs.Within.{ItemTouches, PinsTouch, Within, course-answered, course-said, course-within}
use Rattle.gt_explore_moves.proofs.Within.{grew-sound, happening-grew, others-answered, others-within, tasks-listed}
use Rattle.gt_explore_search.specs.Ways.{EndsSoBy, GoesTo, HasEnoughTurns}
use Rattle.gt_explore_search.proofs.Finding.{each_enough}

-- flags

-- what was raised by the one was raised by the other
abbrev RaisedToo : List Happening → List Happening → Type 0
RaisedToo hs gs = (flag : ℕ) → IsRaisedBefore (length hs) flag hs → IsRaisedBefore (length gs) flag gs

raised-too : (hs gs : List Happening) (x : Happening) → RaisedToo hs gs → RaisedToo (hs ++ x ∷ []) (gs ++ x ∷ [])
raised-too hs gs x too flag was = elim (raised_or hs x flag was) [
  | inl before ↦ raised-still gs x flag (too flag before)
  | inr now ↦ raised-here gs x now.0 flag now.1
]

raised-swap : (hs : List Happening) (x y : Happening) → RaisedToo ((hs ++ x ∷ []) ++ y ∷ []) ((hs ++ y ∷ []) ++ x ∷ [])
raised-swap hs x y flag was = elim (raised_or (hs ++ x ∷ []) y flag was) [
  | inl before ↦ elim (raised_or hs x flag before) [
    | inl first ↦ raised-still (hs ++ y ∷ []) x flag (raised-still hs y flag first)
    | inr now ↦ raised-here (hs ++ y ∷ []) x now.0 flag now.1
  ]
  | inr now ↦ raised-still (hs ++ y ∷ []) x flag (raised-here hs y now.0 flag now.1)
]

-- runs that look the same

seen-none : (s : Setting) (h : History) → SameSeen s h h
seen-none s h = record {
  own = λ d. record {
    entries = λ r. refl;
    raises = λ r. refl;
    table = refl;
    pins = refl;
    maps = refl;
    call = refl;
    against = refl;
  };
  entries = λ t r. record { entry = refl; raises = refl; reads = refl; writes = refl };
  bodies = λ t r body_word. refl;
  patches = λ t f. refl;
}

module _ (s : Setting) where
  -- two runs look the same to all domains
  pub record LookSame (hs gs : List Happening) : Type 0 where
    pub seen : SameSeen s (history_in hs) (history_in gs)
    pub flags : RaisedToo hs gs

  may-come : (hs gs : List Happening) (x : Happening) → LookSame hs gs → CanComeNext s hs x → CanComeNext s gs x
  may-come hs gs (did e y) same may = may-same s (history_in hs) (history_in gs) e y same.seen may
  may-come hs gs (raised d flag) same may = tt
  may-come hs gs (passed d flag) same may = same.flags flag may

  quiet-same : (hs gs : List Happening) (x : Happening) → history_in (hs ++ x ∷ []) ≡ history_in hs
      → history_in (gs ++ x ∷ []) ≡ history_in gs → SameSeen s (history_in hs) (history_in gs)
      → SameSeen s (history_in (hs ++ x ∷ [])) (history_in (gs ++ x ∷ []))
  quiet-same hs gs x one other same = subst (λ l. SameSeen s l (history_in (gs ++ x ∷ []))) (sym one)
      (subst (λ l. SameSeen s (history_in hs) l) (sym other) same)

  seen-more : (hs gs : List Happening) (x : Happening) → SameSeen s (history_in hs) (history_in gs)
      → SameSeen s (history_in (hs ++ x ∷ [])) (history_in (gs ++ x ∷ []))
  seen-more hs gs (did e y) same = subst (λ l. SameSeen s l (history_in (gs ++ did e y ∷ [])))
      (sym (history_did hs e y))
      (subst (λ l. SameSeen s (grown (history_in hs) y) l) (sym (history_did gs e y))
      (grown-same s (history_in hs) (history_in gs) y same))
  seen-more hs gs (raised d flag) same = quiet-same hs gs (raised d flag)
      (history_quiet hs (raised d flag) (tells d flag)) (history_quiet gs (raised d flag) (tells d flag)) same
  seen-more hs gs (passed d flag) same = quiet-same hs gs (passed d flag)
      (history_quiet hs (passed d flag) (waits d flag)) (history_quiet gs (passed d flag) (waits d flag)) same

  same-more : (hs gs : List Happening) (x : Happening) → LookSame hs gs → LookSame (hs ++ x ∷ []) (gs ++ x ∷ [])
  same-more hs gs x same = record { seen = seen-more hs gs x same.seen; flags = raised-too hs gs x same.flags }

  -- a happening that waits for no other one
  abbrev IsFree : List Happening → Happening → Type 0
  IsFree hs (did e y) = Unit {0}
  IsFree hs (raised d flag) = Unit {0}
  IsFree hs (passed d flag) = IsRaisedBefore (length hs) flag hs

  -- the items of the later happening and of the one before it are apart, if both have one
  abbrev AreItemsApart : List Happening → Happening → Happening → Type 0
  AreItemsApart hs (did f y) (did e z) =
      (i j : Item) → z ≡ elements.Item i → y ≡ elements.Item j → (i.actor.0 == j.actor.0) ≡ false → AreApart s (history_in hs) i j
  AreItemsApart hs (did f y) x = Unit {0}
  AreItemsApart hs (raised d flag) x = Unit {0}
  AreItemsApart hs (passed d flag) x = Unit {0}

  -- two happenings that come in either order
  abbrev Swapped : List Happening → Happening → Happening → Type 0
  Swapped hs x y = CanComeNext s hs y × CanComeNext s (hs ++ y ∷ []) x × LookSame ((hs ++ x ∷ []) ++ y ∷ [])
      ((hs ++ y ∷ []) ++ x ∷ [])

  -- one of them is quiet
  quiet-seen : (hs : List Happening) (x y : Happening) →
      ((gs : List Happening) → history_in (gs ++ x ∷ []) ≡ history_in gs)
      → SameSeen s (history_in ((hs ++ x ∷ []) ++ y ∷ [])) (history_in ((hs ++ y ∷ []) ++ x ∷ []))
  quiet-seen hs x y quiet = subst (λ l. SameSeen s (history_in ((hs ++ x ∷ []) ++ y ∷ [])) l)
      (sym (quiet (hs ++ y ∷ [])))
      (seen-more (hs ++ x ∷ []) hs y (subst (λ l. SameSeen s l (history_in hs)) (sym (quiet hs))
      (seen-none s (history_in hs))))

  quiet-after : (hs : List Happening) (x y : Happening) →
      ((gs : List Happening) → history_in (gs ++ y ∷ []) ≡ history_in gs)
      → SameSeen s (history_in ((hs ++ x ∷ []) ++ y ∷ [])) (history_in ((hs ++ y ∷ []) ++ x ∷ []))
  quiet-after hs x y quiet = subst (λ l. SameSeen s l (history_in ((hs ++ y ∷ []) ++ x ∷ [])))
      (sym (quiet (hs ++ x ∷ [])))
      (seen-more hs (hs ++ y ∷ []) x (subst (λ l. SameSeen s (history_in hs) l) (sym (quiet hs))
      (seen-none s (history_in hs))))

  come-later : (hs : List Happening) (y x : Happening) → IsQuiet y → CanComeNext s hs x → CanComeNext s (hs ++ y ∷ []) x
  come-later hs y x quiet may = may-come hs (hs ++ y ∷ []) x (record {
    seen = subst (λ l. SameSeen s (history_in hs) l) (sym (history_quiet hs y quiet)) (seen-none s (history_in hs));
    flags = raised-still hs y;
  }) may

  swap-first : (hs : List Happening) (x y : Happening) → IsFree hs y → AreItemsApart hs y x
      → ((doer x).0 == (doer y).0) ≡ false → CanComeNext s hs x → CanComeNext s (hs ++ x ∷ []) y → Swapped hs x y
  swap-first hs x (raised d flag) free items apart first second = (
    tt,
    come-later hs (raised d flag) x (tells d flag) first,
    record {
      seen = quiet-after hs x (raised d flag) (λ gs. history_quiet gs (raised d flag) (tells d flag));
      flags = raised-swap hs x (raised d flag);
    },
  )
  swap-first hs x (passed d flag) free items apart first second = (
    free,
    come-later hs (passed d flag) x (waits d flag) first,
    record {
      seen = quiet-after hs x (passed d flag) (λ gs. history_quiet gs (passed d flag) (waits d flag));
      flags = raised-swap hs x (passed d flag);
    },
  )
  swap-first hs (did e z) (did f y) free items apart first second =
      let it = events-first s (history_in hs) e z f y apart items first
      (subst (λ l. MayDo s l f y) (history_did hs e z) second) in (
        it.0,
        subst (λ l. MayDo s l e z) (sym (history_did hs f y)) it.1,
        record {
          seen = subst (λ l. SameSeen s l (history_in ((hs ++ did f y ∷ []) ++ did e z ∷ [])))
              (sym (history_did (hs ++ did e z ∷ []) f y ∙ ap (λ l. grown l y) (history_did hs e z)))
              (subst (λ l. SameSeen s (grown (grown (history_in hs) z) y) l)
              (sym (history_did (hs ++ did f y ∷ []) e z
              ∙ ap (λ l. grown l z) (history_did hs f y))) it.2);
          flags = raised-swap hs (did e z) (did f y);
        },
      )
  swap-first hs (raised c flag) (did f y) free items apart first second = (
    subst (λ l. MayDo s l f y) (history_quiet hs (raised c flag) (tells c flag)) second,
    tt,
    record {
      seen = quiet-seen hs (raised c flag) (did f y) (λ gs. history_quiet gs (raised c flag) (tells c flag));
      flags = raised-swap hs (raised c flag) (did f y);
    },
  )
  swap-first hs (passed c flag) (did f y) free items apart first second = (
    subst (λ l. MayDo s l f y) (history_quiet hs (passed c flag) (waits c flag)) second,
    raised-still hs (did f y) flag first,
    record {
      seen = quiet-seen hs (passed c flag) (did f y) (λ gs. history_quiet gs (passed c flag) (waits c flag));
      flags = raised-swap hs (passed c flag) (did f y);
    },
  )

-- courses

leads-line : (types : List (List ℕ)) (k j : Course) (line : ℕ) (left : List RunTask) (run_action : RunAction) (x : Happening)
    → ActionLeads types k line left run_action x j → (j.dom ≡ k.dom) × (doer x ≡ k.dom)
leads-line types k j line left (Tell flag) x leads = (ap (λ (z : Course). z.dom) leads.1, ap doer leads.0)
leads-line types k j line left (Await flag) x leads = (ap (λ (z : Course). z.dom) leads.1, ap doer leads.0)
leads-line types k j line left (Do call) x (q, e, says, is, to) =
    (ap (λ (z : Course). z.dom) to ∙ after-dom types line call _ (record k { tasks = left }) _, ap doer is)

leads-rest : (types : List (List ℕ)) (k j : Course) (tasks : List RunTask) (choice : ℕ) (x : Happening)
    → RestLeads types k tasks choice x j → (j.dom ≡ k.dom) × (doer x ≡ k.dom)
leads-rest types k j [] choice x (handle, e, there, is, to) = (
  ap (λ (z : Course). z.dom) to ∙ back-dom (record k { held = take choice k.held ++ drop (suc choice) k.held })
      (answer_in e),
  ap doer is,
)
leads-rest types k j (t ∷ ts) choice x leads = leads-line types k j t.line ts t.run_action x leads.1

leads-open : (types : List (List ℕ)) (k j : Course) (opened : Opened) (choice : ℕ) (x : Happening)
    → OpenLeads types k opened choice x j → (j.dom ≡ k.dom) × (doer x ≡ k.dom)
leads-open types k j resting choice x leads = leads-rest types k j k.tasks choice x leads
leads-open types k j (calling line call lost) choice x (none, e, is, to) =
    (ap (λ (z : Course). z.dom) to ∙ after-dom types line call lost k _, ap doer is)
leads-open types k j giving choice x (none, e, is, to) =
    (ap (λ (z : Course). z.dom) to ∙ back-dom k _, ap doer is)

-- a course goes on in the name of its domain
leads-dom : (types : List (List ℕ)) (k j : Course) (choice : ℕ) (x : Happening) → CourseLeads types k choice x j
    → (j.dom ≡ k.dom) × (doer x ≡ k.dom)
leads-dom types k j choice x leads = leads-open types k j k.opened choice x leads

numbers-set : (ks : List Course) (at : ℕ) (k j : Course) → slice_get ks at ≡ Some k → j.dom ≡ k.dom
    → numbers (slice_set ks at j) ≡ numbers ks
numbers-set [] at k j there dom = refl
numbers-set (l ∷ ks) zero k j there dom = ap (λ (d : DomId). d.0 ∷ numbers ks)
    (dom ∙ ap (λ (z : Course). z.dom) (sym (same_Some l k there)))
numbers-set (l ∷ ks) (suc at) k j there dom = ap (λ ns. l.dom.0 ∷ ns) (numbers-set ks at k j there dom)

none-there : (n : ℕ) (ks : List Course) (at : ℕ) (k : Course) → IsNoneOf n (numbers ks) → slice_get ks at ≡ Some k
    → n ≢ k.dom.0
none-there n [] at k none there = absurd (none-some k there)
none-there n (l ∷ ks) zero k none there = λ e. none.0 (e ∙ ap (λ (z : Course). z.dom.0) (sym (same_Some l k there)))
none-there n (l ∷ ks) (suc at) k none there = none-there n ks at k none.1 there

differ-at : (ks : List Course) (a b : ℕ) (k l : Course) → AllDiffer (numbers ks) → slice_get ks a ≡ Some k
    → slice_get ks b ≡ Some l → a ≢ b → k.dom.0 ≢ l.dom.0
differ-at [] a b k l differ one other apart = absurd (none-some k one)
differ-at (j ∷ ks) zero zero k l differ one other apart = absurd (apart refl)
differ-at (j ∷ ks) zero (suc b) k l differ one other apart = λ e. none-there j.dom.0 ks b l differ.0 other
    (ap (λ (z : Course). z.dom.0) (same_Some j k one) ∙ e)
differ-at (j ∷ ks) (suc a) zero k l differ one other apart = λ e. none-there j.dom.0 ks a k differ.0 one
    (ap (λ (z : Course). z.dom.0) (same_Some j l other) ∙ sym e)
differ-at (j ∷ ks) (suc a) (suc b) k l differ one other apart = differ-at ks a b k l differ.1 one other
    (λ e. apart (ap suc e))

set-apart : {A : Type 0} (xs : List A) (a b : ℕ) (x y : A) → a ≢ b
    → slice_set (slice_set xs a x) b y ≡ slice_set (slice_set xs b y) a x
set-apart [] a b x y apart = refl
set-apart (z ∷ xs) zero zero x y apart = absurd (apart refl)
set-apart (z ∷ xs) zero (suc b) x y apart = refl
set-apart (z ∷ xs) (suc a) zero x y apart = refl
set-apart (z ∷ xs) (suc a) (suc b) x y apart = ap (λ l. z ∷ l) (set-apart xs a b x y (λ e. apart (ap suc e)))

get-apart : {A : Type 0} (xs : List A) (a b : ℕ) (x : A) → a ≢ b → slice_get (slice_set xs a x) b ≡ slice_get xs b
get-apart [] a b x apart = refl
get-apart (z ∷ xs) zero zero x apart = absurd (apart refl)
get-apart (z ∷ xs) zero (suc b) x apart = refl
get-apart (z ∷ xs) (suc a) zero x apart = refl
get-apart (z ∷ xs) (suc a) (suc b) x apart = get-apart xs a b x (λ e. apart (ap suc e))

one-ends : (ks : List Course) (at : ℕ) (k : Course) → AllCoursesEnd ks → slice_get ks at ≡ Some k → CourseEnds k
one-ends [] at k all here = absurd (none-some k here)
one-ends (j ∷ ks) zero k all here = subst CourseEnds (same_Some j k here) all.0
one-ends (j ∷ ks) (suc at) k all here = one-ends ks at k all.1 here

number-apart : (a b : ℕ) → a ≢ b → (a == b) ≡ false
number-apart a b apart = by (a == b) refl where
  by : (v : Bool) → (a == b) ≡ v → (a == b) ≡ false
  by true e = absurd (apart (eqb-true a b e))
  by false e = e

-- ways

module _ (c : RunContents) where
  -- by these turns the domains go on to the ends of their courses, after this happened
  abbrev Goes : List Happening → List Course → List Turn → List Course → Type 0
  Goes hs ks [] ls = (ks ≡ ls) × AllCoursesEnd ks
  Goes hs ks (u ∷ us) ls = (k : Course) × (j : Course) × (x : Happening) × (slice_get ks u.place ≡ Some k)
      × CourseLeads (type_names c.head) k u.choice x j × CanComeNext (setting_of_script c.head) hs x × Goes
      (hs ++ x ∷ []) (slice_set ks u.place j) us ls

  follow : (hs gs : List Happening) (ks : List Course) (us : List Turn) (ls : List Course)
      → LookSame (setting_of_script c.head) hs gs → Goes hs ks us ls → Goes gs ks us ls
  follow hs gs ks [] ls same goes = goes
  follow hs gs ks (u ∷ us) ls same (k, j, x, there, leads, may, on) = (
    k,
    j,
    x,
    there,
    leads,
    may-come (setting_of_script c.head) hs gs x same may,
    follow (hs ++ x ∷ []) (gs ++ x ∷ []) (slice_set ks u.place j) us ls
        (same-more (setting_of_script c.head) hs gs x same) on,
  )

  -- the domain at this place goes on first, and then the others come to the same ends
  abbrev GoesFirst : ℕ → Course → List Happening → List Course → List Course → Type 0
  GoesFirst e k hs ks ls = (choice : ℕ) × (j : Course) × (x : Happening) × (us : List Turn)
      × CourseLeads (type_names c.head) k choice x j
      × CanComeNext (setting_of_script c.head) hs x × Goes (hs ++ x ∷ []) (slice_set ks e j) us ls

  -- a line that waits for no other domain: what it awaits was raised
  abbrev FreeLine : List Happening → RunAction → Type 0
  FreeLine hs (Do call) = Unit {0}
  FreeLine hs (Tell flag) = Unit {0}
  FreeLine hs (Await flag) = IsRaisedBefore (length hs) flag hs

  free-still : (hs : List Happening) (x : Happening) (run_action : RunAction) → FreeLine hs run_action
      → FreeLine (hs ++ x ∷ []) run_action
  free-still hs x (Do call) free = tt
  free-still hs x (Tell flag) free = tt
  free-still hs x (Await flag) free = raised-still hs x flag free

  abbrev FreeTasks : List Happening → List RunTask → Type 0
  FreeTasks hs [] = Unit {0}
  FreeTasks hs (t ∷ ts) = FreeLine hs t.run_action

  tasks-still : (hs : List Happening) (x : Happening) (ts : List RunTask) → FreeTasks hs ts
      → FreeTasks (hs ++ x ∷ []) ts
  tasks-still hs x [] free = tt
  tasks-still hs x (t ∷ ts) free = free-still hs x t.run_action free

  abbrev set : Setting
  set = setting_of_script c.head

  -- this is the next move of a domain at this point of its course
  abbrev IsNext : List Happening → Course → NextMove → Type 0
  IsNext hs k (Makes d step) = (u : Underway) × (k.opened ≢ resting) × (d ≡ k.dom)
      × (open_call (history_in hs) k.dom.0 ≡ Some u)
      × ((z : Step) → path (known_at set (history_in hs) k.dom) k.dom u.request (values u) ≡ Some (actions.Step z)
      → (touch : Touch) → step_meets k.dom z touch ≡ step_meets k.dom step touch)
  IsNext hs k (Awaits flag) =
      (t : RunTask) × (ts : List RunTask) × (k.opened ≡ resting) × (k.tasks ≡ t ∷ ts) × (t.run_action ≡ Await flag)
  IsNext hs k Free = (k.opened ≡ resting) × FreeTasks hs k.tasks

  -- what another domain does leaves what a domain has open, and what it knows
  others-keep : (hs : List Happening) (x : Happening) (d : DomId) → ((doer x).0 == d.0) ≡ false → CanComeNext set hs x
      → (open_call (history_in (hs ++ x ∷ [])) d.0 ≡ open_call (history_in hs) d.0)
      × (known_at set (history_in (hs ++ x ∷ [])) d ≡ known_at set (history_in hs) d)
  others-keep hs (did e y) d apart may = subst (λ h. (open_call h d.0 ≡ open_call (history_in hs) d.0)
      × (known_at set h d ≡ known_at set (history_in hs) d)) (sym (history_did hs e y)) (by y e may apart)
    where
      keeps : (i : Item) → (i.actor.0 == d.0) ≡ false
          → (open_call (i ∷ history_in hs) d.0 ≡ open_call (history_in hs) d.0)
          × (known_at set (i ∷ history_in hs) d ≡ known_at set (history_in hs) d)
      keeps i off = (open_call-other i (history_in hs) d.0 off, other-known set i (history_in hs) d off)

      by : (z : Element) (f : Event) → MayDo set (history_in hs) f z → ((actor_of f).0 == d.0) ≡ false
          → (open_call (grown (history_in hs) z) d.0 ≡ open_call (history_in hs) d.0)
          × (known_at set (grown (history_in hs) z) d ≡ known_at set (history_in hs) d)
      by (elements.Item i) (Begin b q) m off = keeps i (ap (λ (a : DomId). a.0 == d.0) m.1.0 ∙ off)
      by (elements.Item i) (Tick b) m off = keeps i (ap (λ (a : DomId). a.0 == d.0) m.1.0 ∙ off)
      by Busy f m off = (refl, refl)
      by Idle f m off = (refl, refl)
      by NoDomain f m off = (refl, refl)
  others-keep hs (raised b flag) d apart may =
      let same = history_quiet hs (raised b flag) (tells b flag) in
      (ap (λ h. open_call h d.0) same, ap (λ h. known_at set h d) same)
  others-keep hs (passed b flag) d apart may =
      let same = history_quiet hs (passed b flag) (waits b flag) in
      (ap (λ h. open_call h d.0) same, ap (λ h. known_at set h d) same)

  next-still : (hs : List Happening) (k : Course) (move : NextMove) (x : Happening) → ((doer x).0 == k.dom.0) ≡ false
      → CanComeNext set hs x → IsNext hs k move → IsNext (hs ++ x ∷ []) k move
  next-still hs k (Makes d step) x apart may (u, busy, own, is, alike) =
      let same = others-keep hs x k.dom apart may in (
        u,
        busy,
        own,
        same.0 ∙ is,
        λ z leads. alike z
            (ap (λ (l : CallerKnowledge). path l k.dom u.request (values u)) (sym same.1) ∙ leads),
      )
  next-still hs k (Awaits flag) x apart may next = next
  next-still hs k Free x apart may next = (next.0, tasks-still hs x k.tasks next.1)

  -- two happenings

  touches-as : (A B : Touch → Type 0) (d : DomId) (y : Step) → ((touch : Touch) → A touch → B touch) → StepTouches A d y
      → StepTouches B d y
  touches-as A B d (call_steps.LookHeader dom) f t = f _ t
  touches-as A B d (call_steps.LookControl dom gref) f t = f _ t
  touches-as A B d (call_steps.LookBody dom gref body_word) f t = f _ t
  touches-as A B d (call_steps.Pin p) f t = f _ t
  touches-as A B d (call_steps.Unpin p holder) f t = f _ t
  touches-as A B d (call_steps.StoreBody gref body_word word) f t = f _ t
  touches-as A B d (call_steps.StoreHeader version frames) f t = f _ t
  touches-as A B d (call_steps.Exchange gref looked change) f t = f _ t
  touches-as A B d (call_steps.Read dom frame off len) f t = f _ t
  touches-as A B d (call_steps.Write dom frame off len) f t = f _ t
  touches-as A B d (call_steps.Copy from to len) f t = (f _ t.0, f _ t.1)

  turned-back : (a b : ℕ) → (a == b) ≡ false → (b == a) ≡ false
  turned-back a b apart = grind arith

  turned : (h : History) (i j : Item) → AreApart set h j i → AreApart set h i j
  turned h i j apart = record {
    actors = turned-back j.actor.0 i.actor.0 apart.actors;
    first = apart.second;
    second = apart.first;
    frames = λ t f. by (apart.frames t f);
  } where
    by : {A B : Type 0} → A ⊎ B → B ⊎ A
    by (inl a) = inr a
    by (inr b) = inl b

  -- the step of an open call, and an item before it of another domain which touches nothing that the step meets
  step-apart : (grants : List GrantedEntry) (h : History) (i j : Item) (d : DomId) (step : Step) (u : Underway)
      → (i.actor.0 == j.actor.0) ≡ false
      → ItemTouches (Unmet (Makes d step)) h i.actor i.happened → j.actor ≡ d → open_call h d.0 ≡ Some u
      → ((z : Step) → path (known_at set h d) d u.request (values u) ≡ Some (actions.Step z)
      → (touch : Touch) → step_meets d z touch ≡ step_meets d step touch)
      → (z : Step) (w : Observation) → j.happened ≡ Stepped z w → StepsRightIn set (i ∷ h) j z w (open_call (i ∷ h) d.0)
      → IsSound grants set h → AreApart set h i j
  step-apart grants h i j d step u apart touches own is meets z w did-j right sound =
      by-right (open_call (i ∷ h) d.0) (open_call-other i h d.0 off ∙ is) right
    where
      off : (i.actor.0 == d.0) ≡ false
      off = ap (λ (b : DomId). i.actor.0 == b.0) (sym own) ∙ apart

      by-item : (x : ItemEvent) → i.happened ≡ x → ItemTouches (Unmet (Makes d step)) h i.actor x
          → path (known_at set h d) d u.request (values u) ≡ Some (actions.Step z)
          → Releases h j.actor z → AreApart set h i j
      by-item (Began q) did-i t leads releases = began-apart set h i j q apart did-i
      by-item (Stepped y v) did-i t leads releases = steps-apart set h i j y z v w apart
          (subst (λ b. StepTouches (λ touch. step_meets b z touch ≡ false) i.actor y) (sym own)
          (touches-as (Unmet (Makes d step)) (λ touch. step_meets d z touch ≡ false) i.actor y
          (λ touch no. meets z leads touch ∙ no) t.0)) t.1 releases did-i did-j

      by-right : (o : Option Underway) → o ≡ Some u → StepsRightIn set (i ∷ h) j z w o → AreApart set h i j
      by-right None some r = absurd (none-some u some)
      by-right (Some v) some r =
          let same : v ≡ u = same_Some v u some in
          let leads : path (known_at set h d) d u.request (values u) ≡ Some (actions.Step z) =
          ap (λ (k : CallerKnowledge). path k d u.request (values u)) (sym (other-known set i h d off))
          ∙ ap (λ (b : DomId). path (known_at set (i ∷ h) b) b u.request (values u)) (sym own)
          ∙ ap (λ (c : Underway). path (known_at set (i ∷ h) j.actor) j.actor c.request (values c)) (sym same)
          ∙ r.continues in
          by-item i.happened refl touches leads
          (subst (λ b. Releases h b z) (sym own) (releases-own grants set h sound d u is z leads))

  -- the next move of a domain, and what another domain does before it, of which it meets nothing
  abbrev ComesFree : List Happening → Happening → Happening → Type 0
  ComesFree hs y x = IsFree set hs x × AreItemsApart set hs x y

  begin-free : (hs : List Happening) (y : Happening) (d : DomId) (q : Request) (z : Element)
      → CanComeNext set (hs ++ y ∷ []) (did (Begin d q) z) → AreItemsApart set hs (did (Begin d q) z) y
  begin-free hs (did e w) d q z may = λ i j did-i did-j apart.
      turned (history_in hs) i j (began-apart set (history_in hs) j i q (turned-back i.actor.0 j.actor.0 apart)
      (began z j did-j may))
    where
      began : (v : Element) (j : Item) → v ≡ elements.Item j → MayDo set (history_in (hs ++ did e w ∷ [])) (Begin d q) v
          → j.happened ≡ Began q
      began v j is m = (subst (MayDo set (history_in (hs ++ did e w ∷ [])) (Begin d q)) is m).1.1
  begin-free hs (raised b flag) d q z may = tt
  begin-free hs (passed b flag) d q z may = tt

  -- a line of a domain that is not calling
  line-free : (grants : List GrantedEntry) (hs : List Happening) (k : Course) (move : NextMove) (t : RunTask) (ts : List RunTask)
      (y x : Happening) (j : Course) → k.opened ≡ resting → k.tasks ≡ t ∷ ts → IsNext hs k move → HappeningTouches (Unmet move) hs y
      → ActionLeads (type_names c.head) k t.line ts t.run_action x j → CanComeNext set (hs ++ y ∷ []) x → ComesFree hs y x
  line-free grants hs k move t ts y x j rest tasks next touches leads may = by t.run_action refl leads where
    flag-free : (m : NextMove) (flag : ℕ) → t.run_action ≡ Await flag → IsNext hs k m → HappeningTouches (Unmet m) hs y
        → IsRaisedBefore (length (hs ++ y ∷ [])) flag (hs ++ y ∷ []) → IsRaisedBefore (length hs) flag hs
    flag-free (Makes d step) flag awaits n touch was = absurd (n.1 rest)
    flag-free Free flag awaits n touch was =
        subst (FreeLine hs) awaits (subst (FreeTasks hs) tasks n.1)
    flag-free (Awaits other) flag awaits n touch was = elim (raised_or hs y flag was) [
      | inl before ↦ before
      | inr now ↦ absurd (false≢true (sym (subst (HappeningTouches (Unmet (Awaits other)) hs) now.1 touch)
          ∙ eq-eqb flag other (same-flag flag other (sym awaits ∙ ap (λ (u : RunTask). u.run_action)
          (head-same (sym tasks ∙ n.3)) ∙ n.4))))
    ] where
      head-same : t ∷ ts ≡ n.0 ∷ n.1 → t ≡ n.0
      head-same e = cc

      same-flag : (a b : ℕ) → Await a ≡ Await b → a ≡ b
      same-flag a b e = cc

    by : (run_action : RunAction) → t.run_action ≡ run_action → ActionLeads (type_names c.head) k t.line ts run_action x j → ComesFree hs y x
    by (Tell flag) is l = subst (ComesFree hs y) (sym l.0) (tt, tt)
    by (Await flag) is l = subst (ComesFree hs y) (sym l.0)
        (flag-free move flag is next touches (subst (CanComeNext set (hs ++ y ∷ [])) l.0 may), tt)
    by (Do call) is (q, e, says, did-is, to) = subst (ComesFree hs y) (sym did-is)
        (tt, begin-free hs y k.dom q e (subst (CanComeNext set (hs ++ y ∷ [])) did-is may))

  rest-free : (grants : List GrantedEntry) (hs : List Happening) (k : Course) (move : NextMove) (tasks : List RunTask) (choice : ℕ)
      (y x : Happening) (j : Course) → k.opened ≡ resting → k.tasks ≡ tasks → IsNext hs k move → HappeningTouches (Unmet move) hs y
      → RestLeads (type_names c.head) k tasks choice x j → CanComeNext set (hs ++ y ∷ []) x → ComesFree hs y x
  rest-free grants hs k move [] choice y x j rest same next touches (handle, e, there, is, to) may =
      subst (ComesFree hs y) (sym is)
      (tt, begin-free hs y k.dom (requests.Release handle) e (subst (CanComeNext set (hs ++ y ∷ [])) is may))
  rest-free grants hs k move (t ∷ ts) choice y x j rest same next touches leads may =
      line-free grants hs k move t ts y x j rest same next touches leads.1 may

  -- a step of an open call
  tick-free : (grants : List GrantedEntry) (hs : List Happening) (k : Course) (move : NextMove) (y : Happening) (z : Element)
      → k.opened ≢ resting
      → IsNext hs k move → HappeningTouches (Unmet move) hs y → IsSound grants set (history_in hs)
      → CanComeNext set hs y → CanComeNext set (hs ++ y ∷ []) (did (Tick k.dom) z)
      → AreItemsApart set hs (did (Tick k.dom) z) y
  tick-free grants hs k (Awaits flag) y z busy next touches sound first may = absurd (busy next.2)
  tick-free grants hs k Free y z busy next touches sound first may = absurd (busy next.0)
  tick-free grants hs k (Makes d step) (raised b flag) z busy next touches sound first may = tt
  tick-free grants hs k (Makes d step) (passed b flag) z busy next touches sound first may = tt
  tick-free grants hs k (Makes d step) (did e w) z busy (u, not-rest, own, is, same) touches sound first may =
      λ i j did-i did-j apart. by i j apart
      (mine i e (subst (MayDo set (history_in hs) e) did-i first)
      (subst (ElementTouches (Unmet (Makes d step)) (history_in hs) (actor_of e)) did-i touches))
      (subst (λ l. MayDo set l (Tick k.dom) (elements.Item j)) (history_did hs e w ∙ ap (grown (history_in hs)) did-i)
      (subst (MayDo set (history_in (hs ++ did e w ∷ [])) (Tick k.dom)) did-j may))
    where
      mine : (i : Item) (f : Event) → MayDo set (history_in hs) f (elements.Item i)
          → ItemTouches (Unmet (Makes d step)) (history_in hs) (actor_of f) i.happened
          → ItemTouches (Unmet (Makes d step)) (history_in hs) i.actor i.happened
      mine i (Begin b q) m t = subst (λ a. ItemTouches (Unmet (Makes d step)) (history_in hs) a i.happened)
          (sym m.1.0) t
      mine i (Tick b) m t = subst (λ a. ItemTouches (Unmet (Makes d step)) (history_in hs) a i.happened)
          (sym m.1.0) t

      by : (i j : Item) → (i.actor.0 == j.actor.0) ≡ false
          → ItemTouches (Unmet (Makes d step)) (history_in hs) i.actor i.happened
          → MayDo set (i ∷ history_in hs) (Tick k.dom) (elements.Item j) → AreApart set (history_in hs) i j
      by i j apart t m = stepped j.happened m.1 m.2 where
        stepped : (x : ItemEvent) → IsItemOf (Tick k.dom) (record j { happened = x })
            → IsRight set (i ∷ history_in hs) (record j { happened = x })
            → AreApart set (history_in hs) i (record j { happened = x })
        stepped (Began q) of right = absurd of.1
        stepped (Stepped v seen) of right =
            step-apart grants (history_in hs) i (record j { happened = Stepped v seen }) k.dom step u apart
            (subst (λ b. ItemTouches (Unmet (Makes b step))
            (history_in hs) i.actor i.happened) own t) of.0 is same v seen
            refl (subst (λ a. StepsRightIn set (i ∷ history_in hs) (record j { happened = Stepped v seen }) v seen
            (open_call (i ∷ history_in hs) a.0)) of.0 right) sound

  -- the next move of a domain is free to come before what another domain did, of which it meets nothing
  move-free : (grants : List GrantedEntry) (hs : List Happening) (k : Course) (move : NextMove) (choice : ℕ) (y x : Happening)
      (j : Course)
      → IsNext hs k move → HappeningTouches (Unmet move) hs y → IsSound grants set (history_in hs)
      → CourseLeads (type_names c.head) k choice x j
      → CanComeNext set hs y → CanComeNext set (hs ++ y ∷ []) x → ComesFree hs y x
  move-free grants hs k move choice y x j next touches sound leads first may = by k.opened refl leads where
    tick : (e : Element) → k.opened ≢ resting → x ≡ did (Tick k.dom) e → ComesFree hs y x
    tick e busy is = subst (ComesFree hs y) (sym is)
        (tt, tick-free grants hs k move y e busy next touches sound first (subst (CanComeNext set (hs ++ y ∷ [])) is may))

    by : (opened : Opened) → k.opened ≡ opened → OpenLeads (type_names c.head) k opened choice x j → ComesFree hs y x
    by resting is l = rest-free grants hs k move k.tasks choice y x j is refl next touches l may
    by (calling line call lost) is (none, e, did-is, to) =
        tick e (λ rest. let no : calling line call lost ≡ resting = sym is ∙ rest in cc) did-is
    by giving is (none, e, did-is, to) =
        tick e (λ rest. let no : giving ≡ resting = sym is ∙ rest in cc) did-is

  -- ways

  -- the first turn of a domain inside is one of this domain
  abbrev IsFirst : (ℕ → Bool) → ℕ → List Turn → Type 0
  IsFirst inside p [] = ⊥
  IsFirst inside p (u ∷ us) = (u.place ≡ p) ⊎ ((inside u.place ≡ false) × IsFirst inside p us)

  module _ (inside : ℕ → Bool) where
    -- on each way to the ends some domain inside moves first, if one of them is not at its end
    some-first : (hs : List Happening) (ks : List Course) (us : List Turn) (ls : List Course) (q : ℕ) (k : Course)
        → inside q ≡ true → slice_get ks q ≡ Some k → (CourseEnds k → ⊥) → Goes hs ks us ls
        → (p : ℕ) × (l : Course) × (inside p ≡ true) × (slice_get ks p ≡ Some l) × IsFirst inside p us
    some-first hs ks [] ls q k on here going goes = absurd (going (one-ends ks q k goes.1 here))
    some-first hs ks (u ∷ us) ls q k on here going (l, i, y, there, leads, may, goes) =
        by (inside u.place) refl (λ off. some-first (hs ++ y ∷ []) (slice_set ks u.place i) us ls q k on
        (get-apart ks u.place q i (λ same. false≢true (sym off ∙ ap inside same ∙ on)) ∙ here) going goes)
      where
        by : (b : Bool) → inside u.place ≡ b
            → (inside u.place ≡ false → (p : ℕ) × (m : Course) × (inside p ≡ true)
            × (slice_get (slice_set ks u.place i) p ≡ Some m) × IsFirst inside p us)
            → (p : ℕ) × (m : Course) × (inside p ≡ true) × (slice_get ks p ≡ Some m) × IsFirst inside p (u ∷ us)
        by true is rec = (u.place, l, is, there, inl refl)
        by false is rec = let it = rec is in (
          it.0,
          it.1,
          it.2,
          sym (get-apart ks u.place it.0 i (λ same. false≢true (sym is ∙ ap inside same ∙ it.2))) ∙ it.3,
          inr (is, it.4),
        )

    module _ (p : ℕ) (k : Course) (move : NextMove) (on : inside p ≡ true) (use_at : ℕ → MappingUse)
        (grants : List GrantedEntry) (start : IsLikeReached set []) (shut : List Bool) where
      -- what the domains outside may touch before a shut flag is raised, the next move does not meet, and they raise none
      abbrev OthersUnmet : List Happening → List Course → Type 0
      OthersUnmet hs ks = (e : ℕ) (l : Course) → slice_get ks e ≡ Some l → inside e ≡ false
          → Within (Unmet move) grants (use_at e) hs l.dom (reachable shut l.tasks) × TellNone shut (reachable shut l.tasks)

      -- the handles of each domain were answered to it
      abbrev AreAnswered : List Happening → List Course → Type 0
      AreAnswered hs ks = (e : ℕ) (l : Course) → slice_get ks e ≡ Some l → WasAnsweredAll (history_in hs) l

      -- what the domain does can be pulled to the front
      pull : (hs : List Happening) (ks : List Course) (us : List Turn) (ls : List Course) → AllDiffer (numbers ks)
          → slice_get ks p ≡ Some k → IsNext hs k move → OthersUnmet hs ks → NoneRaised shut hs
          → Grew grants set (history_in hs) → AreAnswered hs ks
          → IsFirst inside p us → Goes hs ks us ls → GoesFirst p k hs ks ls
      pull hs ks [] ls differ here next unmet none grew answered first goes = absurd first
      pull hs ks (u ∷ us) ls differ here next unmet none grew answered (inl same) (l, i, y, there, leads, may, goes) =
          let is : l ≡ k = same_Some l k (sym there ∙ ap (λ n. slice_get ks n) same ∙ here) in (
            u.choice,
            i,
            y,
            us,
            subst (λ z. CourseLeads (type_names c.head) z u.choice y i) is leads,
            may,
            subst (λ n. Goes (hs ++ y ∷ []) (slice_set ks n i) us ls) same goes,
          )
      pull hs ks (u ∷ us) ls differ here next unmet none grew answered (inr (out, first)) (l, i, y, there, leads, may, goes) =
          later (pull (hs ++ y ∷ []) (slice_set ks u.place i) us ls
          (subst AllDiffer (sym (numbers-set ks u.place l i there dom.0)) differ) (get-apart ks u.place p i apart
          ∙ here)
          (next-still hs k move y others may next) now (none-more shut hs y none told.1)
          (happening-grew grants set hs y may said grew) answered-now first goes)
        where
          dom : (i.dom ≡ l.dom) × (doer y ≡ l.dom)
          dom = leads-dom (type_names c.head) l i u.choice y leads

          apart : u.place ≢ p
          apart = λ same. false≢true (sym out ∙ ap inside same ∙ on)

          differs : (e : ℕ) (m : Course) → slice_get ks e ≡ Some m → u.place ≢ e → ((doer y).0 == m.dom.0) ≡ false
          differs e m at other = number-apart (doer y).0 m.dom.0
              (λ same. differ-at ks u.place e l m differ there at other
              (ap (λ (d : DomId). d.0) (sym dom.1) ∙ same))

          others : ((doer y).0 == k.dom.0) ≡ false
          others = differs p k here apart

          sound : IsSound grants set (history_in hs)
          sound = grew-sound grants set start (history_in hs) grew

          -- what the domain does before a shut flag is raised
          way : CourseLeads (type_names c.head) (cut shut l) u.choice y (cut shut i)
          way = cut-leads shut (type_names c.head) set hs none l i u.choice y may leads

          mine : Within (Unmet move) grants (use_at u.place) (hs ++ y ∷ []) i.dom (reachable shut i.tasks)
              × HappeningTouches (Unmet move) hs y
          mine = course-within (Unmet move) grants (use_at u.place) (type_names c.head) set hs (cut shut l) (cut shut i)
              u.choice y way may (unmet u.place l there out).0 sound

          said : HappeningSaid grants set hs y
          said = course-said grants set (type_names c.head) hs (cut shut l) (cut shut i) u.choice y way may
              (tasks-listed (Unmet move) grants (use_at u.place) l.dom (reachable shut l.tasks)
              (unmet u.place l there out).0.tasks_touch)
              (left-answered (history_in hs) l (reachable shut l.tasks) (answered u.place l there))

          answered-now : AreAnswered (hs ++ y ∷ []) (slice_set ks u.place i)
          answered-now e m at = by (get_set ks u.place e i m at) where
            by : ((e ≡ u.place) × (i ≡ m)) ⊎ ((e ≢ u.place) × (slice_get ks e ≡ Some m))
                → WasAnsweredAll (history_in (hs ++ y ∷ [])) m
            by (inl (same, is)) = subst (WasAnsweredAll (history_in (hs ++ y ∷ []))) is
                (course-answered set hs l i (answered u.place l there) (type_names c.head) u.choice y leads may)
            by (inr (other, was)) = others-answered hs y m (answered e m was)

          told : TellNone shut (reachable shut i.tasks) × RaisesNone shut y
          told = leads-tells shut (type_names c.head) (cut shut l) (cut shut i) u.choice y way (unmet u.place l there out).1

          now : OthersUnmet (hs ++ y ∷ []) (slice_set ks u.place i)
          now e m at off = by (get_set ks u.place e i m at) where
            by : ((e ≡ u.place) × (i ≡ m)) ⊎ ((e ≢ u.place) × (slice_get ks e ≡ Some m))
                → Within (Unmet move) grants (use_at e) (hs ++ y ∷ []) m.dom (reachable shut m.tasks)
                × TellNone shut (reachable shut m.tasks)
            by (inl (same, is)) = (
              subst (λ n. Within (Unmet move) grants (use_at n) (hs ++ y ∷ []) m.dom (reachable shut m.tasks)) (sym same)
                  (subst (λ (z : Course). Within (Unmet move) grants (use_at u.place) (hs ++ y ∷ []) z.dom
                  (reachable shut z.tasks)) is mine.0),
              subst (λ (z : Course). TellNone shut (reachable shut z.tasks)) is told.0,
            )
            by (inr (other, was)) = (
              others-within (Unmet move) grants (use_at e) set hs y m.dom (reachable shut m.tasks)
                  (differs e m was (λ same. other (sym same))) may (unmet e m was off).0,
              (unmet e m was off).1,
            )

          later : GoesFirst p k (hs ++ y ∷ []) (slice_set ks u.place i) ls → GoesFirst p k hs ks ls
          later (choice, j, x, more, lead, come, rest) =
              let own = leads-dom (type_names c.head) k j choice x lead in
              let free = move-free grants hs k move choice y x j next mine.1 sound lead may come in
              let both = swap-first set hs y x free.0 free.1
              (ap (λ (d : DomId). (doer y).0 == d.0) own.1 ∙ others) may come in (
                choice,
                j,
                x,
                u ∷ more,
                lead,
                both.0,
                (
                  l,
                  i,
                  y,
                  get-apart ks p u.place j (λ same. apart (sym same)) ∙ there,
                  leads,
                  both.1,
                  follow ((hs ++ y ∷ []) ++ x ∷ []) ((hs ++ x ∷ []) ++ y ∷ [])
                      (slice_set (slice_set ks p j) u.place i) more ls both.2
                      (subst (λ z. Goes ((hs ++ y ∷ []) ++ x ∷ []) z more ls) (set-apart ks u.place p i j apart) rest),
                ),
              )

abbrev point : RunContents → List Happening → List Course → Point
point c hs ks = record { script = c; happened = hs; courses = ks }

to-goes : (scene : SearchContext) (c : RunContents) (hs : List Happening) (ks : List Course) (us : List Turn)
    (q : Point)
    → GoesTo (scene_ways scene) (point c hs ks) us q → Goes c hs ks us q.courses
to-goes scene c hs ks [] q goes = (ap (λ (z : Point). z.courses) goes.0, goes.1)
to-goes scene c hs ks (u ∷ us) q (m, next, goes) = (
  next.k,
  next.j,
  next.x,
  next.there,
  next.leads,
  next.next,
  to-goes scene c (hs ++ next.x ∷ []) (slice_set ks u.place next.j) us q
      (subst (λ z. GoesTo (scene_ways scene) (point c (hs ++ next.x ∷ []) z) us q) next.courses
      (subst (λ z. GoesTo (scene_ways scene) (point c z m.courses) us q) next.happened
      (subst (λ z. GoesTo (scene_ways scene) (point z m.happened m.courses) us q) next.script goes))),
)

from-goes : (scene : SearchContext) (c : RunContents) (hs : List Happening) (ks : List Course) (us : List Turn)
    (ls : List Course) → Goes c hs ks us ls
    → (r : Point) × GoesTo (scene_ways scene) (point c hs ks) us r × (r.courses ≡ ls)
from-goes scene c hs ks [] ls goes = (point c hs ks, (refl, goes.1), goes.0)
from-goes scene c hs ks (u ∷ us) ls (k, j, x, there, leads, may, on) =
    let it = from-goes scene c (hs ++ x ∷ []) (slice_set ks u.place j) us ls on in (
      it.0,
      (
        point c (hs ++ x ∷ []) (slice_set ks u.place j),
        record {
          script = refl;
          k = k;
          j = j;
          x = x;
          there = there;
          leads = leads;
          next = may;
          happened = refl;
          courses = refl;
        },
        it.1,
      ),
      it.2,
    )

-- a state

get-told : (told : List Bool) (flag : ℕ) → get_or told flag false ≡ true → slice_get told flag ≡ Some true
get-told [] flag is = absurd (false≢true is)
get-told (b ∷ told) zero is = ap Some is
get-told (b ∷ told) (suc flag) is = get-told told flag is

or-first : (a b : Bool) → a ≡ true → (a || b) ≡ true
or-first a b e = ap (λ x. x || b) e

or-second : (a b : Bool) → b ≡ true → (a || b) ≡ true
or-second true b e = refl
or-second false b e = e

drop-none : (n : ℕ) (xs : List RunTask) → slice_get xs n ≡ None → drop n xs ≡ []
drop-none zero [] is = refl
drop-none (suc n) [] is = refl
drop-none zero (x ∷ xs) is = absurd (none-some x (sym is))
drop-none (suc n) (x ∷ xs) is = drop-none n xs is

told-get : (told : List Bool) (flag : ℕ) → slice_get told flag ≡ Some true → get_or told flag false ≡ true
told-get [] flag is = absurd (none-some true is)
told-get (b ∷ told) zero is = same_Some b true is
told-get (b ∷ told) (suc flag) is = told-get told flag is

module _ (c : RunContents) (scene : SearchContext) (hs : List Happening) (place : ℕ) (k : Course) (a : Actor)
    (show : ShowsCalls (setting_of_script c.head) (history_in hs) (tasks_at scene place) k a) where
  abbrev h : History
  h = history_in hs

  abbrev s : Setting
  s = setting_of_script c.head

  abbrev tasks : List RunTask
  tasks = tasks_at scene place

  -- what a state takes for the next move of a domain is that of the run

  open-next : (o : ActorCall) (u : Option Underway) → a.«open» ≡ Some o → open_call h k.dom.0 ≡ u
      → ShowsOpen s h tasks k a.next k.opened u (Some o) → IsNext c hs k (Makes o.call.caller o.step)
  open-next o None has is opens = absurd (closed k.opened opens) where
    closed : (opened : Opened) → ShowsOpen s h tasks k a.next opened None (Some o) → ⊥
    closed resting x = x
    closed (calling line call lost) x = x
    closed giving x = x
  open-next o (Some u) has is opens = (
    u,
    λ rest. subst (λ z. ShowsOpen s h tasks k a.next z (Some u) (Some o)) rest opens,
    along.caller,
    is,
    λ z leads touch.
        let same = run-makes s h k.dom u o along below (maps_answered_at h k.dom.0) show.rising z leads in
        sym (meets-under k.dom along.place z touch) ∙ ap (λ (y : Step). step_meets k.dom y touch) (sym same)
        ∙ meets-under k.dom along.place o.step touch,
  ) where
    along : GoesAlong s h k.dom u o
    along = along-of s h tasks k a.next k.opened u o opens

    below : maps_answered_at h k.dom.0 < SERIAL_LIMIT
    below = let few = show.few in let begun = show.begun in let short = tasks-short scene place in omega arith

  module _ (told : List Bool)
      (heard : (flag : ℕ) → slice_get told flag ≡ Some true → IsRaisedBefore (length hs) flag hs) where
    rest-next : (o : Option RunTask) → k.opened ≡ resting → slice_get tasks a.next ≡ o
        → IsNext c hs k (next_at_rest told o)
    rest-next None rest is = (rest, subst (FreeTasks c hs) (sym (show.left ∙ drop-none a.next tasks is)) tt)
    rest-next (Some t) rest is = by t.run_action refl where
      left : k.tasks ≡ t ∷ drop (suc a.next) tasks
      left = show.left ∙ drop_here tasks a.next t is

      free : FreeLine c hs t.run_action → IsNext c hs k Free
      free line = (rest, subst (FreeTasks c hs) (sym left) line)

      by : (run_action : RunAction) → t.run_action ≡ run_action → IsNext c hs k (next_at_rest told (Some (record t { run_action = run_action })))
      by (Do call) same = free (subst (FreeLine c hs) (sym same) tt)
      by (Tell flag) same = free (subst (FreeLine c hs) (sym same) tt)
      by (Await flag) same = flagged (get_or told flag false) refl where
        flagged : (b : Bool) → get_or told flag false ≡ b → IsNext c hs k (cond b Free (Awaits flag))
        flagged true e = free (subst (FreeLine c hs) (sym same) (heard flag (get-told told flag e)))
        flagged false e = (t, drop (suc a.next) tasks, rest, left, same)

    pub is-next : IsNext c hs k (next_move scene told place a)
    is-next = by a.«open» refl where
      by : (o : Option ActorCall) → a.«open» ≡ o → IsNext c hs k (next_move scene told place (record a { «open» = o }))
      by (Some o) has = open-next o (open_call h k.dom.0) has refl (subst (ShowsOpen s h tasks k a.next k.opened
          (open_call h k.dom.0)) has show.opens)
      by None has = rest-next (slice_get tasks a.next)
          (none-open s h tasks k a.next k.opened (open_call h k.dom.0) a.«open» has show.opens).0 refl

  -- what the state takes for what a domain may touch before a shut flag is raised is what it may

  module _ (shut : List Bool) where
    abbrev reach : List RunTask → List RunTask
    reach = reachable shut

    line-on-way : (t : RunTask) (call : ScriptCall) → t.run_action ≡ Do call → awaits_shut shut t ≡ false
    line-on-way t call is = ap (λ (x : RunAction). awaits_shut shut (record t { run_action = x })) is

    -- what holds of the tasks in reach, and behind each first task, holds of those that were not begun
    module _ (P : List RunTask → Type 0) (later : (t : RunTask) (ts : List RunTask) → P (t ∷ ts) → P ts) where
      begun-left : (o : ActorCall) (u : Underway) (opened : Opened)
          → ShowsOpen s h tasks k a.next opened (Some u) (Some o) → P (reach (drop (first_of a.next o.task) tasks))
          → P (reach (drop a.next tasks))
      begun-left o u resting opens all = absurd opens
      begun-left o u (calling line call lost) (along, task, said, held) all =
          subst (λ n. P (reach (drop n tasks))) task.last
          (later task.of_task (reach (drop (suc task.place) tasks))
          (subst P (reach-first shut task.of_task (drop (suc task.place) tasks)
          (line-on-way task.of_task call task.action_is))
          (subst (λ (ts : List RunTask). P (reach ts))
          (ap (λ (t : Option ℕ). drop (first_of a.next t) tasks) task.task_is
          ∙ drop_here tasks task.place task.of_task task.there) all)))
      begun-left o u giving (along, task, released) all =
          subst (λ (t : Option ℕ). P (reach (drop (first_of a.next t) tasks))) task all

      pub not-begun : P (reach (tasks_unfinished scene place a)) → P (reach k.tasks)
      not-begun all = subst (λ (ts : List RunTask). P (reach ts)) (sym show.left)
          (by a.«open» (open_call h k.dom.0) show.opens all)
        where
          by : (o : Option ActorCall) (u : Option Underway) → ShowsOpen s h tasks k a.next k.opened u o
              → P (reach (drop (first_left (record a { «open» = o })) tasks)) → P (reach (drop a.next tasks))
          by None u opens found = found
          by (Some o) (Some u) opens found = begun-left o u k.opened opens found
          by (Some o) None opens found = absurd (closed k.opened opens) where
            closed : (opened : Opened) → ShowsOpen s h tasks k a.next opened None (Some o) → ⊥
            closed resting x = x
            closed (calling line call lost) x = x
            closed giving x = x

    pub is-untold : TellNone shut (tasks_in_reach scene shut place a) → TellNone shut (reach k.tasks)
    is-untold none = not-begun (TellNone shut) (tell-later shut) none

  module _ (shut : List Bool) (move : NextMove)
      (own : (n : ℕ) (t : RunTask) → slice_get tasks n ≡ Some t → t.dom ≡ k.dom)
      (some : (n : ℕ) (t : RunTask) → slice_get tasks n ≡ Some t → IsListed scene.grants.items t) where
    abbrev grants : List GrantedEntry
    grants = scene.grants.items

    abbrev uses : MappingUse
    uses = use_of (tasks_in_reach scene shut place a)

    -- these tasks load and store only so, and the move meets none of them
    abbrev AreUnmet : List RunTask → Type 0
    AreUnmet ts = (list_any is_load ts ≡ true → uses.loads ≡ true) × (list_any is_store ts ≡ true → uses.stores ≡ true)
        × (list_any (meets_task grants uses move) ts ≡ false)

    task-unmet : (t : RunTask) (ts : List RunTask) → t.dom ≡ k.dom → IsListed grants t
        → (AreUnmet (reach shut ts) → TasksTouch (Unmet move) grants uses k.dom (reach shut ts))
        → AreUnmet (reach shut (t ∷ ts)) → TasksTouch (Unmet move) grants uses k.dom (reach shut (t ∷ ts))
    task-unmet t ts mine listed more = by (awaits_shut shut t) where
      line : IsListedLine grants k.dom t.run_action
      line = subst (λ (d : DomId). IsListedLine grants d t.run_action) mine
          (record { lists = listed.lists; fits = listed.fits })

      by : (b : Bool) → AreUnmet (cond b [] (t ∷ reach shut ts))
          → TasksTouch (Unmet move) grants uses k.dom (cond b [] (t ∷ reach shut ts))
      by true unmet = tt
      by false unmet =
          let both = or-false (meets_task grants uses move t) (list_any (meets_task grants uses move) (reach shut ts))
          unmet.2 in (
            (
              unmet-run_action grants uses move k.dom t mine (
                (λ e. unmet.0 (or-first (is_load t) (list_any is_load (reach shut ts)) e)),
                (λ e. unmet.1 (or-first (is_store t) (list_any is_store (reach shut ts)) e)),
              ) both.0,
              line,
            ),
            more (
              (λ e. unmet.0 (or-second (is_load t) (list_any is_load (reach shut ts)) e)),
              (λ e. unmet.1 (or-second (is_store t) (list_any is_store (reach shut ts)) e)),
              both.1,
            ),
          )

    tasks-unmet : (n : ℕ) (ts : List RunTask) → ((m : ℕ) (t : RunTask) → slice_get ts m ≡ Some t → t.dom ≡ k.dom)
        → ((m : ℕ) (t : RunTask) → slice_get ts m ≡ Some t → IsListed grants t)
        → AreUnmet (reach shut (drop n ts)) → TasksTouch (Unmet move) grants uses k.dom (reach shut (drop n ts))
    tasks-unmet zero [] mine listed unmet = tt
    tasks-unmet (suc n) [] mine listed unmet = tt
    tasks-unmet zero (t ∷ ts) mine listed unmet =
        task-unmet t ts (mine 0 t refl) (listed 0 t refl)
        (tasks-unmet zero ts (λ m. mine (suc m)) (λ m. listed (suc m))) unmet
    tasks-unmet (suc n) (t ∷ ts) mine listed unmet = tasks-unmet n ts (λ m. mine (suc m)) (λ m. listed (suc m)) unmet

    pins-unmet : (ls : List LabelledMapping) (ms : List (Handle × HeldPin))
        → mapping_pins ls ≡ map (λ (m : Handle × HeldPin). m.1) ms
        → list_any (λ (m : LabelledMapping). meets_mapping uses move m.held) ls ≡ false
        → PinsTouch (Unmet move) grants uses ms
    pins-unmet [] [] same none = tt
    pins-unmet [] (m ∷ ms) same none = absurd (cc)
    pins-unmet (l ∷ ls) [] same none = absurd (cc)
    pins-unmet (l ∷ ls) (m ∷ ms) same none =
        let both = or-false (meets_mapping uses move l.held)
        (list_any (λ (m : LabelledMapping). meets_mapping uses move m.held) ls) none in
        let one : l.held ≡ m.1 = cc in
        let more : mapping_pins ls ≡ map (λ (m : Handle × HeldPin). m.1) ms = cc in
        (subst (PinTouches (Unmet move) uses) one (unmet-mapping uses move l.held both.0), pins-unmet ls ms more both.1)

    -- what an open call may touch

    later-unmet : (o : ActorCall) (u : Underway) (opened : Opened)
        → ShowsOpen s h tasks k a.next opened (Some u) (Some o)
        → TasksTouch (Unmet move) grants uses k.dom (reach shut (drop (first_of a.next o.task) tasks))
        → RequestTouches (Unmet move) grants uses k.dom u.request
    later-unmet o u resting opens all = absurd opens
    later-unmet o u (calling line call lost) (along, task, said, held) all =
        let whole = subst (TasksTouch (Unmet move) grants uses k.dom)
        (ap (λ (t : Option ℕ). reach shut (drop (first_of a.next t) tasks)) task.task_is
        ∙ ap (reach shut) (drop_here tasks task.place task.of_task task.there)
        ∙ reach-first shut task.of_task (drop (suc task.place) tasks)
        (line-on-way shut task.of_task call task.action_is))
        all in
        subst (RequestTouches (Unmet move) grants uses k.dom) (sym said.asks)
        (said-touches (Unmet move) grants uses said.named k.dom call said.request said.makes
        (subst (ActionTouches (Unmet move) grants uses k.dom) task.action_is whole.0.0))
    later-unmet o u giving (along, task, released) all =
        subst (RequestTouches (Unmet move) grants uses k.dom) (sym released.1) tt

    left-unmet : (o : Option ActorCall) (u : Option Underway) → ShowsOpen s h tasks k a.next k.opened u o
        → TasksTouch (Unmet move) grants uses k.dom (reach shut (drop (first_left (record a { «open» = o })) tasks))
        → CallWithin (Unmet move) grants uses k.dom u
    left-unmet o None opens all = tt
    left-unmet None (Some u) opens all = absurd (closed k.opened opens) where
      closed : (opened : Opened) → ShowsOpen s h tasks k a.next opened (Some u) None → ⊥
      closed resting x = x
      closed (calling line call lost) x = x
      closed giving x = x
    left-unmet (Some o) (Some u) opens all = later-unmet o u k.opened opens all

    pub is-within : may_meet move scene shut place a ≡ false → Within (Unmet move) grants uses hs k.dom (reach shut k.tasks)
    is-within none =
        let both = or-false (list_any (λ (m : LabelledMapping). meets_mapping uses move m.held) a.mappings.items)
        (list_any (meets_task grants uses move) (tasks_in_reach scene shut place a)) none in
        let all = tasks-unmet (first_left a) tasks own some ((λ e. e), (λ e. e), both.1) in
        record {
          tasks_touch = not-begun shut (TasksTouch (Unmet move) grants uses k.dom) (λ t ts touch. touch.1) all;
          past = record {
            maps = pins-unmet a.mappings.items (mappings_at h k.dom.0) show.pins both.0;
            call = left-unmet a.«open» (open_call h k.dom.0) show.opens all;
          };
        }

-- the turns

numbers-as : (ks : List Course) (ds : List DomainConfig) → map (λ (k : Course). k.dom) ks ≡ map
    (λ (d : DomainConfig). d.id) ds → numbers ks ≡ ids ds
numbers-as [] [] e = refl
numbers-as [] (d ∷ ds) e = absurd (cc)
numbers-as (k ∷ ks) [] e = absurd (cc)
numbers-as (k ∷ ks) (d ∷ ds) e =
    let one : k.dom ≡ d.id = cc in
    let more : map (λ (k : Course). k.dom) ks ≡ map (λ (d : DomainConfig). d.id) ds = cc in
    ap (λ (n : DomId). n.0 ∷ numbers ks) one ∙ ap (λ ns. d.id.0 ∷ ns) (numbers-as ks ds more)

numbered : (c : RunContents) (ks : List Course) → map (λ (k : Course). k.dom) ks ≡ map
    (λ (d : DomainConfig). d.id) c.head.domains → AllPairs (λ (d e : DomainConfig). d.id.0 ≢ e.id.0) c.head.domains
    → AllDiffer (numbers ks)
numbered c ks domains apart = subst AllDiffer (sym (numbers-as ks c.head.domains domains))
    (all-differ c.head.domains apart)

module _ (scene : SearchContext) (w : SearchState) (turns : List Turn) (members shut : List Bool)
    (stay : StayShut scene w members shut) (undisturbed : AreUndisturbed scene w members shut) (c : RunContents) (hs : List Happening) (ks : List Course)
    (is : IsSceneOf c scene) (shows : SceneShows c scene hs ks w) where
  course-at : (e : ℕ) (d : Actor) → slice_get w.actors.items e ≡ Some d → (l : Course) × (slice_get ks e ≡ Some l)
  course-at e d at = let lt = slice_get_within w.actors.items e d at in let many = shows.many in
      there_is ks e (omega (arith, lt, many))

  actor-at : (e : ℕ) (l : Course) → slice_get ks e ≡ Some l → (d : Actor) × (slice_get w.actors.items e ≡ Some d)
  actor-at e l at = let lt = slice_get_within ks e l at in let many = shows.many in
      there_is w.actors.items e (omega (arith, lt, many))

  abbrev member : ℕ → Bool
  member n = get_or members n false

  -- what the domain at this position does through its mappings
  abbrev use_in : Option Actor → ℕ → MappingUse
  use_in None e = record { loads = true; stores = true }
  use_in (Some b) e = use_of (tasks_in_reach scene shut e b)

  abbrev use_at : ℕ → MappingUse
  use_at e = use_in (slice_get w.actors.items e) e

  -- no shut flag was raised
  none-raised : NoneRaised shut hs
  none-raised flag is was = false≢true (sym (stay.unraised flag
      (told-get w.told.items flag (shows.told flag was))) ∙ is)

  -- what happened is a run of calls of the script
  grew : Grew scene.grants.items (setting_of_script c.head) (history_in hs)
  grew = record { run = shows.like.1.first; asked = shows.asked }

  -- a domain of the set goes first, by one of these turns
  by-first : (p : ℕ) (k : Course) (us : List Turn) (ls : List Course) → member p ≡ true → slice_get ks p ≡ Some k
      → IsFirst c member p us → Goes c hs ks us ls
      → (a : Actor) × (slice_get w.actors.items p ≡ Some a) × ((it : GoesFirst c p k hs ks ls) ×
      (it.0 < choices_at scene p a))
  by-first p k us ls on here first way =
      let a = actor-at p k here in
      let show = shows.each p k a.0 here a.1 in
      let it = pull c member p k (next_move scene w.told.items p a.0) on use_at scene.grants.items (scene-starts c scene is) shut hs ks us ls
      (numbered c ks shows.domains is.setting.apart) here
      (is-next c scene hs p k a.0 show w.told.items shows.heard) (others a.0 a.1) none-raised
      grew shows.answered first way in (
        a.0,
        a.1,
        (
          it,
          course-moves (setting_of_script c.head) (history_in hs) scene p k a.0 show (type_names c.head) it.0
              it.2 it.1 it.4,
        ),
      )
    where
      others : (a : Actor) → slice_get w.actors.items p ≡ Some a
          → OthersUnmet c member p k (next_move scene w.told.items p a) on use_at scene.grants.items (scene-starts c scene is) shut hs ks
      others a there e l at out =
          let other = actor-at e l at in
          let show = shows.each e l other.0 at other.1 in (
            subst (λ o. Within (Unmet (next_move scene w.told.items p a)) scene.grants.items (use_in o e) hs l.dom
                (reachable shut l.tasks)) (sym other.1)
                (is-within c scene hs e l other.0 show shut (next_move scene w.told.items p a)
                (task-own c scene hs ks w e l other.0 is shows at other.1) (task-listed c scene is e)
                (undisturbed p e a other.0 there other.1 on out)),
            is-untold c scene hs e l other.0 show shut
                (stay.untold e other.0 (slice_get_within w.actors.items e other.0 other.1) other.1 out),
          )

  going : (q : ℕ) (b : Actor) (l : Course) → slice_get w.actors.items q ≡ Some b → slice_get ks q ≡ Some l
      → is_done scene q b ≡ false → CourseEnds l → ⊥
  going q b l there here not-done over = false≢true (sym not-done ∙ ends-done (setting_of_script c.head) (history_in hs)
      scene q l b (shows.each q l b here there) over)

ends-by : (scene : SearchContext) (w : SearchState) (turns : List Turn) (members : List Bool) (c : RunContents)
    (hs : List Happening) (ks : List Course) (end : Point) (p : ℕ) (k : Course) (a : Actor)
    → get_or members p false ≡ true
    → slice_get ks p ≡ Some k → slice_get w.actors.items p ≡ Some a
    → turns ≡ turns_by (choices_in scene members) 0 w.actors.items
    → (it : GoesFirst c p k hs ks end.courses) → it.0 < choices_at scene p a
    → EndsSoBy (scene_ways scene) turns (point c hs ks) end
ends-by scene w turns members c hs ks end p k a on here there are (choice, j, x, us, lead, come, goes) lt =
    let back = from-goes scene c (hs ++ x ∷ []) (slice_set ks p j) us end.courses goes in
    let listed = turn-listed (choices_in scene members) w.actors.items p a choice there
    (subst (λ (b : Bool). choice < cond b (choices_at scene p a) 0) (sym on) lt) in (
      record { place = p; choice = choice },
      point c (hs ++ x ∷ []) (slice_set ks p j),
      us,
      back.0,
      (listed.0, ap (λ (l : List Turn). slice_get l listed.0) are ∙ listed.1),
      record {
        script = refl;
        k = k;
        j = j;
        x = x;
        there = here;
        leads = lead;
        next = come;
        happened = refl;
        courses = refl;
      },
      back.1,
      λ at. ap (λ (l : List Course). printed_by l at) back.2,
    )

set-enough : (scene : SearchContext) (w : SearchState) (turns : List Turn) → AreOfSet scene w turns
    → HasEnoughTurns (scene_ways scene) w turns
set-enough scene w turns (members, shut, stay, undisturbed, (q, b, there, in-q, not-done), are) p turn m more end shows next goes =
    let way = to-goes scene p.script p.happened p.courses (turn ∷ more) end (m, next, goes) in
    let l = course-at scene w turns members shut stay undisturbed p.script p.happened p.courses shows.0 shows.1 q b there in
    let first = some-first p.script (λ n. get_or members n false) p.happened p.courses (turn ∷ more) end.courses q l.0
    in-q l.1 (going scene w turns members shut stay undisturbed p.script p.happened p.courses shows.0 shows.1 q b l.0 there l.1
    not-done) way in
    let it = by-first scene w turns members shut stay undisturbed p.script p.happened p.courses shows.0 shows.1 first.0 first.1
    (turn ∷ more) end.courses first.2 first.3 first.4 way in
    ends-by scene w turns members p.script p.happened p.courses end first.0 first.1 it.0 first.2 first.3 it.1 are it.2.0
    it.2.1

pub enough-turns : (scene : SearchContext) (w : SearchState) (turns : List Turn) → AreToBeTried scene w turns
    → HasEnoughTurns (scene_ways scene) w turns
enough-turns scene w turns (inl all) = each_enough (scene_ways scene) w turns (each-turn scene w turns all)
enough-turns scene w turns (inr set) = set-enough scene w turns set
