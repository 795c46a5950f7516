-- The step that the open call of a domain is about to make in a state, and that of the run.
use Rattle.std.proofs.Common.{◌≡◌, ◌+◌, ◌<◌, ◌≤◌, ℕ, refl, List, ◌∷◌, Option, Some, None, sym, ap, ◌∙◌, arith, subst}
use Rattle.std.specs.Prelude.{slice_get}
use Rattle.gt_types.specs.declared.DomId.{DomId}
use Rattle.gt_types.specs.declared.config.DomainConfig.{DomainConfig}
use Rattle.gt_types.specs.declared.limits.TheConstants.{FRAME_SIZE}
use Rattle.gt_model.specs.declared.handle.Handle.{Handle}
use Rattle.gt_model.specs.declared.action.Action.TheVariants as actions
use Rattle.gt_model.specs.declared.action.Observation.{Observation}
use Rattle.gt_model.specs.declared.action.Step.{Step}
use Rattle.gt_model.specs.declared.action.Step.TheVariants.{Unpin}
use Rattle.gt_model.specs.declared.action.Step.TheVariants as call_steps
use Rattle.gt_calls.specs.declared.call.Call.{Call}
use Rattle.gt_calls.specs.declared.call.Phase.{Phase}
use Rattle.gt_model.specs.declared.bounds.TheConstants.{SERIAL_LIMIT}
use Rattle.gt_model.specs.declared.request.PinHolder.TheVariants as holders
use Rattle.gt_model.specs.declared.request.Request.{Request}
use Rattle.gt_model.specs.Asking.{asked, bytes_given_by}
use Rattle.gt_model.specs.Path.{path}
use Rattle.gt_model.specs.Rules.{CallerKnowledge}
use Rattle.gt_explore_state.specs.Rows.{kept_generation}
use Rattle.gt_calls.specs.Standing.{IsAt}
use Rattle.gt_model.specs.History.{History, Setting, Underway, change_at, given_in, maps_answered_at, open_call}
use Rattle.gt_model.specs.History.{seen_by, values}
use Rattle.gt_model.specs.Legal.{IsItemOf, IsRight, StepsRight, StepsRightIn}
use Rattle.gt_model.specs.declared.trace.Event.TheVariants.{Tick}
use Rattle.gt_model.specs.declared.trace.ItemEvent.{ItemEvent}
use Rattle.gt_model.specs.declared.trace.ItemEvent.TheVariants.{Began, Stepped}
use Rattle.gt_model.specs.declared.trace.Item.{Item}
use Rattle.gt_core.proofs.Words.{fun_ext}
use Rattle.gt_model.proofs.Observers.{kept-entry, kept-raises, stepped}
use Rattle.gt_script_runs.specs.Runs.{Named, MakesRequest, call_bytes, request_of}
use Rattle.gt_script_lines.specs.declared.calls.ScriptCall.{ScriptCall}
use Rattle.gt_script_lines.specs.declared.calls.ScriptCall.TheVariants as script_calls
use Rattle.gt_explore_replay.specs.Courses.{Course, Opened, calling, giving, resting}
use Rattle.gt_script.specs.Lists.{RunTask}
use Rattle.gt_explore_state.specs.Shows.{IsGivenTo, IsItemOfStep, IsInRun, LooksInRun, StepFits, TableShows}
use Rattle.gt_explore_state.specs.Shows.{TablesShow, unheld}
use Rattle.gt_explore_state.specs.declared.table.SparseTable.{SparseTable}
use Rattle.gt_explore_state.proofs.AlikeFitting.{like-fits-step}
use Rattle.gt_explore_state.proofs.Fitting.{of-place}
use Rattle.gt_explore_state.proofs.Showing.{item-is}
use Rattle.gt_explore_moves.specs.Calls.{GoesAlong, SerialsRise, ShowsOpen, handles_at, known_by_place}
use Rattle.gt_explore_moves.specs.Continuing.{IsGranting, StillKnows}
use Rattle.gt_explore_moves.specs.Ends.{tasks_at}
use Rattle.gt_explore_moves.specs.Renaming.{step_under}
use Rattle.gt_explore_moves.specs.Ticking.{IsTick, ReadsInFrame, bytes_by, bytes_in, task_in}
use Rattle.gt_explore_moves.specs.declared.actor.Actor.{Actor}
use Rattle.gt_explore_moves.specs.declared.actor.ActorCall.{ActorCall}
use Rattle.gt_explore_moves.specs.declared.scene.SearchContext.{SearchContext}
use Rattle.gt_explore_moves.specs.declared.scene.SearchState.{SearchState}
use Rattle.gt_explore_moves.proofs.OpenAlong.{run-makes}
use Rattle.gt_explore_moves.proofs.LikeCore.{IsWriting, StepInRun, step-in-run}
use Rattle.gt_explore_moves.proofs.LineBegins.{tasks-short}
use Rattle.gt_explore_moves.proofs.CallEnds.{GivesNone}

-- the step of the run that the state shows
pub record TickIs (s : Setting) (h : History) (tasks : List RunTask) (k : Course) (a : Actor) (o : ActorCall) (i : Item) : Type 0 where
  pub call : Underway
  pub step : Step
  pub opened : open_call h k.dom.0 ≡ Some call
  pub item : i ≡ stepped k.dom step (seen_by s h k.dom step) i.answer
  pub right : StepsRight s h (stepped k.dom step (seen_by s h k.dom step) i.answer) step (seen_by s h k.dom step) call
  pub shows : ShowsOpen s h tasks k a.next k.opened (Some call) (Some o)

-- steps that are the same but for a handle

unheld-under : (b : Handle) (y : Step) → unheld (step_under b y) ≡ unheld y
unheld-under b (Unpin p (holders.Mapping a)) = refl
unheld-under b y = refl

seen-under : (s : Setting) (h : History) (d : DomId) (b : Handle) (y : Step) → seen_by s h d (step_under b y) ≡ seen_by s h d y
seen-under s h d b (Unpin p (holders.Mapping a)) = refl
seen-under s h d b y = refl

change-under : (b : Handle) (y : Step) (seen : Observation) (r : ℕ) → change_at (Stepped (step_under b y) seen) r ≡ change_at (Stepped y seen) r
change-under b (Unpin p (holders.Mapping a)) seen r = refl
change-under b y seen r = refl

-- a step that gives up no mapping is the same
pub no-handle : (b : Handle) (y z : Step) → GivesNone y → step_under b y ≡ step_under b z → z ≡ y
no-handle b (Unpin p (holders.Mapping a)) z n e = absurd n
no-handle b y (Unpin p (holders.Mapping a)) n e = grind arith
no-handle b y z n e = grind arith

-- what a call is given that stores or pokes

said-given : (named : List Named) (d : DomId) (call : ScriptCall) (q : Request) → MakesRequest named d call q → IsWriting (asked q) → bytes_given_by q ≡ call_bytes call
unfolding request_of
said-given named d call q (bytes, hex, is) writes = ap bytes_given_by is ∙ by call hex (subst (λ (r : Request). IsWriting (asked r)) is writes) where
  by : (c : ScriptCall) → bytes.now ≡ call_bytes c → IsWriting (asked (request_of named d bytes c)) → bytes_given_by (request_of named d bytes c) ≡ call_bytes c
  by (script_calls.Store label off hex) e w = e
  by (script_calls.Poke frame off hex) e w = e
  by c e w = absurd w

given-open : (s : Setting) (h : History) (tasks : List RunTask) (k : Course) (next : ℕ) (opened : Opened) (c : Underway) (o : ActorCall) → ShowsOpen s h tasks k next opened (Some c) (Some o) → IsWriting c.request → bytes_by (task_in tasks o.task) ≡ c.given
given-open s h tasks k next resting c o show writes = absurd show
given-open s h tasks k next (calling line call lost) c o show writes = let task = show.1 in let said = show.2 in
    ap (λ (place : Option ℕ). bytes_by (task_in tasks place)) task.task_is ∙ ap bytes_by task.there ∙ ap bytes_in task.action_is
    ∙ sym (said-given said.named k.dom call said.request said.makes (subst IsWriting said.asks writes)) ∙ sym said.given
given-open s h tasks k next giving c o show writes = absurd (subst IsWriting show.2.1 writes)

-- the call of a state goes along that of the run
pub along-of : (s : Setting) (h : History) (tasks : List RunTask) (k : Course) (next : ℕ) (opened : Opened) (c : Underway) (o : ActorCall) → ShowsOpen s h tasks k next opened (Some c) (Some o) → GoesAlong s h k.dom c o
along-of s h tasks k next resting c o show = absurd show
along-of s h tasks k next (calling line call lost) c o show = show.0
along-of s h tasks k next giving c o show = show.0

-- while an entry is granted a step stores a body word
storing-step : (k : CallerKnowledge) (call : Call) (d : DomId) (shown : List Observation) (y : Step) (p : Phase) → call.caller ≡ d → IsAt k call shown → call.phase ≡ Some p → IsGranting p → path k d call.request shown ≡ Some (actions.Step y) → (r : ℕ) (seen : Observation) → change_at (Stepped y seen) r ≡ None
storing-step k call d shown y p own at here storing follows r seen = grind arith

-- what is so of the step that a state is about to make
pub record IsStepOf (s : Setting) (h : History) (scene : SearchContext) (at : ℕ) (k : Course) (o : ActorCall) (i : Item) : Type 0 where
  pub item : IsItemOfStep s h i at o.step (seen_by s h k.dom o.step)
  pub actor : i.actor ≡ k.dom
  pub looks : LooksInRun s k.dom o.step
  pub caller : o.call.caller ≡ k.dom
  pub given : IsGivenTo h i.actor o.step (bytes_by (task_in (tasks_at scene at) o.task))
  pub reads : ReadsInFrame o.step

module _ (s : Setting) (h : History) (scene : SearchContext) (before : SearchState) (at : ℕ) (k : Course) (a : Actor) (o : ActorCall) (i : Item) (tick : IsTick s h scene before at k a o i) where
  abbrev tasks : List RunTask
  tasks = tasks_at scene at

  open-shows : (u : Option Underway) → open_call h k.dom.0 ≡ u → ShowsOpen s h tasks k a.next k.opened u (Some o)
  open-shows u e = subst (ShowsOpen s h tasks k a.next k.opened u) tick.has (subst (λ (c : Option Underway). ShowsOpen s h tasks k a.next k.opened c a.«open») e tick.shows.shows.opens)

  in-call : (z : Step) (seen : Observation) (u : Option Underway) → open_call h k.dom.0 ≡ u → i ≡ stepped k.dom z seen i.answer → StepsRightIn s h (stepped k.dom z seen i.answer) z seen u → TickIs s h tasks k a o i
  in-call z seen None e is right = absurd right
  in-call z seen (Some c) e is right = record {
    call = c;
    step = z;
    opened = e;
    item = is ∙ ap (λ (v : Observation). stepped k.dom z v i.answer) right.sees;
    right = subst (λ (v : Observation). StepsRight s h (stepped k.dom z v i.answer) z v c) right.sees right;
    shows = open-shows (Some c) e;
  }

  pub tick-is : TickIs s h tasks k a o i
  tick-is = by i.happened refl tick.event where
    by : (x : ItemEvent) → i.happened ≡ x → IsItemOf (Tick k.dom) (record i { happened = x }) → TickIs s h tasks k a o i
    by (Began request) e event = absurd event.1
    by (Stepped z seen) e event = let is : i ≡ stepped k.dom z seen i.answer = item-is i k.dom z seen event.0 e in
        in-call z seen (open_call h k.dom.0) refl is (subst (IsRight s h) is tick.right)

  pub along : GoesAlong s h k.dom tick-is.call o
  along = along-of s h tasks k a.next k.opened tick-is.call o tick-is.shows

  pub below : maps_answered_at h k.dom.0 < SERIAL_LIMIT
  below = let few = tick.shows.shows.few in let begun = tick.shows.shows.begun in let short = tasks-short scene at in omega arith

  pub rising : SerialsRise 0 (handles_at h k.dom) (maps_answered_at h k.dom.0)
  rising = tick.shows.shows.rising

  -- the step of the state is that of the run but for the handle
  pub same-step : step_under along.place o.step ≡ step_under along.place tick-is.step
  same-step = run-makes s h k.dom tick-is.call o along below (maps_answered_at h k.dom.0) rising tick-is.step tick-is.right.continues

  pub same-seen : seen_by s h k.dom o.step ≡ seen_by s h k.dom tick-is.step
  same-seen = sym (seen-under s h k.dom along.place o.step) ∙ ap (seen_by s h k.dom) same-step ∙ seen-under s h k.dom along.place tick-is.step

  abbrev here : DomainConfig
  here = tick.shows.domain

  placed : slice_get s.domains at ≡ Some here
  placed = ap (λ (ds : List DomainConfig). slice_get ds at) (sym tick.shows.setting.domains) ∙ tick.shows.placed

  pub of-run : IsInRun s k.dom
  of-run = subst (IsInRun s) tick.shows.number (of-place s.domains at here placed)

  pub in-run : StepInRun s h k.dom tick-is.call tick-is.step (seen_by s h k.dom tick-is.step) i.answer
  in-run = step-in-run s h k.dom tick-is.call tick-is.step (seen_by s h k.dom tick-is.step) i.answer tick.shows.like of-run tick-is.opened tick-is.right

  own : i.actor ≡ k.dom
  own = ap (λ (x : Item). x.actor) tick-is.item

  fits : IsItemOfStep s h i at o.step (seen_by s h k.dom tick-is.step) × LooksInRun s i.actor o.step
  fits = like-fits-step s h i at here tick-is.step o.step (seen_by s h k.dom tick-is.step) tick.shows.like tick.right (ap (λ (x : Item). x.happened) tick-is.item) placed (own ∙ sym tick.shows.number)
      (sym (unheld-under along.place tick-is.step) ∙ ap unheld (sym same-step) ∙ unheld-under along.place o.step)

  given-is : (y : Step) → o.step ≡ y → IsGivenTo h i.actor y (bytes_by (task_in tasks o.task))
  given-is (call_steps.Write dom frame off len) e =
      let made : tick-is.step ≡ call_steps.Write dom frame off len = no-handle along.place (call_steps.Write dom frame off len) tick-is.step tt (ap (step_under along.place) (sym e) ∙ same-step) in
      given-open s h tasks k a.next k.opened tick-is.call o tick-is.shows (in-run.writing dom frame off len made)
      ∙ ap given_in (sym tick-is.opened) ∙ ap (λ (d : DomId). given_in (open_call h d.0)) (sym own)
  given-is y e = tt

  -- a read fits in its frame
  reads-in : (made y : Step) (seen : Observation) → unheld made ≡ unheld y → StepFits s h i.actor made seen → ReadsInFrame y
  reads-in made (call_steps.Read dom frame off len) seen e fits = by made e fits where
    by : (z : Step) → unheld z ≡ call_steps.Read dom frame off len → StepFits s h i.actor z seen → off + len ≤ FRAME_SIZE
    by (call_steps.Read u f p n) e fits = grind arith
    by (Unpin p holder) e fits = grind arith
    by z e fits = grind arith
  reads-in made y seen e fits = tt

  pub step-of : IsStepOf s h scene at k o i
  step-of = record {
    item = subst (IsItemOfStep s h i at o.step) (sym same-seen) fits.0;
    actor = own;
    looks = subst (λ (d : DomId). LooksInRun s d o.step) own fits.1;
    caller = along.caller;
    given = given-is o.step refl;
    reads = reads-in fits.0.made o.step (seen_by s h k.dom tick-is.step) fits.0.same fits.0.fits;
  }

  -- what the domain knows of its own entries is not asked for, but while one is granted; and then no entry is changed
  pub still-knows : (tables : List SparseTable) (table : SparseTable) → TablesShow s (i ∷ h) tables → slice_get tables at ≡ Some table → StillKnows s h k.dom scene table o.call
  still-knows tables table shows there = record {
    domains = tick.shows.setting.domains;
    may = tick.shows.may;
    entries = λ p phase storing. fun_ext (λ r. table-shows.entries r ∙ kept-entry i h k.dom.0 r (keeps p phase storing));
    generations = λ p phase storing. fun_ext (λ r. ap (λ (n : ℕ). kept_generation n table.own.items r) tick.shows.setting.first ∙ table-shows.generations r
        ∙ ap (λ (n : ℕ). s.first_generation + n) (kept-raises i h k.dom.0 r (keeps p phase storing)));
  } where
    table-shows : TableShows s (i ∷ h) k.dom table
    table-shows = subst (λ (d : DomId). TableShows s (i ∷ h) d table) tick.shows.number (shows.each at here table placed there)

    keeps : (p : Phase) → o.call.phase ≡ Some p → IsGranting p → (r : ℕ) → change_at i.happened r ≡ None
    keeps p phase storing r =
        let none : change_at (Stepped o.step (seen_by s h k.dom tick-is.step)) r ≡ None =
        storing-step (known_by_place s h k.dom) o.call k.dom (values tick-is.call) o.step p along.caller along.at phase storing along.follows r (seen_by s h k.dom tick-is.step) in
        ap (λ (x : Item). change_at x.happened r) tick-is.item ∙ sym (change-under along.place tick-is.step (seen_by s h k.dom tick-is.step) r)
        ∙ ap (λ (y : Step). change_at (Stepped y (seen_by s h k.dom tick-is.step)) r) (sym same-step) ∙ change-under along.place o.step (seen_by s h k.dom tick-is.step) r ∙ none
