-- The moves of a state's domains are those of the run.
use Rattle.std.proofs.Common.{◌≡◌, ◌≢◌, ◌<◌, ◌≤◌, ◌++◌, ◌∙◌, ℕ, zero, suc, refl, true, Bool, List, [], ◌∷◌, length}
use Rattle.std.proofs.Common.{drop, ap, ◌⊎◌, Option, Some, None, Result, Ok, Err, IfOk, sym, subst, arith, inl, inr}
use Rattle.std.proofs.Common.{get_or}
use Rattle.std.proofs.Math.ListN.{set}
use Rattle.std.specs.Prelude.{nat_lt, slice_get, slice_set}
use Rattle.std.proofs.lemmas.Bool.Decides.{nat_tests}
use Rattle.std.proofs.lemmas.List.{length-set}
use Rattle.std.proofs.lemmas.Option.{none-some, slice_get_within}
use Rattle.gt_types.specs.Names.{domain_of}
use Rattle.gt_types.specs.declared.DomId.{DomId}
use Rattle.gt_types.specs.declared.config.DomainConfig.{DomainConfig}
use Rattle.gt_model.specs.declared.handle.Handle.{Handle}
use Rattle.gt_model.specs.Asking.{FitsAsked, asked}
use Rattle.gt_model.specs.declared.request.Request.{Request}
use Rattle.gt_model.specs.declared.request.Request.TheVariants.{Release}
use Rattle.gt_core.specs.Alike.{HappensKnown}
use Rattle.gt_core.specs.GoingOn.{beginning}
use Rattle.gt_model.specs.History.{table_at, History, Setting, Underway, open_call}
use Rattle.gt_model.specs.Legal.{BeginsRight, IsItemOf, IsRight, MayDo}
use Rattle.gt_model.specs.declared.trace.Answer.{Answer}
use Rattle.gt_model.specs.declared.trace.Element.{Element}
use Rattle.gt_model.specs.declared.trace.Element.TheVariants.{Busy, Idle, NoDomain}
use Rattle.gt_model.specs.declared.trace.Element.TheVariants as elements
use Rattle.gt_model.specs.declared.trace.Event.TheVariants.{Begin, Tick}
use Rattle.gt_model.specs.declared.trace.ItemEvent.{ItemEvent}
use Rattle.gt_model.specs.declared.trace.ItemEvent.TheVariants.{Began, Stepped}
use Rattle.gt_model.specs.declared.trace.Item.{Item}
use Rattle.gt_script_runs.specs.Playing.{setting_of_script}
use Rattle.gt_script_runs.specs.Runs.{Named, MakesRequest, answer_in}
use Rattle.gt_script_lines.specs.declared.calls.ScriptCall.{ScriptCall}
use Rattle.gt_explore_replay.specs.Abreast.{CanComeNext, history_in}
use Rattle.gt_explore_replay.specs.Courses.{Course, CourseLeads, ActionLeads, GivesAt, Opened, OpenLeads, RestLeads}
use Rattle.gt_explore_replay.specs.Courses.{back_after, calling, course_after, giving, resting}
use Rattle.gt_explore_replay.specs.Orders.{Happening, IsRaisedBefore, did, given_up, passed, raised}
use Rattle.gt_explore_replay.proofs.Alike.{asks_answered, held_here}
use Rattle.gt_explore_replay.proofs.Coming.{IsQuiet, tells, waits}
use Rattle.gt_explore_replay.proofs.Places.{drop_here}
use Rattle.gt_script.specs.Contents.{type_names}
use Rattle.gt_script.specs.Lists.{RunAction, RunTask}
use Rattle.gt_script.specs.RunContents.{RunContents}
use Rattle.gt_script.specs.Stuck.{IsBelow}
use Rattle.gt_script.specs.declared.tasks.RunAction.TheVariants.{Await, Do, Tell}
use Rattle.gt_explore_moves.specs.Calls.{KnowsTable, ShowsCalls, ShowsOpen}
use Rattle.gt_explore_moves.specs.Ends.{tasks_at}
use Rattle.gt_explore_moves.specs.Scenes.{IsSceneOf, MovesAlong, SceneShows, WasAnsweredAll}
use Rattle.gt_explore_moves.specs.Starting.{Grows, IsNextCall, MovesAsRun, PassesTo, held_but}
use Rattle.gt_explore_moves.specs.Ticking.{ShowsAt, TickLeads, TicksAsRun}
use Rattle.gt_explore_moves.specs.declared.actor.Actor.{Actor}
use Rattle.gt_explore_moves.specs.declared.actor.ActorCall.{ActorCall}
use Rattle.gt_explore_search.specs.declared.spaces.TurnResult.{TurnResult}
use Rattle.gt_explore_search.specs.declared.spaces.TurnResult.TheVariants.{Nowhere, On}
use Rattle.gt_explore_moves.specs.declared.scene.SearchContext.{SearchContext}
use Rattle.gt_explore_moves.specs.declared.scene.SearchState.{SearchState}
use Rattle.gt_explore_state.specs.Likeness.{AsksFit}
use Rattle.gt_explore_state.specs.Shows.{PagesShow, TablesShow}
use Rattle.gt_explore_state.specs.declared.table.SparseTable.{SparseTable}
use Rattle.gt_explore_state.proofs.Fitting.{beginnings-change-nothing}
use Rattle.gt_explore_moves.proofs.HandlesAnswered.{after-dom, back-answered, back-dom, but-answered, left-answered}
use Rattle.gt_explore_moves.proofs.HandlesAnswered.{line-answered}
use Rattle.gt_explore_moves.proofs.MappingFound.{get-at}
use Rattle.gt_explore_moves.proofs.GrantingTasks.{said-of-script, task-listed}
use Rattle.gt_explore_moves.specs.declared.granted.GrantedEntry.{GrantedEntry}
use Rattle.gt_explore_moves.specs.Granting.{BeginsOfScript, IsOfScript, ListsGrants}
use Rattle.gt_explore_replay.proofs.Whole.{raised_or}
use Rattle.gt_explore_moves.proofs.StateComesOn.{comes-event, comes-quiet, domain-at, of-run, raised-here}
use Rattle.gt_explore_moves.proofs.StateComesOn.{raised-still, table-at, task-below, task-own}

-- lists

nothing-there : (xs : List RunTask) (n : ℕ) → slice_get xs n ≡ None → drop n xs ≡ []
nothing-there [] zero none = refl
nothing-there [] (suc n) none = refl
nothing-there (x ∷ xs) zero none = absurd (none-some x (sym none))
nothing-there (x ∷ xs) (suc n) none = nothing-there xs n none

set-there : (told : List Bool) (flag : ℕ) → flag < length told → slice_get (set told flag true) flag ≡ Some true
set-there [] flag lt = absurd (omega arith)
set-there (b ∷ told) zero lt = refl
set-there (b ∷ told) (suc flag) lt = set-there told flag (omega arith)

set-was : (told : List Bool) (at flag : ℕ) → slice_get (set told at true) flag ≡ Some true → (flag ≡ at) ⊎ (slice_get told flag ≡ Some true)
set-was [] at flag is = inr is
set-was (b ∷ told) zero zero is = inl refl
set-was (b ∷ told) zero (suc flag) is = inr is
set-was (b ∷ told) (suc at) zero is = inr is
set-was (b ∷ told) (suc at) (suc flag) is = elim (set-was told at flag is) [
  | inl same ↦ inl (ap suc same)
  | inr was ↦ inr was
]

set-keeps : (told : List Bool) (at flag : ℕ) → slice_get told flag ≡ Some true → slice_get (set told at true) flag ≡ Some true
set-keeps [] at flag is = is
set-keeps (b ∷ told) zero zero is = refl
set-keeps (b ∷ told) zero (suc flag) is = is
set-keeps (b ∷ told) (suc at) zero is = is
set-keeps (b ∷ told) (suc at) (suc flag) is = set-keeps told at flag is

-- items

beginning-is : (d : DomId) (q : Request) (i : Item) → IsItemOf (Begin d q) i → i ≡ beginning d q i.answer
beginning-is d q i m = ap (λ (z : DomId). record { actor = z; happened = i.happened; answer = i.answer }) m.0 ∙ ap (λ (z : ItemEvent). record { actor = d; happened = z; answer = i.answer }) m.1

step-known : (h : History) (d actor : DomId) (x : ItemEvent) (answer : Option Answer) → IsItemOf (Tick d) (record { actor = actor; happened = x; answer = answer })
    → HappensKnown h (record { actor = actor; happened = x; answer = answer }) × AsksFit x
step-known h d actor (Began q) answer m = absurd m.1
step-known h d actor (Stepped z seen) answer m = (tt, tt)

step-of-script : (grants : List GrantedEntry) (d actor : DomId) (x : ItemEvent) (answer : Option Answer) → IsItemOf (Tick d) (record { actor = actor; happened = x; answer = answer })
    → BeginsOfScript grants (record { actor = actor; happened = x; answer = answer })
step-of-script grants d actor (Began q) answer m = absurd m.1
step-of-script grants d actor (Stepped z seen) answer m = tt

-- the contracts of what a domain does, at this state

-- what a line asks fits its types
abbrev pub FitsSaid : ScriptCall → Type 0
FitsSaid call = (named : List Named) (dom : DomId) (request : Request) → MakesRequest named dom call request → FitsAsked (asked request)

abbrev pub BeginMeets : {E : Type 0} → SearchContext → ℕ → RunTask → ScriptCall → SearchState → SearchState → Result TurnResult E → Type 0
BeginMeets scene place task call old new res =
    (s : Setting) (h : History) (k : Course) (ts : List RunTask) (a : Actor) (q : Request) (t : SparseTable) (answer : Option Answer)
    → slice_get old.actors.items place ≡ Some a → slice_get old.ground.tables.items place ≡ Some t
    → ShowsCalls s h (tasks_at scene place) k a → KnowsTable s h k.dom scene t → IsNextCall k task ts call → MakesRequest k.named k.dom call q
    → BeginsRight s h (beginning k.dom q answer) q
    → IfOk res (MovesAsRun s (beginning k.dom q answer ∷ h) (tasks_at scene place) a k (course_after scene.types.items task.line call (given_up q) (record k { tasks = ts }) answer) old new place)

abbrev pub GiveMeets : {E : Type 0} → SearchContext → ℕ → ℕ → SearchState → SearchState → Result TurnResult E → Type 0
GiveMeets scene place choice old new res =
    (s : Setting) (h : History) (k : Course) (a : Actor) (domain : DomainConfig) (handle : Handle) (t : SparseTable) (answer : Option Answer)
    → slice_get old.actors.items place ≡ Some a → slice_get old.ground.tables.items place ≡ Some t
    → slice_get scene.roster.domains.items place ≡ Some domain → domain.id ≡ k.dom
    → ShowsCalls s h (tasks_at scene place) k a → KnowsTable s h k.dom scene t → k.opened ≡ resting → slice_get k.held choice ≡ Some handle
    → BeginsRight s h (beginning k.dom (Release handle) answer) (Release handle)
    → IfOk res (MovesAsRun s (beginning k.dom (Release handle) answer ∷ h) (tasks_at scene place) a k (back_after (held_but k choice) answer) old new place)

abbrev pub TickMeets : {E : Type 0} → SearchContext → ℕ → ActorCall → SearchState → SearchState → Result TurnResult E → Type 0
TickMeets scene place o old new res =
    (s : Setting) (h : History) (k j : Course) (a : Actor) (i : Item) → ShowsAt s h scene old place k a → a.«open» ≡ Some o → IsItemOf (Tick k.dom) i → IsRight s h i
    → TickLeads scene.types.items k k.opened i j → IfOk res (TicksAsRun s (i ∷ h) (tasks_at scene place) k j old new place)

abbrev pub RaiseMeets : SearchContext → ℕ → ℕ → SearchState → SearchState → TurnResult → Type 0
RaiseMeets scene place flag old new led =
    (s : Setting) (h : History) (k : Course) (t : RunTask) (ts : List RunTask) (a : Actor) → slice_get old.actors.items place ≡ Some a → ShowsCalls s h (tasks_at scene place) k a
    → k.opened ≡ resting → k.tasks ≡ t ∷ ts → flag < length old.told.items
    → (led ≡ On) × (new.told.items ≡ slice_set old.told.items flag true) × PassesTo s h (tasks_at scene place) a (record k { tasks = ts }) old new place

abbrev pub PassMeets : SearchContext → ℕ → ℕ → SearchState → SearchState → TurnResult → Type 0
PassMeets scene place flag old new led =
    (s : Setting) (h : History) (k : Course) (t : RunTask) (ts : List RunTask) (a : Actor) → slice_get old.actors.items place ≡ Some a → ShowsCalls s h (tasks_at scene place) k a
    → k.opened ≡ resting → k.tasks ≡ t ∷ ts → slice_get old.told.items flag ≡ Some true
    → (led ≡ On) × (new.told ≡ old.told) × PassesTo s h (tasks_at scene place) a (record k { tasks = ts }) old new place

-- what a domain has open

pub none-open : (s : Setting) (h : History) (tasks : List RunTask) (k : Course) (next : ℕ) (opened : Opened) (c : Option Underway) (o : Option ActorCall) → o ≡ None → ShowsOpen s h tasks k next opened c o → (opened ≡ resting) × (c ≡ None)
none-open s h tasks k next resting None o none show = (refl, refl)
none-open s h tasks k next resting (Some c) None none show = absurd show
none-open s h tasks k next opened c (Some o) none show = absurd (none-some o (sym none))
none-open s h tasks k next (calling line call lost) None None none show = absurd show
none-open s h tasks k next (calling line call lost) (Some c) None none show = absurd show
none-open s h tasks k next giving None None none show = absurd show
none-open s h tasks k next giving (Some c) None none show = absurd show

some-open : (s : Setting) (h : History) (tasks : List RunTask) (k : Course) (next : ℕ) (opened : Opened) (c : Option Underway) (o : Option ActorCall) (x : ActorCall) → o ≡ Some x → ShowsOpen s h tasks k next opened c o → (opened ≢ resting) × (c ≢ None)
some-open s h tasks k next opened c None x some show = absurd (none-some x some)
some-open s h tasks k next resting None (Some o) x some show = absurd show
some-open s h tasks k next resting (Some c) (Some o) x some show = absurd show
some-open s h tasks k next (calling line call lost) None (Some o) x some show = absurd show
some-open s h tasks k next (calling line call lost) (Some c) (Some o) x some show = ((λ e. let f : calling line call lost ≡ resting = e in cc), λ e. none-some c (sym e))
some-open s h tasks k next giving None (Some o) x some show = absurd show
some-open s h tasks k next giving (Some c) (Some o) x some show = ((λ e. let f : giving ≡ resting = e in cc), λ e. none-some c (sym e))

-- one domain

module _ (c : RunContents) (scene : SearchContext) (hs : List Happening) (ks : List Course) (old : SearchState) (place : ℕ) (k : Course) (a : Actor) (is : IsSceneOf c scene) (shows : SceneShows c scene hs ks old) (at : slice_get ks place ≡ Some k)
    (there : slice_get old.actors.items place ≡ Some a) where
  abbrev s : Setting
  s = setting_of_script c.head

  abbrev h : History
  h = history_in hs

  abbrev tasks : List RunTask
  tasks = tasks_at scene place

  show : ShowsCalls s h tasks k a
  show = shows.each place k a at there

  known : WasAnsweredAll h k
  known = shows.answered place k at

  run : domain_of c.head.domains k.dom ≢ None
  run = of-run c scene hs ks old place k a is shows at there

  -- what the state then comes to
  abbrev Comes : SearchState → TurnResult → Happening → Course → Type 0
  Comes new led x j = Grows led k.text j.text × SceneShows c scene (hs ++ x ∷ []) (slice_set ks place j) new

  -- a call began
  begun-to : (new : SearchState) (led : TurnResult) (q : Request) (answer : Option Answer) (j : Course) → BeginsRight s h (beginning k.dom q answer) q → HappensKnown h (beginning k.dom q answer) → FitsAsked (asked q) → (answer ≡ None → IsOfScript scene.grants.items k.dom (asked q)) → j.dom ≡ k.dom → WasAnsweredAll (beginning k.dom q answer ∷ h) j
      → MovesAsRun s (beginning k.dom q answer ∷ h) tasks a k j old new place led → Comes new led (did (Begin k.dom q) (elements.Item (beginning k.dom q answer))) j
  begun-to new led q answer j right asks fits said dom answered moved = let i = beginning k.dom q answer in
      let same = beginnings-change-nothing s h i q old.ground.tables.items old.ground.pages.items is.setting.apart refl in (
        moved.grows,
        comes-event c scene hs ks old place k a is shows at there new (Begin k.dom q) i j moved.actor refl right asks fits said moved.becomes dom moved.shows answered
            (subst (λ g. TablesShow s (i ∷ h) g.tables.items) (sym moved.ground) (same.0 shows.tables))
            (subst (λ g. PagesShow (i ∷ h) g.pages.items) (sym moved.ground) (same.1 shows.pages))
            moved.told,
      )

  -- at rest
  module _ (none : a.«open» ≡ None) where
    rest : (k.opened ≡ resting) × (open_call h k.dom.0 ≡ None)
    rest = none-open s h tasks k a.next k.opened (open_call h k.dom.0) a.«open» none show.opens

    rest-leads : (choice : ℕ) (x : Happening) (j : Course) (left : List RunTask) → drop a.next tasks ≡ left → CourseLeads (type_names c.head) k choice x j → RestLeads (type_names c.head) k left choice x j
    rest-leads choice x j left is-left leads =
        subst (λ (l : List RunTask). RestLeads (type_names c.head) k l choice x j) (show.left ∙ is-left)
        (subst (λ (o : Opened). OpenLeads (type_names c.head) k o choice x j) rest.0 leads)

    -- before this task
    task-leads : (choice : ℕ) (x : Happening) (j : Course) (task : RunTask) (run_action : RunAction) → slice_get tasks a.next ≡ Some task → task.run_action ≡ run_action → CourseLeads (type_names c.head) k choice x j
        → ActionLeads (type_names c.head) k task.line (drop (suc a.next) tasks) run_action x j
    task-leads choice x j task run_action here does leads =
        subst (λ (d : RunAction). ActionLeads (type_names c.head) k task.line (drop (suc a.next) tasks) d x j) does
        (rest-leads choice x j (task ∷ drop (suc a.next) tasks) (drop_here tasks a.next task here) leads).1

    task-next : (task : RunTask) → slice_get tasks a.next ≡ Some task → k.tasks ≡ task ∷ drop (suc a.next) tasks
    task-next task here = show.left ∙ drop_here tasks a.next task here

    -- a call can begin only so
    begins : {P : Type 0} (q : Request) (e : Element) → MayDo s h (Begin k.dom q) e → ((i : Item) → e ≡ elements.Item i → i ≡ beginning k.dom q i.answer → BeginsRight s h (beginning k.dom q i.answer) q → P) → P
    begins q NoDomain may so = absurd (run may)
    begins q Busy may so = absurd (may.1 rest.1)
    begins q Idle may so = absurd may
    begins q (elements.Item i) may so = let same = beginning-is k.dom q i may.1 in so i refl same (subst (λ (z : Item). IsRight s h z) same may.2)

    -- the call of its next line begins
    pub line-begins : (new : SearchState) (led : TurnResult) (choice : ℕ) (x : Happening) (j : Course) (task : RunTask) (call : ScriptCall) → slice_get tasks a.next ≡ Some task → task.run_action ≡ Do call → FitsSaid call
        → BeginMeets {E = Unit {0}} scene place task call old new (Ok led) → CourseLeads (type_names c.head) k choice x j → CanComeNext s hs x → Comes new led x j
    line-begins new led choice x j task call here does fits meets leads may =
        let left = drop (suc a.next) tasks in
        let run_action = task-leads choice x j task (Do call) here does leads in
        let q = run_action.0 in let e = run_action.1 in let says = run_action.2 in
        begins {P = Comes new led x j} q e (subst (λ (z : Happening). CanComeNext s hs z) run_action.3 may) (λ i e-is same right.
        let answer = i.answer in let one = beginning k.dom q answer in
        let own = task-own c scene hs ks old place k a is shows at there a.next task here in
        let lists : ListsGrants scene.grants.items k.dom (Do call) = subst (λ (d : DomId). ListsGrants scene.grants.items d (Do call)) own
        (subst (ListsGrants scene.grants.items task.dom) does (task-listed c scene is place a.next task here).lists) in
        let table = table-at c scene hs ks old place k a is shows at there in
        let next : IsNextCall k task left call = record { rest = rest.0; next = task-next task here; dom = task-own c scene hs ks old place k a is shows at there a.next task here; run_action = does } in
        let moved = meets s h k left a q table.0 answer there table.1 show table.2 next says right in
        let after : course_after scene.types.items task.line call (given_up q) (record k { tasks = left }) answer ≡ j =
        ap (λ (types : List (List ℕ)). course_after types task.line call (given_up q) (record k { tasks = left }) answer) is.types
        ∙ sym (run_action.4 ∙ ap (λ (z : Element). course_after (type_names c.head) task.line call (given_up q) (record k { tasks = left }) (answer_in z)) e-is) in
        let dom : j.dom ≡ k.dom = ap (λ (z : Course). z.dom) (sym after) ∙ after-dom scene.types.items task.line call (given_up q) (record k { tasks = left }) answer in
        let answered = subst (WasAnsweredAll (one ∷ h)) after (line-answered scene.types.items task.line call (given_up q) h (record k { tasks = left }) one answer (left-answered h k left known) refl refl) in
        let came = begun-to new led q answer j right (asks_answered h k.named k.dom call q known.named says) (fits k.named k.dom q says) (λ opens. said-of-script scene.grants.items (table_at s h k.dom) k.named k.dom call q says lists (right.2 opens)) dom answered
        (subst (λ (z : Course). MovesAsRun s (one ∷ h) tasks a k z old new place led) after moved) in
        subst (λ (z : Happening). Comes new led z j) (sym (run_action.3 ∙ ap (λ (z : Element). did (Begin k.dom q) z) (e-is ∙ ap (λ (z : Item). elements.Item z) same))) came)

    -- at the end of its list it begins to give a mapping back
    pub back-begins : (new : SearchState) (led : TurnResult) (choice : ℕ) (x : Happening) (j : Course) → slice_get tasks a.next ≡ None
        → GiveMeets {E = Unit {0}} scene place choice old new (Ok led) → CourseLeads (type_names c.head) k choice x j → CanComeNext s hs x → Comes new led x j
    back-begins new led choice x j end meets leads may =
        let gives : GivesAt k choice x j = rest-leads choice x j [] (nothing-there tasks a.next end) leads in
        let handle = gives.0 in let e = gives.1 in let q = Release handle in
        begins {P = Comes new led x j} q e (subst (λ (z : Happening). CanComeNext s hs z) gives.3 may) (λ i e-is same right.
        let answer = i.answer in let one = beginning k.dom q answer in
        let domain = domain-at c scene hs ks old place k a is shows at there in
        let table = table-at c scene hs ks old place k a is shows at there in
        let moved = meets s h k a domain.0 handle table.0 answer there table.1 domain.1 domain.2 show table.2 rest.0 gives.2 right in
        let after : back_after (held_but k choice) answer ≡ j = sym (gives.4 ∙ ap (λ (z : Element). back_after (held_but k choice) (answer_in z)) e-is) in
        let dom : j.dom ≡ k.dom = ap (λ (z : Course). z.dom) (sym after) ∙ back-dom (held_but k choice) answer in
        let answered = subst (WasAnsweredAll (one ∷ h)) after (back-answered h (held_but k choice) one answer (but-answered h k choice known)) in
        let came = begun-to new led q answer j right (inl (held_here h k.dom.0 choice k.held handle gives.2 known.held)) tt (λ opens. tt) dom answered
        (subst (λ (z : Course). MovesAsRun s (one ∷ h) tasks a k z old new place led) after moved) in
        subst (λ (z : Happening). Comes new led z j) (sym (gives.3 ∙ ap (λ (z : Element). did (Begin k.dom q) z) (e-is ∙ ap (λ (z : Item). elements.Item z) same))) came)

    -- it raises a flag
    pub flag-raised : (new : SearchState) (led : TurnResult) (choice : ℕ) (x : Happening) (j : Course) (task : RunTask) (flag : ℕ) → slice_get tasks a.next ≡ Some task → task.run_action ≡ Tell flag
        → RaiseMeets scene place flag old new led → CourseLeads (type_names c.head) k choice x j → Comes new led x j
    flag-raised new led choice x j task flag here does meets leads =
        let left = drop (suc a.next) tasks in
        let run_action : (x ≡ raised k.dom flag) × (j ≡ record k { tasks = left }) = task-leads choice x j task (Tell flag) here does leads in
        let below : flag < c.flags = subst (IsBelow c.flags) does (task-below c scene hs ks old place k a is shows at there a.next task here) in
        let fits : flag < length old.told.items = subst (λ (n : ℕ). flag < n) (sym shows.flags) below in
        let moved = meets s h k task left a there show rest.0 (task-next task here) fits in (
          subst (λ (z : TurnResult). Grows z k.text j.text) (sym moved.0) (ap (λ (z : Course). z.text) run_action.1),
          comes-quiet c scene hs ks old place k a is shows at there new x j moved.2.actor (subst IsQuiet (sym run_action.0) (tells k.dom flag)) moved.2.becomes (ap (λ (z : Course). z.dom) run_action.1)
              (subst (λ (z : Course). ShowsCalls s h tasks z moved.2.actor) (sym run_action.1) moved.2.shows)
              (subst (WasAnsweredAll h) (sym run_action.1) (left-answered h k left known)) moved.2.ground
              (ap (λ (l : List Bool). length l) moved.1 ∙ length-set old.told.items flag true)
              (λ f before. ap (λ (l : List Bool). slice_get l f) moved.1 ∙ elim (raised_or hs x f before) [
                | inl was ↦ set-keeps old.told.items flag f (shows.told f was)
                | inr (d, same) ↦ subst (λ (n : ℕ). slice_get (set old.told.items flag true) n ≡ Some true) (one-flag k.dom d flag f (sym run_action.0 ∙ same)) (set-there old.told.items flag fits)
              ])
              (λ f told. elim (set-was old.told.items flag f (ap (λ (l : List Bool). slice_get l f) (sym moved.1) ∙ told)) [
                | inl same ↦ raised-here hs x k.dom f (run_action.0 ∙ ap (λ (n : ℕ). raised k.dom n) (sym same))
                | inr was ↦ raised-still hs x f (shows.heard f was)
              ]),
        )
      where
        one-flag : (d e : DomId) (m n : ℕ) → raised d m ≡ raised e n → m ≡ n
        one-flag d e m n same = cc

    -- it goes past a flag
    pub flag-passed : (new : SearchState) (led : TurnResult) (choice : ℕ) (x : Happening) (j : Course) (task : RunTask) (flag : ℕ) → slice_get tasks a.next ≡ Some task → task.run_action ≡ Await flag
        → PassMeets scene place flag old new led → CourseLeads (type_names c.head) k choice x j → CanComeNext s hs x → Comes new led x j
    flag-passed new led choice x j task flag here does meets leads may =
        let left = drop (suc a.next) tasks in
        let run_action : (x ≡ passed k.dom flag) × (j ≡ record k { tasks = left }) = task-leads choice x j task (Await flag) here does leads in
        let before : IsRaisedBefore (length hs) flag hs = subst (λ (z : Happening). CanComeNext s hs z) run_action.0 may in
        let moved = meets s h k task left a there show rest.0 (task-next task here) (shows.told flag before) in (
          subst (λ (z : TurnResult). Grows z k.text j.text) (sym moved.0) (ap (λ (z : Course). z.text) run_action.1),
          comes-quiet c scene hs ks old place k a is shows at there new x j moved.2.actor (subst IsQuiet (sym run_action.0) (waits k.dom flag)) moved.2.becomes (ap (λ (z : Course). z.dom) run_action.1)
              (subst (λ (z : Course). ShowsCalls s h tasks z moved.2.actor) (sym run_action.1) moved.2.shows)
              (subst (WasAnsweredAll h) (sym run_action.1) (left-answered h k left known)) moved.2.ground
              (ap (λ w. length w.items) moved.1)
              (λ f was. ap (λ w. slice_get w.items f) moved.1 ∙ elim (raised_or hs x f was) [
                | inl earlier ↦ shows.told f earlier
                | inr (d, same) ↦ absurd (no-flag k.dom d flag f (sym run_action.0 ∙ same))
              ])
              (λ f told. raised-still hs x f (shows.heard f (ap (λ w. slice_get w.items f) (sym moved.1) ∙ told))),
        )
      where
        no-flag : (d e : DomId) (m n : ℕ) → passed d m ≡ raised e n → ⊥
        no-flag d e m n same = cc

  -- with something open

  -- it can make only a step of what it has open
  steps : {P : Type 0} (e : Element) → open_call h k.dom.0 ≢ None → MayDo s h (Tick k.dom) e → ((i : Item) → e ≡ elements.Item i → IsItemOf (Tick k.dom) i → IsRight s h i → P) → P
  steps NoDomain busy may so = absurd (run may)
  steps Busy busy may so = absurd may
  steps Idle busy may so = absurd (busy may.1)
  steps (elements.Item i) busy may so = so i refl may.1 may.2

  -- where that comes to
  abbrev Steps : List (List ℕ) → Opened → Happening → Course → Element → Type 0
  Steps types opened x j e = (x ≡ did (Tick k.dom) e) × ((i : Item) → e ≡ elements.Item i → i.actor ≡ k.dom → TickLeads types k opened i j × (j.dom ≡ k.dom) × WasAnsweredAll (i ∷ h) j)

  step-leads : (types : List (List ℕ)) (opened : Opened) (choice : ℕ) (x : Happening) (j : Course) → opened ≢ resting → OpenLeads types k opened choice x j → (e : Element) × Steps types opened x j e
  step-leads types resting choice x j busy leads = absurd (busy refl)
  step-leads types (calling line call lost) choice x j busy leads = (
    leads.1,
    (
      leads.2,
      λ i e-is own.
          let to : j ≡ course_after types line call lost k i.answer = leads.3 ∙ ap (λ (z : Element). course_after types line call lost k (answer_in z)) e-is in (
            to,
            ap (λ (z : Course). z.dom) to ∙ after-dom types line call lost k i.answer,
            subst (WasAnsweredAll (i ∷ h)) (sym to) (line-answered types line call lost h k i i.answer known own refl),
          ),
    ),
  )
  step-leads types giving choice x j busy leads = (
    leads.1,
    (
      leads.2,
      λ i e-is own.
          let to : j ≡ back_after k i.answer = leads.3 ∙ ap (λ (z : Element). back_after k (answer_in z)) e-is in (
            to,
            ap (λ (z : Course). z.dom) to ∙ back-dom k i.answer,
            subst (WasAnsweredAll (i ∷ h)) (sym to) (back-answered h k i i.answer known),
          ),
    ),
  )

  -- what it has open makes its next step
  pub open-steps : (new : SearchState) (led : TurnResult) (choice : ℕ) (x : Happening) (j : Course) (o : ActorCall) → a.«open» ≡ Some o
      → TickMeets {E = Unit {0}} scene place o old new (Ok led) → CourseLeads (type_names c.head) k choice x j → CanComeNext s hs x → Comes new led x j
  open-steps new led choice x j o some meets leads may =
      let busy = some-open s h tasks k a.next k.opened (open_call h k.dom.0) a.«open» o some show.opens in
      let led-so = step-leads (type_names c.head) k.opened choice x j busy.0 leads in let e = led-so.0 in
      steps {P = Comes new led x j} e busy.1 (subst (λ (z : Happening). CanComeNext s hs z) led-so.1.0 may) (λ i e-is of right.
      let to = led-so.1.1 i e-is of.0 in
      let domain = domain-at c scene hs ks old place k a is shows at there in
      let shown : ShowsAt s h scene old place k a = record {
        setting = is.setting;
        may = is.may;
        tables = shows.tables;
        pages = shows.pages;
        like = shows.like;
        domain = domain.0;
        placed = domain.1;
        number = domain.2;
        there = there;
        named = known.named;
        shows = show;
      } in
      let moved = meets s h k j a i shown some of right (subst (λ (types : List (List ℕ)). TickLeads types k k.opened i j) (sym is.types) to.0) in
      let fits = step-known h k.dom i.actor i.happened i.answer of in (
        moved.grows,
        subst (λ (z : Happening). SceneShows c scene (hs ++ z ∷ []) (slice_set ks place j) new) (sym (led-so.1.0 ∙ ap (λ (z : Element). did (Tick k.dom) z) e-is))
            (comes-event c scene hs ks old place k a is shows at there new (Tick k.dom) i j moved.actor of.0 right fits.0 fits.1 (step-of-script scene.grants.items k.dom i.actor i.happened i.answer of) moved.becomes to.1 moved.shows to.2 moved.tables moved.pages moved.told),
      ))

-- the moves

-- the domain at a place, as it is looked up
pub actor-at : (items xs : List Actor) (place : ℕ) (a : Actor) → true ≡ nat_lt place (length items) → a ≡ get_or items place a → items ≡ xs → slice_get xs place ≡ Some a
actor-at items xs place a below same items-are = let lt : place < length items = grind (arith, nat_tests) in
    ap (λ (l : List Actor). slice_get l place) (sym items-are) ∙ get-at items place a lt same

pub begin-along : {E : Type 0} (scene : SearchContext) (place choice : ℕ) (old new : SearchState) (a : Actor) (task : RunTask) (call : ScriptCall) (res : Result TurnResult E) → slice_get old.actors.items place ≡ Some a → a.«open» ≡ None
    → slice_get (tasks_at scene place) a.next ≡ Some task → task.run_action ≡ Do call → FitsSaid call → BeginMeets scene place task call old new res → IfOk res (λ led. MovesAlong scene place choice old led new)
begin-along scene place choice old new a task call (Err e) there none here does fits meets = tt
begin-along scene place choice old new a task call (Ok led) there none here does fits meets = λ c hs ks k j x is shows at leads may.
    line-begins c scene hs ks old place k a is shows at there none new led choice x j task call here does fits meets leads may

pub give-along : {E : Type 0} (scene : SearchContext) (place choice : ℕ) (old new : SearchState) (a : Actor) (res : Result TurnResult E) → slice_get old.actors.items place ≡ Some a → a.«open» ≡ None → slice_get (tasks_at scene place) a.next ≡ None
    → GiveMeets scene place choice old new res → IfOk res (λ led. MovesAlong scene place choice old led new)
give-along scene place choice old new a (Err e) there none end meets = tt
give-along scene place choice old new a (Ok led) there none end meets = λ c hs ks k j x is shows at leads may.
    back-begins c scene hs ks old place k a is shows at there none new led choice x j end meets leads may

pub tick-along : {E : Type 0} (scene : SearchContext) (place choice : ℕ) (old new : SearchState) (a : Actor) (o : ActorCall) (res : Result TurnResult E) → slice_get old.actors.items place ≡ Some a → a.«open» ≡ Some o
    → TickMeets scene place o old new res → IfOk res (λ led. MovesAlong scene place choice old led new)
tick-along scene place choice old new a o (Err e) there some meets = tt
tick-along scene place choice old new a o (Ok led) there some meets = λ c hs ks k j x is shows at leads may.
    open-steps c scene hs ks old place k a is shows at there new led choice x j o some meets leads may

pub raise-along : (scene : SearchContext) (place choice : ℕ) (old new : SearchState) (a : Actor) (task : RunTask) (flag : ℕ) (led : TurnResult) → slice_get old.actors.items place ≡ Some a → a.«open» ≡ None
    → slice_get (tasks_at scene place) a.next ≡ Some task → task.run_action ≡ Tell flag → RaiseMeets scene place flag old new led → MovesAlong scene place choice old led new
raise-along scene place choice old new a task flag led there none here does meets = λ c hs ks k j x is shows at leads may.
    flag-raised c scene hs ks old place k a is shows at there none new led choice x j task flag here does meets leads

pub pass-along : (scene : SearchContext) (place choice : ℕ) (old new : SearchState) (a : Actor) (task : RunTask) (flag : ℕ) (led : TurnResult) → slice_get old.actors.items place ≡ Some a → a.«open» ≡ None
    → slice_get (tasks_at scene place) a.next ≡ Some task → task.run_action ≡ Await flag → PassMeets scene place flag old new led → MovesAlong scene place choice old led new
pass-along scene place choice old new a task flag led there none here does meets = λ c hs ks k j x is shows at leads may.
    flag-passed c scene hs ks old place k a is shows at there none new led choice x j task flag here does meets leads may

-- there is no domain without an actor
pub nowhere-along : (scene : SearchContext) (place choice : ℕ) (old new : SearchState) → length old.actors.items ≤ place → MovesAlong scene place choice old Nowhere new
nowhere-along scene place choice old new past = λ c hs ks k j x is shows at leads may.
    let within = slice_get_within ks place k at in let many = shows.many in absurd (omega arith)
