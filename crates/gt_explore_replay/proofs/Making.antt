-- What the core does for a domain on its list.
use Rattle.std.proofs.Common.{◌≡◌, ◌≢◌, ◌≤◌, ℕ, ◌+◌, List, ◌∷◌, ◌++◌, length, Option, Some, None, ap, sym, ◌∙◌, subst}
use Rattle.std.proofs.Common.{Bor}
use Rattle.std.specs.Prelude.{slice_get}
use Rattle.std.proofs.lemmas.List.{length-map}
use Rattle.gt_model.specs.declared.handle.Handle.{Handle}
use Rattle.gt_model.specs.declared.request.Request.{Request}
use Rattle.gt_model.specs.declared.request.Request.TheVariants.{Release}
use Rattle.gt_model.specs.declared.action.Observation.{Observation}
use Rattle.gt_model.specs.declared.action.Step.{Step}
use Rattle.gt_model.specs.History.{History, Setting}
use Rattle.gt_model.specs.Legal.{MayDo, grown}
use Rattle.gt_core.specs.Standing.{CoreStands}
use Rattle.gt_core.specs.Acting.{begun_element, ticked_element}
use Rattle.gt_core.specs.States.{CoreState}
use Rattle.gt_core.specs.declared.core_state.Begun.{Begun}
use Rattle.gt_core.specs.declared.core_state.Begun.TheVariants as beginnings
use Rattle.gt_core.specs.declared.core_state.Ticked.{Ticked}
use Rattle.gt_core.specs.declared.core_state.Ticked.TheVariants as ticked
use Rattle.gt_model.specs.declared.trace.Answer.{Answer}
use Rattle.gt_model.specs.declared.trace.Event.TheVariants.{Begin, Tick}
use Rattle.gt_script_lines.specs.declared.calls.ScriptCall.{ScriptCall}
use Rattle.gt_script.specs.declared.tasks.RunAction.TheVariants.{Do}
use Rattle.gt_script.specs.Lists.{RunTask}
use Rattle.gt_script_runs.specs.Naming.{AreNamed}
use Rattle.gt_script_runs.specs.Runs.{Named, MakesRequest, answer_in}
use Rattle.gt_explore_replay.specs.Orders.{did, given_up}
use Rattle.gt_explore_replay.specs.Walking.{AnswersLine, ClosesCall, IsClosedFrom, WalksTo, tasks_left_of}
use Rattle.gt_explore_replay.specs.declared.replay.Moved.TheVariants as made
use Rattle.gt_explore_replay.specs.declared.walker.OpenTask.{OpenTask}
use Rattle.gt_explore_replay.specs.declared.walker.OpenTask.TheVariants as open_tasks
use Rattle.gt_explore_replay.specs.declared.walker.Walker.{Walker}
use Rattle.gt_explore_replay.proofs.Moving.{begins_done, begins_open, gives_done, gives_open, ticks_done, ticks_open}

-- the beginning of a call did this, and the core stands for it
abbrev pub BeginsSo : Setting → CoreState → CoreState → Walker → Request → Begun → Type 0
BeginsSo s old new v request b = (h : History) → CoreStands s h old
    → MayDo s h (Begin v.dom request) (begun_element v.dom request b) × CoreStands s (grown h (begun_element v.dom request b)) new

pub closed_line : (types : List (List ℕ)) (answer : Answer) (v w : Walker) (line : ℕ) (call : Bor ScriptCall) (lost : Option Handle) → v.doing ≡ open_tasks.Line line call lost → AnswersLine types line call.now lost answer v w → ClosesCall types answer v w
unfolding IsClosedFrom
closed_line types answer v w line call lost is a = subst (λ (d : OpenTask). IsClosedFrom types d answer v w) (sym is) a

pub closed_back : (types : List (List ℕ)) (answer : Answer) (v w : Walker) → v.doing ≡ open_tasks.GivesBack → w ≡ record v { doing = open_tasks.Nothing } → ClosesCall types answer v w
unfolding IsClosedFrom
closed_back types answer v w is to = subst (λ (d : OpenTask). IsClosedFrom types d answer v w) (sym is) to

-- a step did this
abbrev pub TicksSo : Setting → CoreState → CoreState → Walker → Ticked → Type 0
TicksSo s old new v t = (h : History) → CoreStands s h old
    → MayDo s h (Tick v.dom) (ticked_element v.dom t) × CoreStands s (grown h (ticked_element v.dom t)) new

-- a line's call asks this
abbrev pub AsksSo : Walker → ScriptCall → Request → Type 0
AsksSo v call request = (named : List Named) → AreNamed v.labels named → MakesRequest named v.dom call request

pub line_open : (s : Setting) (types : List (List ℕ)) (old new : CoreState) (v : Walker) (task : RunTask) (call : Bor ScriptCall) (request : Request) (lost : Option Handle) (b : Begun)
    → slice_get (tasks_left_of v) v.next ≡ Some task → task.run_action ≡ Do call.now → v.doing ≡ open_tasks.Nothing → AsksSo v call.now request → lost ≡ given_up request → b ≡ beginnings.Open → BeginsSo s old new v request b
    → WalksTo s types old v (made.Began None) new (record v { next = v.next + 1; doing = open_tasks.Line task.line call lost })
line_open s types old new v task call request lost b at does idle asks gives is told = λ h stands.
    let so = told h stands in (
      Begin v.dom request,
      begun_element v.dom request b,
      so.0,
      so.1,
      (v.dom, request, ap (λ (x : Begun). did (Begin v.dom request) (begun_element v.dom request x)) is),
      begins_open types v task call request lost (begun_element v.dom request b) at does idle asks gives (ap (λ (x : Begun). answer_in (begun_element v.dom request x)) is),
    )

pub line_done : (s : Setting) (types : List (List ℕ)) (old new : CoreState) (v w : Walker) (task : RunTask) (call : Bor ScriptCall) (request : Request) (lost : Option Handle) (b : Begun) (answer : Answer)
    → slice_get (tasks_left_of v) v.next ≡ Some task → task.run_action ≡ Do call.now → v.doing ≡ open_tasks.Nothing → AsksSo v call.now request → lost ≡ given_up request → b ≡ beginnings.Done answer → BeginsSo s old new v request b
    → AnswersLine types task.line call.now lost answer (record v { next = v.next + 1 }) w → WalksTo s types old v (made.Began (Some answer)) new w
line_done s types old new v w task call request lost b answer at does idle asks gives is told a = λ h stands.
    let so = told h stands in (
      Begin v.dom request,
      begun_element v.dom request b,
      so.0,
      so.1,
      (v.dom, request, ap (λ (x : Begun). did (Begin v.dom request) (begun_element v.dom request x)) is),
      begins_done types v w task call request lost (begun_element v.dom request b) answer at does idle asks gives (ap (λ (x : Begun). answer_in (begun_element v.dom request x)) is) a,
    )

pub back_open : (s : Setting) (types : List (List ℕ)) (old new : CoreState) (v w : Walker) (before after : List Handle) (handle : Handle) (b : Begun)
    → length v.tasks.items ≤ v.next → v.doing ≡ open_tasks.Nothing → v.held.items ≡ before ++ handle ∷ after
    → w ≡ record v { doing = open_tasks.GivesBack; held = w.held } → w.held.items ≡ before ++ after → b ≡ beginnings.Open → BeginsSo s old new v (Release handle) b → WalksTo s types old v (made.Began None) new w
back_open s types old new v w before after handle b all idle holds same left is told = λ h stands.
    let so = told h stands in
    let end : length (tasks_left_of v) ≤ v.next = simp length-map all in (
      Begin v.dom (Release handle),
      begun_element v.dom (Release handle) b,
      so.0,
      so.1,
      (v.dom, Release handle, ap (λ (x : Begun). did (Begin v.dom (Release handle)) (begun_element v.dom (Release handle) x)) is),
      gives_open types v w before after handle (begun_element v.dom (Release handle) b) all idle holds (ap (λ (x : Begun). answer_in (begun_element v.dom (Release handle) x)) is)
          (ap (λ (u : Walker). u.dom) same) (ap (λ (u : Walker). u.labels) same) (ap (λ (u : Walker). u.tasks.items) same) (ap (λ (u : Walker). u.next) same) (ap (λ (u : Walker). u.doing) same) left (ap (λ (u : Walker). u.text.items) same) end,
    )

pub back_done : (s : Setting) (types : List (List ℕ)) (old new : CoreState) (v w : Walker) (before after : List Handle) (handle : Handle) (b : Begun) (answer : Answer)
    → length v.tasks.items ≤ v.next → v.doing ≡ open_tasks.Nothing → v.held.items ≡ before ++ handle ∷ after
    → w ≡ record v { held = w.held } → w.held.items ≡ before ++ after → b ≡ beginnings.Done answer → BeginsSo s old new v (Release handle) b → WalksTo s types old v (made.Began (Some answer)) new w
back_done s types old new v w before after handle b answer all idle holds same left is told = λ h stands.
    let so = told h stands in
    let end : length (tasks_left_of v) ≤ v.next = simp length-map all in (
      Begin v.dom (Release handle),
      begun_element v.dom (Release handle) b,
      so.0,
      so.1,
      (v.dom, Release handle, ap (λ (x : Begun). did (Begin v.dom (Release handle)) (begun_element v.dom (Release handle) x)) is),
      gives_done types v w before after handle (begun_element v.dom (Release handle) b) answer all idle holds (ap (λ (x : Begun). answer_in (begun_element v.dom (Release handle) x)) is)
          (ap (λ (u : Walker). u.dom) same) (ap (λ (u : Walker). u.labels) same) (ap (λ (u : Walker). u.tasks.items) same) (ap (λ (u : Walker). u.next) same) (ap (λ (u : Walker). u.doing) same ∙ idle) left (ap (λ (u : Walker). u.text.items) same) end,
    )

pub step_open : (s : Setting) (types : List (List ℕ)) (old new : CoreState) (v : Walker) (t : Ticked) (step : Step) (seen : Observation)
    → v.doing ≢ open_tasks.Nothing → t ≡ ticked.Step step seen → TicksSo s old new v t → WalksTo s types old v (made.Stepped step seen None) new v
step_open s types old new v t step seen busy is told = λ h stands.
    let so = told h stands in
    (Tick v.dom, ticked_element v.dom t, so.0, so.1, (v.dom, ap (λ (x : Ticked). did (Tick v.dom) (ticked_element v.dom x)) is), ticks_open types v (ticked_element v.dom t) busy (ap (λ (x : Ticked). answer_in (ticked_element v.dom x)) is))

pub step_done : (s : Setting) (types : List (List ℕ)) (old new : CoreState) (v w : Walker) (t : Ticked) (step : Step) (seen : Observation) (answer : Answer)
    → t ≡ ticked.Done step seen answer → TicksSo s old new v t → ClosesCall types answer v w → WalksTo s types old v (made.Stepped step seen (Some answer)) new w
step_done s types old new v w t step seen answer is told closed = λ h stands.
    let so = told h stands in
    (Tick v.dom, ticked_element v.dom t, so.0, so.1, (v.dom, ap (λ (x : Ticked). did (Tick v.dom) (ticked_element v.dom x)) is), ticks_done types v w (ticked_element v.dom t) answer (ap (λ (x : Ticked). answer_in (ticked_element v.dom x)) is) closed)
