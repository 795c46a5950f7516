-- What a move of a domain was, by what the core did.
use Rattle.std.proofs.Common.{◌≡◌, ◌++◌, ◌+◌, ℕ, suc, List, take, drop, Option, Some, refl, sym, ◌∙◌, subst, Bor}
use Rattle.std.specs.Prelude.{slice_get, IsSome}
use Rattle.std.proofs.lemmas.Option.{same_Some}
use Rattle.gt_model.specs.declared.handle.Handle.{Handle}
use Rattle.gt_model.specs.declared.request.Request.{Request}
use Rattle.gt_model.specs.declared.request.Request.TheVariants.{Release}
use Rattle.gt_model.specs.declared.action.Observation.{Observation}
use Rattle.gt_model.specs.declared.action.Step.{Step}
use Rattle.gt_core.specs.Acting.{begun_element, ticked_element}
use Rattle.gt_model.specs.History.{Setting}
use Rattle.gt_core.specs.Standing.{DoesEvent}
use Rattle.gt_core.specs.States.{CoreState}
use Rattle.gt_core.specs.declared.core_state.Begun.{Begun}
use Rattle.gt_core.specs.declared.core_state.Begun.TheVariants as beginnings
use Rattle.gt_core.specs.declared.core_state.Ticked.{Ticked}
use Rattle.gt_core.specs.declared.core_state.Ticked.TheVariants as ticked
use Rattle.gt_model.specs.declared.trace.Answer.{Answer}
use Rattle.gt_model.specs.declared.trace.Event.TheVariants.{Begin, Tick}
use Rattle.gt_script_lines.specs.declared.calls.ScriptCall.{ScriptCall}
use Rattle.gt_script.specs.Lists.{RunTask}
use Rattle.gt_explore_replay.specs.Making.{AsksFor, IsBegunFrom, BeginsLine, IsTickedFrom, TicksOpen, IsGivenFrom}
use Rattle.gt_explore_replay.specs.Making.{GivesBackAt}
use Rattle.gt_explore_replay.specs.Orders.{given_up}
use Rattle.gt_explore_replay.specs.Walking.{AnswersLine, ClosesCall}
use Rattle.gt_explore_replay.specs.declared.replay.Moved.{Moved}
use Rattle.gt_explore_replay.specs.declared.walker.OpenTask.TheVariants as open_tasks
use Rattle.gt_explore_replay.specs.declared.walker.Walker.{Walker}

-- the call of a line

pub begins_line : (s : Setting) (types : List (List ℕ)) (old new : CoreState) (v w : Walker) (task : RunTask) (call : Bor ScriptCall) (request : Request) (lost : Option Handle) (b : Begun) (m : Option Moved)
    → AsksFor v call.now request → lost ≡ given_up request → DoesEvent s old (Begin v.dom request) (begun_element v.dom request b) new → IsBegunFrom types task call lost v b m w
    → BeginsLine s types old v task call m new w
begins_line s types old new v w task call request lost b m asks gives does from =
    (request, b, asks, does, subst (λ (g : Option Handle). IsBegunFrom types task call g v b m w) gives from)

pub begun_open : (types : List (List ℕ)) (v : Walker) (task : RunTask) (call : Bor ScriptCall) (lost : Option Handle) (b : Begun) (m : Option Moved) → b ≡ beginnings.Open → IsSome m
    → IsBegunFrom types task call lost v b m (record v { next = v.next + 1; doing = open_tasks.Line task.line call lost })
begun_open types v task call lost b m is some =
    subst (λ (x : Begun). IsBegunFrom types task call lost v x m (record v { next = v.next + 1; doing = open_tasks.Line task.line call lost })) (sym is) (some, refl)

pub begun_done : (types : List (List ℕ)) (v w : Walker) (task : RunTask) (call : Bor ScriptCall) (lost : Option Handle) (b : Begun) (answer : Answer) (m : Option Moved) → b ≡ beginnings.Done answer → IsSome m
    → AnswersLine types task.line call.now lost answer (record v { next = v.next + 1 }) w → IsBegunFrom types task call lost v b m w
begun_done types v w task call lost b answer m is some a = subst (λ (x : Begun). IsBegunFrom types task call lost v x m w) (sym is) (some, a)

pub begun_busy : (types : List (List ℕ)) (v w : Walker) (task : RunTask) (call : Bor ScriptCall) (lost : Option Handle) (b : Begun) (m : Option Moved) → b ≡ beginnings.Busy → IsBegunFrom types task call lost v b m w
begun_busy types v w task call lost b m is = subst (λ (x : Begun). IsBegunFrom types task call lost v x m w) (sym is) tt

pub begun_away : (types : List (List ℕ)) (v w : Walker) (task : RunTask) (call : Bor ScriptCall) (lost : Option Handle) (b : Begun) (m : Option Moved) → b ≡ beginnings.NoDomain → IsBegunFrom types task call lost v b m w
begun_away types v w task call lost b m is = subst (λ (x : Begun). IsBegunFrom types task call lost v x m w) (sym is) tt

-- a step

pub makes_step : (s : Setting) (types : List (List ℕ)) (old new : CoreState) (v w : Walker) (t : Ticked) (m : Option Moved)
    → DoesEvent s old (Tick v.dom) (ticked_element v.dom t) new → IsTickedFrom types v t m w → TicksOpen s types old v m new w
makes_step s types old new v w t m does from = (t, does, from)

pub ticked_on : (types : List (List ℕ)) (v : Walker) (t : Ticked) (step : Step) (seen : Observation) (m : Option Moved) → t ≡ ticked.Step step seen → IsSome m → IsTickedFrom types v t m v
ticked_on types v t step seen m is some = subst (λ (x : Ticked). IsTickedFrom types v x m v) (sym is) (some, refl)

pub ticked_done : (types : List (List ℕ)) (v w : Walker) (t : Ticked) (step : Step) (seen : Observation) (answer : Answer) (m : Option Moved) → t ≡ ticked.Done step seen answer → IsSome m → ClosesCall types answer v w
    → IsTickedFrom types v t m w
ticked_done types v w t step seen answer m is some closed = subst (λ (x : Ticked). IsTickedFrom types v x m w) (sym is) (some, closed)

pub ticked_idle : (types : List (List ℕ)) (v w : Walker) (t : Ticked) (m : Option Moved) → t ≡ ticked.Idle → IsTickedFrom types v t m w
ticked_idle types v w t m is = subst (λ (x : Ticked). IsTickedFrom types v x m w) (sym is) tt

pub ticked_away : (types : List (List ℕ)) (v w : Walker) (t : Ticked) (m : Option Moved) → t ≡ ticked.NoDomain → IsTickedFrom types v t m w
ticked_away types v w t m is = subst (λ (x : Ticked). IsTickedFrom types v x m w) (sym is) tt

-- the release of a mapping at the end of a list

pub gives_back_at : (s : Setting) (old new : CoreState) (v w : Walker) (choice : ℕ) (handle : Handle) (b : Begun) (m : Option Moved) → slice_get v.held.items choice ≡ Some handle
    → DoesEvent s old (Begin v.dom (Release handle)) (begun_element v.dom (Release handle) b) new → IsGivenFrom choice v b m w → GivesBackAt s old v choice m new w
gives_back_at s old new v w choice handle b m at does from = λ other there.
    let same : handle ≡ other = same_Some handle other (sym at ∙ there) in
    (b, subst (λ (x : Handle). DoesEvent s old (Begin v.dom (Release x)) (begun_element v.dom (Release x) b) new) same does, from)

pub given_open : (choice : ℕ) (v w : Walker) (b : Begun) (m : Option Moved) → b ≡ beginnings.Open → IsSome m → w ≡ record v { doing = open_tasks.GivesBack; held = w.held }
    → w.held.items ≡ take choice v.held.items ++ drop (suc choice) v.held.items → IsGivenFrom choice v b m w
given_open choice v w b m is some same left = subst (λ (x : Begun). IsGivenFrom choice v x m w) (sym is) (some, same, left)

pub given_done : (choice : ℕ) (v w : Walker) (b : Begun) (answer : Answer) (m : Option Moved) → b ≡ beginnings.Done answer → IsSome m → w ≡ record v { held = w.held }
    → w.held.items ≡ take choice v.held.items ++ drop (suc choice) v.held.items → IsGivenFrom choice v b m w
given_done choice v w b answer m is some same left = subst (λ (x : Begun). IsGivenFrom choice v x m w) (sym is) (some, same, left)

pub given_busy : (choice : ℕ) (v w : Walker) (b : Begun) (m : Option Moved) → b ≡ beginnings.Busy → IsGivenFrom choice v b m w
given_busy choice v w b m is = subst (λ (x : Begun). IsGivenFrom choice v x m w) (sym is) tt

pub given_away : (choice : ℕ) (v w : Walker) (b : Begun) (m : Option Moved) → b ≡ beginnings.NoDomain → IsGivenFrom choice v b m w
given_away choice v w b m is = subst (λ (x : Begun). IsGivenFrom choice v x m w) (sym is) tt
