-- A domain of a state goes past a line that begins no call.
use Rattle.std.proofs.Common.{◌≡◌, ◌+◌, ◌<◌, ◌^◌, ℕ, List, ◌∷◌, Option, Some, None, sym, ◌∙◌, arith, subst}
use Rattle.std.specs.Prelude.{slice_set}
use Rattle.gt_model.specs.History.{History, Setting, Underway, open_call}
use Rattle.gt_explore_replay.specs.Courses.{Course, Opened, resting}
use Rattle.gt_script.specs.Lists.{RunTask}
use Rattle.gt_explore_moves.specs.Calls.{ShowsCalls, ShowsOpen}
use Rattle.gt_explore_moves.specs.Ends.{tasks_at}
use Rattle.gt_explore_moves.specs.Starting.{PassesTo, passed_actor}
use Rattle.gt_explore_moves.specs.declared.actor.Actor.{Actor}
use Rattle.gt_explore_moves.specs.declared.actor.ActorCall.{ActorCall}
use Rattle.gt_explore_moves.specs.declared.scene.SearchContext.{SearchContext}
use Rattle.gt_explore_moves.specs.declared.scene.SearchState.{SearchState}
use Rattle.gt_explore_moves.proofs.LineBegins.{not-last}
use Rattle.gt_explore_moves.proofs.CallOpened.{next-task}

still-rests : (s : Setting) (h : History) (tasks ts : List RunTask) (k : Course) (next : ℕ) (opened : Opened) (c : Option Underway) (o : Option ActorCall) → opened ≡ resting → ShowsOpen s h tasks k next opened c o
    → ShowsOpen s h tasks (record k { tasks = ts }) (next + 1) opened c o
still-rests s h tasks ts k next opened c o rest show =
    subst (λ (z : Opened). ShowsOpen s h tasks (record k { tasks = ts }) (next + 1) z c o) (sym rest) (by c o (subst (λ (z : Opened). ShowsOpen s h tasks k next z c o) rest show)) where
      by : (c : Option Underway) (o : Option ActorCall) → ShowsOpen s h tasks k next resting c o → ShowsOpen s h tasks (record k { tasks = ts }) (next + 1) resting c o
      by None None show = show
      by None (Some o) show = absurd show
      by (Some c) None show = absurd show
      by (Some c) (Some o) show = absurd show

shows-passed : (s : Setting) (h : History) (tasks ts : List RunTask) (k : Course) (a : Actor) (t : RunTask) → ShowsCalls s h tasks k a → k.opened ≡ resting → k.tasks ≡ t ∷ ts → ShowsCalls s h tasks (record k { tasks = ts }) (passed_actor a)
shows-passed s h tasks ts k a t show rest left = let n = next-task a.next tasks t ts (sym left ∙ show.left) in let few = show.few in record {
  left = n.1;
  begun = n.2;
  few = omega arith;
  rising = show.rising;
  pins = show.pins;
  labels = show.labels;
  opens = still-rests s h tasks ts k a.next k.opened (open_call h k.dom.0) a.«open» rest show.opens;
}

-- it is past it
pub passes : (s : Setting) (h : History) (scene : SearchContext) (place : ℕ) (ts : List RunTask) (k : Course) (a : Actor) (t : RunTask) (old new : SearchState) (b : Actor) → ShowsCalls s h (tasks_at scene place) k a → k.opened ≡ resting → k.tasks ≡ t ∷ ts
    → (a.next + 1 < 2 ^ 64 → b ≡ passed_actor a) → new.actors.items ≡ slice_set old.actors.items place b → new.ground ≡ old.ground → PassesTo s h (tasks_at scene place) a (record k { tasks = ts }) old new place
passes s h scene place ts k a t old new b show rest left becomes-so becomes ground =
    let b-is : b ≡ passed_actor a = becomes-so (not-last s h scene place k a show) in record {
      actor = b;
      becomes = becomes;
      shows = subst (ShowsCalls s h (tasks_at scene place) (record k { tasks = ts })) (sym b-is) (shows-passed s h (tasks_at scene place) ts k a t show rest left);
      ground = ground;
    }
