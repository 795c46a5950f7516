-- The access that the call of a domain makes next in a state is that of the run.
use Rattle.std.proofs.Common.{◌≡◌, ◌<◌, ℕ, Bool, true, false, List, Option, Some, None, refl, sym, ap, ◌∙◌, subst, arith}
use Rattle.std.proofs.lemmas.Bool.{false≢true, true≢false}
use Rattle.std.proofs.lemmas.Option.{none-some, same_Some, slice_get_within}
use Rattle.std.specs.Prelude.{IsTrue, slice_get}
use Rattle.gt_explore_moves.proofs.CallEnds.{GivesNone}
use Rattle.gt_explore_moves.proofs.LineBegins.{tasks-short}
use Rattle.gt_explore_moves.proofs.OpenAlong.{run-makes}
use Rattle.gt_explore_moves.proofs.SameStep.{no-handle}
use Rattle.gt_explore_moves.specs.Calls.{GoesAlong, ShowsCalls, ShowsOpen}
use Rattle.gt_explore_moves.specs.Ends.{tasks_at}
use Rattle.gt_explore_moves.specs.Spaces.{Point, RunComesTo, scene_ways}
use Rattle.gt_explore_moves.specs.Touches.{is_access_step}
use Rattle.gt_explore_moves.specs.declared.actor.Actor.{Actor}
use Rattle.gt_explore_moves.specs.declared.actor.ActorCall.{ActorCall}
use Rattle.gt_explore_moves.specs.declared.scene.SearchContext.{SearchContext}
use Rattle.gt_explore_moves.specs.declared.scene.SearchState.{SearchState}
use Rattle.gt_explore_replay.proofs.Following.{there_is}
use Rattle.gt_explore_replay.specs.Abreast.{history_in}
use Rattle.gt_explore_replay.specs.Courses.{Course, OpenLeads, Opened, calling, giving, resting}
use Rattle.gt_explore_replay.specs.Orders.{Happening}
use Rattle.gt_model.specs.History.{History, Setting, Underway, maps_answered_at, open_call}
use Rattle.gt_model.specs.declared.action.Step.{Step}
use Rattle.gt_model.specs.declared.action.Step.TheVariants as call_steps
use Rattle.gt_model.specs.declared.bounds.TheConstants.{SERIAL_LIMIT}
use Rattle.gt_script.specs.Contents.{type_names}
use Rattle.gt_script.specs.Lists.{RunTask}
use Rattle.gt_script_runs.specs.Playing.{setting_of_script}
use Rattle.gt_explore_races.specs.Accesses.{Conflict}
use Rattle.gt_explore_races.specs.Races.{MakesNext}
use Rattle.gt_explore_races.specs.Spaces.{IsCallingLine, IsToAccess}
use Rattle.gt_explore_races.specs.Texts.{race_of}
use Rattle.gt_explore_races.specs.declared.racing.Race.{Race}
use Rattle.gt_explore_races.specs.declared.space.NextStep.{NextStep}

access-gives : (y : Step) → is_access_step y ≡ true → GivesNone y
access-gives (call_steps.Read dom frame off len) e = tt
access-gives (call_steps.Write dom frame off len) e = tt
access-gives (call_steps.Copy from to len) e = tt
access-gives y e = absurd (false≢true e)

-- a domain of a state is about to make this step, by the call of this line
pub record StepShown (scene : SearchContext) (place : ℕ) (a : Actor) (line : ℕ) (y : Step) : Type 0 where
  pub call : ActorCall
  pub is : a.«open» ≡ Some call
  pub step : call.step ≡ y
  pub index : ℕ
  pub task_is : call.task ≡ Some index
  pub task : RunTask
  pub there : slice_get (tasks_at scene place) index ≡ Some task
  pub line_is : task.line ≡ line

module _ (s : Setting) (h : History) (scene : SearchContext) (place : ℕ) (k : Course) (a : Actor) (shows : ShowsCalls s h (tasks_at scene place) k a) (line : ℕ) (y : Step) (next : MakesNext s h k.dom y) (access : is_access_step y ≡ true) where
  below : maps_answered_at h k.dom.0 < SERIAL_LIMIT
  below = let few = shows.few in let begun = shows.begun in let short = tasks-short scene place in omega arith

  made : (o : ActorCall) → GoesAlong s h k.dom next.call o → o.step ≡ y
  made o along = no-handle along.place y o.step (access-gives y access) (sym (run-makes s h k.dom next.call o along below (maps_answered_at h k.dom.0) shows.rising y next.follows))

  shown-by : (opened : Opened) (c : Option Underway) (o : Option ActorCall) → ShowsOpen s h (tasks_at scene place) k a.next opened c o → c ≡ Some next.call → IsCallingLine opened line → a.«open» ≡ o → StepShown scene place a line y
  shown-by (calling n call lost) (Some c) (Some o) show e calls is =
      let same : c ≡ next.call = same_Some c next.call e in
      record {
        call = o;
        is = is;
        step = made o (subst (λ (u : Underway). GoesAlong s h k.dom u o) same show.0);
        index = show.1.place;
        task_is = show.1.task_is;
        task = show.1.of_task;
        there = show.1.there;
        line_is = show.1.line_is ∙ calls;
      }
  shown-by (calling n call lost) (Some c) None show e calls is = absurd show
  shown-by (calling n call lost) None o show e calls is = absurd (none-some next.call e)
  shown-by resting c o show e calls is = absurd calls
  shown-by giving c o show e calls is = absurd calls

  pub step-shown : IsCallingLine k.opened line → StepShown scene place a line y
  step-shown calls = shown-by k.opened (open_call h k.dom.0) a.«open» shows.opens next.opened calls refl

module _ (scene : SearchContext) (w : SearchState) (p : Point) (shows : (scene_ways scene).shows w p) where
  pub actor-there : (place line : ℕ) (y : Step) → IsToAccess p place line y → (a : Actor) × (slice_get w.actors.items place ≡ Some a)
  actor-there place line y acc =
      let lt = slice_get_within p.courses place acc.course acc.there in let many = shows.1.many in
      there_is w.actors.items place (omega (arith, lt, many))

  pub shown-at : (place line : ℕ) (y : Step) (a : Actor) → IsToAccess p place line y → slice_get w.actors.items place ≡ Some a → StepShown scene place a line y
  shown-at place line y a acc there =
      step-shown (setting_of_script p.script.head) (history_in p.happened) scene place acc.course a (shows.1.each place acc.course a acc.there there) line y acc.next acc.access acc.calls

  -- a domain with an open call has one move
  one-by : (h : History) (tasks : List RunTask) (k j : Course) (a : Actor) (o : ActorCall) (choice : ℕ) (x : Happening) (opened : Opened) (c : Option Underway) → ShowsOpen (setting_of_script p.script.head) h tasks k a.next opened c (Some o) → OpenLeads (type_names p.script.head) k opened choice x j → choice ≡ 0
  one-by h tasks k j a o choice x resting None show leads = absurd show
  one-by h tasks k j a o choice x resting (Some c) show leads = absurd show
  one-by h tasks k j a o choice x (calling line call lost) c show leads = leads.0
  one-by h tasks k j a o choice x giving c show leads = leads.0

  pub one-move : (q : Point) (place choice : ℕ) (a : Actor) (o : ActorCall) → slice_get w.actors.items place ≡ Some a → a.«open» ≡ Some o → RunComesTo p (record { place = place; choice = choice }) q → choice ≡ 0
  one-move q place choice a o there is next =
      let h = history_in p.happened in
      let opens = (shows.1.each place next.k a next.there there).opens in
      one-by h (tasks_at scene place) next.k next.j a o choice next.x next.k.opened (open_call h next.k.dom.0)
      (subst (ShowsOpen (setting_of_script p.script.head) h (tasks_at scene place) next.k a.next next.k.opened (open_call h next.k.dom.0)) is opens) next.leads

-- the call that a state has open

module _ (scene : SearchContext) (place : ℕ) (a : Actor) (line : ℕ) (y : Step) (shown : StepShown scene place a line y) where
  pub no-call : a.«open» ≡ None → ⊥
  no-call none = none-some shown.call (sym none ∙ shown.is)

  same-call : (o : ActorCall) → a.«open» ≡ Some o → o ≡ shown.call
  same-call o is = same_Some o shown.call (sym is ∙ shown.is)

  pub no-index : (o : ActorCall) → a.«open» ≡ Some o → o.task ≡ None → ⊥
  no-index o is none = none-some shown.index (sym none ∙ ap (λ (z : ActorCall). z.task) (same-call o is) ∙ shown.task_is)

  same-index : (o : ActorCall) (i : ℕ) → a.«open» ≡ Some o → o.task ≡ Some i → i ≡ shown.index
  same-index o i is of = same_Some i shown.index (sym of ∙ ap (λ (z : ActorCall). z.task) (same-call o is) ∙ shown.task_is)

  pub no-task : (o : ActorCall) (i : ℕ) → a.«open» ≡ Some o → o.task ≡ Some i → None ≡ slice_get (tasks_at scene place) i → ⊥
  no-task o i is of none = none-some shown.task (none ∙ ap (slice_get (tasks_at scene place)) (same-index o i is of) ∙ shown.there)

  pub same-step : (o : ActorCall) → a.«open» ≡ Some o → o.step ≡ y
  same-step o is = ap (λ (z : ActorCall). z.step) (same-call o is) ∙ shown.step

  pub same-line : (o : ActorCall) (i : ℕ) (t : RunTask) → a.«open» ≡ Some o → o.task ≡ Some i → Some t ≡ slice_get (tasks_at scene place) i → t.line ≡ line
  same-line o i t is of there =
      ap (λ (z : RunTask). z.line) (same_Some t shown.task (there ∙ ap (slice_get (tasks_at scene place)) (same-index o i is of) ∙ shown.there)) ∙ shown.line_is

  abbrev with-step : ℕ → Step → NextStep
  with-step n z = record { line = n; step = z }

  pub next-is : (o : ActorCall) (i : ℕ) (t : RunTask) → a.«open» ≡ Some o → o.task ≡ Some i → Some t ≡ slice_get (tasks_at scene place) i → Some (with-step t.line o.step) ≡ Some (with-step line y)
  next-is o i t is of there = ap (λ (n : ℕ). Some (with-step n o.step)) (same-line o i t is of there) ∙ ap (λ (z : Step). Some (with-step line z)) (same-step o is)

-- two steps

abbrev pub step-at : ℕ → Step → NextStep
step-at n z = record { line = n; step = z }

pub race-between : (one other : NextStep) (k l : ℕ) (y z : Step) (r : Race) → one ≡ step-at k y → other ≡ step-at l z → r ≡ race_of one.line other.line → Some r ≡ Some (race_of k l)
race-between one other k l y z r e f is =
    ap (λ (t : Race). Some t) (is ∙ ap (λ (s : NextStep). race_of s.line other.line) e ∙ ap (λ (s : NextStep). race_of k s.line) f)

-- if the steps conflict, so it is answered
pub conflict-between : (one other : NextStep) (k l : ℕ) (y z : Step) (b : Bool) → one ≡ step-at k y → other ≡ step-at l z → Conflict y z → (Conflict one.step other.step → IsTrue b) → b ≡ false → ⊥
conflict-between one other k l y z b e f conflict answered refused =
    let here : Conflict one.step other.step = subst (λ (s : NextStep). Conflict s.step other.step) (sym e) (subst (λ (s : NextStep). Conflict y s.step) (sym f) conflict) in
    true≢false (sym (answered here) ∙ refused)
