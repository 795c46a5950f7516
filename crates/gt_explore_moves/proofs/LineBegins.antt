-- The call of a line begins in a state: where that comes to.
use Rattle.std.proofs.Common.{◌≡◌, ◌+◌, ◌++◌, ◌<◌, ◌≤◌, ◌^◌, ℕ, zero, suc, refl, false, List, [], ◌∷◌, length, map}
use Rattle.std.proofs.Common.{get_or, Option, Some, None, sym, ap, ◌∙◌, arith, subst, Vec, Bor, Global}
use Rattle.std.specs.Prelude.{slice_get, slice_set}
use Rattle.std.proofs.lemmas.List.{length-map}
use Rattle.gt_types.specs.declared.denial.Denial.{Denial}
use Rattle.gt_types.specs.declared.DomId.{DomId}
use Rattle.gt_model.specs.declared.action.Step.{Step}
use Rattle.gt_model.specs.declared.action.CallResult.{CallResult}
use Rattle.gt_calls.specs.declared.call.Call.{Call}
use Rattle.gt_model.specs.declared.request.OpenRequest.{OpenRequest}
use Rattle.gt_model.specs.declared.request.Request.{Request}
use Rattle.gt_model.specs.Asking.{asked, begun_of}
use Rattle.gt_core.specs.Acting.{answer_of}
use Rattle.gt_core.specs.GoingOn.{beginning}
use Rattle.gt_model.specs.History.{History, Setting, known_at}
use Rattle.gt_model.specs.Legal.{AnsweredBy, BeginsRight}
use Rattle.gt_model.specs.declared.trace.Answer.{Answer}
use Rattle.gt_script_runs.specs.Printing.{answer_line}
use Rattle.gt_script_runs.specs.Runs.{MakesRequest}
use Rattle.gt_script_lines.specs.declared.calls.ScriptCall.{ScriptCall}
use Rattle.gt_model.specs.declared.request.Request.TheVariants.{Release}
use Rattle.gt_model.specs.declared.handle.Handle.{Handle}
use Rattle.gt_explore_replay.specs.Courses.{Course, back_after, course_after, resting}
use Rattle.gt_explore_replay.specs.Orders.{given_up}
use Rattle.gt_script.specs.Lists.{RunTask}
use Rattle.gt_explore_moves.specs.Calls.{ShowsCalls}
use Rattle.gt_explore_moves.specs.Ends.{tasks_at}
use Rattle.gt_explore_moves.specs.Starting.{BeginsAsRun, GivesAsRun, Grows, IsNextCall, MovesAsRun, PrintsLine}
use Rattle.gt_explore_moves.specs.Starting.{giving_actor, held_but, opened_actor, passed_actor}
use Rattle.gt_explore_moves.specs.declared.actor.Actor.{Actor}
use Rattle.gt_explore_moves.specs.declared.calls.CallOpening.TheVariants.{Open, Done}
use Rattle.gt_explore_search.specs.declared.spaces.TurnResult.{TurnResult}
use Rattle.gt_explore_search.specs.declared.spaces.TurnResult.TheVariants.{Answered, On}
use Rattle.gt_explore_moves.specs.declared.scene.SearchContext.{SearchContext}
use Rattle.gt_explore_moves.specs.declared.scene.SearchState.{SearchState}
use Rattle.gt_explore_moves.proofs.AnsweredAtOnce.{answer-is, begins-of, shows-answered}
use Rattle.gt_explore_moves.proofs.GivingBack.{shows-giving}
use Rattle.gt_explore_moves.proofs.CallOpened.{shows-opened}

short-lists : (lists : List (Vec (Bor RunTask) Global)) (place : ℕ) → length (get_or (map (λ (list : Vec (Bor RunTask) Global). map (λ (t : Bor RunTask). t.now) list.items) lists) place []) < 2 ^ 63
short-lists [] zero = omega arith
short-lists [] (suc place) = omega arith
short-lists (list ∷ more) zero =
    let ok = list.ok in let small = list.small in let e : length (map (λ (t : Bor RunTask). t.now) list.items) ≡ length list.items = length-map list.items (λ (t : Bor RunTask). t.now) in
    let len : list.len ≡ length list.items = ok.0 in let le : list.len ≤ list.cap = ok.1 in omega arith
short-lists (list ∷ more) (suc place) = short-lists more place

-- a list of tasks fits in memory
pub tasks-short : (scene : SearchContext) (place : ℕ) → length (tasks_at scene place) < 2 ^ 63
tasks-short scene place = short-lists scene.lists.items place

-- a number of tasks begun can be one more
pub not-last : (s : Setting) (h : History) (scene : SearchContext) (place : ℕ) (k : Course) (a : Actor) → ShowsCalls s h (tasks_at scene place) k a → a.next + 1 < 2 ^ 64
not-last s h scene place k a show = let le = show.begun in let lt = tasks-short scene place in omega arith

none-answered : (s : Setting) (h : History) (d : DomId) (r : OpenRequest) (o : Option CallResult) (answer : Option Answer) (against : Option Denial) → o ≡ None → AnsweredBy s h d r None false o answer against → answer ≡ None
none-answered s h d r o answer against none by = grind arith

some-answered : (s : Setting) (h : History) (d : DomId) (r : OpenRequest) (v : CallResult) (answer : Option Answer) (against : Option Denial) → AnsweredBy s h d r None false (Some v) answer against
    → (z : Answer) × (answer ≡ Some z) × AnsweredBy s h d r None false (Some v) (Some z) against
some-answered s h d r v None against by = absurd by
some-answered s h d r v (Some z) against by = (z, refl, by)

done-answered : (s : Setting) (h : History) (d : DomId) (r : OpenRequest) (v : CallResult) (answer : Option Answer) (against : Option Denial) (o : Option CallResult) → o ≡ Some v → AnsweredBy s h d r None false o answer against
    → (z : Answer) × (answer ≡ Some z) × AnsweredBy s h d r None false (Some v) (Some z) against
done-answered s h d r v answer against o e by = some-answered s h d r v answer against (subst (λ (x : Option CallResult). AnsweredBy s h d r None false x answer against) e by)

pub grows-by : (led : TurnResult) (line old new : List ℕ) → PrintsLine led line → new ≡ old ++ line → Grows led old new
grows-by (Answered text) line old new prints e = e ∙ ap (λ (l : List ℕ). old ++ l) (sym prints)
grows-by led line old new prints e = absurd prints

module _ (s : Setting) (h : History) (scene : SearchContext) (place : ℕ) (texts : List (List ℕ)) (k : Course) (ts : List RunTask) (a : Actor) (t : RunTask) (call : ScriptCall) (q : Request) (answer : Option Answer)
    (show : ShowsCalls s h (tasks_at scene place) k a) (next : IsNextCall k t ts call) (says : MakesRequest k.named k.dom call q) (right : BeginsRight s h (beginning k.dom q answer) q) (old new : SearchState) (b : Actor)
    (becomes : new.actors.items ≡ slice_set old.actors.items place b) (ground : new.ground ≡ old.ground) (told : new.told ≡ old.told) where
  -- where a move comes to, if the call has this answer then, or none
  abbrev Comes : Option Answer → TurnResult → Type 0
  Comes z led = MovesAsRun s (beginning k.dom q z ∷ h) (tasks_at scene place) a k (course_after texts t.line call (given_up q) (record k { tasks = ts }) z) old new place led

  -- the call is open
  pub line-opens : (now : Call) (step : Step) → BeginsAsRun s h k.dom q (Open now step) → (a.next + 1 < 2 ^ 64 → b ≡ opened_actor a now step) → Comes answer On
  line-opens now step (none, (p, handle, asks, by_place, is)) becomes-so =
      let b-is : b ≡ opened_actor a now step = becomes-so (not-last s h scene place k a show) in
      subst (λ (z : Option Answer). Comes z On) (sym (none-answered s h k.dom (asked q) (begun_of (known_at s h k.dom) k.dom q) answer _ none right.1)) (record {
        grows = refl;
        actor = b;
        becomes = becomes;
        shows = subst (ShowsCalls s (beginning k.dom q None ∷ h) (tasks_at scene place) (course_after texts t.line call (given_up q) (record k { tasks = ts }) None)) (sym b-is)
            (shows-opened s h (tasks_at scene place) ts k a t call q p handle now step show next.rest next.next next.dom next.run_action says asks by_place is);
        ground = ground;
        told = told;
      })

  -- it was answered at once
  pub line-answers : (v : CallResult) (led : TurnResult) → BeginsAsRun s h k.dom q (Done v) → (a.next + 1 < 2 ^ 64 → b ≡ passed_actor a) → PrintsLine led (answer_line texts t.line t.dom (answer_of v)) → Comes answer led
  line-answers v led begins becomes-so prints =
      let b-is : b ≡ passed_actor a = becomes-so (not-last s h scene place k a show) in
      let r = done-answered s h k.dom (asked q) v answer _ (begun_of (known_at s h k.dom) k.dom q) begins right.1 in
      let same : r.0 ≡ answer_of v = answer-is s h k.dom (asked q) v r.0 _ (begins-of (known_at s h k.dom) k.dom q v begins) r.2 in
      subst (λ (z : Option Answer). Comes z led) (sym (r.1 ∙ ap (λ (z : Answer). Some z) same)) (record {
        grows = grows-by led (answer_line texts t.line t.dom (answer_of v)) k.text _ prints (ap (λ (d : DomId). k.text ++ answer_line texts t.line d (answer_of v)) (sym next.dom));
        actor = b;
        becomes = becomes;
        shows = subst (ShowsCalls s (beginning k.dom q (Some (answer_of v)) ∷ h) (tasks_at scene place) (course_after texts t.line call (given_up q) (record k { tasks = ts }) (Some (answer_of v)))) (sym b-is)
            (shows-answered s h texts (tasks_at scene place) ts k a t call q v show next.rest next.next begins);
        ground = ground;
        told = told;
      })

-- the release of a mapping at the end of a list is open
pub giving-opens : (s : Setting) (h : History) (scene : SearchContext) (place : ℕ) (k : Course) (a : Actor) (handle : Handle) (answer : Option Answer) (choice : ℕ) (now : Call) (step : Step) (old new : SearchState) (b : Actor) → ShowsCalls s h (tasks_at scene place) k a → k.opened ≡ resting → slice_get k.held choice ≡ Some handle
    → BeginsRight s h (beginning k.dom (Release handle) answer) (Release handle) → GivesAsRun s h k.dom handle choice (Some (now, step)) → b ≡ giving_actor a now step → new.actors.items ≡ slice_set old.actors.items place b → new.ground ≡ old.ground → new.told ≡ old.told
    → MovesAsRun s (beginning k.dom (Release handle) answer ∷ h) (tasks_at scene place) a k (back_after (held_but k choice) answer) old new place On
giving-opens s h scene place k a handle answer choice now step old new b show rest held right (none, (at, serial, is)) b-is becomes ground told =
    subst (λ (z : Option Answer). MovesAsRun s (beginning k.dom (Release handle) z ∷ h) (tasks_at scene place) a k (back_after (held_but k choice) z) old new place On)
    (sym (none-answered s h k.dom (asked (Release handle)) (begun_of (known_at s h k.dom) k.dom (Release handle)) answer _ none right.1)) (record {
      grows = refl;
      actor = b;
      becomes = becomes;
      shows = subst (ShowsCalls s (beginning k.dom (Release handle) None ∷ h) (tasks_at scene place) (back_after (held_but k choice) None)) (sym b-is)
          (shows-giving s h (tasks_at scene place) k a choice handle at now step show rest held serial is);
      ground = ground;
      told = told;
    })
