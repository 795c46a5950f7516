-- A move of a domain on its list.
use Rattle.std.proofs.Common.{◌≡◌, ◌≢◌, ◌≤◌, ℕ, ◌+◌, List, [], ◌∷◌, ◌++◌, length, drop, map, Option, Some, None, refl}
use Rattle.std.proofs.Common.{ap, sym, ◌∙◌, subst, append_assoc, Bor}
use Rattle.std.specs.Prelude.{slice_get}
use Rattle.gt_types.specs.declared.DomId.{DomId}
use Rattle.gt_model.specs.declared.handle.Handle.{Handle}
use Rattle.gt_model.specs.declared.request.Request.{Request}
use Rattle.gt_model.specs.declared.request.Request.TheVariants.{Release}
use Rattle.gt_model.specs.declared.trace.Answer.{Answer}
use Rattle.gt_model.specs.declared.trace.Element.{Element}
use Rattle.gt_model.specs.declared.trace.Event.TheVariants.{Begin, Tick}
use Rattle.gt_script_lines.specs.declared.calls.ScriptCall.{ScriptCall}
use Rattle.gt_script.specs.Lists.{RunAction, RunTask}
use Rattle.gt_script.specs.declared.tasks.RunAction.TheVariants.{Do, Tell, Await}
use Rattle.gt_script_runs.specs.Naming.{AreNamed}
use Rattle.gt_script_runs.specs.Printing.{answer_line}
use Rattle.gt_script_runs.specs.Runs.{Named, MakesRequest, EndsWith, answer_in, handle_given, label_given, with_name}
use Rattle.gt_explore_replay.specs.Orders.{Happening, did, raised, passed, CallGoesOn, CallHappens, ActionHappens}
use Rattle.gt_explore_replay.specs.Orders.{FollowsList, GivesMappingsBack, given_up, held_after}
use Rattle.gt_explore_replay.specs.Walking.{tasks_left_of, tasks_left, Continues, Moves, AnswersLine, IsClosedFrom}
use Rattle.gt_explore_replay.specs.Walking.{ClosesCall}
use Rattle.gt_explore_replay.specs.declared.walker.OpenTask.{OpenTask}
use Rattle.gt_explore_replay.specs.declared.walker.OpenTask.TheVariants as open_tasks
use Rattle.gt_explore_replay.specs.declared.walker.Walker.{Walker}
use Rattle.gt_explore_replay.proofs.Places.{drop_next, drop_all}

-- one call

ends_one : (x : Element) (answer : Answer) → answer_in x ≡ Some answer → EndsWith (x ∷ []) answer
ends_one x answer is = record { before = []; last = x; order = refl; quiet = tt; answers = is }

ends_more : (x : Element) (trace : List Element) (answer : Answer) → answer_in x ≡ None → EndsWith trace answer → EndsWith (x ∷ trace) answer
ends_more x trace answer none ends = record {
  before = x ∷ ends.before;
  last = ends.last;
  order = ap (λ (xs : List Element). x ∷ xs) ends.order;
  quiet = (none, ends.quiet);
  answers = ends.answers;
}

calls_open : (dom : DomId) (request : Request) (After : Answer → List Happening → Type 0) (x : Element) (more : List Happening) → answer_in x ≡ None → CallGoesOn dom After more → CallHappens dom request After (did (Begin dom request) x ∷ more)
calls_open dom request After x more none (trace, answer, later, is, ends, after) =
    (x, trace, answer, later, ap (λ (l : List Happening). did (Begin dom request) x ∷ l) is, ends_more x trace answer none ends, after)

calls_done : (dom : DomId) (request : Request) (After : Answer → List Happening → Type 0) (x : Element) (answer : Answer) (more : List Happening) → answer_in x ≡ Some answer → After answer more → CallHappens dom request After (did (Begin dom request) x ∷ more)
calls_done dom request After x answer more is after = (x, [], answer, more, refl, ends_one x answer is, after)

goes_open : (dom : DomId) (After : Answer → List Happening → Type 0) (x : Element) (more : List Happening) → answer_in x ≡ None → CallGoesOn dom After more → CallGoesOn dom After (did (Tick dom) x ∷ more)
goes_open dom After x more none (trace, answer, later, is, ends, after) =
    (x ∷ trace, answer, later, ap (λ (l : List Happening). did (Tick dom) x ∷ l) is, ends_more x trace answer none ends, after)

goes_done : (dom : DomId) (After : Answer → List Happening → Type 0) (x : Element) (answer : Answer) (more : List Happening) → answer_in x ≡ Some answer → After answer more → CallGoesOn dom After (did (Tick dom) x ∷ more)
goes_done dom After x answer more is after = (x ∷ [], answer, more, refl, ends_one x answer is, after)

-- what follows an answer

pub left_same : (v w : Walker) → w.tasks.items ≡ v.tasks.items → w.next ≡ v.next → tasks_left w ≡ tasks_left v
left_same v w tasks next =
    ap (λ (l : List (Bor RunTask)). drop w.next (map (λ (t : Bor RunTask). t.now) l)) tasks ∙ ap (λ (n : ℕ). drop n (tasks_left_of v)) next

answered_follows : (types : List (List ℕ)) (line : ℕ) (call : ScriptCall) (lost : Option Handle) (answer : Answer) (v w : Walker) (names : List Named) (more : List Happening) (rest : List ℕ)
    → AnswersLine types line call lost answer v w → Continues types w names w.doing more rest → FollowsList types v.dom names (held_after v.held.items lost answer) (tasks_left v) more rest
unfolding Continues
answered_follows types line call lost answer v w names more rest a go =
    let plain : FollowsList types w.dom names w.held.items (tasks_left w) more rest = subst (λ (d : OpenTask). Continues types w names d more rest) a.doing go in
    let one : FollowsList types v.dom names w.held.items (tasks_left w) more rest = subst (λ (d : DomId). FollowsList types d names w.held.items (tasks_left w) more rest) a.dom plain in
    let two : FollowsList types v.dom names (held_after v.held.items lost answer) (tasks_left w) more rest = subst (λ (l : List Handle). FollowsList types v.dom names l (tasks_left w) more rest) a.held one in
    subst (λ (l : List RunTask). FollowsList types v.dom names (held_after v.held.items lost answer) l more rest) (left_same v w a.tasks a.next) two

text_printed : (v w line rest : List ℕ) → w ≡ v ++ line → v ++ (line ++ rest) ≡ w ++ rest
text_printed v w line rest is = sym (append_assoc v line rest) ∙ ap (λ (l : List ℕ). l ++ rest) (sym is)

-- the first move of a line

at_line : (types : List (List ℕ)) (v : Walker) (named : List Named) (task : RunTask) (run_action : RunAction) (hs : List Happening) (text : List ℕ)
    → slice_get (tasks_left_of v) v.next ≡ Some task → task.run_action ≡ run_action → v.doing ≡ open_tasks.Nothing
    → ActionHappens types v.dom named v.held.items task.line run_action (λ names holds more rest. FollowsList types v.dom names holds (drop (v.next + 1) (tasks_left_of v)) more rest) hs text
    → Continues types v named v.doing hs text
unfolding Continues
at_line types v named task run_action hs text at does idle follows =
    let own = subst (λ (d : RunAction). ActionHappens types v.dom named v.held.items task.line d (λ names holds more rest. FollowsList types v.dom names holds (drop (v.next + 1) (tasks_left_of v)) more rest) hs text) (sym does) follows in
    let all = subst (λ (l : List RunTask). FollowsList types v.dom named v.held.items l hs text) (sym (drop_next (tasks_left_of v) v.next task at)) own in
    subst (λ (d : OpenTask). Continues types v named d hs text) (sym idle) all

pub begins_open : (types : List (List ℕ)) (v : Walker) (task : RunTask) (call : Bor ScriptCall) (request : Request) (lost : Option Handle) (x : Element)
    → slice_get (tasks_left_of v) v.next ≡ Some task → task.run_action ≡ Do call.now → v.doing ≡ open_tasks.Nothing
    → ((named : List Named) → AreNamed v.labels named → MakesRequest named v.dom call.now request) → lost ≡ given_up request → answer_in x ≡ None
    → Moves types v (did (Begin v.dom request) x) (record v { next = v.next + 1; doing = open_tasks.Line task.line call lost })
unfolding Continues
begins_open types v task call request lost x at does idle asks gives none = record {
  own_move = refl;
  dom = refl;
  leads = λ named names. (
    named,
    names,
    λ more rest go. (
      rest,
      at_line types v named task (Do call.now) (did (Begin v.dom request) x ∷ more) rest at does idle (
        request,
        asks named names,
        calls_open v.dom request _ x more none (subst (λ (g : Option Handle). Continues types (record v { next = v.next + 1; doing = open_tasks.Line task.line call g }) named (open_tasks.Line task.line call g) more rest) gives go),
      ),
      refl,
    ),
  );
}

pub begins_done : (types : List (List ℕ)) (v w : Walker) (task : RunTask) (call : Bor ScriptCall) (request : Request) (lost : Option Handle) (x : Element) (answer : Answer)
    → slice_get (tasks_left_of v) v.next ≡ Some task → task.run_action ≡ Do call.now → v.doing ≡ open_tasks.Nothing
    → ((named : List Named) → AreNamed v.labels named → MakesRequest named v.dom call.now request) → lost ≡ given_up request → answer_in x ≡ Some answer
    → AnswersLine types task.line call.now lost answer (record v { next = v.next + 1 }) w
    → Moves types v (did (Begin v.dom request) x) w
unfolding Continues
begins_done types v w task call request lost x answer at does idle asks gives is a = record {
  own_move = refl;
  dom = a.dom;
  leads = λ named names. (
    with_name named v.dom (label_given call.now) (handle_given answer),
    a.named named names,
    λ more rest go. (
      answer_line types task.line v.dom answer ++ rest,
      at_line types v named task (Do call.now) (did (Begin v.dom request) x ∷ more) (answer_line types task.line v.dom answer ++ rest) at does idle (
        request,
        asks named names,
        calls_done v.dom request _ x answer more is (
          rest,
          refl,
          subst (λ (g : Option Handle). FollowsList types v.dom (with_name named v.dom (label_given call.now) (handle_given answer)) (held_after v.held.items g answer) (drop (v.next + 1) (tasks_left_of v)) more rest) gives
              (answered_follows types task.line call.now lost answer (record v { next = v.next + 1 }) w (with_name named v.dom (label_given call.now) (handle_given answer)) more rest a go),
        ),
      ),
      text_printed v.text.items w.text.items (answer_line types task.line v.dom answer) rest a.text,
    ),
  );
}

pub tells : (types : List (List ℕ)) (v : Walker) (task : RunTask) (flag : ℕ) → slice_get (tasks_left_of v) v.next ≡ Some task → task.run_action ≡ Tell flag → v.doing ≡ open_tasks.Nothing
    → Moves types v (raised v.dom flag) (record v { next = v.next + 1 })
unfolding Continues
tells types v task flag at does idle = record {
  own_move = refl;
  dom = refl;
  leads = λ named names. (
    named,
    names,
    λ more rest go. (
      rest,
      at_line types v named task (Tell flag) (raised v.dom flag ∷ more) rest at does idle (more, refl, subst (λ (d : OpenTask). Continues types (record v { next = v.next + 1 }) named d more rest) idle go),
      refl,
    ),
  );
}

pub awaits : (types : List (List ℕ)) (v : Walker) (task : RunTask) (flag : ℕ) → slice_get (tasks_left_of v) v.next ≡ Some task → task.run_action ≡ Await flag → v.doing ≡ open_tasks.Nothing
    → Moves types v (passed v.dom flag) (record v { next = v.next + 1 })
unfolding Continues
awaits types v task flag at does idle = record {
  own_move = refl;
  dom = refl;
  leads = λ named names. (
    named,
    names,
    λ more rest go. (
      rest,
      at_line types v named task (Await flag) (passed v.dom flag ∷ more) rest at does idle (more, refl, subst (λ (d : OpenTask). Continues types (record v { next = v.next + 1 }) named d more rest) idle go),
      refl,
    ),
  );
}

-- the end of a list

gives_first : (types : List (List ℕ)) (dom : DomId) (named : List Named) (before after : List Handle) (handle : Handle) (x : Element) (more : List Happening) (rest : List ℕ) → answer_in x ≡ None
    → CallGoesOn dom (λ answer later. FollowsList types dom named (before ++ after) [] later rest) more
    → FollowsList types dom named (before ++ handle ∷ after) [] (did (Begin dom (Release handle)) x ∷ more) rest
gives_first types dom named before after handle x more rest none (trace, answer, later, is, ends, (order, gives, nothing)) = (
  handle ∷ order,
  (before, after, refl, calls_open dom (Release handle) (λ a l. GivesMappingsBack dom order (before ++ after) l) x more none (trace, answer, later, is, ends, gives)),
  nothing,
)

gives_over : (types : List (List ℕ)) (dom : DomId) (named : List Named) (before after : List Handle) (handle : Handle) (x : Element) (answer : Answer) (more : List Happening) (rest : List ℕ) → answer_in x ≡ Some answer
    → FollowsList types dom named (before ++ after) [] more rest → FollowsList types dom named (before ++ handle ∷ after) [] (did (Begin dom (Release handle)) x ∷ more) rest
gives_over types dom named before after handle x answer more rest is (order, gives, nothing) =
    (handle ∷ order, (before, after, refl, calls_done dom (Release handle) (λ a l. GivesMappingsBack dom order (before ++ after) l) x answer more is gives), nothing)

-- what happens at the end of a list happens to the domain there
at_end : (types : List (List ℕ)) (v : Walker) (named : List Named) (held : List Handle) (hs : List Happening) (text : List ℕ) → v.doing ≡ open_tasks.Nothing → v.held.items ≡ held → length (tasks_left_of v) ≤ v.next
    → FollowsList types v.dom named held [] hs text → Continues types v named v.doing hs text
unfolding Continues
at_end types v named held hs text idle holds end follows =
    let one = subst (λ (l : List Handle). FollowsList types v.dom named l [] hs text) (sym holds) follows in
    let two = subst (λ (l : List RunTask). FollowsList types v.dom named v.held.items l hs text) (sym (drop_all (tasks_left_of v) v.next end)) one in
    subst (λ (d : OpenTask). Continues types v named d hs text) (sym idle) two

pub gives_open : (types : List (List ℕ)) (v w : Walker) (before after : List Handle) (handle : Handle) (x : Element)
    → length v.tasks.items ≤ v.next → v.doing ≡ open_tasks.Nothing → v.held.items ≡ before ++ handle ∷ after → answer_in x ≡ None
    → w.dom ≡ v.dom → w.labels ≡ v.labels → w.tasks.items ≡ v.tasks.items → w.next ≡ v.next → w.doing ≡ open_tasks.GivesBack → w.held.items ≡ before ++ after → w.text.items ≡ v.text.items
    → length (tasks_left_of v) ≤ v.next
    → Moves types v (did (Begin v.dom (Release handle)) x) w
unfolding Continues
gives_open types v w before after handle x all idle holds none dom labels tasks next busy left text end = record {
  own_move = refl;
  dom = dom;
  leads = λ named names. (
    named,
    subst (λ l. AreNamed l named) (sym labels) names,
    λ more rest go. (
      rest,
      let one = subst (λ (d : OpenTask). Continues types w named d more rest) busy go in
          let two = subst (λ (d : DomId). CallGoesOn d (λ answer later. FollowsList types d named w.held.items (tasks_left w) later rest) more) dom one in
          let three = subst (λ (l : List Handle). CallGoesOn v.dom (λ answer later. FollowsList types v.dom named l (tasks_left w) later rest) more) left two in
          let four = subst (λ (l : List RunTask). CallGoesOn v.dom (λ answer later. FollowsList types v.dom named (before ++ after) l later rest) more)
          (left_same v w tasks next ∙ drop_all (tasks_left_of v) v.next end) three in
          at_end types v named (before ++ handle ∷ after) (did (Begin v.dom (Release handle)) x ∷ more) rest idle holds end (gives_first types v.dom named before after handle x more rest none four),
      ap (λ (l : List ℕ). l ++ rest) (sym text),
    ),
  );
}

pub gives_done : (types : List (List ℕ)) (v w : Walker) (before after : List Handle) (handle : Handle) (x : Element) (answer : Answer)
    → length v.tasks.items ≤ v.next → v.doing ≡ open_tasks.Nothing → v.held.items ≡ before ++ handle ∷ after → answer_in x ≡ Some answer
    → w.dom ≡ v.dom → w.labels ≡ v.labels → w.tasks.items ≡ v.tasks.items → w.next ≡ v.next → w.doing ≡ open_tasks.Nothing → w.held.items ≡ before ++ after → w.text.items ≡ v.text.items
    → length (tasks_left_of v) ≤ v.next
    → Moves types v (did (Begin v.dom (Release handle)) x) w
unfolding Continues
gives_done types v w before after handle x answer all idle holds is dom labels tasks next rests left text end = record {
  own_move = refl;
  dom = dom;
  leads = λ named names. (
    named,
    subst (λ l. AreNamed l named) (sym labels) names,
    λ more rest go. (
      rest,
      let one = subst (λ (d : OpenTask). Continues types w named d more rest) rests go in
          let two = subst (λ (d : DomId). FollowsList types d named w.held.items (tasks_left w) more rest) dom one in
          let three = subst (λ (l : List Handle). FollowsList types v.dom named l (tasks_left w) more rest) left two in
          let four = subst (λ (l : List RunTask). FollowsList types v.dom named (before ++ after) l more rest) (left_same v w tasks next ∙ drop_all (tasks_left_of v) v.next end) three in
          at_end types v named (before ++ handle ∷ after) (did (Begin v.dom (Release handle)) x ∷ more) rest idle holds end (gives_over types v.dom named before after handle x answer more rest is four),
      ap (λ (l : List ℕ). l ++ rest) (sym text),
    ),
  );
}

-- ticks

open_on : (types : List (List ℕ)) (v : Walker) (named : List Named) (d : OpenTask) (x : Element) (more : List Happening) (rest : List ℕ) → d ≢ open_tasks.Nothing → answer_in x ≡ None
    → Continues types v named d more rest → Continues types v named d (did (Tick v.dom) x ∷ more) rest
unfolding Continues
open_on types v named open_tasks.Nothing x more rest busy none go = absurd (busy refl)
open_on types v named (open_tasks.Line line call lost) x more rest busy none go = goes_open v.dom _ x more none go
open_on types v named open_tasks.GivesBack x more rest busy none go = goes_open v.dom _ x more none go

pub ticks_open : (types : List (List ℕ)) (v : Walker) (x : Element) → v.doing ≢ open_tasks.Nothing → answer_in x ≡ None → Moves types v (did (Tick v.dom) x) v
ticks_open types v x busy none = record {
  own_move = refl;
  dom = refl;
  leads = λ named names. (named, names, λ more rest go. (rest, open_on types v named v.doing x more rest busy none go, refl));
}

pub ticks_done : (types : List (List ℕ)) (v w : Walker) (x : Element) (answer : Answer) → answer_in x ≡ Some answer → ClosesCall types answer v w → Moves types v (did (Tick v.dom) x) w
unfolding Continues IsClosedFrom
ticks_done types v w x answer is closed = by v.doing refl closed
  where
    by : (d : OpenTask) → v.doing ≡ d → IsClosedFrom types d answer v w → Moves types v (did (Tick v.dom) x) w
    by open_tasks.Nothing same a = absurd a
    by (open_tasks.Line line call lost) same a = record {
      own_move = refl;
      dom = a.dom;
      leads = λ named names. (
        with_name named v.dom (label_given call.now) (handle_given answer),
        a.named named names,
        λ more rest go. (
          answer_line types line v.dom answer ++ rest,
          subst (λ (d : OpenTask). Continues types v named d (did (Tick v.dom) x ∷ more) (answer_line types line v.dom answer ++ rest)) (sym same)
              (goes_done v.dom _ x answer more is (rest, refl, answered_follows types line call.now lost answer v w (with_name named v.dom (label_given call.now) (handle_given answer)) more rest a go)),
          text_printed v.text.items w.text.items (answer_line types line v.dom answer) rest a.text,
        ),
      );
    }
    by open_tasks.GivesBack same to =
        subst (λ (u : Walker). Moves types v (did (Tick v.dom) x) u) (sym to) (record {
          own_move = refl;
          dom = refl;
          leads = λ named names. (
            named,
            names,
            λ more rest go. (
              rest,
              subst (λ (d : OpenTask). Continues types v named d (did (Tick v.dom) x ∷ more) rest) (sym same) (goes_done v.dom _ x answer more is go),
              refl,
            ),
          );
        })
