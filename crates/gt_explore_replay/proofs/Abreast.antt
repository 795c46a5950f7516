-- A domain of a replay that is abreast of an order makes the move that the order makes next.
use Rattle.std.proofs.Common.{◌≡◌, ◌≢◌, ◌≤◌, ℕ, suc, ◌+◌, List, ◌∷◌, ◌++◌, length, map, take, drop, Option, Some}
use Rattle.std.proofs.Common.{None, refl, ap, sym, ◌∙◌, subst, inl, arith, Bor}
use Rattle.std.proofs.lemmas.Option.{none-some, same_Some}
use Rattle.std.specs.Option.{option_map}
use Rattle.std.specs.Prelude.{slice_get, IsSome, codes}
use Rattle.gt_types.specs.Names.{domain_of}
use Rattle.gt_types.specs.declared.DomId.{DomId}
use Rattle.gt_model.specs.declared.handle.Handle.{Handle}
use Rattle.gt_model.specs.declared.request.Request.{Request}
use Rattle.gt_model.specs.declared.request.Request.TheVariants.{Release, Unmap}
use Rattle.gt_core.specs.Acting.{begun_element, ticked_element}
use Rattle.gt_core.specs.Alike.{bare_handle, bare_request, keyless_answer, AreAlike}
use Rattle.gt_model.specs.History.{History, Setting, open_call}
use Rattle.gt_model.specs.Legal.{MayDo, grown}
use Rattle.gt_core.specs.Standing.{CoreStands}
use Rattle.gt_core.specs.States.{CoreState}
use Rattle.gt_core.specs.declared.core_state.Begun.{Begun}
use Rattle.gt_core.specs.declared.core_state.Begun.TheVariants as beginnings
use Rattle.gt_core.specs.declared.core_state.Ticked.{Ticked}
use Rattle.gt_core.specs.declared.core_state.Ticked.TheVariants as ticked
use Rattle.gt_model.specs.declared.trace.Answer.{Answer}
use Rattle.gt_model.specs.declared.trace.Element.{Element}
use Rattle.gt_model.specs.declared.trace.Event.{Event}
use Rattle.gt_model.specs.declared.trace.Event.TheVariants.{Begin, Tick}
use Rattle.gt_script_lines.specs.declared.calls.ScriptCall.{ScriptCall}
use Rattle.gt_script.specs.Lists.{RunAction, RunTask}
use Rattle.gt_script.specs.Stuck.{AreNumbered, IsBelow}
use Rattle.gt_script.specs.declared.tasks.RunAction.TheVariants.{Do}
use Rattle.gt_script_runs.specs.Naming.{AreNamed}
use Rattle.gt_script_runs.specs.Printing.{answer_line, call_text}
use Rattle.gt_script_runs.specs.Runs.{MakesRequest, answer_in, handle_given, label_given, with_name}
use Rattle.gt_script_runs.proofs.AlikeLemmas.{text-same}
use Rattle.gt_explore_replay.specs.Orders.{Happening, did, given_up}
use Rattle.gt_explore_replay.specs.Walking.{AnswersLine, ClosesCall, IsClosedFrom, tasks_left, tasks_left_of}
use Rattle.gt_explore_replay.specs.Courses.{Opened, resting, calling, giving, Course, course_after, course_answered}
use Rattle.gt_explore_replay.specs.Courses.{back_after, ActionLeads, GivesAt, RestLeads, OpenLeads, CourseLeads}
use Rattle.gt_explore_replay.specs.Making.{IsBegunFrom, BeginsLine, IsTickedFrom, TicksOpen, IsGivenFrom, GivesBackAt}
use Rattle.gt_explore_replay.specs.Abreast.{history_in, SameNames, SameHandles, IsDoingSo, HaveAnswered, WereAnswered}
use Rattle.gt_explore_replay.specs.Abreast.{IsOpenSo, WalksAbreast, CanComeNext}
use Rattle.gt_explore_replay.specs.declared.replay.Moved.{Moved}
use Rattle.gt_explore_replay.specs.declared.walker.OpenTask.{OpenTask}
use Rattle.gt_explore_replay.specs.declared.walker.OpenTask.TheVariants as open_tasks
use Rattle.gt_explore_replay.specs.declared.walker.Walker.{Walker}
use Rattle.gt_explore_replay.proofs.Alike.{DoAlike, asks_alike, asks_answered, begins_alike, held_alike}
use Rattle.gt_explore_replay.proofs.Alike.{held_answered, held_at, held_grown, held_here, held_left, left_alike}
use Rattle.gt_explore_replay.proofs.Alike.{names_alike, names_grown, names_more, ticks_alike}
use Rattle.gt_explore_replay.proofs.Moving.{left_same}
use Rattle.gt_explore_replay.proofs.Places.{drop_all, drop_next}

-- tasks that are numbered

pub numbered_first : (n : ℕ) (t : RunTask) (ts : List RunTask) → AreNumbered n (t ∷ ts) → IsBelow n t.run_action
numbered_first n t ts all = all 0 t (omega arith)

pub numbered_rest : (n : ℕ) (t : RunTask) (ts : List RunTask) → AreNumbered n (t ∷ ts) → AreNumbered n ts
numbered_rest n t ts all = λ k u lt. all (suc k) u (omega arith)

-- one domain

line_alike : (types : List (List ℕ)) (line : ℕ) (dom : DomId) (a b : Answer) → keyless_answer a ≡ keyless_answer b → answer_line types line dom a ≡ answer_line types line dom b
line_alike types line dom a b told = ap (λ (l : List ℕ). call_text line dom ++ l ++ codes "\n") (text-same types a b told)

-- a domain has this open from here on, or nothing, and holds these
goes_on : (n : ℕ) (s : Setting) (g h : History) (k : Course) (v w : Walker) (left : List RunTask) (kept : List Handle) (o : Opened) (x y : Element)
    → WalksAbreast n g h k v → IsOpenSo (grown g x) k.dom.0 o → IsDoingSo w.doing o → tasks_left w ≡ left → AreNumbered n left
    → w.dom ≡ v.dom → w.labels ≡ v.labels → w.text.items ≡ v.text.items
    → SameHandles kept w.held.items → WereAnswered g k.dom.0 kept → WereAnswered h k.dom.0 w.held.items
    → WalksAbreast n (grown g x) (grown h y) (record k { tasks = left; opened = o; held = kept }) w
goes_on n s g h k v w left kept o x y walks opens does tasks numbered dom labels text held keeps holds = record {
  dom = dom ∙ walks.dom;
  tasks = tasks;
  numbered = numbered;
  doing = does;
  opened = opens;
  names = walks.names;
  named = subst (λ l. AreNamed l walks.names) (sym labels) walks.named;
  same = walks.same;
  mine = names_grown g x k.named walks.mine;
  theirs = names_grown h y walks.names walks.theirs;
  held = held;
  kept = held_grown g x k.dom.0 kept keeps;
  holds = held_grown h y k.dom.0 w.held.items holds;
  text = text ∙ walks.text;
}

-- the call of a line has its answer
goes_answered : (n : ℕ) (s : Setting) (g h : History) (types : List (List ℕ)) (k : Course) (v w : Walker) (next : ℕ) (left : List RunTask) (line : ℕ) (call : ScriptCall) (lost freed : Option Handle) (x y : Element) (a b : Answer)
    → WalksAbreast n g h k v → DoAlike s g h k.dom.0 x y → answer_in x ≡ Some a → answer_in y ≡ Some b → keyless_answer a ≡ keyless_answer b
    → AnswersLine types line call lost b (record v { next = next }) w → tasks_left (record v { next = next }) ≡ left → AreNumbered n left → option_map bare_handle freed ≡ option_map bare_handle lost
    → WalksAbreast n (grown g x) (grown h y) (course_answered types line call freed (record k { tasks = left }) a) w
goes_answered n s g h types k v w next left line call lost freed x y a b walks both mine theirs told answers tasks numbered loses = record {
  dom = answers.dom ∙ walks.dom;
  tasks = left_same (record v { next = next }) w answers.tasks answers.next ∙ tasks;
  numbered = numbered;
  doing = subst (λ (d : OpenTask). IsDoingSo d resting) (sym answers.doing) tt;
  opened = both.over a mine;
  names = with_name walks.names v.dom (label_given call) (handle_given b);
  named = answers.named walks.names walks.named;
  same =
      subst (λ (d : DomId). SameNames (with_name k.named k.dom (label_given call) (handle_given a)) (with_name walks.names d (label_given call) (handle_given b))) (sym walks.dom)
      (names_alike k.named walks.names k.dom call a b walks.same told);
  mine = names_more (grown g x) k.named k.dom call a (names_grown g x k.named walks.mine) (both.mine a mine);
  theirs =
      subst (λ (d : DomId). HaveAnswered (grown h y) (with_name walks.names d (label_given call) (handle_given b))) (sym walks.dom)
      (names_more (grown h y) walks.names k.dom call b (names_grown h y walks.names walks.theirs) (both.theirs b theirs));
  held = held_alike k.held v.held.items freed lost a b walks.held loses told ∙ ap (map bare_handle) (sym answers.held);
  kept = held_answered (grown g x) k.dom.0 k.held freed a (held_grown g x k.dom.0 k.held walks.kept) (both.mine a mine);
  holds =
      subst (λ (l : List Handle). WereAnswered (grown h y) k.dom.0 l) (sym answers.held)
      (held_answered (grown h y) k.dom.0 v.held.items lost b (held_grown h y k.dom.0 v.held.items walks.holds) (both.theirs b theirs));
  text =
      answers.text ∙ ap (λ (l : List ℕ). l ++ answer_line types line v.dom b) walks.text ∙ ap (λ (d : DomId). k.text ++ answer_line types line d b) walks.dom
      ∙ ap (λ (l : List ℕ). k.text ++ l) (line_alike types line k.dom b a (sym told));
}

-- a domain goes past a flag
pub goes_past : (n : ℕ) (g h : History) (k : Course) (v : Walker) (left : List RunTask) → WalksAbreast n g h k v → tasks_left (record v { next = v.next + 1 }) ≡ left → AreNumbered n left
    → WalksAbreast n g h (record k { tasks = left }) (record v { next = v.next + 1 })
goes_past n g h k v left walks tasks numbered = record {
  dom = walks.dom;
  tasks = tasks;
  numbered = numbered;
  doing = walks.doing;
  opened = walks.opened;
  names = walks.names;
  named = walks.named;
  same = walks.same;
  mine = walks.mine;
  theirs = walks.theirs;
  held = walks.held;
  kept = walks.kept;
  holds = walks.holds;
  text = walks.text;
}

-- a domain that did nothing stands as before
pub stays : (n : ℕ) (g h : History) (k : Course) (v : Walker) (x y : Element) → WalksAbreast n g h k v → open_call (grown g x) k.dom.0 ≡ open_call g k.dom.0 → WalksAbreast n (grown g x) (grown h y) k v
stays n g h k v x y walks same = record {
  dom = walks.dom;
  tasks = walks.tasks;
  numbered = walks.numbered;
  doing = walks.doing;
  opened = still k.opened walks.opened;
  names = walks.names;
  named = walks.named;
  same = walks.same;
  mine = names_grown g x k.named walks.mine;
  theirs = names_grown h y walks.names walks.theirs;
  held = walks.held;
  kept = held_grown g x k.dom.0 k.held walks.kept;
  holds = held_grown h y k.dom.0 v.held.items walks.holds;
  text = walks.text;
}
  where
    still : (o : Opened) → IsOpenSo g k.dom.0 o → IsOpenSo (grown g x) k.dom.0 o
    still resting so = same ∙ so
    still (calling number asked freed) so = λ e. so (sym same ∙ e)
    still giving so = λ e. so (sym same ∙ e)

-- the next move

-- the replay made the move that the order makes: an event, by which the domain is at the next point of its course
pub record Came (n : ℕ) (s : Setting) (g h : History) (k j : Course) (x : Happening) (m : Option Moved) (new : CoreState) (w : Walker) : Type 0 where
  pub moved : IsSome m
  pub event : Event
  pub mine : Element
  pub theirs : Element
  pub happening : x ≡ did event mine
  pub stands : CoreStands s (grown h theirs) new
  pub alike : AreAlike s (grown g mine) (grown h theirs)
  pub walks : WalksAbreast n (grown g mine) (grown h theirs) j w
  pub others : (e : ℕ) → e ≢ k.dom.0 → open_call (grown g mine) e ≡ open_call g e
  pub dom : j.dom ≡ k.dom

none_told : (o : Option Answer) → option_map keyless_answer o ≡ None → o ≡ None
none_told None e = refl
none_told (Some a) e = absurd (none-some (keyless_answer a) (sym e))

pub some_told : (o : Option Answer) (b : Answer) → option_map keyless_answer o ≡ Some (keyless_answer b) → (a : Answer) × (o ≡ Some a) × (keyless_answer a ≡ keyless_answer b)
some_told None b e = absurd (none-some (keyless_answer b) e)
some_told (Some a) b e = (a, refl, same_Some (keyless_answer a) (keyless_answer b) e)

given_bare : (q : Request) → option_map bare_handle (given_up q) ≡ given_up (bare_request q)
given_bare (Unmap handle) = refl
given_bare (Release handle) = refl
given_bare q = refl

given_alike : (q r : Request) → bare_request q ≡ bare_request r → option_map bare_handle (given_up q) ≡ option_map bare_handle (given_up r)
given_alike q r same = given_bare q ∙ ap given_up same ∙ sym (given_bare r)

pub rests : (d : OpenTask) (o : Opened) → d ≡ open_tasks.Nothing → IsDoingSo d o → o ≡ resting
rests open_tasks.Nothing resting is so = refl
rests open_tasks.Nothing (calling number asked freed) is so = absurd so
rests open_tasks.Nothing giving is so = absurd so
rests (open_tasks.Line line call lost) o is so = absurd (cc)
rests open_tasks.GivesBack o is so = absurd (cc)

-- at its next line, a domain at rest does what the line says
pub line_leads : (n : ℕ) (g h : History) (types : List (List ℕ)) (k j : Course) (v : Walker) (task : RunTask) (choice : ℕ) (x : Happening)
    → WalksAbreast n g h k v → v.doing ≡ open_tasks.Nothing → slice_get (tasks_left_of v) v.next ≡ Some task → CourseLeads types k choice x j
    → ActionLeads types k task.line (drop (v.next + 1) (tasks_left_of v)) task.run_action x j
line_leads n g h types k j v task choice x walks idle at leads =
    let one = subst (λ (o : Opened). OpenLeads types k o choice x j) (rests v.doing k.opened idle walks.doing) leads in
    let two = subst (λ (l : List RunTask). RestLeads types k l choice x j) (sym walks.tasks ∙ drop_next (tasks_left_of v) v.next task at) one in
    two.1

pub left_numbered : (n : ℕ) (g h : History) (k : Course) (v : Walker) (task : RunTask) → WalksAbreast n g h k v → slice_get (tasks_left_of v) v.next ≡ Some task
    → IsBelow n task.run_action × AreNumbered n (drop (v.next + 1) (tasks_left_of v))
left_numbered n g h k v task walks at =
    let all = subst (λ (l : List RunTask). AreNumbered n l) (sym walks.tasks ∙ drop_next (tasks_left_of v) v.next task at) walks.numbered in
    (numbered_first n task (drop (v.next + 1) (tasks_left_of v)) all, numbered_rest n task (drop (v.next + 1) (tasks_left_of v)) all)

-- the beginning of a line's call
pub begin_came : (n : ℕ) (s : Setting) (types : List (List ℕ)) (hs : List Happening) (h : History) (k j : Course) (v w : Walker) (task : RunTask) (call : Bor ScriptCall) (choice : ℕ) (x : Happening) (m : Option Moved) (old new : CoreState)
    → WalksAbreast n (history_in hs) h k v → AreAlike s (history_in hs) h → CoreStands s h old → domain_of s.domains k.dom ≢ None
    → slice_get (tasks_left_of v) v.next ≡ Some task → task.run_action ≡ Do call.now → v.doing ≡ open_tasks.Nothing
    → CourseLeads types k choice x j → CanComeNext s hs x → BeginsLine s types old v task call m new w → Came n s (history_in hs) h k j x m new w
begin_came n s types hs h k j v w task call choice x m old new walks alike stands there at does idle leads may (r, b, asks, makes, from) =
    let left = left_numbered n (history_in hs) h k v task walks at in
    let run_action = subst (λ (d : RunAction). ActionLeads types k task.line (drop (v.next + 1) (tasks_left_of v)) d x j) does (line_leads n (history_in hs) h types k j v task choice x walks idle at leads) in
    let q = run_action.0 in
    let e = run_action.1 in
    let theirs = subst (λ (d : DomId). MakesRequest walks.names d call.now r) walks.dom (asks walks.names walks.named) in
    let same = asks_alike k.named walks.names k.dom call.now q r walks.same run_action.2 theirs in
    let rest = subst (λ (o : Opened). IsOpenSo (history_in hs) k.dom.0 o) (rests v.doing k.opened idle walks.doing) walks.opened in
    let mine : MayDo s (history_in hs) (Begin k.dom q) e = subst (λ (z : Happening). CanComeNext s hs z) run_action.3 may in
    let made = makes h stands in
    let both = begins_alike s (history_in hs) h k.dom q r e (begun_element v.dom r b) alike same (asks_answered (history_in hs) k.named k.dom call.now q walks.mine run_action.2)
    (asks_answered h walks.names k.dom call.now r walks.theirs theirs) there rest mine (subst (λ (d : DomId). MayDo s h (Begin d r) (begun_element v.dom r b)) walks.dom made.0) in
    by q e b same run_action.3 run_action.4 left.1 both made.1 from
  where
    by : (q : Request) (e : Element) (b : Begun) → bare_request q ≡ bare_request r → x ≡ did (Begin k.dom q) e
        → j ≡ course_after types task.line call.now (given_up q) (record k { tasks = drop (v.next + 1) (tasks_left_of v) }) (answer_in e)
        → AreNumbered n (drop (v.next + 1) (tasks_left_of v)) → DoAlike s (history_in hs) h k.dom.0 e (begun_element v.dom r b)
        → CoreStands s (grown h (begun_element v.dom r b)) new → IsBegunFrom types task call (given_up r) v b m w → Came n s (history_in hs) h k j x m new w
    by q e beginnings.Open same is to numbered both stood from =
        let none = none_told (answer_in e) both.told in
        let next = to ∙ ap (λ (o : Option Answer). course_after types task.line call.now (given_up q) (record k { tasks = drop (v.next + 1) (tasks_left_of v) }) o) none in
        record {
          moved = from.0;
          event = Begin k.dom q;
          mine = e;
          theirs = begun_element v.dom r beginnings.Open;
          happening = is;
          stands = stood;
          alike = both.alike;
          walks =
              subst (λ (i : Course). WalksAbreast n (grown (history_in hs) e) (grown h (begun_element v.dom r beginnings.Open)) i w) (sym next)
              (subst (λ (u : Walker). WalksAbreast n (grown (history_in hs) e) (grown h (begun_element v.dom r beginnings.Open)) (record k { tasks = drop (v.next + 1) (tasks_left_of v); opened = calling task.line call.now (given_up q) }) u) (sym from.1)
              (goes_on n s (history_in hs) h k v (record v { next = v.next + 1; doing = open_tasks.Line task.line call (given_up r) }) (drop (v.next + 1) (tasks_left_of v)) k.held (calling task.line call.now (given_up q)) e (begun_element v.dom r beginnings.Open)
              walks (both.goes none) (refl, refl, sym (given_alike q r same)) refl numbered refl refl refl walks.held walks.kept walks.holds));
          others = both.others;
          dom = ap (λ (i : Course). i.dom) next;
        }
    by q e (beginnings.Done b) same is to numbered both stood from =
        let some = some_told (answer_in e) b both.told in
        let next = to ∙ ap (λ (o : Option Answer). course_after types task.line call.now (given_up q) (record k { tasks = drop (v.next + 1) (tasks_left_of v) }) o) some.1 in
        record {
          moved = from.0;
          event = Begin k.dom q;
          mine = e;
          theirs = begun_element v.dom r (beginnings.Done b);
          happening = is;
          stands = stood;
          alike = both.alike;
          walks =
              subst (λ (i : Course). WalksAbreast n (grown (history_in hs) e) (grown h (begun_element v.dom r (beginnings.Done b))) i w) (sym next)
              (goes_answered n s (history_in hs) h types k v w (v.next + 1) (drop (v.next + 1) (tasks_left_of v)) task.line call.now (given_up r) (given_up q) e (begun_element v.dom r (beginnings.Done b)) some.0 b
              walks both some.1 refl some.2 from.1 refl numbered (given_alike q r same));
          others = both.others;
          dom = ap (λ (i : Course). i.dom) next;
        }
    by q e beginnings.Busy same is to numbered both stood from = absurd (let done = both.done in cc)
    by q e beginnings.NoDomain same is to numbered both stood from = absurd (let done = both.done in cc)

-- a step of what is open
pub tick_came : (n : ℕ) (s : Setting) (types : List (List ℕ)) (hs : List Happening) (h : History) (k j : Course) (v w : Walker) (choice : ℕ) (x : Happening) (m : Option Moved) (old new : CoreState)
    → WalksAbreast n (history_in hs) h k v → AreAlike s (history_in hs) h → CoreStands s h old → domain_of s.domains k.dom ≢ None → v.doing ≢ open_tasks.Nothing
    → CourseLeads types k choice x j → CanComeNext s hs x → TicksOpen s types old v m new w → Came n s (history_in hs) h k j x m new w
unfolding IsClosedFrom
tick_came n s types hs h k j v w choice x m old new walks alike stands there busy leads may (t, makes, from) =
    by v.doing k.opened t refl refl walks.doing leads (makes h stands) from
  where
    both : (t : Ticked) (e : Element) → open_call (history_in hs) k.dom.0 ≢ None → x ≡ did (Tick k.dom) e → MayDo s h (Tick v.dom) (ticked_element v.dom t) → DoAlike s (history_in hs) h k.dom.0 e (ticked_element v.dom t)
    both t e busy_still is made =
        ticks_alike s (history_in hs) h k.dom e (ticked_element v.dom t) alike there busy_still (subst (λ (z : Happening). CanComeNext s hs z) is may)
        (subst (λ (d : DomId). MayDo s h (Tick d) (ticked_element v.dom t)) walks.dom made)

    line : (number : ℕ) (asked : ScriptCall) (lost freed : Option Handle) (t : Ticked) (e : Element) → k.opened ≡ calling number asked freed → option_map bare_handle lost ≡ option_map bare_handle freed
        → ((b : Answer) → ClosesCall types b v w → AnswersLine types number asked lost b v w)
        → x ≡ did (Tick k.dom) e → j ≡ course_after types number asked freed k (answer_in e)
        → DoAlike s (history_in hs) h k.dom.0 e (ticked_element v.dom t) → CoreStands s (grown h (ticked_element v.dom t)) new → IsTickedFrom types v t m w → Came n s (history_in hs) h k j x m new w
    line number asked lost freed (ticked.Step step seen) e opened loses closes is to alike_now stood from =
        let none = none_told (answer_in e) alike_now.told in
        let next = to ∙ ap (λ (o : Option Answer). course_after types number asked freed k o) none in
        record {
          moved = from.0;
          event = Tick k.dom;
          mine = e;
          theirs = ticked_element v.dom (ticked.Step step seen);
          happening = is;
          stands = stood;
          alike = alike_now.alike;
          walks =
              subst (λ (i : Course). WalksAbreast n (grown (history_in hs) e) (grown h (ticked_element v.dom (ticked.Step step seen))) i w) (sym next)
              (subst (λ (u : Walker). WalksAbreast n (grown (history_in hs) e) (grown h (ticked_element v.dom (ticked.Step step seen))) (record k { opened = calling number asked freed }) u) (sym from.1)
              (goes_on n s (history_in hs) h k v v k.tasks k.held (calling number asked freed) e (ticked_element v.dom (ticked.Step step seen))
              walks (alike_now.goes none) (subst (λ (o : Opened). IsDoingSo v.doing o) opened walks.doing) walks.tasks walks.numbered refl refl refl walks.held walks.kept walks.holds));
          others = alike_now.others;
          dom = ap (λ (i : Course). i.dom) next;
        }
    line number asked lost freed (ticked.Done step seen b) e opened loses closes is to alike_now stood from =
        let some = some_told (answer_in e) b alike_now.told in
        let next = to ∙ ap (λ (o : Option Answer). course_after types number asked freed k o) some.1 in
        record {
          moved = from.0;
          event = Tick k.dom;
          mine = e;
          theirs = ticked_element v.dom (ticked.Done step seen b);
          happening = is;
          stands = stood;
          alike = alike_now.alike;
          walks =
              subst (λ (i : Course). WalksAbreast n (grown (history_in hs) e) (grown h (ticked_element v.dom (ticked.Done step seen b))) i w) (sym next)
              (goes_answered n s (history_in hs) h types k v w v.next k.tasks number asked lost freed e (ticked_element v.dom (ticked.Done step seen b)) some.0 b
              walks alike_now some.1 refl some.2 (closes b from.1) walks.tasks walks.numbered (sym loses));
          others = alike_now.others;
          dom = ap (λ (i : Course). i.dom) next;
        }
    line number asked lost freed ticked.Idle e opened loses closes is to alike_now stood from = absurd (let done = alike_now.done in cc)
    line number asked lost freed ticked.NoDomain e opened loses closes is to alike_now stood from = absurd (let done = alike_now.done in cc)

    back : (t : Ticked) (e : Element) → k.opened ≡ giving → v.doing ≡ open_tasks.GivesBack → x ≡ did (Tick k.dom) e → j ≡ back_after k (answer_in e)
        → DoAlike s (history_in hs) h k.dom.0 e (ticked_element v.dom t) → CoreStands s (grown h (ticked_element v.dom t)) new → IsTickedFrom types v t m w → Came n s (history_in hs) h k j x m new w
    back (ticked.Step step seen) e opened does is to alike_now stood from =
        let none = none_told (answer_in e) alike_now.told in
        let next = to ∙ ap (λ (o : Option Answer). back_after k o) none in
        record {
          moved = from.0;
          event = Tick k.dom;
          mine = e;
          theirs = ticked_element v.dom (ticked.Step step seen);
          happening = is;
          stands = stood;
          alike = alike_now.alike;
          walks =
              subst (λ (i : Course). WalksAbreast n (grown (history_in hs) e) (grown h (ticked_element v.dom (ticked.Step step seen))) i w) (sym next)
              (subst (λ (u : Walker). WalksAbreast n (grown (history_in hs) e) (grown h (ticked_element v.dom (ticked.Step step seen))) (record k { opened = giving }) u) (sym from.1)
              (goes_on n s (history_in hs) h k v v k.tasks k.held giving e (ticked_element v.dom (ticked.Step step seen))
              walks (alike_now.goes none) (subst (λ (o : Opened). IsDoingSo v.doing o) opened walks.doing) walks.tasks walks.numbered refl refl refl walks.held walks.kept walks.holds));
          others = alike_now.others;
          dom = ap (λ (i : Course). i.dom) next;
        }
    back (ticked.Done step seen b) e opened does is to alike_now stood from =
        let some = some_told (answer_in e) b alike_now.told in
        let next = to ∙ ap (λ (o : Option Answer). back_after k o) some.1 in
        let closed = subst (λ (d : OpenTask). IsClosedFrom types d b v w) does from.1 in
        record {
          moved = from.0;
          event = Tick k.dom;
          mine = e;
          theirs = ticked_element v.dom (ticked.Done step seen b);
          happening = is;
          stands = stood;
          alike = alike_now.alike;
          walks =
              subst (λ (i : Course). WalksAbreast n (grown (history_in hs) e) (grown h (ticked_element v.dom (ticked.Done step seen b))) i w) (sym next)
              (subst (λ (u : Walker). WalksAbreast n (grown (history_in hs) e) (grown h (ticked_element v.dom (ticked.Done step seen b))) (record k { opened = resting }) u) (sym closed)
              (goes_on n s (history_in hs) h k v (record v { doing = open_tasks.Nothing }) k.tasks k.held resting e (ticked_element v.dom (ticked.Done step seen b))
              walks (alike_now.over some.0 some.1) tt walks.tasks walks.numbered refl refl refl walks.held walks.kept walks.holds));
          others = alike_now.others;
          dom = ap (λ (i : Course). i.dom) next;
        }
    back ticked.Idle e opened does is to alike_now stood from = absurd (let done = alike_now.done in cc)
    back ticked.NoDomain e opened does is to alike_now stood from = absurd (let done = alike_now.done in cc)

    closes_line : (number : ℕ) (asked : ScriptCall) (d : OpenTask) (l : ℕ) (call : Bor ScriptCall) (lost : Option Handle) → v.doing ≡ d → d ≡ open_tasks.Line l call lost → l ≡ number → call.now ≡ asked
        → (b : Answer) → ClosesCall types b v w → AnswersLine types number asked lost b v w
    closes_line number asked d l call lost is line_is same_line same_call b closed =
        let one : AnswersLine types l call.now lost b v w = subst (λ (z : OpenTask). IsClosedFrom types z b v w) (is ∙ line_is) closed in
        let two = subst (λ (i : ℕ). AnswersLine types i call.now lost b v w) same_line one in
        subst (λ (i : ScriptCall). AnswersLine types number i lost b v w) same_call two

    by : (d : OpenTask) (o : Opened) (t : Ticked) → v.doing ≡ d → k.opened ≡ o → IsDoingSo d o → OpenLeads types k o choice x j
        → MayDo s h (Tick v.dom) (ticked_element v.dom t) × CoreStands s (grown h (ticked_element v.dom t)) new → IsTickedFrom types v t m w → Came n s (history_in hs) h k j x m new w
    by open_tasks.Nothing o t is opened so leads_on made from = absurd (busy is)
    by (open_tasks.Line l call lost) resting t is opened so leads_on made from = absurd so
    by (open_tasks.Line l call lost) giving t is opened so leads_on made from = absurd so
    by (open_tasks.Line l call lost) (calling number asked freed) t is opened so leads_on made from =
        let busy_still = subst (λ (o : Opened). IsOpenSo (history_in hs) k.dom.0 o) opened walks.opened in
        line number asked lost freed t leads_on.1 opened so.2 (closes_line number asked (open_tasks.Line l call lost) l call lost is refl so.0 so.1) leads_on.2 leads_on.3
        (both t leads_on.1 busy_still leads_on.2 made.0) made.1 from
    by open_tasks.GivesBack resting t is opened so leads_on made from = absurd so
    by open_tasks.GivesBack (calling number asked freed) t is opened so leads_on made from = absurd so
    by open_tasks.GivesBack giving t is opened so leads_on made from =
        let busy_still = subst (λ (o : Opened). IsOpenSo (history_in hs) k.dom.0 o) opened walks.opened in
        back t leads_on.1 opened is leads_on.2 leads_on.3 (both t leads_on.1 busy_still leads_on.2 made.0) made.1 from

-- the beginning of a release at the end of a list
pub give_came : (n : ℕ) (s : Setting) (types : List (List ℕ)) (hs : List Happening) (h : History) (k j : Course) (v w : Walker) (choice : ℕ) (x : Happening) (m : Option Moved) (old new : CoreState)
    → WalksAbreast n (history_in hs) h k v → AreAlike s (history_in hs) h → CoreStands s h old → domain_of s.domains k.dom ≢ None
    → length (tasks_left_of v) ≤ v.next → v.doing ≡ open_tasks.Nothing
    → CourseLeads types k choice x j → CanComeNext s hs x → GivesBackAt s old v choice m new w → Came n s (history_in hs) h k j x m new w
give_came n s types hs h k j v w choice x m old new walks alike stands there end idle leads may gives =
    let one = subst (λ (o : Opened). OpenLeads types k o choice x j) (rests v.doing k.opened idle walks.doing) leads in
    let gave : GivesAt k choice x j = subst (λ (l : List RunTask). RestLeads types k l choice x j) (sym walks.tasks ∙ drop_all (tasks_left_of v) v.next end) one in
    let (handle, e, at, is, to) = gave in
    let (other, here, same) = held_at k.held v.held.items choice handle walks.held at in
    let (b, makes, from) = gives other here in
    let made = makes h stands in
    let rest = subst (λ (o : Opened). IsOpenSo (history_in hs) k.dom.0 o) (rests v.doing k.opened idle walks.doing) walks.opened in
    let mine : MayDo s (history_in hs) (Begin k.dom (Release handle)) e = subst (λ (z : Happening). CanComeNext s hs z) is may in
    let both = begins_alike s (history_in hs) h k.dom (Release handle) (Release other) e (begun_element v.dom (Release other) b) alike (ap (λ (z : Handle). Release z) (sym same))
    (inl (held_here (history_in hs) k.dom.0 choice k.held handle at walks.kept)) (inl (held_here h k.dom.0 choice v.held.items other here walks.holds)) there rest mine
    (subst (λ (d : DomId). MayDo s h (Begin d (Release other)) (begun_element v.dom (Release other) b)) walks.dom made.0) in
    by handle other e b is to both made.1 from
  where
    by : (handle other : Handle) (e : Element) (b : Begun) → x ≡ did (Begin k.dom (Release handle)) e → j ≡ back_after (record k { held = take choice k.held ++ drop (suc choice) k.held }) (answer_in e)
        → DoAlike s (history_in hs) h k.dom.0 e (begun_element v.dom (Release other) b) → CoreStands s (grown h (begun_element v.dom (Release other) b)) new
        → IsGivenFrom choice v b m w → Came n s (history_in hs) h k j x m new w
    by handle other e beginnings.Open is to both stood (some, same, left) =
        let none = none_told (answer_in e) both.told in
        let next = to ∙ ap (λ (o : Option Answer). back_after (record k { held = take choice k.held ++ drop (suc choice) k.held }) o) none in
        let held : SameHandles (take choice k.held ++ drop (suc choice) k.held) w.held.items = left_alike k.held v.held.items choice walks.held ∙ ap (map bare_handle) (sym left) in
        record {
          moved = some;
          event = Begin k.dom (Release handle);
          mine = e;
          theirs = begun_element v.dom (Release other) beginnings.Open;
          happening = is;
          stands = stood;
          alike = both.alike;
          walks =
              subst (λ (i : Course). WalksAbreast n (grown (history_in hs) e) (grown h (begun_element v.dom (Release other) beginnings.Open)) i w) (sym next)
              (goes_on n s (history_in hs) h k v w k.tasks (take choice k.held ++ drop (suc choice) k.held) giving e (begun_element v.dom (Release other) beginnings.Open)
              walks (both.goes none) (subst (λ (d : OpenTask). IsDoingSo d giving) (sym (ap (λ (u : Walker). u.doing) same)) tt)
              (left_same v w (ap (λ (u : Walker). u.tasks.items) same) (ap (λ (u : Walker). u.next) same) ∙ walks.tasks) walks.numbered
              (ap (λ (u : Walker). u.dom) same) (ap (λ (u : Walker). u.labels) same) (ap (λ (u : Walker). u.text.items) same) held
              (held_left (history_in hs) k.dom.0 choice k.held walks.kept)
              (subst (λ (l : List Handle). WereAnswered h k.dom.0 l) (sym left) (held_left h k.dom.0 choice v.held.items walks.holds)));
          others = both.others;
          dom = ap (λ (i : Course). i.dom) next;
        }
    by handle other e (beginnings.Done b) is to both stood (gone, same, left) =
        let some = some_told (answer_in e) b both.told in
        let next = to ∙ ap (λ (o : Option Answer). back_after (record k { held = take choice k.held ++ drop (suc choice) k.held }) o) some.1 in
        let held : SameHandles (take choice k.held ++ drop (suc choice) k.held) w.held.items = left_alike k.held v.held.items choice walks.held ∙ ap (map bare_handle) (sym left) in
        record {
          moved = gone;
          event = Begin k.dom (Release handle);
          mine = e;
          theirs = begun_element v.dom (Release other) (beginnings.Done b);
          happening = is;
          stands = stood;
          alike = both.alike;
          walks =
              subst (λ (i : Course). WalksAbreast n (grown (history_in hs) e) (grown h (begun_element v.dom (Release other) (beginnings.Done b))) i w) (sym next)
              (goes_on n s (history_in hs) h k v w k.tasks (take choice k.held ++ drop (suc choice) k.held) resting e (begun_element v.dom (Release other) (beginnings.Done b))
              walks (both.over some.0 some.1) (subst (λ (d : OpenTask). IsDoingSo d resting) (sym (ap (λ (u : Walker). u.doing) same ∙ idle)) tt)
              (left_same v w (ap (λ (u : Walker). u.tasks.items) same) (ap (λ (u : Walker). u.next) same) ∙ walks.tasks) walks.numbered
              (ap (λ (u : Walker). u.dom) same) (ap (λ (u : Walker). u.labels) same) (ap (λ (u : Walker). u.text.items) same) held
              (held_left (history_in hs) k.dom.0 choice k.held walks.kept)
              (subst (λ (l : List Handle). WereAnswered h k.dom.0 l) (sym left) (held_left h k.dom.0 choice v.held.items walks.holds)));
          others = both.others;
          dom = ap (λ (i : Course). i.dom) next;
        }
    by handle other e beginnings.Busy is to both stood from = absurd (let done = both.done in cc)
    by handle other e beginnings.NoDomain is to both stood from = absurd (let done = both.done in cc)
