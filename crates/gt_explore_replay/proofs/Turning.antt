-- Each order has turns.
use Rattle.std.proofs.Common.{◌≡◌, ◌≢◌, ◌⊎◌, ◌<◌, ℕ, suc, Bool, cond, List, [], ◌∷◌, ◌++◌, length, map, take, drop}
use Rattle.std.proofs.Common.{Option, Some, None, refl, ap, sym, ◌∙◌, subst, inl, inr, arith, append_assoc}
use Rattle.std.proofs.lemmas.Bool.{eq-eqb, ne_eqb, cases_eq}
use Rattle.std.proofs.lemmas.List.{append-nil}
use Rattle.std.specs.Prelude.{slice_get, slice_set, All, AllPairs, get_or}
use Rattle.gt_model.specs.declared.handle.Handle.{Handle}
use Rattle.gt_model.specs.declared.request.Request.{Request}
use Rattle.gt_model.specs.declared.request.Request.TheVariants.{Release}
use Rattle.gt_model.specs.declared.trace.Answer.{Answer}
use Rattle.gt_model.specs.declared.trace.Element.{Element}
use Rattle.gt_model.specs.declared.trace.Event.TheVariants.{Begin, Tick}
use Rattle.gt_script_lines.specs.declared.calls.ScriptCall.{ScriptCall}
use Rattle.gt_script.specs.Lists.{RunAction, RunTask}
use Rattle.gt_script.specs.declared.tasks.RunAction.TheVariants.{Do, Tell, Await}
use Rattle.gt_script.specs.Contents.{type_names}
use Rattle.gt_script.specs.RunContents.{RunContents}
use Rattle.gt_script.specs.RunScripts.{list_of}
use Rattle.gt_types.specs.Names.{domain_of}
use Rattle.gt_types.specs.declared.DomId.{DomId}
use Rattle.gt_types.specs.declared.config.DomainConfig.{DomainConfig}
use Rattle.gt_script_runs.specs.Printing.{answer_line}
use Rattle.gt_script_runs.specs.Runs.{EndsWith, AnswerNothing, answer_in, handle_given, label_given, with_name}
use Rattle.gt_explore_search.specs.declared.spaces.Turn.{Turn}
use Rattle.gt_explore_replay.specs.Orders.{Happening, did, doer, own_happenings, given_up, held_after, ticks_of}
use Rattle.gt_explore_replay.specs.Orders.{CallGoesOn, CallHappens, GivesMappingsBack, FollowsList, ActionHappens}
use Rattle.gt_explore_replay.specs.Orders.{Prints, AllFollow, IsOrderOf}
use Rattle.gt_explore_replay.specs.Walking.{HaveOwnIds}
use Rattle.gt_explore_replay.specs.Courses.{Opened, resting, calling, giving, Course, course_answered, course_after}
use Rattle.gt_explore_replay.specs.Courses.{back_after, ActionLeads, GivesAt, RestLeads, OpenLeads, CourseLeads}
use Rattle.gt_explore_replay.specs.Courses.{CourseEnds, TurnsLead, AllCoursesEnd, courses_text, first_courses}
use Rattle.gt_explore_replay.specs.Courses.{IsTurnedBy}

-- one call

-- an element has the answer, or answers nothing, and then the call goes on
abbrev Answered : DomId → (Answer → List Happening → Type 0) → Element → List Happening → Type 0
Answered dom After e more =
    ((answer : Answer) × (answer_in e ≡ Some answer) × After answer more)
    ⊎ ((answer_in e ≡ None) × CallGoesOn dom After more)

ends-nil : (answer : Answer) (before : List Element) (last : Element) → [] ≡ before ++ last ∷ [] → ⊥
ends-nil answer [] last e = cc
ends-nil answer (b ∷ before) last e = cc

ends-by : (dom : DomId) (After : Answer → List Happening → Type 0) (e : Element) (trace : List Element) (answer : Answer) (later more : List Happening) (before : List Element) (last : Element)
    → e ∷ trace ≡ before ++ last ∷ [] → AnswerNothing before → answer_in last ≡ Some answer → more ≡ ticks_of dom trace ++ later → After answer later → Answered dom After e more
ends-by dom After e trace answer later more [] last order quiet is mores after =
    let same : e ≡ last = cc in
    let none : trace ≡ [] = cc in
    let all : more ≡ later = mores ∙ ap (λ (l : List Element). ticks_of dom l ++ later) none in
    inl (answer, ap answer_in same ∙ is, subst (After answer) (sym all) after)
ends-by dom After e trace answer later more (b ∷ before) last order quiet is mores after =
    let same : e ≡ b = cc in
    let rest : trace ≡ before ++ last ∷ [] = cc in
    inr (ap answer_in same ∙ quiet.0, (trace, answer, later, mores, record { before = before; last = last; order = rest; quiet = quiet.1; answers = is }, after))

goes-on-by : (dom : DomId) (After : Answer → List Happening → Type 0) (x : Happening) (more : List Happening) (trace : List Element) (answer : Answer) (later : List Happening)
    → x ∷ more ≡ ticks_of dom trace ++ later → EndsWith trace answer → After answer later → (e : Element) × (x ≡ did (Tick dom) e) × Answered dom After e more
goes-on-by dom After x more [] answer later is ends after = absurd (ends-nil answer ends.before ends.last ends.order)
goes-on-by dom After x more (e ∷ trace) answer later is ends after =
    let first : x ≡ did (Tick dom) e = cc in
    let rest : more ≡ ticks_of dom trace ++ later = cc in
    (e, first, ends-by dom After e trace answer later more ends.before ends.last ends.order ends.quiet ends.answers rest after)

goes-on-next : (dom : DomId) (After : Answer → List Happening → Type 0) (x : Happening) (more : List Happening) → CallGoesOn dom After (x ∷ more)
    → (e : Element) × (x ≡ did (Tick dom) e) × Answered dom After e more
goes-on-next dom After x more (trace, answer, later, is, ends, after) = goes-on-by dom After x more trace answer later is ends after

begins-next : (dom : DomId) (request : Request) (After : Answer → List Happening → Type 0) (x : Happening) (more : List Happening) → CallHappens dom request After (x ∷ more)
    → (e : Element) × (x ≡ did (Begin dom request) e) × Answered dom After e more
begins-next dom request After x more (e, trace, answer, later, is, ends, after) =
    let first : x ≡ did (Begin dom request) e = cc in
    let rest : more ≡ ticks_of dom trace ++ later = cc in
    (e, first, ends-by dom After e trace answer later more ends.before ends.last ends.order ends.quiet ends.answers rest after)

none-goes-on : (dom : DomId) (After : Answer → List Happening → Type 0) → CallGoesOn dom After [] → ⊥
none-goes-on dom After ([], answer, later, is, ends, after) = ends-nil answer ends.before ends.last ends.order
none-goes-on dom After (e ∷ trace, answer, later, is, ends, after) = cc

-- one domain

-- what a domain does from here on, and what it prints then
abbrev pub GoesFrom : List (List ℕ) → Course → Opened → List Happening → List ℕ → Type 0
GoesFrom types k resting hs part = FollowsList types k.dom k.named k.held k.tasks hs part
GoesFrom types k (calling line call lost) hs part =
    CallGoesOn k.dom (λ answer more.
    Prints (answer_line types line k.dom answer)
    (FollowsList types k.dom (with_name k.named k.dom (label_given call) (handle_given answer)) (held_after k.held lost answer) k.tasks more)
    part) hs
GoesFrom types k giving hs part =
    CallGoesOn k.dom (λ answer more. FollowsList types k.dom k.named k.held k.tasks more part) hs

-- the next point of its course, and what it does from there on
record Next (types : List (List ℕ)) (k : Course) (Leads : ℕ → Course → Type 0) (more : List Happening) (part : List ℕ) : Type 0 where
  pub choice : ℕ
  pub next : Course
  pub rest : List ℕ
  pub leads : Leads choice next
  pub goes : GoesFrom types next next.opened more rest
  pub text : k.text ++ part ≡ next.text ++ rest
  pub dom : next.dom ≡ k.dom

printed : (old line part rest : List ℕ) → part ≡ line ++ rest → old ++ part ≡ (old ++ line) ++ rest
printed old line part rest is = ap (λ (l : List ℕ). old ++ l) is ∙ sym (append_assoc old line rest)

-- what follows the answer of a line's call, or its step
line-next : (types : List (List ℕ)) (k : Course) (line : ℕ) (call : ScriptCall) (lost : Option Handle) (left : List RunTask) (e : Element) (more : List Happening) (part : List ℕ)
    → Answered k.dom (λ answer later.
    Prints (answer_line types line k.dom answer)
    (FollowsList types k.dom (with_name k.named k.dom (label_given call) (handle_given answer)) (held_after k.held lost answer) left later)
    part) e more
    → Next types k (λ c j. j ≡ course_after types line call lost (record k { tasks = left }) (answer_in e)) more part
line-next types k line call lost left e more part (inl (answer, is, (rest, so, follows))) = record {
  choice = 0;
  next = course_answered types line call lost (record k { tasks = left }) answer;
  rest = rest;
  leads = ap (λ (o : Option Answer). course_after types line call lost (record k { tasks = left }) o) (sym is);
  goes = follows;
  text = printed k.text (answer_line types line k.dom answer) part rest so;
  dom = refl;
}
line-next types k line call lost left e more part (inr (none, goes)) = record {
  choice = 0;
  next = record k { tasks = left; opened = calling line call lost };
  rest = part;
  leads = ap (λ (o : Option Answer). course_after types line call lost (record k { tasks = left }) o) (sym none);
  goes = goes;
  text = refl;
  dom = refl;
}

run_action-next : (types : List (List ℕ)) (k : Course) (line : ℕ) (left : List RunTask) (run_action : RunAction) (x : Happening) (more : List Happening) (part : List ℕ)
    → ActionHappens types k.dom k.named k.held line run_action (λ names holds later rest. FollowsList types k.dom names holds left later rest) (x ∷ more) part
    → k.opened ≡ resting → Next types k (λ c j. ActionLeads types k line left run_action x j) more part
run_action-next types k line left (Tell flag) x more part (later, is, follows) idle = record {
  choice = 0;
  next = record k { tasks = left };
  rest = part;
  leads = (cc, refl);
  goes =
      let same : more ≡ later = cc in
      subst (λ (o : Opened). GoesFrom types (record k { tasks = left }) o more part) (sym idle)
      (subst (λ (l : List Happening). FollowsList types k.dom k.named k.held left l part) (sym same) follows);
  text = refl;
  dom = refl;
}
run_action-next types k line left (Await flag) x more part (later, is, follows) idle = record {
  choice = 0;
  next = record k { tasks = left };
  rest = part;
  leads = (cc, refl);
  goes =
      let same : more ≡ later = cc in
      subst (λ (o : Opened). GoesFrom types (record k { tasks = left }) o more part) (sym idle)
      (subst (λ (l : List Happening). FollowsList types k.dom k.named k.held left l part) (sym same) follows);
  text = refl;
  dom = refl;
}
run_action-next types k line left (Do call) x more part (request, asks, happens) idle =
    let begun = begins-next k.dom request (λ answer later.
    Prints (answer_line types line k.dom answer)
    (FollowsList types k.dom (with_name k.named k.dom (label_given call) (handle_given answer)) (held_after k.held (given_up request) answer) left later)
    part) x more happens in
    let n = line-next types k line call (given_up request) left begun.0 more part begun.2 in
    record {
      choice = 0;
      next = n.next;
      rest = n.rest;
      leads = (request, begun.0, asks, begun.1, n.leads);
      goes = n.goes;
      text = n.text;
      dom = n.dom;
    }

-- the element at a place of a list
pub at-length : {X : Type 0} (before after : List X) (x : X) → slice_get (before ++ x ∷ after) (length before) ≡ Some x
at-length [] after x = refl
at-length (b ∷ before) after x = at-length before after x

around-length : {X : Type 0} (before after : List X) (x : X) → take (length before) (before ++ x ∷ after) ++ drop (suc (length before)) (before ++ x ∷ after) ≡ before ++ after
around-length [] after x = refl
around-length (b ∷ before) after x = ap (λ l. b ∷ l) (around-length before after x)

-- what follows the answer of a release at the end of the list, or its step
back-next : (types : List (List ℕ)) (k : Course) (held : List Handle) (order : List Handle) (e : Element) (more : List Happening) (part : List ℕ) → part ≡ []
    → Answered k.dom (λ answer later. GivesMappingsBack k.dom order held later) e more → k.tasks ≡ []
    → Next types k (λ c j. j ≡ back_after (record k { held = held }) (answer_in e)) more part
back-next types k held order e more part nothing (inl (answer, is, gives)) end = record {
  choice = 0;
  next = record k { held = held; opened = resting };
  rest = part;
  leads = ap (λ (o : Option Answer). back_after (record k { held = held }) o) (sym is);
  goes = subst (λ (l : List RunTask). FollowsList types k.dom k.named held l more part) (sym end) (order, gives, nothing);
  text = refl;
  dom = refl;
}
back-next types k held order e more part nothing (inr (none, (trace, answer, later, is, ends, gives))) end = record {
  choice = 0;
  next = record k { held = held; opened = giving };
  rest = part;
  leads = ap (λ (o : Option Answer). back_after (record k { held = held }) o) (sym none);
  goes = (trace, answer, later, is, ends, subst (λ (l : List RunTask). FollowsList types k.dom k.named held l later part) (sym end) (order, gives, nothing));
  text = refl;
  dom = refl;
}

no-happening : {P : Type 0} (x : Happening) (more : List Happening) → x ∷ more ≡ [] → P
no-happening x more e = absurd (cc)

gives-next : (types : List (List ℕ)) (k : Course) (order : List Handle) (x : Happening) (more : List Happening) (part : List ℕ) → part ≡ []
    → GivesMappingsBack k.dom order k.held (x ∷ more) → k.tasks ≡ [] → Next types k (λ c j. GivesAt k c x j) more part
gives-next types k [] x more part nothing (left, none) end = no-happening x more none
gives-next types k (handle ∷ order) x more part nothing (before, after, is, happens) end =
    let begun = begins-next k.dom (Release handle) (λ answer later. GivesMappingsBack k.dom order (before ++ after) later) x more happens in
    let n = back-next types k (before ++ after) order begun.0 more part nothing begun.2 end in
    let there : slice_get k.held (length before) ≡ Some handle = ap (λ (l : List Handle). slice_get l (length before)) is ∙ at-length before after handle in
    let left : before ++ after ≡ take (length before) k.held ++ drop (suc (length before)) k.held =
    sym (ap (λ (l : List Handle). take (length before) l ++ drop (suc (length before)) l) is ∙ around-length before after handle) in
    record {
      choice = length before;
      next = n.next;
      rest = n.rest;
      leads = (handle, begun.0, there, begun.1, n.leads ∙ ap (λ (l : List Handle). back_after (record k { held = l }) (answer_in begun.0)) left);
      goes = n.goes;
      text = n.text;
      dom = n.dom;
    }

rest-next : (types : List (List ℕ)) (k : Course) (tasks : List RunTask) (x : Happening) (more : List Happening) (part : List ℕ) → k.tasks ≡ tasks → k.opened ≡ resting
    → FollowsList types k.dom k.named k.held tasks (x ∷ more) part → Next types k (λ c j. RestLeads types k tasks c x j) more part
rest-next types k [] x more part end idle (order, gives, nothing) = gives-next types k order x more part nothing gives end
rest-next types k (t ∷ ts) x more part end idle follows =
    let n = run_action-next types k t.line ts t.run_action x more part follows idle in
    record {
      choice = 0;
      next = n.next;
      rest = n.rest;
      leads = (refl, n.leads);
      goes = n.goes;
      text = n.text;
      dom = n.dom;
    }

open-next : (types : List (List ℕ)) (k : Course) (o : Opened) (x : Happening) (more : List Happening) (part : List ℕ) → k.opened ≡ o
    → GoesFrom types k o (x ∷ more) part → Next types k (λ c j. OpenLeads types k o c x j) more part
open-next types k resting x more part is goes = rest-next types k k.tasks x more part refl is goes
open-next types k (calling line call lost) x more part is goes =
    let step = goes-on-next k.dom (λ answer later.
    Prints (answer_line types line k.dom answer)
    (FollowsList types k.dom (with_name k.named k.dom (label_given call) (handle_given answer)) (held_after k.held lost answer) k.tasks later)
    part) x more goes in
    let n = line-next types k line call lost k.tasks step.0 more part step.2 in
    record {
      choice = 0;
      next = n.next;
      rest = n.rest;
      leads = (refl, step.0, step.1, n.leads);
      goes = n.goes;
      text = n.text;
      dom = n.dom;
    }
open-next types k giving x more part is goes =
    let step = goes-on-next k.dom (λ answer later. FollowsList types k.dom k.named k.held k.tasks later part) x more goes in
    let n = giving-next types k step.0 more part step.2 in
    record {
      choice = 0;
      next = n.next;
      rest = n.rest;
      leads = (refl, step.0, step.1, n.leads);
      goes = n.goes;
      text = n.text;
      dom = n.dom;
    }
  where
    giving-next : (types : List (List ℕ)) (k : Course) (e : Element) (more : List Happening) (part : List ℕ)
        → Answered k.dom (λ answer later. FollowsList types k.dom k.named k.held k.tasks later part) e more
        → Next types k (λ c j. j ≡ back_after k (answer_in e)) more part
    giving-next types k e more part (inl (answer, is, follows)) = record {
      choice = 0;
      next = record k { opened = resting };
      rest = part;
      leads = ap (λ (o : Option Answer). back_after k o) (sym is);
      goes = follows;
      text = refl;
      dom = refl;
    }
    giving-next types k e more part (inr (none, goes)) = record {
      choice = 0;
      next = record k { opened = giving };
      rest = part;
      leads = ap (λ (o : Option Answer). back_after k o) (sym none);
      goes = goes;
      text = refl;
      dom = refl;
    }

-- a domain that does no more is at its end
over-by : (types : List (List ℕ)) (k : Course) (tasks : List RunTask) (part : List ℕ) → FollowsList types k.dom k.named k.held tasks [] part → (tasks ≡ []) × (k.held ≡ []) × (part ≡ [])
over-by types k [] part ([], (none, nothing), is) = (refl, none, is)
over-by types k [] part (handle ∷ order, (before, after, is, (e, trace, answer, more, so, ends, gives)), nothing) = absurd (cc)
over-by types k (t ∷ ts) part follows = absurd (by t.run_action follows)
  where
    by : (run_action : RunAction) → ActionHappens types k.dom k.named k.held t.line run_action (λ names holds later rest. FollowsList types k.dom names holds ts later rest) [] part → ⊥
    by (Tell flag) (more, is, follows) = cc
    by (Await flag) (more, is, follows) = cc
    by (Do call) (request, asks, (e, trace, answer, more, so, ends, done)) = cc

over : (types : List (List ℕ)) (k : Course) (o : Opened) (part : List ℕ) → k.opened ≡ o → GoesFrom types k o [] part → CourseEnds k × (part ≡ [])
over types k resting part is goes = let o = over-by types k k.tasks part goes in (record { tasks = o.0; opened = is; held = o.1 }, o.2)
over types k (calling line call lost) part is goes = absurd (none-goes-on k.dom _ goes)
over types k giving part is goes = absurd (none-goes-on k.dom _ goes)

-- all domains

-- each of the domains goes on so, and this is the text of all
abbrev pub AreGoing : List (List ℕ) → List Course → List Happening → List ℕ → Type 0
AreGoing types [] hs text = text ≡ []
AreGoing types (k ∷ ks) hs text =
    (part : List ℕ) × Prints (k.text ++ part) (AreGoing types ks hs) text × GoesFrom types k k.opened (own_happenings k.dom hs) part

-- the numbers of the domains
abbrev pub numbers : List Course → List ℕ
numbers ks = map (λ (k : Course). k.dom.0) ks

-- a number is none of these
abbrev pub IsNoneOf : ℕ → List ℕ → Type 0
IsNoneOf n [] = Unit {0}
IsNoneOf n (m ∷ ms) = (n ≢ m) × IsNoneOf n ms

abbrev pub AllDiffer : List ℕ → Type 0
AllDiffer [] = Unit {0}
AllDiffer (n ∷ ns) = IsNoneOf n ns × AllDiffer ns

abbrev pub IsOneOf : ℕ → List ℕ → Type 0
IsOneOf n [] = ⊥
IsOneOf n (m ∷ ms) = (n ≡ m) ⊎ IsOneOf n ms

own-here : (dom : DomId) (x : Happening) (hs : List Happening) → (doer x).0 ≡ dom.0 → own_happenings dom (x ∷ hs) ≡ x ∷ own_happenings dom hs
own-here dom x hs is = ap (λ (b : Bool). cond b (x ∷ own_happenings dom hs) (own_happenings dom hs)) (eq-eqb (doer x).0 dom.0 is)

own-away : (dom : DomId) (x : Happening) (hs : List Happening) → (doer x).0 ≢ dom.0 → own_happenings dom (x ∷ hs) ≡ own_happenings dom hs
own-away dom x hs other = ap (λ (b : Bool). cond b (x ∷ own_happenings dom hs) (own_happenings dom hs)) (ne_eqb (doer x).0 dom.0 other)

-- domains that did not do this go on as before
others-go : (types : List (List ℕ)) (ks : List Course) (x : Happening) (hs : List Happening) (text : List ℕ) → IsNoneOf (doer x).0 (numbers ks) → AreGoing types ks (x ∷ hs) text → AreGoing types ks hs text
others-go types [] x hs text none goes = goes
others-go types (k ∷ ks) x hs text (other, none) (part, (rest, is, more), here) =
    (part, (rest, is, others-go types ks x hs rest none more), subst (λ (l : List Happening). GoesFrom types k k.opened l part) (own-away k.dom x hs other) here)

-- the next move of all
record Move (types : List (List ℕ)) (ks : List Course) (x : Happening) (hs : List Happening) (text : List ℕ) : Type 0 where
  pub turn : Turn
  pub from : Course
  pub to : Course
  pub there : slice_get ks turn.place ≡ Some from
  pub leads : CourseLeads types from turn.choice x to
  pub goes : AreGoing types (slice_set ks turn.place to) hs text
  pub same : numbers (slice_set ks turn.place to) ≡ numbers ks

move : (types : List (List ℕ)) (ks : List Course) (x : Happening) (hs : List Happening) (text : List ℕ) → AllDiffer (numbers ks) → IsOneOf (doer x).0 (numbers ks)
    → AreGoing types ks (x ∷ hs) text → Move types ks x hs text
move types [] x hs text differ one goes = absurd one
move types (k ∷ ks) x hs text (apart, differ) one (part, (rest, is, more), here) = elim (cases_eq (doer x).0 k.dom.0) [
  | inl same ↦
      let n = open-next types k k.opened x (own_happenings k.dom hs) part refl (subst (λ (l : List Happening). GoesFrom types k k.opened l part) (own-here k.dom x hs same) here) in
      let alone : IsNoneOf (doer x).0 (numbers ks) = subst (λ (m : ℕ). IsNoneOf m (numbers ks)) (sym same) apart in
      record {
        turn = record { place = 0; choice = n.choice };
        from = k;
        to = n.next;
        there = refl;
        leads = n.leads;
        goes = (
          n.rest,
          (rest, is ∙ ap (λ (l : List ℕ). l ++ rest) n.text, others-go types ks x hs rest alone more),
          subst (λ (d : DomId). GoesFrom types n.next n.next.opened (own_happenings d hs) n.rest) (sym n.dom) n.goes,
        );
        same = ap (λ (d : DomId). d.0 ∷ numbers ks) n.dom;
      }
  | inr other ↦
      let m = move types ks x hs rest differ (later (doer x).0 k.dom.0 (numbers ks) one other) more in
      record {
        turn = record { place = suc m.turn.place; choice = m.turn.choice };
        from = m.from;
        to = m.to;
        there = m.there;
        leads = m.leads;
        goes = (part, (rest, is, m.goes), subst (λ (l : List Happening). GoesFrom types k k.opened l part) (own-away k.dom x hs other) here);
        same = ap (λ (l : List ℕ). k.dom.0 ∷ l) m.same;
      }
]
  where
    later : (n m : ℕ) (ms : List ℕ) → IsOneOf n (m ∷ ms) → n ≢ m → IsOneOf n ms
    later n m ms (inl e) ne = absurd (ne e)
    later n m ms (inr o) ne = o

-- the doers are of these
abbrev pub AreDoneBy : List ℕ → List Happening → Type 0
AreDoneBy ns [] = Unit {0}
AreDoneBy ns (x ∷ hs) = IsOneOf (doer x).0 ns × AreDoneBy ns hs

all-over : (types : List (List ℕ)) (ks : List Course) (text : List ℕ) → AreGoing types ks [] text → AllCoursesEnd ks × (text ≡ courses_text ks)
all-over types [] text is = (tt, is)
all-over types (k ∷ ks) text (part, (rest, is, more), here) =
    let o = over types k k.opened part refl here in
    let m = all-over types ks rest more in
    let own : k.text ++ part ≡ k.text = ap (λ (l : List ℕ). k.text ++ l) o.1 ∙ append-nil k.text in
    ((o.0, m.0), is ∙ ap (λ (l : List ℕ). l ++ rest) own ∙ ap (λ (l : List ℕ). k.text ++ l) m.1)

-- domains that go on so have turns by which they come to their ends
pub turned : (types : List (List ℕ)) (ks : List Course) (hs : List Happening) (text : List ℕ) → AllDiffer (numbers ks) → AreDoneBy (numbers ks) hs → AreGoing types ks hs text
    → (turns : List Turn) × (ls : List Course) × TurnsLead types ks hs turns ls × AllCoursesEnd ls × (text ≡ courses_text ls)
turned types ks [] text differ done goes = let o = all-over types ks text goes in ([], ks, refl, o.0, o.1)
turned types ks (x ∷ hs) text differ (one, done) goes =
    let m = move types ks x hs text differ one goes in
    let rest = turned types (slice_set ks m.turn.place m.to) hs text (subst AllDiffer (sym m.same) differ) (subst (λ (ns : List ℕ). AreDoneBy ns hs) (sym m.same) done) m.goes in
    (m.turn ∷ rest.0, rest.1, (m.from, m.to, m.there, m.leads, rest.2), rest.3, rest.4)

-- the numbers of the domains of a script

abbrev pub ids : List DomainConfig → List ℕ
ids ds = map (λ (d : DomainConfig). d.id.0) ds

none-of : (n : ℕ) (ds : List DomainConfig) → ((j : ℕ) (e : DomainConfig) → j < length ds → n ≢ (get_or ds j e).id.0) → IsNoneOf n (ids ds)
none-of n [] h = tt
none-of n (d ∷ ds) h = (h 0 d (omega arith), none-of n ds (λ j e lt. h (suc j) e (omega arith)))

pub all-differ : (ds : List DomainConfig) → AllPairs (λ (d : DomainConfig) (e : DomainConfig). d.id.0 ≢ e.id.0) ds → AllDiffer (ids ds)
all-differ [] h = tt
all-differ (d ∷ ds) h = (
  none-of d.id.0 ds (λ j e lt. h 0 (suc j) e (omega arith) (omega arith)),
  all-differ ds (λ i j e lt within. h (suc i) (suc j) e (omega arith) (omega arith)),
)

pub one-of : (ds : List DomainConfig) (d : DomId) → domain_of ds d ≢ None → IsOneOf d.0 (ids ds)
one-of [] d h = h refl
one-of (e ∷ ds) d h = elim (cases_eq e.id.0 d.0) [
  | inl same ↦ inl (sym same)
  | inr other ↦ inr (one-of ds d (λ none. h (ap (λ (b : Bool). cond b (Some e) (domain_of ds d)) (ne_eqb e.id.0 d.0 other) ∙ none)))
]

pub done-by : (ds : List DomainConfig) (hs : List Happening) → All (λ x. domain_of ds (doer x) ≢ None) hs → AreDoneBy (ids ds) hs
done-by ds [] all = tt
done-by ds (x ∷ hs) all = (one-of ds (doer x) (all 0 x (omega arith)), done-by ds hs (λ k y lt. all (suc k) y (omega arith)))

-- orders

-- a domain before the first line of its list
abbrev first_course : RunContents → DomainConfig → Course
first_course c d = record { dom = d.id; tasks = list_of c.tasks d.id; opened = resting; named = []; held = []; text = [] }

first-going : (c : RunContents) (ds : List DomainConfig) (hs : List Happening) (text : List ℕ) → AllFollow c hs ds text → AreGoing (type_names c.head) (map (first_course c) ds) hs text
first-going c [] hs text is = is
first-going c (d ∷ ds) hs text (part, (rest, is, more), follows) = (part, (rest, is, first-going c ds hs rest more), follows)

first-numbers : (c : RunContents) (ds : List DomainConfig) → numbers (map (first_course c) ds) ≡ ids ds
first-numbers c [] = refl
first-numbers c (d ∷ ds) = ap (λ (l : List ℕ). d.id.0 ∷ l) (first-numbers c ds)

-- each order of a script has turns
pub has-turns : (c : RunContents) (hs : List Happening) (text : List ℕ) → HaveOwnIds c.head.domains → IsOrderOf c hs text → (turns : List Turn) × IsTurnedBy c hs turns text
has-turns c hs text apart order =
    let t = turned (type_names c.head) (first_courses c) hs text
    (subst AllDiffer (sym (first-numbers c c.head.domains)) (all-differ c.head.domains apart))
    (subst (λ (ns : List ℕ). AreDoneBy ns hs) (sym (first-numbers c c.head.domains)) (done-by c.head.domains hs order.known))
    (first-going c c.head.domains hs text order.follow) in
    (t.0, record { order = order; ends = t.1; leads = t.2; over = t.3; printed = t.4 })
