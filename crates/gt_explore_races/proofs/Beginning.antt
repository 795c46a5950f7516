-- The line of the call that a domain has open is that of the last task that it has begun.
use Rattle.std.proofs.Common.{◌≡◌, ◌≢◌, ◌+◌, ◌⊎◌, ℕ, zero, suc, Bool, true, false, cond, List, [], ◌∷◌, ◌++◌, length, map, drop, take}
use Rattle.std.proofs.Common.{Option, Some, None, refl, ap, sym, ◌∙◌, subst, inl, inr, arith}
use Rattle.std.proofs.lemmas.Bool.{eq-eqb, ne_eqb}
use Rattle.std.proofs.lemmas.List.{length-drop}
use Rattle.std.proofs.lemmas.List.Sums.{sum_by-append}
use Rattle.std.proofs.lemmas.Option.{slice_get_past, slice_get-map}
use Rattle.std.specs.Option.{option_map}
use Rattle.std.specs.Prelude.{◌==◌, slice_get, slice_set}
use Rattle.gt_explore_replay.proofs.Coming.{apart_at, less_or, map_set, mapped_back}
use Rattle.gt_explore_replay.proofs.Places.{drop_all, get_set}
use Rattle.gt_explore_replay.specs.Courses.{ActionLeads, Course, CourseLeads, OpenLeads, Opened, RestLeads, back_after}
use Rattle.gt_explore_replay.specs.Courses.{calling, course_after, first_courses, giving, resting}
use Rattle.gt_explore_replay.specs.Orders.{Happening, did, doer, given_up, passed, raised}
use Rattle.gt_explore_replay.specs.Walking.{HaveOwnIds}
use Rattle.gt_model.specs.declared.request.Request.TheVariants.{Release}
use Rattle.gt_model.specs.declared.trace.Answer.{Answer}
use Rattle.gt_model.specs.declared.trace.Element.{Element}
use Rattle.gt_model.specs.declared.trace.Event.TheVariants.{Begin, Tick}
use Rattle.gt_script.specs.Contents.{type_names}
use Rattle.gt_script.specs.Lists.{RunAction, RunTask}
use Rattle.gt_script.specs.RunContents.{RunContents}
use Rattle.gt_script.specs.RunScripts.{list_of}
use Rattle.gt_script.specs.declared.tasks.RunAction.TheVariants.{Await, Do, Tell}
use Rattle.gt_script_lines.specs.declared.calls.ScriptCall.{ScriptCall}
use Rattle.gt_script_runs.specs.Runs.{answer_in}
use Rattle.gt_model.specs.declared.handle.Handle.{Handle}
use Rattle.gt_types.specs.declared.DomId.{DomId}
use Rattle.gt_types.specs.declared.config.DomainConfig.{DomainConfig}
use Rattle.gt_explore_races.specs.Races.{begins_task, last_line, tasks_begun}

-- the number of tasks begun

plus-one : (n : ℕ) → n + 1 ≡ suc n
plus-one n = omega arith

plus-none : (n : ℕ) → n + 0 ≡ n
plus-none n = omega arith

none-plus : (n : ℕ) → 0 + n ≡ n
none-plus n = omega arith

begun-more : (d : DomId) (hs : List Happening) (x : Happening) → tasks_begun d (hs ++ x ∷ []) ≡ tasks_begun d hs + cond (begins_task d x) 1 0
begun-more d hs x =
    sum_by-append (λ (y : Happening). cond (begins_task d y) 1 0) hs (x ∷ [])
    ∙ ap (λ (n : ℕ). tasks_begun d hs + n) (none-plus (cond (begins_task d x) 1 0))

pub begun-one : (d : DomId) (hs : List Happening) (x : Happening) → begins_task d x ≡ true → tasks_begun d (hs ++ x ∷ []) ≡ suc (tasks_begun d hs)
begun-one d hs x e = begun-more d hs x ∙ ap (λ (b : Bool). tasks_begun d hs + cond b 1 0) e ∙ plus-one (tasks_begun d hs)

pub begun-same : (d : DomId) (hs : List Happening) (x : Happening) → begins_task d x ≡ false → tasks_begun d (hs ++ x ∷ []) ≡ tasks_begun d hs
begun-same d hs x e = begun-more d hs x ∙ ap (λ (b : Bool). tasks_begun d hs + cond b 1 0) e ∙ plus-none (tasks_begun d hs)

-- what another domain does begins no task of this one
pub not-begun : (d : DomId) (x : Happening) → (doer x).0 ≢ d.0 → begins_task d x ≡ false
not-begun d (did (Begin dom request) e) apart = ne_eqb dom.0 d.0 apart
not-begun d (did (Tick dom) e) apart = refl
not-begun d (raised dom flag) apart = ne_eqb dom.0 d.0 apart
not-begun d (passed dom flag) apart = ne_eqb dom.0 d.0 apart

-- what it does itself begins one
pub begins-for : (d dom : DomId) → d ≡ dom → (dom.0 == d.0) ≡ true
begins-for d dom same = eq-eqb dom.0 d.0 (ap (λ (z : DomId). z.0) (sym same))

-- a list by what is left of it

cons-nil : (t : RunTask) (ts : List RunTask) → t ∷ ts ≡ [] → ⊥
cons-nil t ts e = cc

first-left : (xs : List RunTask) (n : ℕ) (t : RunTask) (ts : List RunTask) → t ∷ ts ≡ drop n xs → (slice_get xs n ≡ Some t) × (ts ≡ drop (suc n) xs)
first-left [] zero t ts e = absurd (cons-nil t ts e)
first-left [] (suc n) t ts e = absurd (cons-nil t ts e)
first-left (x ∷ xs) zero t ts e = let all : t ∷ ts ≡ x ∷ xs = e in let same : x ≡ t = cc in let rest : ts ≡ xs = cc in (ap (λ (z : RunTask). Some z) same, rest)
first-left (x ∷ xs) (suc n) t ts e = first-left xs n t ts e

none-left : (xs : List RunTask) (n : ℕ) → [] ≡ drop n xs → (slice_get xs n ≡ None) × ([] ≡ drop (suc n) xs)
none-left xs n e =
    let long = length-drop n xs in let empty : 0 ≡ length (drop n xs) = ap (λ (l : List RunTask). length l) e in
    (slice_get_past xs n (omega (arith, long, empty)), sym (drop_all xs (suc n) (omega (arith, long, empty))))

-- courses

-- the line of what is open is that of the last task; a release has none
abbrev pub OpenCounts : List RunTask → ℕ → Opened → Type 0
OpenCounts tasks n resting = Unit {0}
OpenCounts tasks n (calling line call lost) = last_line tasks n ≡ Some line
OpenCounts tasks n giving = last_line tasks n ≡ None

-- the domain has begun this number of its tasks
pub record CountsAs (tasks : List RunTask) (n : ℕ) (k : Course) : Type 0 where
  pub left : k.tasks ≡ drop n tasks
  pub opened : OpenCounts tasks n k.opened

-- a domain has moved on its course by this
pub record CountsOn (tasks : List RunTask) (n : ℕ) (k : Course) (x : Happening) (j : Course) : Type 0 where
  pub dom : j.dom ≡ k.dom
  pub own_move : doer x ≡ k.dom
  pub counts : ((begins_task k.dom x ≡ true) × CountsAs tasks (suc n) j) ⊎ ((begins_task k.dom x ≡ false) × CountsAs tasks n j)

module _ (types : List (List ℕ)) (tasks : List RunTask) (n : ℕ) (k : Course) (choice : ℕ) (x : Happening) (j : Course) where
  begun : (y : Happening) → x ≡ y → doer y ≡ k.dom → begins_task k.dom y ≡ true → j.dom ≡ k.dom → CountsAs tasks (suc n) j → CountsOn tasks n k x j
  begun y is does begins dom counts = record {
    dom = dom;
    own_move = ap doer is ∙ does;
    counts = inl (ap (begins_task k.dom) is ∙ begins, counts);
  }

  ticked : (e : Element) → x ≡ did (Tick k.dom) e → j.dom ≡ k.dom → CountsAs tasks n j → CountsOn tasks n k x j
  ticked e is dom counts = record {
    dom = dom;
    own_move = ap doer is;
    counts = inr (ap (begins_task k.dom) is, counts);
  }

  -- a call
  called : (line : ℕ) (call : ScriptCall) (lost : Option Handle) (l : Course) (m : ℕ) → l.tasks ≡ drop m tasks → last_line tasks m ≡ Some line → (answer : Option Answer) → CountsAs tasks m (course_after types line call lost l answer)
  called line call lost l m left last None = record { left = left; opened = last }
  called line call lost l m left last (Some answer) = record { left = left; opened = tt }

  called-dom : (line : ℕ) (call : ScriptCall) (lost : Option Handle) (l : Course) (answer : Option Answer) → (course_after types line call lost l answer).dom ≡ l.dom
  called-dom line call lost l None = refl
  called-dom line call lost l (Some answer) = refl

  -- a release
  gave : (l : Course) (m : ℕ) → l.tasks ≡ drop m tasks → last_line tasks m ≡ None → (answer : Option Answer) → CountsAs tasks m (back_after l answer)
  gave l m left last None = record { left = left; opened = last }
  gave l m left last (Some answer) = record { left = left; opened = tt }

  gave-dom : (l : Course) (answer : Option Answer) → (back_after l answer).dom ≡ l.dom
  gave-dom l None = refl
  gave-dom l (Some answer) = refl

  resumed : (t : RunTask) (ts : List RunTask) → k.opened ≡ resting → ts ≡ drop (suc n) tasks → CountsAs tasks (suc n) (record k { tasks = ts })
  resumed t ts rests left = record { left = left; opened = subst (OpenCounts tasks (suc n)) (sym rests) tt }

  acted : (t : RunTask) (ts : List RunTask) → k.opened ≡ resting → slice_get tasks n ≡ Some t → ts ≡ drop (suc n) tasks → (action : RunAction) → ActionLeads types k t.line ts action x j → CountsOn tasks n k x j
  acted t ts rests there left (Tell flag) (is, after) =
      begun (raised k.dom flag) is refl (begins-for k.dom k.dom refl) (ap (λ (l : Course). l.dom) after) (subst (CountsAs tasks (suc n)) (sym after) (resumed t ts rests left))
  acted t ts rests there left (Await flag) (is, after) =
      begun (passed k.dom flag) is refl (begins-for k.dom k.dom refl) (ap (λ (l : Course). l.dom) after) (subst (CountsAs tasks (suc n)) (sym after) (resumed t ts rests left))
  acted t ts rests there left (Do call) (request, e, makes, is, after) =
      begun (did (Begin k.dom request) e) is refl (begins-for k.dom k.dom refl) (ap (λ (l : Course). l.dom) after ∙ called-dom t.line call (given_up request) (record k { tasks = ts }) (answer_in e))
      (subst (CountsAs tasks (suc n)) (sym after) (called t.line call (given_up request) (record k { tasks = ts }) (suc n) left (ap (option_map (λ (z : RunTask). z.line)) there) (answer_in e)))

  abbrev given-back : Course
  given-back = record k { held = take choice k.held ++ drop (suc choice) k.held }

  rested : (left : List RunTask) → k.tasks ≡ left → left ≡ drop n tasks → k.opened ≡ resting → RestLeads types k left choice x j → CountsOn tasks n k x j
  rested [] e left rests (handle, el, there, is, after) =
      let none = none-left tasks n left in
      begun (did (Begin k.dom (Release handle)) el) is refl (begins-for k.dom k.dom refl) (ap (λ (l : Course). l.dom) after ∙ gave-dom given-back (answer_in el))
      (subst (CountsAs tasks (suc n)) (sym after) (gave given-back (suc n) (e ∙ none.1) (ap (option_map (λ (z : RunTask). z.line)) none.0) (answer_in el)))
  rested (t ∷ ts) e left rests (first, leads) =
      let here = first-left tasks n t ts left in acted t ts rests here.0 here.1 t.run_action leads

  moved : (opened : Opened) → k.opened ≡ opened → k.tasks ≡ drop n tasks → OpenCounts tasks n opened → OpenLeads types k opened choice x j → CountsOn tasks n k x j
  moved resting is left counts leads = rested k.tasks refl left is leads
  moved (calling line call lost) is left counts (first, e, made, after) =
      ticked e made (ap (λ (l : Course). l.dom) after ∙ called-dom line call lost k (answer_in e)) (subst (CountsAs tasks n) (sym after) (called line call lost k n left counts (answer_in e)))
  moved giving is left counts (first, e, made, after) =
      ticked e made (ap (λ (l : Course). l.dom) after ∙ gave-dom k (answer_in e)) (subst (CountsAs tasks n) (sym after) (gave k n left counts (answer_in e)))

  pub counts-on : CountsAs tasks n k → CourseLeads types k choice x j → CountsOn tasks n k x j
  counts-on counts leads = moved k.opened refl counts.left counts.opened leads

-- all domains

-- the domains of a run have begun the tasks that its happenings begin
pub record AllCount (c : RunContents) (hs : List Happening) (ks : List Course) : Type 0 where
  pub domains : map (λ k. k.dom) ks ≡ map (λ d. d.id) c.head.domains
  pub each : (at : ℕ) (k : Course) → slice_get ks at ≡ Some k → CountsAs (list_of c.tasks k.dom) (tasks_begun k.dom hs) k

abbrev first : RunContents → DomainConfig → Course
first c d = record { dom = d.id; tasks = list_of c.tasks d.id; opened = resting; named = []; held = []; text = [] }

first-doms : (c : RunContents) (ds : List DomainConfig) → map (λ (k : Course). k.dom) (map (first c) ds) ≡ map (λ (d : DomainConfig). d.id) ds
first-doms c [] = refl
first-doms c (d ∷ ds) = ap (λ (l : List DomId). d.id ∷ l) (first-doms c ds)

pub first-count : (c : RunContents) → AllCount c [] (first_courses c)
first-count c = record {
  domains = first-doms c c.head.domains;
  each = λ at k there.
      let d = mapped_back (first c) (slice_get c.head.domains at) k (sym (slice_get-map (first c) c.head.domains at) ∙ there) in
      subst (λ (l : Course). CountsAs (list_of c.tasks l.dom) (tasks_begun l.dom []) l) d.2 (record { left = refl; opened = tt });
}

module _ (c : RunContents) (hs : List Happening) (ks : List Course) (place : ℕ) (k j : Course) (choice : ℕ) (x : Happening) (apart : HaveOwnIds c.head.domains) (all : AllCount c hs ks) (there : slice_get ks place ≡ Some k)
    (leads : CourseLeads (type_names c.head) k choice x j) where
  course-at : (i : ℕ) (u : Course) → slice_get ks i ≡ Some u → (d : DomainConfig) × (slice_get c.head.domains i ≡ Some d) × (d.id ≡ u.dom)
  course-at i u here =
      mapped_back (λ (d : DomainConfig). d.id) (slice_get c.head.domains i) u.dom (
      sym (slice_get-map (λ (d : DomainConfig). d.id) c.head.domains i) ∙ ap (λ (l : List DomId). slice_get l i) (sym all.domains)
      ∙ slice_get-map (λ (v : Course). v.dom) ks i ∙ ap (option_map (λ (v : Course). v.dom)) here
      )

  others : (i : ℕ) (u : Course) → slice_get ks i ≡ Some u → i ≢ place → u.dom.0 ≢ k.dom.0
  others i u here other = λ same.
      let d = course-at place k there in
      let e = course-at i u here in
      let equal : d.0.id.0 ≡ e.0.id.0 = ap (λ (z : DomId). z.0) d.2 ∙ sym same ∙ ap (λ (z : DomId). z.0) (sym e.2) in
      elim (less_or i place other) [
        | inl below ↦ apart_at c.head.domains i place e.0 d.0 apart e.1 d.1 below (sym equal)
        | inr above ↦ apart_at c.head.domains place i d.0 e.0 apart d.1 e.1 above equal
      ]

  pub on : CountsOn (list_of c.tasks k.dom) (tasks_begun k.dom hs) k x j
  on = counts-on (type_names c.head) (list_of c.tasks k.dom) (tasks_begun k.dom hs) k choice x j (all.each place k there) leads

  -- the domain that moved
  moved-on : CountsAs (list_of c.tasks k.dom) (tasks_begun k.dom (hs ++ x ∷ [])) j
  moved-on = elim on.counts [
    | inl (begins, counts) ↦ subst (λ (n : ℕ). CountsAs (list_of c.tasks k.dom) n j) (sym (begun-one k.dom hs x begins)) counts
    | inr (none, counts) ↦ subst (λ (n : ℕ). CountsAs (list_of c.tasks k.dom) n j) (sym (begun-same k.dom hs x none)) counts
  ]

  -- another one
  stayed : (u : Course) → u.dom.0 ≢ k.dom.0 → CountsAs (list_of c.tasks u.dom) (tasks_begun u.dom hs) u → CountsAs (list_of c.tasks u.dom) (tasks_begun u.dom (hs ++ x ∷ [])) u
  stayed u other counts =
      subst (λ (n : ℕ). CountsAs (list_of c.tasks u.dom) n u)
      (sym (begun-same u.dom hs x (not-begun u.dom x (λ same. other (sym same ∙ ap (λ (z : DomId). z.0) on.own_move))))) counts

  pub counts-more : AllCount c (hs ++ x ∷ []) (slice_set ks place j)
  counts-more = record {
    domains = map_set (λ (u : Course). u.dom) ks place k j there on.dom ∙ all.domains;
    each = λ i u here. elim (get_set ks place i j u here) [
      | inl (at, same) ↦ subst (λ (v : Course). CountsAs (list_of c.tasks v.dom) (tasks_begun v.dom (hs ++ x ∷ [])) v) same
          (subst (λ (d : DomId). CountsAs (list_of c.tasks d) (tasks_begun d (hs ++ x ∷ [])) j) (sym on.dom) moved-on)
      | inr (other, before) ↦ stayed u (others i u before other) (all.each i u before)
    ];
  }
