-- What a domain does before a shut flag is raised: its course without the tasks from the first that awaits one.
use Rattle.std.proofs.Common.{◌≡◌, ℕ, refl, Bool, true, false, cond, List, [], ◌∷◌, ◌++◌, length, get_or, inl, inr, sym}
use Rattle.std.proofs.Common.{ap, ◌∙◌, subst}
use Rattle.std.specs.List.{list_any}
use Rattle.std.specs.Prelude.{suc, take, drop}
use Rattle.std.proofs.lemmas.Bool.{false≢true}
use Rattle.gt_model.specs.declared.handle.Handle.{Handle}
use Rattle.gt_model.specs.History.{Setting}
use Rattle.gt_model.specs.declared.trace.Answer.{Answer}
use Rattle.std.proofs.Common.{Option, Some, None}
use Rattle.gt_explore_replay.specs.Abreast.{CanComeNext}
use Rattle.gt_explore_replay.specs.Courses.{ActionLeads, Course, CourseLeads, OpenLeads, Opened, RestLeads}
use Rattle.gt_explore_replay.specs.Courses.{back_after, calling, course_after, giving, resting}
use Rattle.gt_explore_replay.specs.Orders.{Happening, given_up, raised, IsRaisedBefore}
use Rattle.gt_explore_replay.proofs.Whole.{raised_or}
use Rattle.gt_script_runs.specs.Runs.{answer_in}
use Rattle.gt_script.specs.Lists.{RunAction, RunTask}
use Rattle.gt_script.specs.declared.tasks.RunAction.TheVariants.{Await, Do, Tell}
use Rattle.gt_script_lines.specs.declared.calls.ScriptCall.{ScriptCall}
use Rattle.gt_explore_moves.specs.Touches.{awaits_shut, reachable, tells_shut}
use Rattle.gt_explore_moves.proofs.Touching.{or-false}
use Rattle.gt_explore_moves.proofs.Within.{after-tasks, back-tasks}

module _ (shut : List Bool) where
  pub reach-first : (t : RunTask) (ts : List RunTask) → awaits_shut shut t ≡ false
      → reachable shut (t ∷ ts) ≡ t ∷ reachable shut ts
  reach-first t ts on = ap (λ (b : Bool). cond b [] (t ∷ reachable shut ts)) on

  -- the course without the tasks that are out of reach
  abbrev pub cut : Course → Course
  cut k = record k { tasks = reachable shut k.tasks }

  cut-after : (types : List (List ℕ)) (line : ℕ) (call : ScriptCall) (lost : Option Handle) (k : Course)
      (answer : Option Answer)
      → cut (course_after types line call lost k answer) ≡ course_after types line call lost (cut k) answer
  cut-after types line call lost k None = refl
  cut-after types line call lost k (Some answer) = refl

  cut-back : (k : Course) (answer : Option Answer) → cut (back_after k answer) ≡ back_after (cut k) answer
  cut-back k None = refl
  cut-back k (Some answer) = refl

  -- no shut flag was raised
  abbrev pub NoneRaised : List Happening → Type 0
  NoneRaised hs = (flag : ℕ) → get_or shut flag false ≡ true → IsRaisedBefore (length hs) flag hs → ⊥

  -- what happens raises no shut flag
  abbrev pub RaisesNone : Happening → Type 0
  RaisesNone (raised d flag) = get_or shut flag false ≡ false
  RaisesNone x = Unit {0}

  pub none-more : (hs : List Happening) (x : Happening) → NoneRaised hs → RaisesNone x → NoneRaised (hs ++ x ∷ [])
  none-more hs x none off flag is was = elim (raised_or hs x flag was) [
    | inl before ↦ none flag is before
    | inr now ↦ false≢true (sym (subst RaisesNone now.1 off) ∙ is)
  ]

  module _ (types : List (List ℕ)) (s : Setting) (hs : List Happening) (none : NoneRaised hs) (k j : Course)
      (choice : ℕ) (x : Happening) (may : CanComeNext s hs x) where
    -- a line that a domain takes awaits no shut flag
    on-way : (t : RunTask) (ts : List RunTask) → ActionLeads types k t.line ts t.run_action x j
        → awaits_shut shut t ≡ false
    on-way t ts leads = by t.run_action leads where
      by : (a : RunAction) → ActionLeads types k t.line ts a x j → awaits_shut shut (record t { run_action = a }) ≡ false
      by (Do call) l = refl
      by (Tell flag) l = refl
      by (Await flag) l = is-open (get_or shut flag false) refl where
        is-open : (b : Bool) → get_or shut flag false ≡ b → get_or shut flag false ≡ false
        is-open false e = e
        is-open true e = absurd (none flag e (subst (CanComeNext s hs) l.0 may))

    cut-line : (line : ℕ) (left : List RunTask) (a : RunAction) → ActionLeads types k line left a x j
        → ActionLeads types (cut k) line (reachable shut left) a x (cut j)
    cut-line line left (Tell flag) l = (l.0, ap cut l.1)
    cut-line line left (Await flag) l = (l.0, ap cut l.1)
    cut-line line left (Do call) (q, e, says, is, to) = (
      q,
      e,
      says,
      is,
      ap cut to ∙ cut-after types line call (given_up q) (record k { tasks = left }) (answer_in e),
    )

    cut-rest : (tasks : List RunTask) → RestLeads types k tasks choice x j
        → RestLeads types (cut k) (reachable shut tasks) choice x (cut j)
    cut-rest [] (handle, e, there, is, to) = (
      handle,
      e,
      there,
      is,
      ap cut to ∙ cut-back (record k { held = take choice k.held ++ drop (suc choice) k.held }) (answer_in e),
    )
    cut-rest (t ∷ ts) leads =
        subst (λ (us : List RunTask). RestLeads types (cut k) us choice x (cut j))
        (sym (reach-first t ts (on-way t ts leads.1)))
        (leads.0, cut-line t.line ts t.run_action leads.1)

    cut-open : (opened : Opened) → OpenLeads types k opened choice x j → OpenLeads types (cut k) opened choice x (cut j)
    cut-open resting l = cut-rest k.tasks l
    cut-open (calling line call lost) (first, e, is, to) =
        (first, e, is, ap cut to ∙ cut-after types line call lost k (answer_in e))
    cut-open giving (first, e, is, to) = (first, e, is, ap cut to ∙ cut-back k (answer_in e))

    -- what a domain does, it does on its course without what is out of reach
    pub cut-leads : CourseLeads types k choice x j → CourseLeads types (cut k) choice x (cut j)
    cut-leads leads = cut-open k.opened leads

  -- no task raises a shut flag
  abbrev pub TellNone : List RunTask → Type 0
  TellNone ts = list_any (tells_shut shut) ts ≡ false

  pub tell-later : (t : RunTask) (ts : List RunTask) → TellNone (t ∷ ts) → TellNone ts
  tell-later t ts none = (or-false (tells_shut shut t) (list_any (tells_shut shut) ts) none).1

  -- a domain none of whose tasks raises a shut flag raises none, and so it stays
  module _ (types : List (List ℕ)) (k j : Course) (choice : ℕ) (x : Happening) where
    abbrev StaysSo : Type 0
    StaysSo = TellNone j.tasks × RaisesNone x

    line-tells : (t : RunTask) (ts : List RunTask) → ActionLeads types k t.line ts t.run_action x j
        → TellNone (t ∷ ts) → StaysSo
    line-tells t ts leads none = by t.run_action leads
        (or-false (tells_shut shut t) (list_any (tells_shut shut) ts) none).0
      where
        by : (a : RunAction) → ActionLeads types k t.line ts a x j → tells_shut shut (record t { run_action = a }) ≡ false
            → StaysSo
        by (Tell flag) l off = (
          subst (λ (c : Course). TellNone c.tasks) (sym l.1) (tell-later t ts none),
          subst RaisesNone (sym l.0) off,
        )
        by (Await flag) l off = (
          subst (λ (c : Course). TellNone c.tasks) (sym l.1) (tell-later t ts none),
          subst RaisesNone (sym l.0) tt,
        )
        by (Do call) (q, e, says, is, to) off = (
          subst TellNone (sym (ap (λ (c : Course). c.tasks) to
              ∙ after-tasks types t.line call (given_up q) (record k { tasks = ts }) (answer_in e))) (tell-later t ts none),
          subst RaisesNone (sym is) tt,
        )

    rest-tells : (tasks : List RunTask) → k.tasks ≡ tasks → RestLeads types k tasks choice x j → TellNone tasks
        → StaysSo
    rest-tells [] same (handle, e, there, is, to) none = (
      subst TellNone (sym (ap (λ (c : Course). c.tasks) to
          ∙ back-tasks (record k { held = take choice k.held ++ drop (suc choice) k.held }) (answer_in e) ∙ same)) none,
      subst RaisesNone (sym is) tt,
    )
    rest-tells (t ∷ ts) same leads none = line-tells t ts leads.1 none

    open-tells : (opened : Opened) → OpenLeads types k opened choice x j → TellNone k.tasks → StaysSo
    open-tells resting l none = rest-tells k.tasks refl l none
    open-tells (calling line call lost) (first, e, is, to) none = (
      subst TellNone (sym (ap (λ (c : Course). c.tasks) to ∙ after-tasks types line call lost k (answer_in e))) none,
      subst RaisesNone (sym is) tt,
    )
    open-tells giving (first, e, is, to) none = (
      subst TellNone (sym (ap (λ (c : Course). c.tasks) to ∙ back-tasks k (answer_in e))) none,
      subst RaisesNone (sym is) tt,
    )

    pub leads-tells : CourseLeads types k choice x j → TellNone k.tasks → StaysSo
    leads-tells leads none = open-tells k.opened leads none
