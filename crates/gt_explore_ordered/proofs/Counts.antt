-- The calls of a domain are counted along its course.
use Rattle.std.proofs.Common.{◌≡◌, ◌∙◌, ◌+◌, ◌<◌, ◌≤◌, ap, refl, sym, subst, arith, ℕ, zero, suc, Bool, true, false, List, [], ◌∷◌, ◌++◌, map, length, take, drop, Option, Some, None, inl, inr}
use Rattle.std.proofs.lemmas.Bool.{eq-eqb, ne_eqb}
use Rattle.std.proofs.lemmas.Option.{none-some, same_Some}
use Rattle.std.proofs.Math.Bool.{cond}
use Rattle.std.specs.Option.{is_some}
use Rattle.std.specs.Prelude.{◌==◌, slice_get, slice_set}
use Rattle.gt_model.specs.declared.handle.Handle.{Handle}
use Rattle.gt_model.specs.declared.request.Request.{Request}
use Rattle.gt_model.specs.declared.trace.Answer.{Answer}
use Rattle.gt_model.specs.declared.trace.Element.{Element}
use Rattle.gt_model.specs.declared.trace.Event.TheVariants.{Begin, Tick}
use Rattle.gt_types.specs.declared.DomId.{DomId}
use Rattle.gt_types.specs.declared.config.DomainConfig.{DomainConfig}
use Rattle.gt_script.specs.Lists.{RunAction, RunTask}
use Rattle.gt_script.specs.Preceding.{is_call}
use Rattle.gt_script.specs.RunContents.{RunContents}
use Rattle.gt_script.specs.RunScripts.{list_of}
use Rattle.gt_script.specs.declared.tasks.RunAction.TheVariants.{Do, Tell, Await}
use Rattle.gt_script_lines.specs.declared.calls.ScriptCall.{ScriptCall}
use Rattle.gt_script_runs.specs.Runs.{answer_in}
use Rattle.gt_explore_replay.specs.Courses.{ActionLeads, Course, CourseLeads, OpenLeads, Opened, RestLeads, back_after, calling}
use Rattle.gt_explore_replay.specs.Courses.{course_after, first_courses, giving, resting}
use Rattle.gt_explore_replay.specs.Orders.{Happening, did, doer, own_happenings, passed, raised}
use Rattle.gt_precedence.proofs.Happenings.{own-here, own-other}
use Rattle.gt_precedence.proofs.Lists.{count, count-no}
use Rattle.gt_precedence.specs.Precedence.{answers_call, begins_call, calls_answered, calls_begun, calls_of}
use Rattle.gt_explore_ordered.specs.Spaces.{AreLate, CallsAreCounted, opened_count}
use Rattle.gt_explore_ordered.proofs.Held.{its-own, one, parted}

-- one happening more

pub counted-yes : (p : Happening → Bool) (d : DomId) (hs : List Happening) (x : Happening) → doer x ≡ d → p x ≡ true → count p (own_happenings d (hs ++ x ∷ [])) ≡ suc (count p (own_happenings d hs))
counted-yes p d hs x own passes =
    let all = parted p d hs (x ∷ []) in let more = one p d x [] (its-own x d own) passes in
    omega (arith, all, more)

pub counted-no : (p : Happening → Bool) (d : DomId) (hs : List Happening) (x : Happening) → doer x ≡ d → p x ≡ false → count p (own_happenings d (hs ++ x ∷ [])) ≡ count p (own_happenings d hs)
counted-no p d hs x own fails =
    let all = parted p d hs (x ∷ []) in
    let none : count p (own_happenings d (x ∷ [])) ≡ 0 = ap (count p) (own-here d x [] (its-own x d own)) ∙ count-no p x [] fails in
    omega (arith, all, none)

pub counted-other : (p : Happening → Bool) (d : DomId) (hs : List Happening) (x : Happening) → ((doer x).0 == d.0) ≡ false → count p (own_happenings d (hs ++ x ∷ [])) ≡ count p (own_happenings d hs)
counted-other p d hs x other =
    let all = parted p d hs (x ∷ []) in
    let none : count p (own_happenings d (x ∷ [])) ≡ 0 = ap (count p) (own-other d x [] other) in
    omega (arith, all, none)

-- tasks

pub calls-with : (t : RunTask) (ts : List RunTask) (b : Bool) → is_call t.run_action ≡ b → length (calls_of (t ∷ ts)) ≡ cond b (suc (length (calls_of ts))) (length (calls_of ts))
calls-with t ts true e = rw e refl
calls-with t ts false e = rw e refl

-- releases are over before anything is left to begin
pub none-late : (k : Course) (t : RunTask) (ts : List RunTask) (releases : ℕ) → k.opened ≡ resting → k.tasks ≡ t ∷ ts → AreLate k.opened releases k.tasks → releases ≡ 0
none-late k t ts releases rests more late = by (subst (λ (o : Opened). AreLate o releases k.tasks) rests late)
  where
    by : AreLate resting releases k.tasks → releases ≡ 0
    by (inl none) = none
    by (inr over) = absurd (cc (sym more ∙ over))

module _ (c : RunContents) (hs : List Happening) (k : Course) (counted : CallsAreCounted c hs k) where
  open counted use {releases, begun, answered, late}

  -- a task that is no call
  quiet : (t : RunTask) (ts : List RunTask) (x : Happening) → k.opened ≡ resting → k.tasks ≡ t ∷ ts → is_call t.run_action ≡ false → doer x ≡ k.dom → begins_call x ≡ false → answers_call x ≡ false
      → CallsAreCounted c (hs ++ x ∷ []) (record k { tasks = ts })
  quiet t ts x rests more plain own unbegun unanswered =
      let b = counted-no begins_call k.dom hs x own unbegun in
      let a = counted-no answers_call k.dom hs x own unanswered in
      let l : length (calls_of k.tasks) ≡ length (calls_of ts) = ap (λ (l : List RunTask). length (calls_of l)) more ∙ calls-with t ts false plain in
      let z = none-late k t ts releases rests more late in record {
        releases = releases;
        begun = omega (arith, b, l, begun);
        answered = omega (arith, a, b, answered);
        late = subst (λ (o : Opened). AreLate o releases ts) (sym rests) (inl z);
      }

  -- the call of a line begins
  line-begins : (types : List (List ℕ)) (line : ℕ) (call : ScriptCall) (lost : Option Handle) (t : RunTask) (ts : List RunTask) (request : Request) (e : Element) (o : Option Answer) → k.opened ≡ resting → k.tasks ≡ t ∷ ts → is_call t.run_action ≡ true
      → answer_in e ≡ o → CallsAreCounted c (hs ++ did (Begin k.dom request) e ∷ []) (course_after types line call lost (record k { tasks = ts }) o)
  line-begins types line call lost t ts request e None rests more calls answer =
      let x = did (Begin k.dom request) e in
      let b = counted-yes begins_call k.dom hs x refl refl in
      let a = counted-no answers_call k.dom hs x refl (ap is_some answer) in
      let l : length (calls_of k.tasks) ≡ suc (length (calls_of ts)) = ap (λ (l : List RunTask). length (calls_of l)) more ∙ calls-with t ts true calls in
      let r : opened_count k.opened ≡ 0 = ap opened_count rests in record {
        releases = releases;
        begun = omega (arith, b, l, begun);
        answered = omega (arith, a, b, answered, r);
        late = none-late k t ts releases rests more late;
      }
  line-begins types line call lost t ts request e (Some given) rests more calls answer =
      let x = did (Begin k.dom request) e in
      let b = counted-yes begins_call k.dom hs x refl refl in
      let a = counted-yes answers_call k.dom hs x refl (ap is_some answer) in
      let l : length (calls_of k.tasks) ≡ suc (length (calls_of ts)) = ap (λ (l : List RunTask). length (calls_of l)) more ∙ calls-with t ts true calls in
      let r : opened_count k.opened ≡ 0 = ap opened_count rests in record {
        releases = releases;
        begun = omega (arith, b, l, begun);
        answered = omega (arith, a, b, answered, r);
        late = inl (none-late k t ts releases rests more late);
      }

  -- it goes on
  line-goes : (types : List (List ℕ)) (line : ℕ) (call : ScriptCall) (lost : Option Handle) (e : Element) (o : Option Answer) → k.opened ≡ calling line call lost
      → answer_in e ≡ o → CallsAreCounted c (hs ++ did (Tick k.dom) e ∷ []) (course_after types line call lost k o)
  line-goes types line call lost e None is answer =
      let x = did (Tick k.dom) e in
      let b = counted-no begins_call k.dom hs x refl refl in
      let a = counted-no answers_call k.dom hs x refl (ap is_some answer) in
      let r : opened_count k.opened ≡ 1 = ap opened_count is in record {
        releases = releases;
        begun = omega (arith, b, begun);
        answered = omega (arith, a, b, answered, r);
        late = subst (λ (o : Opened). AreLate o releases k.tasks) is late;
      }
  line-goes types line call lost e (Some given) is answer =
      let x = did (Tick k.dom) e in
      let b = counted-no begins_call k.dom hs x refl refl in
      let a = counted-yes answers_call k.dom hs x refl (ap is_some answer) in
      let r : opened_count k.opened ≡ 1 = ap opened_count is in record {
        releases = releases;
        begun = omega (arith, b, begun);
        answered = omega (arith, a, b, answered, r);
        late = inl (subst (λ (o : Opened). AreLate o releases k.tasks) is late);
      }

  -- a release begins
  back-begins : (held : List Handle) (request : Request) (e : Element) (o : Option Answer) → k.opened ≡ resting → k.tasks ≡ [] → answer_in e ≡ o
      → CallsAreCounted c (hs ++ did (Begin k.dom request) e ∷ []) (back_after (record k { held = held }) o)
  back-begins held request e None rests over answer =
      let x = did (Begin k.dom request) e in
      let b = counted-yes begins_call k.dom hs x refl refl in
      let a = counted-no answers_call k.dom hs x refl (ap is_some answer) in
      let r : opened_count k.opened ≡ 0 = ap opened_count rests in record {
        releases = suc releases;
        begun = omega (arith, b, begun);
        answered = omega (arith, a, b, answered, r);
        late = (omega arith, over);
      }
  back-begins held request e (Some given) rests over answer =
      let x = did (Begin k.dom request) e in
      let b = counted-yes begins_call k.dom hs x refl refl in
      let a = counted-yes answers_call k.dom hs x refl (ap is_some answer) in
      let r : opened_count k.opened ≡ 0 = ap opened_count rests in record {
        releases = suc releases;
        begun = omega (arith, b, begun);
        answered = omega (arith, a, b, answered, r);
        late = inr over;
      }

  -- it goes on
  back-goes : (e : Element) (o : Option Answer) → k.opened ≡ giving → answer_in e ≡ o → CallsAreCounted c (hs ++ did (Tick k.dom) e ∷ []) (back_after k o)
  back-goes e None is answer =
      let x = did (Tick k.dom) e in
      let b = counted-no begins_call k.dom hs x refl refl in
      let a = counted-no answers_call k.dom hs x refl (ap is_some answer) in
      let r : opened_count k.opened ≡ 1 = ap opened_count is in record {
        releases = releases;
        begun = omega (arith, b, begun);
        answered = omega (arith, a, b, answered, r);
        late = subst (λ (o : Opened). AreLate o releases k.tasks) is late;
      }
  back-goes e (Some given) is answer =
      let x = did (Tick k.dom) e in
      let b = counted-no begins_call k.dom hs x refl refl in
      let a = counted-yes answers_call k.dom hs x refl (ap is_some answer) in
      let r : opened_count k.opened ≡ 1 = ap opened_count is in record {
        releases = releases;
        begun = omega (arith, b, begun);
        answered = omega (arith, a, b, answered, r);
        late = inr (subst (λ (o : Opened). AreLate o releases k.tasks) is late).1;
      }

  -- any move
  abbrev Counts : Happening → Course → Type 0
  Counts x j = CallsAreCounted c (hs ++ x ∷ []) j

  so : (x y : Happening) (j i : Course) → x ≡ y → j ≡ i → Counts y i → Counts x j
  so x y j i same is counts = subst (λ (z : Happening). Counts z j) (sym same) (subst (λ (z : Course). Counts y z) (sym is) counts)

  action : (types : List (List ℕ)) (t : RunTask) (ts : List RunTask) (a : RunAction) (x : Happening) (j : Course) → k.opened ≡ resting → k.tasks ≡ t ∷ ts → t.run_action ≡ a → ActionLeads types k t.line ts a x j → Counts x j
  action types t ts (Tell flag) x j rests more is leads =
      so x (raised k.dom flag) j (record k { tasks = ts }) leads.0 leads.1 (quiet t ts (raised k.dom flag) rests more (ap is_call is) refl refl refl)
  action types t ts (Await flag) x j rests more is leads =
      so x (passed k.dom flag) j (record k { tasks = ts }) leads.0 leads.1 (quiet t ts (passed k.dom flag) rests more (ap is_call is) refl refl refl)
  action types t ts (Do call) x j rests more is (request, e, makes, happens, left) =
      so x (did (Begin k.dom request) e) j _ happens left (line-begins types t.line call _ t ts request e (answer_in e) rests more (ap is_call is) refl)

  rest : (types : List (List ℕ)) (tasks : List RunTask) (choice : ℕ) (x : Happening) (j : Course) → k.opened ≡ resting → k.tasks ≡ tasks → RestLeads types k tasks choice x j → Counts x j
  rest types [] choice x j rests are (handle, e, there, happens, left) = so x _ j _ happens left (back-begins _ _ e (answer_in e) rests are refl)
  rest types (t ∷ ts) choice x j rests are leads = action types t ts t.run_action x j rests are refl leads.1

  by-opened : (types : List (List ℕ)) (o : Opened) (choice : ℕ) (x : Happening) (j : Course) → k.opened ≡ o → OpenLeads types k o choice x j → Counts x j
  by-opened types resting choice x j is leads = rest types k.tasks choice x j is refl leads
  by-opened types (calling line call lost) choice x j is (first, e, happens, left) = so x _ j _ happens left (line-goes types line call lost e (answer_in e) is refl)
  by-opened types giving choice x j is (first, e, happens, left) = so x _ j _ happens left (back-goes e (answer_in e) is refl)

  pub counted-next : (types : List (List ℕ)) (choice : ℕ) (x : Happening) (j : Course) → CourseLeads types k choice x j → CallsAreCounted c (hs ++ x ∷ []) j
  counted-next types choice x j leads = by-opened types k.opened choice x j refl leads

-- the domain that moves

doer-action : (types : List (List ℕ)) (k : Course) (line : ℕ) (ts : List RunTask) (a : RunAction) (x : Happening) (j : Course) → ActionLeads types k line ts a x j → doer x ≡ k.dom
doer-action types k line ts (Tell flag) x j leads = ap doer leads.0
doer-action types k line ts (Await flag) x j leads = ap doer leads.0
doer-action types k line ts (Do call) x j (request, e, makes, happens, left) = ap doer happens

doer-rest : (types : List (List ℕ)) (k : Course) (tasks : List RunTask) (choice : ℕ) (x : Happening) (j : Course) → RestLeads types k tasks choice x j → doer x ≡ k.dom
doer-rest types k [] choice x j (handle, e, there, happens, left) = ap doer happens
doer-rest types k (t ∷ ts) choice x j leads = doer-action types k t.line ts t.run_action x j leads.1

doer-opened : (types : List (List ℕ)) (k : Course) (o : Opened) (choice : ℕ) (x : Happening) (j : Course) → OpenLeads types k o choice x j → doer x ≡ k.dom
doer-opened types k resting choice x j leads = doer-rest types k k.tasks choice x j leads
doer-opened types k (calling line call lost) choice x j (first, e, happens, left) = ap doer happens
doer-opened types k giving choice x j (first, e, happens, left) = ap doer happens

pub its-doer : (types : List (List ℕ)) (k : Course) (choice : ℕ) (x : Happening) (j : Course) → CourseLeads types k choice x j → doer x ≡ k.dom
its-doer types k choice x j leads = doer-opened types k k.opened choice x j leads

-- a domain that does not move
pub counted-still : (c : RunContents) (hs : List Happening) (x : Happening) (k : Course) → ((doer x).0 == k.dom.0) ≡ false → CallsAreCounted c hs k → CallsAreCounted c (hs ++ x ∷ []) k
counted-still c hs x k other counted =
    let b = counted-other begins_call k.dom hs x other in let a = counted-other answers_call k.dom hs x other in record {
      releases = counted.releases;
      begun = let e = counted.begun in omega (arith, b, e);
      answered = let e = counted.answered in omega (arith, a, b, e);
      late = counted.late;
    }

-- before anything has happened
pub counted-first : (c : RunContents) (d : DomainConfig) → CallsAreCounted c [] (record { dom = d.id; tasks = list_of c.tasks d.id; opened = resting; named = []; held = []; text = [] })
counted-first c d = record { releases = 0; begun = omega arith; answered = refl; late = inl refl }
