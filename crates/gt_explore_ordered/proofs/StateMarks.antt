-- A state shows which precedences the next move of a domain completes.
use Rattle.std.proofs.Common.{◌≡◌, ◌∙◌, ◌+◌, ◌<◌, ◌≤◌, ap, refl, sym, subst, arith, ℕ, zero, suc, Bool, true, false, not, List, [], ◌∷◌, ◌++◌, map, length, take, drop, Option, Some, None, inl, inr, get_or}
use Rattle.std.proofs.lemmas.Bool.{cases_order, eq-eqb, eqb-true, false≢true, le-ltb, lt-ltb, ltb-false, ltb-true, ne_eqb}
use Rattle.std.proofs.lemmas.Option.{get_or_from_slice_get, none-some, same_Some, slice_get-map, slice_get_within}
use Rattle.std.proofs.Math.Bool.{cond}
use Rattle.std.specs.Global.{Vec}
use Rattle.std.specs.Borrow.{Bor}
use Rattle.std.specs.Option.{is_some, option_map}
use Rattle.std.specs.Prelude.{◌==◌, ◌≢◌, ◌&&◌, AllPairs, nat_lt, slice_get}
use Rattle.gt_model.specs.History.{Underway}
use Rattle.gt_types.specs.declared.DomId.{DomId}
use Rattle.gt_types.specs.declared.config.DomainConfig.{DomainConfig}
use Rattle.gt_script.specs.Contents.{type_names}
use Rattle.gt_script.specs.Lists.{RunAction, RunTask}
use Rattle.gt_script.specs.Preceding.{is_call}
use Rattle.gt_script.specs.RunContents.{RunContents}
use Rattle.gt_script.specs.RunScripts.{list_of}
use Rattle.gt_script.specs.declared.tasks.RunAction.TheVariants.{Do, Tell, Await}
use Rattle.gt_script_runs.specs.Playing.{setting_of_script}
use Rattle.gt_explore_replay.proofs.Coming.{apart_at, mapped_back}
use Rattle.gt_explore_replay.specs.Abreast.{history_in}
use Rattle.gt_explore_replay.specs.Courses.{ActionLeads, Course, CourseLeads, OpenLeads, Opened, RestLeads, calling, giving, resting}
use Rattle.gt_explore_replay.specs.Orders.{Happening, doer}
use Rattle.gt_explore_moves.specs.Calls.{IsOfTask, ShowsCalls, ShowsOpen}
use Rattle.gt_explore_moves.specs.Ends.{tasks_at}
use Rattle.gt_explore_moves.specs.Scenes.{IsSceneOf, SceneShows}
use Rattle.gt_explore_moves.specs.declared.actor.Actor.{Actor}
use Rattle.gt_explore_moves.specs.declared.actor.ActorCall.{ActorCall}
use Rattle.gt_explore_moves.specs.declared.scene.SearchContext.{SearchContext}
use Rattle.gt_explore_moves.specs.declared.scene.SearchState.{SearchState}
use Rattle.gt_explore_search.specs.declared.spaces.Turn.{Turn}
use Rattle.gt_precedence.proofs.Lists.{count-append}
use Rattle.gt_precedence.specs.Precedence.{begins_call, calls_answered, calls_begun, calls_of}
use Rattle.gt_explore_ordered.specs.Holding.{is_completed, is_completed_if}
use Rattle.gt_explore_ordered.specs.Notes.{Note, mark_if}
use Rattle.gt_explore_ordered.specs.Spaces.{AreCallOrders, AreLate, CallsAreCounted, IsCallOrder, IsCallPlace, opened_count}
use Rattle.gt_explore_ordered.specs.States.{answered_by, begins_at, begins_by, completes, is_answered_at, is_task, marks_of_orders}
use Rattle.gt_explore_ordered.specs.declared.places.CallOrder.{CallOrder}
use Rattle.gt_explore_ordered.specs.declared.places.CallPlace.{CallPlace}
use Rattle.gt_explore_ordered.proofs.Counts.{calls-with, its-doer, none-late}
use Rattle.gt_explore_ordered.proofs.Held.{both, both-hold}

-- tests

agree : (a b : Bool) → (a ≡ true → b ≡ true) → (a ≡ false → b ≡ false) → a ≡ b
agree true b on off = sym (on refl)
agree false b on off = sym (off refl)

and-false : (a b : Bool) → b ≡ false → (a && b) ≡ false
and-false true b e = e
and-false false b e = refl

and-assoc : (a b c : Bool) → ((a && b) && c) ≡ (a && (b && c))
and-assoc true b c = refl
and-assoc false b c = refl

-- lists of tasks

calls_up : ℕ → List RunTask → ℕ
calls_up n ts = length (calls_of (take n ts))

one-more : (t : RunTask) (ts : List RunTask) (n : ℕ) → length (calls_of (t ∷ take n ts)) ≡ length (calls_of (t ∷ [])) + length (calls_of (take n ts))
one-more t ts n = count-append (λ (u : RunTask). is_call u.run_action) (t ∷ []) (take n ts)

rising : (ts : List RunTask) (i j : ℕ) → i ≤ j → calls_up i ts ≤ calls_up j ts
unfolding calls_up
rising [] zero zero le = omega arith
rising [] zero (suc j) le = omega arith
rising [] (suc i) zero le = omega arith
rising [] (suc i) (suc j) le = omega arith
rising (t ∷ ts) zero j le = omega arith
rising (t ∷ ts) (suc i) zero le = absurd (omega (arith, le))
rising (t ∷ ts) (suc i) (suc j) le =
    let later = rising ts i j (omega (arith, le)) in let mine = one-more t ts i in let theirs = one-more t ts j in
    omega (arith, later, mine, theirs)

call-at : (ts : List RunTask) (i : ℕ) (t : RunTask) → slice_get ts i ≡ Some t → is_call t.run_action ≡ true → calls_up (suc i) ts ≡ suc (calls_up i ts)
unfolding calls_up
call-at [] i t there calls = absurd (none-some t there)
call-at (u ∷ ts) zero t there calls = calls-with u [] true (ap (λ (z : RunTask). is_call z.run_action) (same_Some u t there) ∙ calls)
call-at (u ∷ ts) (suc i) t there calls =
    let later = call-at ts i t there calls in let mine = one-more u ts i in let theirs = one-more u ts (suc i) in
    omega (arith, later, mine, theirs)

all-calls : (ts : List RunTask) (i : ℕ) → length (calls_of ts) ≡ calls_up i ts + length (calls_of (drop i ts))
unfolding calls_up
all-calls [] zero = omega arith
all-calls [] (suc i) = omega arith
all-calls (t ∷ ts) zero = omega arith
all-calls (t ∷ ts) (suc i) =
    let later = all-calls ts i in let mine = one-more t ts i in
    let whole : length (calls_of (t ∷ ts)) ≡ length (calls_of (t ∷ [])) + length (calls_of ts) = count-append (λ (u : RunTask). is_call u.run_action) (t ∷ []) ts in
    omega (arith, later, mine, whole)

-- a call before this index is counted
counted-before : (ts : List RunTask) (i n : ℕ) (t : RunTask) → slice_get ts i ≡ Some t → is_call t.run_action ≡ true → i < n → calls_up i ts < calls_up n ts
counted-before ts i n t there calls lt = let one = call-at ts i t there calls in let up = rising ts (suc i) n (omega (arith, lt)) in omega (arith, one, up)

drop-none : (ts : List RunTask) (n i : ℕ) (t : RunTask) → drop n ts ≡ [] → slice_get ts i ≡ Some t → i < n
drop-none [] n i t none there = absurd (none-some t there)
drop-none (u ∷ ts) zero i t none there = absurd (cc none)
drop-none (u ∷ ts) (suc n) zero t none there = omega arith
drop-none (u ∷ ts) (suc n) (suc i) t none there = let lt = drop-none ts n i t none there in omega (arith, lt)

drop-first : (ts : List RunTask) (n : ℕ) (t : RunTask) (more : List RunTask) → drop n ts ≡ t ∷ more → slice_get ts n ≡ Some t
drop-first [] zero t more is = absurd (cc is)
drop-first [] (suc n) t more is = absurd (cc is)
drop-first (u ∷ ts) zero t more is = let same : u ≡ t = cc is in ap (λ (z : RunTask). Some z) same
drop-first (u ∷ ts) (suc n) t more is = drop-first ts n t more is

has-at : {X : Type 0} (xs : List X) (i : ℕ) → i < length xs → (x : X) × (slice_get xs i ≡ Some x)
has-at [] i lt = absurd (omega (arith, lt))
has-at (x ∷ xs) zero lt = (x, refl)
has-at (x ∷ xs) (suc i) lt = has-at xs i (omega (arith, lt))

-- one domain

-- a domain of a state is at this point of its course, through these tasks
pub record IsAt (c : RunContents) (hs : List Happening) (p : CallPlace) (k : Course) (a : Actor) (ts : List RunTask) : Type 0 where
  pub list : ts ≡ list_of c.tasks p.dom
  pub dom : k.dom ≡ p.dom
  pub left : k.tasks ≡ drop a.next ts
  pub underway : Option Underway
  pub opens : ShowsOpen (setting_of_script c.head) (history_in hs) ts k a.next k.opened underway a.«open»
  pub counted : CallsAreCounted c hs k

module _ (c : RunContents) (hs : List Happening) (p : CallPlace) (is : IsCallPlace c p) (k : Course) (a : Actor) (ts : List RunTask) (at : IsAt c hs p k a ts) where
  there : slice_get ts p.index ≡ Some is.task
  there = ap (λ (l : List RunTask). slice_get l p.index) at.list ∙ is.there

  before : p.before ≡ calls_up p.index ts
  unfolding calls_up
  before = is.before ∙ ap (λ (l : List RunTask). length (calls_of (take p.index l))) (sym at.list)

  -- the calls that it has begun
  begun-calls : calls_begun p.dom hs ≡ calls_up a.next ts + at.counted.releases
  begun-calls =
      let b = at.counted.begun in
      let mine : calls_begun k.dom hs ≡ calls_begun p.dom hs = ap (λ (d : DomId). calls_begun d hs) at.dom in
      let all : length (calls_of (list_of c.tasks k.dom)) ≡ length (calls_of ts) = ap (λ (d : DomId). length (calls_of (list_of c.tasks d))) at.dom ∙ ap (λ (l : List RunTask). length (calls_of l)) (sym at.list) in
      let rest : length (calls_of k.tasks) ≡ length (calls_of (drop a.next ts)) = ap (λ (l : List RunTask). length (calls_of l)) at.left in
      let whole = all-calls ts a.next in
      omega (arith, b, mine, all, rest, whole)

  answered-calls : calls_answered p.dom hs + opened_count k.opened ≡ calls_begun p.dom hs
  answered-calls = subst (λ (d : DomId). calls_answered d hs + opened_count k.opened ≡ calls_begun d hs) at.dom at.counted.answered

  -- whether its call has its answer

  abbrev Answered : Bool → Type 0
  Answered b = b ≡ nat_lt p.before (calls_answered p.dom hs)

  rests : (o : Opened) → k.opened ≡ o → o ≡ resting → Answered (nat_lt p.index a.next)
  rests o is-o rest =
      let r : opened_count k.opened ≡ 0 = ap opened_count (is-o ∙ rest) in
      let b = begun-calls in let n = answered-calls in let w = before in
      agree (nat_lt p.index a.next) (nat_lt p.before (calls_answered p.dom hs))
      (λ holds. let up = counted-before ts p.index a.next is.task there is.calls (ltb-true _ _ holds) in lt-ltb _ _ (omega (arith, r, b, n, w, up)))
      (λ fails.
      let le : a.next ≤ p.index = ltb-false _ _ fails in
      let up = rising ts a.next p.index le in
      let z : at.counted.releases ≡ 0 = elim (subst (λ (q : Opened). AreLate q at.counted.releases k.tasks) (is-o ∙ rest) at.counted.late) [
        | inl none ↦ none
        | inr over ↦ let lt = drop-none ts a.next p.index is.task (sym at.left ∙ over) there in absurd (omega (arith, lt, le))
      ] in
      le-ltb _ _ (omega (arith, r, b, n, w, up, z)))

  calls : (line : ℕ) (o : ActorCall) → opened_count k.opened ≡ 1 → at.counted.releases ≡ 0 → (place : ℕ) → o.task ≡ Some place → suc place ≡ a.next → (t : RunTask) → slice_get ts place ≡ Some t → is_call t.run_action ≡ true
      → Answered (nat_lt p.index a.next && not (is_task o.task p.index))
  calls line o r z place is-task last t here is-it =
      let b = begun-calls in let n = answered-calls in let w = before in
      let one = call-at ts place t here is-it in
      let same : calls_up a.next ts ≡ calls_up (suc place) ts = ap (λ (m : ℕ). calls_up m ts) (sym last) in
      ap (λ (m : Option ℕ). nat_lt p.index a.next && not (is_task m p.index)) is-task
      ∙ elim (cases_order place p.index) [
        | inl equal ↦
            and-false (nat_lt p.index a.next) (not (place == p.index)) (ap not (eq-eqb place p.index equal))
            ∙ sym (le-ltb _ _ (let e : calls_up place ts ≡ calls_up p.index ts = ap (λ (m : ℕ). calls_up m ts) equal in omega (arith, r, z, b, n, w, one, same, e)))
        | inr differ ↦ elim differ [
          | inl below ↦
              ap (λ (q : Bool). q && not (place == p.index)) (le-ltb p.index a.next (omega (arith, below, last)))
              ∙ sym (le-ltb _ _ (let up = rising ts place p.index (omega (arith, below)) in omega (arith, r, z, b, n, w, one, same, up)))
          | inr above ↦
              both-hold _ _ (lt-ltb p.index a.next (omega (arith, above, last))) (ap not (ne_eqb place p.index (λ e. omega (arith, e, above))))
              ∙ sym (lt-ltb _ _ (let up = counted-before ts p.index place is.task there is.calls above in omega (arith, r, z, b, n, w, one, same, up)))
        ]
      ]

  gives : (o : ActorCall) → opened_count k.opened ≡ 1 → 0 < at.counted.releases → k.tasks ≡ [] → o.task ≡ None → Answered (nat_lt p.index a.next && not (is_task o.task p.index))
  gives o r some over none =
      let b = begun-calls in let n = answered-calls in let w = before in
      let lt = drop-none ts a.next p.index is.task (sym at.left ∙ over) there in
      let up = counted-before ts p.index a.next is.task there is.calls lt in
      ap (λ (m : Option ℕ). nat_lt p.index a.next && not (is_task m p.index)) none
      ∙ both-hold _ _ (lt-ltb p.index a.next lt) refl ∙ sym (lt-ltb _ _ (omega (arith, r, b, n, w, up, some)))

  pub is-answered : answered_by (Some a) p.index ≡ nat_lt p.before (calls_answered p.dom hs)
  is-answered = by k.opened at.underway a.«open» refl at.opens refl
    where
      by : (o : Opened) (u : Option Underway) (q : Option ActorCall) → k.opened ≡ o → ShowsOpen (setting_of_script c.head) (history_in hs) ts k a.next o u q → a.«open» ≡ q → Answered (answered_by (Some a) p.index)
      by resting None None e shows is-open =
          ap (λ (q : Option ActorCall). answered_by (Some (record a { «open» = q })) p.index) is-open ∙ and-true (nat_lt p.index a.next) ∙ rests resting e refl
        where
          and-true : (b : Bool) → (b && true) ≡ b
          and-true true = refl
          and-true false = refl
      by (calling line call lost) (Some u) (Some o) e shows is-open =
          let t = shows.1 in
          ap (λ (q : Option ActorCall). answered_by (Some (record a { «open» = q })) p.index) is-open
          ∙ calls line o (ap opened_count e) (subst (λ (q : Opened). AreLate q at.counted.releases k.tasks) e at.counted.late) t.place t.task_is t.last t.of_task t.there (ap is_call t.action_is)
      by giving (Some u) (Some o) e shows is-open =
          let late = subst (λ (q : Opened). AreLate q at.counted.releases k.tasks) e at.counted.late in
          ap (λ (q : Option ActorCall). answered_by (Some (record a { «open» = q })) p.index) is-open ∙ gives o (ap opened_count e) late.0 late.1 shows.1
      by resting None (Some o) e shows is-open = absurd shows
      by resting (Some u) q e shows is-open = absurd shows
      by (calling line call lost) None q e shows is-open = absurd shows
      by (calling line call lost) (Some u) None e shows is-open = absurd shows
      by giving None q e shows is-open = absurd shows
      by giving (Some u) None e shows is-open = absurd shows

  -- whether its next move begins the call

  module _ (types : List (List ℕ)) (choice : ℕ) (x : Happening) (j : Course) where
    abbrev Begins : Bool → Type 0
    Begins b = b ≡ (begins_call x && (calls_begun p.dom hs == p.before))

    unbegun : (q : Bool) → q ≡ false → begins_call x ≡ false → Begins q
    unbegun q fails none = fails ∙ sym (ap (λ (b : Bool). b && (calls_begun p.dom hs == p.before)) none)

    action : (t : RunTask) (more : List RunTask) (act : RunAction) → k.opened ≡ resting → k.tasks ≡ t ∷ more → t.run_action ≡ act → ActionLeads types k t.line more act x j → Begins (a.next == p.index)
    action t more (Tell flag) rest are acts leads = unbegun (a.next == p.index) (ne_eqb a.next p.index (λ e. plain-there t more are e (ap is_call acts))) (ap begins_call leads.0)
      where
        plain-there : (t : RunTask) (more : List RunTask) → k.tasks ≡ t ∷ more → a.next ≡ p.index → is_call t.run_action ≡ false → ⊥
        plain-there t more are e none =
            let here = drop-first ts a.next t more (sym at.left ∙ are) in
            let same : t ≡ is.task = same_Some t is.task (sym here ∙ ap (slice_get ts) e ∙ there) in
            false≢true (sym none ∙ ap (λ (z : RunTask). is_call z.run_action) same ∙ is.calls)
    action t more (Await flag) rest are acts leads = unbegun (a.next == p.index) (ne_eqb a.next p.index (λ e. plain-there t more are e (ap is_call acts))) (ap begins_call leads.0)
      where
        plain-there : (t : RunTask) (more : List RunTask) → k.tasks ≡ t ∷ more → a.next ≡ p.index → is_call t.run_action ≡ false → ⊥
        plain-there t more are e none =
            let here = drop-first ts a.next t more (sym at.left ∙ are) in
            let same : t ≡ is.task = same_Some t is.task (sym here ∙ ap (slice_get ts) e ∙ there) in
            false≢true (sym none ∙ ap (λ (z : RunTask). is_call z.run_action) same ∙ is.calls)
    action t more (Do call) rest are acts (request, e, makes, happens, left) =
        let z = none-late k t more at.counted.releases rest are at.counted.late in
        let b = begun-calls in let w = before in
        let here = drop-first ts a.next t more (sym at.left ∙ are) in
        let it : is_call t.run_action ≡ true = ap is_call acts in
        agree (a.next == p.index) (calls_begun p.dom hs == p.before)
        (λ holds. let same = ap (λ (n : ℕ). calls_up n ts) (eqb-true a.next p.index holds) in eq-eqb _ _ (omega (arith, b, w, z, same)))
        (λ fails. ne_eqb _ _ (λ same. elim (cases_order a.next p.index) [
          | inl equal ↦ false≢true (sym fails ∙ eq-eqb a.next p.index equal)
          | inr differ ↦ elim differ [
            | inl below ↦ let up = counted-before ts a.next p.index t here it below in omega (arith, b, w, z, same, up)
            | inr above ↦ let up = counted-before ts p.index a.next is.task there is.calls above in omega (arith, b, w, z, same, up)
          ]
        ]))
        ∙ sym (ap (λ (q : Bool). q && (calls_begun p.dom hs == p.before)) (ap begins_call happens))

    at-end : k.tasks ≡ [] → begins_call x ≡ true → Begins (a.next == p.index)
    at-end over begins =
        let b = begun-calls in let w = before in
        let lt = drop-none ts a.next p.index is.task (sym at.left ∙ over) there in
        let up = counted-before ts p.index a.next is.task there is.calls lt in
        ne_eqb a.next p.index (λ e. omega (arith, e, lt))
        ∙ sym (ap (λ (q : Bool). q && (calls_begun p.dom hs == p.before)) begins ∙ ne_eqb _ _ (λ same. omega (arith, same, b, w, up)))

    rest-begins : (tasks : List RunTask) → k.opened ≡ resting → k.tasks ≡ tasks → RestLeads types k tasks choice x j → Begins (a.next == p.index)
    rest-begins [] rest are (handle, e, at-it, happens, left) = at-end are (ap begins_call happens)
    rest-begins (t ∷ more) rest are leads = action t more t.run_action rest are refl leads.1

    abbrev Opens : Option ActorCall → Bool
    Opens q = begins_by (Some (record a { «open» = q })) p.index

    pub is-begun : CourseLeads types k choice x j → Begins (begins_by (Some a) p.index)
    is-begun leads = by k.opened at.underway a.«open» refl at.opens refl leads
      where
        by : (o : Opened) (u : Option Underway) (q : Option ActorCall) → k.opened ≡ o → ShowsOpen (setting_of_script c.head) (history_in hs) ts k a.next o u q → a.«open» ≡ q → OpenLeads types k o choice x j → Begins (begins_by (Some a) p.index)
        by resting None None e shows is-open leads = ap Opens is-open ∙ rest-begins k.tasks e refl leads
        by (calling line call lost) (Some u) (Some o) e shows is-open (first, element, happens, left) =
            unbegun (begins_by (Some a) p.index) (ap Opens is-open) (ap begins_call happens)
        by giving (Some u) (Some o) e shows is-open (first, element, happens, left) =
            unbegun (begins_by (Some a) p.index) (ap Opens is-open) (ap begins_call happens)
        by resting None (Some o) e shows is-open leads = absurd shows
        by resting (Some u) q e shows is-open leads = absurd shows
        by (calling line call lost) None q e shows is-open leads = absurd shows
        by (calling line call lost) (Some u) None e shows is-open leads = absurd shows
        by giving None q e shows is-open leads = absurd shows
        by giving (Some u) None e shows is-open leads = absurd shows

-- all domains

and-true : (b : Bool) → (b && true) ≡ b
and-true true = refl
and-true false = refl

module _ (c : RunContents) (scene : SearchContext) (hs : List Happening) (ks : List Course) (w : SearchState) (is : IsSceneOf c scene) (shows : SceneShows c scene hs ks w) (counted : (at : ℕ) (k : Course) → slice_get ks at ≡ Some k → CallsAreCounted c hs k) where
  -- the domain of a call's place
  record Standing (p : CallPlace) : Type 0 where
    pub k : Course
    pub course : slice_get ks p.place ≡ Some k
    pub a : Actor
    pub actor : slice_get w.actors.items p.place ≡ Some a
    pub at : IsAt c hs p k a (tasks_at scene p.place)

  standing : (p : CallPlace) → IsCallPlace c p → Standing p
  standing p placed =
      let d = placed.domain in
      let (k, course, dom) = mapped_back (λ (k : Course). k.dom) (slice_get ks p.place) d.id
      (sym (slice_get-map (λ (k : Course). k.dom) ks p.place) ∙ ap (λ (l : List DomId). slice_get l p.place) shows.domains ∙ slice_get-map (λ (e : DomainConfig). e.id) c.head.domains p.place ∙ ap (option_map (λ (e : DomainConfig). e.id)) placed.placed) in
      let within = slice_get_within ks p.place k course in
      let many = shows.many in
      let (a, actor) = has-at w.actors.items p.place (omega (arith, within, many)) in
      let calls = shows.each p.place k a course actor in
      record {
        k = k;
        course = course;
        a = a;
        actor = actor;
        at = record {
          list = ap (λ (l : List (List RunTask)). get_or l p.place []) is.lists
              ∙ get_or_from_slice_get (map (λ (e : DomainConfig). list_of c.tasks e.id) c.head.domains) p.place (list_of c.tasks d.id) []
              (slice_get-map (λ (e : DomainConfig). list_of c.tasks e.id) c.head.domains p.place ∙ ap (option_map (λ (e : DomainConfig). list_of c.tasks e.id)) placed.placed)
              ∙ ap (list_of c.tasks) placed.named;
          dom = dom ∙ placed.named;
          left = calls.left;
          underway = _;
          opens = calls.opens;
          counted = counted p.place k course;
        };
      }

  -- a domain that moves is not that of a call at another place
  elsewhere : (p : CallPlace) → IsCallPlace c p → (place : ℕ) (k : Course) → slice_get ks place ≡ Some k → (place ≡ p.place → ⊥) → k.dom.0 ≡ p.dom.0 → ⊥
  elsewhere p placed place k course other same =
      let (d, there, id) = mapped_back (λ (e : DomainConfig). e.id) (slice_get c.head.domains place) k.dom
      (sym (slice_get-map (λ (e : DomainConfig). e.id) c.head.domains place) ∙ ap (λ (l : List DomId). slice_get l place) (sym shows.domains) ∙ slice_get-map (λ (z : Course). z.dom) ks place ∙ ap (option_map (λ (z : Course). z.dom)) course) in
      let equal : d.id.0 ≡ placed.domain.id.0 = ap (λ (i : DomId). i.0) id ∙ same ∙ ap (λ (i : DomId). i.0) (sym placed.named) in
      elim (cases_order place p.place) [
        | inl here ↦ other here
        | inr differ ↦ elim differ [
          | inl below ↦ apart_at c.head.domains place p.place d placed.domain is.setting.apart there placed.placed below equal
          | inr above ↦ apart_at c.head.domains p.place place placed.domain d is.setting.apart placed.placed there above (sym equal)
        ]
      ]

  module _ (turn : Turn) (k j : Course) (x : Happening) (course : slice_get ks turn.place ≡ Some k) (leads : CourseLeads (type_names c.head) k turn.choice x j) where
    own : doer x ≡ k.dom
    own = its-doer (type_names c.head) k turn.choice x j leads

    begins-same : (p : CallPlace) → IsCallPlace c p → begins_at w turn p ≡ ((begins_call x && ((doer x).0 == p.dom.0)) && (calls_begun p.dom hs == p.before))
    begins-same p placed = by (turn.place == p.place) refl
      where
        by : (b : Bool) → (turn.place == p.place) ≡ b → begins_at w turn p ≡ ((begins_call x && ((doer x).0 == p.dom.0)) && (calls_begun p.dom hs == p.before))
        by true e =
            let here : turn.place ≡ p.place = eqb-true turn.place p.place e in
            let s = standing p placed in
            let same : k ≡ s.k = same_Some k s.k (sym course ∙ ap (slice_get ks) here ∙ s.course) in
            let moves = subst (λ (z : Course). CourseLeads (type_names c.head) z turn.choice x j) same leads in
            let mine : ((doer x).0 == p.dom.0) ≡ true = eq-eqb _ _ (ap (λ (d : DomId). d.0) (own ∙ ap (λ (z : Course). z.dom) same ∙ s.at.dom)) in
            ap (λ (b : Bool). b && begins_by (slice_get w.actors.items p.place) p.index) e
            ∙ ap (λ (o : Option Actor). begins_by o p.index) s.actor
            ∙ is-begun c hs p placed s.k s.a (tasks_at scene p.place) s.at (type_names c.head) turn.choice x j moves
            ∙ ap (λ (b : Bool). b && (calls_begun p.dom hs == p.before)) (sym (ap (λ (b : Bool). begins_call x && b) mine ∙ and-true (begins_call x)))
        by false e =
            let away : turn.place ≡ p.place → ⊥ = λ here. false≢true (sym e ∙ eq-eqb turn.place p.place here) in
            let other : ((doer x).0 == p.dom.0) ≡ false = ne_eqb _ _ (λ same. elsewhere p placed turn.place k course away (ap (λ (d : DomId). d.0) (sym own) ∙ same)) in
            ap (λ (b : Bool). b && begins_by (slice_get w.actors.items p.place) p.index) e
            ∙ sym (ap (λ (b : Bool). b && (calls_begun p.dom hs == p.before)) (ap (λ (b : Bool). begins_call x && b) other ∙ and-false (begins_call x) false refl))

    answered-same : (p : CallPlace) → IsCallPlace c p → is_answered_at w p ≡ nat_lt p.before (calls_answered p.dom hs)
    answered-same p placed =
        let s = standing p placed in
        ap (λ (o : Option Actor). answered_by o p.index) s.actor ∙ is-answered c hs p placed s.k s.a (tasks_at scene p.place) s.at

    completes-same : (o : Option CallOrder) → IsCallOrder c o → completes w turn o ≡ is_completed_if hs x o
    completes-same None placed = refl
    completes-same (Some o) placed =
        ap (λ (b : Bool). b && is_answered_at w o.first) (begins-same o.second placed.1)
        ∙ ap (λ (b : Bool). ((begins_call x && ((doer x).0 == o.second.dom.0)) && (calls_begun o.second.dom hs == o.second.before)) && b) (answered-same o.first placed.0)
        ∙ and-assoc (begins_call x && ((doer x).0 == o.second.dom.0)) (calls_begun o.second.dom hs == o.second.before) (nat_lt o.first.before (calls_answered o.first.dom hs))

    pub marks-same : (n : ℕ) (orders : List (Option CallOrder)) → AreCallOrders c orders → marks_of_orders (completes w turn) n orders ≡ marks_of_orders (is_completed_if hs x) n orders
    marks-same n [] placed = refl
    marks-same n (o ∷ orders) placed =
        ap (λ (b : Bool). mark_if b n ++ marks_of_orders (completes w turn) (n + 1) orders) (completes-same o placed.0)
        ∙ ap (λ (l : List Note). mark_if (is_completed_if hs x o) n ++ l) (marks-same (n + 1) orders placed.1)
