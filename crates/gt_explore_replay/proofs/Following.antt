-- A replay follows the turns of an order to its end.
use Rattle.std.proofs.Common.{◌≡◌, ◌<◌, ◌≤◌, ℕ, zero, suc, ◌+◌, Bool, true, false, List, [], ◌∷◌, ◌++◌, length, map}
use Rattle.std.proofs.Common.{drop, Option, Some, None, refl, ap, sym, ◌∙◌, subst, arith, get_or, append_assoc}
use Rattle.std.proofs.lemmas.List.{length-map}
use Rattle.std.proofs.lemmas.List.Elements.{All-filter}
use Rattle.std.proofs.lemmas.Option.{none-some, same_Some, slice_get_within, slice_get-map, get_or_from_slice_get}
use Rattle.std.specs.List.{flat_map}
use Rattle.std.specs.Option.{IsSomeAnd}
use Rattle.std.specs.Prelude.{◌==◌, slice_get, slice_set, All, IsSome}
use Rattle.gt_types.specs.declared.DomId.{DomId}
use Rattle.gt_types.specs.declared.config.DomainConfig.{DomainConfig}
use Rattle.gt_model.specs.declared.handle.Handle.{Handle}
use Rattle.gt_core.specs.Alike.{bare_handle, AreAlike, IsRun}
use Rattle.gt_model.specs.History.{History, Setting, open_call}
use Rattle.gt_model.specs.Legal.{LegalAfter, MayDo, grown, history_after}
use Rattle.gt_core.specs.Standing.{CoreStands}
use Rattle.gt_model.specs.declared.trace.Element.{Element}
use Rattle.gt_model.specs.declared.trace.Event.{Event}
use Rattle.gt_script.specs.Contents.{type_names}
use Rattle.gt_script.specs.Lists.{RunTask}
use Rattle.gt_script.specs.RunContents.{RunContents}
use Rattle.gt_script.specs.RunScripts.{list_of}
use Rattle.gt_script.specs.Stuck.{AreNumbered, IsBelow}
use Rattle.gt_script_runs.specs.Playing.{StartsFor, setting_of_script}
use Rattle.gt_explore_replay.specs.Orders.{Happening, did, raised, passed, events_in, trace_in, IsOrderOf}
use Rattle.gt_explore_replay.specs.Walking.{HaveOwnIds, IsAtEnd, StartsWalk, tasks_left_of}
use Rattle.gt_explore_replay.specs.Courses.{Opened, resting, Course, CourseEnds, CourseLeads, TurnsLead}
use Rattle.gt_explore_replay.specs.Courses.{AllCoursesEnd, courses_text, first_courses, IsTurnedBy}
use Rattle.gt_explore_replay.specs.Abreast.{IsDoingSo, WereAnswered, WalksAbreast, CanComeNext, IsAbreast}
use Rattle.gt_explore_replay.specs.declared.replay.Moved.{Moved}
use Rattle.gt_explore_replay.specs.declared.replay.Replay.{Replay}
use Rattle.gt_explore_search.specs.declared.spaces.Turn.{Turn}
use Rattle.gt_explore_replay.specs.declared.walker.OpenTask.{OpenTask}
use Rattle.gt_explore_replay.specs.declared.walker.OpenTask.TheVariants as open_tasks
use Rattle.gt_explore_replay.specs.declared.walker.Walker.{Walker}
use Rattle.gt_explore_replay.proofs.Coming.{domain_at, mapped_back}
use Rattle.gt_explore_replay.proofs.Places.{drop_all, drop_next, get_left}
use Rattle.gt_explore_replay.proofs.Starting.{setting_is}
use Rattle.gt_explore_replay.proofs.Turning.{at-length}

-- the beginning

-- a domain before the first line of its list
abbrev first_course : RunContents → DomainConfig → Course
first_course c d = record { dom = d.id; tasks = list_of c.tasks d.id; opened = resting; named = []; held = []; text = [] }

first_abreast : (c : RunContents) (n : ℕ) (d : DomainConfig) (w : Walker) → StartsWalk c.tasks w → d.id ≡ w.dom → AreNumbered n c.tasks → WalksAbreast n [] [] (first_course c d) w
unfolding open_call
first_abreast c n d w first is numbered = record {
  dom = sym is;
  tasks = ap (λ (m : ℕ). drop m (tasks_left_of w)) first.next ∙ first.list ∙ ap (list_of c.tasks) (sym is);
  numbered = All-filter (λ (t : RunTask). t.dom.0 == d.id.0) (λ (t : RunTask). IsBelow n t.run_action) c.tasks numbered;
  doing = subst (λ (x : OpenTask). IsDoingSo x resting) (sym first.doing) tt;
  opened = refl;
  names = [];
  named = first.labels;
  same = refl;
  mine = tt;
  theirs = tt;
  held = ap (map bare_handle) (sym first.held);
  kept = tt;
  holds = subst (λ (l : List Handle). WereAnswered [] d.id.0 l) (sym first.held) tt;
  text = first.text;
}

first_doms : (c : RunContents) (ds : List DomainConfig) → map (λ (k : Course). k.dom) (map (first_course c) ds) ≡ map (λ (d : DomainConfig). d.id) ds
first_doms c [] = refl
first_doms c (d ∷ ds) = ap (λ (l : List DomId). d.id ∷ l) (first_doms c ds)

alike_first : (s : Setting) → AreAlike s [] []
unfolding IsRun
alike_first s = record { first = tt; second = tt; same = refl }

pub begins_abreast : (c : RunContents) (r : Replay) (domains : List DomainConfig) → StartsFor c.head r.core → HaveOwnIds c.head.domains → r.types.items ≡ type_names c.head
    → map (λ (w : Walker). w.dom) r.walkers.items ≡ map (λ (d : DomainConfig). d.id) domains → domains ≡ c.head.domains → All (StartsWalk c.tasks) r.walkers.items
    → AreNumbered (length r.told.items) c.tasks → IsAbreast c [] (first_courses c) r
begins_abreast c r domains starts apart types doms same first numbered = record {
  setting = setting_is c.head r.core starts;
  types = types;
  replayed = [];
  stands = subst (λ (s : Setting). CoreStands s [] r.core.state) (setting_is c.head r.core starts) starts.stands;
  alike = alike_first (setting_of_script c.head);
  domains = first_doms c c.head.domains;
  apart = apart;
  many =
      sym (length-map r.walkers.items (λ (w : Walker). w.dom)) ∙ ap length of_script ∙ length-map c.head.domains (λ (d : DomainConfig). d.id) ∙ sym (length-map c.head.domains (first_course c));
  each = λ at k w here there.
      let mine = mapped_back (first_course c) (slice_get c.head.domains at) k (sym (slice_get-map (first_course c) c.head.domains at) ∙ here) in
      let theirs = domain_at r.walkers.items c.head.domains at w of_script there in
      let one : mine.0 ≡ theirs.0 = same_Some mine.0 theirs.0 (sym mine.1 ∙ theirs.1) in
      let own : mine.0.id ≡ w.dom = ap (λ (d : DomainConfig). d.id) one ∙ theirs.2 in
      let started = subst (StartsWalk c.tasks) (get_or_from_slice_get r.walkers.items at w w there) (first at w (slice_get_within r.walkers.items at w there)) in
      subst (λ (i : Course). WalksAbreast (length r.told.items) [] [] i w) mine.2 (first_abreast c (length r.told.items) mine.0 w started own numbered);
  told = λ flag before. absurd (no_place before.0 before.2);
}
  where
    of_script : map (λ (w : Walker). w.dom) r.walkers.items ≡ map (λ (d : DomainConfig). d.id) c.head.domains
    of_script = doms ∙ ap (map (λ (d : DomainConfig). d.id)) same

    no_place : (at : ℕ) → at < 0 → ⊥
    no_place at lt = absurd (omega arith)

-- the end

drop_none : {X : Type 0} (xs : List X) (k : ℕ) → drop k xs ≡ [] → length xs ≤ k
drop_none [] k e = omega arith
drop_none (x ∷ xs) zero e = absurd (cc)
drop_none (x ∷ xs) (suc k) e = let rest = drop_none xs k e in omega (arith, rest)

bare_none : (held : List Handle) → [] ≡ map bare_handle held → held ≡ []
bare_none [] e = refl
bare_none (x ∷ xs) e = absurd (cc)

idle_of : (d : OpenTask) → IsDoingSo d resting → d ≡ open_tasks.Nothing
idle_of open_tasks.Nothing so = refl
idle_of (open_tasks.Line line call lost) so = absurd so
idle_of open_tasks.GivesBack so = absurd so

course_ended : (n : ℕ) (g h : History) (k : Course) (w : Walker) → WalksAbreast n g h k w → CourseEnds k → IsAtEnd w
course_ended n g h k w walks ends = record {
  left = drop_none (tasks_left_of w) w.next (walks.tasks ∙ ends.tasks);
  doing = idle_of w.doing (subst (λ (o : Opened). IsDoingSo w.doing o) ends.opened walks.doing);
  held = bare_none w.held.items (ap (map bare_handle) (sym ends.held) ∙ walks.held);
}

one_ends : (ks : List Course) (at : ℕ) (k : Course) → AllCoursesEnd ks → slice_get ks at ≡ Some k → CourseEnds k
one_ends [] at k all here = absurd (none-some k here)
one_ends (j ∷ ks) zero k all here = subst CourseEnds (same_Some j k here) all.0
one_ends (j ∷ ks) (suc at) k all here = one_ends ks at k all.1 here

pub there_is : {X : Type 0} (xs : List X) (at : ℕ) → at < length xs → (x : X) × (slice_get xs at ≡ Some x)
there_is [] at lt = absurd (omega arith)
there_is (x ∷ xs) zero lt = (x, refl)
there_is (x ∷ xs) (suc at) lt = there_is xs at (omega arith)

pub walker_ends : (c : RunContents) (hs : List Happening) (ks : List Course) (r : Replay) (at : ℕ) (w : Walker) → (abreast : IsAbreast c hs ks r) → AllCoursesEnd ks → slice_get r.walkers.items at ≡ Some w → IsAtEnd w
walker_ends c hs ks r at w abreast all here =
    let within = slice_get_within r.walkers.items at w here in
    let many = abreast.many in
    let k = there_is ks at (omega (arith, within, many)) in
    course_ended (length r.told.items) _ abreast.replayed k.0 w (abreast.each at k.0 w k.1 here) (one_ends ks at k.0 all k.1)

texts_same : (ks : List Course) (ws : List Walker) → length ws ≡ length ks → ((at : ℕ) (k : Course) (w : Walker) → slice_get ks at ≡ Some k → slice_get ws at ≡ Some w → w.text.items ≡ k.text)
    → flat_map (λ (w : Walker). w.text.items) ws ≡ courses_text ks
texts_same [] [] many each = refl
texts_same [] (w ∷ ws) many each = absurd (omega (arith, many))
texts_same (k ∷ ks) [] many each = absurd (omega (arith, many))
texts_same (k ∷ ks) (w ∷ ws) many each =
    ap (λ (l : List ℕ). l ++ flat_map (λ (u : Walker). u.text.items) ws) (each zero k w refl refl)
    ∙ ap (λ (l : List ℕ). k.text ++ l) (texts_same ks ws (omega (arith, many)) (λ at j u here there. each (suc at) j u here there))

pub whole_text : (c : RunContents) (hs : List Happening) (ks : List Course) (r : Replay) → IsAbreast c hs ks r → flat_map (λ (w : Walker). w.text.items) r.walkers.items ≡ courses_text ks
whole_text c hs ks r abreast = texts_same ks r.walkers.items abreast.many (λ at k w here there. (abreast.each at k w here there).text)

-- the order

legal_at : (s : Setting) (g : History) (before : List Happening) (e : Event) (y : Element) (more : List Happening)
    → LegalAfter s g (events_in (before ++ did e y ∷ more)) (trace_in (before ++ did e y ∷ more)) → MayDo s (history_after g (trace_in before)) e y
legal_at s g [] e y more p = p.0
legal_at s g (did f z ∷ hs) e y more p = legal_at s (grown g z) hs e y more p.1
legal_at s g (raised d flag ∷ hs) e y more p = legal_at s g hs e y more p
legal_at s g (passed d flag ∷ hs) e y more p = legal_at s g hs e y more p

may_follow : (c : RunContents) (before : List Happening) (x : Happening) (more : List Happening) (text : List ℕ) → IsOrderOf c (before ++ x ∷ more) text → CanComeNext (setting_of_script c.head) before x
may_follow c before (did e y) more text order = legal_at (setting_of_script c.head) [] before e y more order.legal
may_follow c before (raised d flag) more text order = tt
may_follow c before (passed d flag) more text order =
    let (at, who, lt, is) = order.flags (length before) d flag (at-length before more (passed d flag)) in
    (at, who, lt, sym (get_left before (passed d flag ∷ more) at lt) ∙ is)

-- turns

-- the replay is abreast of the order, which has come so far by the first turns
pub record Follows (c : RunContents) (hs : List Happening) (turns : List Turn) (ends : List Course) (i : ℕ) (r : Replay) : Type 0 where
  pub before : List Happening
  pub left : List Happening
  pub courses : List Course
  pub parts : hs ≡ before ++ left
  pub abreast : IsAbreast c before courses r
  pub leads : TurnsLead (type_names c.head) courses left (drop i turns) ends

-- the replay follows each order of these turns
abbrev pub FollowsAny : RunContents → ℕ → List Turn → ℕ → Replay → Type 0
FollowsAny c flags turns i r =
    AreNumbered flags c.tasks → (hs : List Happening) (text : List ℕ) → (turned : IsTurnedBy c hs turns text) → Follows c hs turns turned.ends i r

pub follows_first : (c : RunContents) (flags : ℕ) (turns : List Turn) (r : Replay) → (AreNumbered flags c.tasks → IsAbreast c [] (first_courses c) r) → FollowsAny c flags turns 0 r
follows_first c flags turns r abreast numbered hs text turned = record {
  before = [];
  left = hs;
  courses = first_courses c;
  parts = refl;
  abreast = abreast numbered;
  leads = turned.leads;
}

-- the contract of a move
abbrev pub AdvancesSo : RunContents → Replay → Turn → Option Moved → Replay → Type 0
AdvancesSo c r turn m q =
    (hs : List Happening) (ks : List Course) (x : Happening) (k j : Course) → IsAbreast c hs ks r → slice_get ks turn.place ≡ Some k
    → CourseLeads (type_names c.head) k turn.choice x j → CanComeNext (setting_of_script c.head) hs x
    → IsSome m × IsAbreast c (hs ++ x ∷ []) (slice_set ks turn.place j) q

read_at : {X : Type 0} (xs : List X) (i : ℕ) (d : X) → i < length xs → slice_get xs i ≡ Some (get_or xs i d)
read_at [] i d lt = absurd (omega arith)
read_at (x ∷ xs) zero d lt = refl
read_at (x ∷ xs) (suc i) d lt = read_at xs i d (omega arith)

drop_turn : (turns : List Turn) (i : ℕ) (d : Turn) → i < length turns → drop i turns ≡ get_or turns i d ∷ drop (i + 1) turns
drop_turn turns i d lt = drop_next turns i (get_or turns i d) (read_at turns i d lt)

follows_next : (c : RunContents) (hs : List Happening) (text : List ℕ) (turns : List Turn) (i : ℕ) (turn : Turn) (r q : Replay) (m : Option Moved) (ends : List Course)
    → IsOrderOf c hs text → drop i turns ≡ turn ∷ drop (i + 1) turns → AdvancesSo c r turn m q → Follows c hs turns ends i r → IsSome m × Follows c hs turns ends (i + 1) q
follows_next c hs text turns i turn r q m ends order is advances follows =
    by follows.left follows.parts (subst (λ (l : List Turn). TurnsLead (type_names c.head) follows.courses follows.left l ends) is follows.leads)
  where
    by : (left : List Happening) → hs ≡ follows.before ++ left → TurnsLead (type_names c.head) follows.courses left (turn ∷ drop (i + 1) turns) ends → IsSome m × Follows c hs turns ends (i + 1) q
    by [] parts leads = absurd leads
    by (x ∷ more) parts (k, j, at, leads, rest) =
        let made = advances follows.before follows.courses x k j follows.abreast at leads
        (may_follow c follows.before x more text (subst (λ (l : List Happening). IsOrderOf c l text) parts order)) in (
          made.0,
          record {
            before = follows.before ++ x ∷ [];
            left = more;
            courses = slice_set follows.courses turn.place j;
            parts = parts ∙ sym (append_assoc follows.before (x ∷ []) more);
            abreast = made.1;
            leads = rest;
          },
        )

pub follows_more : (c : RunContents) (flags : ℕ) (turns : List Turn) (i : ℕ) (d : Turn) (r q : Replay) (m : Option Moved)
    → i < length turns → AdvancesSo c r (get_or turns i d) m q → FollowsAny c flags turns i r → FollowsAny c flags turns (i + 1) q
follows_more c flags turns i d r q m lt advances follows = λ numbered hs text turned.
    (follows_next c hs text turns i (get_or turns i d) r q m turned.ends turned.order (drop_turn turns i d lt) advances (follows numbered hs text turned)).1

-- what is so of each move of an order is so of the next one of these turns
pub follows_turn : (P : Type 0) (c : RunContents) (hs : List Happening) (text : List ℕ) (flags : ℕ) (turns : List Turn) (i : ℕ) (d : Turn) (r : Replay)
    → i < length turns
    → ((before : List Happening) (ks : List Course) (x : Happening) (k j : Course) → IsAbreast c before ks r → slice_get ks (get_or turns i d).place ≡ Some k
    → CourseLeads (type_names c.head) k (get_or turns i d).choice x j → CanComeNext (setting_of_script c.head) before x → P)
    → FollowsAny c flags turns i r → AreNumbered flags c.tasks → IsTurnedBy c hs turns text → P
follows_turn P c hs text flags turns i d r lt then any numbered turned =
    let now = any numbered hs text turned in
    by now.before now.left now.courses now.parts now.abreast (subst (λ (l : List Turn). TurnsLead (type_names c.head) now.courses now.left l turned.ends) (drop_turn turns i d lt) now.leads)
  where
    by : (before left : List Happening) (ks : List Course) → hs ≡ before ++ left → IsAbreast c before ks r → TurnsLead (type_names c.head) ks left (get_or turns i d ∷ drop (i + 1) turns) turned.ends → P
    by before [] ks parts abreast leads = absurd leads
    by before (x ∷ more) ks parts abreast (k, j, at, leads, rest) =
        then before ks x k j abreast at leads (may_follow c before x more text (subst (λ (l : List Happening). IsOrderOf c l text) parts turned.order))

some_same : {V : Type 0} (items : V → List ℕ) (o : Option V) (a b : List ℕ) → IsSomeAnd o (λ v. items v ≡ a) → a ≡ b → IsSomeAnd o (λ v. items v ≡ b)
some_same items None a b is same = is
some_same items (Some v) a b is same = is ∙ same

pub follows_over : {V : Type 0} (items : V → List ℕ) (c : RunContents) (hs : List Happening) (text : List ℕ) (flags : ℕ) (turns : List Turn) (i : ℕ) (r : Replay) (o : Option V)
    → length turns ≤ i → FollowsAny c flags turns i r → AreNumbered flags c.tasks → IsTurnedBy c hs turns text
    → ((before : List Happening) (ks : List Course) → IsAbreast c before ks r → AllCoursesEnd ks → IsSomeAnd o (λ v. items v ≡ courses_text ks))
    → IsSomeAnd o (λ v. items v ≡ text)
follows_over items c hs text flags turns i r o all follows numbered turned texts =
    let now = follows numbered hs text turned in
    let ended : now.courses ≡ turned.ends = by now.left now.courses (subst (λ (l : List Turn). TurnsLead (type_names c.head) now.courses now.left l turned.ends) (drop_all turns i all) now.leads) in
    some_same items o (courses_text now.courses) text (texts now.before now.courses now.abreast (subst AllCoursesEnd (sym ended) turned.over)) (ap courses_text ended ∙ sym turned.printed)
  where
    by : (left : List Happening) (ks : List Course) → TurnsLead (type_names c.head) ks left [] turned.ends → ks ≡ turned.ends
    by [] ks leads = leads
    by (x ∷ more) ks leads = absurd leads

pub not_both : (b : Bool) → b ≡ true → b ≡ false → ⊥
not_both b is isnt = let same : true ≡ false = sym is ∙ isnt in absurd (cc)
