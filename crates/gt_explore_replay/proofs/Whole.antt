-- A replay that is abreast of an order stays so.
use Rattle.std.proofs.Common.{◌≡◌, ◌≢◌, ◌<◌, ◌≤◌, ◌⊎◌, ℕ, zero, suc, ◌+◌, Bool, true, false, List, [], ◌∷◌, ◌++◌}
use Rattle.std.proofs.Common.{length, map, drop, Option, Some, None, refl, ap, sym, ◌∙◌, subst, inl, inr, arith}
use Rattle.std.proofs.Common.{get_or, Bor}
use Rattle.std.proofs.Math.ListN.{set}
use Rattle.std.proofs.lemmas.List.{length-map, length-set, get_or-set_same}
use Rattle.std.proofs.lemmas.Option.{slice_get_within, slice_get-map}
use Rattle.std.specs.Option.{option_map}
use Rattle.std.specs.Prelude.{slice_get, IfOk, IsSome, Result, Ok, Err}
use Rattle.gt_types.specs.Names.{domain_of}
use Rattle.gt_types.specs.declared.DomId.{DomId}
use Rattle.gt_types.specs.declared.config.Config.{Config}
use Rattle.gt_types.specs.declared.config.DomainConfig.{DomainConfig}
use Rattle.gt_model.specs.History.{setting_of, History, Setting}
use Rattle.gt_core.specs.Alike.{AreAlike}
use Rattle.gt_model.specs.Legal.{grown, history_after}
use Rattle.gt_core.specs.Standing.{CoreStands, setting_in}
use Rattle.gt_model.specs.declared.trace.Element.{Element}
use Rattle.gt_model.specs.declared.trace.Event.{Event}
use Rattle.gt_script_lines.specs.declared.calls.ScriptCall.{ScriptCall}
use Rattle.gt_script.specs.Contents.{type_names}
use Rattle.gt_script.specs.Lists.{RunAction, RunTask}
use Rattle.gt_script.specs.RunContents.{RunContents}
use Rattle.gt_script.specs.Stuck.{IsBelow}
use Rattle.gt_script.specs.declared.tasks.RunAction.TheVariants.{Do, Tell, Await}
use Rattle.gt_script_runs.specs.declared.rights.ScriptPolicy.{ScriptPolicy}
use Rattle.gt_script_runs.specs.Playing.{setting_of_script}
use Rattle.gt_script_runs.specs.Rights.{may_by}
use Rattle.gt_explore_replay.specs.Orders.{Happening, did, raised, passed, trace_in, IsRaisedBefore}
use Rattle.gt_explore_replay.specs.Walking.{tasks_left_of}
use Rattle.gt_explore_replay.specs.Courses.{Course, CourseLeads, ActionLeads}
use Rattle.gt_explore_replay.specs.Making.{BeginsLine, TicksOpen, GivesBackAt}
use Rattle.gt_explore_replay.specs.Abreast.{history_in, WalksAbreast, CanComeNext, IsAbreast}
use Rattle.gt_explore_replay.specs.declared.replay.Moved.{Moved}
use Rattle.gt_explore_replay.specs.declared.replay.Replay.{Replay}
use Rattle.gt_explore_replay.specs.declared.walker.OpenTask.TheVariants as open_tasks
use Rattle.gt_explore_replay.specs.declared.walker.Walker.{Walker}
use Rattle.gt_explore_replay.proofs.Abreast.{Came, begin_came, give_came, goes_past, left_numbered, line_leads, stays}
use Rattle.gt_explore_replay.proofs.Abreast.{tick_came}
use Rattle.gt_explore_replay.proofs.Coming.{IsQuiet, tells, waits, apart_at, domain_known, history_one, less_or}
use Rattle.gt_explore_replay.proofs.Coming.{map_set, mapped_back, trace_more, trace_same}
use Rattle.gt_explore_replay.proofs.Places.{get_cases, get_set}

-- what happened

pub history_did : (hs : List Happening) (e : Event) (x : Element) → history_in (hs ++ did e x ∷ []) ≡ grown (history_in hs) x
history_did hs e x = ap (history_after []) (trace_more hs e x) ∙ history_one [] (trace_in hs) x

pub history_quiet : (hs : List Happening) (x : Happening) → IsQuiet x → history_in (hs ++ x ∷ []) ≡ history_in hs
history_quiet hs x quiet = ap (history_after []) (trace_same hs x quiet)

-- a flag was raised before, or is raised now
pub raised_or : (hs : List Happening) (x : Happening) (flag : ℕ) → IsRaisedBefore (length (hs ++ x ∷ [])) flag (hs ++ x ∷ []) → IsRaisedBefore (length hs) flag hs ⊎ ((d : DomId) × (x ≡ raised d flag))
raised_or hs x flag (at, d, lt, is) = elim (get_cases hs x (raised d flag) at is) [
  | inl (less, here) ↦ inl (at, d, less, here)
  | inr (last, same) ↦ inr (d, same)
]

-- domains

course_at : (ks : List Course) (ds : List DomainConfig) (at : ℕ) (k : Course) → map (λ (u : Course). u.dom) ks ≡ map (λ (d : DomainConfig). d.id) ds → slice_get ks at ≡ Some k
    → (d : DomainConfig) × (slice_get ds at ≡ Some d) × (d.id ≡ k.dom)
course_at ks ds at k same here =
    mapped_back (λ (d : DomainConfig). d.id) (slice_get ds at) k.dom (
    sym (slice_get-map (λ (d : DomainConfig). d.id) ds at) ∙ ap (λ (l : List DomId). slice_get l at) (sym same)
    ∙ slice_get-map (λ (u : Course). u.dom) ks at ∙ ap (option_map (λ (u : Course). u.dom)) here
    )

courses_apart : (c : RunContents) (hs : List Happening) (ks : List Course) (r : Replay) (i j : ℕ) (k u : Course) → IsAbreast c hs ks r → slice_get ks i ≡ Some k → slice_get ks j ≡ Some u → i ≢ j → u.dom.0 ≢ k.dom.0
courses_apart c hs ks r i j k u abreast at there other = λ same.
    let d = course_at ks c.head.domains i k abreast.domains at in
    let e = course_at ks c.head.domains j u abreast.domains there in
    let equal : d.0.id.0 ≡ e.0.id.0 = ap (λ (x : DomId). x.0) d.2 ∙ sym same ∙ ap (λ (x : DomId). x.0) (sym e.2) in
    elim (less_or i j other) [
      | inl a ↦ apart_at c.head.domains i j d.0 e.0 abreast.apart d.1 e.1 a equal
      | inr b ↦ apart_at c.head.domains j i e.0 d.0 abreast.apart e.1 d.1 b (sym equal)
    ]

course_known : (c : RunContents) (hs : List Happening) (ks : List Course) (r : Replay) (at : ℕ) (k : Course) → IsAbreast c hs ks r → slice_get ks at ≡ Some k → domain_of (setting_of_script c.head).domains k.dom ≢ None
course_known c hs ks r at k abreast here =
    let d = course_at ks c.head.domains at k abreast.domains here in
    subst (λ (i : DomId). domain_of c.head.domains i ≢ None) d.2 (domain_known c.head.domains at d.0 d.1)

-- all domains

-- one domain came to the next point of its course, and the others stayed
comes_so : (c : RunContents) (hs : List Happening) (ks : List Course) (r q : Replay) (x : Happening) (place : ℕ) (k j : Course) (v w : Walker) (g h : History)
    → (abreast : IsAbreast c hs ks r) → slice_get ks place ≡ Some k → slice_get r.walkers.items place ≡ Some v
    → setting_in may_by q.core ≡ setting_in may_by r.core → q.types.items ≡ r.types.items → q.walkers.items ≡ set r.walkers.items place w → length q.told.items ≡ length r.told.items
    → history_in (hs ++ x ∷ []) ≡ g → CoreStands (setting_of_script c.head) h q.core.state → AreAlike (setting_of_script c.head) g h
    → WalksAbreast (length r.told.items) g h j w → j.dom ≡ k.dom
    → ((u : Course) (z : Walker) → u.dom.0 ≢ k.dom.0 → WalksAbreast (length r.told.items) (history_in hs) abreast.replayed u z → WalksAbreast (length r.told.items) g h u z)
    → ((flag : ℕ) → IsRaisedBefore (length (hs ++ x ∷ [])) flag (hs ++ x ∷ []) → get_or q.told.items flag false ≡ true)
    → IsAbreast c (hs ++ x ∷ []) (set ks place j) q
comes_so c hs ks r q x place k j v w g h abreast at there setting types walkers many history stands alike walks dom others told = record {
  setting = setting ∙ abreast.setting;
  types = types ∙ abreast.types;
  replayed = h;
  stands = stands;
  alike = subst (λ (l : History). AreAlike (setting_of_script c.head) l h) (sym history) alike;
  domains = map_set (λ (u : Course). u.dom) ks place k j at dom ∙ abreast.domains;
  apart = abreast.apart;
  many = ap length walkers ∙ length-set r.walkers.items place w ∙ abreast.many ∙ sym (length-set ks place j);
  each = λ i u z here standing.
      subst (λ (n : ℕ). WalksAbreast n (history_in (hs ++ x ∷ [])) h u z) (sym many)
      (subst (λ (l : History). WalksAbreast (length r.told.items) l h u z) (sym history) (now i u z (get_set ks place i j u here) (get_set r.walkers.items place i w z (ap (λ (l : List Walker). slice_get l i) (sym walkers) ∙ standing))));
  told = told;
}
  where
    now : (i : ℕ) (u : Course) (z : Walker) → ((i ≡ place) × (j ≡ u)) ⊎ ((i ≢ place) × (slice_get ks i ≡ Some u)) → ((i ≡ place) × (w ≡ z)) ⊎ ((i ≢ place) × (slice_get r.walkers.items i ≡ Some z))
        → WalksAbreast (length r.told.items) g h u z
    now i u z (inl (here, same)) (inl (also, equal)) =
        subst (λ (y : Walker). WalksAbreast (length r.told.items) g h u y) equal (subst (λ (y : Course). WalksAbreast (length r.told.items) g h y w) same walks)
    now i u z (inl (here, same)) (inr (other, was)) = absurd (other here)
    now i u z (inr (other, was)) (inl (here, same)) = absurd (other here)
    now i u z (inr (other, was)) (inr (also, stood)) =
        others u z (courses_apart c hs ks r place i k u abreast at was (λ e. other (sym e))) (abreast.each i u z was stood)

-- by an event
pub comes_event : (c : RunContents) (hs : List Happening) (ks : List Course) (r q : Replay) (x : Happening) (place : ℕ) (k j : Course) (v w : Walker) (m : Option Moved)
    → (abreast : IsAbreast c hs ks r) → slice_get ks place ≡ Some k → slice_get r.walkers.items place ≡ Some v
    → setting_in may_by q.core ≡ setting_in may_by r.core → q.types.items ≡ r.types.items → q.walkers.items ≡ set r.walkers.items place w → q.told.items ≡ r.told.items
    → Came (length r.told.items) (setting_of_script c.head) (history_in hs) abreast.replayed k j x m q.core.state w
    → IsSome m × IsAbreast c (hs ++ x ∷ []) (set ks place j) q
comes_event c hs ks r q x place k j v w m abreast at there setting types walkers told came = (
  came.moved,
  comes_so c hs ks r q x place k j v w (grown (history_in hs) came.mine) (grown abreast.replayed came.theirs) abreast at there setting types walkers (ap length told)
      (subst (λ (z : Happening). history_in (hs ++ z ∷ []) ≡ grown (history_in hs) came.mine) (sym came.happening) (history_did hs came.event came.mine))
      came.stands came.alike came.walks came.dom
      (λ u z other walks. stays (length r.told.items) (history_in hs) abreast.replayed u z came.mine came.theirs walks (came.others u.dom.0 other))
      (λ flag before. elim (raised_or hs x flag before) [
        | inl old ↦ ap (λ (l : List Bool). get_or l flag false) told ∙ abreast.told flag old
        | inr (d, same) ↦ absurd (no_flag came.event came.mine d flag (sym came.happening ∙ same))
      ]),
)
  where
    no_flag : (e : Event) (y : Element) (d : DomId) (flag : ℕ) → did e y ≡ raised d flag → ⊥
    no_flag e y d flag is = cc

-- by a flag
comes_quiet : (c : RunContents) (hs : List Happening) (ks : List Course) (r q : Replay) (x : Happening) (place : ℕ) (k j : Course) (v w : Walker) → IsQuiet x
    → (abreast : IsAbreast c hs ks r) → slice_get ks place ≡ Some k → slice_get r.walkers.items place ≡ Some v
    → q.core ≡ r.core → q.types.items ≡ r.types.items → q.walkers.items ≡ set r.walkers.items place w → length q.told.items ≡ length r.told.items
    → WalksAbreast (length r.told.items) (history_in hs) abreast.replayed j w → j.dom ≡ k.dom
    → ((flag : ℕ) → IsRaisedBefore (length (hs ++ x ∷ [])) flag (hs ++ x ∷ []) → get_or q.told.items flag false ≡ true)
    → IsAbreast c (hs ++ x ∷ []) (set ks place j) q
comes_quiet c hs ks r q x place k j v w quiet abreast at there core types walkers many walks dom told =
    comes_so c hs ks r q x place k j v w (history_in hs) abreast.replayed abreast at there (ap (setting_in may_by) core) types walkers many (history_quiet hs x quiet)
    (subst (λ z. CoreStands (setting_of_script c.head) abreast.replayed z.state) (sym core) abreast.stands) abreast.alike walks dom (λ u z other still. still) told

set_keeps : (told : List Bool) (at flag : ℕ) → get_or told flag false ≡ true → get_or (set told at true) flag false ≡ true
set_keeps [] at flag is = is
set_keeps (b ∷ told) zero zero is = refl
set_keeps (b ∷ told) zero (suc flag) is = is
set_keeps (b ∷ told) (suc at) zero is = is
set_keeps (b ∷ told) (suc at) (suc flag) is = set_keeps told at flag is

-- the moves

same_setting : (a b : Config) (x y : ScriptPolicy) → a ≡ b → x ≡ y → setting_of a (may_by x) ≡ setting_of b (may_by y)
same_setting a b x y e f = ap (λ (c : Config). setting_of c (may_by x)) e ∙ ap (λ (r : ScriptPolicy). setting_of b (may_by r)) f

pub begin_comes : {E : Type 0} (c : RunContents) (hs : List Happening) (ks : List Course) (r q : Replay) (x : Happening) (place choice : ℕ) (k j : Course) (v w : Walker) (task : RunTask) (call : Bor ScriptCall) (names : List (List ℕ)) (res : Result (Option Moved) E)
    → IsAbreast c hs ks r → slice_get ks place ≡ Some k → slice_get r.walkers.items place ≡ Some v → names ≡ r.types.items
    → q.core.config ≡ r.core.config → q.core.rights ≡ r.core.rights → q.types.items ≡ r.types.items → q.walkers.items ≡ set r.walkers.items place w → q.told.items ≡ r.told.items
    → slice_get (tasks_left_of v) v.next ≡ Some task → task.run_action ≡ Do call.now → v.doing ≡ open_tasks.Nothing
    → CourseLeads (type_names c.head) k choice x j → CanComeNext (setting_of_script c.head) hs x
    → IfOk res (λ m. BeginsLine (setting_in may_by r.core) names r.core.state v task call m q.core.state w)
    → IfOk res (λ m. IsSome m × IsAbreast c (hs ++ x ∷ []) (set ks place j) q)
begin_comes c hs ks r q x place choice k j v w task call names (Err e) abreast at there typed config rights types walkers told next does idle leads may made = tt
begin_comes c hs ks r q x place choice k j v w task call names (Ok m) abreast at there typed config rights types walkers told next does idle leads may made =
    let made_so = subst (λ (l : List (List ℕ)). BeginsLine (setting_of_script c.head) l r.core.state v task call m q.core.state w) (typed ∙ abreast.types)
    (subst (λ (s : Setting). BeginsLine s names r.core.state v task call m q.core.state w) abreast.setting made) in
    comes_event c hs ks r q x place k j v w m abreast at there (same_setting q.core.config r.core.config q.core.rights r.core.rights config rights) types walkers told
    (begin_came (length r.told.items) (setting_of_script c.head) (type_names c.head) hs abreast.replayed k j v w task call choice x m r.core.state q.core.state
    (abreast.each place k v at there) abreast.alike abreast.stands (course_known c hs ks r place k abreast at) next does idle leads may made_so)

pub tick_comes : {E : Type 0} (c : RunContents) (hs : List Happening) (ks : List Course) (r q : Replay) (x : Happening) (place choice : ℕ) (k j : Course) (v w : Walker) (names : List (List ℕ)) (res : Result (Option Moved) E)
    → IsAbreast c hs ks r → slice_get ks place ≡ Some k → slice_get r.walkers.items place ≡ Some v → names ≡ r.types.items
    → q.core.config ≡ r.core.config → q.core.rights ≡ r.core.rights → q.types.items ≡ r.types.items → q.walkers.items ≡ set r.walkers.items place w → q.told.items ≡ r.told.items
    → v.doing ≢ open_tasks.Nothing → CourseLeads (type_names c.head) k choice x j → CanComeNext (setting_of_script c.head) hs x
    → IfOk res (λ m. TicksOpen (setting_in may_by r.core) names r.core.state v m q.core.state w)
    → IfOk res (λ m. IsSome m × IsAbreast c (hs ++ x ∷ []) (set ks place j) q)
tick_comes c hs ks r q x place choice k j v w names (Err e) abreast at there typed config rights types walkers told busy leads may made = tt
tick_comes c hs ks r q x place choice k j v w names (Ok m) abreast at there typed config rights types walkers told busy leads may made =
    let made_so = subst (λ (l : List (List ℕ)). TicksOpen (setting_of_script c.head) l r.core.state v m q.core.state w) (typed ∙ abreast.types)
    (subst (λ (s : Setting). TicksOpen s names r.core.state v m q.core.state w) abreast.setting made) in
    comes_event c hs ks r q x place k j v w m abreast at there (same_setting q.core.config r.core.config q.core.rights r.core.rights config rights) types walkers told
    (tick_came (length r.told.items) (setting_of_script c.head) (type_names c.head) hs abreast.replayed k j v w choice x m r.core.state q.core.state
    (abreast.each place k v at there) abreast.alike abreast.stands (course_known c hs ks r place k abreast at) busy leads may made_so)

pub give_comes : {E : Type 0} (c : RunContents) (hs : List Happening) (ks : List Course) (r q : Replay) (x : Happening) (place choice : ℕ) (k j : Course) (v w : Walker) (res : Result (Option Moved) E)
    → IsAbreast c hs ks r → slice_get ks place ≡ Some k → slice_get r.walkers.items place ≡ Some v
    → q.core.config ≡ r.core.config → q.core.rights ≡ r.core.rights → q.types.items ≡ r.types.items → q.walkers.items ≡ set r.walkers.items place w → q.told.items ≡ r.told.items
    → length v.tasks.items ≤ v.next → v.doing ≡ open_tasks.Nothing → CourseLeads (type_names c.head) k choice x j → CanComeNext (setting_of_script c.head) hs x
    → IfOk res (λ m. GivesBackAt (setting_in may_by r.core) r.core.state v choice m q.core.state w)
    → IfOk res (λ m. IsSome m × IsAbreast c (hs ++ x ∷ []) (set ks place j) q)
give_comes c hs ks r q x place choice k j v w (Err e) abreast at there config rights types walkers told all idle leads may made = tt
give_comes c hs ks r q x place choice k j v w (Ok m) abreast at there config rights types walkers told all idle leads may made =
    let made_so = subst (λ (s : Setting). GivesBackAt s r.core.state v choice m q.core.state w) abreast.setting made in
    let end : length (tasks_left_of v) ≤ v.next = simp length-map all in
    comes_event c hs ks r q x place k j v w m abreast at there (same_setting q.core.config r.core.config q.core.rights r.core.rights config rights) types walkers told
    (give_came (length r.told.items) (setting_of_script c.head) (type_names c.head) hs abreast.replayed k j v w choice x m r.core.state q.core.state
    (abreast.each place k v at there) abreast.alike abreast.stands (course_known c hs ks r place k abreast at) end idle leads may made_so)

-- a flag that is to be raised has a place
pub tell_below : (c : RunContents) (hs : List Happening) (ks : List Course) (r : Replay) (place : ℕ) (k : Course) (v : Walker) (task : RunTask) (flag : ℕ)
    → IsAbreast c hs ks r → slice_get ks place ≡ Some k → slice_get r.walkers.items place ≡ Some v → slice_get (tasks_left_of v) v.next ≡ Some task → task.run_action ≡ Tell flag → flag < length r.told.items
tell_below c hs ks r place k v task flag abreast at there next does =
    let below = left_numbered (length r.told.items) (history_in hs) abreast.replayed k v task (abreast.each place k v at there) next in
    subst (λ (d : RunAction). IsBelow (length r.told.items) d) does below.0

pub tell_comes : (c : RunContents) (hs : List Happening) (ks : List Course) (r q : Replay) (x : Happening) (place choice : ℕ) (k j : Course) (v : Walker) (task : RunTask) (flag : ℕ)
    → IsAbreast c hs ks r → slice_get ks place ≡ Some k → slice_get r.walkers.items place ≡ Some v
    → q.core ≡ r.core → q.types.items ≡ r.types.items → q.walkers.items ≡ set r.walkers.items place (record v { next = v.next + 1 }) → q.told.items ≡ set r.told.items flag true
    → slice_get (tasks_left_of v) v.next ≡ Some task → task.run_action ≡ Tell flag → v.doing ≡ open_tasks.Nothing → CourseLeads (type_names c.head) k choice x j
    → IsAbreast c (hs ++ x ∷ []) (set ks place j) q
tell_comes c hs ks r q x place choice k j v task flag abreast at there core types walkers told next does idle leads =
    let walks = abreast.each place k v at there in
    let below = left_numbered (length r.told.items) (history_in hs) abreast.replayed k v task walks next in
    let fits = tell_below c hs ks r place k v task flag abreast at there next does in
    let run_action : (x ≡ raised k.dom flag) × (j ≡ record k { tasks = drop (v.next + 1) (tasks_left_of v) }) =
    subst (λ (d : RunAction). ActionLeads (type_names c.head) k task.line (drop (v.next + 1) (tasks_left_of v)) d x j) does (line_leads (length r.told.items) (history_in hs) abreast.replayed (type_names c.head) k j v task choice x walks idle next leads) in
    comes_quiet c hs ks r q x place k j v (record v { next = v.next + 1 }) (subst IsQuiet (sym run_action.0) (tells k.dom flag)) abreast at there core types walkers (ap length told ∙ length-set r.told.items flag true)
    (subst (λ (i : Course). WalksAbreast (length r.told.items) (history_in hs) abreast.replayed i (record v { next = v.next + 1 })) (sym run_action.1)
    (goes_past (length r.told.items) (history_in hs) abreast.replayed k v (drop (v.next + 1) (tasks_left_of v)) walks refl below.1))
    (ap (λ (i : Course). i.dom) run_action.1)
    (λ f before. elim (raised_or hs x f before) [
      | inl old ↦ ap (λ (l : List Bool). get_or l f false) told ∙ set_keeps r.told.items flag f (abreast.told f old)
      | inr (d, same) ↦ ap (λ (l : List Bool). get_or l f false) told ∙ subst (λ (n : ℕ). get_or (set r.told.items flag true) n false ≡ true) (one_flag k.dom d flag f (sym run_action.0 ∙ same)) (get_or-set_same r.told.items flag true false fits)
    ])
  where
    one_flag : (d e : DomId) (a b : ℕ) → raised d a ≡ raised e b → a ≡ b
    one_flag d e a b is = cc

-- a flag that is to be passed is raised
pub await_told : (c : RunContents) (hs : List Happening) (ks : List Course) (r : Replay) (x : Happening) (place choice : ℕ) (k j : Course) (v : Walker) (task : RunTask) (flag : ℕ)
    → IsAbreast c hs ks r → slice_get ks place ≡ Some k → slice_get r.walkers.items place ≡ Some v → slice_get (tasks_left_of v) v.next ≡ Some task → task.run_action ≡ Await flag → v.doing ≡ open_tasks.Nothing
    → CourseLeads (type_names c.head) k choice x j → CanComeNext (setting_of_script c.head) hs x → get_or r.told.items flag false ≡ true
await_told c hs ks r x place choice k j v task flag abreast at there next does idle leads may =
    let run_action : (x ≡ passed k.dom flag) × (j ≡ record k { tasks = drop (v.next + 1) (tasks_left_of v) }) =
    subst (λ (d : RunAction). ActionLeads (type_names c.head) k task.line (drop (v.next + 1) (tasks_left_of v)) d x j) does
    (line_leads (length r.told.items) (history_in hs) abreast.replayed (type_names c.head) k j v task choice x (abreast.each place k v at there) idle next leads) in
    let before : IsRaisedBefore (length hs) flag hs = subst (λ (z : Happening). CanComeNext (setting_of_script c.head) hs z) run_action.0 may in
    abreast.told flag before

pub await_comes : (c : RunContents) (hs : List Happening) (ks : List Course) (r q : Replay) (x : Happening) (place choice : ℕ) (k j : Course) (v : Walker) (task : RunTask) (flag : ℕ)
    → IsAbreast c hs ks r → slice_get ks place ≡ Some k → slice_get r.walkers.items place ≡ Some v
    → q.core ≡ r.core → q.types.items ≡ r.types.items → q.walkers.items ≡ set r.walkers.items place (record v { next = v.next + 1 }) → q.told.items ≡ r.told.items
    → slice_get (tasks_left_of v) v.next ≡ Some task → task.run_action ≡ Await flag → v.doing ≡ open_tasks.Nothing → CourseLeads (type_names c.head) k choice x j
    → IsAbreast c (hs ++ x ∷ []) (set ks place j) q
await_comes c hs ks r q x place choice k j v task flag abreast at there core types walkers told next does idle leads =
    let walks = abreast.each place k v at there in
    let below = left_numbered (length r.told.items) (history_in hs) abreast.replayed k v task walks next in
    let run_action : (x ≡ passed k.dom flag) × (j ≡ record k { tasks = drop (v.next + 1) (tasks_left_of v) }) =
    subst (λ (d : RunAction). ActionLeads (type_names c.head) k task.line (drop (v.next + 1) (tasks_left_of v)) d x j) does (line_leads (length r.told.items) (history_in hs) abreast.replayed (type_names c.head) k j v task choice x walks idle next leads) in
    comes_quiet c hs ks r q x place k j v (record v { next = v.next + 1 }) (subst IsQuiet (sym run_action.0) (waits k.dom flag)) abreast at there core types walkers (ap length told)
    (subst (λ (i : Course). WalksAbreast (length r.told.items) (history_in hs) abreast.replayed i (record v { next = v.next + 1 })) (sym run_action.1)
    (goes_past (length r.told.items) (history_in hs) abreast.replayed k v (drop (v.next + 1) (tasks_left_of v)) walks refl below.1))
    (ap (λ (i : Course). i.dom) run_action.1)
    (λ f before. elim (raised_or hs x f before) [
      | inl old ↦ ap (λ (l : List Bool). get_or l f false) told ∙ abreast.told f old
      | inr (d, same) ↦ absurd (no_flag k.dom d flag f (sym run_action.0 ∙ same))
    ])
  where
    no_flag : (d e : DomId) (a b : ℕ) → passed d a ≡ raised e b → ⊥
    no_flag d e a b is = cc

-- the domain of a turn is there
pub turn_within : (c : RunContents) (hs : List Happening) (ks : List Course) (r : Replay) (place : ℕ) (k : Course) → IsAbreast c hs ks r → slice_get ks place ≡ Some k → place < length r.walkers.items
turn_within c hs ks r place k abreast at =
    let within = slice_get_within ks place k at in
    let many = abreast.many in
    omega (arith, within, many)
