-- What a run of a script writes is a text that it may print, and one that the script may give if no call got no memory
-- and no gate stopped a list.
use Rattle.std.proofs.Common.{◌≡◌, ◌≢◌, ◌<◌, ℕ, zero, suc, Bool, List, [], ◌∷◌, All, get_or, length, map, None, refl}
use Rattle.std.proofs.Common.{sym, ap, ◌∙◌, subst, arith, inl, inr}
use Rattle.std.specs.Prelude.{is_some}
use Rattle.std.proofs.lemmas.List.{get_or-map, length-map}
use Rattle.std.proofs.lemmas.List.Elements.{All-get_or, All-head, All-tail, All-weaker}
use Rattle.gt_types.specs.Names.{domain_of}
use Rattle.gt_types.specs.declared.DomId.{DomId}
use Rattle.gt_types.specs.declared.config.DomainConfig.{DomainConfig}
use Rattle.gt_model.specs.History.{setting_of, Setting}
use Rattle.gt_model.specs.Legal.{Legal}
use Rattle.gt_script_runs.specs.Playing.{setting_of_script}
use Rattle.gt_script_runs.specs.Rights.{may_by}
use Rattle.gt_script_runs.specs.declared.rights.ScriptPolicy.{ScriptPolicy}
use Rattle.gt_script.specs.Contents.{type_names}
use Rattle.gt_script.specs.Lists.{RunAction, RunTask}
use Rattle.gt_script.specs.Stuck.{IsBelow}
use Rattle.gt_word_history.specs.Views.{IsAmong}
use Rattle.gt_script.specs.RunContents.{RunContents}
use Rattle.gt_script.specs.RunScripts.{list_of}
use Rattle.gt_explore_replay.specs.Orders.{AllFollow, FollowsList, Happening, MayGive, doer, events_in}
use Rattle.gt_explore_replay.specs.Orders.{own_happenings, trace_in}
use Rattle.gt_live.specs.declared.monitor.Monitor.{Monitor}
use Rattle.gt_run.specs.Printing.{AreJobsOf, AreServed, Served, ShowOneState, jobs_in, texts_in}
use Rattle.gt_run.specs.Runs.{AreOf, IsOver}
use Rattle.gt_run.specs.declared.lists.DomainPart.{DomainPart}
use Rattle.gt_run.specs.declared.lists.ThreadJob.{ThreadJob}
use Rattle.gt_linearization.proofs.Happenings.{events-are, happenings, order-known, order-raised, own-are, trace-is}
use Rattle.gt_linearization.proofs.Listed.{AreFlagsOf, FollowsAll, LacksMemory, IsStopped, follows-all}
use Rattle.gt_linearization.proofs.Served.{Serves, follows-list, none-refused, prints-list}
use Rattle.gt_linearization.specs.Explored.{HasNoneLost, NoneStops, RunsAreExplored}
use Rattle.gt_linearization.specs.Ordering.{events_of, items_in, own_in}
use Rattle.gt_linearization.specs.Printed.{AllPrint, MayPrint, PrintsList, RunsArePrinted}

-- each domain follows its list
all-follow : (c : RunContents) (hs : List Happening) (ds : List DomainConfig) (all : List (Served ScriptPolicy)) → length ds ≡ length all
    → ((i : ℕ) (d : DomainConfig) (s : Served ScriptPolicy) → i < length ds → FollowsList (type_names c.head) (get_or ds i d).id [] [] (list_of c.tasks (get_or ds i d).id) (own_happenings (get_or ds i d).id hs) (get_or all i s).text)
    → AllFollow c hs ds (texts_in all)
all-follow c hs [] [] same each = refl
all-follow c hs [] (s ∷ all) same each = absurd (omega (arith, same))
all-follow c hs (d ∷ ds) [] same each = absurd (omega (arith, same))
all-follow c hs (d ∷ ds) (s ∷ all) same each =
    (s.text, (texts_in all, refl, all-follow c hs ds all (omega (arith, same)) (λ i e t inside. each (suc i) e t (omega (arith, inside)))), each 0 d s (omega arith))

-- each domain serves its list so
all-print : (refuses : ℕ → Bool) (c : RunContents) (hs : List Happening) (ds : List DomainConfig) (all : List (Served ScriptPolicy)) → length ds ≡ length all
    → ((i : ℕ) (d : DomainConfig) (s : Served ScriptPolicy) → i < length ds → PrintsList refuses (type_names c.head) (get_or ds i d).id [] [] (list_of c.tasks (get_or ds i d).id) (own_happenings (get_or ds i d).id hs) (get_or all i s).text)
    → AllPrint refuses c hs ds (texts_in all)
all-print refuses c hs [] [] same each = refl
all-print refuses c hs [] (s ∷ all) same each = absurd (omega (arith, same))
all-print refuses c hs (d ∷ ds) [] same each = absurd (omega (arith, same))
all-print refuses c hs (d ∷ ds) (s ∷ all) same each =
    (s.text, (texts_in all, refl, all-print refuses c hs ds all (omega (arith, same)) (λ i e t inside. each (suc i) e t (omega (arith, inside)))), each 0 d s (omega arith))

all-among : {A : Type 0} (Is : A → Type 0) (xs : List A) → All Is xs → (x : A) → IsAmong x xs → Is x
all-among Is [] all x is = absurd is
all-among Is (y ∷ ys) all x (inl e) = subst Is (sym e) (All-head Is y ys all)
all-among Is (y ∷ ys) all x (inr is) = all-among Is ys (All-tail Is y ys all) x is

module _ (refuses : ℕ → Bool) (c : RunContents) (logged : Bool) (x : Served ScriptPolicy) (xs : List (Served ScriptPolicy)) (of : AreOf c logged (jobs_in (x ∷ xs))) where
  abbrev m : Monitor ScriptPolicy
  m = of.monitor

  abbrev lists : ℕ → Served ScriptPolicy
  lists i = get_or (x ∷ xs) i x

  on : All (λ (d : ThreadJob ScriptPolicy). d.monitor.now ≡ m) (jobs_in (x ∷ xs))
  on = All-weaker (λ (d : ThreadJob ScriptPolicy). (d.monitor.now ≡ m) × (is_some d.log ≡ logged)) (λ (d : ThreadJob ScriptPolicy). d.monitor.now ≡ m) (λ d both. both.0) (jobs_in (x ∷ xs)) of.jobs_are.1

  parts-are : map (λ (d : ThreadJob ScriptPolicy). d.part) (jobs_in (x ∷ xs)) ≡ of.parts
  parts-are = of.jobs_are.0

  map-dom : (ds : List (ThreadJob ScriptPolicy)) → map (λ (p : DomainPart). p.dom) (map (λ (d : ThreadJob ScriptPolicy). d.part) ds) ≡ map (λ (d : ThreadJob ScriptPolicy). d.part.dom) ds
  map-dom [] = refl
  map-dom (d ∷ ds) = ap (λ l. d.part.dom ∷ l) (map-dom ds)

  ids : map (λ (d : ThreadJob ScriptPolicy). d.part.dom) (jobs_in (x ∷ xs)) ≡ map (λ (d : DomainConfig). d.id) m.config.domains.items
  ids = sym (map-dom (jobs_in (x ∷ xs))) ∙ (ap (map (λ (p : DomainPart). p.dom)) parts-are ∙ (of.of_script.0 ∙ ap (map (λ (d : DomainConfig). d.id)) (sym of.domains)))

  many : length (jobs_in (x ∷ xs)) ≡ length m.config.domains.items
  many = sym (length-map (jobs_in (x ∷ xs)) (λ (d : ThreadJob ScriptPolicy). d.part.dom)) ∙ ap length ids ∙ length-map m.config.domains.items (λ (d : DomainConfig). d.id)

  same-many : length (x ∷ xs) ≡ length c.head.domains
  same-many = sym (length-map (x ∷ xs) (λ (s : Served ScriptPolicy). s.job)) ∙ (many ∙ ap length of.domains)

  setting-is : setting_of m.config (may_by m.rights) ≡ setting_of_script c.head
  setting-is = λ j. record { domains = of.domains j; first_generation = of.generation j; may = of.rights j }

  over-at : (i : ℕ) → i < length (x ∷ xs) → IsOver c.tasks (type_names c.head) (lists i).job.part
  over-at i l =
      let inside : i < length (jobs_in (x ∷ xs)) = let e = length-map (x ∷ xs) (λ (s : Served ScriptPolicy). s.job) in omega (arith, l, e) in
      let all : All (IsOver c.tasks (type_names c.head)) (map (λ (d : ThreadJob ScriptPolicy). d.part) (jobs_in (x ∷ xs))) = subst (All (IsOver c.tasks (type_names c.head))) (sym parts-are) of.of_script.1 in
      let within : i < length (map (λ (d : ThreadJob ScriptPolicy). d.part) (jobs_in (x ∷ xs))) = let e = length-map (jobs_in (x ∷ xs)) (λ (d : ThreadJob ScriptPolicy). d.part) in omega (arith, inside, e) in
      subst (IsOver c.tasks (type_names c.head)) (get_or-map (λ (d : ThreadJob ScriptPolicy). d.part) (jobs_in (x ∷ xs)) i x.job x.job.part inside ∙ ap (λ (d : ThreadJob ScriptPolicy). d.part) (get_or-map (λ (s : Served ScriptPolicy). s.job) (x ∷ xs) i x x.job l))
      (All-get_or (IsOver c.tasks (type_names c.head)) (map (λ (d : ThreadJob ScriptPolicy). d.part) (jobs_in (x ∷ xs))) i x.job.part within all)

  -- the number of a list's domain
  dom-at : (i : ℕ) (d : DomainConfig) → i < length (x ∷ xs) → (lists i).job.part.dom ≡ (get_or c.head.domains i d).id
  dom-at i d l =
      let inside : i < length (jobs_in (x ∷ xs)) = let e = length-map (x ∷ xs) (λ (s : Served ScriptPolicy). s.job) in omega (arith, l, e) in
      let there : i < length c.head.domains = omega (arith, l, same-many) in
      ap (λ (e : ThreadJob ScriptPolicy). e.part.dom) (sym (get_or-map (λ (s : Served ScriptPolicy). s.job) (x ∷ xs) i x x.job l))
      ∙ (sym (get_or-map (λ (e : ThreadJob ScriptPolicy). e.part.dom) (jobs_in (x ∷ xs)) i x.job d.id inside)
      ∙ (ap (λ (ys : List DomId). get_or ys i d.id) (ids ∙ ap (map (λ (e : DomainConfig). e.id)) of.domains) ∙ get_or-map (λ (e : DomainConfig). e.id) c.head.domains i d d.id there))

  same-list : (s t : Served ScriptPolicy) (i : ℕ) → i < length (x ∷ xs) → get_or (x ∷ xs) i s ≡ get_or (x ∷ xs) i t
  same-list s t zero l = refl
  same-list s t (suc i) l = others xs i (omega (arith, l))
    where
      others : (ys : List (Served ScriptPolicy)) (n : ℕ) → n < length ys → get_or ys n s ≡ get_or ys n t
      others [] n l = absurd (omega (arith, l))
      others (y ∷ ys) zero l = refl
      others (y ∷ ys) (suc n) l = others ys n (omega (arith, l))

  module _ (are : AreServed may_by refuses (x ∷ xs)) (one : ShowOneState (x ∷ xs)) where
    all : FollowsAll may_by refuses m x xs on ids are one
    all = follows-all may_by refuses m x xs on ids are one of.limits

    numbered : AreFlagsOf m c.tasks
    numbered task is = all-among (λ (t : RunTask). IsBelow m.words.flags t.run_action) c.tasks of.flags task is

    order-legal : Legal (setting_of_script c.head) (events_in (happenings all.order)) (trace_in (happenings all.order))
    order-legal = subst (λ (s : Setting). Legal s (events_in (happenings all.order)) (trace_in (happenings all.order))) setting-is
        (subst (λ es. Legal (setting_of m.config (may_by m.rights)) es (trace_in (happenings all.order))) (sym (events-are all.order))
        (subst (λ ts. Legal (setting_of m.config (may_by m.rights)) (events_of (items_in all.order)) ts) (sym (trace-is all.order)) all.legal))

    all-known : All (λ y. domain_of c.head.domains (doer y) ≢ None) (happenings all.order)
    all-known = subst (λ (ds : List DomainConfig). All (λ y. domain_of ds (doer y) ≢ None) (happenings all.order)) of.domains (order-known m.config (may_by m.rights) all.order all.flags all.legal)

    -- the list of the domain at a position
    serves-at : (i : ℕ) (d : DomainConfig) → i < length c.head.domains
        → Serves (LacksMemory (lists i).outcomes) (IsStopped refuses (lists i)) (type_names c.head) (get_or c.head.domains i d).id [] [] (list_of c.tasks (get_or c.head.domains i d).id) (own_happenings (get_or c.head.domains i d).id (happenings all.order)) (lists i).text
    serves-at i d inside =
        let l : i < length (x ∷ xs) = omega (arith, inside, same-many) in
        let within : i < length m.config.domains.items = let e = ap length of.domains in omega (arith, inside, e) in
        let over = over-at i l in
        let mine = all.follow i within (subst (AreFlagsOf m) (sym over.0) numbered) of.frames in
        let typed = subst (λ (ts : List (List ℕ)). Serves (LacksMemory (lists i).outcomes) (IsStopped refuses (lists i)) ts (lists i).job.part.dom [] [] (list_of (lists i).job.part.tasks.now (lists i).job.part.dom) (happenings (own_in (lists i).job.part.dom all.order)) (lists i).text) over.1 mine in
        let tasked = subst (λ (ts : List RunTask). Serves (LacksMemory (lists i).outcomes) (IsStopped refuses (lists i)) (type_names c.head) (lists i).job.part.dom [] [] (list_of ts (lists i).job.part.dom) (happenings (own_in (lists i).job.part.dom all.order)) (lists i).text) over.0 typed in
        let named = subst (λ (n : DomId). Serves (LacksMemory (lists i).outcomes) (IsStopped refuses (lists i)) (type_names c.head) n [] [] (list_of c.tasks n) (happenings (own_in n all.order)) (lists i).text) (dom-at i d l) tasked in
        subst (λ (hs : List Happening). Serves (LacksMemory (lists i).outcomes) (IsStopped refuses (lists i)) (type_names c.head) (get_or c.head.domains i d).id [] [] (list_of c.tasks (get_or c.head.domains i d).id) hs (lists i).text) (sym (own-are (get_or c.head.domains i d).id all.order)) named

    pub printed : MayPrint refuses c (texts_in (x ∷ xs))
    printed = (happenings all.order, record { legal = order-legal; print = all-print refuses c (happenings all.order) c.head.domains (x ∷ xs) (sym same-many) each; known = all-known; flags = order-raised m.config all.order all.flags })
      where
        each : (i : ℕ) (d : DomainConfig) (s : Served ScriptPolicy) → i < length c.head.domains
            → PrintsList refuses (type_names c.head) (get_or c.head.domains i d).id [] [] (list_of c.tasks (get_or c.head.domains i d).id) (own_happenings (get_or c.head.domains i d).id (happenings all.order)) (get_or (x ∷ xs) i s).text
        each i d s inside =
            subst (λ (q : Served ScriptPolicy). PrintsList refuses (type_names c.head) (get_or c.head.domains i d).id [] [] (list_of c.tasks (get_or c.head.domains i d).id) (own_happenings (get_or c.head.domains i d).id (happenings all.order)) q.text) (same-list x s i (omega (arith, inside, same-many)))
            (prints-list (LacksMemory (lists i).outcomes) (IsStopped refuses (lists i)) (type_names c.head) (get_or c.head.domains i d).id refuses (λ run_action stopped. stopped.0) (list_of c.tasks (get_or c.head.domains i d).id) [] [] _ (lists i).text (serves-at i d inside))

    none-stopped : NoneStops refuses (x ∷ xs) → (i : ℕ) → i < length (x ∷ xs) → (run_action : RunAction) → IsStopped refuses (lists i) run_action → ⊥
    none-stopped (inl none) i l run_action stopped = none-refused refuses run_action none stopped.0
    none-stopped (inr passes) i l run_action stopped = passes i x l stopped.1.0 stopped.1.1 stopped.1.2

    pub explored : NoneStops refuses (x ∷ xs) → All HasNoneLost (x ∷ xs) → MayGive c (texts_in (x ∷ xs))
    explored passes whole = (happenings all.order, record { legal = order-legal; follow = all-follow c (happenings all.order) c.head.domains (x ∷ xs) (sym same-many) each; known = all-known; flags = order-raised m.config all.order all.flags })
      where
        each : (i : ℕ) (d : DomainConfig) (s : Served ScriptPolicy) → i < length c.head.domains
            → FollowsList (type_names c.head) (get_or c.head.domains i d).id [] [] (list_of c.tasks (get_or c.head.domains i d).id) (own_happenings (get_or c.head.domains i d).id (happenings all.order)) (get_or (x ∷ xs) i s).text
        each i d s inside =
            let l : i < length (x ∷ xs) = omega (arith, inside, same-many) in
            subst (λ (q : Served ScriptPolicy). FollowsList (type_names c.head) (get_or c.head.domains i d).id [] [] (list_of c.tasks (get_or c.head.domains i d).id) (own_happenings (get_or c.head.domains i d).id (happenings all.order)) q.text) (same-list x s i l)
            (follows-list (LacksMemory (lists i).outcomes) (IsStopped refuses (lists i)) (type_names c.head) (get_or c.head.domains i d).id
            (λ starved. whole i x l starved.0 starved.1 starved.2) (none-stopped passes i l)
            (list_of c.tasks (get_or c.head.domains i d).id) [] [] _ (lists i).text (serves-at i d inside))

-- a run of a script has a domain
none-run : (c : RunContents) (logged : Bool) (jobs : List (ThreadJob ScriptPolicy)) (of : AreOf c logged jobs) → [] ≡ jobs → ⊥
none-run c logged jobs of same = none (ap (map (λ (d : ThreadJob ScriptPolicy). d.part)) same ∙ of.jobs_are.0)
  where
    none : [] ≡ of.parts → ⊥
    none e = let some = of.limits.some in let l = ap length (ap (map (λ (p : DomainPart). p.dom)) e ∙ of.of_script.0) in let k = length-map c.head.domains (λ (d : DomainConfig). d.id) in let j = ap length of.domains in omega (arith, some, l, k, j)

abbrev pub of-lists : (c : RunContents) (logged : Bool) (jobs : List (ThreadJob ScriptPolicy)) (served : List (Served ScriptPolicy)) → jobs_in served ≡ jobs → AreOf c logged jobs → AreOf c logged (jobs_in served)
of-lists c logged jobs served same of = record {
  parts = of.parts;
  of_script = of.of_script;
  monitor = of.monitor;
  domains = of.domains;
  limits = of.limits;
  generation = of.generation;
  rights = of.rights;
  flags = of.flags;
  frames = of.frames;
  jobs_are = subst (AreJobsOf of.monitor logged of.parts) (sym same) of.jobs_are;
}

pub runs-explored : RunsAreExplored
runs-explored refuses c logged jobs old new of wrote passes whole = by wrote.0 wrote.1 wrote.2 wrote.3 passes whole
  where
    by : (all : List (Served ScriptPolicy)) → jobs_in all ≡ jobs → AreServed may_by refuses all → ShowOneState all → NoneStops refuses all → All HasNoneLost all → MayGive c (texts_in all)
    by [] same are one passes whole = absurd (none-run c logged jobs of same)
    by (x ∷ xs) same are one passes whole = explored refuses c logged x xs (of-lists c logged jobs (x ∷ xs) same of) are one passes whole

pub runs-printed : RunsArePrinted
runs-printed refuses c logged jobs old new of wrote = by wrote.0 wrote.1 wrote.2 wrote.3
  where
    by : (all : List (Served ScriptPolicy)) → jobs_in all ≡ jobs → AreServed may_by refuses all → ShowOneState all → MayPrint refuses c (texts_in all)
    by [] same are one = absurd (none-run c logged jobs of same)
    by (x ∷ xs) same are one = printed refuses c logged x xs (of-lists c logged jobs (x ∷ xs) same of) are one
