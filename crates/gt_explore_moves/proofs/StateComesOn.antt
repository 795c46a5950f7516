-- A state that shows a run shows it with one happening more, if one of its domains comes to where that brings it.
use Rattle.std.proofs.Common.{◌≡◌, ◌≢◌, ◌<◌, ◌++◌, ◌⊎◌, ℕ, zero, suc, refl, true, false, Bool, cond, List, [], ◌∷◌}
use Rattle.std.proofs.Common.{length, map, Some, None, sym, ap, ◌∙◌, arith, subst, inl, inr, get_or}
use mathlib.Core.Path.{fun_ext}
use Rattle.std.specs.Option.{option_map}
use Rattle.std.specs.Prelude.{◌==◌, slice_get, slice_set}
use Rattle.std.proofs.lemmas.Bool.{eqb-true, ne_eqb}
use Rattle.std.proofs.lemmas.List.{length-set, length-append}
use Rattle.std.proofs.lemmas.List.Elements.{All-filter}
use Rattle.std.proofs.lemmas.Option.{none-some, same_Some, slice_get_within, slice_get-map, get_or_from_slice_get}
use Rattle.gt_types.specs.Names.{domain_of}
use Rattle.gt_types.specs.declared.DomId.{DomId}
use Rattle.gt_types.specs.declared.config.DomainConfig.{DomainConfig}
use Rattle.gt_core.specs.Alike.{HappensKnown}
use Rattle.gt_model.specs.History.{History, Setting}
use Rattle.gt_model.specs.Legal.{IsRight}
use Rattle.gt_model.specs.declared.trace.Element.TheVariants as elements
use Rattle.gt_model.specs.declared.trace.Event.{Event}
use Rattle.gt_model.specs.declared.trace.Item.{Item}
use Rattle.gt_explore_state.specs.Rows.{kept_generation}
use Rattle.gt_script_runs.specs.Playing.{setting_of_script}
use Rattle.gt_explore_replay.specs.Abreast.{history_in}
use Rattle.gt_explore_replay.specs.Courses.{Course}
use Rattle.gt_explore_replay.specs.Orders.{Happening, IsRaisedBefore, did, raised}
use Rattle.gt_explore_replay.proofs.Alike.{held_grown, names_grown}
use Rattle.gt_explore_replay.proofs.Coming.{IsQuiet, apart_at, domain_known, less_or, map_set, mapped_back}
use Rattle.gt_explore_replay.proofs.Places.{get_end, get_left, get_set}
use Rattle.gt_explore_replay.proofs.Whole.{history_did, history_quiet, raised_or}
use Rattle.gt_script.specs.Lists.{RunTask}
use Rattle.gt_script.specs.RunContents.{RunContents}
use Rattle.gt_script.specs.RunScripts.{list_of}
use Rattle.gt_script.specs.Stuck.{IsBelow}
use Rattle.gt_explore_moves.specs.Calls.{KnowsTable, ShowsCalls}
use Rattle.gt_explore_moves.specs.Ends.{tasks_at}
use Rattle.gt_explore_moves.specs.Scenes.{IsSceneOf, SceneShows, WasAnsweredAll}
use Rattle.gt_explore_moves.specs.declared.actor.Actor.{Actor}
use Rattle.gt_explore_moves.specs.declared.scene.SearchContext.{SearchContext}
use Rattle.gt_explore_moves.specs.declared.scene.SearchState.{SearchState}
use Rattle.gt_explore_moves.specs.Granting.{AllOfScript, BeginsOfScript}
use Rattle.gt_explore_state.specs.Shows.{IsInRun}
use Rattle.gt_explore_moves.proofs.OthersStay.{others-stay}
use Rattle.gt_explore_state.specs.Likeness.{AsksFit, IsLikeReached}
use Rattle.gt_explore_state.specs.Shows.{PagesShow, TableShows, TablesShow}
use Rattle.gt_explore_state.specs.declared.table.SparseTable.{SparseTable}
use Rattle.gt_explore_state.proofs.GoingAlike.{like-goes-on}

-- what happened

-- what was raised stays raised
pub raised-still : (hs : List Happening) (x : Happening) (flag : ℕ) → IsRaisedBefore (length hs) flag hs → IsRaisedBefore (length (hs ++ x ∷ [])) flag (hs ++ x ∷ [])
raised-still hs x flag (at, d, lt, is) =
    let many = length-append hs (x ∷ []) in
    (at, d, omega (arith, many), get_left hs (x ∷ []) at lt ∙ is)

pub raised-here : (hs : List Happening) (x : Happening) (d : DomId) (flag : ℕ) → x ≡ raised d flag → IsRaisedBefore (length (hs ++ x ∷ [])) flag (hs ++ x ∷ [])
raised-here hs x d flag is =
    let many = length-append hs (x ∷ []) in
    (length hs, d, omega (arith, many), get_end hs x ∙ ap Some is)

-- lists

pub there-in : {A : Type 0} (xs : List A) (n : ℕ) → n < length xs → (x : A) × (slice_get xs n ≡ Some x)
there-in [] n within = absurd (omega arith)
there-in (x ∷ xs) zero within = (x, refl)
there-in (x ∷ xs) (suc n) within = there-in xs n (omega arith)

-- each task of a domain's list is one of the domain
own-task : (tasks : List RunTask) (dom : DomId) (n : ℕ) (t : RunTask) → slice_get (list_of tasks dom) n ≡ Some t → t.dom.0 ≡ dom.0
own-task [] dom n t at = absurd (none-some t at)
own-task (u ∷ tasks) dom n t at = by (u.dom.0 == dom.0) refl n at (own-task tasks dom) where
  by : (b : Bool) → (u.dom.0 == dom.0) ≡ b → (n : ℕ) → slice_get (cond b (u ∷ list_of tasks dom) (list_of tasks dom)) n ≡ Some t → ((m : ℕ) (v : RunTask) → slice_get (list_of tasks dom) m ≡ Some v → v.dom.0 ≡ dom.0) → t.dom.0 ≡ dom.0
  by true e zero at more = ap (λ (z : RunTask). z.dom.0) (sym (same_Some u t at)) ∙ eqb-true u.dom.0 dom.0 e
  by true e (suc n) at more = more n t at
  by false e n at more = more n t at

-- a domain of a state

module _ (c : RunContents) (scene : SearchContext) (hs : List Happening) (ks : List Course) (old : SearchState) (place : ℕ) (k : Course) (a : Actor) (is : IsSceneOf c scene) (shows : SceneShows c scene hs ks old) (at : slice_get ks place ≡ Some k)
    (there : slice_get old.actors.items place ≡ Some a) where
  abbrev s : Setting
  s = setting_of_script c.head

  abbrev h : History
  h = history_in hs

  course-at : (i : ℕ) (u : Course) → slice_get ks i ≡ Some u → (d : DomainConfig) × (slice_get c.head.domains i ≡ Some d) × (d.id ≡ u.dom)
  course-at i u here =
      mapped_back (λ (d : DomainConfig). d.id) (slice_get c.head.domains i) u.dom (
      sym (slice_get-map (λ (d : DomainConfig). d.id) c.head.domains i) ∙ ap (λ (l : List DomId). slice_get l i) (sym shows.domains)
      ∙ slice_get-map (λ (v : Course). v.dom) ks i ∙ ap (option_map (λ (v : Course). v.dom)) here
      )

  -- it is one of the script
  pub domain-at : (d : DomainConfig) × (slice_get scene.roster.domains.items place ≡ Some d) × (d.id ≡ k.dom)
  domain-at = let d = course-at place k at in (d.0, ap (λ (l : List DomainConfig). slice_get l place) is.setting.domains ∙ d.1, d.2)

  pub of-run : domain_of c.head.domains k.dom ≢ None
  of-run = let d = course-at place k at in subst (λ (i : DomId). domain_of c.head.domains i ≢ None) d.2 (domain_known c.head.domains place d.0 d.1)

  apart : (i : ℕ) (u : Course) → slice_get ks i ≡ Some u → i ≢ place → u.dom.0 ≢ k.dom.0
  apart i u here other = λ same.
      let d = course-at place k at in
      let e = course-at i u here in
      let equal : d.0.id.0 ≡ e.0.id.0 = ap (λ (x : DomId). x.0) d.2 ∙ sym same ∙ ap (λ (x : DomId). x.0) (sym e.2) in
      elim (less_or i place other) [
        | inl below ↦ apart_at c.head.domains i place e.0 d.0 is.setting.apart e.1 d.1 below (sym equal)
        | inr above ↦ apart_at c.head.domains place i d.0 e.0 is.setting.apart d.1 e.1 above equal
      ]

  -- what it knows of its table
  pub table-at : (t : SparseTable) × (slice_get old.ground.tables.items place ≡ Some t) × KnowsTable s h k.dom scene t
  table-at =
      let d = course-at place k at in let many = shows.tables.many in let within = slice_get_within c.head.domains place d.0 d.1 in
      let t = there-in old.ground.tables.items place (omega arith) in
      let knows : TableShows s h k.dom t.0 = subst (λ (i : DomId). TableShows s h i t.0) d.2 (shows.tables.each place d.0 t.0 d.1 t.1) in (
        t.0,
        t.1,
        record {
          domains = is.setting.domains;
          may = is.may;
          entries = fun_ext (λ r. knows.entries r);
          generations = fun_ext (λ r. ap (λ (n : ℕ). kept_generation n t.0.own.items r) is.setting.first ∙ knows.generations r);
          header = knows.header;
        },
      )

  -- its list is that of the script
  tasks-are : tasks_at scene place ≡ list_of c.tasks k.dom
  tasks-are =
      let d = course-at place k at in let f = λ (e : DomainConfig). list_of c.tasks e.id in
      ap (λ (l : List (List RunTask)). get_or l place []) is.lists
      ∙ get_or_from_slice_get (map f c.head.domains) place (f d.0) [] (slice_get-map f c.head.domains place ∙ ap (option_map f) d.1)
      ∙ ap (λ (i : DomId). list_of c.tasks i) d.2

  -- each task of it is one of the domain
  pub task-own : (n : ℕ) (t : RunTask) → slice_get (tasks_at scene place) n ≡ Some t → t.dom ≡ k.dom
  task-own n t here = ap (λ (i : ℕ). record { 0 = i }) (own-task c.tasks k.dom n t (ap (λ (l : List RunTask). slice_get l n) (sym tasks-are) ∙ here))

  -- a flag that it names is one of the script
  pub task-below : (n : ℕ) (t : RunTask) → slice_get (tasks_at scene place) n ≡ Some t → IsBelow c.flags t.run_action
  task-below n t here =
      let list = list_of c.tasks k.dom in let there = ap (λ (l : List RunTask). slice_get l n) (sym tasks-are) ∙ here in
      let all = All-filter (λ (u : RunTask). u.dom.0 == k.dom.0) (λ (u : RunTask). IsBelow c.flags u.run_action) c.tasks is.numbered in
      subst (λ (u : RunTask). IsBelow c.flags u.run_action) (get_or_from_slice_get list n t t there) (all n t (slice_get_within list n t there))

  -- all domains

  -- one domain came to the next point of its course, and the others stayed
  comes-so : (new : SearchState) (x : Happening) (j : Course) (b : Actor) (g : History)
      → new.actors.items ≡ slice_set old.actors.items place b → history_in (hs ++ x ∷ []) ≡ g → j.dom ≡ k.dom → ShowsCalls s g (tasks_at scene place) j b → WasAnsweredAll g j
      → ((tasks : List RunTask) (u : Course) (z : Actor) → u.dom.0 ≢ k.dom.0 → ShowsCalls s h tasks u z → ShowsCalls s g tasks u z)
      → ((u : Course) → WasAnsweredAll h u → WasAnsweredAll g u)
      → TablesShow s g new.ground.tables.items → PagesShow g new.ground.pages.items → IsLikeReached s g → AllOfScript s scene.grants.items g → length new.told.items ≡ c.flags
      → ((flag : ℕ) → IsRaisedBefore (length (hs ++ x ∷ [])) flag (hs ++ x ∷ []) → slice_get new.told.items flag ≡ Some true)
      → ((flag : ℕ) → slice_get new.told.items flag ≡ Some true → IsRaisedBefore (length (hs ++ x ∷ [])) flag (hs ++ x ∷ []))
      → SceneShows c scene (hs ++ x ∷ []) (slice_set ks place j) new
  comes-so new x j b g becomes history dom calls answered others kept tables pages like asked flags told heard = record {
    domains = map_set (λ (u : Course). u.dom) ks place k j at dom ∙ shows.domains;
    many = ap (λ (l : List Actor). length l) becomes ∙ length-set old.actors.items place b ∙ shows.many ∙ sym (length-set ks place j);
    each = λ i u z here standing.
        subst (λ (l : History). ShowsCalls s l (tasks_at scene i) u z) (sym history)
        (now i u z (get_set ks place i j u here) (get_set old.actors.items place i b z (ap (λ (l : List Actor). slice_get l i) (sym becomes) ∙ standing)));
    answered = λ i u here. subst (λ (l : History). WasAnsweredAll l u) (sym history) (known i u (get_set ks place i j u here));
    tables = subst (λ (l : History). TablesShow s l new.ground.tables.items) (sym history) tables;
    pages = subst (λ (l : History). PagesShow l new.ground.pages.items) (sym history) pages;
    like = subst (IsLikeReached s) (sym history) like;
    asked = subst (AllOfScript s scene.grants.items) (sym history) asked;
    flags = flags;
    told = told;
    heard = heard;
  }
    where
      now : (i : ℕ) (u : Course) (z : Actor) → ((i ≡ place) × (j ≡ u)) ⊎ ((i ≢ place) × (slice_get ks i ≡ Some u)) → ((i ≡ place) × (b ≡ z)) ⊎ ((i ≢ place) × (slice_get old.actors.items i ≡ Some z))
          → ShowsCalls s g (tasks_at scene i) u z
      now i u z (inl (here, same)) (inl (also, equal)) =
          subst (λ (n : ℕ). ShowsCalls s g (tasks_at scene n) u z) (sym here)
          (subst (λ (y : Actor). ShowsCalls s g (tasks_at scene place) u y) equal (subst (λ (y : Course). ShowsCalls s g (tasks_at scene place) y b) same calls))
      now i u z (inl (here, same)) (inr (other, was)) = absurd (other here)
      now i u z (inr (other, was)) (inl (here, same)) = absurd (other here)
      now i u z (inr (other, was)) (inr (also, stood)) = others (tasks_at scene i) u z (apart i u was other) (shows.each i u z was stood)

      known : (i : ℕ) (u : Course) → ((i ≡ place) × (j ≡ u)) ⊎ ((i ≢ place) × (slice_get ks i ≡ Some u)) → WasAnsweredAll g u
      known i u (inl (here, same)) = subst (WasAnsweredAll g) same answered
      known i u (inr (other, was)) = kept u (shows.answered i u was)

  -- by an event, which did this
  pub comes-event : (new : SearchState) (e : Event) (i : Item) (j : Course) (b : Actor)
      → i.actor ≡ k.dom → IsRight s h i → HappensKnown h i → AsksFit i.happened → BeginsOfScript scene.grants.items i
      → new.actors.items ≡ slice_set old.actors.items place b → j.dom ≡ k.dom → ShowsCalls s (i ∷ h) (tasks_at scene place) j b → WasAnsweredAll (i ∷ h) j
      → TablesShow s (i ∷ h) new.ground.tables.items → PagesShow (i ∷ h) new.ground.pages.items → new.told ≡ old.told
      → SceneShows c scene (hs ++ did e (elements.Item i) ∷ []) (slice_set ks place j) new
  comes-event new e i j b own right known fits said becomes dom calls answered tables pages told =
      comes-so new (did e (elements.Item i)) j b (i ∷ h) becomes (history_did hs e (elements.Item i)) dom calls answered
      (λ tasks u z other show. others-stay s h tasks u z i (ne_eqb i.actor.0 u.dom.0 (λ same. other (sym same ∙ ap (λ (d : DomId). d.0) own))) show)
      (λ u was. record { named = names_grown h (elements.Item i) u.named was.named; held = held_grown h (elements.Item i) u.dom.0 u.held was.held })
      tables pages
      (like-goes-on s h i shows.like in-run right known fits)
      (record { in_run = in-run; fits = fits; begins = said }, shows.asked)
      (ap (λ w. length w.items) told ∙ shows.flags)
      (λ flag before. ap (λ w. slice_get w.items flag) told ∙ elim (raised_or hs (did e (elements.Item i)) flag before) [
        | inl was ↦ shows.told flag was
        | inr (d, same) ↦ absurd (no-flag d flag same)
      ])
      (λ flag is. raised-still hs (did e (elements.Item i)) flag (shows.heard flag (ap (λ w. slice_get w.items flag) (sym told) ∙ is)))
    where
      in-run : IsInRun s i.actor
      in-run = subst (λ (d : DomId). domain_of c.head.domains d ≢ None) (sym own) of-run

      no-flag : (d : DomId) (flag : ℕ) → did e (elements.Item i) ≡ raised d flag → ⊥
      no-flag d flag same = cc

  -- by a flag
  pub comes-quiet : (new : SearchState) (x : Happening) (j : Course) (b : Actor)
      → IsQuiet x → new.actors.items ≡ slice_set old.actors.items place b → j.dom ≡ k.dom → ShowsCalls s h (tasks_at scene place) j b → WasAnsweredAll h j → new.ground ≡ old.ground
      → length new.told.items ≡ length old.told.items
      → ((flag : ℕ) → IsRaisedBefore (length (hs ++ x ∷ [])) flag (hs ++ x ∷ []) → slice_get new.told.items flag ≡ Some true)
      → ((flag : ℕ) → slice_get new.told.items flag ≡ Some true → IsRaisedBefore (length (hs ++ x ∷ [])) flag (hs ++ x ∷ []))
      → SceneShows c scene (hs ++ x ∷ []) (slice_set ks place j) new
  comes-quiet new x j b quiet becomes dom calls answered ground many told heard =
      comes-so new x j b h becomes (history_quiet hs x quiet) dom calls answered (λ tasks u z other show. show) (λ u was. was)
      (subst (λ g. TablesShow s h g.tables.items) (sym ground) shows.tables)
      (subst (λ g. PagesShow h g.pages.items) (sym ground) shows.pages)
      shows.like shows.asked (many ∙ shows.flags) told heard
