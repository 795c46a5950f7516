-- The scene of a script, and the state in which nothing has happened.
use Rattle.std.proofs.Common.{◌≡◌, ◌≢◌, ◌+◌, ◌<◌, ℕ, refl, List, [], ◌∷◌, ◌++◌, length, take, drop, map, get_or}
use Rattle.std.proofs.Common.{Option, Bool, true, false, zero, suc, replicate, Bor, Some, None, sym, ap, ◌∙◌, subst}
use Rattle.std.proofs.Common.{arith}
use Rattle.std.proofs.lemmas.Bool.{false≢true}
use Rattle.std.proofs.lemmas.Option.{same_Some, get_or_from_slice_get, none-some, slice_get-map, slice_get_within}
use Rattle.std.specs.Option.{option_map}
use Rattle.std.specs.Prelude.{All, AllPairs, slice_get}
use Rattle.std.proofs.lemmas.List.{length-map, map-append, map_more}
use Rattle.std.specs.Global.{Vec}
use Rattle.gt_types.specs.Config.{IsWithinLimits}
use Rattle.gt_types.specs.declared.DomId.{DomId}
use Rattle.gt_types.specs.declared.config.Config.{Config}
use Rattle.gt_types.specs.declared.config.DomainConfig.{DomainConfig}
use Rattle.gt_model.specs.History.{setting_of, Setting, gather, live, maps_answered_at, open_call}
use Rattle.gt_script_runs.specs.Playing.{setting_of_script}
use Rattle.gt_script_runs.specs.Rights.{may_in}
use Rattle.gt_explore_replay.specs.Courses.{Course, first_courses, resting}
use Rattle.gt_explore_replay.proofs.Coming.{mapped_back}
use Rattle.gt_explore_replay.specs.Orders.{Happening}
use Rattle.gt_script.specs.Contents.{Contents, first_gen}
use Rattle.gt_script.specs.Lists.{RunTask}
use Rattle.gt_script.specs.RunContents.{RunContents}
use Rattle.gt_script.specs.RunScripts.{list_of}
use Rattle.gt_explore_moves.specs.Calls.{ShowsCalls, ShowsOpen}
use Rattle.gt_explore_moves.specs.Copies.{IsFirstActor}
use Rattle.gt_explore_moves.specs.Ends.{tasks_at}
use Rattle.gt_explore_moves.specs.Mappings.{mapping_pins}
use Rattle.gt_explore_moves.specs.Scenes.{IsSceneOf, SceneShows, WasAnsweredAll}
use Rattle.gt_explore_moves.specs.Spaces.{scene_ways}
use Rattle.gt_explore_moves.specs.declared.actor.Actor.{Actor}
use Rattle.gt_explore_moves.specs.declared.actor.ActorCall.{ActorCall}
use Rattle.gt_explore_moves.specs.declared.scene.SearchContext.{SearchContext}
use Rattle.gt_explore_moves.specs.declared.scene.SearchState.{SearchState}
use Rattle.gt_explore_search.specs.Ways.{ShowsFirst}
use Rattle.gt_explore_state.specs.Likeness.{IsLikeReached}
use Rattle.gt_explore_state.specs.Shows.{IsSettingOf, PagesShow, TablesShow}
use Rattle.gt_explore_state.proofs.GoingAlike.{like-starts}

-- the scene

-- a configuration of a script's domains is its setting
pub setting-is : (c : Contents) (config : Config) → IsWithinLimits config → config.domains.items ≡ c.domains → config.first_gen ≡ first_gen c → IsSettingOf config (setting_of_script c)
setting-is c config fits domains generation = record {
  domains = domains;
  first = generation;
  apart = subst (AllPairs (λ (d e : DomainConfig). d.id.0 ≢ e.id.0)) domains fits.distinct;
}

-- the list of one domain more
pub lists-more : (tasks : List RunTask) (domains : List DomainConfig) (old new : List (Vec (Bor RunTask))) (list : Vec (Bor RunTask)) (i : ℕ) (d : DomainConfig) → i < length domains → map (λ (t : Bor RunTask). t.now) list.items ≡ list_of tasks (get_or domains i d).id → new ≡ old ++ list ∷ []
    → map (λ (v : Vec (Bor RunTask)). map (λ (t : Bor RunTask). t.now) v.items) old ≡ map (λ (e : DomainConfig). list_of tasks e.id) (take i domains)
    → map (λ (v : Vec (Bor RunTask)). map (λ (t : Bor RunTask). t.now) v.items) new ≡ map (λ (e : DomainConfig). list_of tasks e.id) (take (i + 1) domains)
lists-more tasks domains old new list i d within list_is pushed before =
    ap (map (λ (v : Vec (Bor RunTask)). map (λ (t : Bor RunTask). t.now) v.items)) pushed
    ∙ map-append (λ (v : Vec (Bor RunTask)). map (λ (t : Bor RunTask). t.now) v.items) old (list ∷ [])
    ∙ ap (λ (l : List (List RunTask)). l ++ map (λ (t : Bor RunTask). t.now) list.items ∷ []) before
    ∙ ap (λ (l : List RunTask). map (λ (e : DomainConfig). list_of tasks e.id) (take i domains) ++ l ∷ []) list_is
    ∙ sym (map_more (λ (e : DomainConfig). list_of tasks e.id) domains i d within)

-- the first state

abbrev first_course : RunContents → DomainConfig → Course
first_course c d = record { dom = d.id; tasks = list_of c.tasks d.id; opened = resting; named = []; held = []; text = [] }

first-doms : (c : RunContents) (ds : List DomainConfig) → map (λ (k : Course). k.dom) (map (first_course c) ds) ≡ map (λ (d : DomainConfig). d.id) ds
first-doms c [] = refl
first-doms c (d ∷ ds) = ap (λ (l : List DomId). d.id ∷ l) (first-doms c ds)

-- the list of the domain at a place
list-there : (c : RunContents) (scene : SearchContext) (at : ℕ) (d : DomainConfig) → IsSceneOf c scene → slice_get c.head.domains at ≡ Some d → tasks_at scene at ≡ list_of c.tasks d.id
list-there c scene at d is there = ap (λ (ls : List (List RunTask)). get_or ls at []) is.lists
    ∙ get_or_from_slice_get (map (λ (e : DomainConfig). list_of c.tasks e.id) c.head.domains) at (list_of c.tasks d.id) []
    (slice_get-map (λ (e : DomainConfig). list_of c.tasks e.id) c.head.domains at ∙ ap (option_map (λ (e : DomainConfig). list_of c.tasks e.id)) there)

shows-first : (s : Setting) (c : RunContents) (tasks : List RunTask) (d : DomainConfig) (a : Actor) → IsFirstActor a → tasks ≡ list_of c.tasks d.id → ShowsCalls s [] tasks (first_course c d) a
unfolding gather live maps_answered_at open_call
shows-first s c tasks d a first list = record {
  left = sym list ∙ ap (λ (n : ℕ). drop n tasks) (sym first.next);
  begun = let e = first.next in omega (arith, e);
  few = let e = first.next in omega (arith, e);
  rising = omega arith;
  pins = ap mapping_pins first.mappings;
  labels = λ at handle given label here there. absurd (none-some handle here);
  opens = subst (λ (o : Option ActorCall). ShowsOpen s [] tasks (first_course c d) a.next resting None o) (sym first.open_call) refl;
}

pub none-raised : (told : List Bool) (n : ℕ) → told ≡ replicate n false → (flag : ℕ) → slice_get told flag ≡ Some true → ⊥
none-raised told n are flag is = none n flag (ap (λ (l : List Bool). slice_get l flag) (sym are) ∙ is) where
  none : (n flag : ℕ) → slice_get (replicate n false) flag ≡ Some true → ⊥
  none zero flag is = absurd (none-some true is)
  none (suc n) zero is = absurd (false≢true (same_Some false true is))
  none (suc n) (suc flag) is = none n flag is

no-place : (at : ℕ) → at < 0 → ⊥
no-place at lt = absurd (omega arith)

pub scene-starts : (c : RunContents) (scene : SearchContext) → IsSceneOf c scene → IsLikeReached (setting_of_script c.head) []
scene-starts c scene is = subst (λ (s : Setting). IsLikeReached s []) same (like-starts scene.roster (may_in c.head) is.limits) where
  same : setting_of scene.roster (may_in c.head) ≡ setting_of_script c.head
  same = ap (λ (ds : List DomainConfig). record { domains = ds; first_generation = scene.roster.first_gen; may = may_in c.head }) is.setting.domains
      ∙ ap (λ (n : ℕ). record { domains = c.head.domains; first_generation = n; may = may_in c.head }) is.setting.first

pub first-shows : (c : RunContents) (scene : SearchContext) (w : SearchState) → length w.actors.items ≡ length scene.roster.domains.items → All IsFirstActor w.actors.items
    → ((config : Config) (s : Setting) → IsSettingOf config s → IsWithinLimits config → config.domains.items ≡ scene.roster.domains.items → TablesShow s [] w.ground.tables.items)
    → PagesShow [] w.ground.pages.items → length w.told.items ≡ scene.flags → ((flag : ℕ) → slice_get w.told.items flag ≡ Some true → ⊥) → IsSceneOf c scene → SceneShows c scene [] (first_courses c) w
first-shows c scene w many first tables pages told none is = record {
  domains = first-doms c c.head.domains;
  many = many ∙ ap (λ (ds : List DomainConfig). length ds) is.setting.domains ∙ sym (length-map c.head.domains (first_course c));
  each = λ at k a here there.
      let d = mapped_back (first_course c) (slice_get c.head.domains at) k (sym (slice_get-map (first_course c) c.head.domains at) ∙ here) in
      let begins = subst IsFirstActor (get_or_from_slice_get w.actors.items at a a there) (first at a (slice_get_within w.actors.items at a there)) in
      subst (λ (j : Course). ShowsCalls (setting_of_script c.head) [] (tasks_at scene at) j a) d.2 (shows-first (setting_of_script c.head) c (tasks_at scene at) d.0 a begins (list-there c scene at d.0 is d.1));
  answered = λ at k here.
      let d = mapped_back (first_course c) (slice_get c.head.domains at) k (sym (slice_get-map (first_course c) c.head.domains at) ∙ here) in
      subst (WasAnsweredAll []) d.2 (record { named = tt; held = tt });
  tables = tables scene.roster (setting_of_script c.head) is.setting is.limits refl;
  pages = pages;
  like = scene-starts c scene is;
  asked = tt;
  flags = told ∙ is.flags;
  told = λ flag before. absurd (no-place before.0 before.2);
  heard = λ flag is. absurd (none flag is);
}

-- as the space asks it
pub first-shown : (scene : SearchContext) (w : SearchState) → ((c : RunContents) → IsSceneOf c scene → SceneShows c scene [] (first_courses c) w) → ShowsFirst (scene_ways scene) w
first-shown scene w shows p begins = (
  begins.scene_is,
  subst (λ (ks : List Course). SceneShows p.script scene p.happened ks w) (sym begins.courses)
      (subst (λ (hs : List Happening). SceneShows p.script scene hs (first_courses p.script) w) (sym begins.happened) (shows p.script begins.scene_is)),
)
