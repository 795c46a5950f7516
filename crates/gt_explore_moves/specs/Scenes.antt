-- When a state of a search shows a run of a script at some point.
use Rattle.std.specs.Prelude.{◌≡◌, ◌++◌, ℕ, true, List, [], ◌∷◌, length, map, Some, slice_get, slice_set, All}
use Rattle.gt_explore_moves.specs.Prelude.{IsWithinLimits, History, setting_of_script, may_by, may_in, CanComeNext}
use Rattle.gt_explore_moves.specs.Prelude.{HaveAnswered, WereAnswered, history_in, Course, CourseLeads, Happening}
use Rattle.gt_explore_moves.specs.Prelude.{IsRaisedBefore, type_names, RunContents, list_of, AreNumbered, TurnResult, IsLikeReached}
use Rattle.gt_explore_moves.specs.Prelude.{IsSettingOf, PagesShow, TablesShow}
use Rattle.gt_explore_moves.specs.Calls.{ShowsCalls}
use Rattle.gt_explore_moves.specs.Ends.{tasks_at}
use Rattle.gt_explore_moves.specs.Starting.{Grows}
use Rattle.gt_explore_moves.specs.Granting.{AllOfScript, IsListed}
use Rattle.gt_explore_moves.specs.declared.actor.Actor.{Actor}
use Rattle.gt_explore_moves.specs.declared.scene.SearchContext.{SearchContext}
use Rattle.gt_explore_moves.specs.declared.scene.SearchState.{SearchState}

-- the common data of all states is that of this script
pub record IsSceneOf (c : RunContents) (scene : SearchContext) : Type 0 where
  pub setting : IsSettingOf scene.roster (setting_of_script c.head)
  pub limits : IsWithinLimits scene.roster
  pub may : may_by scene.rights ≡ may_in c.head
  pub types : scene.types.items ≡ type_names c.head
  pub lists : map (λ list. map (λ t. t.now) list.items) scene.lists.items
      ≡ map (λ d. list_of c.tasks d.id) c.head.domains
  pub flags : scene.flags ≡ c.flags
  pub numbered : AreNumbered c.flags c.tasks
  pub grants : All (IsListed scene.grants.items) c.tasks

-- the domain of a course was given each handle that its labels name, and each that it has
pub record WasAnsweredAll (h : History) (k : Course) : Type 0 where
  pub named : HaveAnswered h k.named
  pub held : WereAnswered h k.dom.0 k.held

-- the state shows a run of the script with this history, with its domains at these points of their courses
pub record SceneShows (c : RunContents) (scene : SearchContext) (hs : List Happening) (ks : List Course) (w : SearchState) : Type 0 where
  pub domains : map (λ k. k.dom) ks ≡ map (λ d. d.id) c.head.domains
  pub many : length w.actors.items ≡ length ks
  pub each : (at : ℕ) (k : Course) (a : Actor) → slice_get ks at ≡ Some k → slice_get w.actors.items at ≡ Some a
      → ShowsCalls (setting_of_script c.head) (history_in hs) (tasks_at scene at) k a
  pub answered : (at : ℕ) (k : Course) → slice_get ks at ≡ Some k → WasAnsweredAll (history_in hs) k
  pub tables : TablesShow (setting_of_script c.head) (history_in hs) w.ground.tables.items
  pub pages : PagesShow (history_in hs) w.ground.pages.items
  pub like : IsLikeReached (setting_of_script c.head) (history_in hs)
  pub asked : AllOfScript (setting_of_script c.head) scene.grants.items (history_in hs)
  pub flags : length w.told.items ≡ c.flags
  pub told : (flag : ℕ) → IsRaisedBefore (length hs) flag hs → slice_get w.told.items flag ≡ Some true
  pub heard : (flag : ℕ) → slice_get w.told.items flag ≡ Some true → IsRaisedBefore (length hs) flag hs

-- if the domain at this position moves with this choice in a run that the state shows, its move prints what its
-- course's text grows by, and the new state shows the run at its new point
abbrev pub MovesAlong : SearchContext → ℕ → ℕ → SearchState → TurnResult → SearchState → Type 0
MovesAlong scene place choice old led new =
    (c : RunContents) (hs : List Happening) (ks : List Course) (k j : Course) (x : Happening)
    → IsSceneOf c scene → SceneShows c scene hs ks old → slice_get ks place ≡ Some k
    → CourseLeads (type_names c.head) k choice x j → CanComeNext (setting_of_script c.head) hs x
    → Grows led k.text j.text × SceneShows c scene (hs ++ x ∷ []) (slice_set ks place j) new
