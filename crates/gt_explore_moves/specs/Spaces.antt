-- A context as a space of gt_explore_search: its points are those of runs of its script, and its states show them.
use Rattle.std.specs.Prelude.{◌≡◌, ◌++◌, ℕ, zero, suc, List, [], ◌∷◌, length, map, Some, refl, slice_get, slice_set}
use mathlib.Core.Path.{ap, ◌∙◌}
use Rattle.gt_types.specs.declared.config.DomainConfig.{DomainConfig}
use Rattle.gt_script_runs.specs.Playing.{setting_of_script}
use Rattle.gt_explore_replay.specs.Abreast.{CanComeNext}
use Rattle.gt_explore_replay.specs.Courses.{AllCoursesEnd, Course, CourseLeads, first_courses}
use Rattle.gt_explore_replay.specs.Orders.{Happening, MayGive}
use Rattle.gt_explore_search.specs.declared.spaces.Turn.{Turn}
use Rattle.gt_script.specs.Contents.{type_names}
use Rattle.gt_script.specs.RunContents.{RunContents}
use Rattle.gt_explore_moves.specs.Scenes.{IsSceneOf, SceneShows}
use Rattle.gt_explore_moves.specs.declared.scene.SearchContext.{SearchContext}
use Rattle.gt_explore_moves.specs.declared.scene.SearchState.{SearchState}
use Rattle.gt_explore_search.specs.Ways.{Ways}
use Rattle.gt_explore_search.specs.declared.exploring.SearchResult.{SearchResult}
use Rattle.gt_explore_search.specs.declared.exploring.FoundText.{FoundText}

-- the point of a run of a script: what has happened, and the points of its domains' courses
pub record Point : Type 0 where
  pub script : RunContents
  pub happened : List Happening
  pub courses : List Course

-- a run of the context's script begins: nothing has happened, and the domains are before the first lines of their lists
pub record BeginsAt (scene : SearchContext) (p : Point) : Type 0 where
  pub scene_is : IsSceneOf p.script scene
  pub happened : p.happened ≡ []
  pub courses : p.courses ≡ first_courses p.script

-- by this turn a run moves from here to there: the domain at its position moves with its choice, by a happening that
-- may come next
pub record RunComesTo (p : Point) (turn : Turn) (q : Point) : Type 0 where
  pub script : q.script ≡ p.script
  pub k : Course
  pub j : Course
  pub x : Happening
  pub there : slice_get p.courses turn.place ≡ Some k
  pub leads : CourseLeads (type_names p.script.head) k turn.choice x j
  pub next : CanComeNext (setting_of_script p.script.head) p.happened x
  pub happened : q.happened ≡ p.happened ++ x ∷ []
  pub courses : q.courses ≡ slice_set p.courses turn.place j

-- what the domain at this position has printed
abbrev pub printed_by : List Course → ℕ → List ℕ
printed_by [] at = []
printed_by (k ∷ ks) zero = k.text
printed_by (k ∷ ks) (suc at) = printed_by ks at

-- before the first lines of their lists they have printed nothing
first_blank : (c : RunContents) (make : DomainConfig → Course) → ((d : DomainConfig) → (make d).text ≡ [])
    → (ds : List DomainConfig) (at : ℕ) → printed_by (map make ds) at ≡ []
first_blank c make none [] at = refl
first_blank c make none (d ∷ ds) zero = none d
first_blank c make none (d ∷ ds) (suc at) = first_blank c make none ds at

pub begins_blank : (scene : SearchContext) (p : Point) → BeginsAt scene p → (at : ℕ) → printed_by p.courses at ≡ []
begins_blank scene p begins at =
    ap (λ ks. printed_by ks at) begins.courses ∙ first_blank p.script _ (λ d. refl) p.script.head.domains at

-- the runs of a context
abbrev pub scene_ways : SearchContext → Ways SearchState
scene_ways scene = record {
  Point = Point;
  domains = length scene.roster.domains.items;
  begins = BeginsAt scene;
  next = RunComesTo;
  ends = λ p. AllCoursesEnd p.courses;
  printed = λ p. printed_by p.courses;
  shows = λ w p. IsSceneOf p.script scene × SceneShows p.script scene p.happened p.courses w;
  blank = begins_blank scene;
}

-- for each text that the script may give an order with this text was found
abbrev pub FindsAll : RunContents → SearchResult → Type 0
FindsAll c found =
    (text : List ℕ) → MayGive c text
    → (at : ℕ) × (o : FoundText) × (slice_get found.orders.items at ≡ Some o) × (o.text.items ≡ text)
