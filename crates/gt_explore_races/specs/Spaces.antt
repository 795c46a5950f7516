-- The runs of a script, each of which may end where the next steps of two domains conflict.
use Rattle.std.specs.Prelude.{◌≡◌, ◌≢◌, ◌⊎◌, ◌<◌, ℕ, suc, true, List, [], length, Option, Some, None, slice_get}
use mathlib.Core.Path.{ap}
use Rattle.gt_explore_moves.specs.Spaces.{BeginsAt, Point, RunComesTo, scene_ways}
use Rattle.gt_explore_moves.specs.Touches.{is_access_step}
use Rattle.gt_explore_moves.specs.declared.scene.SearchContext.{SearchContext}
use Rattle.gt_explore_moves.specs.declared.scene.SearchState.{SearchState}
use Rattle.gt_explore_replay.specs.Abreast.{history_in}
use Rattle.gt_explore_replay.specs.Courses.{Course, Opened, calling}
use Rattle.gt_explore_search.specs.Ways.{Ways, only_at}
use Rattle.gt_explore_search.specs.declared.spaces.Turn.{Turn}
use Rattle.gt_explore_search.specs.declared.spaces.TurnResult.{TurnResult}
use Rattle.gt_explore_search.specs.declared.spaces.TurnResult.TheVariants.{Answered, Nowhere, On}
use Rattle.gt_model.specs.declared.action.Step.{Step}
use Rattle.gt_script_runs.specs.Playing.{setting_of_script}
use Rattle.gt_explore_races.specs.Accesses.{Conflict}
use Rattle.gt_explore_races.specs.Races.{MakesNext}
use Rattle.gt_explore_races.specs.Texts.{race_of, race_text}

-- the call of this line is open
abbrev pub IsCallingLine : Opened → ℕ → Type 0
IsCallingLine (calling line call lost) n = line ≡ n
IsCallingLine opened n = ⊥

-- the call of this line, of the domain at this position, makes this access next
pub record IsToAccess (p : Point) (at line : ℕ) (y : Step) : Type 0 where
  pub course : Course
  pub there : slice_get p.courses at ≡ Some course
  pub calls : IsCallingLine course.opened line
  pub next : MakesNext (setting_of_script p.script.head) (history_in p.happened) course.dom y
  pub access : is_access_step y ≡ true

-- the next steps of the domains at these two positions conflict, by the calls of these lines
pub record AreToRace (p : Point) (one other k l : ℕ) : Type 0 where
  pub first : Step
  pub second : Step
  pub first_next : IsToAccess p one k first
  pub second_next : IsToAccess p other l second
  pub conflict : Conflict first second

-- the point of a run, and what the domain at some position has printed if the run ended at a race
pub record RacePoint : Type 0 where
  pub run : Point
  pub said : Option (ℕ × List ℕ)

-- the run ends at a race of the domain at the turn's position and a later one
pub record EndsAtRace (p : RacePoint) (turn : Turn) (q : RacePoint) : Type 0 where
  pub other : ℕ
  pub k : ℕ
  pub l : ℕ
  pub choice : turn.choice ≡ suc other
  pub later : turn.place < other
  pub race : AreToRace p.run turn.place other k l
  pub said : q.said ≡ Some (turn.place, race_text (race_of k l))

-- what the domain at this position has printed
abbrev pub said_by : Option (ℕ × List ℕ) → ℕ → List ℕ
said_by None = λ at. []
said_by (Some s) = only_at s.0 s.1

-- the state shows a run of the script; of a run that ended at a race any state shows all that is left
abbrev pub ShowsRun : SearchContext → SearchState → Point → Option (ℕ × List ℕ) → Type 0
ShowsRun scene w run None = (scene_ways scene).shows w run
ShowsRun scene w run (Some s) = Unit {0}

-- the runs of a context, which end at races and print them
abbrev pub race_ways : SearchContext → Ways SearchState
race_ways scene = record {
  Point = RacePoint;
  domains = length scene.roster.domains.items;
  begins = λ p. BeginsAt scene p.run × (p.said ≡ None);
  next = λ p turn q. (p.said ≡ None)
      × ((RunComesTo p.run turn q.run × (q.said ≡ None)) ⊎ EndsAtRace p turn q);
  ends = λ p. p.said ≢ None;
  printed = λ p. said_by p.said;
  shows = λ w p. ShowsRun scene w p.run p.said;
  blank = λ p begins at. ap (λ said. said_by said at) begins.1;
}

-- the result of a turn, without what it printed
abbrev pub quieted : TurnResult → TurnResult
quieted Nowhere = Nowhere
quieted On = On
quieted (Answered line) = On

-- a turn that ends a run at a race of the domains at these positions is among these, if they can race
abbrev pub HasRaceAt : SearchContext → SearchState → ℕ → ℕ → List Turn → Type 0
HasRaceAt scene w one other turns =
    (p : Point) (k l : ℕ) → (scene_ways scene).shows w p → AreToRace p one other k l
    → (at : ℕ) × (slice_get turns at ≡ Some (record { place = one; choice = suc other }))

-- the same for one domain and each at a later position below this bound
abbrev pub HasRacesOf : SearchContext → SearchState → ℕ → ℕ → List Turn → Type 0
HasRacesOf scene w one bound turns = (other : ℕ) → one < other → other < bound → HasRaceAt scene w one other turns

-- the same for each domain at a position below this bound
abbrev pub HasRacesBelow : SearchContext → SearchState → ℕ → List Turn → Type 0
HasRacesBelow scene w bound turns =
    (one : ℕ) → one < bound → HasRacesOf scene w one (length w.actors.items) turns
