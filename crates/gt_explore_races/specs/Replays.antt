-- The runs of a script on the core, up to a race.
use Rattle.std.specs.Prelude.{◌≡◌, ◌++◌, ℕ, List, [], ◌∷◌, Option, Some, slice_get}
use Rattle.gt_explore_replay.specs.Orders.{Happening, IsOrderOf}
use Rattle.gt_explore_replay.specs.Walking.{HasWalked}
use Rattle.gt_explore_replay.specs.declared.replay.Replay.{Replay}
use Rattle.gt_model.specs.declared.action.Observation.{Observation}
use Rattle.gt_model.specs.declared.action.Step.{Step}
use Rattle.gt_model.specs.declared.trace.Answer.{Answer}
use Rattle.gt_script.specs.RunContents.{RunContents}
use Rattle.gt_types.specs.declared.config.DomainConfig.{DomainConfig}
use Rattle.gt_explore_races.specs.Accesses.{Conflict}
use Rattle.gt_explore_races.specs.Paths.{event_kinds_in}
use Rattle.gt_explore_races.specs.Races.{step_by, tasks_begun}
use Rattle.gt_explore_races.specs.declared.replaying.Approach.{Approach}

-- an order of the script's run begins with this
abbrev pub BeginsOrder : RunContents → List Happening → Type 0
BeginsOrder c hs = (after : List Happening) × (text : List ℕ) × IsOrderOf c (hs ++ after) text

-- the domain at this position has begun this number of tasks
abbrev pub HasBegun : RunContents → List Happening → ℕ → ℕ → Type 0
HasBegun c hs place n = (d : DomainConfig) → slice_get c.head.domains place ≡ Some d → n ≡ tasks_begun d.id hs

-- the run has come by these events to a point at which the domains at two positions have begun these numbers of tasks
pub record HasApproached (c : RunContents) (one other : ℕ) (a : Approach) : Type 0 where
  pub happened : List Happening
  pub walked : HasWalked c happened a.run
  pub events : a.events.items ≡ event_kinds_in happened
  pub first : HasBegun c happened one a.first_begun
  pub second : HasBegun c happened other a.second_begun

-- the domain at this position has made this step
pub record HasMade (c : RunContents) (hs : List Happening) (place : ℕ) (y : Step) (r : Replay) : Type 0 where
  pub domain : DomainConfig
  pub there : slice_get c.head.domains place ≡ Some domain
  pub seen : Observation
  pub answer : Option Answer
  pub walked : HasWalked c (hs ++ step_by domain.id y seen answer ∷ []) r

-- the domains at two positions can make conflicting steps next, one directly after the other, in an order that begins
-- so
pub record ConflictNext (c : RunContents) (hs : List Happening) (one other : ℕ) : Type 0 where
  pub domain : DomainConfig
  pub there : slice_get c.head.domains one ≡ Some domain
  pub first : Step
  pub seen : Observation
  pub answer : Option Answer
  pub domain_next : DomainConfig
  pub there_next : slice_get c.head.domains other ≡ Some domain_next
  pub second : Step
  pub seen_next : Observation
  pub answer_next : Option Answer
  pub conflict : Conflict first second
  pub begins : BeginsOrder c
      ((hs ++ step_by domain.id first seen answer ∷ []) ++ step_by domain_next.id second seen_next answer_next ∷ [])
