-- The way of a run to a race, as events of the core.
use Rattle.std.specs.Prelude.{◌≡◌, ◌++◌, List, [], ◌∷◌, map}
use Rattle.gt_explore_replay.specs.Abreast.{history_in}
use Rattle.gt_explore_replay.specs.Orders.{Happening, events_in}
use Rattle.gt_model.specs.declared.trace.Event.{Event}
use Rattle.gt_model.specs.declared.trace.Event.TheVariants.{Begin, Tick}
use Rattle.gt_script.specs.RunContents.{RunContents}
use Rattle.gt_script_runs.specs.Playing.{setting_of_script}
use Rattle.gt_explore_races.specs.Races.{IsRaceOf, MakesNext}
use Rattle.gt_explore_races.specs.declared.events.EventKind.{EventKind}
use Rattle.gt_explore_races.specs.declared.events.EventKind.TheVariants as event_kinds
use Rattle.gt_explore_races.specs.declared.racing.Race.{Race}

-- an event of the core, without the request of a call
abbrev pub event_kind : Event → EventKind
event_kind (Begin dom request) = event_kinds.Begin dom
event_kind (Tick dom) = event_kinds.Tick dom

-- the events of what has happened
abbrev pub event_kinds_in : List Happening → List EventKind
event_kinds_in hs = map event_kind (events_in hs)

-- These are the events of the beginning of an order, up to a race, and then its two accesses: that of the call of the
-- smaller line, and that of the other call. Before them each of the two is the next step of its domain.
pub record LeadsToRace (c : RunContents) (r : Race) (events : List EventKind) : Type 0 where
  pub race : IsRaceOf c r.first r.second
  pub made : events
      ≡ event_kinds_in race.before ++ event_kinds.Tick race.one ∷ event_kinds.Tick race.other ∷ []
  pub first_next : MakesNext (setting_of_script c.head) (history_in race.before) race.one race.first
  pub second_next : MakesNext (setting_of_script c.head) (history_in race.before) race.other race.second
