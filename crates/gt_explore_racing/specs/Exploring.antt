-- What `explore --races` writes for a script, by the result.
use Rattle.std.specs.Prelude.{◌≡◌, ◌≤◌, ◌+◌, ℕ, Bool, true, false, List, length, Option, Some, Result, Ok, Err}
use Rattle.std.specs.Prelude.{slice_get}
use Rattle.std.specs.Io.KnownBytes.{Appends, Keeps}
use Rattle.gt_explore_faults.specs.declared.fault.ExploreFault.{ExploreFault}
use Rattle.gt_explore_faults.specs.declared.fault.ExploreFault.TheVariants.{Number, Play, Term, Text, Texts, Unfound}
use Rattle.gt_explore_races.specs.Races.{AreRacesOf}
use Rattle.gt_explore_races.specs.declared.racing.Race.{Race}
use Rattle.gt_explore_verdict.specs.declared.judging.Verdict.{Verdict}
use Rattle.gt_policy.specs.declared.fault.TokenFault as policy
use Rattle.gt_explore_racing.specs.Showing.{ShowsRaceAfter}
use Rattle.gt_script.specs.Blocks.{block_fault_shown}
use Rattle.gt_script.specs.RunContents.{RunContents}
use Rattle.gt_script.specs.Script.{Wrong, in_script, in_policy}
use Rattle.gt_script_runs.specs.declared.fault.PlayFault.TheVariants.{Memory, Read, Write, Script, Policy}
use Rattle.gt_text.specs.Streams.{AppendsBeginning}
use Rattle.gt_explore_racing.specs.Outputs.{has_its_race, race_comment, race_verdict, races_text}
use Rattle.gt_explore_racing.specs.declared.asking.RaceOptions.{RaceOptions}
use Rattle.gt_explore_racing.specs.declared.asking.RaceRequest.{RaceRequest}
use Rattle.gt_explore_racing.specs.declared.asking.RaceRequest.TheVariants as race_requests
use Rattle.gt_explore_racing.specs.declared.exploring.RaceAnswer.{RaceAnswer}

-- a script for `play` that shows the race of this number among these, of which the first has the number 1; or the line
-- in its place
abbrev pub IsRaceScript : RunContents → ℕ → List Race → Bool → ℕ → List ℕ → Type 0
IsRaceScript c number races whole states text =
    (at : ℕ) × (race : Race) × (number ≡ at + 1) × (slice_get races at ≡ Some race)
    × ShowsRaceAfter c race (race_comment race number (length races) whole states) text

-- the output for these races, by the request
abbrev pub IsRaceOutput : RunContents → RaceRequest → List Race → Bool → ℕ → List ℕ → Type 0
IsRaceOutput c race_requests.Lines races whole states text = text ≡ races_text races whole states
IsRaceOutput c (race_requests.Witness number) races whole states text = IsRaceScript c number races whole states text

-- the races that a search found, the output for them and the verdict on the claim that nothing races
pub record IsRaceAnswer (c : RunContents) (asked : RaceOptions) (verdict : Verdict) (text : List ℕ) : Type 0 where
  pub races : List Race
  pub whole : Bool
  pub states : ℕ
  pub are : AreRacesOf c whole races
  pub few : states ≤ asked.states
  pub judged : verdict ≡ race_verdict races whole
  pub shown : IsRaceOutput c asked.request races whole states text

-- the request names a race by a number that none of these has: all races of the script, or those found before the
-- search stopped
pub record LacksRace (c : RunContents) (asked : RaceOptions) (all : Bool) : Type 0 where
  pub races : List Race
  pub are : AreRacesOf c all races
  pub lacks : has_its_race asked.request (length races) ≡ false

-- the answer for a script; or no race has the number that is asked for; or the search failed
abbrev pub MakesRaces : RunContents → RaceOptions → Result RaceAnswer ExploreFault → Type 0
MakesRaces c asked (Ok made) = IsRaceAnswer c asked made.verdict made.text.items
MakesRaces c asked (Err Number) = LacksRace c asked true
MakesRaces c asked (Err Unfound) = LacksRace c asked false
MakesRaces c asked (Err (Texts fault)) = Unit {0}
MakesRaces c asked (Err (Play fault)) = ⊥
MakesRaces c asked (Err (Term number fault)) = ⊥
MakesRaces c asked (Err (Text line fault)) = ⊥

-- what was written for a script, by the result
abbrev pub RacesWritten : RunContents → RaceOptions → Option (List ℕ) → Option (List ℕ) → Result Verdict ExploreFault
    → Type 0
RacesWritten c asked old new (Ok verdict) = (text : List ℕ) × IsRaceAnswer c asked verdict text × Appends old new text
RacesWritten c asked old new (Err Number) = LacksRace c asked true × Keeps old new
RacesWritten c asked old new (Err Unfound) = LacksRace c asked false × Keeps old new
RacesWritten c asked old new (Err (Texts fault)) = Keeps old new
RacesWritten c asked old new (Err (Play Write)) =
    (text : List ℕ) × (verdict : Verdict) × IsRaceAnswer c asked verdict text × AppendsBeginning old new text
RacesWritten c asked old new (Err (Play Memory)) = ⊥
RacesWritten c asked old new (Err (Play Read)) = ⊥
RacesWritten c asked old new (Err (Play (Script fault))) = ⊥
RacesWritten c asked old new (Err (Play (Policy fault))) = ⊥
RacesWritten c asked old new (Err (Term number fault)) = ⊥
RacesWritten c asked old new (Err (Text line fault)) = ⊥

-- what was written for bytes that mean this: at Ok a whole answer, after a failed write a prefix of one, and otherwise
-- nothing; a fault of the script is its first, and any other is of a script without a fault
abbrev pub RacesExplored : RaceOptions → (Result RunContents Wrong → Type 0) → Option (List ℕ) → Option (List ℕ)
    → Result Verdict ExploreFault → Type 0
RacesExplored asked Told old new (Ok verdict) =
    (c : RunContents) × Told (Ok c) × RacesWritten c asked old new (Ok verdict)
RacesExplored asked Told old new (Err Number) =
    (c : RunContents) × Told (Ok c) × RacesWritten c asked old new (Err Number)
RacesExplored asked Told old new (Err Unfound) =
    (c : RunContents) × Told (Ok c) × RacesWritten c asked old new (Err Unfound)
RacesExplored asked Told old new (Err (Texts fault)) =
    (c : RunContents) × Told (Ok c) × RacesWritten c asked old new (Err (Texts fault))
RacesExplored asked Told old new (Err (Play Write)) =
    (c : RunContents) × Told (Ok c) × RacesWritten c asked old new (Err (Play Write))
RacesExplored asked Told old new (Err (Play Memory)) = Keeps old new
RacesExplored asked Told old new (Err (Play Read)) = Keeps old new
RacesExplored asked Told old new (Err (Play (Script fault))) = Told (Err (in_script fault)) × Keeps old new
RacesExplored asked Told old new (Err (Play (Policy fault))) =
    (g : policy.TokenFault) × (block_fault_shown fault ≡ Some g) × Told (Err (in_policy g)) × Keeps old new
RacesExplored asked Told old new (Err (Term number fault)) = ⊥
RacesExplored asked Told old new (Err (Text line fault)) = ⊥
