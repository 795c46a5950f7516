-- The lines of an answer.
use Rattle.std.specs.Prelude.{◌++◌, ◌==◌, ◌&&◌, ℕ, Bool, true, List, [], ◌∷◌, length, codes, decimal, if◌then◌else◌}
use Rattle.std.specs.Prelude.{nat_le, nat_lt}
use Rattle.gt_explore_races.specs.declared.racing.Race.{Race}
use Rattle.gt_explore_verdict.specs.declared.judging.Verdict.{Verdict}
use Rattle.gt_explore_verdict.specs.declared.judging.Verdict.TheVariants.{Fails, Holds, Undecided}
use Rattle.gt_explore_racing.specs.declared.asking.RaceRequest.{RaceRequest}
use Rattle.gt_explore_racing.specs.declared.asking.RaceRequest.TheVariants as race_requests

-- the lines of a race
abbrev pub race_name : Race → List ℕ
race_name race = codes "race " ++ decimal race.first ++ codes " " ++ decimal race.second

abbrev pub race_line : Race → List ℕ
race_line race = race_name race ++ codes "\n"

abbrev pub race_lines : List Race → List ℕ
race_lines [] = []
race_lines (race ∷ races) = race_line race ++ race_lines races

-- the line in place of races: there is none, or none was found and the search was not whole
abbrev pub no_race_line : Bool → List ℕ
no_race_line whole = if whole then codes "no race\n" else codes "not decided\n"

-- what comes after the number of states that the search met
abbrev pub met_end : Bool → List ℕ
met_end whole = if whole then codes "\n" else codes ": not all states; raise --states\n"

-- the number of states that the search met, and whether these are all
abbrev pub met_line : Bool → ℕ → List ℕ
met_line whole states = codes "states " ++ decimal states ++ met_end whole

-- the answer for these races, which are all if the search was whole
abbrev pub races_text : List Race → Bool → ℕ → List ℕ
races_text races whole states =
    (if length races == 0 then no_race_line whole else race_lines races) ++ met_line whole states

-- the verdict on the claim that there is no race
abbrev pub race_verdict : List Race → Bool → Verdict
race_verdict races whole = if length races == 0 then (if whole then Holds else Undecided) else Fails

-- the words between the number of a race and that of all races that were found
abbrev pub of_races : Bool → List ℕ
of_races whole = if whole then codes " of " else codes " of at least "

-- the number of a race, and that of all races that were found
abbrev pub race_number : ℕ → ℕ → Bool → List ℕ
race_number number count whole = codes ": " ++ decimal number ++ of_races whole ++ decimal count ++ codes "\n# "

-- the comment over a script that shows the race of this number
abbrev pub race_comment : Race → ℕ → ℕ → Bool → ℕ → List ℕ
race_comment race number count whole states =
    codes "# " ++ race_name race ++ race_number number count whole ++ met_line whole states

-- one of this number of races has the number that a request names; a request that names none has what it needs
abbrev pub has_its_race : RaceRequest → ℕ → Bool
has_its_race race_requests.Lines count = true
has_its_race (race_requests.Witness number) count = nat_lt 0 number && nat_le number count
