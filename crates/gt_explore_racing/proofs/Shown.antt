-- A line in place of a script.
use Rattle.std.proofs.Common.{◌≡◌, ◌++◌, ℕ, List, Err, Global, IfOk, Ok, Result, Vec, inr}
use Rattle.gt_explore_races.specs.declared.racing.Race.{Race}
use Rattle.gt_moment_scripts.specs.Showing.{IsWithoutScript}
use Rattle.gt_script.specs.RunContents.{RunContents}
use Rattle.gt_explore_racing.specs.Showing.{ShowsRaceAfter}

-- a line was written in place of a script
pub unshown : {E : Type 0} (c : RunContents) (race : Race) (comment : List ℕ) (r : Result (Vec ℕ Global) E) → IfOk r (λ text. (lines : List ℕ) × (text.items ≡ comment ++ lines) × IsWithoutScript c.head lines)
    → IfOk r (λ text. ShowsRaceAfter c race comment text.items)
unshown c race comment (Err fault) wrote = tt
unshown c race comment (Ok text) (lines, is, without) = (lines, is, inr without)
