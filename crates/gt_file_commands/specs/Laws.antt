-- Laws of what is done with named texts.
use Rattle.std.specs.Prelude.{◌≡◌, ℕ, List, Option, None, Some, Err, IfSome}
use Rattle.std.proofs.Common.{refl, subst, inl, inr}
use Rattle.gt_file_commands.specs.Prelude.{Keeps, Outcome, Unknown}
use Rattle.gt_file_commands.specs.Working.{OutputEffect, DoesOnFile, Doing, Ending, OrNothing, WithFile, Works}
use Rattle.gt_file_commands.specs.Working.{outcome_of_command}
use Rattle.gt_file_commands.specs.declared.failure.Failure.TheVariants as failures

-- it was done
pub worked : (P : Doing) (failed : Outcome) (name known old new : Option (List ℕ)) (r : Ending) (outcome : Outcome) → IfSome known (λ bytes. DoesOnFile P name bytes old new r) → outcome ≡ outcome_of_command failed r
    → Works P failed name known old new outcome
worked P failed name None old new r outcome does is = tt
worked P failed name (Some bytes) old new r outcome does is = (r, is, inl does)

pub nothing_without_memory : (P : Doing) (failed : Outcome) (name known old new : Option (List ℕ)) (outcome : Outcome) → outcome ≡ failed → Keeps old new → Works P failed name known old new outcome
nothing_without_memory P failed name None old new outcome is kept = tt
nothing_without_memory P failed name (Some bytes) old new outcome is kept = (Err failures.Memory, is, inr (refl, kept))

-- something was done with a further text
pub with_text : (known : Option (List ℕ)) (D : List ℕ → OutputEffect) (bytes : List ℕ) (old new : Option (List ℕ)) (outcome : Outcome) → IfSome known (λ all. bytes ≡ all) → OrNothing (D bytes) old new outcome → WithFile known D old new outcome
with_text None D bytes old new outcome is done = tt
with_text (Some all) D bytes old new outcome is done = subst (λ (b : List ℕ). OrNothing (D b) old new outcome) is done

-- nothing was done with a further text
pub nothing_done : (known : Option (List ℕ)) (D : List ℕ → OutputEffect) (old new : Option (List ℕ)) (outcome : Outcome) → outcome ≡ Unknown → Keeps old new → WithFile known D old new outcome
nothing_done None D old new outcome is kept = tt
nothing_done (Some bytes) D old new outcome is kept = inr (is, kept)
