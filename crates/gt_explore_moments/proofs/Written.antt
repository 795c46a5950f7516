-- What is written of a moment.
use Rattle.std.proofs.Common.{◌≡◌, ℕ, List, Err, IfOk, Ok, Result, subst, Vec, Global}
use Rattle.gt_script.specs.Contents.{Contents}
use Rattle.gt_state_claims.specs.Claims.{ClaimAsked}
use Rattle.gt_explore_moments.specs.Exploring.{IsMomentOutput}
use Rattle.gt_explore_moments.specs.Outputs.{moment_comment}
use Rattle.gt_moment_scripts.specs.Showing.{ShowsAfterComment}

-- the comment is that of the claim
pub commented_so : {E : Type 0} (c : Contents) (claim : ClaimAsked) (words : List ℕ) (states : ℕ) (comment : List ℕ) (r : Result (Vec ℕ Global) E) → comment ≡ moment_comment words states
    → IfOk r (λ text. ShowsAfterComment c claim comment text.items) → IfOk r (λ text. IsMomentOutput c claim words text.items)
commented_so c claim words states comment (Err fault) is wrote = tt
commented_so c claim words states comment (Ok text) is wrote =
    (states, subst (λ (x : List ℕ). ShowsAfterComment c claim x text.items) is wrote)
