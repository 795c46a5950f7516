-- The effects of steps on pages. This is the code's own representation, and is here since contracts cite it.
use Rattle.std.specs.Prelude.{◌≡◌, ◌+◌, ◌≤◌, ℕ, List, take, drop}
use Rattle.gt_types.specs.declared.limits.TheConstants.{FRAME_SIZE}
use Rattle.gt_types.specs.declared.places.Spot.{Spot}
use Rattle.gt_model.specs.declared.action.Step.{Step}
use Rattle.gt_model.specs.declared.action.Step.TheVariants as call_steps
use Rattle.gt_explore_state.specs.Pages.{page_contents, WritesPage}
use Rattle.gt_explore_state.specs.declared.pages.SparsePage.{SparsePage}

-- the pages after a copy of this number of bytes
abbrev pub CopiesPage : List SparsePage → List SparsePage → Spot → Spot → ℕ → Type 0
CopiesPage old new from to len =
    WritesPage old new to.frame.owner.0 to.frame.number to.off
    (take len (drop from.off (page_contents old from.frame.owner.0 from.frame.number)))

-- the step's ranges are inside frames
abbrev pub IsInFrames : Step → Type 0
IsInFrames (call_steps.Write dom frame off len) = off + len ≤ FRAME_SIZE
IsInFrames (call_steps.Copy from to len) = (from.off + len ≤ FRAME_SIZE) × (to.off + len ≤ FRAME_SIZE)
IsInFrames step = Unit {0}

-- the pages after a step whose call was given these bytes
abbrev pub PagesAfter : Step → List ℕ → List SparsePage → List SparsePage → Type 0
PagesAfter (call_steps.Write dom frame off len) given old new = WritesPage old new dom.0 frame off given
PagesAfter (call_steps.Copy from to len) given old new = CopiesPage old new from to len
PagesAfter step given old new = new ≡ old
