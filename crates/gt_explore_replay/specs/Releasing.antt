-- A domain at the end of its list keeps no mapping: a release is refused only if there is none.
use Rattle.std.specs.Prelude.{◌≡◌, ◌≢◌, Some, None}
use Rattle.gt_model.specs.declared.action.Observation.{Observation}
use Rattle.gt_model.specs.declared.action.Step.{Step}
use Rattle.gt_model.specs.History.{History, Setting, Underway, mapping_of, mappings_at, open_call}
use Rattle.gt_model.specs.Legal.{IsRight}
use Rattle.gt_model.specs.declared.trace.Item.{Item}
use Rattle.gt_model.specs.declared.trace.ItemEvent.TheVariants.{Began, Stepped}
use Rattle.gt_explore_replay.specs.Prelude.{Done, Handle, Release}
use Rattle.gt_model.specs.declared.request.OpenRequest.TheVariants as asks

-- a release that is answered at its beginning is of a handle under which its domain has no mapping
abbrev pub RefusedWithoutMapping : Type 0
RefusedWithoutMapping =
    (s : Setting) (h : History) (i : Item) (handle : Handle) → IsRight s h i → i.happened ≡ Began (Release handle)
    → i.answer ≢ None → mapping_of (mappings_at h i.actor.0) handle ≡ None

-- a release that is open is answered Ok by its first step
abbrev pub OpenReleasesAreOk : Type 0
OpenReleasesAreOk =
    (s : Setting) (h : History) (i : Item) (step : Step) (seen : Observation) (c : Underway) (handle : Handle)
    → IsRight s h i → i.happened ≡ Stepped step seen → open_call h i.actor.0 ≡ Some c
    → c.request ≡ asks.Release handle → i.answer ≡ Some Done

-- the release of a mapping is answered Ok
abbrev pub ReleasesAreOk : Type 0
ReleasesAreOk = RefusedWithoutMapping × OpenReleasesAreOk
