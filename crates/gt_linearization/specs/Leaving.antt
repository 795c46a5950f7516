-- A domain that leaves releases its mappings.
use Rattle.std.specs.Prelude.{◌≡◌, List, [], ◌∷◌, None}
use Rattle.gt_types.specs.declared.config.Config.{Config}
use Rattle.gt_words.specs.Conditions.{Board}
use Rattle.gt_handles.specs.Handles.{value_of}
use Rattle.gt_model.specs.declared.handle.Handle.{Handle}
use Rattle.gt_model.specs.declared.action.CallResult.TheVariants.{Granted}
use Rattle.gt_model.specs.declared.request.Request.TheVariants as requests
use Rattle.gt_live.specs.Domains.{AllowRelation, HasLeft, IsDomainOf}
use Rattle.gt_live.specs.declared.domain.Domain.{Domain}
use Rattle.gt_live.specs.declared.domain.Departed.{Departed}
use Rattle.gt_linearization.specs.Runs.{AreDeeds, DomainAct, domain_after}
use Rattle.gt_linearization.specs.Runs.CallOutcome.{Judged}
use Rattle.gt_linearization.specs.Runs.DomainAct.{Call, Look, OnFlag}
use Rattle.gt_live.specs.Parts.{mappings_of, seat_left, seat_of}

-- each of these deeds is a release that is Ok
abbrev pub AreReleases : List DomainAct → Type 0
AreReleases [] = Unit {0}
AreReleases (Call m ∷ ms) =
    ((handle : Handle) × (m.request ≡ requests.Release handle) × (m.outcome ≡ Judged Granted)) × AreReleases ms
AreReleases (OnFlag x ∷ ms) = ⊥
AreReleases (Look x ∷ ms) = ⊥

-- leaving is exactly this: the steps are those of releases, one after another, each Ok, until no mapping is left. So a
-- run continues beyond a domain that leaves
abbrev pub LeavingIsReleasing : Type 0
LeavingIsReleasing =
    (b : Board) (c : Config) (may : AllowRelation) (d : Domain) (l : Departed) → IsDomainOf b c may d
    → HasLeft b.layout d l
    → (releases : List DomainAct) × AreDeeds b c may d releases × AreReleases releases
    × ((seat_of (domain_after d releases)).view ≡ (seat_left l).view)
    × ((h : Handle) → value_of (mappings_of (domain_after d releases)) h ≡ None)
