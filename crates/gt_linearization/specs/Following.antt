-- What `follow` does is deeds of a run.
use Rattle.std.specs.Prelude.{◌≡◌, ◌≤◌, ℕ, List, [], ◌∷◌, length, Result}
use Rattle.gt_types.specs.declared.GrantRef.{GrantRef}
use Rattle.gt_types.specs.declared.denial.Denial.{Denial}
use Rattle.gt_model.specs.declared.change.EntryChange.{EntryChange}
use Rattle.gt_live.specs.Domains.{AllowRelation, BelongsTo, StaysIn}
use Rattle.gt_live.specs.Following.{Follows, request_of_change}
use Rattle.gt_live.specs.declared.domain.Domain.{Domain}
use Rattle.gt_live.specs.declared.domain.following.Followed.{Followed}
use Rattle.gt_live.specs.declared.monitor.Monitor.{Monitor}
use Rattle.gt_linearization.specs.Closing.{LeadTo}
use Rattle.gt_linearization.specs.Runs.{DomainAct}
use Rattle.gt_linearization.specs.Runs.DomainAct.{Call, Look, OnFlag}

-- each of these deeds is a call that changes this entry
abbrev pub AreChanges : GrantRef → List DomainAct → Type 0
AreChanges gref [] = Unit {0}
AreChanges gref (Call m ∷ ms) = ((change : EntryChange) × (m.request ≡ request_of_change gref change))
    × AreChanges gref ms
AreChanges gref (OnFlag x ∷ ms) = ⊥
AreChanges gref (Look x ∷ ms) = ⊥

-- what `follow` does is calls that change the entry, at most two
abbrev pub FollowingIsCalling : {P : Type 0} → (P → AllowRelation) → Monitor P → Type 0
FollowingIsCalling may m =
    (d e : Domain) (gref : GrantRef) (bytes : List ℕ) (result : Result Followed Denial)
    → BelongsTo may m d → StaysIn may m d e → Follows may m d gref bytes result e
    → (run_actions : List DomainAct) × (length run_actions ≤ 2) × LeadTo may m d run_actions e × AreChanges gref run_actions
