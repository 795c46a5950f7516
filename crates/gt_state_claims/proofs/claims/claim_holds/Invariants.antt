use Rattle.std.proofs.Common.{◌≡◌, drop, map}
use Rattle.gt_state_claims.specs.Claims.{EntriesShown, ShowsOnly, claim_holds}
use Rattle.gt_state_claims.proofs.claims.claim_holds.Given as goal

abbrev pub invariant-choices : goal.invariant-choices
invariant-choices g l = (view : EntriesShown) → ShowsOnly (g.V.ShowsEntries.shows l.entries) view
    → claim_holds (map (λ t. t.items) l.choices) view ≡ claim_holds (map (λ t. t.items) (drop l.terms-index l.choices)) view
