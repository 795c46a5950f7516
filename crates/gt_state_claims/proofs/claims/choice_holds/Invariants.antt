use Rattle.std.proofs.Common.{◌≡◌, drop}
use Rattle.gt_state_claims.specs.Claims.{EntriesShown, ShowsOnly, choice_holds}
use Rattle.gt_state_claims.proofs.claims.choice_holds.Given as goal

abbrev pub invariant-terms : goal.invariant-terms
invariant-terms g l = (view : EntriesShown) → ShowsOnly (g.V.ShowsEntries.shows l.entries) view
    → choice_holds l.terms view ≡ choice_holds (drop l.term-index l.terms) view
