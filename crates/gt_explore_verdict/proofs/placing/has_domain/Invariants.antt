use Rattle.std.proofs.Common.{◌≡◌, drop}
use Rattle.std.specs.Prelude.{decimal}
use Rattle.std.specs.List.{list_any}
use Rattle.std.specs.Str.{bytes_eq}
use Rattle.gt_explore_verdict.proofs.placing.has_domain.Given as goal

abbrev pub invariant-domains : goal.invariant-domains
invariant-domains l =
    list_any (λ d. bytes_eq (decimal d.0) l.number) l.domains
    ≡ list_any (λ d. bytes_eq (decimal d.0) l.number) (drop l.domain-index l.domains)
