use Rattle.std.proofs.Common.{◌≡◌, ◌∙◌, ap, arith, sym, length}
use Rattle.gt_types.specs.declared.config.Config.{Config}
use Rattle.gt_live.proofs.Positions.{found-nowhere, found-there}
use Rattle.gt_live.proofs.domain.mappings.position_of.Goals as goal

pub returns-in-Some : goal.returns-in-Some
returns-in-Some g c =
    let m = c.args.monitor.now in
    found-there m.words.layout m.config c.args.dom c.in-Some.at m.same_run (sym c.position.ensures ∙ c.in-Some.is)

pub returns-in-None : goal.returns-in-None
returns-in-None g c =
    let m = c.args.monitor.now in let domains = c.config.result.now.domains in
    let count : c.len.result ≡ length domains.items = let ok = domains.ok.0 in let is = c.len.ensures in omega (arith, ok, is) in
    count ∙ (ap (λ (x : Config). length x.domains.items) c.config.ensures
    ∙ found-nowhere m.words.layout m.config c.args.dom m.same_run (sym c.position.ensures ∙ c.in-None.is))
