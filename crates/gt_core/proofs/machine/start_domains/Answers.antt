use Rattle.gt_core.proofs.{Words.◌<◌, Words.length, Words.arith, CallsOver.rest-more}
use Rattle.gt_core.proofs.machine.start_domains.Goals as goal

pub loop-domain-preserved : goal.loop-domain-preserved
loop-domain-preserved c =
    let within : c.loop-domain.domain-index < length c.deref-domain-items.result.now = omega arith in
    rest-more c.args.config.now.first_gen c.deref-domain-items.result.now c.loop-domain.domain-index _ c.loop-domain.domains.items c.push.new.self.items c.in_ok-new.field-0 within
    c.loop-domain.invariant c.in_ok-new.ensures c.in_ok-push.ensures.items
