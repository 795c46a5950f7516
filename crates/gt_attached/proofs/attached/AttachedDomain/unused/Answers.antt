use Rattle.std.proofs.Common.{◌∙◌, ◌+◌, arith, ap, refl, sym, true, suc}
use Rattle.gt_live.specs.declared.monitor.Monitor.{Monitor}
use Rattle.gt_attached.proofs.Searching.{found-here, looks-so, seat-same, stays-then}
use Rattle.gt_attached.proofs.attached.AttachedDomain.unused.Goals as goal

pub entries-init : goal.entries-init
entries-init g c = record { stays = (refl, c.requires.idle, seat-same c.args.self.now.domain.seat); count = 0; at = omega arith; passed = refl }

pub status-requires : goal.status-requires
status-requires g c = record { idle = c.entries.invariant.stays.1 }

pub entries-preserved : goal.entries-preserved
entries-preserved g c =
    let inv = c.entries.invariant in let s = c.args.self.now in let t = c.entries.self in let u = c.status.new.self in let at = inv.at in
    record {
      stays = stays-then s t u inv.stays c.status.ensures.stays;
      count = suc inv.count;
      at = omega (arith, at);
      passed = (
        t.domain,
        inv.passed,
        looks-so s.monitor.words.layout t.monitor.words.layout t.domain u.domain (c.args.from.0 + inv.count) c.entries.at c.status.result c.in-Some.control _
            (ap (λ (m : Monitor g.row.P.Denot). m.words.layout) inv.stays.0) at c.in-Some.is c.status.ensures.looks
            (sym c.is_unused.ensures ∙ c.if-is_unused.false),
      );
    }

pub returns-then-is_unused-clause-finds : goal.returns-then-is_unused-clause-finds
returns-then-is_unused-clause-finds g c =
    let inv = c.entries.invariant in let s = c.args.self.now in let t = c.entries.self in let u = c.status.new.self in
    found-here s.monitor.words.layout s.domain t.domain u.domain c.args.from.0 inv.count c.entries.at inv.at inv.passed
    (looks-so s.monitor.words.layout t.monitor.words.layout t.domain u.domain c.entries.at c.entries.at c.status.result c.in-Some.control true
    (ap (λ (m : Monitor g.row.P.Denot). m.words.layout) inv.stays.0) refl c.in-Some.is c.status.ensures.looks
    (sym c.is_unused.ensures ∙ c.if-is_unused.true))
