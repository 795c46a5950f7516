use Rattle.std.proofs.Common.{arith, suc}
use Rattle.gt_attached.proofs.Comparing.{granted-all, granted-more, refused-here}
use Rattle.gt_attached.proofs.Searching.{stays-then}
use Rattle.gt_attached.proofs.attached.AttachedDomain.grant_all_of.Goals as goal

pub returns-in-Err-clause-grants : goal.returns-in-Err-clause-grants
returns-in-Err-clause-grants g c =
    let inv = c.entries.invariant in let s = c.args.self.now in let t = c.entries.self in
    refused-here g.P.Allows.may s.monitor t.monitor s.domain c.args.other.now.domain t.domain c.grant_valid.new.self.domain inv.count
    c.entries.at c.entry_at.result _ inv.stays.0 inv.at c.entry_at.ensures inv.granted c.in-Err.ensures.grants

pub entries-preserved : goal.entries-preserved
entries-preserved g c =
    let inv = c.entries.invariant in let s = c.args.self.now in let t = c.entries.self in let u = c.grant_valid.new.self in
    let at = inv.at in
    record {
      stays = stays-then s t u inv.stays c.in-Ok.ensures.stays;
      count = suc inv.count;
      at = omega (arith, at);
      granted = granted-more g.P.Allows.may s.monitor t.monitor s.domain c.args.other.now.domain t.domain u.domain inv.count c.entries.at
          c.entry_at.result inv.stays.0 inv.at c.entry_at.ensures inv.granted c.in-Ok.ensures.grants;
    }

pub returns-clause-grants : goal.returns-clause-grants
returns-clause-grants g c =
    let inv = c.entries.invariant in let s = c.args.self.now in let most = c.entries.auto.at-end in let least = c.entries-test.false in
    let at = inv.at in
    granted-all g.P.Allows.may s.monitor s.domain c.args.other.now.domain c.entries.self.domain inv.count (omega (arith, most, least, at))
    inv.granted
