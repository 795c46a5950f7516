use Rattle.std.proofs.Common.{subst, refl}
use Rattle.gt_types.specs.declared.DomId.{DomId}
use Rattle.gt_audit.specs.Trails.{AppendsRecord}
use Rattle.gt_live.proofs.DomainKept.{retold}
use Rattle.gt_live.proofs.domain.Domain.add_record.Goals as goal

pub returns : goal.returns
returns c = let d = c.args.self.now in let new = c.push.new.self in
    record {
      recorded = subst (λ (x : DomId). AppendsRecord d.trail (record { dom = x; call = c.args.call; reply = c.args.reply }) new) c.dom-dom.ensures c.push.ensures;
      mine = λ b s may is. retold b s may d (record d { trail = new }) is refl refl refl;
      kept = refl;
    }
