use Rattle.gt_attached.proofs.attachment.depart.Goals as goal

pub returns : goal.returns
returns g c =
    record {
      closed = c.reset-in_use.new.self;
      resets = c.reset-in_use.ensures.resets;
      leaves = c.finish-left.ensures.left;
      lost = c.lost-lost.ensures;
    }
