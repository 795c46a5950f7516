use Rattle.gt_c.proofs.beginning.made_ready.Goals as goal

pub returns : goal.returns
returns c =
    record {
      settled = c.end_copy.new.attached;
      settles = c.end_copy.ensures.settled;
      remains = c.reset-remains.result;
      encodes = c.of.ensures;
      stays = c.reset-remains.ensures.stays;
      resets = c.reset-remains.ensures.resets;
      lost = c.reset-remains.ensures.lost;
    }
