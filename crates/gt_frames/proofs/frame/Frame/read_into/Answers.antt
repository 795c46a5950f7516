use Rattle.gt_frames.proofs.frame.Frame.read_into.Goals as goal

pub returns-clause-filled : goal.returns-clause-filled
returns-clause-filled c = cc
