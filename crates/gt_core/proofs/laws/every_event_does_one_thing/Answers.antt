use Rattle.gt_core.proofs.{Words.sym, Words.◌∙◌, AlikeRuns.same-element, AlikeRuns.does}
use Rattle.gt_core.proofs.laws.every_event_does_one_thing.Goals as goal

pub returns : goal.returns
returns c s h e one other m n = same-element one other (does s h e one m ∙ sym (does s h e other n))
