use Rattle.gt_calls.proofs.Words.{refl, Observation, Call, CallerKnowledge}
use Rattle.gt_calls.proofs.Advancing.{goes}
use Rattle.gt_calls.proofs.laws.every_call_goes_on_by_its_phase.Goals as goal

pub returns : goal.returns
returns c = λ (k : CallerKnowledge) (call : Call) (seen : Observation).
    goes k call.caller call.request call.phase seen _ _ refl refl
