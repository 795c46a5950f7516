use Rattle.std.proofs.Common.{◌∙◌, refl}
use Rattle.gt_explore_replay.proofs.Doing.{begins_line, begun_done, begun_open}
use Rattle.gt_explore_replay.proofs.Making.{line_done, line_open}
use Rattle.gt_explore_replay.proofs.walker.Walker.begin_call.Goals as goal

pub returns-in-Open-clause-makes : goal.returns-in-Open-clause-makes
returns-in-Open-clause-makes c =
    line_open _ c.args.types.now _ _ c.args.self.now c.args.task.now c.args.call c.request_of-request.result c.given_up-gone.result c.in_ok-begun.begun
    c.requires.next c.requires.does c.requires.idle (λ named names. (c.as_slice.result, c.as_slice.ensures.value ∙ c.in_ok-bytes.ensures, c.request_of-request.ensures.makes named names))
    c.given_up-gone.ensures c.in-Open.is c.in_ok-begun.ensures.stands

pub returns-in-Done-clause-makes : goal.returns-in-Done-clause-makes
returns-in-Done-clause-makes c =
    line_done _ c.args.types.now _ _ c.args.self.now _ c.args.task.now c.args.call c.request_of-request.result c.given_up-gone.result c.in_ok-begun.begun c.in-Done.answer
    c.requires.next c.requires.does c.requires.idle (λ named names. (c.as_slice.result, c.as_slice.ensures.value ∙ c.in_ok-bytes.ensures, c.request_of-request.ensures.makes named names))
    c.given_up-gone.ensures c.in-Done.is c.in_ok-begun.ensures.stands c.in_ok-answer-in-Done.ensures

pub returns-in-Open-clause-does : goal.returns-in-Open-clause-does
returns-in-Open-clause-does c =
    begins_line _ c.args.types.now _ _ c.args.self.now _ c.args.task.now c.args.call c.request_of-request.result c.given_up-gone.result c.in_ok-begun.begun _
    (λ named names. (c.as_slice.result, c.as_slice.ensures.value ∙ c.in_ok-bytes.ensures, c.request_of-request.ensures.makes named names))
    c.given_up-gone.ensures c.in_ok-begun.ensures.stands
    (begun_open c.args.types.now c.args.self.now c.args.task.now c.args.call c.given_up-gone.result c.in_ok-begun.begun _ c.in-Open.is refl)

pub returns-in-Done-clause-does : goal.returns-in-Done-clause-does
returns-in-Done-clause-does c =
    begins_line _ c.args.types.now _ _ c.args.self.now _ c.args.task.now c.args.call c.request_of-request.result c.given_up-gone.result c.in_ok-begun.begun _
    (λ named names. (c.as_slice.result, c.as_slice.ensures.value ∙ c.in_ok-bytes.ensures, c.request_of-request.ensures.makes named names))
    c.given_up-gone.ensures c.in_ok-begun.ensures.stands
    (begun_done c.args.types.now c.args.self.now _ c.args.task.now c.args.call c.given_up-gone.result c.in_ok-begun.begun c.in-Done.answer _ c.in-Done.is refl c.in_ok-answer-in-Done.ensures)
