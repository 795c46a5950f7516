use Rattle.std.proofs.Common.{rules, ◌<◌, length, take, drop, suc, refl}
use Rattle.std.proofs.lemmas.Option.{slice_get_read}
use Rattle.gt_explore_replay.proofs.Doing.{given_away, given_busy, given_done, given_open, gives_back_at}
use Rattle.gt_explore_replay.proofs.Making.{back_done, back_open}
use Rattle.gt_explore_replay.proofs.Places.{around}
use Rattle.gt_explore_replay.proofs.walker.Walker.give_back.Goals as goal

pub returns-in-Open-clause-makes : goal.returns-in-Open-clause-makes
returns-in-Open-clause-makes c = λ types.
    let within : c.args.choice < length c.args.self.now.held.items = search rules in
    back_open _ types _ _ c.args.self.now _ (take c.args.choice c.args.self.now.held.items) (drop (suc c.args.choice) c.args.self.now.held.items) c.remove-handle.result c.in_ok-begun.begun
    c.requires.end c.requires.idle (around c.args.self.now.held.items c.args.choice c.remove-handle.result within c.remove-handle.ensures.value)
    refl c.remove-handle.ensures.items c.in-Open.is c.in_ok-begun.ensures.stands

pub returns-in-Open-clause-does : goal.returns-in-Open-clause-does
returns-in-Open-clause-does c =
    let within : c.args.choice < length c.args.self.now.held.items = search rules in
    gives_back_at _ _ _ c.args.self.now _ c.args.choice c.remove-handle.result c.in_ok-begun.begun _
    (slice_get_read c.args.self.now.held.items _ c.args.choice c.remove-handle.result refl within c.remove-handle.ensures.value)
    c.in_ok-begun.ensures.stands (given_open c.args.choice c.args.self.now _ c.in_ok-begun.begun _ c.in-Open.is refl refl c.remove-handle.ensures.items)

pub returns-in-Done-clause-makes : goal.returns-in-Done-clause-makes
returns-in-Done-clause-makes c = λ types.
    let within : c.args.choice < length c.args.self.now.held.items = search rules in
    back_done _ types _ _ c.args.self.now _ (take c.args.choice c.args.self.now.held.items) (drop (suc c.args.choice) c.args.self.now.held.items) c.remove-handle.result c.in_ok-begun.begun _
    c.requires.end c.requires.idle (around c.args.self.now.held.items c.args.choice c.remove-handle.result within c.remove-handle.ensures.value)
    refl c.remove-handle.ensures.items c.in-Done.is c.in_ok-begun.ensures.stands

pub returns-in-Done-clause-does : goal.returns-in-Done-clause-does
returns-in-Done-clause-does c =
    let within : c.args.choice < length c.args.self.now.held.items = search rules in
    gives_back_at _ _ _ c.args.self.now _ c.args.choice c.remove-handle.result c.in_ok-begun.begun _
    (slice_get_read c.args.self.now.held.items _ c.args.choice c.remove-handle.result refl within c.remove-handle.ensures.value)
    c.in_ok-begun.ensures.stands (given_done c.args.choice c.args.self.now _ c.in_ok-begun.begun _ _ c.in-Done.is refl refl c.remove-handle.ensures.items)

pub returns-in-Busy-clause-does : goal.returns-in-Busy-clause-does
returns-in-Busy-clause-does c =
    let within : c.args.choice < length c.args.self.now.held.items = search rules in
    gives_back_at _ _ _ c.args.self.now _ c.args.choice c.remove-handle.result c.in_ok-begun.begun _
    (slice_get_read c.args.self.now.held.items _ c.args.choice c.remove-handle.result refl within c.remove-handle.ensures.value)
    c.in_ok-begun.ensures.stands (given_busy c.args.choice c.args.self.now _ c.in_ok-begun.begun _ c.in-Busy.is)

pub returns-in-NoDomain-clause-does : goal.returns-in-NoDomain-clause-does
returns-in-NoDomain-clause-does c =
    let within : c.args.choice < length c.args.self.now.held.items = search rules in
    gives_back_at _ _ _ c.args.self.now _ c.args.choice c.remove-handle.result c.in_ok-begun.begun _
    (slice_get_read c.args.self.now.held.items _ c.args.choice c.remove-handle.result refl within c.remove-handle.ensures.value)
    c.in_ok-begun.ensures.stands (given_away c.args.choice c.args.self.now _ c.in_ok-begun.begun _ c.in-NoDomain.is)
