use Rattle.std.proofs.Common.{sym, subst}
use Rattle.gt_explore_moves.proofs.HandlesAnswered.{NamesEntry, names-other, said-fits}
use Rattle.gt_explore_moves.proofs.moves.said_fits.Goals as goal

pub returns-in-Grant : goal.returns-in-Grant
returns-in-Grant c = λ named dom request. said-fits c.args.call.now named dom request (subst NamesEntry (sym c.in-Grant.is) c.entry_fits.ensures)

pub returns-in_default : goal.returns-in_default
returns-in_default c = λ named dom request. said-fits c.args.call.now named dom request (names-other c.args.call.now c.in_default.not-Grant)
