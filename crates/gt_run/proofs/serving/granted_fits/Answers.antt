use Rattle.std.proofs.Common.{sym, subst}
use Rattle.gt_run.specs.Serving.{FitsEntry}
use Rattle.gt_run.proofs.CallLemmas.{fits_other}
use Rattle.gt_run.proofs.serving.granted_fits.Goals as goal

pub returns-in-Grant : goal.returns-in-Grant
returns-in-Grant c = subst FitsEntry (sym c.in-Grant.is) c.entry_fits.ensures

pub returns-in_default : goal.returns-in_default
returns-in_default c = fits_other c.args.call.now c.in_default.not-Grant
