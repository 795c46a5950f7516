use Rattle.std.proofs.Common.{◌∙◌, refl}
use Rattle.gt_script.specs.Contents.{contents_of}
use Rattle.gt_script_runs.proofs.StartLemmas.{apart_in, starts_for}
use Rattle.gt_script_runs.proofs.starting.core_of.Goals as goal

pub returns-in-Ok-clause-starts : goal.returns-in-Ok-clause-starts
returns-in-Ok-clause-starts c =
    starts_for (contents_of c.args.head.now) c.in-Ok.core _ _ c.in-Ok.ensures.config c.in-Ok.ensures.rights c.in-Ok.ensures.stands
    (c.in_ok-from_slice.ensures.items ∙ c.domains.ensures) c.first_gen.ensures c.in_ok-rights.ensures

pub returns-in-Ok-clause-apart : goal.returns-in-Ok-clause-apart
returns-in-Ok-clause-apart c = λ ok. apart_in (contents_of c.args.head.now) _ (c.in-Ok.ensures.fits refl) (c.in_ok-from_slice.ensures.items ∙ c.domains.ensures)
