use Rattle.std.proofs.Common.{◌∙◌, ap}
use Rattle.gt_policy.specs.Allowing.{Allowed}
use Rattle.gt_start.proofs.Telling.{of-settings, of-types}
use Rattle.gt_start.proofs.beginning.begin_run.Goals as goal

pub returns-in-Ok-start-clause-begun : goal.returns-in-Ok-start-clause-begun
returns-in-Ok-start-clause-begun c =
    let policy = c.in-Ok.policy in let said = c.in-Ok.ensures.policy in
    record {
      config = c.in-Ok-configured.config;
      set = c.in-Ok-configured.ensures;
      runnable = c.in-Ok-start.ensures.ok;
      meaning = said.0;
      reads = said.1;
      labels = of-types c.args.settings.now policy said.0 c.count.result said.2 c.count.ensures c.in_default.ensures;
      rights = c.in-Ok-compile.rights;
      allows = c.in-Ok-compile.ensures ∙ ap (λ (a : Allowed). a.may) said.2;
      guests_are = c.in-Ok-start.ensures.guests;
    }

pub returns-clause-fault : goal.returns-clause-fault
returns-clause-fault c =
    let policy = c.in-Ok.policy in let said = c.in-Ok.ensures.policy in
    let settings = c.args.settings.now in
    of-settings settings c.args.first_gen c.args.policy.now c.in-Ok-configured.config c.in-Err-start.refused c.config_fault.result
    (said.0, said.1, of-types settings policy said.0 c.count.result said.2 c.count.ensures c.in_default.ensures)
    c.in-Ok-configured.ensures c.in-Err-start.ensures.err c.config_fault.ensures
