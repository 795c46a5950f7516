use Rattle.std.proofs.Common.{◌∙◌, ℕ, List, Option, subst}
use Rattle.gt_live.specs.declared.monitor.Monitor.{Monitor}
use Rattle.gt_run.specs.Asking.{Asks}
use Rattle.gt_run.specs.Prelude.{AreNamed, handle_given, with_name}
use Rattle.gt_run.proofs.serving.make_call.Goals as goal

pub returns-clause-made : goal.returns-clause-made
returns-clause-made g c = (
  c.granted_fits.ensures,
  λ named are. (
    c.request_of.result,
    (c.as_slice.result, c.as_slice.ensures.value ∙ c.in_ok-bytes.ensures, c.request_of.ensures.makes named are),
    subst (λ (m : Monitor g.row.P.Denot). Asks g.P.Allows.may m c.args.domain.now.domain c.request_of.result c.ask-answer.result c.ask-answer.new.self.domain) c.requires c.ask-answer.ensures.asked,
    subst (λ (label : Option (List ℕ)). AreNamed c.name_mapping.new.labels (with_name named c.args.job.now.part.dom label (handle_given c.ask-answer.result))) c.label_given.ensures (c.in_ok-name_mapping.ensures named are),
  ),
)

pub ask-answer-requires : goal.ask-answer-requires
ask-answer-requires g c = c.request_of.ensures.plain
