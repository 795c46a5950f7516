use Rattle.std.proofs.Common.{refl, None, Some, inl}
use Rattle.gt_check_command.specs.declared.explaining.WhyRequest.{WhyRequest}
use Rattle.gt_file_commands.specs.Laws.{worked}
use Rattle.gt_file_commands.specs.Working.{Explains}
use Rattle.gt_file_commands.specs.declared.outcome.Outcome.TheVariants.{Unknown}
use Rattle.gt_file_commands.proofs.Worked.{answered}
use Rattle.gt_file_commands.proofs.questions.answer_asked.Goals as goal

pub returns : goal.returns
returns g c =
    let q : WhyRequest = record {
      question = record { source = c.named.result; target = c.named-2.result; perm = c.named-3.result };
      each = c.args.policy.each;
    } in
    answered c.args.policy.file.now _ q _ _ _ _ None (Some c.args.policy.bytes.now) _ _ _ refl
    (c.named.ensures, c.named-2.ensures, c.named-3.ensures, refl)
    (worked (Explains c.args.policy.file.now q) Unknown None (Some c.args.policy.bytes.now) _ _ c.perform-ending.result _
    (inl c.perform-ending.ensures) c.finish.ensures)
