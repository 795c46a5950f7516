use Rattle.std.proofs.Common.{◌∙◌, Bor, List, ℕ, map, subst}
use Rattle.std.specs.Str.Lines.{lines as lines_in}
use Rattle.gt_call_names.specs.Naming.{IsNumberingFault}
use Rattle.gt_call_names.specs.declared.fault.NameFault.{NameFault}
use Rattle.gt_explore_precedence.proofs.Preceded.{rest_repeated}
use Rattle.gt_explore_precedence.proofs.exploring.rest_numbered.Goals as goal

pub returns-in-Err-Repeated-clause-fault : goal.returns-in-Err-Repeated-clause-fault
returns-in-Err-Repeated-clause-fault c =
    rest_repeated (lines_in c.args.source.now) (map (λ (part : Bor (List ℕ)). part.now) c.args.parts.now) c.in-Ok.text.now c.in-Err-Repeated.first c.in-Err-Repeated.second (c.in-Ok.ensures.text.0 ∙ c.as_slice.ensures.value ∙ c.in_ok-rest.ensures)
    (subst (λ (f : NameFault). IsNumberingFault (lines_in c.args.source.now) c.in-Ok.text.now f) c.in-Err-Repeated.field-0-is c.in-Err-Repeated.ensures.fault)
