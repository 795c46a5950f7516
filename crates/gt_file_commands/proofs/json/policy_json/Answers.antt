use Rattle.std.proofs.Common.{List, ℕ}
use Rattle.gt_policy_list.specs.Writing.{Listed}
use Rattle.gt_policy_list.specs.declared.fault.ListingFault.TheVariants as listing_faults
use Rattle.gt_json.specs.declared.places.PrintedText.TheVariants.{Policy}
use Rattle.gt_file_commands.proofs.JsonLemmas.{passed}
use Rattle.gt_file_commands.proofs.json.policy_json.Goals as goal

pub returns-clause-text : goal.returns-clause-text
returns-clause-text g c =
    passed _ Policy listing_faults.Memory listing_faults.Write (λ (input : List ℕ). Listed input) c.new-text.result.items c.policy-outcome.new.writer.items c.as_slice.result.now _ _ _ _
    c.new-text.ensures.items c.as_slice.ensures.value c.policy-outcome.ensures.text c.pass_policy.ensures
