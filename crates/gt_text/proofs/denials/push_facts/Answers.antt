use Rattle.std.proofs.Common.{◌≡◌, ◌++◌, append_assoc}
use Rattle.std.proofs.lemmas.Result.{on_ok_weaker}
use Rattle.gt_types.specs.Names.{permission_name}
use Rattle.gt_text.specs.Texts.{StaysText}
use Rattle.gt_text.proofs.denials.push_facts.Goals as goal

pub returns-in_ok-push_text-in-Policy-clause-text : goal.returns-in_ok-push_text-in-Policy-clause-text
returns-in_ok-push_text-in-Policy-clause-text g c =
    on_ok_weaker c.push_text-in-Policy.result
    (λ (whole : c.push_text-in-Policy.new.out.items ≡ c.push_text.new.out.items ++ c.name.result.now).
    rw (c.in-Policy.is, whole, c.name.ensures, c.in_ok-push_text-in-Policy.ensures.ok, c.in_ok-push_called-in-Policy-2.ensures.text, c.in_ok-push_called-in-Policy.ensures.text) (simp append_assoc))
    c.push_text-in-Policy.ensures.ok

pub returns-in_ok-push_text-in-Policy-clause-stays : goal.returns-in_ok-push_text-in-Policy-clause-stays
returns-in_ok-push_text-in-Policy-clause-stays g c =
    on_ok_weaker c.push_text-in-Policy.result
    (λ (last : StaysText c.push_text.new.out.items c.push_text-in-Policy.new.out.items). λ all before.
    last (c.in_ok-push_text-in-Policy.ensures.stays (c.in_ok-push_called-in-Policy-2.ensures.stays all (c.in_ok-push_called-in-Policy.ensures.stays all before))))
    c.push_text-in-Policy.ensures.stays
