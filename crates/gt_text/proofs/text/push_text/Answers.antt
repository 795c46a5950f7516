use Rattle.gt_text.proofs.TextLemmas.{text_appended}
use Rattle.gt_text.proofs.text.push_text.Goals as goal

pub returns-clause-stays : goal.returns-clause-stays
returns-clause-stays c = text_appended _ _ _ c.in_ok-extend_from_slice.ensures.items c.as_bytes.ensures.utf8
