use Rattle.std.proofs.Common.{Ok, refl}
use Rattle.gt_policy.proofs.LawLemmas.{says_written, written_says}
use Rattle.gt_policy.proofs.UndeclaredLemmas.{meant_declared, declared_meant}
use Rattle.gt_policy.proofs.laws.written_texts.Goals as goal

pub returns-clause-accepted : goal.returns-clause-accepted
returns-clause-accepted c = λ text m h.
    let w = says_written text (Ok m) h m refl in
    (w.0, w.1, meant_declared w.0 m w.1.clean w.2, w.2)

pub returns-clause-written : goal.returns-clause-written
returns-clause-written c = written_says

pub returns-clause-meant : goal.returns-clause-meant
returns-clause-meant c = λ text ss w all. declared_meant ss w.clean all
