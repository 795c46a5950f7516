use Rattle.gt_core.proofs.Words.{◌≡◌, ℕ, List, length, sym, ap, ◌∙◌, subst, admits, IsTrue}
use Rattle.gt_core.proofs.Words.{WritesTo, Step, State, IsAdmitted, AccessedBy}
use Rattle.gt_core.proofs.accesses.write_bytes.Goals as goal

pub write-requires : goal.write-requires
write-requires c =
    let can = subst (IsAdmitted c.args.frames.now c.args.domain.now c.args.underway.call) c.in-Write.is c.requires in
    let given : c.deref.result.now ≡ c.args.domain.now.given = c.deref.ensures.value ∙ ap (λ (z : State). z.given) c.domain.view_is in
    subst (λ (l : List ℕ). IsTrue (admits c.args.frames.now (record { owner = c.in-Write.dom; number = c.in-Write.frame }) c.writ.result c.in-Write.off (length l))) (sym given) (can c.writ.result c.writ.ensures)

pub copy-requires-clause-source : goal.copy-requires-clause-source
copy-requires-clause-source c = (subst (IsAdmitted c.args.frames.now c.args.domain.now c.args.underway.call) c.in-Copy.is c.requires).0

pub copy-requires-clause-dest : goal.copy-requires-clause-dest
copy-requires-clause-dest c =
    (subst (IsAdmitted c.args.frames.now c.args.domain.now c.args.underway.call) c.in-Copy.is c.requires).1 c.writ-in-Copy.result c.writ-in-Copy.ensures

pub returns-in_ok-write-in-Write-clause-accessed : goal.returns-in_ok-write-in-Write-clause-accessed
returns-in_ok-write-in-Write-clause-accessed c = let fs = c.args.frames.now in let new = c.write.new.self in
    let given : c.deref.result.now ≡ c.args.domain.now.given = c.deref.ensures.value ∙ ap (λ (z : State). z.given) c.domain.view_is in
    subst (λ (z : Step). AccessedBy c.args.domain.now c.args.underway.call z fs new) (sym c.in-Write.is)
    (c.writ.result, c.writ.ensures, subst (λ (l : List ℕ). WritesTo fs new (record { owner = c.in-Write.dom; number = c.in-Write.frame }) c.writ.result c.in-Write.off l) given c.in_ok-write-in-Write.ensures.written, c.in_ok-write-in-Write.ensures.kept)

pub returns-in_ok-copy-in-Copy-clause-accessed : goal.returns-in_ok-copy-in-Copy-clause-accessed
returns-in_ok-copy-in-Copy-clause-accessed c =
    subst (λ (z : Step). AccessedBy c.args.domain.now c.args.underway.call z c.args.frames.now c.copy.new.self) (sym c.in-Copy.is)
    (c.writ-in-Copy.result, c.writ-in-Copy.ensures, c.in_ok-copy-in-Copy.ensures.written, c.in_ok-copy-in-Copy.ensures.kept)
