use Rattle.std.proofs.Common.{List, ℕ, subst}
use Rattle.std.specs.Io.KnownBytes.{Appends}
use Rattle.gt_text.specs.Streams.{AppendsBeginning}
use Rattle.gt_explore_claims.proofs.Explored.{unshown_cut, unshown_ok}
use Rattle.gt_explore_claims.proofs.naming.explore_decision.Goals as goal

pub returns-in-Ok : goal.returns-in-Ok
returns-in-Ok g c = λ all e first are is.
    let (d, reads, so) = c.in-Some.ensures all e in
    let old = g.W.Write.contents c.args.writer.now in let new = g.W.Write.contents c.write_text.new.writer in
    let made = c.in-Some.made in let claim = c.args.claim.now in
    unshown_ok first c.args.asked.now all old new are d claim.stated.claim claim.numbered.items made.text.items made.verdict reads is so
    (subst (λ (text : List ℕ). Appends old new text) c.as_slice.ensures.value c.in-Ok.ensures.whole)

pub returns-in-Some : goal.returns-in-Some
returns-in-Some g c = λ all e first are is.
    let (d, reads, so) = c.in-Some.ensures all e in
    let old = g.W.Write.contents c.args.writer.now in let new = g.W.Write.contents c.write_text.new.writer in
    let made = c.in-Some.made in let claim = c.args.claim.now in
    unshown_cut first c.args.asked.now all old new are d claim.stated.claim claim.numbered.items made.text.items made.verdict reads is so
    (subst (λ (text : List ℕ). AppendsBeginning old new text) c.as_slice.ensures.value c.write_text.ensures.beginning)
