use Rattle.std.proofs.Common.{◌≡◌, ◌∙◌, ◌<◌, ◌≤◌, ◌+◌, ◌⊎◌, inl, inr, arith, sym, rules, get_or}
use Rattle.gt_frames.proofs.Stretches.{number_inside, number_outside}
use Rattle.gt_frames.proofs.writers.Writers.number_at.Goals.{else-latest-at-via-then-latest-at+else-at-latest, else-latest-at-via-else-latest-at}
use Rattle.gt_frames.proofs.writers.Writers.number_at.Goals as goal

pub returns-then-at-latest : goal.returns-then-at-latest
returns-then-at-latest c =
    let s = c.args.self.now.latest in
    let is : c.from.result ≡ s.number = omega arith in
    is ∙ sym (number_inside c.args.self.now.below.items s c.args.at c.requires.lies (omega arith) (omega arith))

pub returns-in-Some : goal.returns-in-Some
returns-in-Some c =
    let s = c.args.self.now.latest in
    let out : (c.args.at < s.off) ⊎ (s.off + s.len ≤ c.args.at) = elim c.else-latest-at.branch [
      | else-latest-at-via-then-latest-at+else-at-latest w ↦ inr (omega arith)
      | else-latest-at-via-else-latest-at w ↦ inl (omega arith)
    ] in
    let read : c.from-in-Some.result ≡ get_or c.args.self.now.below.items c.args.at 0 = search rules in
    read ∙ sym (number_outside c.args.self.now.below.items s c.args.at c.requires.lies out)

pub returns-in-None : goal.returns-in-None
returns-in-None c =
    let s = c.args.self.now.latest in
    let out : (c.args.at < s.off) ⊎ (s.off + s.len ≤ c.args.at) = elim c.else-latest-at.branch [
      | else-latest-at-via-then-latest-at+else-at-latest w ↦ inr (omega arith)
      | else-latest-at-via-else-latest-at w ↦ inl (omega arith)
    ] in
    let read : 0 ≡ get_or c.args.self.now.below.items c.args.at 0 = search rules in
    read ∙ sym (number_outside c.args.self.now.below.items s c.args.at c.requires.lies out)
