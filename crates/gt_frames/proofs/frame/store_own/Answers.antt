use Rattle.std.proofs.Common.{◌≡◌, ◌∙◌, ◌+◌, ◌≤◌, ℕ, List, ap, arith, length, replicate, slice_range, sym}
use Rattle.std.proofs.lemmas.Grind.{common_steps}
use Rattle.gt_types.specs.declared.limits.TheConstants.{FRAME_SIZE}
use Rattle.gt_model.specs.Written.{overlay}
use Rattle.gt_frames.specs.Frames.{recorded}
use Rattle.gt_frames.specs.Writers.{numbers_of}
use Rattle.gt_frames.proofs.Shown.{knows_after}
use Rattle.gt_frames.proofs.frame.store_own.Goals as goal

pub returns-clause-journal : goal.returns-clause-journal
returns-clause-journal c =
    c.add.ensures
    ∙ ap (λ (ys : List ℕ). recorded c.args.journal.now c.args.writ.now c.args.to_off ys)
    (ap (λ (n : ℕ). slice_range c.move_own.new.contents c.args.to_off (c.args.to_off + n)) c.from-len.ensures ∙ c.move_own.ensures.moved)

pub returns-clause-contents : goal.returns-clause-contents
returns-clause-contents c = c.move_own.ensures.contents

pub returns-clause-knows : goal.returns-clause-knows
returns-clause-knows c =
    let contents : List ℕ = c.args.contents.now in
    let all : length contents ≡ FRAME_SIZE = c.requires.size in
    let ys : List ℕ = slice_range contents c.args.range.off (c.args.range.off + c.args.range.len) in
    let size : length (slice_range contents c.args.range.off (c.args.range.off + c.args.range.len)) ≡ c.args.range.len = grind (arith, common_steps) in
    let fits : c.args.to_off + length ys ≤ FRAME_SIZE = omega (arith, size, c.requires.range) in
    let adds : c.add.new.self ≡ recorded c.args.journal.now c.args.writ.now c.args.to_off ys =
    c.add.ensures
    ∙ ap (λ (l : List ℕ). recorded c.args.journal.now c.args.writ.now c.args.to_off l)
    (ap (λ (n : ℕ). slice_range c.move_own.new.contents c.args.to_off (c.args.to_off + n)) c.from-len.ensures ∙ c.move_own.ensures.moved) in
    let old = numbers_of c.number_of.new.self.below.items c.number_of.new.self.latest in
    let number = c.in_ok-number.number in
    let shows = numbers_of c.show.new.self.below.items c.show.new.self.latest in
    let laid : shows ≡ overlay old c.args.to_off (replicate (length ys) number) =
    c.show.ensures.numbers
    ∙ ap (λ (k : ℕ). overlay old k (replicate c.from-len.result number)) c.from-start.ensures
    ∙ ap (λ (n : ℕ). overlay old c.args.to_off (replicate n number)) (c.from-len.ensures ∙ sym size) in
    knows_after c.args.writers.now c.show.new.self c.args.journal.now c.add.new.self c.args.writ.now number c.args.to_off ys
    c.number_of.new.self c.in_ok-number.ensures.sound c.in_ok-number.ensures.same c.requires.knows c.in_ok-number.ensures.has c.in_ok-number.ensures.len fits
    c.show.ensures.sound c.show.ensures.writs laid adds
