use Rattle.std.proofs.Common.{◌∙◌, sym, subst, refl, inl, length}
use Rattle.std.specs.Prelude.{IfOk, ℕ, IfErr}
use Rattle.gt_frames.specs.Receipts.{Reading}
use Rattle.gt_types.specs.declared.Dir.TheVariants as dirs
use Rattle.gt_model.specs.Entries.{frame_of}
use Rattle.gt_model.specs.declared.action.Step.TheVariants as call_steps
use Rattle.gt_model.specs.declared.held.HeldPin.{HeldPin}
use Rattle.gt_model.specs.declared.request.Request.TheVariants as requests
use Rattle.gt_live.specs.Accesses.{frame_named, IsIfMissing, IsReadBy, ReadsFrame}
use Rattle.gt_live.specs.Domains.{knowledge}
use Rattle.gt_live.proofs.Accessing.{mapped-way, missing-access, missing-plainly, none-left, one-access}
use Rattle.gt_live.proofs.Accessing.{refused-access, refused-plainly, reaches-mapped}
use Rattle.gt_live.proofs.DomainKept.{reseated}
use Rattle.gt_live.proofs.Making.{same_seat-self}
use Rattle.gt_live.proofs.domain.Domain.load_into.Goals as goal

pub mapped_page-held-requires-clause-page : goal.mapped_page-held-requires-clause-page
mapped_page-held-requires-clause-page g c = λ held there. (c.requires.mine.mapped c.args.handle held there).permitted

pub fill_through-requires-clause-reached : goal.fill_through-requires-clause-reached
fill_through-requires-clause-reached g c =
    let m = c.args.monitor.now in let d = c.args.self.now in let may = g.P.Allows.may m.rights in let held = c.mapped_page-held.result in
    let there = c.mapped_page-held.ensures in
    reaches-mapped m.words.layout m.config.domains.items may d.seat held dirs.Read c.frame.result c.args.off (length c.args.buffer.now) (c.requires.mine.mapped c.args.handle held there) (λ e. cc) c.frame.ensures

pub fill_through-requires-clause-may : goal.fill_through-requires-clause-may
fill_through-requires-clause-may g c =
    let m = c.args.monitor.now in let d = c.args.self.now in let may = g.P.Allows.may m.rights in let held = c.mapped_page-held.result in
    let there = c.mapped_page-held.ensures in
    (c.requires.mine.mapped c.args.handle held there).allowed

pub returns-clause-answers : goal.returns-clause-answers
returns-clause-answers g c =
    let m = c.args.monitor.now in let d = c.args.self.now in let may = g.P.Allows.may m.rights in let held = c.mapped_page-held.result in
    let there = c.mapped_page-held.ensures in
    let k = knowledge m.config may d in
    let way = mapped-way k d.seat.dom (requests.Load c.args.handle c.args.off (length c.args.buffer.now)) c.args.handle held (λ (p : HeldPin). call_steps.Read p.dom (frame_of p.entry) c.args.off (length c.args.buffer.now)) (sym c.judge_load.ensures ∙ none-left c.judge_load.result c.in_default.not-Some) there refl in (
      one-access m.words _ (call_steps.Read held.dom (frame_of held.entry) c.args.off (length c.args.buffer.now)) (IsReadBy m.words.layout) c.fill_through.result d.seat.view c.fill_through.new.seat.view tt way (subst (λ (n : ℕ). IfOk c.fill_through.result (λ (r : Reading). ReadsFrame m.words.layout (frame_named held.dom n) c.args.off (length c.args.buffer.now) r d.seat.view c.fill_through.new.seat.view)) c.frame.ensures c.fill_through.ensures.read) c.fill_through.ensures.unmade (missing-access c.fill_through.result c.fill_through.ensures.refused)
          (subst (λ (n : ℕ). IfErr c.fill_through.result (IsIfMissing m.words (frame_named held.dom n))) c.frame.ensures c.fill_through.ensures.cause),
      (record { slots = refl; given = refl }, c.fill_through.ensures.same.pins),
      refl,
    )

pub returns-in-Some-clause-answers : goal.returns-in-Some-clause-answers
returns-in-Some-clause-answers g c =
    let m = c.args.monitor.now in let d = c.args.self.now in (
      refused-access m.words (knowledge m.config (g.P.Allows.may m.rights) d) d.seat.dom (requests.Load c.args.handle c.args.off (length c.args.buffer.now)) (IsReadBy m.words.layout)
          c.in-Some.verdict c.refusal_of.result d.seat.view tt (sym c.judge_load.ensures ∙ c.in-Some.is) c.refusal_of.ensures,
      (record { slots = refl; given = refl }, λ t r. refl),
      refl,
    )

pub returns-clause-stays : goal.returns-clause-stays
returns-clause-stays g c =
    let m = c.args.monitor.now in let d = c.args.self.now in
    (reseated m.words m.config (g.P.Allows.may m.rights) d c.fill_through.new.seat c.requires.mine c.fill_through.ensures.seat c.fill_through.ensures.same, c.fill_through.ensures.seat)

pub returns-in-Some-clause-stays : goal.returns-in-Some-clause-stays
returns-in-Some-clause-stays g c = (c.requires.mine, same_seat-self c.args.self.now.seat)

pub returns-clause-refused : goal.returns-clause-refused
returns-clause-refused g c =
    missing-plainly g.P.Allows.may c.args.monitor.now c.args.self.now (requests.Load c.args.handle c.args.off (length c.args.buffer.now)) c.fill_through.result c.fill_through.ensures.refused

pub returns-in-Some-clause-refused : goal.returns-in-Some-clause-refused
returns-in-Some-clause-refused g c =
    let m = c.args.monitor.now in let d = c.args.self.now in
    inl (refused-plainly (knowledge m.config (g.P.Allows.may m.rights) d) d.seat.dom (requests.Load c.args.handle c.args.off (length c.args.buffer.now)) c.in-Some.verdict c.refusal_of.result tt (sym c.judge_load.ensures ∙ c.in-Some.is) c.refusal_of.ensures)
