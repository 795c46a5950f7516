use Rattle.std.proofs.Common.{◌≡◌, ◌∙◌, sym, subst, refl, length}
use Rattle.std.specs.Prelude.{IfOk, ℕ, IfErr}
use Rattle.gt_frames.specs.Receipts.{Writing}
use Rattle.gt_types.specs.declared.Dir.TheVariants as dirs
use Rattle.gt_model.specs.Entries.{frame_of}
use Rattle.gt_model.specs.declared.action.Step.TheVariants as call_steps
use Rattle.gt_model.specs.declared.held.AccessPath.TheVariants.{Direct}
use Rattle.gt_model.specs.declared.held.HeldPin.{HeldPin}
use Rattle.gt_model.specs.declared.request.Request.TheVariants as requests
use Rattle.gt_live.specs.Accesses.{frame_named, IsIfMissing, IsWrittenBy, WritesFrame}
use Rattle.gt_live.specs.Domains.{knowledge}
use Rattle.gt_live.proofs.Accessing.{mapped-way, named-access_path, none-left, one-access, refused-access, reaches-mapped}
use Rattle.gt_live.proofs.Accessing.{writes-by}
use Rattle.gt_live.proofs.DomainKept.{reseated}
use Rattle.gt_live.proofs.Making.{same_seat-self}
use Rattle.gt_live.proofs.domain.Domain.store.Goals as goal

pub mapped_page-held-requires-clause-page : goal.mapped_page-held-requires-clause-page
mapped_page-held-requires-clause-page g c = λ held there. (c.requires.mine.mapped c.args.handle held there).permitted

pub write_through-requires-clause-reached : goal.write_through-requires-clause-reached
write_through-requires-clause-reached g c =
    let m = c.args.monitor.now in let d = c.args.self.now in let may = g.P.Allows.may m.rights in let held = c.mapped_page-held.result in
    let there = c.mapped_page-held.ensures in
    let writable : held.dir ≡ dirs.Write = writes-by (knowledge m.config may d) d.seat.dom c.args.handle c.args.off (length c.args.bytes.now) held (sym c.judge_store.ensures ∙ none-left c.judge_store.result c.in_default.not-Some) there in
    reaches-mapped m.words.layout m.config.domains.items may d.seat held dirs.Write c.frame.result c.args.off (length c.args.bytes.now) (c.requires.mine.mapped c.args.handle held there) (λ e. writable) c.frame.ensures

pub write_through-requires-clause-may : goal.write_through-requires-clause-may
write_through-requires-clause-may g c =
    let m = c.args.monitor.now in let d = c.args.self.now in let may = g.P.Allows.may m.rights in let held = c.mapped_page-held.result in
    let there = c.mapped_page-held.ensures in
    (c.requires.mine.mapped c.args.handle held there).allowed

pub returns-clause-answers : goal.returns-clause-answers
returns-clause-answers g c =
    let m = c.args.monitor.now in let d = c.args.self.now in let may = g.P.Allows.may m.rights in let held = c.mapped_page-held.result in
    let there = c.mapped_page-held.ensures in
    let k = knowledge m.config may d in
    let way = mapped-way k d.seat.dom (requests.Store c.args.handle c.args.off c.args.bytes) c.args.handle held (λ (p : HeldPin). call_steps.Write p.dom (frame_of p.entry) c.args.off (length c.args.bytes.now)) (sym c.judge_store.ensures ∙ none-left c.judge_store.result c.in_default.not-Some) there refl in (
      one-access m.words _ (call_steps.Write held.dom (frame_of held.entry) c.args.off (length c.args.bytes.now)) (IsWrittenBy m.words.layout d (requests.Store c.args.handle c.args.off c.args.bytes)) c.write_through.result d.seat.view c.write_through.new.seat.view tt way
          (named-access_path m.words.layout d (requests.Store c.args.handle c.args.off c.args.bytes) held.dom (frame_of held.entry) c.args.off (length c.args.bytes.now) (Direct held) c.write_through.result d.seat.view c.write_through.new.seat.view (held, there, refl)
          (subst (λ (n : ℕ). IfOk c.write_through.result (λ (r : Writing). WritesFrame m.words.layout (frame_named held.dom n) c.args.off c.args.bytes.now d.seat.dom (Direct held) r d.seat.view c.write_through.new.seat.view)) c.frame.ensures c.write_through.ensures.written))
          c.write_through.ensures.unmade c.write_through.ensures.refused
          (subst (λ (n : ℕ). IfErr c.write_through.result (IsIfMissing m.words (frame_named held.dom n))) c.frame.ensures c.write_through.ensures.cause),
      (record { slots = refl; given = refl }, c.write_through.ensures.same.pins),
      refl,
    )

pub returns-in-Some-clause-answers : goal.returns-in-Some-clause-answers
returns-in-Some-clause-answers g c =
    let m = c.args.monitor.now in let d = c.args.self.now in (
      refused-access m.words (knowledge m.config (g.P.Allows.may m.rights) d) d.seat.dom (requests.Store c.args.handle c.args.off c.args.bytes) (IsWrittenBy m.words.layout d (requests.Store c.args.handle c.args.off c.args.bytes))
          c.in-Some.verdict c.refusal_of.result d.seat.view tt (sym c.judge_store.ensures ∙ c.in-Some.is) c.refusal_of.ensures,
      (record { slots = refl; given = refl }, λ t r. refl),
      refl,
    )

pub returns-clause-stays : goal.returns-clause-stays
returns-clause-stays g c =
    let m = c.args.monitor.now in let d = c.args.self.now in
    (reseated m.words m.config (g.P.Allows.may m.rights) d c.write_through.new.seat c.requires.mine c.write_through.ensures.seat c.write_through.ensures.same, c.write_through.ensures.seat)

pub returns-in-Some-clause-stays : goal.returns-in-Some-clause-stays
returns-in-Some-clause-stays g c = (c.requires.mine, same_seat-self c.args.self.now.seat)
