use Rattle.std.proofs.Common.{◌≡◌, ◌∙◌, sym, ap, subst, refl}
use Rattle.std.specs.Prelude.{IfOk, ℕ, IfErr}
use Rattle.gt_frames.specs.Receipts.{Reading}
use Rattle.gt_types.specs.declared.Dir.TheVariants as dirs
use Rattle.gt_model.specs.Entries.{frame_of}
use Rattle.gt_model.specs.declared.action.Step.TheVariants as call_steps
use Rattle.gt_model.specs.declared.held.HeldPin.{HeldPin}
use Rattle.gt_model.specs.declared.request.Request.TheVariants as requests
use Rattle.gt_model.specs.Rules.{load_begun}
use Rattle.gt_handles.specs.Handles.{value_of}
use Rattle.gt_live.specs.Accesses.{frame_named, IsIfMissing, IsReadBy, ReadsFrame}
use Rattle.gt_live.specs.Domains.{knowledge}
use Rattle.gt_live.proofs.Accessing.{mapped-way, none-left, one-access, refused-access, reaches-mapped}
use Rattle.gt_live.proofs.DomainKept.{reseated}
use Rattle.gt_live.proofs.Making.{same_seat-self}
use Rattle.gt_live.proofs.domain.Domain.load.Goals as goal

pub mapped_page-held-requires-clause-page : goal.mapped_page-held-requires-clause-page
mapped_page-held-requires-clause-page g c = λ held there. (c.requires.mine.mapped c.args.handle held there).permitted

pub read_through-requires-clause-reached : goal.read_through-requires-clause-reached
read_through-requires-clause-reached g c =
    let m = c.args.monitor.now in let d = c.args.self.now in let may = g.P.Allows.may m.rights in let held = c.mapped_page-held.result in
    let there = c.mapped_page-held.ensures in
    reaches-mapped m.words.layout m.config.domains.items may d.seat held dirs.Read c.frame.result c.args.off c.args.len (c.requires.mine.mapped c.args.handle held there) (λ e. cc) c.frame.ensures

pub read_through-requires-clause-may : goal.read_through-requires-clause-may
read_through-requires-clause-may g c =
    let m = c.args.monitor.now in let d = c.args.self.now in let may = g.P.Allows.may m.rights in let held = c.mapped_page-held.result in
    let there = c.mapped_page-held.ensures in
    (c.requires.mine.mapped c.args.handle held there).allowed

pub returns-clause-answers : goal.returns-clause-answers
returns-clause-answers g c =
    let m = c.args.monitor.now in let d = c.args.self.now in let may = g.P.Allows.may m.rights in let held = c.mapped_page-held.result in
    let there = c.mapped_page-held.ensures in
    let k = knowledge m.config may d in
    let judged : c.judge_load.result ≡ load_begun (value_of d.mappings) c.args.handle c.args.off c.args.len =
    c.judge_load.ensures ∙ ap (λ (n : ℕ). load_begun (value_of d.mappings) c.args.handle c.args.off n) c.from.ensures in
    let way = mapped-way k d.seat.dom (requests.Load c.args.handle c.args.off c.args.len) c.args.handle held (λ (p : HeldPin). call_steps.Read p.dom (frame_of p.entry) c.args.off c.args.len) (sym judged ∙ none-left c.judge_load.result c.in_default.not-Some) there refl in (
      one-access m.words _ (call_steps.Read held.dom (frame_of held.entry) c.args.off c.args.len) (IsReadBy m.words.layout) c.read_through.result d.seat.view c.read_through.new.seat.view tt way (subst (λ (n : ℕ). IfOk c.read_through.result (λ (r : Reading). ReadsFrame m.words.layout (frame_named held.dom n) c.args.off c.args.len r d.seat.view c.read_through.new.seat.view)) c.frame.ensures c.read_through.ensures.read) c.read_through.ensures.unmade c.read_through.ensures.refused
          (subst (λ (n : ℕ). IfErr c.read_through.result (IsIfMissing m.words (frame_named held.dom n))) c.frame.ensures c.read_through.ensures.cause),
      (record { slots = refl; given = refl }, c.read_through.ensures.same.pins),
      refl,
    )

pub returns-in-Some-clause-answers : goal.returns-in-Some-clause-answers
returns-in-Some-clause-answers g c =
    let m = c.args.monitor.now in let d = c.args.self.now in
    let judged : c.judge_load.result ≡ load_begun (value_of d.mappings) c.args.handle c.args.off c.args.len =
    c.judge_load.ensures ∙ ap (λ (n : ℕ). load_begun (value_of d.mappings) c.args.handle c.args.off n) c.from.ensures in (
      refused-access m.words (knowledge m.config (g.P.Allows.may m.rights) d) d.seat.dom (requests.Load c.args.handle c.args.off c.args.len) (IsReadBy m.words.layout)
          c.in-Some.verdict c.refusal_of.result d.seat.view tt (sym judged ∙ c.in-Some.is) c.refusal_of.ensures,
      (record { slots = refl; given = refl }, λ t r. refl),
      refl,
    )

pub returns-clause-stays : goal.returns-clause-stays
returns-clause-stays g c =
    let m = c.args.monitor.now in let d = c.args.self.now in
    (reseated m.words m.config (g.P.Allows.may m.rights) d c.read_through.new.seat c.requires.mine c.read_through.ensures.seat c.read_through.ensures.same, c.read_through.ensures.seat)

pub returns-in-Some-clause-stays : goal.returns-in-Some-clause-stays
returns-in-Some-clause-stays g c = (c.requires.mine, same_seat-self c.args.self.now.seat)
