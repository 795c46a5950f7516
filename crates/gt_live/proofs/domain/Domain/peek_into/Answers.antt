use Rattle.std.proofs.Common.{◌≡◌, ◌∙◌, sym, ap, subst, refl, inl, length}
use Rattle.std.specs.Prelude.{IfOk, IfErr}
use Rattle.gt_types.specs.declared.DomId.{DomId}
use Rattle.gt_model.specs.Rules.{own_access_begun}
use Rattle.gt_model.specs.declared.action.Step.TheVariants as call_steps
use Rattle.gt_model.specs.declared.request.Request.TheVariants as requests
use Rattle.gt_live.specs.Accesses.{frame_named, IsIfMissing, IsReadBy, ReadsFrame}
use Rattle.gt_live.specs.Domains.{knowledge}
use Rattle.gt_live.proofs.Accessing.{missing-access, missing-plainly, none-left, one-access, own-way, refused-access}
use Rattle.gt_live.proofs.Accessing.{refused-plainly}
use Rattle.gt_frames.specs.Receipts.{Reading}
use Rattle.gt_live.proofs.DomainKept.{reseated}
use Rattle.gt_live.proofs.Making.{same_seat-self}
use Rattle.gt_live.proofs.domain.Domain.peek_into.Goals as goal

pub returns-clause-answers : goal.returns-clause-answers
returns-clause-answers g c =
    let m = c.args.monitor.now in let d = c.args.self.now in let may = g.P.Allows.may m.rights in let k = knowledge m.config may d in
    let ds = m.config.domains.items in
    let judged : c.judge_own_access.result ≡ own_access_begun ds d.seat.dom c.args.frame c.args.off (length c.args.buffer.now) =
    c.judge_own_access.ensures ∙ (ap (λ (x : DomId). own_access_begun ds x c.args.frame c.args.off (length c.args.buffer.now)) c.dom-caller.ensures) in
    let access = call_steps.Read d.seat.dom c.args.frame c.args.off (length c.args.buffer.now) in
    let way = own-way k d.seat.dom (requests.Peek c.args.frame c.args.off (length c.args.buffer.now)) access (sym judged ∙ none-left c.judge_own_access.result c.in_default.not-Some) refl in (
      one-access m.words _ access (IsReadBy m.words.layout) c.fill_through.result d.seat.view c.fill_through.new.seat.view tt way
          (subst (λ (x : DomId). IfOk c.fill_through.result (λ (r : Reading). ReadsFrame m.words.layout (frame_named x c.args.frame) c.args.off (length c.args.buffer.now) r d.seat.view c.fill_through.new.seat.view)) c.dom-caller.ensures c.fill_through.ensures.read) c.fill_through.ensures.unmade (missing-access c.fill_through.result c.fill_through.ensures.refused)
          (subst (λ (x : DomId). IfErr c.fill_through.result (IsIfMissing m.words (frame_named x c.args.frame))) c.dom-caller.ensures c.fill_through.ensures.cause),
      (record { slots = refl; given = refl }, c.fill_through.ensures.same.pins),
      refl,
    )

pub returns-in-Some-clause-answers : goal.returns-in-Some-clause-answers
returns-in-Some-clause-answers g c =
    let m = c.args.monitor.now in let d = c.args.self.now in
    let ds = m.config.domains.items in
    let judged : c.judge_own_access.result ≡ own_access_begun ds d.seat.dom c.args.frame c.args.off (length c.args.buffer.now) =
    c.judge_own_access.ensures ∙ (ap (λ (x : DomId). own_access_begun ds x c.args.frame c.args.off (length c.args.buffer.now)) c.dom-caller.ensures) in (
      refused-access m.words (knowledge m.config (g.P.Allows.may m.rights) d) d.seat.dom (requests.Peek c.args.frame c.args.off (length c.args.buffer.now)) (IsReadBy m.words.layout)
          c.in-Some.verdict c.refusal_of.result d.seat.view tt (sym judged ∙ c.in-Some.is) c.refusal_of.ensures,
      (record { slots = refl; given = refl }, λ t r. refl),
      refl,
    )

pub returns-clause-stays : goal.returns-clause-stays
returns-clause-stays g c =
    let m = c.args.monitor.now in let d = c.args.self.now in
    (reseated m.words m.config (g.P.Allows.may m.rights) d c.fill_through.new.seat c.requires.mine c.fill_through.ensures.seat c.fill_through.ensures.same, c.fill_through.ensures.seat)

pub returns-in-Some-clause-stays : goal.returns-in-Some-clause-stays
returns-in-Some-clause-stays g c = (c.requires.mine, same_seat-self c.args.self.now.seat)

pub returns-clause-refused : goal.returns-clause-refused
returns-clause-refused g c =
    missing-plainly g.P.Allows.may c.args.monitor.now c.args.self.now (requests.Peek c.args.frame c.args.off (length c.args.buffer.now)) c.fill_through.result c.fill_through.ensures.refused

pub returns-in-Some-clause-refused : goal.returns-in-Some-clause-refused
returns-in-Some-clause-refused g c =
    let m = c.args.monitor.now in let d = c.args.self.now in
    let ds = m.config.domains.items in
    let judged : c.judge_own_access.result ≡ own_access_begun ds d.seat.dom c.args.frame c.args.off (length c.args.buffer.now) =
    c.judge_own_access.ensures ∙ (ap (λ (x : DomId). own_access_begun ds x c.args.frame c.args.off (length c.args.buffer.now)) c.dom-caller.ensures) in
    inl (refused-plainly (knowledge m.config (g.P.Allows.may m.rights) d) d.seat.dom (requests.Peek c.args.frame c.args.off (length c.args.buffer.now)) c.in-Some.verdict c.refusal_of.result tt (sym judged ∙ c.in-Some.is) c.refusal_of.ensures)
