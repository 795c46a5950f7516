use Rattle.std.proofs.Common.{◌≡◌, ◌∙◌, sym, ap, subst, refl}
use Rattle.std.specs.Prelude.{IfOk, ℕ, IfErr}
use Rattle.gt_types.specs.declared.DomId.{DomId}
use Rattle.gt_model.specs.Rules.{own_access_begun}
use Rattle.gt_model.specs.declared.action.Step.TheVariants as call_steps
use Rattle.gt_model.specs.declared.request.Request.TheVariants as requests
use Rattle.gt_live.specs.Accesses.{frame_named, IsIfMissing, IsReadBy, ReadsFrame}
use Rattle.gt_live.specs.Domains.{knowledge}
use Rattle.gt_live.proofs.Accessing.{none-left, one-access, own-way, refused-access}
use Rattle.gt_frames.specs.Receipts.{Reading}
use Rattle.gt_live.proofs.DomainKept.{reseated}
use Rattle.gt_live.proofs.Making.{same_seat-self}
use Rattle.gt_live.proofs.domain.Domain.peek.Goals as goal

pub returns-clause-answers : goal.returns-clause-answers
returns-clause-answers g c =
    let m = c.args.monitor.now in let d = c.args.self.now in let may = g.P.Allows.may m.rights in let k = knowledge m.config may d in
    let ds = m.config.domains.items in
    let judged : c.judge_own_access.result ≡ own_access_begun ds d.seat.dom c.args.frame c.args.off c.args.len =
    c.judge_own_access.ensures ∙ (ap (λ (n : ℕ). own_access_begun ds c.dom-caller.result c.args.frame c.args.off n) c.from.ensures
    ∙ ap (λ (x : DomId). own_access_begun ds x c.args.frame c.args.off c.args.len) c.dom-caller.ensures) in
    let access = call_steps.Read d.seat.dom c.args.frame c.args.off c.args.len in
    let way = own-way k d.seat.dom (requests.Peek c.args.frame c.args.off c.args.len) access (sym judged ∙ none-left c.judge_own_access.result c.in_default.not-Some) refl in (
      one-access m.words _ access (IsReadBy m.words.layout) c.read_through.result d.seat.view c.read_through.new.seat.view tt way
          (subst (λ (x : DomId). IfOk c.read_through.result (λ (r : Reading). ReadsFrame m.words.layout (frame_named x c.args.frame) c.args.off c.args.len r d.seat.view c.read_through.new.seat.view)) c.dom-caller.ensures c.read_through.ensures.read) c.read_through.ensures.unmade c.read_through.ensures.refused
          (subst (λ (x : DomId). IfErr c.read_through.result (IsIfMissing m.words (frame_named x c.args.frame))) c.dom-caller.ensures c.read_through.ensures.cause),
      (record { slots = refl; given = refl }, c.read_through.ensures.same.pins),
      refl,
    )

pub returns-in-Some-clause-answers : goal.returns-in-Some-clause-answers
returns-in-Some-clause-answers g c =
    let m = c.args.monitor.now in let d = c.args.self.now in
    let ds = m.config.domains.items in
    let judged : c.judge_own_access.result ≡ own_access_begun ds d.seat.dom c.args.frame c.args.off c.args.len =
    c.judge_own_access.ensures ∙ (ap (λ (n : ℕ). own_access_begun ds c.dom-caller.result c.args.frame c.args.off n) c.from.ensures
    ∙ ap (λ (x : DomId). own_access_begun ds x c.args.frame c.args.off c.args.len) c.dom-caller.ensures) in (
      refused-access m.words (knowledge m.config (g.P.Allows.may m.rights) d) d.seat.dom (requests.Peek c.args.frame c.args.off c.args.len) (IsReadBy m.words.layout)
          c.in-Some.verdict c.refusal_of.result d.seat.view tt (sym judged ∙ c.in-Some.is) c.refusal_of.ensures,
      (record { slots = refl; given = refl }, λ t r. refl),
      refl,
    )

pub returns-clause-stays : goal.returns-clause-stays
returns-clause-stays g c =
    let m = c.args.monitor.now in let d = c.args.self.now in
    (reseated m.words m.config (g.P.Allows.may m.rights) d c.read_through.new.seat c.requires.mine c.read_through.ensures.seat c.read_through.ensures.same, c.read_through.ensures.seat)

pub returns-in-Some-clause-stays : goal.returns-in-Some-clause-stays
returns-in-Some-clause-stays g c = (c.requires.mine, same_seat-self c.args.self.now.seat)
