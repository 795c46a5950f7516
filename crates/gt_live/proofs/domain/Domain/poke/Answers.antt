use Rattle.std.proofs.Common.{◌≡◌, ◌∙◌, sym, ap, subst, refl, length}
use Rattle.std.specs.Prelude.{IfOk, IfErr}
use Rattle.gt_types.specs.declared.DomId.{DomId}
use Rattle.gt_model.specs.Rules.{own_access_begun}
use Rattle.gt_model.specs.declared.action.Step.TheVariants as call_steps
use Rattle.gt_model.specs.declared.request.Request.TheVariants as requests
use Rattle.gt_live.specs.Accesses.{frame_named, IsIfMissing, IsWrittenBy, WritesFrame}
use Rattle.gt_live.specs.Domains.{knowledge}
use Rattle.gt_model.specs.declared.held.AccessPath.TheVariants.{Own}
use Rattle.gt_live.proofs.Accessing.{named-access_path, none-left, one-access, own-way, refused-access}
use Rattle.gt_frames.specs.Receipts.{Writing}
use Rattle.gt_live.proofs.DomainKept.{reseated}
use Rattle.gt_live.proofs.Making.{same_seat-self}
use Rattle.gt_live.proofs.domain.Domain.poke.Goals as goal

pub returns-clause-answers : goal.returns-clause-answers
returns-clause-answers g c =
    let m = c.args.monitor.now in let d = c.args.self.now in let may = g.P.Allows.may m.rights in let k = knowledge m.config may d in
    let ds = m.config.domains.items in
    let judged : c.judge_own_access.result ≡ own_access_begun ds d.seat.dom c.args.frame c.args.off (length c.args.bytes.now) =
    c.judge_own_access.ensures ∙ (ap (λ (x : DomId). own_access_begun ds x c.args.frame c.args.off (length c.args.bytes.now)) c.dom-caller.ensures) in
    let access = call_steps.Write d.seat.dom c.args.frame c.args.off (length c.args.bytes.now) in
    let way = own-way k d.seat.dom (requests.Poke c.args.frame c.args.off c.args.bytes) access (sym judged ∙ none-left c.judge_own_access.result c.in_default.not-Some) refl in (
      one-access m.words _ access (IsWrittenBy m.words.layout d (requests.Poke c.args.frame c.args.off c.args.bytes)) c.write_through.result d.seat.view c.write_through.new.seat.view tt way
          (named-access_path m.words.layout d (requests.Poke c.args.frame c.args.off c.args.bytes) d.seat.dom c.args.frame c.args.off (length c.args.bytes.now) Own c.write_through.result d.seat.view c.write_through.new.seat.view refl
          (subst (λ (x : DomId). IfOk c.write_through.result (λ (r : Writing). WritesFrame m.words.layout (frame_named x c.args.frame) c.args.off c.args.bytes.now d.seat.dom Own r d.seat.view c.write_through.new.seat.view)) c.dom-caller.ensures c.write_through.ensures.written))
          c.write_through.ensures.unmade c.write_through.ensures.refused
          (subst (λ (x : DomId). IfErr c.write_through.result (IsIfMissing m.words (frame_named x c.args.frame))) c.dom-caller.ensures c.write_through.ensures.cause),
      (record { slots = refl; given = refl }, c.write_through.ensures.same.pins),
      refl,
    )

pub returns-in-Some-clause-answers : goal.returns-in-Some-clause-answers
returns-in-Some-clause-answers g c =
    let m = c.args.monitor.now in let d = c.args.self.now in
    let ds = m.config.domains.items in
    let judged : c.judge_own_access.result ≡ own_access_begun ds d.seat.dom c.args.frame c.args.off (length c.args.bytes.now) =
    c.judge_own_access.ensures ∙ (ap (λ (x : DomId). own_access_begun ds x c.args.frame c.args.off (length c.args.bytes.now)) c.dom-caller.ensures) in (
      refused-access m.words (knowledge m.config (g.P.Allows.may m.rights) d) d.seat.dom (requests.Poke c.args.frame c.args.off c.args.bytes) (IsWrittenBy m.words.layout d (requests.Poke c.args.frame c.args.off c.args.bytes))
          c.in-Some.verdict c.refusal_of.result d.seat.view tt (sym judged ∙ c.in-Some.is) c.refusal_of.ensures,
      (record { slots = refl; given = refl }, λ t r. refl),
      refl,
    )

pub returns-clause-stays : goal.returns-clause-stays
returns-clause-stays g c =
    let m = c.args.monitor.now in let d = c.args.self.now in
    (reseated m.words m.config (g.P.Allows.may m.rights) d c.write_through.new.seat c.requires.mine c.write_through.ensures.seat c.write_through.ensures.same, c.write_through.ensures.seat)

pub returns-in-Some-clause-stays : goal.returns-in-Some-clause-stays
returns-in-Some-clause-stays g c = (c.requires.mine, same_seat-self c.args.self.now.seat)
