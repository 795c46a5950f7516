use Rattle.std.proofs.Common.{◌≡◌, ◌∙◌, sym, subst, refl, Some, None, Option}
use Rattle.std.specs.Option.{IsSome}
use Rattle.gt_model.specs.Asking.{begun_of}
use Rattle.gt_calls.specs.Opening.{opens}
use Rattle.gt_model.specs.Rules.{unmap_begun}
use Rattle.gt_model.specs.declared.action.Step.TheVariants as call_steps
use Rattle.gt_model.specs.declared.held.HeldPin.{HeldPin}
use Rattle.gt_model.specs.declared.request.OpenRequest.TheVariants as asks
use Rattle.gt_model.specs.declared.request.PinHolder.TheVariants as holders
use Rattle.gt_model.specs.declared.request.Request.TheVariants as requests
use Rattle.gt_live.specs.Domains.{knowledge}
use Rattle.gt_live.proofs.Accessing.{mapped-way, none-left, refused-called, refuses}
use Rattle.gt_live.proofs.Making.{same_seat-self}
use Rattle.gt_live.proofs.OneStep.{one-step}
use Rattle.gt_live.proofs.AnsweredAtOnce.{mapping-refused}
use Rattle.gt_live.proofs.domain.Domain.unmap_unrecorded.Goals as goal

pub returns-in-Some : goal.returns-in-Some
returns-in-Some g c =
    let m = c.args.monitor.now in let d = c.args.self.now in let may = g.P.Allows.may m.rights in let k = knowledge m.config may d in
    let request = requests.Unmap c.args.handle in let verdict = c.in-Some.verdict in
    let begun : begun_of k d.seat.dom request ≡ Some verdict =
    sym c.judge_unmap.ensures ∙ c.in-Some.is in
    record {
      mine = c.requires.mine;
      seat = same_seat-self d.seat;
      answered = refused-called m.words.layout k d.seat.dom request c.refusal_of.result d.seat.view
          (refuses k d.seat.dom request verdict c.refusal_of.result (mapping-refused k d.seat.dom request verdict tt tt begun) begun c.refusal_of.ensures);
      removed = tt;
      refused = (record { slots = refl; given = refl }, λ t r. refl);
      silent = refl;
    }

pub drop_mapping-requires-clause-there : goal.drop_mapping-requires-clause-there
drop_mapping-requires-clause-there g c =
    let m = c.args.monitor.now in let d = c.args.self.now in let c0 = knowledge m.config (g.P.Allows.may m.rights) d in
    let begun : unmap_begun c0 d.seat.dom c.args.handle ≡ None = sym c.judge_unmap.ensures ∙ none-left c.judge_unmap.result c.in_default.not-Some in
    subst (λ (x : Option HeldPin). IsSome x) (sym (opens c0 d.seat.dom (asks.Unmap c.args.handle) begun).found) refl

pub returns : goal.returns
returns g c =
    let m = c.args.monitor.now in let d = c.args.self.now in let c0 = knowledge m.config (g.P.Allows.may m.rights) d in
    let h = c.args.handle in let did = c.drop_mapping.ensures in let held = did.dropped.0 in
    let begun : begun_of c0 d.seat.dom (requests.Unmap h) ≡ None = sym c.judge_unmap.ensures ∙ none-left c.judge_unmap.result c.in_default.not-Some in
    let way = mapped-way c0 d.seat.dom (requests.Unmap h) h held (λ (p : HeldPin). call_steps.Unpin p (holders.Mapping h)) begun did.dropped.1.taken.value refl in
    record {
      mine = did.mine;
      seat = did.seat;
      answered = one-step m.words.layout _ (call_steps.Unpin held (holders.Mapping h)) d.seat.view c.drop_mapping.new.self.seat.view way did.dropped.2;
      removed = did.left;
      refused = tt;
      silent = did.silent;
    }
