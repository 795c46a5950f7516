use Rattle.std.proofs.Common.{◌≡◌, ◌∙◌, ap, sym, subst, refl, Option}
use Rattle.gt_model.specs.Asking.{begun_of}
use Rattle.gt_model.specs.Path.{Continuation, after_beginning, path, path_of, steps_of}
use Rattle.gt_model.specs.declared.action.CallResult.{CallResult}
use Rattle.gt_model.specs.declared.action.CallResult.TheVariants.{Refused}
use Rattle.gt_model.specs.declared.request.OpenRequest.{OpenRequest}
use Rattle.gt_model.specs.declared.request.OpenRequest.TheVariants as asks
use Rattle.gt_model.specs.declared.request.Request.TheVariants as requests
use Rattle.gt_live.specs.Domains.{knowledge, verdict_of}
use Rattle.gt_live.specs.Walks.{Called}
use Rattle.gt_live.proofs.AtOnce.{once-called}
use Rattle.gt_live.proofs.Making.{same_seat-self}
use Rattle.gt_live.proofs.domain.Domain.grant_bytes.Goals as goal

pub returns-in-Ok : goal.returns-in-Ok
returns-in-Ok g c =
    let m = c.args.monitor.now in let d = c.args.self.now in let k = knowledge m.config (g.P.Allows.may m.rights) d in
    let e = c.change_own.ensures in let entry = c.in-Ok.entry in let open_so = c.in-Ok.ensures.open in
    let request = requests.GrantBytes c.args.gref c.args.bytes in
    let same : path k d.seat.dom (asks.Grant c.args.gref entry) ≡ path_of k d.seat.dom request =
    ap (λ (o : Option CallResult). after_beginning o (steps_of k d.seat.dom (asks.Grant c.args.gref entry)))
    (open_so.2 ∙ sym open_so.0)
    ∙ ap (λ (a : OpenRequest). after_beginning (begun_of k d.seat.dom request) (steps_of k d.seat.dom a)) open_so.1 in
    record {
      stays = e.stays;
      answers = (
        subst (λ (way : Continuation). Called m.words.layout way (verdict_of c.change_own.result) d.seat.view c.change_own.new.self.seat.view)
            same e.called,
        e.kept,
        e.silent,
      );
    }

pub returns-in-Err : goal.returns-in-Err
returns-in-Err g c =
    let m = c.args.monitor.now in let d = c.args.self.now in let k = knowledge m.config (g.P.Allows.may m.rights) d in
    record {
      stays = (c.requires.mine, same_seat-self d.seat);
      answers = (
        once-called m.words.layout k d.seat.dom (requests.GrantBytes c.args.gref c.args.bytes) (Refused c.in-Err.denial)
            d.seat.view tt c.in-Err.ensures.refused,
        (record { slots = refl; given = refl }, λ t r. refl),
        refl,
      );
    }
