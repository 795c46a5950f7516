use Rattle.std.proofs.Common.{◌∙◌, ap, map}
use Rattle.gt_live.specs.declared.monitor.Monitor.{Monitor}
use Rattle.gt_attached.specs.Starting.{attached_to}
use Rattle.gt_attached.proofs.starting.start.Goals as goal

pub returns-in-Ok-all_guests-clause-guests : goal.returns-in-Ok-all_guests-clause-guests
returns-in-Ok-all_guests-clause-guests g c =
    let made = c.in-Ok.made in let run = c.in-Ok.ensures.run in
    record {
      monitor = made.0;
      config = run.0;
      rights_are = run.1;
      no_frames = c.in-Ok.ensures.frames;
      domains = made.1.items;
      guests_are = c.in-Ok-all_guests.ensures
          ∙ ap (λ (m : Monitor g.row.P.Denot). map (attached_to m) made.1.items) c.in-Ok-new.ensures.ok;
      count = c.in-Ok.ensures.count;
      new = c.in-Ok.ensures.domains;
    }
