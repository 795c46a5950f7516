use Rattle.std.proofs.Common.{◌≡◌, ◌∙◌, ◌++◌, ◌∷◌, [], List, ap, get_or, sym}
use Rattle.std.proofs.lemmas.Option.{get_or_from_slice_get}
use Rattle.std.specs.Prelude.{slice_get}
use Rattle.gt_explore_replay.proofs.Coming.{mapped_back}
use Rattle.gt_explore_replay.specs.Orders.{doer}
use Rattle.gt_script.specs.Contents.{KeptContents}
use Rattle.gt_script.specs.RunContents.{run_contents}
use Rattle.gt_types.specs.declared.config.DomainConfig.{DomainConfig}
use Rattle.gt_explore_races.proofs.Remade.{events-more}
use Rattle.gt_explore_races.proofs.replaying.follow.Goals as goal

pub returns : goal.returns
returns c = λ at yes.
    let script = c.args.script.now in let d = run_contents script in let place = c.args.turn.place in let e = c.in-Some.domain.now in
    let on = rw c.in-Some-2.is at c.in_ok-moved.ensures.walks d at.happened at.walked in
    let one = rw c.in-Some-begun_after.is at c.begun_after.ensures d at.happened c.advance.new.self at.first on in
    let other = rw c.in-Some-begun_after-2.is at c.begun_after-2.ensures d at.happened c.advance.new.self at.second on in
    let mover = mapped_back (λ (z : DomainConfig). z.id) (slice_get d.head.domains place) (doer on.happened) on.own_move in
    let this : e ≡ mover.0 = c.in-Some.ensures.lookup.1 ∙ ap (λ (l : List DomainConfig). get_or l place e) (c.domains.ensures ∙ ap (λ (k : KeptContents). k.domains) c.head.ensures)
    ∙ get_or_from_slice_get script.head.domains place mover.0 e mover.1 in
    record {
      happened = at.happened ++ on.happened ∷ [];
      walked = on.walked;
      events = events-more at.happened on.happened c.args.near.now.events.items c.push_event.new.events.items at.events
          (c.in_ok-push_event.ensures on.happened on.shown (sym (ap (λ (z : DomainConfig). z.id) this ∙ mover.2)));
      first = one;
      second = other;
    }
