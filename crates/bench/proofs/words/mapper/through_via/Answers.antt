use Rattle.std.proofs.Common.{◌≡◌, ◌∙◌, sym, ap, subst, true, inr}
use Rattle.gt_model.specs.Permits.{forwards}
use Rattle.gt_model.specs.declared.entry.Entry.{Entry}
use Rattle.gt_types.specs.declared.Dir.TheVariants.{Read}
use Rattle.gt_types.specs.declared.DomId.{DomId}
use Rattle.gt_word_history.specs.Controls.{LeadsTo}
use Rattle.gt_words.specs.Laws.{domain_at}
use Rattle.gt_word_history.specs.Rule.{id_at, position_in}
use Rattle.bench.proofs.Vias.{found_apart, still_seat, via_kept}
use Rattle.bench.proofs.words.mapper.through_via.Goals as goal

pub returns : goal.returns
returns c = let b = c.args.words.now in let k = b.layout in let to = c.args.target in let entry = c.look-sight.result.entry in
    let t = position_in k.ids to.granter in let o = position_in k.ids to.named in
    let looking = still_seat b _ _ c.requires.seat c.look-sight.ensures.seat in
    let granter = domain_at k to.granter c.requires.target.0 in
    let leads : LeadsTo entry (id_at k.ids t) to.gref.0 = subst (λ (z : Entry). LeadsTo z (id_at k.ids t) to.gref.0) (sym c.in-Via.is) (c.if-dom2-target.false ∙ sym (ap (λ (d : DomId). d.0) granter), c.if-to-target.false) in
    let forwarded : forwards entry c.look-sight.new.seat.dom Read ≡ true = (let a = c.forwards.ensures in let f = c.if-not-forwards.false in let d = c.dom.ensures in cc) in record {
      seat = still_seat b _ _ looking c.in-Ok.ensures.seat;
      entry = c.requires.target;
      may = inr (via_kept k t to.gref.0 o c.args.gref.0 c.look-sight.result.word to.named c.look-sight.new.seat.dom c.look-sight.new.seat.view c.pin.new.seat.view entry c.in-Ok.ensures.step c.in-Ok.ensures.seat.position looking.named c.look-sight.ensures.entry forwarded leads (domain_at k to.named c.requires.entry.0) (found_apart k to.granter to.named c.requires.target.0 c.requires.entry.0 c.requires.apart));
    }
