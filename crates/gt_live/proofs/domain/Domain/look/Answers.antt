use Rattle.std.proofs.Common.{refl, subst}
use Rattle.gt_types.specs.declared.DomId.{DomId}
use Rattle.gt_words.specs.Answers.{LooksAtControl}
use Rattle.gt_word_history.specs.Rule.{position_in}
use Rattle.gt_model.specs.declared.action.Observation.TheVariants.{Word}
use Rattle.gt_model.specs.declared.action.Step.TheVariants.{LookControl}
use Rattle.gt_live.specs.Walks.{Made}
use Rattle.gt_live.specs.declared.domain.Domain.{Domain}
use Rattle.gt_live.proofs.ActionsAllowed.{own-of-run}
use Rattle.gt_live.proofs.Closing.{look-quiet}
use Rattle.gt_live.proofs.DomainKept.{looked}
use Rattle.gt_live.proofs.Making.{look-same}
use Rattle.gt_live.proofs.domain.Domain.look.Goals as goal

pub load_control-requires-clause-entry : goal.load_control-requires-clause-entry
load_control-requires-clause-entry g c =
    let m = c.args.monitor.now in let d = c.args.self.now in (
      own-of-run m.words.layout d.seat.view d.seat.dom c.dom-dom.result c.requires.mine.seat.named c.requires.mine.seat.inside
          c.dom-dom.ensures,
      c.requires.entry,
    )

pub returns-clause-mine : goal.returns-clause-mine
returns-clause-mine g c =
    let m = c.args.monitor.now in let d = c.args.self.now in let k = m.words.layout in
    let l = c.load_control in let f : Domain = record d { seat = l.new.seat } in
    let look = subst (λ (q : DomId). LooksAtControl k (position_in k.ids q) c.args.gref.0 l.result d.seat.view f.seat.view) c.dom-dom.ensures l.ensures.look in
    let made : Made k (LookControl d.seat.dom c.args.gref) (Word l.result) d.seat.view f.seat.view = (look, λ _. l.ensures.own c.dom-dom.ensures) in
    looked m.words m.config (g.P.Allows.may m.rights) d f c.requires.mine l.ensures.fits l.ensures.seat.dom refl refl
    (look-same k (LookControl d.seat.dom c.args.gref) (Word l.result) d.seat.view f.seat.view made tt)

pub returns-clause-quiet : goal.returns-clause-quiet
returns-clause-quiet g c =
    let m = c.args.monitor.now in let d = c.args.self.now in let k = m.words.layout in
    let l = c.load_control in let f : Domain = record d { seat = l.new.seat } in
    let look = subst (λ (q : DomId). LooksAtControl k (position_in k.ids q) c.args.gref.0 l.result d.seat.view f.seat.view) c.dom-dom.ensures l.ensures.look in
    let made : Made k (LookControl d.seat.dom c.args.gref) (Word l.result) d.seat.view f.seat.view = (look, λ _. l.ensures.own c.dom-dom.ensures) in
    look-quiet k d f c.args.gref.0 l.result (record { seat = l.ensures.seat; own = refl; mappings = refl; trail = refl }) made
