use Rattle.std.proofs.Common.{◌∙◌, ap, List}
use Rattle.std.specs.Vec.{with_items}
use Rattle.std.proofs.lemmas.List.{with_items_is}
use Rattle.gt_handles.specs.Handles.{HandleMap}
use Rattle.gt_model.specs.declared.held.HeldPin.{HeldPin}
use Rattle.gt_calls.specs.declared.known.OwnerEntry.{OwnerEntry}
use Rattle.gt_live.specs.Owning.{asks_change}
use Rattle.gt_live.specs.Rows.{row_changed}
use Rattle.gt_live.specs.Domains.{knowledge}
use Rattle.gt_live.proofs.AtOnce.{idle-by}
use Rattle.gt_live.proofs.DomainKept.{changed, looked}
use Rattle.gt_live.proofs.Making.{still_seat}
use Rattle.gt_live.proofs.domain.Domain.change_own.Goals as goal

pub returns-in-Ok-clause-stays : goal.returns-in-Ok-clause-stays
returns-in-Ok-clause-stays g c =
    let m = c.args.monitor.now in let d = c.args.self.now in let may = g.P.Allows.may m.rights in
    let f = c.drive_change.new.self in let kept = c.drive_change.ensures.kept in
    let q = c.args.gref.0 in let ch = c.args.change in
    let own = with_items_is f.own c.change_row.new.own (c.change_row.auto.own ∙ c.deref_mut.ensures.len)
    ∙ c.change_row.ensures
    ∙ ap (λ (os : List OwnerEntry). row_changed os q ch) (c.deref_mut.ensures.value ∙ ap (λ v. v.items) kept.own) in (
      changed m.words m.config may d (record f { own = with_items f.own c.change_row.new.own })
          (asks_change c.args.gref ch) q ch c.requires.mine kept.seat
          (ap (λ (z : HandleMap HeldPin). z.slots) kept.mappings) own c.in-Ok.ensures.leaves,
      kept.seat,
    )

pub returns-in-Ok-clause-row : goal.returns-in-Ok-clause-row
returns-in-Ok-clause-row g c =
    let f = c.drive_change.new.self in let kept = c.drive_change.ensures.kept in
    let q = c.args.gref.0 in let ch = c.args.change in
    with_items_is f.own c.change_row.new.own (c.change_row.auto.own ∙ c.deref_mut.ensures.len) ∙ c.change_row.ensures
    ∙ ap (λ (os : List OwnerEntry). row_changed os q ch) (c.deref_mut.ensures.value ∙ ap (λ v. v.items) kept.own)

pub returns-in-Err-clause-same : goal.returns-in-Err-clause-same
returns-in-Err-clause-same g c = ap (λ v. v.items) c.drive_change.ensures.kept.own

pub returns-in-Err-clause-stays : goal.returns-in-Err-clause-stays
returns-in-Err-clause-stays g c =
    let m = c.args.monitor.now in let d = c.args.self.now in let may = g.P.Allows.may m.rights in
    let f = c.drive_change.new.self in let kept = c.drive_change.ensures.kept in (
      looked m.words m.config may d f c.requires.mine (still_seat m.words d.seat f.seat c.requires.mine.seat kept.seat)
          kept.seat.dom (ap (λ v. v.items) kept.own) (ap (λ (z : HandleMap HeldPin). z.slots) kept.mappings)
          c.in-Err.ensures.leaves,
      kept.seat,
    )

pub drive_change-requires-clause-looked : goal.drive_change-requires-clause-looked
drive_change-requires-clause-looked g c =
    let m = c.args.monitor.now in let k = knowledge m.config (g.P.Allows.may m.rights) c.args.self.now in
    idle-by k c.args.gref c.args.own c.idle_word.result c.requires.row c.idle_word.ensures
