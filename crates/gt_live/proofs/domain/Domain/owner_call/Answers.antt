use Rattle.std.proofs.Common.{◌≡◌, ◌<◌, ◌∙◌, sym, subst, arith, length}
use Rattle.std.specs.Prelude.{Result, OnOk}
use Rattle.gt_types.specs.declared.denial.Denial.{Denial}
use Rattle.gt_model.specs.Entries.{changed_entry}
use Rattle.gt_model.specs.Path.{path}
use Rattle.gt_live.specs.Domains.{knowledge, verdict_of}
use Rattle.gt_live.specs.Following.{own_entry_at}
use Rattle.gt_live.specs.Owning.{asks_change}
use Rattle.gt_live.specs.Walks.{Called}
use Rattle.gt_live.proofs.AtOnce.{begun-called}
use Rattle.gt_live.proofs.Following.{on-ok, once-changed, row-entry}
use Rattle.gt_live.proofs.domain.Domain.owner_call.Goals as goal

pub returns-in-Some-clause-called : goal.returns-in-Some-clause-called
returns-in-Some-clause-called g c =
    let m = c.args.monitor.now in let d = c.args.self.now in let k = knowledge m.config (g.P.Allows.may m.rights) d in
    let way = path k d.seat.dom (asks_change c.args.gref c.args.change) in
    subst (λ (r : Result (Unit {0}) Denial). Called m.words.layout way (verdict_of r) d.seat.view d.seat.view) (sym c.done.ensures)
    (begun-called m.words.layout k d.seat.dom c.args.gref c.args.change c.in-Some.verdict d.seat.view
    (sym c.judge_own.ensures ∙ c.in-Some.is))

pub returns-in-Some-clause-changed : goal.returns-in-Some-clause-changed
returns-in-Some-clause-changed g c =
    let m = c.args.monitor.now in let d = c.args.self.now in let k = knowledge m.config (g.P.Allows.may m.rights) d in
    let here = own_entry_at d c.args.gref in
    λ lt. subst (λ (r : Result (Unit {0}) Denial). OnOk r (here ≡ changed_entry c.args.change here)) (sym c.done.ensures)
    (once-changed k d.seat.dom c.args.gref c.args.change c.in-Some.verdict (sym c.judge_own.ensures ∙ c.in-Some.is))

pub returns-clause-changed : goal.returns-clause-changed
returns-clause-changed g c =
    let d = c.args.self.now in let e = c.change_own.new.self in let all = c.requires.mine.all_rows in
    λ lt.
    let inside : c.args.gref.0 < length d.own.items = omega (arith, all, lt) in
    on-ok c.change_own.result _ _ (row-entry d.own.items e.own.items c.args.gref.0 c.args.change inside) c.change_own.ensures.row
