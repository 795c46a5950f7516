use Rattle.std.proofs.Common.{◌≡◌, ◌<◌, ◌∙◌, ap, arith, refl, subst, sym, length, List}
use Rattle.std.specs.Prelude.{Result, OnOk}
use Rattle.gt_types.specs.declared.denial.Denial.{Denial}
use Rattle.gt_model.specs.Entries.{changed_entry}
use Rattle.gt_model.specs.declared.change.EntryChange.TheVariants.{Withdraw}
use Rattle.gt_model.specs.Path.{path}
use Rattle.gt_calls.specs.Known.{entry_in}
use Rattle.gt_calls.specs.declared.known.OwnerEntry.{OwnerEntry}
use Rattle.gt_model.specs.declared.request.OpenRequest.TheVariants as asks
use Rattle.gt_model.specs.declared.request.Request.TheVariants as requests
use Rattle.gt_live.specs.Domains.{knowledge, verdict_of}
use Rattle.gt_live.specs.Following.{own_entry_at}
use Rattle.gt_live.specs.Rows.{row_changed}
use Rattle.gt_live.specs.Walks.{Called}
use Rattle.gt_live.proofs.AnsweredAtOnce.{answered-once}
use Rattle.gt_live.proofs.Closing.{after-refusal, called-goes, on-err, once-refused, quiet-self}
use Rattle.gt_live.proofs.AtOnce.{begun-called}
use Rattle.gt_live.proofs.Following.{on-ok, row-entry}
use Rattle.gt_live.proofs.domain.Domain.withdraw_row.Goals as goal

pub returns-in-Some : goal.returns-in-Some
returns-in-Some g c =
    let m = c.args.monitor.now in let d = c.args.self.now in let k = knowledge m.config (g.P.Allows.may m.rights) d in
    let way = path k d.seat.dom (asks.Withdraw c.args.gref) in let here = own_entry_at d c.args.gref in
    let begun = sym c.judge_own.ensures ∙ c.in-Some.is in
    let once = answered-once k d.seat.dom (requests.Withdraw c.args.gref) c.in-Some.verdict tt begun in
    let quiet = quiet-self d in
    record {
      mine = c.requires.mine;
      quiet = quiet;
      asked = (
        (c.requires.mine, quiet.seat),
        record {
          answers = (
            subst (λ (r : Result (Unit {0}) Denial). Called m.words.layout way (verdict_of r) d.seat.view d.seat.view) (sym c.done.ensures)
                (begun-called m.words.layout k d.seat.dom c.args.gref Withdraw c.in-Some.verdict d.seat.view begun),
            quiet.pinned,
            refl,
          );
          changed = subst (λ (r : Result (Unit {0}) Denial). OnOk r (here ≡ changed_entry Withdraw here)) (sym c.done.ensures)
              (once-refused c.args.gref c.in-Some.verdict _ once);
          same = after-refusal c.done.result _ refl;
        },
      );
      gone = subst (λ (r : Result (Unit {0}) Denial). OnOk r (d.own.items ≡ row_changed d.own.items c.args.gref.0 Withdraw)) (sym c.done.ensures)
          (once-refused c.args.gref c.in-Some.verdict _ once);
      same = after-refusal c.done.result _ refl;
    }

pub returns : goal.returns
returns g c =
    let d = c.args.self.now in let f = c.change_own.new.self in let r = c.args.gref.0 in
    let e = c.change_own.ensures in let all = c.requires.mine.all_rows in
    let inside : r < length d.own.items = omega (arith, all, c.requires.entry) in
    record {
      mine = e.stays.0;
      quiet = record { seat = e.stays.1; pinned = e.kept; trail = e.silent; goes_on = called-goes e.called };
      asked = (
        e.stays,
        record {
          answers = (e.called, e.kept, e.silent);
          changed = on-ok c.change_own.result _ _ (row-entry d.own.items f.own.items r Withdraw inside) e.row;
          same = on-err c.change_own.result _ _ (λ same. ap (λ (os : List OwnerEntry). entry_in os r) same) e.same;
        },
      );
      gone = e.row;
      same = e.same;
    }
