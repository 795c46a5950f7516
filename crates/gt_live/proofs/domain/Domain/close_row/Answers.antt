use Rattle.std.proofs.Common.{◌≡◌, ◌∙◌, ap, subst, List}
use Rattle.std.specs.Prelude.{slice_get}
use Rattle.gt_types.specs.declared.DomId.{DomId}
use Rattle.gt_words.specs.Conditions.{IsWordOf}
use Rattle.gt_word_history.specs.declared.view.EntryRecord.{EntryRecord}
use Rattle.gt_calls.specs.Known.{entry_in, own_generation}
use Rattle.gt_calls.specs.declared.known.OwnerEntry.{OwnerEntry}
use Rattle.gt_model.specs.declared.action.Observation.TheVariants.{Word}
use Rattle.gt_model.specs.declared.action.Step.TheVariants.{LookControl}
use Rattle.gt_live.specs.Walks.{Made}
use Rattle.gt_live.proofs.Closing.{quiet-then, valid-used}
use Rattle.gt_live.proofs.domain.Domain.close_row.Goals as goal

pub returns : goal.returns
returns g c =
    let m = c.args.monitor.now in let may = g.P.Allows.may m.rights in
    let d = c.args.self.now in let e = c.withdraw_often.new.self in let f = c.look.new.self in
    let a = c.withdraw_often.ensures in let b = c.look.ensures in let r = c.args.gref.0 in
    let own : f.own.items ≡ e.own.items = ap (λ v. v.items) b.kept.own in
    let row = b.mine.rows r c.requires.entry in
    record {
      mine = b.mine;
      quiet = quiet-then d e f a.quiet b.quiet;
      closed = record {
        between = e;
        shut = a.shut;
        look = subst (λ (q : DomId). Made m.words.layout (LookControl q c.args.gref) (Word c.look.result) e.seat.view f.seat.view) a.quiet.seat.dom b.made;
        kept = b.kept;
        others = λ q ne. ap (λ (os : List OwnerEntry). slice_get os q) own ∙ a.others q ne;
      };
      counted = valid-used (entry_in f.own.items r) (own_generation m.config.first_gen f.own.items r) c.look.result
          (subst (λ (x : EntryRecord). IsWordOf x c.look.result) row b.own);
    }
