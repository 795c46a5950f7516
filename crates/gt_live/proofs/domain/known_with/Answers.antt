use Rattle.std.proofs.Common.{ap, ◌∙◌, subst}
use Rattle.gt_model.specs.declared.header.Header.{Header}
use Rattle.gt_model.specs.declared.held.HeldPin.{HeldPin}
use Rattle.gt_calls.specs.Known.{knowledge_of}
use Rattle.gt_handles.specs.Handles.{HandleMap}
use Rattle.gt_words.specs.Conditions.{SeatOf}
use Rattle.gt_word_history.specs.Rule.{IsKeptHeader}
use Rattle.gt_word_history.specs.Views.{own_table}
use Rattle.gt_live.proofs.Knowing.{same-knowledge}
use Rattle.gt_live.proofs.domain.known_with.Goals as goal

pub returns-clause-known : goal.returns-clause-known
returns-clause-known g c d rows seat mapped =
    let m = c.args.monitor.now in let may = g.P.Allows.may m.rights in let own = c.args.own.now in let header = c.header.result in
    ap (λ (ms : HandleMap HeldPin). knowledge_of m.config.domains.items m.config.first_gen may own header ms) mapped
    ∙ same-knowledge m.config may d own header rows (c.header.ensures.value ∙ ap (λ (s : SeatOf). own_table s.view) seat)

pub returns-clause-kept : goal.returns-clause-kept
returns-clause-kept g c = subst (λ (h : Header). IsKeptHeader h) c.header.ensures.value c.header.ensures.kept
