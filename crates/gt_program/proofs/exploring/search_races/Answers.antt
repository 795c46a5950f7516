use Rattle.gt_program.specs.Obeying.{RacesSearched}
use Rattle.gt_program.proofs.Obeyed.{verdict_answer}
use Rattle.gt_program.proofs.exploring.search_races.Goals as goal

pub returns-in-Ok : goal.returns-in-Ok
returns-in-Ok g c = λ all e.
    verdict_answer (RacesSearched c.args.options.now all (g.W.Write.contents c.args.out.now) (g.W.Write.contents c.explore_races.new.writer)) _ _ c.of_verdict.ensures (c.in-Ok.ensures all e)
