use Rattle.gt_program.specs.Obeying.{Searches}
use Rattle.gt_program.proofs.Chosen.{on_input, on_named}
use Rattle.gt_program.proofs.exploring.search_on.Goals as goal

pub returns-in-None : goal.returns-in-None
returns-in-None g c = on_input (Searches c.args.asked.now) c.args.name _ _ _ _ _ _ c.in-None.is c.input-input.ensures c.search.ensures

pub returns-in-Ok : goal.returns-in-Ok
returns-in-Ok g c = on_named (Searches c.args.asked.now) c.args.name c.in-Some.name _ _ _ _ _ _ c.in-Some.is c.in-Ok.ensures c.search-in-Ok.ensures
