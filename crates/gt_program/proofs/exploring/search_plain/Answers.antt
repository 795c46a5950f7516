use Rattle.std.proofs.Common.{subst, sym}
use Rattle.gt_explore_claims.specs.Exploring.{ClaimsExplored}
use Rattle.gt_program.specs.Obeying.{MovesExplored, SearchesPlain, SummaryExplored}
use Rattle.gt_program.specs.declared.exploring.SearchAsked.{SearchAsked}
use Rattle.gt_program.proofs.Obeyed.{explored_so}
use Rattle.gt_program.proofs.exploring.search_plain.Goals as goal

pub returns-in-Several : goal.returns-in-Several
returns-in-Several g c = λ all e.
    subst (λ (a : SearchAsked). SearchesPlain a all (g.W.Write.contents c.args.out.now) (g.W.Write.contents c.explore_claims-claimed.new.writer) c.explored_ending-in-Several.result) (sym c.in-Several.is)
    (explored_so (ClaimsExplored c.in-Several.options all (g.W.Write.contents c.args.out.now) (g.W.Write.contents c.explore_claims-claimed.new.writer)) _ _ c.explored_ending-in-Several.ensures (c.explore_claims-claimed.ensures all e))

pub returns-in-Together : goal.returns-in-Together
returns-in-Together g c = λ all e.
    subst (λ (a : SearchAsked). SearchesPlain a all (g.W.Write.contents c.args.out.now) (g.W.Write.contents c.summary_asked-summed.new.out) c.explored_ending-in-Together.result) (sym c.in-Together.is)
    (explored_so (SummaryExplored c.in-Together.options all (g.W.Write.contents c.args.out.now) (g.W.Write.contents c.summary_asked-summed.new.out)) _ _ c.explored_ending-in-Together.ensures (c.summary_asked-summed.ensures all e))

pub returns-in-Moves : goal.returns-in-Moves
returns-in-Moves g c = λ all e.
    subst (λ (a : SearchAsked). SearchesPlain a all (g.W.Write.contents c.args.out.now) (g.W.Write.contents c.moves_asked-traced.new.out) c.explored_ending-in-Moves.result) (sym c.in-Moves.is)
    (explored_so (MovesExplored c.in-Moves.options all (g.W.Write.contents c.args.out.now) (g.W.Write.contents c.moves_asked-traced.new.out)) _ _ c.explored_ending-in-Moves.ensures (c.moves_asked-traced.ensures all e))

pub returns-in-Moment : goal.returns-in-Moment
returns-in-Moment g c = λ all e.
    subst (λ (a : SearchAsked). SearchesPlain a all (g.W.Write.contents c.args.out.now) (g.W.Write.contents c.search_moment.new.out) c.search_moment.result) (sym c.in-Moment.is)
    (c.search_moment.ensures all e)

pub returns-in-Races : goal.returns-in-Races
returns-in-Races g c = λ all e.
    subst (λ (a : SearchAsked). SearchesPlain a all (g.W.Write.contents c.args.out.now) (g.W.Write.contents c.search_races.new.out) c.search_races.result) (sym c.in-Races.is)
    (c.search_races.ensures all e)
