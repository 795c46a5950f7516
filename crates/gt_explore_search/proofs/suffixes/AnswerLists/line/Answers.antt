use Rattle.std.proofs.Common.{refl}
use Rattle.gt_explore_search.proofs.Listing.{line_added, has_line}
use Rattle.gt_explore_search.proofs.suffixes.AnswerLists.line.Goals as goal

pub returns-clause-grows : goal.returns-clause-grows
returns-clause-grows c = line_added c.args.self.now _ _ c.args.line refl refl c.in_ok-number.ensures.keys

pub returns-clause-line : goal.returns-clause-line
returns-clause-line c = let s = c.in_ok-number.ensures.stored in has_line (record c.args.self.now { lines = c.insert_full.new.self }) c.in_ok-number.number c.args.line.items s.0 s.1 s.2
