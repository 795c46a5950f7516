use Rattle.std.proofs.Common.{sym, ◌∙◌, ap}
use Rattle.std.specs.Option.{option_copied}
use Rattle.gt_explore_search.proofs.Listing.{items_none, items_stored}
use Rattle.gt_explore_search.proofs.suffixes.AnswerLists.bytes.Goals as goal

pub returns-in-Some : goal.returns-in-Some
returns-in-Some c =
    c.as_slice.ensures.value ∙ sym (items_stored c.args.self.now.lines.keys c.args.line c.in-Some.bytes.now (sym c.get_index.ensures.key ∙ ap option_copied c.in-Some.is))

pub returns-in-None : goal.returns-in-None
returns-in-None c = sym (items_none c.args.self.now.lines.keys c.args.line (sym c.get_index.ensures.key ∙ ap option_copied c.in-None.is))
