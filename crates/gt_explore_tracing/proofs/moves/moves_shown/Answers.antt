use Rattle.gt_explore_tracing.proofs.moves.moves_shown.Goals as goal

pub returns : goal.returns
returns c = record {
  text = c.args.made.now.text.items;
  numbered = c.requires.numbered;
  moves = c.args.made.now.moves.items;
  gives = c.requires.gives;
  is_fewest = c.args.made.now.is_fewest;
  fewest = c.requires.fewest;
  shown = rw c.new-out.ensures.items at c.in_ok-push_moves.ensures;
}
