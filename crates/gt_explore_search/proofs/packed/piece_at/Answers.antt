use Rattle.std.proofs.Common.{List, ℕ, Bor, ap, sym, ◌∙◌}
use Rattle.std.specs.Option.{option_map}
use Rattle.gt_explore_search.proofs.Listing.{tail_none, tail_stored}
use Rattle.gt_explore_search.proofs.packed.piece_at.Goals as goal

pub returns-in-Some : goal.returns-in-Some
returns-in-Some c = sym (tail_stored c.args.pieces.now c.args.number c.in-Some.piece.now (sym c.get.ensures ∙ ap (option_map (λ (l : Bor (List ℕ)). l.now)) c.in-Some.is))

pub returns-in-None : goal.returns-in-None
returns-in-None c = sym (tail_none c.args.pieces.now c.args.number (sym c.get.ensures ∙ ap (option_map (λ (l : Bor (List ℕ)). l.now)) c.in-None.is))
