use Rattle.std.proofs.Common.{◌∙◌, ◌++◌, List, ap, sym, ℕ}
use Rattle.gt_state_claims.specs.Claims.{claim_asked}
use Rattle.gt_moment_scripts.specs.Naming.{entries_named}
use Rattle.gt_moment_scripts.specs.Showing.{show_lines, shown_among}
use Rattle.gt_moment_scripts.specs.declared.naming.NamedEntry.{NamedEntry}
use Rattle.gt_moment_scripts.proofs.Pieces.{piece_of}
use Rattle.gt_moment_scripts.proofs.playing.shows_moment.Goals as goal

pub returns : goal.returns
returns c = λ yes.
    let view = shown_among c.args.entries.now.rows.now in
    record {
      out = c.in_ok-out.out.items;
      played = c.in_ok-out.ensures;
      view = view;
      holds = sym (c.holds.ensures view (λ d r v k. k)) ∙ c.if-not-holds.false;
      line = c.args.line;
      shown = piece_of c.as_slice.result.now c.in_ok-out.out.items c.as_slice-2.result.now
          (show_lines c.args.line (entries_named (claim_asked c.args.claim.now)) view)
          c.as_slice.ensures.value
          (c.as_slice-2.ensures.value ∙ c.in_ok-push_show_lines.ensures
          ∙ ap (λ (l : List ℕ). l ++ show_lines c.args.line c.args.named.now view) c.new-wanted.ensures.items
          ∙ ap (λ (es : List NamedEntry). show_lines c.args.line es view) c.requires)
          (c.has_piece.ensures yes);
    }
