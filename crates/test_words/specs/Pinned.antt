-- The pins of the tests' caller.
use Rattle.std.specs.Prelude.{◌≡◌}
use Rattle.gt_types.specs.declared.Dir.{Dir}
use Rattle.gt_types.specs.declared.DomId.{DomId}
use Rattle.gt_types.specs.declared.GrantRef.{GrantRef}
use Rattle.gt_words.specs.Conditions.{Board, Holds, HoldsOneMore, position_at}
use Rattle.gt_word_history.specs.Controls.{generation_of}
use Rattle.gt_word_history.specs.declared.view.View.{View}
use Rattle.gt_words.specs.declared.words.Pin.{Pin}

-- the pin was taken of this entry: the view has one more of its kind and generation, and as many of any other
pub record IsPinned (b : Board) (d : DomId) (q : GrantRef) (dir : Dir) (p : Pin) (v w : View) : Type 0 where
  pub pin : p ≡ record { dom = d; gref = q; word = p.word; dir = dir }
  pub held : Holds (position_at b d) q.0 dir (generation_of p.word) w
  pub one_more : HoldsOneMore (position_at b d) q.0 dir (generation_of p.word) v w
