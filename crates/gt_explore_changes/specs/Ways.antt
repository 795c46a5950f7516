-- The runs of a script in at most a number of blocks.
use Rattle.std.specs.Prelude.{◌≡◌, ◌≤◌, ℕ, Option, Some, None, length}
use Rattle.gt_explore_changes.specs.Blocks.{blocks_with}
use Rattle.gt_explore_changes.specs.declared.parts.BlockState.{BlockState}
use Rattle.gt_explore_moves.specs.Spaces.{BeginsAt, Point, RunComesTo, begins_blank, printed_by, scene_ways}
use Rattle.gt_explore_moves.specs.declared.scene.SearchContext.{SearchContext}
use Rattle.gt_explore_replay.specs.Courses.{AllCoursesEnd}
use Rattle.gt_explore_search.specs.Ways.{Ways}
use Rattle.gt_explore_search.specs.declared.spaces.Turn.{Turn}

-- the point of a run, with the domain that moved last and the number of blocks so far
pub record BlockPoint : Type 0 where
  pub run : Point
  pub last : Option ℕ
  pub blocks : ℕ

-- a run begins
pub record BeginsWithout (scene : SearchContext) (p : BlockPoint) : Type 0 where
  pub run : BeginsAt scene p.run
  pub last : p.last ≡ None
  pub blocks : p.blocks ≡ 0

-- by this turn a run moves from here to there, in at most this number of blocks
pub record ComesWithin (most : ℕ) (p : BlockPoint) (turn : Turn) (q : BlockPoint) : Type 0 where
  pub run : RunComesTo p.run turn q.run
  pub last : q.last ≡ Some turn.place
  pub blocks : q.blocks ≡ blocks_with p.last p.blocks turn.place
  pub few : q.blocks ≤ most

-- the state shows a run that is here
pub record ShowsBlocks (scene : SearchContext) (w : BlockState) (p : BlockPoint) : Type 0 where
  pub run : (scene_ways scene).shows w.scene_state p.run
  pub last : w.last ≡ p.last
  pub blocks : w.blocks ≡ p.blocks

-- the runs of a context in at most this number of blocks
abbrev pub block_ways : SearchContext → ℕ → Ways BlockState
block_ways scene most = record {
  Point = BlockPoint;
  domains = length scene.roster.domains.items;
  begins = BeginsWithout scene;
  next = ComesWithin most;
  ends = λ p. AllCoursesEnd p.run.courses;
  printed = λ p. printed_by p.run.courses;
  shows = ShowsBlocks scene;
  blank = λ p begins. begins_blank scene p.run begins.run;
}
