-- The moves and turns of the runs in a number of blocks.
use Rattle.std.proofs.Common.{◌≡◌, ◌+◌, ◌≤◌, ◌<◌, ℕ, suc, Bool, true, false, List, [], ◌∷◌, Option, Some}
use Rattle.std.proofs.Common.{refl, sym, ap, ◌∙◌, subst, arith}
use Rattle.std.specs.Prelude.{◌&&◌, filter, is_some, not, slice_get, if◌then◌else◌}
use Rattle.std.proofs.lemmas.Bool.{le-leb}
use Rattle.gt_explore_changes.specs.Blocks.{blocks_with, is_last}
use Rattle.gt_explore_changes.specs.Waiting.{actor_waits, course_waits, may_end_within, waiting_by}
use Rattle.gt_explore_changes.specs.Ways.{BlockPoint, ShowsBlocks, block_ways}
use Rattle.gt_explore_changes.specs.declared.parts.BlockState.{BlockState}
use Rattle.gt_explore_changes.proofs.Waiting.{among-filtered, first-left, last-so, one-less, one-more, own-first, same-waiting}
use Rattle.gt_explore_moves.specs.Ends.{tasks_at}
use Rattle.gt_explore_moves.specs.Spaces.{scene_ways}
use Rattle.gt_explore_moves.specs.declared.scene.SearchContext.{SearchContext}
use Rattle.gt_explore_replay.specs.Courses.{AllCoursesEnd, Course}
use Rattle.gt_explore_search.specs.Ways.{GoesTo, HasEachTurn, HasEnoughTurns, LedFits, MovesTo}
use Rattle.gt_explore_search.specs.declared.spaces.Turn.{Turn}
use Rattle.gt_explore_search.specs.declared.spaces.TurnResult.{TurnResult}
use Rattle.gt_explore_search.specs.declared.spaces.TurnResult.TheVariants.{Answered, Nowhere, On}
use Rattle.gt_script.specs.Lists.{RunTask}

-- at the end no domain waits
none-counted : (l b : Bool) → b ≡ false → ◌≡◌ {A = ℕ} (if not l && b then 1 else 0) 0
none-counted l b e = subst (λ (h : Bool). ◌≡◌ {A = ℕ} (if not l && h then 1 else 0) 0) (sym e) (none l)
  where
    none : (l : Bool) → ◌≡◌ {A = ℕ} (if not l && false then 1 else 0) 0
    none true = refl
    none false = refl

none-waits : (last : Option ℕ) (at : ℕ) (ks : List Course) → AllCoursesEnd ks → waiting_by course_waits last at ks ≡ 0
none-waits last at [] over = refl
none-waits last at (k ∷ ks) over =
    let rest = none-waits last (suc at) ks over.1 in
    let none : course_waits at k ≡ false = ap (λ (tasks : List RunTask). is_some (slice_get tasks 0)) over.0.tasks in
    let head = none-counted (is_last last at) (course_waits at k) none in
    omega (arith, head, rest)

module _ (scene : SearchContext) (most : ℕ) where
  -- a run that ends needs a block for each other domain that waits
  pub ends-within : (p : BlockPoint) (turns : List Turn) (q : BlockPoint) → GoesTo (block_ways scene most) p turns q → p.blocks ≤ most
      → p.blocks + waiting_by course_waits p.last 0 p.run.courses ≤ most
  ends-within p [] q (same, over) few =
      let none = none-waits p.last 0 p.run.courses over in omega (arith, none, few)
  ends-within p (t ∷ ts) q (m, next, goes) few =
      let rest = ends-within m ts q goes next.few in
      let last : waiting_by course_waits m.last 0 m.run.courses ≡ waiting_by course_waits (Some t.place) 0 p.run.courses =
      ap (λ (l : Option ℕ). waiting_by course_waits l 0 m.run.courses) next.last
      ∙ ap (λ (ks : List Course). waiting_by course_waits (Some t.place) 0 ks) next.run.courses
      ∙ own-first course_waits t.place p.run.courses next.run.j in
      let more = one-more p.last p.blocks t.place (waiting_by course_waits p.last 0 p.run.courses) (waiting_by course_waits (Some t.place) 0 p.run.courses)
      (one-less course_waits p.last t.place 0 p.run.courses)
      (λ is. ap (λ (l : Option ℕ). waiting_by course_waits l 0 p.run.courses) (last-so p.last t.place is)) in
      let blocks = next.blocks in
      omega (arith, rest, last, more, blocks)

  -- the domains that wait in a state are those that wait on their courses
  waits-so : (w : BlockState) (p : BlockPoint) (last : Option ℕ) → ShowsBlocks scene w p
      → waiting_by (actor_waits scene) last 0 w.scene_state.actors.items ≡ waiting_by course_waits last 0 p.run.courses
  waits-so w p last shows =
      same-waiting (actor_waits scene) course_waits last 0 w.scene_state.actors.items p.run.courses (sym shows.run.1.many)
      (λ i a k there other.
      let e : 0 + i ≡ i = omega arith in
      subst (λ (n : ℕ). actor_waits scene n a ≡ course_waits n k) (sym e)
      (ap is_some (sym (ap (λ (tasks : List RunTask). slice_get tasks 0) (shows.run.1.each i k a other there).left ∙ first-left a.next (tasks_at scene i)))))

  -- the turns that are left are enough
  pub turns-enough : (w : BlockState) (all turns : List Turn) → HasEachTurn (scene_ways scene) w.scene_state all → turns ≡ filter (may_end_within most scene w) all
      → HasEnoughTurns (block_ways scene most) w turns
  turns-enough w all turns each are p turn m more q shows next goes =
      let (at, there) = each p.run turn m.run shows.run next.run in
      let ends = ends-within m more q goes next.few in
      let last : waiting_by course_waits m.last 0 m.run.courses ≡ waiting_by course_waits (Some turn.place) 0 p.run.courses =
      ap (λ (l : Option ℕ). waiting_by course_waits l 0 m.run.courses) next.last
      ∙ ap (λ (ks : List Course). waiting_by course_waits (Some turn.place) 0 ks) next.run.courses
      ∙ own-first course_waits turn.place p.run.courses next.run.j in
      let same = waits-so w p (Some turn.place) shows in
      let blocks : blocks_with w.last w.blocks turn.place ≡ m.blocks =
      ap (λ (l : Option ℕ). blocks_with l w.blocks turn.place) shows.last ∙ ap (λ (n : ℕ). blocks_with p.last n turn.place) shows.blocks ∙ sym next.blocks in
      let few : blocks_with w.last w.blocks turn.place + waiting_by (actor_waits scene) (Some turn.place) 0 w.scene_state.actors.items ≤ most = omega (arith, ends, last, same, blocks) in
      let (j, found) = among-filtered (may_end_within most scene w) all at turn there (le-leb _ _ few) in
      (turn, m, more, q, (j, ap (λ (l : List Turn). slice_get l j) are ∙ found), next, goes, λ at. refl)

  fits : (led : TurnResult) (place : ℕ) (p q : BlockPoint) → LedFits (scene_ways scene) led place p.run q.run → LedFits (block_ways scene most) led place p q
  fits Nowhere place p q led = led
  fits On place p q led = led
  fits (Answered line) place p q led = led

  -- a move
  pub moves-on : (old : BlockState) (turn : Turn) (led : TurnResult) (new : BlockState) (blocks : ℕ) → blocks ≡ blocks_with old.last old.blocks turn.place
      → new.last ≡ Some turn.place → new.blocks ≡ blocks → MovesTo (scene_ways scene) old.scene_state turn led new.scene_state → MovesTo (block_ways scene most) old turn led new
  moves-on old turn led new blocks are last is moves p q shows next =
      let made = moves p.run q.run shows.run next.run in (
        fits led turn.place p q made.0,
        record {
          run = made.1;
          last = last ∙ sym next.last;
          blocks = is ∙ are ∙ ap (λ (l : Option ℕ). blocks_with l old.blocks turn.place) shows.last ∙ ap (λ (n : ℕ). blocks_with p.last n turn.place) shows.blocks ∙ sym next.blocks;
        },
      )

  -- there is no move into too many blocks
  pub moves-nowhere : (old : BlockState) (turn : Turn) (new : BlockState) → most < blocks_with old.last old.blocks turn.place → MovesTo (block_ways scene most) old turn Nowhere new
  moves-nowhere old turn new many p q shows next =
      let blocks : blocks_with old.last old.blocks turn.place ≡ q.blocks =
      ap (λ (l : Option ℕ). blocks_with l old.blocks turn.place) shows.last ∙ ap (λ (n : ℕ). blocks_with p.last n turn.place) shows.blocks ∙ sym next.blocks in
      let few = next.few in
      absurd (omega (arith, many, blocks, few))
