use Rattle.std.proofs.Common.{◌≡◌, ◌∙◌, ◌+◌, ◌++◌, ◌∷◌, [], List, Some, ap, get_or, option_map, subst, sym, take}
use Rattle.std.proofs.lemmas.List.{take_all, take_more}
use Rattle.std.specs.Prelude.{slice_get}
use Rattle.gt_types.specs.declared.DomId.{DomId}
use Rattle.gt_types.specs.declared.config.DomainConfig.{DomainConfig}
use Rattle.gt_script.specs.RunContents.{run_contents}
use Rattle.gt_explore_replay.specs.Orders.{doer}
use Rattle.gt_explore_search.specs.declared.spaces.Turn.{Turn}
use Rattle.gt_explore_trace.specs.Moves.{AreByTurns, AreMovesOf}
use Rattle.gt_explore_trace.specs.declared.moves.TracedMove.{TracedMove}
use Rattle.gt_explore_trace.proofs.OneMore.{mover, moves_more, turns_more}
use Rattle.gt_explore_trace.proofs.moves.traced.Goals as goal

pub turns-preserved : goal.turns-preserved
turns-preserved c =
    let on = rw c.in-Some-2.is at c.in_ok-moved.ensures.walks (run_contents c.args.script.now) c.turns.invariant.0 c.turns.invariant.1 in
    let ds = (run_contents c.args.script.now).head.domains in
    let none : Turn = record { place = 0; choice = 0 } in
    let turn : Turn = get_or c.args.turns.now c.turns.turn-index none in
    let dom : DomId = c.in-Some.domain.now.id in
    let at = rw (c.domains-domains.ensures, c.head.ensures) at c.in-Some.ensures.lookup.1 in
    let own : dom ≡ doer on.happened = mover ds turn.place c.in-Some.domain.now (doer on.happened) at on.own_move in
    let by : option_map (λ (d : DomainConfig). d.id) (slice_get ds turn.place) ≡ Some dom = on.own_move ∙ ap Some (sym own) in
    let moved : TracedMove = record { dom = dom; moved = c.in-Some-2.moved } in (
      c.turns.invariant.0 ++ on.happened ∷ [],
      on.walked,
      subst (λ (ms : List TracedMove). AreMovesOf ms (c.turns.invariant.0 ++ on.happened ∷ [])) (sym c.in_ok-push.ensures.items)
          (moves_more c.turns.moves.items c.turns.invariant.0 _ on.happened c.turns.invariant.2 (record { own_move = own; shown = on.shown })),
      subst (λ (ms : List TracedMove). AreByTurns ds (take (c.turns.turn-index + 1) c.args.turns.now) ms) (sym c.in_ok-push.ensures.items)
          (subst (λ (ts : List Turn). AreByTurns ds ts (c.turns.moves.items ++ moved ∷ [])) (sym (take_more c.args.turns.now c.turns.turn-index none c.turns-test.true))
          (turns_more ds (take c.turns.turn-index c.args.turns.now) c.turns.moves.items turn moved c.turns.invariant.3 by)),
    )

pub returns-in-Some-3-clause-gives : goal.returns-in-Some-3-clause-gives
returns-in-Some-3-clause-gives c = (
  c.turns.invariant.0,
  rw c.in-Some-3.is at c.in_ok-text.ensures.order (run_contents c.args.script.now) c.turns.invariant.0 c.turns.invariant.1,
  c.turns.invariant.2,
)

pub returns-in-Some-3-clause-turned : goal.returns-in-Some-3-clause-turned
returns-in-Some-3-clause-turned c =
    subst (λ (ts : List Turn). AreByTurns (run_contents c.args.script.now).head.domains ts c.turns.moves.items) (take_all c.turns.turn-index c.args.turns.now c.turns-test.false) c.turns.invariant.3
