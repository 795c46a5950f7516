use Rattle.std.proofs.Common.{◌++◌, ◌∷◌, ◌≤◌, ◌∙◌, [], List, ap, arith, get_or, length, subst, sym, take}
use Rattle.std.proofs.lemmas.List.{take_all, take_more}
use Rattle.gt_core.specs.Shown.{shown_at}
use Rattle.gt_explore_replay.specs.Abreast.{history_in}
use Rattle.gt_explore_search.specs.declared.spaces.Turn.{Turn}
use Rattle.gt_explore_state.specs.Shows.{TablesShow}
use Rattle.gt_explore_state.specs.declared.table.SparseTable.{SparseTable}
use Rattle.gt_script.specs.RunContents.{run_contents}
use Rattle.gt_script_runs.specs.Playing.{setting_of_script}
use Rattle.gt_types.specs.declared.config.Config.{Config}
use Rattle.gt_explore_states.specs.Moments.{AreTurnsOf}
use Rattle.gt_explore_states.proofs.TablesFollow.{comes-next, turns-more}
use Rattle.gt_explore_states.proofs.following.replayed.Goals as goal

pub turns-init : goal.turns-init
turns-init c = λ set limits. (
  [],
  c.in_ok-run.ensures.walks,
  tt,
  c.in_ok-ground.ensures.tables c.args.roster.now (setting_of_script (run_contents c.args.script.now).head) set limits (sym (c.as_slice.ensures.value ∙ ap (λ (z : Config). z.domains.items) c.config.ensures)),
)

pub turns-preserved : goal.turns-preserved
turns-preserved c = λ set limits.
    let d = run_contents c.args.script.now in
    let (hs, walked, turned, shows) = c.turns.invariant set limits in
    let on = rw c.in-Some.is at c.in_ok-moved.ensures.walks d hs walked in
    let next = comes-next d hs c.turns.run c.advance.new.self _ c.in-Some.moved walked on in
    let turn : Turn = get_or c.args.turns.now c.turns.turn-index (record { place = 0; choice = 0 }) in (
      hs ++ on.happened ∷ [],
      on.walked,
      subst (λ (ts : List Turn). AreTurnsOf d ts (hs ++ on.happened ∷ [])) (sym (take_more c.args.turns.now c.turns.turn-index (record { place = 0; choice = 0 }) c.turns-test.true)) (turns-more d (take c.turns.turn-index c.args.turns.now) hs turn on.happened turned on.own_move),
      c.in_ok-follow.ensures (setting_of_script d.head) hs on.happened set shows next,
    )

pub returns-then-holds : goal.returns-then-holds
returns-then-holds c = λ set limits.
    let d = run_contents c.args.script.now in
    let (hs, walked, turned, shows) = c.turns.invariant set limits in
    let past : length c.args.turns.now ≤ c.turns.turn-index = omega (arith, c.turns-test.false) in
    record {
      happened = hs;
      walked = walked;
      turned = subst (λ (ts : List Turn). AreTurnsOf d ts hs) (take_all c.turns.turn-index c.args.turns.now past) turned;
      holds = sym (c.holds.ensures (shown_at (setting_of_script d.head) (history_in hs)) (λ dom r v is. is (setting_of_script d.head) (history_in hs) set (subst (λ (ts : List SparseTable). TablesShow (setting_of_script d.head) (history_in hs) ts) (sym c.as_slice-2.ensures.value) shows))) ∙ c.if-holds.true;
    }
