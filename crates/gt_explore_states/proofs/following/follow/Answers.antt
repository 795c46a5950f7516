use Rattle.std.proofs.Common.{OnOk, subst, sym}
use Rattle.gt_explore_replay.specs.declared.replay.Moved.{Moved}
use Rattle.gt_explore_state.specs.Shows.{TablesShow}
use Rattle.gt_model.specs.History.{History}
use Rattle.gt_explore_states.specs.Moves.{ComesNext}
use Rattle.gt_explore_states.proofs.TablesFollow.{began-left, passed-left, raised-left, step-item}
use Rattle.gt_explore_states.proofs.following.follow.Goals as goal

pub returns-in-Stepped : goal.returns-in-Stepped
returns-in-Stepped c = λ s hs x set shows next.
    let i = step-item s hs c.args.place c.in-Stepped.step c.in-Stepped.seen c.in-Stepped.field-2 x c.every_right_step_fits.ensures (subst (λ (m : Moved). ComesNext s hs c.args.place m x) c.in-Stepped.is next) in
    subst (λ (h : History). OnOk c.apply.result (TablesShow s h c.apply.new.self.tables.items)) (sym i.history) (c.apply.ensures.shows s _ i.item set shows i.of_step)

pub returns-in-Began : goal.returns-in-Began
returns-in-Began c = λ s hs x set shows next.
    began-left s c.args.roster.now hs c.args.place c.in-Began.field-0 x c.args.ground.now.tables.items c.every_beginning_changes_nothing.ensures set (subst (λ (m : Moved). ComesNext s hs c.args.place m x) c.in-Began.is next) shows

pub returns-in-Raised : goal.returns-in-Raised
returns-in-Raised c = λ s hs x set shows next.
    raised-left s hs c.args.place x c.args.ground.now.tables.items (subst (λ (m : Moved). ComesNext s hs c.args.place m x) c.in-Raised.is next) shows

pub returns-in-Passed : goal.returns-in-Passed
returns-in-Passed c = λ s hs x set shows next.
    passed-left s hs c.args.place x c.args.ground.now.tables.items (subst (λ (m : Moved). ComesNext s hs c.args.place m x) c.in-Passed.is next) shows
