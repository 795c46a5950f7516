use Rattle.gt_core.proofs.{Words.◌<◌, Words.◌≤◌, Words.List, Words.length, Words.sym, Words.ap, Words.◌∙◌, Words.arith}
use Rattle.gt_core.proofs.{Words.OwnerEntry, Words.with_own, Words.own_after, Rows.set-changed, Rows.changed-past}
use Rattle.gt_core.proofs.state.DomainState.change_own.Goals as goal

pub returns-then-at-len : goal.returns-then-at-len
returns-then-at-len c = let within : c.args.gref.0 < length c.self.inside.own.items = omega arith in
    ap (λ (l : List OwnerEntry). record { id = c.self.inside.id; header = c.self.inside.header; own = l; slots = c.self.inside.slots.items; mappings = record c.self.inside.mappings { room = 0 }; underway = c.self.inside.underway; given = c.self.inside.given.items })
    (set-changed c.self.inside.own.items c.args.gref.0 (own_after c.args.change) c.after.result c.index.result.now within c.index.ensures c.after.ensures)
    ∙ ap (with_own c.args.gref.0 c.args.change) c.self.view_is

pub returns-else-at-len : goal.returns-else-at-len
returns-else-at-len c = let past : length c.self.inside.own.items ≤ c.args.gref.0 = omega arith in sym c.self.view_is
    ∙ ap (λ (l : List OwnerEntry). record { id = c.self.inside.id; header = c.self.inside.header; own = l; slots = c.self.inside.slots.items; mappings = record c.self.inside.mappings { room = 0 }; underway = c.self.inside.underway; given = c.self.inside.given.items }) (sym (changed-past c.self.inside.own.items c.args.gref.0 (own_after c.args.change) past))
    ∙ ap (with_own c.args.gref.0 c.args.change) c.self.view_is
