use Rattle.gt_core.proofs.{Words.◌<◌, Words.◌≤◌, Words.List, Words.length, Words.sym, Words.ap, Words.◌∙◌, Words.arith}
use Rattle.gt_core.proofs.{Words.PinCounts, Words.with_slot, Words.slot_after, Rows.set-changed, Rows.changed-past}
use Rattle.gt_core.proofs.state.DomainState.change_slot.Goals as goal

pub returns-then-at-len : goal.returns-then-at-len
returns-then-at-len c = let within : c.args.gref.0 < length c.self.inside.slots.items = omega arith in
    ap (λ (l : List PinCounts). record { id = c.self.inside.id; header = c.self.inside.header; own = c.self.inside.own.items; slots = l; mappings = record c.self.inside.mappings { room = 0 }; underway = c.self.inside.underway; given = c.self.inside.given.items })
    (set-changed c.self.inside.slots.items c.args.gref.0 (slot_after c.args.change) c.after.result c.index.result.now within c.index.ensures c.after.ensures)
    ∙ ap (with_slot c.args.gref.0 c.args.change) c.self.view_is

pub returns-else-at-len : goal.returns-else-at-len
returns-else-at-len c = let past : length c.self.inside.slots.items ≤ c.args.gref.0 = omega arith in sym c.self.view_is
    ∙ ap (λ (l : List PinCounts). record { id = c.self.inside.id; header = c.self.inside.header; own = c.self.inside.own.items; slots = l; mappings = record c.self.inside.mappings { room = 0 }; underway = c.self.inside.underway; given = c.self.inside.given.items }) (sym (changed-past c.self.inside.slots.items c.args.gref.0 (slot_after c.args.change) past))
    ∙ ap (with_slot c.args.gref.0 c.args.change) c.self.view_is
