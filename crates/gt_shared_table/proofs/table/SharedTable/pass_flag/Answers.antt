use Rattle.std.proofs.Common.{◌≡◌, ℕ, ◌+◌, ap, subst, arith}
use Rattle.atomic_table.specs.Table.{Allows}
use Rattle.gt_word_history.specs.Places.{Board}
use Rattle.gt_shared_table.specs.Rule.{HoldsAll, flag_place, places_of}
use Rattle.gt_shared_table.specs.Recording.{LooksAtFlag}
use Rattle.gt_shared_table.proofs.Placed.{few_frames, names_len}
use Rattle.gt_shared_table.proofs.Steps.{passes}
use Rattle.gt_shared_table.proofs.table.SharedTable.pass_flag.Goals as goal

pub overflow_add-word : goal.overflow_add-word
overflow_add-word c = let ds = c.self.inside.table.shared.key.domains.items in let limits = c.self.invariant.2 in let n = names_len 0 ds in let few = few_frames ds limits.frames in let many = limits.few in
    let at = c.self.invariant.1 in let size = c.self.invariant.0.2 in
    let inside = c.requires.inside in let flags = ap (λ (b : Board). b.flags) c.self.view_is in omega arith

pub load_word-requires-clause-allowed : goal.load_word-requires-clause-allowed
load_word-requires-clause-allowed c = let t = c.self.inside.table.shared in let b = places_of t.key in let s = c.seat.inside.seat in
    subst (λ (i : ℕ). Allows (HoldsAll b) t.table_id.slots s.id s.me i (λ n. n) (λ n m. LooksAtFlag b.layout c.args.flag s.me n m))
    (let at = c.self.invariant.1 in let e : flag_place b c.args.flag ≡ c.self.inside.first_flag + c.args.flag = omega arith in e)
    (passes b t.table_id.slots s.id s.me c.args.flag c.seat.invariant.3)
