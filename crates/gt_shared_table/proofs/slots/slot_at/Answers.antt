use Rattle.std.proofs.Common.{◌≡◌, ℕ, ◌+◌, ◌<◌, List, length, map, get_or, ap, ◌∙◌, sym, arith}
use mathlib.Core.Option.{some}
use lib.ListN.{get_elem?}
use Rattle.gt_types.specs.declared.config.DomainConfig.{DomainConfig}
use Rattle.gt_shared_table.specs.Rule.{names_from}
use Rattle.gt_shared_table.specs.Words.{first_slots}
use Rattle.gt_shared_table.proofs.Placed.{few_frames, names_len, placed, slots_len}
use Rattle.gt_word_history.proofs.Order.{within}
use Rattle.gt_shared_table.proofs.slots.slot_at.Goals as goal

-- the slot, its lock, and the bounds of both
module _ (ds : List DomainConfig) (firsts : List ℕ) (t f : ℕ) (same : firsts ≡ first_slots 0 ds) (inside : t < length ds)
    (has : f < get_or (map (λ d. d.frames) ds) t 0) where
  len : length firsts ≡ length ds
  len = ap length same ∙ slots_len 0 ds

  named : get_elem? (names_from 0 ds) (get_or firsts t 0 + f) ≡ some (t, f)
  named = placed 0 0 ds t f (get_or firsts t 0) inside has (ap (λ (xs : List ℕ). get_or xs t 0) (sym same) ∙ (let e : get_or firsts t 0 ≡ 0 + get_or firsts t 0 = omega arith in e))
      ∙ ap (λ (i : ℕ). some (i, f)) (let e : 0 + t ≡ t = omega arith in e)

  below : get_or firsts t 0 + f < length (names_from 0 ds)
  below = within (names_from 0 ds) (get_or firsts t 0 + f) (t, f) named

pub bounds-firsts-frame : goal.bounds-firsts-frame
bounds-firsts-frame c = let l = len c.args.cells.now.key.domains.items c.args.firsts.now c.args.frame.position c.args.frame.number c.requires.firsts c.requires.inside.0 c.requires.inside.1 in let i = c.requires.inside.0 in omega arith

pub overflow_add-index : goal.overflow_add-index
overflow_add-index c = let ds = c.args.cells.now.key.domains.items in let b = below ds c.args.firsts.now c.args.frame.position c.args.frame.number c.requires.firsts c.requires.inside.0 c.requires.inside.1 in
    let n = names_len 0 ds in let few = few_frames ds c.requires.table.0.frames in let many = c.requires.table.0.few in omega arith

pub overflow_mul-result : goal.overflow_mul-result
overflow_mul-result c = let ds = c.args.cells.now.key.domains.items in let l = len ds c.args.firsts.now c.args.frame.position c.args.frame.number c.requires.firsts c.requires.inside.0 c.requires.inside.1 in
    let many = c.requires.table.0.few in omega arith

pub overflow_mul-result-2 : goal.overflow_mul-result-2
overflow_mul-result-2 c = let ds = c.args.cells.now.key.domains.items in let b = below ds c.args.firsts.now c.args.frame.position c.args.frame.number c.requires.firsts c.requires.inside.0 c.requires.inside.1 in
    let n = names_len 0 ds in let few = few_frames ds c.requires.table.0.frames in let many = c.requires.table.0.few in omega arith

pub overflow_add-result : goal.overflow_add-result
overflow_add-result c = let ds = c.args.cells.now.key.domains.items in let b = below ds c.args.firsts.now c.args.frame.position c.args.frame.number c.requires.firsts c.requires.inside.0 c.requires.inside.1 in
    let l = len ds c.args.firsts.now c.args.frame.position c.args.frame.number c.requires.firsts c.requires.inside.0 c.requires.inside.1 in
    let n = names_len 0 ds in let few = few_frames ds c.requires.table.0.frames in let many = c.requires.table.0.few in omega arith

pub returns-clause-slot : goal.returns-clause-slot
returns-clause-slot c = let ds = c.args.cells.now.key.domains.items in let b = below ds c.args.firsts.now c.args.frame.position c.args.frame.number c.requires.firsts c.requires.inside.0 c.requires.inside.1 in
    let l = len ds c.args.firsts.now c.args.frame.position c.args.frame.number c.requires.firsts c.requires.inside.0 c.requires.inside.1 in
    let room = c.requires.table.1 in (
      omega arith,
      omega arith,
      named ds c.args.firsts.now c.args.frame.position c.args.frame.number c.requires.firsts c.requires.inside.0 c.requires.inside.1,
    )
