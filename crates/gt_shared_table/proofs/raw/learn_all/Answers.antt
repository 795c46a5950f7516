use mathlib.Core.Option.{none}
use Rattle.atomic_table.specs.Table.{step}
use Rattle.gt_shared_table.specs.Rule.{Cell, places_of}
use Rattle.gt_shared_table.proofs.Moving.{learns}
use Rattle.gt_shared_table.proofs.raw.learn_all.Goals as goal

pub load-requires : goal.load-requires
load-requires g c = let f = c.requires.fits in let b = c.args.cells.now in (
  f.0,
  f.1,
  learns (places_of b.key) b.table_id.slots c.args.seat.now.id c.args.seat.now.me 0 g.J.OfKind.kind (step {S = Cell} b.table_id.slots 0 0 0 none) f.2 c.requires.here c.requires.run,
)
