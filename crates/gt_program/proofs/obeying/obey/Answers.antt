use Rattle.std.proofs.Common.{ap, ◌∙◌, map}
use Rattle.std.specs.Prelude.{string_bytes}
use Rattle.gt_program.proofs.Obeyed.{made_first}
use Rattle.gt_program.proofs.obeying.obey.Goals as goal

pub obey_long-requires-after_bounds : goal.obey_long-requires-after_bounds
obey_long-requires-after_bounds g c κs within =
    made_first (map string_bytes c.args.words.now) (map string_bytes c.as_slice.result.now) _ c.failed_line-failed.ensures
    (ap (map string_bytes) c.as_slice.ensures.value ∙ c.in-Ok.ensures)
