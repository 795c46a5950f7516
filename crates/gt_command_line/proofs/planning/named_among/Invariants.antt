use Rattle.std.proofs.Common.{◌≡◌, drop}
use Rattle.std.specs.Prelude.{find}
use Rattle.std.specs.Str.{bytes_eq}
use Rattle.gt_command_line.specs.Commands.{command_name}
use Rattle.gt_command_line.proofs.planning.named_among.Given as goal

-- the first of this name is among those that are left
abbrev pub invariant-modes : goal.invariant-modes
invariant-modes l =
    find (λ mode. bytes_eq (command_name mode) l.name) l.modes
    ≡ find (λ mode. bytes_eq (command_name mode) l.name) (drop l.mode-index l.modes)
