-- The commands that are made of the code's tables.
use Rattle.std.proofs.Common.{◌≡◌, ◌∙◌, ◌+◌, ◌<◌, ◌||◌, ℕ, Bool, false, List, ap₂, get_or, length, sym, take}
use Rattle.std.proofs.lemmas.List.Sums.{fold_more}
use Rattle.clap.specs.Built.{AddsArg, AddsSubcommand}
use Rattle.clap.specs.Words.{App, rule_of, with_rule, with_subcommand}
use Rattle.clap.specs.declared.builder.arg.Arg.{Arg}
use Rattle.clap.specs.declared.builder.command.Command.{Command}
use Rattle.gt_command_line.specs.Commands.{mode_app, with_mode, with_modes}
use Rattle.gt_command_line.specs.Rules.{IsCommand, part_rule, with_part_rule, with_part_rules}
use Rattle.gt_command_line.specs.declared.invocation.Mode.{Mode}
use Rattle.gt_command_line.specs.declared.line.Part.{Part}

-- a command with one part more
pub part_added : (old new : Command) (a : Arg) (app : App) (parts : List Part) (i : ℕ) (d : Part) → i < length parts → IsCommand old (with_part_rules app (take i parts))
    → rule_of a ≡ part_rule (get_or parts i d) → a.global ≡ false → AddsArg old a new → IsCommand new (with_part_rules app (take (i + 1) parts))
unfolding with_part_rules
part_added old new a app parts i d less command rule local adds = record {
  app = adds.shape local ∙ ap₂ with_rule command.app rule ∙ sym (fold_more with_part_rule app parts i d less);
  local = adds.globals ∙ ap₂ (λ (x y : Bool). x || y) command.local local;
}

-- the program with one command more
pub mode_added : (old sub new : Command) (app : App) (modes : List Mode) (i : ℕ) (d : Mode) → i < length modes → IsCommand old (with_modes app (take i modes))
    → IsCommand sub (mode_app (get_or modes i d)) → AddsSubcommand old sub new → IsCommand new (with_modes app (take (i + 1) modes))
unfolding with_modes
mode_added old sub new app modes i d less command made adds = record {
  app = adds.shape made.local ∙ ap₂ (λ (x y : App). with_subcommand x y.top) command.app made.app ∙ sym (fold_more with_mode app modes i d less);
  local = adds.globals ∙ ap₂ (λ (x y : Bool). x || y) command.local made.local;
}
