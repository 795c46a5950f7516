-- The rules of a command, for the parser of command lines.
use Rattle.std.specs.Prelude.{◌≡◌, true, false, List, ◌++◌, Some, fold, map}
use Rattle.clap.specs.Words.{App, Rule, Text, app_of, new_app, new_rule, with_rule}
use Rattle.clap.specs.Simple.{on_top}
use Rattle.clap.specs.declared.builder.command.Command.{Command}
use Rattle.clap.specs.declared.builder.command.Command.TheViews.{out-Command}
use Rattle.clap.specs.declared.builder.action.ArgAction.TheVariants.{SetTrue}
use Rattle.gt_command_line.specs.Usage.{Usage, lists_name}
use Rattle.gt_command_line.specs.declared.line.Part.{Part}
use Rattle.gt_command_line.specs.declared.line.Part.TheVariants.{Word, Flag, Free, Needed}

-- NAME
abbrev pub word_rule : Usage → Text → Rule
word_rule u name = record (new_rule name) { value_names = 1; required = lists_name u.needed name }

-- --NAME
abbrev pub flag_rule : Text → Rule
flag_rule name = record (new_rule name) { long = Some name; action = Some SetTrue }

-- --NAME VALUE
abbrev pub option_rule : Usage → Text → Rule
option_rule u name = record (new_rule name) { long = Some name; value_names = 1; required = lists_name u.needed name }

-- NAME, which may be left out
abbrev pub free_word : Text → Rule
free_word name = record (new_rule name) { value_names = 1 }

-- --NAME VALUE, which may be left out, and one which must be given
abbrev pub free_option : Text → Rule
free_option name = record (new_rule name) { long = Some name; value_names = 1 }

abbrev pub needed_option : Text → Rule
needed_option name = record (new_rule name) { long = Some name; value_names = 1; required = true }

-- the rules of the words, then those of the flags, then those of the options
abbrev pub rules_of : Usage → List Rule
rules_of u = map (word_rule u) u.words ++ (map flag_rule u.flags ++ map (option_rule u) u.options)

-- a command with these rules
abbrev pub command_app : Text → Usage → App
command_app name u = on_top (λ s. record s { rules = rules_of u }) (new_app name)

-- ---- the same by the code's tables

-- a word, a flag or an option of a table
abbrev pub part_rule : Part → Rule
part_rule (Word id name) = free_word id.now
part_rule (Flag name) = flag_rule name.now
part_rule (Free id name) = free_option id.now
part_rule (Needed id name) = needed_option id.now

abbrev pub with_part_rule : App → Part → App
with_part_rule app part = with_rule app (part_rule part)

-- a command with these parts more
unfoldable pub with_part_rules : App → List Part → App
with_part_rules app parts = fold with_part_rule app parts

-- the parser takes the command for this one, and none of its arguments is global
pub record IsCommand (c : Command) (shown : App) : Type 0 where
  pub app : app_of c ≡ shown
  pub local : (out-Command c).has_globals ≡ false
