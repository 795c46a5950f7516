-- Names of other crates, and of the code, that the definitions here use.
pub use Rattle.clap.specs.Kinds.{HasKind, Kinds}
pub use Rattle.clap.specs.Simple.{on_top}
pub use Rattle.clap.specs.ValueTests.{is_unsigned_in}
pub use Rattle.clap.specs.Words.{App, Row, Text, first_of, new_app, with_subcommand}
pub use Rattle.clap.specs.declared.error.Error.{Error}
pub use Rattle.clap.specs.declared.error.kind.ErrorKind.TheVariants.{ArgumentConflict, DisplayHelp, DisplayVersion}
pub use Rattle.clap.specs.declared.error.kind.ErrorKind.TheVariants.{InvalidSubcommand, InvalidValue}
pub use Rattle.clap.specs.declared.error.kind.ErrorKind.TheVariants.{MissingRequiredArgument, MissingSubcommand}
pub use Rattle.clap.specs.declared.error.kind.ErrorKind.TheVariants.{TooManyValues, UnknownArgument}
pub use Rattle.gt_command_line.specs.declared.invocation.Format.{Format}
pub use Rattle.gt_command_line.specs.declared.invocation.Format.TheVariants.{Json}
pub use Rattle.gt_command_line.specs.declared.invocation.Invocation.{Invocation}
pub use Rattle.gt_command_line.specs.declared.invocation.Mode.{Mode}
pub use Rattle.gt_command_line.specs.declared.invocation.Mode.TheVariants.{Check, Entries, Explore, Flow, Play, Policy, Rules}
pub use Rattle.gt_command_line.specs.declared.invocation.Mode.TheVariants.{Run, Why}
pub use Rattle.std.specs.Str.{bytes_eq}
pub use Rattle.std.specs.Str.Parse.{digits_value, without_leading_plus}
