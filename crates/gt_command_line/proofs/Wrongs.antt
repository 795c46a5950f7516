-- The kinds with which a line is refused that asks for neither help nor the version.
use Rattle.std.proofs.Common.{◌≡◌, [], ◌∷◌}
use Rattle.clap.specs.Kinds.{Kinds, or_else}
use Rattle.clap.specs.declared.error.kind.ErrorKind.TheVariants.{ArgumentConflict, InvalidSubcommand, InvalidValue}
use Rattle.clap.specs.declared.error.kind.ErrorKind.TheVariants.{MissingRequiredArgument}
use Rattle.clap.specs.declared.error.kind.ErrorKind.TheVariants.{MissingSubcommand, TooManyValues, UnknownArgument}

pub data Wrong : Kinds → Type 0 where
  unknown : Wrong (UnknownArgument ∷ [])
  stray : Wrong (UnknownArgument ∷ InvalidSubcommand ∷ [])
  missing : Wrong (MissingSubcommand ∷ [])
  valued : Wrong (TooManyValues ∷ [])
  valueless : Wrong (InvalidValue ∷ [])
  repeated : Wrong (ArgumentConflict ∷ [])
  lacking : Wrong (MissingRequiredArgument ∷ [])

pub wrong_first : {kinds : Kinds} (rest : Kinds) → Wrong kinds → Wrong (or_else kinds rest)
wrong_first rest unknown = unknown
wrong_first rest stray = stray
wrong_first rest missing = missing
wrong_first rest valued = valued
wrong_first rest valueless = valueless
wrong_first rest repeated = repeated
wrong_first rest lacking = lacking

pub never_passes : {kinds : Kinds} → Wrong kinds → kinds ≡ [] → ⊥
never_passes unknown none = cc none
never_passes stray none = cc none
never_passes missing none = cc none
never_passes valued none = cc none
never_passes valueless none = cc none
never_passes repeated none = cc none
never_passes lacking none = cc none
