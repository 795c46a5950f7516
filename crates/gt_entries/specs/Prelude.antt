-- The names of other crates, and of the code, that the definitions here use.
pub use Rattle.gt_entries.specs.declared.asked.DumpOptions.{DumpOptions}
pub use Rattle.gt_entries.specs.declared.fault.DumpFault.{DumpFault}
pub use Rattle.gt_entries.specs.declared.fault.DumpFault.TheVariants.{Limit, Memory, Read, Syntax, Write}
pub use Rattle.gt_model.specs.Bytes.{Spells, entry_size, first_refused}
pub use Rattle.gt_model.specs.declared.entry.Entry.{Entry}
pub use Rattle.gt_text.specs.Streams.{AppendsBeginning}
pub use Rattle.gt_types.specs.declared.DomId.{DomId}
pub use Rattle.gt_types.specs.declared.denial.Field.{Field}
pub use Rattle.gt_types.specs.declared.limits.TheConstants.{LONGEST_TEXT}
pub use Rattle.hex.specs.Hex.{decode_of}
pub use Rattle.hex.specs.declared.error.FromHexError.{FromHexError}
pub use Rattle.std.specs.Char.{is_ascii_whitespace}
pub use Rattle.std.specs.Io.KnownBytes.{Appends, Keeps}
pub use Rattle.std.specs.List.{list_all}
