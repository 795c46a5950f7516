-- Names from other crates, and from the code, that these definitions use.
pub use Rattle.atomic_table.proofs.Lists.{at_map}
pub use Rattle.atomic_table.specs.Seated.{TableId}
pub use Rattle.atomic_table.specs.Table.{Allows, Me, State, keeps, stepped}
pub use Rattle.gt_model.specs.Entries.{changed_entry, raise_of, IsEntry, is_read_only, with_ro}
pub use Rattle.gt_model.specs.Spelling.{IsSpelled, control_with, entry_of, idle_word_of, word_of}
pub use Rattle.gt_model.specs.Words.{control_of, header_of, header_word, kind_of, size_of, unit_of}
pub use Rattle.gt_model.specs.declared.change.EntryChange.{EntryChange}
pub use Rattle.gt_model.specs.declared.change.EntryChange.TheVariants.{Demote, Promote, Publish, Revoke, Withdraw}
pub use Rattle.gt_model.specs.declared.change.BodyWord.{BodyWord}
pub use Rattle.gt_model.specs.declared.change.BodyWord.TheVariants.{First, Second}
pub use Rattle.gt_model.specs.declared.entry.Entry.{Entry}
pub use Rattle.gt_model.specs.declared.entry.Entry.TheVariants.{Invalid, Page, Sub, Via}
pub use Rattle.gt_model.specs.declared.header.Header.{Header}
pub use Rattle.gt_types.specs.Config.{IsFirstFault, IsWithinLimits}
pub use Rattle.gt_types.specs.Names.{domain_of}
pub use Rattle.gt_types.specs.declared.Dir.{Dir}
pub use Rattle.gt_types.specs.declared.Dir.TheVariants.{Read, Write}
pub use Rattle.gt_types.specs.declared.DomId.{DomId}
pub use Rattle.gt_types.specs.declared.GrantRef.{GrantRef}
pub use Rattle.gt_types.specs.declared.config.Config.{Config}
pub use Rattle.gt_types.specs.declared.config.DomainConfig.{DomainConfig}
pub use Rattle.gt_types.specs.declared.config.StartFault.{StartFault}
pub use Rattle.gt_types.specs.declared.limits.TheConstants.{LAST_GENERATION, MAX_DOMAINS, MAX_PINS, MAX_TABLE_FRAMES}
pub use Rattle.gt_types.specs.declared.limits.TheConstants.{TABLE_ENTRIES}
pub use Rattle.gt_word_history.specs.declared.view.EntryRecord.{EntryRecord}
pub use Rattle.gt_word_history.specs.declared.view.EntryStep.{EntryStep}
pub use Rattle.gt_word_history.specs.declared.view.EntryStep.TheVariants.{ChangeMissed, Changed, Looked, PinMissed}
pub use Rattle.gt_word_history.specs.declared.view.EntryStep.TheVariants.{Pinned, ReadBody, StoredBody, Unpinned}
pub use Rattle.gt_word_history.specs.declared.view.HeaderStep.{HeaderStep}
pub use Rattle.gt_word_history.specs.declared.view.Purpose.{Purpose}
pub use Rattle.gt_word_history.specs.declared.view.SeatStep.{SeatStep}
pub use Rattle.gt_word_history.specs.declared.view.View.{View}
pub use Rattle.gt_word_history.specs.declared.rule.TheConstants.{DOMAIN_WORDS, ENTRY_WORDS}
pub use Rattle.gt_words.specs.declared.words.Pin.{Pin}
pub use Rattle.std.proofs.Common.{ap, arith, eq-eqb, get_or, inl, inr, ne_eqb, refl, subst, sym, ⊎_elim, ◌∙◌}
pub use Rattle.std.proofs.lemmas.Bool.{lt-ltb}
pub use Rattle.std.proofs.lemmas.Bool.Decides.{nat_tests}
pub use Rattle.std.proofs.lemmas.List.Quantifiers.{position-Some}
pub use Rattle.std.specs.List.{position_or_len}
pub use lib.ListN.{get_elem?}
pub use mathlib.Core.Option.{some}
pub use prog.Atomic.{either}
