-- Names of other crates that the definitions here use.
pub use Rattle.gt_model.specs.declared.action.Observation.{Observation}
pub use Rattle.gt_model.specs.declared.action.Observation.TheVariants.{Taken}
pub use Rattle.gt_model.specs.declared.action.Step.{Step}
pub use Rattle.gt_model.specs.declared.action.Step.TheVariants.{Exchange, LookBody, LookControl, LookHeader}
pub use Rattle.gt_model.specs.declared.action.Step.TheVariants.{StoreHeader, Unpin}
pub use Rattle.gt_model.specs.declared.held.HeldPin.{HeldPin}
pub use Rattle.gt_model.specs.declared.request.Request.{Request}
pub use Rattle.gt_core.specs.GoingOn.{CanBeReached}
pub use Rattle.gt_model.specs.History.{History, Pin, Setting, body_at, contents_at, entry_at, generation_at, given_in}
pub use Rattle.gt_model.specs.History.{is_pin_on, live, open_call, reads_at, same_dir, table_at, without, writes_at}
pub use Rattle.gt_model.specs.Legal.{IsRight}
pub use Rattle.gt_core.specs.declared.pin_counts.PinCounts.{PinCounts}
pub use Rattle.gt_model.specs.declared.trace.ItemEvent.TheVariants.{Began, Stepped}
pub use Rattle.gt_model.specs.declared.trace.Item.{Item}
pub use Rattle.gt_model.specs.Entries.{raise_of}
pub use Rattle.gt_types.specs.Names.{domain_of}
pub use Rattle.gt_types.specs.declared.Dir.{Dir}
pub use Rattle.gt_types.specs.declared.DomId.{DomId}
pub use Rattle.gt_types.specs.declared.config.Config.{Config}
pub use Rattle.gt_types.specs.declared.config.DomainConfig.{DomainConfig}
pub use Rattle.gt_types.specs.declared.limits.TheConstants.{FRAME_SIZE, LAST_GENERATION, MAX_PINS}
