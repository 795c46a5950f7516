-- The entry that a mapping is of.
use Rattle.std.specs.Prelude.{is_some, if◌then◌else◌, Option, None, option_map}
use Rattle.gt_types.specs.Names.{domain_of}
use Rattle.gt_types.specs.declared.DomId.{DomId}
use Rattle.gt_types.specs.declared.GrantRef.{GrantRef}
use Rattle.gt_model.specs.declared.handle.Handle.{Handle}
use Rattle.gt_model.specs.declared.held.HeldPin.{HeldPin}
use Rattle.gt_model.specs.History.{History, Setting, mapping_of, mappings_at}

-- the entry that a pin is on, by its domain and its reference
abbrev pub entry_place_of : HeldPin → DomId × GrantRef
entry_place_of held = (held.dom, held.gref)

-- the entry that the domain has mapped under this handle after these items: None if the handle names none of its
-- mappings, or for a number that is not a domain's
abbrev pub subject_at : Setting → History → DomId → Handle → Option (DomId × GrantRef)
subject_at s h dom handle =
    if is_some (domain_of s.domains dom)
    then option_map entry_place_of (mapping_of (mappings_at h dom.0) handle)
    else None
