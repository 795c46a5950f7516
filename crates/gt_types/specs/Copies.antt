-- How the ends of a copy are named.
use Rattle.std.specs.Prelude.{Bool, ◌==◌, ◌%◌, ◌/◌}
use Rattle.gt_types.specs.declared.copies.CopyArgs.{CopyArgs}

-- a grant reference names the end: bit 0 of the flags for the source, bit 1 for the destination (grant_table.h)
abbrev pub is_source_granted : CopyArgs → Bool
is_source_granted c = c.flags % 2 == 1

abbrev pub is_dest_granted : CopyArgs → Bool
is_dest_granted c = c.flags / 2 % 2 == 1
