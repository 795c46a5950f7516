-- The texts of decoded entries.
use Rattle.std.specs.Prelude.{ℕ, List, ◌++◌, codes, Result, Ok, Err}
use Rattle.gt_text.specs.Entries.{entry_text}
use Rattle.gt_types.specs.Denial.{field_name}
use Rattle.gt_types.specs.declared.denial.Field.{Field}
use Rattle.gt_model.specs.declared.entry.Entry.{Entry}

-- the result of the decoders: the entry, or the first field that is refused
abbrev pub decoded_text : Result Entry Field → List ℕ
decoded_text (Ok entry) = entry_text entry
decoded_text (Err field) = codes "refused " ++ field_name field
