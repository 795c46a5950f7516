-- The texts of types, refusals and values.
use Rattle.std.specs.Prelude.{ℕ, List, [], ◌++◌, codes, decimal, slice_get}
use Rattle.std.specs.Option.{option_map_or}
use Rattle.std.specs.Fmt.{signed_decimal}
use Rattle.gt_types.specs.Denial.{rule_text, status_number, field_name}
use Rattle.gt_types.specs.Names.{permission_name}
use Rattle.gt_types.specs.declared.TypeId.{TypeId}
use Rattle.gt_types.specs.declared.Size.{Size}
use Rattle.gt_types.specs.declared.denial.Facts.{Facts}
use Rattle.gt_types.specs.declared.denial.Facts.TheVariants as facts
use Rattle.gt_types.specs.declared.denial.Denial.{Denial}

-- the name of a type: the one at its index, or nothing if the index is out of range
abbrev pub type_text : {N : Type 0} → (N → List ℕ) → List N → TypeId → List ℕ
type_text bytes names t = option_map_or bytes (slice_get names t.0) []

-- the facts of a refusal, if its line prints them; `called` gives the names of types
abbrev pub facts_text : (TypeId → List ℕ) → Facts → List ℕ
facts_text called (facts.Policy source target perm) =
    codes " source=" ++ called source ++ codes " target=" ++ called target ++ codes " perm=" ++ permission_name perm
facts_text called (facts.Field f) = codes " field=" ++ field_name f
facts_text called facts.None = []
facts_text called (facts.Header dom word) = []
facts_text called (facts.Entry dom gref word) = []

-- a refusal: its rule, its status and its facts
abbrev pub denial_text : (TypeId → List ℕ) → Denial → List ℕ
denial_text called d =
    rule_text d.rule ++ codes " " ++ signed_decimal (status_number d.status) ++ facts_text called d.facts

-- ` NAME=NUMBER`
abbrev pub part_text : List ℕ → ℕ → List ℕ
part_text name n = codes " " ++ name ++ codes "=" ++ decimal n

-- the answer of a call that returns a number of frames
abbrev pub frames_text : ℕ → List ℕ
frames_text frames = codes "ok" ++ part_text (codes "frames") frames

-- the answer of a query of a table's size
abbrev pub size_text : Size → List ℕ
size_text size = frames_text size.frames ++ part_text (codes "max") size.max

-- the answer of a call that returns a version
abbrev pub version_text : ℕ → List ℕ
version_text version = codes "ok" ++ part_text (codes "version") version
