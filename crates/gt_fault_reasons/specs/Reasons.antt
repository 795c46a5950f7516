-- The lines of reasons.
use Rattle.std.specs.Prelude.{◌≡◌, ℕ, ◌-◌, ◌<◌, ◌≤◌, Bool, true, not, ◌||◌, if◌then◌else◌, List, [], ◌∷◌, ◌++◌, codes}
use Rattle.std.specs.Prelude.{count_by, decimal, length, nat_lt, slice_index, take}
use Rattle.std.specs.Char.{is_ascii_control}
use Rattle.std.specs.List.{flat_map}
use Rattle.gt_findings.specs.Report.{AddsText}
use Rattle.gt_types.specs.declared.limits.TheConstants.{DOMID_SELF, LAST_VERSION, MAX_DOMAINS, MAX_FRAMES}
use Rattle.gt_types.specs.declared.limits.TheConstants.{MAX_TABLE_FRAMES}
use Rattle.gt_types.specs.declared.config.ConfigFault.{ConfigFault}
use Rattle.gt_types.specs.declared.config.ConfigFault.TheVariants as config_faults

-- `FILE:LINE:COLUMN: `
abbrev pub reason_heading : List ℕ → ℕ → ℕ → List ℕ
reason_heading file line column =
    file ++ codes ":" ++ decimal line ++ codes ":" ++ decimal column ++ codes ": "

-- what marks that a word goes on
abbrev pub more_text : Bool → List ℕ
more_text goes_on = if goes_on then codes "..." else []

-- a byte as it is shown: U+FFFD for a control character
abbrev pub shown_byte : ℕ → List ℕ
shown_byte byte = if is_ascii_control byte then 239 ∷ 191 ∷ 189 ∷ [] else byte ∷ []

-- a byte begins a character of a text in UTF-8
abbrev pub begins_character : ℕ → Bool
begins_character byte = nat_lt byte 128 || not (nat_lt byte 192)

-- Of a word this many bytes are shown: they have at most 160 characters, and 160 if they are not all, and then the next
-- byte begins a character.
pub record IsShownPart (word : List ℕ) (end : ℕ) : Type 0 where
  pub within : end ≤ length word
  pub few : count_by begins_character (take end word) ≤ 160
  pub cut : end < length word → (count_by begins_character (take end word) ≡ 160)
      × (begins_character (slice_index word end) ≡ true)

-- the first bytes of a word in quotes, and `...` if they are not all
abbrev pub quoted_part : List ℕ → ℕ → List ℕ
quoted_part word end =
    codes "\"" ++ flat_map shown_byte (take end word) ++ more_text (nat_lt end (length word)) ++ codes "\""

-- a word in quotes; of a long one its first characters, and `...`
abbrev pub IsQuoted : List ℕ → List ℕ → Type 0
IsQuoted word text = (end : ℕ) × IsShownPart word end × (text ≡ quoted_part word end)

-- one line was appended: a reason at this line of the file
abbrev pub AppendsReasonAt : List ℕ → ℕ → List ℕ → List ℕ → Type 0
AppendsReasonAt file line old new =
    (column : ℕ) × (message : List ℕ) × (new ≡ old ++ reason_heading file line column ++ message ++ codes "\n")

-- the limit that a fault is about; 0 if it is about none
abbrev pub limit_of : ConfigFault → ℕ
limit_of config_faults.NoDomains = 0
limit_of (config_faults.TooMany id) = MAX_DOMAINS
limit_of (config_faults.Id id) = DOMID_SELF - 1
limit_of (config_faults.Repeated id) = 0
limit_of (config_faults.Frames id) = MAX_FRAMES
limit_of (config_faults.TableFrames id) = MAX_TABLE_FRAMES
limit_of (config_faults.Version id) = LAST_VERSION
limit_of config_faults.Generation = 0

-- `FILE: "NAME"MESSAGE`
abbrev pub IsNameLine : List ℕ → List ℕ → List ℕ → List ℕ → Type 0
IsNameLine file name message line =
    (quoted : List ℕ) × IsQuoted name quoted × (line ≡ file ++ codes ": " ++ quoted ++ message ++ codes "\n")

-- one line was appended: a reason about a name, for this file
abbrev pub AppendsNameReason : List ℕ → List ℕ → List ℕ → List ℕ → Type 0
AppendsNameReason file name old new = (message : List ℕ) × AddsText (IsNameLine file name message) old new
