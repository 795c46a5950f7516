-- How a run starts, and why one does not.
use Rattle.std.specs.Prelude.{◌≡◌, ◌⊎◌, ◌++◌, ℕ, min, Bool, nat_le, List, length, map, position, slice_get, Some, None}
use Rattle.std.specs.Prelude.{Ok, Err, take, drop}
use Rattle.std.specs.Str.{IsUtf8}
use Rattle.gt_roster.specs.Frameless.{HasOneFrameEach, IsRunnable}
use Rattle.gt_types.specs.Config.{IsFirstFault}
use Rattle.gt_types.specs.declared.TypeId.{TypeId}
use Rattle.gt_types.specs.declared.config.Config.{Config}
use Rattle.gt_types.specs.declared.config.ConfigFault.{ConfigFault}
use Rattle.gt_types.specs.declared.config.DomainConfig.{DomainConfig}
use Rattle.gt_types.specs.declared.perms.Perms.{Perms}
use Rattle.gt_policy.specs.Allowing.{Meaning, is_allowed, type_named}
use Rattle.gt_policy.specs.Whole.{ReadsAs}
use Rattle.gt_policy.specs.declared.fault.TokenFault.{TokenFault}
use Rattle.gt_allow.specs.Looking.{Table, looks_up}
use Rattle.gt_attached.specs.Seated.{Seated}
use Rattle.gt_attached.specs.Starting.{AreNewGuests}
use Rattle.gt_start.specs.declared.faults.EncodedFault.{EncodedFault}
use Rattle.gt_start.specs.declared.settings.DomainSettings.{DomainSettings}
use Rattle.gt_start.specs.Faults.{encoded_label, encoded_limit, no_memory, no_text, no_type, encoded_token}

-- which type may do what to which type, in a compiled policy
abbrev pub may : Table → TypeId → TypeId → Perms → Bool
may table source target perm = looks_up table source.0 target.0 perm

-- a domain of the configuration, from its settings: a number of more than 16 bits becomes the largest of 16, which no
-- domain and no type may have
abbrev pub domain_set : DomainSettings → DomainConfig
domain_set s =
    record {
      id = record { 0 = min s.id 65535 };
      label = record { 0 = min s.label 65535 };
      frames = s.frames;
      table_frames = s.table_frames;
      version = s.version;
    }

-- the configuration has the domains of these settings, in their order, and this first generation
abbrev pub IsSetBy : List DomainSettings → ℕ → Config → Type 0
IsSetBy settings first_gen c = (c.domains.items ≡ map domain_set settings) × (c.first_gen ≡ first_gen)

-- the label is not below the number of types
abbrev pub is_past : ℕ → DomainSettings → Bool
is_past types s = nat_le types s.label

-- each label is below the number of types
abbrev pub AreTypes : ℕ → List DomainSettings → Type 0
AreTypes types settings = position (is_past types) settings ≡ None

-- the text is UTF-8, and a policy with this meaning
abbrev pub IsPolicyMeaning : List ℕ → Meaning → Type 0
IsPolicyMeaning text m = IsUtf8 text × ReadsAs text (Ok m)

-- a run started with these settings under this text: the attached domains are those of a new run of the settings'
-- domains, which are within the limits, whose labels are types of the policy, and whose rights are those of the text
pub record Begins (settings : List DomainSettings) (first_gen : ℕ) (text : List ℕ) (guests : List (Seated Table))
    : Type 0 where
  pub config : Config
  pub set : IsSetBy settings first_gen config
  pub runnable : IsRunnable config
  pub meaning : Meaning
  pub reads : IsPolicyMeaning text meaning
  pub labels : AreTypes (length meaning.types) settings
  pub rights : Table
  pub allows : looks_up rights ≡ is_allowed meaning
  pub guests_are : AreNewGuests may config rights guests

-- the fault is that of a text: the text is not UTF-8; or it is, and this is its first fault; or allocation failed
abbrev pub IsTextFault : List ℕ → EncodedFault → Type 0
IsTextFault text fault =
    (fault ≡ no_memory)
    ⊎ (((¬ IsUtf8 text) × (fault ≡ no_text))
    ⊎ ((f : TokenFault) × IsUtf8 text × ReadsAs text (Err f) × (fault ≡ encoded_token f)))

-- the fault is that of the first label that is not below the number of types
abbrev pub IsLabelFault : ℕ → List DomainSettings → EncodedFault → Type 0
IsLabelFault types settings fault =
    (i : ℕ) × (s : DomainSettings) × (position (is_past types) settings ≡ Some i) × (slice_get settings i ≡ Some s)
    × (fault ≡ encoded_label s.id)

-- the text is a policy, and the fault is that of the first label that is not one of its types
abbrev pub IsUnlabelled : List DomainSettings → List ℕ → EncodedFault → Type 0
IsUnlabelled settings text fault = (m : Meaning) × IsPolicyMeaning text m × IsLabelFault (length m.types) settings fault

-- the text is a policy, and each label is one of its types
abbrev pub AreLabelled : List DomainSettings → List ℕ → Type 0
AreLabelled settings text = (m : Meaning) × IsPolicyMeaning text m × AreTypes (length m.types) settings

-- the fault is the first one of the configuration with these settings, where no number of frames is too large
abbrev pub IsLimitFault : List DomainSettings → ℕ → EncodedFault → Type 0
IsLimitFault settings first_gen fault =
    (c : Config) × (e : Config) × (f : ConfigFault) × IsSetBy settings first_gen c × HasOneFrameEach c e × IsFirstFault e f
    × (fault ≡ encoded_limit f)

-- why no run started with these settings under this text: the text has a fault; or it has none, and a label has one; or
-- neither has one, and the configuration has
abbrev pub IsFaultOf : List DomainSettings → ℕ → List ℕ → EncodedFault → Type 0
IsFaultOf settings first_gen text fault =
    IsTextFault text fault
    ⊎ (IsUnlabelled settings text fault
    ⊎ (AreLabelled settings text × IsLimitFault settings first_gen fault))

-- why no type of this name was found: the text has a fault, or it is a policy without a type of this name
abbrev pub IsNameFault : List ℕ → List ℕ → EncodedFault → Type 0
IsNameFault text name fault =
    IsTextFault text fault
    ⊎ ((m : Meaning) × IsPolicyMeaning text m × (type_named m.types name ≡ None) × (fault ≡ no_type))

-- the buffer with as much of the name as fits at its front, and the rest as it was
abbrev pub with_front : List ℕ → List ℕ → List ℕ
with_front name old =
    let fits = min (length name) (length old) in take fits name ++ drop fits old

-- the type with this number in the text has a name of this length, as much of which as fits was written to the buffer
abbrev pub IsLabelNamed : List ℕ → ℕ → ℕ → List ℕ → List ℕ → Type 0
IsLabelNamed text label len old new =
    (m : Meaning) × (name : List ℕ) × IsPolicyMeaning text m × (slice_get m.types label ≡ Some name)
    × (len ≡ length name) × (new ≡ with_front name old)

-- why no type of this number was found: the text has a fault, or it is a policy without a type of this number
abbrev pub IsNoLabel : List ℕ → ℕ → EncodedFault → Type 0
IsNoLabel text label fault =
    IsTextFault text fault
    ⊎ ((m : Meaning) × IsPolicyMeaning text m × (slice_get m.types label ≡ None) × (fault ≡ no_type))
