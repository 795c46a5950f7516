-- What bytes are: a policy, or a text with a first fault.
use Rattle.std.specs.Prelude.{◌≡◌, ◌⊎◌, ◌<◌, ◌≤◌, ℕ, List, length, Some, Ok, Err}
use Rattle.std.specs.Str.{IsUtf8}
use Rattle.gt_types.specs.declared.limits.TheConstants.{LONGEST_TEXT}
use Rattle.gt_policy.specs.Allowing.{Meaning}
use Rattle.gt_policy.specs.Grammar.{at}
use Rattle.gt_policy.specs.Shown.{fault_shown}
use Rattle.gt_policy.specs.Whole.{ReadsAs}
use Rattle.gt_policy.specs.declared.fault.TokenFault as policy
use Rattle.gt_policy.specs.declared.fault.TokenFaultKind.TheVariants.{Limit}
use Rattle.gt_text.specs.Texts as texts
use Rattle.gt_policy_list.specs.declared.fault.ListingFault.{ListingFault}
use Rattle.gt_policy_list.specs.declared.fault.ListingFault.TheVariants.{Utf8, Policy, Memory, Read, Write}

-- the bytes are the text of a policy that means this
abbrev pub IsPolicy : List ℕ → Meaning → Type 0
IsPolicy bytes m = IsUtf8 bytes × ReadsAs bytes (Ok m)

-- the bytes are not too many, and not UTF-8; the first bad byte is on this line
abbrev pub IsNotUtf8At : List ℕ → ℕ → Type 0
IsNotUtf8At bytes line = (length bytes ≤ LONGEST_TEXT) × texts.IsBadAt bytes line

-- the first fault of the bytes is one of a policy: they are too many, or a text that has the fault
abbrev pub IsFaulty : List ℕ → policy.TokenFault → Type 0
IsFaulty bytes f = ((LONGEST_TEXT < length bytes) ⊎ IsUtf8 bytes) × ReadsAs bytes (Err f)

-- the bytes are too many, or not UTF-8, and this is their fault
abbrev pub IsNoText : List ℕ → ListingFault → Type 0
IsNoText bytes (Utf8 line) = IsNotUtf8At bytes line
IsNoText bytes (Policy shown) = (LONGEST_TEXT < length bytes) × (fault_shown shown ≡ Some (at 1 Limit))
IsNoText bytes Memory = ⊥
IsNoText bytes Read = ⊥
IsNoText bytes Write = ⊥
