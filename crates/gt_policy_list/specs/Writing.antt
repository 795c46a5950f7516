-- What is written for what was read.
use Rattle.std.specs.Prelude.{◌≡◌, ◌⊎◌, ℕ, List, Option, Some, Result, Ok, Err}
use Rattle.std.specs.Io.KnownBytes.{Appends, Keeps}
use Rattle.gt_types.specs.declared.TypeId.{TypeId}
use Rattle.gt_policy.specs.Allowing.{Meaning, is_allowed}
use Rattle.gt_policy.specs.Kept.{KeptPolicy, may_of}
use Rattle.gt_policy.specs.Listing.{AreByName}
use Rattle.gt_policy.specs.Shown.{fault_shown}
use Rattle.gt_policy.specs.Whole.{ReadsAs}
use Rattle.gt_policy.specs.declared.fault.TokenFault as policy
use Rattle.gt_policy_list.specs.declared.fault.ListingFault.{ListingFault}
use Rattle.gt_policy_list.specs.declared.fault.ListingFault.TheVariants.{Utf8, Policy, Memory, Read, Write}
use Rattle.gt_policy_list.specs.Listing.{listing}
use Rattle.gt_policy_list.specs.Reading.{IsPolicy, IsNotUtf8At, IsFaulty}
use Rattle.gt_text.specs.Streams.{AppendsBeginning}

-- the text of a policy: the lines of the triples that it allows, with its types in the byte order of their names
abbrev pub IsListing : Meaning → List ℕ → Type 0
IsListing m text = (ids : List TypeId) × AreByName m.types ids × (text ≡ listing m.types (is_allowed m) ids)

-- this text went out
abbrev pub WritesListing : Meaning → Option (List ℕ) → Option (List ℕ) → Type 0
WritesListing m old new = (text : List ℕ) × IsListing m text × Appends old new text

-- a prefix of it went out
abbrev pub BeginsListing : Meaning → Option (List ℕ) → Option (List ℕ) → Type 0
BeginsListing m old new = (text : List ℕ) × IsListing m text × AppendsBeginning old new text

-- What `policy` wrote for these bytes, by its result. At Ok the bytes are a policy, and its whole
-- text went out. At a fault of the bytes nothing did, and the fault is their first. After a failed write
-- a prefix of that text went out, and after a failed allocation that or nothing.
abbrev pub Listed : List ℕ → Option (List ℕ) → Option (List ℕ) → Result (Unit {0}) ListingFault → Type 0
Listed bytes old new (Ok done) = (m : Meaning) × IsPolicy bytes m × WritesListing m old new
Listed bytes old new (Err (Utf8 line)) = IsNotUtf8At bytes line × Keeps old new
Listed bytes old new (Err (Policy shown)) =
    (f : policy.TokenFault) × (fault_shown shown ≡ Some f) × IsFaulty bytes f × Keeps old new
Listed bytes old new (Err Write) = (m : Meaning) × IsPolicy bytes m × BeginsListing m old new
Listed bytes old new (Err Memory) = Keeps old new ⊎ ((m : Meaning) × IsPolicy bytes m × BeginsListing m old new)
Listed bytes old new (Err Read) = Keeps old new

-- the same for a text
abbrev pub Parsed : List ℕ → Option (List ℕ) → Option (List ℕ) → Result (Unit {0}) ListingFault → Type 0
Parsed text old new (Ok done) = (m : Meaning) × ReadsAs text (Ok m) × WritesListing m old new
Parsed text old new (Err (Utf8 line)) = ⊥
Parsed text old new (Err (Policy shown)) =
    (f : policy.TokenFault) × (fault_shown shown ≡ Some f) × ReadsAs text (Err f) × Keeps old new
Parsed text old new (Err Write) = (m : Meaning) × ReadsAs text (Ok m) × BeginsListing m old new
Parsed text old new (Err Memory) = Keeps old new ⊎ ((m : Meaning) × ReadsAs text (Ok m) × BeginsListing m old new)
Parsed text old new (Err Read) = ⊥

-- the lines of what a kept policy allows, with these types in their order
abbrev pub text_with : KeptPolicy → List TypeId → List ℕ
text_with p ids = listing p.types (may_of p) ids

-- How much of that text went out: at Ok all of it, after a failed write a
-- prefix, and after a failed allocation that or nothing.
abbrev pub WritesRules : KeptPolicy → Option (List ℕ) → Option (List ℕ) → Result (Unit {0}) ListingFault → Type 0
WritesRules p old new (Ok done) = (ids : List TypeId) × AreByName p.types ids × Appends old new (text_with p ids)
WritesRules p old new (Err Write) =
    (ids : List TypeId) × AreByName p.types ids × AppendsBeginning old new (text_with p ids)
WritesRules p old new (Err Memory) =
    Keeps old new ⊎ ((ids : List TypeId) × AreByName p.types ids × AppendsBeginning old new (text_with p ids))
WritesRules p old new (Err Read) = ⊥
WritesRules p old new (Err (Utf8 line)) = ⊥
WritesRules p old new (Err (Policy shown)) = ⊥
