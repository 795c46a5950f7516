-- What is written for a command whose text goes out as JSON.
use Rattle.std.specs.Prelude.{◌≡◌, ◌⊎◌, ℕ, Bool, List, [], Option, Some, Result, Ok, Err}
use Rattle.gt_file_commands.specs.JsonNames.{Appends, Keeps, AppendsBeginning, json_text, PrintedText}
use Rattle.gt_file_commands.specs.JsonNames.{Run, Policy, Entries}
use Rattle.gt_file_commands.specs.JsonNames.{ReadsAsScript}
use Rattle.gt_file_commands.specs.JsonNames.{PlayFault, Played, ListingFault, Listed, DumpOptions, DumpFault}
use Rattle.gt_file_commands.specs.JsonNames.{WroteDump}
use Rattle.gt_text.specs.Streams.{OfInput}
use Rattle.gt_script_runs.specs.declared.fault.PlayFault.TheVariants as play_faults
use Rattle.gt_policy_list.specs.declared.fault.ListingFault.TheVariants as listing_faults
use Rattle.gt_entries.specs.declared.fault.DumpFault.TheVariants as dump_faults

-- a promise of a command, about what its writer held and holds, and its result
abbrev pub Promise : Type 0 → Type 1
Promise F = Option (List ℕ) → Option (List ℕ) → Result (Unit {0}) F → Type 0

-- a promise for whatever a reader has left, if that is known
abbrev pub ForInput : {F : Type 0} → Option (List ℕ) → (List ℕ → Promise F) → Promise F
ForInput known promise old new answer = OfInput known (λ input. promise input old new answer)

-- the text is one that the command writes to an empty writer, with this result
abbrev pub WritesJson : {F : Type 0} → Promise F → Result (Unit {0}) F → List ℕ → Type 0
WritesJson Wrote answer text = Wrote (Some []) (Some text) answer

-- Why the JSON did not go out whole. It may be that none did: an allocation failed, or the command has this fault. Or
-- an allocation or a write failed later, and a prefix of it did.
abbrev pub Failed : {F : Type 0} → PrintedText → F → F → Promise F → Option (List ℕ) → Option (List ℕ) → F → Type 0
Failed printed memory write Wrote old new fault =
    (Keeps old new × ((fault ≡ memory) ⊎ ((text : List ℕ) × WritesJson Wrote (Err fault) text)))
    ⊎ (((fault ≡ memory) ⊎ (fault ≡ write))
    × ((text : List ℕ) × WritesJson Wrote (Ok tt) text × AppendsBeginning old new (json_text printed text)))

-- what goes out: at Ok the JSON of a text that the command writes; after a fault nothing, or a prefix
abbrev pub AsJson : {F : Type 0} → PrintedText → F → F → Promise F → Promise F
AsJson printed memory write Wrote old new (Ok done) =
    (text : List ℕ) × WritesJson Wrote (Ok tt) text × Appends old new (json_text printed text)
AsJson printed memory write Wrote old new (Err fault) = Failed printed memory write Wrote old new fault

-- What goes out after a command wrote a text to memory, by its result. After Ok it is the JSON of the text, or a prefix
-- of it if an allocation or a write failed. After a fault nothing goes out, and the fault is the
-- command's, or a failed allocation.
abbrev pub Passes : {F : Type 0} → PrintedText → F → F → List ℕ → Result (Unit {0}) F → Promise F
Passes printed memory write text (Ok done) old new (Ok passed) = Appends old new (json_text printed text)
Passes printed memory write text (Ok done) old new (Err fault) =
    ((fault ≡ memory) ⊎ (fault ≡ write)) × AppendsBeginning old new (json_text printed text)
Passes printed memory write text (Err why) old new (Ok passed) = ⊥
Passes printed memory write text (Err why) old new (Err fault) = ((fault ≡ memory) ⊎ (fault ≡ why)) × Keeps old new

-- what `play_json` writes for an input
abbrev pub PlayedAsJson : List ℕ → Bool → Promise PlayFault
PlayedAsJson input audit = AsJson Run play_faults.Memory play_faults.Write (Played (ReadsAsScript input) audit)

-- what `policy_json` writes for an input
abbrev pub ListedAsJson : List ℕ → Promise ListingFault
ListedAsJson input = AsJson Policy listing_faults.Memory listing_faults.Write (Listed input)

-- what `entries_json` writes for an input, with these options
abbrev pub WroteDumpAsJson : DumpOptions → List ℕ → Promise DumpFault
WroteDumpAsJson asked input = AsJson Entries dump_faults.Memory dump_faults.Write (WroteDump asked input)
