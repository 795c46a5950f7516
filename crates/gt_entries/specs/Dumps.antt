-- What is written for a dump.
use Rattle.std.specs.Prelude.{◌≡◌, ◌⊎◌, ◌<◌, ◌≤◌, ℕ, zero, suc, ◌+◌, ◌-◌, ◌*◌, ◌/◌, ◌==◌, ◌&&◌, not, Bool, true, false}
use Rattle.std.specs.Prelude.{List, [], ◌++◌, length, take, drop, filter, codes, decimal, Option, Some, None}
use Rattle.std.specs.Prelude.{Result, Ok, Err, MatchBool}
use Rattle.gt_entries.specs.Prelude.{is_ascii_whitespace, list_all, Appends, Keeps, decode_of, FromHexError, DomId, Field}
use Rattle.gt_entries.specs.Prelude.{LONGEST_TEXT, Spells, first_refused, entry_size, Entry, AppendsBeginning, DumpOptions}
use Rattle.gt_entries.specs.Prelude.{DumpFault, Memory, Read, Write, Limit, Syntax}
use Rattle.gt_entries.specs.Live.{cleared, live_text}
use Rattle.gt_entries.specs.Showing.{decoded_text}
use Rattle.gt_entries.specs.Script.{bytes_call_text}

-- the result of the decoders for the bytes of an entry: the entry that they encode, or the
-- first field that is refused
abbrev pub Decodes : ℕ → List ℕ → Result Entry Field → Type 0
Decodes version bytes (Ok entry) = Spells version bytes entry
Decodes version bytes (Err field) = first_refused version bytes ≡ Some field

-- `REF ANSWER`, and the live bits
abbrev pub field_text : ℕ → List ℕ → Result Entry Field → List ℕ
field_text ref bytes answer = decimal ref ++ codes " " ++ decoded_text answer ++ live_text bytes ++ codes "\n"

-- the line of an entry: as it is shown, or as a line of a script, in which an entry that is
-- refused is a comment
abbrev pub dump_line_text : Option DomId → ℕ → ℕ → List ℕ → Result Entry Field → List ℕ
dump_line_text None version ref bytes answer = field_text ref bytes answer
dump_line_text (Some dom) version ref bytes (Ok entry) =
    bytes_call_text dom version ref entry (cleared bytes) (live_text bytes)
dump_line_text (Some dom) version ref bytes (Err field) = codes "# " ++ field_text ref bytes (Err field)

-- the line is that of the result of the decoders for the bytes with the two live bits cleared
abbrev pub IsEntryLine : DumpOptions → ℕ → List ℕ → List ℕ → Type 0
IsEntryLine asked ref bytes line =
    (answer : Result Entry Field) × Decodes asked.version (cleared bytes) answer
    × (line ≡ dump_line_text asked.script asked.version ref bytes answer)

-- the entry has all its bytes, each of them zero, and such entries are not asked for
abbrev pub is_left_out : DumpOptions → List ℕ → Bool
is_left_out asked bytes =
    (not asked.all && (length bytes == entry_size asked.version)) && list_all (λ byte. byte == 0) bytes

-- the text of an entry: its line, or nothing if it is left out
abbrev pub IsEntryText : DumpOptions → ℕ → List ℕ → List ℕ → Type 0
IsEntryText asked ref bytes text = MatchBool (is_left_out asked bytes) (text ≡ []) (IsEntryLine asked ref bytes text)

-- the bytes of the entry at this reference; fewer if the dump ends in it (grant_table.h)
abbrev pub entry_bytes_at : ℕ → List ℕ → ℕ → List ℕ
entry_bytes_at version dump ref = take (entry_size version) (drop (ref * entry_size version) dump)

-- the number of entries of a dump; the last one may be cut off
abbrev pub entry_count : ℕ → List ℕ → ℕ
entry_count version dump = (length dump + entry_size version - 1) / entry_size version

-- the text of the first entries, one after the other
abbrev pub AreEntryTexts : DumpOptions → List ℕ → ℕ → List ℕ → Type 0
AreEntryTexts asked dump zero text = text ≡ []
AreEntryTexts asked dump (suc ref) text =
    (before line : List ℕ) × (text ≡ before ++ line) × AreEntryTexts asked dump ref before
    × IsEntryText asked ref (entry_bytes_at asked.version dump ref) line

-- the text of a whole dump
abbrev pub IsDumpText : DumpOptions → List ℕ → List ℕ → Type 0
IsDumpText asked dump text = AreEntryTexts asked dump (entry_count asked.version dump) text

-- the maximum number of bytes of a dump: 16 frames
abbrev pub most_bytes : ℕ
most_bytes = 65536

-- What was written for a dump, by the result: at Ok its whole text; after a failed write a prefix of it; nothing
-- if the dump is too long, or if an allocation failed.
abbrev pub Dumped : DumpOptions → List ℕ → Option (List ℕ) → Option (List ℕ) → Result (Unit {0}) DumpFault → Type 0
Dumped asked dump old new (Ok done) =
    (text : List ℕ) × (length dump ≤ most_bytes) × IsDumpText asked dump text × Appends old new text
Dumped asked dump old new (Err Write) =
    (text : List ℕ) × (length dump ≤ most_bytes) × IsDumpText asked dump text × AppendsBeginning old new text
Dumped asked dump old new (Err Limit) = (most_bytes < length dump) × Keeps old new
Dumped asked dump old new (Err Memory) = Keeps old new
Dumped asked dump old new (Err Read) = ⊥
Dumped asked dump old new (Err Syntax) = ⊥

-- hexadecimal text without its blanks and line ends
abbrev pub digits_of : List ℕ → List ℕ
digits_of input = filter (λ byte. not (is_ascii_whitespace byte)) input

-- the dump of an input: the input itself, or the bytes that its hexadecimal text encodes
abbrev pub GivesDump : Bool → List ℕ → List ℕ → Type 0
GivesDump false input bytes = bytes ≡ input
GivesDump true input bytes = decode_of (digits_of input) ≡ Ok bytes

-- the input has to be hexadecimal text, and is not
abbrev pub IsNoHex : Bool → List ℕ → Type 0
IsNoHex hex input = (hex ≡ true) × ((why : FromHexError) × (decode_of (digits_of input) ≡ Err why))

-- why an input gives no dump: it is too long, or not hexadecimal text; or an allocation failed
abbrev pub IsNoDump : Bool → List ℕ → DumpFault → Type 0
IsNoDump hex input Syntax = (length input ≤ LONGEST_TEXT) × IsNoHex hex input
IsNoDump hex input Limit = LONGEST_TEXT < length input
IsNoDump hex input Memory = Unit {0}
IsNoDump hex input Read = ⊥
IsNoDump hex input Write = ⊥

-- What was written for an input, by the result: what is written for its dump, and nothing if it
-- gives none, or can't be read.
abbrev pub WroteDump : DumpOptions → List ℕ → Option (List ℕ) → Option (List ℕ) → Result (Unit {0}) DumpFault → Type 0
WroteDump asked input old new (Ok done) =
    (dump : List ℕ) × GivesDump asked.hex input dump × Dumped asked dump old new (Ok done)
WroteDump asked input old new (Err Write) =
    (dump : List ℕ) × GivesDump asked.hex input dump × Dumped asked dump old new (Err Write)
WroteDump asked input old new (Err Limit) =
    ((LONGEST_TEXT < length input) ⊎ ((dump : List ℕ) × GivesDump asked.hex input dump × (most_bytes < length dump)))
    × Keeps old new
WroteDump asked input old new (Err Syntax) = IsNoHex asked.hex input × Keeps old new
WroteDump asked input old new (Err Memory) = Keeps old new
WroteDump asked input old new (Err Read) = Keeps old new
