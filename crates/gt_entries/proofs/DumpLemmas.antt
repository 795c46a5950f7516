-- From the dump that an input says to what is written for the input.
use Rattle.std.proofs.Common.{◌≡◌, ℕ, ◌<◌, ◌≤◌, List, ◌++◌, length, length-take, take, Option, Result, Ok}
use Rattle.std.proofs.Common.{Err, subst, sym, ◌∙◌, inl, inr, arith, suc}
use Rattle.gt_text.specs.Laws.{keeps_same, of_any_input, take_whole}
use Rattle.gt_text.specs.Streams.{OfInput}
use Rattle.gt_text.specs.declared.fault.ReadFault.{ReadFault}
use Rattle.gt_text.specs.declared.fault.ReadFault.TheVariants as read_faults
use Rattle.gt_entries.specs.declared.asked.DumpOptions.{DumpOptions}
use Rattle.gt_entries.specs.declared.fault.DumpFault.{DumpFault}
use Rattle.gt_entries.specs.declared.fault.DumpFault.TheVariants.{Memory, Read, Write, Limit, Syntax}
use Rattle.gt_entries.specs.Dumps.{Dumped, IsNoDump, GivesDump, AreEntryTexts, IsEntryText, WroteDump, entry_bytes_at}
use Rattle.gt_entries.specs.Faults.{dump_read_fault}

-- the text of one more entry
pub tells_next : (asked : DumpOptions) (dump : List ℕ) (ref : ℕ) (bytes before after : List ℕ) → AreEntryTexts asked dump ref before → bytes ≡ entry_bytes_at asked.version dump ref
    → (line : List ℕ) × IsEntryText asked ref bytes line × (after ≡ before ++ line) → AreEntryTexts asked dump (suc ref) after
tells_next asked dump ref bytes before after told is (line, tells, grown) =
    (before, line, grown, told, subst (λ (b : List ℕ). IsEntryText asked ref b line) is tells)

whole : (input all : List ℕ) → input ≡ take 1048577 all → length input ≤ 1048576 → input ≡ all
whole input all e few = e ∙ take_whole 1048576 all (subst (λ (l : List ℕ). length l ≤ 1048576) e few)

shorter : (n : ℕ) (xs : List ℕ) → length (take n xs) ≤ length xs
shorter n xs = rw length-take (omega arith)

longer : (input all : List ℕ) → input ≡ take 1048577 all → 1048576 < length input → 1048576 < length all
longer input all e long =
    let many : 1048576 < length (take 1048577 all) = subst (λ (l : List ℕ). 1048576 < length l) e long in
    omega (arith, many, shorter 1048577 all)

told : (asked : DumpOptions) (input dump : List ℕ) (old new : Option (List ℕ)) (r : Result (Unit {0}) DumpFault) → GivesDump asked.hex input dump → Dumped asked dump old new r → WroteDump asked input old new r
told asked input dump old new (Ok done) says dumped = (dump, says, dumped)
told asked input dump old new (Err Write) says dumped = (dump, says, dumped)
told asked input dump old new (Err Limit) says dumped = (inr (dump, says, dumped.0), dumped.1)
told asked input dump old new (Err Memory) says dumped = dumped
told asked input dump old new (Err Read) says dumped = absurd dumped
told asked input dump old new (Err Syntax) says dumped = absurd dumped

-- what was read gives a dump, which was written
pub told_all : (asked : DumpOptions) (input all dump : List ℕ) (old new : Option (List ℕ)) (r : Result (Unit {0}) DumpFault) → input ≡ take 1048577 all → length input ≤ 1048576 → GivesDump asked.hex input dump
    → Dumped asked dump old new r → WroteDump asked all old new r
told_all asked input all dump old new r read few says dumped = subst (λ (l : List ℕ). WroteDump asked l old new r) (whole input all read few) (told asked input dump old new r says dumped)

-- what was read gives none
pub untold : (asked : DumpOptions) (input all : List ℕ) (old : Option (List ℕ)) (fault : DumpFault) → input ≡ take 1048577 all → IsNoDump asked.hex input fault → WroteDump asked all old old (Err fault)
untold asked input all old Memory read is = keeps_same old
untold asked input all old Syntax read is = subst (λ (l : List ℕ). WroteDump asked l old old (Err Syntax)) (whole input all read is.0) (is.1, keeps_same old)
untold asked input all old Limit read is = (inl (longer input all read is), keeps_same old)
untold asked input all old Read read is = absurd is
untold asked input all old Write read is = absurd is

-- nothing could be read
unread : (asked : DumpOptions) (all : List ℕ) (old : Option (List ℕ)) (error : ReadFault) → WroteDump asked all old old (Err (dump_read_fault error))
unread asked all old read_faults.Memory = keeps_same old
unread asked all old read_faults.Read = keeps_same old

pub untold_read : (asked : DumpOptions) (known old : Option (List ℕ)) (error : ReadFault) (fault : DumpFault) → fault ≡ dump_read_fault error → OfInput known (λ input. WroteDump asked input old old (Err fault))
untold_read asked known old error fault is =
    of_any_input known (λ (input : List ℕ). WroteDump asked input old old (Err fault)) (λ (input : List ℕ). subst (λ (f : DumpFault). WroteDump asked input old old (Err f)) (sym is) (unread asked input old error))
