-- The facts of a step of a call, and of what it saw. docs/FORMATS_SCRIPTS.md has them.
use Rattle.std.specs.Prelude.{ℕ, List, [], ◌++◌, codes, decimal}
use Rattle.gt_types.specs.declared.Dir.{Dir}
use Rattle.gt_types.specs.declared.Dir.TheVariants.{Read, Write}
use Rattle.gt_types.specs.declared.DomId.{DomId}
use Rattle.gt_types.specs.declared.GrantRef.{GrantRef}
use Rattle.gt_types.specs.declared.places.Spot.{Spot}
use Rattle.gt_model.specs.declared.change.BodyWord.{BodyWord}
use Rattle.gt_model.specs.declared.change.BodyWord.TheVariants.{First, Second}
use Rattle.gt_model.specs.declared.change.EntryChange.{EntryChange}
use Rattle.gt_model.specs.declared.change.EntryChange.TheVariants.{Demote, Promote, Publish, Revoke, Withdraw}
use Rattle.gt_model.specs.declared.action.Observation.{Observation}
use Rattle.gt_model.specs.declared.action.Observation.TheVariants.{Missed, Nothing, Taken, Word}
use Rattle.gt_model.specs.declared.action.Step.{Step}
use Rattle.gt_model.specs.declared.action.Step.TheVariants as call_steps
use Rattle.gt_model.specs.declared.held.HeldPin.{HeldPin}
use Rattle.gt_explore_trace.specs.Facts.{move_part, number_part, value_part, word_part}
use Rattle.gt_explore_trace.specs.declared.facts.TraceForm.{TraceForm}
use Rattle.gt_explore_trace.specs.declared.facts.TraceForm.TheVariants.{Json, Mermaid, Text}

-- an entry, by its owner and its reference
abbrev pub entry_part : TraceForm → DomId → GrantRef → List ℕ
entry_part form dom gref = number_part form (codes "owner") (decimal dom.0) ++ number_part form (codes "ref") (decimal gref.0)

abbrev pub dir_name : Dir → List ℕ
dir_name Read = codes "read"
dir_name Write = codes "write"

-- a step that takes or drops a pin, by its letter: the entry, and whether the pin is for reading or for writing
abbrev pub pin_text : TraceForm → List ℕ → HeldPin → List ℕ
pin_text form letter p =
    move_part form letter ++ entry_part form p.dom p.gref ++ value_part form (codes "pin") (dir_name p.dir)

abbrev pub change_name : EntryChange → List ℕ
change_name (Publish entry) = codes "publish"
change_name Revoke = codes "revoke"
change_name Withdraw = codes "withdraw"
change_name Demote = codes "demote"
change_name Promote = codes "promote"

-- bytes of a frame
unfoldable pub range_part : TraceForm → DomId → ℕ → ℕ → ℕ → List ℕ
range_part form dom frame off len =
    number_part form (codes "owner") (decimal dom.0) ++ number_part form (codes "frame") (decimal frame)
    ++ number_part form (codes "off") (decimal off) ++ number_part form (codes "len") (decimal len)

-- the first byte that a copy reads, and the first that it writes
unfoldable pub from_part : TraceForm → Spot → List ℕ
from_part form at =
    number_part form (codes "from_owner") (decimal at.frame.owner.0)
    ++ number_part form (codes "from_frame") (decimal at.frame.number)
    ++ number_part form (codes "from_off") (decimal at.off)

unfoldable pub to_part : TraceForm → Spot → List ℕ
to_part form at =
    number_part form (codes "to_owner") (decimal at.frame.owner.0)
    ++ number_part form (codes "to_frame") (decimal at.frame.number)
    ++ number_part form (codes "to_off") (decimal at.off)

-- the letters for a load and for a store of a body word
abbrev pub look_letters : BodyWord → List ℕ
look_letters First = codes "B0"
look_letters Second = codes "B1"

abbrev pub store_letters : BodyWord → List ℕ
store_letters First = codes "S0"
store_letters Second = codes "S1"

-- a load of a word of an entry, by its letters
abbrev pub look_text : TraceForm → List ℕ → DomId → GrantRef → List ℕ
look_text form letters dom gref = move_part form letters ++ entry_part form dom gref

-- the letter of an access to bytes, and its kind
abbrev pub access_start : TraceForm → List ℕ → List ℕ
access_start form access = move_part form (codes "A") ++ value_part form (codes "access") access

-- an exchange of a control word by its owner
unfoldable pub exchange_text : TraceForm → DomId → GrantRef → ℕ → EntryChange → List ℕ
exchange_text form dom gref looked change =
    move_part form (codes "X") ++ entry_part form dom gref ++ value_part form (codes "change") (change_name change)
    ++ word_part form (codes "from") looked

-- a store of the header word of this domain's table
unfoldable pub header_text : TraceForm → DomId → ℕ → ℕ → List ℕ
header_text form dom version frames =
    move_part form (codes "W") ++ number_part form (codes "owner") (decimal dom.0)
    ++ number_part form (codes "version") (decimal version) ++ number_part form (codes "frames") (decimal frames)

-- a copy of bytes
unfoldable pub copy_step_text : TraceForm → Spot → Spot → ℕ → List ℕ
copy_step_text form from to len =
    access_start form (codes "copy") ++ from_part form from ++ to_part form to
    ++ number_part form (codes "len") (decimal len)

-- a load of the header word of a table
abbrev pub header_look_text : TraceForm → DomId → List ℕ
header_look_text form owner = move_part form (codes "H") ++ number_part form (codes "owner") (decimal owner.0)

-- a step that takes a pin, and the word that it looked at
abbrev pub taken_pin_text : TraceForm → HeldPin → List ℕ
taken_pin_text form p = pin_text form (codes "P") p ++ word_part form (codes "from") p.word

-- a store of a body word of an entry
abbrev pub store_text : TraceForm → DomId → GrantRef → BodyWord → ℕ → List ℕ
store_text form dom gref body_word word =
    move_part form (store_letters body_word) ++ entry_part form dom gref ++ word_part form (codes "word") word

-- a read and a write of bytes of a frame
abbrev pub read_text : TraceForm → DomId → ℕ → ℕ → ℕ → List ℕ
read_text form owner frame off len = access_start form (codes "read") ++ range_part form owner frame off len

abbrev pub write_text : TraceForm → DomId → ℕ → ℕ → ℕ → List ℕ
write_text form owner frame off len = access_start form (codes "write") ++ range_part form owner frame off len

-- a step of a call of this domain
unfoldable pub step_text : TraceForm → DomId → Step → List ℕ
step_text form dom (call_steps.LookHeader owner) = header_look_text form owner
step_text form dom (call_steps.LookControl owner gref) = look_text form (codes "C") owner gref
step_text form dom (call_steps.LookBody owner gref body_word) = look_text form (look_letters body_word) owner gref
step_text form dom (call_steps.Pin p) = taken_pin_text form p
step_text form dom (call_steps.Unpin p holder) = pin_text form (codes "U") p
step_text form dom (call_steps.StoreBody gref body_word word) = store_text form dom gref body_word word
step_text form dom (call_steps.Exchange gref looked change) = exchange_text form dom gref looked change
step_text form dom (call_steps.StoreHeader version frames) = header_text form dom version frames
step_text form dom (call_steps.Read owner frame off len) = read_text form owner frame off len
step_text form dom (call_steps.Write owner frame off len) = write_text form owner frame off len
step_text form dom (call_steps.Copy from to len) = copy_step_text form from to len

-- that an exchange was taken
abbrev pub taken_part : TraceForm → List ℕ
taken_part Json = codes ",\"taken\":true"
taken_part Text = codes " taken"
taken_part Mermaid = codes " taken"

-- what a step saw
abbrev pub seen_part : TraceForm → Observation → List ℕ
seen_part form Nothing = []
seen_part form (Word word) = word_part form (codes "saw") word
seen_part form Taken = taken_part form
seen_part form (Missed word) = word_part form (codes "missed") word
