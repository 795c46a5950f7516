-- The meaning of the words of a line, by their positions (own; the lines are those that the commands print).
use Rattle.std.specs.Prelude.{ℕ, ◌&&◌, ◌||◌, not, Bool, true, false, List, codes, if◌then◌else◌}
use Rattle.std.specs.Str.{bytes_eq}
use Rattle.gt_json.specs.Words.{begins_as_rule}
use Rattle.gt_json.specs.declared.places.PrintedText.{PrintedText}
use Rattle.gt_json.specs.declared.places.PrintedText.TheVariants.{Run, Policy, Entries}
use Rattle.gt_json.specs.declared.places.WordPlace.{WordPlace}
use Rattle.gt_json.specs.declared.places.WordPlace.TheVariants as word_places

-- the first word of a line
abbrev pub start : PrintedText → WordPlace
start Run = word_places.Line
start Policy = word_places.Source
start Entries = word_places.Dumped

-- this is the first word of a line
abbrev pub is_start : WordPlace → Bool
is_start word_places.Line = true
is_start word_places.Source = true
is_start word_places.Dumped = true
is_start _ = false

-- this is a fact, which may have its own name
abbrev pub is_fact : WordPlace → Bool
is_fact word_places.Fact = true
is_fact _ = false

-- the word is the colon before the answer of an audit line, which is not a member
abbrev pub is_mark : WordPlace → List ℕ → Bool
is_mark p w = not (is_start p) && bytes_eq w (codes ":")

-- the word after the first one of a line of a run
abbrev pub after_line : List ℕ → WordPlace
after_line w = if bytes_eq w (codes "audit") then word_places.Recorded
    else (if bytes_eq w (codes "lost") then word_places.Lost else word_places.Caller)

-- the word after the kind of an entry
abbrev pub after_kind : List ℕ → WordPlace
after_kind w =
    if (bytes_eq w (codes "page") || bytes_eq w (codes "sub")) || bytes_eq w (codes "via") then word_places.Grantee
    else (if bytes_eq w (codes "refused") then word_places.Field else word_places.Fact)

-- the word after the name of a call
abbrev pub after_call : List ℕ → WordPlace
after_call w = if bytes_eq w (codes "copy") then word_places.FromKind
    else (if bytes_eq w (codes "version") || bytes_eq w (codes "setup") then word_places.Asked else word_places.Owner)

-- the word after one that is a member
abbrev pub next_place : WordPlace → List ℕ → WordPlace
next_place word_places.Line w = after_line w
next_place word_places.Caller w = if bytes_eq w (codes "show") then word_places.Shown else word_places.Answer
next_place word_places.Answer w = if begins_as_rule w then word_places.Status else word_places.Fact
next_place word_places.Status w = word_places.Fact
next_place word_places.Fact w = word_places.Fact
next_place word_places.Shown w = word_places.Entry
next_place word_places.Entry w = word_places.Kind
next_place word_places.Kind w = after_kind w
next_place word_places.Grantee w = word_places.Mode
next_place word_places.Mode w = word_places.Fact
next_place word_places.Field w = word_places.Fact
next_place word_places.Recorded w = word_places.Call
next_place word_places.Call w = after_call w
next_place word_places.Owner w = word_places.Reference
next_place word_places.Reference w = word_places.Flags
next_place word_places.Flags w = word_places.Fact
next_place word_places.Asked w = word_places.Fact
next_place word_places.FromKind w = word_places.FromOwner
next_place word_places.FromOwner w = word_places.FromAt
next_place word_places.FromAt w = word_places.FromOff
next_place word_places.FromOff w = word_places.ToKind
next_place word_places.ToKind w = word_places.ToOwner
next_place word_places.ToOwner w = word_places.ToAt
next_place word_places.ToAt w = word_places.ToOff
next_place word_places.ToOff w = word_places.Len
next_place word_places.Len w = word_places.Flags
next_place word_places.Lost w = word_places.Fact
next_place word_places.Source w = word_places.Target
next_place word_places.Target w = word_places.Permission
next_place word_places.Permission w = word_places.Fact
next_place word_places.Dumped w = word_places.Kind

-- the word after this one
unfoldable pub next : WordPlace → List ℕ → WordPlace
next p w = if is_mark p w then word_places.Answer else next_place p w

-- the name of the word; for a fact, that of one without its own name
unfoldable pub name_at : WordPlace → List ℕ → List ℕ
name_at word_places.Line w =
    if bytes_eq w (codes "audit") || bytes_eq w (codes "lost") then codes "type" else codes "line"
name_at word_places.Caller w = if bytes_eq w (codes "show") then codes "type" else codes "domain"
name_at word_places.Answer w = if begins_as_rule w then codes "rule" else codes "answer"
name_at word_places.Status w = codes "status"
name_at word_places.Fact w = codes "bytes"
name_at word_places.Shown w = codes "domain"
name_at word_places.Entry w = codes "entry"
name_at word_places.Kind w = codes "kind"
name_at word_places.Grantee w = codes "grantee"
name_at word_places.Mode w = codes "mode"
name_at word_places.Field w = codes "field"
name_at word_places.Recorded w = codes "domain"
name_at word_places.Call w = codes "call"
name_at word_places.Owner w = codes "owner"
name_at word_places.Reference w = codes "ref"
name_at word_places.Flags w = codes "flags"
name_at word_places.Asked w = codes "asked"
name_at word_places.FromKind w = codes "from_kind"
name_at word_places.FromOwner w = codes "from_owner"
name_at word_places.FromAt w = codes "from_at"
name_at word_places.FromOff w = codes "from_off"
name_at word_places.ToKind w = codes "to_kind"
name_at word_places.ToOwner w = codes "to_owner"
name_at word_places.ToAt w = codes "to_at"
name_at word_places.ToOff w = codes "to_off"
name_at word_places.Len w = codes "len"
name_at word_places.Lost w = codes "records"
name_at word_places.Source w = codes "source"
name_at word_places.Target w = codes "target"
name_at word_places.Permission w = codes "perm"
name_at word_places.Dumped w = codes "entry"
