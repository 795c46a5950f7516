-- What C passes, as values of the monitor.
use Rattle.std.specs.Prelude.{◌≡◌, ℕ, Bool, true, false, ◌&&◌, List, [], take, ◌==◌, if◌then◌else◌}
use Rattle.gt_model.specs.declared.entry.Entry.{Entry}
use Rattle.gt_model.specs.declared.entry.Entry.TheVariants.{Page, Sub, Via}
use Rattle.gt_model.specs.declared.handle.Handle.{Handle}
use Rattle.gt_live.specs.Mappings.{unused_handle}
use Rattle.gt_attached.specs.Encoding.{encoded}
use Rattle.gt_attached.specs.declared.answer.AttachedOutcome.{AttachedOutcome}
use Rattle.gt_attached.specs.declared.answer.EncodedAnswer.{EncodedAnswer}
use Rattle.gt_c.specs.declared.grants.EntryBytes.{EntryBytes}
use Rattle.gt_c.specs.declared.mappings.MapHandle.{MapHandle}
use Rattle.gt_c.specs.declared.c_domain.CDomain.{CDomain}

-- the name is of a mapping of this domain in this run
abbrev pub is_of_domain : CDomain → MapHandle → Bool
is_of_domain d name = (name.run == d.run) && (name.dom == d.attached.domain.seat.dom.0)

-- the handle that a name gives in a call of this domain: if the name is of another domain or run, one under which the
-- domain has no mapping
abbrev pub handle_named : CDomain → MapHandle → Handle
handle_named d name =
    if is_of_domain d name then record { serial = name.serial; key = name.key } else unused_handle d.attached.domain

-- the name is of another domain or run, and the answer is therefore this
abbrev pub RefusesForeign : CDomain → MapHandle → AttachedOutcome → EncodedAnswer → Type 0
RefusesForeign d name refused answer = is_of_domain d name ≡ false → answer ≡ encoded refused

-- read-only if the number is not 0
abbrev pub reads_only : ℕ → Bool
reads_only ro = if ro == 0 then false else true

-- a page (grant_table.h)
abbrev pub page : ℕ → ℕ → ℕ → Entry
page to frame ro = Page (record { 0 = to }) (reads_only ro) frame

-- bytes of a page (grant_table.h, sub-page)
abbrev pub sub : ℕ → ℕ → ℕ → ℕ → ℕ → Entry
sub to frame off len ro = Sub (record { 0 = to }) (reads_only ro) frame off len

-- another grant (grant_table.h, transitive)
abbrev pub via : ℕ → ℕ → ℕ → ℕ → Entry
via to dom2 gref ro = Via (record { 0 = to }) (reads_only ro) (record { 0 = dom2 }) (record { 0 = gref })

-- the bytes of an entry: 8 or 16 of them, and none for any other length
abbrev pub spelled : EntryBytes → List ℕ
spelled b = if b.len == 16 then b.bytes else if b.len == 8 then take 8 b.bytes else []
