-- The lines of records.
use Rattle.std.specs.Prelude.{ℕ, Bool, List, [], ◌++◌, ◌==◌, if◌then◌else◌, Some, None, codes, decimal, bit_and}
use Rattle.gt_types.specs.declared.DomId.{DomId}
use Rattle.gt_types.specs.declared.GrantRef.{GrantRef}
use Rattle.gt_types.specs.declared.TypeId.{TypeId}
use Rattle.gt_types.specs.Names.{resolved}
use Rattle.gt_text.specs.Printing.{denial_text, frames_text, size_text, version_text}
use Rattle.gt_types.specs.declared.copies.End.{End}
use Rattle.gt_audit.specs.declared.record.Hypercall.{Hypercall}
use Rattle.gt_audit.specs.declared.record.Hypercall.TheVariants.{Map, Unmap, Copy, QuerySize, GetVersion, SetVersion}
use Rattle.gt_audit.specs.declared.record.Hypercall.TheVariants.{SetupTable}
use Rattle.gt_audit.specs.declared.record.Reply.{Reply}
use Rattle.gt_audit.specs.declared.record.Reply.TheVariants.{Done, Frames, Size, Version, Denied}
use Rattle.gt_audit.specs.declared.record.Record.{Record}

-- the domain that a call names, by its number: DOMID_SELF is the caller (xen.h)
abbrev pub domain_text : DomId → DomId → List ℕ
domain_text caller dom = decimal (resolved caller dom).0

-- ` DOM REF`
abbrev pub reference_text : DomId → DomId → GrantRef → List ℕ
reference_text caller dom gref = codes " " ++ domain_text caller dom ++ codes " " ++ decimal gref.0

-- what names an end of a copy: a grant reference or a frame number
abbrev pub copy_kind_text : Bool → List ℕ
copy_kind_text is_reference = if is_reference then codes "gref" else codes "frame"

-- ` KIND DOM PTR OFF`
abbrev pub end_text : DomId → Bool → End → List ℕ
end_text caller is_reference end =
    codes " " ++ copy_kind_text is_reference ++ codes " " ++ domain_text caller end.domid ++ codes " "
    ++ decimal end.ptr ++ codes " " ++ decimal end.offset

-- `copy`, its ends, the source first, its length and its flags: bit 0 gives the kind of the source, bit 1 that of the
-- destination (GNTCOPY of grant_table.h)
abbrev pub copy_text : DomId → End → End → ℕ → ℕ → List ℕ
copy_text caller source dest len flags =
    codes "copy" ++ end_text caller (bit_and flags 1 == 1) source ++ end_text caller (bit_and flags 2 == 2) dest
    ++ codes " " ++ decimal len ++ codes " " ++ decimal flags

-- the request
abbrev pub hypercall_text : DomId → Hypercall → List ℕ
hypercall_text caller (Map dom gref flags) = codes "map" ++ reference_text caller dom gref ++ codes " " ++ decimal flags
hypercall_text caller (Unmap None) = codes "unmap - -"
hypercall_text caller (Unmap (Some subject)) = codes "unmap" ++ reference_text caller subject.0 subject.1
hypercall_text caller (Copy source dest len flags) = copy_text caller source dest len flags
hypercall_text caller (QuerySize dom) = codes "size" ++ codes " " ++ domain_text caller dom
hypercall_text caller (GetVersion dom) = codes "getversion" ++ codes " " ++ domain_text caller dom
hypercall_text caller (SetVersion version) = codes "version" ++ codes " " ++ decimal version
hypercall_text caller (SetupTable frames) = codes "setup" ++ codes " " ++ decimal frames

-- `audit ID CALL : `
abbrev pub asked_text : DomId → Hypercall → List ℕ
asked_text caller call = codes "audit " ++ decimal caller.0 ++ codes " " ++ hypercall_text caller call ++ codes " : "

-- the answer; `called` gives the names of types
abbrev pub reply_text : (TypeId → List ℕ) → Reply → List ℕ
reply_text called Done = codes "ok"
reply_text called (Frames frames) = frames_text frames
reply_text called (Size size) = size_text size
reply_text called (Version version) = version_text version
reply_text called (Denied d) = denial_text called d

-- `audit ID CALL : ANSWER`
abbrev pub line_text : (TypeId → List ℕ) → Record → List ℕ
line_text called r = asked_text r.dom r.call ++ reply_text called r.reply ++ codes "\n"

-- `lost K`, if a record was lost
abbrev pub lost_text : ℕ → List ℕ
lost_text lost = if lost == 0 then [] else codes "lost " ++ decimal lost ++ codes "\n"
