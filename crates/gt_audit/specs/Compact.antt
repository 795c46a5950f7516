-- A record as the parts that are kept of it.
use Rattle.std.specs.Prelude.{◌≡◌, ℕ, ◌<◌, ◌^◌, ◌==◌, Some, None, if◌then◌else◌}
use Rattle.gt_types.specs.declared.DomId.{DomId}
use Rattle.gt_types.specs.declared.GrantRef.{GrantRef}
use Rattle.gt_types.specs.declared.TypeId.{TypeId}
use Rattle.gt_types.specs.declared.denial.Facts.{Facts}
use Rattle.gt_types.specs.declared.denial.Facts.TheVariants as facts
use Rattle.gt_types.specs.declared.denial.Field.{Field}
use Rattle.gt_types.specs.declared.denial.Field.TheVariants as fields
use Rattle.gt_audit.specs.declared.record.Hypercall.{Hypercall}
use Rattle.gt_audit.specs.declared.record.Hypercall.TheVariants as hypercalls
use Rattle.gt_audit.specs.declared.record.Record.{Record}
use Rattle.gt_audit.specs.declared.record.Reply.{Reply}
use Rattle.gt_audit.specs.declared.record.Reply.TheVariants as replies
use Rattle.gt_audit.specs.declared.compact.CallKind.{CallKind}
use Rattle.gt_audit.specs.declared.compact.CallKind.TheVariants as call_kinds
use Rattle.gt_audit.specs.declared.compact.ReplyKind.{ReplyKind}
use Rattle.gt_audit.specs.declared.compact.ReplyKind.TheVariants as reply_kinds
use Rattle.gt_audit.specs.declared.compact.Packed.{Packed}

-- the field with this number
abbrev pub field_at : ℕ → Field
field_at n =
    if n == 0 then fields.Length
    else (if n == 1 then fields.Kind
    else (if n == 2 then fields.Reading
    else (if n == 3 then fields.Writing
    else (if n == 4 then fields.Pwt
    else (if n == 5 then fields.Pcd
    else (if n == 6 then fields.Pat
    else (if n == 7 then fields.SubPage
    else fields.Reserved)))))))

-- the domain with this number
abbrev pub domain_kept : ℕ → DomId
domain_kept n = record { 0 = n }

-- the reference with this number
abbrev pub reference_at : ℕ → GrantRef
reference_at n = record { 0 = n }

-- the type with this number
abbrev pub type_at : ℕ → TypeId
type_at n = record { 0 = n }

-- the request
abbrev pub called : CallKind → Packed → Hypercall
called call_kinds.Map p = hypercalls.Map (domain_kept p.dom) (reference_at p.source) p.dest
called call_kinds.Unmap p = hypercalls.Unmap (Some (domain_kept p.dom, reference_at p.source))
called call_kinds.UnmapOfNothing p = hypercalls.Unmap None
called call_kinds.Copy p =
    hypercalls.Copy
    (record { ptr = p.source; domid = domain_kept p.dom; offset = p.source_off })
    (record { ptr = p.dest; domid = domain_kept p.dest_dom; offset = p.dest_off })
    p.len
    p.flags
called call_kinds.QuerySize p = hypercalls.QuerySize (domain_kept p.dom)
called call_kinds.GetVersion p = hypercalls.GetVersion (domain_kept p.dom)
called call_kinds.SetVersion p = hypercalls.SetVersion p.source
called call_kinds.SetupTable p = hypercalls.SetupTable p.source

-- the facts of a refusal
abbrev pub facts_of : ReplyKind → Packed → Facts
facts_of reply_kinds.ByPolicy p = facts.Policy (type_at p.of) (type_at p.found) (record { 0 = p.word })
facts_of reply_kinds.ForField p = facts.Field (field_at p.word)
facts_of reply_kinds.ForHeader p = facts.Header (domain_kept p.of) p.word
facts_of reply_kinds.ForEntry p = facts.Entry (domain_kept p.of) (reference_at p.found) p.word
facts_of answered p = facts.None

-- the answer
abbrev pub replied : ReplyKind → Packed → Reply
replied reply_kinds.Done p = replies.Done
replied reply_kinds.Frames p = replies.Frames p.word
replied reply_kinds.Size p = replies.Size (record { frames = p.found; max = p.word })
replied reply_kinds.Version p = replies.Version p.word
replied answered p = replies.Denied (record { rule = p.rule; status = p.status; facts = facts_of answered p })

-- the record of these parts
abbrev pub unpacked : Packed → Record
unpacked p = record { dom = domain_kept p.caller; call = called p.asked p; reply = replied p.answered p }

-- the numbers of a call other than a copy have 32 bits
abbrev pub FitsCall : CallKind → Packed → Type 0
FitsCall call_kinds.Copy p = Unit {0}
FitsCall asked p = (p.source < 2 ^ 32) × (p.dest < 2 ^ 32)

-- the numbers of an answer fit their types
abbrev pub FitsReply : ReplyKind → Packed → Type 0
FitsReply reply_kinds.ByPolicy p = (p.found < 2 ^ 16) × (p.word < 2 ^ 8)
FitsReply reply_kinds.Frames p = p.word < 2 ^ 32
FitsReply reply_kinds.Size p = p.word < 2 ^ 32
FitsReply reply_kinds.Version p = p.word < 2 ^ 32
FitsReply answered p = Unit {0}

-- the numbers fit the types of the record
abbrev pub Fits : Packed → Type 0
Fits p = FitsCall p.asked p × FitsReply p.answered p

-- with this call, and otherwise unchanged
pub record HasCall (call : Hypercall) (old new : Packed) : Type 0 where
  pub asks : called new.asked new ≡ call
  pub fits : FitsCall new.asked new
  pub caller : new.caller ≡ old.caller
  pub reply : replied new.answered new ≡ replied old.answered old
  pub stays : FitsReply old.answered old → FitsReply new.answered new

-- with this answer, and the caller unchanged
pub record HasReply (reply : Reply) (old new : Packed) : Type 0 where
  pub answers : replied new.answered new ≡ reply
  pub fits : FitsReply new.answered new
  pub caller : new.caller ≡ old.caller
