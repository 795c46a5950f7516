-- How an audit record is encoded for C.
use Rattle.std.specs.Prelude.{Some, None}
use Rattle.gt_audit.specs.declared.record.Hypercall.{Hypercall}
use Rattle.gt_audit.specs.declared.record.Hypercall.TheVariants as hypercalls
use Rattle.gt_audit.specs.declared.record.Record.{Record}
use Rattle.gt_audit.specs.declared.record.Reply.{Reply}
use Rattle.gt_audit.specs.declared.record.Reply.TheVariants as replies
use Rattle.gt_types.specs.declared.copies.End.{End}
use Rattle.gt_attached.specs.Encoding.{encoded}
use Rattle.gt_attached.specs.declared.answer.AttachedOutcome.{AttachedOutcome}
use Rattle.gt_attached.specs.declared.answer.AttachedOutcome.TheVariants as outcomes
use Rattle.gt_attached.specs.declared.record.CopyEnd.{CopyEnd}
use Rattle.gt_attached.specs.declared.record.EncodedRecord.{EncodedRecord}

-- the result that a reply represents
abbrev pub outcome_of_reply : Reply → AttachedOutcome
outcome_of_reply replies.Done = outcomes.Done
outcome_of_reply (replies.Frames frames) = outcomes.Frames frames
outcome_of_reply (replies.Size size) = outcomes.Size size
outcome_of_reply (replies.Version version) = outcomes.Version version
outcome_of_reply (replies.Denied denial) = outcomes.Denied denial

-- an end of a copy
abbrev pub end_recorded : End → CopyEnd
end_recorded end = record { ptr = end.ptr; dom = end.domid.0; off = end.offset }

-- the end of a copy in a record of another call
abbrev pub no_end : CopyEnd
no_end = record { ptr = 0; dom = 0; off = 0 }

-- a record with only its caller and its reply
abbrev pub plainly : Record → EncodedRecord
plainly r =
    record {
      call = 0;
      caller = r.dom.0;
      dom = 0;
      gref = 0;
      flags = 0;
      len = 0;
      source = no_end;
      dest = no_end;
      reply = encoded (outcome_of_reply r.reply);
    }

-- a record with its call
abbrev pub with_call : Hypercall → EncodedRecord → EncodedRecord
with_call (hypercalls.Map dom gref flags) r = record r { call = 1; dom = dom.0; gref = gref.0; flags = flags }
with_call (hypercalls.Unmap (Some (dom, gref))) r = record r { call = 2; dom = dom.0; gref = gref.0 }
with_call (hypercalls.Unmap None) r = record r { call = 3 }
with_call (hypercalls.Copy source dest len flags) r =
    record r { call = 4; flags = flags; len = len; source = end_recorded source; dest = end_recorded dest }
with_call (hypercalls.QuerySize dom) r = record r { call = 5; dom = dom.0 }
with_call (hypercalls.GetVersion dom) r = record r { call = 6; dom = dom.0 }
with_call (hypercalls.SetVersion version) r = record r { call = 7; flags = version }
with_call (hypercalls.SetupTable frames) r = record r { call = 8; flags = frames }

-- the encoding of a record
abbrev pub record_kept : Record → EncodedRecord
record_kept r = with_call r.call (plainly r)
