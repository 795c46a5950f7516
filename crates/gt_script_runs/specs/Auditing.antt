-- The audit of a run, as a function of its trace.
use Rattle.std.specs.Prelude.{◌≡◌, ◌==◌, ◌++◌, ℕ, Bool, true, false, List, [], ◌∷◌, Option, None, Some, if◌then◌else◌}
use Rattle.std.specs.Prelude.{option_to_list}
use Rattle.gt_script_runs.specs.Prelude.{DomId, GrantRef, Handle, asked, OpenRequest, type_text, line_text}
use Rattle.gt_script_runs.specs.Prelude.{reply_text, Hypercall, Record, Reply, History, Setting, Underway, open_call}
use Rattle.gt_script_runs.specs.Prelude.{grown, subject_at, Answer, Element, ItemEvent, Began, Stepped, Item}
use Rattle.gt_model.specs.declared.request.OpenRequest.TheVariants as asks
use Rattle.gt_audit.specs.declared.record.Hypercall.TheVariants as hypercalls
use Rattle.gt_audit.specs.declared.record.Reply.TheVariants as replies
use Rattle.gt_model.specs.declared.trace.Answer.TheVariants as answers
use Rattle.gt_model.specs.declared.trace.Element.TheVariants as elements
use Rattle.gt_script_runs.specs.Printing.{answer_text}

-- the records of calls

-- the record of a call, if calls of its kind are audited; an unmap is recorded by the entry that its handle names
abbrev pub hypercall_of_request : (Handle → Option (DomId × GrantRef)) → OpenRequest → Option Hypercall
hypercall_of_request subject (asks.Map dom gref flags) = Some (hypercalls.Map dom gref flags)
hypercall_of_request subject (asks.Unmap handle) = Some (hypercalls.Unmap (subject handle))
hypercall_of_request subject (asks.Copy c) = Some (hypercalls.Copy c.source c.dest c.len c.flags)
hypercall_of_request subject (asks.QuerySize dom) = Some (hypercalls.QuerySize dom)
hypercall_of_request subject (asks.GetVersion dom) = Some (hypercalls.GetVersion dom)
hypercall_of_request subject (asks.SetVersion version) = Some (hypercalls.SetVersion version)
hypercall_of_request subject (asks.SetupTable frames) = Some (hypercalls.SetupTable frames)
hypercall_of_request subject (asks.Grant gref entry) = None
hypercall_of_request subject (asks.Revoke gref) = None
hypercall_of_request subject (asks.Withdraw gref) = None
hypercall_of_request subject (asks.Demote gref) = None
hypercall_of_request subject (asks.Promote gref) = None
hypercall_of_request subject (asks.Release handle) = None
hypercall_of_request subject (asks.Probe c) = None
hypercall_of_request subject (asks.Load handle off len) = None
hypercall_of_request subject (asks.Store handle off len) = None
hypercall_of_request subject (asks.Peek frame off len) = None
hypercall_of_request subject (asks.Poke frame off len) = None

-- the reply in the record of an answer; the handle of a map is not recorded
abbrev pub audited_reply : Answer → Reply
audited_reply (answers.Denied denial) = replies.Denied denial
audited_reply answers.Done = replies.Done
audited_reply (answers.Mapped handle) = replies.Done
audited_reply (answers.Bytes bytes) = replies.Done
audited_reply (answers.Frames frames) = replies.Frames frames
audited_reply (answers.Size size) = replies.Size size
audited_reply (answers.Version version) = replies.Version version

-- the reply prints as the answer does; bytes, which no audited call returns, are not recorded
abbrev pub PrintsAs : List (List ℕ) → Answer → Reply → Type 0
PrintsAs names (answers.Bytes bytes) reply = Unit {0}
PrintsAs names answer reply = reply_text (type_text (λ name. name) names) reply ≡ answer_text names answer

-- the record of an answered call of this domain; none if the call is not audited
abbrev pub encoded_record : DomId → Option Hypercall → Answer → Option Record
encoded_record dom None answer = None
encoded_record dom (Some call) answer = Some (record { dom = dom; call = call; reply = audited_reply answer })

-- the record of an answer, if there is one
abbrev pub record_with : DomId → Option Hypercall → Option Answer → Option Record
record_with dom told None = None
record_with dom told (Some answer) = encoded_record dom told answer

-- the records of a trace

-- the items before a call began, by whether it began with this item or earlier
abbrev pub before_begun : ItemEvent → History → History → History
before_begun (Began request) before earlier = before
before_begun (Stepped step seen) before earlier = earlier

-- the items before the domain's last call began
unfoldable pub before_call : History → ℕ → History
before_call [] d = []
before_call (i ∷ before) d =
    if i.actor.0 == d then before_begun i.happened before (before_call before d) else before_call before d

-- the record of a call under way that began after these items
abbrev pub underway_hypercall : Setting → DomId → History → Option Underway → Option Hypercall
underway_hypercall s d begun None = None
underway_hypercall s d begun (Some c) = hypercall_of_request (subject_at s begun d) c.request

-- the record of the domain's open call; an unmap is recorded by the entry that its handle named when it began
abbrev pub open_hypercall : Setting → History → DomId → Option Hypercall
open_hypercall s h d = underway_hypercall s d (before_call h d.0) (open_call h d.0)

-- the record of the call of an item that came after these
abbrev pub item_hypercall : Setting → History → DomId → ItemEvent → Option Hypercall
item_hypercall s h d (Began request) = hypercall_of_request (subject_at s h d) (asked request)
item_hypercall s h d (Stepped step seen) = open_hypercall s h d

-- the record of an item that came after these, if it has the answer of an audited call
abbrev pub record_of : Setting → History → Item → Option Record
record_of s h i = record_with i.actor (item_hypercall s h i.actor i.happened) i.answer

-- the record of an element of a trace
abbrev pub record_in : Setting → History → Element → Option Record
record_in s h (elements.Item i) = record_of s h i
record_in s h elements.Busy = None
record_in s h elements.Idle = None
record_in s h elements.NoDomain = None

-- the records of a trace that continued these items, in the order of the answers
abbrev pub records_of : Setting → History → List Element → List Record
records_of s h [] = []
records_of s h (x ∷ xs) = option_to_list (record_in s h x) ++ records_of s (grown h x) xs

-- the text

-- the lines of these records
abbrev pub record_lines : List (List ℕ) → List Record → List ℕ
record_lines names [] = []
record_lines names (r ∷ rs) = line_text (type_text (λ name. name) names) r ++ record_lines names rs

-- the lines of these records, if the audit is on
abbrev pub asked_lines : Bool → List (List ℕ) → List Record → List ℕ
asked_lines false names rs = []
asked_lines true names rs = record_lines names rs

-- the audit text of a trace, if the audit is on
abbrev pub audit_text : Bool → Setting → List (List ℕ) → List Element → List ℕ
audit_text audit s names trace = asked_lines audit names (records_of s [] trace)
