-- How C reads an encoded result.
use Rattle.std.specs.Prelude.{◌≡◌, ◌==◌, ℕ, ℤ, pos, negsuc, if◌then◌else◌}
use Rattle.gt_types.specs.declared.denial.Denial.{Denial}
use Rattle.gt_types.specs.declared.denial.Rule.{Rule}
use Rattle.gt_types.specs.declared.denial.Rule.TheVariants.{N1, N2, N3, N4, N5, N6, N7, N8, N9, N10, N11, N12, N13, N14}
use Rattle.gt_types.specs.declared.denial.Rule.TheVariants.{N15, N16, N17, N18, N19, N20, N21, N22, N23, N24, N25, N26}
use Rattle.gt_types.specs.declared.denial.Status.{Status}
use Rattle.gt_types.specs.declared.denial.Status.TheVariants as statuses
use Rattle.gt_types.specs.declared.denial.Facts.{Facts}
use Rattle.gt_types.specs.declared.denial.Facts.TheVariants as facts
use Rattle.gt_types.specs.declared.denial.Field.{Field}
use Rattle.gt_types.specs.declared.denial.Field.TheVariants as fields
use Rattle.gt_live.specs.declared.domain.following.Followed.{Followed}
use Rattle.gt_live.specs.declared.domain.following.Followed.TheVariants as follows
use Rattle.gt_attached.specs.declared.answer.EncodedAnswer.{EncodedAnswer}
use Rattle.gt_types.specs.declared.Dir.{Dir}
use Rattle.gt_types.specs.declared.Dir.TheVariants.{Read, Write}
use Rattle.gt_attached.specs.declared.answer.NamedMapping.{NamedMapping}
use Rattle.gt_attached.specs.declared.answer.AttachedOutcome.{AttachedOutcome}
use Rattle.gt_attached.specs.declared.answer.AttachedOutcome.TheVariants.{Done, Mapped, Frames, Version, Denied}
use Rattle.gt_attached.specs.declared.answer.AttachedOutcome.TheVariants.{NoDomain, Busy, NoMemory, NoCopy, Absent}
use Rattle.gt_attached.specs.declared.answer.AttachedOutcome.TheVariants.{Left}
use Rattle.gt_attached.specs.declared.answer.AttachedOutcome.TheVariants as outcomes
use Rattle.gt_attached.specs.Encoding.{encoded}

-- the rule with this number, or the last one if there is none
abbrev pub rule_named : ℕ → Rule
rule_named n =
    if n == 1 then N1 else
    if n == 2 then N2 else
    if n == 3 then N3 else
    if n == 4 then N4 else
    if n == 5 then N5 else
    if n == 6 then N6 else
    if n == 7 then N7 else
    if n == 8 then N8 else
    if n == 9 then N9 else
    if n == 10 then N10 else
    if n == 11 then N11 else
    if n == 12 then N12 else
    if n == 13 then N13 else
    if n == 14 then N14 else
    if n == 15 then N15 else
    if n == 16 then N16 else
    if n == 17 then N17 else
    if n == 18 then N18 else
    if n == 19 then N19 else
    if n == 20 then N20 else
    if n == 21 then N21 else
    if n == 22 then N22 else
    if n == 23 then N23 else
    if n == 24 then N24 else
    if n == 25 then N25 else
    N26

-- the status whose number is -(n + 1)
abbrev pub status_below : ℕ → Status
status_below n =
    if n == 1 then statuses.BadDomain else
    if n == 2 then statuses.BadGntref else
    if n == 3 then statuses.BadHandle else
    if n == 7 then statuses.PermissionDenied else
    if n == 8 then statuses.BadPage else
    if n == 9 then statuses.BadCopyArg else
    if n == 11 then statuses.Eagain else
    statuses.GeneralError

-- the status with this number (GNTST_ of grant_table.h)
abbrev pub status_named : ℤ → Status
status_named (pos n) = statuses.GeneralError
status_named (negsuc n) = status_below n

-- the field with this number
abbrev pub field_named : ℕ → Field
field_named n =
    if n == 1 then fields.Length else
    if n == 2 then fields.Kind else
    if n == 3 then fields.Reading else
    if n == 4 then fields.Writing else
    if n == 5 then fields.Pwt else
    if n == 6 then fields.Pcd else
    if n == 7 then fields.Pat else
    if n == 8 then fields.SubPage else
    fields.Reserved

-- what was done to an entry that followed the bytes of its guest, by its number
abbrev pub followed_named : ℕ → Followed
followed_named n =
    if n == 0 then follows.Same else
    if n == 1 then follows.Demoted else
    if n == 2 then follows.Promoted else
    if n == 3 then follows.Withdrawn else
    follows.Granted

-- the facts of a refusal
abbrev pub facts_in : EncodedAnswer → Facts
facts_in a =
    if a.kind == 5 then
    facts.Policy (record { 0 = a.source }) (record { 0 = a.target }) (record { 0 = a.detail }) else
    if a.kind == 6 then facts.Field (field_named a.detail) else
    if a.kind == 7 then facts.Header (record { 0 = a.dom }) a.word else
    if a.kind == 8 then facts.Entry (record { 0 = a.dom }) (record { 0 = a.gref }) a.word else
    facts.None

-- for writing, or only for reading
abbrev pub dir_named : ℕ → Dir
dir_named n = if n == 1 then Write else Read

-- a mapping with its name
abbrev pub named : EncodedAnswer → NamedMapping
named a =
    record {
      name =
          record {
            handle = record { serial = a.value; key = a.more };
            dom = record { 0 = a.dom };
            run = a.detail;
          };
      owner = record { 0 = a.source };
      gref = record { 0 = a.gref };
      frame = a.word;
      dir = dir_named a.target;
    }

-- the result of a call that is Ok
abbrev pub decoded_answer : EncodedAnswer → AttachedOutcome
decoded_answer a =
    if a.kind == 1 then Mapped (named a) else
    if a.kind == 2 then Frames a.value else
    if a.kind == 3 then Version a.value else
    if a.kind == 4 then outcomes.Size (record { frames = a.value; max = a.more }) else
    if a.kind == 9 then Left (record { lost = a.value; in_use = a.more }) else
    if a.kind == 10 then outcomes.Taken (record { records = a.value; lost = a.more }) else
    if a.kind == 11 then outcomes.Followed (followed_named a.value) else
    if a.kind == 12 then
    outcomes.Released (record { dom = record { 0 = a.dom }; gref = record { 0 = a.gref }; word = a.word }) else
    if a.kind == 13 then outcomes.Ended (record { source = a.word; dest = a.value }) else
    if a.kind == 14 then outcomes.Reference (record { 0 = a.gref }) else
    if a.kind == 15 then outcomes.MappedAll a.value else
    Done

-- why a call is refused
abbrev pub denial_read : EncodedAnswer → Denial
denial_read a = record { rule = rule_named a.rule; status = status_named a.status; facts = facts_in a }

-- the result of a call that a rule refuses, alone or as one map of several
abbrev pub decoded_refusal : EncodedAnswer → AttachedOutcome
decoded_refusal a =
    if a.value == 1 then outcomes.RefusedAt (record { index = a.more; denial = denial_read a }) else Denied (denial_read a)

-- the result that is encoded
abbrev pub decoded : EncodedAnswer → AttachedOutcome
decoded a =
    if a.rule == 256 then NoDomain else
    if a.rule == 257 then Busy else
    if a.rule == 258 then NoMemory else
    if a.rule == 259 then NoCopy else
    if a.rule == 260 then Absent else
    if a.rule == 0 then decoded_answer a else
    decoded_refusal a

-- each result is decoded from its encoding
abbrev pub AnswersAreReadBack : Type 0
AnswersAreReadBack = (o : AttachedOutcome) → decoded (encoded o) ≡ o
