-- How the result of a call is encoded for C.
use Rattle.std.specs.Prelude.{ℕ, ℤ, pos}
use Rattle.gt_types.specs.declared.denial.Denial.{Denial}
use Rattle.gt_types.specs.declared.denial.Facts.{Facts}
use Rattle.gt_types.specs.declared.denial.Facts.TheVariants as facts
use Rattle.gt_types.specs.declared.denial.Field.{Field}
use Rattle.gt_types.specs.declared.denial.Field.TheVariants as fields
use Rattle.gt_types.specs.Denial.{rule_number, status_number}
use Rattle.gt_live.specs.declared.domain.following.Followed.{Followed}
use Rattle.gt_live.specs.declared.domain.following.Followed.TheVariants as follows
use Rattle.gt_attached.specs.declared.answer.EncodedAnswer.{EncodedAnswer}
use Rattle.gt_types.specs.declared.Dir.{Dir}
use Rattle.gt_types.specs.declared.Dir.TheVariants.{Read, Write}
use Rattle.gt_live.specs.declared.domain.mappings.LeftWord.{LeftWord}
use Rattle.gt_attached.specs.declared.answer.NamedMapping.{NamedMapping}
use Rattle.gt_attached.specs.declared.answer.AttachedOutcome.{AttachedOutcome}
use Rattle.gt_attached.specs.declared.answer.AttachedOutcome.TheVariants.{Done, Mapped, Frames, Version, Denied}
use Rattle.gt_attached.specs.declared.answer.AttachedOutcome.TheVariants.{NoDomain, Busy, NoMemory, NoCopy, Absent}
use Rattle.gt_attached.specs.declared.answer.AttachedOutcome.TheVariants.{Left}
use Rattle.gt_attached.specs.declared.answer.AttachedOutcome.TheVariants as outcomes

-- the number of a field of an entry's bytes
abbrev pub field_number : Field → ℕ
field_number fields.Length = 1
field_number fields.Kind = 2
field_number fields.Reading = 3
field_number fields.Writing = 4
field_number fields.Pwt = 5
field_number fields.Pcd = 6
field_number fields.Pat = 7
field_number fields.SubPage = 8
field_number fields.Reserved = 9

-- the number of what was done to an entry that followed the bytes of its guest
abbrev pub followed_number : Followed → ℕ
followed_number follows.Same = 0
followed_number follows.Demoted = 1
followed_number follows.Promoted = 2
followed_number follows.Withdrawn = 3
followed_number follows.Granted = 4

-- a result that has only a rule and a status
abbrev pub bare : ℕ → ℤ → EncodedAnswer
bare rule status =
    record {
      rule = rule;
      status = status;
      kind = 0;
      dom = 0;
      gref = 0;
      source = 0;
      target = 0;
      detail = 0;
      word = 0;
      value = 0;
      more = 0;
    }

-- Ok with a value: its kind, and its one or two numbers
abbrev pub given : ℕ → ℕ → ℕ → EncodedAnswer
given kind value more = record (bare 0 (pos 0)) { kind = kind; value = value; more = more }

-- 1 for a mapping that may be written, 0 for one that may only be read
abbrev pub writes : Dir → ℕ
writes Read = 0
writes Write = 1

-- Ok with a mapping and its name
abbrev pub mapped : NamedMapping → EncodedAnswer
mapped m =
    record (given 1 m.name.handle.serial m.name.handle.key) {
      dom = m.name.dom.0;
      gref = m.gref.0;
      source = m.owner.0;
      target = writes m.dir;
      detail = m.name.run;
      word = m.frame;
    }

-- Ok with the control word that an unmap left in an entry
abbrev pub released : LeftWord → EncodedAnswer
released left = record (given 12 0 0) { dom = left.dom.0; gref = left.gref.0; word = left.word }

-- a result with the facts of a refusal
abbrev pub with_facts : Facts → EncodedAnswer → EncodedAnswer
with_facts facts.None a = a
with_facts (facts.Policy source target perm) a =
    record a { kind = 5; source = source.0; target = target.0; detail = perm.0 }
with_facts (facts.Field field) a = record a { kind = 6; detail = field_number field }
with_facts (facts.Header dom word) a = record a { kind = 7; dom = dom.0; word = word }
with_facts (facts.Entry dom gref word) a = record a { kind = 8; dom = dom.0; gref = gref.0; word = word }

-- a refusal
abbrev pub refusal : Denial → EncodedAnswer
refusal d = with_facts d.facts (bare (rule_number d.rule) (status_number d.status))

-- the encoding of a result
abbrev pub encoded : AttachedOutcome → EncodedAnswer
encoded Done = bare 0 (pos 0)
encoded (Mapped made) = mapped made
encoded (Frames frames) = given 2 frames 0
encoded (Version version) = given 3 version 0
encoded (outcomes.Size size) = given 4 size.frames size.max
encoded (Denied denial) = refusal denial
encoded NoDomain = bare 256 (pos 0)
encoded Busy = bare 257 (pos 0)
encoded NoMemory = bare 258 (pos 0)
encoded NoCopy = bare 259 (pos 0)
encoded Absent = bare 260 (pos 0)
encoded (Left remains) = given 9 remains.lost remains.in_use
encoded (outcomes.Taken taken) = given 10 taken.records taken.lost
encoded (outcomes.Followed followed) = given 11 (followed_number followed) 0
encoded (outcomes.Released left) = released left
encoded (outcomes.Ended left) = record (given 13 left.dest 0) { word = left.source }
encoded (outcomes.Reference gref) = record (given 14 0 0) { gref = gref.0 }
encoded (outcomes.MappedAll count) = given 15 count 0
encoded (outcomes.RefusedAt refused) = record (refusal refused.denial) { value = 1; more = refused.index }
