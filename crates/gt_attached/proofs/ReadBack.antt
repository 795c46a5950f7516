-- An outcome is read back from its answer.
use Rattle.std.proofs.Common.{◌≡◌, ℕ, refl}
use Rattle.gt_types.specs.declared.Dir.{Dir}
use Rattle.gt_types.specs.declared.Dir.TheVariants.{Read, Write}
use Rattle.gt_types.specs.declared.DomId.{DomId}
use Rattle.gt_types.specs.declared.GrantRef.{GrantRef}
use Rattle.gt_attached.specs.declared.answer.MappingName.{MappingName}
use Rattle.std.specs.Prelude.{◌==◌, if◌then◌else◌}
use Rattle.gt_types.specs.declared.denial.Denial.{Denial}
use Rattle.gt_types.specs.declared.denial.Rule.{Rule}
use Rattle.gt_types.specs.declared.denial.Rule.TheVariants.{N1, N2, N3, N4, N5, N6, N7, N8, N9, N10, N11, N12, N13, N14}
use Rattle.gt_types.specs.declared.denial.Rule.TheVariants.{N15, N16, N17, N18, N19, N20, N21, N22, N23, N24, N25, N26}
use Rattle.gt_types.specs.declared.denial.Status.{Status}
use Rattle.gt_types.specs.declared.denial.Status.TheVariants as statuses
use Rattle.gt_types.specs.declared.denial.Facts.{Facts}
use Rattle.gt_types.specs.declared.denial.Facts.TheVariants as facts
use Rattle.gt_types.specs.declared.denial.Field.{Field}
use Rattle.gt_types.specs.declared.denial.Field.TheVariants as fields
use Rattle.gt_types.specs.Denial.{rule_number, status_number}
use Rattle.gt_live.specs.declared.domain.following.Followed.TheVariants as follows
use Rattle.gt_attached.specs.declared.answer.AttachedOutcome.{AttachedOutcome}
use Rattle.gt_attached.specs.declared.answer.AttachedOutcome.TheVariants.{Done, Mapped, Frames, Version, Size, Denied}
use Rattle.gt_attached.specs.declared.answer.AttachedOutcome.TheVariants.{NoDomain, Busy, NoMemory, NoCopy, Absent}
use Rattle.gt_attached.specs.declared.answer.AttachedOutcome.TheVariants.{Left}
use Rattle.gt_attached.specs.declared.answer.AttachedOutcome.TheVariants as outcomes
use Rattle.gt_attached.specs.Encoding.{encoded, field_number}
use Rattle.gt_attached.specs.Decoding.{AnswersAreReadBack, decoded, field_named, rule_named, status_named}

named_status : (s : Status) → status_named (status_number s) ≡ s
named_status statuses.GeneralError = refl
named_status statuses.BadDomain = refl
named_status statuses.BadGntref = refl
named_status statuses.BadHandle = refl
named_status statuses.PermissionDenied = refl
named_status statuses.BadPage = refl
named_status statuses.BadCopyArg = refl
named_status statuses.Eagain = refl

named_field : (f : Field) → field_named (field_number f) ≡ f
named_field fields.Length = refl
named_field fields.Kind = refl
named_field fields.Reading = refl
named_field fields.Writing = refl
named_field fields.Pwt = refl
named_field fields.Pcd = refl
named_field fields.Pat = refl
named_field fields.SubPage = refl
named_field fields.Reserved = refl

same : (Refuses : Denial → AttachedOutcome) (r : Rule) (s : Status) (f g : Facts) → f ≡ g
    → Refuses (record { rule = r; status = status_named (status_number s); facts = f })
    ≡ Refuses (record { rule = r; status = s; facts = g })
same Refuses r s f g e = λ i. Refuses (record { rule = r; status = named_status s i; facts = e i })

denied : (Refuses : Denial → AttachedOutcome) (r : Rule) (s : Status) (f g : Facts) (x : AttachedOutcome) → f ≡ g
    → (if rule_number r == 256 then NoDomain else if rule_number r == 257 then Busy else
    if rule_number r == 258 then NoMemory else if rule_number r == 259 then NoCopy else
    if rule_number r == 260 then Absent else
    if rule_number r == 0 then x else
    Refuses (record { rule = rule_named (rule_number r); status = status_named (status_number s); facts = f }))
    ≡ Refuses (record { rule = r; status = s; facts = g })
denied Refuses N1 s f g x e = same Refuses N1 s f g e
denied Refuses N2 s f g x e = same Refuses N2 s f g e
denied Refuses N3 s f g x e = same Refuses N3 s f g e
denied Refuses N4 s f g x e = same Refuses N4 s f g e
denied Refuses N5 s f g x e = same Refuses N5 s f g e
denied Refuses N6 s f g x e = same Refuses N6 s f g e
denied Refuses N7 s f g x e = same Refuses N7 s f g e
denied Refuses N8 s f g x e = same Refuses N8 s f g e
denied Refuses N9 s f g x e = same Refuses N9 s f g e
denied Refuses N10 s f g x e = same Refuses N10 s f g e
denied Refuses N11 s f g x e = same Refuses N11 s f g e
denied Refuses N12 s f g x e = same Refuses N12 s f g e
denied Refuses N13 s f g x e = same Refuses N13 s f g e
denied Refuses N14 s f g x e = same Refuses N14 s f g e
denied Refuses N15 s f g x e = same Refuses N15 s f g e
denied Refuses N16 s f g x e = same Refuses N16 s f g e
denied Refuses N17 s f g x e = same Refuses N17 s f g e
denied Refuses N18 s f g x e = same Refuses N18 s f g e
denied Refuses N19 s f g x e = same Refuses N19 s f g e
denied Refuses N20 s f g x e = same Refuses N20 s f g e
denied Refuses N21 s f g x e = same Refuses N21 s f g e
denied Refuses N22 s f g x e = same Refuses N22 s f g e
denied Refuses N23 s f g x e = same Refuses N23 s f g e
denied Refuses N24 s f g x e = same Refuses N24 s f g e
denied Refuses N25 s f g x e = same Refuses N25 s f g e
denied Refuses N26 s f g x e = same Refuses N26 s f g e

read_refusal : (r : Rule) (s : Status) (f : Facts)
    → decoded (encoded (Denied (record { rule = r; status = s; facts = f })))
    ≡ Denied (record { rule = r; status = s; facts = f })
read_refusal r s facts.None = denied Denied r s facts.None facts.None Done refl
read_refusal r s (facts.Policy a b p) = denied Denied r s (facts.Policy a b p) (facts.Policy a b p) Done refl
read_refusal r s (facts.Field f) =
    denied Denied r s (facts.Field (field_named (field_number f))) (facts.Field f) Done (λ i. facts.Field (named_field f i))
read_refusal r s (facts.Header d w) = denied Denied r s (facts.Header d w) (facts.Header d w) Done refl
read_refusal r s (facts.Entry d g w) = denied Denied r s (facts.Entry d g w) (facts.Entry d g w) Done refl

abbrev one_of : ℕ → Denial → AttachedOutcome
one_of n d = outcomes.RefusedAt (record { index = n; denial = d })

read_one : (n : ℕ) (r : Rule) (s : Status) (f : Facts)
    → decoded (encoded (outcomes.RefusedAt (record { index = n; denial = record { rule = r; status = s; facts = f } })))
    ≡ outcomes.RefusedAt (record { index = n; denial = record { rule = r; status = s; facts = f } })
read_one n r s facts.None = denied (one_of n) r s facts.None facts.None Done refl
read_one n r s (facts.Policy a b p) = denied (one_of n) r s (facts.Policy a b p) (facts.Policy a b p) Done refl
read_one n r s (facts.Field f) =
    denied (one_of n) r s (facts.Field (field_named (field_number f))) (facts.Field f) Done (λ i. facts.Field (named_field f i))
read_one n r s (facts.Header d w) = denied (one_of n) r s (facts.Header d w) (facts.Header d w) Done refl
read_one n r s (facts.Entry d g w) = denied (one_of n) r s (facts.Entry d g w) (facts.Entry d g w) Done refl

read_mapping : (name : MappingName) (owner : DomId) (gref : GrantRef) (frame : ℕ) (dir : Dir)
    → decoded (encoded (Mapped (record { name = name; owner = owner; gref = gref; frame = frame; dir = dir })))
    ≡ Mapped (record { name = name; owner = owner; gref = gref; frame = frame; dir = dir })
read_mapping name owner gref frame Read = refl
read_mapping name owner gref frame Write = refl

pub read_back : AnswersAreReadBack
read_back Done = refl
read_back (Mapped made) = read_mapping made.name made.owner made.gref made.frame made.dir
read_back (Frames frames) = refl
read_back (Version version) = refl
read_back (Size size) = refl
read_back (Denied d) = read_refusal d.rule d.status d.facts
read_back NoDomain = refl
read_back Busy = refl
read_back NoMemory = refl
read_back NoCopy = refl
read_back Absent = refl
read_back (Left remains) = refl
read_back (outcomes.Taken taken) = refl
read_back (outcomes.Followed follows.Same) = refl
read_back (outcomes.Followed follows.Demoted) = refl
read_back (outcomes.Followed follows.Promoted) = refl
read_back (outcomes.Followed follows.Withdrawn) = refl
read_back (outcomes.Followed follows.Granted) = refl
read_back (outcomes.Released left) = refl
read_back (outcomes.Ended left) = refl
read_back (outcomes.Reference gref) = refl
read_back (outcomes.MappedAll count) = refl
read_back (outcomes.RefusedAt refused) = read_one refused.index refused.denial.rule refused.denial.status refused.denial.facts
