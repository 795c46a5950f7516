-- How one of a domain's entries follows the bytes that its guest keeps for it in its own memory.
use Rattle.std.specs.Prelude.{◌≡◌, ◌≢◌, ◌⊎◌, ◌<◌, ◌≤◌, ◌%◌, ℕ, true, false, All, List, [], ◌∷◌, length, Some, Result}
use Rattle.std.specs.Prelude.{Ok, Err, OnOk, OnErr}
use Rattle.gt_types.specs.declared.denial.Field.{Field}
use Rattle.gt_types.specs.declared.denial.Field.TheVariants.{Kind}
use Rattle.gt_types.specs.declared.denial.Rule.TheVariants.{N9, N25}
use Rattle.gt_types.specs.declared.denial.Facts.TheVariants as facts
use Rattle.gt_model.specs.Bytes.{Spells, first_refused, flags_of}
use Rattle.gt_model.specs.Entries.{changed_entry, IsEntry, is_invalid, is_read_only, with_ro}
use Rattle.gt_model.specs.declared.entry.Entry.{Entry}
use Rattle.gt_model.specs.Rules.{size_of}
use Rattle.gt_model.specs.declared.request.Request.TheVariants as requests
use Rattle.gt_live.specs.Prelude.{Denial, Domain, EntryChange, GrantRef, Invalid, Monitor, Request, denial_of, Demote}
use Rattle.gt_live.specs.Prelude.{Promote, Publish, Revoke, Withdraw, entry_in, own_table}
use Rattle.gt_live.specs.Domains.{AllowRelation, AnswersQuietly, StaysIn, verdict_of}
use Rattle.gt_live.specs.Unmarked.{unmarked, with_marks}
use Rattle.gt_live.specs.declared.domain.following.Followed.{Followed}
use Rattle.gt_live.specs.declared.domain.following.Followed.TheVariants.{Same, Demoted, Promoted, Withdrawn, Granted}
use Rattle.gt_live.specs.declared.domain.following.Meaning.{Meaning}
use Rattle.gt_live.specs.declared.domain.following.Meaning.TheVariants.{Ended, Grants, NoEntry}
use Rattle.gt_live.specs.declared.domain.following.Due.{Due}
use Rattle.gt_live.specs.declared.domain.following.Due.TheVariants.{Nothing, Change, Replace, Close, Refuse}

-- what a guest's bytes of an entry mean in a table of this version, whether or not the hypervisor has marked them as in
-- use: of type 0, that access has ended; an entry; or no entry, with the first field that is refused (grant_table.h)
abbrev pub Means : ℕ → List ℕ → Meaning → Type 0
Means version bytes Ended = (first_refused version (unmarked bytes) ≡ Some Kind) × (flags_of bytes % 4 ≡ 0)
Means version bytes (Grants entry) = Spells version (unmarked bytes) entry
Means version bytes (NoEntry field) =
    (first_refused version (unmarked bytes) ≡ Some field) × (field ≡ Kind → flags_of bytes % 4 ≢ 0)

-- what has to be done so that an entry becomes what the bytes mean
abbrev pub IsDue : Entry → Meaning → Due → Type 0
IsDue old Ended Nothing = is_invalid old ≡ true
IsDue old Ended (Change Withdraw) = is_invalid old ≡ false
IsDue old (Grants entry) Nothing = old ≡ entry
IsDue old (Grants entry) (Change Demote) =
    (old ≢ entry) × (with_ro true old ≡ entry) × (is_read_only entry ≡ true)
IsDue old (Grants entry) (Change Promote) =
    (old ≢ entry) × (with_ro false old ≡ entry) × (is_read_only entry ≡ false)
IsDue old (Grants entry) (Change (Publish new)) = (is_invalid old ≡ true) × (new ≡ entry)
IsDue old (Grants entry) (Replace new) =
    (is_invalid old ≡ false) × (with_ro (is_read_only entry) old ≢ entry) × (new ≡ entry)
IsDue old (NoEntry field) (Refuse refused) = (is_invalid old ≡ true) × (refused ≡ field)
IsDue old (NoEntry field) (Close refused) = (is_invalid old ≡ false) × (refused ≡ field)
IsDue old meaning due = ⊥

-- the entry that a domain has under this reference, Invalid if it has none
abbrev pub own_entry_at : Domain → GrantRef → Entry
own_entry_at d gref = entry_in d.own.items gref.0

-- the request of the call that makes this change
abbrev pub request_of_change : GrantRef → EntryChange → Request
request_of_change gref (Publish entry) = requests.Grant gref entry
request_of_change gref Revoke = requests.Revoke gref
request_of_change gref Withdraw = requests.Withdraw gref
request_of_change gref Demote = requests.Demote gref
request_of_change gref Promote = requests.Promote gref

-- what this change does
abbrev pub followed_by : EntryChange → Followed
followed_by (Publish entry) = Granted
followed_by Revoke = Withdrawn
followed_by Withdraw = Withdrawn
followed_by Demote = Demoted
followed_by Promote = Promoted

-- the domain's call of this change had this result, and changed the entry if it is Ok, and only then
pub record Calls {P : Type 0} (may : P → AllowRelation) (m : Monitor P) (d : Domain) (gref : GrantRef)
    (change : EntryChange) (done : Result (Unit {0}) Denial) (e : Domain) : Type 0 where
  pub answers : AnswersQuietly may m d (request_of_change gref change) (verdict_of done) e
  pub changed : OnOk done (own_entry_at e gref ≡ changed_entry change (own_entry_at d gref))
  pub same : OnErr done (own_entry_at e gref ≡ own_entry_at d gref)

-- what was done, or the refusal
abbrev pub result_of : Followed → Result (Unit {0}) Denial → Result Followed Denial
result_of followed (Ok done) = Ok followed
result_of followed (Err denial) = Err denial

-- the change was called, and its result is returned
pub record MakesChange {P : Type 0} (may : P → AllowRelation) (m : Monitor P) (d : Domain) (gref : GrantRef)
    (change : EntryChange) (result : Result Followed Denial) (e : Domain) : Type 0 where
  pub done : Result (Unit {0}) Denial
  pub calls : Calls may m d gref change done e
  pub result_is : result ≡ result_of (followed_by change) done

-- the entry was withdrawn, and then this was done; or the withdrawal was refused, and its refusal is returned
abbrev pub Withdraws : {P : Type 0} → (P → AllowRelation) → Monitor P → Domain → GrantRef → (Domain → Type 0)
    → Result Followed Denial → Domain → Type 0
Withdraws may m d gref Then result e =
    ((mid : Domain) × Calls may m d gref Withdraw (Ok tt) mid × StaysIn may m d mid × Then mid)
    ⊎ ((denial : Denial) × Calls may m d gref Withdraw (Err denial) e × (result ≡ Err denial))

-- bytes that encode no entry are refused, and nothing else is done
abbrev pub RefusesField : Field → Domain → Result Followed Denial → Domain → Type 0
RefusesField field d result e = (result ≡ Err (denial_of N25 (facts.Field field))) × (e ≡ d)

-- what was due was done, by these calls and no others
abbrev pub Does : {P : Type 0} → (P → AllowRelation) → Monitor P → Domain → GrantRef → Due → Result Followed Denial
    → Domain → Type 0
Does may m d gref Nothing result e = (result ≡ Ok Same) × (e ≡ d)
Does may m d gref (Change change) result e = MakesChange may m d gref change result e
Does may m d gref (Replace entry) result e =
    Withdraws may m d gref (λ mid. MakesChange may m mid gref (Publish entry) result e) result e
Does may m d gref (Close field) result e =
    Withdraws may m d gref (λ mid. RefusesField field mid result e) result e
Does may m d gref (Refuse field) result e = RefusesField field d result e

-- the entry is what the bytes mean
abbrev pub IsAsMeant : Meaning → Entry → Type 0
IsAsMeant Ended new = new ≡ Invalid
IsAsMeant (Grants entry) new = new ≡ entry
IsAsMeant (NoEntry field) new = ⊥

-- what an entry is afterwards: Ok, what the bytes mean; refused, what it was, or Invalid
abbrev pub LeavesEntry : Meaning → Entry → Entry → Result Followed Denial → Type 0
LeavesEntry meaning old new (Ok followed) = IsAsMeant meaning new
LeavesEntry meaning old new (Err denial) = (new ≡ old) ⊎ (new ≡ Invalid)

-- an entry of the table followed these bytes: what was due was done
pub record FollowsBytes {P : Type 0} (may : P → AllowRelation) (m : Monitor P) (d : Domain) (gref : GrantRef)
    (bytes : List ℕ) (result : Result Followed Denial) (e : Domain) : Type 0 where
  pub meaning : Meaning
  pub means : Means (own_table d.seat.view).version bytes meaning
  pub due : Due
  pub is_due : IsDue (own_entry_at d gref) meaning due
  pub does : Does may m d gref due result e
  pub leaves : LeavesEntry meaning (own_entry_at d gref) (own_entry_at e gref) result

-- the same for any reference: one that the table does not have is refused with N9, and nothing is done
abbrev pub Follows : {P : Type 0} → (P → AllowRelation) → Monitor P → Domain → GrantRef → List ℕ
    → Result Followed Denial → Domain → Type 0
Follows may m d gref bytes result e =
    ((size_of (own_table d.seat.view) ≤ gref.0) × (result ≡ Err (denial_of N9 facts.None)) × (e ≡ d))
    ⊎ ((gref.0 < size_of (own_table d.seat.view)) × FollowsBytes may m d gref bytes result e)

-- the numbers of the entry that a change grants are in the ranges of their types
abbrev pub FitsChange : EntryChange → Type 0
FitsChange (Publish entry) = IsEntry entry
FitsChange change = Unit {0}

-- the domain's calls of these changes of the entry were made, one after another, from d to e
abbrev pub MakesCalls : {P : Type 0} → (P → AllowRelation) → Monitor P → Domain → GrantRef → List EntryChange → Domain
    → Type 0
MakesCalls may m d gref [] e = e ≡ d
MakesCalls may m d gref (change ∷ changes) e =
    (mid : Domain) × (done : Result (Unit {0}) Denial) × Calls may m d gref change done mid × StaysIn may m d mid
    × MakesCalls may m mid gref changes e

-- what `follow` does is at most two of the domain's other calls
abbrev pub FollowingMakesCalls : {P : Type 0} → (P → AllowRelation) → Monitor P → Type 0
FollowingMakesCalls may m =
    (d e : Domain) (gref : GrantRef) (bytes : List ℕ) (result : Result Followed Denial)
    → StaysIn may m d e → Follows may m d gref bytes result e
    → (changes : List EntryChange) × (length changes ≤ 2) × All FitsChange changes × MakesCalls may m d gref changes e

-- an entry's bytes mean the same when the hypervisor has marked them as in use
abbrev pub MarksChangeNoMeaning : Type 0
MarksChangeNoMeaning =
    (version marks : ℕ) (bytes : List ℕ) (entry : Entry) → marks < 4 → Spells version bytes entry
    → Means version (with_marks marks bytes) (Grants entry)
