-- From what was read and written to what is listed.
use Rattle.std.proofs.Common.{◌≡◌, ◌⊎◌, ℕ, ◌<◌, ◌≤◌, List, length, length-take, take, Option, Some, Result, Ok, Err}
use Rattle.std.proofs.Common.{OnOk, OnErr, IfErr, refl, sym, ap, subst, ◌∙◌, inl, inr, arith, Bool}
use Rattle.std.specs.Io.KnownBytes.{Appends}
use Rattle.std.specs.Str.{IsUtf8}
use Rattle.gt_text.specs.Laws.{take_whole}
use Rattle.gt_types.specs.declared.TypeId.{TypeId}
use Rattle.gt_types.specs.declared.perms.Perms.{Perms}
use Rattle.gt_policy.specs.Allowing.{Meaning, Allowed}
use Rattle.gt_policy.specs.Kept.{KeptPolicy, PolicyShows, may_of}
use Rattle.gt_policy.specs.Grammar.{at}
use Rattle.gt_policy.specs.Listing.{AreByName}
use Rattle.gt_policy.specs.Shown.{fault_shown}
use Rattle.gt_policy.specs.Whole.{ReadsAs, too_long}
use Rattle.gt_policy.specs.declared.fault.TokenFault as policy
use Rattle.gt_policy.specs.declared.fault.TokenFaultKind.TheVariants.{Limit}
use Rattle.gt_policy.specs.declared.parse.PolicyFaultKind.{PolicyFaultKind}
use Rattle.gt_policy.specs.declared.parse.PolicyFaultKind.TheVariants as policy_fault_kinds
use Rattle.gt_text.specs.declared.fault.ReadFault.{ReadFault}
use Rattle.gt_text.specs.declared.fault.ReadFault.TheVariants as read_faults
use Rattle.gt_policy_list.specs.declared.fault.ListingFault.{ListingFault}
use Rattle.gt_policy_list.specs.declared.fault.ListingFault.TheVariants as listing_faults
use Rattle.gt_policy_list.specs.Faults.{listing_fault_of, listing_read_fault}
use Rattle.gt_policy_list.specs.Reading.{IsNoText}
use Rattle.gt_text.specs.Laws.{keeps_same, of_any_input}
use Rattle.gt_text.specs.Streams.{AppendsBeginning, OfInput}
use Rattle.gt_policy_list.specs.Writing.{IsListing, Listed, Parsed, WritesRules, text_with}
use Rattle.gt_policy_list.specs.Listing.{listing}

-- the lines went out, or a prefix of them
pub writes : (p : KeptPolicy) (may : ℕ → ℕ → Perms → Bool) (ids : List TypeId) (old new : Option (List ℕ)) (r : Result (Unit {0}) ListingFault) → may ≡ may_of p → AreByName p.types ids → OnOk r (Appends old new (listing p.types may ids))
    → OnErr r (AppendsBeginning old new (listing p.types may ids)) → IfErr r (λ e. (e ≡ listing_faults.Memory) ⊎ (e ≡ listing_faults.Write)) → WritesRules p old new r
writes p may ids old new (Ok done) same named whole begun few = (ids, named, subst (λ (f : ℕ → ℕ → Perms → Bool). Appends old new (listing p.types f ids)) same whole)
writes p may ids old new (Err listing_faults.Write) same named whole begun few = (ids, named, subst (λ (f : ℕ → ℕ → Perms → Bool). AppendsBeginning old new (listing p.types f ids)) same begun)
writes p may ids old new (Err listing_faults.Memory) same named whole begun few = inr (ids, named, subst (λ (f : ℕ → ℕ → Perms → Bool). AppendsBeginning old new (listing p.types f ids)) same begun)
writes p may ids old new (Err listing_faults.Read) same named whole begun few = elim few [ inl e ↦ cc | inr e ↦ cc ]
writes p may ids old new (Err (listing_faults.Utf8 line)) same named whole begun few = elim few [ inl e ↦ cc | inr e ↦ cc ]
writes p may ids old new (Err (listing_faults.Policy shown)) same named whole begun few = elim few [ inl e ↦ cc | inr e ↦ cc ]

-- an allocation failed before a line
pub writes_nothing : (p : KeptPolicy) (old : Option (List ℕ)) (fault : ListingFault) → fault ≡ listing_faults.Memory → WritesRules p old old (Err fault)
writes_nothing p old fault is = subst (λ (f : ListingFault). WritesRules p old old (Err f)) (sym is) (inl (keeps_same old))

-- the text of what is kept is that of the meaning
is_listing : (p : KeptPolicy) (m : Meaning) (ids : List TypeId) → PolicyShows p m → AreByName p.types ids → IsListing m (text_with p ids)
is_listing p m ids shows named =
    (ids, subst (λ (l : List (List ℕ)). AreByName l ids) (ap (λ (a : Allowed). a.types) shows) named, ap (λ (a : Allowed). listing a.types a.may ids) shows)

pub parsed : (p : KeptPolicy) (m : Meaning) (text : List ℕ) (old new : Option (List ℕ)) (r : Result (Unit {0}) ListingFault) → ReadsAs text (Ok m) → PolicyShows p m → WritesRules p old new r → Parsed text old new r
parsed p m text old new (Ok done) says shows w = (m, says, (text_with p w.0, is_listing p m w.0 shows w.1, w.2))
parsed p m text old new (Err listing_faults.Write) says shows w = (m, says, (text_with p w.0, is_listing p m w.0 shows w.1, w.2))
parsed p m text old new (Err listing_faults.Memory) says shows (inl kept) = inl kept
parsed p m text old new (Err listing_faults.Memory) says shows (inr w) = inr (m, says, (text_with p w.0, is_listing p m w.0 shows w.1, w.2))
parsed p m text old new (Err listing_faults.Read) says shows w = absurd w
parsed p m text old new (Err (listing_faults.Utf8 line)) says shows w = absurd w
parsed p m text old new (Err (listing_faults.Policy shown)) says shows w = absurd w

-- the text is not a policy
refused : (line : ℕ) (kind : PolicyFaultKind) (text : List ℕ) (old : Option (List ℕ)) → ((f : policy.TokenFault) → fault_shown (record { line = line; kind = kind }) ≡ Some f → ReadsAs text (Err f)) → Parsed text old old (Err (listing_fault_of line kind))
refused line policy_fault_kinds.Memory text old says = inl (keeps_same old)
refused line policy_fault_kinds.Syntax text old says = (_, refl, says _ refl, keeps_same old)
refused line (policy_fault_kinds.Unknown name) text old says = (_, refl, says _ refl, keeps_same old)
refused line (policy_fault_kinds.Twice name) text old says = (_, refl, says _ refl, keeps_same old)
refused line (policy_fault_kinds.Permission name) text old says = (_, refl, says _ refl, keeps_same old)
refused line (policy_fault_kinds.Outside word) text old says = (_, refl, says _ refl, keeps_same old)
refused line policy_fault_kinds.Limit text old says = (_, refl, says _ refl, keeps_same old)

pub parsed_no : (line : ℕ) (kind : PolicyFaultKind) (fault : ListingFault) (text : List ℕ) (old : Option (List ℕ)) → fault ≡ listing_fault_of line kind
    → ((f : policy.TokenFault) → fault_shown (record { line = line; kind = kind }) ≡ Some f → ReadsAs text (Err f)) → Parsed text old old (Err fault)
parsed_no line kind fault text old is says = subst (λ (f : ListingFault). Parsed text old old (Err f)) (sym is) (refused line kind text old says)

take_shorter : (n : ℕ) (xs : List ℕ) → length (take n xs) ≤ length xs
take_shorter n xs = rw length-take (omega arith)

-- the same of all that there is to read
from_text : (bytes : List ℕ) (old new : Option (List ℕ)) (r : Result (Unit {0}) ListingFault) → IsUtf8 bytes → Parsed bytes old new r → Listed bytes old new r
from_text bytes old new (Ok done) utf8 p = (p.0, (utf8, p.1), p.2)
from_text bytes old new (Err listing_faults.Write) utf8 p = (p.0, (utf8, p.1), p.2)
from_text bytes old new (Err listing_faults.Memory) utf8 (inl kept) = inl kept
from_text bytes old new (Err listing_faults.Memory) utf8 (inr p) = inr (p.0, (utf8, p.1), p.2)
from_text bytes old new (Err listing_faults.Read) utf8 p = absurd p
from_text bytes old new (Err (listing_faults.Utf8 line)) utf8 p = absurd p
from_text bytes old new (Err (listing_faults.Policy shown)) utf8 p = (p.0, p.1, (inr utf8, p.2), p.3)

pub listed_text : (all bytes text : List ℕ) (old new : Option (List ℕ)) (r : Result (Unit {0}) ListingFault) → bytes ≡ take 1048577 all → text ≡ bytes → length bytes ≤ 1048576 → IsUtf8 bytes → Parsed text old new r → Listed all old new r
listed_text all bytes text old new r read same short utf8 p =
    let few : length (take 1048577 all) ≤ 1048576 = subst (λ (l : List ℕ). length l ≤ 1048576) read short in
    let whole : bytes ≡ all = read ∙ take_whole 1048576 all few in
    subst (λ (l : List ℕ). Listed l old new r) whole (from_text bytes old new r utf8 (subst (λ (l : List ℕ). Parsed l old new r) same p))

pub listed_no : (all bytes : List ℕ) (fault : ListingFault) (old : Option (List ℕ)) → bytes ≡ take 1048577 all → IsNoText bytes fault → Listed all old old (Err fault)
listed_no all bytes (listing_faults.Utf8 line) old read h =
    let few : length (take 1048577 all) ≤ 1048576 = subst (λ (l : List ℕ). length l ≤ 1048576) read h.0 in
    let whole : bytes ≡ all = read ∙ take_whole 1048576 all few in
    subst (λ (l : List ℕ). Listed l old old (Err (listing_faults.Utf8 line))) whole (h, keeps_same old)
listed_no all bytes (listing_faults.Policy shown) old read h =
    let many : 1048576 < length (take 1048577 all) = subst (λ (l : List ℕ). 1048576 < length l) read h.0 in
    let long : 1048576 < length all = omega (arith, many, take_shorter 1048577 all) in
    (at 1 Limit, h.1, (inl long, too_long all long), keeps_same old)
listed_no all bytes listing_faults.Memory old read h = absurd h
listed_no all bytes listing_faults.Read old read h = absurd h
listed_no all bytes listing_faults.Write old read h = absurd h

-- nothing could be read
unread : (all : List ℕ) (old : Option (List ℕ)) (error : ReadFault) → Listed all old old (Err (listing_read_fault error))
unread all old read_faults.Memory = inl (keeps_same old)
unread all old read_faults.Read = keeps_same old

pub listed_unread : (known old : Option (List ℕ)) (error : ReadFault) (fault : ListingFault) → fault ≡ listing_read_fault error → OfInput known (λ input. Listed input old old (Err fault))
listed_unread known old error fault is =
    of_any_input known (λ (input : List ℕ). Listed input old old (Err fault)) (λ (input : List ℕ). subst (λ (f : ListingFault). Listed input old old (Err f)) (sym is) (unread input old error))
