-- A domain whose entries follow the bytes of its guest.
use Rattle.std.proofs.Common.{◌≡◌, ℕ, zero, suc, ◌+◌, ◌^◌, ◌<◌, ◌≤◌, ◌∙◌, Bool, true, false, refl, sym, ap, subst}
use Rattle.std.proofs.Common.{List, [], ◌∷◌, Option, Some, drop, inl, inr, length, arith}
use Rattle.std.specs.Prelude.{◌==◌, All, MatchBool, Result, Ok, Err, OnOk, slice_index}
use Rattle.std.proofs.lemmas.List.{length-drop}
use Rattle.std.proofs.lemmas.List.Elements.{All-nil, All-cons, All-drop, All-get_or}
use Rattle.std.proofs.lemmas.Option.{same_Some}
use Rattle.gt_types.specs.declared.DomId.{DomId}
use Rattle.gt_types.specs.declared.GrantRef.{GrantRef}
use Rattle.gt_types.specs.declared.denial.Denial.{Denial}
use Rattle.gt_types.specs.declared.denial.Rule.{Rule}
use Rattle.gt_types.specs.declared.denial.Rule.TheVariants.{N9, N10, N20, N21, N22}
use Rattle.byteorder.specs.Endian.{little_from}
use Rattle.gt_model.specs.Bytes.{Spells, SpellsV1, SpellsV2, field}
use Rattle.gt_model.specs.Entries.{changed_entry, IsEntry, is_invalid}
use Rattle.gt_model.specs.declared.change.EntryChange.{EntryChange}
use Rattle.gt_model.specs.declared.change.EntryChange.TheVariants.{Publish, Revoke, Withdraw, Demote, Promote}
use Rattle.gt_model.specs.declared.entry.Entry.{Entry}
use Rattle.gt_model.specs.declared.entry.Entry.TheVariants.{Invalid, Page, Sub, Via}
use Rattle.gt_model.specs.Path.{path, path_of}
use Rattle.gt_model.specs.Rules.{CallerKnowledge, begun, first, granted_when, is_already, refused_when}
use Rattle.gt_calls.specs.Known.{entry_in, row_entry}
use Rattle.gt_model.specs.declared.action.CallResult.{CallResult}
use Rattle.gt_model.specs.declared.action.CallResult.TheVariants.{Refused}
use Rattle.gt_calls.specs.declared.known.OwnerEntry.{OwnerEntry}
use Rattle.gt_words.specs.Conditions.{IsSameSeat, SeatOf}
use Rattle.gt_word_history.specs.Views.{own_table}
use Rattle.gt_live.specs.Domains.{AllowRelation, StaysIn, done_by}
use Rattle.gt_live.specs.Following.{Calls, Does, FitsChange, FollowingMakesCalls, IsAsMeant, IsDue, LeavesEntry}
use Rattle.gt_live.specs.Following.{MakesCalls, MakesChange, Means, own_entry_at, followed_by, request_of_change}
use Rattle.gt_live.specs.Following.{result_of}
use Rattle.gt_live.specs.Owning.{asks_change}
use Rattle.gt_live.specs.Rows.{row_changed}
use Rattle.gt_live.specs.Unmarked.{unmarked}
use Rattle.gt_live.specs.declared.domain.Domain.{Domain}
use Rattle.gt_live.specs.declared.domain.following.Due.{Due}
use Rattle.gt_live.specs.declared.domain.following.Due.TheVariants.{Nothing, Change, Replace, Close, Refuse}
use Rattle.gt_live.specs.declared.domain.following.Followed.{Followed}
use Rattle.gt_live.specs.declared.domain.following.Meaning.{Meaning}
use Rattle.gt_live.specs.declared.domain.following.Meaning.TheVariants.{Ended, Grants, NoEntry}
use Rattle.gt_live.specs.declared.monitor.Monitor.{Monitor}
use Rattle.gt_live.proofs.RowsKept.{row-here, row-there}

-- a change that is made already leaves the entry as it is
made-already : (change : EntryChange) (old : Entry) → is_already change old ≡ true → old ≡ changed_entry change old
made-already (Publish entry) old e = cc
made-already Revoke old e = cc
made-already Withdraw old e = cc
made-already Demote Invalid e = cc
made-already Demote (Page dom ro frame) e = ap (λ (b : Bool). Page dom b frame) e
made-already Demote (Sub dom ro frame off len) e = ap (λ (b : Bool). Sub dom b frame off len) e
made-already Demote (Via dom ro dom2 gref) e = ap (λ (b : Bool). Via dom b dom2 gref) e
made-already Promote Invalid e = refl
made-already Promote (Page dom true frame) e = cc
made-already Promote (Page dom false frame) e = refl
made-already Promote (Sub dom true frame off len) e = cc
made-already Promote (Sub dom false frame off len) e = refl
made-already Promote (Via dom true dom2 gref) e = cc
made-already Promote (Via dom false dom2 gref) e = refl

-- a refusal is no Ok
refused-not : (denial : Denial) (v : CallResult) (P : Type 0) → Some (Refused denial) ≡ Some v → OnOk (done_by v) P
refused-not denial v P e = subst (λ (x : CallResult). OnOk (done_by x) P) (same_Some (Refused denial) v e) tt

-- what rules decide at a beginning is a refusal, or Ok for a change that is made already
by-two : (a b : Bool) (m n : Rule) (v : CallResult) (P : Type 0) → first (refused_when a m ∷ refused_when b n ∷ []) ≡ Some v → OnOk (done_by v) P
by-two true b m n v P e = refused-not _ v P e
by-two false true m n v P e = refused-not _ v P e
by-two false false m n v P e = cc

by-four : (a b c d : Bool) (v : CallResult) (P : Type 0) → first (refused_when a N9 ∷ refused_when b N20 ∷ refused_when c N21 ∷ refused_when d N22 ∷ []) ≡ Some v
    → OnOk (done_by v) P
by-four true b c d v P e = refused-not _ v P e
by-four false true c d v P e = refused-not _ v P e
by-four false false true d v P e = refused-not _ v P e
by-four false false false true v P e = refused-not _ v P e
by-four false false false false v P e = cc

by-change : (a b c d : Bool) (v : CallResult) (P : Type 0) → (c ≡ true → P)
    → first (refused_when a N9 ∷ refused_when b N10 ∷ granted_when c ∷ refused_when d N22 ∷ []) ≡ Some v → OnOk (done_by v) P
by-change true b c d v P made e = refused-not _ v P e
by-change false true c d v P made e = refused-not _ v P e
by-change false false true d v P made e = holds (done_by v) P (made refl)
  where
    holds : (r : Result (Unit {0}) Denial) (P : Type 0) → P → OnOk r P
    holds (Ok u) P p = p
    holds (Err denial) P p = tt
by-change false false false true v P made e = refused-not _ v P e
by-change false false false false v P made e = cc

-- a change that is Ok at its beginning leaves the entry changed
pub once-changed : (c : CallerKnowledge) (caller : DomId) (gref : GrantRef) (change : EntryChange) (v : CallResult)
    → begun c caller (asks_change gref change) ≡ Some v → OnOk (done_by v) (c.entry gref.0 ≡ changed_entry change (c.entry gref.0))
once-changed c caller gref (Publish entry) v e = by-four _ _ _ _ v (c.entry gref.0 ≡ entry) e
once-changed c caller gref Revoke v e = by-two _ _ N9 N10 v (c.entry gref.0 ≡ Invalid) e
once-changed c caller gref Withdraw v e = by-two _ _ N9 N10 v (c.entry gref.0 ≡ Invalid) e
once-changed c caller gref Demote v e =
    by-change _ _ _ _ v (c.entry gref.0 ≡ changed_entry Demote (c.entry gref.0)) (made-already Demote (c.entry gref.0)) e
once-changed c caller gref Promote v e =
    by-change _ _ _ _ v (c.entry gref.0 ≡ changed_entry Promote (c.entry gref.0)) (made-already Promote (c.entry gref.0)) e

-- the entry in a row that was changed
pub row-entry : (own new : List OwnerEntry) (r : ℕ) (change : EntryChange) → r < length own → new ≡ row_changed own r change
    → entry_in new r ≡ changed_entry change (entry_in own r)
row-entry own new r change lt e =
    let x = row-there own r lt in
    ap (λ (os : List OwnerEntry). entry_in os r) e ∙ ap (λ (o : Option OwnerEntry). row_entry o) (row-here own r x.0 change x.1)
    ∙ sym (ap (λ (o : Option OwnerEntry). changed_entry change (row_entry o)) x.1)

-- what follows from a fact of Ok
pub on-ok : {X E : Type 0} (r : Result X E) (P Q : Type 0) → (P → Q) → OnOk r P → OnOk r Q
on-ok (Ok x) P Q f p = f p
on-ok (Err e) P Q f p = tt

-- a change is called by the request of its name
pub same-path : (c : CallerKnowledge) (caller : DomId) (gref : GrantRef) (change : EntryChange)
    → path c caller (asks_change gref change) ≡ path_of c caller (request_of_change gref change)
same-path c caller gref (Publish entry) = refl
same-path c caller gref Revoke = refl
same-path c caller gref Withdraw = refl
same-path c caller gref Demote = refl
same-path c caller gref Promote = refl

invalid-is : (x : Entry) → is_invalid x ≡ true → x ≡ Invalid
invalid-is Invalid e = refl
invalid-is (Page dom ro frame) e = cc
invalid-is (Sub dom ro frame off len) e = cc
invalid-is (Via dom ro dom2 gref) e = cc

module _ {P : Type 0} (may : P → AllowRelation) (m : Monitor P) where
  -- a change that was Ok
  pub made-done : (d : Domain) (gref : GrantRef) (change : EntryChange) (result : Result Followed Denial) (e : Domain) (followed : Followed)
      → result ≡ Ok followed → MakesChange may m d gref change result e → Calls may m d gref change (Ok tt) e
  made-done d gref change result e followed is makes = by makes.done makes.calls (sym is ∙ makes.result_is)
    where
      by : (done : Result (Unit {0}) Denial) → Calls may m d gref change done e → Ok followed ≡ result_of (followed_by change) done
          → Calls may m d gref change (Ok tt) e
      by (Ok tt) calls same = calls
      by (Err denial) calls same = cc

  -- a change that makes the entry what the bytes mean
  change-leaves : (d : Domain) (gref : GrantRef) (meaning : Meaning) (change : EntryChange) (result : Result Followed Denial) (e : Domain)
      → IsAsMeant meaning (changed_entry change (own_entry_at d gref)) → MakesChange may m d gref change result e
      → LeavesEntry meaning (own_entry_at d gref) (own_entry_at e gref) result
  change-leaves d gref meaning change result e meant makes =
      subst (λ (r : Result Followed Denial). LeavesEntry meaning (own_entry_at d gref) (own_entry_at e gref) r) (sym makes.result_is)
      (by makes.done makes.calls)
    where
      by : (done : Result (Unit {0}) Denial) → Calls may m d gref change done e
          → LeavesEntry meaning (own_entry_at d gref) (own_entry_at e gref) (result_of (followed_by change) done)
      by (Ok u) calls = subst (λ (x : Entry). IsAsMeant meaning x) (sym calls.changed) meant
      by (Err denial) calls = inl calls.same

  -- the same after the entry was withdrawn
  publish-leaves : (mid : Domain) (gref : GrantRef) (old entry : Entry) (result : Result Followed Denial) (e : Domain)
      → own_entry_at mid gref ≡ Invalid → MakesChange may m mid gref (Publish entry) result e
      → LeavesEntry (Grants entry) old (own_entry_at e gref) result
  publish-leaves mid gref old entry result e none makes =
      subst (λ (r : Result Followed Denial). LeavesEntry (Grants entry) old (own_entry_at e gref) r) (sym makes.result_is)
      (by makes.done makes.calls)
    where
      by : (done : Result (Unit {0}) Denial) → Calls may m mid gref (Publish entry) done e
          → LeavesEntry (Grants entry) old (own_entry_at e gref) (result_of (followed_by (Publish entry)) done)
      by (Ok u) calls = calls.changed
      by (Err denial) calls = inr (calls.same ∙ none)

  -- what was due leaves the entry as the bytes mean; or as it was or Invalid, if it was refused
  pub due-leaves : (d : Domain) (gref : GrantRef) (meaning : Meaning) (due : Due) (result : Result Followed Denial) (e : Domain)
      → IsDue (own_entry_at d gref) meaning due → Does may m d gref due result e
      → LeavesEntry meaning (own_entry_at d gref) (own_entry_at e gref) result
  due-leaves d gref Ended Nothing result e is does =
      subst (λ (r : Result Followed Denial). LeavesEntry Ended (own_entry_at d gref) (own_entry_at e gref) r) (sym does.0)
      (ap (λ (x : Domain). own_entry_at x gref) does.1 ∙ invalid-is (own_entry_at d gref) is)
  due-leaves d gref Ended (Change Withdraw) result e is does = change-leaves d gref Ended Withdraw result e refl does
  due-leaves d gref (Grants entry) Nothing result e is does =
      subst (λ (r : Result Followed Denial). LeavesEntry (Grants entry) (own_entry_at d gref) (own_entry_at e gref) r) (sym does.0)
      (ap (λ (x : Domain). own_entry_at x gref) does.1 ∙ is)
  due-leaves d gref (Grants entry) (Change Demote) result e is does =
      change-leaves d gref (Grants entry) Demote result e is.1 does
  due-leaves d gref (Grants entry) (Change Promote) result e is does =
      change-leaves d gref (Grants entry) Promote result e is.1 does
  due-leaves d gref (Grants entry) (Change (Publish new)) result e is does =
      change-leaves d gref (Grants entry) (Publish new) result e is.1 does
  due-leaves d gref (Grants entry) (Replace new) result e is (inl then) =
      publish-leaves then.0 gref (own_entry_at d gref) entry result e then.1.changed
      (subst (λ (x : Entry). MakesChange may m then.0 gref (Publish x) result e) is.2 then.3)
  due-leaves d gref (Grants entry) (Replace new) result e is (inr refused) =
      subst (λ (r : Result Followed Denial). LeavesEntry (Grants entry) (own_entry_at d gref) (own_entry_at e gref) r) (sym refused.2)
      (inl refused.1.same)
  due-leaves d gref (NoEntry field) (Close other) result e is (inl then) =
      subst (λ (r : Result Followed Denial). LeavesEntry (NoEntry field) (own_entry_at d gref) (own_entry_at e gref) r) (sym then.3.0)
      (inr (ap (λ (x : Domain). own_entry_at x gref) then.3.1 ∙ then.1.changed))
  due-leaves d gref (NoEntry field) (Close other) result e is (inr refused) =
      subst (λ (r : Result Followed Denial). LeavesEntry (NoEntry field) (own_entry_at d gref) (own_entry_at e gref) r) (sym refused.2)
      (inl refused.1.same)
  due-leaves d gref (NoEntry field) (Refuse other) result e is does =
      subst (λ (r : Result Followed Denial). LeavesEntry (NoEntry field) (own_entry_at d gref) (own_entry_at e gref) r) (sym does.0)
      (inl (ap (λ (x : Domain). own_entry_at x gref) does.1))
  due-leaves _ _ _ _ _ _ is does = absurd is

-- a number in bytes is below the power of their count

number-below : (i n : ℕ) (xs : List ℕ) → All (λ byte. byte < 256) xs → i + n ≤ length xs → little_from i n xs < 256 ^ n
number-below i zero xs are fits = omega arith
number-below i (suc n) xs are fits =
    let here : slice_index xs i < 256 = All-get_or (λ byte. byte < 256) xs i 0 (omega (arith, fits)) are in
    let rest = number-below (suc i) n xs are (omega (arith, fits)) in
    omega (arith, here, rest)

field-below : (bytes : List ℕ) (at n : ℕ) → All (λ byte. byte < 256) bytes → at + n ≤ length bytes → field bytes at n < 256 ^ n
field-below bytes at n are fits =
    let size = length-drop at bytes in
    number-below 0 n (drop at bytes) (All-drop (λ byte. byte < 256) at bytes are) (omega (arith, fits, size))

-- the numbers of an entry that bytes encode are in the ranges of their types

spelled-v1 : (bytes : List ℕ) (entry : Entry) → SpellsV1 bytes entry → IsEntry entry
spelled-v1 bytes Invalid s = absurd s.layout
spelled-v1 bytes (Page dom ro frame) s =
    let n = s.size.0 in let are = s.size.1 in let l = s.layout in let dom_is = l.1 in let frame_is = l.2 in
    let a : field bytes 2 2 < 65536 = field-below bytes 2 2 are (omega (arith, n)) in
    let b : field bytes 4 4 < 2 ^ 32 = field-below bytes 4 4 are (omega (arith, n)) in
    (omega (arith, a, dom_is), omega (arith, b, frame_is))
spelled-v1 bytes (Sub dom ro frame off len) s = absurd s.layout
spelled-v1 bytes (Via dom ro dom2 gref) s = absurd s.layout

spelled-v2 : (bytes : List ℕ) (entry : Entry) → SpellsV2 bytes entry → IsEntry entry
spelled-v2 bytes Invalid s = absurd s.layout
spelled-v2 bytes (Page dom ro frame) s =
    let n = s.size.0 in let are = s.size.1 in let l = s.layout in let dom_is = l.1 in let frame_is = l.2 in
    let a : field bytes 2 2 < 65536 = field-below bytes 2 2 are (omega (arith, n)) in
    let b : field bytes 8 8 < 2 ^ 64 = field-below bytes 8 8 are (omega (arith, n)) in
    (omega (arith, a, dom_is), omega (arith, b, frame_is))
spelled-v2 bytes (Sub dom ro frame off len) s =
    let n = s.size.0 in let are = s.size.1 in let l = s.layout in let dom_is = l.1 in let off_is = l.2 in let len_is = l.3 in let frame_is = l.4 in
    let a : field bytes 2 2 < 65536 = field-below bytes 2 2 are (omega (arith, n)) in
    let b : field bytes 8 8 < 2 ^ 64 = field-below bytes 8 8 are (omega (arith, n)) in
    let c : field bytes 4 2 < 65536 = field-below bytes 4 2 are (omega (arith, n)) in
    let d : field bytes 6 2 < 65536 = field-below bytes 6 2 are (omega (arith, n)) in
    (omega (arith, a, dom_is), omega (arith, b, frame_is), omega (arith, c, off_is), omega (arith, d, len_is))
spelled-v2 bytes (Via dom ro dom2 gref) s =
    let n = s.size.0 in let are = s.size.1 in let l = s.layout in let dom_is = l.1 in let dom2_is = l.2 in let gref_is = l.3 in
    let a : field bytes 2 2 < 65536 = field-below bytes 2 2 are (omega (arith, n)) in
    let b : field bytes 4 2 < 65536 = field-below bytes 4 2 are (omega (arith, n)) in
    let c : field bytes 8 4 < 2 ^ 32 = field-below bytes 8 4 are (omega (arith, n)) in
    (omega (arith, a, dom_is), omega (arith, b, dom2_is), omega (arith, c, gref_is))

spelled : (version : ℕ) (bytes : List ℕ) (entry : Entry) → Spells version bytes entry → IsEntry entry
spelled version bytes entry = by (version == 2)
  where
    by : (b : Bool) → MatchBool b (SpellsV2 bytes entry) ((version ≡ 1) × SpellsV1 bytes entry) → IsEntry entry
    by true s = spelled-v2 bytes entry s
    by false s = spelled-v1 bytes entry s.1

-- two seats that are both the same as a third
same-since : (s t u : SeatOf) → IsSameSeat s t → IsSameSeat s u → IsSameSeat t u
same-since s t u a b = record {
  table = b.table ∙ sym a.table;
  dom = b.dom ∙ sym a.dom;
  position = b.position ∙ sym a.position;
  first = b.first ∙ sym a.first;
  headers = b.headers ∙ sym a.headers;
  ids = b.ids ∙ sym a.ids;
}

-- what was due was done by calls

module _ {P : Type 0} (may : P → AllowRelation) (m : Monitor P) where
  abbrev IsByCalls : Domain → GrantRef → Domain → Type 0
  IsByCalls d gref e = (changes : List EntryChange) × (length changes ≤ 2) × All FitsChange changes × MakesCalls may m d gref changes e

  no-call : (d e : Domain) (gref : GrantRef) → e ≡ d → IsByCalls d gref e
  no-call d e gref same = ([], omega arith, All-nil FitsChange, same)

  one-call : (d e : Domain) (gref : GrantRef) (change : EntryChange) (done : Result (Unit {0}) Denial) → FitsChange change
      → Calls may m d gref change done e → StaysIn may m d e → IsByCalls d gref e
  one-call d e gref change done fits calls stays = (change ∷ [], omega arith, All-cons FitsChange change [] fits (All-nil FitsChange), (e, done, calls, stays, refl))

  due-by-calls : (d e : Domain) (gref : GrantRef) (meaning : Meaning) (due : Due) (result : Result Followed Denial)
      → ((entry : Entry) → meaning ≡ Grants entry → IsEntry entry) → StaysIn may m d e → IsDue (own_entry_at d gref) meaning due
      → Does may m d gref due result e → IsByCalls d gref e
  due-by-calls d e gref meaning Nothing result fits stays is does = no-call d e gref does.1
  due-by-calls d e gref Ended (Change Withdraw) result fits stays is does = one-call d e gref Withdraw does.done tt does.calls stays
  due-by-calls d e gref (Grants entry) (Change Demote) result fits stays is does = one-call d e gref Demote does.done tt does.calls stays
  due-by-calls d e gref (Grants entry) (Change Promote) result fits stays is does = one-call d e gref Promote does.done tt does.calls stays
  due-by-calls d e gref (Grants entry) (Change (Publish new)) result fits stays is does =
      one-call d e gref (Publish new) does.done (subst IsEntry (sym is.1) (fits entry refl)) does.calls stays
  due-by-calls d e gref (Grants entry) (Replace new) result fits stays is (inl then) =
      let new_fits : IsEntry new = subst IsEntry (sym is.2) (fits entry refl) in
      let made = then.3 in (
        Withdraw ∷ Publish new ∷ [],
        omega arith,
        All-cons FitsChange Withdraw (Publish new ∷ []) tt (All-cons FitsChange (Publish new) [] new_fits (All-nil FitsChange)),
        (then.0, Ok tt, then.1, then.2, (e, made.done, made.calls, (stays.0, same-since d.seat then.0.seat e.seat then.2.1 stays.1), refl)),
      )
  due-by-calls d e gref (Grants entry) (Replace new) result fits stays is (inr refused) =
      one-call d e gref Withdraw (Err refused.0) tt refused.1 stays
  due-by-calls d e gref (NoEntry field) (Close other) result fits stays is (inl then) =
      let same = then.3.1 in (Withdraw ∷ [], omega arith, All-cons FitsChange Withdraw [] tt (All-nil FitsChange), (then.0, Ok tt, then.1, then.2, same))
  due-by-calls d e gref (NoEntry field) (Close other) result fits stays is (inr refused) =
      one-call d e gref Withdraw (Err refused.0) tt refused.1 stays
  due-by-calls d e gref (NoEntry field) (Refuse other) result fits stays is does = no-call d e gref does.1
  due-by-calls _ _ _ _ _ _ _ _ is _ = absurd is

  meant-fits : (version : ℕ) (bytes : List ℕ) (meaning : Meaning) (entry : Entry) → Means version bytes meaning → meaning ≡ Grants entry → IsEntry entry
  meant-fits version bytes meaning entry means is = spelled version (unmarked bytes) entry (subst (Means version bytes) is means)

  pub by-calls : FollowingMakesCalls may m
  by-calls d e gref bytes result stays (inl refused) = no-call d e gref refused.2
  by-calls d e gref bytes result stays (inr x) =
      let follows = x.1 in
      due-by-calls d e gref follows.meaning follows.due result
      (λ entry. meant-fits (own_table d.seat.view).version bytes follows.meaning entry follows.means) stays follows.is_due follows.does
