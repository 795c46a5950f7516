-- The rules by which a call can be refused are those of its kind.
use Rattle.std.proofs.Common.{◌≡◌, ◌∙◌, ◌+◌, ap, refl, subst, sym, Bool, true, false, not, ◌&&◌, ◌||◌, ◌==◌, ℕ, zero}
use Rattle.std.proofs.Common.{suc}
use Rattle.std.proofs.Common.{List, [], ◌∷◌, ◌++◌, Option, None, Some, length}
use Rattle.std.specs.Prelude.{if◌then◌else◌, is_none, nat_le, nat_lt}
use Rattle.std.proofs.lemmas.Option.{none-some, same_Some}
use Rattle.gt_types.specs.Copies.{is_dest_granted, is_source_granted}
use Rattle.gt_types.specs.Denial.{denial_of}
use Rattle.gt_types.specs.Names.{domain_of, resolved}
use Rattle.gt_types.specs.declared.limits.TheConstants.{FRAME_SIZE, LAST_GENERATION, MAX_MAPPINGS, MAX_PINS}
use Rattle.gt_types.specs.declared.limits.TheConstants.{MAX_TABLE_FRAMES}
use Rattle.gt_types.specs.declared.DomId.{DomId}
use Rattle.gt_types.specs.declared.GrantRef.{GrantRef}
use Rattle.gt_types.specs.declared.TypeId.{TypeId}
use Rattle.gt_types.specs.declared.copies.CopyArgs.{CopyArgs}
use Rattle.gt_types.specs.declared.denial.Denial.{Denial}
use Rattle.gt_types.specs.declared.denial.Facts.TheVariants as facts
use Rattle.gt_types.specs.declared.denial.Field.{Field}
use Rattle.gt_types.specs.declared.denial.Rule.{Rule}
use Rattle.gt_types.specs.declared.denial.Rule.TheVariants.{N1, N2, N3, N4, N5, N6, N7, N8, N9, N10, N11, N12, N13, N14}
use Rattle.gt_types.specs.declared.denial.Rule.TheVariants.{N15, N16, N17, N18, N19, N20, N21, N22, N23, N24, N25}
use Rattle.gt_types.specs.declared.perms.Perms.{Perms}
use Rattle.gt_types.specs.declared.rights.Triple.{Triple}
use Rattle.gt_model.specs.Asking.{asked, begun_of, entry_spelled, field_refused}
use Rattle.gt_model.specs.Bytes.{first_refused}
use Rattle.gt_model.specs.Entries.{is_invalid}
use Rattle.gt_model.specs.declared.bounds.TheConstants.{MORE_TRIES, SERIAL_LIMIT}
use Rattle.gt_model.specs.History.{History, Setting, Underway, known_at, open_call, values}
use Rattle.gt_model.specs.Legal.{AnsweredBy, IsRight, StepsRightIn, refusal_of, verdict_in}
use Rattle.gt_model.specs.FirstRule.{refusal_in}
use Rattle.gt_model.specs.Path.{AfterPin, AfterRefusal, Continuation, after_beginning, after_first, at_first_look}
use Rattle.gt_model.specs.Path.{map_leg}
use Rattle.gt_model.specs.Path.{by_mapping, beyond, copies, ended, entry_refusal, exchanges, exchanges_once, give_back}
use Rattle.gt_model.specs.Path.{grant_path, held_of, last_step, leg, looks, makes}
use Rattle.gt_model.specs.Path.{reaches}
use Rattle.gt_model.specs.Path.{reads_body, refused_holding, rule_of_try, second_leg, steps_of}
use Rattle.gt_model.specs.Path.{tries}
use Rattle.gt_model.specs.Path.{try_pin, turn, turns, unless_refused, is_stopped}
use Rattle.gt_model.specs.Permits.{allows_direction, is_copying}
use Rattle.gt_model.specs.Rules.{CallerKnowledge, begun, denied, first, first_look, given_when, granted_when}
use Rattle.gt_model.specs.Rules.{cannot_stand, copy_denied, ends_framed, ends_named, ends_owned, ends_ranged}
use Rattle.gt_model.specs.Rules.{frame_count_of}
use Rattle.gt_model.specs.Rules.{has_valid, is_already, is_for_reading, is_foreign, is_outside_sub, is_past_frames}
use Rattle.gt_model.specs.Rules.{is_past_owner}
use Rattle.gt_model.specs.Rules.{is_version, map_dir, refused_when, rights_to_copy, rights_to_map, rights_to_query}
use Rattle.gt_model.specs.Rules.{rights_to_unmap}
use Rattle.gt_model.specs.Rules.{rights_to_setup, stands, unmap_denied, via_judged}
use Rattle.gt_model.specs.Spelling.{entry_of, entry_with}
use Rattle.gt_model.specs.Words.{control_of, header_of, is_kind, pins_of, size_of}
use Rattle.gt_model.specs.declared.action.Action.{Action}
use Rattle.gt_model.specs.declared.action.Action.TheVariants as actions
use Rattle.gt_model.specs.declared.action.CallResult.{CallResult}
use Rattle.gt_model.specs.declared.action.CallResult.TheVariants.{Granted, Given, Mapped, Refused}
use Rattle.gt_model.specs.declared.action.CallValue.{CallValue}
use Rattle.gt_model.specs.declared.action.CallValue.TheVariants.{Frames}
use Rattle.gt_model.specs.declared.action.Observation.{Observation}
use Rattle.gt_model.specs.declared.action.Observation.TheVariants.{Nothing, Word, Taken, Missed}
use Rattle.gt_model.specs.declared.action.Step.{Step}
use Rattle.gt_model.specs.declared.change.EntryChange.{EntryChange}
use Rattle.gt_model.specs.declared.change.EntryChange.TheVariants as changes
use Rattle.gt_model.specs.declared.control.Control.{Control}
use Rattle.gt_model.specs.declared.control.EntryKind.{EntryKind}
use Rattle.gt_model.specs.declared.control.EntryKind.TheVariants as kinds
use Rattle.gt_model.specs.declared.entry.Entry.{Entry}
use Rattle.gt_model.specs.declared.entry.Entry.TheVariants.{Invalid, Page, Sub, Via}
use Rattle.gt_model.specs.declared.held.AccessPath.{AccessPath}
use Rattle.gt_model.specs.declared.held.HeldPin.{HeldPin}
use Rattle.gt_model.specs.declared.leg.Leg.{Leg}
use Rattle.gt_model.specs.declared.request.OpenRequest.{OpenRequest}
use Rattle.gt_model.specs.declared.request.Request.{Request}
use Rattle.gt_model.specs.declared.request.Request.TheVariants as requests
use Rattle.gt_model.specs.declared.trace.Answer.{Answer}
use Rattle.gt_model.specs.declared.trace.Answer.TheVariants.{Denied}
use Rattle.gt_model.specs.declared.trace.Item.{Item}
use Rattle.gt_model.specs.declared.trace.ItemEvent.{ItemEvent}
use Rattle.gt_model.specs.declared.trace.ItemEvent.TheVariants.{Began, Stepped}
use Rattle.gt_explore_verdict.specs.Refusing.{IsFormOfCall}
use Rattle.gt_explore_verdict.specs.declared.calls.CallName.{CallName}
use Rattle.gt_explore_verdict.specs.declared.calls.CallName.TheVariants as call_names
use Rattle.gt_explore_verdict.specs.declared.forms.AnswerForm.TheVariants as answer_forms
use Rattle.gt_answer_forms.specs.Refusals.{IsRequestAt, IsRefusedByItsRules, kind_of_request}

clash : false ≡ true → ⊥
clash e = cc

-- the rule is one of those of a call
abbrev In : CallName → Rule → Type 0
In call rule = IsFormOfCall call (answer_forms.Refused rule)

-- a result is Ok, or a refusal by such a rule
abbrev Allows : CallName → CallResult → Type 0
Allows call Granted = Unit {0}
Allows call (Given value) = Unit {0}
Allows call (Mapped p) = Unit {0}
Allows call (Refused d) = In call d.rule

abbrev AllowsIf : CallName → Option CallResult → Type 0
AllowsIf call None = Unit {0}
AllowsIf call (Some r) = Allows call r

-- each end of a path is such a result
abbrev Ends : CallName → Continuation → Type 0
Ends call k = (vs : List Observation) (r : CallResult) → k vs ≡ Some (actions.Done r) → Allows call r

no_step : (step : Step) (r : CallResult) → Some (actions.Step step) ≡ Some (actions.Done r) → ⊥
no_step step r is = cc

-- what holds of a kind of call holds of the same one
so_for : (one other : CallName) (P : CallName → Type 0) → Some one ≡ Some other → P one → P other
so_for one other P same here = subst P (same_Some one other same) here

same_result : (v r : CallResult) → Some (actions.Done v) ≡ Some (actions.Done r) → v ≡ r
same_result v r is = cc

-- ---- the parts of a path

ends_ended : (call : CallName) (v : CallResult) → Allows call v → Ends call (ended v)
ends_ended call v ok [] r is = subst (λ (x : CallResult). Allows call x) (same_result v r is) ok
ends_ended call v ok (x ∷ vs) r is = absurd (none-some (actions.Done r) is)

ends_makes : (call : CallName) (step : Step) (k : Continuation) → Ends call k → Ends call (makes step k)
ends_makes call step k ok [] r is = absurd (no_step step r is)
ends_makes call step k ok (Nothing ∷ vs) r is = ok vs r is
ends_makes call step k ok (v ∷ vs) r is = absurd (none-some (actions.Done r) is)

ends_looks : (call : CallName) (step : Step) (f : ℕ → Continuation) → ((w : ℕ) → Ends call (f w)) → Ends call
    (looks step f)
ends_looks call step f ok [] r is = absurd (no_step step r is)
ends_looks call step f ok (Word w ∷ vs) r is = ok w vs r is
ends_looks call step f ok (v ∷ vs) r is = absurd (none-some (actions.Done r) is)

-- by a test
ends_by : (call : CallName) (b : Bool) (k j : Continuation) → (b ≡ true → Ends call k) → (b ≡ false → Ends call j)
    → Ends call (if b then k else j)
ends_by call true k j going other = going refl
ends_by call false k j going other = other refl

ends_exchanges : (call : CallName) (step : Step) (looked : ℕ) (taken : Continuation) (missed : ℕ → Continuation)
    → Ends call taken → ((w : ℕ) → Ends call (missed w)) → Ends call (exchanges step looked taken missed)
ends_exchanges call step looked taken missed going other [] r is = absurd (no_step step r is)
ends_exchanges call step looked taken missed going other (Taken ∷ vs) r is = going vs r is
ends_exchanges call step looked taken missed going other (Missed w ∷ vs) r is = by (w == looked) is
  where
    by : (b : Bool) → (if b then None else missed w vs) ≡ Some (actions.Done r) → Allows call r
    by true k = absurd (none-some (actions.Done r) k)
    by false k = other w vs r k
ends_exchanges call step looked taken missed going other (v ∷ vs) r is = absurd (none-some (actions.Done r) is)

ends_give_back : (call : CallName) (held : List HeldPin) (v : CallResult) → Allows call v → Ends call (give_back held v)
ends_give_back call [] v ok = ends_ended call v ok
ends_give_back call (p ∷ ps) v ok = ends_makes call _ (give_back ps v) (ends_give_back call ps v ok)

-- ---- the rules at the beginning

-- all of these results are allowed
abbrev AllAllowed : CallName → List (Option CallResult) → Type 0
AllAllowed call [] = Unit {0}
AllAllowed call (o ∷ os) = AllowsIf call o × AllAllowed call os

allows_all : (call : CallName) (os : List (Option CallResult)) → AllAllowed call os → AllowsIf call (first os)
allows_all call [] all = tt
allows_all call (None ∷ os) all = allows_all call os all.1
allows_all call (Some r ∷ os) all = all.0

when : (call : CallName) (b : Bool) (rule : Rule) → In call rule → AllowsIf call (refused_when b rule)
when call true rule one = one
when call false rule one = tt

granted : (call : CallName) (b : Bool) → AllowsIf call (granted_when b)
granted call true = tt
granted call false = tt

given : (call : CallName) (b : Bool) (value : CallValue) → AllowsIf call (given_when b value)
given call true value = tt
given call false value = tt

allows_denied : (call : CallName) (may : TypeId → TypeId → Perms → Bool) (ts : List Triple) → In call N5
    → AllowsIf call (denied may ts)
allows_denied call may [] one = tt
allows_denied call may (t ∷ ts) one = by (may t.source t.target t.perm) (allows_denied call may ts one)
  where
    by : (b : Bool) → AllowsIf call (denied may ts)
        → AllowsIf call (if b then denied may ts else Some (Refused (denial_of N5
        (facts.Policy t.source t.target t.perm))))
    by true rest = rest
    by false rest = one

allows_unmap : (call : CallName) (k : CallerKnowledge) (caller : DomId) (m : Option HeldPin) → In call N5
    → AllowsIf call (unmap_denied k caller m)
allows_unmap call k caller None one = tt
allows_unmap call k caller (Some m) one = allows_denied call k.may (rights_to_unmap k caller m.dom) one

allows_field : (call : CallName) (f : Option Field) → In call N25 → AllowsIf call (field_refused f)
allows_field call None one = tt
allows_field call (Some f) one = one

-- ---- the rules on entries

-- a rule is one of those of a call, if there is one
abbrev RuleIf : CallName → Option Rule → Type 0
RuleIf call None = Unit {0}
RuleIf call (Some rule) = In call rule

abbrev AllRules : CallName → List (Option Rule) → Type 0
AllRules call [] = Unit {0}
AllRules call (o ∷ os) = RuleIf call o × AllRules call os

rule_all : (call : CallName) (os : List (Option Rule)) → AllRules call os → RuleIf call (first os)
rule_all call [] all = tt
rule_all call (None ∷ os) all = rule_all call os all.1
rule_all call (Some rule ∷ os) all = all.0

rule_stands : (call : CallName) (b : Bool) (rule : Rule) → (b ≡ true → In call rule) → RuleIf call (stands b rule)
rule_stands call true rule one = one refl
rule_stands call false rule one = tt

neither_first : (a b : Bool) → not (a || b) ≡ true → a ≡ false
neither_first true b is = absurd (clash is)
neither_first false b is = refl

first_of_both : (a b : Bool) → (a && b) ≡ true → a ≡ true
first_of_both true b is = refl
first_of_both false b is = absurd (clash is)

-- none of these applies
abbrev AllNone : List (Option Rule) → Type 0
AllNone [] = Unit {0}
AllNone (o ∷ os) = (o ≡ None) × AllNone os

none_all : (os : List (Option Rule)) → first os ≡ None → AllNone os
none_all [] is = tt
none_all (None ∷ os) is = (refl, none_all os is)
none_all (Some rule ∷ os) is = absurd (none-some rule (sym is))

not_standing : (b : Bool) (rule : Rule) → stands b rule ≡ None → b ≡ false
not_standing true rule is = absurd (none-some rule (sym is))
not_standing false rule is = refl

-- the rules of a first look, in their order
abbrev look_rules : Leg → Control → List (Option Rule)
look_rules l c =
    stands (is_kind c.kind kinds.Invalid) N10
    ∷ stands (not (c.dom.0 == l.grantee.0)) N11
    ∷ stands (not (is_copying l.purpose || is_kind c.kind kinds.Page)) N12
    ∷ stands (not (allows_direction c.ro l.dir)) N13
    ∷ stands (l.beyond_via && is_kind c.kind kinds.Via) N15 ∷ []

-- the rules of a call are those that a leg can be refused by
record HasLegRules (call : CallName) (l : Leg) : Type 0 where
  n9 : In call N9
  n10 : In call N10
  n11 : In call N11
  n12 : is_copying l.purpose ≡ false → In call N12
  n13 : In call N13
  n14 : is_copying l.purpose ≡ true → In call N14
  n15 : l.beyond_via ≡ true → In call N15
  n16 : In call N16
  n17 : In call N17
  n18 : In call N18

first_look_rule : (call : CallName) (l : Leg) (c : Control) → HasLegRules call l → RuleIf call (first_look l c)
first_look_rule call l c has =
    rule_all call (look_rules l c) (
      rule_stands call (is_kind c.kind kinds.Invalid) N10 (λ is. has.n10),
      (
        rule_stands call (not (c.dom.0 == l.grantee.0)) N11 (λ is. has.n11),
        (
          rule_stands call (not (is_copying l.purpose || is_kind c.kind kinds.Page)) N12
              (λ is. has.n12 (neither_first (is_copying l.purpose) (is_kind c.kind kinds.Page) is)),
          (
            rule_stands call (not (allows_direction c.ro l.dir)) N13 (λ is. has.n13),
            (
              rule_stands call (l.beyond_via && is_kind c.kind kinds.Via) N15
                  (λ is. has.n15 (first_of_both l.beyond_via (is_kind c.kind kinds.Via) is)),
              tt,
            ),
          ),
        ),
      ),
    )

-- an entry of a kind that is no sub-page has refuses part that is outside of it
page_has_no_sub : (l : Leg) (kind : EntryKind) (c : Control) (body second : ℕ) → is_kind kind kinds.Page ≡ true
    → is_outside_sub l (entry_with kind c body second) ≡ true → ⊥
page_has_no_sub l kinds.Page c body second page outside = clash outside
page_has_no_sub l kinds.Invalid c body second page outside = clash page
page_has_no_sub l kinds.Sub c body second page outside = clash page
page_has_no_sub l kinds.Via c body second page outside = clash page

not_not : (a b : Bool) → a ≡ false → not (a || b) ≡ false → b ≡ true
not_not true true e is = refl
not_not true false e is = absurd (clash (sym e))
not_not false true e is = refl
not_not false false e is = absurd (clash (sym is))

-- after a first look that no rule refuses, a part outside of a sub-page is found by a copy only
outside_rule : (call : CallName) (l : Leg) (word body second : ℕ) → HasLegRules call l
    → first_look l (control_of word) ≡ None
    → is_outside_sub l (entry_of (control_of word) body second) ≡ true → In call N14
outside_rule call l word body second has none outside = by (is_copying l.purpose) refl
  where
    page : is_copying l.purpose ≡ false → is_kind (control_of word).kind kinds.Page ≡ true
    page e =
        let all : AllNone (look_rules l (control_of word)) = none_all (look_rules l (control_of word)) none in
        not_not (is_copying l.purpose) (is_kind (control_of word).kind kinds.Page) e
        (not_standing (not (is_copying l.purpose || is_kind (control_of word).kind kinds.Page)) N12 all.1.1.0)

    by : (b : Bool) → is_copying l.purpose ≡ b → In call N14
    by true e = has.n14 e
    by false e = absurd (page_has_no_sub l (control_of word).kind (control_of word) body second (page e) outside)

try_rule : (call : CallName) (l : Leg) (word body second : ℕ) → HasLegRules call l
    → first_look l (control_of word) ≡ None → RuleIf call (rule_of_try l word body second)
try_rule call l word body second has none =
    let entry : Entry = entry_of (control_of word) body second in
    rule_all call (stands (is_outside_sub l entry) N14 ∷ stands (is_past_owner l entry) N16
    ∷ stands (pins_of l.dir (control_of word) == MAX_PINS) N17 ∷ []) (
      rule_stands call (is_outside_sub l entry) N14 (outside_rule call l word body second has none),
      (
        rule_stands call (is_past_owner l entry) N16 (λ is. has.n16),
        (
          rule_stands call (pins_of l.dir (control_of word) == MAX_PINS) N17 (λ is. has.n17),
          tt,
        ),
      ),
    )

-- ---- legs

abbrev RefusedEnds : CallName → AfterRefusal → Type 0
RefusedEnds call refused = (d : Denial) → In call d.rule → Ends call (refused d)

abbrev MissedEnds : CallName → (ℕ → Continuation) → Type 0
MissedEnds call missed = (w : ℕ) → Ends call (missed w)

abbrev PinnedEnds : CallName → AfterPin → Type 0
PinnedEnds call pinned = (p : HeldPin) → Ends call (pinned p)

ends_last : (call : CallName) (l : Leg) (p : HeldPin) (o : Option Rule) (refused : AfterRefusal)
    (missed : ℕ → Continuation) (pinned : AfterPin) → RuleIf call o → RefusedEnds call refused
    → MissedEnds call missed → PinnedEnds call pinned → Ends call (last_step l p o refused missed pinned)
ends_last call l p None refused missed pinned rule refuses again going =
    ends_exchanges call _ p.word (pinned p) missed (going p) again
ends_last call l p (Some rule) refused missed pinned one refuses again going =
    ends_looks call _ _ (λ found. ends_by call (found == p.word) (refused (entry_refusal l.dom l.gref rule p.word))
    (missed found)
    (λ is. refuses (entry_refusal l.dom l.gref rule p.word) one) (λ is. again found))

ends_body : (call : CallName) (l : Leg) (word : ℕ) (refused : AfterRefusal) (missed : ℕ → Continuation)
    (pinned : AfterPin) → HasLegRules call l → first_look l (control_of word) ≡ None → RefusedEnds call refused
    → MissedEnds call missed → PinnedEnds call pinned → Ends call (reads_body l word refused missed pinned)
ends_body call l word refused missed pinned has none refuses again going =
    ends_looks call _ _ (λ body. ends_by call (is_kind (control_of word).kind kinds.Sub) _ _
    (λ is. ends_looks call _ _ (λ second. ends_last call l (held_of l word body second) (rule_of_try l word body second)
    refused missed pinned (try_rule call l word body second has none) refuses again going))
    (λ is. ends_last call l (held_of l word body 0) (rule_of_try l word body 0) refused missed pinned
    (try_rule call l word body 0 has none) refuses again going))

ends_try : (call : CallName) (l : Leg) (refused : AfterRefusal) (missed : ℕ → Continuation) (pinned : AfterPin)
    → HasLegRules call l → RefusedEnds call refused → MissedEnds call missed → PinnedEnds call pinned
    → Ends call (try_pin l refused missed pinned)
ends_try call l refused missed pinned has refuses again going =
    ends_looks call _ _ (λ word. by word (first_look l (control_of word)) refl (first_look_rule call l
    (control_of word) has))
  where
    by : (word : ℕ) (o : Option Rule) → first_look l (control_of word) ≡ o → RuleIf call o
        → Ends call (at_first_look l word o refused (reads_body l word refused missed pinned))
    by word None is rule = ends_body call l word refused missed pinned has is refuses again going
    by word (Some rule) is one = refuses (entry_refusal l.dom l.gref rule word) one

ends_tries : (call : CallName) (l : Leg) (more : ℕ) (refused : AfterRefusal) (pinned : AfterPin) → HasLegRules call l
    → RefusedEnds call refused → PinnedEnds call pinned → Ends call (tries l more refused pinned)
unfolding tries
ends_tries call l zero refused pinned has refuses going =
    ends_try call l refused _ pinned has refuses (λ found. refuses (entry_refusal l.dom l.gref N18 found) has.n18) going
ends_tries call l (suc more) refused pinned has refuses going =
    ends_try call l refused _ pinned has refuses
    (λ found. ends_tries call l more refused pinned has refuses going) going

ends_leg : (call : CallName) (l : Leg) (refused : AfterRefusal) (pinned : AfterPin) → HasLegRules call l
    → RefusedEnds call refused → PinnedEnds call pinned → Ends call (leg l refused pinned)
ends_leg call l refused pinned has refuses going =
    ends_looks call _ _ (λ word. ends_by call (nat_lt l.gref.0 (size_of (header_of word)))
    (tries l MORE_TRIES refused pinned) (refused (denial_of N9 (facts.Header l.dom word)))
    (λ is. ends_tries call l MORE_TRIES refused pinned has refuses going)
    (λ is. refuses (denial_of N9 (facts.Header l.dom word)) has.n9))

ends_holding : (call : CallName) (held : List HeldPin) → RefusedEnds call (refused_holding held)
ends_holding call held d one = ends_give_back call held (Refused d) one

-- ---- the ends of a copy

-- the rules of a call are those of a copy
record HasCopyRules (call : CallName) : Type 0 where
  n1 : In call N1
  n5 : In call N5
  n9 : In call N9
  n10 : In call N10
  n11 : In call N11
  n13 : In call N13
  n14 : In call N14
  n15 : In call N15
  n16 : In call N16
  n17 : In call N17
  n18 : In call N18

copy_leg_rules : (call : CallName) (l : Leg) → HasCopyRules call → is_copying l.purpose ≡ true → HasLegRules call l
copy_leg_rules call l has copying = record {
  n9 = has.n9;
  n10 = has.n10;
  n11 = has.n11;
  n12 = λ is. absurd (clash (sym is ∙ copying));
  n13 = has.n13;
  n14 = λ is. has.n14;
  n15 = λ is. has.n15;
  n16 = has.n16;
  n17 = has.n17;
  n18 = has.n18;
}

ends_unless : (call : CallName) (o : Option CallResult) (held : List HeldPin) (goes_on : Continuation) → AllowsIf call o
    → Ends call goes_on → Ends call (unless_refused o held goes_on)
ends_unless call None held goes_on ok rest = rest
ends_unless call (Some verdict) held goes_on ok rest = ends_give_back call held verdict ok

via_allows : (call : CallName) (k : CallerKnowledge) (pair : DomId × DomId) (dom : DomId) → HasCopyRules call
    → AllowsIf call (via_judged k pair dom)
via_allows call k pair dom has =
    allows_all call (refused_when (is_none (domain_of k.domains dom)) N1 ∷ copy_denied k pair.0 pair.1 ∷ []) (
      when call (is_none (domain_of k.domains dom)) N1 has.n1,
      (
        allows_denied call k.may
            (rights_to_copy k pair.0 pair.1) has.n5,
        tt,
      ),
    )

ends_beyond : (call : CallName) (k : CallerKnowledge) (l : Leg) (pair : DomId → DomId × DomId) (held : List HeldPin)
    (reached : AccessPath → Continuation) (p : HeldPin) (e : Entry) → HasCopyRules call → is_copying l.purpose ≡ true
    → ((access : AccessPath) → Ends call (reached access)) → Ends call (beyond k l pair held reached p e)
ends_beyond call k l pair held reached p (Via dom ro dom2 gref) has copying rest =
    ends_unless call (via_judged k (pair dom2) dom2) (p ∷ held) _ (via_allows call k (pair dom2) dom2 has)
    (ends_leg call (second_leg k l dom2 gref) _ _ (copy_leg_rules call (second_leg k l dom2 gref) has copying)
    (ends_holding call (p ∷ held)) (λ q. rest _))
ends_beyond call k l pair held reached p Invalid has copying rest = rest _
ends_beyond call k l pair held reached p (Page dom ro frame) has copying rest = rest _
ends_beyond call k l pair held reached p (Sub dom ro frame off len) has copying rest = rest _

ends_reaches : (call : CallName) (k : CallerKnowledge) (granted : Bool) (l : Leg) (pair : DomId → DomId × DomId)
    (held : List HeldPin) (reached : AccessPath → Continuation) → HasCopyRules call → is_copying l.purpose ≡ true
    → ((access : AccessPath) → Ends call (reached access)) → Ends call (reaches k granted l pair held reached)
ends_reaches call k false l pair held reached has copying rest = rest _
ends_reaches call k true l pair held reached has copying rest =
    ends_leg call l _ _ (copy_leg_rules call l has copying) (ends_holding call held)
    (λ p. ends_beyond call k l pair held reached p p.entry has copying rest)

ends_copies : (call : CallName) (k : CallerKnowledge) (caller : DomId) (c : CopyArgs) → HasCopyRules call
    → Ends call (copies k caller c)
ends_copies call k caller c has =
    ends_reaches call k (is_source_granted c) _ _ [] _ has refl
    (λ source. ends_reaches call k (is_dest_granted c) _ _ _ _ has refl
    (λ dest. ends_makes call _ _ (ends_give_back call _ Granted tt)))

-- ---- an owner's exchanges

ends_turn : (call : CallName) (change : EntryChange) (caller : DomId) (gref : GrantRef) (missed : ℕ → Continuation)
    → ((c : Control) → is_stopped change c ≡ true → In call N19) → MissedEnds call missed
    → Ends call (turn change caller gref missed)
ends_turn call change caller gref missed stopped again =
    ends_looks call _ _ (λ word. ends_by call (is_stopped change (control_of word)) _ _
    (λ is. ends_ended call _ (stopped (control_of word) is))
    (λ is. ends_exchanges call _ word _ missed (ends_ended call Granted tt) again))

ends_turns : (call : CallName) (change : EntryChange) (caller : DomId) (gref : GrantRef) (more : ℕ)
    → ((c : Control) → is_stopped change c ≡ true → In call N19) → In call N18
    → Ends call (turns change caller gref more)
unfolding turns
ends_turns call change caller gref zero stopped n18 =
    ends_turn call change caller gref _ stopped (λ found. ends_ended call _ n18)
ends_turns call change caller gref (suc more) stopped n18 =
    ends_turn call change caller gref _ stopped (λ found. ends_turns call change caller gref more stopped n18)

ends_once : (call : CallName) (caller : DomId) (gref : GrantRef) (looked : ℕ) (change : EntryChange) → In call N19
    → Ends call (exchanges_once caller gref looked change)
ends_once call caller gref looked change n19 =
    ends_exchanges call _ looked _ _ (ends_ended call Granted tt) (λ found. ends_ended call _ n19)

ends_after_first : (call : CallName) (k : CallerKnowledge) (caller : DomId) (gref : GrantRef) (entry : Entry)
    → In call N19 → Ends call (after_first k caller gref entry)
ends_after_first call k caller gref (Sub dom ro frame off len) n19 = ends_makes call _ _ (ends_once call _ _ _ _ n19)
ends_after_first call k caller gref Invalid n19 = ends_once call _ _ _ _ n19
ends_after_first call k caller gref (Page dom ro frame) n19 = ends_once call _ _ _ _ n19
ends_after_first call k caller gref (Via dom ro dom2 r) n19 = ends_once call _ _ _ _ n19

ends_grant : (call : CallName) (k : CallerKnowledge) (caller : DomId) (gref : GrantRef) (entry : Entry) → In call N19
    → Ends call (grant_path k caller gref entry)
ends_grant call k caller gref entry n19 = ends_makes call _ _ (ends_after_first call k caller gref entry n19)

ends_by_mapping : (call : CallName) (m : Option HeldPin) (step : HeldPin → Step) → In call N6
    → Ends call (by_mapping m step)
ends_by_mapping call None step n6 = ends_ended call _ n6
ends_by_mapping call (Some m) step n6 = ends_makes call _ _ (ends_ended call Granted tt)

-- ---- calls

-- the rule that refuses a call at its beginning
begins : (k : CallerKnowledge) (caller : DomId) (request : Request) (call : CallName) → kind_of_request request
    ≡ Some call
    → AllowsIf call (begun_of k caller request)
begins k caller (requests.Grant gref entry) call is =
    so_for call_names.Grant call (λ (x : CallName). AllowsIf x (begun_of k caller (requests.Grant gref entry))) is
    (allows_all call_names.Grant (
    refused_when (nat_le (size_of k.header) gref.0) N9
    ∷ refused_when (not (is_invalid (k.entry gref.0))) N20
    ∷ refused_when (cannot_stand entry k.header.version) N21
    ∷ refused_when (k.generation gref.0 == LAST_GENERATION) N22 ∷ []) (
      when call_names.Grant (nat_le (size_of k.header) gref.0) N9 (1, refl),
      (
        when call_names.Grant (not (is_invalid (k.entry gref.0))) N20 (3, refl),
        (
          when call_names.Grant (cannot_stand entry k.header.version) N21 (4, refl),
          (
            when call_names.Grant (k.generation gref.0 == LAST_GENERATION) N22 (5, refl),
            tt,
          ),
        ),
      ),
    ))
begins k caller (requests.GrantBytes gref bytes) call is =
    so_for call_names.GrantBytes call (λ (x : CallName). AllowsIf x (begun_of k caller
    (requests.GrantBytes gref bytes))) is
    (allows_all call_names.GrantBytes (
    refused_when (nat_le (size_of k.header) gref.0) N9
    ∷ refused_when (not (is_invalid (k.entry gref.0))) N20
    ∷ refused_when (k.generation gref.0 == LAST_GENERATION) N22
    ∷ field_refused (first_refused k.header.version bytes.now) ∷ []) (
      when call_names.GrantBytes (nat_le (size_of k.header) gref.0) N9 (1, refl),
      (
        when call_names.GrantBytes (not (is_invalid (k.entry gref.0))) N20 (3, refl),
        (
          when call_names.GrantBytes (k.generation gref.0 == LAST_GENERATION) N22 (4, refl),
          (
            allows_field call_names.GrantBytes (first_refused k.header.version bytes.now) (5, refl),
            tt,
          ),
        ),
      ),
    ))
begins k caller (requests.Revoke gref) call is =
    so_for call_names.Revoke call (λ (x : CallName). AllowsIf x (begun_of k caller (requests.Revoke gref))) is
    (allows_all call_names.Revoke (
    refused_when (nat_le (size_of k.header) gref.0) N9
    ∷ refused_when (is_invalid (k.entry gref.0)) N10 ∷ []) (
      when call_names.Revoke (nat_le (size_of k.header) gref.0) N9 (1, refl),
      (
        when call_names.Revoke (is_invalid (k.entry gref.0)) N10 (2, refl),
        tt,
      ),
    ))
begins k caller (requests.Withdraw gref) call is =
    so_for call_names.Withdraw call (λ (x : CallName). AllowsIf x (begun_of k caller (requests.Withdraw gref))) is
    (allows_all call_names.Withdraw (
    refused_when (nat_le (size_of k.header) gref.0) N9
    ∷ refused_when (is_invalid (k.entry gref.0)) N10 ∷ []) (
      when call_names.Withdraw (nat_le (size_of k.header) gref.0) N9 (1, refl),
      (
        when call_names.Withdraw (is_invalid (k.entry gref.0)) N10 (2, refl),
        tt,
      ),
    ))
begins k caller (requests.Demote gref) call is =
    so_for call_names.Demote call (λ (x : CallName). AllowsIf x (begun_of k caller (requests.Demote gref))) is
    (allows_all call_names.Demote (
    refused_when (nat_le (size_of k.header) gref.0) N9
    ∷ refused_when (is_invalid (k.entry gref.0)) N10
    ∷ granted_when (is_already changes.Demote (k.entry gref.0))
    ∷ refused_when (k.generation gref.0 == LAST_GENERATION) N22 ∷ []) (
      when call_names.Demote (nat_le (size_of k.header) gref.0) N9 (1, refl),
      (
        when call_names.Demote (is_invalid (k.entry gref.0)) N10 (2, refl),
        (
          granted call_names.Demote (is_already changes.Demote (k.entry gref.0)),
          (
            when call_names.Demote (k.generation gref.0 == LAST_GENERATION) N22 (5, refl),
            tt,
          ),
        ),
      ),
    ))
begins k caller (requests.Promote gref) call is =
    so_for call_names.Promote call (λ (x : CallName). AllowsIf x (begun_of k caller (requests.Promote gref))) is
    (allows_all call_names.Promote (
    refused_when (nat_le (size_of k.header) gref.0) N9
    ∷ refused_when (is_invalid (k.entry gref.0)) N10
    ∷ granted_when (is_already changes.Promote (k.entry gref.0))
    ∷ refused_when (k.generation gref.0 == LAST_GENERATION) N22 ∷ []) (
      when call_names.Promote (nat_le (size_of k.header) gref.0) N9 (1, refl),
      (
        when call_names.Promote (is_invalid (k.entry gref.0)) N10 (2, refl),
        (
          granted call_names.Promote (is_already changes.Promote (k.entry gref.0)),
          (
            when call_names.Promote (k.generation gref.0 == LAST_GENERATION) N22 (4, refl),
            tt,
          ),
        ),
      ),
    ))
begins k caller (requests.Map dom gref flags) call is =
    so_for call_names.Map call (λ (x : CallName). AllowsIf x (begun_of k caller (requests.Map dom gref flags))) is
    (allows_all call_names.Map (
    refused_when (is_none (domain_of k.domains (resolved caller dom))) N1
    ∷ refused_when (not ((flags == 2) || (flags == 6))) N2
    ∷ denied k.may (rights_to_map k caller (resolved caller dom) (map_dir flags))
    ∷ refused_when (nat_le MAX_MAPPINGS k.in_use || nat_le SERIAL_LIMIT k.maps_answered) N8 ∷ []) (
      when call_names.Map (is_none (domain_of k.domains (resolved caller dom))) N1 (1, refl),
      (
        when call_names.Map (not ((flags == 2) || (flags == 6))) N2 (2, refl),
        (
          allows_denied call_names.Map k.may (rights_to_map k caller (resolved caller dom) (map_dir flags)) (3, refl),
          (
            when call_names.Map (nat_le MAX_MAPPINGS k.in_use || nat_le SERIAL_LIMIT k.maps_answered) N8 (4, refl),
            tt,
          ),
        ),
      ),
    ))
begins k caller (requests.Unmap handle) call is =
    so_for call_names.Unmap call (λ (x : CallName). AllowsIf x (begun_of k caller (requests.Unmap handle))) is
    (allows_all call_names.Unmap (
    refused_when (is_none (k.mapping handle)) N6
    ∷ unmap_denied k caller (k.mapping handle) ∷ []) (
      when call_names.Unmap (is_none (k.mapping handle)) N6 (2, refl),
      (
        allows_unmap call_names.Unmap k caller (k.mapping handle) (1, refl),
        tt,
      ),
    ))
begins k caller (requests.Load handle off len) call is =
    so_for call_names.Load call (λ (x : CallName). AllowsIf x (begun_of k caller (requests.Load handle off len))) is
    (allows_all call_names.Load (
    refused_when (nat_lt FRAME_SIZE (off + len)) N3
    ∷ refused_when (is_none (k.mapping handle)) N6 ∷ []) (
      when call_names.Load (nat_lt FRAME_SIZE (off + len)) N3 (2, refl),
      (
        when call_names.Load (is_none (k.mapping handle)) N6 (3, refl),
        tt,
      ),
    ))
begins k caller (requests.Store handle off bytes) call is =
    so_for call_names.Store call (λ (x : CallName). AllowsIf x (begun_of k caller (requests.Store handle off bytes))) is
    (allows_all call_names.Store (
    refused_when (nat_lt FRAME_SIZE (off + length bytes.now)) N3
    ∷ refused_when (is_none (k.mapping handle)) N6
    ∷ refused_when (is_for_reading (k.mapping handle)) N7 ∷ []) (
      when call_names.Store (nat_lt FRAME_SIZE (off + length bytes.now)) N3 (1, refl),
      (
        when call_names.Store (is_none (k.mapping handle)) N6 (2, refl),
        (
          when call_names.Store (is_for_reading (k.mapping handle)) N7 (3, refl),
          tt,
        ),
      ),
    ))
begins k caller (requests.Peek frame off len) call is =
    so_for call_names.Peek call (λ (x : CallName). AllowsIf x (begun_of k caller (requests.Peek frame off len))) is
    (allows_all call_names.Peek (
    refused_when (nat_lt FRAME_SIZE (off + len)) N3
    ∷ refused_when (nat_le (frame_count_of k.domains caller) frame) N16 ∷ []) (
      when call_names.Peek (nat_lt FRAME_SIZE (off + len)) N3 (2, refl),
      (
        when call_names.Peek (nat_le (frame_count_of k.domains caller) frame) N16 (3, refl),
        tt,
      ),
    ))
begins k caller (requests.Poke frame off bytes) call is =
    so_for call_names.Poke call (λ (x : CallName). AllowsIf x (begun_of k caller (requests.Poke frame off bytes))) is
    (allows_all call_names.Poke (
    refused_when (nat_lt FRAME_SIZE (off + length bytes.now)) N3
    ∷ refused_when (nat_le (frame_count_of k.domains caller) frame) N16 ∷ []) (
      when call_names.Poke (nat_lt FRAME_SIZE (off + length bytes.now)) N3 (1, refl),
      (
        when call_names.Poke (nat_le (frame_count_of k.domains caller) frame) N16 (2, refl),
        tt,
      ),
    ))
begins k caller (requests.Copy c) call is =
    so_for call_names.Copy call (λ (x : CallName). AllowsIf x (begun_of k caller (requests.Copy c))) is
    (allows_all call_names.Copy (
    (ends_named k caller c)
    ∷ (ends_ranged c)
    ∷ (ends_owned caller c)
    ∷ denied k.may (rights_to_copy k (resolved caller c.source.domid) (resolved caller c.dest.domid))
    ∷ (ends_framed k caller c) ∷ []) (
      allows_all call_names.Copy (
          refused_when (is_none (domain_of k.domains (resolved caller c.source.domid))) N1
          ∷ refused_when (is_none (domain_of k.domains (resolved caller c.dest.domid))) N1
          ∷ refused_when (nat_lt 3 c.flags) N2 ∷ []) (
            when call_names.Copy (is_none (domain_of k.domains (resolved caller c.source.domid))) N1 (1, refl),
            (
              when call_names.Copy (is_none (domain_of k.domains (resolved caller c.dest.domid))) N1 (1, refl),
              (
                when call_names.Copy (nat_lt 3 c.flags) N2 (2, refl),
                tt,
              ),
            ),
          ),
      (
        allows_all call_names.Copy (
            refused_when (nat_lt FRAME_SIZE (c.source.offset + c.len)) N3
            ∷ refused_when (nat_lt FRAME_SIZE (c.dest.offset + c.len)) N3 ∷ []) (
              when call_names.Copy (nat_lt FRAME_SIZE (c.source.offset + c.len)) N3 (3, refl),
              (
                when call_names.Copy (nat_lt FRAME_SIZE (c.dest.offset + c.len)) N3 (3, refl),
                tt,
              ),
            ),
        (
          allows_all call_names.Copy (
              refused_when (is_foreign caller (is_source_granted c) c.source) N4
              ∷ refused_when (is_foreign caller (is_dest_granted c) c.dest) N4 ∷ []) (
                when call_names.Copy (is_foreign caller (is_source_granted c) c.source) N4 (4, refl),
                (
                  when call_names.Copy (is_foreign caller (is_dest_granted c) c.dest) N4 (4, refl),
                  tt,
                ),
              ),
          (
            allows_denied call_names.Copy k.may (rights_to_copy k (resolved caller c.source.domid)
                (resolved caller c.dest.domid)) (5, refl),
            (
              allows_all call_names.Copy (
                  refused_when (is_past_frames k caller (is_source_granted c) c.source) N16
                  ∷ refused_when (is_past_frames k caller (is_dest_granted c) c.dest) N16 ∷ []) (
                    when call_names.Copy (is_past_frames k caller (is_source_granted c) c.source) N16 (12, refl),
                    (
                      when call_names.Copy (is_past_frames k caller (is_dest_granted c) c.dest) N16 (12, refl),
                      tt,
                    ),
                  ),
              tt,
            ),
          ),
        ),
      ),
    ))
begins k caller (requests.SetVersion version) call is =
    so_for call_names.SetVersion call (λ (x : CallName). AllowsIf x (begun_of k caller
    (requests.SetVersion version))) is
    (allows_all call_names.SetVersion (
    refused_when (not (is_version version)) N2
    ∷ granted_when (version == k.header.version)
    ∷ refused_when (has_valid k.entry (size_of k.header)) N24 ∷ []) (
      when call_names.SetVersion (not (is_version version)) N2 (1, refl),
      (
        granted call_names.SetVersion (version == k.header.version),
        (
          when call_names.SetVersion (has_valid k.entry (size_of k.header)) N24 (2, refl),
          tt,
        ),
      ),
    ))
begins k caller (requests.SetupTable frames) call is =
    so_for call_names.SetupTable call (λ (x : CallName). AllowsIf x (begun_of k caller (requests.SetupTable frames))) is
    (allows_all call_names.SetupTable (
    denied k.may (rights_to_setup k caller)
    ∷ given_when (nat_le frames k.header.frames) (Frames k.header.frames)
    ∷ refused_when (nat_lt MAX_TABLE_FRAMES frames) N23 ∷ []) (
      allows_denied call_names.SetupTable k.may (rights_to_setup k caller) (1, refl),
      (
        given call_names.SetupTable (nat_le frames k.header.frames) (Frames k.header.frames),
        (
          when call_names.SetupTable (nat_lt MAX_TABLE_FRAMES frames) N23 (2, refl),
          tt,
        ),
      ),
    ))
begins k caller (requests.QuerySize dom) call is =
    so_for call_names.QuerySize call (λ (x : CallName). AllowsIf x (begun_of k caller (requests.QuerySize dom))) is
    (allows_all call_names.QuerySize (
    refused_when (is_none (domain_of k.domains (resolved caller dom))) N1
    ∷ denied k.may (rights_to_query k caller (resolved caller dom)) ∷ []) (
      when call_names.QuerySize (is_none (domain_of k.domains (resolved caller dom))) N1 (1, refl),
      (
        allows_denied call_names.QuerySize k.may (rights_to_query k caller (resolved caller dom)) (2, refl),
        tt,
      ),
    ))
begins k caller (requests.GetVersion dom) call is =
    so_for call_names.GetVersion call (λ (x : CallName). AllowsIf x (begun_of k caller (requests.GetVersion dom))) is
    (allows_all call_names.GetVersion (
    refused_when (is_none (domain_of k.domains (resolved caller dom))) N1
    ∷ denied k.may (rights_to_query k caller (resolved caller dom)) ∷ []) (
      when call_names.GetVersion (is_none (domain_of k.domains (resolved caller dom))) N1 (1, refl),
      (
        allows_denied call_names.GetVersion k.may (rights_to_query k caller (resolved caller dom)) (2, refl),
        tt,
      ),
    ))
begins k caller (requests.Release handle) call is = absurd (none-some call is)
begins k caller (requests.Probe c) call is = absurd (none-some call is)

map_leg_rules : (k : CallerKnowledge) (caller dom : DomId) (gref : GrantRef) (flags : ℕ)
    → HasLegRules call_names.Map (map_leg k caller dom gref flags)
map_leg_rules k caller dom gref flags = record {
  n9 = (5, refl);
  n10 = (6, refl);
  n11 = (7, refl);
  n12 = λ is. (8, refl);
  n13 = (9, refl);
  n14 = λ is. absurd (clash is);
  n15 = λ is. absurd (clash is);
  n16 = (10, refl);
  n17 = (11, refl);
  n18 = (12, refl);
}

copy_rules : HasCopyRules call_names.Copy
copy_rules = record {
  n1 = (1, refl);
  n5 = (5, refl);
  n9 = (6, refl);
  n10 = (7, refl);
  n11 = (8, refl);
  n13 = (9, refl);
  n14 = (10, refl);
  n15 = (11, refl);
  n16 = (12, refl);
  n17 = (13, refl);
  n18 = (14, refl);
}

-- the ends of the steps of a call
steps_end : (k : CallerKnowledge) (caller : DomId) (request : Request) (call : CallName)
    → kind_of_request request ≡ Some call → Ends call (steps_of k caller (asked request))
steps_end k caller (requests.Grant gref entry) call is =
    so_for call_names.Grant call (λ (x : CallName). Ends x (steps_of k caller (asked (requests.Grant gref entry)))) is
    (ends_grant call_names.Grant k caller gref entry (2, refl))
steps_end k caller (requests.GrantBytes gref bytes) call is =
    so_for call_names.GrantBytes call (λ (x : CallName). Ends x (steps_of k caller (asked
    (requests.GrantBytes gref bytes)))) is
    (ends_grant call_names.GrantBytes k caller gref (entry_spelled bytes.now) (2, refl))
steps_end k caller (requests.Revoke gref) call is =
    so_for call_names.Revoke call (λ (x : CallName). Ends x (steps_of k caller (asked (requests.Revoke gref)))) is
    (ends_once call_names.Revoke caller gref _ _ (3, refl))
steps_end k caller (requests.Withdraw gref) call is =
    so_for call_names.Withdraw call (λ (x : CallName). Ends x (steps_of k caller (asked (requests.Withdraw gref)))) is
    (ends_turns call_names.Withdraw changes.Withdraw caller gref _ (λ w stopped. absurd (clash stopped)) (3, refl))
steps_end k caller (requests.Demote gref) call is =
    so_for call_names.Demote call (λ (x : CallName). Ends x (steps_of k caller (asked (requests.Demote gref)))) is
    (ends_turns call_names.Demote changes.Demote caller gref _ (λ w stopped. (4, refl)) (3, refl))
steps_end k caller (requests.Promote gref) call is =
    so_for call_names.Promote call (λ (x : CallName). Ends x (steps_of k caller (asked (requests.Promote gref)))) is
    (ends_turns call_names.Promote changes.Promote caller gref _ (λ w stopped. absurd (clash stopped)) (3, refl))
steps_end k caller (requests.Map dom gref flags) call is =
    so_for call_names.Map call (λ (x : CallName). Ends x (steps_of k caller (asked (requests.Map dom gref flags)))) is
    (ends_leg call_names.Map _ _ _ (map_leg_rules k caller dom gref flags) (ends_holding call_names.Map [])
    (λ p. ends_ended call_names.Map (Mapped p) tt))
steps_end k caller (requests.Unmap handle) call is =
    so_for call_names.Unmap call (λ (x : CallName). Ends x (steps_of k caller (asked (requests.Unmap handle)))) is
    (ends_by_mapping call_names.Unmap (k.mapping handle) _ (2, refl))
steps_end k caller (requests.Load handle off len) call is =
    so_for call_names.Load call (λ (x : CallName). Ends x (steps_of k caller (asked (requests.Load handle off len)))) is
    (ends_by_mapping call_names.Load (k.mapping handle) _ (3, refl))
steps_end k caller (requests.Store handle off bytes) call is =
    so_for call_names.Store call (λ (x : CallName). Ends x (steps_of k caller (asked
    (requests.Store handle off bytes)))) is
    (ends_by_mapping call_names.Store (k.mapping handle) _ (2, refl))
steps_end k caller (requests.Peek frame off len) call is =
    so_for call_names.Peek call (λ (x : CallName). Ends x (steps_of k caller (asked (requests.Peek frame off len)))) is
    (ends_makes call_names.Peek _ _ (ends_ended call_names.Peek Granted tt))
steps_end k caller (requests.Poke frame off bytes) call is =
    so_for call_names.Poke call (λ (x : CallName). Ends x (steps_of k caller (asked
    (requests.Poke frame off bytes)))) is
    (ends_makes call_names.Poke _ _ (ends_ended call_names.Poke Granted tt))
steps_end k caller (requests.Copy c) call is =
    so_for call_names.Copy call (λ (x : CallName). Ends x (steps_of k caller (asked (requests.Copy c)))) is
    (ends_copies call_names.Copy k caller c copy_rules)
steps_end k caller (requests.SetVersion version) call is =
    so_for call_names.SetVersion call (λ (x : CallName). Ends x (steps_of k caller (asked
    (requests.SetVersion version)))) is
    (ends_makes call_names.SetVersion _ _ (ends_ended call_names.SetVersion Granted tt))
steps_end k caller (requests.SetupTable frames) call is =
    so_for call_names.SetupTable call (λ (x : CallName). Ends x (steps_of k caller (asked
    (requests.SetupTable frames)))) is
    (ends_makes call_names.SetupTable _ _ (ends_ended call_names.SetupTable _ tt))
steps_end k caller (requests.QuerySize dom) call is =
    so_for call_names.QuerySize call (λ (x : CallName). Ends x (steps_of k caller (asked (requests.QuerySize dom)))) is
    (ends_looks call_names.QuerySize _ _ (λ word. ends_ended call_names.QuerySize _ tt))
steps_end k caller (requests.GetVersion dom) call is =
    so_for call_names.GetVersion call (λ (x : CallName). Ends x (steps_of k caller (asked
    (requests.GetVersion dom)))) is
    (ends_looks call_names.GetVersion _ _ (λ word. ends_ended call_names.GetVersion _ tt))
steps_end k caller (requests.Release handle) call is = absurd (none-some call is)
steps_end k caller (requests.Probe c) call is = absurd (none-some call is)

-- ---- answers

same_answer : (a b : Answer) → Some a ≡ Some b → a ≡ b
same_answer a b is = same_Some a b is

-- the refusal of an answer is that of its result
refused_by_result : (call : CallName) (v : CallResult) (answer : Answer) (d : Denial) → refusal_of answer
    ≡ refusal_in (Some v)
    → answer ≡ Denied d → Allows call v → In call d.rule
refused_by_result call (Refused e) answer d same is ok =
    subst (λ (x : Denial). In call x.rule) (same_Some e d (sym same ∙ ap refusal_of is)) ok
refused_by_result call Granted answer d same is ok = absurd (none-some d (sym same ∙ ap refusal_of is))
refused_by_result call (Given value) answer d same is ok = absurd (none-some d (sym same ∙ ap refusal_of is))
refused_by_result call (Mapped p) answer d same is ok = absurd (none-some d (sym same ∙ ap refusal_of is))

refused_by : (call : CallName) (s : Setting) (before : History) (caller : DomId) (asks : OpenRequest)
    (step : Option Step)
    (giving : Bool) (verdict : Option CallResult) (answer : Option Answer) (against : Option Denial) (d : Denial)
    → AnsweredBy s before caller asks step giving verdict answer against → answer ≡ Some (Denied d)
    → AllowsIf call verdict
    → In call d.rule
refused_by call s before caller asks step giving None None against d answered is ok = absurd (none-some (Denied d) is)
refused_by call s before caller asks step giving None (Some answer) against d answered is ok = absurd answered
refused_by call s before caller asks step giving (Some v) None against d answered is ok = absurd answered
refused_by call s before caller asks step giving (Some v) (Some answer) against d answered is ok =
    refused_by_result call v answer d answered.0 (same_answer answer (Denied d) is) ok

-- after a step, the rules at the beginning refuse nothing
not_begun : (o : Option CallResult) (steps : Continuation) (vs : List Observation) (step : Step)
    → after_beginning o steps vs ≡ Some (actions.Step step) → o ≡ None
not_begun None steps vs step is = refl
not_begun (Some v) steps [] step is = absurd (no_step step v (sym is))
not_begun (Some v) steps (x ∷ vs) step is = absurd (none-some (actions.Step step) is)

verdict_allows : (call : CallName) (o : Option CallResult) (steps : Continuation) (vs : List Observation) → o ≡ None
    → Ends call steps → AllowsIf call (verdict_in (after_beginning o steps vs))
verdict_allows call (Some v) steps vs is ends = absurd (none-some v (sym is))
verdict_allows call None steps vs is ends = by (steps vs) refl
  where
    by : (x : Option Action) → steps vs ≡ x → AllowsIf call (verdict_in x)
    by None e = tt
    by (Some (actions.Step step)) e = tt
    by (Some (actions.Done r)) e = ends vs r e

-- a step of the call refuses it by one of its rules
step_refuses : (call : CallName) (s : Setting) (before : History) (i : Item) (step : Step) (seen : Observation)
    (request : Request) (c : Option Underway) (d : Denial) → StepsRightIn s before i step seen c
    → IsRequestAt request c (Stepped step seen) → kind_of_request request ≡ Some call → i.answer ≡ Some (Denied d)
    → In call d.rule
step_refuses call s before i step seen request None d right within kind is = absurd right
step_refuses call s before i step seen request (Some c) d right within kind is =
    let k = known_at s before i.actor in
    let none : begun k i.actor c.request ≡ None =
    not_begun (begun k i.actor c.request) (steps_of k i.actor c.request) (values c) step right.continues in
    let ends : Ends call (steps_of k i.actor c.request) =
    subst (λ (r : OpenRequest). Ends call (steps_of k i.actor r)) (sym within)
    (steps_end k i.actor request call kind) in
    refused_by call s before i.actor c.request _ _ _ i.answer _ d right.answered is
    (verdict_allows call (begun k i.actor c.request) (steps_of k i.actor c.request) (values c ++ seen ∷ []) none ends)

by_event : (call : CallName) (s : Setting) (before : History) (actor : DomId) (happened : ItemEvent)
    (answer : Option Answer)
    (request : Request) (d : Denial) → IsRight s before (record { actor = actor; happened = happened; answer = answer })
    → IsRequestAt request (open_call before actor.0) happened → kind_of_request request ≡ Some call
    → answer ≡ Some (Denied d)
    → In call d.rule
by_event call s before actor (Began begun_now) answer request d right within kind is =
    refused_by call s before actor _ _ _ _ answer _ d right.1 is
    (begins (known_at s before actor) actor begun_now call (ap kind_of_request within ∙ kind))
by_event call s before actor (Stepped step seen) answer request d right within kind is =
    step_refuses call s before (record { actor = actor; happened = Stepped step seen; answer = answer }) step seen
    request
    (open_call before actor.0) d right within kind is

-- a refusal in a legal history is by a rule of its call
pub refused_by_its_rules : (s : Setting) (before : History) (i : Item) (request : Request) (call : CallName)
    (denial : Denial)
    → IsRefusedByItsRules s before i request call denial
refused_by_its_rules s before i request call denial right within kind is =
    by_event call s before i.actor i.happened i.answer request denial right within kind is
