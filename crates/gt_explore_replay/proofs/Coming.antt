-- A run that has come some way, and one happening more.
use Rattle.std.proofs.Common.{◌≡◌, ◌≢◌, ◌<◌, ◌⊎◌, ℕ, zero, suc, Bool, true, false, cond, List, [], ◌∷◌, ◌++◌, length}
use Rattle.std.proofs.Common.{map, Option, Some, None, refl, ap, sym, ◌∙◌, subst, inl, inr, arith, append_assoc}
use Rattle.std.proofs.Common.{length-append, get_or}
use Rattle.std.proofs.Math.ListN.{set}
use Rattle.std.proofs.lemmas.Bool.{eq-eqb, ne_eqb}
use Rattle.std.proofs.lemmas.List.{append-nil}
use Rattle.std.proofs.lemmas.List.Elements.{All-push, filter-append}
use Rattle.std.proofs.lemmas.Option.{none-some, same_Some, slice_get_within, slice_get-map, get_or_from_slice_get}
use Rattle.std.specs.Option.{option_map}
use Rattle.std.specs.Prelude.{◌==◌, slice_get, All, AllPairs, IfOk, IfSome, IsSome, Result, Ok, Err}
use Rattle.gt_types.specs.declared.config.Config.{Config}
use Rattle.gt_script_runs.specs.declared.rights.ScriptPolicy.{ScriptPolicy}
use Rattle.gt_explore_replay.specs.declared.replay.Moved.{Moved}
use Rattle.gt_explore_replay.specs.declared.replay.Moved.TheVariants as made
use Rattle.gt_types.specs.Names.{domain_of}
use Rattle.gt_types.specs.declared.DomId.{DomId}
use Rattle.gt_types.specs.declared.config.DomainConfig.{DomainConfig}
use Rattle.gt_model.specs.History.{History, Setting, setting_of}
use Rattle.gt_model.specs.Legal.{Legal, LegalAfter, MayDo, grown, history_after}
use Rattle.gt_core.specs.Standing.{CoreStands, setting_in}
use Rattle.gt_model.specs.declared.trace.Element.{Element}
use Rattle.gt_model.specs.declared.trace.Event.{Event}
use Rattle.gt_script.specs.Contents.{type_names}
use Rattle.gt_script.specs.RunContents.{RunContents}
use Rattle.gt_script.specs.RunScripts.{list_of}
use Rattle.gt_script_runs.specs.Playing.{setting_of_script}
use Rattle.gt_script_runs.specs.Rights.{may_by}
use Rattle.gt_explore_replay.specs.Orders.{Happening, did, raised, passed, doer, own_happenings, events_in, trace_in}
use Rattle.gt_explore_replay.specs.Orders.{IsRaisedBefore, FlagsAreRaised, FollowsList}
use Rattle.gt_explore_replay.specs.Walking.{WalksTo, Moves, HasFollowed, HasWalked, ComesOn, IsShownBy}
use Rattle.gt_explore_replay.specs.declared.replay.Replay.{Replay}
use Rattle.gt_explore_replay.specs.declared.walker.Walker.{Walker}
use Rattle.gt_explore_replay.proofs.Places.{get_left, get_end, get_cases, get_set}

-- the core's part

events_more : (hs : List Happening) (e : Event) (x : Element) → events_in (hs ++ did e x ∷ []) ≡ events_in hs ++ e ∷ []
events_more [] e x = refl
events_more (did f y ∷ hs) e x = ap (λ (l : List Event). f ∷ l) (events_more hs e x)
events_more (raised d flag ∷ hs) e x = events_more hs e x
events_more (passed d flag ∷ hs) e x = events_more hs e x

pub trace_more : (hs : List Happening) (e : Event) (x : Element) → trace_in (hs ++ did e x ∷ []) ≡ trace_in hs ++ x ∷ []
trace_more [] e x = refl
trace_more (did f y ∷ hs) e x = ap (λ (l : List Element). y ∷ l) (trace_more hs e x)
trace_more (raised d flag ∷ hs) e x = trace_more hs e x
trace_more (passed d flag ∷ hs) e x = trace_more hs e x

-- no event
pub data IsQuiet : Happening → Type 0 where
  tells : (d : DomId) (flag : ℕ) → IsQuiet (raised d flag)
  waits : (d : DomId) (flag : ℕ) → IsQuiet (passed d flag)

events_same : (hs : List Happening) (x : Happening) → IsQuiet x → events_in (hs ++ x ∷ []) ≡ events_in hs
events_same [] x (tells d flag) = refl
events_same [] x (waits d flag) = refl
events_same (did f y ∷ hs) x q = ap (λ (l : List Event). f ∷ l) (events_same hs x q)
events_same (raised d flag ∷ hs) x q = events_same hs x q
events_same (passed d flag ∷ hs) x q = events_same hs x q

pub trace_same : (hs : List Happening) (x : Happening) → IsQuiet x → trace_in (hs ++ x ∷ []) ≡ trace_in hs
trace_same [] x (tells d flag) = refl
trace_same [] x (waits d flag) = refl
trace_same (did f y ∷ hs) x q = ap (λ (l : List Element). y ∷ l) (trace_same hs x q)
trace_same (raised d flag ∷ hs) x q = trace_same hs x q
trace_same (passed d flag ∷ hs) x q = trace_same hs x q

pub history_one : (h : History) (xs : List Element) (x : Element) → history_after h (xs ++ x ∷ []) ≡ grown (history_after h xs) x
history_one h [] x = refl
history_one h (y ∷ xs) x = history_one (grown h y) xs x

legal_one : (s : Setting) (h : History) (es : List Event) (xs : List Element) (e : Event) (x : Element) → LegalAfter s h es xs → MayDo s (history_after h xs) e x → LegalAfter s h (es ++ e ∷ []) (xs ++ x ∷ [])
legal_one s h [] [] e x p q = (q, tt)
legal_one s h (f ∷ es) (y ∷ xs) e x p q = (p.0, legal_one s (grown h y) es xs e x p.1 q)
legal_one s h [] (y ∷ xs) e x p q = absurd p
legal_one s h (f ∷ es) [] e x p q = absurd p

-- flags

raised_more : (place flag : ℕ) (hs : List Happening) (x : Happening) → IsRaisedBefore place flag hs → IsRaisedBefore place flag (hs ++ x ∷ [])
raised_more place flag hs x (at, d, lt, is) = (at, d, lt, get_left hs (x ∷ []) at (slice_get_within hs at (raised d flag) is) ∙ is)

raised_later : (flag : ℕ) (hs : List Happening) (x : Happening) → IsRaisedBefore (length hs) flag hs → IsRaisedBefore (length (hs ++ x ∷ [])) flag (hs ++ x ∷ [])
raised_later flag hs x (at, d, lt, is) =
    let many = length-append hs (x ∷ []) in
    (at, d, omega (arith, many), get_left hs (x ∷ []) at lt ∙ is)

raised_now : (d : DomId) (flag : ℕ) (hs : List Happening) → IsRaisedBefore (length (hs ++ raised d flag ∷ [])) flag (hs ++ raised d flag ∷ [])
raised_now d flag hs =
    let many = length-append hs (raised d flag ∷ []) in
    (length hs, d, omega (arith, many), get_end hs (raised d flag))

flags_more : (hs : List Happening) (x : Happening) → FlagsAreRaised hs → ((d : DomId) (flag : ℕ) → x ≡ passed d flag → IsRaisedBefore (length hs) flag hs) → FlagsAreRaised (hs ++ x ∷ [])
flags_more hs x old new = λ at d flag is. elim (get_cases hs x (passed d flag) at is) [
  | inl (lt, e) ↦ raised_more at flag hs x (old at d flag e)
  | inr (last, same) ↦ subst (λ (n : ℕ). IsRaisedBefore n flag (hs ++ x ∷ [])) (sym last) (raised_more (length hs) flag hs x (new d flag same))
]

-- domains

pub map_set : {X Y : Type 0} (f : X → Y) (xs : List X) (k : ℕ) (v w : X) → slice_get xs k ≡ Some v → f w ≡ f v → map f (set xs k w) ≡ map f xs
map_set f [] k v w at same = refl
map_set f (x ∷ xs) zero v w at same = ap (λ y. y ∷ map f xs) (same ∙ ap f (sym (same_Some x v at)))
map_set f (x ∷ xs) (suc k) v w at same = ap (λ l. f x ∷ l) (map_set f xs k v w at same)

pub mapped_back : {X Y : Type 0} (f : X → Y) (o : Option X) (y : Y) → option_map f o ≡ Some y → (x : X) × (o ≡ Some x) × (f x ≡ y)
mapped_back f None y e = absurd (none-some y e)
mapped_back f (Some x) y e = (x, refl, same_Some (f x) y e)

-- the domain of the script that is at a place
pub domain_at : (ws : List Walker) (ds : List DomainConfig) (k : ℕ) (w : Walker) → map (λ (u : Walker). u.dom) ws ≡ map (λ (d : DomainConfig). d.id) ds → slice_get ws k ≡ Some w
    → (d : DomainConfig) × (slice_get ds k ≡ Some d) × (d.id ≡ w.dom)
domain_at ws ds k w same at =
    mapped_back (λ (d : DomainConfig). d.id) (slice_get ds k) w.dom (
    sym (slice_get-map (λ (d : DomainConfig). d.id) ds k) ∙ ap (λ (l : List DomId). slice_get l k) (sym same)
    ∙ slice_get-map (λ (u : Walker). u.dom) ws k ∙ ap (option_map (λ (u : Walker). u.dom)) at
    )

domain_found : (b : Bool) (d : DomainConfig) (o : Option DomainConfig) → (b ≡ true) ⊎ (o ≢ None) → cond b (Some d) o ≢ None
domain_found true d o h = λ e. none-some d (sym e)
domain_found false d o (inl h) = cc
domain_found false d o (inr h) = h

pub domain_known : (ds : List DomainConfig) (k : ℕ) (d : DomainConfig) → slice_get ds k ≡ Some d → domain_of ds d.id ≢ None
domain_known [] k d at = absurd (none-some d at)
domain_known (e ∷ ds) zero d at =
    domain_found (e.id.0 == d.id.0) e (domain_of ds d.id) (inl (eq-eqb e.id.0 d.id.0 (ap (λ (x : DomainConfig). x.id.0) (same_Some e d at))))
domain_known (e ∷ ds) (suc k) d at = domain_found (e.id.0 == d.id.0) e (domain_of ds d.id) (inr (domain_known ds k d at))

pub apart_at : (ds : List DomainConfig) (i j : ℕ) (d e : DomainConfig) → AllPairs (λ (x : DomainConfig) (y : DomainConfig). x.id.0 ≢ y.id.0) ds → slice_get ds i ≡ Some d → slice_get ds j ≡ Some e → i < j → d.id.0 ≢ e.id.0
apart_at ds i j d e all at there lt = λ same.
    all i j d lt (slice_get_within ds j e there) (
    ap (λ (x : DomainConfig). x.id.0) (get_or_from_slice_get ds i d d at) ∙ same ∙ ap (λ (x : DomainConfig). x.id.0) (sym (get_or_from_slice_get ds j e d there))
    )

pub less_or : (i j : ℕ) → i ≢ j → (i < j) ⊎ (j < i)
less_or zero zero h = absurd (h refl)
less_or zero (suc j) h = inl (omega arith)
less_or (suc i) zero h = inr (omega arith)
less_or (suc i) (suc j) h = elim (less_or i j (λ e. h (ap suc e))) [ inl a ↦ inl (omega arith) | inr b ↦ inr (omega arith) ]

walkers_apart : (c : RunContents) (hs : List Happening) (r : Replay) (i j : ℕ) (v w : Walker) → HasWalked c hs r → slice_get r.walkers.items i ≡ Some v → slice_get r.walkers.items j ≡ Some w → i ≢ j → v.dom.0 ≢ w.dom.0
walkers_apart c hs r i j v w come at there other = λ same.
    let d = domain_at r.walkers.items c.head.domains i v come.domains at in
    let e = domain_at r.walkers.items c.head.domains j w come.domains there in
    let equal : d.0.id.0 ≡ e.0.id.0 = ap (λ (x : DomId). x.0) d.2 ∙ same ∙ ap (λ (x : DomId). x.0) (sym e.2) in
    elim (less_or i j other) [
      | inl a ↦ apart_at c.head.domains i j d.0 e.0 come.apart d.1 e.1 a equal
      | inr b ↦ apart_at c.head.domains j i e.0 d.0 come.apart e.1 d.1 b (sym equal)
    ]

-- what one domain does

own_more : (dom : DomId) (hs : List Happening) (x : Happening) (more : List Happening) → (doer x).0 ≡ dom.0 → own_happenings dom (hs ++ x ∷ []) ++ more ≡ own_happenings dom hs ++ (x ∷ more)
own_more dom hs x more is =
    let one : own_happenings dom (x ∷ []) ≡ x ∷ [] = ap (λ (b : Bool). cond b (x ∷ []) []) (eq-eqb (doer x).0 dom.0 is) in
    ap (λ (l : List Happening). l ++ more) (filter-append (λ (y : Happening). (doer y).0 == dom.0) hs (x ∷ []) ∙ ap (λ (l : List Happening). own_happenings dom hs ++ l) one) ∙ append_assoc (own_happenings dom hs) (x ∷ []) more

own_other : (dom : DomId) (hs : List Happening) (x : Happening) → (doer x).0 ≢ dom.0 → own_happenings dom (hs ++ x ∷ []) ≡ own_happenings dom hs
own_other dom hs x other =
    let none : own_happenings dom (x ∷ []) ≡ [] = ap (λ (b : Bool). cond b (x ∷ []) []) (ne_eqb (doer x).0 dom.0 other) in
    filter-append (λ (y : Happening). (doer y).0 == dom.0) hs (x ∷ []) ∙ ap (λ (l : List Happening). own_happenings dom hs ++ l) none ∙ append-nil (own_happenings dom hs)

followed_on : (c : RunContents) (hs : List Happening) (x : Happening) (v w : Walker) → Moves (type_names c.head) v x w → HasFollowed c hs v → HasFollowed c (hs ++ x ∷ []) w
followed_on c hs x v w moves (named, names, follows) =
    let led = moves.leads named names in
    let mine : (doer x).0 ≡ v.dom.0 = ap (λ (d : DomId). d.0) moves.own_move in (
      led.0,
      led.1,
      λ more rest go.
          let from = led.2 more rest go in
          let one = follows (x ∷ more) from.0 from.1 in
          let two = subst (λ (l : List Happening). FollowsList (type_names c.head) v.dom [] [] (list_of c.tasks v.dom) l (v.text.items ++ from.0)) (sym (own_more v.dom hs x more mine)) one in
          let three = subst (λ (l : List ℕ). FollowsList (type_names c.head) v.dom [] [] (list_of c.tasks v.dom) (own_happenings v.dom (hs ++ x ∷ []) ++ more) l) from.2 two in
          subst (λ (d : DomId). FollowsList (type_names c.head) d [] [] (list_of c.tasks d) (own_happenings d (hs ++ x ∷ []) ++ more) (w.text.items ++ rest)) (sym moves.dom) three,
    )

followed_still : (c : RunContents) (hs : List Happening) (x : Happening) (u : Walker) → (doer x).0 ≢ u.dom.0 → HasFollowed c hs u → HasFollowed c (hs ++ x ∷ []) u
followed_still c hs x u other (named, names, follows) = (
  named,
  names,
  λ more rest go.
      subst (λ (l : List Happening). FollowsList (type_names c.head) u.dom [] [] (list_of c.tasks u.dom) (l ++ more) (u.text.items ++ rest)) (sym (own_other u.dom hs x other)) (follows more rest go),
)

-- the run

All_end : (P : Happening → Type 0) (hs : List Happening) (x : Happening) → All P hs → P x → All P (hs ++ x ∷ [])
All_end P hs x all here = All-push P hs x all here

comes : (c : RunContents) (hs : List Happening) (r q : Replay) (x : Happening) (place : ℕ) (moved : Moved) (v w : Walker) → HasWalked c hs r → slice_get r.walkers.items place ≡ Some v → IsShownBy moved x → Moves (type_names c.head) v x w
    → setting_in may_by q.core ≡ setting_in may_by r.core → q.types.items ≡ r.types.items → q.walkers.items ≡ set r.walkers.items place w
    → Legal (setting_of_script c.head) (events_in (hs ++ x ∷ [])) (trace_in (hs ++ x ∷ [])) → CoreStands (setting_of_script c.head) (history_after [] (trace_in (hs ++ x ∷ []))) q.core.state
    → FlagsAreRaised (hs ++ x ∷ []) → ((flag : ℕ) → get_or q.told.items flag false ≡ true → IsRaisedBefore (length (hs ++ x ∷ [])) flag (hs ++ x ∷ []))
    → ComesOn c hs place moved q
comes c hs r q x place moved v w come at shown moves setting types walkers legal stands flags told = record {
  happened = x;
  shown = shown;
  own_move =
      let d = domain_at r.walkers.items c.head.domains place v come.domains at in
      ap (option_map (λ (e : DomainConfig). e.id)) d.1 ∙ ap Some (d.2 ∙ sym moves.own_move);
  walked = record {
    setting = setting ∙ come.setting;
    types = types ∙ come.types;
    legal = legal;
    stands = stands;
    known = All_end (λ (y : Happening). domain_of c.head.domains (doer y) ≢ None) hs x come.known
        (let d = domain_at r.walkers.items c.head.domains place v come.domains at in
        subst (λ (i : DomId). domain_of c.head.domains i ≢ None) (d.2 ∙ sym moves.own_move) (domain_known c.head.domains place d.0 d.1));
    flags = flags;
    told = told;
    domains = ap (map (λ (u : Walker). u.dom)) walkers ∙ map_set (λ (u : Walker). u.dom) r.walkers.items place v w at moves.dom ∙ come.domains;
    apart = come.apart;
    followed = λ k u there. elim (get_set r.walkers.items place k w u (ap (λ (l : List Walker). slice_get l k) (sym walkers) ∙ there)) [
      | inl (here, same) ↦ subst (HasFollowed c (hs ++ x ∷ [])) same (followed_on c hs x v w moves (come.followed place v at))
      | inr (other, was) ↦ followed_still c hs x u (λ e. walkers_apart c hs r place k v u come at was (λ s. other (sym s)) (ap (λ (d : DomId). d.0) (sym moves.own_move) ∙ e)) (come.followed k u was)
    ];
  };
}

-- a domain made an event of the core
pub comes_by : (c : RunContents) (hs : List Happening) (r q : Replay) (place : ℕ) (moved : Moved) (v w : Walker) → HasWalked c hs r → slice_get r.walkers.items place ≡ Some v
    → WalksTo (setting_in may_by r.core) r.types.items r.core.state v moved q.core.state w
    → setting_in may_by q.core ≡ setting_in may_by r.core → q.types.items ≡ r.types.items → q.walkers.items ≡ set r.walkers.items place w → q.told.items ≡ r.told.items
    → ComesOn c hs place moved q
comes_by c hs r q place moved v w come at makes setting types walkers told =
    let known = subst (λ (s : Setting). WalksTo s r.types.items r.core.state v moved q.core.state w) come.setting makes in
    let (e, x, may, stands, shown, moves) = known (history_after [] (trace_in hs)) come.stands in
    let typed = subst (λ (names : List (List ℕ)). Moves names v (did e x) w) come.types moves in
    let legal = legal_one (setting_of_script c.head) [] (events_in hs) (trace_in hs) e x come.legal may in
    comes c hs r q (did e x) place moved v w come at shown typed setting types walkers
    (subst (λ (es : List Event). Legal (setting_of_script c.head) es (trace_in (hs ++ did e x ∷ []))) (sym (events_more hs e x))
    (subst (λ (xs : List Element). Legal (setting_of_script c.head) (events_in hs ++ e ∷ []) xs) (sym (trace_more hs e x)) legal))
    (subst (λ (xs : List Element). CoreStands (setting_of_script c.head) (history_after [] xs) q.core.state) (sym (trace_more hs e x))
    (subst (λ (h : History). CoreStands (setting_of_script c.head) h q.core.state) (sym (history_one [] (trace_in hs) x)) stands))
    (flags_more hs (did e x) come.flags (λ d flag same. cc))
    (λ flag is. raised_later flag hs (did e x) (come.told flag (ap (λ (l : List Bool). get_or l flag false) (sym told) ∙ is)))

-- a domain raised or passed a flag, by which the core does nothing
quiet : (c : RunContents) (hs : List Happening) (r q : Replay) (x : Happening) (place : ℕ) (moved : Moved) (v w : Walker) → IsQuiet x → HasWalked c hs r → slice_get r.walkers.items place ≡ Some v → IsShownBy moved x → Moves r.types.items v x w
    → q.core ≡ r.core → q.types.items ≡ r.types.items → q.walkers.items ≡ set r.walkers.items place w
    → ((d : DomId) (flag : ℕ) → x ≡ passed d flag → IsRaisedBefore (length hs) flag hs)
    → ((flag : ℕ) → get_or q.told.items flag false ≡ true → IsRaisedBefore (length (hs ++ x ∷ [])) flag (hs ++ x ∷ []))
    → ComesOn c hs place moved q
quiet c hs r q x place moved v w still come at shown moves core types walkers passes told =
    comes c hs r q x place moved v w come at shown (subst (λ (names : List (List ℕ)). Moves names v x w) come.types moves) (ap (setting_in may_by) core) types walkers
    (subst (λ (es : List Event). Legal (setting_of_script c.head) es (trace_in (hs ++ x ∷ []))) (sym (events_same hs x still))
    (subst (λ (xs : List Element). Legal (setting_of_script c.head) (events_in hs) xs) (sym (trace_same hs x still)) come.legal))
    (subst (λ (xs : List Element). CoreStands (setting_of_script c.head) (history_after [] xs) q.core.state) (sym (trace_same hs x still))
    (subst (λ k. CoreStands (setting_of_script c.head) (history_after [] (trace_in hs)) k.state) (sym core) come.stands))
    (flags_more hs x come.flags passes)
    told

pub set_true : (told : List Bool) (at flag : ℕ) → get_or (set told at true) flag false ≡ true → (flag ≡ at) ⊎ (get_or told flag false ≡ true)
set_true [] at flag is = inr is
set_true (b ∷ told) zero zero is = inl refl
set_true (b ∷ told) zero (suc flag) is = inr is
set_true (b ∷ told) (suc at) zero is = inr is
set_true (b ∷ told) (suc at) (suc flag) is = elim (set_true told at flag is) [ inl e ↦ inl (ap suc e) | inr h ↦ inr h ]

pub comes_raised : (c : RunContents) (hs : List Happening) (r q : Replay) (place flag : ℕ) (v w : Walker) → HasWalked c hs r → slice_get r.walkers.items place ≡ Some v → Moves r.types.items v (raised v.dom flag) w
    → q.core ≡ r.core → q.types.items ≡ r.types.items → q.walkers.items ≡ set r.walkers.items place w → q.told.items ≡ set r.told.items flag true
    → ComesOn c hs place made.Raised q
comes_raised c hs r q place flag v w come at moves core types walkers told =
    quiet c hs r q (raised v.dom flag) place made.Raised v w (tells v.dom flag) come at (v.dom, flag, refl) moves core types walkers (λ d f same. cc) (λ f is.
    elim (set_true r.told.items flag f (ap (λ (l : List Bool). get_or l f false) (sym told) ∙ is)) [
      | inl same ↦ subst (λ (n : ℕ). IsRaisedBefore (length (hs ++ raised v.dom flag ∷ [])) n (hs ++ raised v.dom flag ∷ [])) (sym same) (raised_now v.dom flag hs)
      | inr was ↦ raised_later f hs (raised v.dom flag) (come.told f was)
    ])

pub comes_passed : (c : RunContents) (hs : List Happening) (r q : Replay) (place flag : ℕ) (v w : Walker) → HasWalked c hs r → slice_get r.walkers.items place ≡ Some v → Moves r.types.items v (passed v.dom flag) w
    → get_or r.told.items flag false ≡ true
    → q.core ≡ r.core → q.types.items ≡ r.types.items → q.walkers.items ≡ set r.walkers.items place w → q.told.items ≡ r.told.items
    → ComesOn c hs place made.Passed q
comes_passed c hs r q place flag v w come at moves is core types walkers told =
    quiet c hs r q (passed v.dom flag) place made.Passed v w (waits v.dom flag) come at (v.dom, flag, refl) moves core types walkers
    (λ d f same. let e : flag ≡ f = cc in subst (λ (n : ℕ). IsRaisedBefore (length hs) n hs) e (come.told flag is))
    (λ f told_f. raised_later f hs (passed v.dom flag) (come.told f (ap (λ (l : List Bool). get_or l f false) (sym told) ∙ told_f)))

-- what a domain made, if it made a move
pub comes_made : {E : Type 0} (c : RunContents) (hs : List Happening) (r q : Replay) (place : ℕ) (v w : Walker) (names : List (List ℕ)) (res : Result (Option Moved) E) → HasWalked c hs r → slice_get r.walkers.items place ≡ Some v → names ≡ r.types.items
    → q.core.config ≡ r.core.config → q.core.rights ≡ r.core.rights → q.types.items ≡ r.types.items → q.walkers.items ≡ set r.walkers.items place w → q.told.items ≡ r.told.items
    → IfOk res (λ m. IfSome m (λ moved. WalksTo (setting_in may_by r.core) names r.core.state v moved q.core.state w)) → IfOk res (λ m. IfSome m (λ moved. ComesOn c hs place moved q))
comes_made c hs r q place v w names (Err e) come at typed config rights types walkers told walks = tt
comes_made c hs r q place v w names (Ok None) come at typed config rights types walkers told walks = tt
comes_made c hs r q place v w names (Ok (Some moved)) come at typed config rights types walkers told walks =
    comes_by c hs r q place moved v w come at (subst (λ (l : List (List ℕ)). WalksTo (setting_in may_by r.core) l r.core.state v moved q.core.state w) typed walks)
    (ap (λ (x : Config). setting_of x (may_by q.core.rights)) config ∙ ap (λ (x : ScriptPolicy). setting_of r.core.config (may_by x)) rights) types walkers told

-- a move was made, so the run has come on
pub walked_on : (c : RunContents) (hs : List Happening) (r : Replay) (place : ℕ) (m : Option Moved) → IfSome m (λ moved. ComesOn c hs place moved r) → IsSome m → (gs : List Happening) × HasWalked c gs r
walked_on c hs r place None on some = absurd (cc some)
walked_on c hs r place (Some moved) on some = (hs ++ on.happened ∷ [], on.walked)
