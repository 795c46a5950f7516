-- What a statement grants, and which earlier ones may grant all of it.
use Rattle.std.proofs.Common.{◌≡◌, ◌⊎◌, inl, inr, ℕ, ◌+◌, ◌<◌, ◌≤◌, Bool, true, false, ◌&&◌, not, List, [], ◌∷◌}
use Rattle.std.proofs.Common.{◌++◌, Option, Some, None, Result, Ok, Err, get_or, length, take, refl, sym, ap, subst, ◌∙◌, arith}
use Rattle.std.specs.Prelude.{if◌then◌else◌, nat_lt, All, Contains, MatchBool, MatchOption, OnOk, is_some}
use Rattle.std.specs.List.{list_any}
use Rattle.std.proofs.lemmas.Bool.{cases_lt, true≢false, false≢true}
use Rattle.std.proofs.lemmas.Bool.Decides.{nat_tests}
use Rattle.std.proofs.lemmas.List.{append-nil, get_or_default}
use Rattle.std.proofs.lemmas.List.Elements.{All-contains, All-more, All-push, Contains-append_left, Contains-push}
use Rattle.std.proofs.lemmas.List.Folds.{list_any_at, list_any_none}
use Rattle.gt_types.specs.Names.{every_permission, permission_name}
use Rattle.gt_types.specs.declared.perms.Perms.{Perms}
use Rattle.gt_policy.specs.Granting.{lists_word}
use Rattle.gt_policy.specs.Resolving.{has_grant}
use Rattle.gt_policy.specs.declared.lined.LinedStatement.{LinedStatement}
use Rattle.gt_policy.specs.declared.statements.Allowance.{Allowance}
use Rattle.gt_policy.specs.declared.statements.SetElement.{SetElement}
use Rattle.gt_policy.specs.declared.statements.Statement.{Statement}
use Rattle.gt_policy.specs.declared.statements.Statement.TheVariants.{DeclareType, DeclareAttribute, GiveAttributes, Allow}
use Rattle.gt_policy_check.specs.Check.{exceeds_with, grants_with, no_more_with}
use Rattle.gt_policy_statements.specs.Granting.{elements_hold, exceeds_on, exceeds_some, gives_by, gives_one, gives_some}
use Rattle.gt_policy_statements.specs.Granting.{gives_source, reaches_by}
use Rattle.gt_policy_check.specs.Earlier.{has_source, member_at, triple_grants, AreHeld, GrantsTriple}
use Rattle.gt_policy_check.specs.Earlier.{HasNoTarget, IsPair, ReachesType, IsRepeatAt}
use Rattle.gt_policy_check.specs.declared.earlier.Pair.{Pair}
use Rattle.gt_policy_check.specs.declared.earlier.Triple.{Triple}
use Rattle.gt_policy_statements.specs.declared.members.Member.{Member}

-- ---- tests of lists

pub not_at : {X : Type 0} (f : X → Bool) (xs : List X) → list_any f xs ≡ false → (i : ℕ) (d : X) → i < length xs → f (get_or xs i d) ≡ false
not_at f xs none i d below = by (f (get_or xs i d)) refl
  where
    by : (b : Bool) → f (get_or xs i d) ≡ b → f (get_or xs i d) ≡ false
    by false e = e
    by true e = absurd (true≢false (sym (list_any_at f xs i d below e) ∙ none))

left_of : (a b : Bool) → (a && b) ≡ true → a ≡ true
left_of true b h = refl
left_of false b h = h

right_of : (a b : Bool) → (a && b) ≡ true → b ≡ true
right_of true b h = h
right_of false b h = absurd (false≢true h)

both : (a b : Bool) → a ≡ true → b ≡ true → (a && b) ≡ true
both true b h k = k
both false b h k = h

second_fails : (a b : Bool) → (a && b) ≡ false → a ≡ true → b ≡ false
second_fails true b h k = h
second_fails false b h k = absurd (false≢true k)

and_fails : (a b : Bool) → b ≡ false → (a && b) ≡ false
and_fails true b h = h
and_fails false b h = refl

first_fails : (a b : Bool) → a ≡ false → (a && b) ≡ false
first_fails true b h = absurd (true≢false h)
first_fails false b h = refl

denied : (b : Bool) → not b ≡ true → b ≡ false
denied true h = absurd (false≢true h)
denied false h = refl

doubled : (b : Bool) → not b ≡ false → b ≡ true
doubled true h = refl
doubled false h = absurd (true≢false h)

-- ---- a statement that grants nothing

abbrev blank : Member
blank = record { name = []; names = [] }

at_any : (members : List Member) (i : ℕ) (d : Member) → i < length members → member_at members i ≡ get_or members i d
at_any members i d below = get_or_default members i blank d below

module _ (members : List Member) (a : Allowance) where
  nothing_by : ((w : List ℕ) (i : ℕ) (d : Member) → i < length members → gives_source w (get_or members i d) a ≡ false) → grants_with members (Allow a) ≡ false
  nothing_by never =
      list_any_none (λ p. gives_some (permission_name p) members members (Allow a)) every_permission
      (λ k p l. list_any_none (λ s. gives_by (permission_name (get_or every_permission k p)) members s a) members
      (λ i d below. first_fails (gives_source (permission_name (get_or every_permission k p)) (get_or members i d) a) (list_any (λ t. reaches_by (get_or members i d) t a) members)
      (never (permission_name (get_or every_permission k p)) i d below)))

  pub no_class : has_grant a.classes ≡ false → grants_with members (Allow a) ≡ false
  no_class none = nothing_by (λ w i d below.
      first_fails (has_grant a.classes && lists_word a.perms w) (elements_hold (get_or members i d).names a.source) (first_fails (has_grant a.classes) (lists_word a.perms w) none))

  pub no_permission : list_any (λ p. lists_word a.perms (permission_name p)) every_permission ≡ false → grants_with members (Allow a) ≡ false
  no_permission none =
      list_any_none (λ p. gives_some (permission_name p) members members (Allow a)) every_permission
      (λ k p l. let w = permission_name (get_or every_permission k p) in
      list_any_none (λ s. gives_by w members s a) members
      (λ i d below. first_fails (gives_source w (get_or members i d) a) (list_any (λ t. reaches_by (get_or members i d) t a) members)
      (first_fails (has_grant a.classes && lists_word a.perms w) (elements_hold (get_or members i d).names a.source)
      (and_fails (has_grant a.classes) (lists_word a.perms w) (not_at (λ q. lists_word a.perms (permission_name q)) every_permission none k p l)))))

  module _ (sources : List ℕ) (held : AreHeld members a.source sources) where
    pub no_pair : All (HasNoTarget members a) sources → grants_with members (Allow a) ≡ false
    no_pair none =
        list_any_none (λ p. gives_some (permission_name p) members members (Allow a)) every_permission
        (λ k p l. let w = permission_name (get_or every_permission k p) in
        list_any_none (λ s. gives_by w members s a) members
        (λ i d below. by w i d below (elements_hold (get_or members i d).names a.source) refl))
      where
        by : (w : List ℕ) (i : ℕ) (d : Member) → i < length members → (b : Bool) → elements_hold (get_or members i d).names a.source ≡ b → gives_by w members (get_or members i d) a ≡ false
        by w i d below false e =
            first_fails (gives_source w (get_or members i d) a) (list_any (λ t. reaches_by (get_or members i d) t a) members)
            (and_fails (has_grant a.classes && lists_word a.perms w) (elements_hold (get_or members i d).names a.source) e)
        by w i d below true e =
            let same = at_any members i d below in
            let among : Contains sources i = held.every i below (ap (λ (m : Member). elements_hold m.names a.source) same ∙ e) in
            and_fails (gives_source w (get_or members i d) a) (list_any (λ t. reaches_by (get_or members i d) t a) members)
            (ap (λ (m : Member). list_any (λ t. reaches_by m t a) members) (sym same) ∙ All-contains (HasNoTarget members a) sources i none among below)

    -- a class, a permission and a pair make a triple
    pub a_triple : has_grant a.classes ≡ true → (p : Perms) → Contains every_permission p → lists_word a.perms (permission_name p) ≡ true
        → (q : Pair) → IsPair members a sources q → GrantsTriple members (Allow a) (record { perm = p; source = q.source; target = q.target })
    a_triple class p perm listed q pair =
        let in_source = All-contains (λ s. (s < length members) × (elements_hold (member_at members s).names a.source ≡ true)) sources q.source held.each pair.among in
        record {
          perm = perm;
          source = pair.reached.source;
          target = pair.reached.target;
          grants = both (gives_source (permission_name p) (member_at members q.source) a) (reaches_by (member_at members q.source) (member_at members q.target) a)
              (both (has_grant a.classes && lists_word a.perms (permission_name p)) (elements_hold (member_at members q.source).names a.source) (both (has_grant a.classes) (lists_word a.perms (permission_name p)) class listed) in_source.1)
              pair.reached.reaches;
        }

-- ---- a statement that grants a triple

-- it grants something
pub grants_some : (members : List Member) (x : Statement) (t : Triple) → GrantsTriple members x t → grants_with members x ≡ true
grants_some members (DeclareType w ms) t has = absurd (false≢true has.grants)
grants_some members (DeclareAttribute w) t has = absurd (false≢true has.grants)
grants_some members (GiveAttributes m ms) t has = absurd (false≢true has.grants)
grants_some members (Allow a) t has =
    let w = permission_name t.perm in let s = member_at members t.source in
    let source : gives_source w s a ≡ true = left_of (gives_source w s a) (reaches_by s (member_at members t.target) a) has.grants in
    let reached : list_any (λ u. reaches_by s u a) members ≡ true = list_any_at (λ u. reaches_by s u a) members t.target blank has.target (right_of (gives_source w s a) (reaches_by s (member_at members t.target) a) has.grants) in
    let some : gives_some w members members (Allow a) ≡ true = list_any_at (λ m. gives_by w members m a) members t.source blank has.source (both (gives_source w s a) (list_any (λ u. reaches_by s u a) members) source reached) in
    list_any_at (λ p. gives_some (permission_name p) members members (Allow a)) every_permission has.perm.0 t.perm has.perm.1
    (ap (λ (p : Perms). gives_some (permission_name p) members members (Allow a)) has.perm.2 ∙ some)

-- a statement that grants all of it grants the triple
pub grants_too : (members : List Member) (x y : Statement) (t : Triple) → GrantsTriple members x t → no_more_with members x y ≡ true → triple_grants members y t ≡ true
grants_too members (DeclareType w ms) y t has more = absurd (false≢true has.grants)
grants_too members (DeclareAttribute w) y t has more = absurd (false≢true has.grants)
grants_too members (GiveAttributes m ms) y t has more = absurd (false≢true has.grants)
grants_too members (Allow a) y t has more =
    let w = permission_name t.perm in let s = member_at members t.source in let u = member_at members t.target in
    let source : gives_source w s a ≡ true = left_of (gives_source w s a) (reaches_by s u a) has.grants in
    let reached : reaches_by s u a ≡ true = right_of (gives_source w s a) (reaches_by s u a) has.grants in
    let none : exceeds_some w members (Allow a) y ≡ false =
    ap (λ (p : Perms). exceeds_some (permission_name p) members (Allow a) y) (sym has.perm.2)
    ∙ not_at (λ p. exceeds_some (permission_name p) members (Allow a) y) every_permission (denied (exceeds_with members (Allow a) y) more) has.perm.0 t.perm has.perm.1 in
    let here : exceeds_on w members a y s ≡ false =
    second_fails (gives_source w s a) (exceeds_on w members a y s) (not_at (λ m. gives_source w m a && exceeds_on w members a y m) members none t.source blank has.source) source in
    doubled (gives_one w s u y)
    (second_fails (reaches_by s u a) (not (gives_one w s u y)) (not_at (λ m. reaches_by s m a && not (gives_one w s m y)) members here t.target blank has.target) reached)

-- its source set holds the source
pub has_its_source : (members : List Member) (y : Statement) (t : Triple) → triple_grants members y t ≡ true → has_source (member_at members t.source) y ≡ true
has_its_source members (DeclareType w ms) t has = absurd (false≢true has)
has_its_source members (DeclareAttribute w) t has = absurd (false≢true has)
has_its_source members (GiveAttributes m ms) t has = absurd (false≢true has)
has_its_source members (Allow b) t has =
    let w = permission_name t.perm in let s = member_at members t.source in
    right_of (has_grant b.classes && lists_word b.perms w) (elements_hold s.names b.source) (left_of (gives_source w s b) (reaches_by s (member_at members t.target) b) has)

-- ---- loops

-- the types so far that a set holds
abbrev pub HeldBefore : List Member → List SetElement → ℕ → List ℕ → Type 0
HeldBefore members items place held = (s : ℕ) → s < place → elements_hold (member_at members s).names items ≡ true → Contains held s

abbrev pub EachHeld : List Member → List SetElement → List ℕ → Type 0
EachHeld members items held = All (λ s. (s < length members) × (elements_hold (member_at members s).names items ≡ true)) held

pub held_more : (members : List Member) (items : List SetElement) (held more : List ℕ) (place : ℕ) (m : Member) → place < length members → m ≡ get_or members place m
    → elements_hold m.names items ≡ true → EachHeld members items held → HeldBefore members items place held → more ≡ held ++ place ∷ []
    → EachHeld members items more × HeldBefore members items (place + 1) more
held_more members items held more place m below is holds each every added = (
  subst (EachHeld members items) (sym added) (All-push (λ s. (s < length members) × (elements_hold (member_at members s).names items ≡ true)) held place each (below, here)),
  subst (HeldBefore members items (place + 1)) (sym added) (λ s l h. by s l h (cases_lt s place)),
)
  where
    here : elements_hold (member_at members place).names items ≡ true
    here = ap (λ (x : Member). elements_hold x.names items) (at_any members place m below ∙ sym is) ∙ holds

    by : (s : ℕ) → s < place + 1 → elements_hold (member_at members s).names items ≡ true → (s < place) ⊎ (place ≤ s) → Contains (held ++ place ∷ []) s
    by s l h (inl within) = Contains-append_left held (place ∷ []) s (every s within h)
    by s l h (inr past) = let e : place ≡ s = omega (arith, l, past) in subst (λ (n : ℕ). Contains (held ++ place ∷ []) n) e (Contains-push held place)

pub held_same : (members : List Member) (items : List SetElement) (held : List ℕ) (place : ℕ) (m : Member) → place < length members → m ≡ get_or members place m
    → elements_hold m.names items ≡ false → HeldBefore members items place held → HeldBefore members items (place + 1) held
held_same members items held place m below is fails every s l h = by (cases_lt s place)
  where
    by : (s < place) ⊎ (place ≤ s) → Contains held s
    by (inl within) = every s within h
    by (inr past) = let e : s ≡ place = omega (arith, l, past) in
        absurd (true≢false (sym (ap (λ (n : ℕ). elements_hold (member_at members n).names items) (sym e) ∙ h) ∙ ap (λ (x : Member). elements_hold x.names items) (at_any members place m below ∙ sym is) ∙ fails))

pub held_next : (members : List Member) (items : List SetElement) (held more : List ℕ) (place : ℕ) (m : Member) → place < length members → m ≡ get_or members place m
    → EachHeld members items held → HeldBefore members items place held → more ≡ held ++ (if elements_hold m.names items then place ∷ [] else [])
    → EachHeld members items more × HeldBefore members items (place + 1) more
held_next members items held more place m below is each every added = by (elements_hold m.names items) refl
  where
    on : (b : Bool) → elements_hold m.names items ≡ b → more ≡ held ++ (if b then place ∷ [] else [])
    on b e = added ∙ ap (λ (c : Bool). held ++ (if c then place ∷ [] else [])) e

    by : (b : Bool) → elements_hold m.names items ≡ b → EachHeld members items more × HeldBefore members items (place + 1) more
    by true e = held_more members items held more place m below is e each every (on true e)
    by false e =
        let same : more ≡ held = on false e ∙ append-nil held in
        (subst (EachHeld members items) (sym same) each, subst (HeldBefore members items (place + 1)) (sym same) (held_same members items held place m below is e every))

-- one source more from which nothing is reached
pub no_target_more : (members : List Member) (a : Allowance) (sources : List ℕ) (k s : ℕ) → k < length sources → s ≡ get_or sources k s
    → All (HasNoTarget members a) (take k sources) → HasNoTarget members a s → All (HasNoTarget members a) (take (k + 1) sources)
no_target_more members a sources k s below is all none =
    All-more (HasNoTarget members a) sources k 0 below all (subst (HasNoTarget members a) (is ∙ get_or_default sources k s 0 below) none)

-- one statement more that does not grant all of it
pub no_repeat_more : (members : List Member) (before : List LinedStatement) (x : Statement) (candidates : List ℕ) (k i : ℕ) → k < length candidates → i ≡ get_or candidates k i
    → All (λ j. IsRepeatAt members before x j → ⊥) (take k candidates) → (IsRepeatAt members before x i → ⊥) → All (λ j. IsRepeatAt members before x j → ⊥) (take (k + 1) candidates)
no_repeat_more members before x candidates k i below is all none =
    All-more (λ j. IsRepeatAt members before x j → ⊥) candidates k 0 below all (subst (λ (j : ℕ). IsRepeatAt members before x j → ⊥) (is ∙ get_or_default candidates k i 0 below) none)

-- a statement that does not grant the triple does not grant all of it
pub not_without_triple : (members : List Member) (before : List LinedStatement) (x : Statement) (t : Triple) (i : ℕ) (y : LinedStatement) → GrantsTriple members x t
    → y ≡ get_or before i y → triple_grants members y.statement t ≡ false → IsRepeatAt members before x i → ⊥
not_without_triple members before x t i y has is fails found =
    true≢false (sym (grants_too members x y.statement t has (ap (λ (z : LinedStatement). no_more_with members x z.statement) is ∙ found.1 y)) ∙ fails)

-- nor does one that grants less
pub not_with_less : (members : List Member) (before : List LinedStatement) (x : Statement) (i : ℕ) (y : LinedStatement)
    → y ≡ get_or before i y → no_more_with members x y.statement ≡ false → IsRepeatAt members before x i → ⊥
not_with_less members before x i y is fails found = true≢false (sym (ap (λ (z : LinedStatement). no_more_with members x z.statement) is ∙ found.1 y) ∙ fails)

pub a_repeat : (members : List Member) (before : List LinedStatement) (x : Statement) (i : ℕ) (y : LinedStatement) → i < length before
    → y ≡ get_or before i y → no_more_with members x y.statement ≡ true → IsRepeatAt members before x i
a_repeat members before x i y below is holds = (below, λ z. ap (λ (v : LinedStatement). no_more_with members x v.statement) (get_or_default before i z y below ∙ sym is) ∙ holds)

-- ---- results

pub when_none : {X : Type 0} (A : Type 0) (B : X → Type 0) (o : Option X) → o ≡ None → MatchOption o A B → A
when_none {X} A B o is h = subst (λ (p : Option X). MatchOption p A B) is h

pub when_some : {X : Type 0} (A : Type 0) (B : X → Type 0) (o : Option X) (x : X) → o ≡ Some x → MatchOption o A B → B x
when_some {X} A B o x is h = subst (λ (p : Option X). MatchOption p A B) is h

pub on_ok : {X E : Type 0} (A B : Type 0) (r : Result X E) → (A → B) → OnOk r A → OnOk r B
on_ok A B (Ok x) f h = f h
on_ok A B (Err e) f h = tt

pub always : {X E : Type 0} (A : Type 0) (r : Result X E) → A → OnOk r A
always A (Ok x) h = h
always A (Err e) h = tt

-- there is a triple if it grants something
pub allows_is : (members : List Member) (x : Statement) (t : Option Triple) (b : Bool) → MatchOption t (grants_with members x ≡ false) (GrantsTriple members x) → b ≡ is_some t → b ≡ grants_with members x
allows_is members x None b none is = is ∙ sym none
allows_is members x (Some t) b has is = is ∙ sym (grants_some members x t has)

pub within_by : (i n : ℕ) → true ≡ nat_lt i n → i < n
within_by i n h = grind (arith, nat_tests)

pub past_by : (i n : ℕ) → false ≡ nat_lt i n → n ≤ i
past_by i n h = grind (arith, nat_tests)

pub target_is : (members : List Member) (a : Allowance) (s : ℕ) (m : Member) (r : Option ℕ) → s < length members → m ≡ get_or members s m
    → MatchOption r (list_any (λ t. reaches_by m t a) members ≡ false) (λ t. (t < length members) × (reaches_by m (member_at members t) a ≡ true))
    → MatchOption r (HasNoTarget members a s) (ReachesType members a s)
target_is members a s m None below is none = λ l. ap (λ (x : Member). list_any (λ t. reaches_by x t a) members) (at_any members s m below ∙ sym is) ∙ none
target_is members a s m (Some t) below is found = record {
  source = below;
  target = found.0;
  reaches = ap (λ (x : Member). reaches_by x (member_at members t) a) (at_any members s m below ∙ sym is) ∙ found.1;
}

pub no_target_past : (members : List Member) (a : Allowance) (s : ℕ) → length members ≤ s → HasNoTarget members a s
no_target_past members a s past below = absurd (omega (arith, past, below))

-- what a comparison of both shows
pub repeat_by : (members : List Member) (before : List LinedStatement) (x : Statement) (t : Triple) (i : ℕ) (y : LinedStatement) (g n : Bool) → GrantsTriple members x t → i < length before
    → y ≡ get_or before i y → (t.source < length members → t.target < length members → g ≡ triple_grants members y.statement t) → n ≡ no_more_with members x y.statement
    → MatchBool (g && n) (IsRepeatAt members before x i) (IsRepeatAt members before x i → ⊥)
repeat_by members before x t i y true true has below is grants more = a_repeat members before x i y below is (sym more)
repeat_by members before x t i y true false has below is grants more = not_with_less members before x i y is (sym more)
repeat_by members before x t i y false n has below is grants more = not_without_triple members before x t i y has is (sym (grants has.source has.target))
