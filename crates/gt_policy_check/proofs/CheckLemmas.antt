-- Which statements allow nothing.
use Rattle.std.proofs.Common.{◌≡◌, ℕ, Bool, true, false, ◌&&◌, not, List, [], ◌∷◌, ◌++◌, map, None, refl, sym, ap, ap₂}
use Rattle.std.proofs.Common.{◌∙◌}
use Rattle.std.specs.Prelude.{if◌then◌else◌, filter, is_some, Some, Err, All}
use Rattle.std.specs.List.{flat_map, list_any}
use Rattle.gt_types.specs.Names.{every_permission, permission_name}
use Rattle.gt_policy.specs.Granting.{statement_grants}
use Rattle.gt_policy.specs.Shown.{fault_shown}
use Rattle.gt_policy.specs.Whole.{ReadsAs}
use Rattle.gt_policy.specs.declared.fault.TokenFault.{TokenFault}
use Rattle.gt_policy.specs.declared.parse.PolicyFaultKind.{PolicyFaultKind}
use Rattle.gt_policy.specs.declared.parse.PolicyFaultKind.TheVariants as policy_fault_kinds
use Rattle.gt_policy.specs.Lined.{statements_in}
use Rattle.gt_policy.specs.Resolving.{has_grant}
use Rattle.gt_policy.specs.Spelling.{types_in}
use Rattle.gt_policy.specs.declared.lined.LinedStatement.{LinedStatement}
use Rattle.gt_policy.specs.declared.statements.Statement.{Statement}
use Rattle.gt_policy.specs.declared.statements.Statement.TheVariants.{DeclareType, DeclareAttribute, GiveAttributes}
use Rattle.gt_policy.specs.declared.statements.Statement.TheVariants.{Allow}
use Rattle.gt_findings.specs.declared.findings.Finding.{Finding}
use Rattle.gt_policy_check.specs.Check.{is_useless_with, allows_nothing, useless_line}
use Rattle.gt_findings.specs.Findings.{HasColumn, error_lines}
use Rattle.gt_policy_check.specs.Check.{HasFaultColumn, Judges, faulty}
use Rattle.gt_policy_check.specs.Check.{grants_something, grants_with, grants_no_more, no_more_with, repeats, repeats_with}
use Rattle.gt_policy_check.specs.Check.{repeated_with, lines_repeated}
use Rattle.gt_policy_statements.specs.Granting.{exceeds_on, exceeds_some, gives_one, gives_some, gives_source, reaches_by}
use Rattle.gt_policy_statements.specs.Members.{membership_of, members_of}
use Rattle.gt_policy_statements.specs.Why.{is_meant}
use Rattle.gt_policy_statements.specs.Why.{types_asked}
use Rattle.gt_policy_statements.proofs.GrantLemmas.{any_and, any_asked, any_never, any_same, by_names, filter_all}
use Rattle.gt_policy_statements.proofs.GrantLemmas.{gives_named}

-- a statement grants a permission to some type on some type
gives_any_type : (xs : List LinedStatement) (w : List ℕ) (x : Statement) → gives_some w (members_of xs None) (members_of xs None) x
    ≡ list_any (λ s. list_any (λ t. statement_grants (statements_in xs) s t w x) (types_in (statements_in xs))) (types_in (statements_in xs))
gives_any_type xs w x =
    gives_named xs w None None x
    ∙ ap (λ (ts : List (List ℕ)). list_any (λ s. list_any (λ t. statement_grants (statements_in xs) s t w x) ts) ts) (filter_all (statements_in xs) (types_in (statements_in xs)))

pub useless_same : (xs : List LinedStatement) (x : Statement) → is_useless_with (members_of xs None) x ≡ allows_nothing xs x
useless_same xs (DeclareType w ms) = refl
useless_same xs (DeclareAttribute w) = refl
useless_same xs (GiveAttributes m ms) = refl
useless_same xs (Allow a) =
    ap (λ (b : Bool). has_grant a.classes && not b)
    (any_same (λ p. gives_some (permission_name p) (members_of xs None) (members_of xs None) (Allow a))
    (λ p. list_any (λ s. list_any (λ t. statement_grants (statements_in xs) s t (permission_name p) (Allow a)) (types_in (statements_in xs))) (types_in (statements_in xs)))
    (λ p. gives_any_type xs (permission_name p) (Allow a)) every_permission)

-- their lines
one_line : (x : LinedStatement) (b : Bool) (xs : List LinedStatement) → (if b then x.line ∷ [] else []) ++ map (λ y. y.line) xs ≡ map (λ y. y.line) (if b then x ∷ xs else xs)
one_line x true xs = refl
one_line x false xs = refl

pub useless_lines : (all xs : List LinedStatement) → flat_map (λ x. useless_line (members_of all None) x) xs ≡ map (λ x. x.line) (filter (λ x. allows_nothing all x.statement) xs)
useless_lines all [] = refl
useless_lines all (x ∷ xs) =
    ap (λ (l : List ℕ). useless_line (members_of all None) x ++ l) (useless_lines all xs)
    ∙ ap (λ (b : Bool). (if b then x.line ∷ [] else []) ++ map (λ y. y.line) (filter (λ y. allows_nothing all y.statement) xs)) (useless_same all x.statement)
    ∙ one_line x (allows_nothing all x.statement) (filter (λ y. allows_nothing all y.statement) xs)

-- ---- statements that repeat another

pub and_assoc : (a b c : Bool) → (a && (b && c)) ≡ ((a && b) && c)
and_assoc true b c = refl
and_assoc false b c = refl

one_by_names : (xs : List LinedStatement) (w s t : List ℕ) (y : Statement) → gives_one w (membership_of xs s) (membership_of xs t) y ≡ statement_grants (statements_in xs) s t w y
one_by_names xs w s t (DeclareType v ms) = refl
one_by_names xs w s t (DeclareAttribute v) = refl
one_by_names xs w s t (GiveAttributes m ms) = refl
one_by_names xs w s t (Allow b) = by_names xs w s t b

module _ (xs : List LinedStatement) (w : List ℕ) (y : Statement) where
  abbrev types : List (List ℕ)
  types = types_asked xs None

  abbrev Exceeds : Statement → List ℕ → List ℕ → Bool
  Exceeds x s t = statement_grants (statements_in xs) s t w x && not (statement_grants (statements_in xs) s t w y)

  never_exceeds : (ts us : List (List ℕ)) → false ≡ list_any (λ s. list_any (λ t. false) us) ts
  never_exceeds ts us = sym (any_never (λ s. list_any (λ t. false) us) (λ s. any_never (λ t. false) (λ t. refl) us) ts)

  exceeds_asked : (x : Statement) → exceeds_some w (members_of xs None) x y ≡ list_any (λ s. list_any (λ t. Exceeds x s t) types) types
  exceeds_asked (DeclareType v ms) = never_exceeds types types
  exceeds_asked (DeclareAttribute v) = never_exceeds types types
  exceeds_asked (GiveAttributes m ms) = never_exceeds types types
  exceeds_asked (Allow a) =
      any_asked xs None (λ s. gives_source w s a && exceeds_on w (members_of xs None) a y s)
      ∙ any_same (λ s. gives_source w (membership_of xs s) a && exceeds_on w (members_of xs None) a y (membership_of xs s)) (λ s. list_any (λ t. Exceeds (Allow a) s t) types)
      (λ s. ap (λ (v : Bool). gives_source w (membership_of xs s) a && v) (any_asked xs None (λ t. reaches_by (membership_of xs s) t a && not (gives_one w (membership_of xs s) t y)))
      ∙ sym (any_and (gives_source w (membership_of xs s) a) (λ t. reaches_by (membership_of xs s) (membership_of xs t) a && not (gives_one w (membership_of xs s) (membership_of xs t) y)) types)
      ∙ any_same (λ t. gives_source w (membership_of xs s) a && (reaches_by (membership_of xs s) (membership_of xs t) a && not (gives_one w (membership_of xs s) (membership_of xs t) y))) (λ t. Exceeds (Allow a) s t)
      (λ t. and_assoc (gives_source w (membership_of xs s) a) (reaches_by (membership_of xs s) (membership_of xs t) a) (not (gives_one w (membership_of xs s) (membership_of xs t) y))
      ∙ ap₂ (λ (u v : Bool). u && not v) (by_names xs w s t a) (one_by_names xs w s t y)) types)
      types

  exceeds_named : (x : Statement) → exceeds_some w (members_of xs None) x y
      ≡ list_any (λ s. list_any (λ t. Exceeds x s t) (types_in (statements_in xs))) (types_in (statements_in xs))
  exceeds_named x = exceeds_asked x ∙ ap (λ (ts : List (List ℕ)). list_any (λ s. list_any (λ t. Exceeds x s t) ts) ts) (filter_all (statements_in xs) (types_in (statements_in xs)))

no_more_same : (xs : List LinedStatement) (x y : Statement) → no_more_with (members_of xs None) x y ≡ grants_no_more xs x y
no_more_same xs x y =
    ap not (any_same (λ p. exceeds_some (permission_name p) (members_of xs None) x y)
    (λ p. list_any (λ s. list_any (λ t. statement_grants (statements_in xs) s t (permission_name p) x && not (statement_grants (statements_in xs) s t (permission_name p) y)) (types_in (statements_in xs))) (types_in (statements_in xs)))
    (λ p. exceeds_named xs (permission_name p) y x) every_permission)

grants_same : (xs : List LinedStatement) (x : Statement) → grants_with (members_of xs None) x ≡ grants_something xs x
grants_same xs x =
    any_same (λ p. gives_some (permission_name p) (members_of xs None) (members_of xs None) x)
    (λ p. list_any (λ s. list_any (λ t. statement_grants (statements_in xs) s t (permission_name p) x) (types_in (statements_in xs))) (types_in (statements_in xs)))
    (λ p. gives_any_type xs (permission_name p) x) every_permission

repeats_same : (xs before : List LinedStatement) (x : Statement) → repeats_with (members_of xs None) before x ≡ repeats xs before x
repeats_same xs before x =
    ap₂ (λ (a b : Bool). a && b) (grants_same xs x)
    (any_same (λ y. no_more_with (members_of xs None) x y.statement) (λ y. grants_no_more xs x y.statement) (λ y. no_more_same xs x y.statement) before)

pub repeated_same : (xs before ys : List LinedStatement) → repeated_with (members_of xs None) before ys ≡ lines_repeated xs before ys
repeated_same xs before [] = refl
repeated_same xs before (y ∷ ys) =
    ap₂ (λ (b : Bool) (l : List ℕ). (if b then y.line ∷ [] else []) ++ l) (repeats_same xs before y.statement) (repeated_same xs (before ++ y ∷ []) ys)

-- a text that is not a policy
pub judged_faulty : (line : ℕ) (kind : PolicyFaultKind) (text : List ℕ) (found : List Finding) → ((f : TokenFault) → fault_shown (record { line = line; kind = kind }) ≡ Some f → ReadsAs text (Err f))
    → is_some (fault_shown (record { line = line; kind = kind })) ≡ true → error_lines found ≡ line ∷ []
    → ((f : TokenFault) → fault_shown (record { line = line; kind = kind }) ≡ Some f → HasFaultColumn text f found) → All (HasColumn text) found → Judges text found
judged_faulty line policy_fault_kinds.Memory text found says shown lines column columns = absurd (cc)
judged_faulty line policy_fault_kinds.Syntax text found says shown lines column columns = faulty _ found (says _ refl) lines (column _ refl) columns
judged_faulty line (policy_fault_kinds.Unknown name) text found says shown lines column columns = faulty _ found (says _ refl) lines (column _ refl) columns
judged_faulty line (policy_fault_kinds.Twice name) text found says shown lines column columns = faulty _ found (says _ refl) lines (column _ refl) columns
judged_faulty line (policy_fault_kinds.Permission name) text found says shown lines column columns = faulty _ found (says _ refl) lines (column _ refl) columns
judged_faulty line (policy_fault_kinds.Outside word) text found says shown lines column columns = faulty _ found (says _ refl) lines (column _ refl) columns
judged_faulty line policy_fault_kinds.Limit text found says shown lines column columns = faulty _ found (says _ refl) lines (column _ refl) columns

-- a fault shows something, unless an allocation failed
pub is_shown : (line : ℕ) (kind : PolicyFaultKind) → (kind ≡ policy_fault_kinds.Memory → ⊥) → is_some (fault_shown (record { line = line; kind = kind })) ≡ true
is_shown line policy_fault_kinds.Memory other = absurd (other refl)
is_shown line policy_fault_kinds.Syntax other = refl
is_shown line (policy_fault_kinds.Unknown name) other = refl
is_shown line (policy_fault_kinds.Twice name) other = refl
is_shown line (policy_fault_kinds.Permission name) other = refl
is_shown line (policy_fault_kinds.Outside word) other = refl
is_shown line policy_fault_kinds.Limit other = refl
