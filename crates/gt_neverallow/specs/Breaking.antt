-- Which allow statements of a policy break which neverallow statements.
use Rattle.std.specs.Prelude.{◌≡◌, ℕ, Bool, true, false, not, ◌&&◌, ◌||◌, List, [], ◌∷◌, ◌++◌, map, filter, Some, Ok}
use Rattle.std.specs.Prelude.{Err, if◌then◌else◌, codes, length, nat_lt, take, All, Contains}
use Rattle.std.specs.List.{flat_map, list_any, AllZip}
use Rattle.std.specs.Str.{bytes_eq}
use Rattle.gt_types.specs.Names.{every_permission, permission_name}
use Rattle.gt_policy.specs.Allowing.{Meaning}
use Rattle.gt_policy.specs.Granting.{is_self, lists_word, set_holds, statement_grants}
use Rattle.gt_policy.specs.Lined.{IsLined, statements_in}
use Rattle.gt_policy.specs.Resolving.{has_grant}
use Rattle.gt_policy.specs.Shown.{fault_shown, out_of_memory}
use Rattle.gt_policy.specs.Spelling.{types_in}
use Rattle.gt_policy.specs.Whole.{ReadsAs}
use Rattle.gt_policy.specs.declared.fault.TokenFault.{TokenFault}
use Rattle.gt_policy.specs.declared.lined.LinedStatement.{LinedStatement}
use Rattle.gt_policy.specs.declared.statements.Allowance.{Allowance}
use Rattle.gt_policy.specs.declared.statements.Statement.{Statement}
use Rattle.gt_policy.specs.declared.statements.Statement.TheVariants.{DeclareType, DeclareAttribute, GiveAttributes}
use Rattle.gt_policy.specs.declared.statements.Statement.TheVariants.{Allow}
use Rattle.gt_findings.specs.Findings.{HasColumn, error_lines}
use Rattle.gt_findings.specs.Findings.{class_lines}
use Rattle.gt_policy_words.specs.Words.{unknown_line}
use Rattle.gt_findings.specs.declared.findings.Finding.{Finding}
use Rattle.gt_policy_statements.specs.Granting.{elements_hold, gives_source, reaches_by}
use Rattle.gt_policy_statements.specs.declared.members.Member.{Member}
use Rattle.gt_neverallow.specs.Naming.{ReadsAsNever}
use Rattle.gt_neverallow.specs.declared.breaking.Breach.{Breach}
use Rattle.gt_neverallow.specs.declared.fault.NeverFault.{NeverFault}
use Rattle.gt_neverallow.specs.declared.fault.NeverFault.TheVariants.{ForbidsNothing, Policy, Statements}
use Rattle.gt_neverallow.specs.declared.statement.Forbidden.{Forbidden}
use Rattle.gt_neverallow.specs.declared.statement.Forbidden.TheVariants.{Flow, Grants}
use Rattle.gt_neverallow.specs.declared.statement.NeverStatement.{NeverStatement}
use Rattle.gt_neverallow.specs.declared.statement.TypeChoice.{TypeChoice}
use Rattle.gt_neverallow.specs.declared.statement.TypeChoice.TheVariants.{But, Every, Of}

-- ---- by the names in the statements

-- a choice of types has the type: every type is chosen by `*`, and by `~` each that the set does not hold (SELinux
-- policy language: neverallow)
abbrev pub is_chosen : List Statement → TypeChoice → List ℕ → Bool
is_chosen ss Every t = true
is_chosen ss (Of items) t = set_holds ss items t
is_chosen ss (But items) t = not (set_holds ss items t)

-- the choice contains `self`
abbrev pub chooses_self : TypeChoice → Bool
chooses_self Every = false
chooses_self (Of items) = list_any is_self items
chooses_self (But items) = false

-- the permission of class `grant` is listed by a neverallow statement
abbrev pub denies : Forbidden → List ℕ → Bool
denies (Grants classes perms) w = has_grant classes && lists_word perms w
denies Flow w = false

-- the classes of a neverallow statement
abbrev pub classes_in : Forbidden → List (List ℕ)
classes_in (Grants classes perms) = classes
classes_in Flow = []

-- A neverallow statement forbids exactly what an allow statement of the same form would grant: a permission of class
-- `grant` that it lists, to each source that it chooses, on each target that it chooses, and on the source itself if
-- the target contains `self`. (SELinux policy language: neverallow)
abbrev pub forbids : List Statement → List ℕ → List ℕ → List ℕ → NeverStatement → Bool
forbids ss s t w n =
    (denies n.what w && is_chosen ss n.source s)
    && (is_chosen ss n.target t || (chooses_self n.target && bytes_eq s t))

-- the statement grants some declared type a permission on some declared type that the neverallow statement forbids
abbrev pub breaks : List LinedStatement → NeverStatement → Statement → Bool
breaks xs n x = list_any
    (λ p. list_any
    (λ s. list_any
    (λ t. statement_grants (statements_in xs) s t (permission_name p) x
    && forbids (statements_in xs) s t (permission_name p) n) (types_in (statements_in xs)))
    (types_in (statements_in xs))) every_permission

-- a name in a message; of a long one the first 160 bytes, and `...`
abbrev pub short_name : List ℕ → List ℕ
short_name name = take 160 name ++ (if nat_lt 160 (length name) then codes "..." else [])

-- the names in the example of a breach
abbrev pub example_text : List ℕ → List ℕ → List ℕ → List ℕ
example_text source permission target = short_name source ++ codes " " ++ permission ++ codes " " ++ short_name target

-- the text is an example: it names a declared source, a permission and a declared target, of which the statement grants
-- what the neverallow statement forbids
abbrev pub is_example : List LinedStatement → NeverStatement → Statement → List ℕ → Bool
is_example xs n x text = list_any
    (λ p. list_any
    (λ s. list_any
    (λ t. (statement_grants (statements_in xs) s t (permission_name p) x
    && forbids (statements_in xs) s t (permission_name p) n)
    && bytes_eq text (example_text s (permission_name p) t)) (types_in (statements_in xs)))
    (types_in (statements_in xs))) every_permission

-- each statement of the policy with each neverallow statement that it breaks, in the order of the policy
abbrev pub broken : List LinedStatement → List NeverStatement → List (LinedStatement × NeverStatement)
broken xs ns = flat_map (λ x. map (λ n. (x, n)) (filter (λ n. breaks xs n x.statement) ns)) xs

-- the breach has the lines of these two statements, and an example
abbrev pub IsBreach : List LinedStatement → LinedStatement × NeverStatement → Breach → Type 0
IsBreach xs p b =
    (b.allowed ≡ p.0.line) × (b.forbidden ≡ p.1.line) × (is_example xs p.1 p.0.statement b.example.items ≡ true)

-- there is one breach for each statement that breaks a neverallow statement, and for each one that it breaks
abbrev pub AreBroken : List LinedStatement → List NeverStatement → List Breach → Type 0
AreBroken xs ns found = AllZip (IsBreach xs) (broken xs ns) found

-- The findings of classes are at the lines of the statements with a class that Xen's FLASK policy does not have, once
-- for each. No finding is an error, and each has the column of its word in the text.
abbrev pub AreUnknown : List ℕ → List NeverStatement → List Finding → Type 0
AreUnknown text ns found =
    (class_lines found ≡ flat_map (λ n. flat_map (unknown_line n.line) (classes_in n.what)) ns) × (error_lines found ≡ [])
    × All (HasColumn text) found

-- some permission of class `grant` is forbidden, or flows are
abbrev pub denies_some : Forbidden → Bool
denies_some (Grants classes perms) =
    has_grant classes && list_any (λ p. lists_word perms (permission_name p)) every_permission
denies_some Flow = true

-- the statement forbids some permission of class `grant`, or flows
abbrev pub forbids_some : NeverStatement → Bool
forbids_some n = denies_some n.what

-- the line of the first statement; 1 if there is none
abbrev pub first_line : List NeverStatement → ℕ
first_line [] = 1
first_line (n ∷ ns) = n.line

-- The statements of a policy and of a text about it, of which some forbids permissions of class `grant` or flows.
abbrev pub ReadsTexts : List ℕ → List ℕ → List LinedStatement → List NeverStatement → Type 0
ReadsTexts policy never xs ns =
    (m : Meaning) × ReadsAs policy (Ok m) × IsLined policy xs × ReadsAsNever xs never (Ok ns)
    × (list_any forbids_some ns ≡ true)

-- no statement of the text forbids permissions of class `grant` or flows, the first one is on this line, and these are
-- the findings of words that nothing knows
abbrev pub ForbidNothing : List ℕ → List ℕ → ℕ → List Finding → Type 0
ForbidNothing policy never line words =
    (m : Meaning) × (xs : List LinedStatement) × (ns : List NeverStatement) × ReadsAs policy (Ok m) × IsLined policy xs
    × ReadsAsNever xs never (Ok ns) × (list_any forbids_some ns ≡ false) × (line ≡ first_line ns)
    × AreUnknown never ns words

-- the fault of such statements of a text, or a failed allocation
abbrev pub IsNothingForbidden : List ℕ → List NeverStatement → NeverFault → Type 0
IsNothingForbidden never ns (Policy e) = ⊥
IsNothingForbidden never ns (Statements e) = e ≡ out_of_memory
IsNothingForbidden never ns (ForbidsNothing line words) = (line ≡ first_line ns) × AreUnknown never ns words.items

-- why there is no answer: the first fault of the policy, or of the text of such statements for that policy, or no
-- statement forbids permissions of class `grant` or flows; a fault that shows nothing is a failed allocation
abbrev pub IsNeverFault : List ℕ → List ℕ → NeverFault → Type 0
IsNeverFault policy never (Policy e) = (f : TokenFault) → fault_shown e ≡ Some f → ReadsAs policy (Err f)
IsNeverFault policy never (Statements e) =
    (m : Meaning) × (xs : List LinedStatement) × ReadsAs policy (Ok m) × IsLined policy xs
    × ((f : TokenFault) → fault_shown e ≡ Some f → ReadsAsNever xs never (Err f))
IsNeverFault policy never (ForbidsNothing line words) = ForbidNothing policy never line words.items

-- ---- by types with the names that denote them

-- the choice has a type, by the names that denote it: its own, and those of its attributes
abbrev pub chosen_by : TypeChoice → List (List ℕ) → Bool
chosen_by Every names = true
chosen_by (Of items) names = elements_hold names items
chosen_by (But items) names = not (elements_hold names items)

abbrev pub forbids_source : List ℕ → Member → NeverStatement → Bool
forbids_source w s n = denies n.what w && chosen_by n.source s.names

abbrev pub forbids_target : Member → Member → NeverStatement → Bool
forbids_target s t n = chosen_by n.target t.names || (chooses_self n.target && bytes_eq s.name t.name)

-- the statement reaches a target that is forbidden to the source
abbrev pub breaks_on : List Member → NeverStatement → Allowance → Member → Bool
breaks_on targets n a s = list_any (λ t. reaches_by s t a && forbids_target s t n) targets

-- the statement grants the permission to the source on a target on which it is forbidden
abbrev pub breaks_by : List ℕ → List Member → NeverStatement → Allowance → Member → Bool
breaks_by w members n a s = (gives_source w s a && forbids_source w s n) && breaks_on members n a s

abbrev pub breaks_some : List ℕ → List Member → NeverStatement → Statement → Bool
breaks_some w members n (DeclareType v ms) = false
breaks_some w members n (DeclareAttribute v) = false
breaks_some w members n (GiveAttributes m ms) = false
breaks_some w members n (Allow a) = list_any (λ s. breaks_by w members n a s) members

abbrev pub breaks_with : List Member → NeverStatement → Statement → Bool
breaks_with members n x = list_any (λ p. breaks_some (permission_name p) members n x) every_permission

-- a target on which the statement grants the source the permission though it is forbidden
abbrev pub IsBrokenOn : List ℕ → List Member → NeverStatement → Allowance → Member → Member → Type 0
IsBrokenOn w members n a s t =
    Contains members t × ((gives_source w s a && forbids_source w s n) ≡ true)
    × ((reaches_by s t a && forbids_target s t n) ≡ true)

-- the text is an example for the source and the permission
abbrev pub shows_by : List ℕ → List ℕ → List Member → NeverStatement → Allowance → Member → Bool
shows_by text w members n a s =
    (gives_source w s a && forbids_source w s n)
    && list_any (λ t. (reaches_by s t a && forbids_target s t n) && bytes_eq text (example_text s.name w t.name)) members

abbrev pub shows_some : List ℕ → List ℕ → List Member → NeverStatement → Statement → Bool
shows_some text w members n (DeclareType v ms) = false
shows_some text w members n (DeclareAttribute v) = false
shows_some text w members n (GiveAttributes m ms) = false
shows_some text w members n (Allow a) = list_any (λ s. shows_by text w members n a s) members

abbrev pub shows_with : List ℕ → List Member → NeverStatement → Statement → Bool
shows_with text members n x = list_any (λ p. shows_some text (permission_name p) members n x) every_permission

-- the statement with each neverallow statement that it breaks
abbrev pub pairs_if : Bool → LinedStatement → NeverStatement → List (LinedStatement × NeverStatement)
pairs_if b x n = if b then (x, n) ∷ [] else []

abbrev pub broken_by : List Member → List NeverStatement → LinedStatement → List (LinedStatement × NeverStatement)
broken_by members ns x = flat_map (λ n. pairs_if (breaks_with members n x.statement) x n) ns

-- the breach has the lines of these two statements, and an example
abbrev pub BreachIsShown : List Member → LinedStatement × NeverStatement → Breach → Type 0
BreachIsShown members p b =
    (b.allowed ≡ p.0.line) × (b.forbidden ≡ p.1.line) × (shows_with b.example.items members p.1 p.0.statement ≡ true)

-- a breach is added for each of these pairs
abbrev pub AddsBreaches : List Member → List (LinedStatement × NeverStatement) → List Breach → List Breach → Type 0
AddsBreaches members pairs old new = (more : List Breach) × (new ≡ old ++ more)
    × AllZip (BreachIsShown members) pairs more
