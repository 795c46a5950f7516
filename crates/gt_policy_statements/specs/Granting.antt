-- What a statement grants to which types, by the names that denote them.
use Rattle.std.specs.Prelude.{ℕ, Bool, false, ◌&&◌, ◌||◌, not, List, Option, Some, None}
use Rattle.std.specs.List.{list_any}
use Rattle.std.specs.Str.{bytes_eq}
use Rattle.gt_types.specs.Names.{every_permission, permission_name}
use Rattle.gt_policy.specs.Granting.{lists_word, is_self}
use Rattle.gt_policy.specs.Resolving.{has_grant}
use Rattle.gt_policy.specs.declared.statements.Allowance.{Allowance}
use Rattle.gt_policy.specs.declared.statements.SetElement.{SetElement}
use Rattle.gt_policy.specs.declared.statements.SetElement.TheVariants.{With, Without, Itself}
use Rattle.gt_policy.specs.declared.statements.Statement.{Statement}
use Rattle.gt_policy.specs.declared.statements.Statement.TheVariants.{DeclareType, DeclareAttribute, GiveAttributes}
use Rattle.gt_policy.specs.declared.statements.Statement.TheVariants.{Allow}
use Rattle.gt_policy_statements.specs.declared.members.Member.{Member}

-- an item puts a type with these names into its set (SELinux policy language)
abbrev pub puts_in : List (List ℕ) → SetElement → Bool
puts_in names (With m) = list_any (λ v. bytes_eq v m.name) names
puts_in names (Without m) = false
puts_in names Itself = false

-- an item takes a type with these names out of its set (SELinux policy language)
abbrev pub takes_out : List (List ℕ) → SetElement → Bool
takes_out names (With m) = false
takes_out names (Without m) = list_any (λ v. bytes_eq v m.name) names
takes_out names Itself = false

-- a set holds a type with these names (SELinux policy language)
abbrev pub elements_hold : List (List ℕ) → List SetElement → Bool
elements_hold names items = list_any (λ i. puts_in names i) items && not (list_any (λ i. takes_out names i) items)

-- the target set holds the target, or contains `self` and the two are one (SELinux policy language: allow)
abbrev pub reaches_by : Member → Member → Allowance → Bool
reaches_by s t a = elements_hold t.names a.target || (list_any is_self a.target && bytes_eq s.name t.name)

-- the source set holds the source, and the permission of class `grant` is listed (SELinux policy language: allow)
abbrev pub gives_source : List ℕ → Member → Allowance → Bool
gives_source w s a = (has_grant a.classes && lists_word a.perms w) && elements_hold s.names a.source

-- the source is granted the permission on some of the targets (SELinux policy language: allow)
abbrev pub gives_by : List ℕ → List Member → Member → Allowance → Bool
gives_by w targets s a = gives_source w s a && list_any (λ t. reaches_by s t a) targets

-- a statement grants the permission to some of the sources on some of the targets
abbrev pub gives_some : List ℕ → List Member → List Member → Statement → Bool
gives_some w sources targets (DeclareType v ms) = false
gives_some w sources targets (DeclareAttribute v) = false
gives_some w sources targets (GiveAttributes m ms) = false
gives_some w sources targets (Allow a) = list_any (λ s. gives_by w targets s a) sources

-- some of the targets is reached, and the permission is listed or the source set holds the source
abbrev pub is_near_miss : List ℕ → List Member → Member → Allowance → Bool
is_near_miss w targets s a =
    (has_grant a.classes && (lists_word a.perms w || elements_hold s.names a.source))
    && list_any (λ t. reaches_by s t a) targets

-- a statement is a near miss for some of the sources
abbrev pub near_some : List ℕ → List Member → List Member → Statement → Bool
near_some w sources targets (DeclareType v ms) = false
near_some w sources targets (DeclareAttribute v) = false
near_some w sources targets (GiveAttributes m ms) = false
near_some w sources targets (Allow a) = list_any (λ s. is_near_miss w targets s a) sources

-- the same for a permission, or for any if there is none
abbrev pub gives_of : Option (List ℕ) → List Member → List Member → Statement → Bool
gives_of (Some w) sources targets x = gives_some w sources targets x
gives_of None sources targets x = list_any (λ p. gives_some (permission_name p) sources targets x) every_permission

abbrev pub near_of : Option (List ℕ) → List Member → List Member → Statement → Bool
near_of (Some w) sources targets x = near_some w sources targets x
near_of None sources targets x = list_any (λ p. near_some (permission_name p) sources targets x) every_permission

-- a statement grants the permission to the source on the target
abbrev pub gives_one : List ℕ → Member → Member → Statement → Bool
gives_one w s t (DeclareType v ms) = false
gives_one w s t (DeclareAttribute v) = false
gives_one w s t (GiveAttributes m ms) = false
gives_one w s t (Allow a) = gives_source w s a && reaches_by s t a

-- the statement reaches a target on which the other does not grant the permission to this source
abbrev pub exceeds_on : List ℕ → List Member → Allowance → Statement → Member → Bool
exceeds_on w targets a other s = list_any (λ t. reaches_by s t a && not (gives_one w s t other)) targets

-- a statement grants the permission to some type on some type on which the other does not
abbrev pub exceeds_some : List ℕ → List Member → Statement → Statement → Bool
exceeds_some w members (DeclareType v ms) other = false
exceeds_some w members (DeclareAttribute v) other = false
exceeds_some w members (GiveAttributes m ms) other = false
exceeds_some w members (Allow a) other =
    list_any (λ s. gives_source w s a && exceeds_on w members a other s) members
