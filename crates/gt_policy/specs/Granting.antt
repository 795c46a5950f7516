-- What the statements of a text grant, by the names in them.
use Rattle.std.specs.Prelude.{ℕ, Bool, true, false, ◌&&◌, ◌||◌, not, List}
use Rattle.std.specs.List.{list_any}
use Rattle.std.specs.Str.{bytes_eq}
use Rattle.gt_policy.specs.declared.statements.Mention.{Mention}
use Rattle.gt_policy.specs.declared.statements.SetElement.{SetElement}
use Rattle.gt_policy.specs.declared.statements.SetElement.TheVariants.{With, Without, Itself}
use Rattle.gt_policy.specs.declared.statements.Permissions.{Permissions}
use Rattle.gt_policy.specs.declared.statements.Permissions.TheVariants.{Every, Named}
use Rattle.gt_policy.specs.declared.statements.Statement.{Statement}
use Rattle.gt_policy.specs.declared.statements.Statement.TheVariants.{DeclareType, DeclareAttribute, GiveAttributes}
use Rattle.gt_policy.specs.declared.statements.Statement.TheVariants.{Allow}
use Rattle.gt_policy.specs.Resolving.{has_grant}

-- a statement lists the permission, or `*` (SELinux policy language: allow)
abbrev pub lists_word : Permissions → List ℕ → Bool
lists_word Every w = true
lists_word (Named ws) w = list_any (λ v. bytes_eq v w) ws

-- some of these mentions has this name
abbrev pub mentions : List Mention → List ℕ → Bool
mentions ms a = list_any (λ m. bytes_eq m.name a) ms

-- a statement gives the type t the attribute a (SELinux policy language: type, typeattribute)
abbrev pub gives : Statement → List ℕ → List ℕ → Bool
gives (DeclareType w ms) a t = bytes_eq w t && mentions ms a
gives (DeclareAttribute w) a t = false
gives (GiveAttributes m ms) a t = bytes_eq m.name t && mentions ms a
gives (Allow r) a t = false

-- w is the name of the type t, or of an attribute that some statement gives it (SELinux policy language)
abbrev pub is_named : List Statement → List ℕ → List ℕ → Bool
is_named ss w t = bytes_eq w t || list_any (λ s. gives s w t) ss

-- an item of a set names the type, or an attribute that it has (SELinux policy language)
abbrev pub names_with : List Statement → SetElement → List ℕ → Bool
names_with ss (With m) t = is_named ss m.name t
names_with ss (Without m) t = false
names_with ss Itself t = false

-- after `-` an item of a set names the type, or an attribute that it has (SELinux policy language)
abbrev pub names_without : List Statement → SetElement → List ℕ → Bool
names_without ss (With m) t = false
names_without ss (Without m) t = is_named ss m.name t
names_without ss Itself t = false

-- A set holds the types named in it and those of the attributes named in it, less those
-- named after `-`, whatever the order. (SELinux policy language)
abbrev pub set_holds : List Statement → List SetElement → List ℕ → Bool
set_holds ss items t = list_any (λ i. names_with ss i t) items && not (list_any (λ i. names_without ss i t) items)

-- an item is `self` (SELinux policy language)
abbrev pub is_self : SetElement → Bool
is_self (With m) = false
is_self (Without m) = false
is_self Itself = true

-- An allow statement whose classes include `grant` lists the permission, its source set holds the source, and
-- its target set holds the target, or contains `self` and the two are one. (SELinux policy language: allow)
abbrev pub statement_grants : List Statement → List ℕ → List ℕ → List ℕ → Statement → Bool
statement_grants ss s t w (DeclareType v ms) = false
statement_grants ss s t w (DeclareAttribute v) = false
statement_grants ss s t w (GiveAttributes m ms) = false
statement_grants ss s t w (Allow r) =
    ((has_grant r.classes && lists_word r.perms w) && set_holds ss r.source s)
    && (set_holds ss r.target t || (list_any is_self r.target && bytes_eq s t))

-- some statement grants it (SELinux policy language)
abbrev pub is_granted : List Statement → List ℕ → List ℕ → List ℕ → Bool
is_granted ss s t w = list_any (λ x. statement_grants ss s t w x) ss
