-- Allow statements as text, and which types their sets hold.
use Rattle.std.specs.Prelude.{ℕ, Bool, true, false, ◌==◌, ◌&&◌, List, [], ◌++◌, codes, length, Option, Some, None}
use Rattle.std.specs.Prelude.{if◌then◌else◌, find}
use Rattle.std.specs.Fmt.{decimal}
use Rattle.std.specs.List.{flat_map, list_any, list_all}
use Rattle.std.specs.Str.{bytes_eq}
use Rattle.gt_policy.specs.Granting.{is_self}
use Rattle.gt_policy.specs.declared.lined.LinedStatement.{LinedStatement}
use Rattle.gt_policy.specs.declared.statements.Allowance.{Allowance}
use Rattle.gt_policy.specs.declared.statements.Permissions.{Permissions}
use Rattle.gt_policy.specs.declared.statements.Permissions.TheVariants.{Every, Named}
use Rattle.gt_policy.specs.declared.statements.SetElement.{SetElement}
use Rattle.gt_policy.specs.declared.statements.SetElement.TheVariants.{With, Without, Itself}
use Rattle.gt_policy.specs.declared.statements.Statement.{Statement}
use Rattle.gt_policy.specs.declared.statements.Statement.TheVariants.{DeclareType, DeclareAttribute, GiveAttributes}
use Rattle.gt_policy.specs.declared.statements.Statement.TheVariants.{Allow}
use Rattle.gt_policy_statements.specs.declared.members.Member.{Member}
use Rattle.gt_policy_statements.specs.Granting.{puts_in, elements_hold}

-- an item of a set (SELinux policy language)
abbrev pub item_text : SetElement → List ℕ
item_text (With m) = m.name
item_text (Without m) = codes "-" ++ m.name
item_text Itself = codes "self"

-- an item without `-`
abbrev pub is_kept : SetElement → Bool
is_kept (With m) = true
is_kept (Without m) = false
is_kept Itself = true

-- one name, or `self`, which needs no braces (SELinux policy language)
abbrev pub is_plain : List SetElement → Bool
is_plain items = (length items == 1) && list_all is_kept items

-- items, each with a space before it
abbrev pub items_text : List SetElement → List ℕ
items_text items = flat_map (λ i. codes " " ++ item_text i) items

-- a set, with a space before it (SELinux policy language)
unfoldable pub set_text : List SetElement → List ℕ
set_text items = if is_plain items then items_text items else codes " {" ++ items_text items ++ codes " }"

-- words, each with a text before it
abbrev pub words_text : List ℕ → List (List ℕ) → List ℕ
words_text before words = flat_map (λ w. before ++ w) words

-- a word, or several in braces (SELinux policy language)
unfoldable pub list_text : List (List ℕ) → List ℕ
list_text words = if length words == 1 then words_text (codes "") words
    else codes "{" ++ words_text (codes " ") words ++ codes " }"

-- permissions, with a space before them (SELinux policy language)
abbrev pub perms_text : Permissions → List ℕ
perms_text Every = codes " *"
perms_text (Named words) = codes " " ++ list_text words

-- an allow statement on one line (SELinux policy language)
unfoldable pub allow_text : Allowance → List ℕ
allow_text a = codes "allow" ++ set_text a.source ++ set_text a.target ++ codes ":" ++ list_text a.classes
    ++ perms_text a.perms ++ codes ";"

-- an item is exactly this type
abbrev pub names_type : List ℕ → SetElement → Bool
names_type t (With m) = bytes_eq m.name t
names_type t (Without m) = false
names_type t Itself = false

-- ` (by NAME)` for the attribute that an item names
abbrev pub item_by_text : SetElement → List ℕ
item_by_text (With m) = codes " (by " ++ m.name ++ codes ")"
item_by_text (Without m) = []
item_by_text Itself = []

-- the same, if there is an item
abbrev pub by_text : Option SetElement → List ℕ
by_text (Some i) = item_by_text i
by_text None = []

-- the attribute through which a set holds a type: the first that it has; nothing if the set names the type
abbrev pub way_text : Member → List SetElement → List ℕ
way_text m items = if list_any (λ i. names_type m.name i) items then []
    else by_text (find (λ i. puts_in m.names i) items)

-- a type that the set holds, and through which attribute
unfoldable pub held_text : List SetElement → Member → List ℕ
held_text items m = if elements_hold m.names items then codes " " ++ m.name ++ way_text m items else []

-- those of the types that the set holds
abbrev pub all_held_text : List SetElement → List Member → List ℕ
all_held_text items members = flat_map (λ m. held_text items m) members

-- ` self` for a set that contains it
abbrev pub self_text : List SetElement → List ℕ
self_text items = if list_any is_self items then codes " self" else []

-- the sources and targets that the sets of a statement hold
unfoldable pub note_text : List Member → List Member → Allowance → List ℕ
note_text sources targets a = codes "  #" ++ all_held_text a.source sources ++ codes " ->"
    ++ all_held_text a.target targets ++ self_text a.target ++ codes "\n"

-- `FILE:LINE: `
unfoldable pub place_text : List ℕ → ℕ → List ℕ
place_text file line = file ++ codes ":" ++ decimal line ++ codes ": "

-- the line of an allow statement
abbrev pub report_entry : List ℕ → ℕ → List Member → List Member → Statement → List ℕ
report_entry file line sources targets (DeclareType w ms) = []
report_entry file line sources targets (DeclareAttribute w) = []
report_entry file line sources targets (GiveAttributes m ms) = []
report_entry file line sources targets (Allow a) = place_text file line ++ allow_text a ++ note_text sources targets a

-- the same for a statement with its line
abbrev pub report_entry_text : List ℕ → List Member → List Member → LinedStatement → List ℕ
report_entry_text file sources targets x = report_entry file x.line sources targets x.statement
