-- Which earlier statements may grant all that a statement does.
use Rattle.std.specs.Prelude.{◌≡◌, ◌⊎◌, ℕ, ◌<◌, Bool, true, false, List, [], ◌∷◌, length, slice_index_or, zero}
use Rattle.std.specs.Prelude.{suc, is_some, All, Contains, IfSome}
use Rattle.std.specs.List.{list_any}
use Rattle.std.specs.Global.{Vec}
use Rattle.gt_types.specs.Names.{every_permission, permission_name}
use Rattle.gt_policy.specs.declared.lined.LinedStatement.{LinedStatement}
use Rattle.gt_policy.specs.declared.statements.Allowance.{Allowance}
use Rattle.gt_policy.specs.declared.statements.SetElement.{SetElement}
use Rattle.gt_policy.specs.declared.statements.Statement.{Statement}
use Rattle.gt_policy.specs.declared.statements.Statement.TheVariants.{Allow}
use Rattle.gt_policy_check.specs.Check.{grants_with, no_more_with, repeats_with}
use Rattle.gt_policy_statements.specs.Granting.{elements_hold, gives_one, reaches_by}
use Rattle.gt_policy_check.specs.declared.earlier.EarlierStatements.{EarlierStatements}
use Rattle.gt_policy_check.specs.declared.earlier.Pair.{Pair}
use Rattle.gt_policy_check.specs.declared.earlier.Triple.{Triple}
use Rattle.gt_policy_check.specs.declared.judging.Stated.{Stated}
use Rattle.gt_policy_statements.specs.declared.members.Member.{Member}

-- the type at this index
abbrev pub member_at : List Member → ℕ → Member
member_at members i = slice_index_or members i (record { name = []; names = [] })

-- these are the indices of the types that a set holds
pub record AreHeld (members : List Member) (items : List SetElement) (held : List ℕ) : Type 0 where
  pub each : All (λ s. (s < length members) × (elements_hold (member_at members s).names items ≡ true)) held
  pub every : (s : ℕ) → s < length members → elements_hold (member_at members s).names items ≡ true → Contains held s

-- these are the indices of the types in the source set of a statement
abbrev pub AreSources : List Member → Statement → List ℕ → Type 0
AreSources members (Allow a) sources = AreHeld members a.source sources
AreSources members x sources = sources ≡ []

-- the statement reaches no type from this one
abbrev pub HasNoTarget : List Member → Allowance → ℕ → Type 0
HasNoTarget members a s = s < length members → list_any (λ t. reaches_by (member_at members s) t a) members ≡ false

-- the statement reaches the second type from the first
pub record ReachesType (members : List Member) (a : Allowance) (s t : ℕ) : Type 0 where
  pub source : s < length members
  pub target : t < length members
  pub reaches : reaches_by (member_at members s) (member_at members t) a ≡ true

-- the statement reaches the second type from the first, which is one of these
pub record IsPair (members : List Member) (a : Allowance) (sources : List ℕ) (p : Pair) : Type 0 where
  pub among : Contains sources p.source
  pub reached : ReachesType members a p.source p.target

-- a statement grants a triple
abbrev pub triple_grants : List Member → Statement → Triple → Bool
triple_grants members x t =
    gives_one (permission_name t.perm) (member_at members t.source) (member_at members t.target) x

-- a statement grants a triple, whose indices are those of types
pub record GrantsTriple (members : List Member) (x : Statement) (t : Triple) : Type 0 where
  pub perm : Contains every_permission t.perm
  pub source : t.source < length members
  pub target : t.target < length members
  pub grants : triple_grants members x t ≡ true

-- the source set of a statement holds this type
abbrev pub has_source : Member → Statement → Bool
has_source m (Allow a) = elements_hold m.names a.source
has_source m x = false

-- the statement at this index grants all that another does
abbrev pub IsRepeatAt : List Member → List LinedStatement → Statement → ℕ → Type 0
IsRepeatAt members before x i = (i < length before)
    × ((y : LinedStatement) → no_more_with members x (slice_index_or before i y).statement ≡ true)

-- the list at this index; none past the last
abbrev pub list_at : List (Vec ℕ) → ℕ → List ℕ
list_at [] i = []
list_at (v ∷ vs) zero = v.items
list_at (v ∷ vs) (suc i) = list_at vs i

-- each list has what it had
abbrev pub KeepsLists : List (Vec ℕ) → List (Vec ℕ) → Type 0
KeepsLists old new =
    (length new ≡ length old) × ((s i : ℕ) → Contains (list_at old s) i → Contains (list_at new s) i)

-- a number was added to one of the lists
abbrev pub AddsAt : List (Vec ℕ) → ℕ → ℕ → List (Vec ℕ) → Type 0
AddsAt old place number new =
    KeepsLists old new × (place < length old → Contains (list_at new place) number)

-- a number was added to each of these lists
abbrev pub AddsAtAll : List (Vec ℕ) → List ℕ → ℕ → List (Vec ℕ) → Type 0
AddsAtAll old places number new =
    KeepsLists old new × All (λ place. place < length old → Contains (list_at new place) number) places

-- each statement is in the lists of the types in its source set, or among those that have many
pub record ListsEarlier (members : List Member) (before : List LinedStatement) (e : EarlierStatements) : Type 0 where
  pub lists : length e.of_source.items ≡ length members
  pub every : (i s : ℕ) (y : LinedStatement) → i < length before → s < length members
      → has_source (member_at members s) (slice_index_or before i y).statement ≡ true
      → Contains (list_at e.of_source.items s) i ⊎ Contains e.of_many.items i

-- what is noted of a statement is so: that it allows something, and that an earlier one allows all that it does
pub record IsStated (members : List Member) (it : Stated) : Type 0 where
  pub allows : it.allows ≡ grants_with members it.stated.now.statement
  pub repeats : is_some it.repeats ≡ repeats_with members it.before.now it.stated.now.statement
  pub within : IfSome it.repeats (λ i. i < length it.before.now)
