-- Which access may bring bytes of one type to another, as a question that code can ask.
use Rattle.std.specs.Prelude.{◌≡◌, ◌⊎◌, ◌<◌, ◌==◌, ◌&&◌, ◌||◌, not, ℕ, Bool, true, false, List, Option, Some, None}
use Rattle.std.specs.Prelude.{if◌then◌else◌}
use Rattle.std.specs.List.{list_any}
use Rattle.gt_types.specs.Names.{copy, map_read, map_write}
use Rattle.gt_types.specs.declared.TypeId.{TypeId}
use Rattle.gt_types.specs.declared.perms.Perms.{Perms}
use Rattle.gt_flow.specs.Flow.{FlowPolicy, MayBeCopied, MayLoad, MayStore}
use Rattle.gt_flow.specs.declared.accesses.Access.{Access}
use Rattle.gt_flow.specs.declared.accesses.Access.TheVariants as accesses

-- the policy allows nothing to a type past these, nor on one
abbrev pub AreAmong : ℕ → FlowPolicy → Type 0
AreAmong count may = (s t : TypeId) (perm : Perms) → may s t perm ≡ true → (s.0 < count) × (t.0 < count)

-- one access may bring bytes of a domain of type x to a domain of type y; a store by a trusted type is left out
abbrev pub MayFlowPast : FlowPolicy → (TypeId → Bool) → TypeId → TypeId → Type 0
MayFlowPast may trusted x y =
    (x ≡ y) ⊎ MayLoad may x y ⊎ ((trusted x ≡ false) × MayStore may x y) ⊎ MayBeCopied may x y

abbrev pub may_load : FlowPolicy → TypeId → TypeId → Bool
may_load may x y = may y x map_read

abbrev pub may_copy : FlowPolicy → TypeId → TypeId → Bool
may_copy may x y = may x y copy

abbrev pub may_store : FlowPolicy → TypeId → TypeId → Bool
may_store may x y = may x y map_read && may x y map_write

-- one of these accesses may bring bytes of type x to type y
abbrev pub flows : FlowPolicy → Bool → TypeId → TypeId → Bool
flows may is_trusted x y = may_load may x y || may_copy may x y || (not is_trusted && may_store may x y)

-- the first of these accesses that may
abbrev pub allowed_access : FlowPolicy → Bool → TypeId → TypeId → Option Access
allowed_access may is_trusted x y =
    if may_load may x y then Some accesses.Load
    else if may_copy may x y then Some accesses.Copy
    else if not is_trusted && may_store may x y then Some accesses.Store
    else None

-- the type is one of these
abbrev pub is_among : List TypeId → TypeId → Bool
is_among ids x = list_any (λ t. t.0 == x.0) ids
