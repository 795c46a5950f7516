-- What the code keeps of a policy, and what that allows.
use Rattle.std.specs.Prelude.{◌≡◌, ℕ, ◌<◌, ◌==◌, ◌&&◌, ◌||◌, Bool, true, List}
use Rattle.std.specs.List.{list_any}
use Rattle.gt_types.specs.declared.perms.Perms.{Perms}
use Rattle.gt_types.specs.Names.{is_permission}
use Rattle.gt_policy.specs.declared.rules.AllowRule.{AllowRule}
use Rattle.gt_policy.specs.TypeSets.{holds}
use Rattle.gt_policy.specs.Allowing.{Meaning, Allowed, lists_perm, allowed_by}

-- what a policy keeps: its types by name, and its allow statements with sets of types
pub record KeptPolicy : Type 0 where
  pub types : List (List ℕ)
  pub rules : List AllowRule

-- A statement whose sets are sets of types grants the permission to the source on the target.
abbrev pub grants : AllowRule → ℕ → ℕ → Perms → Bool
grants rule s t perm =
    (lists_perm rule.perms perm && holds rule.source s) && (holds rule.target t || (rule.itself && (t == s)))

-- some of these statements grants it
abbrev pub some_grants : List AllowRule → ℕ → ℕ → Perms → Bool
some_grants rules s t perm = list_any (λ rule. grants rule s t perm) rules

-- what the types of a policy may do to one another: one permission that some statement grants
abbrev pub may_of : KeptPolicy → ℕ → ℕ → Perms → Bool
may_of policy s t perm = is_permission perm && some_grants policy.rules s t perm

-- what a policy means
abbrev pub allowed_of : KeptPolicy → Allowed
allowed_of policy = record { types = policy.types; may = may_of policy }

-- A policy shows the types of a meaning and allows what it allows.
abbrev pub PolicyShows : KeptPolicy → Meaning → Type 0
PolicyShows policy m = allowed_of policy ≡ allowed_by m

-- Only types with numbers below the count are granted anything, and only on such types.
abbrev pub AreWithin : ℕ → List AllowRule → Type 0
AreWithin count rules = (s t : ℕ) (perm : Perms) → some_grants rules s t perm ≡ true → (s < count) × (t < count)
