-- Sets of permissions as bits, and as lists of words.
use Rattle.std.proofs.Common.{◌≡◌, ◌<◌, ℕ, ◌*◌, ◌^◌, ◌==◌, ◌||◌, ◌&&◌, zero, suc, Bool, true, false, List, [], ◌∷◌}
use Rattle.std.proofs.Common.{Option, Some, None, refl, sym, ap, ◌∙◌, arith}
use Rattle.std.specs.Prelude.{if◌then◌else◌, codes}
use Rattle.std.specs.List.{list_any}
use Rattle.std.specs.Str.{bytes_eq}
use Rattle.std.specs.Int.{bit_at}
use Rattle.std.proofs.Math.Pow.{pow_pos}
use Rattle.std.proofs.lemmas.Bool.Decides.{nat_tests}
use Rattle.std.proofs.lemmas.Slice.Eq.{bytes_eq-Decides}
use Rattle.std.proofs.lemmas.Option.{same_Some, none-some}
use Rattle.std.proofs.lemmas.Nat.Bits.{bit_at-lt, and_pow}
use Rattle.gt_types.specs.declared.perms.Perms.{Perms}
use Rattle.gt_policy.specs.declared.statements.Permissions.{Permissions}
use Rattle.gt_policy.specs.declared.statements.Permissions.TheVariants.{Every, Named}
use Rattle.gt_policy.specs.Allowing.{lists_perm}
use Rattle.gt_types.specs.Names.{permission_of}
use Rattle.gt_policy.specs.Resolving.{no_perms, all_perms, union, with_named, perms_from, has_grant, perms_listed}
use Rattle.gt_policy.specs.Resolving.{granted}
use Rattle.gt_policy.specs.Granting.{lists_word}
use Rattle.gt_policy.specs.TypeSets.{has_bit}
use Rattle.gt_policy.proofs.TypeSetLemmas.{is_set-or}
use Rattle.gt_policy.proofs.BoolLemmas.{or_false, or_assoc}

abbrev pub bit : ℕ → Perms
bit n = record { 0 = n }

times_is : (b x : ℕ) → b < 2 → 0 < x → (b * x == x) ≡ (b == 1)
times_is zero x h p = let e : zero * x ≡ 0 = omega arith in grind (arith, nat_tests)
times_is (suc zero) x h p = let e : suc zero * x ≡ x = omega arith in grind (arith, nat_tests)
times_is (suc (suc b)) x h p = absurd (omega arith)

lists_bit : (p : Perms) (k : ℕ) → lists_perm p (bit (2 ^ k)) ≡ has_bit p.0 k
lists_bit p k = ap (λ n. n == 2 ^ k) (and_pow p.0 k) ∙ times_is (bit_at p.0 k) (2 ^ k) (bit_at-lt p.0 k) (pow_pos k)

pub lists_union : (p q : Perms) (k : ℕ) → lists_perm (union p q) (bit (2 ^ k)) ≡ (lists_perm p (bit (2 ^ k)) || lists_perm q (bit (2 ^ k)))
lists_union p q k =
    lists_bit (union p q) k ∙ is_set-or p.0 q.0 k ∙ ap (λ b. b || has_bit q.0 k) (sym (lists_bit p k)) ∙ ap (λ b. lists_perm p (bit (2 ^ k)) || b) (sym (lists_bit q k))

-- the permission that a word names, if it names one
abbrev lists_opt : Option Perms → Perms → Bool
lists_opt None p = false
lists_opt (Some q) p = lists_perm q p

lists_with : (p : Perms) (o : Option Perms) (k : ℕ) → lists_perm (with_named p o) (bit (2 ^ k)) ≡ (lists_perm p (bit (2 ^ k)) || lists_opt o (bit (2 ^ k)))
lists_with p (Some q) k = lists_union p q k
lists_with p None k = or_false (lists_perm p (bit (2 ^ k)))

-- a table of words and bits
abbrev Table : Type 0
Table = List (List ℕ × ℕ)

abbrev look_up : Table → List ℕ → Option Perms
look_up [] w = None
look_up (r ∷ rs) w = if bytes_eq w r.0 then Some (bit r.1) else look_up rs w

abbrev from_query : Table
from_query = (codes "query", 64) ∷ []

abbrev from_copy : Table
from_copy = (codes "copy", 32) ∷ from_query

abbrev from_setup : Table
from_setup = (codes "setup", 16) ∷ from_copy

abbrev from_transfer : Table
from_transfer = (codes "transfer", 8) ∷ from_setup

abbrev from_unmap : Table
from_unmap = (codes "unmap", 4) ∷ from_transfer

abbrev from_map_write : Table
from_map_write = (codes "map_write", 2) ∷ from_unmap

abbrev table : Table
table = (codes "map_read", 1) ∷ from_map_write

abbrev Agrees : List ℕ → ℕ → Table → Type 0
Agrees c b [] = Unit {0}
Agrees c b (r ∷ rs) = (lists_perm (bit r.1) (bit b) ≡ bytes_eq r.0 c) × Agrees c b rs

looked_other : (rs : Table) (w c : List ℕ) (b : ℕ) → bytes_eq w c ≡ false → Agrees c b rs → lists_opt (look_up rs w) (bit b) ≡ false
looked_other [] w c b other agrees = refl
looked_other (r ∷ rs) w c b other agrees = go (bytes_eq w r.0) refl (looked_other rs w c b other agrees.1)
  where
    go : (v : Bool) → bytes_eq w r.0 ≡ v → lists_opt (look_up rs w) (bit b) ≡ false → lists_opt (if v then Some (bit r.1) else look_up rs w) (bit b) ≡ false
    go true e h = agrees.0 ∙ ap (λ u. bytes_eq u c) (sym ((bytes_eq-Decides w r.0).0 e)) ∙ other
    go false e h = h

-- one word of class `grant` and its bit
record IsWord (c : List ℕ) (k : ℕ) : Type 0 where
  agrees : Agrees c (2 ^ k) table
  self : lists_opt (look_up table c) (bit (2 ^ k)) ≡ true
  every : lists_perm all_perms (bit (2 ^ k)) ≡ true
  none : lists_perm no_perms (bit (2 ^ k)) ≡ false

lists_named : (c : List ℕ) (k : ℕ) → IsWord c k → (w : List ℕ) → lists_opt (permission_of w) (bit (2 ^ k)) ≡ bytes_eq w c
unfolding permission_of
lists_named c k word w = go (bytes_eq w c) refl
  where
    go : (v : Bool) → bytes_eq w c ≡ v → lists_opt (look_up table w) (bit (2 ^ k)) ≡ v
    go true e = ap (λ u. lists_opt (look_up table u) (bit (2 ^ k))) ((bytes_eq-Decides w c).0 e) ∙ word.self
    go false e = looked_other table w c (2 ^ k) e word.agrees

lists_from : (c : List ℕ) (k : ℕ) → IsWord c k → (ws : List (List ℕ)) (p : Perms) → lists_perm (perms_from p ws) (bit (2 ^ k)) ≡ (lists_perm p (bit (2 ^ k)) || list_any (λ v. bytes_eq v c) ws)
lists_from c k word [] p = or_false (lists_perm p (bit (2 ^ k)))
lists_from c k word (w ∷ ws) p =
    lists_from c k word ws (with_named p (permission_of w))
    ∙ ap (λ b. b || list_any (λ v. bytes_eq v c) ws) (lists_with p (permission_of w) k ∙ ap (λ b. lists_perm p (bit (2 ^ k)) || b) (lists_named c k word w))
    ∙ or_assoc (lists_perm p (bit (2 ^ k))) (bytes_eq w c) (list_any (λ v. bytes_eq v c) ws)

lists_granted : (c : List ℕ) (k : ℕ) → IsWord c k → (classes : List (List ℕ)) (perms : Permissions) → lists_perm (granted classes perms) (bit (2 ^ k)) ≡ (has_grant classes && lists_word perms c)
lists_granted c k word classes perms = go (has_grant classes) perms
  where
    go : (v : Bool) (ps : Permissions) → lists_perm (if v then perms_listed ps else no_perms) (bit (2 ^ k)) ≡ (v && lists_word ps c)
    go true Every = word.every
    go true (Named ws) = lists_from c k word ws no_perms ∙ ap (λ b. b || list_any (λ v. bytes_eq v c) ws) word.none
    go false ps = word.none

-- a word is this one, or stands further down
or_next : (w c : List ℕ) (k : ℕ) (rest : Option Perms) (perm : Perms) (classes : List (List ℕ)) (perms : Permissions) → IsWord c k → (if bytes_eq w c then Some (bit (2 ^ k)) else rest) ≡ Some perm
    → (rest ≡ Some perm → lists_perm (granted classes perms) perm ≡ (has_grant classes && lists_word perms w)) → lists_perm (granted classes perms) perm ≡ (has_grant classes && lists_word perms w)
or_next w c k rest perm classes perms word e next = go (bytes_eq w c) refl e
  where
    go : (v : Bool) → bytes_eq w c ≡ v → (if v then Some (bit (2 ^ k)) else rest) ≡ Some perm → lists_perm (granted classes perms) perm ≡ (has_grant classes && lists_word perms w)
    go true same is =
        ap (λ p. lists_perm (granted classes perms) p) (sym (same_Some (bit (2 ^ k)) perm is)) ∙ lists_granted c k word classes perms
        ∙ ap (λ u. has_grant classes && lists_word perms u) (sym ((bytes_eq-Decides w c).0 same))
    go false other is = next is

-- the bits of a statement have the permission that a word names where the statement lists the word, or `*`, under class `grant`
pub lists_words : (classes : List (List ℕ)) (perms : Permissions) (w : List ℕ) (perm : Perms) → permission_of w ≡ Some perm → lists_perm (granted classes perms) perm ≡ (has_grant classes && lists_word perms w)
unfolding permission_of
lists_words classes perms w perm e =
    or_next w (codes "map_read") 0 (look_up from_map_write w) perm classes perms (record { agrees = (refl, (refl, (refl, (refl, (refl, (refl, (refl, tt))))))); self = refl; every = refl; none = refl }) e (λ e1.
    or_next w (codes "map_write") 1 (look_up from_unmap w) perm classes perms (record { agrees = (refl, (refl, (refl, (refl, (refl, (refl, (refl, tt))))))); self = refl; every = refl; none = refl }) e1 (λ e2.
    or_next w (codes "unmap") 2 (look_up from_transfer w) perm classes perms (record { agrees = (refl, (refl, (refl, (refl, (refl, (refl, (refl, tt))))))); self = refl; every = refl; none = refl }) e2 (λ e3.
    or_next w (codes "transfer") 3 (look_up from_setup w) perm classes perms (record { agrees = (refl, (refl, (refl, (refl, (refl, (refl, (refl, tt))))))); self = refl; every = refl; none = refl }) e3 (λ e4.
    or_next w (codes "setup") 4 (look_up from_copy w) perm classes perms (record { agrees = (refl, (refl, (refl, (refl, (refl, (refl, (refl, tt))))))); self = refl; every = refl; none = refl }) e4 (λ e5.
    or_next w (codes "copy") 5 (look_up from_query w) perm classes perms (record { agrees = (refl, (refl, (refl, (refl, (refl, (refl, (refl, tt))))))); self = refl; every = refl; none = refl }) e5 (λ e6.
    or_next w (codes "query") 6 None perm classes perms (record { agrees = (refl, (refl, (refl, (refl, (refl, (refl, (refl, tt))))))); self = refl; every = refl; none = refl }) e6 (λ e7. absurd (none-some perm e7))))))))
