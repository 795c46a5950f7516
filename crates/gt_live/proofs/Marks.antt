-- Bytes that the hypervisor has marked as in use.
use Rattle.std.proofs.Common.{◌≡◌, ℕ, ◌+◌, ◌*◌, ◌%◌, ◌<◌, ◌==◌, Bool, true, false, ap, sym, subst, arith, List, []}
use Rattle.std.proofs.Common.{◌∷◌, refl}
use Rattle.std.specs.Prelude.{MatchBool}
use Rattle.gt_model.specs.Bytes.{IsLaidOutV1, IsLaidOutV2, Spells, SpellsV1, SpellsV2}
use Rattle.gt_model.specs.Words.{flag}
use Rattle.gt_model.specs.declared.entry.Entry.{Entry}
use Rattle.gt_model.specs.declared.entry.Entry.TheVariants.{Invalid, Page, Sub, Via}
use Rattle.gt_live.specs.Unmarked.{unmarked, unmarked_byte, with_marks}

-- a byte without marks is what is left of it after some were set
without : (byte marks : ℕ) → byte % 32 < 8 → marks < 4 → unmarked_byte (byte + 8 * marks) ≡ byte
without byte marks low few = omega (arith, low, few)

flag-small : (ro : Bool) → flag ro < 5
flag-small true = omega arith
flag-small false = omega arith

-- the first byte of an entry has no marks
v1-low : (byte : ℕ) (bytes : List ℕ) (entry : Entry) → byte < 256 → IsLaidOutV1 (byte ∷ bytes) entry → byte % 32 < 8
v1-low byte bytes Invalid lt laid = absurd laid
v1-low byte bytes (Page dom ro frame) lt laid = let small = flag-small ro in let is = laid.0 in omega (arith, lt, small, is)
v1-low byte bytes (Sub dom ro frame off len) lt laid = absurd laid
v1-low byte bytes (Via dom ro dom2 gref) lt laid = absurd laid

v2-low : (byte : ℕ) (bytes : List ℕ) (entry : Entry) → byte < 256 → IsLaidOutV2 (byte ∷ bytes) entry → byte % 32 < 8
v2-low byte bytes Invalid lt laid = absurd laid
v2-low byte bytes (Page dom ro frame) lt laid = let small = flag-small ro in let is = laid.0 in omega (arith, lt, small, is)
v2-low byte bytes (Sub dom ro frame off len) lt laid = let small = flag-small ro in let is = laid.0 in omega (arith, lt, small, is)
v2-low byte bytes (Via dom ro dom2 gref) lt laid = let small = flag-small ro in let is = laid.0 in omega (arith, lt, small, is)

pub v1-unmarked : (marks : ℕ) (bytes : List ℕ) (entry : Entry) → marks < 4 → SpellsV1 bytes entry → unmarked (with_marks marks bytes) ≡ bytes
v1-unmarked marks [] entry few spells = refl
v1-unmarked marks (byte ∷ bytes) entry few spells =
    ap (λ (b : ℕ). b ∷ bytes) (without byte marks (v1-low byte bytes entry (spells.size.1 0 0 (omega arith)) spells.layout) few)

pub v2-unmarked : (marks : ℕ) (bytes : List ℕ) (entry : Entry) → marks < 4 → SpellsV2 bytes entry → unmarked (with_marks marks bytes) ≡ bytes
v2-unmarked marks [] entry few spells = refl
v2-unmarked marks (byte ∷ bytes) entry few spells =
    ap (λ (b : ℕ). b ∷ bytes) (without byte marks (v2-low byte bytes entry (spells.size.1 0 0 (omega arith)) spells.layout) few)

-- so marked bytes of an entry still encode it
pub marked-spells : (version marks : ℕ) (bytes : List ℕ) (entry : Entry) → marks < 4 → Spells version bytes entry
    → Spells version (unmarked (with_marks marks bytes)) entry
marked-spells version marks bytes entry few spells = by (version == 2) spells
  where
    by : (is_second : Bool) → MatchBool is_second (SpellsV2 bytes entry) ((version ≡ 1) × SpellsV1 bytes entry)
        → MatchBool is_second (SpellsV2 (unmarked (with_marks marks bytes)) entry)
        ((version ≡ 1) × SpellsV1 (unmarked (with_marks marks bytes)) entry)
    by true v2 = subst (λ (x : List ℕ). SpellsV2 x entry) (sym (v2-unmarked marks bytes entry few v2)) v2
    by false v1 = (v1.0, subst (λ (x : List ℕ). SpellsV1 x entry) (sym (v1-unmarked marks bytes entry few v1.1)) v1.1)
