-- The meaning of one word.
use Rattle.std.specs.Char.{is_ascii_alphabetic, is_ascii_alphanumeric}
use Rattle.std.specs.List.{list_all}
use Rattle.std.specs.Prelude.{◌||◌, ◌&&◌, ◌==◌, nat_le, length, ℕ, ◌+◌, ◌^◌, Bool, true, false, List, [], ◌∷◌, Option}
use Rattle.std.specs.Prelude.{Some, None, if◌then◌else◌, codes}
use Rattle.std.specs.Option.{option_map}
use Rattle.std.specs.Str.{bytes_eq}
use Rattle.gt_types.specs.declared.limits.TheConstants.{LAST_GENERATION}
use Rattle.gt_types.specs.declared.DomId.{DomId}
use Rattle.gt_types.specs.declared.GrantRef.{GrantRef}
use Rattle.gt_script_lines.specs.Numbers.{decimal_value, below}

infixl 10 ◌>>=◌
-- the next step, if there is a value
abbrev pub ◌>>=◌ : {A B : Type 0} → Option A → (A → Option B) → Option B
None >>= f = None
(Some x) >>= f = f x

-- a byte of a name after its first: a letter, a digit, `_`, `-` or `.` (SELinux policy language)
abbrev pub name_byte : ℕ → Bool
name_byte b = ((is_ascii_alphanumeric b || (b == 95)) || (b == 45)) || (b == 46)

-- a name: a letter, and then such bytes (SELinux policy language)
unfoldable pub name_word : List ℕ → Bool
name_word [] = false
name_word (b ∷ bs) = is_ascii_alphabetic b && list_all name_byte bs

-- a byte of a label after its first: a letter, a digit or `_`
abbrev pub label_byte : ℕ → Bool
label_byte b = is_ascii_alphanumeric b || (b == 95)

-- a label: a letter, and then at most 31 such bytes
unfoldable pub label_word : List ℕ → Bool
label_word [] = false
label_word (b ∷ bs) = (is_ascii_alphabetic b && nat_le (length bs) 31) && list_all label_byte bs

-- a number below a limit
abbrev pub number_word : ℕ → List ℕ → Option ℕ
number_word limit word = decimal_value word >>= below limit

-- an offset, a length or a domain's number: 16 bits (grant_table.h)
unfoldable pub u16_word : List ℕ → Option ℕ
u16_word word = number_word (2 ^ 16) word

-- flags, a version or a number of frames: 32 bits (grant_table.h)
unfoldable pub u32_word : List ℕ → Option ℕ
u32_word word = number_word (2 ^ 32) word

-- a frame's number: 64 bits (grant_table.h)
unfoldable pub u64_word : List ℕ → Option ℕ
u64_word word = number_word (2 ^ 64) word

-- a grant reference: 32 bits (grant_table.h)
unfoldable pub reference_word : List ℕ → Option GrantRef
reference_word word = do
  n ← u32_word word
  Some (record { 0 = n })

-- a domain by its number, or `self` for DOMID_SELF (xen.h)
unfoldable pub domain_word : List ℕ → Option DomId
domain_word word = if bytes_eq word (codes "self") then Some (record { 0 = 32752 }) else (do
  n ← u16_word word
  Some (record { 0 = n }))

-- `rw` or `ro`: whether it is read-only
unfoldable pub mode_word : List ℕ → Option Bool
mode_word word = if bytes_eq word (codes "rw") then Some false
    else (if bytes_eq word (codes "ro") then Some true else None)

-- the flags of a map: a number, or `rw` for host_map and `ro` for host_map with readonly
unfoldable pub flags_word : List ℕ → Option ℕ
flags_word word = if bytes_eq word (codes "rw") then Some 2
    else (if bytes_eq word (codes "ro") then Some 6 else u32_word word)

-- the steps of a tick: 1 to 100,000
unfoldable pub tick_word : List ℕ → Option ℕ
tick_word word = do
  n ← number_word 100001 word
  if n == 0 then None else Some n

-- a generation of an entry, up to the last one
unfoldable pub generation_word : List ℕ → Option ℕ
generation_word word = number_word (LAST_GENERATION + 1) word

-- a word that passes a test
abbrev pub text_where : (List ℕ → Bool) → List ℕ → Option (List ℕ)
text_where test word = if test word then Some word else None

-- the bytes before the first colon, and those after it
unfoldable pub at_colon : List ℕ → Option (List ℕ × List ℕ)
at_colon [] = None
at_colon (b ∷ bs) = if b == 58 then Some ([], bs) else option_map (λ parts. (b ∷ parts.0, parts.1)) (at_colon bs)

-- the type of a label `user:role:type` of three names (SELinux policy language)
unfoldable pub type_word : List ℕ → Option (List ℕ)
type_word word = do
  first ← at_colon word
  second ← at_colon first.1
  if name_word first.0 && name_word second.0 then text_where name_word second.1 else None
