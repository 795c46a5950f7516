-- The faults in words.
use Rattle.std.specs.Prelude.{ℕ, List, ◌==◌, if◌then◌else◌, codes}

-- what a kind of fault means
abbrev pub fault_bytes : ℕ → List ℕ
fault_bytes n =
    if n == 0 then codes "none" else
    if n == 1 then codes "memory" else
    if n == 2 then codes "the handles are not as many as the domains, or one of them has a domain" else
    if n == 3 then codes "syntax" else
    if n == 4 then codes "unknown name" else
    if n == 5 then codes "name declared twice" else
    if n == 6 then codes "no such permission" else
    if n == 7 then codes "outside the supported language" else
    if n == 8 then codes "limit of the policy" else
    if n == 9 then codes "the policy is not UTF-8" else
    if n == 10 then codes "no domain" else
    if n == 11 then codes "one domain too many" else
    if n == 12 then codes "number out of range" else
    if n == 13 then codes "number given before" else
    if n == 14 then codes "frames out of range" else
    if n == 15 then codes "table frames out of range" else
    if n == 16 then codes "no such version" else
    if n == 17 then codes "first generation out of range" else
    if n == 18 then codes "a pointer is null" else
    if n == 19 then codes "label past the types of the policy" else
    if n == 20 then codes "no such type" else
    codes "no such fault"
