-- The rules in words.
use Rattle.std.specs.Prelude.{ℕ, List, [], ◌∷◌, ◌++◌, ◌==◌, if◌then◌else◌, codes, unwrap_or, slice_get}

-- the lines of the rules, by number; 0 is Ok
abbrev pub rule_lines : List (List ℕ)
rule_lines =
    codes "ok" ∷
    (codes "N1 -2 GNTST_bad_domain: a domain named, or the one that a transitive entry leads to, does not exist "
    ++ codes "in this run; name a domain of this run") ∷
    (codes "N2 -1 GNTST_general_error: the flags of the map or copy, or the version, are not among those taken; "
    ++ codes "use flags 2 or 6 for a map, 0 to 3 for a copy, version 1 or 2") ∷
    codes "N3 -10 GNTST_bad_copy_arg: offset plus length is above 4096; ask for a range inside the page" ∷
    (codes "N4 -8 GNTST_permission_denied: the copy names a frame of another domain by its number; name one "
    ++ codes "of the caller's frames, or a grant of that domain") ∷
    (codes "N5 -8 GNTST_permission_denied: the policy has no allow rule for these types and this permission; "
    ++ codes "ask for a rule in the policy") ∷
    codes "N6 -4 GNTST_bad_handle: the caller has no mapping with this handle; map first" ∷
    codes "N7 -8 GNTST_permission_denied: the store goes through a read-only mapping; map the entry for writing" ∷
    codes "N8 -1 GNTST_general_error: the caller has 8192 mappings, or has used up its handles; unmap some" ∷
    codes "N9 -3 GNTST_bad_gntref: the reference is past the table; ask the owner to set up more table frames" ∷
    codes "N10 -1 GNTST_general_error: the entry is invalid; wait for the owner's grant" ∷
    codes "N11 -1 GNTST_general_error: the entry names another domain; ask the owner for a grant of its own" ∷
    codes "N12 -1 GNTST_general_error: the map is of a sub-page or transitive entry; copy instead" ∷
    (codes "N13 -1 GNTST_general_error: the entry is read-only, and the call writes; only read, or ask the "
    ++ codes "owner to promote the entry") ∷
    (codes "N14 -1 GNTST_general_error: the range is not inside the sub-page; ask for a range inside the "
    ++ codes "sub-page") ∷
    (codes "N15 -1 GNTST_general_error: a transitive entry leads to another one; ask the middle domain for a "
    ++ codes "grant of its own page") ∷
    (codes "N16 -9 GNTST_bad_page: the frame number is not one of its owner's frames; name a frame that the "
    ++ codes "owner has") ∷
    (codes "N17 -1 GNTST_general_error: 4095 pins of that kind are live on the entry; try again after others "
    ++ codes "have unmapped") ∷
    (codes "N18 -12 GNTST_eagain: the entry changed during all four tries of a pin, demotion, promotion or "
    ++ codes "withdrawal; try again") ∷
    (codes "N19 -1 GNTST_general_error: the entry is in use: it has live pins (for a demotion: live write pins); try "
    ++ codes "again after the other domains have unmapped; an entry to be revoked or demoted can be withdrawn now") ∷
    codes "N20 -1 GNTST_general_error: the entry is valid already; revoke it first, or use another reference" ∷
    (codes "N21 -1 GNTST_general_error: the entry given is invalid, or needs a table of version 2; set version "
    ++ codes "2, or grant a whole page") ∷
    codes "N22 -1 GNTST_general_error: the entry is at its last generation; use another reference" ∷
    codes "N23 -1 GNTST_general_error: more than 16 table frames are asked for; ask for at most 16" ∷
    codes "N24 -1 GNTST_general_error: the table has valid entries; revoke or withdraw all entries first" ∷
    codes "N25 -1 GNTST_general_error: the bytes are not an entry of a table of this version; fix the field named" ∷
    codes "N26 -1 GNTST_general_error: out of memory; try again when there is memory" ∷ []

-- the other answers: why a call was not made
abbrev pub unmade_bytes : ℕ → List ℕ
unmade_bytes n =
    if n == 256 then codes "the handle has no domain" else
    if n == 257 then codes "the domain is in a copy" else
    if n == 258 then codes "memory was refused for records" else
    if n == 259 then codes "the domain is in no copy" else
    if n == 260 then codes "there is no such mapping, record or entry" else
    if n == 261 then codes "the pointer to the handle is null" else
    codes "no such rule"

-- what a rule means
abbrev pub rule_bytes : ℕ → List ℕ
rule_bytes n = unwrap_or (slice_get rule_lines n) (unmade_bytes n)
