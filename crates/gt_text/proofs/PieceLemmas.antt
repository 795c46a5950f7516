-- Texts that grow piece by piece, and go out in parts.
use Rattle.std.proofs.Common.{◌≡◌, ℕ, ◌+◌, ◌<◌, List, [], ◌∷◌, ◌++◌, length, take, drop, get_or, Option, ap, sym, subst}
use Rattle.std.proofs.Common.{◌∙◌, append_assoc, add-one, arith}
use Rattle.std.proofs.Math.Seq.{take-suc, take-length}
use Rattle.std.proofs.lemmas.List.{append-nil, flat_map_more, take-append-drop}
use Rattle.std.proofs.lemmas.List.Concat.{flat_map-append}
use Rattle.std.specs.Io.KnownBytes.{Appends}
use Rattle.std.specs.List.{flat_map}
use Rattle.gt_text.specs.Laws.{appends_both, appends_nothing, begins_after, begins_longer}
use Rattle.gt_text.specs.Streams.{AppendsBeginning, Sends}

-- one more piece
pub piece_more : {X : Type 0} (f : X → List ℕ) (xs : List X) (i : ℕ) (e : X) (start : List ℕ) → i < length xs → (start ++ flat_map f (take i xs)) ++ f (get_or xs i e) ≡ start ++ flat_map f (take (i + 1) xs)
piece_more {X = X} f xs i e start within =
    let first : take (i + 1) xs ≡ take i xs ++ get_or xs i e ∷ [] = rw add-one (take-suc xs i e within) in
    flat_map_more f start (take i xs) (get_or xs i e) ∙ ap (λ (l : List X). start ++ flat_map f l) (sym first)

pub grows : {X : Type 0} (f : X → List ℕ) (xs : List X) (i : ℕ) (e : X) (start before after : List ℕ) → i < length xs → before ≡ start ++ flat_map f (take i xs) → after ≡ before ++ f (get_or xs i e) → after ≡ start ++ flat_map f (take (i + 1) xs)
grows f xs i e start before after within so_far more = more ∙ ap (λ (l : List ℕ). l ++ f (get_or xs i e)) so_far ∙ piece_more f xs i e start within

-- all of them
pub all_pieces : {X : Type 0} (f : X → List ℕ) (xs : List X) (i : ℕ) (start : List ℕ) → i ≡ length xs → start ++ flat_map f (take i xs) ≡ start ++ flat_map f xs
all_pieces {X = X} f xs i start all = ap (λ (l : List X). start ++ flat_map f l) (ap (λ (k : ℕ). take k xs) all ∙ take-length xs)

-- the first pieces, and the others
split_pieces : {X : Type 0} (f : X → List ℕ) (xs : List X) (i : ℕ) (start : List ℕ) → (start ++ flat_map f (take i xs)) ++ flat_map f (drop i xs) ≡ start ++ flat_map f xs
split_pieces {X = X} f xs i start =
    append_assoc start (flat_map f (take i xs)) (flat_map f (drop i xs))
    ∙ ap (λ (l : List ℕ). start ++ l) (sym (flat_map-append f (take i xs) (drop i xs)) ∙ ap (λ (l : List X). flat_map f l) (take-append-drop i xs))

-- what went out

-- of the first pieces a prefix went out, and so of all
pub begins_pieces : {X : Type 0} (f : X → List ℕ) (xs : List X) (i : ℕ) (start : List ℕ) (a c : Option (List ℕ)) → AppendsBeginning a c (start ++ flat_map f (take i xs)) → AppendsBeginning a c (start ++ flat_map f xs)
begins_pieces f xs i start a c h =
    subst (λ (l : List ℕ). AppendsBeginning a c l) (split_pieces f xs i start) (begins_longer a c (start ++ flat_map f (take i xs)) (flat_map f (drop i xs)) h)

-- nothing was added, and nothing went out
pub sends_nothing : (a : Option (List ℕ)) (start : List ℕ) → Sends a a (start ++ []) start
sends_nothing a start = ([], append-nil start, appends_nothing a)

-- of a text some went out and the rest waits; more waits with it, of which some goes out
pub sends_more : (a b c : Option (List ℕ)) (text waiting more rest : List ℕ) → Sends a b text waiting → Sends b c (waiting ++ more) rest → Sends a c (text ++ more) rest
sends_more a b c text waiting more rest (sent, split, went) (next, parts, goes) =
    (sent ++ next, ap (λ (l : List ℕ). l ++ more) split ∙ append_assoc sent waiting more ∙ ap (λ (l : List ℕ). sent ++ l) parts ∙ sym (append_assoc sent next rest), appends_both a b c sent next went goes)

-- the same, and of what waits a prefix goes out
pub begins_more : (a b c : Option (List ℕ)) (text waiting more : List ℕ) → Sends a b text waiting → AppendsBeginning b c (waiting ++ more) → AppendsBeginning a c (text ++ more)
begins_more a b c text waiting more (sent, split, went) h =
    subst (λ (l : List ℕ). AppendsBeginning a c l) (sym (append_assoc sent waiting more) ∙ ap (λ (l : List ℕ). l ++ more) (sym split)) (begins_after a b c sent (waiting ++ more) went h)

-- what went out is a prefix
pub has_begun : (a b : Option (List ℕ)) (text waiting : List ℕ) → Sends a b text waiting → AppendsBeginning a b text
has_begun a b text waiting (sent, split, went) =
    subst (λ (l : List ℕ). AppendsBeginning a b l) (sym split) (begins_longer a b sent waiting (length sent, omega arith, subst (λ (l : List ℕ). Appends a b l) (sym (take-length sent)) went))

-- what waits goes out, all of it or a prefix
pub sends_all : (a b c : Option (List ℕ)) (text waiting : List ℕ) → Sends a b text waiting → Appends b c waiting → Appends a c text
sends_all a b c text waiting (sent, split, went) h = subst (λ (l : List ℕ). Appends a c l) (sym split) (appends_both a b c sent waiting went h)

pub begins_all : (a b c : Option (List ℕ)) (text waiting : List ℕ) → Sends a b text waiting → AppendsBeginning b c waiting → AppendsBeginning a c text
begins_all a b c text waiting (sent, split, went) h = subst (λ (l : List ℕ). AppendsBeginning a c l) (sym split) (begins_after a b c sent waiting went h)

-- one more piece waits with the others, of which some goes out
pub step_sent : {X : Type 0} (f : X → List ℕ) (xs : List X) (i : ℕ) (e : X) (start w more given rest : List ℕ) (a b c : Option (List ℕ)) → i < length xs → more ≡ f (get_or xs i e)
    → Sends a b (start ++ flat_map f (take i xs)) w → given ≡ w ++ more → Sends b c given rest → Sends a c (start ++ flat_map f (take (i + 1) xs)) rest
step_sent f xs i e start w more given rest a b c within is so_far added goes =
    let next : Sends b c (w ++ f (get_or xs i e)) rest = subst (λ (l : List ℕ). Sends b c l rest) (added ∙ ap (λ (l : List ℕ). w ++ l) is) goes in
    subst (λ (l : List ℕ). Sends a c l rest) (piece_more f xs i e start within) (sends_more a b c (start ++ flat_map f (take i xs)) w (f (get_or xs i e)) rest so_far next)

-- the same, of which a prefix goes out
pub step_begun : {X : Type 0} (f : X → List ℕ) (xs : List X) (i : ℕ) (e : X) (start w more given : List ℕ) (a b c : Option (List ℕ)) → i < length xs → more ≡ f (get_or xs i e)
    → Sends a b (start ++ flat_map f (take i xs)) w → given ≡ w ++ more → AppendsBeginning b c given → AppendsBeginning a c (start ++ flat_map f xs)
step_begun f xs i e start w more given a b c within is so_far added goes =
    let next : AppendsBeginning b c (w ++ f (get_or xs i e)) = subst (λ (l : List ℕ). AppendsBeginning b c l) (added ∙ ap (λ (l : List ℕ). w ++ l) is) goes in
    let begun : AppendsBeginning a c (start ++ flat_map f (take (i + 1) xs)) = subst (λ (l : List ℕ). AppendsBeginning a c l) (piece_more f xs i e start within) (begins_more a b c (start ++ flat_map f (take i xs)) w (f (get_or xs i e)) so_far next) in
    begins_pieces f xs (i + 1) start a c begun

-- nothing waits yet
pub sends_start : (a : Option (List ℕ)) (waiting : List ℕ) → waiting ≡ [] → Sends a a [] waiting
sends_start a waiting none = ([], sym none, appends_nothing a)

-- all pieces were added
pub sent_all : {X : Type 0} (f : X → List ℕ) (xs : List X) (i : ℕ) (start rest : List ℕ) (a b : Option (List ℕ)) → i ≡ length xs → Sends a b (start ++ flat_map f (take i xs)) rest → Sends a b (start ++ flat_map f xs) rest
sent_all f xs i start rest a b all h = subst (λ (l : List ℕ). Sends a b l rest) (all_pieces f xs i start all) h
