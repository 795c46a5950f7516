-- Several claims of a command line as one option.
use Rattle.std.specs.Prelude.{◌++◌, ◌==◌, ◌||◌, ℕ, Bool, true, false, List, [], ◌∷◌, Option, Some, None, codes, string_bytes}
use Rattle.std.specs.Prelude.{if◌then◌else◌, length, map, nat_lt}
use Rattle.std.specs.List.{after_first, before_first, position_or_len}
use Rattle.std.specs.Option.{option_map}
use Rattle.std.specs.Str.{bytes_eq}
use Rattle.clap.specs.Words.{Text}
use Rattle.gt_explore_verdict.specs.declared.judging.Claim.{Claim}
use Rattle.gt_explore_verdict.specs.declared.judging.Claim.TheVariants.{Find, Never, Always}
use Rattle.gt_command_line.specs.Leading.{command_first}
use Rattle.gt_command_line.specs.Letters.{with_long_flags}
use Rattle.gt_command_line.specs.declared.claiming.ClaimWords.{ClaimWords}

-- the option that states a claim
abbrev pub option_of : Claim → Text
option_of Find = codes "--find"
option_of Never = codes "--never"
option_of Always = codes "--always"

-- the word by which a claim begins
abbrev pub claim_word : Claim → Text
claim_word Find = codes "find "
claim_word Never = codes "never "
claim_word Always = codes "always "

-- the claim that an option states
abbrev pub kind_of_option : Text → Option Claim
kind_of_option word = if bytes_eq word (codes "--find") then Some Find
    else (if bytes_eq word (codes "--never") then Some Never
    else (if bytes_eq word (codes "--always") then Some Always else None))

-- the claim that an option states with its expression attached: `--never=EXPR`
abbrev pub stated_in : Text → Option (Claim × Text)
stated_in word =
    if nat_lt (position_or_len (λ b. b == 61) word) (length word)
    then option_map (λ claim. (claim, after_first (λ b. b == 61) word)) (kind_of_option (before_first (λ b. b == 61) word))
    else None

-- a word begins with `-`
abbrev pub is_dashed : Text → Bool
is_dashed [] = false
is_dashed (b ∷ bs) = b == 45

-- the claims among the words so far, a line each; the other words; the claim whose expression comes next; whether the
-- mark was met; and whether there is a claim, and whether there are several
pub record Claimed : Type 0 where
  pub text : Text
  pub others : List Text
  pub waiting : Option Claim
  pub is_marked : Bool
  pub has_one : Bool
  pub has_several : Bool

abbrev pub claim_words : ClaimWords → Claimed
claim_words c = record {
  text = string_bytes c.text;
  others = map string_bytes c.others.items;
  waiting = c.waiting;
  is_marked = c.is_marked;
  has_one = c.has_one;
  has_several = c.has_several;
}

abbrev pub no_words : Claimed
no_words = record { text = []; others = []; waiting = None; is_marked = false; has_one = false; has_several = false }

-- with a claim more
abbrev pub with_claim : Claimed → Claim → Text → Claimed
with_claim c claim expression = record c {
  text = c.text ++ claim_word claim ++ expression ++ codes "\n";
  waiting = None;
  has_one = true;
  has_several = c.has_several || c.has_one;
}

-- with another word
abbrev pub with_other : Claimed → Text → Claimed
with_other c word = record c {
  others = c.others ++ word ∷ [];
  is_marked = c.is_marked || bytes_eq word (codes "--");
}

-- with an option whose expression did not come
abbrev pub with_returned : Claimed → Claim → Claimed
with_returned c claim = with_other (record c { waiting = None }) (option_of claim)

-- with the word after the option of a claim: its expression, unless the word begins with `-`
abbrev pub with_value : Claimed → Claim → Text → Claimed
with_value c claim word =
    if is_dashed word then with_other (with_returned c claim) word else with_claim c claim word

-- with a word that no option waits for
abbrev pub with_attached : Claimed → Text → Option (Claim × Text) → Claimed
with_attached c word None = with_other c word
with_attached c word (Some (claim, expression)) = with_claim c claim expression

abbrev pub with_kind : Claimed → Text → Option Claim → Claimed
with_kind c word None = with_attached c word (stated_in word)
with_kind c word (Some claim) = record c { waiting = Some claim }

abbrev pub with_option : Claimed → Text → Claimed
with_option c word = with_kind c word (kind_of_option word)

-- with the next word
abbrev pub with_next : Claimed → Text → Option Claim → Claimed
with_next c word None = with_option c word
with_next c word (Some claim) = with_value c claim word

abbrev pub with_word : Claimed → Text → Claimed
with_word c word = if c.is_marked then with_other c word else with_next c word c.waiting

-- with all these words
abbrev pub words_taken : Claimed → List Text → Claimed
words_taken c [] = c
words_taken c (word ∷ words) = words_taken (with_word c word) words

-- at the end of the words
abbrev pub ended_at : Claimed → Option Claim → Claimed
ended_at c None = c
ended_at c (Some claim) = with_returned c claim

abbrev pub words_ended : Claimed → Claimed
words_ended c = ended_at c c.waiting

-- the words of `explore` with one option for its claims, if there are several
abbrev pub joined_by : Text → Text → List Text → Claimed → List Text
joined_by program command words c =
    if c.has_several then program ∷ command ∷ (codes "--claims=" ++ c.text) ∷ c.others else program ∷ command ∷ words

abbrev pub words_joined : Text → Text → List Text → List Text
words_joined program command words = joined_by program command words (words_ended (words_taken no_words words))

-- the words of a command line, the program's name first, with one option in place of the claims of `explore`
abbrev pub with_claims : List Text → List Text
with_claims [] = []
with_claims (program ∷ []) = program ∷ []
with_claims (program ∷ command ∷ words) =
    if bytes_eq command (codes "explore") then words_joined program command words else program ∷ command ∷ words

-- the words of a command line in the order and the form in which they are read
abbrev pub plain_words : List Text → List Text
plain_words words = with_claims (with_long_flags (command_first words))
