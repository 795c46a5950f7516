-- From what the parser makes of the words to what is answered.
use Rattle.std.proofs.Common.{◌≡◌, ◌∙◌, ◌⊎◌, ◌<◌, ◌≤◌, ◌+◌, ℕ, Bool, true, false, Result, Ok, Err, IfOk, arith, List}
use Rattle.std.proofs.Common.{[], Option, Some, None, option_map, drop, refl, sym, ap, ap₂, subst, inl, inr}
use Rattle.std.specs.Prelude.{Box}
use Rattle.std.proofs.Common.{Global}
use Rattle.std.specs.Box.{box_value}
use Rattle.clap.specs.Faults.{fault_of}
use Rattle.clap.specs.Kinds.{HasKind, Kinds}
use Rattle.clap.specs.Matches.{subcommand_name_of}
use Rattle.clap.specs.Simple.{subcommand_of, subcommand_rows, subcommand_rows_of}
use Rattle.clap.specs.Walk.{Row, Text, first_of}
use Rattle.clap.specs.Values.{kind_of}
use Rattle.clap.specs.declared.error.Error.{Error}
use Rattle.clap.specs.declared.error.kind.ErrorKind.TheVariants.{InvalidValue, OutOfMemory}
use Rattle.std.specs.Str.Parse.{IsNumeral, digits_value, without_leading_plus}
use Rattle.clap.specs.ValueTests.{is_unsigned_in}
use Rattle.clap.specs.declared.builder.value_parser.ValueParser.TheVariants as vp
use Rattle.clap.proofs.ValueTestLemmas.{accepts-Accepts, Accepts-accepts}
use Rattle.clap.specs.declared.parser.matches.ArgMatches.{ArgMatches}
use Rattle.clap.specs.declared.parser.matches.ArgMatches.TheViews.{out-ArgMatches, out-SubCommand}
use Rattle.clap.specs.declared.parser.matches.SubCommand.{SubCommand}
use Rattle.gt_command_line.specs.Commands.{IsInvocationOf, IsPlanOf, Request, request_in_words}
use Rattle.gt_command_line.specs.Commands.{asked_by_some, asked_named}
use Rattle.gt_command_line.specs.Commands.{asked_with, command_name, gthost_app, mode_of, nothing, number_up_to, read}
use Rattle.gt_command_line.specs.Commands.{refusals}
use Rattle.gt_command_line.specs.declared.invocation.Invocation.{Invocation}
use Rattle.gt_command_line.specs.declared.invocation.Mode.{Mode}
use Rattle.gt_command_line.specs.declared.invocation.Mode.TheVariants.{Play, Run, Explore, Policy, Rules, Check, Why, Flow}
use Rattle.gt_command_line.specs.declared.invocation.Mode.TheVariants.{Entries}
use Rattle.gt_command_line.proofs.Top.{Comes, passes, helps, tells_version, refuses, words_come}
use Rattle.gt_command_line.proofs.Wrongs.{Wrong, unknown, stray, missing, valued, valueless, repeated, lacking}
use Rattle.gt_command_line.proofs.Wrongs.{never_passes}

refusal_of_wrong : {kinds : Kinds} (e : Error) → Wrong kinds → HasKind kinds e → HasKind (refusals nothing) e
refusal_of_wrong e unknown (inl memory) = inl memory
refusal_of_wrong e unknown (inr (inl is)) = inr (inl is)
refusal_of_wrong e unknown (inr (inr none)) = absurd none
refusal_of_wrong e stray (inl memory) = inl memory
refusal_of_wrong e stray (inr (inl is)) = inr (inl is)
refusal_of_wrong e stray (inr (inr (inl is))) = inr (inr (inl is))
refusal_of_wrong e stray (inr (inr (inr none))) = absurd none
refusal_of_wrong e missing (inl memory) = inl memory
refusal_of_wrong e missing (inr (inl is)) = inr (inr (inr (inl is)))
refusal_of_wrong e missing (inr (inr none)) = absurd none
refusal_of_wrong e valued (inl memory) = inl memory
refusal_of_wrong e valued (inr (inl is)) = inr (inr (inr (inr (inl is))))
refusal_of_wrong e valued (inr (inr none)) = absurd none
refusal_of_wrong e repeated (inl memory) = inl memory
refusal_of_wrong e repeated (inr (inl is)) = inr (inr (inr (inr (inr (inl is)))))
refusal_of_wrong e repeated (inr (inr none)) = absurd none
refusal_of_wrong e valueless (inl memory) = inl memory
refusal_of_wrong e valueless (inr (inl is)) = inr (inr (inr (inr (inr (inr (inl is))))))
refusal_of_wrong e valueless (inr (inr none)) = absurd none
refusal_of_wrong e lacking (inl memory) = inl memory
refusal_of_wrong e lacking (inr (inl is)) = inr (inr (inr (inr (inr (inr (inr (inl is)))))))
refusal_of_wrong e lacking (inr (inr none)) = absurd none

pub refusal_of_value : (e : Error) → kind_of e ≡ InvalidValue → HasKind (refusals nothing) e
refusal_of_value e is = inr (inr (inr (inr (inr (inr (inl is))))))

refusal_by : {request : Request} {kinds : Kinds} {sub : Option (Text × List Row)} (e : Error) → Comes request kinds sub → HasKind kinds e → HasKind (refusals request) e
refusal_by e (passes mode rows) (inl memory) = inl memory
refusal_by e (passes mode rows) (inr none) = absurd none
refusal_by e (helps sub) has = has
refusal_by e (tells_version sub) has = has
refusal_by e (refuses kinds sub bad) has = refusal_of_wrong e bad has

-- an error of the parse fits what was asked for
pub refusal : (words : List Text) (e : Error) → HasKind (fault_of gthost_app words) e → HasKind (refusals (request_in_words (drop 1 words))) e
refusal words e has = refusal_by e (words_come words) has

-- a parse that passes entered a command, whose rows say what is asked for
abbrev Entered : Request → Option (Text × List Row) → Type 0
Entered request sub = (mode : Mode) × (rows : List Row) × (sub ≡ Some (command_name mode, rows)) × (request ≡ read mode (λ id. first_of id rows))

entered_by : {request : Request} {kinds : Kinds} {sub : Option (Text × List Row)} → Comes request kinds sub → kinds ≡ [] → Entered request sub
entered_by (passes mode rows) none = (mode, rows, refl, refl)
entered_by (helps sub) none = absurd (cc none)
entered_by (tells_version sub) none = absurd (cc none)
entered_by (refuses kinds sub bad) none = absurd (never_passes bad none)

pub entered : (words : List Text) → fault_of gthost_app words ≡ [] → Entered (request_in_words (drop 1 words)) (subcommand_of gthost_app words)
entered words none = entered_by (words_come words) none

pub named_mode : (mode : Mode) → mode_of (command_name mode) ≡ Some mode
named_mode Play = refl
named_mode Run = refl
named_mode Explore = refl
named_mode Policy = refl
named_mode Rules = refl
named_mode Check = refl
named_mode Why = refl
named_mode Flow = refl
named_mode Entries = refl

-- the subcommand that was found, by its name and its rows
name_of_sub : (sub : Option (Box SubCommand Global)) → option_map (λ b. (out-SubCommand (box_value b)).name.now) sub ≡ option_map (λ p. p.0) (subcommand_rows sub)
name_of_sub None = refl
name_of_sub (Some b) = refl

both_parts : (o : Option (Text × List Row)) (name : Text) (rows : List Row) → option_map (λ p. p.0) o ≡ Some name → option_map (λ p. p.1) o ≡ Some rows → o ≡ Some (name, rows)
both_parts None name rows a b = absurd (cc a)
both_parts (Some p) name rows a b =
    let first : p.0 ≡ name = cc a in
    let second : p.1 ≡ rows = cc b in
    ap₂ (λ (x : Text) (y : List Row). Some (x, y)) first second

pub found_sub : (m : ArgMatches) (words : List Text) (name : Text) (rows : List Row) → subcommand_rows_of m ≡ subcommand_of gthost_app words → Some name ≡ subcommand_name_of m
    → Some rows ≡ option_map (λ p. p.1) (subcommand_rows (out-ArgMatches m).subcommand) → subcommand_of gthost_app words ≡ Some (name, rows)
found_sub m words name rows is a b =
    sym is ∙ both_parts (subcommand_rows_of m) name rows (sym (a ∙ name_of_sub (out-ArgMatches m).subcommand)) (sym b)

abbrev first_or : Text → Option (Text × List Row) → Text
first_or other None = other
first_or other (Some p) = p.0

abbrev second_or : List Row → Option (Text × List Row) → List Row
second_or other None = other
second_or other (Some p) = p.1

some_pair : (a c : Text) (b d : List Row) → ◌≡◌ {A = Option (Text × List Row)} (Some (a, b)) (Some (c, d)) → (a ≡ c) × (b ≡ d)
some_pair a c b d e = (ap (first_or a) e, ap (second_or b) e)

-- what the matches of the command ask for is what the words do
pub named_asks : (words : List Text) (name : Text) (rows : List Row) → fault_of gthost_app words ≡ [] → subcommand_of gthost_app words ≡ Some (name, rows) → asked_named name rows ≡ request_in_words (drop 1 words)
named_asks words name rows none sub =
    let it = entered words none in
    let same = some_pair _ _ _ _ (sym it.2 ∙ sub) in
    let mode : mode_of name ≡ Some it.0 = ap mode_of (sym same.0) ∙ named_mode it.0 in
    ap (λ (m : Option Mode). asked_with m (λ id. first_of id rows)) mode ∙ ap (λ (rs : List Row). read it.0 (λ id. first_of id rs)) (sym same.1) ∙ sym it.3

-- the answer by a plan, or by the error for a value
pub planned_some : (request : Request) (p : Invocation) → asked_by_some (Some p) ≡ request → IsInvocationOf request (Ok p)
planned_some request p is = is

pub planned_none : (request : Request) (e : Error) → nothing ≡ request → (kind_of e ≡ InvalidValue) ⊎ (kind_of e ≡ OutOfMemory) → IsInvocationOf request (Err e)
planned_none request e is (inl kind) = subst (λ (r : Request). HasKind (refusals r) e) is (refusal_of_value e kind)
planned_none request e is (inr kind) = subst (λ (r : Request). HasKind (refusals r) e) is (inl kind)

-- a command was entered
pub some_entered : (words : List Text) → fault_of gthost_app words ≡ [] → subcommand_of gthost_app words ≡ None → ⊥
some_entered words none sub = cc (sym (entered words none).2 ∙ sub)

-- the answer is the one for the words, and the plan that of the subcommand
pub answers : (words : List Text) (name : Text) (rows : List Row) (r : Result Invocation Error) → fault_of gthost_app words ≡ [] → subcommand_of gthost_app words ≡ Some (name, rows)
    → IsInvocationOf (asked_named name rows) r → IsInvocationOf (request_in_words (drop 1 words)) r
answers words name rows r none sub answer = subst (λ (q : Request). IsInvocationOf q r) (named_asks words name rows none sub) answer

plan_at : (name : Text) (rows : List Row) (r : Result Invocation Error) → IsInvocationOf (asked_named name rows) r → IfOk r (λ p. IsPlanOf p (Some (name, rows)))
plan_at name rows (Ok p) answer = answer
plan_at name rows (Err e) answer = tt

pub plan_of : (words : List Text) (name : Text) (rows : List Row) (r : Result Invocation Error) → subcommand_of gthost_app words ≡ Some (name, rows) → IsInvocationOf (asked_named name rows) r
    → IfOk r (λ p. IsPlanOf p (subcommand_of gthost_app words))
plan_of words name rows r sub answer = subst (λ (o : Option (Text × List Row)). IfOk r (λ p. IsPlanOf p o)) (sym sub) (plan_at name rows r answer)

-- ---- numbers

module _ (most : ℕ) (small : most < 18446744073709551616) (word : Text) where
  abbrev IsNumber : Type 0
  IsNumber = IsNumeral 10 (without_leading_plus word) × (digits_value 10 (without_leading_plus word) < most + 1)

  pub number_is : (n : ℕ) → IsNumber × (n ≡ digits_value 10 (without_leading_plus word)) → Some n ≡ number_up_to most word
  number_is n (fits, is) =
      let fits_all : digits_value 10 (without_leading_plus word) < 18446744073709551616 = omega (arith, fits.1, small) in
      let least : 0 ≤ digits_value 10 (without_leading_plus word) = omega arith in
      let up_to : digits_value 10 (without_leading_plus word) ≤ most = omega (arith, fits.1) in
      let passes : is_unsigned_in 0 most word ≡ true = Accepts-accepts false (vp.Unsigned 0 most) word (fits.0, fits_all, least, up_to) in
      rw passes (ap (λ (k : ℕ). Some k) is)

  pub no_number : (IsNumber → ⊥) → None ≡ number_up_to most word
  no_number bad = by (is_unsigned_in 0 most word) refl
    where
      by : (b : Bool) → is_unsigned_in 0 most word ≡ b → None ≡ number_up_to most word
      by true e =
          let accepted = accepts-Accepts false (vp.Unsigned 0 most) word e in
          absurd (bad (accepted.0, omega (arith, accepted.3)))
      by false e = rw e refl
