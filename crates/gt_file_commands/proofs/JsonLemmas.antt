-- From the text that a command wrote to memory to its JSON.
use Rattle.std.proofs.Common.{◌≡◌, ℕ, List, [], Option, None, Some, Result, Ok, Err, inl, inr, subst}
use Rattle.std.proofs.Common.{sym}
use Rattle.gt_text.specs.Streams.{OfInput}
use Rattle.gt_json.specs.declared.places.PrintedText.{PrintedText}
use Rattle.gt_file_commands.specs.AsJson.{Promise, AsJson, Passes}

-- what follows for each input follows for the one that there is
pub of_input_more : (known : Option (List ℕ)) (P Q : List ℕ → Type 0) → ((input : List ℕ) → P input → Q input) → OfInput known P → OfInput known Q
of_input_more None P Q f (input, few, p) = (input, few, f input p)
of_input_more (Some all) P Q f p = f all p

-- what went out for one input, once a command wrote a text so
passed_one : {F : Type 0} (printed : PrintedText) (memory write : F) (Wrote : Promise F) (text : List ℕ) (outcome answer : Result (Unit {0}) F) (old new : Option (List ℕ))
    → Wrote (Some []) (Some text) outcome → Passes printed memory write text outcome old new answer → AsJson printed memory write Wrote old new answer
passed_one printed memory write Wrote text (Ok done) (Ok passed) old new wrote went = (text, wrote, went)
passed_one printed memory write Wrote text (Ok done) (Err fault) old new wrote (is, went) = inr (is, (text, wrote, went))
passed_one printed memory write Wrote text (Err why) (Ok passed) old new wrote went = absurd went
passed_one printed memory write Wrote text (Err why) (Err fault) old new wrote (inl is, kept) = inl (kept, inl is)
passed_one {F = F} printed memory write Wrote text (Err why) (Err fault) old new wrote (inr is, kept) =
    inl (kept, inr (text, subst (λ (f : F). Wrote (Some []) (Some text) (Err f)) (sym is) wrote))

-- the same for the input that there is, of a text that began with nothing
pub passed : {F : Type 0} (known : Option (List ℕ)) (printed : PrintedText) (memory write : F) (Wrote : List ℕ → Promise F) (start text given : List ℕ) (outcome answer : Result (Unit {0}) F) (old new : Option (List ℕ))
    → start ≡ [] → given ≡ text → OfInput known (λ input. Wrote input (Some start) (Some text) outcome) → Passes printed memory write given outcome old new answer
    → OfInput known (λ input. AsJson printed memory write (Wrote input) old new answer)
passed known printed memory write Wrote start text given outcome answer old new none is wrote went =
    let gone : Passes printed memory write text outcome old new answer = subst (λ (l : List ℕ). Passes printed memory write l outcome old new answer) is went in
    of_input_more known (λ (input : List ℕ). Wrote input (Some start) (Some text) outcome) (λ (input : List ℕ). AsJson printed memory write (Wrote input) old new answer)
    (λ (input : List ℕ) (w : Wrote input (Some start) (Some text) outcome). passed_one printed memory write (Wrote input) text outcome answer old new (subst (λ (l : List ℕ). Wrote input (Some l) (Some text) outcome) none w) gone) wrote
