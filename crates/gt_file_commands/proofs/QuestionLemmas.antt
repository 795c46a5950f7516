-- Questions that are answered one after the other.
use Rattle.std.proofs.Common.{◌≡◌, ℕ, Bool, List, [], ◌∷◌, Option, map, refl, sym, subst, ◌∙◌, inl}
use Rattle.std.specs.Str.Lines.{lines}
use Rattle.gt_script_lines.specs.Words.{words}
use Rattle.gt_text.specs.Laws.{keeps_same}
use Rattle.gt_file_commands.specs.Working.{AnswersInputLine, AnswersLines, AnswersWords, AnswersUnderHeading, OrNothing}
use Rattle.gt_file_commands.specs.Working.{worse}
use Rattle.gt_file_commands.specs.declared.outcome.Outcome.{Outcome}
use Rattle.gt_file_commands.specs.declared.outcome.Outcome.TheVariants.{No, Unknown, Yes}

-- the worse of three outcomes
worse_assoc : (a b c : Outcome) → worse a (worse b c) ≡ worse (worse a b) c
worse_assoc Yes b c = refl
worse_assoc Unknown b c = refl
worse_assoc No Yes c = refl
worse_assoc No Unknown c = refl
worse_assoc No No Yes = refl
worse_assoc No No No = refl
worse_assoc No No Unknown = refl

worse_yes : (a : Outcome) → worse a Yes ≡ a
worse_yes Yes = refl
worse_yes No = refl
worse_yes Unknown = refl

-- Whatever answers the rest of the lines answers all of them, with the worst outcome so far.
abbrev pub GoesOn : Bool → List ℕ → Option (List ℕ) → List (List ℕ) → List (List ℕ) → Option (List ℕ) → Option (List ℕ) → Outcome → Type 0
GoesOn each file known all rest old now so_far =
    (new : Option (List ℕ)) (other : Outcome) → AnswersLines each file known rest now new other → AnswersLines each file known all old new (worse so_far other)

-- at the first line
pub goes_first : (each : Bool) (file : List ℕ) (known : Option (List ℕ)) (all rest : List (List ℕ)) (old : Option (List ℕ)) → all ≡ rest → GoesOn each file known all rest old old Yes
goes_first each file known all rest old same = λ new other h. subst (λ (l : List (List ℕ)). AnswersLines each file known l old new other) (sym same) h

-- after one more line
pub goes_next : (each : Bool) (file : List ℕ) (known : Option (List ℕ)) (all here rest : List (List ℕ)) (line : List ℕ) (old now next : Option (List ℕ)) (so_far one after : Outcome) → GoesOn each file known all here old now so_far
    → here ≡ line ∷ rest → AnswersInputLine each file known line now next one → after ≡ worse so_far one → GoesOn each file known all rest old next after
goes_next each file known all here rest line old now next so_far one after goes same answers is = λ new other h.
    let through : AnswersLines each file known (line ∷ rest) now new (worse one other) = (next, one, other, answers, h, refl) in
    let from_here : AnswersLines each file known here now new (worse one other) = subst (λ (l : List (List ℕ)). AnswersLines each file known l now new (worse one other)) (sym same) through in
    subst (λ (o : Outcome). AnswersLines each file known all old new o) (worse_assoc so_far one other ∙ sym (subst (λ (o : Outcome). worse o other ≡ worse (worse so_far one) other) (sym is) refl)) (goes new (worse one other) from_here)

-- after the last line
pub goes_last : (each : Bool) (file : List ℕ) (known : Option (List ℕ)) (all rest : List (List ℕ)) (old now : Option (List ℕ)) (so_far : Outcome) → GoesOn each file known all rest old now so_far → rest ≡ [] → AnswersLines each file known all old now so_far
goes_last each file known all rest old now so_far goes none =
    let ended : AnswersLines each file known rest now now Yes = subst (λ (l : List (List ℕ)). AnswersLines each file known l now now Yes) (sym none) (keeps_same now, refl) in
    subst (λ (o : Outcome). AnswersLines each file known all old now o) (worse_yes so_far) (goes now Yes ended)

-- ---- the parts of a question, a line and a text

-- the question was asked with these words
pub asks_same : (each : Bool) (file : List ℕ) (known : Option (List ℕ)) (s t p s' t' p' : List ℕ) (old new : Option (List ℕ)) (outcome : Outcome) → s ≡ s' → t ≡ t' → p ≡ p' → AnswersUnderHeading each file known s t p old new outcome
    → OrNothing (AnswersUnderHeading each file known s' t' p') old new outcome
asks_same each file known s t p s' t' p' old new outcome es et ep asks =
    let one = subst (λ (x : List ℕ). AnswersUnderHeading each file known x t p old new outcome) es asks in
    let two = subst (λ (x : List ℕ). AnswersUnderHeading each file known s' x p old new outcome) et one in
    inl (subst (λ (x : List ℕ). AnswersUnderHeading each file known s' t' x old new outcome) ep two)

-- the words of a line were answered
pub answers_line : (each : Bool) (file : List ℕ) (known : Option (List ℕ)) (ws : List (List ℕ)) (line : List ℕ) (old new : Option (List ℕ)) (outcome : Outcome) → ws ≡ words line → OrNothing (AnswersWords each file known ws) old new outcome
    → AnswersInputLine each file known line old new outcome
answers_line each file known ws line old new outcome same answers = subst (λ (l : List (List ℕ)). OrNothing (AnswersWords each file known l) old new outcome) same answers

-- the lines of a text were answered
pub answers_lines : (each : Bool) (file : List ℕ) (known : Option (List ℕ)) (ls : List (List ℕ)) (text : List ℕ) (old new : Option (List ℕ)) (outcome : Outcome) → ls ≡ lines text → AnswersLines each file known ls old new outcome
    → OrNothing (AnswersLines each file known (lines text)) old new outcome
answers_lines each file known ls text old new outcome same answers = inl (subst (λ (l : List (List ℕ)). AnswersLines each file known l old new outcome) same answers)

-- the bytes are a text, and its lines were answered
pub answers_bytes : (each : Bool) (file : List ℕ) (known : Option (List ℕ)) (text bytes : List ℕ) (old new : Option (List ℕ)) (outcome : Outcome) → text ≡ bytes → OrNothing (AnswersLines each file known (lines text)) old new outcome
    → OrNothing (AnswersLines each file known (lines bytes)) old new outcome
answers_bytes each file known text bytes old new outcome same answers = subst (λ (b : List ℕ). OrNothing (AnswersLines each file known (lines b)) old new outcome) same answers

-- a line without words was skipped
pub none_asked : (X : Type 0) (f : X → List ℕ) (each : Bool) (file : List ℕ) (known : Option (List ℕ)) (ws : List X) (old : Option (List ℕ)) → ws ≡ [] → OrNothing (AnswersWords each file known (map f ws)) old old Yes
none_asked X f each file known ws old none = subst (λ (l : List X). OrNothing (AnswersWords each file known (map f l)) old old Yes) (sym none) (inl (keeps_same old, refl))

-- the three words of a line were asked
pub three_asked : (X : Type 0) (f : X → List ℕ) (each : Bool) (file : List ℕ) (known : Option (List ℕ)) (ws : List X) (s t p : X) (old new : Option (List ℕ)) (outcome : Outcome) → ws ≡ s ∷ t ∷ p ∷ []
    → OrNothing (AnswersUnderHeading each file known (f s) (f t) (f p)) old new outcome → OrNothing (AnswersWords each file known (map f ws)) old new outcome
three_asked X f each file known ws s t p old new outcome same asks = subst (λ (l : List X). OrNothing (AnswersWords each file known (map f l)) old new outcome) (sym same) asks
