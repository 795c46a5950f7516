-- Each handle that a course has was answered to its domain, and what a line asks fits its types.
use Rattle.std.proofs.Common.{◌≡◌, ℕ, refl, List, ◌∷◌, Option, Some, None, sym, ap, ◌∙◌, subst, inl, Bor}
use Rattle.hex.specs.Hex.{IsBytes}
use Rattle.gt_types.specs.declared.DomId.{DomId}
use Rattle.gt_types.specs.declared.GrantRef.{GrantRef}
use Rattle.gt_model.specs.declared.handle.Handle.{Handle}
use Rattle.gt_model.specs.Entries.{IsEntry}
use Rattle.gt_model.specs.declared.entry.Entry.{Entry}
use Rattle.gt_model.specs.Asking.{FitsAsked, asked}
use Rattle.gt_model.specs.declared.request.Request.{Request}
use Rattle.gt_core.specs.Alike.{IsGiven}
use Rattle.gt_model.specs.History.{History}
use Rattle.gt_model.specs.declared.trace.Answer.{Answer}
use Rattle.gt_model.specs.declared.trace.Element.TheVariants as elements
use Rattle.gt_model.specs.declared.trace.Item.{Item}
use Rattle.gt_script_runs.specs.Runs.{Named, MakesRequest, call_bytes, request_of}
use Rattle.gt_script_runs.proofs.AlikeLemmas.{AnswerGiven}
use Rattle.gt_script_lines.specs.declared.calls.ScriptCall.{ScriptCall}
use Rattle.gt_script_lines.specs.declared.calls.ScriptCall.TheVariants as script_calls
use Rattle.gt_explore_replay.specs.Courses.{Course, back_after, course_after}
use Rattle.gt_explore_replay.proofs.Alike.{held_answered, held_grown, held_left, names_grown, names_more}
use Rattle.gt_explore_replay.proofs.EntryFits.{entry-fits, hex-bytes}
use Rattle.gt_script.specs.Lists.{RunTask}
use Rattle.gt_explore_moves.specs.Scenes.{WasAnsweredAll}
use Rattle.gt_explore_moves.specs.Starting.{held_but}

-- handles

-- the handle of an item's answer was answered to its domain
given-now : (h : History) (i : Item) (d : DomId) (a : Answer) → i.actor ≡ d → i.answer ≡ Some a → AnswerGiven (i ∷ h) d.0 a
unfolding IsGiven
given-now h i d a own e handle is = inl (ap (λ (z : DomId). z.0) own, e ∙ ap (λ (z : Answer). Some z) is)

-- what a course has after its line's call began or went on, by this item
pub line-answered : (types : List (List ℕ)) (line : ℕ) (call : ScriptCall) (lost : Option Handle) (h : History) (k : Course) (i : Item) (answer : Option Answer) → WasAnsweredAll h k → i.actor ≡ k.dom → i.answer ≡ answer
    → WasAnsweredAll (i ∷ h) (course_after types line call lost k answer)
line-answered types line call lost h k i None was own e = record { named = names_grown h (elements.Item i) k.named was.named; held = held_grown h (elements.Item i) k.dom.0 k.held was.held }
line-answered types line call lost h k i (Some a) was own e = let given = given-now h i k.dom a own e in record {
  named = names_more (i ∷ h) k.named k.dom call a (names_grown h (elements.Item i) k.named was.named) given;
  held = held_answered (i ∷ h) k.dom.0 k.held lost a (held_grown h (elements.Item i) k.dom.0 k.held was.held) given;
}

-- what it has after a release at the end of its list began or went on
pub back-answered : (h : History) (k : Course) (i : Item) (answer : Option Answer) → WasAnsweredAll h k → WasAnsweredAll (i ∷ h) (back_after k answer)
back-answered h k i None was = record { named = names_grown h (elements.Item i) k.named was.named; held = held_grown h (elements.Item i) k.dom.0 k.held was.held }
back-answered h k i (Some a) was = record { named = names_grown h (elements.Item i) k.named was.named; held = held_grown h (elements.Item i) k.dom.0 k.held was.held }

-- without one of its mappings
pub but-answered : (h : History) (k : Course) (choice : ℕ) → WasAnsweredAll h k → WasAnsweredAll h (held_but k choice)
but-answered h k choice was = record { named = was.named; held = held_left h k.dom.0 choice k.held was.held }

-- before other tasks
pub left-answered : (h : History) (k : Course) (ts : List RunTask) → WasAnsweredAll h k → WasAnsweredAll h (record k { tasks = ts })
left-answered h k ts was = record { named = was.named; held = was.held }

-- a domain keeps its number
pub after-dom : (types : List (List ℕ)) (line : ℕ) (call : ScriptCall) (lost : Option Handle) (k : Course) (answer : Option Answer) → (course_after types line call lost k answer).dom ≡ k.dom
after-dom types line call lost k None = refl
after-dom types line call lost k (Some a) = refl

pub back-dom : (k : Course) (answer : Option Answer) → (back_after k answer).dom ≡ k.dom
back-dom k None = refl
back-dom k (Some a) = refl

-- entries

-- an entry that a line names fits its types
abbrev pub NamesEntry : ScriptCall → Type 0
NamesEntry (script_calls.Grant gref entry) = IsEntry entry
NamesEntry call = Unit {0}

pub names-other : (call : ScriptCall) → ((gref : GrantRef) (entry : Entry) → call ≡ script_calls.Grant gref entry → ⊥) → NamesEntry call
names-other (script_calls.Grant gref entry) other = absurd (other gref entry refl)
names-other call other = tt

said-so : (named : List Named) (dom : DomId) (bytes : Bor (List ℕ)) (call : ScriptCall) → NamesEntry call → bytes.now ≡ call_bytes call → FitsAsked (asked (request_of named dom bytes call))
unfolding request_of
said-so named dom bytes (script_calls.Grant gref entry) fits e = fits
said-so named dom bytes (script_calls.GrantBytes gref hex) fits e = entry-fits bytes.now (subst IsBytes (sym e) (hex-bytes hex))
said-so named dom bytes (script_calls.Revoke gref) fits e = tt
said-so named dom bytes (script_calls.Withdraw gref) fits e = tt
said-so named dom bytes (script_calls.Demote gref) fits e = tt
said-so named dom bytes (script_calls.Promote gref) fits e = tt
said-so named dom bytes (script_calls.Map label to gref flags) fits e = tt
said-so named dom bytes (script_calls.Unmap label) fits e = tt
said-so named dom bytes (script_calls.Load label off len) fits e = tt
said-so named dom bytes (script_calls.Store label off hex) fits e = tt
said-so named dom bytes (script_calls.Peek frame off len) fits e = tt
said-so named dom bytes (script_calls.Poke frame off hex) fits e = tt
said-so named dom bytes (script_calls.Copy c) fits e = tt
said-so named dom bytes (script_calls.SetVersion version) fits e = tt
said-so named dom bytes (script_calls.SetupTable frames) fits e = tt
said-so named dom bytes (script_calls.QuerySize to) fits e = tt
said-so named dom bytes (script_calls.GetVersion to) fits e = tt

-- what a line asks fits its types, if the entry that it names does
pub said-fits : (call : ScriptCall) (named : List Named) (dom : DomId) (request : Request) → NamesEntry call → MakesRequest named dom call request → FitsAsked (asked request)
said-fits call named dom request fits (bytes, e, is) = subst (λ (q : Request). FitsAsked (asked q)) (sym is) (said-so named dom bytes call fits e)
