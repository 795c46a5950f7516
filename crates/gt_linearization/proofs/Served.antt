-- What a list's deeds and lines are: with the calls that got no memory and the gate that stopped it, and without.
use Rattle.std.proofs.Common.{◌≡◌, ◌⊎◌, ◌++◌, ℕ, zero, suc, Bool, true, false, cond, List, [], ◌∷◌, Some}
use Rattle.std.proofs.Common.{append_assoc, refl, sym, ap, ◌∙◌, inl, inr, ◌==◌}
use Rattle.std.specs.Prelude.{slice_get, take}
use Rattle.std.proofs.lemmas.Bool.{false≢true}
use Rattle.gt_types.specs.declared.DomId.{DomId}
use Rattle.gt_types.specs.declared.config.DomainConfig.{DomainConfig}
use Rattle.gt_model.specs.declared.handle.Handle.{Handle}
use Rattle.gt_script_runs.specs.Printing.{answer_line}
use Rattle.gt_script_runs.specs.Runs.{Named}
use Rattle.gt_script.specs.Contents.{type_names}
use Rattle.gt_script.specs.Lists.{RunAction, RunTask}
use Rattle.gt_script.specs.RunContents.{RunContents}
use Rattle.gt_script.specs.RunScripts.{list_of}
use Rattle.gt_script.specs.declared.tasks.RunAction.TheVariants.{Await, Do, Tell}
use Rattle.gt_run.specs.Serving.{AwaitsRefusedFlag, RefusesNone, gate_line}
use Rattle.gt_model.specs.declared.request.Request.{Request}
use Rattle.gt_model.specs.declared.request.Request.TheVariants as requests
use Rattle.gt_explore_replay.specs.Orders.{AllFollow, ActionHappens, FollowsList, Happening, Prints}
use Rattle.gt_linearization.specs.Printed.{AllPrint, GetsNoMemory, GivenTextsArePrinted, ContainsText, ReleasesMappings}
use Rattle.gt_linearization.specs.Printed.{PrintedTextsAreGiven, PrintsList, Starves, StopsAtGate, IsUndisturbed}
use Rattle.gt_linearization.specs.Printed.{no_memory_answer}

-- what follows a line
abbrev Next : Type 1
Next = List Named → List Handle → List Happening → List ℕ → Type 0

-- a domain serves its list; a call may get no memory if Lost, and a gate may stop the list at a line of which Stopped
-- holds
abbrev pub Serves : Type 0 → (RunAction → Type 0) → List (List ℕ) → DomId → List Named → List Handle → List RunTask → List Happening → List ℕ → Type 0
Serves Lost Stopped types dom named held [] hs text = ReleasesMappings dom held hs × (text ≡ [])
Serves Lost Stopped types dom named held (t ∷ ts) hs text =
    ActionHappens types dom named held t.line t.run_action (λ names holds more rest. Serves Lost Stopped types dom names holds ts more rest) hs text
    ⊎ ((Lost × GetsNoMemory types dom named held t.line t.run_action (λ names holds more rest. Serves Lost Stopped types dom names holds ts more rest) hs text)
    ⊎ (Stopped t.run_action × ReleasesMappings dom held hs × (text ≡ gate_line t.line dom)))

abbrev IsEndOf : List ℕ → List ℕ → Type 0
IsEndOf rest text = (before : List ℕ) × (text ≡ before ++ rest)

-- what follows a line changes to what it implies
run_action-map : (types : List (List ℕ)) (dom : DomId) (named : List Named) (held : List Handle) (line : ℕ) (action : RunAction) (N M : Next) (hs : List Happening) (text : List ℕ)
    → ((names : List Named) (holds : List Handle) (more : List Happening) (rest : List ℕ) → IsEndOf rest text → N names holds more rest → M names holds more rest)
    → ActionHappens types dom named held line action N hs text → ActionHappens types dom named held line action M hs text
run_action-map types dom named held line (Tell flag) N M hs text f d = (d.0, d.1, f named held d.0 text ([], refl) d.2)
run_action-map types dom named held line (Await flag) N M hs text f d = (d.0, d.1, f named held d.0 text ([], refl) d.2)
run_action-map types dom named held line (Do call) N M hs text f (request, says, (first, trace, answer, more, is, ends, (rest, printed, then))) =
    (request, says, (first, trace, answer, more, is, ends, (rest, printed, f _ _ more rest (answer_line types line dom answer, printed) then)))

-- a call that got no memory, and what follows it
starves-map : (dom : DomId) (request : Request) (R S : List Happening → Type 0) (hs : List Happening) → ((more : List Happening) → R more → S more) → Starves dom request R hs → Starves dom request S hs
starves-map dom (requests.Copy args) R S hs f s = (s.0, s.1, s.2, s.3, s.4, s.5, (s.6.0, f s.3 s.6.1))
starves-map dom request R S hs f s = (s.0, f hs s.1)

starves-rest : (dom : DomId) (request : Request) (R : List Happening → Type 0) (hs : List Happening) → Starves dom request R hs → (more : List Happening) × R more
starves-rest dom (requests.Copy args) R hs s = (s.3, s.6.1)
starves-rest dom request R hs s = (hs, s.1)

lost-map : (types : List (List ℕ)) (dom : DomId) (named : List Named) (held : List Handle) (line : ℕ) (action : RunAction) (N M : Next) (hs : List Happening) (text : List ℕ)
    → ((names : List Named) (holds : List Handle) (more : List Happening) (rest : List ℕ) → N names holds more rest → M names holds more rest)
    → GetsNoMemory types dom named held line action N hs text → GetsNoMemory types dom named held line action M hs text
lost-map types dom named held line (Tell flag) N M hs text f d = d
lost-map types dom named held line (Await flag) N M hs text f d = d
lost-map types dom named held line (Do call) N M hs text f (request, says, starves) =
    (request, says, starves-map dom request _ _ hs (λ more (rest, printed, then). (rest, printed, f named held more rest then)) starves)

module _ (Lost : Type 0) (Stopped : RunAction → Type 0) (types : List (List ℕ)) (dom : DomId) where
  -- the list is one that a run may print
  pub prints-list : (refuses : ℕ → Bool) → ((run_action : RunAction) → Stopped run_action → AwaitsRefusedFlag refuses run_action) → (ts : List RunTask) (named : List Named) (held : List Handle) (hs : List Happening) (text : List ℕ) → Serves Lost Stopped types dom named held ts hs text → PrintsList refuses types dom named held ts hs text
  prints-list refuses refused [] named held hs text s = s
  prints-list refuses refused (t ∷ ts) named held hs text (inl d) = inl (run_action-map types dom named held t.line t.run_action _ _ hs text (λ names holds more rest end s. prints-list refuses refused ts names holds more rest s) d)
  prints-list refuses refused (t ∷ ts) named held hs text (inr (inl (lost, d))) = inr (inl (lost-map types dom named held t.line t.run_action _ _ hs text (λ names holds more rest s. prints-list refuses refused ts names holds more rest s) d))
  prints-list refuses refused (t ∷ ts) named held hs text (inr (inr (stopped, leaves, is))) = inr (inr (refused t.run_action stopped, leaves, is))

  -- without lost calls and gates the list is followed
  pub follows-list : (Lost → ⊥) → ((run_action : RunAction) → Stopped run_action → ⊥) → (ts : List RunTask) (named : List Named) (held : List Handle) (hs : List Happening) (text : List ℕ) → Serves Lost Stopped types dom named held ts hs text → FollowsList types dom named held ts hs text
  follows-list none passes [] named held hs text s = (s.0.0, s.0.1, s.1)
  follows-list none passes (t ∷ ts) named held hs text (inl d) = run_action-map types dom named held t.line t.run_action _ _ hs text (λ names holds more rest end s. follows-list none passes ts names holds more rest s) d
  follows-list none passes (t ∷ ts) named held hs text (inr (inl (lost, d))) = absurd (none lost)
  follows-list none passes (t ∷ ts) named held hs text (inr (inr (stopped, leaves, is))) = absurd (passes t.run_action stopped)

-- texts without such lines

pub end-part : (part rest text : List ℕ) → IsEndOf rest text → ContainsText part rest → ContainsText part text
end-part part rest text (before, is) (b, r, e) = (before ++ b, r, is ∙ (ap (λ (l : List ℕ). before ++ l) e ∙ sym (append_assoc before b (part ++ r))))

pub start-part : (part one rest text : List ℕ) → text ≡ one ++ rest → ContainsText part one → ContainsText part text
start-part part one rest text is (b, r, e) =
    (b, r ++ rest, is ∙ (ap (λ (l : List ℕ). l ++ rest) e ∙ (append_assoc b (part ++ r) rest ∙ ap (λ (l : List ℕ). b ++ l) (append_assoc part r rest))))

-- a part of a part
pub part-in : (part one text : List ℕ) → ContainsText part one → ContainsText one text → ContainsText part text
part-in part one text p (b, r, e) = end-part part (one ++ r) text (b, e) (start-part part one r (one ++ r) refl p)

-- no line of a gate is in the text, unless the gate refuses no flag anyway
abbrev HasNoGate : (ℕ → Bool) → List ℕ → Type 0
HasNoGate refuses text = RefusesNone refuses ⊎ ((line : ℕ) (dom : DomId) → ContainsText (gate_line line dom) text → ⊥)

no-gate-in : (refuses : ℕ → Bool) (one text : List ℕ) → ((line : ℕ) (dom : DomId) → ContainsText (gate_line line dom) one → ContainsText (gate_line line dom) text) → HasNoGate refuses text → HasNoGate refuses one
no-gate-in refuses one text f (inl none) = inl none
no-gate-in refuses one text f (inr none) = inr (λ line dom part. none line dom (f line dom part))

end-tells : (refuses : ℕ → Bool) (types : List (List ℕ)) (rest text : List ℕ) → IsEndOf rest text → IsUndisturbed refuses types text → IsUndisturbed refuses types rest
end-tells refuses types rest text end none = record {
  memory = λ line dom part. none.memory line dom (end-part (answer_line types line dom no_memory_answer) rest text end part);
  gates = no-gate-in refuses rest text (λ line dom part. end-part (gate_line line dom) rest text end part) none.gates;
}

start-tells : (refuses : ℕ → Bool) (types : List (List ℕ)) (one rest text : List ℕ) → text ≡ one ++ rest → IsUndisturbed refuses types text → IsUndisturbed refuses types one
start-tells refuses types one rest text is none = record {
  memory = λ line dom part. none.memory line dom (start-part (answer_line types line dom no_memory_answer) one rest text is part);
  gates = no-gate-in refuses one text (λ line dom part. start-part (gate_line line dom) one rest text is part) none.gates;
}

lost-line : (types : List (List ℕ)) (dom : DomId) (named : List Named) (held : List Handle) (line : ℕ) (action : RunAction) (N : Next) (hs : List Happening) (text : List ℕ) → GetsNoMemory types dom named held line action N hs text → ContainsText (answer_line types line dom no_memory_answer) text
lost-line types dom named held line (Tell flag) N hs text d = absurd d
lost-line types dom named held line (Await flag) N hs text d = absurd d
lost-line types dom named held line (Do call) N hs text (request, says, starves) =
    let s = starves-rest dom request (λ more. Prints (answer_line types line dom no_memory_answer) (N named held more) text) hs starves in ([], s.1.0, s.1.1)

append-none : (xs : List ℕ) → xs ++ [] ≡ xs
append-none [] = refl
append-none (x ∷ xs) = ap (λ (l : List ℕ). x ∷ l) (append-none xs)

-- a gate that refuses no flag stops no list
pub none-refused : (refuses : ℕ → Bool) (run_action : RunAction) → RefusesNone refuses → AwaitsRefusedFlag refuses run_action → ⊥
unfolding AwaitsRefusedFlag
none-refused refuses (Do call) none refused = refused
none-refused refuses (Tell flag) none refused = refused
none-refused refuses (Await flag) none refused = false≢true (sym (none flag) ∙ refused)

not-stopped : (refuses : ℕ → Bool) (dom : DomId) (held : List Handle) (t : RunTask) (hs : List Happening) (text : List ℕ) → HasNoGate refuses text → StopsAtGate refuses dom held t hs text → ⊥
not-stopped refuses dom held t hs text (inl none) d = none-refused refuses t.run_action none d.0
not-stopped refuses dom held t hs text (inr none) d = none t.line dom ([], [], d.2 ∙ sym (append-none (gate_line t.line dom)))

module _ (refuses : ℕ → Bool) (types : List (List ℕ)) (dom : DomId) where
  list-given : (ts : List RunTask) (named : List Named) (held : List Handle) (hs : List Happening) (text : List ℕ) → IsUndisturbed refuses types text → PrintsList refuses types dom named held ts hs text → FollowsList types dom named held ts hs text
  list-given [] named held hs text none s = (s.0.0, s.0.1, s.1)
  list-given (t ∷ ts) named held hs text none (inl d) = run_action-map types dom named held t.line t.run_action _ _ hs text (λ names holds more rest end s. list-given ts names holds more rest (end-tells refuses types rest text end none) s) d
  list-given (t ∷ ts) named held hs text none (inr (inl d)) = absurd (none.memory t.line dom (lost-line types dom named held t.line t.run_action _ hs text d))
  list-given (t ∷ ts) named held hs text none (inr (inr d)) = absurd (not-stopped refuses dom held t hs text none.gates d)

all-given : (refuses : ℕ → Bool) (c : RunContents) (hs : List Happening) (ds : List DomainConfig) (text : List ℕ) → IsUndisturbed refuses (type_names c.head) text → AllPrint refuses c hs ds text → AllFollow c hs ds text
all-given refuses c hs [] text none all = all
all-given refuses c hs (d ∷ ds) text none (part, (rest, printed, then), list) =
    (part, (rest, printed, all-given refuses c hs ds rest (end-tells refuses (type_names c.head) rest text (part, printed) none) then), list-given refuses (type_names c.head) d.id (list_of c.tasks d.id) [] [] _ part (start-tells refuses (type_names c.head) part rest text printed none) list)

pub printed-given : PrintedTextsAreGiven
printed-given refuses c text (hs, run) none = (hs, record { legal = run.legal; follow = all-given refuses c hs c.head.domains text none run.print; known = run.known; flags = run.flags })

-- and the other way

module _ (refuses : ℕ → Bool) (types : List (List ℕ)) (dom : DomId) where
  list-printed : (ts : List RunTask) (named : List Named) (held : List Handle) (hs : List Happening) (text : List ℕ) → FollowsList types dom named held ts hs text → PrintsList refuses types dom named held ts hs text
  list-printed [] named held hs text s = ((s.0, s.1), s.2)
  list-printed (t ∷ ts) named held hs text d = inl (run_action-map types dom named held t.line t.run_action _ _ hs text (λ names holds more rest end s. list-printed ts names holds more rest s) d)

all-printed : (refuses : ℕ → Bool) (c : RunContents) (hs : List Happening) (ds : List DomainConfig) (text : List ℕ) → AllFollow c hs ds text → AllPrint refuses c hs ds text
all-printed refuses c hs [] text all = all
all-printed refuses c hs (d ∷ ds) text (part, (rest, printed, then), list) =
    (part, (rest, printed, all-printed refuses c hs ds rest then), list-printed refuses (type_names c.head) d.id (list_of c.tasks d.id) [] [] _ part list)

pub given-printed : GivenTextsArePrinted
given-printed refuses c text (hs, order) = (hs, record { legal = order.legal; print = all-printed refuses c hs c.head.domains text order.follow; known = order.known; flags = order.flags })

-- the lines of a domain before the one at which its list stopped, and that one
pub gate-split : (tasks : List RunTask) (n : ℕ) (at : RunTask) (dom : DomId) → slice_get tasks n ≡ Some at → (at.dom.0 == dom.0) ≡ true → (tail : List RunTask) × (list_of tasks dom ≡ list_of (take n tasks) dom ++ at ∷ tail)
gate-split [] n at dom there own = absurd (cc)
gate-split (t ∷ ts) zero at dom there own =
    let same : t ≡ at = cc in
    (list_of ts dom, ap (λ (b : Bool). cond b (t ∷ list_of ts dom) (list_of ts dom)) (ap (λ (z : RunTask). z.dom.0 == dom.0) same ∙ own) ∙ ap (λ (z : RunTask). z ∷ list_of ts dom) same)
gate-split (t ∷ ts) (suc n) at dom there own =
    let rest = gate-split ts n at dom there own in (rest.0, by (t.dom.0 == dom.0) rest.0 rest.1)
  where
    by : (b : Bool) (tail : List RunTask) → list_of ts dom ≡ list_of (take n ts) dom ++ at ∷ tail → cond b (t ∷ list_of ts dom) (list_of ts dom) ≡ cond b (t ∷ list_of (take n ts) dom) (list_of (take n ts) dom) ++ at ∷ tail
    by true tail e = ap (λ (l : List RunTask). t ∷ l) e
    by false tail e = e
