-- What a domain has printed has whole lines.
use Rattle.std.proofs.Common.{◌≡◌, refl, sym, subst, ℕ, zero, suc, List, [], ◌∷◌, ◌++◌, map, Option, Some, None, append_assoc, drop, inl, inr, take}
use Rattle.std.proofs.lemmas.Option.{none-some, same_Some}
use Rattle.std.specs.Prelude.{codes, slice_get, slice_set}
use Rattle.gt_types.specs.declared.DomId.{DomId}
use Rattle.gt_types.specs.declared.config.DomainConfig.{DomainConfig}
use Rattle.gt_model.specs.declared.handle.Handle.{Handle}
use Rattle.gt_model.specs.declared.trace.Answer.{Answer}
use Rattle.gt_script.specs.Lists.{RunAction, RunTask}
use Rattle.gt_script.specs.RunContents.{RunContents}
use Rattle.gt_script.specs.declared.tasks.RunAction.TheVariants.{Do, Tell, Await}
use Rattle.gt_script_lines.specs.declared.calls.ScriptCall.{ScriptCall}
use Rattle.gt_script_runs.specs.Printing.{answer_line, answer_text, call_text}
use Rattle.gt_explore_replay.specs.Courses.{ActionLeads, Course, CourseLeads, OpenLeads, Opened, RestLeads, TurnsLead, back_after, calling}
use Rattle.gt_explore_replay.specs.Courses.{course_after, first_courses, giving, resting}
use Rattle.gt_explore_replay.specs.Orders.{Happening}
use Rattle.gt_explore_search.specs.declared.spaces.Turn.{Turn}
use Rattle.gt_explore_moves.specs.Spaces.{Point, RunComesTo, printed_by}
use Rattle.gt_explore_kinds.specs.Spaces.{HasWholeLines, HaveWholeLines}

-- a line ends with a line end
line_more : (types : List (List ℕ)) (line : ℕ) (dom : DomId) (answer : Answer) (text : List ℕ) → HasWholeLines (text ++ answer_line types line dom answer)
line_more types line dom answer text =
    inr (text ++ (call_text line dom ++ answer_text types answer), sym (append_assoc text (call_text line dom ++ answer_text types answer) (codes "\n")))

after : (types : List (List ℕ)) (line : ℕ) (call : ScriptCall) (lost : Option Handle) (k : Course) (answer : Option Answer) → HasWholeLines k.text → HasWholeLines (course_after types line call lost k answer).text
after types line call lost k None whole = whole
after types line call lost k (Some answer) whole = line_more types line k.dom answer k.text

after_back : (k : Course) (answer : Option Answer) → HasWholeLines k.text → HasWholeLines (back_after k answer).text
after_back k None whole = whole
after_back k (Some answer) whole = whole

back_so : (k j : Course) (answer : Option Answer) → j ≡ back_after k answer → HasWholeLines k.text → HasWholeLines j.text
back_so k j answer is whole = subst (λ (l : Course). HasWholeLines l.text) (sym is) (after_back k answer whole)

after_so : (types : List (List ℕ)) (line : ℕ) (call : ScriptCall) (lost : Option Handle) (k j : Course) (answer : Option Answer) → j ≡ course_after types line call lost k answer → HasWholeLines k.text → HasWholeLines j.text
after_so types line call lost k j answer is whole = subst (λ (l : Course). HasWholeLines l.text) (sym is) (after types line call lost k answer whole)

of_course : (j k : Course) → j ≡ k → HasWholeLines k.text → HasWholeLines j.text
of_course j k is whole = subst (λ (l : Course). HasWholeLines l.text) (sym is) whole

action : (types : List (List ℕ)) (k : Course) (line : ℕ) (left : List RunTask) (a : RunAction) (x : Happening) (j : Course) → ActionLeads types k line left a x j → HasWholeLines k.text → HasWholeLines j.text
action types k line left (Tell flag) x j leads whole = of_course j (record k { tasks = left }) leads.1 whole
action types k line left (Await flag) x j leads whole = of_course j (record k { tasks = left }) leads.1 whole
action types k line left (Do call) x j (request, e, makes, is, left_so) whole =
    after_so types line call _ (record k { tasks = left }) j _ left_so whole

rest : (types : List (List ℕ)) (k : Course) (tasks : List RunTask) (choice : ℕ) (x : Happening) (j : Course) → RestLeads types k tasks choice x j → HasWholeLines k.text → HasWholeLines j.text
rest types k [] choice x j (handle, e, there, is, left_so) whole = back_so (record k { held = take choice k.held ++ drop (suc choice) k.held }) j _ left_so whole
rest types k (t ∷ ts) choice x j leads whole = action types k t.line ts t.run_action x j leads.1 whole

by_opened : (types : List (List ℕ)) (k : Course) (o : Opened) (choice : ℕ) (x : Happening) (j : Course) → OpenLeads types k o choice x j → HasWholeLines k.text → HasWholeLines j.text
by_opened types k resting choice x j leads whole = rest types k k.tasks choice x j leads whole
by_opened types k (calling line call lost) choice x j (first, e, is, left_so) whole = after_so types line call lost k j _ left_so whole
by_opened types k giving choice x j (first, e, is, left_so) whole = back_so k j _ left_so whole

course_moves : (types : List (List ℕ)) (k : Course) (choice : ℕ) (x : Happening) (j : Course) → CourseLeads types k choice x j → HasWholeLines k.text → HasWholeLines j.text
course_moves types k choice x j leads whole = by_opened types k k.opened choice x j leads whole

-- all domains

pub whole_at : (ks : List Course) (at : ℕ) → HaveWholeLines ks → HasWholeLines (printed_by ks at)
whole_at [] at whole = inl refl
whole_at (k ∷ ks) zero whole = whole.0
whole_at (k ∷ ks) (suc at) whole = whole_at ks at whole.1

of_one : (ks : List Course) (at : ℕ) (k : Course) → slice_get ks at ≡ Some k → HaveWholeLines ks → HasWholeLines k.text
of_one [] at k there whole = absurd (none-some k there)
of_one (l ∷ ks) zero k there whole = subst (λ (m : Course). HasWholeLines m.text) (same_Some l k there) whole.0
of_one (l ∷ ks) (suc at) k there whole = of_one ks at k there whole.1

one_set : (ks : List Course) (at : ℕ) (j : Course) → HasWholeLines j.text → HaveWholeLines ks → HaveWholeLines (slice_set ks at j)
one_set [] at j own whole = tt
one_set (k ∷ ks) zero j own whole = (own, whole.1)
one_set (k ∷ ks) (suc at) j own whole = (whole.0, one_set ks at j own whole.1)

moved : (types : List (List ℕ)) (ks : List Course) (at choice : ℕ) (k j : Course) (x : Happening) → slice_get ks at ≡ Some k → CourseLeads types k choice x j → HaveWholeLines ks → HaveWholeLines (slice_set ks at j)
moved types ks at choice k j x there leads whole = one_set ks at j (course_moves types k choice x j leads (of_one ks at k there whole)) whole

-- after a move of a run
pub whole_next : (p : Point) (turn : Turn) (q : Point) → RunComesTo p turn q → HaveWholeLines p.courses → HaveWholeLines q.courses
whole_next p turn q next whole = subst HaveWholeLines (sym next.courses) (moved _ p.courses turn.place turn.choice next.k next.j next.x next.there next.leads whole)

-- after the turns of an order
pub whole_turns : (types : List (List ℕ)) (ks : List Course) (hs : List Happening) (ts : List Turn) (ls : List Course) → TurnsLead types ks hs ts ls → HaveWholeLines ks → HaveWholeLines ls
whole_turns types ks [] [] ls leads whole = subst HaveWholeLines leads whole
whole_turns types ks (x ∷ hs) (t ∷ ts) ls (k, j, there, leads, more) whole =
    whole_turns types (slice_set ks t.place j) hs ts ls more (moved types ks t.place t.choice k j x there leads whole)
whole_turns types ks [] (t ∷ ts) ls leads whole = absurd leads
whole_turns types ks (x ∷ hs) [] ls leads whole = absurd leads

firsts : (make : DomainConfig → Course) → ((d : DomainConfig) → (make d).text ≡ []) → (ds : List DomainConfig) → HaveWholeLines (map make ds)
firsts make none [] = tt
firsts make none (d ∷ ds) = (inl (none d), firsts make none ds)

-- at the beginning
pub whole_first : (c : RunContents) → HaveWholeLines (first_courses c)
whole_first c = firsts _ (λ d. refl) c.head.domains
