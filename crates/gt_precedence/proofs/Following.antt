-- A domain that follows its list, up to one of its tasks and from there on, and without the tasks of a flag.
use Rattle.std.proofs.Common.{◌≡◌, ℕ, suc, Bool, true, false, cond, not, List, [], ◌∷◌, ◌++◌, length, Option, Some, None}
use Rattle.std.proofs.Common.{◌⊎◌, inl, inr, refl, ap, sym, ◌∙◌, subst, arith, append_assoc}
use Rattle.std.specs.Prelude.{◌==◌, filter}
use Rattle.std.specs.Option.{is_some}
use Rattle.gt_precedence.specs.Prelude.{DomId, Handle, Request, Release, Answer, Element, Event, Begin, Tick, answer_in, AnswerNothing}
use Rattle.gt_precedence.specs.Prelude.{EndsWith, MakesRequest, Named, ScriptCall, RunAction, RunTask, Do, Tell, Await, is_call, answer_line}
use Rattle.gt_precedence.specs.Prelude.{with_name, label_given, handle_given, given_up, held_after}
use Rattle.gt_precedence.specs.Prelude.{Happening, did, raised, passed, ticks_of, GivesMappingsBack}
use Rattle.gt_precedence.specs.Prelude.{FollowsList}
use Rattle.gt_precedence.specs.Precedence.{answers_call, begins_call, calls_of}
use Rattle.gt_precedence.proofs.Lists.{count, count-append, count-no, count-yes}
use Rattle.gt_precedence.proofs.Happenings.{erased}

-- one call

ticks-begin-nothing : (dom : DomId) (trace : List Element) → count begins_call (ticks_of dom trace) ≡ 0
ticks-begin-nothing dom [] = refl
ticks-begin-nothing dom (x ∷ trace) = ticks-begin-nothing dom trace

ticks-unerased : (F : ℕ) (dom : DomId) (trace : List Element) (more : List Happening) → erased F (ticks_of dom trace ++ more) ≡ ticks_of dom trace ++ erased F more
ticks-unerased F dom [] more = refl
ticks-unerased F dom (x ∷ trace) more = ap (λ (l : List Happening). did (Tick dom) x ∷ l) (ticks-unerased F dom trace more)

-- the last of these has the answer: what is before it answers nothing
pub record Ended (dom : DomId) (first : Happening) (trace : List Element) (answer : Answer) : Type 0 where
  pub front : List Happening
  pub last : Happening
  pub parts : first ∷ ticks_of dom trace ≡ front ++ last ∷ []
  pub quiet : count answers_call front ≡ 0
  pub event : Event
  pub element : Element
  pub shows : last ≡ did event element
  pub is : answer_in element ≡ Some answer

pub ends-call : (last : Happening) (event : Event) (element : Element) (answer : Answer) → last ≡ did event element → answer_in element ≡ Some answer → answers_call last ≡ true
ends-call last event element answer shows is = rw (shows, is) refl

none-answers : {A : Type 0} (o : Option A) → o ≡ None → is_some o ≡ false
none-answers o e = rw e refl

ended-ticks : (dom : DomId) (x : Element) (trace before : List Element) (last : Element) (answer : Answer) → x ∷ trace ≡ before ++ last ∷ [] → AnswerNothing before → answer_in last ≡ Some answer → Ended dom (did (Tick dom) x) trace answer
ended-ticks dom x trace [] last answer order quiet is = let same : x ≡ last = cc in let none : trace ≡ [] = cc in record {
  front = [];
  last = did (Tick dom) x;
  parts = ap (λ (l : List Element). did (Tick dom) x ∷ ticks_of dom l) none;
  quiet = refl;
  event = Tick dom;
  element = x;
  shows = refl;
  is = ap answer_in same ∙ is;
}
ended-ticks dom x [] (b ∷ []) last answer order quiet is = absurd (cc)
ended-ticks dom x [] (b ∷ (z ∷ before)) last answer order quiet is = absurd (cc)
ended-ticks dom x (y ∷ trace) (b ∷ before) last answer order quiet is =
    let same : x ≡ b = cc in let rest : y ∷ trace ≡ before ++ last ∷ [] = cc in
    let ended = ended-ticks dom y trace before last answer rest quiet.1 is in record {
      front = did (Tick dom) x ∷ ended.front;
      last = ended.last;
      parts = ap (λ (l : List Happening). did (Tick dom) x ∷ l) ended.parts;
      quiet = count-no answers_call (did (Tick dom) x) ended.front (none-answers (answer_in x) (ap answer_in same ∙ quiet.0)) ∙ ended.quiet;
      event = ended.event;
      element = ended.element;
      shows = ended.shows;
      is = ended.is;
    }

pub call-ended : (dom : DomId) (request : Request) (first : Element) (trace : List Element) (answer : Answer) → EndsWith (first ∷ trace) answer → Ended dom (did (Begin dom request) first) trace answer
call-ended dom request first trace answer ends = by trace ends.before ends.order ends.quiet where
  by : (trace before : List Element) → first ∷ trace ≡ before ++ ends.last ∷ [] → AnswerNothing before → Ended dom (did (Begin dom request) first) trace answer
  by trace [] order quiet = let same : first ≡ ends.last = cc in let none : trace ≡ [] = cc in record {
    front = [];
    last = did (Begin dom request) first;
    parts = ap (λ (l : List Element). did (Begin dom request) first ∷ ticks_of dom l) none;
    quiet = refl;
    event = Begin dom request;
    element = first;
    shows = refl;
    is = ap answer_in same ∙ ends.answers;
  }
  by [] (b ∷ []) order quiet = absurd (cc)
  by [] (b ∷ (z ∷ before)) order quiet = absurd (cc)
  by (y ∷ trace) (b ∷ before) order quiet =
      let same : first ≡ b = cc in let rest : y ∷ trace ≡ before ++ ends.last ∷ [] = cc in
      let ended = ended-ticks dom y trace before ends.last answer rest quiet.1 ends.answers in record {
        front = did (Begin dom request) first ∷ ended.front;
        last = ended.last;
        parts = ap (λ (l : List Happening). did (Begin dom request) first ∷ l) ended.parts;
        quiet = count-no answers_call (did (Begin dom request) first) ended.front (none-answers (answer_in first) (ap answer_in same ∙ quiet.0)) ∙ ended.quiet;
        event = ended.event;
        element = ended.element;
        shows = ended.shows;
        is = ended.is;
      }

one-answer : (dom : DomId) (first : Happening) (trace : List Element) (answer : Answer) → Ended dom first trace answer → count answers_call (first ∷ ticks_of dom trace) ≡ 1
one-answer dom first trace answer ended =
    ap (count answers_call) ended.parts ∙ count-append answers_call ended.front (ended.last ∷ [])
    ∙ let last = count-yes answers_call ended.last [] (ends-call ended.last ended.event ended.element answer ended.shows ended.is) in let quiet = ended.quiet in omega (arith, last, quiet)

module _ (types : List (List ℕ)) (dom : DomId) where
  -- what is left of a list after its first tasks
  abbrev Left : List RunTask → List Named → List Handle → List Happening → List ℕ → Type 0
  Left ts names holds more rest = FollowsList types dom names holds ts more rest

  -- a domain has taken these tasks by its first happenings, and then follows the rest of its list; it may then follow any
  -- other rest that prints the same
  pub record Cut (named : List Named) (held : List Handle) (l r : List RunTask) (hs : List Happening) (text : List ℕ) : Type 0 where
    pub own : List Happening
    pub left : List Happening
    pub names : List Named
    pub holds : List Handle
    pub told : List ℕ
    pub rest : List ℕ
    pub parts : hs ≡ own ++ left
    pub printed : text ≡ told ++ rest
    pub follows : FollowsList types dom names holds r left rest
    pub again : (s : List RunTask) (new : List Happening) → FollowsList types dom names holds s new rest → FollowsList types dom named held (l ++ s) (own ++ new) text
    pub begun : count begins_call own ≡ length (calls_of l)
    pub answered : count answers_call own ≡ length (calls_of l)

  cut-next : (line : ℕ) (k : DomId) (a : RunAction) (l r : List RunTask) (named : List Named) (held : List Handle) (hs : List Happening) (text : List ℕ)
      → ((names : List Named) (holds : List Handle) (more : List Happening) (rest : List ℕ) → FollowsList types dom names holds (l ++ r) more rest → Cut names holds l r more rest)
      → FollowsList types dom named held (record { line = line; dom = k; run_action = a } ∷ (l ++ r)) hs text → Cut named held (record { line = line; dom = k; run_action = a } ∷ l) r hs text
  cut-next line k (Tell flag) l r named held hs text next (more, is, after) = let cut = next named held more text after in record {
    own = raised dom flag ∷ cut.own;
    left = cut.left;
    names = cut.names;
    holds = cut.holds;
    told = cut.told;
    rest = cut.rest;
    parts = is ∙ ap (λ (z : List Happening). raised dom flag ∷ z) cut.parts;
    printed = cut.printed;
    follows = cut.follows;
    again = λ s new goes. (cut.own ++ new, refl, cut.again s new goes);
    begun = cut.begun;
    answered = cut.answered;
  }
  cut-next line k (Await flag) l r named held hs text next (more, is, after) = let cut = next named held more text after in record {
    own = passed dom flag ∷ cut.own;
    left = cut.left;
    names = cut.names;
    holds = cut.holds;
    told = cut.told;
    rest = cut.rest;
    parts = is ∙ ap (λ (z : List Happening). passed dom flag ∷ z) cut.parts;
    printed = cut.printed;
    follows = cut.follows;
    again = λ s new goes. (cut.own ++ new, refl, cut.again s new goes);
    begun = cut.begun;
    answered = cut.answered;
  }
  cut-next line k (Do call) l r named held hs text next (request, makes, (first, trace, answer, more, is, ends, (told, printed, after))) =
      let cut = next (with_name named dom (label_given call) (handle_given answer)) (held_after held (given_up request) answer) more told after in
      let one = one-answer dom (did (Begin dom request) first) trace answer (call-ended dom request first trace answer ends) in record {
        own = did (Begin dom request) first ∷ (ticks_of dom trace ++ cut.own);
        left = cut.left;
        names = cut.names;
        holds = cut.holds;
        told = answer_line types line dom answer ++ cut.told;
        rest = cut.rest;
        printed = printed ∙ ap (λ (z : List ℕ). answer_line types line dom answer ++ z) cut.printed ∙ sym (append_assoc (answer_line types line dom answer) cut.told cut.rest);
        parts = is ∙ ap (λ (z : List Happening). did (Begin dom request) first ∷ (ticks_of dom trace ++ z)) cut.parts
            ∙ ap (λ (z : List Happening). did (Begin dom request) first ∷ z) (sym (append_assoc (ticks_of dom trace) cut.own cut.left));
        follows = cut.follows;
        again = λ s new goes.
            (request, makes, (first, trace, answer, cut.own ++ new, ap (λ (z : List Happening). did (Begin dom request) first ∷ z) (append_assoc (ticks_of dom trace) cut.own new), ends, (told, printed, cut.again s new goes)));
        begun = ap suc (count-append begins_call (ticks_of dom trace) cut.own ∙ let none = ticks-begin-nothing dom trace in let some = cut.begun in omega (arith, none, some));
        answered = count-append answers_call (did (Begin dom request) first ∷ ticks_of dom trace) cut.own ∙ let some = cut.answered in omega (arith, one, some);
      }

  pub cut : (l r : List RunTask) (named : List Named) (held : List Handle) (hs : List Happening) (text : List ℕ) → FollowsList types dom named held (l ++ r) hs text → Cut named held l r hs text
  cut [] r named held hs text follows = record {
    own = [];
    left = hs;
    names = named;
    holds = held;
    told = [];
    rest = text;
    parts = refl;
    printed = refl;
    follows = follows;
    again = λ s new goes. goes;
    begun = refl;
    answered = refl;
  }
  cut (t ∷ l) r named held hs text follows = cut-next t.line t.dom t.run_action l r named held hs text (cut l r) follows

  -- the beginning of a call asks what its line asks, and its answer is printed on that line
  pub record Shown (named : List Named) (t : RunTask) (begun last : Happening) (text : List ℕ) : Type 0 where
    pub call : ScriptCall
    pub does : t.run_action ≡ Do call
    pub request : Request
    pub asks : MakesRequest named dom call request
    pub first : Element
    pub starts : begun ≡ did (Begin dom request) first
    pub event : Event
    pub element : Element
    pub ends : last ≡ did event element
    pub answer : Answer
    pub answers : answer_in element ≡ Some answer
    pub more : List ℕ
    pub printed : text ≡ answer_line types t.line dom answer ++ more

  -- a domain takes a call, and then follows the rest of its list; it may then follow any other rest that prints the same
  pub record Called (named : List Named) (held : List Handle) (t : RunTask) (r : List RunTask) (hs : List Happening) (text : List ℕ) : Type 0 where
    pub begun : Happening
    pub later : List Happening
    pub starts : hs ≡ begun ∷ later
    pub begins : begins_call begun ≡ true
    pub front : List Happening
    pub last : Happening
    pub more : List Happening
    pub parts : hs ≡ front ++ last ∷ more
    pub quiet : count answers_call front ≡ 0
    pub answers : answers_call last ≡ true
    pub shown : Shown named t begun last text
    pub names : List Named
    pub holds : List Handle
    pub rest : List ℕ
    pub follows : FollowsList types dom names holds r more rest
    pub again : (s : List RunTask) (new : List Happening) → FollowsList types dom names holds s new rest → FollowsList types dom named held (t ∷ s) (front ++ last ∷ new) text

  called-by : (line : ℕ) (k : DomId) (a : RunAction) (r : List RunTask) (named : List Named) (held : List Handle) (hs : List Happening) (text : List ℕ) → is_call a ≡ true
      → FollowsList types dom named held (record { line = line; dom = k; run_action = a } ∷ r) hs text → Called named held (record { line = line; dom = k; run_action = a }) r hs text
  called-by line k (Tell flag) r named held hs text is-call follows = absurd (cc)
  called-by line k (Await flag) r named held hs text is-call follows = absurd (cc)
  called-by line k (Do call) r named held hs text is-call (request, makes, (first, trace, answer, more, is, ends, (told, printed, after))) =
      let ended = call-ended dom request first trace answer ends in
      let whole : (new : List Happening) → did (Begin dom request) first ∷ (ticks_of dom trace ++ new) ≡ ended.front ++ ended.last ∷ new =
      λ new. ap (λ (z : List Happening). z ++ new) ended.parts ∙ append_assoc ended.front (ended.last ∷ []) new in record {
        begun = did (Begin dom request) first;
        later = ticks_of dom trace ++ more;
        starts = is;
        begins = refl;
        front = ended.front;
        last = ended.last;
        more = more;
        parts = is ∙ whole more;
        quiet = ended.quiet;
        answers = ends-call ended.last ended.event ended.element answer ended.shows ended.is;
        shown = record {
          call = call;
          does = refl;
          request = request;
          asks = makes;
          first = first;
          starts = refl;
          event = ended.event;
          element = ended.element;
          ends = ended.shows;
          answer = answer;
          answers = ended.is;
          more = told;
          printed = printed;
        };
        names = with_name named dom (label_given call) (handle_given answer);
        holds = held_after held (given_up request) answer;
        rest = told;
        follows = after;
        again = λ s new goes. (request, makes, (first, trace, answer, new, sym (whole new), ends, (told, printed, goes)));
      }

  pub called : (t : RunTask) (r : List RunTask) (named : List Named) (held : List Handle) (hs : List Happening) (text : List ℕ) → is_call t.run_action ≡ true → FollowsList types dom named held (t ∷ r) hs text → Called named held t r hs text
  called t r named held hs text is-call follows = called-by t.line t.dom t.run_action r named held hs text is-call follows

  -- without a flag

  gives-unerased : (F : ℕ) (order held : List Handle) (hs : List Happening) → GivesMappingsBack dom order held hs → GivesMappingsBack dom order held (erased F hs)
  gives-unerased F [] held hs (none, is) = (none, ap (erased F) is)
  gives-unerased F (handle ∷ order) held hs (before, after, of, (first, trace, answer, more, is, ends, goes)) =
      (before, after, of, (first, trace, answer, erased F more, ap (erased F) is ∙ ap (λ (z : List Happening). did (Begin dom (Release handle)) first ∷ z) (ticks-unerased F dom trace more), ends, gives-unerased F order (before ++ after) more goes))

-- the action raises or awaits the flag of this number
abbrev pub names_flag : ℕ → RunAction → Bool
names_flag F (Do call) = false
names_flag F (Tell flag) = flag == F
names_flag F (Await flag) = flag == F

-- tasks without a flag
abbrev pub without_flag : ℕ → List RunTask → List RunTask
without_flag F ts = filter (λ t. not (names_flag F t.run_action)) ts

-- the number of calls before a task that raises the flag
abbrev pub RaisesHere : ℕ → RunAction → (ℕ → Type 0) → ℕ → Type 0
RaisesHere F (Do call) Later n = (m : ℕ) × (n ≡ suc m) × Later m
RaisesHere F (Tell flag) Later n = ((flag ≡ F) × (n ≡ 0)) ⊎ Later n
RaisesHere F (Await flag) Later n = Later n

abbrev pub Raises : ℕ → List RunTask → ℕ → Type 0
Raises F [] n = ⊥
Raises F (t ∷ ts) n = RaisesHere F t.run_action (Raises F ts) n

module _ (types : List (List ℕ)) (dom : DomId) (F : ℕ) where
  erases-next : (line : ℕ) (k : DomId) (a : RunAction) (ts : List RunTask) (named : List Named) (held : List Handle) (hs : List Happening) (text : List ℕ)
      → ((names : List Named) (holds : List Handle) (more : List Happening) (rest : List ℕ) → FollowsList types dom names holds ts more rest → FollowsList types dom names holds (without_flag F ts) (erased F more) rest)
      → FollowsList types dom named held (record { line = line; dom = k; run_action = a } ∷ ts) hs text
      → FollowsList types dom named held (without_flag F (record { line = line; dom = k; run_action = a } ∷ ts)) (erased F hs) text
  erases-next line k (Tell flag) ts named held hs text next (more, is, after) =
      subst (λ (z : List Happening). FollowsList types dom named held (without_flag F (record { line = line; dom = k; run_action = Tell flag } ∷ ts)) (erased F z) text) (sym is) (by (flag == F) (next named held more text after))
    where
      by : (b : Bool) → FollowsList types dom named held (without_flag F ts) (erased F more) text
          → FollowsList types dom named held (cond (not b) (record { line = line; dom = k; run_action = Tell flag } ∷ without_flag F ts) (without_flag F ts)) (cond (not b) (raised dom flag ∷ erased F more) (erased F more)) text
      by true rest = rest
      by false rest = (erased F more, refl, rest)
  erases-next line k (Await flag) ts named held hs text next (more, is, after) =
      subst (λ (z : List Happening). FollowsList types dom named held (without_flag F (record { line = line; dom = k; run_action = Await flag } ∷ ts)) (erased F z) text) (sym is) (by (flag == F) (next named held more text after))
    where
      by : (b : Bool) → FollowsList types dom named held (without_flag F ts) (erased F more) text
          → FollowsList types dom named held (cond (not b) (record { line = line; dom = k; run_action = Await flag } ∷ without_flag F ts) (without_flag F ts)) (cond (not b) (passed dom flag ∷ erased F more) (erased F more)) text
      by true rest = rest
      by false rest = (erased F more, refl, rest)
  erases-next line k (Do call) ts named held hs text next (request, makes, (first, trace, answer, more, is, ends, (told, printed, after))) = (
    request,
    makes,
    (
      first,
      trace,
      answer,
      erased F more,
      ap (erased F) is ∙ ap (λ (z : List Happening). did (Begin dom request) first ∷ z) (ticks-unerased F dom trace more),
      ends,
      (told, printed, next (with_name named dom (label_given call) (handle_given answer)) (held_after held (given_up request) answer) more told after),
    ),
  )

  pub erases : (ts : List RunTask) (named : List Named) (held : List Handle) (hs : List Happening) (text : List ℕ) → FollowsList types dom named held ts hs text → FollowsList types dom named held (without_flag F ts) (erased F hs) text
  erases [] named held hs text (order, gives, is) = (order, gives-unerased types dom F order held hs gives, is)
  erases (t ∷ ts) named held hs text follows = erases-next t.line t.dom t.run_action ts named held hs text (erases ts) follows

  -- a flag is raised beyond these ticks
  beyond-ticks : (trace : List Element) (more u v : List Happening) (e : DomId) → ticks_of dom trace ++ more ≡ u ++ raised e F ∷ v → (w : List Happening) × (u ≡ ticks_of dom trace ++ w) × (more ≡ w ++ raised e F ∷ v)
  beyond-ticks [] more u v e is = (u, refl, is)
  beyond-ticks (x ∷ trace) more [] v e is = absurd (cc)
  beyond-ticks (x ∷ trace) more (z ∷ u) v e is =
      let same : did (Tick dom) x ≡ z = cc in let rest : ticks_of dom trace ++ more ≡ u ++ raised e F ∷ v = cc in
      let (w, front, back) = beyond-ticks trace more u v e rest in
      (w, ap (λ (y : Happening). y ∷ u) (sym same) ∙ ap (λ (l : List Happening). did (Tick dom) x ∷ l) front, back)

  -- and beyond this call
  beyond-call : (request : Request) (first : Element) (trace : List Element) (more u v : List Happening) (e : DomId) → did (Begin dom request) first ∷ (ticks_of dom trace ++ more) ≡ u ++ raised e F ∷ v
      → (w : List Happening) × (u ≡ (did (Begin dom request) first ∷ ticks_of dom trace) ++ w) × (more ≡ w ++ raised e F ∷ v)
  beyond-call request first trace more [] v e is = absurd (cc)
  beyond-call request first trace more (z ∷ u) v e is =
      let same : did (Begin dom request) first ≡ z = cc in let rest : ticks_of dom trace ++ more ≡ u ++ raised e F ∷ v = cc in
      let (w, front, back) = beyond-ticks trace more u v e rest in
      (w, ap (λ (y : Happening). y ∷ u) (sym same) ∙ ap (λ (l : List Happening). did (Begin dom request) first ∷ l) front, back)

  gives-raise-nothing : (order held : List Handle) (hs u v : List Happening) (e : DomId) → GivesMappingsBack dom order held hs → hs ≡ u ++ raised e F ∷ v → ⊥
  gives-raise-nothing [] held hs [] v e (none, is) there = let gone : [] ≡ raised e F ∷ v = sym is ∙ there in absurd (cc)
  gives-raise-nothing [] held hs (z ∷ u) v e (none, is) there = let gone : [] ≡ z ∷ (u ++ raised e F ∷ v) = sym is ∙ there in absurd (cc)
  gives-raise-nothing (handle ∷ order) held hs u v e (before, after, of, (first, trace, answer, more, is, ends, goes)) there =
      let (w, front, back) = beyond-call (Release handle) first trace more u v e (sym is ∙ there) in
      gives-raise-nothing order (before ++ after) more w v e goes back

  raises-next : (line : ℕ) (k : DomId) (a : RunAction) (ts : List RunTask) (named : List Named) (held : List Handle) (hs u v : List Happening) (e : DomId) (text : List ℕ)
      → ((names : List Named) (holds : List Handle) (more w : List Happening) (rest : List ℕ) → FollowsList types dom names holds ts more rest → more ≡ w ++ raised e F ∷ v → Raises F ts (count answers_call w))
      → FollowsList types dom named held (record { line = line; dom = k; run_action = a } ∷ ts) hs text → hs ≡ u ++ raised e F ∷ v → RaisesHere F a (Raises F ts) (count answers_call u)
  raises-next line k (Tell flag) ts named held hs [] v e text next (more, is, after) there =
      let one : raised dom flag ∷ more ≡ raised e F ∷ v = sym is ∙ there in let same : flag ≡ F = cc in inl (same, refl)
  raises-next line k (Tell flag) ts named held hs (z ∷ u) v e text next (more, is, after) there =
      let one : raised dom flag ∷ more ≡ z ∷ (u ++ raised e F ∷ v) = sym is ∙ there in let same : raised dom flag ≡ z = cc in let rest : more ≡ u ++ raised e F ∷ v = cc in
      inr (subst (λ (y : Happening). Raises F ts (count answers_call (y ∷ u))) same (next named held more u text after rest))
  raises-next line k (Await flag) ts named held hs [] v e text next (more, is, after) there =
      let one : passed dom flag ∷ more ≡ raised e F ∷ v = sym is ∙ there in absurd (cc)
  raises-next line k (Await flag) ts named held hs (z ∷ u) v e text next (more, is, after) there =
      let one : passed dom flag ∷ more ≡ z ∷ (u ++ raised e F ∷ v) = sym is ∙ there in let same : passed dom flag ≡ z = cc in let rest : more ≡ u ++ raised e F ∷ v = cc in
      subst (λ (y : Happening). Raises F ts (count answers_call (y ∷ u))) same (next named held more u text after rest)
  raises-next line k (Do call) ts named held hs u v e text next (request, makes, (first, trace, answer, more, is, ends, (told, printed, after))) there =
      let (w, front, back) = beyond-call request first trace more u v e (sym is ∙ there) in
      let one = one-answer dom (did (Begin dom request) first) trace answer (call-ended dom request first trace answer ends) in
      let all = ap (count answers_call) front ∙ count-append answers_call (did (Begin dom request) first ∷ ticks_of dom trace) w in
      (count answers_call w, omega (arith, one, all), next (with_name named dom (label_given call) (handle_given answer)) (held_after held (given_up request) answer) more w told after back)

  -- where a domain raises the flag, it has the answers of the calls before a task that does so
  pub raises : (ts : List RunTask) (named : List Named) (held : List Handle) (hs u v : List Happening) (e : DomId) (text : List ℕ) → FollowsList types dom named held ts hs text → hs ≡ u ++ raised e F ∷ v → Raises F ts (count answers_call u)
  raises [] named held hs u v e text (order, gives, is) there = gives-raise-nothing order held hs u v e gives there
  raises (t ∷ ts) named held hs u v e text follows there = raises-next t.line t.dom t.run_action ts named held hs u v e text (λ names holds more w rest. raises ts names holds more w v e rest) follows there
