-- A domain that follows its list in an order follows the changed list in the order done again.
use Rattle.std.proofs.Common.{◌≡◌, ℕ, Bool, true, false, cond, List, [], ◌∷◌, ◌++◌, map, length, Option, Some, None}
use Rattle.std.proofs.Common.{◌⊎◌, inl, inr, refl, ap, sym, ◌∙◌, subst}
use Rattle.std.proofs.lemmas.Option.{none-some, same_Some}
use Rattle.std.specs.Prelude.{◌==◌}
use Rattle.gt_core.proofs.Words.{eqb-true}
use Rattle.gt_types.specs.declared.DomId.{DomId}
use Rattle.gt_types.specs.declared.TypeId.{TypeId}
use Rattle.gt_model.specs.declared.handle.Handle.{Handle}
use Rattle.gt_model.specs.declared.request.Request.{Request}
use Rattle.gt_model.specs.declared.request.Request.TheVariants as requests
use Rattle.gt_model.specs.History.{Setting}
use Rattle.gt_model.specs.Legal.{actor_of}
use Rattle.gt_model.specs.declared.trace.Answer.{Answer}
use Rattle.gt_model.specs.declared.trace.Answer.TheVariants as answers
use Rattle.gt_model.specs.declared.trace.Element.{Element}
use Rattle.gt_model.specs.declared.trace.Event.{Event}
use Rattle.gt_model.specs.declared.trace.Event.TheVariants.{Begin, Tick}
use Rattle.gt_script_lines.specs.Hexadecimal.{hex_bytes}
use Rattle.gt_script_lines.specs.declared.calls.ScriptCall.{ScriptCall}
use Rattle.gt_script_lines.specs.declared.calls.ScriptCall.TheVariants as script_calls
use Rattle.gt_script.specs.Lists.{RunAction, RunTask}
use Rattle.gt_script.specs.declared.tasks.RunAction.TheVariants.{Await, Do, Tell}
use Rattle.gt_script_runs.specs.Printing.{answer_line}
use Rattle.gt_script_runs.specs.Runs.{AnswerNothing, EndsWith, MakesRequest, Named, answer_in, handle_given}
use Rattle.gt_script_runs.specs.Runs.{label_given, request_of, with_name}
use Rattle.gt_explore_replay.specs.Orders.{Happening, did, raised, passed, doer, own_happenings, ticks_of}
use Rattle.gt_explore_replay.specs.Orders.{CallHappens, GivesMappingsBack, FollowsList, ActionHappens, Prints, given_up}
use Rattle.gt_explore_replay.specs.Orders.{held_after}
use Rattle.gt_flow.specs.Low.{is_high}
use Rattle.gt_flow.specs.OtherBytes.{unread}
use Rattle.gt_flow.proofs.Matched.{fitted, fitted-all}
use Rattle.gt_flow_runs.specs.Secrets.{SameAction, SameAnswers, SameButStored, SameAnswerLines, unread_line}
use Rattle.gt_flow_runs.proofs.Redone.{IsRedone, SameIf, later, left_of, lists_after, redone_event, redone_request}
use Rattle.gt_flow_runs.proofs.Redone.{with_action, with_stored}

module _ (s : Setting) (high : TypeId → Bool) where
  -- what one domain does, done again with the rest of its list
  abbrev pub IsOwn : Bool → List RunTask → List Happening → List Happening → Type 0
  IsOwn b ts [] [] = Unit {0}
  IsOwn b ts (did e x ∷ hs) (did f y ∷ ks) = (f ≡ redone_event b ts e) × SameIf s high b (answer_in x) (answer_in y) × IsOwn b (left_of (did e x) ts) hs ks
  IsOwn b ts (raised d flag ∷ hs) (raised k other ∷ ks) = (raised d flag ≡ raised k other) × IsOwn b (later ts) hs ks
  IsOwn b ts (passed d flag ∷ hs) (passed k other ∷ ks) = (passed d flag ≡ passed k other) × IsOwn b (later ts) hs ks
  IsOwn b ts _ _ = ⊥

  pub same-doer : (b : Bool) (ts : List RunTask) (e : Event) → actor_of (redone_event b ts e) ≡ actor_of e
  same-doer b ts (Begin d q) = refl
  same-doer b ts (Tick d) = refl

  -- the same for the happenings that pass a filter
  own-did : (dom : DomId) (l : ℕ → List RunTask) (e f : Event) (x y : Element) (hs ks : List Happening) (c : Bool) → ((actor_of e).0 == dom.0) ≡ c
      → f ≡ redone_event (is_high s high (actor_of e)) (l (actor_of e).0) e → SameIf s high (is_high s high (actor_of e)) (answer_in x) (answer_in y)
      → IsOwn (is_high s high dom) (cond c (left_of (did e x) (l dom.0)) (l dom.0)) (own_happenings dom hs) (own_happenings dom ks)
      → IsOwn (is_high s high dom) (l dom.0) (cond c (did e x ∷ own_happenings dom hs) (own_happenings dom hs)) (cond c (did f y ∷ own_happenings dom ks) (own_happenings dom ks))
  own-did dom l e f x y hs ks true own is same rest = let me : actor_of e ≡ dom = ap {B = DomId} (λ (n : ℕ). record { 0 = n }) (eqb-true (actor_of e).0 dom.0 own) in
      (subst (λ (d : DomId). f ≡ redone_event (is_high s high d) (l d.0) e) me is, subst (λ (d : DomId). SameIf s high (is_high s high d) (answer_in x) (answer_in y)) me same, rest)
  own-did dom l e f x y hs ks false own is same rest = rest

  own-other : (dom : DomId) (ts : List RunTask) (x : Happening) (hs ks : List Happening) (c : Bool) → (later ts ≡ left_of x ts) → ((us : List RunTask) (more less : List Happening) → IsOwn (is_high s high dom) (later us) more less → IsOwn (is_high s high dom) us (x ∷ more) (x ∷ less))
      → IsOwn (is_high s high dom) (cond c (left_of x ts) ts) hs ks → IsOwn (is_high s high dom) ts (cond c (x ∷ hs) hs) (cond c (x ∷ ks) ks)
  own-other dom ts x hs ks true left put rest = put ts hs ks (subst (λ (us : List RunTask). IsOwn (is_high s high dom) us hs ks) (sym left) rest)
  own-other dom ts x hs ks false left put rest = rest

  own-same : (dom : DomId) (x y : Happening) (ts : List RunTask) (hs ks : List Happening) → x ≡ y → IsOwn (is_high s high dom) ts (cond ((doer x).0 == dom.0) (x ∷ hs) hs) (cond ((doer x).0 == dom.0) (x ∷ ks) ks)
      → IsOwn (is_high s high dom) ts (cond ((doer x).0 == dom.0) (x ∷ hs) hs) (cond ((doer y).0 == dom.0) (y ∷ ks) ks)
  own-same dom x y ts hs ks is own = subst (λ (z : Happening). IsOwn (is_high s high dom) ts (cond ((doer x).0 == dom.0) (x ∷ hs) hs) (cond ((doer z).0 == dom.0) (z ∷ ks) ks)) is own

  pub own-redone : (dom : DomId) (l : ℕ → List RunTask) (hs ks : List Happening) → IsRedone s high l hs ks → IsOwn (is_high s high dom) (l dom.0) (own_happenings dom hs) (own_happenings dom ks)
  own-redone dom l [] [] r = tt
  own-redone dom l (did e x ∷ hs) (did f y ∷ ks) r =
      let d : actor_of e ≡ actor_of f = sym (ap actor_of r.0 ∙ same-doer (is_high s high (actor_of e)) (l (actor_of e).0) e) in
      subst (λ (k : DomId). IsOwn (is_high s high dom) (l dom.0) (cond ((actor_of e).0 == dom.0) (did e x ∷ own_happenings dom hs) (own_happenings dom hs)) (cond (k.0 == dom.0) (did f y ∷ own_happenings dom ks) (own_happenings dom ks))) d
      (own-did dom l e f x y hs ks ((actor_of e).0 == dom.0) refl r.0 r.1 (own-redone dom (lists_after l (did e x)) hs ks r.2))
  own-redone dom l (raised d flag ∷ hs) (raised k other ∷ ks) r =
      own-same dom (raised d flag) (raised k other) (l dom.0) (own_happenings dom hs) (own_happenings dom ks) r.0
      (own-other dom (l dom.0) (raised d flag) (own_happenings dom hs) (own_happenings dom ks) (d.0 == dom.0) refl (λ us more less o. (refl, o)) (own-redone dom (lists_after l (raised d flag)) hs ks r.1))
  own-redone dom l (passed d flag ∷ hs) (passed k other ∷ ks) r =
      own-same dom (passed d flag) (passed k other) (l dom.0) (own_happenings dom hs) (own_happenings dom ks) r.0
      (own-other dom (l dom.0) (passed d flag) (own_happenings dom hs) (own_happenings dom ks) (d.0 == dom.0) refl (λ us more less o. (refl, o)) (own-redone dom (lists_after l (passed d flag)) hs ks r.1))
  own-redone dom l [] (y ∷ ks) r = absurd r
  own-redone dom l (did e x ∷ hs) [] r = absurd r
  own-redone dom l (raised d flag ∷ hs) [] r = absurd r
  own-redone dom l (passed d flag ∷ hs) [] r = absurd r
  own-redone dom l (did e x ∷ hs) (raised k other ∷ ks) r = absurd r
  own-redone dom l (did e x ∷ hs) (passed k other ∷ ks) r = absurd r
  own-redone dom l (raised d flag ∷ hs) (did f y ∷ ks) r = absurd r
  own-redone dom l (raised d flag ∷ hs) (passed k other ∷ ks) r = absurd r
  own-redone dom l (passed d flag ∷ hs) (did f y ∷ ks) r = absurd r
  own-redone dom l (passed d flag ∷ hs) (raised k other ∷ ks) r = absurd r

  -- the answers of two traces are the same, if they are hidden except for bytes that were read
  abbrev AllSame : Bool → List Element → List Element → Type 0
  AllSame b [] [] = Unit {0}
  AllSame b (x ∷ xs) (y ∷ ys) = SameIf s high b (answer_in x) (answer_in y) × AllSame b xs ys
  AllSame b _ _ = ⊥

  -- the same for one answer
  abbrev pub SameAnswer : Bool → Answer → Answer → Type 0
  SameAnswer true a c = unread a ≡ unread c
  SameAnswer false a c = a ≡ c

  none-too : (b : Bool) (o p : Option Answer) → SameIf s high b o p → o ≡ None → p ≡ None
  none-too true None None e is = refl
  none-too true None (Some a) e is = absurd (none-some _ e)
  none-too true (Some a) p e is = absurd (none-some _ (sym is))
  none-too false o p e is = sym e ∙ is

  some-too : (b : Bool) (o p : Option Answer) (a : Answer) → SameIf s high b o p → o ≡ Some a → (c : Answer) × (p ≡ Some c) × SameAnswer b a c
  some-too true None p a e is = absurd (none-some _ is)
  some-too true (Some z) None a e is = absurd (none-some _ (sym e))
  some-too true (Some z) (Some c) a e is = (c, refl, sym (ap unread (same_Some z a is)) ∙ same_Some (unread z) (unread c) e)
  some-too false o p a e is = (a, sym e ∙ is, refl)

  ends-too : (b : Bool) (before : List Element) (last : Element) (ys : List Element) (a : Answer) → AllSame b (before ++ last ∷ []) ys → AnswerNothing before → answer_in last ≡ Some a
      → (c : Answer) × EndsWith ys c × SameAnswer b a c
  ends-too b [] last [] a same quiet is = absurd same
  ends-too b [] last (y ∷ []) a same quiet is = let (c, answers, so) = some-too b (answer_in last) (answer_in y) a same.0 is in
      (c, record { before = []; last = y; order = refl; quiet = tt; answers = answers }, so)
  ends-too b [] last (y ∷ (z ∷ zs)) a same quiet is = absurd same.1
  ends-too b (x ∷ xs) last [] a same quiet is = absurd same
  ends-too b (x ∷ xs) last (y ∷ ys) a same quiet is = let (c, ends, so) = ends-too b xs last ys a same.1 quiet.1 is in
      (c, record { before = y ∷ ends.before; last = ends.last; order = ap (λ (l : List Element). y ∷ l) ends.order; quiet = (none-too b (answer_in x) (answer_in y) same.0 quiet.0, ends.quiet); answers = ends.answers }, so)

  ended : (b : Bool) (xs ys : List Element) (a : Answer) → AllSame b xs ys → EndsWith xs a → (c : Answer) × EndsWith ys c × SameAnswer b a c
  ended b xs ys a same ends = ends-too b ends.before ends.last ys a (subst (λ (l : List Element). AllSame b l ys) ends.order same) ends.quiet ends.answers

  -- ticks, done again
  ticks-too : (b : Bool) (ts : List RunTask) (dom : DomId) (trace : List Element) (more ks : List Happening) → IsOwn b ts (ticks_of dom trace ++ more) ks
      → (ys : List Element) × (less : List Happening) × (ks ≡ ticks_of dom ys ++ less) × AllSame b trace ys × IsOwn b ts more less
  ticks-too b ts dom [] more ks own = ([], ks, refl, tt, own)
  ticks-too b ts dom (x ∷ trace) more [] own = absurd own
  ticks-too b ts dom (x ∷ trace) more (raised k other ∷ ks) own = absurd own
  ticks-too b ts dom (x ∷ trace) more (passed k other ∷ ks) own = absurd own
  ticks-too b ts dom (x ∷ trace) more (did f y ∷ ks) own = let (ys, less, is, same, rest) = ticks-too b ts dom trace more ks own.2 in
      (y ∷ ys, less, ap (λ (z : Event). did z y ∷ ks) own.0 ∙ ap (λ (l : List Happening). did (Tick dom) y ∷ l) is, (own.1, same), rest)

  -- a call, done again
  pub call-too : (b : Bool) (ts : List RunTask) (dom : DomId) (q : Request) (After New : Answer → List Happening → Type 0) (hs ks : List Happening) → CallHappens dom q After hs → IsOwn b ts hs ks
      → ((a c : Answer) (more less : List Happening) → SameAnswer b a c → IsOwn b (later ts) more less → After a more → New c less)
      → CallHappens dom (redone_request b ts q) New ks
  call-too b ts dom q After New hs ks (first, trace, a, more, is, ends, after) own goes = by ks (subst (λ (l : List Happening). IsOwn b ts l ks) is own) where
    by : (ks : List Happening) → IsOwn b ts (did (Begin dom q) first ∷ (ticks_of dom trace ++ more)) ks → CallHappens dom (redone_request b ts q) New ks
    by [] o = absurd o
    by (raised k other ∷ ks) o = absurd o
    by (passed k other ∷ ks) o = absurd o
    by (did f y ∷ ks) o = let (ys, less, split, same, rest) = ticks-too b (later ts) dom trace more ks o.2 in
        let (c, end, so) = ended b (first ∷ trace) (y ∷ ys) a (o.1, same) ends in
        (y, ys, c, less, ap (λ (z : Event). did z y ∷ ks) o.0 ∙ ap (λ (l : List Happening). did (Begin dom (redone_request b ts q)) y ∷ l) split, end, goes a c more less so rest after)

  -- the end of a list
  pub back-too : (b : Bool) (dom : DomId) (order held : List Handle) (hs ks : List Happening) → GivesMappingsBack dom order held hs → IsOwn b [] hs ks → GivesMappingsBack dom order held ks
  back-too b dom [] held hs ks gives own = (gives.0, by ks (subst (λ (l : List Happening). IsOwn b [] l ks) gives.1 own)) where
    by : (ks : List Happening) → IsOwn b [] [] ks → ks ≡ []
    by [] o = refl
    by (k ∷ ks) o = absurd o
  back-too b dom (handle ∷ order) held hs ks (before, after, is, call) own = (
    before,
    after,
    is,
    subst (λ (q : Request). CallHappens dom q (λ answer more. GivesMappingsBack dom order (before ++ after) more) ks) (bare-end b (requests.Release handle))
        (call-too b [] dom (requests.Release handle) (λ answer more. GivesMappingsBack dom order (before ++ after) more) (λ answer more. GivesMappingsBack dom order (before ++ after) more) hs ks call own
        (λ a c more less so rest gives. back-too b dom order (before ++ after) more less gives rest)),
  ) where
    bare-end : (b : Bool) (q : Request) → redone_request b [] q ≡ q
    bare-end true q = refl
    bare-end false q = refl

  -- a line

  abbrev handle_shown : Answer ⊎ List ℕ → Option Handle
  handle_shown (inl a) = handle_given a
  handle_shown (inr bytes) = None

  abbrev held_shown : List Handle → Option Handle → Answer ⊎ List ℕ → List Handle
  held_shown held lost (inl a) = held_after held lost a
  held_shown held lost (inr bytes) = held

  handle-shown : (z : Answer) → handle_given z ≡ handle_shown (unread z)
  handle-shown (answers.Bytes x) = refl
  handle-shown z = refl

  held-shown : (held : List Handle) (lost : Option Handle) (z : Answer) → held_after held lost z ≡ held_shown held lost (unread z)
  held-shown held (Some handle) (answers.Bytes x) = refl
  held-shown held None (answers.Bytes x) = refl
  held-shown held lost z = refl

  pub same-given : (b : Bool) (a c : Answer) → SameAnswer b a c → handle_given a ≡ handle_given c
  same-given true a c so = handle-shown a ∙ ap handle_shown so ∙ sym (handle-shown c)
  same-given false a c so = ap handle_given so

  pub same-held : (b : Bool) (held : List Handle) (lost : Option Handle) (a c : Answer) → SameAnswer b a c → held_after held lost a ≡ held_after held lost c
  same-held true held lost a c so = held-shown held lost a ∙ ap (held_shown held lost) so ∙ sym (held-shown held lost c)
  same-held false held lost a c so = ap (held_after held lost) so

  -- a call with other bytes asks for a request with these bytes
  pub record Asks (named : List Named) (dom : DomId) (q : Request) (call other : ScriptCall) (new : Request) : Type 0 where
    pub makes : MakesRequest named dom other new
    pub gives : given_up new ≡ given_up q
    pub labels : label_given other ≡ label_given call

  fits : (bytes : List ℕ) (hex other : List ℕ) → bytes ≡ hex_bytes hex → length (hex_bytes hex) ≡ length (hex_bytes other) → fitted (length bytes) (hex_bytes other) ≡ hex_bytes other
  fits bytes hex other is same = ap (λ (n : ℕ). fitted n (hex_bytes other)) (ap length is ∙ same) ∙ fitted-all (hex_bytes other)

  asks-stored : (named : List Named) (dom : DomId) (q : Request) (call other : ScriptCall) → SameButStored call other → MakesRequest named dom call q → Asks named dom q call other (with_stored other q)
  unfolding request_of
  asks-stored named dom q (script_calls.Store label off hex) (script_calls.Store name at new) (e, f, n) (bytes, is, to) =
      let w = record bytes { now = fitted (length bytes.now) (hex_bytes new) } in
      let one : with_stored (script_calls.Store name at new) q ≡ request_of named dom w (script_calls.Store name at new) = ap (with_stored (script_calls.Store name at new)) to
      ∙ ap (λ (l : List ℕ). request_of named dom w (script_calls.Store l off new)) e ∙ ap (λ (o : ℕ). request_of named dom w (script_calls.Store name o new)) f in
      record { makes = (w, fits bytes.now hex new is n, one); gives = ap given_up one ∙ sym (ap given_up to); labels = refl }
  asks-stored named dom q (script_calls.Poke frame off hex) (script_calls.Poke number at new) (e, f, n) (bytes, is, to) =
      let w = record bytes { now = fitted (length bytes.now) (hex_bytes new) } in
      let one : with_stored (script_calls.Poke number at new) q ≡ request_of named dom w (script_calls.Poke number at new) = ap (with_stored (script_calls.Poke number at new)) to
      ∙ ap (λ (l : ℕ). request_of named dom w (script_calls.Poke l off new)) e ∙ ap (λ (o : ℕ). request_of named dom w (script_calls.Poke number o new)) f in
      record { makes = (w, fits bytes.now hex new is n, one); gives = ap given_up one ∙ sym (ap given_up to); labels = refl }
  asks-stored named dom q (script_calls.Store label off hex) other same makes = absurd (let f = same in cc)
  asks-stored named dom q (script_calls.Poke frame off hex) other same makes = absurd (let f = same in cc)
  asks-stored named dom q call other same makes = subst (λ (c : ScriptCall). Asks named dom q call c (with_stored c q)) same (record { makes = makes; gives = refl; labels = refl })

  abbrev pub SameCall : Bool → ScriptCall → ScriptCall → Type 0
  SameCall true call other = SameButStored call other
  SameCall false call other = call ≡ other

  pub do-same : (b : Bool) (call : ScriptCall) (run_action : RunAction) → SameAction b (Do call) run_action → (other : ScriptCall) × (run_action ≡ Do other) × SameCall b call other
  do-same true call (Do other) same = (other, refl, same)
  do-same true call (Tell flag) same = absurd (let f = same in cc)
  do-same true call (Await flag) same = absurd (let f = same in cc)
  do-same false call run_action same = (call, sym same, refl)

  pub tell-same : (b : Bool) (flag : ℕ) (run_action : RunAction) → SameAction b (Tell flag) run_action → Tell flag ≡ run_action
  tell-same true flag run_action same = same
  tell-same false flag run_action same = same

  pub await-same : (b : Bool) (flag : ℕ) (run_action : RunAction) → SameAction b (Await flag) run_action → Await flag ≡ run_action
  await-same true flag run_action same = same
  await-same false flag run_action same = same

  pub asks-redone : (b : Bool) (u : RunTask) (us : List RunTask) (named : List Named) (dom : DomId) (q : Request) (call other : ScriptCall) → u.run_action ≡ Do other → SameCall b call other → MakesRequest named dom call q
      → Asks named dom q call other (redone_request b (u ∷ us) q)
  asks-redone true u us named dom q call other is same makes =
      subst (λ (z : RunAction). Asks named dom q call other (with_action z q)) (sym is) (asks-stored named dom q call other same makes)
  asks-redone false u us named dom q call other is same makes = subst (λ (c : ScriptCall). Asks named dom q call c q) same (record { makes = makes; gives = refl; labels = refl })

  pub same-cons : (b : Bool) (line : ℕ) (a c : Answer) (ls ks : List (ℕ × Answer)) → SameAnswer b a c → SameAnswers b ls ks → SameAnswers b ((line, a) ∷ ls) ((line, c) ∷ ks)
  same-cons true line a c ls ks so same =
      ap (λ (z : Answer ⊎ List ℕ). (line, z) ∷ map unread_line ls) so ∙ ap (λ (l : List (ℕ × (Answer ⊎ List ℕ))). (line, unread c) ∷ l) same
  same-cons false line a c ls ks so same = ap (λ (z : Answer). (line, z) ∷ ls) so ∙ ap (λ (l : List (ℕ × Answer)). (line, c) ∷ l) same

  module _ (types : List (List ℕ)) (dom : DomId) (b : Bool) where
    -- what follows a line
    abbrev After : Type 1
    After = List Named → List Handle → List Happening → List ℕ → Type 0

    -- the rest can be done again
    abbrev Goes : List RunTask → After → After → Type 0
    Goes us Next New = (named : List Named) (held : List Handle) (more less : List Happening) (rest : List ℕ) → Next named held more rest → IsOwn b us more less
        → (new : List ℕ) × New named held less new × SameAnswerLines b types dom rest new

    pub pull : (q : Request) (P : List ℕ → Answer → List Happening → Type 0) (Q : List ℕ → Type 0) (ks : List Happening) → CallHappens dom q (λ c less. (new : List ℕ) × P new c less × Q new) ks
        → (new : List ℕ) × CallHappens dom q (P new) ks × Q new
    pull q P Q ks (first, trace, a, more, is, ends, rest) = (rest.0, (first, trace, a, more, is, ends, rest.1), rest.2)

    line-too : (run_action : RunAction) (u : RunTask) (us : List RunTask) (line : ℕ) (named : List Named) (held : List Handle) (Next New : After) (hs ks : List Happening) (text : List ℕ) → SameAction b run_action u.run_action
        → ActionHappens types dom named held line run_action Next hs text → IsOwn b (u ∷ us) hs ks → Goes us Next New → (new : List ℕ) × ActionHappens types dom named held line u.run_action New ks new × SameAnswerLines b types dom text new
    line-too (Tell flag) u us line named held Next New hs ks text same (more, is, next) own goes = by ks (subst (λ (l : List Happening). IsOwn b (u ∷ us) l ks) is own) where
      by : (ks : List Happening) → IsOwn b (u ∷ us) (raised dom flag ∷ more) ks → (new : List ℕ) × ActionHappens types dom named held line u.run_action New ks new × SameAnswerLines b types dom text new
      by [] o = absurd o
      by (did f y ∷ ks) o = absurd o
      by (passed k other ∷ ks) o = absurd o
      by (raised k other ∷ ks) o = let (new, rest, part) = goes named held more ks text next o.1 in
          (new, subst (λ (z : RunAction). ActionHappens types dom named held line z New (raised k other ∷ ks) new) (tell-same b flag u.run_action same) (ks, ap (λ (z : Happening). z ∷ ks) (sym o.0), rest), part)
    line-too (Await flag) u us line named held Next New hs ks text same (more, is, next) own goes = by ks (subst (λ (l : List Happening). IsOwn b (u ∷ us) l ks) is own) where
      by : (ks : List Happening) → IsOwn b (u ∷ us) (passed dom flag ∷ more) ks → (new : List ℕ) × ActionHappens types dom named held line u.run_action New ks new × SameAnswerLines b types dom text new
      by [] o = absurd o
      by (did f y ∷ ks) o = absurd o
      by (raised k other ∷ ks) o = absurd o
      by (passed k other ∷ ks) o = let (new, rest, part) = goes named held more ks text next o.1 in
          (new, subst (λ (z : RunAction). ActionHappens types dom named held line z New (passed k other ∷ ks) new) (await-same b flag u.run_action same) (ks, ap (λ (z : Happening). z ∷ ks) (sym o.0), rest), part)
    line-too (Do call) u us line named held Next New hs ks text same (q, makes, happens) own goes = let (other, is, same-call) = do-same b call u.run_action same in
        let r = redone_request b (u ∷ us) q in let asks = asks-redone b u us named dom q call other is same-call makes in
        let P : List ℕ → Answer → List Happening → Type 0 = λ new c less. Prints (answer_line types line dom c) (New (with_name named dom (label_given other) (handle_given c)) (held_after held (given_up r) c) less) new in
        let again = call-too b (u ∷ us) dom q
        (λ answer more. Prints (answer_line types line dom answer) (Next (with_name named dom (label_given call) (handle_given answer)) (held_after held (given_up q) answer) more) text)
        (λ c less. (new : List ℕ) × P new c less × SameAnswerLines b types dom text new) hs ks happens own
        (λ a c more less so rest after. answered a c more less so rest after asks) in
        let (new, call-again, part) = pull r P (SameAnswerLines b types dom text) ks again in
        (new, subst (λ (z : RunAction). ActionHappens types dom named held line z New ks new) (sym is) (r, asks.makes, call-again), part)
      where
        answered : {other : ScriptCall} {r : Request} (a c : Answer) (more less : List Happening) → SameAnswer b a c → IsOwn b us more less
            → Prints (answer_line types line dom a) (Next (with_name named dom (label_given call) (handle_given a)) (held_after held (given_up q) a) more) text → Asks named dom q call other r
            → (new : List ℕ) × Prints (answer_line types line dom c) (New (with_name named dom (label_given other) (handle_given c)) (held_after held (given_up r) c) less) new × SameAnswerLines b types dom text new
        answered {other = other} {r = r} a c more less so rest (tail, told, next) asks =
            let names : with_name named dom (label_given call) (handle_given a) ≡ with_name named dom (label_given other) (handle_given c) =
            ap (λ (l : Option (List ℕ)). with_name named dom l (handle_given a)) (sym asks.labels) ∙ ap (with_name named dom (label_given other)) (same-given b a c so) in
            let holds : held_after held (given_up q) a ≡ held_after held (given_up r) c = ap (λ (o : Option Handle). held_after held o a) (sym asks.gives) ∙ same-held b held (given_up r) a c so in
            let (new, after, part) = goes (with_name named dom (label_given call) (handle_given a)) (held_after held (given_up q) a) more less tail next rest in (
              answer_line types line dom c ++ new,
              (new, refl, subst (λ (n : List Named). New n (held_after held (given_up r) c) less new) names (subst (λ (h : List Handle). New (with_name named dom (label_given call) (handle_given a)) h less new) holds after)),
              ((line, a) ∷ part.0, (line, c) ∷ part.1, told ∙ ap (λ (l : List ℕ). answer_line types line dom a ++ l) part.2, ap (λ (l : List ℕ). answer_line types line dom c ++ l) part.3, same-cons b line a c part.0 part.1 so part.4),
            )

    -- the lists are the same line by line, except for bytes that a high domain stores
    abbrev pub SameList : List RunTask → List RunTask → Type 0
    SameList [] [] = Unit {0}
    SameList (t ∷ ts) (u ∷ us) = (t.line ≡ u.line) × SameAction b t.run_action u.run_action × SameList ts us
    SameList _ _ = ⊥

    pub no-answers : (b : Bool) → SameAnswers b [] []
    no-answers true = refl
    no-answers false = refl

    pub follows-too : (ts us : List RunTask) (named : List Named) (held : List Handle) (hs ks : List Happening) (text : List ℕ) → SameList ts us → FollowsList types dom named held ts hs text → IsOwn b us hs ks
        → (new : List ℕ) × FollowsList types dom named held us ks new × SameAnswerLines b types dom text new
    follows-too [] [] named held hs ks text same (order, gives, is) own = ([], (order, back-too b dom order held hs ks gives own, refl), ([], [], is, refl, no-answers b))
    follows-too (t ∷ ts) (u ∷ us) named held hs ks text same follows own =
        subst (λ (n : ℕ). (new : List ℕ) × ActionHappens types dom named held n u.run_action (λ names holds more rest. FollowsList types dom names holds us more rest) ks new × SameAnswerLines b types dom text new) same.0
        (line-too t.run_action u us t.line named held (λ names holds more rest. FollowsList types dom names holds ts more rest) (λ names holds more rest. FollowsList types dom names holds us more rest) hs ks text same.1 follows own
        (λ names holds more less rest next rest-own. follows-too ts us names holds more less rest same.2 next rest-own))
    follows-too [] (u ∷ us) named held hs ks text same follows own = absurd same
    follows-too (t ∷ ts) [] named held hs ks text same follows own = absurd same
