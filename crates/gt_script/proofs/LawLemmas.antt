-- What a script's parts are, line by line.
use Rattle.std.proofs.Common.{◌≡◌, ◌⊎◌, inl, inr, ℕ, ◌+◌, ◌^◌, Bool, true, false, not, ◌||◌, List, [], ◌∷◌, ◌++◌}
use Rattle.std.proofs.Common.{length, take, Option, Some, None, Result, Ok, Err, IsSome, IsTrue, All, refl, sym, ap}
use Rattle.std.proofs.Common.{◌∙◌, subst, arith, cond, append_assoc, get_or, ◌==◌}
use Rattle.std.specs.List.{filter_map, cons_option, slice_get}
use Rattle.std.specs.Option.{option_map, option_to_list, is_none, is_some}
use Rattle.std.proofs.lemmas.Bool.{cases_lt}
use Rattle.std.proofs.Math.Seq.{take-append_seam, get_or-append_seam}
use Rattle.std.proofs.lemmas.List.{append-nil, length-append, get_or_append_left, take-append-le}
use Rattle.std.proofs.lemmas.List.Elements.{All-nil, All-cons, All-push, All-weaker}
use Rattle.std.proofs.lemmas.List.Folds.{list_any-append}
use Rattle.std.proofs.lemmas.List.Sums.{fold-append}
use Rattle.std.proofs.lemmas.Option.{slice_get-get_or, slice_get_within, get_or_from_slice_get, same_Some}
use Rattle.gt_types.specs.Config.{is_taken, domain_fault, AreFaultless}
use Rattle.gt_types.specs.declared.DomId.{DomId}
use Rattle.gt_types.specs.declared.TypeId.{TypeId}
use Rattle.gt_types.specs.declared.rights.Triple.{Triple}
use Rattle.gt_types.specs.declared.config.DomainConfig.{DomainConfig}
use Rattle.gt_script_lines.specs.Words.{words}
use Rattle.gt_script_lines.specs.Numbers.{number_below}
use Rattle.gt_script_lines.specs.Fields.{◌>>=◌}
use Rattle.gt_script_lines.specs.Lines.{line_of}
use Rattle.gt_script.specs.Types.{with_type_name}
use Rattle.gt_policy.specs.Allowing.{Allowed, type_named}
use Rattle.gt_script.specs.Contents.{Contents, type_names_with}
use Rattle.gt_script.specs.Script.{is_empty, is_misplaced, has_no_rights, or_config, or_mode, configured}
use Rattle.gt_script.specs.Script.{domain_written, with_triple, type_named_in, with_domain, with_domain_line}
use Rattle.gt_script.specs.Script.{with_task}
use Rattle.gt_script.specs.Script.{with_asked}
use Rattle.gt_script.specs.Script.{with_body_line, with_placed, with_script_line, with_words, with_lines}
use Rattle.gt_script.specs.Laws.{lines_said, triple_in, wear_in, domain_in, step_for, step_on, task_for, task_on}
use Rattle.gt_script.specs.Laws.{asks_for, flag_on}
use Rattle.gt_script.specs.Flags.{with_flags, with_flag, with_flag_of}
use Rattle.gt_script.specs.Stuck.{AreNumbered, IsBelow}
use Rattle.gt_script.specs.Laws.{is_for, IsLine}
use Rattle.gt_script_lines.specs.declared.numbers.Number.{Number}
use Rattle.gt_script.specs.declared.actions.ScriptAction.{ScriptAction}
use Rattle.gt_script_lines.specs.declared.lines.TripleLine.{TripleLine}
use Rattle.gt_script_lines.specs.declared.lines.DomainLine.{DomainLine}
use Rattle.gt_script_lines.specs.declared.lines.ScriptLine.{ScriptLine}
use Rattle.gt_script_lines.specs.declared.lines.ScriptLine.TheVariants as script_lines
use Rattle.gt_script_lines.specs.declared.body.BodyLine.{BodyLine}
use Rattle.gt_script.specs.declared.command.ScriptCommand.{ScriptCommand}
use Rattle.gt_script.specs.declared.command.ScriptCommand.TheVariants.{Play, Run}
use Rattle.gt_script.specs.Lists.{RunTask}
use Rattle.gt_script.specs.declared.script.ScriptStep.{ScriptStep}
use Rattle.gt_script.specs.declared.faults.ScriptFaultKind.{ScriptFaultKind}
use Rattle.gt_script.specs.declared.faults.ScriptFaultKind.TheVariants.{Syntax, Config}
use Rattle.gt_script.specs.declared.faults.ScriptFault.{ScriptFault}
use Rattle.gt_script.proofs.TypeLemmas.{Grown, Grown-refl, Grown-trans, with_type-Typed}
use Rattle.gt_script.proofs.FlagLemmas.{FlagsKept, FlagsKept-refl, FlagsKept-trans, line-kept, action-kept, action-below}
use Rattle.gt_script.proofs.FlagLemmas.{action-any, play-flagless, numbered-more}

-- taking apart what gave a value

bind-Some : {A B : Type 0} (o : Option A) (f : A → Option B) (y : B) → (o >>= f) ≡ Some y → (x : A) × (o ≡ Some x) × (f x ≡ Some y)
bind-Some None f y e = absurd cc
bind-Some (Some x) f y e = (x, refl, e)

or_mode-Ok : (o : Option Contents) (d : Contents) → or_mode o ≡ Ok d → o ≡ Some d
or_mode-Ok None d e = absurd cc
or_mode-Ok (Some c) d e = let same : c ≡ d = cc in ap Some same

or_config-Ok : (o : Option Contents) (d : Contents) → or_config o ≡ Ok d → o ≡ Some d
or_config-Ok None d e = absurd cc
or_config-Ok (Some c) d e = let same : c ≡ d = cc in ap Some same

then-Some : {A : Type 0} (b : Bool) (x y : A) → cond b (Some x) None ≡ Some y → (b ≡ true) × (x ≡ y)
then-Some true x y e = (refl, cc)
then-Some false x y e = absurd cc

not-fault : {A E : Type 0} (b : Bool) (e : E) (r : Result A E) (x : A) → cond b (Err e) r ≡ Ok x → (b ≡ false) × (r ≡ Ok x)
not-fault true e r x h = absurd cc
not-fault false e r x h = (refl, h)

none-is : {A : Type 0} (o : Option A) → is_none o ≡ true → o ≡ None
none-is None h = refl
none-is (Some x) h = absurd cc

-- a domain without fault behind those before it

faultless-push : (ds : List DomainConfig) (d : DomainConfig) → AreFaultless ds → domain_fault ds d ≡ None → AreFaultless (ds ++ d ∷ [])
faultless-push ds d f h = record {
  each = λ at x there. elim (cases_lt at (length ds)) [
    | inl below ↦
        let same : slice_get ds at ≡ Some x = slice_get-get_or ds at x below ∙ ap Some (sym (get_or_append_left ds (d ∷ []) x at below) ∙ get_or_from_slice_get (ds ++ d ∷ []) at x x there) in
        let front : take at (ds ++ d ∷ []) ≡ take at ds = take-append-le at ds (d ∷ []) (omega arith) in
        ap (λ (xs : List DomainConfig). domain_fault xs x) front ∙ f.each at x same
    | inr past ↦
        let within = slice_get_within (ds ++ d ∷ []) at x there in
        let last : at ≡ length ds = omega (arith, length-append ds (d ∷ [])) in
        let here : d ≡ x = sym (get_or-append_seam ds d [] x) ∙ ap (λ k. get_or (ds ++ d ∷ []) k x) (sym last) ∙ get_or_from_slice_get (ds ++ d ∷ []) at x x there in
        let front : take at (ds ++ d ∷ []) ≡ ds = ap (λ k. take k (ds ++ d ∷ [])) last ∙ take-append_seam ds (d ∷ []) in
        ap (λ (xs : List DomainConfig). domain_fault xs x) front ∙ ap (domain_fault ds) (sym here) ∙ h
  ];
}

pub faultless-none : AreFaultless []
faultless-none = record { each = λ at x there. absurd (omega (arith, slice_get_within [] at x there)) }

-- a domain stays configured
taken-push : (ds : List DomainConfig) (d : DomainConfig) (id : DomId) → IsTrue (is_taken ds id) → IsTrue (is_taken (ds ++ d ∷ []) id)
taken-push ds d id h = list_any-append (λ (e : DomainConfig). e.id.0 == id.0) ds (d ∷ []) ∙ rw h refl

-- the line l, if it says one, is for this command
abbrev Suits : ScriptCommand → Option ScriptLine → Type 0
Suits command None = Unit {0}
Suits command (Some l) = IsTrue (is_for command l)

-- what the line l, if it says one, adds to a script as line n
record Adds (n : ℕ) (l : Option ScriptLine) (c d : Contents) : Type 0 where
  policy : d.policy ≡ c.policy
  no_triples : (p : Allowed) → c.policy ≡ Some p → d.triples ≡ c.triples
  types : Grown c.types d.types
  triples : (types : List (List ℕ)) → Grown d.types types → d.triples ≡ c.triples ++ option_to_list (l >>= triple_in types)
  wear : option_to_list d.wear ≡ option_to_list c.wear ++ option_to_list (l >>= wear_in)
  domains : (types : List (List ℕ)) → Grown d.types types → d.domains ≡ c.domains ++ option_to_list (l >>= domain_in (type_names_with c.policy types))
  command : d.command ≡ c.command
  steps : d.steps ≡ c.steps ++ option_to_list (l >>= step_on c.command n)
  flags : d.flags ≡ with_flags c.flags (option_to_list (l >>= flag_on))
  kept : FlagsKept c.flags d.flags
  tasks : (flags : List (List ℕ)) → FlagsKept d.flags flags → d.tasks ≡ c.tasks ++ option_to_list (l >>= task_on c.command flags n)
  suited : Suits c.command l
  faultless : AreFaultless c.domains → AreFaultless d.domains
  configured : All (λ (s : ScriptStep). IsTrue (is_taken c.domains s.dom)) c.steps → All (λ (s : ScriptStep). IsTrue (is_taken d.domains s.dom)) d.steps
  ordered : All (λ (t : RunTask). IsTrue (is_taken c.domains t.dom)) c.tasks → All (λ (t : RunTask). IsTrue (is_taken d.domains t.dom)) d.tasks
  numbered : AreNumbered (length c.flags) c.tasks → AreNumbered (length d.flags) d.tasks

adds-nothing : (n : ℕ) (c : Contents) → Adds n None c c
adds-nothing n c = record {
  policy = refl;
  no_triples = λ p e. refl;
  types = Grown-refl c.types;
  triples = λ types g. sym (append-nil c.triples);
  wear = sym (append-nil (option_to_list c.wear));
  domains = λ types g. sym (append-nil c.domains);
  command = refl;
  steps = sym (append-nil c.steps);
  flags = refl;
  kept = FlagsKept-refl c.flags;
  tasks = λ flags k. sym (append-nil c.tasks);
  suited = tt;
  faultless = λ h. h;
  configured = λ h. h;
  ordered = λ h. h;
  numbered = λ h. h;
}

bind-at : {A B : Type 0} (o : Option A) (x : A) (f : A → Option B) → o ≡ Some x → (o >>= f) ≡ f x
bind-at o x f e = ap (λ (q : Option _). q >>= f) e

adds-triple-of : (n : ℕ) (c d : Contents) (t : TripleLine) (source target : List (List ℕ) × TypeId) → c.policy ≡ None → with_type_name c.types t.source ≡ Some source → with_type_name source.0 t.target ≡ Some target
    → record c { types = target.0; triples = c.triples ++ record { source = source.1; target = target.1; perm = t.perm } ∷ [] } ≡ d → Adds n (Some (script_lines.Triple t)) c d
adds-triple-of n c d t source target free s r same =
    let a = with_type-Typed c.types t.source source s in
    let b = with_type-Typed source.0 t.target target r in
    subst (λ (x : Contents). Adds n (Some (script_lines.Triple t)) c x) same (record {
      policy = refl;
      no_triples = λ p e. absurd (cc (e, free));
      types = Grown-trans c.types source.0 target.0 a.grown b.grown;
      triples = λ types g.
          let first : type_named types t.source ≡ Some source.1 = g.kept _ _ (b.grown.kept _ _ a.number) in
          let second : type_named types t.target ≡ Some target.1 = g.kept _ _ b.number in
          let lines_said : triple_in types (script_lines.Triple t) ≡ Some (record { source = source.1; target = target.1; perm = t.perm }) = bind-at _ _ _ first ∙ bind-at _ _ _ second in
          ap (λ (o : Option Triple). c.triples ++ option_to_list o) (sym lines_said);
      wear = sym (append-nil (option_to_list c.wear));
      domains = λ types g. sym (append-nil c.domains);
      command = refl;
      steps = sym (append-nil c.steps);
      flags = refl;
      kept = FlagsKept-refl c.flags;
      tasks = λ flags k. sym (append-nil c.tasks);
      suited = refl;
      faultless = λ h. h;
      configured = λ h. h;
      ordered = λ h. h;
      numbered = λ h. h;
    })

adds-triple : (n : ℕ) (c d : Contents) (t : TripleLine) → c.policy ≡ None → with_triple c t ≡ Ok d → Adds n (Some (script_lines.Triple t)) c d
unfolding with_triple
adds-triple n c d t free e =
    let p = bind-Some _ _ d (or_config-Ok _ d e) in
    let q = bind-Some _ _ d p.2 in
    adds-triple-of n c d t p.0 q.0 free p.1 q.1 (same_Some _ _ q.2)

-- the number that a domain's type has, with the names after its line
record TypeIn (policy : Option Allowed) (types : List (List ℕ)) (name : List ℕ) (label : List (List ℕ) × TypeId) : Type 0 where
  grown : Grown types label.0
  number : (later : List (List ℕ)) → Grown label.0 later → type_named (type_names_with policy later) name ≡ Some label.1

declared-as : (types : List (List ℕ)) (o : Option TypeId) (label : List (List ℕ) × TypeId) → option_map (λ id. (types, id)) o ≡ Some label → (types ≡ label.0) × (o ≡ Some label.1)
declared-as types None label e = absurd cc
declared-as types (Some id) label e = let same : (types, id) ≡ label = same_Some _ _ e in (ap (λ (l : List (List ℕ) × TypeId). l.0) same, ap (λ (l : List (List ℕ) × TypeId). Some l.1) same)

type_in-Is : (policy : Option Allowed) (types : List (List ℕ)) (name : List ℕ) (label : List (List ℕ) × TypeId) → type_named_in policy types name ≡ Some label → TypeIn policy types name label
type_in-Is None types name label e = let a = with_type-Typed types name label e in record { grown = a.grown; number = λ later g. g.kept _ _ a.number }
type_in-Is (Some p) types name label e =
    let is = declared-as types (type_named p.types name) label e in
    record { grown = subst (λ (l : List (List ℕ)). Grown types l) is.0 (Grown-refl types); number = λ later g. is.1 }

adds-domain-of : (n : ℕ) (c d : Contents) (l : DomainLine) (label : List (List ℕ) × TypeId) (domain : DomainConfig) → type_named_in c.policy c.types l.type_name ≡ Some label → domain_written l label.1 ≡ Some domain
    → is_none (domain_fault c.domains domain) ≡ true → record c { types = label.0; domains = c.domains ++ domain ∷ [] } ≡ d → Adds n (Some (script_lines.Domain l)) c d
adds-domain-of n c d l label domain t w fine same =
    let a = type_in-Is c.policy c.types l.type_name label t in
    subst (λ (x : Contents). Adds n (Some (script_lines.Domain l)) c x) same (record {
      policy = refl;
      no_triples = λ p e. refl;
      types = a.grown;
      triples = λ types g. sym (append-nil c.triples);
      wear = sym (append-nil (option_to_list c.wear));
      domains = λ types g.
          let lines_said : domain_in (type_names_with c.policy types) (script_lines.Domain l) ≡ Some domain = bind-at _ _ _ (a.number types g) ∙ w in
          ap (λ (o : Option DomainConfig). c.domains ++ option_to_list o) (sym lines_said);
      command = refl;
      steps = sym (append-nil c.steps);
      flags = refl;
      kept = FlagsKept-refl c.flags;
      tasks = λ flags k. sym (append-nil c.tasks);
      suited = refl;
      faultless = λ h. faultless-push c.domains domain h (none-is _ fine);
      configured = λ h. All-weaker _ _ (λ s k. taken-push c.domains domain s.dom k) c.steps h;
      ordered = λ h. All-weaker _ _ (λ t k. taken-push c.domains domain t.dom k) c.tasks h;
      numbered = λ h. h;
    })

adds-domain : (n : ℕ) (c d : Contents) (l : DomainLine) → with_domain c l ≡ Ok d → Adds n (Some (script_lines.Domain l)) c d
unfolding with_domain
adds-domain n c d l e =
    let p = bind-Some _ _ d (or_config-Ok _ d e) in
    let q = bind-Some _ _ d p.2 in
    let r = then-Some _ _ d q.2 in
    adds-domain-of n c d l p.0 q.0 p.1 q.1 r.0 r.1

-- a domain that is configured has this number
configured-Some : (ds : List DomainConfig) (number : Number) (dom : DomId) → configured ds number ≡ Some dom → (number_below (2 ^ 16) number ≡ Some dom.0) × (is_taken ds dom ≡ true)
unfolding configured
configured-Some ds number dom e =
    let p = bind-Some _ _ dom e in
    let r = then-Some _ _ dom p.2 in
    (p.1 ∙ ap (λ (d : DomId). Some d.0) r.1, subst (λ (d : DomId). is_taken ds d ≡ true) r.1 r.0)

adds-step : (n : ℕ) (c d : Contents) (number : Number) (asks : BodyLine) (dom : DomId) → c.command ≡ Play → number_below (2 ^ 16) number ≡ Some dom.0 → is_taken c.domains dom ≡ true
    → with_domain_line c n dom asks ≡ Ok d → Adds n (Some (script_lines.Body number asks)) c d
unfolding with_domain_line
adds-step n c d number asks dom play small taken e =
    let p = bind-Some _ _ d (or_mode-Ok _ d e) in
    subst (λ (x : Contents). Adds n (Some (script_lines.Body number asks)) c x) (same_Some _ _ p.2) (record {
      policy = refl;
      no_triples = λ p e. refl;
      types = Grown-refl c.types;
      triples = λ types g. sym (append-nil c.triples);
      wear = sym (append-nil (option_to_list c.wear));
      domains = λ types g. sym (append-nil c.domains);
      command = refl;
      steps =
          let lines_said : step_on c.command n (script_lines.Body number asks) ≡ Some (record { line = n; dom = dom; action = p.0 }) =
          ap (λ (k : ScriptCommand). step_for k n number asks) play ∙ bind-at _ _ _ small ∙ bind-at _ _ _ p.1 in
          ap (λ (o : Option ScriptStep). c.steps ++ option_to_list o) (sym lines_said);
      flags = ap (λ (o : Option (List ℕ)). with_flags c.flags (option_to_list o)) (sym (play-flagless asks p.0 p.1));
      kept = FlagsKept-refl c.flags;
      tasks = λ flags k.
          let lines_said : task_on c.command flags n (script_lines.Body number asks) ≡ None = ap (λ (k : ScriptCommand). task_for k flags n number asks) play in
          sym (append-nil c.tasks) ∙ ap (λ (o : Option RunTask). c.tasks ++ option_to_list o) (sym lines_said);
      suited = ap (λ (k : ScriptCommand). asks_for k asks) play ∙ ap (λ (o : Option ScriptAction). is_some o) p.1;
      faultless = λ h. h;
      configured = λ h. All-push (λ (s : ScriptStep). IsTrue (is_taken c.domains s.dom)) c.steps _ h taken;
      ordered = λ h. h;
      numbered = λ h. h;
    })

adds-task : (n : ℕ) (c d : Contents) (number : Number) (asks : BodyLine) (dom : DomId) → c.command ≡ Run → number_below (2 ^ 16) number ≡ Some dom.0 → is_taken c.domains dom ≡ true
    → with_task c n dom asks ≡ Ok d → Adds n (Some (script_lines.Body number asks)) c d
unfolding with_task
adds-task n c d number asks dom run small taken e =
    let p = bind-Some _ _ d (or_mode-Ok _ d e) in
    subst (λ (x : Contents). Adds n (Some (script_lines.Body number asks)) c x) (same_Some _ _ p.2) (record {
      policy = refl;
      no_triples = λ p e. refl;
      types = Grown-refl c.types;
      triples = λ types g. sym (append-nil c.triples);
      wear = sym (append-nil (option_to_list c.wear));
      domains = λ types g. sym (append-nil c.domains);
      command = refl;
      steps =
          let lines_said : step_on c.command n (script_lines.Body number asks) ≡ None = ap (λ (k : ScriptCommand). step_for k n number asks) run in
          sym (append-nil c.steps) ∙ ap (λ (o : Option ScriptStep). c.steps ++ option_to_list o) (sym lines_said);
      flags = refl;
      kept = line-kept c.flags asks;
      tasks = λ flags k.
          let lines_said : task_on c.command flags n (script_lines.Body number asks) ≡ Some (record { line = n; dom = dom; run_action = p.0 }) =
          ap (λ (k : ScriptCommand). task_for k flags n number asks) run ∙ bind-at _ _ _ small ∙ bind-at _ _ _ (action-kept c.flags flags asks k ∙ p.1) in
          ap (λ (o : Option RunTask). c.tasks ++ option_to_list o) (sym lines_said);
      suited = ap (λ (k : ScriptCommand). asks_for k asks) run ∙ action-any (with_flag_of c.flags asks) asks p.0 p.1;
      faultless = λ h. h;
      configured = λ h. h;
      ordered = λ h. All-push (λ (t : RunTask). IsTrue (is_taken c.domains t.dom)) c.tasks _ h taken;
      numbered = λ h.
          let count = length (with_flag_of c.flags asks) in
          All-push (λ (t : RunTask). IsBelow count t.run_action) c.tasks _ (numbered-more (length c.flags) count c.tasks (line-kept c.flags asks).many h)
          (action-below c.flags asks p.0 p.1);
    })

adds-asked : (n : ℕ) (c d : Contents) (number : Number) (asks : BodyLine) (dom : DomId) (command : ScriptCommand) → c.command ≡ command → number_below (2 ^ 16) number ≡ Some dom.0
    → is_taken c.domains dom ≡ true → with_asked command c n dom asks ≡ Ok d → Adds n (Some (script_lines.Body number asks)) c d
adds-asked n c d number asks dom Play is small taken e = adds-step n c d number asks dom is small taken e
adds-asked n c d number asks dom Run is small taken e = adds-task n c d number asks dom is small taken e

adds-known : (n : ℕ) (c d : Contents) (number : Number) (asks : BodyLine) (known : Option DomId) → configured c.domains number ≡ known
    → (let r : Result Contents ScriptFaultKind = elim known [ None ↦ Err Config | Some dom ↦ with_asked c.command c n dom asks ] in r ≡ Ok d) → Adds n (Some (script_lines.Body number asks)) c d
adds-known n c d number asks None p e = absurd cc
adds-known n c d number asks (Some dom) p e =
    let is = configured-Some c.domains number dom p in
    adds-asked n c d number asks dom c.command refl is.0 is.1 e

adds-body : (n : ℕ) (c d : Contents) (number : Number) (asks : BodyLine) → with_body_line c n number asks ≡ Ok d → Adds n (Some (script_lines.Body number asks)) c d
unfolding with_body_line
adds-body n c d number asks e = adds-known n c d number asks (configured c.domains number) refl e

-- a line in its place that gives the first generation is the first to do so, and a triple stands behind no policy

no-wear : (a b c : Bool) → ((a || b) || c) ≡ false → b ≡ false
no-wear true b c h = absurd cc
no-wear false true c h = absurd cc
no-wear false false c h = refl

first-false : (a b c : Bool) → ((a || b) || c) ≡ false → a ≡ false
first-false true b c h = absurd cc
first-false false b c h = refl

none-yet : {A : Type 0} (o : Option A) → is_some o ≡ false → o ≡ None
none-yet None h = refl
none-yet (Some x) h = absurd cc

adds-wear : (n : ℕ) (c d : Contents) (first : ℕ) → c.wear ≡ None → record c { wear = Some first } ≡ d → Adds n (Some (script_lines.Wear first)) c d
adds-wear n c d first fresh same =
    subst (λ (x : Contents). Adds n (Some (script_lines.Wear first)) c x) same (record {
      policy = refl;
      no_triples = λ p e. refl;
      types = Grown-refl c.types;
      triples = λ types g. sym (append-nil c.triples);
      wear = ap (λ (o : Option ℕ). option_to_list o ++ first ∷ []) (sym fresh);
      domains = λ types g. sym (append-nil c.domains);
      command = refl;
      steps = sym (append-nil c.steps);
      flags = refl;
      kept = FlagsKept-refl c.flags;
      tasks = λ flags k. sym (append-nil c.tasks);
      suited = refl;
      faultless = λ h. h;
      configured = λ h. h;
      ordered = λ h. h;
      numbered = λ h. h;
    })

adds-placed : (n : ℕ) (c d : Contents) (l : ScriptLine) → is_misplaced c l ≡ false → with_placed c n l ≡ Ok d → Adds n (Some l) c d
unfolding is_misplaced
adds-placed n c d (script_lines.Triple t) p e = adds-triple n c d t (none-yet c.policy (first-false (is_some c.policy) (is_some c.wear) (not (is_empty c.domains)) p)) e
adds-placed n c d (script_lines.Wear first) p e =
    let fresh : c.wear ≡ None = none-yet c.wear (no-wear (has_no_rights c) (is_some c.wear) (not (is_empty c.domains)) p) in
    let same : record c { wear = Some first } ≡ d = cc in
    adds-wear n c d first fresh same
adds-placed n c d (script_lines.Domain l) p e = adds-domain n c d l e
adds-placed n c d (script_lines.Body number asks) p e = adds-body n c d number asks e

adds-line : (n : ℕ) (c d : Contents) (l : ScriptLine) → with_script_line c n l ≡ Ok d → Adds n (Some l) c d
unfolding with_script_line
adds-line n c d l e = let p = not-fault _ _ _ d e in adds-placed n c d l p.0 p.1

-- a line that adds something without fault is blank or says something
record Said (n : ℕ) (ws : List (List ℕ)) (c d : Contents) : Type 0 where
  readable : (ws ≡ []) ⊎ IsSome (line_of ws)
  adds : Adds n (line_of ws) c d

said-some : (n : ℕ) (w : List ℕ) (ws : List (List ℕ)) (c d : Contents) (o : Option ScriptLine) → line_of (w ∷ ws) ≡ o → (let r : Result Contents ScriptFaultKind = elim o [ None ↦ Err Syntax | Some l ↦ with_script_line c n l ] in r ≡ Ok d) → Said n (w ∷ ws) c d
said-some n w ws c d None p e = absurd cc
said-some n w ws c d (Some l) p e = record {
  readable = inr (subst IsSome (sym p) refl);
  adds = subst (λ (o : Option ScriptLine). Adds n o c d) (sym p) (adds-line n c d l e);
}

said-words : (n : ℕ) (ws : List (List ℕ)) (c d : Contents) → with_words c n ws ≡ Ok d → Said n ws c d
unfolding with_words
said-words n [] c d e = let same : c ≡ d = cc in record { readable = inl refl; adds = subst (λ (x : Contents). Adds n None c x) same (adds-nothing n c) }
said-words n (w ∷ ws) c d e = said-some n w ws c d (line_of (w ∷ ws)) refl e

-- what the lines from number n on add to a script
pub record Extends (n : ℕ) (ls : List (List ℕ)) (c d : Contents) : Type 0 where
  pub policy : d.policy ≡ c.policy
  pub no_triples : (p : Allowed) → c.policy ≡ Some p → d.triples ≡ c.triples
  pub readable : All IsLine ls
  pub types : Grown c.types d.types
  pub triples : (types : List (List ℕ)) → Grown d.types types → d.triples ≡ c.triples ++ filter_map (λ l. triple_in types l.1) (lines_said n ls)
  pub wear : option_to_list d.wear ≡ option_to_list c.wear ++ filter_map (λ l. wear_in l.1) (lines_said n ls)
  pub domains : (types : List (List ℕ)) → Grown d.types types → d.domains ≡ c.domains ++ filter_map (λ l. domain_in (type_names_with c.policy types) l.1) (lines_said n ls)
  pub command : d.command ≡ c.command
  pub steps : d.steps ≡ c.steps ++ filter_map (λ l. step_on c.command l.0 l.1) (lines_said n ls)
  pub flags : d.flags ≡ with_flags c.flags (filter_map (λ l. flag_on l.1) (lines_said n ls))
  pub kept : FlagsKept c.flags d.flags
  pub tasks : (flags : List (List ℕ)) → FlagsKept d.flags flags → d.tasks ≡ c.tasks ++ filter_map (λ l. task_on c.command flags l.0 l.1) (lines_said n ls)
  pub suited : All (λ l. IsTrue (is_for c.command l.1)) (lines_said n ls)
  pub faultless : AreFaultless c.domains → AreFaultless d.domains
  pub configured : All (λ (s : ScriptStep). IsTrue (is_taken c.domains s.dom)) c.steps → All (λ (s : ScriptStep). IsTrue (is_taken d.domains s.dom)) d.steps
  pub ordered : All (λ (t : RunTask). IsTrue (is_taken c.domains t.dom)) c.tasks → All (λ (t : RunTask). IsTrue (is_taken d.domains t.dom)) d.tasks
  pub numbered : AreNumbered (length c.flags) c.tasks → AreNumbered (length d.flags) d.tasks

cons-list : {X : Type 0} (o : Option X) (xs : List X) → cons_option o xs ≡ option_to_list o ++ xs
cons-list None xs = refl
cons-list (Some x) xs = refl

pub filter-cons : {X : Type 0} (g : ℕ → ScriptLine → Option X) (n : ℕ) (o : Option ScriptLine) (xs : List (ℕ × ScriptLine))
    → filter_map (λ l. g l.0 l.1) (cons_option (option_map (λ x. (n, x)) o) xs) ≡ option_to_list (o >>= g n) ++ filter_map (λ l. g l.0 l.1) xs
filter-cons g n None xs = refl
filter-cons g n (Some l) xs = cons-list (g n l) _

suits-cons : (command : ScriptCommand) (n : ℕ) (o : Option ScriptLine) (xs : List (ℕ × ScriptLine)) → Suits command o → All (λ l. IsTrue (is_for command l.1)) xs
    → All (λ l. IsTrue (is_for command l.1)) (cons_option (option_map (λ x. (n, x)) o) xs)
suits-cons command n None xs here rest = rest
suits-cons command n (Some l) xs here rest = All-cons (λ (l : ℕ × ScriptLine). IsTrue (is_for command l.1)) (n, l) xs here rest

joined : {X : Type 0} (a b e o f : List X) → b ≡ a ++ o → e ≡ b ++ f → e ≡ a ++ (o ++ f)
joined a b e o f p q = q ∙ ap (λ xs. xs ++ f) p ∙ append_assoc a o f

extends-cons : (n : ℕ) (l : List ℕ) (ls : List (List ℕ)) (c d e : Contents) → Said n (words l) c d → Extends (n + 1) ls d e → Extends n (l ∷ ls) c e
extends-cons n l ls c d e a x =
    let here = a.adds in
    record {
      policy = x.policy ∙ here.policy;
      no_triples = λ p e. x.no_triples p (here.policy ∙ e) ∙ here.no_triples p e;
      readable = All-cons IsLine l ls a.readable x.readable;
      types = Grown-trans c.types d.types e.types here.types x.types;
      triples = λ types g. joined c.triples d.triples e.triples _ _ (here.triples types (Grown-trans _ _ _ x.types g)) (x.triples types g)
          ∙ ap (λ (ts : List Triple). c.triples ++ ts) (sym (filter-cons (λ _ y. triple_in types y) n (line_of (words l)) (lines_said (n + 1) ls)));
      wear = joined (option_to_list c.wear) (option_to_list d.wear) (option_to_list e.wear) _ _ here.wear x.wear
          ∙ ap (λ (gs : List ℕ). option_to_list c.wear ++ gs) (sym (filter-cons (λ _ y. wear_in y) n (line_of (words l)) (lines_said (n + 1) ls)));
      domains = λ types g. joined c.domains d.domains e.domains _ _ (here.domains types (Grown-trans _ _ _ x.types g))
          (subst (λ (q : Option Allowed). e.domains ≡ d.domains ++ filter_map (λ l. domain_in (type_names_with q types) l.1) (lines_said (n + 1) ls)) here.policy (x.domains types g))
          ∙ ap (λ (ds : List DomainConfig). c.domains ++ ds) (sym (filter-cons (λ _ y. domain_in (type_names_with c.policy types) y) n (line_of (words l)) (lines_said (n + 1) ls)));
      command = x.command ∙ here.command;
      steps = joined c.steps d.steps e.steps _ _ here.steps (subst (λ (k : ScriptCommand). e.steps ≡ d.steps ++ filter_map (λ l. step_on k l.0 l.1) (lines_said (n + 1) ls)) here.command x.steps)
          ∙ ap (λ (ss : List ScriptStep). c.steps ++ ss) (sym (filter-cons (step_on c.command) n (line_of (words l)) (lines_said (n + 1) ls)));
      flags = x.flags ∙ ap (λ (f : List (List ℕ)). with_flags f (filter_map (λ l. flag_on l.1) (lines_said (n + 1) ls))) here.flags
          ∙ sym (fold-append with_flag c.flags (option_to_list (line_of (words l) >>= flag_on)) (filter_map (λ l. flag_on l.1) (lines_said (n + 1) ls)))
          ∙ ap (with_flags c.flags) (sym (filter-cons (λ _ y. flag_on y) n (line_of (words l)) (lines_said (n + 1) ls)));
      kept = FlagsKept-trans c.flags d.flags e.flags here.kept x.kept;
      tasks = λ flags k. joined c.tasks d.tasks e.tasks _ _ (here.tasks flags (FlagsKept-trans _ _ _ x.kept k))
          (subst (λ (k : ScriptCommand). e.tasks ≡ d.tasks ++ filter_map (λ l. task_on k flags l.0 l.1) (lines_said (n + 1) ls)) here.command (x.tasks flags k))
          ∙ ap (λ (ts : List RunTask). c.tasks ++ ts) (sym (filter-cons (task_on c.command flags) n (line_of (words l)) (lines_said (n + 1) ls)));
      suited = suits-cons c.command n (line_of (words l)) (lines_said (n + 1) ls) here.suited (subst (λ (k : ScriptCommand). All (λ l. IsTrue (is_for k l.1)) (lines_said (n + 1) ls)) here.command x.suited);
      faultless = λ h. x.faultless (here.faultless h);
      configured = λ h. x.configured (here.configured h);
      ordered = λ h. x.ordered (here.ordered h);
      numbered = λ h. x.numbered (here.numbered h);
    }

extends-line : (n : ℕ) (l : List ℕ) (ls : List (List ℕ)) (c e : Contents) (r : Result Contents ScriptFaultKind) → with_words c n (words l) ≡ r
    → ((d : Contents) → with_lines d (n + 1) ls ≡ Ok e → Extends (n + 1) ls d e)
    → (let whole : Result Contents ScriptFault = elim r [ Ok d ↦ with_lines d (n + 1) ls | Err kind ↦ Err (record { line = n; kind = kind }) ] in whole ≡ Ok e) → Extends n (l ∷ ls) c e
extends-line n l ls c e (Ok d) p rest h = extends-cons n l ls c d e (said-words n (words l) c d p) (rest d h)
extends-line n l ls c e (Err kind) p rest h = absurd cc

pub with_lines-Extends : (n : ℕ) (ls : List (List ℕ)) (c e : Contents) → with_lines c n ls ≡ Ok e → Extends n ls c e
with_lines-Extends n [] c e h =
    let same : c ≡ e = cc in
    subst (λ (x : Contents). Extends n [] c x) same (record {
      policy = refl;
      no_triples = λ p e. refl;
      readable = All-nil IsLine;
      types = Grown-refl c.types;
      triples = λ types g. sym (append-nil c.triples);
      wear = sym (append-nil (option_to_list c.wear));
      domains = λ types g. sym (append-nil c.domains);
      command = refl;
      steps = sym (append-nil c.steps);
      flags = refl;
      kept = FlagsKept-refl c.flags;
      tasks = λ flags k. sym (append-nil c.tasks);
      suited = All-nil (λ l. IsTrue (is_for c.command l.1));
      faultless = λ k. k;
      configured = λ k. k;
      ordered = λ k. k;
      numbered = λ k. k;
    })
with_lines-Extends n (l ∷ ls) c e h = extends-line n l ls c e (with_words c n (words l)) refl (λ d. with_lines-Extends (n + 1) ls d e) h
