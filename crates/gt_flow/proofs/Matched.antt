-- Two histories that are the same except for bytes of high domains: what they leave, but for bytes, is the same.
use Rattle.gt_core.proofs.Words.{◌≡◌, ◌+◌, ℕ, zero, suc, refl, Bool, true, false, List, [], ◌∷◌, ◌++◌, Option, Some}
use Rattle.gt_core.proofs.Words.{None, cond, ap, sym, ◌∙◌, subst, ◌==◌, option_map, eqb-true, length, gather}
use Rattle.gt_core.proofs.Words.{by_leg, reverse, DomId, TypeId, Entry, Header, EntryChange, BodyWord, Denial}
use Rattle.gt_core.proofs.Words.{asked, begun_of, bytes_given_by, CallerKnowledge, Request, OpenRequest, Taken}
use Rattle.gt_core.proofs.Words.{Step, Observation}
use Rattle.gt_core.proofs.Words.{History, Setting, Underway, Pin, entry_at, changed_entry_of}
use Rattle.gt_core.proofs.Words.{change_at, change_of, raises_at, raise_after, body_at, or_else, stored_at, table_at}
use Rattle.gt_core.proofs.Words.{header_or, header_stored, open_call, underway_with, underway_after}
use Rattle.gt_core.proofs.Words.{maps_answered_at, one_if_mapped, live, pinned_by, unpinned_by, holder_after}
use Rattle.gt_core.proofs.Words.{known_at}
use Rattle.gt_core.proofs.Words.{given_in, stood, stood_with, first_in_call, first_of_item}
use Rattle.gt_core.proofs.Words.{refusal_in, take, drop, contents_at, PinHolder}
use Rattle.gt_model.specs.declared.action.Step.TheVariants as call_steps
use Rattle.gt_model.specs.declared.trace.Answer.{Answer}
use Rattle.gt_model.specs.declared.trace.Answer.TheVariants as answers
use Rattle.gt_model.specs.declared.trace.Bytes.{Bytes}
use Rattle.gt_model.specs.declared.trace.ItemEvent.{ItemEvent}
use Rattle.gt_model.specs.declared.trace.ItemEvent.TheVariants.{Began, Stepped}
use Rattle.gt_model.specs.declared.trace.Item.{Item}
use Rattle.gt_flow.specs.Low.{is_high}
use Rattle.gt_flow.proofs.Agreeing.{Agree, Every, agree-all, every, first-same}
use Rattle.gt_flow.proofs.Frames.{hides}
use Rattle.gt_flow.proofs.Veiled.{pinned-entries}

-- an open call without the bytes that it was passed
abbrev pub strip : Underway → Underway
strip c = record { request = c.request; given = []; steps = c.steps }

-- what two histories leave is the same, but for bytes in frames, and bytes that high domains passed
pub record Matched (s : Setting) (high : TypeId → Bool) (g h : History) : Type 0 where
  pub entry : (t r : ℕ) → entry_at g t r ≡ entry_at h t r
  pub raises : (t r : ℕ) → raises_at g t r ≡ raises_at h t r
  pub body : (t r : ℕ) (which : BodyWord) → body_at g t r which ≡ body_at h t r which
  pub table : (t : DomId) → table_at s g t ≡ table_at s h t
  pub maps : (d : ℕ) → maps_answered_at g d ≡ maps_answered_at h d
  pub pins : live g ≡ live h
  pub calls : (d : ℕ) → option_map strip (open_call g d) ≡ option_map strip (open_call h d)
  pub given : (d : ℕ) → hides s high d ≡ false → given_in (open_call g d) ≡ given_in (open_call h d)
  pub lengths : (d : ℕ) → length (given_in (open_call g d)) ≡ length (given_in (open_call h d))
  pub ruled : (d : ℕ) → stood s g d ≡ stood s h d

-- the events are the same, but for the bytes that a request passes if they are hidden
abbrev pub SameRunAction : Bool → ItemEvent → ItemEvent → Type 0
SameRunAction b (Began q) (Began r) =
    (asked q ≡ asked r) × ((k : CallerKnowledge) (d : DomId) → begun_of k d q ≡ begun_of k d r) × (b ≡ false → bytes_given_by q ≡ bytes_given_by r)
    × (length (bytes_given_by q) ≡ length (bytes_given_by r))
SameRunAction b (Stepped z v) (Stepped y w) = Stepped z v ≡ Stepped y w
SameRunAction b (Began q) (Stepped y w) = ⊥
SameRunAction b (Stepped z v) (Began r) = ⊥

same-run_action : {A : Type 0} (f : ItemEvent → A) → ((q r : Request) → f (Began q) ≡ f (Began r)) → (b : Bool) (x y : ItemEvent) → SameRunAction b x y → f x ≡ f y
same-run_action f begins b (Began q) (Began r) same = begins q r
same-run_action f begins b (Stepped z v) (Stepped y w) same = ap f same
same-run_action f begins b (Began q) (Stepped y w) same = absurd same
same-run_action f begins b (Stepped z v) (Began r) same = absurd same

-- answers

-- the first n of the bytes, with zeros if there are less
abbrev pub fitted : ℕ → List ℕ → List ℕ
fitted zero xs = []
fitted (suc n) [] = 0 ∷ fitted n []
fitted (suc n) (x ∷ xs) = x ∷ fitted n xs

pub length-fitted : (n : ℕ) (xs : List ℕ) → length (fitted n xs) ≡ n
length-fitted zero xs = refl
length-fitted (suc n) [] = ap (λ (k : ℕ). suc k) (length-fitted n [])
length-fitted (suc n) (x ∷ xs) = ap (λ (k : ℕ). suc k) (length-fitted n xs)

pub fitted-all : (xs : List ℕ) → fitted (length xs) xs ≡ xs
fitted-all [] = refl
fitted-all (x ∷ xs) = ap (λ (l : List ℕ). x ∷ l) (fitted-all xs)

-- a list of as many bytes
abbrev pub with_bytes : Bytes → List ℕ → Bytes
with_bytes b xs = record {
  bytes = record b.bytes {
    items = fitted (length b.bytes.items) xs;
    ok = (b.bytes.ok.0 ∙ sym (length-fitted (length b.bytes.items) xs), b.bytes.ok.1);
  };
}

-- the bytes that a read of this history has
abbrev pub reread : History → Option Step → Bytes → Bytes
reread h (Some (call_steps.Read t f o n)) b = with_bytes b (take n (drop o (contents_at h t.0 f)))
reread h step b = b

-- the answer, with those bytes if they are hidden
abbrev pub reanswered : Bool → History → Option Step → Answer → Answer
reanswered b h step (answers.Bytes x) = answers.Bytes (cond b (reread h step x) x)
reanswered b h step a = a

pub mapped-again : (b : Bool) (h : History) (step : Option Step) (a : Option Answer) → one_if_mapped a ≡ one_if_mapped (option_map (reanswered b h step) a)
mapped-again b h step None = refl
mapped-again b h step (Some (answers.Bytes x)) = refl
mapped-again b h step (Some a) = refl

holder-again : (b : Bool) (h : History) (step : Option Step) (a : Option Answer) (n : ℕ) → holder_after a n ≡ holder_after (option_map (reanswered b h step) a) n
holder-again b h step None n = refl
holder-again b h step (Some (answers.Bytes x)) n = refl
holder-again b h step (Some a) n = refl

pinned-again : (d : DomId) (y : ItemEvent) (a c : Option Answer) (h : History) (ps : List Pin) → ((n : ℕ) → holder_after a n ≡ holder_after c n) → pinned_by d y a h ps ≡ pinned_by d y c h ps
pinned-again d (Stepped (call_steps.Pin p) Taken) a c h ps same =
    ap (λ (k : PinHolder). record { actor = d.0; holder = k; held = record p { entry = entry_at h p.dom.0 p.gref.0 } } ∷ []) (same (length (gather by_leg d.0 ps)))
pinned-again d y a c h ps same = refl

-- what follows from it

module _ (s : Setting) (high : TypeId → Bool) (g h : History) (m : Matched s high g h) where
  pub agrees : Agree s Every g h
  agrees = agree-all s g h m.entry m.raises m.body m.table m.maps m.pins

  pub agrees-back : Agree s Every h g
  agrees-back = agree-all s h g (λ t r. sym (m.entry t r)) (λ t r. sym (m.raises t r))
      (λ t r which. sym (m.body t r which)) (λ t. sym (m.table t)) (λ d. sym (m.maps d)) (sym m.pins)

  first-stripped : (l : History) (d : DomId) (x : ItemEvent) (c : Option Underway) → first_in_call s l d x c ≡ first_in_call s l d x (option_map strip c)
  first-stripped l d (Began q) c = refl
  first-stripped l d (Stepped z v) None = refl
  first-stripped l d (Stepped z v) (Some c) = refl

  first-in : (b : Bool) (d : DomId) (x y : ItemEvent) (c : Option Underway) → SameRunAction b x y → first_in_call s g d x c ≡ first_in_call s h d y c
  first-in b d (Began q) (Began r) c same = ap refusal_in (ap (λ (k : CallerKnowledge). begun_of k d q) (agrees.known d tt) ∙ same.1 (known_at s h d) d)
  first-in b d (Stepped z v) (Stepped y w) None same = refl
  first-in b d (Stepped z v) (Stepped y w) (Some c) same = first-same s Every g h agrees d c.request (reverse c.steps) z tt (every z) ∙ ap (λ (x : ItemEvent). first_in_call s h d x (Some c)) same
  first-in b d (Began q) (Stepped y w) c same = absurd same
  first-in b d (Stepped z v) (Began r) c same = absurd same

  -- one more item on both
  module _ (d : DomId) (x y : ItemEvent) (a c : Option Answer) (same : SameRunAction (is_high s high d) x y) (st : Option Step) (again : c ≡ option_map (reanswered (is_high s high d) h st) a) where
    abbrev one : Item
    one = record { actor = d; happened = x; answer = a }

    abbrev other : Item
    other = record { actor = d; happened = y; answer = c }

    abbrev b : Bool
    b = is_high s high d

    strip-with : (z : Step) (v : Observation) (o : Option Underway) → option_map strip (underway_with (Stepped z v) o) ≡ underway_with (Stepped z v) (option_map strip o)
    strip-with z v None = refl
    strip-with z v (Some o) = refl

    with-same : (x y : ItemEvent) (o p : Option Underway) → SameRunAction b x y → option_map strip o ≡ option_map strip p → option_map strip (underway_with x o) ≡ option_map strip (underway_with y p)
    with-same (Began q) (Began r) o p same e = ap (λ (z : OpenRequest). Some (record { request = z; given = []; steps = [] })) same.0
    with-same (Stepped z v) (Stepped y w) o p same e =
        strip-with z v o ∙ ap (λ (k : Option Underway). underway_with (Stepped z v) k) e ∙ sym (strip-with z v p) ∙ ap (λ (k : ItemEvent). option_map strip (underway_with k p)) same
    with-same (Began q) (Stepped y w) o p same e = absurd same
    with-same (Stepped z v) (Began r) o p same e = absurd same

    -- what begins now passes bytes with the same of this
    abbrev Begins : {A : Type 0} → (List ℕ → A) → Type 0
    Begins f = (q r : Request) → SameRunAction b (Began q) (Began r) → f (bytes_given_by q) ≡ f (bytes_given_by r)

    given-with : {A : Type 0} (f : List ℕ → A) → Begins f → (x y : ItemEvent) (o p : Option Underway) → SameRunAction b x y → f (given_in o) ≡ f (given_in p) → f (given_in (underway_with x o)) ≡ f (given_in (underway_with y p))
    given-with f begins (Began q) (Began r) o p same e = begins q r same
    given-with f begins (Stepped z v) (Stepped y w) None None same e = refl
    given-with f begins (Stepped z v) (Stepped y w) None (Some p) same e = e
    given-with f begins (Stepped z v) (Stepped y w) (Some o) None same e = e
    given-with f begins (Stepped z v) (Stepped y w) (Some o) (Some p) same e = e
    given-with f begins (Began q) (Stepped y w) o p same e = absurd same
    given-with f begins (Stepped z v) (Began r) o p same e = absurd same

    after-same : (a : Option Answer) (o p : Option Underway) → option_map strip o ≡ option_map strip p
        → option_map strip (underway_after (record one { answer = a }) o) ≡ option_map strip (underway_after (record other { answer = option_map (reanswered b h st) a }) p)
    after-same None o p e = with-same x y o p same e
    after-same (Some z) o p e = refl

    given-after : {A : Type 0} (f : List ℕ → A) → Begins f → (a : Option Answer) (o p : Option Underway) → f (given_in o) ≡ f (given_in p)
        → f (given_in (underway_after (record one { answer = a }) o)) ≡ f (given_in (underway_after (record other { answer = option_map (reanswered b h st) a }) p))
    given-after f begins None o p e = given-with f begins x y o p same e
    given-after f begins (Some z) o p e = refl

    either : {A B : Type 0} (f : A → B) (e : Bool) (p q k l : A) → f p ≡ f k → f q ≡ f l → f (cond e p q) ≡ f (cond e k l)
    either f true p q k l here there = here
    either f false p q k l here there = there

    owner-given : {A : Type 0} (f : List ℕ → A) (t : ℕ) (e : Bool) → (d.0 == t) ≡ e → ((d.0 == t) ≡ true → Begins f) → f (given_in (open_call g t)) ≡ f (given_in (open_call h t))
        → f (given_in (cond e (underway_after one (open_call g t)) (open_call g t))) ≡ f (given_in (cond e (underway_after other (open_call h t)) (open_call h t)))
    owner-given f t true own begins was =
        subst (λ (z : Option Answer). f (given_in (underway_after one (open_call g t))) ≡ f (given_in (underway_after (record other { answer = z }) (open_call h t)))) (sym again)
        (given-after f (begins own) a (open_call g t) (open_call h t) was)
    owner-given f t false own begins was = was

    pub matched-grows : Matched s high (one ∷ g) (other ∷ h)
    unfolding entry_at raises_at body_at table_at maps_answered_at live open_call stood
    matched-grows = record {
      entry = λ t r. ap (λ (k : Option EntryChange). changed_entry_of (cond (d.0 == t) k None) (entry_at g t r)) (same-run_action (λ z. change_at z r) (λ q p. refl) b x y same)
          ∙ ap (λ (k : Entry). changed_entry_of (change_of other t r) k) (m.entry t r);
      raises = λ t r. ap (λ (k : Option EntryChange). raises_at g t r + raise_after (cond (d.0 == t) k None)) (same-run_action (λ z. change_at z r) (λ q p. refl) b x y same)
          ∙ ap (λ (n : ℕ). n + raise_after (change_of other t r)) (m.raises t r);
      body = λ t r which. ap (λ (o : Option ℕ). or_else (cond (d.0 == t) o None) (body_at g t r which)) (same-run_action (λ z. stored_at z r which) (λ q p. refl) b x y same)
          ∙ ap (λ (n : ℕ). or_else (cond (d.0 == t) (stored_at y r which) None) n) (m.body t r which);
      table = λ t. ap (λ (o : Option Header). header_or (cond (d.0 == t.0) o None) (table_at s g t)) (same-run_action header_stored (λ q p. refl) b x y same)
          ∙ ap (λ (z : Header). header_or (cond (d.0 == t.0) (header_stored y) None) z) (m.table t);
      maps = λ t. ap (λ (n : ℕ). cond (d.0 == t) n 0 + maps_answered_at g t) (mapped-again b h st a ∙ ap one_if_mapped (sym again))
          ∙ ap (λ (n : ℕ). cond (d.0 == t) (one_if_mapped c) 0 + n) (m.maps t);
      pins = ap (λ (ps : List Pin). unpinned_by d x ps ++ pinned_by d x a g ps) m.pins
          ∙ ap (λ (ps : List Pin). ps ++ pinned_by d x a g (live h)) (same-run_action (λ z. unpinned_by d z (live h)) (λ q p. refl) b x y same)
          ∙ ap (λ (ps : List Pin). unpinned_by d y (live h) ++ ps)
          (same-run_action (λ z. pinned_by d z a g (live h)) (λ q p. refl) b x y same ∙ pinned-entries d y a g h (live h) m.entry
          ∙ pinned-again d y a c h (live h) (λ n. holder-again b h st a n ∙ ap (λ (k : Option Answer). holder_after k n) (sym again)));
      calls = λ t. either (option_map strip) (d.0 == t) (underway_after one (open_call g t)) (open_call g t) (underway_after other (open_call h t)) (open_call h t)
          (after-same a (open_call g t) (open_call h t) (m.calls t) ∙ ap (λ (z : Option Answer). option_map strip (underway_after (record other { answer = z }) (open_call h t))) (sym again)) (m.calls t);
      given = λ t low. owner-given (λ (l : List ℕ). l) t (d.0 == t) refl (λ own q r run_action. run_action.2 (subst (λ (n : ℕ). hides s high n ≡ false) (sym (eqb-true d.0 t own)) low)) (m.given t low);
      lengths = λ t. owner-given length t (d.0 == t) refl (λ own q r run_action. run_action.3) (m.lengths t);
      ruled = λ t. let first : first_of_item s g one ≡ first_of_item s h other =
          first-stripped g d x (open_call g d.0) ∙ ap (λ (o : Option Underway). first_in_call s g d x o) (m.calls d.0) ∙ sym (first-stripped g d x (open_call h d.0)) ∙ first-in b d x y (open_call h d.0) same in
          ap (λ (o : Option Denial). cond (d.0 == t) (stood_with x (stood s g t) o) (stood s g t)) first
          ∙ ap (λ (o : Option Denial). cond (d.0 == t) (stood_with x o (first_of_item s h other)) o) (m.ruled t)
          ∙ ap (λ (o : Option Denial). cond (d.0 == t) o (stood s h t)) (same-run_action (λ z. stood_with z (stood s h t) (first_of_item s h other)) (λ q p. refl) b x y same);
    }
