-- Each legal trace has another one for each choice of the bytes that high domains pass.
use Rattle.gt_core.proofs.Words.{◌≡◌, ◌≢◌, ◌⊎◌, inl, ◌+◌, ℕ, refl, Bool, true, false, List, [], ◌∷◌, ◌++◌, Option}
use Rattle.gt_core.proofs.Words.{Some, None, cond, ap, sym, ◌∙◌, subst, ◌==◌, option_map, none-some, same_Some, length}
use Rattle.gt_core.proofs.Words.{gather, by_leg, map, take, drop, DomId, TypeId, Header}
use Rattle.gt_core.proofs.Words.{Denial, asked, begun_of, bytes_given_by, CallerKnowledge, Request}
use Rattle.gt_core.proofs.Words.{OpenRequest, Map, Load, Store, Peek, Poke, SetupTable, QuerySize, GetVersion}
use Rattle.gt_core.proofs.Words.{Step, LookHeader, StoreHeader, Observation, path}
use Rattle.gt_core.proofs.Words.{domain_of, History, Setting, Underway, Pin, table_at, open_call, known_at}
use Rattle.gt_core.proofs.Words.{values, given_in, stood, contents_at, patches_at}
use Rattle.gt_core.proofs.Words.{patches_by, written_by, written, Patch, IsRight, StepsRight, StepsRightIn}
use Rattle.gt_core.proofs.Words.{BeginsRight, AnsweredBy, GivesValue, Justified}
use Rattle.gt_core.proofs.Words.{refusal_of, refusal_if, gives_back, verdict_in, CallResult, MayDo}
use Rattle.gt_core.proofs.Words.{LegalAfter, grown, history_after, SpellsItsEntry, MAX_TABLE_FRAMES}
use Rattle.gt_model.specs.declared.action.Action.TheVariants as actions
use Rattle.gt_model.specs.declared.action.Step.TheVariants as call_steps
use Rattle.gt_core.specs.Alike.{KeylessItem}
use Rattle.gt_model.specs.Legal.{Legal, actor_of}
use Rattle.std.specs.Prelude.{min, ◌-◌, ◌&&◌}
use Rattle.std.proofs.lemmas.List.{length-append, length-drop, length-map, length-take, map-append}
use Rattle.gt_model.specs.Written.{overlay, replay, zeros}
use Rattle.gt_model.specs.declared.trace.Answer.{Answer}
use Rattle.gt_model.specs.declared.trace.Answer.TheVariants as answers
use Rattle.gt_model.specs.declared.trace.Event.{Event}
use Rattle.gt_model.specs.declared.trace.Event.TheVariants.{Begin, Tick}
use Rattle.gt_model.specs.declared.trace.ItemEvent.{ItemEvent}
use Rattle.gt_model.specs.declared.trace.ItemEvent.TheVariants.{Began, Stepped}
use Rattle.gt_model.specs.declared.trace.Item.{Item}
use Rattle.gt_model.specs.declared.trace.Element.{Element}
use Rattle.gt_model.specs.declared.trace.Element.TheVariants.{Busy, Idle, NoDomain}
use Rattle.gt_model.specs.declared.trace.Element.TheVariants as elements
use Rattle.gt_model.specs.declared.request.Request.TheVariants as requests
use Rattle.gt_flow.specs.Flow.{IsClosed}
use Rattle.gt_flow.specs.Laws.{SameLowFrames}
use Rattle.gt_flow.specs.Low.{hidden_happened, hidden_request, is_high}
use Rattle.gt_flow.specs.OtherBytes.{SameButHighBytes, SameButPassed, byteless_element, byteless_event, unread}
use Rattle.gt_flow.proofs.Allowed.{IsReading, IsWriting, read-flows, write-flows}
use Rattle.gt_flow.proofs.Frames.{Passes, PassesIn, copied-low, hides, low-source, open-passes, patch-same}
use Rattle.gt_flow.proofs.Veiled.{asked-hidden, begun-hidden}
use Rattle.gt_flow.proofs.Agreeing.{Agree, Every, every, justified-same, safe-same, sees-same, sound-same}
use Rattle.gt_flow.proofs.Matched.{Matched, SameRunAction, agrees, agrees-back, fitted, fitted-all}
use Rattle.gt_flow.proofs.Matched.{matched-grows, reanswered, reread, strip}

-- the writes to frames of low domains are the same after both
abbrev pub SameLow : Setting → (TypeId → Bool) → History → History → Type 0
SameLow s high g h = (t f : ℕ) → hides s high t ≡ false → patches_at g t f ≡ patches_at h t f

-- where each write begins, and how many bytes it has
abbrev pub shape : Patch → ℕ × ℕ
shape p = (p.off, length p.bytes)

-- the writes to each frame are as many, at the same places and of as many bytes
abbrev pub SameShapes : History → History → Type 0
SameShapes g h = (t f : ℕ) → map shape (patches_at g t f) ≡ map shape (patches_at h t f)

cons_parts : {A : Type 0} (x y : A) (xs ys : List A) → x ∷ xs ≡ y ∷ ys → (x ≡ y) × (xs ≡ ys)
cons_parts x y xs ys e = (cc, cc)

length-overlay : (xs ys : List ℕ) (off : ℕ) (bytes others : List ℕ) → length xs ≡ length ys → length bytes ≡ length others → length (overlay xs off bytes) ≡ length (overlay ys off others)
length-overlay xs ys off bytes others e f = laid xs bytes
    ∙ ap (λ (n : ℕ). min off n + length bytes + (n - (off + length bytes))) e
    ∙ ap (λ (n : ℕ). min off (length ys) + n + (length ys - (off + n))) f
    ∙ sym (laid ys others)
  where
    laid : (zs bs : List ℕ) → length (overlay zs off bs) ≡ min off (length zs) + length bs + (length zs - (off + length bs))
    laid zs bs = length-append (take off zs ++ bs) (drop (off + length bs) zs)
        ∙ ap (λ (n : ℕ). n + length (drop (off + length bs) zs)) (length-append (take off zs) bs ∙ ap (λ (n : ℕ). n + length bs) (length-take off zs))
        ∙ ap (λ (n : ℕ). min off (length zs) + length bs + n) (length-drop (off + length bs) zs)

length-replays : (ps qs : List Patch) (xs ys : List ℕ) → length xs ≡ length ys → map shape ps ≡ map shape qs → length (replay xs ps) ≡ length (replay ys qs)
length-replays [] [] xs ys e same = e
length-replays [] (q ∷ qs) xs ys e same = absurd (let f = same in cc)
length-replays (p ∷ ps) [] xs ys e same = absurd (let f = same in cc)
length-replays (p ∷ ps) (q ∷ qs) xs ys e same = let f = cons_parts (shape p) (shape q) (map shape ps) (map shape qs) same in
    length-replays ps qs (overlay xs p.off p.bytes) (overlay ys q.off q.bytes)
    (length-overlay xs ys p.off p.bytes q.bytes e (ap (λ (z : ℕ × ℕ). z.1) f.0) ∙ ap (λ (n : ℕ). length (overlay ys n q.bytes)) (ap (λ (z : ℕ × ℕ). z.0) f.0)) f.1

length-written : (ps qs : List Patch) → map shape ps ≡ map shape qs → length (written ps) ≡ length (written qs)
length-written ps qs same = length-replays ps qs zeros zeros refl same

part-length : (n o : ℕ) (xs ys : List ℕ) → length xs ≡ length ys → length (take n (drop o xs)) ≡ length (take n (drop o ys))
part-length n o xs ys e = length-take n (drop o xs) ∙ ap (λ (k : ℕ). min n k) (length-drop o xs ∙ ap (λ (k : ℕ). k - o) e ∙ sym (length-drop o ys)) ∙ sym (length-take n (drop o ys))

stripped-none : (o p : Option Underway) → option_map strip o ≡ option_map strip p → o ≡ None → p ≡ None
stripped-none None None e is = refl
stripped-none None (Some p) e is = absurd (none-some _ e)
stripped-none (Some o) p e is = absurd (none-some _ (sym is))

refusal-again : (b : Bool) (h : History) (st : Option Step) (a : Answer) → refusal_of (reanswered b h st a) ≡ refusal_of a
refusal-again b h st (answers.Bytes x) = refl
refusal-again b h st a = refl

refusal-if-again : (b : Bool) (h : History) (st : Option Step) (a : Option Answer) → refusal_if (option_map (reanswered b h st) a) ≡ refusal_if a
refusal-if-again b h st None = refl
refusal-if-again b h st (Some a) = refusal-again b h st a

none-back : (f : Answer → Answer) (a : Option Answer) → option_map f a ≡ None → a ≡ None
none-back f None e = refl
none-back f (Some a) e = absurd (none-some _ (sym e))

module _ (s : Setting) (high : TypeId → Bool) (g h : History) (m : Matched s high g h) where
  forth : Agree s Every g h
  forth = agrees s high g h m

  back : Agree s Every h g
  back = agrees-back s high g h m

  -- answers

  reread-is : (b : Bool) (t : DomId) (f o n : ℕ) (x : Rattle.gt_model.specs.declared.trace.Bytes.Bytes) → (length (contents_at g t.0 f) ≡ length (contents_at h t.0 f)) → (b ≡ false → contents_at g t.0 f ≡ contents_at h t.0 f) → x.bytes.items ≡ take n (drop o (contents_at g t.0 f))
      → (cond b (reread h (Some (call_steps.Read t f o n)) x) x).bytes.items ≡ take n (drop o (contents_at h t.0 f))
  reread-is true t f o n x sized same is = let ys : List ℕ = take n (drop o (contents_at h t.0 f)) in
      ap (λ (k : ℕ). fitted k ys) (ap length is ∙ part-length n o (contents_at g t.0 f) (contents_at h t.0 f) sized) ∙ fitted-all ys
  reread-is false t f o n x sized same is = is ∙ ap (λ (bytes : List ℕ). take n (drop o bytes)) (same refl)

  module _ (d : DomId) where
    abbrev b : Bool
    b = is_high s high d

    -- what a low domain reads is the same
    abbrev ReadsSame : Option Step → OpenRequest → Type 0
    ReadsSame st r = (t : DomId) (f o n : ℕ) → st ≡ Some (call_steps.Read t f o n) → IsReading r
        → (length (contents_at g t.0 f) ≡ length (contents_at h t.0 f)) × (b ≡ false → contents_at g t.0 f ≡ contents_at h t.0 f)

    value-same : (r : OpenRequest) (st : Option Step) (a : Answer) → ReadsSame st r → GivesValue s g d r st a → GivesValue s h d r st (reanswered b h st a)
    value-same r st (answers.Denied x) low v = tt
    value-same (Map dom gref flags) (Some (call_steps.Pin p)) (answers.Mapped handle) low v = v ∙ m.maps d.0
    value-same (Load handle off len) (Some (call_steps.Read t f o n)) (answers.Bytes x) low v = reread-is b t f o n x (low t f o n refl tt).0 (low t f o n refl tt).1 v
    value-same (Peek frame off len) (Some (call_steps.Read t f o n)) (answers.Bytes x) low v = reread-is b t f o n x (low t f o n refl tt).0 (low t f o n refl tt).1 v
    value-same (SetupTable frames) None a low v = ap (reanswered b h None) v ∙ ap (λ (x : Header). answers.Frames x.frames) (m.table d)
    value-same (SetupTable frames) (Some (StoreHeader version stored)) a low v = ap (reanswered b h (Some (StoreHeader version stored))) v
    value-same (QuerySize dom) (Some (LookHeader t)) a low v =
        ap (reanswered b h (Some (LookHeader t))) v ∙ ap (λ (x : Header). answers.Size (record { frames = x.frames; max = MAX_TABLE_FRAMES })) (m.table t)
    value-same (GetVersion dom) (Some (LookHeader t)) a low v = ap (reanswered b h (Some (LookHeader t))) v ∙ ap (λ (x : Header). answers.Version x.version) (m.table t)
    value-same (Map dom gref flags) st a low v = absurd v
    value-same (Load handle off len) st a low v = absurd v
    value-same (Peek frame off len) st a low v = absurd v
    value-same (SetupTable frames) st a low v = absurd v
    value-same (QuerySize dom) st a low v = absurd v
    value-same (GetVersion dom) st a low v = absurd v
    value-same r st a low v = ap (reanswered b h st) v

    answered-same : (r : OpenRequest) (st : Option Step) (giving : Bool) (v : Option CallResult) (a : Option Answer) (against : Option Denial) → ReadsSame st r
        → AnsweredBy s g d r st giving v a against → AnsweredBy s h d r st giving v (option_map (reanswered b h st) a) against
    answered-same r st giving None None against low x = x
    answered-same r st giving None (Some z) against low x = absurd x
    answered-same r st giving (Some v) None against low x = absurd x
    answered-same r st giving (Some v) (Some z) against low x = (refusal-again b h st z ∙ x.0, refusal-again b h st z ∙ x.1, value-same r st z low x.2)

    abbrev item : ItemEvent → Option Answer → Item
    item x a = record { actor = d; happened = x; answer = a }

    abbrev again : Option Step → Option Answer → Option Answer
    again st a = option_map (reanswered b h st) a

    -- a step that is right after the one is right after the other
    reads-low : (z : Step) (v : Observation) (a : Option Answer) (c : Underway) → IsClosed s.may high → SameLow s high g h → SameShapes g h → StepsRight s g (item (Stepped z v) a) z v c → ReadsSame (Some z) c.request
    reads-low z v a c closed same shapes right t f o n is reads = let e : z ≡ call_steps.Read t f o n = same_Some z (call_steps.Read t f o n) is in
        let way = subst (λ (y : Step). path (known_at s g d) d c.request (values c) ≡ Some (actions.Step y)) e right.continues in
        let just = subst (λ (y : Step). Justified s g d c.request y) e right.justified in (
          length-written (patches_at g t.0 f) (patches_at h t.0 f) (shapes t.0 f),
          λ low. ap written (same t.0 f (low-source s high t d closed (read-flows s g d c.request (values c) t f o n reads way just.2) low)),
        )

    step-right : (z : Step) (v : Observation) (a : Option Answer) (c : Underway) (w : List ℕ) → IsClosed s.may high → SameLow s high g h → SameShapes g h → StepsRight s g (item (Stepped z v) a) z v c
        → Matched s high (item (Stepped z v) a ∷ g) (item (Stepped z v) (again (Some z) a) ∷ h)
        → StepsRight s h (item (Stepped z v) (again (Some z) a)) z v (record { request = c.request; given = w; steps = c.steps })
    step-right z v a c w closed same shapes right next = record {
      continues = sym (ap (λ (k : CallerKnowledge). path k d c.request (values c)) (forth.known d tt)) ∙ right.continues;
      sees = right.sees ∙ sees-same s Every g h forth d z tt (every z);
      justified = justified-same s Every h g back d c.request z tt right.justified;
      safe = safe-same s Every h g back d z v a (again (Some z) a) tt right.safe;
      sound = sound-same s Every h g back d c.request z v tt (every z) right.sound;
      soon = λ e. right.soon (none-back (reanswered b h (Some z)) a e);
      left = λ e. let l = right.left (λ n. e (refusal-if-again b h (Some z) a ∙ n)) in (l.0, subst (λ (ps : List Pin). gather by_leg d.0 ps ≡ []) next.pins l.1);
      answered = subst (λ (o : Option Denial). AnsweredBy s h d c.request (Some z) (gives_back (path (known_at s h d) d c.request (values c ++ v ∷ []))) (verdict_in (path (known_at s h d) d c.request (values c ++ v ∷ []))) (again (Some z) a) o)
          (next.ruled d.0)
          (subst (λ (k : CallerKnowledge). AnsweredBy s h d c.request (Some z) (gives_back (path k d c.request (values c ++ v ∷ []))) (verdict_in (path k d c.request (values c ++ v ∷ []))) (again (Some z) a) (stood s (item (Stepped z v) a ∷ g) d.0))
          (forth.known d tt)
          (answered-same c.request (Some z) _ _ a _ (reads-low z v a c closed same shapes right) right.answered));
    }

    steps-right : (z : Step) (v : Observation) (a : Option Answer) (o p : Option Underway) → IsClosed s.may high → SameLow s high g h → SameShapes g h → option_map strip o ≡ option_map strip p
        → StepsRightIn s g (item (Stepped z v) a) z v o → Matched s high (item (Stepped z v) a ∷ g) (item (Stepped z v) (again (Some z) a) ∷ h)
        → StepsRightIn s h (item (Stepped z v) (again (Some z) a)) z v p
    steps-right z v a None p closed same shapes e right next = absurd right
    steps-right z v a (Some c) None closed same shapes e right next = absurd (none-some _ (sym e))
    steps-right z v a (Some c) (Some k) closed same shapes e right next = let f = same_Some (strip c) (strip k) e in
        subst (λ (u : Underway). StepsRight s h (item (Stepped z v) (again (Some z) a)) z v (record { request = u.request; given = k.given; steps = u.steps })) f
        (step-right z v a c k.given closed same shapes right next)

    -- what is written to frames of low domains

    low-given : (r : OpenRequest) (one other : List ℕ) → Passes r one → Passes r other → (IsWriting r → b ≡ false) → (b ≡ false → one ≡ other) → one ≡ other
    low-given (Store handle off len) one other p q low same = same (low tt)
    low-given (Poke frame off len) one other p q low same = same (low tt)
    low-given r one other p q low same = p ∙ sym q

    passed-same : (t : DomId) (f o n : ℕ) (v : Observation) (a : Option Answer) (x y : Option Underway) → IsClosed s.may high → is_high s high t ≡ false → option_map strip x ≡ option_map strip y → PassesIn x → PassesIn y
        → (b ≡ false → given_in x ≡ given_in y) → StepsRightIn s g (item (Stepped (call_steps.Write t f o n) v) a) (call_steps.Write t f o n) v x → given_in x ≡ given_in y
    passed-same t f o n v a None y closed low e p q same right = absurd right
    passed-same t f o n v a (Some c) None closed low e p q same right = absurd (none-some _ (sym e))
    passed-same t f o n v a (Some c) (Some k) closed low e p q same right = let u = same_Some (strip c) (strip k) e in
        low-given c.request c.given k.given p (subst (λ (r : OpenRequest). Passes r k.given) (sym (ap (λ (z : Underway). z.request) u)) q)
        (λ writes. low-source s high d t closed (write-flows s g d c.request (values c) t f o n writes right.continues right.justified.2) low) same

    step-patches : (z : Step) (v : Observation) (a : Option Answer) (t f : ℕ) → IsClosed s.may high → SameLow s high g h → hides s high t ≡ false → StepsRightIn s g (item (Stepped z v) a) z v (open_call g d.0)
        → patches_by (written_by (Stepped z v) (given_in (open_call g d.0)) (λ u k. written (patches_at g u k))) t f
        ≡ patches_by (written_by (Stepped z v) (given_in (open_call h d.0)) (λ u k. written (patches_at h u k))) t f
    step-patches (call_steps.Write dom frame off len) v a t f closed same low right =
        patch-same dom frame off (given_in (open_call g d.0)) (given_in (open_call h d.0)) t f (λ own.
        passed-same dom frame off len v a (open_call g d.0) (open_call h d.0) closed (subst (λ (n : ℕ). hides s high n ≡ false) (sym own) low) (m.calls d.0) (open-passes g d.0) (open-passes h d.0) (m.given d.0) right)
    step-patches (call_steps.Copy from to len) v a t f closed same low right =
        patch-same to.frame.owner to.frame.number to.off (take len (drop from.off (written (patches_at g from.frame.owner.0 from.frame.number)))) (take len (drop from.off (written (patches_at h from.frame.owner.0 from.frame.number)))) t f (λ own.
        ap (λ (ps : List Patch). take len (drop from.off (written ps))) (same from.frame.owner.0 from.frame.number
        (copied-low s high g (item (Stepped (call_steps.Copy from to len) v) a) from to len v (open_call g d.0) closed (subst (λ (n : ℕ). hides s high n ≡ false) (sym own) low) right)))
    step-patches z v a t f closed same low right = refl

    step-low : (z : Step) (v : Observation) (a c : Option Answer) → IsClosed s.may high → SameLow s high g h → StepsRightIn s g (item (Stepped z v) a) z v (open_call g d.0)
        → SameLow s high (item (Stepped z v) a ∷ g) (item (Stepped z v) c ∷ h)
    unfolding patches_at
    step-low z v a c closed same right t f low =
        ap (λ (ps : List Patch). patches_at g t f ++ ps) (step-patches z v a t f closed same low right)
        ∙ ap (λ (ps : List Patch). ps ++ patches_by (written_by (Stepped z v) (given_in (open_call h d.0)) (λ u k. written (patches_at h u k))) t f) (same t f low)

    begin-low : (q r : Request) (a c : Option Answer) → SameLow s high g h → SameLow s high (item (Began q) a ∷ g) (item (Began r) c ∷ h)
    unfolding patches_at
    begin-low q r a c same t f low = ap (λ (ps : List Patch). ps ++ []) (same t f low)

    -- shapes

    patch-shape : (owner : DomId) (number off : ℕ) (one other : List ℕ) (t f : ℕ) → length one ≡ length other
        → map shape (patches_by (Some (record { at = record { frame = record { owner = owner; number = number }; off = off }; bytes = one })) t f)
        ≡ map shape (patches_by (Some (record { at = record { frame = record { owner = owner; number = number }; off = off }; bytes = other })) t f)
    patch-shape owner number off one other t f same = by ((owner.0 == t) && (number == f)) where
      by : (e : Bool) → map shape (cond {A = List Patch} e (record { off = off; bytes = one } ∷ []) []) ≡ map shape (cond {A = List Patch} e (record { off = off; bytes = other } ∷ []) [])
      by true = ap (λ (n : ℕ). (off, n) ∷ []) same
      by false = refl

    write-shape : (z : Step) (v : Observation) (t f : ℕ) → SameShapes g h
        → map shape (patches_by (written_by (Stepped z v) (given_in (open_call g d.0)) (λ u k. written (patches_at g u k))) t f)
        ≡ map shape (patches_by (written_by (Stepped z v) (given_in (open_call h d.0)) (λ u k. written (patches_at h u k))) t f)
    write-shape (call_steps.Write dom frame off len) v t f shapes = patch-shape dom frame off (given_in (open_call g d.0)) (given_in (open_call h d.0)) t f (m.lengths d.0)
    write-shape (call_steps.Copy from to len) v t f shapes =
        let xs = patches_at g from.frame.owner.0 from.frame.number in let ys = patches_at h from.frame.owner.0 from.frame.number in
        patch-shape to.frame.owner to.frame.number to.off (take len (drop from.off (written xs))) (take len (drop from.off (written ys))) t f
        (part-length len from.off (written xs) (written ys) (length-written xs ys (shapes from.frame.owner.0 from.frame.number)))
    write-shape z v t f shapes = refl

    step-shapes : (z : Step) (v : Observation) (a c : Option Answer) → SameShapes g h → SameShapes (item (Stepped z v) a ∷ g) (item (Stepped z v) c ∷ h)
    unfolding patches_at
    step-shapes z v a c shapes t f =
        let ps = patches_by (written_by (Stepped z v) (given_in (open_call g d.0)) (λ u k. written (patches_at g u k))) t f in
        let qs = patches_by (written_by (Stepped z v) (given_in (open_call h d.0)) (λ u k. written (patches_at h u k))) t f in
        map-append shape (patches_at g t f) ps ∙ ap (λ (l : List (ℕ × ℕ)). l ++ map shape ps) (shapes t f) ∙ ap (λ (l : List (ℕ × ℕ)). map shape (patches_at h t f) ++ l) (write-shape z v t f shapes)
        ∙ sym (map-append shape (patches_at h t f) qs)

    begin-shapes : (q r : Request) (a c : Option Answer) → SameShapes g h → SameShapes (item (Began q) a ∷ g) (item (Began r) c ∷ h)
    unfolding patches_at
    begin-shapes q r a c shapes t f = map-append shape (patches_at g t f) [] ∙ ap (λ (l : List (ℕ × ℕ)). l ++ []) (shapes t f) ∙ sym (map-append shape (patches_at h t f) [])

    -- a beginning

    begin-right : (q r : Request) (a : Option Answer) → SameRunAction b (Began q) (Began r) → ((k : Header) → SpellsItsEntry k q → SpellsItsEntry k r) → BeginsRight s g (item (Began q) a) q
        → Matched s high (item (Began q) a ∷ g) (item (Began r) (again None a) ∷ h) → BeginsRight s h (item (Began r) (again None a)) r
    begin-right q r a run_action spells right next = (
      stripped-none (open_call g d.0) (open_call h d.0) (m.calls d.0) right.0,
      subst (λ (o : Option Denial). AnsweredBy s h d (asked r) None false (begun_of (known_at s h d) d r) (again None a) o) (next.ruled d.0)
          (subst (λ (o : Option CallResult). AnsweredBy s h d (asked r) None false o (again None a) (stood s (item (Began q) a ∷ g) d.0))
          (ap (λ (k : CallerKnowledge). begun_of k d q) (forth.known d tt) ∙ run_action.1 (known_at s h d) d)
          (subst (λ (u : OpenRequest). AnsweredBy s h d u None false (begun_of (known_at s g d) d q) (again None a) (stood s (item (Began q) a ∷ g) d.0)) run_action.0
          (answered-same (asked q) None false _ a _ (λ t f o n is. absurd (none-some _ is)) right.1))),
      λ e. subst (λ (k : Header). SpellsItsEntry k r) (m.table d) (spells (table_at s g d) (right.2 (none-back (reanswered b h None) a e))),
    )

-- events

-- both histories, and what their low domains have
pub record Paired (s : Setting) (high : TypeId → Bool) (g h : History) : Type 0 where
  pub matched : Matched s high g h
  pub low : SameLow s high g h
  pub shapes : SameShapes g h

-- what the other event does
pub record DoesToo (s : Setting) (high : TypeId → Bool) (g h : History) (x : Element) (f : Event) : Type 0 where
  pub y : Element
  pub may : MayDo s h f y
  pub same : byteless_element s high x ≡ byteless_element s high y
  pub paired : Paired s high (grown g x) (grown h y)

same-request : (low : Bool) (q r : Request) → cond low (hidden_request q) q ≡ cond low (hidden_request r) r → hidden_request q ≡ hidden_request r
same-request true q r e = e
same-request false q r e = ap hidden_request e

spells-hidden : (k : Header) (q : Request) → SpellsItsEntry k (hidden_request q) ≡ SpellsItsEntry k q
spells-hidden k (requests.Store handle off bytes) = refl
spells-hidden k (requests.Poke frame off bytes) = refl
spells-hidden k q = refl

hidden-length : (q : Request) → length (bytes_given_by (hidden_request q)) ≡ length (bytes_given_by q)
hidden-length (requests.Store handle off bytes) = length-map bytes.now (λ (b : ℕ). 0)
hidden-length (requests.Poke frame off bytes) = length-map bytes.now (λ (b : ℕ). 0)
hidden-length q = refl

same-asked : (b : Bool) (q r : Request) → cond b (hidden_request q) q ≡ cond b (hidden_request r) r → SameRunAction b (Began q) (Began r)
same-asked b q r e = let f = same-request b q r e in (
  sym (asked-hidden q) ∙ ap asked f ∙ asked-hidden r,
  λ k d. sym (begun-hidden k d q) ∙ ap (begun_of k d) f ∙ begun-hidden k d r,
  λ low. ap bytes_given_by (subst (λ (z : Bool). cond z (hidden_request q) q ≡ cond z (hidden_request r) r) low e),
  sym (hidden-length q) ∙ ap (λ (z : Request). length (bytes_given_by z)) f ∙ hidden-length r,
)

same-answer : (h : History) (st : Option Step) (a : Option Answer) → option_map unread (option_map (reanswered true h st) a) ≡ option_map unread a
same-answer h st None = refl
same-answer h st (Some (answers.Bytes x)) = refl
same-answer h st (Some a) = refl

kept-answer : (h : History) (st : Option Step) (a : Option Answer) → option_map (reanswered false h st) a ≡ a
kept-answer h st None = refl
kept-answer h st (Some (answers.Bytes x)) = refl
kept-answer h st (Some a) = refl

abbrev parts : DomId → ItemEvent → Option Answer → Item
parts d x a = record { actor = d; happened = x; answer = a }

abbrev told : DomId → ItemEvent → Option (Answer ⊎ List ℕ) → KeylessItem
told d x v = record { actor = d; happened = x; answer = v }

answer-told : (b : Bool) (h : History) (st : Option Step) (a : Option Answer)
    → cond b (option_map unread a) (option_map inl a) ≡ cond b (option_map unread (option_map (reanswered b h st) a)) (option_map inl (option_map (reanswered b h st) a))
answer-told true h st a = sym (same-answer h st a)
answer-told false h st a = ap (option_map inl) (sym (kept-answer h st a))

same-item : (b : Bool) (h : History) (st : Option Step) (d : DomId) (x y : ItemEvent) (a : Option Answer) → cond b (hidden_happened x) x ≡ cond b (hidden_happened y) y
    → told d (cond b (hidden_happened x) x) (cond b (option_map unread a) (option_map inl a))
    ≡ told d (cond b (hidden_happened y) y) (cond b (option_map unread (option_map (reanswered b h st) a)) (option_map inl (option_map (reanswered b h st) a)))
same-item b h st d x y a e = ap (λ (z : ItemEvent). told d z (cond b (option_map unread a) (option_map inl a))) e ∙ ap (told d (cond b (hidden_happened y) y)) (answer-told b h st a)

same-began : (b : Bool) (q r : Request) → cond b (hidden_request q) q ≡ cond b (hidden_request r) r → cond b (hidden_happened (Began q)) (Began q) ≡ cond b (hidden_happened (Began r)) (Began r)
same-began true q r e = ap (λ (z : Request). Began z) e
same-began false q r e = ap (λ (z : Request). Began z) e

begin-parts : (d k : DomId) (q r : Request) → Begin d q ≡ Begin k r → (d ≡ k) × (q ≡ r)
begin-parts d k q r e = (cc, cc)

tick-parts : (d k : DomId) → Tick d ≡ Tick k → d ≡ k
tick-parts d k e = cc

module _ (s : Setting) (high : TypeId → Bool) (g h : History) (closed : IsClosed s.may high) (pair : Paired s high g h) where
  -- a step
  steps-too : (d : DomId) (z : Step) (v : Observation) (a : Option Answer) → domain_of s.domains d ≢ None → IsRight s g (parts d (Stepped z v) a) → DoesToo s high g h (elements.Item (parts d (Stepped z v) a)) (Tick d)
  steps-too d z v a named right = let b = is_high s high d in let c = option_map (reanswered b h (Some z)) a in
      let next = matched-grows s high g h pair.matched d (Stepped z v) (Stepped z v) a c refl (Some z) refl in
      record {
        y = elements.Item (parts d (Stepped z v) c);
        may = (named, (refl, tt), steps-right s high g h pair.matched d z v a (open_call g d.0) (open_call h d.0) closed pair.low pair.shapes (pair.matched.calls d.0) right next);
        same = ap {B = KeylessItem ⊎ Element} (λ (i : KeylessItem). inl i) (same-item b h (Some z) d (Stepped z v) (Stepped z v) a refl);
        paired = record { matched = next; low = step-low s high g h pair.matched d z v a c closed pair.low right; shapes = step-shapes s high g h pair.matched d z v a c pair.shapes };
      }

  begins-too : (d : DomId) (q r : Request) (a : Option Answer) → cond (is_high s high d) (hidden_request q) q ≡ cond (is_high s high d) (hidden_request r) r → domain_of s.domains d ≢ None
      → IsRight s g (parts d (Began q) a) → DoesToo s high g h (elements.Item (parts d (Began q) a)) (Begin d r)
  begins-too d q r a e named right = let b = is_high s high d in let c = option_map (reanswered b h None) a in let run_action = same-asked b q r e in
      let next = matched-grows s high g h pair.matched d (Began q) (Began r) a c run_action None refl in
      let f = same-request b q r e in
      record {
        y = elements.Item (parts d (Began r) c);
        may = (
          named,
          (refl, refl),
          begin-right s high g h pair.matched d q r a run_action (λ k x. let z : SpellsItsEntry k (hidden_request q) = subst (λ (t : Type 0). t) (sym (spells-hidden k q)) x in
              subst (λ (t : Type 0). t) (spells-hidden k r) (subst (λ (p : Request). SpellsItsEntry k p) f z)) right next,
        );
        same = ap {B = KeylessItem ⊎ Element} (λ (i : KeylessItem). inl i) (same-item b h None d (Began q) (Began r) a (same-began b q r e));
        paired = record { matched = next; low = begin-low s high g h pair.matched d q r a c pair.low; shapes = begin-shapes s high g h pair.matched d q r a c pair.shapes };
      }

  tick-too : (d : DomId) (x : Element) → MayDo s g (Tick d) x → DoesToo s high g h x (Tick d)
  tick-too d NoDomain may = record { y = NoDomain; may = may; same = refl; paired = pair }
  tick-too d Busy may = absurd may
  tick-too d Idle may = record { y = Idle; may = (may.0, stripped-none (open_call g d.0) (open_call h d.0) (pair.matched.calls d.0) may.1); same = refl; paired = pair }
  tick-too d (elements.Item i) may = subst (λ (k : DomId). DoesToo s high g h (elements.Item i) (Tick k)) may.1.0 (by i.actor i.happened i.answer (subst (λ (k : DomId). domain_of s.domains k ≢ None) (sym may.1.0) may.0) (refl, may.1.1) may.2) where
    by : (k : DomId) (x : ItemEvent) (a : Option Answer) → domain_of s.domains k ≢ None → Rattle.gt_model.specs.Legal.IsItemOf (Tick k) (parts k x a) → IsRight s g (parts k x a) → DoesToo s high g h (elements.Item (parts k x a)) (Tick k)
    by k (Stepped z v) a named step right = steps-too k z v a named right
    by k (Began q) a named step right = absurd step.1

  begin-too : (d : DomId) (q r : Request) (x : Element) → cond (is_high s high d) (hidden_request q) q ≡ cond (is_high s high d) (hidden_request r) r → MayDo s g (Begin d q) x → DoesToo s high g h x (Begin d r)
  begin-too d q r NoDomain e may = record { y = NoDomain; may = may; same = refl; paired = pair }
  begin-too d q r Idle e may = absurd may
  begin-too d q r Busy e may = record { y = Busy; may = (may.0, λ n. may.1 (stripped-none (open_call h d.0) (open_call g d.0) (sym (pair.matched.calls d.0)) n)); same = refl; paired = pair }
  begin-too d q r (elements.Item i) e may =
      subst (λ (k : Item). DoesToo s high g h (elements.Item k) (Begin d r)) (sym is) (begins-too d q r i.answer e may.0 (subst (λ (k : Item). IsRight s g k) is may.2)) where
        is : i ≡ parts d (Began q) i.answer
        is = let one = may.1.0 in let two = may.1.1 in ap (λ (k : DomId). parts k i.happened i.answer) one ∙ ap (λ (z : ItemEvent). parts d z i.answer) two

  event-too : (e f : Event) (x : Element) → byteless_event s high e ≡ byteless_event s high f → MayDo s g e x → DoesToo s high g h x f
  event-too (Begin d q) (Begin k r) x same may = let z = begin-parts d k _ _ same in
      subst (λ (t : DomId). cond (is_high s high d) (hidden_request q) q ≡ cond (is_high s high t) (hidden_request r) r → DoesToo s high g h x (Begin t r)) z.0 (λ same-q. begin-too d q r x same-q may) z.1
  event-too (Tick d) (Tick k) x same may = subst (λ (t : DomId). DoesToo s high g h x (Tick t)) (tick-parts d k same) (tick-too d x may)
  event-too (Begin d q) (Tick k) x same may = absurd (let z = same in cc)
  event-too (Tick d) (Begin k r) x same may = absurd (let z = same in cc)

-- traces

-- a legal trace of the other events
pub record HasOther (s : Setting) (high : TypeId → Bool) (g h : History) (fs : List Event) (xs : List Element) : Type 0 where
  pub ys : List Element
  pub legal : LegalAfter s h fs ys
  pub same : SameButHighBytes s high xs ys
  pub paired : Paired s high (history_after g xs) (history_after h ys)

pub others-after : (s : Setting) (high : TypeId → Bool) (g h : History) (es fs : List Event) (xs : List Element) → IsClosed s.may high → Paired s high g h → SameButPassed s high es fs → LegalAfter s g es xs → HasOther s high g h fs xs
others-after s high g h [] [] [] closed pair same legal = record { ys = []; legal = tt; same = refl; paired = pair }
others-after s high g h (e ∷ es) (f ∷ fs) (x ∷ xs) closed pair same legal =
    let z = cons_parts (byteless_event s high e) (byteless_event s high f) _ _ same in
    let one = event-too s high g h closed pair e f x z.0 legal.0 in
    let rest = others-after s high (grown g x) (grown h one.y) es fs xs closed one.paired z.1 legal.1 in
    record {
      ys = one.y ∷ rest.ys;
      legal = (one.may, rest.legal);
      same = ap (λ (k : KeylessItem ⊎ Element). k ∷ map (byteless_element s high) xs) one.same ∙ ap (λ (l : List (KeylessItem ⊎ Element)). byteless_element s high one.y ∷ l) rest.same;
      paired = rest.paired;
    }
others-after s high g h [] (f ∷ fs) xs closed pair same legal = absurd (let z = same in cc)
others-after s high g h (e ∷ es) [] xs closed pair same legal = absurd (let z = same in cc)
others-after s high g h [] [] (x ∷ xs) closed pair same legal = absurd legal
others-after s high g h (e ∷ es) (f ∷ fs) [] closed pair same legal = absurd legal

pub starts-paired : (s : Setting) (high : TypeId → Bool) → Paired s high [] []
starts-paired s high = record {
  matched = record {
    entry = λ t r. refl;
    raises = λ t r. refl;
    body = λ t r which. refl;
    table = λ t. refl;
    maps = λ d. refl;
    pins = refl;
    calls = λ d. refl;
    given = λ d low. refl;
    lengths = λ d. refl;
    ruled = λ d. refl;
  };
  low = λ t f low. refl;
  shapes = λ t f. refl;
}

pub low-frames : (s : Setting) (high : TypeId → Bool) (g h : History) → Paired s high g h → SameLowFrames s high g h
low-frames s high g h pair d f low = ap written (pair.low d.0 f low)

pub each-has-others : (s : Setting) (high : TypeId → Bool) (es fs : List Event) (xs : List Element) → IsClosed s.may high → SameButPassed s high es fs → Legal s es xs
    → (ys : List Element) × Legal s fs ys × SameButHighBytes s high xs ys × SameLowFrames s high (history_after [] xs) (history_after [] ys)
each-has-others s high es fs xs closed same legal = let o = others-after s high [] [] es fs xs closed (starts-paired s high) same legal in
    (o.ys, o.legal, o.same, low-frames s high (history_after [] xs) (history_after [] o.ys) o.paired)
