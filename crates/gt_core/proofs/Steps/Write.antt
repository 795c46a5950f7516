-- The frames of a core: what a step of a call writes to them is by right, and leaves them as the history does.
use Rattle.gt_core.proofs.Words.{◌≡◌, ◌≤◌, ◌<◌, ◌+◌, ◌-◌, inl, inr, ℕ, refl, Bool, true, false, List, [], ◌∷◌, ◌++◌}
use Rattle.gt_core.proofs.Words.{replicate, length, take, drop, Option, Some, None, cond, sym, ap, ◌∙◌, arith, subst}
use Rattle.gt_core.proofs.Words.{eqb-true, eq-eqb, and_parts, and_from, append-nil, map-append, length-append}
use Rattle.gt_core.proofs.Words.{length-drop, length-take-le, length-replicate, ◌==◌, ◌&&◌, nat_lt, is_some, IsTrue}
use Rattle.gt_core.proofs.Words.{DomId, Write, DomainConfig, FRAME_SIZE, Entry, frame_of, permits, Handle, value_of}
use Rattle.gt_core.proofs.Words.{HeldPin, AccessPath, Direct, End, Request, OpenRequest, Store, Poke, Spot, Observation}
use Rattle.gt_core.proofs.Words.{Step, Call, CallerKnowledge, begun, frame_count_of, is_dest_granted, dest_pair, opens}
use Rattle.gt_core.proofs.Words.{Rests, RestsOnRequest, RestsOnWays, IsReached, pins_at, Patch, written, bytes_at}
use Rattle.gt_core.proofs.Words.{frame_counts, FrameSet, frame_at, has_range, all_zeros, AreKept, OpenCall, Item}
use Rattle.gt_core.proofs.Words.{Answer, Begun, State, IsLoadOf, IsReadable, IsAdmitted, AccessedBy, History, Setting}
use Rattle.gt_core.proofs.Words.{patches_at, patches_by, contents_at, written_by, WriteMade, given_in, open_call}
use Rattle.gt_core.proofs.Words.{Underway, values, known_at, IsInFrame, CopyIsJustified, grown, DomainsStand}
use Rattle.gt_core.proofs.Words.{FramesStand, StateStands, OpenAgrees, FitsGiven, begun_element, le-leb, unwrap_or}
use Rattle.gt_core.proofs.Words.{overlay, replay, zeros, FrameState, patch_of, patches, permits_writing, suffices}
use Rattle.gt_core.proofs.Words.{all_rightful, pool_number, frames_of, is_name, has_frame, admits, WritesTo, journal_in}
use Rattle.gt_core.proofs.Words.{basis_of, begun_access_path, access_path_of, IsWritOf, FrameName, Writ, WriteRecord, cond_both}
use Rattle.gt_model.specs.declared.action.Action.TheVariants as actions
use Rattle.gt_core.specs.declared.core_state.Begun.TheVariants as beginnings
use Rattle.gt_model.specs.declared.action.Step.TheVariants as call_steps
use Rattle.gt_types.specs.declared.Use.TheVariants as uses
use Rattle.gt_core.proofs.{Starting.get-replicate, Phases.call-is, Phases.none-of, Steps.Access.permits-as}
use Rattle.gt_core.proofs.{Steps.Access.mapping-pin, Steps.Access.same-held, Steps.Access.read-justified}
use Rattle.gt_core.proofs.{Steps.Access.copy-justified}
use Rattle.gt_model.proofs.Observers.{stepped}
use Rattle.gt_model.specs.declared.held.AccessPath.TheVariants.{Own}
use Rattle.gt_model.specs.Path.{end_spot}
use Rattle.std.specs.Cmp.{both_ways}

-- what a frame holds, and which frames exist

-- a range of a frame holds what the history left in it
pub bytes-held : (s : Setting) (h : History) (fs : FrameSet) (dom : DomId) (frame off len : ℕ) → FramesStand s h fs
    → bytes_at (frame_at fs (record { owner = dom; number = frame })) off len ≡ take len (drop off (contents_at h dom.0 frame))
bytes-held s h fs dom frame off len fr = let size : off + len - off ≡ len = omega arith in
    ap (λ (ps : List Patch). take (off + len - off) (drop off (written ps))) (fr.writes (record { owner = dom; number = frame }))
    ∙ ap (λ (n : ℕ). take n (drop off (contents_at h dom.0 frame))) size

frame-numbered : (ds : List DomainConfig) (t : DomId) (f at : ℕ) → f < frame_count_of ds t → is_some (pool_number (frame_counts ds) t f at) ≡ true
frame-numbered [] t f at below = absurd (omega arith)
frame-numbered (d ∷ ds) t f at below = grind (arith, frame-numbered ds t f (at + d.frames))

frame-there : (s : Setting) (h : History) (fs : FrameSet) (name : FrameName) → FramesStand s h fs → name.number < frame_count_of s.domains name.owner → has_frame fs name ≡ true
frame-there s h fs name fr below = grind (arith, frame-numbered)

range-there : (s : Setting) (h : History) (fs : FrameSet) (at : Spot) (len : ℕ) → FramesStand s h fs → IsInFrame s at len → IsTrue (has_range fs at.frame at.off len)
range-there s h fs at len fr a = and_from _ _ (frame-there s h fs at.frame fr a.0) (le-leb (at.off + len) FRAME_SIZE a.1)

-- writs

-- an entry that permits a mapping to write permits any range of its frame to be written
map-writes : (e : Entry) (d : DomId) (frame off len : ℕ) → frame ≡ frame_of e → permits e d Write uses.Map off len ≡ true → permits_writing e d frame off len ≡ true
map-writes e d frame off len is a = grind arith

-- the entries of a copy's pins permit it to write
way-covers : (k : CallerKnowledge) (d : DomId) (granted : Bool) (end : End) (len : ℕ) (pair : DomId → DomId × DomId) (access_path : AccessPath) → IsReached k d granted end Write len pair access_path
    → suffices (basis_of access_path) d (end_spot d end access_path).frame.owner (end_spot d end access_path).frame.number end.offset len ≡ true
way-covers k d granted end len pair access_path a = grind arith

-- the access path of a call, which suffices, is that of its writ
admitted-by : (fs : FrameSet) (x : State) (call : Call) (name : FrameName) (off len : ℕ) (access_path : AccessPath) → has_frame fs name ≡ true → off + len ≤ FRAME_SIZE → access_path_of x.mappings call ≡ access_path
    → suffices (basis_of access_path) call.caller name.owner name.number off len ≡ true → (w : Writ) → IsWritOf x call w → IsTrue (admits fs name w off len)
admitted-by fs x call name off len access_path there within is right w of_call = grind arith

-- what the next step of an open call writes is by right
pub open-admitted : (s : Setting) (h : History) (xs : List State) (fs : FrameSet) (x : State) (o : OpenCall) (c : Underway) → DomainsStand s h xs → FramesStand s h fs → StateStands s h x → open_call h x.id.0 ≡ Some c → OpenAgrees s h x.id o c
    → IsAdmitted fs x o.call o.step
open-admitted s h xs fs x o c st fr a call here = subst (λ (z : Call). IsAdmitted fs x z o.step) (sym (call-is o.call x.id c.request here.phase here.caller here.asks here.here)) (by o.step here.rests) where
  k : CallerKnowledge
  k = known_at s h x.id

  asked_so : OpenRequest → Call
  asked_so r = record { caller = x.id; request = r; phase = Some here.phase }

  now : Call
  now = asked_so c.request

  given : FitsGiven c.request x.given
  given = let g = a.given c call in subst (FitsGiven c.request) (sym g.0) g.1

  -- a store through a mapping writes by the mapping's entry, and a poke to a frame of the caller's own
  writes : (dom : DomId) (frame off len : ℕ) → begun k x.id c.request ≡ None → RestsOnRequest k x.id c.request (call_steps.Write dom frame off len) → IsAdmitted fs x now (call_steps.Write dom frame off len)
  writes dom frame off len none (inl (handle, is, mapped)) = let m = mapped.mapping in let o = opens k x.id (Store handle off len) (none-of k x.id c.request (Store handle off len) is none) in
      let same : o.mapping ≡ m = same-held k handle o.mapping m o.found mapped.found in
      let writable : m.dir ≡ Write = ap (λ (q : HeldPin). q.dir) (sym same) ∙ o.writable in
      let one = (mapping-pin s h xs x.id handle m st mapped.found).4 in
      let held : value_of x.mappings handle ≡ Some m = ap (λ (f : Handle → Option HeldPin). f handle) a.mappings.named ∙ mapped.found in
      let fits : FitsGiven (Store handle off len) x.given = subst (λ (q : OpenRequest). FitsGiven q x.given) is given in
      let within : off + length x.given ≤ FRAME_SIZE = let e = fits.0 in let room = fits.1 in omega arith in
      let below : frame < frame_count_of s.domains dom = subst (λ (n : ℕ). n < frame_count_of s.domains dom) (sym mapped.of_frame) (subst (λ (z : DomId). frame_of m.entry < frame_count_of s.domains z) (sym mapped.of_dom) one.lets.2) in
      admitted-by fs x now (record { owner = dom; number = frame }) off (length x.given) (Direct m)
      (frame-there s h fs (record { owner = dom; number = frame }) fr below) within (ap (λ (q : OpenRequest). access_path_of x.mappings (asked_so q)) is ∙ ap begun_access_path held)
      (map-writes m.entry x.id frame off (length x.given) mapped.of_frame (permits-as m.entry x.id m.dir Write off (length x.given) (λ w. writable) one.lets.0))
  writes dom frame off len none (inr (is, own)) = let o = opens k x.id (Poke frame off len) (none-of k x.id c.request (Poke frame off len) is none) in
      let fits : FitsGiven (Poke frame off len) x.given = subst (λ (q : OpenRequest). FitsGiven q x.given) is given in
      let within : off + length x.given ≤ FRAME_SIZE = let e = fits.0 in let room = fits.1 in omega arith in
      admitted-by fs x now (record { owner = dom; number = frame }) off (length x.given) Own
      (frame-there s h fs (record { owner = dom; number = frame }) fr (subst (λ (z : DomId). frame < frame_count_of s.domains z) (sym own) o.framed)) within (ap (λ (q : OpenRequest). access_path_of x.mappings (asked_so q)) is)
      (eq-eqb x.id.0 dom.0 (ap (λ (z : DomId). z.0) (sym own)))

  -- a copy writes by the pins of its destination
  copies : (from to : Spot) (len : ℕ) → begun k x.id c.request ≡ None → RestsOnWays k x.id c.request (pins_at here.phase) from to len → IsAdmitted fs x now (call_steps.Copy from to len)
  copies from to len none w = let c' = w.copy in let pins = pins_at here.phase in
      let inside = subst (λ (q : OpenRequest). CopyIsJustified s h x.id q from to len) w.of_copy (copy-justified s h x.id c.request pins from to len none here.held w) in
      let t = end_spot x.id c'.dest pins.dest in
      let right : suffices (basis_of pins.dest) x.id t.frame.owner t.frame.number t.off c'.len ≡ true = way-covers k x.id (is_dest_granted c') c'.dest c'.len (dest_pair x.id pins.source) pins.dest w.dest_reached in
      let right_to : suffices (basis_of pins.dest) x.id to.frame.owner to.frame.number to.off len ≡ true = subst (λ (z : Spot). suffices (basis_of pins.dest) x.id z.frame.owner z.frame.number z.off len ≡ true) (sym w.to_is)
      (subst (λ (n : ℕ). suffices (basis_of pins.dest) x.id t.frame.owner t.frame.number t.off n ≡ true) (sym w.len_is) right) in
      (range-there s h fs from len fr inside.0, admitted-by fs x now to.frame to.off len pins.dest (frame-there s h fs to.frame fr inside.1.0) inside.1.1 (ap (λ (q : OpenRequest). access_path_of x.mappings (asked_so q)) w.of_copy) right_to)

  by : (step : Step) → Rests k x.id c.request (pins_at here.phase) (values c) (actions.Step step) → IsAdmitted fs x now step
  by (call_steps.Write dom frame off len) r = writes dom frame off len r.0 r.1
  by (call_steps.Copy from to len) r = copies from to len r.0 r.1
  by step r = tt

-- what it reads exists
pub open-readable : (s : Setting) (h : History) (xs : List State) (fs : FrameSet) (x : State) (o : OpenCall) (c : Underway) → DomainsStand s h xs → FramesStand s h fs → OpenAgrees s h x.id o c → IsReadable fs o.call o.step
open-readable s h xs fs x o c st fr here = by o.step here.rests where
  long : (dom : DomId) (frame off len : ℕ) → RestsOnRequest (known_at s h x.id) x.id c.request (call_steps.Read dom frame off len) → IsLoadOf o.call.request len
  long dom frame off len (inl (handle, is, mapped)) = subst (λ (q : OpenRequest). IsLoadOf q len) (sym (here.asks ∙ is)) refl
  long dom frame off len (inr (is, own)) = subst (λ (q : OpenRequest). IsLoadOf q len) (sym (here.asks ∙ is)) refl

  by : (step : Step) → Rests (known_at s h x.id) x.id c.request (pins_at here.phase) (values c) (actions.Step step) → IsReadable fs o.call step
  by (call_steps.Read dom frame off len) r = let just = read-justified s h xs x.id c.request dom frame off len st r.0 r.1 in
      (range-there s h fs (record { frame = record { owner = dom; number = frame }; off = off }) len fr just.0, long dom frame off len r.1)
  by step r = tt

-- the size of a frame

-- laying bytes over others inside them keeps their number
length-overlay : (xs : List ℕ) (off : ℕ) (ys : List ℕ) → off + length ys ≤ length xs → length (overlay xs off ys) ≡ length xs
length-overlay xs off ys within = grind (arith, length-take-le, length-append, length-drop)

length-replay : (owner : DomId) (number : ℕ) (rs : List WriteRecord) (xs : List ℕ) → length xs ≡ FRAME_SIZE → IsTrue (all_rightful owner number rs) → length (replay xs (patches rs)) ≡ FRAME_SIZE
length-replay owner number [] xs full a = full
length-replay owner number (r ∷ rs) xs full a = grind (arith, length-replay owner number rs (overlay xs r.off r.bytes), length-overlay xs r.off r.bytes, and_parts)

length-zeros : length zeros ≡ FRAME_SIZE
unfolding zeros
length-zeros = length-replicate {A = ℕ} FRAME_SIZE 0

filled-by : (h : History) (fs : FrameSet) → ((name : FrameName) → patches (frame_at fs name).journal ≡ patches_at h name.owner.0 name.number) → AreKept fs → (t f : ℕ) → length (contents_at h t f) ≡ FRAME_SIZE
filled-by h fs writes kept t f = let name : FrameName = record { owner = record { 0 = t }; number = f } in
    ap (λ (ps : List Patch). length (written ps)) (sym (writes name)) ∙ length-replay name.owner f (frame_at fs name).journal zeros length-zeros (kept name)

-- one more item

-- what the item writes
abbrev WritingOf : Item → History → Option WriteMade
WritingOf i h = written_by i.happened (given_in (open_call h i.actor.0)) (λ u g. written (patches_at h u g))

patches-more : (i : Item) (h : History) (t f : ℕ) → patches_at (i ∷ h) t f ≡ patches_at h t f ++ patches_by (WritingOf i h) t f
unfolding patches_at
patches-more i h t f = refl

-- an item that writes nothing
nothing-written : (s : Setting) (h : History) (fs : FrameSet) (i : Item) → WritingOf i h ≡ None → FramesStand s h fs → FramesStand s (i ∷ h) fs
nothing-written s h fs i none fr = grind (arith, filled-by, append-nil, patches-more)

-- an item that writes these bytes to a frame by this writ
written-once : (s : Setting) (h : History) (fs gs : FrameSet) (i : Item) (at : Spot) (w : Writ) (bytes : List ℕ) → WritingOf i h ≡ Some (record { at = at; bytes = bytes }) → FramesStand s h fs → WritesTo fs gs at.frame w at.off bytes → AreKept gs
    → FramesStand s (i ∷ h) gs
written-once s h fs gs i at w bytes wrote fr to kept = record { counts = to.domains ∙ fr.counts; writes = writes; kept = kept; filled = filled-by (i ∷ h) gs writes kept }
  where
    patch : Patch
    patch = record { off = at.off; bytes = bytes }

    elsewhere : (name : FrameName) → is_name name at.frame ≡ false → patches (frame_at gs name).journal ≡ patches_at h name.owner.0 name.number ++ []
    elsewhere name apart = ap (λ (z : FrameState). patches z.journal) (to.others name apart) ∙ fr.writes name ∙ sym (append-nil (patches_at h name.owner.0 name.number))

    here : patches (frame_at gs at.frame).journal ≡ patches_at h at.frame.owner.0 at.frame.number ++ patch ∷ []
    here = ap (λ (z : FrameState). patches z.journal) to.write.journal
        ∙ map-append patch_of (frame_at fs at.frame).journal (record { writ = w; off = at.off; bytes = bytes } ∷ [])
        ∙ ap (λ (ps : List Patch). ps ++ patch ∷ []) (fr.writes at.frame)

    named : (name : FrameName) → at.frame.owner.0 ≡ name.owner.0 → at.frame.number ≡ name.number → at.frame ≡ name
    named name a b = ap (λ (n : ℕ). record { owner = record { 0 = n }; number = at.frame.number }) a ∙ ap (λ (n : ℕ). record { owner = name.owner; number = n }) b

    swap : (a b : ℕ) → (a == b) ≡ (b == a)
    swap a b = both_ways (a == b) (b == a) (λ e. eq-eqb b a (sym (eqb-true a b e))) (λ e. eq-eqb a b (sym (eqb-true b a e)))

    writes : (name : FrameName) → patches (frame_at gs name).journal ≡ patches_at (i ∷ h) name.owner.0 name.number
    writes name = let was = patches_at h name.owner.0 name.number in
        cond_both ((at.frame.owner.0 == name.owner.0) && (at.frame.number == name.number)) (patch ∷ []) [] (λ ps. patches (frame_at gs name).journal ≡ was ++ ps)
        (λ is. let e = and_parts (at.frame.owner.0 == name.owner.0) (at.frame.number == name.number) is in
        subst (λ (z : FrameName). patches (frame_at gs z).journal ≡ patches_at h z.owner.0 z.number ++ patch ∷ []) (named name (eqb-true at.frame.owner.0 name.owner.0 e.0) (eqb-true at.frame.number name.number e.1)) here)
        (λ off. elsewhere name (ap (λ (b : Bool). b && (name.number == at.frame.number)) (swap name.owner.0 at.frame.owner.0) ∙ ap (λ (b : Bool). (at.frame.owner.0 == name.owner.0) && b) (swap name.number at.frame.number) ∙ off))
        ∙ ap (λ (z : Option WriteMade). was ++ patches_by z name.owner.0 name.number) (sym wrote) ∙ sym (patches-more i h name.owner.0 name.number)

-- the frames after a step, which wrote the bytes of its request or those of its source
pub frames-stepped : (s : Setting) (h : History) (fs gs : FrameSet) (x : State) (call : Call) (step : Step) (seen : Observation) (answer : Option Answer) (c : Underway) → open_call h x.id.0 ≡ Some c → x.given ≡ c.given → FramesStand s h fs → AccessedBy x call step fs gs
    → FramesStand s (stepped x.id step seen answer ∷ h) gs
frames-stepped s h fs gs x call step seen answer c under given fr = by step where
  by : (z : Step) → AccessedBy x call z fs gs → FramesStand s (stepped x.id z seen answer ∷ h) gs
  by (call_steps.Write dom frame off len) a =
      written-once s h fs gs (stepped x.id (call_steps.Write dom frame off len) seen answer) (record { frame = record { owner = dom; number = frame }; off = off }) a.0 x.given
      (ap (λ (u : Option Underway). Some (record { at = record { frame = record { owner = dom; number = frame }; off = off }; bytes = given_in u })) under ∙ ap (λ (l : List ℕ). Some (record { at = record { frame = record { owner = dom; number = frame }; off = off }; bytes = l })) (sym given)) fr a.2 a.3
  by (call_steps.Copy from to len) a =
      written-once s h fs gs (stepped x.id (call_steps.Copy from to len) seen answer) to a.0 (bytes_at (frame_at fs from.frame) from.off len)
      (ap (λ (l : List ℕ). Some (record { at = to; bytes = l })) (sym (bytes-held s h fs from.frame.owner from.frame.number from.off len fr))) fr a.2 a.3
  by z a = subst (FramesStand s (stepped x.id z seen answer ∷ h)) (sym a) (nothing-written s h fs (stepped x.id z seen answer) refl fr)

-- a beginning writes nothing
pub frames-begun : (s : Setting) (h : History) (fs : FrameSet) (dom : DomId) (request : Request) (b : Begun) → FramesStand s h fs → FramesStand s (grown h (begun_element dom request b)) fs
frames-begun s h fs dom request beginnings.Busy fr = fr
frames-begun s h fs dom request beginnings.NoDomain fr = fr
frames-begun s h fs dom request b fr = nothing-written s h fs _ refl fr

-- new frames

no-patches : (t f : ℕ) → patches_at [] t f ≡ []
unfolding patches_at
no-patches t f = refl

pub frames-start : (s : Setting) (fs : FrameSet) → fs ≡ all_zeros (frame_counts s.domains) → AreKept fs → FramesStand s [] fs
frames-start s fs same kept = record { counts = ap (λ (z : FrameSet). z.domains) same; writes = writes; kept = kept; filled = filled-by [] fs writes kept }
  where
    picked : (b : Bool) → ◌≡◌ {A = List WriteRecord} (unwrap_or (cond b (Some []) None) []) []
    picked true = refl
    picked false = refl

    by : (place : Option ℕ) → journal_in place (replicate (frames_of (frame_counts s.domains)) []) ≡ []
    by None = refl
    by (Some n) = ap (λ (o : Option (List WriteRecord)). unwrap_or o []) (get-replicate (frames_of (frame_counts s.domains)) n []) ∙ picked (nat_lt n (frames_of (frame_counts s.domains)))

    writes : (name : FrameName) → patches (frame_at fs name).journal ≡ patches_at [] name.owner.0 name.number
    writes name = ap (λ (z : FrameSet). patches (frame_at z name).journal) same ∙ ap patches (by (pool_number (frame_counts s.domains) name.owner name.number 0)) ∙ sym (no-patches name.owner.0 name.number)
