-- An access path that reaches a range for writing covers it by its writ.
use Rattle.std.proofs.Common.{◌≡◌, ℕ, true, ◌&&◌, IsTrue, sym, ◌∙◌, ap, arith}
use Rattle.std.proofs.lemmas.Bool.{and_from, eq-eqb}
use Rattle.std.proofs.lemmas.Bool.Decides.{nat_tests}
use Rattle.gt_types.specs.declared.DomId.{DomId}
use Rattle.gt_types.specs.declared.Dir.{Dir}
use Rattle.gt_types.specs.declared.Dir.TheVariants.{Write}
use Rattle.gt_types.specs.declared.Use.{Use}
use Rattle.gt_types.specs.declared.Use.TheVariants as uses
use Rattle.gt_model.specs.declared.entry.Entry.{Entry}
use Rattle.gt_model.specs.declared.entry.Entry.TheVariants.{Invalid, Page, Sub, Via}
use Rattle.gt_model.specs.Permits.{permits, forwards, leads_to, is_of_frame}
use Rattle.gt_word_history.specs.Rule.{Layout}
use Rattle.gt_words.specs.Conditions.{SeatOf}
use Rattle.gt_model.specs.declared.held.HeldPin.{HeldPin}
use Rattle.gt_model.specs.declared.held.AccessPath.{AccessPath}
use Rattle.gt_model.specs.declared.held.AccessPath.TheVariants.{Own, Direct, Through}
use Rattle.gt_model.specs.Holding.{GivesHeld}
use Rattle.gt_types.specs.declared.places.FrameName.{FrameName}
use Rattle.gt_frames.specs.Frames.{covers}
use Rattle.gt_live.specs.AccessPaths.{ReachesBy, writ_by}

-- what an entry permits, it permits to copy
to_copy : (e : Entry) (d : DomId) (dir : Dir) (purpose : Use) (off len : ℕ) → permits e d dir purpose off len ≡ true → permits e d dir uses.Copy off len ≡ true
to_copy Invalid d dir purpose off len is = is
to_copy (Page dom ro frame) d dir purpose off len is = is
to_copy (Via dom ro dom2 gref) d dir purpose off len is = is
to_copy (Sub dom ro frame start size) d dir uses.Copy off len is = is
to_copy (Sub dom ro frame start size) d dir uses.Map off len is = grind (arith, nat_tests)

-- an entry that leads to a pin leads to the pin's domain
to_owner : (e : Entry) (p : HeldPin) (owner : DomId) → GivesHeld e p → p.dom ≡ owner → leads_to e owner ≡ true
to_owner (Via dom ro dom2 gref) p owner leads is = eq-eqb dom2.0 owner.0 (ap (λ (d : DomId). d.0) (sym leads.0 ∙ is))
to_owner Invalid p owner leads is = absurd leads
to_owner (Page dom ro frame) p owner leads is = absurd leads
to_owner (Sub dom ro frame off len) p owner leads is = absurd leads

pub covers_by : (k : Layout) (s : SeatOf) (purpose : Use) (name : FrameName) (off len : ℕ) (access_path : AccessPath)
    → ReachesBy k s Write purpose name off len access_path → IsTrue (covers (writ_by s.dom access_path) name.owner name.number off len)
covers_by k s purpose name off len Own is = eq-eqb s.dom.0 name.owner.0 (ap (λ (d : DomId). d.0) is)
covers_by k s purpose name off len (Direct p) is =
    and_from (is_of_frame p.entry name.number) (permits p.entry s.dom Write uses.Copy off len) is.of_frame (to_copy p.entry s.dom Write purpose off len is.permitted)
covers_by k s purpose name off len (Through via p) is =
    let last = and_from (is_of_frame p.entry name.number) (permits p.entry via.dom Write uses.Copy off len) is.2.of_frame (to_copy p.entry via.dom Write purpose off len is.2.permitted) in
    and_from (forwards via.entry s.dom Write && leads_to via.entry name.owner) _
    (and_from (forwards via.entry s.dom Write) (leads_to via.entry name.owner) is.1.forwarded (to_owner via.entry p name.owner is.1.leads is.2.owner_is)) last
