-- A domain that leaves releases each of its mappings.
use Rattle.std.proofs.Common.{◌≡◌, List, [], ◌∷◌, Some, sym, refl, ap, ◌∙◌, subst}
use Rattle.std.specs.Prelude.{is_none}
use Rattle.gt_types.specs.declared.config.Config.{Config}
use Rattle.gt_types.specs.declared.DomId.{DomId}
use Rattle.gt_types.specs.declared.denial.Rule.TheVariants.{N6}
use Rattle.gt_words.specs.Conditions.{Board, IsSameSeat}
use Rattle.gt_word_history.specs.declared.view.View.{View}
use Rattle.gt_handles.specs.Handles.{HandleMap, value_of}
use Rattle.gt_model.specs.declared.handle.Handle.{Handle}
use Rattle.gt_model.specs.Path.{ended, makes, path_of, by_mapping, after_beginning}
use Rattle.gt_model.specs.Rules.{CallerKnowledge, refused_when}
use Rattle.gt_model.specs.declared.action.Step.TheVariants.{Unpin}
use Rattle.gt_model.specs.declared.action.CallResult.TheVariants.{Granted}
use Rattle.gt_model.specs.declared.held.HeldPin.{HeldPin}
use Rattle.gt_model.specs.declared.request.PinHolder.TheVariants as holders
use Rattle.gt_model.specs.declared.request.Request.TheVariants as requests
use Rattle.gt_live.proofs.DomainKept.{unmapped}
use Rattle.gt_live.proofs.Making.{still_seat}
use Rattle.gt_live.proofs.OneStep.{one-step}
use Rattle.gt_live.specs.Domains.{AllowRelation, IsDomainOf, Released, knowledge}
use Rattle.gt_live.specs.declared.domain.Domain.{Domain}
use Rattle.gt_linearization.specs.Leaving.{AreReleases, LeavingIsReleasing}
use Rattle.gt_linearization.specs.Runs.{AreDeeds, CallMade, DomainAct, domain_after}
use Rattle.gt_linearization.specs.Runs.DomainAct.{Call}
use Rattle.gt_linearization.specs.Runs.CallOutcome.{Judged}

-- a release of a mapping gives its pin back, and is Ok
release-way : (k : CallerKnowledge) (dom : DomId) (h : Handle) (m : HeldPin) → k.mapping h ≡ Some m → path_of k dom (requests.Release h) ≡ makes (Unpin m (holders.Mapping h)) (ended Granted)
release-way k dom h m found =
    (λ j. after_beginning (refused_when (is_none (found j)) N6) (by_mapping (found j) (λ q. Unpin q (holders.Mapping h))))

-- the domain after these mappings were given up
abbrev pub with_rest : Domain → View → HandleMap HeldPin → Domain
with_rest d w rest = record d { seat = record d.seat { view = w }; mappings = rest }

module _ (b : Board) (c : Config) (may : AllowRelation) (d : Domain) (mine : IsDomainOf b c may d) where
  pub record ReleasedSo (w : View) (rest : HandleMap HeldPin) : Type 0 where
    pub run_actions : List DomainAct
    pub made : AreDeeds b c may d run_actions
    pub releases : AreReleases run_actions
    pub now : domain_after d run_actions ≡ with_rest d w rest
    pub of-run : IsDomainOf b c may (with_rest d w rest)

  pub releases-each : (hs : List Handle) (rest : HandleMap HeldPin) (w : View) → Released b.layout hs d.mappings d.seat.view rest w → ReleasedSo w rest
  releases-each [] rest w r =
      let same : d ≡ with_rest d w rest = λ j. with_rest d (sym r.1 j) (sym r.0 j) in record {
        run_actions = [];
        made = tt;
        releases = tt;
        now = same;
        of-run = subst (IsDomainOf b c may) same mine;
      }
  releases-each (h ∷ hs) rest w (m, mid, u, before, removes, step) =
      let was = releases-each hs mid u before in
      let old = with_rest d u mid in let new = with_rest d w rest in
      let gain = step.steps.adds.view in
      let seat : IsSameSeat old.seat new.seat = record {
        table = refl;
        dom = refl;
        position = ap (λ (z : View). z.position) gain;
        first = ap (λ (z : View). z.first) gain;
        headers = ap (λ (z : View). z.headers) gain;
        ids = ap (λ (z : View). z.ids) gain;
      } in
      let there : value_of mid h ≡ Some m = removes.taken.value in
      let way = release-way (knowledge c may old) d.seat.dom h m there in
      let called = one-step b.layout (path_of (knowledge c may old) d.seat.dom (requests.Release h)) (Unpin m (holders.Mapping h)) u w way step in
      let of-run : IsDomainOf b c may new = unmapped b c may old new h m was.of-run (still_seat b old.seat new.seat was.of-run.seat seat) refl refl removes.taken step in
      let call : CallMade = record { request = requests.Release h; outcome = Judged Granted; steps = called.steps; old = old; new = new } in record {
        run_actions = Call call ∷ was.run_actions;
        made = (
          record { before = was.of-run; afterwards = of-run; seat = seat; fits = (tt, tt); answered = (tt, (called, refl), (m, removes)) },
          record { seat = ap (λ (z : Domain). z.seat) (sym was.now); own = ap (λ (z : Domain). z.own.items) (sym was.now); mappings = ap (λ (z : Domain). z.mappings) (sym was.now) },
          was.made,
        );
        releases = ((h, refl, refl), was.releases);
        now = refl;
        of-run = of-run;
      }

pub leaving : LeavingIsReleasing
leaving b c may d l mine left =
    let u = releases-each b c may d mine left.handles left.rest l.seat.view left.released in
    (u.run_actions, u.made, u.releases, ap (λ (z : Domain). z.seat.view) u.now, λ h. ap (λ (z : Domain). value_of z.mappings h) u.now ∙ left.all_given h)
