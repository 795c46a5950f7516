-- Why a run did not begin.
use Rattle.std.proofs.Common.{◌≡◌, ◌∙◌, ℕ, ap, inl, inr, refl, subst, length, List, Option, Some, None}
use Rattle.std.specs.Prelude.{Err}
use Rattle.std.specs.Str.{IsUtf8}
use Rattle.gt_types.specs.declared.config.Config.{Config}
use Rattle.gt_types.specs.declared.config.StartFault.{StartFault}
use Rattle.gt_types.specs.declared.config.StartFault.TheVariants as start_faults
use Rattle.gt_roster.specs.Frameless.{IsFramelessFault}
use Rattle.gt_policy.specs.Allowing.{Allowed, Meaning}
use Rattle.gt_policy.specs.Kept.{KeptPolicy, PolicyShows}
use Rattle.gt_policy.specs.Whole.{ReadsAs}
use Rattle.gt_policy.specs.declared.fault.TokenFault.{TokenFault}
use Rattle.gt_start.specs.Beginning.{AreLabelled, AreTypes, IsFaultOf, IsLabelFault, IsPolicyMeaning, IsSetBy}
use Rattle.gt_start.specs.Beginning.{IsTextFault}
use Rattle.gt_start.specs.Faults.{encoded_config, encoded_policy}
use Rattle.gt_start.specs.declared.faults.EncodedFault.{EncodedFault}
use Rattle.gt_start.specs.declared.settings.DomainSettings.{DomainSettings}

-- the fault of a policy is one of its text
pub of-text : (text : List ℕ) (o : Option TokenFault) (fault : EncodedFault) → IsUtf8 text
    → ((f : TokenFault) → o ≡ Some f → ReadsAs text (Err f)) → fault ≡ encoded_policy o → IsTextFault text fault
of-text text (Some f) fault utf8 says e = inr (inr (f, utf8, says f refl, e))
of-text text None fault utf8 says e = inl e

-- the fault of a start is one of the settings, if the text is a policy and each label is one of its types
pub of-settings : (settings : List DomainSettings) (first_gen : ℕ) (text : List ℕ) (c : Config) (s : StartFault) (fault : EncodedFault)
    → AreLabelled settings text → IsSetBy settings first_gen c → IsFramelessFault c s → fault ≡ encoded_config s
    → IsFaultOf settings first_gen text fault
of-settings settings first_gen text c (start_faults.Config f) fault labelled set is e =
    inr (inr (labelled, (c, is.1.0, f, set, is.1.1, is.1.2, e)))
of-settings settings first_gen text c start_faults.Memory fault labelled set is e = inl (inl e)

-- a policy has as many types as what its text means
pub same-count : (p : KeptPolicy) (m : Meaning) → PolicyShows p m → length p.types ≡ length m.types
same-count p m shows = ap (λ (a : Allowed). length a.types) shows

-- the labels are types of the text, if they are types of the policy that it means
pub of-types : (settings : List DomainSettings) (p : KeptPolicy) (m : Meaning) (types : ℕ) → PolicyShows p m → types ≡ length p.types
    → AreTypes types settings → AreTypes (length m.types) settings
of-types settings p m types shows count are = subst (λ (n : ℕ). AreTypes n settings) (count ∙ same-count p m shows) are

-- the fault of a label is one of the settings
pub of-label : (settings : List DomainSettings) (first_gen : ℕ) (text : List ℕ) (p : KeptPolicy) (m : Meaning) (types : ℕ) (fault : EncodedFault)
    → IsPolicyMeaning text m → PolicyShows p m → types ≡ length p.types → IsLabelFault types settings fault
    → IsFaultOf settings first_gen text fault
of-label settings first_gen text p m types fault is shows count past =
    inr (inl (m, is, subst (λ (n : ℕ). IsLabelFault n settings fault) (count ∙ same-count p m shows) past))
