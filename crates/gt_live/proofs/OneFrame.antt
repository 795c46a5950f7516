-- A configuration with at most one frame a domain has the same words.
use Rattle.std.proofs.Common.{◌≡◌, suc, List, [], ◌∷◌, map, length, refl, ap, ◌∙◌}
use Rattle.gt_model.specs.Words.{header_word}
use Rattle.gt_types.specs.declared.config.Config.{Config}
use Rattle.gt_types.specs.declared.config.DomainConfig.{DomainConfig}
use Rattle.gt_roster.specs.Frameless.{HasOneFrameEach, IsFramelessFault, OneFrameIsEnough, with_one_frame}
use Rattle.gt_types.specs.declared.config.StartFault.{StartFault}
use Rattle.gt_types.specs.declared.config.StartFault.TheVariants as start_faults
use Rattle.gt_words.specs.Answers.{IsStartFault}
use Rattle.gt_word_history.specs.Rule.{first_header, layout_of}

seen_same : {B : Type 0} (f : DomainConfig → B) → ((d : DomainConfig) → f (with_one_frame d) ≡ f d) → (ds : List DomainConfig) → map f (map with_one_frame ds) ≡ map f ds
seen_same f so [] = refl
seen_same f so (d ∷ ds) = λ i. so d i ∷ seen_same f so ds i

len_same : (ds : List DomainConfig) → length (map with_one_frame ds) ≡ length ds
len_same [] = refl
len_same (d ∷ ds) = ap suc (len_same ds)

pub same_count : (c e : Config) → HasOneFrameEach c e → length e.domains.items ≡ length c.domains.items
same_count c e less = ap length less.0 ∙ len_same c.domains.items

pub same_layout : (c e : Config) → HasOneFrameEach c e → layout_of e ≡ layout_of c
same_layout c e less = λ i. record {
  ids = (ap (map (λ (d : DomainConfig). d.id)) less.0 ∙ seen_same (λ d. d.id) (λ d. refl) c.domains.items) i;
  domains = same_count c e less i;
  first = less.1 i;
  headers = (ap (map (λ (d : DomainConfig). header_word (first_header d))) less.0 ∙ seen_same (λ d. header_word (first_header d)) (λ d. refl) c.domains.items) i;
}

-- its fault is that of the configuration
pub fault_of : (c e : Config) → OneFrameIsEnough → HasOneFrameEach c e → (f : StartFault) → IsStartFault e f → IsFramelessFault c f
fault_of c e law less (start_faults.Config f) is = (λ r. is.0 ((law c e less).1 r), (e, less, is.1))
fault_of c e law less start_faults.Memory is = tt
