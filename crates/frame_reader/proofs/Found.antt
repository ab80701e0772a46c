-- A frame whose link isn't found.
use Rattle.std.proofs.Common.{◌≡◌, ◌∙◌, List, ℕ, None, Ok, Err, ap}
use Rattle.es_base.specs.declared.fault.FilterCause.TheVariants.{UnknownLink}
use Rattle.es_base.specs.Frame.{frame_of, parts_of, link_number_of}
use Rattle.es_base.specs.Config.{Configuration, has_link_number, link_of}
use Rattle.es_base.specs.Addressing.{addressee_of, addressed_if, addressed_link, or_unknown}
use Rattle.es_base.proofs.Firsts.{found_nowhere}

pub unknown_link : (c : Configuration) (octets : List ℕ) → frame_of c.constant octets ≡ Ok (parts_of octets) → link_of c.links (addressee_of octets) ≡ None
    → addressed_link c octets ≡ Err UnknownLink
unfolding addressed_link
unknown_link c octets is_frame nowhere = ap (addressed_if c) is_frame ∙ ap or_unknown (found_nowhere (has_link_number (link_number_of octets)) c.links nowhere)
