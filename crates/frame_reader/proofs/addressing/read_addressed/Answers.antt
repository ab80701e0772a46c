use Rattle.std.proofs.Common.{◌≡◌, Ok, None, rules}
use Rattle.es_base.specs.Frame.{frame_of, parts_of}
use Rattle.es_base.specs.Config.{link_of}
use Rattle.es_base.specs.Addressing.{addressee_of}
use Rattle.frame_reader.proofs.Found.{unknown_link}
use Rattle.frame_reader.proofs.addressing.read_addressed.Goals as goal

pub returns-in-Some-clause-place : goal.returns-in-Some-clause-place
returns-in-Some-clause-place c = record { is_frame = search rules; first = search rules }

pub returns-in-None-clause-filtered : goal.returns-in-None-clause-filtered
returns-in-None-clause-filtered c =
    let config = c.args.config.now in
    let octets = c.args.bytes.now in
    let is_frame : frame_of config.constant octets ≡ Ok (parts_of octets) = search rules in
    let nowhere : link_of config.links (addressee_of octets) ≡ None = search rules in
    unknown_link config octets is_frame nowhere
