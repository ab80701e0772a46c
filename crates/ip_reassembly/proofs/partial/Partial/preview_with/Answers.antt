use Rattle.std.proofs.Common.{refl}
use Rattle.link_rules.specs.Fragments.{piece_of}
use Rattle.frame_reader.specs.Parts.{packet_parts}
use Rattle.ip_reassembly.proofs.Fates.{previewed}
use Rattle.ip_reassembly.proofs.partial.Partial.preview_with.Goals as goal

pub returns-in-Some : goal.returns-in-Some
returns-in-Some c = λ pieces time holds.
    let piece = piece_of (packet_parts c.args.packet.now) time in
    previewed _ c.in-Some.len c.head_with.result (c.in-Some.ensures.joined pieces time holds) (λ d made long.
    c.head_with.ensures pieces piece d holds refl refl made long)
