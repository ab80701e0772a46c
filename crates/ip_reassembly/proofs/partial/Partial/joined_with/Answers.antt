use Rattle.std.proofs.Common.{refl}
use Rattle.link_rules.specs.Fragments.{piece_of}
use Rattle.frame_reader.specs.Parts.{packet_parts}
use Rattle.ip_reassembly.proofs.partial.Partial.joined_with.Goals as goal

pub returns-clause-joined : goal.returns-clause-joined
returns-clause-joined c = λ pieces time holds. c.joined_with.ensures.joined pieces (piece_of (packet_parts c.args.packet.now) time) holds refl refl refl
