use Rattle.std.proofs.Common.{length, refl}
use Rattle.std.proofs.lemmas.Bool.{le-ltb}
use Rattle.frame_reader.proofs.datagram.read_udp.Goals as goal

pub returns : goal.returns
returns c =
    let count = length c.args.octets.now in
    let long = c.u16_at-length.result in
    rw (le-ltb count 8 c.if-octets-lt-UDP_HEADER.false, ← c.u16_at-length.ensures, le-ltb long 8 c.if-length-lt-UDP_HEADER.false, le-ltb count long c.if-octets-length.false, ← c.u16_at.ensures, ← c.u16_at-2.ensures) refl
