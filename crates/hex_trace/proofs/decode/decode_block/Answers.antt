use Rattle.std.proofs.lemmas.Simd.{get_or-put_chunk_below}
use Rattle.hex_trace.proofs.Decoded.{octet_written, pairs_shown}
use Rattle.hex_trace.proofs.decode.decode_block.Goals as goal

pub returns-clause-marks : goal.returns-clause-marks
returns-clause-marks c = pairs_shown c.args.digits.now c.marks_of-marks.result c.args.at c.marks_of-marks.ensures.marks

pub returns-clause-octets : goal.returns-clause-octets
returns-clause-octets c =
    octet_written c.args.digits.now c.marks_of-marks.result c.args.at c.marks_of-marks.ensures.marks
    c.args.octets.now c.octets_of.result c.octets_of.ensures.length c.requires.block c.octets_of.ensures.octets

pub returns-clause-before : goal.returns-clause-before
returns-clause-before c i early = get_or-put_chunk_below c.args.at c.args.octets.now c.octets_of.result i 0 early
