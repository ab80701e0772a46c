use Rattle.std.proofs.Common.{◌∙◌, arith, sym}
use Rattle.sampling_port.proofs.Stores.{word_is}
use Rattle.sampling_port.proofs.publish.word_of.Goals as goal

pub returns-else-index-eq1 : goal.returns-else-index-eq1
returns-else-index-eq1 c = let some = c.if-index-eq0.false in let more = c.if-index-eq1.false in
    c.eight_octets.ensures ∙ sym (word_is c.args.octets.now c.args.time c.args.index (omega (arith, some, more)) c.requires.within)
