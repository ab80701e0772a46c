use Rattle.std.proofs.Common.{⊎_elim}
use Rattle.link_rules.specs.Groups.{bad, held}
use Rattle.frame_reader.specs.Parts.{packet_parts}
use Rattle.link_receiver.proofs.Offers.{no_message}
use Rattle.link_receiver.proofs.offer.offer.Goals as goal

pub returns-then-delivers-clause-stands : goal.returns-then-delivers-clause-stands
returns-then-delivers-clause-stands c = λ limit groups stands. rw c.in-Some.is (c.offer.follows.holds-at-none limit groups stands).pieces

pub returns-else-delivers-clause-stands : goal.returns-else-delivers-clause-stands
returns-else-delivers-clause-stands c = λ limit groups stands. rw c.in-Some.is (c.offer.follows.holds-at-none limit groups stands).pieces

pub returns-in-Bad : goal.returns-in-Bad
returns-in-Bad c = record {
  stands = λ limit groups stands. rw c.in-Some.is (c.offer.follows.holds-at-none limit groups stands).pieces;
  message = λ limit groups stands.
      let packet = packet_parts c.in-Some.packet in
      let answer = c.offer.ensures.answer limit groups stands in
      rw c.in-Some.is (⊎_elim
      (λ is. no_message c.args.delivers limit groups packet c.args.time bad (rw is at answer) (λ octets joined whole. cc))
      (λ is. no_message c.args.delivers limit groups packet c.args.time held (rw is at answer) (λ octets joined whole. cc))
      c.in-Bad.is);
}
