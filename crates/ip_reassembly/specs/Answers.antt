-- What is answered, by what becomes of a packet.
use Rattle.std.specs.Prelude.{length}
use Rattle.es_base.specs.Udp.{head_of}
use Rattle.link_rules.specs.Groups.{Fate, bad, held, whole}
use Rattle.ip_reassembly.specs.declared.answer.Preview.{Preview}
use Rattle.ip_reassembly.specs.declared.answer.Preview.TheVariants as previews
use Rattle.ip_reassembly.specs.declared.answer.Offered.{Offered}
use Rattle.ip_reassembly.specs.declared.answer.Offered.TheVariants as offers

abbrev pub preview_of : Fate → Preview
preview_of bad = previews.Bad
preview_of held = previews.Held
preview_of (whole octets joined) = previews.Whole (length octets) (head_of octets) joined

abbrev pub fate_seen : Offered → Fate
fate_seen offers.Bad = bad
fate_seen offers.Held = held
fate_seen (offers.Whole octets joined) = whole octets.now joined
