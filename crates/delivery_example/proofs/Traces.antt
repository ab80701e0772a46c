-- What comes of the two traces.
use Rattle.std.proofs.Common.{◌≡◌, sym, subst, refl, ℕ, List, Option}
use Rattle.std.specs.Prelude.{reverse, slice_get, Some}
use Rattle.es_base.specs.declared.event.Event.{Event}
use Rattle.es_base.specs.Addressing as addressing
use Rattle.link_rules.specs.Fragments as fragments
use Rattle.link_rules.specs.Groups as groups
use Rattle.es_base.specs.Octets as words
use Rattle.link_rules.specs.Outcome as outcomes
use Rattle.es_base.specs.Packet as packets
use Rattle.trace_player.specs.Histories.{past_after}
use Rattle.trace_player.specs.Merge.{merged}
use Rattle.datagram_delivery.specs.Interleaved.{BringDatagrams}
use Rattle.delivery_laws.specs.Reported.{AreWritten}
use Rattle.delivery_laws.proofs.Reported.{are_written}
use Rattle.delivery_example.specs.Example as example
use Rattle.delivery_example.specs.Example.{configuration, link_with_nav, past, sent}
use Rattle.delivery_example.specs.Traces.{trace_of_a, trace_of_b}
use Rattle.delivery_example.proofs.Example.{bring}

pub is_past : past_after configuration.constant link_with_nav (reverse (merged trace_of_a trace_of_b)) ≡ past
unfolding example.configuration example.first_on_a example.first_on_b example.second_on_b addressing.comes_to groups.fate groups.groups_after fragments.octets_below packets.ones_sum words.u16_at words.u32_at outcomes.outcome outcomes.frame_payload outcomes.datagram_payload
is_past = refl

there : slice_get configuration.links 0 ≡ Some link_with_nav
unfolding example.configuration
there = refl

pub message_is_written : (asked : Option ℕ) → AreWritten configuration trace_of_a trace_of_b asked link_with_nav sent
message_is_written asked =
    are_written configuration trace_of_a trace_of_b asked 0 link_with_nav sent there (subst (λ (events : List Event). BringDatagrams link_with_nav events sent) (sym is_past) (bring _ _ _))
