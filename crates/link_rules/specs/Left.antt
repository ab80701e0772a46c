-- The summary of a past: all that the rules read of it.
use Rattle.std.specs.Prelude.{ℕ, List, Option}
use Rattle.es_base.specs.declared.place.Net.{Net}
use Rattle.es_base.specs.declared.place.PortNo.{PortNo}
use Rattle.es_base.specs.declared.event.Event.{Event}
use Rattle.es_base.specs.Settings.{Settings}
use Rattle.link_rules.specs.Copies.{Forwarded}
use Rattle.link_rules.specs.Groups.{Group}
use Rattle.link_rules.specs.Integrity.{latest, sequence_numbers_on}
use Rattle.link_rules.specs.Redundancy.{forwarded, summary_of}
use Rattle.link_rules.specs.Reassembly.{groups_in}
use Rattle.link_rules.specs.Deliveries.{number_delivered}
use Rattle.es_base.specs.Tally.{count_of}

pub record Left : Type 0 where
  -- the sequence number of the latest frame on each network, if there was one
  pub last_number : Net → Option ℕ
  -- of the frames that were forwarded, if there were any: the latest sequence number, the greatest time
  pub summary : Option Forwarded
  -- the groups of pieces that stand
  pub groups : List Group
  -- number of messages delivered to each port
  pub delivered : PortNo → ℕ
  -- number of events per network and kind of verdict
  pub counts : Net → ℕ → ℕ

-- rule: HIST-4, HIST-5
abbrev pub left_by : Settings → List Event → Left
left_by settings past = record {
  last_number = λ net. latest (sequence_numbers_on past net);
  summary = summary_of (forwarded settings past);
  groups = groups_in settings past;
  delivered = number_delivered settings past;
  counts = count_of past;
}
