-- What a slot has: a receiver, or a system, with the ends of its ports that are left to hand out. `config_in` says its
-- configuration, `IsNew` that it is a new one of a configuration, with the ends of all ports.
use Rattle.std.specs.Prelude.{◌≡◌, ℕ, List, length, Option, None, Some, Ok}
use Rattle.es_base.specs.Config.{Configuration}
use Rattle.es_base.specs.Port.{Port}
use Rattle.message_ring.specs.Queue.{Known}
use Rattle.receiver.specs.declared.ends.LinkEnds.{LinkEnds}
use Rattle.receiver.specs.declared.partition.PartitionEnd.{PartitionEnd}
use Rattle.receiver.specs.Taking.{HandsNamed}
use Rattle.vl_config.specs.Octets.{config_of}
use Rattle.vl_config.specs.Rows.{table_of}
use Rattle.vl_config.specs.declared.rows.LinkRow.{LinkRow}
use Rattle.vl_config.specs.declared.rows.PortRow.{PortRow}
use Rattle.receiver_slots.specs.Codes.{done, not_open}
use Rattle.receiver_slots.specs.Handing.{open_reader_code, open_taker_code}
use Rattle.receiver_slots.specs.Naming.{TellsLinkIn, TellsPlaceAmong, TellsPortIn, link_code_in, place_code_among, port_code_in}
use Rattle.receiver_slots.specs.Readers.{readers_in}
use Rattle.receiver_slots.specs.declared.reader_slot.ReaderState.{ReaderState}
use Rattle.receiver_slots.specs.declared.told.replies.LinkReply.{LinkReply}
use Rattle.receiver_slots.specs.declared.told.replies.PlaceReply.{PlaceReply}
use Rattle.receiver_slots.specs.declared.told.replies.PortReply.{PortReply}

pub record InSlot (T : Type 0) : Type 0 where
  pub opened : T
  pub ends : List (LinkEnds PartitionEnd)

-- ---- the opening

module _ {T : Type 0} (IsNew : (Port → ℕ) → Configuration → T → List (LinkEnds PartitionEnd) → Type 0) where
  -- a new one of this configuration, and the ends of all ports, with these numbers of readers
  -- rule: EMB-24
  abbrev pub OpensConfig : (Port → ℕ) → Configuration → Option (InSlot T) → Type 0
  OpensConfig readers config None = ⊥
  OpensConfig readers config (Some new) = IsNew readers config new.opened new.ends

  -- a new one of the configuration in these octets
  abbrev pub Opens : ℕ → List ℕ → Option (InSlot T) → Type 0
  Opens readers octets new = (config : Configuration) × (config_of octets ≡ Ok config) × OpensConfig (λ _. readers) config new

  -- a new one of the configuration of a table
  abbrev pub OpensTable : ℕ → List ℕ → List LinkRow → List PortRow → Option (InSlot T) → Type 0
  OpensTable readers constant links ports new = (config : Configuration) × (table_of constant links ports ≡ Ok config) × OpensConfig (readers_in readers ports) config new

-- ---- the ends of ports

module _ {T : Type 0} where
  abbrev pub hand_reader_code : Option (InSlot T) → ReaderState → List ℕ → ℕ
  hand_reader_code None to name = not_open
  hand_reader_code (Some from) to name = open_reader_code from.ends to name

  abbrev pub hand_taker_code : Option (InSlot T) → Option Known → List ℕ → ℕ
  hand_taker_code None to name = not_open
  hand_taker_code (Some from) to name = open_taker_code from.ends to name

  -- this was handed out of the end of the port with this name, if anything was, and nothing else changed
  -- rule: EMB-12, EMB-25
  abbrev pub HandsOut : {A : Type 0} → (PartitionEnd → PartitionEnd → Option A → Type 0) → List ℕ → Option (InSlot T) → Option (InSlot T) → Option A → Type 0
  HandsOut Hands name (Some old) (Some new) handed = (new.opened ≡ old.opened) × HandsNamed Hands name old.ends new.ends handed
  HandsOut Hands name (Some old) None handed = ⊥
  HandsOut Hands name None new handed = ⊥

-- ---- the links and ports of its configuration

module _ {T : Type 0} (config_in : T → Configuration) where
  abbrev pub CountsLinks : Option (InSlot T) → ℕ → Type 0
  CountsLinks None links = ⊥
  CountsLinks (Some now) links = links ≡ length (config_in now.opened).links

  abbrev pub link_code : Option (InSlot T) → ℕ → ℕ
  link_code None link = not_open
  link_code (Some now) link = link_code_in (config_in now.opened) link

  -- rule: EMB-17
  abbrev pub TellsLink : Option (InSlot T) → ℕ → LinkReply → Type 0
  TellsLink None link reply = ⊥
  TellsLink (Some now) link reply = TellsLinkIn (config_in now.opened) link reply

  abbrev pub port_code : Option (InSlot T) → ℕ → ℕ → ℕ
  port_code None link port = not_open
  port_code (Some now) link port = port_code_in (config_in now.opened) link port

  -- rule: EMB-17
  abbrev pub TellsPort : Option (InSlot T) → ℕ → ℕ → PortReply → List ℕ → List ℕ → Type 0
  TellsPort None link port reply before name = ⊥
  TellsPort (Some now) link port reply before name = TellsPortIn (config_in now.opened) link port reply before name

module _ {T : Type 0} where
  abbrev pub links_code : Option (InSlot T) → ℕ
  links_code None = not_open
  links_code (Some now) = done

  abbrev pub place_code : Option (InSlot T) → List ℕ → ℕ
  place_code None name = not_open
  place_code (Some now) name = place_code_among now.ends name

  -- rule: EMB-17
  abbrev pub TellsPlace : Option (InSlot T) → List ℕ → PlaceReply → Type 0
  TellsPlace None name reply = ⊥
  TellsPlace (Some now) name reply = TellsPlaceAmong now.ends name reply
