-- The limits of a sampling port, each by its name.
use Rattle.std.specs.Prelude.{ℕ, ◌-◌, ◌^◌}

-- ---- a port (own)

-- its readers
abbrev pub port_readers : ℕ
port_readers = 8

-- its slots: one for each reader, one for the message that `latest` shows, and one to write
abbrev pub port_slots : ℕ
port_slots = 10

-- ---- messages

-- the longest, in octets (ARINC 664 Part 7, sampling ports: one frame)
-- rule: SAMP-5
abbrev pub longest_message : ℕ
longest_message = 1471

-- the words of a slot: those of the longest message
abbrev pub slot_words : ℕ
slot_words = 186

-- ---- a message number and a slot in one word (own)

-- greatest message number of a port
-- rule: SAMP-6
abbrev pub most_messages : ℕ
most_messages = 2 ^ 60 - 1

-- the most slots of a port: as many as a word can name
abbrev pub most_slots : ℕ
most_slots = 16
