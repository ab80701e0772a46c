-- What a contract sees of a sampling port with a mailbox for each of its readers.
use Rattle.std.specs.Prelude.{◌≡◌, ℕ, ◌+◌, ◌<◌, ◌&&◌, Bool, List, [], ◌∷◌, ◌++◌, length, map, nat_le, slice_get, Some}
use Rattle.atomic_table.specs.Seated.{TableId}
use Rattle.es_base.specs.declared.event.Message.{Message}
pub use Rattle.es_base.specs.Limits.{most_readers}
use Rattle.triple_buffer.specs.Ends.{BufferWriter, reader_told, new_reader}
use Rattle.mailbox_port.specs.declared.port.Mailbox.{Mailbox}

-- ---- how many readers

-- rule: EMB-2
abbrev pub is_reader_count : ℕ → Bool
is_reader_count count = nat_le 1 count && nat_le count most_readers

-- ---- the end that publishes

-- the buffers of its mailboxes, the longest message in octets, what was published, and how many steps it made at each
-- mailbox, each an exchange of the word
pub record PortEnd : Type 0 where
  pub buffers : List TableId
  pub longest : ℕ
  pub published : List Message
  pub steps : ℕ

-- what the first of these writers published, as each of them did
abbrev pub published_of : List BufferWriter → List Message
published_of [] = []
published_of (writer ∷ writers) = writer.published

-- how many steps the first of these writers made, as each of them did
abbrev pub steps_at_each : List BufferWriter → ℕ
steps_at_each [] = 0
steps_at_each (writer ∷ writers) = writer.steps

-- a writer that made one step for each message
abbrev pub writer_at : ℕ → List Message → TableId → BufferWriter
writer_at longest published buffer = record { buffer = buffer; longest = longest; published = published; steps = length published }

abbrev pub buffers_of : List BufferWriter → List TableId
buffers_of writers = map (λ (writer : BufferWriter). writer.buffer) writers

abbrev pub port_end : List BufferWriter → ℕ → PortEnd
port_end writers longest = record { buffers = buffers_of writers; longest = longest; published = published_of writers; steps = steps_at_each writers }

-- there is a writer, and each published the same, in one step for each message
pub record AreAlike (writers : List BufferWriter) (longest count : ℕ) : Type 0 where
  pub some : 0 < length writers
  pub same : writers ≡ map (writer_at longest (published_of writers)) (buffers_of writers)
  pub count_is : count ≡ length (published_of writers)

abbrev pub new_port : List TableId → ℕ → PortEnd
new_port buffers longest = record { buffers = buffers; longest = longest; published = []; steps = 0 }

-- one message more is published, in one step at each mailbox
-- rule: PORT-7
abbrev pub port_with : PortEnd → Message → PortEnd
port_with port message = record port { published = port.published ++ message ∷ []; steps = port.steps + 1 }

-- ---- its mailboxes

-- a mailbox of this port
abbrev pub IsMailboxOf : PortEnd → Mailbox → Type 0
IsMailboxOf port mailbox = slice_get port.buffers mailbox.place ≡ Some mailbox.reader.buffer

-- the mailboxes with these buffers, the first of which is at this place, before any message
abbrev pub mailboxes_from : ℕ → ℕ → List TableId → List Mailbox
mailboxes_from longest place [] = []
mailboxes_from longest place (buffer ∷ buffers) = record { reader = new_reader buffer longest; place = place } ∷ mailboxes_from longest (place + 1) buffers

abbrev pub new_mailboxes : List TableId → ℕ → List Mailbox
new_mailboxes buffers longest = mailboxes_from longest 0 buffers

-- its reader knows these to be published
-- rule: PORT-18
abbrev pub told_mailbox : Mailbox → List Message → Mailbox
told_mailbox mailbox published = record { reader = reader_told mailbox.reader published; place = mailbox.place }
