-- The contents of a core, and the state that they represent.
use Rattle.std.specs.Prelude.{◌≡◌, ℕ, ◌<◌, ◌≤◌, List, length, map, slice_index, take}
use Rattle.std.specs.List.{All}
use Rattle.slot_core.specs.declared.machine.Core.TheInside.{Inside}
use Rattle.slot_core.specs.declared.reader.Reader.{Reader}
use Rattle.slot_core.specs.declared.view.ReaderView.{ReaderView}
use Rattle.slot_core.specs.declared.view.WriterView.{WriterView}
use Rattle.slot_core.specs.Limits.{longest_message, port_readers, port_slots}
use Rattle.slot_core.specs.Words.{table_words}
use Rattle.slot_core.specs.State.{State}

-- what a reader knows has the messages that it has seen, of all published
abbrev pub view_of : List (List ℕ) → Reader → ReaderView
view_of published reader = record { phase = reader.phase; own = reader.own; seen = take reader.seen published }

abbrev pub writer_inside : Inside → WriterView
writer_inside c = record {
  scanned = c.scanned.items;
  chosen = c.chosen;
  stored = c.stored.items;
  last = slice_index c.words 0;
  published = c.published.items;
}

abbrev pub state_of : Inside → State
state_of c = record { words = c.words; writer = writer_inside c; views = map (view_of c.published.items) c.readers }

abbrev pub HasSeen : List (List ℕ) → Reader → Type 0
HasSeen published reader = reader.seen ≤ length published

pub record IsStored (c : Inside) : Type 0 where
  pub words : length c.words ≡ table_words port_readers port_slots
  pub readers : length c.readers ≡ port_readers
  pub chosen : c.chosen < port_slots
  pub short : slice_index c.stored.items 0 ≤ longest_message
  pub seen : All (HasSeen c.published.items) c.readers
