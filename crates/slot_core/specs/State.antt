-- The state of a sampling port: its words, and what the writer and each reader know.
use Rattle.std.specs.Prelude.{◌≡◌, ℕ, ◌-◌, List, [], ◌++◌, length, slice_index_or, replicate}
use Rattle.slot_core.specs.declared.view.Phase.{Phase}
use Rattle.slot_core.specs.declared.view.Phase.TheVariants.{Idle, Loaded, Announced, Holding}
use Rattle.slot_core.specs.declared.view.ReaderView.{ReaderView}
use Rattle.slot_core.specs.declared.view.WriterView.{WriterView}
use Rattle.slot_core.specs.Words.{table_words}

pub record State : Type 0 where
  pub words : List ℕ
  pub writer : WriterView
  -- what each reader knows, in order of the readers
  pub views : List ReaderView

-- ---- views

-- a reader that has loaded nothing
abbrev pub newcomer : ReaderView
newcomer = record { phase = Idle; own = 0; seen = [] }

abbrev pub view_at : List ReaderView → ℕ → ReaderView
view_at views reader = slice_index_or views reader newcomer

-- the word that a reader loaded, or 0
abbrev pub word_of : Phase → ℕ
word_of Idle = 0
word_of (Loaded word) = word
word_of (Announced word) = word
word_of (Holding word) = word

-- the reader is at this word
abbrev pub HasWord : Phase → ℕ → Type 0
HasWord Idle word = ⊥
HasWord (Loaded at) word = at ≡ word
HasWord (Announced at) word = at ≡ word
HasWord (Holding at) word = at ≡ word

-- the last of some messages
abbrev pub last_of : List (List ℕ) → List ℕ
last_of messages = slice_index_or messages (length messages - 1) []

-- all messages begin with those seen
abbrev pub StartsWithSeen : List (List ℕ) → List (List ℕ) → Type 0
StartsWithSeen all seen = (rest : List (List ℕ)) × (all ≡ seen ++ rest)

-- ---- the opening, with this many readers and slots

abbrev pub first_writer : WriterView
first_writer = record { scanned = []; chosen = 0; stored = []; last = 0; published = [] }

abbrev pub opening : ℕ → ℕ → State
opening readers slots = record {
  words = replicate (table_words readers slots) 0;
  writer = first_writer;
  views = replicate readers newcomer;
}
