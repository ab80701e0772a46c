-- What a reader knows between its calls, and what its looks find.
use Rattle.std.specs.Prelude.{◌≡◌, ℕ, ◌<◌, length}
use Rattle.slot_core.specs.declared.view.Phase.TheVariants.{Idle, Holding}
use Rattle.slot_core.specs.declared.view.ReaderView.{ReaderView}
use Rattle.slot_core.specs.Words.{ShowsWord}
use Rattle.slot_core.specs.Message.{IsMessage}
use Rattle.slot_core.specs.State.{last_of}

-- it reads nothing and announces nothing
abbrev pub IsIdle : ReaderView → Type 0
IsIdle v = (v.phase ≡ Idle) × (v.own ≡ 0)

-- the word shows the last message that was seen
pub record ShowsLast (slots : ℕ) (v : ReaderView) (word : ℕ) : Type 0 where
  pub some : 0 < length v.seen
  pub shows : ShowsWord slots word (length v.seen)
  pub message : IsMessage (last_of v.seen)

-- it holds the last message that it saw
pub record IsHeld (slots : ℕ) (v : ReaderView) (word : ℕ) : Type 0 where
  pub holds : v.phase ≡ Holding word
  pub own : v.own ≡ word
  pub last : ShowsLast slots v word
