-- What a publication does.
use Rattle.std.specs.Prelude.{◌≡◌, ℕ, ◌+◌, ◌/◌, List, [], ◌∷◌, ◌++◌, length}
use Rattle.slot_core.specs.Octets.{words_of}
use Rattle.slot_core.specs.declared.view.WriterView.{WriterView}
use Rattle.sampling_port.specs.declared.rule.WriterLog.{WriterLog}

-- between two publications
pub record IsAtRest (w : WriterView) : Type 0 where
  pub scanned : w.scanned ≡ []
  pub stored : w.stored ≡ []

-- number of steps of a publication of this many octets, with this many readers: a load of each announcement, a store of
-- each word, and the store of `latest`
-- rule: SAMP-22
abbrev pub steps_to_publish : ℕ → ℕ → ℕ
steps_to_publish readers octets = 3 + readers + (octets + 7) / 8

-- the message of these octets and this time is the last that was published
pub record Publishes (readers : ℕ) (v w : WriterLog) (octets : List ℕ) (time : ℕ) : Type 0 where
  pub published : w.view.published ≡ v.view.published ++ words_of octets time ∷ []
  pub rest : IsAtRest w.view
  pub steps : w.steps ≡ v.steps + steps_to_publish readers (length octets)
