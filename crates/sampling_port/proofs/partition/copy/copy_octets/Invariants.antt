use Rattle.std.proofs.Common.{◌≡◌, ℕ, ◌+◌, ◌-◌, ◌*◌, ◌/◌, ◌<◌, ◌≤◌, length}
use Rattle.std.specs.Prelude.{slice_index}
use Rattle.slot_core.specs.Octets.{octet_of_words}
use Rattle.slot_core.specs.State.{last_of}
use Rattle.sampling_port.proofs.partition.copy.copy_octets.Given as goal

abbrev pub invariant-loop-place : goal.invariant-loop-place
invariant-loop-place l = record {
  begun : l.fn.first / 8 ≤ l.place;
  held : l.held ≡ record l.fn.held { steps = l.fn.held.steps + (l.place - l.fn.first / 8) };
  octets : (k : ℕ) → l.fn.first + k < 8 * l.place → k < length l.out → slice_index l.out k ≡ octet_of_words (last_of l.fn.held.seen) (l.fn.first + k);
}
