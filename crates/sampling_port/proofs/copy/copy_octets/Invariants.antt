use Rattle.std.proofs.Common.{◌≡◌, ℕ, ◌+◌, ◌*◌, ◌<◌, ◌≤◌}
use Rattle.std.specs.Prelude.{slice_index}
use Rattle.slot_core.specs.Octets.{octet_of_words}
use Rattle.slot_core.specs.State.{last_of}
use Rattle.sampling_port.proofs.copy.copy_octets.Given as goal

abbrev pub invariant-loop-place : goal.invariant-loop-place
invariant-loop-place g l = record {
  port : l.reader.port ≡ l.fn.reader.port;
  place : l.reader.place ≡ l.fn.reader.place;
  view : l.reader.knows.view ≡ l.fn.reader.knows.view;
  looks : l.reader.knows.looks ≡ l.fn.reader.knows.looks;
  steps : l.reader.knows.steps ≡ l.fn.reader.knows.steps + l.place;
  octets : (k : ℕ) → k < 8 * l.place → slice_index l.out k ≡ octet_of_words (last_of l.fn.reader.knows.view.seen) k;
  others : (k : ℕ) → 8 * l.place ≤ k → slice_index l.out k ≡ slice_index l.fn.out k;
}
