use Rattle.std.proofs.Common.{rules, ◌≡◌, min, length}
use Rattle.slot_core.specs.State.{last_of}
use Rattle.sampling_port.proofs.Ranges.{copy_that_fits, held_and_released}
use Rattle.sampling_port.proofs.partition.copy.read_moved.Goals as goal

pub returns-in-Ok-clause-answer : goal.returns-in-Ok-clause-answer
returns-in-Ok-clause-answer c =
    let count : c.min-count.result ≡ min c.len-len.result (length c.args.out.now) = search rules in (
      search rules,
      copy_that_fits (last_of c.release.result.seen) c.copy_octets.new.out c.args.out.now c.len-len.result c.min-count.result count (search rules) (search rules),
      rw (← count) (held_and_released c.args.reader c.in-Ok.held c.release.result c.min-count.result (search rules) (search rules)),
    )
