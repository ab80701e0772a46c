use Rattle.std.proofs.Common.{◌≡◌, ◌+◌, arith}
use Rattle.link_rules.specs.Groups.{place_of, without_group}
use Rattle.ip_reassembly.specs.GivenUp.{one_at, one_for_room}
use Rattle.ip_reassembly.proofs.reassembly.Reassembly.begin_anew.Goals as goal

pub returns-clause-given_up : goal.returns-clause-given_up
returns-clause-given_up c = λ groups n stand shows.
    let place = place_of c.args.key groups in
    let old = c.give_up_key.ensures.given_up groups n stand shows in
    let first = c.make_room.ensures.given_up (without_group groups place) (n + one_at place) (c.give_up_key.ensures.stand groups stand) old in
    let sum : n + (one_at place + one_for_room (without_group groups place)) ≡ n + one_at place + one_for_room (without_group groups place) = omega arith in
    rw (c.begin.ensures.given_up, sum) first
