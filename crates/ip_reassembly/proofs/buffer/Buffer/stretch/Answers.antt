use Rattle.std.proofs.Common.{arith}
use Rattle.ip_reassembly.proofs.Came.{came_within_longer}
use Rattle.ip_reassembly.proofs.Stretches.{placed_marks, stretch_is}
use Rattle.ip_reassembly.proofs.buffer.Buffer.stretch.Goals as goal

pub copy_of-requires-clause-runs : goal.copy_of-requires-clause-runs
copy_of-requires-clause-runs c =
    let inside = c.self.inside in
    let runs = c.self.invariant.2 in
    let same = placed_marks inside.marks.items c.min-least.result inside.runs.reach c.self.invariant.1 (omega arith) runs.reach_bound
    (came_within_longer _ inside.runs.least inside.runs.reach c.min-least.result (omega arith) runs.within)
    in
    rw (c.deref-2.ensures.value, ← same) runs

pub returns : goal.returns
returns c =
    let inside = c.self.inside in
    let runs = c.self.invariant.2 in
    let same = stretch_is inside.total inside.octets.items inside.marks.items c.min-least.result inside.runs.reach c.self.invariant.0 c.self.invariant.1
    (omega arith) runs.reach_bound (came_within_longer _ inside.runs.least inside.runs.reach c.min-least.result (omega arith) runs.within)
    in
    rw (← c.self.view_is, ← same) (rw (c.deref.ensures.value, c.deref-2.ensures.value) at c.copy_of.ensures)
