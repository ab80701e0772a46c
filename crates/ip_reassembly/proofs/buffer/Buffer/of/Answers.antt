use Rattle.std.proofs.Common.{◌≡◌, ◌∙◌, ap, false, length, arith}
use Rattle.ip_reassembly.specs.Stretch.{placed_among}
use Rattle.ip_reassembly.proofs.Stretches.{placed_is, placed_long}
use Rattle.ip_reassembly.proofs.buffer.Buffer.of.Goals as goal

pub invariant_of-result : goal.invariant_of-result
invariant_of-result c =
    let s = c.stretch.inside in
    let long = c.stretch.invariant.0 in
    let within = c.stretch.invariant.1 in
    let octets : c.in_ok-octets.octets.items ≡ placed_among 0 s.least s.octets.items = rw c.deref.ensures.value at c.in_ok-octets.ensures in
    let marks : c.in_ok-marks.marks.items ≡ placed_among false s.least s.marks.items = rw c.deref-2.ensures.value at c.in_ok-marks.ensures in (
      ap length octets ∙ placed_long 0 s.least s.octets.items within,
      ap length marks ∙ placed_long false s.least s.marks.items (omega (arith, long, within)),
      rw marks c.stretch.invariant.2,
    )

pub returns : goal.returns
returns c =
    let s = c.stretch.inside in
    rw (← c.stretch.view_is, c.in_ok-octets.ensures, c.in_ok-marks.ensures, c.deref.ensures.value, c.deref-2.ensures.value)
    (placed_is s.total s.least s.octets.items s.marks.items c.stretch.invariant.0)
