use Rattle.std.proofs.Common.{◌≡◌, ℕ, ◌<◌, ◌≤◌, length, slice_index}
use Rattle.es_base.specs.Udp.{udp_header_octets}
use Rattle.ip_reassembly.specs.Held.{written_at}
use Rattle.ip_reassembly.proofs.buffer.Buffer.head_with.Given as goal

-- the octets so far, and zeros after them
abbrev pub invariant-loop-i : goal.invariant-loop-i
invariant-loop-i l = record {
  long : length l.head ≡ udp_header_octets;
  written : (k : ℕ) → k < l.i → slice_index l.head k ≡ written_at l.self-inside.octets.items l.offset l.octets k;
  zeros : (k : ℕ) → l.i ≤ k → slice_index l.head k ≡ 0;
}
