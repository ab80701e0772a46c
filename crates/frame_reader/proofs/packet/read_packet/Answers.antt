use Rattle.std.proofs.Common.{◌%◌, length, refl, mul_comm}
use Rattle.std.proofs.lemmas.Bool.{le-ltb}
use Rattle.frame_reader.proofs.packet.read_packet.Goals as goal

pub returns-then-not-is_sum_right : goal.returns-then-not-is_sum_right
returns-then-not-is_sum_right c =
    let inner = c.args.frame.now.inner.now in
    let total = c.u16_at-total.result in
    rw (
      c.if-inner-ne4.false,
      c.if-inner-ne-HEADER_WORDS.false,
      ← c.u16_at-total.ensures,
      le-ltb total 20 c.if-total-lt-HEADER.false,
      le-ltb (length inner) total c.if-inner-total.false,
      ← c.is_sum_right.ensures,
      c.if-not-is_sum_right.true,
    ) refl

pub returns : goal.returns
returns c =
    let inner = c.args.frame.now.inner.now in
    let total = c.u16_at-total.result in
    rw (
      c.if-inner-ne4.false,
      c.if-inner-ne-HEADER_WORDS.false,
      ← c.u16_at-total.ensures,
      le-ltb total 20 c.if-total-lt-HEADER.false,
      le-ltb (length inner) total c.if-inner-total.false,
      ← c.is_sum_right.ensures,
      c.if-not-is_sum_right.false,
      c.if-inner-ne-PROTOCOL_UDP.false,
      ← c.u32_at.ensures,
      ← c.u32_at-2.ensures,
      ← c.u16_at.ensures,
      ← c.u16_at-fragment.ensures,
      c.from.ensures,
      mul_comm 8 (c.u16_at-fragment.result % 0x2000),
    ) refl
