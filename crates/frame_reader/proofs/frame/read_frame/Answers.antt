use Rattle.std.proofs.Common.{◌≡◌, ◌∙◌, ◌==◌, length, nat_eq, refl, rules, arith, sym}
use Rattle.std.specs.List.{starts_with}
use Rattle.std.proofs.lemmas.Bool.{le-ltb, lt-ltb, ne_eqb}
use Rattle.es_base.specs.Octets.{u32_at}
use Rattle.frame_reader.proofs.Constant.{by_word}
use Rattle.frame_reader.proofs.frame.read_frame.Goals as goal

pub returns-then-bytes-gt-LONGEST-clause-parts : goal.returns-then-bytes-gt-LONGEST-clause-parts
returns-then-bytes-gt-LONGEST-clause-parts c =
    let count = length c.args.bytes.now in
    rw (le-ltb count 60 c.if-bytes-lt-SHORTEST.false, lt-ltb 1514 count c.if-bytes-gt-LONGEST.true) refl

pub returns-then-u16_at-ne-ETHERTYPE_IPV4-clause-parts : goal.returns-then-u16_at-ne-ETHERTYPE_IPV4-clause-parts
returns-then-u16_at-ne-ETHERTYPE_IPV4-clause-parts c =
    let count = length c.args.bytes.now in
    rw (le-ltb count 60 c.if-bytes-lt-SHORTEST.false, le-ltb 1514 count c.if-bytes-gt-LONGEST.false, ← c.u16_at.ensures, ne_eqb c.u16_at.result 0x0800 c.if-u16_at-ne-ETHERTYPE_IPV4.true) refl

pub returns-then-u32_at-clause-parts : goal.returns-then-u32_at-clause-parts
returns-then-u32_at-clause-parts c =
    let count = length c.args.bytes.now in
    let word : starts_with nat_eq c.args.bytes.now c.args.constant ≡ (u32_at 0 c.args.bytes.now == u32_at 0 c.args.constant) =
    by_word c.args.bytes.now c.args.constant (search rules) (omega (arith, c.if-bytes-lt-SHORTEST.false)) (search rules) (search rules) in
    rw (le-ltb count 60 c.if-bytes-lt-SHORTEST.false, le-ltb 1514 count c.if-bytes-gt-LONGEST.false, ← c.u16_at.ensures, c.if-u16_at-ne-ETHERTYPE_IPV4.false, word, ← c.u32_at.ensures, ← c.u32_at-2.ensures, ne_eqb _ _ c.if-u32_at.true) refl

pub frame_in-requires : goal.frame_in-requires
frame_in-requires c = record {
  short = c.if-bytes-lt-SHORTEST.false;
  long = c.if-bytes-gt-LONGEST.false;
  carries = sym c.u16_at.ensures ∙ c.if-u16_at-ne-ETHERTYPE_IPV4.false;
}

pub returns-clause-parts : goal.returns-clause-parts
returns-clause-parts c =
    let count = length c.args.bytes.now in
    let word : starts_with nat_eq c.args.bytes.now c.args.constant ≡ (u32_at 0 c.args.bytes.now == u32_at 0 c.args.constant) =
    by_word c.args.bytes.now c.args.constant (search rules) (omega (arith, c.if-bytes-lt-SHORTEST.false)) (search rules) (search rules) in
    rw (le-ltb count 60 c.if-bytes-lt-SHORTEST.false, le-ltb 1514 count c.if-bytes-gt-LONGEST.false, ← c.u16_at.ensures, c.if-u16_at-ne-ETHERTYPE_IPV4.false, word, ← c.u32_at.ensures, ← c.u32_at-2.ensures) (search rules)
