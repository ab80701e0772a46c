use Rattle.std.proofs.Common.{◌∙◌, sym, refl}
use Rattle.std.proofs.Math.Nat.{add-zero}
use Rattle.frame_reader.specs.Parts.{packet_parts}
use Rattle.ip_reassembly.proofs.Fates.{whole_fate, bad_fate, begins_fate, joins_fate, whole_groups, bad_groups, begins_groups, joins_groups, whole_given_up, bad_given_up, begins_given_up, joins_given_up}
use Rattle.ip_reassembly.proofs.reassembly.Reassembly.offer.Goals as goal

pub returns-then-is_whole : goal.returns-then-is_whole
returns-then-is_whole c =
    let packet = packet_parts c.args.packet.now in
    let is = sym c.is_whole.ensures ∙ c.if-is_whole.true in (
      (
        refl,
        (λ _. tt),
        λ limit groups stand.
            let given_up = rw c.key_of-key.ensures at (c.give_up_key.ensures.stand groups stand.1) in
            record {
              pieces = (c.give_up_key.ensures.limit ∙ stand.0, rw (whole_groups limit groups packet c.args.now is) given_up);
              count = λ n shows. rw (whole_given_up limit groups packet c.args.now is) (rw c.key_of-key.ensures at (c.give_up_key.ensures.given_up groups n stand.1 shows));
            },
      ),
      record { answer = λ limit groups stand. sym (whole_fate limit groups packet c.args.now is); after = tt },
    )

pub returns-then-is_bad : goal.returns-then-is_bad
returns-then-is_bad c =
    let packet = packet_parts c.args.packet.now in
    let part = sym c.is_whole.ensures ∙ c.if-is_whole.false in
    let is = sym c.is_bad.ensures ∙ c.if-is_bad.true in (
      (
        refl,
        (λ _. tt),
        λ limit groups stand. record {
          pieces = rw (bad_groups limit groups packet c.args.now part is) stand;
          count = λ n shows. rw (bad_given_up limit groups packet c.args.now part is, add-zero) shows;
        },
      ),
      record { answer = λ limit groups stand. sym (bad_fate limit groups packet c.args.now part is); after = tt },
    )

pub returns-in-None : goal.returns-in-None
returns-in-None c =
    let packet = packet_parts c.args.packet.now in
    let part = sym c.is_whole.ensures ∙ c.if-is_whole.false in
    let good = sym c.is_bad.ensures ∙ c.if-is_bad.false in (
      (
        refl,
        (λ _. tt),
        λ limit groups stand.
            let found = rw (stand.0, c.key_of-key.ensures) at (c.in-None.ensures.group groups stand.1) in
            let begun = rw c.key_of-key.ensures at (c.begin_anew.ensures.stand groups stand.1) in
            record {
              pieces = (c.begin_anew.ensures.limit ∙ stand.0, rw (begins_groups limit groups packet c.args.now _ part good found) begun);
              count = λ n shows. rw (begins_given_up limit groups packet c.args.now _ part good found) (rw c.key_of-key.ensures at (c.begin_anew.ensures.given_up groups n stand.1 shows));
            },
      ),
      record {
        answer = λ limit groups stand.
            let found = rw (stand.0, c.key_of-key.ensures) at (c.in-None.ensures.group groups stand.1) in
            sym (begins_fate limit groups packet c.args.now _ part good found);
        after = tt;
      },
    )

pub returns-in-Some : goal.returns-in-Some
returns-in-Some c =
    let packet = packet_parts c.args.packet.now in
    let part = sym c.is_whole.ensures ∙ c.if-is_whole.false in
    let good = sym c.is_bad.ensures ∙ c.if-is_bad.false in
    let lender = c.offer_at.follows.holds-at-none in (
      (
        refl,
        (λ _. tt),
        λ limit groups stand.
            let (group, joined, there) = c.in-Some.ensures.group groups stand.1 in
            let found = rw (stand.0, c.key_of-key.ensures) at joined in
            record {
              pieces = (lender.0 ∙ stand.0, rw (joins_groups limit groups packet c.args.now _ group part good found) (lender.2 groups group c.args.now stand.1 there));
              count = λ n shows. rw (joins_given_up limit groups packet c.args.now _ group part good found, add-zero) (lender.1 ∙ shows);
            },
      ),
      record {
        answer = λ limit groups stand.
            let (group, joined, there) = c.in-Some.ensures.group groups stand.1 in
            let found = rw (stand.0, c.key_of-key.ensures) at joined in
            c.offer_at.ensures.answer groups group c.args.now stand.1 there ∙ sym (joins_fate limit groups packet c.args.now _ group part good found);
        after = tt;
      },
    )
