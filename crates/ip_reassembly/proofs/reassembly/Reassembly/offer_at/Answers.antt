use Rattle.std.proofs.Common.{◌∙◌, refl}
use Rattle.link_rules.specs.Fragments.{piece_of}
use Rattle.link_rules.specs.Groups.{group_with}
use Rattle.frame_reader.specs.Parts.{packet_parts}
use Rattle.ip_reassembly.proofs.Lists.{remove_set, get_set}
use Rattle.ip_reassembly.proofs.Stands.{stand_is}
use Rattle.ip_reassembly.proofs.Fates.{none_of, some_of}
use Rattle.ip_reassembly.proofs.reassembly.Reassembly.offer_at.Goals as goal

pub returns-in-None : goal.returns-in-None
returns-in-None c = (
  (
    refl,
    (λ _. tt),
    (
      c.join_at.ensures.limit,
      c.join_at.ensures.given_up,
      λ groups group time stand at.
          let partial = stand_is _ groups _ _ group stand c.partial_at.ensures at in
          rw (none_of _ (c.in-None.ensures.joined group.pieces time partial.holds)) (c.join_at.ensures.stand groups group time stand at),
    ),
  ),
  record {
    answer = λ groups group time stand at.
        let partial = stand_is _ groups _ _ group stand c.partial_at.ensures at in
        rw (none_of _ (c.in-None.ensures.joined group.pieces time partial.holds)) refl;
    after = tt;
  },
)

pub returns-in-Some : goal.returns-in-Some
returns-in-Some c =
    let lender = c.take_out.follows.holds-at-none in (
      (
        refl,
        (λ _. tt),
        (
          lender.0 ∙ c.join_at.ensures.limit,
          lender.1 ∙ c.join_at.ensures.given_up,
          λ groups group time stand at.
              let partial = stand_is _ groups _ _ group stand c.partial_at.ensures at in
              let (d, made, long) = some_of _ c.in-Some.len (c.in-Some.ensures.joined group.pieces time partial.holds) in
              let joined = group_with group (piece_of (packet_parts c.args.packet.now) time) in
              rw (made, ← remove_set groups c.args.place joined) (lender.2 _ (c.join_at.ensures.stand groups group time stand at)),
        ),
      ),
      record {
        answer = λ groups group time stand at.
            let partial = stand_is _ groups _ _ group stand c.partial_at.ensures at in
            let (d, made, long) = some_of _ c.in-Some.len (c.in-Some.ensures.joined group.pieces time partial.holds) in
            let joined = group_with group (piece_of (packet_parts c.args.packet.now) time) in
            let there = get_set groups c.args.place joined group at in
            let octets = c.take_out.ensures.octets _ joined d (c.join_at.ensures.stand groups group time stand at) there made long in
            rw (made, octets) refl;
        after = tt;
      },
    )
