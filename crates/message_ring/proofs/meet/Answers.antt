use Rattle.std.proofs.Common.{◌≡◌, ◌∙◌, [], ap, arith, rules, sym}
use Rattle.std.proofs.lemmas.List.{append-nil}
use Rattle.message_ring.specs.Queue.{Known}
use Rattle.message_ring.specs.Plays.{QueueSeat, putter_in}
use Rattle.message_ring.proofs.Ends.{put_met, take_met, waits_by_counts}
use Rattle.message_ring.proofs.Lists.{begins_length}
use Rattle.message_ring.proofs.meet.Goals as goal

pub invariant_of-putter : goal.invariant_of-putter
invariant_of-putter c =
    let p = c.putter.invariant.1 in
    let met = c.meet.ensures.met in
    let depth = p.keeps.depth_is in
    let most = p.keeps.most in
    let are = waits_by_counts _ _ _ _ _ p.count_is c.taker.invariant.1.count_is (begins_length _ _ met.all) met.few (omega (arith, depth, most)) in
    (c.meet.ensures.table.0 ∙ c.putter.invariant.0, put_met _ _ _ _ _ _ _ _ _ _ p met c.meet.ensures.putter are)

pub invariant_of-taker : goal.invariant_of-taker
invariant_of-taker c =
    let p = c.putter.invariant.1 in
    let met = c.meet.ensures.met in
    let depth = p.keeps.depth_is in
    let most = p.keeps.most in
    let within = p.keeps.within in
    let same : c.putter.inside.depth ≡ c.taker.inside.depth = search rules in
    let are = waits_by_counts _ _ _ _ _ p.count_is c.taker.invariant.1.count_is (begins_length _ _ met.all) met.few (omega (arith, depth, most)) in
    (c.meet.ensures.table.1 ∙ c.taker.invariant.0, take_met _ _ _ _ _ _ _ _ _ _ _ _ c.taker.invariant.1 met c.meet.ensures.taker (depth ∙ same) p.keeps.start_is (omega (arith, within, same)) are c.slot_with_start-taker-inside.ensures)

pub returns-clause-told : goal.returns-clause-told
returns-clause-told c =
    let view = ap (λ (m : QueueSeat). (putter_in m.0).taken) c.meet.ensures.putter in
    ([], view ∙ ap (λ (k : Known). k.taken) c.taker.view_is ∙ sym (append-nil c.args.taker.now.taken))
