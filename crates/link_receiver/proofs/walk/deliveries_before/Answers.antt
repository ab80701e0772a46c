use Rattle.std.proofs.Common.{◌≡◌, ◌<◌, ◌+◌, ◌∷◌, ◌++◌, sym, reverse, take, length, Some, add-one, append-nil, arith, rules}
use Rattle.link_rules.specs.Deliveries.{deliveries}
use Rattle.link_receiver.proofs.Since.{since_more}
use Rattle.std.specs.List.{slice_get}
use Rattle.link_receiver.proofs.Walks.{frame_at, lawful_at, never_both, past_more, there_is}
use Rattle.link_receiver.proofs.walk.deliveries_before.Goals as goal
use Rattle.link_receiver.proofs.walk.deliveries_before.Goals.{in-Some+in_ok-message+in_ok-add, in_default}

pub message_of-requires : goal.message_of-requires
message_of-requires c =
    frame_at c.args.settings.now c.args.history.now.items c.events.place c.in-Some.event.now c.requires.frames (sym c.in-Some.ensures)

pub events-init : goal.events-init
events-init c = λ earlier stood run. (stood, rw c.new-messages.ensures.items (sym (append-nil (deliveries c.args.settings.now earlier c.args.port))))

pub events-preserved : goal.events-preserved
events-preserved c =
    let settings = c.args.settings.now in
    let history = c.args.history.now.items in
    let i = c.events.place in
    let past = reverse (take i history) in
    elim c.match-get.branch [
      | in-Some+in_ok-message+in_ok-add w ↦ λ earlier stood run.
          let e = w.in-Some.event.now in
          let there : slice_get history i ≡ Some e = sym w.in-Some.ensures in
          let lawful = lawful_at settings history earlier i e run there in
          let more : reverse (take (i + 1) history) ≡ e ∷ past = rw add-one (past_more history i e there) in
          let so_far = c.events.invariant earlier stood run in
          let stands = w.message_of.ensures.stands settings (past ++ earlier) lawful so_far.0 in
          let message = w.in_ok-message.ensures.message settings (past ++ earlier) lawful so_far.0 in
          rw more (search rules, since_more settings earlier past e c.args.port _ _ _ so_far.1 message (search rules))
      | in_default w ↦
          let within : i < length history = omega (arith, c.events-test.true, c.requires.within) in
          let there = there_is history i within in
          absurd (never_both (slice_get history i) there.0 w.in_default.ensures there.1)
    ]
