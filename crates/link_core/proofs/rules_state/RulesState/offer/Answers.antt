use Rattle.std.proofs.Common.{refl}
use Rattle.link_core.proofs.rules_state.RulesState.offer.Goals as goal

pub returns : goal.returns
returns c = (
  (
    refl,
    (λ _. tt),
    record {
      delivered = refl;
      managed = λ o past e stands number time is. rw (is, number, time) (c.note_forwarded.ensures _ _ stands);
      waiting = λ limit groups stands. c.offer.follows.holds-at-none limit groups stands;
    },
  ),
  record {
    fills = λ limit groups stands. c.offer.ensures.fills limit groups stands;
    placed = c.offer.ensures.placed;
    after = tt;
  },
)
