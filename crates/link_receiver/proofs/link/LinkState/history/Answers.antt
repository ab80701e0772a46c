use Rattle.std.proofs.Common.{reverse}
use Rattle.link_receiver.proofs.Epochs.{frames_since}
use Rattle.link_receiver.proofs.link.LinkState.history.Goals as goal

pub returns-clause-own_frames : goal.returns-clause-own_frames
returns-clause-own_frames c =
    let state = c.self.inside in
    rw (← c.self.view_is) (frames_since state.settings state.before.events (reverse state.history.items) c.self.invariant.all.frames)
