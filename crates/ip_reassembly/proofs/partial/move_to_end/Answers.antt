use Rattle.ip_reassembly.proofs.Lists.{others_moved, last_moved}
use Rattle.ip_reassembly.proofs.partial.move_to_end.Goals as goal

pub returns-clause-others : goal.returns-clause-others
returns-clause-others c = others_moved _ _ _ _ c.requires.place c.requires.standing c.rotate_left.ensures.after

pub returns-clause-last : goal.returns-clause-last
returns-clause-last c = last_moved _ _ _ _ c.requires.place c.requires.standing c.rotate_left.ensures.after
