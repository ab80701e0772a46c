use Rattle.link_core.proofs.nets.NetStates.check.Goals as goal

pub returns-in-A : goal.returns-in-A
returns-in-A c = λ o past a holds net number. rw (net, c.in-A.is, number) (c.check.ensures _ _ holds.a)

pub returns-in-B : goal.returns-in-B
returns-in-B c = λ o past a holds net number. rw (net, c.in-B.is, number) (c.check-in-B.ensures _ _ holds.b)
