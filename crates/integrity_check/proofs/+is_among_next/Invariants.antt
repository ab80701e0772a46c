use Rattle.integrity_check.proofs.+is_among_next.Given as goal

abbrev pub decreases-is_among_next : goal.decreases-is_among_next
decreases-is_among_next l = l.window
