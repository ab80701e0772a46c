use Rattle.receiver_slots.proofs.slot.Slot.open_text.Goals as goal

pub returns-in-Ok-clause-opened : goal.returns-in-Ok-clause-opened
returns-in-Ok-clause-opened g c = λ is.
    let ok = c.in-Ok.ensures.ok in
    (c.in-Ok.wanted.config, ok.0, rw (ok.1, ok.2) at c.open.ensures.opened is)
