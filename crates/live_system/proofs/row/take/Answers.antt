use Rattle.std.proofs.Common.{◌≡◌, ◌∙◌, ℕ, subst, sym}
use Rattle.es_base.specs.Past.{arrived}
use Rattle.receiver.specs.Link.{Takes}
use Rattle.receiver.specs.Port.{AnswersPort, GivesPort, ShowsPort}
use Rattle.live_system.proofs.row.take.Goals as goal

pub returns : goal.returns
returns c =
    let old = c.args.link.now in
    let a = arrived c.args.net c.args.now c.frame_in.result.whole.now in
    let counted : old.received ≡ c.received-place.result = c.receive.ensures.takes.placed ∙ sym c.received-place.ensures in (
      rw (← c.frame_in.ensures)
          (subst (λ (place : ℕ). Takes ShowsPort GivesPort AnswersPort old c.receive.new.self a place c.receive.result) counted c.receive.ensures.takes),
      rw (← c.frame_in.ensures) c.receive.ensures.known,
      rw (← c.frame_in.ensures) c.receive.ensures.refused,
    )
