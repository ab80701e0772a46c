use Rattle.std.proofs.Common.{◌≡◌, ◌∙◌, ap, sym, Some}
use Rattle.std.specs.List.{slice_get}
use Rattle.std.proofs.lemmas.Option.{slice_get-get_or, slice_get_within}
use Rattle.link_core.specs.Link.{Link}
use Rattle.receiver.specs.Link.{Ported}
use Rattle.receiver.specs.Port.{AnswersPort, GivesPort, HasSpacePort, ShowsPort}
use Rattle.receiver.specs.PortLaws.{port_stays}
use Rattle.es_base.proofs.Elements.{map-set_same, slice_get-set_same}
use Rattle.receiver.proofs.Stays.{one_stays}
use Rattle.receiver.proofs.fill.Receiver+PortOutlet.fill.Goals as goal

pub invariant_of-self-2 : goal.invariant_of-self-2
invariant_of-self-2 c =
    let links = c.self.inside.links.items in
    let place = c.args.place in
    let there : slice_get links place ≡ Some c.in_ok-link.link.now = slice_get-get_or links place c.in_ok-link.link.now (c.in_ok-link.ensures.item.3.0) ∙ ap (λ link. Some link) (sym c.in_ok-link.ensures.value) in
    map-set_same (λ (l : Ported _). l.core.settings) links place c.in_ok-link.link.now c.fill.new.self there (ap (λ (k : Link). k.settings) c.fill.ensures.core) ∙ c.self.invariant

pub returns-clause-stays : goal.returns-clause-stays
returns-clause-stays c =
    let s = c.self.inside in
    let links = s.links.items in
    let place = c.args.place in
    let there : slice_get links place ≡ Some c.in_ok-link.link.now = slice_get-get_or links place c.in_ok-link.link.now (c.in_ok-link.ensures.item.3.0) ∙ ap (λ link. Some link) (sym c.in_ok-link.ensures.value) in
    rw (← c.self.view_is) (one_stays ShowsPort HasSpacePort GivesPort AnswersPort port_stays (record { config = s.config; links = links; filtered = s.filtered }) place c.in_ok-link.link.now c.fill.new.self there
    (record { core = c.fill.ensures.core; received = c.fill.ensures.received; outlets = c.fill.ensures.outlets }))

pub returns-clause-fill : goal.returns-clause-fill
returns-clause-fill c =
    let links = c.self.inside.links.items in
    let place = c.args.place in
    let there : slice_get links place ≡ Some c.in_ok-link.link.now = slice_get-get_or links place c.in_ok-link.link.now (c.in_ok-link.ensures.item.3.0) ∙ ap (λ link. Some link) (sym c.in_ok-link.ensures.value) in
    rw (slice_get-set_same links place c.fill.new.self (slice_get_within links place c.in_ok-link.link.now there)) c.fill.ensures.fill

pub returns-clause-looked : goal.returns-clause-looked
returns-clause-looked c =
    let links = c.self.inside.links.items in
    let place = c.args.place in
    let there : slice_get links place ≡ Some c.in_ok-link.link.now = slice_get-get_or links place c.in_ok-link.link.now (c.in_ok-link.ensures.item.3.0) ∙ ap (λ link. Some link) (sym c.in_ok-link.ensures.value) in
    let here = slice_get-set_same links place c.fill.new.self (slice_get_within links place c.in_ok-link.link.now there) in
    rw (← c.self.view_is, there, here) c.fill.ensures.looked
