use Rattle.std.proofs.Common.{◌≡◌, ◌<◌, ◌∙◌, ℕ, List, None, Some, ap, false, length, arith, inl, inr, refl, sym}
use Rattle.std.specs.Arc.{arc_value}
use Rattle.std.specs.List.{slice_get}
use Rattle.es_base.specs.declared.place.PortNo.{PortNo}
use Rattle.es_base.specs.declared.port.PortKind.{PortKind}
use Rattle.es_base.specs.declared.port.PortKind.TheVariants.{Sampling, Queuing}
use Rattle.es_base.specs.Config.{Configuration}
use Rattle.es_base.specs.Port.{Port, is_sampling}
use Rattle.es_base.specs.Settings.{Settings}
use Rattle.network_calls.specs.Passes.{System}
use Rattle.live_system.specs.Fill.{TellsOfQueue}
use Rattle.live_system.specs.Meetings.{VisitsAt}
use Rattle.live_system.proofs.Ending.{as_many_links}
use Rattle.live_system.proofs.Fills.{is_told}
use Rattle.receiver_slots.specs.Codes.{done}
use Rattle.system_slots.specs.Passing.{settings_queue_code}
use Rattle.system_slots.proofs.Places.{stands}
use Rattle.system_slots.proofs.passing.Passing.try_fill.Goals as goal
use Rattle.system_slots.proofs.passing.Passing.try_fill.Goals.{in-None, in-Some-Some}

queues : (kind : PortKind) (port : Port) → kind ≡ port.kind → ((refresh : ℕ) → kind ≡ Sampling refresh → ⊥) → is_sampling port.kind ≡ false
queues kind port same not = ap is_sampling (sym same) ∙ of_kind kind not
  where
    of_kind : (kind : PortKind) → ((refresh : ℕ) → kind ≡ Sampling refresh → ⊥) → is_sampling kind ≡ false
    of_kind (Sampling refresh) not = absurd (not refresh refl)
    of_kind (Queuing depth) not = refl

done_there : (links : List Settings) (link : ℕ) (settings : Settings) (place : ℕ) (port : Port) → slice_get links link ≡ Some settings → slice_get settings.ports place ≡ Some port → is_sampling port.kind ≡ false
    → settings_queue_code (slice_get links link) place ≡ done
done_there links link settings place port there port_there is = rw (there, port_there, is) refl

pub try_fill-requires-clause-place : goal.try_fill-requires-clause-place
try_fill-requires-clause-place c =
    let many = as_many_links _ _ _ c.self.inside.pass.links c.self.invariant in
    let same : c.links.result.now ≡ (arc_value c.self.inside.system).config.links = c.links.ensures.value ∙ ap (λ (config : Configuration). config.links) (c.config.ensures ∙ ap (λ (s : System). s.config) c.deref.ensures) in
    omega (arith, many.0, ap length same, c.in-Some.ensures.lookup.3.0)

pub unreachable-requires : goal.unreachable-requires
unreachable-requires c =
    let system = arc_value c.self.inside.system in
    let settings = c.in-Some.settings.now in
    let port = c.in-Some-get.settings.now in
    let same : c.links.result.now ≡ system.config.links = c.links.ensures.value ∙ ap (λ (config : Configuration). config.links) (c.config.ensures ∙ ap (λ (s : System). s.config) c.deref.ensures) in
    let there = stands c.links.result.now system.config.links c.args.link settings same c.in-Some.ensures.lookup.3.0 c.in-Some.ensures.lookup.1 in
    let port_there = stands c.ports.result.now settings.ports c.args.port port c.ports.ensures.value c.in-Some-get.ensures.lookup.3.0 c.in-Some-get.ensures.lookup.1 in
    let number : PortNo = record { 0 = c.args.port } in
    let visits : VisitsAt c.self.inside.pass.links c.args.link (TellsOfQueue number None) = rw c.in-Some-None.field-0-is at c.in-Some-None.ensures.fill in
    is_told system c.self.inside.pass c.args.link settings number port c.self.invariant there port_there (queues c.kind.result port c.kind.ensures.value c.in_default-kind.not-Sampling) visits

pub returns-clause-code : goal.returns-clause-code
returns-clause-code c =
    let system = arc_value c.self.inside.system in
    let settings = c.in-Some.settings.now in
    let port = c.in-Some-get.settings.now in
    let same : c.links.result.now ≡ system.config.links = c.links.ensures.value ∙ ap (λ (config : Configuration). config.links) (c.config.ensures ∙ ap (λ (s : System). s.config) c.deref.ensures) in
    let there = stands c.links.result.now system.config.links c.args.link settings same c.in-Some.ensures.lookup.3.0 c.in-Some.ensures.lookup.1 in
    let port_there = stands c.ports.result.now settings.ports c.args.port port c.ports.ensures.value c.in-Some-get.ensures.lookup.3.0 c.in-Some-get.ensures.lookup.1 in
    let is_done = done_there system.config.links c.args.link settings c.args.port port there port_there (queues c.kind.result port c.kind.ensures.value c.in_default-kind.not-Sampling) in
    rw (← c.self.view_is)
    (elim c.match-try_fill.branch [
      | in-None w ↦ rw w.result-is (inr (is_done, refl))
      | in-Some-Some w ↦ rw w.result-is (inl (sym is_done))
    ])
