use Rattle.std.proofs.Common.{◌≡◌, ◌<◌, ◌≤◌, ◌∙◌, ℕ, List, None, Some, ap, length, arith, inl, inr, refl, sym}
use Rattle.std.specs.Arc.{arc_value}
use Rattle.std.specs.List.{slice_get}
use Rattle.std.proofs.lemmas.Bool.{lt-ltb}
use Rattle.es_base.specs.declared.place.PortNo.{PortNo}
use Rattle.es_base.specs.Config.{Configuration}
use Rattle.es_base.specs.Settings.{Settings}
use Rattle.network_calls.specs.Passes.{System}
use Rattle.live_system.specs.Health.{TellsOfPort}
use Rattle.live_system.specs.Meetings.{VisitsAt}
use Rattle.live_system.proofs.Ending.{as_many_links}
use Rattle.live_system.proofs.Fills.{settings_of_found}
use Rattle.receiver_slots.specs.Codes.{done}
use Rattle.system_slots.specs.Passing.{settings_port_code}
use Rattle.system_slots.proofs.Places.{stands}
use Rattle.system_slots.proofs.passing.Passing.try_port_counts.Goals as goal
use Rattle.system_slots.proofs.passing.Passing.try_port_counts.Goals.{in-None, in-Some-Some}

done_there : (links : List Settings) (link : ℕ) (settings : Settings) (port : ℕ) → slice_get links link ≡ Some settings → port < length settings.ports → settings_port_code (slice_get links link) port ≡ done
done_there links link settings port there low = rw (there, lt-ltb port (length settings.ports) low) refl

pub try_port_counts-requires-clause-place : goal.try_port_counts-requires-clause-place
try_port_counts-requires-clause-place c =
    let many = as_many_links _ _ _ c.self.inside.pass.links c.self.invariant in
    let same : c.links.result.now ≡ (arc_value c.self.inside.system).config.links = c.links.ensures.value ∙ ap (λ (config : Configuration). config.links) (c.config.ensures ∙ ap (λ (s : System). s.config) c.deref.ensures) in
    omega (arith, many.0, ap length same, c.in-Some.ensures.lookup.3.0)

pub unreachable-requires : goal.unreachable-requires
unreachable-requires c =
    let system = arc_value c.self.inside.system in
    let settings = c.in-Some.settings.now in
    let number : PortNo = record { 0 = c.args.port } in
    let same : c.links.result.now ≡ system.config.links = c.links.ensures.value ∙ ap (λ (config : Configuration). config.links) (c.config.ensures ∙ ap (λ (s : System). s.config) c.deref.ensures) in
    let there = stands c.links.result.now system.config.links c.args.link settings same c.in-Some.ensures.lookup.3.0 c.in-Some.ensures.lookup.1 in
    let visits : VisitsAt c.self.inside.pass.links c.args.link (TellsOfPort number None) = rw c.in-Some-None.field-0-is at c.in-Some-None.ensures.counts in
    let found = visits.2.found in
    let known = settings_of_found system c.self.inside.pass c.args.link settings (TellsOfPort number None) c.self.invariant there visits in
    let none : length found.core.settings.ports ≤ c.args.port = visits.2.does.counts in
    let ports = ap (λ (s : Settings). length s.ports) known in
    omega (arith, none, ports, ap length c.ports.ensures.value, c.if-port-ports.false)

pub returns-clause-code : goal.returns-clause-code
returns-clause-code c =
    let system = arc_value c.self.inside.system in
    let settings = c.in-Some.settings.now in
    let same : c.links.result.now ≡ system.config.links = c.links.ensures.value ∙ ap (λ (config : Configuration). config.links) (c.config.ensures ∙ ap (λ (s : System). s.config) c.deref.ensures) in
    let there = stands c.links.result.now system.config.links c.args.link settings same c.in-Some.ensures.lookup.3.0 c.in-Some.ensures.lookup.1 in
    let low : c.args.port < length settings.ports = omega (arith, ap length c.ports.ensures.value, c.if-port-ports.false) in
    let is_done = done_there system.config.links c.args.link settings c.args.port there low in
    rw (← c.self.view_is)
    (elim c.match-try_port_counts.branch [
      | in-None w ↦ rw w.result-is (inr (is_done, refl))
      | in-Some-Some w ↦ rw w.result-is (inl (sym is_done))
    ])
