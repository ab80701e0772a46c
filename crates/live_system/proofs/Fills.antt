-- What is told of a port's queue is told of the port that the system's configuration has there.
use Rattle.std.proofs.Common.{◌≡◌, ◌∙◌, ap, sym, ℕ, false, List, Option, None, Some}
use Rattle.std.specs.List.{slice_get}
use Rattle.std.proofs.lemmas.Option.{same_Some}
use Rattle.es_base.specs.declared.event.Message.{Message}
use Rattle.es_base.specs.declared.place.PortNo.{PortNo}
use Rattle.es_base.specs.declared.port.PortKind.{PortKind}
use Rattle.es_base.specs.declared.port.PortKind.TheVariants.{Sampling, Queuing}
use Rattle.es_base.specs.Port.{Port, is_sampling}
use Rattle.es_base.specs.Settings.{Settings}
use Rattle.receiver.specs.declared.port.PortOutlet.{PortOutlet}
use Rattle.receiver.specs.Fill.{IsFillAs, IsFillOfPort}
use Rattle.receiver.specs.Link.{deliveries_of}
use Rattle.network_calls.specs.Passes.{KnownNet, System}
use Rattle.network_calls.proofs.Rows.{at_place}
use Rattle.live_system.specs.Calls.{LiveLink, as_opened}
use Rattle.live_system.specs.Fill.{TellsOfQueue}
use Rattle.live_system.specs.Meetings.{VisitsAt}
use Rattle.live_system.specs.Pass.{KnownLink}
use Rattle.live_system.specs.System.{IsPassOf, keeping_no_frame}

-- the link that a visit finds has the settings of the configuration
pub settings_of_found : (system : System) (pass : KnownNet KnownLink) (place : ℕ) (settings : Settings) (did : LiveLink → LiveLink → Type 0) → IsPassOf system pass
    → slice_get system.config.links place ≡ Some settings → (visits : VisitsAt pass.links place did) → visits.2.found.core.settings ≡ settings
settings_of_found system pass place settings did own there visits =
    let at = at_place keeping_no_frame pass.net system.locks system.config.links pass.links place settings own there in
    let same : at.pass ≡ visits.0 = same_Some at.pass visits.0 (sym at.pass_there ∙ visits.1) in
    let known : Some (as_opened visits.2.found) ≡ Some at.is_pass.link = visits.2.opened ∙ (ap (λ (p : KnownLink). p.link) (sym same) ∙ at.is_pass.known) in
    ap (λ (l : LiveLink). l.core.settings) (same_Some (as_opened visits.2.found) at.is_pass.link known) ∙ at.is_pass.with_settings

told_as : (kind : PortKind) (outlet : PortOutlet) (messages : List Message) → is_sampling kind ≡ false → IsFillAs kind outlet messages None → ⊥
told_as (Sampling refresh) outlet messages queues is = cc
told_as (Queuing depth) outlet messages queues is = is

told_of : (port : Port) (outlet : Option PortOutlet) (messages : List Message) → is_sampling port.kind ≡ false → IsFillOfPort (Some port) outlet messages None → ⊥
told_of port None messages queues is = is
told_of port (Some outlet) messages queues is = told_as port.kind outlet messages queues is

-- of a port that queues a fill level is told
pub is_told : (system : System) (pass : KnownNet KnownLink) (place : ℕ) (settings : Settings) (number : PortNo) (port : Port) → IsPassOf system pass
    → slice_get system.config.links place ≡ Some settings → slice_get settings.ports number.0 ≡ Some port → is_sampling port.kind ≡ false → VisitsAt pass.links place (TellsOfQueue number None) → ⊥
is_told system pass place settings number port own there port_there queues visits =
    let left = visits.2.left in
    let same : left.core.settings ≡ settings = ap (λ (c : _). c.settings) visits.2.does.stays.core ∙ settings_of_found system pass place settings (TellsOfQueue number None) own there visits in
    let here : slice_get left.core.settings.ports number.0 ≡ Some port = ap (λ (s : Settings). slice_get s.ports number.0) same ∙ port_there in
    told_of port (slice_get left.outlets number.0) (deliveries_of left number) queues (rw here at visits.2.does.fill)
