use Rattle.std.proofs.Common.{◌≡◌, ◌∙◌, ap, Some, ℕ}
use Rattle.std.specs.Arc.{arc_value}
use Rattle.es_base.specs.Port.{Port}
use Rattle.network_calls.specs.Passes.{System}
use Rattle.network_calls.specs.Threads.{BothPasses}
use Rattle.live_system.specs.Pass.{KnownLink}
use Rattle.live_system.specs.Run.{AreOpened}
use Rattle.live_system.specs.System.{AreOfNewLinks}
use Rattle.receiver_slots.specs.Readers.{readers_in}
use Rattle.system_slots.specs.Running.{passing}
use Rattle.system_slots.proofs.running.RunningConfigured.open.Goals as goal

pub returns : goal.returns
returns c =
    let o = c.in_ok-system.field-0 in
    let shared = arc_value c.in_ok-system-2.system in
    let same : shared ≡ o.system = c.in_ok-system-2.ensures.ok in
    let readers : Port → ℕ = readers_in c.args.wanted.now.readers.others c.args.wanted.now.readers.rows.now in
    let passes : BothPasses KnownLink = record { a = o.a; b = o.b } in
    let of_config : o.system.config ≡ c.args.wanted.now.config = c.in_ok-system.ensures.config in
    let links : AreOfNewLinks readers o.system.config o.a o.b o.ends.items = rw of_config c.in_ok-system.ensures.links in
    let opened : AreOpened readers o.system passes o.ends.items = record {
      own_a = c.in_ok-system.ensures.a.0;
      own_b = c.in_ok-system.ensures.b.0;
      new_a = c.in_ok-system.ensures.a.1;
      new_b = c.in_ok-system.ensures.b.1;
      links = links;
    } in
    record {
      of_config = ap (λ (s : System). s.config) same ∙ of_config;
      passes = passes;
      of_a = ap (λ (s : System). Some (passing s o.a)) c.in_ok-of_a.ensures;
      of_b = ap (λ (s : System). Some (passing s o.b)) c.in_ok-of_b.ensures;
      opened = rw same opened;
    }
