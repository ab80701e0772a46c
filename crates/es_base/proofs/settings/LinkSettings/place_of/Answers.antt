use Rattle.std.proofs.Common.{◌∙◌, ap, position, rules}
use Rattle.es_base.specs.Port.{accepts}
use Rattle.es_base.specs.Settings.{Settings}
use Rattle.es_base.proofs.Keys.{key_found}
use Rattle.es_base.proofs.settings.LinkSettings.place_of.Goals as goal

pub returns-clause-value : goal.returns-clause-value
returns-clause-value c =
    let s = c.self.inside in
    key_found s.ports.items s.keys c.args.address c.args.udp c.port_key.result c.place_in.result (search rules) c.port_key.ensures c.ranges.udp.fits c.self.invariant.1
    ∙ ap (λ (settings : Settings). position (accepts c.args.address c.args.udp) settings.ports) c.self.view_is
