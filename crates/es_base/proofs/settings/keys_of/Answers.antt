use Rattle.std.proofs.Common.{◌≡◌, ◌∙◌, ◌<◌, ap, arith, get_or, subst, sym}
use Rattle.std.specs.List.{slice_get}
use Rattle.std.proofs.lemmas.Option.{slice_get_within}
use Rattle.es_base.specs.Settings.{port_key}
use Rattle.es_base.proofs.Keys.{keys_pushed}
use Rattle.es_base.proofs.settings.keys_of.Goals as goal

pub keys-preserved : goal.keys-preserved
keys-preserved c =
    let udp : c.index-ports-place.result.udp < 65536 = subst (λ n. n < 65536) c.udp.ensures c.udp.type_inv in
    keys_pushed c.args.ports.now c.keys.keys c.keys.place c.port_key.result c.index-ports-place.result c.keys.invariant.0 c.keys-test.true c.requires c.keys.invariant.1 c.index-ports-place.is
    (c.port_key.ensures ∙ (λ i. port_key (c.address.ensures i) (c.udp.ensures i))) udp

pub returns : goal.returns
returns c = λ place port at.
    let within = slice_get_within c.args.ports.now place port at in
    let past = c.keys-test.false in
    c.keys.invariant.1 place port (omega (arith, within, past)) at
