use Rattle.std.proofs.Common.{◌∙◌, ap, sym, Ok}
use Rattle.vl_config.proofs.Address.{spelled, unspelled}
use Rattle.vl_config.proofs.document.port.address_from.Goals as goal

pub returns-in-Ok : goal.returns-in-Ok
returns-in-Ok c = ap Ok c.to_bits.ensures ∙ sym (spelled c.args.text.now c.in-Ok.address c.in-Ok.ensures.value)

pub returns-in-Err : goal.returns-in-Err
returns-in-Err c = sym (unspelled c.args.text.now c.in-Err.ensures.value)
