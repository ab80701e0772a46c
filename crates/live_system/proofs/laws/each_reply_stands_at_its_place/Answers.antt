use Rattle.std.proofs.Common.{◌∙◌, ap}
use Rattle.std.proofs.lemmas.List.{reverse-reverse}
use Rattle.es_base.specs.declared.place.Net.{Net}
use Rattle.link_lock.specs.Lists.{both_lists}
use Rattle.network_calls.specs.Calls.{calls_from, user_of}
use Rattle.network_calls.proofs.Networks.{back}
use Rattle.network_calls.proofs.Standing.{stand}
use Rattle.live_system.specs.Calls.{events_of}
use Rattle.live_system.proofs.laws.each_reply_stands_at_its_place.Goals as goal

pub returns : goal.returns
returns g = λ link a b settled is.
    stand (λ net. both_lists a b (user_of net)) settled.core.settings (events_of settled) (rw (reverse-reverse settled.core.past) is.agrees.ported.run)
    (λ net. is.agrees.calls (user_of net) ∙ ap (λ (n : Net). calls_from 0 n (events_of settled)) (back net))
