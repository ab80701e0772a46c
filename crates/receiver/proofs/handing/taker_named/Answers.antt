use Rattle.std.proofs.Common.{rules, ◌≡◌, Some, ap, refl}
use Rattle.std.specs.Prelude.{slice_index_or}
use Rattle.es_base.specs.Ends.{HasEndAt, place_named}
use Rattle.receiver.specs.Named.{directory}
use Rattle.receiver.specs.Taking.{HandsTaker}
use Rattle.receiver.proofs.Handed.{handed_at}
use Rattle.receiver.proofs.handing.taker_named.Goals as goal

pub returns : goal.returns
returns c =
    let ends = c.args.ends.now in
    let place = c.in_ok-place.place in
    let link = slice_index_or ends place c.index-ends-place.result in
    let found : place_named directory c.args.name.now ends ≡ Some (place, c.in_ok-place.at) = search rules in
    let there : HasEndAt directory ends (place, c.in_ok-place.at) = search rules in
    let read : link ≡ slice_index_or ends place link = ap (slice_index_or ends place) c.index-ends-place.is in
    handed_at HandsTaker c.args.name.now ends place c.in_ok-place.at link _ c.index_mut.result.now c.take_taker.new.self c.take_taker.result
    found there read c.index_mut.ensures.value c.take_taker.ensures refl refl
