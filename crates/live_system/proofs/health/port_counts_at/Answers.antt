use Rattle.std.proofs.Common.{◌≡◌, ◌∙◌, Some, ap, refl, sym}
use Rattle.std.specs.List.{slice_get}
use Rattle.std.proofs.lemmas.Option.{same_Some, slice_get_read, slice_get_within}
use Rattle.es_base.proofs.Elements.{set_same}
use Rattle.live_system.specs.Calls.{LiveLink}
use Rattle.live_system.proofs.health.port_counts_at.Goals as goal

pub returns : goal.returns
returns c =
    let links = c.args.group.now in
    let one = c.requires in
    let read : slice_get links c.args.index ≡ Some c.index-link.result.now = rw c.group.view_is at (slice_get_read c.group.inside.links.items _ c.args.index c.index-link.result.now refl (rw (← c.group.view_is) at (slice_get_within links c.args.index one.0 one.1)) c.index-link.ensures) in
    let same : c.index-link.result.now ≡ one.0 = same_Some _ _ (sym read ∙ one.1) in
    record {
      before = one.0;
      after = one.0;
      there = one.1;
      does = record {
        link = refl;
        counts = rw (← same) c.port_counts.ensures;
      };
      only = sym (set_same links c.args.index one.0 one.0 one.1 refl);
    }
