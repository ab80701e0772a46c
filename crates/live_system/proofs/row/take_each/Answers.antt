use Rattle.std.proofs.Common.{◌≡◌, ◌∙◌, ◌<◌, ap, arith, false, length, set, suc, sym, take, ◌+◌}
use Rattle.std.specs.Prelude.{slice_index_or}
use Rattle.std.proofs.lemmas.List.{get_or-take, length-set, take_more, take_more_set}
use Rattle.es_base.specs.declared.place.LinkNo.{LinkNo}
use Rattle.es_base.specs.Addressing.{addressee_of}
use Rattle.es_base.specs.Settings.{Settings}
use Rattle.live_system.specs.Groups.{HasLinkAt}
use Rattle.live_system.specs.Rows.{index_at}
use Rattle.live_system.proofs.Checks.{passes_by, standing_then, tests_next}
use Rattle.live_system.proofs.Entries.{each_push, link_now, no_entry, settings_after}
use Rattle.live_system.proofs.row.take_each.Goals as goal

pub take_at-requires-clause-link : goal.take_at-requires-clause-link
take_at-requires-clause-link c =
    let e = slice_index_or c.args.row.now c.frames.place no_entry in
    let asked = c.requires.frames c.frames.place no_entry c.frames-test.true in
    let has : HasLinkAt c.args.group.now (index_at c.args.places.now e.0) (λ link. addressee_of e.1.1.now ≡ link.core.settings.vl) = asked.2 in
    let now = link_now c.args.group.now c.frames.group (index_at c.args.places.now e.0) has.0 c.frames.invariant.same has.1 in
    (now.0, now.1, ap (λ (n : LinkNo). n.0) has.2 ∙ ap (λ (s : Settings). s.vl.0) (sym now.2))

pub take_at-requires-clause-passed : goal.take_at-requires-clause-passed
take_at-requires-clause-passed c = λ link there.
    let at = c.frames.place in
    let e = slice_index_or c.args.row.now at no_entry in
    let tested = c.frames.invariant.tested in
    let next = tests_next (index_at c.args.places.now) tested.0 tested.1 at c.args.row.now (take (length c.args.row.now) c.args.passed.now) c.frames-test.true tested.3 in
    rw (sym (get_or-take (length c.args.row.now) c.args.passed.now at false c.frames-test.true))
    (passes_by c.args.net c.frames.group tested.0 (index_at c.args.places.now e.0) e.1.0 e.1.1.now _ next.old tested.2 next.was next.tests.passes link there)

pub frames-preserved : goal.frames-preserved
frames-preserved c =
    let at = c.frames.place in
    let row = c.args.row.now in
    let e = slice_index_or row at no_entry in
    let low = c.frames-test.true in
    let was = c.frames.invariant in
    let tested = was.tested in
    let next = tests_next (index_at c.args.places.now) tested.0 tested.1 at row (take (length row) c.args.passed.now) low tested.3 in
    let within : at < length c.frames.answers = omega (arith, low, was.room, c.requires.few) in
    record {
      room = length-set c.frames.answers at c.take_at.result ∙ was.room;
      same = settings_after c.args.net (index_at c.args.places.now e.0) e.1.0 e.1.1.now c.take_at.result c.frames.group c.take_at.new.group c.take_at.ensures ∙ was.same;
      took = rw (take_more row at no_entry low, take_more_set c.frames.answers at c.take_at.result within)
          (each_push (index_at c.args.places.now) c.args.net c.args.group.now c.frames.group c.take_at.new.group (take at row) (take at c.frames.answers) e c.take_at.result was.took c.take_at.ensures);
      tested = (
        set tested.0 (index_at c.args.places.now e.0) next.new,
        tested.1,
        standing_then c.args.net c.frames.group c.take_at.new.group tested.0 (index_at c.args.places.now e.0) e.1.0 e.1.1.now c.take_at.result next.old next.new tested.2 c.take_at.ensures next.was next.tests.notes,
        (let z : suc at ≡ at + 1 = omega arith in rw z at next.rest),
      );
    }
