use Rattle.std.proofs.Common.{◌∙◌, ◌<◌, arith, length, refl, rules, take}
use Rattle.std.specs.Prelude.{slice_index_or}
use Rattle.std.proofs.lemmas.List.{length-set, take_more, take_more_set}
use Rattle.std.proofs.lemmas.Option.{slice_get_read}
use Rattle.live_system.specs.Rows.{index_at}
use Rattle.live_system.proofs.Checks.{tests_push}
use Rattle.live_system.proofs.Entries.{no_entry}
use Rattle.live_system.proofs.row.test_each.Goals as goal

pub frame_in-number-requires : goal.frame_in-number-requires
frame_in-number-requires c = (c.requires.frames c.frames.place no_entry c.frames-test.true).0

pub bounds-places-link : goal.bounds-places-link
bounds-places-link c = (c.requires.frames c.frames.place no_entry c.frames-test.true).1

pub offset_bounds-places-link : goal.offset_bounds-places-link
offset_bounds-places-link c =
    let within = (c.requires.frames c.frames.place no_entry c.frames-test.true).1 in
    search rules

pub index_mut-its-requires : goal.index_mut-its-requires
index_mut-its-requires c =
    let at = c.frames.place in
    let asked = c.requires.frames at no_entry c.frames-test.true in
    let within : index_at c.args.places.now (slice_index_or c.args.row.now at no_entry).0 < length c.frames.checks.items = omega (arith, asked.2, c.frames.invariant.many) in
    search rules

pub frames-preserved : goal.frames-preserved
frames-preserved c =
    let at = c.frames.place in
    let row = c.args.row.now in
    let e = slice_index_or row at no_entry in
    let low = c.frames-test.true in
    let was = c.frames.invariant in
    let asked = c.requires.frames at no_entry low in
    let index = index_at c.args.places.now e.0 in
    let old = c.index_mut-its.result.now in
    let there = slice_get_read c.frames.checks.items (length c.frames.checks.items) index old refl (omega (arith, asked.2, was.many)) c.index_mut-its.ensures.value in
    let within : at < length c.frames.passed = omega (arith, low, was.room, c.requires.few) in
    let frame = c.frame_in-number.result in
    let more = tests_push (index_at c.args.places.now) c.args.checks.now.items c.frames.checks.items (take at row) (take at c.frames.passed) e c.check.result old c.note.new.self was.told there (record {
      passes = λ window numbers is. rw (← c.frame_in-number.ensures, ← frame.sequence_number_is) (c.check.ensures window numbers is);
      notes = λ window numbers is. rw (← c.frame_in-number.ensures, ← frame.sequence_number_is) (c.note.ensures.sequence window numbers is);
      last = c.note.ensures.latest;
    }) in
    record {
      room = length-set c.frames.passed at c.check.result ∙ was.room;
      many = length-set c.frames.checks.items index c.note.new.self ∙ was.many;
      told = rw (take_more row at no_entry low, take_more_set c.frames.passed at c.check.result within) more;
    }
