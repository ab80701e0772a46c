use Rattle.std.proofs.Common.{◌≡◌, ◌∙◌, ◌<◌, arith, length, refl, sym, take, ℕ}
use Rattle.std.specs.Prelude.{slice_index_or}
use Rattle.std.proofs.lemmas.List.{length-set, take_more, take_more_set}
use Rattle.std.proofs.lemmas.Option.{same_Some, slice_get_read}
use Rattle.es_base.specs.declared.verdict.Verdict.{Verdict}
use Rattle.es_base.specs.declared.verdict.Verdict.TheVariants.{OutOfSequence}
use Rattle.receiver.specs.declared.receiver.Reply.TheVariants as replies
use Rattle.live_system.specs.Rows.{index_at}
use Rattle.live_system.proofs.Entries.{no_entry, told_push}
use Rattle.live_system.proofs.row.tell_each.Goals as goal

pub frames-preserved : goal.frames-preserved
frames-preserved c =
    let at = c.frames.place in
    let row = c.args.row.now in
    let e = slice_index_or row at no_entry in
    let none : ℕ × Verdict = (0, OutOfSequence) in
    let a = slice_index_or c.args.answers.now at none in
    let low = c.frames-test.true in
    let was = c.frames.invariant in
    let asked = c.requires.places at no_entry low in
    let index = index_at c.args.places.now e.0 in
    let old = c.index_mut.result.now in
    let there = slice_get_read c.frames.counts.items (length c.frames.counts.items) index old refl (omega (arith, asked.1, was.many)) c.index_mut.ensures.value in
    let read = slice_get_read c.frames.counts.items (length c.frames.counts.items) index c.index.result.now refl (omega (arith, asked.1, was.many)) c.index.ensures in
    let same : c.index.result.now ≡ old = same_Some c.index.result.now old (sym read ∙ there) in
    let within : at < length c.frames.replies = omega (arith, low, was.room) in
    let answered : at < length c.args.answers.now = omega (arith, low, c.requires.few) in
    let more = told_push (index_at c.args.places.now) c.args.net c.args.counts.now.items c.frames.counts.items (take at row) (take at c.args.answers.now) (take at c.frames.replies) e a old c.add.new.self was.told there
    record { vl = c.add.ensures.vl; number = c.add.ensures.number; tally = c.add.ensures.tally } in
    record {
      many = length-set c.frames.counts.items index c.add.new.self ∙ was.many;
      room = length-set c.frames.replies at _ ∙ was.room;
      told = rw (take_more row at no_entry low, take_more c.args.answers.now at none answered, take_more_set c.frames.replies at (replies.Link e.0 c.index.result.now.vl a.0 a.1) within, same) more;
    }
