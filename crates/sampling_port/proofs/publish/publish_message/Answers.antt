use Rattle.std.proofs.Common.{◌≡◌, ◌≢◌, ℕ, ◌+◌, ◌/◌, List, length, arith, sym, ap, ◌∙◌, subst}
use Rattle.slot_core.specs.Octets.{AreOctets, words_of}
use Rattle.slot_core.specs.Words.{slot_of}
use Rattle.slot_core.proofs.Octets.{words_are_message}
use Rattle.sampling_port.specs.Rule.{slots_for}
use Rattle.sampling_port.specs.Seats.{WriterSeated}
use Rattle.sampling_port.proofs.Stores.{all_octets, all_stored, may_store, may_publish, is_free, publishes_all, stores_more, to_show, words_count}
use Rattle.sampling_port.proofs.publish.publish_message.Goals as goal
use Rattle.sampling_port.proofs.publish.publish_message.Goals.{then-last-eq0, else-last-eq0}

pub store_word-requires : goal.store_word-requires
store_word-requires g c =
    let octets : List ℕ = c.args.octets.now in
    let are : AreOctets octets = (c.requires.short, all_octets octets c.type_inv.octets) in
    let scanning = c.loop-reader.invariant.scanning in
    let storing = c.loop-index.invariant.storing in
    let end = c.loop-reader-test.false in let bound = c.loop-reader.auto.reader-end in
    let size = c.loop-reader.invariant.size in
    let low = c.free_slot-slot.ensures.below in
    let few = c.loop-index-test.true in
    let last : c.loop-index.seat.knows.view.last ≡ c.args.last = storing.last ∙ scanning.last ∙ sym c.requires.known.1 in
    let all : c.loop-reader.reader ≡ g.row.READERS = omega arith in
    let scanned : length c.loop-index.seat.knows.view.scanned ≡ g.row.READERS = ap length storing.scanned ∙ scanning.scanned ∙ all in
    let apart : c.args.last ≢ 0 → c.free_slot-slot.result ≢ slot_of c.args.last = elim c.if-last-eq0.branch [
      | then-last-eq0 w ↦ λ ne. absurd (ne w.if-last-eq0.true)
      | else-last-eq0 w ↦ λ _ e. c.free_slot-slot.ensures.apart (w.newest-is ∙ sym e)
    ] in (
      omega arith,
      may_store g.row.READERS (slots_for g.row.READERS) _ _ _ _ (words_of octets c.args.time) (words_are_message octets c.args.time are) (omega arith) scanned storing.stored
          (omega (arith, few, words_count octets c.args.time)) c.word_of.ensures storing.chosen
          (subst (λ (z : ℕ). z ≢ 0 → c.free_slot-slot.result ≢ slot_of z) (sym last) apart)
          (λ reader e. is_free c.loop-reader.seat.knows.view.scanned c.loop-reader.taken c.loop-reader.reader _ scanning.noted c.free_slot-slot.ensures.free (omega arith) reader (rw (← storing.scanned) e)),
    )

pub loop-index-preserved : goal.loop-index-preserved
loop-index-preserved g c =
    let few = c.loop-index-test.true in
    record {
      port = ap (λ (z : WriterSeated). z.port) c.store_word.ensures ∙ c.loop-index.invariant.port;
      storing = stores_more _ _ _ _ _ _ _ c.loop-index.invariant.storing (ap (λ (z : WriterSeated). z.knows) c.store_word.ensures) (omega (arith, few, words_count c.args.octets.now c.args.time)) c.word_of.ensures;
    }

pub store_latest-requires : goal.store_latest-requires
store_latest-requires g c =
    let octets : List ℕ = c.args.octets.now in
    let are : AreOctets octets = (c.requires.short, all_octets octets c.type_inv.octets) in
    let scanning = c.loop-reader.invariant.scanning in
    let storing = c.loop-index.invariant.storing in
    let end = c.loop-index-test.false in let bound = c.loop-index.auto.index-end in
    let whole : c.loop-index.index ≡ 2 + (length octets + 7) / 8 = omega arith in
    let same : length c.loop-index.seat.knows.view.published ≡ length c.args.seat.now.knows.view.published = ap length (storing.published ∙ scanning.published) in
    let room = c.requires.room in let count = c.requires.known.0 in (
      omega arith,
      (
        may_publish _ (words_of octets c.args.time) (words_are_message octets c.args.time are) (all_stored g.row.READERS _ _ _ _ _ _ _ octets c.args.time scanning storing whole) (omega arith),
        to_show g.row.READERS _ _ _ _ _ _ _ octets c.args.time scanning storing whole c.args.count count,
      ),
    )

pub returns-clause-published : goal.returns-clause-published
returns-clause-published g c =
    let octets : List ℕ = c.args.octets.now in
    let end = c.loop-index-test.false in let bound = c.loop-index.auto.index-end in
    let whole : c.loop-index.index ≡ 2 + (length octets + 7) / 8 = omega arith in
    let end' = c.loop-reader-test.false in let bound' = c.loop-reader.auto.reader-end in
    publishes_all g.row.READERS _ _ _ _ _ _ _ octets c.args.time c.loop-reader.invariant.scanning c.loop-index.invariant.storing whole _ (omega arith) (ap (λ (z : WriterSeated). z.knows) c.store_latest.ensures)
