use Rattle.std.proofs.Common.{rules, ◌≡◌, ℕ, ◌+◌, ap, ◌∙◌}
use Rattle.std.specs.Prelude.{slice_index}
use Rattle.slot_core.specs.State.{last_of}
use Rattle.sampling_port.specs.Ends.{ReaderEnd}
use Rattle.sampling_port.proofs.Ranges.{one_word_more}
use Rattle.sampling_port.proofs.partition.copy.copy_octets.Goals as goal

pub loop-place-preserved : goal.loop-place-preserved
loop-place-preserved c =
    let place : ℕ = c.loop-place.place in
    let word : c.word-word.result ≡ slice_index (last_of c.args.held.now.seen) (2 + place) =
    c.word-word.ensures.value ∙ ap (λ (h : ReaderEnd). slice_index (last_of h.seen) (2 + place)) c.loop-place.invariant.held in
    record {
      begun = search rules;
      held = search rules;
      octets = one_word_more (last_of c.args.held.now.seen) c.loop-place.out c.write_octets.new.out c.args.first place c.word-word.result c.max-from.result c.min-to.result
          word (search rules) (search rules) (search rules) c.write_octets.ensures.within c.write_octets.ensures.before;
    }
