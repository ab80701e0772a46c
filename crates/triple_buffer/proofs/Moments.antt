-- The laws of a running triple buffer.
use Rattle.std.proofs.Common.{◌≡◌, ℕ, ◌<◌, List, length, sym, ap, ◌∙◌, subst, arith}
use mathlib.Core.Option.{some}
use Rattle.es_base.specs.declared.event.Message.{Message}
use Rattle.triple_buffer.specs.declared.latest.Latest.{Latest}
use Rattle.triple_buffer.specs.declared.rule.WriterView.{WriterView}
use Rattle.triple_buffer.specs.declared.rule.ReaderView.{ReaderView}
use Rattle.triple_buffer.specs.declared.rule.SeatView.{SeatView}
use Rattle.triple_buffer.specs.declared.rule.SeatView.TheVariants.{Writes, Reads}
use Rattle.triple_buffer.specs.Rule.{IsLastOf, KeptBuffers}
use Rattle.triple_buffer.specs.Plays.{BufferSeat, reader_in}
use Rattle.triple_buffer.specs.Moments.{ArePublished, BufferState, HasMark, HasNoMark, LiesBetween, LooksAtWord, SeatSees, BufferStep, TookIn, word_in}

-- a seat that took is the reader's
reader_after : (s : BufferState) (swap : BufferStep) (found : ℕ) (before after : BufferSeat) → TookIn s swap found before after → after.0 ≡ Reads (reader_in after.0)
reader_after s swap found before after took = took.told.2 ∙ sym (ap (λ (z : SeatView). Reads (reader_in z)) took.told.2)

pub took_some : (found : ℕ) (s : BufferState) (swap : BufferStep) (before after : BufferSeat) → TookIn s swap found before after → 0 < length (reader_in after.0).seen
took_some found s swap before after took =
    let all : (reader_in after.0).seen ≡ took.told.0 = ap (λ (z : SeatView). (reader_in z).seen) took.told.2 in
    subst (λ (l : List Message). 0 < length l) (sym all) (let more = took.told.8 in omega (arith, more))

module _ (longest : ℕ) (s : BufferState) (published : List Message) (k : KeptBuffers longest s) (are : ArePublished s published) where
  is_published : published ≡ k.writer.published
  is_published = are.all ∙ ap (λ (z : WriterView). z.published) (k.seats are.seat (Writes are.writer) are.knows).0

  seen_is : (seat : ℕ) (reader : ReaderView) → SeatSees s seat (Reads reader) → reader.seen ≡ k.reader.seen
  seen_is seat reader at = ap (λ (z : ReaderView). z.seen) (k.seats seat (Reads reader) at).0

  pub has_seen_all : (seat : ℕ) (reader : ReaderView) → SeatSees s seat (Reads reader) → HasNoMark (word_in s) → reader.seen ≡ published
  has_seen_all seat reader at low = seen_is seat reader at ∙ k.lawful.all_seen low ∙ sym is_published

  pub looked_all : (before after : BufferSeat) (load : BufferStep) → LooksAtWord s load before after → HasNoMark (word_in s) → (reader_in after.0).seen ≡ published
  looked_all before after load look low =
      ap (λ (z : SeatView). (reader_in z).seen) (look.told.2 low).0
      ∙ has_seen_all look.seat (reader_in before.0) (look.knows ∙ ap (λ (z : SeatView). some z) look.reader) low

  pub took_all : (found : ℕ) (before after : BufferSeat) (swap : BufferStep) → TookIn s swap found before after → (reader_in after.0).seen ≡ published
  took_all found before after swap took =
      has_seen_all took.seat (reader_in after.0) (took.knows ∙ ap (λ (z : SeatView). some z) (reader_after s swap found before after took))
      (subst (λ (n : ℕ). n < 4) (sym took.stored) took.unmarked)

  pub lies_between : HasMark (word_in s) → (latest : Latest) × LiesBetween s latest × IsLastOf latest published
  lies_between more = (
    k.lawful.latest,
    k.lawful.home,
    subst (λ (l : List Message). IsLastOf k.lawful.latest l) (sym is_published) (k.lawful.newest more),
  )

  pub is_newer : (seat : ℕ) (reader : ReaderView) → SeatSees s seat (Reads reader) → HasMark (word_in s) → length reader.seen < length published
  is_newer seat reader at more =
      subst (λ (l : List Message). length reader.seen < length l) (sym is_published)
      (subst (λ (l : List Message). length l < length k.writer.published) (sym (seen_is seat reader at)) (k.lawful.fresh more))
