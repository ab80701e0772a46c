-- The laws of a running port.
use Rattle.std.proofs.Common.{◌≡◌, ◌≢◌, ℕ, ◌<◌, ◌≤◌, ⊎_elim, List, [], ◌++◌, length, get_or, append-nil, length-append, sym, ap, ◌∙◌, arith, subst}
use Rattle.std.proofs.lemmas.Bool.{cases_lt}
use Rattle.std.proofs.lemmas.List.{nil_from_length}
use Rattle.slot_core.specs.declared.view.Phase.TheVariants.{Holding}
use Rattle.slot_core.specs.declared.view.ReaderView.{ReaderView}
use Rattle.slot_core.specs.declared.view.WriterView.{WriterView}
use Rattle.slot_core.specs.Allowed.{MayStore}
use Rattle.slot_core.specs.Message.{IsMessage}
use Rattle.slot_core.specs.Octets.{AreOctets, words_of}
use Rattle.slot_core.specs.State.{HasWord, StartsWithSeen, last_of, view_at}
use Rattle.slot_core.specs.Words.{latest_number, slot_of, Begins}
use Rattle.slot_core.specs.Lawful.{IsReader}
use Rattle.slot_core.proofs.Interleavings.{held_is_not_written, held_is_whole}
use Rattle.slot_core.proofs.Messages.{length-seen}
use Rattle.slot_core.proofs.Octets.{octet_is}
use Rattle.sampling_port.specs.declared.reader.Read.{Read}
use Rattle.sampling_port.specs.declared.reader.Read.TheVariants.{Message, Empty, Busy}
use Rattle.sampling_port.specs.declared.rule.ReaderLog.{ReaderLog}
use Rattle.sampling_port.specs.declared.rule.WriterLog.{WriterLog}
use Rattle.sampling_port.specs.declared.rule.SeatView.TheVariants.{Reads, Writes}
use Rattle.sampling_port.specs.Ends.{IsCopy, ReadAnswer, ReaderEnd, ReadsLast}
use Rattle.sampling_port.specs.Moments.{IsFoundIn, IsLook, PortState, SeatKnows, SeatStep}
use Rattle.sampling_port.specs.Plays.{At, first, second}
use Rattle.sampling_port.specs.Rule.{KeptTable}
use Rattle.sampling_port.proofs.Turns.{below, core, reader_is, reader_known, writer_is}

module _ (n m : ℕ) (s : PortState) (k : KeptTable n m s) (reader place : ℕ) (v : ReaderLog) (at : SeatKnows s reader (Reads place v)) where
  low : place < n
  low = below n m s k reader place v at

  is : view_at k.readers place ≡ v.view
  is = reader_is n m s k reader place v at

  pub not_written : (writer word slot index stored : ℕ) (w : WriterLog) → SeatKnows s writer (Writes w) → v.view.phase ≡ Holding word → MayStore n m w.view slot index stored → slot ≢ slot_of word
  not_written writer word slot index stored w there holds may =
      held_is_not_written n m (core s.words k.writer k.readers) place word slot index stored k.lawful (low, ap (λ (z : ReaderView). z.phase) is ∙ holds)
      (subst (λ (z : WriterView). MayStore n m z slot index stored) (writer_is n m s k writer w there) may)

  pub whole : (word : ℕ) → v.view.phase ≡ Holding word → IsMessage (last_of v.view.seen) × Begins n s.words (slot_of word) (last_of v.view.seen)
  whole word holds =
      let seen : (view_at k.readers place).seen ≡ v.view.seen = ap (λ (z : ReaderView). z.seen) is in
      subst (λ (l : List (List ℕ)). IsMessage (last_of l) × Begins n s.words (slot_of word) (last_of l)) seen
      (held_is_whole n m (core s.words k.writer k.readers) place word k.lawful (low, ap (λ (z : ReaderView). z.phase) is ∙ holds))

  pub has_seen_all : (writer : ℕ) (w : WriterLog) → SeatKnows s writer (Writes w) → HasWord v.view.phase (latest_number s.words) → v.view.seen ≡ w.view.published
  has_seen_all writer w there has =
      let known : IsReader n m s.words k.writer place v.view = reader_known n m s k reader place v at in
      let shows = known.shows (latest_number s.words) has in
      let some : 0 < length k.writer.published = (let size = length-seen k.writer.published v.view.seen known.seen in let more = shows.0 in omega arith) in
      let newest = k.lawful.newest.shown some in
      let count : length v.view.seen ≡ length k.writer.published = (let a = shows.1.0 in let b = newest.0 in omega arith) in
      same_length k.writer.published v.view.seen known.seen count ∙ ap (λ (z : WriterView). z.published) (sym (writer_is n m s k writer w there))
    where
      same_length : (all seen : List (List ℕ)) → StartsWithSeen all seen → length seen ≡ length all → seen ≡ all
      same_length all seen begins same =
          let sum = ap (λ (l : List (List ℕ)). length l) begins.1 ∙ length-append seen begins.0 in
          let none : begins.0 ≡ [] = nil_from_length begins.0 (omega (arith, sum, same)) in
          sym (begins.1 ∙ ap (λ (l : List (List ℕ)). seen ++ l) none ∙ append-nil seen)

-- two lists, each of which begins with the other
alike : (xs ys : List (List ℕ)) → StartsWithSeen xs ys → StartsWithSeen ys xs → ys ≡ xs
alike xs ys a b =
    let one = ap (λ (l : List (List ℕ)). length l) a.1 ∙ length-append ys a.0 in
    let other = ap (λ (l : List (List ℕ)). length l) b.1 ∙ length-append xs b.0 in
    let none : a.0 ≡ [] = nil_from_length a.0 (omega (arith, one, other)) in
    sym (a.1 ∙ ap (λ (l : List (List ℕ)). ys ++ l) none ∙ append-nil ys)

pub last_is_read : (published : List (List ℕ)) (v w : ReaderEnd) (tries : ℕ) (before out : List ℕ) (answer : Read) → v.seen ≡ published → 0 < tries → ReadAnswer v w tries before out answer → StartsWithSeen published w.seen
    → ReadsLast published before out answer
last_is_read published v w tries before out (Message number time len) told some read begins =
    let same : w.seen ≡ published = alike published w.seen begins (subst (λ (l : List (List ℕ)). StartsWithSeen w.seen l) told read.2.seen) in
    subst (λ (l : List (List ℕ)). ReadsLast l before out (Message number time len)) same (read.2.some, read.0, read.1)
last_is_read published v w tries before out Empty told some read begins = (sym told ∙ read.0.before, read.1)
last_is_read published v w tries before out (Busy number) told some read begins =
    let size = length-seen published w.seen begins in let more = read.0.newer in let same = ap (λ (l : List (List ℕ)). length l) told in
    absurd (omega (arith, size, more, some, same))

pub is_what_was_published : (octets before out : List ℕ) (time place : ℕ) → AreOctets octets → IsCopy (words_of octets time) before out (length octets) → place < length octets → get_or out place 0 ≡ get_or octets place 0
is_what_was_published octets before out time place are copy low = copy.octets place low ∙ octet_is octets time are place low

pub finds_nothing_published : (n m found : ℕ) (s : PortState) (k : KeptTable n m s) (load : SeatStep) (me after : At) → IsFoundIn s load found → IsLook m load me found after → found ≡ 0 → k.writer.published ≡ []
finds_nothing_published n m found s k load me after there look zero =
    let at_latest : load.word ≡ 0 = ⊎_elim (λ (x : first m load me found after). x.0) (λ (x : second m load me found after). x.0) look in
    let empty : latest_number s.words ≡ 0 = sym (there ∙ ap (λ (i : ℕ). get_or s.words i 0) at_latest) ∙ zero in
    nil_from_length k.writer.published (⊎_elim
    (λ (some : 0 < length k.writer.published). absurd (let shown = (k.lawful.newest.shown some).0 in omega (arith, some, shown, empty)))
    (λ (none : length k.writer.published ≤ 0). omega (arith, none))
    (cases_lt 0 (length k.writer.published)))
