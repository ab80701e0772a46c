-- What the ends keep.
use Rattle.std.proofs.Common.{◌≡◌, ℕ, ◌+◌, ◌<◌, List, [], ◌∷◌, ◌++◌, length, sym, refl, ap, ◌∙◌, subst, arith, Bool, true, false, length-append, append-nil, get_or, Option, None, Some}
use Rattle.es_base.specs.declared.event.Message.{Message}
use Rattle.std.proofs.lemmas.List.{nil_from_length}
use mathlib.Core.Option.{none}
use Rattle.atomic_table.specs.Table.{Step, step, rest}
use Rattle.atomic_table.specs.Seated.{TableId}
use Rattle.triple_buffer.specs.declared.latest.Latest.{Latest}
use Rattle.triple_buffer.specs.declared.rule.SeatView.{SeatView}
use Rattle.triple_buffer.specs.declared.rule.ReaderView.{ReaderView}
use Rattle.triple_buffer.specs.declared.rule.SeatView.TheVariants.{Writes, Reads}
use Rattle.triple_buffer.specs.Rule.{HasRoom, IsLastOf, StartsWith, reader_at_first, writer_at_first, message_in, place_of_word}
use Rattle.triple_buffer.specs.Plays.{BufferSeat, IsFilledAt, with_known, published, writer_publishes, reader_enters, reader_in, sees_all, sees_newer, taken, takes, writer_enters, writer_in}
use Rattle.triple_buffer.specs.Ends.{HasAll, IsLookMade, IsReadOf, IsReaderSeat, IsReceived, IsPublishedBy, IsWriter, LookSteps, MayReceive, MaySend, BufferReader, reader_told, reader_end}
use Rattle.triple_buffer.proofs.Turns.{May, receive_at, send_at, starts_same, starts_trans}

-- a seat with this view, and with the place as before
at_view : (me me' : BufferSeat) (v : SeatView) → me'.0 ≡ v → me'.1 ≡ me.1 → me' ≡ (v, me.1)
at_view me me' v a b = λ i. (a i, b i)

pub told_reader : (me me' : BufferSeat) (slot longest : ℕ) (has : Option Latest) (all : List Message) → IsReaderSeat me slot longest has → me' ≡ (Reads (with_known (reader_in me.0) all), me.1)
    → StartsWith all (reader_in me.0).known → IsReaderSeat me' slot longest has
told_reader me me' slot longest has all i is before = subst (λ (y : BufferSeat). IsReaderSeat y slot longest has) (sym is) (record {
  view = refl;
  place = i.place;
  below = i.below;
  longest_is = i.longest_is;
  entered = i.entered;
  vacant = i.vacant;
  own = i.own;
  has_own = i.has_own;
  room = i.room;
  last = i.last;
  seen = starts_trans all (reader_in me.0).known (reader_in me.0).seen before i.seen;
})

pub may_send : (me me1 : BufferSeat) (slot longest count : ℕ) (own : Latest) → IsWriter me slot longest count → me1.0 ≡ me.0 → me1.1 ≡ (slot, Some own) ∷ [] → HasRoom longest own → own.number ≡ count + 1 → MaySend longest me1 slot
may_send me me1 slot longest count own i same holds room number = record {
  view = same ∙ i.view ∙ sym (ap (λ (z : SeatView). Writes (writer_in z)) same);
  place = ap (λ (z : SeatView). (writer_in z).slot) same ∙ i.place;
  below = i.below;
  longest_is = ap (λ (z : SeatView). (writer_in z).longest) same ∙ i.longest_is;
  entered = ap (λ (z : SeatView). (writer_in z).has) same ∙ i.entered;
  own = own;
  holds = holds;
  room = room;
  number = number ∙ ap (λ (n : ℕ). n + 1) i.count_is ∙ sym (ap (λ (z : SeatView). length (writer_in z).published + 1) same);
}

abbrev latest_or : Latest → Option Latest → Latest
latest_or other None = other
latest_or other (Some latest) = latest

-- one buffer in one place is no other
one_place : (xs : List (ℕ × Option Latest)) (slot slot' : ℕ) (a b : Latest) → xs ≡ (slot, Some a) ∷ [] → xs ≡ (slot', Some b) ∷ [] → a ≡ b
one_place xs slot slot' a b is is' = ap (λ (l : List (ℕ × Option Latest)). latest_or a (get_or l 0 (0, None)).1) (sym is ∙ is')

pub filled_may_send : (me me1 : BufferSeat) (slot longest count : ℕ) (message : Message) → IsWriter me slot longest count → me1.0 ≡ me.0 → IsFilledAt me.1 me1.1 slot (count + 1) message → MaySend longest me1 slot
filled_may_send me me1 slot longest count message i same f =
    let was : f.4.0 ≡ i.own = one_place me.1 slot slot f.4.0 i.own (f.2 ∙ ap (λ (x : Option Latest). (slot, x) ∷ []) f.4.2) i.holds in
    may_send me me1 slot longest count f.4.1 i same (f.3 ∙ ap (λ (x : Option Latest). (slot, x) ∷ []) f.4.3) (f.4.6 ∙ ap (λ (b : Latest). length b.octets.items) was ∙ i.room) f.4.4

-- what a publication made of the writer
pub sent_writer : (me me1 me2 : BufferSeat) (slot slot' longest count : ℕ) (sent : Latest) → IsWriter me slot longest count → me1.0 ≡ me.0 → IsPublishedBy longest me1 me2 sent slot' → IsWriter me2 slot' longest (count + 1)
sent_writer me me1 me2 slot slot' longest count sent i same t =
    let view : me2.0 ≡ Writes (writer_publishes (writer_in me.0) (message_in sent) slot') = t.view ∙ ap (λ (z : SeatView). Writes (writer_publishes (writer_in z) (message_in sent) slot')) same in record {
      view = view ∙ sym (ap (λ (z : SeatView). Writes (writer_in z)) view);
      place = ap (λ (z : SeatView). (writer_in z).slot) view;
      below = t.below;
      longest_is = ap (λ (z : SeatView). (writer_in z).longest) view ∙ i.longest_is;
      entered = ap (λ (z : SeatView). (writer_in z).has) view ∙ i.entered;
      own = t.own;
      holds = t.holds;
      room = t.room;
      count_is = ap (λ (n : ℕ). n + 1) i.count_is ∙ sym (length-append (writer_in me.0).published (message_in sent ∷ [])) ∙ sym (ap (λ (z : SeatView). length (writer_in z).published) view);
    }

-- the reader looked, and has the last message that was published
pub all_seen : (me me' : BufferSeat) (slot longest : ℕ) (has : Option Latest) → IsReaderSeat me slot longest has → me'.1 ≡ me.1 → me'.0 ≡ Reads (sees_all (reader_in me.0)) → IsReaderSeat me' slot longest has
all_seen me me' slot longest has i same is = subst (λ (y : BufferSeat). IsReaderSeat y slot longest has) (sym (at_view me me' _ is same)) (record {
  view = refl;
  place = i.place;
  below = i.below;
  longest_is = i.longest_is;
  entered = i.entered;
  vacant = i.vacant;
  own = i.own;
  has_own = i.has_own;
  room = i.room;
  last = i.last;
  seen = starts_same (reader_in me.0).seen;
})

pub all_seen_end : (table table' : TableId) (longest : ℕ) (me me' : BufferSeat) → table' ≡ table → me'.0 ≡ Reads (sees_all (reader_in me.0)) → StartsWith (reader_in me.0).seen (reader_in me.0).known
    → IsReadOf (reader_end table longest me) (reader_end table' longest me')
all_seen_end table table' longest me me' same is begins =
    let r = reader_in me.0 in
    let now : (reader_in me'.0).seen ≡ r.seen = ap (λ (z : SeatView). (reader_in z).seen) is in
    record {
      buffer = same;
      longest = refl;
      newest = ap (λ (z : SeatView). (reader_in z).known) is ∙ sym now;
      seen = subst (λ (l : List Message). StartsWith l r.seen) (sym now) (starts_same r.seen);
      known = subst (λ (l : List Message). StartsWith l r.known) (sym now) begins;
      look = record { newer = false; looks = ap (λ (z : SeatView). (reader_in z).looks) is; steps = (now, ap (λ (z : SeatView). (reader_in z).steps) is) };
    }

-- it looked, and saw that there is a newer one
pub may_receive : (me me' : BufferSeat) (slot longest : ℕ) (has : Option Latest) → IsReaderSeat me slot longest has → me'.1 ≡ me.1 → me'.0 ≡ Reads (sees_newer (reader_in me.0)) → MayReceive longest me' slot has
may_receive me me' slot longest has i same is = subst (λ (y : BufferSeat). MayReceive longest y slot has) (sym (at_view me me' _ is same)) (record {
  view = refl;
  place = i.place;
  below = i.below;
  longest_is = i.longest_is;
  entered = i.entered;
  newer = refl;
  vacant = i.vacant;
  own = i.own;
  has_own = i.has_own;
  room = i.room;
})

-- and took it
pub received_reader : (before me me' : BufferSeat) (slot slot' longest : ℕ) (has has' : Option Latest) → IsReaderSeat before slot longest has → me.0 ≡ Reads (sees_newer (reader_in before.0)) → IsReceived longest me me' slot' has' → IsReaderSeat me' slot' longest has'
received_reader before me me' slot slot' longest has has' i looked t = record {
  view = t.view ∙ sym (ap (λ (z : SeatView). Reads (reader_in z)) t.view);
  place = ap (λ (z : SeatView). (reader_in z).slot) t.view;
  below = t.below;
  longest_is = ap (λ (z : SeatView). (reader_in z).longest) t.view ∙ ap (λ (z : SeatView). (reader_in z).longest) looked ∙ i.longest_is;
  entered = ap (λ (z : SeatView). (reader_in z).has) t.view ∙ ap (λ (z : SeatView). (reader_in z).has) looked ∙ i.entered;
  vacant = t.vacant;
  own = t.own;
  has_own = t.has_own;
  room = t.room;
  last = subst (λ (l : List Message). IsLastOf t.own l) (sym (ap (λ (z : SeatView). (reader_in z).seen) t.view)) t.last;
  seen = subst (λ (r : ReaderView). StartsWith r.known r.seen) (sym (ap reader_in t.view)) (starts_same t.all);
}

pub received_end : (table table' : TableId) (longest slot slot' : ℕ) (before me me' : BufferSeat) (has has' : Option Latest) → table' ≡ table → IsReaderSeat before slot longest has → me.0 ≡ Reads (sees_newer (reader_in before.0)) → IsReceived longest me me' slot' has'
    → IsReadOf (reader_end table longest before) (reader_end table' longest me')
received_end table table' longest slot slot' before me me' has has' same i looked t =
    let r = reader_in before.0 in
    let now : (reader_in me'.0).seen ≡ t.all = ap (λ (z : SeatView). (reader_in z).seen) t.view in
    let known : StartsWith t.all r.known = subst (λ (l : List Message). StartsWith t.all l) (ap (λ (z : SeatView). (reader_in z).known) looked) t.known in
    let more : length r.seen < length t.all = subst (λ (l : List Message). length l < length t.all) (ap (λ (z : SeatView). (reader_in z).seen) looked) t.more in
    let exchanged : (reader_in me'.0).steps ≡ (reader_in me.0).steps + 1 = ap (λ (z : SeatView). (reader_in z).steps) t.view in
    let loaded : (reader_in me.0).steps ≡ r.steps + 1 = ap (λ (z : SeatView). (reader_in z).steps) looked in
    record {
      buffer = same;
      longest = refl;
      newest = ap (λ (z : SeatView). (reader_in z).known) t.view ∙ sym now;
      seen = subst (λ (l : List Message). StartsWith l r.seen) (sym now) (starts_trans t.all r.known r.seen known i.seen);
      known = subst (λ (l : List Message). StartsWith l r.known) (sym now) known;
      look = record {
        newer = true;
        looks = ap (λ (z : SeatView). (reader_in z).looks) t.view ∙ ap (λ (z : SeatView). (reader_in z).looks) looked;
        steps = (subst (λ (l : List Message). length r.seen < length l) (sym now) more, omega (arith, exchanged, loaded));
      };
    }

-- ---- two meetings

-- two lists, each of which begins with the other
alike : (xs ys : List Message) → StartsWith xs ys → StartsWith ys xs → ys ≡ xs
alike xs ys a b =
    let one = ap (λ (l : List Message). length l) a.1 ∙ length-append ys a.0 in
    let other = ap (λ (l : List Message). length l) b.1 ∙ length-append xs b.0 in
    let nothing : a.0 ≡ [] = nil_from_length a.0 (omega (arith, one, other)) in
    sym (a.1 ∙ ap (λ (l : List Message). ys ++ l) nothing ∙ append-nil ys)

-- it was told these, looked, and was told them again
pub has_last : (v t w u : BufferReader) (all : List Message) → t ≡ reader_told v all → IsReadOf t w → u ≡ reader_told w all → StartsWith all w.known → HasAll v u all
has_last v t w u all told read again before =
    let later : StartsWith w.seen all = subst (λ (l : List Message). StartsWith w.seen l) (ap (λ (z : BufferReader). z.known) told) read.known in
    let same : w.seen ≡ all = alike all w.seen (subst (λ (l : List Message). StartsWith all l) read.newest before) later in
    record {
      buffer = ap (λ (z : BufferReader). z.buffer) again ∙ read.buffer ∙ ap (λ (z : BufferReader). z.buffer) told;
      longest = ap (λ (z : BufferReader). z.longest) again ∙ read.longest ∙ ap (λ (z : BufferReader). z.longest) told;
      seen = ap (λ (z : BufferReader). z.seen) again ∙ same;
      known = ap (λ (z : BufferReader). z.known) again;
    }

told_steps : (v w : BufferReader) (all : List Message) (newer : Bool) → LookSteps (reader_told v all) w newer → LookSteps v (reader_told w all) newer
told_steps v w all false steps = steps
told_steps v w all true steps = steps

-- and it made the one look
pub looked_once : (v t w u : BufferReader) (all : List Message) → t ≡ reader_told v all → IsReadOf t w → u ≡ reader_told w all → IsLookMade v u
looked_once v t w u all told read again =
    let look : IsLookMade (reader_told v all) w = subst (λ (z : BufferReader). IsLookMade z w) told read.look in
    subst (λ (z : BufferReader). IsLookMade v z) (sym again) (record { newer = look.newer; looks = look.looks; steps = told_steps v w all look.newer look.steps })

-- ---- the steps of a publication and of a read

-- no step tells which step it is
abbrev any_step : Step (Option Latest)
any_step = step 0 0 0 0 none

-- it put the buffer in its place
pub placed : (me me1 : BufferSeat) (v : SeatView) (slot : ℕ) (own : Latest) → me.0 ≡ v → me.1 ≡ (slot, None) ∷ [] → me1 ≡ (me.0, (slot, Some own) ∷ rest me.1) → me1 ≡ (v, (slot, Some own) ∷ [])
placed me me1 v slot own view vacant put = put ∙ (λ i. (view i, (slot, Some own) ∷ ap rest vacant i))

-- what it took out of its place
took : (back : Option Latest) (xs : List (ℕ × Option Latest)) (slot : ℕ) (own : Latest) → xs ≡ (slot, back) ∷ rest xs → xs ≡ (slot, Some own) ∷ [] → back ≡ Some own
took back xs slot own a b = ap (λ (l : List (ℕ × Option Latest)). (get_or l 0 (0, back)).1) (sym a ∙ b)

-- and its place is vacant again
vacant_again : (me2 me3 : BufferSeat) (slot : ℕ) (own : Latest) → me2.1 ≡ (slot, Some own) ∷ [] → me3 ≡ (me2.0, (slot, None) ∷ rest me2.1) → me3.1 ≡ (slot, None) ∷ []
vacant_again me2 me3 slot own has left = ap (λ (m : BufferSeat). m.1) left ∙ ap (λ (l : List (ℕ × Option Latest)). (slot, None) ∷ rest l) has

-- the place is there to be taken out of
pub there : (xs : List (ℕ × Option Latest)) (slot : ℕ) (own : Latest) → xs ≡ (slot, Some own) ∷ [] → xs ≡ (slot, Some own) ∷ rest xs
there xs slot own is = is ∙ ap (λ (l : List (ℕ × Option Latest)). (slot, Some own) ∷ rest l) (sym is)

pub may_publish : (longest slots id slot : ℕ) (me : BufferSeat) → MaySend longest me slot → May longest slots id me (λ _. slot + 4) (published (step slots 0 (slot + 4) 0 none) me)
may_publish longest slots id slot me i = send_at longest slots id me (writer_in me.0) slot i.own (λ j. (i.view j, i.holds j)) i.place i.room i.number i.entered

pub sent : (longest slot found : ℕ) (me me1 : BufferSeat) (i : MaySend longest me slot) → published any_step me found me1 → IsPublishedBy longest me me1 i.own (place_of_word found)
sent longest slot found me me1 i told = let t = told slot i.own i.holds in record {
  view = t.1;
  below = t.3;
  own = t.0;
  holds = t.2;
  room = t.4 ∙ i.longest_is;
}

pub may_take : (longest slots id slot : ℕ) (has : Option Latest) (me me1 : BufferSeat) → MayReceive longest me slot has → me1 ≡ (me.0, (slot, has) ∷ rest me.1)
    → May longest slots id me1 (λ _. slot) (taken (step slots 0 slot 0 none) me1)
may_take longest slots id slot has me me1 i put =
    let put' : me1 ≡ (me.0, (slot, Some i.own) ∷ rest me.1) = put ∙ ap (λ (x : Option Latest). (me.0, (slot, x) ∷ rest me.1)) i.has_own in
    receive_at longest slots id me1 (reader_in me.0) slot i.own (placed me me1 _ slot i.own i.view i.vacant put') i.place i.room i.newer i.entered

pub received : (longest slot found : ℕ) (has back : Option Latest) (me me1 me2 me3 : BufferSeat) → MayReceive longest me slot has → me1 ≡ (me.0, (slot, has) ∷ rest me.1)
    → taken any_step me1 found me2 → me2.1 ≡ (place_of_word found, back) ∷ rest me2.1 → me3 ≡ (me2.0, (place_of_word found, None) ∷ rest me2.1) → IsReceived longest me me3 (place_of_word found) back
received longest slot found has back me me1 me2 me3 i put told out left =
    let same : reader_in me1.0 ≡ reader_in me.0 = ap (λ (m : BufferSeat). reader_in m.0) put in record {
      all = told.0;
      view = ap (λ (m : BufferSeat). m.0) left ∙ told.2 ∙ ap (λ (r : ReaderView). Reads (takes r told.0 (place_of_word found))) same;
      below = told.4;
      vacant = vacant_again me2 me3 _ told.1 told.3 left;
      own = told.1;
      has_own = took back me2.1 _ told.1 out told.3;
      room = told.5 ∙ ap (λ (r : ReaderView). r.longest) same ∙ i.longest_is;
      last = told.6;
      known = subst (λ (r : ReaderView). StartsWith told.0 r.known) same told.7;
      more = subst (λ (r : ReaderView). length r.seen < length told.0) same told.8;
    }

-- ---- the opening

pub writer_entering : (longest : ℕ) (me me1 : BufferSeat) → me ≡ (Writes (writer_at_first longest), []) → writer_enters any_step me 0 me1
    → (own : Latest) × (me1.0 ≡ Writes (record (writer_at_first longest) { has = true })) × (me1.1 ≡ (0, Some own) ∷ []) × HasRoom longest own
writer_entering longest me me1 is told = subst (λ (y : BufferSeat). writer_enters any_step y 0 me1) is told

pub entered_writer : (longest : ℕ) (me me1 : BufferSeat) → me ≡ (Writes (writer_at_first longest), []) → writer_enters any_step me 0 me1 → IsWriter me1 0 longest 0
entered_writer longest me me1 is told =
    let t = writer_entering longest me me1 is told in record {
      view = t.1 ∙ sym (ap (λ (z : SeatView). Writes (writer_in z)) t.1);
      place = ap (λ (z : SeatView). (writer_in z).slot) t.1;
      below = omega arith;
      longest_is = ap (λ (z : SeatView). (writer_in z).longest) t.1;
      entered = ap (λ (z : SeatView). (writer_in z).has) t.1;
      own = t.0;
      holds = t.2;
      room = t.3;
      count_is = sym (ap (λ (z : SeatView). length (writer_in z).published) t.1);
    }

pub reader_entering : (longest : ℕ) (me me1 : BufferSeat) → me ≡ (Reads (reader_at_first longest), []) → reader_enters any_step me 0 me1
    → (own : Latest) × (me1.0 ≡ Reads (record (reader_at_first longest) { has = true })) × (me1.1 ≡ (2, Some own) ∷ []) × HasRoom longest own × IsLastOf own []
reader_entering longest me me1 is told = subst (λ (y : BufferSeat). reader_enters any_step y 0 me1) is told

pub entered_reader : (longest : ℕ) (back : Option Latest) (me me1 me2 : BufferSeat) → me ≡ (Reads (reader_at_first longest), []) → reader_enters any_step me 0 me1
    → me1.1 ≡ (2, back) ∷ rest me1.1 → me2 ≡ (me1.0, (2, None) ∷ rest me1.1) → IsReaderSeat me2 2 longest back
entered_reader longest back me me1 me2 is told out left =
    let t = reader_entering longest me me1 is told in
    let view : me2.0 ≡ Reads (record (reader_at_first longest) { has = true }) = ap (λ (m : BufferSeat). m.0) left ∙ t.1 in record {
      view = view ∙ sym (ap (λ (z : SeatView). Reads (reader_in z)) view);
      place = ap (λ (z : SeatView). (reader_in z).slot) view;
      below = omega arith;
      longest_is = ap (λ (z : SeatView). (reader_in z).longest) view;
      entered = ap (λ (z : SeatView). (reader_in z).has) view;
      vacant = vacant_again me1 me2 2 t.0 t.2 left;
      own = t.0;
      has_own = took back me1.1 2 t.0 out t.2;
      room = t.3;
      last = subst (λ (l : List Message). IsLastOf t.0 l) (sym (ap (λ (z : SeatView). (reader_in z).seen) view)) t.4;
      seen = subst (λ (r : ReaderView). StartsWith r.known r.seen) (sym (ap reader_in view)) (starts_same []);
    }
