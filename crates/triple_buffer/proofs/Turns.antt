-- Each step at the three buffers keeps their rule.
use Rattle.std.proofs.Common.{◌≡◌, ◌≢◌, ℕ, ◌+◌, ◌<◌, ◌≤◌, ◌⊎◌, inl, inr, ⊎_elim, true, false, List, [], ◌∷◌, ◌++◌, length, get_or, set, sym, refl, ap, ◌∙◌, subst, arith, length-set, get_or-set_same, append_assoc, append-nil, length-append, Bool, Option, Some, None}
use Rattle.std.proofs.lemmas.Bool.{cases_lt}
use Rattle.std.proofs.lemmas.List.{set-get_or}
use mathlib.Core.Option as maybe
use mathlib.Core.Option.{some, none}
use lib.ListN.{get_elem?}
use Rattle.atomic_table.specs.Table as table
use Rattle.atomic_table.specs.Table.{keeps, takes, gives, chain, step, Allows, Valid}
use Rattle.atomic_table.proofs.Lists.{at_set, set_here, set_else}
use Rattle.es_base.specs.declared.event.Message.{Message}
use Rattle.triple_buffer.specs.declared.latest.Latest.{Latest}
use Rattle.triple_buffer.specs.declared.rule.WriterView.{WriterView}
use Rattle.triple_buffer.specs.declared.rule.ReaderView.{ReaderView}
use Rattle.triple_buffer.specs.declared.rule.SeatView.{SeatView}
use Rattle.triple_buffer.specs.declared.rule.SeatView.TheVariants.{Writes, Reads, Meets, Spent}
use Rattle.triple_buffer.specs.Rule.{HasRoom, KnowsItsEnd, KeptBuffers, LawfulBuffers, StartsWith, message_in, place_of_word}
use Rattle.triple_buffer.specs.Plays.{BufferSeat, with_known, looked, published, writer_publishes, reader_enters, sees_all, sees_newer, taken, reader_learns, writer_enters}
use Rattle.triple_buffer.specs.Plays.{takes as takes_all}

abbrev pub T : Type 0
T = table.State (Option Latest) SeatView

abbrev pub Homes : Type 0
Homes = List (maybe.Option (Option Latest))

pub starts_trans : (all seen before : List Message) → StartsWith all seen → StartsWith seen before → StartsWith all before
starts_trans all seen before a b = (b.0 ++ a.0, a.1 ∙ ap (λ (l : List Message). l ++ a.0) b.1 ∙ append_assoc before b.0 a.0)

pub starts_same : (all : List Message) → StartsWith all all
starts_same all = ([], sym (append-nil all))

pub starts_size : (all first : List Message) → StartsWith all first → length first ≤ length all
starts_size all first a = let size = ap (λ (l : List Message). length l) a.1 ∙ length-append first a.0 in omega (arith, size)

not_both : {A : Type 0} (b : Bool) → b ≡ true → b ≡ false → A
not_both b t f = absurd (cc)

-- ---- the rule over plain values

module _ (longest n : ℕ) (hs : Homes) (w : WriterView) (r : ReaderView) (l : LawfulBuffers longest n hs w r) where
  -- the homes after a swap: this end's buffer is there now, and the one between the ends isn't
  abbrev pub swapped : ℕ → Latest → Homes
  swapped slot own = set (set hs slot (some (Some own))) (place_of_word n) none

  pub still : (slot : ℕ) (own : Latest) → slot ≢ place_of_word n → get_elem? (set hs slot (some (Some own))) (place_of_word n) ≡ some (some (Some l.latest))
  still slot own ne = set_else hs slot (place_of_word n) (some (Some own)) (λ e. ne (sym e)) ∙ l.home

  swapped_here : (slot : ℕ) (own : Latest) → slot < 3 → slot ≢ place_of_word n → get_elem? (swapped slot own) slot ≡ some (some (Some own))
  swapped_here slot own low ne = set_else (set hs slot (some (Some own))) (place_of_word n) slot none ne ∙ set_here hs slot (some (Some own)) (let c = l.count in omega (arith, c, low))

  swapped_else : (slot other : ℕ) (own : Latest) → other ≢ slot → other ≢ place_of_word n → get_elem? (swapped slot own) other ≡ get_elem? hs other
  swapped_else slot other own a b = set_else (set hs slot (some (Some own))) (place_of_word n) other none b ∙ set_else hs slot other (some (Some own)) a

  swapped_count : (slot : ℕ) (own : Latest) → length (swapped slot own) ≡ 3
  swapped_count slot own = length-set (set hs slot (some (Some own))) (place_of_word n) none ∙ length-set hs slot (some (Some own)) ∙ l.count

  pub publish_keeps : (own : Latest) → HasRoom longest own → own.number ≡ length w.published + 1 → w.has ≡ true
      → LawfulBuffers longest (w.slot + 4) (swapped w.slot own) (writer_publishes w (message_in own) (place_of_word n)) r
  publish_keeps own room number entered =
      let low = l.places.1 in
      let is : place_of_word (w.slot + 4) ≡ w.slot = omega (arith, low) in
      let all = w.published ++ message_in own ∷ [] in
      record {
        count = swapped_count w.slot own;
        places = (omega (arith, low, is), l.places.0, l.places.2);
        apart = ((λ e. l.apart.0 (sym is ∙ sym e)), (λ e. l.apart.2 (sym is ∙ sym e)), (λ e. l.apart.1 (sym e)));
        longest_is = l.longest_is;
        latest = own;
        home = subst (λ (k : ℕ). get_elem? (swapped w.slot own) k ≡ some (some (Some own))) (sym is) (swapped_here w.slot own low l.apart.0);
        room = room;
        newest = λ _. record { number = number ∙ sym (length-append w.published (message_in own ∷ [])); last = λ _. (w.published, refl) };
        all_seen = λ h. absurd (omega (arith, h));
        fresh = λ _.
            let one_more = length-append w.published (message_in own ∷ []) in
            let known = starts_size w.published r.known l.known in let seen = starts_size r.known r.seen l.seen in
            omega (arith, one_more, known, seen);
        known = starts_trans all w.published r.known (message_in own ∷ [], refl) l.known;
        seen = l.seen;
        newer = λ _. omega arith;
        writers = λ h. not_both w.has entered h;
        readers = λ h. let o = l.readers h in (o.0, swapped_else w.slot r.slot own (λ e. l.apart.2 (sym e)) l.apart.1 ∙ o.1, o.2, o.3);
      }

  pub take_keeps : (own : Latest) → HasRoom longest own → r.has ≡ true → LawfulBuffers longest r.slot (swapped r.slot own) w (takes_all r w.published (place_of_word n))
  take_keeps own room entered =
      let low = l.places.2 in
      let is : place_of_word r.slot ≡ r.slot = omega (arith, low) in
      record {
        count = swapped_count r.slot own;
        places = (omega (arith, low, is), l.places.1, l.places.0);
        apart = ((λ e. l.apart.2 (e ∙ is)), (λ e. l.apart.1 (sym is ∙ sym e)), l.apart.0);
        longest_is = l.longest_is;
        latest = own;
        home = subst (λ (k : ℕ). get_elem? (swapped r.slot own) k ≡ some (some (Some own))) (sym is) (swapped_here r.slot own low l.apart.1);
        room = room;
        newest = λ h. absurd (omega (arith, h, low));
        all_seen = λ _. refl;
        fresh = λ h. absurd (omega (arith, h, low));
        known = starts_same w.published;
        seen = starts_same w.published;
        newer = λ h. not_both false h refl;
        writers = λ h. let o = l.writers h in (o.0, swapped_else r.slot w.slot own l.apart.2 l.apart.0 ∙ o.1, o.2);
        readers = λ h. not_both r.has entered h;
      }

  pub newer_keeps : 4 ≤ n → LawfulBuffers longest n hs w (sees_newer r)
  newer_keeps more = record {
    count = l.count;
    places = l.places;
    apart = l.apart;
    longest_is = l.longest_is;
    latest = l.latest;
    home = l.home;
    room = l.room;
    newest = l.newest;
    all_seen = l.all_seen;
    fresh = l.fresh;
    known = l.known;
    seen = l.seen;
    newer = λ _. more;
    writers = l.writers;
    readers = l.readers;
  }

  -- the reader knows these messages to be published, after these looks and so many steps
  pub known_keeps : (all : List Message) (looks : List Bool) (steps : ℕ) → StartsWith w.published all → StartsWith all r.seen
      → LawfulBuffers longest n hs w (record (with_known r all) { looks = looks; steps = steps })
  known_keeps all looks steps begins seen = record {
    count = l.count;
    places = l.places;
    apart = l.apart;
    longest_is = l.longest_is;
    latest = l.latest;
    home = l.home;
    room = l.room;
    newest = l.newest;
    all_seen = l.all_seen;
    fresh = l.fresh;
    known = begins;
    seen = seen;
    newer = l.newer;
    writers = l.writers;
    readers = l.readers;
  }

  pub writer_enters_keeps : LawfulBuffers longest n (set hs w.slot none) (record w { has = true }) r
  writer_enters_keeps = record {
    count = length-set hs w.slot none ∙ l.count;
    places = l.places;
    apart = l.apart;
    longest_is = l.longest_is;
    latest = l.latest;
    home = set_else hs w.slot (place_of_word n) none (λ e. l.apart.0 (sym e)) ∙ l.home;
    room = l.room;
    newest = l.newest;
    all_seen = l.all_seen;
    fresh = l.fresh;
    known = l.known;
    seen = l.seen;
    newer = l.newer;
    writers = λ h. not_both true refl h;
    readers = λ h. let o = l.readers h in (o.0, set_else hs w.slot r.slot none (λ e. l.apart.2 (sym e)) ∙ o.1, o.2, o.3);
  }

  pub reader_enters_keeps : LawfulBuffers longest n (set hs r.slot none) w (record r { has = true })
  reader_enters_keeps = record {
    count = length-set hs r.slot none ∙ l.count;
    places = l.places;
    apart = l.apart;
    longest_is = l.longest_is;
    latest = l.latest;
    home = set_else hs r.slot (place_of_word n) none (λ e. l.apart.1 (sym e)) ∙ l.home;
    room = l.room;
    newest = l.newest;
    all_seen = l.all_seen;
    fresh = l.fresh;
    known = l.known;
    seen = l.seen;
    newer = l.newer;
    writers = λ h. let o = l.writers h in (o.0, set_else hs r.slot w.slot none l.apart.2 ∙ o.1, o.2);
    readers = λ h. not_both true refl h;
  }

-- ---- the rule over seats

module _ (longest : ℕ) (s : T) (k : KeptBuffers longest s) (id : ℕ) where
  -- what the seat knows becomes x; the writer's view changes only if it is the writer's seat, and the reader's too
  pub turns : (w : WriterView) (r : ReaderView) (ws : List ℕ) (hs : Homes) (x : SeatView)
      → (w ≡ k.writer) ⊎ (id ≡ k.writer_seat) → (r ≡ k.reader) ⊎ (id ≡ k.reader_seat)
      → KnowsItsEnd w r k.writer_seat k.reader_seat id x → length ws ≡ 1 → LawfulBuffers longest (get_or ws 0 0) hs w r
      → KeptBuffers longest (record { words = ws; homes = hs; views = set s.views id x })
  turns w r ws hs x ws_is rs_is me one ok =
      let to_w : (j : ℕ) → j ≢ id → (v : WriterView) → v ≡ k.writer → j ≡ k.writer_seat → v ≡ w = λ j ne v h at. ⊎_elim (λ (e : w ≡ k.writer). h ∙ sym e) (λ (mine : id ≡ k.writer_seat). absurd (ne (at ∙ sym mine))) ws_is in
      let to_r : (j : ℕ) → j ≢ id → (u : ReaderView) → u ≡ k.reader → j ≡ k.reader_seat → u ≡ r = λ j ne u h at. ⊎_elim (λ (e : r ≡ k.reader). h ∙ sym e) (λ (mine : id ≡ k.reader_seat). absurd (ne (at ∙ sym mine))) rs_is in
      let others : (j : ℕ) → j ≢ id → (u : SeatView) → KnowsItsEnd k.writer k.reader k.writer_seat k.reader_seat j u → KnowsItsEnd w r k.writer_seat k.reader_seat j u = λ j ne. elim [
        | Writes v ↦ λ h. (to_w j ne v h.0 h.1, h.1)
        | Reads u ↦ λ h. (to_r j ne u h.0 h.1, h.1)
        | Meets v u ↦ λ h. ((to_w j ne v h.0.0 h.0.1, h.0.1), (to_r j ne u h.1.0 h.1.1, h.1.1))
        | Spent ↦ λ h. tt
      ] in record {
        writer = w;
        reader = r;
        writer_seat = k.writer_seat;
        reader_seat = k.reader_seat;
        one = one;
        lawful = ok;
        seats = λ j u e. ⊎_elim
            (λ (t : (j ≡ id) × (x ≡ u)). subst (λ (z : SeatView). KnowsItsEnd w r k.writer_seat k.reader_seat j z) t.1 (subst (λ (i : ℕ). KnowsItsEnd w r k.writer_seat k.reader_seat i x) (sym t.0) me))
            (λ (t : (j ≢ id) × (get_elem? s.views j ≡ some u)). others j t.0 u (k.seats j u t.1))
            (at_set s.views id j x u e);
      }

  -- the word is set to m
  abbrev pub Sets : ℕ → Homes → SeatView → Type 0
  Sets m hs x = KeptBuffers longest (record { words = set s.words 0 m; homes = hs; views = set s.views id x })

  now_is : (m : ℕ) → get_or (set s.words 0 m) 0 0 ≡ m
  now_is m = get_or-set_same s.words 0 m 0 (let o = k.one in omega (arith, o))

  module _ (w : WriterView) (at : get_elem? s.views id ≡ some (Writes w)) where
    pub writer_lawful : LawfulBuffers longest (get_or s.words 0 0) s.homes w k.reader
    writer_lawful = subst (λ (z : WriterView). LawfulBuffers longest (get_or s.words 0 0) s.homes z k.reader) (sym (k.seats id (Writes w) at).0) k.lawful

    pub writer_turns : (m : ℕ) (w' : WriterView) (hs : Homes) → LawfulBuffers longest m hs w' k.reader → Sets m hs (Writes w')
    writer_turns m w' hs ok = let mine = (k.seats id (Writes w) at).1 in
        turns w' k.reader _ hs (Writes w') (inr mine) (inl refl) (refl, mine) (length-set s.words 0 m ∙ k.one) (subst (λ (z : ℕ). LawfulBuffers longest z hs w' k.reader) (sym (now_is m)) ok)

  module _ (r : ReaderView) (at : get_elem? s.views id ≡ some (Reads r)) where
    pub reader_lawful : LawfulBuffers longest (get_or s.words 0 0) s.homes k.writer r
    reader_lawful = subst (λ (z : ReaderView). LawfulBuffers longest (get_or s.words 0 0) s.homes k.writer z) (sym (k.seats id (Reads r) at).0) k.lawful

    pub reader_turns : (m : ℕ) (r' : ReaderView) (hs : Homes) → LawfulBuffers longest m hs k.writer r' → Sets m hs (Reads r')
    reader_turns m r' hs ok = let mine = (k.seats id (Reads r) at).1 in
        turns k.writer r' _ hs (Reads r') (inl refl) (inr mine) (refl, mine) (length-set s.words 0 m ∙ k.one) (subst (λ (z : ℕ). LawfulBuffers longest z hs k.writer r') (sym (now_is m)) ok)

-- ---- each step

abbrev message_or : Latest → Option Latest → Message
message_or other None = message_in other
message_or other (Some latest) = message_in latest

-- the message in the first of these places
abbrev first_of : Latest → List (ℕ × Option Latest) → Message
first_of other [] = message_in other
first_of other (c ∷ cs) = message_or other c.1

module _ (longest slots id : ℕ) where
  abbrev pub May : BufferSeat → (ℕ → ℕ) → (ℕ → BufferSeat → Type 0) → Type 0
  May me f then = Allows (KeptBuffers longest) slots id me 0 f then

  send_allowed : (w : WriterView) (own : Latest) → HasRoom longest own → own.number ≡ length w.published + 1 → w.has ≡ true
      → May (Writes w, (w.slot, Some own) ∷ []) (λ _. w.slot + 4) (published (step slots 0 (w.slot + 4) 0 none) (Writes w, (w.slot, Some own) ∷ []))
  send_allowed w own room number entered s k _ mine _ =
      let n = get_or s.words 0 0 in
      let l = writer_lawful longest s k id w mine in (
        Writes (writer_publishes w (message_in own) (place_of_word n)),
        chain gives (takes (place_of_word n) (Some l.latest)),
        (tt, still longest n s.homes w k.reader l w.slot own l.apart.0),
        writer_turns longest s k id w mine (w.slot + 4) _ _ (publish_keeps longest n s.homes w k.reader l own room number entered),
        λ slot o is. (l.latest, ap (λ (c : List (ℕ × Option Latest)). Writes (writer_publishes w (first_of own c) (place_of_word n))) is, refl, l.places.0, l.room ∙ sym l.longest_is.0),
      )

  pub send_at : (me : BufferSeat) (w : WriterView) (slot : ℕ) (own : Latest) → me ≡ (Writes w, (slot, Some own) ∷ []) → w.slot ≡ slot → HasRoom longest own → own.number ≡ length w.published + 1 → w.has ≡ true
      → May me (λ _. slot + 4) (published (step slots 0 (slot + 4) 0 none) me)
  send_at me w slot own is place room number entered =
      subst (λ (y : BufferSeat). May y (λ _. slot + 4) (published (step slots 0 (slot + 4) 0 none) y)) (sym is)
      (subst (λ (z : ℕ). May (Writes w, (z, Some own) ∷ []) (λ _. z + 4) (published (step slots 0 (z + 4) 0 none) (Writes w, (z, Some own) ∷ []))) place (send_allowed w own room number entered))

  receive_allowed : (r : ReaderView) (own : Latest) → HasRoom longest own → r.newer ≡ true → r.has ≡ true
      → May (Reads r, (r.slot, Some own) ∷ []) (λ _. r.slot) (taken (step slots 0 r.slot 0 none) (Reads r, (r.slot, Some own) ∷ []))
  receive_allowed r own room newer entered s k _ mine _ =
      let n = get_or s.words 0 0 in
      let l = reader_lawful longest s k id r mine in (
        Reads (takes_all r k.writer.published (place_of_word n)),
        chain gives (takes (place_of_word n) (Some l.latest)),
        (tt, still longest n s.homes k.writer r l r.slot own l.apart.1),
        reader_turns longest s k id r mine r.slot _ _ (take_keeps longest n s.homes k.writer r l own room entered),
        (k.writer.published, l.latest, refl, refl, l.places.0, l.room ∙ sym l.longest_is.1, l.newest (l.newer newer), l.known, l.fresh (l.newer newer)),
      )

  pub receive_at : (me : BufferSeat) (r : ReaderView) (slot : ℕ) (own : Latest) → me ≡ (Reads r, (slot, Some own) ∷ []) → r.slot ≡ slot → HasRoom longest own → r.newer ≡ true → r.has ≡ true
      → May me (λ _. slot) (taken (step slots 0 slot 0 none) me)
  receive_at me r slot own is place room newer entered =
      subst (λ (y : BufferSeat). May y (λ _. slot) (taken (step slots 0 slot 0 none) y)) (sym is)
      (subst (λ (z : ℕ). May (Reads r, (z, Some own) ∷ []) (λ _. z) (taken (step slots 0 z 0 none) (Reads r, (z, Some own) ∷ []))) place (receive_allowed r own room newer entered))

  look_allowed : (r : ReaderView) (c : List (ℕ × Option Latest)) → May (Reads r, c) (λ x. x) (looked (step slots 0 0 0 none) (Reads r, c))
  look_allowed r c s k _ mine _ =
      let n = get_or s.words 0 0 in
      let l = reader_lawful longest s k id r mine in
      let Z : Type 0 = (x : SeatView) × (a : table.Act (Option Latest)) × Valid s.homes c a × KeptBuffers longest (table.stepped s 0 n id c x a) × looked (step slots 0 0 0 none) (Reads r, c) n (x, table.carried_after c a) in
      let all : n < 4 → Z = λ less. let same = l.all_seen less in let begins : StartsWith r.seen r.known = subst (λ (z : List Message). StartsWith z r.known) (sym same) l.known in (
        Reads (sees_all r),
        keeps,
        tt,
        reader_turns longest s k id r mine n _ _ (known_keeps longest n s.homes k.writer r l r.seen (r.looks ++ false ∷ []) (r.steps + 1) (subst (λ (z : List Message). StartsWith z r.seen) same (starts_same r.seen)) (starts_same r.seen)),
        (refl, (λ more. absurd (omega (arith, less, more))), λ _. (refl, begins)),
      ) in
      let more : 4 ≤ n → Z = λ more. (
        Reads (sees_newer r),
        keeps,
        tt,
        reader_turns longest s k id r mine n _ _ (newer_keeps longest n s.homes k.writer r l more),
        (refl, (λ _. refl), λ less. absurd (omega (arith, less, more))),
      ) in ⊎_elim all more (cases_lt n 4)

  pub look_at : (me : BufferSeat) (r : ReaderView) → me.0 ≡ Reads r → May me (λ x. x) (looked (step slots 0 0 0 none) me)
  look_at me r is = subst (λ (y : SeatView). May (y, me.1) (λ x. x) (looked (step slots 0 0 0 none) (y, me.1))) (sym is) (look_allowed r me.1)

  writer_enters_allowed : (w : WriterView) → w.has ≡ false → May (Writes w, []) (λ x. x) (writer_enters (step slots 0 0 0 none) (Writes w, []))
  writer_enters_allowed w outside s k _ mine _ =
      let n = get_or s.words 0 0 in
      let l = writer_lawful longest s k id w mine in
      let o = l.writers outside in (
        Writes (record w { has = true }),
        takes w.slot (Some o.0),
        o.1,
        writer_turns longest s k id w mine n _ _ (writer_enters_keeps longest n s.homes w k.reader l),
        (o.0, refl, refl, o.2 ∙ sym l.longest_is.0),
      )

  pub writer_enters_at : (me : BufferSeat) (w : WriterView) → me ≡ (Writes w, []) → w.has ≡ false → May me (λ x. x) (writer_enters (step slots 0 0 0 none) me)
  writer_enters_at me w is outside = subst (λ (y : BufferSeat). May y (λ x. x) (writer_enters (step slots 0 0 0 none) y)) (sym is) (writer_enters_allowed w outside)

  reader_enters_allowed : (r : ReaderView) → r.has ≡ false → May (Reads r, []) (λ x. x) (reader_enters (step slots 0 0 0 none) (Reads r, []))
  reader_enters_allowed r outside s k _ mine _ =
      let n = get_or s.words 0 0 in
      let l = reader_lawful longest s k id r mine in
      let o = l.readers outside in (
        Reads (record r { has = true }),
        takes r.slot (Some o.0),
        o.1,
        reader_turns longest s k id r mine n _ _ (reader_enters_keeps longest n s.homes k.writer r l),
        (o.0, refl, refl, o.2 ∙ sym l.longest_is.1, o.3),
      )

  pub reader_enters_at : (me : BufferSeat) (r : ReaderView) → me ≡ (Reads r, []) → r.has ≡ false → May me (λ x. x) (reader_enters (step slots 0 0 0 none) me)
  reader_enters_at me r is outside = subst (λ (y : BufferSeat). May y (λ x. x) (reader_enters (step slots 0 0 0 none) y)) (sym is) (reader_enters_allowed r outside)

  tell_allowed : (w : WriterView) (r : ReaderView) (c : List (ℕ × Option Latest)) → May (Meets w r, c) (λ x. x) (reader_learns (step slots 0 0 0 none) (Meets w r, c))
  tell_allowed w r c s k _ mine _ =
      let n = get_or s.words 0 0 in
      let me = k.seats id (Meets w r) mine in
      let l : LawfulBuffers longest n s.homes w r = subst (λ (z : WriterView). LawfulBuffers longest n s.homes z r) (sym me.0.0) (subst (λ (z : ReaderView). LawfulBuffers longest n s.homes k.writer z) (sym me.1.0) k.lawful) in
      let ok = known_keeps longest n s.homes w r l w.published r.looks r.steps (starts_same w.published) (starts_trans w.published r.known r.seen l.known l.seen) in (
        Meets w (with_known r w.published),
        keeps,
        tt,
        turns longest s k id w (with_known r w.published) _ _ (Meets w (with_known r w.published)) (inl me.0.0) (inr me.1.1) ((refl, me.0.1), (refl, me.1.1)) (length-set s.words 0 n ∙ k.one)
            (subst (λ (z : List ℕ). LawfulBuffers longest (get_or z 0 0) s.homes w (with_known r w.published)) (sym (set-get_or s.words 0 0)) ok),
        (refl, refl, l.known),
      )

  pub tell_at : (me : BufferSeat) (w : WriterView) (r : ReaderView) → me.0 ≡ Meets w r → May me (λ x. x) (reader_learns (step slots 0 0 0 none) me)
  tell_at me w r is = subst (λ (y : SeatView). May (y, me.1) (λ x. x) (reader_learns (step slots 0 0 0 none) (y, me.1))) (sym is) (tell_allowed w r me.1)
