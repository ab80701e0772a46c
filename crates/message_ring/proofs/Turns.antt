-- Each step at the slots keeps their rule.
use Rattle.std.proofs.Common.{◌≡◌, ◌≢◌, ℕ, ◌+◌, ◌<◌, ◌≤◌, ◌⊎◌, inl, inr, ⊎_elim, true, false, List, [], ◌∷◌, ◌++◌, length, get_or, set, sym, refl, ap, ◌∙◌, subst, arith, length-set, length-append, Bool, Some}
use Rattle.std.specs.List.{slice_get}
use Rattle.std.proofs.lemmas.Bool.{cases_lt}
use Rattle.std.proofs.lemmas.List.{set-get_or}
use Rattle.std.proofs.lemmas.Option.{same_Some, slice_get_within}
use Rattle.std.proofs.Math.Nat.{add-mod_right, mod-lt}
use mathlib.Core.Option as maybe
use mathlib.Core.Option.{some, none}
use mathlib.Core.Logic.{dite}
use native.Mathlib.Decide.{ℕ_discrete}
use lib.ListN.{get_elem?}
use Rattle.atomic_table.specs.Table as table
use Rattle.atomic_table.specs.Table.{chain, keeps, takes, gives, Allows, Valid}
use Rattle.atomic_table.proofs.Lists.{at_set, set_here, set_else}
use Rattle.message_ring.specs.declared.rule.QueuedMessage.{QueuedMessage as Message}
use Rattle.message_ring.specs.Queue.{BeginsWith}
use Rattle.es_base.proofs.Elements.{slice_get-push}
use Rattle.message_ring.specs.declared.slot.Slot.{Slot}
use Rattle.message_ring.specs.declared.rule.QueueView.{QueueView}
use Rattle.message_ring.specs.declared.rule.SeatView.{SeatView}
use Rattle.message_ring.specs.declared.rule.SeatView.TheVariants.{Puts, Takes, Meets, Spent}
use Rattle.message_ring.specs.Rule.{IsInPlace, IsRoomy, KeptQueue, KnowsItsQueue, LawfulQueue, in_slot, slot_for, slot_of_number, wrapped}
use Rattle.message_ring.specs.Plays.{QueueSeat, ends_learn, putter_enters, putter_looks, putter_puts, putter_starts, puts_one, sees_none, sees_put, sees_start, sees_taken, started, counts_put, taker_counts, taker_enters, taker_looks, taker_reads_start, taker_takes, takes_one, told_put, told_taken, with_slot_taken}
use Rattle.message_ring.specs.Ends.{IsOutside}
use Rattle.message_ring.proofs.Lists.{around, begins_get, begins_length, begins_same, begins_trans, next_of, one_slot, push_other}

abbrev pub T : Type 0
T = table.State Slot SeatView

abbrev pub Homes : Type 0
Homes = List (maybe.Option Slot)

not_both : {A : Type 0} (b : Bool) → b ≡ true → b ≡ false → A
not_both b t f = absurd (cc)

-- ---- the rule over plain values

-- a slot of another number changed
stays : (hs : Homes) (p : QueueView) (low changed number : ℕ) (x : maybe.Option Slot) → low ≤ changed → changed < low + p.depth → low ≤ number → number < low + p.depth → number ≢ changed
    → IsInPlace hs p number → IsInPlace (set hs (slot_of_number p changed) x) p number
stays hs p low changed number x from to from' to' ne is = record {
  slot = is.slot;
  home = set_else hs (slot_of_number p changed) (slot_of_number p number) x (λ e. ne (one_slot p.start low p.depth number changed from' to' from to e)) ∙ is.home;
  room = is.room;
  message = is.message;
}

module _ (ws : List ℕ) (hs : Homes) (p t : QueueView) (l : LawfulQueue ws hs p t) where
  taken_put : length t.taken ≤ length p.put
  taken_put = let a = begins_length t.taken t.put l.taken in let b = begins_length t.put p.put l.put in omega (arith, a, b)

  -- a slot of another number changed
  still : (changed number : ℕ) (x : maybe.Option Slot) (put taken : List Message) (has : Bool) (looks : ℕ)
      → length t.taken ≤ changed → changed < length t.taken + p.depth → length t.taken ≤ number → number < length t.taken + p.depth → number ≢ changed
      → ((message : Message) → slice_get put number ≡ Some message → slice_get p.put number ≡ Some message)
      → IsInPlace hs p number → IsInPlace (set hs (slot_of_number p changed) x) (record p { put = put; taken = taken; has = has; looks = looks }) number
  still changed number x put taken has looks low high low' high' ne here is = let s = stays hs p (length t.taken) changed number x low high low' high' ne is in record {
    slot = s.slot;
    home = s.home;
    room = s.room;
    message = λ message at. s.message message (here message at);
  }

  below : (number : ℕ) → slot_of_number p number < length hs
  below number = let less : slot_of_number p number < p.depth = mod-lt (p.start + number) l.some_slot in let c = l.count in omega (arith, less, c)

  pub putter_enters_keeps : length p.put < length p.taken + p.depth → LawfulQueue ws (set hs (slot_of_number p (length p.put)) none) (with_slot_taken p) t
  putter_enters_keeps room =
      let known = begins_length p.taken t.taken l.known in
      let low = taken_put in
      let high : length p.put < length t.taken + p.depth = omega (arith, known, room) in
      record {
        words_are = l.words_are;
        some_slot = l.some_slot;
        most = l.most;
        begins = l.begins;
        count = length-set hs _ none ∙ l.count;
        size = l.size;
        few = l.few;
        put = l.put;
        taken = l.taken;
        known = l.known;
        start = l.start;
        putting = λ _. high;
        taking = l.taking;
        places = λ number from to not_put not_taken.
            still (length p.put) number none p.put p.taken true p.looks low high from to (not_put refl) (λ message at. at)
            (l.places number from to (λ _. not_put refl) not_taken);
      }

  pub puts_keeps : (slot : Slot) → IsRoomy p.max slot → p.has ≡ true
      → LawfulQueue (wrapped (length p.put + 1) ∷ wrapped (length t.taken) ∷ p.start ∷ []) (set hs (slot_of_number p (length p.put)) (some slot)) (puts_one p (in_slot slot)) t
  puts_keeps slot roomy entered =
      let low = taken_put in
      let high = l.putting entered in
      let all : List Message = p.put ++ in_slot slot ∷ [] in
      let long : length all ≡ length p.put + 1 = length-append p.put (in_slot slot ∷ []) in
      let hs' = set hs (slot_of_number p (length p.put)) (some slot) in
      record {
        words_are = ap (λ (n : ℕ). wrapped n ∷ wrapped (length t.taken) ∷ p.start ∷ []) (sym long);
        some_slot = l.some_slot;
        most = l.most;
        begins = l.begins;
        count = length-set hs _ (some slot) ∙ l.count;
        size = l.size;
        few = omega (arith, long, high);
        put = begins_trans t.put p.put all l.put (in_slot slot ∷ [], refl);
        taken = l.taken;
        known = l.known;
        start = l.start;
        putting = λ h. not_both false h refl;
        taking = l.taking;
        places = λ number from to not_put not_taken. dite (ℕ_discrete number (length p.put))
            (λ (e : number ≡ length p.put). record {
              slot = slot;
              home = subst (λ (n : ℕ). get_elem? hs' (slot_of_number p n) ≡ some (some slot)) (sym e) (set_here hs _ (some slot) (below (length p.put)));
              room = roomy;
              message = λ message at. same_Some (in_slot slot) message (sym (ap (slice_get all) e ∙ slice_get-push p.put (in_slot slot)) ∙ at);
            })
            (λ (ne : number ≢ length p.put). still (length p.put) number (some slot) all p.taken false p.looks low high from to ne
            (λ message at. push_other p.put (in_slot slot) number message ne at)
            (l.places number from to (λ _. ne) not_taken));
      }

  -- no message waits, and number 0 is in another slot
  pub starts_keeps : (start : ℕ) → p.has ≡ false → length p.put ≡ length p.taken → start < p.depth
      → LawfulQueue (wrapped (length p.put) ∷ wrapped (length t.taken) ∷ start ∷ []) hs (started p start) t
  starts_keeps start outside empty within =
      let known = begins_length p.taken t.taken l.known in
      let begun = begins_length t.taken t.put l.taken in
      let all = begins_length t.put p.put l.put in
      let begins = l.begins in
      record {
        words_are = refl;
        some_slot = l.some_slot;
        most = l.most;
        begins = within;
        count = l.count;
        size = l.size;
        few = l.few;
        put = l.put;
        taken = l.taken;
        known = l.known;
        start = λ _ more. absurd (omega (arith, more, known, begun, all, empty));
        putting = l.putting;
        taking = l.taking;
        places = λ number from to not_put not_taken.
            let there = around p.depth p.start start (length t.taken) number begins l.some_slot from in
            let is = l.places there.0 there.1 there.2 (λ h. not_both p.has h outside) (λ h. let more = (l.taking h).0 in absurd (omega (arith, more, known, all, empty))) in
            record {
              slot = is.slot;
              home = ap (λ (n : ℕ). get_elem? hs n) (sym there.3) ∙ is.home;
              room = is.room;
              message = λ message at. let short = slice_get_within p.put number message at in absurd (omega (arith, short, from, known, empty));
            };
      }

  pub taker_enters_keeps : length t.taken < length t.put → t.sure ≡ true → LawfulQueue ws (set hs (slot_of_number p (length t.taken)) none) p (with_slot_taken t)
  taker_enters_keeps more sure =
      let some_slot = l.some_slot in
      record {
        words_are = l.words_are;
        some_slot = l.some_slot;
        most = l.most;
        begins = l.begins;
        count = length-set hs _ none ∙ l.count;
        size = l.size;
        few = l.few;
        put = l.put;
        taken = l.taken;
        known = l.known;
        start = l.start;
        putting = l.putting;
        taking = λ _. (more, sure);
        places = λ number from to not_put not_taken.
            still (length t.taken) number none p.put p.taken p.has p.looks (omega arith) (omega (arith, some_slot)) from to (not_taken refl) (λ message at. at)
            (l.places number from to not_put (λ _. not_taken refl));
      }

  pub takes_keeps : (slot : Slot) → IsRoomy p.max slot → t.has ≡ true → slice_get t.put (length t.taken) ≡ Some (in_slot slot)
      → LawfulQueue (wrapped (length p.put) ∷ wrapped (length t.taken + 1) ∷ p.start ∷ []) (set hs (slot_of_number p (length t.taken)) (some slot)) p (takes_one t (in_slot slot))
  takes_keeps slot roomy entered is =
      let some_slot = l.some_slot in
      let few = l.few in
      let all : List Message = t.taken ++ in_slot slot ∷ [] in
      let long : length all ≡ length t.taken + 1 = length-append t.taken (in_slot slot ∷ []) in
      let next = next_of t.taken t.put l.taken (l.taking entered).0 in
      let same : next.0 ≡ in_slot slot = same_Some next.0 (in_slot slot) (sym next.1 ∙ is) in
      let hs' = set hs (slot_of_number p (length t.taken)) (some slot) in
      record {
        words_are = ap (λ (n : ℕ). wrapped (length p.put) ∷ wrapped n ∷ p.start ∷ []) (sym long);
        some_slot = l.some_slot;
        most = l.most;
        begins = l.begins;
        count = length-set hs _ (some slot) ∙ l.count;
        size = l.size;
        few = omega (arith, long, few);
        put = l.put;
        taken = subst (λ (m : Message). BeginsWith t.put (t.taken ++ m ∷ [])) same next.2;
        known = begins_trans p.taken t.taken all l.known (in_slot slot ∷ [], refl);
        start = λ sure more. l.start sure (omega (arith, more, long));
        putting = λ h. let room = l.putting h in omega (arith, long, room);
        taking = λ h. not_both false h refl;
        places = λ number from to not_put not_taken. ⊎_elim
            (λ (less : number < length t.taken + p.depth).
            still (length t.taken) number (some slot) p.put p.taken p.has p.looks (omega arith) (omega (arith, some_slot)) (omega (arith, long, from)) less (λ e. absurd (omega (arith, e, long, from))) (λ message at. at)
            (l.places number (omega (arith, long, from)) less not_put (λ _ e. absurd (omega (arith, e, long, from)))))
            (λ (past : length t.taken + p.depth ≤ number).
            let e : number ≡ length t.taken + p.depth = omega (arith, past, to, long) in
            let on : p.start + number ≡ p.start + length t.taken + p.depth = omega (arith, e) in
            let around : slot_of_number p number ≡ slot_of_number p (length t.taken) = ap (slot_for p.depth) on ∙ add-mod_right (p.start + length t.taken) p.depth in
            record {
              slot = slot;
              home = subst (λ (n : ℕ). get_elem? hs' n ≡ some (some slot)) (sym around) (set_here hs _ (some slot) (below (length t.taken)));
              room = roomy;
              message = λ message at. let within = slice_get_within p.put number message at in absurd (omega (arith, within, few, past));
            })
            (cases_lt number (length t.taken + p.depth));
      }

  -- the putter knows these to be taken
  pub known_taken_keeps : (taken : List Message) (looks : ℕ) → BeginsWith t.taken taken → LawfulQueue ws hs (record p { taken = taken; looks = looks }) t
  known_taken_keeps taken looks known_taken = record {
    words_are = l.words_are;
    some_slot = l.some_slot;
    most = l.most;
    begins = l.begins;
    count = l.count;
    size = l.size;
    few = l.few;
    put = l.put;
    taken = l.taken;
    known = known_taken;
    start = l.start;
    putting = l.putting;
    taking = l.taking;
    places = λ number from to not_put not_taken.
        let is = l.places number from to not_put not_taken in record { slot = is.slot; home = is.home; room = is.room; message = is.message };
  }

  -- The taker knows these to be put. If it has no slot it may have to read where number 0 is, and otherwise knows that.
  pub known_put_keeps : (put : List Message) (looks start : ℕ) (sure : Bool) → BeginsWith p.put put → BeginsWith put t.put → t.has ≡ false
      → (sure ≡ true → length t.taken < length put → start ≡ p.start)
      → LawfulQueue ws hs p (record t { put = put; looks = looks; start = start; sure = sure })
  known_put_keeps put looks start sure known_put more outside is_start = record {
    words_are = l.words_are;
    some_slot = l.some_slot;
    most = l.most;
    begins = l.begins;
    count = l.count;
    size = l.size;
    few = l.few;
    put = known_put;
    taken = begins_trans t.taken t.put put l.taken more;
    known = l.known;
    start = is_start;
    putting = l.putting;
    taking = λ h. not_both t.has h outside;
    places = λ number from to not_put not_taken. l.places number from to not_put not_taken;
  }

-- ---- the rule over seats

module _ (s : T) (k : KeptQueue s) (id : ℕ) where
  -- what the seat knows becomes x; the putter's view changes only if it is the putter's seat, and the taker's too
  pub turns : (p t : QueueView) (ws : List ℕ) (hs : Homes) (x : SeatView)
      → (p ≡ k.putter) ⊎ (id ≡ k.putter_seat) → (t ≡ k.taker) ⊎ (id ≡ k.taker_seat)
      → KnowsItsQueue p t k.putter_seat k.taker_seat id x → LawfulQueue ws hs p t
      → KeptQueue (record { words = ws; homes = hs; views = set s.views id x })
  turns p t ws hs x ps_is ts_is me ok =
      let to_p : (j : ℕ) → j ≢ id → (v : QueueView) → v ≡ k.putter → j ≡ k.putter_seat → v ≡ p = λ j ne v h at. ⊎_elim (λ (e : p ≡ k.putter). h ∙ sym e) (λ (mine : id ≡ k.putter_seat). absurd (ne (at ∙ sym mine))) ps_is in
      let to_t : (j : ℕ) → j ≢ id → (u : QueueView) → u ≡ k.taker → j ≡ k.taker_seat → u ≡ t = λ j ne u h at. ⊎_elim (λ (e : t ≡ k.taker). h ∙ sym e) (λ (mine : id ≡ k.taker_seat). absurd (ne (at ∙ sym mine))) ts_is in
      let others : (j : ℕ) → j ≢ id → (u : SeatView) → KnowsItsQueue k.putter k.taker k.putter_seat k.taker_seat j u → KnowsItsQueue p t k.putter_seat k.taker_seat j u = λ j ne. elim [
        | Puts v ↦ λ h. (to_p j ne v h.0 h.1, h.1)
        | Takes u ↦ λ h. (to_t j ne u h.0 h.1, h.1)
        | Meets v u ↦ λ h. ((to_p j ne v h.0.0 h.0.1, h.0.1), (to_t j ne u h.1.0 h.1.1, h.1.1))
        | Spent ↦ λ h. tt
      ] in record {
        putter = p;
        taker = t;
        putter_seat = k.putter_seat;
        taker_seat = k.taker_seat;
        lawful = ok;
        seats = λ j u e. ⊎_elim
            (λ (h : (j ≡ id) × (x ≡ u)). subst (λ (z : SeatView). KnowsItsQueue p t k.putter_seat k.taker_seat j z) h.1 (subst (λ (i : ℕ). KnowsItsQueue p t k.putter_seat k.taker_seat i x) (sym h.0) me))
            (λ (h : (j ≢ id) × (get_elem? s.views j ≡ some u)). others j h.0 u (k.seats j u h.1))
            (at_set s.views id j x u e);
      }

  -- after a load, or a store
  abbrev pub Goes : List ℕ → Homes → SeatView → Type 0
  Goes ws hs x = KeptQueue (record { words = ws; homes = hs; views = set s.views id x })

  module _ (p : QueueView) (at : get_elem? s.views id ≡ some (Puts p)) where
    pub putter_lawful : LawfulQueue s.words s.homes p k.taker
    putter_lawful = subst (λ (z : QueueView). LawfulQueue s.words s.homes z k.taker) (sym (k.seats id (Puts p) at).0) k.lawful

    putter_turns : (ws ws' : List ℕ) (p' : QueueView) (hs : Homes) → ws' ≡ ws → LawfulQueue ws hs p' k.taker → Goes ws' hs (Puts p')
    putter_turns ws ws' p' hs same ok = let mine = (k.seats id (Puts p) at).1 in
        turns p' k.taker ws' hs (Puts p') (inr mine) (inl refl) (refl, mine) (subst (λ (z : List ℕ). LawfulQueue z hs p' k.taker) (sym same) ok)

  module _ (t : QueueView) (at : get_elem? s.views id ≡ some (Takes t)) where
    pub taker_lawful : LawfulQueue s.words s.homes k.putter t
    taker_lawful = subst (λ (z : QueueView). LawfulQueue s.words s.homes k.putter z) (sym (k.seats id (Takes t) at).0) k.lawful

    taker_turns : (ws ws' : List ℕ) (t' : QueueView) (hs : Homes) → ws' ≡ ws → LawfulQueue ws hs k.putter t' → Goes ws' hs (Takes t')
    taker_turns ws ws' t' hs same ok = let mine = (k.seats id (Takes t) at).1 in
        turns k.putter t' ws' hs (Takes t') (inl refl) (inr mine) (refl, mine) (subst (λ (z : List ℕ). LawfulQueue z hs k.putter t') (sym same) ok)

-- ---- each step

-- the message in the first of these slots
abbrev message_of : Slot → List (ℕ × Slot) → Message
message_of other [] = in_slot other
message_of other (c ∷ cs) = in_slot c.1

module _ (slots id : ℕ) where
  abbrev pub May : QueueSeat → ℕ → (ℕ → ℕ) → (ℕ → QueueSeat → Type 0) → Type 0
  May me word f then = Allows KeptQueue slots id me word f then

  put_enters : (p : QueueView) → IsOutside p → length p.put < length p.taken + p.depth → May (Puts p, []) 0 (λ n. n) (putter_enters (Puts p, []))
  put_enters p outside room s k _ mine _ =
      let l = putter_lawful s k id p mine in
      let known = begins_length p.taken k.taker.taken l.known in
      let place = l.places (length p.put) (taken_put s.words s.homes p k.taker l) (omega (arith, room, known)) (λ h. not_both p.has h outside)
      (λ h e. let more = (l.taking h).0 in let long = begins_length k.taker.put p.put l.put in absurd (omega (arith, more, long, e))) in (
        Puts (with_slot_taken p),
        takes (slot_of_number p (length p.put)) place.slot,
        place.home,
        putter_turns s k id p mine s.words _ _ _ (set-get_or s.words 0 0) (putter_enters_keeps s.words s.homes p k.taker l room),
        (place.slot, refl, place.room),
      )

  pub put_enters_at : (me : QueueSeat) (p : QueueView) → me ≡ (Puts p, []) → IsOutside p → length p.put < length p.taken + p.depth → May me 0 (λ n. n) (putter_enters me)
  put_enters_at me p is outside room = subst (λ (y : QueueSeat). May y 0 (λ n. n) (putter_enters y)) (sym is) (put_enters p outside room)

  put_goes : (p : QueueView) (slot : Slot) → IsRoomy p.max slot → p.has ≡ true
      → May (Puts p, (slot_of_number p (length p.put), slot) ∷ []) 0 (λ _. wrapped (length p.put + 1)) (λ found. putter_puts (Puts p, (slot_of_number p (length p.put), slot) ∷ []) (wrapped (length p.put + 1)))
  put_goes p slot roomy entered s k _ mine _ =
      let l = putter_lawful s k id p mine in (
        Puts (puts_one p (in_slot slot)),
        gives,
        tt,
        putter_turns s k id p mine _ _ _ _ (ap (λ (ws : List ℕ). set ws 0 (wrapped (length p.put + 1))) l.words_are) (puts_keeps s.words s.homes p k.taker l slot roomy entered),
        λ number other is. ap (λ (c : List (ℕ × Slot)). (Puts (puts_one p (message_of slot c)), [])) is,
      )

  pub put_goes_at : (me : QueueSeat) (p : QueueView) (slot : Slot) (count : ℕ) → me ≡ (Puts p, (slot_of_number p (length p.put), slot) ∷ []) → count ≡ wrapped (length p.put + 1) → IsRoomy p.max slot → p.has ≡ true
      → May me 0 (λ _. count) (λ found. putter_puts me count)
  put_goes_at me p slot count is count_is roomy entered =
      subst (λ (y : QueueSeat). May y 0 (λ _. count) (λ found. putter_puts y count)) (sym is)
      (subst (λ (n : ℕ). May (Puts p, (slot_of_number p (length p.put), slot) ∷ []) 0 (λ _. n) (λ found. putter_puts (Puts p, (slot_of_number p (length p.put), slot) ∷ []) n)) (sym count_is) (put_goes p slot roomy entered))

  start_goes : (p : QueueView) (start : ℕ) → IsOutside p → length p.put ≡ length p.taken → start < p.depth → May (Puts p, []) 2 (λ _. start) (λ found. putter_starts (Puts p, []) start)
  start_goes p start outside empty within s k _ mine _ =
      let l = putter_lawful s k id p mine in (
        Puts (started p start),
        keeps,
        tt,
        putter_turns s k id p mine _ _ _ _ (ap (λ (ws : List ℕ). set ws 2 start) l.words_are) (starts_keeps s.words s.homes p k.taker l start outside empty within),
        refl,
      )

  pub start_goes_at : (me : QueueSeat) (p : QueueView) (start : ℕ) → me ≡ (Puts p, []) → IsOutside p → length p.put ≡ length p.taken → start < p.depth → May me 2 (λ _. start) (λ found. putter_starts me start)
  start_goes_at me p start is outside empty within = subst (λ (y : QueueSeat). May y 2 (λ _. start) (λ found. putter_starts y start)) (sym is) (start_goes p start outside empty within)

  put_looks : (p : QueueView) (c : List (ℕ × Slot)) → May (Puts p, c) 1 (λ n. n) (putter_looks (Puts p, c))
  put_looks p c s k _ mine _ =
      let l = putter_lawful s k id p mine in
      let all = begins_trans k.taker.taken k.taker.put p.put l.taken l.put in (
        Puts (sees_taken p k.taker.taken),
        keeps,
        tt,
        putter_turns s k id p mine s.words _ _ _ (set-get_or s.words 1 0) (known_taken_keeps s.words s.homes p k.taker l k.taker.taken (p.looks + 1) (begins_same k.taker.taken)),
        (k.taker.taken, refl, ap (λ (ws : List ℕ). get_or ws 1 0) l.words_are, l.known, all, l.few),
      )

  pub put_looks_at : (me : QueueSeat) (p : QueueView) → me.0 ≡ Puts p → May me 1 (λ n. n) (putter_looks me)
  put_looks_at me p is = subst (λ (y : SeatView). May (y, me.1) 1 (λ n. n) (putter_looks (y, me.1))) (sym is) (put_looks p me.1)

  -- where the taker knows the slot of its next message to be
  slot_is : (p t : QueueView) (ws : List ℕ) (hs : Homes) → LawfulQueue ws hs p t → t.sure ≡ true → length t.taken < length t.put → slot_of_number t (length t.taken) ≡ slot_of_number p (length t.taken)
  slot_is p t ws hs l sure more = λ i. slot_for (l.size.0 i) (l.start sure more i + length t.taken)

  take_enters : (t : QueueView) → IsOutside t → length t.taken < length t.put → t.sure ≡ true → May (Takes t, []) 1 (λ n. n) (taker_enters (Takes t, []))
  take_enters t outside more sure s k _ mine _ =
      let l = taker_lawful s k id t mine in
      let some_slot = l.some_slot in
      let long = begins_length t.put k.putter.put l.put in
      let is_slot = slot_is k.putter t s.words s.homes l sure more in
      let place = l.places (length t.taken) (omega arith) (omega (arith, some_slot)) (λ h e. absurd (omega (arith, more, long, e))) (λ h. not_both t.has h outside) in
      let next = next_of t.taken t.put l.taken more in
      let is : in_slot place.slot ≡ next.0 = place.message next.0 (begins_get t.put k.putter.put (length t.taken) next.0 l.put next.1) in (
        Takes (with_slot_taken t),
        takes (slot_of_number t (length t.taken)) place.slot,
        subst (λ (n : ℕ). get_elem? s.homes n ≡ some (some place.slot)) (sym is_slot) place.home,
        taker_turns s k id t mine s.words _ _ _ (set-get_or s.words 1 0)
            (subst (λ (n : ℕ). LawfulQueue s.words (set s.homes n none) k.putter (with_slot_taken t)) (sym is_slot) (taker_enters_keeps s.words s.homes k.putter t l more sure)),
        (place.slot, refl, subst (λ (m : ℕ). IsRoomy m place.slot) (sym l.size.1) place.room, next.1 ∙ ap Some (sym is)),
      )

  pub take_enters_at : (me : QueueSeat) (t : QueueView) → me ≡ (Takes t, []) → IsOutside t → length t.taken < length t.put → t.sure ≡ true → May me 1 (λ n. n) (taker_enters me)
  take_enters_at me t is outside more sure = subst (λ (y : QueueSeat). May y 1 (λ n. n) (taker_enters y)) (sym is) (take_enters t outside more sure)

  take_goes : (t : QueueView) (slot : Slot) → IsRoomy t.max slot → t.has ≡ true → slice_get t.put (length t.taken) ≡ Some (in_slot slot)
      → May (Takes t, (slot_of_number t (length t.taken), slot) ∷ []) 1 (λ _. wrapped (length t.taken + 1)) (λ found. taker_takes (Takes t, (slot_of_number t (length t.taken), slot) ∷ []) (wrapped (length t.taken + 1)))
  take_goes t slot roomy entered next s k _ mine _ =
      let l = taker_lawful s k id t mine in
      let is_slot = slot_is k.putter t s.words s.homes l (l.taking entered).1 (l.taking entered).0 in (
        Takes (takes_one t (in_slot slot)),
        gives,
        tt,
        taker_turns s k id t mine _ _ _ _ (ap (λ (ws : List ℕ). set ws 1 (wrapped (length t.taken + 1))) l.words_are)
            (subst (λ (n : ℕ). LawfulQueue (wrapped (length k.putter.put) ∷ wrapped (length t.taken + 1) ∷ k.putter.start ∷ []) (set s.homes n (some slot)) k.putter (takes_one t (in_slot slot))) (sym is_slot)
            (takes_keeps s.words s.homes k.putter t l slot (subst (λ (m : ℕ). IsRoomy m slot) l.size.1 roomy) entered next)),
        λ number other is. ap (λ (c : List (ℕ × Slot)). (Takes (takes_one t (message_of slot c)), [])) is,
      )

  pub take_goes_at : (me : QueueSeat) (t : QueueView) (slot : Slot) (count : ℕ) → me ≡ (Takes t, (slot_of_number t (length t.taken), slot) ∷ []) → count ≡ wrapped (length t.taken + 1) → IsRoomy t.max slot → t.has ≡ true
      → slice_get t.put (length t.taken) ≡ Some (in_slot slot) → May me 1 (λ _. count) (λ found. taker_takes me count)
  take_goes_at me t slot count is count_is roomy entered next =
      subst (λ (y : QueueSeat). May y 1 (λ _. count) (λ found. taker_takes y count)) (sym is)
      (subst (λ (n : ℕ). May (Takes t, (slot_of_number t (length t.taken), slot) ∷ []) 1 (λ _. n) (λ found. taker_takes (Takes t, (slot_of_number t (length t.taken), slot) ∷ []) n)) (sym count_is) (take_goes t slot roomy entered next))

  take_looks : (t : QueueView) (c : List (ℕ × Slot)) → IsOutside t → May (Takes t, c) 0 (λ n. n) (taker_looks (Takes t, c))
  take_looks t c outside s k _ mine _ =
      let l = taker_lawful s k id t mine in
      let p = k.putter in
      let found : get_or s.words 0 0 ≡ wrapped (length p.put) = ap (λ (ws : List ℕ). get_or ws 0 0) l.words_are in
      let all = begins_trans t.taken t.put p.put l.taken l.put in
      let depth : t.depth ≡ p.depth = l.size.0 in
      let few = l.few in
      let within : length p.put ≤ length t.taken + t.depth = omega (arith, few, depth) in
      let Z : Type 0 = (x : SeatView) × (a : table.Act Slot) × Valid s.homes c a × KeptQueue (table.stepped s 0 (get_or s.words 0 0) id c x a) × taker_looks (Takes t, c) (get_or s.words 0 0) (x, table.carried_after c a) in
      let more : length t.taken < length p.put → Z = λ more. (
        Takes (sees_put t p.put),
        keeps,
        tt,
        taker_turns s k id t mine s.words _ _ _ (set-get_or s.words 0 0) (known_put_keeps s.words s.homes p t l p.put t.looks t.start false (begins_same p.put) l.put outside (λ h _. not_both false h refl)),
        (p.put, refl, found, l.put, all, within, (λ none. absurd (omega (arith, none, more))), λ _. refl),
      ) in
      let none : length p.put ≤ length t.taken → Z = λ none. (
        Takes (sees_none t),
        keeps,
        tt,
        taker_turns s k id t mine s.words _ _ _ (set-get_or s.words 0 0) (known_put_keeps s.words s.homes p t l t.put (t.looks + 1) t.start t.sure l.put (begins_same t.put) outside l.start),
        (p.put, refl, found, l.put, all, within, (λ _. refl), λ more. absurd (omega (arith, none, more))),
      ) in ⊎_elim more none (cases_lt (length t.taken) (length p.put))

  pub take_looks_at : (me : QueueSeat) (t : QueueView) → me.0 ≡ Takes t → IsOutside t → May me 0 (λ n. n) (taker_looks me)
  take_looks_at me t is outside = subst (λ (y : SeatView). May (y, me.1) 0 (λ n. n) (taker_looks (y, me.1))) (sym is) (take_looks t me.1 outside)

  start_is_read : (t : QueueView) (c : List (ℕ × Slot)) → IsOutside t → May (Takes t, c) 2 (λ n. n) (taker_reads_start (Takes t, c))
  start_is_read t c outside s k _ mine _ =
      let l = taker_lawful s k id t mine in
      let found : get_or s.words 2 0 ≡ k.putter.start = ap (λ (ws : List ℕ). get_or ws 2 0) l.words_are in
      let depth = l.size.0 in
      let begins = l.begins in (
        Takes (sees_start t (get_or s.words 2 0)),
        keeps,
        tt,
        taker_turns s k id t mine s.words _ _ _ (set-get_or s.words 2 0) (known_put_keeps s.words s.homes k.putter t l t.put t.looks (get_or s.words 2 0) true l.put (begins_same t.put) outside (λ _ _. found)),
        (refl, omega (arith, found, depth, begins)),
      )

  pub start_is_read_at : (me : QueueSeat) (t : QueueView) → me.0 ≡ Takes t → IsOutside t → May me 2 (λ n. n) (taker_reads_start me)
  start_is_read_at me t is outside = subst (λ (y : SeatView). May (y, me.1) 2 (λ n. n) (taker_reads_start (y, me.1))) (sym is) (start_is_read t me.1 outside)

  counts : (t : QueueView) (c : List (ℕ × Slot)) → IsOutside t → May (Takes t, c) 0 (λ n. n) (taker_counts (Takes t, c))
  counts t c outside s k _ mine _ =
      let l = taker_lawful s k id t mine in
      let p = k.putter in
      let depth : t.depth ≡ p.depth = l.size.0 in
      let few = l.few in (
        Takes (counts_put t p.put),
        keeps,
        tt,
        taker_turns s k id t mine s.words _ _ _ (set-get_or s.words 0 0) (known_put_keeps s.words s.homes p t l p.put (t.looks + 1) t.start false (begins_same p.put) l.put outside (λ h _. not_both false h refl)),
        (p.put, refl, ap (λ (ws : List ℕ). get_or ws 0 0) l.words_are, l.put, begins_trans t.taken t.put p.put l.taken l.put, omega (arith, few, depth)),
      )

  pub counts_at : (me : QueueSeat) (t : QueueView) → me.0 ≡ Takes t → IsOutside t → May me 0 (λ n. n) (taker_counts me)
  counts_at me t is outside = subst (λ (y : SeatView). May (y, me.1) 0 (λ n. n) (taker_counts (y, me.1))) (sym is) (counts t me.1 outside)

  learn : (p t : QueueView) (c : List (ℕ × Slot)) → IsOutside t → May (Meets p t, c) 0 (λ n. n) (ends_learn (Meets p t, c))
  learn p t c outside s k _ mine _ =
      let me = k.seats id (Meets p t) mine in
      let l : LawfulQueue s.words s.homes p t = subst (λ (z : QueueView). LawfulQueue s.words s.homes z t) (sym me.0.0) (subst (λ (z : QueueView). LawfulQueue s.words s.homes k.putter z) (sym me.1.0) k.lawful) in
      let p' = told_taken p t.taken in
      let t' = told_put t p in
      let first : LawfulQueue s.words s.homes p' t = known_taken_keeps s.words s.homes p t l t.taken p.looks (begins_same t.taken) in
      let ok : LawfulQueue s.words s.homes p' t' = known_put_keeps s.words s.homes p' t first p.put t.looks p.start true (begins_same p.put) l.put outside (λ _ _. refl) in (
        Meets p' t',
        keeps,
        tt,
        turns s k id p' t' _ _ (Meets p' t') (inr me.0.1) (inr me.1.1) ((refl, me.0.1), (refl, me.1.1)) (subst (λ (z : List ℕ). LawfulQueue z s.homes p' t') (sym (set-get_or s.words 0 0)) ok),
        (refl, record { few = l.few; put = l.put; all = begins_trans t.taken t.put p.put l.taken l.put; known = l.known }),
      )

  pub learn_at : (me : QueueSeat) (p t : QueueView) → me.0 ≡ Meets p t → IsOutside t → May me 0 (λ n. n) (ends_learn me)
  learn_at me p t is outside = subst (λ (y : SeatView). May (y, me.1) 0 (λ n. n) (ends_learn (y, me.1))) (sym is) (learn p t me.1 outside)
