-- A try of a read: the reader announces the word and looks again.
use Rattle.std.proofs.Common.{◌≡◌, ◌≢◌, ℕ, ◌+◌, ◌*◌, ◌<◌, ◌≤◌, Bool, true, false, eqb, List, [], ◌∷◌, ◌++◌, length, replicate, append_assoc, refl, sym, ap, ◌∙◌, arith, subst}
use Rattle.std.proofs.lemmas.Bool.{eq-eqb, ne_eqb}
use Rattle.std.proofs.lemmas.List.{replicate-append-replicate}
use Rattle.slot_core.specs.declared.view.Phase.TheVariants.{Loaded}
use Rattle.slot_core.specs.State.{StartsWithSeen, word_of}
use Rattle.slot_core.specs.Steps.{announces}
use Rattle.slot_core.proofs.Messages.{length-seen}
use Rattle.sampling_port.specs.Ends.{IsHeldAfter, end_of_reader}
use Rattle.sampling_port.specs.Plays.{Looks, reads, looks_again}
use Rattle.sampling_port.specs.Reads.{IsHeld, ShowsLast}
use Rattle.sampling_port.specs.Seats.{ReaderSeated, reader_with}

-- at the start of a try, after so many, each of which found a newer message
pub record IsTrying (slots : ℕ) (v w : ReaderSeated) (word done : ℕ) : Type 0 where
  pub port : w.port ≡ v.port
  pub place : w.place ≡ v.place
  pub seen : StartsWithSeen w.knows.view.seen v.knows.view.seen
  pub newer : length v.knows.view.seen + done ≤ length w.knows.view.seen
  pub looks : w.knows.looks ≡ v.knows.looks ++ replicate (1 + done) false
  pub steps : w.knows.steps ≡ v.knows.steps + (1 + 2 * done)
  pub loaded : w.knows.view.phase ≡ Loaded word
  pub own : 0 < done → w.knows.view.own ≢ 0
  pub last : ShowsLast slots w.knows.view word

starts_trans : (all seen before : List (List ℕ)) → StartsWithSeen all seen → StartsWithSeen seen before → StartsWithSeen all before
starts_trans all seen before a b = (b.0 ++ a.0, a.1 ∙ ap (λ (l : List (List ℕ)). l ++ a.0) b.1 ∙ append_assoc before b.0 a.0)

one_more : (n : ℕ) → replicate (1 + n) false ++ false ∷ [] ≡ replicate (1 + (n + 1)) false
one_more n = replicate-append-replicate (1 + n) 1 false ∙ ap (λ (k : ℕ). replicate k false) (omega arith)

-- the seat w, after it announced its word
abbrev pub announced : ReaderSeated → ReaderSeated
announced w = reader_with w (reads w.knows (announces w.knows.view))

module _ (slots tries : ℕ) (v w w2 : ReaderSeated) (word done found : ℕ) (all : List (List ℕ)) (t : IsTrying slots v w word done) (more : done < tries)
    (looked : w2 ≡ reader_with (announced w) (looks_again (announced w).knows found all)) (look : Looks slots (announced w).knows.view found all) where
  abbrev next : ReaderSeated
  next = reader_with (announced w) (looks_again (announced w).knows found all)

  at : word_of w.knows.view.phase ≡ word
  at = ap word_of t.loaded

  begun : 0 < length all
  begun = omega (arith, length-seen all w.knows.view.seen look.before, t.last.some)

  last : ShowsLast slots next.knows.view found
  last = record { some = begun; shows = look.some begun; message = look.message begun }

  seen : StartsWithSeen all v.knows.view.seen
  seen = starts_trans all w.knows.view.seen v.knows.view.seen look.before t.seen

  positive : word ≢ 0
  positive e = absurd (let shows = t.last.shows.0 in omega (arith, shows, t.last.some, e))

  pub finds : found ≡ word → IsHeld slots w2.knows.view word × IsHeldAfter (end_of_reader v) (end_of_reader w2) tries 0
  finds again = let e : eqb found (word_of w.knows.view.phase) ≡ true = eq-eqb found _ (again ∙ sym at) in
      subst (λ (z : ReaderSeated). IsHeld slots z.knows.view word × IsHeldAfter (end_of_reader v) (end_of_reader z) tries 0) (sym looked) (
        record { holds = rw (e, at) refl; own = at; last = subst (λ (x : ℕ). ShowsLast slots next.knows.view x) again last },
        record {
          seen = seen;
          some = begun;
          message = look.message begun;
          failed = done;
          within = more;
          looks = rw (e, t.looks) refl;
          steps = omega (arith, t.steps);
        },
      )

  pub misses : found ≢ word → (found ≢ word_of w.knows.view.phase → length w.knows.view.seen < length all) → IsTrying slots v w2 found (done + 1)
  misses other newer =
      let e : eqb found (word_of w.knows.view.phase) ≡ false = ne_eqb found _ (λ h. other (h ∙ at)) in
      let later = newer (λ h. other (h ∙ at)) in
      subst (λ (z : ReaderSeated). IsTrying slots v z found (done + 1)) (sym looked) (record {
        port = t.port;
        place = t.place;
        seen = seen;
        newer = omega (arith, t.newer, later);
        looks = rw (e, t.looks) (append_assoc v.knows.looks _ _ ∙ ap (λ (l : List Bool). v.knows.looks ++ l) (one_more done));
        steps = omega (arith, t.steps);
        loaded = rw e refl;
        own = λ _ z. positive (sym at ∙ z);
        last = last;
      })
