-- The laws of a running queue.
use Rattle.std.proofs.Common.{◌≡◌, ◌∙◌, ap, sym, subst, ⊎_elim, ℕ, ◌+◌, ◌<◌, ◌≤◌, List, length, get_or, arith}
use Rattle.std.proofs.lemmas.Bool.{cases_lt}
use mathlib.Core.Option.{some}
use Rattle.message_ring.specs.declared.rule.QueuedMessage.{QueuedMessage as Message}
use Rattle.message_ring.specs.declared.rule.QueueView.{QueueView}
use Rattle.message_ring.specs.declared.rule.SeatView.{SeatView}
use Rattle.message_ring.specs.declared.rule.SeatView.TheVariants.{Puts, Takes}
use Rattle.message_ring.specs.Moments.{HavePut, HaveTaken, PutterLooked, QueueState, TakerLooked}
use Rattle.message_ring.specs.Plays.{QueueSeat, putter_in, sees_none, sees_put, sees_taken, taker_in}
use Rattle.message_ring.specs.Rule.{KeptQueue, wrapped}
use Rattle.message_ring.proofs.Lists.{begins_all, begins_length}

module _ (s : QueueState) (k : KeptQueue s) where
  is_taken : (taken : List Message) → HaveTaken s taken → taken ≡ k.taker.taken
  is_taken taken have = have.all ∙ ap (λ (z : QueueView). z.taken) (k.seats have.seat (Takes have.taker) have.knows).0

  is_put : (put : List Message) → HavePut s put → put ≡ k.putter.put
  is_put put have = have.all ∙ ap (λ (z : QueueView). z.put) (k.seats have.seat (Puts have.putter) have.knows).0

  pub all_taken : (taken : List Message) (before after : QueueSeat) → HaveTaken s taken → PutterLooked s before after → (putter_in after.0).taken ≡ taken
  all_taken taken before after have look =
      let told = look.told in
      let view : after.0 ≡ Puts (sees_taken (putter_in before.0) told.0) = ap (λ (m : QueueSeat). m.0) told.1 in
      let p : sees_taken (putter_in before.0) told.0 ≡ k.putter = (k.seats look.seat _ (look.knows ∙ ap (λ (z : SeatView). some z) view)).0 in
      let l = k.lawful in
      let known : k.putter.taken ≡ told.0 = ap (λ (z : QueueView). z.taken) (sym p) in
      let counts : wrapped (length told.0) ≡ wrapped (length k.taker.taken) = sym told.2 ∙ ap (λ (ws : List ℕ). get_or ws 1 0) l.words_are in
      let few : length k.putter.put ≤ length told.0 + k.putter.depth = subst (λ (z : QueueView). length z.put ≤ length told.0 + z.depth) p told.5 in
      let size = ap (λ (m : List Message). length m) known in
      let short = begins_length _ _ l.known in
      let begun = begins_length _ _ l.taken in
      let within = begins_length _ _ l.put in
      let most = l.most in
      let all : k.taker.taken ≡ k.putter.taken = begins_all _ _ l.known (omega (arith, size, counts, few, short, begun, within, most)) in
      ap (λ (z : SeatView). (putter_in z).taken) view ∙ sym known ∙ sym all ∙ sym (is_taken taken have)

  pub all_put : (put : List Message) (before after : QueueSeat) → HavePut s put → TakerLooked s before after → (taker_in after.0).put ≡ put
  all_put put before after have look =
      let told = look.told in
      let t : look.taker ≡ k.taker = (k.seats look.seat _ (look.knows ∙ ap (λ (z : SeatView). some z) look.is)).0 in
      let l = k.lawful in
      let counts : wrapped (length told.0) ≡ wrapped (length k.putter.put) = sym told.2 ∙ ap (λ (ws : List ℕ). get_or ws 0 0) l.words_are in
      let few = l.few in
      let most = l.most in
      let was = taker_in before.0 in
      let now : (taker_in after.0) ≡ k.taker = ap taker_in look.is ∙ t in
      let more : length was.taken < length told.0 → k.putter.put ≡ k.taker.put = λ more.
      let view = told.7 more in
      let same : sees_put was told.0 ≡ k.taker = sym (ap taker_in view) ∙ now in
      let size = ap (λ (z : QueueView). length z.put) same in
      let taken = ap (λ (z : QueueView). length z.taken) same in
      let depth = ap (λ (z : QueueView). z.depth) same in
      let begun = begins_length _ _ l.taken in
      let within = begins_length _ _ l.put in
      let room = told.5 in
      let size_is = l.size.0 in
      begins_all _ _ l.put (omega (arith, size, taken, depth, counts, few, most, begun, within, room, size_is)) in
      let none : length told.0 ≤ length was.taken → k.putter.put ≡ k.taker.put = λ none.
      let first = begins_length _ _ told.4 in
      let view = told.6 (omega (arith, none, first)) in
      let same : sees_none was ≡ k.taker = sym (ap taker_in view) ∙ now in
      let taken = ap (λ (z : QueueView). length z.taken) same in
      let begun = begins_length _ _ l.taken in
      let within = begins_length _ _ l.put in
      begins_all _ _ l.put (omega (arith, taken, counts, few, most, begun, within, none, first)) in
      ap (λ (z : QueueView). z.put) now ∙ sym (⊎_elim more none (cases_lt (length was.taken) (length told.0))) ∙ sym (is_put put have)
