-- What the ends keep after a put and a take.
use Rattle.std.proofs.Common.{◌≡◌, ◌∙◌, ap, sym, refl, subst, ℕ, ◌+◌, ◌-◌, ◌<◌, ◌≤◌, ◌%◌, [], ◌∷◌, ◌++◌, length, length-append, arith}
use Rattle.std.proofs.Math.Nat.{mod-add-mod, mod-eq_of_lt, mod-lt}
use Rattle.message_ring.specs.declared.rule.QueuedMessage.{QueuedMessage as Message}
use Rattle.es_base.specs.Limits.{deepest_queue}
use Rattle.message_ring.specs.Queue.{BeginsWith}
use Rattle.message_ring.specs.Rule.{slot_for, wrapped}
use Rattle.message_ring.specs.declared.rule.QueueView.{QueueView}
use Rattle.message_ring.specs.declared.rule.SeatView.TheVariants.{Puts, Takes}
use Rattle.message_ring.specs.Plays.{AreMet, QueueSeat, putter_in, puts_one, started, taker_in, takes_one, told_put, told_taken}
use Rattle.message_ring.specs.Ends.{KeepsPut, KeepsTaken}
use Rattle.message_ring.proofs.Lists.{begins_trans}

-- the slot so many after a slot, which the message so many after its own has
abbrev pub IsAfter : ℕ → ℕ → ℕ → ℕ → Type 0
IsAfter depth slot many after = (number : ℕ) → slot ≡ slot_for depth number → after ≡ slot_for depth (number + many)

pub start_on : (depth start start' on : ℕ) → start < depth → IsAfter depth start on start' → start' < depth
start_on depth start start' on within from =
    let here : start' ≡ slot_for depth (start + on) = from start (sym (mod-eq_of_lt within)) in
    let less : slot_for depth (start + on) < depth = mod-lt (start + on) (omega (arith, within)) in omega (arith, here, less)

-- number 0 and the message of this number are as far on, in their slots
pub both_on : (depth start start' next next' len on : ℕ) → start < depth → IsAfter depth start on start' → IsAfter depth next on next' → next ≡ slot_for depth (start + len)
    → next' ≡ slot_for depth (start' + len)
both_on depth start start' next next' len on within from to is =
    let here : start' ≡ slot_for depth (start + on) = from start (sym (mod-eq_of_lt within)) in
    let there : next' ≡ slot_for depth (start + len + on) = to (start + len) is in
    let same : start + len + on ≡ start + on + len = omega arith in
    there ∙ ap (slot_for depth) same ∙ sym (ap (λ (n : ℕ). slot_for depth (n + len)) here ∙ mod-add-mod (start + on) depth len)

-- a putter says anew where number 0 is
pub starts_keep : (me me' : QueueSeat) (depth max next next' count waits start start' on : ℕ) → KeepsPut me depth max next count waits start → me' ≡ (Puts (started (putter_in me.0) start'), [])
    → IsAfter depth start on start' → IsAfter depth next on next' → KeepsPut me' depth max next' count waits start'
starts_keep me me' depth max next next' count waits start start' on keeps is from to =
    let v = putter_in me.0 in
    let k = keeps.keeps in
    let depth_is = k.depth_is in
    let start_is = k.start_is in
    let here : next ≡ slot_for depth (start + length v.put) = keeps.next_is ∙ (λ i. slot_for (depth_is i) (sym start_is i + length v.put)) in
    let there = both_on depth start start' next next' (length v.put) on k.within from to here in
    subst (λ (y : QueueSeat). KeepsPut y depth max next' count waits start') (sym is) (record {
      seat = refl;
      keeps = record {
        depth_is = k.depth_is;
        max_is = k.max_is;
        some = k.some;
        most = k.most;
        outside = k.outside;
        start_is = refl;
        within = start_on depth start start' on k.within from;
        begins = k.begins;
        waits_are = k.waits_are;
        few = k.few;
      };
      next_is = there ∙ ap (λ (d : ℕ). slot_for d (start' + length v.put)) (sym depth_is);
      count_is = keeps.count_is;
    })

-- ---- a meeting

-- what waits, by the counts of both ends
pub waits_by_counts : (put taken depth count count' : ℕ) → count ≡ wrapped put → count' ≡ wrapped taken → taken ≤ put → put ≤ taken + depth → depth ≤ deepest_queue
    → (count + (18446744073709551616 - count')) % 18446744073709551616 + taken ≡ put
waits_by_counts put taken depth count count' is is' begun few most = omega arith

pub put_met : (me me' : QueueSeat) (t : QueueView) (depth max next count waits waits' start : ℕ) → KeepsPut me depth max next count waits start → AreMet (putter_in me.0) t
    → me' ≡ (Puts (told_taken (putter_in me.0) t.taken), me.1) → waits' + length t.taken ≡ length (putter_in me.0).put → KeepsPut me' depth max next count waits' start
put_met me me' t depth max next count waits waits' start keeps met is are =
    let v = putter_in me.0 in
    let k = keeps.keeps in
    let depth_is = k.depth_is in
    let few = met.few in
    let whole : me' ≡ (Puts (told_taken v t.taken), []) = is ∙ ap (λ (m : QueueSeat). (Puts (told_taken v t.taken), m.1)) keeps.seat in
    subst (λ (y : QueueSeat). KeepsPut y depth max next count waits' start) (sym whole) (record {
      seat = refl;
      keeps = record {
        depth_is = k.depth_is;
        max_is = k.max_is;
        some = k.some;
        most = k.most;
        outside = k.outside;
        start_is = k.start_is;
        within = k.within;
        begins = met.all;
        waits_are = are;
        few = omega (arith, are, few, depth_is);
      };
      next_is = keeps.next_is;
      count_is = keeps.count_is;
    })

pub take_met : (me me' : QueueSeat) (p : QueueView) (depth max next next' count waits waits' start start' : ℕ) → KeepsTaken me depth max next count waits start → AreMet p (taker_in me.0)
    → me' ≡ (Takes (told_put (taker_in me.0) p), me.1) → p.depth ≡ depth → start' ≡ p.start → start' < depth → waits' + length (taker_in me.0).taken ≡ length p.put
    → ((number : ℕ) → next ≡ slot_for depth (start + number) → next' ≡ slot_for depth (start' + number))
    → KeepsTaken me' depth max next' count waits' start'
take_met me me' p depth max next next' count waits waits' start start' keeps met is same start_is within are to =
    let t = taker_in me.0 in
    let k = keeps.keeps in
    let depth_is = k.depth_is in
    let was = k.start_is in
    let few = met.few in
    let here : next ≡ slot_for depth (start + length t.taken) = keeps.next_is ∙ (λ i. slot_for (depth_is i) (sym was i + length t.taken)) in
    let there : next' ≡ slot_for depth (start' + length t.taken) = to (length t.taken) here in
    let whole : me' ≡ (Takes (told_put t p), []) = is ∙ ap (λ (m : QueueSeat). (Takes (told_put t p), m.1)) keeps.seat in
    subst (λ (y : QueueSeat). KeepsTaken y depth max next' count waits' start') (sym whole) (record {
      seat = refl;
      keeps = record {
        depth_is = k.depth_is;
        max_is = k.max_is;
        some = k.some;
        most = k.most;
        outside = k.outside;
        start_is = start_is;
        within = within;
        begins = met.all;
        waits_are = are;
        few = omega (arith, are, few, same);
      };
      next_is = there ∙ (λ i. slot_for (sym depth_is i) (start_is i + length t.taken));
      count_is = keeps.count_is;
      sure = λ _. refl;
    })

-- ---- a put, and a take

pub put_keeps : (me me' : QueueSeat) (depth max next next' count waits start : ℕ) (message : Message) → KeepsPut me depth max next count waits start → me' ≡ (Puts (puts_one (putter_in me.0) message), [])
    → length (putter_in me.0).put < length (putter_in me.0).taken + (putter_in me.0).depth → IsAfter depth next 1 next' → KeepsPut me' depth max next' ((count + 1) % 18446744073709551616) (waits + 1) start
put_keeps me me' depth max next next' count waits start message keeps is room after =
    let v = putter_in me.0 in
    let long : length (puts_one v message).put ≡ length v.put + 1 = length-append v.put (message ∷ []) in
    let are = keeps.keeps.waits_are in
    let depth_is = keeps.keeps.depth_is in
    let count_is = keeps.count_is in
    subst (λ (y : QueueSeat). KeepsPut y depth max next' ((count + 1) % 18446744073709551616) (waits + 1) start) (sym is) (record {
      seat = refl;
      keeps = record {
        depth_is = keeps.keeps.depth_is;
        max_is = keeps.keeps.max_is;
        some = keeps.keeps.some;
        most = keeps.keeps.most;
        outside = refl;
        start_is = keeps.keeps.start_is;
        within = keeps.keeps.within;
        begins = begins_trans v.taken v.put (v.put ++ message ∷ []) keeps.keeps.begins (message ∷ [], refl);
        waits_are = omega (arith, long, are);
        few = omega (arith, are, room, depth_is);
      };
      next_is = after (v.start + length v.put) (keeps.next_is ∙ ap (λ (d : ℕ). slot_for d (v.start + length v.put)) depth_is) ∙ (let on : v.start + length v.put + 1 ≡ v.start + length (puts_one v message).put = omega (arith, long) in λ i. slot_for (sym depth_is i) (on i));
      count_is = omega (arith, count_is, long);
    })

pub take_keeps : (me me' : QueueSeat) (depth max next next' count waits start : ℕ) (message : Message) → KeepsTaken me depth max next count waits start → me' ≡ (Takes (takes_one (taker_in me.0) message), [])
    → length (taker_in me.0).taken < length (taker_in me.0).put → BeginsWith (taker_in me.0).put ((taker_in me.0).taken ++ message ∷ []) → IsAfter depth next 1 next'
    → KeepsTaken me' depth max next' ((count + 1) % 18446744073709551616) (waits - 1) start
take_keeps me me' depth max next next' count waits start message keeps is more begins after =
    let v = taker_in me.0 in
    let long : length (takes_one v message).taken ≡ length v.taken + 1 = length-append v.taken (message ∷ []) in
    let are = keeps.keeps.waits_are in
    let few = keeps.keeps.few in
    let count_is = keeps.count_is in
    let depth_is = keeps.keeps.depth_is in
    subst (λ (y : QueueSeat). KeepsTaken y depth max next' ((count + 1) % 18446744073709551616) (waits - 1) start) (sym is) (record {
      seat = refl;
      keeps = record {
        depth_is = keeps.keeps.depth_is;
        max_is = keeps.keeps.max_is;
        some = keeps.keeps.some;
        most = keeps.keeps.most;
        outside = refl;
        start_is = keeps.keeps.start_is;
        within = keeps.keeps.within;
        begins = begins;
        waits_are = omega (arith, long, are, more);
        few = omega (arith, few);
      };
      next_is = after (v.start + length v.taken) (keeps.next_is ∙ ap (λ (d : ℕ). slot_for d (v.start + length v.taken)) depth_is) ∙ (let on : v.start + length v.taken + 1 ≡ v.start + length (takes_one v message).taken = omega (arith, long) in λ i. slot_for (sym depth_is i) (on i));
      count_is = omega (arith, count_is, long);
      sure = λ some. keeps.sure (omega (arith, some));
    })
