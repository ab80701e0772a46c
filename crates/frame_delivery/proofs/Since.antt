-- Redundancy management forwards the copies that are new.
use Rattle.std.proofs.Common.{◌≡◌, ◌∙◌, sym, ap, ℕ, ◌+◌, ◌<◌, ◌≤◌, true, false, List, [], ◌∷◌, refl, ⊎_elim, arith, subst, Bool, not, ◌++◌, inl}
use Rattle.std.specs.Prelude.{◌||◌, nat_lt, max, ◌&&◌, ◌⊎◌}
use Rattle.std.proofs.lemmas.Bool.{cases_Bool, cases_lt, lt-ltb, le-ltb, ltb-false, or_left, or_right, or_from, and_from, and_right}
use Rattle.es_base.specs.Frame.{sequence_number_of}
use Rattle.es_base.specs.Age.{elapsed}
use Rattle.link_rules.specs.Copies.{is_ahead, greatest_time, is_first_copy, Forwarded}
use Rattle.frame_delivery.specs.Sending.{Copy, HaveNumbers, Numbering, number_of_frame, EachCopy, events_of_copies, events_since}
use Rattle.frame_delivery.specs.Once.{AreInOrder, ComesInTime, as_forwarded, greatest_index, is_new, new_copies, newest_time, FirstsInOrder, first_copies, has_come}
use Rattle.frame_delivery.proofs.Cases.{by_if}
use Rattle.frame_delivery.proofs.Numbers.{ahead_of_earlier, not_ahead_of_later}
use Rattle.es_base.specs.declared.event.Arrival.{Arrival}
use Rattle.es_base.specs.declared.event.Event.{Event}
use Rattle.es_base.specs.Past.{arrival_of}
use Rattle.link_rules.specs.Integrity.{passes}
use Rattle.link_rules.specs.Redundancy.{forwarded, is_forwarded, is_forwarded_after}
use Rattle.es_base.specs.Settings.{Settings}
use Rattle.frame_delivery.specs.Network.{BeginNear, ComeTimely, HasNoOvertaking, IsNeverLate, IsOnItsWay, IsOverSoon, KeepsTimes, Timing, time_of_all}
use Rattle.frame_delivery.specs.Running.{EachForwarded}
use Rattle.frame_delivery.specs.Since.{ComeAfter, PassInOrder, PassTimely, counts, forwarded_since, passing_since}
use Rattle.frame_delivery.proofs.Firsts.{first_are_new, new_are_first, new_is_first}
use Rattle.frame_delivery.proofs.Running.{all_over, first_when_over}
use Rattle.frame_delivery.proofs.Times.{all_in_time, begin_near, none_overtaken, not_late}

-- ---- the newest of some copies

-- the copy that is listed first of the new ones, and what holds of it
pub record Newest (numbering : Numbering) (copies : List Copy) : Type 0 where
  pub copy : Copy
  pub earlier : List Copy
  pub is : new_copies copies ≡ copy ∷ earlier
  pub greatest : copy.index ≡ greatest_index copies
  pub number : sequence_number_of copy.event.frame ≡ number_of_frame numbering copy.index

pub newest_of : (numbering : Numbering) (copy : Copy) (before : List Copy) → HaveNumbers numbering (copy ∷ before) → Newest numbering (copy ∷ before)
newest_of numbering copy [] numbers = record { copy = copy; earlier = []; is = refl; greatest = omega arith; number = numbers.0 }
newest_of numbering copy (other ∷ before) numbers =
    ⊎_elim
    (λ (less : greatest_index (other ∷ before) < copy.index). record {
      copy = copy;
      earlier = new_copies (other ∷ before);
      is = rw (lt-ltb (greatest_index (other ∷ before)) copy.index less) refl;
      greatest = omega arith;
      number = numbers.0;
    })
    (λ (more : copy.index ≤ greatest_index (other ∷ before)).
    let found = newest_of numbering other before numbers.1 in
    record {
      copy = found.copy;
      earlier = found.earlier;
      is = rw (le-ltb (greatest_index (other ∷ before)) copy.index more) found.is;
      greatest = omega (arith, found.greatest);
      number = found.number;
    })
    (cases_lt (greatest_index (other ∷ before)) copy.index)

-- ---- the first copy is a new one

pub first_is_new : (numbering : Numbering) (skew_max : ℕ) (before : List Copy) (copy : Copy) → numbering.first ≤ 255 → HaveNumbers numbering before → sequence_number_of copy.event.frame ≡ number_of_frame numbering copy.index
    → ComesInTime numbering skew_max before copy
    → is_first_copy skew_max (as_forwarded (new_copies before)) (sequence_number_of copy.event.frame) copy.event.time ≡ is_new copy.index before
first_is_new numbering skew_max [] copy small numbers number in_time = refl
first_is_new numbering skew_max (other ∷ before) copy small numbers number in_time =
    let found = newest_of numbering other before numbers in
    let all = other ∷ before in
    let time : ℕ = newest_time all in
    let as_time : greatest_time (as_forwarded (found.copy ∷ found.earlier)) ≡ time = ap (λ copies. greatest_time (as_forwarded copies)) (sym found.is) in
    let opened : is_first_copy skew_max (as_forwarded (new_copies all)) (sequence_number_of copy.event.frame) copy.event.time
    ≡ (nat_lt skew_max (elapsed copy.event.time time) || is_ahead (number_of_frame numbering (greatest_index all)) (number_of_frame numbering copy.index)) =
    ap (λ copies. is_first_copy skew_max (as_forwarded copies) (sequence_number_of copy.event.frame) copy.event.time) found.is
    ∙ ap (λ (t : ℕ). nat_lt skew_max (elapsed copy.event.time t) || is_ahead (sequence_number_of found.copy.event.frame) (sequence_number_of copy.event.frame)) as_time
    ∙ ap (λ (n : ℕ). nat_lt skew_max (elapsed copy.event.time time) || is_ahead n (sequence_number_of copy.event.frame)) (found.number ∙ ap (number_of_frame numbering) found.greatest)
    ∙ ap (λ (n : ℕ). nat_lt skew_max (elapsed copy.event.time time) || is_ahead (number_of_frame numbering (greatest_index all)) n) number in
    opened
    ∙ ⊎_elim
    (λ (new : greatest_index all < copy.index).
    ⊎_elim
    (λ (over : time + skew_max < copy.event.time).
    or_left _ _ (lt-ltb skew_max (elapsed copy.event.time time) (omega arith)) ∙ sym (lt-ltb (greatest_index all) copy.index new))
    (λ (soon : copy.event.time ≤ time + skew_max).
    or_right _ _ (ahead_of_earlier numbering (greatest_index all) copy.index small new (in_time.after soon).0 (in_time.after soon).1) ∙ sym (lt-ltb (greatest_index all) copy.index new))
    (cases_lt (time + skew_max) copy.event.time))
    (λ (old : copy.index ≤ greatest_index all).
    let not_new : is_new copy.index all ≡ false = le-ltb (greatest_index all) copy.index old in
    let soon : copy.event.time ≤ time + skew_max = in_time.late not_new in
    or_from _ _ (le-ltb skew_max (elapsed copy.event.time time) (omega arith)) (not_ahead_of_later numbering (greatest_index all) copy.index small old (in_time.behind soon).0 (in_time.behind soon).1)
    ∙ sym not_new)
    (cases_lt (greatest_index all) copy.index)

-- ---- in order

pub same_greatest : (copies : List Copy) → greatest_index (new_copies copies) ≡ greatest_index copies
same_greatest [] = refl
same_greatest (copy ∷ []) = refl
same_greatest (copy ∷ other ∷ before) =
    let rest = same_greatest (other ∷ before) in
    ⊎_elim
    (λ (less : greatest_index (other ∷ before) < copy.index).
    rw (lt-ltb (greatest_index (other ∷ before)) copy.index less) (ap (max copy.index) rest))
    (λ (more : copy.index ≤ greatest_index (other ∷ before)).
    rw (le-ltb (greatest_index (other ∷ before)) copy.index more) (rest ∙ omega arith))
    (cases_lt (greatest_index (other ∷ before)) copy.index)

-- what is new after some copies is new after the new ones of them
pub new_by_news : (index : ℕ) (copies : List Copy) → is_new index (new_copies copies) ≡ is_new index copies
new_by_news index [] = refl
new_by_news index (copy ∷ before) =
    ⊎_elim
    (λ (new : is_new copy.index before ≡ true). rw new (ap (λ (greatest : ℕ). nat_lt (max copy.index greatest) index) (same_greatest before)))
    (λ (old : is_new copy.index before ≡ false). rw old (new_by_news index before ∙ go before old))
    (cases_Bool (is_new copy.index before))
  where
    go : (before : List Copy) → is_new copy.index before ≡ false → is_new index before ≡ is_new index (copy ∷ before)
    go [] old = cc
    go (other ∷ earlier) old =
        let most : copy.index ≤ greatest_index (other ∷ earlier) = ltb-false (greatest_index (other ∷ earlier)) copy.index old in
        let same : greatest_index (other ∷ earlier) ≡ max copy.index (greatest_index (other ∷ earlier)) = omega arith in
        ap (λ (greatest : ℕ). nat_lt greatest index) same

pub new_in_order : (copies : List Copy) → AreInOrder (new_copies copies)
new_in_order [] = tt
new_in_order (copy ∷ before) =
    by_if AreInOrder (is_new copy.index before) (copy ∷ new_copies before) (new_copies before) (λ new. (new_by_news copy.index before ∙ new, new_in_order before)) (λ old. new_in_order before)

-- ---- after any past, from the first copy on that is forwarded, the new copies of those that pass are forwarded

-- ---- whether a copy counts

pub by_counts : (settings : Settings) (old : List Event) (copy : Copy) (before : List Copy) (Hold : List Copy → Type 0)
    → (counts settings (events_since before old) (arrival_of copy.event) (passing_since settings old before) ≡ true → Hold (copy ∷ passing_since settings old before))
    → (counts settings (events_since before old) (arrival_of copy.event) (passing_since settings old before) ≡ false → Hold (passing_since settings old before)) → Hold (passing_since settings old (copy ∷ before))
by_counts settings old copy before Hold =
    by_if Hold (counts settings (events_since before old) (arrival_of copy.event) (passing_since settings old before)) (copy ∷ passing_since settings old before) (passing_since settings old before)

-- ---- what holds of each copy holds of each of those that count

pub each_since : (Holds : Copy → Type 0) (settings : Settings) (old : List Event) (copies : List Copy) → EachCopy (λ before copy. Holds copy) copies → EachCopy (λ before copy. Holds copy) (passing_since settings old copies)
each_since Holds settings old [] each = tt
each_since Holds settings old (copy ∷ before) each =
    let rest = each_since Holds settings old before each.1 in by_counts settings old copy before (EachCopy (λ before copy. Holds copy)) (λ is. (each.0, rest)) (λ is. rest)

time_of_since : (settings : Settings) (old : List Event) (copies : List Copy) → time_of_all (passing_since settings old copies) ≤ time_of_all copies
time_of_since settings old [] = omega arith
time_of_since settings old (copy ∷ before) =
    let rest = time_of_since settings old before in by_counts settings old copy before (λ some. time_of_all some ≤ time_of_all (copy ∷ before)) (λ is. omega (arith, rest)) (λ is. omega (arith, rest))

order_since : (wait : ℕ) (settings : Settings) (old : List Event) (copies : List Copy) → EachCopy (λ before copy. time_of_all before ≤ copy.event.time + wait) copies
    → EachCopy (λ before copy. time_of_all before ≤ copy.event.time + wait) (passing_since settings old copies)
order_since wait settings old [] order = tt
order_since wait settings old (copy ∷ before) order =
    let most = time_of_since settings old before in
    let here = order.0 in
    let rest = order_since wait settings old before order.1 in
    by_counts settings old copy before (EachCopy (λ before copy. time_of_all before ≤ copy.event.time + wait)) (λ is. (omega (arith, most, here), rest)) (λ is. rest)

-- ---- the frames that were forwarded are those copies, and before them the old ones

pub forwarded_are : (settings : Settings) (old : List Event) (copies : List Copy) → forwarded settings (events_since copies old) ≡ as_forwarded (forwarded_since settings old copies) ++ forwarded settings old
forwarded_are settings old [] = refl
forwarded_are settings old (copy ∷ before) =
    let rest = forwarded_are settings old before in
    ⊎_elim
    (λ (is : is_forwarded settings (events_since before old) (arrival_of copy.event) ≡ true).
    rw is (ap (λ (frames : List Forwarded). record { sequence_number = sequence_number_of copy.event.frame; time = copy.event.time } ∷ frames) rest))
    (λ (is : is_forwarded settings (events_since before old) (arrival_of copy.event) ≡ false). rw is rest)
    (cases_Bool (is_forwarded settings (events_since before old) (arrival_of copy.event)))

-- ---- old frames that are no later change nothing

greatest_join : (some old : List Forwarded) → greatest_time (some ++ old) ≡ max (greatest_time some) (greatest_time old)
greatest_join [] old = omega arith
greatest_join (frame ∷ some) old = let rest = greatest_join some old in omega (arith, rest)

first_among : (skew_max : ℕ) (all some old : List Forwarded) (frame : Forwarded) (number now : ℕ) → all ≡ frame ∷ some → greatest_time old ≤ greatest_time all
    → is_first_copy skew_max (all ++ old) number now ≡ is_first_copy skew_max all number now
first_among skew_max [] some old frame number now is earlier = cc
first_among skew_max (first ∷ others) some old frame number now is earlier =
    let joined = greatest_join others old in
    let e : greatest_time (first ∷ (others ++ old)) ≡ greatest_time (first ∷ others) = omega (arith, joined, earlier) in
    ap (λ (time : ℕ). nat_lt skew_max (elapsed now time) || is_ahead first.sequence_number number) e

newest_after : (time : ℕ) (one : Copy) (some : List Copy) → EachCopy (λ before copy. time ≤ copy.event.time) (one ∷ some) → time ≤ newest_time (one ∷ some)
newest_after time one [] each = let here = each.0 in omega (arith, here)
newest_after time one (other ∷ some) each =
    let here = each.0 in
    let rest = newest_after time other some each.1 in
    by_if (λ news. time ≤ greatest_time (as_forwarded news)) (is_new one.index (other ∷ some)) (one ∷ new_copies (other ∷ some)) (new_copies (other ∷ some)) (λ new. omega (arith, here)) (λ old. rest)

old_time : (settings : Settings) (time : ℕ) (old : List Event) → EachForwarded settings (λ e. e.time ≤ time) old → greatest_time (forwarded settings old) ≤ time
old_time settings time [] each = omega arith
old_time settings time (e ∷ old) each =
    let rest = old_time settings time old each.1 in
    by_if (λ frames. greatest_time frames ≤ time) (is_forwarded settings old (arrival_of e)) (record { sequence_number = sequence_number_of e.frame; time = e.time } ∷ forwarded settings old) (forwarded settings old) (λ is. let here = each.0 is in omega (arith, here, rest)) (λ is. rest)

old_times : (settings : Settings) (old : List Event) (copies : List Copy) → ComeAfter settings old copies → EachCopy (λ before copy. greatest_time (forwarded settings old) ≤ copy.event.time) copies
old_times settings old [] after = tt
old_times settings old (copy ∷ before) after = (old_time settings copy.event.time old after.0, old_times settings old before after.1)

-- ---- so the new ones of those that count are forwarded

forwarded_if : (settings : Settings) (frames : List Forwarded) (past : List Event) (a : Arrival) (new : Bool) → settings.redundancy ≡ true → passes settings past a ≡ true
    → is_first_copy settings.skew_max frames (sequence_number_of a.frame) a.time ≡ new → is_forwarded_after settings frames past a ≡ new
forwarded_if settings frames past a true on pass first = rw (pass, on, first) refl
forwarded_if settings frames past a false on pass first = rw (pass, on, first) refl

refused : (settings : Settings) (past : List Event) (a : Arrival) → passes settings past a ≡ false → is_forwarded settings past a ≡ false
refused settings past a fails = rw fails refl

-- what is asked of those that count
abbrev AreSound : Settings → Numbering → List Event → List Copy → Type 0
AreSound settings numbering old some =
    HaveNumbers numbering some × EachCopy (λ before copy. greatest_time (forwarded settings old) ≤ copy.event.time) some × EachCopy (ComesInTime numbering settings.skew_max) some

module _ (settings : Settings) (numbering : Numbering) (old : List Event) (on : settings.redundancy ≡ true) (small : numbering.first ≤ 255) where
  -- after some that count, one that passes is forwarded exactly if it is new
  new_is_forwarded : (copy : Copy) (before : List Copy) (one : Copy) (some : List Copy) → forwarded_since settings old before ≡ new_copies (one ∷ some) → AreSound settings numbering old (copy ∷ one ∷ some)
      → passes settings (events_since before old) (arrival_of copy.event) ≡ true → is_forwarded settings (events_since before old) (arrival_of copy.event) ≡ is_new copy.index (one ∷ some)
  new_is_forwarded copy before one some rest sound pass =
      let (numbers, after, in_time) = sound in
      let found = newest_of numbering one some numbers.1 in
      let frames : forwarded settings (events_since before old) ≡ as_forwarded (new_copies (one ∷ some)) ++ forwarded settings old =
      forwarded_are settings old before ∙ ap (λ (copies : List Copy). as_forwarded copies ++ forwarded settings old) rest in
      let first : is_first_copy settings.skew_max (as_forwarded (new_copies (one ∷ some)) ++ forwarded settings old) (sequence_number_of copy.event.frame) copy.event.time ≡ is_new copy.index (one ∷ some) =
      first_among settings.skew_max (as_forwarded (new_copies (one ∷ some))) (as_forwarded found.earlier) (forwarded settings old)
      (record { sequence_number = sequence_number_of found.copy.event.frame; time = found.copy.event.time }) (sequence_number_of copy.event.frame) copy.event.time (ap as_forwarded found.is)
      (newest_after (greatest_time (forwarded settings old)) one some after.1)
      ∙ first_is_new numbering settings.skew_max (one ∷ some) copy small numbers.1 numbers.0 in_time.0 in
      ap (λ (frames : List Forwarded). is_forwarded_after settings frames (events_since before old) (arrival_of copy.event)) frames
      ∙ forwarded_if settings (as_forwarded (new_copies (one ∷ some)) ++ forwarded settings old) (events_since before old) (arrival_of copy.event) (is_new copy.index (one ∷ some)) on pass first

  -- so a copy is forwarded exactly if it counts and is new
  pub as_new : (copy : Copy) (before : List Copy) → forwarded_since settings old before ≡ new_copies (passing_since settings old before) → AreSound settings numbering old (passing_since settings old (copy ∷ before))
      → is_forwarded settings (events_since before old) (arrival_of copy.event)
      ≡ (counts settings (events_since before old) (arrival_of copy.event) (passing_since settings old before) && is_new copy.index (passing_since settings old before))
  as_new copy before rest sound = go (passing_since settings old before) refl
    where
      past : List Event
      past = events_since before old

      a : Arrival
      a = arrival_of copy.event

      alone : (is : Bool) → is ≡ (is && true)
      alone true = refl
      alone false = refl

      go : (some : List Copy) → passing_since settings old before ≡ some → is_forwarded settings past a ≡ (counts settings past a some && is_new copy.index some)
      go [] none = alone (is_forwarded settings past a)
      go (one ∷ some) is =
          ⊎_elim
          (λ (pass : passes settings past a ≡ true).
          new_is_forwarded copy before one some (rest ∙ ap new_copies is) (rw (is, pass) at sound) pass ∙ sym (ap (λ (b : Bool). b && is_new copy.index (one ∷ some)) pass))
          (λ (fails : passes settings past a ≡ false). refused settings past a fails ∙ sym (ap (λ (b : Bool). b && is_new copy.index (one ∷ some)) fails))
          (cases_Bool (passes settings past a))

  -- those that count before a copy are asked no more
  sound_before : (copy : Copy) (before : List Copy) → AreSound settings numbering old (passing_since settings old (copy ∷ before)) → AreSound settings numbering old (passing_since settings old before)
  sound_before copy before sound =
      by_counts settings old copy before (λ some. AreSound settings numbering old some → AreSound settings numbering old (passing_since settings old before)) (λ is at. (at.0.1, at.1.1, at.2.1)) (λ is at. at) sound

  pub new_since : (copies : List Copy) → AreSound settings numbering old (passing_since settings old copies) → forwarded_since settings old copies ≡ new_copies (passing_since settings old copies)
  new_since [] sound = refl
  new_since (copy ∷ before) sound =
      let rest = new_since before (sound_before copy before sound) in
      let is = as_new copy before rest sound in
      ⊎_elim
      (λ (count : counts settings (events_since before old) (arrival_of copy.event) (passing_since settings old before) ≡ true).
      ⊎_elim
      (λ (new : is_new copy.index (passing_since settings old before) ≡ true). rw (is ∙ and_from _ _ count new, count, new) (ap (λ (copies : List Copy). copy ∷ copies) rest))
      (λ (not_new : is_new copy.index (passing_since settings old before) ≡ false). rw (is ∙ and_right _ _ not_new, count, not_new) rest)
      (cases_Bool (is_new copy.index (passing_since settings old before))))
      (λ (fails : counts settings (events_since before old) (arrival_of copy.event) (passing_since settings old before) ≡ false).
      rw (is ∙ ap (λ (b : Bool). b && is_new copy.index (passing_since settings old before)) fails, fails) rest)
      (cases_Bool (counts settings (events_since before old) (arrival_of copy.event) (passing_since settings old before)))

-- ---- from what is asked of the sender and of the networks

sound_timely : (settings : Settings) (numbering : Numbering) (timing : Timing) (old : List Event) (copies : List Copy) → PassTimely settings numbering timing old copies
    → AreSound settings numbering old (passing_since settings old copies)
sound_timely settings numbering timing old copies pass =
    let timely = pass.timely in
    let times = timely.times in
    let some : List Copy = passing_since settings old copies in
    (timely.numbers, old_times settings old some pass.after, all_in_time numbering timing times.gaps times.pauses settings.skew_max some timely.fits (not_late numbering timing times.gaps times.pauses pass.on_time) pass.near times.ways times.order)

-- the new ones are forwarded
pub news_since : (settings : Settings) (numbering : Numbering) (timing : Timing) (old : List Event) (copies : List Copy) → PassTimely settings numbering timing old copies
    → (forwarded_since settings old copies ≡ new_copies (passing_since settings old copies)) × AreInOrder (new_copies (passing_since settings old copies))
news_since settings numbering timing old copies pass =
    let timely = pass.timely in
    (new_since settings numbering old timely.redundancy timely.first copies (sound_timely settings numbering timing old copies pass), new_in_order (passing_since settings old copies))

-- so were those before the last copy
pub news_before : (settings : Settings) (numbering : Numbering) (timing : Timing) (old : List Event) (copy : Copy) (before : List Copy) → PassTimely settings numbering timing old (copy ∷ before)
    → forwarded_since settings old before ≡ new_copies (passing_since settings old before)
news_before settings numbering timing old copy before pass =
    let timely = pass.timely in
    new_since settings numbering old timely.redundancy timely.first before (sound_before settings numbering old timely.redundancy timely.first copy before (sound_timely settings numbering timing old (copy ∷ before) pass))

-- where those that count come in time, a copy is forwarded exactly if it counts and is new
pub new_in_time : (settings : Settings) (numbering : Numbering) (old : List Event) (copy : Copy) (before : List Copy) → settings.redundancy ≡ true → numbering.first ≤ 255
    → HaveNumbers numbering (passing_since settings old (copy ∷ before)) → ComeAfter settings old (passing_since settings old (copy ∷ before)) → EachCopy (ComesInTime numbering settings.skew_max) (passing_since settings old (copy ∷ before))
    → is_forwarded settings (events_since before old) (arrival_of copy.event)
    ≡ (counts settings (events_since before old) (arrival_of copy.event) (passing_since settings old before) && is_new copy.index (passing_since settings old before))
new_in_time settings numbering old copy before on small numbers after in_time =
    let sound : AreSound settings numbering old (passing_since settings old (copy ∷ before)) = (numbers, old_times settings old (passing_since settings old (copy ∷ before)) after, in_time) in
    as_new settings numbering old on small copy before (new_since settings numbering old on small before (sound_before settings numbering old on small copy before sound)) sound

-- and the last is forwarded exactly if it counts and is new
pub new_if : (settings : Settings) (numbering : Numbering) (timing : Timing) (old : List Event) (copy : Copy) (before : List Copy) → PassTimely settings numbering timing old (copy ∷ before)
    → is_forwarded settings (events_since before old) (arrival_of copy.event)
    ≡ (counts settings (events_since before old) (arrival_of copy.event) (passing_since settings old before) && is_new copy.index (passing_since settings old before))
new_if settings numbering timing old copy before pass =
    let timely = pass.timely in
    as_new settings numbering old timely.redundancy timely.first copy before (news_before settings numbering timing old copy before pass) (sound_timely settings numbering timing old (copy ∷ before) pass)

-- where the first copies come in order, they are the new ones
pub firsts_since : (settings : Settings) (numbering : Numbering) (timing : Timing) (old : List Event) (copies : List Copy) → PassInOrder settings numbering timing old copies
    → (forwarded_since settings old copies ≡ first_copies (passing_since settings old copies)) × AreInOrder (first_copies (passing_since settings old copies))
firsts_since settings numbering timing old copies pass =
    subst (λ (some : List Copy). (forwarded_since settings old copies ≡ some) × AreInOrder some) (new_are_first (passing_since settings old copies) pass.firsts) (news_since settings numbering timing old copies pass.timely)

pub first_if : (settings : Settings) (numbering : Numbering) (timing : Timing) (old : List Event) (copy : Copy) (before : List Copy) → PassInOrder settings numbering timing old (copy ∷ before)
    → is_forwarded settings (events_since before old) (arrival_of copy.event)
    ≡ (counts settings (events_since before old) (arrival_of copy.event) (passing_since settings old before) && not (has_come copy.index (passing_since settings old before)))
first_if settings numbering timing old copy before pass =
    new_if settings numbering timing old copy before pass.timely
    ∙ ⊎_elim
    (λ (is : counts settings (events_since before old) (arrival_of copy.event) (passing_since settings old before) ≡ true).
    let firsts : FirstsInOrder (copy ∷ passing_since settings old before) = rw is at pass.firsts in
    rw is (new_is_first copy (passing_since settings old before) firsts.0))
    (λ (is : counts settings (events_since before old) (arrival_of copy.event) (passing_since settings old before) ≡ false). rw is refl)
    (cases_Bool (counts settings (events_since before old) (arrival_of copy.event) (passing_since settings old before)))

-- and only there
pub order_is_needed : (settings : Settings) (numbering : Numbering) (timing : Timing) (old : List Event) (copies : List Copy) → PassTimely settings numbering timing old copies
    → forwarded_since settings old copies ≡ first_copies (passing_since settings old copies) → FirstsInOrder (passing_since settings old copies)
order_is_needed settings numbering timing old copies pass same = first_are_new (passing_since settings old copies) (sym (news_since settings numbering timing old copies pass).0 ∙ same)

-- ---- what is asked of all copies is asked of those that pass

pub times_since : (settings : Settings) (numbering : Numbering) (timing : Timing) (old : List Event) (copies : List Copy) → KeepsTimes numbering timing copies → KeepsTimes numbering timing (passing_since settings old copies)
times_since settings numbering timing old copies times = record {
  gaps = times.gaps;
  pauses = times.pauses;
  ways = each_since (IsOnItsWay timing) settings old copies times.ways;
  order = order_since timing.wait settings old copies times.order;
}

-- where no copy overtakes, the first copies of those that pass come in order
pub short_in_order : (settings : Settings) (numbering : Numbering) (timing : Timing) (old : List Event) (copies : List Copy) → KeepsTimes numbering timing copies → HasNoOvertaking timing
    → FirstsInOrder (passing_since settings old copies)
short_in_order settings numbering timing old copies times apart =
    let some = times_since settings numbering timing old copies times in
    none_overtaken numbering timing some.gaps some.pauses (passing_since settings old copies) apart some.ways some.order

pub timely_since : (settings : Settings) (numbering : Numbering) (timing : Timing) (old : List Event) (copies : List Copy) → ComeTimely settings numbering timing copies → ComeTimely settings numbering timing (passing_since settings old copies)
timely_since settings numbering timing old copies timely = record {
  redundancy = timely.redundancy;
  first = timely.first;
  numbers = each_since (λ copy. sequence_number_of copy.event.frame ≡ number_of_frame numbering copy.index) settings old copies timely.numbers;
  times = times_since settings numbering timing old copies timely.times;
  fits = timely.fits;
}

pub all_pass_timely : (settings : Settings) (numbering : Numbering) (timing : Timing) (old : List Event) (copies : List Copy) → ComeTimely settings numbering timing copies → IsNeverLate timing
    → BeginNear settings.skew_max (passing_since settings old copies) → ComeAfter settings old copies → PassTimely settings numbering timing old copies
all_pass_timely settings numbering timing old copies timely on_time near after = record {
  timely = timely_since settings numbering timing old copies timely;
  on_time = on_time;
  near = near;
  after = each_since (λ copy. EachForwarded settings (λ e. e.time ≤ copy.event.time) old) settings old copies after;
}

-- where SkewMax is short, networks begin near each other
pub since_is_near : (settings : Settings) (numbering : Numbering) (timing : Timing) (old : List Event) (copies : List Copy) → KeepsTimes numbering timing copies → IsOverSoon timing settings.skew_max
    → BeginNear settings.skew_max (passing_since settings old copies)
since_is_near settings numbering timing old copies times over =
    begin_near numbering timing times.gaps times.pauses settings.skew_max (passing_since settings old copies) over (each_since (IsOnItsWay timing) settings old copies times.ways)

pub short_is_near : (settings : Settings) (numbering : Numbering) (timing : Timing) (copies : List Copy) → KeepsTimes numbering timing copies → IsOverSoon timing settings.skew_max
    → BeginNear settings.skew_max copies × BeginNear settings.skew_max (passing_since settings [] copies)
short_is_near settings numbering timing copies times over =
    (begin_near numbering timing times.gaps times.pauses settings.skew_max copies over times.ways, since_is_near settings numbering timing [] copies times over)

-- ---- at the latest when SkewMax is over since each old frame that was forwarded

none_forwarded : (settings : Settings) (old : List Event) (copies : List Copy) → passing_since settings old copies ≡ [] → forwarded settings (events_since copies old) ≡ forwarded settings old
none_forwarded settings old [] none = refl
none_forwarded settings old (copy ∷ before) none =
    ⊎_elim
    (λ (is : counts settings (events_since before old) (arrival_of copy.event) (passing_since settings old before) ≡ true). let e : copy ∷ passing_since settings old before ≡ [] = rw is at none in cc)
    (λ (is : counts settings (events_since before old) (arrival_of copy.event) (passing_since settings old before) ≡ false).
    let before_none : passing_since settings old before ≡ [] = rw is at none in
    let not_forwarded : is_forwarded settings (events_since before old) (arrival_of copy.event) ≡ false =
    sym (ap (counts settings (events_since before old) (arrival_of copy.event)) before_none) ∙ is in
    rw not_forwarded (none_forwarded settings old before before_none))
    (cases_Bool (counts settings (events_since before old) (arrival_of copy.event) (passing_since settings old before)))

forwarded_first : (settings : Settings) (frames : List Forwarded) (past : List Event) (a : Arrival) → passes settings past a ≡ true
    → (frames ≡ []) ⊎ (greatest_time frames + settings.skew_max < a.time) → is_forwarded_after settings frames past a ≡ true
forwarded_first settings frames past a pass over = rw (pass, first_when_over settings.skew_max frames (sequence_number_of a.frame) a.time over) (go settings.redundancy)
  where
    go : (on : Bool) → (true && not (on && not true)) ≡ true
    go true = refl
    go false = refl

pub counts_at_last : (settings : Settings) (old : List Event) (copy : Copy) (before : List Copy) → passes settings (events_since before old) (arrival_of copy.event) ≡ true
    → EachForwarded settings (λ e. e.time + settings.skew_max < copy.event.time) old → passing_since settings old (copy ∷ before) ≡ copy ∷ passing_since settings old before
counts_at_last settings old copy before pass over =
    let is : counts settings (events_since before old) (arrival_of copy.event) (passing_since settings old before) ≡ true = go (passing_since settings old before) refl in
    rw is refl
  where
    go : (some : List Copy) → passing_since settings old before ≡ some → counts settings (events_since before old) (arrival_of copy.event) some ≡ true
    go [] none =
        ap (λ (frames : List Forwarded). is_forwarded_after settings frames (events_since before old) (arrival_of copy.event)) (none_forwarded settings old before none)
        ∙ forwarded_first settings (forwarded settings old) (events_since before old) (arrival_of copy.event) pass (all_over settings copy.event.time old over)
    go (one ∷ some) is = pass

-- ---- with no old past these are the copies that pass

pub counts_alone : (settings : Settings) (copy : Copy) (before : List Copy)
    → counts settings (events_since before []) (arrival_of copy.event) (passing_since settings [] before) ≡ passes settings (events_of_copies before) (arrival_of copy.event)
counts_alone settings copy before = go (passing_since settings [] before) refl
  where
    go : (some : List Copy) → passing_since settings [] before ≡ some → counts settings (events_since before []) (arrival_of copy.event) some ≡ passes settings (events_since before []) (arrival_of copy.event)
    go (one ∷ some) is = refl
    go [] none =
        ⊎_elim
        (λ (pass : passes settings (events_since before []) (arrival_of copy.event) ≡ true).
        ap (λ (frames : List Forwarded). is_forwarded_after settings frames (events_since before []) (arrival_of copy.event)) (none_forwarded settings [] before none)
        ∙ forwarded_first settings [] (events_since before []) (arrival_of copy.event) pass (inl refl) ∙ sym pass)
        (λ (fails : passes settings (events_since before []) (arrival_of copy.event) ≡ false). refused settings (events_since before []) (arrival_of copy.event) fails ∙ sym fails)
        (cases_Bool (passes settings (events_since before []) (arrival_of copy.event)))

pub none_before : (settings : Settings) (copies : List Copy) → ComeAfter settings [] copies
none_before settings [] = tt
none_before settings (copy ∷ before) = (tt, none_before settings before)

-- what holds of each copy holds of those that are forwarded
pub each_forwarded : (Holds : Copy → Type 0) (settings : Settings) (old : List Event) (copies : List Copy) → EachCopy (λ before copy. Holds copy) copies → EachCopy (λ before copy. Holds copy) (forwarded_since settings old copies)
each_forwarded Holds settings old [] each = tt
each_forwarded Holds settings old (copy ∷ before) each =
    let rest = each_forwarded Holds settings old before each.1 in by_if (EachCopy (λ before copy. Holds copy)) (is_forwarded settings (events_since before old) (arrival_of copy.event)) (copy ∷ forwarded_since settings old before) (forwarded_since settings old before) (λ is. (each.0, rest)) (λ is. rest)
