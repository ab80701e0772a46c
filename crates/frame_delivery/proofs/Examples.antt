-- The examples.
use Rattle.std.proofs.Common.{◌≡◌, ◌∙◌, ap, ℕ, ◌+◌, ◌≤◌, ◌<◌, sym, zero, suc, inl, inr, true, List, [], ◌∷◌, ◌++◌, refl, arith, ⊎_elim}
use Rattle.std.specs.Prelude.{◌⊎◌}
use Rattle.std.proofs.lemmas.Bool.{false≢true}
use Rattle.es_base.specs.declared.place.Net.TheVariants as nets
use Rattle.link_rules.specs.Redundancy.{forwarded}
use Rattle.es_base.specs.Settings.{Settings}
use Rattle.frame_delivery.specs.Sending.{Copy, HaveNumbers, Numbering, RunsOn, events_of_copies, events_since}
use Rattle.frame_delivery.specs.Once.{as_forwarded, FirstsInOrder}
use Rattle.frame_delivery.specs.Network.{BeginNear, ComeWhole, HasNoOvertaking, KeepOrderTogether, KeepsOrder, KeepsTimes, LosesNoneOf, LosesFew, Timing, copies_on, BringsInRow, ComeTimely, IsNeverLate}
use Rattle.frame_delivery.specs.Conditions.{AreCopies, Condition, IsMet, MeetAllBut, covers, firsts, late, late_restart, losses, near, restarts}
use Rattle.frame_delivery.specs.Examples.{after_skew_max, behind_a_restart, far_apart, far_behind, frame_at, from_57, from_one, link, numbering, overtaken, slower_network, slower_on_b, soon_restarted, timed, timing, two_lost, wide_link, with_losses, after_strange, from_ten, of_later_time, one_network_out, received, restarted, strange, stranger_passes}
use Rattle.frame_delivery.proofs.Main.{firsts_are_forwarded}
use Rattle.frame_delivery.proofs.Since.{forwarded_are, short_is_near, short_in_order, since_is_near}
use Rattle.frame_delivery.proofs.Firsts.{come_at_most}
use Rattle.frame_delivery.proofs.Together.{firsts_together}
use Rattle.frame_delivery.proofs.Times.{apart_not_late, short_firsts}
use Rattle.frame_delivery.specs.Since.{ComeAfter, PassInOrder, passing_since}

-- ---- all is met

numbers_met : HaveNumbers numbering with_losses
numbers_met = (refl, (refl, (refl, (refl, (refl, (refl, tt))))))

losses_met : LosesFew numbering 2 with_losses
losses_met = (inl (omega arith, λ index after within. refl), (inl (omega arith, λ index after within. refl), (inl (omega arith, λ index after within. refl), (inl (omega arith, λ index after within. refl), (tt, (tt, tt))))))

near_met : (skew_max : ℕ) → BeginNear skew_max with_losses
near_met skew_max = (λ cut soon. omega arith, (λ cut soon. omega arith, (λ cut soon. omega arith, (λ cut soon. omega arith, (λ cut soon. omega arith, (tt, tt))))))

times_met : (pause : ℕ) → KeepsTimes numbering (timed 1000 pause 100 900 100) with_losses
times_met pause = record {
  gaps = λ index. omega arith;
  pauses = λ index is. absurd (false≢true is);
  ways = ((omega arith, omega arith), ((omega arith, omega arith), ((omega arith, omega arith), ((omega arith, omega arith), ((omega arith, omega arith), ((omega arith, omega arith), tt))))));
  order = (omega arith, (omega arith, (omega arith, (omega arith, (omega arith, (omega arith, tt))))));
}

pub all_met : (skew_max pause : ℕ) → 800 ≤ skew_max → skew_max + 800 < pause → ComeWhole (link skew_max) numbering (timed 1000 pause 100 900 100) with_losses
all_met skew_max pause covering over = record {
  timely = record { redundancy = refl; first = omega arith; numbers = numbers_met; times = times_met pause; fits = record { covers = omega (arith, covering); restarts = omega (arith, over) } };
  near = near_met skew_max;
  losses = losses_met;
  on_time = apart_not_late (timed 1000 pause 100 900 100) (omega arith);
  firsts = short_firsts numbering (timed 1000 pause 100 900 100) with_losses (times_met pause) (omega arith);
}

pub met_forwarded : (skew_max : ℕ) → 800 ≤ skew_max → forwarded (link skew_max) (events_of_copies with_losses) ≡ frame_at 2 3100 ∷ frame_at 1 2200 ∷ frame_at 255 1500 ∷ frame_at 254 100 ∷ []
met_forwarded skew_max covering =
    let whole = all_met skew_max (skew_max + 801) covering (omega arith) in
    forwarded_are (link skew_max) [] with_losses ∙ ap (λ (some : List Copy). as_forwarded some ++ []) (firsts_are_forwarded (link skew_max) numbering (timed 1000 (skew_max + 801) 100 900 100) with_losses whole).0

-- where one network is slower than the other by more than a gap
abbrev apart_by_more : Timing
apart_by_more = timed 1000 4000 100 1300 0

slower_times : KeepsTimes from_one apart_by_more slower_network
slower_times = record {
  gaps = λ index. omega arith;
  pauses = λ index is. absurd (false≢true is);
  ways = ((omega arith, omega arith), ((omega arith, omega arith), ((omega arith, omega arith), ((omega arith, omega arith), ((omega arith, omega arith), tt)))));
  order = (omega arith, (omega arith, (omega arith, (omega arith, (omega arith, tt)))));
}

-- A brings all that B does
slower_none : LosesNoneOf nets.A nets.B slower_network
slower_none zero later less come come_later = refl
slower_none (suc zero) later less come come_later = refl
slower_none (suc (suc index)) later less come come_later = let most : suc (suc index) ≤ 1 = come_at_most (suc (suc index)) (copies_on nets.B slower_network) come in absurd (omega (arith, most))

slower_together : KeepOrderTogether apart_by_more slower_on_b slower_network
slower_together = record {
  gaps = λ index. omega arith;
  order = (omega arith, (omega arith, (tt, (omega arith, (tt, tt)))));
  ways = ((omega arith, omega arith), ((omega arith, omega arith), ((omega arith, omega arith), ((omega arith, omega arith), ((omega arith, omega arith), tt)))));
  taken = slower_times.order;
  a = inl (omega arith);
  b = inr slower_none;
}

pub slower_met : ComeWhole (link 1200) from_one (timed 1000 4000 100 1300 0) slower_network × KeepOrderTogether (timed 1000 4000 100 1300 0) slower_on_b slower_network
    × (HasNoOvertaking (timed 1000 4000 100 1300 0) → ⊥) × (forwarded (link 1200) (events_of_copies slower_network) ≡ frame_at 3 2100 ∷ frame_at 2 1100 ∷ frame_at 1 100 ∷ [])
slower_met = (
  record {
    timely = record { redundancy = refl; first = omega arith; numbers = (refl, (refl, (refl, (refl, (refl, tt))))); times = slower_times; fits = record { covers = omega arith; restarts = omega arith } };
    near = (short_is_near (link 1200) from_one apart_by_more slower_network slower_times (omega arith)).0;
    losses = (inl (omega arith, λ index after within. refl), (inl (omega arith, λ index after within. refl), (tt, (inl (omega arith, λ index after within. refl), (tt, tt)))));
    on_time = record { frames = omega arith; restarts = omega arith };
    firsts = firsts_together apart_by_more slower_on_b slower_network slower_together;
  },
  slower_together,
  λ apart. absurd (omega (arith, apart)),
  refl,
)

-- ---- one thing isn't

-- of a condition, in an example of the one that isn't met: it is this one, or it is met
abbrev OneOrMet : Condition → Settings → Numbering → Timing → List Copy → Condition → Type 0
OneOrMet one settings numbering timing copies condition = (condition ≡ one) ⊎ IsMet condition settings numbering timing copies

pub all_but : (one : Condition) (settings : Settings) (numbering : Numbering) (timing : Timing) (copies : List Copy) → AreCopies settings numbering timing copies
    → OneOrMet one settings numbering timing copies covers × OneOrMet one settings numbering timing copies restarts → OneOrMet one settings numbering timing copies near
    → OneOrMet one settings numbering timing copies losses → OneOrMet one settings numbering timing copies firsts
    → OneOrMet one settings numbering timing copies late × OneOrMet one settings numbering timing copies late_restart → (IsMet one settings numbering timing copies → ⊥)
    → MeetAllBut one settings numbering timing copies
all_but one settings numbering timing copies are skew is_near few in_order soon not_met =
    record { are = are; others = λ other differ. ⊎_elim (λ same. absurd (differ same)) (λ met. met) (of_each other); not_met = not_met }
  where
    of_each : (condition : Condition) → OneOrMet one settings numbering timing copies condition
    of_each covers = skew.0
    of_each restarts = skew.1
    of_each near = is_near
    of_each losses = few
    of_each firsts = in_order
    of_each late = soon.0
    of_each late_restart = soon.1

after_skew_max_times : KeepsTimes from_one (timed 2000 4000 100 1101 0) after_skew_max
after_skew_max_times = record { gaps = λ index. omega arith; pauses = λ index is. absurd (false≢true is); ways = ((omega arith, omega arith), ((omega arith, omega arith), tt)); order = (omega arith, (omega arith, tt)) }

pub forwarded_twice : MeetAllBut covers (link 1000) from_one (timed 2000 4000 100 1101 0) after_skew_max
    × (forwarded (link 1000) (events_of_copies after_skew_max) ≡ frame_at 1 1101 ∷ frame_at 1 100 ∷ [])
forwarded_twice = (
  all_but covers (link 1000) from_one (timed 2000 4000 100 1101 0) after_skew_max (record { redundancy = refl; first = omega arith; numbers = (refl, (refl, tt)); times = after_skew_max_times }) (inl refl, inr (omega arith))
      (inr (short_is_near (link 1000) from_one (timed 2000 4000 100 1101 0) after_skew_max after_skew_max_times (omega arith)))
      (inr (tt, (tt, tt))) (inr (short_firsts from_one (timed 2000 4000 100 1101 0) after_skew_max after_skew_max_times (omega arith)))
      (inr (omega arith), inr (omega arith)) (λ is. absurd (omega (arith, is))),
  refl,
)

overtaken_times : KeepsTimes from_one (timed 1000 4000 100 1100 0) overtaken
overtaken_times = record { gaps = λ index. omega arith; pauses = λ index is. absurd (false≢true is); ways = ((omega arith, omega arith), ((omega arith, omega arith), ((omega arith, omega arith), ((omega arith, omega arith), ((omega arith, omega arith), tt))))); order = (omega arith, (omega arith, (omega arith, (omega arith, (omega arith, tt))))) }

pub overtaken_is_lost : MeetAllBut firsts (link 1000) from_one (timed 1000 4000 100 1100 0) overtaken × KeepsOrder overtaken
    × (forwarded (link 1000) (events_of_copies overtaken) ≡ frame_at 3 2100 ∷ frame_at 1 100 ∷ [])
overtaken_is_lost = (
  all_but firsts (link 1000) from_one (timed 1000 4000 100 1100 0) overtaken (record { redundancy = refl; first = omega arith; numbers = (refl, (refl, (refl, (refl, (refl, tt))))); times = overtaken_times }) (inr (omega arith), inr (omega arith))
      (inr (short_is_near (link 1000) from_one (timed 1000 4000 100 1100 0) overtaken overtaken_times (omega arith)))
      (inr (inl (omega arith, λ index after within. refl), (inl (omega arith, λ index after within. refl), (inl (omega arith, λ index after within. refl), (tt, (tt, tt)))))) (inl refl)
      (inr (omega arith), inr (omega arith)) (λ is. false≢true (is.1.0 refl)),
  (omega arith, (omega arith, (omega arith, (tt, (tt, tt))))),
  refl,
)

two_lost_times : KeepsTimes from_one timing two_lost
two_lost_times = record { gaps = λ index. omega arith; pauses = λ index is. absurd (false≢true is); ways = ((omega arith, omega arith), ((omega arith, omega arith), ((omega arith, omega arith), ((omega arith, omega arith), tt)))); order = (omega arith, (omega arith, (omega arith, (omega arith, tt)))) }

two_are_too_many : LosesFew from_one 2 two_lost → ⊥
two_are_too_many is = go is.0
  where
    go : ((3 ≤ 0 + 2) × RunsOn from_one 0 3) ⊎ (from_one.restarts 3 ≡ true) → ⊥
    go (inl few) = let three = few.0 in absurd (omega (arith, three))
    go (inr again) = cc

pub after_two_is_lost : MeetAllBut losses (link 1000) from_one timing two_lost
    × (forwarded (link 1000) (events_of_copies two_lost) ≡ frame_at 1 100 ∷ [])
after_two_is_lost = (
  all_but losses (link 1000) from_one timing two_lost (record { redundancy = refl; first = omega arith; numbers = (refl, (refl, (refl, (refl, tt)))); times = two_lost_times }) (inr (omega arith), inr (omega arith))
      (inr (short_is_near (link 1000) from_one timing two_lost two_lost_times (omega arith)))
      (inl refl) (inr (short_firsts from_one timing two_lost two_lost_times (omega arith)))
      (inr (omega arith), inr (omega arith)) two_are_too_many,
  refl,
)

far_apart_times : KeepsTimes from_one (timed 1000 200000 100 100 0) far_apart
far_apart_times = record { gaps = λ index. omega arith; pauses = λ index is. absurd (false≢true is); ways = ((omega arith, omega arith), ((omega arith, omega arith), tt)); order = (omega arith, (omega arith, tt)) }

pub far_is_lost : MeetAllBut near (link 128000) from_one (timed 1000 200000 100 100 0) far_apart
    × (forwarded (link 128000) (events_of_copies far_apart) ≡ frame_at 1 100 ∷ [])
far_is_lost = (
  all_but near (link 128000) from_one (timed 1000 200000 100 100 0) far_apart (record { redundancy = refl; first = omega arith; numbers = (refl, (refl, tt)); times = far_apart_times }) (inr (omega arith), inr (omega arith))
      (inl refl)
      (inr (tt, (tt, tt))) (inr (short_firsts from_one (timed 1000 200000 100 100 0) far_apart far_apart_times (omega arith)))
      (inr (omega arith), inr (omega arith)) (λ is. let most = is.0.0 tt (omega arith) in absurd (omega (arith, most))),
  refl,
)

soon_restarted_times : KeepsTimes from_57 (timed 1000 1000 100 100 0) soon_restarted
soon_restarted_times = record { gaps = λ index. omega arith; pauses = λ index is. omega arith; ways = ((omega arith, omega arith), ((omega arith, omega arith), tt)); order = (omega arith, (omega arith, tt)) }

pub restart_is_lost : MeetAllBut restarts (link 1000) from_57 (timed 1000 1000 100 100 0) soon_restarted
    × (forwarded (link 1000) (events_of_copies soon_restarted) ≡ frame_at 57 100 ∷ [])
restart_is_lost = (
  all_but restarts (link 1000) from_57 (timed 1000 1000 100 100 0) soon_restarted (record { redundancy = refl; first = omega arith; numbers = (refl, (refl, tt)); times = soon_restarted_times }) (inr (omega arith), inl refl)
      (inr (short_is_near (link 1000) from_57 (timed 1000 1000 100 100 0) soon_restarted soon_restarted_times (omega arith)))
      (inr (inr refl, (tt, tt))) (inr (short_firsts from_57 (timed 1000 1000 100 100 0) soon_restarted soon_restarted_times (omega arith)))
      (inr (omega arith), inr (omega arith)) (λ is. absurd (omega (arith, is))),
  refl,
)

far_behind_times : KeepsTimes from_one (timed 1000 300000 100 128100 0) far_behind
far_behind_times = record { gaps = λ index. omega arith; pauses = λ index is. absurd (false≢true is); ways = ((omega arith, omega arith), ((omega arith, omega arith), ((omega arith, omega arith), ((omega arith, omega arith), tt)))); order = (omega arith, (omega arith, (omega arith, (omega arith, tt)))) }

pub far_behind_is_forwarded : MeetAllBut late wide_link from_one (timed 1000 300000 100 128100 0) far_behind
    × (forwarded wide_link (events_of_copies far_behind) ≡ frame_at 1 128100 ∷ frame_at 129 128100 ∷ frame_at 65 64100 ∷ frame_at 1 100 ∷ [])
far_behind_is_forwarded = (
  all_but late wide_link from_one (timed 1000 300000 100 128100 0) far_behind (record { redundancy = refl; first = omega arith; numbers = (refl, (refl, (refl, (refl, tt)))); times = far_behind_times }) (inr (omega arith), inr (omega arith))
      (inr ((λ cut soon. omega arith, (λ cut soon. omega arith, (λ cut soon. omega arith, (tt, tt)))), (λ cut soon. omega arith, (λ cut soon. omega arith, (λ cut soon. omega arith, (tt, tt))))))
      (inr (tt, (inl (omega arith, λ index after within. refl), (inl (omega arith, λ index after within. refl), (tt, tt))))) (inr (λ old. refl, (λ old. absurd (false≢true (sym old)), (λ old. absurd (false≢true (sym old)), (λ old. absurd (false≢true (sym old)), tt)))))
      (inl refl, inr (omega arith)) (λ is. absurd (omega (arith, is))),
  refl,
)

behind_a_restart_times : KeepsTimes from_57 (timed 2000 2000 100 100 2000) behind_a_restart
behind_a_restart_times = record { gaps = λ index. omega arith; pauses = λ index is. omega arith; ways = ((omega arith, omega arith), ((omega arith, omega arith), ((omega arith, omega arith), tt))); order = (omega arith, (omega arith, (omega arith, tt))) }

pub behind_a_restart_is_forwarded : MeetAllBut late_restart (link 1000) from_57 (timed 2000 2000 100 100 2000) behind_a_restart
    × (forwarded (link 1000) (events_of_copies behind_a_restart) ≡ frame_at 57 100 ∷ frame_at 0 2100 ∷ frame_at 57 100 ∷ [])
behind_a_restart_is_forwarded = (
  all_but late_restart (link 1000) from_57 (timed 2000 2000 100 100 2000) behind_a_restart (record { redundancy = refl; first = omega arith; numbers = (refl, (refl, (refl, tt))); times = behind_a_restart_times }) (inr (omega arith), inr (omega arith))
      (inr (short_is_near (link 1000) from_57 (timed 2000 2000 100 100 2000) behind_a_restart behind_a_restart_times (omega arith)))
      (inr (tt, (inr refl, (tt, tt)))) (inr (λ old. refl, (λ old. absurd (false≢true (sym old)), (λ old. absurd (false≢true (sym old)), tt))))
      (inr (omega arith), inl refl) (λ is. absurd (omega (arith, is))),
  refl,
)

-- ---- examples of a network that is out, and of a link that recovers

-- ---- a network is out

out_times : KeepsTimes from_one timing one_network_out
out_times = record {
  gaps = λ index. omega arith;
  pauses = λ index is. absurd (false≢true is);
  ways = ((omega arith, omega arith), ((omega arith, omega arith), ((omega arith, omega arith), ((omega arith, omega arith), ((omega arith, omega arith), ((omega arith, omega arith), ((omega arith, omega arith), tt)))))));
  order = (omega arith, (omega arith, (omega arith, (omega arith, (omega arith, (omega arith, (omega arith, tt)))))));
}

three_are_too_many : LosesFew from_one 2 one_network_out → ⊥
three_are_too_many is = go is.0
  where
    go : ((4 ≤ 0 + 2) × RunsOn from_one 0 4) ⊎ (from_one.restarts 4 ≡ true) → ⊥
    go (inl few) = let four = few.0 in absurd (omega (arith, four))
    go (inr again) = cc

in_row_on_a : BringsInRow from_one 2 nets.A one_network_out
in_row_on_a = record {
  numbers = (refl, (refl, (refl, (refl, (refl, tt)))));
  order = (omega arith, (omega arith, (omega arith, (omega arith, (tt, tt)))));
  losses = (
    inl (omega arith, λ index after within. refl),
    (inl (omega arith, λ index after within. refl), (inl (omega arith, λ index after within. refl), (inl (omega arith, λ index after within. refl), (tt, tt)))),
  );
}

pub one_is_enough : MeetAllBut losses (link 1000) from_one timing one_network_out × BringsInRow from_one 2 nets.A one_network_out
    × (forwarded (link 1000) (events_of_copies one_network_out) ≡ frame_at 5 4100 ∷ frame_at 4 3100 ∷ frame_at 3 2100 ∷ frame_at 2 1100 ∷ frame_at 1 100 ∷ [])
one_is_enough = (
  all_but losses (link 1000) from_one timing one_network_out (record { redundancy = refl; first = omega arith; numbers = (refl, (refl, (refl, (refl, (refl, (refl, (refl, tt))))))); times = out_times })
      (inr (omega arith), inr (omega arith)) (inr (short_is_near (link 1000) from_one timing one_network_out out_times (omega arith))) (inl refl)
      (inr (short_firsts from_one timing one_network_out out_times (omega arith))) (inr (omega arith), inr (omega arith)) three_are_too_many,
  in_row_on_a,
  refl,
)

-- ---- frames of no sender, and then a sender's

abbrev slow : Timing
slow = timed 1000 3000 100 900 100

strange_times : KeepsTimes from_ten slow (received nets.A 2 12 2100 ∷ received nets.B 1 11 1900 ∷ [])
strange_times = record {
  gaps = λ index. omega arith;
  pauses = λ index is. absurd (false≢true is);
  ways = ((omega arith, omega arith), ((omega arith, omega arith), tt));
  order = (omega arith, (omega arith, tt));
}

strange_pass : PassInOrder (link 1500) from_ten slow strange after_strange
strange_pass = record {
  timely = record {
    timely = record { redundancy = refl; first = omega arith; numbers = (refl, (refl, tt)); times = strange_times; fits = record { covers = omega arith; restarts = omega arith } };
    on_time = apart_not_late slow (omega arith);
    near = (short_is_near (link 1500) from_ten slow (received nets.A 2 12 2100 ∷ received nets.B 1 11 1900 ∷ []) strange_times (omega arith)).0;
    after = ((λ is. omega arith, (λ is. omega arith, tt)), ((λ is. omega arith, (λ is. omega arith, tt)), tt));
  };
  firsts = short_firsts from_ten slow (received nets.A 2 12 2100 ∷ received nets.B 1 11 1900 ∷ []) strange_times (omega arith);
}

pub strange_recovers : PassInOrder (link 1500) from_ten (timed 1000 3000 100 900 100) strange after_strange
    × (passing_since (link 1500) strange after_strange ≡ received nets.A 2 12 2100 ∷ received nets.B 1 11 1900 ∷ [])
    × (forwarded (link 1500) (events_since after_strange strange) ≡ frame_at 12 2100 ∷ frame_at 11 1900 ∷ frame_at 50 60 ∷ frame_at 200 50 ∷ [])
strange_recovers = (strange_pass, refl, refl)

-- ---- a frame with a time that is too late

later_timely : ComeTimely (link 1000) from_57 (timed 3000 3000 100 100 0) restarted
later_timely = record {
  redundancy = refl;
  first = omega arith;
  numbers = (refl, (refl, tt));
  times = record { gaps = λ index. omega arith; pauses = λ index is. omega arith; ways = ((omega arith, omega arith), ((omega arith, omega arith), tt)); order = (omega arith, (omega arith, tt)) };
  fits = record { covers = omega arith; restarts = omega arith };
}

pub later_is_lost : ComeTimely (link 1000) from_57 (timed 3000 3000 100 100 0) restarted × IsNeverLate (timed 3000 3000 100 100 0) × FirstsInOrder (passing_since (link 1000) of_later_time restarted) × BeginNear 1000 (passing_since (link 1000) of_later_time restarted)
    × (passing_since (link 1000) of_later_time restarted ≡ restarted) × (ComeAfter (link 1000) of_later_time restarted → ⊥)
    × (forwarded (link 1000) (events_since restarted of_later_time) ≡ frame_at 57 100 ∷ frame_at 50 5000 ∷ [])
later_is_lost = (
  later_timely,
  apart_not_late (timed 3000 3000 100 100 0) (omega arith),
  short_in_order (link 1000) from_57 (timed 3000 3000 100 100 0) of_later_time restarted later_timely.times (omega arith),
  since_is_near (link 1000) from_57 (timed 3000 3000 100 100 0) of_later_time restarted later_timely.times (omega arith),
  refl,
  λ after. let soon = after.0.0 refl in absurd (omega (arith, soon)),
  refl,
)

-- ---- where all pass

pub needed_too : (passing_since (link 1000) [] after_skew_max ≡ after_skew_max) × (passing_since (link 1000) [] overtaken ≡ overtaken) × (passing_since (link 128000) [] far_apart ≡ far_apart)
    × (passing_since (link 1000) [] soon_restarted ≡ soon_restarted) × (passing_since wide_link [] far_behind ≡ far_behind) × (passing_since (link 1000) [] behind_a_restart ≡ behind_a_restart)
needed_too = (refl, refl, refl, refl, refl, refl)

-- ---- where a stranger's frame passes on the other network

pub stranger_hides : BringsInRow from_one 2 nets.A stranger_passes × (passing_since (link 1000) [] stranger_passes ≡ stranger_passes)
    × (forwarded (link 1000) (events_of_copies stranger_passes) ≡ frame_at 50 200 ∷ frame_at 1 100 ∷ [])
stranger_hides = (record { numbers = (refl, (refl, tt)); order = (omega arith, (tt, tt)); losses = (inl (omega arith, λ index after within. refl), (tt, tt)) }, refl, refl)
