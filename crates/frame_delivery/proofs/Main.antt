-- Where networks lose few, what is asked of all copies holds of those that pass, and none is lost.
use Rattle.std.proofs.Common.{◌≡◌, ◌∙◌, sym, ap, subst, ℕ, Bool, true, false, not, List, [], ◌∷◌, refl, arith, ⊎_elim}
use Rattle.std.specs.Prelude.{◌==◌, ◌&&◌, ◌||◌}
use Rattle.std.proofs.lemmas.Bool.{and_right, both_ways, cases_Bool, eq-eqb, eqb-true, false≢true, or_left, or_cases, or_right}
use Rattle.es_base.specs.Past.{arrival_of}
use Rattle.link_rules.specs.Copies.{greatest_time}
use Rattle.link_rules.specs.Redundancy.{is_forwarded}
use Rattle.es_base.specs.Settings.{Settings}
use Rattle.frame_delivery.specs.Sending.{Copy, EachCopy, HaveNumbers, Numbering, events_of_copies}
use Rattle.frame_delivery.specs.Once.{AreInOrder, FirstsInOrder, as_forwarded, first_copies, greatest_index, has_come, is_new, new_copies, newest_time}
use Rattle.frame_delivery.specs.Network.{BeginNear, BeginsNear, ComeTimely, ComeWhole, HasAge, IsNeverLate, IsOnItsWay, KeepsOrder, KeepsTimes, LosesFew, Timing, BringsInRow, IsLater, MayFollow, copies_on, indices_on}
use Rattle.frame_delivery.specs.Since.{PassInOrder, counts, forwarded_since, passing_since}
use Rattle.frame_delivery.specs.Conditions as conditions
use Rattle.frame_delivery.specs.Conditions.{AreCopies, Condition, IsMet}
use Rattle.frame_delivery.proofs.Firsts.{each_first, first_are_new, new_are_first, new_has_not_come, new_is_first, all_have_first}
use Rattle.frame_delivery.proofs.Passing.{copy_passes, new_passes, itself, passes_here, same_net}
use Rattle.frame_delivery.proofs.Since.{new_by_news, same_greatest, all_pass_timely, by_counts, counts_alone, first_if, firsts_since, news_since, none_before}
use Rattle.frame_delivery.proofs.Times.{near_the_newest}
use Rattle.es_base.specs.declared.place.Net.{Net}
use Rattle.es_base.specs.Networks.{is_same_net}
use Rattle.link_rules.specs.Integrity.{latest, passes}

-- ---- some copies that leave out none that is the first of its frame

record SameAs (all some : List Copy) : Type 0 where
  come : (index : ℕ) → has_come index some ≡ has_come index all
  firsts : first_copies some ≡ first_copies all
  news : new_copies some ≡ new_copies all

with_copy : (copy : Copy) (before some : List Copy) → SameAs before some → SameAs (copy ∷ before) (copy ∷ some)
with_copy copy before some same =
    let come = same.come copy.index in
    let new : is_new copy.index some ≡ is_new copy.index before = sym (new_by_news copy.index some) ∙ ap (is_new copy.index) same.news ∙ new_by_news copy.index before in
    record {
      come = λ index. ap (λ b. (copy.index == index) || b) (same.come index);
      firsts =
          ⊎_elim
          (λ (old : has_come copy.index before ≡ true). rw (come ∙ old, old) same.firsts)
          (λ (first : has_come copy.index before ≡ false). rw (come ∙ first, first) (ap (λ (copies : List Copy). copy ∷ copies) same.firsts))
          (cases_Bool (has_come copy.index before));
      news =
          ⊎_elim
          (λ (is : is_new copy.index before ≡ true). rw (new ∙ is, is) (ap (λ (copies : List Copy). copy ∷ copies) same.news))
          (λ (old : is_new copy.index before ≡ false). rw (new ∙ old, old) same.news)
          (cases_Bool (is_new copy.index before));
    }

without_copy : (copy : Copy) (before some : List Copy) → has_come copy.index before ≡ true → SameAs before some → SameAs (copy ∷ before) some
without_copy copy before some old same = record {
  come = λ index.
      same.come index
      ∙ ⊎_elim
      (λ (is : (copy.index == index) ≡ true). rw is (ap (λ (i : ℕ). has_come i before) (sym (eqb-true copy.index index is)) ∙ old))
      (λ (is : (copy.index == index) ≡ false). rw is refl)
      (cases_Bool (copy.index == index));
  firsts = rw old same.firsts;
  news =
      ⊎_elim
      (λ (new : is_new copy.index before ≡ true). absurd (both_ways (has_come copy.index before) (new_has_not_come copy.index before new) old))
      (λ (is : is_new copy.index before ≡ false). rw is same.news)
      (cases_Bool (is_new copy.index before));
}

-- ---- where few are lost, the first copy of each frame passes

module _ (settings : Settings) (numbering : Numbering) where
  all_but_further : (copies : List Copy) → HaveNumbers numbering copies → LosesFew numbering settings.window copies → FirstsInOrder copies → SameAs copies (passing_since settings [] copies)
  all_but_further [] numbers losses firsts = record { come = λ index. refl; firsts = refl; news = refl }
  all_but_further (copy ∷ before) numbers losses firsts =
      let rest = all_but_further before numbers.1 losses.1 firsts.1 in
      by_counts settings [] copy before (SameAs (copy ∷ before)) (λ is. with_copy copy before (passing_since settings [] before) rest)
      (λ is.
      ⊎_elim
      (λ (old : has_come copy.index before ≡ true). without_copy copy before (passing_since settings [] before) old rest)
      (λ (first : has_come copy.index before ≡ false).
      let passes = counts_alone settings copy before ∙ new_passes settings numbering copy before numbers losses (new_is_first copy before firsts.0 ∙ ap not first) in
      absurd (both_ways (counts settings (events_of_copies before) (arrival_of copy.event) (passing_since settings [] before)) is passes))
      (cases_Bool (has_come copy.index before)))

  -- and those that pass are as near as all
  passing_near : (copies : List Copy) → HaveNumbers numbering copies → LosesFew numbering settings.window copies → FirstsInOrder copies → BeginNear settings.skew_max copies
      → BeginNear settings.skew_max (passing_since settings [] copies)
  passing_near [] numbers losses firsts near = tt
  passing_near (copy ∷ before) numbers losses firsts near =
      let rest = passing_near before numbers.1 losses.1 firsts.1 near.1 in
      by_counts settings [] copy before (BeginNear settings.skew_max) (λ is. (begins before (passing_since settings [] before) (all_but_further before numbers.1 losses.1 firsts.1) near.0, rest)) (λ is. rest)
    where
      begins : (before some : List Copy) → SameAs before some → BeginsNear settings.skew_max before copy → BeginsNear settings.skew_max some copy
      begins before [] same near = tt
      begins [] (one ∷ some) same near = λ cut soon. let none = same.come one.index in absurd (false≢true (sym none ∙ or_left _ _ (eq-eqb one.index one.index refl)))
      begins (other ∷ before) (one ∷ some) same near = λ cut soon.
          let newest : newest_time (one ∷ some) ≡ newest_time (other ∷ before) = ap (λ copies. greatest_time (as_forwarded copies)) same.news in
          let greatest : greatest_index (one ∷ some) ≡ greatest_index (other ∷ before) = sym (same_greatest (one ∷ some)) ∙ ap greatest_index same.news ∙ same_greatest (other ∷ before) in
          let close = near_the_newest settings.skew_max other before copy near (omega (arith, soon, newest)) in
          omega (arith, close, greatest)

-- so what is asked of all holds of those that pass, and their first copies are those of all
pub whole_passes : (settings : Settings) (numbering : Numbering) (timing : Timing) (copies : List Copy) → ComeWhole settings numbering timing copies
    → PassInOrder settings numbering timing [] copies × (first_copies (passing_since settings [] copies) ≡ first_copies copies)
whole_passes settings numbering timing copies come =
    let numbers = come.timely.numbers in
    let same = all_but_further settings numbering copies numbers come.losses come.firsts in (
      record {
        timely = all_pass_timely settings numbering timing [] copies come.timely come.on_time (passing_near settings numbering copies numbers come.losses come.firsts come.near) (none_before settings copies);
        firsts = first_are_new (passing_since settings [] copies) (same.news ∙ new_are_first copies come.firsts ∙ sym same.firsts);
      },
      same.firsts,
    )

pub firsts_are_forwarded : (settings : Settings) (numbering : Numbering) (timing : Timing) (copies : List Copy) → ComeWhole settings numbering timing copies
    → (forwarded_since settings [] copies ≡ first_copies copies) × AreInOrder (first_copies copies)
firsts_are_forwarded settings numbering timing copies come =
    let (pass, same) = whole_passes settings numbering timing copies come in
    subst (λ (some : List Copy). (forwarded_since settings [] copies ≡ some) × AreInOrder some) same (firsts_since settings numbering timing [] copies pass)

pub whole_first_if : (settings : Settings) (numbering : Numbering) (timing : Timing) (copy : Copy) (before : List Copy) → ComeWhole settings numbering timing (copy ∷ before)
    → is_forwarded settings (events_of_copies before) (arrival_of copy.event) ≡ not (has_come copy.index before)
whole_first_if settings numbering timing copy before come =
    let numbers = come.timely.numbers in
    let (pass, same) = whole_passes settings numbering timing (copy ∷ before) come in
    let come_too = (all_but_further settings numbering before numbers.1 come.losses.1 come.firsts.1).come copy.index in
    first_if settings numbering timing [] copy before pass
    ∙ ap (λ (come : Bool). counts settings (events_of_copies before) (arrival_of copy.event) (passing_since settings [] before) && not come) come_too
    ∙ ⊎_elim
    (λ (old : has_come copy.index before ≡ true). rw old (and_right _ _ refl))
    (λ (first : has_come copy.index before ≡ false).
    rw (first, counts_alone settings copy before ∙ new_passes settings numbering copy before numbers come.losses (new_is_first copy before come.firsts.0 ∙ ap not first)) refl)
    (cases_Bool (has_come copy.index before))

-- ---- where copies are overtaken

all_pass : (settings : Settings) (numbering : Numbering) (copies : List Copy) → HaveNumbers numbering copies → KeepsOrder copies → LosesFew numbering settings.window copies → passing_since settings [] copies ≡ copies
all_pass settings numbering [] numbers keeps losses = refl
all_pass settings numbering (copy ∷ before) numbers keeps losses =
    rw (counts_alone settings copy before ∙ copy_passes settings numbering copy before numbers keeps losses) (ap (λ (copies : List Copy). copy ∷ copies) (all_pass settings numbering before numbers.1 keeps.1 losses.1))

pub new_ones_forwarded : (settings : Settings) (numbering : Numbering) (timing : Timing) (copies : List Copy) → ComeTimely settings numbering timing copies → IsNeverLate timing → BeginNear settings.skew_max copies
    → KeepsOrder copies → LosesFew numbering settings.window copies → forwarded_since settings [] copies ≡ new_copies copies
new_ones_forwarded settings numbering timing copies timely on_time near keeps losses =
    let all = all_pass settings numbering copies timely.numbers keeps losses in
    (news_since settings numbering timing [] copies (all_pass_timely settings numbering timing [] copies timely on_time (subst (BeginNear settings.skew_max) (sym all) near) (none_before settings copies))).0
    ∙ ap new_copies all

-- ---- the age of a message

ages : (timing : Timing) (now : ℕ) (copies : List Copy) → EachCopy (λ before copy. IsOnItsWay timing copy) copies → EachCopy (λ before copy. HasAge timing now copy) copies
ages timing now [] ways = tt
ages timing now (copy ∷ before) ways =
    let (soonest, latest) = ways.0 in
    (λ received. (omega (arith, soonest, latest, received), omega (arith, soonest, latest, received)), ages timing now before ways.1)

pub first_ages : (numbering : Numbering) (timing : Timing) (copies : List Copy) (now : ℕ) → KeepsTimes numbering timing copies → EachCopy (λ before copy. HasAge timing now copy) (first_copies copies)
first_ages numbering timing copies now times = each_first (HasAge timing now) copies (ages timing now copies times.ways)

-- ---- the conditions, one by one, are what is asked

pub come_whole : (settings : Settings) (numbering : Numbering) (timing : Timing) (copies : List Copy) → AreCopies settings numbering timing copies
    → ((condition : Condition) → IsMet condition settings numbering timing copies) → ComeWhole settings numbering timing copies
come_whole settings numbering timing copies are met = record {
  timely = record { redundancy = are.redundancy; first = are.first; numbers = are.numbers; times = are.times; fits = record { covers = met conditions.covers; restarts = met conditions.restarts } };
  near = (met conditions.near).0;
  losses = met conditions.losses;
  on_time = record { frames = met conditions.late; restarts = met conditions.late_restart };
  firsts = met conditions.firsts;
}

-- ---- the copies of a network that brings the frames in a row pass, whatever the other network brings

indices_alone : (net : Net) (copies : List Copy) → indices_on (copies_on net copies) net ≡ indices_on copies net
indices_alone net [] = refl
indices_alone net (copy ∷ before) =
    ⊎_elim
    (λ (is : is_same_net copy.event.net net ≡ true). rw (is, is) (ap (λ (indices : List ℕ). copy.index ∷ indices) (indices_alone net before)))
    (λ (is : is_same_net copy.event.net net ≡ false). rw is (indices_alone net before))
    (cases_Bool (is_same_net copy.event.net net))

-- ---- so each copy of the network passes

-- what holds of the copies before
in_row_before : (numbering : Numbering) (window : ℕ) (net : Net) (copy : Copy) (before : List Copy) → BringsInRow numbering window net (copy ∷ before) → BringsInRow numbering window net before
in_row_before numbering window net copy before row =
    let numbers = row.numbers in
    let order = row.order in
    let losses = row.losses in
    ⊎_elim
    (λ (is : is_same_net copy.event.net net ≡ true).
    let n : HaveNumbers numbering (copy ∷ copies_on net before) = rw is at numbers in
    let o : KeepsOrder (copy ∷ copies_on net before) = rw is at order in
    let l : LosesFew numbering window (copy ∷ copies_on net before) = rw is at losses in
    record { numbers = n.1; order = o.1; losses = l.1 })
    (λ (is : is_same_net copy.event.net net ≡ false). record { numbers = rw is at numbers; order = rw is at order; losses = rw is at losses })
    (cases_Bool (is_same_net copy.event.net net))

pub row_passes : (settings : Settings) (numbering : Numbering) (net : Net) (copy : Copy) (before : List Copy) → BringsInRow numbering settings.window net (copy ∷ before) → is_same_net copy.event.net net ≡ true
    → passes settings (events_of_copies before) (arrival_of copy.event) ≡ true
row_passes settings numbering net copy before row is =
    let here = subst (λ (n : Net). BringsInRow numbering settings.window n (copy ∷ before)) (sym (same_net copy.event.net net is)) row in
    let order = here.order in
    let losses = here.losses in
    let o : KeepsOrder (copy ∷ copies_on copy.event.net before) = rw (itself copy.event.net) at order in
    let l : LosesFew numbering settings.window (copy ∷ copies_on copy.event.net before) = rw (itself copy.event.net) at losses in
    passes_here settings numbering [] copy before here.numbers (subst (λ (some : List ℕ). IsLater (latest some) copy.index) (indices_alone copy.event.net before) o.0)
    (subst (λ (some : List ℕ). MayFollow numbering settings.window (latest some) copy.index) (indices_alone copy.event.net before) l.0) (λ none. refl)

-- ---- so each frame of which it brings a copy is forwarded

pub row_come : (settings : Settings) (numbering : Numbering) (net : Net) (copies : List Copy) → BringsInRow numbering settings.window net copies → (index : ℕ) → has_come index (copies_on net copies) ≡ true
    → has_come index (passing_since settings [] copies) ≡ true
row_come settings numbering net [] row index come = come
row_come settings numbering net (copy ∷ before) row index come =
    ⊎_elim
    (λ (on : is_same_net copy.event.net net ≡ true).
    let come_on : (copy.index == index || has_come index (copies_on net before)) ≡ true = rw on at come in
    rw (counts_alone settings copy before ∙ row_passes settings numbering net copy before row on)
    (⊎_elim
    (λ (here : (copy.index == index) ≡ true). or_left _ _ here)
    (λ (there : has_come index (copies_on net before) ≡ true). or_right _ _ (row_come settings numbering net before (in_row_before numbering settings.window net copy before row) index there))
    (or_cases (copy.index == index) (has_come index (copies_on net before)) come_on)))
    (λ (other : is_same_net copy.event.net net ≡ false).
    let rest = row_come settings numbering net before (in_row_before numbering settings.window net copy before row) index (rw other at come) in
    by_counts settings [] copy before (λ some. has_come index some ≡ true) (λ is. or_right _ _ rest) (λ is. rest))
    (cases_Bool (is_same_net copy.event.net net))

pub row_forwarded : (settings : Settings) (numbering : Numbering) (timing : Timing) (copies : List Copy) (net : Net) (index : ℕ) → PassInOrder settings numbering timing [] copies
    → BringsInRow numbering settings.window net copies → has_come index (copies_on net copies) ≡ true → has_come index (forwarded_since settings [] copies) ≡ true
row_forwarded settings numbering timing copies net index pass row come =
    ap (has_come index) (firsts_since settings numbering timing [] copies pass).0 ∙ all_have_first index (passing_since settings [] copies) ∙ row_come settings numbering net copies row index come
