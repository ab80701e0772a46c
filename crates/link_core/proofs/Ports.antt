-- What is kept of a link's ports, at first and after one more event.
use Rattle.std.proofs.Common.{◌≡◌, ◌∙◌, ap, sym, ℕ, ◌<◌, zero, suc, Bool, true, false, List, [], ◌∷◌, Option, Some, None, refl, replicate, if◌then◌else◌}
use Rattle.std.specs.Prelude.{slice_index_or}
use Rattle.std.proofs.lemmas.Option.{same_Some}
use Rattle.es_base.specs.declared.event.Event.{Event}
use Rattle.es_base.specs.declared.place.Net.{Net}
use Rattle.es_base.specs.declared.place.Net.TheVariants as nets
use Rattle.es_base.specs.declared.place.PortNo.{PortNo}
use Rattle.es_base.specs.declared.verdict.Verdict.{Verdict}
use Rattle.es_base.specs.declared.verdict.Verdict.TheVariants as verdicts
use Rattle.es_base.specs.Limits.{most_ports}
use Rattle.link_rules.specs.Outcome as way
use Rattle.link_core.specs.declared.port_tally.Brought.{Brought}
use Rattle.link_core.specs.declared.port_tally.Brought.TheVariants.{Nothing}
use Rattle.link_core.specs.declared.port_tally.Newest.{Newest}
use Rattle.link_core.specs.declared.port_tally.PortTally.{PortTally}
use Rattle.link_core.specs.Counted.{one_more_if, port_no, shown}
use Rattle.link_core.specs.Ports.{TellsPorts, brought_on, newest_after, newest_brought, newest_kept, number_telling, tells_fragmented, tells_overflow, tells_too_long}
use Rattle.link_core.specs.Seen.{kept_away}
use Rattle.link_core.specs.Told.{tells_delivered}
use Rattle.link_core.proofs.Numbers.{shown_more}

-- an array begins with the same value at each place
pub all_same : {X : Type 0} (x : X) (n port : ℕ) → slice_index_or (replicate n x) port x ≡ x
all_same x zero port = refl
all_same x (suc n) zero = refl
all_same x (suc n) (suc port) = all_same x n port

-- ---- one event more

count_more : (tells : Verdict → PortNo → Bool) (past : List Event) (e : Event) (port : PortNo) (old new : ℕ) → old ≡ shown (number_telling tells past port)
    → new ≡ one_more_if (tells e.verdict port) old → new ≡ shown (number_telling tells (e ∷ past) port)
count_more tells past e port old new was is = is ∙ ap (one_more_if (tells e.verdict port)) was ∙ shown_more (tells e.verdict port) (number_telling tells past port)

kept_on : (net : Net) (time : ℕ) → newest_kept (brought_on net) time ≡ Some (record { time = time; net = net })
kept_on nets.A time = refl
kept_on nets.B time = refl

kept_more : (told : Bool) (net : Net) (time : ℕ) (brought : Brought) (latest : ℕ) (before : Option Newest) → newest_kept brought latest ≡ before
    → newest_kept (if told then brought_on net else brought) (if told then time else latest) ≡ (if told then Some (record { time = time; net = net }) else before)
kept_more true net time brought latest before was = kept_on net time
kept_more false net time brought latest before was = was

pub ports_more : (old new : PortTally) (past : List Event) (e : Event) → TellsPorts old past
    → ((port : ℕ) → port < most_ports → slice_index_or new.overflowed port 0 ≡ one_more_if (tells_overflow e.verdict (port_no port)) (slice_index_or old.overflowed port 0))
    → ((port : ℕ) → port < most_ports → slice_index_or new.too_long port 0 ≡ one_more_if (tells_too_long e.verdict (port_no port)) (slice_index_or old.too_long port 0))
    → ((port : ℕ) → port < most_ports → slice_index_or new.fragmented port 0 ≡ one_more_if (tells_fragmented e.verdict (port_no port)) (slice_index_or old.fragmented port 0))
    → ((port : ℕ) → slice_index_or new.brought port Nothing ≡ (if tells_delivered e.verdict (port_no port) then brought_on e.net else slice_index_or old.brought port Nothing))
    → ((port : ℕ) → slice_index_or new.latest port 0 ≡ (if tells_delivered e.verdict (port_no port) then e.time else slice_index_or old.latest port 0))
    → TellsPorts new (e ∷ past)
ports_more old new past e had overflowed too_long fragmented brought latest = record {
  overflowed = λ port low. count_more tells_overflow past e (port_no port) _ _ (had.overflowed port low) (overflowed port low);
  too_long = λ port low. count_more tells_too_long past e (port_no port) _ _ (had.too_long port low) (too_long port low);
  fragmented = λ port low. count_more tells_fragmented past e (port_no port) _ _ (had.fragmented port low) (fragmented port low);
  newest = λ port. rw (brought port, latest port)
      (kept_more (tells_delivered e.verdict (port_no port)) e.net e.time (slice_index_or old.brought port Nothing) (slice_index_or old.latest port 0) (newest_brought past (port_no port)) (had.newest port));
}

-- ---- one that is kept away says nothing of a port

record SaysNothing (verdict : Verdict) (port : PortNo) : Type 0 where
  overflow : tells_overflow verdict port ≡ false
  too_long : tells_too_long verdict port ≡ false
  fragmented : tells_fragmented verdict port ≡ false
  delivered : tells_delivered verdict port ≡ false

says_nothing : (outcome : way.Outcome) (verdict : Verdict) (port : PortNo) → kept_away outcome ≡ Some verdict → SaysNothing verdict port
says_nothing way.out_of_sequence verdict port away = rw (sym (same_Some _ _ away)) (record { overflow = refl; too_long = refl; fragmented = refl; delivered = refl })
says_nothing way.redundant verdict port away = rw (sym (same_Some _ _ away)) (record { overflow = refl; too_long = refl; fragmented = refl; delivered = refl })
says_nothing (way.refused other) verdict port away = cc
says_nothing (way.brings payload) verdict port away = cc

pub ports_away : (tally : PortTally) (past : List Event) (e : Event) (outcome : way.Outcome) → TellsPorts tally past → kept_away outcome ≡ Some e.verdict → TellsPorts tally (e ∷ past)
ports_away tally past e outcome had away =
    let nothing = λ (port : ℕ). says_nothing outcome e.verdict (port_no port) away in
    ports_more tally tally past e had
    (λ port low. rw (nothing port).overflow refl)
    (λ port low. rw (nothing port).too_long refl)
    (λ port low. rw (nothing port).fragmented refl)
    (λ port. rw (nothing port).delivered refl)
    (λ port. rw (nothing port).delivered refl)

-- ---- one that delivers refuses nothing

pub not_refused : (verdict : Verdict) (at port : PortNo) → tells_delivered verdict at ≡ true → (tells_overflow verdict port ≡ false) × (tells_too_long verdict port ≡ false) × (tells_fragmented verdict port ≡ false)
not_refused (verdicts.Sampled to number) at port told = (refl, refl, refl)
not_refused (verdicts.Queued to) at port told = (refl, refl, refl)
not_refused verdicts.OutOfSequence at port told = cc
not_refused verdicts.Redundant at port told = cc
not_refused (verdicts.BadHeader fault) at port told = cc
not_refused verdicts.BadFragment at port told = cc
not_refused verdicts.FragmentHeld at port told = cc
not_refused verdicts.BadUdp at port told = cc
not_refused verdicts.NoPort at port told = cc
not_refused (verdicts.TooLong to) at port told = cc
not_refused (verdicts.FragmentedSample to) at port told = cc
not_refused (verdicts.Overflow to) at port told = cc
not_refused (verdicts.Exhausted to) at port told = cc
