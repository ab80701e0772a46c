-- What comes of the calls of two threads, at a link that keeps no frame.
use Rattle.std.proofs.Common.{◌≡◌, ◌∙◌, ◌<◌, ap, sym, subst, refl, arith, ℕ, List, [], ◌∷◌, ◌++◌, map}
use Rattle.std.specs.Prelude.{reverse, slice_get, Some}
use Rattle.std.proofs.lemmas.List.{reverse-reverse}
use Rattle.std.proofs.lemmas.Option.{same_Some}
use Rattle.es_base.specs.declared.event.Arrival.{Arrival}
use Rattle.es_base.specs.declared.event.Event.{Event}
use Rattle.es_base.specs.declared.place.LinkNo.{LinkNo}
use Rattle.es_base.specs.declared.place.Net.{Net}
use Rattle.es_base.specs.declared.place.Net.TheVariants.{A, B}
use Rattle.es_base.specs.declared.verdict.Verdict.{Verdict}
use Rattle.es_base.specs.Config.{Configuration, link_of}
use Rattle.es_base.specs.Port.{Port}
use Rattle.link_rules.specs.Run.{IsRun}
use Rattle.es_base.specs.Settings.{Settings}
use Rattle.datagram_delivery.specs.Interleaved.{BringDatagrams}
use Rattle.receiver.specs.declared.ends.LinkEnds.{LinkEnds}
use Rattle.receiver.specs.declared.partition.PartitionEnd.{PartitionEnd}
use Rattle.network_calls.specs.declared.call.Call.{Call}
use Rattle.receiver.specs.declared.receiver.Reply.{Reply}
use Rattle.receiver.specs.declared.receiver.Reply.TheVariants.{Filtered, Link}
use Rattle.network_calls.specs.Calls.{call, calls_from}
use Rattle.network_calls.specs.Threads.{call_replied}
use Rattle.delivery_laws.specs.Live.{DeliversEach}
use Rattle.delivery_example.specs.Example as example
use Rattle.delivery_example.specs.Example.{AreOfTheExample, arrival_on_a, configuration, first_arrival_on_b, first_on_a, first_on_b, link_with_nav, second_arrival_on_b, second_on_b}
use Rattle.link_core.specs.Counted.{shown}
use Rattle.live_system.specs.Calls.{LiveLink, events_of}
use Rattle.live_system.specs.Run.{call_in, calls_in, received, shown_call}
use Rattle.network_calls.specs.Passes.{KnownNet, System}
use Rattle.live_system.specs.Pass.{KnownLink}
use Rattle.live_system.specs.System.{Replies}
use Rattle.delivery_example.specs.TwoThreads.{steps_of_threads}
use Rattle.delivery_example.specs.Given.{WasGivenOnce}
use Rattle.delivery_example.specs.Order.{WasTakenBefore, without_index}
use Rattle.delivery_example.proofs.Brings.{AreInEitherOrder, brings_message}
use Rattle.delivery_example.proofs.InOrder.{IsCallOf, in_order}
use Rattle.delivery_example.proofs.Named.{ComeToFirst, a_comes, first_of_b_comes, second_of_b_comes}
use Rattle.delivery_example.proofs.TaskCalls.{has_message}
use Rattle.delivery_example.proofs.Replied.{IsOfLink, is_call, link_17, never_filtered}

-- the reply to a frame that comes to the link
pub is_of_link : (system : System) (old new : KnownNet KnownLink) (time : ℕ) (octets : List ℕ) (reply : Reply) → system.config ≡ configuration → ComeToFirst octets → Replies system.config old time octets reply new → IsOfLink (without_index reply)
is_of_link system old new time octets (Filtered cause) is comes replies = never_filtered system.config octets cause is comes replies.0
is_of_link system old new time octets (Link at vl place verdict) is comes replies = replies.1 ∙ comes.number

same_call : (vl : LinkNo) (time : ℕ) (octets : List ℕ) (reply : Reply) → call_replied vl time octets (without_index reply) ≡ call_in vl (received time octets reply)
same_call vl time octets (Filtered cause) = refl
same_call vl time octets (Link at number place verdict) = refl

-- ---- the calls, as they are shown

record ShowOne (c : Call) (xs : List Call) : Type 0 where
  x : Call
  are : xs ≡ x ∷ []
  is : c ≡ shown_call x

show_one : (c : Call) (xs : List Call) → c ∷ [] ≡ map shown_call xs → ShowOne c xs
show_one c [] is = cc
show_one c (x ∷ []) is = record { x = x; are = refl; is = cc }
show_one c (x ∷ y ∷ xs) is = cc

record ShowTwo (c d : Call) (xs : List Call) : Type 0 where
  x : Call
  y : Call
  are : xs ≡ x ∷ y ∷ []
  is : c ≡ shown_call x
  after : d ≡ shown_call y

show_two : (c d : Call) (xs : List Call) → c ∷ d ∷ [] ≡ map shown_call xs → ShowTwo c d xs
show_two c d [] is = cc
show_two c d (x ∷ []) is = cc
show_two c d (x ∷ y ∷ []) is = record { x = x; y = y; are = refl; is = cc; after = cc }
show_two c d (x ∷ y ∷ z ∷ xs) is = cc

shown_of : (a : Arrival) (place : ℕ) (verdict : Verdict) (x : Call) → call place a.time a.frame verdict ≡ shown_call x → IsCallOf shown a place x
shown_of a place verdict x is = record { time = sym (ap (λ (c : Call). c.time) is); frame = sym (ap (λ (c : Call). c.frame) is); at = ap (λ (c : Call). c.place) is }

never : shown 2 < shown 1 → ⊥
never before = absurd (omega (arith, before))

-- ---- the past

pub in_either_order : (link : LiveLink) (to_a first_to_b second_to_b : Reply) → IsOfLink (without_index to_a) → IsOfLink (without_index first_to_b) → IsOfLink (without_index second_to_b) → WasTakenBefore (without_index to_a) (without_index second_to_b)
    → ((net : Net) → calls_in net link_17 (steps_of_threads first_on_a first_on_b second_on_b to_a first_to_b second_to_b) ≡ map shown_call (calls_from 0 net (events_of link)))
    → AreInEitherOrder link.core.past
in_either_order link to_a first_to_b second_to_b of_a of_b of_c taken replied =
    let a = is_call 100 first_on_a (without_index to_a) of_a in
    let b = is_call 900 first_on_b (without_index first_to_b) of_b in
    let c = is_call 10500 second_on_b (without_index second_to_b) of_c in
    let es : List Event = reverse link.core.past in
    let on_a : call a.place 100 first_on_a a.verdict ∷ [] ≡ map shown_call (calls_from 0 A es) = (sym a.replied ∙ same_call link_17 100 first_on_a to_a) ∙ replied A in
    let on_b : call b.place 900 first_on_b b.verdict ∷ call c.place 10500 second_on_b c.verdict ∷ [] ≡ map shown_call (calls_from 0 B es) =
    (λ i. (sym b.replied ∙ same_call link_17 900 first_on_b first_to_b) i ++ (sym c.replied ∙ same_call link_17 10500 second_on_b second_to_b) i) ∙ replied B in
    let one = show_one (call a.place 100 first_on_a a.verdict) (calls_from 0 A es) on_a in
    let two = show_two (call b.place 900 first_on_b b.verdict) (call c.place 10500 second_on_b c.verdict) (calls_from 0 B es) on_b in
    subst AreInEitherOrder (reverse-reverse link.core.past)
    (in_order shown es (without_index to_a) (without_index first_to_b) (without_index second_to_b) a b c one.x two.x two.y never taken
    (shown_of arrival_on_a a.place a.verdict one.x one.is)
    (shown_of first_arrival_on_b b.place b.verdict two.x two.is)
    (shown_of second_arrival_on_b c.place c.verdict two.y two.after)
    one.are
    two.are)

-- ---- what it was given

-- the calls of the threads, by their passes
pub record RanThreads (system : System) (on_a first_of_b second_of_b : List ℕ) (to_a first_to_b second_to_b : Reply) : Type 0 where
  pub old_a : KnownNet KnownLink
  pub new_a : KnownNet KnownLink
  pub old_b : KnownNet KnownLink
  pub next_b : KnownNet KnownLink
  pub new_b : KnownNet KnownLink
  pub takes_a : Replies system.config old_a 100 on_a to_a new_a
  pub takes_b : Replies system.config old_b 900 first_of_b first_to_b next_b
  pub takes_again : Replies system.config next_b 10500 second_of_b second_to_b new_b

link_17_stands : link_of configuration.links link_17 ≡ Some 0
unfolding example.configuration
link_17_stands = refl

its_settings : slice_get configuration.links 0 ≡ Some link_with_nav
unfolding example.configuration
its_settings = refl

pub given_once : (readers : Port → ℕ) (system : System) (ends : List (LinkEnds PartitionEnd)) (links : List LiveLink) (on_a first_of_b second_of_b : List ℕ) (to_a first_to_b second_to_b : Reply)
    → DeliversEach readers system (steps_of_threads on_a first_of_b second_of_b to_a first_to_b second_to_b) ends links → RanThreads system on_a first_of_b second_of_b to_a first_to_b second_to_b
    → AreOfTheExample system.config on_a first_of_b second_of_b → WasTakenBefore (without_index to_a) (without_index second_to_b) → WasGivenOnce (slice_get links 0)
given_once readers system ends links on_a first_of_b second_of_b to_a first_to_b second_to_b delivers ran of taken =
    let of_a = is_of_link system ran.old_a ran.new_a 100 on_a to_a of.configured (subst ComeToFirst (sym of.of_a) a_comes) ran.takes_a in
    let of_b = is_of_link system ran.old_b ran.next_b 900 first_of_b first_to_b of.configured (subst ComeToFirst (sym of.first_of_b) first_of_b_comes) ran.takes_b in
    let of_c = is_of_link system ran.next_b ran.new_b 10500 second_of_b second_to_b of.configured (subst ComeToFirst (sym of.second_of_b) second_of_b_comes) ran.takes_again in
    let placed : link_of system.config.links link_17 ≡ Some 0 = ap (λ (c : Configuration). link_of c.links link_17) of.configured ∙ link_17_stands in
    let (settings, link, there, numbered, link_there, run, gives) = delivers link_17 0 placed in
    let is : settings ≡ link_with_nav = same_Some settings link_with_nav (sym there ∙ ap (λ (c : Configuration). slice_get c.links 0) of.configured ∙ its_settings) in
    let replied : (net : Net) → calls_in net link_17 (steps_of_threads first_on_a first_on_b second_on_b to_a first_to_b second_to_b) ≡ map shown_call (calls_from 0 net (events_of link)) =
    λ net. sym (λ i. calls_in net (numbered i) (steps_of_threads (of.of_a i) (of.first_of_b i) (of.second_of_b i) to_a first_to_b second_to_b)) ∙ run.replied net in
    let either = in_either_order link to_a first_to_b second_to_b of_a of_b of_c taken replied in
    let brings = brings_message link.core.past either (subst (λ (o : Settings). IsRun o link.core.past) (run.with_settings ∙ is) run.ported.run) in
    let bring = subst (λ (o : Settings). BringDatagrams o link.core.past brings.carried) (sym (run.with_settings ∙ is)) brings.bring in
    subst WasGivenOnce (sym link_there) (has_message link brings.carried (run.with_settings ∙ is) brings.ends (gives.brought brings.carried bring))
