-- What comes of the calls of a task with both passes, at a link that keeps its history.
use Rattle.std.proofs.Common.{◌≡◌, ◌∙◌, ◌<◌, ap, sym, subst, refl, arith, ℕ, List, [], ◌∷◌, ◌++◌}
use Rattle.std.specs.Prelude.{reverse, slice_get, Option, Some}
use Rattle.std.proofs.lemmas.List.{reverse-append, reverse-reverse}
use Rattle.std.proofs.lemmas.Option.{same_Some}
use Rattle.es_base.specs.declared.event.Arrival.{Arrival}
use Rattle.es_base.specs.declared.event.Event.{Event}
use Rattle.es_base.specs.declared.event.Message.{Message}
use Rattle.es_base.specs.declared.place.Net.{Net}
use Rattle.es_base.specs.declared.place.Net.TheVariants.{A, B}
use Rattle.es_base.specs.declared.verdict.Verdict.{Verdict}
use Rattle.es_base.specs.Config.{Configuration, link_of}
use Rattle.link_rules.specs.Run.{IsRun}
use Rattle.es_base.specs.Settings.{Settings}
use Rattle.datagram_delivery.specs.Interleaved.{BringDatagrams, Carried, messages_ended}
use Rattle.link_receiver.specs.Outlet.{ShowsDelivered}
use Rattle.end_system.specs.declared.ends.LinkEnds.{LinkEnds}
use Rattle.delivery_laws.specs.Histories.{DeliversEach, WereGiven}
use Rattle.delivery_laws.specs.Holding.{EachHolds, HoldsEach}
use Rattle.network_calls.specs.declared.reply.Reply.{Reply}
use Rattle.network_calls.specs.declared.reply.Reply.TheVariants.{Filtered, Link}
use Rattle.network_calls.specs.Calls.{call, calls_from}
use Rattle.delivery_example.specs.Example as example
use Rattle.delivery_example.specs.Example.{AreOfTheExample, arrival_on_a, configuration, first_arrival_on_b, first_on_a, first_on_b, link_with_nav, nav_message, nav, second_arrival_on_b, second_on_b}
use Rattle.link_receiver.specs.Epoch.{Handed}
use Rattle.link_receiver.specs.Link.{Link as Kept, past_of}
use Rattle.end_system.specs.Calls.{events_of}
use Rattle.end_system.specs.Run.{calls_in}
use Rattle.network_calls.specs.Passes.{KnownNet, System}
use Rattle.end_system.specs.Pass.{KnownLink}
use Rattle.end_system.specs.System.{Replies}
use Rattle.delivery_example.specs.Keeping.{HoldsMessage, IsHeldOnce, steps_of_keeping}
use Rattle.delivery_example.specs.Order.{WasTakenBefore}
use Rattle.delivery_example.proofs.Brings.{AreInEitherOrder, brings_message}
use Rattle.delivery_example.proofs.InOrder.{IsCallOf, in_order}
use Rattle.delivery_example.proofs.Named.{ComeToFirst, a_comes, first_of_b_comes, second_of_b_comes}
use Rattle.delivery_example.proofs.Replied.{IsOfLink, is_call, link_17, never_filtered}

-- the reply to a frame that comes to the link
pub is_of_link : (system : System) (old new : KnownNet KnownLink) (time : ℕ) (octets : List ℕ) (reply : Reply) → system.config ≡ configuration → ComeToFirst octets → Replies system.config old time octets reply new → IsOfLink reply
is_of_link system old new time octets (Filtered cause) is comes replies = never_filtered system.config octets cause is comes replies.0
is_of_link system old new time octets (Link vl place verdict) is comes replies = let at = replies in at.2 ∙ comes.number

never : 2 < 1 → ⊥
never before = absurd (omega (arith, before))

call_is : (a : Arrival) (place : ℕ) (verdict : Verdict) → IsCallOf (λ n. n) a place (call place a.time a.frame verdict)
call_is a place verdict = record { time = refl; frame = refl; at = refl }

-- ---- the past

past_is : (link : Kept) → reverse (events_of link) ≡ past_of link
past_is link = reverse-append (reverse link.before) link.history ∙ ap (λ (before : List Event). reverse link.history ++ before) (reverse-reverse link.before)

pub in_either_order : (link : Kept) (epoch : Option Handed) (to_a first_to_b second_to_b : Reply) → IsOfLink to_a → IsOfLink first_to_b → IsOfLink second_to_b → WasTakenBefore to_a second_to_b
    → ((net : Net) → calls_in net link_17 (steps_of_keeping first_on_a first_on_b second_on_b to_a first_to_b second_to_b epoch) ≡ calls_from 0 net (events_of link))
    → AreInEitherOrder (past_of link)
in_either_order link epoch to_a first_to_b second_to_b of_a of_b of_c taken calls =
    let a = is_call 100 first_on_a to_a of_a in
    let b = is_call 900 first_on_b first_to_b of_b in
    let c = is_call 10500 second_on_b second_to_b of_c in
    let es : List Event = events_of link in
    let x = call a.place 100 first_on_a a.verdict in
    let y = call b.place 900 first_on_b b.verdict in
    let z = call c.place 10500 second_on_b c.verdict in
    let on_a : calls_from 0 A es ≡ x ∷ [] = sym (calls A) ∙ (λ i. a.replied i ++ []) in
    let on_b : calls_from 0 B es ≡ y ∷ z ∷ [] = sym (calls B) ∙ (λ i. b.replied i ++ c.replied i) in
    subst AreInEitherOrder (past_is link)
    (in_order (λ n. n) es to_a first_to_b second_to_b a b c x y z never taken (call_is arrival_on_a a.place a.verdict) (call_is first_arrival_on_b b.place b.verdict) (call_is second_arrival_on_b c.place c.verdict) on_a on_b)

-- ---- what it holds

-- the calls of the task, by their passes
pub record RanKeeping (system : System) (on_a first_of_b second_of_b : List ℕ) (to_a first_to_b second_to_b : Reply) : Type 0 where
  pub old_a : KnownNet KnownLink
  pub new_a : KnownNet KnownLink
  pub old_b : KnownNet KnownLink
  pub next_b : KnownNet KnownLink
  pub new_b : KnownNet KnownLink
  pub takes_a : Replies system.config old_a 100 on_a to_a new_a
  pub takes_b : Replies system.config old_b 900 first_of_b first_to_b next_b
  pub takes_again : Replies system.config next_b 10500 second_of_b second_to_b new_b

link_17_stands : link_of configuration.links link_17 ≡ Some 0
unfolding example.configuration
link_17_stands = refl

its_settings : slice_get configuration.links 0 ≡ Some link_with_nav
unfolding example.configuration
its_settings = refl

is_held : (link : Kept) (of_opening : LinkEnds) (carried : List Carried) → messages_ended nav carried ≡ nav_message ∷ [] → HoldsEach link carried of_opening → WereGiven link carried nav → IsHeldOnce link
is_held link of_opening carried ends holds given = record {
  given = given.put ∙ ends;
  put = λ outlets are. subst (λ (messages : List Message). ShowsDelivered (slice_get outlets 0) messages) ends (holds.outlets outlets are 0);
}

pub given_once : (system : System) (ends : List LinkEnds) (links : List Kept) (epoch : Option Handed) (on_a first_of_b second_of_b : List ℕ) (to_a first_to_b second_to_b : Reply)
    → DeliversEach system (steps_of_keeping on_a first_of_b second_of_b to_a first_to_b second_to_b epoch) ends links → EachHolds system ends links → RanKeeping system on_a first_of_b second_of_b to_a first_to_b second_to_b
    → AreOfTheExample system.config on_a first_of_b second_of_b → WasTakenBefore to_a second_to_b → HoldsMessage (slice_get links 0)
given_once system ends links epoch on_a first_of_b second_of_b to_a first_to_b second_to_b delivers holds ran of taken =
    let of_a = is_of_link system ran.old_a ran.new_a 100 on_a to_a of.configured (subst ComeToFirst (sym of.of_a) a_comes) ran.takes_a in
    let of_b = is_of_link system ran.old_b ran.next_b 900 first_of_b first_to_b of.configured (subst ComeToFirst (sym of.first_of_b) first_of_b_comes) ran.takes_b in
    let of_c = is_of_link system ran.next_b ran.new_b 10500 second_of_b second_to_b of.configured (subst ComeToFirst (sym of.second_of_b) second_of_b_comes) ran.takes_again in
    let placed : link_of system.config.links link_17 ≡ Some 0 = ap (λ (c : Configuration). link_of c.links link_17) of.configured ∙ link_17_stands in
    let (settings, link, numbered, link_there, run, gives) = delivers link_17 0 placed in
    let (other, of_opening, there, same_number, other_there, ends_there, each) = holds link_17 0 placed in
    let same : other ≡ link = same_Some other link (sym other_there ∙ link_there) in
    let is : link.settings ≡ link_with_nav =
    sym (ap (λ (link : Kept). link.settings) same) ∙ same_Some other.settings link_with_nav (sym there ∙ ap (λ (c : Configuration). slice_get c.links 0) of.configured ∙ its_settings) in
    let settings_are : settings ≡ link_with_nav = sym run.with_settings ∙ is in
    let calls : (net : Net) → calls_in net link_17 (steps_of_keeping first_on_a first_on_b second_on_b to_a first_to_b second_to_b epoch) ≡ calls_from 0 net (events_of link) =
    λ net. sym (λ i. calls_in net (numbered i) (steps_of_keeping (of.of_a i) (of.first_of_b i) (of.second_of_b i) to_a first_to_b second_to_b epoch)) ∙ run.calls net in
    let either = in_either_order link epoch to_a first_to_b second_to_b of_a of_b of_c taken calls in
    let brings = brings_message (past_of link) either (subst (λ (o : Settings). IsRun o (past_of link)) settings_are run.run) in
    let bring : BringDatagrams link.settings (past_of link) brings.carried = subst (λ (o : Settings). BringDatagrams o (past_of link) brings.carried) (sym is) brings.bring in
    let held : HoldsEach link brings.carried of_opening =
    subst (λ (link : Kept). BringDatagrams link.settings (past_of link) brings.carried → HoldsEach link brings.carried of_opening) same (each brings.carried) bring in
    subst HoldsMessage (sym link_there) (is_held link of_opening brings.carried brings.ends held (gives.brought brings.carried bring nav))
