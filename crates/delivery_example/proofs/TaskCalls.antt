-- What comes of the calls of a task.
use Rattle.std.proofs.Common.{◌≡◌, ◌∙◌, ap, sym, subst, refl, ℕ, ◌==◌, Bool, true, List, [], ◌∷◌, Option, None, Some, Ok, Err, inl, map}
use Rattle.std.specs.Prelude.{slice_get}
use Rattle.es_base.specs.declared.event.Arrival.{Arrival}
use Rattle.es_base.specs.declared.event.Event.{Event}
use Rattle.es_base.specs.declared.event.Message.{Message}
use Rattle.es_base.specs.declared.place.Net.TheVariants as nets
use Rattle.es_base.specs.declared.verdict.Verdict.{Verdict}
use Rattle.es_base.specs.Addressing.{addressed_link}
use Rattle.es_base.specs.Config.{Configuration}
use Rattle.es_base.specs.Past.{arrived, event_of}
use Rattle.es_base.specs.Port.{Port}
use Rattle.link_rules.specs.Run.{IsRun}
use Rattle.es_base.specs.Settings.{Settings}
use Rattle.datagram_delivery.specs.Interleaved.{BringDatagrams, Carried, messages_ended}
use Rattle.receiver.specs.declared.port.PortOutlet.{PortOutlet}
use Rattle.receiver.specs.declared.receiver.Reply.{Reply}
use Rattle.receiver.specs.declared.receiver.Reply.TheVariants.{Filtered, Link}
use Rattle.receiver.specs.Link.{IsPorted, Ported}
use Rattle.receiver.specs.Outlet.{ShowsAt}
use Rattle.receiver.specs.Port.{AnswersPort, GivesPort, ShowsPort}
use Rattle.receiver.specs.Receiver.{AreLinksOf, Links, RepliesTo}
use Rattle.receiver.specs.Run.{AddsIf, AddsReply, AreEventsAt, HasRun}
use Rattle.delivery_laws.specs.Task.{DeliversEach, GivesEach, WereGiven}
use Rattle.delivery_example.specs.Example as example
use Rattle.delivery_example.specs.Example.{AreOfTheExample, arrival_on_a, configuration, first_arrival_on_b, first_on_a, first_on_b, link_with_nav, nav, nav_message, nav_port, second_arrival_on_b, second_on_b, sent}
use Rattle.delivery_example.specs.Given.{HasNavMessage, WasGivenOnce}
use Rattle.delivery_example.specs.Task.{calls_of_task}
use Rattle.delivery_example.proofs.Brings.{AreThree, brings_message}
use Rattle.delivery_example.proofs.Named.{ComeToFirst, a_comes, first_of_b_comes, first_place, second_of_b_comes}

-- ---- the replies

-- a reply of the link at the first place
abbrev pub IsOfFirst : Reply → Type 0
IsOfFirst (Filtered cause) = ⊥
IsOfFirst (Link at vl number verdict) = at ≡ 0

pub is_of_first : (old new : Links PortOutlet) (a : Arrival) (reply : Reply) → old.config ≡ configuration → ComeToFirst a.frame → RepliesTo ShowsPort GivesPort AnswersPort old new a reply
    → (new.config ≡ configuration) × IsOfFirst reply
is_of_first old new a (Filtered cause) is comes replies =
    let other : addressed_link configuration a.frame ≡ Err cause = sym (ap (λ (c : Configuration). addressed_link c a.frame) is) ∙ replies.0 in
    let both : Ok link_with_nav ≡ Err cause = sym comes.named ∙ other in
    cc
is_of_first old new a (Link at vl number verdict) is comes takes =
    (ap (λ (l : Links PortOutlet). l.config) takes.is ∙ is, first_place old.config a.frame at is comes takes.comes)

-- ---- the past

record IsOneMore (a : Arrival) (before past : List Event) : Type 0 where
  room : Bool
  verdict : Verdict
  is : past ≡ event_of a room verdict ∷ before

one_more : (settings : Settings) (a : Arrival) (reply : Reply) (before past : List Event) → IsOfFirst reply → AddsReply AnswersPort settings 0 a reply before past → IsOneMore a before past
one_more settings a (Filtered cause) before past first adds = absurd first
one_more settings a (Link at vl number verdict) before past first adds =
    let here : AddsIf AnswersPort settings true a verdict before past = subst (λ (n : ℕ). AddsIf AnswersPort settings (n == 0) a verdict before past) first adds in
    record { room = here.0; verdict = verdict; is = here.1 }

pub are_three : (settings : Settings) (on_a first_on_b second_on_b : List ℕ) (to_a first_to_b second_to_b : Reply) (past : List Event) → IsOfFirst to_a → IsOfFirst first_to_b → IsOfFirst second_to_b
    → AreEventsAt AnswersPort settings 0 (calls_of_task on_a first_on_b second_on_b to_a first_to_b second_to_b) past
    → AreThree (arrived nets.A 100 on_a) (arrived nets.B 900 first_on_b) (arrived nets.B 10500 second_on_b) past
are_three settings on_a first_on_b second_on_b to_a first_to_b second_to_b past a_first b_first b_second events =
    let (two, before_two, adds_third) = events in
    let (one, before_one, adds_second) = before_two in
    let (none, nothing, adds_first) = before_one in
    let first = one_more settings (arrived nets.A 100 on_a) to_a none one a_first adds_first in
    let second = one_more settings (arrived nets.B 900 first_on_b) first_to_b one two b_first adds_second in
    let third = one_more settings (arrived nets.B 10500 second_on_b) second_to_b two past b_second adds_third in
    record {
      answers = (first.room, second.room, third.room);
      verdicts = (first.verdict, second.verdict, third.verdict);
      is = third.is ∙ ap (λ (more : List Event). event_of (arrived nets.B 10500 second_on_b) third.room third.verdict ∷ more)
          (second.is ∙ ap (λ (more : List Event). event_of (arrived nets.B 900 first_on_b) second.room second.verdict ∷ more)
          (first.is ∙ ap (λ (more : List Event). event_of (arrived nets.A 100 on_a) first.room first.verdict ∷ more) nothing));
    }

-- ---- what it was given

-- the outlet of a port that shows messages
outlet_of : (port : Port) (outlet : Option PortOutlet) (messages : List Message) → ShowsAt ShowsPort (Some port) outlet messages → (one : PortOutlet) × (outlet ≡ Some one) × ShowsPort port one messages
outlet_of port None messages shows = absurd shows
outlet_of port (Some one) messages shows = (one, refl, shows)

pub has_message : (link : Ported PortOutlet) (carried : List Carried) → link.core.settings ≡ link_with_nav → messages_ended nav carried ≡ nav_message ∷ [] → WereGiven ShowsPort link carried → HasNavMessage link
has_message link carried is ends given =
    let at_nav : ShowsAt ShowsPort (Some nav_port) (slice_get link.outlets 0) (nav_message ∷ []) =
    subst (λ (messages : List Message). ShowsAt ShowsPort (Some nav_port) (slice_get link.outlets 0) messages) ends
    (subst (λ (o : Settings). ShowsAt ShowsPort (slice_get o.ports 0) (slice_get link.outlets 0) (messages_ended nav carried)) is (given 0)) in
    let (outlet, there, shows) = outlet_of nav_port (slice_get link.outlets 0) (nav_message ∷ []) at_nav in
    record { outlet = outlet; there = there; given = shows }

-- the one link of the configuration
record IsFirst (links : List (Ported PortOutlet)) : Type 0 where
  link : Ported PortOutlet
  there : slice_get links 0 ≡ Some link
  with_settings : link.core.settings ≡ link_with_nav

first_link : (links : List (Ported PortOutlet)) → map (λ (l : Ported PortOutlet). l.core.settings) links ≡ link_with_nav ∷ [] → IsFirst links
first_link [] are = cc
first_link (link ∷ links) are = record { link = link; there = refl; with_settings = cc }

links_are : (links : List (Ported PortOutlet)) → AreLinksOf configuration.links links → AreLinksOf (link_with_nav ∷ []) links
unfolding example.configuration
links_are links are = are

given_at : (links : List (Ported PortOutlet)) (past_of_example : (link : Ported PortOutlet) → slice_get links 0 ≡ Some link → AreThree arrival_on_a first_arrival_on_b second_arrival_on_b link.core.past) → AreLinksOf (link_with_nav ∷ []) links
    → ((link : Ported PortOutlet) → slice_get links 0 ≡ Some link → IsPorted ShowsPort link × GivesEach ShowsPort link) → WasGivenOnce (slice_get links 0)
given_at links past_of_example are gives =
    let one = first_link links are in
    let (ported, given) = gives one.link one.there in
    let run : IsRun link_with_nav one.link.core.past = subst (λ (o : Settings). IsRun o one.link.core.past) one.with_settings ported.run in
    let brings = brings_message one.link.core.past (inl (past_of_example one.link one.there)) run in
    let bring = subst (λ (o : Settings). BringDatagrams o one.link.core.past brings.carried) (sym one.with_settings) brings.bring in
    subst WasGivenOnce (sym one.there) (has_message one.link brings.carried one.with_settings brings.ends (given.brought brings.carried bring))

-- the calls of the task, on the example's frames
pub record RanTask (config : Configuration) (on_a first_of_b second_of_b : List ℕ) (to_a first_to_b second_to_b : Reply) (last : Links PortOutlet) : Type 0 where
  pub first : Links PortOutlet
  pub one : Links PortOutlet
  pub two : Links PortOutlet
  pub configured : first.config ≡ config
  pub takes_a : RepliesTo ShowsPort GivesPort AnswersPort first one (arrived nets.A 100 on_a) to_a
  pub takes_b : RepliesTo ShowsPort GivesPort AnswersPort one two (arrived nets.B 900 first_of_b) first_to_b
  pub takes_again : RepliesTo ShowsPort GivesPort AnswersPort two last (arrived nets.B 10500 second_of_b) second_to_b

pub given_once : (config : Configuration) (on_a first_of_b second_of_b : List ℕ) (to_a first_to_b second_to_b : Reply) (last : Links PortOutlet) → RanTask config on_a first_of_b second_of_b to_a first_to_b second_to_b last
    → HasRun ShowsPort AnswersPort config (calls_of_task on_a first_of_b second_of_b to_a first_to_b second_to_b) last
    → ((place : ℕ) (link : Ported PortOutlet) → slice_get last.links place ≡ Some link → DeliversEach ShowsPort AnswersPort (calls_of_task on_a first_of_b second_of_b to_a first_to_b second_to_b) place link)
    → AreOfTheExample config on_a first_of_b second_of_b → WasGivenOnce (slice_get last.links 0)
given_once config on_a first_of_b second_of_b to_a first_to_b second_to_b last ran has delivers of =
    let in_first = is_of_first ran.first ran.one (arrived nets.A 100 on_a) to_a (ran.configured ∙ of.configured) (subst ComeToFirst (sym of.of_a) a_comes) ran.takes_a in
    let in_second = is_of_first ran.one ran.two (arrived nets.B 900 first_of_b) first_to_b in_first.0 (subst ComeToFirst (sym of.first_of_b) first_of_b_comes) ran.takes_b in
    let in_third = is_of_first ran.two last (arrived nets.B 10500 second_of_b) second_to_b in_second.0 (subst ComeToFirst (sym of.second_of_b) second_of_b_comes) ran.takes_again in
    let are : AreLinksOf (link_with_nav ∷ []) last.links = links_are last.links (subst (λ (c : Configuration). AreLinksOf c.links last.links) of.configured has.settings) in
    let past_of_example : (link : Ported PortOutlet) → slice_get last.links 0 ≡ Some link → AreThree arrival_on_a first_arrival_on_b second_arrival_on_b link.core.past =
    λ link there.
    let three = are_three link.core.settings on_a first_of_b second_of_b to_a first_to_b second_to_b link.core.past in_first.1 in_second.1 in_third.1 (delivers 0 link there).0 in
    subst (λ (octets : List ℕ). AreThree arrival_on_a first_arrival_on_b (arrived nets.B 10500 octets) link.core.past) of.second_of_b
    (subst (λ (octets : List ℕ). AreThree arrival_on_a (arrived nets.B 900 octets) (arrived nets.B 10500 second_of_b) link.core.past) of.first_of_b
    (subst (λ (octets : List ℕ). AreThree (arrived nets.A 100 octets) (arrived nets.B 900 first_of_b) (arrived nets.B 10500 second_of_b) link.core.past) of.of_a three)) in
    given_at last.links past_of_example are (λ link there. ((has.pasts 0 link there).1, (delivers 0 link there).1))
