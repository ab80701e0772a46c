-- Which calls the replies of two threads are.
use Rattle.std.proofs.Common.{◌≡◌, ◌∙◌, ap, sym, refl, ℕ, List, [], ◌∷◌, Ok, Err}
use Rattle.es_base.specs.declared.event.Arrival.{Arrival}
use Rattle.es_base.specs.declared.event.Event.{Event}
use Rattle.es_base.specs.declared.place.LinkNo.{LinkNo}
use Rattle.es_base.specs.declared.verdict.Verdict.{Verdict}
use Rattle.es_base.specs.Addressing.{addressed_link}
use Rattle.es_base.specs.Config.{Configuration}
use Rattle.es_base.specs.Past.{event_of}
use Rattle.network_calls.specs.declared.call.Call.{Call}
use Rattle.network_calls.specs.declared.reply.Reply.{Reply}
use Rattle.network_calls.specs.declared.reply.Reply.TheVariants.{Filtered, Link}
use Rattle.network_calls.specs.Calls.{call}
use Rattle.network_calls.specs.Threads.{call_replied}
use Rattle.delivery_example.specs.Example.{configuration, link_with_nav}
use Rattle.delivery_example.proofs.Named.{ComeToFirst}
use Rattle.delivery_example.proofs.Orders.{IsEventOf}

abbrev pub link_17 : LinkNo
link_17 = record { 0 = 17 }

-- a reply of link 17
abbrev pub IsOfLink : Reply → Type 0
IsOfLink (Filtered cause) = ⊥
IsOfLink (Link vl place verdict) = vl ≡ link_17

pub never_filtered : {X : Type 0} (c : Configuration) (octets : List ℕ) (cause : _) → c ≡ configuration → ComeToFirst octets → addressed_link c octets ≡ Err cause → X
never_filtered c octets cause is comes filtered =
    let both : Ok link_with_nav ≡ Err cause = sym comes.named ∙ ap (λ (c : Configuration). addressed_link c octets) (sym is) ∙ filtered in
    cc

-- the call of a reply of link 17
pub record IsCall (time : ℕ) (octets : List ℕ) (reply : Reply) : Type 0 where
  pub place : ℕ
  pub verdict : Verdict
  pub is : reply ≡ Link link_17 place verdict
  pub replied : call_replied link_17 time octets reply ≡ call place time octets verdict ∷ []

pub is_call : (time : ℕ) (octets : List ℕ) (reply : Reply) → IsOfLink reply → IsCall time octets reply
is_call time octets (Filtered cause) of_link = absurd of_link
is_call time octets (Link vl place verdict) of_link = rw of_link (record { place = place; verdict = verdict; is = refl; replied = refl })

-- an event is that of an arrival, if its call has the arrival's time and octets
pub is_event : (a : Arrival) (k : ℕ) (c : Call) (e : Event) → c.time ≡ a.time → c.frame ≡ a.frame → IsEventOf a.net k c e → e ≡ event_of a e.room e.verdict
is_event a k c e time frame is =
    let same_time : e.time ≡ a.time = sym (ap (λ (c : Call). c.time) is.of_call) ∙ time in
    let same_frame : e.frame ≡ a.frame = sym (ap (λ (c : Call). c.frame) is.of_call) ∙ frame in
    λ i. record { net = is.of_net i; time = same_time i; frame = same_frame i; room = e.room; verdict = e.verdict }
