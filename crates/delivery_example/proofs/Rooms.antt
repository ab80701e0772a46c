-- The queue of the example has room, whatever the verdicts are.
use Rattle.std.proofs.Common.{◌≡◌, ◌∙◌, sym, Bool, true, false, List, [], ◌∷◌, refl}
use Rattle.std.proofs.lemmas.Bool.{false≢true}
use Rattle.es_base.specs.declared.event.Arrival.{Arrival}
use Rattle.es_base.specs.declared.event.Event.{Event}
use Rattle.es_base.specs.declared.verdict.Verdict.{Verdict}
use Rattle.link_rules.specs.Fragments as fragments
use Rattle.link_rules.specs.Groups as groups
use Rattle.es_base.specs.Octets as words
use Rattle.link_rules.specs.Outcome as outcomes
use Rattle.es_base.specs.Packet as packets
use Rattle.es_base.specs.Past.{event_of}
use Rattle.link_rules.specs.Run.{IsRun, MayAnswer, may_refuse}
use Rattle.es_base.specs.Settings.{Settings}
use Rattle.delivery_example.specs.Example.{arrival_on_a, first_arrival_on_b, first_on_a, first_on_b, link_with_nav, second_arrival_on_b, second_on_b}

-- the events of three arrivals, the latest first, with whatever answers and verdicts
abbrev pub three : (first second third : Arrival) (answers : Bool × Bool × Bool) (verdicts : Verdict × Verdict × Verdict) → List Event
three first second third answers verdicts =
    event_of third answers.2 verdicts.2 ∷ event_of second answers.1 verdicts.1 ∷ event_of first answers.0 verdicts.0 ∷ []

abbrev pub AreTrue : Bool × Bool × Bool → Type 0
AreTrue answers = (answers.0 ≡ true) × (answers.1 ≡ true) × (answers.2 ≡ true)

has_room : (settings : Settings) (past : List Event) (a : Arrival) (room : Bool) → may_refuse settings past a ≡ false → MayAnswer settings past a room → room ≡ true
has_room settings past a true never may = refl
has_room settings past a false never may = absurd (false≢true (sym never ∙ may))

module _ (answers : Bool × Bool × Bool) (verdicts : Verdict × Verdict × Verdict) where
  first_is_taken : (may_refuse link_with_nav [] arrival_on_a ≡ false) × (may_refuse link_with_nav [] first_arrival_on_b ≡ false)
  unfolding first_on_a first_on_b groups.fate groups.groups_after fragments.octets_below packets.ones_sum words.u16_at words.u32_at outcomes.outcome outcomes.frame_payload outcomes.datagram_payload
  first_is_taken = (refl, refl)

  second_is_taken : may_refuse link_with_nav (event_of arrival_on_a answers.0 verdicts.0 ∷ []) first_arrival_on_b ≡ false
  unfolding first_on_a first_on_b groups.fate groups.groups_after fragments.octets_below packets.ones_sum words.u16_at words.u32_at outcomes.outcome outcomes.frame_payload outcomes.datagram_payload
  second_is_taken = refl

  second_is_taken_of_a : may_refuse link_with_nav (event_of first_arrival_on_b answers.0 verdicts.0 ∷ []) arrival_on_a ≡ false
  unfolding first_on_a first_on_b groups.fate groups.groups_after fragments.octets_below packets.ones_sum words.u16_at words.u32_at outcomes.outcome outcomes.frame_payload outcomes.datagram_payload
  second_is_taken_of_a = refl

  third_is_taken : may_refuse link_with_nav (event_of first_arrival_on_b answers.1 verdicts.1 ∷ event_of arrival_on_a answers.0 verdicts.0 ∷ []) second_arrival_on_b ≡ false
  unfolding first_on_a first_on_b second_on_b groups.fate groups.groups_after fragments.octets_below packets.ones_sum words.u16_at words.u32_at outcomes.outcome outcomes.frame_payload outcomes.datagram_payload
  third_is_taken = refl

  third_is_taken_if_b_is_first : may_refuse link_with_nav (event_of arrival_on_a answers.1 verdicts.1 ∷ event_of first_arrival_on_b answers.0 verdicts.0 ∷ []) second_arrival_on_b ≡ false
  unfolding first_on_a first_on_b second_on_b groups.fate groups.groups_after fragments.octets_below packets.ones_sum words.u16_at words.u32_at outcomes.outcome outcomes.frame_payload outcomes.datagram_payload
  third_is_taken_if_b_is_first = refl

  pub each_has_room : IsRun link_with_nav (three arrival_on_a first_arrival_on_b second_arrival_on_b answers verdicts) → AreTrue answers
  each_has_room run = (
    has_room link_with_nav _ _ answers.0 first_is_taken.0 run.2.2.1,
    has_room link_with_nav _ _ answers.1 second_is_taken run.2.1,
    has_room link_with_nav _ _ answers.2 third_is_taken run.1,
  )

  pub each_has_room_if_b_is_first : IsRun link_with_nav (three first_arrival_on_b arrival_on_a second_arrival_on_b answers verdicts) → AreTrue answers
  each_has_room_if_b_is_first run = (
    has_room link_with_nav _ _ answers.0 first_is_taken.1 run.2.2.1,
    has_room link_with_nav _ _ answers.1 second_is_taken_of_a run.2.1,
    has_room link_with_nav _ _ answers.2 third_is_taken_if_b_is_first run.1,
  )
