-- A visit in which no frame comes, and the outlets that it finds.
use Rattle.std.proofs.Common.{◌≡◌, ◌<◌, ◌∙◌, ap, refl, sym, subst, zero, suc, ℕ, ⊎_elim, List, [], ◌∷◌, ◌++◌, drop, length, map, reverse, Option, None, Some, append-nil, arith}
use Rattle.std.specs.List.{slice_get}
use Rattle.std.proofs.lemmas.List.{drop_all, length-reverse}
use Rattle.std.proofs.lemmas.Option.{same_Some}
use Rattle.es_base.specs.declared.event.Event.{Event}
use Rattle.es_base.specs.declared.event.Message.{Message}
use Rattle.es_base.specs.declared.place.Net.{Net}
use Rattle.es_base.specs.declared.place.PortNo.{PortNo}
use Rattle.es_base.specs.Port.{Port}
use Rattle.link_core.specs.Link.{Link as Core}
use Rattle.link_lock.specs.declared.user.User.{User}
use Rattle.link_lock.specs.declared.user.User.TheVariants.{First, Second}
use Rattle.link_lock.specs.Lists.{with_list}
use Rattle.link_lock.specs.Pass.{KnownPass, MayFind, MayLeave, Visited, with_list_of}
use Rattle.mailbox_port.specs.Reads.{PortReader}
use Rattle.message_ring.specs.Queue.{Known as Taker}
use Rattle.receiver.specs.declared.port.PortOutlet.{PortOutlet}
use Rattle.receiver.specs.declared.port.PortOutlet.TheVariants as outlets
use Rattle.receiver.specs.Link.{IsPorted}
use Rattle.receiver.specs.Meetings.{HasOutletAt}
use Rattle.receiver.specs.Outlet.{GivesAt, ShowsAt}
use Rattle.receiver.specs.Port.{GivesPort, IsPortOf, IsQueueOf, ShowsPort}
use Rattle.receiver.specs.PortLaws.{port_adds, port_stays}
use Rattle.network_calls.specs.declared.call.Call.{Call}
use Rattle.network_calls.specs.declared.counts.LinkCounts.{LinkCounts}
use Rattle.network_calls.specs.Calls.{calls_from, net_of}
use Rattle.network_calls.specs.Passes.{DoesAt}
use Rattle.live_system.specs.Calls.{Agrees, LiveLink, as_opened, events_of, goes_on, new_outlet}
use Rattle.live_system.specs.Groups.{AgreeEach, GroupUser, IsOfGroup, calls_at, known_links, pass_at, go_on as group_goes_on}
use Rattle.live_system.specs.Meetings.{VisitsAt}
use Rattle.live_system.specs.Pass.{known_link}
use Rattle.live_system.proofs.Groups.{found_there, known_same, of_link, others_stay, same_or_other, still_group_same}
use Rattle.live_system.proofs.Outlets.{same_outlets}

-- ---- what is found

found_at : (Is : PortOutlet → Type 0) → ((x : PortOutlet) → Is (new_outlet x) → Is x) → (xs : List PortOutlet) (at : ℕ) (outlet : PortOutlet) → slice_get (map new_outlet xs) at ≡ Some outlet → Is outlet
    → (x : PortOutlet) × (slice_get xs at ≡ Some x) × Is x
found_at Is back [] at outlet there is = cc
found_at Is back (x ∷ xs) zero outlet there is = (x, refl, back x (subst Is (sym (same_Some (new_outlet x) outlet there)) is))
found_at Is back (x ∷ xs) (suc at) outlet there is = found_at Is back xs at outlet there is

finds_outlet : (Is : PortOutlet → Type 0) → ((x : PortOutlet) → Is (new_outlet x) → Is x) → (found link : LiveLink) (fixed : Option LiveLink) (port : PortNo) → Some (as_opened found) ≡ fixed → fixed ≡ Some link
    → HasOutletAt link port Is → HasOutletAt found port Is
finds_outlet Is back found link fixed port finds known has =
    let same : as_opened found ≡ link = same_Some (as_opened found) link (finds ∙ known) in
    found_at Is back found.outlets port.0 has.0 (ap (λ (l : LiveLink). slice_get l.outlets port.0) same ∙ has.1) has.2

of_port : (reader : PortReader) (outlet : PortOutlet) → IsPortOf (new_outlet outlet) reader → IsPortOf outlet reader
of_port reader (outlets.Sampling port) is = is
of_port reader (outlets.Queuing queue) is = is

of_queue : (taker : Taker) (outlet : PortOutlet) → IsQueueOf (new_outlet outlet) taker → IsQueueOf outlet taker
of_queue taker (outlets.Sampling port) is = is
of_queue taker (outlets.Queuing queue) is = is

-- a reader's port is the port of the link that a pass finds
pub finds_port : (reader : PortReader) (found link : LiveLink) (fixed : Option LiveLink) (port : PortNo) → Some (as_opened found) ≡ fixed → fixed ≡ Some link
    → HasOutletAt link port (λ outlet. IsPortOf outlet reader) → HasOutletAt found port (λ outlet. IsPortOf outlet reader)
finds_port reader found link fixed port finds known has = finds_outlet (λ outlet. IsPortOf outlet reader) (of_port reader) found link fixed port finds known has

-- and so is a taker's queue
pub finds_queue : (taker : Taker) (found link : LiveLink) (fixed : Option LiveLink) (port : PortNo) → Some (as_opened found) ≡ fixed → fixed ≡ Some link
    → HasOutletAt link port (λ outlet. IsQueueOf outlet taker) → HasOutletAt found port (λ outlet. IsQueueOf outlet taker)
finds_queue taker found link fixed port finds known has = finds_outlet (λ outlet. IsQueueOf outlet taker) (of_queue taker) found link fixed port finds known has

-- ---- what is left

shows_still : (port : Option Port) (old new : Option PortOutlet) (messages : List Message) → ShowsAt ShowsPort port old messages → GivesAt GivesPort old new [] → ShowsAt ShowsPort port new messages
shows_still None None None messages shows gives = tt
shows_still None (Some x) new messages shows gives = absurd shows
shows_still (Some port) None new messages shows gives = absurd shows
shows_still None None (Some y) messages shows gives = absurd gives
shows_still (Some port) (Some x) None messages shows gives = absurd gives
shows_still (Some port) (Some x) (Some y) messages shows gives = rw (append-nil messages) at (port_adds port x y messages [] shows gives)

module _ (found left : LiveLink) (core : left.core ≡ found.core) (received : left.received ≡ found.received)
    (gives : (at : ℕ) → GivesAt GivesPort (slice_get found.outlets at) (slice_get left.outlets at) []) where
  still_ported : IsPorted ShowsPort found → IsPorted ShowsPort left
  still_ported ported =
      let same : left ≡ record { core = found.core; outlets = left.outlets; received = found.received } = (λ i. record { core = core i; outlets = left.outlets; received = received i }) in
      let here : IsPorted ShowsPort (record { core = found.core; outlets = left.outlets; received = found.received }) = record {
        run = ported.run;
        frames = ported.frames;
        counted = ported.counted;
        shown = λ place. shows_still (slice_get found.core.settings.ports place) (slice_get found.outlets place) (slice_get left.outlets place) _ (ported.shown place) (gives place);
      } in
      subst (λ (l : LiveLink). IsPorted ShowsPort l) (sym same) here

  same_events : events_of left ≡ events_of found
  same_events = ap (λ (c : Core). reverse c.past) core

  same_opened : as_opened left ≡ as_opened found
  same_opened =
      let settings = ap (λ (c : Core). c.settings) core in
      let outlets : map new_outlet left.outlets ≡ map new_outlet found.outlets = same_outlets found.outlets left.outlets (λ at. []) gives in
      (λ i. record { core = record { settings = settings i; past = [] }; outlets = outlets i; received = 0 })

  module _ (pass : KnownPass LiveLink (List Call)) (lists : User → List Call) (finds : MayFind as_opened Agrees pass lists found) where
    none_more : (user : User) (list : List Call) → goes_on user found left list ≡ list
    none_more user list =
        let first = length found.core.past in
        ap (λ (es : List Event). list ++ calls_from first (net_of user) (drop first es)) same_events
        ∙ (ap (λ (es : List Event). list ++ calls_from first (net_of user) es) (drop_all first (events_of found) (omega (arith, length-reverse found.core.past)))
        ∙ append-nil list)

    stays : (user n : User) (does : List Call) → does ≡ lists user → with_list lists user does n ≡ lists n
    stays First First does is = is
    stays First Second does is = refl
    stays Second First does is = refl
    stays Second Second does is = is

    pub no_call : goes_on pass.user found left pass.list ≡ pass.list
    no_call = none_more pass.user pass.list

    pub leaves_still : MayLeave as_opened Agrees goes_on pass lists found left
    leaves_still = record {
      fixed = same_opened;
      agrees = record {
        ported = still_ported finds.agrees.ported;
        calls = λ n.
            stays pass.user n (goes_on pass.user found left pass.list) (none_more pass.user pass.list ∙ sym finds.own)
            ∙ (finds.agrees.calls n ∙ ap (calls_from 0 (net_of n)) (sym same_events));
      };
    }

-- a reader's meeting leaves the link as it is
gives_none : (found : LiveLink) (at : ℕ) → GivesAt GivesPort (slice_get found.outlets at) (slice_get found.outlets at) []
gives_none found at = gives_self (slice_get found.outlets at)
  where
    gives_self : (outlet : Option PortOutlet) → GivesAt GivesPort outlet outlet []
    gives_self None = tt
    gives_self (Some outlet) = port_stays outlet

module _ (found left : LiveLink) (same : left ≡ found) (pass : KnownPass LiveLink (List Call)) (lists : User → List Call) (finds : MayFind as_opened Agrees pass lists found) where
  pub leaves_reader : MayLeave as_opened Agrees goes_on pass lists found left
  leaves_reader = subst (MayLeave as_opened Agrees goes_on pass lists found) (sym same) (leaves_still found found refl refl (gives_none found) pass lists finds)

  pub no_call_of_reader : goes_on pass.user found left pass.list ≡ pass.list
  no_call_of_reader = subst (λ (l : LiveLink). goes_on pass.user found l pass.list ≡ pass.list) (sym same) (no_call found found refl refl (gives_none found) pass lists finds)

-- ---- the pass after a visit of a group in which no frame came

module _ (net : Net) (did : List LiveLink → List LiveLink → Type 0) (pass last : GroupUser) (visit : Visited (map as_opened) AgreeEach group_goes_on did pass last) (at : ℕ) (Step : LiveLink → LiveLink → Type 0) (done : DoesAt Step visit.found at visit.left)
    (counts : List LinkCounts) (group : IsOfGroup net pass counts) where
  -- its counts are those of its calls still, and of each link it knows what it knew
  pub known_still : goes_on pass.user done.before done.after (calls_at pass.list at) ≡ calls_at pass.list at → IsOfGroup net last counts × (known_links net last 0 counts ≡ known_links net pass 0 counts)
  known_still none = (still_group_same net did pass last visit at Step done counts group same_here, known_same net pass last 0 counts (λ p low high. same_each p (omega (arith, high))))
    where
      same_here : pass_at last at ≡ pass_at pass at
      same_here = (of_link did pass last visit at Step done).knows ∙ ap (λ (list : List Call). with_list_of (pass_at pass at) list) none

      same_each : (p : ℕ) → p < length counts → pass_at last p ≡ pass_at pass p
      same_each p within = ⊎_elim (λ (same : p ≡ at). ap (pass_at last) same ∙ (same_here ∙ ap (pass_at pass) (sym same))) (λ (other : p ≡ at → ⊥). others_stay net did pass last visit at Step done counts group p other within) (same_or_other p at)

  -- the pass met its link
  pub met_at : (c : LinkCounts) → slice_get counts at ≡ Some c → VisitsAt (known_links net pass 0 counts) at Step
  met_at c was =
      let link = of_link did pass last visit at Step done in (
        known_link net (pass_at pass at) c,
        found_there net did pass last visit at Step done counts group c c was,
        record {
          lists = link.lists;
          found = link.found;
          left = link.left;
          opened = link.finds.fixed;
          own = ap link.lists (sym group.user) ∙ link.finds.own;
          agrees = link.finds.agrees;
          does = link.does;
        },
      )
