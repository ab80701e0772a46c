-- What a visit leaves of a link, and what both networks have done after it.
use Rattle.std.proofs.Common.{◌≡◌, ℕ, ◌+◌, Bool, List, [], ◌∷◌, ◌++◌, drop, length, map, reverse, if◌then◌else◌, refl, sym, ap, ◌∙◌, subst, arith}
use Rattle.std.proofs.lemmas.List.{drop_at, length-reverse, reverse-append}
use Rattle.es_base.specs.declared.place.Net.{Net}
use Rattle.es_base.specs.declared.verdict.Verdict.{Verdict}
use Rattle.es_base.specs.declared.event.Arrival.{Arrival}
use Rattle.es_base.specs.declared.event.Event.{Event}
use Rattle.es_base.specs.Past.{arrived, event_of}
use Rattle.link_core.specs.Counted.{port_no, shown}
use Rattle.link_core.specs.Link.{Link as Core, delivered_after}
use Rattle.link_lock.specs.declared.user.User.{User}
use Rattle.link_lock.specs.Pass.{KnownPass, MayFind, MayLeave, Visited, with_list_of}
use Rattle.network_calls.specs.declared.call.Call.{Call}
use Rattle.network_calls.specs.Calls.{call, call_of, calls_from, net_of, user_of}
use Rattle.network_calls.proofs.Events.{calls_append}
use Rattle.network_calls.proofs.Networks.{back, same_net}
use Rattle.network_calls.proofs.Visiting.{after_visit, of_one}
use Rattle.network_calls.specs.declared.counts.LinkCounts.{LinkCounts}
use Rattle.network_calls.specs.Counts.{AreCounts}
use Rattle.live_system.specs.Burst.{CountsOne}
use Rattle.live_system.specs.Calls.{Agrees, LiveLink, as_opened, events_of, goes_on, new_outlet}
use Rattle.live_system.specs.Pass.{Calls, Did, known_link}
use Rattle.live_system.proofs.Counting.{counts_more}
use Rattle.live_system.proofs.Outlets.{same_outlets}

abbrev LinkUser : Type 0
LinkUser = KnownPass LiveLink (List Call)

module _ (pass : LinkUser) (lists : User → List Call) (found : LiveLink) (finds : MayFind as_opened Agrees pass lists found) where
  abbrev first : ℕ
  first = length found.core.past

  -- the calls of all events, with these after them
  all_calls : (n : Net) (added : List Event) → calls_from 0 n (events_of found) ++ calls_from first n added ≡ calls_from 0 n (events_of found ++ added)
  all_calls n added =
      let here : first ≡ 0 + length (events_of found) = omega (arith, length-reverse found.core.past) in
      ap (λ (place : ℕ). calls_from 0 n (events_of found) ++ calls_from place n added) here ∙ sym (calls_append 0 n (events_of found) added)

  module _ (a : Arrival) (answer : ℕ × Verdict) (left : LiveLink) (did : Did a found left answer) where
    abbrev event : Event
    event = event_of a did.0.room answer.1

    -- the events are those that were, and this one
    grown : events_of left ≡ events_of found ++ event ∷ []
    grown = ap (λ (core : Core). reverse core.past) did.0.core ∙ reverse-append (event ∷ []) found.core.past

    gone_on : (user : User) (list : List Call) → goes_on user found left list ≡ list ++ calls_from first (net_of user) (event ∷ [])
    gone_on user list =
        ap (λ (es : List Event). list ++ calls_from first (net_of user) es)
        (ap (drop first) grown ∙ drop_at (events_of found) (event ∷ []) first (length-reverse found.core.past))

    -- the same link with the same ports
    same_link : as_opened left ≡ as_opened found
    same_link =
        let settings : left.core.settings ≡ found.core.settings = ap (λ (core : Core). core.settings) did.0.core in
        let outlets : map new_outlet left.outlets ≡ map new_outlet found.outlets =
        same_outlets found.outlets left.outlets (λ at. delivered_after found.core.settings found.core.past a did.0.room (port_no at)) did.0.given in
        (λ i. record { core = record { settings = settings i; past = [] }; outlets = outlets i; received = 0 })

    pub leaves : a.net ≡ net_of pass.user → MayLeave as_opened Agrees goes_on pass lists found left
    leaves net = record {
      fixed = same_link;
      agrees = record {
        ported = did.0.after;
        calls = λ n.
            after_visit first lists pass.user n (event ∷ []) (of_one event (net_of pass.user) net) (goes_on pass.user found left pass.list)
            (gone_on pass.user pass.list ∙ ap (λ (list : List Call). list ++ calls_from first (net_of pass.user) (event ∷ [])) (sym finds.own))
            ∙ (ap (λ list. list ++ calls_from first (net_of n) (event ∷ [])) (finds.agrees.calls n)
            ∙ (all_calls (net_of n) (event ∷ []) ∙ ap (calls_from 0 (net_of n)) (sym grown)));
      };
    }

    -- the pass has one call more
    pub one_call : a.net ≡ net_of pass.user → goes_on pass.user found left pass.list ≡ pass.list ++ call first a.time a.frame answer.1 ∷ []
    one_call net =
        gone_on pass.user pass.list
        ∙ ap (λ (calls : List Call). pass.list ++ calls)
        (ap (λ (n : Net). calls_from first n (event ∷ [])) (sym net)
        ∙ ap (λ (b : Bool). if b then call_of first event ∷ [] else []) (same_net a.net))

    -- ---- what a contract says of the pass of this network

    pub is_call : (net : Net) (counts : LinkCounts) → net_of pass.user ≡ net → user_of net ≡ pass.user → (new : LinkUser) → new ≡ with_list_of pass (goes_on pass.user found left pass.list)
        → (new_counts : LinkCounts) → new_counts.vl ≡ counts.vl → a.net ≡ net
        → Calls (known_link net pass counts) (call first a.time a.frame answer.1) (known_link net new new_counts)
    is_call net counts mine user new knows new_counts vl of_net =
        let same : a ≡ arrived net a.time a.frame = (λ i. record a { net = of_net i }) in
        let after : new ≡ with_list_of pass (pass.list ++ call first a.time a.frame answer.1 ∷ []) = knows ∙ ap (λ (list : List Call). with_list_of pass list) (one_call (of_net ∙ sym mine)) in
        let shows : answer ≡ (shown first, answer.1) = ap (λ (place : ℕ). (place, answer.1)) did.0.placed in
        let does : Did (arrived net a.time a.frame) found left (shown first, answer.1) = subst (λ (b : Arrival). Did b found left (shown first, answer.1)) same
        (subst (λ (r : ℕ × Verdict). Did a found left r) shows did) in
        subst (λ (u : LinkUser). Calls (known_link net pass counts) (call first a.time a.frame answer.1) (known_link net u new_counts)) (sym after) (record {
          lock = refl;
          net = refl;
          link = refl;
          vl = vl;
          calls = refl;
          visits = record {
            lists = lists;
            found = found;
            left = left;
            opened = finds.fixed;
            own = ap lists user ∙ finds.own;
            agrees = finds.agrees;
            does = (refl, does);
          };
        })

-- ---- a visit in which the link took a frame

-- what was done with what the lock handed out was done with what was found
pub took : {shown found before left : LiveLink} (a : Arrival) (answer : ℕ × Verdict) → shown ≡ found → before ≡ left → Did a shown before answer → Did a found left answer
took {shown} {found} {before} {left} a answer shows leaves did =
    subst (λ (l : LiveLink). Did a l left answer) shows (subst (λ (l : LiveLink). Did a shown l answer) leaves did)

pub leaves_taken : (net : Net) (pass : LinkUser) (lists : User → List Call) (found left : LiveLink) (now : ℕ) (octets : List ℕ) (answer : ℕ × Verdict) → pass.user ≡ user_of net → MayFind as_opened Agrees pass lists found
    → Did (arrived net now octets) found left answer → MayLeave as_opened Agrees goes_on pass lists found left
leaves_taken net pass lists found left now octets answer user finds did = leaves pass lists found finds (arrived net now octets) answer left did (sym (ap net_of user ∙ back net))

-- the call is counted
module _ (net : Net) (pass last : LinkUser) (did : LiveLink → LiveLink → Type 0) (visit : Visited as_opened Agrees goes_on did pass last) (now : ℕ) (octets : List ℕ) (answer : ℕ × Verdict)
    (done : Did (arrived net now octets) visit.found visit.left answer) (user : pass.user ≡ user_of net) (old new : LinkCounts) (one : CountsOne net old answer.1 new) where
  abbrev place_found : ℕ
  place_found = length visit.found.core.past

  mine : net_of pass.user ≡ net
  mine = ap net_of user ∙ back net

  last_is : last ≡ with_list_of pass (pass.list ++ call place_found now octets answer.1 ∷ [])
  last_is = visit.knows ∙ ap (λ (l : List Call). with_list_of pass l) (one_call pass visit.lists visit.found visit.finds (arrived net now octets) answer visit.left done (sym mine))

  pub still_counted : AreCounts shown net pass.list old → (last.user ≡ user_of net) × AreCounts shown net last.list new
  still_counted are = rw last_is (user, counts_more net pass.list (call place_found now octets answer.1) old new are one.number one.tally)

  pub called : (place : ℕ) × (answer.0 ≡ shown place) × Calls (known_link net pass old) (call place now octets answer.1) (known_link net last new)
  called = (
    place_found,
    done.0.placed,
    is_call pass visit.lists visit.found visit.finds (arrived net now octets) answer visit.left done net old mine (sym user) last visit.knows new one.vl (λ i. net),
  )
