-- What a network does on a link, frame by frame.
use Rattle.std.proofs.Common.{◌≡◌, ℕ, ◌+◌, List, [], ◌∷◌, ◌++◌, drop, length, sym, ap, ◌∙◌, arith, append_assoc, length-append}
use Rattle.std.specs.Borrow.{Bor}
use Rattle.std.proofs.lemmas.List.{drop_at, length-reverse, reverse-append}
use Rattle.es_base.specs.declared.place.Net.{Net}
use Rattle.es_base.specs.declared.verdict.Verdict.{Verdict}
use Rattle.es_base.specs.declared.event.Event.{Event}
use Rattle.es_base.specs.Past.{arrived, event_of}
use Rattle.link_core.specs.Link.{Link as Core}
use Rattle.link_lock.specs.declared.user.User.{User}
use Rattle.link_lock.specs.Pass.{KnownPass}
use Rattle.network_calls.specs.declared.call.Call.{Call}
use Rattle.network_calls.specs.Calls.{calls_from, net_of}
use Rattle.network_calls.proofs.Events.{calls_append}
use Rattle.live_system.specs.Calls.{LiveLink, events_of, goes_on}
use Rattle.live_system.specs.Pass.{Did}

abbrev LinkUser : Type 0
LinkUser = KnownPass LiveLink (List Call)

abbrev pub Timed : Type 0
Timed = ℕ × Bor (List ℕ)

abbrev pub Answer : Type 0
Answer = ℕ × Verdict

pub settings_stay : (net : Net) (old new : LiveLink) (f : Timed) (r : Answer) → Did (arrived net f.0 f.1.now) old new r → new.core.settings ≡ old.core.settings
settings_stay net old new f r did = ap (λ (core : Core). core.settings) did.0.core

-- ---- the events of a row

-- the events are those that were, and these
abbrev pub Grows : LiveLink → List Event → LiveLink → Type 0
Grows old added new = events_of new ≡ events_of old ++ added

pub one_grows : (net : Net) (old new : LiveLink) (f : Timed) (r : Answer) → Did (arrived net f.0 f.1.now) old new r → (e : Event) × Grows old (e ∷ []) new
one_grows net old new f r did =
    let e = event_of (arrived net f.0 f.1.now) did.0.room r.1 in
    (e, ap (λ (core : Core). events_of (record old { core = core })) did.0.core ∙ reverse-append (e ∷ []) old.core.past)

gone_on : (user : User) (old new : LiveLink) (added : List Event) (list : List Call) → Grows old added new → goes_on user old new list ≡ list ++ calls_from (length old.core.past) (net_of user) added
gone_on user old new added list grown =
    let first = length old.core.past in
    ap (λ (es : List Event). list ++ calls_from first (net_of user) (drop first es)) grown
    ∙ ap (λ (es : List Event). list ++ calls_from first (net_of user) es) (drop_at (events_of old) added first (length-reverse old.core.past))

-- what a user did, in two steps
pub goes_twice : (user : User) (old mid new : LiveLink) (added more : List Event) (list : List Call) → Grows old added mid → Grows mid more new
    → goes_on user mid new (goes_on user old mid list) ≡ goes_on user old new list
goes_twice user old mid new added more list one two =
    let net = net_of user in
    let first = length old.core.past in
    let at : length mid.core.past ≡ first + length added =
    omega (arith, length-reverse mid.core.past, length-reverse old.core.past, ap (λ (es : List Event). length es) one, length-append (events_of old) added) in
    let both : Grows old (added ++ more) new = two ∙ (ap (λ (es : List Event). es ++ more) one ∙ append_assoc (events_of old) added more) in
    gone_on user mid new more (goes_on user old mid list) two
    ∙ (ap (λ (cs : List Call). cs ++ calls_from (length mid.core.past) net more) (gone_on user old mid added list one)
    ∙ (append_assoc list (calls_from first net added) (calls_from (length mid.core.past) net more)
    ∙ (ap (λ (place : ℕ). list ++ (calls_from first net added ++ calls_from place net more)) at
    ∙ (ap (λ (cs : List Call). list ++ cs) (sym (calls_append first net added more)) ∙ sym (gone_on user old new (added ++ more) list both)))))
