-- The messages of the first copies are delivered, each once.
use Rattle.std.proofs.Common.{◌≡◌, ◌∙◌, ap, ℕ, ◌<◌, Bool, true, false, not, List, [], Ok, refl, sym, ◌+◌, ◌≤◌, cond, ◌∷◌, ◌++◌, length, arith, ⊎_elim, append_assoc, append-nil, length-append, subst, zero, suc}
use Rattle.std.specs.Prelude.{◌&&◌, ◌||◌, nat_lt}
use Rattle.std.proofs.lemmas.Bool.{lt-ltb, cases_Bool, cases_lt, cases_eq, le-ltb, ltb-true, eq-eqb, ne_eqb, or_left, both_ways}
use Rattle.es_base.specs.declared.place.PortNo.{PortNo}
use Rattle.es_base.specs.declared.port.PortKind.{PortKind}
use Rattle.es_base.specs.declared.port.PortKind.TheVariants.{Sampling, Queuing}
use Rattle.es_base.specs.declared.event.Arrival.{Arrival}
use Rattle.es_base.specs.declared.event.Event.{Event}
use Rattle.es_base.specs.Limits.{most_samples}
use Rattle.link_rules.specs.Integrity.{passes}
use Rattle.link_rules.specs.Groups.{Group, fate}
use Rattle.link_rules.specs.Reassembly.{groups_in}
use Rattle.link_rules.specs.Redundancy.{forwarded, is_forwarded, is_redundant}
use Rattle.link_rules.specs.Outcome.{Payload, brings, brought, frame_payload, outcome}
use Rattle.link_rules.specs.Deliveries.{delivered, takes_one_more, deliveries, number_delivered, is_same_port}
use Rattle.es_base.specs.Settings.{Settings}
use Rattle.frame_delivery.specs.Messages.{CarriesWhole, has_room, CarryWhole, goes_to, messages_of, AllCame, HaveRoom, octets_of_messages, octets_sent}
use Rattle.es_base.specs.declared.event.Message.{Message}
use Rattle.es_base.specs.Past.{arrival_of}
use Rattle.frame_delivery.specs.Sending.{Copy, Numbering, events_since, events_of_copies}
use Rattle.frame_delivery.specs.Once.{first_copies, AreInOrder, greatest_index, has_come, is_new}
use Rattle.frame_delivery.specs.Network.{Timing, BringsInRow, ComeWhole, copies_on}
use Rattle.frame_delivery.specs.Since.{PassInOrder, forwarded_since, passing_since, counts}
use Rattle.frame_delivery.proofs.Since.{firsts_since, each_forwarded, each_since}
use Rattle.frame_delivery.proofs.Firsts.{all_have_first, come_at_most, each_first, new_has_not_come, come_among}
use Rattle.es_base.specs.declared.place.Net.{Net}
use Rattle.frame_delivery.proofs.Main.{firsts_are_forwarded, row_come}

-- ---- what a forwarded frame brings

pub forwarded_brings : (settings : Settings) (past : List Event) (a : Arrival) → is_forwarded settings past a ≡ true → outcome settings past a ≡ brought (frame_payload settings (groups_in settings past) a)
unfolding outcome
forwarded_brings settings past a is =
    go (passes settings past a) (is_redundant settings (forwarded settings past) a) refl refl is
  where
    go : (pass old : Bool) → passes settings past a ≡ pass → is_redundant settings (forwarded settings past) a ≡ old → (pass && not old) ≡ true
        → outcome settings past a ≡ brought (frame_payload settings (groups_in settings past) a)
    go false old e f is = cc
    go true true e f is = cc
    go true false e f is = rw (e, f) refl

-- ---- what becomes of a frame with a whole message

whole_payload : (settings : Settings) (groups : List Group) (a : Arrival) (payload : Payload) → CarriesWhole settings payload a.frame → frame_payload settings groups a ≡ Ok payload
unfolding frame_payload fate
whole_payload settings groups a payload carries = rw (carries.reads, carries.whole) carries.admits

pub forwarded_outcome : (settings : Settings) (past : List Event) (a : Arrival) (payload : Payload) → is_forwarded settings past a ≡ true → CarriesWhole settings payload a.frame
    → outcome settings past a ≡ brings payload
forwarded_outcome settings past a payload is carries = forwarded_brings settings past a is ∙ ap brought (whole_payload settings (groups_in settings past) a payload carries)

-- a frame that isn't forwarded delivers nothing
pub nothing_delivered : (settings : Settings) (past : List Event) (a : Arrival) (room : Bool) (time : ℕ) (port : PortNo) (before : ℕ) → is_forwarded settings past a ≡ false
    → delivered (outcome settings past a) room time port before ≡ []
unfolding outcome
nothing_delivered settings past a room time port before is =
    go (passes settings past a) (is_redundant settings (forwarded settings past) a) refl refl is
  where
    go : (pass old : Bool) → passes settings past a ≡ pass → is_redundant settings (forwarded settings past) a ≡ old → (pass && not old) ≡ false
        → delivered (outcome settings past a) room time port before ≡ []
    go false old e f is = rw e refl
    go true true e f is = rw (e, f) refl
    go true false e f is = cc

-- ---- the ports take it

pub takes : (kind : PortKind) (room : Bool) (before : ℕ) → before < most_samples → takes_one_more kind room before ≡ has_room kind room
takes (Sampling refresh) room before few = lt-ltb before most_samples few
takes (Queuing depth) room before few = refl

-- ---- after any past, the messages of the copies that are forwarded are delivered, each once

number_since : (settings : Settings) (payload : ℕ → Payload) (port : PortNo) (old : List Event) (copies : List Copy) → length (messages_of payload port (forwarded_since settings old copies)) ≤ length copies
number_since settings payload port old [] = omega arith
number_since settings payload port old (copy ∷ before) =
    let rest = number_since settings payload port old before in
    ⊎_elim
    (λ (is : is_forwarded settings (events_since before old) (arrival_of copy.event) ≡ true).
    ⊎_elim
    (λ (to : goes_to port (payload copy.index) copy.event.room ≡ true).
    rw (is, to, length-append (messages_of payload port (forwarded_since settings old before)) (record { time = copy.event.time; octets = (payload copy.index).octets } ∷ [])) (omega (arith, rest)))
    (λ (other : goes_to port (payload copy.index) copy.event.room ≡ false). rw (is, other) (omega (arith, rest)))
    (cases_Bool (goes_to port (payload copy.index) copy.event.room)))
    (λ (is : is_forwarded settings (events_since before old) (arrival_of copy.event) ≡ false). rw is (omega (arith, rest)))
    (cases_Bool (is_forwarded settings (events_since before old) (arrival_of copy.event)))

added : (goes : Bool) (old messages : List Message) (message : Message) → (old ++ messages) ++ cond goes (message ∷ []) [] ≡ old ++ cond goes (messages ++ message ∷ []) messages
added true old messages message = append_assoc old messages (message ∷ [])
added false old messages message = append-nil (old ++ messages)

pub delivered_since : (settings : Settings) (payload : ℕ → Payload) (port : PortNo) (old : List Event) (copies : List Copy) → CarryWhole settings payload (forwarded_since settings old copies)
    → number_delivered settings old port + length copies ≤ most_samples
    → deliveries settings (events_since copies old) port ≡ deliveries settings old port ++ messages_of payload port (forwarded_since settings old copies)
delivered_since settings payload port old [] carry few = sym (append-nil (deliveries settings old port))
delivered_since settings payload port old (copy ∷ before) carry few =
    let before_few : number_delivered settings old port + length before ≤ most_samples = omega (arith, few) in
    let number = number_since settings payload port old before in
    let past : List Event = events_since before old in
    let a : Arrival = arrival_of copy.event in
    let joined : length (deliveries settings old port ++ messages_of payload port (forwarded_since settings old before)) ≡ length (deliveries settings old port) + length (messages_of payload port (forwarded_since settings old before)) =
    length-append (deliveries settings old port) (messages_of payload port (forwarded_since settings old before)) in
    ⊎_elim
    (λ (is : is_forwarded settings (events_since before old) (arrival_of copy.event) ≡ true).
    let carries : CarryWhole settings payload (copy ∷ forwarded_since settings old before) = rw is at carry in
    let rest : deliveries settings (events_since before old) port ≡ deliveries settings old port ++ messages_of payload port (forwarded_since settings old before) = delivered_since settings payload port old before carries.1 before_few in
    let less : number_delivered settings past port < most_samples = rw (rest, joined) (omega (arith, number, few)) in
    let taken = takes (payload copy.index).kind copy.event.room (number_delivered settings past port) less in
    let brings_it = forwarded_outcome settings past a (payload copy.index) is carries.0 in
    rw is (ap (λ out. deliveries settings past port ++ delivered out copy.event.room copy.event.time port (number_delivered settings past port)) brings_it
    ∙ rw (taken, rest) (added (goes_to port (payload copy.index) copy.event.room) (deliveries settings old port) (messages_of payload port (forwarded_since settings old before)) _)))
    (λ (is : is_forwarded settings (events_since before old) (arrival_of copy.event) ≡ false).
    let carries : CarryWhole settings payload (forwarded_since settings old before) = rw is at carry in
    let rest : deliveries settings (events_since before old) port ≡ deliveries settings old port ++ messages_of payload port (forwarded_since settings old before) = delivered_since settings payload port old before carries before_few in
    rw is (ap (λ messages. deliveries settings past port ++ messages) (nothing_delivered settings past a copy.event.room copy.event.time port (number_delivered settings past port) is)
    ∙ append-nil (deliveries settings past port) ∙ rest))
    (cases_Bool (is_forwarded settings (events_since before old) (arrival_of copy.event)))

pub messages_since : (settings : Settings) (numbering : Numbering) (timing : Timing) (payload : ℕ → Payload) (old : List Event) (copies : List Copy) (port : PortNo) → PassInOrder settings numbering timing old copies
    → CarryWhole settings payload (forwarded_since settings old copies) → number_delivered settings old port + length copies ≤ most_samples
    → deliveries settings (events_since copies old) port ≡ deliveries settings old port ++ messages_of payload port (first_copies (passing_since settings old copies))
messages_since settings numbering timing payload old copies port pass carry few =
    delivered_since settings payload port old copies carry few
    ∙ ap (λ (some : List Copy). deliveries settings old port ++ messages_of payload port some) (firsts_since settings numbering timing old copies pass).0

-- ---- where a copy of each frame came, the messages are all that was sent

-- of copies in order, of the first n frames, the latest is of the last of these
latest_is : (n : ℕ) (copy : Copy) (before : List Copy) → is_new copy.index before ≡ true → AllCame n (copy ∷ before) → suc copy.index ≡ n
latest_is n copy before new all =
    let here : nat_lt copy.index n ≡ true = sym (all copy.index) ∙ or_left _ _ (eq-eqb copy.index copy.index refl) in
    let below : copy.index < n = ltb-true copy.index n here in
    ⊎_elim
    (λ (less : suc copy.index < n).
    let come : has_come (suc copy.index) (copy ∷ before) ≡ true = all (suc copy.index) ∙ lt-ltb (suc copy.index) n less in
    let most : suc copy.index ≤ greatest_index (copy ∷ before) = come_at_most (suc copy.index) (copy ∷ before) come in
    let top : greatest_index before ≤ copy.index = below_new copy.index before new in
    absurd (omega arith))
    (λ (more : n ≤ suc copy.index). omega arith)
    (cases_lt (suc copy.index) n)
  where
    below_new : (index : ℕ) (before : List Copy) → is_new index before ≡ true → greatest_index before ≤ index
    below_new index [] new = omega arith
    below_new index (other ∷ before) new = let less = ltb-true (greatest_index (other ∷ before)) index new in omega (arith, less)

-- and the earlier ones are of all frames before it
others_are : (copy : Copy) (before : List Copy) → is_new copy.index before ≡ true → AllCame (suc copy.index) (copy ∷ before) → AllCame copy.index before
others_are copy before new all index =
    ⊎_elim
    (λ (same : copy.index ≡ index).
    let none : has_come index before ≡ false = ap (λ (i : ℕ). has_come i before) (sym same) ∙ new_has_not_come copy.index before new in
    none ∙ sym (le-ltb index copy.index (omega arith)))
    (λ (differ : copy.index ≡ index → ⊥).
    let here : has_come index (copy ∷ before) ≡ has_come index before = ap (λ (b : Bool). b || has_come index before) (ne_eqb copy.index index differ) in
    sym here ∙ all index ∙ same_below index copy.index (λ e. differ (sym e)))
    (cases_eq copy.index index)
  where
    same_below : (i n : ℕ) → (i ≡ n → ⊥) → nat_lt i (suc n) ≡ nat_lt i n
    same_below i n differ =
        ⊎_elim
        (λ (less : i < n). lt-ltb i (suc n) (omega arith) ∙ sym (lt-ltb i n less))
        (λ (more : n ≤ i). le-ltb i (suc n) (omega arith) ∙ sym (le-ltb i n more))
        (cases_lt i n)

octets_join : (one : List Message) (message : Message) → octets_of_messages (one ++ message ∷ []) ≡ octets_of_messages one ++ message.octets ∷ []
octets_join [] message = refl
octets_join (first ∷ one) message = ap (λ all. first.octets ∷ all) (octets_join one message)

pub all_octets : (payload : ℕ → Payload) (port : PortNo) (n : ℕ) (copies : List Copy) → AreInOrder copies → HaveRoom payload copies → AllCame n copies
    → octets_of_messages (messages_of payload port copies) ≡ octets_sent payload port n
all_octets payload port zero [] order room all = refl
all_octets payload port (suc n) [] order room all = let e = all 0 ∙ lt-ltb 0 (suc n) (omega arith) in cc
all_octets payload port n (copy ∷ before) order room all =
    let e : suc copy.index ≡ n = latest_is n copy before order.0 all in
    let all_too : AllCame (suc copy.index) (copy ∷ before) = subst (λ (m : ℕ). AllCame m (copy ∷ before)) (sym e) all in
    let rest : octets_of_messages (messages_of payload port before) ≡ octets_sent payload port copy.index = all_octets payload port copy.index before order.1 room.1 (others_are copy before order.0 all_too) in
    ⊎_elim
    (λ (to : is_same_port (payload copy.index).port port ≡ true).
    rw (goes copy.index copy.event.room room.0, to) (octets_join (messages_of payload port before) (record { time = copy.event.time; octets = (payload copy.index).octets }) ∙ ap (λ octets. octets ++ (payload copy.index).octets ∷ []) rest)
    ∙ ap (octets_sent payload port) e)
    (λ (other : is_same_port (payload copy.index).port port ≡ false). rw (goes copy.index copy.event.room room.0, other) rest ∙ ap (octets_sent payload port) e)
    (cases_Bool (is_same_port (payload copy.index).port port))
  where
    goes : (index : ℕ) (room : Bool) → has_room (payload index).kind room ≡ true → goes_to port (payload index) room ≡ is_same_port (payload index).port port
    goes index room is = rw is (kept (is_same_port (payload index).port port))
      where
        kept : (same : Bool) → (same && true) ≡ same
        kept true = refl
        kept false = refl

pub all_first_octets : (payload : ℕ → Payload) (port : PortNo) (n : ℕ) (copies : List Copy) → AreInOrder (first_copies copies) → HaveRoom payload copies → AllCame n copies
    → octets_of_messages (messages_of payload port (first_copies copies)) ≡ octets_sent payload port n
all_first_octets payload port n copies order room all = all_octets payload port n (first_copies copies) order (each_first (λ copy. has_room (payload copy.index).kind copy.event.room ≡ true) copies room) (λ index. all_have_first index copies ∙ all index)

-- ---- the theorems on messages that come whole in a frame

-- where the first of some copies are forwarded, and they are of all frames
pub all_forwarded : (settings : Settings) (payload : ℕ → Payload) (port : PortNo) (n : ℕ) (copies some : List Copy) → forwarded_since settings [] copies ≡ first_copies some → AreInOrder (first_copies some)
    → CarryWhole settings payload copies → length copies ≤ most_samples → HaveRoom payload some → AllCame n some → octets_of_messages (deliveries settings (events_of_copies copies) port) ≡ octets_sent payload port n
all_forwarded settings payload port n copies some are order carry few room all =
    ap octets_of_messages (delivered_since settings payload port [] copies (each_forwarded (λ copy. CarriesWhole settings (payload copy.index) copy.event.frame) settings [] copies carry) (omega (arith, few)))
    ∙ ap (λ (forwarded : List Copy). octets_of_messages (messages_of payload port forwarded)) are
    ∙ all_first_octets payload port n some order room all

pub all_delivered : (settings : Settings) (numbering : Numbering) (timing : Timing) (payload : ℕ → Payload) (copies : List Copy) (port : PortNo) (n : ℕ) → ComeWhole settings numbering timing copies
    → CarryWhole settings payload copies → length copies ≤ most_samples → HaveRoom payload copies → AllCame n copies → octets_of_messages (deliveries settings (events_of_copies copies) port) ≡ octets_sent payload port n
all_delivered settings numbering timing payload copies port n come carry few room all =
    let firsts = firsts_are_forwarded settings numbering timing copies come in
    all_forwarded settings payload port n copies copies firsts.0 firsts.1 carry few room all

-- ---- where one network brings each frame in a row

-- a frame of which a copy passes came
passing_come : (settings : Settings) (index : ℕ) (copies : List Copy) → has_come index (passing_since settings [] copies) ≡ true → has_come index copies ≡ true
passing_come settings index [] come = come
passing_come settings index (copy ∷ before) come =
    come_among (counts settings (events_of_copies before) (arrival_of copy.event) (passing_since settings [] before)) index copy (passing_since settings [] before) before (passing_come settings index before) come

all_pass_of_one : (settings : Settings) (numbering : Numbering) (copies : List Copy) (net : Net) (n : ℕ) → BringsInRow numbering settings.window net copies → AllCame n copies → AllCame n (copies_on net copies)
    → AllCame n (passing_since settings [] copies)
all_pass_of_one settings numbering copies net n row all all_on index =
    ⊎_elim
    (λ (less : index < n). row_come settings numbering net copies row index (all_on index ∙ lt-ltb index n less) ∙ sym (lt-ltb index n less))
    (λ (more : n ≤ index).
    ⊎_elim
    (λ (come : has_come index (passing_since settings [] copies) ≡ true). absurd (both_ways (has_come index copies) (all index ∙ le-ltb index n more) (passing_come settings index copies come)))
    (λ (none : has_come index (passing_since settings [] copies) ≡ false). none ∙ sym (le-ltb index n more))
    (cases_Bool (has_come index (passing_since settings [] copies))))
    (cases_lt index n)

pub all_by_one : (settings : Settings) (numbering : Numbering) (timing : Timing) (payload : ℕ → Payload) (copies : List Copy) (port : PortNo) (net : Net) (n : ℕ) → PassInOrder settings numbering timing [] copies
    → BringsInRow numbering settings.window net copies → AllCame n copies → AllCame n (copies_on net copies) → CarryWhole settings payload copies → length copies ≤ most_samples → HaveRoom payload copies
    → octets_of_messages (deliveries settings (events_of_copies copies) port) ≡ octets_sent payload port n
all_by_one settings numbering timing payload copies port net n pass row all all_on carry few room =
    let firsts = firsts_since settings numbering timing [] copies pass in
    all_forwarded settings payload port n copies (passing_since settings [] copies) firsts.0 firsts.1 carry few (each_since (λ copy. has_room (payload copy.index).kind copy.event.room ≡ true) settings [] copies room)
    (all_pass_of_one settings numbering copies net n row all all_on)
