-- Two pasts of which the rules read the same.
use Rattle.std.proofs.Common.{◌||◌, nat_lt, length-append, append-nil, append_assoc, drop, ◌≡◌, ◌∙◌, ap, sym, ℕ, ◌+◌, Bool, true, false, not, ◌&&◌, List, [], ◌∷◌, ◌++◌, length, Option, None, Some, refl, max, if◌then◌else◌}
use Rattle.std.proofs.Math.Path.{fun_ext}
use Rattle.std.proofs.Math.Seq.{drop-append_seam}
use Rattle.es_base.specs.declared.place.Net.{Net}
use Rattle.es_base.specs.declared.place.PortNo.{PortNo}
use Rattle.es_base.specs.declared.event.Arrival.{Arrival}
use Rattle.es_base.specs.declared.event.Event.{Event}
use Rattle.es_base.specs.declared.event.Message.{Message}
use Rattle.es_base.specs.Frame.{sequence_number_of}
use Rattle.es_base.specs.Settings.{Settings}
use Rattle.es_base.specs.Past.{arrival_of}
use Rattle.es_base.specs.Age.{elapsed}
use Rattle.link_rules.specs.Copies.{Forwarded, greatest_time, is_ahead, is_first_copy, summary_of}
use Rattle.es_base.specs.Networks.{is_same_net}
use Rattle.link_rules.specs.Integrity.{latest, may_follow, passes, sequence_numbers_on}
use Rattle.link_rules.specs.Redundancy.{forwarded, is_forwarded, is_redundant}
use Rattle.link_rules.specs.Reassembly.{groups_in}
use Rattle.link_rules.specs.Outcome.{outcome}
use Rattle.link_rules.specs.Deliveries.{delivered, deliveries, number_delivered}
use Rattle.link_rules.specs.Run.{IsRun, MayAnswer, decided, may_refuse, may_refuse_with, settled, verdict_of}
use Rattle.es_base.specs.Tally.{count_of, is_counted}
use Rattle.link_rules.specs.Left.{Left, left_by}

-- ---- the summary of what was forwarded is all that is read of it

-- a test of the summary alone
abbrev first_by : ℕ → Option Forwarded → ℕ → ℕ → Bool
first_by skew_max None number now = true
first_by skew_max (Some summary) number now = nat_lt skew_max (elapsed now summary.time) || is_ahead summary.sequence_number number

is_first_by : (skew_max : ℕ) (frames : List Forwarded) (number now : ℕ) → is_first_copy skew_max frames number now ≡ first_by skew_max (summary_of frames) number now
is_first_by skew_max [] number now = refl
is_first_by skew_max (frame ∷ earlier) number now = refl

redundant_by : (settings : Settings) (one two : List Forwarded) (a : Arrival) → summary_of one ≡ summary_of two → is_redundant settings one a ≡ is_redundant settings two a
redundant_by settings one two a same =
    let number = sequence_number_of a.frame in
    let skew_max = settings.skew_max in
    ap (λ first. settings.redundancy && not first)
    (is_first_by skew_max one number a.time ∙ ap (λ summary. first_by skew_max summary number a.time) same ∙ sym (is_first_by skew_max two number a.time))

abbrev time_in : Option Forwarded → ℕ
time_in None = 0
time_in (Some summary) = summary.time

time_is : (frames : List Forwarded) → greatest_time frames ≡ time_in (summary_of frames)
time_is [] = refl
time_is (frame ∷ earlier) = refl

abbrev summary_with : Forwarded → Option Forwarded → Option Forwarded
summary_with frame before = Some (record { sequence_number = frame.sequence_number; time = max frame.time (time_in before) })

summary_more : (frame : Forwarded) (frames : List Forwarded) → summary_of (frame ∷ frames) ≡ summary_with frame (summary_of frames)
summary_more frame frames = ap (λ (time : ℕ). Some (record { sequence_number = frame.sequence_number; time = max frame.time time })) (time_is frames)

summary_if : (is : Bool) (frame : Forwarded) (one two : List Forwarded) → summary_of one ≡ summary_of two
    → summary_of (if is then frame ∷ one else one) ≡ summary_of (if is then frame ∷ two else two)
summary_if true frame one two same = summary_more frame one ∙ ap (summary_with frame) same ∙ sym (summary_more frame two)
summary_if false frame one two same = same

latest_if : (is : Bool) (number : ℕ) (one two : List ℕ) → latest one ≡ latest two → latest (if is then number ∷ one else one) ≡ latest (if is then number ∷ two else two)
latest_if true number one two same = refl
latest_if false number one two same = same

-- ---- so if two pasts left the same, this is the same after them

module _ (settings : Settings) (one two : List Event) (same : left_by settings one ≡ left_by settings two) where
  same_passes : (a : Arrival) → passes settings one a ≡ passes settings two a
  same_passes a = ap (λ (left : Left). may_follow settings.window (left.last_number a.net) (sequence_number_of a.frame)) same

  same_redundant : (a : Arrival) → is_redundant settings (forwarded settings one) a ≡ is_redundant settings (forwarded settings two) a
  same_redundant a = redundant_by settings (forwarded settings one) (forwarded settings two) a (ap (λ (left : Left). left.summary) same)

  same_forwarded : (a : Arrival) → is_forwarded settings one a ≡ is_forwarded settings two a
  same_forwarded a = rw (same_passes a, same_redundant a) refl

  same_groups : groups_in settings one ≡ groups_in settings two
  same_groups = ap (λ (left : Left). left.groups) same

  same_number : number_delivered settings one ≡ number_delivered settings two
  same_number = ap (λ (left : Left). left.delivered) same

  same_outcome : (a : Arrival) → outcome settings one a ≡ outcome settings two a
  unfolding outcome
  same_outcome a = rw (same_passes a, same_redundant a, same_groups) refl

  pub same_verdict : (a : Arrival) (room : Bool) → verdict_of settings one a room ≡ verdict_of settings two a room
  same_verdict a room =
      ap (λ is. settled (decided is (number_delivered settings one)) room) (same_outcome a) ∙ ap (λ number. settled (decided (outcome settings two a) number) room) same_number

  same_may_refuse : (a : Arrival) → may_refuse settings one a ≡ may_refuse settings two a
  same_may_refuse a = ap (λ is. may_refuse_with is (number_delivered settings one)) (same_outcome a) ∙ ap (λ number. may_refuse_with (outcome settings two a) number) same_number

  pub same_answer : (a : Arrival) (room : Bool) → MayAnswer settings one a room → MayAnswer settings two a room
  same_answer a true may = tt
  same_answer a false may = sym (same_may_refuse a) ∙ may

  pub same_delivered : (a : Arrival) (room : Bool) (port : PortNo) → delivered (outcome settings one a) room a.time port (number_delivered settings one port) ≡ delivered (outcome settings two a) room a.time port (number_delivered settings two port)
  same_delivered a room port =
      ap (λ is. delivered is room a.time port (number_delivered settings one port)) (same_outcome a) ∙ ap (λ (number : PortNo → ℕ). delivered (outcome settings two a) room a.time port (number port)) same_number

  number_more : (e : Event) (port : PortNo) → number_delivered settings (e ∷ one) port ≡ number_delivered settings (e ∷ two) port
  number_more e port =
      let last = delivered (outcome settings one (arrival_of e)) e.room e.time port (number_delivered settings one port) in
      let last_too = delivered (outcome settings two (arrival_of e)) e.room e.time port (number_delivered settings two port) in
      length-append (deliveries settings one port) last ∙ ap (λ (n : ℕ). n + length last) (ap (λ (number : PortNo → ℕ). number port) same_number)
      ∙ ap (λ (messages : List _). number_delivered settings two port + length messages) (same_delivered (arrival_of e) e.room port) ∙ sym (length-append (deliveries settings two port) last_too)

  groups_more : (e : Event) → groups_in settings (e ∷ one) ≡ groups_in settings (e ∷ two)
  groups_more e = rw (same_groups, same_forwarded (arrival_of e)) refl

  summary_of_more : (e : Event) → summary_of (forwarded settings (e ∷ one)) ≡ summary_of (forwarded settings (e ∷ two))
  summary_of_more e =
      let frame : Forwarded = record { sequence_number = sequence_number_of e.frame; time = e.time } in
      ap (λ is. summary_of (if is then frame ∷ forwarded settings one else forwarded settings one)) (same_forwarded (arrival_of e))
      ∙ summary_if (is_forwarded settings two (arrival_of e)) frame (forwarded settings one) (forwarded settings two) (ap (λ (left : Left). left.summary) same)

  latest_more : (e : Event) (net : Net) → latest (sequence_numbers_on (e ∷ one) net) ≡ latest (sequence_numbers_on (e ∷ two) net)
  latest_more e net =
      latest_if (is_same_net e.net net) (sequence_number_of e.frame) (sequence_numbers_on one net) (sequence_numbers_on two net) (ap (λ (left : Left). left.last_number net) same)

  counts_more : (e : Event) (net : Net) (kind : ℕ) → count_of (e ∷ one) net kind ≡ count_of (e ∷ two) net kind
  counts_more e net kind = ap (λ (left : Left). if is_counted net kind e then left.counts net kind + 1 else left.counts net kind) same

  left_more : (e : Event) → left_by settings (e ∷ one) ≡ left_by settings (e ∷ two)
  left_more e =
      rw (fun_ext (latest_more e), summary_of_more e, groups_more e, fun_ext (number_more e), fun_ext (λ net. fun_ext (counts_more e net))) refl

-- ---- and whatever follows

pub left_joins : (settings : Settings) (one two later : List Event) → left_by settings one ≡ left_by settings two → left_by settings (later ++ one) ≡ left_by settings (later ++ two)
left_joins settings one two [] same = same
left_joins settings one two (e ∷ later) same = left_more settings (later ++ one) (later ++ two) (left_joins settings one two later same) e

pub runs_alike : (settings : Settings) (one two later : List Event) → left_by settings one ≡ left_by settings two → IsRun settings two → IsRun settings (later ++ one) → IsRun settings (later ++ two)
runs_alike settings one two [] same run_two run = run_two
runs_alike settings one two (e ∷ later) same run_two run =
    let before = left_joins settings one two later same in (
      run.0 ∙ same_verdict settings (later ++ one) (later ++ two) before (arrival_of e) e.room,
      same_answer settings (later ++ one) (later ++ two) before (arrival_of e) e.room run.1,
      runs_alike settings one two later same run_two run.2,
    )

-- the part of a run before its latest events is a run
pub run_before : (settings : Settings) (earlier later : List Event) → IsRun settings (later ++ earlier) → IsRun settings earlier
run_before settings earlier [] run = run
run_before settings earlier (e ∷ later) run = run_before settings earlier later run.2

-- ---- what later events deliver

-- the messages that the later events add, which follow from what the earlier ones left
abbrev added : Settings → List Event → List Event → PortNo → List Message
added settings earlier [] port = []
added settings earlier (e ∷ later) port =
    added settings earlier later port ++ delivered (outcome settings (later ++ earlier) (arrival_of e)) e.room e.time port (number_delivered settings (later ++ earlier) port)

adds : (settings : Settings) (earlier later : List Event) (port : PortNo) → deliveries settings (later ++ earlier) port ≡ deliveries settings earlier port ++ added settings earlier later port
adds settings earlier [] port = sym (append-nil (deliveries settings earlier port))
adds settings earlier (e ∷ later) port =
    let last = delivered (outcome settings (later ++ earlier) (arrival_of e)) e.room e.time port (number_delivered settings (later ++ earlier) port) in
    ap (λ messages. messages ++ last) (adds settings earlier later port) ∙ append_assoc (deliveries settings earlier port) (added settings earlier later port) last

dropped : (settings : Settings) (earlier later : List Event) (port : PortNo) → drop (number_delivered settings earlier port) (deliveries settings (later ++ earlier) port) ≡ added settings earlier later port
dropped settings earlier later port =
    ap (drop (number_delivered settings earlier port)) (adds settings earlier later port) ∙ drop-append_seam (deliveries settings earlier port) (added settings earlier later port)

pub go_on : (settings : Settings) (earlier later : List Event) (port : PortNo)
    → deliveries settings (later ++ earlier) port ≡ deliveries settings earlier port ++ drop (number_delivered settings earlier port) (deliveries settings (later ++ earlier) port)
go_on settings earlier later port = adds settings earlier later port ∙ ap (λ messages. deliveries settings earlier port ++ messages) (sym (dropped settings earlier later port))

same_added : (settings : Settings) (one two later : List Event) (port : PortNo) → left_by settings one ≡ left_by settings two → added settings one later port ≡ added settings two later port
same_added settings one two [] port same = refl
same_added settings one two (e ∷ later) port same =
    let last = delivered (outcome settings (later ++ one) (arrival_of e)) e.room e.time port (number_delivered settings (later ++ one) port) in
    ap (λ messages. messages ++ last) (same_added settings one two later port same)
    ∙ ap (λ messages. added settings two later port ++ messages) (same_delivered settings (later ++ one) (later ++ two) (left_joins settings one two later same) (arrival_of e) e.room port)

pub alike : (settings : Settings) (one two later : List Event) (port : PortNo) → left_by settings one ≡ left_by settings two
    → drop (number_delivered settings one port) (deliveries settings (later ++ one) port) ≡ drop (number_delivered settings two port) (deliveries settings (later ++ two) port)
alike settings one two later port same = dropped settings one later port ∙ same_added settings one two later port same ∙ sym (dropped settings two later port)
