-- What one network did on a link: its calls.
use Rattle.std.specs.Prelude.{ℕ, ◌+◌, ◌==◌, List, [], ◌∷◌, if◌then◌else◌}
use Rattle.es_base.specs.declared.place.Net.{Net}
use Rattle.es_base.specs.declared.place.Net.TheVariants.{A, B}
use Rattle.es_base.specs.declared.verdict.Verdict.{Verdict}
use Rattle.es_base.specs.declared.event.Event.{Event}
use Rattle.es_base.specs.Networks.{is_same_net}
use Rattle.es_base.specs.Verdict.{kind_of}
use Rattle.link_lock.specs.declared.user.User.{User}
use Rattle.link_lock.specs.declared.user.User.TheVariants.{First, Second}
use Rattle.network_calls.specs.declared.call.Call.{Call}

-- the users of each link's lock are the networks
abbrev pub user_of : Net → User
user_of A = First
user_of B = Second

abbrev pub net_of : User → Net
net_of First = A
net_of Second = B

abbrev pub call : ℕ → ℕ → List ℕ → Verdict → Call
call place time frame verdict = record { place = place; time = time; frame = frame; verdict = verdict }

abbrev pub call_of : ℕ → Event → Call
call_of place e = call place e.time e.frame e.verdict

-- the calls of one network in some events, the first of which has this place
abbrev pub calls_from : ℕ → Net → List Event → List Call
calls_from place net [] = []
calls_from place net (e ∷ es) = if is_same_net e.net net then call_of place e ∷ calls_from (place + 1) net es else calls_from (place + 1) net es

-- number of the calls with a verdict of this kind
abbrev pub count_calls : ℕ → List Call → ℕ
count_calls kind [] = 0
count_calls kind (c ∷ cs) = if kind_of c.verdict == kind then count_calls kind cs + 1 else count_calls kind cs
