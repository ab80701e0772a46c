-- The passes of two threads, one a network, and the calls of both, whatever a pass and a call are. It exists in contracts
-- alone. The latest call stands first.
use Rattle.std.specs.Prelude.{◌≡◌, ℕ, ◌==◌, Err, List, [], ◌∷◌, ◌++◌, if◌then◌else◌}
use Rattle.es_base.specs.declared.place.LinkNo.{LinkNo}
use Rattle.es_base.specs.declared.place.Net.{Net}
use Rattle.es_base.specs.declared.place.Net.TheVariants.{A, B}
use Rattle.es_base.specs.Addressing.{ComesToPlace, addressed_link, addressee_of}
use Rattle.es_base.specs.Config.{Configuration}
use Rattle.es_base.specs.Networks.{is_same_net}
use Rattle.network_calls.specs.declared.call.Call.{Call}
use Rattle.network_calls.specs.declared.reply.Reply.{Reply}
use Rattle.network_calls.specs.declared.reply.Reply.TheVariants as replies
use Rattle.network_calls.specs.Calls.{call}
use Rattle.network_calls.specs.Passes.{KnownNet}

pub record BothPasses (K : Type 0) : Type 0 where
  pub a : KnownNet K
  pub b : KnownNet K

abbrev pub pass_of : {K : Type 0} → Net → BothPasses K → KnownNet K
pass_of A passes = passes.a
pass_of B passes = passes.b

abbrev pub other_of : {K : Type 0} → Net → BothPasses K → KnownNet K
other_of A passes = passes.b
other_of B passes = passes.a

-- the calls of one network among those of both
abbrev pub steps_of : {S : Type 0} → Net → List (Net × S) → List S
steps_of net [] = []
steps_of net (one ∷ earlier) = if is_same_net one.0 net then one.1 ∷ steps_of net earlier else steps_of net earlier

-- this holds of each of these calls of both
abbrev pub HoldsOfEach : {S : Type 0} → (S → Type 0) → List (Net × S) → Type 0
HoldsOfEach holds [] = Unit {0}
HoldsOfEach holds (one ∷ earlier) = holds one.1 × HoldsOfEach holds earlier

-- `K` is what is known of a pass on a link, and `S` what a call was; a pass may be of the system, and does its calls.
module _ {K S : Type 0} (IsOwn : KnownNet K → Type 0) (Does : S → KnownNet K → KnownNet K → Type 0) where
  -- this network made this call, and the other network's pass stayed as it was
  pub record MakesBy (net : Net) (step : S) (old new : BothPasses K) : Type 0 where
    pub own : IsOwn (pass_of net new)
    pub of_net : (pass_of net new).net ≡ (pass_of net old).net
    pub does : Does step (pass_of net old) (pass_of net new)
    pub other : other_of net new ≡ other_of net old

  -- these calls of both networks, one after another, made the one passes of the other
  abbrev pub RanBy : BothPasses K → List (Net × S) → BothPasses K → Type 0
  RanBy first [] last = last ≡ first
  RanBy first (one ∷ earlier) last = (before : BothPasses K) × RanBy first earlier before × MakesBy one.0 one.1 before last

  -- these calls of one thread, one after another, made the one pass of the other, whatever the other thread did
  abbrev pub RanAloneBy : KnownNet K → List S → KnownNet K → Type 0
  RanAloneBy first [] last = last ≡ first
  RanAloneBy first (step ∷ earlier) last = (before : KnownNet K) × RanAloneBy first earlier before × IsOwn last × (last.net ≡ before.net) × Does step before last

-- ---- their replies

-- the replies to this network's calls, the first first
abbrev pub all_in : {S X : Type 0} → (S → List X) → Net → List (Net × S) → List X
all_in each_in net [] = []
all_in each_in net (one ∷ earlier) = if is_same_net one.0 net then all_in each_in net earlier ++ each_in one.1 else all_in each_in net earlier

-- that of the latest call first
abbrev pub latest_first_in : {S X : Type 0} → (S → List X) → Net → List (Net × S) → List X
latest_first_in each_in net [] = []
latest_first_in each_in net (one ∷ earlier) = if is_same_net one.0 net then each_in one.1 ++ latest_first_in each_in net earlier else latest_first_in each_in net earlier

-- the call on the link with this number, if a frame of these octets, which came at this time, had this reply
abbrev pub call_replied : LinkNo → ℕ → List ℕ → Reply → List Call
call_replied vl time octets (replies.Filtered cause) = []
call_replied vl time octets (replies.Link number place verdict) = if number.0 == vl.0 then call place time octets verdict ∷ [] else []

-- the reply to a frame of these octets is of the link to which it comes, or has the cause for which it comes to none
-- rule: CONC-5, EMB-31
abbrev pub IsReplyTo : Configuration → List ℕ → Reply → Type 0
IsReplyTo c octets (replies.Filtered cause) = addressed_link c octets ≡ Err cause
IsReplyTo c octets (replies.Link vl place verdict) = (at : ℕ) × ComesToPlace c octets at × (vl ≡ addressee_of octets)
