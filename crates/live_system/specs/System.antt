-- What a clause sees of the system, and of a network's pass on all of its links.
use Rattle.std.specs.Prelude.{◌≡◌, ℕ, List, [], ◌∷◌, Some, Err}
use Rattle.es_base.specs.Port.{Port}
use Rattle.es_base.specs.Config.{Configuration}
use Rattle.es_base.specs.Addressing.{ComesToPlace, addressed_link, addressee_of}
use Rattle.es_base.specs.FilterTally.{cause_kind}
use Rattle.es_base.specs.Limits.{filter_causes}
use Rattle.es_base.specs.Tally.{AddsOne}
use Rattle.link_core.specs.Counted.{shown}
use Rattle.receiver.specs.declared.ends.LinkEnds.{LinkEnds}
use Rattle.receiver.specs.declared.partition.PartitionEnd.{PartitionEnd}
use Rattle.receiver.specs.declared.port.PortOutlet.{PortOutlet}
use Rattle.receiver.specs.declared.receiver.Reply.{Reply}
use Rattle.receiver.specs.declared.receiver.Reply.TheVariants as replies
use Rattle.receiver.specs.Outlet.{reads_by}
use Rattle.receiver.specs.Port.{ReadsPort, ShowsPort}
use Rattle.receiver.specs.Receiver.{IsNew, Links}
use Rattle.network_calls.specs.declared.call.Call.{Call}
use Rattle.network_calls.specs.Calls.{call}
use Rattle.network_calls.specs.Passes.{DoesAt, IsPassIn, Keeping, KnownNet, System}
use Rattle.live_system.specs.Calls.{LiveLink}
use Rattle.live_system.specs.Pass.{Calls, IsSettled, KnownLink}

-- An end system whose links keep no frame. Each number that is counted stops at the greatest of 64 bits.
abbrev pub keeping_no_frame : Keeping KnownLink LiveLink
keeping_no_frame = record {
  on = λ pass. record { lock = pass.lock; net = pass.net; link = pass.link; calls = pass.calls; counts = pass.counts };
  settings_of = λ link. link.core.settings;
  shows = shown;
  is_idle = λ pass. pass.calls ≡ [];
  is_let_go = λ a b link. IsSettled a.link a.calls b.calls link;
}

-- ---- a pass of the system

-- the pass comes from the opening of this system
abbrev pub IsPassOf : System → KnownNet KnownLink → Type 0
IsPassOf system pass = IsPassIn keeping_no_frame system pass

-- these passes know these links, as they were opened
abbrev pub KnowLinks : List KnownLink → List LiveLink → Type 0
KnowLinks [] [] = Unit {0}
KnowLinks (pass ∷ passes) (link ∷ links) = (pass.link ≡ Some link) × KnowLinks passes links
KnowLinks (pass ∷ passes) [] = ⊥
KnowLinks [] (link ∷ links) = ⊥

-- The passes of both networks know the links of a receiver of this configuration to which nothing came, and these are
-- the ends of its ports. Each sampling port has as many readers as this says.
-- rule: EMB-29
pub record AreOfNewLinks (readers : Port → ℕ) (config : Configuration) (a b : KnownNet KnownLink) (ends : List (LinkEnds PartitionEnd)) : Type 0 where
  pub opened : Links PortOutlet
  pub new : IsNew ShowsPort (reads_by ReadsPort readers) config opened ends
  pub known_a : KnowLinks a.links opened.links
  pub known_b : KnowLinks b.links opened.links

-- ---- a frame

-- one call more, on the link at this place; no other pass changes
abbrev pub CallsAt : List KnownLink → ℕ → Call → List KnownLink → Type 0
CallsAt old place c new = DoesAt (λ before after. Calls before c after) old place new

-- what a reply says, and what the frame did to the pass; a place that is replied stops at the greatest number of 64
-- bits
-- rule: CONC-5, EMB-30, EMB-31
abbrev pub Replies : Configuration → KnownNet KnownLink → ℕ → List ℕ → Reply → KnownNet KnownLink → Type 0
Replies c old now octets (replies.Filtered cause) new =
    (addressed_link c octets ≡ Err cause) × (new.links ≡ old.links) × AddsOne filter_causes old.filtered new.filtered old.net (cause_kind cause)
Replies c old now octets (replies.Link at vl shows verdict) new =
    ComesToPlace c octets at × (vl ≡ addressee_of octets) × (new.filtered ≡ old.filtered)
    × (place : ℕ) × (shows ≡ shown place) × CallsAt old.links at (call place now octets verdict) new.links
