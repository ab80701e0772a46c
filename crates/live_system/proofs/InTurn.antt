-- Calls of one thread, one after another.
use Rattle.std.proofs.Common.{◌≡◌, ℕ, ◌+◌, ◌-◌, ◌≤◌, List, [], ◌∷◌, ◌++◌, drop, length, set, take, sym, ap, ◌∙◌, subst, append-nil, append_assoc, arith}
use Rattle.std.proofs.Math.Seq.{take-add}
use borrow.Rule.Slice.PartMut.{put_mid}
use Rattle.std.specs.Borrow.{Bor}
use Rattle.std.proofs.lemmas.List.{length-take-le}
use Rattle.receiver.specs.declared.receiver.Reply.{Reply}
use Rattle.network_calls.specs.Passes.{KnownNet, System}
use Rattle.live_system.specs.Burst.{Frames, steps_in_turn}
pub use Rattle.live_system.specs.Chunk.{no_frame}
use Rattle.live_system.specs.Pass.{KnownLink}
use Rattle.live_system.specs.Run.{RanAlone, Step, received}
use Rattle.live_system.specs.System.{IsPassOf}
use Rattle.live_system.proofs.Parts.{part_written}

abbrev Timed : Type 0
Timed = ℕ × Bor (List ℕ)

-- some calls, and others after them
pub ran_append : (system : System) (first mid last : KnownNet KnownLink) (earlier later : List Step) → RanAlone system first earlier mid → RanAlone system mid later last → RanAlone system first (later ++ earlier) last
ran_append system first mid last earlier [] ran more = subst (λ (k : KnownNet KnownLink). RanAlone system first earlier k) (sym more) ran
ran_append system first mid last earlier (step ∷ later) ran more = (more.0, ran_append system first mid more.0 earlier later ran more.1, more.2, more.3, more.4)

pub steps_append : (fs gs : Frames) (rs ss : List Reply) → length fs ≡ length rs → steps_in_turn (fs ++ gs) (rs ++ ss) ≡ steps_in_turn gs ss ++ steps_in_turn fs rs
steps_append [] gs [] ss same = sym (append-nil (steps_in_turn gs ss))
steps_append (f ∷ fs) gs (r ∷ rs) ss same =
    let fewer : length fs ≡ length rs = omega (arith, same) in
    ap (λ (steps : List Step). steps ++ received f.0 f.1.now r ∷ []) (steps_append fs gs rs ss fewer) ∙ append_assoc (steps_in_turn gs ss) (steps_in_turn fs rs) (received f.0 f.1.now r ∷ [])
steps_append [] gs (r ∷ rs) ss same = absurd (omega (arith, same))
steps_append (f ∷ fs) gs [] ss same = absurd (omega (arith, same))

-- a filtered frame leaves a pass of the system
pub still_own : (system : System) (old new : KnownNet KnownLink) → IsPassOf system old → new.net ≡ old.net → new.links ≡ old.links → IsPassOf system new
still_own system old new own net links = rw (net, links) own

-- the pass whose link at this place is this one
abbrev with_link : KnownNet KnownLink → ℕ → KnownLink → KnownNet KnownLink
with_link pass at link = record pass { links = set pass.links at link }

-- ---- frames in a row of one link

-- ---- bursts

-- some frames, and a part that was given after them
pub ran_part : (system : System) (first mid last : KnownNet KnownLink) (fs : Frames) (rs ss : List Reply) (done end : ℕ) → done ≤ end → done ≤ length fs → done ≤ length rs → length ss ≡ end - done
    → RanAlone system first (steps_in_turn (take done fs) (take done rs)) mid → RanAlone system mid (steps_in_turn (take (end - done) (drop done fs)) ss) last
    → RanAlone system first (steps_in_turn (take end fs) (take end (put_mid done (end - done) rs ss))) last
ran_part system first mid last fs rs ss done end up low low_too many ran more =
    let whole : end ≡ done + (end - done) = omega (arith, up) in
    let part = take (end - done) (drop done fs) in
    let frames : take end fs ≡ take done fs ++ part = ap (λ (n : ℕ). take n fs) whole ∙ take-add done (end - done) fs in
    let replies : take end (put_mid done (end - done) rs ss) ≡ take done rs ++ ss = part_written done end rs ss up low_too many in
    let same : length (take done fs) ≡ length (take done rs) = length-take-le done fs low ∙ sym (length-take-le done rs low_too) in
    let both = steps_append (take done fs) part (take done rs) ss same in
    rw (frames, replies, both) (ran_append system first mid last (steps_in_turn (take done fs) (take done rs)) (steps_in_turn part ss) ran more)
