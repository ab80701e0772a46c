use Rattle.std.proofs.Common.{◌≡◌, ◌∙◌, ◌<◌, Some, ap, arith, length, refl, rules, sym}
use Rattle.std.specs.List.{slice_get}
use Rattle.std.proofs.lemmas.Option.{same_Some, slice_get_read}
use Rattle.live_system.specs.Checked.{latest_of}
use Rattle.live_system.specs.Groups.{known_links}
use Rattle.live_system.specs.Pass.{KnownLink}
use Rattle.live_system.proofs.Checks.{checked_at, checked_many}
use Rattle.live_system.proofs.link_pass.GroupPass.latest.Goals as goal

pub index-requires : goal.index-requires
index-requires c =
    let s = c.self.inside in
    let low = rw (← c.self.view_is) at c.requires in
    let within : c.args.index < length s.checks.items = omega (arith, low, checked_many (known_links s.net s.pass 0 s.counts.items) s.checks.items c.self.invariant.1) in
    search rules

pub returns : goal.returns
returns c = λ pass is.
    let s = c.self.inside in
    let links = known_links s.net s.pass 0 s.counts.items in
    let low = rw (← c.self.view_is) at c.requires in
    let within : c.args.index < length s.checks.items = omega (arith, low, checked_many links s.checks.items c.self.invariant.1) in
    let there : slice_get s.checks.items c.args.index ≡ Some c.index.result.now = slice_get_read s.checks.items _ c.args.index c.index.result.now refl within c.index.ensures in
    let its = checked_at links s.checks.items c.self.invariant.1 c.args.index c.index.result.now there in
    let same : its.0 ≡ pass = same_Some its.0 pass (sym its.1 ∙ (rw (← c.self.view_is) at is)) in
    c.latest.ensures ∙ (its.2.times ∙ ap (λ (k : KnownLink). latest_of k.calls) same)
