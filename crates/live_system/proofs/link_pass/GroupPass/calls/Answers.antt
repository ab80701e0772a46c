use Rattle.std.proofs.Common.{◌≡◌, ◌∙◌, None, Option, Some, ap, sym}
use Rattle.std.specs.Prelude.{option_map}
use Rattle.network_calls.specs.declared.counts.LinkCounts.{LinkCounts}
use Rattle.network_calls.specs.Counts.{counts_of_link}
use Rattle.live_system.proofs.LookingUp.{same_here}
use Rattle.live_system.proofs.link_pass.GroupPass.calls.Goals as goal

pub returns-in-Some : goal.returns-in-Some
returns-in-Some c =
    let s = c.self.inside in
    let found : Some c.in-Some.counts.now ≡ counts_of_link c.args.vl s.counts.items = rw c.deref.ensures.value at c.in-Some.ensures in
    rw (← c.self.view_is) (ap (λ (o : Option LinkCounts). option_map (λ (x : LinkCounts). x.number) o) found ∙ sym (same_here s.net c.args.vl s.pass s.counts.items c.self.invariant.0.counted).number)

pub returns-in-None : goal.returns-in-None
returns-in-None c =
    let s = c.self.inside in
    let found : None ≡ counts_of_link c.args.vl s.counts.items = rw c.deref.ensures.value at c.in-None.ensures in
    rw (← c.self.view_is) (ap (λ (o : Option LinkCounts). option_map (λ (x : LinkCounts). x.number) o) found ∙ sym (same_here s.net c.args.vl s.pass s.counts.items c.self.invariant.0.counted).number)
