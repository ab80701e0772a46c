-- The links that a pass knows.
use Rattle.std.proofs.Common.{◌≡◌, ◌∙◌, ap, sym, ℕ, zero, suc, List, [], ◌∷◌, set, Some, refl}
use Rattle.std.specs.List.{slice_get}
use Rattle.std.proofs.lemmas.Option.{same_Some}
use Rattle.es_base.specs.declared.place.PortNo.{PortNo}
use Rattle.es_base.specs.Config.{Configuration}
use Rattle.receiver.specs.declared.port.PortOutlet.{PortOutlet}
use Rattle.receiver.specs.Meetings.{HasOutlet}
use Rattle.receiver.specs.Receiver.{Links}
use Rattle.network_calls.specs.declared.call.Call.{Call}
use Rattle.receiver.specs.declared.receiver.Reply.{Reply}
use Rattle.receiver.specs.declared.receiver.Reply.TheVariants as replies
use Rattle.network_calls.specs.Passes.{KnownNet}
use Rattle.network_calls.proofs.Rows.{IsSame}
use Rattle.live_system.specs.Calls.{LiveLink}
use Rattle.live_system.specs.Meetings.{KnowsOutlet}
use Rattle.live_system.specs.Pass.{Calls, KnownLink}
use Rattle.live_system.specs.System.{KnowLinks, Replies, keeping_no_frame}

knows_at : (passes : List KnownLink) (links : List LiveLink) (place : ℕ) (link : LiveLink) → KnowLinks passes links → slice_get links place ≡ Some link
    → (pass : KnownLink) × (slice_get passes place ≡ Some pass) × (pass.link ≡ Some link)
knows_at [] [] place link know there = cc
knows_at (pass ∷ passes) (l ∷ links) zero link know there = (pass, refl, know.0 ∙ ap (λ (x : LiveLink). Some x) (same_Some l link there))
knows_at (pass ∷ passes) (l ∷ links) (suc place) link know there = knows_at passes links place link know.1 there
knows_at (pass ∷ passes) [] place link know there = absurd know
knows_at [] (l ∷ links) place link know there = absurd know

pub knows_outlet : (Is : PortOutlet → Type 0) (passes : List KnownLink) (opened : Links PortOutlet) (place : ℕ) (port : PortNo) → KnowLinks passes opened.links → HasOutlet opened place port Is → KnowsOutlet passes place port Is
knows_outlet Is passes opened place port know has =
    let at = knows_at passes opened.links place has.0 know has.1 in
    (at.0, at.1, has.0, at.2, has.2)

know_set : (passes : List KnownLink) (links : List LiveLink) (at : ℕ) (before after : KnownLink) → KnowLinks passes links → slice_get passes at ≡ Some before → after.link ≡ before.link → KnowLinks (set passes at after) links
know_set [] links at before after know there same = cc
know_set (pass ∷ passes) [] at before after know there same = absurd know
know_set (pass ∷ passes) (l ∷ links) zero before after know there same = (same ∙ (ap (λ (k : KnownLink). k.link) (sym (same_Some pass before there)) ∙ know.0), know.1)
know_set (pass ∷ passes) (l ∷ links) (suc at) before after know there same = (know.0, know_set passes links at before after know.1 there same)

-- a frame changes nothing of it
pub knows_still : (config : Configuration) (old new : KnownNet KnownLink) (now : ℕ) (octets : List ℕ) (reply : Reply) (links : List LiveLink) → Replies config old now octets reply new → KnowLinks old.links links → KnowLinks new.links links
knows_still config old new now octets (replies.Filtered cause) links does know = rw does.1 know
knows_still config old new now octets (replies.Link at number shows verdict) links does know =
    let calls = does.5 in
    rw calls.only (know_set old.links links at calls.before calls.after know calls.there calls.does.link)

-- it leaves the pass on its link that of this link
pub same_after : (old new : KnownLink) (c : Call) → Calls old c new → IsSame keeping_no_frame old new
same_after old new c is = (is.lock, is.net, is.link, is.vl)
