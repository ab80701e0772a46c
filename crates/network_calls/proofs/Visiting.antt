-- The calls of both networks after a visit of their link by one of them.
use Rattle.std.proofs.Common.{◌≡◌, ℕ, false, List, [], ◌∷◌, ◌++◌, refl, sym, ap, ◌∙◌, append-nil}
use Rattle.es_base.specs.declared.place.Net.{Net}
use Rattle.es_base.specs.declared.place.Net.TheVariants.{A, B}
use Rattle.es_base.specs.declared.event.Event.{Event}
use Rattle.es_base.specs.Networks.{is_same_net}
use Rattle.link_lock.specs.declared.user.User.{User}
use Rattle.link_lock.specs.declared.user.User.TheVariants.{First, Second}
use Rattle.link_lock.specs.Lists.{with_list}
use Rattle.network_calls.specs.declared.call.Call.{Call}
use Rattle.network_calls.specs.Calls.{calls_from, net_of}

-- only this network brought the events
abbrev pub AreOf : Net → List Event → Type 0
AreOf net added = (n : Net) (place : ℕ) → is_same_net net n ≡ false → calls_from place n added ≡ []

pub of_one : (e : Event) (net : Net) → e.net ≡ net → AreOf net (e ∷ [])
of_one e net is n place apart = rw (is, apart) refl

-- the calls of a network after a visit in which this user's network brought these events, the first of which has this place
pub after_visit : (place : ℕ) (lists : User → List Call) (user n : User) (added : List Event) → AreOf (net_of user) added → (does : List Call) → does ≡ lists user ++ calls_from place (net_of user) added
    → with_list lists user does n ≡ lists n ++ calls_from place (net_of n) added
after_visit place lists First First added by does is = is
after_visit place lists First Second added by does is = sym (append-nil (lists Second)) ∙ ap (λ list. lists Second ++ list) (sym (by B place refl))
after_visit place lists Second First added by does is = sym (append-nil (lists First)) ∙ ap (λ list. lists First ++ list) (sym (by A place refl))
after_visit place lists Second Second added by does is = is
