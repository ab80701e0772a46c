-- One link more, at the end of the row.
use Rattle.std.proofs.Common.{◌≡◌, Some, List, [], ◌∷◌, ◌++◌}
use Rattle.es_base.specs.declared.place.Net.{Net}
use Rattle.es_base.specs.Settings.{Settings}
use Rattle.link_lock.specs.Pass.{LockId}
use Rattle.network_calls.specs.Passes.{IsPassOn}
use Rattle.live_system.specs.Calls.{LiveLink}
use Rattle.live_system.specs.Pass.{IsNewPass, KnownLink}
use Rattle.live_system.specs.System.{KnowLinks, keeping_no_frame}

pub know_push : (passes : List KnownLink) (links : List LiveLink) (pass : KnownLink) (link : LiveLink) → KnowLinks passes links → pass.link ≡ Some link → KnowLinks (passes ++ pass ∷ []) (links ++ link ∷ [])
know_push [] [] pass link know is = (is, tt)
know_push (p ∷ passes) (l ∷ links) pass link know is = (know.0, know_push passes links pass link know.1 is)
know_push (p ∷ passes) [] pass link know is = absurd know
know_push [] (l ∷ links) pass link know is = absurd know

-- a pass that was opened with its link
pub opened_pass : (settings : Settings) (link : LiveLink) (lock : LockId) (net : Net) (pass : KnownLink) → link.core.settings ≡ settings → IsNewPass settings link lock net pass → IsPassOn keeping_no_frame lock settings net pass
opened_pass settings link lock net pass with_settings new = record {
  at_lock = new.of_lock;
  of_net = new.of_net;
  link = link;
  known = new.known;
  with_settings = with_settings;
  with_number = new.vl;
}
