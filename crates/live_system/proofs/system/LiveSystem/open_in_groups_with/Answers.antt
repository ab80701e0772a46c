use Rattle.std.proofs.Common.{refl, subst, sym}
use Rattle.es_base.specs.declared.place.Net.TheVariants.{A, B}
use Rattle.live_system.specs.Groups.{ids_in, links_of_groups}
use Rattle.live_system.specs.System.{KnowLinks}
use Rattle.live_system.proofs.Ending.{as_many_links}
use Rattle.live_system.proofs.system.LiveSystem.open_in_groups_with.Goals as goal

pub returns-clause-links : goal.returns-clause-links
returns-clause-links g c =
    record {
      opened = record { config = c.args.config.now; links = c.in_ok-locks.ensures.links.0; filtered = c.in_ok-a.a.filtered };
      new = record { config = refl; links = rw c.links-links.ensures.value at c.in_ok-locks.ensures.links.1; none_filtered = c.in_ok-a.ensures.filtered };
      known_a = subst (λ passes. KnowLinks passes c.in_ok-locks.ensures.links.0) (sym c.in_ok-a.ensures.links) c.in_ok-locks.ensures.links.2;
      known_b = subst (λ passes. KnowLinks passes c.in_ok-locks.ensures.links.0) (sym c.in_ok-b.ensures.links) c.in_ok-locks.ensures.links.3;
    }

pub returns-clause-groups : goal.returns-clause-groups
returns-clause-groups g c = record {
  sizes = c.in_ok-sizes.sizes.items;
  cut = rw (c.in_ok-copy.ensures, ← c.links-links.ensures.value) c.in_ok-sizes.ensures;
  locks = c.in_ok-locks.field-0.locks.items;
  one_each = rw c.deref.ensures.value at c.in_ok-locks.ensures.locks;
  ids = refl;
}

pub open-requires-clause-links : goal.open-requires-clause-links
open-requires-clause-links g c = (as_many_links A (ids_in c.deref.result.now c.in_ok-locks.field-0.locks.items) c.links-links.result.now (links_of_groups c.in_ok-locks.field-0.a.items) c.in_ok-locks.ensures.a.0).0

pub returns-clause-a : goal.returns-clause-a
returns-clause-a g c =
    let own = rw (c.deref.ensures.value, c.links-links.ensures.value) at c.in_ok-locks.ensures.a.0 in (
      rw (c.in_ok-a.ensures.net, c.in_ok-a.ensures.links, c.in_ok-copy.ensures) own,
      record { of_net = c.in_ok-a.ensures.net; no_calls = rw c.in_ok-a.ensures.links c.in_ok-locks.ensures.a.1; none_filtered = c.in_ok-a.ensures.filtered },
    )

pub open-requires-2-clause-links : goal.open-requires-2-clause-links
open-requires-2-clause-links g c = (as_many_links B (ids_in c.deref.result.now c.in_ok-locks.field-0.locks.items) c.links-links.result.now (links_of_groups c.in_ok-locks.field-0.b.items) c.in_ok-locks.ensures.b.0).0

pub returns-clause-b : goal.returns-clause-b
returns-clause-b g c =
    let own = rw (c.deref.ensures.value, c.links-links.ensures.value) at c.in_ok-locks.ensures.b.0 in (
      rw (c.in_ok-b.ensures.net, c.in_ok-b.ensures.links, c.in_ok-copy.ensures) own,
      record { of_net = c.in_ok-b.ensures.net; no_calls = rw c.in_ok-b.ensures.links c.in_ok-locks.ensures.b.1; none_filtered = c.in_ok-b.ensures.filtered },
    )
