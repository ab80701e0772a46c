use Rattle.std.proofs.Common.{◌≡◌, ◌∙◌, ◌<◌, List, ap, arith, length, map, sym}
use Rattle.std.proofs.lemmas.List.{length-map}
use Rattle.es_base.specs.declared.place.Net.TheVariants.{A, B}
use Rattle.es_base.specs.Settings.{Settings}
use Rattle.link_lock.specs.declared.user.User.TheVariants.{First, Second}
use Rattle.live_system.specs.Calls.{LiveLink, as_opened}
use Rattle.live_system.specs.Groups.{GroupUser, known_links}
use Rattle.live_system.proofs.Checks.{new_checked}
use Rattle.live_system.proofs.Groups.{known_many}
use Rattle.live_system.proofs.Openings.{agree_new, as_many_counts, is_opened, opened_new, opened_passes}
use Rattle.live_system.proofs.opened_group.open_group.Goals as goal

pub open-requires : goal.open-requires
open-requires g c = λ place link is. agree_new (g.R.Readers.count c.args.readers.now) c.args.links.now c.in_ok-links.links.items c.in_ok-links.ensures.0 c.in_ok-links.ensures.2 place link is

pub new-requires-clause-links : goal.new-requires-clause-links
new-requires-clause-links g c =
    let links = c.in_ok-links.links.items in
    let opened = opened_new (g.R.Readers.count c.args.readers.now) c.args.links.now links c.in_ok-links.ensures.0 c.in_ok-links.ensures.2 in
    let many : length c.args.links.now ≡ length (map as_opened links) =
    ap (λ (ss : List Settings). length ss) (sym opened.1) ∙ (length-map links (λ (l : LiveLink). l.core.settings) ∙ sym (length-map links as_opened)) in
    (c.args.links.now, map as_opened links, ap (λ (p : GroupUser). p.fixed) c.in_ok-lock.ensures.first, many, c.in_ok-counts_a.ensures)

pub new-requires-clause-checks : goal.new-requires-clause-checks
new-requires-clause-checks g c =
    let links = c.in_ok-links.links.items in
    let opened = opened_new (g.R.Readers.count c.args.readers.now) c.args.links.now links c.in_ok-links.ensures.0 c.in_ok-links.ensures.2 in
    new_checked A c.in_ok-lock.field-0.first links c.args.links.now c.in_ok-counts_a.counts_a.items c.in_ok-checks_a.checks_a.items
    (ap (λ (p : GroupUser). p.list) c.in_ok-lock.ensures.first) (ap (λ (p : GroupUser). p.fixed) c.in_ok-lock.ensures.first) opened.1
    (as_many_counts c.args.links.now c.in_ok-counts_a.counts_a.items c.in_ok-counts_a.ensures) c.in_ok-checks_a.ensures

pub new-requires-clause-some : goal.new-requires-clause-some
new-requires-clause-some g c = let many = as_many_counts c.args.links.now c.in_ok-counts_a.counts_a.items c.in_ok-counts_a.ensures in omega (arith, many, c.requires)

pub new-requires-2-clause-links : goal.new-requires-2-clause-links
new-requires-2-clause-links g c =
    let links = c.in_ok-links.links.items in
    let opened = opened_new (g.R.Readers.count c.args.readers.now) c.args.links.now links c.in_ok-links.ensures.0 c.in_ok-links.ensures.2 in
    let many : length c.args.links.now ≡ length (map as_opened links) =
    ap (λ (ss : List Settings). length ss) (sym opened.1) ∙ (length-map links (λ (l : LiveLink). l.core.settings) ∙ sym (length-map links as_opened)) in
    (c.args.links.now, map as_opened links, ap (λ (p : GroupUser). p.fixed) c.in_ok-lock.ensures.second, many, c.in_ok-counts_b.ensures)

pub new-requires-2-clause-checks : goal.new-requires-2-clause-checks
new-requires-2-clause-checks g c =
    let links = c.in_ok-links.links.items in
    let opened = opened_new (g.R.Readers.count c.args.readers.now) c.args.links.now links c.in_ok-links.ensures.0 c.in_ok-links.ensures.2 in
    new_checked B c.in_ok-lock.field-0.second links c.args.links.now c.in_ok-counts_b.counts_b.items c.in_ok-checks_b.checks_b.items
    (ap (λ (p : GroupUser). p.list) c.in_ok-lock.ensures.second) (ap (λ (p : GroupUser). p.fixed) c.in_ok-lock.ensures.second) opened.1
    (as_many_counts c.args.links.now c.in_ok-counts_b.counts_b.items c.in_ok-counts_b.ensures) c.in_ok-checks_b.ensures

pub new-requires-2-clause-some : goal.new-requires-2-clause-some
new-requires-2-clause-some g c = let many = as_many_counts c.args.links.now c.in_ok-counts_b.counts_b.items c.in_ok-counts_b.ensures in omega (arith, many, c.requires)

pub returns-clause-a : goal.returns-clause-a
returns-clause-a g c =
    let pass = c.in_ok-lock.field-0.first in
    let counts = c.in_ok-counts_a.counts_a.items in
    let new = opened_passes (g.R.Readers.count c.args.readers.now) A c.in_ok-lock.field-0.lock First pass c.args.links.now c.in_ok-links.links.items c.in_ok-links.ensures.0 counts c.in_ok-lock.ensures.first c.in_ok-links.ensures.2 c.in_ok-counts_a.ensures in
    let some : 0 < length (known_links A pass 0 counts) = omega (arith, known_many A pass 0 counts, as_many_counts c.args.links.now counts c.in_ok-counts_a.ensures, c.requires) in
    rw c.new.ensures (new.are, new.idle, is_opened A c.in_ok-lock.field-0.lock c.args.links.now c.in_ok-links.links.items (known_links A pass 0 counts) new some)

pub returns-clause-b : goal.returns-clause-b
returns-clause-b g c =
    let pass = c.in_ok-lock.field-0.second in
    let counts = c.in_ok-counts_b.counts_b.items in
    let new = opened_passes (g.R.Readers.count c.args.readers.now) B c.in_ok-lock.field-0.lock Second pass c.args.links.now c.in_ok-links.links.items c.in_ok-links.ensures.0 counts c.in_ok-lock.ensures.second c.in_ok-links.ensures.2 c.in_ok-counts_b.ensures in
    let some : 0 < length (known_links B pass 0 counts) = omega (arith, known_many B pass 0 counts, as_many_counts c.args.links.now counts c.in_ok-counts_b.ensures, c.requires) in
    rw c.new-2.ensures (new.are, new.idle, is_opened B c.in_ok-lock.field-0.lock c.args.links.now c.in_ok-links.links.items (known_links B pass 0 counts) new some)

pub returns-clause-links : goal.returns-clause-links
returns-clause-links g c =
    let links = c.in_ok-links.links.items in
    let first = opened_passes (g.R.Readers.count c.args.readers.now) A c.in_ok-lock.field-0.lock First c.in_ok-lock.field-0.first c.args.links.now links c.in_ok-links.ensures.0 c.in_ok-counts_a.counts_a.items c.in_ok-lock.ensures.first
    c.in_ok-links.ensures.2 c.in_ok-counts_a.ensures in
    let second = opened_passes (g.R.Readers.count c.args.readers.now) B c.in_ok-lock.field-0.lock Second c.in_ok-lock.field-0.second c.args.links.now links c.in_ok-links.ensures.0 c.in_ok-counts_b.counts_b.items c.in_ok-lock.ensures.second
    c.in_ok-links.ensures.2 c.in_ok-counts_b.ensures in
    (links, c.in_ok-links.ensures.0, c.in_ok-links.ensures.1, c.in_ok-links.ensures.2, rw c.new.ensures first.know, rw c.new-2.ensures second.know)
