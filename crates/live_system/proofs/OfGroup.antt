-- Frames of a chunk that come to one group, and the events of their links.
use Rattle.std.proofs.Common.{◌≡◌, ◌⊎◌, ◌<◌, ◌==◌, false, ℕ, suc, List, [], ◌∷◌, length, take, refl, sym, subst, ap, ◌∙◌, ⊎_elim, inl, inr, arith}
use Rattle.std.specs.Prelude.{slice_index_or}
use Rattle.std.specs.List.{All}
use Rattle.std.proofs.lemmas.Bool.{ne_eqb}
use Rattle.std.proofs.lemmas.List.Elements.{All-head, All-tail}
use Rattle.es_base.specs.declared.place.Net.{Net}
use Rattle.es_base.specs.Addressing.{ComesToPlace}
use Rattle.es_base.specs.Frame.{IsFrame}
use Rattle.es_base.proofs.Addressed.{link_at}
use Rattle.es_base.proofs.Elements.{there}
use Rattle.link_lock.specs.Pass.{LockId}
use Rattle.receiver.specs.declared.receiver.Reply.{Reply}
use Rattle.receiver.specs.declared.receiver.Reply.TheVariants as replies
use Rattle.network_calls.specs.Passes.{ArePasses, System}
use Rattle.network_calls.proofs.Rows.{below}
use Rattle.live_system.specs.Burst.{EachStandsTogether, StandTogether, StandTogetherAt, of_link}
use Rattle.live_system.specs.Chunk.{AreOfTheirLinks, ComeToGroup, Entries, group_at, groups_begun}
use Rattle.live_system.specs.Groups.{IsPlacedIn, ids_in, places_in}
use Rattle.live_system.specs.Pass.{KnownLink}
use Rattle.live_system.specs.Rows.{AllTogether, IsForGroup}
use Rattle.live_system.specs.System.{keeping_no_frame}
use Rattle.live_system.proofs.Cuts.{in_table, within_places}
use Rattle.live_system.proofs.Entries.{Entry}
use Rattle.live_system.proofs.GroupPlaces.{group_is}
use Rattle.live_system.proofs.Groups.{same_or_other}

-- each stands in the group
pub for_group : (system : System) (sizes : List ℕ) (locks : List LockId) (net : Net) (links : List KnownLink) (group : ℕ) → system.locks ≡ ids_in sizes locks → All (λ size. 0 < size) sizes → length locks ≡ length sizes
    → ArePasses keeping_no_frame net system.locks system.config.links links → (entries : Entries) → ComeToGroup system group entries → All (IsForGroup system group) entries
for_group system sizes locks net links group ids some many own entries come = λ n d within. one (slice_index_or entries n d) (come n d within)
  where
    one : (e : Entry) → IsFrame e.1.1.now × ComesToPlace system.config e.1.1.now e.0 × (group_at system e.0 ≡ group) → IsForGroup system group e
    one e is =
        let found = link_at system.config e.1.1.now e.0 is.1 in
        let low = (below keeping_no_frame net system.locks system.config.links links e.0 found.0 own found.1.there).0 in
        let listed : e.0 < length (places_in 0 sizes) = within_places sizes locks (places_in 0 sizes) e.0 many refl (subst (λ (xs : List LockId). e.0 < length xs) ids low) in
        let place = there (places_in 0 sizes) e.0 listed in
        let number = group_is 0 sizes locks e.0 place.0 some many place.1 in
        let begun : groups_begun (take (suc e.0) system.locks) ≡ groups_begun (take (suc e.0) (ids_in sizes locks)) = ap (λ (xs : List LockId). groups_begun (take (suc e.0) xs)) ids in
        let stands = in_table 0 sizes e.0 place.0 place.1 in
        let same : stands.0 ≡ group = omega (arith, stands.1, number, begun, is.2) in
        record {
          frame = is.0;
          comes = is.1;
          stands = record {
            sizes = sizes;
            some = some;
            locks = locks;
            one_each = many;
            are = ids;
            index = place.0.index;
            there = subst (λ (k : ℕ). IsPlacedIn sizes k place.0.index e.0) same stands.2;
          };
        }

-- none is of the link with this index
abbrev NoneOf : ℕ → Entries → Type 0
NoneOf at [] = Unit {0}
NoneOf at (e ∷ es) = (e.0 ≡ at → ⊥) × NoneOf at es

-- the events of this link stand together, or none of the frames is its
scan : (at : ℕ) (es : Entries) (all : List Reply) → AllTogether es all → ((place : ℕ) × StandTogetherAt at place all) ⊎ NoneOf at es
scan at [] all together = inr tt
scan at (e ∷ es) all together =
    ⊎_elim
    (λ (same : e.0 ≡ at). inl (subst (λ (k : ℕ). (place : ℕ) × StandTogetherAt k place all) same (All-head (λ (d : Entry). (place : ℕ) × StandTogetherAt d.0 place all) e es together)))
    (λ (other : e.0 ≡ at → ⊥).
    ⊎_elim
    (λ (found : (place : ℕ) × StandTogetherAt at place all). inl found)
    (λ (none : NoneOf at es). inr (other, none))
    (scan at es all (All-tail (λ (d : Entry). (place : ℕ) × StandTogetherAt d.0 place all) e es together)))
    (same_or_other e.0 at)

nothing : (at : ℕ) (es : Entries) (rs : List Reply) → AreOfTheirLinks es rs → NoneOf at es → of_link at rs ≡ []
nothing at [] [] links none = refl
nothing at (e ∷ es) (replies.Link index vl shows verdict ∷ rs) links none =
    let other : (index == at) ≡ false = ne_eqb index at (λ is. none.0 (sym links.0 ∙ is)) in
    rw other (nothing at es rs links.1 none.1)
nothing at (e ∷ es) (replies.Filtered cause ∷ rs) links none = absurd links
nothing at (e ∷ es) [] links none = absurd links
nothing at [] (r ∷ rs) links none = absurd links

-- so do those of each link
pub each_together : (es : Entries) (rs : List Reply) → AreOfTheirLinks es rs → AllTogether es rs → EachStandsTogether rs
each_together es rs links together at =
    ⊎_elim
    (λ (found : (place : ℕ) × StandTogetherAt at place rs). found)
    (λ (none : NoneOf at es). (0, subst (StandTogether 0) (sym (nothing at es rs links none)) tt))
    (scan at es rs together)
