-- The calls of one visit of a group, as those of the pass on all links.
use Rattle.std.proofs.Common.{◌≡◌, ◌<◌, ◌∙◌, ap, arith, refl, sym, subst, zero, suc, ℕ, List, [], ◌∷◌, ◌++◌, length, map, set, Some}
use Rattle.std.specs.Prelude.{slice_index_or}
use Rattle.std.specs.List.{All, slice_get}
use Rattle.std.proofs.lemmas.List.{length-set, set-set}
use Rattle.std.proofs.lemmas.List.Elements.{All-head, All-tail}
use Rattle.std.proofs.lemmas.Option.{same_Some, slice_get_within}
use Rattle.es_base.specs.declared.place.Net.{Net}
use Rattle.es_base.specs.Addressing.{ComesToPlace, addressee_of}
use Rattle.es_base.specs.Settings.{Settings}
use Rattle.es_base.specs.Tally.{Counts}
use Rattle.es_base.proofs.Addressed.{link_at}
use Rattle.es_base.proofs.Elements.{map-set_same, set_same, slice_get-set_same}
use Rattle.link_core.specs.Counted.{shown}
use Rattle.link_lock.specs.Pass.{LockId}
use Rattle.receiver.specs.declared.receiver.Reply.{Reply}
use Rattle.receiver.specs.declared.receiver.Reply.TheVariants as replies
use Rattle.network_calls.specs.Calls.{call}
use Rattle.network_calls.specs.Passes.{ArePasses, KnownNet, System}
use Rattle.network_calls.proofs.Rows.{below, still_passes}
use Rattle.live_system.specs.declared.cut.LinkPlace.{LinkPlace}
use Rattle.live_system.specs.Burst.{steps_in_turn}
use Rattle.live_system.specs.Groups.{IsPlacedIn, IsGroup, IsInGroup, ids_in, links_of_groups, places_in}
use Rattle.live_system.specs.Pass.{KnownLink}
use Rattle.live_system.specs.Chunk.{AreOfTheirLinks, Entries, frames_of}
use Rattle.live_system.specs.Rows.{CallsEach, IsApart, IsForGroup, KnowsFor, index_at}
use Rattle.live_system.specs.Run.{RanAlone, received}
use Rattle.live_system.specs.System.{IsPassOf, Replies, keeping_no_frame}
use Rattle.live_system.proofs.Cuts.{Here, group_set, here, listed_at, one_link, reached, stands_at, within_places}
use Rattle.live_system.proofs.Entries.{Entry}
use Rattle.live_system.proofs.InTurn.{ran_append}
use Rattle.live_system.proofs.Knowing.{same_after}
use Rattle.live_system.proofs.Reaching.{pass_here, under_lock}

-- ---- the calls

-- each reply is of the link of its frame
pub of_links : (index : ℕ → ℕ) (olds news : List KnownLink) (es : Entries) (rs : List Reply) → CallsEach index olds es rs news → AreOfTheirLinks es rs
of_links index olds news [] [] calls = tt
of_links index olds news (e ∷ es) (r ∷ rs) calls =
    subst (λ (x : Reply). AreOfTheirLinks (e ∷ es) (x ∷ rs)) (sym calls.3) (refl, of_links index calls.0 news es rs calls.5)
of_links index olds news [] (r ∷ rs) calls = absurd calls
of_links index olds news (e ∷ es) [] calls = absurd calls

-- they leave a group of as many links
pub group_each : (index : ℕ → ℕ) (olds news : List KnownLink) (es : Entries) (rs : List Reply) → CallsEach index olds es rs news → IsGroup olds → IsGroup news
group_each index olds news [] [] calls group = subst IsGroup (sym calls) group
group_each index olds news (e ∷ es) (r ∷ rs) calls group =
    let one = calls.4 in
    group_each index calls.0 news es rs calls.5 (subst IsGroup (sym one.only) (group_set olds (index e.0) one.before one.after group one.there one.does.lock))
group_each index olds news [] (r ∷ rs) calls group = absurd calls
group_each index olds news (e ∷ es) [] calls group = absurd calls

-- ---- the pass on all links

abbrev pub lengths : List (List KnownLink) → List ℕ
lengths groups = map (λ links. length links) groups

-- each frame comes to its link, which stands in this group
abbrev pub AreIn : System → List ℕ → (ℕ → ℕ) → ℕ → Entries → Type 0
AreIn system sizes index group [] = Unit {0}
AreIn system sizes index group (e ∷ es) = (ComesToPlace system.config e.1.1.now e.0 × IsPlacedIn sizes group (index e.0) e.0) × AreIn system sizes index group es

abbrev passes_in : Net → Counts → List (List KnownLink) → KnownNet KnownLink
passes_in net filtered groups = record { net = net; links = links_of_groups groups; filtered = filtered }

pub ran_each : (system : System) (index : ℕ → ℕ) (group : ℕ) (sizes : List ℕ) (net : Net) (filtered : Counts) (groups : List (List KnownLink)) (olds news : List KnownLink) (es : Entries) (rs : List Reply) → IsPassOf system (passes_in net filtered groups)
    → lengths groups ≡ sizes → slice_get groups group ≡ Some olds → AreIn system sizes index group es → CallsEach index olds es rs news
    → RanAlone system (passes_in net filtered groups) (steps_in_turn (frames_of es) rs) (passes_in net filtered (set groups group news)) × IsPassOf system (passes_in net filtered (set groups group news))
ran_each system index group sizes net filtered groups olds news [] [] own cut there are calls =
    let same : set groups group news ≡ groups = set_same groups group olds news there calls in
    let still : passes_in net filtered (set groups group news) ≡ passes_in net filtered groups = ap (passes_in net filtered) same in
    (still, subst (IsPassOf system) (sym still) own)
ran_each system index group sizes net filtered groups olds news (e ∷ es) (r ∷ rs) own cut there are calls =
    let mids = calls.0 in
    let place = calls.1 in
    let verdict = calls.2 in
    let one = calls.4 in
    let at = e.0 in
    let octets = e.1.1.now in
    let found = reached groups group (index at) at (subst (λ (ns : List ℕ). IsPlacedIn ns group (index at) at) (sym cut) are.0.1) in
    let links : found.links ≡ olds = same_Some found.links olds (sym found.there ∙ there) in
    let of_all : slice_get (links_of_groups groups) at ≡ Some one.before = found.same ∙ (ap (λ (ls : List KnownLink). slice_get ls (index at)) links ∙ one.there) in
    let only : links_of_groups (set groups group mids) ≡ set (links_of_groups groups) at one.after =
    ap (λ (ls : List KnownLink). links_of_groups (set groups group ls)) (one.only ∙ ap (λ (ls : List KnownLink). set ls (index at) one.after) (sym links)) ∙ found.written one.after in
    let old = passes_in net filtered groups in
    let next = passes_in net filtered (set groups group mids) in
    let own_next : IsPassOf system next =
    subst (ArePasses keeping_no_frame net system.locks system.config.links) (sym only)
    (still_passes keeping_no_frame net system.locks system.config.links (links_of_groups groups) at one.before one.after own of_all (same_after one.before one.after (call place e.1.0 octets verdict) one.does)) in
    let reply : Replies system.config old e.1.0 octets (replies.Link at (addressee_of octets) (shown place) verdict) next =
    (are.0.0, refl, refl, place, refl, record { before = one.before; after = one.after; there = of_all; does = one.does; only = only }) in
    let first : RanAlone system old (received e.1.0 octets r ∷ []) next = (old, refl, own_next, refl, subst (λ (x : Reply). Replies system.config old e.1.0 octets x next) (sym calls.3) reply) in
    let many : length mids ≡ length olds = ap (λ (ls : List KnownLink). length ls) one.only ∙ length-set olds (index at) one.after in
    let cut_next : lengths (set groups group mids) ≡ sizes = map-set_same (λ (ls : List KnownLink). length ls) groups group olds mids there many ∙ cut in
    let there_next : slice_get (set groups group mids) group ≡ Some mids = slice_get-set_same groups group mids (slice_get_within groups group olds there) in
    let later = ran_each system index group sizes net filtered (set groups group mids) mids news es rs own_next cut_next there_next are.1 calls.5 in
    let same : set (set groups group mids) group news ≡ set groups group news = set-set groups group mids news in
    let last : passes_in net filtered (set (set groups group mids) group news) ≡ passes_in net filtered (set groups group news) = ap (passes_in net filtered) same in (
      subst (λ (k : KnownNet KnownLink). RanAlone system old (steps_in_turn (frames_of es) rs ++ received e.1.0 octets r ∷ []) k) last
          (ran_append system old next (passes_in net filtered (set (set groups group mids) group news)) (received e.1.0 octets r ∷ []) (steps_in_turn (frames_of es) rs) first later.0),
      subst (IsPassOf system) last later.1,
    )
ran_each system index group sizes net filtered groups olds news [] (r ∷ rs) own cut there are calls = absurd calls
ran_each system index group sizes net filtered groups olds news (e ∷ es) [] own cut there are calls = absurd calls

-- ---- where the frames' links stand

get_or_any : {X : Type 0} (xs : List X) (i : ℕ) (d e : X) → i < length xs → slice_index_or xs i e ≡ slice_index_or xs i d
get_or_any [] i d e low = absurd (omega (arith, low))
get_or_any (x ∷ xs) zero d e low = refl
get_or_any (x ∷ xs) (suc i) d e low = get_or_any xs i d e (omega (arith, low))

module _ (system : System) (sizes : List ℕ) (locks : List LockId) (places : List LinkPlace) (net : Net) (links : List KnownLink) (group : ℕ) (ids : system.locks ≡ ids_in sizes locks) (some : All (λ size. 0 < size) sizes) (many : length locks ≡ length sizes)
    (listed : places ≡ places_in 0 sizes) (own : ArePasses keeping_no_frame net (ids_in sizes locks) system.config.links links) where
  pub record Standing (e : Entry) : Type 0 where
    pub settings : Settings
    pub there : slice_get system.config.links e.0 ≡ Some settings
    pub numbered : settings.vl ≡ addressee_of e.1.1.now
    pub within : e.0 < length places
    pub place : LinkPlace
    pub of_all : slice_get (places_in 0 sizes) e.0 ≡ Some place
    pub in_group : place.group ≡ group
    pub its_index : place.index ≡ index_at places e.0
    pub is_at : IsPlacedIn sizes group (index_at places e.0) e.0

  pub standing : (e : Entry) → IsForGroup system group e → Standing e
  standing e is =
      let found = link_at system.config e.1.1.now e.0 is.comes in
      let low = (below keeping_no_frame net (ids_in sizes locks) system.config.links links e.0 found.0 own found.1.there).0 in
      let within = within_places sizes locks places e.0 many listed low in
      let none : LinkPlace = record { group = 0; index = 0 } in
      let read = slice_index_or places e.0 none in
      let of_all = listed_at sizes locks places e.0 read many listed low (sym (get_or_any places e.0 none read within)) in
      let stands = stands_at sizes locks group e.0 read some many of_all (subst (λ (xs : List LockId). IsInGroup xs group e.0) ids is.stands) in
      record {
        settings = found.0;
        there = found.1.there;
        numbered = found.1.numbered;
        within = within;
        place = read;
        of_all = of_all;
        in_group = stands.0;
        its_index = refl;
        is_at = stands.1;
      }

  pub are_in : (es : Entries) → All (IsForGroup system group) es → AreIn system sizes (index_at places) group es
  are_in [] all = tt
  are_in (e ∷ es) all =
      let first = All-head (IsForGroup system group) e es all in
      ((first.comes, (standing e first).is_at), are_in es (All-tail (IsForGroup system group) e es all))

  -- what stands at the index of a frame's link
  pub here_for : (groups : List (List KnownLink)) → links_of_groups groups ≡ links → (e : Entry) (is : IsForGroup system group e) → All IsGroup groups → Here net locks groups e.0 (record { group = group; index = index_at places e.0 }) (standing e is).settings
  here_for groups joins e is are =
      let s = standing e is in
      let place_is : s.place ≡ record { group = group; index = index_at places e.0 } = (λ i. record { group = s.in_group i; index = s.its_index i }) in
      here net sizes locks system.config.links groups e.0 (record { group = group; index = index_at places e.0 }) s.settings (subst (ArePasses keeping_no_frame net (ids_in sizes locks) system.config.links) (sym joins) own) s.there are some many (subst (λ (p : LinkPlace). slice_get (places_in 0 sizes) e.0 ≡ Some p) place_is s.of_all)

  pub knows_for : (groups : List (List KnownLink)) → links_of_groups groups ≡ links → (e : Entry) (is : IsForGroup system group e) (are : All IsGroup groups) (lock : LockId) → lock ≡ slice_index_or locks group lock → (olds : List KnownLink) → olds ≡ slice_index_or groups group olds → KnowsFor (index_at places) (length places) olds lock e
  knows_for groups joins e is are lock lock_read olds olds_read =
      let s = standing e is in
      let h = here_for groups joins e is are in
      let place : LinkPlace = record { group = group; index = index_at places e.0 } in
      record {
        within = s.within;
        frame = is.frame;
        pass = h.pass;
        there = pass_here net locks groups e.0 place s.settings h lock lock_read olds olds_read;
        at_lock = under_lock net locks groups e.0 place s.settings h lock lock_read olds olds_read;
        link = h.is_pass.link;
        known = h.is_pass.known;
        vl = h.is_pass.with_number ∙ ap (λ (x : Settings). x.vl) (sym h.is_pass.with_settings);
        addressed = sym s.numbered ∙ ap (λ (x : Settings). x.vl) (sym h.is_pass.with_settings);
      }

  -- no other link of the group has a link's place
  pub apart : (at : ℕ) → IsPlacedIn sizes group (index_at places at) at → (es : Entries) → All (IsForGroup system group) es → IsApart (index_at places) at es
  apart at is_at es all = λ n d within same.
      let e = slice_index_or es n d in
      one_link sizes group (index_at places at) e.0 at (subst (λ (k : ℕ). IsPlacedIn sizes group k e.0) same (standing e (all n d within)).is_at) is_at
