-- What a group's pass counted on the link with a number.
use Rattle.std.proofs.Common.{◌≡◌, ◌∙◌, ap, refl, sym, ℕ, suc, ◌+◌, Bool, true, false, cond, ◌<◌, List, [], ◌∷◌, ◌++◌, Option, None, Some, append-nil, append_assoc, arith, drop, length, take}
use Rattle.std.specs.Prelude.{option_map, slice_index_or}
use Rattle.std.specs.List.{find, slice_get}
use Rattle.std.proofs.lemmas.List.{take-append-drop, take_more}
use Rattle.std.proofs.lemmas.List.Concat.{flat_map-append}
use Rattle.std.proofs.lemmas.Option.{same_Some}
use Rattle.es_base.specs.declared.place.LinkNo.{LinkNo}
use Rattle.es_base.specs.declared.place.Net.{Net}
use Rattle.es_base.specs.Tally.{IsKind, count_in}
use Rattle.es_base.specs.Verdict.{verdict_kinds}
use Rattle.link_core.specs.Counted.{shown}
use Rattle.network_calls.specs.declared.counts.LinkCounts.{LinkCounts}
use Rattle.network_calls.specs.Calls.{count_calls}
use Rattle.network_calls.specs.Counts.{AreCounts, counts_of_link, has_number}
use Rattle.network_calls.specs.Passes.{calls_of, pass_with}
use Rattle.live_system.specs.Groups.{GroupUser, calls_at, calls_shown, count_shown, links_of_groups, known_links, pass_at}
use Rattle.live_system.specs.Pass.{KnownLink, known_link}
use Rattle.live_system.specs.System.{keeping_no_frame}

-- what the two look-ups find
pub record Same (net : Net) (found : Option KnownLink) (counts : Option LinkCounts) : Type 0 where
  pub number : calls_shown found ≡ option_map (λ (c : LinkCounts). c.number) counts
  pub kinds : (kind : ℕ) → IsKind verdict_kinds kind → count_shown kind found ≡ option_map (λ (c : LinkCounts). count_in c.tally net kind) counts

of_one : (net : Net) (pass : KnownLink) (counts : LinkCounts) → AreCounts shown net pass.calls counts → Same net (Some pass) (Some counts)
of_one net pass counts are = record {
  number = ap (λ (n : ℕ). Some n) (sym are.all);
  kinds = λ kind is. ap (λ (n : ℕ). Some n) (sym (are.kinds kind is));
}

either : (net : Net) (found : Bool) {pass later : Option KnownLink} {counts more : Option LinkCounts} → Same net pass counts → Same net later more → Same net (cond found pass later) (cond found counts more)
either net true here later = here
either net false here later = later

same : (net : Net) (vl : LinkNo) (pass : GroupUser) (place : ℕ) (counts : List LinkCounts) → ((i : ℕ) (c : LinkCounts) → slice_get counts i ≡ Some c → AreCounts shown net (calls_at pass.list (place + i)) c)
    → Same net (pass_with keeping_no_frame vl (known_links net pass place counts)) (counts_of_link vl counts)
same net vl pass place [] each = record { number = refl; kinds = λ kind is. refl }
same net vl pass place (c ∷ counts) each =
    let first : AreCounts shown net (calls_at pass.list place) c = let z : place + 0 ≡ place = omega arith in rw z at (each 0 c refl) in
    either net (has_number vl c) (of_one net (known_link net (pass_at pass place) c) c first)
    (same net vl pass (suc place) counts (λ i x is. let z : place + suc i ≡ suc place + i = omega arith in rw z at (each (suc i) x is)))

-- the first of which has the place 0
pub same_here : (net : Net) (vl : LinkNo) (pass : GroupUser) (counts : List LinkCounts) → ((i : ℕ) (c : LinkCounts) → slice_get counts i ≡ Some c → AreCounts shown net (calls_at pass.list i) c)
    → Same net (pass_with keeping_no_frame vl (known_links net pass 0 counts)) (counts_of_link vl counts)
same_here net vl pass counts each = same net vl pass 0 counts (λ i c is. let z : i ≡ 0 + i = omega arith in rw z at (each i c is))

-- ---- the groups, one after another

found_first : {X : Type 0} (f : X → Bool) (xs ys : List X) (x : X) → find f xs ≡ Some x → find f (xs ++ ys) ≡ Some x
found_first f [] ys x is = cc
found_first f (y ∷ xs) ys x is = go (f y) (found_first f xs ys x) is
  where
    go : (b : Bool) → (find f xs ≡ Some x → find f (xs ++ ys) ≡ Some x) → cond b (Some y) (find f xs) ≡ Some x → cond b (Some y) (find f (xs ++ ys)) ≡ Some x
    go true later is = is
    go false later is = later is

found_later : {X : Type 0} (f : X → Bool) (xs ys : List X) → find f xs ≡ None → find f (xs ++ ys) ≡ find f ys
found_later f [] ys none = refl
found_later f (y ∷ xs) ys none = go (f y) (found_later f xs ys) none
  where
    go : (b : Bool) → (find f xs ≡ None → find f (xs ++ ys) ≡ find f ys) → cond b (Some y) (find f xs) ≡ None → cond b (Some y) (find f (xs ++ ys)) ≡ find f ys
    go true later none = cc
    go false later none = later none

-- the groups before one, this one, and those after it
pub before_more : (groups : List (List KnownLink)) (at : ℕ) (group : List KnownLink) → at < length groups → group ≡ slice_index_or groups at group → links_of_groups (take (at + 1) groups) ≡ links_of_groups (take at groups) ++ group
before_more groups at group low is =
    ap links_of_groups (take_more groups at group low ∙ ap (λ (g : List KnownLink). take at groups ++ g ∷ []) (sym is))
    ∙ (flat_map-append (λ (g : List KnownLink). g) (take at groups) (group ∷ []) ∙ ap (λ (links : List KnownLink). links_of_groups (take at groups) ++ links) (append-nil group))

pub in_three : (groups : List (List KnownLink)) (at : ℕ) (group : List KnownLink) → at < length groups → group ≡ slice_index_or groups at group → links_of_groups (take at groups) ++ (group ++ links_of_groups (drop (at + 1) groups)) ≡ links_of_groups groups
in_three groups at group low is =
    sym (append_assoc (links_of_groups (take at groups)) group (links_of_groups (drop (at + 1) groups)))
    ∙ (ap (λ (links : List KnownLink). links ++ links_of_groups (drop (at + 1) groups)) (sym (before_more groups at group low is))
    ∙ (sym (flat_map-append (λ (g : List KnownLink). g) (take (at + 1) groups) (drop (at + 1) groups)) ∙ ap links_of_groups (take-append-drop (at + 1) groups)))

abbrev with_number : LinkNo → KnownLink → Bool
with_number vl pass = has_number vl (keeping_no_frame.on pass).counts

-- no link of the groups so far has the number, nor has one of this
pub none_more : (vl : LinkNo) (before group : List KnownLink) → pass_with keeping_no_frame vl before ≡ None → None ≡ calls_shown (pass_with keeping_no_frame vl group) → pass_with keeping_no_frame vl (before ++ group) ≡ None
none_more vl before group none is = found_later (with_number vl) before group none ∙ no_calls (pass_with keeping_no_frame vl group) is
  where
    no_calls : (found : Option KnownLink) → None ≡ calls_shown found → found ≡ None
    no_calls None is = refl
    no_calls (Some pass) is = cc

pub none_more_of : (vl : LinkNo) (kind : ℕ) (before group : List KnownLink) → pass_with keeping_no_frame vl before ≡ None → None ≡ count_shown kind (pass_with keeping_no_frame vl group) → pass_with keeping_no_frame vl (before ++ group) ≡ None
none_more_of vl kind before group none is = found_later (with_number vl) before group none ∙ no_calls (pass_with keeping_no_frame vl group) is
  where
    no_calls : (found : Option KnownLink) → None ≡ count_shown kind found → found ≡ None
    no_calls None is = refl
    no_calls (Some pass) is = cc

-- the link that this group has
pub calls_here : (vl : LinkNo) (before group after : List KnownLink) (n : ℕ) → pass_with keeping_no_frame vl before ≡ None → Some n ≡ calls_shown (pass_with keeping_no_frame vl group)
    → n ≡ shown (length (calls_of keeping_no_frame (pass_with keeping_no_frame vl (before ++ (group ++ after)))))
calls_here vl before group after n none is = go (pass_with keeping_no_frame vl group) refl is
  where
    go : (found : Option KnownLink) → pass_with keeping_no_frame vl group ≡ found → Some n ≡ calls_shown found → n ≡ shown (length (calls_of keeping_no_frame (pass_with keeping_no_frame vl (before ++ (group ++ after)))))
    go None at is = cc
    go (Some pass) at is =
        rw (found_later (with_number vl) before (group ++ after) none ∙ found_first (with_number vl) group after pass at) (same_Some n (shown (length pass.calls)) is)

pub count_here : (vl : LinkNo) (kind : ℕ) (before group after : List KnownLink) (n : ℕ) → pass_with keeping_no_frame vl before ≡ None → Some n ≡ count_shown kind (pass_with keeping_no_frame vl group)
    → n ≡ shown (count_calls kind (calls_of keeping_no_frame (pass_with keeping_no_frame vl (before ++ (group ++ after)))))
count_here vl kind before group after n none is = go (pass_with keeping_no_frame vl group) refl is
  where
    go : (found : Option KnownLink) → pass_with keeping_no_frame vl group ≡ found → Some n ≡ count_shown kind found → n ≡ shown (count_calls kind (calls_of keeping_no_frame (pass_with keeping_no_frame vl (before ++ (group ++ after)))))
    go None at is = cc
    go (Some pass) at is =
        rw (found_later (with_number vl) before (group ++ after) none ∙ found_first (with_number vl) group after pass at) (same_Some n (shown (count_calls kind pass.calls)) is)
