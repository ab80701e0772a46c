-- The end of a group's lock.
use Rattle.std.proofs.Common.{◌≡◌, ◌∙◌, ap, refl, sym, subst, suc, ℕ, ◌+◌, ◌<◌, ◌≤◌, List, [], ◌∷◌, ◌++◌, Option, Some, append_assoc, length, length-append, map, reverse, arith}
use Rattle.std.specs.Prelude.{option_map}
use Rattle.std.specs.List.{slice_get}
use Rattle.std.proofs.lemmas.List.{length-reverse, reverse-append, reverse-reverse}
use Rattle.std.proofs.lemmas.Option.{slice_get-map}
use Rattle.es_base.specs.declared.place.Net.{Net}
use Rattle.es_base.specs.Settings.{Settings}
use Rattle.link_core.specs.Counted.{shown}
use Rattle.link_lock.specs.declared.user.User.{User}
use Rattle.link_lock.specs.declared.user.User.TheVariants.{First, Second}
use Rattle.link_lock.specs.Lists.{both_lists}
use Rattle.link_lock.specs.Pass.{LockId}
use Rattle.network_calls.specs.declared.call.Call.{Call}
use Rattle.network_calls.specs.declared.counts.LinkCounts.{LinkCounts}
use Rattle.network_calls.specs.Counts.{AreCounts}
use Rattle.network_calls.specs.Passes.{AreCounted, ArePasses}
use Rattle.network_calls.proofs.Counting.{counted_of_both}
use Rattle.live_system.specs.Calls.{Agrees, LiveLink, as_opened, events_of}
use Rattle.live_system.specs.Groups.{AgreeEach, AreLetGo, GroupUser, calls_at, ids_of, links_of_groups, known_links, opened_link_at}
use Rattle.live_system.specs.Pass.{KnownLink}
use Rattle.live_system.specs.System.{keeping_no_frame}
use Rattle.live_system.proofs.Cuts.{names_one}
use Rattle.live_system.proofs.Ending.{joined_push}

-- one more of those that are moved
pub moved : {X : Type 0} (from before to done : List X) (x : X) → from ≡ before ++ x ∷ [] → (first : List X) → from ++ done ≡ first → (start : List X) → to ≡ start ++ reverse done
    → (before ++ x ∷ done ≡ first) × (to ++ x ∷ [] ≡ start ++ reverse (x ∷ done))
moved {X} from before to done x is first all start so_far = (
  sym (append_assoc before (x ∷ []) done) ∙ (ap (λ (xs : List X). xs ++ done) (sym is) ∙ all),
  ap (λ (xs : List X). xs ++ x ∷ []) so_far ∙ (append_assoc start (reverse done) (x ∷ []) ∙ ap (λ (xs : List X). start ++ xs) (sym (reverse-append (x ∷ []) done))),
)

-- the lock and the network of a group's passes
pub its_lock : (net of : Net) (pass : GroupUser) (counts : List LinkCounts) (lock : LockId) (settings : List Settings) → 0 < length counts → ArePasses keeping_no_frame of (ids_of lock 0 (length settings)) settings (known_links net pass 0 counts) → (pass.lock ≡ lock) × (net ≡ of)
its_lock net of pass [] lock settings some are = absurd (omega (arith, some))
its_lock net of pass (c ∷ counts) lock [] some are = absurd are
its_lock net of pass (c ∷ counts) lock (s ∷ settings) some are = (names_one 0 pass.lock lock are.0.at_lock, are.0.of_net)

-- each pass has the counts of its link
pub counted_each : (net : Net) (pass : GroupUser) (place : ℕ) (counts : List LinkCounts) → ((i : ℕ) (c : LinkCounts) → slice_get counts i ≡ Some c → AreCounts shown net (calls_at pass.list (place + i)) c)
    → AreCounted keeping_no_frame net (known_links net pass place counts) counts
counted_each net pass place [] each = tt
counted_each net pass place (c ∷ counts) each =
    let first : AreCounts shown net (calls_at pass.list place) c = let z : place + 0 ≡ place = omega arith in rw z at (each 0 c refl) in
    (refl, first, counted_each net pass (suc place) counts (λ i x is. let z : place + suc i ≡ suc place + i = omega arith in rw z at (each (suc i) x is)))

-- the lists of one link of the group
lists_of_one : (a b : List (List Call)) (place : ℕ) (link : LiveLink) → Agrees (λ user. calls_at (both_lists a b user) place) link → Agrees (both_lists (calls_at a place) (calls_at b place)) link
lists_of_one a b place link agrees = record { ported = agrees.ported; calls = λ user. same user ∙ agrees.calls user }
  where
    same : (user : User) → both_lists (calls_at a place) (calls_at b place) user ≡ calls_at (both_lists a b user) place
    same First = refl
    same Second = refl

-- each link is let go of with the calls of both
pub let_go_each : (one other : Net) (a b : GroupUser) (place : ℕ) (counts_a counts_b : List LinkCounts) (links : List LiveLink) → ((i : ℕ) (l : LiveLink) → slice_get links i ≡ Some l → Some (as_opened l) ≡ opened_link_at a.fixed (place + i))
    → ((i : ℕ) (l : LiveLink) → slice_get links i ≡ Some l → Agrees (λ user. calls_at (both_lists a.list b.list user) (place + i)) l) → length counts_a ≡ length links → length counts_b ≡ length links
    → AreLetGo (known_links one a place counts_a) (known_links other b place counts_b) links
let_go_each one other a b place [] [] [] opened agree many_a many_b = tt
let_go_each one other a b place (c ∷ counts_a) (d ∷ counts_b) (l ∷ links) opened agree many_a many_b =
    let z : place + 0 ≡ place = omega arith in
    let agrees = lists_of_one a.list b.list place l (rw z at (agree 0 l refl)) in (
      record {
        opened = opened 0 l refl ∙ ap (opened_link_at a.fixed) z;
        agrees = agrees;
        counted = λ net kind is. counted_of_both (both_lists (calls_at a.list place) (calls_at b.list place)) l.core.past (events_of l) net kind (reverse-reverse l.core.past) agrees.calls;
      },
      let_go_each one other a b (suc place) counts_a counts_b links
          (λ i x is. opened (suc i) x is ∙ ap (opened_link_at a.fixed) (let e : place + suc i ≡ suc place + i = omega arith in e))
          (λ i x is. let e : place + suc i ≡ suc place + i = omega arith in rw e at (agree (suc i) x is))
          (omega (arith, many_a)) (omega (arith, many_b)),
    )
let_go_each one other a b place [] [] (l ∷ links) opened agree many_a many_b = absurd (omega (arith, many_a))
let_go_each one other a b place [] (d ∷ counts_b) [] opened agree many_a many_b = absurd (omega (arith, many_b))
let_go_each one other a b place [] (d ∷ counts_b) (l ∷ links) opened agree many_a many_b = absurd (omega (arith, many_a))
let_go_each one other a b place (c ∷ counts_a) counts_b [] opened agree many_a many_b = absurd (omega (arith, many_a))
let_go_each one other a b place (c ∷ counts_a) [] (l ∷ links) opened agree many_a many_b = absurd (omega (arith, many_b))

-- what is found in the group as it was opened
pub opened_each : (links : List LiveLink) (fixed : Option (List LiveLink)) → Some (map as_opened links) ≡ fixed → (i : ℕ) (l : LiveLink) → slice_get links i ≡ Some l → Some (as_opened l) ≡ opened_link_at fixed i
opened_each links fixed same i l is =
    sym (slice_get-map as_opened links i ∙ ap (λ (o : Option LiveLink). option_map as_opened o) is) ∙ ap (λ (ls : Option (List LiveLink)). opened_link_at ls i) same

pub let_go_all : (one other : Net) (a b : GroupUser) (counts_a counts_b : List LinkCounts) (links : List LiveLink) → Some (map as_opened links) ≡ a.fixed → AgreeEach (both_lists a.list b.list) links → length counts_a ≡ length links → length counts_b ≡ length links
    → AreLetGo (known_links one a 0 counts_a) (known_links other b 0 counts_b) links
let_go_all one other a b counts_a counts_b links fixed agree many_a many_b =
    let_go_each one other a b 0 counts_a counts_b links (λ i l is. let z : i ≡ 0 + i = omega arith in rw z at (opened_each links a.fixed fixed i l is)) (λ i l is. let z : i ≡ 0 + i = omega arith in rw z at (agree i l is)) many_a many_b

pub counted_all : (net of : Net) (pass : GroupUser) (counts : List LinkCounts) → net ≡ of → ((i : ℕ) (c : LinkCounts) → slice_get counts i ≡ Some c → AreCounts shown net (calls_at pass.list i) c) → AreCounted keeping_no_frame of (known_links net pass 0 counts) counts
counted_all net of pass counts same each =
    subst (λ (n : Net). AreCounted keeping_no_frame n (known_links net pass 0 counts) counts) same (counted_each net pass 0 counts (λ i c is. let z : i ≡ 0 + i = omega arith in rw z at (each i c is)))

-- ---- room

pub let_go_many : (a b : List KnownLink) (left : List LiveLink) → AreLetGo a b left → (length left ≡ length a) × (length left ≡ length b)
let_go_many [] [] [] go = (refl, refl)
let_go_many (a ∷ ones) (b ∷ others) (link ∷ links) go = let later = let_go_many ones others links go.1 in (ap suc later.0, ap suc later.1)
let_go_many (a ∷ ones) (b ∷ others) [] go = absurd go
let_go_many (a ∷ ones) [] links go = absurd go
let_go_many [] (b ∷ others) links go = absurd go
let_go_many [] [] (link ∷ links) go = absurd go

pub counted_many : (net : Net) (passes : List KnownLink) (counts : List LinkCounts) → AreCounted keeping_no_frame net passes counts → length counts ≡ length passes
counted_many net [] [] are = refl
counted_many net (p ∷ passes) (c ∷ counts) are = ap suc (counted_many net passes counts are.2)
counted_many net (p ∷ passes) [] are = absurd are
counted_many net [] (c ∷ counts) are = absurd are

pub room_for : (have room : ℕ) (ones : List (List KnownLink)) (one : List KnownLink) → have + length (links_of_groups (ones ++ one ∷ [])) ≤ room → have + length one ≤ room
room_for have room ones one enough = omega (arith, enough, ap (λ (links : List KnownLink). length links) (joined_push ones one), length-append (links_of_groups ones) one)

pub room_left : {X : Type 0} (to after left : List X) (room : ℕ) (ones : List (List KnownLink)) (one : List KnownLink) → after ≡ to ++ reverse left → length left ≡ length one → length to + length (links_of_groups (ones ++ one ∷ [])) ≤ room
    → length after + length (links_of_groups ones) ≤ room
room_left {X} to after left room ones one is many enough =
    omega (arith, enough, many, ap (λ (xs : List X). length xs) is, length-append to (reverse left), length-reverse left, ap (λ (links : List KnownLink). length links) (joined_push ones one), length-append (links_of_groups ones) one)
