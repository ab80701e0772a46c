-- Groups whose locks are ended one after the other, from the last.
use Rattle.std.proofs.Common.{◌≡◌, ◌∙◌, ap, refl, sym, zero, suc, ℕ, ◌<◌, List, [], ◌∷◌, ◌++◌, append-nil, append_assoc, drop, length, length-append, map, reverse, arith}
use Rattle.std.specs.List.{All, slice_get}
use Rattle.std.proofs.lemmas.List.{length-map, map-append, reverse-append, reverse-reverse}
use Rattle.std.proofs.lemmas.List.Concat.{flat_map-append}
use Rattle.std.proofs.lemmas.List.Elements.{All-cons, All-head, All-nil, All-tail}
use Rattle.std.proofs.lemmas.Option.{same_Some}
use Rattle.es_base.specs.declared.place.Net.{Net}
use Rattle.es_base.specs.declared.place.Net.TheVariants.{A, B}
use Rattle.es_base.specs.Settings.{Settings}
use Rattle.link_lock.specs.Pass.{LockId}
use Rattle.network_calls.specs.declared.counts.LinkCounts.{LinkCounts}
use Rattle.network_calls.specs.Passes.{AreCounted, ArePasses, AreSettled}
use Rattle.network_calls.proofs.Settling.{Settling}
use Rattle.live_system.specs.Calls.{LiveLink, as_opened}
use Rattle.live_system.specs.Groups.{AreLetGo, IsGroup, ids_in, ids_of, links_of_groups}
use Rattle.live_system.specs.Pass.{KnownLink}
use Rattle.live_system.specs.System.{keeping_no_frame}
use Rattle.live_system.proofs.Cuts.{aligned, ids_are}

-- ---- the last of a list

same_push : {X : Type 0} (xs ys : List X) (x y : X) → xs ++ x ∷ [] ≡ ys ++ y ∷ [] → (xs ≡ ys) × (x ≡ y)
same_push {X} xs ys x y same =
    let turned : x ∷ reverse xs ≡ y ∷ reverse ys = sym (reverse-append xs (x ∷ [])) ∙ (ap reverse same ∙ reverse-append ys (y ∷ [])) in
    (sym (reverse-reverse xs) ∙ (ap (λ (zs : List X). reverse (drop 1 zs)) turned ∙ reverse-reverse ys), same_Some x y (ap (λ (zs : List X). slice_get zs 0) turned))

All-before : {X : Type 0} (P : X → Type 0) (xs : List X) (x : X) → All P (xs ++ x ∷ []) → All P xs
All-before P [] x all = All-nil P
All-before P (y ∷ xs) x all = All-cons P y xs (All-head P y (xs ++ x ∷ []) all) (All-before P xs x (All-tail P y (xs ++ x ∷ []) all))

record LastSize (sizes : List ℕ) (locks : List LockId) : Type 0 where
  pub before : List ℕ
  pub size : ℕ
  pub are : before ++ size ∷ [] ≡ sizes
  pub many : length locks ≡ length before

last_size : (sizes : List ℕ) (locks : List LockId) (lock : LockId) → length (locks ++ lock ∷ []) ≡ length sizes → LastSize sizes locks
last_size [] locks lock same = absurd (omega (arith, same, length-append locks (lock ∷ [])))
last_size (size ∷ []) [] lock same = record { before = []; size = size; are = refl; many = refl }
last_size (size ∷ []) (l ∷ locks) lock same = absurd (omega (arith, same, length-append (l ∷ locks) (lock ∷ [])))
last_size (size ∷ more ∷ sizes) [] lock same = absurd (omega (arith, same))
last_size (size ∷ more ∷ sizes) (l ∷ locks) lock same =
    let later = last_size (more ∷ sizes) locks lock (omega (arith, same)) in
    record { before = size ∷ later.before; size = later.size; are = ap (λ (ns : List ℕ). size ∷ ns) later.are; many = ap suc later.many }

pub ids_push : (sizes : List ℕ) (locks : List LockId) (size : ℕ) (lock : LockId) → length locks ≡ length sizes → ids_in (sizes ++ size ∷ []) (locks ++ lock ∷ []) ≡ ids_in sizes locks ++ ids_of lock 0 size
ids_push [] [] size lock same = append-nil (ids_of lock 0 size)
ids_push [] (l ∷ locks) size lock same = absurd (omega (arith, same))
ids_push (s ∷ sizes) [] size lock same = absurd (omega (arith, same))
ids_push (s ∷ sizes) (l ∷ locks) size lock same =
    ap (λ (ids : List LockId). ids_of l 0 s ++ ids) (ids_push sizes locks size lock (omega (arith, same))) ∙ sym (append_assoc (ids_of l 0 s) (ids_in sizes locks) (ids_of lock 0 size))

pub joined_push : (groups : List (List KnownLink)) (group : List KnownLink) → links_of_groups (groups ++ group ∷ []) ≡ links_of_groups groups ++ group
joined_push groups group = flat_map-append (λ (g : List KnownLink). g) groups (group ∷ []) ∙ ap (λ (links : List KnownLink). links_of_groups groups ++ links) (append-nil group)

length-ids : (lock : LockId) (place many : ℕ) → length (ids_of lock place many) ≡ many
length-ids lock place zero = refl
length-ids lock place (suc many) = ap suc (length-ids lock (suc place) many)

as_many_ids : (groups : List (List KnownLink)) (locks : List LockId) → length locks ≡ length groups → length (links_of_groups groups) ≡ length (ids_in (map (λ links. length links) groups) locks)
as_many_ids [] locks same = refl
as_many_ids (g ∷ groups) [] same = absurd (omega (arith, same))
as_many_ids (g ∷ groups) (lock ∷ locks) same =
    let later = as_many_ids groups locks (omega (arith, same)) in
    omega (arith, later, length-append g (links_of_groups groups), length-append (ids_of lock 0 (length g)) (ids_in (map (λ links. length links) groups) locks), length-ids lock 0 (length g))

-- ---- passes in two parts

record Parted (ids here : List LockId) (settings : List Settings) (a one b other : List KnownLink) : Type 0 where
  pub before : List Settings
  pub later : List Settings
  pub all : before ++ later ≡ settings
  pub left_a : ArePasses keeping_no_frame A ids before a
  pub left_b : ArePasses keeping_no_frame B ids before b
  pub is_a : ArePasses keeping_no_frame A here later one
  pub is_b : ArePasses keeping_no_frame B here later other

parted : (ids here : List LockId) (settings : List Settings) (a one b other : List KnownLink) → length a ≡ length ids → length b ≡ length ids
    → ArePasses keeping_no_frame A (ids ++ here) settings (a ++ one) → ArePasses keeping_no_frame B (ids ++ here) settings (b ++ other) → Parted ids here settings a one b other
parted [] here settings [] one [] other many_a many_b are_a are_b = record { before = []; later = settings; all = refl; left_a = tt; left_b = tt; is_a = are_a; is_b = are_b }
parted [] here settings [] one (l ∷ b) other many_a many_b are_a are_b = absurd (omega (arith, many_b))
parted [] here settings (k ∷ a) one b other many_a many_b are_a are_b = absurd (omega (arith, many_a))
parted (id ∷ ids) here settings [] one b other many_a many_b are_a are_b = absurd (omega (arith, many_a))
parted (id ∷ ids) here settings (k ∷ a) one [] other many_a many_b are_a are_b = absurd (omega (arith, many_b))
parted (id ∷ ids) here [] (k ∷ a) one (l ∷ b) other many_a many_b are_a are_b = absurd are_a
parted (id ∷ ids) here (s ∷ settings) (k ∷ a) one (l ∷ b) other many_a many_b are_a are_b =
    let rest = parted ids here settings a one b other (omega (arith, many_a)) (omega (arith, many_b)) are_a.1 are_b.1 in
    record {
      before = s ∷ rest.before;
      later = rest.later;
      all = ap (λ (ss : List Settings). s ∷ ss) rest.all;
      left_a = (are_a.0, rest.left_a);
      left_b = (are_b.0, rest.left_b);
      is_a = rest.is_a;
      is_b = rest.is_b;
    }

pub as_many_links : (net : Net) (ids : List LockId) (settings : List Settings) (links : List KnownLink) → ArePasses keeping_no_frame net ids settings links → (length links ≡ length settings) × (length ids ≡ length settings)
as_many_links net [] [] [] are = (refl, refl)
as_many_links net (id ∷ ids) (s ∷ settings) (k ∷ links) are = let later = as_many_links net ids settings links are.1 in (ap suc later.0, ap suc later.1)
as_many_links net (id ∷ ids) (s ∷ settings) [] are = absurd are
as_many_links net (id ∷ ids) [] links are = absurd are
as_many_links net [] (s ∷ settings) links are = absurd are
as_many_links net [] [] (k ∷ links) are = absurd are

-- ---- links that were let go of

let_go : (ids : List LockId) (settings : List Settings) (one other : List KnownLink) (left : List LiveLink) → ArePasses keeping_no_frame A ids settings one → AreLetGo one other left → AreSettled keeping_no_frame settings one other left
let_go [] [] [] [] [] are go = tt
let_go (id ∷ ids) (s ∷ settings) (a ∷ one) (b ∷ other) (link ∷ left) are go =
    (ap (λ (l : LiveLink). l.core.settings) (same_Some (as_opened link) are.0.link (go.0.opened ∙ are.0.known)) ∙ are.0.with_settings, go.0, let_go ids settings one other left are.1 go.1)
let_go (id ∷ ids) (s ∷ settings) (a ∷ one) (b ∷ other) [] are go = absurd go
let_go (id ∷ ids) (s ∷ settings) (a ∷ one) [] left are go = absurd go
let_go (id ∷ ids) (s ∷ settings) [] other left are go = absurd are
let_go (id ∷ ids) [] one other left are go = absurd are
let_go [] (s ∷ settings) one other left are go = absurd are
let_go [] [] (k ∷ one) other left are go = absurd are
let_go [] [] [] (b ∷ other) left are go = absurd go
let_go [] [] [] [] (link ∷ left) are go = absurd go

settled_append : (s1 s2 : List Settings) (a1 a2 b1 b2 : List KnownLink) (x1 x2 : List LiveLink) → AreSettled keeping_no_frame s1 a1 b1 x1 → AreSettled keeping_no_frame s2 a2 b2 x2 → AreSettled keeping_no_frame (s1 ++ s2) (a1 ++ a2) (b1 ++ b2) (x1 ++ x2)
settled_append [] s2 [] a2 [] b2 [] x2 one two = two
settled_append (s ∷ s1) s2 (a ∷ a1) a2 (b ∷ b1) b2 (x ∷ x1) x2 one two = (one.0, one.1, settled_append s1 s2 a1 a2 b1 b2 x1 x2 one.2 two)
settled_append (s ∷ s1) s2 (a ∷ a1) a2 (b ∷ b1) b2 [] x2 one two = absurd one
settled_append (s ∷ s1) s2 (a ∷ a1) a2 [] b2 x1 x2 one two = absurd one
settled_append (s ∷ s1) s2 [] a2 b1 b2 x1 x2 one two = absurd one
settled_append [] s2 (a ∷ a1) a2 b1 b2 x1 x2 one two = absurd one
settled_append [] s2 [] a2 (b ∷ b1) b2 x1 x2 one two = absurd one
settled_append [] s2 [] a2 [] b2 (x ∷ x1) x2 one two = absurd one

counted_append : (net : Net) (p1 p2 : List KnownLink) (c1 c2 : List LinkCounts) → AreCounted keeping_no_frame net p1 c1 → AreCounted keeping_no_frame net p2 c2 → AreCounted keeping_no_frame net (p1 ++ p2) (c1 ++ c2)
counted_append net [] p2 [] c2 one two = two
counted_append net (p ∷ p1) p2 (c ∷ c1) c2 one two = (one.0, one.1, counted_append net p1 p2 c1 c2 one.2 two)
counted_append net (p ∷ p1) p2 [] c2 one two = absurd one
counted_append net [] p2 (c ∷ c1) c2 one two = absurd one

-- ---- the groups that are left

pub record Ending (links : List Settings) (a b : List KnownLink) (locks : List LockId) (ones others : List (List KnownLink)) (states : List LiveLink) (counts_a counts_b : List LinkCounts) : Type 0 where
  pub sizes : List ℕ
  pub some : All (λ size. 0 < size) sizes
  pub many : length locks ≡ length sizes
  pub groups_a : All IsGroup ones
  pub groups_b : All IsGroup others
  pub so_far : Settling keeping_no_frame links a b (ids_in sizes locks) (links_of_groups ones) (links_of_groups others) states counts_a counts_b

-- where a lock is left both passes on its group are left
pub some_left : (links : List Settings) (a b : List KnownLink) (locks : List LockId) (lock : LockId) (ones others : List (List KnownLink)) (states : List LiveLink) (counts_a counts_b : List LinkCounts)
    → Ending links a b (locks ++ lock ∷ []) ones others states counts_a counts_b → (0 < length ones) × (0 < length others)
some_left links a b locks lock ones others states counts_a counts_b end =
    let ids = ids_in end.sizes (locks ++ lock ∷ []) in
    let cut_a = (aligned ones end.sizes (locks ++ lock ∷ []) end.groups_a end.some end.many (ids_are A ids end.so_far.rest (links_of_groups ones) end.so_far.left_a)).0 in
    let cut_b = (aligned others end.sizes (locks ++ lock ∷ []) end.groups_b end.some end.many (ids_are B ids end.so_far.rest (links_of_groups others) end.so_far.left_b)).0 in
    let many = length-append locks (lock ∷ []) in (
      omega (arith, many, end.many, ap (λ (ns : List ℕ). length ns) cut_a, length-map ones (λ (ls : List KnownLink). length ls)),
      omega (arith, many, end.many, ap (λ (ns : List ℕ). length ns) cut_b, length-map others (λ (ls : List KnownLink). length ls)),
    )

module _ (links : List Settings) (a b : List KnownLink) (locks : List LockId) (lock : LockId) (ones others : List (List KnownLink)) (one other : List KnownLink) (states : List LiveLink) (counts_a counts_b : List LinkCounts)
    (end : Ending links a b (locks ++ lock ∷ []) (ones ++ one ∷ []) (others ++ other ∷ []) states counts_a counts_b) where
  last : LastSize end.sizes locks
  last = last_size end.sizes locks lock end.many

  ids_are_parted : ids_in end.sizes (locks ++ lock ∷ []) ≡ ids_in last.before locks ++ ids_of lock 0 last.size
  ids_are_parted = ap (λ (ns : List ℕ). ids_in ns (locks ++ lock ∷ [])) (sym last.are) ∙ ids_push last.before locks last.size lock last.many

  cut : (net : Net) (groups : List (List KnownLink)) (group : List KnownLink) → All IsGroup (groups ++ group ∷ []) → ArePasses keeping_no_frame net (ids_in end.sizes (locks ++ lock ∷ [])) end.so_far.rest (links_of_groups (groups ++ group ∷ []))
      → (length (links_of_groups groups) ≡ length (ids_in last.before locks)) × (length group ≡ last.size)
  cut net groups group are passes =
      let all = (aligned (groups ++ group ∷ []) end.sizes (locks ++ lock ∷ []) are end.some end.many (ids_are net (ids_in end.sizes (locks ++ lock ∷ [])) end.so_far.rest (links_of_groups (groups ++ group ∷ [])) passes)).0 in
      let sizes = same_push (map (λ (ls : List KnownLink). length ls) groups) last.before (length group) last.size (sym (map-append (λ (ls : List KnownLink). length ls) groups (group ∷ [])) ∙ (all ∙ sym last.are)) in
      let many : length locks ≡ length groups = omega (arith, last.many, ap (λ (ns : List ℕ). length ns) sizes.0, length-map groups (λ (ls : List KnownLink). length ls)) in
      (as_many_ids groups locks many ∙ ap (λ (ns : List ℕ). length (ids_in ns locks)) sizes.0, sizes.1)

  whole_a : ArePasses keeping_no_frame A (ids_in last.before locks ++ ids_of lock 0 last.size) end.so_far.rest (links_of_groups ones ++ one)
  whole_a = rw (ids_are_parted, joined_push ones one) at end.so_far.left_a

  whole_b : ArePasses keeping_no_frame B (ids_in last.before locks ++ ids_of lock 0 last.size) end.so_far.rest (links_of_groups others ++ other)
  whole_b = rw (ids_are_parted, joined_push others other) at end.so_far.left_b

  parts : Parted (ids_in last.before locks) (ids_of lock 0 last.size) end.so_far.rest (links_of_groups ones) one (links_of_groups others) other
  parts = parted (ids_in last.before locks) (ids_of lock 0 last.size) end.so_far.rest (links_of_groups ones) one (links_of_groups others) other (cut A ones one end.groups_a end.so_far.left_a).0 (cut B others other end.groups_b end.so_far.left_b).0 whole_a whole_b

  as_large : last.size ≡ length parts.later
  as_large = sym (length-ids lock 0 last.size) ∙ (as_many_links A (ids_of lock 0 last.size) parts.later one parts.is_a).1

  -- the passes on the group that is next are under its lock
  pub next : (settings : List Settings) × ArePasses keeping_no_frame A (ids_of lock 0 (length settings)) settings one × ArePasses keeping_no_frame B (ids_of lock 0 (length settings)) settings other
  next = (parts.later, rw (← as_large) parts.is_a, rw (← as_large) parts.is_b)

  pub one_more : (left : List LiveLink) (one_counts other_counts : List LinkCounts) → AreLetGo one other left → AreCounted keeping_no_frame A one one_counts → AreCounted keeping_no_frame B other other_counts
      → Ending links a b locks ones others (states ++ reverse left) (counts_a ++ reverse one_counts) (counts_b ++ reverse other_counts)
  one_more left one_counts other_counts go counted_a counted_b = record {
    sizes = last.before;
    some = All-before (λ (n : ℕ). 0 < n) last.before last.size (rw (← last.are) at end.some);
    many = last.many;
    groups_a = All-before IsGroup ones one end.groups_a;
    groups_b = All-before IsGroup others other end.groups_b;
    so_far = record {
      rest = parts.before;
      done = parts.later ++ end.so_far.done;
      done_a = one ++ end.so_far.done_a;
      done_b = other ++ end.so_far.done_b;
      links_are = sym (append_assoc parts.before parts.later end.so_far.done) ∙ (ap (λ (ss : List Settings). ss ++ end.so_far.done) parts.all ∙ end.so_far.links_are);
      a_are = sym (append_assoc (links_of_groups ones) one end.so_far.done_a) ∙ (ap (λ (ks : List KnownLink). ks ++ end.so_far.done_a) (sym (joined_push ones one)) ∙ end.so_far.a_are);
      b_are = sym (append_assoc (links_of_groups others) other end.so_far.done_b) ∙ (ap (λ (ks : List KnownLink). ks ++ end.so_far.done_b) (sym (joined_push others other)) ∙ end.so_far.b_are);
      left_a = parts.left_a;
      left_b = parts.left_b;
      settled = rw (turned states left)
          (settled_append parts.later end.so_far.done one end.so_far.done_a other end.so_far.done_b left (reverse states) (let_go (ids_of lock 0 last.size) parts.later one other left parts.is_a go) end.so_far.settled);
      counted_a = rw (turned counts_a one_counts) (counted_append A one end.so_far.done_a one_counts (reverse counts_a) counted_a end.so_far.counted_a);
      counted_b = rw (turned counts_b other_counts) (counted_append B other end.so_far.done_b other_counts (reverse counts_b) counted_b end.so_far.counted_b);
    };
  }
    where
      turned : {X : Type 0} (xs ys : List X) → reverse (xs ++ reverse ys) ≡ ys ++ reverse xs
      turned {X} xs ys = reverse-append xs (reverse ys) ∙ ap (λ (zs : List X). zs ++ reverse xs) (reverse-reverse ys)

pub no_ids : (sizes : List ℕ) (locks : List LockId) → locks ≡ [] → ids_in sizes locks ≡ []
no_ids [] locks none = refl
no_ids (size ∷ sizes) locks none = ap (ids_in (size ∷ sizes)) none
