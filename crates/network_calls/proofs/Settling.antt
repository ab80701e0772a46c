-- Links that are settled one after the other, from the last.
use Rattle.std.proofs.Common.{◌≡◌, ◌∙◌, ap, sym, refl, ℕ, zero, suc, List, [], ◌∷◌, ◌++◌, ◌<◌, arith, drop, length, length-append, reverse, append_assoc, append-nil, Some}
use Rattle.std.specs.List.{slice_get}
use Rattle.std.proofs.lemmas.List.{reverse-append, reverse-reverse}
use Rattle.std.proofs.lemmas.Option.{same_Some}
use Rattle.es_base.specs.declared.place.Net.{Net}
use Rattle.es_base.specs.declared.place.Net.TheVariants.{A, B}
use Rattle.es_base.specs.Settings.{Settings}
use Rattle.link_lock.specs.Pass.{LockId}
use Rattle.network_calls.specs.declared.counts.LinkCounts.{LinkCounts}
use Rattle.network_calls.specs.Counts.{AreCounts}
use Rattle.network_calls.specs.Passes.{AreCounted, ArePasses, AreSettled, IsPassOn, Keeping}

-- lists with one more at their end that are equal
same_push : {X : Type 0} (xs ys : List X) (x y : X) → xs ++ x ∷ [] ≡ ys ++ y ∷ [] → (xs ≡ ys) × (x ≡ y)
same_push {X} xs ys x y same =
    let turned : x ∷ reverse xs ≡ y ∷ reverse ys = sym (reverse-append xs (x ∷ [])) ∙ (ap reverse same ∙ reverse-append ys (y ∷ [])) in
    (sym (reverse-reverse xs) ∙ (ap (λ (zs : List X). reverse (drop 1 zs)) turned ∙ reverse-reverse ys), same_Some x y (ap (λ (zs : List X). slice_get zs 0) turned))

module _ {K L : Type 0} (keeping : Keeping K L) where
  -- what a settled link that both passes know has: the settings of that link
  abbrev SettlesKnown : Type 0
  SettlesKnown = (one other : K) (link left : L) → keeping.is_let_go one other left → (keeping.on one).link ≡ Some link → keeping.settings_of left ≡ keeping.settings_of link

  -- those that are left, and those that are settled; the latter stand from the last to the first
  pub record Settling (links : List Settings) (a b : List K) (locks : List LockId) (ones others : List K) (states : List L) (counts_a counts_b : List LinkCounts) : Type 0 where
    pub rest : List Settings
    pub done : List Settings
    pub done_a : List K
    pub done_b : List K
    pub links_are : rest ++ done ≡ links
    pub a_are : ones ++ done_a ≡ a
    pub b_are : others ++ done_b ≡ b
    pub left_a : ArePasses keeping A locks rest ones
    pub left_b : ArePasses keeping B locks rest others
    pub settled : AreSettled keeping done done_a done_b (reverse states)
    pub counted_a : AreCounted keeping A done_a (reverse counts_a)
    pub counted_b : AreCounted keeping B done_b (reverse counts_b)

  -- before the first
  pub begins : (links : List Settings) (a b : List K) (locks : List LockId) (states : List L) (counts_a counts_b : List LinkCounts) → ArePasses keeping A locks links a → ArePasses keeping B locks links b
      → states ≡ [] → counts_a ≡ [] → counts_b ≡ [] → Settling links a b locks a b states counts_a counts_b
  begins links a b locks states counts_a counts_b passes_a passes_b no_states none_a none_b = rw (no_states, none_a, none_b) (record {
    rest = links;
    done = [];
    done_a = [];
    done_b = [];
    links_are = append-nil links;
    a_are = append-nil a;
    b_are = append-nil b;
    left_a = passes_a;
    left_b = passes_b;
    settled = tt;
    counted_a = tt;
    counted_b = tt;
  })

  -- ---- the last of those that are left

  pub record Last (locks : List LockId) (rest : List Settings) (ones others : List K) (lock : LockId) : Type 0 where
    pub settings : Settings
    pub before : List Settings
    pub one : K
    pub before_a : List K
    pub other : K
    pub before_b : List K
    pub rest_is : before ++ settings ∷ [] ≡ rest
    pub ones_are : before_a ++ one ∷ [] ≡ ones
    pub others_are : before_b ++ other ∷ [] ≡ others
    pub left_a : ArePasses keeping A locks before before_a
    pub left_b : ArePasses keeping B locks before before_b
    pub is_a : IsPassOn keeping lock settings A one
    pub is_b : IsPassOn keeping lock settings B other

  pub last_of : (locks : List LockId) (rest : List Settings) (ones others : List K) (lock : LockId) → ArePasses keeping A (locks ++ lock ∷ []) rest ones → ArePasses keeping B (locks ++ lock ∷ []) rest others
      → Last locks rest ones others lock
  last_of [] (settings ∷ []) (one ∷ []) (other ∷ []) lock a b = record {
    settings = settings;
    before = [];
    one = one;
    before_a = [];
    other = other;
    before_b = [];
    rest_is = refl;
    ones_are = refl;
    others_are = refl;
    left_a = tt;
    left_b = tt;
    is_a = a.0;
    is_b = b.0;
  }
  last_of (first ∷ locks) (s ∷ rest) (k ∷ ones) (l ∷ others) lock a b =
      let later = last_of locks rest ones others lock a.1 b.1 in
      record {
        settings = later.settings;
        before = s ∷ later.before;
        one = later.one;
        before_a = k ∷ later.before_a;
        other = later.other;
        before_b = l ∷ later.before_b;
        rest_is = ap (λ xs. s ∷ xs) later.rest_is;
        ones_are = ap (λ xs. k ∷ xs) later.ones_are;
        others_are = ap (λ xs. l ∷ xs) later.others_are;
        left_a = (a.0, later.left_a);
        left_b = (b.0, later.left_b);
        is_a = later.is_a;
        is_b = later.is_b;
      }
  last_of (first ∷ locks) [] ones others lock a b = absurd (no_links ones a)
    where
      no_links : (ones : List K) → ArePasses keeping A ((first ∷ locks) ++ lock ∷ []) [] ones → ⊥
      no_links [] a = a
      no_links (k ∷ ones) a = a
  last_of (first ∷ locks) (s ∷ rest) [] others lock a b = absurd a
  last_of (first ∷ locks) (s ∷ rest) (k ∷ ones) [] lock a b = absurd b
  last_of [] [] ones others lock a b = absurd (no_links ones a)
    where
      no_links : (ones : List K) → ArePasses keeping A (lock ∷ []) [] ones → ⊥
      no_links [] a = a
      no_links (k ∷ ones) a = a
  last_of [] (s ∷ rest) [] others lock a b = absurd a
  last_of [] (s ∷ rest) (k ∷ ones) [] lock a b = absurd b
  last_of [] (s ∷ t ∷ rest) (k ∷ ones) (l ∷ others) lock a b = absurd (no_locks ones a.1)
    where
      no_locks : (ones : List K) → ArePasses keeping A [] (t ∷ rest) ones → ⊥
      no_locks [] a = a
      no_locks (k ∷ ones) a = a
  last_of [] (s ∷ []) (k ∷ m ∷ ones) (l ∷ others) lock a b = absurd a.1
  last_of [] (s ∷ []) (k ∷ []) (l ∷ m ∷ others) lock a b = absurd b.1

  -- ---- one link more

  -- what is settled next is what stands last
  pub record Next (locks : List LockId) (ones others : List K) (lock : LockId) (one other : K) : Type 0 where
    pub at_a : (keeping.on one).lock ≡ lock
    pub at_b : (keeping.on other).lock ≡ lock
    pub of_a : (keeping.on one).net ≡ A
    pub of_b : (keeping.on other).net ≡ B

  module _ (links : List Settings) (a b : List K) (locks : List LockId) (ones others : List K) (states : List L) (counts_a counts_b : List LinkCounts) (lock : LockId) (one other : K)
      (so_far : Settling links a b (locks ++ lock ∷ []) (ones ++ one ∷ []) (others ++ other ∷ []) states counts_a counts_b) where
    last : Last locks so_far.rest (ones ++ one ∷ []) (others ++ other ∷ []) lock
    last = last_of locks so_far.rest (ones ++ one ∷ []) (others ++ other ∷ []) lock so_far.left_a so_far.left_b

    same_a : (last.before_a ≡ ones) × (last.one ≡ one)
    same_a = same_push last.before_a ones last.one one last.ones_are

    same_b : (last.before_b ≡ others) × (last.other ≡ other)
    same_b = same_push last.before_b others last.other other last.others_are

    pub next : Next locks ones others lock one other
    next = record {
      at_a = rw same_a.1 at last.is_a.at_lock;
      at_b = rw same_b.1 at last.is_b.at_lock;
      of_a = rw same_a.1 at last.is_a.of_net;
      of_b = rw same_b.1 at last.is_b.of_net;
    }

    -- a settled link has the settings of the link that its pass knows
    settings_are : SettlesKnown → (state : L) → keeping.is_let_go one other state → keeping.settings_of state ≡ last.settings
    settings_are keeps state settled =
        let known : (keeping.on one).link ≡ Some last.is_a.link = rw same_a.1 at last.is_a.known in
        keeps one other last.is_a.link state settled known ∙ last.is_a.with_settings

    pub one_more : SettlesKnown → (state : L) (one_counts other_counts : LinkCounts) → keeping.is_let_go one other state → (one_counts ≡ (keeping.on one).counts) × AreCounts keeping.shows A (keeping.on one).calls one_counts
        → (other_counts ≡ (keeping.on other).counts) × AreCounts keeping.shows B (keeping.on other).calls other_counts
        → Settling links a b locks ones others (states ++ state ∷ []) (counts_a ++ one_counts ∷ []) (counts_b ++ other_counts ∷ [])
    one_more keeps state one_counts other_counts settled counted_a counted_b = record {
      rest = last.before;
      done = last.settings ∷ so_far.done;
      done_a = one ∷ so_far.done_a;
      done_b = other ∷ so_far.done_b;
      links_are = sym (append_assoc last.before (last.settings ∷ []) so_far.done) ∙ (ap (λ xs. xs ++ so_far.done) last.rest_is ∙ so_far.links_are);
      a_are = sym (append_assoc ones (one ∷ []) so_far.done_a) ∙ so_far.a_are;
      b_are = sym (append_assoc others (other ∷ []) so_far.done_b) ∙ so_far.b_are;
      left_a = rw same_a.0 at last.left_a;
      left_b = rw same_b.0 at last.left_b;
      settled = rw (reverse-append states (state ∷ [])) (settings_are keeps state settled, settled, so_far.settled);
      counted_a = rw (reverse-append counts_a (one_counts ∷ [])) (counted_a.0, counted_a.1, so_far.counted_a);
      counted_b = rw (reverse-append counts_b (other_counts ∷ [])) (counted_b.0, counted_b.1, so_far.counted_b);
    }

  -- while a lock is left, a pass of each network is
  pub some_left : (links : List Settings) (a b : List K) (locks : List LockId) (ones others : List K) (states : List L) (counts_a counts_b : List LinkCounts) (lock : LockId)
      → Settling links a b (locks ++ lock ∷ []) ones others states counts_a counts_b → (0 < length ones) × (0 < length others)
  some_left links a b locks ones others states counts_a counts_b lock so_far =
      let end = last_of locks so_far.rest ones others lock so_far.left_a so_far.left_b in (
        omega (arith, ap (λ (xs : List K). length xs) end.ones_are, length-append end.before_a (end.one ∷ [])),
        omega (arith, ap (λ (xs : List K). length xs) end.others_are, length-append end.before_b (end.other ∷ [])),
      )

  -- ---- at the end

  pub ends : (links : List Settings) (a b : List K) (locks : List LockId) (ones others : List K) (states : List L) (counts_a counts_b : List LinkCounts) → locks ≡ []
      → Settling links a b locks ones others states counts_a counts_b
      → AreSettled keeping links a b (reverse states) × AreCounted keeping A a (reverse counts_a) × AreCounted keeping B b (reverse counts_b)
  ends links a b locks ones others states counts_a counts_b none so_far =
      let left_a = rw none at so_far.left_a in
      let left_b = rw none at so_far.left_b in
      let no_links = nothing_left A so_far.rest ones left_a in
      let no_others = nothing_left B so_far.rest others left_b in
      let links_are : so_far.done ≡ links = rw no_links.0 at so_far.links_are in
      let a_are : so_far.done_a ≡ a = rw no_links.1 at so_far.a_are in
      let b_are : so_far.done_b ≡ b = rw no_others.1 at so_far.b_are in
      rw (← links_are, ← a_are, ← b_are) (so_far.settled, so_far.counted_a, so_far.counted_b)
    where
      nothing_left : (net : Net) (rest : List Settings) (passes : List K) → ArePasses keeping net [] rest passes → (rest ≡ []) × (passes ≡ [])
      nothing_left net [] [] are = (refl, refl)
      nothing_left net (s ∷ rest) [] are = absurd are
      nothing_left net (s ∷ rest) (p ∷ passes) are = absurd are
      nothing_left net [] (p ∷ passes) are = absurd are

  -- ---- one of those that are settled

  pub record SettledAt (settings : Settings) (place : ℕ) (one other : K) (links : List L) : Type 0 where
    pub link : L
    pub there : slice_get links place ≡ Some link
    pub with_settings : keeping.settings_of link ≡ settings
    pub settled : keeping.is_let_go one other link

  pub settled_at : (links : List Settings) (a b : List K) (settled : List L) (place : ℕ) (settings : Settings) (one other : K) → AreSettled keeping links a b settled
      → slice_get links place ≡ Some settings → slice_get a place ≡ Some one → slice_get b place ≡ Some other → SettledAt settings place one other settled
  settled_at [] a b settled place settings one other are there in_a in_b = cc
  settled_at (s ∷ links) [] b settled place settings one other are there in_a in_b = cc
  settled_at (s ∷ links) (k ∷ a) [] settled place settings one other are there in_a in_b = cc
  settled_at (s ∷ links) (k ∷ a) (l ∷ b) [] place settings one other are there in_a in_b = absurd are
  settled_at (s ∷ links) (k ∷ a) (l ∷ b) (link ∷ settled) zero settings one other are there in_a in_b =
      rw (← same_Some s settings there, ← same_Some k one in_a, ← same_Some l other in_b) (record { link = link; there = refl; with_settings = are.0; settled = are.1 })
  settled_at (s ∷ links) (k ∷ a) (l ∷ b) (link ∷ settled) (suc place) settings one other are there in_a in_b =
      let later = settled_at links a b settled place settings one other are.2 there in_a in_b in
      record { link = later.link; there = later.there; with_settings = later.with_settings; settled = later.settled }
