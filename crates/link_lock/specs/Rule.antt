-- The rule of the table of a lock, and what each of its steps tells. The word is 0 if the value is in its slot, and
-- 1 if a seat has it.
use Rattle.std.specs.Prelude.{◌≡◌, ◌≢◌, ◌⊎◌, ℕ, Bool, true, false, Option, Some, None, List, [], ◌∷◌}
use mathlib.Core.Option.{some, none}
use mathlib.Core.Option as maybe
use lib.ListN.{get_elem?}
use Rattle.atomic_table.specs.Table.{State, Me, Step}
use Rattle.link_lock.specs.declared.user.User.{User}
use Rattle.link_lock.specs.declared.user.User.TheVariants.{First, Second}
use Rattle.link_lock.specs.declared.rule.Whose.{Whose}
use Rattle.link_lock.specs.declared.rule.Whose.TheVariants.{One, Both, Nobody}
use Rattle.link_lock.specs.declared.rule.View.{View}
use Rattle.link_lock.specs.Lists.{both_lists, with_list}
use Rattle.link_lock.specs.Pass.{KnownPass, LockId}

-- ---- what a seat knows

abbrev pub is_for : User → Whose → Bool
is_for First (One First) = true
is_for First (One Second) = false
is_for Second (One First) = false
is_for Second (One Second) = true
is_for user Both = true
is_for user Nobody = false

abbrev pub view : {S L : Type 0} → Option S → Whose → (User → L) → Option S → View S L
view fixed whose lists held = record { fixed = fixed; whose = whose; first = lists First; second = lists Second; held = held }

abbrev pub lists_in : {S L : Type 0} → View S L → User → L
lists_in v = both_lists v.first v.second

-- the seat with which a lock is opened is that of both users
abbrev pub opened_view : {S L : Type 0} → S → L → View S L
opened_view fixed nothing = view (Some fixed) Both (λ _. nothing) None

abbrev pub first_part : {S L : Type 0} → View S L → View S L
first_part v = view v.fixed (One First) (lists_in v) None

abbrev pub second_part : {S L : Type 0} → View S L → View S L
second_part v = view v.fixed (One Second) (lists_in v) None

abbrev pub joined_views : {S L : Type 0} → View S L → View S L → View S L
joined_views v w = view v.fixed Both (both_lists v.first w.second) None

-- a seat that was joined to another
abbrev pub spent : {S L : Type 0} → L → View S L
spent nothing = view None Nobody (λ _. nothing) None

-- a seat that has just taken this value, and so knows both lists
abbrev pub holding : {S L : Type 0} → View S L → (User → L) → S → View S L
holding v lists value = view v.fixed v.whose lists (Some value)

-- the seat is this user's alone, and hasn't got the value
-- rule: CONC-2
abbrev pub IsReady : {S L : Type 0} → User → Me S (View S L) → Type 0
IsReady user m = (m.0.whose ≡ One user) × (m.0.held ≡ None) × (m.1 ≡ [])

-- what a ready seat tells its pass
abbrev pub known_of : {S L : Type 0} → LockId → User → View S L → KnownPass S L
known_of lock user v = record { lock = lock; user = user; fixed = v.fixed; list = lists_in v user }

-- ---- the rule

-- A seat that is some user's is the only one, and knows that user's list. A seat that has the value is the only one,
-- and knows both lists.
-- rule: CONC-11
pub record FitsSeat {S L : Type 0} (fixed : S) (lists : User → L) (seat_of : User → ℕ) (word holder number : ℕ) (v : View S L) : Type 0 where
  pub own : (user : User) → is_for user v.whose ≡ true → (v.fixed ≡ Some fixed) × (number ≡ seat_of user) × (lists_in v user ≡ lists user)
  pub holds : (s : S) → v.held ≡ Some s → (word ≡ 1) × (number ≡ holder) × ((user : User) → lists_in v user ≡ lists user)

-- the value is in its slot, and the users' lists agree with it
-- rule: CONC-1
abbrev pub AtHome : {S L : Type 0} → (S → S) → ((User → L) → S → Type 0) → S → (User → L) → ℕ → List (maybe.Option S) → Type 0
AtHome {S} fixed_of agree fixed lists word homes = (word ≡ 0) × ((s : S) × (homes ≡ some s ∷ []) × (fixed_of s ≡ fixed) × agree lists s)

-- a seat that is one user's has the value
-- rule: CONC-1
abbrev pub Away : {S L : Type 0} → ℕ → ℕ → List (maybe.Option S) → List (View S L) → Type 0
Away {S} {L} word holder homes views =
    (word ≡ 1) × (homes ≡ none ∷ []) × ((v : View S L) × (get_elem? views holder ≡ some v) × ((s : S) × (v.held ≡ Some s)) × ((user : User) × (v.whose ≡ One user)))

-- rule: CONC-11
pub record Locked {S L : Type 0} (fixed_of : S → S) (agree : (User → L) → S → Type 0) (fixed : S) (s : State S (View S L)) : Type 0 where
  pub lists : User → L
  pub seat_of : User → ℕ
  pub word : ℕ
  pub holder : ℕ
  pub words : s.words ≡ word ∷ []
  pub placed : AtHome fixed_of agree fixed lists word s.homes ⊎ Away word holder s.homes s.views
  pub each : (number : ℕ) (v : View S L) → get_elem? s.views number ≡ some v → FitsSeat fixed lists seat_of word holder number v

-- ---- the steps

-- the value was taken, and with it both lists were learned
pub record Took {S L : Type 0} (fixed_of : S → S) (agree : (User → L) → S → Type 0) (m m' : Me S (View S L)) : Type 0 where
  pub lists : User → L
  pub value : S
  pub has : m' ≡ (holding m.0 lists value, (0, value) ∷ m.1)
  pub fixed : Some (fixed_of value) ≡ m.0.fixed
  pub own : (user : User) → m.0.whose ≡ One user → lists user ≡ lists_in m.0 user
  pub agrees : agree lists value

-- an exchange of 0 for 1
-- rule: CONC-4
abbrev pub tried : {S L : Type 0} → (S → S) → ((User → L) → S → Type 0) → Step S → Me S (View S L) → ℕ → Me S (View S L) → Type 0
tried fixed_of agree st m found m' = (found ≡ 0 → Took fixed_of agree m m') × (found ≢ 0 → m' ≡ m)

-- no step: what stands in the slot of the seat has changed, and nothing else
pub record Worked {S L : Type 0} (did : S → S → Type 0) (m m' : Me S (View S L)) : Type 0 where
  pub found : S
  pub left : S
  pub carried : m.1 ≡ (0, found) ∷ []
  pub now : m' ≡ (m.0, (0, left) ∷ [])
  pub does : did found left

-- both lists after this user's visit
abbrev pub lists_after : {S L : Type 0} → (User → S → S → L → L) → User → View S L → S → S → User → L
lists_after goes_on user v found left = with_list (lists_in v) user (goes_on user found left (lists_in v user))

abbrev pub after : {S L : Type 0} → (User → S → S → L → L) → User → View S L → S → S → View S L
after goes_on user v found left = view v.fixed v.whose (lists_after goes_on user v found left) None

-- the seat has a value that may be given back
pub record MayGive {S L : Type 0} (goes_on : User → S → S → L → L) (fixed_of : S → S) (agree : (User → L) → S → Type 0) (m : Me S (View S L)) : Type 0 where
  pub user : User
  pub found : S
  pub left : S
  pub whose : m.0.whose ≡ One user
  pub held : m.0.held ≡ Some found
  pub carried : m.1 ≡ (0, left) ∷ []
  pub fixed : Some (fixed_of left) ≡ m.0.fixed
  pub agrees : agree (lists_after goes_on user m.0 found left) left

-- a store of 0: what stood in the slot of the seat was given back, and its user's list went on by it
-- rule: CONC-4
abbrev pub gave : {S L : Type 0} → (User → S → S → L → L) → Step S → Me S (View S L) → ℕ → Me S (View S L) → Type 0
gave {S} goes_on st m found m' = (user : User) (s t : S) → m.0.whose ≡ One user → m.0.held ≡ Some s → m.1 ≡ (0, t) ∷ [] → m' ≡ (after goes_on user m.0 s t, [])
