-- A user's pass as contracts see it, and a visit: the time from the taking of the value to its return.
use Rattle.std.specs.Prelude.{◌≡◌, Option, Some}
use Rattle.atomic_table.specs.Seated.{TableId}
use Rattle.link_lock.specs.declared.user.User.{User}
use Rattle.link_lock.specs.Lists.{with_list}

-- tells one lock from all others
abbrev pub LockId : Type 0
LockId = TableId

-- what a pass knows: at which lock it is, whose it is, what no visit changes of the value, and its user's list
pub record KnownPass (S L : Type 0) : Type 0 where
  pub lock : LockId
  pub user : User
  pub fixed : Option S
  pub list : L

abbrev pub known : {S L : Type 0} → LockId → User → S → L → KnownPass S L
known lock user fixed list = record { lock = lock; user = user; fixed = Some fixed; list = list }

abbrev pub with_list_of : {S L : Type 0} → KnownPass S L → L → KnownPass S L
with_list_of pass list = record pass { list = list }

-- As far as this pass knows, its user may find this value, and these may be the lists of both users then:
-- they agree with the value, and one is the user's own.
-- rule: CONC-12
pub record MayFind {S L : Type 0} (fixed_of : S → S) (agree : (User → L) → S → Type 0) (pass : KnownPass S L) (lists : User → L) (found : S) : Type 0 where
  pub fixed : Some (fixed_of found) ≡ pass.fixed
  pub own : lists pass.user ≡ pass.list
  pub agrees : agree lists found

-- A user that found the one value may leave the other: the lists agree with that too, once its own has gone on and
-- the other user's has stayed.
pub record MayLeave {S L : Type 0} (fixed_of : S → S) (agree : (User → L) → S → Type 0) (goes_on : User → S → S → L → L) (pass : KnownPass S L) (lists : User → L) (found left : S) : Type 0 where
  pub fixed : fixed_of left ≡ fixed_of found
  pub agrees : agree (with_list lists pass.user (goes_on pass.user found left pass.list)) left

-- One visit: the user found a value, did this to it, and its list went on by what it did.
-- rule: CONC-7, CONC-12
pub record Visited {S L : Type 0} (fixed_of : S → S) (agree : (User → L) → S → Type 0) (goes_on : User → S → S → L → L) (did : S → S → Type 0) (old new : KnownPass S L) : Type 0 where
  pub lists : User → L
  pub found : S
  pub left : S
  pub finds : MayFind fixed_of agree old lists found
  pub does : did found left
  pub knows : new ≡ with_list_of old (goes_on old.user found left old.list)
