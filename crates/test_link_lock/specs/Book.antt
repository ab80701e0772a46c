-- A book in which two users write numbers, and whose written pages may be taken out.
use Rattle.std.specs.Prelude.{◌≡◌, ℕ, Bool, true, false, if◌then◌else◌, List, [], ◌∷◌, ◌++◌, length, drop}
use Rattle.link_lock.specs.declared.user.User.{User}
use Rattle.link_lock.specs.declared.user.User.TheVariants.{First, Second}
use Rattle.test_link_lock.specs.declared.book.Line.{Line}

-- the number by which it is known, and its lines in order
pub record Pages : Type 0 where
  pub shelf : ℕ
  pub lines : List Line

abbrev pub is_same : User → User → Bool
is_same First First = true
is_same First Second = false
is_same Second First = false
is_same Second Second = true

abbrev pub book_line : User → ℕ → Line
book_line by number = record { by = by; number = number }

-- the numbers that this user wrote
abbrev pub numbers : User → List Line → List ℕ
numbers user [] = []
numbers user (x ∷ lines) = if is_same user x.by then x.number ∷ numbers user lines else numbers user lines

abbrev pub empty_book : ℕ → Pages
empty_book shelf = record { shelf = shelf; lines = [] }

abbrev pub without_lines : Pages → Pages
without_lines book = record book { lines = [] }

abbrev pub with_line : Pages → Line → Pages
with_line book last = record book { lines = book.lines ++ last ∷ [] }

-- the users' lists are the numbers of the lines that were taken out and of those that are there
abbrev pub AreLists : (User → List ℕ) → Pages → Type 0
AreLists lists book = (earlier : List Line) × ((user : User) → lists user ≡ numbers user (earlier ++ book.lines))

-- a user's list after lines were added, or all lines taken out
abbrev pub goes_on : User → Pages → Pages → List ℕ → List ℕ
goes_on user old new list = list ++ numbers user (drop (length old.lines) new.lines)
