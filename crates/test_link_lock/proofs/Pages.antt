-- What a visit leaves of a book, and the users' lists after it.
use Rattle.std.proofs.Common.{◌≡◌, ℕ, zero, suc, Bool, true, false, if◌then◌else◌, List, [], ◌∷◌, ◌++◌, length, drop, Result, Ok, Err, OnOk, OnErr, refl, sym, ap, ◌∙◌, subst, append_assoc, append-nil}
use Rattle.std.proofs.lemmas.List.{drop_at}
use Rattle.std.specs.declared.alloc.AllocError.{AllocError}
use Rattle.link_lock.specs.declared.user.User.{User}
use Rattle.link_lock.specs.declared.user.User.TheVariants.{First, Second}
use Rattle.link_lock.specs.Lists.{with_list}
use Rattle.link_lock.specs.Pass.{KnownPass, MayFind, MayLeave}
use Rattle.test_link_lock.specs.declared.book.Line.{Line}
use Rattle.test_link_lock.specs.Book.{Pages, is_same, book_line, numbers, without_lines, with_line, AreLists, goes_on}

module _ (number : ℕ) (xs ys more : List ℕ) (joined : more ≡ xs ++ ys) where
  one_more : (b : Bool) → (if b then number ∷ more else more) ≡ (if b then number ∷ xs else xs) ++ ys
  one_more true = ap (λ list. number ∷ list) joined
  one_more false = joined

numbers-append : (user : User) (xs ys : List Line) → numbers user (xs ++ ys) ≡ numbers user xs ++ numbers user ys
numbers-append user [] ys = refl
numbers-append user (x ∷ xs) ys = one_more x.number (numbers user xs) (numbers user ys) (numbers user (xs ++ ys)) (numbers-append user xs ys) (is_same user x.by)

none_left : (count : ℕ) → drop count (let lines : List Line = [] in lines) ≡ []
none_left zero = refl
none_left (suc count) = refl

-- only this user wrote the lines
abbrev AreBy : User → List Line → Type 0
AreBy user added = (n : User) → is_same n user ≡ false → numbers n added ≡ []

module _ (pass : KnownPass Pages (List ℕ)) (lists : User → List ℕ) (found : Pages) (finds : MayFind without_lines AreLists pass lists found) where
  after_visit : (user n : User) (added : List Line) → AreBy user added → (own : List ℕ) → lists user ≡ own → with_list lists user (own ++ numbers user added) n ≡ lists n ++ numbers n added
  after_visit First First added by own is = ap (λ list. list ++ numbers First added) (sym is)
  after_visit First Second added by own is = sym (append-nil (lists Second)) ∙ ap (λ list. lists Second ++ list) (sym (by Second refl))
  after_visit Second First added by own is = sym (append-nil (lists First)) ∙ ap (λ list. lists First ++ list) (sym (by First refl))
  after_visit Second Second added by own is = ap (λ list. list ++ numbers Second added) (sym is)

  abbrev grown : List Line → Pages
  grown added = record found { lines = found.lines ++ added }

  added_lines : (user : User) (added : List Line) (list : List ℕ) → goes_on user found (grown added) list ≡ list ++ numbers user added
  added_lines user added list = ap (λ lines. list ++ numbers user lines) (drop_at found.lines added (length found.lines) refl)

  leaves_grown : (added : List Line) → AreBy pass.user added → MayLeave without_lines AreLists goes_on pass lists found (grown added)
  leaves_grown added by = record {
    fixed = refl;
    agrees = (
      finds.agrees.0,
      λ n. ap (λ list. with_list lists pass.user list n) (added_lines pass.user added pass.list)
          ∙ (after_visit pass.user n added by pass.list finds.own
          ∙ (ap (λ list. list ++ numbers n added) (finds.agrees.1 n)
          ∙ (sym (numbers-append n (finds.agrees.0 ++ found.lines) added) ∙ ap (numbers n) (append_assoc finds.agrees.0 found.lines added)))),
    );
  }

  by_one : (user : User) (number : ℕ) → AreBy user (book_line user number ∷ [])
  by_one user number n apart = ap (λ b. if b then number ∷ [] else []) apart

  pub leaves_same : (left : Pages) → left ≡ found → MayLeave without_lines AreLists goes_on pass lists found left
  leaves_same left is =
      let same : grown [] ≡ left = (λ i. record found { lines = append-nil found.lines i }) ∙ sym is in
      subst (MayLeave without_lines AreLists goes_on pass lists found) same (leaves_grown [] (λ n apart. refl))

  pub leaves_written : (number : ℕ) (left : Pages) (answer : Result (Unit {0}) AllocError) → OnOk answer (left ≡ with_line found (book_line pass.user number)) → OnErr answer (left ≡ found)
      → MayLeave without_lines AreLists goes_on pass lists found left
  leaves_written number left (Ok x) ok err = subst (MayLeave without_lines AreLists goes_on pass lists found) (sym ok) (leaves_grown (book_line pass.user number ∷ []) (by_one pass.user number))
  leaves_written number left (Err e) ok err = leaves_same left err

  pub leaves_empty : (left : Pages) → left ≡ without_lines found → MayLeave without_lines AreLists goes_on pass lists found left
  leaves_empty left is = subst (MayLeave without_lines AreLists goes_on pass lists found) (sym is)
      record {
        fixed = refl;
        agrees = (
          finds.agrees.0 ++ found.lines,
          λ n. ap (λ none. with_list lists pass.user (pass.list ++ numbers pass.user none) n) (none_left (length found.lines))
              ∙ (after_visit pass.user n [] (λ m apart. refl) pass.list finds.own
              ∙ (append-nil (lists n) ∙ (finds.agrees.1 n ∙ ap (numbers n) (sym (append-nil (finds.agrees.0 ++ found.lines)))))),
        );
      }
