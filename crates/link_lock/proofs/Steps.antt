-- Each step keeps the rule of the lock.
use Rattle.std.proofs.Common.{◌≡◌, ◌≢◌, ◌==◌, ℕ, zero, suc, true, true≢false, Option, Some, None, List, [], ◌∷◌, ◌++◌, length, set, get_or, refl, sym, ap, ◌∙◌, subst, ⊎_elim, inl, inr, arith}
use mathlib.Core.Option.{some, none, some-ne-none, some-injective}
use mathlib.Core.Option as maybe
use lib.ListN.{get_elem?}
use prog.Atomic.{either}
use Rattle.atomic_table.specs.Table.{State, Me, Act, takes, gives, keeps, step, stepped, Valid, carried_after, Allows, Splits, Joins}
use Rattle.atomic_table.proofs.Lists.{at_set, at_snoc, set_again}
use Rattle.link_lock.specs.declared.user.User.{User}
use Rattle.link_lock.specs.declared.user.User.TheVariants.{First, Second}
use Rattle.link_lock.specs.declared.rule.Whose.{Whose}
use Rattle.link_lock.specs.declared.rule.Whose.TheVariants.{One, Both, Nobody}
use Rattle.link_lock.specs.declared.rule.View.{View}
use Rattle.link_lock.specs.Lists.{both_lists, with_list}
use Rattle.link_lock.specs.Rule.{is_for, view, lists_in, opened_view, first_part, second_part, joined_views, spent, FitsSeat, Away, AtHome, Locked, holding, tried, lists_after, after, gave, MayGive}

-- ---- users

for_one : (user : User) → is_for user (One user) ≡ true
for_one First = refl
for_one Second = refl

only_one : (n user : User) → is_for n (One user) ≡ true → n ≡ user
only_one First First is = refl
only_one First Second is = absurd (true≢false (sym is))
only_one Second First is = absurd (true≢false (sym is))
only_one Second Second is = refl

is_own : (whose : Whose) (user : User) → whose ≡ One user → is_for user whose ≡ true
is_own whose user one = ap (is_for user) one ∙ for_one user

pub some_same : {X : Type 0} (x y : X) → (let o : Option X = Some x in o) ≡ Some y → x ≡ y
some_same x y is = cc

abbrev pub top : {X : Type 0} → X → List (ℕ × X) → X
top value [] = value
top value (x ∷ xs) = x.1

never : {X : Type 0} (x : X) → None ≡ Some x → ⊥
never x is = cc

-- ---- views by their numbers

module _ {X : Type 0} where
  set_at : (xs : List X) (i : ℕ) (after before : X) → get_elem? xs i ≡ some before → get_elem? (set xs i after) i ≡ some after
  set_at [] i after before at = absurd (some-ne-none before (sym at))
  set_at (x ∷ xs) zero after before at = refl
  set_at (x ∷ xs) (suc i) after before at = set_at xs i after before at

  each_set : (F : ℕ → X → Type 0) (views : List X) (number : ℕ) (after : X) → F number after
      → ((j : ℕ) (other : X) → j ≢ number → get_elem? views j ≡ some other → F j other) → (j : ℕ) (other : X) → get_elem? (set views number after) j ≡ some other → F j other
  each_set F views number after mine others j other at =
      ⊎_elim (λ (x : (j ≡ number) × (after ≡ other)). subst (λ (y : ℕ × X). F y.0 y.1) (λ i. (sym x.0 i, x.1 i)) mine)
      (λ (x : (j ≢ number) × (get_elem? views j ≡ some other)). others j other x.0 x.1) (at_set views number j after other at)

  at_end : (views : List X) (last view : X) (j : ℕ) → get_elem? views j ≢ some view → get_elem? (views ++ last ∷ []) j ≡ some view → j ≡ length views
  at_end [] last view zero new at = refl
  at_end [] last view (suc j) new at = absurd (some-ne-none view (sym at))
  at_end (x ∷ xs) last view zero new at = absurd (new at)
  at_end (x ∷ xs) last view (suc j) new at = ap suc (at_end xs last view j new at)

module _ {L : Type 0} where
  -- both lists as one function
  pub split_lists : (lists : User → L) (user : User) → both_lists (lists First) (lists Second) user ≡ lists user
  split_lists lists First = refl
  split_lists lists Second = refl

  other_stays : (lists : User → L) (user n : User) (list : L) → (n ≡ user → ⊥) → with_list lists user list n ≡ lists n
  other_stays lists First First list apart = absurd (apart refl)
  other_stays lists First Second list apart = refl
  other_stays lists Second First list apart = refl
  other_stays lists Second Second list apart = absurd (apart refl)

module _ {S L : Type 0} (fixed_of : S → S) (agree : (User → L) → S → Type 0) (goes_on : User → S → S → L → L) (fixed : S) where
  abbrev V : Type 0
  V = View S L

  abbrev Rule : State S V → Type 0
  Rule = Locked fixed_of agree fixed

  abbrev table : List ℕ → List (maybe.Option S) → List V → State S V
  table words homes views = record { words = words; homes = homes; views = views }

  abbrev FitsIn : (User → L) → (User → ℕ) → ℕ → ℕ → ℕ → V → Type 0
  FitsIn = FitsSeat fixed

  abbrev Each : (User → L) → (User → ℕ) → ℕ → ℕ → List V → Type 0
  Each lists seat_of word holder views = (number : ℕ) (v : V) → get_elem? views number ≡ some v → FitsSeat fixed lists seat_of word holder number v

  -- what a step owes of a table with these words, homes and views
  abbrev Goes : ℕ → Me S V → (ℕ → ℕ) → (ℕ → Me S V → Type 0) → List V → List ℕ → List (maybe.Option S) → Type 0
  Goes number me f then views words homes =
      (w : V) × (act : Act S) × Valid homes me.1 act × Rule (stepped (table words homes views) 0 (f (get_or words 0 0)) number me.1 w act) × then (get_or words 0 0) (w, carried_after me.1 act)

  -- ---- the value is taken, or found to be away

  module _ (slots number : ℕ) (me : Me S V) (user : User) (whose : me.0.whose ≡ One user) where
    abbrev Tries : List V → List ℕ → List (maybe.Option S) → Type 0
    Tries = Goes number me (λ n. either (n == 0) 1 n) (tried fixed_of agree (step slots 0 0 1 none) me)

    takes_it : (holder : ℕ) (lists : User → L) (seat_of : User → ℕ) (views : List V) (s : S) → Each lists seat_of 0 holder views → fixed_of s ≡ fixed → agree lists s → get_elem? views number ≡ some me.0
        → Tries views (0 ∷ []) (some s ∷ [])
    takes_it holder lists seat_of views s each same agrees at =
        let w : V = holding me.0 lists s in
        let mine = each number me.0 at in (
          w,
          takes 0 s,
          refl,
          record {
            lists = lists;
            seat_of = seat_of;
            word = 1;
            holder = number;
            words = refl;
            placed = inr (refl, refl, (w, set_at views number w me.0 at, (s, refl), (user, whose)));
            each = each_set (FitsIn lists seat_of 1 number) views number w
                (record {
                  own = λ n is. ((mine.own n is).0, (mine.own n is).1, split_lists lists n);
                  holds = λ p has. (refl, refl, split_lists lists);
                })
                (λ j other apart here. let theirs = each j other here in record { own = theirs.own; holds = λ p has. let no = (theirs.holds p has).0 in absurd (omega arith) });
          },
          (
            (λ _. record {
              lists = lists;
              value = s;
              has = refl;
              fixed = ap (λ (x : S). let o : Option S = Some x in o) same ∙ sym ((mine.own user (is_own me.0.whose user whose)).0);
              own = λ n one. sym ((mine.own n (is_own me.0.whose n one)).2);
              agrees = agrees;
            }),
            λ no. absurd (no refl),
          ),
        )

    finds_none : (holder : ℕ) (lists : User → L) (seat_of : User → ℕ) (views : List V) → Each lists seat_of 1 holder views → Away 1 holder (none ∷ []) views → get_elem? views number ≡ some me.0 → Tries views (1 ∷ []) (none ∷ [])
    finds_none holder lists seat_of views each away at = (
      me.0,
      keeps,
      tt,
      subst (λ (vs : List V). Rule (table (1 ∷ []) (none ∷ []) vs)) (sym (set_again views number me.0 at))
          record { lists = lists; seat_of = seat_of; word = 1; holder = holder; words = refl; placed = inr away; each = each },
      ((λ no. absurd (omega arith)), λ _. refl),
    )

    pub tries : Allows Rule slots number me 0 (λ n. either (n == 0) 1 n) (tried fixed_of agree (step slots 0 0 1 none) me)
    tries s r sized at small = ⊎_elim
        (λ (p : AtHome fixed_of agree fixed r.lists r.word s.homes).
        let each = subst (λ (k : ℕ). Each r.lists r.seat_of k r.holder s.views) p.0 r.each in
        let words : s.words ≡ 0 ∷ [] = r.words ∙ ap (λ (k : ℕ). k ∷ []) p.0 in
        subst (λ (x : List ℕ × List (maybe.Option S)). Tries s.views x.0 x.1) (λ i. (sym words i, sym p.1.1 i)) (takes_it r.holder r.lists r.seat_of s.views p.1.0 each p.1.2 p.1.3 at))
        (λ (p : Away r.word r.holder s.homes s.views).
        let each = subst (λ (k : ℕ). Each r.lists r.seat_of k r.holder s.views) p.0 r.each in
        let words : s.words ≡ 1 ∷ [] = r.words ∙ ap (λ (k : ℕ). k ∷ []) p.0 in
        subst (λ (x : List ℕ × List (maybe.Option S)). Tries s.views x.0 x.1) (λ i. (sym words i, sym p.1 i)) (finds_none r.holder r.lists r.seat_of s.views each (refl, refl, p.2) at))
        r.placed

  -- ---- the value is given back

  abbrev Gives : ℕ → ℕ → Me S V → List V → List ℕ → List (maybe.Option S) → Type 0
  Gives slots number me = Goes number me (λ _. 0) (λ _. gave goes_on (step slots 0 0 0 none) me 0)

  module _ (slots number : ℕ) (me : Me S V) (m : MayGive goes_on fixed_of agree me) where
    returns_it : (holder : ℕ) (lists : User → L) (seat_of : User → ℕ) (views : List V) → Each lists seat_of 1 holder views → get_elem? views number ≡ some me.0
        → Gives slots number (me.0, (0, m.left) ∷ []) views (1 ∷ []) (none ∷ [])
    returns_it holder lists seat_of views each at =
        let v = me.0 in
        let mine = each number v at in
        let held = mine.holds m.found m.held in
        let own = mine.own m.user (is_own v.whose m.user m.whose) in
        let w : V = after goes_on m.user v m.found m.left in
        let now : User → L = lists_after goes_on m.user v m.found m.left in (
          w,
          gives,
          tt,
          record {
            lists = now;
            seat_of = seat_of;
            word = 0;
            holder = 0;
            words = refl;
            placed = inl (refl, (m.left, refl, some_same (fixed_of m.left) fixed (m.fixed ∙ own.0), m.agrees));
            each = each_set (FitsIn now seat_of 0 0) views number w
                (record { own = λ n is. ((mine.own n is).0, (mine.own n is).1, split_lists now n); holds = λ p has. absurd (never p has) })
                (λ j u other here. let theirs = each j u here in record {
                  own = λ n is. let t = theirs.own n is in
                      let apart : n ≡ m.user → ⊥ = λ same. other (t.1 ∙ (ap seat_of same ∙ sym own.1)) in
                      (t.0, t.1, t.2 ∙ (sym (held.2 n) ∙ sym (other_stays (lists_in v) m.user n (goes_on m.user m.found m.left (lists_in v m.user)) apart)));
                  holds = λ p has. absurd (other ((theirs.holds p has).1 ∙ sym held.1));
                });
          },
          λ user s t whose has same.
              let one : m.user ≡ user = only_one m.user user (ap (is_for m.user) (sym whose) ∙ is_own v.whose m.user m.whose) in
              let from : m.found ≡ s = some_same m.found s (sym m.held ∙ has) in
              let to : m.left ≡ t = ap (top m.left) same in
              λ i. (after goes_on (one i) v (from i) (to i), []),
        )

    pub gives_back : Allows Rule slots number me 0 (λ _. 0) (λ _. gave goes_on (step slots 0 0 0 none) me 0)
    gives_back t r sized at small = ⊎_elim
        (λ (p : AtHome fixed_of agree fixed r.lists r.word t.homes). let one = ((r.each number me.0 at).holds m.found m.held).0 in absurd (omega arith))
        (λ (p : Away r.word r.holder t.homes t.views).
        let each = subst (λ (k : ℕ). Each r.lists r.seat_of k r.holder t.views) p.0 r.each in
        let words : t.words ≡ 1 ∷ [] = r.words ∙ ap (λ (k : ℕ). k ∷ []) p.0 in
        let M : Type 0 = List (ℕ × S) in
        subst (λ (x : M × List ℕ × List (maybe.Option S)). Gives slots number (me.0, x.0) t.views x.1 x.2) (λ i. (sym m.carried i, sym words i, sym p.1 i)) (returns_it r.holder r.lists r.seat_of t.views each at))
        r.placed

  -- ---- seats parted and joined

  -- if no user's seat has the value, it is at home
  pub nobody_has : (t : State S V) (r : Rule t) (who : User → ℕ) → ((n : User) → (v : V) × (get_elem? t.views (who n) ≡ some v) × (is_for n v.whose ≡ true) × (v.held ≡ None)) → AtHome fixed_of agree fixed r.lists r.word t.homes
  nobody_has t r who all = ⊎_elim (λ x. x)
      (λ (p : Away r.word r.holder t.homes t.views).
      let v = p.2.0 in
      let user = p.2.3.0 in
      let theirs = all user in
      let here : r.holder ≡ who user = ((r.each r.holder v p.2.1).own user (is_own v.whose user p.2.3.1)).1 ∙ sym (((r.each (who user) theirs.0 theirs.1).own user theirs.2).1) in
      let same : v ≡ theirs.0 = some-injective v theirs.0 (sym p.2.1 ∙ ap (get_elem? t.views) here ∙ theirs.1) in
      absurd (never p.2.2.0 (sym theirs.3 ∙ (sym (ap (λ (u : V). u.held) same) ∙ p.2.2.1))))
      r.placed

  for_both : (n : User) → is_for n Both ≡ true
  for_both First = refl
  for_both Second = refl

  for_nobody : (n : User) → is_for n Nobody ≡ true → ⊥
  for_nobody First is = true≢false (sym is)
  for_nobody Second is = true≢false (sym is)

  pub is_of_both : (whose : Whose) → whose ≡ Both → (n : User) → is_for n whose ≡ true
  is_of_both whose both n = ap (is_for n) both ∙ for_both n

  -- a table begins with the value at home, and with lists of nothing
  pub begins : (value : S) (nothing : L) → fixed_of value ≡ fixed → agree (λ n. nothing) value → Rule (table (0 ∷ []) (some value ∷ []) (opened_view fixed nothing ∷ []))
  begins value nothing same agrees = record {
    lists = λ n. nothing;
    seat_of = λ n. 0;
    word = 0;
    holder = 0;
    words = refl;
    placed = inl (refl, (value, refl, same, agrees));
    each = each_set (FitsIn (λ n. nothing) (λ n. 0) 0 0) (opened_view fixed nothing ∷ []) 0 (opened_view fixed nothing)
        (record { own = λ n is. (refl, refl, split_lists (λ m. nothing) n); holds = λ p has. absurd (never p has) })
        (λ j u other here. absurd (other (at_end [] _ u j (λ x. some-ne-none u (sym x)) here)));
  }

  pub splits : (number : ℕ) (v : V) → v.whose ≡ Both → v.held ≡ None → Splits Rule number v (first_part v) (second_part v)
  splits number v both free t r at =
      let vs : List V = set t.views number (first_part v) in
      let seats : User → ℕ = both_lists number (length vs) in
      let mine = r.each number v at in
      let home = nobody_has t r (λ n. number) (λ n. (v, at, is_of_both v.whose both n, free)) in
      let known : (n : User) → lists_in v n ≡ r.lists n = λ n. (mine.own n (is_of_both v.whose both n)).2 in
      let fixed_is : v.fixed ≡ Some fixed = (mine.own First (is_of_both v.whose both First)).0 in
      let taken : (j : ℕ) (u : V) → j ≢ number → get_elem? t.views j ≡ some u → (n : User) → is_for n u.whose ≡ true → ⊥ =
      λ j u other here n is. other (((r.each j u here).own n is).1 ∙ sym (mine.own n (is_of_both v.whose both n)).1) in
      let Old : ℕ → V → Type 0 = λ j u. FitsSeat fixed r.lists seats r.word r.holder j u × (is_for Second u.whose ≡ true → ⊥) in
      let old : (j : ℕ) (u : V) → get_elem? vs j ≡ some u → Old j u =
      each_set Old t.views number (first_part v)
      (record { own = own_first (length vs) r.lists fixed_is known; holds = λ p has. absurd (never p has) }, λ is. true≢false (sym is))
      (λ j u other here. (record { own = λ n is. absurd (taken j u other here n is); holds = (r.each j u here).holds }, taken j u other here Second)) in
      record {
        lists = r.lists;
        seat_of = seats;
        word = r.word;
        holder = r.holder;
        words = r.words;
        placed = inl home;
        each = λ j u here. ⊎_elim (λ x. (old j u x).0)
            (λ (is : second_part v ≡ u). subst (FitsSeat fixed r.lists seats r.word r.holder j) is
            record {
              own = own_second (length vs) r.lists fixed_is known j (at_end vs (second_part v) u j (λ x. (old j u x).1 (sym (ap (λ (y : V). is_for Second y.whose) is))) here);
              holds = λ p has. absurd (never p has);
            })
            (at_snoc vs (second_part v) u j here);
      }
    where
      own_first : (end : ℕ) (lists : User → L) → v.fixed ≡ Some fixed → ((n : User) → lists_in v n ≡ lists n)
          → (n : User) → is_for n (One First) ≡ true → (v.fixed ≡ Some fixed) × (number ≡ both_lists number end n) × (lists_in (first_part v) n ≡ lists n)
      own_first end lists fixed_is known First is = (fixed_is, refl, known First)
      own_first end lists fixed_is known Second is = absurd (true≢false (sym is))

      own_second : (end : ℕ) (lists : User → L) → v.fixed ≡ Some fixed → ((n : User) → lists_in v n ≡ lists n) → (j : ℕ) → j ≡ end
          → (n : User) → is_for n (One Second) ≡ true → (v.fixed ≡ Some fixed) × (j ≡ both_lists number end n) × (lists_in (second_part v) n ≡ lists n)
      own_second end lists fixed_is known j last First is = absurd (true≢false (sym is))
      own_second end lists fixed_is known j last Second is = (fixed_is, last, known Second)

  module _ (nothing : L) (number other : ℕ) (v w : V) (first : v.whose ≡ One First) (second : w.whose ≡ One Second) (free : v.held ≡ None) (free' : w.held ≡ None) where
    pub joins : Joins Rule number v other w (joined_views v w) (spent nothing)
    joins t r at two there =
        let both : V = joined_views v w in
        let vs : List V = set t.views number both in
        let was : get_elem? t.views other ≡ some w = ⊎_elim (λ (x : (other ≡ number) × (both ≡ w)). absurd (two x.0)) (λ (x : (other ≢ number) × (get_elem? t.views other ≡ some w)). x.1) (at_set t.views number other both w there) in
        let mine = (r.each number v at).own First (is_own v.whose First first) in
        let theirs = (r.each other w was).own Second (is_own w.whose Second second) in
        let home = nobody_has t r (both_lists number other) (seats t.views at was) in
        let Now : ℕ → V → Type 0 = λ j u. j ≢ other → FitsSeat fixed r.lists (λ n. number) r.word r.holder j u in
        let now : (j : ℕ) (u : V) → get_elem? vs j ≡ some u → Now j u =
        each_set Now t.views number both
        (λ _. record { own = own_both r.lists mine.0 mine.2 theirs.2; holds = λ p has. absurd (never p has) })
        (λ j u apart here apart'. let f = r.each j u here in record { own = λ n is. absurd (no_more r.seat_of j apart apart' mine.1 theirs.1 n ((f.own n is).1)); holds = f.holds }) in
        record {
          lists = r.lists;
          seat_of = λ n. number;
          word = r.word;
          holder = r.holder;
          words = r.words;
          placed = inl home;
          each = each_set (FitsIn r.lists (λ n. number) r.word r.holder) vs other (spent nothing)
              (record { own = λ n is. absurd (for_nobody n is); holds = λ p has. absurd (never p has) })
              (λ j u apart here. now j u here apart);
        }
      where
        seats : (views : List V) → get_elem? views number ≡ some v → get_elem? views other ≡ some w
            → (n : User) → (u : V) × (get_elem? views (both_lists number other n) ≡ some u) × (is_for n u.whose ≡ true) × (u.held ≡ None)
        seats views at was First = (v, at, is_own v.whose First first, free)
        seats views at was Second = (w, was, is_own w.whose Second second, free')

        own_both : (lists : User → L) → v.fixed ≡ Some fixed → v.first ≡ lists First → w.second ≡ lists Second
            → (n : User) → is_for n Both ≡ true → (v.fixed ≡ Some fixed) × (number ≡ number) × (lists_in (joined_views v w) n ≡ lists n)
        own_both lists fixed_is a b First is = (fixed_is, refl, a)
        own_both lists fixed_is a b Second is = (fixed_is, refl, b)

        no_more : (seat_of : User → ℕ) (j : ℕ) → j ≢ number → j ≢ other → number ≡ seat_of First → other ≡ seat_of Second → (n : User) → j ≡ seat_of n → ⊥
        no_more seat_of j apart apart' a b First is = apart (is ∙ sym a)
        no_more seat_of j apart apart' a b Second is = apart' (is ∙ sym b)
