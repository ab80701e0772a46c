-- The end of a lock: what its closed table holds.
use Rattle.std.proofs.Common.{◌≡◌, ℕ, Option, Some, None, List, sym, ap, ◌∙◌, subst}
use mathlib.Core.Option.{some, some-injective}
use mathlib.Core.Option as maybe
use lib.ListN.{get_elem?}
use Rattle.atomic_table.specs.Table.{Seen, Final}
use Rattle.link_lock.specs.declared.user.User.{User}
use Rattle.link_lock.specs.declared.user.User.TheVariants.{First, Second}
use Rattle.link_lock.specs.declared.rule.Whose.TheVariants.{Both}
use Rattle.link_lock.specs.declared.rule.View.{View}
use Rattle.link_lock.specs.Lists.{both_lists}
use Rattle.link_lock.specs.Pass.{KnownPass, LockId}
use Rattle.link_lock.specs.Rule.{Locked, joined_views, known_of, lists_in}
use Rattle.link_lock.proofs.Steps.{nobody_has, is_of_both}

module _ {S L : Type 0} (fixed_of : S → S) (agree : (User → L) → S → Type 0) (goes_on : User → S → S → L → L) (fixed : S) where
  module _ (number : ℕ) (words : List ℕ) (slots : List S) (value : S) (at_slot : get_elem? slots 0 ≡ some value) where
    abbrev Closed : View S L → Type 0
    Closed v = Final (λ t. Seen (Locked fixed_of agree fixed) number v t) words slots

    -- the value, with which the lists of a seat of both users agree
    whole : (v : View S L) → v.whose ≡ Both → v.held ≡ None → Closed v → (Some (fixed_of value) ≡ v.fixed) × agree (lists_in v) value
    whole v both free final =
        let t = final.0 in
        let r = final.1.0 in
        let mine = r.each number v final.1.1 in
        let own : (n : User) → _ = λ n. mine.own n (is_of_both fixed_of agree goes_on fixed v.whose both n) in
        let home = nobody_has fixed_of agree goes_on fixed t r (λ n. number) (λ n. (v, final.1.1, is_of_both fixed_of agree goes_on fixed v.whose both n, free)) in
        let same : home.1.0 ≡ value = some-injective home.1.0 value (sym (final.4 0 home.1.0 (ap (λ (xs : List (maybe.Option S)). get_elem? xs 0) home.1.1)) ∙ at_slot) in
        let known : r.lists ≡ lists_in v = λ i n. sym (own n).2 i in (
          ap (λ (s : S). let o : Option S = Some (fixed_of s) in o) (sym same) ∙ (ap (λ (s : S). let o : Option S = Some s in o) home.1.2 ∙ sym (own First).0),
          subst (λ (z : (User → L) × S). agree z.0 z.1) (λ i. (known i, same i)) home.1.3,
        )

    -- the same, by what the two passes know
    pub settled : (v a b : View S L) → v ≡ joined_views a b → Closed v → (lock lock' : LockId) (user user' : User) (first second : KnownPass S L) → known_of lock user a ≡ first → known_of lock' user' b ≡ second
        → first.user ≡ First → second.user ≡ Second → (Some (fixed_of value) ≡ first.fixed) × agree (both_lists first.list second.list) value
    settled v a b both final lock lock' user user' first second was was' is is' =
        let known = whole v (ap (λ (u : View S L). u.whose) both) (ap (λ (u : View S L). u.held) both) final in
        let list : a.first ≡ first.list = ap (lists_in a) (sym (ap (λ (k : KnownPass S L). k.user) was ∙ is)) ∙ ap (λ (k : KnownPass S L). k.list) was in
        let list' : b.second ≡ second.list = ap (lists_in b) (sym (ap (λ (k : KnownPass S L). k.user) was' ∙ is')) ∙ ap (λ (k : KnownPass S L). k.list) was' in
        let lists : lists_in v ≡ both_lists first.list second.list = ap lists_in both ∙ λ i. both_lists (list i) (list' i) in (
          known.0 ∙ (ap (λ (u : View S L). u.fixed) both ∙ ap (λ (k : KnownPass S L). k.fixed) was),
          subst (λ (l : User → L). agree l value) lists known.1,
        )
