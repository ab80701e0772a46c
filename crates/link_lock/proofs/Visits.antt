-- A visit, from the taking of the value to its return.
use Rattle.std.proofs.Common.{◌≡◌, Option, Some, [], ◌∷◌, refl, sym, ap, ◌∙◌, subst}
use Rattle.atomic_table.specs.Table.{Me, Step}
use Rattle.link_lock.specs.declared.user.User.{User}
use Rattle.link_lock.specs.declared.user.User.TheVariants.{First, Second}
use Rattle.link_lock.specs.declared.rule.View.{View}
use Rattle.link_lock.specs.Lists.{with_list}
use Rattle.link_lock.specs.Pass.{KnownPass, LockId, MayFind, MayLeave, Visited, with_list_of}
use Rattle.link_lock.specs.Rule.{IsReady, known_of, lists_in, holding, lists_after, after, Took, Worked, gave, MayGive}
use Rattle.link_lock.proofs.Steps.{split_lists, top}

own_list : {L : Type 0} (lists : User → L) (user : User) (list : L) → with_list lists user list user ≡ list
own_list lists First list = refl
own_list lists Second list = refl

module _ {S L : Type 0} (fixed_of : S → S) (agree : (User → L) → S → Type 0) (goes_on : User → S → S → L → L) (did : S → S → Type 0) where
  module _ (lock : LockId) (user : User) (m m1 m2 : Me S (View S L)) (ready : IsReady user m) (took : Took fixed_of agree m m1) (worked : Worked did m1 m2) (old : KnownPass S L) (was : known_of lock user m.0 ≡ old) where
    abbrev pass : KnownPass S L
    pass = known_of lock user m.0

    abbrev v : View S L
    v = holding m.0 took.lists took.value

    own_is : took.lists user ≡ pass.list
    own_is = took.own user ready.0

    finds : MayFind fixed_of agree old took.lists took.value
    finds = subst (λ (k : KnownPass S L). MayFind fixed_of agree k took.lists took.value) was record { fixed = took.fixed; own = own_is; agrees = took.agrees }

    same : worked.found ≡ took.value
    same = sym (ap (top took.value) (sym (ap (λ (x : Me S (View S L)). x.1) took.has) ∙ worked.carried))

    does : did took.value worked.left
    does = subst (λ (s : S). did s worked.left) same worked.does

    now : m2 ≡ (v, (0, worked.left) ∷ [])
    now = worked.now ∙ ap (λ (x : Me S (View S L)). let after : Me S (View S L) = (x.0, (0, worked.left) ∷ []) in after) took.has

    own : lists_in v user ≡ pass.list
    own = split_lists took.lists user ∙ own_is

    pub may_give : ((lists : User → L) (found left : S) → MayFind fixed_of agree old lists found → did found left → MayLeave fixed_of agree goes_on old lists found left) → MayGive goes_on fixed_of agree m2
    may_give keeps =
        let leaves = subst (λ (k : KnownPass S L). MayLeave fixed_of agree goes_on k took.lists took.value worked.left) (sym was) (keeps took.lists took.value worked.left finds does) in
        subst (λ (x : Me S (View S L)). MayGive goes_on fixed_of agree x) (sym now)
        record {
          user = user;
          found = took.value;
          left = worked.left;
          whose = ready.0;
          held = refl;
          carried = refl;
          fixed = ap (λ (s : S). let o : Option S = Some s in o) leaves.fixed ∙ took.fixed;
          agrees = subst (λ (x : (User → L) × L). agree (with_list x.0 user (goes_on user took.value worked.left x.1)) worked.left) (λ i. ((λ n. sym (split_lists took.lists n) i), sym own i)) leaves.agrees;
        }

    module _ (st : Step S) (m3 : Me S (View S L)) (gives : gave goes_on st m2 0 m3) where
      left_as : m3 ≡ (after goes_on user v took.value worked.left, [])
      left_as = subst (λ (x : Me S (View S L)). gave goes_on st x 0 m3) now gives user took.value worked.left ready.0 refl refl

      pub ready_after : IsReady user m3
      ready_after = subst (λ (x : Me S (View S L)). IsReady user x) (sym left_as) (ready.0, refl, refl)

      pub visited : (lock' : LockId) → lock' ≡ lock → Visited fixed_of agree goes_on did old (known_of lock' user m3.0)
      visited lock' same_lock = record {
        lists = took.lists;
        found = took.value;
        left = worked.left;
        finds = finds;
        does = does;
        knows = subst (λ (k : KnownPass S L). known_of lock' user m3.0 ≡ with_list_of k (goes_on k.user took.value worked.left k.list)) was ((λ i. known_of (same_lock i) user (left_as i).0)
            ∙ ap (λ (list : L). with_list_of pass list)
            (split_lists (lists_after goes_on user v took.value worked.left) user ∙ own_list (lists_in v) user (goes_on user took.value worked.left (lists_in v user)) ∙ ap (goes_on user took.value worked.left) own));
      }
