-- Frames of several links of a group, in one visit.
use Rattle.std.proofs.Common.{◌≡◌, ◌∙◌, ◌+◌, ◌==◌, Bool, true, false, true≢false, ap, refl, sym, subst, suc, ℕ, ◌<◌, List, [], ◌∷◌, ◌++◌, append-nil, append_assoc, length, map, set, Option, Some, arith, ⊎_elim}
use Rattle.std.specs.Prelude.{option_map, if◌then◌else◌}
use Rattle.std.specs.Borrow.{Bor}
use Rattle.std.specs.List.{All, slice_get}
use Rattle.std.proofs.lemmas.Bool.{eq-eqb, eqb-true}
use Rattle.std.proofs.lemmas.List.Elements.{All-head, All-tail}
use Rattle.std.proofs.lemmas.List.{length-map, length-set}
use Rattle.std.proofs.lemmas.Option.{same_Some, slice_get-map, slice_get_within}
use Rattle.es_base.specs.declared.event.Event.{Event}
use Rattle.es_base.specs.declared.place.LinkNo.{LinkNo}
use Rattle.es_base.specs.declared.place.Net.{Net}
use Rattle.es_base.specs.Addressing.{addressee_of}
use Rattle.es_base.specs.Settings.{Settings}
use Rattle.es_base.proofs.Elements.{map-set_same, slice_get-set_other, slice_get-set_same, there}
use Rattle.link_core.specs.Counted.{shown}
use Rattle.link_core.specs.Link.{Link as Core}
use Rattle.link_lock.specs.declared.user.User.{User}
use Rattle.link_lock.specs.declared.user.User.TheVariants.{First, Second}
use Rattle.link_lock.specs.Lists.{with_list}
use Rattle.link_lock.specs.Pass.{LockId, MayFind, MayLeave, Visited, with_list_of}
use Rattle.receiver.specs.declared.receiver.Reply.{Reply}
use Rattle.receiver.specs.declared.receiver.Reply.TheVariants as replies
use Rattle.network_calls.specs.declared.call.Call.{Call}
use Rattle.network_calls.specs.declared.counts.LinkCounts.{LinkCounts}
use Rattle.network_calls.specs.Calls.{user_of}
use Rattle.network_calls.specs.Counts.{AreCounts}
use Rattle.live_system.specs.Burst.{CountsOne, StandTogether, StandTogetherAt, of_link}
use Rattle.live_system.specs.Calls.{LiveLink, as_opened, events_of, goes_on}
use Rattle.live_system.specs.Groups.{AgreeEach, GroupUser, IsOfGroup, calls_at, go_on, known_links, pass_at}
use Rattle.live_system.specs.Pass.{KnownLink, known_link}
use Rattle.live_system.specs.Chunk.{Entries}
use Rattle.live_system.specs.Rows.{CallsEach, CountsEach, IsApart, KnowsFor, TookEach}
use Rattle.live_system.proofs.Groups.{agrees_as, go_on_at, known_same, known_there, none_more, same_or_other}
use Rattle.live_system.proofs.Receives.{TakesOne, calls_after, group_after, may_leave}
use Rattle.live_system.proofs.Turns.{Answer, Grows, goes_twice, one_grows, settings_stay}

-- one frame more
pub each_push : (index : ℕ → ℕ) (net : Net) (olds mids news : List LiveLink) (es : Entries) (rs : List Answer) (e : ℕ × (ℕ × Bor (List ℕ))) (r : Answer) → TookEach index net olds es rs mids → TakesOne net (index e.0) e.1.0 e.1.1.now r mids news
    → TookEach index net olds (es ++ e ∷ []) (rs ++ r ∷ []) news
each_push index net olds mids news [] [] e r took did = (news, subst (λ (links : List LiveLink). TakesOne net (index e.0) e.1.0 e.1.1.now r links news) took did, refl)
each_push index net olds mids news (d ∷ es) (s ∷ rs) e r took did = (took.0, took.1, each_push index net took.0 mids news es rs e r took.2 did)
each_push index net olds mids news [] (s ∷ rs) e r took did = absurd took
each_push index net olds mids news (d ∷ es) [] e r took did = absurd took

-- ---- the events of each link

pub record Grown (news : List LiveLink) (p : ℕ) (old : LiveLink) : Type 0 where
  pub new : LiveLink
  pub there_is : slice_get news p ≡ Some new
  pub added : List Event
  pub grown : Grows old added new

grows_one : (net : Net) (at now : ℕ) (octets : List ℕ) (r : Answer) (olds news : List LiveLink) (did : TakesOne net at now octets r olds news) (p : ℕ) (old : LiveLink) → slice_get olds p ≡ Some old → Grown news p old
grows_one net at now octets r olds news did p old was = ⊎_elim (λ (same : p ≡ at). here same) (λ (other : p ≡ at → ⊥). elsewhere other) (same_or_other p at)
  where
    elsewhere : (p ≡ at → ⊥) → Grown news p old
    elsewhere other = record {
      new = old;
      there_is = ap (λ (links : List LiveLink). slice_get links p) did.only ∙ (slice_get-set_other olds at p did.after other ∙ was);
      added = [];
      grown = sym (append-nil (events_of old));
    }

    here : p ≡ at → Grown news p old
    here same =
        let before : did.before ≡ old = same_Some did.before old (sym did.there ∙ (ap (slice_get olds) (sym same) ∙ was)) in
        let one = one_grows net did.before did.after (now, record { ref_ptr = (0, 0); now = octets }) r did.does in
        record {
          new = did.after;
          there_is = ap (slice_get news) same ∙ (ap (λ (links : List LiveLink). slice_get links at) did.only ∙ slice_get-set_same olds at did.after (slice_get_within olds at did.before did.there));
          added = one.0 ∷ [];
          grown = subst (λ (l : LiveLink). Grows l (one.0 ∷ []) did.after) before one.1;
        }

grows_each : (index : ℕ → ℕ) (net : Net) (olds news : List LiveLink) (es : Entries) (rs : List Answer) → TookEach index net olds es rs news → (p : ℕ) (old : LiveLink) → slice_get olds p ≡ Some old → Grown news p old
grows_each index net olds news [] [] took p old was = record {
  new = old;
  there_is = ap (λ (links : List LiveLink). slice_get links p) took ∙ was;
  added = [];
  grown = sym (append-nil (events_of old));
}
grows_each index net olds news (e ∷ es) (r ∷ rs) took p old was =
    let one = grows_one net (index e.0) e.1.0 e.1.1.now r olds took.0 took.1 p old was in
    let later = grows_each index net took.0 news es rs took.2 p one.new one.there_is in
    record {
      new = later.new;
      there_is = later.there_is;
      added = one.added ++ later.added;
      grown = later.grown ∙ (ap (λ (events : List Event). events ++ later.added) one.grown ∙ append_assoc (events_of old) one.added later.added);
    }
grows_each index net olds news [] (r ∷ rs) took p old was = absurd took
grows_each index net olds news (e ∷ es) [] took p old was = absurd took

-- what a user did, in two steps, on each link
twice_at : (user : User) (found mid left : List LiveLink) (list : List (List Call)) (p : ℕ) (old : LiveLink) → slice_get found p ≡ Some old → (one : Grown mid p old) → Grown left p one.new
    → calls_at (go_on user mid left (go_on user found mid list)) p ≡ calls_at (go_on user found left list) p
twice_at user found mid left list p old was one two =
    go_on_at user mid left (go_on user found mid list) p one.new two.new one.there_is two.there_is
    ∙ (ap (goes_on user one.new two.new) (go_on_at user found mid list p old one.new was one.there_is)
    ∙ (goes_twice user old one.new two.new one.added two.added (calls_at list p) one.grown two.grown
    ∙ sym (go_on_at user found left list p old two.new was two.there_is)))

-- ---- a visit

own_lists : (lists : User → List (List Call)) (user : User) (list : List (List Call)) → with_list lists user list user ≡ list
own_lists lists First list = refl
own_lists lists Second list = refl

twice_lists : (lists : User → List (List Call)) (user n : User) (x y z : List (List Call)) (p : ℕ) → calls_at y p ≡ calls_at z p → calls_at (with_list lists user z n) p ≡ calls_at (with_list (with_list lists user x) user y n) p
twice_lists lists First First x y z p same = sym same
twice_lists lists First Second x y z p same = refl
twice_lists lists Second First x y z p same = refl
twice_lists lists Second Second x y z p same = sym same

none_lists : (lists : User → List (List Call)) (user n : User) (list : List (List Call)) (p : ℕ) → calls_at list p ≡ calls_at (lists user) p → calls_at (with_list lists user list n) p ≡ calls_at (lists n) p
none_lists lists First First list p same = same
none_lists lists First Second list p same = refl
none_lists lists Second First list p same = refl
none_lists lists Second Second list p same = same

-- nothing came
leaves_none : (pass : GroupUser) (lists : User → List (List Call)) (found left : List LiveLink) → left ≡ found → MayFind (map as_opened) AgreeEach pass lists found → MayLeave (map as_opened) AgreeEach go_on pass lists found left
leaves_none pass lists found left same finds =
    subst (MayLeave (map as_opened) AgreeEach go_on pass lists found) (sym same) (record {
      fixed = refl;
      agrees = λ p link is.
          agrees_as (λ user. calls_at (lists user) p) (λ user. calls_at (with_list lists pass.user (go_on pass.user found found pass.list) user) p) link
          (λ n. none_lists lists pass.user n (go_on pass.user found found pass.list) p
          (go_on_at pass.user found found pass.list p link link is is ∙ (none_more pass.user link (calls_at pass.list p) ∙ ap (λ (list : List (List Call)). calls_at list p) (sym finds.own)))) (finds.agrees p link is);
    })

-- after the first frame of a row
module _ (index : ℕ → ℕ) (net : Net) (pass : GroupUser) (lists : User → List (List Call)) (found mid : List LiveLink) (at now : ℕ) (octets : List ℕ) (r : Answer) (finds : MayFind (map as_opened) AgreeEach pass lists found)
    (user : pass.user ≡ user_of net) (did : TakesOne net at now octets r found mid) where
  abbrev list_then : List (List Call)
  list_then = go_on pass.user found mid pass.list

  abbrev pass_then : GroupUser
  pass_then = with_list_of pass list_then

  abbrev lists_then : User → List (List Call)
  lists_then = with_list lists pass.user list_then

  one_left : MayLeave (map as_opened) AgreeEach go_on pass lists found mid
  one_left = may_leave net pass lists found mid at now octets r user finds did

  finds_then : MayFind (map as_opened) AgreeEach pass_then lists_then mid
  finds_then = record {
    fixed = ap (λ (links : List LiveLink). Some links) one_left.fixed ∙ finds.fixed;
    own = own_lists lists pass.user list_then;
    agrees = one_left.agrees;
  }

  list_at_last : (left : List LiveLink) (es : Entries) (rs : List Answer) → TookEach index net mid es rs left → (p : ℕ) → p < length found → calls_at (go_on pass.user mid left list_then) p ≡ calls_at (go_on pass.user found left pass.list) p
  list_at_last left es rs took p within =
      let old = there found p within in
      let one = grows_one net at now octets r found mid did p old.0 old.1 in
      twice_at pass.user found mid left pass.list p old.0 old.1 one (grows_each index net mid left es rs took p one.new one.there_is)

  leaves_then : (left : List LiveLink) (es : Entries) (rs : List Answer) → TookEach index net mid es rs left → MayLeave (map as_opened) AgreeEach go_on pass_then lists_then mid left → MayLeave (map as_opened) AgreeEach go_on pass lists found left
  leaves_then left es rs took later = record {
    fixed = later.fixed ∙ one_left.fixed;
    agrees = λ p link is.
        let many : length left ≡ length found =
        sym (length-map left as_opened) ∙ (ap (λ (links : List LiveLink). length links) (later.fixed ∙ one_left.fixed) ∙ length-map found as_opened) in
        let within : p < length found = omega (arith, slice_get_within left p link is, many) in
        agrees_as (λ n. calls_at (with_list lists_then pass.user (go_on pass.user mid left list_then) n) p) (λ n. calls_at (with_list lists pass.user (go_on pass.user found left pass.list) n) p) link
        (λ n. twice_lists lists pass.user n list_then (go_on pass.user mid left list_then) (go_on pass.user found left pass.list) p (list_at_last left es rs took p within)) (later.agrees p link is);
  }

-- what a visit may leave in which frames were taken one after another
pub leaves_each : (index : ℕ → ℕ) (net : Net) (pass : GroupUser) (lists : User → List (List Call)) (found left : List LiveLink) (es : Entries) (rs : List Answer) → MayFind (map as_opened) AgreeEach pass lists found → pass.user ≡ user_of net
    → TookEach index net found es rs left → MayLeave (map as_opened) AgreeEach go_on pass lists found left
leaves_each index net pass lists found left [] [] finds user took = leaves_none pass lists found left took finds
leaves_each index net pass lists found left (e ∷ es) (r ∷ rs) finds user took =
    leaves_then index net pass lists found took.0 (index e.0) e.1.0 e.1.1.now r finds user took.1 left es rs took.2
    (leaves_each index net (pass_then index net pass lists found took.0 (index e.0) e.1.0 e.1.1.now r finds user took.1) (lists_then index net pass lists found took.0 (index e.0) e.1.0 e.1.1.now r finds user took.1) took.0 left es rs
    (finds_then index net pass lists found took.0 (index e.0) e.1.0 e.1.1.now r finds user took.1) user took.2)
leaves_each index net pass lists found left [] (r ∷ rs) finds user took = absurd took
leaves_each index net pass lists found left (e ∷ es) [] finds user took = absurd took

-- ---- the calls

-- the number that is replied is that of the frame
abbrev pub AreNumbered : (ℕ → ℕ) → List LinkCounts → Entries → Type 0
AreNumbered index counts [] = Unit {0}
AreNumbered index counts (e ∷ es) = ((c : LinkCounts) → slice_get counts (index e.0) ≡ Some c → c.vl ≡ addressee_of e.1.1.now) × AreNumbered index counts es

still_numbered : (index : ℕ → ℕ) (counts : List LinkCounts) (at : ℕ) (old new : LinkCounts) (es : Entries) → slice_get counts at ≡ Some old → new.vl ≡ old.vl → AreNumbered index counts es → AreNumbered index (set counts at new) es
still_numbered index counts at old new [] was same are = tt
still_numbered index counts at old new (e ∷ es) was same are = (
  λ c is. ⊎_elim
      (λ (here : index e.0 ≡ at).
      let new_is : new ≡ c = same_Some new c (sym (slice_get-set_same counts at new (slice_get_within counts at old was)) ∙ (ap (slice_get (set counts at new)) (sym here) ∙ is)) in
      sym (ap (λ (x : LinkCounts). x.vl) new_is) ∙ (same ∙ are.0 old (ap (slice_get counts) here ∙ was)))
      (λ (other : index e.0 ≡ at → ⊥). are.0 c (sym (slice_get-set_other counts at (index e.0) new other) ∙ is)) (same_or_other (index e.0) at),
  still_numbered index counts at old new es was same are.1,
)

-- the pass after its calls: of each link of the group it knows them
pub calls_each : (index : ℕ → ℕ) (net : Net) (pass : GroupUser) (lists : User → List (List Call)) (found left : List LiveLink) (es : Entries) (rs : List Answer) (replied : List Reply) (olds news : List LinkCounts)
    → MayFind (map as_opened) AgreeEach pass lists found → IsOfGroup net pass olds → TookEach index net found es rs left → CountsEach index net olds es rs replied news → AreNumbered index olds es
    → (list : List (List Call)) → ((p : ℕ) → p < length found → calls_at list p ≡ calls_at (go_on pass.user found left pass.list) p)
    → CallsEach index (known_links net pass 0 olds) es replied (known_links net (with_list_of pass list) 0 news) × IsOfGroup net (with_list_of pass list) news
calls_each index net pass lists found left [] [] [] olds news finds group took counts numbered list same =
    let many : length found ≡ length olds =
    sym (length-map found as_opened) ∙ (ap (λ (links : List LiveLink). length links) (same_Some (map as_opened found) group.links (finds.fixed ∙ group.known)) ∙ sym group.as_many) in
    let here : (p : ℕ) → p < length olds → calls_at list p ≡ calls_at pass.list p =
    (λ p within.
    let low : p < length found = omega (arith, within, many) in
    let old = there found p low in
    same p low ∙ (ap (λ (links : List LiveLink). calls_at (go_on pass.user found links pass.list) p) took ∙ (go_on_at pass.user found found pass.list p old.0 old.0 old.1 old.1 ∙ none_more pass.user old.0 (calls_at pass.list p)))) in
    let links : known_links net (with_list_of pass list) 0 olds ≡ known_links net pass 0 olds =
    known_same net pass (with_list_of pass list) 0 olds (λ p low high. ap (λ (calls : List Call). with_list_of (pass_at pass p) calls) (here p (omega (arith, high)))) in
    let still : IsOfGroup net (with_list_of pass list) olds = record {
      user = group.user;
      links = group.links;
      known = group.known;
      as_many = group.as_many;
      some = group.some;
      counted = λ p c is. subst (λ (calls : List Call). AreCounts shown net calls c) (sym (here p (slice_get_within olds p c is))) (group.counted p c is);
    } in
    (ap (known_links net (with_list_of pass list) 0) counts ∙ links, subst (IsOfGroup net (with_list_of pass list)) (sym counts) still)
calls_each index net pass lists found left (e ∷ es) (r ∷ rs) (reply ∷ replied) olds news finds group took counts numbered list same =
    let mid = took.0 in
    let at = index e.0 in
    let now = e.1.0 in
    let octets = e.1.1.now in
    let old = counts.0 in
    let new = counts.1 in
    let was = counts.2 in
    let one = counts.3 in
    let next = pass_then index net pass lists found mid at now octets r finds group.user took.1 in
    let visit : Visited (map as_opened) AgreeEach go_on (TakesOne net at now octets r) pass next =
    record { lists = lists; found = found; left = mid; finds = finds; does = took.1; knows = refl } in
    let calls = calls_after net pass next olds group (TakesOne net at now octets r) visit at now octets r took.1 old new was one in
    let still = group_after net pass next olds group (TakesOne net at now octets r) visit at now octets r took.1 old new was one in
    let many : length mid ≡ length found = ap (λ (links : List LiveLink). length links) took.1.only ∙ length-set found at took.1.after in
    let later = calls_each index net next (lists_then index net pass lists found mid at now octets r finds group.user took.1) mid left es rs replied (set olds at new) news
    (finds_then index net pass lists found mid at now octets r finds group.user took.1) still took.2 counts.5 (still_numbered index olds at old new es was one.vl numbered.1) list
    (λ p within.
    let low : p < length found = omega (arith, within, many) in
    same p low ∙ sym (list_at_last index net pass lists found mid at now octets r finds group.user took.1 left es rs took.2 p low)) in
    let its : reply ≡ replies.Link e.0 (addressee_of octets) (shown calls.0) r.1 =
    counts.4 ∙ (ap (λ (vl : LinkNo). replies.Link e.0 vl r.0 r.1) (numbered.0 old was) ∙ ap (λ (place : ℕ). replies.Link e.0 (addressee_of octets) place r.1) calls.1) in
    ((known_links net next 0 (set olds at new), calls.0, r.1, its, calls.2, later.0), later.1)
calls_each index net pass lists found left [] [] (reply ∷ replied) olds news finds group took counts numbered list same = absurd counts
calls_each index net pass lists found left [] (r ∷ rs) replied olds news finds group took counts numbered list same = absurd took
calls_each index net pass lists found left (e ∷ es) [] replied olds news finds group took counts numbered list same = absurd took
calls_each index net pass lists found left (e ∷ es) (r ∷ rs) [] olds news finds group took counts numbered list same = absurd counts

-- ---- what is read

abbrev pub Entry : Type 0
Entry = ℕ × (ℕ × Bor (List ℕ))

-- what is read where there is no frame
abbrev pub no_entry : Entry
no_entry = (0, (0, record { ref_ptr = (0, 0); now = [] }))

abbrev pub settings_of_links : List LiveLink → List Settings
settings_of_links links = map (λ (link : LiveLink). link.core.settings) links

-- links with the same settings have one at each place
pub link_now : (olds news : List LiveLink) (p : ℕ) (old : LiveLink) → settings_of_links news ≡ settings_of_links olds → slice_get olds p ≡ Some old → (new : LiveLink) × (slice_get news p ≡ Some new) × (new.core.settings ≡ old.core.settings)
link_now olds news p old same was =
    let its : slice_get (settings_of_links news) p ≡ Some old.core.settings =
    ap (λ (ss : List Settings). slice_get ss p) same ∙ (slice_get-map (λ (link : LiveLink). link.core.settings) olds p ∙ ap (λ (o : Option LiveLink). option_map (λ (link : LiveLink). link.core.settings) o) was) in
    let within : p < length news = omega (arith, slice_get_within (settings_of_links news) p old.core.settings its, length-map news (λ (link : LiveLink). link.core.settings)) in
    let new = there news p within in
    (new.0, new.1, same_Some new.0.core.settings old.core.settings (sym (slice_get-map (λ (link : LiveLink). link.core.settings) news p ∙ ap (λ (o : Option LiveLink). option_map (λ (link : LiveLink). link.core.settings) o) new.1) ∙ its))

pub settings_after : (net : Net) (at now : ℕ) (octets : List ℕ) (r : Answer) (olds news : List LiveLink) → TakesOne net at now octets r olds news → settings_of_links news ≡ settings_of_links olds
settings_after net at now octets r olds news did =
    ap settings_of_links did.only
    ∙ map-set_same (λ (link : LiveLink). link.core.settings) olds at did.before did.after did.there (settings_stay net did.before did.after (now, record { ref_ptr = (0, 0); now = octets }) r did.does)

-- one answer more is counted, and replied
pub told_push : (index : ℕ → ℕ) (net : Net) (olds mids : List LinkCounts) (es : Entries) (answers : List Answer) (rs : List Reply) (e : Entry) (a : Answer) (old new : LinkCounts) → CountsEach index net olds es answers rs mids → slice_get mids (index e.0) ≡ Some old
    → CountsOne net old a.1 new → CountsEach index net olds (es ++ e ∷ []) (answers ++ a ∷ []) (rs ++ replies.Link e.0 old.vl a.0 a.1 ∷ []) (set mids (index e.0) new)
told_push index net olds mids [] [] [] e a old new told was one =
    (old, new, ap (λ (cs : List LinkCounts). slice_get cs (index e.0)) (sym told) ∙ was, one, refl, ap (λ (cs : List LinkCounts). set cs (index e.0) new) told)
told_push index net olds mids (d ∷ es) (b ∷ answers) (r ∷ rs) e a old new told was one =
    (told.0, told.1, told.2, told.3, told.4, told_push index net (set olds (index d.0) told.1) mids es answers rs e a old new told.5 was one)
told_push index net olds mids [] [] (r ∷ rs) e a old new told was one = absurd told
told_push index net olds mids [] (b ∷ answers) rs e a old new told was one = absurd told
told_push index net olds mids (d ∷ es) [] rs e a old new told was one = absurd told
told_push index net olds mids (d ∷ es) (b ∷ answers) [] e a old new told was one = absurd told

-- ---- the events of one link

-- those of the link with this index, at its place in the group, stand together
pub together_at : (index : ℕ → ℕ) (net : Net) (at : ℕ) (olds news : List LiveLink) (es : Entries) (answers : List Answer) (rs : List Reply) (counts after : List LinkCounts) (old : LiveLink) → slice_get olds (index at) ≡ Some old → IsApart index at es
    → TookEach index net olds es answers news → CountsEach index net counts es answers rs after → StandTogetherAt at (length old.core.past) rs
together_at index net at olds news [] [] [] counts after old was apart took told = tt
together_at index net at olds news (e ∷ es) (a ∷ answers) (r ∷ rs) counts after old was apart took told =
    let rest = All-tail (λ (d : Entry). index d.0 ≡ index at → d.0 ≡ at) e es apart in
    subst (λ (x : Reply). StandTogetherAt at (length old.core.past) (x ∷ rs)) (sym told.4)
    (go (λ mid is. together_at index net at took.0 news es answers rs (set counts (index e.0) told.1) after mid is rest took.2 told.5) (e.0 == at) refl)
  where
    go : ((mid : LiveLink) → slice_get took.0 (index at) ≡ Some mid → StandTogetherAt at (length mid.core.past) rs) → (same : Bool) → (e.0 == at) ≡ same → StandTogether (length old.core.past) (if same then replies.Link e.0 told.0.vl a.0 a.1 ∷ of_link at rs else of_link at rs)
    go later true is =
        let here : e.0 ≡ at = eqb-true e.0 at is in
        let before : took.1.before ≡ old = same_Some took.1.before old (sym took.1.there ∙ (ap (λ (n : ℕ). slice_get olds (index n)) here ∙ was)) in
        let now_there : slice_get took.0 (index at) ≡ Some took.1.after =
        ap (λ (links : List LiveLink). slice_get links (index at)) took.1.only
        ∙ (ap (λ (n : ℕ). slice_get (set olds (index n) took.1.after) (index at)) here ∙ slice_get-set_same olds (index at) took.1.after (slice_get_within olds (index at) old was)) in
        let one_more : length took.1.after.core.past ≡ suc (length old.core.past) = ap (λ (core : Core). length core.past) took.1.does.0.core ∙ ap (λ (l : LiveLink). suc (length l.core.past)) before in
        (took.1.does.0.placed ∙ ap (λ (l : LiveLink). shown (length l.core.past)) before, subst (λ (n : ℕ). StandTogetherAt at n rs) one_more (later took.1.after now_there))
    go later false is =
        let other : index at ≡ index e.0 → ⊥ =
        (λ same. let here : e.0 ≡ at = All-head (λ (d : Entry). index d.0 ≡ index at → d.0 ≡ at) e es apart (sym same) in
        let no : true ≡ false = sym (eq-eqb e.0 at here) ∙ is in true≢false no) in
        later old (ap (λ (links : List LiveLink). slice_get links (index at)) took.1.only ∙ (slice_get-set_other olds (index e.0) (index at) took.1.after other ∙ was))
together_at index net at olds news [] [] (r ∷ rs) counts after old was apart took told = absurd told
together_at index net at olds news [] (a ∷ answers) rs counts after old was apart took told = absurd took
together_at index net at olds news (e ∷ es) [] rs counts after old was apart took told = absurd took
together_at index net at olds news (e ∷ es) (a ∷ answers) [] counts after old was apart took told = absurd told

-- ---- what a pass knows of the frames' links

pub numbered_each : (index : ℕ → ℕ) (many : ℕ) (net : Net) (pass : GroupUser) (counts : List LinkCounts) (lock : LockId) (es : Entries) → All (KnowsFor index many (known_links net pass 0 counts) lock) es → AreNumbered index counts es
numbered_each index many net pass counts lock [] all = tt
numbered_each index many net pass counts lock (e ∷ es) all =
    let first = All-head (KnowsFor index many (known_links net pass 0 counts) lock) e es all in (
      λ c is.
          let known : Some first.pass ≡ Some (known_link net (pass_at pass (0 + index e.0)) c) = sym first.there ∙ known_there net pass 0 counts (index e.0) c is in
          let same : first.pass ≡ known_link net (pass_at pass (0 + index e.0)) c = same_Some first.pass (known_link net (pass_at pass (0 + index e.0)) c) known in
          sym (ap (λ (k : KnownLink). k.counts.vl) same) ∙ (first.vl ∙ sym first.addressed),
      numbered_each index many net pass counts lock es (All-tail (KnowsFor index many (known_links net pass 0 counts) lock) e es all),
    )
