-- How many calls have a verdict of a kind.
use Rattle.std.proofs.Common.{◌≡◌, ◌∙◌, ap, refl, sym, ℕ, ◌+◌, ◌≤◌, ◌==◌, Bool, true, false, ◌&&◌, List, [], ◌∷◌, ◌++◌, length, length-append, reverse, if◌then◌else◌, arith}
use Rattle.std.proofs.lemmas.List.{reverse-append}
use Rattle.es_base.specs.declared.place.Net.{Net}
use Rattle.es_base.specs.declared.event.Event.{Event}
use Rattle.es_base.specs.Networks.{is_same_net}
use Rattle.es_base.specs.Tally.{AddsOne, count_in, count_of, is_counted, one_more}
use Rattle.es_base.specs.Verdict.{kind_of, verdict_kinds}
use Rattle.link_lock.specs.declared.user.User.{User}
use Rattle.network_calls.specs.declared.call.Call.{Call}
use Rattle.network_calls.specs.declared.counts.LinkCounts.{LinkCounts}
use Rattle.network_calls.specs.Calls.{call_of, calls_from, count_calls, net_of, user_of}
use Rattle.network_calls.specs.Counts.{AreCounts}
use Rattle.network_calls.proofs.Networks.{back, same_net}

count_if : (b : Bool) (n : ℕ) → (if b then n + 1 else n) ≤ n + 1
count_if true n = omega arith
count_if false n = omega arith

-- no count is greater than the number of calls
pub count_at_most : (kind : ℕ) (calls : List Call) → count_calls kind calls ≤ length calls
count_at_most kind [] = omega arith
count_at_most kind (c ∷ cs) = let one = count_if (kind_of c.verdict == kind) (count_calls kind cs) in let few = count_at_most kind cs in omega (arith, one, few)

step_if : (b d : Bool) (n : ℕ) → (if b then (if d then n + 1 else n) + 1 else (if d then n + 1 else n)) ≡ (if d then (if b then n + 1 else n) + 1 else (if b then n + 1 else n))
step_if true true n = refl
step_if true false n = refl
step_if false true n = refl
step_if false false n = refl

-- one call more
pub count_push : (kind : ℕ) (calls : List Call) (c : Call) → count_calls kind (calls ++ c ∷ []) ≡ (if kind_of c.verdict == kind then count_calls kind calls + 1 else count_calls kind calls)
count_push kind [] c = refl
count_push kind (d ∷ calls) c =
    ap (λ (n : ℕ). if kind_of d.verdict == kind then n + 1 else n) (count_push kind calls c) ∙ step_if (kind_of d.verdict == kind) (kind_of c.verdict == kind) (count_calls kind calls)

-- an event before all others
count_first : (past : List Event) (e : Event) (net : Net) (kind : ℕ) → count_of (past ++ e ∷ []) net kind ≡ (if is_counted net kind e then count_of past net kind + 1 else count_of past net kind)
count_first [] e net kind = refl
count_first (d ∷ past) e net kind =
    ap (λ (n : ℕ). if is_counted net kind d then n + 1 else n) (count_first past e net kind) ∙ step_if (is_counted net kind d) (is_counted net kind e) (count_of past net kind)

call_if : (same : Bool) (kind : ℕ) (c : Call) (cs : List Call) (n : ℕ) → n ≡ count_calls kind cs
    → (if same && kind_of c.verdict == kind then n + 1 else n) ≡ count_calls kind (if same then c ∷ cs else cs)
call_if true kind c cs n is = rw is refl
call_if false kind c cs n is = is

-- events are counted as their calls are
pub counted : (place : ℕ) (net : Net) (kind : ℕ) (es : List Event) → count_of (reverse es) net kind ≡ count_calls kind (calls_from place net es)
counted place net kind [] = refl
counted place net kind (e ∷ es) =
    ap (λ (past : List Event). count_of past net kind) (reverse-append (e ∷ []) es)
    ∙ (count_first (reverse es) e net kind
    ∙ call_if (is_same_net e.net net) kind (call_of place e) (calls_from (place + 1) net es) (count_of (reverse es) net kind) (counted (place + 1) net kind es))

-- so the events of a past are, whose calls these are of both users
pub counted_of_both : (calls : User → List Call) (past events : List Event) (net : Net) (kind : ℕ) → reverse events ≡ past → ((user : User) → calls user ≡ calls_from 0 (net_of user) events)
    → count_of past net kind ≡ count_calls kind (calls (user_of net))
counted_of_both calls past events net kind turned are =
    ap (λ (es : List Event). count_of es net kind) (sym turned)
    ∙ (counted 0 net kind events ∙ ap (count_calls kind) (sym (are (user_of net) ∙ ap (λ (n : Net). calls_from 0 n events) (back net))))

-- ---- one call more, counted

shows_step : (shows : ℕ → ℕ) (adds : Bool) (n : ℕ) → shows (n + 1) ≡ one_more (shows n) → (if adds then one_more (shows n) else shows n) ≡ shows (if adds then n + 1 else n)
shows_step shows true n step = sym step
shows_step shows false n step = refl

-- as long as each count shows that it is one more
pub counts_one_more : (shows : ℕ → ℕ) (net : Net) (calls : List Call) (c : Call) (old new : LinkCounts) → ((n : ℕ) → n ≤ length calls → shows (n + 1) ≡ one_more (shows n)) → AreCounts shows net calls old
    → new.number ≡ one_more old.number → AddsOne verdict_kinds old.tally new.tally net (kind_of c.verdict) → AreCounts shows net (calls ++ c ∷ []) new
counts_one_more shows net calls c old new steps are one adds = record {
  all = one ∙ (ap one_more are.all ∙ (sym (steps (length calls) (omega arith)) ∙ ap shows (sym (length-append calls (c ∷ [])))));
  kinds = λ kind is.
      let is_one : Bool = kind_of c.verdict == kind in
      let mine : count_in new.tally net kind ≡ (if is_one then one_more (count_in old.tally net kind) else count_in old.tally net kind) =
      adds net kind is ∙ ap (λ (b : Bool). if b && kind_of c.verdict == kind then one_more (count_in old.tally net kind) else count_in old.tally net kind) (same_net net) in
      mine
      ∙ (ap (λ (n : ℕ). if is_one then one_more n else n) (are.kinds kind is)
      ∙ (shows_step shows is_one (count_calls kind calls) (steps (count_calls kind calls) (count_at_most kind calls)) ∙ ap shows (sym (count_push kind calls c))));
}
