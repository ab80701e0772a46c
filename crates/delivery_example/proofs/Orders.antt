-- In which order a link took a frame of network A and two of network B.
use Rattle.std.proofs.Common.{◌≡◌, ◌∙◌, ap, sym, refl, ℕ, ◌+◌, List, [], ◌∷◌, if◌then◌else◌, inl, inr}
use Rattle.std.specs.Prelude.{◌⊎◌}
use Rattle.es_base.specs.declared.event.Event.{Event}
use Rattle.es_base.specs.declared.place.Net.{Net}
use Rattle.es_base.specs.declared.place.Net.TheVariants.{A, B}
use Rattle.es_base.specs.Networks.{is_same_net}
use Rattle.network_calls.specs.declared.call.Call.{Call}
use Rattle.network_calls.specs.Calls.{call_of, calls_from}

-- the calls of both networks are those of these events, the first of which has this place
abbrev Merged : ℕ → List Event → List Call → List Call → Type 0
Merged place [] ones others = (ones ≡ []) × (others ≡ [])
Merged place (e ∷ es) ones others =
    ((e.net ≡ A) × (rest : List Call) × (ones ≡ call_of place e ∷ rest) × Merged (place + 1) es rest others)
    ⊎ ((e.net ≡ B) × (rest : List Call) × (others ≡ call_of place e ∷ rest) × Merged (place + 1) es ones rest)

abbrev calls_if : ℕ → Net → Event → List Event → Net → List Call
calls_if place net e es own = if is_same_net own net then call_of place e ∷ calls_from (place + 1) net es else calls_from (place + 1) net es

merged_at : (place : ℕ) (e : Event) (es : List Event) (ones others : List Call) (net : Net) → e.net ≡ net → calls_from place A (e ∷ es) ≡ ones → calls_from place B (e ∷ es) ≡ others
    → ((ones others : List Call) → calls_from (place + 1) A es ≡ ones → calls_from (place + 1) B es ≡ others → Merged (place + 1) es ones others) → Merged place (e ∷ es) ones others
merged_at place e es ones others A is of_a of_b later =
    let rest = calls_from (place + 1) A es in
    inl (is, rest, sym of_a ∙ ap (calls_if place A e es) is, later rest others refl (sym (ap (calls_if place B e es) is) ∙ of_b))
merged_at place e es ones others B is of_a of_b later =
    let rest = calls_from (place + 1) B es in
    inr (is, rest, sym of_b ∙ ap (calls_if place B e es) is, later ones rest (sym (ap (calls_if place A e es) is) ∙ of_a) refl)

merged : (place : ℕ) (es : List Event) (ones others : List Call) → calls_from place A es ≡ ones → calls_from place B es ≡ others → Merged place es ones others
merged place [] ones others of_a of_b = (sym of_a, sym of_b)
merged place (e ∷ es) ones others of_a of_b = merged_at place e es ones others e.net refl of_a of_b (λ ones others of_a of_b. merged (place + 1) es ones others of_a of_b)

-- ---- how they may stand

-- an event of this network, whose call is this
pub record IsEventOf (net : Net) (place : ℕ) (c : Call) (e : Event) : Type 0 where
  pub of_net : e.net ≡ net
  pub of_call : c ≡ call_of place e

record One (net : Net) (place : ℕ) (c : Call) (es : List Event) : Type 0 where
  e : Event
  are : es ≡ e ∷ []
  is : IsEventOf net place c e

record Two (net other : Net) (place : ℕ) (c d : Call) (es : List Event) : Type 0 where
  e : Event
  f : Event
  are : es ≡ e ∷ f ∷ []
  is : IsEventOf net place c e
  after : IsEventOf other (place + 1) d f

pub record Three (net other last : Net) (b c d : Call) (es : List Event) : Type 0 where
  pub e : Event
  pub f : Event
  pub g : Event
  pub are : es ≡ e ∷ f ∷ g ∷ []
  pub is : IsEventOf net 0 b e
  pub after : IsEventOf other 1 c f
  pub last_is : IsEventOf last 2 d g

none : (place : ℕ) (es : List Event) (ones others : List Call) → ones ≡ [] → others ≡ [] → Merged place es ones others → es ≡ []
none place [] ones others no_a no_b are = refl
none place (e ∷ es) ones others no_a no_b (inl (is, rest, same, more)) = cc
none place (e ∷ es) ones others no_a no_b (inr (is, rest, same, more)) = cc

one_of_a : (place : ℕ) (es : List Event) (ones others : List Call) (c : Call) → ones ≡ c ∷ [] → others ≡ [] → Merged place es ones others → One A place c es
one_of_a place [] ones others c of_a no_b are = let no = are.0 in cc
one_of_a place (e ∷ es) ones others c of_a no_b (inl (is, rest, same, more)) =
    let left : rest ≡ [] = cc in
    record { e = e; are = ap (λ (more : List Event). e ∷ more) (none (place + 1) es rest others left no_b more); is = record { of_net = is; of_call = cc } }
one_of_a place (e ∷ es) ones others c of_a no_b (inr (is, rest, same, more)) = cc

one_of_b : (place : ℕ) (es : List Event) (ones others : List Call) (c : Call) → ones ≡ [] → others ≡ c ∷ [] → Merged place es ones others → One B place c es
one_of_b place [] ones others c no_a of_b are = let no = are.1 in cc
one_of_b place (e ∷ es) ones others c no_a of_b (inl (is, rest, same, more)) = cc
one_of_b place (e ∷ es) ones others c no_a of_b (inr (is, rest, same, more)) =
    let left : rest ≡ [] = cc in
    record { e = e; are = ap (λ (more : List Event). e ∷ more) (none (place + 1) es ones rest no_a left more); is = record { of_net = is; of_call = cc } }

two_of_b : (place : ℕ) (es : List Event) (ones others : List Call) (c d : Call) → ones ≡ [] → others ≡ c ∷ d ∷ [] → Merged place es ones others → Two B B place c d es
two_of_b place [] ones others c d no_a of_b are = let no = are.1 in cc
two_of_b place (e ∷ es) ones others c d no_a of_b (inl (is, rest, same, more)) = cc
two_of_b place (e ∷ es) ones others c d no_a of_b (inr (is, rest, same, more)) =
    let left : rest ≡ d ∷ [] = cc in
    let next = one_of_b (place + 1) es ones rest d no_a left more in
    record { e = e; f = next.e; are = ap (λ (more : List Event). e ∷ more) next.are; is = record { of_net = is; of_call = cc }; after = next.is }

one_of_each : (place : ℕ) (es : List Event) (ones others : List Call) (c d : Call) → ones ≡ c ∷ [] → others ≡ d ∷ [] → Merged place es ones others → Two A B place c d es ⊎ Two B A place d c es
one_of_each place [] ones others c d of_a of_b are = let no = are.1 in cc
one_of_each place (e ∷ es) ones others c d of_a of_b (inl (is, rest, same, more)) =
    let left : rest ≡ [] = cc in
    let next = one_of_b (place + 1) es rest others d left of_b more in
    inl (record { e = e; f = next.e; are = ap (λ (more : List Event). e ∷ more) next.are; is = record { of_net = is; of_call = cc }; after = next.is })
one_of_each place (e ∷ es) ones others c d of_a of_b (inr (is, rest, same, more)) =
    let left : rest ≡ [] = cc in
    let next = one_of_a (place + 1) es ones rest c of_a left more in
    inr (record { e = e; f = next.e; are = ap (λ (more : List Event). e ∷ more) next.are; is = record { of_net = is; of_call = cc }; after = next.is })

three_of_both : (es : List Event) (ones others : List Call) (a b c : Call) → ones ≡ a ∷ [] → others ≡ b ∷ c ∷ [] → Merged 0 es ones others → Three A B B a b c es ⊎ (Three B A B b a c es ⊎ Three B B A b c a es)
three_of_both [] ones others a b c of_a of_b are = let no = are.1 in cc
three_of_both (e ∷ es) ones others a b c of_a of_b (inl (is, rest, same, more)) =
    let left : rest ≡ [] = cc in
    let next = two_of_b 1 es rest others b c left of_b more in
    inl (record { e = e; f = next.e; g = next.f; are = ap (λ (more : List Event). e ∷ more) next.are; is = record { of_net = is; of_call = cc }; after = next.is; last_is = next.after })
three_of_both (e ∷ es) ones others a b c of_a of_b (inr (is, rest, same, more)) =
    let left : rest ≡ c ∷ [] = cc in
    let first : IsEventOf B 0 b e = record { of_net = is; of_call = cc } in
    three_after e es a b c first (one_of_each 1 es ones rest a c of_a left more)
  where
    three_after : (e : Event) (es : List Event) (a b c : Call) → IsEventOf B 0 b e → Two A B 1 a c es ⊎ Two B A 1 c a es → Three A B B a b c (e ∷ es) ⊎ (Three B A B b a c (e ∷ es) ⊎ Three B B A b c a (e ∷ es))
    three_after e es a b c first (inl next) = inr (inl (record { e = e; f = next.e; g = next.f; are = ap (λ (more : List Event). e ∷ more) next.are; is = first; after = next.is; last_is = next.after }))
    three_after e es a b c first (inr next) = inr (inr (record { e = e; f = next.e; g = next.f; are = ap (λ (more : List Event). e ∷ more) next.are; is = first; after = next.is; last_is = next.after }))

-- the events of one call of A and two of B stand in one of three orders
pub orders : (es : List Event) (a b c : Call) → calls_from 0 A es ≡ a ∷ [] → calls_from 0 B es ≡ b ∷ c ∷ [] → Three A B B a b c es ⊎ (Three B A B b a c es ⊎ Three B B A b c a es)
orders es a b c of_a of_b = three_of_both es (a ∷ []) (b ∷ c ∷ []) a b c refl refl (merged 0 es (a ∷ []) (b ∷ c ∷ []) of_a of_b)
