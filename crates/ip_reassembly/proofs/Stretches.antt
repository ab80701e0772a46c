-- What is held of a buffer's octets, by their marks, all of them or those of a stretch.
use Rattle.std.proofs.Common.{◌≡◌, ◌∙◌, ap, sym, ℕ, zero, suc, ◌+◌, ◌-◌, ◌≤◌, Bool, true, false, List, [], ◌∷◌, ◌++◌, append_assoc, length, take, drop, replicate, slice_index, slice_index_or, Option, refl, arith}
use Rattle.std.proofs.lemmas.Bool.{false≢true}
use Rattle.std.proofs.lemmas.List.{drop-drop, take-append-drop, take_all}
use Rattle.std.proofs.lemmas.Grind.{common_steps}
use Rattle.link_rules.specs.Fragments.{Piece}
use Rattle.es_base.specs.Limits.{longest_joined}
use Rattle.ip_reassembly.specs.Runs.{ReceivedWithin}
use Rattle.ip_reassembly.specs.Held.{Held, HoldsPieces, held_at}
use Rattle.ip_reassembly.specs.Stretch.{octets_marked, held_from, held_of, placed_among}
use Rattle.ip_reassembly.proofs.Came.{none_first, none_last}

-- ---- what is held, with whatever octets stand where none came

abbrev pub all_of : Option ℕ → List ℕ → List Bool → Held
all_of total octets marks = record { total = total; octets = octets; marks = marks }

came_at : (octets : List ℕ) (marks : List Bool) (i : ℕ) → slice_index_or marks i false ≡ true → slice_index (octets_marked octets marks) i ≡ slice_index octets i
came_at [] marks i on = refl
came_at (octet ∷ octets) [] i on = absurd (false≢true on)
came_at (octet ∷ octets) (true ∷ marks) zero on = refl
came_at (octet ∷ octets) (false ∷ marks) zero on = absurd (false≢true on)
came_at (octet ∷ octets) (true ∷ marks) (suc i) on = came_at octets marks i on
came_at (octet ∷ octets) (false ∷ marks) (suc i) on = came_at octets marks i on

same_at : (total : Option ℕ) (octets : List ℕ) (marks : List Bool) (i : ℕ) (on : Bool) → slice_index_or marks i false ≡ on → held_at (held_of total octets marks) i ≡ held_at (all_of total octets marks) i
same_at total octets marks i true on = rw (on, came_at octets marks i on) refl
same_at total octets marks i false off = rw off refl

pub all_held : (total : Option ℕ) (octets : List ℕ) (marks : List Bool) (pieces : List Piece) → HoldsPieces (held_of total octets marks) pieces → HoldsPieces (all_of total octets marks) pieces
all_held total octets marks pieces holds = record {
  total_is = holds.total_is;
  octets_are = λ i. holds.octets_are i ∙ same_at total octets marks i (slice_index_or marks i false) refl;
}

pub came_held : (total : Option ℕ) (octets : List ℕ) (marks : List Bool) (pieces : List Piece) → HoldsPieces (all_of total octets marks) pieces → HoldsPieces (held_of total octets marks) pieces
came_held total octets marks pieces holds = record {
  total_is = holds.total_is;
  octets_are = λ i. holds.octets_are i ∙ sym (same_at total octets marks i (slice_index_or marks i false) refl);
}

-- ---- in parts

came_append : (a b : List ℕ) (c d : List Bool) → length a ≡ length c → octets_marked (a ++ b) (c ++ d) ≡ octets_marked a c ++ octets_marked b d
came_append [] b [] d long = refl
came_append [] b (mark ∷ c) d long = absurd (omega (arith, long))
came_append (octet ∷ a) b [] d long = absurd (omega (arith, long))
came_append (octet ∷ a) b (true ∷ c) d long = ap (λ (xs : List ℕ). octet ∷ xs) (came_append a b c d (omega (arith, long)))
came_append (octet ∷ a) b (false ∷ c) d long = ap (λ (xs : List ℕ). 0 ∷ xs) (came_append a b c d (omega (arith, long)))

-- where none came there are zeros
came_none : (octets : List ℕ) (n : ℕ) → length octets ≡ n → octets_marked octets (replicate n false) ≡ replicate n 0
came_none [] zero long = refl
came_none [] (suc n) long = absurd (omega (arith, long))
came_none (octet ∷ octets) zero long = absurd (omega (arith, long))
came_none (octet ∷ octets) (suc n) long = ap (λ (xs : List ℕ). 0 ∷ xs) (came_none octets n (omega (arith, long)))

pub came_long : (octets : List ℕ) (marks : List Bool) → length octets ≡ length marks → length (octets_marked octets marks) ≡ length octets
came_long [] marks long = refl
came_long (octet ∷ octets) [] long = absurd (omega (arith, long))
came_long (octet ∷ octets) (true ∷ marks) long = ap suc (came_long octets marks (omega (arith, long)))
came_long (octet ∷ octets) (false ∷ marks) long = ap suc (came_long octets marks (omega (arith, long)))

-- octets that stand before and after those of a stretch, where none came
pub came_placed : (front octets back : List ℕ) (marks : List Bool) (least rest : ℕ) → length front ≡ least → length back ≡ rest → length octets ≡ length marks
    → octets_marked (front ++ (octets ++ back)) (replicate least false ++ (marks ++ replicate rest false)) ≡ replicate least 0 ++ (octets_marked octets marks ++ replicate rest 0)
came_placed front octets back marks least rest front_long back_long long =
    let off : length (replicate least false) ≡ least = grind (arith, common_steps) in
    came_append front (octets ++ back) (replicate least false) (marks ++ replicate rest false) (front_long ∙ sym off)
    ∙ rw (came_append octets back marks (replicate rest false) long, came_none front least front_long, came_none back rest back_long) refl

-- ---- a buffer and its stretch

in_parts : {T : Type 0} (xs : List T) (least reach : ℕ) → least ≤ reach → xs ≡ take least xs ++ (take (reach - least) (drop least xs) ++ drop reach xs)
in_parts {T} xs least reach order =
    let sum : reach - least + least ≡ reach = omega arith in
    let past : drop (reach - least) (drop least xs) ≡ drop reach xs = drop-drop (reach - least) least xs ∙ ap (λ (n : ℕ). drop n xs) (omega (arith, order)) in
    sym (take-append-drop least xs) ∙ ap (λ (ys : List T). take least xs ++ ys) (sym (take-append-drop (reach - least) (drop least xs)) ∙ ap (λ (ys : List T). take (reach - least) (drop least xs) ++ ys) past)

marks_are : (marks : List Bool) (least reach : ℕ) → length marks ≡ longest_joined → least ≤ reach → reach ≤ longest_joined → ReceivedWithin marks least reach
    → marks ≡ replicate least false ++ (take (reach - least) (drop least marks) ++ replicate (longest_joined - reach) false)
marks_are marks least reach long order within stretch =
    let front = none_first marks least (omega (arith, long, order, within)) stretch.none_before in
    let back : drop reach marks ≡ replicate (longest_joined - reach) false = rw long at (none_last marks reach stretch.none_from) in
    in_parts marks least reach order ∙ rw (front, back) refl

-- what is held of the stretch is what is held of all
pub stretch_is : (total : Option ℕ) (octets : List ℕ) (marks : List Bool) (least reach : ℕ) → length octets ≡ longest_joined → length marks ≡ longest_joined
    → least ≤ reach → reach ≤ longest_joined → ReceivedWithin marks least reach
    → held_from total least (take (reach - least) (drop least octets)) (take (reach - least) (drop least marks)) ≡ held_of total octets marks
stretch_is total octets marks least reach long marks_long order within stretch =
    let some = take (reach - least) (drop least octets) in
    let some_marks = take (reach - least) (drop least marks) in
    let rest = longest_joined - reach in
    let same_long : length some ≡ length some_marks = grind (arith, common_steps) in
    let some_long : length some ≡ reach - least = grind (arith, common_steps) in
    let front_long : length (take least octets) ≡ least = grind (arith, common_steps) in
    let back_long : length (drop reach octets) ≡ rest = grind (arith, common_steps) in
    let marks_is = marks_are marks least reach marks_long order within stretch in
    let received = came_long some some_marks same_long in
    let octets_is : octets_marked octets marks ≡ replicate least 0 ++ (octets_marked some some_marks ++ replicate rest 0) =
    ap (λ (xs : List ℕ). octets_marked xs marks) (in_parts octets least reach order)
    ∙ ap (λ (ms : List Bool). octets_marked (take least octets ++ (some ++ drop reach octets)) ms) marks_is
    ∙ came_placed (take least octets) some (drop reach octets) some_marks least rest front_long back_long same_long
    in
    let after : longest_joined - (least + length (octets_marked some some_marks)) ≡ rest = omega (arith, received, some_long, order) in
    let after_marks : longest_joined - (least + length some_marks) ≡ rest = omega (arith, same_long, some_long, order) in
    let held : List ℕ → List Bool → Held = λ octets marks. record { total = total; octets = octets; marks = marks } in
    ap (λ (n : ℕ). held (replicate least 0 ++ (octets_marked some some_marks ++ replicate n 0)) (placed_among false least some_marks)) after
    ∙ ap (λ (n : ℕ). held (replicate least 0 ++ (octets_marked some some_marks ++ replicate rest 0)) (replicate least false ++ (some_marks ++ replicate n false))) after_marks
    ∙ ap (λ (xs : List ℕ). held xs (replicate least false ++ (some_marks ++ replicate rest false))) (sym octets_is)
    ∙ ap (λ (ms : List Bool). held (octets_marked octets marks) ms) (sym marks_is)

-- ---- a stretch in a buffer

-- filled up before and after
pub placed_by : {T : Type 0} (other : T) (least n : ℕ) (some first more all : List T) → least + length some ≤ longest_joined → first ≡ replicate least other → more ≡ first ++ some
    → n ≡ least + length some → all ≡ take longest_joined more ++ replicate (longest_joined - n) other → all ≡ placed_among other least some
placed_by {T} other least n some first more all within first_is more_is many all_is =
    let more_now : more ≡ replicate least other ++ some = more_is ∙ ap (λ (xs : List T). xs ++ some) first_is in
    let long : length more ≡ least + length some = rw more_now (grind (arith, common_steps)) in
    let whole : take longest_joined more ≡ more = take_all longest_joined more (omega (arith, long, within)) in
    all_is
    ∙ ap (λ (xs : List T). xs ++ replicate (longest_joined - n) other) (whole ∙ more_now)
    ∙ ap (λ (n : ℕ). (replicate least other ++ some) ++ replicate (longest_joined - n) other) many
    ∙ append_assoc (replicate least other) some (replicate (longest_joined - (least + length some)) other)

pub placed_long : {T : Type 0} (other : T) (least : ℕ) (some : List T) → least + length some ≤ longest_joined → length (placed_among other least some) ≡ longest_joined
placed_long other least some within = grind (arith, common_steps)

-- the marks of a stretch in their places are those of the buffer
pub placed_marks : (marks : List Bool) (least reach : ℕ) → length marks ≡ longest_joined → least ≤ reach → reach ≤ longest_joined → ReceivedWithin marks least reach
    → marks ≡ placed_among false least (take (reach - least) (drop least marks))
placed_marks marks least reach long order within stretch =
    let some = take (reach - least) (drop least marks) in
    let some_long : length some ≡ reach - least = grind (arith, common_steps) in
    let after : longest_joined - reach ≡ longest_joined - (least + length some) = omega (arith, some_long, order) in
    marks_are marks least reach long order within stretch ∙ ap (λ (n : ℕ). replicate least false ++ (some ++ replicate n false)) after

-- what is held of all is what is held of the stretch
pub placed_is : (total : Option ℕ) (least : ℕ) (octets : List ℕ) (marks : List Bool) → length octets ≡ length marks
    → held_of total (placed_among 0 least octets) (placed_among false least marks) ≡ held_from total least octets marks
placed_is total least octets marks long =
    let rest = longest_joined - (least + length marks) in
    let front : List ℕ = replicate least 0 in
    let back : List ℕ = replicate rest 0 in
    let front_long : length front ≡ least = grind (arith, common_steps) in
    let back_long : length back ≡ rest = grind (arith, common_steps) in
    let received = came_long octets marks long in
    let same_rest : longest_joined - (least + length octets) ≡ rest = omega (arith, long) in
    let after : rest ≡ longest_joined - (least + length (octets_marked octets marks)) = omega (arith, received, long) in
    let held : List ℕ → Held = λ octets. record { total = total; octets = octets; marks = placed_among false least marks } in
    ap (λ (n : ℕ). held (octets_marked (replicate least 0 ++ (octets ++ replicate n 0)) (placed_among false least marks))) same_rest
    ∙ ap held (came_placed front octets back marks least rest front_long back_long long)
    ∙ ap (λ (n : ℕ). held (replicate least 0 ++ (octets_marked octets marks ++ replicate n 0))) after
