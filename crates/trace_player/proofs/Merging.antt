-- The next frame of two traces, by the first of each.
use Rattle.std.proofs.Common.{◌≡◌, ap, refl, sym, ◌<◌, ◌≤◌, Bool, true, List, [], ◌∷◌, ◌++◌, None, Some}
use Rattle.std.specs.List.{slice_get}
use Rattle.std.proofs.lemmas.Bool.{le-ltb, lt-ltb}
use Rattle.std.proofs.lemmas.Option.{same_Some}
use Rattle.es_base.specs.declared.place.Net.TheVariants as nets
use Rattle.hex_trace.specs.Frames.{TimedFrame}
use Rattle.trace_player.specs.Merge.{IsNext, arrived_on, merged}

pub none_left : (frames : List TimedFrame) → None ≡ slice_get frames 0 → frames ≡ []
none_left [] is = refl
none_left (first ∷ frames) is = cc

-- that of B comes earlier
pub b_is_next : (all : Bool) (a b : List TimedFrame) (x y : TimedFrame) → Some x ≡ slice_get a 0 → Some y ≡ slice_get b 0 → y.time < x.time
    → IsNext all (arrived_on nets.B y) a b
b_is_next all [] b x y first second earlier = cc
b_is_next all (f ∷ a) [] x y first second earlier = cc
b_is_next all (f ∷ a) (g ∷ b) x y first second earlier = λ later none.
    let is_x : x ≡ f = same_Some x f first in
    let is_y : y ≡ g = same_Some y g second in
    let sooner = rw (is_x, is_y) at earlier in
    rw (lt-ltb g.time f.time sooner) (ap (λ (t : TimedFrame). arrived_on nets.B t ∷ merged (f ∷ a) (b ++ later)) (sym is_y))

-- that of B comes later, or at the same time
pub a_is_next : (all : Bool) (a b : List TimedFrame) (x y : TimedFrame) → Some x ≡ slice_get a 0 → Some y ≡ slice_get b 0 → x.time ≤ y.time
    → IsNext all (arrived_on nets.A x) a b
a_is_next all [] b x y first second not_later = cc
a_is_next all (f ∷ a) [] x y first second not_later = cc
a_is_next all (f ∷ a) (g ∷ b) x y first second not_later = λ later none.
    let is_x : f ≡ x = same_Some f x (sym first) in
    let is_y : g ≡ y = same_Some g y (sym second) in
    rw (is_x, is_y, le-ltb y.time x.time not_later) refl

-- none of B is left, nor follows
pub a_alone : (all : Bool) (a b : List TimedFrame) (x : TimedFrame) → Some x ≡ slice_get a 0 → None ≡ slice_get b 0 → all ≡ true
    → IsNext all (arrived_on nets.A x) a b
a_alone all [] b x first second is = cc
a_alone all (f ∷ a) (g ∷ b) x first second is = cc
a_alone all (f ∷ a) [] x first second is = λ later none.
    let is_x : f ≡ x = same_Some f x (sym first) in
    rw (none is, is_x) refl

-- none of A is left
pub b_alone : (all : Bool) (a b : List TimedFrame) (y : TimedFrame) → None ≡ slice_get a 0 → Some y ≡ slice_get b 0
    → IsNext all (arrived_on nets.B y) a b
b_alone all (f ∷ a) b y first second = cc
b_alone all [] [] y first second = cc
b_alone all [] (g ∷ b) y first second = λ later none.
    let is_y : g ≡ y = same_Some g y (sym second) in
    rw is_y refl
