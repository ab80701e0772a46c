-- Lists that begin others, their elements, and the slots of messages.
use Rattle.std.proofs.Common.{◌≡◌, ◌≢◌, ◌∙◌, ap, sym, refl, ℕ, zero, suc, ◌+◌, ◌-◌, ◌<◌, ◌≤◌, ⊎_elim, List, [], ◌∷◌, ◌++◌, length, Some, arith}
use Rattle.std.specs.List.{slice_get}
use Rattle.std.proofs.lemmas.List.{append_assoc, append-nil, length-append, nil_from_length}
use Rattle.std.proofs.lemmas.Bool.{cases_lt}
use Rattle.std.proofs.Math.Nat.{add-mod_right, mod-add-mod, mod-eq_of_lt, mod-lt}
use Rattle.atomic_table.proofs.Lists.{one_turn}
use Rattle.message_ring.specs.declared.rule.QueuedMessage.{QueuedMessage as Message}
use Rattle.message_ring.specs.Queue.{BeginsWith}
use Rattle.message_ring.specs.Rule.{slot_for}

-- ---- lists that begin others

pub begins_trans : (a b c : List Message) → BeginsWith b a → BeginsWith c b → BeginsWith c a
begins_trans a b c x y = (x.0 ++ y.0, y.1 ∙ ap (λ (l : List Message). l ++ y.0) x.1 ∙ append_assoc a x.0 y.0)

pub begins_same : (a : List Message) → BeginsWith a a
begins_same a = ([], sym (append-nil a))

pub begins_length : (a b : List Message) → BeginsWith b a → length a ≤ length b
begins_length a b x = let e = ap (λ (l : List Message). length l) x.1 ∙ length-append a x.0 in omega (arith, e)

-- the longer is the shorter where it is no longer
pub begins_all : (a b : List Message) → BeginsWith b a → length b ≤ length a → b ≡ a
begins_all a b x long =
    let e = ap (λ (l : List Message). length l) x.1 ∙ length-append a x.0 in
    let none : x.0 ≡ [] = nil_from_length x.0 (omega (arith, e, long)) in
    x.1 ∙ ap (λ (l : List Message). a ++ l) none ∙ append-nil a

-- ---- elements

seam : (xs : List Message) (x : Message) (ys : List Message) → slice_get (xs ++ x ∷ ys) (length xs) ≡ Some x
seam [] x ys = refl
seam (z ∷ xs) x ys = seam xs x ys

first_of : (rest : List Message) → 0 < length rest → (first : Message) × (later : List Message) × (rest ≡ first ∷ later)
first_of [] some = absurd (omega (arith, some))
first_of (first ∷ later) some = (first, later, refl)

-- the first element after those that begin a list
pub next_of : (a b : List Message) → BeginsWith b a → length a < length b → (next : Message) × (slice_get b (length a) ≡ Some next) × BeginsWith b (a ++ next ∷ [])
next_of a b x less =
    let e = ap (λ (l : List Message). length l) x.1 ∙ length-append a x.0 in
    let rest = first_of x.0 (omega (arith, e, less)) in
    let is : b ≡ a ++ rest.0 ∷ rest.1 = x.1 ∙ ap (λ (l : List Message). a ++ l) rest.2 in
    (rest.0, ap (λ (l : List Message). slice_get l (length a)) is ∙ seam a rest.0 rest.1, (rest.1, is ∙ sym (append_assoc a (rest.0 ∷ []) rest.1)))

get_longer : (xs ys : List Message) (n : ℕ) (x : Message) → slice_get xs n ≡ Some x → slice_get (xs ++ ys) n ≡ Some x
get_longer [] ys n x is = absurd (cc)
get_longer (z ∷ xs) ys zero x is = is
get_longer (z ∷ xs) ys (suc n) x is = get_longer xs ys n x is

pub begins_get : (a b : List Message) (n : ℕ) (x : Message) → BeginsWith b a → slice_get a n ≡ Some x → slice_get b n ≡ Some x
begins_get a b n x begins is = ap (λ (l : List Message). slice_get l n) begins.1 ∙ get_longer a begins.0 n x is

pub push_other : (xs : List Message) (x : Message) (n : ℕ) (y : Message) → n ≢ length xs → slice_get (xs ++ x ∷ []) n ≡ Some y → slice_get xs n ≡ Some y
push_other [] x zero y ne is = absurd (ne refl)
push_other [] x (suc n) y ne is = absurd (cc)
push_other (z ∷ xs) x zero y ne is = is
push_other (z ∷ xs) x (suc n) y ne is = push_other xs x n y (λ e. ne (ap suc e)) is

-- ---- slots

-- two numbers less than the depth apart, in one slot, are one number
pub one_slot : (start from depth a b : ℕ) → from ≤ a → a < from + depth → from ≤ b → b < from + depth → slot_for depth (start + a) ≡ slot_for depth (start + b) → a ≡ b
one_slot start from depth a b low high low' high' same =
    ⊎_elim (λ (less : a < b). let e = one_turn (start + a) (start + b) depth (omega (arith, less)) (omega (arith, low, high')) same in omega (arith, e))
    (λ (more : b ≤ a). let e = one_turn (start + b) (start + a) depth (omega (arith, more)) (omega (arith, low', high)) (sym same) in omega (arith, e))
    (cases_lt a b)

-- wherever number 0 is, a number not below `low` has the slot that another had, which is less than the depth above `low`
pub around : (depth start start' low number : ℕ) → start < depth → 0 < depth → low ≤ number
    → (other : ℕ) × (low ≤ other) × (other < low + depth) × (slot_for depth (start + other) ≡ slot_for depth (start' + number))
around depth start start' low number within some above =
    let on = start' + (number - low) + (depth - start) in
    let less : slot_for depth on < depth = mod-lt on some in
    let first : start + (low + slot_for depth on) ≡ slot_for depth on + (start + low) = omega arith in
    let whole : on + (start + low) ≡ start' + number + depth = omega (arith, within, above) in
    (low + slot_for depth on, omega arith, omega (arith, less), ap (slot_for depth) first ∙ mod-add-mod on depth (start + low) ∙ ap (slot_for depth) whole ∙ add-mod_right (start' + number) depth)

pub slot_next : (depth number many : ℕ) → slot_for depth number + many < depth → slot_for depth (number + many) ≡ slot_for depth number + many
slot_next depth number many less = sym (mod-add-mod number depth many) ∙ mod-eq_of_lt less

-- around the end
pub slot_around : (depth number many : ℕ) → slot_for depth number < depth → many ≤ depth → depth ≤ slot_for depth number + many → slot_for depth (number + many) ≡ slot_for depth number + many - depth
slot_around depth number many within few past =
    let slot = slot_for depth number in
    let over : slot + many ≡ slot + many - depth + depth = omega (arith, past) in
    sym (mod-add-mod number depth many) ∙ ap (slot_for depth) over ∙ add-mod_right (slot + many - depth) depth ∙ mod-eq_of_lt (omega (arith, within, few, past))
