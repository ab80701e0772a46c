-- A history from its beginning, and its past.
use Rattle.std.proofs.Common.{◌≡◌, ◌∙◌, ap, sym, ℕ, zero, suc, ◌<◌, List, [], ◌∷◌, ◌++◌, length, reverse, take, drop, Option, None, Some, refl, arith, append_assoc}
use Rattle.std.specs.List.{All, slice_get}
use Rattle.std.proofs.lemmas.List.Elements.{All-cons, All-head, All-push, All-tail}
use Rattle.std.proofs.lemmas.List.{reverse-append, take-append-drop}
use Rattle.std.proofs.lemmas.Option.{same_Some}
use Rattle.es_base.specs.declared.event.Event.{Event}
use Rattle.es_base.specs.Frame.{IsFrame}
use Rattle.es_base.specs.Settings.{Settings}
use Rattle.es_base.specs.Past.{AreFramesOf}
use Rattle.link_rules.specs.Run.{IsRun}
use Rattle.link_core.specs.Told.{IsLawfulAfter}

take_more : {X : Type 0} (xs : List X) (i : ℕ) (x : X) → slice_get xs i ≡ Some x → take (suc i) xs ≡ take i xs ++ x ∷ []
take_more [] i x there = cc
take_more (y ∷ ys) zero x there = rw (same_Some y x there) refl
take_more (y ∷ ys) (suc i) x there = rw (take_more ys i x there) refl

-- the past of one event more
pub past_more : (history : List Event) (i : ℕ) (e : Event) → slice_get history i ≡ Some e → reverse (take (suc i) history) ≡ e ∷ reverse (take i history)
past_more history i e there = ap reverse (take_more history i e there) ∙ reverse-append (take i history) (e ∷ [])

-- the latest events, and those before them
pub past_parts : (history : List Event) (n : ℕ) → reverse history ≡ reverse (drop n history) ++ reverse (take n history)
past_parts history n = ap reverse (sym (take-append-drop n history)) ∙ reverse-append (take n history) (drop n history)

earlier_run : (o : Settings) (later past : List Event) → IsRun o (later ++ past) → IsRun o past
earlier_run o [] past run = run
earlier_run o (e ∷ later) past run = earlier_run o later past run.2

earlier_frames : (settings : Settings) (later past : List Event) → AreFramesOf settings (later ++ past) → AreFramesOf settings past
earlier_frames settings [] past frames = frames
earlier_frames settings (e ∷ later) past frames = earlier_frames settings later past frames.2

-- and those before all of them
pub parts_after : (history earlier : List Event) (n : ℕ) → reverse history ++ earlier ≡ reverse (drop n history) ++ (reverse (take n history) ++ earlier)
parts_after history earlier n = ap (λ past. past ++ earlier) (past_parts history n) ∙ append_assoc (reverse (drop n history)) (reverse (take n history)) earlier

pub run_before : (o : Settings) (history earlier : List Event) (n : ℕ) → IsRun o (reverse history ++ earlier) → IsRun o (reverse (take n history) ++ earlier)
run_before o history earlier n run = earlier_run o (reverse (drop n history)) (reverse (take n history) ++ earlier) (rw (parts_after history earlier n) at run)

pub frames_before : (settings : Settings) (history : List Event) (n : ℕ) → AreFramesOf settings (reverse history) → AreFramesOf settings (reverse (take n history))
frames_before settings history n frames = earlier_frames settings (reverse (drop n history)) (reverse (take n history)) (rw (past_parts history n) at frames)

pub lawful_at : (o : Settings) (history earlier : List Event) (i : ℕ) (e : Event) → IsRun o (reverse history ++ earlier) → slice_get history i ≡ Some e → IsLawfulAfter o (reverse (take i history) ++ earlier) e
lawful_at o history earlier i e run there = (rw (past_more history i e there) at (run_before o history earlier (suc i) run)).0

pub frame_at : (settings : Settings) (history : List Event) (i : ℕ) (e : Event) → AreFramesOf settings (reverse history) → slice_get history i ≡ Some e → IsFrame e.frame
frame_at settings history i e frames there = (rw (past_more history i e there) at (frames_before settings history (suc i) frames)).0

-- what holds of each element holds of each of the list in reverse
pub all_reverse : {X : Type 0} (P : X → Type 0) (xs : List X) → All P xs → All P (reverse xs)
all_reverse P [] all = all
all_reverse P (x ∷ xs) all =
    rw (reverse-append (x ∷ []) xs) (All-push P (reverse xs) x (all_reverse P xs (All-tail P x xs all)) (All-head P x xs all))

-- ---- by places

pub there_is : {X : Type 0} (xs : List X) (i : ℕ) → i < length xs → (x : X) × (slice_get xs i ≡ Some x)
there_is [] i within = absurd (omega arith)
there_is (x ∷ xs) zero within = (x, refl)
there_is (x ∷ xs) (suc i) within = there_is xs i (omega arith)

drop_there : {X : Type 0} (xs : List X) (i : ℕ) (x : X) → slice_get xs i ≡ Some x → drop i xs ≡ x ∷ drop (suc i) xs
drop_there [] i x there = cc
drop_there (y ∷ ys) zero x there = rw (same_Some y x there) refl
drop_there (y ∷ ys) (suc i) x there = drop_there ys i x there

-- what holds of an element and of all after it holds from it on
pub none_from : {X : Type 0} (P : X → Type 0) (xs : List X) (i : ℕ) (x : X) → slice_get xs i ≡ Some x → P x → All P (drop (suc i) xs) → All P (drop i xs)
none_from P xs i x there holds later = rw (drop_there xs i x there) (All-cons P x (drop (suc i) xs) holds later)

pub never_both : {X : Type 0} (found : Option X) (x : X) → None ≡ found → found ≡ Some x → ⊥
never_both found x none some = cc
