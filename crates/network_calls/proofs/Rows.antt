-- The locks, the links and the passes, side by side.
use Rattle.std.proofs.Common.{◌≡◌, ◌∙◌, ap, sym, ℕ, zero, suc, ◌<◌, List, [], ◌∷◌, ◌++◌, length, position, set, Some, refl, subst}
use Rattle.std.specs.List.{position_or_len, slice_get, slice_set}
use Rattle.std.specs.Prelude.{slice_index_or}
use Rattle.std.proofs.lemmas.Option.{same_Some, slice_get_read, slice_get_within}
use Rattle.es_base.specs.declared.place.LinkNo.{LinkNo}
use Rattle.es_base.specs.Addressing.{addressee_of}
use Rattle.es_base.specs.Frame.{link_number_of}
use Rattle.es_base.specs.declared.place.Net.{Net}
use Rattle.es_base.specs.Config.{has_link_number, link_of}
use Rattle.es_base.specs.Settings.{Settings}
use Rattle.es_base.proofs.Elements.{slice_get-set_other, slice_get-set_same}
use Rattle.es_base.proofs.Firsts.{found_at}
use Rattle.link_lock.specs.Pass.{LockId}
use Rattle.network_calls.specs.Counts.{has_number}
use Rattle.network_calls.specs.Passes.{AreIdle, ArePasses, DoesAt, IsPassOn, Keeping, pass_with}

-- `K` is what is known of a pass, and `L` of a link.
module _ {K L : Type 0} (keeping : Keeping K L) where
  -- what stands at a link's place
  pub record AtPlace (net : Net) (locks : List LockId) (passes : List K) (place : ℕ) (settings : Settings) : Type 0 where
    pub lock : LockId
    pub pass : K
    pub lock_there : slice_get locks place ≡ Some lock
    pub pass_there : slice_get passes place ≡ Some pass
    pub is_pass : IsPassOn keeping lock settings net pass

  pub at_place : (net : Net) (locks : List LockId) (links : List Settings) (passes : List K) (place : ℕ) (settings : Settings) → ArePasses keeping net locks links passes
      → slice_get links place ≡ Some settings → AtPlace net locks passes place settings
  at_place net [] [] [] place settings are there = cc
  at_place net (lock ∷ locks) (link ∷ links) (pass ∷ passes) zero settings are there = record {
    lock = lock;
    pass = pass;
    lock_there = refl;
    pass_there = refl;
    is_pass = rw (same_Some link settings there) at are.0;
  }
  at_place net (lock ∷ locks) (link ∷ links) (pass ∷ passes) (suc place) settings are there =
      let later = at_place net locks links passes place settings are.1 there in
      record {
        lock = later.lock;
        pass = later.pass;
        lock_there = later.lock_there;
        pass_there = later.pass_there;
        is_pass = later.is_pass;
      }
  at_place net (lock ∷ locks) (link ∷ links) [] place settings are there = absurd are
  at_place net (lock ∷ locks) [] passes place settings are there = absurd are
  at_place net [] (link ∷ links) passes place settings are there = absurd are
  at_place net [] [] (pass ∷ passes) place settings are there = absurd are

  -- a pass that is of the same lock, network and link stands in another's place
  abbrev pub IsSame : K → K → Type 0
  IsSame old new = ((keeping.on new).lock ≡ (keeping.on old).lock) × ((keeping.on new).net ≡ (keeping.on old).net) × ((keeping.on new).link ≡ (keeping.on old).link) × ((keeping.on new).counts.vl ≡ (keeping.on old).counts.vl)

  pub still_pass : (lock : LockId) (settings : Settings) (net : Net) (old new : K) → IsSame old new → IsPassOn keeping lock settings net old → IsPassOn keeping lock settings net new
  still_pass lock settings net old new same is = record {
    at_lock = rw same.0 is.at_lock;
    of_net = rw same.1 is.of_net;
    link = is.link;
    known = rw same.2 is.known;
    with_settings = is.with_settings;
    with_number = rw same.3 is.with_number;
  }

  pub still_passes : (net : Net) (locks : List LockId) (links : List Settings) (passes : List K) (place : ℕ) (old new : K) → ArePasses keeping net locks links passes
      → slice_get passes place ≡ Some old → IsSame old new → ArePasses keeping net locks links (set passes place new)
  still_passes net [] [] [] place old new are there same = cc
  still_passes net (lock ∷ locks) (link ∷ links) (pass ∷ passes) zero old new are there same =
      (still_pass lock link net old new same (rw (same_Some pass old there) at are.0), are.1)
  still_passes net (lock ∷ locks) (link ∷ links) (pass ∷ passes) (suc place) old new are there same = (are.0, still_passes net locks links passes place old new are.1 there same)
  still_passes net (lock ∷ locks) (link ∷ links) [] place old new are there same = absurd are
  still_passes net (lock ∷ locks) [] passes place old new are there same = absurd are
  still_passes net [] (link ∷ links) passes place old new are there same = absurd are
  still_passes net [] [] (pass ∷ passes) place old new are there same = absurd are

  -- ---- one place of the row, as it is read

  -- the lock and the pass at a place, as they were found there
  pub record Found (net : Net) (place : ℕ) (settings : Settings) (locks : List LockId) (passes : List K) (lock : LockId) (pass : K) : Type 0 where
    pub there : slice_get passes place ≡ Some pass
    pub is_pass : IsPassOn keeping lock settings net pass

  pub found : (net : Net) (locks : List LockId) (links : List Settings) (passes : List K) (place : ℕ) (settings : Settings) (lock : LockId) (pass : K) → ArePasses keeping net locks links passes
      → slice_get links place ≡ Some settings → lock ≡ slice_index_or locks place lock → pass ≡ slice_index_or passes place pass → Found net place settings locks passes lock pass
  found net locks links passes place settings lock pass are there lock_read pass_read =
      let at = at_place net locks links passes place settings are there in
      let lock_there = slice_get_read locks (length locks) place lock refl (slice_get_within locks place at.lock at.lock_there) lock_read in
      let pass_there = slice_get_read passes (length passes) place pass refl (slice_get_within passes place at.pass at.pass_there) pass_read in
      let same_lock : at.lock ≡ lock = same_Some at.lock lock (sym at.lock_there ∙ lock_there) in
      let same_pass : at.pass ≡ pass = same_Some at.pass pass (sym at.pass_there ∙ pass_there) in
      record { there = pass_there; is_pass = rw (same_lock, same_pass) at at.is_pass }

  pub below : (net : Net) (locks : List LockId) (links : List Settings) (passes : List K) (place : ℕ) (settings : Settings) → ArePasses keeping net locks links passes
      → slice_get links place ≡ Some settings → (place < length locks) × (place < length passes)
  below net locks links passes place settings are there =
      let at = at_place net locks links passes place settings are there in
      (slice_get_within locks place at.lock at.lock_there, slice_get_within passes place at.pass at.pass_there)

  -- the link that a pass knows has the number of the frame
  pub numbered : (lock : LockId) (settings : Settings) (net : Net) (pass : K) (octets : List ℕ) → IsPassOn keeping lock settings net pass → settings.vl ≡ addressee_of octets
      → (link : L) × ((keeping.on pass).link ≡ Some link) × (link_number_of octets ≡ (keeping.settings_of link).vl.0)
  numbered lock settings net pass octets is vl =
      (is.link, is.known, sym (ap (λ (n : LinkNo). n.0) vl) ∙ ap (λ (s : Settings). s.vl.0) (sym is.with_settings))

  -- there is a link where there is a pass
  pub beside : (net : Net) (locks : List LockId) (links : List Settings) (passes : List K) (place : ℕ) (pass : K) → ArePasses keeping net locks links passes → slice_get passes place ≡ Some pass
      → (settings : Settings) × (slice_get links place ≡ Some settings)
  beside net [] [] [] place pass are there = cc
  beside net (lock ∷ locks) (link ∷ links) (k ∷ passes) zero pass are there = (link, refl)
  beside net (lock ∷ locks) (link ∷ links) (k ∷ passes) (suc place) pass are there = beside net locks links passes place pass are.1 there
  beside net (lock ∷ locks) (link ∷ links) [] place pass are there = absurd are
  beside net (lock ∷ locks) [] passes place pass are there = absurd are
  beside net [] (link ∷ links) passes place pass are there = absurd are
  beside net [] [] (k ∷ passes) place pass are there = absurd are

  -- ---- one link more, at the end of the row

  pub passes_push : (net : Net) (locks : List LockId) (links : List Settings) (passes : List K) (lock : LockId) (settings : Settings) (pass : K)
      → ArePasses keeping net locks links passes → IsPassOn keeping lock settings net pass → ArePasses keeping net (locks ++ lock ∷ []) (links ++ settings ∷ []) (passes ++ pass ∷ [])
  passes_push net [] [] [] lock settings pass are is = (is, tt)
  passes_push net (l ∷ locks) (s ∷ links) (p ∷ passes) lock settings pass are is = (are.0, passes_push net locks links passes lock settings pass are.1 is)
  passes_push net (l ∷ locks) (s ∷ links) [] lock settings pass are is = absurd are
  passes_push net (l ∷ locks) [] passes lock settings pass are is = absurd are
  passes_push net [] (s ∷ links) passes lock settings pass are is = absurd are
  passes_push net [] [] (p ∷ passes) lock settings pass are is = absurd are

  -- there are as many passes as links
  pub as_many : (net : Net) (locks : List LockId) (links : List Settings) (passes : List K) → ArePasses keeping net locks links passes → length passes ≡ length links
  as_many net [] [] [] are = refl
  as_many net (l ∷ locks) (s ∷ links) (p ∷ passes) are = ap suc (as_many net locks links passes are.1)
  as_many net (l ∷ locks) (s ∷ links) [] are = absurd are
  as_many net (l ∷ locks) [] passes are = absurd are
  as_many net [] (s ∷ links) passes are = absurd are
  as_many net [] [] (p ∷ passes) are = absurd are

  -- ---- the pass on the link with a number

  same_first : (net : Net) (vl : LinkNo) (locks : List LockId) (links : List Settings) (passes : List K) → ArePasses keeping net locks links passes
      → position_or_len (λ (pass : K). has_number vl (keeping.on pass).counts) passes ≡ position_or_len (has_link_number vl.0) links
  same_first net vl [] [] [] are = refl
  same_first net vl (lock ∷ locks) (settings ∷ links) (pass ∷ passes) are =
      let numbers : (keeping.on pass).counts.vl.0 ≡ settings.vl.0 = ap (λ (n : LinkNo). n.0) are.0.with_number in
      rw (numbers, same_first net vl locks links passes are.1) refl
  same_first net vl (lock ∷ locks) (settings ∷ links) [] are = absurd are
  same_first net vl (lock ∷ locks) [] passes are = absurd are
  same_first net vl [] (settings ∷ links) passes are = absurd are
  same_first net vl [] [] (pass ∷ passes) are = absurd are

  pub found_pass : (net : Net) (vl : LinkNo) (locks : List LockId) (links : List Settings) (passes : List K) (place : ℕ) (pass : K) → ArePasses keeping net locks links passes
      → link_of links vl ≡ Some place → slice_get passes place ≡ Some pass → pass_with keeping vl passes ≡ Some pass
  found_pass net vl locks links passes place pass are first at =
      let here : position (λ (k : K). has_number vl (keeping.on k).counts) passes ≡ Some place = rw (same_first net vl locks links passes are, as_many net locks links passes are) first in
      found_at (λ (k : K). has_number vl (keeping.on k).counts) passes place here ∙ at

-- ---- passes that did nothing

module _ {K L : Type 0} (keeping : Keeping K L) where
  pub idle_push : (passes : List K) (pass : K) → AreIdle keeping passes → keeping.is_idle pass → AreIdle keeping (passes ++ pass ∷ [])
  idle_push [] pass are is = (is, tt)
  idle_push (p ∷ passes) pass are is = (are.0, idle_push passes pass are.1 is)

  pub idle_at : (passes : List K) (place : ℕ) (pass : K) → AreIdle keeping passes → slice_get passes place ≡ Some pass → keeping.is_idle pass
  idle_at [] place pass are there = cc
  idle_at (k ∷ passes) zero pass are there = subst keeping.is_idle (same_Some k pass there) are.0
  idle_at (k ∷ passes) (suc place) pass are there = idle_at passes place pass are.1 there

-- ---- a place of the row after a call

module _ {K : Type 0} (Did : K → K → Type 0) (old new : List K) (at : ℕ) (does : DoesAt Did old at new) where
  -- the pass of the call
  pub does_here : (place : ℕ) (pass : K) → slice_get old place ≡ Some pass → at ≡ place → (slice_get new place ≡ Some does.after) × (does.before ≡ pass)
  does_here place pass there same =
      let here : slice_get old place ≡ Some does.before = rw same at does.there in (
        ap (λ (passes : List K). slice_get passes place) does.only
            ∙ (ap (λ (k : ℕ). slice_get (slice_set old k does.after) place) same ∙ slice_get-set_same old place does.after (slice_get_within old place does.before here)),
        same_Some does.before pass (sym here ∙ there),
      )

  -- another
  pub does_elsewhere : (place : ℕ) → (place ≡ at → ⊥) → slice_get new place ≡ slice_get old place
  does_elsewhere place other = ap (λ (passes : List K). slice_get passes place) does.only ∙ slice_get-set_other old at place does.after other
