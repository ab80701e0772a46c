-- An end system, and a network's passes on the links of its configuration, whatever it keeps of a link, and whatever
-- else its passes know.
use Rattle.std.specs.Prelude.{◌≡◌, ℕ, List, [], ◌∷◌, Option, None, Some, length, slice_get, slice_set}
use Rattle.std.specs.List.{find}
use Rattle.es_base.specs.declared.place.LinkNo.{LinkNo}
use Rattle.es_base.specs.declared.place.Net.{Net}
use Rattle.es_base.specs.Config.{Configuration}
use Rattle.es_base.specs.Limits.{filter_causes}
use Rattle.es_base.specs.Settings.{Settings}
use Rattle.es_base.specs.Tally.{Counts, IsKind, IsZero}
use Rattle.es_base.specs.Verdict.{verdict_kinds}
use Rattle.link_lock.specs.Pass.{LockId}
use Rattle.network_calls.specs.declared.call.Call.{Call}
use Rattle.network_calls.specs.declared.counts.LinkCounts.{LinkCounts}
use Rattle.network_calls.specs.Calls.{count_calls}
use Rattle.network_calls.specs.Counts.{AreCounts, KnownCounts, count_on, has_number, number_on}

-- the configuration, and the lock of each link, in the order of the links
pub record System : Type 0 where
  pub config : Configuration
  pub locks : List LockId

-- A pass on a link: the lock of its link, its network, the link as it was opened, its calls, and their counts.
pub record OnLink (L : Type 0) : Type 0 where
  pub lock : LockId
  pub net : Net
  pub link : Option L
  pub calls : List Call
  pub counts : LinkCounts

-- A pass on all links: its network, its passes in the order of the links, and the counts of filtered frames.
pub record KnownNet (K : Type 0) : Type 0 where
  pub net : Net
  pub links : List K
  pub filtered : Counts

-- How an end system keeps links: `K` is what is known of a pass, and `L` of a link.
pub record Keeping (K L : Type 0) : Type 1 where
  -- what each end system knows of a pass
  pub on : K → OnLink L
  pub settings_of : L → Settings
  -- what a count shows of a number
  pub shows : ℕ → ℕ
  -- a pass that did nothing
  pub is_idle : K → Type 0
  -- a link that both networks have let go of, whose passes are these
  pub is_let_go : K → K → L → Type 0

module _ {K L : Type 0} (keeping : Keeping K L) where
  -- ---- a pass of the system

  -- a pass of this network on a link with these settings, under this lock
  pub record IsPassOn (lock : LockId) (settings : Settings) (net : Net) (pass : K) : Type 0 where
    pub at_lock : (keeping.on pass).lock ≡ lock
    pub of_net : (keeping.on pass).net ≡ net
    pub link : L
    pub known : (keeping.on pass).link ≡ Some link
    pub with_settings : keeping.settings_of link ≡ settings
    pub with_number : (keeping.on pass).counts.vl ≡ settings.vl

  -- passes of this network, one on each of these links, under these locks
  abbrev pub ArePasses : Net → List LockId → List Settings → List K → Type 0
  ArePasses net [] [] [] = Unit {0}
  ArePasses net (lock ∷ locks) (settings ∷ links) (pass ∷ passes) = IsPassOn lock settings net pass × ArePasses net locks links passes
  ArePasses net (lock ∷ locks) (settings ∷ links) [] = ⊥
  ArePasses net (lock ∷ locks) [] passes = ⊥
  ArePasses net [] (settings ∷ links) passes = ⊥
  ArePasses net [] [] (pass ∷ passes) = ⊥

  -- the pass comes from the opening of this system
  abbrev pub IsPassIn : System → KnownNet K → Type 0
  IsPassIn system pass = ArePasses pass.net system.locks system.config.links pass.links

  -- ---- the opening

  -- nothing was done by these
  abbrev pub AreIdle : List K → Type 0
  AreIdle [] = Unit {0}
  AreIdle (pass ∷ passes) = keeping.is_idle pass × AreIdle passes

  -- a pass of that network that did nothing and filtered nothing
  -- rule: CONC-2, EMB-29
  pub record IsNewPassOf (net : Net) (pass : KnownNet K) : Type 0 where
    pub of_net : pass.net ≡ net
    pub no_calls : AreIdle pass.links
    pub none_filtered : IsZero filter_causes pass.filtered

  -- ---- by a link's number

  abbrev pub pass_with : LinkNo → List K → Option K
  pass_with vl links = find (λ pass. has_number vl (keeping.on pass).counts) links

  abbrev pub calls_of : Option K → List Call
  calls_of None = []
  calls_of (Some pass) = (keeping.on pass).calls

  -- the calls on the link with this number; none if no link has it
  abbrev pub calls_with : LinkNo → List K → List Call
  calls_with vl links = calls_of (pass_with vl links)

  -- ---- the end

  -- each link: with its settings, and with what both passes did on it
  -- rule: EMB-33, EMB-38
  abbrev pub AreSettled : List Settings → List K → List K → List L → Type 0
  AreSettled [] [] [] [] = Unit {0}
  AreSettled (settings ∷ links) (a ∷ ones) (b ∷ others) (link ∷ settled) = (keeping.settings_of link ≡ settings) × keeping.is_let_go a b link × AreSettled links ones others settled
  AreSettled (settings ∷ links) (a ∷ ones) (b ∷ others) [] = ⊥
  AreSettled (settings ∷ links) (a ∷ ones) [] settled = ⊥
  AreSettled (settings ∷ links) [] others settled = ⊥
  AreSettled [] (a ∷ ones) others settled = ⊥
  AreSettled [] [] (b ∷ others) settled = ⊥
  AreSettled [] [] [] (link ∷ settled) = ⊥

  -- the counts of each pass on a link
  abbrev pub AreCounted : Net → List K → List LinkCounts → Type 0
  AreCounted net [] [] = Unit {0}
  AreCounted net (pass ∷ passes) (counts ∷ more) = (counts ≡ (keeping.on pass).counts) × AreCounts keeping.shows net (keeping.on pass).calls counts × AreCounted net passes more
  AreCounted net (pass ∷ passes) [] = ⊥
  AreCounted net [] (counts ∷ more) = ⊥

  -- Each look-up of what a pass counted answers as that of the pass does.
  -- rule: EMB-33, EMB-38
  pub record IsCounted (pass : KnownNet K) (counted : KnownCounts) : Type 0 where
    pub net : counted.net ≡ pass.net
    pub filtered : counted.filtered ≡ pass.filtered
    pub calls : (vl : LinkNo) → number_on vl counted.links ≡ keeping.shows (length (calls_with vl pass.links))
    pub kinds : (vl : LinkNo) (kind : ℕ) → IsKind verdict_kinds kind → count_on vl kind counted.net counted.links ≡ keeping.shows (count_calls kind (calls_with vl pass.links))

-- ---- a call

-- what the pass on the link at this place did; no other pass changes
pub record DoesAt {K : Type 0} (Did : K → K → Type 0) (old : List K) (place : ℕ) (new : List K) : Type 0 where
  pub before : K
  pub after : K
  pub there : slice_get old place ≡ Some before
  pub does : Did before after
  pub only : new ≡ slice_set old place after
