-- Whether a message of a sampling port is fresh (ARINC 664 Part 7, sampling service; the limit is own).
use Rattle.std.specs.Prelude.{ℕ, ◌-◌, List, nat_le, codes, if◌then◌else◌}
use Rattle.es_base.specs.declared.validity.Freshness.{Freshness}
use Rattle.es_base.specs.declared.validity.Freshness.TheVariants.{Fresh, Stale}

-- the time from t to now, 0 if now is earlier
abbrev pub elapsed : ℕ → ℕ → ℕ
elapsed now t = now - t

-- fresh as long as its age is at most the refresh period; the age is 0 if now is earlier; all are in
-- microseconds
-- rule: PORT-14, PORT-15, EMB-8, EMB-37, REP-5
abbrev pub freshness : ℕ → ℕ → ℕ → Freshness
freshness now time refresh = if nat_le (elapsed now time) refresh then Fresh else Stale

-- the word by which it is printed (own)
abbrev pub freshness_word : Freshness → List ℕ
freshness_word Fresh = codes "fresh"
freshness_word Stale = codes "stale"
