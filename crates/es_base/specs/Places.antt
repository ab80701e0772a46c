-- rule: none (where links and ports stand in the lists of a configuration)
-- The places of links by their numbers: first a directory, which says for each upper octet of a link number its page,
-- from 1 on, or 0 for none; and then the pages, which have an entry for each lower octet.
use Rattle.std.specs.Prelude.{◌≡◌, ℕ, zero, suc, ◌+◌, ◌-◌, ◌*◌, ◌/◌, ◌%◌, ◌<◌, ◌≤◌, min, Bool, false, List, length, map, Option, None, Some, slice_get, slice_index_or}
use Rattle.std.specs.List.{IsDistinct}
use Rattle.es_base.specs.Settings.{Settings}
use Rattle.es_base.specs.Config.{link_number, has_link_number, same_link_number}

-- the page of the link numbers with this upper octet
abbrev pub page_of : List ℕ → ℕ → ℕ
page_of places upper = slice_index_or places upper 0

-- index of a link number's entry, in this page
abbrev pub entry_of : ℕ → ℕ → ℕ
entry_of page vl = 256 * page + vl % 256

-- number of pages
abbrev pub pages_in : List ℕ → ℕ
pages_in places = length places / 256 - 1

-- number of the upper octets below this one that have a page
unfoldable pub pages_below : List ℕ → ℕ → ℕ
pages_below places zero = 0
pages_below places (suc upper) = min 1 (page_of places upper) + pages_below places upper

-- each page is that of one upper octet
pub record ArePages (places : List ℕ) : Type 0 where
  pub whole : length places % 256 ≡ 0
  pub counted : pages_below places 256 ≡ pages_in places
  pub within : (upper : ℕ) → upper < 256 → page_of places upper ≤ pages_in places
  pub apart : (a b : ℕ) → a < 256 → b < 256 → 0 < page_of places a → page_of places a ≡ page_of places b → a ≡ b

-- the place of the link with this number
pub record HasPlace (places : List ℕ) (vl place : ℕ) : Type 0 where
  pub number : vl < 65536
  pub page : 0 < page_of places (vl / 256)
  pub entry : slice_get places (entry_of (page_of places (vl / 256)) vl) ≡ Some place

-- an upper octet has this page, and what had a place has it still
pub record HasPage (old new : List ℕ) (upper page : ℕ) : Type 0 where
  pub pages : ArePages new
  pub is : page ≡ page_of new upper
  pub some : 0 < page
  pub same : (vl place : ℕ) → HasPlace old vl place → HasPlace new vl place

-- each link has its place. What the other entries say doesn't matter: one counts only if the link there has the number
pub record ArePlaces (places : List ℕ) (links : List Settings) : Type 0 where
  pub pages : ArePages places
  pub distinct : IsDistinct same_link_number (map link_number links)
  pub found : (place : ℕ) (link : Settings) → slice_get links place ≡ Some link → HasPlace places (link_number link) place

-- whether the link at a place has this number, if there is one
abbrev pub is_numbered : Option Settings → ℕ → Bool
is_numbered None vl = false
is_numbered (Some link) vl = has_link_number vl link
