-- The ends of ports by the names of the ports, for both kinds of receivers.
use Rattle.std.specs.Prelude.{◌≡◌, ◌<◌, ℕ, length, Bool, List, Option, None, Some, position, slice_set, is_some, slice_get, option_and_then, option_map}
use Rattle.std.specs.List.{remove}
use Rattle.std.specs.Str.{bytes_eq}

-- Where the numbers and the names stand: a link's number, the ends of its ports, and the name of an end's port.
pub record Directory (L E : Type 0) : Type 0 where
  pub vl_of : L → ℕ
  pub ends_of : L → List E
  pub name_of : E → List ℕ

module _ {L E : Type 0} (directory : Directory L E) where
  abbrev pub is_named : List ℕ → E → Bool
  is_named name end = bytes_eq (directory.name_of end) name

  -- ---- among the ends of one link

  -- the place of the end of the port with this name
  abbrev pub place_in : List ℕ → List E → Option ℕ
  place_in name ends = position (is_named name) ends

  abbrev pub without_at : List E → Option ℕ → List E
  without_at ends None = ends
  without_at ends (Some place) = remove ends place

  abbrev pub end_in : List ℕ → List E → Option E
  end_in name ends = option_and_then (slice_get ends) (place_in name ends)

  -- the ends without that of the port with this name
  abbrev pub without : List ℕ → List E → List E
  without name ends = without_at ends (place_in name ends)

  -- ---- among those of all links

  abbrev pub has_end : List ℕ → L → Bool
  has_end name link = is_some (place_in name (directory.ends_of link))

  -- the place of the link that has the end of the port with this name
  abbrev pub link_with : List ℕ → List L → Option ℕ
  link_with name links = position (has_end name) links

  -- the place of that link, and that of the port's end among its ends
  -- rule: EMB-3
  abbrev pub place_named : List ℕ → List L → Option (ℕ × ℕ)
  place_named name links =
      option_and_then (λ place. option_and_then (λ link. option_map (λ at. (place, at)) (place_in name (directory.ends_of link))) (slice_get links place)) (link_with name links)

  -- the end of the port with this name
  -- rule: EMB-34
  abbrev pub end_named : List ℕ → List L → Option E
  end_named name links = option_and_then (λ place. option_and_then (λ link. end_in name (directory.ends_of link)) (slice_get links place)) (link_with name links)

  -- there is an end at these places
  abbrev pub HasEndAt : List L → (ℕ × ℕ) → Type 0
  HasEndAt links places = (link : L) × (slice_get links places.0 ≡ Some link) × (places.1 < length (directory.ends_of link))

  -- ---- an end is moved out

  -- what is left of a link's ends after the end of the port with this name was moved out
  abbrev pub Loses : List ℕ → L → L → Type 0
  Loses name old new = (directory.vl_of new ≡ directory.vl_of old) × (directory.ends_of new ≡ without name (directory.ends_of old))

  -- what is left of those of all links, the one at this place having had it
  abbrev pub LosesAt : List ℕ → Option ℕ → List L → List L → Type 0
  LosesAt name None old new = new ≡ old
  LosesAt name (Some place) old new = (link rest : L) × (slice_get old place ≡ Some link) × Loses name link rest × (new ≡ slice_set old place rest)

  -- what is left of all ends
  -- rule: EMB-34
  abbrev pub LosesEnd : List ℕ → List L → List L → Type 0
  LosesEnd name old new = LosesAt name (link_with name old) old new
