-- A buffer without the places before and after all octets that came.
use Rattle.std.specs.Prelude.{ℕ, ◌+◌, ◌-◌, Bool, true, false, List, [], ◌∷◌, ◌++◌, length, replicate, Option}
use Rattle.es_base.specs.Limits.{longest_joined}
use Rattle.ip_reassembly.specs.Held.{Held}

-- the octets that came, by their marks, and zeros where none came
abbrev pub octets_marked : List ℕ → List Bool → List ℕ
octets_marked [] marks = []
octets_marked (octet ∷ octets) [] = []
octets_marked (octet ∷ octets) (true ∷ marks) = octet ∷ octets_marked octets marks
octets_marked (octet ∷ octets) (false ∷ marks) = 0 ∷ octets_marked octets marks

-- what is held, of all octets and marks of a buffer
abbrev pub held_of : Option ℕ → List ℕ → List Bool → Held
held_of total octets marks = record { total = total; octets = octets_marked octets marks; marks = marks }

-- these from a least place on, with others before and after them up to the longest datagram
abbrev pub placed_among : {T : Type 0} → T → ℕ → List T → List T
placed_among other least xs = replicate least other ++ (xs ++ replicate (longest_joined - (least + length xs)) other)

-- what is held, of the octets and marks from a least place on
abbrev pub held_from : Option ℕ → ℕ → List ℕ → List Bool → Held
held_from total least octets marks = record { total = total; octets = placed_among 0 least (octets_marked octets marks); marks = placed_among false least marks }
