-- One more of the rows that are read one after another, or the first in which there is a fault.
use Rattle.std.proofs.Common.{◌≡◌, ℕ, ◌+◌, ◌<◌, List, [], ◌∷◌, ◌++◌, length, get_or, drop, Option, Some, Result, Ok, Err, ◌≤◌, refl}
use Rattle.std.proofs.lemmas.List.{drop_all, drop_more}
use Rattle.es_base.specs.Settings.{Settings}
use Rattle.vl_config.specs.Rows.{if_none_left, link_of_row, links_of_rows, read_each}
use Rattle.vl_config.specs.declared.fault.ConfigFault.{ConfigFault}
use Rattle.vl_config.specs.declared.rows.LinkRow.{LinkRow}
use Rattle.vl_config.specs.declared.rows.PortRow.{PortRow}

-- the row at place i
pub one_more_row : {X Y E : Type 0} (read : List Y → X → Result Y E) (done : List Y) (rows : List X) (i : ℕ) (other : X) (one : Y) → i < length rows
    → read done (get_or rows i other) ≡ Ok one → read_each read done (drop i rows) ≡ read_each read (done ++ one ∷ []) (drop (i + 1) rows)
one_more_row read done rows i other one within gives = rw (drop_more rows i other within, gives) refl

-- what is read of the rest, if the row at place i has a fault
pub first_row_fault : {X Y E : Type 0} (read : List Y → X → Result Y E) (done : List Y) (rows : List X) (i : ℕ) (other : X) (fault : E) → i < length rows
    → read done (get_or rows i other) ≡ Err fault → read_each read done (drop i rows) ≡ Err (fault, length done)
first_row_fault read done rows i other fault within fails = rw (drop_more rows i other within, fails) refl

-- the link's row at place i has no fault
pub one_more_link : (links : List Settings) (rest : List PortRow) (rows : List LinkRow) (i : ℕ) (other : LinkRow) (link : Settings) → i < length rows
    → link_of_row links rest (get_or rows i other) ≡ Ok link
    → links_of_rows links rest (drop i rows) ≡ links_of_rows (links ++ link ∷ []) (drop (get_or rows i other).ports rest) (drop (i + 1) rows)
one_more_link links rest rows i other link within gives = rw (drop_more rows i other within, gives) refl

-- it has one
pub link_fault : (links : List Settings) (rest : List PortRow) (rows : List LinkRow) (i : ℕ) (other : LinkRow) (fault : ConfigFault × Option ℕ) → i < length rows
    → link_of_row links rest (get_or rows i other) ≡ Err fault
    → links_of_rows links rest (drop i rows) ≡ Err (record { fault = fault.0; place = record { link = Some (length links); port = fault.1 } })
link_fault links rest rows i other fault within fails = rw (drop_more rows i other within, fails) refl

-- no row is left
pub no_more_links : (links : List Settings) (rest : List PortRow) (rows : List LinkRow) (i : ℕ) → length rows ≤ i → links_of_rows links rest (drop i rows) ≡ if_none_left rest links
no_more_links links rest rows i none = rw (drop_all i rows none) refl
