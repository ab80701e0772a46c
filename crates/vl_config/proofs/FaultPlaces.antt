-- The first fault, and its place.
use Rattle.std.proofs.Common.{◌≡◌, ◌∙◌, ap, sym, subst, refl, ℕ, List, [], ◌∷◌, ◌++◌, length, append_assoc, arith, Option, None, Some, Result, Ok, Err}
use Rattle.std.specs.List.{slice_get}
use Rattle.std.proofs.Math.Seq.{take-append_seam}
use Rattle.toml.specs.Data.{Members}
use Rattle.es_base.specs.Returns.{◌>>=◌}
use Rattle.es_base.specs.Config.{Configuration, ports_in}
use Rattle.es_base.specs.Port.{Port}
use Rattle.es_base.specs.Settings.{Settings}
use Rattle.vl_config.specs.declared.fault.ConfigFault.{ConfigFault}
use Rattle.vl_config.specs.declared.fault.Key.TheVariants as keys
use Rattle.vl_config.specs.declared.document.place.FaultPlace.{FaultPlace}
use Rattle.vl_config.specs.Collected.{collected}
use Rattle.vl_config.specs.Document.{config_if, constant_if, link_tables}
use Rattle.vl_config.specs.Link.{Head, head_from, link_from, link_of_head, links_from, ports_from}
use Rattle.vl_config.specs.Place.{link_place, nowhere, on_read, place_from, place_if, port_place, port_place_if}
use Rattle.vl_config.specs.PlaceLaws.{IsFaultAtLink, IsFaultAtPort, IsFirstFault, link_tables_if}
use Rattle.vl_config.specs.Port.{port_from}
use Rattle.vl_config.specs.Table.{value_at}
use Rattle.vl_config.proofs.Links.{count_push}

-- ---- steps of reading

-- what a step gives that is followed by others
after_step : {A B C E : Type 0} (step : Result A E) (f : A → Result B E) (g : A → Result C E) (all : B) (other : Result C E) → (step >>= f) ≡ Ok all → ((one : A) → f one ≡ Ok all → g one ≡ other) → (step >>= g) ≡ other
after_step (Ok one) f g all other gives next = next one gives
after_step (Err fault) f g all other gives next = cc

-- what makes a whole of what was read has no fault, so it came before
fault_before : {A B E : Type 0} (step : Result A E) (whole : A → B) (fault : E) → (step >>= λ one. Ok (whole one)) ≡ Err fault → step ≡ Err fault
fault_before (Ok one) whole fault fails = cc
fault_before (Err found) whole fault fails = cc

-- where a fault stands: here, or after a step without one
first_or_later : {A B P : Type 0} (Is : P → Type 0) (step : Result A ConfigFault) (rest : A → Result B ConfigFault) (next : A → P) (here : P) (fault : ConfigFault) → (step >>= rest) ≡ Err fault
    → ((one : A) → step ≡ Ok one → rest one ≡ Err fault → Is (next one)) → (step ≡ Err fault → Is here) → Is (on_read step next here)
first_or_later Is (Ok one) rest next here fault fails later first = later one refl fails
first_or_later Is (Err found) rest next here fault fails later first = first cc

-- it stands nowhere
if_none : {A B P : Type 0} (Is : P → Type 0) (step : Result A ConfigFault) (rest : A → Result B ConfigFault) (next : A → P) (here : P) (all : B) → (step >>= rest) ≡ Ok all
    → ((one : A) → rest one ≡ Ok all → Is (next one)) → Is (on_read step next here)
if_none Is (Ok one) rest next here all gives later = later one gives
if_none Is (Err fault) rest next here all gives later = cc

-- ---- items that are read one after another

-- these, after those that were seen
collected_after : {X Y E : Type 0} (read : List Y → X → Result Y E) (begun : List Y) (seen items : List X) (done : List Y) → collected read begun seen ≡ Ok done → collected read begun (seen ++ items) ≡ collected read done items
collected_after read begun [] items done all =
    let same : begun ≡ done = cc in
    rw same
collected_after read begun (item ∷ seen) items done all =
    after_step (read begun item) (λ one. collected read (begun ++ one ∷ []) seen) (λ one. collected read (begun ++ one ∷ []) (seen ++ items)) done _ all
    (λ one rest. collected_after read (begun ++ one ∷ []) seen items done rest)

one_more_seen : {X Y E : Type 0} (read : List Y → X → Result Y E) (seen : List X) (done : List Y) (item : X) (one : Y) → collected read [] seen ≡ Ok done → read done item ≡ Ok one → collected read [] (seen ++ item ∷ []) ≡ Ok (done ++ one ∷ [])
one_more_seen read seen done item one all gives = collected_after read [] seen (item ∷ []) done all ∙ rw gives refl

as_many : {X Y : Type 0} (seen : List X) (done : List Y) (item : X) (one : Y) → length done ≡ length seen → length (done ++ one ∷ []) ≡ length (seen ++ item ∷ [])
as_many seen done item one same = omega (arith, count_push done one, count_push seen item, same)

slice_get_seam : {X : Type 0} (seen : List X) (item : X) (items : List X) → slice_get (seen ++ item ∷ items) (length seen) ≡ Some item
slice_get_seam [] item items = refl
slice_get_seam (first ∷ seen) item items = slice_get_seam seen item items

-- the next has a fault
abbrev first_fault_here : {X Y : Type 0} (read : List Y → X → Result Y ConfigFault) (seen : List X) (done : List Y) (item : X) (items : List X) (fault : ConfigFault) → collected read [] seen ≡ Ok done → length done ≡ length seen
    → read done item ≡ Err fault → IsFirstFault read (seen ++ item ∷ items) (length done) fault
first_fault_here read seen done item items fault all same fails = record {
  done = done;
  before = rw (same, take-append_seam seen (item ∷ items)) all;
  item = item;
  there = rw same (slice_get_seam seen item items);
  fails = fails;
}

-- ---- at a port

abbrev HasPortFault : List Port → List Members → Option ℕ → ConfigFault → Type 0
HasPortFault earlier tables place fault = (m : ℕ) × (place ≡ Some m) × IsFirstFault (port_from earlier) tables m fault

first_port : (earlier : List Port) (seen : List Members) (ports : List Port) (tables : List Members) (fault : ConfigFault) → collected (port_from earlier) [] seen ≡ Ok ports → length ports ≡ length seen
    → collected (port_from earlier) ports tables ≡ Err fault → HasPortFault earlier (seen ++ tables) (port_place earlier ports tables) fault
first_port earlier seen ports [] fault all same fails = cc
first_port earlier seen ports (table ∷ tables) fault all same fails =
    first_or_later (λ place. HasPortFault earlier (seen ++ table ∷ tables) place fault) (port_from earlier ports table) (λ port. collected (port_from earlier) (ports ++ port ∷ []) tables)
    (λ port. port_place earlier (ports ++ port ∷ []) tables) (Some (length ports)) fault fails
    (λ port gives later. subst (λ (items : List Members). HasPortFault earlier items (port_place earlier (ports ++ port ∷ []) tables) fault) (append_assoc seen (table ∷ []) tables)
    (first_port earlier (seen ++ table ∷ []) (ports ++ port ∷ []) tables fault (one_more_seen (port_from earlier) seen ports table port all gives) (as_many seen ports table port same) later))
    (λ here. (length ports, refl, first_fault_here (port_from earlier) seen ports table tables fault all same here))

-- the place of a link's fault among its ports
place_in_link : (links : List Settings) (table : Members) (fault : ConfigFault) → link_from links table ≡ Err fault → IsFaultAtPort links table (port_place_if (ports_in links) (head_from links table)) fault
place_in_link links table fault fails = go (head_from links table) refl fails
  where
    go : (head : Result Head ConfigFault) → head_from links table ≡ head → (head >>= λ head. ports_from (ports_in links) head.tables >>= λ ports. Ok (link_of_head head ports)) ≡ Err fault
        → IsFaultAtPort links table (port_place_if (ports_in links) head) fault
    go (Ok head) gives fails =
        let found = first_port (ports_in links) [] [] head.tables fault refl refl (fault_before (ports_from (ports_in links) head.tables) (link_of_head head) fault fails) in
        subst (λ (place : Option ℕ). IsFaultAtPort links table place fault) (sym found.1) (head, gives, found.2)
    go (Err found) gives fails =
        let is : found ≡ fault = cc in
        gives ∙ ap Err is

-- ---- at a link

abbrev HasLinkFault : List Members → FaultPlace → ConfigFault → Type 0
HasLinkFault tables place fault = IsFaultAtLink (Ok tables) place.link place.port fault

first_link : (seen : List Members) (links : List Settings) (tables : List Members) (fault : ConfigFault) → collected link_from [] seen ≡ Ok links → length links ≡ length seen
    → collected link_from links tables ≡ Err fault → HasLinkFault (seen ++ tables) (link_place links tables) fault
first_link seen links [] fault all same fails = cc
first_link seen links (table ∷ tables) fault all same fails =
    first_or_later (λ place. HasLinkFault (seen ++ table ∷ tables) place fault) (link_from links table) (λ link. collected link_from (links ++ link ∷ []) tables)
    (λ link. link_place (links ++ link ∷ []) tables) (record { link = Some (length links); port = port_place_if (ports_in links) (head_from links table) }) fault fails
    (λ link gives later. subst (λ (items : List Members). HasLinkFault items (link_place (links ++ link ∷ []) tables) fault) (append_assoc seen (table ∷ []) tables)
    (first_link (seen ++ table ∷ []) (links ++ link ∷ []) tables fault (one_more_seen link_from seen links table link all gives) (as_many seen links table link same) later))
    (λ here. (seen ++ table ∷ tables, first_fault_here link_from seen links table tables fault all same here, refl, place_in_link links table fault here))

no_link : (links : List Settings) (tables : List Members) (all : List Settings) → collected link_from links tables ≡ Ok all → link_place links tables ≡ nowhere
no_link links [] all gives = refl
no_link links (table ∷ tables) all gives =
    if_none (λ place. place ≡ nowhere) (link_from links table) (λ link. collected link_from (links ++ link ∷ []) tables) (λ link. link_place (links ++ link ∷ []) tables) _ all gives
    (λ link. no_link (links ++ link ∷ []) tables all)

-- ---- in a document

abbrev whole : List ℕ → List Settings → Configuration
whole constant links = record { constant = constant; links = links }

pub fault_at_its_place : (document : Option Members) (fault : ConfigFault) → config_if document ≡ Err fault → IsFaultAtLink (link_tables_if document) (place_from document).link (place_from document).port fault
fault_at_its_place None fault fails = (cc, refl)
fault_at_its_place (Some document) fault fails = go (constant_if (value_at keys.Constant document)) (link_tables document) fails
  where
    go : (constant : Result (List ℕ) ConfigFault) (tables : Result (List Members) ConfigFault) → (constant >>= λ constant. tables >>= λ tables. links_from tables >>= λ links. Ok (whole constant links)) ≡ Err fault
        → IsFaultAtLink (constant >>= λ _. tables) (place_if (constant >>= λ _. tables)).link (place_if (constant >>= λ _. tables)).port fault
    go (Ok constant) (Ok tables) fails = first_link [] [] tables fault refl refl (fault_before (links_from tables) (whole constant) fault fails)
    go (Ok constant) (Err found) fails = (cc, refl)
    go (Err found) tables fails = (cc, refl)

pub no_fault_no_place : (document : Option Members) (config : Configuration) → config_if document ≡ Ok config → place_from document ≡ nowhere
no_fault_no_place None config gives = refl
no_fault_no_place (Some document) config gives = go (constant_if (value_at keys.Constant document)) (link_tables document) gives
  where
    of_links : (constant : List ℕ) (tables : List Members) (links : Result (List Settings) ConfigFault) → links_from tables ≡ links → (links >>= λ links. Ok (whole constant links)) ≡ Ok config
        → link_place [] tables ≡ nowhere
    of_links constant tables (Ok links) is gives = no_link [] tables links is
    of_links constant tables (Err fault) is gives = cc

    go : (constant : Result (List ℕ) ConfigFault) (tables : Result (List Members) ConfigFault) → (constant >>= λ constant. tables >>= λ tables. links_from tables >>= λ links. Ok (whole constant links)) ≡ Ok config
        → place_if (constant >>= λ _. tables) ≡ nowhere
    go (Ok constant) (Ok tables) gives = of_links constant tables (links_from tables) refl gives
    go (Ok constant) (Err fault) gives = refl
    go (Err fault) tables gives = refl
