-- One more name after the others of the document.
use Rattle.std.proofs.Common.{◌≡◌, ◌∙◌, ap, sym, Bool, true, false, ◌||◌, cond, List, [], ◌∷◌, ◌++◌, refl}
use Rattle.std.specs.List.{list_any}
use Rattle.std.specs.Ordering.{nat_cmp}
use Rattle.std.specs.Str.{bytes_eq}
use Rattle.std.specs.BTreeSet.{Updates}
use Rattle.std.specs.Cmp.Lexicographic.{slice_cmp, nat_list_eq_equiv}
use Rattle.std.proofs.lemmas.List.Folds.{list_any-append}
use Rattle.std.proofs.lemmas.Map.Text.{is_eq-slice_cmp}
use Rattle.arrayvec.specs.ArrayString.{ArrayString}
use Rattle.es_base.specs.Port.{Port}
use Rattle.es_base.specs.Settings.{Settings}
use Rattle.es_base.specs.Config.{has_name, ports_in}
use Rattle.vl_config.specs.declared.names.Names.{Names}
use Rattle.vl_config.specs.Names.{is_among_names, AreNamesOf}
use Rattle.vl_config.proofs.Links.{ports_push}

either : (this others : Bool) → cond this true others ≡ (others || (this || false))
either true true = refl
either true false = refl
either false true = refl
either false false = refl

pub one_more_name : (names more : Names) (key : ArrayString) (ports : List Port) (port : Port)
    → Updates (λ a b. slice_cmp nat_cmp a.bytes b.bytes) names.names more.names key true → key.bytes ≡ port.name
    → AreNamesOf names ports → AreNamesOf more (ports ++ port ∷ [])
one_more_name names more key ports port updates spelled known name =
    updates.0 (record { bytes = name; spare = [] })
    ∙ ap (λ this. cond this true (is_among_names names name))
    (is_eq-slice_cmp key.bytes name ∙ ap (λ text. bytes_eq text name) spelled ∙ nat_list_eq_equiv.symm port.name name)
    ∙ ap (λ others. cond (has_name name port) true others) (known name)
    ∙ either (has_name name port) (list_any (has_name name) ports)
    ∙ sym (list_any-append (has_name name) ports (port ∷ []))

-- the names of the ports of the links, after one more
pub of_one_more_link : (names : Names) (links : List Settings) (link : Settings) → AreNamesOf names (ports_in links ++ link.ports) → AreNamesOf names (ports_in (links ++ link ∷ []))
of_one_more_link names links link known = rw (ports_push links link) known
