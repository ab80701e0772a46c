use Rattle.toml.specs.Parse.{parse_document}
use Rattle.vl_config.specs.Document.{config_in}
use Rattle.vl_config.specs.Place.{fault_place_of}
use Rattle.vl_config.proofs.FaultPlaces.{fault_at_its_place, no_fault_no_place}
use Rattle.vl_config.proofs.laws.each_fault_is_that_of_its_place.Goals as goal

pub returns-clause-fault : goal.returns-clause-fault
unfolding config_in fault_place_of
returns-clause-fault c = λ text fault fails. fault_at_its_place (parse_document text) fault fails

pub returns-clause-none : goal.returns-clause-none
unfolding config_in fault_place_of
returns-clause-none c = λ text config gives. no_fault_no_place (parse_document text) config gives
