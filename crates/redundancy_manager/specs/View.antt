-- What a redundancy manager keeps, by its fields.
use Rattle.std.specs.Prelude.{Option, None, Some}
use Rattle.redundancy_manager.specs.Kept as kept
use Rattle.redundancy_manager.specs.declared.Summary.{Summary}

abbrev pub summary_seen : Option Summary → Option kept.Summary
summary_seen None = None
summary_seen (Some summary) = Some (record { latest_number = summary.latest_number; greatest_time = summary.greatest_time })
