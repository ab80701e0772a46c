-- The two traces of the example.
use Rattle.std.specs.Prelude.{List, [], ◌∷◌}
use Rattle.hex_trace.specs.Frames.{TimedFrame, timed_frame}
use Rattle.delivery_example.specs.Example.{first_on_b, first_on_a, first_time_on_b, second_on_b, second_time_on_b, time_on_a}

abbrev pub trace_of_a : List TimedFrame
trace_of_a = timed_frame time_on_a first_on_a ∷ []

abbrev pub trace_of_b : List TimedFrame
trace_of_b = timed_frame first_time_on_b first_on_b ∷ timed_frame second_time_on_b second_on_b ∷ []
