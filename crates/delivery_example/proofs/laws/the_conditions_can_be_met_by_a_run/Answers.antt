use Rattle.delivery_example.proofs.Example.{are_frames, bring, bring_if_b_is_first, delivered_once, is_run, is_run_if_b_is_first}
use Rattle.delivery_example.proofs.laws.the_conditions_can_be_met_by_a_run.Goals as goal

pub returns : goal.returns
returns c = record {
  run = is_run;
  frames = are_frames;
  brought = bring _ _ _;
  delivered = delivered_once;
  run_if_b_is_first = is_run_if_b_is_first;
  brought_if_b_is_first = bring_if_b_is_first _ _ _;
}
