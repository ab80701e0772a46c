use Rattle.std.proofs.Common.{◌++◌, reverse, sym}
use Rattle.link_rules.proofs.Same.{alike, left_joins, runs_alike, same_verdict}
use Rattle.link_receiver.proofs.laws.whatever_left_the_same_may_have_stood_before.Goals as goal

pub returns : goal.returns
returns c = λ link two same run_two run.
    let later = reverse link.history in
    let joined = left_joins link.settings link.before two later same in
    record {
      run = runs_alike link.settings link.before two later same run_two run;
      left = sym joined;
      verdicts = λ a room. sym (same_verdict link.settings (later ++ link.before) (later ++ two) joined a room);
      since = λ port. sym (alike link.settings link.before two later port same);
    }
