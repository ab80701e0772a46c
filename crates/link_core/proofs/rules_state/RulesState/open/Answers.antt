use Rattle.link_core.proofs.Ports.{all_same}
use Rattle.link_core.proofs.rules_state.RulesState.open.Goals as goal

pub returns : goal.returns
returns c = record {
  keeps = record {
    managed = rw c.skew_max.ensures at c.opening.ensures;
    waiting = rw c.reassembly.ensures at c.in_ok-reassembly.ensures.pieces;
    numbered = λ port. all_same 0 32 port;
  };
  tells = c.in_ok-reassembly.ensures.given_up;
}
