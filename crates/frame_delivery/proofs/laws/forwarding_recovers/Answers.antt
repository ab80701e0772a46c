use Rattle.std.proofs.Common.{◌∙◌, ap}
use Rattle.frame_delivery.specs.Once.{has_come}
use Rattle.frame_delivery.specs.Since.{passing_since}
use Rattle.frame_delivery.proofs.Firsts.{all_have_first}
use Rattle.frame_delivery.proofs.Since.{first_if, firsts_since}
use Rattle.frame_delivery.proofs.laws.forwarding_recovers.Goals as goal

pub returns : goal.returns
returns c = record {
  forwarded = firsts_since;
  each = λ settings numbering timing old copies index pass.
      ap (has_come index) (firsts_since settings numbering timing old copies pass).0 ∙ all_have_first index (passing_since settings old copies);
  first = first_if;
}
